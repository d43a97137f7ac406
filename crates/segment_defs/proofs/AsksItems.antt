-- Items that follow a script are asked for, one after another.
use Rattle.std.proofs.Common.{◌≡◌, ◌<◌, ℕ, zero, suc, List, [], ◌∷◌, ◌++◌, length, take, subst, arith, sym, None}
use Rattle.item_defs.specs.Items.{Item, IsSaid}
use Rattle.item_defs.specs.Readings.{AreItems, item_at}
use Rattle.item_defs.specs.Scripts.{Script, done, ask, then_ask, beside}
use Rattle.item_defs.specs.Following.{Follows, Asks}
use Rattle.item_defs.specs.Completing.{Ends}

-- each item is asked for after the ones before it, if none of those is refused
abbrev pub AsksAll : {G A : Type 0} → Script G A → List Item → Type 0
AsksAll s items = (m : ℕ) → m < length items → AreItems (take m items) → Asks s (take m items) (item_at items m).form

module _ {G A B : Type 0} (next : A → Script G B) where
  pub asks_then : (s : Script G A) (xs ys : List Item) (a : A) → Follows s xs a → (AreItems xs → AsksAll (next a) ys) → AsksAll (then_ask s next) (xs ++ ys)
  asks_then (done c) [] ys a f more m lt are = subst (λ x. Asks (next x) (take m ys) (item_at ys m).form) (sym f) (more tt m lt are)
  asks_then (done c) (x ∷ xs) ys a f more m lt are = absurd f
  asks_then (ask g form now) [] ys a f more m lt are = absurd f
  asks_then (ask g form now) (x ∷ xs) ys a f more zero lt are = f.0
  asks_then (ask g form now) (x ∷ xs) ys a f more (suc m) lt are =
      (f.0, asks_then (now x.said) xs ys a f.1 (λ all. more (are.0, all)) m (omega (arith, lt)) are.1)

pub asks_all : {G A : Type 0} (s : Script G A) (xs : List Item) (a : A) → Follows s xs a → AsksAll s xs
asks_all (done c) [] a f m lt are = absurd (omega (arith, lt))
asks_all (done c) (x ∷ xs) a f m lt are = absurd f
asks_all (ask g form now) [] a f m lt are = absurd f
asks_all (ask g form now) (x ∷ xs) a f zero lt are = f.0
asks_all (ask g form now) (x ∷ xs) a f (suc m) lt are = (f.0, asks_all (now x.said) xs a f.1 m (omega (arith, lt)) are.1)

pub follows_beside : {G H A : Type 0} (given : H) (s : Script G A) (items : List Item) (a : A) → Follows s items a → Follows (beside given s) items a
follows_beside given (done b) [] a f = f
follows_beside given (done b) (i ∷ is) a f = absurd f
follows_beside given (ask g form more) [] a f = absurd f
follows_beside given (ask g form more) (i ∷ is) a f = (f.0, follows_beside given (more i.said) is a f.1)

pub beside_follows : {G H A : Type 0} (given : H) (s : Script G A) (items : List Item) (a : A) → Follows (beside given s) items a → Follows s items a
beside_follows given (done b) [] a f = f
beside_follows given (done b) (i ∷ is) a f = absurd f
beside_follows given (ask g form more) [] a f = absurd f
beside_follows given (ask g form more) (i ∷ is) a f = (f.0, beside_follows given (more i.said) is a f.1)

-- items of which none is refused lead to an end of this kind
pub ends_at : {G A : Type 0} (P : A → Type 0) (s : Script G A) → Ends s P → (items : List Item) (a : A) → AreItems items → Follows s items a → P a
ends_at P (done b) p [] a are f = subst P f p
ends_at P (done b) p (i ∷ is) a are f = absurd f
ends_at P (ask g form next) p [] a are f = absurd f
ends_at P (ask g form next) p (i ∷ is) a are f =
    let said : IsSaid form.shape i.said = subst (λ x. IsSaid x.shape i.said) (sym f.0) are.0.1 in
    let good : form.refusal i.said ≡ None = subst (λ x. x.refusal i.said ≡ None) (sym f.0) are.0.2 in
    ends_at P (next i.said) (p i.said said good) is a are.1 f.1

pub items_parts : (xs ys : List Item) → AreItems (xs ++ ys) → AreItems xs × AreItems ys
items_parts [] ys p = (tt, p)
items_parts (x ∷ xs) ys p = let w = items_parts xs ys p.1 in ((p.0, w.0), w.1)
