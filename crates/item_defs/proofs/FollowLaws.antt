-- Items that follow scripts, one after another.
use Rattle.std.proofs.Common.{◌≡◌, ℕ, List, [], ◌∷◌, ◌++◌, refl, ap, sym, ◌∙◌, subst}
use Rattle.item_defs.specs.Items.{Form, Item, IsSaid}
use Rattle.item_defs.specs.Scripts.{Script, done, ask, then_ask, around}
use Rattle.item_defs.specs.Following.{Follows, Asks}
use Rattle.item_defs.specs.Completing.{IsPossible, ArePossible}

-- ---- one question

-- its answer, by which all is given
pub record Asked {A : Type 0} (form : Form) (give : ℕ → A) (items : List Item) (a : A) : Type 0 where
  pub said : ℕ
  pub is : items ≡ record { form = form; said = said } ∷ []
  pub gives : give said ≡ a
  pub says : IsSaid form.shape said
  pub may : IsPossible (form.refusal said)

-- the first answer, and what follows it
pub record AskedFirst {G A : Type 0} (form : Form) (next : ℕ → Script G A) (items : List Item) (a : A) : Type 0 where
  pub said : ℕ
  pub more : List Item
  pub is : items ≡ record { form = form; said = said } ∷ more
  pub says : IsSaid form.shape said
  pub may : IsPossible (form.refusal said)
  pub are : ArePossible more
  pub follows : Follows (next said) more a

pub asked_first : {G A : Type 0} (g : G) (form : Form) (next : ℕ → Script G A) (items : List Item) (a : A) → ArePossible items →
    Follows (ask g form next) items a → AskedFirst form next items a
asked_first g form next [] a are f = absurd f
asked_first g form next (i ∷ is) a are f = record {
  said = i.said;
  more = is;
  is = λ t. record { form = sym f.0 t; said = i.said } ∷ is;
  says = subst (λ x. IsSaid x.shape i.said) (sym f.0) are.0.0;
  may = subst (λ x. IsPossible (x.refusal i.said)) (sym f.0) are.0.1;
  are = are.1;
  follows = f.1;
}

pub asked : {G A : Type 0} (g : G) (form : Form) (give : ℕ → A) (items : List Item) (a : A) → ArePossible items →
    Follows {G = G} (ask g form (λ n. done (give n))) items a → Asked form give items a
asked {G} {A} g form give items a are f =
    let w = asked_first g form (λ n. done (give n)) items a are f in
    let e = no_more w.more (give w.said) w.follows in
    record { said = w.said; is = w.is ∙ ap (λ l. record { form = form; said = w.said } ∷ l) e.0; gives = e.1; says = w.says; may = w.may }
  where
    no_more : (l : List Item) (b : A) → Follows {G = G} (done b) l a → (l ≡ []) × (b ≡ a)
    no_more [] b f = (refl, f)
    no_more (i ∷ is) b f = absurd f

-- ---- one script after another

-- the items of the first script, and those of what follows
pub record Splits {G A B : Type 0} (s : Script G A) (next : A → Script G B) (items : List Item) (b : B) : Type 0 where
  pub first : List Item
  pub rest : List Item
  pub value : A
  pub both : items ≡ first ++ rest
  pub follows : Follows s first value
  pub then : Follows (next value) rest b

module _ {G A B : Type 0} (next : A → Script G B) where
  pub follows_then : (s : Script G A) (xs ys : List Item) (a : A) (b : B) → Follows s xs a → Follows (next a) ys b → Follows (then_ask s next) (xs ++ ys) b
  follows_then (done c) [] ys a b p q = subst (λ x. Follows (next x) ys b) (sym p) q
  follows_then (done c) (x ∷ xs) ys a b p q = absurd p
  follows_then (ask g form more) [] ys a b p q = absurd p
  follows_then (ask g form more) (x ∷ xs) ys a b p q = (p.0, follows_then (more x.said) xs ys a b p.1 q)

  pub follows_split : (s : Script G A) (items : List Item) (b : B) → Follows (then_ask s next) items b → Splits s next items b
  follows_split (done a) items b f = record { first = []; rest = items; value = a; both = refl; follows = refl; then = f }
  follows_split (ask g form more) [] b f = absurd f
  follows_split (ask g form more) (i ∷ is) b f =
      let w = follows_split (more i.said) is b f.1 in
      record { first = i ∷ w.first; rest = w.rest; value = w.value; both = ap (λ l. i ∷ l) w.both; follows = (f.0, w.follows); then = w.then }

module _ {S T : Type 0} (put : S → T) where
  pub follows_around : (s : Script S S) (items : List Item) (a : S) → Follows s items a → Follows (around put s) items (put a)
  follows_around (done b) [] a f = ap put f
  follows_around (done b) (i ∷ is) a f = absurd f
  follows_around (ask g form more) [] a f = absurd f
  follows_around (ask g form more) (i ∷ is) a f = (f.0, follows_around (more i.said) is a f.1)

  -- what follows a part that is put back follows the part
  pub around_follows : (s : Script S S) (items : List Item) (b : T) → Follows (around put s) items b → (a : S) × (put a ≡ b) × Follows s items a
  around_follows (done c) [] b f = (c, f, refl)
  around_follows (done c) (i ∷ is) b f = absurd f
  around_follows (ask g form more) [] b f = absurd f
  around_follows (ask g form more) (i ∷ is) b f = let w = around_follows (more i.said) is b f.1 in (w.0, w.1, (f.0, w.2))

module _ {G A : Type 0} where
  -- an item of a list that follows a script is asked for
  pub asks_at : (s : Script G A) (items : List Item) (i : Item) (more : List Item) (a : A) → Follows s (items ++ i ∷ more) a → Asks s items i.form
  asks_at (done b) [] i more a f = f
  asks_at (done b) (j ∷ js) i more a f = f
  asks_at (ask g form next) [] i more a f = f.0
  asks_at (ask g form next) (j ∷ js) i more a f = (f.0, asks_at (next j.said) js i more a f.1)

  -- after the same items one form is asked for
  pub asks_one : (s : Script G A) (items : List Item) (f h : Form) → Asks s items f → Asks s items h → f ≡ h
  asks_one (done b) items f h p q = absurd p
  asks_one (ask g form next) [] f h p q = sym p ∙ q
  asks_one (ask g form next) (i ∷ is) f h p q = asks_one (next i.said) is f h p.1 q.1
