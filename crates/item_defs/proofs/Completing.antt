-- Scripts that can be completed, one after another; their ends; and the items that answers determine.
use Rattle.std.proofs.Common.{◌≤◌, ◌<◌, ◌≡◌, ℕ, zero, suc, ◌+◌, List, [], ◌∷◌, ◌++◌, Bool, refl, sym, ◌∙◌, subst, Option, Some, None, arith}
use Rattle.item_defs.specs.Items.{Form, Item, IsSaid, Refusal}
use Rattle.item_defs.specs.Readings.{AreItems}
use Rattle.item_defs.specs.Laws.{said_of}
use Rattle.item_defs.specs.Outcomes.{Outcome, whole, first_number}
use Rattle.item_defs.specs.Scripts.{Script, done, ask, then_ask, in_turn, around, beside, unless_named, answered, run}
use Rattle.item_defs.specs.Following.{Follows, Asks, AreSound}
use Rattle.item_defs.specs.Completing.{IsPossible, ArePossible, Goes, Ends, Completed}
use Rattle.item_defs.proofs.FirstNumbers.{first_spelt}

-- ---- completion

none_possible : (r : Option Refusal) → r ≡ None → IsPossible r
none_possible r e = subst IsPossible (sym e) tt

pub are_possible : (items : List Item) → AreItems items → ArePossible items
are_possible [] are = tt
are_possible (i ∷ is) are = ((are.0.1, none_possible (i.form.refusal i.said) are.0.2), are_possible is are.1)

pub both_possible : (xs ys : List Item) → ArePossible xs → ArePossible ys → ArePossible (xs ++ ys)
both_possible [] ys p q = q
both_possible (x ∷ xs) ys p q = (p.0, both_possible xs ys p.1 q)

pub possible_parts : (xs ys : List Item) → ArePossible (xs ++ ys) → ArePossible xs × ArePossible ys
possible_parts [] ys p = (tt, p)
possible_parts (x ∷ xs) ys p = let w = possible_parts xs ys p.1 in ((p.0, w.0), w.1)

module _ {G A : Type 0} (P : A → Type 0) where
  -- some way to the end
  pub on_way : (s : Script G A) → Goes s P → Completed s P []
  on_way (done a) p = record { more = []; end = a; is = p; are = tt; follows = refl }
  on_way (ask g form next) p =
      let n = p.1.0 in
      let w = on_way (next n) (p.2 n p.1.1 p.1.2) in
      record { more = record { form = form; said = n } ∷ w.more; end = w.end; is = w.is; are = ((p.1.1, p.1.2), w.are); follows = (refl, w.follows) }

  -- from each question there is a way to the end
  pub completes : (s : Script G A) → Goes s P → (items : List Item) (form : Form) → ArePossible items → Asks s items form → Completed s P items
  completes (done a) p items form are asks = absurd asks
  completes (ask g fo next) p [] form are asks = on_way (ask g fo next) p
  completes (ask g fo next) p (i ∷ is) form are asks =
      let said : IsSaid fo.shape i.said = subst (λ x. IsSaid x.shape i.said) (sym asks.0) are.0.0 in
      let good : IsPossible (fo.refusal i.said) = subst (λ x. IsPossible (x.refusal i.said)) (sym asks.0) are.0.1 in
      let w = completes (next i.said) (p.2 i.said said good) is form are.1 asks.1 in
      record { more = w.more; end = w.end; is = w.is; are = w.are; follows = (asks.0, w.follows) }

  -- possible items lead to an end of this kind
  pub goes_end : (s : Script G A) → Goes s P → (items : List Item) (a : A) → ArePossible items → Follows s items a → P a
  goes_end (done b) p [] a are f = subst P f p
  goes_end (done b) p (i ∷ is) a are f = absurd f
  goes_end (ask g fo next) p [] a are f = absurd f
  goes_end (ask g fo next) p (i ∷ is) a are f =
      let said : IsSaid fo.shape i.said = subst (λ x. IsSaid x.shape i.said) (sym f.0) are.0.0 in
      let good : IsPossible (fo.refusal i.said) = subst (λ x. IsPossible (x.refusal i.said)) (sym f.0) are.0.1 in
      goes_end (next i.said) (p.2 i.said said good) is a are.1 f.1

module _ {G A : Type 0} (P Q : A → Type 0) (keeps : (a : A) → P a → Q a) where
  pub goes_weaker : (s : Script G A) → Goes s P → Goes s Q
  goes_weaker (done a) p = keeps a p
  goes_weaker (ask g form now) p = (p.0, p.1, λ n said good. goes_weaker (now n) (p.2 n said good))

pub goes_then : {G A B : Type 0} (P : A → Type 0) (Q : B → Type 0) (s : Script G A) (next : A → Script G B) → Goes s P →
    ((a : A) → P a → Goes (next a) Q) → Goes (then_ask s next) Q
goes_then P Q (done a) next p more = more a p
goes_then P Q (ask g form now) next p more = (p.0, p.1, λ n said good. goes_then P Q (now n) next (p.2 n said good) more)

-- things in turn, of which the i-th leads from states of kind i to those of kind i + 1
pub goes_in_turn : {S : Type 0} (P : ℕ → S → Type 0) (item : ℕ → S → Script S S) (j n : ℕ) →
    ((i : ℕ) (s : S) → j ≤ i → i < j + n → P i s → Goes (item i s) (P (suc i))) → (s : S) → P j s → Goes (in_turn item j n s) (P (j + n))
goes_in_turn P item j zero each s p = let e : j ≡ j + zero = omega arith in subst (λ i. P i s) e p
goes_in_turn P item j (suc n) each s p =
    let e : suc j + n ≡ j + suc n = omega arith in
    subst (λ i. Goes (then_ask (item j s) (in_turn item (suc j) n)) (P i)) e
    (goes_then (P (suc j)) (P (suc j + n)) (item j s) (in_turn item (suc j) n) (each j s (omega arith) (omega arith) p)
    (λ t q. goes_in_turn P item (suc j) n (λ i u low high. each i u (omega (arith, low)) (omega (arith, high))) t q))

pub goes_around : {S T : Type 0} (P : S → Type 0) (Q : T → Type 0) (put : S → T) → ((s : S) → P s → Q (put s)) → (s : Script S S) →
    Goes s P → Goes (around put s) Q
goes_around P Q put keeps (done a) p = keeps a p
goes_around P Q put keeps (ask g form more) p = (p.0, p.1, λ n said good. goes_around P Q put keeps (more n) (p.2 n said good))

pub goes_beside : {G H A : Type 0} (P : A → Type 0) (given : H) (s : Script G A) → Goes s P → Goes (beside given s) P
goes_beside P given (done a) p = p
goes_beside P given (ask g form more) p = (p.0, p.1, λ n said good. goes_beside P given (more n) (p.2 n said good))

-- ---- ends that are reached without a refusal

pub ends_then : {G A B : Type 0} (P : A → Type 0) (Q : B → Type 0) (s : Script G A) (next : A → Script G B) → Ends s P →
    ((a : A) → P a → Ends (next a) Q) → Ends (then_ask s next) Q
ends_then P Q (done a) next p more = more a p
ends_then P Q (ask g form now) next p more = λ n said good. ends_then P Q (now n) next (p n said good) more

pub ends_in_turn : {S : Type 0} (P : ℕ → S → Type 0) (item : ℕ → S → Script S S) (j n : ℕ) →
    ((i : ℕ) (s : S) → j ≤ i → i < j + n → P i s → Ends (item i s) (P (suc i))) → (s : S) → P j s → Ends (in_turn item j n s) (P (j + n))
ends_in_turn P item j zero each s p = let e : j ≡ j + zero = omega arith in subst (λ i. P i s) e p
ends_in_turn P item j (suc n) each s p =
    let e : suc j + n ≡ j + suc n = omega arith in
    subst (λ i. Ends (then_ask (item j s) (in_turn item (suc j) n)) (P i)) e
    (ends_then (P (suc j)) (P (suc j + n)) (item j s) (in_turn item (suc j) n) (each j s (omega arith) (omega arith) p)
    (λ t q. ends_in_turn P item (suc j) n (λ i u low high. each i u (omega (arith, low)) (omega (arith, high))) t q))

pub ends_of_goes : {G A : Type 0} (P : A → Type 0) (s : Script G A) → Goes s P → Ends s P
ends_of_goes P (done a) p = p
ends_of_goes P (ask g form more) p = λ n said good. ends_of_goes P (more n) (p.2 n said (none_possible (form.refusal n) good))

pub ends_weaker : {G A : Type 0} (P Q : A → Type 0) → ((a : A) → P a → Q a) → (s : Script G A) → Ends s P → Ends s Q
ends_weaker P Q keeps (done a) p = keeps a p
ends_weaker P Q keeps (ask g form more) p = λ n said good. ends_weaker P Q keeps (more n) (p n said good)

pub ends_both : {G A : Type 0} (P Q : A → Type 0) (s : Script G A) → Ends s P → Ends s Q → Ends s (λ a. P a × Q a)
ends_both P Q (done a) p q = (p, q)
ends_both P Q (ask g form more) p q = λ n said good. ends_both P Q (more n) (p n said good) (q n said good)

pub sound_of_goes : {G A : Type 0} (P : A → Type 0) (s : Script G A) → Goes s P → AreSound s
sound_of_goes P (done a) p = tt
sound_of_goes P (ask g form more) p = (p.0, λ n said good. sound_of_goes P (more n) (p.2 n said (none_possible (form.refusal n) good)))

-- what is read whole is an end
pub end_is : {G A : Type 0} (P : A → Type 0) (s : Script G A) → Ends s P → (bits left : List Bool) (a : A) → run s bits ≡ whole a left → P a
end_is {G} {A} P (done b) p bits left a e = subst P (same_value e) p
  where
    same_value : ◌≡◌ {A = Outcome G A} (whole b bits) (whole a left) → b ≡ a
    same_value e = cc
end_is {G} {A} P (ask g form next) p bits left a e =
    here (first_number form.shape bits) refl e (λ n rest said good. end_is P (next n) (p n said good) rest left a)
  where
    here : (o : Option (ℕ × List Bool)) → first_number form.shape bits ≡ o → answered g form (λ n. run (next n)) o ≡ whole a left →
        ((n : ℕ) (rest : List Bool) → IsSaid form.shape n → form.refusal n ≡ None → run (next n) rest ≡ whole a left → P a) → P a
    here None q e more = absurd cc
    here (Some r) q e more = named (form.refusal r.0) refl e
      where
        named : (name : Option Refusal) → form.refusal r.0 ≡ name → unless_named g name r.1 (run (next r.0) r.1) ≡ whole a left → P a
        named (Some name) f e = absurd cc
        named None f e = more r.0 r.1 (first_spelt form.shape bits r.1 r.0 q).0 f e

-- ---- answers determine items
