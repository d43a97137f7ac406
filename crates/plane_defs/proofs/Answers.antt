-- What possible answers of a script lead to, and answers that the end decides.
use Rattle.std.proofs.Common.{◌≡◌, ℕ, zero, suc, ◌+◌, ◌≤◌, ◌<◌, Bool, true, false, List, [], ◌∷◌, refl, sym, ◌∙◌, subst, arith}
use Rattle.item_defs.specs.Items.{Item, IsSaid}
use Rattle.item_defs.specs.Readings.{IsSound}
use Rattle.item_defs.specs.Scripts.{Script, done, ask, then_ask, in_turn, around}
use Rattle.item_defs.specs.Following.{Follows}
use Rattle.item_defs.specs.Completing.{IsPossible, ArePossible, Goes}

-- possible answers lead to ends of this kind; and if `all`, each question has a possible answer, and no code of it is a prefix of another
abbrev pub May : {G A : Type 0} → (all : Bool) → Script G A → (A → Type 0) → Type 0
May all (done a) P = P a
May all (ask given form more) P =
    (all ≡ true → IsSound form.shape × ((n : ℕ) × IsSaid form.shape n × IsPossible (form.refusal n))) ×
    ((n : ℕ) → IsSaid form.shape n → IsPossible (form.refusal n) → May all (more n) P)

pub never : {A : Type 0} → false ≡ true → A
never e = absurd cc

pub goes_of : {G A : Type 0} (P : A → Type 0) (s : Script G A) → May true s P → Goes s P
goes_of P (done a) p = p
goes_of P (ask g form more) p = let q = p.0 refl in (q.0, q.1, λ n said good. goes_of P (more n) (p.1 n said good))

module _ (all : Bool) where
  pub may_then : {G A B : Type 0} (P : A → Type 0) (Q : B → Type 0) (s : Script G A) (next : A → Script G B) → May all s P →
      ((a : A) → P a → May all (next a) Q) → May all (then_ask s next) Q
  may_then P Q (done a) next p more = more a p
  may_then P Q (ask g form now) next p more = (p.0, λ n said good. may_then P Q (now n) next (p.1 n said good) more)

  pub may_in_turn : {S : Type 0} (P : ℕ → S → Type 0) (item : ℕ → S → Script S S) (j n : ℕ) →
      ((i : ℕ) (s : S) → j ≤ i → i < j + n → P i s → May all (item i s) (P (suc i))) → (s : S) → P j s → May all (in_turn item j n s) (P (j + n))
  may_in_turn P item j zero each s p = let e : j ≡ j + zero = omega arith in subst (λ i. P i s) e p
  may_in_turn P item j (suc n) each s p =
      let e : suc j + n ≡ j + suc n = omega arith in
      subst (λ i. May all (then_ask (item j s) (in_turn item (suc j) n)) (P i)) e
      (may_then (P (suc j)) (P (suc j + n)) (item j s) (in_turn item (suc j) n) (each j s (omega arith) (omega arith) p)
      (λ t q. may_in_turn P item (suc j) n (λ i u low high. each i u (omega (arith, low)) (omega (arith, high))) t q))

  -- possible items lead to such an end
  pub may_end : {G A : Type 0} (P : A → Type 0) (s : Script G A) → May all s P → (items : List Item) (a : A) → ArePossible items → Follows s items a → P a
  may_end P (done b) p [] a are f = subst P f p
  may_end P (done b) p (i ∷ is) a are f = absurd f
  may_end P (ask g form next) p [] a are f = absurd f
  may_end P (ask g form next) p (i ∷ is) a are f =
      let said : IsSaid form.shape i.said = subst (λ x. IsSaid x.shape i.said) (sym f.0) are.0.0 in
      let good : IsPossible (form.refusal i.said) = subst (λ x. IsPossible (x.refusal i.said)) (sym f.0) are.0.1 in
      may_end P (next i.said) (p.1 i.said said good) is a are.1 f.1

  pub may_weaker : {G A : Type 0} (P Q : A → Type 0) (s : Script G A) → ((a : A) → P a → Q a) → May all s P → May all s Q
  may_weaker P Q (done a) keeps p = keeps a p
  may_weaker P Q (ask g form now) keeps p = (p.0, λ n said good. may_weaker P Q (now n) keeps (p.1 n said good))

  pub may_around : {S T : Type 0} (P : S → Type 0) (Q : T → Type 0) (put : S → T) → ((s : S) → P s → Q (put s)) → (s : Script S S) → May all s P →
      May all (around put s) Q
  may_around P Q put keeps (done a) p = keeps a p
  may_around P Q put keeps (ask g form more) p = (p.0, λ n said good. may_around P Q put keeps (more n) (p.1 n said good))

  pub may_both : {G A : Type 0} (P Q : A → Type 0) (s : Script G A) → May all s P → May all s Q → May all s (λ a. P a × Q a)
  may_both P Q (done a) p q = (p, q)
  may_both P Q (ask g form now) p q = (p.0, λ n said good. may_both P Q (now n) (p.1 n said good) (q.1 n said good))

-- ---- answers that the end decides

-- a possible answer that leads to an end of this kind is this one
abbrev pub Decided : {G A : Type 0} → Script G A → (A → Type 0) → Type 0
Decided (done a) R = Unit {0}
Decided (ask given form more) R =
    (answer : ℕ) × ((n : ℕ) → IsSaid form.shape n → IsPossible (form.refusal n) → May false (more n) (λ a. R a → n ≡ answer) × Decided (more n) R)

pub decided_more : {G A : Type 0} (Q R : A → Type 0) (s : Script G A) → ((a : A) → R a → Q a) → Decided s Q → Decided s R
decided_more Q R (done a) k d = tt
decided_more Q R (ask g form now) k d = (
  d.0,
  λ n said good. (let w = d.1 n said good in
      (may_weaker false (λ a. Q a → n ≡ d.0) (λ a. R a → n ≡ d.0) (now n) (λ a h r. h (k a r)) w.0, decided_more Q R (now n) k w.1)),
)

pub decided_with : {G A : Type 0} (P Q R : A → Type 0) (s : Script G A) → ((a : A) → P a → R a → Q a) → May false s P → Decided s Q → Decided s R
decided_with P Q R (done a) k p d = tt
decided_with P Q R (ask g form now) k p d = (
  d.0,
  λ n said good. (let w = d.1 n said good in (
    may_weaker false (λ a. P a × (Q a → n ≡ d.0)) (λ a. R a → n ≡ d.0) (now n) (λ a z r. z.1 (k a z.0 r))
        (may_both false P (λ a. Q a → n ≡ d.0) (now n) (p.1 n said good) w.0),
    decided_with P Q R (now n) k (p.1 n said good) w.1,
  )),
)

pub decided_then : {G A B : Type 0} (P Q : A → Type 0) (R : B → Type 0) (s : Script G A) (next : A → Script G B) → May false s P → Decided s Q →
    ((a : A) → P a → May false (next a) (λ c. R c → Q a) × Decided (next a) R) → Decided (then_ask s next) R
decided_then P Q R (done a) next p d more = (more a p).1
decided_then P Q R (ask g form now) next p d more = (
  d.0,
  λ n said good. (let w = d.1 n said good in (
    may_then false (λ a. P a × (Q a → n ≡ d.0)) (λ c. R c → n ≡ d.0) (now n) next (may_both false P (λ a. Q a → n ≡ d.0) (now n) (p.1 n said good) w.0)
        (λ a z. may_weaker false (λ c. R c → Q a) (λ c. R c → n ≡ d.0) (next a) (λ c h r. z.1 (h r)) (more a z.0).0),
    decided_then P Q R (now n) next (p.1 n said good) w.1 more,
  )),
)

pub decided_around : {S T : Type 0} (R : T → Type 0) (put : S → T) (s : Script S S) → Decided s (λ a. R (put a)) → Decided (around put s) R
decided_around R put (done a) d = tt
decided_around R put (ask g form more) d = (
  d.0,
  λ n said good. (let w = d.1 n said good in
      (may_around false (λ a. R (put a) → n ≡ d.0) (λ c. R c → n ≡ d.0) put (λ a h. h) (more n) w.0, decided_around R put (more n) w.1)),
)

-- things in turn: what is known before each, and what the end says after each
pub decided_in_turn : {S : Type 0} (P R : ℕ → S → Type 0) (item : ℕ → S → Script S S) (j n : ℕ) →
    ((i : ℕ) (s : S) → j ≤ i → i < j + n → P i s → May false (item i s) (λ u. P (suc i) u × (R (suc i) u → R i s)) × Decided (item i s) (R (suc i))) →
    (s : S) → P j s → May false (in_turn item j n s) (λ c. R (j + n) c → R j s) × Decided (in_turn item j n s) (R (j + n))
decided_in_turn P R item j zero each s p = let e : j ≡ j + zero = omega arith in (subst (λ i. R i s → R j s) e (λ r. r), tt)
decided_in_turn P R item j (suc n) each s p =
    let e : suc j + n ≡ j + suc n = omega arith in
    let here = each j s (omega arith) (omega arith) p in
    let rest = decided_in_turn P R item (suc j) n (λ i u low high. each i u (omega (arith, low)) (omega (arith, high))) in
    subst (λ i. May false (then_ask (item j s) (in_turn item (suc j) n)) (λ c. R i c → R j s) × Decided (then_ask (item j s) (in_turn item (suc j) n))
    (R i)) e (
      may_then false (λ u. P (suc j) u × (R (suc j) u → R j s)) (λ c. R (suc j + n) c → R j s) (item j s) (in_turn item (suc j) n) here.0
          (λ u z. may_weaker false (λ c. R (suc j + n) c → R (suc j) u) (λ c. R (suc j + n) c → R j s) (in_turn item (suc j) n u) (λ c h r. z.1 (h r))
          (rest u z.0).0),
      decided_then (λ u. P (suc j) u × (R (suc j) u → R j s)) (R (suc j)) (R (suc j + n)) (item j s) (in_turn item (suc j) n) here.0 here.1
          (λ u z. rest u z.0),
    )

-- so possible items that lead to such ends are the same
pub one_path : {G A : Type 0} (R : A → Type 0) (s : Script G A) → Decided s R → (xs ys : List Item) (a c : A) → ArePossible xs → ArePossible ys →
    Follows s xs a → Follows s ys c → R a → R c → xs ≡ ys
one_path R (done b) d [] [] a c p q f h r w = refl
one_path R (done b) d [] (j ∷ js) a c p q f h r w = absurd h
one_path R (done b) d (i ∷ is) ys a c p q f h r w = absurd f
one_path R (ask g form next) d [] ys a c p q f h r w = absurd f
one_path R (ask g form next) d (i ∷ is) [] a c p q f h r w = absurd h
one_path R (ask g form next) d (i ∷ is) (j ∷ js) a c p q f h r w =
    let first = d.1 i.said (subst (λ x. IsSaid x.shape i.said) (sym f.0) p.0.0) (subst (λ x. IsPossible (x.refusal i.said)) (sym f.0) p.0.1) in
    let other = d.1 j.said (subst (λ x. IsSaid x.shape j.said) (sym h.0) q.0.0) (subst (λ x. IsPossible (x.refusal j.said)) (sym h.0) q.0.1) in
    let same : i.said ≡ j.said = may_end false (λ a. R a → i.said ≡ d.0) (next i.said) first.0 is a p.1 f.1 r ∙
    sym (may_end false (λ a. R a → j.said ≡ d.0) (next j.said) other.0 js c q.1 h.1 w) in
    let rest : is ≡ js = one_path R (next i.said) first.1 is js a c p.1 q.1 f.1 (subst (λ n. Follows (next n) js c) (sym same) h.1) r w in
    (λ k. record { form = (sym f.0 ∙ h.0) k; said = same k } ∷ rest k)
