-- What a script gives and what its ends are, whatever is read without a refusal.
use Rattle.std.proofs.Common.{◌≡◌, ◌≤◌, ◌<◌, ℕ, zero, suc, ◌+◌, Bool, List, refl, subst, arith, Option, Some, None}
use Rattle.item_defs.specs.Items.{Refusal, IsSaid}
use Rattle.item_defs.specs.Outcomes.{Outcome, whole, cut, refused, first_number}
use Rattle.item_defs.specs.Scripts.{Script, done, ask, then_ask, in_turn, around, beside, unless_named, answered, run}
use Rattle.item_defs.specs.Completing.{Ends}
use Rattle.item_defs.proofs.FirstNumbers.{first_spelt}

-- all that is given is of one kind, and all ends of another
abbrev pub Yields : {G A : Type 0} → (G → Type 0) → (A → Type 0) → Script G A → Type 0
Yields P Q (done a) = Q a
Yields P Q (ask given form more) = P given × ((n : ℕ) → IsSaid form.shape n → form.refusal n ≡ None → Yields P Q (more n))

module _ {G : Type 0} (P : G → Type 0) where
  pub yields_then : {A B : Type 0} (Q : A → Type 0) (R : B → Type 0) (s : Script G A) (next : A → Script G B) → Yields P Q s →
      ((a : A) → Q a → Yields P R (next a)) → Yields P R (then_ask s next)
  yields_then Q R (done a) next k h = h a k
  yields_then Q R (ask given form more) next k h = (k.0, λ n said good. yields_then Q R (more n) next (k.1 n said good) h)

  pub yields_weaker : {A : Type 0} (Q R : A → Type 0) → ((a : A) → Q a → R a) → (s : Script G A) → Yields P Q s → Yields P R s
  yields_weaker Q R keeps (done a) k = keeps a k
  yields_weaker Q R keeps (ask given form more) k = (k.0, λ n said good. yields_weaker Q R keeps (more n) (k.1 n said good))

  -- things in turn, of which the i-th leads from states of kind i to those of kind i + 1
  pub yields_turn : (Q : ℕ → G → Type 0) (item : ℕ → G → Script G G) (j n : ℕ) →
      ((i : ℕ) (s : G) → j ≤ i → i < j + n → Q i s → Yields P (Q (suc i)) (item i s)) → (s : G) → Q j s → Yields P (Q (j + n)) (in_turn item j n s)
  yields_turn Q item j zero each s k = let e : j ≡ j + zero = omega arith in subst (λ i. Q i s) e k
  yields_turn Q item j (suc n) each s k =
      let e : suc j + n ≡ j + suc n = omega arith in
      subst (λ i. Yields P (Q i) (then_ask (item j s) (in_turn item (suc j) n))) e
      (yields_then (Q (suc j)) (Q (suc j + n)) (item j s) (in_turn item (suc j) n) (each j s (omega arith) (omega arith) k)
      (λ t q. yields_turn Q item (suc j) n (λ i u low high. each i u (omega (arith, low)) (omega (arith, high))) t q))

  pub yields_beside : {H A : Type 0} (O : H → Type 0) (Q : A → Type 0) (given : G) → P given → (s : Script H A) → Yields O Q s → Yields P Q (beside given s)
  yields_beside O Q given p (done a) k = k
  yields_beside O Q given p (ask other form more) k = (p, λ n said good. yields_beside O Q given p (more n) (k.1 n said good))

pub yields_given : {G A : Type 0} (O P : G → Type 0) (Q : A → Type 0) → ((g : G) → O g → P g) → (s : Script G A) → Yields O Q s → Yields P Q s
yields_given O P Q keeps (done a) k = k
yields_given O P Q keeps (ask given form more) k = (keeps given k.0, λ n said good. yields_given O P Q keeps (more n) (k.1 n said good))

pub yields_around : {S T : Type 0} (P Q : S → Type 0) (R V : T → Type 0) (put : S → T) → ((s : S) → P s → R (put s)) → ((s : S) → Q s → V (put s)) →
    (s : Script S S) → Yields P Q s → Yields R V (around put s)
yields_around P Q R V put given end (done a) k = end a k
yields_around P Q R V put given end (ask g form more) k = (given g k.0, λ n said good. yields_around P Q R V put given end (more n) (k.1 n said good))

-- ---- what bits are read as

module _ {G A : Type 0} (P : G → Type 0) (Q : A → Type 0) where
  abbrev pub Read : Outcome G A → Type 0
  Read (whole a left) = Q a
  Read (cut g) = P g
  Read (refused g name left) = P g

  unless_read : (g : G) (name : Option Refusal) (left : List Bool) (o : Outcome G A) → P g → (name ≡ None → Read o) → Read (unless_named g name left o)
  unless_read g (Some name) left o p h = p
  unless_read g None left o p h = h refl

  pub run_read : (s : Script G A) → Yields P Q s → (bits : List Bool) → Read (run s bits)
  run_read (done a) k bits = k
  run_read (ask g form more) k bits =
      by (first_number form.shape bits) refl (λ n rest said good. run_read (more n) (k.1 n said good) rest)
    where
      by : (o : Option (ℕ × List Bool)) → first_number form.shape bits ≡ o →
          ((n : ℕ) (rest : List Bool) → IsSaid form.shape n → form.refusal n ≡ None → Read (run (more n) rest)) →
          Read (answered g form (λ n. run (more n)) o)
      by None e later = k.0
      by (Some r) e later =
          unless_read g (form.refusal r.0) r.1 (run (more r.0) r.1) k.0 (λ good. later r.0 r.1 (first_spelt form.shape bits r.1 r.0 e).0 good)

  pub whole_read : (s : Script G A) → Yields P Q s → (bits left : List Bool) (a : A) → run s bits ≡ whole a left → Q a
  whole_read s k bits left a e = subst Read e (run_read s k bits)

  pub cut_read : (s : Script G A) → Yields P Q s → (bits : List Bool) (g : G) → run s bits ≡ cut g → P g
  cut_read s k bits g e = subst Read e (run_read s k bits)

-- ---- what nothing is said of

pub yields_any : {G A : Type 0} (Q : A → Type 0) (s : Script G A) → Ends s Q → Yields (λ g. Unit {0}) Q s
yields_any Q (done a) k = k
yields_any Q (ask given form more) k = (tt, λ n said good. yields_any Q (more n) (k n said good))
