-- Scripts that read at most a number of bits, whatever is answered.
use Rattle.std.proofs.Common.{◌≡◌, ℕ, zero, suc, ◌+◌, ◌-◌, ◌*◌, ◌<◌, ◌≤◌, nat_le, Bool, true, false, if◌then◌else◌, List, [], ◌∷◌, length, take, drop, refl}
use Rattle.std.proofs.Common.{ap, arith, Option, Some, None, length-drop}
use Rattle.std.proofs.lemmas.Bool.Decides.{nat_tests}
use Rattle.item_defs.specs.Bits.{value_of}
use Rattle.item_defs.specs.Items.{Shape, fixed, zeros_to, Refusal, IsSaid}
use Rattle.item_defs.specs.Outcomes.{cut, first_zeros, first_number}
use Rattle.item_defs.specs.Scripts.{Script, done, ask, then_ask, in_turn, around, beside, unless_named, answered, run}
use Rattle.item_defs.proofs.FirstNumbers.{first_spelt}

-- any w bits begin with a number of this shape, which has at most w bits
pub record IsShort (s : Shape) (w : ℕ) : Type 0 where
  pub none : (bits : List Bool) → first_number s bits ≡ None → length bits < w
  pub some : (bits : List Bool) (p : ℕ × List Bool) → first_number s bits ≡ Some p → length bits ≤ length p.1 + w

some_is : (a b : ℕ × List Bool) → Some a ≡ Some b → a ≡ b
some_is a b e = cc

module _ (width w : ℕ) (le : width ≤ w) where
  first : List Bool → ℕ × List Bool
  first bits = (value_of (take width bits), drop width bits)

  fixed_none : (bits : List Bool) (b : Bool) → nat_le width (length bits) ≡ b → (if b then Some (first bits) else None) ≡ None → length bits < w
  fixed_none bits true f e = absurd cc
  fixed_none bits false f e = let lt : length bits < width = grind (arith, nat_tests) in omega (arith, lt, le)

  fixed_some : (bits : List Bool) (p : ℕ × List Bool) (b : Bool) → (if b then Some (first bits) else None) ≡ Some p → length bits ≤ length p.1 + w
  unfolding first
  fixed_some bits p true e = let r : drop width bits ≡ p.1 = ap (λ q. q.1) (some_is (first bits) p e) in omega (arith, ap length r, length-drop width bits, le)
  fixed_some bits p false e = absurd cc

  pub short_fixed : IsShort (fixed width) w
  unfolding first
  short_fixed = record {
    none = λ bits e. fixed_none bits (nat_le width (length bits)) refl e;
    some = λ bits p e. fixed_some bits p
        (nat_le width (length bits)) e;
  }

zeros_none : (more n : ℕ) (bits : List Bool) → first_zeros more n bits ≡ None → length bits < more
zeros_none zero n bits e = absurd cc
zeros_none (suc more) n [] e = omega arith
zeros_none (suc more) n (true ∷ bits) e = absurd cc
zeros_none (suc more) n (false ∷ bits) e = let r = zeros_none more (n + 1) bits e in omega (arith, r)

zeros_some : (more n : ℕ) (bits : List Bool) (p : ℕ × List Bool) → first_zeros more n bits ≡ Some p → length bits ≤ length p.1 + more
zeros_some zero n bits p e = let r : bits ≡ p.1 = ap (λ q. q.1) (some_is _ p e) in omega (arith, ap length r)
zeros_some (suc more) n [] p e = absurd cc
zeros_some (suc more) n (true ∷ bits) p e = let r : bits ≡ p.1 = ap (λ q. q.1) (some_is _ p e) in omega (arith, ap length r)
zeros_some (suc more) n (false ∷ bits) p e = let r = zeros_some more (n + 1) bits p e in omega (arith, r)

pub short_zeros : (limit w : ℕ) → limit ≤ w → IsShort (zeros_to limit) w
short_zeros limit w le = record {
  none = λ bits e. (let r = zeros_none limit 0 bits e in omega (arith, r, le));
  some = λ bits p e. (let r = zeros_some limit 0 bits p e in omega (arith, r, le));
}

-- ---- scripts

-- at most n bits are read up to the end, which is of this kind
abbrev pub Within : {G A : Type 0} → Script G A → (A → Type 0) → ℕ → Type 0
Within (done a) P n = P a
Within (ask given form more) P n =
    (w : ℕ) × (w ≤ n) × IsShort form.shape w × ((m : ℕ) → IsSaid form.shape m → form.refusal m ≡ None → Within (more m) P (n - w))

pub within_more : {G A : Type 0} (P : A → Type 0) (s : Script G A) (m n : ℕ) → m ≤ n → Within s P m → Within s P n
within_more P (done a) m n le p = p
within_more P (ask given form more) m n le p =
    (p.0, omega (arith, le, p.1), p.2, λ k said good. within_more P (more k) (m - p.0) (n - p.0) (omega (arith, le)) (p.3 k said good))

pub within_weaker : {G A : Type 0} (P Q : A → Type 0) → ((a : A) → P a → Q a) → (s : Script G A) (n : ℕ) → Within s P n → Within s Q n
within_weaker P Q keeps (done a) n p = keeps a p
within_weaker P Q keeps (ask given form more) n p = (p.0, p.1, p.2, λ k said good. within_weaker P Q keeps (more k) (n - p.0) (p.3 k said good))

pub within_then : {G A B : Type 0} (P : A → Type 0) (Q : B → Type 0) (s : Script G A) (next : A → Script G B) (m n : ℕ) → Within s P m →
    ((a : A) → P a → Within (next a) Q n) → Within (then_ask s next) Q (m + n)
within_then P Q (done a) next m n p rest = within_more Q (next a) n (m + n) (omega arith) (rest a p)
within_then P Q (ask given form more) next m n p rest = (
  p.0,
  omega (arith, p.1),
  p.2,
  λ k said good. within_more Q (then_ask (more k) next) (m - p.0 + n) (m + n - p.0) (omega (arith, p.1))
      (within_then P Q (more k) next (m - p.0) n (p.3 k said good) rest),
)

times : (n w : ℕ) → w + n * w ≡ suc n * w
times n w = grind arith

pub within_in_turn : {S : Type 0} (P : S → Type 0) (item : ℕ → S → Script S S) (w : ℕ) → ((i : ℕ) (s : S) → P s → Within (item i s) P w) →
    (j n : ℕ) (s : S) → P s → Within (in_turn item j n s) P (n * w)
within_in_turn P item w each j zero s p = p
within_in_turn P item w each j (suc n) s p =
    within_more P (then_ask (item j s) (in_turn item (suc j) n)) (w + n * w) (suc n * w) (omega (arith, times n w))
    (within_then P P (item j s) (in_turn item (suc j) n) w (n * w) (each j s p) (λ t q. within_in_turn P item w each (suc j) n t q))

pub within_around : {S T : Type 0} (P : S → Type 0) (Q : T → Type 0) (put : S → T) → ((s : S) → P s → Q (put s)) → (s : Script S S) (n : ℕ) →
    Within s P n → Within (around put s) Q n
within_around P Q put keeps (done a) n p = keeps a p
within_around P Q put keeps (ask given form more) n p = (p.0, p.1, p.2, λ k said good. within_around P Q put keeps (more k) (n - p.0) (p.3 k said good))

pub within_beside : {G H A : Type 0} (P : A → Type 0) (given : H) (s : Script G A) (n : ℕ) → Within s P n → Within (beside given s) P n
within_beside P given (done a) n p = p
within_beside P given (ask other form more) n p = (p.0, p.1, p.2, λ k said good. within_beside P given (more k) (n - p.0) (p.3 k said good))

-- bits within which such a script is cut are fewer
pub cut_few : {G A : Type 0} (P : A → Type 0) (s : Script G A) (n : ℕ) → Within s P n → (bits : List Bool) (g : G) → run s bits ≡ cut g → length bits < n
cut_few P (done a) n p bits g e = absurd cc
cut_few {G} {A} P (ask given form more) n p bits g e =
    here (first_number form.shape bits) refl e (λ k rest said good f. cut_few P (more k) (n - p.0) (p.3 k said good) rest g f)
  where
    here : (o : Option (ℕ × List Bool)) → first_number form.shape bits ≡ o → answered given form (λ k. run (more k)) o ≡ cut g →
        ((k : ℕ) (rest : List Bool) → IsSaid form.shape k → form.refusal k ≡ None → run (more k) rest ≡ cut g → length rest < n - p.0) → length bits < n
    here None q e later = let r = p.2.none bits q in omega (arith, r, p.1)
    here (Some r) q e later = named (form.refusal r.0) refl e
      where
        named : (name : Option Refusal) → form.refusal r.0 ≡ name → unless_named given name r.1 (run (more r.0) r.1) ≡ cut g → length bits < n
        named (Some name) f e = absurd cc
        named None f e =
            let rest = later r.0 r.1 (first_spelt form.shape bits r.1 r.0 q).0 f e in
            let long = p.2.some bits r q in
            omega (arith, rest, long)
