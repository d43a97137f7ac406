-- What the masks of a block say of its positions and sets.
use Rattle.std.proofs.Common.{◌≡◌, ℕ, ◌+◌, ◌*◌, ◌/◌, ◌%◌, ◌^◌, ◌<◌, ◌≤◌, ℤ, Bool, true, false, ◌||◌, List, ◌++◌, nat_le, ap, sym, ◌∙◌, subst, arith}
use Rattle.std.proofs.Common.{zero-add, zero, suc, add-one, ◌==◌, pow-suc, pow_mono}
use Rattle.std.specs.List.{list_any}
use Rattle.std.proofs.lemmas.List.Folds.{list_any-append}
use Rattle.std.proofs.lemmas.Nat.{pow_pos, mod_below, div-add-mod'}
use Rattle.item_defs.specs.Bits.{bit}
use Rattle.plane_defs.specs.Spans.{span}
use Rattle.plane_defs.specs.Sets.{magnitude, significant}
use Rattle.block_masks.specs.Masks.{Shows}

-- a number reaches a plane if it reaches the plane above, or has the plane's bit
reached_by : (m p q : ℕ) → 0 < p → q ≡ p * 2 → nat_le p m ≡ (nat_le q m || (m / p % 2 == 1))
reached_by m p q some double =
    let whole : m / p * p + m % p ≡ m = div-add-mod' m p in
    by_quotient (m / p) whole (mod_below m p some)
  where
    by_quotient : (d : ℕ) → d * p + m % p ≡ m → m % p < p → nat_le p m ≡ (nat_le q m || (d % 2 == 1))
    by_quotient zero whole low =
        let a : nat_le p m ≡ false = grind arith in
        let b : nat_le q m ≡ false = grind arith in
        a ∙ ap (λ x. x || false) (sym b)
    by_quotient (suc zero) whole low =
        let a : nat_le p m ≡ true = grind arith in
        let b : nat_le q m ≡ false = grind arith in
        a ∙ ap (λ x. x || true) (sym b)
    by_quotient (suc (suc d)) whole low =
        let e : suc (suc d) * p ≡ d * p + q = rw double (grind arith) in
        let a : nat_le p m ≡ true = grind arith in
        let b : nat_le q m ≡ true = grind arith in
        a ∙ ap (λ x. x || (suc (suc d) % 2 == 1)) (sym b)

pub reached_is : (block : List ℤ) (plane p : ℕ) → (significant block (plane + 1) p || bit (magnitude block p) plane) ≡ significant block plane p
unfolding significant
reached_is block plane p =
    let double : 2 ^ (plane + 1) ≡ 2 ^ plane * 2 = rw add-one (pow-suc 2 plane) in
    sym (reached_by (magnitude block p) (2 ^ plane) (2 ^ (plane + 1)) (pow_pos plane) double)

-- a mask shows its own bits
pub shows_own : (mask count : ℕ) → mask < 2 ^ count → Shows mask (bit mask) 0 count
shows_own mask count small = record { at = λ k below. let e : k ≡ 0 + k = omega arith in ap (bit mask) e; small = small }

-- positions are counted from 0
pub from_zero : {mask count : ℕ} {f : ℕ → Bool} (at : ℕ) → Shows mask f (0 + at) count → Shows mask f at count
from_zero {mask} {count} {f} at p = subst (λ s. Shows mask f s count) (zero-add at) p

pub any_from_zero : {b : Bool} (f : ℕ → Bool) (at count : ℕ) → b ≡ list_any f (span (0 + at) count) → b ≡ list_any f (span at count)
any_from_zero f at count e = e ∙ ap (λ s. list_any f (span s count)) (zero-add at)

-- ---- sets

-- the positions of two spans
pub any_of_both : {a b : Bool} (f : ℕ → Bool) (s m t n : ℕ) → a ≡ list_any f (span s m) → b ≡ list_any f (span t n) →
    (a || b) ≡ list_any f (span s m ++ span t n)
any_of_both {a} {b} f s m t n p q = ap (λ x. x || b) p ∙ ap (λ y. list_any f (span s m) || y) q ∙ sym (list_any-append f (span s m) (span t n))

-- a nibble is below 16
pub nibble_small : (n count : ℕ) → count ≤ 4 → n < 2 ^ count → n < 16
nibble_small n count few fits = let most : 2 ^ count ≤ 2 ^ 4 = pow_mono few in omega arith
