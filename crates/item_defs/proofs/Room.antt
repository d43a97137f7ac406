-- Numbers that are given down to a plane: whatever the bits below it are, they are in a range.
use Rattle.std.proofs.Common.{◌≡◌, ◌≤◌, ◌<◌, ℕ, zero, suc, ◌*◌, ◌^◌, Option, Some, None, ℤ, pos, ◌+ℤ◌, ◌≤ℤ◌, neg_ℤ, arith, pow_mono}
use Rattle.std.proofs.Math.Nat.{pow-succ'}
use Rattle.std.proofs.lemmas.Int.{ints}

-- Nothing is given, and the number is 0. Or the k-th plane or a higher one is the least that is given, and the number is at least -2 ^ most,
-- and at most 2 ^ most after all lower bits.
abbrev pub Room : (most k : ℕ) → Option ℕ → ℤ → Type 0
Room most k None z = z ≡ pos 0
Room most k (Some low) z = (k ≤ low) × (neg_ℤ (pos (2 ^ most)) ≤ℤ z) × ((z +ℤ pos (2 ^ low)) ≤ℤ pos (2 ^ most))

pub room_less : (most k n : ℕ) (low : Option ℕ) (z : ℤ) → n ≤ k → Room most k low z → Room most n low z
room_less most k n None z le r = r
room_less most k n (Some low) z le r = (let a = r.0 in omega (arith, le, a), r.1, r.2)

twice : (b : ℕ) → 2 ^ suc b ≡ 2 * 2 ^ b
twice b = pow-succ' 2 b

-- the bit of a plane below those that are given
pub room_bit : (most k b y : ℕ) (low : Option ℕ) (z : ℤ) → b < k → b < most → y < 2 → Room most k low z → Room most b (Some b) (z +ℤ pos (y * 2 ^ b))
room_bit most k b zero None z under few small r =
    let e = twice b in
    let le : 2 ^ suc b ≤ 2 ^ most = pow_mono few in
    (omega arith, omega (arith, ints, r, e, le), omega (arith, ints, r, e, le))
room_bit most k b (suc zero) None z under few small r =
    let e = twice b in
    let le : 2 ^ suc b ≤ 2 ^ most = pow_mono few in
    (omega arith, omega (arith, ints, r, e, le), omega (arith, ints, r, e, le))
room_bit most k b (suc (suc y)) None z under few small r = absurd (omega (arith, small))
room_bit most k b zero (Some low) z under few small r =
    let e = twice b in
    let le : 2 ^ suc b ≤ 2 ^ low = pow_mono (let a = r.0 in omega (arith, a, under)) in
    let lower = r.1 in
    let upper = r.2 in
    (omega arith, omega (arith, ints, lower), omega (arith, ints, upper, e, le))
room_bit most k b (suc zero) (Some low) z under few small r =
    let e = twice b in
    let le : 2 ^ suc b ≤ 2 ^ low = pow_mono (let a = r.0 in omega (arith, a, under)) in
    let lower = r.1 in
    let upper = r.2 in
    (omega arith, omega (arith, ints, lower), omega (arith, ints, upper, e, le))
room_bit most k b (suc (suc y)) (Some low) z under few small r = absurd (omega (arith, small))
