-- The first bits of octets.
use Rattle.std.proofs.Common.{◌≡◌, ℕ, ◌+◌, ◌-◌, ◌*◌, ◌/◌, ◌%◌, ◌^◌, ◌<◌, ◌≤◌, ◌++◌, take, refl, sym, ap, ◌∙◌, arith, take_at}
use Rattle.std.proofs.lemmas.Nat.{pow_pos, shr-shr, shr_high, mod_low}
use Rattle.item_defs.specs.Bits.{bits_of}
use Rattle.item_defs.proofs.NumberBits.{length-bits_of, bits_of-mod, bits_of-split, bits_between, take-bits_of}
use Rattle.bit_pipe.specs.Prefixes.{first_bits, hand_of}

-- the first bits of an octet are a prefix of more of its first bits
pub first_then : (few more octet : ℕ) → few ≤ more → more ≤ 8 → first_bits more octet ≡ first_bits few octet ++ bits_of (more - few) (octet / 2 ^ (8 - more))
first_then few more octet le top =
    let a : 8 - (8 - few) ≡ few = omega arith in
    let b : (8 - few) - (8 - more) ≡ more - few = omega arith in
    let c : 8 - (8 - more) ≡ more = omega arith in
    let whole = bits_between 8 (8 - few) (8 - more) octet (omega arith) (omega arith) in
    sym (rw (a, b, c) at whole)

-- they are a prefix of its eight bits
first_of_eight : (count octet : ℕ) → count ≤ 8 → take count (bits_of 8 octet) ≡ first_bits count octet
first_of_eight count octet le =
    let e : count + (8 - count) ≡ 8 = omega arith in
    ap (λ n. take count (bits_of n octet)) (sym e) ∙ take-bits_of count (8 - count) octet

-- only the lowest eight bits of a number count
first_low : (count n : ℕ) → count ≤ 8 → first_bits count (n % 256) ≡ first_bits count n
first_low count n le = sym (first_of_eight count (n % 256) le) ∙ ap (take count) (bits_of-mod 8 n) ∙ first_of_eight count n le

pub hand_small : (left octet : ℕ) → hand_of left octet < 256
hand_small left octet = omega arith

-- the bits available
pub hand_bits : (left octet : ℕ) → left ≤ 8 → first_bits left (hand_of left octet) ≡ bits_of left octet
hand_bits left octet le =
    let none : octet * 2 ^ (8 - left) ≡ octet * 2 ^ (8 - left) + 0 = omega arith in
    first_low left (octet * 2 ^ (8 - left)) le ∙ ap (λ n. bits_of left (n / 2 ^ (8 - left))) none
    ∙ ap (bits_of left) (shr_high octet (8 - left) 0 (pow_pos (8 - left)))

-- the first of the bits that are left
pub first_left : (count left octet : ℕ) → count ≤ left → left ≤ 8 → bits_of left octet ≡ first_bits count (hand_of left octet) ++ bits_of (left - count) octet
first_left count left octet le top =
    let whole : count + (left - count) ≡ left = omega arith in
    let split : bits_of left octet ≡ bits_of count (octet / 2 ^ (left - count)) ++ bits_of (left - count) octet =
    ap (λ n. bits_of n octet) (sym whole) ∙ bits_of-split count (left - count) octet in
    let begun : bits_of left octet ≡ first_bits count (hand_of left octet) ++ bits_of (left - count) (hand_of left octet / 2 ^ (8 - left)) =
    sym (hand_bits left octet top) ∙ first_then count left (hand_of left octet) le top in
    let same : first_bits count (hand_of left octet) ≡ bits_of count (octet / 2 ^ (left - count)) =
    sym (take_at (first_bits count (hand_of left octet)) _ count (length-bits_of count _)) ∙ ap (take count) (sym begun ∙ split)
    ∙ take_at (bits_of count (octet / 2 ^ (left - count))) _ count (length-bits_of count _) in
    split ∙ ap (λ r. r ++ bits_of (left - count) octet) (sym same)

-- ---- bits available, and the next octet: the octet that begins there

abbrev pub across : (left held octet : ℕ) → ℕ
across left held octet = (256 * held + octet) / 2 ^ left % 256

pub across_small : (left held octet : ℕ) → across left held octet < 256
across_small left held octet = omega arith

pub across_code : (left held octet a b : ℕ) → a ≡ held → b ≡ octet → (256 * a + b) / 2 ^ left % 256 ≡ across left held octet
across_code left held octet a b e f = rw (e, f) refl

module _ (left held octet : ℕ) (small : octet < 256) where
  -- the first bits of both, if more are wanted than are available
  pub across_bits : (count : ℕ) → left ≤ count → count ≤ 8 → first_bits count (across left held octet) ≡ bits_of left held ++ first_bits (count - left) octet
  across_bits count le top =
      let more = count - left in
      let x = 256 * held + octet in
      let joined : x ≡ held * 256 + octet = omega arith in
      let place : left + (8 - count) ≡ 8 - more = omega arith in
      let whole : left + more ≡ count = omega arith in
      let high : (8 - more) + more ≡ 8 = omega arith in
      let above : x / 2 ^ (8 - more) / 2 ^ more ≡ held = shr-shr x (8 - more) more ∙ ap (λ n. x / 2 ^ n) high ∙ ap (λ n. n / 256) joined
      ∙ shr_high held 8 octet small in
      let below : first_bits more x ≡ first_bits more octet =
      sym (first_low more x (omega arith)) ∙ ap (first_bits more) (ap (λ n. n % 256) joined ∙ mod_low held 8 octet small) in
      first_low count (x / 2 ^ left) top ∙ ap (bits_of count) (shr-shr x left (8 - count) ∙ ap (λ n. x / 2 ^ n) place)
      ∙ ap (λ n. bits_of n (x / 2 ^ (8 - more))) (sym whole) ∙ bits_of-split left more (x / 2 ^ (8 - more)) ∙ ap (λ n. bits_of left n ++ first_bits more x)
      above ∙ ap (λ r. bits_of left held ++ r) below
