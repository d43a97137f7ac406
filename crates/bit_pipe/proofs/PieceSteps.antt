-- The first bits of an octet, and numbers made of them.
use Rattle.std.proofs.Common.{◌≡◌, ℕ, ◌+◌, ◌-◌, ◌*◌, ◌/◌, ◌%◌, ◌^◌, ◌<◌, ◌≤◌, [], ◌∷◌, ◌++◌, sym, ap, subst, ◌∙◌, arith, bit_and, bit_or, nat_eq, min, Ok, Some}
use Rattle.std.proofs.lemmas.Nat.{and_mask, one_shl, shl_whole, or_shifted, pow-add, mul-add-lt}
use Rattle.item_defs.specs.Bits.{bits_of}
use Rattle.item_defs.proofs.NumberBits.{bits_of-mod, bits_of-split, bits_join, bits_first, bit_is, length-bits_of}
use Rattle.bit_pipe.specs.declared.piece.Piece.{Piece}
use Rattle.bit_pipe.specs.Sources.{SourceOf, GivesOctet}
use Rattle.bit_pipe.specs.SourceState.{SourceState, Takes}
use Rattle.bit_pipe.specs.Pieces.{TakesPiece}
use Rattle.bit_pipe.proofs.Taking.{at, takes_then, takes_pending, takes_octet}

-- what the code takes of the bits that are left
first_value : (bits count : ℕ) → count ≤ 8 → bit_and bits ((1 * 2 ^ count) % 2 ^ 16 - 1) ≡ bits % 2 ^ count
first_value bits count le =
    let one : (1 * 2 ^ count) % 2 ^ 16 ≡ 2 ^ count = one_shl count 16 (omega arith) in
    ap (λ n. bit_and bits (n - 1)) one ∙ and_mask bits count

pub first_bits : (octet o left count : ℕ) → o ≡ octet → count ≤ 8 → count ≤ left →
    bits_of left octet ≡ bits_of count (bit_and (o / 2 ^ (left - count)) ((1 * 2 ^ count) % 2 ^ 16 - 1)) ++ bits_of (left - count) octet
first_bits octet o left count e le within =
    let whole : count + (left - count) ≡ left = omega arith in
    let value : bits_of count (bit_and (o / 2 ^ (left - count)) ((1 * 2 ^ count) % 2 ^ 16 - 1)) ≡ bits_of count (octet / 2 ^ (left - count)) =
    ap (bits_of count) (first_value (o / 2 ^ (left - count)) count le) ∙ bits_of-mod count (o / 2 ^ (left - count))
    ∙ ap (λ n. bits_of count (n / 2 ^ (left - count))) e in
    ap (λ n. bits_of n octet) (sym whole) ∙ bits_of-split count (left - count) octet ∙ ap (λ r. r ++ bits_of (left - count) octet) (sym value)

-- the code's first bit
pub first_bit : (octet left : ℕ) → 0 < left → bits_of left octet ≡ (nat_eq (bit_and (octet / 2 ^ (left - 1)) 1) 1 ∷ []) ++ bits_of (left - 1) octet
first_bit octet left lt = bits_first left octet lt ∙ ap (λ b. b ∷ bits_of (left - 1) octet) (sym (bit_is octet (left - 1)))

-- ---- a number of such pieces

pub number_below : (value taken v n : ℕ) → value < 2 ^ taken → v < 2 ^ n → value * 2 ^ n + v < 2 ^ (taken + n)
number_below value taken v n p q =
    let turned : taken + n ≡ n + taken = omega arith in
    let split : 2 ^ (taken + n) ≡ 2 ^ n * 2 ^ taken = ap (λ m. 2 ^ m) turned ∙ pow-add 2 n taken in
    let next : value * 2 ^ n + v < 2 ^ n * 2 ^ taken = mul-add-lt value (2 ^ n) v (2 ^ taken) p q in
    rw split next

pub code_number : (value taken v b n : ℕ) → b ≡ v → value < 2 ^ taken → v < 2 ^ n → taken + n ≤ 32 → bit_or ((value * 2 ^ n) % 2 ^ 64) b ≡ value * 2 ^ n + v
code_number value taken v b n e p q le =
    let whole : (value * 2 ^ n) % 2 ^ 64 ≡ value * 2 ^ n = shl_whole value taken n 64 p (omega arith) in
    rw (e, whole) (or_shifted value n v q)

pub number_more : {I : Type 0} {k : SourceOf I} {a b c : SourceState I} (value taken v n : ℕ) → v < 2 ^ n → Takes k a b (bits_of taken value) →
    Takes k b c (bits_of n v) → Takes k a c (bits_of (taken + n) (value * 2 ^ n + v))
number_more {I} {k} {a} {b} {c} value taken v n q p r = subst (Takes k a c) (bits_join taken n value v q) (takes_then p r)

module _ {I : Type 0} (k : SourceOf I) where
  pub piece_pending : (s : I) (octet left used room name most n a b : ℕ) (piece : Piece) → a ≡ n → b ≡ n → n ≡ min (min most left) room → 0 < most →
      0 < left → 0 < room → left < 8 →
      piece.count ≡ n → piece.value < 2 ^ n → bits_of left octet ≡ bits_of n piece.value ++ bits_of (left - n) octet →
      TakesPiece k most piece (at s octet left used room name) (at s octet (left - n) (used + b) (room - a) name)
  piece_pending s octet left used room name most n a b piece ea eb e p q r lt count fits bits =
      let taken : Takes k (at s octet left used room name) (at s octet (left - n) (used + n) (room - n) name) (bits_of n piece.value) =
      takes_pending k s octet left used room name n (bits_of n piece.value) bits (length-bits_of n piece.value) lt (omega (arith, e)) in
      record {
        some = omega (arith, e, count);
        within = omega (arith, e, count);
        fits = rw count fits;
        taken = rw (ea, eb, count) taken;
      }

  pub piece_octet : (s t : I) (before octet left used room name most n a b : ℕ) (piece : Piece) → a ≡ n → b ≡ n → n ≡ min (min most 8) room → 0 < most →
      left ≡ 0 → 0 < room →
      piece.count ≡ n → piece.value < 2 ^ n → bits_of 8 octet ≡ bits_of n piece.value ++ bits_of (8 - n) octet → GivesOctet k (Ok (Some octet)) s t →
      TakesPiece k most piece (at s before left used room name) (at t octet (8 - n) (used + b) (room - a) name)
  piece_octet s t before octet left used room name most n a b piece ea eb e p none r count fits bits h =
      let taken : Takes k (at s before left used room name) (at t octet (8 - n) (used + n) (room - n) name) (bits_of n piece.value) =
      takes_octet k s t before octet left used room name n (bits_of n piece.value) bits (length-bits_of n piece.value) none (omega (arith, e))
      (omega (arith, e)) h in
      record {
        some = omega (arith, e, count);
        within = omega (arith, e, count);
        fits = rw count fits;
        taken = rw (ea, eb, count) taken;
      }
