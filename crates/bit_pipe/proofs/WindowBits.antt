-- Bits that are available, as one number.
use Rattle.std.proofs.Common.{◌≡◌, ℕ, ◌+◌, ◌-◌, ◌*◌, ◌/◌, ◌%◌, ◌^◌, ◌<◌, ◌≤◌, List, ◌++◌, length, take, drop, refl, sym, ap, subst, ◌∙◌, arith, bit_and}
use Rattle.std.proofs.Common.{bit_or, take_at, take-take, take-append-drop, length-take-le, pow_mono}
use Rattle.std.specs.Int.{w64, to_be_bytes}
use Rattle.std.proofs.lemmas.Nat.{pow_pos, shr-shr, shr_high, mod_low, and_mask, shr_below}
use Rattle.std.proofs.lemmas.List.Elements.{All-take}
use Rattle.std.specs.Array.{IsFirstChunk}
use Rattle.item_defs.specs.Bits.{bits_of, bits_of_octets, AreOctets}
use Rattle.item_defs.proofs.NumberBits.{length-bits_of, bits_of-mod, bits_of-split, take-bits_of, drop-bits_of}
use Rattle.item_defs.proofs.BitLists.{take_past}
use Rattle.item_defs.proofs.OctetBits.{octets_append, length-bits_of_octets}
use Rattle.bit_pipe.specs.Sources.{SourceOf, Consumes}
use Rattle.bit_pipe.specs.SourceState.{SourceState, Takes}
use Rattle.bit_pipe.specs.Prefixes.{first_bits}
use Rattle.bit_pipe.specs.Windows.{seven_next, IsWindow, first_of}
use Rattle.bit_pipe.proofs.BitSteps.{code_join}
use Rattle.bit_pipe.proofs.WordOctets.{octets_bits, length-octets}
use Rattle.bit_pipe.proofs.Taking.{at}

-- the first bits of a number of 64
first_of_all : (count n : ℕ) → count ≤ 64 → take count (bits_of 64 n) ≡ first_of count n
first_of_all count n le =
    let e : count + (64 - count) ≡ 64 = omega arith in
    ap (λ m. take count (bits_of m n)) (sym e) ∙ take-bits_of count (64 - count) n

-- only its lowest 64 bits count
first_low : (count n : ℕ) → count ≤ 64 → first_of count (n % 2 ^ 64) ≡ first_of count n
first_low count n le = sym (first_of_all count (n % 2 ^ 64) le) ∙ ap (take count) (bits_of-mod 64 n) ∙ first_of_all count n le

-- the first of them are in its highest octet
pub first_octet : (count n : ℕ) → count ≤ 8 → first_of count n ≡ first_bits count (n / 2 ^ 56)
first_octet count n le =
    let up : 56 + (8 - count) ≡ 64 - count = omega arith in
    ap (bits_of count) (ap (λ m. n / 2 ^ m) (sym up) ∙ sym (shr-shr n 56 (8 - count)))

-- the number that the code makes of them
module _ (window count : ℕ) (fits : window < 2 ^ 64) (le : count ≤ 32) where
  number_is : window / 2 / 2 ^ (63 - count) ≡ window / 2 ^ (64 - count)
  number_is = let up : 1 + (63 - count) ≡ 64 - count = omega arith in shr-shr window 1 (63 - count) ∙ ap (λ n. window / 2 ^ n) up

  number_below : window / 2 / 2 ^ (63 - count) < 2 ^ count
  number_below = let whole : count + (64 - count) ≡ 64 = omega arith in rw number_is (shr_below window count (64 - count) (rw whole fits))

  pub number_small : window / 2 / 2 ^ (63 - count) < 2 ^ 32
  number_small = omega (arith, number_below, pow_mono le)

  pub number_taken : {I : Type 0} {k : SourceOf I} {a b : SourceState I} → Takes k a b (first_of count window) →
      (window / 2 / 2 ^ (63 - count) < 2 ^ count) × Takes k a b (bits_of count (window / 2 / 2 ^ (63 - count)))
  number_taken p = (number_below, rw number_is p)

-- the bits of the first of some octets
prefix_octets : (count : ℕ) (octets : List ℕ) → count ≤ length octets → take (8 * count) (bits_of_octets octets) ≡ bits_of_octets (take count octets)
prefix_octets count octets le =
    let parted : bits_of_octets octets ≡ bits_of_octets (take count octets) ++ bits_of_octets (drop count octets) =
    ap bits_of_octets (sym (take-append-drop count octets)) ∙ octets_append (take count octets) (drop count octets) in
    let long : length (bits_of_octets (take count octets)) ≡ 8 * count =
    length-bits_of_octets (take count octets) ∙ ap (λ n. 8 * n) (length-take-le count octets le) in
    ap (take (8 * count)) parted ∙ take_at (bits_of_octets (take count octets)) _ (8 * count) long

-- ---- words of octets

-- the code's word of an octet and the first seven of a number's eight
pub word_bits : (octet a word : ℕ) (eight : List ℕ) → a ≡ octet → octet < 256 → word < 2 ^ 64 → to_be_bytes w64 word ≡ eight → (left : ℕ) →
    bits_of (left + 56) (bit_or ((a * 2 ^ 56) % 2 ^ 64) (word / 2 ^ 8)) ≡ bits_of left octet ++ bits_of_octets (take 7 eight)
word_bits octet a word eight e small fits same left =
    let low = word / 2 ^ 8 in
    let low_small : low < 2 ^ 56 = omega arith in
    let whole : bit_or ((a * 2 ^ 56) % 2 ^ 64) low ≡ octet * 2 ^ 56 + low = ap (λ n. bit_or ((n * 2 ^ 56) % 2 ^ 64) low) e ∙ code_join octet 8 56 low small
    (omega arith) low_small in
    let last : bits_of 56 low ≡ bits_of_octets (take 7 eight) =
    sym (first_of_all 56 word (omega arith)) ∙ ap (take 56) (sym (octets_bits 8 word) ∙ ap bits_of_octets same) ∙ prefix_octets 7 eight
    (omega (arith, ap length (sym same) ∙ length-octets 8 word)) in
    ap (bits_of (left + 56)) whole
    ∙ bits_of-split left 56 (octet * 2 ^ 56 + low)
    ∙ ap (λ n. bits_of left n ++ bits_of 56 (octet * 2 ^ 56 + low)) (shr_high octet 56 low low_small)
    ∙ ap (λ r. bits_of left octet ++ r) (sym (bits_of-mod 56 (octet * 2 ^ 56 + low)) ∙ ap (bits_of 56) (mod_low octet 56 low low_small) ∙ last)

-- moved up, the bits from those that are left on are the first
moved : (left whole : ℕ) → left < 8 → bits_of (left + 56) ((whole * 2 ^ (8 - left)) % 2 ^ 64 / 2 ^ (8 - left)) ≡ bits_of (left + 56) whole
moved left whole lt =
    let up : 64 - (left + 56) ≡ 8 - left = omega arith in
    let x = whole * 2 ^ (8 - left) in
    let none : x ≡ x + 0 = omega arith in
    ap (λ n. bits_of (left + 56) (x % 2 ^ 64 / 2 ^ n)) (sym up)
    ∙ first_low (left + 56) x (omega arith)
    ∙ ap (λ n. bits_of (left + 56) (x / 2 ^ n)) up
    ∙ ap (λ n. bits_of (left + 56) (n / 2 ^ (8 - left))) none
    ∙ ap (bits_of (left + 56)) (shr_high whole (8 - left) 0 (pow_pos (8 - left)))

-- how many octets are passed if `left` bits are left of the last octet and `count` bits are taken, and how many are left then
abbrev pub passed : (left count : ℕ) → ℕ
passed left count = (7 - left + count) / 8

abbrev pub rest : (left count : ℕ) → ℕ
rest left count = 7 - (7 - left + count) % 8

module _ {I : Type 0} (k : SourceOf I) (s : I) (octet left used room name : ℕ) (lt : left < 8) where
  long : length (bits_of left octet) ≡ left
  long = length-bits_of left octet

  -- a word of the last octet and seven that follow, moved up
  pub window_made : (word : ℕ) (eight : List ℕ) → 56 ≤ room → IsFirstChunk (k.buffer s) eight 8 → AreOctets eight →
      bits_of (left + 56) word ≡ bits_of left octet ++ bits_of_octets (take 7 eight) →
      IsWindow k (at s octet left used room name) ((word * 2 ^ (8 - left)) % 2 ^ 64)
  window_made word eight enough first are spelled =
      let seven : take 7 eight ≡ seven_next k s = ap (take 7) first.same ∙ take-take 7 8 (k.buffer s) (omega arith) in
      record {
        room = enough;
        many = omega (arith, first.enough);
        small = subst AreOctets seven (All-take (λ n. n < 256) 7 eight are);
        first = rw long (moved left word lt ∙ spelled ∙ ap (λ xs. bits_of left octet ++ bits_of_octets xs) seven);
      }

  module _ (window count : ℕ) (w : IsWindow k (at s octet left used room name) window) (few : count ≤ 56) where
    bits_in : left + 8 * (passed left count) ≡ count + (rest left count)
    bits_in = omega arith

    -- the bits available of the octets that are passed
    prefix : bits_of left octet ++ bits_of_octets (take (passed left count) (k.buffer s)) ≡ bits_of (count + (rest left count))
        (window / 2 ^ (64 - (count + (rest left count))))
    prefix =
        let whole : (left + 8 * (passed left count)) + (56 - 8 * (passed left count)) ≡ left + 56 = omega arith in
        let up : (8 - left) + (56 - 8 * (passed left count)) ≡ 64 - (count + (rest left count)) = omega (arith, bits_in) in
        let seven : take (passed left count) (seven_next k s) ≡ take (passed left count) (k.buffer s) =
        take-take (passed left count) 7 (k.buffer s) (omega arith) in
        let seven_long : length (seven_next k s) ≡ 7 = length-take-le 7 (k.buffer s) w.many in
        let first : bits_of (left + 56) (window / 2 ^ (8 - left)) ≡ bits_of left octet ++ bits_of_octets (seven_next k s) = rw long at w.first in
        let cut : take (left + 8 * (passed left count)) (bits_of left octet ++ bits_of_octets (seven_next k s)) ≡ bits_of left octet
        ++ take (8 * (passed left count)) (bits_of_octets (seven_next k s)) =
        ap (λ n. take (n + 8 * (passed left count)) (bits_of left octet ++ bits_of_octets (seven_next k s))) (sym long) ∙ take_past (bits_of left octet)
        (bits_of_octets (seven_next k s)) (8 * (passed left count)) in
        ap (λ r. bits_of left octet ++ r) (ap bits_of_octets (sym seven) ∙ sym (prefix_octets (passed left count) (seven_next k s) (omega (arith, seven_long))))
        ∙ sym cut
        ∙ ap (take (left + 8 * (passed left count))) (sym first ∙ ap (λ n. bits_of n (window / 2 ^ (8 - left))) (sym whole))
        ∙ take-bits_of (left + 8 * (passed left count)) (56 - 8 * (passed left count)) (window / 2 ^ (8 - left))
        ∙ ap (bits_of (left + 8 * (passed left count))) (shr-shr window (8 - left) (56 - 8 * (passed left count)) ∙ ap (λ n. window / 2 ^ n) up)
        ∙ ap (λ n. bits_of n (window / 2 ^ (64 - (count + (rest left count))))) bits_in

    -- the octet that the code keeps
    kept : (next : ℕ) → next ≡ bit_and (window / 2 / 2 ^ (63 - count - (rest left count))) 255 → bits_of (rest left count) next ≡ bits_of (rest left count)
        (window / 2 ^ (64 - (count + (rest left count))))
    kept next e =
        let y = window / 2 ^ (64 - (count + (rest left count))) in
        let up : 1 + (63 - count - (rest left count)) ≡ 64 - (count + (rest left count)) = omega (arith, bits_in) in
        let whole : (8 - (rest left count)) + (rest left count) ≡ 8 = omega arith in
        let is : next ≡ y % 2 ^ 8 = e ∙ and_mask (window / 2 / 2 ^ (63 - count - (rest left count))) 8
        ∙ ap (λ n. n % 2 ^ 8) (shr-shr window 1 (63 - count - (rest left count)) ∙ ap (λ n. window / 2 ^ n) up) in
        let last = λ (n : ℕ). sym (drop-bits_of (8 - (rest left count)) (rest left count) n) ∙ ap (λ m. drop (8 - (rest left count)) (bits_of m n)) whole in
        ap (bits_of (rest left count)) is ∙ last (y % 2 ^ 8) ∙ ap (drop (8 - (rest left count))) (bits_of-mod 8 y) ∙ sym (last y)

    spelled : (next : ℕ) → next ≡ bit_and (window / 2 / 2 ^ (63 - count - (rest left count))) 255 →
        bits_of left octet ++ bits_of_octets (take (passed left count) (k.buffer s)) ≡ first_of count window ++ bits_of (rest left count) next
    spelled next e =
        let y = window / 2 ^ (64 - (count + (rest left count))) in
        let up : (64 - (count + (rest left count))) + (rest left count) ≡ 64 - count = omega (arith, bits_in) in
        prefix ∙ bits_of-split count (rest left count) y
        ∙ ap (λ n. bits_of count n ++ bits_of (rest left count) y) (shr-shr window (64 - (count + (rest left count))) (rest left count) ∙
        ap (λ n. window / 2 ^ n) up)
        ∙ ap (λ r. first_of count window ++ r) (sym (kept next e))

    -- what is left after the first of the bits available
    pub window_taken : (t : I) (n next a b : ℕ) → n ≡ (passed left count) → next ≡ bit_and (window / 2 / 2 ^ (63 - count - (rest left count))) 255 →
        a ≡ count → b ≡ count → Consumes k n s t →
        Takes k (at s octet left used room name) (at t next (rest left count) (used + b) (room - a) name) (first_of count window)
    window_taken t n next a b en e ea eb h = record {
      octets = take (passed left count) (k.buffer s);
      small = subst AreOctets (take-take (passed left count) 7 (k.buffer s) (omega arith))
          (All-take (λ n. n < 256) (passed left count) (seven_next k s) w.small);
      came = rw en at h.came;
      spell = spelled next e;
      pending = omega (arith, length-bits_of (rest left count) next);
      used = omega (arith, eb, length-bits_of count (window / 2 ^ (64 - count)));
      room = omega (arith, ea, w.room, length-bits_of count (window / 2 ^ (64 - count)));
      faults = h.faults;
      went = h.went;
      name = refl;
    }

  -- what fits is available
  pub window_needs : (window count n : ℕ) → IsWindow k (at s octet left used room name) window → count ≤ 56 → n ≡ (7 - left + count) / 8 →
      n ≤ length (k.buffer s)
  window_needs window count n w few e = omega (arith, e, w.many)
