-- Sixteen numbers that are made of the halves of their magnitudes and of their signs.
use Rattle.std.proofs.Common.{◌≡◌, ℕ, zero, suc, ◌+◌, ◌-◌, ◌*◌, ◌%◌, ◌<◌, ◌≤◌, ◌^◌, ℤ, pos, negsuc, neg_ℤ, Bool, true, false, cond, List, length, map}
use Rattle.std.proofs.Common.{get_or, replicate, bit_and, bit_or, unsigned_abs, FitsSigned, refl, ap, sym, ◌∙◌, arith, w16, w32, nat_eq, if◌then◌else◌}
use Rattle.std.proofs.Common.{map-id, pow_mono}
use Rattle.std.specs.List.{range_with_len}
use Rattle.std.specs.Int.Bits.{bit_xor, xor_add_and, xor_zero_r, or_zero_r}
use Rattle.std.specs.Simd.Lanes.{top, zip2, put_chunk}
use Rattle.std.proofs.lemmas.Nat.{pow_pos, and_mask, or_comm, or_shifted}
use Rattle.std.proofs.lemmas.Nat.Bits.{and_pow}
use Rattle.std.proofs.lemmas.Int.{ints, to_z-of_z, fits_signed_from_abs}
use Rattle.std.proofs.lemmas.Bool.Decides.{nat_tests}
use Rattle.std.proofs.lemmas.List.{get_or-map, length-map}
use Rattle.std.proofs.lemmas.List.FromFn.{get_or-map-range_with_len, length-map-range_with_len, fill_by_all}
use Rattle.std.proofs.lemmas.Simd.{zip2_of_maps, splat_is_map, map-map, pick_l_whole, Each1-get_or, length-put_chunk, get_or-put_chunk_at}
use Rattle.std.proofs.lemmas.Simd.{get_or-put_chunk_below, get_or-put_chunk_above}
use lib.Lanes.{Each1}
use mir.Val.{of_z, to_z, Fits}
use Rattle.item_defs.specs.Bits.{bit}
use Rattle.block_masks.specs.Masks.{Shows}
use Rattle.plane_reader.specs.Lanes.{number_of, with_mask, PutsPart}
use Rattle.block_masks.proofs.SizeLanes.{minus}
use Rattle.block_masks.proofs.MaskedNumbers.{signed}

-- ---- the lanes of a mask

abbrev pub ones : ℕ
ones = 4294967295

abbrev pub all_or_none : Bool → ℤ
all_or_none b = if b then negsuc 0 else pos 0

abbrev pub tested : (mask weight : ℕ) → ℤ
tested mask weight = to_z w32 (cond (top 31 (cond (nat_eq (bit_and mask weight) weight) 4294967295 0)) 4294967295 0)

filled : (b : Bool) → to_z w32 (cond (top 31 (cond b 4294967295 0)) 4294967295 0) ≡ all_or_none b
filled b = grind (arith, nat_tests)

tested_is : (mask k : ℕ) → tested mask (2 ^ k) ≡ all_or_none (bit mask k)
tested_is mask k = grind (arith, nat_tests, filled, nat_eq, bit_and, and_pow, pow_pos)

same_maps : (f g : ℕ → ℤ) (ks : List ℕ) → ((k : ℕ) → f k ≡ g k) → map f ks ≡ map g ks
same_maps f g ks same = grind (arith, nat_tests)

pub lanes_are : (mask : ℕ) → map (λ k. tested mask (2 ^ k)) (range_with_len 0 16) ≡ map (λ k. all_or_none (bit mask k)) (range_with_len 0 16)
lanes_are mask = same_maps (λ k. tested mask (2 ^ k)) (λ k. all_or_none (bit mask k)) (range_with_len 0 16) (tested_is mask)

-- ---- magnitudes of a mask that are given a bit

abbrev ks : List ℕ
ks = range_with_len 0 16

-- the bit of a lane, if the mask has its position
abbrev pub chosen : (mask weight bit : ℕ) → ℕ
chosen mask weight bit = cond (top 15 (cond (nat_eq (bit_and mask weight) weight) 65535 0)) bit 0

picked : (b : Bool) (n : ℕ) → cond (top 15 (cond b 65535 0)) n 0 ≡ (if b then n else 0)
picked b n = grind (arith, nat_tests)

has_bit : (mask k : ℕ) → nat_eq (bit_and mask (2 ^ k)) (2 ^ k) ≡ bit mask k
has_bit mask k = grind (arith, nat_tests, nat_eq, bit_and, and_pow, pow_pos)

chosen_is : (mask k n : ℕ) → chosen mask (2 ^ k) n ≡ (if bit mask k then n else 0)
chosen_is mask k n = picked (nat_eq (bit_and mask (2 ^ k)) (2 ^ k)) n ∙ ap (λ b. if b then n else 0) (has_bit mask k)

pub bits_given : (sizes : List ℕ) (here mask start place : ℕ) → length sizes ≡ 16 → place < 16 → ((k : ℕ) → k < 16 → bit here k ≡ bit mask (start + k)) →
    zip2 bit_or sizes (map (λ k. chosen here (2 ^ k) (1 * 2 ^ place % 65536)) (range_with_len 0 16)) ≡ with_mask sizes mask start place
bits_given sizes here mask start place long low same =
    let le : place ≤ 15 = omega arith in
    let most : 2 ^ place ≤ 2 ^ 15 = pow_mono le in
    let weight : 1 * 2 ^ place % 65536 ≡ 2 ^ place = omega (arith, most) in
    let each = λ (k : ℕ). bit_or (get_or sizes k 0) (chosen here (2 ^ k) (1 * 2 ^ place % 65536)) in
    zip2_of_maps bit_or (λ k. get_or sizes k 0) (λ k. chosen here (2 ^ k) (1 * 2 ^ place % 65536)) ks (sym (pick_l_whole 0 sizes 16 long)) refl ∙
    fill_by_all (λ k. bit_or (get_or sizes k 0) (if bit mask (start + k) then 2 ^ place else 0)) (map each ks) 16 0 (length-map-range_with_len each 0 16)
    (λ k lt.
    get_or-map-range_with_len each 0 16 k k 0 lt (omega arith) ∙
    ap (λ n. bit_or (get_or sizes k 0) n) (chosen_is here k (1 * 2 ^ place % 65536) ∙ (λ i. if same k lt i then weight i else 0)))

-- no magnitude is given a bit
pub none_given : (sizes : List ℕ) (mask start place : ℕ) → length sizes ≡ 16 → ((k : ℕ) → k < 16 → bit mask (start + k) ≡ false) →
    sizes ≡ with_mask sizes mask start place
none_given sizes mask start place long none =
    fill_by_all (λ k. bit_or (get_or sizes k 0) (if bit mask (start + k) then 2 ^ place else 0)) sizes 16 0 long (λ k lt.
    sym (ap (λ b. bit_or (get_or sizes k 0) (if b then 2 ^ place else 0)) (none k lt) ∙ or_zero_r (get_or sizes k 0)))

-- ---- one number

turned : (n : ℕ) → n < 2147483649 → to_z w32 (minus (bit_xor n ones) ones) ≡ neg_ℤ (pos n)
turned n small =
    let rest : bit_xor n ones ≡ ones - n = omega (arith, xor_add_and n ones, and_mask n 32) in
    ap (λ m. to_z w32 (minus m ones)) rest ∙ opposite n small
  where
    opposite : (n : ℕ) → n < 2147483649 → to_z w32 (minus (ones - n) ones) ≡ neg_ℤ (pos n)
    opposite zero small = refl
    opposite (suc n) small = grind (arith, ints)

kept : (n : ℕ) → n < 2147483648 → to_z w32 (minus (bit_xor n 0) 0) ≡ pos n
kept n small = ap (λ m. to_z w32 (minus m 0)) (xor_zero_r n) ∙ grind (arith, ints)

by_sign : (b : Bool) (n : ℕ) → n < 2147483648 → to_z w32 (minus (bit_xor n (of_z w32 (all_or_none b))) (of_z w32 (all_or_none b))) ≡ signed b n
by_sign true n small = turned n (omega (arith, small))
by_sign false n small = kept n small

-- sixteen bits are below 2 ^ 16
pub halves_few : (low : List ℕ) → length low ≡ 16 → Each1 (Fits w16) low → (k : ℕ) → k < 16 → get_or low k 0 < 2 ^ 16
halves_few low long fit k lt = let one = Each1-get_or (Fits w16) low k 0 (omega (arith, lt, long)) fit in one.fits

abbrev pub whole : (low high : ℕ) → ℕ
whole low high = bit_or low (high * 2 ^ 16 % 4294967296)

whole_is : (low high : ℕ) → low < 2 ^ 16 → high < 2 ^ 11 → whole low high ≡ low + 2 ^ 16 * high
whole_is low high a b =
    let fits : high * 2 ^ 16 % 4294967296 ≡ high * 2 ^ 16 = omega (arith, b) in
    ap (bit_or low) fits ∙ or_comm low (high * 2 ^ 16) ∙ or_shifted high 16 low a ∙ omega arith

-- ---- sixteen numbers

abbrev pub all_numbers : (low high : List ℕ) (if_known : List ℤ) → List ℤ
all_numbers low high if_known =
    let sign = map (of_z w32) if_known in
    map (to_z w32) (zip2 minus (zip2 bit_xor (zip2 bit_or (map (λ x. x) low) (zip2 (λ a b. a * 2 ^ b % 4294967296) (map (λ x. x) high) (replicate 16 16)))
    sign) sign)

module _ (low high : List ℕ) (mask : ℕ) (low_long : length low ≡ 16) (high_long : length high ≡ 16) (few : (k : ℕ) → k < 16 → get_or low k 0 < 2 ^ 16)
    (small : (k : ℕ) → k < 16 → get_or high k 0 < 2 ^ 11) where
  abbrev each : ℕ → ℤ
  each k = to_z w32 (minus (bit_xor (whole (get_or low k 0) (get_or high k 0)) (of_z w32 (all_or_none (bit mask k)))) (of_z w32 (all_or_none (bit mask k))))

  by_place : (if_known : List ℤ) → if_known ≡ map (λ k. all_or_none (bit mask k)) (range_with_len 0 16) → all_numbers low high if_known ≡ map each ks
  by_place if_known is =
      let lows : map (λ x. x) low ≡ map (λ k. get_or low k 0) ks = map-id low ∙ sym (pick_l_whole 0 low 16 low_long) in
      let highs : map (λ x. x) high ≡ map (λ k. get_or high k 0) ks = map-id high ∙ sym (pick_l_whole 0 high 16 high_long) in
      let moved = zip2_of_maps (λ a b. a * 2 ^ b % 4294967296) (λ k. get_or high k 0) (λ k. 16) ks highs (splat_is_map ks 16 16 refl) in
      let sizes = zip2_of_maps bit_or (λ k. get_or low k 0) (λ k. get_or high k 0 * 2 ^ 16 % 4294967296) ks lows moved in
      let sign = ap (map (of_z w32)) is ∙ map-map (of_z w32) (λ k. all_or_none (bit mask k)) ks in
      let size = λ (k : ℕ). whole (get_or low k 0) (get_or high k 0) in
      let s = λ (k : ℕ). of_z w32 (all_or_none (bit mask k)) in
      let turns = zip2_of_maps bit_xor size s ks sizes sign in
      let all = zip2_of_maps minus (λ k. bit_xor (size k) (s k)) s ks turns sign in
      ap (map (to_z w32)) all ∙ map-map (to_z w32) (λ k. minus (bit_xor (size k) (s k)) (s k)) ks

  pub numbers_are : (if_known : List ℤ) → if_known ≡ map (λ k. all_or_none (bit mask k)) (range_with_len 0 16) →
      all_numbers low high if_known ≡ map (number_of low high mask 0) (range_with_len 0 16)
  numbers_are if_known is =
      by_place if_known is ∙
      fill_by_all (number_of low high mask 0) (map each ks) 16 (pos 0) (length-map-range_with_len each 0 16) (λ k lt.
      let size : whole (get_or low k 0) (get_or high k 0) ≡ get_or low k 0 + 2 ^ 16 * get_or high k 0 =
      whole_is (get_or low k 0) (get_or high k 0) (few k lt) (small k lt) in
      let fits : whole (get_or low k 0) (get_or high k 0) < 2147483648 = omega (arith, size, few k lt, small k lt) in
      let here : k ≡ 0 + k = omega arith in
      get_or-map-range_with_len each 0 16 k k (pos 0) lt (omega arith) ∙ by_sign (bit mask k) (whole (get_or low k 0) (get_or high k 0)) fits ∙
      (λ i. signed (bit mask (here i)) (size i)))

  number_fits : (minus_mask start k : ℕ) → k < 16 → FitsSigned w32 (number_of low high minus_mask start k)
  number_fits minus_mask start k lt =
      let size = get_or low k 0 + 2 ^ 16 * get_or high k 0 in
      fits_signed_from_abs w32 (signed (bit minus_mask (start + k)) size) (abs_small (bit minus_mask (start + k)) size (omega (arith, few k lt, small k lt)))
    where
      abs_small : (b : Bool) (n : ℕ) → n < 2147483648 → unsigned_abs (signed b n) < 2147483648
      abs_small b n less = grind (arith, nat_tests, less)

  -- the numbers are stored
  pub part_put : (start minus_mask : ℕ) (block lanes : List ℤ) → start + 16 ≤ length block → Shows mask (bit minus_mask) start 16 →
      lanes ≡ map (number_of low high mask 0) (range_with_len 0 16) →
      PutsPart low high minus_mask start block (put_chunk start block (map (to_z w32) (map (of_z w32) lanes)))
  part_put start minus_mask block lanes within shows is = record {
    long = length-put_chunk start block passed;
    here = λ k lt. get_or-put_chunk_at start block passed k (pos 0) (omega (arith, lt, many)) (omega (arith, within, many)) ∙ passed_at k lt ∙ same k lt;
    below = λ p under. get_or-put_chunk_below start block passed p (pos 0) under;
    above = λ p over. get_or-put_chunk_above start block passed p (pos 0) (omega (arith, over, many));
  }
    where
      passed : List ℤ
      passed = map (to_z w32) (map (of_z w32) lanes)

      long : length lanes ≡ 16
      long = ap length is ∙ length-map-range_with_len (number_of low high mask 0) 0 16

      many : length passed ≡ 16
      many = length-map (map (of_z w32) lanes) (to_z w32) ∙ length-map lanes (of_z w32) ∙ long

      lane : (k : ℕ) → k < 16 → get_or lanes k (pos 0) ≡ number_of low high mask 0 k
      lane k lt = ap (λ l. get_or l k (pos 0)) is ∙ get_or-map-range_with_len (number_of low high mask 0) 0 16 k k (pos 0) lt (omega arith)

      passed_at : (k : ℕ) → k < 16 → get_or passed k (pos 0) ≡ number_of low high mask 0 k
      passed_at k lt =
          get_or-map (to_z w32) (map (of_z w32) lanes) k 0 (pos 0) (omega (arith, lt, long, length-map lanes (of_z w32)))
          ∙ ap (to_z w32) (get_or-map (of_z w32) lanes k (pos 0) 0 (omega (arith, lt, long))) ∙
          ap (λ z. to_z w32 (of_z w32 z)) (lane k lt) ∙ to_z-of_z w32 (number_of low high mask 0 k) (number_fits mask 0 k lt)

      same : (k : ℕ) → k < 16 → number_of low high mask 0 k ≡ number_of low high minus_mask start k
      same k lt =
          let here : 0 + k ≡ k = omega arith in
          ap (λ b. signed b (get_or low k 0 + 2 ^ 16 * get_or high k 0)) (ap (bit mask) here ∙ shows.at k lt)
