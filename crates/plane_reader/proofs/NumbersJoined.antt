-- The numbers of a block, as they are joined of the two halves of their magnitudes.
use Rattle.std.proofs.Common.{◌≡◌, inl, inr, ℕ, zero, suc, ◌+◌, ◌-◌, ◌*◌, ◌/◌, ◌%◌, ◌<◌, ◌≤◌, ◌^◌, ℤ, pos, List, length, get_or, set, ap, sym, ◌∙◌, subst}
use Rattle.std.proofs.Common.{arith, w32, get_or-set_same, get_or-set_other, length-set}
use Rattle.std.specs.Int.{cast_signed}
use Rattle.std.proofs.Math.Nat.{mul-add-mod_self_right, mod-eq_of_lt}
use Rattle.std.proofs.lemmas.Bool.{cases_eq, cases_lt}
use Rattle.std.proofs.lemmas.List.{ext_get_or}
use Rattle.std.proofs.lemmas.List.FromFn.{get_or-map-range_with_len}
use Rattle.std.proofs.lemmas.Nat.{pow-add}
use Rattle.item_defs.specs.Bits.{bit, digit}
use Rattle.wave_defs.specs.Held.{block_at}
use Rattle.block_masks.specs.Slices.{mask_in, minus_slot, dc_slot, number_in, numbers_in}
use Rattle.block_masks.specs.MaskedNumbers.{size_in}
use Rattle.block_masks.proofs.SliceNumbers.{ac_number, dc_number, block_number, length-block}
use Rattle.block_masks.proofs.MaskedNumbers.{signed}
use Rattle.plane_reader.specs.Lanes.{part_in, PutsPart}
use Rattle.plane_reader.proofs.NumberLanes.{value_to, value_more, value_small, from_plane}

-- the first planes are the low bits
low_planes : (cells : List ℤ) (r p from more : ℕ) → value_to cells r p (from + more) % 2 ^ from ≡ value_to cells r p from
low_planes cells r p from zero =
    let same : from + 0 ≡ from = omega arith in
    ap (λ n. value_to cells r p n % 2 ^ from) same ∙ mod-eq_of_lt (value_small cells r p from)
low_planes cells r p from (suc more) =
    let next : from + suc more ≡ suc (from + more) = omega arith in
    let d = digit (bit (mask_in cells r (from + more)) p) in
    let product : d * 2 ^ (from + more) ≡ d * 2 ^ more * 2 ^ from = ap (λ n. d * n) (pow-add 2 from more) ∙ grind arith in
    ap (λ n. value_to cells r p n % 2 ^ from) next ∙ ap (λ n. n % 2 ^ from)
    (value_more cells r p (from + more) ∙ ap (λ n. n + value_to cells r p (from + more)) product) ∙
    mul-add-mod_self_right (d * 2 ^ more) (2 ^ from) (value_to cells r p (from + more)) ∙ low_planes cells r p from more

part_at : (cells : List ℤ) (r start from planes k : ℕ) {part : List ℕ} → part ≡ part_in cells r start from planes → k < 16 →
    get_or part k 0 ≡ value_to cells r (start + k) (from + planes) / 2 ^ from
part_at cells r start from planes k {part} is lt =
    ap (λ l. get_or l k 0) is ∙ get_or-map-range_with_len (λ j. value_to cells r (start + j) (from + planes) / 2 ^ from) 0 16 k k 0 lt (omega arith)

pub high_small : (cells : List ℤ) (r start : ℕ) {high : List ℕ} → high ≡ part_in cells r start 16 11 → (k : ℕ) → k < 16 → get_or high k 0 < 2 ^ 11
high_small cells r start {high} is k lt = omega (arith, part_at cells r start 16 11 k is lt, from_plane cells r (start + k) 16 11)

-- the halves of a magnitude
both_halves : (cells : List ℤ) (r start k : ℕ) {low high : List ℕ} → low ≡ part_in cells r start 0 16 → high ≡ part_in cells r start 16 11 → k < 16 →
    get_or low k 0 + 2 ^ 16 * get_or high k 0 ≡ size_in (mask_in cells r) (start + k)
both_halves cells r start k {low} {high} lows highs lt =
    omega (arith, part_at cells r start 0 16 k lows lt, part_at cells r start 16 11 k highs lt, low_planes cells r (start + k) 16 11)

-- a block has the numbers at the first positions, except the DC
pub record JoinsTo (count : ℕ) (cells : List ℤ) (r : ℕ) (block : List ℤ) : Type 0 where
  pub long : length block ≡ 64
  pub acs : (p : ℕ) → p < count → get_or block p (pos 0) ≡ signed (bit (mask_in cells r minus_slot) p) (size_in (mask_in cells r) p)

pub joins_none : (cells : List ℤ) (r : ℕ) (block : List ℤ) → length block ≡ 64 → JoinsTo 0 cells r block
joins_none cells r block long = record { long = long; acs = λ p lt. absurd (omega (arith, lt)) }

pub joins_more : {count minus r : ℕ} {cells block new : List ℤ} {low high : List ℕ} → low ≡ part_in cells r count 0 16 →
    high ≡ part_in cells r count 16 11 → minus ≡ mask_in cells r minus_slot →
    PutsPart low high minus count block new → JoinsTo count cells r block → JoinsTo (count + 16) cells r new
joins_more {count} {minus} {r} {cells} {block} {new} {low} {high} lows highs is puts so_far = record {
  long = puts.long ∙ so_far.long;
  acs = λ p lt. elim (cases_lt p count) [
    | inl under ↦ puts.below p under ∙ so_far.acs p under
    | inr over ↦ subst (λ q. get_or new q (pos 0) ≡ signed (bit (mask_in cells r minus_slot) q) (size_in (mask_in cells r) q)) (back p over)
        (here (p - count) (omega (arith, lt, over)))
  ];
}
  where
    back : (p : ℕ) → count ≤ p → count + (p - count) ≡ p
    back p over = omega arith

    here : (k : ℕ) → k < 16 → get_or new (count + k) (pos 0) ≡ signed (bit (mask_in cells r minus_slot) (count + k)) (size_in (mask_in cells r) (count + k))
    here k lt = puts.here k lt ∙ (λ i. signed (bit (is i) (count + k)) (both_halves cells r count k lows highs lt i))

-- all numbers, and the DC
pub joined_block : {r : ℕ} {cells block : List ℤ} {dc : ℤ} → length cells % 64 ≡ 0 → 64 * r < length cells → JoinsTo 64 cells r block →
    dc ≡ cast_signed w32 (mask_in cells r dc_slot % 2 ^ 32) → set block 0 dc ≡ block_at (numbers_in cells) r
joined_block {r} {cells} {block} {dc} whole known joins is =
    ext_get_or (pos 0) (set block 0 dc) (block_at (numbers_in cells) r) (length-set block 0 dc ∙ joins.long ∙ sym (length-block cells r whole known)) (λ p lt.
    let low : p < 64 = omega (arith, lt, length-set block 0 dc, joins.long) in
    number p low ∙ sym (block_number cells r p whole known low))
  where
    number : (p : ℕ) → p < 64 → get_or (set block 0 dc) p (pos 0) ≡ number_in cells r p
    number p low = elim (cases_eq p 0) [
      | inl e ↦ subst (λ k. get_or (set block 0 dc) k (pos 0) ≡ number_in cells r k) (sym e)
          (get_or-set_same block 0 dc (pos 0) (omega (arith, joins.long)) ∙ is ∙ sym (dc_number cells r))
      | inr apart ↦ get_or-set_other block 0 p dc (pos 0) apart ∙ joins.acs p low ∙ sym (ac_number cells r p (omega (arith, apart)))
    ]
