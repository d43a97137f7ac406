-- The places of masks: no two of them overlap.
use Rattle.std.proofs.Common.{◌≡◌, ◌<◌, ◌≤◌, ℕ, ◌+◌, ◌-◌, ◌*◌, ◌/◌, ◌%◌, ◌^◌, min, inl, inr, ◌⊎◌, ap, sym, ◌∙◌, subst, arith, ℤ, List, length, set}
use Rattle.std.proofs.Common.{length-set, w32, to_z}
use Rattle.std.proofs.Math.Nat.{mul_assoc}
use Rattle.std.proofs.lemmas.Bool.{cases_lt, cases_eq}
use Rattle.std.proofs.lemmas.Int.{of_z-to_z}
use Rattle.std.proofs.lemmas.Nat.{div-add-mod', mod_below}
use Rattle.std.proofs.lemmas.List.{get_or-set_same, get_or-set_other}
use Rattle.block_masks.specs.declared.slices.Column.{Column}
use Rattle.block_masks.specs.Slices.{width, place, IsColumn, mask_from, mask_in, PutsMask}

-- a step to the next slot is at least a width
pub next_slot : (w s t : ℕ) → s < t → w * s + w ≤ w * t
next_slot w s t lt = grind arith

-- the slots of a block are a step apart
pub place_in : (first step base w b s : ℕ) → first ≡ base + 2 * (w * 0 + b) → step ≡ 2 * w → first + step * s ≡ base + 2 * (w * s + b)
place_in first step base w b s is_first is_step = rw (is_first, is_step) (omega (arith, mul_assoc 2 w s))

abbrev Apart : ℕ → ℕ → Type 0
Apart i j = (i + 1 < j) ⊎ (j + 1 < i)

in_group : (first w s b t c : ℕ) → b < w → c < w → (s ≡ t → b ≡ c → ⊥) → Apart (first + 2 * (w * s + b)) (first + 2 * (w * t + c))
in_group first w s b t c low high other = elim (cases_lt s t) [
  | inl lt ↦ inl (omega (arith, next_slot w s t lt))
  | inr ge ↦ elim (cases_eq s t) [
    | inl same ↦ elim (cases_lt b c) [
      | inl lt ↦ inl (rw same (omega (arith, lt)))
      | inr le ↦ elim (cases_eq b c) [
        | inl e ↦ absurd (other same e)
        | inr apart ↦ inr (rw same (omega (arith, le, apart)))
      ]
    ]
    | inr apart ↦ inr (omega (arith, next_slot w t s (omega (arith, ge, apart))))
  ]
]

within_group : (count r slot : ℕ) → r < count → slot < 32 → place count r slot + 1 < 4096 * (r / 64) + 4096
within_group count r slot within few =
    let most : width count r * slot ≤ 64 * 31 = grind arith in
    omega (arith, most, mod_below r 64 (omega arith))

low_place : (count r : ℕ) → r < count → r % 64 < width count r
low_place count r within = omega (arith, div-add-mod' r 64, mod_below r 64 (omega arith))

pub places_apart : (count q s r t : ℕ) → q < count → r < count → s < 32 → t < 32 → (s ≡ t → q ≡ r → ⊥) → Apart (place count q s) (place count r t)
places_apart count q s r t in_q in_r few_s few_t other = elim (cases_eq (q / 64) (r / 64)) [
  | inl same ↦
      let w : width count r ≡ width count q = ap (λ g. min 64 (count - 64 * g)) (sym same) in
      let low : r % 64 < width count q = subst (λ k. r % 64 < k) w (low_place count r in_r) in
      let apart = in_group (4096 * (q / 64)) (width count q) s (q % 64) t (r % 64) (low_place count q in_q) low
      (λ e f. other e (omega (arith, same, f, div-add-mod' q 64, div-add-mod' r 64))) in
      subst (λ g. Apart (place count q s) (4096 * g + 2 * (min 64 (count - 64 * g) * t + r % 64))) same apart
  | inr differ ↦ elim (cases_lt (q / 64) (r / 64)) [
    | inl lt ↦ inl (omega (arith, lt, within_group count q s in_q few_s))
    | inr ge ↦ inr (omega (arith, ge, differ, within_group count r t in_r few_t))
  ]
]

-- ---- a mask that was put

abbrev put_at : List ℤ → (i low high : ℕ) → List ℤ
put_at cells i low high = set (set cells i (to_z w32 low)) (i + 1) (to_z w32 high)

same_from : (cells : List ℤ) (i j low high : ℕ) → Apart j i → mask_from (put_at cells i low high) j ≡ mask_from cells j
same_from cells i j low high apart = grind (arith, get_or-set_other)

put_from : (cells : List ℤ) (i low high : ℕ) → i + 1 < length cells → low < 2 ^ 32 → high < 2 ^ 32 → mask_from (put_at cells i low high) i ≡ low + 2 ^ 32 * high
put_from cells i low high within small small' = grind (arith, get_or-set_same, get_or-set_other, of_z-to_z, length-set)

module _ (cells : List ℤ) (r slot mask : ℕ) (whole : length cells % 64 ≡ 0) (block : 64 * r < length cells) (few : slot < 32) (fits : mask < 2 ^ 64)
    (within : place (length cells / 64) r slot + 1 < length cells) where
  abbrev put : List ℤ
  put = put_at cells (place (length cells / 64) r slot) (mask % 2 ^ 32) (mask / 2 ^ 32)

  long : length put ≡ length cells
  long = grind (arith, length-set)

  in_place : (q s : ℕ) → mask_in put q s ≡ mask_from put (place (length cells / 64) q s)
  unfolding mask_in
  in_place q s = ap (λ n. mask_from put (place (n / 64) q s)) long

  others : (q s : ℕ) → 64 * q < length cells → s < 32 → (s ≡ slot → q ≡ r → ⊥) → mask_in put q s ≡ mask_in cells q s
  unfolding mask_in
  others q s known low other = in_place q s ∙ same_from cells (place (length cells / 64) r slot) (place (length cells / 64) q s) (mask % 2 ^ 32) (mask / 2 ^ 32)
      (places_apart (length cells / 64) q s r slot (omega arith) (omega arith) low few other)

  pub mask_put : PutsMask r slot mask cells put
  mask_put = record {
    long = long;
    here = in_place r slot ∙ put_from cells (place (length cells / 64) r slot) (mask % 2 ^ 32) (mask / 2 ^ 32) within (omega arith) (omega arith) ∙ omega arith;
    other_slots = λ s low other. others r s block low (λ e f. other e);
    other_blocks = λ q s known low other. others q s known low (λ e f. other f);
  }

-- the places of masks depend on the number of blocks alone
pub same_column : {old new : List ℤ} {column : Column} → length new ≡ length old → IsColumn old column → IsColumn new column
same_column {column = column} long is = record {
  block = omega (arith, is.block, long);
  first = is.first ∙ ap (λ n. place (n / 64) column.block 0) (sym long);
  step = is.step ∙ ap (λ n. 2 * width (n / 64) column.block) (sym long);
}
