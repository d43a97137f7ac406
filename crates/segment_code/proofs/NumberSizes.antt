-- The sizes of a block's numbers, by its depths.
use Rattle.std.proofs.Common.{◌≡◌, ◌<◌, ◌≤◌, ℕ, add-one, ◌+◌, ◌-◌, ◌*◌, ◌^◌, max, inl, inr, ap, ◌∙◌, subst, arith, ℤ, pos, negsuc, unsigned_abs, List}
use Rattle.std.proofs.Common.{length, get_or, drop, get_or-drop, length-drop, pow_mono, pow_pos}
use native.Mathlib.Nat.{pow-suc}
use Rattle.std.proofs.lemmas.Bool.{cases_lt, cases_eq}
use Rattle.std.proofs.lemmas.List.{get_or_past}
use Rattle.plane_defs.specs.Sets.{magnitude}
use Rattle.segment_defs.specs.Size.{size_of}
use Rattle.segment_defs.specs.Depths.{dc_of, signed_size, block_depth}
use Rattle.segment_defs.proofs.Sizes.{size_is}
use Rattle.segment_defs.proofs.DepthLaws.{each_above}
use Rattle.segment_code.specs.Numbers.{AreBounded}

size_below : (m D : ℕ) → size_of m ≤ D → m < 2 ^ D
size_below m D le =
    let below : m < 2 ^ size_of m = (size_is m).holds in
    let most : 2 ^ size_of m ≤ 2 ^ D = pow_mono le in
    omega (arith, below, most)

signed_below : (z : ℤ) (D : ℕ) → signed_size z ≤ D → unsigned_abs z < 2 ^ D
signed_below (pos a) D le = size_below a D (omega (arith, le))
signed_below (negsuc a) D le =
    let below : a < 2 ^ size_of a = (size_is a).holds in
    let next : 2 ^ (size_of a + 1) ≡ 2 ^ size_of a * 2 = rw add-one (pow-suc 2 (size_of a)) in
    let most : 2 ^ (size_of a + 1) ≤ 2 ^ D = pow_mono le in
    omega (arith, below, next, most)

module _ (block : List ℤ) (whole : length block ≡ 64) where
  past_below : (k D : ℕ) → 64 ≤ k → magnitude block k < 2 ^ D
  past_below k D past = rw (get_or_past block k (pos 0) (omega (arith, whole, past))) (pow_pos D)

  ac_below : (k D : ℕ) → 0 < k → block_depth block ≤ D → magnitude block k < 2 ^ D
  ac_below k D some le = elim (cases_lt k 64) [
    | inl low ↦
        let next : 1 + (k - 1) ≡ k = omega (arith, some) in
        let cell : get_or (drop 1 block) (k - 1) (pos 0) ≡ get_or block k (pos 0) =
        get_or-drop 1 block (k - 1) (pos 0) ∙ ap (λ j. get_or block j (pos 0)) next in
        let inside : k - 1 < length (drop 1 block) = omega (arith, some, low, whole, length-drop 1 block) in
        let in_block : size_of (unsigned_abs (get_or (drop 1 block) (k - 1) (pos 0))) ≤ block_depth block =
        each_above (λ z. size_of (unsigned_abs z)) 0 (drop 1 block) (k - 1) (pos 0) inside in
        subst (λ z. unsigned_abs z < 2 ^ D) cell (size_below (unsigned_abs (get_or (drop 1 block) (k - 1) (pos 0))) D (omega (arith, in_block, le)))
    | inr past ↦ past_below k D past
  ]

  -- all numbers are below the power of 2 of the greater depth
  pub all_below : (A D : ℕ) → A ≡ block_depth block → D ≡ signed_size (dc_of block) → (k : ℕ) → magnitude block k < 2 ^ max A D
  all_below A D ac dc k = elim (cases_eq k 0) [
    | inl is ↦ rw is (signed_below (get_or block 0 (pos 0)) (max A D) (omega (arith, dc)))
    | inr other ↦ ac_below k (max A D) (omega (arith, other)) (omega (arith, ac))
  ]

  pub ac_small : AreBounded block → (k : ℕ) → 0 < k → magnitude block k < 2 ^ 27
  ac_small bounded k some = elim (cases_lt k 64) [
    | inl low ↦ elim (bounded.at k (omega (arith, whole, low))) [
      | inl below ↦ below
      | inr least ↦ absurd (omega (arith, least.0, some, low))
    ]
    | inr past ↦ past_below k 27 past
  ]
