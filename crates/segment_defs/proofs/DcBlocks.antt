-- Blocks that have only DC numbers.
use Rattle.std.proofs.Common.{◌≡◌, ◌≤◌, ◌<◌, ℕ, zero, suc, List, [], ◌∷◌, length, ap, ◌∙◌, arith, ℤ, pos}
use Rattle.std.specs.Prelude.{replicate}
use Rattle.std.specs.Int.RustNames.{unsigned_abs}
use Rattle.std.proofs.lemmas.List.{get_or-replicate}
use lib.ListN.{get_or}
use Rattle.plane_defs.specs.Sets.{magnitude}
use Rattle.plane_defs.specs.StepLaws.{IsAc}
use Rattle.plane_defs.proofs.SpanLists.{length-map-span, get_or-map-span}
use Rattle.segment_defs.specs.Segments.{dc_blocks}

module _ (count : ℕ) (dcs : ℕ → ℤ) where
  abbrev block : ℕ → List ℤ
  block r = dcs r ∷ replicate 63 (pos 0)

  pub dcs_long : length (dc_blocks count dcs) ≡ count
  dcs_long = length-map-span block count

  at : (r : ℕ) → r < count → get_or (dc_blocks count dcs) r [] ≡ block r
  at r lt = get_or-map-span block count r [] lt

  pub dcs_first : (r : ℕ) → r < count → get_or (get_or (dc_blocks count dcs) r []) 0 (pos 0) ≡ dcs r
  dcs_first r lt = ap (λ l. get_or l 0 (pos 0)) (at r lt)

  zeros : (p : ℕ) (dc : ℤ) → IsAc p → magnitude (dc ∷ replicate 63 (pos 0)) p ≡ 0
  zeros zero dc ac = absurd (let some : 1 ≤ 0 = ac.0 in omega (arith, some))
  zeros (suc i) dc ac = ap unsigned_abs (get_or-replicate 63 i (pos 0) (pos 0) (let few : suc i < 64 = ac.1 in omega (arith, few)))

  pub dcs_others : (r p : ℕ) → r < count → IsAc p → magnitude (get_or (dc_blocks count dcs) r []) p ≡ 0
  dcs_others r p lt ac = ap (λ l. magnitude l p) (at r lt) ∙ zeros p (dcs r) ac
