-- Numbers whose items are not refused are not too great.
use Rattle.std.proofs.Common.{◌≡◌, ℕ, ◌^◌, ◌<◌, ◌≤◌, List, get_or, Bool, false, cond, arith, Some, None}
use Rattle.std.proofs.lemmas.Bool.Decides.{nat_tests}
use Rattle.item_defs.specs.Items.{Refusal}
use Rattle.number_defs.specs.Gaggles.{Kind}
use Rattle.number_defs.specs.Depths.{depth_bits}
use Rattle.number_defs.specs.Laws.{AreFew}
use Rattle.number_defs.proofs.SegmentSteps.{few_anywhere}

not_refused : (test : Bool) (name : Refusal) → cond test (Some name) None ≡ None → test ≡ false
not_refused test name e = grind (arith, nat_tests)

module _ (kind : Kind) (xs : List ℕ) (few : (i : ℕ) → get_or xs i 0 < 2 ^ kind.bits) where
  abbrev Allowed : ℕ → Type 0
  Allowed i = kind.too_great (get_or xs i 0) ≡ false

-- ---- block depths

few_bits : (depth_ac : ℕ) → depth_ac ≤ 1 → depth_bits depth_ac ≡ depth_ac
few_bits depth_ac le = grind (arith, nat_tests)

-- depths of at most one bit are not too great
low_depths : (depth_ac : ℕ) (xs : List ℕ) → depth_ac ≤ 1 → AreFew (depth_bits depth_ac) xs → (i : ℕ) → get_or xs i 0 ≤ depth_ac
low_depths depth_ac xs le few i = grind (arith, nat_tests, few_anywhere, few_bits)
