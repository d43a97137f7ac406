-- One block of many.
use Rattle.std.proofs.Common.{◌≡◌, ℕ, ◌+◌, ◌*◌, ◌<◌, ◌≤◌, ℤ, pos, List, [], length, take, drop, ap, ◌∙◌, arith, get_or}
use Rattle.std.proofs.lemmas.List.{get_or-take, get_or-drop}
use Rattle.std.proofs.lemmas.List.FromFn.{get_or-map-range_with_len}
use Rattle.std.proofs.lemmas.Bool.Decides.{nat_tests}
use Rattle.plane_defs.specs.declared.stages.Stage.{Stage}
use Rattle.plane_defs.specs.Entries.{block_entries}
use Rattle.wave_defs.specs.Held.{block_at, blocks_in}
use Rattle.plane_defs.specs.Marks.{depth_of, depths_of}
use Rattle.block_masks.proofs.Marking.{depth_there}
use Rattle.wave_defs.proofs.Equations.{blocks_in-is}

block_there : (numbers : List ℤ) (r : ℕ) → 64 * r + 64 ≤ length numbers → get_or (blocks_in numbers) r [] ≡ take 64 (drop (64 * r) numbers)
block_there numbers r within = rw blocks_in-is (grind (arith, nat_tests, get_or-map-range_with_len))

pub stage_there : (stage : Stage) (numbers marks : List ℤ) (weights : List ℕ) (plane q r d : ℕ) → length numbers ≡ 64 * length marks → r < length marks →
    d ≡ depth_of (get_or marks r (pos 0)) →
    block_entries stage (block_at numbers r) d weights plane q ≡ block_entries stage (get_or (blocks_in numbers) r []) (get_or (depths_of marks) r 0)
    weights plane q
stage_there stage numbers marks weights plane q r d whole within is = grind (arith, nat_tests, block_there, depth_there)

-- the DC of a block
pub dc_there : (numbers : List ℤ) (r : ℕ) → get_or (block_at numbers r) 0 (pos 0) ≡ get_or numbers (64 * r) (pos 0)
dc_there numbers r =
    let start : 64 * r + 0 ≡ 64 * r = omega arith in
    get_or-take 64 (drop (64 * r) numbers) 0 (pos 0) (omega arith) ∙ get_or-drop (64 * r) numbers 0 (pos 0) ∙ ap (λ n. get_or numbers n (pos 0)) start
