-- How many stages of a bit plane are sent.
use Rattle.std.proofs.Common.{◌≡◌, ◌≤◌, ◌<◌, ℕ, arith}
use Rattle.std.proofs.lemmas.Bool.Decides.{nat_tests}
use Rattle.segment_defs.specs.declared.head.SegmentHead.{SegmentHead}
use Rattle.segment_defs.specs.SegmentItems.{stages_sent}
use Rattle.segment_defs.specs.TextLaws.{HasAllPlanes}

pub sent_most : (head : SegmentHead) (b : ℕ) → head.stop.stage < 4 → stages_sent head b ≤ 5
sent_most head b lt = grind (arith, nat_tests)

pub all_sent : (head : SegmentHead) → HasAllPlanes head → (b : ℕ) → stages_sent head b ≡ 5
all_sent head all b = let p = all.plane in let s = all.stage in grind (arith, nat_tests)
