use Rattle.std.proofs.Common.{◌≡◌, take}
use Rattle.segment_defs.specs.Size.{greatest}
use Rattle.segment_defs.specs.Depths.{signed_size}
use Rattle.segment_code.proofs.depths.greatest_dc_depth.Given as goal

abbrev pub invariant-loop-dc : goal.invariant-loop-dc
invariant-loop-dc l = l.most ≡ greatest signed_size (take l.dc-index l.dcs)
