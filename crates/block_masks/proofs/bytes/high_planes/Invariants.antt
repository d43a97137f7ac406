use Rattle.std.proofs.Common.{◌≡◌}
use Rattle.block_masks.specs.ByteLists.{bytes_in}
use Rattle.block_masks.proofs.ByteLanes.{HasHighest}
use Rattle.block_masks.proofs.bytes.high_planes.Given as goal

abbrev pub invariant-loop-doublings : goal.invariant-loop-doublings
invariant-loop-doublings l = record {
  first : l.first ≡ bytes_in l.block 0 l.from l.doublings;
  second : l.second ≡ bytes_in l.block 16 l.from l.doublings;
  third : l.third ≡ bytes_in l.block 32 l.from l.doublings;
  fourth : l.fourth ≡ bytes_in l.block 48 l.from l.doublings;
  masks : HasHighest l.block l.from l.doublings l.masks;
}
