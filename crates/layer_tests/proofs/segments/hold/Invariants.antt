use Rattle.std.proofs.Common.{◌≡◌, ◌*◌, take}
use Rattle.layer_tests.proofs.segments.hold.Given as goal

abbrev pub invariant-loop-r : goal.invariant-loop-r
invariant-loop-r l = record {
  most : l.segment.most ≡ l.initial.segment.most;
  numbers : l.segment.numbers ≡ take (64 * l.r) l.numbers;
}
