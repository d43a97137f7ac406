use Rattle.std.proofs.Common.{◌≡◌, ℕ, ◌<◌, ◌+◌, ◌-◌, ◌^◌, get_or}
use Rattle.number_defs.specs.Gaggles.{value_at}
use Rattle.gaggle_codes.specs.Written.{heights_of}
use Rattle.gaggle_codes.proofs.numbers.Numbers.map_values.Given as goal

abbrev pub invariant-loop-i : goal.invariant-loop-i
invariant-loop-i l = record {
  previous : l.before ≡ get_or (heights_of l.self) (l.from + l.i - 1) 0;
  small : l.before < 2 ^ l.self.range.bits;
  is : (k : ℕ) → k < l.i → get_or l.into k 0 ≡ value_at l.self.range.bits (heights_of l.self) (l.from + k);
  below : (k : ℕ) → k < l.i → get_or l.into k 0 < 2 ^ l.self.range.bits;
}
