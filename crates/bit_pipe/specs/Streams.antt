-- What is known of the slices that octets are read from.
use Rattle.std.specs.Prelude.{ℕ, List, drop, Some}
use Rattle.bit_pipe.specs.Sources.{Plainly, SourceOf}
use Rattle.bit_pipe.specs.declared.slice_in.SliceIn.{SliceIn}

-- the octets that are left
abbrev pub octets_left : SliceIn → List ℕ
octets_left s = drop s.next s.octets.now

-- it has its octets, and no call fails
abbrev pub slice_source : SourceOf SliceIn
slice_source = record {
  tail = λ s. Some (record { octets = octets_left s; ends = Plainly });
  buffer = octets_left;
  faults = λ s. 0;
  Went = λ s t. Unit {0};
  went_none = λ s. tt;
  went_both = λ s t u p q. tt;
}
