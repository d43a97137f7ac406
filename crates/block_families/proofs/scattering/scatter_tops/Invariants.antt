use Rattle.std.proofs.Common.{◌≡◌}
use Rattle.block_families.specs.Scattering.{PutsBack}
use Rattle.block_families.proofs.scattering.scatter_tops.Given as goal

abbrev pub invariant-loop-position : goal.invariant-loop-position
invariant-loop-position g l = record {
  columns : g.B.BandSink.columns l.bands ≡ g.B.BandSink.columns l.initial.bands;
  valid : g.B.BandSink.valid l.bands ≡ g.B.BandSink.valid l.initial.bands;
  keeps : g.B.BandSink.keeps l.initial.bands l.bands;
  puts : PutsBack l.weights.shifts l.column l.from 0 l.position (g.B.BandSink.number l.initial.bands) (g.B.BandSink.number l.bands);
}
