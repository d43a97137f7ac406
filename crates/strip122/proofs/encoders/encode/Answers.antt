use Rattle.std.proofs.Common.{inl, inr}
use Rattle.strip122.proofs.Encoded.{lacks_memory}
use Rattle.strip122.proofs.encoders.encode.Goals as goal

pub returns-in_default-clause-runs : goal.returns-in_default-clause-runs
returns-in_default-clause-runs g c = inl (lacks_memory _ _ c.note_line.ensures)

pub returns-clause-runs : goal.returns-clause-runs
returns-clause-runs g c = inr c.encode_raster.ensures.runs
