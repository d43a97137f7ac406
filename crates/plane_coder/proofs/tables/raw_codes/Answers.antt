use Rattle.std.proofs.Common.{replicate}
use Rattle.base_122.specs.Profile.{no_code}
use Rattle.plane_coder.proofs.CodeRows.{raw_coded}
use Rattle.plane_coder.proofs.tables.raw_codes.Goals as goal

pub returns : goal.returns
returns c book v below = raw_coded book (replicate 14 no_code) v below
