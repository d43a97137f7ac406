use Rattle.std.proofs.Common.{◌∙◌, sym}
use Rattle.encoder_rows.proofs.Opening.{field_named}
use Rattle.encoder_rows.proofs.encoder.Encoder.new.Goals as goal

pub returns-in-Err : goal.returns-in-Err
returns-in-Err c = field_named _ c.in-Err.out (sym c.check.ensures.first ∙ c.in-Err.is)
