use Rattle.std.proofs.lemmas.Result.{err_from_is_err_and}
use Rattle.std.proofs.Common.{arith}
use Rattle.std.proofs.lemmas.Grind.{common_steps}
use Rattle.segment_code.specs.Readers.{by_tables}
use Rattle.segment_code.proofs.FromText.{used_within, fault_decoded}
use Rattle.segment_code.proofs.decode.items_into_clear.Goals as goal

pub returns-in_err-part-clause-decodes : goal.returns-in_err-part-clause-decodes
returns-in_err-part-clause-decodes g c = grind (arith, common_steps, err_from_is_err_and, fault_decoded)

pub end_text-requires-clause-bound : goal.end_text-requires-clause-bound
end_text-requires-clause-bound g c =
    used_within g.I.OctetIn.source (by_tables c.args.terms.now.tables.now c.args.terms.now.restore) c.args.terms.now.head.now
    c.args.terms.now.size c.args.input.now c.take_from.new.input c.take_from.new.blocks c.in_ok-part.part c.in_ok-part.used c.in_ok-part.ensures.takes

pub returns-clause-decodes : goal.returns-clause-decodes
returns-clause-decodes g c =
    c.end_text.ensures (by_tables c.args.terms.now.tables.now c.args.terms.now.restore) c.args.terms.now.size c.args.input.now c.take_from.new.blocks
    c.args.terms.now.tables.now.words.sound c.requires.size c.in_ok-part.ensures.takes
