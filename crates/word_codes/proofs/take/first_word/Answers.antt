use Rattle.std.proofs.Common.{◌∙◌, arith, sym}
use Rattle.bit_pipe.proofs.WindowBits.{first_octet}
use Rattle.word_codes.proofs.take.first_word.Goals as goal

pub returns-clause-first : goal.returns-clause-first
returns-clause-first c = λ some.
    let it = c.first_prefix-prefix.ensures in
    it.first some ∙ sym (first_octet c.first_prefix-prefix.result.len c.args.window it.few)
