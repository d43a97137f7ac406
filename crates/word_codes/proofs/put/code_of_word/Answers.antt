use Rattle.std.proofs.Common.{ap, ◌<◌, ◌≤◌, ◌+◌, ◌∙◌, arith}
use Rattle.plane_defs.specs.Codes.{symbol, code_bits}
use Rattle.plane_defs.proofs.Tables.{code_len}
use Rattle.word_codes.proofs.CodedItems.{coded_bits}
use Rattle.word_codes.proofs.put.code_of_word.Goals as goal

pub trimmed-requires : goal.trimmed-requires
trimmed-requires c =
    let coded : c.args.option + 1 < c.args.length = omega (arith, c.requires.known) in
    let sized = code_len c.args.book.now c.args.length c.args.option (symbol c.args.length c.args.word) c.requires.sound c.requires.short c.requires.long
    coded c.code_of.ensures.within in
    rw c.code_of.ensures.code sized

pub returns-clause-code : goal.returns-clause-code
returns-clause-code c =
    let coded : c.args.option + 1 < c.args.length = omega (arith, c.requires.known) in
    c.trimmed.ensures.same ∙ ap code_bits c.code_of.ensures.code ∙ coded_bits c.args.book.now c.args.length c.args.option c.args.word coded
    c.code_of.ensures.within

pub returns-clause-few : goal.returns-clause-few
returns-clause-few c =
    let coded : c.args.option + 1 < c.args.length = omega (arith, c.requires.known) in
    let sized = code_len c.args.book.now c.args.length c.args.option (symbol c.args.length c.args.word) c.requires.sound c.requires.short c.requires.long
    coded c.code_of.ensures.within in
    let short : c.code_of.result.len ≤ 8 = rw c.code_of.ensures.code sized in
    omega (arith, short, c.trimmed.ensures.len)
