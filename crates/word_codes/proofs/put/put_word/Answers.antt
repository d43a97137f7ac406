use Rattle.std.proofs.Common.{◌≡◌, ◌<◌, ◌≤◌, ◌+◌, ap, ◌∙◌, arith}
use Rattle.plane_defs.specs.Codes.{code_bits}
use Rattle.plane_defs.proofs.Tables.{code_len}
use Rattle.item_defs.specs.Bits.{bits_of}
use Rattle.item_defs.specs.Items.{item_bits}
use Rattle.plane_defs.specs.Codes.{symbol, word_item}
use Rattle.word_codes.proofs.CodedItems.{coded_bits}
use Rattle.word_codes.proofs.put.put_word.Goals as goal

pub put_bits-requires-2-clause-count : goal.put_bits-requires-2-clause-count
put_bits-requires-2-clause-count g c =
    let coded : c.args.option + 1 < c.args.length = omega (arith, c.requires.known) in
    let short = code_len c.args.book.now c.args.length c.args.option (symbol c.args.length c.args.word) c.requires.sound c.requires.short c.requires.long
    coded c.code_of-code.ensures.within in
    let eight : c.code_of-code.result.len ≤ 8 = rw c.code_of-code.ensures.code short in omega arith

pub returns : goal.returns
returns g c =
    let coded : c.args.option + 1 < c.args.length = omega (arith, c.requires.known) in
    let item = coded_bits c.args.book.now c.args.length c.args.option c.args.word coded c.code_of-code.ensures.within in
    let bits : bits_of c.code_of-code.result.len c.from-2.result ≡ item_bits (word_item c.args.book.now c.args.length c.args.option c.args.word) =
    ap (bits_of c.code_of-code.result.len) c.from-2.ensures ∙ ap code_bits c.code_of-code.ensures.code ∙ item in
    rw (← bits) c.put_bits-2.ensures
