use Rattle.std.proofs.Common.{arith, ◌≡◌, decimal, ap, sym, ◌∙◌, Ok}
use Rattle.std.proofs.lemmas.Fmt.{parse-decimal}
use Rattle.std.proofs.lemmas.Bool.{false≢true}
use Rattle.command_words.proofs.values.read_number.Goals as goal

pub returns-in_default : goal.returns-in_default
returns-in_default c n lt is =
    let right : c.parse.result ≡ Ok n = parse-decimal 32 n c.args.text.now c.parse.result lt (omega arith) is c.parse.ensures.value.0 in
    let wrong = c.in_default.is in
    cc

pub returns-else-is_written_so : goal.returns-else-is_written_so
returns-else-is_written_so c n lt is =
    let right : c.parse.result ≡ Ok n = parse-decimal 32 n c.args.text.now c.parse.result lt (omega arith) is c.parse.ensures.value.0 in
    let same : c.in-Ok.number ≡ n = let h = c.in-Ok.is in cc in
    false≢true (sym c.if-is_written_so.false ∙ c.is_written_so.ensures.1 (is ∙ ap decimal (sym (c.from.ensures ∙ same))))
