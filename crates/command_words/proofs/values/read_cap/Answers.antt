use Rattle.std.proofs.Common.{arith, ◌≡◌, decimal, ap, sym, ◌∙◌, Ok}
use Rattle.std.proofs.lemmas.Fmt.{parse-decimal}
use Rattle.std.proofs.lemmas.Bool.{false≢true}
use Rattle.command_words.proofs.values.read_cap.Goals.{else-number-le-MOST-via-then-number-le-MOST+else-is_written_so}
use Rattle.command_words.proofs.values.read_cap.Goals.{else-number-le-MOST-via-else-number-le-MOST}
use Rattle.command_words.proofs.values.read_cap.Goals as goal

pub returns-in_default : goal.returns-in_default
returns-in_default c n lt is =
    let right : c.parse.result ≡ Ok n = parse-decimal 64 n c.args.text.now c.parse.result (omega arith) (omega arith) is c.parse.ensures.value.0 in
    let wrong = c.in_default.is in
    cc

pub returns-else-number-le-MOST : goal.returns-else-number-le-MOST
returns-else-number-le-MOST c n le is =
    let right : c.parse.result ≡ Ok n = parse-decimal 64 n c.args.text.now c.parse.result (omega arith) (omega arith) is c.parse.ensures.value.0 in
    let same : c.in-Ok.number ≡ n = let h = c.in-Ok.is in cc in
    elim c.else-number-le-MOST.branch [
      | else-number-le-MOST-via-then-number-le-MOST+else-is_written_so w ↦ false≢true
          (sym w.if-is_written_so.false ∙ w.is_written_so.ensures.1 (is ∙ ap decimal (sym same)))
      | else-number-le-MOST-via-else-number-le-MOST w ↦ omega (arith, w.if-number-le-MOST.false, same, le)
    ]
