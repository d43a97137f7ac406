use Rattle.std.proofs.Common.{sym, arith}
use Rattle.code_book.proofs.Clashes.{clash_test, clash_test_back}
use Rattle.code_book.proofs.check.clashes.Goals as goal

pub returns-then-a-b : goal.returns-then-a-b
returns-then-a-b c = sym (clash_test c.args.a c.args.b c.requires.a c.requires.b c.if-a-b.true)

pub returns : goal.returns
returns c = sym (clash_test_back c.args.a c.args.b c.requires.a c.requires.b (omega (arith, c.if-a-b.false)))
