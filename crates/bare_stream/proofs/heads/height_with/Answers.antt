use Rattle.std.proofs.Common.{rules, ◌≡◌, ◌+◌, ◌-◌, ◌*◌, ◌/◌, arith}
use Rattle.bare_text.specs.Agreement.{height_at}
use Rattle.bare_stream.proofs.Agrees.{ends}
use Rattle.bare_stream.proofs.heads.height_with.Goals as goal

pub overflow_sub-result : goal.overflow_sub-result
overflow_sub-result c =
    let least = (ends c.args.first.now c.args.index c.args.head.now c.requires.agrees c.requires.last).least in
    let is : 8 * ((c.from.result * c.from-2.result + c.from-3.result) / c.from-columns.result) - c.from-4.result ≡ height_at c.args.first.now c.args.index
    c.args.head.now = search rules in
    omega (arith, least, is)

pub overflow_cast-result : goal.overflow_cast-result
overflow_cast-result c =
    let most = (ends c.args.first.now c.args.index c.args.head.now c.requires.agrees c.requires.last).most in
    let is : 8 * ((c.from.result * c.from-2.result + c.from-3.result) / c.from-columns.result) - c.from-4.result ≡ height_at c.args.first.now c.args.index
    c.args.head.now = search rules in
    omega (arith, most, is)
