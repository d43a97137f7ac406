use Rattle.std.proofs.Common.{rules, ◌≡◌, ◌≤◌, ◌<◌, ◌*◌, ◌^◌, sym, ◌∙◌, arith}
use Rattle.bare_text.specs.Agreement.{height_at}
use Rattle.bare_stream.proofs.Agrees.{pixels_last, product_fits, few_blocks}
use Rattle.bare_stream.proofs.heads.pixels_with.Goals as goal

pub returns-then-head : goal.returns-then-head
returns-then-head c =
    let last = pixels_last c.args.first.now c.args.index c.args.head.now c.requires.agrees c.if-head.true in
    let is : c.from-width.result * c.from.result ≡ c.args.first.now.image.width * height_at c.args.first.now c.args.index c.args.head.now = search rules in
    is ∙ sym last

pub overflow_mul-result-2 : goal.overflow_mul-result-2
overflow_mul-result-2 c =
    let wide = c.requires.first.image.width.1 in
    let few = few_blocks c.args.first.now c.args.index c.args.head.now c.requires.agrees c.if-head.false wide in
    let width : c.from-width.result < 2 ^ 20 = search rules in
    let rows : c.max.result ≤ 2 ^ 36 = search rules in
    let low = product_fits c.from-width.result c.max.result width rows in
    omega (arith, low)
