use Rattle.std.proofs.Common.{◌≡◌, ◌≤◌, ◌-◌, ◌^◌, sym, ap, ◌∙◌, arith, pow_mono}
use Rattle.plane_defs.specs.Codes.{entry}
use Rattle.code_book.specs.Tests.{room, room_of}
use Rattle.plane_defs.proofs.Counting.{sum_last, sum_none}
use Rattle.code_book.proofs.check.room_of.Goals as goal

pub loop-symbol-init : goal.loop-symbol-init
loop-symbol-init c = (sym (sum_none (λ s. room (entry c.args.codes.now s))), omega arith)

pub overflow_add-room : goal.overflow_add-room
overflow_add-room c =
    let len = (entry c.args.codes.now c.loop-symbol.symbol).len in
    let most : 2 ^ (8 - len) ≤ 2 ^ 8 = pow_mono {i = 8 - len} {j = 8} (omega arith) in
    let so_far = c.loop-symbol.invariant.1 in
    omega (arith, most, so_far, c.loop-symbol-test.true, c.ranges.count)

pub loop-symbol-preserved : goal.loop-symbol-preserved
loop-symbol-preserved c =
    let codes = c.args.codes.now in
    let s = c.loop-symbol.symbol in
    let len = (entry codes s).len in
    let most : 2 ^ (8 - len) ≤ 2 ^ 8 = pow_mono {i = 8 - len} {j = 8} (omega arith) in
    let value = c.loop-symbol.invariant.0 in
    let so_far = c.loop-symbol.invariant.1 in
    let next = sum_last (λ s. room (entry codes s)) s in
    (omega (arith, value, next, most), omega (arith, so_far, most))

pub returns-clause-value : goal.returns-clause-value
returns-clause-value c =
    let e : c.loop-symbol.symbol ≡ c.args.count = omega (arith, c.loop-symbol-test.false, c.loop-symbol.auto.symbol-end) in
    c.loop-symbol.invariant.0 ∙ ap (room_of c.args.codes.now) e

pub returns-clause-most : goal.returns-clause-most
returns-clause-most c = let so_far = c.loop-symbol.invariant.1 in omega (arith, so_far, c.loop-symbol.auto.symbol-end)
