use Rattle.std.proofs.Common.{◌≡◌, ◌*◌, length, arith}
use Rattle.std.proofs.lemmas.Result.{err_from_is_err_and}
use Rattle.bit_pipe.proofs.ScriptReading.{in_read}
use Rattle.segment_defs.specs.TextWish.{TextWish}
use Rattle.segment_code.proofs.StartReads.{text_fault, text_cut, text_stops, depths_fault, depths_cut, awaits_planes}
use Rattle.segment_code.proofs.start.take_start.Goals as goal

pub returns-in_err-part : goal.returns-in_err-part
returns-in_err-part g c = λ book.
    let wish : TextWish = record { book = book; restore = c.args.restore } in
    let long : length c.args.blocks.now ≡ 64 * c.args.head.now.blocks = omega (arith, c.requires.count, c.requires.marks) in
    let e = err_from_is_err_and c.from_residual.result c.from_residual.ensures.1 in
    let p = c.plan_of-plan.ensures in
    let t = rw (p.dc, p.ac, p.shift) at c.in_err-part.ensures.takes in
    rw (e.1, e.2) (record {
      ends = text_fault wish c.args.head.now long c.requires.clear _ t;
    })

pub returns-in_default : goal.returns-in_default
returns-in_default g c = λ book.
    let wish : TextWish = record { book = book; restore = c.args.restore } in
    let long : length c.args.blocks.now ≡ 64 * c.args.head.now.blocks = omega (arith, c.requires.count, c.requires.marks) in
    let p = c.plan_of-plan.ensures in
    let t = rw (p.dc, p.ac, p.shift, c.in_default.is) at c.in_ok-part.ensures.takes in
    record {
      ends = text_cut wish c.args.head.now long c.requires.clear _ t
          c.end_at_dcs.ensures;
    }

pub returns-then-head : goal.returns-then-head
returns-then-head g c = λ book.
    let wish : TextWish = record { book = book; restore = c.args.restore } in
    let long : length c.args.blocks.now ≡ 64 * c.args.head.now.blocks = omega (arith, c.requires.count, c.requires.marks) in
    let p = c.plan_of-plan.ensures in
    let t = rw (p.dc, p.ac, p.shift, c.in-Whole.is) at c.in_ok-part.ensures.takes in
    record {
      ends = text_stops wish c.args.head.now long c.requires.clear _ t
          c.requires.open c.if-head.true c.end_at_dcs-then-head.ensures;
    }

pub take_depths-requires-clause-open : goal.take_depths-requires-clause-open
take_depths-requires-clause-open g c = in_read c.requires.open (rw c.in-Whole.is at c.in_ok-part.ensures.takes).read

pub returns-in_err-take_depths : goal.returns-in_err-take_depths
returns-in_err-take_depths g c = λ book.
    let wish : TextWish = record { book = book; restore = c.args.restore } in
    let long : length c.args.blocks.now ≡ 64 * c.args.head.now.blocks = omega (arith, c.requires.count, c.requires.marks) in
    let e = err_from_is_err_and c.from_residual-in_err-take_depths.result c.from_residual-in_err-take_depths.ensures.1 in
    let p = c.plan_of-plan.ensures in
    let t = rw (p.dc, p.ac, p.shift, c.in-Whole.is) at c.in_ok-part.ensures.takes in
    rw (e.1, e.2) (record {
      ends = depths_fault wish c.args.head.now long c.requires.clear _ t
          c.if-head.false (omega (arith, c.take_depths.auto.marks, c.requires.marks)) _ c.in_err-take_depths.ensures;
    })

pub returns-in_default-2 : goal.returns-in_default-2
returns-in_default-2 g c = λ book.
    let wish : TextWish = record { book = book; restore = c.args.restore } in
    let long : length c.args.blocks.now ≡ 64 * c.args.head.now.blocks = omega (arith, c.requires.count, c.requires.marks) in
    let p = c.plan_of-plan.ensures in
    let t = rw (p.dc, p.ac, p.shift, c.in-Whole.is) at c.in_ok-part.ensures.takes in
    record {
      ends = depths_cut wish c.args.head.now long c.requires.clear _ t
          c.if-head.false (omega (arith, c.take_depths.auto.marks, c.requires.marks)) (rw c.in_default-2.is at c.in_ok-take_depths.ensures)
          c.end_at_dcs-in_default-2.ensures;
    }

pub returns : goal.returns
returns g c = λ book.
    let wish : TextWish = record { book = book; restore = c.args.restore } in
    let long : length c.args.blocks.now ≡ 64 * c.args.head.now.blocks = omega (arith, c.requires.count, c.requires.marks) in
    let p = c.plan_of-plan.ensures in
    let t = rw (p.dc, p.ac, p.shift, c.in-Whole.is) at c.in_ok-part.ensures.takes in
    let d = rw c.in-Whole-2.is at c.in_ok-take_depths.ensures in
    record {
      ends = awaits_planes wish c.args.head.now long c.requires.clear
          _ t c.if-head.false (omega (arith, c.take_depths.auto.marks, c.requires.marks)) c.requires.fits c.requires.open d;
    }
