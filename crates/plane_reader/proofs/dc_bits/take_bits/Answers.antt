use Rattle.std.proofs.Common.{◌≡◌, suc, ◌<◌, ◌+◌, ◌-◌, ◌*◌, length, arith}
use Rattle.std.proofs.lemmas.Result.{err_from_is_err_and}
use Rattle.plane_reader.proofs.DcReads.{others_kept, others_then, dcs_start, dcs_done, dcs_cut, dcs_fault, dcs_more, dc_before}
use Rattle.plane_reader.proofs.dc_bits.take_bits.Goals as goal

pub loop-r-init : goal.loop-r-init
loop-r-init g c = record {
  reading = c.requires.reading;
  keeps = others_kept c.args.cells.now;
  left = λ numbers marks whole cleared have. dcs_start (length numbers) (length numbers - 0) (omega arith) c.requires.reading.is_in have;
}

pub returns-in_err-bit-clause-bits : goal.returns-in_err-bit-clause-bits
returns-in_err-bit-clause-bits g c = λ numbers marks whole cleared have.
    let e = err_from_is_err_and c.from_residual.result c.from_residual.ensures.1 in
    let i = c.loop-r.invariant in
    let r = c.loop-r.r in
    let inside : 64 * r < length c.loop-r.cells = omega (arith, c.loop-r-test.true, i.keeps.long) in
    let more : length numbers - r ≡ suc (length numbers - (r + 1)) = omega (arith, whole, inside, i.keeps.long) in
    rw (e.1, e.2) (dcs_fault more inside (i.left numbers marks whole cleared have) _ c.in_err-bit.ensures.flag)

pub returns-in_default-clause-bits : goal.returns-in_default-clause-bits
returns-in_default-clause-bits g c = λ numbers marks whole cleared have.
    let x = rw c.in_default.is at c.in_ok-bit.ensures in
    let i = c.loop-r.invariant in
    let r = c.loop-r.r in
    let inside : 64 * r < length c.loop-r.cells = omega (arith, c.loop-r-test.true, i.keeps.long) in
    let more : length numbers - r ≡ suc (length numbers - (r + 1)) = omega (arith, whole, inside, i.keeps.long) in
    dcs_cut more inside (i.left numbers marks whole cleared have) x.flag

pub loop-r-preserved : goal.loop-r-preserved
loop-r-preserved g c =
    let x = rw c.in-Some.is at c.in_ok-bit.ensures in
    let i = c.loop-r.invariant in
    let r = c.loop-r.r in
    let inside : 64 * r < length c.loop-r.cells = omega (arith, c.loop-r-test.true, i.keeps.long) in
    let gives = rw c.of-column.ensures.block at c.give_dc.ensures in
    record {
      reading = x.reading;
      keeps = others_then i.keeps gives.keeps;
      left = λ numbers marks whole cleared have.
          let more : length numbers - r ≡ suc (length numbers - (r + 1)) = omega (arith, whole, inside, i.keeps.long) in
          let l = i.left numbers marks whole cleared have in
          let before = dc_before inside l (cleared r (omega (arith, whole, inside, i.keeps.long))) in
          dcs_more more inside l c.requires.low c.in-Some.bit gives before x.is_in x.flag;
    }

pub returns-clause-bits : goal.returns-clause-bits
returns-clause-bits g c = λ numbers marks whole cleared have.
    let i = c.loop-r.invariant in
    dcs_done (omega (arith, whole, c.loop-r-test.false, i.keeps.long, c.loop-r.auto.r-end)) (i.left numbers marks whole cleared have)
