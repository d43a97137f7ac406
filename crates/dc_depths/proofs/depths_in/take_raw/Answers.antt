use Rattle.std.proofs.Common.{◌≡◌, ◌<◌, ◌^◌, arith, pos, w32, to_z}
use Rattle.std.proofs.lemmas.Int.{to_z_pos}
use Rattle.std.proofs.lemmas.Result.{err_from_is_err_and}
use Rattle.bit_pipe.proofs.Taking.{in_later}
use Rattle.dc_depths.proofs.DepthReads.{raw_start, raw_more, raw_ended, raw_failed, raw_all}
use Rattle.dc_depths.proofs.depths_in.take_raw.Goals as goal

pub loop-place-init : goal.loop-place-init
loop-place-init g c = record { is_in = c.requires.open; so_far = raw_start _ c.args.marks.now c.requires.none }

pub loop-place-preserved : goal.loop-place-preserved
loop-place-preserved g c =
    let i = c.loop-place.invariant in
    let h = rw c.in-Some.is at c.in_ok-bit.ensures in
    let small : c.in-Some.bit < 2 ^ 1 = h.ends.0 in
    let number : to_z w32 c.in-Some.bit ≡ pos c.in-Some.bit = to_z_pos w32 c.in-Some.bit (omega (arith, small)) in
    rw number (record {
      is_in = in_later i.is_in h.ends.1;
      so_far = raw_more c.loop-place.place i.so_far (omega arith) _ c.in-Some.bit (omega arith) (omega (arith, small)) h.ends;
    })

pub returns-in_err-bit : goal.returns-in_err-bit
returns-in_err-bit g c =
    let p = err_from_is_err_and c.from_residual.result c.from_residual.ensures.1 in
    rw (p.1, p.2) (raw_failed c.loop-place.place c.loop-place.invariant.so_far (omega arith) _ c.in_err-bit.ensures.ends)

pub returns-in_default : goal.returns-in_default
returns-in_default g c =
    let h = rw c.in_default.is at c.in_ok-bit.ensures in
    raw_ended c.loop-place.place c.loop-place.invariant.so_far (omega arith) h.ends

pub returns : goal.returns
returns g c = raw_all c.loop-place.place c.loop-place.invariant.so_far c.loop-place.invariant.is_in (omega arith)
