use Rattle.std.proofs.Common.{◌≡◌, ◌-◌, ap, sym, subst, arith, get_or, flat_map}
use Rattle.std.proofs.lemmas.Result.{err_from_is_err_and}
use Rattle.item_defs.specs.Bits.{bits_of}
use Rattle.bit_pipe.specs.SinkState.{sink_state, Adds}
use Rattle.bit_pipe.proofs.Putting.{adds_start, adds_then, puts_whole, open_later}
use Rattle.plane_defs.specs.Spans.{span}
use Rattle.plane_coder.proofs.Keeping.{bits_at, no_masks, one_mask_more}
use Rattle.plane_coder.proofs.KeptBits.{mask_ended}
use Rattle.plane_coder.proofs.kept.put_kept.Goals as goal

pub loop-m-init : goal.loop-m-init
loop-m-init g c =
    let k = g.O.OctetOut.sink in
    let s = sink_state k c.args.out.now in
    let masks = c.args.kept.free.now in
    record {
      so_far = subst (Adds k s s) (sym (no_masks masks c.args.kept.from)) (adds_start k s c.requires.«open»);
      is_open = c.requires.«open»;
      order =
          omega arith;
      most = omega arith;
    }

pub put_long-requires-clause-bound : goal.put_long-requires-clause-bound
put_long-requires-clause-bound g c = c.loop-m.invariant.is_open

pub loop-m-preserved : goal.loop-m-preserved
loop-m-preserved g c =
    let k = g.O.OctetOut.sink in
    let i = c.loop-m.invariant in
    let masks = c.args.kept.free.now in
    let mask = get_or masks c.loop-m.m 0 in
    let bits : bits_of c.width_of.result mask ≡ bits_at masks c.loop-m.m = ap (λ n. bits_of n mask) c.width_of.ensures.width in
    let put = c.in_ok-put_long.ensures.ends in
    record {
      so_far = subst (Adds k (sink_state k c.args.out.now) (sink_state k c.put_long.new.self)) (sym (one_mask_more masks c.args.kept.from c.loop-m.m i.order))
          (adds_then i.so_far (subst (Adds k (sink_state k c.loop-m.out) (sink_state k c.put_long.new.self)) bits put));
      is_open = open_later i.is_open put;
      order = omega (arith, i.order);
      most = omega (arith, c.loop-m-test.true, i.order);
    }

pub returns-in_err-put_long : goal.returns-in_err-put_long
returns-in_err-put_long g c =
    let e = err_from_is_err_and c.from_residual.result c.from_residual.ensures.1 in
    let k = g.O.OctetOut.sink in
    let i = c.loop-m.invariant in
    let masks = c.args.kept.free.now in
    let mask = get_or masks c.loop-m.m 0 in
    let bits : bits_of c.width_of.result mask ≡ bits_at masks c.loop-m.m = ap (λ n. bits_of n mask) c.width_of.ensures.width in
    rw (e.1, e.2) (mask_ended masks c.args.kept.from c.loop-m.m c.args.kept.to i.order (omega (arith, c.loop-m-test.true)) i.so_far
    (rw (← bits) c.in_err-put_long.ensures))

pub returns : goal.returns
returns g c =
    let k = g.O.OctetOut.sink in
    let i = c.loop-m.invariant in
    let masks = c.args.kept.free.now in
    let from = c.args.kept.from in
    let all : c.loop-m.m - from ≡ c.args.kept.to - from = omega (arith, c.loop-m-test.false, c.loop-m.auto.m-end, i.order, i.most) in
    puts_whole (subst (λ n. Adds k (sink_state k c.args.out.now) (sink_state k c.loop-m.out) (flat_map (bits_at masks) (span from n))) all i.so_far)
