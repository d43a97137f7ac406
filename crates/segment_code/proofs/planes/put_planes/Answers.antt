use Rattle.std.proofs.Common.{subst, ◌≡◌, ◌<◌, ◌-◌, ◌+◌, ◌∙◌, ap, sym, arith}
use Rattle.std.proofs.lemmas.Result.{err_from_is_err_and}
use Rattle.std.proofs.lemmas.Grind.{common_steps}
use Rattle.wave_defs.specs.Held.{blocks_in}
use Rattle.bit_pipe.proofs.Putting.{open_later, puts_whole}
use Rattle.plane_coder.proofs.Sending.{none_put, more_put, put_ended}
use Rattle.block_masks.specs.SegmentNumbers.{AreAbove}
use Rattle.segment_code.specs.CodedParts.{coded_plane, coded_planes}
use Rattle.segment_code.proofs.PlaneParts.{planes_ended, no_planes}
use Rattle.segment_code.proofs.planes.put_planes.Goals as goal

pub returns-then-head-clause-puts : goal.returns-then-head-clause-puts
returns-then-head-clause-puts g c = no_planes g.O.OctetOut.sink _ c.args.tables.now.book c.args.head.now (blocks_in c.args.blocks.now.numbers)
    c.requires.«open» c.if-head.true

pub loop-n-init : goal.loop-n-init
loop-n-init g c =
    let none : c.args.head.now.depth_ac ≡ c.args.head.now.depth_ac - 0 = omega arith in
    record {
      so_far = none_put (coded_plane c.args.tables.now.book c.args.head.now (blocks_in c.args.blocks.now.numbers)) _ c.requires.«open»;
      is_open = c.requires.«open»;
      numbers = grind (arith, common_steps);
      most = grind (arith, common_steps);
      above = subst (λ n. AreAbove n c.begin.new.self) none c.begin.ensures.above;
    }

pub loop-n-preserved : goal.loop-n-preserved
loop-n-preserved g c =
    let i = c.loop-n.invariant in
    let p = c.in_ok-put_nth_plane.ensures in
    let puts = rw i.numbers at p.puts in
    record {
      so_far = more_put (coded_plane c.args.tables.now.book c.args.head.now (blocks_in c.args.blocks.now.numbers)) c.loop-n.n i.so_far puts.ends;
      is_open = open_later i.is_open puts.ends;
      numbers = p.numbers ∙ i.numbers;
      most = p.most ∙ i.most;
      above = p.above;
    }

pub returns-in_err-put_nth_plane : goal.returns-in_err-put_nth_plane
returns-in_err-put_nth_plane g c =
    let e = err_from_is_err_and c.from_residual.result c.from_residual.ensures.1 in
    let i = c.loop-n.invariant in
    let p = c.in_err-put_nth_plane.ensures in
    let puts = rw i.numbers at p.puts in
    let below : c.loop-n.n < c.args.head.now.depth_ac = omega (arith, c.loop-n-test.true) in
    rw (e.1, e.2) (record {
      puts = (put_ended (coded_plane c.args.tables.now.book c.args.head.now (blocks_in c.args.blocks.now.numbers)) c.loop-n.n c.args.head.now.depth_ac below
          i.so_far puts);
      numbers = p.numbers ∙ i.numbers;
      most = p.most ∙ i.most;
    })

pub returns : goal.returns
returns g c =
    let i = c.loop-n.invariant in
    let h = c.args.head.now in
    let blocks = blocks_in c.args.blocks.now.numbers in
    let sent : c.loop-n.n ≡ h.depth_ac - h.stop.plane = omega (arith, c.loop-n-test.false, c.loop-n.auto.n-end) in
    let rest : c.loop-n.n + h.stop.plane ≡ h.depth_ac = omega (arith, sent, c.if-head.false) in
    let ended : coded_planes c.args.tables.now.book h blocks h.depth_ac ≡ coded_planes c.args.tables.now.book h blocks c.loop-n.n =
    ap (coded_planes c.args.tables.now.book h blocks) (sym rest) ∙ planes_ended c.args.tables.now.book h blocks c.loop-n.n h.stop.plane
    (omega (arith, rest)) (omega (arith, rest)) in
    record {
      puts = rw ended (puts_whole i.so_far);
      numbers = i.numbers;
      most = i.most;
    }
