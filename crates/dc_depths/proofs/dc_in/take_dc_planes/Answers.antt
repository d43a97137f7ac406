use Rattle.std.specs.Int.{div_ceil}
use Rattle.std.proofs.Common.{◌≤◌, ◌<◌, ◌-◌, ◌∙◌, ap, arith, rules, w32}
use Rattle.std.proofs.lemmas.Int.{to_z-of_z}
use Rattle.std.proofs.lemmas.Result.{err_from_is_err_and}
use Rattle.number_defs.specs.DcPart.{dc_q, dc_planes}
use Rattle.number_defs.proofs.DcBits.{q_small}
use Rattle.bit_pipe.proofs.ScriptReading.{in_read}
use Rattle.dc_depths.proofs.Lows.{given_before, before_given}
use Rattle.dc_depths.proofs.DcReads.{planes_start, planes_all, planes_fault, planes_cut, planes_more, before_plane}
use Rattle.dc_depths.proofs.DcReads.{planes_grew_start, planes_room, planes_grew, planes_roomy}
use Rattle.dc_depths.proofs.DcCells.{dcs_same}
use Rattle.dc_depths.proofs.dc_in.take_dc_planes.Goals as goal

pub loop-plane-init : goal.loop-plane-init
loop-plane-init g c =
    let q = dc_q c.args.plan.now.depth_dc c.args.plan.now.depth_ac c.args.plan.now.shift in
    record {
      within = omega (arith, c.q-plane.ensures);
      far = omega (arith, c.q-plane.ensures);
      is_in = c.requires.open;
      grew = planes_grew_start q _ c.args.blocks.now c.q-plane.ensures;
      so_far = λ given first s lows. planes_start q (dc_planes c.args.plan.now.depth_dc c.args.plan.now.depth_ac c.args.plan.now.shift) _ given _
          c.args.blocks.now c.q-plane.ensures s lows;
    }

pub take_bits-requires-clause-room : goal.take_bits-requires-clause-room
take_bits-requires-clause-room g c =
    let plan = c.args.plan.now in
    let q = dc_q plan.depth_dc plan.depth_ac plan.shift in
    let plane = c.loop-plane.plane in
    let small = q_small plan.depth_dc plan.depth_ac plan.shift c.requires.dc c.requires.shift in
    let test : c.max-last.result < plane = c.loop-plane-test.true in
    let weight = to_z-of_z w32 c.power.result (search rules) ∙ c.power.ensures in
    rw weight (planes_room q plane (plane - 1) (omega arith) c.loop-plane.invariant.grew small c.requires.room)

pub take_bits-requires-clause-few : goal.take_bits-requires-clause-few
take_bits-requires-clause-few g c =
    let same = ap (λ n. div_ceil n 64) c.loop-plane.invariant.grew.size in
    omega (arith, same, c.requires.few)

pub loop-plane-preserved : goal.loop-plane-preserved
loop-plane-preserved g c =
    let plan = c.args.plan.now in
    let q = dc_q plan.depth_dc plan.depth_ac plan.shift in
    let n = dc_planes plan.depth_dc plan.depth_ac plan.shift in
    let plane = c.loop-plane.plane in
    let i = c.loop-plane.invariant in
    let within : plane ≤ q = i.within in
    let test : c.max-last.result < plane = c.loop-plane-test.true in
    let more : q - plane < n = omega (arith, c.max-last.ensures) in
    let weight = to_z-of_z w32 c.power.result (search rules) ∙ c.power.ensures in
    let t = rw (weight, c.in-Whole.is) at c.in_ok-part.ensures in
    let cells = c.loop-plane.blocks in
    let here = t.takes q (given_before q (plane - 1) cells) cells (dcs_same cells) (before_given q (plane - 1) _ cells (omega arith)) in
    record {
      within = omega arith;
      far = omega (arith, c.max-last.ensures);
      is_in = in_read i.is_in here.read;
      grew = planes_grew q plane (plane - 1) (omega arith) i.grew here.cells.size t.grows;
      so_far = λ given first s lows.
          let before = i.so_far given first s lows in
          let ready = before_plane q n plane given before (plane - 1) (omega arith) within more in
          planes_more q n plane given before (plane - 1) (omega arith) within more _ (t.takes q before.given first before.cells ready);
    }

pub returns-in_err-part-clause-takes : goal.returns-in_err-part-clause-takes
returns-in_err-part-clause-takes g c = λ given first s lows.
    let plan = c.args.plan.now in
    let q = dc_q plan.depth_dc plan.depth_ac plan.shift in
    let n = dc_planes plan.depth_dc plan.depth_ac plan.shift in
    let plane = c.loop-plane.plane in
    let i = c.loop-plane.invariant in
    let within : plane ≤ q = i.within in
    let test : c.max-last.result < plane = c.loop-plane-test.true in
    let more : q - plane < n = omega (arith, c.max-last.ensures) in
    let weight = to_z-of_z w32 c.power.result (search rules) ∙ c.power.ensures in
    let t = rw weight at c.in_err-part.ensures in
    let p = err_from_is_err_and c.from_residual.result c.from_residual.ensures.1 in
    let before = i.so_far given first s lows in
    let ready = before_plane q n plane given before (plane - 1) (omega arith) within more in
    rw (p.1, p.2) (planes_fault q n plane given before (plane - 1) (omega arith) within more _ (t.takes q before.given first before.cells ready))

pub returns-in_default-clause-takes : goal.returns-in_default-clause-takes
returns-in_default-clause-takes g c = λ given first s lows.
    let plan = c.args.plan.now in
    let q = dc_q plan.depth_dc plan.depth_ac plan.shift in
    let n = dc_planes plan.depth_dc plan.depth_ac plan.shift in
    let plane = c.loop-plane.plane in
    let i = c.loop-plane.invariant in
    let within : plane ≤ q = i.within in
    let test : c.max-last.result < plane = c.loop-plane-test.true in
    let more : q - plane < n = omega (arith, c.max-last.ensures) in
    let weight = to_z-of_z w32 c.power.result (search rules) ∙ c.power.ensures in
    let t = rw (weight, c.in_default.is) at c.in_ok-part.ensures in
    let before = i.so_far given first s lows in
    let ready = before_plane q n plane given before (plane - 1) (omega arith) within more in
    planes_cut q n plane given before (plane - 1) (omega arith) within more _ (t.takes q before.given first before.cells ready)

pub returns-clause-takes : goal.returns-clause-takes
returns-clause-takes g c = λ given first s lows.
    let plan = c.args.plan.now in
    let q = dc_q plan.depth_dc plan.depth_ac plan.shift in
    let n = dc_planes plan.depth_dc plan.depth_ac plan.shift in
    let plane = c.loop-plane.plane in
    let i = c.loop-plane.invariant in
    let far : q - plane ≤ n = i.far in
    let test : plane ≤ c.max-last.result = c.loop-plane-test.false in
    let same = ap (λ n. div_ceil n 64) s.size in
    let long = ap (λ n. div_ceil n 64) i.grew.size in
    planes_all q n plane given (i.so_far given first s lows) _ (omega (arith, same, long, c.requires.few)) i.is_in i.within
    (omega (arith, c.max-last.ensures, far))

pub returns-in_err-part-clause-room : goal.returns-in_err-part-clause-room
returns-in_err-part-clause-room g c =
    let plan = c.args.plan.now in
    let q = dc_q plan.depth_dc plan.depth_ac plan.shift in
    let small = q_small plan.depth_dc plan.depth_ac plan.shift c.requires.dc c.requires.shift in
    let plane = c.loop-plane.plane in
    let i = c.loop-plane.invariant in
    let within : plane ≤ q = i.within in
    let test : c.max-last.result < plane = c.loop-plane-test.true in
    let weight = to_z-of_z w32 c.power.result (search rules) ∙ c.power.ensures in
    let t = rw weight at c.in_err-part.ensures in
    let cells = c.loop-plane.blocks in
    let here = t.takes q (given_before q (plane - 1) cells) cells (dcs_same cells) (before_given q (plane - 1) _ cells (omega arith)) in
    planes_roomy q (plane - 1) (planes_grew q plane (plane - 1) (omega arith) i.grew here.cells.size t.grows) small c.requires.room

pub returns-in_default-clause-room : goal.returns-in_default-clause-room
returns-in_default-clause-room g c =
    let plan = c.args.plan.now in
    let q = dc_q plan.depth_dc plan.depth_ac plan.shift in
    let small = q_small plan.depth_dc plan.depth_ac plan.shift c.requires.dc c.requires.shift in
    let plane = c.loop-plane.plane in
    let i = c.loop-plane.invariant in
    let within : plane ≤ q = i.within in
    let test : c.max-last.result < plane = c.loop-plane-test.true in
    let weight = to_z-of_z w32 c.power.result (search rules) ∙ c.power.ensures in
    let t = rw weight at c.in_ok-part.ensures in
    let cells = c.loop-plane.blocks in
    let here = t.takes q (given_before q (plane - 1) cells) cells (dcs_same cells) (before_given q (plane - 1) _ cells (omega arith)) in
    planes_roomy q (plane - 1) (planes_grew q plane (plane - 1) (omega arith) i.grew here.cells.size t.grows) small c.requires.room

pub returns-clause-room : goal.returns-clause-room
returns-clause-room g c =
    let plan = c.args.plan.now in
    let small = q_small plan.depth_dc plan.depth_ac plan.shift c.requires.dc c.requires.shift in
    planes_roomy (dc_q plan.depth_dc plan.depth_ac plan.shift) c.loop-plane.plane c.loop-plane.invariant.grew small c.requires.room
