use Rattle.std.proofs.Common.{◌∙◌, sym, subst, arith, Ok, Err}
use Rattle.std.proofs.lemmas.Result.{err_from_is_err_and}
use Rattle.std.proofs.lemmas.Grind.{common_steps}
use Rattle.bit_pipe.specs.SinkState.{sink_state}
use Rattle.base_122.specs.Profile.{profile}
use Rattle.plane_defs.specs.Sets.{refined}
use Rattle.plane_coder.specs.Refining.{refining}
use Rattle.plane_coder.specs.Spells.{Spells}
use Rattle.plane_coder.specs.Appends.{Appends}
use Rattle.plane_coder.proofs.Appending.{silent_load, appends_both, spells_said}
use Rattle.plane_coder.proofs.Spelling.{spells_none, spells_both, spells_cut}
use Rattle.plane_coder.proofs.BlockSets.{refining_both, refining_nothing, refining_parts}
use Rattle.plane_coder.specs.Viewed.{block_in}
use Rattle.plane_coder.proofs.put.put_refinement.Goals as goal

pub returns-then-not-is_any_of : goal.returns-then-not-is_any_of
returns-then-not-is_any_of g c =
    let s = c.args.plane_masks.now in
    let block = block_in s in
    let weights = s.plan.now.weights.shifts in
    let plane = s.plan.now.plane in
    let k = g.O.OctetOut.sink in
    let if_known = sym c.if-not-is_any_of.true ∙ c.is_any_of.ensures (refined block weights plane) c.refined-refined.ensures in
    record {
      spells = λ book. subst (λ l. Spells k book c.args.pending.now.gaggle c.args.pending.now.gaggle (Ok tt) (sink_state k c.args.out.now)
          (sink_state k c.args.out.now) l) (refining_nothing block weights plane 1 63 if_known) (spells_none c.args.pending.now.gaggle _ c.requires.«open»);
      silent = c.requires.silent;
    }

pub raws-requires-clause-room : goal.raws-requires-clause-room
raws-requires-clause-room g c = omega (arith, silent_load c.args.pending.now c.requires.silent)

pub push_refinement-requires : goal.push_refinement-requires
push_refinement-requires g c = record {
  order = omega arith;
  start = omega arith;
  within = omega arith;
  shown = c.refined-refined.ensures;
  fours = c.refined_fours-fours.ensures;
  room = omega (arith, silent_load c.args.pending.now c.requires.silent, (c.raws.ensures.raws profile).load);
}

pub push_refinement-requires-2 : goal.push_refinement-requires-2
push_refinement-requires-2 g c = record {
  order = omega arith;
  start = omega arith;
  within = omega arith;
  shown = c.refined-refined.ensures;
  fours = c.refined_fours-fours.ensures;
  room = omega (arith, silent_load c.args.pending.now c.requires.silent, (c.raws.ensures.raws profile).load, (c.push_refinement.ensures profile).load);
}

pub push_refinement-requires-3 : goal.push_refinement-requires-3
push_refinement-requires-3 g c = grind (arith, common_steps, silent_load)

pub push_refinement-requires-4 : goal.push_refinement-requires-4
push_refinement-requires-4 g c = record {
  order = omega arith;
  start = omega arith;
  within = omega arith;
  shown = c.refined-refined.ensures;
  fours = c.refined_fours-fours.ensures;
  room = omega (arith, silent_load c.put.new.self c.in_ok-put.ensures.silent, (c.push_refinement-3.ensures profile).load);
}

pub returns-in_err-put : goal.returns-in_err-put
returns-in_err-put g c =
    let s = c.args.plane_masks.now in
    let block = block_in s in
    let weights = s.plan.now.weights.shifts in
    let plane = s.plan.now.plane in
    let k = g.O.OctetOut.sink in
    let p = err_from_is_err_and c.from_residual.result c.from_residual.ensures.1 in
    record {
      spells = λ book.
          let raws = subst (λ l. Appends book c.args.pending.now c.raws.new.self l 4) c.refinement.ensures.bits (c.raws.ensures.raws book) in
          let says = subst (λ l. Appends book c.args.pending.now c.push_refinement-2.new.pending l 32) (refining_parts block weights plane 1 3 12 16)
          (appends_both 16 16 (appends_both 4 12 raws (c.push_refinement.ensures book)) (c.push_refinement-2.ensures book)) in
          let first = spells_said 32 c.requires.«open» c.requires.silent says c.in_err-put.ensures.puts c.in_err-put.ensures.gaggle in
          rw (p.1, p.2) (subst (λ l. Spells k book c.args.pending.now.gaggle c.put.new.self.gaggle (Err c.in_err-put.field-0.0) (sink_state k c.args.out.now)
          (sink_state k c.put.new.out) l) (refining_both block weights plane 1 31 32) (spells_cut (refining block weights plane 32 32) first));
      silent = c.in_err-put.ensures.silent;
    }

pub returns : goal.returns
returns g c =
    let s = c.args.plane_masks.now in
    let block = block_in s in
    let weights = s.plan.now.weights.shifts in
    let plane = s.plan.now.plane in
    let k = g.O.OctetOut.sink in
    record {
      spells = λ book.
          let raws = subst (λ l. Appends book c.args.pending.now c.raws.new.self l 4) c.refinement.ensures.bits (c.raws.ensures.raws book) in
          let says = subst (λ l. Appends book c.args.pending.now c.push_refinement-2.new.pending l 32) (refining_parts block weights plane 1 3 12 16)
          (appends_both 16 16 (appends_both 4 12 raws (c.push_refinement.ensures book)) (c.push_refinement-2.ensures book)) in
          let first = spells_said 32 c.requires.«open» c.requires.silent says c.in_ok-put.ensures.puts c.in_ok-put.ensures.gaggle in
          let rest = subst (λ l. Appends book c.put.new.self c.push_refinement-4.new.pending l 32) (refining_both block weights plane 32 16 16)
          (appends_both 16 16 (c.push_refinement-3.ensures book) (c.push_refinement-4.ensures book)) in
          let second = spells_said 32 first.is_open c.in_ok-put.ensures.silent rest c.put-2.ensures.puts c.put-2.ensures.gaggle in
          subst (λ l. Spells k book c.args.pending.now.gaggle c.put-2.new.self.gaggle c.put-2.result (sink_state k c.args.out.now)
          (sink_state k c.put-2.new.out) l)
          (refining_both block weights plane 1 31 32) (spells_both first second);
      silent = c.put-2.ensures.silent;
    }
