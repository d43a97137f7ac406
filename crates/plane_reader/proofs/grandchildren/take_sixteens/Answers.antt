use Rattle.std.proofs.Common.{◌≡◌, ◌+◌, ◌<◌, ap, sym, ◌∙◌, arith, refl, rules}
use Rattle.std.proofs.lemmas.Result.{err_from_is_err_and}
use Rattle.item_defs.specs.Bits.{bit}
use Rattle.block_masks.proofs.Viewing.{shows_own}
use Rattle.plane_reader.specs.Blocks.{terms_of}
use Rattle.plane_reader.specs.Grandchildren.{sixteen_script}
use Rattle.plane_reader.proofs.SignReads.{bit_inside}
use Rattle.plane_reader.proofs.HeldGroups.{groups_start, groups_done, reach, group_fault, group_cut, group_read, zero_bit}
use Rattle.plane_reader.proofs.GrandchildReads.{sixteen_skipped, sixteen_called}
use Rattle.plane_reader.proofs.grandchildren.take_sixteens.Goals as goal

pub loop-left-init : goal.loop-left-init
loop-left-init g c = record {
  reading = c.requires.reading;
  tables = refl;
  raw = refl;
  small = c.part-sent.ensures.within;
  passed = λ block s now new is marked now_shown new_shown. groups_start (sixteen_script
      (terms_of c.args.plan.now c.args.reading.now.tables.now.words.book) block now new) 3 _ s c.requires.reading.is_in is;
}

pub loop-left-smaller : goal.loop-left-smaller
loop-left-smaller g c = c.without-left.ensures.fewer c.first_in-i.ensures.here

pub take_quads-requires-clause-family : goal.take_quads-requires-clause-family
take_quads-requires-clause-family g c = bit_inside c.loop-left.left 3 c.first_in-i.result c.loop-left.invariant.small c.first_in-i.ensures.here

pub take_quads-requires-clause-new : goal.take_quads-requires-clause-new
take_quads-requires-clause-new g c = λ on.
    let n = c.first_in-i.result in
    let inside : n < 3 = bit_inside c.loop-left.left 3 n c.loop-left.invariant.small c.first_in-i.ensures.here in
    let z : 0 + n ≡ n = omega arith in
    let flag = c.has.ensures (bit c.args.sets.new) 0 64 (shows_own c.args.sets.new 64 (search rules)) (omega (arith, inside)) ∙ ap (bit c.args.sets.new) z in
    c.requires.new n inside (sym flag ∙ on)

pub returns-clause-sixteens : goal.returns-clause-sixteens
returns-clause-sixteens g c = λ block s now new is marked now_shown new_shown.
    let t = terms_of c.args.plan.now c.args.reading.now.tables.now.words.book in
    let sent = c.part-sent.ensures.if_known now 0 3 now_shown (omega arith) in
    groups_done (omega arith) (sixteen_skipped t block now new sent) c.loop-left.invariant.reading.is_in
    (c.loop-left.invariant.passed block s now new is marked now_shown new_shown) c.loop-left-test.false zero_bit

pub returns-in_err-take_quads-clause-sixteens : goal.returns-in_err-take_quads-clause-sixteens
returns-in_err-take_quads-clause-sixteens g c = λ block s now new is marked now_shown new_shown.
    let e = err_from_is_err_and c.from_residual.result c.from_residual.ensures.1 in
    let i = c.loop-left.invariant in
    let n = c.first_in-i.result in
    let first = c.first_in-i.ensures in
    let inside : n < 3 = bit_inside c.loop-left.left 3 n i.small first.here in
    let t = terms_of c.args.plan.now c.args.reading.now.tables.now.words.book in
    let z : 0 + n ≡ n = omega arith in
    let l = i.passed block s now new is marked now_shown new_shown in
    let sent = c.part-sent.ensures.if_known now 0 3 now_shown (omega arith) in
    let at = reach (omega arith) (sixteen_skipped t block now new sent) i.reading.is_in l n inside first.here first.none_before in
    let flag = c.has.ensures new 0 3 new_shown inside ∙ ap new z in
    rw (e.1, e.2) (group_fault at.0 n at.1 inside _ (sixteen_called t block now new sent at.0 n at.1 inside first.here c.has.result flag (rw i.tables at
    (c.in_err-take_quads.ensures.quads block at.0.state at.0.is marked))))

pub returns-in_default-clause-sixteens : goal.returns-in_default-clause-sixteens
returns-in_default-clause-sixteens g c = λ block s now new is marked now_shown new_shown.
    let h = rw c.in_default.is at c.in_ok-take_quads.ensures in
    let i = c.loop-left.invariant in
    let n = c.first_in-i.result in
    let first = c.first_in-i.ensures in
    let inside : n < 3 = bit_inside c.loop-left.left 3 n i.small first.here in
    let t = terms_of c.args.plan.now c.args.reading.now.tables.now.words.book in
    let z : 0 + n ≡ n = omega arith in
    let l = i.passed block s now new is marked now_shown new_shown in
    let sent = c.part-sent.ensures.if_known now 0 3 now_shown (omega arith) in
    let at = reach (omega arith) (sixteen_skipped t block now new sent) i.reading.is_in l n inside first.here first.none_before in
    let flag = c.has.ensures new 0 3 new_shown inside ∙ ap new z in
    group_cut at.0 n at.1 inside (sixteen_called t block now new sent at.0 n at.1 inside first.here c.has.result flag (rw i.tables at
    (h.quads block at.0.state at.0.is marked)))

pub loop-left-preserved : goal.loop-left-preserved
loop-left-preserved g c =
    let h = rw c.in-Some.is at c.in_ok-take_quads.ensures in
    let rest = c.without-left in
    let i = c.loop-left.invariant in
    let n = c.first_in-i.result in
    let first = c.first_in-i.ensures in
    let inside : n < 3 = bit_inside c.loop-left.left 3 n i.small first.here in
    record {
      reading = h.reading;
      tables = h.tables ∙ i.tables;
      raw = h.raw ∙ i.raw;
      small = omega (arith, i.small, rest.ensures.fewer first.here);
      passed = λ block s now new is marked now_shown new_shown.
          let t = terms_of c.args.plan.now c.args.reading.now.tables.now.words.book in
          let z : 0 + n ≡ n = omega arith in
          let l = i.passed block s now new is marked now_shown new_shown in
          let sent = c.part-sent.ensures.if_known now 0 3 now_shown (omega arith) in
          let at = reach (omega arith) (sixteen_skipped t block now new sent) i.reading.is_in l n inside first.here first.none_before in
          let flag = c.has.ensures new 0 3 new_shown inside ∙ ap new z in
          group_read at.0 n at.1 inside (omega arith) first.none_before rest.result rest.ensures.gone rest.ensures.others
          (sixteen_called t block now new sent at.0 n at.1 inside first.here c.has.result flag (rw i.tables at (h.quads block at.0.state at.0.is marked)));
    }
