use Rattle.std.proofs.Common.{rules, ◌≡◌, ◌+◌, ◌<◌, ◌∙◌, arith, ap, sym, refl}
use Rattle.std.proofs.lemmas.Result.{err_from_is_err_and}
use Rattle.item_defs.specs.Bits.{bit}
use Rattle.block_masks.proofs.Viewing.{shows_own}
use Rattle.plane_defs.specs.WordScripts.{group_script}
use Rattle.plane_reader.proofs.SignReads.{bit_inside}
use Rattle.plane_reader.proofs.HeldGroups.{groups_start, groups_done, reach, group_fault, group_cut, group_read, group_skipped, group_called, zero_bit}
use Rattle.plane_reader.proofs.groups.take_groups.Goals as goal

pub loop-left-init : goal.loop-left-init
loop-left-init g c = record {
  reading = c.requires.reading;
  tables = refl;
  raw = refl;
  small = c.groups_with_bits-sent.ensures.few;
  passed = λ s f now wanted is marks now_shown wanted_shown. groups_start
      (group_script c.args.reading.now.tables.now.words.book f c.args.groups.first now wanted) c.args.groups.count _ s c.requires.reading.is_in is;
}

pub returns-clause-groups : goal.returns-clause-groups
returns-clause-groups g c = λ s f now wanted is marks now_shown wanted_shown.
    let covers = c.groups_with_bits-sent.ensures.covers now wanted now_shown wanted_shown in
    let groups = c.args.groups in
    groups_done (omega (arith, c.requires.count)) (group_skipped c.args.reading.now.tables.now.words.book f now wanted groups.first groups.count c.args.due
    marks covers) c.loop-left.invariant.reading.is_in (c.loop-left.invariant.passed s f now wanted is marks now_shown wanted_shown) c.loop-left-test.false
    zero_bit

pub returns-in_err-types-clause-groups : goal.returns-in_err-types-clause-groups
returns-in_err-types-clause-groups g c = λ s f now wanted is marks now_shown wanted_shown.
    let p = err_from_is_err_and c.from_residual.result c.from_residual.ensures.1 in
    let i = c.loop-left.invariant in
    let groups = c.args.groups in
    let book = c.args.reading.now.tables.now.words.book in
    let j = c.first_in-j.result in
    let first = c.first_in-j.ensures in
    let inside : j < groups.count = bit_inside c.loop-left.left groups.count j i.small first.here in
    let covers = c.groups_with_bits-sent.ensures.covers now wanted now_shown wanted_shown in
    let z : 0 + j ≡ j = omega arith in
    let l = i.passed s f now wanted is marks now_shown wanted_shown in
    let at = reach (omega (arith, c.requires.count)) (group_skipped book f now wanted groups.first groups.count c.args.due marks covers) i.reading.is_in
    l j inside first.here first.none_before in
    let flag = c.has.ensures wanted 0 groups.count wanted_shown inside ∙ ap wanted z in
    rw (p.1, p.2) (group_fault at.0 j at.1 inside _ (group_called book f now wanted groups.first groups.count c.args.due marks covers (omega (
      arith,
      c.requires.count,
    )) at.0 j at.1 inside first.here c.has.result flag (λ s1 g1 is1 marks1. rw i.tables at
    (c.in_err-types.ensures.types s1 g1 is1 marks1))))

pub returns-in_default-clause-groups : goal.returns-in_default-clause-groups
returns-in_default-clause-groups g c = λ s f now wanted is marks now_shown wanted_shown.
    let t = rw c.in_default.is at c.in_ok-types.ensures in
    let i = c.loop-left.invariant in
    let groups = c.args.groups in
    let book = c.args.reading.now.tables.now.words.book in
    let j = c.first_in-j.result in
    let first = c.first_in-j.ensures in
    let inside : j < groups.count = bit_inside c.loop-left.left groups.count j i.small first.here in
    let covers = c.groups_with_bits-sent.ensures.covers now wanted now_shown wanted_shown in
    let z : 0 + j ≡ j = omega arith in
    let l = i.passed s f now wanted is marks now_shown wanted_shown in
    let at = reach (omega (arith, c.requires.count)) (group_skipped book f now wanted groups.first groups.count c.args.due marks covers) i.reading.is_in
    l j inside first.here first.none_before in
    let flag = c.has.ensures wanted 0 groups.count wanted_shown inside ∙ ap wanted z in
    group_cut at.0 j at.1 inside (group_called book f now wanted groups.first groups.count c.args.due marks covers (omega (
      arith,
      c.requires.count,
    )) at.0 j at.1 inside first.here c.has.result flag (λ s1 g1 is1 marks1. rw i.tables at (t.types s1 g1 is1 marks1)))

pub loop-left-preserved : goal.loop-left-preserved
loop-left-preserved g c =
    let t = rw c.in-Some.is at c.in_ok-types.ensures in
    let rest = c.without-left in
    let i = c.loop-left.invariant in
    let groups = c.args.groups in
    let book = c.args.reading.now.tables.now.words.book in
    let j = c.first_in-j.result in
    let first = c.first_in-j.ensures in
    let inside : j < groups.count = bit_inside c.loop-left.left groups.count j i.small first.here in
    record {
      reading = t.reading;
      tables = t.tables ∙ i.tables;
      raw = t.raw ∙ i.raw;
      small = omega (arith, i.small, rest.ensures.fewer first.here);
      passed = λ s f now wanted is marks now_shown wanted_shown.
          let covers = c.groups_with_bits-sent.ensures.covers now wanted now_shown wanted_shown in
          let z : 0 + j ≡ j = omega arith in
          let l = i.passed s f now wanted is marks now_shown wanted_shown in
          let at = reach (omega (arith, c.requires.count)) (group_skipped book f now wanted groups.first groups.count c.args.due marks covers) i.reading.is_in
          l j inside first.here first.none_before in
          let flag = c.has.ensures wanted 0 groups.count wanted_shown inside ∙ ap wanted z in
          group_read at.0 j at.1 inside (omega (arith, c.requires.count)) first.none_before rest.result rest.ensures.gone rest.ensures.others
          (group_called book f now wanted groups.first groups.count c.args.due marks covers (omega
          (arith, c.requires.count)) at.0 j at.1 inside first.here c.has.result flag (λ s1 g1 is1 marks1. rw i.tables at (t.types s1 g1 is1 marks1)));
    }

pub loop-left-smaller : goal.loop-left-smaller
loop-left-smaller g c = c.without-left.ensures.fewer c.first_in-j.ensures.here

pub overflow_add-group : goal.overflow_add-group
overflow_add-group g c =
    let inside = bit_inside c.loop-left.left c.args.groups.count c.first_in-j.result c.loop-left.invariant.small c.first_in-j.ensures.here in
    omega (arith, inside, c.requires.within)

pub types-requires-clause-start : goal.types-requires-clause-start
types-requires-clause-start g c =
    let inside = bit_inside c.loop-left.left c.args.groups.count c.first_in-j.result c.loop-left.invariant.small c.first_in-j.ensures.here in
    omega (arith, inside, c.requires.within)

pub types-requires-clause-some : goal.types-requires-clause-some
types-requires-clause-some g c = λ on.
    let j = c.first_in-j.result in
    let inside : j < c.args.groups.count = bit_inside c.loop-left.left c.args.groups.count j c.loop-left.invariant.small c.first_in-j.ensures.here in
    let z : 0 + j ≡ j = omega arith in
    let has = c.has.ensures (bit c.args.groups.wanted) 0 64 (shows_own c.args.groups.wanted 64 (search rules)) (omega (arith, inside, c.requires.count)) ∙
    ap (bit c.args.groups.wanted) z in
    c.requires.some j inside (sym has ∙ on)
