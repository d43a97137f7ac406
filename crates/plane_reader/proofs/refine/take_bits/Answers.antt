use Rattle.std.proofs.Common.{◌≡◌, ◌+◌, ◌∙◌, true, arith, ap, sym, refl}
use Rattle.std.proofs.lemmas.Result.{err_from_is_err_and}
use Rattle.item_defs.specs.Bits.{bit}
use Rattle.block_masks.specs.Masks.{Shows}
use Rattle.plane_defs.specs.States.{and_one}
use Rattle.plane_reader.specs.HeldTakes.{marked_script}
use Rattle.plane_reader.proofs.FoundMasks.{room_one}
use Rattle.plane_reader.proofs.SignReads.{bit_inside, sign_shown, raw_shown, one_shown}
use Rattle.plane_reader.proofs.HeldGroups.{groups_start, groups_done, reach, group_fault, group_cut, group_read, zero_bit}
use Rattle.plane_reader.proofs.RefineReads.{unmarked, bit_fault, bit_cut, bit_read, turns_here}
use Rattle.plane_reader.proofs.refine.take_bits.Goals as goal

pub loop-left-init : goal.loop-left-init
loop-left-init g c = record {
  reading = c.requires.reading;
  tables = refl;
  small = c.requires.few;
  passed = λ s f is shown. groups_start (λ j. marked_script f (c.args.start + j)) 32 c.args.here s c.requires.reading.is_in is;
}

pub returns-clause-bits : goal.returns-clause-bits
returns-clause-bits g c = λ s f is shown.
    rw (sym (turns_here (marked_script f) c.args.start 32 s))
    (groups_done (omega arith) (λ n lt off u at. unmarked f (c.args.start + n) (sym (shown.at n lt) ∙ off) u at) c.loop-left.invariant.reading.is_in
    (c.loop-left.invariant.passed s f is shown) c.loop-left-test.false zero_bit)

pub returns-in_err-bit-clause-bits : goal.returns-in_err-bit-clause-bits
returns-in_err-bit-clause-bits g c = λ s f is shown.
    let p = err_from_is_err_and c.from_residual.result c.from_residual.ensures.1 in
    let i = c.loop-left.invariant in
    let first = c.first_in-j.ensures in
    let j = c.first_in-j.result in
    let inside = bit_inside c.loop-left.left 32 j i.small first.here in
    let at = reach (omega arith) (λ n lt off u is_u. unmarked f (c.args.start + n) (sym (shown.at n lt) ∙ off) u is_u) i.reading.is_in
    (i.passed s f is shown) j inside first.here first.none_before in
    let m = at.0 in
    let on : bit c.args.here j ≡ true = sym (m.kept j (omega (arith, at.1)) first.within) ∙ first.here in
    let here : f (c.args.start + m.n) ≡ true = ap (λ n. f (c.args.start + n)) at.1 ∙ sym (shown.at j inside) ∙ on in
    let x = c.in_err-bit.ensures in
    let read = bit_fault f (c.args.start + m.n) here m.state m.is _ x.flag in
    rw (p.1, p.2, sym (turns_here (marked_script f) c.args.start 32 s), x.gaggle, x.found) (group_fault m j at.1 inside _ read)

pub returns-in_default-clause-bits : goal.returns-in_default-clause-bits
returns-in_default-clause-bits g c = λ s f is shown.
    let x = rw c.in_default.is at c.in_ok-bit.ensures in
    let i = c.loop-left.invariant in
    let first = c.first_in-j.ensures in
    let j = c.first_in-j.result in
    let inside = bit_inside c.loop-left.left 32 j i.small first.here in
    let at = reach (omega arith) (λ n lt off u is_u. unmarked f (c.args.start + n) (sym (shown.at n lt) ∙ off) u is_u) i.reading.is_in
    (i.passed s f is shown) j inside first.here first.none_before in
    let m = at.0 in
    let on : bit c.args.here j ≡ true = sym (m.kept j (omega (arith, at.1)) first.within) ∙ first.here in
    let here : f (c.args.start + m.n) ≡ true = ap (λ n. f (c.args.start + n)) at.1 ∙ sym (shown.at j inside) ∙ on in
    let read = bit_cut f (c.args.start + m.n) here m.state m.is x.flag in
    rw (sym (turns_here (marked_script f) c.args.start 32 s), x.gaggle, x.found) (group_cut m j at.1 inside read)

pub add_bits-requires-clause-start : goal.add_bits-requires-clause-start
add_bits-requires-clause-start g c =
    let inside = bit_inside c.loop-left.left 32 c.first_in-j.result c.loop-left.invariant.small c.first_in-j.ensures.here in
    omega (arith, inside, c.requires.start)

pub add_bits-requires-clause-room : goal.add_bits-requires-clause-room
add_bits-requires-clause-room g c =
    let inside = bit_inside c.loop-left.left 32 c.first_in-j.result c.loop-left.invariant.small c.first_in-j.ensures.here in
    room_one c.one.result (c.args.start + c.first_in-j.result) (omega (arith, inside, c.requires.start)) c.one.ensures.within

pub add_raw-requires-clause-start : goal.add_raw-requires-clause-start
add_raw-requires-clause-start g c =
    let inside = bit_inside c.loop-left.left 32 c.first_in-j.result c.loop-left.invariant.small c.first_in-j.ensures.here in
    omega (arith, inside, c.requires.start)

pub add_raw-requires-clause-room : goal.add_raw-requires-clause-room
add_raw-requires-clause-room g c =
    let inside = bit_inside c.loop-left.left 32 c.first_in-j.result c.loop-left.invariant.small c.first_in-j.ensures.here in
    room_one 1 (c.args.start + c.first_in-j.result) (omega (arith, inside, c.requires.start)) (omega arith)

pub loop-left-preserved : goal.loop-left-preserved
loop-left-preserved g c =
    let x = rw c.in-Some.is at c.in_ok-bit.ensures in
    let i = c.loop-left.invariant in
    let first = c.first_in-j.ensures in
    let j = c.first_in-j.result in
    let rest = c.without-left in
    let inside = bit_inside c.loop-left.left 32 j i.small first.here in
    record {
      reading = record { is_in = x.reading.is_in; holds = x.reading.holds; options = x.reading.options; rows = x.reading.rows };
      tables = x.tables ∙ i.tables;
      small = omega (arith, i.small, rest.ensures.fewer first.here);
      passed = λ s f is shown.
          let at = reach (omega arith) (λ n lt off u is_u. unmarked f (c.args.start + n) (sym (shown.at n lt) ∙ off) u is_u) i.reading.is_in
          (i.passed s f is shown) j inside first.here first.none_before in
          let m = at.0 in
          let on : bit c.args.here j ≡ true = sym (m.kept j (omega (arith, at.1)) first.within) ∙ first.here in
          let here : f (c.args.start + m.n) ≡ true = ap (λ n. f (c.args.start + n)) at.1 ∙ sym (shown.at j inside) ∙ on in
          let b = c.in-Some.bit in
          let place : c.args.start + j ≡ c.args.start + m.n = omega (arith, at.1) in
          let bits = sign_shown c.add_bits.new.self.bits m.state.bits (c.args.start + j) b (c.add_bits.ensures.bits m.state.bits (λ q. b) 1 (omega (
            arith,
            inside,
            c.requires.start,
          )) (rw x.found m.is.bits) (c.one.ensures.if_known (c.args.start + j))) in
          let bits_now : Shows c.add_raw.new.self.bits (and_one m.state.bits (c.args.start + j) b) 0 64 = rw c.add_raw.ensures.bits bits in
          let was : Shows c.add_bits.new.self.raw m.state.raw 0 64 = rw (c.add_bits.ensures.raw, x.found) m.is.raw in
          let raw = raw_shown c.add_raw.new.self.raw m.state.raw (c.args.start + j) (c.add_raw.ensures.raw m.state.raw (λ q. true) 1 (omega (
            arith,
            inside,
            c.requires.start,
          )) was (one_shown (c.args.start + j))) in
          let read = bit_read f (c.args.start + m.n) here m.state m.is b x.is_in (rw place at bits_now) (c.add_raw.ensures.minus ∙
          c.add_bits.ensures.minus ∙ ap (λ z. z.minus) x.found) (rw place at raw) x.flag in
          group_read m j at.1 inside (omega arith) first.none_before rest.result rest.ensures.gone rest.ensures.others (rw x.gaggle read);
    }

pub loop-left-smaller : goal.loop-left-smaller
loop-left-smaller g c = c.without-left.ensures.fewer c.first_in-j.ensures.here
