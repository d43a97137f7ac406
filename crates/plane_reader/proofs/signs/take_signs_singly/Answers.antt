use Rattle.std.proofs.Common.{◌+◌, ◌∙◌, arith}
use Rattle.std.proofs.lemmas.Result.{err_from_is_err_and}
use Rattle.plane_reader.proofs.FoundMasks.{room_one}
use Rattle.plane_defs.specs.States.{with_minus}
use Rattle.plane_reader.proofs.SignReads.{bit_inside, some_position, none_left, first_position, sign_shown, signs_all, signs_fault, signs_cut, signs_more}
use Rattle.plane_reader.proofs.signs.take_signs_singly.Goals as goal

pub returns-in_err-minus-clause-signs : goal.returns-in_err-minus-clause-signs
returns-in_err-minus-clause-signs g c = λ t shown.
    let p = err_from_is_err_and c.from_residual.result c.from_residual.ensures.1 in
    let s = c.loop-left.invariant.so_far t shown in
    let lt = bit_inside c.loop-left.left c.args.count c.first_in-k.result c.loop-left.invariant.small c.first_in-k.ensures.here in
    let r = some_position c.loop-left.left c.args.start c.first_in-k.result c.args.count c.first_in-k.ensures.here lt in
    rw (p.1, p.2) (record {
      minus = s.minus;
      shown = s.shown;
      read = signs_fault _ _ (with_minus t s.minus) s.left r.0 r.1 r.2 _
          (c.in_err-minus.ensures.flag.read (with_minus t s.minus));
    })

pub returns-in_default-clause-signs : goal.returns-in_default-clause-signs
returns-in_default-clause-signs g c = λ t shown.
    let s = c.loop-left.invariant.so_far t shown in
    let lt = bit_inside c.loop-left.left c.args.count c.first_in-k.result c.loop-left.invariant.small c.first_in-k.ensures.here in
    let r = some_position c.loop-left.left c.args.start c.first_in-k.result c.args.count c.first_in-k.ensures.here lt in
    record {
      minus = s.minus;
      shown = s.shown;
      read = signs_cut _ _ (with_minus t s.minus) s.left r.0 r.1 r.2
          ((rw c.in_default.is at c.in_ok-minus.ensures).flag.read (with_minus t s.minus));
    }

pub add_minus-requires-clause-start : goal.add_minus-requires-clause-start
add_minus-requires-clause-start g c = omega (
  arith,
  bit_inside c.loop-left.left c.args.count c.first_in-k.result c.loop-left.invariant.small
      c.first_in-k.ensures.here,
  c.requires.within,
)

pub add_minus-requires-clause-room : goal.add_minus-requires-clause-room
add_minus-requires-clause-room g c =
    let inside = bit_inside c.loop-left.left c.args.count c.first_in-k.result c.loop-left.invariant.small c.first_in-k.ensures.here in
    room_one c.one.result (c.args.start + c.first_in-k.result) (omega (arith, inside, c.requires.within)) c.one.ensures.within

pub loop-left-preserved : goal.loop-left-preserved
loop-left-preserved g c =
    let i = c.loop-left.invariant in
    let k = c.first_in-k.result in
    let first = c.first_in-k.ensures in
    let rest = c.without-left in
    let lt = bit_inside c.loop-left.left c.args.count k i.small first.here in
    record {
      is_in = (rw c.in-Some.is at c.in_ok-minus.ensures).is_in;
      small = omega (arith, i.small, rest.ensures.fewer first.here);
      bits = c.add_minus.ensures.bits ∙ i.bits;
      raw = c.add_minus.ensures.raw ∙ i.raw;
      so_far = λ t shown.
          let s = i.so_far t shown in
          let e = first_position c.loop-left.left rest.result c.args.start k first.here first.none_before rest.ensures.gone rest.ensures.others c.args.count
          lt (omega (arith, c.requires.within)) in
          record {
            minus = _;
            shown = sign_shown c.add_minus.new.self.minus s.minus (c.args.start + k) c.in-Some.minus (c.add_minus.ensures.minus s.minus
                (λ q. c.in-Some.minus) 1 (omega (arith, lt, c.requires.within)) s.shown (c.one.ensures.if_known (c.args.start + k)));
            left = signs_more _ _ (with_minus t s.minus) s.left _ _ e c.in-Some.minus ((rw c.in-Some.is at c.in_ok-minus.ensures).flag.read
                (with_minus t s.minus));
          };
    }

pub returns-clause-signs : goal.returns-clause-signs
returns-clause-signs g c = λ t shown.
    let s = c.loop-left.invariant.so_far t shown in
    record {
      minus = s.minus;
      shown = s.shown;
      read = signs_all _ _ (with_minus t s.minus) s.left
          (none_left c.loop-left.left c.args.start c.args.count c.loop-left-test.false) c.loop-left.invariant.is_in;
    }
