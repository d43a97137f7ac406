use Rattle.std.proofs.Common.{Bool, ◌+◌, ◌-◌, ◌*◌, ◌^◌, length, ◌∙◌, subst, arith}
use Rattle.wave_defs.specs.Held.{signal}
use Rattle.std.specs.Bool.{OnTrue}
use Rattle.wave_defs.specs.Within.{AllWithin}
use Rattle.lift_rows.proofs.Fits.{AllWithin-between, inner-same}
use Rattle.lift_rows.proofs.back_halves.lift_inner.Goals as goal

pub predict_add_narrow-requires-clause-bounded_a : goal.predict_add_narrow-requires-clause-bounded_a
predict_add_narrow-requires-clause-bounded_a c =
    let n = length c.args.odd.now in
    let small = subst (λ (t : Bool). OnTrue t (AllWithin (7 * 2 ^ 26) (length c.args.even.now) (signal c.args.even.now))) c.if-small.true c.requires.small in
    AllWithin-between (7 * 2 ^ 26) (length c.args.even.now) 0 n n c.args.even.now (omega arith) (omega arith) small

pub predict_add_narrow-requires-clause-bounded_b : goal.predict_add_narrow-requires-clause-bounded_b
predict_add_narrow-requires-clause-bounded_b c =
    let n = length c.args.odd.now in
    let small = subst (λ (t : Bool). OnTrue t (AllWithin (7 * 2 ^ 26) (length c.args.even.now) (signal c.args.even.now))) c.if-small.true c.requires.small in
    AllWithin-between (7 * 2 ^ 26) (length c.args.even.now) 1 (n + 1) n c.args.even.now (omega arith) (omega arith) small

pub predict_add_narrow-requires-clause-bounded_c : goal.predict_add_narrow-requires-clause-bounded_c
predict_add_narrow-requires-clause-bounded_c c =
    let n = length c.args.odd.now in
    let small = subst (λ (t : Bool). OnTrue t (AllWithin (7 * 2 ^ 26) (length c.args.even.now) (signal c.args.even.now))) c.if-small.true c.requires.small in
    AllWithin-between (7 * 2 ^ 26) (length c.args.even.now) 2 (n + 2) n c.args.even.now (omega arith) (omega arith) small

pub predict_add_narrow-requires-clause-bounded_d : goal.predict_add_narrow-requires-clause-bounded_d
predict_add_narrow-requires-clause-bounded_d c =
    let n = length c.args.odd.now in
    let small = subst (λ (t : Bool). OnTrue t (AllWithin (7 * 2 ^ 26) (length c.args.even.now) (signal c.args.even.now))) c.if-small.true c.requires.small in
    AllWithin-between (7 * 2 ^ 26) (length c.args.even.now) 3 (n + 3) n c.args.even.now (omega arith) (omega arith) small

pub predict_add_widened-requires-clause-bounded_a : goal.predict_add_widened-requires-clause-bounded_a
predict_add_widened-requires-clause-bounded_a c =
    let n = length c.args.odd.now in
    AllWithin-between (2 ^ 31 - 1) (length c.args.even.now) 0 n n c.args.even.now (omega arith) (omega arith) c.requires.bounded_even

pub predict_add_widened-requires-clause-bounded_b : goal.predict_add_widened-requires-clause-bounded_b
predict_add_widened-requires-clause-bounded_b c =
    let n = length c.args.odd.now in
    AllWithin-between (2 ^ 31 - 1) (length c.args.even.now) 1 (n + 1) n c.args.even.now (omega arith) (omega arith) c.requires.bounded_even

pub predict_add_widened-requires-clause-bounded_c : goal.predict_add_widened-requires-clause-bounded_c
predict_add_widened-requires-clause-bounded_c c =
    let n = length c.args.odd.now in
    AllWithin-between (2 ^ 31 - 1) (length c.args.even.now) 2 (n + 2) n c.args.even.now (omega arith) (omega arith) c.requires.bounded_even

pub predict_add_widened-requires-clause-bounded_d : goal.predict_add_widened-requires-clause-bounded_d
predict_add_widened-requires-clause-bounded_d c =
    let n = length c.args.odd.now in
    AllWithin-between (2 ^ 31 - 1) (length c.args.even.now) 3 (n + 3) n c.args.even.now (omega arith) (omega arith) c.requires.bounded_even

pub predict_add_widened-requires-clause-fits : goal.predict_add_widened-requires-clause-fits
predict_add_widened-requires-clause-fits c =
    record { at = λ k h. rw (inner-same (length c.args.odd.now) k (signal c.args.odd.now) c.args.even.now h) (c.requires.fits.at k h) }

pub returns-then-small : goal.returns-then-small
returns-then-small c =
    record { at = λ k h. c.predict_add_narrow.ensures.at k h ∙ inner-same (length c.args.odd.now) k (signal c.args.odd.now) c.args.even.now h }

pub returns-else-small : goal.returns-else-small
returns-else-small c =
    record { at = λ k h. c.predict_add_widened.ensures.at k h ∙ inner-same (length c.args.odd.now) k (signal c.args.odd.now) c.args.even.now h }
