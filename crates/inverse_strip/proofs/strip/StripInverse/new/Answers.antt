use Rattle.std.proofs.Common.{◌*◌, ◌^◌, arith}
use Rattle.inverse_strip.proofs.strip.StripInverse.new.Goals as goal

pub invariant_of-result-clause-third_within : goal.invariant_of-result-clause-third_within
invariant_of-result-clause-third_within c = c.in_ok-third.ensures.within (2 ^ 27)

pub invariant_of-result-clause-second_within : goal.invariant_of-result-clause-second_within
invariant_of-result-clause-second_within c = c.in_ok-second.ensures.within (21 * 2 ^ 25)

pub invariant_of-result-clause-counts : goal.invariant_of-result-clause-counts
invariant_of-result-clause-counts c =
    let n = c.in_ok-third.ensures.taken in
    let third = c.in_ok-third.ensures.given in
    let second = c.in_ok-second.ensures.given in
    let first = c.in_ok-first.ensures.given in
    record {
      within = omega arith;
      second_waits = omega arith;
      first_waits = omega arith;
      third_open = λ h. omega arith;
      second_open = λ h. omega arith;
      first_open = λ h. omega arith;
    }
