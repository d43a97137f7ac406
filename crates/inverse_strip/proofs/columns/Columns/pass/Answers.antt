use Rattle.std.proofs.Common.{◌*◌, ◌^◌}
use Rattle.inverse_strip.proofs.ZeroPairs.{HoldPairs-zero, ArePairsWithin-zero}
use Rattle.inverse_strip.proofs.columns.Columns.pass.Goals as goal

pub invariant_of-self-clause-within : goal.invariant_of-self-clause-within
invariant_of-self-clause-within c =
    let s = c.args.self.now in
    let zero = c.requires.zero in
    ArePairsWithin-zero (375 * 2 ^ 22) s.width s.taken s.evens s.highs s.sink_state zero.evens zero.highs s.within

pub invariant_of-self-clause-small_within : goal.invariant_of-self-clause-small_within
invariant_of-self-clause-small_within c = λ e.
    let s = c.args.self.now in
    let zero = c.requires.zero in
    ArePairsWithin-zero (2 ^ 27) s.width s.taken s.evens s.highs s.sink_state zero.evens zero.highs (s.small_within e)

pub returns-clause-zero : goal.returns-clause-zero
returns-clause-zero c = let zero = c.requires.zero in record { evens = zero.evens; highs = zero.highs }

pub returns-clause-follows : goal.returns-clause-follows
returns-clause-follows c = λ low high hold here there.
    let s = c.args.self.now in
    let zero = c.requires.zero in
    HoldPairs-zero low high s.width s.taken s.evens s.highs s.sink_state zero.evens zero.highs hold here there

pub returns-clause-within : goal.returns-clause-within
returns-clause-within c = λ m some.
    let s = c.args.self.now in
    let zero = c.requires.zero in
    ArePairsWithin-zero m s.width s.taken s.evens s.highs s.sink_state zero.evens zero.highs some
