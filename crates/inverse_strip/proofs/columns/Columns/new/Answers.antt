use Rattle.std.proofs.Common.{◌^◌, ◌*◌}
use Rattle.inverse_strip.proofs.ZeroRows.{AreRows-zeros, RowsWithin-zeros}
use Rattle.inverse_strip.proofs.PairLemmas.{ArePairsWithin-none}
use Rattle.inverse_strip.proofs.columns.Columns.new.Goals as goal

pub invariant_of-result : goal.invariant_of-result
invariant_of-result c =
    let w = c.args.width in
    record {
      sink_state = record { evens = AreRows-zeros 4 w _ c.in_ok-evens.ensures; highs = AreRows-zeros 3 w _ c.in_ok-highs.ensures };
      narrow = RowsWithin-zeros (2 ^ 27) 3 w _ c.in_ok-highs.ensures;
      within = ArePairsWithin-none (375 * 2 ^ 22) w _ _;
      small_within = λ e. ArePairsWithin-none (2 ^ 27) w _ _;
    }

pub returns-clause-within : goal.returns-clause-within
returns-clause-within c = λ m. ArePairsWithin-none m c.args.width _ _
