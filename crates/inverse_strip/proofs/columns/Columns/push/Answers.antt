use Rattle.std.proofs.Common.{◌≡◌, ℕ, ◌*◌, ◌^◌, length, arith, drop}
use Rattle.std.proofs.Math.Seq.{take_at}
use Rattle.wave_defs.specs.Within.{AllWithin}
use Rattle.wave_defs.specs.Held.{signal}
use Rattle.wave_defs.proofs.RingLaws.{RowsWithin-turn}
use Rattle.inverse_strip.specs.Kept.{ArePairsWithin}
use Rattle.inverse_strip.proofs.RingLemmas.{AreRings-turn, HoldPairs-pushed}
use Rattle.inverse_strip.proofs.PairLemmas.{ArePairsWithin-turn, both_true}
use Rattle.inverse_strip.proofs.columns.Columns.push.Goals as goal

pub returns-clause-follows : goal.returns-clause-follows
returns-clause-follows c =
    let s = c.args.self.now in
    let row = c.args.row.now in
    let out = c.even_row.new.row in
    let wide : length out ≡ s.width = omega arith in
    let whole = take_at out (drop (length out) row.items) row.len (omega arith) in
    let held = HoldPairs-pushed s.width _ s.taken s.evens s.highs _ _ row.items _ out _ c.args.high.now s.sink_state (omega arith) wide c.requires.wide_high
    c.deref_mut.ensures.value whole c.turn_swap.ensures.rows c.turn_copy.ensures c.even_row.ensures in
    held

pub returns-clause-within : goal.returns-clause-within
returns-clause-within c = λ m some within_low.
    let s = c.args.self.now in
    let row = c.args.row.now in
    let out = c.even_row.new.row in
    let wide : length out ≡ s.width = omega arith in
    let whole = take_at out (drop (length out) row.items) row.len (omega arith) in
    let held = HoldPairs-pushed s.width _ s.taken s.evens s.highs _ _ row.items _ out _ c.args.high.now s.sink_state (omega arith) wide c.requires.wide_high
    c.deref_mut.ensures.value whole c.turn_swap.ensures.rows c.turn_copy.ensures c.even_row.ensures in
    ArePairsWithin-turn m s.width s.taken s.evens s.highs _ _ (signal row.items) (signal c.args.high.now) held some within_low c.requires.small_high

pub invariant_of-self : goal.invariant_of-self
invariant_of-self c =
    let s = c.args.self.now in
    let row = c.args.row.now in
    let out = c.even_row.new.row in
    let wide : length out ≡ s.width = omega arith in
    let whole = take_at out (drop (length out) row.items) row.len (omega arith) in
    let held = HoldPairs-pushed s.width _ s.taken s.evens s.highs _ _ row.items _ out _ c.args.high.now s.sink_state (omega arith) wide c.requires.wide_high
    c.deref_mut.ensures.value whole c.turn_swap.ensures.rows c.turn_copy.ensures c.even_row.ensures in
    let three = s.sink_state.highs.count_is in
    let turned = λ (m : ℕ) (some : ArePairsWithin m s.width s.taken s.evens s.highs) (low : AllWithin m s.width (signal row.items)). ArePairsWithin-turn m
    s.width s.taken s.evens s.highs _ _ (signal row.items) (signal c.args.high.now) held some low c.requires.small_high in
    record {
      sink_state = rw (c.turn_swap.ensures.rows, c.turn_copy.ensures, whole) (AreRings-turn s.width s.evens s.highs out c.args.high.now s.sink_state wide
          c.requires.wide_high);
      narrow = rw c.turn_copy.ensures (RowsWithin-turn (2 ^ 27) s.width s.highs c.args.high.now (omega arith) s.narrow c.requires.small_high);
      within = turned (375 * 2 ^ 22) s.within c.requires.small_low;
      small_within = λ e. let both = both_true s.small c.args.small e in turned (2 ^ 27) (s.small_within both.0) (c.requires.small both.1);
    }
