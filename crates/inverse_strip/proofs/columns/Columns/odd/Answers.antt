use Rattle.std.proofs.Common.{◌≡◌, ℕ, ◌+◌, ◌*◌, ◌-◌, ◌^◌, ℤ, length, ◌∙◌, refl, arith}
use Rattle.wave_defs.specs.Lifted.{plus_predicted}
use Rattle.wave_defs.specs.Held.{signal}
use Rattle.inverse_strip.specs.Kept.{HoldPairs}
use Rattle.inverse_strip.proofs.RowLemmas.{Agrees-odd_row}
use Rattle.inverse_strip.proofs.RingLemmas.{columns_merged-odd_at}
use Rattle.lift_rows.proofs.Fits.{AllWithin-more}
use Rattle.inverse_strip.proofs.PairLemmas.{even-fits, row-within, on_true}
use Rattle.inverse_strip.proofs.columns.Columns.odd.Goals as goal

pub predict-requires-clause-bounded_a : goal.predict-requires-clause-bounded_a
predict-requires-clause-bounded_a c =
    let s = c.args.self.now in
    even-fits (2 ^ 31 - 1) (375 * 2 ^ 22) s.width _ s.taken _ (c.mirrored_before.result) s.evens s.highs _ (omega arith) c.at-2.ensures
    s.sink_state.evens.count_is (omega arith) (omega arith) (omega arith) (omega arith) s.within

pub predict-requires-clause-small_a : goal.predict-requires-clause-small_a
predict-requires-clause-small_a c =
    let s = c.args.self.now in
    on_true s.small (λ e. even-fits (7 * 2 ^ 26) (2 ^ 27) s.width _ s.taken _ (c.mirrored_before.result) s.evens s.highs _ (omega arith) c.at-2.ensures
    s.sink_state.evens.count_is (omega arith) (omega arith) (omega arith) (omega arith) (s.small_within e))

pub predict-requires-clause-bounded_b : goal.predict-requires-clause-bounded_b
predict-requires-clause-bounded_b c =
    let s = c.args.self.now in
    even-fits (2 ^ 31 - 1) (375 * 2 ^ 22) s.width _ s.taken _ (c.args.k) s.evens s.highs _ (omega arith) c.at-3.ensures s.sink_state.evens.count_is
    (omega arith)
    (omega arith) (omega arith) (omega arith) s.within

pub predict-requires-clause-small_b : goal.predict-requires-clause-small_b
predict-requires-clause-small_b c =
    let s = c.args.self.now in
    on_true s.small (λ e. even-fits (7 * 2 ^ 26) (2 ^ 27) s.width _ s.taken _ (c.args.k) s.evens s.highs _ (omega arith) c.at-3.ensures
    s.sink_state.evens.count_is (omega arith) (omega arith) (omega arith) (omega arith) (s.small_within e))

pub predict-requires-clause-bounded_c : goal.predict-requires-clause-bounded_c
predict-requires-clause-bounded_c c =
    let s = c.args.self.now in
    even-fits (2 ^ 31 - 1) (375 * 2 ^ 22) s.width _ s.taken _ (c.mirrored_after.result) s.evens s.highs _ (omega arith) c.at-4.ensures
    s.sink_state.evens.count_is (omega arith) (omega arith) (omega arith) (omega arith) s.within

pub predict-requires-clause-small_c : goal.predict-requires-clause-small_c
predict-requires-clause-small_c c =
    let s = c.args.self.now in
    on_true s.small (λ e. even-fits (7 * 2 ^ 26) (2 ^ 27) s.width _ s.taken _ (c.mirrored_after.result) s.evens s.highs _ (omega arith) c.at-4.ensures
    s.sink_state.evens.count_is (omega arith) (omega arith) (omega arith) (omega arith) (s.small_within e))

pub predict-requires-clause-bounded_d : goal.predict-requires-clause-bounded_d
predict-requires-clause-bounded_d c =
    let s = c.args.self.now in
    even-fits (2 ^ 31 - 1) (375 * 2 ^ 22) s.width _ s.taken _ (c.mirrored_after-2.result) s.evens s.highs _ (omega arith) c.at-5.ensures
    s.sink_state.evens.count_is (omega arith) (omega arith) (omega arith) (omega arith) s.within

pub predict-requires-clause-small_d : goal.predict-requires-clause-small_d
predict-requires-clause-small_d c =
    let s = c.args.self.now in
    on_true s.small (λ e. even-fits (7 * 2 ^ 26) (2 ^ 27) s.width _ s.taken _ (c.mirrored_after-2.result) s.evens s.highs _ (omega arith) c.at-5.ensures
    s.sink_state.evens.count_is (omega arith) (omega arith) (omega arith) (omega arith) (s.small_within e))

pub predict-requires-clause-fits : goal.predict-requires-clause-fits
predict-requires-clause-fits c =
    let s = c.args.self.now in
    let k = c.args.k in
    let wide : length c.copy_from_slice.new.self ≡ s.width = omega arith in
    let y = plus_predicted (signal c.copy_from_slice.new.self) (signal c.at-2.result.now) (signal c.at-3.result.now) (signal c.at-4.result.now)
    (signal c.at-5.result.now) in
    let made = λ (low high : ℕ → ℕ → ℤ) (hold : HoldPairs low high s.width s.taken s.evens s.highs).
    columns_merged-odd_at low high s.taken k s.width y
    (Agrees-odd_row low high s.width s.width s.taken k _ _ _ s.evens s.highs y _ _ _ _ _ refl s.sink_state c.requires.long c.requires.inside c.requires.kept
    c.mirrored_before.ensures c.mirrored_after.ensures.value c.mirrored_after-2.ensures.value (c.copy_from_slice.ensures.after ∙ c.at.ensures)
    c.at-2.ensures c.at-3.ensures c.at-4.ensures c.at-5.ensures (record { at = λ j h. refl }) hold) in
    let within = row-within (375 * 2 ^ 22) s.width s.taken (2 * k + 1) s.evens s.highs y c.requires.long (omega arith) made s.within in
    rw wide (AllWithin-more _ (2 ^ 31 - 1) s.width _ (omega arith) within)

pub returns : goal.returns
returns c = λ low high hold.
    let s = c.args.self.now in
    Agrees-odd_row low high s.width _ s.taken c.args.k _ _ _ s.evens s.highs _ _ _ _ _ _ (omega arith) s.sink_state c.requires.long c.requires.inside
    c.requires.kept c.mirrored_before.ensures c.mirrored_after.ensures.value c.mirrored_after-2.ensures.value
    (c.copy_from_slice.ensures.after ∙ c.at.ensures) c.at-2.ensures c.at-3.ensures c.at-4.ensures c.at-5.ensures c.predict.ensures hold
