use Rattle.std.proofs.Common.{arith}
use Rattle.wave_strip.proofs.SampleLemmas.{samples_in-rows}
use Rattle.wave_strip.proofs.columns.Columns.samples.Goals as goal

pub returns-clause-value : goal.returns-clause-value
returns-clause-value c =
    let s = c.args.self.now in
    let e = samples_in-rows 4 s.width s.evens s.sink_state.evens in
    let o = samples_in-rows 2 s.width s.odds s.sink_state.odds in
    let l = samples_in-rows s.kept s.width s.lows s.sink_state.lows in
    let h = samples_in-rows s.kept s.width s.highs s.sink_state.highs in
    grind (arith, e, o, l, h)
