use Rattle.std.proofs.Common.{◌≡◌, ◌+◌, ◌<◌, ◌/◌, ℤ, List, length, sym, ap, ◌∙◌, arith}
use Rattle.std.proofs.lemmas.List.{take_all}
use Rattle.wave_defs.specs.Held.{block_at}
use Rattle.block_families.specs.Places.{gathered}
use Rattle.block_families.proofs.gathering.gather.Goals as goal

first_block : (xs : List ℤ) → length xs ≡ 64 → block_at xs 0 ≡ xs
first_block xs whole = take_all 64 xs (omega (arith, whole))

pub returns : goal.returns
returns g c =
    let new = c.gather_run.new.into in
    let whole : length new ≡ 64 = omega (arith, c.requires.whole) in
    let one : 0 < length c.args.into.now / 64 = omega (arith, c.requires.whole) in
    let here : c.args.column + 0 ≡ c.args.column = omega arith in
    sym (first_block new whole) ∙ c.gather_run.ensures 0 one
    ∙ ap (gathered (g.B.BandSource.number c.args.bands.now) c.args.weights.now.shifts) here
