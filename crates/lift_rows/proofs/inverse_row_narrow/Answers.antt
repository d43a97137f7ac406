use Rattle.std.proofs.Common.{◌≡◌, length, arith}
use Rattle.wave_defs.proofs.LineLaws.{Agrees-merged}
use Rattle.wave_defs.proofs.LiftLaws.{Agrees-trans}
use Rattle.lift_rows.specs.Halves.{evens, odds}
use Rattle.lift_rows.proofs.inverse_row_narrow.Goals as goal

pub returns : goal.returns
unfolding evens odds
returns c =
    let n = length c.args.low.now in
    let here : length c.inverse_halves.new.low ≡ n = omega arith in
    let even = simp here at c.interleave.ensures.even in
    let odd = simp here at c.interleave.ensures.odd in
    Agrees-merged _ _ _ n (Agrees-trans n _ _ _ even c.inverse_halves.ensures.even) (Agrees-trans n _ _ _ odd c.inverse_halves.ensures.odd)
