-- The items of two DC parts, and of two lists of block depths, step alike.
use Rattle.std.proofs.Common.{◌≡◌, ℕ, ◌^◌, ◌<◌, ℤ, pos, List, length, map, get_or, true, arith, pow_pos}
use Rattle.std.specs.Int.{int_shr}
use Rattle.std.proofs.lemmas.List.{get_or_past, get_or-map, length-map}
use Rattle.std.proofs.lemmas.Bool.Decides.{nat_tests}
use Rattle.number_defs.specs.Ranges.{IsInRange, shifted_height}
use Rattle.number_defs.specs.Laws.{AreFew}
use Rattle.number_defs.proofs.Heights.{height_below}

pub few_anywhere : (N : ℕ) (xs : List ℕ) → AreFew N xs → (i : ℕ) → get_or xs i 0 < 2 ^ N
few_anywhere N xs few i = grind (arith, nat_tests, get_or_past, pow_pos)

pub heights_few : (N q : ℕ) (dcs : List ℤ) → ((i : ℕ) → i < length dcs → IsInRange true N (int_shr (get_or dcs i (pos 0)) q)) →
    AreFew N (map (shifted_height true N q) dcs)
heights_few N q dcs fit i lt =
    let within : i < length dcs = omega (arith, length-map dcs (shifted_height true N q)) in
    let e : get_or (map (shifted_height true N q) dcs) i 0 ≡ shifted_height true N q (get_or dcs i (pos 0)) =
    get_or-map (shifted_height true N q) dcs i (pos 0) 0 within in
    rw e (height_below true N (int_shr (get_or dcs i (pos 0)) q) (fit i within))
