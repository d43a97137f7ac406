use Rattle.std.proofs.Common.{◌≡◌, ℕ, ◌*◌, pos, true, arith, replicate}
use Rattle.std.proofs.lemmas.Int.{ints}
use Rattle.std.proofs.lemmas.List.{get_or-replicate, length-replicate}
use Rattle.number_defs.specs.Cells.{AreInRange, cell_at}
use Rattle.layer_tests.proofs.numbers.put_nine.Goals as goal

alike_fit : (n : ℕ) → AreInRange true 9 3 1 (replicate n (pos 1600))
alike_fit n = record {
  at = λ m within.
      let same : cell_at 1 (replicate n (pos 1600)) m ≡ pos 1600 =
      get_or-replicate n (m * 1) (pos 1600) (pos 0) (omega (arith, length-replicate n (pos 1600))) in
      rw same (record { low = omega (arith, ints); high = omega (arith, ints) });
}

pub put_dc-requires-clause-fit : goal.put_dc-requires-clause-fit
put_dc-requires-clause-fit g c = alike_fit 9
