use Rattle.std.proofs.Common.{ℕ, ◌≤◌, pos, get_or, replicate, inl, inr, arith, ap, length, unsigned_abs}
use Rattle.std.proofs.lemmas.Bool.{cases_lt}
use Rattle.std.proofs.lemmas.List.{get_or-replicate, get_or_past, length-replicate}
use Rattle.wave_tests.proofs.places.each_named.Goals as goal

zero_small : (k : ℕ) → unsigned_abs (get_or (replicate 400 (pos 0)) k (pos 0)) ≤ 400
zero_small k =
    elim (cases_lt k 400) [
      | inl lt ↦ rw (get_or-replicate 400 k (pos 0) (pos 0) lt) (omega arith)
      | inr ge ↦ rw (get_or_past (replicate 400 (pos 0)) k (pos 0) (rw (length-replicate 400 (pos 0)) ge)) (omega arith)
    ]

pub loop-i-init : goal.loop-i-init
loop-i-init c = zero_small
