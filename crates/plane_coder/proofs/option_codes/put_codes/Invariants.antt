use Rattle.std.proofs.Common.{◌≡◌, ◌+◌, ◌*◌, ◌<◌, ℕ, length, get_or}
use Rattle.base_122.specs.Profile.{no_code}
use Rattle.plane_coder.specs.Coding.{code_in}
use Rattle.plane_coder.proofs.option_codes.put_codes.Given as goal

abbrev pub invariant-loop-n : goal.invariant-loop-n
invariant-loop-n l = record {
  whole : length l.codes ≡ 80;
  so_far : (n v : ℕ) → n < l.n → v < 16 → get_or l.codes (16 * n + v) no_code ≡ code_in l.tables.rows (get_or l.rows n 0) v;
}
