use Rattle.std.proofs.Common.{◌≡◌, ◌<◌, ℕ, length, get_or}
use Rattle.base_122.specs.Profile.{no_code}
use Rattle.plane_coder.specs.Coding.{IsCodeOf}
use Rattle.plane_coder.proofs.tables.codes_of.Given as goal

abbrev pub invariant-loop-word : goal.invariant-loop-word
invariant-loop-word l = record {
  whole : length l.codes ≡ 16;
  so_far : (v : ℕ) → v < l.word → IsCodeOf l.book l.length l.option v (get_or l.codes v no_code);
}
