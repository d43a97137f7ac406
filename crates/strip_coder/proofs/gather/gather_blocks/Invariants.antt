use Rattle.std.proofs.Common.{◌≡◌, ◌+◌, ◌*◌, ℕ, length}
use Rattle.block_families.specs.Places.{gathered}
use Rattle.wave_strip.specs.Strip.{number_in}
use Rattle.strip_coder.specs.Steps.{PutsBlocks}
use Rattle.strip_coder.proofs.gather.gather_blocks.Given as goal

abbrev pub invariant-loop-k : goal.invariant-loop-k
invariant-loop-k l = record {
  most : l.blocks.most ≡ l.initial.blocks.most;
  long : length l.blocks.numbers ≡ length l.initial.blocks.numbers + 64 * l.k;
  puts : (place : ℕ) → length l.initial.blocks.numbers ≡ 64 * place →
      PutsBlocks place l.k l.initial.blocks.numbers l.blocks.numbers (λ k. gathered (number_in l.strip) l.weights.shifts (l.column + k));
}
