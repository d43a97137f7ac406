use Rattle.std.proofs.Common.{◌≡◌, ◌<◌, ℕ, length, get_or, [], ◌∷◌}
use Rattle.base_122.specs.declared.book.Book.{Book}
use Rattle.plane_coder.specs.Coding.{AreCodes}
use Rattle.plane_coder.specs.Costs.{long_bits}
use Rattle.plane_coder.specs.Picked.{IsPacked, word_of}
use Rattle.plane_coder.proofs.tables.long_costs_of.Given as goal

abbrev pub invariant-loop-word : goal.invariant-loop-word
invariant-loop-word l = record {
  whole : length l.costs ≡ 80;
  so_far : (book : Book) → AreCodes book l.rows → (word : ℕ) → word < l.word → IsPacked word → get_or l.costs word 0 ≡ long_bits book (word_of word ∷ []);
}
