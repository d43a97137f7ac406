-- The words of symbols, options of words, and steps whose words have at most four bits.
use Rattle.std.proofs.Common.{◌≡◌, ℕ, zero, suc, ◌^◌, ◌<◌, ◌≤◌, true, List, refl, arith, ◌==◌}
use Rattle.std.specs.List.{list_all, AllByRecursion}
use Rattle.std.proofs.lemmas.Bool.Decides.{nat_tests}
use Rattle.std.proofs.lemmas.Bool.{eqb-true}
use Rattle.base_122.specs.declared.book.Book.{Book}
use Rattle.plane_defs.specs.Spans.{span}
use Rattle.plane_defs.specs.Entries.{IsEntry}
use Rattle.plane_defs.specs.Codes.{symbol, word_item}
use Rattle.plane_defs.specs.Spelled.{option_of}
use Rattle.plane_defs.specs.Steps.{Step}
use Rattle.plane_defs.specs.Reading.{word_of}
use Rattle.plane_defs.proofs.Tables.{list_all-span-zero}

-- ---- symbols

words_of_symbols : (n : ℕ) → 2 ≤ n → n ≤ 4 → list_all (λ v. word_of n (symbol n v) == v) (span 0 (2 ^ n)) ≡ true
unfolding word_of symbol span lib.Count.ones
words_of_symbols zero low high = absurd (omega arith)
words_of_symbols (suc zero) low high = absurd (omega arith)
words_of_symbols (suc (suc zero)) low high = refl
words_of_symbols (suc (suc (suc zero))) low high = refl
words_of_symbols (suc (suc (suc (suc zero)))) low high = refl
words_of_symbols (suc (suc (suc (suc (suc n))))) low high = absurd (omega arith)

pub word_of-symbol : (n v : ℕ) → 2 ≤ n → n ≤ 4 → v < 2 ^ n → word_of n (symbol n v) ≡ v
word_of-symbol n v low high below =
    eqb-true (word_of n (symbol n v)) v (list_all-span-zero (λ v. word_of n (symbol n v) == v) (2 ^ n) v (words_of_symbols n low high) below)

-- ---- options

pub record AreOptionsOf (options : List ℕ) : Type 0 where
  pub at : (n : ℕ) → 2 ≤ n → n ≤ 4 → option_of options n < n

-- ---- words

pub word_shape : (book : Book) (n option v w : ℕ) → (word_item book n option v).form.shape ≡ (word_item book n option w).form.shape
word_shape book n option v w = grind (arith, nat_tests)

-- ---- lists of steps

abbrev pub Fits : List Step → Type 0
Fits steps = AllByRecursion (λ s. IsEntry s.entry) steps
