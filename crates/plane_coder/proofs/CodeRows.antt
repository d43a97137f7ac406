-- The codes of all words, row by row.
use Rattle.std.proofs.Common.{◌≡◌, ℕ, zero, suc, ◌+◌, ◌*◌, ◌%◌, ◌<◌, ◌≤◌, ◌^◌, List, [], ◌∷◌, replicate, refl, ap, sym, ◌∙◌, arith, get_or, cond, pow_mono}
use Rattle.std.proofs.lemmas.Nat.{one_shl}
use Rattle.std.proofs.lemmas.Bool.Decides.{nat_tests}
use Rattle.item_defs.specs.Bits.{bits_of}
use Rattle.item_defs.specs.Items.{item_bits}
use Rattle.item_defs.proofs.NumberBits.{bits_none}
use Rattle.base_122.specs.declared.book.Code.{Code}
use Rattle.base_122.specs.declared.book.Book.{Book}
use Rattle.base_122.specs.Profile.{no_code}
use Rattle.plane_defs.specs.Codes.{code_bits, word_item}
use Rattle.plane_coder.specs.Coding.{IsCodeOf, IsWordOf, row_of, code_in, option_for}
use Rattle.plane_coder.proofs.Appending.{no_less}
use Rattle.block_masks.specs.Gaggles.{AreOptions}

pub coded_word : (book : Book) (length option v : ℕ) (code : Code) → 2 ≤ length → code_bits code ≡ item_bits (word_item book length option v) →
    code.len ≤ 8 → code.bits < 2 ^ code.len → IsCodeOf book length option v code
coded_word book length option v code long is few fits = record {
  bits = is ∙ sym (ap (λ b. cond b (bits_of length v) (item_bits (word_item book length option v))) (no_less length long));
  few = few;
  fits = fits;
}

-- an empty word has no bits
coded_nothing : (book : Book) (v : ℕ) → IsCodeOf book 0 0 v no_code
coded_nothing book v = record { bits = bits_none 0 ∙ sym (bits_none v); few = omega arith; fits = omega arith }

abbrev Codes : Book → ℕ → ℕ → List Code → Type 0
Codes book n option row = (v : ℕ) → v < 2 ^ n → IsCodeOf book n option v (get_or row v no_code)

pub all_coded : (book : Book) (b c d e f g h i j k : List Code) → Codes book 1 0 b → Codes book 2 0 c → Codes book 2 1 d → Codes book 3 0 e →
    Codes book 3 1 f → Codes book 3 2 g →
    Codes book 4 0 h → Codes book 4 1 i → Codes book 4 2 j → Codes book 4 3 k →
    (n option v : ℕ) → IsWordOf n option v → IsCodeOf book n option v (code_in (replicate 16 no_code ∷ b ∷ c ∷ d ∷ e ∷ f ∷ g ∷ h ∷ i ∷ j ∷ k ∷ [])
    (row_of n option) v)
all_coded book b c d e f g h i j k tb tc td te tf tg th ti tj tk = rows
  where
    rows : (n option v : ℕ) → IsWordOf n option v → IsCodeOf book n option v (code_in (replicate 16 no_code ∷ b ∷ c ∷ d ∷ e ∷ f ∷ g ∷ h ∷ i ∷ j ∷ k ∷ [])
        (row_of n option) v)
    rows zero zero zero w = coded_nothing book 0
    rows zero zero (suc v) w = absurd (omega (arith, w.fits))
    rows zero (suc option) v w = let none : suc option ≡ 0 = w.short (omega arith) in absurd (omega (arith, none))
    rows (suc zero) zero v w = tb v w.fits
    rows (suc zero) (suc option) v w = let none : suc option ≡ 0 = w.short (omega arith) in absurd (omega (arith, none))
    rows (suc (suc zero)) zero v w = tc v w.fits
    rows (suc (suc zero)) (suc zero) v w = td v w.fits
    rows (suc (suc zero)) (suc (suc option)) v w = let known : suc (suc option) < 2 = w.known (omega arith) in absurd (omega (arith, known))
    rows (suc (suc (suc zero))) zero v w = te v w.fits
    rows (suc (suc (suc zero))) (suc zero) v w = tf v w.fits
    rows (suc (suc (suc zero))) (suc (suc zero)) v w = tg v w.fits
    rows (suc (suc (suc zero))) (suc (suc (suc option))) v w = let known : suc (suc (suc option)) < 3 = w.known (omega arith) in absurd (omega (arith, known))
    rows (suc (suc (suc (suc zero)))) zero v w = th v w.fits
    rows (suc (suc (suc (suc zero)))) (suc zero) v w = ti v w.fits
    rows (suc (suc (suc (suc zero)))) (suc (suc zero)) v w = tj v w.fits
    rows (suc (suc (suc (suc zero)))) (suc (suc (suc zero))) v w = tk v w.fits
    rows (suc (suc (suc (suc zero)))) (suc (suc (suc (suc option)))) v w = let known : suc (suc (suc (suc option))) < 4 =
        w.known (omega arith) in absurd (omega (arith, known))
    rows (suc (suc (suc (suc (suc n))))) option v w = absurd (omega (arith, w.long))

-- a word of one bit is its own code
pub raw_coded : (book : Book) (rest : List Code) (v : ℕ) → v < 2 →
    IsCodeOf book 1 0 v (get_or (record { bits = 0; len = 1 } ∷ record { bits = 1; len = 1 } ∷ rest) v no_code)
raw_coded book rest zero below = record { bits = refl; few = omega arith; fits = omega arith }
raw_coded book rest (suc zero) below = record { bits = refl; few = omega arith; fits = omega arith }
raw_coded book rest (suc (suc v)) below = absurd (omega arith)

-- there are at most sixteen words of four bits
pub word_within : (length word : ℕ) → length ≤ 4 → word < 1 * 2 ^ length % 256 → word < 16
word_within length word few below = grind (arith, nat_tests, one_shl, pow_mono)

pub all_words : (length word v : ℕ) → length ≤ 4 → 1 * 2 ^ length % 256 ≤ word → v < 2 ^ length → v < word
all_words length word v few all below =
    let whole : 1 * 2 ^ length % 256 ≡ 2 ^ length = one_shl length 8 (omega arith) in
    omega (arith, whole)

-- ---- the options of a gaggle

abbrev rows : List ℕ → List ℕ
rows options = 0 ∷ 1 ∷ (2 + get_or options 0 0) ∷ (4 + get_or options 1 0) ∷ (7 + get_or options 2 0) ∷ []

pub rows_chosen : (options : List ℕ) (n : ℕ) → n ≤ 4 → get_or (rows options) n 0 ≡ row_of n (option_for options n)
rows_chosen options n le = grind (arith, nat_tests)

pub rows_within : (options : List ℕ) → AreOptions options → (n : ℕ) → n ≤ 4 → get_or (rows options) n 0 < 11
rows_within options known n le = grind (arith, nat_tests)
