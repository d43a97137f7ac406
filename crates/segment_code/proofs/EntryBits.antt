-- How many bits the entries of a plane take at most.
use Rattle.std.proofs.Common.{◌≡◌, ℕ, zero, suc, ◌+◌, ◌*◌, ◌<◌, ◌≤◌, Bool, true, false, cond, List, [], ◌∷◌, ◌++◌, length, get_or, refl, ap, arith}
use Rattle.std.proofs.Common.{length-append, map, filter}
use Rattle.std.specs.List.{flat_map, list_any}
use Rattle.std.proofs.lemmas.List.{length-map, get_or_past}
use Rattle.std.proofs.lemmas.Bool.Decides.{nat_tests}
use Rattle.item_defs.specs.Items.{Item, text, item_bits}
use Rattle.item_defs.proofs.Texts.{text-append, text-one}
use Rattle.item_defs.proofs.NumberBits.{length-bits_of}
use Rattle.base_122.specs.declared.book.Book.{Book}
use Rattle.plane_defs.specs.declared.entries.Entry.{Entry}
use Rattle.plane_defs.specs.declared.entries.Entry.TheVariants.{Bit, Word}
use Rattle.plane_defs.specs.Spans.{span}
use Rattle.plane_defs.specs.Entries.{IsEntry}
use Rattle.plane_defs.specs.Codes.{is_book_sound, codes_of, word_item, option_item, identifier_width, identifier_number}
use Rattle.plane_defs.specs.Spelled.{is_word_of, option_of, opening, entry_items, spelled_after}
use Rattle.plane_defs.proofs.Fitting.{Fit}
use Rattle.plane_defs.proofs.SpanLists.{length-chosen, length-map-span, get_or-map-span}
use Rattle.plane_defs.proofs.StepItems.{AreOptionsOf}
use Rattle.plane_defs.proofs.Tables.{code_len}

-- ---- a raw bit takes one bit; a word takes at most its option's identifier and a code

abbrev pub most_bits : Entry → ℕ
most_bits (Bit b) = 1
most_bits (Word bits) = 10

abbrev pub most_of : List Entry → ℕ
most_of [] = 0
most_of (x ∷ xs) = most_bits x + most_of xs

module _ (book : Book) (sound : is_book_sound book ≡ true) where
  -- ---- codes have at most eight bits

  code_few : (n option k : ℕ) → 2 ≤ n → n ≤ 4 → option + 1 < n → length (get_or (codes_of book n option) k []) ≤ 8
  code_few n option k low high more = grind (arith, nat_tests, code_len, get_or-map-span, length-bits_of, get_or_past, length-map-span)

  word_few : (n option value : ℕ) → 2 ≤ n → n ≤ 4 → option < n → length (item_bits (word_item book n option value)) ≤ 8
  word_few n option value low le known = grind (arith, nat_tests, length-bits_of, code_few)

  identifier_few : (n : ℕ) → identifier_width n ≤ 2
  identifier_few n = grind (arith, nat_tests)

  opening_few : (options : List ℕ) (before : List Entry) (n : ℕ) → length (text (opening options before n)) ≤ 2
  opening_few options before n = by_sent (list_any (is_word_of n) before)
    where
      by_sent : (b : Bool) → length (text (cond b [] (option_item n (option_of options n) ∷ []))) ≤ 2
      by_sent true = omega arith
      by_sent false =
          let i = option_item n (option_of options n) in
          omega (arith, ap length (text-one i), length-bits_of (identifier_width n) (identifier_number n (option_of options n)), identifier_few n)

  entry_few : (options : List ℕ) → AreOptionsOf options → (before : List Entry) (e : Entry) → IsEntry e →
      length (text (entry_items book options before e)) ≤ most_bits e
  unfolding entry_items
  entry_few options known before e fit = grind (arith, nat_tests, text-one, length-bits_of, text-append, length-append, opening_few, word_few)

  pub spelled_few : (options : List ℕ) → AreOptionsOf options → (before xs : List Entry) → Fit xs →
      length (text (spelled_after book options before xs)) ≤ most_of xs
  spelled_few options known before [] fit = omega arith
  spelled_few options known before (x ∷ xs) fit =
      let here = entry_few options known before x fit.0 in
      let rest = spelled_few options known (before ++ x ∷ []) xs fit.1 in
      let more = spelled_after book options (before ++ x ∷ []) xs in
      omega (
        arith,
        here,
        rest,
        ap length (text-append (entry_items book options before x) more),
        length-append (text (entry_items book options before x))
            (text more),
      )

-- ---- sums

pub most_both : (xs ys : List Entry) → most_of (xs ++ ys) ≡ most_of xs + most_of ys
most_both [] ys = omega arith
most_both (x ∷ xs) ys = let rest = most_both xs ys in omega (arith, rest)

pub most_each : {X : Type 0} (f : X → List Entry) (m : ℕ) (xs : List X) → ((x : X) → most_of (f x) ≤ m) → most_of (flat_map f xs) ≤ length xs * m
most_each f m [] few = omega arith
most_each f m (x ∷ xs) few =
    let rest = most_each f m xs few in
    let more : suc (length xs) * m ≡ m + length xs * m = grind arith in
    omega (arith, rest, few x, more, most_both (f x) (flat_map f xs))

pub bits_most : {X : Type 0} (f : X → Bool) (xs : List X) → most_of (map (λ x. Bit (f x)) xs) ≡ length xs
bits_most f [] = refl
bits_most f (x ∷ xs) = let rest = bits_most f xs in omega (arith, rest)

pub text_each : {X : Type 0} (f : X → List Item) (m : ℕ) (xs : List X) → ((x : X) → length (text (f x)) ≤ m) → length (text (flat_map f xs)) ≤ length xs * m
text_each f m [] few = omega arith
text_each f m (x ∷ xs) few =
    let rest = text_each f m xs few in
    let more : suc (length xs) * m ≡ m + length xs * m = grind arith in
    omega (arith, rest, few x, more, ap length (text-append (f x) (flat_map f xs)), length-append (text (f x)) (text (flat_map f xs)))

pub length_span : (start count : ℕ) → length (span start count) ≡ count
unfolding span
length_span start zero = refl
length_span start (suc count) = omega (arith, length_span start count, length-append (span start count) ((start + count) ∷ []))

-- no more elements of a span are chosen than it has
pub chosen_few : (p : ℕ → Bool) (start count : ℕ) → length (filter p (span start count)) ≤ count
chosen_few p start count = omega (arith, length-chosen (λ k. k) p start count, length-map (filter p (span start count)) (λ k. k))
