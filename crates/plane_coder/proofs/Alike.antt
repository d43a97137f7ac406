-- Alike entries are counted, and sent as the same bits.
use Rattle.std.proofs.Common.{◌≡◌, ℕ, ◌≤◌, ◌+◌, zero-add, inl, inr, Bool, true, false, not, cond, ◌||◌, List, [], ◌∷◌, ◌++◌, filter, refl, ap, sym, ◌∙◌}
use Rattle.std.proofs.Common.{subst, arith, ◌==◌, count_by, if◌then◌else◌, Result}
use Rattle.std.proofs.lemmas.Bool.{cases_lt, eqb-true}
use Rattle.std.specs.List.{list_any}
use Rattle.std.proofs.lemmas.List.Folds.{list_any-append}
use Rattle.std.proofs.lemmas.List.Sums.{sum_by-cons}
use Rattle.std.proofs.lemmas.Bool.Decides.{nat_tests}
use Rattle.item_defs.specs.Items.{raw, text}
use Rattle.bit_pipe.specs.Sinks.{SinkOf}
use Rattle.bit_pipe.specs.SinkState.{SinkState, Puts}
use Rattle.bit_pipe.specs.declared.fault.PutFault.{PutFault}
use Rattle.base_122.specs.declared.book.Book.{Book}
use Rattle.plane_defs.specs.declared.entries.Entry.{Entry}
use Rattle.plane_defs.specs.declared.entries.Entry.TheVariants.{Bit, Word}
use Rattle.plane_defs.specs.declared.entries.Bits.{Bits}
use Rattle.plane_defs.specs.Choice.{has_symbol}
use Rattle.plane_defs.specs.Codes.{word_item, option_item}
use Rattle.plane_defs.specs.Spelled.{is_word_of, option_of, entry_items, spelled_after}
use Rattle.block_masks.specs.declared.gaggle.Gaggle.{Gaggle}
use Rattle.block_masks.specs.Gaggles.{Agrees}
use Rattle.plane_coder.specs.Spells.{Spells}
use Rattle.plane_coder.specs.Listed.{has_bits, AreAlike}
use Rattle.plane_coder.proofs.Spelling.{on_ok_map}
use Rattle.plane_defs.proofs.Equations.{entry_items-bit, entry_items-word}

-- ---- a test that no empty word passes

module _ (p : Entry → Bool) (none : (bits : Bits) → bits.count ≡ 0 → p (Word bits) ≡ false) where
  none_there : (bits : Bits) (b : Bool) → (bits.count == 0) ≡ b → b ≡ true → p (Word bits) ≡ false
  none_there bits b is so = none bits (grind (arith, nat_tests))

  any_with_bits : (xs : List Entry) → list_any p (filter has_bits xs) ≡ list_any p xs
  any_with_bits [] = refl
  any_with_bits (Bit b ∷ xs) = ap (λ x. p (Bit b) || x) (any_with_bits xs)
  any_with_bits (Word bits ∷ xs) = one (bits.count == 0) (none_there bits (bits.count == 0) refl) (any_with_bits xs)
    where
      one : (b : Bool) → (b ≡ true → p (Word bits) ≡ false) → list_any p (filter has_bits xs) ≡ list_any p xs →
          list_any p (cond (not b) (Word bits ∷ filter has_bits xs) (filter has_bits xs)) ≡ (p (Word bits) || list_any p xs)
      one true so rest = rest ∙ sym (ap (λ x. x || list_any p xs) (so refl))
      one false so rest = ap (λ x. p (Word bits) || x) rest

  count_first : (x : Entry) (xs : List Entry) → count_by p (x ∷ xs) ≡ cond (p x) 1 0 + count_by p xs
  count_first x xs = sum_by-cons (λ y. cond (p y) 1 0) x xs

  count_with_bits : (xs : List Entry) → count_by p (filter has_bits xs) ≡ count_by p xs
  count_with_bits [] = refl
  count_with_bits (Bit b ∷ xs) = count_first (Bit b) (filter has_bits xs) ∙ ap (λ n. cond (p (Bit b)) 1 0 + n) (count_with_bits xs)
      ∙ sym (count_first (Bit b) xs)
  count_with_bits (Word bits ∷ xs) = one (bits.count == 0) (none_there bits (bits.count == 0) refl) (count_with_bits xs)
    where
      one : (b : Bool) → (b ≡ true → p (Word bits) ≡ false) → count_by p (filter has_bits xs) ≡ count_by p xs →
          count_by p (cond (not b) (Word bits ∷ filter has_bits xs) (filter has_bits xs)) ≡ count_by p (Word bits ∷ xs)
      one true so rest = rest ∙ sym (count_first (Word bits) xs ∙ ap (λ b. cond b 1 0 + count_by p xs) (so refl) ∙ zero-add (count_by p xs))
      one false so rest = count_first (Word bits) (filter has_bits xs) ∙ ap (λ n. cond (p (Word bits)) 1 0 + n) rest ∙ sym (count_first (Word bits) xs)

no_word_of : (n : ℕ) → 2 ≤ n → (bits : Bits) → bits.count ≡ 0 → is_word_of n (Word bits) ≡ false
no_word_of n low bits is = grind (arith, nat_tests)

no_symbol : (n s : ℕ) → 2 ≤ n → (bits : Bits) → bits.count ≡ 0 → has_symbol n s (Word bits) ≡ false
no_symbol n s low bits is = grind (arith, nat_tests)

pub count_alike : (n s : ℕ) (xs ys : List Entry) → 2 ≤ n → AreAlike xs ys → count_by (has_symbol n s) xs ≡ count_by (has_symbol n s) ys
count_alike n s xs ys low alike =
    sym (count_with_bits (has_symbol n s) (no_symbol n s low) xs) ∙ ap (count_by (has_symbol n s)) alike ∙ count_with_bits (has_symbol n s)
    (no_symbol n s low) ys

-- ---- what is sent

abbrev SameWords : List Entry → List Entry → Type 0
SameWords before before' = (n : ℕ) → 2 ≤ n → list_any (is_word_of n) before ≡ list_any (is_word_of n) before'

module _ (book : Book) (options : List ℕ) where
  empty_items : (before : List Entry) (bits : Bits) → bits.count ≡ 0 → entry_items book options before (Word bits) ≡ []
  empty_items before bits is = grind (arith, nat_tests, entry_items-bit, entry_items-word)

  items_by_words : (before before' : List Entry) (x : Entry) → SameWords before before' → entry_items book options before x ≡ entry_items book options before' x
  unfolding entry_items
  items_by_words before before' (Bit b) same = refl
  items_by_words before before' (Word bits) same = elim (cases_lt bits.count 2) [
    | inl lt ↦ grind (arith, nat_tests)
    | inr ge ↦
        let rest = λ (b : Bool). (if b then [] else option_item bits.count (option_of options bits.count) ∷ []) ++ word_item book bits.count
        (option_of options bits.count) bits.value ∷ [] in
        ap (λ b. if bits.count == 0 then [] else if bits.count == 1 then raw bits.value ∷ [] else rest b) (same bits.count ge)
  ]

  same_later : (before before' : List Entry) (x : Entry) → SameWords before before' → SameWords (before ++ x ∷ []) (before' ++ x ∷ [])
  same_later before before' x same n low =
      list_any-append (is_word_of n) before (x ∷ []) ∙ ap (λ b. b || list_any (is_word_of n) (x ∷ [])) (same n low)
      ∙ sym (list_any-append (is_word_of n) before' (x ∷ []))

  spelled_by_words : (before before' xs : List Entry) → SameWords before before' → spelled_after book options before xs ≡ spelled_after book options before' xs
  spelled_by_words before before' [] same = refl
  spelled_by_words before before' (x ∷ xs) same =
      ap (λ l. l ++ spelled_after book options (before ++ x ∷ []) xs) (items_by_words before before' x same) ∙
      ap (λ l. entry_items book options before' x ++ l) (spelled_by_words (before ++ x ∷ []) (before' ++ x ∷ []) xs (same_later before before' x same))

  no_more_words : (before : List Entry) (bits : Bits) → bits.count ≡ 0 → SameWords before (before ++ Word bits ∷ [])
  no_more_words before bits is n low = grind (arith, nat_tests, list_any-append)

  spelled_with_bits : (before xs : List Entry) → spelled_after book options before (filter has_bits xs) ≡ spelled_after book options before xs
  spelled_with_bits before [] = refl
  spelled_with_bits before (Bit b ∷ xs) = ap (λ l. entry_items book options before (Bit b) ++ l) (spelled_with_bits (before ++ Bit b ∷ []) xs)
  spelled_with_bits before (Word bits ∷ xs) = one (bits.count == 0) (λ so. eqb-true _ _ so) (spelled_with_bits before xs)
      (spelled_with_bits (before ++ Word bits ∷ []) xs)
    where
      one : (b : Bool) → (b ≡ true → bits.count ≡ 0) → spelled_after book options before (filter has_bits xs) ≡ spelled_after book options before xs →
          spelled_after book options (before ++ Word bits ∷ []) (filter has_bits xs) ≡ spelled_after book options (before ++ Word bits ∷ []) xs →
          spelled_after book options before (cond (not b) (Word bits ∷ filter has_bits xs) (filter has_bits xs)) ≡
          entry_items book options before (Word bits) ++ spelled_after book options (before ++ Word bits ∷ []) xs
      one true so rest later =
          rest ∙ spelled_by_words before (before ++ Word bits ∷ []) xs (no_more_words before bits (so refl)) ∙
          ap (λ l. l ++ spelled_after book options (before ++ Word bits ∷ []) xs) (sym (empty_items before bits (so refl)))
      one false so rest later = ap (λ l. entry_items book options before (Word bits) ++ l) later

pub agrees_alike : (sent : List Bool) (before xs ys : List Entry) → AreAlike xs ys → Agrees sent (before ++ xs) → Agrees sent (before ++ ys)
agrees_alike sent before xs ys alike agrees = record {
  at = λ n low high.
      let p = is_word_of n in
      let same : list_any p xs ≡ list_any p ys = sym (any_with_bits p (no_word_of n low) xs) ∙ ap (list_any p) alike ∙ any_with_bits p (no_word_of n low) ys in
      agrees.at n low high ∙ list_any-append p before xs ∙ ap (λ b. list_any p before || b) same ∙ sym (list_any-append p before ys);
}

pub text_alike : (book : Book) (options : List ℕ) (before xs ys : List Entry) → AreAlike xs ys → text (spelled_after book options before xs)
    ≡ text (spelled_after book options before ys)
text_alike book options before xs ys alike =
    ap text (sym (spelled_with_bits book options before xs) ∙ ap (spelled_after book options before) alike ∙ spelled_with_bits book options before ys)

pub spells_alike : {S : Type 0} {k : SinkOf S} {book : Book} {a b : Gaggle} {r : Result (Unit {0}) PutFault} {s t : SinkState S} (xs ys : List Entry) →
    AreAlike xs ys → Spells k book a b r s t xs → Spells k book a b r s t ys
spells_alike {S} {k} {book} {a} {b} {r} {s} {t} xs ys alike p = record {
  puts = λ before agrees.
      subst (Puts k r s t) (text_alike book a.options before xs ys alike) (p.puts before agrees);
  agrees = λ before agrees. on_ok_map r (agrees_alike b.sent before xs ys alike) (p.agrees before agrees);
  is_open = p.is_open;
  options = p.options;
}
