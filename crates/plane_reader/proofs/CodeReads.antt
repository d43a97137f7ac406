-- Identifiers and codes of words, as the numbers of items.
use Rattle.std.proofs.Common.{◌≡◌, ℕ, zero, suc, ◌+◌, ◌<◌, ◌≤◌, ◌^◌, ◌==◌, ◌&&◌, ◌||◌, nat_lt, if◌then◌else◌, [], ◌∷◌, Bool, true, false, refl, ap, sym}
use Rattle.std.proofs.Common.{◌∙◌, subst, arith, append-nil, Option, Some, None, Result, Ok, Err, ◌⊎◌, inl, inr}
use Rattle.std.specs.List.{list_all}
use Rattle.std.proofs.lemmas.Bool.Decides.{nat_tests}
use Rattle.item_defs.specs.Items.{Refusal, bad_option, bad_delta, bad_depth, false_flag, plain, code, item_bits, Item, Form, IsSaid}
use Rattle.item_defs.specs.Readings.{IsSound, whole as all_read, ended as cut_off, refused as refused_at}
use Rattle.base_122.specs.declared.book.Book.{Book}
use Rattle.plane_defs.specs.Spans.{span}
use Rattle.plane_defs.specs.Codes.{uncoded, codes_of, code_bits, code_at, identifier_width, identifier_number, names_option, word_item, is_book_sound, symbol}
use Rattle.plane_defs.specs.Reading.{word_of, word_said}
use Rattle.plane_defs.proofs.SymbolTables.{symbol-below}
use Rattle.plane_defs.proofs.SpanLists.{length-map-span}
use Rattle.plane_defs.proofs.Tables.{list_all-span-zero}
use Rattle.plane_defs.proofs.StepItems.{word_of-symbol}
use Rattle.plane_defs.proofs.ReadOnce.{words}
use Rattle.bit_pipe.specs.declared.fault.InFault.{InFault}
use Rattle.bit_pipe.specs.declared.fault.TextFault.{TextFault}
use Rattle.bit_pipe.specs.Faults.{of_input, of_refusal}
use Rattle.bit_pipe.specs.Sources.{SourceOf}
use Rattle.bit_pipe.specs.SourceState.{SourceState, Takes, EndsItem}
use Rattle.bit_pipe.specs.Reading.{Ending, stopped, failed, Reads}
use Rattle.bit_pipe.specs.Answers.{item_answer}
use Rattle.item_defs.specs.Scripts.{Script, ask}
use Rattle.bit_pipe.specs.ScriptSources.{refuses, ReadsAs, by_fault}
use Rattle.bit_pipe.proofs.ScriptReading.{ask_refused, ask_failed}
use Rattle.plane_defs.specs.WordScripts.{option_named}

-- ---- one item that a call reads

-- its bits; or none of its codes, at the end of the bits or by a fault of the input; or a code that its form refuses
abbrev pub OneEnds : {I : Type 0} → SourceOf I → Item → ℕ → Result (Option ℕ) TextFault → SourceState I → SourceState I → Type 0
OneEnds k it value (Ok (Some v)) old new = (v ≡ value) × Takes k old new (item_bits it)
OneEnds k it value (Ok None) old new = EndsItem k it.form.shape (Ok None) old new
OneEnds k it value (Err fault) old new =
    ((said : ℕ) × (name : Refusal) × (fault ≡ of_refusal name) × (it.form.refusal said ≡ Some name) × EndsItem k it.form.shape (Ok (Some said)) old new) ⊎
    ((e : InFault) × (fault ≡ of_input e) × EndsItem k it.form.shape (Err e) old new)

pub one_ends : {I : Type 0} {k : SourceOf I} (it : Item) (value : ℕ) {old new : SourceState I} (ending : Ending) → Reads k (it ∷ []) ending old new →
    OneEnds k it value (item_answer value ending) old new
one_ends {k = k} it value {old} {new} (stopped all_read) q = (refl, subst (Takes k old new) (append-nil (item_bits it)) q.ends)
one_ends it value (stopped (cut_off zero)) q = (record { some = q.ends.0.some; taken = q.ends.0.taken; lacks = q.ends.0.lacks }, q.ends.1)
one_ends it value (stopped (cut_off (suc m))) q = absurd (omega (arith, q.ends.0.within))
one_ends it value (stopped (refused_at zero spelt name)) q = inl (spelt, name, refl, q.ends.refuses, (q.ends.says, q.ends.taken))
one_ends it value (stopped (refused_at (suc m) spelt name)) q = absurd (omega (arith, q.ends.within))
one_ends it value (failed zero e) q = inr (e, refl, (record { some = q.ends.0.some; taken = q.ends.0.taken; lacks = q.ends.0.lacks }, q.ends.1))
one_ends it value (failed (suc m) e) q = absurd (omega (arith, q.ends.0.within))

pub by_refusal : {G A : Type 0} (name : Refusal) (g : G) → by_fault {A = A} (of_refusal name) g ≡ refuses g name
by_refusal bad_option g = refl
by_refusal bad_delta g = refl
by_refusal bad_depth g = refl
by_refusal false_flag g = refl

-- a fault of an item is one of the question for it, if the question has the item's shape and refuses what the item's form refuses
pub asked_fault : {I G A : Type 0} {k : SourceOf I} (g : G) (form : Form) (next : ℕ → Script G A) (it : Item) (value : ℕ) {old new : SourceState I} →
    IsSound form.shape → form.shape ≡ it.form.shape →
    ((n : ℕ) (name : Refusal) → it.form.refusal n ≡ Some name → form.refusal n ≡ Some name) → (fault : TextFault) → OneEnds k it value (Err fault) old new →
    ReadsAs k (ask g form next) (by_fault fault g) old new
asked_fault {A = A} {k = k} g form next it value {old} {new} sound same names fault (inl p) =
    subst (λ f. ReadsAs k (ask g form next) f old new) (sym (ap (λ x. by_fault x g) p.2 ∙ by_refusal {A = A} p.1 g))
    (ask_refused g form next p.0 p.1 sound (subst (λ s. EndsItem k s (Ok (Some p.0)) old new) (sym same) p.4) (names p.0 p.1 p.3))
asked_fault {A = A} {k = k} g form next it value {old} {new} sound same names fault (inr p) =
    subst (λ f. ReadsAs k (ask g form next) f old new) (sym (ap (λ x. by_fault x g) p.1)) (ask_failed g form next p.0 (subst (λ s. EndsItem k s
    (Err p.0) old new) (sym same) p.2))

-- ---- identifiers

is_named : (count option : ℕ) → Bool
is_named count option =
    let number = identifier_number count option in
    (nat_lt number (2 ^ identifier_width count) && names_option count number) && (option_named count number == option)

all_named : list_all (λ count. nat_lt count 2 || list_all (is_named count) (span 0 count)) (span 0 5) ≡ true
unfolding is_named span
all_named = refl

named : (count option : ℕ) → 2 ≤ count → count ≤ 4 → option < count → is_named count option ≡ true
named count option low high lt =
    list_all-span-zero (is_named count) count option (past (nat_lt count 2) (list_all (is_named count) (span 0 count)) few (list_all-span-zero
    (λ n. nat_lt n 2 || list_all (is_named n) (span 0 n)) 5 count all_named (omega (arith, high)))) lt
  where
    few : nat_lt count 2 ≡ false
    few = grind (arith, nat_tests)

    past : (a b : Bool) → a ≡ false → (a || b) ≡ true → b ≡ true
    past true b e f = cc
    past false b e f = f

parts : (a b c : Bool) → ((a && b) && c) ≡ true → (a ≡ true) × (b ≡ true) × (c ≡ true)
parts true true true e = (refl, refl, refl)
parts true true false e = cc
parts true false c e = cc
parts false b c e = cc

pub record IsNamed (count option : ℕ) : Type 0 where
  pub fits : identifier_number count option < 2 ^ identifier_width count
  pub names : names_option count (identifier_number count option) ≡ true
  pub same : option_named count (identifier_number count option) ≡ option

-- each option has an identifier
pub option_known : (count option : ℕ) → 2 ≤ count → count ≤ 4 → option < count → IsNamed count option
unfolding is_named
option_known count option low high lt =
    let p = parts (nat_lt (identifier_number count option) (2 ^ identifier_width count)) (names_option count (identifier_number count option))
    (option_named count (identifier_number count option) == option) (named count option low high lt) in
    record { fits = below _ _ p.0; names = p.1; same = equal _ _ p.2 }
  where
    below : (a b : ℕ) → nat_lt a b ≡ true → a < b
    below a b e = grind (arith, nat_tests)

    equal : (a b : ℕ) → (a == b) ≡ true → a ≡ b
    equal a b e = grind (arith, nat_tests)

-- ---- codes

module _ (book : Book) (count option : ℕ) where
  abbrev coded_item : Bool → ℕ → Item
  coded_item t value = if t then plain count value else code (codes_of book count option) (symbol count value)

  -- the shape of words does not depend on the word, and nothing is refused
  pub word_shape : (value : ℕ) → (word_item book count option 0).form.shape ≡ (word_item book count option value).form.shape
  word_shape value = here (option == uncoded count)
    where
      here : (t : Bool) → (coded_item t 0).form.shape ≡ (coded_item t value).form.shape
      here true = refl
      here false = refl

  pub word_free : (value m : ℕ) (name : Refusal) → (word_item book count option value).form.refusal m ≡ Some name → ⊥
  word_free value m name = here (option == uncoded count)
    where
      here : (t : Bool) → (coded_item t value).form.refusal m ≡ Some name → ⊥
      here true e = cc
      here false e = cc

  module _ (low : 2 ≤ count) (high : count ≤ 4) (known : option < count) (sound : is_book_sound book ≡ true) where
    pub word_sound : (value : ℕ) → IsSound (word_item book count option value).form.shape
    word_sound value = here (option == uncoded count) refl
      where
        here : (t : Bool) → (option == uncoded count) ≡ t → IsSound (coded_item t value).form.shape
        here true e = tt
        here false e = let less : option + 1 < count = grind (arith, nat_tests) in words book count option sound low high less

    module _ (value : ℕ) (fits : value < 2 ^ count) where
      pub word_is_said : IsSaid (word_item book count option value).form.shape (word_item book count option value).said
      word_is_said = here (option == uncoded count)
        where
          here : (t : Bool) → IsSaid (coded_item t value).form.shape (coded_item t value).said
          here true = fits
          here false = omega (arith, symbol-below count value low high fits, length-map-span (λ s. code_bits (code_at book count option s)) (2 ^ count))

      pub word_said_is : word_said count option (word_item book count option value).said ≡ value
      word_said_is = here (option == uncoded count)
        where
          here : (t : Bool) → (if t then (coded_item t value).said else word_of count (coded_item t value).said) ≡ value
          here true = refl
          here false = word_of-symbol count value low high fits
