-- The end decides the options and the words that are read.
use Rattle.std.proofs.Common.{◌≡◌, ℕ, zero, suc, ◌+◌, ◌≤◌, ◌<◌, ◌^◌, ◌==◌, ◌&&◌, ◌||◌, not, nat_lt, nat_le, Bool, true, false, if◌then◌else◌, List, [], ◌∷◌}
use Rattle.std.proofs.Common.{mod-eq_of_lt, length, map, filter, refl, ap, sym, ◌∙◌, subst, arith, Option, Some, None}
use Rattle.std.specs.List.{list_all}
use Rattle.std.proofs.lemmas.Bool.Decides.{nat_tests}
use Rattle.std.proofs.Math.Bool.{or-false}
use Rattle.item_defs.specs.Items.{Item, IsSaid, plain, code}
use Rattle.base_122.specs.declared.book.Book.{Book}
use Rattle.plane_defs.specs.Spans.{span}
use Rattle.plane_defs.specs.Codes.{codes_of, code_bits, code_at, identifier_number, identifier_width, names_option, uncoded, symbol}
use Rattle.plane_defs.specs.Spelled.{option_of as chosen_of}
use Rattle.plane_defs.specs.Reading.{word_of}
use Rattle.plane_defs.specs.Steps.{Check}
use Rattle.plane_defs.proofs.Tables.{list_all-span-zero}
use Rattle.plane_defs.proofs.Equations.{span-none}
use Rattle.plane_defs.proofs.SpanLists.{length-map-span}
use Rattle.item_defs.specs.Scripts.{done, ask, then_ask}
use Rattle.item_defs.specs.Following.{Follows}
use Rattle.std.proofs.lemmas.Bool.{or_right}
use Rattle.plane_defs.specs.Written.{has}
use Rattle.plane_defs.specs.States.{State}
use Rattle.plane_defs.specs.WordScripts.{option_named, option_script, option_of, raw_form, coded_script, word_script, ones}
use Rattle.plane_defs.proofs.WordGoes.{possible_named, due_few}
use Rattle.plane_defs.proofs.PlacesSent.{has_span}
use Rattle.plane_defs.proofs.Sending.{span-first}
use Rattle.plane_defs.proofs.TypesWritten.{has_filter}
use Rattle.plane_defs.proofs.WordAnswers.{ones_has, WordMay, word_may}
use Rattle.plane_defs.proofs.Answers.{May, never, Decided, decided_then}
use Rattle.item_defs.specs.Bits.{bits_of, value_of}
use Rattle.item_defs.proofs.NumberBits.{value_of-bits_of, length-bits_of}
use Rattle.plane_defs.specs.WordScripts.{due_script}

-- ---- places that differ

abbrev pub Differ : List ℕ → Type 0
Differ [] = Unit {0}
Differ (p ∷ ps) = (has ps p ≡ false) × Differ ps

none_of_filter : (d : ℕ → Bool) (ps : List ℕ) (q : ℕ) → has ps q ≡ false → has (filter d ps) q ≡ false
none_of_filter d ps q e = has_filter d ps q ∙ ap (λ b. b && d q) e

pub differ_filter : (d : ℕ → Bool) (ps : List ℕ) → Differ ps → Differ (filter d ps)
differ_filter d [] h = tt
differ_filter d (p ∷ ps) h = by (d p) (differ_filter d ps h.1)
  where
    by : (b : Bool) → Differ (filter d ps) → Differ (if b then p ∷ filter d ps else filter d ps)
    by true rest = (none_of_filter d ps p h.0, rest)
    by false rest = rest

pub differ_span : (a n : ℕ) → Differ (span a n)
differ_span a zero = subst Differ (sym (span-none a)) tt
differ_span a (suc n) = subst Differ (span-first a n) (has_span (suc a) n a ∙ late, differ_span (suc a) n)
  where
    late : (nat_le (suc a) a && nat_lt a (suc a + n)) ≡ false
    late = grind (arith, nat_tests)

pub false_unless : (a b : Bool) → (a ≡ true → b ≡ true) → b ≡ false → a ≡ false
false_unless a b h1 h2 = grind (arith, nat_tests)

pub same_place : (p : ℕ) → (p == p) ≡ true
same_place p = grind (arith, nat_tests)

pub ones_bits : (f : ℕ → Bool) (ps : List ℕ) (bits : List Bool) → Differ ps → length bits ≡ length ps → ((q : ℕ) → has ps q ≡ true → ones ps bits q ≡ f q) →
    bits ≡ map f ps
ones_bits f [] [] h long is = refl
ones_bits f [] (b ∷ bits) h long is = absurd (omega (arith, long))
ones_bits f (p ∷ ps) [] h long is = absurd (omega (arith, long))
ones_bits f (p ∷ ps) (b ∷ bits) h long is =
    let none : ones ps bits p ≡ false = false_unless (ones ps bits p) (has ps p) (ones_has ps bits p) h.0 in
    let first : b ≡ f p = sym (ap (λ x. (x && b) || ones ps bits p) (same_place p) ∙ ap (λ x. b || x) none ∙ or-false b) ∙
    is p (ap (λ x. x || has ps p) (same_place p)) in
    ap (λ x. x ∷ bits) first ∙ ap (λ l. f p ∷ l) (ones_bits f ps bits h.1 (omega (arith, long)) (λ q inside. later q inside (q == p) refl (is q (or_right
    (q == p) (has ps q) inside))))
  where
    clash : (x : Bool) → x ≡ true → x ≡ false → ⊥
    clash true e f = cc
    clash false e f = cc

    later : (q : ℕ) → has ps q ≡ true → (x : Bool) → (q == p) ≡ x → ((x && b) || ones ps bits q) ≡ f q → ones ps bits q ≡ f q
    later q h1 x h2 h3 = grind (arith, nat_tests)

-- ---- words

names_back : (count number : ℕ) → Bool
names_back count number = not (names_option count number) || (identifier_number count (option_named count number) == number)

all_names_back : list_all (λ count. nat_lt count 2 || list_all (names_back count) (span 0 4)) (span 0 5) ≡ true
unfolding names_back span
all_names_back = refl

named_forth : (count number : ℕ) → 2 ≤ count → count ≤ 4 → number < 4 → names_option count number ≡ true →
    identifier_number count (option_named count number) ≡ number
unfolding names_back
named_forth count number low high lt names =
    let a = list_all-span-zero (λ n. nat_lt n 2 || list_all (names_back n) (span 0 4)) 5 count all_names_back (omega (arith, high)) in
    let few : nat_lt count 2 ≡ false = grind (arith, nat_tests) in
    let c = list_all-span-zero (names_back count) 4 number (past (nat_lt count 2) _ few a) lt in
    equal _ _ (past (not (names_option count number)) _ (ap not names) c)
  where
    past : (a b : Bool) → a ≡ false → (a || b) ≡ true → b ≡ true
    past a b h1 h2 = grind (arith, nat_tests)

    equal : (a b : ℕ) → (a == b) ≡ true → a ≡ b
    equal a b e = grind (arith, nat_tests)

symbols_of_words : (n : ℕ) → 2 ≤ n → n ≤ 4 → list_all (λ s. symbol n (word_of n s) == s) (span 0 (2 ^ n)) ≡ true
unfolding word_of symbol span lib.Count.ones
symbols_of_words zero low high = absurd (omega arith)
symbols_of_words (suc zero) low high = absurd (omega arith)
symbols_of_words (suc (suc zero)) low high = refl
symbols_of_words (suc (suc (suc zero))) low high = refl
symbols_of_words (suc (suc (suc (suc zero)))) low high = refl
symbols_of_words (suc (suc (suc (suc (suc n))))) low high = absurd (omega arith)

symbol-word_of : (n s : ℕ) → 2 ≤ n → n ≤ 4 → s < 2 ^ n → symbol n (word_of n s) ≡ s
symbol-word_of n s low high below = equal _ _ (list_all-span-zero (λ s. symbol n (word_of n s) == s) (2 ^ n) s (symbols_of_words n low high) below)
  where
    equal : (a b : ℕ) → (a == b) ≡ true → a ≡ b
    equal a b e = grind (arith, nat_tests)

pub done_none : {A : Type 0} (G : Type 0) (b a : A) (items : List Item) → Follows {G = G} (done b) items a → (items ≡ []) × (b ≡ a)
done_none G b a [] f = (refl, f)
done_none G b a (i ∷ is) f = absurd f

-- the options that were read are these
abbrev pub Later : List ℕ → (ℕ → Option ℕ) → Type 0
Later o options = (n x : ℕ) → 2 ≤ n → n ≤ 4 → options n ≡ Some x → chosen_of o n ≡ x

module _ (book : Book) (o : List ℕ) (check : Check) (count : ℕ) (high : count ≤ 4) (s : State) where
  abbrev End : (w : ℕ) → State × ℕ → Type 0
  End w r = Later o r.0.options × (r.1 ≡ w)

  any_option : (x : Option ℕ) → May false (option_script count s x) (λ t. Unit {0})
  any_option (Some x) = tt
  any_option None = (never, λ n said good. tt)

  option_decided : 2 ≤ count → (x : Option ℕ) → Decided (option_script count s x) (λ t. Later o t.options)
  option_decided low (Some x) = tt
  option_decided low None = (
    identifier_number count (chosen_of o count),
    λ n said good. (
      λ later. (let is : chosen_of o count ≡ option_named count n = later count (option_named count n) low high
          (ap (λ (x : Bool). if x then Some (option_named count n) else s.options count) (same_place count)) in
          sym (ap (identifier_number count) is ∙ named_forth count n low high (narrow n said) (possible_named (names_option count n) good))),
      tt,
    ),
  )
    where
      narrow : (n : ℕ) → n < 2 ^ identifier_width count → n < 4
      narrow n lt = grind (arith, nat_tests)

  coded_decided : (w : ℕ) → 2 ≤ count → (t : State) → Decided (coded_script book count check t) (End w)
  coded_decided w low t = (
    if option_of (t.options count) == uncoded count then w else symbol count w,
    λ n said good. (λ z. by (option_of (t.options count)) n (option_of (t.options count) == uncoded count) said z.1, tt),
  )
    where
      item_by : ℕ → Bool → Item
      item_by c u = if u then plain count 0 else code (codes_of book count c) (symbol count 0)

      by : (c n : ℕ) (u : Bool) → IsSaid (item_by c u).form.shape n → (if u then n else word_of count n) ≡ w → n ≡ (if u then w else symbol count w)
      by c n true says e = e
      by c n false says e =
          sym (symbol-word_of count n low high (let z = length-map-span (λ i. code_bits (code_at book count c i)) (2 ^ count) in omega (arith, z, says))) ∙
          ap (symbol count) e

  pub word_decided : (w : ℕ) → Decided (word_script book count check s) (End w)
  word_decided w = by (count == 0) refl (count == 1) refl
    where
      by : (a : Bool) → (count == 0) ≡ a → (b : Bool) → (count == 1) ≡ b →
          Decided (if a then done (s, 0) else if b then ask s (raw_form check) (λ value. done (s, value)) else
          then_ask (option_script count s (s.options count)) (coded_script book count check)) (End w)
      by true e b f = tt
      by false e true f = (w, λ n said good. (λ z. z.1, tt))
      by false e false f =
          let low : 2 ≤ count = grind (arith, nat_tests) in
          decided_then (λ t. Unit {0}) (λ t. Later o t.options) (End w) (option_script count s (s.options count)) (coded_script book count check)
          (any_option (s.options count)) (option_decided low (s.options count))
          (λ t p. ((never, λ n said good z. z.0), coded_decided w low t))

-- a word of due places
pub due_decided : (book : Book) (o : List ℕ) (due : ℕ → Bool) (check : Check) (places : List ℕ) (f : ℕ → Bool) (s : State) → Differ places →
    length places ≤ 4 →
    Decided (due_script book due check places s) (λ r. Later o r.0.options × ((q : ℕ) → has (filter due places) q ≡ true → r.1 q ≡ f q))
due_decided book o due check places f s apart few =
    let here = filter due places in
    let count = length here in
    decided_then (WordMay false count check s) (λ w. Later o w.0.options × (w.1 ≡ value_of (map f here)))
    (λ r. Later o r.0.options × ((q : ℕ) → has here q ≡ true → r.1 q ≡ f q)) (word_script book count check s) (λ w. done (w.0, ones here (bits_of count w.1)))
    (word_may false book never count check s never never never)
    (word_decided book o check count (let le = due_few due places in omega (arith, le, few)) s (value_of (map f here)))
    (λ w p. (
      λ z. (
        z.0,
        sym (value_of-bits_of count w.1 ∙ mod-eq_of_lt p.fits) ∙
            ap value_of (ones_bits f here (bits_of count w.1) (differ_filter due places apart) (length-bits_of count w.1) z.1),
      ),
      tt,
    ))
