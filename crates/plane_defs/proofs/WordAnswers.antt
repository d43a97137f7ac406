-- What possible answers to words leave.
use Rattle.std.proofs.Common.{◌≡◌, ℕ, ◌≤◌, ◌<◌, ◌^◌, ◌==◌, ◌&&◌, ◌||◌, not, Bool, true, false, if◌then◌else◌, List, [], ◌∷◌, length, map, filter, refl, ap}
use Rattle.std.proofs.Common.{sym, ◌∙◌, subst, arith, Option, Some, None, pow_pos, pow_mono, mod-eq_of_lt}
use Rattle.std.specs.List.{list_any, AllByRecursion}
use Rattle.std.proofs.lemmas.Bool.Decides.{nat_tests}
use Rattle.std.proofs.lemmas.Bool.{or_parts}
use Rattle.std.proofs.lemmas.List.{length-map}
use lib.ListN.{get_or}
use Rattle.item_defs.specs.Bits.{bits_of, value_of}
use Rattle.item_defs.specs.Items.{IsSaid, Form, plain, code, false_flag, refused_where}
use Rattle.item_defs.specs.Readings.{IsSound}
use Rattle.item_defs.proofs.NumberBits.{value_of-bits_of, bits_of-value_of, value_below, length-bits_of}
use Rattle.item_defs.specs.Scripts.{done, ask, then_ask}
use Rattle.item_defs.specs.Completing.{IsPossible}
use Rattle.base_122.specs.declared.book.Book.{Book}
use Rattle.plane_defs.specs.Spans.{span}
use Rattle.plane_defs.specs.Codes.{is_book_sound, codes_of, code_bits, code_at, identifier_number, identifier_width, names_option, uncoded, symbol}
use Rattle.plane_defs.specs.Reading.{word_of}
use Rattle.plane_defs.specs.Steps.{Check, some_one, some_one_where, ones_at, refuses, lacks_one}
use Rattle.plane_defs.proofs.ReadOnce.{words}
use Rattle.plane_defs.proofs.SymbolTables.{symbol-below}
use Rattle.plane_defs.proofs.StepItems.{word_of-symbol}
use Rattle.plane_defs.proofs.SpanLists.{length-map-span}
use Rattle.plane_defs.proofs.Alike.{all_filter}
use Rattle.plane_defs.proofs.Above.{all_span}
use Rattle.std.proofs.lemmas.Bool.{or_right}
use Rattle.plane_defs.specs.Written.{has}
use Rattle.plane_defs.specs.States.{State, with_options}
use Rattle.plane_defs.specs.WordScripts.{option_named, option_script, option_of, raw_form, coded_script, word_script, ones, due_script}
use Rattle.plane_defs.proofs.WordGoes.{HasOptions, first_named, named_below, below_of, named_possible, possible_named, word_possible, some_due, due_few}
use Rattle.plane_defs.proofs.Answers.{May, may_then}

-- ---- words

pub not_refused : (t : Bool) → IsPossible (if t then Some false_flag else None) → t ≡ false
not_refused t h1 = grind (arith, nat_tests)

word_below : (count said : ℕ) → word_of count said < 2 ^ count
unfolding word_of
word_below count said = first (filter (λ w. symbol count w == said) (span 0 (2 ^ count)))
    (all_filter (λ w. w < 2 ^ count) (λ w. symbol count w == said) (span 0 (2 ^ count)) (all_span (λ w. w < 2 ^ count) 0 (2 ^ count) (λ k low high. omega
    (arith, high))))
  where
    first : (l : List ℕ) → AllByRecursion (λ w. w < 2 ^ count) l → get_or l 0 0 < 2 ^ count
    first [] all = pow_pos count
    first (x ∷ l) all = all.0

-- options that are known stay known
abbrev pub Grows : (s t : State) → Type 0
Grows s t = (n x : ℕ) → s.options n ≡ Some x → t.options n ≡ Some x

-- some word is not refused
abbrev pub Answer : Check → (count : ℕ) → Type 0
Answer check count = (w : ℕ) × (w < 2 ^ count) × (refuses check w ≡ false)

pub record WordMay (all : Bool) (count : ℕ) (check : Check) (s : State) (r : State × ℕ) : Type 0 where
  pub known : all ≡ true → HasOptions r.0.options
  pub rest : r.0 ≡ with_options s r.0.options
  pub grows : Grows s r.0
  pub fits : r.1 < 2 ^ count
  pub good : (count ≡ 0 → ⊥) → refuses check r.1 ≡ false

module _ (all : Bool) (book : Book) (is_sound : all ≡ true → is_book_sound book ≡ true) (count : ℕ) (check : Check) (s : State)
    (given : all ≡ true → HasOptions s.options) (high : all ≡ true → count ≤ 4) (answer : all ≡ true → Answer check count) where
  record OptionMay (t : State) : Type 0 where
    known : all ≡ true → HasOptions t.options
    rest : t ≡ with_options s t.options
    grows : Grows s t
    named : all ≡ true → (option : ℕ) × (t.options count ≡ Some option)

  module _ (low : 2 ≤ count) where
    option_may : (o : Option ℕ) → s.options count ≡ o → May all (option_script count s o) OptionMay
    option_may (Some option) e = record { known = given; rest = refl; grows = λ n x h. h; named = λ a. (option, e) }
    option_may None e = (
      λ a. (let k = first_named count low (high a) in
          (tt, (identifier_number count 0, below_of _ _ k.0, named_possible (names_option count (identifier_number count 0)) k.1))),
      λ number said good. record {
        known = λ a n option is.
            let names : names_option count number ≡ true = possible_named (names_option count number) good in
            let few : number < 4 = below number said in
            option_below number n option (n == count) refl is (given a) (below_of _ _ (named_below count low (high a) number few names));
        rest = refl;
        grows = λ n x h. by number n x h (n == count) refl;
        named = λ a. (option_named count number, ap (λ (x : Bool). if x then Some (option_named count number) else s.options count) self);
      },
    )
      where
        self : (count == count) ≡ true
        self = grind (arith, nat_tests)

        by : (number n x : ℕ) → s.options n ≡ Some x → (y : Bool) → (n == count) ≡ y →
            (if y then Some (option_named count number) else s.options n) ≡ Some x
        by number n x h1 y h2 = grind (arith, nat_tests)

        below : (number : ℕ) → number < 2 ^ identifier_width count → number < 4
        below number lt = grind (arith, nat_tests)

        some_is : {a b : ℕ} → Some a ≡ Some b → a ≡ b
        some_is e = cc

        option_below : (number n option : ℕ) (t : Bool) → (n == count) ≡ t → (if t then Some (option_named count number) else s.options n) ≡ Some option →
            HasOptions s.options → option_named count number < count → option < n
        option_below number n option true e is h lt = let same : n ≡ count = grind (arith, nat_tests) in let o : option_named count number ≡ option =
            some_is is in omega (arith, same, o, lt)
        option_below number n option false e is h lt = h n option is

    coded_may : (t : State) → OptionMay t → May all (coded_script book count check t) (WordMay all count check s)
    coded_may t p = (
      λ a. (sound a (option_of (t.options count) == uncoded count) refl, some a (option_of (t.options count) == uncoded count)),
      by (option_of (t.options count) == uncoded count),
    )
      where
        form_by : Bool → Form
        form_by u = record {
          shape = (if u then plain count 0 else code (codes_of book count (option_of (t.options count))) (symbol count 0)).form.shape;
          refusal = λ said. if refuses check (if u then said else word_of count said) then Some false_flag else None;
        }

        by : (u : Bool) → (n : ℕ) → IsSaid (form_by u).shape n → IsPossible ((form_by u).refusal n) →
            WordMay all count check s (t, (if u then n else word_of count n))
        by true n said good = record { known = p.known; rest = p.rest; grows = p.grows; fits = said; good = λ some. not_refused (refuses check n) good }
        by false n said good =
            record {
              known = p.known;
              rest = p.rest;
              grows = p.grows;
              fits = word_below count n;
              good =
                  λ some. not_refused (refuses check (word_of count n)) good;
            }

        sound : all ≡ true → (u : Bool) → (option_of (t.options count) == uncoded count) ≡ u →
            IsSound (if u then plain count 0 else code (codes_of book count (option_of (t.options count))) (symbol count 0)).form.shape
        sound a true e = tt
        sound a false e =
            let k = p.named a in
            let same : option_of (t.options count) ≡ k.0 = ap option_of k.1 in
            let less : k.0 < count = p.known a count k.0 k.1 in
            let ne : option_of (t.options count) ≡ uncoded count → ⊥ = grind (arith, nat_tests) in
            words book count (option_of (t.options count)) (is_sound a) low (high a) (omega (arith, same, less, ne))

        some : all ≡ true → (u : Bool) → (n : ℕ) × IsSaid (if u then plain count 0 else code (codes_of book count (option_of
            (t.options count))) (symbol count 0)).form.shape n ×
            IsPossible (refused_where (λ said. refuses check (if u then said else word_of count said)) false_flag n)
        some a true = let w = answer a in (w.0, w.1, word_possible (refuses check w.0) w.2)
        some a false =
            let w = answer a in
            let said : symbol count w.0 < length (codes_of book count (option_of (t.options count))) =
            omega (
              arith,
              symbol-below count w.0 low (high a) w.1,
              length-map-span (λ s. code_bits (code_at book count (option_of (t.options count)) s)) (2 ^ count),
            ) in (
              symbol count w.0,
              said,
              word_possible (refuses check (word_of count (symbol count w.0))) (ap (refuses check) (word_of-symbol count w.0 low (high a) w.1) ∙ w.2),
            )

  pub word_may : May all (word_script book count check s) (WordMay all count check s)
  word_may = by (count == 0) refl (count == 1) refl
    where
      by : (a : Bool) → (count == 0) ≡ a → (b : Bool) → (count == 1) ≡ b →
          May all (if a then done (s, 0) else if b then ask s (raw_form check) (λ value. done (s, value)) else
          then_ask (option_script count s (s.options count)) (coded_script book count check)) (WordMay all count check s)
      by true e b f = let z : count ≡ 0 = grind (arith, nat_tests) in
          record { known = given; rest = refl; grows = λ n x h. h; fits = pow_pos count; good = λ some. absurd (some z) }
      by false e true f = let one : count ≡ 1 = grind (arith, nat_tests) in (
        λ a. (let w = answer a in (tt, (w.0, subst (λ n. w.0 < 2 ^ n) one w.1, word_possible (refuses check w.0) w.2))),
        λ n said good. record {
          known = given;
          rest = refl;
          grows = λ n x h. h;
          fits = subst (λ k. n < 2 ^ k) (sym one) said;
          good = λ some. not_refused (refuses check n) good;
        },
      )
      by false e false f =
          let low : 2 ≤ count = grind (arith, nat_tests) in
          may_then all OptionMay (WordMay all count check s) (option_script count s (s.options count)) (coded_script book count check)
          (option_may low (s.options count) refl) (coded_may low)

-- ---- the places of a word

pub ones_has : (ps : List ℕ) (bits : List Bool) (q : ℕ) → ones ps bits q ≡ true → has ps q ≡ true
ones_has [] bits q e = e
ones_has (p ∷ ps) [] q e = cc
ones_has (p ∷ ps) (b ∷ bits) q e = by (q == p) b e (ones_has ps bits q)
  where
    by : (x y : Bool) → ((x && y) || ones ps bits q) ≡ true → (ones ps bits q ≡ true → has ps q ≡ true) → (x || has ps q) ≡ true
    by x y h1 h2 = grind (arith, nat_tests)

self : (p : ℕ) → (p == p) ≡ true
self p = grind (arith, nat_tests)

first_none : (bits : List Bool) → value_of bits ≡ 0 → value_of (false ∷ bits) ≡ 0
unfolding value_of
first_none bits e = e

none_value : value_of [] ≡ 0
unfolding value_of
none_value = refl

some_ones : (ps : List ℕ) (bits : List Bool) → length bits ≡ length ps → (value_of bits ≡ 0 → ⊥) →
    (q : ℕ) × (has ps q ≡ true) × (ones ps bits q ≡ true)
some_ones [] [] long some = absurd (some none_value)
some_ones [] (b ∷ bits) long some = absurd (omega (arith, long))
some_ones (p ∷ ps) [] long some = absurd (omega (arith, long))
some_ones (p ∷ ps) (true ∷ bits) long some = (p, ap (λ x. x || has ps p) (self p), ap (λ x. (x && true) || ones ps bits p) (self p))
some_ones (p ∷ ps) (false ∷ bits) long some =
    let w = some_ones ps bits (omega (arith, long)) (λ e. some (first_none bits e)) in
    (w.0, or_right (w.0 == p) (has ps w.0) w.1, or_right ((w.0 == p) && false) (ones ps bits w.0) w.2)

each_ones : (wanted : ℕ → Bool) (ps : List ℕ) (bits : List Bool) → length bits ≡ length ps → lacks_one (map wanted ps) bits ≡ false → (q : ℕ) →
    has ps q ≡ true → wanted q ≡ true →
    ones ps bits q ≡ true
each_ones wanted [] bits long good q inside want = cc
each_ones wanted (p ∷ ps) [] long good q inside want = absurd (omega (arith, long))
each_ones wanted (p ∷ ps) (b ∷ bits) long good q inside want =
    let parts = or_parts (wanted p && not b) (lacks_one (map wanted ps) bits) good in
    by (q == p) refl inside parts.0 (λ here. each_ones wanted ps bits (omega (arith, long)) parts.1 q here want)
  where
    must : (w b : Bool) → w ≡ true → (w && not b) ≡ false → b ≡ true
    must w b h1 h2 = grind (arith, nat_tests)

    by : (x : Bool) → (q == p) ≡ x → (x || has ps q) ≡ true → (wanted p && not b) ≡ false → (has ps q ≡ true → ones ps bits q ≡ true) →
        ((x && b) || ones ps bits q) ≡ true
    by x h1 h2 h3 h4 = grind (arith, nat_tests)

-- a word of due places
pub record DueMay (all : Bool) (due : ℕ → Bool) (check : Check) (places : List ℕ) (s : State) (r : State × (ℕ → Bool)) : Type 0 where
  pub known : all ≡ true → HasOptions r.0.options
  pub rest : r.0 ≡ with_options s r.0.options
  pub grows : Grows s r.0
  pub inside : (q : ℕ) → r.1 q ≡ true → has (filter due places) q ≡ true
  pub some : check ≡ some_one → list_any due places ≡ true → (q : ℕ) × (has (filter due places) q ≡ true) × (r.1 q ≡ true)
  pub each : (wanted : ℕ → Bool) → check ≡ ones_at (map wanted (filter due places)) → (q : ℕ) → has (filter due places) q ≡ true → wanted q ≡ true →
      r.1 q ≡ true

pub due_may : (all : Bool) (book : Book) → (all ≡ true → is_book_sound book ≡ true) → (due : ℕ → Bool) (check : Check) (places : List ℕ) (s : State) →
    (all ≡ true → HasOptions s.options) → (all ≡ true → length places ≤ 4) → (all ≡ true → Answer check (length (filter due places))) →
    May all (due_script book due check places s) (DueMay all due check places s)
due_may all book is_sound due check places s given few answer =
    may_then all (WordMay all count check s) (DueMay all due check places s) (word_script book count check s)
    (λ w. done (w.0, ones here (bits_of count w.1)))
    (word_may all book is_sound count check s given (λ a. (let le = due_few due places in let f = few a in omega (arith, le, f))) answer)
    (λ w p. record {
      known = p.known;
      rest = p.rest;
      grows = p.grows;
      inside = λ q e. ones_has here (bits_of count w.1) q e;
      some = λ is list.
          let good : refuses some_one w.1 ≡ false = subst (λ c. refuses c w.1 ≡ false) is (p.good (λ z. some_count (some_due due places list) z)) in
          let value : value_of (bits_of count w.1) ≡ w.1 = value_of-bits_of count w.1 ∙ mod-eq_of_lt p.fits in
          some_ones here (bits_of count w.1) (length-bits_of count w.1) (λ z. not_zero w.1 good (sym value ∙ z));
      each = λ wanted is q inside want.
          let good : refuses (ones_at (map wanted here)) w.1 ≡ false = subst (λ c. refuses c w.1 ≡ false) is (p.good (λ z. none_there here q inside z)) in
          each_ones wanted here (bits_of count w.1) (length-bits_of count w.1)
          (ap (λ n. lacks_one (map wanted here) (bits_of n w.1)) (sym (length-map here wanted)) ∙ good) q inside want;
    })
  where
    here : List ℕ
    here = filter due places

    count : ℕ
    count = length (filter due places)

    some_count : 1 ≤ length (filter due places) → length (filter due places) ≡ 0 → ⊥
    some_count a b = absurd (omega (arith, a, b))

    not_zero : (w : ℕ) → (w == 0) ≡ false → w ≡ 0 → ⊥
    not_zero w e f = grind (arith, nat_tests)

    none_there : (l : List ℕ) (q : ℕ) → has l q ≡ true → length l ≡ 0 → ⊥
    none_there [] q e z = cc
    none_there (x ∷ l) q e z = absurd (omega (arith, z))

-- a word in which one must be 1, if one is due
pub some_answer : (due : ℕ → Bool) (wanted : Bool) (places : List ℕ) → (wanted ≡ true → list_any due places ≡ true) →
    Answer (some_one_where wanted) (length (filter due places))
some_answer due true places some = (1, one_fits (length (filter due places)) (some_due due places (some refl)), refl)
  where
    one_fits : (n : ℕ) → 1 ≤ n → 1 < 2 ^ n
    one_fits n le = let q : 2 ^ 1 ≤ 2 ^ n = pow_mono le in omega (arith, q)
some_answer due false places some = (0, pow_pos (length (filter due places)), refl)

-- a word in which these must be 1
pub ones_answer : (wants : List Bool) (count : ℕ) → length wants ≡ count → Answer (ones_at wants) count
ones_answer wants count same =
    let all = map (λ (b : Bool). true) wants in
    let long : length all ≡ length wants = length-map wants (λ (b : Bool). true) in (
      value_of all,
      subst (λ n. value_of all < 2 ^ n) (long ∙ same) (value_below all),
      ap (lacks_one wants) (ap (λ n. bits_of n (value_of all)) (sym long) ∙ bits_of-value_of all) ∙ none_lacks wants,
    )
  where
    none_lacks : (ws : List Bool) → lacks_one ws (map (λ (b : Bool). true) ws) ≡ false
    none_lacks [] = refl
    none_lacks (true ∷ ws) = none_lacks ws
    none_lacks (false ∷ ws) = none_lacks ws
