-- The due places of a word, as scripts read them.
use Rattle.std.proofs.Common.{◌≡◌, ℕ, zero, suc, ◌+◌, ◌-◌, ◌<◌, ◌≤◌, ◌^◌, ◌==◌, ◌&&◌, ◌||◌, not, List, [], ◌∷◌, length, Bool, true, false, cond, refl, sym}
use Rattle.std.proofs.Common.{ap, ◌∙◌, subst, arith, Some, None, Ok, Err, Option, Result, map, filter, count_ones, pow_mono}
use Rattle.std.specs.List.{list_any}
use Rattle.std.proofs.lemmas.Bool.Decides.{nat_tests}
use Rattle.std.proofs.lemmas.List.{length-map}
use Rattle.std.proofs.Math.Bool.{and-false, or-false}
use Rattle.item_defs.specs.Bits.{bit, bits_of, value_of}
use Rattle.item_defs.proofs.NumberBits.{bits_of-value_of}
use Rattle.base_122.specs.declared.book.Book.{Book}
use Rattle.plane_defs.specs.Spans.{span}
use Rattle.plane_defs.specs.Steps.{Check, refuses as is_refused}
use Rattle.plane_defs.proofs.SpanLists.{filter-span-suc, filter-span-none}
use Rattle.block_masks.specs.declared.gaggle.Gaggle.{Gaggle}
use Rattle.block_masks.specs.Masks.{Shows}
use Rattle.block_masks.specs.Places.{inside}
use Rattle.block_masks.specs.Picks.{AreSpread}
use Rattle.block_masks.proofs.Picking.{ones_of}
use Rattle.block_masks.proofs.Maskings.{any_shown}
use Rattle.bit_pipe.specs.declared.fault.TextFault.{TextFault}
use Rattle.bit_pipe.specs.declared.fault.TextFault.TheVariants.{FalseFlag}
use Rattle.bit_pipe.specs.Sources.{SourceOf}
use Rattle.bit_pipe.specs.SourceState.{SourceState, IsIn}
use Rattle.bit_pipe.specs.ScriptSources.{ReadsAs}
use Rattle.bit_pipe.proofs.ScriptReading.{read_done, read_then, read_cut, read_fault, in_read}
use Rattle.plane_defs.specs.States.{State, with_options}
use Rattle.plane_defs.specs.WordScripts.{word_script, ones, due_script}
use Rattle.plane_reader.specs.Takes.{option_in, TakesWord, TakesPlaces, unless_bad}
use Rattle.plane_reader.proofs.SignReads.{has, has_append}

-- some state of a gaggle
abbrev pub any_state : Gaggle → State
any_state g = record { options = option_in g; bits = λ p. false; raw = λ p. false; minus = λ p. false; families = λ i. false }

-- ---- positions of a list

pub has_filter : (g : ℕ → Bool) (start count q : ℕ) → has (filter g (span start count)) q ≡ (inside start count q && g q)
has_filter g start zero q =
    let none : false ≡ inside start zero q = grind (arith, nat_tests) in
    ap (λ l. has l q) (filter-span-none g start) ∙ ap (λ t. t && g q) none
has_filter g start (suc n) q =
    let more : suc n ≡ n + 1 = omega arith in
    ap (λ c. has (filter g (span start c)) q) more ∙ ap (λ l. has l q) (filter-span-suc g start n) ∙
    has_append (filter g (span start n)) (cond (g (start + n)) ((start + n) ∷ []) []) q ∙
    ap (λ t. t || has (cond (g (start + n)) ((start + n) ∷ []) []) q) (has_filter g start n q) ∙ last (g (start + n)) refl (q == start + n) refl
  where
    last : (t : Bool) → g (start + n) ≡ t → (u : Bool) → (q == start + n) ≡ u → ((inside start n q && g q) || has (cond t ((start + n) ∷ []) []) q) ≡
        (inside start (suc n) q && g q)
    last true e true f =
        let same : q ≡ start + n = grind (arith, nat_tests) in
        let is : g q ≡ true = ap g same ∙ e in
        let off : inside start n q ≡ false = grind (arith, nat_tests) in
        let on : inside start (suc n) q ≡ true = grind (arith, nat_tests) in
        rw (is, off, on, f) refl
    last true e false f =
        let alike : inside start n q ≡ inside start (suc n) q = grind (arith, nat_tests) in
        rw (f, alike) (or-false _)
    last false e true f =
        let same : q ≡ start + n = grind (arith, nat_tests) in
        let is : g q ≡ false = ap g same ∙ e in
        rw (is, and-false (inside start n q), and-false (inside start (suc n) q)) refl
    last false e false f =
        let alike : inside start n q ≡ inside start (suc n) q = grind (arith, nat_tests) in
        rw alike (or-false _)

-- the ones of a word whose bits are those of a test
pub ones_of_test : (f : ℕ → Bool) (ps : List ℕ) (q : ℕ) → ones ps (map f ps) q ≡ (has ps q && f q)
ones_of_test f [] q = refl
ones_of_test f (p ∷ ps) q = ap (λ t. ((q == p) && f p) || t) (ones_of_test f ps q) ∙ here (q == p) refl
  where
    here : (t : Bool) → (q == p) ≡ t → ((t && f p) || (has ps q && f q)) ≡ ((t || has ps q) && f q)
    here true e =
        let same : q ≡ p = grind (arith, nat_tests) in
        ap (λ b. b || (has ps q && f q)) (ap f (sym same)) ∙ absorbed (f q) (has ps q)
      where
        absorbed : (a h : Bool) → (a || (h && a)) ≡ a
        absorbed true h = refl
        absorbed false h = and-false h
    here false e = refl

-- a word's ones are within its places
abbrev pub word_ones : (g : ℕ → Bool) → (start count value : ℕ) → ℕ → Bool
word_ones g start count value = ones (filter g (span start count)) (bits_of (length (filter g (span start count))) value)

module _ (g : ℕ → Bool) (start count due value places : ℕ) (few : count ≤ 4) (shown : Shows due g start count) (fits : value < 2 ^ count_ones due)
    (spread : AreSpread due value places) where
  abbrev is_one : ℕ → Bool
  is_one p = bit places (p - start)

  pub back : value_of (map is_one (filter g (span start count))) ≡ value
  back = spread.back g start count few shown fits

  pub bits_are : bits_of (length (filter g (span start count))) value ≡ map is_one (filter g (span start count))
  bits_are =
      let here = map is_one (filter g (span start count)) in
      ap (λ v. bits_of (length (filter g (span start count))) v) (sym back) ∙ ap (λ n. bits_of n (value_of here)) (sym (length-map (filter g
      (span start count)) is_one)) ∙ bits_of-value_of here

  pub ones_are : (q : ℕ) → word_ones g start count value q ≡ (inside start count q && (g q && is_one q))
  ones_are q =
      ap (λ l. ones (filter g (span start count)) l q) bits_are ∙ ones_of_test is_one (filter g (span start count)) q ∙
      ap (λ t. t && is_one q) (has_filter g start count q) ∙ grouped (inside start count q) (g q) (is_one q)
    where
      grouped : (a b c : Bool) → ((a && b) && c) ≡ (a && (b && c))
      grouped true b c = refl
      grouped false b c = refl

  pub ones_shown : Shows places (word_ones g start count value) start count
  ones_shown =
      let if_known = spread.if_known is_one g start count few shown back in
      record {
        at = λ k lt. let in_here : inside start count (start + k) ≡ true = grind (arith, nat_tests) in if_known.at k lt ∙
            ap (λ t. t && (g (start + k) && is_one (start + k))) (sym in_here) ∙ sym (ones_are (start + k));
        small = if_known.small;
      }

  -- no one lies outside
  pub ones_inside : (q : ℕ) → (inside start count q && word_ones g start count value q) ≡ word_ones g start count value q
  ones_inside q = ap (λ t. inside start count q && t) (ones_are q) ∙ twice (inside start count q) (g q && is_one q) ∙ sym (ones_are q)
    where
      twice : (a b : Bool) → (a && (a && b)) ≡ (a && b)
      twice true b = refl
      twice false b = refl

pub due_count : (g : ℕ → Bool) (start count due : ℕ) → count ≤ 4 → Shows due g start count → count_ones due ≡ length (filter g (span start count))
due_count g start count due few shown = ones_of due start count (λ p. true) g few shown ∙ length-map (filter g (span start count)) (λ p. true)

-- ---- the word of the due places

module _ {I : Type 0} {k : SourceOf I} (book : Book) (s : State) {h : Gaggle} (g : ℕ → Bool) (start count due : ℕ) (few : count ≤ 4)
    (shown : Shows due g start count) {a b : SourceState I} where
  due_word : {result : Result (Option ℕ) TextFault} → TakesWord k book (count_ones due) s result h a b →
      TakesWord k book (length (filter g (span start count))) s result h a b
  due_word {result} w = subst (λ n. TakesWord k book n s result h a b) (due_count g start count due few shown) w

  pub due_fault : (fault : TextFault) → TakesWord k book (count_ones due) s (Err fault) h a b → TakesPlaces k book due g start count s (Err fault) h a b
  due_fault fault w0 =
      let w = due_word w0 in
      record {
        options = w.options;
        known = w.known;
        word = 0;
        ones = λ p. false;
        are = tt;
        read = λ check free. read_fault _ _ (with_options s w.options) fault (w.read check free);
      }

  pub due_missing : TakesWord k book (count_ones due) s (Ok None) h a b → TakesPlaces k book due g start count s (Ok None) h a b
  due_missing w0 =
      let w = due_word w0 in
      record {
        options = w.options;
        known = w.known;
        word = 0;
        ones = λ p. false;
        are = tt;
        read = λ check free. read_cut _ _ (with_options s w.options) (w.read check free);
      }

  pub due_given : IsIn a → (value places : ℕ) → value < 2 ^ count_ones due → AreSpread due value places →
      TakesWord k book (count_ones due) s (Ok (Some value)) h a b → TakesPlaces k book due g start count s (Ok (Some places)) h a b
  due_given i value places fits spread w0 =
      let w = due_word w0 in
      record {
        options = w.options;
        known = w.known;
        word = value;
        ones = word_ones g start count value;
        are = record {
          fits = fits;
          spread = spread;
          shown = ones_shown g start count due value places few shown fits spread;
          within = ones_inside g start count due value places few shown fits spread;
        };
        read = λ check free. last check (is_refused check value) (with_options s w.options) (w.read check free);
      }
    where
      last : (check : Check) (bad : Bool) (t : State) → ReadsAs k (word_script book (length (filter g (span start count))) check s) (unless_bad bad t (
        t,
        value,
      )) a b → ReadsAs k (due_script book g check (span start count) s) (unless_bad bad t (t, word_ones g start count value)) a b
      last check true t r = read_fault _ _ t FalseFlag r
      last check false t r = let w : State × ℕ = (t, value) in let o : State × (ℕ → Bool) = (t, word_ones g start count value) in
          read_then _ _ w _ r (read_done o b (in_read i r))

-- a mask of no place
pub none_there : {places start count : ℕ} {f : ℕ → Bool} → places < 2 ^ 64 → Shows places f start count → not (places == 0) ≡ list_any f (span start count)
none_there fits shown = any_shown fits shown

pub small_word : (n w : ℕ) → n ≤ 4 → w < 2 ^ n → w < 16
small_word n w few lt = let most : 2 ^ n ≤ 2 ^ 4 = pow_mono few in omega (arith, lt, most)
