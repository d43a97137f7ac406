-- Words, types and signs that are first in a window.
use Rattle.std.proofs.Common.{◌≡◌, ℕ, zero, suc, ◌+◌, ◌-◌, ◌*◌, ◌/◌, ◌%◌, ◌<◌, ◌≤◌, ◌^◌, ◌==◌, ◌&&◌, ◌||◌, not, max, inl, inr, List, [], ◌++◌, length, Bool}
use Rattle.std.proofs.Common.{true, false, refl, sym, ap, ◌∙◌, subst, arith, Option, Some, None, IsSome, map, filter, count_ones, get_or, if◌then◌else◌}
use Rattle.std.proofs.Common.{nat_lt}
use Rattle.std.proofs.lemmas.Bool.Decides.{nat_tests}
use Rattle.std.proofs.lemmas.Bool.{cases_lt}
use Rattle.std.proofs.lemmas.List.{length-map}
use Rattle.item_defs.specs.Bits.{bit, bits_of, value_of}
use Rattle.item_defs.specs.Items.{Form, item_bits, spelling, IsSaid, false_flag}
use Rattle.item_defs.specs.Readings.{IsSound}
use Rattle.item_defs.proofs.NumberBits.{bits_none, length-bits_of, value_below}
use Rattle.base_122.specs.declared.book.Book.{Book}
use Rattle.plane_defs.specs.Codes.{word_item, is_book_sound}
use Rattle.plane_defs.specs.Reading.{word_said}
use Rattle.plane_defs.specs.Spans.{span}
use Rattle.plane_defs.specs.Steps.{Check, refuses as is_refused, some_one_where}
use Rattle.block_masks.specs.declared.gaggle.Gaggle.{Gaggle}
use Rattle.block_masks.specs.Gaggles.{AreOptions}
use Rattle.block_masks.specs.Masks.{Shows}
use Rattle.block_masks.specs.Places.{inside}
use Rattle.block_masks.specs.Picks.{AreSpread}
use Rattle.block_masks.proofs.LaneMasks.{shows_same}
use Rattle.block_masks.proofs.Maskings.{any_shown}
use Rattle.std.specs.List.{list_any}
use Rattle.bit_pipe.specs.Windows.{first_of}
use Rattle.item_defs.specs.Scripts.{Script, done, ask, then_ask, answered, unless_named, proceed, run}
use Rattle.bit_pipe.specs.ScriptSources.{Says, Gets}
use Rattle.item_defs.proofs.FirstNumbers.{spelt_first}
use Rattle.item_defs.proofs.ScriptLaws.{run_then}
use Rattle.bit_pipe.proofs.ScriptReading.{goes_on_ask, gets_then}
use Rattle.plane_defs.specs.States.{State, with_bits, with_minus}
use Rattle.plane_defs.specs.WordScripts.{raw_form, word_form, option_script, option_of, coded_script, word_script, ones, due_script, signs_script, types_script}
use Rattle.plane_reader.specs.declared.found.Found.{Found}
use Rattle.bit_pipe.specs.Sources.{SourceOf}
use Rattle.bit_pipe.specs.SourceState.{SourceState}
use Rattle.plane_reader.specs.declared.places.FirstPlaces.{FirstPlaces}
use Rattle.plane_reader.specs.declared.reading.Reading.{Reading}
use Rattle.plane_reader.specs.HeldTakes.{IsReading}
use Rattle.plane_reader.specs.Takes.{AreIn, IsState, AreOnes, unless_bad}
use Rattle.plane_reader.specs.Places.{word_at, IsFirst, row_of, row_in, table_in}
use Rattle.plane_reader.proofs.CodeReads.{word_shape, word_sound, word_is_said, word_said_is}
use Rattle.plane_reader.proofs.WordReads.{known_option, long_is}
use Rattle.plane_reader.proofs.PlaceReads.{word_ones, ones_shown, ones_inside, has_filter, due_count}
use Rattle.plane_reader.proofs.SignReads.{signs_of, signs_get, signs_as, same_bits}
use Rattle.plane_reader.proofs.TypeReads.{option_fits, refused_is}
use Rattle.plane_reader.proofs.WindowParts.{window_parts, top_word}
use Rattle.plane_reader.proofs.WindowWords.{few_ones, word_value}

-- ---- a question whose number has a value, of which some are refused

module _ {G A : Type 0} (g : G) (form : Form) (next : ℕ → Script G A) (a : A) (bad : Bool) (n : ℕ) (sound : IsSound form.shape) (said : IsSaid form.shape n)
    (is : next n ≡ done a) (refusal : form.refusal n ≡ (if bad then Some false_flag else None)) where
  pub asked_says : Says (ask g form next) (spelling form.shape n) (unless_bad bad g a)
  asked_says = here bad refl
    where
      here : (b : Bool) → bad ≡ b → Says (ask g form next) (spelling form.shape n) (unless_bad b g a)
      here true e = λ more. ap (answered g form (λ m. run (next m))) (spelt_first form.shape n more sound said) ∙
          ap (λ x. unless_named g x more (run (next n) more)) (refusal ∙ ap (λ b. if b then Some false_flag else None) e)
      here false e = λ more. goes_on_ask g form next n sound said (refusal ∙ ap (λ b. if b then Some false_flag else None) e) more ∙ ap (λ x. run x more) is

-- ---- a word

-- the word's code is first in a window, by the option of its length
pub record IsWordOf (book : Book) (s : State) (count option window len word : ℕ) : Type 0 where
  pub option_fits : option < max 1 count
  pub known : 2 ≤ count → s.options count ≡ Some option
  pub fits : word < 2 ^ count
  pub none : count ≡ 0 → len ≡ 0
  pub code : 1 ≤ count → item_bits (word_item book count option word) ≡ first_of len window

module _ (book : Book) (sound : is_book_sound book ≡ true) (s : State) (option window len word : ℕ) (check : Check) where
  abbrev end : State × ℕ
  end = (s, word)

  abbrev coded_by : (count x : ℕ) → Script State (State × ℕ)
  coded_by count x = ask s (word_form book count x check) (λ said. done (s, word_said count x said))

  no_word : IsWordOf book s 0 option window len word → is_refused check 0 ≡ false → Says (word_script book 0 check s) (first_of len window) (unless_bad
      (is_refused check word) s end)
  no_word w free =
      let z : word ≡ 0 = omega (arith, w.fits) in
      let e : State × ℕ = (s, 0) in
      let nothing : first_of len window ≡ [] = ap (λ n. first_of n window) (w.none refl) ∙ bits_none (window / 2 ^ 64) in
      subst (λ v. let p : State × ℕ = (s, v) in Says (word_script book 0 check s) (first_of len window) (unless_bad (is_refused check v) s p)) (sym z)
      (subst (λ b. Says (done e) (first_of len window) (unless_bad b s e)) (sym free) (λ more. ap (λ l. run {G = State} (done e) (l ++ more)) nothing))

  one_bit : IsWordOf book s 1 option window len word → Says (word_script book 1 check s) (first_of len window) (unless_bad (is_refused check word) s end)
  one_bit w =
      let z : option ≡ 0 = omega (arith, w.option_fits) in
      let bits : bits_of 1 word ≡ first_of len window = ap (λ o. item_bits (word_item book 1 o word)) (sym z) ∙ w.code (omega arith) in
      subst (λ l. Says (ask s (raw_form check) (λ value. done (s, value))) l (unless_bad (is_refused check word) s end)) bits
      (asked_says s (raw_form check) (λ value. done (s, value)) end (is_refused check word) word tt w.fits refl refl)

  several_bits : (count : ℕ) → 2 ≤ count → count ≤ 4 → IsWordOf book s count option window len word → Says (word_script book count check s)
      (first_of len window) (unless_bad (is_refused check word) s end)
  several_bits count low high w =
      let lt : option < count = omega (arith, w.option_fits, low) in
      let same : word_script book count check s ≡ coded_by count option =
      long_is book count low high s check ∙ ap (λ o. then_ask (option_script count s o) (coded_script book count check)) (w.known low) ∙
      ap (λ o. coded_by count (option_of o)) (w.known low) in
      let it = word_item book count option word in
      let value = word_said_is book count option low high lt sound word w.fits in
      let bits : spelling (word_item book count option 0).form.shape it.said ≡ first_of len window = ap (λ z. spelling z it.said)
      (word_shape book count option word) ∙ w.code (omega (arith, low)) in
      subst (λ r. Says r (first_of len window) (unless_bad (is_refused check word) s end)) (sym same)
      (subst (λ l. Says (coded_by count option) l (unless_bad (is_refused check word) s end)) bits
      (asked_says s (word_form book count option check) (λ said. done (s, word_said count option said)) end (is_refused check word) it.said
      (word_sound book count option low high lt sound 0)
      (subst (λ z. IsSaid z it.said) (sym (word_shape book count option word)) (word_is_said book count option low high lt sound word w.fits)) (ap (λ v. done
      (s, v)) value)
      (ap (λ v. if is_refused check v then Some false_flag else None) value)))

  pub word_says : (count : ℕ) → count ≤ 4 → IsWordOf book s count option window len word → (count ≡ 0 → is_refused check 0 ≡ false) →
      Says (word_script book count check s) (first_of len window) (unless_bad (is_refused check word) s end)
  word_says zero few w free = no_word w (free refl)
  word_says (suc zero) few w free = one_bit w
  word_says (suc (suc n)) few w free = several_bits (suc (suc n)) (omega arith) few w

-- ---- places, types and signs

-- some position of a mask is due
pub some_here : {here start count : ℕ} {f : ℕ → Bool} → here < 2 ^ 64 → Shows here f start count → list_any f (span start count) ≡ true → 0 < here
some_here {here} fits shown some = positive (any_shown fits shown ∙ some)
  where
    positive : not (here == 0) ≡ true → 0 < here
    positive e = grind (arith, nat_tests)

-- the signs after a word are the first of four bits
pub signs_word : (rest ones : ℕ) → rest < 2 ^ 64 → ones ≤ 4 → rest / 2 ^ 60 / 2 ^ (4 - ones) ≡ value_of (first_of ones rest)
signs_word rest ones fits few = top_word rest ones few ∙ sym (word_value rest (rest / 2 / 2 ^ (63 - ones)) ones fits refl few)

-- the option by which a row was chosen
pub record RowOption (g : Gaggle) (due table : ℕ) : Type 0 where
  pub option : ℕ
  pub at : table ≡ 4 * due + option
  pub fits : option < max 1 (count_ones due)
  pub sent : 2 ≤ count_ones due → get_or g.sent (count_ones due - 2) false ≡ true
  pub is : 2 ≤ count_ones due → option ≡ get_or g.options (count_ones due - 2) 0

row_known : (g : Gaggle) (due table : ℕ) → AreOptions g.options → count_ones due ≤ 4 → table ≡ row_of g due → (table ≡ 255 → ⊥) → RowOption g due table
row_known g due table known few e not_none = elim (cases_lt (count_ones due) 2) [
  | inl less ↦
      let t : nat_lt (count_ones due) 2 ≡ true = grind (arith, nat_tests) in
      record {
        option = 0;
        at = (let z : 4 * due ≡ 4 * due + 0 = omega arith in e ∙ ap (λ b. if b then 4 * due else long) t ∙ z);
        fits = omega arith;
        sent = λ more. absurd (omega (arith, more, less));
        is = λ more. absurd (omega (arith, more, less));
      }
  | inr ge ↦
      let t : nat_lt (count_ones due) 2 ≡ false = grind (arith, nat_tests) in
      by_sent ge (e ∙ ap (λ b. if b then 4 * due else long) t) (get_or g.sent (count_ones due - 2) false) refl
]
  where
    long : ℕ
    long = if get_or g.sent (count_ones due - 2) false then 4 * due + get_or g.options (count_ones due - 2) 0 else 255

    by_sent : 2 ≤ count_ones due → table ≡ long → (b : Bool) → get_or g.sent (count_ones due - 2) false ≡ b → RowOption g due table
    by_sent ge l true s = record {
      option = get_or g.options (count_ones due - 2) 0;
      at = l ∙ ap (λ b. if b then 4 * due + get_or g.options (count_ones due - 2) 0 else 255) s;
      fits = (let lt = option_fits (count_ones due) g.options known ge few in omega (arith, lt));
      sent = λ more. s;
      is = λ more. refl;
    }
    by_sent ge l false s = absurd (not_none (l ∙ ap (λ b. if b then 4 * due + get_or g.options (count_ones due - 2) 0 else 255) s))

by_tables : {X : Type 0} (tables : Option X) (g : Gaggle) (due table : ℕ) → AreOptions g.options → count_ones due ≤ 4 → table ≡ row_in tables g due →
    (table ≡ 255 → ⊥) → RowOption g due table
by_tables (Some tables) g due table known few e not_none = row_known g due table known few e not_none
by_tables None g due table known few e not_none = absurd (not_none e)

pub row_option : {I : Type 0} {k : SourceOf I} {s : SourceState I} {r : Reading} (due table : ℕ) → IsReading k s r → due < 16 →
    table ≡ table_in r.rows due → (table ≡ 255 → ⊥) → RowOption r.gaggle due table
row_option {r = r} due table reading small e not_none =
    by_tables r.tables.now.entries r.gaggle due table reading.options (few_ones due small) (e ∙ reading.rows.at due small) not_none

-- there are tables if a row is known
some_tables : {X : Type 0} (tables : Option X) (g : Gaggle) (due table : ℕ) → table ≡ row_in tables g due → (table ≡ 255 → ⊥) → IsSome tables
some_tables (Some tables) g due table e not_none = refl
some_tables None g due table e not_none = absurd (not_none e)

pub rows_there : {I : Type 0} {k : SourceOf I} {s : SourceState I} {r : Reading} (due table : ℕ) → IsReading k s r → due < 16 →
    table ≡ table_in r.rows due → (table ≡ 255 → ⊥) → IsSome r.tables.now.entries
rows_there {r = r} due table reading small e not_none = some_tables r.tables.now.entries r.gaggle due table (e ∙ reading.rows.at due small) not_none

pub row_small : {g : Gaggle} {due table : ℕ} → due < 16 → count_ones due ≤ 4 → RowOption g due table → table < 64
row_small small few r = omega (arith, r.at, r.fits, few, small)

module _ (book : Book) (sound : is_book_sound book ≡ true) (g : ℕ → Bool) (start count : ℕ) (few : count ≤ 4) (s : State) {h : Gaggle}
    (are : AreIn h s.options) (due : ℕ) (small : due < 16) (shown : Shows due g start count) {table : ℕ} (row : RowOption h due table) (window : ℕ)
    {first : FirstPlaces} (f : IsFirst book due row.option window first) where
  abbrev places : List ℕ
  places = filter g (span start count)

  abbrev pub word : ℕ
  word = word_at due first.places

  abbrev pub new : ℕ → Bool
  new = word_ones g start count word

  pub first_ones : AreOnes due word new start count first.places
  first_ones = record {
    fits = f.fits;
    spread = f.places;
    shown = ones_shown g start count due word first.places few shown f.fits f.places;
    within =
        ones_inside g start count due word first.places few shown f.fits f.places;
  }

  pub is_word : IsWordOf book s (count_ones due) row.option window first.len word
  is_word = record {
    option_fits = row.fits;
    known = λ more. known_option (count_ones due) s.options h are more (few_ones due small) (row.sent more) ∙ ap (λ o. Some o) (sym (row.is more));
    fits = f.fits;
    none = f.none;
    code = f.code;
  }

  -- the places of the word
  pub places_say : (check : Check) → (length (filter g (span start count)) ≡ 0 → is_refused check 0 ≡ false) →
      Says (due_script book g check (span start count) s) (first_of first.len window) (let o : State × (ℕ → Bool) = (s, new) in
      unless_bad (is_refused check word) s o)
  places_say check free =
      let n : count_ones due ≡ length places = due_count g start count due few shown in
      let p : State × ℕ = (s, word) in
      last (is_refused check word) (subst (λ c. Says (word_script book c check s) (first_of first.len window) (unless_bad (is_refused check word) s p)) n
      (word_says book sound s row.option window first.len word check (count_ones due) (few_ones due small) is_word (λ e. free (sym n ∙ e))))
    where
      next : State × ℕ → Script State (State × (ℕ → Bool))
      next w = done (w.0, ones places (bits_of (length places) w.1))

      last : (bad : Bool) → (let p : State × ℕ = (s, word) in Says (word_script book (length places) check s) (first_of first.len window)
          (unless_bad bad s p)) →
          (let o : State × (ℕ → Bool) = (s, new) in Says (then_ask (word_script book (length places) check s) next) (first_of first.len window)
          (unless_bad bad s o))
      last true q = λ more. run_then next (word_script book (length places) check s) (first_of first.len window ++ more) ∙
          ap (λ o. proceed (λ a. run (next a)) o) (q more)
      last false q = λ more. run_then next (word_script book (length places) check s) (first_of first.len window ++ more) ∙
          ap (λ o. proceed (λ a. run (next a)) o) (q more)

  -- ---- and the signs after it

  abbrev rest : ℕ
  rest = window * 2 ^ first.len % 2 ^ 64

  abbrev signs : List ℕ
  signs = filter new (span start count)

  abbrev signed : ℕ → Bool
  signed = signs_of signs (first_of (count_ones first.places) rest) s.minus

  abbrev pub types_end : State
  types_end = with_minus (with_bits s new) signed

  parts_are : first_of first.signed_len window ≡ first_of first.len window ++ first_of (count_ones first.places) rest
  parts_are = ap (λ n. first_of n window) f.signed ∙ window_parts window first.len (count_ones first.places) (omega (
    arith,
    f.few,
    few_ones first.places f.places.small,
  ))

  long : length signs ≡ length (first_of (count_ones first.places) rest)
  long = sym (due_count new start count first.places few first_ones.shown) ∙ sym (length-bits_of (count_ones first.places) (rest / 2 ^
      (64 - count_ones first.places)))

  pub types_gets : (wanted : Bool) → (length (filter g (span start count)) ≡ 0 → is_refused (some_one_where wanted) 0 ≡ false) → (wanted && (first.places ==
      0)) ≡ false → Gets (types_script book g wanted (span start count) s) (first_of first.signed_len window) types_end
  types_gets wanted free e =
      let o : State × (ℕ → Bool) = (s, new) in
      let says = subst (λ b. Says (due_script book g (some_one_where wanted) (span start count) s) (first_of first.len window) (unless_bad b s o))
      (refused_is wanted first_ones ∙ e) (places_say (some_one_where wanted) free) in
      rw parts_are
      (gets_then (due_script book g (some_one_where wanted) (span start count) s) (λ (r : State × (ℕ → Bool)). signs_script (filter r.1 (span start count))
      (with_bits r.0 r.1)) (first_of first.len window) (first_of (count_ones first.places) rest) o types_end says
      (signs_get signs (first_of (count_ones first.places) rest) (with_bits s new) long))

  -- the signs are at their places
  module _ {minus signs_word : ℕ} (is_value : signs_word ≡ value_of (first_of (count_ones first.places) rest))
      (spread : AreSpread first.places signs_word minus) where
    abbrev is_minus : ℕ → Bool
    is_minus p = bit minus (p - start)

    below : value_of (first_of (count_ones first.places) rest) < 2 ^ count_ones first.places
    below = subst (λ n. value_of (first_of (count_ones first.places) rest) < 2 ^ n) (length-bits_of (count_ones first.places) (rest / 2 ^
        (64 - count_ones first.places))) (value_below (first_of (count_ones first.places) rest))

    back : value_of (map is_minus signs) ≡ signs_word
    back = spread.back new start count few first_ones.shown (subst (λ v. v < 2 ^ count_ones first.places) (sym is_value) below)

    signs_are : map is_minus signs ≡ first_of (count_ones first.places) rest
    signs_are = same_bits _ _ (length-map signs is_minus ∙ long) (back ∙ is_value)

    minus_shown : Shows minus (λ q. new q && is_minus q) start count
    minus_shown = spread.if_known is_minus new start count few first_ones.shown back

    signed_is : (q : ℕ) → signed q ≡ (s.minus q || (inside start count q && (new q && is_minus q)))
    signed_is q =
        ap (λ l. signs_of signs l s.minus q) (sym signs_are) ∙ signs_as is_minus signs s.minus q ∙ ap (λ b. s.minus q || (b && is_minus q))
        (has_filter new start count q) ∙
        ap (λ b. s.minus q || b) (grouped (inside start count q) (new q) (is_minus q))
      where
        grouped : (a b c : Bool) → ((a && b) && c) ≡ (a && (b && c))
        grouped true b c = refl
        grouped false b c = refl

    pub types_is : (room : start + count ≤ 64) (m n o : Found) → IsState h m s → n.minus ≡ m.minus → o.raw ≡ m.raw →
        ((f g' : ℕ → Bool) (c : ℕ) → start + c ≤ 64 → Shows m.bits f 0 64 → Shows first.places g' start c → Shows n.bits (λ p. f p ||
        (inside start c p && g' p)) 0 64) → o.bits ≡ n.bits →
        ((f g' : ℕ → Bool) (c : ℕ) → start + c ≤ 64 → Shows n.minus f 0 64 → Shows minus g' start c → Shows o.minus (λ p. f p ||
        (inside start c p && g' p)) 0 64) → IsState h o types_end
    types_is room m n o is no_minus no_raw bits no_bits added = record {
      options = is.options;
      bits = subst (λ z. Shows z (λ x. s.bits x || new x) 0 64) (sym no_bits) (shows_same (λ x. ap (λ b. s.bits x || b) (first_ones.within
          x)) (bits s.bits new count room is.bits first_ones.shown));
      minus = shows_same (λ q. sym (signed_is q)) (added s.minus (λ q. new q && is_minus q) count room (subst (λ z. Shows z s.minus 0 64)
          (sym no_minus) is.minus) minus_shown);
      raw = subst (λ z. Shows z s.raw 0 64) (sym no_raw) is.raw;
    }
