-- Words, as scripts read them.
use Rattle.std.proofs.Common.{◌≡◌, ℕ, length, ◌-◌, ◌<◌, ◌≤◌, ◌^◌, ◌==◌, not, Bool, true, false, if◌then◌else◌, refl, sym, ap, ◌∙◌, subst, arith, Some, None}
use Rattle.std.proofs.Common.{Ok, Err, Option, Result, get_or, set, get_or-set_same, get_or-set_other}
use Rattle.std.proofs.lemmas.Bool.Decides.{nat_tests}
use Rattle.item_defs.specs.Items.{Item, raw, item_bits, Form, false_flag, bad_option}
use Rattle.item_defs.specs.Readings.{IsSound}
use Rattle.base_122.specs.declared.book.Book.{Book}
use Rattle.plane_defs.specs.Codes.{option_item, word_item, is_book_sound, identifier_number}
use Rattle.plane_defs.specs.Reading.{word_said}
use Rattle.plane_defs.specs.Steps.{Check, refuses as is_refused}
use Rattle.block_masks.specs.declared.gaggle.Gaggle.{Gaggle}
use Rattle.bit_pipe.specs.declared.fault.TextFault.{TextFault}
use Rattle.bit_pipe.specs.Sources.{SourceOf}
use Rattle.bit_pipe.specs.SourceState.{SourceState, IsIn, Takes, EndsItem}
use Rattle.bit_pipe.specs.Answers.{IsBelow, TakesOne}
use Rattle.bit_pipe.proofs.Taking.{in_later}
use Rattle.item_defs.specs.Scripts.{Script, done, ask, then_ask}
use Rattle.bit_pipe.specs.ScriptSources.{got, ReadsAs}
use Rattle.bit_pipe.proofs.ScriptReading.{read_done, read_then, read_cut, read_fault, in_read, ask_got, ask_refused, ask_ended}
use Rattle.plane_defs.specs.States.{State, with_options}
use Rattle.plane_defs.specs.WordScripts.{with_option, option_script, option_of, option_named, raw_form, word_form, coded_script, word_script}
use Rattle.plane_reader.specs.Takes.{AreIn, option_in, Opens, TakesWord, unless_bad, by_word}
use Rattle.plane_reader.proofs.CodeReads.{OneEnds, one_ends, asked_fault, option_known, word_shape, word_free, word_sound, word_is_said, word_said_is}

equal_self : (n : ℕ) → (n == n) ≡ true
equal_self n = grind (arith, nat_tests)

-- what a call for one item says
pub one_takes : {I : Type 0} {k : SourceOf I} (Is : ℕ → Type 0) (item : ℕ → Item) {result : Result (Option ℕ) TextFault} {a b : SourceState I}
    (t : TakesOne k Is item result a b) → OneEnds k (item t.value) t.value result a b
one_takes {k = k} Is item {result} {a} {b} t = subst (λ r. OneEnds k (item t.value) t.value r a b) (sym t.answer) (one_ends
    (item t.value) t.value t.ending t.read)

-- ---- the option of a length

abbrev pub with_sent : Gaggle → (n value : ℕ) → Gaggle
with_sent g n value = record { options = set g.options (n - 2) value; sent = set g.sent (n - 2) true }

module _ (g : Gaggle) (n value : ℕ) (low : 2 ≤ n) (high : n ≤ 4) (three : length g.options ≡ 3) (three_sent : length g.sent ≡ 3) where
  pub opened_in : (options : ℕ → Option ℕ) → AreIn g options → AreIn (with_sent g n value) (with_option options n value)
  opened_in options are m l h = here (m == n) refl
    where
      other : (m ≡ n → ⊥) → m - 2 ≡ n - 2 → ⊥
      other apart e = apart (omega (arith, e, l, low))

      same : m ≡ n → option_in (with_sent g n value) m ≡ Some value
      same e =
          let sent = ap (λ x. get_or (set g.sent (n - 2) true) (x - 2) false) e ∙ get_or-set_same g.sent (n - 2) true false (omega arith) in
          let is = ap (λ x. get_or (set g.options (n - 2) value) (x - 2) 0) e ∙ get_or-set_same g.options (n - 2) value 0 (omega arith) in
          rw (sent, is) refl

      apart_is : (m ≡ n → ⊥) → option_in (with_sent g n value) m ≡ option_in g m
      apart_is apart = rw (
        get_or-set_other g.sent (n - 2) (m - 2) true false (other apart),
        get_or-set_other g.options (n - 2) (m - 2) value 0
            (other apart),
      ) refl

      here : (t : Bool) → (m == n) ≡ t → (if t then Some value else options m) ≡ option_in (with_sent g n value) m
      here true e = let is : m ≡ n = grind (arith, nat_tests) in sym (same is)
      here false e = let apart : m ≡ n → ⊥ = grind (arith, nat_tests) in are m l h ∙ sym (apart_is apart)

pub fresh : (count : ℕ) (options : ℕ → Option ℕ) (g : Gaggle) → AreIn g options → 2 ≤ count → count ≤ 4 → get_or g.sent (count - 2) false ≡ false →
    options count ≡ None
fresh count options g are low high none = are count low high ∙ ap (λ t. if t then Some (get_or g.options (count - 2) 0) else None) none

pub known_option : (count : ℕ) (options : ℕ → Option ℕ) (g : Gaggle) → AreIn g options → 2 ≤ count → count ≤ 4 → get_or g.sent (count - 2) false ≡ true →
    options count ≡ Some (get_or g.options (count - 2) 0)
known_option count options g are low high sent = are count low high ∙ ap (λ t. if t then Some (get_or g.options (count - 2) 0) else None) sent

abbrev form : ℕ → Form
form count = (option_item count 0).form

abbrev next : ℕ → State → ℕ → Script State State
next count s number = done (with_options s (with_option s.options count (option_named count number)))

module _ {I : Type 0} {k : SourceOf I} (count : ℕ) (s : State) (g : Gaggle) (are : AreIn g s.options) (low : 2 ≤ count) (high : count ≤ 4) where
  -- it was read before
  pub opens_known : {a : SourceState I} → IsIn a → get_or g.sent (count - 2) false ≡ true → Opens k count s (Ok (Some (get_or g.options (count - 2) 0))) g a a
  opens_known {a} i sent =
      let e = known_option count s.options g are low high sent in
      record { options = s.options; known = are; at = e; read = rw e (read_done s a i) }

  pub opens_fault : (fault : TextFault) {a b : SourceState I} → get_or g.sent (count - 2) false ≡ false → TakesOne k (IsBelow count) (option_item count)
      (Err fault) a b → Opens k count s (Err fault) g a b
  opens_fault fault none t = record {
    options = s.options;
    known = are;
    at = tt;
    read = rw (fresh count s.options g are low high none) (asked_fault s (form count) (next count s) (option_item count t.value) t.value tt refl
        (λ n name e. e) fault (one_takes (IsBelow count) (option_item count) t));
  }

  pub opens_end : {a b : SourceState I} → get_or g.sent (count - 2) false ≡ false → TakesOne k (IsBelow count) (option_item count) (Ok None) a b →
      Opens k count s (Ok None) g a b
  opens_end none t = record {
    options = s.options;
    known = are;
    at = tt;
    read = rw (fresh count s.options g are low high none) (ask_ended s (form count)
        (next count s) (one_takes (IsBelow count) (option_item count) t));
  }

  pub opens_new : (option : ℕ) {a b : SourceState I} → IsIn a → get_or g.sent (count - 2) false ≡ false → length g.options ≡ 3 → length g.sent ≡ 3 →
      TakesOne k (IsBelow count) (option_item count) (Ok (Some option)) a b →
      Opens k count s (Ok (Some option)) (with_sent g count option) a b
  opens_new option {a} {b} i none three three_sent t =
      let one = one_takes (IsBelow count) (option_item count) t in
      let named = option_known count t.value low high t.known in
      let same : option_named count (identifier_number count t.value) ≡ option = named.same ∙ sym one.0 in
      let free : (form count).refusal (identifier_number count t.value) ≡ None = ap (λ n. if not n then Some bad_option else None) named.names in
      let end : ReadsAs {G = State} k (next count s (identifier_number count t.value)) (got (with_options s (with_option s.options count option))) b b =
      subst (λ o. ReadsAs {G = State} k (done (with_options s (with_option s.options count o))) (got (with_options s
      (with_option s.options count option))) b b) (sym same) (read_done (with_options s (with_option s.options count option)) b (in_later i one.1)) in
      record {
        options = with_option s.options count option;
        known = opened_in g count option low high three three_sent s.options are;
        at = ap (λ x. if x then Some option else s.options count) (equal_self count);
        read = rw (fresh count s.options g are low high none) (ask_got s (form count) (next count s) (identifier_number count t.value) (got (with_options s
            (with_option s.options count option))) tt (named.fits, one.1) free end);
      }

-- ---- a question whose number has a value, of which some are refused

module _ {I : Type 0} {k : SourceOf I} {G A : Type 0} (g : G) (form : Form) (next : ℕ → Script G A) (a : A) (bad : Bool) (n : ℕ) {s t : SourceState I}
    (sound : IsSound form.shape) (i : IsIn s) (read : EndsItem k form.shape (Ok (Some n)) s t) (is : next n ≡ done a) (refusal : form.refusal n ≡
    (if bad then Some false_flag else None)) where
  pub ask_checked : ReadsAs k (ask g form next) (unless_bad bad g a) s t
  ask_checked = here bad refl
    where
      here : (b : Bool) → bad ≡ b → ReadsAs k (ask g form next) (unless_bad b g a) s t
      here true e = ask_refused g form next n false_flag sound read (refusal ∙ ap (λ b. if b then Some false_flag else None) e)
      here false e = ask_got g form next n (got a) sound read (refusal ∙ ap (λ b. if b then Some false_flag else None) e) (rw is (read_done a t
          (in_later i read.1)))

-- ---- words

abbrev raw_next : State → ℕ → Script State (State × ℕ)
raw_next s value = done (s, value)

module _ {I : Type 0} {k : SourceOf I} (book : Book) (s : State) (g : Gaggle) where
  pub word_none : {a : SourceState I} → AreIn g s.options → IsIn a → TakesWord k book 0 s (Ok (Some 0)) g a a
  word_none {a} are i = record {
    options = s.options;
    known = are;
    read = λ check free. let w : State × ℕ = (s, 0) in subst (λ b. ReadsAs k (done w) (unless_bad b s w) a a) (sym (free refl)) (read_done w a i);
  }

  pub word_raw : {result : Result (Option ℕ) TextFault} {a b : SourceState I} → AreIn g s.options → IsIn a → TakesOne k (IsBelow 2) raw result a b →
      TakesWord k book 1 s result g a b
  word_raw {result} {a} {b} are i t = record { options = s.options; known = are; read = λ check free. rest_of check result (one_takes (IsBelow 2) raw t) }
    where
      rest_of : (check : Check) (r : Result (Option ℕ) TextFault) → OneEnds k (raw t.value) t.value r a b →
          ReadsAs k (ask s (raw_form check) (raw_next s)) (by_word r check s) a b
      rest_of check (Ok (Some value)) q = rw q.0 (ask_checked s (raw_form check) (raw_next s) (s, t.value) (is_refused check t.value) t.value tt i (
        t.known,
        q.1,
      ) refl refl)
      rest_of check (Ok None) q = ask_ended s (raw_form check) (raw_next s) q
      rest_of check (Err fault) q = asked_fault s (raw_form check) (raw_next s) (raw t.value) t.value tt refl (λ n name e. cc) fault q

module _ (book : Book) (count : ℕ) (low : 2 ≤ count) (high : count ≤ 4) (s : State) where
  several : {A : Type 0} (none one more : A) → (if count == 0 then none else if count == 1 then one else more) ≡ more
  several none one more = grind (arith, nat_tests)

  -- a word of several bits
  abbrev pub long_script : Check → Script State (State × ℕ)
  long_script check = then_ask (option_script count s (s.options count)) (coded_script book count check)

  pub long_is : (check : Check) → word_script book count check s ≡ long_script check
  long_is check = several _ _ (long_script check)

  module _ {I : Type 0} {k : SourceOf I} {g : Gaggle} where
    pub unopened_fault : (fault : TextFault) {a b : SourceState I} → Opens k count s (Err fault) g a b → TakesWord k book count s (Err fault) g a b
    unopened_fault fault o = record {
      options = o.options;
      known = o.known;
      read = λ check free. rw (long_is check) (read_fault _ _
          (with_options s o.options) fault o.read);
    }

    pub unopened_end : {a b : SourceState I} → Opens k count s (Ok None) g a b → TakesWord k book count s (Ok None) g a b
    unopened_end o = record { options = o.options; known = o.known; read = λ check free. rw (long_is check) (read_cut _ _ (with_options s o.options) o.read) }

    pub opened_word : is_book_sound book ≡ true → (option : ℕ) → option < count → {result : Result (Option ℕ) TextFault} {a b c : SourceState I} → IsIn a →
        Opens k count s (Ok (Some option)) g a b → TakesOne k (IsBelow (2 ^ count)) (word_item book count option) result b c →
        TakesWord k book count s result g a c
    opened_word sound option lt {result} {a} {b} {c} i o t = record {
      options = o.options;
      known = o.known;
      read = λ check free. rw (long_is check) (read_then _ _ later _ o.read (subst (λ x. ReadsAs k (by_option check (option_of x))
          (by_word result check later) b c) (sym o.at) (rest_of check result (one_takes (IsBelow (2 ^ count)) (word_item book count option) t))));
    }
      where
        later : State
        later = with_options s o.options

        by_option : Check → ℕ → Script State (State × ℕ)
        by_option check x = ask later (word_form book count x check) (λ said. done (later, word_said count x said))

        next : ℕ → Script State (State × ℕ)
        next said = done (later, word_said count option said)

        it : Item
        it = word_item book count option t.value

        shape : (word_item book count option 0).form.shape ≡ it.form.shape
        shape = word_shape book count option t.value

        sound_shape : IsSound (word_item book count option 0).form.shape
        sound_shape = word_sound book count option low high lt sound 0

        value : word_said count option it.said ≡ t.value
        value = word_said_is book count option low high lt sound t.value t.known

        said_of : Takes k b c (item_bits it) → EndsItem k (word_item book count option 0).form.shape (Ok (Some it.said)) b c
        said_of q = subst (λ z. EndsItem k z (Ok (Some it.said)) b c) (sym shape) (word_is_said book count option low high lt sound t.value t.known, q)

        rest_of : (check : Check) (r : Result (Option ℕ) TextFault) → OneEnds k it t.value r b c → ReadsAs k (by_option check option)
            (by_word r check later) b c
        rest_of check (Ok (Some v)) q =
            rw q.0 (ask_checked later (word_form book count option check) next (later, t.value) (is_refused check t.value) it.said sound_shape
            (in_read i o.read) (said_of q.1) (ap (λ v. done (later, v)) value) (ap (λ v. if is_refused check v then Some false_flag else None) value))
        rest_of check (Ok None) q = ask_ended later (word_form book count option check) next (subst (λ z. EndsItem k z (Ok None) b c) (sym shape) q)
        rest_of check (Err fault) q = asked_fault later (word_form book count option check) next it t.value sound_shape shape (λ n name e. absurd
            (word_free book count option t.value n name e)) fault q
