-- States that are read from a window that is held.
use Rattle.std.proofs.Common.{◌≡◌, ℕ, ◌<◌, List, [], ◌++◌, Bool, true, false, length, filter, arith, Option, Some, Result, Ok, Err}
use Rattle.item_defs.specs.Items.{false_flag}
use Rattle.base_122.specs.declared.book.Book.{Book}
use Rattle.plane_defs.specs.Spans.{span}
use Rattle.plane_defs.specs.Steps.{Check, refuses as is_refused, some_one_where}
use Rattle.block_masks.specs.declared.gaggle.Gaggle.{Gaggle}
use Rattle.bit_pipe.specs.declared.fault.TextFault.{TextFault}
use Rattle.bit_pipe.specs.declared.fault.TextFault.TheVariants.{FalseFlag}
use Rattle.bit_pipe.specs.Sources.{SourceOf}
use Rattle.bit_pipe.specs.SourceState.{SourceState}
use Rattle.item_defs.specs.Scripts.{Script}
use Rattle.bit_pipe.specs.ScriptSources.{Says, Gets, by_done}
use Rattle.plane_defs.specs.States.{State, with_options, with_bits}
use Rattle.plane_defs.specs.WordScripts.{due_script, signs_script, types_script}
use Rattle.plane_reader.specs.declared.found.Found.{Found}
use Rattle.plane_reader.specs.declared.cursor.Cursor.{Cursor}
use Rattle.plane_reader.specs.Takes.{AreIn, IsState, AreOnes, TakesState, TakesPlaces, unless_bad, by_places}
use Rattle.plane_reader.specs.Held.{Holds, Point, Moves, Stays, StopsAt}
use Rattle.plane_reader.specs.HeldTakes.{HeldState, HeldPlaces}
use Rattle.plane_reader.proofs.HeldReads.{moves_then, leads_stays, reads_later, reads_by_calls, reads_gets, reads_refused}

-- a window that is not there has anything
pub holds_closed : {I : Type 0} {k : SourceOf I} {s : SourceState I} {c : Cursor} → 56 < c.used → Holds k s c
holds_closed lt = record { window = λ le. absurd (omega (arith, le, lt)); rest = λ le. absurd (omega (arith, le, lt)) }

module _ {I X : Type 0} {k : SourceOf I} (r : Script State State) (result : Result (Option X) TextFault) {h : Gaggle} {f : Found} {x m y : Point I} where
  pub held_by_calls : Stays k x m → m.read ≡ [] → y.read ≡ [] → TakesState k r result h f m.input y.input → HeldState k r result h f x y
  held_by_calls stays none none_then t = record {
    now = t.now;
    is = t.is;
    read = reads_later r r (by_done result t.now t.now) (leads_stays r stays)
        (reads_by_calls r (by_done result t.now t.now) none none_then t.read);
  }

  pub held_later : Stays k x m → HeldState k r result h f m y → HeldState k r result h f x y
  held_later stays t = record { now = t.now; is = t.is; read = reads_later r r (by_done result t.now t.now) (leads_stays r stays) t.read }

module _ {I : Type 0} {k : SourceOf I} (book : Book) (g : ℕ → Bool) (wanted : Bool) (start count : ℕ)
    (s : State) {h : Gaggle} {f : Found} {x m y : Point I} where
  -- one must be 1, and none is
  pub held_false : {bits : List Bool} (new : ℕ → Bool) → IsState h f s → Stays k x m → Moves k m y bits → (let o : State × (ℕ → Bool) = (s, new) in
      Says (due_script book g (some_one_where wanted) (span start count) s) bits (unless_bad true s o)) →
      HeldState {X = Unit {0}} k (types_script book g wanted (span start count) s) (Err FalseFlag) h f x y
  held_false {bits} new is stays moves says = record {
    now = s;
    is = is;
    read = reads_refused (due_script book g (some_one_where wanted) (span start count) s) (λ (r : State × (ℕ →
        Bool)). signs_script (filter r.1 (span start count)) (with_bits r.0 r.1)) s false_flag (record {
          bits = [] ++ bits;
          moves = moves_then stays moves;
          says = says;
          stops = tt;
        });
  }

  pub held_types : {bits : List Bool} {now : State} → IsState h f now → Stays k x m → Moves k m y bits →
      Gets (types_script book g wanted (span start count) s) bits now →
      HeldState {X = Unit {0}} k (types_script book g wanted (span start count) s) (Ok (Some tt)) h f x y
  held_types {bits} {now} is stays moves gets = record {
    now = now;
    is = is;
    read = reads_gets (types_script book g wanted (span start count) s) now gets
        (moves_then stays moves);
  }

-- ---- places

module _ {I : Type 0} {k : SourceOf I} (book : Book) (due : ℕ) (g : ℕ → Bool) (start count : ℕ) (s : State) (result : Result
    (Option ℕ) TextFault) {h : Gaggle} {x m y : Point I} where
  pub places_by_calls : Stays k x m → m.read ≡ [] → y.read ≡ [] → TakesPlaces k book due g start count s result h m.input y.input →
      HeldPlaces k book due g start count s result h x y
  places_by_calls stays none none_then t = record {
    options = t.options;
    known = t.known;
    word = t.word;
    ones = t.ones;
    are = t.are;
    read = λ check free.
        let found = by_places result (is_refused check t.word) t.ones (with_options s t.options) in
        let script = due_script book g check (span start count) s in
        reads_later script script found (leads_stays script stays) (reads_by_calls script found none none_then (t.read check free));
  }

  pub places_later : Stays k x m → HeldPlaces k book due g start count s result h m y → HeldPlaces k book due g start count s result h x y
  places_later stays t = record {
    options = t.options;
    known = t.known;
    word = t.word;
    ones = t.ones;
    are = t.are;
    read = λ check free.
        let found = by_places result (is_refused check t.word) t.ones (with_options s t.options) in
        let script = due_script book g check (span start count) s in
        reads_later script script found (leads_stays script stays) (t.read check free);
  }

stops_unless : {I G A : Type 0} (k : SourceOf I) (x y : Point I) (bad : Bool) (g : G) (a : A) → StopsAt k (unless_bad bad g a) x y
stops_unless k x y true g a = tt
stops_unless k x y false g a = tt

module _ {I : Type 0} {k : SourceOf I} (book : Book) (due : ℕ) (g : ℕ → Bool) (start count : ℕ) (s : State) {h : Gaggle}
    (are : AreIn h s.options) {x m y : Point I} (word : ℕ) (new : ℕ → Bool) {places : ℕ} (ones : AreOnes due word new start count places) where
  pub held_places : {bits : List Bool} → Stays k x m → Moves k m y bits →
      ((check : Check) → (length (filter g (span start count)) ≡ 0 → is_refused check 0 ≡ false) → (let o : State × (ℕ → Bool) = (s, new) in
      Says (due_script book g check (span start count) s) bits (unless_bad (is_refused check word) s o))) →
      HeldPlaces k book due g start count s (Ok (Some places)) h x y
  held_places {bits} stays moves says = record {
    options = s.options;
    known = are;
    word = word;
    ones = new;
    are = ones;
    read = λ check free. (let o : State × (ℕ → Bool) = (s, new) in record {
      bits = [] ++ bits;
      moves = moves_then stays moves;
      says = says check free;
      stops =
          stops_unless k x y (is_refused check word) s o;
    });
  }
