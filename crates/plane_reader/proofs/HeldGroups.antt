-- Groups of four positions, one after another.
use Rattle.std.proofs.Common.{◌≡◌, ℕ, zero, suc, ◌+◌, ◌-◌, ◌*◌, ◌<◌, ◌≤◌, ◌==◌, inl, inr, List, [], ◌∷◌, length, filter, Bool, true, false, if◌then◌else◌}
use Rattle.std.proofs.Common.{refl, sym, ap, ◌∙◌, subst, arith, Some, None, Ok, Err, Option, Result}
use Rattle.std.proofs.Math.Bool.{or-false}
use Rattle.std.proofs.lemmas.Bool.{cases_lt}
use Rattle.std.proofs.lemmas.Nat.Bits.{bit_at_above}
use Rattle.item_defs.specs.Bits.{bit, bits_of}
use Rattle.base_122.specs.declared.book.Book.{Book}
use Rattle.plane_defs.specs.Spans.{span}
use Rattle.plane_defs.specs.Steps.{some_one_where}
use Rattle.block_masks.specs.declared.gaggle.Gaggle.{Gaggle}
use Rattle.block_masks.proofs.LaneMasks.{shows_same}
use Rattle.bit_pipe.specs.declared.fault.TextFault.{TextFault}
use Rattle.bit_pipe.specs.Sources.{SourceOf}
use Rattle.bit_pipe.specs.SourceState.{IsIn}
use Rattle.item_defs.specs.Scripts.{Script, done, then_ask, in_turn, run}
use Rattle.bit_pipe.specs.ScriptSources.{Gets, got, ends, by_fault}
use Rattle.plane_defs.specs.States.{State, with_bits}
use Rattle.plane_defs.specs.WordScripts.{word_script, ones, signs_script, types_script, group_script}
use Rattle.plane_reader.specs.declared.found.Found.{Found}
use Rattle.plane_reader.specs.Takes.{IsState, Marks}
use Rattle.plane_reader.specs.Groups.{Covers}
use Rattle.plane_reader.specs.Held.{Point, ReadsFrom, LeadsTo}
use Rattle.plane_reader.specs.HeldTakes.{HeldState}
use Rattle.plane_reader.proofs.HeldReads.{moves_start, leads_start, leads_then, leads_got, reads_later, reads_done, reads_gets, reads_cut, reads_fault}
use Rattle.plane_reader.proofs.TypeReads.{same_filter}
use Rattle.plane_reader.proofs.SmallTests.{never}

-- ---- no type is due, and none must be 1

no_positions : (positions : List ℕ) → filter (λ p. false) positions ≡ []
no_positions [] = refl
no_positions (p ∷ ps) = no_positions ps

-- a state in which nothing is new
abbrev same_state : State → State
same_state s = with_bits s (λ p. false)

same_is : {h : Gaggle} {f : Found} {s : State} → IsState h f s → IsState h f (same_state s)
same_is {s = s} is = record { options = is.options; bits = shows_same (λ p. sym (or-false (s.bits p))) is.bits; minus = is.minus; raw = is.raw }

nothing_read : (book : Book) (g : ℕ → Bool) (start n : ℕ) → ((k : ℕ) → k < n → g (start + k) ≡ false) → (s : State) →
    Gets (types_script book g false (span start n) s) [] (same_state s)
nothing_read book g start n none s more =
    let empty : filter g (span start n) ≡ [] = same_filter g (λ p. false) start n none ∙ no_positions (span start n) in
    ap (λ (l : List ℕ). run (then_ask (then_ask (word_script book (length l) (some_one_where false) s) (λ (w : State × ℕ). done (let o : State × (ℕ → Bool) =
    (w.0, ones l (bits_of (length l) w.1)) in o)))
    (λ (r : State × (ℕ → Bool)). signs_script (filter r.1 (span start n)) (with_bits r.0 r.1))) more) empty ∙
    ap (λ l. run (signs_script l (same_state s)) more) (no_positions (span start n))

-- ---- in turn

module _ {I S : Type 0} {k : SourceOf I} (all : Script S S) (item : ℕ → S → Script S S) (j m : ℕ) (s : S) {old now : Point I} (l : LeadsTo k all
    (in_turn item j m s) old now) where
  pub turn_all : m ≡ 0 → ReadsFrom k all (got s) old now
  turn_all none = reads_done all s (subst (λ c. LeadsTo k all (in_turn item j c s) old now) none l)

  module _ (n : ℕ) (e : m ≡ suc n) where
    turn_is : LeadsTo k all (then_ask (item j s) (in_turn item (suc j) n)) old now
    turn_is = subst (λ c. LeadsTo k all (in_turn item j c s) old now) e l

    pub turn_more : (t : S) {last : Point I} → ReadsFrom k (item j s) (got t) now last → LeadsTo k all (in_turn item (suc j) n t) old last
    turn_more t p = leads_then all (then_ask (item j s) (in_turn item (suc j) n)) (in_turn item (suc j) n t) turn_is (leads_got (item j s) (in_turn item
        (suc j) n) t p)

    pub turn_fault : (fault : TextFault) (t : S) {last : Point I} → ReadsFrom k (item j s) (by_fault fault t) now last →
        ReadsFrom k all (by_fault fault t) old last
    turn_fault fault t p = reads_later all (then_ask (item j s) (in_turn item (suc j) n)) (by_fault fault t) turn_is (reads_fault (item j s) (in_turn item
        (suc j) n) t fault p)

    pub turn_cut : (t : S) {last : Point I} → ReadsFrom k (item j s) (ends t) now last → ReadsFrom k all (ends t) old last
    turn_cut t p = reads_later all (then_ask (item j s) (in_turn item (suc j) n)) (ends t) turn_is (reads_cut (item j s) (in_turn item (suc j) n) t p)

pub zero_bit : (q : ℕ) → bit 0 q ≡ false
zero_bit q = ap (λ x. x == 1) (bit_at_above 0 0 q (omega arith) (omega arith))

-- ---- groups

module _ (book : Book) (g now wanted : ℕ → Bool) (first count due : ℕ) (marks : Marks due g first (4 * count)) where
  abbrev group : ℕ → State → Script State State
  group = group_script book g first now wanted

  -- the marks of a group
  pub group_marks : (j : ℕ) → j < count → Marks due g (first + 4 * j) 4
  group_marks j lt k low =
      let e : first + 4 * j + k ≡ first + (4 * j + k) = omega arith in
      ap (bit due) e ∙ marks (4 * j + k) (omega (arith, lt, low)) ∙ ap g (sym e)

  module _ {mask : ℕ} (covers : Covers first count now wanted due mask) where
    -- a group that is not in the mask
    pub group_skipped : {h : Gaggle} {f : Found} (j : ℕ) → j < count → bit mask j ≡ false → (s : State) → IsState h f s →
        (t : State) × IsState h f t × Gets (group j s) [] t
    group_skipped {h} {f} j lt off s is = here (now j) refl
      where
        here : (b : Bool) → now j ≡ b → (t : State) × IsState h f t × Gets (group j s) [] t
        here false e = (s, is, λ more. ap (λ b. run (if b then types_script book g (wanted j) (span (first + 4 * j) 4) s else done s) more) e)
        here true e =
            let nothing = covers.others j lt off e in (
              same_state s,
              same_is is,
              λ more.
                  ap (λ b. run (if b then types_script book g (wanted j) (span (first + 4 * j) 4) s else done s) more) e ∙
                  ap (λ w. run (types_script book g w (span (first + 4 * j) 4) s) more) nothing.unwanted ∙
                  nothing_read book g (first + 4 * j) 4 (λ k low. sym (group_marks j lt k low) ∙ sym (nothing.none.at k low) ∙ zero_bit k) s more,
            )

    -- a group that is in the mask
    pub group_on : (j : ℕ) → j < count → bit mask j ≡ true → (s : State) → group j s ≡ types_script book g (wanted j) (span (first + 4 * j) 4) s
    group_on j lt on s = ap (λ b. if b then types_script book g (wanted j) (span (first + 4 * j) 4) s else done s) (covers.sent j lt on)

-- the groups below n were read, and these of the mask are left
pub record GroupsLeft {I : Type 0} (k : SourceOf I) (all : Script State State) (item : ℕ → State → Script State State) (count mask left : ℕ) (h : Gaggle)
    (f : Found) (old now : Point I) : Type 0 where
  pub n : ℕ
  pub within : n ≤ count
  pub kept : (p : ℕ) → n ≤ p → p < 64 → bit left p ≡ bit mask p
  pub gone : (p : ℕ) → p < n → bit left p ≡ false
  pub state : State
  pub is : IsState h f state
  pub rest : LeadsTo k all (in_turn item n (count - n) state) old now

module _ {I : Type 0} {k : SourceOf I} {all : Script State State} {item : ℕ → State → Script State State} {count mask : ℕ} (within
    : count ≤ 64) {h : Gaggle} {f : Found}
    (skips : (j : ℕ) → j < count → bit mask j ≡ false → (s : State) → IsState h f s → (t : State) × IsState h f t × Gets
    (item j s) [] t) {left : ℕ} {old now : Point I} (i : IsIn now.input) where
  skip_one : (l : GroupsLeft k all item count mask left h f old now) → l.n < count → bit left l.n ≡ false →
      (m : GroupsLeft k all item count mask left h f old now) × (m.n ≡ l.n + 1)
  skip_one l lt off =
      let x = skips l.n lt (sym (l.kept l.n (omega arith) (omega (arith, lt, within))) ∙ off) l.state l.is in
      let more : suc l.n ≡ l.n + 1 = omega arith in
      let fewer : count - l.n ≡ suc (count - (l.n + 1)) = omega (arith, lt) in (
        record {
          n = l.n + 1;
          within = omega (arith, lt);
          kept = λ p le. l.kept p (omega (arith, le));
          gone = λ p low. elim (cases_lt p l.n) [
            | inl less ↦ l.gone p less
            | inr ge ↦ let e : p ≡ l.n = omega (arith, low, ge) in ap (bit left) e ∙ off
          ];
          state = x.0;
          is = x.1;
          rest = subst (λ z. LeadsTo k all (in_turn item z (count - (l.n + 1)) x.0) old now) more (turn_more all item l.n (count - l.n) l.state l.rest
              (count - (l.n + 1)) fewer x.0 (reads_gets (item l.n l.state) x.0 x.2 (moves_start i)));
        },
        refl,
      )

  skip_to : (more n : ℕ) (l : GroupsLeft k all item count mask left h f old now) → l.n + more ≡ n → n ≤ count → ((q : ℕ) → q < n → bit left q ≡ false) →
      (m : GroupsLeft k all item count mask left h f old now) × (m.n ≡ n)
  skip_to zero n l e le none = (l, omega (arith, e))
  skip_to (suc more) n l e le none =
      let x = skip_one l (omega (arith, e, le)) (none l.n (omega (arith, e))) in
      skip_to more n x.0 (omega (arith, e, x.1)) le none

  -- none is left
  pub groups_done : (l : GroupsLeft k all item count mask left h f old now) → left ≡ 0 → ((q : ℕ) → bit 0 q ≡ false) → HeldState {X =
      Unit {0}} k all (Ok (Some tt)) h f old now
  groups_done l e zero_bits =
      let x = skip_to (count - l.n) count l (omega (arith, l.within)) (omega arith) (λ q lt. ap (λ m. bit m q) e ∙ zero_bits q) in
      record { now = x.0.state; is = x.0.is; read = turn_all all item x.0.n (count - x.0.n) x.0.state x.0.rest (omega (arith, x.1)) }

  -- up to the first group that is left
  pub reach : (l : GroupsLeft k all item count mask left h f old now) (j : ℕ) → j < count → bit left j ≡ true → ((q : ℕ) → q < j → bit left q ≡ false) →
      (m : GroupsLeft k all item count mask left h f old now) × (m.n ≡ j)
  reach l j lt here before = skip_to (j - l.n) j l (omega (arith, passed)) (omega (arith, lt)) before
    where
      passed : l.n ≤ j
      passed = elim (cases_lt j l.n) [
        | inl less ↦ absurd (never (sym here ∙ l.gone j less))
        | inr ge ↦ ge
      ]

fewer_left : (n j count : ℕ) → n ≡ j → j < count → count - n ≡ suc (count - (j + 1))
fewer_left n j count e lt = omega (arith, e, lt)

module _ {I : Type 0} {k : SourceOf I} {all : Script State State} {item : ℕ → State →
    Script State State} {count mask left : ℕ} {h : Gaggle} {f : Found} {old now : Point I} (m : GroupsLeft k all item count mask left h f old now) (j : ℕ)
    (e : m.n ≡ j) (lt : j < count) {h' : Gaggle} {f' : Found} {last : Point I} where
  pub group_fault : (fault : TextFault) → HeldState {X = Unit {0}} k (item m.n m.state) (Err fault) h' f' now last → HeldState {X =
      Unit {0}} k all (Err fault) h' f' old last
  group_fault fault t = record {
    now = t.now;
    is = t.is;
    read = turn_fault all item m.n (count - m.n) m.state m.rest (count - (j + 1))
        (fewer_left m.n j count e lt) fault t.now t.read;
  }

  pub group_cut : HeldState {X = Unit {0}} k (item m.n m.state) (Ok None) h' f' now last → HeldState {X = Unit {0}} k all (Ok None) h' f' old last
  group_cut t = record {
    now = t.now;
    is = t.is;
    read = turn_cut all item m.n (count - m.n) m.state m.rest (count - (j + 1))
        (fewer_left m.n j count e lt) t.now t.read;
  }

  pub group_read : count ≤ 64 → ((q : ℕ) → q < j → bit left q ≡ false) → (rest : ℕ) → bit rest j ≡ false → ((p : ℕ) → p < 64 → (p ≡ j → ⊥) →
      bit rest p ≡ bit left p) → HeldState {X = Unit {0}} k (item m.n m.state) (Ok (Some tt)) h' f' now last →
      GroupsLeft k all item count mask rest h' f' old last
  group_read within before rest gone others t =
      let more : suc m.n ≡ j + 1 = omega (arith, e) in
      record {
        n = j + 1;
        within = omega (arith, lt);
        kept = λ p le low. others p low (λ same. omega (arith, same, le)) ∙ m.kept p (omega (arith, le, e)) low;
        gone = λ p low. elim (cases_lt p j) [
          | inl less ↦ others p (omega (arith, less, lt, within)) (λ same. omega (arith, same, less)) ∙ before p less
          | inr ge ↦ let same : p ≡ j = omega (arith, low, ge) in ap (bit rest) same ∙ gone
        ];
        state = t.now;
        is = t.is;
        rest = subst (λ z. LeadsTo k all (in_turn item z (count - (j + 1)) t.now) old last) more (turn_more all item m.n (count - m.n) m.state m.rest (count -
            (j + 1)) (fewer_left m.n j count e lt) t.now t.read);
      }

pub groups_start : {I : Type 0} {k : SourceOf I} (item : ℕ → State → Script State State) (count mask : ℕ) {h : Gaggle} {f : Found} (s : State) {a : Point I} →
    IsIn a.input → IsState h f s → GroupsLeft k (in_turn item 0 count s) item count mask mask h f a a
groups_start {k = k} item count mask s {a} i is =
    let e : count ≡ count - 0 = omega arith in
    record {
      n = 0;
      within = omega arith;
      kept = λ p le low. refl;
      gone = λ p low. absurd (omega (arith, low));
      state = s;
      is = is;
      rest =
          subst (λ c. LeadsTo k (in_turn item 0 count s) (in_turn item 0 c s) a a) e (leads_start (in_turn item 0 count s) i);
    }

-- the call for a group of the mask
module _ (book : Book) (g now wanted : ℕ → Bool) (first count due : ℕ) (marks : Marks due g first (4 * count)) {mask : ℕ}
    (covers : Covers first count now wanted due mask) (within : count ≤ 64)
    {I : Type 0} {k : SourceOf I} {all : Script State State} {left : ℕ} {h : Gaggle} {f : Found} {old here : Point I} (m : GroupsLeft k all
    (group_script book g first now wanted) count mask left h f old here) (j : ℕ) (e : m.n ≡ j) (lt : j < count) (on : bit left j ≡ true)
    (has : Bool) (flag : has ≡ wanted j) {result : Result (Option (Unit {0})) TextFault} {h' : Gaggle} {f' : Found} {last : Point I} where
  pub group_called : ((s : State) (g' : ℕ → Bool) → IsState h f s → Marks due g' (first + 4 * j) 4 → HeldState k (types_script book g' has (span
      (first + 4 * j) 4) s) result h' f' here last) → HeldState k (group_script book g first now wanted m.n m.state) result h' f' here last
  group_called types =
      let is_in : bit mask j ≡ true = sym (m.kept j (omega (arith, e)) (omega (arith, lt, within))) ∙ on in
      let call = subst (λ w. HeldState k (types_script book g w (span (first + 4 * j) 4) m.state) result h' f' here last) flag (types m.state g m.is
      (group_marks book g now wanted first count due marks j lt)) in
      subst (λ n. HeldState k (group_script book g first now wanted n m.state) result h' f' here last) (sym e)
      (subst (λ r. HeldState k r result h' f' here last) (sym (group_on book g now wanted first count due marks covers j lt is_in m.state)) call)
