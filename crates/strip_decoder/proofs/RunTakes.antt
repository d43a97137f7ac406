-- A run through the text of a segment.
use Rattle.std.proofs.Common.{◌≡◌, ◌≤◌, ◌+◌, ◌/◌, ◌==◌, ℕ, ℤ, List, ◌++◌, refl, sym, ap, subst, ◌∙◌, inl, inr, arith, append_assoc, Bool, true, false}
use Rattle.std.proofs.Common.{Option, None, Some, is_some, MatchOption, Ok, IsErr}
use Rattle.std.proofs.lemmas.Bool.{cases_lt}
use Rattle.std.proofs.lemmas.Bool.Decides.{nat_tests}
use Rattle.std.proofs.lemmas.Nat.{div_below}
use Rattle.port_122.specs.Outside.{Outside}
use Rattle.wave_defs.specs.Held.{blocks_in}
use Rattle.segment_defs.specs.TextWish.{text_read}
use Rattle.segment_defs.specs.declared.head.SegmentHead.{SegmentHead}
use Rattle.packet_defs.specs.Streams.{whole_packets}
use Rattle.stream_defs.specs.declared.fate.FateState.{FateState}
use Rattle.stream_defs.specs.Fates.{fresh, after_all, kept}
use Rattle.stream_defs.specs.Begun.{end_of}
use Rattle.stream_defs.specs.Received.{IsReceived}
use Rattle.stream_defs.specs.Settled.{blocks_through}
use Rattle.stream_defs.proofs.ChosenLaws.{after_all-append}
use Rattle.packet_assembly.specs.declared.note.SegmentStart.{SegmentStart}
use Rattle.packet_assembly.specs.Assembling.{Assembling, BeginsNone, StaysOpen, last_index, is_closed, state_with}
use Rattle.packet_assembly.specs.Passing.{before_loses}
use Rattle.packet_assembly.proofs.Images.{end_begun, end_more, geometry_none, index_none}
use Rattle.packet_assembly.specs.Segments.{Continues}
use Rattle.packet_assembly.specs.Tails.{text_tail}
use Rattle.bit_pipe.specs.Sources.{Plainly}
use Rattle.strip_decoder.specs.Sinks.{SinkOf}
use Rattle.strip_decoder.specs.WalkSteps.{Walking, IsCurrent, passed_in}
use Rattle.strip_decoder.specs.Segments.{FitsImage, IsAt, ReadsText, cells_of}
use Rattle.strip_decoder.specs.Runs.{Run, holds_after, HasFew, HasWalkedTo, IsBegun, IsNextBegun, WalksIn, with_segment, future}
use Rattle.strip_decoder.proofs.Between.{arrives_next}
use Rattle.strip_decoder.proofs.Receiving.{there, there_is, is_received, not_received, open_received}
use Rattle.strip_decoder.proofs.Showing.{shows_same}
use Rattle.strip_decoder.proofs.Asking.{IsRight, few_same, future_past}
use Rattle.strip_decoder.proofs.RunFinds.{known_on, last_of, read_arrived, right_at}

-- what a segment's text was found to hold
abbrev pub value_of : Bool → SegmentHead → List ℤ → Option (List (List ℤ))
value_of true head cells = Some (blocks_in (cells_of head cells))
value_of false head cells = None

-- Its text was read, accepted or not, and it is known with these numbers or none.
pub record AfterText {S : Type 0} (k : SinkOf S) (w : Run) (now : Outside) (b : Assembling) (p : Walking S) (index : ℕ) (value : Option (List (List ℤ)))
    (ended : ℕ) : Type 0 where
  pub arrived : HasWalkedTo k w now b p (index + 1)
  pub value_is : arrived.known.sofar index ≡ value
  pub reach : ended ≤ end_of (kept w.apid fresh arrived.known.passed)
  pub last : b.held ≡ None → last_index b.state.last ≡ Some index
  pub small : b.held ≡ None → HasFew w.pixels w.apid arrived.known.passed
  pub begun : (next : SegmentStart) → b.held ≡ Some next → IsNextBegun w arrived.known.passed b.text next (index + 1)

module _ {S : Type 0} (k : SinkOf S) (w : Run) (now new : Outside) (a b : Assembling) (p : Walking S) (start : SegmentStart)
    (to : WalksIn k w now a p start) (current : IsCurrent k p) (at : IsAt a p start) (reached : passed_in p ≡ start.ancillary.first)
    (goes : Continues now new a b) where
  abbrev arrived : HasWalkedTo k w now a p start.ancillary.index
  arrived = to.to.arrived

  abbrev begun : IsBegun w.apid arrived.known.passed a.text start start.ancillary.index
  begun = to.to.begun

  abbrev unheld : a.held ≡ None
  unheld = at.unheld

  abbrev last : last_index a.state.last ≡ Some start.ancillary.index
  last = at.last

  abbrev fits : FitsImage p.geometry start
  fits = at.next.fits

  abbrev index : ℕ
  index = start.ancillary.index

  abbrev passed : List (List ℕ)
  passed = arrived.known.passed

  abbrev before : FateState
  before = there w.texts w.apid passed a start index begun arrived.known.read.apid arrived.known.read.state unheld

  -- the state after some packets of the text
  state_there : (packets : List (List ℕ)) → after_all w.apid before packets ≡ after_all a.apid a.state packets
  state_there packets =
      let there_now = there_is w.texts w.apid passed a start index begun arrived.known.read.apid arrived.known.read.state unheld in
      ap (λ s. after_all w.apid s packets) (sym there_now) ∙ ap (λ n. after_all n a.state packets) (sym arrived.known.read.apid)

  -- at each read call the segment is open, so it isn't received
  pub right : (octets more : List ℕ) → goes.passes.took ≡ octets ++ more → StaysOpen a (state_with a octets) → IsRight k w (arrived.took ++ octets) arrived.gave
  right octets more parts stays =
      let none = arrived.known.above index (omega arith) in
      let through : blocks_through p.geometry arrived.known.sofar index ≤ passed_in p = grind (arith, nat_tests, is_some) in
      right_at k w now new a b p index index goes.passed arrived goes.passes current at.image at.has.geometry at.goes_by to.small last octets more parts
      (stays.same ∙ last) through
      (λ i v le near x.
      let same : i ≡ index = omega (arith, le, near) in
      let state = state_there (whole_packets (a.intake.pending ++ octets)) in
      open_received w.texts w.apid passed a start index begun arrived.known.read.apid arrived.known.read.state unheld
      (whole_packets (a.intake.pending ++ octets)) v
      (ap (λ (s : FateState). last_index s.last) state ∙ stays.same ∙ last) (ap (λ (s : FateState). is_closed s.last) state ∙ stays.unclosed)
      (subst (λ i. IsReceived (holds_after w.texts) (kept w.apid fresh (passed ++ whole_packets (a.intake.pending ++ octets))) i v) same x))

  unfoldable pub went_arrived : HasWalkedTo k w new b p index
  went_arrived = read_arrived k w now new a b p index goes.passed arrived goes.passes right

  -- it is decided whether the segment is received, with these numbers or none
  abbrev Decides : Option (List (List ℤ)) → Type 0
  Decides value = (rest : List ℕ) → new.rest ≡ Some rest → (next more : List (List ℕ)) → future b rest ≡ next ++ more → MatchOption value
      ((v : List (List ℤ)) → IsReceived (holds_after w.texts) (kept w.apid fresh ((passed ++ goes.passed) ++ next)) index v → ⊥)
      (IsReceived (holds_after w.texts) (kept w.apid fresh ((passed ++ goes.passed) ++ next)) index)

  abbrev before_rest : List ℕ → List ℕ
  before_rest rest = goes.passes.took ++ rest

  known_before : (rest : List ℕ) → new.rest ≡ Some rest → now.rest ≡ Some (before_rest rest)
  known_before rest if_known = before_loses now.rest new.rest goes.passes.took rest goes.passes.since.rest if_known

  -- it is received
  decides_some : (v : List (List ℤ)) → b.held ≡ None → is_closed b.state.last ≡ true →
      ((rest : List ℕ) → now.rest ≡ Some rest → text_read w.texts start.head (text_tail a rest).octets ≡ Ok v) → Decides (Some v)
  decides_some v open_now closed holds rest if_known next more are =
      let state : after_all w.apid before goes.passed ≡ b.state = state_there goes.passed ∙ sym goes.passes.state in
      let stays = (goes.still open_now).1 ∙ last in
      subst (λ xs. IsReceived (holds_after w.texts) (kept w.apid fresh xs) index v) (sym (append_assoc passed goes.passed next))
      (is_received w.texts w.apid passed a start index begun arrived.known.read.apid arrived.known.read.state unheld (before_rest rest) goes.passed next
      (future b rest) v (future_past goes.passes rest if_known)
      (ap (λ (s : FateState). last_index s.last) state ∙ stays) (ap (λ (s : FateState). is_closed s.last) state ∙ closed)
      (holds (before_rest rest) (known_before rest if_known)))

  -- it isn't
  decides_none : ((rest : List ℕ) → now.rest ≡ Some rest → (text_tail a rest).ends ≡ Plainly →
      IsErr (text_read w.texts start.head (text_tail a rest).octets)) → Decides None
  decides_none refused rest if_known next more are v x =
      let all : future a (before_rest rest) ≡ (goes.passed ++ next) ++ more = future_past goes.passes rest if_known ∙ ap (λ xs. goes.passed ++ xs) are
      ∙ sym (append_assoc goes.passed next more) in
      not_received w.texts w.apid passed a start index begun arrived.known.read.apid arrived.known.read.state unheld (before_rest rest) (goes.passed ++ next)
      more
      v all (refused (before_rest rest) (known_before rest if_known))
      (subst (λ xs. IsReceived (holds_after w.texts) (kept w.apid fresh xs) index v) (append_assoc passed goes.passed next) x)

  segment_there : (value : Option (List (List ℤ))) → with_segment index value arrived.known.sofar index ≡ value
  segment_there value = let e : (index == index) ≡ true = grind (arith, nat_tests) in rw e refl

  segment_other : (value : Option (List (List ℤ))) (i : ℕ) → (i ≡ index → ⊥) → with_segment index value arrived.known.sofar i ≡ arrived.known.sofar i
  segment_other value i other = let e : (i == index) ≡ false = grind (arith, nat_tests) in rw e refl

  -- so the next segments are known, and the blocks so far are of them
  decided : (value : Option (List (List ℤ))) → Decides value → HasWalkedTo k w new b p (index + 1)
  unfolding known_on read_arrived went_arrived
  decided value decides = record {
    took = went_arrived.took;
    gave = arrived.gave;
    since = went_arrived.since;
    known = record {
      passed = passed ++ goes.passed;
      sofar = with_segment index value arrived.known.sofar;
      read = went_arrived.known.read;
      knows = λ rest if_known. record {
        at = λ next more are i lt. elim (cases_lt i index) [
          | inl low ↦ grind (arith, nat_tests, went_arrived, segment_other)
          | inr high ↦
              let same : index ≡ i = omega (arith, lt, high) in
              subst (λ i. MatchOption (with_segment index value arrived.known.sofar i) ((v : List (List ℤ)) →
              IsReceived (holds_after w.texts) (kept w.apid fresh ((passed ++ goes.passed) ++ next)) i v → ⊥)
              (IsReceived (holds_after w.texts) (kept w.apid fresh ((passed ++ goes.passed) ++ next)) i)) same
              (subst (λ o. MatchOption o ((v : List (List ℤ)) → IsReceived (holds_after w.texts) (kept w.apid fresh ((passed ++ goes.passed) ++ next)) index
              v → ⊥) (IsReceived (holds_after w.texts) (kept w.apid fresh ((passed ++ goes.passed) ++ next)) index))
              (sym (segment_there value)) (decides rest if_known next more are))
        ];
      };
      above = λ i le. segment_other value i (λ e. omega (arith, e, le)) ∙ arrived.known.above i (omega (arith, le));
      at_end = went_arrived.known.at_end;
    };
    shows = shows_same k p arrived.known.sofar (with_segment index value arrived.known.sofar) arrived.gave
        (λ block lt.
        let below = div_below block p.geometry.segment index (omega (arith, current.range.segment.0)) (omega (arith, lt, reached, fits.first)) in
        sym (segment_other value (block / p.geometry.segment) (λ e. omega (arith, e, below)))) arrived.shows;
    few = grind (arith, nat_tests);
    begun = went_arrived.begun;
  }

  -- no pixels were reported unless the next segment was begun
  few_passed : (prefix : List (List ℕ)) → BeginsNone a.apid a.state prefix → HasFew w.pixels w.apid (passed ++ prefix)
  few_passed prefix none =
      let there_too : after_all a.apid a.state prefix ≡ after_all w.apid (after_all w.apid fresh passed) prefix =
      ap (λ n. after_all n a.state prefix) arrived.known.read.apid ∙ ap (λ s. after_all w.apid s prefix) arrived.known.read.state in
      few_same w.pixels w.apid passed prefix to.small
      (ap (λ (s : FateState). last_index s.last) (sym there_too) ∙ index_none a.apid a.state prefix none ∙ ap (λ (s : FateState). last_index s.last)
      arrived.known.read.state)

  -- the next segment may have been begun
  begun_next : (next : SegmentStart) → b.held ≡ Some next → IsNextBegun w (passed ++ goes.passed) b.text next (index + 1)
  begun_next next held =
      let began = goes.began unheld next held in
      let there_too : after_all a.apid a.state began.prefix ≡ after_all w.apid fresh (passed ++ began.prefix) = grind (arith, nat_tests, after_all-append) in
      let same : last_index (after_all w.apid fresh (passed ++ began.prefix)).last ≡ Some index = ap (λ (s : FateState). last_index s.last) (sym there_too)
      ∙ index_none a.apid a.state began.prefix began.none_before ∙ last in
      let arrives = arrives_next a began.prefix began.packet next at.image index at.has last began.none_before began.starts in
      record {
        begun = grind (arith, nat_tests, append_assoc, last_of);
        few = few_passed began.prefix began.none_before;
        image = at.image;
        geometry = ap (λ (s : FateState). s.geometry) (sym there_too) ∙ geometry_none a.apid a.state began.prefix began.none_before ∙ at.has.geometry;
      }

  pub after_text : (value : Option (List (List ℤ))) → Decides value → AfterText k w new b p index value (end_of (kept w.apid fresh passed))
  unfolding decided
  after_text value decides = record {
    arrived = decided value decides;
    value_is = segment_there value;
    reach = end_more w.apid passed goes.passed;
    last = λ e. (goes.still e).1 ∙ last;
    small = λ e. few_passed goes.passed (goes.begins_none e);
    begun = begun_next;
  }

-- the kept heads reach the end of a segment that was begun
pub begun_end : (apid : ℕ) (passed : List (List ℕ)) (text : List ℕ) (start : SegmentStart) (bound : ℕ) → (b : IsBegun apid passed text start bound) →
    end_of (kept apid fresh passed) ≡ start.ancillary.first + start.head.blocks
begun_end apid passed text start bound b = ap (λ xs. end_of (kept apid fresh xs)) b.passed_are ∙ end_begun apid b.before b.packet start b.starts

reached_text : {S : Type 0} (k : SinkOf S) (w : Run) (now new : Outside) (a b : Assembling) (p : Walking S) (start : SegmentStart) →
    (to : WalksIn k w now a p start) → (value : Option (List (List ℤ))) →
    AfterText k w new b p start.ancillary.index value (end_of (kept w.apid fresh to.to.arrived.known.passed)) →
    AfterText k w new b p start.ancillary.index value (start.ancillary.first + start.head.blocks)
reached_text k w now new a b p start to value after =
    subst (AfterText k w new b p start.ancillary.index value) (begun_end w.apid to.to.arrived.known.passed a.text start start.ancillary.index to.to.begun) after

-- its text was read
pub text_known : {S : Type 0} (k : SinkOf S) (w : Run) (now new : Outside) (a b : Assembling) (p : Walking S) (start : SegmentStart) →
    WalksIn k w now a p start → IsCurrent k p → IsAt a p start → passed_in p ≡ start.ancillary.first →
    (accepted : Bool) (cells : List ℤ) → ReadsText w.texts now new a b start.head cells (Ok accepted) →
    AfterText k w new b p start.ancillary.index (value_of accepted start.head cells) (start.ancillary.first + start.head.blocks)
text_known k w now new a b p start to current at reached true cells reads =
    let v = blocks_in (cells_of start.head cells) in
    reached_text k w now new a b p start to (Some v) (after_text k w now new a b p start to current at reached reads.goes (Some v)
    (decides_some k w now new a b p start to current at reached reads.goes v reads.unheld reads.closed (λ rest if_known. (reads.if_known rest if_known).1)))
text_known k w now new a b p start to current at reached false cells reads =
    reached_text k w now new a b p start to None (after_text k w now new a b p start to current at reached reads.goes None
    (decides_none k w now new a b p start to current at reached reads.goes reads.if_known))
