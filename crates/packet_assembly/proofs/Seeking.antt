-- The search for the next segment, packet by packet.
use Rattle.std.proofs.lemmas.Bool.Decides.{nat_tests}
use Rattle.std.proofs.Common.{arith, ◌≡◌, inr, [], ◌∷◌, ◌++◌, refl, sym, ap, subst, ◌∙◌, Some, None, Ok, Err, false, append-nil}
use Rattle.bit_pipe.specs.declared.fault.InFault.{InFault}
use Rattle.bit_pipe.specs.declared.fault.InFault.TheVariants.{ReadFault, LongInput, Broken}
use Rattle.port_122.specs.Outside.{Outside}
use Rattle.port_122.proofs.Stretches.{rose_since}
use Rattle.stream_defs.specs.Fates.{after_all}
use Rattle.packet_assembly.specs.declared.note.Passed.{Passed}
use Rattle.packet_assembly.specs.declared.note.SegmentStart.{SegmentStart}
use Rattle.packet_assembly.specs.Assembling.{Assembling, Starts, is_first, last_index, Passes, StaysAt}
use Rattle.packet_assembly.specs.Notes.{PassesNext}
use Rattle.packet_assembly.specs.Segments.{FoundNone, FindsSegment, EndsSegment, IsValidEnded, IsValidLong}
use Rattle.packet_assembly.specs.Passing.{passes_none, passes_then}
use Rattle.packet_assembly.proofs.KeptPackets.{none_first, some_first, stays, begins_more}
use Rattle.packet_assembly.proofs.Again.{ended_again, long_again}
use Rattle.packet_assembly.proofs.OneStep.{NoneOn, FailsStep, one_on, end_on, fail_on}

found_nothing : (p : Outside) (a : Assembling) → a.held ≡ None → FoundNone p p a a
found_nothing p a none = record { none_held = none; passed = []; passes = passes_none p a; none_begins = tt; stays = refl; none_after = none }

-- no packet so far began a segment; if none can follow, none was passed
pub record Sought (old new : Outside) (a b : Assembling) : Type 0 where
  pub found : FoundNone old new a b
  pub ended : IsValidEnded a → IsValidEnded b
  pub long : IsValidLong a → IsValidLong b

pub sought_nothing : (p : Outside) (a : Assembling) → a.held ≡ None → Sought p p a a
sought_nothing p a none = record { found = found_nothing p a none; ended = λ e. e; long = λ e. e }

found_more : {old mid new : Outside} {a b c : Assembling} {if_known : Passed} → FoundNone old mid a b → PassesNext mid new b c (Ok (Some if_known)) →
    if_known.start ≡ None → FoundNone old new a c
found_more {a = a} {b = b} {c = c} {if_known = if_known} x next none =
    let one = one_on {P = StaysAt b} next refl in
    let first : is_first b.apid b.state one.packet ≡ false = none_first b.apid b.state one.packet (sym (ap (λ (t : Passed). t.start) one.known_is) ∙ none) in
    let there : is_first a.apid (after_all a.apid a.state x.passed) one.packet ≡ false = grind (arith, nat_tests) in
    let same : StaysAt b c.state = ap (λ s. last_index s.last) one.state ∙ stays b.apid b.state one.packet first in
    record {
      none_held = x.none_held;
      passed = x.passed ++ one.packet ∷ [];
      passes = passes_then (λ s e. e ∙ x.stays) x.passes one.passes;
      none_begins = begins_more a.apid a.state x.passed one.packet x.none_begins there;
      stays = same ∙ x.stays;
      none_after = one.held ∙ x.none_after;
    }

pub sought_more : {old mid new : Outside} {a b c : Assembling} {if_known : Passed} → Sought old mid a b → PassesNext mid new b c (Ok (Some if_known)) →
    if_known.start ≡ None → Sought old new a c
sought_more x next none = record {
  found = found_more x.found next none;
  ended = λ e. absurd (let none_arrives = ended_again next (x.ended e) in cc);
  long = λ e. absurd (let none_arrives = long_again next (x.long e) in cc);
}

pub sought_one : {old mid new : Outside} {a b c : Assembling} {if_known : Passed} {start : SegmentStart} → Sought old mid a b →
    PassesNext mid new b c (Ok (Some if_known)) → if_known.start ≡ Some start →
    FindsSegment old new a c (Ok (Some start))
sought_one {a = a} {b = b} {c = c} {if_known = if_known} {start = start} y next some =
    let x = y.found in
    let one = one_on {P = StaysAt b} next refl in
    let found = some_first b.apid b.state one.packet start (sym (ap (λ (t : Passed). t.start) one.known_is) ∙ some) in
    let starts : Starts a.apid (after_all a.apid a.state x.passed) one.packet start = grind (arith, nat_tests) in
    record {
      ends = inr (record {
        none_held = x.none_held;
        prefix = x.passed;
        packet = one.packet;
        passed = passes_then (λ s e. e ∙ x.stays) x.passes one.passes;
        none_before = x.none_begins;
        starts = starts;
        text = one.text ∙ found.text;
        none_after = one.held ∙ x.none_after;
      });
      ended = λ _ e. absurd (let none_arrives = ended_again next (y.ended e) in cc);
      long = λ _ e. absurd (let none_arrives = long_again next (y.long e) in cc);
    }

sought_end : {old mid new : Outside} {a b c : Assembling} → FoundNone old mid a b → NoneOn (StaysAt b) mid new b c → FoundNone old new a c
sought_end {old = old} {new = new} {a = a} {c = c} x none = record {
  none_held = x.none_held;
  passed = x.passed;
  passes = subst (λ ps. Passes (StaysAt a) old new a c ps) (append-nil x.passed) (passes_then (λ s e. e ∙ x.stays) x.passes none.passes);
  none_begins = x.none_begins;
  stays = ap (λ s. last_index s.last) none.state ∙ x.stays;
  none_after = none.held ∙ x.none_after;
}

pub sought_none : {old mid new : Outside} {a b c : Assembling} → Sought old mid a b → PassesNext mid new b c (Ok None) → FindsSegment old new a c (Ok None)
sought_none {b = b} x next = let over = end_on {P = StaysAt b} next refl in record {
  ends = (sought_end x.found over.none, over.ended);
  ended = λ _ e. refl;
  long = λ _ e. absurd (let long_arrives = long_again next (x.long e) in cc);
}

failed_so : {old mid new : Outside} {a b c : Assembling} (fault : InFault) → FoundNone old mid a b → FoundNone old new a c → FailsStep fault mid new c →
    EndsSegment old new a c (Err fault)
failed_so ReadFault before now fails = (now, rose_since before.passes.since.faults.reads fails)
failed_so LongInput before now fails = (now, fails)
failed_so Broken before now fails = fails

pub sought_failed : {old mid new : Outside} {a b c : Assembling} (fault : InFault) → Sought old mid a b → PassesNext mid new b c (Err fault) →
    FindsSegment old new a c (Err fault)
sought_failed {b = b} fault x next = let over = fail_on {P = StaysAt b} next refl in record {
  ends = failed_so fault x.found (sought_end x.found over.none) over.fails;
  ended = λ _ e. absurd (let none_arrives = ended_again next (x.ended e) in cc);
  long = λ _ e. let long_arrives = long_again next (x.long e) in cc;
}
