-- A text that continues, packet by packet.
use Rattle.std.proofs.Common.{◌≡◌, [], ◌∷◌, refl, sym, ap, subst, ◌∙◌, arith, true, false, is_some, Option, None, Some, Ok, Err}
use Rattle.std.proofs.lemmas.Bool.Decides.{nat_tests}
use Rattle.bit_pipe.specs.declared.fault.InFault.{InFault}
use Rattle.bit_pipe.specs.declared.fault.InFault.TheVariants.{ReadFault, LongInput, Broken}
use Rattle.bit_pipe.specs.Sources.{TooLong, InPieces}
use Rattle.port_122.specs.Outside.{Outside}
use Rattle.port_122.proofs.Stretches.{since_start, rose_since, loses_start}
use Rattle.packet_assembly.specs.declared.note.Passed.{Passed}
use Rattle.packet_assembly.specs.declared.note.SegmentStart.{SegmentStart}
use Rattle.packet_assembly.specs.Assembling.{Assembling, Passes, StaysAt, StaysOpen, is_closed, last_index}
use Rattle.packet_assembly.specs.Notes.{PassesNext}
use Rattle.packet_assembly.specs.Segments.{Continues, BeganAt}
use Rattle.packet_assembly.specs.Passing.{goes_nowhere, goes_both}
use Rattle.packet_assembly.specs.Tails.{known_tail}
use Rattle.packet_assembly.specs.Texts.{ArrivesSo, FailsSo, FillsText, Silent}
use Rattle.packet_assembly.proofs.NoneReady.{Quiet, quiet_nothing, quiet_then, quiet_more}
use Rattle.packet_assembly.proofs.KeptPackets.{none_first, some_first, stays}
use Rattle.packet_assembly.proofs.OneStep.{NoneOn, FailsStep, one_on, end_on, fail_on, passes_as}
use Rattle.packet_assembly.proofs.TailSteps.{tail_broken, tail_goes_on, tail_same, tail_ended, tail_long, arrives_none, over_known, arrives_then}

-- packets were passed within a text, and no octet of it was given
pub record Filled (old new : Outside) (a b : Assembling) : Type 0 where
  pub goes : Continues old new a b
  pub quiet : Quiet old new a b
  pub arrives : ArrivesSo old new a b []
  pub unheld : b.held ≡ None

arrives_same : (p : Outside) (a : Assembling) → ArrivesSo p p a a []
arrives_same p a = arrives_none p p a a [] (loses_start p.rest) (λ rest is. refl)

pub filled_nothing : (p : Outside) (a : Assembling) → a.held ≡ None → Filled p p a a
filled_nothing p a unheld = record { goes = goes_nowhere p a; quiet = quiet_nothing p a unheld; arrives = arrives_same p a; unheld = unheld }

pub not_some : (o : Option SegmentStart) → is_some o ≡ false → o ≡ None
not_some o e = grind (arith, nat_tests)

-- another segment was begun before
pub filled_held : (p : Outside) (a : Assembling) → is_some a.held ≡ true → FillsText p p a a (Err Broken)
filled_held p a held = record {
  goes = goes_nowhere p a;
  silent = record { took = []; asks = since_start p _ };
  arrives = arrives_same p a;
  unheld = tt;
  closed = λ e. absurd (let no : Err Broken ≡ Ok false = e in cc);
  ends = over_known p a InPieces (λ rest is. rw held refl);
}

open_now : (b : Assembling) → b.held ≡ None → is_closed b.state.last ≡ false → StaysOpen b b.state
open_now b unheld going = record { unheld = unheld; unclosed = going; same = refl }

-- ---- a packet more

module _ {old mid new : Outside} {a b c : Assembling} {if_known : Passed} (x : Filled old mid a b) (empty : b.text ≡ [])
    (going : is_closed b.state.last ≡ false)
    (next : PassesNext mid new b c (Ok (Some if_known))) where
  pub filled_more : if_known.start ≡ None → Filled old new a c
  filled_more none =
      let one = one_on {P = StaysOpen b} next (open_now b x.unheld going) in
      let first = none_first b.apid b.state one.packet (sym (ap (λ (t : Passed). t.start) one.known_is) ∙ none) in
      let same : StaysAt b c.state = ap (λ s. last_index s.last) one.state ∙ stays b.apid b.state one.packet first in
      let goes : Continues mid new b c = record {
        passed = one.packet ∷ [];
        passes = one.passes;
        still = λ e. (x.unheld, same);
        begins_none =
            λ e. (first, tt);
        began = λ e start h. absurd (let no : None ≡ Some start = sym (one.held ∙ x.unheld) ∙ h in cc);
        held_on =
            λ start h. absurd (let no : None ≡ Some start = sym x.unheld ∙ h in cc);
      } in
      record {
        goes = goes_both x.goes goes;
        quiet = quiet_more x.quiet empty going one first;
        arrives = arrives_then (known_tail old a) (known_tail mid b) (known_tail new c) [] [] x.arrives
            (arrives_none mid new b c one.passes.took one.passes.since.rest (λ rest is. tail_goes_on one rest is x.unheld empty going none));
        unheld = one.held ∙ x.unheld;
      }

  -- another segment was begun
  pub filled_other : (start : SegmentStart) → if_known.start ≡ Some start → FillsText old new a (record c { held = Some start }) (Err Broken)
  filled_other start some =
      let one = one_on {P = StaysOpen b} next (open_now b x.unheld going) in
      let p = one.passes in
      let passes : Passes (StaysOpen b) mid new b (record c { held = Some start }) (one.packet ∷ []) = passes_as c.text (Some start) p in
      let begins = some_first b.apid b.state one.packet start (sym (ap (λ (t : Passed). t.start) one.known_is) ∙ some) in
      let began : BeganAt b (one.packet ∷ []) start c.text = record {
        prefix = [];
        packet = one.packet;
        passed_are = refl;
        none_before = tt;
        starts =
            begins.starts;
        text_is = one.text ∙ begins.text;
      } in
      let goes : Continues mid new b (record c { held = Some start }) = record {
        passed = one.packet ∷ [];
        passes = passes;
        still = λ e. absurd (let no : Some start ≡ None = e in cc);
        begins_none = λ e. absurd (let no : Some start ≡ None = e in cc);
        began = λ e s h. let same : start ≡ s = cc in subst (λ (s : SegmentStart). BeganAt b (one.packet ∷ []) s c.text) same began;
        held_on = λ s h. absurd (let no : None ≡ Some s = sym x.unheld ∙ h in cc);
      } in
      record {
        goes = goes_both x.goes goes;
        silent = quiet_then x.quiet empty going p.took one.asks;
        arrives = arrives_then (known_tail old a) (known_tail mid b) (known_tail new (record c { held = Some start })) [] [] x.arrives
            (arrives_none mid new b (record c { held = Some start }) p.took p.since.rest (λ rest is. tail_broken one rest is x.unheld empty going start some));
        unheld = tt;
        closed = λ e. absurd (let no : Err Broken ≡ Ok false = e in cc);
        ends = over_known new (record c { held = Some start }) InPieces (λ rest is. refl);
      }

-- ---- no packet

module _ {old mid new : Outside} {a b c : Assembling} (x : Filled old mid a b) (empty : b.text ≡ []) (going : is_closed b.state.last ≡ false) where
  silent_none : NoneOn (StaysOpen b) mid new b c → Silent old new a
  silent_none none = quiet_then x.quiet empty going none.passes.took none.asks

  goes_none : NoneOn (StaysOpen b) mid new b c → Continues old new a c
  goes_none none =
      let goes : Continues mid new b c = record {
        passed = [];
        passes = none.passes;
        still = λ e. (x.unheld, ap (λ s. last_index s.last) none.state);
        begins_none = λ e. tt;
        began = λ e start h. absurd (let no : None ≡ Some start = sym (none.held ∙ x.unheld) ∙ h in cc);
        held_on = λ start h. absurd (let no : None ≡ Some start = sym x.unheld ∙ h in cc);
      } in
      goes_both x.goes goes

  arrives_nothing : NoneOn (StaysOpen b) mid new b c → ArrivesSo old new a c []
  arrives_nothing none =
      arrives_then (known_tail old a) (known_tail mid b) (known_tail new c) [] [] x.arrives
      (arrives_none mid new b c none.passes.took none.passes.since.rest (λ rest is. tail_same none rest is x.unheld empty going))

  pub filled_end : PassesNext mid new b c (Ok None) → FillsText old new a c (Err Broken)
  filled_end next =
      let over = end_on {P = StaysOpen b} next (open_now b x.unheld going) in
      let none = over.none in
      record {
        goes = goes_none none;
        silent = silent_none none;
        arrives = arrives_nothing none;
        unheld = tt;
        closed = λ e. absurd (let no : Err Broken ≡ Ok false = e in cc);
        ends = over_known new c InPieces (λ rest is. tail_ended c rest (none.held ∙ x.unheld) none.text (ap (λ s. is_closed s.last) none.state ∙ going)
            over.ended);
      }

  fails_so : (fault : InFault) → NoneOn (StaysOpen b) mid new b c → FailsStep fault mid new c → FailsSo fault old new c
  fails_so ReadFault none fails = rose_since x.goes.passes.since.faults.reads fails
  fails_so LongInput none fails =
      over_known new c TooLong (λ rest is. tail_long c rest (none.held ∙ x.unheld) none.text (ap (λ s. is_closed s.last) none.state ∙ going) fails)
  fails_so Broken none fails = absurd fails

  pub filled_failed : (fault : InFault) → PassesNext mid new b c (Err fault) → FillsText old new a c (Err fault)
  filled_failed fault next =
      let over = fail_on {P = StaysOpen b} next (open_now b x.unheld going) in
      record {
        goes = goes_none over.none;
        silent = silent_none over.none;
        arrives = arrives_nothing over.none;
        unheld = tt;
        closed =
            λ e. absurd (let no : Err fault ≡ Ok false = e in cc);
        ends = fails_so fault over.none over.fails;
      }
