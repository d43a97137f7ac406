-- The rest of a text, before a packet and after it.
use Rattle.std.proofs.Common.{◌≡◌, ℕ, List, [], ◌∷◌, ◌++◌, refl, sym, ap, ◌∙◌, append_assoc, arith, Bool, true, false, ◌==◌, if◌then◌else◌, Option, None}
use Rattle.std.proofs.Common.{Some, option_map, append-nil}
use Rattle.std.proofs.lemmas.Bool.Decides.{nat_tests}
use Rattle.bit_pipe.specs.Sources.{End, Plainly, TooLong, InPieces, Tail, Arrives, IsOver}
use Rattle.port_122.specs.Outside.{Outside, Loses}
use Rattle.packet_defs.specs.Packets.{joined}
use Rattle.packet_defs.specs.Reading.{ancillary_in, text_in}
use Rattle.packet_defs.specs.Streams.{whole_packets, left_over}
use Rattle.stream_defs.specs.declared.fate.FateState.{FateState}
use Rattle.stream_defs.specs.Fates.{fate, after, is_kept}
use Rattle.stream_defs.proofs.FateLaws.{after_as_kept, after_as_other}
use Rattle.stream_defs.proofs.KeptOrder.{is_kept_so}
use Rattle.space_packets.specs.Intake.{Intake}
use Rattle.packet_assembly.specs.declared.note.Passed.{Passed}
use Rattle.packet_assembly.specs.declared.note.SegmentStart.{SegmentStart}
use Rattle.packet_assembly.specs.Assembling.{Assembling, is_closed, is_first}
use Rattle.packet_assembly.specs.Notes.{text_brought}
use Rattle.packet_assembly.specs.Segments.{IsValidEnded, IsValidLong}
use Rattle.packet_assembly.specs.Passing.{whole_after, left_after}
use Rattle.packet_assembly.specs.Arriving.{arriving, sees_end}
use Rattle.packet_assembly.specs.Tails.{stop_of, before_it, nothing, kept_tail, tail_over, tail_after, text_tail, known_tail}
use Rattle.space_packets.proofs.Verdicts.{over_read, long_read}
use Rattle.packet_assembly.proofs.KeptPackets.{none_first, some_first}
use Rattle.packet_assembly.proofs.Arriving.{StopsSo, bad_stops, ended_stops, long_stops}
use Rattle.packet_assembly.proofs.OneStep.{OneOn, NoneOn}

-- the rest of a text that is open, if no octet of it waits
pub open_tail : (a : Assembling) (rest : List ℕ) → a.held ≡ None → a.text ≡ [] → is_closed a.state.last ≡ false →
    text_tail a rest ≡ tail_over a.apid a.state (whole_packets (arriving a.intake rest)) (stop_of a.intake rest)
open_tail a rest unheld empty going = rw (unheld, empty, going) refl

-- octets of a text that wait, and what follows them
pub unheld_tail : (a : Assembling) (rest : List ℕ) → a.held ≡ None → text_tail a rest ≡ before_it a.text (tail_after a rest)
unheld_tail a rest unheld = rw unheld refl

over_one : (apid : ℕ) (s : FateState) (packet : List ℕ) (packets : List (List ℕ)) (stop : End) →
    tail_over apid s (packet ∷ packets) stop
    ≡ (if is_kept (fate apid s packet) then kept_tail packet (tail_over apid (after apid s packet) packets stop) else tail_over apid (after apid s packet)
    packets stop)
unfolding tail_over
over_one apid s packet packets stop = refl

pub over_none : (apid : ℕ) (s : FateState) (stop : End) → tail_over apid s [] stop ≡ nothing stop
unfolding tail_over
over_none apid s stop = refl

stop_same : (v w : Intake) (before rest : List ℕ) → left_over (arriving v before) ≡ left_over (arriving w rest) → sees_end v before ≡ sees_end w rest →
    stop_of v before ≡ stop_of w rest
stop_same v w before rest left sees = grind (arith, nat_tests)

no_text : (apid : ℕ) (s : FateState) (packet : List ℕ) → is_kept (fate apid s packet) ≡ false → text_brought apid s packet ≡ []
unfolding text_brought
no_text apid s packet e = rw e refl

text_greater : (apid : ℕ) (s : FateState) (packet : List ℕ) → is_kept (fate apid s packet) ≡ true → ((ancillary_in packet).part == 0) ≡ false →
    text_brought apid s packet ≡ text_in packet
unfolding text_brought
text_greater apid s packet e part = rw (e, part) refl

into : (c : Bool) (text : List ℕ) (later : Tail) → (if c then before_it text (nothing Plainly) else before_it text later)
    ≡ before_it text (if c then nothing Plainly else later)
into c text later = grind (arith, nat_tests)

-- ---- a packet more

module _ {P : FateState → Type 0} {old new : Outside} {a b : Assembling} {if_known : Passed} (one : OneOn P old new a b if_known) (rest : List ℕ)
    (is : new.rest ≡ Some rest)
    (unheld : a.held ≡ None) (empty : a.text ≡ []) (going : is_closed a.state.last ≡ false) where
  abbrev before : List ℕ
  before = one.passes.took ++ rest

  abbrev later : Tail
  later = tail_over b.apid b.state (whole_packets (arriving b.intake rest)) (stop_of b.intake rest)

  split : arriving a.intake before ≡ joined (one.packet ∷ []) ++ arriving b.intake rest
  split = one.arrives rest is ∙ ap (λ zs. zs ++ arriving b.intake rest) (sym (append-nil one.packet))

  wholes : whole_packets (arriving a.intake before) ≡ one.packet ∷ whole_packets (arriving b.intake rest)
  wholes = ap whole_packets split ∙ whole_after (one.packet ∷ []) (arriving b.intake rest) (one.is_packet, tt)

  stops : stop_of a.intake before ≡ stop_of b.intake rest
  stops = stop_same a.intake b.intake before rest (ap left_over split ∙ left_after (one.packet ∷ []) (arriving b.intake rest) (one.is_packet, tt))
      (one.sees rest is)

  later_is : tail_over a.apid (after a.apid a.state one.packet) (whole_packets (arriving b.intake rest)) (stop_of b.intake rest) ≡ later
  later_is = grind (arith, nat_tests)

  tail_is : text_tail a before ≡ (if is_kept (fate a.apid a.state one.packet) then kept_tail one.packet later else later)
  tail_is = grind (arith, nat_tests, open_tail, wholes, stops, over_one, later_is)

  -- another segment was begun
  pub tail_broken : (start : SegmentStart) → if_known.start ≡ Some start → text_tail a before ≡ nothing InPieces
  tail_broken start some =
      let x = some_first a.apid a.state one.packet start (sym (ap (λ (t : Passed). t.start) one.known_is) ∙ some) in
      grind (arith, nat_tests, tail_is)

  -- none was begun
  pub tail_goes_on : if_known.start ≡ None → text_tail a before ≡ text_tail b rest
  tail_goes_on none = by_kept (is_kept (fate a.apid a.state one.packet)) refl
    where
      by_kept : (k : Bool) → is_kept (fate a.apid a.state one.packet) ≡ k → text_tail a before ≡ text_tail b rest
      by_kept false e = grind (arith, nat_tests, after_as_other, tail_is, open_tail, no_text)
      by_kept true e =
          let kept = is_kept_so (fate a.apid a.state one.packet) e in
          let first : is_first a.apid a.state one.packet ≡ false =
          none_first a.apid a.state one.packet (sym (ap (λ (t : Passed). t.start) one.known_is) ∙ none) in
          grind (arith, nat_tests, text_greater, after_as_kept, tail_is, into, unheld_tail)

      into : (c : Bool) (text : List ℕ) → (if c then before_it text (nothing Plainly) else before_it text later)
          ≡ before_it text (if c then nothing Plainly else later)
      into true text = refl
      into false text = refl

-- ---- no packet

pub tail_same : {P : FateState → Type 0} {old new : Outside} {a b : Assembling} → (x : NoneOn P old new a b) → (rest : List ℕ) → new.rest ≡ Some rest →
    a.held ≡ None → a.text ≡ [] → is_closed a.state.last ≡ false → text_tail a (x.passes.took ++ rest) ≡ text_tail b rest
tail_same {a = a} {b = b} x rest is unheld empty going = grind (arith, nat_tests)

stopped : (b : Assembling) (rest : List ℕ) (stop : End) → b.held ≡ None → b.text ≡ [] → is_closed b.state.last ≡ false → StopsSo b.intake rest stop →
    text_tail b rest ≡ nothing stop
stopped b rest stop unheld empty going s = grind (arith, nat_tests, open_tail, over_none)

pub tail_ended : (b : Assembling) (rest : List ℕ) → b.held ≡ None → b.text ≡ [] → is_closed b.state.last ≡ false → IsValidEnded b →
    text_tail b rest ≡ nothing InPieces
tail_ended b rest unheld empty going ended = grind (arith, nat_tests, stopped, bad_stops, ended_stops, over_read)

pub tail_long : (b : Assembling) (rest : List ℕ) → b.held ≡ None → b.text ≡ [] → is_closed b.state.last ≡ false → IsValidLong b →
    text_tail b rest ≡ nothing TooLong
tail_long b rest unheld empty going long = stopped b rest TooLong unheld empty going (long_stops b.intake rest (long_read b.apid b.intake _ long))

-- ---- ports that report what is left

pub arrives_none : (old new : Outside) (a b : Assembling) (took : List ℕ) → Loses old.rest new.rest took →
    ((rest : List ℕ) → new.rest ≡ Some rest → text_tail a (took ++ rest) ≡ text_tail b rest) →
    Arrives (known_tail old a) (known_tail new b) []
arrives_none old new a b took loses same = by_rest old.rest new.rest loses same
  where
    by_rest : (o n : Option (List ℕ)) → Loses o n took → ((rest : List ℕ) → n ≡ Some rest → text_tail a (took ++ rest) ≡ text_tail b rest) →
        Arrives (option_map (text_tail a) o) (option_map (text_tail b) n) []
    by_rest None None l f = tt
    by_rest None (Some now) l f = absurd l
    by_rest (Some was) None l f = absurd l
    by_rest (Some was) (Some now) l f =
        let e : text_tail a was ≡ text_tail b now = ap (text_tail a) l ∙ f now refl in
        (ap (λ (t : Tail). t.octets) e, ap (λ (t : Tail). t.ends) e)

pub over_known : (now : Outside) (b : Assembling) (ends : End) → ((rest : List ℕ) → now.rest ≡ Some rest → text_tail b rest ≡ nothing ends) →
    IsOver (known_tail now b) ends
over_known now b ends is = grind (arith, nat_tests)

pub arrives_then : (x y z : Option Tail) (xs ys : List ℕ) → Arrives x y xs → Arrives y z ys → Arrives x z (xs ++ ys)
arrives_then x y z xs ys p q = grind (arith, nat_tests, append_assoc)
