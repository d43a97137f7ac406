-- If the end was reached, or the stream can't be read on, each further read returns the same.
use Rattle.std.proofs.Common.{sym, ◌≡◌, ◌⊎◌, ℕ, List, [], ◌∷◌, refl, ap, ◌∙◌, arith, add-zero, Bool, true, false, ◌==◌, ◌||◌, Option, Some, None, Result}
use Rattle.std.proofs.Common.{Ok, Err, append-nil}
use Rattle.std.proofs.lemmas.Bool.{false≢true}
use Rattle.std.proofs.lemmas.Bool.Decides.{nat_tests}
use Rattle.bit_pipe.specs.declared.fault.InFault.{InFault}
use Rattle.bit_pipe.specs.declared.fault.InFault.TheVariants.{LongInput}
use Rattle.port_122.specs.Outside.{Outside}
use Rattle.packet_defs.specs.Tests.{when, first_of}
use Rattle.packet_defs.specs.declared.packet.Framing.{Framing}
use Rattle.packet_defs.specs.declared.packet.PacketRead.{PacketRead}
use Rattle.packet_defs.specs.Streams.{has_bad_version, begins_packet}
use Rattle.space_packets.specs.Intake.{Intake, is_decided, end_read, verdict, fed}
use Rattle.space_packets.specs.PacketReads.{ReadsPacket, EndsPacket}
use Rattle.space_packets.proofs.Intakes.{same_intake, verdict_bad}
use Rattle.space_packets.proofs.Equations.{is_decided-is, verdict-is}
use Rattle.packet_assembly.specs.declared.note.Passed.{Passed}
use Rattle.packet_assembly.specs.Assembling.{Assembling}
use Rattle.packet_assembly.specs.Notes.{passed_for, PassesNext}
use Rattle.packet_assembly.specs.Segments.{IsValidEnded, IsValidLong}
use Rattle.space_packets.proofs.Verdicts.{is_over, over_read, long_read}

decided_by : (a b c d : Bool) (x y z w r : Result PacketRead InFault) → first_of (when a x ∷ when b y ∷ when c z ∷ when d w ∷ []) ≡ Some r →
    (a || (b || (c || d))) ≡ true
decided_by a b c d x y z w r e = grind (arith, nat_tests)

decided : (apid : ℕ) (v : Intake) (r : Result PacketRead InFault) → verdict apid v ≡ Some r → is_decided v ≡ true
decided apid v r e = is_decided-is v ∙ decided_by (has_bad_version v.pending) (begins_packet v.pending) v.ended (v.taken == v.cap) _ _ _ _ r
    (sym (verdict-is apid v) ∙ e)

or_false : (b : Bool) → (b || false) ≡ b
or_false b = grind (arith, nat_tests)

-- a read without octets leaves a reader unchanged, except for the last text
fed_quiet : (v : Intake) → fed v [] false ≡ record v { text = [] }
fed_quiet v = same_intake refl (add-zero v.taken) (append-nil v.pending) refl (or_false v.ended)

textless : (apid : ℕ) (v : Intake) → verdict apid (record v { text = [] }) ≡ verdict apid v
textless apid v = verdict-is apid (record v { text = [] }) ∙ sym (verdict-is apid v)

textless_decided : (v : Intake) → is_decided (record v { text = [] }) ≡ is_decided v
textless_decided v = is_decided-is (record v { text = [] }) ∙ sym (is_decided-is v)

quiet_verdict : (apid : ℕ) (v : Intake) → verdict apid (fed v [] false) ≡ verdict apid v
quiet_verdict apid v = ap (verdict apid) (fed_quiet v) ∙ textless apid v

-- if the end is reached once more
end_again : (apid : ℕ) (v : Intake) (r : PacketRead) → verdict apid v ≡ Some (Ok r) → (has_bad_version v.pending ≡ true) ⊎ (v.ended ≡ true) →
    verdict apid (fed v [] true) ≡ Some (Ok r)
end_again apid v r e h4 = grind (arith, nat_tests, append-nil, fed_quiet, verdict_bad, same_intake, quiet_verdict)

over_again : (apid : ℕ) (v : Intake) (r : PacketRead) (saw_end : Bool) → is_over r ≡ true → verdict apid v ≡ Some (Ok r) →
    verdict apid (fed v [] saw_end) ≡ Some (Ok r)
over_again apid v r saw_end over e = grind (arith, nat_tests, quiet_verdict, end_again, over_read)

-- what was decided without a read is returned
answers : (apid : ℕ) (p q : Outside) (u w : Intake) (result r : Result PacketRead InFault) → EndsPacket apid p q u w result → verdict apid u ≡ Some r →
    result ≡ r
answers apid p q u w result r ends e = grind (arith, nat_tests, false≢true, decided)

nothing_taken : {apid : ℕ} {p q : Outside} {v w : Intake} {result : Result PacketRead InFault} (r : Result PacketRead InFault) →
    (reads : ReadsPacket apid p q v w result) → verdict apid v ≡ Some r → reads.took ≡ []
nothing_taken {apid = apid} {v = v} r reads e = reads.at_once (ap is_decided (fed_quiet v) ∙ textless_decided v ∙ decided apid v r e)

pub over_answers : {apid : ℕ} {p q : Outside} {v w : Intake} {result : Result PacketRead InFault} (r : PacketRead) → is_over r ≡ true →
    ReadsPacket apid p q v w result → verdict apid v ≡ Some (Ok r) → result ≡ Ok r
over_answers {apid = apid} {p = p} {q = q} {v = v} {w = w} {result = result} r over reads e =
    let none = nothing_taken (Ok r) reads e in
    answers apid p q (fed v reads.took reads.saw_end) w result (Ok r) reads.ends (ap (λ took. verdict apid (fed v took reads.saw_end)) none ∙ over_again
    apid v r reads.saw_end over e)

long_answers : {apid : ℕ} {p q : Outside} {v w : Intake} {result : Result PacketRead InFault} → ReadsPacket apid p q v w result →
    verdict apid v ≡ Some (Err LongInput) → result ≡ Err LongInput
long_answers {apid = apid} {p = p} {q = q} {v = v} {w = w} {result = result} reads e =
    let none = nothing_taken (Err LongInput) reads e in
    grind (arith, nat_tests, long_read, by_cap, answers, quiet_verdict)
  where
    by_cap : (b : Bool) → (b ≡ true → ⊥) → b ≡ false
    by_cap true never = absurd (never refl)
    by_cap false never = refl

-- ---- the same of an assembly

passed_none : (a : Assembling) (octets : List ℕ) (f : Option Framing) → passed_for a octets (Ok (end_read f)) ≡ Ok None
passed_none a octets f = grind (arith, nat_tests)

is_end : (f : Option Framing) → is_over (end_read f) ≡ true
is_end f = grind (arith, nat_tests)

pub ended_again : {old new : Outside} {a b : Assembling} {result : Result (Option Passed) InFault} → PassesNext old new a b result → IsValidEnded a →
    result ≡ Ok None
ended_again {a = a} x ended =
    let read = over_answers (end_read a.framing) (is_end a.framing) x.reads ended in
    grind (arith, nat_tests, passed_none)

pub long_again : {old new : Outside} {a b : Assembling} {result : Result (Option Passed) InFault} → PassesNext old new a b result → IsValidLong a →
    result ≡ Err LongInput
long_again {a = a} x long =
    let octets = (fed a.intake x.reads.took x.reads.saw_end).pending in
    x.answer ∙ ap (passed_for a octets) (long_answers x.reads long)
