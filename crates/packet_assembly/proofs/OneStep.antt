-- The effect of one read on a stretch: one packet more, or none.
use Rattle.std.proofs.lemmas.Bool.Decides.{nat_tests}
use Rattle.std.proofs.Common.{◌≡◌, ◌≤◌, ◌<◌, ◌+◌, ◌-◌, ℕ, List, [], ◌∷◌, ◌++◌, length, length-take-le, take, refl, sym, ap, subst, ◌∙◌, arith, add-zero}
use Rattle.std.proofs.Common.{length-append, Bool, true, false, Option, Some, None, Result, Ok, Err, append-nil, take-append-drop}
use Rattle.bit_pipe.specs.declared.fault.InFault.{InFault}
use Rattle.bit_pipe.specs.declared.fault.InFault.TheVariants.{ReadFault, LongInput, Broken}
use Rattle.port_122.specs.Outside.{Outside, Exchange, AtEnd, Rose}
use Rattle.port_122.proofs.Stretches.{since_weaker}
use Rattle.packet_defs.specs.declared.packet.PacketRead.{PacketRead}
use Rattle.packet_defs.specs.declared.packet.PacketRead.TheVariants.{Mine, Skipped, Ended, Fault}
use Rattle.packet_defs.specs.Streams.{reported_length, has_bad_version, begins_packet, first_packet, after_packet, IsPacket, Splits, whole_packets}
use Rattle.packet_defs.proofs.Prefixes.{begins_so, first_is_packet}
use Rattle.packet_defs.proofs.Splits.{splits_whole, splits_left}
use Rattle.stream_defs.specs.declared.fate.FateState.{FateState}
use Rattle.stream_defs.specs.Fates.{after, after_all}
use Rattle.space_packets.specs.Intake.{Intake, verdict, answered, text_mine, fed, end_read}
use Rattle.space_packets.specs.PacketReads.{AsksUndecided, ReadsPacket}
use Rattle.space_packets.proofs.Intakes.{answered_packet, answered_none}
use Rattle.space_packets.proofs.StreamReads.{undecided_none, undecided_good, undecided_below}
use Rattle.packet_assembly.specs.declared.note.Passed.{Passed}
use Rattle.packet_assembly.specs.Assembling.{Assembling, AsksAt, AsksReadableFrom, Passes}
use Rattle.packet_assembly.specs.Notes.{text_brought, passed_for, valid_after, past_next, at_end, PassesNext}
use Rattle.packet_assembly.specs.Segments.{IsValidEnded, IsValidLong}
use Rattle.space_packets.proofs.Verdicts.{mine_read, other_read, over_read, long_read, shorter_past}
use Rattle.packet_assembly.specs.Arriving.{arriving, sees_end}
use Rattle.packet_assembly.proofs.Arriving.{arriving_on, arriving_past, sees_on}
use Rattle.packet_assembly.proofs.Steps.{passed}
use Rattle.packet_assembly.specs.declared.note.SegmentStart.{SegmentStart}

-- octets that can be passed still
abbrev pub measure : Assembling → ℕ
measure a = (a.intake.cap - a.intake.taken) + length a.intake.pending

-- octets that begin with no packet have none
pub none_whole : (octets : List ℕ) → begins_packet octets ≡ false → whole_packets octets ≡ []
none_whole octets none = let s : Splits octets [] octets = record { octets_are = refl; packets_are = tt; none_left = none } in splits_whole s

-- at each read call the state is unchanged
asks_at : (P : FateState → Type 0) (a : Assembling) (took : List ℕ) → P a.state → (i j : ℕ) → AsksUndecided a.intake took i j → AsksAt P a took i j
asks_at P a took here i j r =
    let none = none_whole (a.intake.pending ++ take i took) (undecided_none (fed a.intake (take i took) false) r.0) in
    (subst P (sym (ap (after_all a.apid a.state) none)) here, r.1)

-- so no read call was made while a whole packet waited
abbrev pub AsksNone : Assembling → List ℕ → ℕ → ℕ → Type 0
AsksNone a took i j = (whole_packets (a.intake.pending ++ take i took) ≡ []) × (j ≡ 0)

asks_none : (a : Assembling) (took : List ℕ) (i j : ℕ) → AsksUndecided a.intake took i j → AsksNone a took i j
asks_none a took i j r = (none_whole (a.intake.pending ++ take i took) (undecided_none (fed a.intake (take i took) false) r.0), r.1)

-- and the octets can be read on, and are fewer than the cap allows
pub asks_readable : (a : Assembling) (took : List ℕ) → a.intake.taken + length took ≤ a.intake.cap → (i j : ℕ) → i ≤ length took →
    AsksUndecided a.intake took i j → AsksReadableFrom a took i j
asks_readable a took within i j le r =
    let u = fed a.intake (take i took) false in
    let s : Splits u.pending [] u.pending = record { octets_are = refl; packets_are = tt; none_left = undecided_none u r.0 } in
    let below = undecided_below u r.0 in
    let some : length (take i took) ≡ i = length-take-le i took le in
    (subst (λ zs. has_bad_version zs ≡ false) (sym (splits_left s)) (undecided_good u r.0), grind (arith, nat_tests))

-- packets that were passed are so whatever text the assembly has after them, and whatever segment it holds
pub passes_as : {P : FateState → Type 0} {old new : Outside} {a b : Assembling} {passed : List (List ℕ)} (text : List ℕ) (held : Option SegmentStart) →
    Passes P old new a b passed → Passes P old new a (record b { text = text; held = held }) passed
passes_as text held p = grind (arith, nat_tests)

-- ---- one packet more

pub record OneOn (P : FateState → Type 0) (old new : Outside) (a b : Assembling) (if_known : Passed) : Type 0 where
  pub packet : List ℕ
  pub passes : Passes P old new a b (packet ∷ [])
  pub known_is : if_known ≡ passed a packet
  pub state : b.state ≡ after a.apid a.state packet
  pub text : b.text ≡ text_brought a.apid a.state packet
  pub held : b.held ≡ a.held
  pub asks : Exchange old new passes.took [] [] (AsksNone a passes.took)
  pub less : measure b < measure a
  pub is_packet : IsPacket packet
  pub arrives : (rest : List ℕ) → new.rest ≡ Some rest → arriving a.intake (passes.took ++ rest) ≡ packet ++ arriving b.intake rest
  pub sees : (rest : List ℕ) → new.rest ≡ Some rest → sees_end a.intake (passes.took ++ rest) ≡ sees_end b.intake rest

-- if the end was reached, nothing is left
pub nothing_left : (now : Outside) {saw_end : Bool} {left : List ℕ} → now.rest ≡ Some left → (saw_end ≡ true → AtEnd now) → saw_end ≡ true → left ≡ []
nothing_left now {left = left} if_known seen e = grind (arith, nat_tests)

packet_on : {P : FateState → Type 0} {old new : Outside} {a b : Assembling} {if_known : Passed} {read : Result PacketRead InFault} →
    (reads : ReadsPacket a.apid old new a.intake b.intake read) → P a.state →
    begins_packet (fed a.intake reads.took reads.saw_end).pending ≡ true → b.intake ≡ answered a.apid (fed a.intake reads.took reads.saw_end) →
    if_known ≡ passed a (first_packet (fed a.intake reads.took reads.saw_end).pending) → b ≡ past_next a (fed a.intake reads.took reads.saw_end).pending
    b.intake →
    OneOn P old new a b if_known
packet_on {P = P} {old = old} {new = new} {a = a} {b = b} {if_known = if_known} reads here whole intake is valid =
    let u = fed a.intake reads.took reads.saw_end in
    let packet = first_packet u.pending in
    let next = intake ∙ answered_packet a.apid u whole in
    let state : b.state ≡ after a.apid a.state packet = ap (λ (b : Assembling). b.state) valid in
    let rest : b.intake.pending ≡ after_packet u.pending = ap (λ (w : Intake). w.pending) next in
    let counts : b.packets ≡ a.packets + 1 = ap (λ (b : Assembling). b.packets) valid in
    let cap : b.intake.cap ≡ a.intake.cap = ap (λ (w : Intake). w.cap) next in
    let taken : b.intake.taken ≡ a.intake.taken + length reads.took = ap (λ (w : Intake). w.taken) next in
    let next_arrives = λ (left : List ℕ) (if_known : new.rest ≡ Some left). arriving_on a.intake reads.took left reads.saw_end reads.within reads.at_once
    (nothing_left new if_known reads.end_seen)
    ∙ arriving_past u (reported_length u.pending) (text_mine a.apid packet) left ∙ sym (ap (λ w. packet ++ arriving w left) next) in
    let next_sees = λ (left : List ℕ) (if_known : new.rest ≡ Some left). sees_on a.intake reads.took left reads.saw_end reads.within
    (nothing_left new if_known reads.end_seen) reads.end_below ∙ ap (λ w. sees_end w left) (sym next) in
    record {
      packet = packet;
      passes = record {
        took = reads.took;
        since = since_weaker reads.since (λ i j le r. asks_at P a reads.took here i j r);
        readable = since_weaker reads.since (asks_readable a reads.took reads.within);
        octets_are = sym (ap (λ zs. zs ++ b.intake.pending) (append-nil packet) ∙ ap (λ zs. packet ++ zs) rest ∙ take-append-drop (reported_length u.pending)
            u.pending);
        packets_are = (first_is_packet (begins_so u.pending whole), tt);
        apid = ap (λ (b : Assembling). b.apid) valid;
        cap = cap;
        taken = taken;
        state = state;
        count = counts;
        capped = λ _. omega (arith, reads.within, cap, taken);
        arrives = λ left if_known. next_arrives left if_known ∙ ap (λ zs. zs ++ arriving b.intake left) (sym (append-nil packet));
        sees = next_sees;
      };
      known_is = is;
      state = state;
      text = ap (λ (b : Assembling). b.text) valid;
      held = ap (λ (b : Assembling). b.held) valid;
      asks = since_weaker reads.since (λ i j le r. asks_none a reads.took i j r);
      less = omega (arith, reads.within, cap, taken, ap (λ zs. length zs) rest, shorter_past u whole, length-append a.intake.pending reads.took);
      is_packet = first_is_packet (begins_so u.pending whole);
      arrives = next_arrives;
      sees = next_sees;
    }

one_by : {P : FateState → Type 0} {old new : Outside} {a b : Assembling} {if_known : Passed} (read : Result PacketRead InFault) →
    (reads : ReadsPacket a.apid old new a.intake b.intake read) → P a.state →
    Ok (Some if_known) ≡ passed_for a (fed a.intake reads.took reads.saw_end).pending read → b ≡ valid_after a (fed a.intake reads.took reads.saw_end).pending
    read b.intake →
    OneOn P old new a b if_known
one_by {P = P} {old = old} {new = new} {a = a} {b = b} {if_known = if_known} (Ok (Mine head reports)) reads here is valid =
    packet_on {P = P} {old = old} {new = new} {a = a} {b = b} {if_known = if_known} {read = Ok (Mine head reports)} reads here
    (mine_read a.apid (fed a.intake reads.took reads.saw_end) head reports reads.ends.0).whole reads.ends.1 (cc) valid
one_by {P = P} {old = old} {new = new} {a = a} {b = b} {if_known = if_known} (Ok (Skipped skip)) reads here is valid =
    packet_on {P = P} {old = old} {new = new} {a = a} {b = b} {if_known = if_known} {read = Ok (Skipped skip)} reads here
    (other_read a.apid (fed a.intake reads.took reads.saw_end) skip reads.ends.0).whole reads.ends.1 (cc) valid
one_by (Ok Ended) reads here is valid = absurd cc
one_by (Ok (Fault fault)) reads here is valid = absurd cc
one_by (Err fault) reads here is valid = absurd cc

pub one_on : {P : FateState → Type 0} {old new : Outside} {a b : Assembling} {if_known : Passed} → PassesNext old new a b (Ok (Some if_known)) → P a.state →
    OneOn P old new a b if_known
one_on x here = one_by x.read x.reads here x.answer x.valid

-- ---- none more

pub record NoneOn (P : FateState → Type 0) (old new : Outside) (a b : Assembling) : Type 0 where
  pub passes : Passes P old new a b []
  pub state : b.state ≡ a.state
  pub text : b.text ≡ []
  pub held : b.held ≡ a.held
  pub asks : Exchange old new passes.took [] [] (AsksNone a passes.took)
  pub arrives : (rest : List ℕ) → new.rest ≡ Some rest → arriving a.intake (passes.took ++ rest) ≡ arriving b.intake rest
  pub sees : (rest : List ℕ) → new.rest ≡ Some rest → sees_end a.intake (passes.took ++ rest) ≡ sees_end b.intake rest

nothing_on : {P : FateState → Type 0} {old new : Outside} {a b : Assembling} {read : Result PacketRead InFault} (framing : _) →
    (reads : ReadsPacket a.apid old new a.intake b.intake read) → P a.state →
    b.intake ≡ fed a.intake reads.took reads.saw_end → b ≡ at_end a b.intake framing → NoneOn P old new a b
nothing_on {P = P} {new = new} {a = a} {b = b} framing reads here intake valid =
    let state : b.state ≡ a.state = ap (λ (b : Assembling). b.state) valid in
    let counts : b.packets ≡ a.packets = ap (λ (b : Assembling). b.packets) valid in
    let none_arrives = λ (left : List ℕ) (if_known : new.rest ≡ Some left). arriving_on a.intake reads.took left reads.saw_end reads.within reads.at_once
    (nothing_left new if_known reads.end_seen) ∙ ap (λ w. arriving w left) (sym intake) in
    let none_sees = λ (left : List ℕ) (if_known : new.rest ≡ Some left). sees_on a.intake reads.took left reads.saw_end reads.within
    (nothing_left new if_known reads.end_seen) reads.end_below ∙ ap (λ w. sees_end w left) (sym intake) in
    record {
      passes = record {
        took = reads.took;
        since = since_weaker reads.since (λ i j le r. asks_at P a reads.took here i j r);
        readable = since_weaker reads.since (asks_readable a reads.took reads.within);
        octets_are = sym (ap (λ (w : Intake). w.pending) intake);
        packets_are = tt;
        apid = ap (λ (b : Assembling). b.apid) valid;
        cap = ap (λ (w : Intake). w.cap) intake;
        taken = ap (λ (w : Intake). w.taken) intake;
        state = state;
        count = counts ∙ sym (add-zero a.packets);
        capped = λ _. let cap : b.intake.cap ≡ a.intake.cap = ap (λ (w : Intake). w.cap) intake in let taken : b.intake.taken ≡ a.intake.taken
            + length reads.took = ap (λ (w : Intake). w.taken) intake in omega (arith, reads.within, cap, taken);
        arrives = none_arrives;
        sees = none_sees;
      };
      state = state;
      text = ap (λ (b : Assembling). b.text) valid;
      held = ap (λ (b : Assembling). b.held) valid;
      asks = since_weaker reads.since (λ i j le r. asks_none a reads.took i j r);
      arrives = none_arrives;
      sees = none_sees;
    }

-- what is unchanged if there is no packet
pub same_intake : (apid : ℕ) (v w : Intake) (took : List ℕ) (saw_end : Bool) → begins_packet (fed v took saw_end).pending ≡ false →
    w ≡ answered apid (fed v took saw_end) → w ≡ fed v took saw_end
same_intake apid v w took saw_end none e = e ∙ answered_none apid (fed v took saw_end) none refl

pub record EndOn (P : FateState → Type 0) (old new : Outside) (a b : Assembling) : Type 0 where
  pub none : NoneOn P old new a b
  pub ended : IsValidEnded b

end_by : {P : FateState → Type 0} {old new : Outside} {a b : Assembling} (read : Result PacketRead InFault) →
    (reads : ReadsPacket a.apid old new a.intake b.intake read) → P a.state →
    Ok None ≡ passed_for a (fed a.intake reads.took reads.saw_end).pending read → b ≡ valid_after a (fed a.intake reads.took reads.saw_end).pending read
    b.intake → EndOn P old new a b
end_by (Ok (Mine head reports)) reads here is valid = absurd cc
end_by (Ok (Skipped skip)) reads here is valid = absurd cc
end_by {a = a} {b = b} (Ok Ended) reads here is valid =
    let u = fed a.intake reads.took reads.saw_end in
    let same = same_intake a.apid a.intake b.intake reads.took reads.saw_end (over_read a.apid u Ended refl reads.ends.0).0 reads.ends.1 in
    record {
      none = nothing_on None reads here same valid;
      ended = ap (λ w. verdict b.apid w) same ∙ ap (λ n. verdict n u) (ap (λ (b : Assembling). b.apid) valid) ∙ reads.ends.0
          ∙ ap (λ f. Some (Ok (end_read f))) (sym (ap (λ (b : Assembling). b.framing) valid));
    }
end_by {a = a} {b = b} (Ok (Fault fault)) reads here is valid =
    let u = fed a.intake reads.took reads.saw_end in
    let same = same_intake a.apid a.intake b.intake reads.took reads.saw_end (over_read a.apid u (Fault fault) refl reads.ends.0).0 reads.ends.1 in
    record {
      none = nothing_on (Some fault) reads here same valid;
      ended = ap (λ w. verdict b.apid w) same ∙ ap (λ n. verdict n u) (ap (λ (b : Assembling). b.apid) valid) ∙ reads.ends.0
          ∙ ap (λ f. Some (Ok (end_read f))) (sym (ap (λ (b : Assembling). b.framing) valid));
    }
end_by (Err fault) reads here is valid = absurd cc

pub end_on : {P : FateState → Type 0} {old new : Outside} {a b : Assembling} → PassesNext old new a b (Ok None) → P a.state → EndOn P old new a b
end_on x here = end_by x.read x.reads here x.answer x.valid

-- why none was read
abbrev pub FailsStep : InFault → (old new : Outside) (b : Assembling) → Type 0
FailsStep ReadFault old new b = Rose old.read_faults new.read_faults
FailsStep LongInput old new b = IsValidLong b
FailsStep Broken old new b = ⊥

pub record FailOn (P : FateState → Type 0) (old new : Outside) (a b : Assembling) (fault : InFault) : Type 0 where
  pub none : NoneOn P old new a b
  pub fails : FailsStep fault old new b

fail_by : {P : FateState → Type 0} {old new : Outside} {a b : Assembling} (fault : InFault) →
    (reads : ReadsPacket a.apid old new a.intake b.intake (Err fault)) → P a.state →
    b ≡ at_end a b.intake a.framing → FailOn P old new a b fault
fail_by {a = a} ReadFault reads here valid = record { none = nothing_on a.framing reads here reads.ends.2 valid; fails = reads.ends.0 }
fail_by {a = a} {b = b} LongInput reads here valid =
    let u = fed a.intake reads.took reads.saw_end in
    let same = same_intake a.apid a.intake b.intake reads.took reads.saw_end (long_read a.apid u LongInput reads.ends.0).none reads.ends.1 in
    record {
      none = nothing_on a.framing reads here same valid;
      fails = ap (λ w. verdict b.apid w) same ∙ ap (λ n. verdict n u) (ap (λ (b : Assembling). b.apid) valid) ∙ reads.ends.0;
    }
fail_by {a = a} Broken reads here valid = grind (arith, nat_tests, long_read)

fail_read : {P : FateState → Type 0} {old new : Outside} {a b : Assembling} {fault : InFault} (read : Result PacketRead InFault) →
    (reads : ReadsPacket a.apid old new a.intake b.intake read) → P a.state →
    Err fault ≡ passed_for a (fed a.intake reads.took reads.saw_end).pending read → b ≡ valid_after a (fed a.intake reads.took reads.saw_end).pending read
    b.intake → FailOn P old new a b fault
fail_read (Ok (Mine head reports)) reads here is valid = absurd cc
fail_read (Ok (Skipped skip)) reads here is valid = absurd cc
fail_read (Ok Ended) reads here is valid = absurd cc
fail_read (Ok (Fault fault)) reads here is valid = absurd cc
fail_read {P = P} {old = old} {new = new} {a = a} {b = b} {fault = fault} (Err other) reads here is valid =
    let same : other ≡ fault = cc in
    subst (λ f. FailOn P old new a b f) same (fail_by other reads here valid)

pub fail_on : {P : FateState → Type 0} {old new : Outside} {a b : Assembling} {fault : InFault} → PassesNext old new a b (Err fault) → P a.state →
    FailOn P old new a b fault
fail_on x here = fail_read x.read x.reads here x.answer x.valid
