-- One packet, or none, by a reader and by the classification of its fields.
use Rattle.std.proofs.Common.{◌≡◌, ◌≤◌, ◌<◌, ◌+◌, ◌-◌, ℕ, List, [], length, drop, refl, sym, ap, subst, ◌∙◌, arith, length-append, length-drop, Bool, true}
use Rattle.std.proofs.Common.{false, Option, Some, None, Result, Ok, Err}
use Rattle.std.proofs.lemmas.Bool.Decides.{nat_tests}
use Rattle.bit_pipe.specs.declared.fault.InFault.{InFault}
use Rattle.bit_pipe.specs.declared.fault.InFault.TheVariants.{ReadFault, LongInput, Broken}
use Rattle.segment_defs.specs.declared.head.SegmentHead.{SegmentHead}
use Rattle.port_122.specs.Outside.{Outside}
use Rattle.packet_defs.specs.declared.ancillary.Ancillary.{Ancillary}
use Rattle.packet_defs.specs.declared.packet.PacketHead.{PacketHead}
use Rattle.packet_defs.specs.declared.packet.PacketRead.{PacketRead}
use Rattle.packet_defs.specs.declared.packet.PacketRead.TheVariants.{Mine, Skipped, Ended, Fault}
use Rattle.packet_defs.specs.declared.packet.Framing.{Framing}
use Rattle.packet_defs.specs.declared.packet.Skip.{Skip}
use Rattle.packet_defs.specs.Reading.{skip_of, field_length, flags_in, head_in, ancillary_in, text_in}
use Rattle.packet_defs.specs.Streams.{reported_length, begins_packet, first_packet}
use Rattle.packet_defs.proofs.Prefixes.{begins_so, first_is_packet}
use Rattle.stream_defs.specs.declared.fate.Fate.{Fate}
use Rattle.stream_defs.specs.declared.fate.Fate.TheVariants as fates
use Rattle.stream_defs.specs.Fates.{fate, after}
use Rattle.space_packets.specs.Intake.{Intake, fed, answered}
use Rattle.space_packets.specs.PacketReads.{ReadsPacket, EndsPacket}
use Rattle.space_packets.proofs.Intakes.{answered_packet}
use Rattle.packet_assembly.specs.declared.note.Passed.{Passed}
use Rattle.packet_assembly.specs.Assembling.{Assembling}
use Rattle.packet_assembly.specs.Classification.{classified}
use Rattle.packet_assembly.specs.Notes.{note_of, text_brought, start_brought, at_end, PassesNext}
use Rattle.packet_assembly.specs.Held.{note_known, known_mine, after_mine, known_by, after_by, known_other, after_other}
use Rattle.space_packets.proofs.Verdicts.{mine_read, other_read, over_read, long_read, ends_go, shorter_past, answered_none_text}
use Rattle.packet_assembly.proofs.FateSteps.{note_mine, kept_so, classified_unkept, unkept_so, fate_other}
use Rattle.packet_defs.proofs.Equations.{skip_of-is}

-- two assemblies are the same by their parts that a packet changes
pub same_assembling : {a b : Assembling} → a.apid ≡ b.apid → a.intake ≡ b.intake → a.state ≡ b.state → a.packets ≡ b.packets → a.text ≡ b.text →
    a.held ≡ b.held → a.framing ≡ b.framing → a ≡ b
same_assembling p v s n t h f = λ i. record { apid = p i; intake = v i; state = s i; packets = n i; text = t i; held = h i; framing = f i }

-- an assembly whose reader has read once more
abbrev pub read_into : Assembling → Intake → Assembling
read_into a w = record a { intake = w; text = drop 0 w.text }

-- after this packet
abbrev pub past : Assembling → List ℕ → Intake → Assembling
past a packet w = record a { intake = w; state = after a.apid a.state packet; packets = a.packets + 1; text = text_brought a.apid a.state packet }

abbrev pub passed : Assembling → List ℕ → Passed
passed a packet = record { note = note_of a.packets (fate a.apid a.state packet) packet; start = start_brought a.apid a.state packet }

same_passed : {x y : Passed} → x.note ≡ y.note → x.start ≡ y.start → x ≡ y
same_passed n s = λ i. record { note = n i; start = s i }

-- ---- a packet of the image

note_is : (a : Assembling) (packet : List ℕ) (why : Fate) → (head_in packet).length - 24 ≡ length (text_in packet) →
    note_known a why (head_in packet) (ancillary_in packet) ≡ note_mine a.packets why packet
note_is a packet why long = λ i. record (note_mine a.packets why packet) { octets = long i }

module _ (a : Assembling) (w : Intake) (packet : List ℕ) (mine : skip_of a.apid packet ≡ None) (text_is : w.text ≡ text_in packet) where
  abbrev classification : Result (Option SegmentHead) Fate
  classification = classified a.state (flags_in packet) (ancillary_in packet) (text_in packet)

  after_by_is : (j : Result (Option SegmentHead) Fate) → classification ≡ j → after_by (read_into a w) (head_in packet) (ancillary_in packet) j
      ≡ past a packet w
  after_by_is (Ok found) e =
      let k = kept_so a.apid a.state packet found mine e in
      same_assembling refl refl (sym k.after_is) refl (ap (drop _) text_is ∙ sym k.text_is) refl refl
  after_by_is (Err why) e =
      let k = (classified_unkept a.apid a.state packet why mine e).1 in
      same_assembling refl refl (sym k.after_is) refl (sym k.text_is) refl refl

  after_mine_is : after_mine (read_into a w) (head_in packet) (ancillary_in packet) ≡ past a packet w
  after_mine_is = grind (arith, nat_tests, after_by_is)

  known_by_is : (j : Result (Option SegmentHead) Fate) → (head_in packet).length - 24 ≡ length (text_in packet) → classification ≡ j →
      known_by (read_into a w) (head_in packet) (ancillary_in packet) j ≡ passed a packet
  known_by_is (Ok found) long e =
      let k = kept_so a.apid a.state packet found mine e in
      same_passed (note_is a packet fates.Kept long ∙ ap (λ f. note_of a.packets f packet) (sym k.fate_is)) (sym k.start_is)
  known_by_is (Err why) long e =
      let x = classified_unkept a.apid a.state packet why mine e in
      same_passed (note_is a packet why long ∙ sym (x.0.note a.packets packet) ∙ ap (λ f. note_of a.packets f packet) (sym x.1.fate_is)) (sym x.1.start_is)

  known_mine_is : (head_in packet).length - 24 ≡ length (text_in packet) → known_mine (read_into a w) (head_in packet) (ancillary_in packet) ≡ passed a packet
  known_mine_is long = grind (arith, nat_tests, known_by_is)

-- octets of the text of a packet that waits
long_text : (apid : ℕ) (u : Intake) → begins_packet u.pending ≡ true → (head_in (first_packet u.pending)).length - 24
    ≡ length (text_in (first_packet u.pending))
unfolding reported_length
long_text apid u whole =
    let packet = first_packet u.pending in
    let size = (first_is_packet (begins_so u.pending whole)).whole in
    omega (arith, size, length-drop 30 packet)

counted_packet : (apid : ℕ) (v w : Intake) (took : List ℕ) (saw_end : Bool) (packets : ℕ) → packets + length v.pending ≤ v.taken →
    begins_packet (fed v took saw_end).pending ≡ true →
    w ≡ answered apid (fed v took saw_end) → packets + length w.pending < w.taken
counted_packet apid v w took saw_end packets counted whole e =
    let u = fed v took saw_end in
    let next = e ∙ answered_packet apid u whole in
    omega (arith, counted, shorter_past u whole, length-append v.pending took, ap (λ w. length w.pending) next, ap (λ w. w.taken) next)

long_field : (apid : ℕ) (packet : List ℕ) → skip_of apid packet ≡ None → 24 ≤ field_length packet
long_field apid packet mine = grind (arith, nat_tests, skip_of-is)

-- a packet of the image was read
pub mine_passes : {old new : Outside} {a v b : Assembling} {w : Intake} {head : PacketHead} {reports : Ancillary} {if_known : Passed} →
    ReadsPacket a.apid old new a.intake w (Ok (Mine head reports)) → v ≡ read_into a w → if_known ≡ known_mine v head reports → b ≡ after_mine v head reports →
    PassesNext old new a b (Ok (Some if_known))
mine_passes {old = old} {new = new} {a = a} {v = v} {b = b} {w = w} {head = head} {reports = reports} {if_known = if_known} reads into is valid =
    let u = fed a.intake reads.took reads.saw_end in
    let packet = first_packet u.pending in
    let m = mine_read a.apid u head reports reads.ends.0 in
    let text : w.text ≡ text_in packet = ap (λ w. w.text) (reads.ends.1 ∙ answered_packet a.apid u m.whole) ∙ (rw m.mine refl) in
    let long : (head_in packet).length - 24 ≡ length (text_in packet) = long_text a.apid u m.whole in
    let after : b ≡ past a packet w = valid ∙ ap (λ v. after_mine v head reports) into ∙ ap (λ h. after_mine (read_into a w) h reports) m.head_is
    ∙ ap (after_mine (read_into a w) (head_in packet)) m.ancillary_is ∙ after_mine_is a w packet m.mine text in
    let note : if_known ≡ passed a packet = grind (arith, nat_tests, known_mine_is) in
    let there : PassesNext old new a (past a packet w) (Ok (Some (passed a packet))) =
    record { read = Ok (Mine head reports); reads = reads; answer = refl; valid = refl } in
    subst (λ b. PassesNext old new a b (Ok (Some if_known))) (sym after) (subst (λ t. PassesNext old new a (past a packet w) (Ok (Some t))) (sym note) there)

-- another packet was read
pub other_passes : {old new : Outside} {a v b : Assembling} {w : Intake} {skip : Skip} {if_known : Passed} →
    ReadsPacket a.apid old new a.intake w (Ok (Skipped skip)) → v ≡ read_into a w → if_known ≡ known_other v skip → b ≡ after_other v →
    PassesNext old new a b (Ok (Some if_known))
other_passes {old = old} {new = new} {a = a} {v = v} {b = b} {w = w} {skip = skip} {if_known = if_known} reads into is valid =
    let u = fed a.intake reads.took reads.saw_end in
    let packet = first_packet u.pending in
    let m = other_read a.apid u skip reads.ends.0 in
    let k = unkept_so a.apid a.state packet (fates.Skipped skip) (fate_other a.apid a.state packet skip m.other) refl in
    let after : b ≡ past a packet w = valid ∙ ap after_other into ∙ same_assembling refl refl (sym k.after_is) refl (sym k.text_is) refl refl in
    let note : if_known ≡ passed a packet = is ∙ ap (λ v. known_other v skip) into ∙ same_passed (ap (λ f. note_of a.packets f packet) (sym k.fate_is))
    (sym k.start_is) in
    let there : PassesNext old new a (past a packet w) (Ok (Some (passed a packet))) =
    record { read = Ok (Skipped skip); reads = reads; answer = refl; valid = refl } in
    subst (λ b. PassesNext old new a b (Ok (Some if_known))) (sym after) (subst (λ t. PassesNext old new a (past a packet w) (Ok (Some t))) (sym note) there)

-- ---- no packet

-- the text is then removed
no_text : (apid : ℕ) (u w : Intake) → begins_packet u.pending ≡ false → w ≡ answered apid u → w.text ≡ []
no_text apid u w none e = ap (λ w. w.text) (e ∙ answered_none_text apid u none)

pub ended_passes : {old new : Outside} {a b : Assembling} {w : Intake} →
    ReadsPacket a.apid old new a.intake w (Ok Ended) → b ≡ record (read_into a w) { framing = None } → PassesNext old new a b (Ok None)
ended_passes {old = old} {new = new} {a = a} {b = b} {w = w} reads valid =
    let u = fed a.intake reads.took reads.saw_end in
    let empty : w.text ≡ [] = no_text a.apid u w (over_read a.apid u Ended refl reads.ends.0).0 reads.ends.1 in
    let after : b ≡ at_end a w None = valid ∙ same_assembling refl refl refl refl (ap (drop 0) empty) refl refl in
    subst (λ b. PassesNext old new a b (Ok None)) (sym after) (record { read = Ok Ended; reads = reads; answer = refl; valid = refl })

pub fault_passes : {old new : Outside} {a b : Assembling} {w : Intake} {fault : Framing} →
    ReadsPacket a.apid old new a.intake w (Ok (Fault fault)) → b ≡ record (read_into a w) { framing = Some fault } → PassesNext old new a b (Ok None)
fault_passes {old = old} {new = new} {a = a} {b = b} {w = w} {fault = fault} reads valid =
    let u = fed a.intake reads.took reads.saw_end in
    let empty : w.text ≡ [] = no_text a.apid u w (over_read a.apid u (Fault fault) refl reads.ends.0).0 reads.ends.1 in
    let after : b ≡ at_end a w (Some fault) = valid ∙ same_assembling refl refl refl refl (ap (drop 0) empty) refl refl in
    subst (λ b. PassesNext old new a b (Ok None)) (sym after) (record { read = Ok (Fault fault); reads = reads; answer = refl; valid = refl })

no_text_failed : (apid : ℕ) (p q : Outside) (v w : Intake) (took : List ℕ) (saw_end : Bool) (fault : InFault) →
    EndsPacket apid p q (fed v took saw_end) w (Err fault) → w.text ≡ []
no_text_failed apid p q v w took saw_end ReadFault ends = ap (λ w. w.text) ends.2
no_text_failed apid p q v w took saw_end LongInput ends = no_text apid (fed v took saw_end) w (long_read apid (fed v took saw_end) LongInput ends.0).none ends.1
no_text_failed apid p q v w took saw_end Broken ends = no_text apid (fed v took saw_end) w (long_read apid (fed v took saw_end) Broken ends.0).none ends.1

pub failed_passes : {old new : Outside} {a b : Assembling} {w : Intake} {fault : InFault} →
    ReadsPacket a.apid old new a.intake w (Err fault) → b ≡ read_into a w → PassesNext old new a b (Err fault)
failed_passes {old = old} {new = new} {a = a} {b = b} {w = w} {fault = fault} reads valid =
    let empty : w.text ≡ [] = no_text_failed a.apid old new a.intake w reads.took reads.saw_end fault reads.ends in
    let after : b ≡ at_end a w a.framing = valid ∙ same_assembling refl refl refl refl (ap (drop 0) empty) refl refl in
    subst (λ b. PassesNext old new a b (Err fault)) (sym after) (record { read = Err fault; reads = reads; answer = refl; valid = refl })

-- ---- counts

pub counted_on : (packets : ℕ) {apid : ℕ} {p q : Outside} {v w : Intake} {result : Result PacketRead InFault} → packets + length v.pending ≤ v.taken →
    ReadsPacket apid p q v w result →
    (packets + length w.pending ≤ w.taken) × (w.taken ≤ w.cap) × (w.cap ≡ v.cap)
counted_on packets {apid = apid} {p = p} {q = q} {v = v} {w = w} {result = result} counted reads = grind (arith, nat_tests, ends_go, length-append)

pub counted_mine : (packets : ℕ) {apid : ℕ} {p q : Outside} {v w : Intake} {head : PacketHead} {reports : Ancillary} → packets + length v.pending ≤ v.taken →
    ReadsPacket apid p q v w (Ok (Mine head reports)) →
    packets + length w.pending < w.taken
counted_mine packets {apid = apid} {p = p} {q = q} {v = v} {w = w} {head = head} {reports = reports} counted reads =
    let u = fed v reads.took reads.saw_end in
    let m = mine_read apid u head reports reads.ends.0 in
    counted_packet apid v w reads.took reads.saw_end packets counted m.whole reads.ends.1

pub counted_other : (packets : ℕ) {apid : ℕ} {p q : Outside} {v w : Intake} {skip : Skip} → packets + length v.pending ≤ v.taken →
    ReadsPacket apid p q v w (Ok (Skipped skip)) →
    packets + length w.pending < w.taken
counted_other packets {apid = apid} {p = p} {q = q} {v = v} {w = w} {skip = skip} counted reads =
    let u = fed v reads.took reads.saw_end in
    counted_packet apid v w reads.took reads.saw_end packets counted (other_read apid u skip reads.ends.0).whole reads.ends.1

-- the data field of a packet of the image has its ancillary data
pub mine_field : {apid : ℕ} {p q : Outside} {v w : Intake} {head : PacketHead} {reports : Ancillary} → ReadsPacket apid p q v w (Ok (Mine head reports)) →
    24 ≤ head.length
mine_field {apid = apid} {v = v} {head = head} {reports = reports} reads = grind (arith, nat_tests, mine_read, long_field)
