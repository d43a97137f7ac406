-- How a list ends.
use Rattle.std.proofs.Common.{◌≡◌, ◌≤◌, ◌+◌, ℕ, List, [], ◌++◌, length, take, sym, ap, subst, ◌∙◌, arith, length-append, ◌⊎◌, true, false, Option, None}
use Rattle.std.proofs.Common.{Some, Result, Ok, Err}
use Rattle.std.proofs.lemmas.Bool.{false≢true}
use Rattle.std.proofs.lemmas.List.{append-nil, take-append-le}
use Rattle.std.proofs.Math.Seq.{take-append-add}
use Rattle.std.proofs.lemmas.Bool.Decides.{nat_tests}
use Rattle.base_122.specs.declared.wish.DecodeWish.{DecodeWish}
use Rattle.bit_pipe.specs.declared.fault.InFault.{InFault}
use Rattle.bit_pipe.specs.declared.fault.InFault.TheVariants as in_faults
use Rattle.port_122.specs.Outside.{Outside}
use Rattle.port_122.proofs.Stretches.{rose_since, since_out}
use Rattle.packet_defs.specs.declared.packet.Framing.{Framing}
use Rattle.packet_defs.specs.Streams.{begins_packet, whole_packets}
use Rattle.space_packets.proofs.StreamReads.{undecided_none}
use Rattle.packet_assembly.specs.declared.note.Passed.{Passed}
use Rattle.packet_assembly.specs.Assembling.{Assembling}
use Rattle.packet_assembly.specs.Notes.{note_in, PassesNext, ReadsNote}
use Rattle.packet_assembly.specs.Passing.{whole_after}
use Rattle.packet_assembly.proofs.OneStep.{NoneOn, EndOn, end_on as step_end_on}
use Rattle.space_packets.proofs.Verdicts.{long_read}
use Rattle.packet_assembly.specs.Readings.{HasRead}
use Rattle.packet_assembly.proofs.Readings.{read_on, readable_more, read_within, end_on, whole_so, ended_none, ended_packets, ended_framing, ended_out}
use Rattle.packet_assembly.proofs.Readings.{long_packets, long_good, long_full}
use Rattle.strip_decoder.specs.declared.list.ListFault.{ListFault}
use Rattle.strip_decoder.specs.declared.list.ListFault.TheVariants.{ReadFault, WriteFault, LongInput, Memory}
use Rattle.strip_decoder.specs.PacketLines.{lines_of, listing}
use Rattle.strip_decoder.specs.ListProgress.{HasListed}
use Rattle.strip_decoder.specs.ListSteps.{GaveDue, GavePart, ListsThen, ListsNext}
use Rattle.strip_decoder.specs.ListAnswers.{Lists}
use Rattle.strip_decoder.proofs.LineLaws.{lines-prefix}
use Rattle.strip_decoder.proofs.Readings.{Anywhere, gave_on, given_on, begins_more, read_since, fail_note}

-- ---- no packet more

pub stays_listed : {wish : DecodeWish} {start now new : Outside} {a b : Assembling} {packets : ℕ} {waiting : List ℕ} →
    HasListed wish start now a packets waiting →
    (waiting ≡ []) ⊎ (begins_packet a.intake.pending ≡ true) → NoneOn Anywhere now new a b → HasListed wish start new b packets waiting
stays_listed {wish = wish} {b = b} arrived due none =
    let q = none.passes in
    record {
      took = arrived.took ++ q.took;
      passed = arrived.passed;
      gave = arrived.gave;
      lines_are = arrived.lines_are;
      since = read_since arrived due q none.asks;
      readable = readable_more wish.apid wish.octets arrived.read arrived.readable q.readable;
      read = subst (HasRead wish.apid wish.octets b (arrived.took ++ q.took)) (append-nil arrived.passed) (read_on wish.apid wish.octets arrived.read q);
      at_end = end_on q arrived.at_end;
      packets_are = arrived.packets_are;
    }

-- If no whole packet waits afterwards, none did before, so all lines were given.
all_given : {wish : DecodeWish} {start now new : Outside} {a b : Assembling} {packets : ℕ} {waiting : List ℕ}
    (arrived : HasListed wish start new b packets waiting) →
    (waiting ≡ []) ⊎ (begins_packet a.intake.pending ≡ true) → NoneOn Anywhere now new a b → begins_packet b.intake.pending ≡ false →
    arrived.gave ≡ lines_of wish.apid arrived.passed
all_given {a = a} {b = b} arrived due none over = grind (arith, nat_tests, append-nil, false≢true, begins_more)

-- what is known once no packet was read
record NoneMore (wish : DecodeWish) (start new : Outside) (b : Assembling) (packets : ℕ) : Type 0 where
  waiting : List ℕ
  arrived : HasListed wish start new b packets waiting
  all : begins_packet b.intake.pending ≡ false → arrived.gave ≡ lines_of wish.apid arrived.passed

none_more : {wish : DecodeWish} {start now new : Outside} {a b : Assembling} {packets : ℕ} {before waiting : List ℕ} →
    HasListed wish start now a packets before → (between : Outside) →
    GaveDue now between a before waiting → NoneOn Anywhere between new a b → NoneMore wish start new b packets
none_more {waiting = waiting} arrived between given none =
    let stays = stays_listed (given_on arrived given) given.due none in
    record { waiting = waiting; arrived = stays; all = all_given stays given.due none }

-- ---- the answers

-- the end was read
end_read_on : {old new : Outside} {a b : Assembling} → ReadsNote old new a b (Ok None) → EndOn Anywhere old new a b
end_read_on {old = old} {new = new} {a = a} {b = b} x = by x.step x.passes x.answer
  where
    by : (step : Result (Option Passed) InFault) → PassesNext old new a b step → Ok None ≡ note_in step → EndOn Anywhere old new a b
    by (Ok None) passes is = step_end_on passes tt
    by (Ok (Some if_known)) passes is = absurd cc
    by (Err fault) passes is = absurd cc

-- all packets were listed
pub all_listed : {wish : DecodeWish} {start now new : Outside} {a b : Assembling} {packets : ℕ} {before waiting : List ℕ} (found : Option Framing) →
    HasListed wish start now a packets before →
    ListsThen now new a b before waiting (Ok None) → found ≡ b.framing → Lists wish start new (Ok (record { packets = packets; framing = found }))
all_listed {wish = wish} {new = new} {b = b} found before x is =
    let over = end_read_on x.reads in
    let end = none_more before x.between x.given over.none in
    let arrived = end.arrived in
    let whole = ended_packets arrived.read over.ended in
    record {
      took = arrived.took;
      gave = arrived.gave;
      since = arrived.since;
      readable = arrived.readable;
      within = read_within arrived.read;
      answer = record {
        lines = end.all (ended_none arrived.read over.ended) ∙ ap (lines_of wish.apid) (sym whole);
        packets = arrived.packets_are ∙ ap length (sym whole);
        framing_is = is ∙ ended_framing arrived.read over.ended;
        out = ended_out arrived.read new over.ended arrived.at_end;
      };
    }

-- a read failed when no whole packet waited
fault_none : {now new : Outside} {a b : Assembling} → PassesNext now new a b (Err in_faults.ReadFault) → begins_packet b.intake.pending ≡ false
fault_none {now = now} {new = new} {a = a} {b = b} x = grind (arith, nat_tests, undecided_none)

long_listed : {wish : DecodeWish} {start now new : Outside} {a b : Assembling} {packets : ℕ} {before waiting : List ℕ} →
    HasListed wish start now a packets before →
    ListsThen now new a b before waiting (Err in_faults.LongInput) → Lists wish start new (Err LongInput)
long_listed {wish = wish} {b = b} before x =
    let fail = fail_note in_faults.LongInput x.reads in
    let end = none_more before x.between x.given fail.fails.none in
    let arrived = end.arrived in
    let long = fail.fails.fails in
    record {
      took = arrived.took;
      gave = arrived.gave;
      since = arrived.since;
      readable = arrived.readable;
      within = read_within arrived.read;
      answer = (
        long_full arrived.read long,
        long_good arrived.read long,
        end.all (long_read b.apid b.intake in_faults.LongInput long).none ∙ ap (lines_of wish.apid) (sym (long_packets arrived.read long)),
      );
    }

read_failed : {wish : DecodeWish} {start now new : Outside} {a b : Assembling} {packets : ℕ} {before waiting : List ℕ} →
    HasListed wish start now a packets before →
    ListsThen now new a b before waiting (Err in_faults.ReadFault) → Lists wish start new (Err ReadFault)
read_failed {wish = wish} {b = b} before x =
    let fail = fail_note in_faults.ReadFault x.reads in
    let mid = given_on before x.given in
    let end = none_more before x.between x.given fail.fails.none in
    let arrived = end.arrived in
    let none = fault_none fail.passes in
    record {
      took = arrived.took;
      gave = arrived.gave;
      since = arrived.since;
      readable = arrived.readable;
      within = read_within arrived.read;
      answer = (rose_since mid.since.faults.reads fail.fails.fails, end.all none ∙ ap (lines_of wish.apid) (sym (whole_so arrived.read none)));
    }

-- a prefix of the lines that waited was given after all lines before
write_failed : {wish : DecodeWish} {start now : Outside} {a : Assembling} {packets : ℕ} {before : List ℕ} (new : Outside) →
    HasListed wish start now a packets before → GavePart now new before → Lists wish start new (Err WriteFault)
write_failed {wish = wish} {a = a} {before = before} new arrived x =
    let gave = arrived.gave in
    let lines = lines_of wish.apid arrived.passed in
    let whole : whole_packets arrived.took ≡ arrived.passed ++ whole_packets a.intake.pending =
    ap whole_packets arrived.read.octets_are ∙ whole_after arrived.passed a.intake.pending arrived.read.packets_are in
    let all = lines-prefix wish.apid arrived.passed (whole_packets a.intake.pending) in
    let some = length gave + x.some in
    let few : some ≤ length lines = omega (arith, x.within, ap length arrived.lines_are, length-append gave before) in
    let prefix : take some (listing wish.apid arrived.took) ≡ gave ++ take x.some before = grind (arith, nat_tests, take-append-le, take-append-add) in
    record {
      took = arrived.took;
      gave = gave ++ take x.some before;
      since = gave_on arrived x.gives;
      readable = since_out arrived.readable x.gives;
      within = read_within arrived.read;
      answer = (rose_since arrived.since.faults.writes x.rose, (some, sym prefix));
    }

pub lists_failed : {wish : DecodeWish} {start now : Outside} {a : Assembling} {packets : ℕ} {before : List ℕ} (new : Outside) (b : Assembling)
    (waiting : List ℕ) (fault : ListFault) →
    HasListed wish start now a packets before → ListsNext now new a b before waiting (Err fault) → Lists wish start new (Err fault)
lists_failed new b waiting ReadFault before x = read_failed before x
lists_failed new b waiting LongInput before x = long_listed before x
lists_failed new b waiting WriteFault before x = write_failed new before x
lists_failed new b waiting Memory before x = absurd x
