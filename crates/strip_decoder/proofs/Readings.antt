-- A list continues by one packet, or by none.
use Rattle.std.proofs.Common.{◌≡◌, ◌≤◌, ◌<◌, ◌+◌, ℕ, List, [], ◌∷◌, ◌++◌, length, take, refl, sym, ap, subst, ◌∙◌, arith, append_assoc, length-append, ◌⊎◌}
use Rattle.std.proofs.Common.{true, Option, None, Some, Result, Ok, Err}
use Rattle.std.proofs.lemmas.Bool.{false≢true}
use Rattle.std.proofs.lemmas.List.{append-nil, take-append-le, take_all}
use Rattle.std.proofs.Math.Seq.{take-append-add}
use Rattle.std.proofs.lemmas.Bool.Decides.{nat_tests}
use Rattle.base_122.specs.declared.wish.DecodeWish.{DecodeWish}
use Rattle.bit_pipe.specs.declared.fault.InFault.{InFault}
use Rattle.bit_pipe.specs.declared.fault.InFault.TheVariants.{ReadFault, LongInput, Broken}
use Rattle.port_122.specs.Outside.{Outside, Exchange, NoRead}
use Rattle.port_122.proofs.Stretches.{since_start, since_then, since_out, since_weaker}
use Rattle.packet_defs.specs.Packets.{joined}
use Rattle.packet_defs.specs.Streams.{begins_packet, whole_packets}
use Rattle.packet_defs.proofs.Prefixes.{begins_so, so_begins, begins-append}
use Rattle.packet_defs.proofs.Splits.{whole_splits}
use Rattle.stream_defs.specs.declared.fate.FateState.{FateState}
use Rattle.packet_assembly.specs.declared.note.PacketNote.{PacketNote}
use Rattle.packet_assembly.specs.declared.note.Passed.{Passed}
use Rattle.packet_assembly.specs.Assembling.{Assembling, Passes, unread_assembly}
use Rattle.packet_assembly.specs.Notes.{note_in, PassesNext, ReadsNote}
use Rattle.packet_assembly.specs.Passing.{whole_after}
use Rattle.packet_assembly.specs.Readings.{HasRead}
use Rattle.packet_assembly.proofs.Readings.{none_read, read_on, readable_more, end_on, end_later}
use Rattle.packet_assembly.proofs.OneStep.{AsksNone, OneOn, FailOn, one_on, fail_on, measure}
use Rattle.strip_decoder.specs.PacketLines.{line_of, lines_of, listing}
use Rattle.strip_decoder.specs.ListProgress.{AsksListed, HasListed}
use Rattle.strip_decoder.specs.ListSteps.{GaveDue, ListsOne}
use Rattle.strip_decoder.proofs.LineLaws.{lines-none, lines-more}

-- no condition on a state
abbrev pub Anywhere : FateState → Type 0
Anywhere s = Unit {0}

-- ---- what was given

-- a read call at earlier octets is unchanged, whatever is taken afterwards
asks_took : (apid : ℕ) (took t gave : List ℕ) (i j : ℕ) → i ≤ length took → AsksListed apid took gave i j → AsksListed apid (took ++ t) gave i j
asks_took apid took t gave i j le asks = (asks.0, asks.1 ∙ ap (listing apid) (sym (take-append-le i took t le)))

-- and whatever is given
asks_gave : (apid : ℕ) (took gave g : List ℕ) (i j : ℕ) → AsksListed apid took gave i j → AsksListed apid took (gave ++ g) i j
asks_gave apid took gave g i j asks = (omega (arith, asks.0, length-append gave g), take-append-le j gave g asks.0 ∙ asks.1)

-- some octets more were given
pub gave_on : {wish : DecodeWish} {start now new : Outside} {a : Assembling} {packets : ℕ} {before g : List ℕ} →
    (arrived : HasListed wish start now a packets before) → Exchange now new [] g [] NoRead →
    Exchange start new arrived.took (arrived.gave ++ g) [] (AsksListed wish.apid arrived.took (arrived.gave ++ g))
gave_on {wish = wish} {g = g} arrived gives = since_out (since_weaker arrived.since (λ i j le r. asks_gave wish.apid arrived.took arrived.gave g i j r)) gives

-- what was due was given
pub given_on : {wish : DecodeWish} {start now new : Outside} {a : Assembling} {packets : ℕ} {before waiting : List ℕ} →
    HasListed wish start now a packets before → GaveDue now new a before waiting →
    HasListed wish start new a packets waiting
given_on {a = a} {waiting = waiting} arrived x = record {
  took = arrived.took;
  passed = arrived.passed;
  gave = arrived.gave ++ x.gave;
  lines_are = append_assoc arrived.gave x.gave waiting ∙ ap (λ zs. arrived.gave ++ zs) x.lines_are ∙ arrived.lines_are;
  since = gave_on arrived x.gives;
  readable = since_out arrived.readable x.gives;
  read = arrived.read;
  at_end = end_later a x.gives arrived.at_end;
  packets_are = arrived.packets_are;
}

-- ---- octets that begin with a whole packet

-- octets that begin with a packet have one, whatever follows them
pub begins_more : (octets more : List ℕ) → begins_packet octets ≡ true → begins_packet (octets ++ more) ≡ true
begins_more octets more there = so_begins (octets ++ more) (begins-append more (begins_so octets there))

some_whole : (octets more : List ℕ) → begins_packet octets ≡ true → whole_packets (octets ++ more) ≡ [] → ⊥
some_whole octets more there none =
    let s = whole_splits (octets ++ more) in
    grind (arith, nat_tests, false≢true, begins_more)

module _ {wish : DecodeWish} {start now new : Outside} {a b : Assembling} {packets : ℕ} {waiting : List ℕ} {went : List (List ℕ)}
    (arrived : HasListed wish start now a packets waiting)
    (due : (waiting ≡ []) ⊎ (begins_packet a.intake.pending ≡ true)) (q : Passes Anywhere now new a b went)
    (asks : Exchange now new q.took [] [] (AsksNone a q.took)) where
  -- at a read call of the step no packet more is whole
  same_whole : (i : ℕ) → whole_packets (a.intake.pending ++ take i q.took) ≡ [] → whole_packets (take (length arrived.took + i) (arrived.took ++ q.took))
      ≡ arrived.passed
  same_whole i none =
      let octets : take (length arrived.took + i) (arrived.took ++ q.took) ≡ joined arrived.passed ++ (a.intake.pending ++ take i q.took) =
      grind (arith, nat_tests, length, take-append-add, append_assoc) in
      ap whole_packets octets ∙ whole_after arrived.passed (a.intake.pending ++ take i q.took) arrived.read.packets_are ∙ ap (λ xs. arrived.passed ++ xs) none
      ∙ append-nil arrived.passed

  -- and no line waits
  all_given : (i : ℕ) → whole_packets (a.intake.pending ++ take i q.took) ≡ [] → arrived.gave ≡ lines_of wish.apid arrived.passed
  all_given i none = grind (arith, nat_tests, append-nil, some_whole)

  asks_now : (i j : ℕ) → AsksNone a q.took i j → AsksListed wish.apid (arrived.took ++ q.took) arrived.gave (length arrived.took + i) (length arrived.gave + j)
  asks_now i j r = grind (arith, nat_tests, length, take_all, all_given, same_whole)

  pub read_since : Exchange start new (arrived.took ++ q.took) arrived.gave [] (AsksListed wish.apid (arrived.took ++ q.took) arrived.gave)
  read_since =
      let took : List ℕ = arrived.took ++ q.took in
      let Q : ℕ → ℕ → Type 0 = AsksListed wish.apid took arrived.gave in
      let first : Exchange start now arrived.took arrived.gave [] Q =
      since_weaker arrived.since (λ i j le r. asks_took wish.apid arrived.took q.took arrived.gave i j le r) in
      let both : Exchange start new took (arrived.gave ++ []) [] Q = since_then first asks (λ i j le r. asks_now i j r) in
      subst (λ zs. Exchange start new took zs [] Q) (append-nil arrived.gave) both

-- ---- the steps

-- nothing was listed yet
pub none_listed : (wish : DecodeWish) (start : Outside) (a : Assembling) → a ≡ unread_assembly wish.apid wish.octets → HasListed wish start start a 0 []
none_listed wish start a unread = subst (λ a. HasListed wish start start a 0 []) (sym unread) (record {
  took = [];
  passed = [];
  gave = [];
  lines_are = sym (lines-none wish.apid);
  since = since_start start _;
  readable = since_start start _;
  read = none_read wish.apid wish.octets;
  at_end = λ rest if_known ended. absurd (false≢true ended);
  packets_are = refl;
})

-- what was read for a note
pub record NoteOn (old new : Outside) (a b : Assembling) (note : PacketNote) : Type 0 where
  pub if_known : Passed
  pub note_is : if_known.note ≡ note
  pub one : OneOn Anywhere old new a b if_known

pub note_on : {old new : Outside} {a b : Assembling} {note : PacketNote} → ReadsNote old new a b (Ok (Some note)) → NoteOn old new a b note
note_on {old = old} {new = new} {a = a} {b = b} {note = note} x = grind (arith, nat_tests, one_on)

-- why none was read
pub record FailNote (old new : Outside) (a b : Assembling) (fault : InFault) : Type 0 where
  pub passes : PassesNext old new a b (Err fault)
  pub fails : FailOn Anywhere old new a b fault

pub fail_note : {old new : Outside} {a b : Assembling} (fault : InFault) → ReadsNote old new a b (Err fault) → FailNote old new a b fault
fail_note {old = old} {new = new} {a = a} {b = b} fault x = by x.step x.passes x.answer
  where
    by : (step : Result (Option Passed) InFault) → PassesNext old new a b step → Err fault ≡ note_in step → FailNote old new a b fault
    by (Ok None) passes is = absurd cc
    by (Ok (Some if_known)) passes is = absurd cc
    by (Err other) passes is =
        let same : other ≡ fault = cc in
        let here : PassesNext old new a b (Err fault) = subst (λ f. PassesNext old new a b (Err f)) same passes in
        record { passes = here; fails = fail_on {P = Anywhere} here tt }

-- if the input isn't too long, a read failed
pub read_fault : {old new : Outside} {a b : Assembling} (fault : InFault) → (fault ≡ LongInput → ⊥) → ReadsNote old new a b (Err fault) →
    ReadsNote old new a b (Err ReadFault)
read_fault ReadFault never x = x
read_fault LongInput never x = absurd (never refl)
read_fault Broken never x = absurd ((fail_note Broken x).fails.fails)

-- the line of the next packet
pub next_line : {old new : Outside} {a b : Assembling} {note : PacketNote} (wish : DecodeWish) (took : List ℕ) (passed : List (List ℕ)) →
    HasRead wish.apid wish.octets a took passed → (x : NoteOn old new a b note) →
    lines_of wish.apid (passed ++ x.one.packet ∷ []) ≡ lines_of wish.apid passed ++ line_of note
next_line {a = a} {note = note} wish took passed read x = grind (arith, nat_tests, lines-more)

-- one packet more was listed
pub one_listed : {wish : DecodeWish} {start now new : Outside} {a b : Assembling} {packets : ℕ} {before waiting : List ℕ} →
    HasListed wish start now a packets before → ListsOne now new a b before waiting →
    HasListed wish start new b (packets + 1) waiting
one_listed {wish = wish} arrived x =
    let given = x.lists.given in
    let mid = given_on arrived given in
    let n = note_on x.lists.reads in
    let q = n.one.passes in
    let lines = next_line wish mid.took mid.passed mid.read n in
    record {
      took = mid.took ++ q.took;
      passed = mid.passed ++ n.one.packet ∷ [];
      gave = mid.gave;
      lines_are = ap (λ zs. mid.gave ++ zs) x.lines_are ∙ sym (append_assoc mid.gave x.earlier (line_of x.note)) ∙ ap (λ zs. zs ++ line_of x.note)
          mid.lines_are ∙ sym lines;
      since = read_since mid given.due q n.one.asks;
      readable = readable_more wish.apid wish.octets mid.read mid.readable q.readable;
      read = read_on wish.apid wish.octets mid.read q;
      at_end = end_on q mid.at_end;
      packets_are = omega (arith, arrived.packets_are, length-append mid.passed (n.one.packet ∷ []));
    }

-- fewer octets are left to be read then
pub less_left : {old new : Outside} {a b : Assembling} {before waiting : List ℕ} → ListsOne old new a b before waiting → measure b < measure a
less_left x = (note_on x.lists.reads).one.less
