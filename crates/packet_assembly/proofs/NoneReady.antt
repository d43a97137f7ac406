-- No call reads while an octet of a text, its end or its break is in the reader.
use Rattle.std.proofs.lemmas.Bool.Decides.{nat_tests}
use Rattle.std.proofs.Common.{◌≡◌, ℕ, List, [], ◌∷◌, ◌++◌, take, refl, sym, ap, subst, ◌∙◌, arith, append_assoc, false, None}
use Rattle.std.specs.List.{AllByRecursion}
use Rattle.std.proofs.lemmas.List.{append-nil, take-append-le}
use Rattle.std.proofs.Math.Seq.{take-append-add}
use Rattle.port_122.specs.Outside.{Outside, Exchange}
use Rattle.port_122.proofs.Stretches.{since_start, since_then, since_weaker, each_of_both}
use Rattle.packet_defs.specs.Packets.{joined}
use Rattle.packet_defs.specs.Streams.{IsPacket, whole_packets}
use Rattle.packet_defs.proofs.Joins.{joined-append}
use Rattle.stream_defs.proofs.ChosenLaws.{after_all-append}
use Rattle.stream_defs.specs.declared.fate.FateState.{FateState}
use Rattle.stream_defs.specs.Fates.{after, after_all}
use Rattle.packet_assembly.specs.declared.note.Passed.{Passed}
use Rattle.packet_assembly.specs.Assembling.{Assembling, is_first, is_closed}
use Rattle.packet_assembly.specs.Notes.{text_brought}
use Rattle.packet_assembly.specs.Passing.{whole_after}
use Rattle.packet_assembly.specs.Texts.{BringsNone, NoneReady, AsksNoneReady, Silent}
use Rattle.packet_assembly.proofs.OneStep.{AsksNone, OneOn}

pub brings_more : (apid : ℕ) (s : FateState) (packets : List (List ℕ)) (packet : List ℕ) → BringsNone apid s packets →
    text_brought apid (after_all apid s packets) packet ≡ [] →
    is_first apid (after_all apid s packets) packet ≡ false → is_closed (after apid (after_all apid s packets) packet).last ≡ false →
    BringsNone apid s (packets ++ packet ∷ [])
brings_more apid s [] packet none text first closed = (text, first, closed, tt)
brings_more apid s (x ∷ packets) packet none text first closed =
    (none.0, none.1, none.2, brings_more apid (after apid s x) packets packet none.3 text first closed)

-- packets that were passed; if they leave the text open and no octet of it waits, no read call was made while one was in the reader
pub record Quiet (old new : Outside) (a b : Assembling) : Type 0 where
  pub took : List ℕ
  pub passed : List (List ℕ)
  pub octets_are : a.intake.pending ++ took ≡ joined passed ++ b.intake.pending
  pub packets_are : AllByRecursion IsPacket passed
  pub apid : b.apid ≡ a.apid
  pub state : b.state ≡ after_all a.apid a.state passed
  pub asks : Exchange old new took [] [] (AsksNoneReady a took)
  pub none_ready : b.text ≡ [] → is_closed b.state.last ≡ false → NoneReady a passed

pub quiet_nothing : (p : Outside) (a : Assembling) → a.held ≡ None → Quiet p p a a
quiet_nothing p a unheld = record {
  took = [];
  passed = [];
  octets_are = append-nil a.intake.pending;
  packets_are = tt;
  apid = refl;
  state = refl;
  asks = since_start p _;
  none_ready = λ empty going. record { unheld = unheld; empty = empty; unclosed = going; none = tt };
}

-- a stretch whose packets left the text open, and then one in which a read was before any packet
none_ready_then : {old mid new : Outside} {a b : Assembling} → (q : Quiet old mid a b) → (more : List ℕ) → NoneReady a q.passed →
    Exchange mid new more [] [] (AsksNone b more) →
    Exchange old new (q.took ++ more) [] [] (AsksNoneReady a (q.took ++ more))
none_ready_then {old = old} {mid = mid} {a = a} {b = b} q more none_ready asks =
    let took = q.took ++ more in
    let first : Exchange old mid q.took [] [] (AsksNoneReady a took) = grind (arith, nat_tests, since_weaker, take-append-le) in
    let here = λ (i : ℕ) (none : whole_packets (b.intake.pending ++ take i more) ≡ []).
    ap (λ zs. whole_packets (a.intake.pending ++ zs)) (take-append-add q.took more i)
    ∙ ap whole_packets (sym (append_assoc a.intake.pending q.took (take i more)) ∙ ap (λ zs. zs ++ take i more) q.octets_are ∙ append_assoc
    (joined q.passed) b.intake.pending (take i more))
    ∙ whole_after q.passed (b.intake.pending ++ take i more) q.packets_are
    ∙ ap (λ ps. q.passed ++ ps) none ∙ append-nil q.passed in
    since_then first asks (λ i j le r. (subst (λ ps. NoneReady a ps) (sym (here i r.0)) none_ready, omega (arith, r.1)))

-- a read that found no packet
pub quiet_then : {old mid new : Outside} {a b : Assembling} → (q : Quiet old mid a b) → b.text ≡ [] → is_closed b.state.last ≡ false → (more : List ℕ) →
    Exchange mid new more [] [] (AsksNone b more) →
    Silent old new a
quiet_then q empty going more asks = record { took = q.took ++ more; asks = none_ready_then q more (q.none_ready empty going) asks }

-- a packet that leaves the text unchanged
quiet_packet : {old mid : Outside} {a b : Assembling} → (q : Quiet old mid a b) → NoneReady a q.passed → (packet : List ℕ) →
    text_brought b.apid b.state packet ≡ [] →
    is_first b.apid b.state packet ≡ false → is_closed (after b.apid b.state packet).last ≡ false → NoneReady a (q.passed ++ packet ∷ [])
quiet_packet {a = a} {b = b} q u packet text first closed = grind (arith, nat_tests, brings_more)

-- a packet more that begins no segment
pub quiet_more : {P : FateState → Type 0} {old mid new : Outside} {a b c : Assembling} {if_known : Passed} → (q : Quiet old mid a b) → b.text ≡ [] →
    is_closed b.state.last ≡ false → (one : OneOn P mid new b c if_known) →
    is_first b.apid b.state one.packet ≡ false → Quiet old new a c
quiet_more {a = a} {b = b} {c = c} q empty going one first =
    let u = q.none_ready empty going in
    record {
      took = q.took ++ one.passes.took;
      passed = q.passed ++ one.packet ∷ [];
      octets_are = sym (append_assoc a.intake.pending q.took one.passes.took) ∙ ap (λ zs. zs ++ one.passes.took) q.octets_are
          ∙ append_assoc (joined q.passed) b.intake.pending one.passes.took
          ∙ ap (λ zs. joined q.passed ++ zs) one.passes.octets_are ∙ sym (append_assoc (joined q.passed) (joined (one.packet ∷ [])) c.intake.pending)
          ∙ ap (λ zs. zs ++ c.intake.pending) (sym (joined-append q.passed (one.packet ∷ [])));
      packets_are = each_of_both IsPacket q.passed (one.packet ∷ []) q.packets_are (one.is_packet, tt);
      apid = one.passes.apid ∙ q.apid;
      state = one.state ∙ ap (λ n. after n b.state one.packet) q.apid ∙ ap (λ s. after a.apid s one.packet) q.state
          ∙ sym (after_all-append a.apid a.state q.passed (one.packet ∷ []));
      asks = none_ready_then q one.passes.took u one.asks;
      none_ready = λ no_text open_still. quiet_packet q u one.packet (sym one.text ∙ no_text) first (sym (ap (λ s. is_closed s.last) one.state) ∙ open_still);
    }
