-- The effect of a run of `list`, `pick` and `info` after its note, and what follows for each status.
use Rattle.std.proofs.Common.{◌≡◌, ◌≤◌, ℕ, List, [], ◌+◌, ◌++◌, length, refl, sym, ◌∙◌, subst, arith, ap, length-append, inl, inr, true, false, ◌⊎◌, Option}
use Rattle.std.proofs.Common.{Result, Ok, Err, Some}
use Rattle.port_122.specs.Outside.{Outside, Exchange, NoRead, Rose}
use Rattle.base_122.specs.declared.wish.DecodeWish.{DecodeWish}
use Rattle.packet_defs.specs.Streams.{whole_packets, left_over, has_bad_version}
use Rattle.packet_assembly.specs.Readings.{IsReadOut, AsksReadable}
use Rattle.strip_decoder.specs.declared.list.ListDone.{ListDone}
use Rattle.strip_decoder.specs.declared.list.ListFault.{ListFault}
use Rattle.strip_decoder.specs.declared.list.ListFault.TheVariants.{ReadFault, WriteFault, LongInput, Memory}
use Rattle.strip_decoder.specs.ListAnswers.{Answers}
use Rattle.camera_mux.specs.PickAnswers.{Answers as PickAnswers}
use Rattle.camera_mux.specs.declared.info.InfoDone.{InfoDone}
use Rattle.camera_mux.specs.declared.info.InfoFault.{InfoFault}
use Rattle.camera_mux.specs.declared.info.InfoFault.TheVariants.{ReadFault as info_read_failed, WriteFault as info_write_failed, LongInput as info_long}
use Rattle.camera_mux.specs.declared.info.InfoFault.TheVariants.{TooManyImages, Memory as info_memory}
use Rattle.camera_mux.specs.declared.info.InfoWish.{InfoWish}
use Rattle.camera_mux.specs.InfoAnswers.{Answers as InfoAnswers, image_count}
use Rattle.camera_mux.specs.Images.{images as images_of}
use Rattle.camera_mux.proofs.ImageLists.{images-prefix}
use Rattle.strip_decoder.proofs.Asking.{leading_packets}
use Rattle.port_122.proofs.BothAsked.{since_both}
use Rattle.strip122.specs.Notes.{IsNoted, Notes}
use Rattle.strip122.specs.DamageNotes.{ReportsDone}
use Rattle.strip122.specs.Listing.{Reader, WithMemory, reader_asks, Reads, reads_packets, lister}
use Rattle.strip122.specs.Listing.{picker, informer, info_fault_of}
use Rattle.strip122.proofs.Reports.{list_fault_status, list_fault_line, memory_line, done_status, done_line, reader_status, reader_line}
use Rattle.strip122.proofs.NoteLines.{ran_on, nothing_noted}
use Rattle.strip122.specs.Outcomes.{AtStatus, ReadRefuses, reader_outcomes}
use Rattle.strip122.proofs.Behaviours.{Law}
use Rattle.strip122.proofs.ReadOut.{took_prefix}
use Rattle.strip122.proofs.PacketInputs.{not_full, all_read, ends_within}
use Rattle.strip122.proofs.Decoded.{out_later, undamaged_status, damaged_status, status_small, whole_line, lacking_line}

-- ---- what follows from the answers

-- what follows from a fault for the octets and the counts, whatever was given
abbrev pub FaultSays : (cap : ℕ) → (Few : List ℕ → Type 0) → Outside → Outside → List ℕ → List ℕ → ListFault → Type 0
FaultSays cap Few old new took gave LongInput = ((length took ≡ cap) × (has_bad_version (left_over took) ≡ false)) ⊎ (Few took → ⊥)
FaultSays cap Few old new took gave ReadFault = Rose old.read_faults new.read_faults
FaultSays cap Few old new took gave WriteFault = Rose old.write_faults new.write_faults
FaultSays cap Few old new took gave Memory = old ≡ new

-- This follows from all answers of an engine, which are also answers after a note. Whether the packets are few enough to be listed depends
-- only on the whole packets, and holds for a prefix too.
pub record IsReader {D F : Type 0} (r : Reader D F) : Type 0 where
  pub done : (old new : Outside) (took gave : List ℕ) (done : D) → r.causes old new took gave (Ok done) → IsReadOut r.cap new took × r.Few took
  pub say : (old new : Outside) (took gave : List ℕ) (fault : F) → r.causes old new took gave (Err fault) →
      FaultSays r.cap r.Few old new took gave (r.fault_of fault)
  pub later : (a b c : Outside) (took gave wrote : List ℕ) (answer : Result D F) → Exchange b c [] [] wrote NoRead → WithMemory r a b took gave answer →
      WithMemory r a c took gave answer
  pub fewer : (took more : List ℕ) → r.Few (took ++ more) → r.Few took
  pub same : (took other : List ℕ) → whole_packets took ≡ whole_packets other → r.Few took → r.Few other

module _ {D F : Type 0} (r : Reader D F) (engine : IsReader r) where
  -- ---- after the note

  module _ {a b c : Outside} {took gave : List ℕ} (since : Exchange a b took gave [] (r.asks a took gave))
      (readable : Exchange a b took gave [] (AsksReadable r.cap took)) (within : length took ≤ r.cap) (status : ℕ) where
    pub if_known : (done : D) → r.causes a b took gave (Ok done) → ReportsDone [] true (r.framing_of done) b c status → Reads r a c status
    if_known done k n =
        let run : Exchange a b took gave [] (reader_asks r a took gave) = since_both since readable in
        inr (ran_on a b c (Ok done) took gave n.wrote status run
        (record { within = within; cause = engine.later a b c took gave n.wrote (Ok done) n.since k }) n.since n.status_is n.noted)

    pub failed : (fault : F) → r.causes a b took gave (Err fault) → Notes b c (list_fault_line (r.fault_of fault)) →
        status ≡ list_fault_status (r.fault_of fault) → Reads r a c status
    failed fault k n is = by (r.fault_of fault) refl
      where
        noted : (r.fault_of fault ≡ Memory → ⊥) → Reads r a c status
        noted some =
            let run : Exchange a b took gave [] (reader_asks r a took gave) = since_both since readable in
            inr (ran_on a b c (Err fault) took gave n.0 status run
            (record { within = within; cause = engine.later a b c took gave n.0 (Err fault) n.1 (some, k) }) n.1 is n.2)

        by : (kind : ListFault) → r.fault_of fault ≡ kind → Reads r a c status
        by LongInput e = noted (λ none. absurd cc)
        by ReadFault e = noted (λ none. absurd cc)
        by WriteFault e = noted (λ none. absurd cc)
        by Memory e =
            let same : b ≡ a = sym (subst (FaultSays r.cap r.Few a b took gave) e (engine.say a b took gave fault k)) in
            inl record {
              wrote = n.0;
              since = subst (λ p. Exchange p c [] [] n.0 NoRead) same n.1;
              status_is = is ∙ ap list_fault_status e;
              noted = subst (λ p. IsNoted p c n.0 memory_line) same (subst (λ kind. IsNoted b c n.0 (list_fault_line kind)) e n.2);
            }

  -- ---- each status

  reader_ends : (old new : Outside) (status : ℕ) → Reads r old new status → AtStatus (reader_outcomes r) old new status
  reader_ends old new status (inl none) = subst (AtStatus (reader_outcomes r) old new) (sym none.status_is) (none.wrote, none.since)
  reader_ends old new status (inr run) = subst (AtStatus (reader_outcomes r) old new) (sym run.status_is) (by run.answer run.noted run.cause.cause)
    where
      done_ends : (done : D) → IsNoted old new run.wrote (done_line [] true (r.framing_of done)) → r.causes old new run.took run.gave (Ok done) →
          AtStatus (reader_outcomes r) old new (done_status [] true (r.framing_of done))
      done_ends done noted k = elim (status_small [] true (r.framing_of done)) [
        | inl none ↦
            let good = (undamaged_status [] true (r.framing_of done) none).2 in
            let silent = nothing_noted old new run.wrote _ (whole_line [] true (r.framing_of done) refl refl good) noted in
            subst (AtStatus (reader_outcomes r) old new) (sym none) record {
              done = done;
              took = run.took;
              gave = run.gave;
              since = subst (λ w. Exchange old new run.took run.gave w (reader_asks r old run.took run.gave)) silent run.since;
              within = run.cause.within;
              cause = k;
              framing = good;
            }
        | inr some ↦
            let lacks = damaged_status [] true (r.framing_of done) some in
            subst (AtStatus (reader_outcomes r) old new) (sym some) record {
              done = done;
              took = run.took;
              gave = run.gave;
              wrote = run.wrote;
              since = run.since;
              within = run.cause.within;
              cause = k;
              lacks = lacks refl refl;
              noted = subst (IsNoted old new run.wrote) (lacking_line [] true (r.framing_of done) lacks) noted;
            }
      ]

      fault_ends : (fault : F) → IsNoted old new run.wrote (list_fault_line (r.fault_of fault)) → WithMemory r old new run.took run.gave (Err fault) →
          (kind : ListFault) → r.fault_of fault ≡ kind →
          AtStatus (reader_outcomes r) old new (list_fault_status kind)
      fault_ends fault noted k LongInput e = record {
        fault = fault;
        long = e;
        took = run.took;
        gave = run.gave;
        wrote = run.wrote;
        since = run.since;
        cause = k.1;
        noted = subst (λ kind. IsNoted old new run.wrote (list_fault_line kind)) e noted;
      }
      fault_ends fault noted k ReadFault e = subst (FaultSays r.cap r.Few old new run.took run.gave) e (engine.say old new run.took run.gave fault k.1)
      fault_ends fault noted k WriteFault e = subst (FaultSays r.cap r.Few old new run.took run.gave) e (engine.say old new run.took run.gave fault k.1)
      fault_ends fault noted k Memory e = absurd (k.0 e)

      by : (answer : Result D F) → IsNoted old new run.wrote (reader_line r answer) → WithMemory r old new run.took run.gave answer →
          AtStatus (reader_outcomes r) old new (reader_status r answer)
      by (Ok done) noted k = done_ends done noted k
      by (Err fault) noted k = fault_ends fault noted k (r.fault_of fault) refl

  -- an input that is accepted isn't too long
  few_packets : (old new : Outside) (input : List ℕ) → old.rest ≡ Some input → (reads_packets r).accepts input → ReadRefuses r old new → ⊥
  few_packets old new input if_known has f =
      elim (subst (FaultSays r.cap r.Few old new f.took f.gave) f.long (engine.say old new f.took f.gave f.fault f.cause)) [
        | inl full ↦ not_full r.cap old new f.took f.since.rest input if_known has.0 full.0 full.1
        | inr many ↦
            let prefix = took_prefix input f.took old.rest new.rest if_known f.since.rest in
            many (engine.fewer f.took prefix.0 (subst r.Few prefix.1 has.1))
      ]

  -- and what was read to its end is accepted
  accepted : (old new : Outside) {took gave wrote : List ℕ} {Q : ℕ → ℕ → Type 0} (input : List ℕ) → old.rest ≡ Some input →
      Exchange old new took gave wrote Q → length took ≤ r.cap → (done : D) →
      r.causes old new took gave (Ok done) → (reads_packets r).accepts input
  accepted old new {took = took} {gave = gave} input if_known since within done k =
      let read = engine.done old new took gave done k in (
        ends_within r.cap old new since input if_known within read.0,
        engine.same took input (sym (all_read r.cap old new since input if_known read.0)) read.1,
      )

  pub reader_law : Law (reads_packets r) (reader_outcomes r)
  reader_law = record {
    ends = reader_ends;
    right = few_packets;
    whole = λ old new input if_known w. accepted old new input if_known w.since w.within w.done w.cause;
    part = λ old new input if_known p. accepted old new input if_known p.since p.within p.done p.cause;
  }

-- ---- each engine

pub list_reads : (wish : DecodeWish) → IsReader (lister wish)
list_reads wish = record {
  done = λ old new took gave done k. (k.out, tt);
  say = say;
  later = later;
  fewer = λ took more few. tt;
  same =
      λ took other is few. tt;
}
  where
    say : (old new : Outside) (took gave : List ℕ) (fault : ListFault) → Answers wish old new took gave (Err fault) →
        FaultSays wish.octets (lister wish).Few old new took gave fault
    say old new took gave LongInput k = inl (k.0, k.1)
    say old new took gave ReadFault k = k.0
    say old new took gave WriteFault k = k.0
    say old new took gave Memory k = k.0

    later : (a b c : Outside) (took gave wrote : List ℕ) (answer : Result ListDone ListFault) → Exchange b c [] [] wrote NoRead →
        WithMemory (lister wish) a b took gave answer → WithMemory (lister wish) a c took gave answer
    later a b c took gave wrote (Ok done) n k = record {
      lines = k.lines;
      packets = k.packets;
      framing_is = k.framing_is;
      out =
          out_later wish.octets b c took wrote n k.out;
    }
    later a b c took gave wrote (Err LongInput) n k = k
    later a b c took gave wrote (Err ReadFault) n k = (k.0, (omega (arith, k.1.0, n.faults.reads), k.1.1))
    later a b c took gave wrote (Err WriteFault) n k = (k.0, (omega (arith, k.1.0, n.faults.writes), k.1.1))
    later a b c took gave wrote (Err Memory) n k = absurd (k.0 refl)

pub pick_reads : (wish : DecodeWish) (image : Option ℕ) → IsReader (picker wish image)
pick_reads wish image = record {
  done = λ old new took gave done k. (k.out, tt);
  say = say;
  later = later;
  fewer = λ took more few. tt;
  same =
      λ took other is few. tt;
}
  where
    say : (old new : Outside) (took gave : List ℕ) (fault : ListFault) → PickAnswers wish image old new took gave (Err fault) →
        FaultSays wish.octets (picker wish image).Few old new took gave fault
    say old new took gave LongInput k = inl (k.0, k.1)
    say old new took gave ReadFault k = k.0
    say old new took gave WriteFault k = k.0
    say old new took gave Memory k = k.0

    later : (a b c : Outside) (took gave wrote : List ℕ) (answer : Result ListDone ListFault) → Exchange b c [] [] wrote NoRead →
        WithMemory (picker wish image) a b took gave answer →
        WithMemory (picker wish image) a c took gave answer
    later a b c took gave wrote (Ok done) n k = record {
      octets = k.octets;
      packets = k.packets;
      framing_is = k.framing_is;
      out =
          out_later wish.octets b c took wrote n k.out;
    }
    later a b c took gave wrote (Err LongInput) n k = k
    later a b c took gave wrote (Err ReadFault) n k = (k.0, (omega (arith, k.1.0, n.faults.reads), k.1.1))
    later a b c took gave wrote (Err WriteFault) n k = (k.0, (omega (arith, k.1.0, n.faults.writes), k.1.1))
    later a b c took gave wrote (Err Memory) n k = absurd (k.0 refl)

-- whole packets of more octets go on from those of fewer
info_fewer : (wish : InfoWish) (took more : List ℕ) → (informer wish).Few (took ++ more) → (informer wish).Few took
info_fewer wish took more few =
    let parts = leading_packets took more in
    let images = images-prefix wish.apid (whole_packets took) parts.0 in
    let all : image_count wish.apid (took ++ more) ≡ image_count wish.apid took + length images.0 =
    ap (λ packets. length (images_of wish.apid packets)) parts.1 ∙ ap length images.1 ∙ length-append (images_of wish.apid (whole_packets took)) images.0 in
    omega (arith, few, all)

pub info_reads : (wish : InfoWish) → IsReader (informer wish)
info_reads wish = record {
  done = λ old new took gave done k. (k.out, omega (arith, k.few, k.images_are));
  say = say;
  later = later;
  fewer = info_fewer wish;
  same = λ took other is few. omega (arith, few, ap (λ packets. length (images_of wish.apid packets)) is);
}
  where
    say : (old new : Outside) (took gave : List ℕ) (fault : InfoFault) → InfoAnswers wish old new took gave (Err fault) →
        FaultSays wish.octets (informer wish).Few old new took gave (info_fault_of fault)
    say old new took gave info_long k = inl (k.0, k.1)
    say old new took gave TooManyImages k = inr (λ few. omega (arith, few, k.0))
    say old new took gave info_read_failed k = k.0
    say old new took gave info_write_failed k = k.0
    say old new took gave info_memory k = k.0

    later : (a b c : Outside) (took gave wrote : List ℕ) (answer : Result InfoDone InfoFault) → Exchange b c [] [] wrote NoRead →
        WithMemory (informer wish) a b took gave answer → WithMemory (informer wish) a c took gave answer
    later a b c took gave wrote (Ok done) n k = record {
      lines = k.lines;
      images_are = k.images_are;
      few = k.few;
      framing_is = k.framing_is;
      out =
          out_later wish.octets b c took wrote n k.out;
    }
    later a b c took gave wrote (Err info_long) n k = k
    later a b c took gave wrote (Err TooManyImages) n k = k
    later a b c took gave wrote (Err info_read_failed) n k = (k.0, (omega (arith, k.1.0, n.faults.reads), k.1.1, k.1.2))
    later a b c took gave wrote (Err info_write_failed) n k =
        (k.0, (omega (arith, k.1.0, n.faults.writes), k.1.1, out_later wish.octets b c took wrote n k.1.2, k.1.3))
    later a b c took gave wrote (Err info_memory) n k = absurd (k.0 refl)
