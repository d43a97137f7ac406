-- The effect of a run of `bare-encode` and `bare-decode` after its note, and what follows for each status.
use Rattle.std.proofs.Common.{◌≡◌, ℕ, List, [], refl, sym, ◌∙◌, subst, arith, inl, inr, Result, Ok, Err, Some}
use Rattle.port_122.specs.Outside.{Outside, Exchange, NoRead}
use Rattle.port_122.proofs.Stretches.{at_end_later}
use Rattle.port_122.proofs.IfKnown.{end_known}
use Rattle.base_122.specs.declared.geometry.Geometry.{Geometry}
use Rattle.base_122.specs.declared.setting.Setting.{Setting}
use Rattle.base_122.specs.declared.wish.DecodeWish.{DecodeWish}
use Rattle.strip_coder.specs.declared.encode.EncodeDone.{EncodeDone}
use Rattle.strip_coder.specs.declared.encode.EncodeFault.{EncodeFault}
use Rattle.strip_coder.specs.declared.encode.EncodeFault.TheVariants.{ReadFault, WriteFault, Short, Long, BadPixel}
use Rattle.strip_coder.specs.Answers.{TookRaster}
use Rattle.bare_stream.specs.declared.fault.BareFault.{BareFault}
use Rattle.bare_stream.specs.declared.fault.BareFault.TheVariants.{ReadFault as read_failed, WriteFault as write_failed, LongInput, Memory, TooManyPixels}
use Rattle.bare_stream.specs.declared.fault.BareFault.TheVariants.{Refused}
use Rattle.bare_stream.specs.Rasters.{texts_for}
use Rattle.bare_stream.specs.Answers.{BareAnswers, EncodesBare as EncodesOver}
use Rattle.bare_stream.specs.StreamRead.{answer_for}
use Rattle.bare_stream.specs.Decoded.{Answers, EndsSo, AsksBare, DecodesBare}
use Rattle.bare_stream.specs.RoundTrip.{StreamsAreRead, BareRoundTrip}
use Rattle.strip122.specs.Notes.{IsNoted, Notes}
use Rattle.strip122.specs.Ran.{CausedWithin}
use Rattle.strip122.specs.Encoding.{AsksRaster}
use Rattle.strip122.specs.BareStreams.{EncodesBare, EncodedBare, encodes_bare, BareCauses, DecodesStream, IsStreamOf}
use Rattle.strip122.specs.BareStreams.{decodes_bare, GaveBare}
use Rattle.strip122.specs.Outcomes.{AtStatus, GivesPicture, BareRefuses, bare_outcomes, bare_encode_outcomes}
use Rattle.port_122.proofs.BothAsked.{since_both}
use Rattle.strip122.proofs.Reports.{fault_status, fault_line, memory_line, bare_fault_status, bare_fault_line, bare_status, bare_line}
use Rattle.strip122.proofs.NoteLines.{ran_on, nothing_noted}
use Rattle.strip122.proofs.Behaviours.{Law}
use Rattle.strip122.proofs.Encoded.{EncoderSays, IsEncoder, encoder_law}

-- ---- `bare-encode`

-- a cause is also valid after a note
bare_later : (s : Setting) (a b c : Outside) (took gave wrote : List ℕ) (r : Result EncodeDone EncodeFault) → Exchange b c [] [] wrote NoRead →
    BareAnswers s a b took gave r → BareAnswers s a c took gave r
bare_later s a b c took gave wrote (Ok done) n k = (k.0, at_end_later n k.1, k.2, k.3)
bare_later s a b c took gave wrote (Err (Short octets)) n k = (k.0, k.1, at_end_later n k.2, k.3, k.4)
bare_later s a b c took gave wrote (Err Long) n k = k
bare_later s a b c took gave wrote (Err (BadPixel row column value)) n k = k
bare_later s a b c took gave wrote (Err ReadFault) n k = (omega (arith, k.0, n.faults.reads), k.1, k.2, k.3)
bare_later s a b c took gave wrote (Err WriteFault) n k = (omega (arith, k.0, n.faults.writes), k.1)

bare_engine : (s : Setting) → IsEncoder s (BareAnswers s) (texts_for s) (EncodedBare s)
bare_engine s = record {
  say = say;
  later = bare_later s;
  done = λ old new took gave done k since. record {
    took = took;
    since = subst (λ g. Exchange old new took g [] (AsksRaster s (texts_for s) took)) k.2 since;
    raster = k.0;
    ended = k.1;
  };
  takes = λ old new input if_known w. (s.rows, subst (TookRaster s s.rows) (end_known input w.since if_known w.ended) w.raster);
}
  where
    say : (old new : Outside) (took gave : List ℕ) (fault : EncodeFault) → BareAnswers s old new took gave (Err fault) → EncoderSays s old new took fault
    say old new took gave (Short octets) k = (k.1, k.2)
    say old new took gave Long k = k.0
    say old new took gave (BadPixel row column value) k = k.1
    say old new took gave ReadFault k = k.0
    say old new took gave WriteFault k = k.0

-- an image that was encoded
pub bare_image_encoded : (s : Setting) (old new : Outside) (done : EncodeDone) → EncodesOver s old new (Ok done) → EncodedBare s old new
bare_image_encoded s old new done run = (bare_engine s).done old new run.took run.gave done run.answer (since_both run.since run.asks)

pub bare_encode_law : (s : Setting) → Law (encodes_bare s) (bare_encode_outcomes s)
bare_encode_law s = encoder_law s (BareAnswers s) (texts_for s) (EncodedBare s) (bare_engine s)

-- there is too little memory, and this is noted
pub bare_lacks_memory : (s : Setting) (a b : Outside) → Notes a b memory_line → EncodesBare s a b 6
bare_lacks_memory s a b n = inl (record { wrote = n.0; since = n.1; status_is = refl; noted = n.2 })

-- the encoder's run, and then its note
pub bare_encode_failed : (s : Setting) (a b c : Outside) (fault : EncodeFault) (status : ℕ) → EncodesOver s a b (Err fault) → Notes b c (fault_line fault) →
    status ≡ fault_status fault → EncodesBare s a c status
bare_encode_failed s a b c fault status run n is =
    inr (ran_on a b c (Err fault) run.took run.gave n.0 status (since_both run.since run.asks)
    (bare_later s a b c run.took run.gave n.0 (Err fault) n.1 run.answer) n.1 is n.2)

-- ---- `bare-decode`: after the note

ends_later : (a b c : Outside) (wrote gave : List ℕ) → Exchange b c [] [] wrote NoRead → (r : Result Geometry BareFault) → EndsSo r a b gave → EndsSo r a c gave
ends_later a b c wrote gave n (Ok g) k = at_end_later n k
ends_later a b c wrote gave n (Err (Refused index cause)) k = tt
ends_later a b c wrote gave n (Err (TooManyPixels pixels)) k = tt
ends_later a b c wrote gave n (Err LongInput) k = tt
ends_later a b c wrote gave n (Err read_failed) k = omega (arith, k, n.faults.reads)
ends_later a b c wrote gave n (Err write_failed) k = omega (arith, k, n.faults.writes)
ends_later a b c wrote gave n (Err Memory) k = k

-- the decoder's run, and then its note
pub bare_decode_failed : (wish : DecodeWish) (a b c : Outside) (fault : BareFault) (status : ℕ) → DecodesBare wish a b (Err fault) →
    Notes b c (bare_fault_line fault) → status ≡ bare_fault_status fault → DecodesStream wish a c status
bare_decode_failed wish a b c fault status run n is =
    ran_on a b c (Err fault) run.took run.gave n.0 status run.since
    (record { within = run.within; cause = record { ends = ends_later a b c n.0 run.gave n.1 (Err fault) run.ends; answers = run.answers } }) n.1 is n.2

-- ---- each status

stream_ends : StreamsAreRead → (wish : DecodeWish) (old new : Outside) (status : ℕ) → DecodesStream wish old new status →
    AtStatus (bare_outcomes wish) old new status
stream_ends law wish old new status run = subst (AtStatus (bare_outcomes wish) old new) (sym run.status_is) (by run.answer run.noted run.cause)
  where
    refuses : (fault : BareFault) → bare_fault_status fault ≡ 3 → IsNoted old new run.wrote (bare_fault_line fault) →
        CausedWithin wish.octets (BareCauses wish) old new run.took run.gave (Err fault) → BareRefuses wish old new
    refuses fault three noted k = record {
      fault = fault;
      took = run.took;
      gave = run.gave;
      wrote = run.wrote;
      since = run.since;
      within = k.within;
      input = three;
      cause = k.cause;
      noted = noted;
    }

    by : (r : Result Geometry BareFault) → IsNoted old new run.wrote (bare_line r) → CausedWithin wish.octets (BareCauses wish) old new run.took run.gave
        r → AtStatus (bare_outcomes wish) old new (bare_status r)
    by (Ok g) noted k = record {
      g = g;
      took = run.took;
      gave = run.gave;
      since = subst (λ w. Exchange old new run.took run.gave w (AsksBare wish old run.took run.gave)) (nothing_noted old new run.wrote [] refl noted) run.since;
      ended = k.cause.ends;
      picture = λ input if_known.
          let why = k.cause.answers input if_known in
          let took : run.took ≡ input = end_known input run.since if_known k.cause.ends in
          let right : answer_for wish input ≡ Ok g = sym why.answer in
          subst (λ l. GivesPicture wish l run.gave g) (sym took) (record { stream = right; rows = why.rows ∙ law.rows wish input g right });
    }
    by (Err (Refused index cause)) noted k = refuses (Refused index cause) refl noted k
    by (Err (TooManyPixels pixels)) noted k = refuses (TooManyPixels pixels) refl noted k
    by (Err LongInput) noted k = refuses LongInput refl noted k
    by (Err read_failed) noted k = k.cause.ends
    by (Err write_failed) noted k = k.cause.ends
    by (Err Memory) noted k = record {
      took = run.took;
      wrote = run.wrote;
      since = subst (λ g. Exchange old new run.took g run.wrote (AsksBare wish old run.took g)) k.cause.ends run.since;
      within = k.within;
    }

-- ---- the input that is left

-- a bare stream within the caps isn't refused
right_stream : (wish : DecodeWish) (old new : Outside) (input : List ℕ) → old.rest ≡ Some input → (decodes_bare wish).accepts input →
    BareRefuses wish old new → ⊥
right_stream wish old new input if_known has r = by r.fault r.input (r.cause.answers input if_known)
  where
    wrong : (fault : BareFault) (g : Geometry) (o : Result Geometry BareFault) → Err fault ≡ o → o ≡ Ok g → ⊥
    wrong fault g o e f = cc

    by : (fault : BareFault) → bare_fault_status fault ≡ 3 → Answers wish input r.took r.gave (Err fault) → ⊥
    by (Refused index cause) three k = wrong (Refused index cause) has.0 (answer_for wish input) k.answer has.1
    by (TooManyPixels pixels) three k = wrong (TooManyPixels pixels) has.0 (answer_for wish input) k.answer has.1
    by LongInput three k = wrong LongInput has.0 (answer_for wish input) k.answer has.1
    by read_failed three k = omega (arith, three)
    by write_failed three k = omega (arith, three)
    by Memory three k = omega (arith, three)

pub bare_decode_law : StreamsAreRead → (wish : DecodeWish) → Law (decodes_bare wish) (bare_outcomes wish)
bare_decode_law law wish = record {
  ends = stream_ends law wish;
  right = right_stream wish;
  whole = λ old new input if_known w.
      let p = w.picture input if_known in
      (w.g, subst (λ octets. IsStreamOf wish octets w.g) (end_known input w.since if_known w.ended) p.stream);
  part = λ old new input if_known never. absurd never;
}

-- ---- the round trip

-- at status 0 a picture was given, and that of an image's stream is the image
pub gave_bare : BareRoundTrip → (wish : DecodeWish) (old new : Outside) (status : ℕ) → DecodesStream wish old new status → status ≡ 0 → GaveBare wish old new
gave_bare trip wish old new status run zero = by run.answer (sym run.status_is ∙ zero) run.noted run.cause
  where
    by : (r : Result Geometry BareFault) → bare_status r ≡ 0 → IsNoted old new run.wrote (bare_line r) →
        CausedWithin wish.octets (BareCauses wish) old new run.took run.gave r → GaveBare wish old new
    by (Ok g) none noted k =
        let since = subst (λ w. Exchange old new run.took run.gave w (AsksBare wish old run.took run.gave)) (nothing_noted old new run.wrote [] refl noted)
        run.since in
        let over : DecodesBare wish old new (Ok g) = record {
          took = run.took;
          gave = run.gave;
          since = since;
          within = k.within;
          ends =
              k.cause.ends;
          answers = k.cause.answers;
        } in
        record {
          g = g;
          took = run.took;
          gave = run.gave;
          since = since;
          back = λ input if_known s x book is same. trip.decoded wish old new g input s x over if_known same book is;
        }
    by (Err (Refused index cause)) none noted k = absurd (omega (arith, none))
    by (Err (TooManyPixels pixels)) none noted k = absurd (omega (arith, none))
    by (Err LongInput) none noted k = absurd (omega (arith, none))
    by (Err read_failed) none noted k = absurd (omega (arith, none))
    by (Err write_failed) none noted k = absurd (omega (arith, none))
    by (Err Memory) none noted k = absurd (omega (arith, none))
