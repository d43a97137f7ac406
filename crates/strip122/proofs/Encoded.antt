-- The effect of a run of `encode` after its note, and what follows for each status.
use Rattle.std.proofs.Common.{◌≡◌, ◌+◌, ◌*◌, ℕ, List, [], ◌++◌, length, refl, sym, ◌∙◌, ap, subst, arith, length-append, inl, inr, Result, Ok, Err, Some}
use Rattle.port_122.specs.Outside.{Outside, Exchange, NoRead, Rose, GivenBy, AtEnd}
use Rattle.port_122.proofs.Stretches.{at_end_later}
use Rattle.port_122.proofs.IfKnown.{end_known}
use Rattle.base_122.specs.declared.book.Book.{Book}
use Rattle.base_122.specs.declared.setting.Setting.{Setting}
use Rattle.strip_coder.specs.declared.encode.EncodeDone.{EncodeDone}
use Rattle.strip_coder.specs.declared.encode.EncodeFault.{EncodeFault}
use Rattle.strip_coder.specs.declared.encode.EncodeFault.TheVariants.{ReadFault, WriteFault, Short, Long, BadPixel}
use Rattle.strip_coder.specs.Rasters.{most_length, LacksRows, given_for}
use Rattle.strip_coder.specs.Answers.{Answers, AllInRange, AsksInRange, FirstBad, TookRaster, EncodesImage}
use Rattle.strip122.specs.Notes.{IsNoted, Notes}
use Rattle.strip122.specs.Encoding.{EncoderCauses, AsksRaster, RunsRaster, EncodedWhole, takes_raster, encoder}
use Rattle.strip122.specs.Encoding.{encodes_raster, encodes, encodes_with_book}
use Rattle.strip122.specs.Books.{with_book}
use Rattle.strip122.specs.Ran.{LacksMemory}
use Rattle.strip122.proofs.Reports.{fault_status, fault_line, memory_line, encode_status, encode_line}
use Rattle.strip122.proofs.BookRuns.{with_book_law}
use Rattle.port_122.proofs.BothAsked.{since_both}
use Rattle.strip122.proofs.NoteLines.{ran_on, nothing_noted}
use Rattle.strip122.specs.Outcomes.{AtStatus, EncoderRefuses, memory_outcomes, raster_outcomes, encode_outcomes, book_outcomes}
use Rattle.strip122.proofs.Behaviours.{Law, memory_first_law}
use Rattle.strip122.proofs.Inputs.{not_in_range, none_lacking, few_octets}
use Rattle.strip122.proofs.ReadOut.{took_prefix}

-- ---- what follows from the answers

-- what follows from an answer for the octets and the faults, whatever was given
abbrev pub EncoderSays : Setting → Outside → Outside → List ℕ → EncodeFault → Type 0
EncoderSays s old new took (Short octets) = LacksRows s (length took) × AtEnd new
EncoderSays s old new took Long = length took ≡ most_length s + 1
EncoderSays s old new took (BadPixel row column value) = FirstBad s took row column value
EncoderSays s old new took ReadFault = Rose old.read_faults new.read_faults
EncoderSays s old new took WriteFault = Rose old.write_faults new.write_faults

-- This follows from all faults of an engine, and all answers are also answers after a note. If it is done, all of its output is given, for
-- a whole input that is a raster.
pub record IsEncoder (s : Setting) (answers : EncoderCauses) (given : List ℕ → List ℕ) (whole : Outside → Outside → Type 0) : Type 0 where
  pub say : (old new : Outside) (took gave : List ℕ) (fault : EncodeFault) → answers old new took gave (Err fault) → EncoderSays s old new took fault
  pub later : (a b c : Outside) (took gave wrote : List ℕ) (r : Result EncodeDone EncodeFault) → Exchange b c [] [] wrote NoRead → answers a b took gave r →
      answers a c took gave r
  pub done : (old new : Outside) (took gave : List ℕ) (done : EncodeDone) → answers old new took gave (Ok done) →
      Exchange old new took gave [] (AsksRaster s given took) → whole old new
  pub takes : (old new : Outside) (input : List ℕ) → old.rest ≡ Some input → whole old new → (rows : ℕ) × TookRaster s rows input

module _ (s : Setting) (answers : EncoderCauses) (given : List ℕ → List ℕ) (whole : Outside → Outside → Type 0) (engine : IsEncoder s answers given whole) where
  -- ---- each status

  raster_ends : (old new : Outside) (status : ℕ) → RunsRaster s answers given old new status → AtStatus (raster_outcomes s answers given whole) old new status
  raster_ends old new status run = subst (AtStatus (raster_outcomes s answers given whole) old new) (sym run.status_is) (by run.answer run.noted run.cause)
    where
      refuses : (fault : EncodeFault) → fault_status fault ≡ 3 → IsNoted old new run.wrote (fault_line fault) →
          answers old new run.took run.gave (Err fault) → EncoderRefuses s answers given old new
      refuses fault three noted k =
          record { fault = fault; took = run.took; gave = run.gave; wrote = run.wrote; since = run.since; input = three; cause = k; noted = noted }

      by : (r : Result EncodeDone EncodeFault) → IsNoted old new run.wrote (encode_line r) → answers old new run.took run.gave r →
          AtStatus (raster_outcomes s answers given whole) old new (encode_status r)
      by (Ok done) noted k =
          engine.done old new run.took run.gave done k (subst (λ w. Exchange old new run.took run.gave w (AsksRaster s given run.took))
          (nothing_noted old new run.wrote [] refl noted) run.since)
      by (Err (Short octets)) noted k = refuses (Short octets) refl noted k
      by (Err Long) noted k = refuses Long refl noted k
      by (Err (BadPixel row column value)) noted k = refuses (BadPixel row column value) refl noted k
      by (Err ReadFault) noted k = engine.say old new run.took run.gave ReadFault k
      by (Err WriteFault) noted k = engine.say old new run.took run.gave WriteFault k

  -- a raster of all rows in range isn't refused
  right_raster : (old new : Outside) (input : List ℕ) → old.rest ≡ Some input → (takes_raster s answers given).accepts input →
      EncoderRefuses s answers given old new → ⊥
  right_raster old new input if_known has r = by r.fault (engine.say old new r.took r.gave r.fault r.cause) r.input
    where
      prefix : (rest : List ℕ) × (input ≡ r.took ++ rest)
      prefix = took_prefix input r.took old.rest new.rest if_known r.since.rest

      by : (fault : EncodeFault) → EncoderSays s old new r.took fault → fault_status fault ≡ 3 → ⊥
      by (Short octets) k three =
          let took : r.took ≡ input = end_known input r.since if_known k.1 in
          none_lacking s has.0 (length r.took) has.1.height (ap length took ∙ has.1.whole) k.0
      by Long k three = omega (arith, ap length prefix.1, length-append r.took prefix.0, k, has.1.whole, few_octets s has.0 has.1.height)
      by (BadPixel row column value) k three = not_in_range s.depth s.signed r.took prefix.0 (row * s.width + column) value k.first
          (subst (AllInRange s) prefix.1 has.1.in_range)
      by ReadFault k three = omega (arith, three)
      by WriteFault k three = omega (arith, three)

  -- and nothing else is encoded
  pub raster_law : Law (takes_raster s answers given) (raster_outcomes s answers given whole)
  raster_law = record {
    ends = raster_ends;
    right = right_raster;
    whole = engine.takes;
    part = λ old new input if_known never. absurd never;
  }

  pub encoder_law : Law (encoder s answers given) (memory_outcomes (raster_outcomes s answers given whole))
  encoder_law = memory_first_law (takes_raster s answers given) (raster_outcomes s answers given whole) raster_law (λ old new never. never)

-- a run without a fault
pub raster_done : (s : Setting) (answers : EncoderCauses) (given : List ℕ → List ℕ) (old new : Outside) (took gave : List ℕ) (done : EncodeDone) →
    Exchange old new took gave [] (GivenBy given took) → Exchange old new took gave [] (AsksInRange s took) → answers old new took gave (Ok done) →
    RunsRaster s answers given old new 0
raster_done s answers given old new took gave done since asks cause = record {
  answer = Ok done;
  took = took;
  gave = gave;
  wrote = [];
  since = since_both since asks;
  cause = cause;
  status_is = refl;
  noted = inl refl;
}

-- ---- `encode`

-- a cause is also valid after a note
causes_later : (s : Setting) (a b c : Outside) (took gave wrote : List ℕ) (r : Result EncodeDone EncodeFault) → Exchange b c [] [] wrote NoRead →
    Answers s a b took gave r → Answers s a c took gave r
causes_later s a b c took gave wrote (Ok done) n k = (k.0, k.1, at_end_later n k.2, k.3, k.4)
causes_later s a b c took gave wrote (Err (Short octets)) n k = (k.0, k.1, at_end_later n k.2, k.3, k.4)
causes_later s a b c took gave wrote (Err Long) n k = k
causes_later s a b c took gave wrote (Err (BadPixel row column value)) n k = k
causes_later s a b c took gave wrote (Err ReadFault) n k = (omega (arith, k.0, n.faults.reads), k.1, k.2, k.3)
causes_later s a b c took gave wrote (Err WriteFault) n k = (
  omega (arith, k.0, n.faults.writes),
  (
    k.1.0,
    k.1.1,
    elim k.1.2 [
      | inl each ↦ inl each
      | inr whole ↦ inr (record {
        left_open = whole.left_open;
        at_end = at_end_later n whole.at_end;
        height = whole.height;
        some = whole.some;
        prefix =
            whole.prefix;
      })
    ],
  ),
)

encode_engine : (s : Setting) → IsEncoder s (Answers s) (given_for s) (EncodedWhole s)
encode_engine s = record {
  say = say;
  later = causes_later s;
  done = λ old new took gave done k since. record {
    took = took;
    rows = k.0;
    since =
        subst (λ g. Exchange old new took g [] (AsksRaster s (given_for s) took)) k.3 since;
    raster = k.1;
    total = k.4.total;
    ended = k.2;
  };
  takes = λ old new input if_known w. (w.rows, subst (TookRaster s w.rows) (end_known input w.since if_known w.ended) w.raster);
}
  where
    say : (old new : Outside) (took gave : List ℕ) (fault : EncodeFault) → Answers s old new took gave (Err fault) → EncoderSays s old new took fault
    say old new took gave (Short octets) k = (k.1, k.2)
    say old new took gave Long k = k.0
    say old new took gave (BadPixel row column value) k = k.1
    say old new took gave ReadFault k = k.0
    say old new took gave WriteFault k = k.0

pub encode_law : (s : Setting) → Law (encodes s) (memory_outcomes (encode_outcomes s))
encode_law s = encoder_law s (Answers s) (given_for s) (EncodedWhole s) (encode_engine s)

-- an image that was encoded
pub image_encoded : (s : Setting) (old new : Outside) (done : EncodeDone) → EncodesImage s old new (Ok done) → EncodedWhole s old new
image_encoded s old new done run = (encode_engine s).done old new run.took run.gave done run.answer (since_both run.since run.asks)

-- no fault has status 0
pub fault_fails : (fault : EncodeFault) → fault_status fault ≡ 0 → ⊥
fault_fails ReadFault zero = omega (arith, zero)
fault_fails WriteFault zero = omega (arith, zero)
fault_fails (Short octets) zero = omega (arith, zero)
fault_fails Long zero = omega (arith, zero)
fault_fails (BadPixel row column value) zero = omega (arith, zero)

pub encode_book_law : (s : Setting) → Law (encodes_with_book s) (memory_outcomes (book_outcomes (λ book. encode_outcomes (record s { book = book }))))
encode_book_law s =
    let b = λ (book : Book). encodes_raster (record s { book = book }) in
    let o = λ (book : Book). encode_outcomes (record s { book = book }) in
    memory_first_law (with_book b) (book_outcomes o)
    (with_book_law b o (λ book. let t = record s { book = book } in raster_law t (Answers t) (given_for t) (EncodedWhole t) (encode_engine t)))
    (λ old new run. run.holds)

-- there is too little memory, and this is noted
pub lacks_memory : (a b : Outside) → Notes a b memory_line → LacksMemory a b 6
lacks_memory a b n = record { wrote = n.0; since = n.1; status_is = refl; noted = n.2 }

-- the encoder's run, and then its note
pub encode_failed : (s : Setting) (a b c : Outside) (fault : EncodeFault) (status : ℕ) → EncodesImage s a b (Err fault) → Notes b c (fault_line fault) →
    status ≡ fault_status fault → (encodes_raster s).performs a c status
encode_failed s a b c fault status run n is =
    (ran_on a b c (Err fault) run.took run.gave n.0 status (since_both run.since run.asks)
    (causes_later s a b c run.took run.gave n.0 (Err fault) n.1 run.answer) n.1 is n.2)
