-- What a row and an end do to the place of an encoder.
use Rattle.std.proofs.Common.{◌≡◌, ℕ, List, sym, subst, Option, Some, Result}
use Rattle.encoder_rows.specs.Answers.{EndAnswers, RowAnswers}
use Rattle.encoder_rows.specs.Rows.{IsOpen, progress_of}
use Rattle.encoder_rows.specs.declared.encoder.Encoder.{Encoder}
use Rattle.encoder_rows.specs.declared.refusal.EndRefusal.{EndRefusal}
use Rattle.encoder_rows.specs.declared.refusal.Ended.{Ended}
use Rattle.encoder_rows.specs.declared.refusal.RowRefusal.{RowRefusal}
use Rattle.strip122_c.specs.EncodedReport.{encoded_size}
use Rattle.strip122_c.specs.RowCalls.{EndsIn, EndsInto, TakesIn, TakesInto}
use Rattle.strip122_c.specs.RowReports.{end_answer, end_report, row_answer, row_report}
use Rattle.strip122_c.specs.declared.encoded.Strip122Encoded.{Strip122Encoded}
use Rattle.strip122_c.specs.declared.encoder.Strip122Encoder.{Strip122Encoder}

module _ (place : Strip122Encoder) (old new : Encoder) (room after : List ℕ) (before report : Strip122Encoded) (answer : ℕ) (is : place.encoder ≡ Some old)
    (size : before.size ≡ encoded_size) (opened : IsOpen new) where
  pub takes_into : (octets : List ℕ) (ended : Result ℕ RowRefusal) → RowAnswers octets old new room after ended →
      report ≡ row_report (progress_of new) ended → answer ≡ row_answer ended →
      TakesInto octets place (record { encoder = Some new }) room after before report answer
  takes_into octets ended answers report_is answer_is = record {
    ready = opened;
    wrong = λ other. absurd (other size);
    done = λ same. subst (λ o. TakesIn octets o (Some new) room after report answer) (sym is)
        (record { ended = ended; answers = answers; report_is = report_is; answer_is = answer_is });
  }

  pub ends_into : (image : ℕ) (ended : Result Ended EndRefusal) → EndAnswers image old new room after ended → report ≡ end_report (progress_of old) ended →
      answer ≡ end_answer ended →
      EndsInto image place (record { encoder = Some new }) room after before report answer
  ends_into image ended answers report_is answer_is = record {
    ready = opened;
    wrong = λ other. absurd (other size);
    done = λ same. subst (λ o. EndsIn image o (Some new) room after report answer) (sym is)
        (record { ended = ended; answers = answers; report_is = report_is; answer_is = answer_is });
  }
