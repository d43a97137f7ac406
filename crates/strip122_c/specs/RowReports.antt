-- The reports on the calls of an encoder that takes rows. This project's own.
use Rattle.std.specs.Prelude.{ℕ, Result, Ok, Err}
use Rattle.encoder_rows.specs.declared.encoder.Encoder.{Encoder}
use Rattle.encoder_rows.specs.declared.progress.Progress.{Progress}
use Rattle.encoder_rows.specs.declared.refusal.EndRefusal.{EndRefusal}
use Rattle.encoder_rows.specs.declared.refusal.EndRefusal.TheVariants as ends
use Rattle.encoder_rows.specs.declared.refusal.Ended.{Ended}
use Rattle.encoder_rows.specs.declared.refusal.NewRefusal.{NewRefusal}
use Rattle.encoder_rows.specs.declared.refusal.NewRefusal.TheVariants as news
use Rattle.encoder_rows.specs.declared.refusal.RowRefusal.{RowRefusal}
use Rattle.encoder_rows.specs.declared.refusal.RowRefusal.TheVariants as rows
use Rattle.strip122_c.specs.EncodedReport.{field_number, nothing}
use Rattle.strip122_c.specs.declared.encoded.Strip122Encoded.{Strip122Encoded}

abbrev pub new_report : Result Encoder NewRefusal → Strip122Encoded
new_report (Ok e) = nothing
new_report (Err (news.OutOfRange field)) = record nothing { field = field_number field }
new_report (Err news.Memory) = nothing

abbrev pub new_answer : Result Encoder NewRefusal → ℕ
new_answer (Ok e) = 0
new_answer (Err (news.OutOfRange field)) = 2
new_answer (Err news.Memory) = 8

-- what was taken and given of the image
abbrev pub progress_report : Progress → Strip122Encoded
progress_report p = record nothing { all = p.octets; packets = p.packets; segments = p.segments; rows = p.rows }

-- the report on a row, by the progress after it
abbrev pub row_report : Progress → Result ℕ RowRefusal → Strip122Encoded
row_report p (Ok count) = record (progress_report p) { octets = count }
row_report p (Err rows.Full) = progress_report p
row_report p (Err rows.Short) = progress_report p
row_report p (Err rows.Long) = progress_report p
row_report p (Err (rows.SmallRoom octets)) = record (progress_report p) { octets = octets }
row_report p (Err (rows.BadPixel column value)) = record (progress_report p) { column = column; value = value }

abbrev pub row_answer : Result ℕ RowRefusal → ℕ
row_answer (Ok count) = 0
row_answer (Err rows.Full) = 10
row_answer (Err rows.Short) = 3
row_answer (Err rows.Long) = 4
row_answer (Err (rows.SmallRoom octets)) = 7
row_answer (Err (rows.BadPixel column value)) = 5

-- the report on the end of an image, by the progress before it
abbrev pub end_report : Progress → Result Ended EndRefusal → Strip122Encoded
end_report p (Ok ended) = record nothing {
  octets = ended.octets;
  all = ended.done.octets;
  packets = ended.done.packets;
  segments =
      ended.done.segments;
  rows = p.rows;
}
end_report p (Err ends.Unfinished) = progress_report p
end_report p (Err (ends.SmallRoom octets)) = record (progress_report p) { octets = octets }

abbrev pub end_answer : Result Ended EndRefusal → ℕ
end_answer (Ok ended) = 0
end_answer (Err ends.Unfinished) = 11
end_answer (Err (ends.SmallRoom octets)) = 7
