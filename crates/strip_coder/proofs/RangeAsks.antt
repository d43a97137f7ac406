-- Read calls that are made only while at most the longest raster was taken, and all whole pixels of it are in range.
use Rattle.std.proofs.Common.{◌≡◌, ◌≤◌, ◌+◌, ◌*◌, arith, ℕ, List, [], ◌++◌, length, take, sym, subst}
use Rattle.std.proofs.lemmas.List.{take-append-le}
use Rattle.std.proofs.Math.Seq.{take-append-add, take-append_seam}
use Rattle.port_122.specs.Outside.{Outside, Exchange, AtStart}
use Rattle.port_122.proofs.Stretches.{since_weaker}
use Rattle.port_122.proofs.ReadCalls.{since_in, since_asked}
use Rattle.base_122.specs.declared.setting.Setting.{Setting}
use Rattle.raster_rows.specs.RowReads.{InRow}
use Rattle.strip_coder.specs.Rasters.{row_length, most_length, AreInRange}
use Rattle.strip_coder.specs.Answers.{AllInRange, AsksInRange}
use Rattle.strip_coder.proofs.RowsTakenLaws.{all_in_range-more}

-- the read calls so far, if more is taken
asked_before : {p q : Outside} {gave : List ℕ} (s : Setting) (took more : List ℕ) → Exchange p q took gave [] (AsksInRange s took) →
    Exchange p q took gave [] (AsksInRange s (took ++ more))
asked_before s took more before = since_weaker before (λ i j le r. (r.0, subst (AllInRange s) (sym (take-append-le i took more le)) r.1))

-- octets of the row after the first r rows were taken, and this row is in the longest raster
pub row_asked : {p q m : Outside} {gave : List ℕ} (s : Setting) (r : ℕ) (took got : List ℕ) → length took ≡ r * row_length s →
    r * row_length s + row_length s ≤ most_length s → AreInRange s took (r * s.width) → Exchange p q took gave [] (AsksInRange s took) →
    Exchange q m got [] [] (InRow s.depth s.signed s.width got) →
    Exchange p m (took ++ got) gave [] (AsksInRange s (took ++ got))
row_asked s r took got whole below in_range before read = since_in (asked_before s took got before) read
    (λ i j le asks. (
      omega (arith, whole, below, asks.0),
      subst (AllInRange s) (sym (take-append-add took got i)) (all_in_range-more s r took (take i got) whole in_range asks.2),
    ))

-- the octet after them was asked for
pub end_asked : {p q m : Outside} {gave more : List ℕ} (s : Setting) (took : List ℕ) → length took ≤ most_length s → AllInRange s took →
    Exchange p q took gave [] (AsksInRange s took) → Exchange q m more [] [] AtStart → Exchange p m (took ++ more) gave [] (AsksInRange s (took ++ more))
end_asked {more = more} s took most in_range before read =
    since_asked (asked_before s took more before) read (most, subst (AllInRange s) (sym (take-append_seam took more)) in_range)
