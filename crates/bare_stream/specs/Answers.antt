-- How an encoder of a bare stream ends, by what it took and gave. (This project's own.)
use Rattle.std.specs.Prelude.{◌≡◌, ◌≤◌, ◌+◌, ℕ, ℤ, List, [], length, take, Result, Ok, Err}
use Rattle.port_122.specs.Outside.{Outside, Exchange, GivenBy, AtEnd, Rose}
use Rattle.base_122.specs.declared.setting.Setting.{Setting}
use Rattle.wave_defs.specs.Held.{SameWithin}
use Rattle.stream_defs.specs.Output.{segments_of}
use Rattle.strip_coder.specs.declared.encode.EncodeDone.{EncodeDone}
use Rattle.strip_coder.specs.declared.encode.EncodeFault.{EncodeFault}
use Rattle.strip_coder.specs.declared.encode.EncodeFault.TheVariants.{ReadFault, WriteFault, Short, Long, BadPixel}
use Rattle.strip_coder.specs.Rasters.{most_length, LacksRows, image_of}
use Rattle.strip_coder.specs.Answers.{AllInRange, AsksInRange, FirstBad, TookRaster, TookRows}
use Rattle.bare_stream.specs.Bare.{bare}
use Rattle.bare_stream.specs.Rasters.{settled_texts, texts_for}

-- what was done for an image
pub record DoneBare (s : Setting) (x : ℕ → ℕ → ℤ) (done : EncodeDone) : Type 0 where
  pub segments : done.segments ≡ segments_of s
  pub packets : done.packets ≡ 0
  pub octets : done.octets ≡ length (bare s x)

-- these octets are a prefix of the bare stream of each image that begins with the first k rows of the raster
pub record IsPrefixOfEach (s : Setting) (taken : List ℕ) (k : ℕ) (gave : List ℕ) : Type 0 where
  pub each : (x : ℕ → ℕ → ℤ) → SameWithin k s.width (image_of s taken) x → (n : ℕ) × (gave ≡ take n (bare s x))

-- The reason for each answer: the cases are those of the encoder of packets, with texts in place of packets. They exclude each other by
-- what was taken, the end and the counts, except for faults of the port.
abbrev pub BareAnswers : Setting → Outside → Outside → List ℕ → List ℕ → Result EncodeDone EncodeFault → Type 0
BareAnswers s old new took gave (Ok done) =
    TookRaster s s.rows took × AtEnd new × (gave ≡ bare s (image_of s took)) × DoneBare s (image_of s took) done
BareAnswers s old new took gave (Err (Short octets)) =
    (octets ≡ length took) × LacksRows s (length took) × AtEnd new × AllInRange s took × (gave ≡ texts_for s took)
BareAnswers s old new took gave (Err Long) =
    (length took ≡ most_length s + 1) × AllInRange s (take (most_length s) took) × (gave ≡ texts_for s took)
    × (gave ≡ bare s (image_of s (take (most_length s) took)))
BareAnswers s old new took gave (Err (BadPixel row column value)) =
    (length took ≤ most_length s) × FirstBad s took row column value × (gave ≡ settled_texts s took row)
BareAnswers s old new took gave (Err ReadFault) =
    Rose old.read_faults new.read_faults × (length took ≤ most_length s) × AllInRange s took × (gave ≡ texts_for s took)
BareAnswers s old new took gave (Err WriteFault) =
    Rose old.write_faults new.write_faults × ((k : ℕ) × TookRows s took k × IsPrefixOfEach s took k gave)

-- One run over a port: what it took and gave, when, and why it ended so. At each read call the texts of the segments that were settled by
-- then are given, and nothing else. At most the octets of the raster are taken by then, and all whole pixels of them are in range.
pub record EncodesBare (s : Setting) (old new : Outside) (result : Result EncodeDone EncodeFault) : Type 0 where
  pub took : List ℕ
  pub gave : List ℕ
  pub since : Exchange old new took gave [] (GivenBy (texts_for s) took)
  pub asks : Exchange old new took gave [] (AsksInRange s took)
  pub answer : BareAnswers s old new took gave result
