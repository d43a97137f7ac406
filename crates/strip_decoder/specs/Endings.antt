-- How a reader of a picture ends, by what it took and gave. This project's own.
use Rattle.std.specs.Prelude.{◌≡◌, ℕ, List, [], length, false, None, Result, Ok, Err}
use Rattle.port_122.specs.Outside.{Outside, Rose}
use Rattle.base_122.specs.declared.wish.DecodeWish.{DecodeWish}
use Rattle.packet_defs.specs.Streams.{left_over, has_bad_version}
use Rattle.stream_defs.specs.Begun.{HasFewPixels}
use Rattle.stream_defs.specs.Fates.{geometry_in}
use Rattle.packet_assembly.specs.Readings.{IsReadOut}
use Rattle.strip_decoder.specs.declared.ending.DecodeFault.{DecodeFault}
use Rattle.strip_decoder.specs.declared.ending.DecodeFault.TheVariants.{ReadFault, WriteFault, NoSegment, TooManyPixels, LongInput, Memory}
use Rattle.strip_decoder.specs.Runs.{HasFewKnown, ReportsMany, reports_last}

-- The first head that reports too many pixels reports this number, and if the packets report the height from the first head on, nothing
-- is given.
pub record HasTooMany (wish : DecodeWish) (took gave : List ℕ) (pixels : ℕ) : Type 0 where
  pub many : ReportsMany wish.pixels wish.apid pixels took
  pub nothing : reports_last many ≡ false → gave ≡ []

-- Why a call ended so, with what is given for the octets that were taken: all, or what is given early or if a write fails. The answers exclude
-- each other by what was taken, the end and the counts, except for faults of the port and too little memory.
abbrev pub EndsBy : {D : Type 0} → (whole : Outside → Outside → List ℕ → List ℕ → D → Type 0) (early : Outside → List ℕ → List ℕ → Type 0)
    (cut : Outside → Outside → List ℕ → List ℕ → Type 0) → DecodeWish → (old new : Outside) (took gave : List ℕ) → Result D DecodeFault → Type 0
EndsBy whole early cut wish old new took gave (Ok done) = whole old new took gave done
EndsBy whole early cut wish old new took gave (Err NoSegment) = (geometry_in wish.apid took ≡ None) × IsReadOut wish.octets new took × (gave ≡ [])
EndsBy whole early cut wish old new took gave (Err (TooManyPixels pixels)) = HasTooMany wish took gave pixels × early old took gave
EndsBy whole early cut wish old new took gave (Err LongInput) = (length took ≡ wish.octets) × (has_bad_version (left_over took) ≡ false)
    × HasFewPixels wish.pixels wish.apid took × early old took gave
EndsBy whole early cut wish old new took gave (Err ReadFault) = Rose old.read_faults new.read_faults × early old took gave
EndsBy whole early cut wish old new took gave (Err WriteFault) = Rose old.write_faults new.write_faults × HasFewKnown wish.pixels wish.apid took
    × cut old new took gave
EndsBy whole early cut wish old new took gave (Err Memory) = gave ≡ []
