-- The notes: one line for each status except 0. This project's own.
use Rattle.std.specs.Prelude.{◌≡◌, ◌⊎◌, ◌≤◌, ℕ, zero, suc, List, [], ◌∷◌, ◌++◌, length, take, decimal, codes, Result, Ok, Err}
use Rattle.std.specs.Fmt.{signed_decimal}
use Rattle.port_122.specs.Outside.{Outside, Exchange, NoRead, Rose}
use Rattle.base_122.specs.declared.field.Field.{Field}
use Rattle.base_122.specs.declared.field.Field.TheVariants.{Width, Rows, Depth, Segment, Limit, Fill, Word, Stop, Weights, Apid, Image, Packet, Pixels}
use Rattle.base_122.specs.declared.field.Field.TheVariants.{Octets, Total, Cameras}
use Rattle.strip_coder.specs.declared.encode.EncodeFault.{EncodeFault}
use Rattle.strip_coder.specs.declared.encode.EncodeFault.TheVariants.{ReadFault, WriteFault, Short, Long, BadPixel}
use Rattle.camera_mux.specs.declared.mux.MuxFault.{MuxFault}
use Rattle.camera_mux.specs.declared.mux.MuxFault.TheVariants.{ReadFault as mux_read_failed, WriteFault as mux_write_failed, Short as mux_short}
use Rattle.camera_mux.specs.declared.mux.MuxFault.TheVariants.{Long as mux_long, BadCamera, BadPixel as bad_camera_pixel}
use Rattle.strip_decoder.specs.declared.ending.DecodeFault.{DecodeFault}
use Rattle.strip_decoder.specs.declared.ending.DecodeFault.TheVariants.{ReadFault as read_failed, WriteFault as write_failed, NoSegment, TooManyPixels}
use Rattle.strip_decoder.specs.declared.ending.DecodeFault.TheVariants.{LongInput, Memory}
use Rattle.bare_stream.specs.declared.fault.BareFault.{BareFault}
use Rattle.bare_stream.specs.declared.fault.BareFault.TheVariants.{ReadFault as bare_read_failed, WriteFault as bare_write_failed}
use Rattle.bare_stream.specs.declared.fault.BareFault.TheVariants.{TooManyPixels as bare_many_pixels, LongInput as bare_long, Refused}
use Rattle.bare_stream.specs.declared.fault.BareFault.TheVariants.{Memory as bare_memory}
use Rattle.strip_decoder.specs.declared.list.ListFault.{ListFault}
use Rattle.strip_decoder.specs.declared.list.ListFault.TheVariants.{ReadFault as list_read_failed, WriteFault as list_write_failed, LongInput as list_long}
use Rattle.strip_decoder.specs.declared.list.ListFault.TheVariants.{Memory as list_memory}
use Rattle.command_words.specs.declared.command.WordFault.{WordFault}
use Rattle.command_words.specs.declared.command.WordFault.TheVariants.{MissingCommand, BadWord, MissingKey, OutOfRange}

-- the line was noted, or a prefix of it if a note failed
abbrev pub IsNoted : Outside → Outside → List ℕ → List ℕ → Type 0
IsNoted old new wrote line = (wrote ≡ line) ⊎ (Rose old.note_faults new.note_faults × ((k : ℕ) × (k ≤ length line) × (wrote ≡ take k line)))

-- exactly this line was noted, or a prefix of it if a note failed
abbrev pub Notes : Outside → Outside → List ℕ → Type 0
Notes old new line = (wrote : List ℕ) × Exchange old new [] [] wrote NoRead × IsNoted old new wrote line

-- the argument at a place
abbrev pub word_at : List (List ℕ) → ℕ → List ℕ
word_at [] place = []
word_at (word ∷ words) zero = word
word_at (word ∷ words) (suc place) = word_at words place

-- a field's name
abbrev pub field_text : Field → List ℕ
field_text Width = codes "width"
field_text Rows = codes "rows"
field_text Depth = codes "depth"
field_text Segment = codes "segment"
field_text Limit = codes "limit"
field_text Fill = codes "fill"
field_text Word = codes "word"
field_text Stop = codes "stop"
field_text Weights = codes "weights"
field_text Apid = codes "apid"
field_text Image = codes "image"
field_text Packet = codes "packet"
field_text Pixels = codes "pixels"
field_text Octets = codes "octets"
field_text Total = codes "total"
field_text Cameras = codes "cameras"

-- the note on arguments that are refused
abbrev pub word_line : List (List ℕ) → WordFault → List ℕ
word_line words MissingCommand = codes "strip122: missing command\n"
word_line words (BadWord place) = codes "strip122: bad word: " ++ word_at words place ++ codes "\n"
word_line words (MissingKey field) = codes "strip122: missing: " ++ field_text field ++ codes "\n"
word_line words (OutOfRange field) = codes "strip122: out of range: " ++ field_text field ++ codes "\n"

-- ---- a status and its note

pub record Report : Type 0 where
  pub status : ℕ
  pub line : List ℕ

-- all is done
abbrev pub silent : Report
silent = record { status = 0; line = [] }

-- the input is refused
abbrev pub refusal : (line : List ℕ) → Report
refusal line = record { status = 3; line = line }

-- the input is longer than may be taken
abbrev pub long_report : Report
long_report = refusal (codes "strip122: input too long\n")

-- a read failed
abbrev pub read_report : Report
read_report = record { status = 4; line = codes "strip122: read fault\n" }

-- a write failed
abbrev pub write_report : Report
write_report = record { status = 5; line = codes "strip122: write fault\n" }

-- there is too little memory
abbrev pub memory_report : Report
memory_report = record { status = 6; line = codes "strip122: no memory\n" }

-- the report on an engine's answer, from those on its results and its faults
abbrev pub answer_report : {D F : Type 0} → (D → Report) → (F → Report) → Result D F → Report
answer_report of_done of_fault (Ok done) = of_done done
answer_report of_done of_fault (Err fault) = of_fault fault

-- ---- each fault

-- of an encoder
abbrev pub short_report : (octets : ℕ) → Report
short_report octets = refusal (codes "strip122: input short, " ++ decimal octets ++ codes " octets taken\n")

abbrev pub fault_report : EncodeFault → Report
fault_report (Short octets) = short_report octets
fault_report Long = refusal (codes "strip122: input long\n")
fault_report (BadPixel row column value) = refusal
    (codes "strip122: bad pixel " ++ signed_decimal value ++ codes " at row " ++ decimal row ++ codes " column " ++ decimal column ++ codes "\n")
fault_report ReadFault = read_report
fault_report WriteFault = write_report

-- of a mux
abbrev pub mux_report : MuxFault → Report
mux_report (mux_short octets) = short_report octets
mux_report mux_long = refusal (codes "strip122: input long\n")
mux_report (BadCamera place camera) = refusal (codes "strip122: bad camera " ++ decimal camera ++ codes " at record " ++ decimal place ++ codes "\n")
mux_report (bad_camera_pixel camera row column value) = refusal
    (codes "strip122: bad pixel " ++ signed_decimal value ++ codes " of camera " ++ decimal camera ++ codes " at row " ++ decimal row ++ codes " column "
    ++ decimal column ++ codes "\n")
mux_report mux_read_failed = read_report
mux_report mux_write_failed = write_report

-- of a decoder
abbrev pub pixels_report : (pixels : ℕ) → Report
pixels_report pixels = refusal (codes "strip122: too many pixels, " ++ decimal pixels ++ codes "\n")

abbrev pub decoder_report : DecodeFault → Report
decoder_report NoSegment = refusal (codes "strip122: no segment\n")
decoder_report (TooManyPixels pixels) = pixels_report pixels
decoder_report LongInput = long_report
decoder_report read_failed = read_report
decoder_report write_failed = write_report
decoder_report Memory = memory_report

-- of a decoder of bare streams
abbrev pub bare_report : BareFault → Report
bare_report (Refused index cause) = refusal (codes "strip122: segment " ++ decimal index ++ codes " refused\n")
bare_report (bare_many_pixels pixels) = pixels_report pixels
bare_report bare_long = long_report
bare_report bare_read_failed = read_report
bare_report bare_write_failed = write_report
bare_report bare_memory = memory_report

-- of a list
abbrev pub list_report : ListFault → Report
list_report list_long = long_report
list_report list_read_failed = read_report
list_report list_write_failed = write_report
list_report list_memory = memory_report
