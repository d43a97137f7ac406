-- The commands and the keys of the program, one literal list each; the program's own tables are these (docs/DECISIONS.md, "Words"). This project's own.
use Rattle.std.specs.Prelude.{ℕ, Bool, true, false, List, [], ◌∷◌, codes, Option, Some, None}
use Rattle.base_122.specs.Weights.{usual_shifts}
use Rattle.base_122.specs.Ranges.{width_range, rows_range, depth_range, segment_range, word_range, apid_range, image_range, packet_range, pixels_range}
use Rattle.base_122.specs.Ranges.{octets_range}
use Rattle.base_122.specs.declared.field.Field.{Field}
use Rattle.base_122.specs.declared.field.Field.TheVariants as field
use Rattle.base_122.specs.declared.setting.Select.TheVariants.{Optimal}
use Rattle.command_words.specs.declared.tables.Task.{Task}
use Rattle.command_words.specs.declared.tables.Task.TheVariants.{Encode, Mux, Read, Info, Pick, BareEncode, BareDecode, Make, Trial}
use Rattle.command_words.specs.declared.tables.Reading.TheVariants.{Decode, Damage, Look, Rects, List as ListPackets}
use Rattle.command_words.specs.declared.tables.Key.{Key}
use Rattle.command_words.specs.declared.tables.Key.TheVariants.{Width, Rows, Depth, Signed, Segment, Limit, Fill, Word, Stop, Weights, Select, Apid, Image}
use Rattle.command_words.specs.declared.tables.Key.TheVariants.{Packet, Pixels, Octets, Total, Cameras, Book, Seed, Restore}
use Rattle.command_words.specs.declared.tables.Range.{Range}
use Rattle.command_words.specs.declared.tables.Range.TheVariants.{All as any_value, Number as number_range, Cap as cap_range, Rows as image_rows}
use Rattle.command_words.specs.declared.tables.Range.TheVariants.{Limit as limit_range, Total as total_range, Fill as fill_range, Stop as stop_range}
use Rattle.command_words.specs.declared.tables.Range.TheVariants.{Weights as weights_range, Cameras as cameras_range}
use Rattle.command_words.specs.declared.values.Value.{Value}
use Rattle.command_words.specs.declared.values.Value.TheVariants.{Number, Cap, Flag, StopAt, Weights as WeightsValue, Select as SelectValue}

-- the name of a key
abbrev pub key_text : Key → List ℕ
key_text Width = codes "width"
key_text Rows = codes "rows"
key_text Depth = codes "depth"
key_text Signed = codes "signed"
key_text Segment = codes "segment"
key_text Limit = codes "limit"
key_text Fill = codes "fill"
key_text Word = codes "word"
key_text Stop = codes "stop"
key_text Weights = codes "weights"
key_text Select = codes "select"
key_text Apid = codes "apid"
key_text Image = codes "image"
key_text Packet = codes "packet"
key_text Pixels = codes "pixels"
key_text Octets = codes "octets"
key_text Total = codes "total"
key_text Cameras = codes "cameras"
key_text Book = codes "book"
key_text Seed = codes "seed"
key_text Restore = codes "restore"

-- the default of a key, which only the commands that don't need it have
abbrev pub default_of : Key → Value
default_of Width = Number 17
default_of Rows = Number 17
default_of Depth = Number 8
default_of Signed = Flag false
default_of Segment = Number 64
default_of Limit = Number 0
default_of Fill = Flag false
default_of Word = Number 1
default_of Stop = StopAt 0 3
default_of Weights = WeightsValue (record { shifts = usual_shifts })
default_of Select = SelectValue Optimal
default_of Apid = Number 100
default_of Image = Number 0
default_of Packet = Number 1024
default_of Pixels = Cap 4294967296
default_of Octets = Cap 1099511627776
default_of Total = Cap 0
default_of Cameras = Number 1
default_of Book = Flag false
default_of Seed = Number 0
default_of Restore = Flag false

-- a command that has one of these keys needs it
abbrev pub is_required : Key → Bool
is_required Width = true
is_required Rows = true
is_required key = false

-- the range of a key
abbrev pub range_of : Key → Range
range_of Width = number_range width_range
range_of Rows = image_rows rows_range
range_of Depth = number_range depth_range
range_of Signed = any_value
range_of Segment = number_range segment_range
range_of Limit = limit_range
range_of Fill = fill_range
range_of Word = number_range word_range
range_of Stop = stop_range
range_of Weights = weights_range
range_of Select = any_value
range_of Apid = number_range apid_range
range_of Image = number_range image_range
range_of Packet = number_range packet_range
range_of Pixels = cap_range pixels_range
range_of Octets = cap_range octets_range
range_of Total = total_range
range_of Cameras = cameras_range
range_of Book = any_value
range_of Seed = any_value
range_of Restore = any_value

-- the field that a note names for a key
abbrev pub named_field : Key → Option Field
named_field Width = Some field.Width
named_field Rows = Some field.Rows
named_field Depth = Some field.Depth
named_field Signed = None
named_field Segment = Some field.Segment
named_field Limit = Some field.Limit
named_field Fill = Some field.Fill
named_field Word = Some field.Word
named_field Stop = Some field.Stop
named_field Weights = Some field.Weights
named_field Select = None
named_field Apid = Some field.Apid
named_field Image = Some field.Image
named_field Packet = Some field.Packet
named_field Pixels = Some field.Pixels
named_field Octets = Some field.Octets
named_field Total = Some field.Total
named_field Cameras = Some field.Cameras
named_field Book = None
named_field Seed = None
named_field Restore = None

-- all keys, in the order in which their ranges are tested
abbrev pub all_keys : List Key
all_keys = Width ∷ Rows ∷ Depth ∷ Signed ∷ Segment ∷ Limit ∷ Fill ∷ Word ∷ Stop ∷ Weights ∷ Select ∷ Apid ∷ Image ∷ Packet ∷ Pixels ∷ Octets ∷ Total
    ∷ Cameras ∷ Book ∷ Seed ∷ Restore ∷ []

-- the commands: for each its name, what it does, and its keys in the order in which a missing one is named
abbrev pub commands : List (List ℕ × Task × List Key)
commands = (
  codes "encode",
  Encode,
  Width ∷ Rows ∷ Depth ∷ Signed ∷ Segment ∷ Limit ∷ Fill ∷ Word ∷ Stop ∷ Weights ∷ Select ∷ Apid ∷ Image ∷ Packet ∷ Total ∷
      Book ∷ [],
) ∷
    (codes "mux", Mux, Width ∷ Rows ∷ Depth ∷ Signed ∷ Segment ∷ Limit ∷ Fill ∷ Word ∷ Stop ∷ Weights ∷ Select ∷ Apid ∷ Image ∷ Packet ∷ Total ∷ Cameras ∷ []) ∷
    (codes "decode", Read Decode, Apid ∷ Pixels ∷ Octets ∷ Restore ∷ Book ∷ []) ∷
    (codes "damage", Read Damage, Apid ∷ Pixels ∷ Octets ∷ Book ∷ []) ∷
    (codes "rects", Read Rects, Apid ∷ Pixels ∷ Octets ∷ []) ∷
    (codes "look", Read Look, Apid ∷ Pixels ∷ Octets ∷ Restore ∷ []) ∷
    (codes "list", Read ListPackets, Apid ∷ Octets ∷ []) ∷
    (codes "info", Info, Apid ∷ Octets ∷ []) ∷
    (codes "pick", Pick, Apid ∷ Image ∷ Octets ∷ []) ∷
    (codes "bare-encode", BareEncode, Width ∷ Rows ∷ Depth ∷ Signed ∷ Segment ∷ Limit ∷ Fill ∷ Word ∷ Stop ∷ Weights ∷ Select ∷ []) ∷
    (codes "bare-decode", BareDecode, Pixels ∷ Octets ∷ Restore ∷ []) ∷
    (codes "make", Make, Width ∷ Rows ∷ Depth ∷ Signed ∷ Seed ∷ []) ∷ (
      codes "trial",
      Trial,
      Width ∷ Rows ∷ Depth ∷ Signed ∷ Segment ∷ Limit ∷ Fill ∷ Word ∷ Stop ∷ Weights ∷ Select ∷ Apid ∷ Image ∷ Packet ∷ Total ∷ Seed ∷
          [],
    ) ∷
    []
