-- The tables of keys and of commands, as they are looked up, and what is made of the values at the keys. This project's own.
use Rattle.std.specs.Prelude.{ℕ, ◌==◌, Bool, false, List, [], find, map, position, slice_index_or, unwrap_or, option_map, Option, None}
use Rattle.std.specs.List.{list_any}
use Rattle.std.specs.Str.{bytes_eq}
use Rattle.base_122.specs.Profile.{profile}
use Rattle.base_122.specs.declared.setting.Setting.{Setting}
use Rattle.base_122.specs.declared.wish.DecodeWish.{DecodeWish}
use Rattle.raster_rows.specs.declared.made.MadeImage.{MadeImage}
use Rattle.command_words.specs.declared.tables.Task.{Task}
use Rattle.command_words.specs.declared.tables.Task.TheVariants.{Encode as to_encode, Mux as to_mux, Read as to_read, Info as to_info, Pick as to_pick}
use Rattle.command_words.specs.declared.tables.Task.TheVariants.{BareEncode as to_bare_encode, BareDecode as to_bare_decode, Make as to_make}
use Rattle.command_words.specs.declared.tables.Task.TheVariants.{Trial as to_try}
use Rattle.command_words.specs.declared.command.Command.{Command}
use Rattle.command_words.specs.declared.command.Command.TheVariants.{Encode, Mux, Read, Info, Pick, BareEncode, BareDecode, Make, Trial}
use Rattle.command_words.specs.declared.tables.Key.{Key}
use Rattle.command_words.specs.declared.tables.Key.TheVariants.{Width, Rows, Depth, Signed, Segment, Limit, Fill, Word, Stop, Weights, Select, Apid, Image}
use Rattle.command_words.specs.declared.tables.Key.TheVariants.{Packet, Pixels, Octets, Total, Cameras, Book, Seed, Restore}
use Rattle.command_words.specs.declared.tables.KeyRow.{KeyRow}
use Rattle.command_words.specs.declared.values.Value.{Value}
use Rattle.command_words.specs.declared.tables.Range.TheVariants.{All as any_value}
use Rattle.command_words.specs.declared.values.Value.TheVariants.{Flag}
use Rattle.command_words.specs.declared.tables.TheConstants.{KEYS}
use Rattle.command_words.specs.Listed.{key_text, default_of, is_required, range_of, named_field, all_keys, commands}
use Rattle.command_words.specs.Values.{number_of, cap_of, flag_of, stop_of, weights_of, select_of}

-- a key's place in the table
abbrev pub key_place : Key → ℕ
key_place Width = 0
key_place Rows = 1
key_place Depth = 2
key_place Signed = 3
key_place Segment = 4
key_place Limit = 5
key_place Fill = 6
key_place Word = 7
key_place Stop = 8
key_place Weights = 9
key_place Select = 10
key_place Apid = 11
key_place Image = 12
key_place Packet = 13
key_place Pixels = 14
key_place Octets = 15
key_place Total = 16
key_place Cameras = 17
key_place Book = 18
key_place Seed = 19
key_place Restore = 20

-- a key's row
abbrev pub row_of : Key → KeyRow
row_of key = record { default = default_of key; required = is_required key; field = named_field key; range = range_of key }

abbrev pub no_row : KeyRow
no_row = record { default = Flag false; required = false; field = None; range = any_value }

-- what a key is for, as the program's table has it
abbrev pub meaning_of : Key → List ℕ
meaning_of key = slice_index_or (map (λ entry. entry.2.now) KEYS) (key_place key) []

-- the key with this name
abbrev pub key_named : List ℕ → Option Key
key_named text = find (λ key. bytes_eq (key_text key) text) all_keys

-- a key is among these
abbrev pub contains_key : List Key → Key → Bool
contains_key keys key = list_any (λ own. key_place own == key_place key) keys

-- what the command with this name does, and its keys
abbrev pub command_in : List (List ℕ × Task × List Key) → List ℕ → Option (Task × List Key)
command_in table text = option_map (λ row. (row.1, row.2)) (find (λ row. bytes_eq row.0 text) table)

abbrev pub command_named : List ℕ → Option (Task × List Key)
command_named = command_in commands

-- the place among the commands of the one with this name
abbrev pub command_place : List ℕ → Option ℕ
command_place text = position (λ row. bytes_eq row.0 text) commands

-- ---- the values

-- the value that was found at each key
abbrev pub Finds : Type 0
Finds = Key → Option Value

-- a key's value, or its default
abbrev pub value_at : Finds → Key → Value
value_at finds key = unwrap_or (finds key) (row_of key).default

abbrev pub number_at : Finds → Key → ℕ
number_at finds key = number_of (value_at finds key)

-- the setting of the values, with the book of the profile; its numbers may be out of range
abbrev pub setting_of : Finds → Setting
setting_of finds = record {
  width = number_at finds Width;
  rows = number_at finds Rows;
  depth = number_at finds Depth;
  signed = flag_of (value_at finds Signed);
  segment = number_at finds Segment;
  limit = number_at finds Limit;
  fill = flag_of (value_at finds Fill);
  word = number_at finds Word;
  stop = stop_of (value_at finds Stop);
  weights = weights_of (value_at finds Weights);
  select = select_of (value_at finds Select);
  apid = number_at finds Apid;
  image = number_at finds Image;
  packet = number_at finds Packet;
  total = cap_of (value_at finds Total);
  book = profile;
}

-- the wish for a decoder, with the book of the profile
abbrev pub wish_of : Finds → DecodeWish
wish_of finds = record {
  apid = number_at finds Apid;
  pixels = cap_of (value_at finds Pixels);
  octets = cap_of (value_at finds Octets);
  book = profile;
  restore = flag_of (value_at finds Restore);
}

-- the made image of the values
abbrev pub made_image_of : Finds → MadeImage
made_image_of finds = record {
  width = number_at finds Width;
  rows = number_at finds Rows;
  depth = number_at finds Depth;
  signed = flag_of (value_at finds Signed);
  seed = number_at finds Seed;
}

-- the number at a key, if the arguments have it
abbrev pub given_number : Finds → Key → Option ℕ
given_number finds key = option_map number_of (finds key)

abbrev pub command_of : Task → Finds → Command
command_of to_encode finds = Encode (setting_of finds) (flag_of (value_at finds Book))
command_of to_mux finds = Mux (setting_of finds) (number_at finds Cameras)
command_of (to_read reading) finds = Read reading (wish_of finds) (flag_of (value_at finds Book))
command_of to_info finds = Info (given_number finds Apid) (cap_of (value_at finds Octets))
command_of to_pick finds = Pick (wish_of finds) (given_number finds Image)
command_of to_bare_encode finds = BareEncode (setting_of finds)
command_of to_bare_decode finds = BareDecode (wish_of finds)
command_of to_make finds = Make (made_image_of finds)
command_of to_try finds = Trial (setting_of finds) (number_at finds Seed)
