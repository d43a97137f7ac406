-- The texts of help. This project's own.
use Rattle.std.specs.Prelude.{◌≡◌, ◌+◌, ◌-◌, ℕ, nat_lt, Bool, true, false, if◌then◌else◌, List, [], ◌∷◌, ◌++◌, length, map, replicate, flat_map, codes}
use Rattle.std.specs.Prelude.{decimal, Result, IfOk, String, string_bytes}
use Rattle.std.specs.declared.alloc.Global.{Global}
use Rattle.base_122.specs.Ranges.{limit_range as limits, plane_range, stage_range}
use Rattle.base_122.specs.declared.range.FieldRange.{FieldRange}
use Rattle.command_words.specs.declared.tables.Key.{Key}
use Rattle.command_words.specs.declared.tables.Key.TheVariants.{Apid, Image}
use Rattle.command_words.specs.declared.tables.KeyRow.{KeyRow}
use Rattle.command_words.specs.declared.tables.Task.{Task}
use Rattle.command_words.specs.declared.tables.Task.TheVariants.{Info, Pick}
use Rattle.command_words.specs.declared.tables.Form.{Form}
use Rattle.command_words.specs.declared.tables.Form.TheVariants.{Number, Cap, Flag, Stop, Weights, Select}
use Rattle.command_words.specs.declared.tables.Range.{Range}
use Rattle.command_words.specs.declared.tables.Range.TheVariants.{All as any_value, Number as number_range, Cap as cap_range, Rows as image_rows}
use Rattle.command_words.specs.declared.tables.Range.TheVariants.{Limit as limit_range, Total as total_range, Fill as fill_range, Stop as stop_range}
use Rattle.command_words.specs.declared.tables.Range.TheVariants.{Weights as weights_range, Cameras as cameras_range}
use Rattle.command_words.specs.declared.tables.TheConstants.{COMMANDS, GROUPS}
use Rattle.command_words.specs.declared.help.TheConstants.{USAGE, RASTERS, STATUSES}
use Rattle.command_words.specs.Values.{value_text, form_of}
use Rattle.command_words.specs.Listed.{key_text, commands}
use Rattle.command_words.specs.Tables.{contains_key, row_of, meaning_of}

-- a call that appends this text if it has the memory
abbrev pub Appends : {T E : Type 0} → Result T E → String Global → String Global → List ℕ → Type 0
Appends result old new more = IfOk result (λ _. string_bytes new ≡ string_bytes old ++ more)

-- ---- a key's name, range and default

abbrev pub numbers_text : FieldRange → List ℕ
numbers_text range = decimal range.least ++ codes ".." ++ decimal range.most

-- all values of a form
abbrev pub form_text : Form → List ℕ
form_text Number = codes "0..4294967295"
form_text Cap = codes "0..1099511627776"
form_text Flag = codes "0|1"
form_text Stop = codes "dc|P.S"
form_text Weights = codes "ten digits 0..3"
form_text Select = codes "heuristic|optimal"

abbrev pub values_text : Range → Form → List ℕ
values_text any_value form = form_text form
values_text (number_range range) form = numbers_text range
values_text (cap_range range) form = numbers_text range
values_text (image_rows range) form = codes "0|" ++ numbers_text range ++ codes ", 0 for encode"
values_text limit_range form = codes "0|" ++ numbers_text limits ++ codes ", multiple of word"
values_text total_range form = codes "0|36n..2^40, n segments, no limit"
values_text fill_range form = codes "0|1, 1 with a limit or a total"
values_text stop_range form = codes "dc|P.S, P " ++ numbers_text plane_range ++ codes ", S " ++ numbers_text stage_range
values_text weights_range form = form_text Weights
values_text cameras_range form = codes "1..16, with APIDs from apid on"

abbrev pub range_text : KeyRow → List ℕ
range_text row = values_text row.range (form_of row.default)

abbrev pub default_text : KeyRow → Bool → List ℕ
default_text row is_all = if row.required then codes "required" else (if is_all then codes "all" else value_text row.default)

-- the name, the range and the default, for a command that takes all values without the key or not
abbrev pub key_head : Key → Bool → List ℕ
key_head key is_all = key_text key ++ codes "=" ++ range_text (row_of key) ++ codes " (" ++ default_text (row_of key) is_all ++ codes ")"

-- ---- the page

-- spaces up to a column of a line
abbrev pub spaces_to : (used column : ℕ) → List ℕ
spaces_to used column = replicate (column - used) 32

-- a command's line
abbrev pub command_line : (name meaning : List ℕ) → List ℕ
command_line name meaning = name ++ spaces_to (length name) 13 ++ meaning ++ codes "\n"

-- a name after a space from a column on, on a new line if this one would pass column 80; and the column after it
abbrev pub column_text : ℕ → List ℕ → List ℕ
column_text column name = if nat_lt (length name) (80 - column) then codes " " ++ name else codes "\n" ++ spaces_to 0 45 ++ codes " " ++ name

abbrev pub column_after : ℕ → List ℕ → ℕ
column_after column name = if nat_lt (length name) (80 - column) then column + 1 + length name else 46 + length name

-- the names of those of these commands that have a key, from a column on
abbrev pub columns : Key → ℕ → List (List ℕ × List Key) → List ℕ
columns key column [] = []
columns key column (row ∷ rows) =
    if contains_key row.1 key then column_text column row.0 ++ columns key (column_after column row.0) rows else columns key column rows

-- a key's line
abbrev pub key_begin : Key → List ℕ
key_begin key = codes "  " ++ key_head key false

abbrev pub key_start : Key → List ℕ
key_start key = key_begin key ++ spaces_to (length (key_begin key)) 45

unfoldable pub key_line : Key → List ℕ
key_line key = key_start key ++ columns key (length (key_start key)) (map (λ row. (row.0, row.2)) commands) ++ codes "\n"

-- a group of keys after its title
abbrev pub group_lines : List ℕ → List Key → List ℕ
group_lines title keys = title ++ flat_map key_line keys

unfoldable pub page : List ℕ
page =
    USAGE.now ++ flat_map (λ row. command_line row.0.now row.3.now) COMMANDS ++
    RASTERS.now ++ flat_map (λ group. group_lines group.0.now group.1.now) GROUPS ++ STATUSES.now

-- ---- the help on one command, and on one key

-- `info` takes all APIDs, and `pick` all images, unless the arguments have one
abbrev pub takes_all : Task → Key → Bool
takes_all Info Apid = true
takes_all Pick Image = true
takes_all task key = false

abbrev pub command_key : Task → Key → List ℕ
command_key task key = codes "  " ++ key_head key (takes_all task key) ++ codes "\n      " ++ meaning_of key ++ codes "\n"

-- the help on a command of this name, which does this and has these keys, this meaning and this example
unfoldable pub command_help : List ℕ → Task → List Key → List ℕ → List ℕ → List ℕ
command_help name task keys meaning example =
    command_line name meaning ++ codes "\n" ++ flat_map (command_key task) keys ++ codes "\nexample: " ++ example ++ codes "\n"

-- a name after a space, if its command has the key
abbrev pub name_if_own : Key → List ℕ → List Key → List ℕ
name_if_own key name keys = if contains_key keys key then codes " " ++ name else []

abbrev pub key_help : Key → List ℕ
key_help key =
    key_head key false ++ codes "\n    " ++ meaning_of key ++ codes "\ncommands:" ++ flat_map (λ row. name_if_own key row.0 row.2) commands ++ codes "\n"
