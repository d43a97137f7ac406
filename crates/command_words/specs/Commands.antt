-- The command that is made of the values, or the first thing that is wrong with them. This project's own.
use Rattle.std.specs.Prelude.{◌≡◌, ◌≤◌, ◌+◌, ◌*◌, ℕ, IfSome, ◌&&◌, ◌||◌, ◌==◌, nat_le, Bool, true, false, not, List, find, is_some, option_and_then, Option}
use Rattle.std.specs.Prelude.{Some, None, Result, Ok, Err}
use Rattle.std.specs.List.{list_all}
use Rattle.base_122.specs.Profile.{profile}
use Rattle.base_122.specs.Weights.{is_shift}
use Rattle.base_122.specs.Ranges.{IsWithin, is_within, width_range, rows_range, depth_range, apid_range, image_range, octets_range, plane_range}
use Rattle.base_122.specs.Ranges.{stage_range, limit_test, total_test, IsInRange as IsSettingInRange, IsWishInRange}
use Rattle.base_122.specs.declared.field.Field.{Field}
use Rattle.base_122.specs.declared.setting.Setting.{Setting}
use Rattle.raster_rows.specs.declared.made.MadeImage.{MadeImage}
use Rattle.command_words.specs.declared.tables.Task.{Task}
use Rattle.command_words.specs.declared.tables.Task.TheVariants.{Encode as to_encode, BareEncode as to_bare_encode, Trial as to_try}
use Rattle.command_words.specs.declared.tables.Key.{Key}
use Rattle.command_words.specs.declared.tables.Key.TheVariants.{Width, Rows, Limit, Word, Total, Apid}
use Rattle.command_words.specs.declared.tables.Range.{Range}
use Rattle.command_words.specs.declared.tables.Range.TheVariants.{All as any_value, Number as number_range, Cap as cap_range, Rows as few_rows}
use Rattle.command_words.specs.declared.tables.Range.TheVariants.{Limit as limit_range, Total as total_range, Fill as fill_range, Stop as stop_range}
use Rattle.command_words.specs.declared.tables.Range.TheVariants.{Weights as weights_range, Cameras as cameras_range}
use Rattle.command_words.specs.Listed.{all_keys}
use Rattle.command_words.specs.declared.command.Command.{Command}
use Rattle.command_words.specs.declared.command.Command.TheVariants.{Encode, Mux, Read, Info, Pick, BareEncode, BareDecode, Make, Trial}
use Rattle.command_words.specs.declared.command.WordFault.{WordFault}
use Rattle.command_words.specs.declared.command.WordFault.TheVariants.{MissingKey, OutOfRange}
use Rattle.command_words.specs.Values.{cap_of, flag_of, stop_of, weights_of}
use Rattle.command_words.specs.Tables.{Finds, row_of, value_at, number_at, setting_of, command_of}

-- an image that isn't too great for a trial has at most 2^24 pixels
abbrev pub is_small : Task → Finds → Bool
is_small to_try finds = nat_le (number_at finds Width * number_at finds Rows) 16777216
is_small task finds = true

-- an image whose height is reported last, by rows 0: only `encode` has one
abbrev pub leaves_rows_open : Task → Finds → Bool
leaves_rows_open to_encode finds = number_at finds Rows == 0
leaves_rows_open task finds = false

-- there are 1 to 16 cameras, and their APIDs are consecutive from the first one's
abbrev pub cameras_test : (apid cameras : ℕ) → Bool
cameras_test apid cameras = (nat_le 1 cameras && nat_le cameras 16) && nat_le (apid + cameras) (apid_range.most + 1)

-- a key's value passes the test of its range
abbrev pub range_test : Range → Task → Finds → Key → Bool
range_test any_value task finds key = true
range_test (number_range range) task finds key = is_within range (number_at finds key)
range_test (cap_range range) task finds key = is_within range (cap_of (value_at finds key))
range_test (few_rows range) task finds key = (leaves_rows_open task finds || is_within range (number_at finds key)) && is_small task finds
range_test limit_range task finds key = limit_test (number_at finds key) (number_at finds Word)
range_test total_range task finds key = total_test (setting_of finds)
range_test fill_range task finds key = not (flag_of (value_at finds key)) || (not (number_at finds Limit == 0) || not (cap_of (value_at finds Total) == 0))
range_test stop_range task finds key = is_within plane_range (stop_of (value_at finds key)).plane && is_within stage_range (stop_of (value_at finds key)).stage
range_test weights_range task finds key = list_all is_shift (weights_of (value_at finds key)).shifts
range_test cameras_range task finds key = cameras_test (number_at finds Apid) (number_at finds key)

abbrev pub passes : Task → Finds → Key → Bool
passes task finds key = range_test (row_of key).range task finds key

abbrev pub is_missing : Finds → Key → Bool
is_missing finds key = (row_of key).required && not (is_some (finds key))

-- the first of the command's keys that is required and missing
abbrev pub first_missing : List Key → Finds → Option Key
first_missing keys finds = find (is_missing finds) keys

-- the first key out of range; one that the command doesn't have has its default, which is in range
abbrev pub first_refused : Task → Finds → Option Key
first_refused task finds = find (λ key. not (passes task finds key)) all_keys

abbrev pub field_of : Option Key → Option Field
field_of key = option_and_then (λ key. (row_of key).field) key

-- the result after a test that may have named a field
abbrev pub after : (Field → WordFault) → Option Field → Result Command WordFault → Result Command WordFault
after fault None result = result
after fault (Some field) result = Err (fault field)

-- the tests in their order, and the command that passes all
abbrev pub made : Task → List Key → Finds → Result Command WordFault
made task keys finds = after MissingKey (field_of (first_missing keys finds))
    (after OutOfRange (field_of (first_refused task finds)) (Ok (command_of task finds)))

-- a total that wasn't found is 0; `bare-encode` has no key for it
abbrev pub LacksTotal : Task → Finds → Type 0
LacksTotal to_bare_encode finds = finds Total ≡ None
LacksTotal task finds = Unit {0}

-- A made image has the ranges of a setting.
pub record IsMadeInRange (made : MadeImage) : Type 0 where
  pub width : IsWithin width_range made.width
  pub rows : IsWithin rows_range made.rows
  pub depth : IsWithin depth_range made.depth

-- There are 1 to 16 cameras, and the APID of each is in its range.
pub record AreCameras (setting : Setting) (cameras : ℕ) : Type 0 where
  pub least : 1 ≤ cameras
  pub most : cameras ≤ 16
  pub apids : setting.apid + cameras ≤ apid_range.most + 1

-- The command's fields are in range, and its code book is the profile's. Only the rows of `encode` may be 0, for an image whose height is reported last.
abbrev pub IsInRange : Command → Type 0
IsInRange (Encode setting has_book) = IsSettingInRange setting × (setting.book ≡ profile)
IsInRange (Mux setting cameras) = IsSettingInRange setting × IsWithin rows_range setting.rows × AreCameras setting cameras × (setting.book ≡ profile)
IsInRange (Read reading wish has_book) = IsWishInRange wish × (wish.book ≡ profile)
IsInRange (Info apid octets) = IfSome apid (IsWithin apid_range) × IsWithin octets_range octets
IsInRange (Pick wish image) = IsWishInRange wish × IfSome image (IsWithin image_range)
IsInRange (BareEncode setting) = IsSettingInRange setting × IsWithin rows_range setting.rows × (setting.total ≡ 0) × (setting.book ≡ profile)
IsInRange (BareDecode wish) = IsWishInRange wish × (wish.book ≡ profile)
IsInRange (Make made) = IsMadeInRange made
IsInRange (Trial setting seed) = IsSettingInRange setting × IsWithin rows_range setting.rows × (setting.width * setting.rows ≤ 16777216)
    × (setting.book ≡ profile)
