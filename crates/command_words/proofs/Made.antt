-- The command that is made of the values is in range.
use Rattle.std.proofs.Common.{◌≡◌, ◌≤◌, ◌+◌, ◌*◌, ℕ, List, [], ◌∷◌, refl, arith, ap, subst, true, false, Option, Some, None, Result, Ok, IfOk, IfSome, Bool}
use Rattle.std.proofs.Common.{not, unwrap_or, cond, find, nat_le, ◌==◌, ◌||◌, option_map}
use Rattle.std.proofs.lemmas.Bool.{and_parts, or_right}
use Rattle.std.proofs.lemmas.Bool.Decides.{nat_tests}
use Rattle.base_122.specs.Ranges.{rows_range, apid_range, image_range, pixels_range, octets_range, IsWithin, is_within, field_test, fields}
use Rattle.base_122.specs.Ranges.{IsInRange as IsSettingInRange, IsWishInRange}
use Rattle.base_122.specs.declared.field.Field.{Field}
use Rattle.base_122.specs.declared.range.FieldRange.{FieldRange}
use Rattle.base_122.specs.declared.field.Field.TheVariants as field
use Rattle.base_122.proofs.RangeChecks.{within, in_range-from_none}
use Rattle.command_words.specs.declared.tables.Task.{Task}
use Rattle.command_words.specs.declared.tables.Task.TheVariants.{Encode, Mux, Read, Info, Pick, BareEncode, BareDecode, Make, Trial}
use Rattle.command_words.specs.declared.tables.Key.{Key}
use Rattle.command_words.specs.declared.tables.Key.TheVariants as key
use Rattle.command_words.specs.declared.command.Command.{Command}
use Rattle.command_words.specs.declared.command.WordFault.{WordFault}
use Rattle.command_words.specs.declared.command.WordFault.TheVariants.{MissingKey, OutOfRange}
use Rattle.command_words.specs.declared.values.Value.{Value}
use Rattle.command_words.specs.Values.{number_of, cap_of}
use Rattle.command_words.specs.Tables.{command_of, row_of, Finds, setting_of, wish_of, number_at, given_number}
use Rattle.command_words.specs.Commands.{is_small, leaves_rows_open, cameras_test, passes, after, first_missing, first_refused, field_of, made, LacksTotal}
use Rattle.command_words.specs.Commands.{IsInRange}

-- the first key passes, and so do those after it
passed : (b : Bool) (key : Key) (field : Field) (rest : Option Key) → (row_of key).field ≡ Some field →
    field_of (cond (not b) (Some key) rest) ≡ None → (b ≡ true) × (field_of rest ≡ None)
passed true key field rest has e = (refl, e)
passed false key field rest has e = absurd (cc)

-- if all fields pass, there is no first that doesn't
AllPass : (Field → Bool) → List Field → Type 0
AllPass p [] = Unit {0}
AllPass p (field ∷ fields) = (p field ≡ true) × AllPass p fields

skipped : (b : Bool) (field : Field) (rest : Option Field) → b ≡ true → rest ≡ None → cond (not b) (Some field) rest ≡ None
skipped true field rest passes e = e
skipped false field rest passes e = absurd (let h : false ≡ true = passes in cc)

none_fails : (p : Field → Bool) (fields : List Field) → AllPass p fields → find (λ field. not (p field)) fields ≡ None
unfolding AllPass
none_fails p [] all = refl
none_fails p (field ∷ fields) all = skipped (p field) field (find (λ field. not (p field)) fields) all.0 (none_fails p fields all.1)

-- Everything that is made of values in range is in range. The rows are those of an image, if the command doesn't leave them open.
record AllInRange (task : Task) (finds : Finds) : Type 0 where
  setting : IsSettingInRange (setting_of finds)
  rows : leaves_rows_open task finds ≡ false → IsWithin rows_range (setting_of finds).rows
  wish : IsWishInRange (wish_of finds)
  small : is_small task finds ≡ true
  image : IsWithin image_range (number_at finds key.Image)
  cameras : cameras_test (number_at finds key.Apid) (number_at finds key.Cameras) ≡ true

-- only `encode` may leave the rows open, and only by rows 0
open_is_zero : (task : Task) (finds : Finds) (b : Bool) → leaves_rows_open task finds || b ≡ true → (number_at finds key.Rows == 0) || b ≡ true
open_is_zero Encode finds b h = h
open_is_zero Mux finds b h = or_right (number_at finds key.Rows == 0) b h
open_is_zero Pick finds b h = or_right (number_at finds key.Rows == 0) b h
open_is_zero Info finds b h = or_right (number_at finds key.Rows == 0) b h
open_is_zero (Read reading) finds b h = or_right (number_at finds key.Rows == 0) b h
open_is_zero BareEncode finds b h = or_right (number_at finds key.Rows == 0) b h
open_is_zero BareDecode finds b h = or_right (number_at finds key.Rows == 0) b h
open_is_zero Make finds b h = or_right (number_at finds key.Rows == 0) b h
open_is_zero Trial finds b h = or_right (number_at finds key.Rows == 0) b h

closed_rows : (leaves b : Bool) → leaves || b ≡ true → leaves ≡ false → b ≡ true
closed_rows true b h e = absurd (cc)
closed_rows false b h e = h

all_in_range : (task : Task) (finds : Finds) → field_of (first_refused task finds) ≡ None → AllInRange task finds
unfolding AllPass
all_in_range task finds e =
    let s = setting_of finds in
    let wish = wish_of finds in
    let w = passed (passes task finds key.Width) key.Width field.Width _ refl e in
    let r = passed (passes task finds key.Rows) key.Rows field.Rows _ refl w.1 in
    let d = passed (passes task finds key.Depth) key.Depth field.Depth _ refl r.1 in
    let g = passed (passes task finds key.Segment) key.Segment field.Segment _ refl d.1 in
    let l = passed (passes task finds key.Limit) key.Limit field.Limit _ refl g.1 in
    let f = passed (passes task finds key.Fill) key.Fill field.Fill _ refl l.1 in
    let o = passed (passes task finds key.Word) key.Word field.Word _ refl f.1 in
    let p = passed (passes task finds key.Stop) key.Stop field.Stop _ refl o.1 in
    let h = passed (passes task finds key.Weights) key.Weights field.Weights _ refl p.1 in
    let a = passed (passes task finds key.Apid) key.Apid field.Apid _ refl h.1 in
    let i = passed (passes task finds key.Image) key.Image field.Image _ refl a.1 in
    let k = passed (passes task finds key.Packet) key.Packet field.Packet _ refl i.1 in
    let x = passed (passes task finds key.Pixels) key.Pixels field.Pixels _ refl k.1 in
    let y = passed (passes task finds key.Octets) key.Octets field.Octets _ refl x.1 in
    let t = passed (passes task finds key.Total) key.Total field.Total _ refl y.1 in
    let c = passed (passes task finds key.Cameras) key.Cameras field.Cameras _ refl t.1 in
    let rows = and_parts (leaves_rows_open task finds || is_within rows_range s.rows) (is_small task finds) r.0 in
    record {
      setting = in_range-from_none s (none_fails (field_test s) fields
          (w.0, (open_is_zero task finds _ rows.0, (d.0, (g.0, (l.0, (f.0, (o.0, (p.0, (h.0, (a.0, (i.0, (k.0, (t.0, tt))))))))))))));
      rows = λ closed. (within rows_range s.rows).0 (closed_rows (leaves_rows_open task finds) _ rows.0 closed);
      wish = record {
        apid = (within apid_range wish.apid).0 a.0;
        pixels = (within pixels_range wish.pixels).0 x.0;
        octets = (within octets_range wish.octets).0 y.0;
      };
      small = rows.1;
      image = (within image_range (number_at finds key.Image)).0 i.0;
      cameras = c.0;
    }

cameras_in_range : (finds : Finds) (apid cameras : ℕ) → cameras_test apid cameras ≡ true → (1 ≤ cameras) × (cameras ≤ 16) × (apid + cameras ≤ 2047)
cameras_in_range finds apid cameras test = grind (arith, nat_tests, test)

-- a number that the arguments have is in range, since the key's value is
given_in_range : (finds : Finds) (key : Key) (range : FieldRange) → IsWithin range (number_at finds key) → IfSome (given_number finds key) (IsWithin range)
given_in_range finds key range within = by (finds key) refl
  where
    by : (found : Option Value) → finds key ≡ found → IfSome (option_map number_of found) (IsWithin range)
    by None is = tt
    by (Some value) is = subst (λ o. IsWithin range (number_of (unwrap_or o (row_of key).default))) is within

-- no key that is tested is out of range
pub command_in_range : (task : Task) (finds : Finds) → LacksTotal task finds → field_of (first_refused task finds) ≡ None → IsInRange (command_of task finds)
command_in_range Encode finds lacks e = ((all_in_range Encode finds e).setting, refl)
command_in_range Mux finds lacks e =
    let all = all_in_range Mux finds e in
    let few = cameras_in_range finds (number_at finds key.Apid) (number_at finds key.Cameras) all.cameras in
    (all.setting, all.rows refl, record { least = few.0; most = few.1; apids = few.2 }, refl)
command_in_range Info finds lacks e =
    let all = all_in_range Info finds e in
    (given_in_range finds key.Apid apid_range all.wish.apid, all.wish.octets)
command_in_range Pick finds lacks e =
    let all = all_in_range Pick finds e in
    (all.wish, given_in_range finds key.Image image_range all.image)
command_in_range (Read reading) finds lacks e = ((all_in_range (Read reading) finds e).wish, refl)
command_in_range BareEncode finds lacks e =
    let all = all_in_range BareEncode finds e in
    (all.setting, all.rows refl, ap (λ found. cap_of (unwrap_or found (row_of key.Total).default)) lacks, refl)
command_in_range BareDecode finds lacks e = ((all_in_range BareDecode finds e).wish, refl)
command_in_range Make finds lacks e =
    let all = all_in_range Make finds e in
    record { width = all.setting.width; rows = all.rows refl; depth = all.setting.depth }
command_in_range Trial finds lacks e =
    let all = all_in_range Trial finds e in
    let small : nat_le (number_at finds key.Width * number_at finds key.Rows) 16777216 ≡ true = all.small in
    (all.setting, all.rows refl, grind (arith, nat_tests, small), refl)

ok_after : (fault : Field → WordFault) (first : Option Field) (result : Result Command WordFault) → (first ≡ None → IfOk result IsInRange) →
    IfOk (after fault first result) IsInRange
ok_after fault None result ok = ok refl
ok_after fault (Some field) result ok = tt

pub made_in_range : (task : Task) (keys : List Key) (finds : Finds) → LacksTotal task finds → IfOk (made task keys finds) IsInRange
made_in_range task keys finds lacks =
    ok_after MissingKey (field_of (first_missing keys finds)) _ (λ _. ok_after OutOfRange (field_of (first_refused task finds)) (Ok (command_of task finds))
    (command_in_range task finds lacks))
