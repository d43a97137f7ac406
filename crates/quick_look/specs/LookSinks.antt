-- The meaning of the sink of a look, by the blocks that it has taken. This project's own.
use Rattle.std.specs.Prelude.{◌≡◌, ◌≤◌, ◌<◌, ◌/◌, ◌%◌, ◌^◌, ℕ, ℤ, pos, List, [], length, take, Option, Result, slice_index_or, unwrap_or, vec_len, refl}
use Rattle.std.proofs.Common.{sym, ap, ◌∙◌}
use Rattle.std.proofs.Math.Seq.{take-length}
use Rattle.port_122.specs.Outside.{Outside}
use Rattle.base_122.specs.Sizes.{block_count}
use Rattle.base_122.specs.Weights.{shift_of}
use Rattle.base_122.specs.declared.geometry.Geometry.{Geometry}
use Rattle.base_122.specs.declared.weights.Band.TheVariants.{Ll3}
use Rattle.wave_defs.specs.Line.{floor_div}
use Rattle.raster_rows.specs.Pixels.{IsDepth}
use Rattle.strip_decoder.specs.Sinks.{Blocks, SinkOf, EndsAt, TakesBlock, numbers_in}
use Rattle.quick_look.specs.declared.row.LookRow.{LookRow}
use Rattle.quick_look.specs.Look.{low_with, rows_with}

-- ---- a row of the look

-- it has a place for the value of each block of a block row, and one of them isn't set yet
pub record IsOpen (s : LookRow) : Type 0 where
  pub depth : IsDepth s.depth
  pub shift : s.shift ≤ 3
  pub column : s.column < s.columns
  pub wide : vec_len s.values ≡ s.columns

-- it is that of a look of this geometry which has taken n blocks
pub record IsValidAt (s : LookRow) (g : Geometry) (n : ℕ) : Type 0 where
  pub is_open : IsOpen s
  pub depth : s.depth ≡ g.depth
  pub signed : s.signed ≡ g.signed
  pub shift : s.shift ≡ shift_of g.weights.shifts Ll3
  pub columns : s.columns ≡ block_count g.width
  pub column : s.column ≡ n % block_count g.width

-- the octets of the first k rows of the look at these blocks
abbrev pub first_rows : (g : Geometry) (blocks : Blocks) (k : ℕ) → List ℕ
first_rows g blocks = rows_with g (numbers_in blocks)

-- the whole block rows among the first n blocks are given, and the values after them are those of the blocks after them
pub record ShowsLook (s : LookRow) (g : Geometry) (blocks : Blocks) (n : ℕ) (gave : List ℕ) : Type 0 where
  pub gave_is : gave ≡ first_rows g blocks (n / block_count g.width)
  pub values : (j : ℕ) → j < n % block_count g.width → slice_index_or s.values.items j (pos 0) ≡ low_with g (numbers_in blocks) (n / block_count g.width) j

-- the rows of the whole block rows among the first n blocks
abbrev pub GivesLook : (g : Geometry) (blocks : Blocks) (n : ℕ) (gave : List ℕ) → Type 0
GivesLook g blocks n gave = gave ≡ first_rows g blocks (n / block_count g.width)

-- a prefix of these rows
pub record GivesLookPrefix (g : Geometry) (blocks : Blocks) (n : ℕ) (gave : List ℕ) : Type 0 where
  pub some : ℕ
  pub gave_is : gave ≡ take some (first_rows g blocks (n / block_count g.width))

pub prefix_given : (g : Geometry) (blocks : Blocks) (n : ℕ) (gave : List ℕ) → GivesLook g blocks n gave → GivesLookPrefix g blocks n gave
prefix_given g blocks n gave given = record { some = length gave; gave_is = sym (ap (take (length gave)) (sym given) ∙ take-length gave) }

-- the rows are the same whatever the height
rows_ended : (g h : Geometry) (blocks : Blocks) (n : ℕ) → EndsAt g h n → first_rows g blocks (n / block_count g.width)
    ≡ first_rows h blocks (n / block_count h.width)
unfolding low_with
rows_ended g h blocks n ends = ap (λ (k : Geometry). first_rows k blocks (n / block_count k.width)) (sym ends.same)

pub look_ended : (g h : Geometry) (blocks : Blocks) (n : ℕ) (gave : List ℕ) → EndsAt g h n → GivesLook g blocks n gave → GivesLook h blocks n gave
look_ended g h blocks n gave ends given = given ∙ rows_ended g h blocks n ends

pub prefix_ended : (g h : Geometry) (blocks : Blocks) (n : ℕ) (gave : List ℕ) → EndsAt g h n → GivesLookPrefix g blocks n gave → GivesLookPrefix h blocks n gave
prefix_ended g h blocks n gave ends prefix = record { some = prefix.some; gave_is = prefix.gave_is ∙ ap (take prefix.some) (rows_ended g h blocks n ends) }

abbrev pub look_sink : SinkOf LookRow
look_sink = record {
  IsValid = IsValidAt;
  Follows = ShowsLook;
  Given = GivesLook;
  Part = GivesLookPrefix;
  given_of = λ s g blocks n gave valid shows. shows.gave_is;
  part_of = prefix_given;
  part_none = λ g blocks. record { some = 0; gave_is = refl };
  given_ended = look_ended;
  part_ended = prefix_ended;
}

-- ---- steps

-- the coefficient of LL3 that a block gives
abbrev pub low_of : (shift : ℕ) → Option (List ℤ) → ℤ
low_of shift block = floor_div (slice_index_or (unwrap_or block []) 0 (pos 0)) (2 ^ shift)

-- a block that gives this value was taken
abbrev pub TakesValue : {T E : Type 0} → Result T E → ℤ → (p q : Outside) (old new : LookRow) → Type 0
TakesValue result value p q old new = (block : Option (List ℤ)) → value ≡ low_of old.shift block → TakesBlock look_sink result block p q old new
