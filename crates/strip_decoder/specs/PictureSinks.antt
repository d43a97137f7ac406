-- The meaning of the sinks with which a decoder and a search for damage walk. This project's own.
use Rattle.std.specs.Prelude.{◌≡◌, ℕ, List, [], length, take, refl}
use Rattle.std.proofs.Common.{sym, ap, ◌∙◌}
use Rattle.std.proofs.Math.Seq.{take-length}
use Rattle.base_122.specs.declared.geometry.Geometry.{Geometry}
use Rattle.stream_defs.specs.Settled.{rows_through, block_rows_before}
use Rattle.picture_rows.specs.declared.picture.Picture.{Picture}
use Rattle.picture_rows.specs.Prefixes.{rows_of}
use Rattle.picture_rows.specs.Pictures.{picture_state, Represents, passed_in}
use Rattle.picture_rows.specs.Pictures as pictures
use Rattle.picture_rows.proofs.RowsOut.{rows_out}
use Rattle.picture_rows.proofs.Heights.{rows_of_ended}
use Rattle.strip_decoder.specs.declared.find.NoPicture.{NoPicture}
use Rattle.strip_decoder.specs.declared.pictures.PictureSink.{PictureSink}
use Rattle.strip_decoder.specs.Sinks.{Blocks, SinkOf, EndsAt, numbers_in}

-- ---- a picture

-- a picture of this geometry that has passed n blocks
pub record IsValidAt (p : Picture) (g : Geometry) (n : ℕ) : Type 0 where
  pub current : pictures.IsPictureCurrent (picture_state p)
  pub geometry : p.geometry ≡ g
  pub passed : passed_in (picture_state p) ≡ n

-- it is one of these blocks, and its first rows are given
pub record ShowsBlocks (p : Picture) (g : Geometry) (blocks : Blocks) (n : ℕ) (gave : List ℕ) : Type 0 where
  pub valid : Represents (numbers_in blocks) (picture_state p)
  pub gave_is : gave ≡ rows_of g (numbers_in blocks) p.at.next

-- the first rows of the picture, exactly those that the first n blocks determine
abbrev pub GivesRows : (g : Geometry) (blocks : Blocks) (n : ℕ) (gave : List ℕ) → Type 0
GivesRows g blocks n gave = gave ≡ rows_of g (numbers_in blocks) (rows_through g (block_rows_before g n))

-- a prefix of these rows
pub record GivesPrefix (g : Geometry) (blocks : Blocks) (n : ℕ) (gave : List ℕ) : Type 0 where
  pub some : ℕ
  pub gave_is : gave ≡ take some (rows_of g (numbers_in blocks) (rows_through g (block_rows_before g n)))

pub rows_given : (p : Picture) (g : Geometry) (blocks : Blocks) (n : ℕ) (gave : List ℕ) → IsValidAt p g n → ShowsBlocks p g blocks n gave →
    GivesRows g blocks n gave
rows_given p g blocks n gave valid shows =
    rows_out (picture_state p) g n (numbers_in blocks) gave valid.current valid.geometry valid.passed shows.gave_is

pub prefix_given : (g : Geometry) (blocks : Blocks) (n : ℕ) (gave : List ℕ) → GivesRows g blocks n gave → GivesPrefix g blocks n gave
prefix_given g blocks n gave given = record { some = length gave; gave_is = sym (ap (take (length gave)) (sym given) ∙ take-length gave) }

pub rows_ended : (g h : Geometry) (blocks : Blocks) (n : ℕ) (gave : List ℕ) → EndsAt g h n → GivesRows g blocks n gave → GivesRows h blocks n gave
rows_ended g h blocks n gave ends given = given ∙ sym (rows_of_ended g h n (numbers_in blocks) ends.range ends.height ends.same ends.fewer ends.more)

pub prefix_ended : (g h : Geometry) (blocks : Blocks) (n : ℕ) (gave : List ℕ) → EndsAt g h n → GivesPrefix g blocks n gave → GivesPrefix h blocks n gave
prefix_ended g h blocks n gave ends prefix = record {
  some = prefix.some;
  gave_is = prefix.gave_is ∙ ap (take prefix.some) (sym (rows_of_ended g h n (numbers_in blocks) ends.range ends.height ends.same ends.fewer ends.more));
}

abbrev pub picture_sink : SinkOf PictureSink
picture_sink = record {
  IsValid = λ s. IsValidAt s.picture;
  Follows = λ s. ShowsBlocks s.picture;
  Given = GivesRows;
  Part = GivesPrefix;
  given_of = λ s. rows_given s.picture;
  part_of = prefix_given;
  part_none = λ g blocks. record { some = 0; gave_is = refl };
  given_ended = rows_ended;
  part_ended = prefix_ended;
}

-- ---- no picture

-- for no block anything is given
abbrev pub no_picture : SinkOf NoPicture
no_picture = record {
  IsValid = λ s g n. Unit {0};
  Follows = λ s g blocks n gave. gave ≡ [];
  Given = λ g blocks n gave. gave ≡ [];
  Part = λ g blocks n gave. gave ≡ [];
  given_of = λ s g blocks n gave valid none. none;
  part_of = λ g blocks n gave none. none;
  part_none = λ g blocks. refl;
  given_ended = λ g h blocks n gave ends none. none;
  part_ended = λ g h blocks n gave ends none. none;
}
