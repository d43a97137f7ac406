-- What the rolling inverse holds of an image of which it took the first block rows.
use Rattle.std.specs.Prelude.{◌≡◌, ℕ, ◌*◌, ◌<◌, ℤ, List, refl}
use Rattle.std.proofs.Common.{◌∙◌}
use Rattle.wave_defs.specs.Pyramid.{Pyramid, band_of, first_of, second_of, third_of}
use Rattle.wave_defs.specs.Blocks.{Place, block_side}
use Rattle.inverse_strip.specs.Cells.{HasBlockRow, number_in}
use Rattle.inverse_strip.specs.declared.strip.StripInverse.{StripInverse}
use Rattle.inverse_strip.specs.Level.{FollowLevel}
use Rattle.inverse_strip.specs.Stage.{FollowStage}

-- the blocks of a block row, the number of block rows of the image as it is given, the number of those that were taken, and
-- the number of the next row of the image
abbrev pub columns_of : StripInverse → ℕ
columns_of s = s.third.left.width

abbrev pub height_of : StripInverse → ℕ
height_of s = s.height

abbrev pub taken_of : StripInverse → ℕ
taken_of s = s.third.left.taken

abbrev pub next_of : StripInverse → ℕ
next_of s = s.first.level.given

-- the row that was made last
abbrev pub row_of : StripInverse → List ℤ
row_of s = s.row.items

-- the numbers of the block row that is set next
abbrev pub numbers_of : StripInverse → Place → ℤ
numbers_of s = number_in s.next.columns s.next.rows

-- it is as after the first block rows of this pyramid, of r block rows in all
pub record FollowStrip (p : Pyramid) (r : ℕ) (s : StripInverse) : Type 0 where
  pub third : FollowLevel (third_of p) s.third
  pub second : FollowStage (second_of p r s.third.left.width) s.second
  pub first : FollowStage (first_of p r s.third.left.width) s.first

-- the block row that is set next is block row t of this pyramid
pub record IsNext (p : Pyramid) (t : ℕ) (s : StripInverse) : Type 0 where
  pub band : (band : ℕ) → band < 10
      → HasBlockRow (band_of p band) band (block_side band * t) s.next.columns s.next.rows

-- if a number is set, all else stays, and it follows the same images
pub record Keeps (old new : StripInverse) : Type 0 where
  pub height : height_of new ≡ height_of old
  pub width : columns_of new ≡ columns_of old
  pub taken : taken_of new ≡ taken_of old
  pub given : next_of new ≡ next_of old
  pub follows : (p : Pyramid) (r : ℕ) → FollowStrip p r old → FollowStrip p r new

pub Keeps-itself : (s : StripInverse) → Keeps s s
Keeps-itself s = record { height = refl; width = refl; taken = refl; given = refl; follows = λ p r f. f }

pub Keeps-on : (a b c : StripInverse) → Keeps a b → Keeps b c → Keeps a c
Keeps-on a b c x y = record {
  height = y.height ∙ x.height;
  width = y.width ∙ x.width;
  taken = y.taken ∙ x.taken;
  given = y.given ∙ x.given;
  follows = λ p r f. y.follows p r (x.follows p r f);
}
