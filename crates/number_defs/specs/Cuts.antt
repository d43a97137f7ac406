-- DC numbers that are cut in the DC part: what the text gives of them up to a place in its order. (docs/formats.md, "DC part and block
-- depths"; this project's own.)
use Rattle.std.specs.Prelude.{◌≡◌, ◌≤◌, ◌<◌, ℕ, zero, suc, if◌then◌else◌, nat_lt, List, ℤ, pos, slice_index_or}
use Rattle.number_defs.specs.ScriptLaws.{given_part}

-- the first parts of a number: the high part, and then bit by bit
abbrev pub parts_of : (q parts : ℕ) → ℤ → ℤ
parts_of q zero dc = pos 0
parts_of q (suc n) dc = given_part q n dc

-- a place in a DC part: the parts that are given of all numbers, and the number of blocks of which one more is
pub record DcSpot : Type 0 where
  pub parts : ℕ
  pub blocks : ℕ

-- the numbers that are cut there
abbrev pub cut_dcs : (q : ℕ) → List ℤ → DcSpot → ℕ → ℤ
cut_dcs q dcs spot r = parts_of q (if nat_lt r spot.blocks then suc spot.parts else spot.parts) (slice_index_or dcs r (pos 0))

-- numbers of `count` blocks are these, cut in the DC part before the last of this number of bit planes
pub record AreDcsCut (q planes count : ℕ) (dcs : List ℤ) (given : ℕ → ℤ) : Type 0 where
  pub spot : DcSpot
  pub inside : spot.parts ≤ planes
  pub is : (r : ℕ) → r < count → given r ≡ cut_dcs q dcs spot r
