-- The image and the geometry in a setting.
use Rattle.std.specs.Prelude.{◌≡◌, ◌⊎◌, ◌^◌, ℕ, false}
use Rattle.base_122.specs.declared.setting.Setting.{Setting}
use Rattle.base_122.specs.declared.setting.Select.TheVariants.{Optimal}
use Rattle.base_122.specs.declared.geometry.Geometry.{Geometry}
use Rattle.base_122.specs.declared.wish.DecodeWish.{DecodeWish}
use Rattle.base_122.specs.Weights.{usual_shifts}
use Rattle.base_122.specs.Profile.{profile}
use Rattle.base_122.specs.Ranges.{IsWithin, rows_range}

-- an image of a setting has this height: the setting's own, or any in range if the setting leaves it open
abbrev pub IsHeight : Setting → ℕ → Type 0
IsHeight s rows = IsWithin rows_range rows × ((s.rows ≡ 0) ⊎ (s.rows ≡ rows))

-- the setting with the height of an image
abbrev pub sized : Setting → (rows : ℕ) → Setting
sized s rows = record s { rows = rows }

-- the fields that a reader has to know, for an image of this number of rows
abbrev pub image_geometry : Setting → (rows : ℕ) → Geometry
image_geometry s rows = record {
  width = s.width;
  rows = rows;
  depth = s.depth;
  signed = s.signed;
  segment = s.segment;
  image = s.image;
  word = s.word;
  weights = s.weights;
}

-- the geometry of an image of the setting's own height
abbrev pub geometry_of : Setting → Geometry
geometry_of s = image_geometry s s.rows

-- the usual setting for an image of this size
abbrev pub usual_setting : (width rows : ℕ) → Setting
usual_setting width rows = record {
  width = width;
  rows = rows;
  depth = 8;
  signed = false;
  segment = 64;
  limit = 0;
  fill = false;
  word = 1;
  stop = record { dc = false; plane = 0; stage = 3 };
  weights = record { shifts = usual_shifts };
  select = Optimal;
  apid = 100;
  image = 0;
  packet = 1024;
  total = 0;
  book = profile;
}

-- the usual wish of a decoder
abbrev pub usual_wish : DecodeWish
usual_wish = record { apid = 100; pixels = 2 ^ 32; octets = 2 ^ 40; book = profile; restore = false }
