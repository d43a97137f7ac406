-- The geometry of an image of a setting in range is in range, and so is the setting with the image's height.
use Rattle.std.proofs.Common.{◌≡◌, ◌⊎◌, inl, inr, ℕ, subst}
use Rattle.base_122.specs.declared.setting.Setting.{Setting}
use Rattle.base_122.specs.Setting.{IsHeight, sized, geometry_of, image_geometry}
use Rattle.base_122.specs.Ranges.{IsWithin, rows_range, HasTotal, IsInRange, IsGeometryInRange}

pub in_range-image_geometry : (s : Setting) (rows : ℕ) → IsInRange s → IsWithin rows_range rows → IsGeometryInRange (image_geometry s rows)
in_range-image_geometry s rows in_range tall = record {
  width = in_range.width;
  rows = inr tall;
  depth = in_range.depth;
  segment = in_range.segment;
  image = in_range.image;
  word = in_range.word;
  weights = in_range.weights;
}

-- rows that are not left open are in their range
pub rows_known : (s : Setting) → IsInRange s → (s.rows ≡ 0 → ⊥) → IsWithin rows_range s.rows
rows_known s in_range some = elim in_range.rows [ inl none ↦ absurd (some none) | inr if_known ↦ if_known ]

pub in_range-geometry : (s : Setting) → IsInRange s → (s.rows ≡ 0 → ⊥) → IsGeometryInRange (geometry_of s)
in_range-geometry s in_range some = in_range-image_geometry s s.rows in_range (rows_known s in_range some)

pub in_range-sized : (s : Setting) (rows : ℕ) → IsInRange s → IsHeight s rows → IsInRange (sized s rows)
in_range-sized s rows in_range height = record {
  width = in_range.width;
  rows = inr height.0;
  depth = in_range.depth;
  segment = in_range.segment;
  limit = in_range.limit;
  fill = in_range.fill;
  word = in_range.word;
  plane = in_range.plane;
  stage = in_range.stage;
  weights = in_range.weights;
  apid = in_range.apid;
  image = in_range.image;
  packet = in_range.packet;
  total = elim in_range.total [ inl none ↦ inl none | inr has ↦ inr (has_total has height.1) ];
}
  where
    has_total : HasTotal s → (s.rows ≡ 0) ⊎ (s.rows ≡ rows) → HasTotal (sized s rows)
    has_total has (inl none) = absurd (has.rows none)
    has_total has (inr same) = subst (λ n. HasTotal (sized s n)) same has
