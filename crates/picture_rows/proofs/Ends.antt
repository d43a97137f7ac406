-- A picture whose height is reported after some of its blocks.
use Rattle.std.proofs.Common.{◌≡◌, ◌<◌, ◌≤◌, ◌*◌, ◌/◌, ℕ, refl, sym, ◌∙◌, inl, inr, arith, mul-le-mul_left}
use Rattle.std.proofs.lemmas.Bool.{cases_lt}
use Rattle.base_122.specs.Sizes.{block_count, padded_size, total_blocks}
use Rattle.base_122.specs.Ranges.{IsWithin, rows_range}
use Rattle.wave_defs.specs.Pyramid.{Pyramid}
use Rattle.wave_defs.specs.Blocks.{Place}
use Rattle.inverse_strip.specs.declared.strip.StripInverse.{StripInverse}
use Rattle.inverse_strip.specs.Kept.{IsCompletion}
use Rattle.inverse_strip.specs.Strip.{columns_of, height_of, taken_of, next_of, numbers_of, FollowStrip}
use Rattle.picture_rows.specs.Pictures.{PictureState, IsSized, IsPictureCurrent, passed_in}
use Rattle.picture_rows.specs.Steps.{HasHeight}
use Rattle.picture_rows.proofs.Heights.{rows_of_shorter}

-- a strip has this number of rows now, and all else is unchanged
pub record StripEnded (rows : ℕ) (s t : StripInverse) : Type 0 where
  pub height : height_of t ≡ rows / 8
  pub width : columns_of t ≡ columns_of s
  pub taken : taken_of t ≡ taken_of s
  pub next : next_of t ≡ next_of s
  pub numbers : (q : Place) → numbers_of t q ≡ numbers_of s q
  pub follows : (p : Pyramid) (r : ℕ) → FollowStrip p r s → FollowStrip p r t

-- the picture with another height and strip
abbrev pub ended : PictureState → ℕ → StripInverse → PictureState
ended p rows strip = record p { geometry = record p.geometry { rows = rows }; strip = strip }

-- the next block is in a block row of the lower image
pub row_before : (p : PictureState) (rows : ℕ) → passed_in p < total_blocks p.geometry.width rows → p.at.row < block_count rows
row_before p rows room = elim (cases_lt p.at.row (block_count rows)) [
  | inl lt ↦ lt
  | inr ge ↦ absurd (
      let c = block_count p.geometry.width in
      let all : c * block_count rows ≤ c * p.at.row = mul-le-mul_left c ge in
      let turned : c * p.at.row ≡ p.at.row * c = grind arith in
      omega (arith, all, turned, room))
]

module _ (p : PictureState) (rows padded : ℕ) (t : StripInverse) (current : IsPictureCurrent p) (range : IsWithin rows_range rows)
    (fewer : rows ≤ p.geometry.rows)
    (more : passed_in p < total_blocks p.geometry.width rows) (whole : padded ≡ padded_size rows) (strip : StripEnded padded p.strip t) where
  open_row : p.at.row < block_count rows
  open_row = row_before p rows more

  open_before : p.at.row < block_count p.geometry.rows
  open_before = omega (arith, open_row, fewer)

  sized_end : IsSized (ended p rows t)
  sized_end =
      let sized = current.sized in
      let fits = sized.range in
      record {
        range = record {
          width = fits.width;
          rows = inr range;
          depth = fits.depth;
          segment = fits.segment;
          image = fits.image;
          word = fits.word;
          weights =
              fits.weights;
        };
        columns = strip.width ∙ sized.columns;
        height = let height = strip.height in omega (arith, height, whole);
        taken = strip.taken ∙ sized.taken;
        next = strip.next ∙ sized.next;
        rows = omega (arith, open_row);
        column = sized.column;
        none = λ e. absurd (omega (arith, e, open_row));
        next_most = λ lt. sized.next_most open_before;
      }

  -- whatever the height is, the block rows so far begin the image
  completes : (r : ℕ) → IsCompletion (taken_of t) (height_of t) r → IsCompletion (taken_of p.strip) (height_of p.strip) r
  completes r is =
      let sized = current.sized in
      let least = is.more in
      record { more = omega (arith, least, strip.taken); whole = λ e. absurd (omega (arith, e, sized.taken, sized.height, open_before)) }

  pub has_ended : HasHeight rows p (ended p rows t)
  has_ended = record {
    current = record { sized = sized_end; next_settled = λ lt. current.next_settled open_before; all_made = λ e. absurd (omega (arith, e, open_row)) };
    geometry = refl;
    at = refl;
    follows = λ numbers valid. record {
      strip = λ r is. strip.follows _ r (valid.strip r (completes r is));
      set = λ column i lt small. strip.numbers _ ∙ valid.set column i lt small;
      unset = λ column i le lt small. strip.numbers _ ∙ valid.unset column i le lt small;
    };
    given = λ numbers. sym (rows_of_shorter p.geometry rows numbers current.sized.range.width fewer p.at.row p.at.next open_row
        (current.sized.next_most open_before));
  }

-- ---- past the end
