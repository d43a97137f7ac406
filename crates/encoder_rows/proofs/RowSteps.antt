-- An encoder takes one more row.
use Rattle.std.proofs.Common.{◌≡◌, ◌≤◌, ◌<◌, ◌+◌, ◌-◌, ◌*◌, ◌∙◌, ℕ, ℤ, List, [], ◌++◌, length, refl, sym, ap, subst, arith, inl, length-append, mul-le-mul}
use Rattle.std.specs.List.{range_with_len}
use Rattle.std.proofs.lemmas.List.{append-nil}
use Rattle.std.proofs.lemmas.List.FromFn.{length-range_with_len}
use Rattle.wave_defs.specs.Held.{SameWithin}
use Rattle.wave_strip.specs.Counts.{settled}
use Rattle.wave_strip.specs.Strip.{rows_of}
use Rattle.base_122.specs.Ranges.{IsInRange}
use Rattle.base_122.specs.Sizes.{block_count}
use Rattle.base_122.specs.declared.setting.Setting.{Setting}
use Rattle.packet_defs.specs.Packets.{joined}
use Rattle.raster_rows.specs.Pixels.{IsPixel}
use Rattle.raster_rows.specs.RowReads.{FirstInRange}
use Rattle.raster_rows.proofs.PixelPlaces.{pixel_at-append_right, size_some}
use Rattle.stream_defs.specs.SettledImages.{leading_packets, settled_in}
use Rattle.stream_defs.proofs.HeightLaws.{images_settle}
use Rattle.strip_coder.specs.Plans.{Job, MoreMayArrive, plan_of, tallest}
use Rattle.strip_coder.specs.Rasters.{row_length, image_of, AreInRange, given_for}
use Rattle.strip_coder.specs.Steps.{BreaksAt, IsRowInRange, RowIs, TakesRow}
use Rattle.strip_coder.specs.Works.{FollowsRows, HasTaken}
use Rattle.strip_coder.specs.declared.work.Work.{Work}
use Rattle.strip_coder.proofs.PlanLaws.{tall_height}
use Rattle.strip_coder.proofs.RowTakes.{OnlyRow, row_follows_any, row_running}
use Rattle.strip_coder.proofs.RowsGiven.{same_rows, settled_same, given_within}
use Rattle.strip_coder.proofs.RowsTakenLaws.{row_pixels, in_range-more}
use Rattle.encoder_rows.specs.Ports.{room_outside}
use Rattle.encoder_rows.specs.Room.{reached, row_need}
use Rattle.encoder_rows.specs.Rows.{HasRows, HasNext, IsUsable, ShowsRow}
use Rattle.encoder_rows.proofs.RasterPixels.{raster_pixels}
use Rattle.encoder_rows.proofs.Reach.{below_all, reached_is, reaches}
use Rattle.encoder_rows.proofs.SegmentRoom.{goes_few, stops_few}

pub shown_values : (s : Setting) (octets : List ℕ) (row : List ℤ) → FirstInRange s.depth s.signed octets s.width → ShowsRow s octets row → IsRowInRange s row
shown_values s octets row in_range shows = record { each = λ column lt. subst (IsPixel s.depth s.signed) (sym (shows.at column lt)) (in_range.each column lt) }

-- only the row was exchanged
pub taken_only : (p : Job) (k : ℕ) (old mid : Work) → OnlyRow old mid → HasTaken p k old → HasTaken p k mid
taken_only p k old mid only t = record {
  running = row_running p old mid only t.running;
  rows = ap (λ a. a.rows) only.at ∙ t.rows;
  strip_rows = ap rows_of only.strip ∙ t.strip_rows;
  index = λ more. ap (λ a. a.index) only.at ∙ t.index more;
}

-- ---- what was given so far

module _ (s : Setting) (range : IsInRange s) (k : ℕ) (le : k ≤ tallest s) (taken given : List ℕ) (w : Work) (has : HasRows s k taken given w)
    (more : MoreMayArrive (plan_of s (tallest s)) k) where
  index : w.at.index ≡ settled_in s (tallest s) k
  index = has.valid.taken.index more

  itself : SameWithin k s.width (image_of s taken) (image_of s taken)
  itself = record { at = λ i j hi hj. refl }

  none : taken ++ [] ≡ taken
  none = append-nil taken

  some_octets : 0 < row_length s
  some_octets = let size : 17 * 1 ≤ row_length s = mul-le-mul range.width.0 (size_some s.depth) in omega (arith, size)

  -- it is what `encode` has given
  pub as_encode : given ≡ given_for s taken
  as_encode =
      has.given_are
      ∙ ap (λ n. joined (leading_packets s (tallest s) (image_of s taken) n)) index
      ∙ sym (settled_same s (tallest s) k taken (image_of s taken) range (tall_height s range) le le itself)
      ∙ sym (given_within s k taken [] range le has.whole some_octets)
      ∙ ap (given_for s) none

-- ---- the next row

module _ (s : Setting) (usable : IsUsable s) (k : ℕ) (less : k < tallest s) (taken given octets : List ℕ) (old mid : Work)
    (has : HasRows s k taken given old) (only : OnlyRow old mid)
    (whole : length octets ≡ row_length s) (in_range : FirstInRange s.depth s.signed octets s.width) (shows : ShowsRow s octets mid.row.items) where
  le : k ≤ tallest s
  le = omega (arith, less)

  abbrev image : ℕ → ℕ → ℤ
  image = image_of s (taken ++ octets)

  -- it is the next row of each image that begins so
  row_is : (y : ℕ → ℕ → ℤ) → SameWithin (k + 1) s.width image y → RowIs s y k mid
  row_is y same = record {
    at = λ j lt. shows.at j lt ∙ sym (pixel_at-append_right s.depth s.signed taken octets (k * s.width) j (row_pixels s k taken has.whole))
        ∙ same.at k j (omega arith) lt;
  }

  before_is : (y : ℕ → ℕ → ℤ) → SameWithin (k + 1) s.width image y → SameWithin k s.width (image_of s taken) y
  before_is y same = record { at = λ i j hi hj. sym ((same_rows s k taken octets has.whole).at i j hi hj) ∙ same.at i j (omega (arith, hi)) hj }

  follows : (y : ℕ → ℕ → ℤ) → SameWithin (k + 1) s.width image y → FollowsRows s y mid
  follows y same = row_follows_any s y old mid only (has.valid.follows y (before_is y same))

  now_is : SameWithin (k + 1) s.width image image
  now_is = record { at = λ i j hi hj. refl }

  mid_index : mid.at.index ≡ settled_in s (tallest s) k
  mid_index = ap (λ a. a.index) only.at ∙ has.valid.taken.index (inl less)

  -- what was given is that of this image
  given_same : given ≡ joined (leading_packets s (tallest s) image mid.at.index)
  given_same =
      has.given_are
      ∙ ap (λ n. joined (leading_packets s (tallest s) (image_of s taken) n)) (has.valid.taken.index (inl less))
      ∙ ap joined (images_settle s (tallest s) (tallest s) k usable.in_range (tall_height s usable.in_range) (tall_height s usable.in_range) le le
      (image_of s taken) image (before_is image now_is))
      ∙ ap (λ n. joined (leading_packets s (tallest s) image n)) (sym mid_index)

  rows_now : (k + 1) * row_length s ≡ k * row_length s + row_length s
  rows_now = grind arith

  taken_whole : length (taken ++ octets) ≡ (k + 1) * row_length s
  taken_whole = length-append taken octets ∙ ap (λ n. n + length octets) has.whole ∙ ap (λ n. k * row_length s + n) whole ∙ sym rows_now

  taken_in_range : AreInRange s (taken ++ octets) ((k + 1) * s.width)
  taken_in_range =
      let now : k * s.width + s.width ≡ (k + 1) * s.width = grind arith in
      subst (AreInRange s (taken ++ octets)) now (in_range-more s k s.width taken octets has.whole has.in_range in_range)

  pub next_is : mid.at.rows ≡ k → HasNext s mid
  next_is rows = record {
    image = image;
    follows = follows image now_is;
    row = subst (λ n. RowIs s image n mid) (sym rows) (row_is image now_is);
    pixels = raster_pixels s (k + 1) (taken ++ octets) taken_whole taken_in_range (tallest s);
  }

  pub row_given : (size size' faults : ℕ) (packets : List ℕ) (new : Work) → TakesRow s k (room_outside size [] 0) (room_outside size' packets faults) mid
      new → HasRows s (k + 1) (taken ++ octets) (given ++ packets) new
  row_given size size' faults packets new takes =
      let goes = takes.goes image (follows image now_is) (row_is image now_is) in
      let same : packets ≡ goes.gave = goes.out.given in
      let back : (k + 1) - 1 ≡ k = omega arith in
      record {
        most = omega (arith, less);
        whole = taken_whole;
        in_range = taken_in_range;
        valid = record { taken = takes.taken; follows = λ y same. takes.follows y (follows y same) (row_is y same) };
        last = λ some. record {
          in_range = record {
            each = λ column lt. subst (IsPixel s.depth s.signed) (sym (takes.row.at column lt))
                ((shown_values s octets mid.row.items in_range shows).each column lt);
          };
          same = record { at = λ j lt. takes.row.at j lt ∙ (row_is image now_is).at j lt ∙ ap (λ n. image n j) (sym back) };
        };
        given_are = ap (λ g. g ++ packets) given_same ∙ ap (λ g. joined (leading_packets s (tallest s) image mid.at.index) ++ g) same ∙ goes.then_are;
      }

-- ---- the packets fit

module _ (s : Setting) (usable : IsUsable s) (k : ℕ) (less : k < tallest s) (w : Work) (rows : w.at.rows ≡ k) (index : w.at.index ≡ reached s k)
    (next : HasNext s w) where
  abbrev row_of : RowIs s next.image k w
  row_of = subst (λ n. RowIs s next.image n w) rows next.row

  pub row_fits_room : (size size' faults : ℕ) (packets : List ℕ) (new : Work) → TakesRow s k (room_outside size [] 0) (room_outside size' packets faults) w
      new → length packets ≤ row_need s k
  row_fits_room size size' faults packets new takes =
      let goes = takes.goes next.image next.follows row_of in
      let to = reached_is s usable.in_range (k + 1) new (omega (arith, less)) takes.taken in
      let inside = below_all s usable.in_range (k + 1) new (omega (arith, less)) takes.taken in
      let few = goes_few s usable (tallest s) (tall_height s usable.in_range) next.image next.pixels w.at.index new.at.index (omega (arith, inside)) goes in
      let same : packets ≡ goes.gave = goes.out.given in
      omega (arith, rw (to, index) at few, ap length same)

  -- the room has the size that it had
  pub row_size : (size size' faults : ℕ) (packets : List ℕ) (new : Work) → TakesRow s k (room_outside size [] 0) (room_outside size' packets faults) w new →
      size' ≡ size
  row_size size size' faults packets new takes =
      let goes = takes.goes next.image next.follows row_of in
      let sizes : range_with_len 0 size' ≡ range_with_len 0 size ++ [] = goes.out.taken in
      let one = ap length sizes ∙ length-append (range_with_len 0 size) [] in
      omega (arith, one, length-range_with_len 0 size, length-range_with_len 0 size')

  -- so no write fails in a room of more octets
  pub row_never_breaks : (size size' faults : ℕ) (packets : List ℕ) (new : Work) → row_need s k < size → (0 < faults → length packets ≡ size') →
      BreaksAt s k (room_outside size [] 0) (room_outside size' packets faults) w new → ⊥
  row_never_breaks size size' faults packets new enough full breaks =
      let broke = breaks.breaks next.image next.follows row_of in
      let same : packets ≡ broke.gave = broke.out.given in
      let sizes : range_with_len 0 size' ≡ range_with_len 0 size ++ [] = broke.out.taken in
      let one = ap length sizes ∙ length-append (range_with_len 0 size) [] in
      let through = reaches s usable.in_range (k + 1) broke.index (omega (arith, less)) broke.there in
      let few = stops_few s usable (tallest s) (tall_height s usable.in_range) next.image next.pixels w.at.index (reached s (k + 1))
      (block_count s.width * settled (k + 1)) broke through in
      let rose = breaks.rose in
      let filled = full (omega (arith, rose)) in
      omega (arith, rw index at few, ap length same, filled, enough, one, length-range_with_len 0 size, length-range_with_len 0 size')

-- ---- counts
