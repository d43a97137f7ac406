-- What is given once a camera's next row is taken.
use Rattle.std.proofs.lemmas.Bool.Decides.{nat_tests}
use Rattle.std.proofs.Common.{◌≡◌, ◌≢◌, inl, ◌≤◌, ◌<◌, ◌+◌, ◌-◌, ◌*◌, ℕ, ℤ, List, ◌++◌, length, take, refl, sym, ap, ◌∙◌, subst, arith, append_assoc, mul_assoc}
use Rattle.port_122.specs.Outside.{Outside}
use Rattle.port_122.proofs.Stretches.{since_out, rose_since}
use Rattle.wave_defs.specs.Held.{SameWithin}
use Rattle.base_122.specs.Ranges.{IsInRange}
use Rattle.base_122.specs.Setting.{IsHeight, sized}
use Rattle.base_122.specs.declared.setting.Setting.{Setting}
use Rattle.packet_defs.specs.Packets.{joined}
use Rattle.raster_rows.proofs.PixelPlaces.{pixel_at-append_right}
use Rattle.stream_defs.specs.Output.{output, segments_of}
use Rattle.stream_defs.specs.SettledImages.{leading_packets, settled_in}
use Rattle.strip_coder.specs.declared.encode.EncodeDone.{EncodeDone}
use Rattle.strip_coder.specs.declared.work.Work.{Work}
use Rattle.strip_coder.specs.Plans.{tallest}
use Rattle.strip_coder.specs.Rasters.{row_length, image_of, settled_octets}
use Rattle.strip_coder.specs.Works.{FollowsRows, Represents}
use Rattle.strip_coder.specs.Steps.{RowIs, EndsImage, EndBreaks}
use Rattle.strip_coder.proofs.PlanLaws.{tall_height, known_tallest}
use Rattle.strip_coder.proofs.RowsGiven.{same_rows, settled_same, rows_whole}
use Rattle.camera_mux.proofs.LeadingPackets.{cut_of_more}
use Rattle.camera_mux.specs.declared.camera_rows.Place.{Place}
use Rattle.camera_mux.specs.declared.mux.MuxFault.{MuxFault}
use Rattle.camera_mux.specs.RowSteps.{HasRow, TakesCameraRow, CutsCameraRow, FailsInRow, GivesRow, CutsRow, FailsAtRow}

-- the rows of a setting, if they are known, are the height of its images
pub height_last : (s : Setting) (n : ℕ) → IsInRange s → s.rows ≢ 0 → n ≡ s.rows → IsHeight s n
height_last s n range known e = subst (IsHeight s) (known_tallest s known ∙ sym e) (tall_height s range)

pub at_last : (s : Setting) (k n : ℕ) → s.rows ≢ 0 → k < tallest s → n ≡ k + 1 → s.rows ≤ n → n ≡ s.rows
at_last s k n known less is far = let tall = known_tallest s known in omega (arith, less, is, far, tall)

-- the next row of a raster is that of each image that begins so
module _ (s : Setting) (k : ℕ) (raster got : List ℕ) (whole : length raster ≡ k * row_length s) where
  has_row : (y : ℕ → ℕ → ℤ) → SameWithin (k + 1) s.width (image_of s (raster ++ got)) y → HasRow s y k got
  has_row y same = grind (arith, nat_tests, pixel_at-append_right, mul_assoc)

  before_is : (y : ℕ → ℕ → ℤ) → SameWithin (k + 1) s.width (image_of s (raster ++ got)) y → SameWithin k s.width (image_of s raster) y
  before_is y same = record {
    at = λ i j hi hj. sym ((same_rows s k raster got whole).at i j hi hj) ∙ same.at i j (omega (arith, hi)) hj;
  }

  itself : SameWithin (k + 1) s.width (image_of s (raster ++ got)) (image_of s (raster ++ got))
  itself = record { at = λ i j hi hj. refl }

module _ (s : Setting) (range : IsInRange s) (known : s.rows ≢ 0) (k : ℕ) (less : k < tallest s) (raster : List ℕ)
    (whole : length raster ≡ k * row_length s) (old : Work)
    (valid : Represents s k (image_of s raster) old) where
  -- what was given before
  from_is : (got : List ℕ) → settled_octets s raster k ≡ joined (leading_packets s (tallest s) (image_of s (raster ++ got)) old.at.index)
  from_is got =
      let x = image_of s (raster ++ got) in
      let le : k ≤ tallest s = omega (arith, less) in
      settled_same s (tallest s) k raster x range (tall_height s range) le le (before_is s k raster got whole x (itself s k raster got whole))
      ∙ ap (λ n. joined (leading_packets s (tallest s) x n)) (sym (valid.taken.index (inl less)))

  follows_old : (got : List ℕ) → FollowsRows s (image_of s (raster ++ got)) old
  follows_old got = valid.follows (image_of s (raster ++ got)) (before_is s k raster got whole (image_of s (raster ++ got)) (itself s k raster got whole))

  has_itself : (got : List ℕ) → HasRow s (image_of s (raster ++ got)) k got
  has_itself got = has_row s k raster got whole (image_of s (raster ++ got)) (itself s k raster got whole)

  -- what is settled with the next row
  next_is : (got : List ℕ) → settled_octets s (raster ++ got) (k + 1)
      ≡ joined (leading_packets s (tallest s) (image_of s (raster ++ got)) (settled_in s (tallest s) (k + 1)))
  next_is got = grind (arith, nat_tests, settled_same, tall_height, itself)

  -- a write failed at the row
  pub cuts_given : {p q : Outside} → CutsCameraRow s k p q old → CutsRow s k raster p q
  cuts_given x =
      let cut = x.cut (image_of s (raster ++ x.got)) (follows_old x.got) (has_itself x.got) in
      record {
        between = x.between;
        got = x.got;
        octets = x.octets;
        rose = x.rose;
        cut = record {
          gave = cut.gave;
          out = cut.out;
          some = cut.some;
          prefix = ap (λ g. g ++ cut.gave) (from_is x.got) ∙ cut.prefix ∙ ap (take cut.some)
              (sym (next_is x.got));
        };
      }

  pub fails_given : (p q : Outside) (place : Place) (fault : MuxFault) → FailsInRow s k place p q old fault → FailsAtRow s k raster place p q fault
  fails_given p q place fault x = grind (arith, nat_tests, cuts_given)

  module _ {p q : Outside} (new : Work) (takes : TakesCameraRow s k p q old new) where
    got : List ℕ
    got = takes.got

    valid_next : Represents s (k + 1) (image_of s (raster ++ takes.got)) new
    valid_next = grind (arith, nat_tests, before_is, got, has_row)

    -- rows are still to be taken
    pub gives_more : k + 1 < s.rows → GivesRow s k raster p q new (record { packets = 0; octets = 0 })
    gives_more more =
        let x = image_of s (raster ++ takes.got) in
        let goes = takes.goes x (follows_old takes.got) (has_itself takes.got) in
        grind (arith, nat_tests, known_tallest, got, next_is, from_is, valid_next)

    last_row : k + 1 ≡ s.rows → RowIs s (image_of s (raster ++ takes.got)) (s.rows - 1) new
    last_row last =
        let place : k ≡ s.rows - 1 = omega (arith, last) in
        subst (λ n. RowIs s (image_of s (raster ++ takes.got)) n new) place (takes.row (image_of s (raster ++ takes.got)) (has_itself takes.got))

    -- then all is settled
    last_is : k + 1 ≡ s.rows → settled_octets s (raster ++ takes.got) (k + 1) ≡ output s s.rows (image_of s (raster ++ takes.got))
    last_is last = grind (arith, nat_tests, known_tallest, got, rows_whole)

    -- this was the last one
    pub gives_last : {r : Outside} (end : Work) (done : EncodeDone) → k + 1 ≡ s.rows → EndsImage s s.rows q r new end done →
        GivesRow s k raster p r end (record { packets = done.packets; octets = done.octets })
    gives_last end done last ends =
        let x = image_of s (raster ++ takes.got) in
        let goes = takes.goes x (follows_old takes.got) (has_itself takes.got) in
        let then = ends.goes x (valid_next.follows x (itself s k raster takes.got whole)) (last_row last) in
        let for_image = ends.done x (valid_next.follows x (itself s k raster takes.got whole)) (last_row last) in
        let tall = known_tallest s known in
        let first : settled_octets s raster k ++ goes.gave ≡ joined (leading_packets s s.rows x new.at.index) = grind (arith, nat_tests, from_is, got) in
        record {
          between = takes.between;
          got = takes.got;
          octets = takes.octets;
          gave = goes.gave ++ then.gave;
          out = since_out goes.out then.out;
          then_are = sym (append_assoc (settled_octets s raster k) goes.gave then.gave) ∙ ap (λ g. g ++ then.gave) first ∙ then.then_are ∙ sym (last_is last);
          valid = λ less. absurd (omega (arith, less, last));
          done_is = record { last = λ e. (for_image.packets, for_image.octets); before = λ ne. absurd (ne last) };
        }

    -- a write failed after it
    pub cuts_last : {r : Outside} (end : Work) → k + 1 ≡ s.rows → EndBreaks s s.rows q r new end → CutsRow s k raster p r
    cuts_last end last ends =
        let x = image_of s (raster ++ takes.got) in
        let goes = takes.goes x (follows_old takes.got) (has_itself takes.got) in
        let broke = ends.breaks x (valid_next.follows x (itself s k raster takes.got whole)) (last_row last) in
        let tall = known_tallest s known in
        let first : settled_octets s raster k ++ goes.gave ≡ joined (leading_packets s s.rows x new.at.index) = grind (arith, nat_tests, from_is, got) in
        let inside = broke.inside in
        let part = cut_of_more s s.rows x broke.some (broke.index + 1) (segments_of (sized s s.rows)) (omega (arith, inside)) in
        record {
          between = takes.between;
          got = takes.got;
          octets = takes.octets;
          rose = rose_since takes.faults ends.rose;
          cut = record {
            gave = goes.gave ++ broke.gave;
            out = since_out goes.out broke.out;
            some = part.0;
            prefix = grind (arith, nat_tests, append_assoc, last_is);
          };
        }
