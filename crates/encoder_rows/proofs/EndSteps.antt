-- An encoder begins and ends an image.
use Rattle.std.proofs.Common.{◌≡◌, ◌≤◌, ◌<◌, ◌-◌, ◌*◌, ◌/◌, ◌∙◌, ℕ, ℤ, List, [], ◌++◌, length, refl, sym, ap, subst, arith, inl, inr, length-append}
use Rattle.std.specs.List.{range_with_len}
use Rattle.std.proofs.Math.Nat.{div-le_self}
use Rattle.std.proofs.lemmas.List.FromFn.{length-range_with_len}
use Rattle.wave_defs.specs.Held.{SameWithin}
use Rattle.wave_strip.specs.Counts.{settled}
use Rattle.base_122.specs.Ranges.{IsInRange}
use Rattle.base_122.specs.Setting.{IsHeight, sized}
use Rattle.base_122.specs.Sizes.{block_count, total_blocks}
use Rattle.base_122.specs.declared.setting.Setting.{Setting}
use Rattle.packet_defs.specs.Packets.{joined}
use Rattle.strip_decoder.specs.Images.{ArePixels}
use Rattle.stream_defs.specs.Output.{image_blocks, output, segments_of, reports_last}
use Rattle.stream_defs.specs.SettledImages.{leading_packets, settled_in}
use Rattle.stream_defs.proofs.HeightLaws.{images_settle, settled_alike}
use Rattle.stream_defs.proofs.Outputs.{packets_of-none}
use Rattle.strip_coder.specs.Answers.{DoneFor}
use Rattle.strip_coder.specs.Plans.{MoreMayArrive, plan_of, tallest}
use Rattle.strip_coder.specs.Rasters.{image_of}
use Rattle.strip_coder.specs.Steps.{EndBreaks, EndsImage, RowIs}
use Rattle.strip_coder.specs.Works.{RepresentsNone}
use Rattle.strip_coder.specs.declared.encode.EncodeDone.{EncodeDone}
use Rattle.strip_coder.specs.declared.work.Work.{Work}
use Rattle.strip_coder.proofs.PlanLaws.{tall_height, tall_most, tall_or_open}
use Rattle.encoder_rows.specs.Answers.{with_image}
use Rattle.encoder_rows.specs.Ports.{room_outside}
use Rattle.encoder_rows.specs.Room.{reached, end_need, segment_room}
use Rattle.encoder_rows.specs.Rows.{HasRows, IsUsable}
use Rattle.encoder_rows.proofs.RasterPixels.{raster_pixels}
use Rattle.encoder_rows.proofs.Reach.{reached_is}
use Rattle.encoder_rows.proofs.SegmentRoom.{goes_few, stops_few}

-- ---- the start

-- a work that represents no rows has taken none, and nothing is given
pub none_rows : (s : Setting) (w : Work) → IsInRange s → RepresentsNone s w → HasRows s w.at.rows [] [] w
none_rows s w range start =
    let all = image_blocks (sized s (tallest s)) (image_of s []) in
    let zero : block_count s.width * settled 0 ≡ 0 = omega arith in
    let reached_none : reached s 0 ≡ 0 = ap (λ n. n / s.segment) zero ∙ (let none : 0 / s.segment ≡ 0 = omega (arith, div-le_self 0 s.segment) in none) in
    let index : w.at.index ≡ 0 = reached_is s range 0 w (omega arith) start.taken ∙ reached_none in
    let given : joined (leading_packets s (tallest s) (image_of s []) w.at.index) ≡ [] =
    ap (λ n. joined (leading_packets s (tallest s) (image_of s []) n)) index ∙ ap joined (packets_of-none (reports_last s) (sized s (tallest s)) all) in
    let none : HasRows s 0 [] [] w = record {
      most = omega arith;
      whole = omega arith;
      in_range = record { each = λ k lt. absurd (omega (arith, lt)) };
      valid = record { taken = start.taken; follows = λ y same. start.follows y };
      last = λ some. absurd (omega (arith, some));
      given_are = sym given;
    } in
    subst (λ k. HasRows s k [] [] w) (sym start.taken.rows) none

-- ---- the next image

pub usable_image : (s : Setting) (image : ℕ) → image ≤ 65535 → IsUsable s → IsUsable (with_image s image)
usable_image s image few usable = record {
  in_range =
      let range = usable.in_range in
      record {
        width = range.width;
        rows = range.rows;
        depth = range.depth;
        segment = range.segment;
        limit = range.limit;
        fill = range.fill;
        word = range.word;
        plane = range.plane;
        stage = range.stage;
        weights = range.weights;
        apid = range.apid;
        image = (omega arith, few);
        packet = range.packet;
        total = elim range.total [ inl none ↦ inl none | inr has ↦ inr (record { rows = has.rows; limit = has.limit; within = has.within }) ];
      };
  sound = usable.sound;
  weights = usable.weights;
}

-- ---- the end

module _ (s : Setting) (usable : IsUsable s) (k : ℕ) (height : IsHeight s k) (taken given : List ℕ) (w : Work) (has : HasRows s k taken given w) where
  abbrev image : ℕ → ℕ → ℤ
  image = image_of s taken

  le : k ≤ tallest s
  le = tall_most s k usable.in_range height

  some : 0 < k
  some = let rows = height.0.0 in omega (arith, rows)

  itself : SameWithin k s.width image image
  itself = record { at = λ i j hi hj. refl }

  pixels : ArePixels s k image
  pixels = raster_pixels s k taken has.whole has.in_range k

  row_is : RowIs s image (k - 1) w
  row_is = record { at = λ j lt. (has.last some).same.at j lt }

  index : MoreMayArrive (plan_of s (tallest s)) k → w.at.index ≡ settled_in s (tallest s) k
  index more = has.valid.taken.index more

  -- what is given is that of the image of exactly these rows
  given_is : given ≡ joined (leading_packets s k image w.at.index)
  given_is = elim (tall_or_open s k usable.in_range height) [
    | inl tall ↦ has.given_are ∙ ap (λ n. joined (leading_packets s n image w.at.index)) (sym tall)
    | inr other ↦
        let range = usable.in_range in
        let here = index (inr other.0) in
        let alike = settled_alike s (tallest s) k k range (tall_height s range) height le (omega arith) in
        has.given_are
        ∙ ap (λ n. joined (leading_packets s (tallest s) image n)) here
        ∙ ap joined (images_settle s (tallest s) k k range (tall_height s range) height le (omega arith) image image itself)
        ∙ ap (λ n. joined (leading_packets s k image n)) (sym (here ∙ alike))
  ]

  from : w.at.index ≡ reached s k
  from = reached_is s usable.in_range k w le has.valid.taken

  module _ (size size' faults : ℕ) (packets : List ℕ) (new : Work) where
    pub end_given : (done : EncodeDone) → EndsImage s k (room_outside size [] 0) (room_outside size' packets faults) w new done →
        (given ++ packets ≡ output s k image) × DoneFor s k image done
    end_given done ends =
        let goes = ends.goes image (has.valid.follows image itself) row_is in
        let same : packets ≡ goes.gave = goes.out.given in (
          ap (λ g. g ++ packets) given_is ∙ ap (λ g. joined (leading_packets s k image w.at.index) ++ g) same ∙ goes.then_are,
          ends.done image (has.valid.follows image itself) row_is,
        )

    pub end_fits_room : (done : EncodeDone) → EndsImage s k (room_outside size [] 0) (room_outside size' packets faults) w new done →
        length packets ≤ end_need s k
    end_fits_room done ends =
        let goes = ends.goes image (has.valid.follows image itself) row_is in
        let few = goes_few s usable k height image pixels w.at.index (segments_of (sized s k)) (omega arith) goes in
        let same : packets ≡ goes.gave = goes.out.given in
        omega (arith, subst (λ n. length goes.gave ≤ (segments_of (sized s k) - n) * segment_room s) from few, ap length same)

    -- the room has the size that it had
    pub end_size : (done : EncodeDone) → EndsImage s k (room_outside size [] 0) (room_outside size' packets faults) w new done → size' ≡ size
    end_size done ends =
        let goes = ends.goes image (has.valid.follows image itself) row_is in
        let sizes : range_with_len 0 size' ≡ range_with_len 0 size ++ [] = goes.out.taken in
        let one = ap length sizes ∙ length-append (range_with_len 0 size) [] in
        omega (arith, one, length-range_with_len 0 size, length-range_with_len 0 size')

    -- so no write fails in a room of more octets
    pub end_never_breaks : end_need s k < size → (0 < faults → length packets ≡ size') →
        EndBreaks s k (room_outside size [] 0) (room_outside size' packets faults) w new → ⊥
    end_never_breaks enough full breaks =
        let broke = breaks.breaks image (has.valid.follows image itself) row_is in
        let inside = broke.inside in
        let same : packets ≡ broke.gave = broke.out.given in
        let sizes : range_with_len 0 size' ≡ range_with_len 0 size ++ [] = broke.out.taken in
        let one = ap length sizes ∙ length-append (range_with_len 0 size) [] in
        let few = stops_few s usable k height image pixels w.at.index (segments_of (sized s k)) (total_blocks s.width k) broke (omega (arith, inside)) in
        let rose = breaks.rose in
        let filled = full (omega (arith, rose)) in
        omega (
          arith,
          subst (λ n. length broke.gave ≤ (segments_of (sized s k) - n) * segment_room s) from few,
          ap length same,
          filled,
          enough,
          one,
          length-range_with_len 0 size,
          length-range_with_len 0 size',
        )
