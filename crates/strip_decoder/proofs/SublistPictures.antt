-- Pictures of some packets of an image, and of all of them.
use Rattle.std.proofs.Common.{◌≡◌, ◌⊎◌, ◌≤◌, ◌<◌, ◌+◌, ◌-◌, ◌*◌, ◌/◌, ℕ, zero, suc, ℤ, List, [], ◌∷◌, length, map, refl, sym, ap, subst, ◌∙◌, arith, ◌==◌}
use Rattle.std.proofs.Common.{if◌then◌else◌, max, fold, Bool, true, false, Option, None, Some, is_some, MatchOption, mul-le-mul_right}
use Rattle.std.specs.List.{AllByRecursion}
use Rattle.std.proofs.lemmas.Bool.{false≢true, ne_eqb}
use Rattle.std.proofs.lemmas.Bool.Decides.{nat_tests}
use Rattle.std.proofs.lemmas.Nat.{div_below}
use Rattle.port_122.proofs.Stretches.{each_of_both}
use Rattle.base_122.specs.Ranges.{IsGeometryInRange, IsInRange}
use Rattle.base_122.specs.Setting.{image_geometry, sized}
use Rattle.base_122.specs.Sizes.{block_count, total_blocks}
use Rattle.base_122.specs.declared.geometry.Geometry.{Geometry}
use Rattle.base_122.specs.declared.setting.Setting.{Setting}
use Rattle.base_122.proofs.GeometryRanges.{in_range-sized}
use Rattle.base_122.proofs.SizeBounds.{three-le-block_count, total-le-segments}
use Rattle.segment_defs.specs.Reading.{head_read}
use Rattle.packet_defs.specs.declared.ancillary.Ancillary.{Ancillary}
use Rattle.packet_defs.specs.Packets.{joined}
use Rattle.packet_defs.specs.Reading.{text_in}
use Rattle.packet_defs.specs.Streams.{IsPacket, whole_packets}
use Rattle.packet_defs.proofs.Splits.{splits_whole, joined_splits}
use Rattle.segment_defs.specs.TextWish.{TextWish}
use Rattle.segment_code.specs.ShortTexts.{TextsAreShort}
use Rattle.stream_defs.specs.Begun.{band_rows, begun, begun_in, block_rows, end_in, end_of, end_known, height}
use Rattle.stream_defs.specs.Chosen.{IsRising, IsChoice, chosen, all_parts, run}
use Rattle.stream_defs.specs.Fates.{fresh, kept, kept_in, geometry_in}
use Rattle.stream_defs.specs.Output.{image_blocks, output, packets_of, segment_of, segments_of, reports_last}
use Rattle.stream_defs.specs.Picture.{number_at, picture_of, picture_with, whole_picture}
use Rattle.stream_defs.specs.Places.{parts_of, packet_at, AreCoded}
use Rattle.stream_defs.specs.Received.{IsReceived, ReceivedIn}
use Rattle.stream_defs.specs.StreamLaws.{IsLastBegun}
use Rattle.stream_defs.proofs.ChosenLaws.{chosen_more}
use Rattle.stream_defs.proofs.HeightPictures.{heights_alike, number_sized, sized_same}
use Rattle.stream_defs.proofs.OutPackets.{block_before, part_reads, written_at}
use Rattle.stream_defs.proofs.PlacedLaws.{is_open, is_not_open, within_not}
use Rattle.stream_defs.proofs.Runs.{run_rises}
use Rattle.stream_defs.proofs.SublistLaws.{all_rise, received_only, received_each}
use Rattle.stream_defs.proofs.WholeStreams.{sublist_kept}
use Rattle.strip_decoder.specs.Runs.{Numbers, holds_after}
use Rattle.strip_decoder.specs.Images.{AreWith, some_output, BeginsOne, is_begun, reported_rows, reported, IsImageFor, AreSome}
use Rattle.strip_decoder.proofs.Asking.{both_report}
use Rattle.strip_decoder.proofs.CodedImages.{images_coded}
use Rattle.strip_decoder.proofs.Showing.{number_by}
use Rattle.stream_defs.proofs.Equations.{chosen-is, end_of-is}
use Rattle.packet_defs.proofs.Equations.{text_packets-is}

-- ---- packets of an image as octets

module _ (if_known : Bool) (s : Setting) (all : List (List ℤ)) (coded : AreCoded s all) (parts : ℕ → List ℕ) (choice : IsChoice s all parts) where
  -- what holds of each packet of an image holds of those chosen
  module _ (P : List ℕ → Type 0) (each : (index k : ℕ) → index < segments_of s → k < parts_of s all index → P (packet_at if_known s all index k)) where
    -- of one segment
    each_part : (index : ℕ) → index < segments_of s → (least below : ℕ) (ks : List ℕ) → below ≤ parts_of s all index → IsRising least below ks →
        AllByRecursion P (map (packet_at if_known s all index) ks)
    each_part index lt least below [] le rising = tt
    each_part index lt least below (k ∷ ks) le rising =
        let few = rising.1 in
        (each index k lt (omega (arith, few, le)), each_part index lt (k + 1) below ks le rising.2)

    -- of the first segments
    pub each_chosen : (n : ℕ) → n ≤ segments_of s → AllByRecursion P (chosen if_known s all parts n)
    each_chosen zero le = rw chosen-is tt
    each_chosen (suc n) le =
        let e : n + 1 ≡ suc n = omega arith in
        subst (λ m. AllByRecursion P (chosen if_known s all parts m)) e (subst (AllByRecursion P) (sym (chosen_more if_known s all coded parts choice parts n))
        (each_of_both P (chosen if_known s all parts n) (map (packet_at if_known s all n) (parts n)) (each_chosen n (omega (arith, le)))
        (each_part n (omega (arith, le)) 0 (parts_of s all n) (parts n) (omega arith) (choice.each n (omega (arith, le))))))

  pub all_packets : AllByRecursion IsPacket (chosen if_known s all parts (segments_of s))
  all_packets = each_chosen IsPacket (λ index k lt few. (part_reads if_known s all coded index k lt few).whole) (segments_of s) (omega arith)

  pub chosen_whole : whole_packets (joined (chosen if_known s all parts (segments_of s))) ≡ chosen if_known s all parts (segments_of s)
  chosen_whole = splits_whole (joined_splits (chosen if_known s all parts (segments_of s)) all_packets)

-- all packets are all parts
pub whole_choice : (if_known : Bool) (s : Setting) (all : List (List ℤ)) (n : ℕ) → packets_of if_known s all n ≡ chosen if_known s all (all_parts s all) n
unfolding packets_of
whole_choice if_known s all n = grind (arith, nat_tests, chosen-is, text_packets-is)

-- ---- how far the kept heads reach

ends_few : (most m : ℕ) (packets : List (List ℕ)) → m ≤ most → AllByRecursion (λ packet. end_in packet ≤ most) packets →
    fold (λ most packet. max most (end_in packet)) m packets ≤ most
ends_few most m [] le each = le
ends_few most m (packet ∷ packets) le each = let here = each.0 in ends_few most (max m (end_in packet)) packets (omega (arith, le, here)) each.1

module _ (if_known : Bool) (s : Setting) (all : List (List ℤ)) (coded : AreCoded s all) where
  -- the head in a packet reaches no block past the image
  end_at : (index k : ℕ) → index < segments_of s → k < parts_of s all index → end_in (packet_at if_known s all index k) ≤ total_blocks s.width s.rows
  end_at index zero lt few =
      let reads = part_reads if_known s all coded index 0 lt few in
      let packet = packet_at if_known s all index 0 in
      let written = written_at if_known s index 0 in
      let end : end_in packet ≡ end_known written (head_read (text_in packet)) =
      ap (λ (a : Ancillary). if a.part == 0 then end_known a (head_read (text_in packet)) else 0) reads.ancillary_is in
      let reach : end_in packet ≡ index * s.segment + length (segment_of s all index) =
      end ∙ ap (end_known written) (ap head_read reads.text_is ∙ coded.heads index lt) in
      omega (arith, reach, coded.blocks index lt, block_before s all coded index lt)
  end_at index (suc k) lt few =
      let reads = part_reads if_known s all coded index (suc k) lt few in
      grind (arith, nat_tests, ne_eqb)

  module _ (parts : ℕ → List ℕ) (choice : IsChoice s all parts) where
    goes : IsChoice s all (λ index. run 0 (parts index))
    goes = record { each = λ index lt. run_rises 0 0 (parts_of s all index) (parts index) (choice.each index lt) }

    pub ends_within : end_of (kept s.apid fresh (chosen if_known s all parts (segments_of s))) ≤ total_blocks s.width s.rows
    ends_within =
        subst (λ packets. end_of packets ≤ total_blocks s.width s.rows) (sym (sublist_kept if_known s all parts coded choice).those_kept)
        (rw end_of-is (ends_few (total_blocks s.width s.rows) 0 (chosen if_known s all (λ index. run 0 (parts index)) (segments_of s)) (omega arith)
        (each_chosen if_known s all coded (λ index. run 0 (parts index)) goes (λ packet. end_in packet ≤ total_blocks s.width s.rows) end_at (segments_of s)
        (omega arith))))

-- ---- the segments that are received of some packets

module _ (short : TextsAreShort) (s : Setting) (rows : ℕ) (x : ℕ → ℕ → ℤ) (image : IsImageFor s rows x) where
  abbrev t : Setting
  t = sized s rows

  abbrev blocks : List (List ℤ)
  blocks = image_blocks t x

  pub sized_range : IsInRange t
  sized_range = in_range-sized s rows image.range image.height

  pub coded_for : AreCoded t blocks
  coded_for = images_coded short t x sized_range image.sound image.height.0 image.weights record { at = image.pixels.at }

  -- all parts are some of them
  pub choice_all : IsChoice t blocks (all_parts t blocks)
  choice_all = record { each = λ index lt. all_rise (reports_last s) t blocks coded_for index }

  pub output_whole : whole_packets (output s rows x) ≡ chosen (reports_last s) t blocks (all_parts t blocks) (segments_of t)
  output_whole = ap (λ packets. whole_packets (joined packets)) (whole_choice (reports_last s) t blocks (segments_of t)) ∙ chosen_whole (reports_last s) t
      blocks coded_for (all_parts t blocks) choice_all

  -- the segment of a block
  pub segment_within : (block : ℕ) → block < total_blocks s.width rows → block / s.segment < segments_of t
  segment_within block lt = grind (arith, nat_tests, div_below, total-le-segments)

-- ---- the rows that they report

-- those of the image, or none
pub reported_is : (s : Setting) (rows : ℕ) (parts : ℕ → List ℕ) → (reported_rows s rows parts ≡ rows) ⊎ ((s.rows ≡ 0) × (reported_rows s rows parts ≡ 0))
reported_is s rows parts = grind (arith, nat_tests)

-- if the last segment is begun
pub reported_begun : (s : Setting) (rows : ℕ) (parts : ℕ → List ℕ) → is_begun (parts (segments_of (sized s rows) - 1)) ≡ true →
    reported_rows s rows parts ≡ rows
reported_begun s rows parts begun = grind (arith, nat_tests, false≢true)

-- whether the last segment is begun
begun_last : (s : Setting) (parts : ℕ → List ℕ) (last : ℕ) → last < segments_of s → IsLastBegun s parts last →
    (last + 1 == segments_of s) ≡ is_begun (parts (segments_of s - 1))
begun_last s parts last lt is = grind (arith, nat_tests)

module _ (short : TextsAreShort) (s : Setting) (rows : ℕ) (x : ℕ → ℕ → ℤ) (parts : ℕ → List ℕ) (are : AreSome s rows x parts) where
  abbrev u : Setting
  u = sized s rows

  abbrev all : List (List ℤ)
  all = image_blocks u x

  abbrev if_known : Bool
  if_known = reports_last s

  coded : AreCoded u all
  coded = coded_for short s rows x are.image

  pub packets_are : whole_packets (some_output s rows x parts) ≡ chosen if_known u all parts (segments_of u)
  packets_are = chosen_whole if_known u all coded parts are.choice

  pub geometry_there : BeginsOne s rows parts → geometry_in s.apid (some_output s rows x parts) ≡ Some (reported s rows parts)
  geometry_there one =
      let there = (sublist_kept if_known u all parts coded are.choice).geometry one.index one.more one.within one.begins in
      grind (arith, nat_tests, packets_are, begun_last)

  -- the kept heads reach no block row past the image
  pub begun_few : BeginsOne s rows parts → begun_in s.apid (some_output s rows x parts) ≤ block_count rows
  begun_few one =
      let octets = some_output s rows x parts in
      let ends : end_of (kept_in s.apid octets) ≤ total_blocks s.width rows =
      subst (λ packets. end_of (kept s.apid fresh packets) ≤ total_blocks s.width rows) (sym packets_are) (ends_within if_known u all coded parts are.choice) in
      grind (arith, nat_tests, geometry_there, three-le-block_count, div_below)

  module _ (texts : TextWish) (received whole : Numbers) (some_are : ReceivedIn (holds_after texts) s.apid (some_output s rows x parts) received)
      (all_are : ReceivedIn (holds_after texts) s.apid (output s rows x) whole) where
    -- a segment that is received of some is received of all, with the same numbers
    same_by : (index : ℕ) (o : Option (List (List ℤ))) → index < segments_of u → received index ≡ o → is_some o ≡ true → whole index ≡ received index
    same_by index None lt is some = absurd (false≢true some)
    same_by index (Some w) lt is some =
        let here : MatchOption (Some w) ((v : List (List ℤ)) →
        IsReceived (holds_after texts) (kept s.apid fresh (whole_packets (some_output s rows x parts))) index v → ⊥)
        (IsReceived (holds_after texts) (kept s.apid fresh (whole_packets (some_output s rows x parts))) index) = grind (arith, nat_tests) in
        let mine : IsReceived (holds_after texts) (kept s.apid fresh (chosen if_known u all parts (segments_of u))) index w =
        grind (arith, nat_tests, packets_are) in
        let held = (received_only if_known u all coded parts are.choice (holds_after texts) index w lt mine).1 in
        let there : IsReceived (holds_after texts) (kept s.apid fresh (whole_packets (output s rows x))) index w =
        subst (λ packets. IsReceived (holds_after texts) (kept s.apid fresh packets) index w) (sym (output_whole short s rows x are.image))
        (received_each if_known u all coded (all_parts u all) (choice_all short s rows x are.image) (holds_after texts) index w lt refl held) in
        both_report texts (kept s.apid fresh (whole_packets (output s rows x))) index (whole index) (Some w) (all_are.at index) there ∙ sym is

    -- with the numbers of all packets in the lost blocks
    pub with_all : (r n : ℕ) → block_rows (image_geometry s r) n ≤ block_count rows →
        AreWith (image_geometry s r) received (number_at (image_geometry s r) whole) n
    with_all r n few = record {
      at = λ block i lt small some.
          let more : block_rows (image_geometry s r) n * block_count s.width ≤ block_count rows * block_count s.width =
          mul-le-mul_right (block_count s.width) few in
          let turned : block_count rows * block_count s.width ≡ total_blocks s.width rows = grind arith in
          let within = segment_within short s rows x are.image block (omega (arith, lt, more, turned)) in
          number_by (image_geometry s r) whole received block i (same_by (block / s.segment) (received (block / s.segment)) within refl some);
    }

    -- whether the height is reported or not
    module _ (r n : ℕ) (is : (r ≡ rows) ⊎ ((s.rows ≡ 0) × (r ≡ 0))) (few : n ≤ block_count rows) where
      abbrev g : Geometry
      g = image_geometry s r

      abbrev numbers : ℕ → ℕ → ℤ
      numbers = number_at g whole

      wide : 3 ≤ block_count s.width
      wide = three-le-block_count s.width are.image.range.width.0

      pub geometry_range : IsGeometryInRange g
      geometry_range = grind (arith, nat_tests)

      not_open : r ≡ rows → (r == 0) ≡ false
      not_open same = is_not_open r (λ none. within_not rows are.image.height.0 (sym same ∙ none))

      pub few_blocks : block_rows g n ≤ block_count rows
      few_blocks = grind (arith, nat_tests, not_open, is_open)

      -- that of the rows which are given for these is that of the image
      bands_same : (i j : ℕ) → i < height g n → j < s.width → picture_of g numbers (band_rows g n) i j ≡ picture_of g numbers (block_count rows) i j
      bands_same i j inside across = grind (arith, nat_tests, not_open, is_open, heights_alike, wide)

      pub all_shows : (i j : ℕ) → i < height g n → j < s.width → picture_with g numbers n i j ≡ whole_picture (image_geometry s rows) whole i j
      all_shows i j inside across =
          bands_same i j inside across
          ∙ sym (ap (λ (f : ℕ → ℕ → ℤ). f i j) (sized_same g rows numbers (block_count rows)))
          ∙ sym (ap (λ (ns : ℕ → ℕ → ℤ). picture_of (image_geometry s rows) ns (block_count rows) i j) (number_sized g rows whole))
