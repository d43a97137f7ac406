-- All packets of an image: each of its segments is received.
use Rattle.std.proofs.Common.{◌≡◌, ◌≤◌, ◌<◌, ◌+◌, ◌-◌, ◌*◌, ◌/◌, ℕ, zero, suc, ℤ, List, [], ◌∷◌, refl, ap, subst, ◌∙◌, inl, arith, sym, pos, drop, get_or}
use Rattle.std.proofs.Common.{◌%◌, Bool, true, false, cond, not, None, Some, is_some, filter, if◌then◌else◌, Option, mul-le-mul_right, get_or-drop}
use Rattle.std.proofs.Common.{get_or-take}
use Rattle.std.specs.List.{range_with_len}
use Rattle.std.proofs.lemmas.Nat.{le-div, div-add-mod', mod_below}
use Rattle.std.proofs.lemmas.Bool.Decides.{nat_tests}
use Rattle.base_122.specs.Setting.{image_geometry, sized}
use Rattle.base_122.specs.Sizes.{block_count, total_blocks, first_block}
use Rattle.base_122.specs.declared.geometry.Geometry.{Geometry}
use Rattle.base_122.specs.declared.setting.Setting.{Setting}
use Rattle.base_122.proofs.SizeBounds.{total-le-segments, nine-le-total_blocks}
use Rattle.packet_defs.specs.Packets.{joined}
use Rattle.packet_defs.specs.Streams.{left_over, place_after, framing, framing_at}
use Rattle.packet_defs.proofs.Splits.{joined_splits, splits_left}
use Rattle.segment_code.specs.ShortTexts.{TextsAreShort}
use Rattle.segment_code.specs.Coded.{CodedTextsAreRead}
use Rattle.stream_defs.specs.Chosen.{IsChoice, chosen, all_parts}
use Rattle.stream_defs.specs.Damage.{is_missing, whole_missing}
use Rattle.stream_defs.specs.Fates.{geometry_in}
use Rattle.stream_defs.specs.Output.{head_for, image_blocks, output, segment_text, segments_of, reports_last, segment_of, used_before}
use Rattle.stream_defs.specs.Places.{parts_of, AreCoded}
use Rattle.stream_defs.specs.Received.{ReceivedIn}
use Rattle.strip_decoder.specs.Runs.{Numbers, holds_after}
use Rattle.strip_decoder.specs.Images.{texts_for, some_output, BeginsOne, is_begun, AreSome, IsImageFor, ArrivesWhole, ArePixels, SendsAll}
use Rattle.strip_decoder.proofs.Receiving.{one_value}
use Rattle.strip_decoder.proofs.RunEnds.{any_miss}
use Rattle.strip_decoder.proofs.SublistPictures.{all_packets, choice_all, coded_for, geometry_there, reported_begun, segment_within, whole_choice, sized_range}
use Rattle.strip_decoder.proofs.SublistSegments.{only_whole, each_whole}
use Rattle.std.proofs.lemmas.Bool.{false≢true}
use Rattle.base_122.specs.Ranges.{IsInRange}
use Rattle.stream_defs.proofs.ShareLaws.{share_none}
use Rattle.stream_defs.specs.Picture.{number_at}
use Rattle.strip_decoder.proofs.Showing.{number_in}
use Rattle.strip_decoder.proofs.SpelledImages.{head_fits, spells}
use Rattle.stream_defs.proofs.Equations.{missing_below-is}
use Rattle.packet_defs.proofs.Equations.{framing_at-is}

-- ---- none of a range

filter_miss : (p : ℕ → Bool) (a n : ℕ) → ((i : ℕ) → a ≤ i → i < a + n → p i ≡ false) → filter p (range_with_len a n) ≡ []
filter_miss p a zero none = refl
filter_miss p a (suc n) none =
    ap (λ b. cond b (a ∷ filter p (range_with_len (a + 1) n)) (filter p (range_with_len (a + 1) n))) (none a (omega arith) (omega arith))
    ∙ filter_miss p (a + 1) n (λ i low high. none i (omega (arith, low)) (omega (arith, high)))

-- if each block is received, no block row is missing
none_missing : (g : Geometry) (received : Numbers) →
    ((block : ℕ) → block < block_count g.rows * block_count g.width → is_some (received (block / g.segment)) ≡ true) → whole_missing g received ≡ []
none_missing g received all =
    let c = block_count g.width in
    missing_below-is g received (block_count g.rows) ∙ filter_miss (is_missing g received) 0 (block_count g.rows) (λ row low inside.
    any_miss (λ column. not (is_some (received ((row * c + column) / g.segment)))) 0 c
    (λ column from within. ap not (all (row * c + column) (before row column (omega (arith, inside)) (omega (arith, within))))))
  where
    before : (row column : ℕ) → row < block_count g.rows → column < block_count g.width →
        row * block_count g.width + column < block_count g.rows * block_count g.width
    before row column inside within = grind (arith, nat_tests, mul-le-mul_right)

-- ---- an image's packets

module _ (short : TextsAreShort) (s : Setting) (rows : ℕ) (x : ℕ → ℕ → ℤ) (is : IsImageFor s rows x) where
  abbrev t : Setting
  t = sized s rows

  abbrev all : List (List ℤ)
  all = image_blocks t x

  abbrev if_known : Bool
  if_known = reports_last s

  coded : AreCoded t all
  coded = coded_for short s rows x is

  choice : IsChoice t all (all_parts t all)
  choice = choice_all short s rows x is

  abbrev packets : List (List ℕ)
  packets = chosen if_known t all (all_parts t all) (segments_of t)

  all_are : output s rows x ≡ joined packets
  all_are = ap joined (whole_choice if_known t all (segments_of t))

  -- nothing is left over
  pub none_left : left_over (output s rows x) ≡ []
  none_left = ap left_over all_are ∙ splits_left (joined_splits packets (all_packets if_known t all coded (all_parts t all) choice))

  pub framed : framing (output s rows x) ≡ None
  framed = ap (λ left. framing_at (place_after (output s rows x)) left) none_left ∙ framing_at-is [] (place_after (output s rows x))

  -- ---- its geometry

  some_segments : 0 < segments_of t
  some_segments = grind (arith, nat_tests, total-le-segments, nine-le-total_blocks)

  some_parts : (index : ℕ) → index < segments_of t → 1 ≤ parts_of t all index
  some_parts index lt = grind (arith, nat_tests, coded, le-div)

  begins : BeginsOne s rows (all_parts t all)
  begins = by (parts_of t all 0) refl (some_parts 0 some_segments)
    where
      by : (n : ℕ) → parts_of t all 0 ≡ n → 1 ≤ n → BeginsOne s rows (all_parts t all)
      by zero e some = absurd (omega (arith, some))
      by (suc n) e some = record { index = 0; within = some_segments; more = range_with_len (0 + 1) n; begins = ap (range_with_len 0) e }

  -- the last segment is begun, so that the height is reported
  last_begun : is_begun (all_parts t all (segments_of t - 1)) ≡ true
  last_begun = grind (arith, nat_tests, some_parts, some_segments)

  are : AreSome s rows x (all_parts t all)
  are = record { image = is; choice = choice }

  pub geometry_reported : geometry_in s.apid (output s rows x) ≡ Some (image_geometry s rows)
  geometry_reported = grind (arith, nat_tests, all_are, geometry_there, are, begins, reported_begun, last_begun)

  -- ---- what is received

  module _ (restore : Bool) (received : Numbers)
      (received_is : ReceivedIn (holds_after (texts_for s restore)) s.apid (output s rows x) received) where
    of_all : ReceivedIn (holds_after (texts_for s restore)) s.apid (some_output s rows x (all_parts t all)) received
    of_all = subst (λ octets. ReceivedIn (holds_after (texts_for s restore)) s.apid octets received) all_are received_is

    -- a segment that is received is the one that its packets carry
    pub held_by : (index : ℕ) (w : List (List ℤ)) → index < segments_of t → received index ≡ Some w →
        holds_after (texts_for s restore) (head_for t all index) (segment_text t all index) w
    held_by index w lt e = (only_whole short s rows x (all_parts t all) are restore received of_all index w lt e).1

    -- and each is received
    pub each_received : CodedTextsAreRead → (index : ℕ) → index < segments_of t → is_some (received index) ≡ true
    each_received read index lt = each_whole short s rows x (all_parts t all) are restore received of_all read index lt refl

    pub arrives_whole : CodedTextsAreRead → ArrivesWhole s rows x received
    arrives_whole read = record {
      geometry = geometry_reported;
      missing = none_missing (image_geometry s rows) received (λ block lt.
          let turned : block_count rows * block_count s.width ≡ total_blocks s.width rows = grind arith in
          each_received read (block / s.segment) (segment_within short s rows x is block (omega (arith, lt, turned))));
      framing_is = framed;
    }

    -- if nothing is omitted
    module _ (read : CodedTextsAreRead) (sends : SendsAll s) where
      range : IsInRange t
      range = sized_range short s rows x is

      pixels : ArePixels t rows x
      pixels = record { at = is.pixels.at }

      -- each segment is received with its own blocks
      segment_is : (index : ℕ) → index < segments_of t → received index ≡ Some (segment_of t all index)
      segment_is index lt = by (received index) refl (each_received read index lt)
        where
          by : (o : Option (List (List ℤ))) → received index ≡ o → is_some o ≡ true → received index ≡ Some (segment_of t all index)
          by None e some = absurd (false≢true some)
          by (Some w) e some =
              let blocks = segment_of t all index in
              let h = head_for t all index in
              let plane : h.stop.plane ≡ 0 = ap (λ b. if b then 0 else s.stop.plane) sends.goes_on ∙ sends.plane in
              let stage : h.stop.stage ≡ 3 = ap (λ b. if b then 3 else s.stop.stage) sends.goes_on ∙ sends.stage in
              let uncut = share_none t index (used_before t all index) sends.total ∙ sends.limit in
              let reads = read (texts_for s restore) is.sound h blocks (head_fits t x range is.height.0 pixels index lt) is.weights
              (spells t x range is.height.0 pixels index lt) refl in
              e ∙ ap Some (one_value _ w blocks (held_by index w lt e)
              (reads.exact (inl uncut) (record { goes_on = sends.goes_on; plane = plane; stage = stage })))

      -- so each block is there with its numbers
      pub number_is : (b i : ℕ) → b < total_blocks s.width rows → number_at (image_geometry s rows) received b i ≡ get_or (get_or all b []) i (pos 0)
      number_is b i lt =
          let S = s.segment in
          let some = is.range.segment.0 in
          let index = b / S in
          let k = b % S in
          let small : k < S = mod_below b S (omega (arith, some)) in
          let at : index * S + k ≡ b = div-add-mod' b S in
          let there : get_or (segment_of t all index) k [] ≡ get_or all b [] = get_or-take S (drop (first_block S index) all) k [] small
          ∙ get_or-drop (index * S) all k [] ∙ ap (λ n. get_or all n []) at in
          ap (λ n. number_at (image_geometry s rows) received n i) (sym at)
          ∙ number_in (image_geometry s rows) received index k i (segment_of t all index) small (segment_is index (segment_within short s rows x is b lt))
          ∙ ap (λ xs. get_or xs i (pos 0)) there
