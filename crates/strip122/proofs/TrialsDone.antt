-- The steps of a trial: the raster, its packets, and their picture.
use Rattle.std.proofs.Common.{◌≡◌, ◌≤◌, ◌<◌, ◌+◌, ◌-◌, ◌*◌, ◌^◌, ◌∙◌, ℕ, ℤ, ◌≤ℤ◌, Bool, List, [], length, min, refl, sym, ap, subst, inl, inr, arith, true}
use Rattle.std.proofs.Common.{Some, Result, Ok, Err, IfOk}
use Rattle.plane_defs.specs.Codes.{is_book_sound}
use Rattle.std.specs.Int.{int_min, int_max}
use Rattle.std.proofs.lemmas.Int.{ints, clamps}
use Rattle.port_122.specs.Outside.{Outside}
use Rattle.port_122.specs.Memory.{outside_of, IsFresh}
use Rattle.port_122.specs.declared.memory.MemoryPort.{MemoryPort}
use Rattle.port_122.proofs.IfKnown.{end_known, given_known}
use Rattle.base_122.specs.Ranges.{IsInRange, IsWithin, rows_range}
use Rattle.base_122.specs.Setting.{geometry_of}
use Rattle.base_122.specs.Sizes.{block_count}
use Rattle.base_122.specs.declared.geometry.Geometry.{Geometry}
use Rattle.base_122.specs.declared.setting.Setting.{Setting}
use Rattle.wave_defs.specs.Pyramid.{padded, pyramid}
use Rattle.wave_defs.specs.Blocks.{blocks}
use Rattle.raster_rows.specs.Pixels.{IsDepth, IsPixel, pixel_size, whole_pixels, least_pixel, greatest_pixel, clamped, raster_octets}
use Rattle.raster_rows.specs.Made.{made_value}
use Rattle.raster_rows.proofs.Numbers.{least_most}
use Rattle.raster_rows.proofs.MadeLaws.{made_in_range}
use Rattle.raster_rows.proofs.PixelPlaces.{size_some, whole_pixels-is, whole_before}
use Rattle.raster_rows.proofs.RasterLaws.{raster_pixel-raster_octets, length-raster_octets}
use Rattle.packet_defs.specs.Packets.{joined}
use Rattle.packet_defs.specs.Streams.{left_over}
use Rattle.segment_code.specs.ShortTexts.{TextsAreShort}
use Rattle.stream_defs.specs.Begun.{begun_in}
use Rattle.stream_defs.specs.Fates.{geometry_in}
use Rattle.stream_defs.specs.KnownHeights.{KnownHeights}
use Rattle.stream_defs.specs.Output.{image_blocks, output, packets_of, segments_of, reports_last}
use Rattle.stream_defs.specs.Picture.{whole_picture, whole_octets, picture_of, picture_octets}
use Rattle.stream_defs.specs.Received.{ReceivedIn}
use Rattle.stream_defs.proofs.PlacedLaws.{within_not}
use Rattle.strip_coder.specs.declared.encode.EncodeDone.{EncodeDone}
use Rattle.strip_coder.specs.Answers.{EncodesImage, DoneFor, TookRaster}
use Rattle.strip_coder.specs.Rasters.{image_of}
use Rattle.segment_defs.specs.TextWish.{unrestored}
use Rattle.strip_decoder.specs.Images.{ArePixels, IsImageFor}
use Rattle.strip_decoder.specs.Runs.{Numbers, holds_after}
use Rattle.strip_decoder.proofs.WholeImages.{none_left, geometry_reported}
use Rattle.strip122.specs.declared.trial.TrialDone.{TrialDone}
use Rattle.strip122.specs.MadeRasters.{made_raster}
use Rattle.strip122.specs.Trials.{made_with, raster_length, equal_places, HasDecoded, AreEqualIn, IsTried}
use Rattle.strip122.proofs.TrialsCounted.{places-same}
use Rattle.strip122.proofs.TrialsDecoded.{took_all}

-- ---- rasters

-- a value that is clamped is in range
nearest_within : (least greatest value : ℤ) → least ≤ℤ greatest → (least ≤ℤ int_max least (int_min value greatest))
    × (int_max least (int_min value greatest) ≤ℤ greatest)
nearest_within least greatest value le = (omega (arith, ints, clamps), omega (arith, ints, clamps))

clamped_in_range : (depth : ℕ) (signed : Bool) (value : ℤ) → IsDepth depth → IsPixel depth signed (clamped depth signed value)
clamped_in_range depth signed value is =
    let within = nearest_within (least_pixel depth signed) (greatest_pixel depth signed) value (least_most depth signed is) in
    record { low = within.0; high = within.1 }

pub picture_in_range : (g : Geometry) (received : Numbers) (i j : ℕ) → IsDepth g.depth → IsPixel g.depth g.signed (whole_picture g received i j)
unfolding picture_of
picture_in_range g received i j is = clamped_in_range g.depth g.signed _ is

-- the image of a raster's octets
shown_is : (s : Setting) (x : ℕ → ℕ → ℤ) (octets : List ℕ) → IsInRange s → ArePixels s s.rows x → octets ≡ raster_octets s.depth s.rows s.width x →
    (i j : ℕ) → i < s.rows → j < s.width → image_of s octets i j ≡ x i j
shown_is s x octets range pixels is i j row column =
    ap (λ zs. image_of s zs i j) is ∙ raster_pixel-raster_octets s.depth s.signed s.rows s.width x i j range.depth pixels.at row column

-- the pixels of a raster that was taken are in range
pub raster_pixels : (s : Setting) (rows : ℕ) (raster : List ℕ) → IsInRange s → TookRaster s rows raster → ArePixels s rows (image_of s raster)
raster_pixels s rows raster range whole = record {
  at = λ i j row column.
      let size = pixel_size s.depth in
      let all : length raster ≡ rows * s.width * size + 0 = whole.whole ∙ flat rows s.width size in
      let count : whole_pixels s.depth raster ≡ rows * s.width = whole_pixels-is s.depth raster (rows * s.width) 0 all (size_some s.depth) in
      let before : (i + 1) * s.width ≤ rows * s.width = whole_before s.width i rows row in
      whole.in_range.each (i * s.width + j) (omega (arith, count, before, column));
}
  where
    flat : (rows width size : ℕ) → rows * (width * size) ≡ rows * width * size + 0
    flat rows width size = grind arith

-- ---- packets

-- an image's blocks are settled by its rows and columns
blocks_same : (s : Setting) (x y : ℕ → ℕ → ℤ) → IsInRange s → IsWithin rows_range s.rows → ((i j : ℕ) → i < s.rows → j < s.width → x i j ≡ y i j) →
    image_blocks s x ≡ image_blocks s y
unfolding image_blocks
blocks_same s x y range height same =
    let rows = height in
    let width = range.width in
    let padded_same : padded x s.rows s.width ≡ padded y s.rows s.width =
    λ t i j. same (min i (s.rows - 1)) (min j (s.width - 1)) (omega (arith, rows)) (omega (arith, width)) t in
    ap (λ p. blocks (pyramid p (block_count s.rows) (block_count s.width)) s.weights.shifts (block_count s.rows) (block_count s.width)) padded_same

-- what an encoder gives for a raster, which was whole and in range, and its counts
pub record HasEncoded (s : Setting) (raster packets : List ℕ) (done : EncodeDone) : Type 0 where
  pub whole : TookRaster s s.rows raster
  pub done_for : DoneFor s s.rows (image_of s raster) done
  pub gave : packets ≡ output s s.rows (image_of s raster)

pub has_encoded : (s : Setting) (raster packets fail : List ℕ) (piece : ℕ) (port : MemoryPort) (new : Outside) (done : EncodeDone) →
    IsWithin rows_range s.rows → IsFresh port raster fail piece →
    EncodesImage s (outside_of port) new (Ok done) → new.given ≡ Some packets → HasEncoded s raster packets done
has_encoded s raster packets fail piece port new done height fresh encodes gives =
    let rest = ap (λ (o : Outside). o.rest) fresh.outside in
    let given = ap (λ (o : Outside). o.given) fresh.outside in
    let answer = encodes.answer in
    let took : encodes.took ≡ raster = end_known raster encodes.since rest answer.2 in
    let rows : answer.0 ≡ s.rows = elim answer.1.height.1 [ inl none ↦ absurd (omega (arith, none, height)) | inr same ↦ sym same ] in
    record {
      whole = subst (λ n. TookRaster s n raster) rows (subst (TookRaster s answer.0) took answer.1);
      done_for = subst (λ n. DoneFor s n (image_of s raster) done) rows (subst (λ octets. DoneFor s answer.0 (image_of s octets) done) took answer.4);
      gave = given_known [] packets encodes.since given gives ∙ answer.3 ∙ ap (λ octets. output s answer.0 (image_of s octets)) took
          ∙ ap (λ n. output s n (image_of s raster)) rows;
    }

-- ---- the picture

some_geometry : {x y : Geometry} → Some x ≡ Some y → x ≡ y
some_geometry e = cc

-- what a decoder gives for all packets of an image
pub record HasPicture (s : Setting) (packets given : List ℕ) : Type 0 where
  pub received : Numbers
  pub received_are : ReceivedIn (holds_after (unrestored s.book)) s.apid packets received
  pub gave : given ≡ whole_octets (geometry_of s) received

pub has_picture : (s : Setting) (raster packets given fail : List ℕ) (piece : ℕ) (port : MemoryPort) (new : Outside) → TextsAreShort → KnownHeights →
    IsInRange s → IsWithin rows_range s.rows → is_book_sound s.book ≡ true → length s.weights.shifts ≡ 10 → TookRaster s s.rows raster →
    packets ≡ output s s.rows (image_of s raster) → IsFresh port packets fail piece → HasDecoded s (outside_of port) new → new.given ≡ Some given →
    HasPicture s packets given
has_picture s raster packets given fail piece port new short known range height sound ten whole packets_are fresh has gives =
    let rest = ap (λ (o : Outside). o.rest) fresh.outside in
    let none = ap (λ (o : Outside). o.given) fresh.outside in
    let x = image_of s raster in
    let image : IsImageFor s s.rows x = record {
      range = range;
      height = (height, inr refl);
      sound = sound;
      weights = ten;
      pixels =
          raster_pixels s s.rows raster range whole;
    } in
    let run = has.decodes in
    let is = run.answer in
    let took : run.took ≡ packets = took_all (2 ^ 40) run.took packets (outside_of port) new run.since rest
    (ap left_over packets_are ∙ none_left short s s.rows x image) is.out in
    let there : geometry_in s.apid packets ≡ Some has.done.geometry = subst (λ octets. geometry_in s.apid octets ≡ Some has.done.geometry) took is.geometry in
    let same : has.done.geometry ≡ geometry_of s = some_geometry (sym there ∙ ap (geometry_in s.apid) packets_are ∙ geometry_reported short s s.rows x image) in
    let if_known = is.if_known packets rest in
    let begun = begun_in s.apid run.took in
    record {
      received = if_known.0;
      received_are = subst (λ octets. ReceivedIn (holds_after (unrestored s.book)) s.apid octets if_known.0) took if_known.1;
      gave = given_known [] given run.since none gives ∙ if_known.2 ∙ ap (λ g. picture_octets g if_known.0 begun) same ∙ known.octets (geometry_of s)
          if_known.0 begun
          (within_not s.rows height);
    }

pub picture_size : (s : Setting) (packets given : List ℕ) → HasPicture s packets given → length given ≡ raster_length s
picture_size s packets given has = ap length has.gave ∙ length-raster_octets s.depth s.rows s.width (whole_picture (geometry_of s) has.received)

-- the pixels that are the same in it
pub are_equal : (s : Setting) (raster packets given : List ℕ) (equal : ℕ) → IsInRange s → HasPicture s packets given →
    equal ≡ equal_places s.rows s.width (image_of s raster) (image_of s given) → AreEqualIn s (image_of s raster) packets equal
are_equal s raster packets given equal range has is =
    let shows = whole_picture (geometry_of s) has.received in
    let width = range.width in
    let pixels : ArePixels s s.rows shows = record { at = λ i j row column. picture_in_range (geometry_of s) has.received i j range.depth } in
    record {
      received = has.received;
      received_are = has.received_are;
      equal_is = is ∙ places-same s.rows s.width (image_of s raster) (image_of s given) (image_of s raster) shows (omega (arith, width))
          (λ i j row column. refl) (shown_is s shows given range pixels has.gave);
    }

-- the counts of a trial of a raster
pub raster_tried : (s : Setting) (raster packets : List ℕ) (done : EncodeDone) (equal : ℕ) → HasEncoded s raster packets done →
    AreEqualIn s (image_of s raster) packets equal →
    IsTried s (image_of s raster) (record { segments = done.segments; packets = done.packets; octets = done.octets; equal = equal })
raster_tried s raster packets done equal has are = record {
  segments = has.done_for.segments;
  packets = has.done_for.packets;
  octets = has.done_for.octets;
  equal = subst (λ octets. AreEqualIn s (image_of s raster) octets equal) has.gave are;
}

-- ---- the made image

-- images that are the same in the rows and columns of a setting have the same counts of a trial
tried_same : (s : Setting) (x y : ℕ → ℕ → ℤ) (done : TrialDone) → IsInRange s → IsWithin rows_range s.rows →
    ((i j : ℕ) → i < s.rows → j < s.width → x i j ≡ y i j) → IsTried s x done → IsTried s y done
tried_same s x y done range height same tried =
    let all = blocks_same s x y range height same in
    let shows = whole_picture (geometry_of s) tried.equal.received in
    let width = range.width in
    let packets : output s s.rows x ≡ output s s.rows y = ap (λ all. joined (packets_of (reports_last s) s all (segments_of s))) all in
    record {
      segments = tried.segments;
      packets = tried.packets ∙ ap (λ all. length (packets_of (reports_last s) s all (segments_of s))) all;
      octets = tried.octets ∙ ap length packets;
      equal = record {
        received = tried.equal.received;
        received_are = subst (λ octets. ReceivedIn (holds_after (unrestored s.book)) s.apid octets tried.equal.received) packets tried.equal.received_are;
        equal_is = tried.equal.equal_is ∙ places-same s.rows s.width x shows y shows (omega (arith, width)) same (λ i j row column. refl);
      };
    }

pub made_tried : {E : Type 0} (s : Setting) (seed : ℕ) (raster : List ℕ) (result : Result TrialDone E) → IsInRange s → IsWithin rows_range s.rows →
    raster ≡ made_raster (made_with s seed) →
    IfOk result (IsTried s (image_of s raster)) → IfOk result (IsTried s (made_value (made_with s seed)))
made_tried s seed raster (Ok done) range height is tried =
    let made = made_with s seed in
    tried_same s (image_of s raster) (made_value made) done range height
    (shown_is s (made_value made) raster range (record { at = λ i j row column. made_in_range made i j range.depth }) is) tried
made_tried s seed raster (Err fault) range height is tried = tried
