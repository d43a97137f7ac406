-- The round trip of an image.
use Rattle.std.proofs.Common.{◌≡◌, ◌≢◌, ◌≤◌, ◌<◌, ◌*◌, ◌∙◌, ℕ, ℤ, List, [], ◌∷◌, ◌++◌, length, length-append, append_assoc, take, drop, refl, sym, ap}
use Rattle.std.proofs.Common.{subst, arith, false, Some, None, Result, Ok, Err, mul-le-mul_right}
use Rattle.std.proofs.Math.Seq.{take-append_seam}
use Rattle.base_122.specs.Setting.{image_geometry}
use Rattle.base_122.specs.declared.geometry.Geometry.{Geometry}
use Rattle.base_122.specs.declared.setting.Setting.{Setting}
use Rattle.base_122.specs.declared.wish.DecodeWish.{DecodeWish}
use Rattle.packet_defs.specs.Streams.{framing, whole_packets}
use Rattle.raster_rows.specs.Pixels.{pixel_size}
use Rattle.stream_defs.specs.Begun.{begun_in, end_of, height, rows_reached}
use Rattle.stream_defs.specs.Damage.{whole_missing}
use Rattle.stream_defs.specs.Fates.{fresh, after_all, kept, geometry_in}
use Rattle.stream_defs.specs.KnownHeights.{KnownHeights}
use Rattle.stream_defs.specs.Output.{output}
use Rattle.stream_defs.specs.Picture.{whole_octets}
use Rattle.stream_defs.specs.Received.{ReceivedIn}
use Rattle.stream_defs.proofs.ChosenLaws.{after_all-append}
use Rattle.stream_defs.proofs.PlacedLaws.{reached_known}
use Rattle.packet_assembly.proofs.ReachedRows.{geometry_more, reached_more}
use Rattle.strip_decoder.specs.Images.{texts_for, IsImageFor}
use Rattle.strip_decoder.specs.Laws.{ReceivedIsKnown}
use Rattle.strip_decoder.specs.Runs.{ReportsMany, holds_after}
use Rattle.strip_decoder.proofs.Asking.{leading_packets}
use Rattle.strip_decoder.proofs.Endings.{height_known}
use Rattle.strip_decoder.specs.RoundTrip.{RoundTrip}
use Rattle.strip122_c.specs.WholeDecoding.{HasTooMany, Makes, BringsImage, BringsBack}
use Rattle.strip122_c.specs.declared.decode.DecodeRefusal.{DecodeRefusal}
use Rattle.strip122_c.specs.declared.decode.DecodeRefusal.TheVariants.{NoSegment, SmallRoom, TooManyPixels, LongInput, Memory}
use Rattle.strip122_c.specs.declared.decode.Made.{Made}
use Rattle.strip122_c.specs.declared.product.Product.TheVariants.{Picture, Rects}
use Rattle.strip122_c.proofs.WholeDecoded.{raster_octets}

some_geometry : {x y : Geometry} → Some x ≡ Some y → x ≡ y
some_geometry e = cc

-- ---- the pixels that headers report

-- They are at most those of the image that all packets report, if its height is known.
pub many_few : (most apid pixels : ℕ) (took rest : List ℕ) (g : Geometry) → ReportsMany most apid pixels took → geometry_in apid (took ++ rest) ≡ Some g →
    g.rows ≢ 0 → pixels ≤ g.width * g.rows
many_few most apid pixels took rest g many if_known known =
    let before = many.before ++ many.packet ∷ [] in
    let beyond = leading_packets took rest in
    let later = many.later ++ beyond.0 in
    let all : whole_packets (took ++ rest) ≡ before ++ later = beyond.1 ∙ ap (λ packets. packets ++ beyond.0) many.packets_are
    ∙ append_assoc before many.later beyond.0 in
    let there : (after_all apid fresh (before ++ later)).geometry ≡ Some g = ap (λ packets. (after_all apid fresh packets).geometry) (sym all) ∙ if_known in
    let more = geometry_more apid before later many.image many.geometry in
    let same : more.0 ≡ g = some_geometry (sym more.1 ∙ ap (λ s. s.geometry) (sym (after_all-append apid fresh before later)) ∙ there) in
    let width : g.width ≡ many.image.width = ap (λ (h : Geometry). h.width) (sym same) ∙ ap (λ (h : Geometry). h.width) more.2 in
    let reached = reached_more apid before later many.image g many.geometry there in
    let rows : rows_reached many.image (end_of (kept apid fresh before)) ≤ g.rows =
    subst (λ n. rows_reached many.image (end_of (kept apid fresh before)) ≤ n) (reached_known g (end_of (kept apid fresh (before ++ later))) known)
    reached in
    let fewer = mul-le-mul_right many.image.width rows in
    let turned : (m n : ℕ) → m * n ≡ n * m = λ m n. grind arith in
    subst (λ w. pixels ≤ w * g.rows) (sym width)
    (omega (arith, many.pixels_are, fewer, turned (rows_reached many.image (end_of (kept apid fresh before))) many.image.width, turned g.rows many.image.width))

-- ---- the image

module _ (trip : RoundTrip) (if_known : ReceivedIsKnown) (known : KnownHeights) (s : Setting) (rows : ℕ) (x : ℕ → ℕ → ℤ) (image : IsImageFor s rows x) where
  abbrev whole_image : Geometry
  whole_image = image_geometry s rows

  -- all packets of an image report its geometry
  reports_image : geometry_in s.apid (output s rows x) ≡ Some whole_image
  reports_image =
      let some = if_known.some (texts_for s false) s.apid (output s rows x) in
      (trip.whole s rows x false some.0 image some.1).geometry

  of_image : (apid : ℕ) (packets : List ℕ) → apid ≡ s.apid → packets ≡ output s rows x → geometry_in apid packets ≡ Some whole_image
  of_image apid packets mine are = ap (λ n. geometry_in n packets) mine ∙ ap (geometry_in s.apid) are ∙ reports_image

  -- which has a height
  some_rows : (g : Geometry) → g ≡ whole_image → g.rows ≢ 0
  some_rows g e none = let same = ap (λ (g : Geometry). g.rows) e in let least = image.height.0.0 in omega (arith, none, same, least)

  -- so all of its rows are given
  rows_are : (g : Geometry) (n written : ℕ) → g ≡ whole_image → written ≡ height g n → written ≡ rows
  rows_are g n written e is = is ∙ height_known g n (some_rows g e) ∙ ap (λ (g : Geometry). g.rows) e

  brings_image : (wish : DecodeWish) (packets old new : List ℕ) (result : Result Made DecodeRefusal) → Makes Picture wish packets old new result →
      wish.apid ≡ s.apid → wish.book ≡ s.book → packets ≡ output s rows x → BringsImage wish s rows x new result
  brings_image wish packets old new (Ok made) has mine own are =
      let is = has.are in
      let g = made.done.geometry in
      let texts = texts_for s wish.restore in
      let got : ReceivedIn (holds_after texts) s.apid (output s rows x) is.received =
      subst (λ octets. ReceivedIn (holds_after texts) s.apid octets is.received) are
      (subst (λ n. ReceivedIn (holds_after texts) n packets is.received) mine
      (subst (λ book. ReceivedIn (holds_after (record { book = book; restore = wish.restore })) wish.apid packets is.received) own is.received_are)) in
      let whole = trip.whole s rows x wish.restore is.received image got in
      let geometry : g ≡ whole_image = some_geometry (sym is.reports.geometry ∙ of_image wish.apid packets mine are) in
      let some = some_rows g geometry in
      let n = begun_in wish.apid packets in
      let prefix : take made.octets new ≡ has.octets =
      ap (λ n. take n new) has.count ∙ ap (take (length has.octets)) has.room ∙ take-append_seam has.octets (drop (length has.octets) old) in
      let count : made.octets ≡ rows * (s.width * pixel_size s.depth) =
      has.count ∙ ap length is.octets_are ∙ raster_octets Picture g is.received n (λ e. absurd cc)
      ∙ ap (λ rows. rows * (g.width * pixel_size g.depth)) (sym is.written ∙ rows_are g n made.done.written geometry is.written)
      ∙ ap (λ (g : Geometry). rows * (g.width * pixel_size g.depth)) geometry in (
        count,
        record {
          geometry = geometry;
          written = rows_are g n made.done.written geometry is.written;
          missing = is.damage.missing some ∙ ap (λ g. whole_missing g is.received) geometry ∙ whole.missing;
          framing_is = is.framing_is ∙ ap framing are ∙ whole.framing_is;
          same = λ all. prefix ∙ is.octets_are ∙ known.octets g is.received n some ∙ ap (λ g. whole_octets g is.received) geometry
              ∙ (trip.same s rows x wish.restore is.received image all got).octets;
        },
      )
  brings_image wish packets old new (Err NoSegment) refused mine own are =
      absurd (let both : None ≡ Some whole_image = sym refused.1.none ∙ of_image wish.apid packets mine are in cc)
  brings_image wish packets old new (Err (SmallRoom g needed octets)) refused mine own are =
      let small = refused.1 in
      let geometry : g ≡ whole_image = some_geometry (sym small.reports.geometry ∙ of_image wish.apid packets mine are) in
      (geometry, rows_are g (begun_in wish.apid packets) needed geometry small.written)
  brings_image wish packets old new (Err (TooManyPixels pixels)) refused mine own are =
      let many = refused.1 in
      let there : geometry_in wish.apid (many.took ++ many.rest) ≡ Some whole_image =
      ap (geometry_in wish.apid) (sym many.are) ∙ of_image wish.apid packets mine are in
      (many.many.many, many_few wish.pixels wish.apid pixels many.took many.rest whole_image many.many there (some_rows whole_image refl))
  brings_image wish packets old new (Err LongInput) refused mine own are =
      let long = refused.1 in
      let lengths = ap length (sym are ∙ long.are) in omega (arith, lengths, length-append long.took long.rest, long.long)
  brings_image wish packets old new (Err Memory) refused mine own are = tt

pub brings_back : (wish : DecodeWish) (packets old new : List ℕ) (result : Result Made DecodeRefusal) → RoundTrip → ReceivedIsKnown → KnownHeights →
    Makes Picture wish packets old new result → BringsBack wish packets new result
brings_back wish packets old new result trip if_known known makes s rows x mine own are image =
    brings_image trip if_known known s rows x image wish packets old new result makes mine own are
