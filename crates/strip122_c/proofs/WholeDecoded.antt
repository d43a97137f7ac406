-- The result of a run over all packets.
use Rattle.std.proofs.Common.{◌≡◌, ◌≢◌, ◌≤◌, ◌<◌, ◌/◌, ◌∙◌, ℕ, List, [], ◌++◌, length, refl, sym, ap, subst, inl, inr, arith, Option, Some, None, Result}
use Rattle.std.proofs.Common.{Ok, Err, append-nil}
use Rattle.port_122.specs.Outside.{Outside, Exchange, IsUsedUp}
use Rattle.port_122.proofs.IfKnown.{end_known, given_known}
use Rattle.base_122.specs.Ranges.{rows_range}
use Rattle.base_122.specs.Sizes.{block_count}
use Rattle.base_122.specs.declared.geometry.Geometry.{Geometry}
use Rattle.base_122.specs.declared.wish.DecodeWish.{DecodeWish}
use Rattle.packet_defs.specs.Streams.{whole_packets}
use Rattle.raster_rows.proofs.RasterLaws.{length-raster_octets}
use Rattle.stream_defs.specs.Begun.{HasFewPixels, begun_in, height}
use Rattle.stream_defs.specs.Fates.{fresh, after_all, kept, geometry_in}
use Rattle.stream_defs.specs.Picture.{picture}
use Rattle.stream_defs.specs.Received.{AreReceived}
use Rattle.stream_defs.proofs.PlacedLaws.{is_not_open}
use Rattle.quick_look.specs.Look.{look}
use Rattle.strip_decoder.specs.declared.ending.DecodeDone.{DecodeDone}
use Rattle.strip_decoder.specs.Laws.{ReceivedIsKnown}
use Rattle.strip_decoder.specs.Runs.{HasFew, Numbers, holds_after}
use Rattle.strip_decoder.specs.Walks.{IsDamageOf}
use Rattle.strip_decoder.proofs.Endings.{height_known}
use Rattle.strip_decoder.proofs.TextReads.{left_after}
use Rattle.packet_assembly.specs.Readings.{IsReadOut}
use Rattle.strip122_c.specs.Products.{product_octets, product_length, product_texts}
use Rattle.strip122_c.specs.Runs.{HasRun, RunsAs}
use Rattle.strip122_c.specs.Measuring.{HasLong, HasSize, IsKept, IsMeasured}
use Rattle.strip122_c.specs.WholeDecoding.{FitsRoom, HasSmallRoom, IsMade, IsReadToEnd, IsRefused, Makes, ReportsFirst}
use Rattle.strip122_c.specs.declared.decode.DecodeRefusal.{DecodeRefusal}
use Rattle.strip122_c.specs.declared.decode.DecodeRefusal.TheVariants.{NoSegment, SmallRoom, TooManyPixels, LongInput, Memory}
use Rattle.strip122_c.specs.declared.measure.Measured.{Measured}
use Rattle.strip122_c.specs.declared.product.Product.{Product}
use Rattle.strip122_c.specs.declared.product.Product.TheVariants.{Picture, Look, Rects}
use Rattle.strip122_c.proofs.ProductRuns.{Anything, Ran, ran, took_nothing, took_many, took_long}
use Rattle.strip122_c.proofs.FirstHeads.{known_first, reports_more}
use Rattle.strip122_c.proofs.ReadOut.{ReadsAll, reads_all, reads_bad}
use Rattle.strip122_c.proofs.Written.{begun_same, written_few}

-- ---- the end

pub ended_to_end : (cap : ℕ) (took packets rest : List ℕ) (new : Outside) → new.rest ≡ Some rest → packets ≡ took ++ rest → length took ≤ cap →
    IsReadOut cap new took → IsReadToEnd cap packets
ended_to_end cap took packets rest new if_known are within (inl bad) = record { took = took; rest = rest; are = are; within = within; out = inl bad }
ended_to_end cap took packets rest new if_known are within (inr ended) =
    let none : IsUsedUp (Some rest) = subst IsUsedUp if_known ended.0 in
    record { took = took; rest = rest; are = are; within = within; out = inr (none, ended.1 rest if_known) }

pub read_to_end : {g w : List ℕ} {Q : ℕ → ℕ → Type 0} (cap : ℕ) (took packets : List ℕ) (old new : Outside) → Exchange old new took g w Q →
    old.rest ≡ Some packets → length took ≤ cap → IsReadOut cap new took → IsReadToEnd cap packets
read_to_end cap took packets old new since if_known within out =
    let left = left_after old.rest new.rest took packets since.rest if_known in
    ended_to_end cap took packets left.rest new left.if_known left.are within out

-- so their packets are those of the octets that are read
pub end_whole : {cap : ℕ} {packets : List ℕ} → (r : IsReadToEnd cap packets) → whole_packets r.took ≡ whole_packets packets
end_whole {packets = packets} r = elim r.out [
  | inl bad ↦ (reads_bad r.took r.rest bad).whole ∙ ap whole_packets (sym r.are)
  | inr all ↦ ap whole_packets (sym (r.are ∙ ap (λ more. r.took ++ more) all.0 ∙ append-nil r.took))
]

pub ended_whole : (cap : ℕ) (took packets rest : List ℕ) (new : Outside) → new.rest ≡ Some rest → packets ≡ took ++ rest → IsReadOut cap new took →
    whole_packets took ≡ whole_packets packets
ended_whole cap took packets rest new if_known are (inl bad) = (reads_bad took rest bad).whole ∙ ap whole_packets (sym are)
ended_whole cap took packets rest new if_known are (inr ended) =
    let none : IsUsedUp (Some rest) = subst IsUsedUp if_known ended.0 in
    ap whole_packets (sym (are ∙ ap (λ more. took ++ more) none ∙ append-nil took))

-- ---- what a run gives

geometry_same : (apid : ℕ) (took packets : List ℕ) → ReadsAll took packets → geometry_in apid took ≡ geometry_in apid packets
geometry_same apid took packets same = ap (λ all. (after_all apid fresh all).geometry) same.whole

pub is_made : (product : Product) (wish : DecodeWish) (packets given : List ℕ) (old new : Outside) (done : DecodeDone) → ReceivedIsKnown →
    old.rest ≡ Some packets → old.given ≡ Some [] → new.given ≡ Some given →
    RunsAs product wish old new (Ok done) → IsMade product wish packets given done
is_made product wish packets given old new done laws rest none gives run =
    let is = ran product wish old new done laws run in
    let same = reads_all wish.octets is.took packets old new is.since rest is.out in
    let made = is.made packets rest in
    let reports = sym (geometry_same wish.apid is.took packets same) ∙ is.geometry in
    let begun = begun_same wish.apid is.took packets done.geometry same is.geometry reports in
    let written = is.written ∙ ap (height done.geometry) begun in
    record {
      reports = record { geometry = reports; range = is.range };
      few = subst (HasFew wish.pixels wish.apid) same.whole is.few;
      to_end = read_to_end wish.octets is.took packets old new is.since rest is.within is.out;
      framing_is = is.framing_is ∙ same.framing_is;
      written = written;
      most = subst (λ n. n ≤ rows_range.most) (sym written) (written_few wish.apid packets done.geometry is.range reports);
      rows = is.rows;
      received = made.0;
      received_are = subst (λ all. AreReceived (holds_after (product_texts product wish)) (kept wish.apid fresh all) made.0) same.whole made.1;
      octets_are = given_known [] given is.since none gives ∙ made.2 ∙ ap (product_octets product done.geometry made.0) begun;
      damage = subst (λ n. IsDamageOf done.geometry made.0 n done.damage) begun made.3;
    }

-- they don't fit the room
pub small_room : (product : Product) (wish : DecodeWish) (packets given : List ℕ) (room : ℕ) (done : DecodeDone) → IsMade product wish packets given done →
    room < length given → HasSmallRoom product wish packets room done.geometry done.written (length given)
small_room product wish packets given room done made small = record {
  took = made.to_end.took;
  rest = made.to_end.rest;
  are = made.to_end.are;
  within = made.to_end.within;
  few = subst (HasFew wish.pixels wish.apid) (sym (end_whole made.to_end)) made.few;
  known = inr record { to_end = made.to_end; few = made.few };
  reports = made.reports;
  written = made.written;
  most = made.most;
  received = made.received;
  received_are = made.received_are;
  octets_are = ap length made.octets_are;
  small = small;
}

-- ---- refusals

pub refused : (product : Product) (wish : DecodeWish) (packets room : List ℕ) (old new : Outside) (refusal : DecodeRefusal) →
    FitsRoom product wish packets (length room) → old.rest ≡ Some packets → HasRun product wish old new (Err refusal) →
    Makes product wish packets room room (Err refusal)
refused product wish packets room old new NoSegment fits rest run =
    let is = took_nothing product wish old new run in
    let same = reads_all wish.octets is.all.took packets old new is.all.since rest is.out in (
      refl,
      record {
        none = sym (geometry_same wish.apid is.all.took packets same) ∙ is.none;
        to_end = read_to_end wish.octets is.all.took packets old new is.all.since rest is.all.within is.out;
      },
    )
refused product wish packets room old new (SmallRoom g rows octets) fits rest run = absurd run
refused product wish packets room old new (TooManyPixels pixels) fits rest run =
    let is = took_many product wish old new pixels run in
    let left = left_after old.rest new.rest is.all.took packets is.all.since.rest rest in (
      refl,
      record { took = is.all.took; rest = left.rest; are = left.are; within = is.all.within; many = is.many },
    )
refused product wish packets room old new LongInput fits rest run =
    let is = took_long product wish old new run in
    let left = left_after old.rest new.rest is.all.took packets is.all.since.rest rest in (
      refl,
      record {
        took = is.all.took;
        rest = left.rest;
        are = left.are;
        long = is.long;
        readable = is.readable;
        few = is.few;
        fits = λ g raster reports. fits g raster (subst (λ octets. ReportsFirst wish.apid octets g) (sym left.are)
            (reports_more wish.apid is.all.took left.rest g reports));
      },
    )
refused product wish packets room old new Memory fits rest run = (refl, tt)

-- ---- the size of a raster

pub raster_octets : (product : Product) (g : Geometry) (received : Numbers) (n : ℕ) → product ≢ Rects → length (product_octets product g received n)
    ≡ product_length product g n
raster_octets Picture g received n raster = length-raster_octets g.depth (height g n) g.width (picture g received n)
raster_octets Look g received n raster = length-raster_octets g.depth _ _ (look g received)
raster_octets Rects g received n raster = absurd (raster refl)

-- it doesn't depend on what the headers reach if the height is known
pub known_length : (product : Product) (g : Geometry) (m n : ℕ) → g.rows ≢ 0 → product_length product g m ≡ product_length product g n
known_length Picture g m n known = rw (is_not_open g.rows known) refl
known_length Look g m n known = rw (is_not_open g.rows known) refl
known_length Rects g m n known = refl

-- what the headers report is that of the packets
begun_length : (product : Product) (wish : DecodeWish) (packets : List ℕ) (m : Measured) → HasSize wish packets m →
    product_length product m.geometry (m.ended / block_count m.geometry.width) ≡ product_length product m.geometry (begun_in wish.apid packets)
begun_length product wish packets m has = elim has.reports.range.rows [
  | inl unknown ↦ ap (product_length product m.geometry) (has.begun unknown)
  | inr within ↦
      let known : m.geometry.rows ≢ 0 = λ none. (let least = within.0 in omega (arith, none, least)) in
      known_length product m.geometry (m.ended / block_count m.geometry.width) (begun_in wish.apid packets) known
]

begun_height : (wish : DecodeWish) (packets : List ℕ) (m : Measured) → HasSize wish packets m → height m.geometry (m.ended / block_count m.geometry.width)
    ≡ height m.geometry (begun_in wish.apid packets)
begun_height wish packets m has = elim has.reports.range.rows [
  | inl unknown ↦ ap (height m.geometry) (has.begun unknown)
  | inr within ↦
      let known : m.geometry.rows ≢ 0 = λ none. (let least = within.0 in omega (arith, none, least)) in
      height_known m.geometry (m.ended / block_count m.geometry.width) known ∙ sym (height_known m.geometry (begun_in wish.apid packets) known)
]

-- ---- before a raster is made

-- it doesn't fit
pub small_raster : (product : Product) (wish : DecodeWish) (packets : List ℕ) (room rows octets : ℕ) (m : Measured) → ReceivedIsKnown → product ≢ Rects →
    HasSize wish packets m →
    rows ≡ height m.geometry (m.ended / block_count m.geometry.width) → octets ≡ product_length product m.geometry (m.ended / block_count m.geometry.width) →
    room < octets → HasSmallRoom product wish packets room m.geometry rows octets
small_raster product wish packets room rows octets m laws raster has rows_are octets_are small =
    let some = laws.some (product_texts product wish) wish.apid packets in
    let n = begun_in wish.apid packets in
    let written = rows_are ∙ begun_height wish packets m has in
    record {
      took = has.took;
      rest = has.rest;
      are = has.are;
      within = has.within;
      few = has.few;
      known = elim has.known [ inl first ↦ inl (raster, first) | inr all ↦ inr all ];
      reports = has.reports;
      written = written;
      most = subst (λ n. n ≤ rows_range.most) (sym written) (written_few wish.apid packets m.geometry has.reports.range has.reports.geometry);
      received = some.0;
      received_are = some.1;
      octets_are = octets_are ∙ begun_length product wish packets m has ∙ sym (raster_octets product m.geometry some.0 n raster);
      small = small;
    }

-- it fits
pub fitting_raster : (product : Product) (wish : DecodeWish) (packets : List ℕ) (room octets : ℕ) (m : Measured) → HasSize wish packets m →
    octets ≡ product_length product m.geometry (m.ended / block_count m.geometry.width) → octets ≤ room → FitsRoom product wish packets room
fitting_raster product wish packets room octets m has octets_are fits g raster reports =
    let same : m.geometry ≡ g = (let both : Some m.geometry ≡ Some g = sym has.reports.geometry ∙ known_first wish.apid packets g reports in cc) in
    let n = m.ended / block_count m.geometry.width in
    subst (λ n. n ≤ room) (octets_are ∙ ap (λ g. product_length product g n) same ∙ known_length product g n 0 reports.1) fits

-- it is refused by its headers
pub refused_raster : (product : Product) (wish : DecodeWish) (packets : List ℕ) (room : ℕ) (refusal : DecodeRefusal) →
    IsMeasured wish packets (Err refusal) → IsRefused product wish packets room refusal
refused_raster product wish packets room NoSegment is = is
refused_raster product wish packets room (SmallRoom g rows octets) is = absurd is
refused_raster product wish packets room (TooManyPixels pixels) is = is
refused_raster product wish packets room LongInput is = record {
  took = is.took;
  rest = is.rest;
  are = is.are;
  long = is.long;
  readable = is.readable;
  few =
      is.few;
  fits = λ g raster reports. absurd (is.open_first g reports);
}
refused_raster product wish packets room Memory is = tt

-- the octets of a raster that are kept are all of it
pub kept_raster : (product : Product) (wish : DecodeWish) (packets : List ℕ) (octets : ℕ) (m : Measured) → product ≢ Rects → HasSize wish packets m →
    octets ≡ product_length product m.geometry (m.ended / block_count m.geometry.width) → IsKept product wish packets (Some octets)
kept_raster Picture wish packets octets m raster has is = (m, has, ap Some is)
kept_raster Look wish packets octets m raster has is = (m, has, ap Some is)
kept_raster Rects wish packets octets m raster has is = absurd (raster refl)
