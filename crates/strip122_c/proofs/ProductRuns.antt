-- What a run over a port shows, whatever it makes.
use Rattle.std.proofs.Common.{◌≡◌, ◌≤◌, ◌/◌, ◌∙◌, ℕ, List, [], length, refl, sym, ap, subst, arith, not, false, Bool, Some, None, Result, Ok, Err, is_some}
use Rattle.port_122.specs.Outside.{Outside, Exchange}
use Rattle.port_122.proofs.Stretches.{since_weaker}
use Rattle.base_122.specs.Ranges.{IsGeometryInRange}
use Rattle.base_122.specs.declared.geometry.Geometry.{Geometry}
use Rattle.base_122.specs.declared.wish.DecodeWish.{DecodeWish}
use Rattle.packet_defs.specs.Streams.{framing, has_bad_version, left_over}
use Rattle.stream_defs.specs.Begun.{HasFewPixels, begun_in, block_rows, height}
use Rattle.stream_defs.specs.Fates.{geometry_in}
use Rattle.stream_defs.specs.Received.{ReceivedIn}
use Rattle.packet_assembly.specs.Readings.{IsReadOut}
use Rattle.quick_look.specs.RectLines.{rect_lines}
use Rattle.quick_look.specs.Rects.{is_lost, rects}
use Rattle.quick_look.proofs.SameLost.{rects_same}
use Rattle.segment_defs.specs.TextWish.{TextWish, unrestored}
use Rattle.strip_decoder.specs.declared.ending.DecodeDone.{DecodeDone}
use Rattle.strip_decoder.specs.declared.ending.DecodeFault.TheVariants as faults
use Rattle.strip_decoder.specs.WalkAnswers.{PictureBy}
use Rattle.strip_decoder.specs.Laws.{ReceivedIsKnown}
use Rattle.strip_decoder.specs.Runs.{Numbers, ReportsMany, holds_after}
use Rattle.strip_decoder.specs.Walks.{IsDamageOf}
use Rattle.strip122_c.specs.Products.{product_octets, product_texts}
use Rattle.strip122_c.specs.Runs.{RunsAs}
use Rattle.strip122_c.specs.declared.product.Product.{Product}
use Rattle.strip122_c.specs.declared.product.Product.TheVariants.{Picture, Look, Rects}

-- nothing is said of a read call
abbrev pub Anything : ℕ → ℕ → Type 0
Anything i j = Unit {0}

-- ---- a run that ended

-- it has made the octets of the segments that are received in the octets that were taken
abbrev pub MakesOf : Product → DecodeWish → (took gave : List ℕ) → DecodeDone → Type 0
MakesOf product wish took gave done =
    (received : Numbers) × ReceivedIn (holds_after (product_texts product wish)) wish.apid took received
    × (gave ≡ product_octets product done.geometry received (begun_in wish.apid took)) × IsDamageOf done.geometry received (begun_in wish.apid took) done.damage

pub record Ran (product : Product) (wish : DecodeWish) (old new : Outside) (done : DecodeDone) : Type 0 where
  pub took : List ℕ
  pub gave : List ℕ
  pub since : Exchange old new took gave [] Anything
  pub within : length took ≤ wish.octets
  pub geometry : geometry_in wish.apid took ≡ Some done.geometry
  pub range : IsGeometryInRange done.geometry
  pub few : HasFewPixels wish.pixels wish.apid took
  pub framing_is : done.framing ≡ framing took
  pub out : IsReadOut wish.octets new took
  pub written : done.written ≡ height done.geometry (begun_in wish.apid took)
  pub rows : done.damage.rows ≡ done.written
  pub made : (all : List ℕ) → old.rest ≡ Some all → MakesOf product wish took gave done

ran_with : (gives : Bool) (texts : TextWish) (product : Product) (wish : DecodeWish) (old new : Outside) (took gave shown : List ℕ)
    (done : DecodeDone) {Q : ℕ → ℕ → Type 0} →
    Exchange old new took gave [] Q → length took ≤ wish.octets → PictureBy gives texts wish old new took shown done →
    ((all : List ℕ) → old.rest ≡ Some all → MakesOf product wish took gave done) → Ran product wish old new done
ran_with gives texts product wish old new took gave shown done since within found made = record {
  took = took;
  gave = gave;
  since = since_weaker since (λ i j le x. tt);
  within = within;
  geometry = found.geometry;
  range = found.range;
  few = found.few;
  framing_is = found.framing_is;
  out = found.out;
  written = found.written;
  rows = found.rows;
  made = made;
}

-- the lines of rectangles are those of the segments whose damage is reported
pub rects_known : (g : Geometry) (n : ℕ) (a b : Numbers) → IsGeometryInRange g → ((index : ℕ) → a index ≡ b index) → rects g a n ≡ rects g b n
rects_known g n a b range same =
    let least = range.width.0 in
    rects_same (height g n) g.width (block_rows g n) (is_lost g a) (is_lost g b) (omega (arith, least))
    (λ block lt. ap (λ o. not (is_some o)) (same (block / g.segment)))

pub ran : (product : Product) (wish : DecodeWish) (old new : Outside) (done : DecodeDone) → ReceivedIsKnown → RunsAs product wish old new (Ok done) →
    Ran product wish old new done
ran Picture wish old new done if_known run =
    ran_with _ _ Picture wish old new run.took run.gave run.gave done run.since run.within run.answer run.answer.if_known
ran Look wish old new done if_known run =
    ran_with _ _ Look wish old new run.took run.gave [] done run.since run.within run.answer.found
    (λ all there. let found = run.answer.found.if_known all there in (found.0, found.1, run.answer.look all there found.0 found.1, found.3))
ran Rects wish old new done if_known run =
    ran_with _ _ Rects wish old new run.took run.gave [] done run.since run.within run.answer.found
    (λ all there.
    let found = run.answer.found.if_known all there in
    let lines = run.answer.if_known all there in
    let same = if_known.one (unrestored wish.book) wish.apid run.took lines.0 found.0 lines.1 found.1 in (
      found.0,
      found.1,
      lines.2 ∙ ap rect_lines (rects_known done.geometry (begun_in wish.apid run.took) lines.0 found.0 run.answer.found.range same),
      found.3,
    ))

-- ---- a run that was refused

-- the octets that were taken
pub record Took (wish : DecodeWish) (old new : Outside) : Type 0 where
  pub took : List ℕ
  pub gave : List ℕ
  pub since : Exchange old new took gave [] Anything
  pub within : length took ≤ wish.octets

pub record TookNothing (wish : DecodeWish) (old new : Outside) : Type 0 where
  pub all : Took wish old new
  pub none : geometry_in wish.apid all.took ≡ None
  pub out : IsReadOut wish.octets new all.took

pub record TookMany (wish : DecodeWish) (old new : Outside) (pixels : ℕ) : Type 0 where
  pub all : Took wish old new
  pub many : ReportsMany wish.pixels wish.apid pixels all.took

pub record TookLong (wish : DecodeWish) (old new : Outside) : Type 0 where
  pub all : Took wish old new
  pub long : length all.took ≡ wish.octets
  pub readable : has_bad_version (left_over all.took) ≡ false
  pub few : HasFewPixels wish.pixels wish.apid all.took

abbrev took_with : (wish : DecodeWish) (old new : Outside) (took gave : List ℕ) {Q : ℕ → ℕ → Type 0} → Exchange old new took gave [] Q →
    length took ≤ wish.octets → Took wish old new
took_with wish old new took gave since within = record { took = took; gave = gave; since = since_weaker since (λ i j le x. tt); within = within }

pub took_nothing : (product : Product) (wish : DecodeWish) (old new : Outside) → RunsAs product wish old new (Err faults.NoSegment) → TookNothing wish old new
took_nothing Picture wish old new run = record { all = took_with wish old new run.took run.gave run.since run.within; none = run.answer.0; out = run.answer.1 }
took_nothing Look wish old new run = record { all = took_with wish old new run.took run.gave run.since run.within; none = run.answer.0; out = run.answer.1 }
took_nothing Rects wish old new run = record { all = took_with wish old new run.took run.gave run.since run.within; none = run.answer.0; out = run.answer.1 }

pub took_many : (product : Product) (wish : DecodeWish) (old new : Outside) (pixels : ℕ) → RunsAs product wish old new (Err (faults.TooManyPixels pixels)) →
    TookMany wish old new pixels
took_many Picture wish old new pixels run = record { all = took_with wish old new run.took run.gave run.since run.within; many = run.answer.0.many }
took_many Look wish old new pixels run = record { all = took_with wish old new run.took run.gave run.since run.within; many = run.answer.0.many }
took_many Rects wish old new pixels run = record { all = took_with wish old new run.took run.gave run.since run.within; many = run.answer.0.many }

pub took_long : (product : Product) (wish : DecodeWish) (old new : Outside) → RunsAs product wish old new (Err faults.LongInput) → TookLong wish old new
took_long Picture wish old new run = record {
  all = took_with wish old new run.took run.gave run.since run.within;
  long = run.answer.0;
  readable =
      run.answer.1;
  few = run.answer.2;
}
took_long Look wish old new run = record {
  all = took_with wish old new run.took run.gave run.since run.within;
  long = run.answer.0;
  readable =
      run.answer.1;
  few = run.answer.2;
}
took_long Rects wish old new run = record {
  all = took_with wish old new run.took run.gave run.since run.within;
  long = run.answer.0;
  readable =
      run.answer.1;
  few = run.answer.2;
}
