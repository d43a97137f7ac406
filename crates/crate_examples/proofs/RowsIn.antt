-- Rows that are taken, and packets that are given.
use Rattle.std.proofs.Common.{◌≡◌, ◌≢◌, ◌<◌, ◌≤◌, ◌+◌, ◌-◌, ◌*◌, ℕ, zero, suc, ℤ, pos, Bool, false, List, [], ◌++◌, length, take, drop, refl, sym, ap}
use Rattle.std.proofs.Common.{subst, ◌∙◌, arith, inl, inr, append_assoc, Result, Ok, Err, MatchResult, OnOk, Vec, mul-le-mul_left, mul-le-mul_right}
use Rattle.std.specs.Vec.{with_items}
use Rattle.std.proofs.lemmas.List.{append-nil, with_items_is, get_or-take, get_or-drop}
use Rattle.port_122.specs.Outside.{Outside, Exchange, NoRead, Rose}
use Rattle.port_122.proofs.Stretches.{since_start, since_out, rose_since}
use Rattle.base_122.specs.Ranges.{IsInRange}
use Rattle.base_122.specs.Setting.{IsHeight, sized}
use Rattle.base_122.specs.declared.setting.Setting.{Setting}
use Rattle.base_122.proofs.SizeBounds.{nine-le-total_blocks}
use Rattle.wave_defs.specs.Held.{Agrees, signal}
use Rattle.raster_rows.specs.Pixels.{IsPixel, pixel_at, raster_pixel}
use Rattle.raster_rows.specs.RowReads.{FirstInRange}
use Rattle.packet_defs.specs.Packets.{joined}
use Rattle.packet_defs.proofs.Joins.{joined-append}
use Rattle.stream_defs.specs.Output.{image_blocks, output, packets_of, segment_packets, segments_of, reports_last}
use Rattle.stream_defs.specs.SettledImages.{leading_packets}
use Rattle.stream_defs.proofs.Outputs.{packets_of-none, packets_of-more}
use Rattle.strip_coder.specs.declared.encode.EncodeDone.{EncodeDone}
use Rattle.strip_coder.specs.declared.work.Work.{Work}
use Rattle.strip_coder.specs.Answers.{DoneFor}
use Rattle.strip_coder.specs.Plans.{plan_of, tallest}
use Rattle.strip_coder.proofs.PlanLaws.{known_tallest}
use Rattle.strip_coder.specs.Works.{IsMadeFor, HasTaken, FollowsRows, RepresentsNone}
use Rattle.strip_coder.specs.Steps.{Continues, StopsEarly, IsRowInRange, RowIs, TakesRow, BreaksAt, EndsImage, EndBreaks}
use Rattle.strip_coder.proofs.PrefixesGiven.{take_prefix}
use Rattle.crate_examples.specs.Frames.{HasOctets, LastIsValid, HasGiven, GaveAll, BrokeOff}

-- ---- octets in a row

module _ {A : Type 0} (s : Setting) (eight : HasOctets s) (octets : List ℕ) (wide : length octets ≡ s.width) (v : Vec ℤ A) (after : List ℤ)
    (long : length after ≡ v.len)
    (shows : Agrees (length octets) (signal after) (pixel_at 8 false octets)) where
  pub row_shows : Agrees s.width (signal (with_items v after).items) (pixel_at 8 false octets)
  row_shows = record { at = λ k lt. ap (λ xs. signal xs k) (with_items_is v after long) ∙ shows.at k (omega (arith, lt, wide)) }

  pub row_in_range : FirstInRange 8 false octets (length octets) → IsRowInRange s (with_items v after).items
  row_in_range in_range = record {
    each = λ k lt. rw (eight.0, eight.1) (subst (IsPixel 8 false) (sym (row_shows.at k lt)) (in_range.each k (omega (arith, lt, wide))));
  }

-- a row is in its frame, and is a row of the image
pub row_within : (row rows width : ℕ) (frame : List ℕ) → row < rows → length frame ≡ rows * width → row * width + width ≤ length frame
row_within row rows width frame less long =
    let next : (row + 1) * width ≤ rows * width = mul-le-mul_right width (omega (arith, less)) in
    omega (arith, next, long)

pub frame_row : (row width at : ℕ) (frame : List ℕ) → at ≡ row →
    Agrees width (pixel_at 8 false (take ((row * width + width) - row * width) (drop (row * width) frame))) (raster_pixel 8 false width frame at)
frame_row row width at frame same = record {
  at = λ k lt.
      let inside : k < (row * width + width) - row * width = omega (arith, lt) in
      ap pos (get_or-take _ (drop (row * width) frame) k 0 inside ∙ get_or-drop (row * width) frame k 0) ∙ ap (λ n. raster_pixel 8 false width frame n k)
      (sym same);
}

-- ---- an image whose height is known

pub known_height : (s : Setting) → IsInRange s → s.rows ≢ 0 → IsHeight s s.rows
known_height s range some = elim range.rows [ inl none ↦ absurd (some none) | inr within ↦ (within, inr refl) ]

pub some_rows : (rows row : ℕ) → row < rows → rows ≢ 0
some_rows rows row less none = omega (arith, less, none)

-- ---- octets that go out

-- the packets of the first segments are a prefix of those of more
prefix_of : (last : Bool) (s : Setting) (all : List (List ℤ)) (n more : ℕ) →
    (rest : List ℕ) × (joined (packets_of last s all (n + more)) ≡ joined (packets_of last s all n) ++ rest)
prefix_of last s all n zero =
    let e : n + 0 ≡ n = omega arith in
    ([], ap (λ k. joined (packets_of last s all k)) e ∙ sym (append-nil (joined (packets_of last s all n))))
prefix_of last s all n (suc more) =
    let before = prefix_of last s all n more in
    let e : n + suc more ≡ (n + more) + 1 = omega arith in
    let next = joined (segment_packets last s all (n + more)) in (
      before.0 ++ next,
      ap (λ k. joined (packets_of last s all k)) e ∙ ap joined (packets_of-more last s all (n + more))
          ∙ joined-append (packets_of last s all (n + more)) (segment_packets last s all (n + more))
          ∙ ap (λ xs. xs ++ next) before.1 ∙ append_assoc (joined (packets_of last s all n)) before.0 next,
    )

module _ (s : Setting) (rows : ℕ) (image : ℕ → ℕ → ℤ) where
  -- a prefix of the packets of some segments is one of all packets
  segments_prefix : (index some : ℕ) → index < segments_of (sized s rows) →
      (n : ℕ) × (take some (joined (leading_packets s rows image (index + 1))) ≡ take n (output s rows image))
  segments_prefix index some inside =
      let all = image_blocks (sized s rows) image in
      let more = segments_of (sized s rows) - (index + 1) in
      let rest = prefix_of (reports_last s) (sized s rows) all (index + 1) more in
      let e : (index + 1) + more ≡ segments_of (sized s rows) = omega (arith, inside) in
      let prefix = take_prefix some (joined (leading_packets s rows image (index + 1))) rest.0 in
      (prefix.0, prefix.1 ∙ ap (take prefix.0) (sym rest.1 ∙ ap (λ k. joined (packets_of (reports_last s) (sized s rows) all k)) e))

  module _ (start now next : Outside) (index : ℕ) (since : Exchange start now [] (joined (leading_packets s rows image index)) [] NoRead) where
    gave_on : (to : ℕ) → Continues (plan_of s rows) (image_blocks (sized s rows) image) index to now next →
        Exchange start next [] (joined (leading_packets s rows image to)) [] NoRead
    gave_on to goes = subst (λ gave. Exchange start next [] gave [] NoRead) goes.then_are (since_out since goes.out)

    broke : (gathered : ℕ) → rows ≡ s.rows → Rose now.write_faults next.write_faults → StopsEarly (plan_of s rows) (image_blocks (sized s rows) image) index
        gathered now next →
        BrokeOff s image start next
    broke gathered known rose part =
        let prefix = segments_prefix part.index part.some part.inside in
        let gave = part.prefix ∙ prefix.1 ∙ ap (λ n. take prefix.0 (output s n image)) known in
        record {
          rose = rose_since since.faults.writes rose;
          some = prefix.0;
          since = subst (λ gave. Exchange start next [] gave [] NoRead) gave (since_out since part.out);
        }

-- ---- no row yet

-- no segment is written
none_out : (s : Setting) (rows : ℕ) (w : Work) → IsInRange s → 17 ≤ rows → HasTaken (plan_of s rows) 0 w → w.at.index ≡ 0
none_out s rows w range least_rows taken =
    let none = rw taken.strip_rows at taken.running.count in
    let blocks = nine-le-total_blocks s.width rows range.width.0 least_rows in
    let least : w.at.index * 16 ≤ w.at.index * s.segment = mul-le-mul_left {m = 16} {n = s.segment} w.at.index range.segment.0 in
    omega (arith, none, blocks, least)

pub none_given : (s : Setting) (image : ℕ → ℕ → ℤ) (start : Outside) (w : Work) → IsInRange s → s.rows ≢ 0 → RepresentsNone s w → HasGiven s image start start w
none_given s image start w range known valid =
    let all = image_blocks (sized s (tallest s)) image in
    let height = known_height s range known in
    let least : 17 ≤ tallest s = let rows = height.0.0 in omega (arith, rows, known_tallest s known) in
    let none : joined (leading_packets s (tallest s) image w.at.index) ≡ [] =
    ap (λ n. joined (leading_packets s (tallest s) image n)) (none_out s (tallest s) w range least valid.taken)
    ∙ ap joined (packets_of-none (reports_last s) (sized s (tallest s)) all) in
    record {
      taken = subst (λ k. HasTaken (plan_of s (tallest s)) k w) (sym valid.taken.rows) valid.taken;
      follows = valid.follows image;
      last = λ some. absurd (omega (arith, some, valid.taken.rows));
      since = subst (λ gave. Exchange start start [] gave [] NoRead) (sym none) (since_start start NoRead);
    }

-- ---- a row more

module _ {T E : Type 0} (s : Setting) (now next : Outside) (w new : Work) (result : Result T E)
    (row : MatchResult result (λ _. TakesRow s w.at.rows now next w new) (λ _. BreaksAt s w.at.rows now next w new)) where
  pub row_made : IsMadeFor s new
  row_made = by result row
    where
      by : (r : Result T E) → MatchResult r (λ _. TakesRow s w.at.rows now next w new) (λ _. BreaksAt s w.at.rows now next w new) → IsMadeFor s new
      by (Ok done) takes = takes.taken.running.gathered.made
      by (Err failed) breaks = breaks.made

  pub row_counted : OnOk result (new.at.rows ≡ w.at.rows + 1)
  row_counted = by result row
    where
      by : (r : Result T E) → MatchResult r (λ _. TakesRow s w.at.rows now next w new) (λ _. BreaksAt s w.at.rows now next w new) →
          OnOk r (new.at.rows ≡ w.at.rows + 1)
      by (Ok done) takes = takes.taken.rows
      by (Err failed) breaks = tt

module _ (s : Setting) (image : ℕ → ℕ → ℤ) (start now next : Outside) (w new : Work) (known : s.rows ≢ 0) (follows : FollowsRows s image w)
    (since : Exchange start now [] (joined (leading_packets s (tallest s) image w.at.index)) [] NoRead) (is : RowIs s image w.at.rows w) where
  pub row_given : {T E : Type 0} (result : Result T E) → IsRowInRange s w.row.items → MatchResult result (λ _. TakesRow s w.at.rows now next w new)
      (λ _. BreaksAt s w.at.rows now next w new) →
      MatchResult result (λ _. HasGiven s image start next new) (λ _. BrokeOff s image start next)
  row_given (Ok done) in_range takes =
      let back : new.at.rows - 1 ≡ w.at.rows = let count = takes.taken.rows in omega (arith, count) in
      record {
        taken = subst (λ k. HasTaken (plan_of s (tallest s)) k new) (sym takes.taken.rows) takes.taken;
        follows = takes.follows image follows is;
        last = λ some. (
          record { each = λ k lt. subst (IsPixel s.depth s.signed) (sym (takes.row.at k lt)) (in_range.each k lt) },
          record { at = λ k lt. takes.row.at k lt ∙ is.at k lt ∙ ap (λ i. image i k) (sym back) },
        );
        since = gave_on s (tallest s) image start now next w.at.index since new.at.index (takes.goes image follows is);
      }
  row_given (Err failed) in_range breaks = broke s (tallest s) image start now next w.at.index since _ (known_tallest s known) breaks.rose
      (breaks.breaks image follows is)

-- ---- the rest

pub end_made : {E : Type 0} (s : Setting) (rows : ℕ) (now next : Outside) (w new : Work) (result : Result EncodeDone E) →
    MatchResult result (λ done. EndsImage s rows now next w new done) (λ _. EndBreaks s rows now next w new) → IsMadeFor s new
end_made s rows now next w new (Ok done) ends = ends.made
end_made s rows now next w new (Err failed) breaks = breaks.made

pub last_row : (s : Setting) (image : ℕ → ℕ → ℤ) (start now : Outside) (w : Work) → IsInRange s → s.rows ≢ 0 → HasGiven s image start now w →
    w.at.rows ≡ s.rows → LastIsValid s image w
last_row s image start now w range known given all = given.last (omega (arith, known_least s range known, all))
  where
    known_least : (s : Setting) → IsInRange s → s.rows ≢ 0 → 17 ≤ s.rows
    known_least s range known = let rows = (known_height s range known).0.0 in omega (arith, rows)

pub all_given : {E : Type 0} (s : Setting) (image : ℕ → ℕ → ℤ) (start now next : Outside) (w new : Work) (result : Result EncodeDone E) → IsInRange s →
    s.rows ≢ 0 →
    HasGiven s image start now w → w.at.rows ≡ s.rows → MatchResult result (λ done. EndsImage s w.at.rows now next w new done)
    (λ _. EndBreaks s w.at.rows now next w new) →
    MatchResult result (λ done. GaveAll s image start next done) (λ _. BrokeOff s image start next)
all_given s image start now next w new result range known given all = by result
  where
    rows : ℕ
    rows = w.at.rows

    is : RowIs s image (rows - 1) w
    is = (last_row s image start now w range known given all).1

    since : Exchange start now [] (joined (leading_packets s rows image w.at.index)) [] NoRead
    since = subst (λ n. Exchange start now [] (joined (leading_packets s n image w.at.index)) [] NoRead) (known_tallest s known ∙ sym all) given.since

    by : {E : Type 0} (r : Result EncodeDone E) → MatchResult r (λ done. EndsImage s rows now next w new done) (λ _. EndBreaks s rows now next w new) →
        MatchResult r (λ done. GaveAll s image start next done) (λ _. BrokeOff s image start next)
    by (Ok done) ends = record {
      counts = subst (λ n. DoneFor s n image done) all (ends.done image given.follows is);
      since = subst (λ n. Exchange start next [] (output s n image) [] NoRead) all
          (gave_on s rows image start now next w.at.index since (segments_of (sized s rows)) (ends.goes image given.follows is));
    }
    by (Err failed) breaks = broke s rows image start now next w.at.index since _ all breaks.rose (breaks.breaks image given.follows is)
