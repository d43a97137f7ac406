-- One more row of a raster.
use Rattle.std.proofs.Common.{◌≡◌, ◌≢◌, ◌⊎◌, inl, inr, ◌/◌, ◌%◌, ◌==◌, Bool, true, false, ℕ, ◌+◌, ◌-◌, ◌*◌, ◌<◌, ◌≤◌, ℤ, List, [], ◌++◌, length, take, refl}
use Rattle.std.proofs.Common.{sym, ap, ◌∙◌, subst, arith, length-append, Err, Vec, ◌&&◌, nat_le}
use Rattle.std.proofs.lemmas.Bool.{cases_lt}
use Rattle.std.proofs.lemmas.Bool.Decides.{nat_tests}
use Rattle.std.proofs.lemmas.Nat.{mod-mul-add}
use Rattle.std.specs.Vec.{with_items}
use Rattle.std.proofs.lemmas.List.{append-nil, nil_from_length, length-take-le, with_items_is}
use Rattle.std.proofs.Math.Nat.{mul-le-mul_left, mul-le-mul_right, mul-div_left}
use Rattle.port_122.specs.Outside.{Outside, Exchange, GivenBy}
use Rattle.port_122.proofs.Stretches.{since_start, since_out, rose_since}
use Rattle.port_122.proofs.ReadCalls.{since_prompt}
use Rattle.wave_defs.specs.Held.{SameWithin, signal}
use Rattle.base_122.specs.Ranges.{IsInRange}
use Rattle.base_122.specs.Setting.{IsHeight, sized}
use Rattle.base_122.specs.declared.setting.Setting.{Setting}
use Rattle.packet_defs.specs.Packets.{joined}
use Rattle.raster_rows.specs.Pixels.{IsPixel, pixel_at, pixel_size, whole_pixels}
use Rattle.raster_rows.specs.RowReads.{FirstInRange, BeginsWith, InRow, RowRead}
use Rattle.raster_rows.specs.declared.reading.RowFault.{RowFault}
use Rattle.raster_rows.specs.declared.reading.RowFault.TheVariants.{ReadFault, Short, BadPixel}
use Rattle.raster_rows.proofs.PixelPlaces.{pixel_at-append_right, size_some}
use Rattle.stream_defs.specs.Output.{image_blocks, packets_of, reports_last}
use Rattle.stream_defs.specs.SettledImages.{leading_packets, settled_in}
use Rattle.stream_defs.proofs.HeightLaws.{settled_alike}
use Rattle.stream_defs.proofs.ImageLaws.{settled_rises}
use Rattle.stream_defs.proofs.Outputs.{packets_of-none}
use Rattle.stream_defs.proofs.KeptOrder.{is_zero}
use Rattle.strip_coder.specs.declared.encode.EncodeFault.TheVariants as encode_faults
use Rattle.strip_coder.specs.declared.work.Work.{Work}
use Rattle.strip_coder.specs.Rasters.{row_length, most_length, LacksRows, image_of, AreInRange, settled_octets, given_for}
use Rattle.strip_coder.specs.Answers.{AsksInRange, FirstBad, EncodesImage}
use Rattle.strip_coder.specs.Works.{HasTaken, FollowsRows, RepresentsNone}
use Rattle.strip_coder.specs.Steps.{IsRowInRange, RowIs, TakesRow, BreaksAt}
use Rattle.strip_coder.specs.RowsIn.{fault_after, ends_here, HasArrived, HasAll}
use Rattle.strip_coder.proofs.RowTakes.{OnlyRow, row_follows_any}
use Rattle.strip_coder.proofs.RowsGiven.{same_rows, settled_same, same_octets, given_within}
use Rattle.strip_coder.proofs.RowsTakenLaws.{row_pixels, all_whole, in_range-more, all_in_range-more, first_bad-more}
use Rattle.strip_coder.proofs.RangeAsks.{row_asked}
use Rattle.strip_coder.specs.Plans.{plan_of, tallest}
use Rattle.strip_coder.proofs.PlanLaws.{tall_height, tall_plan, open_last}
use Rattle.strip_coder.proofs.SettledCounts.{count, few_gathered}
use Rattle.strip_coder.proofs.PrefixesGiven.{prefix_out, broke_off}

-- ---- no row yet

-- the first segment is present
none_index : (s : Setting) (w : Work) → IsInRange s → HasTaken (plan_of s (tallest s)) 0 w → w.at.index ≡ 0
none_index s w range taken = grind (arith, nat_tests, tall_height, few_gathered, tall_plan, count, mul-le-mul_left)

pub none_arrived : (s : Setting) (p : Outside) (w : Work) → IsInRange s → RepresentsNone s w → HasArrived s 0 p p w
none_arrived s p w range start =
    let all = image_blocks (sized s (tallest s)) (image_of s []) in
    let none : joined (leading_packets s (tallest s) (image_of s []) w.at.index) ≡ [] =
    ap (λ n. joined (packets_of (reports_last s) (sized s (tallest s)) all n)) (none_index s w range start.taken)
    ∙ ap joined (packets_of-none (reports_last s) (sized s (tallest s)) all) in
    record {
      took = [];
      whole = omega arith;
      in_range = record { each = λ k lt. absurd (omega (arith, lt)) };
      valid = record { taken = start.taken; follows = λ y same. start.follows y };
      last = λ some. absurd (omega (arith, some));
      since = subst (λ g. Exchange p p [] g [] (GivenBy (given_for s) [])) (sym none) (since_start p (GivenBy (given_for s) []));
      asks = subst (λ g. Exchange p p [] g [] (AsksInRange s [])) (sym none) (since_start p (AsksInRange s []));
    }

-- a row has the pixels of these octets
pub record HoldsRow (s : Setting) (got : List ℕ) (row : List ℤ) : Type 0 where
  pub at : (column : ℕ) → column < s.width → signal row column ≡ pixel_at s.depth s.signed got column

pub row_holds : {A : Type 0} (s : Setting) (got : List ℕ) (v : Vec ℤ A) (before after : List ℤ) → length after ≡ v.len →
    BeginsWith s.depth s.signed got s.width before after →
    HoldsRow s got (with_items v after).items
row_holds s got v before after long begins = record { at = λ column lt. ap (λ xs. signal xs column) (with_items_is v after long) ∙ begins.first column lt }

pub row_values : (s : Setting) (got : List ℕ) (row : List ℤ) → FirstInRange s.depth s.signed got s.width → HoldsRow s got row → IsRowInRange s row
row_values s got row in_range holds = record { each = λ column lt. subst (IsPixel s.depth s.signed) (sym (holds.at column lt)) (in_range.each column lt) }

-- ---- tests

and_true : (a b : Bool) → (a && b) ≡ true → (a ≡ true) × (b ≡ true)
and_true true b e = (refl, e)
and_true false b e = absurd cc

at_least : (n k : ℕ) → nat_le n k ≡ true → n ≤ k
at_least n k e = grind (arith, nat_tests)

fewer : (n k : ℕ) → nat_le n k ≡ false → k < n
fewer n k e = grind (arith, nat_tests)

-- ---- a raster that ends in a row

below_all : (t size k octets total : ℕ) → k < t → octets < size → total ≡ k * size + octets → total < t * size
below_all t size k octets total less few is = grind (arith, nat_tests, mul-le-mul_right)

open_short : (k octets total size : ℕ) → octets < size → total ≡ k * size + octets → (nat_le 17 k && (octets == 0)) ≡ false →
    (total < 17 * size) ⊎ (total % size ≢ 0)
open_short k octets total size few is h = elim (cases_lt 0 octets) [
  | inl some ↦ inr (λ e. let rest : total % size ≡ octets = ap (λ n. n % size) is ∙ mod-mul-add k size octets few in omega (arith, e, rest, some))
  | inr zero ↦ let none : (octets == 0) ≡ true = grind (arith, nat_tests) in inl
      (below_all 17 size k octets total (fewer 17 k (alone (nat_le 17 k) (octets == 0) none h)) few is)
]
  where
    alone : (a b : Bool) → b ≡ true → (a && b) ≡ false → a ≡ false
    alone a b e f = grind (arith, nat_tests)

row_short : (s : Setting) (k octets total : ℕ) → k < tallest s → octets < row_length s → total ≡ k * row_length s + octets →
    ends_here s k (Short octets) ≡ false → LacksRows s total
row_short s k octets total less few is goes_on = record {
  fewer = below_all (tallest s) (row_length s) k octets total less few is;
  left_open = λ none. let e : (s.rows == 0) ≡ true = open_last s none in open_short k octets total (row_length s) few is (rw e at goes_on);
}

-- ---- after k rows

module _ (s : Setting) (range : IsInRange s) (k : ℕ) (p q : Outside) (old : Work) (less : k < tallest s) (arrived : HasArrived s k p q old) where
  le : k ≤ tallest s
  le = omega (arith, less)

  index : old.at.index ≡ settled_in s (tallest s) k
  index = arrived.valid.taken.index (inl less)

  gave_is : joined (leading_packets s (tallest s) (image_of s arrived.took) old.at.index) ≡ settled_octets s arrived.took k
  unfolding settled_octets
  gave_is = ap (λ n. joined (leading_packets s (tallest s) (image_of s arrived.took) n)) index

  so_far : Exchange p q arrived.took (settled_octets s arrived.took k) [] (GivenBy (given_for s) arrived.took)
  so_far = subst (λ g. Exchange p q arrived.took g [] (GivenBy (given_for s) arrived.took)) gave_is arrived.since

  so_far_asks : Exchange p q arrived.took (settled_octets s arrived.took k) [] (AsksInRange s arrived.took)
  so_far_asks = subst (λ g. Exchange p q arrived.took g [] (AsksInRange s arrived.took)) gave_is arrived.asks

  -- octets of the next row were taken
  part_taken : {m : Outside} (got : List ℕ) → Exchange q m got [] [] (InRow s.depth s.signed s.width got) →
      Exchange p m (arrived.took ++ got) (settled_octets s arrived.took k) [] (GivenBy (given_for s) (arrived.took ++ got))
  part_taken got read = since_prompt (given_for s) so_far read
      (λ i j most r.
      let size = length-take-le i got most in
      let short : length (take i got) < row_length s = omega (arith, size, r.0) in
      let same = given_within s k arrived.took (take i got) range le arrived.whole short in
      omega (arith, r.1, ap length same))

  row_below : k * row_length s + row_length s ≤ most_length s
  row_below = grind (arith, nat_tests, mul-le-mul_right)

  part_asks : {m : Outside} (got : List ℕ) → Exchange q m got [] [] (InRow s.depth s.signed s.width got) →
      Exchange p m (arrived.took ++ got) (settled_octets s arrived.took k) [] (AsksInRange s (arrived.took ++ got))
  part_asks got read = row_asked s k arrived.took got arrived.whole row_below arrived.in_range so_far_asks read

  -- the row wasn't read to its end
  pub row_lacks : {T : Type 0} {m : Outside} (before after : List ℤ) (fault : RowFault) → RowRead {T = T} s.depth s.signed s.width k q m before after
      (Err fault) → ends_here s k fault ≡ false →
      EncodesImage s p m (Err (fault_after (k * row_length s) fault))
  row_lacks before after ReadFault read goes_on =
      let size = length-append arrived.took read.took in
      let inside = read.answer.1.inside in
      record {
        took = arrived.took ++ read.took;
        gave = settled_octets s arrived.took k;
        since = part_taken read.took read.since;
        asks = part_asks read.took read.since;
        answer = (
          rose_since so_far.faults.reads read.answer.0,
          omega (arith, size, inside, arrived.whole, row_below),
          all_in_range-more s k arrived.took read.took arrived.whole arrived.in_range read.answer.1.in_range,
          sym (given_within s k arrived.took read.took range le arrived.whole inside),
        );
      }
  row_lacks before after (Short octets) read goes_on =
      let size = length-append arrived.took read.took in
      let inside = read.answer.2.inside in
      let count = read.answer.0 in
      record {
        took = arrived.took ++ read.took;
        gave = settled_octets s arrived.took k;
        since = part_taken read.took read.since;
        asks = part_asks read.took read.since;
        answer = (
          omega (arith, size, count, arrived.whole),
          row_short s k octets (length (arrived.took ++ read.took)) less (omega (arith, count, inside)) (omega (arith, size, count, arrived.whole)) goes_on,
          read.answer.1,
          all_in_range-more s k arrived.took read.took arrived.whole arrived.in_range read.answer.2.in_range,
          sym (given_within s k arrived.took read.took range le arrived.whole inside),
        );
      }
  row_lacks before after (BadPixel row column value) read goes_on =
      let size = length-append arrived.took read.took in
      let most = read.answer.1 in
      let bad = first_bad-more s k column value arrived.took read.took arrived.whole arrived.in_range most read.answer.2 in
      let at = sym read.answer.0 in
      record {
        took = arrived.took ++ read.took;
        gave = settled_octets s arrived.took k;
        since = part_taken read.took read.since;
        asks = part_asks read.took read.since;
        answer = (
          omega (arith, size, most, arrived.whole, row_below),
          subst (λ r. FirstBad s (arrived.took ++ read.took) r column value) at bad,
          subst (λ r. settled_octets s arrived.took k ≡ settled_octets s (arrived.took ++ read.took) r) at
              (sym (same_octets s k arrived.took read.took range le arrived.whole)),
        );
      }

  -- no octet of it was there, and the rows before are all
  pub row_ends : {T : Type 0} {m : Outside} (mid : Work) (before after : List ℤ) (fault : RowFault) →
      RowRead {T = T} s.depth s.signed s.width k q m before after (Err fault) → ends_here s k fault ≡ true →
      OnlyRow old mid → HasTaken (plan_of s (tallest s)) k mid → ((j : ℕ) → signal mid.row.items j ≡ signal after j) →
      ((j : ℕ) → signal before j ≡ signal old.row.items j) → (s.rows ≡ 0) × HasAll s p m mid
  row_ends mid before after ReadFault read ends only taken here there = absurd cc
  row_ends mid before after (BadPixel row column value) read ends only taken here there = absurd cc
  row_ends {m = m} mid before after (Short octets) read ends only taken here there =
      let tests = and_true (s.rows == 0) (nat_le 17 k && (octets == 0)) ends in
      let more = and_true (nat_le 17 k) (octets == 0) tests.1 in
      let left_open : s.rows ≡ 0 = is_zero s.rows tests.0 in
      let least : 17 ≤ k = at_least 17 k more.0 in
      let most = (tall_height s range).0.1 in
      let empty : length read.took ≡ 0 = sym read.answer.0 ∙ is_zero octets more.1 in
      let same_took : arrived.took ++ read.took ≡ arrived.took = ap (λ t. arrived.took ++ t) (nil_from_length read.took empty) ∙ append-nil arrived.took in
      let pixels : whole_pixels s.depth read.took ≡ 0 =
      ap (λ n. n / pixel_size s.depth) (empty ∙ (let z : 0 ≡ 0 * pixel_size s.depth = omega arith in z)) ∙ mul-div_left 0 {n = pixel_size s.depth}
      (size_some s.depth) in
      let row : (j : ℕ) → signal mid.row.items j ≡ signal old.row.items j = λ j. here j ∙ read.answer.2.begins.others j (omega (arith, pixels)) ∙ there j in
      let gave : settled_octets s arrived.took k ≡ joined (leading_packets s (tallest s) (image_of s arrived.took) mid.at.index) =
      sym gave_is ∙ ap (λ n. joined (leading_packets s (tallest s) (image_of s arrived.took) n)) (sym (ap (λ a. a.index) only.at)) in
      let so : Exchange p m arrived.took (settled_octets s arrived.took k) [] (GivenBy (given_for s) arrived.took) =
      subst (λ t. Exchange p m t (settled_octets s arrived.took k) [] (GivenBy (given_for s) t)) same_took (part_taken read.took read.since) in
      let so_asks : Exchange p m arrived.took (settled_octets s arrived.took k) [] (AsksInRange s arrived.took) =
      subst (λ t. Exchange p m t (settled_octets s arrived.took k) [] (AsksInRange s t)) same_took (part_asks read.took read.since) in
      let now : HasArrived s k p m mid = record {
        took = arrived.took;
        whole = arrived.whole;
        in_range = arrived.in_range;
        valid = record { taken = taken; follows = λ y same. row_follows_any s y old mid only (arrived.valid.follows y same) };
        last = λ some. let l = arrived.last some in record {
          in_range = record { each = λ column lt. subst (IsPixel s.depth s.signed) (sym (row column)) (l.in_range.each column lt) };
          same = record { at = λ j lt. row j ∙ l.same.at j lt };
        };
        since = subst (λ g. Exchange p m arrived.took g [] (GivenBy (given_for s) arrived.took)) gave so;
        asks = subst (λ g. Exchange p m arrived.took g [] (AsksInRange s arrived.took)) gave so_asks;
      } in (
        left_open,
        record {
          height = subst (IsHeight s) (sym taken.rows) ((least, omega (arith, less, most)), inl left_open);
          arrived = subst (λ n. HasArrived s n p m mid) (sym taken.rows) now;
          ended = λ none. read.answer.1;
        },
      )

  -- ---- the row was read

  module _ (mid : Work) (m : Outside) (got : List ℕ) (read : Exchange q m got [] [] (InRow s.depth s.signed s.width got)) (only : OnlyRow old mid)
      (whole : length got ≡ row_length s) (in_range : FirstInRange s.depth s.signed got s.width)
      (holds : HoldsRow s got mid.row.items) where
    -- it is the next row of each image that begins so
    row_is : (y : ℕ → ℕ → ℤ) → SameWithin (k + 1) s.width (image_of s (arrived.took ++ got)) y → RowIs s y k mid
    row_is y same = record {
      at = λ j lt.
          holds.at j lt
          ∙ sym (pixel_at-append_right s.depth s.signed arrived.took got (k * s.width) j (row_pixels s k arrived.took arrived.whole))
          ∙ same.at k j (omega arith) lt;
    }

    before_is : (y : ℕ → ℕ → ℤ) → SameWithin (k + 1) s.width (image_of s (arrived.took ++ got)) y → SameWithin k s.width (image_of s arrived.took) y
    before_is y same = record {
      at = λ i j hi hj. sym ((same_rows s k arrived.took got arrived.whole).at i j hi hj) ∙ same.at i j (omega (arith, hi)) hj;
    }

    follows : (y : ℕ → ℕ → ℤ) → SameWithin (k + 1) s.width (image_of s (arrived.took ++ got)) y → FollowsRows s y mid
    follows y same = row_follows_any s y old mid only (arrived.valid.follows y (before_is y same))

    itself : SameWithin (k + 1) s.width (image_of s (arrived.took ++ got)) (image_of s (arrived.took ++ got))
    itself = record { at = λ i j hi hj. refl }

    mid_index : mid.at.index ≡ settled_in s (tallest s) k
    mid_index = ap (λ a. a.index) only.at ∙ index

    -- what is given is that of each image that begins so
    gave_same : (rows : ℕ) (y : ℕ → ℕ → ℤ) → IsHeight s rows → k + 1 ≤ rows → SameWithin (k + 1) s.width (image_of s (arrived.took ++ got)) y →
        settled_octets s arrived.took k ≡ joined (leading_packets s rows y mid.at.index)
    gave_same rows y height least same =
        let le' : k ≤ rows = omega (arith, least) in
        settled_same s rows k arrived.took y range height le le' (before_is y same)
        ∙ ap (λ n. joined (leading_packets s rows y n)) (sym (mid_index ∙ settled_alike s (tallest s) rows k range (tall_height s range) height le le'))

    rows_now : (k + 1) * row_length s ≡ k * row_length s + row_length s
    rows_now = grind arith

    took_whole : length (arrived.took ++ got) ≡ (k + 1) * row_length s
    took_whole = length-append arrived.took got ∙ ap (λ n. n + length got) arrived.whole ∙ ap (λ n. k * row_length s + n) whole ∙ sym rows_now

    took_in_range : AreInRange s (arrived.took ++ got) ((k + 1) * s.width)
    took_in_range =
        let now : k * s.width + s.width ≡ (k + 1) * s.width = grind arith in
        subst (AreInRange s (arrived.took ++ got)) now (in_range-more s k s.width arrived.took got arrived.whole arrived.in_range in_range)

    pub row_arrives : {r : Outside} (new : Work) → TakesRow s k m r mid new → HasArrived s (k + 1) p r new
    row_arrives {r = r} new takes =
        let goes = takes.goes (image_of s (arrived.took ++ got)) (follows (image_of s (arrived.took ++ got)) itself)
        (row_is (image_of s (arrived.took ++ got)) itself) in
        let gave : settled_octets s arrived.took k ++ goes.gave ≡ joined (leading_packets s (tallest s) (image_of s (arrived.took ++ got)) new.at.index) =
        ap (λ g. g ++ goes.gave) (gave_same (tallest s) (image_of s (arrived.took ++ got)) (tall_height s range) (omega (arith, less)) itself)
        ∙ goes.then_are in
        let back : (k + 1) - 1 ≡ k = omega arith in
        record {
          took = arrived.took ++ got;
          whole = took_whole;
          in_range = took_in_range;
          valid = record { taken = takes.taken; follows = λ y same. takes.follows y (follows y same) (row_is y same) };
          last = λ some. record {
            in_range = record {
              each = λ column lt. subst (IsPixel s.depth s.signed) (sym (takes.row.at column lt))
                  ((row_values s got mid.row.items in_range holds).each column lt);
            };
            same = record {
              at = λ j lt. takes.row.at j lt ∙ (row_is (image_of s (arrived.took ++ got)) itself).at j lt ∙
                  ap (λ n. image_of s (arrived.took ++ got) n j) (sym back);
            };
          };
          since = subst (λ g. Exchange p r (arrived.took ++ got) g [] (GivenBy (given_for s) (arrived.took ++ got))) gave
              (since_out (part_taken got read) goes.out);
          asks = subst (λ g. Exchange p r (arrived.took ++ got) g [] (AsksInRange s (arrived.took ++ got))) gave (since_out (part_asks got read) goes.out);
        }

    pub row_breaks_off : {r : Outside} (new : Work) → BreaksAt s k m r mid new → EncodesImage s p r (Err encode_faults.WriteFault)
    row_breaks_off {r = r} new breaks =
        let rises = settled_rises (reports_last s) (sized s (tallest s)) k (k + 1) (omega arith) (omega (arith, less)) in
        let here = mid_index in
        let settled_now : mid.at.index ≤ settled_in s (tallest s) (k + 1) = omega (arith, here, rises) in
        broke_off s (arrived.took ++ got) (settled_octets s arrived.took k) (k + 1) mid.at.index (part_taken got read) (part_asks got read)
        (record { whole = took_whole; most = omega (arith, less); in_range = all_whole s (k + 1) (arrived.took ++ got) took_whole took_in_range })
        breaks.rose
        (prefix_out s range (k + 1) mid.at.index (omega (arith, less)) settled_now (image_of s (arrived.took ++ got))
        (λ y h. breaks.breaks y (follows y h) (row_is y h)))
        gave_same
