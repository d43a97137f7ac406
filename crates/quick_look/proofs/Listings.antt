-- How a search for rectangles ends.
use Rattle.std.proofs.Common.{◌≡◌, ◌≤◌, ◌<◌, ◌+◌, ◌-◌, ◌*◌, ◌/◌, ◌%◌, ℕ, ℤ, List, [], take, refl, sym, ap, subst, ◌∙◌, inl, inr, arith, Bool, not}
use Rattle.std.proofs.Common.{if◌then◌else◌, All, Option, None, Some, is_some, slice_index_or, Result, Ok, Err, IsOk, IsErr, false, flat_map, option_map}
use Rattle.std.proofs.lemmas.Bool.{false≢true}
use Rattle.std.proofs.lemmas.Nat.{le-div}
use Rattle.std.proofs.Math.Nat.{div-le_of_le-mul, div-mul-le_self, mul-le-mul_right}
use Rattle.port_122.specs.Outside.{Outside, Exchange, NoRead, WritesAll}
use Rattle.port_122.proofs.Stretches.{since_out, rose_since}
use Rattle.base_122.specs.Sizes.{block_count}
use Rattle.base_122.specs.declared.geometry.Geometry.{Geometry}
use Rattle.base_122.specs.declared.wish.DecodeWish.{DecodeWish}
use Rattle.base_122.proofs.SizeBounds.{block_count-rows}
use Rattle.stream_defs.specs.Agreement.{blocks_of}
use Rattle.stream_defs.specs.Begun.{begun_in, block_rows, end_of, height, placed, placed_rows}
use Rattle.stream_defs.specs.Fates.{kept_in}
use Rattle.stream_defs.proofs.PlacedLaws.{is_open, is_not_open, within_not}
use Rattle.packet_assembly.proofs.Readings.{out_later}
use Rattle.quick_look.specs.declared.gap.Gap.{Gap}
use Rattle.quick_look.specs.Gaps.{AreGaps, gap_rects, lost_below}
use Rattle.quick_look.specs.RectLines.{rect_lines}
use Rattle.quick_look.specs.Rects.{is_lost, rects}
use Rattle.quick_look.proofs.GapRects.{gaps_give}
use Rattle.quick_look.proofs.SameLost.{rects_same}
use Rattle.strip_decoder.specs.declared.engine.Walked.{Walked}
use Rattle.strip_decoder.specs.declared.ending.DecodeFault.{DecodeFault}
use Rattle.strip_decoder.specs.declared.ending.DecodeFault.TheVariants.{ReadFault, WriteFault, NoSegment, TooManyPixels, LongInput, Memory}
use Rattle.strip_decoder.specs.Runs.{Numbers, blocks_passed}
use Rattle.strip_decoder.specs.Sinks.{blocks_with}
use Rattle.strip_decoder.specs.Walks.{IsWalked, WalkAnswers, Walks}
use Rattle.strip_decoder.proofs.Endings.{as_they_are, found_as, silent_since, height_open, height_known, passed_open, passed_known}
use Rattle.quick_look.specs.declared.gaps.Gaps.{Gaps}
use Rattle.quick_look.specs.GapSinks.{HasKept, HasOpen, gap_sink, lost_in}
use Rattle.quick_look.specs.Listing.{AreLines, ListsRects, RectAnswers}
use Rattle.quick_look.specs.Sizes.{IsSize, IsWithinImage}
use Rattle.quick_look.proofs.Keeping.{gaps_within, open_below}

-- ---- the gaps of what was received

module _ (wish : DecodeWish) (old mid : Outside) (took gave : List ℕ) (walked : Walked Gaps) (x : IsWalked gap_sink wish old mid took gave walked) where
  abbrev g : Geometry
  g = walked.done.geometry

  abbrev c : ℕ
  c = block_count g.width

  abbrev ended : ℕ
  ended = end_of (kept_in wish.apid took)

  abbrev n : ℕ
  n = begun_in wish.apid took

  abbrev passed : ℕ
  passed = blocks_passed g ended

  abbrev AreAllGaps : List Gap → Type 0
  AreAllGaps gaps = (lost : ℕ → Bool) → HasKept walked.sink lost walked.sink.passed →
      AreGaps (lost_below walked.sink.passed lost) 0 gaps (walked.sink.passed + 1)

  some : 0 < g.width
  some = let least = x.range.width.0 in omega (arith, least)

  wide : 0 < c
  wide = let e = some in omega (arith, e)

  begun_is : n ≡ ended / c
  begun_is = rw x.geometry refl

  rows_open : g.rows ≡ 0 → block_rows g n ≡ n
  rows_open none = ap (λ t. if t then n else block_count g.rows) (is_open g.rows none)

  rows_known : (g.rows ≡ 0 → ⊥) → block_rows g n ≡ block_count g.rows
  rows_known known = ap (λ t. if t then n else block_count g.rows) (is_not_open g.rows known)

  -- the blocks of whole block rows were passed
  whole_passed : block_rows g n * c ≤ passed
  whole_passed = elim x.range.rows [
    | inl none ↦
        let whole = div-mul-le_self ended c in
        omega (arith, whole, passed_open g ended none, ap (λ m. m * c) (rows_open none), ap (λ m. m * c) begun_is)
    | inr within ↦
        let known = within_not g.rows within in
        let turned : blocks_of g ≡ block_count g.rows * c = grind arith in
        omega (arith, turned, passed_known g ended known, ap (λ m. m * c) (rows_known known))
  ]

  -- those after them don't reach a row that is given
  unseen : (block : ℕ) → block_rows g n * c ≤ block → block < passed → height g n ≤ 8 * (block / c) - 21
  unseen block low high = elim x.range.rows [
    | inl none ↦
        let at : n ≤ block / c = le-div n block c wide (omega (arith, low, ap (λ m. m * c) (rows_open none))) in
        omega (arith, at, height_open g n none)
    | inr within ↦
        let known = within_not g.rows within in
        let turned : blocks_of g ≡ block_count g.rows * c = grind arith in
        absurd (omega (arith, turned, low, high, passed_known g ended known, ap (λ m. m * c) (rows_known known)))
  ]

  lost_same : (received : Numbers) (block : ℕ) → lost_in (blocks_with g received) block ≡ is_lost g received block
  lost_same received block = by (received (block / g.segment))
    where
      by : (o : Option (List (List ℤ))) → not (is_some (option_map (λ numbers. slice_index_or numbers (block % g.segment) []) o)) ≡ not (is_some o)
      by None = refl
      by (Some v) = refl

  pub rects_are : (received : Numbers) (gaps : List Gap) → AreAllGaps gaps → HasKept walked.sink (lost_in (blocks_with g received)) passed →
      flat_map (gap_rects walked.done.written g.width) gaps ≡ rects g received n
  rects_are received gaps are kept =
      let lost = lost_in (blocks_with g received) in
      let count : walked.sink.passed ≡ passed = x.valid.passed in
      let all : AreGaps (lost_below passed lost) 0 gaps (passed + 1) =
      subst (λ m. AreGaps (lost_below m lost) 0 gaps (m + 1)) count (are lost (subst (HasKept walked.sink lost) (sym count) kept)) in
      ap (λ rows. flat_map (gap_rects rows g.width) gaps) x.written
      ∙ gaps_give (height g n) g.width (block_rows g n) passed lost gaps some whole_passed unseen all
      ∙ rects_same (height g n) g.width (block_rows g n) lost (is_lost g received) some (λ block lt. lost_same received block)

  -- ---- what the lines ask for

  placed_few : passed ≤ 32768 * c
  placed_few =
      let few = x.valid.few in
      let tall = block_count-rows (placed_rows g) x.valid.height in
      let most : block_count (placed_rows g) * c ≤ 32768 * c = mul-le-mul_right c (omega (arith, tall)) in
      let turned : blocks_of (placed g) ≡ block_count (placed_rows g) * c = grind arith in
      omega (arith, few, most, turned)

  pub is_size : IsSize (record { rows = walked.done.written; width = g.width })
  is_size = record {
    rows = elim x.range.rows [
      | inl none ↦
          let few = placed_few in
          let turned : 32768 * c ≡ c * 32768 = grind arith in
          let low : ended / c ≤ 32768 = div-le_of_le-mul c (omega (arith, few, passed_open g ended none, turned)) in
          let written = x.written in
          omega (arith, low, begun_is, written, height_open g n none)
      | inr within ↦
          let most = within.1 in
          let written = x.written in
          omega (arith, most, written, height_known g n (within_not g.rows within))
    ];
    width = x.range.width;
  }

  pub all_within : (gaps : List Gap) → AreAllGaps gaps → All (IsWithinImage g.width) gaps
  all_within gaps are =
      let count : walked.sink.passed ≡ passed = x.valid.passed in
      let few = placed_few in
      gaps_within (lost_below walked.sink.passed x.valid.lost) g.width 0 gaps (walked.sink.passed + 1) (omega (arith, count, few))
      (are x.valid.lost (subst (HasKept walked.sink x.valid.lost) (sym count) x.valid.kept))

  pub has_open : HasOpen walked.sink
  has_open refused first is =
      let count : walked.sink.passed ≡ passed = x.valid.passed in
      let below = open_below x.valid.lost walked.sink.ended.items walked.sink.open_from passed (x.valid.kept refused) first is in
      omega (arith, count, below)

-- ---- the answers

-- a fault ended it
pub list_fails : (wish : DecodeWish) (old new : Outside) (fault : DecodeFault) → Walks gap_sink (as_they_are wish) old new (Err fault) →
    ListsRects wish old new (Err fault)
list_fails wish old new fault x = record {
  took = x.took;
  gave = [];
  since = silent_since (as_they_are wish) old new (Err fault) x (λ some. some.part);
  within =
      x.within;
  answer = by fault x.answer;
}
  where
    by : (fault : DecodeFault) → WalkAnswers gap_sink (as_they_are wish) old new x.took x.gave (Err fault) → RectAnswers wish old new x.took [] (Err fault)
    by ReadFault a = (a.0, refl)
    by WriteFault a = (a.0, a.1, inl refl)
    by NoSegment a = (a.0, a.1, refl)
    by (TooManyPixels pixels) a = (record { many = a.0.many; nothing = λ known. refl }, refl)
    by LongInput a = (a.0, a.1, a.2, refl)
    by Memory a = refl

-- memory for the gaps was refused
pub list_refused : (wish : DecodeWish) (old new : Outside) (walked : Walked Gaps) → Walks gap_sink (as_they_are wish) old new (Ok walked) →
    ListsRects wish old new (Err Memory)
list_refused wish old new walked x = record {
  took = x.took;
  gave = [];
  since = silent_since (as_they_are wish) old new (Ok walked) x (λ some. some.part);
  within =
      x.within;
  answer = refl;
}

abbrev pub AllGaps : Walked Gaps → List Gap → Type 0
AllGaps walked gaps = (lost : ℕ → Bool) → HasKept walked.sink lost walked.sink.passed →
    AreGaps (lost_below walked.sink.passed lost) 0 gaps (walked.sink.passed + 1)

abbrev pub lines_of : Walked Gaps → List Gap → List ℕ
lines_of walked gaps = rect_lines (flat_map (gap_rects walked.done.written walked.done.geometry.width) gaps)

-- what was found remains true after the lines
found_later : {g : List ℕ} (wish : DecodeWish) (old mid new : Outside) (took gave : List ℕ) (walked : Walked Gaps) (gaps : List Gap) →
    IsWalked gap_sink (as_they_are wish) old mid took gave walked → AllGaps walked gaps → Exchange mid new [] g [] NoRead →
    AreLines wish old new took (lines_of walked gaps) walked.done
found_later wish old mid new took gave walked gaps found are out = record {
  found = found_as false wish false [] found (out_later wish.octets mid new took out found.out) (λ received follows. refl);
  if_known = λ all if_known. let t = found.if_known all if_known in
      (t.0, t.1, ap rect_lines (rects_are (as_they_are wish) old mid took gave walked found t.0 gaps are t.2.kept));
}

-- all lines were given
pub list_done : {T E : Type 0} (wish : DecodeWish) (old mid new : Outside) (walked : Walked Gaps) (gaps : List Gap) (r : Result T E) → IsOk r →
    Walks gap_sink (as_they_are wish) old mid (Ok walked) → AllGaps walked gaps → WritesAll r mid new (lines_of walked gaps) →
    ListsRects wish old new (Ok walked.done)
list_done wish old mid new walked gaps (Err e) is x are out = absurd (false≢true is)
list_done wish old mid new walked gaps (Ok y) is x are out = record {
  took = x.took;
  gave = lines_of walked gaps;
  since = since_out (silent_since (as_they_are wish) old mid (Ok walked) x (λ some. some.part)) out;
  within = x.within;
  answer = found_later wish old mid new x.took x.gave walked gaps x.answer are out;
}

-- or some of them
pub list_cut : {T E : Type 0} (wish : DecodeWish) (old mid new : Outside) (walked : Walked Gaps) (gaps : List Gap) (r : Result T E) → IsErr r →
    Walks gap_sink (as_they_are wish) old mid (Ok walked) → AllGaps walked gaps → WritesAll r mid new (lines_of walked gaps) →
    ListsRects wish old new (Err WriteFault)
list_cut wish old mid new walked gaps (Ok y) is x are out = absurd (false≢true is)
list_cut wish old mid new walked gaps (Err e) is x are out =
    let n = out.1.0 in
    let since = out.1.2 in
    record {
      took = x.took;
      gave = take n (lines_of walked gaps);
      since = since_out (silent_since (as_they_are wish) old mid (Ok walked) x (λ some. some.part)) since;
      within = x.within;
      answer = (
        rose_since x.since.faults.writes out.0,
        λ known. x.answer.few,
        inr record {
          done = walked.done;
          lines = lines_of walked gaps;
          are = found_later wish old mid new x.took x.gave walked gaps x.answer are since;
          some = n;
          gave_is = refl;
        },
      );
    }
