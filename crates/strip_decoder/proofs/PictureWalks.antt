-- What a walk with a picture gives.
use Rattle.std.proofs.Common.{◌≡◌, ◌≤◌, ◌<◌, ◌+◌, ◌-◌, ◌*◌, ◌/◌, ◌==◌, ℕ, ℤ, pos, List, [], ◌++◌, take, get_or, refl, sym, ap, subst, ◌∙◌, inl, inr, arith}
use Rattle.std.proofs.Common.{Bool, true, false, if◌then◌else◌, min, Option, None, Some, Result, Ok, Err, MatchResult, unwrap_or, ne_eqb}
use Rattle.std.proofs.lemmas.Bool.Decides.{nat_tests}
use Rattle.std.proofs.lemmas.Nat.{div_below, div-mul-add}
use Rattle.port_122.specs.Outside.{Outside}
use Rattle.port_122.proofs.Stretches.{since_weaker}
use Rattle.base_122.specs.Sizes.{block_count}
use Rattle.base_122.specs.declared.geometry.Geometry.{Geometry}
use Rattle.base_122.specs.declared.wish.DecodeWish.{DecodeWish}
use Rattle.base_122.proofs.SizeBounds.{three-le-block_count}
use Rattle.packet_defs.specs.Streams.{whole_packets}
use Rattle.raster_rows.specs.Pixels.{raster_octets}
use Rattle.stream_defs.specs.declared.fate.FateState.{FateState}
use Rattle.stream_defs.specs.declared.fate.LastPart.{LastPart}
use Rattle.stream_defs.specs.Agreement.{blocks_of}
use Rattle.stream_defs.specs.Begun.{begun_in, end_of, height, placed, placed_rows}
use Rattle.stream_defs.specs.Fates.{geometry_in, kept_in, state_after}
use Rattle.stream_defs.specs.Picture.{number_at, picture_octets, picture_of, picture_with, whole_with}
use Rattle.stream_defs.specs.Settled.{ready, rows_through, block_rows_before}
use Rattle.stream_defs.proofs.HeightPictures.{placed_octets}
use Rattle.stream_defs.proofs.PlacedLaws.{is_not_open, blocks_known, blocks_open, placed_known, placed_open, placed_same}
use Rattle.stream_defs.proofs.SettledLaws.{rows_rise}
use Rattle.packet_assembly.proofs.Images.{end_room, image_wide}
use Rattle.picture_rows.specs.declared.picture.Picture.{Picture}
use Rattle.picture_rows.specs.declared.picture.PictureAt.{PictureAt}
use Rattle.picture_rows.specs.Prefixes.{rows_of}
use Rattle.picture_rows.specs.Pictures.{picture_state, IsPictureFresh}
use Rattle.picture_rows.specs.Steps.{HasHeight, HasNextNumbers, PassesBlock}
use Rattle.picture_rows.proofs.RowsOut.{prefix_within, no_rows, rows_through-most, rows_through-rises}
use Rattle.segment_defs.specs.TextWish.{TextWish, text_wish}
use Rattle.strip_decoder.specs.declared.engine.Walked.{Walked}
use Rattle.strip_decoder.specs.declared.ending.DecodeFault.{DecodeFault}
use Rattle.strip_decoder.specs.declared.ending.DecodeFault.TheVariants.{ReadFault, WriteFault, NoSegment, TooManyPixels, LongInput, Memory}
use Rattle.strip_decoder.specs.Sinks.{Numbers, Blocks, Begins, Takes, Fails, EndsImage, blocks_with, numbers_in}
use Rattle.strip_decoder.specs.Runs.{AsksPassed, PassedBy, PartBy, blocks_passed, settled_blocks}
use Rattle.strip_decoder.specs.Walks.{IsWalked, WalkAnswers, Walks, run_of}
use Rattle.strip_decoder.specs.Answers.{PromptBy, PrefixBy, Asks, Answers, Decodes}
use Rattle.strip_decoder.specs.WalkAnswers.{IsPicture}
use Rattle.strip_decoder.specs.declared.pictures.PictureSink.{PictureSink}
use Rattle.strip_decoder.specs.PictureSinks.{IsValidAt, ShowsBlocks, GivesRows, picture_sink, rows_given}
use Rattle.strip_decoder.proofs.Endings.{found_as, height_open, height_known, passed_open, passed_known}
use Rattle.strip_decoder.proofs.Staying.{known_or_not}
use Rattle.strip_decoder.specs.declared.ending.DecodeDone.{DecodeDone}
use Rattle.strip_decoder.proofs.Showing.{numbers_same}

-- ---- a block

-- the next block has its numbers
next_is : (p : Picture) (v : Option (List ℤ)) (g : Geometry) (n : ℕ) → IsValidAt p g n → (blocks : Blocks) (before : List ℕ) →
    ShowsBlocks p g blocks n before → blocks n ≡ v → HasNextNumbers (unwrap_or v []) (picture_state p) (numbers_in blocks)
next_is p v g n at blocks before f is = record {
  valid = f.valid;
  next = λ i small. ap (λ m. numbers_in blocks m i) at.passed ∙ ap (λ o. get_or (unwrap_or o []) i (pos 0)) is;
}

-- it was taken
pub picture_takes : {T E : Type 0} (r : Result T E) (s t : PictureSink) (v : Option (List ℤ)) (a b : Outside) →
    PassesBlock r (HasNextNumbers (unwrap_or v []) (picture_state s.picture)) a b (picture_state s.picture) (picture_state t.picture) →
    (g : Geometry) (n : ℕ) → IsValidAt s.picture g n →
    MatchResult r (λ x. Takes picture_sink g n v a b s t) (λ x. Fails picture_sink g n v a b s)
picture_takes (Ok x) s t v a b passed g n at = record {
  gave = passed.goes.gave;
  out = passed.goes.out;
  valid = record { current = passed.current; geometry = passed.geometry ∙ at.geometry; passed = passed.count ∙ ap (λ m. m + 1) at.passed };
  follows = λ blocks before f is.
      let next = next_is s.picture v g n at blocks before f is in
      record {
        valid = passed.goes.follows (numbers_in blocks) next;
        gave_is = ap (λ zs. zs ++ passed.goes.gave) f.gave_is
            ∙ subst (λ g. rows_of g (numbers_in blocks) s.picture.at.next ++ passed.goes.gave ≡ rows_of g (numbers_in blocks) t.picture.at.next) at.geometry
            (passed.goes.given (numbers_in blocks) next);
      };
}
picture_takes (Err e) s t v a b broken g n at = record {
  gave = broken.gave;
  out = broken.out;
  rose = broken.rose;
  part = λ blocks before f is.
      let there = broken.given (numbers_in blocks) (next_is s.picture v g n at blocks before f is) in
      record {
        some = there.0;
        gave_is = ap (λ zs. zs ++ broken.gave) f.gave_is
            ∙ subst (λ (g : Geometry). rows_of g (numbers_in blocks) s.picture.at.next ++ broken.gave ≡ take there.0
            (rows_of g (numbers_in blocks) (rows_through g (block_rows_before g (n + 1))))) at.geometry
            (there.1 ∙ ap (λ m. take there.0 (rows_of s.picture.geometry (numbers_in blocks)
            (rows_through s.picture.geometry (block_rows_before s.picture.geometry (m + 1))))) at.passed);
      };
}

-- a picture that begins
pub picture_begins : (s : PictureSink) (g : Geometry) → IsPictureFresh g (picture_state s.picture) → Begins picture_sink g s
picture_begins s g fresh = record {
  valid = record {
    current = fresh.current;
    geometry = fresh.geometry;
    passed = ap (λ n. n * block_count s.picture.geometry.width + s.picture.at.column) fresh.row ∙ ap (λ n. 0 * block_count s.picture.geometry.width + n)
        fresh.column ∙ omega arith;
  };
  follows = λ blocks. record { valid = fresh.valid (numbers_in blocks); gave_is = no_rows g (numbers_in blocks) s.picture.at.next fresh.next };
}

-- a picture whose height becomes known
pub picture_ends : (s t : PictureSink) (h : Geometry) → HasHeight h.rows (picture_state s.picture) (picture_state t.picture) → EndsImage picture_sink h s t
picture_ends s t h ended g n at ends =
    let rows : record s.picture.geometry { rows = h.rows } ≡ h = (λ i. record (at.geometry i) { rows = h.rows }) ∙ sym ends.same in
    let geometry : t.picture.geometry ≡ h = ended.geometry ∙ rows in
    let width : block_count t.picture.geometry.width ≡ block_count s.picture.geometry.width = ap (λ (g : Geometry). block_count g.width) ended.geometry in
    record {
      valid = record {
        current = ended.current;
        geometry = geometry;
        passed = ap (λ (a : PictureAt). a.row * block_count t.picture.geometry.width + a.column) ended.at
            ∙ ap (λ m. s.picture.at.row * m + s.picture.at.column) width ∙ at.passed;
      };
      follows = λ blocks gave f. record {
        valid = ended.follows (numbers_in blocks) f.valid;
        gave_is = f.gave_is ∙ ap (λ g. rows_of g (numbers_in blocks) s.picture.at.next) (sym at.geometry) ∙ sym (ended.given (numbers_in blocks))
            ∙ ap (λ g. rows_of g (numbers_in blocks) t.picture.at.next) geometry;
      };
    }

-- ---- what is given

-- the rows that may be given are those of the settled blocks
ready_settled : (s : FateState) (received : Numbers) (g : Geometry) → s.geometry ≡ Some g → (rows : ℕ) →
    rows_through g (block_rows_before g (settled_blocks s received)) ≤ rows → ready s received ≤ rows
ready_settled s received g geometry rows le = by s.last refl
  where
    state : (o : Option LastPart) → s.last ≡ o → s ≡ record { geometry = Some g; reported_last = s.reported_last; last = o }
    state o e = λ i. record { geometry = geometry i; reported_last = s.reported_last; last = e i }

    by : (o : Option LastPart) → s.last ≡ o → ready s received ≤ rows
    by None e = subst (λ n. n ≤ rows) (sym (ap (λ s. ready s received) (state None e))) (omega arith)
    by (Some l) e =
        subst (λ s. ready s received ≤ rows) (sym (state (Some l) e)) (subst (λ s. rows_through g (block_rows_before g (settled_blocks s received)) ≤ rows)
        (state (Some l) e) le)

module _ (apid : ℕ) (taken : List ℕ) (g : Geometry) (geometry : geometry_in apid taken ≡ Some g) where
  abbrev b : ℕ
  b = begun_in apid taken

  abbrev ended : ℕ
  ended = end_of (kept_in apid taken)

  abbrev c : ℕ
  c = block_count g.width

  wide : 3 ≤ c
  wide = three-le-block_count g.width (image_wide apid (whole_packets taken) g geometry)

  begun_is : b ≡ ended / c
  begun_is = rw geometry refl

  -- the block rows that the kept heads reach while the height isn't known
  begun_few : g.rows ≡ 0 → b < 32768
  begun_few none =
      let room = end_room apid (whole_packets taken) g geometry none in
      let low : ended / c < 32768 = div_below ended c 32768 (omega (arith, wide)) (omega (arith, room, blocks_open g none)) in
      omega (arith, low, begun_is)

  height_few : height g b ≤ placed_rows g
  height_few = elim (known_or_not g.rows) [
    | inl none ↦ let few = begun_few none in omega (arith, height_open g b none, placed_open g none, few)
    | inr some ↦ omega (arith, height_known g b some, placed_known g some)
  ]

  pub shown_rows : (numbers : ℕ → ℕ → ℤ) (k : ℕ) → k ≤ height g b → rows_of (placed g) numbers k ≡ raster_octets g.depth k g.width (picture_with g numbers b)
  unfolding rows_of
  shown_rows numbers k le =
      let few = height_few in
      let all : min k (placed_rows g) ≡ k = omega (arith, le, few) in
      ap (λ m. raster_octets g.depth m g.width (whole_with (placed g) numbers)) all ∙ (elim (known_or_not g.rows) [
        | inl none ↦
            let low = begun_few none in
            let most : block_count (placed_rows g) ≡ 32768 = ap block_count (placed_open g none) in
            placed_octets g numbers none (omega (arith, wide)) b k (omega (arith, le, height_open g b none)) (omega (arith, low, most))
        | inr some ↦
            ap (λ g'. raster_octets g.depth k g.width (whole_with g' numbers)) (placed_same g some)
            ∙ ap (λ t. raster_octets g.depth k g.width (picture_of g numbers (if t then b + 3 else block_count g.rows))) (sym (is_not_open g.rows some))
      ])

  -- rows that whole block rows determine before the last one
  through_open : (s : ℕ) → g.rows ≡ 0 → s < 32768 → rows_through (placed g) s ≡ 8 * s - 21
  through_open s none lt = ap (λ t. if t then placed_rows g else 8 * s - 21)
      (ne_eqb s (block_count (placed_rows g)) (λ e. omega (arith, e, lt, ap block_count (placed_open g none))))

  -- the rows that some blocks determine
  pub rows_within : (n : ℕ) → n ≤ blocks_passed g ended → rows_through (placed g) (block_rows_before (placed g) n) ≤ height g b
  rows_within n le = elim (known_or_not g.rows) [
    | inl none ↦
        let rise : n / c ≤ ended / c = rows_rise n ended c (omega (arith, wide)) (omega (arith, le, passed_open g ended none)) in
        let low = begun_few none in
        let through = through_open (n / c) none (omega (arith, rise, low, begun_is)) in
        omega (arith, through, rise, begun_is, height_open g b none)
    | inr some ↦
        let most = rows_through-most (placed g) n (omega (arith, wide)) (omega (arith, le, passed_known g ended some, blocks_known g some)) in
        omega (arith, most, height_known g b some, placed_known g some)
  ]

  -- after all blocks they are all rows
  pub all_through : rows_through (placed g) (block_rows_before (placed g) (blocks_passed g ended)) ≡ height g b
  all_through = elim (known_or_not g.rows) [
    | inl none ↦
        let low = begun_few none in
        ap (λ n. rows_through (placed g) (n / c)) (passed_open g ended none) ∙ through_open (ended / c) none (omega (arith, low, begun_is))
        ∙ ap (λ n. 8 * n - 21) (sym begun_is) ∙ sym (height_open g b none)
    | inr some ↦
        let turned : c * block_count g.rows ≡ block_count g.rows * c + 0 = grind arith in
        let last : blocks_of g / c ≡ block_count g.rows = ap (λ n. n / c) turned ∙ div-mul-add (block_count g.rows) c 0 (omega (arith, wide)) in
        ap (λ n. rows_through (placed g) (n / c)) (passed_known g ended some) ∙ ap (λ h. rows_through h (blocks_of g / c)) (placed_same g some)
        ∙ ap (rows_through g) last ∙ through_all ∙ sym (height_known g b some)
  ]
    where
      through_all : rows_through g (block_count g.rows) ≡ g.rows
      through_all = let e : (block_count g.rows == block_count g.rows) ≡ true = grind (arith, nat_tests) in rw e refl

  -- the rows that may be given are no more than those of the blocks that were passed
  pub ready_within : (received : Numbers) (n : ℕ) → settled_blocks (state_after apid taken) received ≤ n → n ≤ blocks_passed g ended →
      ready (state_after apid taken) received ≤ rows_through (placed g) (block_rows_before (placed g) n)
  ready_within received n settled le =
      let m : ℕ = settled_blocks (state_after apid taken) received in
      ready_settled (state_after apid taken) received g geometry (rows_through (placed g) (block_rows_before (placed g) n)) (elim (known_or_not g.rows) [
        | inl none ↦
            let rise : m / c ≤ n / c = rows_rise m n c (omega (arith, wide)) settled in
            let top : n / c ≤ ended / c = rows_rise n ended c (omega (arith, wide)) (omega (arith, le, passed_open g ended none)) in
            let low = begun_few none in
            open_rows (m / c) (n / c) none rise (omega (arith, top, low, begun_is))
        | inr some ↦
            subst (λ h. rows_through g (block_rows_before g m) ≤ rows_through h (block_rows_before h n)) (sym (placed_same g some))
            (rows_through-rises g m n (omega (arith, wide)) settled (omega (arith, le, passed_known g ended some)))
      ])
    where
      open_rows : (r s : ℕ) → g.rows ≡ 0 → r ≤ s → s < 32768 → rows_through g r ≤ rows_through (placed g) s
      open_rows r s none le lt = by (r == block_count g.rows) refl (through_open s none lt)
        where
          by : (t : Bool) → (r == block_count g.rows) ≡ t → rows_through (placed g) s ≡ 8 * s - 21 →
              (if t then g.rows else 8 * r - 21) ≤ rows_through (placed g) s
          by true e through = omega (arith, none)
          by false e through = omega (arith, through, le)

prompt_by : (texts : TextWish) (apid : ℕ) (taken given : List ℕ) → PassedBy picture_sink texts apid taken given → PromptBy texts apid taken given
prompt_by texts apid taken given passed = record {
  none = passed.none;
  some = λ g received there are.
      let x = passed.some g received there are in
      let k : ℕ = rows_through (placed g) (block_rows_before (placed g) x.0) in
      let within = rows_within apid taken g there x.0 x.1 in (
        k,
        within,
        ready_within apid taken g there received x.0 x.2 x.1,
        x.3 ∙ ap (λ numbers. rows_of (placed g) numbers k) (numbers_same g received) ∙ shown_rows apid taken g there (number_at g received) k within,
      );
}

pub prefix_by : (texts : TextWish) (apid : ℕ) (taken given : List ℕ) → PartBy picture_sink texts apid taken given → PrefixBy texts apid taken given
prefix_by texts apid taken given part = record {
  none = part.none;
  some = λ g received there are.
      let x = part.some g received there are in
      let within = rows_within apid taken g there x.0 x.1 in
      let numbers = number_at g received in
      let prefix = prefix_within (placed g) numbers (rows_through (placed g) (block_rows_before (placed g) x.0)) (height g (begun_in apid taken)) x.2.some
      within in (
        prefix.0,
        x.2.gave_is ∙ ap (λ numbers. take x.2.some (rows_of (placed g) numbers (rows_through (placed g) (block_rows_before (placed g) x.0))))
            (numbers_same g received) ∙ prefix.1
            ∙ ap (take prefix.0) (shown_rows apid taken g there numbers (height g (begun_in apid taken)) (omega arith)),
      );
}

asks_by : (wish : DecodeWish) (old : Outside) (took gave : List ℕ) (i j : ℕ) → AsksPassed picture_sink (run_of wish old) took gave i j →
    Asks wish old took gave i j
asks_by wish old took gave i j asks = (asks.0, asks.1, λ all if_known. prompt_by (text_wish wish) wish.apid (take i took) (take j gave) (asks.2 all if_known))

-- ---- the answers

-- after all blocks all rows are given
whole_rows : (apid : ℕ) (taken : List ℕ) (g : Geometry) (received : Numbers) (gave : List ℕ) → geometry_in apid taken ≡ Some g →
    GivesRows (placed g) (blocks_with g received) (blocks_passed g (end_of (kept_in apid taken))) gave → gave ≡ picture_octets g received (begun_in apid taken)
whole_rows apid taken g received gave there given =
    let k : ℕ = rows_through (placed g) (block_rows_before (placed g) (blocks_passed g (end_of (kept_in apid taken)))) in
    given ∙ ap (λ numbers. rows_of (placed g) numbers k) (numbers_same g received)
    ∙ ap (rows_of (placed g) (number_at g received)) (all_through apid taken g there)
    ∙ shown_rows apid taken g there (number_at g received) (height g (begun_in apid taken)) (omega arith)

is_picture : (wish : DecodeWish) (old new : Outside) (took gave : List ℕ) (walked : Walked PictureSink) →
    IsWalked picture_sink wish old new took gave walked → IsPicture wish old new took gave walked.done
is_picture wish old new took gave walked x = found_as true wish wish.restore gave x x.out (λ received follows.
    let g = walked.done.geometry in
    let n : ℕ = blocks_passed g (end_of (kept_in wish.apid took)) in
    whole_rows wish.apid took g received gave x.geometry (rows_given walked.sink.picture (placed g) (blocks_with g received) n gave x.valid follows))

-- what it took and gave, and when
given_so : (wish : DecodeWish) (old new : Outside) (r : Result (Walked PictureSink) DecodeFault) (result : Result DecodeDone DecodeFault) →
    (x : Walks picture_sink wish old new r) → Answers wish old new x.took x.gave result → Decodes wish old new result
given_so wish old new r result x answer = record {
  took = x.took;
  gave = x.gave;
  since = since_weaker x.since (λ i j le asks. asks_by wish old x.took x.gave i j asks);
  within = x.within;
  answer = answer;
}

-- a walk with a picture ended without a fault
pub decodes : (wish : DecodeWish) (old new : Outside) (walked : Walked PictureSink) → Walks picture_sink wish old new (Ok walked) →
    Decodes wish old new (Ok walked.done)
decodes wish old new walked x = given_so wish old new (Ok walked) (Ok walked.done) x (is_picture wish old new x.took x.gave walked x.answer)

-- a fault ended it
pub decode_fails : (wish : DecodeWish) (old new : Outside) (fault : DecodeFault) → Walks picture_sink wish old new (Err fault) →
    Decodes wish old new (Err fault)
decode_fails wish old new fault x = given_so wish old new (Err fault) (Err fault) x (by fault x.answer)
  where
    prefix : ((all : List ℕ) → old.rest ≡ Some all → PartBy picture_sink (text_wish wish) wish.apid x.took x.gave) → (all : List ℕ) → old.rest ≡ Some all →
        PrefixBy (text_wish wish) wish.apid x.took x.gave
    prefix part all if_known = prefix_by (text_wish wish) wish.apid x.took x.gave (part all if_known)

    by : (fault : DecodeFault) → WalkAnswers picture_sink wish old new x.took x.gave (Err fault) → Answers wish old new x.took x.gave (Err fault)
    by ReadFault a = (a.0, prefix a.1)
    by WriteFault a = (a.0, a.1, prefix a.2)
    by LongInput a = (a.0, a.1, a.2, prefix a.3)
    by NoSegment a = a
    by (TooManyPixels pixels) a = (a.0, prefix a.1)
    by Memory a = a
