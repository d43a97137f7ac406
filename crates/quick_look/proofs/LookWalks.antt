-- What a walk with a row of a look gives.
use Rattle.std.proofs.Common.{◌≡◌, ◌≤◌, ◌<◌, ◌+◌, ◌-◌, ◌*◌, ◌/◌, ℕ, List, ◌++◌, length, take, refl, sym, ap, subst, ◌∙◌, inl, inr, arith, [], if◌then◌else◌}
use Rattle.std.proofs.Common.{min, Some, Result, Ok, Err, false}
use Rattle.std.proofs.lemmas.List.{take-append-le, take_min}
use Rattle.std.proofs.lemmas.Nat.{div-mul-add}
use Rattle.port_122.specs.Outside.{Outside}
use Rattle.port_122.proofs.Stretches.{since_weaker}
use Rattle.base_122.specs.Sizes.{block_count}
use Rattle.base_122.specs.declared.geometry.Geometry.{Geometry}
use Rattle.base_122.specs.declared.wish.DecodeWish.{DecodeWish}
use Rattle.base_122.proofs.SizeBounds.{three-le-block_count}
use Rattle.packet_defs.specs.Streams.{whole_packets}
use Rattle.raster_rows.specs.Pixels.{raster_octets}
use Rattle.raster_rows.proofs.RasterLaws.{rows_from}
use Rattle.raster_rows.proofs.MadeLaws.{rows_from-append}
use Rattle.stream_defs.specs.Begun.{begun_in, block_rows, end_of, placed}
use Rattle.stream_defs.specs.Fates.{geometry_in, kept_in}
use Rattle.stream_defs.specs.Picture.{number_at}
use Rattle.stream_defs.proofs.PlacedLaws.{is_open, is_not_open}
use Rattle.stream_defs.proofs.SettledLaws.{rows_rise}
use Rattle.packet_assembly.proofs.Images.{image_wide}
use Rattle.segment_defs.specs.TextWish.{TextWish, text_wish}
use Rattle.strip_decoder.specs.declared.engine.Walked.{Walked}
use Rattle.strip_decoder.specs.declared.ending.DecodeFault.{DecodeFault}
use Rattle.strip_decoder.specs.declared.ending.DecodeFault.TheVariants.{ReadFault, WriteFault, NoSegment, TooManyPixels, LongInput, Memory}
use Rattle.strip_decoder.specs.Sinks.{Numbers, blocks_with}
use Rattle.strip_decoder.specs.Runs.{AsksPassed, PassedBy, PartBy, blocks_passed}
use Rattle.strip_decoder.specs.Walks.{IsWalked, WalkAnswers, Walks, run_of}
use Rattle.strip_decoder.proofs.Asking.{both_report}
use Rattle.strip_decoder.proofs.Showing.{numbers_same}
use Rattle.strip_decoder.proofs.Endings.{passed_open, passed_known, found_as}
use Rattle.strip_decoder.proofs.Staying.{known_or_not}
use Rattle.strip_decoder.specs.declared.ending.DecodeDone.{DecodeDone}
use Rattle.quick_look.specs.declared.row.LookRow.{LookRow}
use Rattle.quick_look.specs.Look.{low_with, look_with, rows_with, look_rows, look_octets}
use Rattle.quick_look.specs.LookSinks.{first_rows, look_sink}
use Rattle.quick_look.specs.Looks.{PromptLook, PrefixLook, IsLook, LookAnswers, LookAsks, Looks}

-- ---- the numbers of the blocks

-- the rows that are given are those of the look, whatever the height by which blocks are placed
shown_rows : (g : Geometry) (received : Numbers) (k : ℕ) → first_rows (placed g) (blocks_with g received) k ≡ look_rows g received k
unfolding low_with
shown_rows g received k = ap (λ numbers. rows_with g numbers k) (numbers_same g received)

-- a prefix of the first rows is one of more of them
prefix_within : (g : Geometry) (received : Numbers) (k n some : ℕ) → k ≤ n →
    (few : ℕ) × (take some (look_rows g received k) ≡ take few (look_rows g received n))
prefix_within g received k n some le =
    let here = look_rows g received k in
    let image = look_with g (number_at g received) in
    let more = rows_from g.depth (block_count g.width) image (0 + k) (n - k) in
    let all : k + (n - k) ≡ n = omega (arith, le) in
    let begins : look_rows g received n ≡ here ++ more = ap (λ n. raster_octets g.depth n (block_count g.width) image) (sym all) ∙ rows_from-append g.depth
    (block_count g.width) image 0 k (n - k) in
    let few = min some (length here) in
    (few, sym (take_min some here) ∙ sym (take-append-le few here more (omega arith)) ∙ ap (take few) (sym begins))

-- ---- the block rows

module _ (apid : ℕ) (taken : List ℕ) (g : Geometry) (geometry : geometry_in apid taken ≡ Some g) where
  abbrev b : ℕ
  b = begun_in apid taken

  abbrev ended : ℕ
  ended = end_of (kept_in apid taken)

  abbrev c : ℕ
  c = block_count g.width

  wide : 0 < c
  wide = let three = three-le-block_count g.width (image_wide apid (whole_packets taken) g geometry) in omega (arith, three)

  begun_is : b ≡ ended / c
  begun_is = rw geometry refl

  -- after all blocks they are all
  pub all_rows : blocks_passed g ended / c ≡ block_rows g b
  all_rows = elim (known_or_not g.rows) [
    | inl none ↦
        ap (λ n. n / c) (passed_open g ended none) ∙ sym begun_is ∙ sym (ap (λ t. if t then b else block_count g.rows) (is_open g.rows none))
    | inr some ↦
        let turned : c * block_count g.rows ≡ block_count g.rows * c + 0 = grind arith in
        ap (λ n. n / c) (passed_known g ended some ∙ turned) ∙ div-mul-add (block_count g.rows) c 0 wide
        ∙ sym (ap (λ t. if t then b else block_count g.rows) (is_not_open g.rows some))
  ]

  pub rows_within : (n : ℕ) → n ≤ blocks_passed g ended → n / c ≤ block_rows g b
  rows_within n le = subst (λ m. n / c ≤ m) all_rows (rows_rise n (blocks_passed g ended) c wide le)

  pub rows_settled : (m n : ℕ) → m ≤ n → m / c ≤ n / c
  rows_settled m n le = rows_rise m n c wide le

-- ---- what is given

prompt_by : (texts : TextWish) (apid : ℕ) (taken given : List ℕ) → PassedBy look_sink texts apid taken given → PromptLook texts apid taken given
prompt_by texts apid taken given passed = record {
  none = passed.none;
  some = λ g received there are.
      let x = passed.some g received there are in
      let k : ℕ = x.0 / block_count g.width in
      (k, rows_within apid taken g there x.0 x.1, rows_settled apid taken g there _ x.0 x.2, x.3 ∙ shown_rows g received k);
}

prefix_by : (texts : TextWish) (apid : ℕ) (taken given : List ℕ) → PartBy look_sink texts apid taken given → PrefixLook texts apid taken given
prefix_by texts apid taken given part = record {
  none = part.none;
  some = λ g received there are.
      let x = part.some g received there are in
      let k : ℕ = x.0 / block_count g.width in
      let prefix = prefix_within g received k (block_rows g (begun_in apid taken)) x.2.some (rows_within apid taken g there x.0 x.1) in
      (prefix.0, x.2.gave_is ∙ ap (take x.2.some) (shown_rows g received k) ∙ prefix.1);
}

asks_by : (wish : DecodeWish) (old : Outside) (took gave : List ℕ) (i j : ℕ) → AsksPassed look_sink (run_of wish old) took gave i j →
    LookAsks wish old took gave i j
asks_by wish old took gave i j asks = (asks.0, asks.1, λ all if_known. prompt_by (text_wish wish) wish.apid (take i took) (take j gave) (asks.2 all if_known))

-- ---- the answers

is_look : (wish : DecodeWish) (old new : Outside) (took gave : List ℕ) (walked : Walked LookRow) → IsWalked look_sink wish old new took gave walked →
    IsLook wish old new took gave walked.done
is_look wish old new took gave walked x = record {
  found = found_as false wish wish.restore [] x x.out (λ received follows. refl);
  look = λ all if_known received are.
      let t = x.if_known all if_known in
      let g = walked.done.geometry in
      let same : t.0 ≡ received = λ i index.
      both_report (text_wish wish) (kept_in wish.apid took) index (t.0 index) (received index) (t.1.at index) (are.at index)
      i in
      let k : ℕ = blocks_passed g (end_of (kept_in wish.apid took)) / block_count g.width in
      t.2.gave_is ∙ shown_rows g t.0 k ∙ ap (look_rows g t.0) (all_rows wish.apid took g x.geometry)
      ∙ ap (λ received. look_octets g received (begun_in wish.apid took)) same;
}

-- what it took and gave, and when
given_so : (wish : DecodeWish) (old new : Outside) (r : Result (Walked LookRow) DecodeFault) (result : Result DecodeDone DecodeFault) →
    (x : Walks look_sink wish old new r) → LookAnswers wish old new x.took x.gave result → Looks wish old new result
given_so wish old new r result x answer = record {
  took = x.took;
  gave = x.gave;
  since = since_weaker x.since (λ i j le asks. asks_by wish old x.took x.gave i j asks);
  within = x.within;
  answer = answer;
}

-- a walk with a look ended without a fault
pub looks : (wish : DecodeWish) (old new : Outside) (walked : Walked LookRow) → Walks look_sink wish old new (Ok walked) → Looks wish old new (Ok walked.done)
looks wish old new walked x = given_so wish old new (Ok walked) (Ok walked.done) x (is_look wish old new x.took x.gave walked x.answer)

-- a fault ended it
pub look_fails : (wish : DecodeWish) (old new : Outside) (fault : DecodeFault) → Walks look_sink wish old new (Err fault) → Looks wish old new (Err fault)
look_fails wish old new fault x = given_so wish old new (Err fault) (Err fault) x (by fault x.answer)
  where
    prefix : ((all : List ℕ) → old.rest ≡ Some all → PartBy look_sink (text_wish wish) wish.apid x.took x.gave) → (all : List ℕ) → old.rest ≡ Some all →
        PrefixLook (text_wish wish) wish.apid x.took x.gave
    prefix part all if_known = prefix_by (text_wish wish) wish.apid x.took x.gave (part all if_known)

    by : (fault : DecodeFault) → WalkAnswers look_sink wish old new x.took x.gave (Err fault) → LookAnswers wish old new x.took x.gave (Err fault)
    by ReadFault a = (a.0, prefix a.1)
    by WriteFault a = (a.0, a.1, prefix a.2)
    by LongInput a = (a.0, a.1, a.2, prefix a.3)
    by NoSegment a = a
    by (TooManyPixels pixels) a = (a.0, prefix a.1)
    by Memory a = a
