-- One block of a block row after those of a segment.
use Rattle.std.proofs.Common.{◌≡◌, ℕ, ◌+◌, ◌*◌, ◌^◌, ◌<◌, ◌++◌, ℤ, pos, ◌*ℤ◌, List, length, take, drop, sym, ap, ◌∙◌, subst, arith, get_or, inl, inr, refl}
use Rattle.std.proofs.Common.{length-append}
use Rattle.std.proofs.Common.{length-drop, All, unsigned_abs}
use Rattle.std.proofs.lemmas.Bool.{cases_lt}
use Rattle.std.proofs.lemmas.List.{drop-append-le, take-append-le, take_all}
use Rattle.std.proofs.lemmas.List.FromFn.{get_or-map-range_with_len, length-map-range_with_len}
use Rattle.std.proofs.Math.Seq.{drop-append_seam}
use Rattle.base_122.specs.Weights.{IsShift}
use Rattle.wave_defs.specs.Blocks.{Place, place_of, weight_at}
use Rattle.wave_defs.specs.Held.{block_at}
use Rattle.wave_defs.proofs.BlockLaws.{weighted-within}
use Rattle.block_families.specs.Places.{place_in, gathered}
use Rattle.block_families.proofs.Placing.{place_within}
use Rattle.base_122.proofs.ShiftLaws.{shift_low}
use Rattle.wave_strip.specs.declared.strip.StripWave.{StripWave}
use Rattle.wave_strip.specs.Strip.{columns_of, number_in}
use Rattle.wave_strip.proofs.NumberBounds.{number_small}
use Rattle.segment_code.specs.Numbers.{AreBounded}
use Rattle.strip_coder.specs.Steps.{PutsBlock, PutsBlocks}
use Rattle.stream_defs.proofs.Small.{within_small}

-- the numbers of a block row, with their weights
pub weighted_small : (strip : StripWave) (weights : List ℕ) (column i : ℕ) → All IsShift weights → column < columns_of strip → i < 64 →
    unsigned_abs (number_in strip (place_in column i) *ℤ weight_at weights i) < 2 ^ 27
weighted_small strip weights column i shifts inside lt =
    within_small _ (weighted-within (get_or weights (place_of i).band 0) 16000000 _ (shift_low weights (place_of i).band shifts)
    (number_small strip (place_in column i) (place_within (columns_of strip) column i inside lt)))

pub length-gathered : (number : Place → ℤ) (weights : List ℕ) (column : ℕ) → length (gathered number weights column) ≡ 64
length-gathered number weights column = length-map-range_with_len (λ i. number (place_in column i) *ℤ weight_at weights i) 0 64

gathered_at : (number : Place → ℤ) (weights : List ℕ) (column i : ℕ) → i < 64 → get_or (gathered number weights column) i (pos 0)
    ≡ number (place_in column i) *ℤ weight_at weights i
gathered_at number weights column i lt = get_or-map-range_with_len (λ i. number (place_in column i) *ℤ weight_at weights i) 0 64 i i (pos 0) lt (omega arith)

-- so a block that was gathered can be added to a segment
pub gathered_bounded : (strip : StripWave) (weights : List ℕ) (column : ℕ) (made : List ℤ) → All IsShift weights → column < columns_of strip →
    made ≡ gathered (number_in strip) weights column → AreBounded made
gathered_bounded strip weights column made shifts inside is = record {
  at = λ i lt.
      let long : length made ≡ 64 = ap length is ∙ length-gathered (number_in strip) weights column in
      let few : i < 64 = omega (arith, lt, long) in
      let value : get_or made i (pos 0) ≡ number_in strip (place_in column i) *ℤ weight_at weights i =
      ap (λ xs. get_or xs i (pos 0)) is ∙ gathered_at (number_in strip) weights column i few in
      inl (subst (λ z. unsigned_abs z < 2 ^ 27) (sym value) (weighted_small strip weights column i shifts inside few));
}

-- ---- the blocks after one was added

prefix_block : (old block : List ℤ) (place i : ℕ) → length old ≡ 64 * place → i < place → block_at (old ++ block) i ≡ block_at old i
prefix_block old block place i long lt =
    let rest = length-drop (64 * i) old in
    ap (λ xs. take 64 xs) (drop-append-le (64 * i) old block (omega (arith, long, lt)))
    ∙ take-append-le 64 (drop (64 * i) old) block (omega (arith, rest, long, lt))

last_block : (old block : List ℤ) (place : ℕ) → length old ≡ 64 * place → length block ≡ 64 → block_at (old ++ block) place ≡ block
last_block old block place long whole =
    ap (λ xs. take 64 xs) (ap (λ n. drop n (old ++ block)) (sym long) ∙ drop-append_seam old block)
    ∙ take_all 64 block (omega (arith, whole))

-- the effect of the push of a block that was gathered
pub puts_block : (strip : StripWave) (weights : List ℕ) (column place : ℕ) (old new made : List ℤ) → made ≡ gathered (number_in strip) weights column →
    new ≡ old ++ made → length old ≡ 64 * place →
    PutsBlock place old new (gathered (number_in strip) weights column)
puts_block strip weights column place old new made is put long =
    let block = gathered (number_in strip) weights column in
    let whole : length block ≡ 64 = length-gathered (number_in strip) weights column in
    let now : new ≡ old ++ block = put ∙ ap (λ xs. old ++ xs) is in
    record {
      before = λ i lt. ap (λ xs. block_at xs i) now ∙ prefix_block old block place i long lt;
      here = ap (λ xs. block_at xs place) now ∙ last_block old block place long whole;
      long = (let both = length-append old block in let e = ap length now in omega (arith, both, e, long, whole));
    }

-- ---- the blocks after some were added

pub none_put : {numbers : ℕ → List ℤ} (place : ℕ) (old : List ℤ) → length old ≡ 64 * place → PutsBlocks place 0 old old numbers
none_put place old long = record { before = λ i lt. refl; here = λ k none. absurd (omega (arith, none)); long = omega (arith, long) }

pub next_put : {numbers : ℕ → List ℤ} (place n : ℕ) (old mid new : List ℤ) → PutsBlocks place n old mid numbers → PutsBlock (place + n) mid new (numbers n) →
    PutsBlocks place (n + 1) old new numbers
next_put {numbers} place n old mid new so_far one = record {
  before = λ i lt. one.before i (omega (arith, lt)) ∙ so_far.before i lt;
  here = λ k few. elim (cases_lt k n) [
    | inl lt ↦ one.before (place + k) (omega (arith, lt)) ∙ so_far.here k lt
    | inr ge ↦
        let last : k ≡ n = omega (arith, ge, few) in
        ap (λ m. block_at new (place + m)) last ∙ one.here ∙ ap numbers (sym last)
  ];
  long = (let all = one.long in omega (arith, all));
}
