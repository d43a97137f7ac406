-- The block row in a strip is that of each image that the work follows.
use Rattle.std.proofs.Common.{◌≡◌, ℕ, ◌+◌, ◌-◌, ◌*◌, ◌/◌, ◌%◌, ◌<◌, ◌≤◌, ℤ, ◌*ℤ◌, List, [], refl, sym, ap, ◌∙◌, arith, get_or, mul-le-mul_left}
use Rattle.std.proofs.lemmas.List.{same_lists}
use Rattle.std.proofs.lemmas.List.FromFn.{get_or-map-range_with_len, length-map-range_with_len}
use Rattle.std.proofs.lemmas.Nat.{div-mul-add, mod-mul-add}
use Rattle.std.proofs.lemmas.Bool.Decides.{nat_tests}
use Rattle.strip_coder.specs.Plans.{Job, IsPlan, whole}
use Rattle.base_122.specs.Sizes.{block_count, total_blocks}
use Rattle.wave_defs.specs.Pyramid.{Pyramid, padded, pyramid, band_of}
use Rattle.wave_defs.specs.Blocks.{block, coefficient, block_side, weight_at}
use Rattle.wave_defs.proofs.BlockLaws.{length-block, get_or-block}
use Rattle.block_families.specs.Places.{place_in, gathered}
use Rattle.block_families.proofs.Placing.{place_within}
use Rattle.wave_strip.specs.declared.strip.StripWave.{StripWave}
use Rattle.wave_strip.specs.Strip.{columns_of, answered_of, number_in, ShowsBlockRow}
use Rattle.stream_defs.specs.Output.{image_blocks}
use Rattle.stream_defs.proofs.ImageLaws.{length-image_blocks, image_block}
use Rattle.strip_coder.specs.declared.work.Work.{Work}
use Rattle.strip_coder.specs.Works.{gathered_in}
use Rattle.strip_coder.specs.Steps.{NextAre}
use Rattle.wave_defs.proofs.Equations.{coefficient-is}

-- a number of a block as the definition has it
coefficient_is : (p : Pyramid) (row column i : ℕ) → coefficient p row column i ≡ band_of p (place_in column i).band
    (block_side (place_in column i).band * row + (place_in column i).row) (place_in column i).column
coefficient_is p row column i = rw coefficient-is refl

-- what is gathered from the block row in the strip
shown_block : (image : ℕ → ℕ → ℤ) (strip : StripWave) (weights : List ℕ) (r row column : ℕ) → ShowsBlockRow image r strip → answered_of strip ≡ row + 1 →
    column < columns_of strip →
    gathered (number_in strip) weights column ≡ block (pyramid image r (columns_of strip)) weights row column
shown_block image strip weights r row column shows answered inside =
    let p = pyramid image r (columns_of strip) in
    let f : ℕ → ℤ = λ i. number_in strip (place_in column i) *ℤ weight_at weights i in
    let long = length-map-range_with_len f 0 64 in
    let back : answered_of strip - 1 ≡ row = omega (arith, answered) in
    same_lists (gathered (number_in strip) weights column) (block p weights row column) (long ∙ sym (length-block p weights row column))
    (λ i d h.
    let lt : i < 64 = omega (arith, h, long) in
    let value : number_in strip (place_in column i) ≡ coefficient p row column i =
    shows.at (place_in column i) (place_within (columns_of strip) column i inside lt)
    ∙ ap (λ n. band_of p (place_in column i).band (block_side (place_in column i).band * n + (place_in column i).row) (place_in column i).column) back
    ∙ sym (coefficient_is p row column i) in
    get_or-map-range_with_len f 0 64 i i d lt (omega arith) ∙ ap (λ z. z *ℤ weight_at weights i) value ∙ sym (get_or-block p weights row column i d lt))

quotient : (c r j : ℕ) → j < c → ((c * r + j) / c ≡ r) × ((c * r + j) % c ≡ j)
quotient c r j lt = grind (arith, nat_tests, div-mul-add, mod-mul-add)

pub next_are : (s : Job) (x : ℕ → ℕ → ℤ) (w : Work) (row : ℕ) → IsPlan s → columns_of w.strip ≡ block_count s.setting.width →
    answered_of w.strip ≡ row + 1 → row < block_count s.rows →
    gathered_in s w.at ≡ block_count s.setting.width * row → ShowsBlockRow (padded x s.rows s.setting.width) (block_count s.rows) w.strip →
    NextAre s w (block_count s.setting.width) (gathered (number_in w.strip) s.setting.weights.shifts) (image_blocks (whole s) x)
next_are s x w row range columns answered lt count shows =
    let c = block_count s.setting.width in
    let r = block_count s.rows in
    record {
      whole = length-image_blocks (whole s) x;
      next = λ j inside.
          let place : gathered_in s w.at + j ≡ c * row + j = omega (arith, count) in
          let next : c * (row + 1) ≤ c * r = mul-le-mul_left c (omega (arith, lt)) in
          let more : c * (row + 1) ≡ c * row + c = grind arith in
          let below : c * row + j < total_blocks s.setting.width s.rows = omega (arith, next, more, inside) in
          let q = quotient c row j inside in
          ap (λ k. get_or (image_blocks (whole s) x) k []) place
          ∙ image_block (whole s) x (c * row + j) [] below
          ∙ ap (λ k. block (pyramid (padded x s.rows s.setting.width) r c) s.setting.weights.shifts k ((c * row + j) % c)) q.0
          ∙ ap (λ k. block (pyramid (padded x s.rows s.setting.width) r c) s.setting.weights.shifts row k) q.1
          ∙ sym (shown_block (padded x s.rows s.setting.width) w.strip s.setting.weights.shifts r row j shows answered (omega (arith, columns, inside))
          ∙ ap (λ n. block (pyramid (padded x s.rows s.setting.width) r n) s.setting.weights.shifts row j) columns);
    }
