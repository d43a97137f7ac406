-- Three levels, one after another.
use Rattle.std.proofs.Common.{◌≡◌, ℕ, ◌+◌, ◌*◌, ◌<◌, ℤ, pos, List, [], get_or, refl, ap, sym, ◌∙◌, subst, ⊎_elim, arith}
use Rattle.wave_defs.specs.Level.{joined}
use Rattle.wave_defs.specs.Pyramid.{Pyramid, rebuilt, first_of, second_of, third_of}
use Rattle.wave_defs.specs.Blocks.{Place, block_side}
use Rattle.wave_defs.specs.Held.{Agrees, signal}
use Rattle.std.proofs.lemmas.Bool.Decides.{nat_tests}
use Rattle.inverse_strip.specs.Cells.{HasBlockRow, first_row, row_place, number_in}
use Rattle.inverse_strip.proofs.CellLemmas.{number-same}
use Rattle.inverse_strip.specs.Kept.{Counts, HasRow}
use Rattle.inverse_strip.specs.Zeros.{zeros}
use Rattle.wave_defs.proofs.Equations.{second_of-is, first_of-is, rebuilt-is}

-- the low band of a level is what the level before it makes
pub second-low : (p : Pyramid) (r w : ℕ) → (second_of p r w).ll ≡ joined (third_of p) r w
second-low p r w = rw second_of-is refl

pub first-low : (p : Pyramid) (r w v : ℕ) → v ≡ 2 * w → (first_of p r w).ll ≡ joined (second_of p r w) (2 * r) v
first-low p r w v e = rw first_of-is (ap (λ (k : ℕ). joined (second_of p r w) (2 * r) k) (sym e))

-- one more row of the second level
pub Counts-second : (n third second first height : ℕ) → Counts n third second first height → HasRow third second (2 * height) →
    Counts n third (second + 1) first height
Counts-second n third second first height c row =
    let within = c.within in
    let waits = c.first_waits in
    record {
      within = c.within;
      second_waits = c.second_waits;
      first_waits = omega arith;
      third_open = c.third_open;
      second_open = λ h.
          let open_third = c.third_open h in
          ⊎_elim (λ (a : second + 3 < 2 * third). omega arith) (λ (b : (third ≡ 2 * height) × (second < 2 * third)). omega arith) row.made;
      first_open = λ h. let open_first = c.first_open h in omega arith;
    }

-- one more row of the first level
pub Counts-first : (n third second first height : ℕ) → Counts n third second first height → HasRow second first (4 * height) →
    Counts n third second (first + 1) height
Counts-first n third second first height c row =
    let within = c.within in
    record {
      within = c.within;
      second_waits = c.second_waits;
      first_waits = c.first_waits;
      third_open = c.third_open;
      second_open = c.second_open;
      first_open = λ h.
          let open_third = c.third_open h in
          let open_second = c.second_open h in
          ⊎_elim (λ (a : first + 3 < 2 * second). omega arith) (λ (b : (second ≡ 4 * height) × (first < 2 * second)). omega arith) row.made;
    }

-- the row of the image
pub made-row : (p : Pyramid) (r w v g k : ℕ) (y : ℕ → ℤ) → v ≡ 4 * w → g ≡ k → Agrees (2 * v) y (joined (first_of p r w) (4 * r) v g) →
    Agrees (8 * w) y (rebuilt p r w k)
made-row p r w v g k y ev eg made = rw rebuilt-is (record {
  at = λ j h.
      let e = made.at j (omega arith) in
      e ∙ ap (λ (m : ℕ). joined (first_of p r w) (4 * r) m g j) ev ∙ ap (λ (i : ℕ). joined (first_of p r w) (4 * r) (4 * w) i j) eg;
})

-- ---- the block row that is set next

-- the one row of a band of the third level
pub row-arrives : (f : ℕ → ℕ → ℤ) (band t columns : ℕ) (cells : List (List ℤ)) (x : List ℤ) → block_side band ≡ 1 →
    HasBlockRow f band (block_side band * t) columns cells →
    ((j : ℕ) → j < block_side band * columns → signal x j ≡ number_in columns cells (record { band = band; row = 0; column = j })) →
    Agrees columns (signal x) (f t)
row-arrives f band t columns cells x side has number = record {
  at = λ j h.
      let wide : block_side band * columns ≡ 1 * columns = ap (λ (k : ℕ). k * columns) side in
      let first : block_side band * t ≡ 1 * t = ap (λ (k : ℕ). k * t) side in
      let row : block_side band * t + 0 ≡ t = omega arith in
      number j (omega arith) ∙ sym (has.at 0 j (omega arith) (omega arith)) ∙ ap (λ (k : ℕ). f k j) row;
}

pub block_row-at : (f : ℕ → ℕ → ℤ) (band n m columns : ℕ) (cells : List (List ℤ)) → m ≡ n → HasBlockRow f band n columns cells →
    HasBlockRow f band m columns cells
block_row-at f band n m columns cells e has = subst (λ (k : ℕ). HasBlockRow f band k columns cells) (sym e) has

-- and after other rows took the place of those of later bands
pub block_row-moved : (f : ℕ → ℕ → ℤ) (band n columns m : ℕ) (xs ys : List (List ℤ)) → band < 3 → m ≡ columns →
    ((i : ℕ) → i < first_row 3 → get_or ys i [] ≡ get_or xs i []) → HasBlockRow f band n columns xs → HasBlockRow f band n m ys
block_row-moved f band n columns m xs ys hb em same has = subst (λ (k : ℕ). HasBlockRow f band n k ys) (sym em) (record {
  at = λ y j hy hj.
      has.at y j hy hj
      ∙ number-same columns xs ys (record { band = band; row = y; column = j })
      (λ is. ap (λ (x : List ℤ). signal x j) (sym (same (row_place band y) (grind (arith, nat_tests)))));
})

-- ---- a block row of zeros

-- its rows of a band
pub row-lost : (f : ℕ → ℕ → ℤ) (band first columns w n y : ℕ) (cells : List (List ℤ)) → HasBlockRow f band first columns cells →
    ((q : Place) → number_in columns cells q ≡ pos 0) → w ≡ block_side band * columns → n ≡ first + y → y < block_side band → Agrees w zeros (f n)
row-lost f band first columns w n y cells has none ew en hy = record {
  at = λ j h. sym (ap (λ (k : ℕ). f k j) en ∙ has.at y j hy (omega (arith, h, ew)) ∙ none (record { band = band; row = y; column = j }));
}
