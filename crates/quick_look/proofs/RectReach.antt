-- No pixel outside the rectangles depends on what was lost.
use Rattle.std.proofs.Common.{◌≡◌, ◌≤◌, ◌<◌, ◌+◌, ◌-◌, ◌*◌, ◌/◌, ◌%◌, ℕ, ℤ, Bool, true, false, List, inl, inr, refl, sym, ap, ◌∙◌, arith, ◌&&◌, ◌||◌, not}
use Rattle.std.proofs.Common.{nat_le, Option, is_some, mul-le-mul_right}
use Rattle.std.proofs.lemmas.Bool.{false≢true, or_parts, and_from, leb-true}
use Rattle.std.proofs.lemmas.Bool.Decides.{nat_tests}
use Rattle.std.proofs.lemmas.Nat.{div-mul-add, mod-mul-add}
use Rattle.base_122.specs.Sizes.{block_count}
use Rattle.base_122.specs.Ranges.{IsGeometryInRange}
use Rattle.base_122.specs.declared.geometry.Geometry.{Geometry}
use Rattle.base_122.proofs.SizeBounds.{three-le-block_count}
use Rattle.raster_rows.specs.Pixels.{clamped}
use Rattle.wave_defs.specs.Reach.{reaches, Reaches, SameReceived}
use Rattle.wave_defs.specs.Pyramid.{Pyramid}
use Rattle.wave_defs.proofs.ReachLaws.{blocks-reach}
use Rattle.stream_defs.specs.Begun.{band_rows, block_rows, height}
use Rattle.stream_defs.specs.Picture.{picture_with, pyramid_with}
use Rattle.stream_defs.proofs.BandPlaces.{same_block}
use Rattle.stream_defs.proofs.PlacedLaws.{is_open, is_not_open, within_not}
use Rattle.quick_look.specs.Rects.{rects, is_lost}
use Rattle.quick_look.specs.RectLaws.{has_some, SameWhereReceived, SameOutsideRects}
use Rattle.quick_look.proofs.RectTests.{and_first, any_hit}
use Rattle.quick_look.proofs.RectCovers.{covers}
use Rattle.stream_defs.proofs.Equations.{picture_of-is}

-- How many block rows the bands have, and which of them can't be seen: those after the first block rows are below all rows that are given.
record AreTall (g : Geometry) (n : ℕ) : Type 0 where
  some : 2 ≤ band_rows g n
  rows : height g n ≤ 8 * band_rows g n
  unseen : (t i : ℕ) → t < band_rows g n → block_rows g n ≤ t → i < height g n → 8 * t ≤ i + 21 → ⊥

are_tall : (g : Geometry) (n : ℕ) → IsGeometryInRange g → AreTall g n
are_tall g n range = elim range.rows [
  | inl none ↦
      let open_rows = is_open g.rows none in
      let bands : band_rows g n ≡ n + 3 = rw open_rows refl in
      let rows : height g n ≡ 8 * n - 21 = rw open_rows refl in
      let whole : block_rows g n ≡ n = rw open_rows refl in
      record {
        some = omega (arith, bands);
        rows = omega (arith, bands, rows);
        unseen = λ t i low high inside near. absurd (omega (arith, rows, whole, high, inside, near));
      }
  | inr within ↦
      let known = is_not_open g.rows (within_not g.rows within) in
      let bands : band_rows g n ≡ block_count g.rows = rw known refl in
      let rows : height g n ≡ g.rows = rw known refl in
      let whole : block_rows g n ≡ block_count g.rows = rw known refl in
      let tall = three-le-block_count g.rows within.0 in
      record {
        some = omega (arith, bands, tall);
        rows = omega (arith, bands, rows);
        unseen = λ t i low high inside near. absurd (omega (arith, bands, whole, low, high));
      }
]

module _ (g : Geometry) (received : ℕ → Option (List (List ℤ))) (n : ℕ) (p q : ℕ → ℕ → ℤ) (range : IsGeometryInRange g)
    (same : SameWhereReceived g received n p q) where
  abbrev r : ℕ
  r = block_rows g n

  abbrev c : ℕ
  c = block_count g.width

  -- a block of whatever numbers: a missing one, or one after those block rows
  abbrev free : ℕ → ℕ → Bool
  free t s = is_lost g received (t * c + s) || nat_le r t

  abbrev bands : (ℕ → ℕ → ℤ) → Pyramid
  bands numbers = pyramid_with numbers c g.weights.shifts

  not_lost : (b : Bool) → not b ≡ false → b ≡ true
  not_lost b e = grind (arith, nat_tests, false≢true)

  below : (t : ℕ) → nat_le r t ≡ false → t < r
  below t e = grind (arith, nat_tests)

  low : (t s : ℕ) → t < r → s < c → t * c + s < r * c
  low t s under few = grind (arith, nat_tests, mul-le-mul_right)

  same_received : SameReceived free (band_rows g n) c (bands p) (bands q)
  same_received = record {
    block = λ t s tall few kept.
        let two = or_parts (is_lost g received (t * c + s)) (nat_le r t) kept in
        same_block p q c g.weights.shifts t s (λ i small. same.at (t * c + s) i (low t s (below t two.1) few) small
        (not_lost (is_some (received ((t * c + s) / g.segment))) two.0));
  }

  -- none of these blocks reaches a pixel that is in no rectangle
  unreached : (i j t s : ℕ) → i < height g n → j < g.width → has_some (rects g received n) i j ≡ false → t < band_rows g n → s < c → free t s ≡ true →
      Reaches t i → Reaches s j → ⊥
  unreached i j t s inside across none tall few gone row column = by (is_lost g received (t * c + s)) (nat_le r t) refl refl gone
    where
      near : 8 * t ≤ i + 21
      near = leb-true (8 * t) (i + 21) (and_first (nat_le (8 * t) (i + 21)) (nat_le i (8 * t + 29)) row)

      by : (a b : Bool) → is_lost g received (t * c + s) ≡ a → nat_le r t ≡ b → (a || b) ≡ true → ⊥
      by false false is past e = false≢true e
      by a true is past e = (are_tall g n range).unseen t i tall (leb-true r t past) inside near
      by true false is past e =
          let b = t * c + s in
          let hits : (is_lost g received b && (reaches (b / c) i && reaches (b % c) j)) ≡ true =
          and_from (is_lost g received b) (reaches (b / c) i && reaches (b % c) j) is
          (and_from (reaches (b / c) i) (reaches (b % c) j) (ap (λ n. reaches n i) (div-mul-add t c s few) ∙ row)
          (ap (λ n. reaches n j) (mod-mul-add t c s few) ∙ column)) in
          let hit = any_hit (λ block. is_lost g received block && (reaches (block / c) i && reaches (block % c) j)) 0 (r * c) b (omega arith)
          (omega (arith, low t s (below t past) few)) hits in
          false≢true (sym none ∙ covers (height g n) g.width r (is_lost g received) i j inside across ∙ hit)

  pub stays : SameOutsideRects (height g n) g.width (rects g received n) (picture_with g p n) (picture_with g q n)
  stays = record {
    at = λ i j inside across none.
        let tall = are_tall g n range in
        let wide = three-le-block_count g.width range.width.0 in
        simp picture_of-is (ap (clamped g.depth g.signed)
        (blocks-reach (bands p) (bands q) free (band_rows g n) c i j tall.some (omega (arith, wide)) (omega (arith, inside, tall.rows))
        (omega (arith, across)) same_received
        (λ t s under few gone row column. unreached i j t s inside across none under few gone row column)));
  }
