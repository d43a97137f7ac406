-- No pixel outside the damaged rows depends on what was lost.
use Rattle.std.proofs.Common.{◌≡◌, ◌<◌, ◌+◌, ◌*◌, ◌/◌, ◌^◌, ℕ, ℤ, get_or, refl, sym, ap, subst, ◌∙◌, inl, inr, arith, Bool, true, false, not, nat_lt}
use Rattle.std.proofs.Common.{is_some, mul-le-mul_right}
use Rattle.std.specs.List.{list_any}
use Rattle.std.proofs.lemmas.Bool.{false≢true, not-false, and_from}
use Rattle.std.proofs.lemmas.Bool.Decides.{nat_tests}
use Rattle.base_122.specs.Sizes.{block_count}
use Rattle.base_122.specs.Ranges.{IsGeometryInRange, IsWithin, rows_range}
use Rattle.base_122.specs.declared.geometry.Geometry.{Geometry}
use Rattle.base_122.proofs.SizeBounds.{three-le-block_count}
use Rattle.raster_rows.specs.Pixels.{clamped}
use Rattle.wave_defs.specs.Line.{floor_div}
use Rattle.wave_defs.specs.Blocks.{place_of}
use Rattle.wave_defs.specs.Reach.{reaches, Reaches, SameBlock, SameReceived}
use Rattle.wave_defs.proofs.ReachLaws.{rows-reach}
use Rattle.stream_defs.specs.Begun.{band_rows, block_rows, height}
use Rattle.stream_defs.specs.Damage.{is_missing, whole_missing, is_damaged, damage, whole_damage, is_covered}
use Rattle.stream_defs.specs.Picture.{number_at, picture, picture_octets, picture_with, whole_octets, whole_picture, whole_with, picture_of}
use Rattle.stream_defs.proofs.OpenContaining.{contained_open, any_chosen}
use Rattle.stream_defs.proofs.PlacedLaws.{is_open, is_not_open, within_not}
use Rattle.stream_defs.proofs.DamageLaws.{whole_damage as damage_whole}
use Rattle.picture_rows.specs.Prefixes.{bands_of}
use Rattle.strip_decoder.specs.Runs.{Numbers}
use Rattle.strip_decoder.specs.Images.{AreWith}
use Rattle.strip_decoder.specs.Containment.{SameOutside}
use Rattle.stream_defs.proofs.BandPlaces.{coefficient_with}
use Rattle.strip_decoder.proofs.RunEnds.{any_at}
use Rattle.stream_defs.proofs.Equations.{missing_below-is}

-- the block rows of an image whose height is known
known_rows : (g : Geometry) → IsWithin rows_range g.rows → (n : ℕ) → block_rows g n ≡ block_count g.rows
known_rows g height n = rw (is_not_open g.rows (within_not g.rows height)) refl

module _ (g : Geometry) (received : Numbers) (numbers : ℕ → ℕ → ℤ) (n : ℕ) (range : IsGeometryInRange g) (height : IsWithin rows_range g.rows)
    (are : AreWith g received numbers n) where
  abbrev r : ℕ
  r = block_count g.rows

  abbrev c : ℕ
  c = block_count g.width

  abbrev missing : ℕ → Bool
  missing t = is_missing g received t

  -- a block of a block row that isn't missing is in a received segment
  kept_there : (t k : ℕ) → missing t ≡ false → k < c → is_some (received ((t * c + k) / g.segment)) ≡ true
  kept_there t k kept lt = not-false (is_some (received ((t * c + k) / g.segment)))
      (any_at (λ column. not (is_some (received ((t * c + column) / g.segment)))) c k kept lt)

  -- it is before the last one
  block_low : (t k : ℕ) → t < r → k < c → t * c + k < block_rows g n * c
  block_low t k low lt = grind (arith, nat_tests, mul-le-mul_right, known_rows)

  -- and is the same
  block_same : (t k : ℕ) → t < r → k < c → missing t ≡ false → SameBlock (bands_of g numbers) (bands_of g (number_at g received)) t k
  block_same t k low lt kept = record {
    at = λ i small.
        coefficient_with numbers c g.weights.shifts t k i small
        ∙ ap (λ z. floor_div z (2 ^ get_or g.weights.shifts (place_of i).band 0)) (are.at (t * c + k) i (block_low t k low lt) small (kept_there t k kept lt))
        ∙ sym (coefficient_with (number_at g received) c g.weights.shifts t k i small);
  }

  -- no missing block row reaches a row that no range has
  unreached : (i t : ℕ) → i < g.rows → is_covered (whole_damage g received) i ≡ false → t < r → missing t ≡ true → Reaches t i → ⊥
  unreached i t inside uncovered low lost reached =
      let rows : nat_lt i g.rows ≡ true = grind (arith, nat_tests) in
      let undamaged : is_damaged g.rows (whole_missing g received) i ≡ false = sym ((damage_whole g.rows (whole_missing g received)).0.each i) ∙ uncovered in
      let some : list_any (λ t. reaches t i) (whole_missing g received) ≡ true =
      rw missing_below-is (any_chosen (λ t. reaches t i) missing r 0 t (omega arith) (omega (arith, low)) lost reached) in
      absurd (false≢true (sym undamaged ∙ and_from (nat_lt i g.rows) (list_any (λ t. reaches t i) (whole_missing g received)) rows some))

  pub known_contained : SameOutside g.rows g.width (whole_damage g received) (whole_with g numbers) (whole_picture g received)
  unfolding picture_of
  known_contained = record {
    at = λ i j inside across uncovered.
        let tall = three-le-block_count g.rows height.0 in
        let wide = three-le-block_count g.width range.width.0 in
        let same : SameReceived (λ t s. missing t) r c (bands_of g numbers) (bands_of g (number_at g received)) =
        record { block = λ t s low lt kept. block_same t s low lt kept } in
        ap (clamped g.depth g.signed)
        (rows-reach (bands_of g numbers) (bands_of g (number_at g received)) missing r c i j (omega (arith, tall)) (omega (arith, wide))
        (omega (arith, inside)) (omega (arith, across)) same
        (λ t low lost reached. unreached i t inside uncovered low lost reached));
  }

-- ---- whether the height is known or not

-- the picture and the damage of an image whose height is known
pub known_damage : (g : Geometry) (received : Numbers) (n : ℕ) → (g.rows ≡ 0 → ⊥) → damage g received n ≡ whole_damage g received
known_damage g received n some = rw (is_not_open g.rows some) refl

pub known_octets : (g : Geometry) (received : Numbers) (n : ℕ) → (g.rows ≡ 0 → ⊥) → picture_octets g received n ≡ whole_octets g received
known_octets g received n some = rw (is_not_open g.rows some) refl

pub contained : (g : Geometry) (received : Numbers) (numbers : ℕ → ℕ → ℤ) (n : ℕ) → IsGeometryInRange g → AreWith g received numbers n →
    SameOutside (height g n) g.width (damage g received n) (picture_with g numbers n) (picture g received n)
contained g received numbers n range are = elim range.rows [
  | inr within ↦
      let some = within_not g.rows within in
      let rows : height g n ≡ g.rows = rw (is_not_open g.rows some) refl in
      let bands : band_rows g n ≡ block_count g.rows = rw (is_not_open g.rows some) refl in
      subst (λ r. SameOutside (height g n) g.width (damage g received n) (picture_of g numbers r) (picture_of g (number_at g received) r)) (sym bands)
      (subst (λ rs. SameOutside (height g n) g.width rs (whole_with g numbers) (whole_picture g received)) (sym (known_damage g received n some))
      (subst (λ m. SameOutside m g.width (whole_damage g received) (whole_with g numbers) (whole_picture g received)) (sym rows)
      (known_contained g received numbers n range within are)))
  | inl none ↦
      let least = three-le-block_count g.width range.width.0 in
      let rows : block_rows g n ≡ n = rw (is_open g.rows none) refl in
      record {
        at = λ i j inside across uncovered.
            contained_open g received numbers n none (omega (arith, least))
            record { at = λ block k lt small there. are.at block k (omega (arith, lt, ap (λ m. m * block_count g.width) rows)) small there } i j inside
            across uncovered;
      }
]
