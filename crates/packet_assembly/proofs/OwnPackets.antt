-- The fields of a packet that isn't foreign to an image.
use Rattle.std.proofs.Common.{◌≡◌, ◌⊎◌, ◌≤◌, ◌<◌, ◌+◌, ℕ, arith, Bool, true, false, ◌||◌, nat_le, Some, mul-le-mul_right}
use Rattle.std.proofs.lemmas.Bool.{eqb-true}
use Rattle.std.proofs.lemmas.Bool.Decides.{nat_tests}
use Rattle.base_122.specs.Sizes.{first_block}
use Rattle.base_122.specs.Ranges.{IsWithin, rows_range}
use Rattle.base_122.specs.declared.geometry.Geometry.{Geometry}
use Rattle.packet_defs.specs.declared.ancillary.Ancillary.{Ancillary}
use Rattle.stream_defs.specs.Agreement.{blocks_of, same_flag}
use Rattle.stream_defs.specs.Fates.{reports_rows, differs}
use Rattle.stream_defs.proofs.PlacedLaws.{is_not_open}
use Rattle.packet_assembly.proofs.Ranges.{within_from}

pub or_first : (a b : Bool) → (a || b) ≡ false → a ≡ false
or_first a b e = grind (arith, nat_tests)

pub or_rest : (a b : Bool) → (a || b) ≡ false → b ≡ false
or_rest a b e = grind (arith, nat_tests)

pub reports_so : (a : Ancillary) → reports_rows a ≡ true → ((a.reported_last ≡ true) × (a.rows ≡ 0)) ⊎ ((a.reported_last ≡ false) × IsWithin rows_range a.rows)
reports_so a e = grind (arith, nat_tests, eqb-true, within_from)

same_so : (a b : Bool) → same_flag a b ≡ true → a ≡ b
same_so a b e = grind (arith, nat_tests)

-- the fields of a packet of the image with this geometry
pub record IsOwn (g : Geometry) (reported_last : Bool) (a : Ancillary) : Type 0 where
  pub if_known : a.reported_last ≡ reported_last
  pub segment : a.segment ≡ g.segment
  pub inside : (g.rows ≡ 0 → ⊥) → a.first < blocks_of g

pub own_so : (g : Geometry) (reported_last : Bool) (a : Ancillary) → differs (Some g) reported_last a ≡ false → IsOwn g reported_last a
own_so g reported_last a e = grind (arith, nat_tests, or_first, or_rest, same_so, eqb-true, is_not_open, nat_le)

-- a later segment's first block is past the segment
pub past_segment : (S i j : ℕ) → i < j → first_block S (i + 1) ≤ first_block S j
past_segment S i j lt = mul-le-mul_right S (omega (arith, lt))
