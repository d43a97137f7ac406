-- The picture and the damage of an image whose height is known, whatever the kept heads reach. This project's own.
use Rattle.std.specs.Prelude.{◌≡◌, ◌≢◌, ℕ, ℤ, List, Option}
use Rattle.base_122.specs.declared.geometry.Geometry.{Geometry}
use Rattle.stream_defs.specs.Picture.{picture_octets, picture_with, whole_octets, whole_with}
use Rattle.stream_defs.specs.Damage.{damage, missing_rows, whole_damage, whole_missing}

pub record KnownHeights : Type 0 where
  pub pixels : (g : Geometry) (numbers : ℕ → ℕ → ℤ) (n : ℕ) → g.rows ≢ 0 → picture_with g numbers n ≡ whole_with g numbers
  pub octets : (g : Geometry) (received : ℕ → Option (List (List ℤ))) (n : ℕ) → g.rows ≢ 0 → picture_octets g received n ≡ whole_octets g received
  pub missing : (g : Geometry) (received : ℕ → Option (List (List ℤ))) (n : ℕ) → g.rows ≢ 0 → missing_rows g received n ≡ whole_missing g received
  pub damage : (g : Geometry) (received : ℕ → Option (List (List ℤ))) (n : ℕ) → g.rows ≢ 0 → damage g received n ≡ whole_damage g received
