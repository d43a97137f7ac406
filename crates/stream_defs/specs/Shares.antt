-- The shares that texts have of a total. This project's own.
use Rattle.std.specs.Prelude.{◌≡◌, ◌≢◌, ◌≤◌, ◌<◌, ◌⊎◌, ◌%◌, ◌^◌, ℕ, ℤ, true, List}
use Rattle.base_122.specs.Ranges.{IsInRange, IsWithin, rows_range}
use Rattle.base_122.specs.declared.setting.Setting.{Setting}
use Rattle.stream_defs.specs.Output.{segments_of, share, used_before}

-- a share is no bound, or a limit that a head can have
pub record CanBeSaid (s : Setting) (octets : ℕ) : Type 0 where
  pub limit : (octets ≡ 0) ⊎ ((32 ≤ octets) × (octets < 2 ^ 27) × (octets % s.word ≡ 0))
  pub fill : s.fill ≡ true → octets ≢ 0

-- A head can have each share as its limit, and with a total all texts together have at most the octets of the total.
pub record SharesFit : Type 0 where
  pub each : (s : Setting) (all : List (List ℤ)) (index : ℕ) → IsInRange s → IsWithin rows_range s.rows → index < segments_of s →
      CanBeSaid s (share s index (used_before s all index))
  pub whole : (s : Setting) (all : List (List ℤ)) → IsInRange s → s.total ≢ 0 → used_before s all (segments_of s) ≤ s.total
