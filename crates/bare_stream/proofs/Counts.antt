-- Counts of blocks and rows of a setting that has rows.
use Rattle.std.proofs.Common.{◌≡◌, inl, inr, refl}
use Rattle.base_122.specs.Ranges.{IsWithin, rows_range}
use Rattle.base_122.specs.declared.setting.Setting.{Setting}
use Rattle.strip_coder.specs.Plans.{IsPlan, tallest}
use Rattle.strip_coder.proofs.PlanLaws.{known_tallest}
use Rattle.bare_stream.specs.Rasters.{IsBare}
use Rattle.bare_stream.specs.Works.{job}

module _ (s : Setting) (bare : IsBare s) where
  pub rows_in : IsWithin rows_range s.rows
  rows_in = elim bare.in_range.rows [ inl none ↦ absurd (bare.known none) | inr known ↦ known ]

  pub is_plan : IsPlan (job s)
  is_plan = record { in_range = bare.in_range; height = (rows_in, inr refl) }

  pub tall : tallest s ≡ s.rows
  tall = known_tallest s bare.known
