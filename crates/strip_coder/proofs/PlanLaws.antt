-- The heights that an image of a setting may have, and its tallest image.
use Rattle.std.proofs.Common.{◌≡◌, ◌≢◌, ◌⊎◌, ◌≤◌, ◌<◌, inl, inr, ℕ, refl, arith, Bool, true, false, ◌==◌}
use Rattle.std.proofs.lemmas.Bool.{cases_lt}
use Rattle.std.proofs.lemmas.Bool.Decides.{nat_tests}
use Rattle.base_122.specs.Ranges.{IsInRange}
use Rattle.base_122.specs.Setting.{IsHeight}
use Rattle.base_122.specs.declared.setting.Setting.{Setting}
use Rattle.stream_defs.specs.Output.{reports_last}
use Rattle.strip_coder.specs.Plans.{IsPlan, plan_of, tallest}

pub tall_height : (s : Setting) → IsInRange s → IsHeight s (tallest s)
tall_height s range = by (s.rows == 0) refl
  where
    by : (b : Bool) → (s.rows == 0) ≡ b → IsHeight s (tallest s)
    by true e = rw e ((omega arith, omega arith), inl (grind (arith, nat_tests)))
    by false e = rw e (elim range.rows [ inl none ↦ absurd (grind (arith, nat_tests)) | inr known ↦ (known, inr refl) ])

pub tall_plan : (s : Setting) → IsInRange s → IsPlan (plan_of s (tallest s))
tall_plan s range = record { in_range = range; height = tall_height s range }

pub tall_most : (s : Setting) (rows : ℕ) → IsInRange s → IsHeight s rows → rows ≤ tallest s
tall_most s rows range height = grind (arith, nat_tests)

-- ---- rows that aren't reported last

pub known_first : (s : Setting) → s.rows ≢ 0 → reports_last s ≡ false
known_first s some = grind (arith, nat_tests)

pub known_tallest : (s : Setting) → s.rows ≢ 0 → tallest s ≡ s.rows
known_tallest s some = let e = known_first s some in rw e refl

pub known_height : (s : Setting) (rows : ℕ) → s.rows ≢ 0 → IsHeight s rows → s.rows ≡ rows
known_height s rows some height = elim height.1 [ inl none ↦ absurd (some none) | inr same ↦ same ]

-- ---- rows that are reported last

pub open_last : (s : Setting) → s.rows ≡ 0 → reports_last s ≡ true
open_last s none = grind (arith, nat_tests)

-- an image is the tallest one, or its height is reported last
pub tall_or_open : (s : Setting) (rows : ℕ) → IsInRange s → IsHeight s rows → (rows ≡ tallest s) ⊎ ((s.rows ≡ 0) × (rows < tallest s))
tall_or_open s rows range height = grind (arith, nat_tests, cases_lt, known_tallest, tall_most)
