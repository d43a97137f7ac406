-- The image that is coded: a setting and the image's height, and the form in which its segments are given.
use Rattle.std.specs.Prelude.{◌≡◌, ◌⊎◌, ◌<◌, ◌==◌, ℕ, if◌then◌else◌}
use Rattle.base_122.specs.Ranges.{IsInRange, rows_range}
use Rattle.base_122.specs.Setting.{IsHeight, sized}
use Rattle.base_122.specs.declared.setting.Setting.{Setting}
use Rattle.strip_coder.specs.declared.plan.Plan.{Plan}
use Rattle.strip_coder.specs.Forms.{Form, packets}

-- an image of a setting and of this number of rows, whose segments are given in this form
pub record Job : Type 1 where
  pub setting : Setting
  pub rows : ℕ
  pub form : Form

abbrev pub job_of : Form → Plan → Job
job_of form p = record { setting = p.setting; rows = p.rows; form = form }

-- its segments are given as packets
abbrev pub plan_of : Setting → (rows : ℕ) → Job
plan_of s rows = record { setting = s; rows = rows; form = packets }

abbrev pub packed : Plan → Job
packed p = job_of packets p

-- the setting with the image's height
abbrev pub whole : Job → Setting
whole p = sized p.setting p.rows

-- the greatest height that an image of a setting may have
abbrev pub tallest : Setting → ℕ
tallest s = if s.rows == 0 then rows_range.most else s.rows

-- it isn't known that the first k rows of an image are all
abbrev pub MoreMayArrive : Job → (k : ℕ) → Type 0
MoreMayArrive p k = (k < p.rows) ⊎ (p.setting.rows ≡ 0)

-- the setting is in range, and an image of it may have this height
pub record IsPlan (p : Job) : Type 0 where
  pub in_range : IsInRange p.setting
  pub height : IsHeight p.setting p.rows
