-- The laws of what a DC part gives.
use Rattle.std.specs.Prelude.{◌≡◌, ℕ}
use Rattle.item_defs.specs.Scripts.{around}
use Rattle.number_defs.specs.DcScript.{dc_script}
use Rattle.number_defs.specs.DcLows.{dc_given}

-- the script with what is given of each number gives the numbers of the script without
abbrev pub DcsAreGiven : Type 0
DcsAreGiven = (depth_dc depth_ac shift count : ℕ) →
    around (λ g. g.dcs) (dc_given depth_dc depth_ac shift count) ≡ dc_script depth_dc depth_ac shift count
