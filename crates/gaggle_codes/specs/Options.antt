-- The numbers by which the code represents choices and options. (This project's own.)
use Rattle.std.specs.Prelude.{ℕ, ◌==◌, List, if◌then◌else◌}
use Rattle.base_122.specs.declared.setting.Select.{Select}
use Rattle.base_122.specs.declared.setting.Select.TheVariants.{Heuristic, Optimal}
use Rattle.number_defs.specs.Gaggles.{uncoded}
use Rattle.number_defs.specs.Choice.{heuristic, optimal}

abbrev pub choice_of : Select → ℕ → List ℕ → ℕ
choice_of Heuristic = heuristic
choice_of Optimal = optimal

-- an option is represented by its k, and by 15 if it is uncoded
abbrev pub name_of : ℕ → ℕ → ℕ
name_of N option = if option == uncoded N then 15 else option

-- the option of that number
abbrev pub named : ℕ → ℕ → ℕ
named N name = if name == 15 then uncoded N else name
