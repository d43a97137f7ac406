-- A choice by `Select` is an option.
use Rattle.std.proofs.Common.{◌≡◌, ℕ, ◌≤◌, List, true, arith}
use Rattle.std.proofs.lemmas.Bool.Decides.{nat_tests}
use Rattle.base_122.specs.declared.setting.Select.{Select}
use Rattle.number_defs.specs.Gaggles.{is_option}
use Rattle.number_defs.proofs.Chosen.{heuristic_is, optimal_is}
use Rattle.gaggle_codes.specs.Options.{choice_of}

pub choice_is : (select : Select) (N : ℕ) (values : List ℕ) → 2 ≤ N → is_option N (choice_of select N values) ≡ true
choice_is select N values low = grind (arith, nat_tests, heuristic_is, optimal_is)
