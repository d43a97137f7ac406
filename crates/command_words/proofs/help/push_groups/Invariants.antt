use Rattle.std.proofs.Common.{◌≡◌, ◌++◌, take, string_bytes}
use Rattle.std.specs.List.{flat_map}
use Rattle.command_words.specs.Help.{group_lines}
use Rattle.command_words.proofs.help.push_groups.Given as goal

abbrev pub invariant-loop-title : goal.invariant-loop-title
invariant-loop-title l = string_bytes l.text ≡ string_bytes l.initial.text ++ flat_map (λ group. group_lines group.0.now group.1.now)
    (take l.title-index l.groups)
