use Rattle.std.proofs.Common.{◌≡◌, ◌++◌, take, string_bytes}
use Rattle.std.specs.List.{flat_map}
use Rattle.command_words.specs.Help.{key_line}
use Rattle.command_words.proofs.help.push_group.Given as goal

abbrev pub invariant-loop-key : goal.invariant-loop-key
invariant-loop-key l = string_bytes l.text ≡ string_bytes l.initial.text ++ flat_map key_line (take l.key-index l.keys)
