use Rattle.std.proofs.Common.{◌≡◌, ◌+◌, ◌++◌, take, map, string_bytes}
use Rattle.command_words.proofs.help.push_digits.Given as goal

abbrev pub invariant-loop-number : goal.invariant-loop-number
invariant-loop-number l = string_bytes l.text ≡ string_bytes l.initial.text ++ map (λ number. 48 + number) (take l.number-index l.numbers)
