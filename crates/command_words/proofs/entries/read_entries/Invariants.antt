use Rattle.std.proofs.Common.{◌≡◌, ◌+◌, length, Result}
use Rattle.command_words.specs.Tables.{Finds}
use Rattle.command_words.specs.declared.command.WordFault.{WordFault}
use Rattle.command_words.specs.Words.{texts}
use Rattle.command_words.specs.Entries.{nothing, EntriesSay}
use Rattle.command_words.specs.Given.{finds_of}
use Rattle.command_words.proofs.entries.read_entries.Given as goal

abbrev pub invariant-loop-rest : goal.invariant-loop-rest
invariant-loop-rest l = record {
  says : (said : Result Finds WordFault) → EntriesSay l.keys (finds_of l.given) l.place (texts l.rest) said → EntriesSay l.keys nothing 1 (texts l.words) said;
  size : l.place + length l.rest ≡ length l.words + 1;
}

abbrev pub decreases-loop-rest : goal.decreases-loop-rest
decreases-loop-rest l = length l.rest
