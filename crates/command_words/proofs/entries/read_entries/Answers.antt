use Rattle.std.proofs.Common.{rules, string_bytes}
use Rattle.command_words.specs.Entries.{IsEntry}
use Rattle.command_words.specs.Given.{finds_of}
use Rattle.command_words.proofs.WordLists.{first_word, entry_first}
use Rattle.command_words.proofs.entries.read_entries.Goals as goal

pub loop-rest-preserved : goal.loop-rest-preserved
loop-rest-preserved c =
    let first = first_word c.loop-rest.rest.now c.word-item.result c.in-len1-up.len_at_least c.word-item.is in
    let is : IsEntry c.args.keys.now (finds_of c.loop-rest.given) (string_bytes c.word-item.result) c.in-Ok.entry =
    rw c.as_str.ensures.value at c.in-Ok.ensures in
    record {
      says = λ said more. c.loop-rest.invariant.says said
          (entry_first c.args.keys.now (finds_of c.loop-rest.given) c.loop-rest.place (string_bytes c.word-item.result) _ _ c.in-Ok.entry said first is
          (rw c.put.ensures at more));
      size = search rules;
    }
