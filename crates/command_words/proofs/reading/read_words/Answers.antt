use Rattle.std.proofs.Common.{sym, ◌∙◌, subst, ap, string_bytes, length, IfOk, IfErr, Ok, Err}
use Rattle.std.proofs.Common.{arith}
use Rattle.std.proofs.lemmas.Grind.{common_steps}
use Rattle.command_words.specs.Tables.{command_named}
use Rattle.command_words.specs.Words.{texts, IsPlaced}
use Rattle.command_words.specs.Commands.{IsInRange}
use Rattle.command_words.specs.Given.{finds_of}
use Rattle.command_words.proofs.WordLists.{first_word}
use Rattle.command_words.proofs.OneMeaning.{says_one, says_first, says_rest}
use Rattle.command_words.proofs.Places.{words_placed}
use Rattle.command_words.proofs.Made.{made_in_range}
use Rattle.command_words.proofs.OwnKeys.{lacks_total}
use Rattle.command_words.proofs.reading.read_words.Goals as goal

pub make_command-requires : goal.make_command-requires
make_command-requires c = grind (arith, common_steps, lacks_total, string_bytes)

pub returns-in_default-command_named-clause-only : goal.returns-in_default-command_named-clause-only
returns-in_default-command_named-clause-only c said says = grind (arith, common_steps, first_word, says_one, says_first, string_bytes)

pub returns-in-Ok-clause-only : goal.returns-in-Ok-clause-only
returns-in-Ok-clause-only c said says =
    let first = first_word c.args.words.now c.first-item.result c.in-len1-up.len_at_least c.first-item.is in
    let named = ap command_named (sym c.as_str.ensures.value) ∙ c.in-Some.ensures in
    says_one (texts c.args.words.now) said _ says
    (says_rest (texts c.args.words.now) _ (string_bytes c.first-item.result) (c.in-Some.task, c.in-Some.keys.now) (Ok (finds_of c.in-Ok.given)) first named
    c.in-Ok.ensures)
    ∙ sym c.make_command.ensures

pub returns-in-Ok-clause-range : goal.returns-in-Ok-clause-range
returns-in-Ok-clause-range c =
    subst (λ made. IfOk made IsInRange) (sym c.make_command.ensures) (made_in_range c.in-Some.task c.in-Some.keys.now (finds_of c.in-Ok.given)
    (lacks_total (string_bytes c.first-item.result) c.in-Some.task c.in-Some.keys.now _ (finds_of c.in-Ok.given)
    (ap command_named (sym c.as_str.ensures.value) ∙ c.in-Some.ensures) c.in-Ok.ensures))

pub returns-in-Ok-clause-place : goal.returns-in-Ok-clause-place
returns-in-Ok-clause-place c =
    let first = first_word c.args.words.now c.first-item.result c.in-len1-up.len_at_least c.first-item.is in
    let named = ap command_named (sym c.as_str.ensures.value) ∙ c.in-Some.ensures in
    subst (λ made. IfErr made (IsPlaced (length c.args.words.now))) (sym c.make_command.ensures)
    (words_placed c.args.words.now _
    (says_rest (texts c.args.words.now) _ (string_bytes c.first-item.result) (c.in-Some.task, c.in-Some.keys.now) (Ok (finds_of c.in-Ok.given)) first named
    c.in-Ok.ensures))

pub returns-in-Err-clause-only : goal.returns-in-Err-clause-only
returns-in-Err-clause-only c said says =
    let first = first_word c.args.words.now c.first-item.result c.in-len1-up.len_at_least c.first-item.is in
    let named = ap command_named (sym c.as_str.ensures.value) ∙ c.in-Some.ensures in
    says_one (texts c.args.words.now) said _ says
    (says_rest (texts c.args.words.now) _ (string_bytes c.first-item.result) (c.in-Some.task, c.in-Some.keys.now) (Err c.in-Err.fault) first named
    c.in-Err.ensures)

pub returns-in-Err-clause-place : goal.returns-in-Err-clause-place
returns-in-Err-clause-place c =
    let first = first_word c.args.words.now c.first-item.result c.in-len1-up.len_at_least c.first-item.is in
    let named = ap command_named (sym c.as_str.ensures.value) ∙ c.in-Some.ensures in
    words_placed c.args.words.now (Err c.in-Err.fault)
    (says_rest (texts c.args.words.now) _ (string_bytes c.first-item.result) (c.in-Some.task, c.in-Some.keys.now) (Err c.in-Err.fault) first named
    c.in-Err.ensures)
