use Rattle.command_words.specs.Help.{page}
use Rattle.command_words.proofs.HelpTexts.{then_more}
use Rattle.command_words.proofs.help.page.Goals as goal

pub returns : goal.returns
unfolding page
returns c =
    then_more _ _ _ _ (then_more _ _ _ _ (then_more _ _ _ _ (then_more _ _ _ _
    c.in_ok-text.ensures.ok c.in_ok-push_commands.ensures) c.in_ok-push_str.ensures.bytes) c.in_ok-push_groups.ensures) c.in_ok-push_str-2.ensures.bytes
