use Rattle.std.proofs.Common.{◌++◌, ◌∙◌, ap, string_bytes}
use Rattle.command_words.proofs.HelpTexts.{then_more}
use Rattle.command_words.proofs.help.key_help.Goals as goal

pub returns : goal.returns
returns c =
    then_more _ _ _ _ (then_more _ _ _ _ (then_more _ _ _ _ (then_more _ _ _ _ (then_more _ _ _ _ (then_more _ _ _ _
    c.new-text.ensures.bytes c.in_ok-push_head.ensures) c.in_ok-push_str.ensures.bytes)
    (c.in_ok-push_str-2.ensures.bytes ∙ ap (λ meaning. string_bytes c.push_str.new.self ++ meaning) c.meaning.ensures)) c.in_ok-push_str-3.ensures.bytes)
    c.in_ok-push_names.ensures) c.in_ok-push_str-4.ensures.bytes
