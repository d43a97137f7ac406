use Rattle.std.proofs.Common.{arith, false, codes, map, string_bytes, ◌∙◌}
use Rattle.command_words.specs.Listed.{commands}
use Rattle.command_words.specs.Help.{key_line, key_head, columns}
use Rattle.command_words.proofs.HelpTexts.{appended, line_made}
use Rattle.command_words.proofs.help.push_key.Goals as goal

pub returns : goal.returns
unfolding key_line
returns c =
    appended c.push_str-2.result (string_bytes c.args.text.now) (string_bytes c.push_columns.new.text) (string_bytes c.push_str-2.new.self)
    (key_line c.args.key) (codes "\n") c.push_str-2.ensures.bytes
    (line_made (string_bytes c.args.text.now) (codes "  ") (key_head c.args.key false) (string_bytes c.push_str.new.self) (string_bytes c.push_head.new.text)
    (string_bytes c.push_spaces.new.text) (string_bytes c.push_columns.new.text) (string_bytes c.push_str-2.new.self) (codes "\n") c.len-start.result
    c.saturating_sub-column.result
    (λ column. columns c.args.key column (map (λ row. (row.0, row.2)) commands))
    (c.len-start.ensures ∙ c.args.text.now.bytes.ok.0) c.in_ok-push_str.ensures.bytes c.in_ok-push_head.ensures c.in_ok-push_spaces.ensures
    (omega (arith, c.saturating_sub-column.ensures, c.len.ensures, c.push_spaces.new.text.bytes.ok.0)) c.in_ok-push_columns.ensures)
