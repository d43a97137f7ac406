use Rattle.std.proofs.Common.{sym, subst, codes, string_bytes, ◌++◌, arith, append_assoc}
use Rattle.std.proofs.lemmas.Grind.{common_steps}
use Rattle.command_words.specs.Values.{form_of}
use Rattle.command_words.specs.Help.{Appends, values_text, numbers_text}
use Rattle.command_words.proofs.HelpTexts.{appended}
use Rattle.command_words.proofs.help.push_range.Goals as goal

pub returns-in_ok-push_numbers-in-Rows : goal.returns-in_ok-push_numbers-in-Rows
returns-in_ok-push_numbers-in-Rows c =
    subst (λ range. Appends c.push_str-in-Rows-2.result c.args.text.now c.push_str-in-Rows-2.new.self (values_text range (form_of c.args.row.default)))
    (sym c.in-Rows.is)
    (appended c.push_str-in-Rows-2.result (string_bytes c.args.text.now) (string_bytes c.push_numbers.new.text) (string_bytes c.push_str-in-Rows-2.new.self)
    (codes "0|" ++ numbers_text c.in-Rows.range ++ codes ", 0 for encode") (codes ", 0 for encode") c.push_str-in-Rows-2.ensures.bytes
    (λ whole. grind (arith, common_steps, append_assoc)))

pub returns-in-Total : goal.returns-in-Total
returns-in-Total c =
    subst (λ range. Appends c.push_str-in-Total.result c.args.text.now c.push_str-in-Total.new.self (values_text range (form_of c.args.row.default)))
    (sym c.in-Total.is)
    (appended c.push_str-in-Total.result (string_bytes c.args.text.now) (string_bytes c.args.text.now) (string_bytes c.push_str-in-Total.new.self) _ _
    c.push_str-in-Total.ensures.bytes (λ whole. whole))

pub returns-in-Fill : goal.returns-in-Fill
returns-in-Fill c =
    subst (λ range. Appends c.push_str-in-Fill.result c.args.text.now c.push_str-in-Fill.new.self (values_text range (form_of c.args.row.default)))
    (sym c.in-Fill.is)
    (appended c.push_str-in-Fill.result (string_bytes c.args.text.now) (string_bytes c.args.text.now) (string_bytes c.push_str-in-Fill.new.self) _ _
    c.push_str-in-Fill.ensures.bytes (λ whole. whole))

pub returns-in-Cameras : goal.returns-in-Cameras
returns-in-Cameras c =
    subst (λ range. Appends c.push_str-in-Cameras.result c.args.text.now c.push_str-in-Cameras.new.self (values_text range (form_of c.args.row.default)))
    (sym c.in-Cameras.is)
    (appended c.push_str-in-Cameras.result (string_bytes c.args.text.now) (string_bytes c.args.text.now) (string_bytes c.push_str-in-Cameras.new.self) _ _
    c.push_str-in-Cameras.ensures.bytes (λ whole. whole))
