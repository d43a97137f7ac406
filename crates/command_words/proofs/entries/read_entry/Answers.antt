use Rattle.std.proofs.Common.{sym, ◌∙◌, ap, subst, lit<, Some}
use Rattle.std.proofs.lemmas.Str.Pattern.{split_parts}
use Rattle.command_words.specs.Values.{form_of, HasForm}
use Rattle.command_words.specs.Entries.{IsKeyed}
use Rattle.command_words.specs.Given.{finds_of}
use Rattle.command_words.proofs.KeyTexts.{keyed_from_parts, none_from}
use Rattle.command_words.proofs.entries.read_entry.Goals as goal

pub returns : goal.returns
returns c =
    let parts = split_parts 61 c.args.word.now (Some (c.in-Some.key, c.in-Some.text)) c.in-Some.ensures.cases (lit< tt) in
    record {
      keyed = subst (IsKeyed c.args.word.now c.in-Some-named.key) c.in-Some-read_value.ensures.1
          (keyed_from_parts c.args.word.now c.in-Some.key.now c.in-Some.text.now c.in-Some-named.key parts.0 (sym c.in-Some-named.ensures));
      known = sym c.is_among.ensures ∙ c.if-not-is_among.false;
      fresh = none_from (finds_of c.args.given.now c.in-Some-named.key) (sym c.has.ensures ∙ c.if-has.false);
      form = subst (λ form. HasForm form c.in-Some-read_value.value) (c.form.ensures ∙ ap (λ row. form_of row.default) c.row.ensures)
          c.in-Some-read_value.ensures.0;
    }
