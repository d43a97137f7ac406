use Rattle.std.proofs.Common.{decimal, ◌∙◌, lit<, codes, Some, None}
use Rattle.std.proofs.lemmas.Bool.{false≢true}
use Rattle.std.proofs.lemmas.Slice.Eq.{bytes_eq-Decides}
use Rattle.std.proofs.lemmas.Str.Pattern.{split_after}
use Rattle.command_words.proofs.ValueTexts.{no_dot, not_stop}
use Rattle.command_words.proofs.values.read_stop.Goals as goal

pub returns-in_default : goal.returns-in_default
returns-in_default c =
    not_stop c.args.text.now (λ dc. false≢true (c.if-eq.ensures ∙ (bytes_eq-Decides c.args.text.now (codes "dc")).1 dc))
    (λ p s in_p in_s e. split_after 46 c.args.text.now (decimal p) (decimal s) None c.in_default.ensures.cases (lit< tt) e (no_dot p in_p))

pub returns-in_default-read_number : goal.returns-in_default-read_number
returns-in_default-read_number c =
    not_stop c.args.text.now (λ dc. false≢true (c.if-eq.ensures ∙ (bytes_eq-Decides c.args.text.now (codes "dc")).1 dc))
    (λ p s in_p in_s e.
    let parts = split_after 46 c.args.text.now (decimal p) (decimal s) (Some (c.in-Some.plane, c.in-Some.stage)) c.in-Some.ensures.cases (lit< tt) e
    (no_dot p in_p) in
    c.in_default-read_number.ensures p in_p parts.0)

pub returns-in_default-read_number-2 : goal.returns-in_default-read_number-2
returns-in_default-read_number-2 c =
    not_stop c.args.text.now (λ dc. false≢true (c.if-eq.ensures ∙ (bytes_eq-Decides c.args.text.now (codes "dc")).1 dc))
    (λ p s in_p in_s e.
    let parts = split_after 46 c.args.text.now (decimal p) (decimal s) (Some (c.in-Some.plane, c.in-Some.stage)) c.in-Some.ensures.cases (lit< tt) e
    (no_dot p in_p) in
    c.in_default-read_number-2.ensures s in_s parts.1)
