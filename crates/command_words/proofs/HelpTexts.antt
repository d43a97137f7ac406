-- The texts of help, piece by piece.
use Rattle.std.proofs.Common.{rules, ◌≡◌, ◌-◌, ℕ, List, ◌++◌, length, cond, arith, append_assoc, ◌∙◌, ap, Result, Ok, Err, IfOk, is_ok}
use Rattle.std.proofs.lemmas.List.{length-append}
use Rattle.command_words.specs.declared.tables.Key.{Key}
use Rattle.command_words.specs.declared.tables.Key.TheVariants.{Stop, Weights}
use Rattle.command_words.specs.Listed.{default_of}
use Rattle.command_words.specs.Values.{form_of, HasForm}
use Rattle.command_words.specs.Help.{spaces_to}

pub then_more : (a b x y : List ℕ) → a ≡ x → b ≡ a ++ y → b ≡ x ++ y
then_more a b x y p q = q ∙ ap (λ t. t ++ y) p

-- the last piece is appended, if there is memory
pub appended : {T E : Type 0} (result : Result T E) (old mid new more last : List ℕ) → new ≡ cond (is_ok result) (mid ++ last) mid →
    (new ≡ mid ++ last → new ≡ old ++ more) → IfOk result (λ _. new ≡ old ++ more)
appended (Ok x) old mid new more last is whole = whole is
appended (Err e) old mid new more last is whole = tt

-- a line that begins at `start`, with spaces up to a column, and then what depends on the column
pub line_made : (old first head a b d e f last : List ℕ) (start column : ℕ) (at : ℕ → List ℕ) → start ≡ length old → a ≡ old ++ first → b ≡ a ++ head →
    d ≡ b ++ spaces_to (length b - start) 45 → column ≡ length d - start → e ≡ d ++ at column → f ≡ e ++ last →
    f ≡ old ++ (first ++ head ++ spaces_to (length (first ++ head)) 45 ++ at (length (first ++ head ++ spaces_to (length (first ++ head)) 45)) ++ last)
line_made old first head a b d e f last start column at is_start is_a is_b is_d is_column is_e is_f =
    let whole : List ℕ = first ++ head ++ spaces_to (length (first ++ head)) 45 in
    let begun : b ≡ old ++ (first ++ head) = is_b ∙ ap (λ t. t ++ head) is_a ∙ append_assoc old first head in
    let used : length b - start ≡ length (first ++ head) = omega (arith, ap length begun, length-append old (first ++ head), is_start) in
    let spaced : d ≡ old ++ whole =
    is_d ∙ ap (λ n. b ++ spaces_to n 45) used ∙ ap (λ t. t ++ spaces_to (length (first ++ head)) 45) begun ∙ append_assoc old (first ++ head)
    (spaces_to (length (first ++ head)) 45) in
    let reached : column ≡ length whole = omega (arith, ap length spaced, length-append old whole, is_start, is_column) in
    let listed : e ≡ old ++ (whole ++ at (length whole)) =
    is_e ∙ ap (λ n. d ++ at n) reached ∙ ap (λ t. t ++ at (length whole)) spaced ∙ append_assoc old whole (at (length whole)) in
    is_f ∙ ap (λ t. t ++ last) listed ∙ append_assoc old (whole ++ at (length whole)) last

-- each default has its form
pub defaults_have_forms : (key : Key) → HasForm (form_of (default_of key)) (default_of key)
defaults_have_forms Stop = search rules
defaults_have_forms Weights = search rules
defaults_have_forms key = search rules
