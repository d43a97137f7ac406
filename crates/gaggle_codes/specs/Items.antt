-- The result of a call for one item, of which a caller may refuse more. (This project's own.)
use Rattle.std.specs.Prelude.{◌≡◌, ℕ, false, None, Some, Ok, Err}
use Rattle.item_defs.specs.Items.{Form}
use Rattle.bit_pipe.specs.Sources.{SourceOf}
use Rattle.bit_pipe.specs.SourceState.{SourceState, EndsItem}
use Rattle.number_defs.specs.Gaggles.{Kind}
use Rattle.bit_pipe.specs.ScriptSources.{Found, got, ends, refuses, fails}

-- an item of this form was taken, and its number has this value; or the form refuses it, or the bits end within it
abbrev pub EndsForm : {I : Type 0} → SourceOf I → Form → (ℕ → ℕ) → Found (Unit {0}) ℕ → SourceState I → SourceState I → Type 0
EndsForm k form value (got v) old new = (n : ℕ) × (value n ≡ v) × (form.refusal n ≡ None) × EndsItem k form.shape (Ok (Some n)) old new
EndsForm k form value (ends g) old new = EndsItem k form.shape (Ok None) old new
EndsForm k form value (refuses g name) old new = (n : ℕ) × (form.refusal n ≡ Some name) × EndsItem k form.shape (Ok (Some n)) old new
EndsForm k form value (fails g e) old new = EndsItem k form.shape (Err e) old new

-- numbers of N bits, of which none is too great
abbrev pub free_kind : ℕ → Kind
free_kind N = record { signed = false; bits = N; too_great = λ height. false }
