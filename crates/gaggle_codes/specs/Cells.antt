-- The cells that numbers are put into. (This project's own.)
use Rattle.std.specs.Prelude.{◌≡◌, ◌<◌, ℕ, ◌*◌, ◌^◌, ℤ, pos, ◌*ℤ◌, List, length, slice_index, slice_index_or, if◌then◌else◌, nat_lt, Result, Ok, Err}
use Rattle.std.specs.Int.{div_ceil}
use Rattle.number_defs.specs.Ranges.{number_at}
use Rattle.number_defs.specs.Cells.{cell_at}
use Rattle.number_defs.specs.Gaggles.{Kind}
use Rattle.bit_pipe.specs.declared.fault.Part.{Part}
use Rattle.bit_pipe.specs.declared.fault.TextFault.{TextFault}
use Rattle.bit_pipe.specs.Sources.{SourceOf}
use Rattle.bit_pipe.specs.SourceState.{SourceState}
use Rattle.bit_pipe.specs.ScriptSources.{Found, by_fault, ReadsAs}
use Rattle.number_defs.specs.NumberScript.{numbers_script}
use Rattle.gaggle_codes.specs.declared.range.NumberRange.{NumberRange}
use Rattle.gaggle_codes.specs.Given.{AreWithin, by_given}

-- the number at a place: the one of this height times 2 ^ shift, and 0 for further ones
abbrev pub given_number : NumberRange → ℕ → List ℕ → ℕ → ℤ
given_number range shift heights m =
    if nat_lt m (length heights) then number_at range.signed range.bits (slice_index heights m) *ℤ pos (2 ^ shift) else pos 0

-- every `stride`-th cell has the number of its height, and 0 after the last; all other cells are as they were
pub record SetsCells (range : NumberRange) (shift stride : ℕ) (heights : List ℕ) (old new : List ℤ) : Type 0 where
  pub size : length new ≡ length old
  pub numbers : (m : ℕ) → m * stride < length old → cell_at stride new m ≡ given_number range shift heights m
  pub others : (i : ℕ) → ((m : ℕ) → i ≡ m * stride → ⊥) → slice_index_or new i (pos 0) ≡ slice_index_or old i (pos 0)

abbrev pub by_numbers : Result (Part × ℕ) TextFault → List ℕ → Found (List ℕ) (List ℕ)
by_numbers (Ok p) given = by_given (Ok p.0) given
by_numbers (Err fault) given = by_fault fault given

abbrev pub IsCounted : Result (Part × ℕ) TextFault → ℕ → Type 0
IsCounted (Ok p) count = p.1 ≡ count
IsCounted (Err fault) count = Unit {0}

-- numbers were read as their script says: the cells have those that it gives, and 0 for further ones
pub record TakesNumbers {I : Type 0} (k : SourceOf I) (kind : Kind) (range : NumberRange) (most shift stride : ℕ)
    (result : Result (Part × ℕ) TextFault) (old new : SourceState I) (before now : List ℤ) : Type 0 where
  pub given : List ℕ
  pub read : ReadsAs k (numbers_script kind (div_ceil (length before) stride)) (by_numbers result given) old new
  pub counted : IsCounted result (length given)
  pub within : AreWithin range.bits most given
  pub cells : SetsCells range shift stride given before now
