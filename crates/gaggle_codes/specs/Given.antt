-- The heights that a reader of numbers finds. (This project's own.)
use Rattle.std.specs.Prelude.{◌≡◌, ◌<◌, ◌≤◌, ℕ, ◌+◌, ◌^◌, Bool, false, nat_lt, List, [], ◌∷◌, length, take, slice_index, Result, Ok, Err}
use Rattle.number_defs.specs.Gaggles.{Kind}
use Rattle.gaggle_codes.specs.declared.range.NumberRange.{NumberRange}
use Rattle.gaggle_codes.specs.declared.gaggle_heights.GaggleHeights.{GaggleHeights}
use Rattle.bit_pipe.specs.declared.fault.Part.{Part}
use Rattle.bit_pipe.specs.declared.fault.Part.TheVariants.{Whole, Ended}
use Rattle.bit_pipe.specs.declared.fault.TextFault.{TextFault}
use Rattle.bit_pipe.specs.ScriptSources.{Found, by_part}

-- the heights of a gaggle's first numbers
abbrev pub heights_in : GaggleHeights → List ℕ
heights_in g = take g.len g.heights

-- the last number that was taken, by its height
abbrev pub last_in : GaggleHeights → ℕ
last_in g = g.last

-- what a call found that adds to what is given
abbrev pub by_given : {A : Type 0} → Result Part TextFault → A → Found A A
by_given result given = by_part result given given

-- at most this number of numbers were added, and all of them if all was read
abbrev pub Adds : Result Part TextFault → ℕ → (old new : List ℕ) → Type 0
Adds (Ok Whole) count old new = length new ≡ length old + count
Adds (Ok Ended) count old new = length new ≤ length old + count
Adds (Err fault) count old new = length new ≤ length old + count

-- the first number of all was added, if it was read
abbrev pub IsFirst : Result Part TextFault → GaggleHeights → Type 0
IsFirst (Ok Whole) g = heights_in g ≡ last_in g ∷ []
IsFirst (Ok Ended) g = heights_in g ≡ []
IsFirst (Err fault) g = heights_in g ≡ []

-- these are heights of N bits, and none is above `most`
pub record AreWithin (N most : ℕ) (heights : List ℕ) : Type 0 where
  pub few : (i : ℕ) → slice_index heights i < 2 ^ N
  pub low : (i : ℕ) → slice_index heights i ≤ most

-- numbers of a range, of which a reader refuses some
abbrev pub kind_of : NumberRange → (ℕ → Bool) → Kind
kind_of range too_great = record { signed = range.signed; bits = range.bits; too_great = too_great }

-- numbers of a range, of which none is too great
abbrev pub any_of : NumberRange → Kind
any_of range = kind_of range (λ height. false)

-- numbers of N bits are too great exactly if they are above `most`
pub record IsBound (most N : ℕ) (too_great : ℕ → Bool) : Type 0 where
  pub at : (height : ℕ) → height < 2 ^ N → too_great height ≡ nat_lt most height
