-- The state of the rolling inverse after the row that it returned is no longer read.
use Rattle.std.specs.Prelude.{◌≡◌, ℕ, ◌+◌, Bool, true, false, Option, is_some, List, ℤ}
use Rattle.std.specs.Borrow.{MutBor, Bor, Fml}
use Rattle.std.specs.Io.BufRead.{Rests}
use Rattle.wave_defs.specs.Pyramid.{Pyramid}
use Rattle.wave_defs.specs.Blocks.{Place}
use Rattle.inverse_strip.specs.Kept.{IsCompletion, HasNext, IsIdle}
use Rattle.inverse_strip.specs.declared.strip.StripInverse.{StripInverse}
use Rattle.inverse_strip.specs.contracts.strip.StripInverse.{the_row}
use Rattle.inverse_strip.specs.Strip.{FollowStrip, columns_of, height_of, taken_of, next_of, numbers_of}

-- one more row was made, or none can be made before the next block row
pub record Moves (old new : StripInverse) (made : Bool) : Type 0 where
  pub height : height_of new ≡ height_of old
  pub width : columns_of new ≡ columns_of old
  pub taken : taken_of new ≡ taken_of old
  pub given : made ≡ true → next_of new ≡ next_of old + 1
  pub could : made ≡ true → HasNext (taken_of old) (next_of old) (height_of old)
  pub kept : made ≡ false → next_of new ≡ next_of old
  pub idle : made ≡ false → IsIdle (taken_of new) (next_of new) (height_of new)
  pub numbers : (q : Place) → numbers_of new q ≡ numbers_of old q
  pub follows : (p : Pyramid) (r : ℕ) → IsCompletion (taken_of old) (height_of old) r → FollowStrip p r old → FollowStrip p r new

abbrev pub MovesAfter : MutBor StripInverse → Option (Bor (List ℤ)) → Fml
MovesAfter s row = Rests the_row s (λ new. Moves s.now new (is_some row))
