-- Settings that are admitted: each field in range, and the image's height known.
use Rattle.std.proofs.Common.{◌≡◌, ◌≢◌, ◌<◌, ◌*◌, ◌∙◌, ℕ, refl, sym, subst, ap, inr, arith, false, ◌==◌, ◌&&◌, None}
use Rattle.std.proofs.lemmas.Bool.Decides.{nat_tests}
use Rattle.base_122.specs.Ranges.{is_within, width_range, first_out_of_range}
use Rattle.base_122.specs.Setting.{IsHeight}
use Rattle.base_122.specs.declared.setting.Setting.{Setting}
use Rattle.base_122.proofs.RangeChecks.{none-from_in_range}
use Rattle.strip_coder.proofs.PlanLaws.{known_height, known_tallest}
use Rattle.strip_coder.specs.Rasters.{row_length, most_length, LacksRows}
use Rattle.strip122_c.specs.WholeEncoding.{IsAdmitted, first_refused, raster_length}

pub some_rows : (s : Setting) → IsAdmitted s → s.rows ≢ 0
some_rows s admitted none = let height = admitted.height in omega (arith, none, height)

pub own_height : (s : Setting) → IsAdmitted s → IsHeight s s.rows
own_height s admitted = (admitted.height, inr refl)

-- no other height is left open
pub only_height : (s : Setting) (rows : ℕ) → IsAdmitted s → IsHeight s rows → rows ≡ s.rows
only_height s rows admitted height = sym (known_height s rows (some_rows s admitted) height)

not_open : (s : Setting) → IsAdmitted s → (s.rows == 0) ≡ false
not_open s admitted = let some = some_rows s admitted in grind (arith, nat_tests)

pub own_most : (s : Setting) → IsAdmitted s → most_length s ≡ raster_length s
own_most s admitted = ap (λ rows. rows * row_length s) (known_tallest s (some_rows s admitted))

pub own_lacks : (s : Setting) (octets : ℕ) → IsAdmitted s → LacksRows s octets → octets < raster_length s
own_lacks s octets admitted lacks = subst (λ n. octets < n) (own_most s admitted) lacks.fewer

-- a setting whose rows aren't left open, or whose width is out of range, is refused by its first field out of range
pub checks : (s : Setting) → ((s.rows == 0) && is_within width_range s.width) ≡ false → first_refused s ≡ first_out_of_range s
checks s passes = rw passes refl

pub none_refused : (s : Setting) → IsAdmitted s → first_refused s ≡ None
none_refused s admitted = checks s passes ∙ none-from_in_range s admitted.range
  where
    passes : ((s.rows == 0) && is_within width_range s.width) ≡ false
    passes = let e = not_open s admitted in rw e refl
