-- The number of samples that rings of rows of one width hold.
use Rattle.std.proofs.Common.{◌≡◌, ℕ, suc, ◌+◌, ◌*◌, ◌<◌, ℤ, List, [], ◌∷◌, length, get_or, sym, ap, ◌∙◌, arith, Option, Some, None, Vec, vec_len}
use Rattle.std.proofs.Common.{IsSomeAnd, suc-mul}
use Rattle.std.proofs.lemmas.List.Sums.{sum_by-cons}
use Rattle.std.proofs.lemmas.Bool.Decides.{nat_tests}
use Rattle.wave_defs.specs.Rings.{AreRows}
use Rattle.wave_strip.specs.Samples.{samples_in, room_in}

each_row : (rows : List (List ℤ)) (w : ℕ) → ((t : ℕ) → t < length rows → length (get_or rows t []) ≡ w) → samples_in rows ≡ length rows * w
each_row [] w h = grind arith
each_row (x ∷ xs) w h =
    let here : length x ≡ w = h 0 (omega arith) in
    let rest = each_row xs w (λ t l. h (suc t) (omega arith)) in
    sum_by-cons length x xs ∙ ap (λ (k : ℕ). k + samples_in xs) here ∙ ap (λ (k : ℕ). w + k) rest ∙ (let e : w + length xs * w ≡ length xs * w + w =
    omega arith in e) ∙ sym (suc-mul (length xs) w)

pub samples_in-rows : (n w : ℕ) (rows : List (List ℤ)) → AreRows n w rows → samples_in rows ≡ n * w
samples_in-rows n w rows s = grind (arith, nat_tests, each_row)

pub room_in-wide : {A Z : Type 0} (room : Option (Vec A Z)) (w : ℕ) → IsSomeAnd room (λ v. vec_len v ≡ w) → room_in room ≡ w
room_in-wide None w h = absurd h
room_in-wide (Some v) w h = h
