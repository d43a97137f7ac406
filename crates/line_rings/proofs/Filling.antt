-- A ring that is filled with equal rows.
use Rattle.std.proofs.Common.{◌≡◌, ℕ, ◌+◌, ◌-◌, ◌<◌, List, [], ◌∷◌, ◌++◌, length, map, drop, replicate, sym, ap, ◌∙◌, arith}
use Rattle.std.proofs.lemmas.List.{length-map, length-replicate, map-append, replicate_more, length_push}
use Rattle.circular_buffer.specs.Buffer.{keep_last}

-- a list has the same length as the list of what its elements show
pub length-filled : {X Y : Type 0} (f : X → Y) (n : ℕ) (xs : List X) (y : Y) → map f xs ≡ replicate n y → length xs ≡ n
length-filled f n xs y e = sym (length-map xs f) ∙ ap length e ∙ length-replicate n y

pub map-keep_last : {X Y : Type 0} (f : X → Y) (n k : ℕ) (xs : List X) (x : X) (y : Y) → map f xs ≡ replicate n y → f x ≡ y → n < k →
    map f (keep_last k (xs ++ x ∷ [])) ≡ replicate (n + 1) y
map-keep_last {Y = Y} f n k xs x y e ex h =
    let long = length-filled f n xs y e in
    let none : length (xs ++ x ∷ []) - k ≡ 0 = omega (arith, length_push xs x) in
    ap (λ (m : ℕ). map f (drop m (xs ++ x ∷ []))) none
    ∙ map-append f xs (x ∷ [])
    ∙ ap (λ (t : List Y). t ++ f x ∷ []) e
    ∙ ap (λ (t : Y). replicate n y ++ t ∷ []) ex
    ∙ replicate_more n y
