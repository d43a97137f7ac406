-- Pixels of two rasters that are the same, counted place by place.
use Rattle.std.proofs.Common.{◌≡◌, ◌<◌, ◌+◌, ◌*◌, ◌/◌, ◌%◌, ◌∙◌, ℕ, zero, suc, ℤ, Bool, List, count_by, cond, refl, sym, ap, subst, arith, int_eq}
use Rattle.std.specs.List.{range_with_len}
use Rattle.std.proofs.lemmas.List.Sums.{sum_by-append}
use Rattle.std.proofs.lemmas.Nat.{div_below, mod_below}
use Rattle.std.proofs.Math.Nat.{div-add-mod}
use Rattle.base_122.specs.declared.setting.Setting.{Setting}
use Rattle.raster_rows.specs.Pixels.{pixel_at}
use Rattle.raster_rows.proofs.MadeLaws.{range-append}
use Rattle.strip_coder.specs.Rasters.{image_of}
use Rattle.strip122.specs.Trials.{equal_places}

-- one more place
pub counted-more : (p : ℕ → Bool) (n : ℕ) → count_by p (range_with_len 0 (n + 1)) ≡ count_by p (range_with_len 0 n) + cond (p n) 1 0
counted-more p n =
    let first : 0 + n ≡ n = omega arith in
    let one : count_by p (range_with_len n 1) ≡ cond (p n) 1 0 = omega arith in
    ap (count_by p) (range-append 0 n 1) ∙ sum_by-append (λ k. cond (p k) 1 0) (range_with_len 0 n) (range_with_len (0 + n) 1)
    ∙ ap (λ k. count_by p (range_with_len 0 n) + count_by p (range_with_len k 1)) first ∙ ap (λ m. count_by p (range_with_len 0 n) + m) one

-- by two tests that agree at each place
counted-same : (p q : ℕ → Bool) (n : ℕ) → ((k : ℕ) → k < n → p k ≡ q k) → count_by p (range_with_len 0 n) ≡ count_by q (range_with_len 0 n)
counted-same p q zero same = refl
counted-same p q (suc n) same =
    let e : n + 1 ≡ suc n = omega arith in
    subst (λ m. count_by p (range_with_len 0 m) ≡ count_by q (range_with_len 0 m)) e
    (counted-more p n ∙ ap (λ m. m + cond (p n) 1 0) (counted-same p q n (λ k lt. same k (omega (arith, lt))))
    ∙ ap (λ b. count_by q (range_with_len 0 n) + cond b 1 0) (same n (omega arith)) ∙ sym (counted-more q n))

-- of images that are the same in these rows and columns, the same places are equal
pub places-same : (rows width : ℕ) (x y a b : ℕ → ℕ → ℤ) → 0 < width → ((i j : ℕ) → i < rows → j < width → x i j ≡ a i j) →
    ((i j : ℕ) → i < rows → j < width → y i j ≡ b i j) →
    equal_places rows width x y ≡ equal_places rows width a b
places-same rows width x y a b some first second =
    counted-same (λ k. int_eq (x (k / width) (k % width)) (y (k / width) (k % width))) (λ k. int_eq (a (k / width) (k % width)) (b (k / width) (k % width)))
    (rows * width)
    (λ k lt.
    let row : k / width < rows = div_below k width rows some lt in
    let column : k % width < width = mod_below k width some in
    ap (λ v. int_eq v (y (k / width) (k % width))) (first (k / width) (k % width) row column) ∙ ap (int_eq (a (k / width) (k % width)))
    (second (k / width) (k % width) row column))

-- a place by its row and its column
place-at : (width place : ℕ) → place / width * width + place % width ≡ place
place-at width place = let turned : width * (place / width) ≡ place / width * width = grind arith in ap (λ n. n + place % width) (sym turned)
    ∙ div-add-mod place width

-- the equal places of two rasters before one
abbrev pub equal_before : Setting → (xs ys : List ℕ) → ℕ → ℕ
equal_before s xs ys n = count_by (λ place. int_eq (image_of s xs (place / s.width) (place % s.width)) (image_of s ys (place / s.width) (place % s.width)))
    (range_with_len 0 n)

-- and with that one
pub equal-more : (s : Setting) (xs ys : List ℕ) (place before after : ℕ) (same : Bool) →
    same ≡ int_eq (pixel_at s.depth s.signed xs place) (pixel_at s.depth s.signed ys place) →
    before ≡ equal_before s xs ys place → after ≡ before + cond same 1 0 → after ≡ equal_before s xs ys (place + 1)
equal-more s xs ys place before after same is so step =
    let here : same ≡ int_eq (image_of s xs (place / s.width) (place % s.width)) (image_of s ys (place / s.width) (place % s.width)) =
    is ∙ ap (λ k. int_eq (pixel_at s.depth s.signed xs k) (pixel_at s.depth s.signed ys k)) (sym (place-at s.width place)) in
    step ∙ ap (λ n. n + cond same 1 0) so ∙ ap (λ b. equal_before s xs ys place + cond b 1 0) here
    ∙ sym (counted-more (λ k. int_eq (image_of s xs (k / s.width) (k % s.width)) (image_of s ys (k / s.width) (k % s.width))) place)
