-- Pixels at places of longer lists of octets.
use Rattle.std.proofs.Common.{◌≡◌, ◌<◌, ◌≤◌, ◌+◌, ◌*◌, ◌/◌, ◌∙◌, ℕ, Bool, true, false, nat_le, List, ◌++◌, length, get_or, take, drop, sym, ap, arith}
use Rattle.std.proofs.Common.{if◌then◌else◌, mul-le-mul_right}
use Rattle.std.proofs.lemmas.List.{get_or_append_left, get_or-append-add, length-take-le, take-append-drop}
use Rattle.std.proofs.lemmas.Nat.{div-mul-add, le-div}
use Rattle.std.proofs.lemmas.Bool.Decides.{nat_tests}
use Rattle.raster_rows.specs.Pixels.{pixel_size, value_of, pixel_at, whole_pixels}

-- a pixel has one or two octets
pub size_some : (depth : ℕ) → 0 < pixel_size depth
size_some depth = grind (arith, nat_tests, nat_le, true, false)

pub size_most : (depth : ℕ) → pixel_size depth ≤ 2
size_most depth = grind (arith, nat_tests, nat_le, true, false)

-- the pixels at two places are the same if their octets are
same_numbers : (b : Bool) (xs ys : List ℕ) (i j : ℕ) →
    ((m : ℕ) → m < (if b then 1 else 2) → get_or xs (i * (if b then 1 else 2) + m) 0 ≡ get_or ys (j * (if b then 1 else 2) + m) 0) →
    (if b then get_or xs i 0 else 256 * get_or xs (2 * i) 0 + get_or xs (2 * i + 1) 0) ≡
    (if b then get_or ys j 0 else 256 * get_or ys (2 * j) 0 + get_or ys (2 * j + 1) 0)
same_numbers true xs ys i j h =
    let first : get_or xs (i * 1 + 0) 0 ≡ get_or ys (j * 1 + 0) 0 = h 0 (omega arith) in
    let left : i * 1 + 0 ≡ i = omega arith in
    let right : j * 1 + 0 ≡ j = omega arith in
    ap (λ k. get_or xs k 0) (sym left) ∙ first ∙ ap (λ k. get_or ys k 0) right
same_numbers false xs ys i j h =
    let first : get_or xs (i * 2 + 0) 0 ≡ get_or ys (j * 2 + 0) 0 = h 0 (omega arith) in
    let second : get_or xs (i * 2 + 1) 0 ≡ get_or ys (j * 2 + 1) 0 = h 1 (omega arith) in
    let first_left : 2 * i ≡ i * 2 + 0 = omega arith in
    let first_right : j * 2 + 0 ≡ 2 * j = omega arith in
    let second_left : 2 * i + 1 ≡ i * 2 + 1 = omega arith in
    let second_right : j * 2 + 1 ≡ 2 * j + 1 = omega arith in
    let high : get_or xs (2 * i) 0 ≡ get_or ys (2 * j) 0 = ap (λ k. get_or xs k 0) first_left ∙ first ∙ ap (λ k. get_or ys k 0) first_right in
    let low : get_or xs (2 * i + 1) 0 ≡ get_or ys (2 * j + 1) 0 = ap (λ k. get_or xs k 0) second_left ∙ second ∙ ap (λ k. get_or ys k 0) second_right in
    cc

pub same_pixels : (depth : ℕ) (signed : Bool) (xs ys : List ℕ) (i j : ℕ) →
    ((m : ℕ) → m < pixel_size depth → get_or xs (i * pixel_size depth + m) 0 ≡ get_or ys (j * pixel_size depth + m) 0) →
    pixel_at depth signed xs i ≡ pixel_at depth signed ys j
same_pixels depth signed xs ys i j h = ap (value_of depth signed) (same_numbers (nat_le depth 8) xs ys i j h)

-- a pixel that is whole in the first of two lists
pub pixel_at-append_left : (depth : ℕ) (signed : Bool) (xs ys : List ℕ) (k : ℕ) → (k + 1) * pixel_size depth ≤ length xs →
    pixel_at depth signed (xs ++ ys) k ≡ pixel_at depth signed xs k
pixel_at-append_left depth signed xs ys k le = grind (arith, nat_tests, same_pixels, get_or_append_left)

-- a pixel of the second of two lists, if the first has whole pixels
pub pixel_at-append_right : (depth : ℕ) (signed : Bool) (xs ys : List ℕ) (n k : ℕ) → length xs ≡ n * pixel_size depth →
    pixel_at depth signed (xs ++ ys) (n + k) ≡ pixel_at depth signed ys k
pixel_at-append_right depth signed xs ys n k len = grind (arith, nat_tests, same_pixels, get_or, get_or-append-add)

-- a pixel that is whole in a part of a list
pub pixel_at-take : (depth : ℕ) (signed : Bool) (xs : List ℕ) (m k : ℕ) → m ≤ length xs → (k + 1) * pixel_size depth ≤ m →
    pixel_at depth signed (take m xs) k ≡ pixel_at depth signed xs k
pixel_at-take depth signed xs m k le whole =
    let size : length (take m xs) ≡ m = length-take-le m xs le in
    let left : pixel_at depth signed (take m xs ++ drop m xs) k ≡ pixel_at depth signed (take m xs) k =
    pixel_at-append_left depth signed (take m xs) (drop m xs) k (omega (arith, size)) in
    sym left ∙ ap (λ zs. pixel_at depth signed zs k) (take-append-drop m xs)

-- whole pixels, and less than one more
pub whole_pixels-is : (depth : ℕ) (octets : List ℕ) (n rest : ℕ) → length octets ≡ n * pixel_size depth + rest → rest < pixel_size depth →
    whole_pixels depth octets ≡ n
whole_pixels-is depth octets n rest len few = ap (λ k. k / pixel_size depth) len ∙ div-mul-add n (pixel_size depth) rest few

-- a pixel that is whole
pub whole_pixels-above : (depth : ℕ) (octets : List ℕ) (k : ℕ) → (k + 1) * pixel_size depth ≤ length octets → k < whole_pixels depth octets
whole_pixels-above depth octets k le = grind (arith, nat_tests, le-div, size_some)

-- a pixel before the n-th is whole in n pixels
pub whole_before : (size k n : ℕ) → k < n → (k + 1) * size ≤ n * size
whole_before size k n lt = mul-le-mul_right size (omega arith)
