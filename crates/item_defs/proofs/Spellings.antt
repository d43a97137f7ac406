-- No code of a shape is a prefix of another.
use Rattle.std.proofs.Common.{◌≡◌, ℕ, zero, suc, ◌^◌, ◌<◌, ◌≤◌, List, [], ◌∷◌, ◌++◌, length, Bool, true, false, eqb, refl, sym, ap, subst, ◌∙◌, arith}
use Rattle.std.proofs.Common.{length-append, take_at, drop_at, take, drop}
use Rattle.std.proofs.lemmas.Bool.Decides.{nat_tests}
use Rattle.item_defs.specs.Bits.{bits_of, copies}
use Rattle.item_defs.specs.Items.{Shape, fixed, zeros_to, coded, spelling, IsSaid, zeros_and_one}
use Rattle.item_defs.specs.Readings.{IsSound, Lacks}
use Rattle.item_defs.proofs.NumberBits.{length-bits_of, same_number}
use Rattle.item_defs.proofs.BitLists.{zeros_differ}

tail_of : List Bool → List Bool
tail_of [] = []
tail_of (x ∷ xs) = xs

same_tail : (x y : Bool) (xs ys : List Bool) → x ∷ xs ≡ y ∷ ys → xs ≡ ys
unfolding tail_of
same_tail x y xs ys e = ap tail_of e

same_fixed : (w m n : ℕ) (xs ys : List Bool) → m < 2 ^ w → n < 2 ^ w → bits_of w m ++ xs ≡ bits_of w n ++ ys → (m ≡ n) × (xs ≡ ys)
same_fixed w m n xs ys p q e =
    let left = length-bits_of w m in
    let right = length-bits_of w n in (
      same_number w m n p q (sym (take_at (bits_of w m) xs w left) ∙ ap (take w) e ∙ take_at (bits_of w n) ys w right),
      sym (drop_at (bits_of w m) xs w left) ∙ ap (drop w) e ∙ drop_at (bits_of w n) ys w right,
    )

one_more : (limit n : ℕ) → zeros_and_one (suc limit) (suc n) ≡ false ∷ zeros_and_one limit n
unfolding copies
one_more limit n = let e : eqb (suc n) (suc limit) ≡ eqb n limit = grind (arith, nat_tests) in rw e refl

one_first : (limit : ℕ) → zeros_and_one (suc limit) 0 ≡ true ∷ []
unfolding copies
one_first limit = let e : eqb 0 (suc limit) ≡ false = grind (arith, nat_tests) in rw e refl

same_zeros : (limit m n : ℕ) (xs ys : List Bool) → m ≤ limit → n ≤ limit → zeros_and_one limit m ++ xs ≡ zeros_and_one limit n ++ ys → (m ≡ n) × (xs ≡ ys)
unfolding copies
same_zeros zero zero zero xs ys p q e = (refl, e)
same_zeros zero zero (suc n) xs ys p q e = absurd (omega arith)
same_zeros zero (suc m) n xs ys p q e = absurd (omega arith)
same_zeros (suc limit) zero zero xs ys p q e =
    let f : (true ∷ []) ++ xs ≡ (true ∷ []) ++ ys = subst (λ r. r ++ xs ≡ r ++ ys) (one_first limit) e in
    (refl, same_tail true true xs ys f)
same_zeros (suc limit) zero (suc n) xs ys p q e =
    let f : true ∷ xs ≡ false ∷ (zeros_and_one limit n ++ ys) = sym (ap (λ r. r ++ xs) (one_first limit)) ∙ e ∙ ap (λ r. r ++ ys) (one_more limit n) in
    absurd cc
same_zeros (suc limit) (suc m) zero xs ys p q e =
    let f : false ∷ (zeros_and_one limit m ++ xs) ≡ true ∷ ys = sym (ap (λ r. r ++ xs) (one_more limit m)) ∙ e ∙ ap (λ r. r ++ ys) (one_first limit) in
    absurd cc
same_zeros (suc limit) (suc m) (suc n) xs ys p q e =
    let f : false ∷ (zeros_and_one limit m ++ xs) ≡ false ∷ (zeros_and_one limit n ++ ys) =
    sym (ap (λ r. r ++ xs) (one_more limit m)) ∙ e ∙ ap (λ r. r ++ ys) (one_more limit n) in
    let r = same_zeros limit m n xs ys (omega arith) (omega arith) (same_tail false false (zeros_and_one limit m ++ xs) (zeros_and_one limit n ++ ys) f) in
    (ap suc r.0, r.1)

pub one_spelling : (s : Shape) (m n : ℕ) (xs ys : List Bool) → IsSound s → IsSaid s m → IsSaid s n → spelling s m ++ xs ≡ spelling s n ++ ys →
    (m ≡ n) × (xs ≡ ys)
one_spelling (fixed w) m n xs ys sound p q e = same_fixed w m n xs ys p q e
one_spelling (zeros_to limit) m n xs ys sound p q e = same_zeros limit m n xs ys p q e
one_spelling (coded codes) m n xs ys sound p q e = sound m n xs ys p q e

-- fewer bits than a shape of w bits has
pub lacks_bits : (w : ℕ) (xs : List Bool) → length xs < w → Lacks (fixed w) xs
lacks_bits w xs lt n more said e = absurd (omega (arith, lt, ap length e, length-append (bits_of w n) more, length-bits_of w n))

-- fewer zeros than there may be, and no one
pub lacks_zeros : (i limit : ℕ) → i < limit → Lacks (zeros_to limit) (copies i false)
lacks_zeros i limit lt n more said e = zeros_differ i limit n more lt said e
