-- Items that are put into places, one after another.
use Rattle.std.proofs.Common.{◌≡◌, ◌≤◌, ◌<◌, List, [], ◌∷◌, ◌++◌, length, take, drop, refl, ap, arith, inl, inr, length-append, length-drop, nat_lt}
use Rattle.std.proofs.Common.{if◌then◌else◌, slice_set, true, false, length-take}
use Rattle.std.proofs.lemmas.Bool.{cases_lt, lt-ltb, le-ltb}
use Rattle.strip122_c.specs.Ranges.{put_over}

pub put_none : {A : Type 0} (places : List A) → put_over [] places ≡ places
put_none [] = refl
put_none (x ∷ places) = refl

put_before : {A : Type 0} (xs : List A) (x : A) (ps : List A) → length xs < length ps → put_over (xs ++ x ∷ []) ps ≡ slice_set (put_over xs ps) (length xs) x
put_before [] x [] lt = absurd (omega (arith, lt))
put_before [] x (p ∷ ps) lt = one x p ps
  where
    one : {A : Type 0} (x p : A) (ps : List A) → put_over (x ∷ []) (p ∷ ps) ≡ x ∷ ps
    one x p [] = refl
    one x p (q ∷ ps) = refl
put_before (y ∷ xs) x [] lt = absurd (omega (arith, lt))
put_before (y ∷ xs) x (p ∷ ps) lt = ap (λ zs. y ∷ zs) (put_before xs x ps (omega (arith, lt)))

put_beyond : {A : Type 0} (xs : List A) (x : A) (ps : List A) → length ps ≤ length xs → put_over (xs ++ x ∷ []) ps ≡ put_over xs ps
put_beyond [] x [] le = refl
put_beyond [] x (p ∷ ps) le = absurd (omega (arith, le))
put_beyond (y ∷ xs) x [] le = refl
put_beyond (y ∷ xs) x (p ∷ ps) le = ap (λ zs. y ∷ zs) (put_beyond xs x ps (omega (arith, le)))

length-put_over : {A : Type 0} (xs ps : List A) → length (put_over xs ps) ≡ length ps
length-put_over xs ps = omega (arith, length-append (take (length ps) xs) (drop (length xs) ps), length-take (length ps) xs, length-drop (length xs) ps)

-- one more is set at the next place, if there is one
pub put_more : {A : Type 0} (xs : List A) (x : A) (ps : List A) →
    put_over (xs ++ x ∷ []) ps ≡ (if nat_lt (length xs) (length (put_over xs ps)) then slice_set (put_over xs ps) (length xs) x else put_over xs ps)
put_more xs x ps = elim (cases_lt (length xs) (length ps)) [
  | inl lt ↦
      let test : nat_lt (length xs) (length (put_over xs ps)) ≡ true =
      lt-ltb (length xs) (length (put_over xs ps)) (omega (arith, lt, length-put_over xs ps)) in
      rw test (put_before xs x ps lt)
  | inr le ↦
      let test : nat_lt (length xs) (length (put_over xs ps)) ≡ false =
      le-ltb (length xs) (length (put_over xs ps)) (omega (arith, le, length-put_over xs ps)) in
      rw test (put_beyond xs x ps le)
]
