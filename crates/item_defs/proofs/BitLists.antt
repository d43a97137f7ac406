-- Lists of bits of one kind, and prefixes of lists.
use Rattle.std.proofs.Common.{◌≡◌, ℕ, zero, suc, ◌+◌, ◌<◌, ◌≤◌, List, [], ◌∷◌, ◌++◌, length, take, Bool, true, false, eqb, refl, ap, ◌∙◌, append_assoc}
use Rattle.std.proofs.Common.{arith, zero-add, inl, inr, length-append, append-nil}
use Rattle.std.proofs.lemmas.Bool.{cases_eq}
use Rattle.std.proofs.lemmas.Bool.Decides.{nat_tests}
use Rattle.item_defs.specs.Bits.{copies}
use Rattle.item_defs.specs.Items.{zeros_and_one}

-- a prefix that continues after xs
pub take_past : {A : Type 0} (xs ys : List A) (n : ℕ) → take (length xs + n) (xs ++ ys) ≡ xs ++ take n ys
take_past [] ys n = rw zero-add refl
take_past (x ∷ xs) ys n =
    let e : suc (length xs) + n ≡ suc (length xs + n) = omega arith in
    rw e (ap (λ r. x ∷ r) (take_past xs ys n))

pub length-copies : (n : ℕ) (b : Bool) → length (copies n b) ≡ n
unfolding copies
length-copies zero b = refl
length-copies (suc n) b = ap suc (length-copies n b)

pub copies_none : (b : Bool) → copies 0 b ≡ []
unfolding copies
copies_none b = refl

pub copies-more : (n : ℕ) (b : Bool) → copies (suc n) b ≡ b ∷ copies n b
unfolding copies
copies-more n b = refl

pub copies_then : (m n : ℕ) (b : Bool) → copies m b ++ copies n b ≡ copies (m + n) b
unfolding copies
copies_then zero n b = rw zero-add refl
copies_then (suc m) n b =
    let e : suc m + n ≡ suc (m + n) = omega arith in
    rw e (ap (λ r. b ∷ r) (copies_then m n b))

pub copies_last : (n : ℕ) (b : Bool) → copies n b ++ b ∷ [] ≡ copies (n + 1) b
unfolding copies
copies_last n b = copies_then n 1 b

tail_of : List Bool → List Bool
tail_of [] = []
tail_of (x ∷ xs) = xs

-- there is no one among zeros
no_one : (i n : ℕ) (more : List Bool) → copies i false ≡ copies n false ++ (true ∷ [] ++ more) → ⊥
unfolding copies tail_of
no_one zero zero more e = absurd cc
no_one zero (suc n) more e = absurd cc
no_one (suc i) zero more e = absurd cc
no_one (suc i) (suc n) more e = no_one i n more (ap tail_of e)

-- the code of a unary part is not a prefix of fewer zeros
pub zeros_differ : (i limit n : ℕ) (more : List Bool) → i < limit → n ≤ limit → copies i false ≡ zeros_and_one limit n ++ more → ⊥
zeros_differ i limit n more lt le e =
    elim (cases_eq n limit) [
      | inl same ↦
          let t : eqb n limit ≡ true = grind (arith, nat_tests) in
          let f : copies i false ≡ (copies n false ++ []) ++ more = rw t at e in
          absurd (omega (
            arith,
            ap length f,
            length-append (copies n false ++ []) more,
            length-append {A = Bool} (copies n false) [],
            length-copies i false,
            length-copies n false,
          ))
      | inr ne ↦
          let t : eqb n limit ≡ false = grind (arith, nat_tests) in
          let f : copies i false ≡ (copies n false ++ true ∷ []) ++ more = rw t at e in
          no_one i n more (f ∙ append_assoc (copies n false) (true ∷ []) more)
    ]

pub zeros_and_no_one : (n limit : ℕ) → n ≤ limit → limit ≤ n → copies n false ≡ zeros_and_one limit n
zeros_and_no_one n limit p q = grind (arith, nat_tests, append-nil)

pub zeros_then_one : (n limit : ℕ) → n < limit → copies n false ++ true ∷ [] ≡ zeros_and_one limit n
zeros_then_one n limit p = grind (arith, nat_tests)
