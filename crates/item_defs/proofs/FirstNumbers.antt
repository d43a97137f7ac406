-- The number that bits begin with, both ways.
use Rattle.std.proofs.Common.{◌≡◌, ℕ, zero, suc, ◌+◌, ◌-◌, ◌<◌, ◌≤◌, ◌^◌, ◌++◌, Bool, true, false, if◌then◌else◌, List, [], ◌∷◌, length, take, drop, refl}
use Rattle.std.proofs.Common.{ap, sym, ◌∙◌, subst, arith, append_assoc, length-append, nat_le, Option, Some, None, inl, inr, mod-eq_of_lt, take_at, drop_at}
use Rattle.std.proofs.Common.{slice_index_or}
use Rattle.std.proofs.lemmas.Bool.Decides.{nat_tests}
use Rattle.std.proofs.lemmas.Bool.{cases_lt}
use Rattle.std.proofs.lemmas.List.{length-take-le, take-append-drop}
use Rattle.item_defs.specs.Bits.{bits_of, value_of, copies}
use Rattle.item_defs.specs.Items.{Shape, fixed, zeros_to, coded, IsSaid, spelling, zeros_and_one}
use Rattle.item_defs.specs.Readings.{Lacks, IsSound}
use Rattle.item_defs.proofs.NumberBits.{length-bits_of, value_of-bits_of, bits_of-value_of, value_below}
use Rattle.item_defs.proofs.BitLists.{copies_none, copies-more, zeros_and_no_one, zeros_then_one}
use Rattle.item_defs.specs.Outcomes.{first_fixed, first_zeros, after_code, or_later, first_code, first_number}

abbrev Number : Type 0
Number = ℕ × List Bool

same_number : (p q : Number) → Some p ≡ Some q → p ≡ q
same_number p q e = cc

some_is : {n m : ℕ} {xs ys : List Bool} → ◌≡◌ {A = Option Number} (Some (n, xs)) (Some (m, ys)) → (n ≡ m) × (xs ≡ ys)
some_is {n} {m} {xs} {ys} e = let p = same_number (n, xs) (m, ys) e in (ap (λ (r : Number). r.0) p, ap (λ (r : Number). r.1) p)

-- ---- codes

code_left : (c more : List Bool) → after_code c (c ++ more) ≡ Some more
code_left [] more = refl
code_left (true ∷ cs) more = code_left cs more
code_left (false ∷ cs) more = code_left cs more

pub code_is_first : (c bits left : List Bool) → after_code c bits ≡ Some left → bits ≡ c ++ left
code_is_first [] bits left e = cc
code_is_first (c ∷ cs) [] left e = cc
code_is_first (true ∷ cs) (true ∷ bits) left e = ap (λ l. true ∷ l) (code_is_first cs bits left e)
code_is_first (true ∷ cs) (false ∷ bits) left e = cc
code_is_first (false ∷ cs) (true ∷ bits) left e = cc
code_is_first (false ∷ cs) (false ∷ bits) left e = ap (λ l. false ∷ l) (code_is_first cs bits left e)

later : (c : List Bool) (cs : List (List Bool)) → IsSound (coded (c ∷ cs)) → IsSound (coded cs)
later c cs sound m n xs ys hm hn e = let p = sound (suc m) (suc n) xs ys (omega (arith, hm)) (omega (arith, hn)) e in (omega (arith, p.0), p.1)

code_spelt : (codes : List (List Bool)) (j s : ℕ) (more : List Bool) → IsSound (coded codes) → s < length codes →
    first_code codes j (slice_index_or codes s [] ++ more) ≡ Some (j + s, more)
code_spelt [] j s more sound lt = absurd (omega (arith, lt))
code_spelt (c ∷ cs) j zero more sound lt =
    let e : j ≡ j + 0 = omega arith in
    ap (λ o. or_later j o (first_code cs (j + 1) (c ++ more))) (code_left c more) ∙ ap (λ n. Some (n, more)) e
code_spelt (c ∷ cs) j (suc s) more sound lt =
    here (after_code c (slice_index_or cs s [] ++ more)) refl (code_spelt cs (j + 1) s more (later c cs sound) (omega (arith, lt)))
  where
    here : (o : Option (List Bool)) → after_code c (slice_index_or cs s [] ++ more) ≡ o →
        first_code cs (j + 1) (slice_index_or cs s [] ++ more) ≡ Some (j + 1 + s, more) →
        or_later j o (first_code cs (j + 1) (slice_index_or cs s [] ++ more)) ≡ Some (j + suc s, more)
    here (Some left) e rest = let p =
        sound (suc s) 0 more left lt (omega arith) (code_is_first c (slice_index_or cs s [] ++ more) left e) in absurd (omega (arith, p.0))
    here None e rest = let f : j + 1 + s ≡ j + suc s = omega arith in rest ∙ ap (λ n. Some (n, more)) f

code_missing : (codes : List (List Bool)) (j : ℕ) (some : List Bool) → Lacks (coded codes) some → first_code codes j some ≡ None
code_missing [] j some lacks = refl
code_missing (c ∷ cs) j some lacks =
    here (after_code c some) refl (code_missing cs (j + 1) some (λ n more lt same. lacks (suc n) more (omega (arith, lt)) same))
  where
    here : (o : Option (List Bool)) → after_code c some ≡ o → first_code cs (j + 1) some ≡ None → or_later j o (first_code cs (j + 1) some) ≡ None
    here (Some left) e rest = absurd (lacks 0 left (omega arith) (code_is_first c some left e))
    here None e rest = rest

-- ---- zeros and a one

zeros_run : (j m s : ℕ) (tail : List Bool) → first_zeros (j + m) s (copies j false ++ tail) ≡ first_zeros m (j + s) tail
zeros_run zero m s tail =
    let e : zero + m ≡ m = omega arith in
    let f : zero + s ≡ s = omega arith in
    rw (e, f, copies_none false) refl
zeros_run (suc j) m s tail =
    let e : suc j + m ≡ suc (j + m) = omega arith in
    let f : j + (s + 1) ≡ suc j + s = omega arith in
    rw (e, copies-more j false) (zeros_run j m (s + 1) tail ∙ ap (λ n. first_zeros m n tail) f)

zeros_spelt : (limit n : ℕ) (more : List Bool) → n ≤ limit → first_zeros limit 0 (zeros_and_one limit n ++ more) ≡ Some (n, more)
zeros_spelt limit n more le =
    let f : n + 0 ≡ n = omega arith in
    elim (cases_lt n limit) [
      | inl lt ↦
          let e : limit ≡ n + suc (limit - n - 1) = omega arith in
          rw (← zeros_then_one n limit lt, append_assoc (copies n false) (true ∷ []) more)
          (ap (λ m. first_zeros m 0 (copies n false ++ true ∷ more)) e ∙ zeros_run n (suc (limit - n - 1)) 0 (true ∷ more) ∙ ap (λ i. Some (i, more)) f)
      | inr ge ↦
          let e : limit ≡ n + zero = omega arith in
          rw (← zeros_and_no_one n limit le ge)
          (ap (λ m. first_zeros m 0 (copies n false ++ more)) e ∙ zeros_run n zero 0 more ∙ ap (λ i. Some (i, more)) f)
    ]

one_more : (m n : ℕ) → n ≤ m → false ∷ zeros_and_one m n ≡ zeros_and_one (suc m) (suc n)
one_more m n le = elim (cases_lt n m) [
  | inl lt ↦ ap (λ l. false ∷ l) (sym (zeros_then_one n m lt)) ∙ ap (λ l. l ++ true ∷ []) (sym (copies-more n false)) ∙
      zeros_then_one (suc n) (suc m) (omega (arith, lt))
  | inr ge ↦ ap (λ l. false ∷ l) (sym (zeros_and_no_one n m le ge)) ∙ sym (copies-more n false) ∙
      zeros_and_no_one (suc n) (suc m) (omega (arith, le)) (omega (arith, ge))
]

zeros_missing : (limit s : ℕ) (some : List Bool) → Lacks (zeros_to limit) some → first_zeros limit s some ≡ None
zeros_missing zero s some lacks =
    absurd (lacks 0 some (omega arith) (ap (λ l. l ++ some) (sym (copies_none false) ∙ zeros_and_no_one 0 0 (omega arith) (omega arith))))
zeros_missing (suc m) s [] lacks = refl
zeros_missing (suc m) s (true ∷ bits) lacks =
    absurd (lacks 0 bits (omega arith) (ap (λ l. l ++ bits) (ap (λ l. l ++ true ∷ []) (sym (copies_none false)) ∙ zeros_then_one 0 (suc m) (omega arith))))
zeros_missing (suc m) s (false ∷ bits) lacks =
    zeros_missing m (s + 1) bits (λ n more le e. lacks (suc n) more (omega (arith, le)) (ap (λ l. false ∷ l) e ∙ ap (λ l. l ++ more) (one_more m n le)))

-- ---- numbers of a width

fixed_spelt : (w n : ℕ) (more : List Bool) → n < 2 ^ w → first_fixed w (bits_of w n ++ more) ≡ Some (n, more)
fixed_spelt w n more lt =
    let long = length-bits_of w n in
    let t : nat_le w (length (bits_of w n ++ more)) ≡ true = grind (arith, nat_tests, length-append, long) in
    rw (t, take_at (bits_of w n) more w long, drop_at (bits_of w n) more w long, value_of-bits_of w n, mod-eq_of_lt lt) refl

fixed_parts : (w : ℕ) (bits : List Bool) → w ≤ length bits → (value_of (take w bits) < 2 ^ w) × (bits ≡ bits_of w (value_of (take w bits)) ++ drop w bits)
fixed_parts w bits le =
    let long = length-take-le w bits le in (
      omega (arith, value_below (take w bits), ap (λ m. 2 ^ m) long),
      rw (ap (λ m. bits_of m (value_of (take w bits))) (sym long) ∙ bits_of-value_of (take w bits)) (sym (take-append-drop w bits)),
    )

fixed_missing : (w : ℕ) (some : List Bool) → Lacks (fixed w) some → first_fixed w some ≡ None
fixed_missing w some lacks = elim (cases_lt (length some) w) [
  | inl lt ↦ let t : nat_le w (length some) ≡ false = grind (arith, nat_tests) in rw t refl
  | inr ge ↦ let p = fixed_parts w some ge in absurd (lacks (value_of (take w some)) (drop w some) p.0 p.1)
]

-- ---- any shape

-- what is spelt is first
pub spelt_first : (s : Shape) (n : ℕ) (more : List Bool) → IsSound s → IsSaid s n → first_number s (spelling s n ++ more) ≡ Some (n, more)
spelt_first (fixed w) n more sound said = fixed_spelt w n more said
spelt_first (zeros_to limit) n more sound said = zeros_spelt limit n more said
spelt_first (coded codes) n more sound said = let e : 0 + n ≡ n = omega arith in code_spelt codes 0 n more sound said ∙ ap (λ m. Some (m, more)) e

pub none_first : (s : Shape) (some : List Bool) → Lacks s some → first_number s some ≡ None
none_first (fixed w) some lacks = fixed_missing w some lacks
none_first (zeros_to limit) some lacks = zeros_missing limit 0 some lacks
none_first (coded codes) some lacks = code_missing codes 0 some lacks

pub first_lacks : (s : Shape) (bits : List Bool) → IsSound s → first_number s bits ≡ None → Lacks s bits
first_lacks s bits sound e n more said same = clash (sym (spelt_first s n more sound said) ∙ ap (first_number s) (sym same) ∙ e)
  where
    clash : {p : Number} → ◌≡◌ {A = Option Number} (Some p) None → ⊥
    clash e = cc

-- these bits begin with this number
abbrev pub Begins : Shape → List Bool → ℕ → List Bool → Type 0
Begins s bits n left = IsSaid s n × (bits ≡ spelling s n ++ left)

fixed_first : (w : ℕ) (bits left : List Bool) (n : ℕ) → first_fixed w bits ≡ Some (n, left) → Begins (fixed w) bits n left
fixed_first w bits left n = here (nat_le w (length bits)) refl
  where
    here : (t : Bool) → nat_le w (length bits) ≡ t → ◌≡◌ {A = Option Number} (if t then Some (value_of (take w bits), drop w bits) else None) (Some (n, left)) →
        Begins (fixed w) bits n left
    here true e q =
        let le : w ≤ length bits = grind (arith, nat_tests) in
        let p = some_is q in
        let f = fixed_parts w bits le in
        (subst (λ x. x < 2 ^ w) p.0 f.0, f.1 ∙ ap (λ x. bits_of w x ++ drop w bits) p.0 ∙ ap (λ l. bits_of w n ++ l) p.1)
    here false e q = absurd cc

code_first : (codes : List (List Bool)) (j : ℕ) (bits left : List Bool) (n : ℕ) → first_code codes j bits ≡ Some (n, left) →
    (m : ℕ) × (n ≡ j + m) × Begins (coded codes) bits m left
code_first [] j bits left n e = absurd cc
code_first (c ∷ cs) j bits left n e = here (after_code c bits) refl e (code_first cs (j + 1) bits left n)
  where
    here : (o : Option (List Bool)) → after_code c bits ≡ o → or_later j o (first_code cs (j + 1) bits) ≡ Some (n, left) →
        (first_code cs (j + 1) bits ≡ Some (n, left) → (m : ℕ) × (n ≡ j + 1 + m) × Begins (coded cs) bits m left) →
        (m : ℕ) × (n ≡ j + m) × Begins (coded (c ∷ cs)) bits m left
    here (Some rest) p q more = let w = some_is q in (0, omega (arith, w.0), (omega arith, code_is_first c bits rest p ∙ ap (λ l. c ++ l) w.1))
    here None p q more = let r = more q in (suc r.0, omega (arith, r.1), (omega (arith, r.2.0), r.2.1))

zeros_first : (limit start : ℕ) (bits left : List Bool) (n : ℕ) → first_zeros limit start bits ≡ Some (n, left) →
    (m : ℕ) × (n ≡ m + start) × Begins (zeros_to limit) bits m left
zeros_first zero start bits left n e =
    let p = some_is e in
    let none : zeros_and_one 0 0 ≡ [] = sym (zeros_and_no_one 0 0 (omega arith) (omega arith)) ∙ copies_none false in
    (0, omega (arith, p.0), (omega arith, p.1 ∙ ap (λ l. l ++ left) (sym none)))
zeros_first (suc more) start [] left n e = absurd cc
zeros_first (suc more) start (true ∷ bits) left n e =
    let p = some_is e in
    let one : zeros_and_one (suc more) 0 ≡ true ∷ [] = sym (zeros_then_one 0 (suc more) (omega arith)) ∙ ap (λ l. l ++ true ∷ []) (copies_none false) in
    (0, omega (arith, p.0), (omega arith, ap (λ l. true ∷ l) p.1 ∙ ap (λ l. l ++ left) (sym one)))
zeros_first (suc more) start (false ∷ bits) left n e =
    let r = zeros_first more (start + 1) bits left n e in
    (suc r.0, omega (arith, r.1), (omega (arith, r.2.0), ap (λ l. false ∷ l) r.2.1 ∙ ap (λ l. l ++ left) (one_more more r.0 r.2.0)))

-- what is first is spelt
pub first_spelt : (s : Shape) (bits left : List Bool) (n : ℕ) → first_number s bits ≡ Some (n, left) → Begins s bits n left
first_spelt (fixed w) bits left n e = fixed_first w bits left n e
first_spelt (zeros_to limit) bits left n e = let r = zeros_first limit 0 bits left n e in let same : r.0 ≡ n =
    omega (arith, r.1) in subst (λ m. Begins (zeros_to limit) bits m left) same r.2
first_spelt (coded codes) bits left n e = let r = code_first codes 0 bits left n e in let same : r.0 ≡ n =
    omega (arith, r.1) in subst (λ m. Begins (coded codes) bits m left) same r.2
