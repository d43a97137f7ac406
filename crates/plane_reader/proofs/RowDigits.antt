-- Options of four bits in one number.
use Rattle.std.proofs.Common.{◌≡◌, ℕ, zero, suc, ◌+◌, ◌-◌, ◌*◌, ◌/◌, ◌%◌, ◌<◌, ◌≤◌, ◌^◌, ◌==◌, List, [], ◌∷◌, Bool, true, false, get_or, sym, arith}
use Rattle.std.proofs.Common.{ap, subst, ◌∙◌, count_ones, refl, if◌then◌else◌}
use Rattle.std.proofs.lemmas.Bool.Decides.{nat_tests}
use Rattle.std.proofs.Common.{map, Option, Some, None}
use Rattle.std.specs.Prelude.{is_some}
use Rattle.std.specs.List.{range_with_len}
use Rattle.std.proofs.lemmas.List.FromFn.{get_or-map-range_with_len}
use Rattle.block_masks.specs.Gaggles.{AreOptions}
use Rattle.std.proofs.Math.Nat.{div-div-eq-div-mul, div-one, zero-div}
use Rattle.std.proofs.lemmas.Nat.{pow-add}
use Rattle.block_masks.specs.declared.gaggle.Gaggle.{Gaggle}
use Rattle.plane_reader.specs.Places.{row_by, table_by, AreRows}
use Rattle.plane_reader.proofs.WindowWords.{few_ones}

-- the number whose digits of four bits these are, the lowest first
abbrev pub number_of : List ℕ → ℕ
number_of [] = 0
number_of (d ∷ ds) = d + 16 * number_of ds

-- each of them has four bits
data AreDigits : List ℕ → Type 0 where
  nothing : AreDigits []
  more : {d : ℕ} {ds : List ℕ} → d < 16 → AreDigits ds → AreDigits (d ∷ ds)

first_digit : (d rest : ℕ) → d < 16 → (d + 16 * rest) % 16 ≡ d
first_digit d rest lt = omega arith

rest_of : (d rest : ℕ) → d < 16 → (d + 16 * rest) / 16 ≡ rest
rest_of d rest lt = omega arith

digit_of : {ds : List ℕ} → AreDigits ds → (k : ℕ) → number_of ds / 2 ^ (4 * k) % 16 ≡ get_or ds k 0
digit_of nothing k = ap (λ n. n % 16) (zero-div (2 ^ (4 * k)))
digit_of (more {d} {ds} lt are) zero = simp div-one (first_digit d (number_of ds) lt)
digit_of (more {d} {ds} lt are) (suc k) =
    ap (λ n. (d + 16 * number_of ds) / n % 16) (next_power k) ∙ ap (λ n. n % 16) (sym (div-div-eq-div-mul (d + 16 * number_of ds) 16 (2 ^ (4 * k)))) ∙
    ap (λ n. n / 2 ^ (4 * k) % 16) (rest_of d (number_of ds) lt) ∙ digit_of are k
  where
    next_power : (k : ℕ) → 2 ^ (4 * suc k) ≡ 16 * 2 ^ (4 * k)
    next_power k = let e : 4 * suc k ≡ 4 + 4 * k = omega arith in ap (λ n. 2 ^ n) e ∙ pow-add 2 4 (4 * k)

module _ (two three four : ℕ) where
  abbrev digits : List ℕ
  digits = 0 ∷ 0 ∷ 0 ∷ two ∷ 0 ∷ two ∷ two ∷ three ∷ 0 ∷ two ∷ two ∷ three ∷ two ∷ three ∷ three ∷ four ∷ []

  abbrev by_count : ℕ → ℕ
  by_count count = get_or (0 ∷ 0 ∷ two ∷ three ∷ four ∷ []) count 0

  by_masks : map (λ d. by_count (count_ones d)) (range_with_len 0 16) ≡ digits
  unfolding lib.Count.ones
  by_masks = refl

  are_digits : two < 16 → three < 16 → four < 16 → AreDigits digits
  are_digits x y z =
      let o : 0 < 16 = omega arith in
      more o (more o (more o (more x (more o (more x (more x (more y (more o (more x (more x (more y (more x (more y (more y (more z nothing)))))))))))))))

  number_is : 0x0001_0110_0110_1000 * two + 0x0110_1000_1000_0000 * three + 0x1000_0000_0000_0000 * four ≡ number_of digits
  number_is = omega arith

  -- the four bits of a mask
  pub option_there : two < 16 → three < 16 → four < 16 → (due : ℕ) → due < 16 →
      (0x0001_0110_0110_1000 * two + 0x0110_1000_1000_0000 * three + 0x1000_0000_0000_0000 * four) / 2 ^ (4 * due) % 16 ≡ by_count (count_ones due)
  option_there x y z due lt =
      let same : 0 + due ≡ due = omega arith in
      ap (λ n. n / 2 ^ (4 * due) % 16) number_is ∙ digit_of (are_digits x y z) due ∙
      ap (λ l. get_or l due 0) (sym by_masks) ∙ get_or-map-range_with_len (λ d. by_count (count_ones d)) 0 16 due due 0 lt same

-- all bits are 1 if there are no tables
fifteens : List ℕ
fifteens = map (λ d. 15) (range_with_len 0 16)

all_ones : (2 ^ 64 - 1 ≡ number_of fifteens) × AreDigits fifteens
unfolding fifteens
all_ones =
    let o : 15 < 16 = omega arith in (
      refl,
      more o (more o (more o (more o (more o (more o (more o (more o (more o (more o (more o (more o (more o (more o (more o (more o nothing))))))))))))))),
    )

missing_there : (due : ℕ) → due < 16 → (2 ^ 64 - 1) / 2 ^ (4 * due) % 16 ≡ 15
unfolding fifteens
missing_there due lt =
    let same : 0 + due ≡ due = omega arith in
    ap (λ n. n / 2 ^ (4 * due) % 16) all_ones.0 ∙ digit_of all_ones.1 due ∙ get_or-map-range_with_len (λ d. 15) 0 16 due due 0 lt same

-- the option of a length, or what is in its place
abbrev pub option_in : Gaggle → ℕ → ℕ
option_in g place = if get_or g.sent place false then get_or g.options place 0 else 15

module _ (g : Gaggle) (known : AreOptions g.options) (due : ℕ) where
  by_option : (sent : Bool) (option : ℕ) → option < 4 → table_by due (if sent then option else 15) ≡ (if sent then 4 * due + option else 255)
  by_option true option lt = let off : (option == 15) ≡ false = grind (arith, nat_tests) in ap (λ (b : Bool). if b then 255 else 4 * due + option) off
  by_option false option lt = refl

  pub row_is : (count : ℕ) → count ≤ 4 → table_by due (by_count (option_in g 0) (option_in g 1) (option_in g 2) count) ≡ row_by g due count
  row_is zero few = omega arith
  row_is (suc zero) few = omega arith
  row_is (suc (suc zero)) few = by_option (get_or g.sent 0 false) (get_or g.options 0 0) (omega (arith, known.two))
  row_is (suc (suc (suc zero))) few = by_option (get_or g.sent 1 false) (get_or g.options 1 0) (omega (arith, known.three))
  row_is (suc (suc (suc (suc zero)))) few = by_option (get_or g.sent 2 false) (get_or g.options 2 0) known.four
  row_is (suc (suc (suc (suc (suc n))))) few = absurd (omega (arith, few))

option_small : (g : Gaggle) (place : ℕ) → get_or g.options place 0 < 4 → option_in g place < 16
option_small g place lt = here (get_or g.sent place false)
  where
    here : (b : Bool) → (if b then get_or g.options place 0 else 15) < 16
    here true = omega (arith, lt)
    here false = omega arith

pub missing_rows : {X : Type 0} (tables : Option X) (g : Gaggle) → is_some tables ≡ false → AreRows tables g (record { options = 2 ^ 64 - 1 })
missing_rows (Some t) g e = absurd cc
missing_rows None g e = record { at = λ due lt. ap (table_by due) (missing_there due lt) }

pub known_rows : {X : Type 0} (tables : Option X) (g : Gaggle) → AreOptions g.options → is_some tables ≡ true → {two three four : ℕ} →
    two ≡ option_in g 0 → three ≡ option_in g 1 → four ≡ option_in g 2 → AreRows tables g (record {
      options = 0x0001_0110_0110_1000 * two + 0x0110_1000_1000_0000 * three + 0x1000_0000_0000_0000 * four;
    })
known_rows None g known e x y z = absurd cc
known_rows (Some t) g known e {two} {three} {four} x y z = record {
  at = λ due lt.
      let a : two < 16 = subst (λ n. n < 16) (sym x) (option_small g 0 (omega (arith, known.two))) in
      let b : three < 16 = subst (λ n. n < 16) (sym y) (option_small g 1 (omega (arith, known.three))) in
      let d : four < 16 = subst (λ n. n < 16) (sym z) (option_small g 2 known.four) in
      ap (table_by due) (option_there two three four a b d due lt) ∙ ap (table_by due) (all_by x y z (count_ones due)) ∙
      row_is g known due (count_ones due) (few_ones due lt);
}
  where
    all_by : two ≡ option_in g 0 → three ≡ option_in g 1 → four ≡ option_in g 2 → (count : ℕ) → by_count two three four count ≡ by_count (option_in g 0)
        (option_in g 1) (option_in g 2) count
    all_by x y z count = ap (λ n. by_count n three four count) x ∙ ap (λ n. by_count (option_in g 0) n four count) y ∙
        ap (λ n. by_count (option_in g 0) (option_in g 1) n count) z
