-- A table whose codes are free of prefixes is sound exactly if they leave no room.
use Rattle.std.proofs.Common.{◌≡◌, inl, inr, ◌≤◌, ◌<◌, ◌+◌, ◌-◌, ◌^◌, ℕ, List, refl, sym, subst, ◌∙◌, arith, Bool, true, false, ◌==◌, ◌&&◌, ◌||◌, count_by}
use Rattle.std.proofs.Common.{nat_le, sum_by}
use Rattle.std.proofs.lemmas.Bool.{cases_lt, false≢true, eqb-true, eq-eqb, or_left, or_right, le-leb}
use Rattle.std.proofs.lemmas.Bool.Decides.{nat_tests}
use Rattle.plane_defs.proofs.ReadOnce.{count_one, counted_somewhere}
use Rattle.item_defs.specs.Bits.{bits_of}
use Rattle.base_122.specs.declared.book.Code.{Code}
use Rattle.plane_defs.specs.Spans.{span}
use Rattle.plane_defs.specs.Codes.{code_bits, entry, is_prefix, is_table_sound}
use Rattle.plane_defs.proofs.Tables.{list_all-span, list_all-span-at, list_all-span-zero}
use Rattle.code_book.specs.Sound.{IsCode, AreCodes, IsTableSound}
use Rattle.code_book.specs.Tests.{clashes, room, room_of}
use Rattle.plane_defs.proofs.Counting.{counted_twice, count_once, sum_same, sum_full, sum_ones, nested, leaves_room, rooms}
use Rattle.plane_defs.proofs.Equations.{is_table_sound-is}

-- strings of 8 bits that begin with a code
code_room : (c : Code) → IsCode c → count_by (λ v. is_prefix (code_bits c) (bits_of 8 v)) (span 0 256) ≡ room c
code_room c is =
    let some = is.some in
    let few = is.few in
    let place : 1 + (c.len - 1) ≡ c.len = omega (arith, some) in
    let at : leaves_room (1 + (c.len - 1)) ≡ true = list_all-span-at leaves_room 1 8 (c.len - 1) rooms (omega (arith, some, few)) in
    let here : leaves_room c.len ≡ true = subst (λ n. leaves_room n ≡ true) place at in
    eqb-true _ (2 ^ (8 - c.len)) (list_all-span-zero (λ bits. count_by (λ v. is_prefix (bits_of c.len bits) (bits_of 8 v)) (span 0 256) == 2 ^ (8 - c.len))
    (2 ^ c.len) c.bits here is.fits)

module _ (codes : List Code) (count : ℕ) where
  abbrev begins : ℕ → ℕ → Bool
  begins s v = is_prefix (code_bits (entry codes s)) (bits_of 8 v)

  abbrev begun : ℕ → ℕ
  begun v = count_by (λ s. begins s v) (span 0 count)

  -- no earlier code clashes with a later one
  abbrev pub AreApart : Type 0
  AreApart = (s r : ℕ) → s < r → r < count → clashes (entry codes s) (entry codes r) ≡ false

  all_begun : AreCodes codes count → sum_by begun (span 0 256) ≡ room_of codes count
  all_begun are =
      sym (counted_twice begins count 256) ∙ sum_same (λ s. count_by (λ v. begins s v) (span 0 256)) (λ s. room (entry codes s)) count
      (λ s lt. code_room (entry codes s) (are.each s lt))

  once_apart : AreApart → (v j k : ℕ) → j < count → k < count → begins j v ≡ true → begins k v ≡ true → j ≡ k
  once_apart apart v j k hj hk f g = elim (cases_lt j k) [
    | inl less ↦ absurd (false≢true (sym (apart j k less hk) ∙ nested (code_bits (entry codes j)) (code_bits (entry codes k)) (bits_of 8 v) f g))
    | inr rest ↦ elim (cases_lt k j) [
      | inl more ↦ absurd (false≢true (sym (apart k j more hj) ∙ nested (code_bits (entry codes k)) (code_bits (entry codes j)) (bits_of 8 v) g f))
      | inr least ↦ omega (arith, rest, least)
    ]
  ]

  few_begun : AreApart → (v : ℕ) → begun v ≤ 1
  few_begun apart v = count_once (λ s. begins s v) count (λ j k hj hk f g. once_apart apart v j k hj hk f g)

  -- without room left each string of 8 bits begins with one code
  one_begun : AreCodes codes count → AreApart → room_of codes count ≡ 256 → (v : ℕ) → v < 256 → begun v ≡ 1
  one_begun are apart full v lt = sum_full begun 256 v (λ k lt. few_begun apart k) (all_begun are ∙ full) lt

  pub sound_from : AreCodes codes count → AreApart → room_of codes count ≡ 256 → IsTableSound codes count
  sound_from are apart full = record {
    codes = are;
    apart = λ s r hs hr f. elim (cases_lt s r) [
      | inl less ↦ absurd (false≢true (sym (apart s r less hr) ∙ or_left _ _ f))
      | inr rest ↦ elim (cases_lt r s) [
        | inl more ↦ absurd (false≢true (sym (apart r s more hs) ∙ or_right _ _ f))
        | inr least ↦ omega (arith, rest, least)
      ]
    ];
    whole = λ v lt. let one = one_begun are apart full v lt in counted_somewhere (λ s. begins s v) count (omega (arith, one));
  }

  pub usable_from : AreCodes codes count → AreApart → room_of codes count ≡ 256 → is_table_sound codes count ≡ true
  usable_from are apart full =
      simp is_table_sound-is (
      both _ _
      (list_all-span (λ s. nat_le 1 (entry codes s).len && nat_le (entry codes s).len 8) count (λ s lt.
      let is = are.each s lt in
      let some = is.some in
      let few = is.few in
      both _ _ (le-leb 1 (entry codes s).len some) (le-leb (entry codes s).len 8 few)))
      (list_all-span (λ v. begun v == 1) 256 (λ v lt. eq-eqb (begun v) 1 (one_begun are apart full v lt))))
    where
      both : (a b : Bool) → a ≡ true → b ≡ true → (a && b) ≡ true
      both a b x y = rw (x, y) refl

  -- the same in the other direction
  apart_so : IsTableSound codes count → AreApart
  apart_so sound s r less lt = none _ _ (first (is_prefix (code_bits (entry codes s)) (code_bits (entry codes r))) refl)
      (second (is_prefix (code_bits (entry codes r)) (code_bits (entry codes s))) refl)
    where
      none : (a b : Bool) → a ≡ false → b ≡ false → (a || b) ≡ false
      none a b x y = rw (x, y) refl

      first : (b : Bool) → is_prefix (code_bits (entry codes s)) (code_bits (entry codes r)) ≡ b →
          is_prefix (code_bits (entry codes s)) (code_bits (entry codes r)) ≡ false
      first b e = grind (arith, nat_tests)

      second : (b : Bool) → is_prefix (code_bits (entry codes r)) (code_bits (entry codes s)) ≡ b →
          is_prefix (code_bits (entry codes r)) (code_bits (entry codes s)) ≡ false
      second b e = grind (arith, nat_tests)

  full_so : IsTableSound codes count → room_of codes count ≡ 256
  full_so sound =
      sym (all_begun sound.codes)
      ∙ sum_ones begun 256 (λ v lt.
      let few = few_begun (apart_so sound) v in
      let at = sound.whole v lt in
      let some = count_one (λ s. begins s v) count at.0 at.1 at.2 in
      omega (arith, few, some))

  pub tests_from : IsTableSound codes count → AreApart × (room_of codes count ≡ 256)
  tests_from sound = (apart_so sound, full_so sound)
