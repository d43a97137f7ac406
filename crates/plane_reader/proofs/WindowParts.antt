-- Parts of a window.
use Rattle.std.proofs.Common.{◌≡◌, ℕ, ◌+◌, ◌-◌, ◌*◌, ◌/◌, ◌%◌, ◌^◌, ◌≤◌, ◌++◌, take, sym, ap, ◌∙◌, mul_assoc, arith, count_ones}
use Rattle.std.proofs.lemmas.Nat.{mul-mod_first, pow-add, pow_pos, shr-shr, shr_high, ones_le_self}
use Rattle.std.proofs.lemmas.Bool.Decides.{nat_tests}
use Rattle.item_defs.specs.Bits.{bits_of}
use Rattle.item_defs.proofs.NumberBits.{bits_of-mod, bits_of-split, take-bits_of}
use Rattle.bit_pipe.specs.Windows.{first_of}

pub no_ones : (n : ℕ) → n ≡ 0 → count_ones n ≡ 0
no_ones n e = let least = ones_le_self n in omega (arith, least, e)

-- the bits after some are a window too
pub moved_on : (window len more rest : ℕ) → rest ≡ window * 2 ^ len % 2 ^ 64 → rest * 2 ^ more % 2 ^ 64 ≡ window * 2 ^ (len + more) % 2 ^ 64
moved_on window len more rest e = grind (arith, nat_tests, mul-mod_first, mul_assoc, pow-add)

-- the word of a window's first bits, as the last of four bits and at once
pub top_word : (window due : ℕ) → due ≤ 4 → window / 2 ^ 60 / 2 ^ (4 - due) ≡ window / 2 / 2 ^ (63 - due)
top_word window due few =
    let e : 60 + (4 - due) ≡ 1 + (63 - due) = omega (arith, few) in
    shr-shr window 60 (4 - due) ∙ ap (λ k. window / 2 ^ k) e ∙ sym (shr-shr window 1 (63 - due))

-- the first bits of a window, and those after them
module _ (window first more : ℕ) (few : first + more ≤ 64) where
  moved : first_of more (window * 2 ^ first % 2 ^ 64) ≡ bits_of more (window / 2 ^ (64 - (first + more)))
  moved =
      let x = window * 2 ^ first in
      let all : more + (64 - more) ≡ 64 = omega arith in
      let up : first + (64 - (first + more)) ≡ 64 - more = omega arith in
      let none : x ≡ x + 0 = omega arith in
      sym (take-bits_of more (64 - more) (x % 2 ^ 64)) ∙ ap (λ n. take more (bits_of n (x % 2 ^ 64))) all ∙ ap (take more) (bits_of-mod 64 x) ∙
      ap (λ n. take more (bits_of n x)) (sym all) ∙ take-bits_of more (64 - more) x
      ∙ ap (bits_of more) (ap (λ n. x / 2 ^ n) (sym up) ∙ sym (shr-shr x first (64 - (first + more))) ∙ ap (λ n. n / 2 ^ (64 - (first + more))) (ap
      (λ n. n / 2 ^ first) none ∙ shr_high window first 0 (pow_pos first)))

  pub window_parts : first_of (first + more) window ≡ first_of first window ++ first_of more (window * 2 ^ first % 2 ^ 64)
  window_parts =
      let y = window / 2 ^ (64 - (first + more)) in
      let up : (64 - (first + more)) + more ≡ 64 - first = omega arith in
      bits_of-split first more y ∙ ap (λ n. bits_of first n ++ bits_of more y) (shr-shr window (64 - (first + more)) more ∙ ap (λ n. window / 2 ^ n) up) ∙
      ap (λ l. first_of first window ++ l) (sym moved)
