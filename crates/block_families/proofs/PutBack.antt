-- Numbers that are put back, stretch by stretch.
use Rattle.std.proofs.Common.{◌≡◌, inl, inr, ℕ, zero, suc, [], ◌∷◌, ◌*◌, ◌+◌, ◌-◌, ◌<◌, ◌≤◌, ◌^◌, ℤ, pos, ◌*ℤ◌, List, get_or, ap, sym, ◌∙◌, subst, arith}
use Rattle.std.proofs.Common.{All, slice_index, unsigned_abs}
use Rattle.std.proofs.lemmas.Bool.{cases_lt}
use Rattle.std.proofs.lemmas.Bool.Decides.{nat_tests}
use Rattle.base_122.specs.Weights.{IsShift}
use Rattle.wave_defs.specs.Blocks.{Place, place_of, weight_at, block_side}
use Rattle.wave_defs.specs.Line.{floor_div}
use Rattle.block_families.specs.Places.{place_in, IsWithin, AreWeighted, Scatters}
use Rattle.block_families.specs.Scattering.{in_square, SetsSquare, PutsBack}
use Rattle.block_families.proofs.Dividing.{divided}
use Rattle.base_122.proofs.ShiftLaws.{shift_low}
use Rattle.block_families.proofs.Placing.{one_place, place_within}

-- the number at a position without its weight
pub part_of : (numbers : List ℤ) (weights : List ℕ) (i s : ℕ) (z : ℤ) (p : AreWeighted numbers weights) → i < 64 → All IsShift weights →
    s ≡ slice_index weights (place_of i).band →
    z ≡ floor_div (get_or numbers i (pos 0)) (2 ^ s) → z ≡ p.part i
part_of numbers weights i s z p below shifts es e = grind (arith, nat_tests, slice_index, get_or, pos, divided, shift_low)

pub part_small : (numbers : List ℤ) (weights : List ℕ) (i : ℕ) (z : ℤ) (p : AreWeighted numbers weights) → i < 64 → z ≡ p.part i → unsigned_abs z ≤ 2 ^ 27
part_small numbers weights i z p below e = rw e (p.small i below)

-- with its weight it is the number of the block again
pub part_whole : (numbers : List ℤ) (weights : List ℕ) (i : ℕ) (z : ℤ) (p : AreWeighted numbers weights) → i < 64 → z ≡ p.part i →
    z *ℤ weight_at weights i ≡ get_or numbers i (pos 0)
part_whole numbers weights i z p below e = ap (λ n. n *ℤ weight_at weights i) e ∙ sym (p.whole i below)

pub four_parts : (a b c d : ℤ) (numbers : List ℤ) (at s : ℕ) → a ≡ floor_div (get_or numbers at (pos 0)) (2 ^ s) →
    b ≡ floor_div (get_or numbers (at + 1) (pos 0)) (2 ^ s) →
    c ≡ floor_div (get_or numbers (at + 2) (pos 0)) (2 ^ s) → d ≡ floor_div (get_or numbers (at + 3) (pos 0)) (2 ^ s) →
    (k : ℕ) → k < 4 → get_or (a ∷ b ∷ c ∷ d ∷ []) k (pos 0) ≡ floor_div (get_or numbers (at + k) (pos 0)) (2 ^ s)
four_parts a b c d numbers at s ea eb ec ed zero h = ea ∙ ap (λ n. floor_div (get_or numbers n (pos 0)) (2 ^ s)) (omega arith)
four_parts a b c d numbers at s ea eb ec ed (suc zero) h = eb
four_parts a b c d numbers at s ea eb ec ed (suc (suc zero)) h = ec
four_parts a b c d numbers at s ea eb ec ed (suc (suc (suc zero))) h = ed
four_parts a b c d numbers at s ea eb ec ed (suc (suc (suc (suc k)))) h = absurd (omega arith)

-- a square whose last place is in the block row
pub square_rows : (columns column at : ℕ) (p : Place) → column < columns → at + 3 < 64 → in_square p 3 ≡ place_in column (at + 3) →
    p.row + 2 ≤ block_side p.band
square_rows columns column at p inside below e =
    let within = subst (λ (q : Place). IsWithin columns q) (sym e) (place_within columns column (at + 3) inside below) in
    omega (arith, within.row)

pub square_inside : (columns column at : ℕ) (p : Place) → column < columns → at + 3 < 64 → in_square p 3 ≡ place_in column (at + 3) →
    p.column + 2 ≤ block_side p.band * columns
square_inside columns column at p inside below e = grind (arith, nat_tests, place_within)

-- one stretch and then the next
pub puts_on : (weights : List ℕ) (column : ℕ) (numbers : List ℤ) (from a b next count : ℕ) (old mid new : Place → ℤ) → next ≡ from + a → count ≡ a + b →
    from + count ≤ 64 →
    PutsBack weights column numbers from a old mid → PutsBack weights column numbers next b mid new → PutsBack weights column numbers from count old new
puts_on weights column numbers from a b next count old mid new en ec most x y = record {
  block = λ i h k.
      elim (cases_lt i next) [
        | inl lt ↦
            let apart : (j : ℕ) → next ≤ j → j < next + b → place_in column i ≡ place_in column j → ⊥ =
            λ j u v same. let e = one_place column i j (omega arith) (omega arith) same in omega arith in
            ap (λ n. n *ℤ weight_at weights i) (y.others (place_in column i) apart) ∙ x.block i h (omega arith)
        | inr ge ↦ y.block i ge (omega arith)
      ];
  others = λ p out. y.others p (λ i u v e. out i (omega arith) (omega arith) e) ∙ x.others p (λ i u v e. out i u (omega arith) e);
}

pub puts_all : (weights : List ℕ) (column : ℕ) (numbers : List ℤ) (old new : Place → ℤ) → PutsBack weights column numbers 0 64 old new →
    Scatters old new weights column numbers
puts_all weights column numbers old new x = record {
  block = λ i h. x.block i (omega arith) (omega arith);
  others = λ p out. x.others p (λ i u v e. out i (omega arith) e);
}

-- one number
pub puts_one : (weights : List ℕ) (column : ℕ) (numbers : List ℤ) (i : ℕ) (q : Place) (z : ℤ) (old new : Place → ℤ) → q ≡ place_in column i →
    z *ℤ weight_at weights i ≡ get_or numbers i (pos 0) →
    new q ≡ z → ((p : Place) → (p ≡ q → ⊥) → new p ≡ old p) → PutsBack weights column numbers i 1 old new
puts_one weights column numbers i q z old new eq whole here others = record {
  block = λ j h k.
      let at : j ≡ i = omega arith in
      ap (λ n. new (place_in column n) *ℤ weight_at weights n) at ∙ ap (λ n. n *ℤ weight_at weights i) (ap new (sym eq) ∙ here) ∙ whole
      ∙ ap (λ n. get_or numbers n (pos 0)) (sym at);
  others = λ p out. others p (λ e. out i (omega arith) (omega arith) (e ∙ eq));
}

-- the four numbers of a square
pub puts_square : (weights : List ℕ) (column : ℕ) (numbers values : List ℤ) (at : ℕ) (q : Place) (old new : Place → ℤ) →
    ((k : ℕ) → k < 4 → in_square q k ≡ place_in column (at + k)) →
    ((k : ℕ) → k < 4 → get_or values k (pos 0) *ℤ weight_at weights (at + k) ≡ get_or numbers (at + k) (pos 0)) → SetsSquare old new q values →
    PutsBack weights column numbers at 4 old new
puts_square weights column numbers values at q old new places whole x = record {
  block = λ i h k.
      let d = i - at in
      let small : d < 4 = omega arith in
      let back : i ≡ at + d = omega arith in
      ap (λ n. new (place_in column n) *ℤ weight_at weights n) back ∙ ap (λ n. n *ℤ weight_at weights (at + d))
      (ap new (sym (places d small)) ∙ x.there d small)
      ∙ whole d small ∙ ap (λ n. get_or numbers n (pos 0)) (sym back);
  others = λ p out. x.others p (λ k h e. out (at + k) (omega arith) (omega arith) (e ∙ places k h));
}
