-- Numbers that are written into every `stride`-th cell.
use Rattle.std.proofs.Common.{subst, ◌≡◌, ℕ, ◌+◌, ◌*◌, ◌^◌, ◌<◌, ◌≤◌, ℤ, pos, ◌*ℤ◌, List, [], ◌∷◌, ◌++◌, length, get_or, true, refl, ap, ◌∙◌, arith, inl}
use Rattle.std.proofs.Common.{inr, length-append, nat_lt, set, mul-le-mul_right}
use Rattle.std.proofs.lemmas.Bool.{cases_lt}
use Rattle.std.proofs.lemmas.Bool.Decides.{nat_tests}
use Rattle.std.proofs.lemmas.List.{get_or-set_same, get_or-set_other, length-set, get_or_append_left}
use Rattle.std.proofs.Math.Seq.{get_or-append_seam}
use Rattle.std.proofs.lemmas.Nat.{div-add-mod', mod_below}
use Rattle.std.specs.Int.{div_ceil}
use Rattle.number_defs.specs.Ranges.{number_at}
use Rattle.number_defs.specs.Cells.{cell_at}
use Rattle.gaggle_codes.specs.declared.range.NumberRange.{NumberRange}
use Rattle.gaggle_codes.specs.Cells.{given_number, SetsCells}

-- places that differ are in cells that differ
apart : (m n stride : ℕ) → 1 ≤ stride → m * stride ≡ n * stride → m ≡ n
apart m n stride low e = grind (arith, nat_tests, mul-le-mul_right)

-- a place within the slice is among those that are counted
pub places_before : (n stride m : ℕ) → 1 ≤ stride → m * stride < n → m < div_ceil n stride
places_before n stride m low lt = grind (arith, nat_tests, div-add-mod', mod_below, mul-le-mul_right)

-- the cells of the places before this one are 0
pub record Clears (stride i : ℕ) (old new : List ℤ) : Type 0 where
  pub size : length new ≡ length old
  pub cleared : (m : ℕ) → m < i → m * stride < length old → cell_at stride new m ≡ pos 0
  pub others : (j : ℕ) → ((m : ℕ) → j ≡ m * stride → ⊥) → get_or new j (pos 0) ≡ get_or old j (pos 0)

module _ (stride : ℕ) (low : 1 ≤ stride) where
  set_there : (cells : List ℤ) (m : ℕ) (z : ℤ) → m * stride < length cells → cell_at stride (set cells (m * stride) z) m ≡ z
  set_there cells m z lt = get_or-set_same cells (m * stride) z (pos 0) lt

  set_elsewhere : (cells : List ℤ) (m n : ℕ) (z : ℤ) → (n ≡ m → ⊥) → cell_at stride (set cells (m * stride) z) n ≡ cell_at stride cells n
  set_elsewhere cells m n z ne = get_or-set_other cells (m * stride) (n * stride) z (pos 0) (λ e. ne (apart n m stride low e))

  pub clears_start : (cells : List ℤ) → Clears stride 0 cells cells
  clears_start cells = record { size = refl; cleared = λ m lt within. absurd (omega (arith, lt)); others = λ j ne. refl }

  pub clears_more : {old now : List ℤ} (i : ℕ) → i * stride < length old → Clears stride i old now → Clears stride (i + 1) old (set now (i * stride) (pos 0))
  clears_more {old} {now} i lt c = record {
    size = length-set now (i * stride) (pos 0) ∙ c.size;
    cleared = λ m less within. elim (cases_lt m i) [
      | inl below ↦ set_elsewhere now i m (pos 0) (λ e. omega (arith, e, below)) ∙ c.cleared m below within
      | inr ge ↦ let here : m ≡ i = omega arith in rw here (set_there now i (pos 0) (omega (arith, c.size, lt)))
    ];
    others = λ j ne. get_or-set_other now (i * stride) j (pos 0) (pos 0) (λ e. ne i e) ∙ c.others j ne;
  }

  pub clears_all : (range : NumberRange) (shift : ℕ) {old now : List ℤ} (i : ℕ) → ((m : ℕ) → m * stride < length old → m < i) → Clears stride i old now →
      SetsCells range shift stride [] old now
  clears_all range shift i all c = grind (arith, nat_tests)

  -- one number more
  module _ (range : NumberRange) (shift : ℕ) where
    pub sets_more : {old now : List ℤ} (heights : List ℕ) (h i : ℕ) (z : ℤ) → i ≡ length heights → i * stride < length old →
        z ≡ number_at range.signed range.bits h *ℤ pos (2 ^ shift) → SetsCells range shift stride heights old now →
        SetsCells range shift stride (heights ++ h ∷ []) old (set now (i * stride) z)
    sets_more {old} {now} heights h i z e lt f s = record {
      size = length-set now (i * stride) z ∙ s.size;
      numbers = λ m within. elim (cases_lt m i) [
        | inl below ↦ set_elsewhere now i m z (λ q. omega (arith, q, below)) ∙ s.numbers m within ∙ same m below
        | inr ge ↦ elim (cases_lt i m) [
          | inl above ↦ set_elsewhere now i m z (λ q. omega (arith, q, above)) ∙ s.numbers m within ∙ past m above
          | inr le ↦ let here : m ≡ i = omega arith in rw here (set_there now i z (omega (arith, s.size, lt)) ∙ f ∙ new)
        ]
      ];
      others = λ j ne. get_or-set_other now (i * stride) j z (pos 0) (λ q. ne i q) ∙ s.others j ne;
    }
      where
        same : (m : ℕ) → m < i → given_number range shift heights m ≡ given_number range shift (heights ++ h ∷ []) m
        same m below =
            let t : nat_lt m (length heights) ≡ true = (let q : m < length heights = omega (arith, e, below) in grind (arith, nat_tests)) in
            let u : nat_lt m (length (heights ++ h ∷ [])) ≡ true =
            (let q : m < length (heights ++ h ∷ []) = omega (arith, e, below, length-append heights (h ∷ [])) in grind (arith, nat_tests)) in
            rw (t, u, get_or_append_left heights (h ∷ []) 0 m (omega (arith, e, below))) refl

        past : (m : ℕ) → i < m → given_number range shift heights m ≡ given_number range shift (heights ++ h ∷ []) m
        past m above = grind (arith, nat_tests, length-append)

        new : number_at range.signed range.bits h *ℤ pos (2 ^ shift) ≡ given_number range shift (heights ++ h ∷ []) i
        new =
            let u : nat_lt i (length (heights ++ h ∷ [])) ≡ true =
            (let q : i < length (heights ++ h ∷ []) = omega (arith, e, length-append heights (h ∷ [])) in grind (arith, nat_tests)) in
            rw (u, ap (λ n. get_or (heights ++ h ∷ []) n 0) e ∙ get_or-append_seam heights h [] 0) refl

pub sets_as : (range : NumberRange) (shift stride : ℕ) {heights more : List ℕ} {old new : List ℤ} → heights ≡ more →
    SetsCells range shift stride heights old new → SetsCells range shift stride more old new
sets_as range shift stride {heights} {more} {old} {new} e s = subst (λ l. SetsCells range shift stride l old new) e s

-- an earlier place is within the slice too
pub place_further : (m n stride size : ℕ) → m ≤ n → n * stride < size → m * stride < size
place_further m n stride size le lt = let more : m * stride ≤ n * stride = mul-le-mul_right stride le in omega (arith, more, lt)
