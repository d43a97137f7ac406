-- The bounds of the numbers of blocks, and the depths within them.
use Rattle.std.proofs.Common.{◌≡◌, ◌⊎◌, ℕ, ◌+◌, ◌-◌, ◌*◌, ◌%◌, ◌^◌, ◌<◌, ◌≤◌, List, [], ◌++◌, length, drop, get_or, refl, sym, ap, subst, ◌∙◌, arith, inl}
use Rattle.std.proofs.Common.{inr, length-drop, length-take, take_all, ℤ, pos, negsuc, unsigned_abs}
use Rattle.std.proofs.lemmas.Bool.{cases_lt}
use Rattle.std.proofs.lemmas.List.{get_or-take, get_or-drop, get_or_default, get_or_append_left, get_or-append_right, length-append}
use Rattle.std.proofs.lemmas.Bool.Decides.{nat_tests}
use Rattle.segment_defs.specs.Size.{size_of}
use Rattle.wave_defs.specs.Held.{block_at}
use Rattle.segment_defs.specs.Depths.{dc_of, block_depth, signed_size}
use Rattle.segment_defs.proofs.Sizes.{size_of-least}
use Rattle.segment_code.specs.Numbers.{AreBounded}
use Rattle.segment_code.proofs.SizeBits.{greatest-within}

-- a cell of a block
pub cell_of : (cells : List ℤ) (r j : ℕ) → j < 64 → get_or (block_at cells r) j (pos 0) ≡ get_or cells (64 * r + j) (pos 0)
cell_of cells r j lt = get_or-take 64 (drop (64 * r) cells) j (pos 0) lt ∙ get_or-drop (64 * r) cells j (pos 0)

pub dc_within : (cells : List ℤ) (r : ℕ) → AreBounded cells → 64 * r < length cells → signed_size (dc_of (block_at cells r)) ≤ 28
dc_within cells r bounded lt =
    let cell : dc_of (block_at cells r) ≡ get_or cells (64 * r) (pos 0) = cell_of cells r 0 (omega arith) ∙ ap (λ k. get_or cells k (pos 0)) (omega arith) in
    rw cell (small (get_or cells (64 * r) (pos 0)) (bounded.at (64 * r) lt))
  where
    small : (z : ℤ) → (unsigned_abs z < 2 ^ 27) ⊎ ((64 * r % 64 ≡ 0) × (z ≡ negsuc (2 ^ 27 - 1))) → signed_size z ≤ 28
    small (pos a) (inl below) = let s = size_of-least a 27 below in omega (arith, s)
    small (negsuc a) (inl below) = let s = size_of-least a 27 (omega (arith, below)) in omega (arith, s)
    small z (inr least) = rw (least.1) (let s = size_of-least (2 ^ 27 - 1) 27 (omega arith) in omega (arith, s))

ac_cell : (cells : List ℤ) (r j : ℕ) → AreBounded cells → 64 * r + 64 ≤ length cells → 1 ≤ j → j < 64 →
    size_of (unsigned_abs (get_or cells (64 * r + j) (pos 0))) ≤ 27
ac_cell cells r j bounded le low high = grind (arith, nat_tests, size_of-least)

pub ac_within : (cells : List ℤ) (r : ℕ) → AreBounded cells → 64 * r + 64 ≤ length cells → block_depth (block_at cells r) ≤ 27
ac_within cells r bounded le = greatest-within (λ z. size_of (unsigned_abs z)) 27 (drop 1 (block_at cells r)) each
  where
    each : (k : ℕ) (d : ℤ) → k < length (drop 1 (block_at cells r)) → size_of (unsigned_abs (get_or (drop 1 (block_at cells r)) k d)) ≤ 27
    each k d lt =
        let inside : 1 + k < 64 = omega (arith, length-drop 1 (block_at cells r), length-take 64 (drop (64 * r) cells)) in
        let past : get_or (drop 1 (block_at cells r)) k d ≡ get_or (block_at cells r) (1 + k) d = get_or-drop 1 (block_at cells r) k d in
        let default : get_or (block_at cells r) (1 + k) d ≡ get_or (block_at cells r) (1 + k) (pos 0) =
        get_or_default (block_at cells r) (1 + k) d (pos 0) (omega (arith, lt, length-drop 1 (block_at cells r))) in
        let cell = past ∙ default ∙ cell_of cells r (1 + k) inside in
        subst (λ z. size_of (unsigned_abs z) ≤ 27) (sym cell) (ac_cell cells r (1 + k) bounded le (omega arith) inside)

-- ---- one block

block_alone : (block : List ℤ) → length block ≡ 64 → block_at block 0 ≡ block
block_alone block whole = take_all 64 block (omega (arith, whole))

pub dc_fits_28 : (block : List ℤ) → length block ≡ 64 → AreBounded block → signed_size (dc_of block) ≤ 28
dc_fits_28 block whole bounded = subst (λ b. signed_size (dc_of b) ≤ 28) (block_alone block whole) (dc_within block 0 bounded (omega (arith, whole)))

pub ac_fits_27 : (block : List ℤ) → length block ≡ 64 → AreBounded block → block_depth block ≤ 27
ac_fits_27 block whole bounded = subst (λ b. block_depth b ≤ 27) (block_alone block whole) (ac_within block 0 bounded (omega (arith, whole)))

pub none_bounded : AreBounded []
none_bounded = record { at = λ i lt. absurd (omega arith) }

pub bounded_push : (cells block : List ℤ) (n : ℕ) → length cells ≡ 64 * n → AreBounded cells → AreBounded block → AreBounded (cells ++ block)
bounded_push cells block n whole old new = record {
  at = λ i lt. elim (cases_lt i (length cells)) [
    | inl low ↦ rw get_or_append_left (old.at i low)
    | inr high ↦ rw (get_or-append_right cells block (length cells) i (pos 0) refl high)
        (moved i high (new.at (i - length cells) (omega (arith, lt, high, length-append cells block))))
  ];
}
  where
    moved : {P : Type 0} {Q : Type 0} (i : ℕ) → length cells ≤ i → P ⊎ (((i - length cells) % 64 ≡ 0) × Q) → P ⊎ ((i % 64 ≡ 0) × Q)
    moved i high (inl p) = inl p
    moved i high (inr q) = inr (omega (arith, q.0, whole, high), q.1)
