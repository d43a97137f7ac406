-- Blocks whose numbers are all 0 except the DCs, and the depths of their states.
use Rattle.std.specs.Prelude.{replicate}
use Rattle.std.proofs.Common.{◌≡◌, ℕ, zero, suc, ◌+◌, ◌*◌, ◌/◌, ◌<◌, ◌≤◌, ℤ, pos, List, [], ◌∷◌, length, drop, map, refl, sym, ap, ◌∙◌, arith, get_or, inl}
use Rattle.std.proofs.Common.{inr, length-drop, length-take}
use Rattle.std.specs.List.{range_with_len}
use Rattle.std.proofs.lemmas.Bool.{cases_lt}
use Rattle.std.proofs.lemmas.Bool.Decides.{nat_tests}
use Rattle.std.proofs.lemmas.List.{ext_get_or, get_or_past, get_or-take, get_or-drop, get_or-map, length-map, length-replicate, get_or-replicate}
use Rattle.std.proofs.lemmas.List.FromFn.{length-map-range_with_len, get_or-map-range_with_len}
use Rattle.wave_defs.specs.Held.{block_at, blocks_in}
use Rattle.wave_defs.proofs.Equations.{blocks_in-is}
use Rattle.plane_defs.specs.Marks.{depth_of, depths_of}
use Rattle.plane_defs.proofs.SpanLists.{length-map-span, get_or-map-span}
use Rattle.dc_depths.specs.Dcs.{SetsDcs}
use Rattle.segment_defs.specs.Segments.{dc_blocks}
use Rattle.segment_code.specs.Starts.{AreClear}

-- ---- blocks

module _ (cells : List ℤ) (n r : ℕ) (whole : length cells ≡ 64 * n) (lt : r < n) where
  pub block_long : length (block_at cells r) ≡ 64
  block_long = omega (arith, length-take 64 (drop (64 * r) cells), length-drop (64 * r) cells, whole, lt)

  pub block_number : (j : ℕ) → j < 64 → get_or (block_at cells r) j (pos 0) ≡ get_or cells (64 * r + j) (pos 0)
  block_number j less = get_or-take 64 (drop (64 * r) cells) j (pos 0) less ∙ get_or-drop (64 * r) cells j (pos 0)

module _ {before now : List ℤ} (n : ℕ) (given : ℕ → ℤ) (whole : length before ≡ 64 * n) (clear : AreClear before) (s : SetsDcs given before now) where
  now_whole : length now ≡ 64 * n
  now_whole = s.size ∙ whole

  module _ (r : ℕ) (lt : r < n) where
    pub dc_there : get_or (block_at now r) 0 (pos 0) ≡ given r
    dc_there =
        let place : 64 * r + 0 ≡ r * 64 = omega arith in
        block_number now n r now_whole lt 0 (omega arith) ∙ ap (λ i. get_or now i (pos 0)) place ∙ s.dcs r (omega (arith, whole, lt))

    pub ac_there : (p : ℕ) → 1 ≤ p → get_or (block_at now r) p (pos 0) ≡ pos 0
    ac_there p some = elim (cases_lt p 64) [
      | inl less ↦ block_number now n r now_whole lt p less ∙ s.others (64 * r + p) (λ m e. omega (arith, e, some, less)) ∙ clear.at (64 * r + p)
      | inr past ↦ get_or_past (block_at now r) p (pos 0) (omega (arith, block_long now n r now_whole lt, past))
    ]

    block_is : block_at now r ≡ given r ∷ replicate 63 (pos 0)
    block_is =
        let zeros : length (replicate {A = ℤ} 63 (pos 0)) ≡ 63 = length-replicate {A = ℤ} 63 (pos 0) in
        ext_get_or (pos 0) (block_at now r) (given r ∷ replicate 63 (pos 0)) (omega (arith, block_long now n r now_whole lt, zeros))
        (λ j less. at j (omega (arith, less, block_long now n r now_whole lt)))
      where
        at : (j : ℕ) → j < 64 → get_or (block_at now r) j (pos 0) ≡ get_or (given r ∷ replicate 63 (pos 0)) j (pos 0)
        at zero less = dc_there
        at (suc j) less = ac_there (suc j) (omega arith) ∙ sym (get_or-replicate 63 j (pos 0) (pos 0) (omega (arith, less)))

  pub blocks_are : blocks_in now ≡ dc_blocks n given
  blocks_are = blocks_in-is now ∙ ext_get_or [] _ _ (count ∙ sym (length-map-span block n)) (λ r lt. at r (omega (arith, lt, count)))
    where
      block : ℕ → List ℤ
      block r = given r ∷ replicate 63 (pos 0)

      count : length (map (block_at now) (range_with_len 0 (length now / 64))) ≡ n
      count = length-map-range_with_len (block_at now) 0 (length now / 64) ∙ omega (arith, now_whole)

      at : (r : ℕ) → r < n → get_or (map (block_at now) (range_with_len 0 (length now / 64))) r [] ≡ get_or (dc_blocks n given) r []
      at r lt =
          get_or-map-range_with_len (block_at now) 0 (length now / 64) r r [] (omega (arith, now_whole, lt)) (omega arith) ∙ block_is r lt ∙ sym
          (get_or-map-span (λ i. given i ∷ replicate 63 (pos 0)) n r [] lt)

-- ---- depths

small : (d : ℕ) → d < 32 → depth_of (pos d) ≡ d
small d lt = grind (arith, nat_tests)

pub low_depths : (ds : List ℕ) → ((r : ℕ) → get_or ds r 0 < 32) → depths_of (map pos ds) ≡ ds
unfolding depths_of
low_depths [] low = refl
low_depths (d ∷ ds) low =
    let first : depth_of (pos d) ≡ d = small d (low 0) in
    let rest = low_depths ds (λ r. low (suc r)) in
    ap (λ x. x ∷ map depth_of (map pos ds)) first ∙ ap (λ l. d ∷ l) rest

pub marks_are : (marks : List ℤ) (ds : List ℕ) → length ds ≡ length marks → ((r : ℕ) → get_or ds r 0 < 32) →
    ((i : ℕ) → i < length marks → get_or marks i (pos 0) ≡ pos (get_or ds i 0)) → depths_of marks ≡ ds
marks_are marks ds long low each = ap depths_of same ∙ low_depths ds low
  where
    same : marks ≡ map pos ds
    same = ext_get_or (pos 0) marks (map pos ds) (sym long ∙ sym (length-map ds pos))
        (λ i lt. each i lt ∙ sym (get_or-map pos ds i 0 (pos 0) (omega (arith, lt, long))))
