-- Lists of blocks, and one block more.
use Rattle.std.proofs.Common.{◌≡◌, ℕ, ◌+◌, ◌*◌, ◌/◌, ◌<◌, ◌≤◌, List, [], ◌∷◌, ◌++◌, length, take, drop, map, sym, ap, ◌∙◌, arith, ℤ, length-drop, take_all}
use Rattle.std.proofs.Common.{get_or}
use Rattle.std.specs.List.{range_with_len}
use Rattle.std.proofs.Math.Seq.{drop-append_seam}
use Rattle.std.proofs.lemmas.List.{ext_get_or, drop-append-le, take-append-le, length-append}
use Rattle.std.proofs.lemmas.List.FromFn.{map-range_with_len_more, length-map-range_with_len, get_or-map-range_with_len}
use Rattle.wave_defs.specs.Held.{block_at, blocks_in}

pub length-blocks_in : (cells : List ℤ) (n : ℕ) → length cells ≡ 64 * n → length (blocks_in cells) ≡ n
unfolding blocks_in
length-blocks_in cells n e = length-map-range_with_len (block_at cells) 0 (length cells / 64) ∙ omega (arith, e)

pub block_is : (cells : List ℤ) (n r : ℕ) → length cells ≡ 64 * n → r < n → get_or (blocks_in cells) r [] ≡ block_at cells r
unfolding blocks_in
block_is cells n r whole lt = get_or-map-range_with_len (block_at cells) 0 (length cells / 64) r r [] (omega (arith, whole, lt)) (omega arith)

module _ (cells block : List ℤ) (n : ℕ) (whole : length cells ≡ 64 * n) (sixty_four : length block ≡ 64) where
  block_before : (r : ℕ) → r < n → block_at (cells ++ block) r ≡ block_at cells r
  block_before r lt =
      let le : 64 * r ≤ length cells = omega (arith, whole, lt) in
      let long : 64 ≤ length (drop (64 * r) cells) = omega (arith, length-drop (64 * r) cells, whole, lt) in
      ap (take 64) (drop-append-le (64 * r) cells block le) ∙ take-append-le 64 (drop (64 * r) cells) block long

  block_after : block_at (cells ++ block) n ≡ block
  block_after = ap (λ k. take 64 (drop k (cells ++ block))) (sym whole) ∙ ap (take 64) (drop-append_seam cells block)
      ∙ take_all 64 block (omega (arith, sixty_four))

  before : map (block_at (cells ++ block)) (range_with_len 0 n) ≡ map (block_at cells) (range_with_len 0 n)
  before =
      let f = block_at (cells ++ block) in
      let g = block_at cells in
      let long : length (map f (range_with_len 0 n)) ≡ n = length-map-range_with_len f 0 n in
      let each : (r : ℕ) → r < n → get_or (map f (range_with_len 0 n)) r [] ≡ get_or (map g (range_with_len 0 n)) r [] =
      λ r lt. get_or-map-range_with_len f 0 n r r [] lt (omega arith) ∙ block_before r lt ∙ sym (get_or-map-range_with_len g 0 n r r [] lt (omega arith)) in
      ext_get_or [] (map f (range_with_len 0 n)) (map g (range_with_len 0 n)) (long ∙ sym (length-map-range_with_len g 0 n))
      (λ r lt. each r (omega (arith, lt, long)))

  pub blocks_push : blocks_in (cells ++ block) ≡ blocks_in cells ++ block ∷ []
  unfolding blocks_in
  blocks_push =
      let more : length (cells ++ block) / 64 ≡ n + 1 = omega (arith, length-append cells block, whole, sixty_four) in
      let count : n ≡ length cells / 64 = omega (arith, whole) in
      ap (λ k. map (block_at (cells ++ block)) (range_with_len 0 k)) more ∙ map-range_with_len_more (block_at (cells ++ block)) 0 n n (omega arith)
      ∙ ap (λ bs. bs ++ block_at (cells ++ block) n ∷ []) (before ∙ ap (λ k. map (block_at cells) (range_with_len 0 k)) count)
      ∙ ap (λ b. blocks_in cells ++ b ∷ []) block_after
