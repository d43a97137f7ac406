-- The DC numbers of a segment's blocks, and their range.
use Rattle.std.proofs.Common.{◌≡◌, ℕ, ◌+◌, ◌*◌, ◌/◌, ◌<◌, ◌≤◌, List, [], ◌∷◌, length, drop, map, get_or, Bool, true, refl, sym, ap, subst, ◌∙◌, arith, ℤ, pos}
use Rattle.std.specs.Int.{div_ceil, int_shr}
use Rattle.std.specs.List.{range_with_len}
use Rattle.std.proofs.lemmas.List.{get_or-take, get_or-drop, get_or-map, length-map}
use Rattle.std.proofs.lemmas.List.FromFn.{get_or-map-range_with_len, length-map-range_with_len, fill_by_all}
use Rattle.number_defs.specs.Ranges.{IsInRange}
use Rattle.number_defs.specs.Cells.{cell_at, strided, AreInRange}
use Rattle.number_defs.specs.DcPart.{dc_q, dc_bits}
use Rattle.number_defs.proofs.Equations.{strided-is}
use Rattle.number_defs.proofs.DcRange.{dc_fits, dcs_fit as sized_dcs_fit}
use Rattle.number_defs.specs.Laws.{DcsFit}
use Rattle.segment_defs.specs.Size.{greatest}
use Rattle.wave_defs.specs.Held.{block_at, blocks_in}
use Rattle.segment_defs.specs.Depths.{dc_of, dcs_of, signed_size, depth_dc_of}
use Rattle.segment_defs.proofs.DepthLaws.{each_above, range_of_size}

-- a block's DC is its first cell
pub dc_cell : (cells : List ℤ) (r : ℕ) → dc_of (block_at cells r) ≡ cell_at 64 cells r
dc_cell cells r =
    let place : 64 * r + 0 ≡ r * 64 = omega arith in
    get_or-take 64 (drop (64 * r) cells) 0 (pos 0) (omega arith) ∙ get_or-drop (64 * r) cells 0 (pos 0) ∙ ap (λ k. get_or cells k (pos 0)) place

-- the DC numbers of the blocks are the cells 0, 64, 128 and so on
pub dcs_strided : (cells : List ℤ) (n : ℕ) → length cells ≡ 64 * n → dcs_of (blocks_in cells) ≡ strided 64 cells
unfolding blocks_in strided
dcs_strided cells n e =
    let count : length cells / 64 ≡ div_ceil (length cells) 64 = omega (arith, e) in
    each (range_with_len 0 (length cells / 64)) ∙ ap (λ k. map (cell_at 64 cells) (range_with_len 0 k)) count
  where
    each : (ks : List ℕ) → map dc_of (map (block_at cells) ks) ≡ map (cell_at 64 cells) ks
    each [] = refl
    each (k ∷ ks) = let here = dc_cell cells k in let rest = each ks in cc

pub signed_size_at : (cells : List ℤ) (n m : ℕ) → length cells ≡ 64 * n → m < n → signed_size (cell_at 64 cells m) ≤ depth_dc_of (blocks_in cells)
unfolding blocks_in
signed_size_at cells n m e lt =
    let count : length cells / 64 ≡ n = omega (arith, e) in
    let inside : m < length (map (block_at cells) (range_with_len 0 (length cells / 64))) =
    omega (arith, length-map-range_with_len (block_at cells) 0 (length cells / 64), count) in
    let block : get_or (map (block_at cells) (range_with_len 0 (length cells / 64))) m [] ≡ block_at cells m =
    get_or-map-range_with_len (block_at cells) 0 (length cells / 64) m m [] (omega (arith, count)) (omega arith) in
    let above = each_above (λ b. signed_size (dc_of b)) 0 (map (block_at cells) (range_with_len 0 (length cells / 64))) m [] inside in
    let here : dc_of (get_or (map (block_at cells) (range_with_len 0 (length cells / 64))) m []) ≡ cell_at 64 cells m = ap dc_of block ∙ dc_cell cells m in
    subst (λ z. signed_size z ≤ greatest (λ b. signed_size (dc_of b)) (map (block_at cells) (range_with_len 0 (length cells / 64)))) here above

pub dcs_fit : (cells : List ℤ) (n D A s : ℕ) → 1 ≤ D → length cells ≡ 64 * n → D ≡ depth_dc_of (blocks_in cells) →
    AreInRange true (dc_bits D A s) (dc_q D A s) 64 cells
dcs_fit cells n D A s some e d = sized_dcs_fit D A s cells some
    (λ m lt. range_of_size (cell_at 64 cells m) D (omega (arith, d, signed_size_at cells n m e (omega (arith, e)))))

-- a list of the DC numbers has them one after another
module _ (dcs cells : List ℤ) (long : 64 * length dcs ≡ length cells) (each : (r : ℕ) → get_or dcs r (pos 0) ≡ get_or cells (64 * r) (pos 0)) where
  pub held_dcs : dcs ≡ dcs_of (blocks_in cells)
  held_dcs =
      let count : length dcs ≡ div_ceil (length cells) 64 = omega (arith, long) in
      fill_by_all (cell_at 64 cells) dcs (div_ceil (length cells) 64) (pos 0) count (λ r lt. let place : 64 * r ≡ r * 64 =
      omega arith in each r ∙ ap (λ i. get_or cells i (pos 0)) place)
      ∙ sym (strided-is 64 cells) ∙ sym (dcs_strided cells (length dcs) (sym long))

  pub dcs_in_range : (signed : Bool) (N shift : ℕ) → AreInRange signed N shift 64 cells → AreInRange signed N shift 1 dcs
  dcs_in_range signed N shift fit = record {
    at = λ m lt. subst (λ z. IsInRange signed N (int_shr z shift)) (sym (cell m))
        (fit.at m (omega (arith, lt, long)));
  }
    where
      cell : (m : ℕ) → cell_at 1 dcs m ≡ cell_at 64 cells m
      cell m =
          let here : m * 1 ≡ m = omega arith in
          let there : 64 * m ≡ m * 64 = omega arith in
          ap (λ i. get_or dcs i (pos 0)) here ∙ each m ∙ ap (λ i. get_or cells i (pos 0)) there

-- the DC numbers of blocks that this depth holds fit
pub blocks_fit : (blocks : List (List ℤ)) (D A s : ℕ) → 1 ≤ D → D ≡ depth_dc_of blocks → DcsFit D A s (dcs_of blocks)
blocks_fit blocks D A s some e i lt =
    let inside : i < length blocks = omega (arith, length-map blocks dc_of) in
    let above = each_above (λ b. signed_size (dc_of b)) 0 blocks i [] inside in
    let here : get_or (map dc_of blocks) i (pos 0) ≡ dc_of (get_or blocks i []) = get_or-map dc_of blocks i [] (pos 0) inside in
    rw here (dc_fits D A s (dc_of (get_or blocks i [])) some (range_of_size (dc_of (get_or blocks i [])) D (omega (arith, e, above))))
