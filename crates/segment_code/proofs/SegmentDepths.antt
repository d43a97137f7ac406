-- BitDepthDC and BitDepthAC of a segment, by the DCs and the depths of its blocks.
use Rattle.std.proofs.Common.{◌≡◌, ℕ, ◌+◌, ◌*◌, ◌<◌, ◌≤◌, max, List, [], ◌∷◌, length, map, get_or, take, refl, ap, subst, sym, ◌∙◌, arith, ℤ, pos}
use Rattle.std.proofs.lemmas.List.{get_or_default, map-append, take_more}
use Rattle.std.proofs.lemmas.List.Folds.{fold-map}
use Rattle.wave_defs.specs.Held.{block_at, blocks_in}
use Rattle.plane_defs.specs.Marks.{depth_of, depths_of}
use Rattle.number_defs.specs.Cells.{cell_at}
use Rattle.segment_defs.specs.Size.{greatest}
use Rattle.segment_defs.specs.Depths.{dc_of, dcs_of, block_depth, block_depths, signed_size, depth_dc_of, depth_ac_of}
use Rattle.segment_code.specs.Numbers.{AreBounded}
use Rattle.segment_code.proofs.SizeBits.{greatest-within, greatest-push, signed_size-some}
use Rattle.segment_code.proofs.BlockBounds.{dc_within, ac_within}
use Rattle.segment_code.proofs.BlockLists.{block_is, length-blocks_in}
use Rattle.segment_code.proofs.DcFits.{signed_size_at}

greatest-map : {X Y : Type 0} (f : Y → ℕ) (g : X → Y) (xs : List X) → greatest f (map g xs) ≡ greatest (λ x. f (g x)) xs
greatest-map f g xs = fold-map (λ most y. max most (f y)) g 0 xs

pub dc_depth_is : (cells dcs : List ℤ) → dcs ≡ dcs_of (blocks_in cells) → greatest signed_size dcs ≡ depth_dc_of (blocks_in cells)
dc_depth_is cells dcs same = ap (greatest signed_size) same ∙ greatest-map signed_size dc_of (blocks_in cells)

pub ac_depth_is : (blocks : List (List ℤ)) (depths : List ℕ) → depths ≡ block_depths blocks → greatest (λ d. d) depths ≡ depth_ac_of blocks
ac_depth_is blocks depths same = ap (greatest (λ d. d)) same ∙ greatest-map (λ d. d) block_depth blocks

-- the greatest depth in no states
pub no_greatest : (marks : List ℤ) → 0 ≡ greatest (λ d. d) (depths_of (take 0 marks))
unfolding depths_of
no_greatest marks = refl

-- the greatest depth in one state more
pub greatest_more : (marks : List ℤ) (i most depth : ℕ) → i < length marks → depth ≡ depth_of (get_or marks i (pos 0)) →
    most ≡ greatest (λ d. d) (depths_of (take i marks)) →
    max most depth ≡ greatest (λ d. d) (depths_of (take (i + 1) marks))
unfolding depths_of
greatest_more marks i most depth lt is same =
    sym (ap (λ ms. greatest (λ d. d) (map depth_of ms)) (take_more marks i (pos 0) lt)
    ∙ ap (greatest (λ d. d)) (map-append depth_of (take i marks) (get_or marks i (pos 0) ∷ []))
    ∙ greatest-push (λ d. d) (map depth_of (take i marks)) (depth_of (get_or marks i (pos 0)))
    ∙ ap (λ m. max m (depth_of (get_or marks i (pos 0)))) (sym same) ∙ ap (max most) (sym is))

module _ (cells : List ℤ) (n : ℕ) (whole : length cells ≡ 64 * n) where
  pub least_dc : 64 ≤ length cells → 1 ≤ depth_dc_of (blocks_in cells)
  least_dc some =
      let first : signed_size (cell_at 64 cells 0) ≤ depth_dc_of (blocks_in cells) = signed_size_at cells n 0 whole (omega (arith, whole, some)) in
      omega (arith, first, signed_size-some (cell_at 64 cells 0))

  within : (f : List ℤ → ℕ) (most : ℕ) → ((r : ℕ) → r < n → f (block_at cells r) ≤ most) → greatest f (blocks_in cells) ≤ most
  within f most each = greatest-within f most (blocks_in cells) held
    where
      held : (r : ℕ) (d : List ℤ) → r < length (blocks_in cells) → f (get_or (blocks_in cells) r d) ≤ most
      held r d lt =
          let below : r < n = omega (arith, lt, length-blocks_in cells n whole) in
          subst (λ b. f b ≤ most) (sym (get_or_default (blocks_in cells) r d [] lt ∙ block_is cells n r whole below)) (each r below)

  pub most_dc : AreBounded cells → depth_dc_of (blocks_in cells) ≤ 28
  most_dc bounded = within (λ b. signed_size (dc_of b)) 28 (λ r lt. dc_within cells r bounded (omega (arith, whole, lt)))

  pub most_ac : AreBounded cells → depth_ac_of (blocks_in cells) ≤ 27
  most_ac bounded = within block_depth 27 (λ r lt. ac_within cells r bounded (omega (arith, whole, lt)))
