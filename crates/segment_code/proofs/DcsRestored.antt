-- Blocks that have only DC numbers, restored.
use Rattle.std.specs.Prelude.{replicate, ◌==◌}
use Rattle.std.proofs.Common.{◌≡◌, ◌<◌, ℕ, zero, suc, ◌*◌, true, false, List, [], ◌∷◌, length, refl, sym, ap, subst, ◌∙◌, arith, get_or, ℤ, pos}
use Rattle.std.proofs.lemmas.Bool.Decides.{nat_tests}
use Rattle.std.proofs.lemmas.List.{ext_get_or, length-replicate}
use Rattle.wave_defs.specs.Held.{blocks_in}
use Rattle.base_122.specs.Restored.{restored_dc}
use Rattle.number_defs.specs.DcLows.{DcGiven}
use Rattle.plane_defs.specs.Sets.{shift}
use Rattle.plane_defs.specs.Lows.{Given}
use Rattle.plane_defs.specs.Restored.{restored_at, restored, numbers_for}
use Rattle.plane_defs.proofs.NumbersGiven.{restored_by_position}
use Rattle.plane_defs.proofs.SpanLists.{get_or-map-span}
use Rattle.dc_depths.specs.declared.plan.DcPlan.{DcPlan}
use Rattle.dc_depths.specs.declared.reach.DcReach.{DcReach}
use Rattle.dc_depths.specs.Dcs.{block_count, SetsDcs, q_in}
use Rattle.dc_depths.specs.Reach.{AreGivenTo}
use Rattle.segment_defs.specs.declared.head.SegmentHead.{SegmentHead}
use Rattle.segment_defs.specs.SegmentItems.{dc_shift}
use Rattle.segment_defs.specs.Segments.{dc_blocks}
use Rattle.segment_defs.specs.Given.{dc_blocks_given}
use Rattle.segment_defs.proofs.DcBlocks.{dcs_long}
use Rattle.segment_defs.proofs.SegmentWritten.{first_shift}
use Rattle.segment_code.specs.Starts.{AreClear, EndsAtDcs}
use Rattle.segment_code.proofs.BlocksHeld.{blocks_are}

module _ (weights : List ℕ) (n : ℕ) (d : DcGiven) where
  abbrev given : Given
  given = dc_blocks_given n d

  abbrev dc_at : ℕ → ℤ
  dc_at r = restored_dc (shift weights 0) (d.lows r) (d.dcs r)

  -- a block of which only this DC is not 0
  abbrev block : ℤ → List ℤ
  block dc = dc ∷ replicate 63 (pos 0)

  number : (r p : ℕ) → restored_at weights p (given.lows r p) (get_or (block (d.dcs r)) p (pos 0)) ≡ get_or (block (dc_at r)) p (pos 0)
  number r zero = refl
  number r (suc p) = let e : (suc p == 0) ≡ false = grind (arith, nat_tests) in rw e refl

  pub dcs_restored : restored weights given ≡ dc_blocks n dc_at
  dcs_restored = ext_get_or [] _ _ (count ∙ sym (dcs_long n dc_at)) (λ r lt. same r (omega (arith, lt, count)))
    where
      count : length (restored weights given) ≡ n
      count = restored_by_position.count weights given ∙ dcs_long n d.dcs

      same : (r : ℕ) → r < n → get_or (restored weights given) r [] ≡ get_or (dc_blocks n dc_at) r []
      same r lt =
          let here : r < length given.numbers = omega (arith, lt, dcs_long n d.dcs) in
          let zeros : length (replicate {A = ℤ} 63 (pos 0)) ≡ 63 = length-replicate {A = ℤ} 63 (pos 0) in
          let long = restored_by_position.long weights given r here in
          let was : get_or given.numbers r [] ≡ block (d.dcs r) = get_or-map-span (λ i. block (d.dcs i)) n r [] lt in
          ext_get_or (pos 0) (get_or (restored weights given) r []) (block (dc_at r)) (omega (arith, long, zeros)) (λ p few.
          restored_by_position.at weights given r p here (omega (arith, few, long)) ∙
          ap (λ l. restored_at weights p (given.lows r p) (get_or l p (pos 0))) was ∙ number r p) ∙
          sym (get_or-map-span (λ i. block (dc_at i)) n r [] lt)

  module _ {first : List ℤ} (long : length first ≡ 64 * n) (clear : AreClear first) where
    -- the DCs are as they are given
    pub dcs_as_given : {now : List ℤ} → SetsDcs d.dcs first now → blocks_in now ≡ numbers_for false weights given
    dcs_as_given s = blocks_are n d.dcs long clear s

    -- the DCs were moved
    pub dcs_moved : {now : List ℤ} → SetsDcs dc_at first now → blocks_in now ≡ numbers_for true weights given
    dcs_moved s = blocks_are n dc_at long clear s ∙ sym dcs_restored

module _ (head : SegmentHead) (reach : DcReach) where
  -- the DCs of a text that ends are not restored
  pub end_is_given : (blocks : List ℤ) → EndsAtDcs false head reach blocks blocks
  end_is_given blocks = record {
    numbers = λ given first long clear s lows. dcs_as_given head.image.weights.shifts head.blocks given long clear s;
  }

  -- they are restored by a plan of the head
  pub end_is_moved : (plan : DcPlan) (old new : List ℤ) → plan.depth_dc ≡ head.depth_dc → plan.depth_ac ≡ head.depth_ac → plan.shift ≡ dc_shift head →
      ((given : DcGiven) (first : List ℤ) → SetsDcs given.dcs first old → AreGivenTo (q_in plan) (block_count first) reach given.lows →
      SetsDcs (λ r. restored_dc plan.shift (given.lows r) (given.dcs r)) first new) →
      EndsAtDcs true head reach old new
  end_is_moved plan old new dc ac shift_is moves = record {
    numbers = λ given first long clear s lows.
        let count : block_count first ≡ head.blocks = omega (arith, long) in
        let moved = rw shift_is at (moves given first s (rw (dc, ac, shift_is, count) lows)) in
        dcs_moved head.image.weights.shifts head.blocks given long clear
        (subst (λ n. SetsDcs (λ r. restored_dc n (given.lows r) (given.dcs r)) first new) (sym (first_shift head.image.weights.shifts)) moved);
  }
