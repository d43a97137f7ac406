-- What holds of the blocks of a segment and their states after a change of them.
use Rattle.std.proofs.Common.{◌≡◌, ℕ, ◌+◌, ◌*◌, ◌/◌, ◌^◌, ◌≤◌, List, [], ◌∷◌, ◌++◌, length, map, refl, ap, sym, ◌∙◌, arith, ℤ, pos, Vec, vec_len, vec_capacity}
use Rattle.std.specs.Vec.{with_items}
use Rattle.std.proofs.lemmas.List.{with_items_is, length-append}
use Rattle.wave_defs.specs.Held.{blocks_in}
use Rattle.plane_defs.specs.Marks.{depths_of}
use Rattle.block_masks.specs.SegmentNumbers.{SegmentNumbers}
use Rattle.block_masks.proofs.Marking.{length-depths_of}
use Rattle.plane_coder.specs.declared.room.GaggleRoom.{GaggleRoom}
use Rattle.segment_defs.specs.Depths.{block_depth, block_depths}
use Rattle.segment_code.specs.Numbers.{AreBounded}
use Rattle.segment_code.specs.HeldBlocks.{AreHeld}
use Rattle.segment_code.proofs.BlockBounds.{none_bounded, bounded_push, ac_fits_27}
use Rattle.segment_code.proofs.DepthMarks.{kept_depths, depths_push, no_depths}
use Rattle.segment_code.proofs.SegmentDepths.{most_ac}

-- no blocks
pub none_held : {A : Type 0} (segment : SegmentNumbers) (marks : Vec ℤ A) (room : GaggleRoom) → segment.most ≤ 2 ^ 20 → segment.numbers ≡ [] →
    marks.items ≡ [] → vec_len marks ≡ 0 → vec_capacity marks ≡ segment.most →
    vec_len room.kept ≡ 32 * (segment.most / 16) → AreHeld segment marks room
none_held segment marks room few numbers items len capacity kept = record {
  few = few;
  whole = omega (arith, ap length numbers, len);
  marks_fit = capacity;
  kept = kept;
  bounded = rw numbers none_bounded;
  depths = no_depths marks.items items ∙ ap (λ cells. block_depths (blocks_in cells)) (sym numbers);
}

module _ {A : Type 0} {segment : SegmentNumbers} {marks : Vec ℤ A} {room : GaggleRoom} (held : AreHeld segment marks room) where
  -- other states with the same depths
  module _ (next : SegmentNumbers) (ws : List ℤ) (later : GaggleRoom) (same : depths_of ws ≡ depths_of marks.items) where
    as_long : length ws ≡ marks.len
    as_long = omega (arith, ap length same, length-depths_of ws, length-depths_of marks.items, marks.ok.0)

    pub held_with : next.numbers ≡ segment.numbers → next.most ≡ segment.most → vec_len later.kept ≡ vec_len room.kept →
        AreHeld next (with_items marks ws) later
    held_with numbers most kept = record {
      few = rw most held.few;
      whole = ap length numbers ∙ held.whole;
      marks_fit = held.marks_fit ∙ sym most;
      kept = kept ∙ held.kept ∙ ap (λ m. 32 * (m / 16)) (sym most);
      bounded = rw numbers held.bounded;
      depths = ap depths_of (with_items_is marks ws as_long) ∙ same ∙ held.depths ∙ ap (λ cells. block_depths (blocks_in cells)) (sym numbers);
    }

  -- states with nothing but the depths
  module _ (before ws : List ℤ) (all : before ≡ marks.items) (reset : ws ≡ map pos (depths_of before)) where
    plain : ws ≡ map pos (block_depths (blocks_in segment.numbers))
    plain = reset ∙ ap (λ ms. map pos (depths_of ms)) all ∙ ap (map pos) held.depths

    kept_same : depths_of ws ≡ depths_of marks.items
    kept_same = kept_depths (blocks_in segment.numbers) ws plain (most_ac segment.numbers (vec_len marks) held.whole held.bounded) ∙ sym held.depths

    pub plain_marks : (with_items marks ws).items ≡ map pos (block_depths (blocks_in segment.numbers))
    plain_marks = with_items_is marks ws (as_long segment ws room kept_same) ∙ plain

    pub held_plain : AreHeld segment (with_items marks ws) room
    held_plain = held_with segment ws room kept_same refl refl refl

  -- no blocks any more
  pub held_none : (next : SegmentNumbers) (none : Vec ℤ A) → next.most ≡ segment.most → next.numbers ≡ [] → none.items ≡ [] → vec_len none ≡ 0 →
      vec_capacity none ≡ vec_capacity marks → AreHeld next none room
  held_none next none most numbers items len capacity =
      none_held next none room (rw most held.few) numbers items len (capacity ∙ held.marks_fit ∙ sym most) (held.kept ∙ ap (λ m. 32 * (m / 16)) (sym most))

  -- one block more
  pub held_more : (next : SegmentNumbers) (more : Vec ℤ A) (block : List ℤ) (depth : ℕ) → length block ≡ 64 → AreBounded block → depth ≡ block_depth block →
      next.most ≡ segment.most → next.numbers ≡ segment.numbers ++ block → more.items ≡ marks.items ++ pos depth ∷ [] → vec_len more ≡ vec_len marks + 1 →
      vec_capacity more ≡ vec_capacity marks → AreHeld next more room
  held_more next more block depth sixty_four bounded is most numbers items len capacity = record {
    few = rw most held.few;
    whole = omega (arith, ap length numbers, length-append segment.numbers block, held.whole, sixty_four, len);
    marks_fit = capacity ∙ held.marks_fit ∙ sym most;
    kept = held.kept ∙ ap (λ m. 32 * (m / 16)) (sym most);
    bounded = rw numbers (bounded_push segment.numbers block (vec_len marks) held.whole held.bounded bounded);
    depths =
        (let low : depth ≤ 27 = rw is (ac_fits_27 block sixty_four bounded) in
        ap depths_of items ∙ depths_push segment.numbers block marks.items (vec_len marks) depth held.whole sixty_four is low held.depths)
        ∙ ap (λ cells. block_depths (blocks_in cells)) (sym numbers);
  }
