-- No item of a segment is refused if its values can be coded, its options exist and its depths are within the head's.
use Rattle.std.proofs.Common.{◌≡◌, ℕ, ◌<◌, ◌≤◌, Bool, true, cond, List, ◌++◌, length, ◌∙◌, subst, arith, ℤ, get_or, nat_le, leb-true}
use Rattle.std.specs.List.{list_all}
use Rattle.std.proofs.lemmas.List.{length-map}
use Rattle.item_defs.specs.Readings.{AreItems}
use Rattle.item_defs.proofs.ReadingLaws.{are_append}
use Rattle.number_defs.specs.Gaggles.{gaggle_count}
use Rattle.number_defs.specs.Depths.{depth_bits, depth_items}
use Rattle.number_defs.proofs.AreItems.{dcs_are, depths_are}
use Rattle.plane_defs.specs.Spans.{span}
use Rattle.plane_defs.proofs.Tables.{list_all-span-zero}
use Rattle.segment_defs.specs.declared.head.SegmentHead.{SegmentHead}
use Rattle.segment_defs.specs.Head.{IsHead}
use Rattle.segment_defs.specs.Depths.{dc_of, dcs_of}
use Rattle.segment_defs.specs.SegmentItems.{Options, dc_shift, dc_part_items, planes_items, segment_items}
use Rattle.segment_defs.specs.Spellable.{IsSpellable, AreWordOptions, AreNumberOptions}
use Rattle.plane_defs.proofs.PlaneItems.{plane_are_items, flat_items}
use Rattle.segment_defs.proofs.Equations.{segment_items-is}
use Rattle.plane_defs.proofs.Equations.{span-none, span-more}
use Rattle.std.proofs.lemmas.Bool.Decides.{nat_tests}

depths_fit : list_all (λ d. nat_le (depth_bits d) 10) (span 0 28) ≡ true
depths_fit = grind (arith, nat_tests, span-none, span-more)

pub depth_bits_few : (depth_ac : ℕ) → depth_ac ≤ 27 → depth_bits depth_ac ≤ 10
depth_bits_few depth_ac le = leb-true (depth_bits depth_ac) 10 (list_all-span-zero (λ d. nat_le (depth_bits d) 10) 28 depth_ac depths_fit (omega arith))

pub segment_are_items : (head : SegmentHead) (blocks : List (List ℤ)) (depths : List ℕ) (options : Options) → IsHead head → IsSpellable head blocks depths →
    AreWordOptions options → AreNumberOptions head options →
    ((r : ℕ) → r < length depths → get_or depths r 0 ≤ head.depth_ac) → AreItems (segment_items head blocks depths options)
segment_are_items head blocks depths options fits spellable words numbers low = simp segment_items-is (by_stop head.stop.dc)
  where
    counted : length (dcs_of blocks) ≡ head.blocks
    counted = length-map blocks dc_of ∙ spellable.blocks_all

    first : AreItems (dc_part_items head blocks options)
    first =
        dcs_are head.depth_dc head.depth_ac (dc_shift head) (dcs_of blocks) options.dcs spellable.dcs_fit
        (λ two g lt. numbers.dcs two g (subst (λ n. g < gaggle_count n) counted lt))

    second : AreItems (depth_items head.depth_ac depths options.depths)
    second = grind (arith, nat_tests, depths_are, depth_bits_few)

    third : AreItems (planes_items head blocks depths options head.depth_ac)
    third = grind (arith, nat_tests, flat_items, plane_are_items)

    by_stop : (b : Bool) → AreItems (cond b (dc_part_items head blocks options)
        (dc_part_items head blocks options ++ (depth_items head.depth_ac depths options.depths ++ planes_items head blocks depths options head.depth_ac)))
    by_stop b = grind (arith, nat_tests, first, are_append, second, third)
