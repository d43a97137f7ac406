-- The parts of a coded text, one after another.
use Rattle.std.proofs.Common.{◌≡◌, ℤ, true, false, cond, List, [], ◌++◌, ap, arith, append-nil}
use Rattle.item_defs.specs.Items.{text}
use Rattle.item_defs.proofs.Texts.{text-append}
use Rattle.std.proofs.lemmas.Bool.Decides.{nat_tests}
use Rattle.base_122.specs.declared.book.Book.{Book}
use Rattle.segment_defs.specs.declared.head.SegmentHead.{SegmentHead}
use Rattle.segment_defs.specs.Depths.{block_depths}
use Rattle.number_defs.specs.Depths.{depth_items}
use Rattle.segment_defs.specs.SegmentItems.{items_after_dc, segment_items}
use Rattle.segment_defs.specs.Coded.{chosen_options, dc_part}
use Rattle.segment_code.specs.CodedParts.{coded_planes, coded_rest}

module _ (book : Book) (h : SegmentHead) (blocks : List (List ℤ)) where
  -- DC part and rest
  pub text_parts : text (segment_items h blocks (block_depths blocks) (chosen_options book h blocks)) ≡ text (dc_part book h blocks)
      ++ text (coded_rest book h blocks)
  unfolding segment_items
  text_parts = grind (arith, nat_tests, append-nil, text-append)

  pub rest_none : h.stop.dc ≡ true → text (coded_rest book h blocks) ≡ []
  rest_none stops = ap (λ b. text (cond b [] (items_after_dc h blocks (block_depths blocks) (chosen_options book h blocks)))) stops

  -- block depths and planes
  pub rest_parts : h.stop.dc ≡ false →
      text (coded_rest book h blocks) ≡ text (depth_items h.depth_ac (block_depths blocks) (chosen_options book h blocks).depths)
      ++ text (coded_planes book h blocks h.depth_ac)
  rest_parts goes = grind (arith, nat_tests, text-append)
