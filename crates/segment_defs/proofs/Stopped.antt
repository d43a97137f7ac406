-- A text that stops at the DC numbers.
use Rattle.std.proofs.Common.{◌≡◌, ℤ, true, cond, List, ◌++◌, ap}
use Rattle.item_defs.specs.Items.{text}
use Rattle.base_122.specs.declared.book.Book.{Book}
use Rattle.segment_defs.specs.declared.head.SegmentHead.{SegmentHead}
use Rattle.segment_defs.specs.Depths.{block_depths}
use Rattle.segment_defs.specs.Head.{head_bits}
use Rattle.segment_defs.specs.SegmentItems.{items_after_dc, segment_items}
use Rattle.segment_defs.specs.Coded.{chosen_options, coded_bits, dc_part}

pub coded_at_dc : (book : Book) (head : SegmentHead) (blocks : List (List ℤ)) → head.stop.dc ≡ true → coded_bits book head blocks ≡ head_bits head
    ++ text (dc_part book head blocks)
unfolding segment_items
coded_at_dc book head blocks stops =
    ap (λ b. head_bits head ++ text (cond b (dc_part book head blocks) (dc_part book head blocks ++ items_after_dc head blocks (block_depths blocks)
    (chosen_options book head blocks)))) stops
