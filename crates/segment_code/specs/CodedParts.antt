-- The parts of a coded text: what a writer sends of these blocks.
use Rattle.std.specs.Prelude.{ℕ, ℤ, if◌then◌else◌, List, []}
use Rattle.item_defs.specs.Items.{Item}
use Rattle.base_122.specs.declared.book.Book.{Book}
use Rattle.segment_defs.specs.declared.head.SegmentHead.{SegmentHead}
use Rattle.segment_defs.specs.Depths.{block_depths}
use Rattle.segment_defs.specs.SegmentItems.{nth_plane_items, planes_items, items_after_dc}
use Rattle.segment_defs.specs.Coded.{chosen_options}

-- the nth plane from the top
abbrev pub coded_plane : Book → SegmentHead → List (List ℤ) → ℕ → List Item
coded_plane book head blocks n = nth_plane_items head blocks (block_depths blocks) (chosen_options book head blocks) n

-- the first n planes from the top
abbrev pub coded_planes : Book → SegmentHead → List (List ℤ) → ℕ → List Item
coded_planes book head blocks n = planes_items head blocks (block_depths blocks) (chosen_options book head blocks) n

-- the items after the DC part: the block depths and all planes, unless the text stops at the DC numbers
abbrev pub coded_rest : Book → SegmentHead → List (List ℤ) → List Item
coded_rest book head blocks = if head.stop.dc then [] else items_after_dc head blocks (block_depths blocks) (chosen_options book head blocks)
