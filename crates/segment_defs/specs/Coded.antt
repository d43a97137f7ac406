-- A whole segment's text: the head's bits and the items after it, with the choices of a writer. (CCSDS 122.0-B-2, section 4;
-- the choices among options are this project's own.)
use Rattle.std.specs.Prelude.{ℕ, ℤ, Bool, if◌then◌else◌, List, ◌++◌}
use Rattle.item_defs.specs.Items.{Item, text}
use Rattle.number_defs.specs.Choice.{heuristic, optimal}
use Rattle.number_defs.specs.DcPart.{dc_choices}
use Rattle.number_defs.specs.Depths.{depth_choices}
use Rattle.base_122.specs.declared.book.Book.{Book}
use Rattle.plane_defs.specs.Planes.{chosen}
use Rattle.segment_defs.specs.declared.head.SegmentHead.{SegmentHead}
use Rattle.segment_defs.specs.Depths.{dcs_of, block_depths}
use Rattle.segment_defs.specs.Head.{head_bits}
use Rattle.segment_defs.specs.SegmentItems.{Options, dc_shift, plane_at, dc_part_items, segment_items}
use Rattle.segment_defs.specs.Text.{text_octets}

-- the choice of options that a flag of the head represents
abbrev pub choice_of : Bool → ℕ → List ℕ → ℕ
choice_of best N values = if best then optimal N values else heuristic N values

-- the options that a writer takes; those of words have the fewest bits by its book
abbrev pub chosen_options : Book → SegmentHead → List (List ℤ) → Options
chosen_options book head blocks = record {
  book = book;
  dcs = dc_choices (choice_of head.best_dc) head.depth_dc head.depth_ac (dc_shift head) (dcs_of blocks);
  depths = depth_choices (choice_of head.best_ac) head.depth_ac (block_depths blocks);
  words = λ b. chosen book (plane_at head blocks (block_depths blocks) b);
}

-- the items of the DC part with these options
abbrev pub dc_part : Book → SegmentHead → List (List ℤ) → List Item
dc_part book head blocks = dc_part_items head blocks (chosen_options book head blocks)

-- the bits of the text before they are padded
abbrev pub coded_bits : Book → SegmentHead → List (List ℤ) → List Bool
coded_bits book head blocks =
    head_bits head ++ text (segment_items head blocks (block_depths blocks) (chosen_options book head blocks))

-- the octets of the text
unfoldable pub coded : Book → SegmentHead → List (List ℤ) → List ℕ
coded book head blocks = text_octets head.image.word head.limit head.fill (coded_bits book head blocks)
