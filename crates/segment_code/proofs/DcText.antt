-- The DC part that is put from the list of the DCs.
use Rattle.std.proofs.Common.{◌≡◌, ℕ, List, refl, ℤ}
use Rattle.item_defs.specs.Items.{text}
use Rattle.number_defs.specs.DcPart.{dc_items, dc_choices}
use Rattle.base_122.specs.declared.book.Book.{Book}
use Rattle.segment_defs.specs.declared.head.SegmentHead.{SegmentHead}
use Rattle.wave_defs.specs.Held.{blocks_in}
use Rattle.segment_defs.specs.Depths.{dcs_of}
use Rattle.segment_defs.specs.SegmentItems.{dc_shift}
use Rattle.segment_defs.specs.Coded.{choice_of, dc_part}

-- the DC part that a writer puts from the DCs is the DC part of the head
pub dc_part_bits : (book : Book) (h : SegmentHead) (cells dcs : List ℤ) (shift : ℕ) (choice : ℕ → List ℕ → ℕ) → dcs ≡ dcs_of (blocks_in cells) →
    shift ≡ dc_shift h → choice ≡ choice_of h.best_dc →
    text (dc_items h.depth_dc h.depth_ac shift dcs (dc_choices choice h.depth_dc h.depth_ac shift dcs)) ≡ text (dc_part book h (blocks_in cells))
dc_part_bits book h cells dcs shift choice e p q = rw (e, p, q) refl
