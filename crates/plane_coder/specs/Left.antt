-- Entries of a gaggle as bits, of which the first were taken away and the others wait.
use Rattle.std.specs.Prelude.{◌≡◌, ◌<◌, ◌≤◌, min, ℕ, ◌+◌, Bool, List, ◌++◌}
use Rattle.item_defs.specs.Items.{text}
use Rattle.base_122.specs.declared.book.Book.{Book}
use Rattle.plane_defs.specs.declared.entries.Entry.{Entry}
use Rattle.plane_defs.specs.Spelled.{spelled_after}
use Rattle.block_masks.specs.declared.gaggle.Gaggle.{Gaggle}
use Rattle.block_masks.specs.Gaggles.{Agrees}
use Rattle.plane_coder.specs.declared.pending.PendingBits.{PendingBits}
use Rattle.plane_coder.specs.Appends.{said}
use lib.ListN.{get_or}
use Rattle.plane_coder.specs.Kept.{bits_in, bits_between}

-- these entries were added since the gaggle's state was `old`, whatever entries went before, if its flags are right about them
pub record Leaves (book : Book) (old : Gaggle) (taken : List Bool) (now : PendingBits) (entries : List Entry) : Type 0 where
  pub bits : (before : List Entry) → Agrees old.sent before → taken ++ said now ≡ text (spelled_after book old.options before entries)
  pub agrees : (before : List Entry) → Agrees old.sent before → Agrees now.gaggle.sent (before ++ entries)
  pub options : now.gaggle.options ≡ old.options

-- the bits that were taken away are in masks, if these have room
pub record KeepsBits (book : Book) (old : Gaggle) (from to : ℕ) (masks : List ℕ) (now : PendingBits) (entries : List Entry) : Type 0 where
  pub taken : List Bool
  pub leaves : Leaves book old taken now entries
  pub there : to ≤ 32 → bits_between masks from to ≡ taken

-- the bits that wait are in the next mask, if there is one, and the masks before it stay
pub record KeepsNext (from to : ℕ) (old new : List ℕ) (waiting : PendingBits) : Type 0 where
  pub used : to ≡ min (from + 1) 33
  pub here : to ≤ 32 → bits_in (get_or new from 0) ≡ said waiting
  pub before : (k : ℕ) → k < from → get_or new k 0 ≡ get_or old k 0
