-- The result of a store into the states of blocks. (This project's own.)
use Rattle.std.specs.Prelude.{◌≡◌, ℕ, ℤ, pos, List, length}
use lib.ListN.{get_or}
use Rattle.plane_defs.specs.Marks.{depths_of}
use Rattle.block_masks.specs.declared.gaggle.Gaggle.{Gaggle}
use Rattle.block_masks.specs.Gaggles.{first_mark, families_in, options_at, sent_at}

-- this state of gaggle g is stored
pub record Stores (old new : List ℤ) (g : ℕ) (gaggle : Gaggle) : Type 0 where
  pub depths : depths_of new ≡ depths_of old
  pub families : (r : ℕ) → families_in (get_or new r (pos 0)) ≡ families_in (get_or old r (pos 0))
  pub whole : length new ≡ length old
  pub options : options_at new g ≡ gaggle.options
  pub sent : sent_at new g ≡ gaggle.sent
  pub others : (h : ℕ) → (h ≡ g → ⊥) → first_mark new h ≡ first_mark old h
