-- The types of positions, four by four.
use Rattle.std.specs.Prelude.{◌≡◌, ℕ, ◌&&◌, Bool, not, map, filter}
use Rattle.plane_defs.specs.Spans.{span}
use Rattle.block_masks.specs.Masks.{Shows}
use Rattle.block_masks.specs.Paired.{ArePaired}
use Rattle.block_masks.specs.Picks.{packed}
use Rattle.plane_coder.specs.declared.fours.Fours.{Fours}
use Rattle.plane_coder.specs.declared.plane_masks.Typed.{Typed}
use Rattle.plane_coder.specs.Picked.{word_in, signs_in}

-- the masks of positions: `due` has the types that are due, `one` those that are 1, and `minus` the negative numbers
pub record AreFours (due one minus : ℕ → Bool) (start count : ℕ) (m : Fours) : Type 0 where
  pub plain : ℕ
  pub ones : ℕ
  pub plain_shown : Shows plain (λ p. not ((due p && one p) && minus p) && due p) start count
  pub ones_shown : Shows ones (λ p. due p && one p) start count
  pub paired : ArePaired plain ones m.pairs

-- the word and the signs of four positions from a start on
pub record ArePicked (due one minus : ℕ → Bool) (start : ℕ) (t : Typed) : Type 0 where
  pub word : word_in t ≡ packed (map one (filter due (span start 4)))
  pub signs : signs_in t ≡ packed (map minus (filter (λ p. due p && one p) (span start 4)))
