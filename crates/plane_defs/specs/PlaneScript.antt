-- The bit planes of a segment as they are read, and the numbers that they give. (docs/formats.md, "Bit planes" and "Stops, cut and
-- fill"; CCSDS 122.0-B-2, section 4.5.)
use Rattle.std.specs.Prelude.{ℕ, zero, suc, ◌+◌, ◌/◌, ◌^◌, ◌==◌, ◌||◌, if◌then◌else◌, List, [], length, map, Option, None, ℤ, pos, ◌+ℤ◌, ◌-ℤ◌}
use lib.ListN.{get_or}
use Rattle.base_122.specs.declared.book.Book.{Book}
use Rattle.plane_defs.specs.Spans.{span}
use Rattle.plane_defs.specs.Sets.{magnitude}
use Rattle.plane_defs.specs.Entries.{negative}
use Rattle.item_defs.specs.Scripts.{Script, done, then_ask, in_turn, around}
use Rattle.plane_defs.specs.States.{State, nothing, with_options}
use Rattle.plane_defs.specs.StageScripts.{Terms, stage_script}

-- ---- a plane: the options of its gaggles of 16 blocks, and what was read of its blocks

pub record PlaneState : Type 0 where
  pub options : ℕ → ℕ → Option ℕ
  pub blocks : ℕ → State

abbrev pub nothing_yet : PlaneState
nothing_yet = record { options = λ g n. None; blocks = λ r. nothing }

abbrev pub of_block : PlaneState → ℕ → State
of_block s r = with_options (s.blocks r) (s.options (r / 16))

abbrev pub with_block : PlaneState → ℕ → State → PlaneState
with_block s r b = record {
  options = λ g. if g == r / 16 then b.options else s.options g;
  blocks = λ i. if i == r then b else s.blocks i;
}

-- each stage has all blocks of the segment in order
abbrev pub blocks_script : Terms → (depths : List ℕ) → (blocks : List (List ℤ)) → (stage : ℕ) → PlaneState → Script PlaneState PlaneState
blocks_script t depths blocks stage =
    in_turn (λ r s. around (with_block s r) (stage_script t stage (get_or depths r 0) (get_or blocks r []) (of_block s r))) 0 (length depths)

-- the first stages of a plane
abbrev pub plane_script : Terms → (depths : List ℕ) → (blocks : List (List ℤ)) → (stages : ℕ) → Script PlaneState PlaneState
plane_script t depths blocks stages = in_turn (blocks_script t depths blocks) 0 stages nothing_yet

-- ---- the numbers that a plane gives, from those above it

abbrev pub bit_of_plane : (plane : ℕ) → State → ℕ → ℕ
bit_of_plane plane s p = if s.bits p then 2 ^ plane else 0

-- a number with its bit of the plane, and with its sign if that was read
abbrev pub number_with : (plane : ℕ) → List ℤ → State → ℕ → ℤ
number_with plane block s p =
    let m = magnitude block p + bit_of_plane plane s p in
    if p == 0 then get_or block 0 (pos 0) +ℤ pos (bit_of_plane plane s 0) else
    if negative (get_or block p (pos 0)) || s.minus p then pos 0 -ℤ pos m else pos m

abbrev pub block_with : (plane : ℕ) → List ℤ → State → List ℤ
block_with plane block s = map (number_with plane block s) (span 0 64)

abbrev pub blocks_with : (plane : ℕ) → List (List ℤ) → PlaneState → List (List ℤ)
blocks_with plane blocks s = map (λ r. block_with plane (get_or blocks r []) (s.blocks r)) (span 0 (length blocks))

-- ---- the planes from `below` - 1 down, of each this number of first stages

abbrev pub planes_script : Book → (weights : List ℕ) → (q : ℕ) → (depths : List ℕ) → (stages : ℕ → ℕ) → (below : ℕ) → List (List ℤ) →
    Script (List (List ℤ)) (List (List ℤ))
planes_script book weights q depths stages zero blocks = done blocks
planes_script book weights q depths stages (suc plane) blocks =
    then_ask (around (blocks_with plane blocks) (plane_script (record { book = book; weights = weights; plane = plane; q = q }) depths blocks (stages plane)))
    (planes_script book weights q depths stages plane)
