-- The numbers of the blocks of a segment, kept as masks of bits. (This project's own.)
use Rattle.std.specs.Prelude.{◌≡◌, ◌<◌, ◌≤◌, ℕ, ◌+◌, ◌-◌, ◌*◌, ◌/◌, ◌%◌, ◌^◌, ◌⊎◌, ℤ, pos, Bool, true, ◌||◌, unsigned_abs, List, length, map, if◌then◌else◌}
use Rattle.std.specs.Prelude.{nat_lt}
use Rattle.std.specs.List.{range_with_len}
use Rattle.std.specs.Int.{div_ceil}
use lib.ListN.{get_or}
use Rattle.item_defs.specs.Bits.{bit}
use Rattle.wave_defs.specs.Held.{block_at}
use Rattle.plane_defs.specs.Sets.{magnitude, significant}
use Rattle.plane_defs.specs.Entries.{negative}
use Rattle.block_masks.specs.Masks.{Shows}
use Rattle.block_masks.specs.MaskedNumbers.{size_in, number_from}

-- There is room for `most` blocks. The numbers are 64 for each block, one block after another, and `above` has a mask for each block:
-- which of its numbers are significant above the plane that is coded next.
pub record SegmentNumbers : Type 0 where
  pub most : ℕ
  pub numbers : List ℤ
  pub above : List ℕ

-- the masks of what is significant above the plane that is coded next are of this plane
pub record AreAbove (plane : ℕ) (segment : SegmentNumbers) : Type 0 where
  pub at : (r : ℕ) → 64 * r < length segment.numbers → Shows (get_or segment.above r 0) (significant (block_at segment.numbers r) plane) 0 64

-- ---- the masks in a list of words

-- The words are in slots, one after another, and a slot has a word for each block: slot 0 says which numbers are negative, slot 1 which
-- are significant above the plane that is coded next, and slot 2 + p which have the bit of weight 2^p in their magnitude. No
-- number has a bit in a slot that the list does not have.

-- how far slots are apart: an odd number of cache lines where there are many blocks, so that the words of a block are in different
-- sets of a cache
abbrev pub step_for : ℕ → ℕ
step_for most = if nat_lt most 1024 then most else 8 * (div_ceil most 8 + 1 - div_ceil most 8 % 2)

-- all words fit 64 bits
abbrev pub AreWords : List ℕ → Type 0
AreWords words = (i : ℕ) → get_or words i 0 < 2 ^ 64

unfoldable pub word_at : List ℕ → (step slot r : ℕ) → ℕ
word_at words step slot r = get_or words (step * slot + r) 0

-- the masks of the planes of block r
abbrev pub planes_at : List ℕ → (step r : ℕ) → (ℕ → ℕ)
planes_at words step r = λ p. word_at words step (2 + p) r

abbrev pub number_at : List ℕ → (step : ℕ) → List ℤ → (r k : ℕ) → ℤ
number_at words step dcs r k = number_from (planes_at words step r) (word_at words step 0 r) (get_or dcs r (pos 0)) k

unfoldable pub numbers_at : List ℕ → (step : ℕ) → List ℤ → List ℤ
numbers_at words step dcs = map (λ i. number_at words step dcs (i / 64) (i % 64)) (range_with_len 0 (64 * length dcs))

unfoldable pub above_at : List ℕ → (step count : ℕ) → List ℕ
above_at words step count = map (λ r. word_at words step 1 r) (range_with_len 0 count)

-- the lists have room for all slots and blocks, and no more
pub record HasRoom (most step slots words words_room dcs dcs_room : ℕ) : Type 0 where
  pub few : most ≤ 2 ^ 20
  pub apart : step ≡ step_for most
  pub least : 2 ≤ slots
  pub greatest : slots ≤ 29
  pub long : words ≡ step * slots
  pub words_fit : words_room ≡ 29 * step
  pub blocks : dcs ≤ most
  pub dcs_fit : dcs_room ≡ most

-- the masks of block r have its first number, the DC, too, and none of its numbers is 0 and negative
pub record IsMasked (words : List ℕ) (step : ℕ) (first : ℤ) (r : ℕ) : Type 0 where
  pub dc : (p : ℕ) → p < 27 → bit (word_at words step (2 + p) r) 0 ≡ bit (unsigned_abs first) p
  pub dc_minus : bit (word_at words step 0 r) 0 ≡ negative first
  pub signed : (k : ℕ) → 0 < k → k < 64 → bit (word_at words step 0 r) k ≡ true → 0 < size_in (planes_at words step r) k

-- the words have masks of all blocks
pub record AreMasks (words : List ℕ) (step : ℕ) (dcs : List ℤ) : Type 0 where
  pub fit : AreWords words
  pub small : (r : ℕ) → unsigned_abs (get_or dcs r (pos 0)) < 2 ^ 28
  pub blocks : (r : ℕ) → r < length dcs → IsMasked words step (get_or dcs r (pos 0)) r

-- ---- changes of the words

-- the masks of the first planes are those of a block, and those of all other blocks stay
pub record PutsPlanes (planes step r : ℕ) (block : List ℤ) (old new : List ℕ) : Type 0 where
  pub long : length new ≡ length old
  pub here : (p : ℕ) → p < planes → Shows (word_at new step (2 + p) r) (λ k. bit (magnitude block k) p) 0 64
  pub others : (slot q : ℕ) → q < step → (q ≡ r → ⊥) → word_at new step slot q ≡ word_at old step slot q
  pub fit : AreWords old → AreWords new

-- the first `count` words from a place on got the bits of those from another place on, and all other words stay
pub record JoinsWords (to from count : ℕ) (old new : List ℕ) : Type 0 where
  pub long : length new ≡ length old
  pub here : (r : ℕ) (f g : ℕ → Bool) → r < count → Shows (get_or old (to + r) 0) f 0 64 → Shows (get_or old (from + r) 0) g 0 64 →
      Shows (get_or new (to + r) 0) (λ k. f k || g k) 0 64
  pub others : (i : ℕ) → (i < to) ⊎ (to + count ≤ i) → get_or new i 0 ≡ get_or old i 0
  pub fit : AreWords old → AreWords new
