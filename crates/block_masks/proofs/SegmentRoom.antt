-- The room of a segment has a place for each word.
use Rattle.std.proofs.Common.{◌≡◌, ◌<◌, ◌≤◌, ℕ, ◌+◌, ◌*◌, ◌^◌, ◌∙◌, arith, ℤ, List, length}
use Rattle.std.proofs.Math.Nat.{mul-le-mul_left}
use Rattle.std.proofs.lemmas.Bool.Decides.{nat_tests}
use Rattle.block_masks.specs.SegmentNumbers.{step_for, numbers_at, HasRoom}
use Rattle.block_masks.proofs.SegmentLists.{length-numbers_at}
use Rattle.block_masks.proofs.SegmentWords.{within_slots}

-- slots are as far apart as the room has blocks
pub step_wide : (most : ℕ) → most ≤ step_for most
step_wide most = grind (arith, nat_tests)

step_small : (most : ℕ) → most ≤ 2 ^ 20 → step_for most ≤ 2 ^ 20 + 16
step_small most few = grind (arith, nat_tests)

module _ {most step slots words words_room dcs dcs_room : ℕ} (room : HasRoom most step slots words words_room dcs dcs_room) where
  pub blocks_fit : dcs ≤ step
  blocks_fit = omega (arith, step_wide most, room.apart, room.blocks)

  pub few_words : 29 * step ≤ 2 ^ 25
  few_words = omega (arith, step_small most room.few, room.apart)

  pub word_within : (slot r : ℕ) → slot < slots → r < dcs → step * slot + r < words
  word_within slot r there known = within_slots step slots slot r words room.long there (omega (arith, known, blocks_fit))

  pub words_within : words ≤ 29 * step
  words_within = (let most : step * slots ≤ step * 29 = mul-le-mul_left step room.greatest in omega (arith, most, room.long))

  -- room for more slots
  pub slots_fit : (more : ℕ) → more ≤ 29 → step * more ≤ words_room
  slots_fit more few = (let most : step * more ≤ step * 29 = mul-le-mul_left step few in omega (arith, most, room.words_fit))

  pub slots_more : (more : ℕ) → slots ≤ more → words ≤ step * more
  slots_more more few = (let most : step * slots ≤ step * more = mul-le-mul_left step few in omega (arith, most, room.long))

  -- one more block
  pub pushed_room : {slots' words' words_room' dcs' dcs_room' : ℕ} → slots ≤ slots' → slots' ≤ 29 → words' ≡ step * slots' → words_room' ≡ words_room →
      dcs < most → dcs' ≡ dcs + 1 → dcs_room' ≡ dcs_room →
      HasRoom most step slots' words' words_room' dcs' dcs_room'
  pushed_room more greatest long room_stays free one_more dcs_stays = record {
    few = room.few;
    apart = room.apart;
    least = omega (arith, room.least, more);
    greatest = greatest;
    long = long;
    words_fit = room_stays ∙ room.words_fit;
    blocks = omega (arith, free, one_more);
    dcs_fit = dcs_stays ∙ room.dcs_fit;
  }

-- a block whose numbers there are
pub has_block : (words : List ℕ) (step : ℕ) (dcs : List ℤ) (r : ℕ) → 64 * r < length (numbers_at words step dcs) → r < length dcs
has_block words step dcs r there = omega (arith, there, length-numbers_at words step dcs)
