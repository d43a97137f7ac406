-- What the state of a block has above the block's depth: in a gaggle's first block the option of each length and whether a word
-- of that length was sent, and in each block which of its families are significant. (This project's own.)
use Rattle.std.specs.Prelude.{◌≡◌, ◌≤◌, ◌<◌, ℕ, ◌-◌, ◌*◌, ◌/◌, ◌%◌, ℤ, pos, Bool, false, ◌==◌, List, [], ◌∷◌, length}
use Rattle.std.specs.Int.RustNames.{unsigned_abs}
use Rattle.std.specs.Int.{int_rem_euclid}
use Rattle.std.specs.List.{list_any}
use lib.ListN.{get_or}
use Rattle.plane_defs.specs.declared.entries.Entry.{Entry}
use Rattle.plane_defs.specs.Spelled.{is_word_of}
use Rattle.plane_defs.specs.Planes.{Plane, gaggles, before_stage}
use Rattle.plane_defs.specs.Marks.{depths_of}

abbrev pub low_bits : ℤ → ℕ
low_bits mark = unsigned_abs (int_rem_euclid mark (pos 8192))

unfoldable pub options_in : ℤ → List ℕ
options_in mark = low_bits mark / 32 % 2 ∷ low_bits mark / 64 % 4 ∷ low_bits mark / 256 % 4 ∷ []

unfoldable pub sent_in : ℤ → List Bool
sent_in mark = (low_bits mark / 1024 % 2 == 1) ∷ (low_bits mark / 2048 % 2 == 1) ∷ (low_bits mark / 4096 % 2 == 1) ∷ []

-- bit i is for family i
unfoldable pub families_in : ℤ → ℕ
families_in mark = unsigned_abs (int_rem_euclid mark (pos 65536)) / 8192

-- the state of a gaggle's first block
abbrev pub first_mark : List ℤ → ℕ → ℤ
first_mark marks g = get_or marks (16 * g) (pos 0)

abbrev pub options_at : List ℤ → ℕ → List ℕ
options_at marks g = options_in (first_mark marks g)

abbrev pub sent_at : List ℤ → ℕ → List Bool
sent_at marks g = sent_in (first_mark marks g)

-- each option is an option of its length
pub record AreOptions (options : List ℕ) : Type 0 where
  pub two : get_or options 0 0 < 2
  pub three : get_or options 1 0 < 3
  pub four : get_or options 2 0 < 4

-- the flag of each length says whether a word of that length was sent
pub record Agrees (sent : List Bool) (before : List Entry) : Type 0 where
  pub at : (n : ℕ) → 2 ≤ n → n ≤ 4 → get_or sent (n - 2) false ≡ list_any (is_word_of n) before

-- the flags of the gaggles say which words the stages before stage k sent
pub record AllAgree (p : Plane) (k : ℕ) (marks : List ℤ) : Type 0 where
  pub at : (g : ℕ) → g < gaggles p → Agrees (sent_at marks g) (before_stage p k g)

-- the states keep the depths of the blocks and the options of the gaggles
pub record SameMarks (old new : List ℤ) : Type 0 where
  pub depths : depths_of new ≡ depths_of old
  pub whole : length new ≡ length old
  pub options : (g : ℕ) → options_at new g ≡ options_at old g

-- the options of each gaggle exist
pub record AreKnown (marks : List ℤ) : Type 0 where
  pub at : (g : ℕ) → 16 * g < length marks → AreOptions (options_at marks g)
