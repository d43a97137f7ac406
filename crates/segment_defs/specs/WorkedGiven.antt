-- What some coded segments that are cut or stopped are restored to, worked out by hand.
use Rattle.std.specs.Prelude.{◌≡◌, ℕ, ◌++◌, drop, List, [], ◌∷◌, replicate, codes, ℤ, pos, negsuc, Ok}
use Rattle.base_122.specs.Profile.{profile}
use Rattle.item_defs.specs.Outcomes.{Outcome, cut}
use Rattle.item_defs.specs.Scripts.{run, around}
use Rattle.number_defs.specs.DcLows.{dc_given}
use Rattle.number_defs.specs.Worked.{bits_in}
use Rattle.plane_defs.specs.Restored.{restored}
use Rattle.segment_defs.specs.Head.{head_length}
use Rattle.segment_defs.specs.Reading.{head_in}
use Rattle.segment_defs.specs.TextOutcome.{Answer}
use Rattle.segment_defs.specs.Given.{dc_blocks_given, text_given}
use Rattle.segment_defs.specs.GivenLaws.{with_numbers}
use Rattle.segment_defs.specs.Worked.{sparse, last_head, inner_head}

-- what these octets are restored to, the head included
abbrev pub restored_text : List ℕ → Answer
restored_text octets =
    let head = head_in octets in
    with_numbers (restored head.image.weights.shifts) (text_given profile head (drop (head_length head) octets))

-- the DC part of two blocks
abbrev pub two_dcs : (depth_dc depth_ac : ℕ) → List ℕ → Outcome (List (List ℤ)) (List (List ℤ))
two_dcs depth_dc depth_ac text =
    run (around (restored (replicate 10 0)) (around (dc_blocks_given 2) (dc_given depth_dc depth_ac 0 2))) (bits_in text)

pub record WorkedGiven : Type 0 where
  -- all is given: the DC 8 is a multiple of 2 ^ 3, its weight
  pub all : restored_text (last_head ++ 190 ∷ 40 ∷ []) ≡ Ok (sparse ((pos 8, 47) ∷ (pos 1, 15) ∷ []) ∷ [])
  -- -134217712 is given down to plane 4, and gets 3 * 16 / 8 = 6; the DC number is given
  pub cut_in_plane : restored_text (inner_head 3 183 4 ++ 125 ∷ 140 ∷ replicate 11 170) ≡ Ok (sparse ((pos 0, 0) ∷ (negsuc 134217717, 62) ∷ []) ∷ [])
  -- q = 1 and N = 3: 2 and -2, and bit 0 of the first: 5 with u = 0, and -4 with u = 1
  pub cut_in_dcs : two_dcs 4 0 (codes "110101011") ≡ cut (sparse ((pos 5, 63) ∷ []) ∷ sparse ((negsuc 2, 63) ∷ []) ∷ [])
  -- the number of the second is not given: 4 with u = 1, and 0
  pub cut_before_second : two_dcs 4 0 (codes "1101010") ≡ cut (sparse ((pos 5, 63) ∷ []) ∷ sparse ((pos 0, 63) ∷ []) ∷ [])
