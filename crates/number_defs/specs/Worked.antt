-- What some texts are read as, worked out by hand.
use Rattle.std.specs.Prelude.{◌≡◌, ◌==◌, Bool, List, [], ◌∷◌, map, codes, ℕ, ℤ, pos, negsuc}
use Rattle.item_defs.specs.Items.{bad_option, bad_delta, bad_depth}
use Rattle.item_defs.specs.Outcomes.{Outcome, whole, cut, refused}
use Rattle.item_defs.specs.Scripts.{run, around}
use Rattle.number_defs.specs.DcScript.{dc_script}
use Rattle.number_defs.specs.DepthScript.{depths_script}

-- the bits of a string of the digits 0 and 1
abbrev pub bits_in : List ℕ → List Bool
bits_in text = map (λ c. c == 49) text

abbrev pub depths_read : (depth_ac count : ℕ) → List ℕ → Outcome (List ℕ) (List ℕ)
depths_read depth_ac count text = run (depths_script depth_ac count) (bits_in text)

-- the DC numbers of two blocks
abbrev pub two_dcs : (ℕ → ℤ) → List ℤ
two_dcs dcs = dcs 0 ∷ dcs 1 ∷ []

abbrev pub dcs_read : (depth_dc depth_ac shift : ℕ) → List ℕ → Outcome (List ℤ) (List ℤ)
dcs_read depth_dc depth_ac shift text = run (around two_dcs (dc_script depth_dc depth_ac shift 2)) (bits_in text)

pub record WorkedTexts : Type 0 where
  -- k = 0, reference 01; mapped value 3 = 1 + |3 - 1|, since theta is 1; mapped value 0; and what is left
  pub depths : depths_read 3 3 (codes "0010001101") ≡ whole (1 ∷ 3 ∷ 3 ∷ []) (bits_in (codes "01"))
  pub depths_cut : depths_read 3 3 (codes "00100") ≡ cut (1 ∷ [])
  -- a depth above BitDepthAC, after which three bits are left; four zeros in a unary part for two bits
  pub depth_above : depths_read 2 3 (codes "0010001101") ≡ refused (1 ∷ []) bad_depth (bits_in (codes "101"))
  pub zeros_above : depths_read 3 3 (codes "0010000") ≡ refused (1 ∷ []) bad_delta []
  -- uncoded: the mapped values 11 and 00
  pub depths_uncoded : depths_read 3 3 (codes "1011100") ≡ whole (1 ∷ 3 ∷ 3 ∷ []) []
  -- k = 1, reference 101; unary parts 01 and 001 and rests 0 and 0, of the mapped values 2 = 2 (6 - 5) and 4 = 1 + |3 - 6|
  pub depths_split : depths_read 7 3 (codes "011010100100") ≡ whole (5 ∷ 6 ∷ 3 ∷ []) []
  -- the same without the last bit
  pub depths_split_cut : depths_read 7 3 (codes "01101010010") ≡ cut (5 ∷ 6 ∷ [])
  -- k is at most 1 for three bits
  pub no_option : depths_read 7 3 (codes "1010101001") ≡ refused [] bad_option (bits_in (codes "10101001"))
  -- raw bits for BitDepthAC 1, and nothing for 0
  pub depths_raw : depths_read 1 3 (codes "1011") ≡ whole (1 ∷ 0 ∷ 1 ∷ []) (bits_in (codes "1"))
  pub depths_none : depths_read 0 3 (codes "1") ≡ whole (0 ∷ 0 ∷ 0 ∷ []) (bits_in (codes "1"))
  -- q = 1 and N = 3, uncoded: 2 as 010, and -2 as the mapped value 5 = 1 + |-2 - 2|; then bit 0 of 5 and of -3
  pub dcs : dcs_read 4 0 0 (codes "1101010111") ≡ whole (pos 5 ∷ negsuc 2 ∷ []) []
  -- the same without the last bit, without the last two, and without a bit of the mapped value
  pub dcs_cut_in_plane : dcs_read 4 0 0 (codes "110101011") ≡ cut (pos 5 ∷ negsuc 3 ∷ [])
  pub dcs_cut_before_plane : dcs_read 4 0 0 (codes "11010101") ≡ cut (pos 4 ∷ negsuc 3 ∷ [])
  pub dcs_cut_in_number : dcs_read 4 0 0 (codes "1101010") ≡ cut (pos 4 ∷ pos 0 ∷ [])
  -- with the shift 3, q = 3 and N = 1: a raw bit each
  pub dcs_raw : dcs_read 3 0 3 (codes "10") ≡ whole (negsuc 7 ∷ pos 0 ∷ []) []
