-- What some texts of planes that are cut are restored to, worked out by hand.
use Rattle.std.specs.Prelude.{◌≡◌, ℕ, ◌==◌, if◌then◌else◌, List, [], ◌∷◌, ◌++◌, map, replicate, codes, Some, None, ℤ, pos, negsuc}
use Rattle.base_122.specs.Profile.{profile}
use Rattle.plane_defs.specs.Spans.{span}
use Rattle.item_defs.specs.Outcomes.{Outcome, whole, cut}
use Rattle.item_defs.specs.Scripts.{run, around}
use Rattle.plane_defs.specs.Lows.{Given, planes_given}
use Rattle.base_122.specs.Restored.{restored_dc}
use Rattle.plane_defs.specs.Restored.{restored_ac, restored}
use Rattle.plane_defs.specs.Worked.{bits_in}

-- the DC numbers of blocks, as the DC part gives them: down to plane q
abbrev pub with_dcs : (q : ℕ) → List ℤ → Given
with_dcs q dcs = record { numbers = map (λ dc. dc ∷ replicate 63 (pos 0)) dcs; lows = λ r p. if p == 0 then Some q else None }

-- planes 3 to 0 of blocks of depth 4 whose DC part, with q = 4, gave these numbers
abbrev pub of_depth_4 : (weights : List ℕ) → (dcs : List ℤ) → List ℕ → Outcome (List (List ℤ)) (List (List ℤ))
of_depth_4 weights dcs text =
    run (around (restored weights) (planes_given profile weights 4 (map (λ dc. 4) dcs) (λ b. 5) 4 (with_dcs 4 dcs))) (bits_in text)

-- a block with these DC and parents
abbrev pub with_parents : List ℤ → List ℤ
with_parents some = some ++ replicate 60 (pos 0)

-- no weights, and the DC number 16
abbrev pub of_16 : List ℕ → Outcome (List (List ℤ)) (List (List ℤ))
of_16 text = of_depth_4 (replicate 10 0) (pos 16 ∷ []) text

-- plane 3, stages 0 and 1: DC bit 1; parents' types 110 after the identifier of uncoded, 11; signs 0 and 1. The numbers are 24, 8 and -8.
abbrev pub stage_1 : List ℕ
stage_1 = codes "11111001"

-- flag 0 of all descendants; plane 2: DC bit 0; the third parent's type 0; flag 0; bit 1 of the first parent. The numbers are 24, 12 and -8.
abbrev pub refinement : List ℕ
refinement = stage_1 ++ codes "00001"

-- bit 0 of the second parent; plane 1: DC bit 1, type 0, flag 0, bits 0 and 1. The numbers are 26, 12 and -10.
abbrev pub plane_1 : List ℕ
plane_1 = refinement ++ codes "010001"

-- u is the number of bits that are not given. A DC number gets half of 2 ^ u, an AC number 0, 0, 1, 3, 6, 12 for u = 0 to 5.
pub record WorkedLows : Type 0 where
  pub dcs : map (λ u. restored_dc 0 (Some u) (pos 96)) (span 0 6) ≡ pos 96 ∷ pos 97 ∷ pos 98 ∷ pos 100 ∷ pos 104 ∷ pos 112 ∷ []
  pub negative_dcs : map (λ u. restored_dc 0 (Some u) (negsuc 95)) (span 0 6) ≡ negsuc 95 ∷ negsuc 94 ∷ negsuc 93 ∷ negsuc 91 ∷ negsuc 87 ∷ negsuc 79 ∷ []
  pub acs : map (λ u. restored_ac 0 (Some u) (pos 32)) (span 0 6) ≡ pos 32 ∷ pos 32 ∷ pos 33 ∷ pos 35 ∷ pos 38 ∷ pos 44 ∷ []
  pub negative_acs : map (λ u. restored_ac 0 (Some u) (negsuc 31)) (span 0 6) ≡
      negsuc 31 ∷ negsuc 31 ∷ negsuc 32 ∷ negsuc 34 ∷ negsuc 37 ∷ negsuc 43 ∷ []
  -- with the shift 2, plane 5 leaves u = 3: 3 steps of 4, and half of 32
  pub steps : restored_ac 2 (Some 5) (pos 32) ∷ restored_ac 2 (Some 5) (pos 0) ∷ restored_dc 2 (Some 5) (pos 32) ∷ [] ≡ pos 44 ∷ pos 0 ∷ pos 48 ∷ []
  -- cut after stage 1 of plane 3: u = 3 for all three
  pub after_stage_1 : of_16 stage_1 ≡ cut (with_parents (pos 28 ∷ pos 11 ∷ negsuc 10 ∷ pos 0 ∷ []) ∷ [])
  -- the same without the second sign
  pub before_sign : of_16 (codes "1111100") ≡ cut (with_parents (pos 28 ∷ pos 11 ∷ pos 11 ∷ pos 0 ∷ []) ∷ [])
  -- cut in stage 4 of plane 2: u = 2 for the DC and the first parent, 3 for the second
  pub in_refinement : of_16 refinement ≡ cut (with_parents (pos 26 ∷ pos 13 ∷ negsuc 10 ∷ pos 0 ∷ []) ∷ [])
  -- cut after plane 1: u = 1
  pub after_plane_1 : of_16 plane_1 ≡ cut (with_parents (pos 27 ∷ pos 12 ∷ negsuc 9 ∷ pos 0 ∷ []) ∷ [])
  -- plane 0: DC bit 0, type 0, flag 0, bits 1 and 1. All is given.
  pub all : of_16 (plane_1 ++ codes "00011") ≡ whole (with_parents (pos 26 ∷ pos 13 ∷ negsuc 10 ∷ pos 0 ∷ []) ∷ []) []
  -- plane 3 has the DC bit 1 of the first block, which makes 24 with u = 3, and none of the second: -16 with u = 4
  pub in_dc_bits : of_depth_4 (replicate 10 0) (pos 16 ∷ negsuc 15 ∷ []) (codes "1") ≡
      cut (with_parents (pos 28 ∷ replicate 3 (pos 0)) ∷ with_parents (negsuc 7 ∷ replicate 3 (pos 0)) ∷ [])
  -- The first parent, in HL3, has the shift 2. Plane 3: DC bit 0; types 000, uncoded; flag 0. Plane 2: DC bit 1; types 100, sign 1; flag 0.
  -- Plane 1: DC bit 0; types 01 of the other two after the identifier of uncoded, 1; sign 0; flag 0; no bit of the first. The numbers are
  -- 20, -4, 0 and 2, with u = 1 for the DC and the last, and 0 for the first.
  pub below_weight : of_depth_4 (replicate 7 0 ++ 2 ∷ 0 ∷ 0 ∷ []) (pos 16 ∷ []) (codes "011000011110010010100") ≡
      cut (with_parents (pos 21 ∷ negsuc 3 ∷ pos 0 ∷ pos 2 ∷ []) ∷ [])
