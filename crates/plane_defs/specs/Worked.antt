-- What some texts of planes are read as, worked out by hand.
use Rattle.std.specs.Prelude.{◌≡◌, ℕ, ◌==◌, if◌then◌else◌, nat_le, Bool, List, [], ◌∷◌, ◌++◌, map, take, replicate, codes, ℤ, pos, negsuc}
use Rattle.item_defs.specs.Items.{false_flag, bad_option}
use Rattle.base_122.specs.Profile.{profile}
use Rattle.plane_defs.specs.Spans.{span}
use Rattle.item_defs.specs.Outcomes.{Outcome, whole, cut, refused}
use Rattle.item_defs.specs.Scripts.{run}
use Rattle.plane_defs.specs.PlaneScript.{planes_script}

-- the bits of a string of the digits 0 and 1
abbrev pub bits_in : List ℕ → List Bool
bits_in text = map (λ c. c == 49) text

-- a block that has these numbers first and this number at position 22
abbrev pub with_first : List ℤ → ℕ → ℤ → List ℤ
with_first some more last = some ++ replicate more (pos 0) ++ last ∷ replicate 41 (pos 0)

-- planes 1 and 0 of a block of depth 2 whose DC part gave 4
abbrev pub of_depth_2 : List Bool → Outcome (List (List ℤ)) (List (List ℤ))
of_depth_2 bits = run (planes_script profile (replicate 10 0) 2 (2 ∷ []) (λ b. 5) 2 (with_first (pos 4 ∷ pos 0 ∷ []) 20 (pos 0) ∷ [])) bits

-- plane 0 of blocks of depth 1, with these shifts
abbrev pub of_depth_1 : (weights depths : List ℕ) → List Bool → Outcome (List (List ℤ)) (List (List ℤ))
of_depth_1 weights depths bits = run (planes_script profile weights 0 depths (λ b. 5) 1 (map (λ d. replicate 64 (pos 0)) depths)) bits

-- DC 0; parents' types 100 as 00 01 and sign 1; flag 0
abbrev pub plane_1 : List Bool
plane_1 = bits_in (codes "0000110")

-- DC 1; parents' types 00 as 0 1; flag 1; families' flags 100 as 00 01; children's types 0000 as 00 1; grandchildren's flag 1;
-- quads' flags 0100 as 001; types 0010 as 0001 and sign 0; refinement 1
abbrev pub plane_0 : List Bool
plane_0 = bits_in (codes "101100010011001000101")

-- the block if this number of bits of plane 0 is given
abbrev pub given_by : ℕ → List ℤ
given_by n = with_first (pos (if nat_le 1 n then 5 else 4) ∷ negsuc 1 ∷ []) 20 (pos (if nat_le 19 n then 1 else 0))

-- parents' types 100 as 00 01 and sign 1, flag 1 of all descendants, and these bits
abbrev pub after_flag : List ℕ → List Bool
after_flag more = bits_in (codes "000111" ++ more)

abbrev pub one_parent : (at_8 : ℤ) → List (List ℤ)
one_parent at_8 = (pos 0 ∷ negsuc 0 ∷ replicate 6 (pos 0) ++ at_8 ∷ replicate 55 (pos 0)) ∷ []

pub record WorkedTexts : Type 0 where
  pub all : of_depth_2 (plane_1 ++ plane_0) ≡ whole (with_first (pos 5 ∷ negsuc 2 ∷ []) 20 (pos 1) ∷ []) []
  pub cut_anywhere : map (λ n. of_depth_2 (plane_1 ++ take n plane_0)) (span 0 21) ≡ map (λ n. cut (given_by n ∷ [])) (span 0 21)
  pub cut_at_a_sign : of_depth_2 (bits_in (codes "00001")) ≡ cut (with_first (pos 4 ∷ pos 2 ∷ []) 20 (pos 0) ∷ [])
  -- the option 10 of words of three bits, after which seven bits are left
  pub no_option : of_depth_2 (bits_in (codes "0100000000")) ≡ refused (with_first (pos 4 ∷ pos 0 ∷ []) 20 (pos 0) ∷ []) bad_option (bits_in (codes "0000000"))
  -- families' flags 000 as 00 1, after which four bits are left
  pub no_family : of_depth_2 (plane_1 ++ bits_in (codes "10110010000")) ≡ refused (given_by 4 ∷ []) false_flag (bits_in (codes "0000"))
  -- families' flags 000 as 1
  pub false_1 : of_depth_1 (replicate 10 0) (1 ∷ []) (after_flag (codes "1")) ≡ refused (one_parent (pos 0)) false_flag []
  -- families' flags 100 as 01, and children's types 0000 as 00 1; no grandchild can have a bit
  pub false_2 : of_depth_1 (1 ∷ 1 ∷ 1 ∷ replicate 7 0) (1 ∷ []) (after_flag (codes "01001")) ≡ refused (one_parent (pos 0)) false_flag []
  -- the same; grandchildren's flag 0
  pub false_3 : of_depth_1 (replicate 10 0) (1 ∷ []) (after_flag (codes "010010")) ≡ refused (one_parent (pos 0)) false_flag []
  -- grandchildren's flag 1, and quads' flags 0000 as 1
  pub false_4 : of_depth_1 (replicate 10 0) (1 ∷ []) (after_flag (codes "0100111")) ≡ refused (one_parent (pos 0)) false_flag []
  -- quads' flags 1000 as 01, and types 0000 as 1
  pub false_5 : of_depth_1 (replicate 10 0) (1 ∷ []) (after_flag (codes "01001" ++ codes "1011")) ≡ refused (one_parent (pos 0)) false_flag []
  -- families' flags 110 as 00001; types 0000 as 00 1, and 1000 as 01 with the sign 1; grandchildren's flags 00 as 0 1
  pub false_6 : of_depth_1 (replicate 10 0) (1 ∷ []) (after_flag (codes "0000100101101")) ≡ refused (one_parent (negsuc 0)) false_flag []
  -- two blocks: the second has no identifier; flags 0 and 0
  pub two_blocks : of_depth_1 (replicate 10 0) (1 ∷ 1 ∷ []) (bits_in (codes "00011100")) ≡ whole (one_parent (pos 0) ++ replicate 64 (pos 0) ∷ []) []
