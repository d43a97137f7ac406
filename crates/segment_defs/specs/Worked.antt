-- What some coded segments hold, worked out by hand.
use Rattle.std.specs.Prelude.{◌≡◌, ℕ, ◌++◌, drop, List, [], ◌∷◌, replicate, ℤ, pos, negsuc, Ok, Err}
use Rattle.item_defs.specs.Items.{false_flag, bad_option}
use Rattle.base_122.specs.Profile.{profile}
use Rattle.segment_defs.specs.Head.{head_length}
use Rattle.segment_defs.specs.Reading.{head_in}
use Rattle.segment_defs.specs.Outcomes.{at_item, short_segment, overlong}
use Rattle.segment_defs.specs.TextOutcome.{Answer, text_outcome}

-- what these octets hold, the head included
abbrev pub held : List ℕ → Answer
held octets = text_outcome profile (head_in octets) (drop (head_length (head_in octets)) octets)

-- a block that has these numbers, after each of which this number of zeros follows
abbrev pub sparse : List (ℤ × ℕ) → List ℤ
sparse [] = []
sparse (p ∷ ps) = p.0 ∷ replicate p.1 (pos 0) ++ sparse ps

-- Parts 1A, 1B, 2, 3 and 4 of a last segment of one block: BitDepthDC 5, BitDepthAC 1, no stop, and the usual weights
abbrev pub last_head : List ℕ
last_head = 64 ∷ 10 ∷ 23 ∷ 0 ∷ 0 ∷ 0 ∷ 0 ∷ 0 ∷ 96 ∷ 0 ∷ 0 ∷ 28 ∷ 136 ∷ 0 ∷ 1 ∷ 16 ∷ 0 ∷ 0 ∷ 0 ∷ 0 ∷ []

-- Parts 1A and 2 of a segment of one block that is not the last, with these octets of depths and this limit, and Parts 3 and 4 with
-- weights of 0
abbrev pub inner_head : (first second limit : ℕ) → List ℕ
inner_head first second limit = 0 ∷ first ∷ second ∷ 0 ∷ 0 ∷ limit ∷ 0 ∷ 96 ∷ 0 ∷ 0 ∷ 28 ∷ 136 ∷ 0 ∷ 1 ∷ 16 ∷ 128 ∷ 0 ∷ 0 ∷ 0 ∷ []

-- BitDepthDC 4 and BitDepthAC 2
abbrev pub of_depth_2 : List ℕ → Answer
of_depth_2 rest = held (inner_head 8 39 0 ++ rest)

pub record WorkedTexts : Type 0 where
  -- 22 octets: q = 3 and N = 2, the reference 01 after the identifier of uncoded, 1; the depth 1 raw; and plane 0, in which only numbers of
  -- HH1 have bits: flag of B 1, families' flags 1 (raw), grandchildren's flag 1, quads' flags 1000 as 00 01, types 1000 as 01 with sign 0
  pub all : held (last_head ++ 190 ∷ 40 ∷ []) ≡ Ok (sparse ((pos 8, 47) ∷ (pos 1, 15) ∷ []) ∷ [])
  -- 22 octets: families' flags 000 where B is new
  pub false : of_depth_2 (184 ∷ 53 ∷ 144 ∷ []) ≡ Err (at_item false_flag)
  -- the option 10 of words of three bits
  pub no_option : of_depth_2 (185 ∷ 0 ∷ []) ≡ Err (at_item bad_option)
  -- both planes, the same without the last octet, and with one octet more
  pub planes : of_depth_2 (184 ∷ 53 ∷ 137 ∷ 145 ∷ 64 ∷ []) ≡ Ok (sparse ((pos 5, 0) ∷ (negsuc 2, 20) ∷ (pos 1, 41) ∷ []) ∷ [])
  pub short : of_depth_2 (184 ∷ 53 ∷ 137 ∷ 145 ∷ []) ≡ Err short_segment
  pub long : of_depth_2 (184 ∷ 53 ∷ 137 ∷ 145 ∷ 64 ∷ 0 ∷ []) ≡ Err overlong
  -- BitDepthDC 1, BitDepthAC 27 and a limit of 32 octets, which cuts plane 3: DC 0; depth 27 as 111 11011; plane 26 has parents' types 100 as
  -- 00 01 with sign 1, and the flag 0 of B; each further plane parents' types 00 as 0 1, the flag 0 and a refinement bit 1
  pub cut_in_plane : held (inner_head 3 183 4 ++ 125 ∷ 140 ∷ replicate 11 170) ≡ Ok (sparse ((pos 0, 0) ∷ (negsuc 134217711, 62) ∷ []) ∷ [])
  -- and without its last octet
  pub cut_below_limit : held (inner_head 3 183 4 ++ 125 ∷ 140 ∷ replicate 10 170) ≡ Err short_segment
