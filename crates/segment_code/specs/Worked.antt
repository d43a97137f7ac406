-- What some octets of coded segments hold, worked out by hand.
use Rattle.std.specs.Prelude.{◌≡◌, ℕ, ◌++◌, drop, List, [], ◌∷◌, replicate, pos, negsuc, Option, Some, None}
use Rattle.item_defs.specs.Items.{false_flag, bad_option}
use Rattle.base_122.specs.Profile.{profile}
use Rattle.bit_pipe.specs.declared.fault.Part.TheVariants.{Whole, Ended}
use Rattle.segment_defs.specs.Head.{head_length}
use Rattle.segment_defs.specs.TextWish.{unrestored}
use Rattle.segment_defs.specs.Reading.{head_in}
use Rattle.segment_defs.specs.Worked.{sparse, last_head, inner_head}
use Rattle.segment_code.specs.TextAnswers.{TextAnswer, gives, refuses, Decided, answer_in}

-- what these octets hold, the head included
abbrev pub held : List ℕ → Option Decided
held octets = answer_in (unrestored profile) (head_in octets) (head_length (head_in octets)) (drop (head_length (head_in octets)) octets)

-- this answer, decided by this number of octets after the head
abbrev pub after : (octets : ℕ) → TextAnswer → Option Decided
after octets answer = Some (record { answer = answer; octets = octets })

-- after a head of one block, BitDepthDC 4 and BitDepthAC 2
abbrev pub of_depth_2 : List ℕ → Option Decided
of_depth_2 rest = held (inner_head 8 39 0 ++ rest)

-- after one of one block, BitDepthDC 1, BitDepthAC 27 and a limit of 32 octets
abbrev pub of_limit_32 : List ℕ → Option Decided
of_limit_32 rest = held (inner_head 3 183 4 ++ rest)

-- the texts are those of text_scripts
pub record WorkedAnswers : Type 0 where
  -- 22 octets, then the same with an octet more, and without the last
  pub all : held (last_head ++ 190 ∷ 40 ∷ []) ≡ after 2 (gives Whole (sparse ((pos 8, 47) ∷ (pos 1, 15) ∷ []) ∷ []))
  pub more : held (last_head ++ 190 ∷ 40 ∷ 255 ∷ []) ≡ after 2 (gives Whole (sparse ((pos 8, 47) ∷ (pos 1, 15) ∷ []) ∷ []))
  pub short : held (last_head ++ 190 ∷ []) ≡ None
  -- the families' flags 000 are within the third octet, and the option 10 within the second
  pub false : of_depth_2 (184 ∷ 53 ∷ 144 ∷ 7 ∷ []) ≡ after 3 (refuses false_flag)
  pub not_yet : of_depth_2 (184 ∷ 53 ∷ []) ≡ None
  pub no_option : of_depth_2 (185 ∷ 0 ∷ 7 ∷ []) ≡ after 2 (refuses bad_option)
  -- the limit cuts plane 3: it decides the text, and fewer octets do not
  pub cut_in_plane : of_limit_32 (125 ∷ 140 ∷ replicate 12 170) ≡ after 13 (gives Ended (sparse ((pos 0, 0) ∷ (negsuc 134217711, 62) ∷ []) ∷ []))
  pub cut_below_limit : of_limit_32 (125 ∷ 140 ∷ replicate 10 170) ≡ None
