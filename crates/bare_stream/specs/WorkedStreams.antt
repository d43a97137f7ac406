-- How some octets are read as a bare stream, worked out by hand.
use Rattle.std.specs.Prelude.{◌≡◌, ℕ, ◌++◌, false, List, [], ◌∷◌, replicate, take, pos, Ok, Err}
use Rattle.base_122.specs.Profile.{profile}
use Rattle.base_122.specs.Weights.{usual_shifts}
use Rattle.base_122.specs.declared.geometry.Geometry.{Geometry}
use Rattle.base_122.specs.declared.wish.DecodeWish.{DecodeWish}
use Rattle.segment_defs.specs.declared.fault.HeadFault.TheVariants.{HeadShort, MissingPart}
use Rattle.bare_stream.specs.declared.fault.BareCause.TheVariants.{Head, BadOption, Short, Trailing}
use Rattle.bare_stream.specs.declared.fault.BareFault.TheVariants.{LongInput, TooManyPixels, Refused}
use Rattle.bare_stream.specs.StreamRead.{answer_for, octets_for, reading}

-- the profile's book, and these caps
abbrev pub wish_of : (pixels octets : ℕ) → DecodeWish
wish_of pixels octets = record { apid = 0; pixels = pixels; octets = octets; book = profile; restore = false }

-- the bare stream of a black image of 17 by 17 pixels of 8 bits, one segment of nine blocks: the text after the headers of its packet in
-- docs/formats.md, "Packets"
abbrev pub black : List ℕ
black = 192 ∷ 2 ∷ 7 ∷ 224 ∷ 0 ∷ 0 ∷ 0 ∷ 0 ∷ 96 ∷ 0 ∷ 0 ∷ 156 ∷ 136 ∷ 0 ∷ 1 ∷ 16 ∷ 0 ∷ 0 ∷ 0 ∷ 0 ∷ 0 ∷ 0 ∷ []

abbrev pub of_black : Geometry
of_black = record { width = 17; rows = 17; depth = 8; signed = false; segment = 9; image = 0; word = 1; weights = record { shifts = usual_shifts } }

-- the head of that image with BitDepthDC 8
abbrev pub deep : List ℕ
deep = 192 ∷ 16 ∷ 7 ∷ 224 ∷ 0 ∷ 0 ∷ 0 ∷ 0 ∷ 96 ∷ 0 ∷ 0 ∷ 156 ∷ 136 ∷ 0 ∷ 1 ∷ 16 ∷ 0 ∷ 0 ∷ 0 ∷ 0 ∷ []

-- a cap on octets of 22 is reached by these 22, so one of 23 is needed
pub record WorkedStreams : Type 0 where
  pub whole : answer_for (wish_of 289 23) black ≡ Ok of_black
  pub blocks : (reading (wish_of 289 23) black).segments.blocks ≡ replicate 9 (replicate 64 (pos 0)) ∷ []
  pub full : answer_for (wish_of 289 22) black ≡ Err LongInput
  -- an octet more is refused as segment 1, and the last one less as segment 0
  pub more : answer_for (wish_of 289 24) (black ++ 0 ∷ []) ≡ Err (Refused 1 Trailing)
  pub more_octets : octets_for (wish_of 289 24) (black ++ 0 ∷ []) ≡ 23
  pub cut : answer_for (wish_of 289 23) (take 21 black) ≡ Err (Refused 0 Short)
  -- the head reports 289 pixels, with its last octet
  pub many : answer_for (wish_of 288 20) black ≡ Err (TooManyPixels 289)
  pub many_octets : octets_for (wish_of 288 20) black ≡ 20
  -- a stream begins with a head
  pub none : answer_for (wish_of 289 1) [] ≡ Err (Refused 0 (Head (HeadShort 0)))
  -- the third octet shows that a part is missing, whatever the cap; with fewer octets the end or the cap decides
  pub missing : answer_for (wish_of 289 3) (192 ∷ 2 ∷ 0 ∷ []) ≡ Err (Refused 0 (Head (MissingPart 2)))
  pub missing_octets : octets_for (wish_of 289 3) (192 ∷ 2 ∷ 0 ∷ []) ≡ 3
  pub two : answer_for (wish_of 289 3) (192 ∷ 2 ∷ []) ≡ Err (Refused 0 (Head (HeadShort 2)))
  pub two_full : answer_for (wish_of 289 2) (192 ∷ 2 ∷ []) ≡ Err LongInput
  -- with BitDepthDC 8 a DC number has five bits, and their identifier 100 no option: octet 21 decides it
  pub bad_option : answer_for (wish_of 289 21) (deep ++ 128 ∷ 0 ∷ []) ≡ Err (Refused 0 BadOption)
  pub bad_option_octets : octets_for (wish_of 289 21) (deep ++ 128 ∷ 0 ∷ []) ≡ 21
