-- The result of a trial of a setting. This project's own.
use Rattle.std.specs.Prelude.{◌≡◌, ◌*◌, ◌/◌, ◌%◌, ◌^◌, ◌++◌, ℕ, ℤ, false, List, length, count_by, decimal, codes, Ok}
use Rattle.std.specs.Ordering.{int_eq}
use Rattle.std.specs.List.{range_with_len}
use Rattle.port_122.specs.Outside.{Outside}
use Rattle.base_122.specs.Setting.{geometry_of}
use Rattle.base_122.specs.declared.setting.Setting.{Setting}
use Rattle.base_122.specs.declared.wish.DecodeWish.{DecodeWish}
use Rattle.raster_rows.specs.declared.made.MadeImage.{MadeImage}
use Rattle.segment_defs.specs.TextWish.{unrestored}
use Rattle.stream_defs.specs.Output.{image_packets, output, segments_of, reports_last}
use Rattle.stream_defs.specs.Picture.{whole_picture}
use Rattle.stream_defs.specs.Received.{ReceivedIn}
use Rattle.strip_coder.specs.Rasters.{row_length}
use Rattle.strip_decoder.specs.declared.ending.DecodeDone.{DecodeDone}
use Rattle.strip_decoder.specs.Answers.{Decodes}
use Rattle.strip_decoder.specs.Runs.{Numbers, holds_after}
use Rattle.strip122.specs.declared.trial.TrialDone.{TrialDone}

-- the image that is made for a setting
abbrev pub made_with : Setting → (seed : ℕ) → MadeImage
made_with s seed = record { width = s.width; rows = s.rows; depth = s.depth; signed = s.signed; seed = seed }

-- octets of its raster
abbrev pub raster_length : Setting → ℕ
raster_length s = s.rows * row_length s

-- the places of the first rows and columns at which two images have the same pixel
abbrev pub equal_places : (rows width : ℕ) → (x y : ℕ → ℕ → ℤ) → ℕ
equal_places rows width x y = count_by (λ place. int_eq (x (place / width) (place % width)) (y (place / width) (place % width)))
    (range_with_len 0 (rows * width))

-- the wish of a decoder: an image with at most the pixels of a setting, in fewer than 2 ^ 40 octets, with its book
abbrev pub wish_for : Setting → DecodeWish
wish_for s = record { apid = s.apid; pixels = s.width * s.rows; octets = 2 ^ 40; book = s.book; restore = false }

-- a decoder has given a picture for this wish
pub record HasDecoded (s : Setting) (old new : Outside) : Type 0 where
  pub done : DecodeDone
  pub decodes : Decodes (wish_for s) old new (Ok done)

-- this number of pixels of an image are the same in the picture of these packets
pub record AreEqualIn (s : Setting) (x : ℕ → ℕ → ℤ) (packets : List ℕ) (equal : ℕ) : Type 0 where
  pub received : Numbers
  pub received_are : ReceivedIn (holds_after (unrestored s.book)) s.apid packets received
  pub equal_is : equal ≡ equal_places s.rows s.width x (whole_picture (geometry_of s) received)

-- What was encoded of an image, and the number of its pixels that are the same in the picture of its packets.
pub record IsTried (s : Setting) (x : ℕ → ℕ → ℤ) (done : TrialDone) : Type 0 where
  pub segments : done.segments ≡ segments_of s
  pub packets : done.packets ≡ length (image_packets (reports_last s) s x)
  pub octets : done.octets ≡ length (output s s.rows x)
  pub equal : AreEqualIn s x (output s s.rows x) done.equal

-- the line of a trial
abbrev pub trial_line : Setting → TrialDone → List ℕ
trial_line s done =
    codes "segments " ++ decimal done.segments ++ codes " packets " ++ decimal done.packets ++ codes " octets " ++ decimal done.octets ++ codes " equal "
    ++ decimal done.equal
    ++ codes " of " ++ decimal (s.width * s.rows) ++ codes "\n"
