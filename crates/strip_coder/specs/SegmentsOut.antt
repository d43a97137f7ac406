-- The segments of an image, as texts and packets.
use Rattle.std.specs.Prelude.{ℕ, ℤ, List}
use Rattle.strip_coder.specs.Plans.{Job, whole}
use Rattle.segment_defs.specs.Coded.{coded}
use Rattle.stream_defs.specs.Output.{ancillary_of, head_of, reports_last}
use Rattle.space_packets.specs.declared.stage.Text.{Text}
use Rattle.space_packets.specs.Progress.{Progress}
use Rattle.strip_coder.specs.Forms.{progress_of}

-- the text of the segment of this index, as a packetiser has it
abbrev pub text_of : Job → ℕ → Text
text_of s index = record { apid = s.setting.apid; ancillary = ancillary_of (reports_last s.setting) (whole s) index }

-- the text of the segment of this index, with these blocks, after texts of `used` octets: it is written with the code book of the setting
abbrev pub text_for : Job → (index used : ℕ) → List (List ℤ) → List ℕ
text_for s index used segment = coded s.setting.book (head_of (whole s) index used segment) segment

-- a packetiser has written the packets of this number of segments of an image with these blocks, and nothing else
abbrev pub progress_at : Job → List (List ℤ) → ℕ → Progress
progress_at s all n = progress_of s.setting s.rows all n
