-- The effect of the steps of the encoder. (This project's own.)
use Rattle.std.specs.Prelude.{◌≡◌, ◌≤◌, ◌^◌, ℕ, zero, suc, ℤ, List, [], length, take, Option, None, Some}
use Rattle.port_122.specs.Outside.{Outside, Exchange, NoRead, Rose}
use Rattle.base_122.specs.declared.setting.Setting.{Setting}
use Rattle.segment_defs.specs.declared.head.SegmentHead.{SegmentHead}
use Rattle.segment_defs.specs.Depths.{depth_dc_of, depth_ac_of}
use Rattle.stream_defs.specs.Output.{head_with}
use Rattle.bare_text.specs.Writing.{bare_text}

-- the head of a segment with these blocks
abbrev pub head_now : Setting → (index : ℕ) → List (List ℤ) → SegmentHead
head_now s index segment = head_with s index s.limit (length segment) (depth_dc_of segment) (depth_ac_of segment)

-- a head with the parts of the one before it that are in force; no depth is among them
abbrev pub parts_before : Setting → (index depth_dc depth_ac : ℕ) → Option SegmentHead
parts_before s zero depth_dc depth_ac = None
parts_before s (suc index) depth_dc depth_ac = Some (head_with s index s.limit s.segment depth_dc depth_ac)

-- the text of a segment with these blocks
abbrev pub text_now : Setting → (index : ℕ) → List (List ℤ) → List ℕ
text_now s index segment =
    bare_text s.book (parts_before s index (depth_dc_of segment) (depth_ac_of segment)) (head_now s index segment) segment

-- this text is written, and has this number of octets
pub record TextOut (p q : Outside) (text : List ℕ) (octets : ℕ) : Type 0 where
  pub out : Exchange p q [] text [] NoRead
  pub count : octets ≡ length text
  pub few : octets ≤ 2 ^ 32

-- a write failed, and a prefix of this text is written
pub record TextCut (p q : Outside) (text : List ℕ) : Type 0 where
  pub some : ℕ
  pub out : Exchange p q [] (take some text) [] NoRead
  pub rose : Rose p.write_faults q.write_faults
