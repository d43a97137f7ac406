-- What is given of an image whose rows are in memory. This project's own.
use Rattle.std.specs.Prelude.{◌≡◌, ◌<◌, ◌-◌, ℕ, ℤ, false, [], take}
use Rattle.port_122.specs.Outside.{Outside, Exchange, NoRead, Rose}
use Rattle.base_122.specs.declared.setting.Setting.{Setting}
use Rattle.packet_defs.specs.Packets.{joined}
use Rattle.stream_defs.specs.Output.{output}
use Rattle.stream_defs.specs.SettledImages.{leading_packets}
use Rattle.strip_coder.specs.declared.encode.EncodeDone.{EncodeDone}
use Rattle.strip_coder.specs.declared.work.Work.{Work}
use Rattle.strip_coder.specs.Answers.{DoneFor}
use Rattle.strip_coder.specs.Plans.{plan_of, tallest}
use Rattle.strip_coder.specs.Steps.{IsRowInRange, RowIs}
use Rattle.strip_coder.specs.Works.{HasTaken, FollowsRows}

-- each pixel is one octet
abbrev pub HasOctets : Setting → Type 0
HasOctets s = (s.depth ≡ 8) × (s.signed ≡ false)

-- the row in the work is the last one that was taken
abbrev pub LastIsValid : Setting → (ℕ → ℕ → ℤ) → Work → Type 0
LastIsValid s image w = IsRowInRange s w.row.items × RowIs s image (w.at.rows - 1) w

-- A work took the first rows of an image, and since a start exactly the packets of the segments before the present one were given.
pub record HasGiven (s : Setting) (image : ℕ → ℕ → ℤ) (start now : Outside) (w : Work) : Type 0 where
  pub taken : HasTaken (plan_of s (tallest s)) w.at.rows w
  pub follows : FollowsRows s image w
  pub last : 0 < w.at.rows → LastIsValid s image w
  pub since : Exchange start now [] (joined (leading_packets s (tallest s) image w.at.index)) [] NoRead

-- all packets of the image were given
pub record GaveAll (s : Setting) (image : ℕ → ℕ → ℤ) (start now : Outside) (done : EncodeDone) : Type 0 where
  pub counts : DoneFor s s.rows image done
  pub since : Exchange start now [] (output s s.rows image) [] NoRead

-- a write failed, and at most a prefix of them was given
pub record BrokeOff (s : Setting) (image : ℕ → ℕ → ℤ) (start now : Outside) : Type 0 where
  pub rose : Rose start.write_faults now.write_faults
  pub some : ℕ
  pub since : Exchange start now [] (take some (output s s.rows image)) [] NoRead
