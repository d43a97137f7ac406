-- Which packets the first rows of an image determine. This project's own.
use Rattle.std.specs.Prelude.{◌≡◌, ℕ, ◌≤◌, ℤ, Bool, false, List}
use Rattle.wave_defs.specs.Held.{SameWithin}
use Rattle.base_122.specs.Ranges.{IsInRange}
use Rattle.base_122.specs.Setting.{IsHeight, sized}
use Rattle.base_122.specs.declared.setting.Setting.{Setting}
use Rattle.stream_defs.specs.Output.{image_blocks, packets_of, segments_of, reports_last}
use Rattle.stream_defs.specs.Settled.{settled}

-- the packets of the first n segments of an image with this number of rows for a setting
abbrev pub leading_packets : Setting → (rows : ℕ) → (ℕ → ℕ → ℤ) → (n : ℕ) → List (List ℕ)
leading_packets s rows x n = let whole = sized s rows in packets_of (reports_last s) whole (image_blocks whole x) n

-- the segments that the first k rows of such an image settle
abbrev pub settled_in : Setting → (rows k : ℕ) → ℕ
settled_in s rows k = settled (reports_last s) (sized s rows) k

-- The packets of the settled segments are the same for two images for a setting whose first k rows agree, whatever their heights. More rows
-- settle at least the same segments, and all rows, if it is known that they are all, settle all of them.
pub record ImagesSettle : Type 0 where
  pub same : (s : Setting) (rows lines k : ℕ) (x y : ℕ → ℕ → ℤ) → IsInRange s → IsHeight s rows → IsHeight s lines → k ≤ rows → k ≤ lines →
      SameWithin k s.width x y → leading_packets s rows x (settled_in s rows k) ≡ leading_packets s lines y (settled_in s lines k)
  pub alike : (s : Setting) (rows lines k : ℕ) → IsInRange s → IsHeight s rows → IsHeight s lines → k ≤ rows → k ≤ lines →
      settled_in s rows k ≡ settled_in s lines k
  pub rises : (reported_last : Bool) (s : Setting) (k l : ℕ) → k ≤ l → l ≤ s.rows → settled reported_last s k ≤ settled reported_last s l
  pub whole : (s : Setting) → settled false s s.rows ≡ segments_of s
