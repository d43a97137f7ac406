-- Some of an image's packets, in order: a sub-list of them.
use Rattle.std.specs.Prelude.{ℕ, ◌+◌, ◌<◌, ◌≤◌, ◌==◌, ℤ, if◌then◌else◌, Bool, List, [], ◌∷◌, map}
use Rattle.std.specs.List.{range_with_len, flat_map}
use Rattle.base_122.specs.declared.setting.Setting.{Setting}
use Rattle.stream_defs.specs.Output.{segments_of}
use Rattle.stream_defs.specs.Places.{parts_of, packet_at}

-- each number is at least the first bound and above those before it, and below the second bound
abbrev pub IsRising : (least below : ℕ) → List ℕ → Type 0
IsRising least below [] = Unit {0}
IsRising least below (k ∷ ks) = (least ≤ k) × (k < below) × IsRising (k + 1) below ks

-- some parts of each segment, in rising order
pub record IsChoice (s : Setting) (all : List (List ℤ)) (parts : ℕ → List ℕ) : Type 0 where
  pub each : (index : ℕ) → index < segments_of s → IsRising 0 (parts_of s all index) (parts index)

-- their packets, of the first n segments
unfoldable pub chosen : (reported_last : Bool) → Setting → List (List ℤ) → (parts : ℕ → List ℕ) → (n : ℕ) → List (List ℕ)
chosen reported_last s all parts n = flat_map (λ index. map (packet_at reported_last s all index) (parts index)) (range_with_len 0 n)

-- the longest prefix of consecutive numbers that begins with `next`
abbrev pub run : (next : ℕ) → List ℕ → List ℕ
run next [] = []
run next (k ∷ ks) = if k == next then k ∷ run (next + 1) ks else []

-- all parts of a segment
abbrev pub all_parts : Setting → List (List ℤ) → (index : ℕ) → List ℕ
all_parts s all index = range_with_len 0 (parts_of s all index)
