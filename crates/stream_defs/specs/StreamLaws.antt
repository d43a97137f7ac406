-- The laws on reading an image's packets. This project's own.
use Rattle.std.specs.Prelude.{◌≡◌, ℕ, ◌<◌, ◌+◌, ◌==◌, ◌&&◌, not, Bool, if◌then◌else◌, ℤ, List, [], ◌∷◌, slice_index_or, Some, Ok}
use Rattle.base_122.specs.Setting.{image_geometry}
use Rattle.base_122.specs.declared.geometry.Geometry.{Geometry}
use Rattle.base_122.specs.declared.setting.Setting.{Setting}
use Rattle.segment_defs.specs.Reading.{head_read}
use Rattle.packet_defs.specs.Reading.{text_in}
use Rattle.stream_defs.specs.Output.{head_for, packets_of, segment_of, segment_text, segments_of}
use Rattle.stream_defs.specs.Fates.{fresh, kept, after_all}
use Rattle.stream_defs.specs.Received.{packets_at, IsComplete, text_of_parts}
use Rattle.stream_defs.specs.Places.{AreCoded}
use Rattle.stream_defs.specs.Chosen.{IsChoice, chosen, run, all_parts}

-- all packets of an image, in order, are kept
pub record ImagesKept : Type 0 where
  pub all_kept : (reported_last : Bool) (s : Setting) (all : List (List ℤ)) → AreCoded s all →
      kept s.apid fresh (packets_of reported_last s all (segments_of s)) ≡ packets_of reported_last s all (segments_of s)

-- the packets that are kept of those chosen
abbrev pub kept_of : (reported_last : Bool) → Setting → List (List ℤ) → (parts : ℕ → List ℕ) → List (List ℕ)
kept_of reported_last s all parts = kept s.apid fresh (chosen reported_last s all parts (segments_of s))

-- The geometry after a part of this segment: if the height is reported last, it is known from the last segment on.
abbrev pub geometry_by : (reported_last : Bool) → Setting → (index : ℕ) → Geometry
geometry_by reported_last s index = image_geometry s (if reported_last && not (index + 1 == segments_of s) then 0 else s.rows)

-- the segment of this index is begun, and none after it
pub record IsLastBegun (s : Setting) (parts : ℕ → List ℕ) (index : ℕ) : Type 0 where
  pub more : List ℕ
  pub begun : parts index ≡ 0 ∷ more
  pub none_after : (later : ℕ) → index < later → later < segments_of s → (rest : List ℕ) → parts later ≡ 0 ∷ rest → ⊥

-- Of some packets of an image exactly those are kept that continue from part 0 of their segment, one after the other. So a segment is
-- complete exactly if all its packets are there; then its text and its head are those that were written.
pub record SublistsKept (reported_last : Bool) (s : Setting) (all : List (List ℤ)) (parts : ℕ → List ℕ) : Type 0 where
  pub those_kept : kept_of reported_last s all parts ≡ chosen reported_last s all (λ index. run 0 (parts index)) (segments_of s)
  pub geometry : (index : ℕ) (more : List ℕ) → index < segments_of s → parts index ≡ 0 ∷ more →
      (last : ℕ) × (last < segments_of s) × IsLastBegun s parts last
      × ((after_all s.apid fresh (chosen reported_last s all parts (segments_of s))).geometry ≡ Some (geometry_by reported_last s last))
  pub only : (index : ℕ) → index < segments_of s → IsComplete (packets_at index (kept_of reported_last s all parts)) → parts index ≡ all_parts s all index
  pub each : (index : ℕ) → index < segments_of s → parts index ≡ all_parts s all index → IsComplete (packets_at index (kept_of reported_last s all parts))
  pub text : (index : ℕ) → index < segments_of s → parts index ≡ all_parts s all index → text_of_parts (packets_at index (kept_of reported_last s all parts))
      ≡ segment_text s all index
  pub head : (index : ℕ) → index < segments_of s → parts index ≡ all_parts s all index →
      head_read (text_in (slice_index_or (packets_at index (kept_of reported_last s all parts)) 0 [])) ≡ Ok (head_for s all index)

pub record SublistsAreKept : Type 0 where
  pub each_choice : (reported_last : Bool) (s : Setting) (all : List (List ℤ)) (parts : ℕ → List ℕ) → AreCoded s all → IsChoice s all parts →
      SublistsKept reported_last s all parts

-- the packets of the first segments are determined by the blocks of these
pub record PacketsOfBlocks : Type 0 where
  pub same : (reported_last : Bool) (s : Setting) (xs ys : List (List ℤ)) (n : ℕ) → ((index : ℕ) → index < n → segment_of s xs index ≡ segment_of s ys index) →
      packets_of reported_last s xs n ≡ packets_of reported_last s ys n
