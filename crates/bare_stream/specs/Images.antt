-- What the bare stream of an image reports, and what a decoder gives for it. (This project's own.)
use Rattle.std.specs.Prelude.{◌≡◌, ◌<◌, ℕ, ℤ, Bool, min, List, [], ◌++◌, length, map, slice_index_or, IsTrue}
use Rattle.std.specs.List.{range_with_len}
use Rattle.base_122.specs.Setting.{geometry_of}
use Rattle.base_122.specs.Sizes.{total_blocks}
use Rattle.base_122.specs.declared.geometry.Geometry.{Geometry}
use Rattle.base_122.specs.declared.setting.Setting.{Setting}
use Rattle.plane_defs.specs.Codes.{is_book_sound}
use Rattle.stream_defs.specs.Output.{head_for, image_blocks, segment_of, segments_of}
use Rattle.segment_code.specs.TextAnswers.{gives, Decides}
use Rattle.strip_decoder.specs.Images.{ArePixels, SendsAll, texts_for as bare_wish}
use Rattle.bit_pipe.specs.declared.fault.Part.{Part}
use Rattle.bare_text.specs.Laws.{bare_head}
use Rattle.bare_stream.specs.Bare.{bare, head_before, segment_octets}
use Rattle.bare_stream.specs.BareStream.{BareStream}
use Rattle.bare_stream.specs.Rasters.{IsBare}

-- an image of a setting of a bare stream, whose book is sound, and whose ten weights and pixels are in range
pub record IsBareImage (s : Setting) (x : ℕ → ℕ → ℤ) : Type 0 where
  pub setting : IsBare s
  pub sound : IsTrue (is_book_sound s.book)
  pub weights : length s.weights.shifts ≡ 10
  pub pixels : ArePixels s s.rows x

-- the geometry of its stream: the image is 0, and each segment except the last has the number of blocks of the first
abbrev pub bare_geometry : Setting → Geometry
bare_geometry s = record (geometry_of s) { segment = min s.segment (total_blocks s.width s.rows); image = 0 }

-- the blocks of an image, segment by segment
abbrev pub image_segments : Setting → (ℕ → ℕ → ℤ) → List (List (List ℤ))
image_segments s x = map (segment_of s (image_blocks s x)) (range_with_len 0 (segments_of s))

-- the text of the segment of this index is its head and the octets that decide these blocks, after a reader has read the head before
pub record IsSegmentText (s : Setting) (restore : Bool) (all : List (List ℤ)) (index : ℕ) (blocks : List (List ℤ)) : Type 0 where
  pub part : Part
  pub rest : List ℕ
  pub octets : segment_octets s all index ≡ bare_head (head_before s all index) (head_for s all index) ++ rest
  pub decides : Decides (bare_wish s restore) (head_for s all index) (length (bare_head (head_before s all index) (head_for s all index))) rest
      (gives part blocks)

-- The stream of an image reports its geometry and holds these blocks, restored or as they are, text by text. If nothing is missing, they
-- are those of the image.
pub record SaysImage (s : Setting) (x : ℕ → ℕ → ℤ) (restore : Bool) (w : List (List (List ℤ))) : Type 0 where
  pub stream : BareStream (bare_wish s restore) (bare s x) (bare_geometry s) w
  pub count : length w ≡ segments_of s
  pub texts : (index : ℕ) → index < segments_of s → IsSegmentText s restore (image_blocks s x) index (slice_index_or w index [])
  pub exact : SendsAll s → w ≡ image_segments s x

-- The octets that are written for an image are a bare stream, which reports this and nothing else.
pub record ImagesAreBareStreams : Type 0 where
  pub says : (s : Setting) (x : ℕ → ℕ → ℤ) (restore : Bool) → IsBareImage s x → (w : List (List (List ℤ))) × SaysImage s x restore w
  pub only : (s : Setting) (x : ℕ → ℕ → ℤ) (restore : Bool) (g : Geometry) (w : List (List (List ℤ))) → IsBareImage s x →
      BareStream (bare_wish s restore) (bare s x) g w → (g ≡ bare_geometry s) × SaysImage s x restore w
