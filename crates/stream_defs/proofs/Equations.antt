-- What the definitions of streams compute to: outside this crate these equations are cited, and nothing is unfolded.
use Rattle.std.specs.List.{range_with_len, list_any, flat_map, count_by}
use Rattle.base_122.specs.Sizes.{block_count}
use Rattle.base_122.specs.declared.geometry.Geometry.{Geometry}
use Rattle.wave_defs.specs.Pyramid.{rebuilt}
use Rattle.raster_rows.specs.Pixels.{clamped}
use Rattle.stream_defs.specs.Begun.{end_in, end_of}
use Rattle.stream_defs.specs.Picture.{pyramid_with, picture_of, number_at}
use Rattle.stream_defs.specs.Damage.{is_missing, missing_below, begins_range, range_from, ranges}
use Rattle.stream_defs.specs.Marks.{most_block_rows, and_missing}
use Rattle.stream_defs.specs.declared.fate.FateState.{FateState}
use Rattle.stream_defs.specs.Fates.{fate, is_kept, after, kept}
use Rattle.std.proofs.Common.{refl, ℕ, ◌==◌, ℤ, List, [], Option, ◌≡◌, ◌||◌, ◌∷◌, map, filter, if◌then◌else◌, max, fold}
use Rattle.std.specs.Prelude.{◌/◌, ◌%◌, Bool, unwrap_or, pos, slice_index_or}
use Rattle.base_122.specs.declared.setting.Setting.{Setting}
use Rattle.stream_defs.specs.Output.{segments_of}
use Rattle.stream_defs.specs.Places.{packet_at}
use Rattle.stream_defs.specs.Chosen.{chosen}
use Rattle.stream_defs.specs.Settled.{is_settled, settled}

pub picture_of-is : (g : Geometry) (numbers : ℕ → ℕ → ℤ) (r i j : ℕ) →
    picture_of g numbers r i j ≡ (let c = block_count g.width in clamped g.depth g.signed (rebuilt (pyramid_with numbers c g.weights.shifts) r c i j))
unfolding picture_of
picture_of-is g numbers r i j = refl

pub missing_below-is : (g : Geometry) (received : ℕ → Option (List (List ℤ))) (rows : ℕ) → missing_below g received rows ≡ filter (is_missing g received)
    (range_with_len 0 rows)
unfolding missing_below
missing_below-is g received rows = refl

pub most_is : most_block_rows ≡ 32768
unfolding most_block_rows
most_is = refl

pub and_missing-is : (missing : List ℕ) (r : ℕ) → and_missing missing r
    ≡ (filter (λ i. list_any (λ k. k == i) missing || (i == r)) (range_with_len 0 most_block_rows))
unfolding and_missing
and_missing-is missing r = refl

pub end_of-is : (packets : List (List ℕ)) → end_of packets ≡ fold (λ most packet. max most (end_in packet)) 0 packets
unfolding end_of
end_of-is packets = refl

module _ (apid : ℕ) (s : FateState) where
  pub kept-none : kept apid s [] ≡ []
  unfolding kept
  kept-none = refl

  pub kept-cons : (packet : List ℕ) (packets : List (List ℕ)) →
      kept apid s (packet ∷ packets) ≡ (if is_kept (fate apid s packet) then packet ∷ kept apid (after apid s packet) packets else kept apid
      (after apid s packet) packets)
  unfolding kept
  kept-cons packet packets = refl

pub ranges-is : (rows : ℕ) (missing : List ℕ) → ranges rows missing ≡ map (range_from rows missing) (filter (begins_range rows missing) (range_with_len 0 rows))
unfolding ranges
ranges-is rows missing = refl

pub chosen-is : (reported_last : Bool) (s : Setting) (all : List (List ℤ)) (parts : ℕ → List ℕ) (n : ℕ) →
    chosen reported_last s all parts n ≡ flat_map (λ index. map (packet_at reported_last s all index) (parts index)) (range_with_len 0 n)
unfolding chosen
chosen-is reported_last s all parts n = refl

pub number_at-is : (g : Geometry) (received : (ℕ → Option (List (List ℤ)))) (block i : ℕ) →
    number_at g received block i ≡ slice_index_or (slice_index_or (unwrap_or (received (block / g.segment)) []) (block % g.segment) []) i (pos 0)
unfolding number_at
number_at-is g received block i = refl

pub settled-is : (reported_last : Bool) (s : Setting) (k : ℕ) → settled reported_last s k ≡ count_by (is_settled reported_last s k)
    (range_with_len 0 (segments_of s))
unfolding settled
settled-is reported_last s k = refl
