-- The laws of what is listed of an image. This project's own.
use Rattle.std.specs.Prelude.{◌≡◌, ◌↔◌, ℕ, List, length, Contains, All, Option, IsSome}
use Rattle.std.specs.List.Sorted.{IsStrictlyIncreasing}
use Rattle.stream_defs.specs.Received.{packets_at, IsComplete}
use Rattle.camera_mux.specs.declared.image.ImageId.{ImageId}
use Rattle.camera_mux.specs.declared.image.ImageEntry.{ImageEntry}
use Rattle.camera_mux.specs.Images.{kept_of, entry_of, entries}

-- This is the number of segments that are complete in these packets: the number of their indices, each listed once.
pub record CountsComplete (packets : List (List ℕ)) (number : ℕ) : Type 0 where
  pub indices : List ℕ
  pub increasing : IsStrictlyIncreasing indices
  pub are_complete : (index : ℕ) → Contains indices index ↔ IsComplete (packets_at index packets)
  pub number_is : number ≡ length indices

-- The received segments of an image are those of which all packets are kept, from part 0 to a part that closes the segment.
pub record ReceivedAreComplete : Type 0 where
  pub each : (id : ImageId) (packets : List (List ℕ)) → CountsComplete (kept_of id packets) (entry_of packets id).count.received

-- each image that has begun has a geometry, so its line isn't empty
pub record ImagesHaveGeometry : Type 0 where
  pub each : (wanted : Option ℕ) (packets : List (List ℕ)) → All (λ (entry : ImageEntry). IsSome entry.state.geometry) (entries wanted packets)
