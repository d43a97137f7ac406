-- The images of a stream of packets, in the order in which they begin, and what is known of each. This project's own.
use Rattle.std.specs.Prelude.{ℕ, ◌==◌, ◌&&◌, Bool, true, List, [], length, take, map, filter, sum_by, count_by, slice_index_or, Option, None, Some}
use Rattle.std.specs.List.{range_with_len}
use Rattle.packet_defs.specs.Reading.{apid_in, flags_in, ancillary_in}
use Rattle.stream_defs.specs.declared.fate.FateState.{FateState}
use Rattle.stream_defs.specs.Fates.{fresh, fate, is_kept, closes, after_all, kept}
use Rattle.camera_mux.specs.Picked.{picked_of}
use Rattle.camera_mux.specs.declared.image.ImageId.{ImageId}
use Rattle.camera_mux.specs.declared.image.ImageCount.{ImageCount}
use Rattle.camera_mux.specs.declared.image.ImageEntry.{ImageEntry}

-- ---- one image

-- the image of a packet
abbrev pub id_in : List ℕ → ImageId
id_in packet = record { apid = apid_in packet; image = (ancillary_in packet).image }

-- the packets of an image, in order
abbrev pub own_packets : ImageId → List (List ℕ) → List (List ℕ)
own_packets id packets = picked_of id.apid (Some id.image) packets

-- the state that they leave for the next one's fate, and those that are kept: each by the packets of this image alone
abbrev pub state_of : ImageId → List (List ℕ) → FateState
state_of id packets = after_all id.apid fresh (own_packets id packets)

abbrev pub kept_of : ImageId → List (List ℕ) → List (List ℕ)
kept_of id packets = kept id.apid fresh (own_packets id packets)

-- The counts of kept packets. A segment is received if all its packets are kept, and then exactly one of these closes its text.
abbrev pub count_of : List (List ℕ) → ImageCount
count_of packets = record {
  packets = length packets;
  octets = sum_by length packets;
  received = count_by (λ packet. closes (flags_in packet)) packets;
}

-- what is known of an image after some packets of the stream
abbrev pub entry_of : List (List ℕ) → ImageId → ImageEntry
entry_of packets id = record { id = id; state = state_of id packets; count = count_of (kept_of id packets) }

-- ---- all images

-- a packet of an image with this APID is asked for
abbrev pub is_wanted : (wanted : Option ℕ) → (apid : ℕ) → Bool
is_wanted None apid = true
is_wanted (Some own) apid = apid == own

-- a packet is kept after these
abbrev pub is_kept_after : List (List ℕ) → List ℕ → Bool
is_kept_after before packet = is_kept (fate (apid_in packet) (state_of (id_in packet) before) packet)

-- it begins its image: it is kept, and none of its image before it is
abbrev pub begins_image : List (List ℕ) → List ℕ → Bool
begins_image before packet = is_kept_after before packet && (length (kept_of (id_in packet) before) == 0)

abbrev pub packet_at : List (List ℕ) → (place : ℕ) → List ℕ
packet_at packets place = slice_index_or packets place []

-- the packet at a place begins an image that is asked for
abbrev pub begins_at : (wanted : Option ℕ) → List (List ℕ) → (place : ℕ) → Bool
begins_at wanted packets place = is_wanted wanted (apid_in (packet_at packets place)) && begins_image (take place packets) (packet_at packets place)

-- the images that are asked for, by the places at which they begin
unfoldable pub images : (wanted : Option ℕ) → List (List ℕ) → List ImageId
images wanted packets = map (λ place. id_in (packet_at packets place)) (filter (begins_at wanted packets) (range_with_len 0 (length packets)))

-- what is known of each after all packets
abbrev pub entries : (wanted : Option ℕ) → List (List ℕ) → List ImageEntry
entries wanted packets = map (entry_of packets) (images wanted packets)

-- the most images of a list
abbrev pub most_images : ℕ
most_images = 4096
