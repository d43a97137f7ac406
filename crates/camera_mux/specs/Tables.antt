-- The table of the images that have begun, and the effect of a packet on it. This project's own.
use Rattle.std.specs.Prelude.{◌≡◌, ◌≤◌, ◌<◌, ◌+◌, ◌^◌, ℕ, Bool, true, false, if◌then◌else◌, List, [], ◌∷◌, ◌++◌, length, slice_index_or, slice_set, Option}
use Rattle.std.specs.Prelude.{None, Some, Result, Ok, Err}
use Rattle.segment_defs.specs.declared.head.SegmentHead.{SegmentHead}
use Rattle.packet_defs.specs.declared.ancillary.Ancillary.{Ancillary}
use Rattle.packet_defs.specs.declared.packet.Skip.{Skip}
use Rattle.packet_defs.specs.Reading.{apid_in, flags_in, ancillary_in, text_in, skip_of}
use Rattle.stream_defs.specs.declared.fate.Fate.{Fate}
use Rattle.stream_defs.specs.declared.fate.FateState.{FateState}
use Rattle.stream_defs.specs.Fates.{fresh, closes}
use Rattle.packet_assembly.specs.Classification.{classified, past_kept}
use Rattle.packet_assembly.specs.Ranged.{IsRanged}
use Rattle.camera_mux.specs.declared.image.ImageId.{ImageId}
use Rattle.camera_mux.specs.declared.image.ImageCount.{ImageCount}
use Rattle.camera_mux.specs.declared.image.ImageEntry.{ImageEntry}
use Rattle.camera_mux.specs.declared.image_table.TableFull.{TableFull}
use Rattle.camera_mux.specs.Images.{id_in, is_wanted, most_images}

-- ---- counts

abbrev pub no_count : ImageCount
no_count = record { packets = 0; octets = 0; received = 0 }

-- the counts with one kept packet more, of these octets, that closes a segment or doesn't
abbrev pub count_with : ImageCount → (octets : ℕ) → (closes : Bool) → ImageCount
count_with count octets closes = record {
  packets = count.packets + 1;
  octets = count.octets + octets;
  received = count.received + (if closes then 1 else 0);
}

-- there is room for it
pub record FitsMore (count : ImageCount) (octets : ℕ) : Type 0 where
  pub packets : count.packets + 1 < 2 ^ 64
  pub octets_fit : count.octets + octets < 2 ^ 64
  pub received : count.received + 1 < 2 ^ 64

-- ---- entries by their places

abbrev pub no_entry : ImageEntry
no_entry = record { id = record { apid = 0; image = 0 }; state = fresh; count = no_count }

abbrev pub entry_at : List ImageEntry → (place : ℕ) → ImageEntry
entry_at table place = slice_index_or table place no_entry

-- the place of an image in the table, if it has begun
abbrev pub IsPlace : List ImageEntry → ImageId → Option ℕ → Type 0
IsPlace table id None = (k : ℕ) → k < length table → (entry_at table k).id ≡ id → ⊥
IsPlace table id (Some place) = (place < length table) × ((entry_at table place).id ≡ id)

abbrev pub IsWithin : List ImageEntry → Option ℕ → Type 0
IsWithin table None = Unit {0}
IsWithin table (Some place) = place < length table

-- the state that its packets leave for the next one's fate, and their counts
abbrev pub state_at : List ImageEntry → Option ℕ → FateState
state_at table None = fresh
state_at table (Some place) = (entry_at table place).state

abbrev pub count_at : List ImageEntry → Option ℕ → ImageCount
count_at table None = no_count
count_at table (Some place) = (entry_at table place).count

-- the table with this entry at a place, or after all others
abbrev pub with_entry : List ImageEntry → Option ℕ → ImageEntry → List ImageEntry
with_entry table None entry = table ++ entry ∷ []
with_entry table (Some place) entry = slice_set table place entry

-- each geometry is in range
pub record AreRanged (table : List ImageEntry) : Type 0 where
  pub ranged : (k : ℕ) → k < length table → IsRanged (entry_at table k).state

-- there is room for the counts of a packet of these octets
pub record CanCount (table : List ImageEntry) (octets : ℕ) : Type 0 where
  pub fits : (k : ℕ) → k < length table → FitsMore (entry_at table k).count octets

-- ---- one packet

-- an entry was put in its place, unless the table is full
abbrev pub PutsEntry : (old new : List ImageEntry) → Option ℕ → ImageEntry → Result Unit TableFull → Type 0
PutsEntry old new place entry (Ok done) = (new ≡ with_entry old place entry) × (length new ≤ most_images)
PutsEntry old new place entry (Err full) = (place ≡ None) × (length old ≡ most_images) × (new ≡ old)

-- the entry of an image after a kept packet with this header
abbrev pub entry_past : List ImageEntry → ImageId → Option ℕ → (flags : ℕ) → Ancillary → (octets : ℕ) → Option SegmentHead → ImageEntry
entry_past table id place flags a octets found = record {
  id = id;
  state = past_kept (state_at table place) flags a found;
  count = count_with (count_at table place) octets (closes flags);
}

-- the table after a packet with this classification
abbrev pub LeavesTable : (old new : List ImageEntry) → ImageId → Option ℕ → (flags : ℕ) → Ancillary → (octets : ℕ) → Result (Option SegmentHead) Fate →
    Result Unit TableFull → Type 0
LeavesTable old new id place flags a octets (Err why) result = (result ≡ Ok tt) × (new ≡ old)
LeavesTable old new id place flags a octets (Ok found) result = PutsEntry old new place (entry_past old id place flags a octets found) result

-- a packet of an image was passed
pub record PassesImage (old new : List ImageEntry) (id : ImageId) (flags : ℕ) (a : Ancillary) (text : List ℕ) (octets : ℕ)
    (result : Result Unit TableFull) : Type 0 where
  pub place : Option ℕ
  pub is_place : IsPlace old id place
  pub leaves : LeavesTable old new id place flags a octets (classified (state_at old place) flags a text) result

-- a whole packet was passed, by whether its APID is asked for, and why it is none of an image with its own APID
abbrev pub PassesBy : (old new : List ImageEntry) → List ℕ → Bool → Option Skip → Result Unit TableFull → Type 0
PassesBy old new packet true None result = PassesImage old new (id_in packet) (flags_in packet) (ancillary_in packet) (text_in packet) (length packet) result
PassesBy old new packet true (Some skip) result = (result ≡ Ok tt) × (new ≡ old)
PassesBy old new packet false skip result = (result ≡ Ok tt) × (new ≡ old)

abbrev pub PassesPacket : (wanted : Option ℕ) → (old new : List ImageEntry) → List ℕ → Result Unit TableFull → Type 0
PassesPacket wanted old new packet result = PassesBy old new packet (is_wanted wanted (apid_in packet)) (skip_of (apid_in packet) packet) result
