-- The images of a table in chains, one for each of 4,096 buckets. This project's own.
use Rattle.std.specs.Prelude.{◌≡◌, ◌<◌, ◌+◌, ◌*◌, ◌%◌, ◌==◌, if◌then◌else◌, ℕ, zero, suc, List, length}
use lib.ListN.{get_or}
use Rattle.camera_mux.specs.declared.image.ImageId.{ImageId}
use Rattle.camera_mux.specs.declared.image.ImageEntry.{ImageEntry}
use Rattle.camera_mux.specs.Tables.{entry_at}

abbrev pub bucket_of : ImageId → ℕ
bucket_of id = (521 * id.apid + id.image) % 4096

-- the bucket of the image at a place
abbrev pub bucket_at : List ImageEntry → (place : ℕ) → ℕ
bucket_at table place = bucket_of (entry_at table place).id

-- the last place before one of an image in the bucket, or 65,535 if there is none
abbrev pub last_before : List ImageEntry → (bucket before : ℕ) → ℕ
last_before table bucket zero = 65535
last_before table bucket (suc place) = if bucket_at table place == bucket then place else last_before table bucket place

-- the last image of each bucket, and for each image the one before it in its bucket
pub record AreChained (table : List ImageEntry) (last earlier : List ℕ) : Type 0 where
  pub ends : (bucket : ℕ) → bucket < 4096 → get_or last bucket 0 ≡ last_before table bucket (length table)
  pub links : (place : ℕ) → place < length table → get_or earlier place 0 ≡ last_before table (bucket_at table place) place
