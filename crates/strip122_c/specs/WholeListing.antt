-- The result if the images of all packets are listed at once. This project's own.
use Rattle.std.specs.Prelude.{◌≡◌, ◌≤◌, ◌<◌, ◌++◌, ℕ, false, List, length, drop, Result, Ok, Err, ⊤}
use Rattle.port_122.specs.Outside.{Outside}
use Rattle.packet_defs.specs.Streams.{framing, has_bad_version, left_over}
use Rattle.camera_mux.specs.declared.info.InfoWish.{InfoWish}
use Rattle.camera_mux.specs.declared.info.InfoDone.{InfoDone}
use Rattle.camera_mux.specs.declared.info.InfoFault.TheVariants as faults
use Rattle.camera_mux.specs.InfoAnswers.{Informs, image_count}
use Rattle.camera_mux.specs.Images.{most_images}
use Rattle.camera_mux.specs.ImageLines.{listing}
use Rattle.strip122_c.specs.declared.info.Listed.{Listed}
use Rattle.strip122_c.specs.declared.info.InfoRefusal.{InfoRefusal}
use Rattle.strip122_c.specs.declared.info.InfoRefusal.TheVariants.{SmallRoom, LongInput, TooManyImages, Memory}
use Rattle.strip122_c.specs.WholeDecoding.{IsReadToEnd}

-- ---- a run over a port

-- one of these results, on a port that never fails
abbrev pub HasRun : InfoWish → (old new : Outside) → Result InfoDone InfoRefusal → Type 0
HasRun wish old new (Ok done) = Informs wish old new (Ok done)
HasRun wish old new (Err LongInput) = Informs wish old new (Err faults.LongInput)
HasRun wish old new (Err TooManyImages) = Informs wish old new (Err faults.TooManyImages)
HasRun wish old new (Err Memory) = ⊤
HasRun wish old new (Err (SmallRoom octets)) = ⊥

-- ---- all packets

-- The lines of the images that begin in the packets, which are read to their end, or to what can't be read on.
pub record AreLines (wish : InfoWish) (packets lines : List ℕ) : Type 0 where
  pub are : lines ≡ listing wish.apid packets
  pub few : image_count wish.apid packets ≤ most_images
  pub to_end : IsReadToEnd wish.octets packets

-- the room begins with them, and the rest of the room is unchanged
pub record HasListed (wish : InfoWish) (packets old new : List ℕ) (listed : Listed) : Type 0 where
  pub lines : List ℕ
  pub are : AreLines wish packets lines
  pub octets : listed.octets ≡ length lines
  pub images : listed.images ≡ image_count wish.apid packets
  pub framing_is : listed.framing ≡ framing packets
  pub room : new ≡ lines ++ drop (length lines) old

-- the room has fewer octets than the lines
pub record HasSmallRoom (wish : InfoWish) (packets : List ℕ) (room octets : ℕ) : Type 0 where
  pub lines : List ℕ
  pub are : AreLines wish packets lines
  pub octets_are : octets ≡ length lines
  pub small : room < octets

-- There are at least as many octets as are read. Up to there they can be read on, and not too many images begin.
pub record HasLongInput (wish : InfoWish) (packets : List ℕ) : Type 0 where
  pub took : List ℕ
  pub rest : List ℕ
  pub are : packets ≡ took ++ rest
  pub long : length took ≡ wish.octets
  pub readable : has_bad_version (left_over took) ≡ false
  pub few : image_count wish.apid took ≤ most_images

-- in the packets up to a place that is read, too many images begin
pub record HasTooMany (wish : InfoWish) (packets : List ℕ) : Type 0 where
  pub took : List ℕ
  pub rest : List ℕ
  pub are : packets ≡ took ++ rest
  pub within : length took ≤ wish.octets
  pub many : most_images < image_count wish.apid took

-- the cause of a refusal, by the number of octets of the room
abbrev pub IsRefused : InfoWish → (packets : List ℕ) → (room : ℕ) → InfoRefusal → Type 0
IsRefused wish packets room (SmallRoom octets) = HasSmallRoom wish packets room octets
IsRefused wish packets room LongInput = HasLongInput wish packets
IsRefused wish packets room TooManyImages = HasTooMany wish packets
IsRefused wish packets room Memory = ⊤

-- The result and its cause. A refusal leaves the room unchanged.
abbrev pub Lists : InfoWish → (packets old new : List ℕ) → Result Listed InfoRefusal → Type 0
Lists wish packets old new (Ok listed) = HasListed wish packets old new listed
Lists wish packets old new (Err refusal) = (new ≡ old) × IsRefused wish packets (length old) refusal
