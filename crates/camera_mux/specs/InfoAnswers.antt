-- How a list of images ends, by what it took and gave. This project's own.
use Rattle.std.specs.Prelude.{◌≡◌, ◌≤◌, ◌<◌, ℕ, List, [], length, take, false, Option, Result, Ok, Err}
use Rattle.port_122.specs.Outside.{Outside, Exchange, Rose}
use Rattle.packet_defs.specs.Streams.{whole_packets, left_over, has_bad_version, framing}
use Rattle.packet_assembly.specs.Readings.{IsReadOut, AsksReadable}
use Rattle.camera_mux.specs.declared.info.InfoWish.{InfoWish}
use Rattle.camera_mux.specs.declared.info.InfoDone.{InfoDone}
use Rattle.camera_mux.specs.declared.info.InfoFault.{InfoFault}
use Rattle.camera_mux.specs.declared.info.InfoFault.TheVariants.{ReadFault, WriteFault, LongInput, TooManyImages, Memory}
use Rattle.camera_mux.specs.Images.{images, most_images}
use Rattle.camera_mux.specs.ImageLines.{listing}

-- the number of images that begin in these octets
abbrev pub image_count : (wanted : Option ℕ) → List ℕ → ℕ
image_count wanted octets = length (images wanted (whole_packets octets))

-- A read call with i octets taken and j given: nothing is given yet, and there are lines for all images that begin in these octets.
abbrev pub AsksFew : (wanted : Option ℕ) → (took : List ℕ) → ℕ → ℕ → Type 0
AsksFew wanted took i j = (j ≡ 0) × (image_count wanted (take i took) ≤ most_images)

-- What is given is the lines of all images of the octets that were taken, and these were read to the end, or can't be read on for this
-- reason.
pub record IsInfo (wish : InfoWish) (new : Outside) (took gave : List ℕ) (done : InfoDone) : Type 0 where
  pub lines : gave ≡ listing wish.apid took
  pub images_are : done.images ≡ image_count wish.apid took
  pub few : done.images ≤ most_images
  pub framing_is : done.framing ≡ framing took
  pub out : IsReadOut wish.octets new took

-- Why the call ended so. If the port reports what is left, what was taken and the end decide between a list that is done, an input that is
-- too long and one with too many images.
abbrev pub Answers : InfoWish → (old new : Outside) → (took gave : List ℕ) → Result InfoDone InfoFault → Type 0
Answers wish old new took gave (Ok done) = IsInfo wish new took gave done
Answers wish old new took gave (Err LongInput) =
    (length took ≡ wish.octets) × (has_bad_version (left_over took) ≡ false) × (image_count wish.apid took ≤ most_images) × (gave ≡ [])
Answers wish old new took gave (Err ReadFault) = Rose old.read_faults new.read_faults × (image_count wish.apid took ≤ most_images) × (gave ≡ [])
Answers wish old new took gave (Err WriteFault) =
    Rose old.write_faults new.write_faults × (image_count wish.apid took ≤ most_images) × IsReadOut wish.octets new took
    × ((some : ℕ) × (gave ≡ take some (listing wish.apid took)))
Answers wish old new took gave (Err TooManyImages) = (most_images < image_count wish.apid took) × (gave ≡ [])
Answers wish old new took gave (Err Memory) = (old ≡ new) × (took ≡ []) × (gave ≡ [])

-- One run over a port: what it took and gave, when, and why it ended so. However it ends, it takes at most the number of octets in the
-- wish, and it gives nothing before its last read call. At each read call the octets taken by then can be read on, and are fewer than the
-- wish allows.
pub record Informs (wish : InfoWish) (old new : Outside) (result : Result InfoDone InfoFault) : Type 0 where
  pub took : List ℕ
  pub gave : List ℕ
  pub since : Exchange old new took gave [] (AsksFew wish.apid took)
  pub readable : Exchange old new took gave [] (AsksReadable wish.octets took)
  pub within : length took ≤ wish.octets
  pub answer : Answers wish old new took gave result
