-- The result of a list of the images of all packets.
use Rattle.std.proofs.Common.{◌≡◌, ◌≤◌, ◌∙◌, ℕ, List, [], ◌++◌, length, refl, sym, ap, subst, Some, Result, Ok, Err}
use Rattle.port_122.specs.Outside.{Outside}
use Rattle.port_122.proofs.IfKnown.{given_known}
use Rattle.packet_defs.specs.Streams.{framing}
use Rattle.camera_mux.specs.declared.info.InfoDone.{InfoDone}
use Rattle.camera_mux.specs.declared.info.InfoWish.{InfoWish}
use Rattle.camera_mux.specs.InfoAnswers.{Informs, image_count}
use Rattle.camera_mux.specs.Images.{entries, images, most_images}
use Rattle.camera_mux.specs.ImageLines.{lines_of}
use Rattle.strip_decoder.proofs.TextReads.{left_after}
use Rattle.strip122_c.specs.declared.info.InfoRefusal.{InfoRefusal}
use Rattle.strip122_c.specs.declared.info.InfoRefusal.TheVariants.{SmallRoom, LongInput, TooManyImages, Memory}
use Rattle.strip122_c.specs.WholeListing.{AreLines, HasRun, Lists}
use Rattle.strip122_c.proofs.ReadOut.{reads_all}
use Rattle.strip122_c.proofs.WholeDecoded.{read_to_end}

-- what a run has listed
pub record HasInfo (wish : InfoWish) (packets lines : List ℕ) (done : InfoDone) : Type 0 where
  pub are : AreLines wish packets lines
  pub images_are : done.images ≡ image_count wish.apid packets
  pub framing_is : done.framing ≡ framing packets

pub has_info : (wish : InfoWish) (packets given : List ℕ) (old new : Outside) (done : InfoDone) → old.rest ≡ Some packets → old.given ≡ Some [] →
    new.given ≡ Some given →
    Informs wish old new (Ok done) → HasInfo wish packets given done
has_info wish packets given old new done rest none gives run =
    let is = run.answer in
    let same = reads_all wish.octets run.took packets old new run.since rest is.out in
    let count : image_count wish.apid run.took ≡ image_count wish.apid packets = ap (λ all. length (images wish.apid all)) same.whole in
    record {
      are = record {
        are = given_known [] given run.since none gives ∙ is.lines ∙ ap (λ all. lines_of (entries wish.apid all)) same.whole;
        few = subst (λ n. n ≤ most_images) (is.images_are ∙ count) is.few;
        to_end = read_to_end wish.octets run.took packets old new run.since rest run.within is.out;
      };
      images_are = is.images_are ∙ count;
      framing_is = is.framing_is ∙ same.framing_is;
    }

pub refused : (wish : InfoWish) (packets room : List ℕ) (old new : Outside) (refusal : InfoRefusal) → old.rest ≡ Some packets →
    HasRun wish old new (Err refusal) → Lists wish packets room room (Err refusal)
refused wish packets room old new (SmallRoom octets) rest run = absurd run
refused wish packets room old new LongInput rest run =
    let left = left_after old.rest new.rest run.took packets run.since.rest rest in (
      refl,
      record { took = run.took; rest = left.rest; are = left.are; long = run.answer.0; readable = run.answer.1; few = run.answer.2 },
    )
refused wish packets room old new TooManyImages rest run =
    let left = left_after old.rest new.rest run.took packets run.since.rest rest in (
      refl,
      record { took = run.took; rest = left.rest; are = left.are; within = run.within; many = run.answer.0 },
    )
refused wish packets room old new Memory rest run = (refl, tt)
