-- The numbers that a text gives after a head of any size are multiples of their weights, and small.
use Rattle.std.proofs.Common.{◌≡◌, ℕ, ◌*◌, ◌^◌, ◌<◌, ◌≤◌, true, List, length, take, ap, sym, subst, ◌∙◌, ℤ, pos, get_or, ◌*ℤ◌, unsigned_abs}
use Rattle.plane_defs.specs.Sets.{shift}
use Rattle.plane_defs.specs.Codes.{is_book_sound}
use Rattle.segment_defs.specs.TextWish.{TextWish}
use Rattle.wave_defs.specs.Blocks.{place_of}
use Rattle.segment_defs.specs.declared.head.SegmentHead.{SegmentHead}
use Rattle.segment_defs.specs.Head.{IsHead}
use Rattle.segment_defs.specs.Parts.{IsWeighted, AreWeighted as AreAllWeighted}
use Rattle.wave_defs.specs.Line.{floor_div}
use Rattle.wave_defs.specs.Blocks.{weight_at}
use Rattle.wave_defs.specs.Held.{block_at, blocks_in}
use Rattle.bit_pipe.specs.declared.fault.Part.{Part}
use Rattle.block_families.specs.Places.{AreWeighted}
use Rattle.segment_code.specs.TextAnswers.{gives, Decides}
use Rattle.segment_code.specs.Parts.{TextsGiveParts}
use Rattle.picture_rows.proofs.BandBlocks.{part_is}
use Rattle.bare_stream.specs.Blocks.{AreParts}
use Rattle.bare_stream.proofs.SegmentShown.{block_of_prefix}

weighted : (head : SegmentHead) (cells : List ℤ) (k : ℕ) → IsHead head → AreAllWeighted head (blocks_in (take (64 * head.blocks) cells)) →
    64 * head.blocks ≤ length cells → k < head.blocks →
    AreWeighted (block_at cells k) head.image.weights.shifts
weighted head cells k ok all long lt =
    let weights = head.image.weights.shifts in
    let number = λ (i : ℕ). get_or (block_at cells k) i (pos 0) in
    let is_part : (i : ℕ) → i < 64 → IsWeighted (shift weights i) (number i) = λ i small.
    subst (IsWeighted (shift weights i)) (ap (λ b. get_or b i (pos 0)) (block_of_prefix cells head.blocks k long lt)) (all.each k i lt small) in
    let quotient : (i : ℕ) → (small : i < 64) → (is_part i small).part ≡ floor_div (number i) (2 ^ get_or weights (place_of i).band 0) = λ i small.
    part_is weights i (is_part i small).part (number i) ok.image.weights (sym (is_part i small).is) in
    record {
      part = λ i. floor_div (number i) (2 ^ get_or weights (place_of i).band 0);
      whole = λ i small. (is_part i small).is ∙ ap (λ z. z *ℤ weight_at weights i) (quotient i small);
      small = λ i small. subst (λ z. unsigned_abs z ≤ 2 ^ 27) (quotient i small) (is_part i small).small;
    }

pub items_weighted : TextsGiveParts → (wish : TextWish) → is_book_sound wish.book ≡ true →
    (head : SegmentHead) (size : ℕ) (rest : List ℕ) (cells : List ℤ) (part : Part) → IsHead head →
    Decides wish head size rest (gives part (blocks_in (take (64 * head.blocks) cells))) → 64 * head.blocks ≤ length cells →
    AreParts cells head.blocks head.image.weights.shifts
items_weighted given wish sound head size rest cells part ok decides long =
    let all = given wish sound head size rest part (blocks_in (take (64 * head.blocks) cells)) (length rest) ok decides in
    record { at = λ k lt. weighted head cells k ok all long lt }
