-- A bare text is its head and what decides its items.
use Rattle.std.proofs.Common.{◌≡◌, ℕ, ◌+◌, ◌*◌, ◌≤◌, ◌<◌, List, ◌++◌, length, get_or, Bool, true, false, if◌then◌else◌, refl, sym, ◌∙◌, subst, arith}
use Rattle.std.proofs.Common.{length-append, flat_map}
use Rattle.item_defs.proofs.OctetBits.{length-octets_of}
use Rattle.segment_defs.specs.declared.head.SegmentHead.{SegmentHead}
use Rattle.segment_defs.specs.Depths.{block_depth, block_depths}
use Rattle.segment_defs.specs.Head.{Field, field_bits, part_2, part_3, part_4}
use Rattle.segment_defs.specs.Coded.{chosen_options}
use Rattle.segment_head.specs.declared.carried.Carried.{Carried}
use Rattle.segment_head.specs.Parts.{part_1}
use Rattle.segment_defs.proofs.WrittenFields.{width_of, length-bits_in}
use Rattle.segment_head.proofs.WrittenHeads.{length_4}
use Rattle.segment_defs.proofs.SegmentItems.{segment_are_items}
use Rattle.segment_code.proofs.CodedChoices.{words_are, numbers_are, within_greatest}
use Rattle.segment_code.specs.TextAnswers.{gives, Decides}
use Rattle.segment_code.specs.Spelled.{SpelledTextsDecide}
use Rattle.bare_text.specs.Writing.{carried_after, fields_where, bare_head_bits, bare_text}
use Rattle.bare_text.specs.Laws.{bare_head, BareTextsHold}
use Rattle.bare_text.proofs.HeadLengths.{length_first}
use Rattle.bare_text.proofs.HeldTexts.{text_held}

-- the octets of a head with these parts
abbrev size_with : Carried → SegmentHead → ℕ
size_with c h = (if h.last then 4 else 3) + ((if c.part_2 then 5 else 0) + ((if c.part_3 then 3 else 0) + (if c.part_4 then 8 else 0)))

bits_long : (c : Carried) (h : SegmentHead) → length h.image.weights.shifts ≡ 10 → length (bare_head_bits c h) ≡ 8 * size_with c h
bits_long c h ten =
    let one = flat_map field_bits (part_1 c h) in
    let two = flat_map field_bits (fields_where c.part_2 (part_2 h)) in
    let three = flat_map field_bits (fields_where c.part_3 (part_3 h)) in
    let four = flat_map field_bits (fields_where c.part_4 (part_4 h.image)) in
    omega (
      arith,
      length_first c h h.last refl,
      length-append one (two ++ (three ++ four)),
      length-append two (three ++ four),
      length-append three four,
      eight c.part_2 (part_2 h) 5 refl,
      eight c.part_3 (part_3 h) 3 refl,
      eight c.part_4 (part_4 h.image) 8 (sym (length-bits_in (part_4 h.image)) ∙ length_4 h.image ten),
    )
  where
    eight : (b : Bool) (fields : List Field) (n : ℕ) → width_of fields ≡ 8 * n → length (flat_map field_bits (fields_where b fields)) ≡ 8 * (if b then n else 0)
    eight true fields n e = length-bits_in fields ∙ e
    eight false fields n e = refl

size_most : (last a b d : Bool) → (if last then 4 else 3) + ((if a then 5 else 0) + ((if b then 3 else 0) + (if d then 8 else 0))) ≤ 20
size_most last a b d = omega (
  arith,
  most last 4 3 4 (omega arith) (omega arith),
  most a 5 0 5 (omega arith) (omega arith),
  most b 3 0 3 (omega arith) (omega arith),
  most d 8 0 8 (omega arith) (omega arith),
)
  where
    most : (b : Bool) (m n k : ℕ) → m ≤ k → n ≤ k → (if b then m else n) ≤ k
    most true m n k p q = p
    most false m n k p q = q

pub bare_texts_hold : SpelledTextsDecide → BareTextsHold
unfolding bare_text
bare_texts_hold spelled wish sound before h blocks fits ten spellable deep =
    let c = carried_after before h in
    let options = chosen_options wish.book h blocks in
    let long = bits_long c h ten in
    let low = λ (r : ℕ) (lt : r < length (block_depths blocks)). low_is r lt in
    let words = words_are wish.book sound h blocks in
    let are = segment_are_items h blocks (block_depths blocks) options fits spellable words (numbers_are wish.book h blocks fits) low in
    let held = text_held spelled wish.restore h blocks (block_depths blocks) options fits spellable words are (bare_head_bits c h) (size_with c h) long
    (size_most h.last c.part_2 c.part_3 c.part_4) in
    let size : size_with c h ≡ length (bare_head before h) = sym (length-octets_of (bare_head_bits c h) ∙ omega (arith, long)) in
    record {
      rest = held.rest;
      w = held.w;
      part = held.part;
      octets = held.parts;
      decides = subst (λ n. Decides wish h n held.rest (gives held.part held.w)) size held.decides;
      exact = held.exact;
    }
  where
    low_is : (r : ℕ) → r < length (block_depths blocks) → get_or (block_depths blocks) r 0 ≤ h.depth_ac
    low_is r lt = omega (arith, within_greatest block_depth blocks 0 r, deep)
