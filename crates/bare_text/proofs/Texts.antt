-- A text with a short head that was put into a sink, and ended.
use Rattle.std.proofs.Common.{◌≡◌, ℕ, ℤ, ◌*◌, ◌≤◌, List, ◌++◌, length, Bool, true, false, inl, inr, subst, arith, length-append, IsTrue, Option, Result, Ok, ap}
use Rattle.std.proofs.Common.{Err, MatchResult, flat_map}
use Rattle.item_defs.specs.Items.{text}
use Rattle.bit_pipe.specs.Sinks.{SinkOf}
use Rattle.base_122.specs.declared.book.Book.{Book}
use Rattle.wave_defs.specs.Held.{blocks_in}
use Rattle.segment_defs.specs.declared.head.SegmentHead.{SegmentHead}
use Rattle.segment_defs.specs.Depths.{block_depths, depth_dc_of, depth_ac_of}
use Rattle.segment_defs.specs.Head.{IsHead, head_length, head_bits, field_bits, part_2, part_3, part_4}
use Rattle.segment_defs.specs.SegmentItems.{segment_items}
use Rattle.segment_defs.specs.Coded.{chosen_options, coded_bits}
use Rattle.segment_defs.specs.Text.{text_octets}
use Rattle.segment_head.specs.declared.carried.Carried.{Carried}
use Rattle.segment_head.specs.Parts.{part_1}
use Rattle.segment_head.proofs.WrittenHeads.{length_4, length-head_bits}
use Rattle.segment_code.specs.Text.{GivesText, BreaksWithin}
use Rattle.plane_defs.specs.Codes.{is_book_sound}
use Rattle.segment_code.proofs.Bounded.{is_bounded}
use Rattle.segment_code.proofs.Encoding.{IsBounded}
use Rattle.bare_text.specs.Writing.{carried_after, fields_where, bare_head_bits, bare_bits, bare_text}
use Rattle.bare_text.proofs.HeadLengths.{leave_room}

-- a head with absent parts has at most the bits of one with all
pub bare_head_short : (carried : Carried) (h : SegmentHead) → length h.image.weights.shifts ≡ 10 → length (bare_head_bits carried h) ≤ 8 * head_length h
bare_head_short carried h ten =
    let one = flat_map field_bits (part_1 carried h) in
    let two = flat_map field_bits (fields_where carried.part_2 (part_2 h)) in
    let three = flat_map field_bits (fields_where carried.part_3 (part_3 h)) in
    let four = flat_map field_bits (fields_where carried.part_4 (part_4 h.image)) in
    omega (
      arith,
      leave_room carried h carried.part_2 carried.part_3,
      length-append one (two ++ (three ++ four)),
      length-append two (three ++ four),
      length-append three four,
      most_4 carried.part_4,
    )
  where
    most_4 : (b : Bool) → length (flat_map field_bits (fields_where b (part_4 h.image))) ≤ 64
    most_4 true = omega (arith, length_4 h.image ten)
    most_4 false = omega arith

fewer : (word limit : ℕ) (fill : Bool) (m n : ℕ) → m ≤ n → IsBounded word limit fill n → IsBounded word limit fill m
fewer word limit fill m n le (inl (some, few, none, plain, short)) = inl (some, few, none, plain, omega (arith, short, le))
fewer word limit fill m n le (inr l) = inr l

pub bare_bounded : (book : Book) → IsTrue (is_book_sound book) → (before : Option SegmentHead) (h : SegmentHead) (cells : List ℤ) → IsHead h →
    length h.image.weights.shifts ≡ 10 → length cells ≡ 64 * h.blocks → h.depth_dc ≡ depth_dc_of (blocks_in cells) →
    h.depth_ac ≡ depth_ac_of (blocks_in cells) →
    IsBounded h.image.word h.limit h.fill (length (bare_bits book before h (blocks_in cells)))
bare_bounded book sound before h cells fits ten count dc ac =
    let blocks = blocks_in cells in
    let items = text (segment_items h blocks (block_depths blocks) (chosen_options book h blocks)) in
    let short = bare_head_short (carried_after before h) h ten in
    fewer h.image.word h.limit h.fill (length (bare_bits book before h blocks)) (length (coded_bits book h blocks))
    (omega (arith, short, length-append (bare_head_bits (carried_after before h) h) items, length-append (head_bits h) items, length-head_bits h ten))
    (is_bounded book sound h cells fits ten count dc ac)

-- the sink has the same value at the return
pub if_known : {S E : Type 0} (k : SinkOf S) (out : S) (r : Result ℕ E) (book : Book) (before : Option SegmentHead) (h : SegmentHead) (blocks : List (List ℤ))
    (u v : S) → u ≡ v →
    MatchResult r (λ octets. GivesText k out u (text_octets h.image.word h.limit h.fill (bare_bits book before h blocks)) octets)
    (λ _. BreaksWithin k out u (text_octets h.image.word h.limit h.fill (bare_bits book before h blocks))) →
    MatchResult r (λ octets. GivesText k out v (bare_text book before h blocks) octets) (λ _. BreaksWithin k out v (bare_text book before h blocks))
unfolding bare_text
if_known k out (Ok n) book before h blocks u v e m =
    subst (λ x. GivesText k out x (text_octets h.image.word h.limit h.fill (bare_bits book before h blocks)) n) e m
if_known k out (Err x) book before h blocks u v e m = subst (λ y. BreaksWithin k out y
    (text_octets h.image.word h.limit h.fill (bare_bits book before h blocks))) e m

-- of the head before, the text depends on the parts that are carried
pub text_carried : (book : Book) (a b : Option SegmentHead) (h : SegmentHead) (blocks : List (List ℤ)) → carried_after a h ≡ carried_after b h →
    bare_text book a h blocks ≡ bare_text book b h blocks
unfolding bare_text
text_carried book a b h blocks e =
    let items = text (segment_items h blocks (block_depths blocks) (chosen_options book h blocks)) in
    ap (λ c. text_octets h.image.word h.limit h.fill (bare_head_bits c h ++ items)) e
