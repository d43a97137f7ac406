-- How many octets a coded segment without a limit has at most.
use Rattle.std.proofs.Common.{◌≡◌, ℕ, ◌+◌, ◌*◌, ◌≤◌, Bool, true, false, cond, List, ◌++◌, length, ℤ, ap, ◌∙◌, arith, length-append, length-take}
use Rattle.std.proofs.Common.{if◌then◌else◌, mul-le-mul_right}
use Rattle.std.proofs.lemmas.Bool.Decides.{nat_tests}
use Rattle.std.proofs.lemmas.List.{length-map}
use Rattle.item_defs.specs.Bits.{copies, octets_of}
use Rattle.item_defs.specs.Items.{text}
use Rattle.item_defs.specs.Padding.{padded, padding}
use Rattle.item_defs.proofs.BitLists.{length-copies}
use Rattle.item_defs.proofs.OctetBits.{length-octets_of}
use Rattle.item_defs.proofs.Rounding.{rounded_bounds}
use Rattle.item_defs.proofs.Texts.{text-append}
use Rattle.base_122.specs.declared.book.Book.{Book}
use Rattle.number_defs.specs.Depths.{depth_bits, depth_items}
use Rattle.number_defs.specs.Gaggles.{gaggle_count}
use Rattle.number_defs.specs.Laws.{AreFew, DcsFit}
use Rattle.plane_defs.specs.Spans.{span}
use Rattle.plane_defs.proofs.ReadingTexts.{plane_text}
use Rattle.segment_defs.specs.declared.head.SegmentHead.{SegmentHead}
use Rattle.segment_defs.specs.Depths.{block_depth, block_depths, dc_of, dcs_of}
use Rattle.segment_defs.specs.Head.{IsHead}
use Rattle.segment_defs.specs.SegmentItems.{Options, dc_shift, plane_at, stages_sent, dc_part_items, nth_plane, nth_plane_items, planes_items}
use Rattle.segment_defs.specs.SegmentItems.{items_after_dc, segment_items}
use Rattle.segment_defs.specs.Text.{cut}
use Rattle.segment_defs.specs.Coded.{chosen_options, coded, coded_bits}
use Rattle.segment_defs.proofs.Equations.{coded-is, segment_items-is, text_octets-is}
use Rattle.segment_head.proofs.WrittenHeads.{length-head_bits}
use Rattle.segment_defs.specs.Spellable.{AreWordOptions}
use Rattle.base_122.proofs.ShiftLaws.{shift_low}
use Rattle.segment_defs.proofs.SentStages.{sent_most}
use Rattle.encoder_rows.proofs.NumberRoom.{dcs_few, depths_few}
use Rattle.encoder_rows.proofs.BlockRoom.{plane_few, text_each, length_span}

head_short : (last : Bool) → (if last then 20 else 19) ≤ 20
head_short last = grind (arith, nat_tests)

cut_few : (limit : ℕ) (octets : List ℕ) → length (cut limit octets) ≤ length octets
cut_few limit octets = grind (arith, nat_tests, length-take)

none_filled : (fill : Bool) (limit : ℕ) → limit ≡ 0 → (if fill then 8 * limit else 0) ≡ 0
none_filled true limit none = omega (arith, none)
none_filled false limit none = omega arith

module _ (book : Book) (h : SegmentHead) (blocks : List (List ℤ)) (ok : IsHead h) (ten : length h.image.weights.shifts ≡ 10) (all : length blocks ≡ h.blocks)
    (fit : DcsFit h.depth_dc h.depth_ac (dc_shift h) (dcs_of blocks)) (few : AreFew (depth_bits h.depth_ac) (block_depths blocks))
    (words : AreWordOptions (chosen_options book h blocks)) where
  abbrev o : Options
  o = chosen_options book h blocks

  abbrev depths : List ℕ
  depths = block_depths blocks

  abbrev g : ℕ
  g = gaggle_count h.blocks

  depths_all : length depths ≡ h.blocks
  depths_all = length-map blocks block_depth ∙ all

  planes_each : (n : ℕ) → length (text (nth_plane_items h blocks depths o n)) ≤ g * 5408
  planes_each n =
      let b = nth_plane h n in
      let p = plane_at h blocks depths b in
      let bits = plane_few o.book words.sound (o.words b) (λ g. record { at = words.at b g }) p (stages_sent h b) (sent_most h b ok.stage) in
      let same = ap length (plane_text o.book (o.words b) p (stages_sent h b)) in
      omega (arith, rw depths_all at bits, same)

  planes_short : length (text (planes_items h blocks depths o h.depth_ac)) ≤ 27 * (g * 5408)
  planes_short =
      let sum = text_each (nth_plane_items h blocks depths o) (g * 5408) (span 0 h.depth_ac) planes_each in
      let count = length_span 0 h.depth_ac in
      let most : length (span 0 h.depth_ac) * (g * 5408) ≤ 27 * (g * 5408) = mul-le-mul_right (g * 5408) (omega (arith, count, ok.depth_ac)) in
      omega (arith, sum, most)

  dcs_short : length (text (dc_part_items h blocks o)) ≤ g * 622
  dcs_short =
      let shift : dc_shift h ≤ 3 = shift_low h.image.weights.shifts 9 ok.image.weights in
      let bits = dcs_few h.best_dc h.depth_dc h.depth_ac (dc_shift h) (dcs_of blocks) ok.depth_dc.1 shift fit in
      let count : length (dcs_of blocks) ≡ h.blocks = length-map blocks dc_of ∙ all in
      rw count at bits

  depths_short : length (text (depth_items h.depth_ac depths o.depths)) ≤ g * 105
  depths_short = let bits = depths_few h.best_ac h.depth_ac depths ok.depth_ac few in let same = ap gaggle_count depths_all in rw same at bits

  items_short : length (text (segment_items h blocks depths o)) ≤ g * 146743
  items_short = rw segment_items-is (by h.stop.dc)
    where
      rest : length (text (items_after_dc h blocks depths o)) ≤ g * 105 + 27 * (g * 5408)
      rest = grind (arith, nat_tests, depths_short, planes_short, text-append, length-append)

      by : (b : Bool) → length (text (cond b (dc_part_items h blocks o) (dc_part_items h blocks o ++ items_after_dc h blocks depths o))) ≤ g * 146743
      by true = omega (arith, dcs_short)
      by false = omega (
        arith,
        dcs_short,
        rest,
        ap length (text-append (dc_part_items h blocks o) (items_after_dc h blocks depths o)),
        length-append (text (dc_part_items h blocks o)) (text (items_after_dc h blocks depths o)),
      )

  bits_short : length (coded_bits book h blocks) ≤ 160 + g * 146743
  bits_short = grind (arith, nat_tests, items_short, length-append, length-head_bits, head_short)

  pub text_few : h.limit ≡ 0 → length (coded book h blocks) ≤ 24 + 18343 * g
  text_few none =
      let bits = coded_bits book h blocks in
      let word = ok.image.word in
      let bounds = rounded_bounds (8 * h.image.word) (length bits) (omega (arith, word)) in
      let n = padding h.image.word h.limit h.fill (length bits) in
      let zeros = copies n false in
      let all_bits = padded h.image.word h.limit h.fill bits in
      let long : length all_bits ≡ length bits + length zeros = length-append bits zeros in
      let filled = none_filled h.fill h.limit none in
      let octets = cut_few h.limit (octets_of all_bits) in
      rw (coded-is, text_octets-is) (omega (arith, octets, bounds, word, long, filled, bits_short, length-copies n false, length-octets_of all_bits))
