-- How many bits a text has at most, before it is padded.
use Rattle.std.proofs.Common.{◌≡◌, ℕ, ◌+◌, ◌*◌, ◌^◌, ◌<◌, ◌≤◌, Bool, List, ◌++◌, length, ℤ, arith, length-append, if◌then◌else◌}
use Rattle.std.proofs.lemmas.Bool.Decides.{nat_tests}
use Rattle.std.proofs.lemmas.List.{length-map}
use Rattle.item_defs.specs.Items.{text}
use Rattle.item_defs.proofs.Texts.{text-append}
use Rattle.number_defs.specs.Depths.{depth_bits, depth_items}
use Rattle.number_defs.specs.Laws.{AreFew, DcsFit}
use Rattle.plane_defs.specs.Spans.{span}
use Rattle.plane_defs.proofs.ReadingTexts.{plane_text}
use Rattle.segment_defs.specs.declared.head.SegmentHead.{SegmentHead}
use Rattle.segment_defs.specs.Depths.{dcs_of}
use Rattle.segment_defs.specs.Head.{IsHead, head_bits}
use Rattle.segment_defs.specs.SegmentItems.{Options, dc_shift, dc_part_items, nth_plane_items, planes_items, items_after_dc, segment_items}
use Rattle.segment_head.proofs.WrittenHeads.{length-head_bits}
use Rattle.segment_defs.specs.Spellable.{AreWordOptions, AreNumberOptions}
use Rattle.segment_defs.proofs.SentStages.{sent_most}
use Rattle.segment_code.specs.ShortTexts.{TextsAreShort}
use Rattle.segment_code.proofs.NumberBits.{dc_few, depths_few}
use Rattle.segment_code.proofs.EntryBits.{text_each, length_span}
use Rattle.segment_code.proofs.PlaneBits.{plane_few}

pub head_short : (last : Bool) → (if last then 20 else 19) ≤ 20
head_short last = grind (arith, nat_tests)

module _ (h : SegmentHead) (blocks : List (List ℤ)) (depths : List ℕ) (o : Options) (ok : IsHead h) (ten : length h.image.weights.shifts ≡ 10)
    (blocks_all : length blocks ≡ h.blocks)
    (depths_all : length depths ≡ h.blocks) (fit : DcsFit h.depth_dc h.depth_ac (dc_shift h) (dcs_of blocks)) (few : AreFew (depth_bits h.depth_ac) depths)
    (words : AreWordOptions o) (known : AreNumberOptions h o) where
  plane_short : (n : ℕ) → length (text (nth_plane_items h blocks depths o n)) ≤ 2 ^ 20 * 338
  plane_short n = grind (arith, nat_tests, plane_few, sent_most, plane_text)

  planes_short : (n : ℕ) → length (text (planes_items h blocks depths o n)) ≤ n * (2 ^ 20 * 338)
  planes_short n = let all = text_each (nth_plane_items h blocks depths o) (2 ^ 20 * 338) (span 0 n) plane_short in omega (arith, all, length_span 0 n)

  dcs_short : length (text (dc_part_items h blocks o)) ≤ 2 ^ 32
  dcs_short = grind (arith, nat_tests, length-map, dc_few)

  depths_short : length (text (depth_items h.depth_ac depths o.depths)) ≤ 2 ^ 31
  depths_short = depths_few h.depth_ac depths o.depths ok.depth_ac (omega (arith, depths_all, ok.blocks)) few
      (λ two g lt. known.depths two g (omega (arith, lt, depths_all)))

  rest_short : length (text (items_after_dc h blocks depths o)) ≤ 2 ^ 31 + 27 * (2 ^ 20 * 338)
  rest_short = grind (arith, nat_tests, depths_short, planes_short, text-append, length-append)

  items_short : length (text (segment_items h blocks depths o)) ≤ 2 ^ 32 + 2 ^ 31 + 27 * (2 ^ 20 * 338)
  unfolding segment_items
  items_short = grind (arith, nat_tests, dcs_short, rest_short, text-append, length-append)

  pub text_short : length (head_bits h ++ text (segment_items h blocks depths o)) < 2 ^ 34
  text_short = grind (arith, nat_tests, items_short, length-append, length-head_bits, head_short)

pub texts_are_short : TextsAreShort
texts_are_short h blocks depths o ok ten spellable words known =
    text_short h blocks depths o ok ten spellable.blocks_all spellable.depths_all spellable.dcs_fit spellable.depths_few words known
