-- The packets of some segments of an image fit the room that is computed for them.
use Rattle.std.proofs.Common.{◌≡◌, ◌≢◌, ◌≤◌, ◌<◌, ◌+◌, ◌-◌, ◌*◌, ◌/◌, ◌==◌, ◌∙◌, ℕ, ℤ, Bool, true, false, if◌then◌else◌, List, length, drop, min, refl, sym}
use Rattle.std.proofs.Common.{ap, subst, arith, inl, inr, length-append, length-take, mul-le-mul_right}
use Rattle.std.proofs.Math.Nat.{div-mul-le_self, div-le_self}
use Rattle.std.proofs.lemmas.Bool.{cases_lt}
use Rattle.std.proofs.lemmas.Bool.Decides.{nat_tests}
use Rattle.port_122.specs.Outside.{Outside}
use Rattle.base_122.specs.Ranges.{IsInRange, limit_range}
use Rattle.base_122.specs.Setting.{IsHeight, sized}
use Rattle.base_122.specs.declared.setting.Setting.{Setting}
use Rattle.base_122.proofs.GeometryRanges.{in_range-sized}
use Rattle.packet_defs.specs.Packets.{joined}
use Rattle.segment_code.proofs.CodedChoices.{words_are}
use Rattle.strip_decoder.specs.Images.{ArePixels}
use Rattle.strip_decoder.proofs.SpelledImages.{head_fits, spells}
use Rattle.stream_defs.specs.Output.{head_for, image_blocks, output, packets_of, segment_of, segment_text, segments_of, reports_last, used_before}
use Rattle.stream_defs.proofs.Outputs.{packets_of-none}
use Rattle.stream_defs.proofs.SettledLaws.{rows_rise}
use Rattle.stream_defs.proofs.ShareLaws.{coded_within, left_after, share_none, share_some, text_within}
use Rattle.strip_coder.specs.Plans.{plan_of}
use Rattle.strip_coder.specs.Steps.{Continues, StopsEarly}
use Rattle.encoder_rows.specs.Room.{text_room, segment_room, packet_octets, whole_octets}
use Rattle.encoder_rows.specs.Rows.{IsUsable}
use Rattle.encoder_rows.proofs.PacketSizes.{length-packets_of, packets_of-rises}
use Rattle.encoder_rows.proofs.TextRoom.{text_few}

pub segment_room-is : (s : Setting) → segment_room s ≡ packet_octets s.packet (text_room s)
unfolding segment_room
segment_room-is s = refl

-- ---- the text of one segment

total_few : (total used n word : ℕ) → min ((total - used) / n) limit_range.most / word * word ≤ min total limit_range.most
total_few total used n word = omega (arith, div-mul-le_self (min ((total - used) / n) limit_range.most) word, div-le_self (total - used) n)

module _ (s : Setting) (usable : IsUsable s) (rows : ℕ) (height : IsHeight s rows) (x : ℕ → ℕ → ℤ) (pixels : ArePixels s rows x) where
  abbrev whole : Setting
  whole = sized s rows

  abbrev all : List (List ℤ)
  all = image_blocks whole x

  in_range : IsInRange whole
  in_range = in_range-sized s rows usable.in_range height

  whole_pixels : ArePixels whole rows x
  whole_pixels = record { at = pixels.at }

  limited : (index : ℕ) → s.limit ≢ 0 → length (segment_text whole all index) ≤ s.limit
  limited index some =
      let total : s.total ≡ 0 = elim usable.in_range.total [ inl none ↦ none | inr has ↦ absurd (some has.limit) ] in
      let h = head_for whole all index in
      let same : h.limit ≡ s.limit = share_none whole index (used_before whole all index) total in
      let within = coded_within s.book h (segment_of whole all index) (λ none. some (sym same ∙ none)) in
      omega (arith, within, same)

  shared : (index : ℕ) → index < segments_of whole → s.total ≢ 0 → length (segment_text whole all index) ≤ min s.total limit_range.most
  shared index inside some =
      let used = used_before whole all index in
      let left = left_after whole in_range some all index (omega (arith, inside)) in
      let within = text_within whole in_range some all index used inside left in
      let is = share_some whole index used some in
      omega (arith, within, is, total_few s.total used (segments_of whole - index) s.word)

  unlimited : (index : ℕ) → index < segments_of whole → s.limit ≡ 0 → s.total ≡ 0 → length (segment_text whole all index) ≤ whole_octets s.segment
  unlimited index inside none no_total =
      let segment = segment_of whole all index in
      let h = head_for whole all index in
      let ok = head_fits whole x in_range height.0 whole_pixels index inside in
      let spelled = spells whole x in_range height.0 whole_pixels index inside in
      let same : h.limit ≡ 0 = share_none whole index (used_before whole all index) no_total ∙ none in
      let few = text_few s.book h segment ok usable.weights refl spelled.dcs_fit spelled.depths_few (words_are s.book usable.sound h segment) same in
      let count : length segment ≤ s.segment = omega (arith, length-take s.segment (drop (index * s.segment) all)) in
      let gaggles : (length segment + 15) / 16 ≤ (s.segment + 15) / 16 =
      rows_rise (length segment + 15) (s.segment + 15) 16 (omega arith) (omega (arith, count)) in
      omega (arith, few, gaggles)

  pub text_fits : (index : ℕ) → index < segments_of whole → length (segment_text whole all index) ≤ text_room s
  text_fits index inside = by (s.limit == 0) (s.total == 0) refl refl
    where
      by : (none no_total : Bool) → (s.limit == 0) ≡ none → (s.total == 0) ≡ no_total →
          length (segment_text whole all index) ≤ (if none then (if no_total then whole_octets s.segment else min s.total limit_range.most) else s.limit)
      by true true e f = unlimited index inside (grind (arith, nat_tests)) (grind (arith, nat_tests))
      by true false e f = shared index inside (grind (arith, nat_tests))
      by false t e f = limited index (grind (arith, nat_tests))

  -- ---- the packets of some segments

  abbrev packets : ℕ → List ℕ
  packets n = joined (packets_of (reports_last s) whole all n)

  more_few : (from n : ℕ) → from + n ≤ segments_of whole → length (packets (from + n)) ≤ length (packets from) + n * segment_room s
  more_few from n le =
      let few = length-packets_of (reports_last s) whole (let p = usable.in_range.packet in omega (arith, p)) all (text_room s) from n
      (λ index low high. text_fits index (omega (arith, high, le))) in
      rw segment_room-is few

  up_to_few : (from to : ℕ) → to ≤ segments_of whole → length (packets to) ≤ length (packets from) + (to - from) * segment_room s
  up_to_few from to le = elim (cases_lt from to) [
    | inl lt ↦
        let e : from + (to - from) ≡ to = omega (arith, lt) in
        let few = more_few from (to - from) (omega (arith, lt, le)) in
        subst (λ k. length (packets k) ≤ length (packets from) + (to - from) * segment_room s) e few
    | inr ge ↦
        let e : to + (from - to) ≡ from = omega (arith, ge) in
        let rises = packets_of-rises (reports_last s) whole all to (from - to) in
        let same = ap (λ k. length (packets k)) e in
        omega (arith, rises, same)
  ]

  -- all packets
  pub all_few : length (output s rows x) ≤ segments_of whole * segment_room s
  all_few =
      let none = ap (λ ps. length (joined ps)) (packets_of-none (reports_last s) whole all) in
      let from_none : 0 + segments_of whole ≡ segments_of whole = omega arith in
      let few : length (packets (segments_of whole)) ≤ length (packets 0) + segments_of whole * segment_room s =
      subst (λ k. length (packets k) ≤ length (packets 0) + segments_of whole * segment_room s) from_none (more_few 0 (segments_of whole) (omega arith)) in
      let zero : length (packets 0) ≡ 0 = none in
      let most : length (packets (segments_of whole)) ≤ segments_of whole * segment_room s = omega (arith, zero, few) in
      most

  -- what was given up to a segment
  pub goes_few : {p q : Outside} (from to : ℕ) → to ≤ segments_of whole → (goes : Continues (plan_of s rows) all from to p q) →
      length goes.gave ≤ (to - from) * segment_room s
  goes_few from to le goes =
      let parts = sym (length-append (packets from) goes.gave) ∙ ap length goes.then_are in
      omega (arith, parts, up_to_few from to le)

  -- what was given when a write failed
  pub stops_few : {p q : Outside} (from to count : ℕ) → (broke : StopsEarly (plan_of s rows) all from count p q) → broke.index + 1 ≤ to →
      length broke.gave ≤ (to - from) * segment_room s
  stops_few from to count broke le =
      let inside = broke.inside in
      let parts = sym (length-append (packets from) broke.gave) ∙ ap length broke.prefix in
      let cut = length-take broke.some (packets (broke.index + 1)) in
      let few = up_to_few from (broke.index + 1) (omega (arith, inside)) in
      let rise : (broke.index + 1 - from) * segment_room s ≤ (to - from) * segment_room s = mul-le-mul_right (segment_room s) (omega (arith, le)) in
      omega (arith, parts, cut, few, rise)
