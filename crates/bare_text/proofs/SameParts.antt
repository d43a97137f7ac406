-- Two parts are the same exactly if their values are.
use Rattle.std.proofs.Common.{◌≡◌, [], length, Bool, Decides, bytes_eq, refl, sym, ap, ◌∙◌}
use Rattle.std.proofs.lemmas.Bool.Decides.{Decides-like, same_from_decides as one_answer}
use Rattle.std.proofs.lemmas.Slice.Eq.{bytes_eq-Decides}
use Rattle.base_122.specs.declared.setting.Stop.{Stop}
use Rattle.segment_defs.specs.declared.head.SegmentHead.{SegmentHead}
use Rattle.segment_defs.specs.declared.head.ImagePart.{ImagePart}
use Rattle.segment_defs.specs.Fields.{number_in, is_set}
use Rattle.segment_defs.specs.Head.{part_2, part_3, part_4, IsHead, IsImagePart}
use Rattle.segment_defs.specs.Reading.{stop_in, image_in}
use Rattle.segment_defs.proofs.WrittenFields.{length-bits_in}
use Rattle.segment_head.proofs.WrittenParts.{says_second, says_third, says_fourth}
use Rattle.segment_head.proofs.WrittenHeads.{has_whole, length_4}
use Rattle.bare_text.specs.Writing.{part_octets}

stop_is : (s t : Stop) → (s.dc ≡ t.dc) × ((s.plane ≡ t.plane) × (s.stage ≡ t.stage)) → s ≡ t
stop_is s t e = rw (e.0, e.1.0, e.1.1) refl

pub stops_decide : (r : Bool) (s t : Stop) → Decides r ((s.dc ≡ t.dc) × ((s.plane ≡ t.plane) × (s.stage ≡ t.stage))) → Decides r (s ≡ t)
stops_decide r s t d = Decides-like r (stop_is s t) (λ (e : s ≡ t). (ap (λ k. k.dc) e, (ap (λ k. k.plane) e, ap (λ k. k.stage) e))) d

-- ---- Part 2

module _ (a b : SegmentHead) (fits_a : IsHead a) (fits_b : IsHead b) where
  abbrev SameSecond : Type 0
  SameSecond = ((a.limit ≡ b.limit) × (a.stop ≡ b.stop)) × (a.fill ≡ b.fill)

  second_octets : SameSecond → part_octets (part_2 a) ≡ part_octets (part_2 b)
  second_octets e = rw (e.0.0, e.0.1, e.1) refl

  second_values : part_octets (part_2 a) ≡ part_octets (part_2 b) → SameSecond
  second_values e =
      let x = says_second a (part_octets (part_2 a)) [] fits_a (has_whole 5 (part_2 a) (length-bits_in (part_2 a))) in
      let y = says_second b (part_octets (part_2 b)) [] fits_b (has_whole 5 (part_2 b) (length-bits_in (part_2 b))) in
      ((sym x.limit ∙ ap (λ o. number_in o 0 27) e ∙ y.limit, sym x.stop ∙ ap stop_in e ∙ y.stop), sym x.fill ∙ ap (λ o. is_set o 35) e ∙ y.fill)

  pub same_second : (r : Bool) → Decides r SameSecond → r ≡ bytes_eq (part_octets (part_2 a)) (part_octets (part_2 b))
  same_second r d = one_answer r _ (Decides-like r second_octets second_values d) (bytes_eq-Decides (part_octets (part_2 a)) (part_octets (part_2 b)))

  -- ---- Part 3

  abbrev SameThird : Type 0
  SameThird = ((a.blocks ≡ b.blocks) × (a.best_dc ≡ b.best_dc)) × (a.best_ac ≡ b.best_ac)

  third_octets : SameThird → part_octets (part_3 a) ≡ part_octets (part_3 b)
  third_octets e = rw (e.0.0, e.0.1, e.1) refl

  third_values : part_octets (part_3 a) ≡ part_octets (part_3 b) → SameThird
  third_values e =
      let x = says_third a (part_octets (part_3 a)) [] fits_a (has_whole 3 (part_3 a) (length-bits_in (part_3 a))) in
      let y = says_third b (part_octets (part_3 b)) [] fits_b (has_whole 3 (part_3 b) (length-bits_in (part_3 b))) in (
        (sym x.blocks ∙ ap (λ o. number_in o 0 20) e ∙ y.blocks, sym x.best_dc ∙ ap (λ o. is_set o 20) e ∙ y.best_dc),
        sym x.best_ac ∙ ap (λ o. is_set o 21)
            e ∙ y.best_ac,
      )

  pub same_third : (r : Bool) → Decides r SameThird → r ≡ bytes_eq (part_octets (part_3 a)) (part_octets (part_3 b))
  same_third r d = one_answer r _ (Decides-like r third_octets third_values d) (bytes_eq-Decides (part_octets (part_3 a)) (part_octets (part_3 b)))

-- ---- Part 4

module _ (a b : ImagePart) (fits_a : IsImagePart a) (fits_b : IsImagePart b) (ten_a : length a.weights.shifts ≡ 10) (ten_b : length b.weights.shifts ≡ 10) where
  abbrev SameFourth : Type 0
  SameFourth = ((((a.signed ≡ b.signed) × (a.depth ≡ b.depth)) × (a.width ≡ b.width)) × (a.word ≡ b.word)) × (a.weights.shifts ≡ b.weights.shifts)

  fourth_octets : SameFourth → part_octets (part_4 a) ≡ part_octets (part_4 b)
  fourth_octets e = ap (λ i. part_octets (part_4 i)) (image_is e)
    where
      image_is : SameFourth → a ≡ b
      image_is e = rw (e.0.0.0.0, e.0.0.0.1, e.0.0.1, e.0.1, e.1) refl

  fourth_values : part_octets (part_4 a) ≡ part_octets (part_4 b) → SameFourth
  fourth_values e =
      let x = says_fourth a (part_octets (part_4 a)) [] fits_a ten_a (has_whole 8 (part_4 a) (length_4 a ten_a)) in
      let y = says_fourth b (part_octets (part_4 b)) [] fits_b ten_b (has_whole 8 (part_4 b) (length_4 b ten_b)) in
      let same : a ≡ b = sym x.says ∙ ap image_in e ∙ y.says in
      ((((ap (λ i. i.signed) same, ap (λ i. i.depth) same), ap (λ i. i.width) same), ap (λ i. i.word) same), ap (λ i. i.weights.shifts) same)

  pub same_fourth : (r : Bool) → Decides r SameFourth → r ≡ bytes_eq (part_octets (part_4 a)) (part_octets (part_4 b))
  same_fourth r d = one_answer r _ (Decides-like r fourth_octets fourth_values d) (bytes_eq-Decides (part_octets (part_4 a)) (part_octets (part_4 b)))
