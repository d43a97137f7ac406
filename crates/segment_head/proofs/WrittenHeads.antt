-- A head is read as it was written.
use Rattle.std.proofs.Common.{◌≡◌, ℕ, ◌+◌, ◌*◌, ◌%◌, ◌<◌, ◌≤◌, List, [], ◌∷◌, ◌++◌, length, take, drop, map, Bool, true, false, refl, sym, ap, subst, ◌∙◌}
use Rattle.std.proofs.Common.{arith, append_assoc, length-append, append-nil, ◌==◌, if◌then◌else◌, None, Ok, bytes_eq}
use Rattle.std.proofs.lemmas.Bool.Decides.{nat_tests}
use Rattle.std.proofs.lemmas.List.Concat.{flat_map-append}
use Rattle.item_defs.specs.Bits.{octets_of, bits_of_octets, value_of}
use Rattle.base_122.specs.Weights.{usual_shifts}
use Rattle.base_122.specs.declared.setting.Stop.{Stop}
use Rattle.segment_defs.specs.declared.head.SegmentHead.{SegmentHead}
use Rattle.segment_defs.specs.declared.head.ImagePart.{ImagePart}
use Rattle.segment_defs.specs.Head.{Field, field, flag, reserved, field_bits, part_1a, part_1b, part_2, part_3, part_4, word_pattern, head_bits}
use Rattle.segment_defs.specs.Head.{head_length, IsHead}
use Rattle.segment_defs.specs.Fields.{number_in, is_set}
use Rattle.segment_defs.specs.Reading as reading
use Rattle.segment_defs.specs.Reading.{part_1_length, head_of, head_in, head_read, image_in, stop_in, refused_where, first_refusal, is_bad_limit}
use Rattle.segment_defs.specs.Reading.{presence_tests, support_tests, depth_tests, value_tests}
use Rattle.segment_defs.proofs.WrittenFields.{bits_in, width_of, length-bits_in, number_in-octets_of, number_in-prefix, parts_split, parts_length}
use Rattle.segment_defs.proofs.WrittenFields.{after_first, second_part, third_part, fourth_part}
use Rattle.segment_head.proofs.WrittenParts.{Has, SaysFirst, SaysSecond, SaysThird, SaysFourth, says_first, says_second, says_third, says_fourth}
use Rattle.segment_head.specs.Writing.{first_parts}
use Rattle.segment_head.proofs.PuttingFields.{first_bits, head_bits_parts}
use Rattle.segment_defs.proofs.HeadTests.{passed_all}
use Rattle.segment_defs.proofs.LaterTests.{none_absent, all_supported, depth_passes, value_passes}
use Rattle.segment_defs.proofs.Equations.{head_bits-is}

-- ---- bits of whole parts

width_of-append : (fs gs : List Field) → width_of (fs ++ gs) ≡ width_of fs + width_of gs
width_of-append [] gs = omega arith
width_of-append (f ∷ fs) gs = let rest = width_of-append fs gs in omega (arith, rest)

width_of-pairs : (xs : List ℕ) → width_of (map (field 2) xs) ≡ 2 * length xs
width_of-pairs [] = refl
width_of-pairs (x ∷ xs) = let rest = width_of-pairs xs in omega (arith, rest)

-- the weights with their flag take 21 bits
weights_width : (usual : Bool) (shifts : List ℕ) → length shifts ≡ 10 →
    width_of (if usual then flag false ∷ reserved 20 ∷ [] else flag true ∷ map (field 2) shifts) ≡ 21
weights_width true shifts ten = refl
weights_width false shifts ten = omega (arith, width_of-pairs shifts)

pub length_1 : (h : SegmentHead) (last : Bool) → h.last ≡ last → length (bits_in (part_1a h ++ part_1b h)) ≡ 8 * (if last then 4 else 3)
length_1 h true e = length-bits_in (part_1a h ++ part_1b h) ∙ subst (λ b. width_of (part_1a h ++ (if b then field 3 h.pad_rows ∷ reserved 5 ∷ [] else [])) ≡
    32) (sym e) refl
length_1 h false e = length-bits_in (part_1a h ++ part_1b h)
    ∙ subst (λ b. width_of (part_1a h ++ (if b then field 3 h.pad_rows ∷ reserved 5 ∷ [] else [])) ≡ 24) (sym e) refl

pub length_4 : (image : ImagePart) → length image.weights.shifts ≡ 10 → length (bits_in (part_4 image)) ≡ 8 * 8
length_4 image ten =
    let weights = weights_width (bytes_eq image.weights.shifts usual_shifts) image.weights.shifts ten in
    let split = width_of-append (if bytes_eq image.weights.shifts usual_shifts then flag false ∷ reserved 20 ∷ [] else flag true ∷ map (field 2)
    image.weights.shifts) (reserved 11 ∷ []) in
    length-bits_in (part_4 image) ∙ omega (arith, weights, split)

-- the head's bits, part by part, and those after it
pub split_bits : (h : SegmentHead) (more : List Bool) → head_bits h ++ more ≡ bits_in (part_1a h ++ part_1b h)
    ++ (bits_in (part_2 h) ++ (bits_in (part_3 h) ++ (bits_in (part_4 h.image) ++ more)))
split_bits h more =
    simp (head_bits-is, head_bits-is) (
    let one = part_1a h ++ part_1b h in
    let b1 = bits_in one in
    let b2 = bits_in (part_2 h) in
    let b3 = bits_in (part_3 h) in
    let b4 = bits_in (part_4 h.image) in
    let parts : bits_in (one ++ part_2 h ++ part_3 h ++ part_4 h.image) ≡ b1 ++ b2 ++ b3 ++ b4 =
    flat_map-append field_bits (one ++ part_2 h ++ part_3 h) (part_4 h.image)
    ∙ ap (λ r. r ++ b4) (flat_map-append field_bits (one ++ part_2 h) (part_3 h) ∙ ap (λ r. r ++ b3) (flat_map-append field_bits one (part_2 h)))
    in
    ap (λ r. r ++ more) parts ∙ append_assoc (b1 ++ b2 ++ b3) b4 more ∙ append_assoc (b1 ++ b2) b3 (b4 ++ more) ∙ append_assoc b1 b2 (b3 ++ (b4 ++ more)))

-- ---- what the octets of a head say, and the tests that they pass

pub record SaysHead (h : SegmentHead) (o : List ℕ) : Type 0 where
  pub long : part_1_length o + 16 ≤ length o
  pub one : SaysFirst h o
  pub two : SaysSecond h (reading.part_2 o)
  pub three : SaysThird h (reading.part_3 o)
  pub four : SaysFourth h.image (reading.part_4 o)

pub has_whole : (n : ℕ) (fs : List Field) → length (bits_in fs) ≡ 8 * n → Has (octets_of (bits_in fs)) fs []
has_whole n fs e = record {
  number = λ start width. number_in-octets_of n (bits_in fs) start width e ∙ ap (λ r. value_of (take width (drop start r)))
      (sym (append-nil (bits_in fs)));
}

pub has_prefix : (n : ℕ) (fs : List Field) (after : List ℕ) → length (bits_in fs) ≡ 8 * n → Has (octets_of (bits_in fs) ++ after) fs (bits_of_octets after)
has_prefix n fs after e = record { number = λ start width. number_in-prefix n (bits_in fs) after start width e }

pub says_head : (h : SegmentHead) (more : List Bool) → IsHead h → h.count < 256 → length h.image.weights.shifts ≡ 10 →
    SaysHead h (octets_of (head_bits h ++ more))
says_head h more ok small ten =
    let n = if h.last then 4 else 3 in
    let b1 = bits_in (part_1a h ++ part_1b h) in
    let b2 = bits_in (part_2 h) in
    let b3 = bits_in (part_3 h) in
    let b4 = bits_in (part_4 h.image) in
    let e1 : length b1 ≡ 8 * n = length_1 h h.last refl in
    let e2 : length b2 ≡ 8 * 5 = length-bits_in (part_2 h) in
    let e3 : length b3 ≡ 8 * 3 = length-bits_in (part_3 h) in
    let e4 : length b4 ≡ 8 * 8 = length_4 h.image ten in
    let after = octets_of b2 ++ (octets_of b3 ++ (octets_of b4 ++ octets_of more)) in
    let o = octets_of b1 ++ after in
    let same : octets_of (head_bits h ++ more) ≡ o = ap octets_of (split_bits h more) ∙ parts_split b1 b2 b3 b4 more n e1 e2 e3 e4 in
    let first : SaysFirst h o = says_first h o (bits_of_octets after) ok small (has_prefix n (part_1a h ++ part_1b h) after e1) in
    let count : part_1_length o ≡ n = ap (λ b. if b then 4 else 3) first.last in
    let rest : drop (part_1_length o) o ≡ after = ap (λ k. drop k o) count ∙ after_first b1 b2 b3 b4 more n e1 e2 e3 e4 in
    let two : reading.part_2 o ≡ octets_of b2 = ap (take 5) rest ∙ second_part b1 b2 b3 b4 more n e1 e2 e3 e4 in
    let three : reading.part_3 o ≡ octets_of b3 = ap (λ r. take 3 (drop 5 r)) rest ∙ third_part b1 b2 b3 b4 more n e1 e2 e3 e4 in
    let four : reading.part_4 o ≡ octets_of b4 = ap (λ r. take 8 (drop 8 r)) rest ∙ fourth_part b1 b2 b3 b4 more n e1 e2 e3 e4 in
    subst (SaysHead h) (sym same) (record {
      long = subst (λ k. k + 16 ≤ length o) (sym count) (parts_length b1 b2 b3 b4 more n e1 e2 e3 e4);
      one = first;
      two = subst (SaysSecond h) (sym two) (says_second h (octets_of b2) [] ok (has_whole 5 (part_2 h) e2));
      three = subst (SaysThird h) (sym three) (says_third h (octets_of b3) [] ok (has_whole 3 (part_3 h) e3));
      four = subst (SaysFourth h.image) (sym four) (says_fourth h.image (octets_of b4) [] ok.image ten (has_whole 8 (part_4 h.image) e4));
    })

-- ---- the tests that a head passes

even_pattern : (n word : ℕ) → n ≡ word_pattern word → (n % 2 == 1) ≡ false
even_pattern n word e = let z : n % 2 ≡ 0 = omega (arith, e) in rw z refl

support_passes : (h : SegmentHead) (third fourth : List ℕ) → IsHead h → SaysThird h third → SaysFourth h.image fourth →
    first_refusal (support_tests third fourth) ≡ None
support_passes h third fourth ok says_3 says_4 =
    let word : (number_in fourth 29 3 % 2 == 1) ≡ false = even_pattern (number_in fourth 29 3) h.image.word says_4.pattern in
    let width : (number_in fourth 8 20 == 0) ≡ false = grind (arith, nat_tests, says_4.width, ok.image.width) in
    let blocks : (number_in third 0 20 == 0) ≡ false = grind (arith, nat_tests, says_3.blocks, ok.blocks) in
    all_supported third fourth says_4.integer says_4.extended says_4.transpose word width blocks

-- ---- the head that is read

same_head : (first last : Bool) (count depth_dc depth_ac pad_rows limit : ℕ) (stop : Stop) (fill : Bool) (blocks : ℕ) (best_dc best_ac : Bool)
    (image : ImagePart) (h : SegmentHead) →
    first ≡ h.first → last ≡ h.last → count ≡ h.count → depth_dc ≡ h.depth_dc → depth_ac ≡ h.depth_ac → pad_rows ≡ h.pad_rows → limit ≡ h.limit →
    stop ≡ h.stop → fill ≡ h.fill → blocks ≡ h.blocks → best_dc ≡ h.best_dc → best_ac ≡ h.best_ac → image ≡ h.image →
    record {
      first = first;
      last = last;
      count = count;
      depth_dc = depth_dc;
      depth_ac = depth_ac;
      pad_rows = pad_rows;
      limit = limit;
      stop = stop;
      fill = fill;
      blocks = blocks;
      best_dc = best_dc;
      best_ac = best_ac;
      image = image;
    } ≡ h
same_head first last count depth_dc depth_ac pad_rows limit stop fill blocks best_dc best_ac image h a b c d e f g i j k l m n =
    rw (a, b, c, d, e, f, g, i, j, k, l, m, n) refl

head_said : (h : SegmentHead) (o : List ℕ) → SaysHead h o → head_in o ≡ h
head_said h o says =
    same_head (is_set o 0) (is_set o 1) (number_in o 2 8) (number_in o 10 5) (number_in o 15 5) (if is_set o 1 then number_in o 24 3 else 0)
    (number_in (reading.part_2 o) 0 27) (stop_in (reading.part_2 o)) (is_set (reading.part_2 o) 35)
    (number_in (reading.part_3 o) 0 20) (is_set (reading.part_3 o) 20) (is_set (reading.part_3 o) 21) (image_in (reading.part_4 o)) h
    says.one.first says.one.last says.one.count says.one.depth_dc says.one.depth_ac says.one.pad_rows says.two.limit says.two.stop says.two.fill
    says.three.blocks says.three.best_dc says.three.best_ac says.four.says

read_again : (h : SegmentHead) (o : List ℕ) → IsHead h → SaysHead h o → head_read o ≡ Ok h
read_again h o ok says =
    let same = head_said h o says in
    let depths = rw (← same) at (depth_passes h ok) in
    let values = rw (← same) at (value_passes h ok) in
    sym (passed_all o (none_absent o says.long says.one.has_2 says.one.has_3 says.one.has_4)
    (support_passes h (reading.part_3 o) (reading.part_4 o) ok says.three says.four) depths values) ∙ ap Ok same

pub head_undoes : (h : SegmentHead) (more : List Bool) → IsHead h → h.count < 256 → length h.image.weights.shifts ≡ 10 →
    head_read (octets_of (head_bits h ++ more)) ≡ Ok h
head_undoes h more ok small ten = read_again h (octets_of (head_bits h ++ more)) ok (says_head h more ok small ten)

-- a head has 19 or 20 octets, 8 of them those of Part 4
pub octets_of_last : (last : Bool) → (if last then 4 else 3) + 16 ≡ (if last then 20 else 19)
octets_of_last true = refl
octets_of_last false = refl

pub length-first_parts : (h : SegmentHead) → length (bits_in (first_parts h)) + 64 ≡ 8 * head_length h
length-first_parts h =
    let one = part_1a h ++ part_1b h in
    let all = ap length (first_bits h) in
    omega (
      arith,
      all,
      octets_of_last h.last,
      length_1 h h.last refl,
      length-bits_in (part_2 h),
      length-bits_in (part_3 h),
      length-append (bits_in one) (bits_in (part_2 h) ++ bits_in (part_3 h)),
      length-append (bits_in (part_2 h)) (bits_in (part_3 h)),
    )

pub length-head_bits : (h : SegmentHead) → length h.image.weights.shifts ≡ 10 → length (head_bits h) ≡ 8 * head_length h
length-head_bits h ten = omega (
  arith,
  ap length (head_bits_parts h),
  length-append (bits_in (first_parts h)) (bits_in (part_4 h.image)),
  length-first_parts h,
  length_4 h.image ten,
)
