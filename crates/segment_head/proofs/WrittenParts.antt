-- What each part of a head that was written says.
use Rattle.std.proofs.Common.{◌≡◌, ℕ, zero, suc, ◌+◌, ◌*◌, ◌%◌, ◌^◌, ◌<◌, ◌≤◌, List, [], ◌∷◌, ◌++◌, length, take, drop, map, get_or, Bool, true, false}
use Rattle.std.proofs.Common.{refl, sym, ap, subst, ◌∙◌, arith, inl, inr, length-append, ◌==◌, if◌then◌else◌, bytes_eq}
use Rattle.std.proofs.lemmas.List.{length-map}
use Rattle.std.proofs.lemmas.List.FromFn.{fill_by_all}
use Rattle.std.proofs.lemmas.Bool.Decides.{nat_tests}
use Rattle.std.proofs.lemmas.Slice.Eq.{bytes_eq-Decides}
use Rattle.item_defs.specs.Bits.{digit, value_of}
use Rattle.base_122.specs.Weights.{usual_shifts}
use Rattle.base_122.specs.declared.setting.Stop.{Stop}
use Rattle.segment_defs.specs.declared.head.SegmentHead.{SegmentHead}
use Rattle.segment_defs.specs.declared.head.ImagePart.{ImagePart}
use Rattle.segment_defs.specs.Head.{Field, field, flag, reserved, part_1a, part_1b, part_2, part_3, part_4, word_pattern, IsHead, IsImagePart}
use Rattle.segment_defs.specs.Fields.{number_in, is_set}
use Rattle.segment_defs.specs.Reading.{depth_of, word_of, custom_shifts, stop_in, image_in}
use Rattle.segment_defs.proofs.WrittenFields.{bits_in, start_of, field_at, value_at_place}

-- the octets begin with these fields
pub record Has (octets : List ℕ) (fields : List Field) (rest : List Bool) : Type 0 where
  pub number : (start width : ℕ) → number_in octets start width ≡ value_of (take width (drop start (bits_in fields ++ rest)))

pub number_at : {octets : List ℕ} {fields : List Field} {rest : List Bool} → Has octets fields rest → (i : ℕ) → i < length fields →
    number_in octets (start_of fields i) (field_at fields i).width ≡ (field_at fields i).value % 2 ^ (field_at fields i).width
number_at {octets} {fields} {rest} has i lt = has.number (start_of fields i) (field_at fields i).width ∙ value_at_place fields i rest lt

pub flag_of : (n : ℕ) (b : Bool) → n ≡ digit b % 2 → (n == 1) ≡ b
flag_of n true e = rw e refl
flag_of n false e = rw e refl

-- ---- Part 1

pub record SaysFirst (h : SegmentHead) (o : List ℕ) : Type 0 where
  pub first : is_set o 0 ≡ h.first
  pub last : is_set o 1 ≡ h.last
  pub count : number_in o 2 8 ≡ h.count
  pub depth_dc : number_in o 10 5 ≡ h.depth_dc
  pub depth_ac : number_in o 15 5 ≡ h.depth_ac
  pub has_2 : is_set o 21 ≡ true
  pub has_3 : is_set o 22 ≡ true
  pub has_4 : is_set o 23 ≡ true
  pub pad_rows : (if is_set o 1 then number_in o 24 3 else 0) ≡ h.pad_rows

pads : (h : SegmentHead) (o : List ℕ) (rest : List Bool) (last : Bool) → h.last ≡ last → h.pad_rows < 8 → (h.last ≡ false → h.pad_rows ≡ 0) →
    Has o (part_1a h ++ part_1b h) rest →
    (if last then number_in o 24 3 else 0) ≡ h.pad_rows
pads h o rest true e small none has =
    let with_pads : Has o (part_1a h ++ (field 3 h.pad_rows ∷ reserved 5 ∷ [])) rest =
    subst (λ b. Has o (part_1a h ++ (if b then field 3 h.pad_rows ∷ reserved 5 ∷ [] else [])) rest) e has
    in
    let n : number_in o 24 3 ≡ h.pad_rows % 8 = number_at with_pads 9 (omega arith) in
    n ∙ omega arith
pads h o rest false e small none has = sym (none e)

pub says_first : (h : SegmentHead) (o : List ℕ) (rest : List Bool) → IsHead h → h.count < 256 → Has o (part_1a h ++ part_1b h) rest → SaysFirst h o
says_first h o rest ok small has =
    let fs : List Field = part_1a h ++ part_1b h in
    let long : 9 ≤ length fs = omega arith in
    let n_last : number_in o 1 1 ≡ digit h.last % 2 = number_at has 1 (omega arith) in
    let n_count : number_in o 2 8 ≡ h.count % 256 = number_at has 2 (omega arith) in
    let n_dc : number_in o 10 5 ≡ h.depth_dc % 32 = number_at has 3 (omega arith) in
    let n_ac : number_in o 15 5 ≡ h.depth_ac % 32 = number_at has 4 (omega arith) in
    let last : is_set o 1 ≡ h.last = flag_of (number_in o 1 1) h.last n_last in
    record {
      first = flag_of (number_in o 0 1) h.first (number_at has 0 (omega arith));
      last = last;
      count = n_count ∙ omega arith;
      depth_dc = n_dc ∙ omega (arith, ok.depth_dc);
      depth_ac = n_ac ∙ omega (arith, ok.depth_ac);
      has_2 = flag_of (number_in o 21 1) true (number_at has 6 (omega arith));
      has_3 = flag_of (number_in o 22 1) true (number_at has 7 (omega arith));
      has_4 = flag_of (number_in o 23 1) true (number_at has 8 (omega arith));
      pad_rows = rw last (pads h o rest h.last refl ok.pad_rows ok.pads_last has);
    }

-- ---- Part 2

same_stop : (dc : Bool) (plane stage : ℕ) (stop : Stop) → dc ≡ stop.dc → plane ≡ stop.plane → stage ≡ stop.stage →
    record { dc = dc; plane = plane; stage = stage } ≡ stop
same_stop dc plane stage stop p q r = rw (p, q, r) refl

-- a stop at the DC numbers has plane 0 and stage 3
chosen : (dc : Bool) (n at_dc value : ℕ) → n ≡ value → (dc ≡ true → value ≡ at_dc) → (if dc then at_dc else n) ≡ value
chosen true n at_dc value e f = sym (f refl)
chosen false n at_dc value e f = e

stop_of : (o : List ℕ) (stop : Stop) → is_set o 27 ≡ stop.dc → number_in o 28 5 ≡ stop.plane → number_in o 33 2 ≡ stop.stage →
    (stop.dc ≡ true → (stop.plane ≡ 0) × (stop.stage ≡ 3)) → stop_in o ≡ stop
stop_of o stop dc plane stage at_dc =
    same_stop
    (is_set o 27)
    (if is_set o 27 then 0 else number_in o 28 5)
    (if is_set o 27 then 3 else number_in o 33 2)
    stop
    dc
    (chosen (is_set o 27) (number_in o 28 5) 0 stop.plane plane (λ e. (at_dc (sym dc ∙ e)).0))
    (chosen (is_set o 27) (number_in o 33 2) 3 stop.stage stage (λ e. (at_dc (sym dc ∙ e)).1))

pub record SaysSecond (h : SegmentHead) (o : List ℕ) : Type 0 where
  pub limit : number_in o 0 27 ≡ h.limit
  pub stop : stop_in o ≡ h.stop
  pub fill : is_set o 35 ≡ h.fill

pub says_second : (h : SegmentHead) (o : List ℕ) (rest : List Bool) → IsHead h → Has o (part_2 h) rest → SaysSecond h o
says_second h o rest ok has =
    let n_limit : number_in o 0 27 ≡ h.limit % 134217728 = number_at has 0 (omega arith) in
    let n_plane : number_in o 28 5 ≡ h.stop.plane % 32 = number_at has 2 (omega arith) in
    let n_stage : number_in o 33 2 ≡ h.stop.stage % 4 = number_at has 3 (omega arith) in
    let dc : is_set o 27 ≡ h.stop.dc = flag_of (number_in o 27 1) h.stop.dc (number_at has 1 (omega arith)) in
    let small : h.limit < 134217728 = elim ok.limit [ inl none ↦ omega arith | inr some ↦ omega (arith, some.1) ] in
    record {
      limit = n_limit ∙ omega arith;
      stop = stop_of o h.stop dc (n_plane ∙ omega (arith, ok.plane)) (n_stage ∙ omega (arith, ok.stage)) ok.stops_at_dc;
      fill = flag_of (number_in o 35 1) h.fill (number_at has 4 (omega arith));
    }

-- ---- Part 3

pub record SaysThird (h : SegmentHead) (o : List ℕ) : Type 0 where
  pub blocks : number_in o 0 20 ≡ h.blocks
  pub best_dc : is_set o 20 ≡ h.best_dc
  pub best_ac : is_set o 21 ≡ h.best_ac

pub says_third : (h : SegmentHead) (o : List ℕ) (rest : List Bool) → IsHead h → Has o (part_3 h) rest → SaysThird h o
says_third h o rest ok has =
    let n_blocks : number_in o 0 20 ≡ h.blocks % 1048576 = number_at has 0 (omega arith) in
    record {
      blocks = n_blocks ∙ omega (arith, ok.blocks);
      best_dc = flag_of (number_in o 20 1) h.best_dc (number_at has 1 (omega arith));
      best_ac = flag_of (number_in o 21 1) h.best_ac (number_at has 2 (omega arith));
    }

-- ---- Part 4

width_read : (depth : ℕ) → 1 ≤ depth → depth ≤ 16 → depth_of (depth % 16 % 16) ≡ depth
width_read depth low high = grind (arith, nat_tests)

word_read : (word : ℕ) → 1 ≤ word → word ≤ 4 → word_of (word_pattern word % 8) ≡ word
word_read word low high = omega arith

-- the fields of Part 4, whether the weights are the usual ones or not
abbrev fields_4 : Bool → ImagePart → List Field
fields_4 usual image =
    flag true ∷ reserved 1 ∷ flag false ∷ flag image.signed ∷ field 4 (image.depth % 16) ∷ field 20 image.width
    ∷ flag false ∷ field 3 (word_pattern image.word)
    ∷ (if usual then flag false ∷ reserved 20 ∷ [] else flag true ∷ map (field 2) image.weights.shifts) ++ reserved 11 ∷ []

start_of-pairs : (xs : List ℕ) (more : List Field) (k : ℕ) → k < length xs → start_of (map (field 2) xs ++ more) k ≡ 2 * k
start_of-pairs [] more k lt = absurd (omega arith)
start_of-pairs (x ∷ xs) more zero lt = refl
start_of-pairs (x ∷ xs) more (suc k) lt = let rest = start_of-pairs xs more k (omega arith) in omega (arith, rest)

field_at-pairs : (xs : List ℕ) (more : List Field) (k : ℕ) → k < length xs → field_at (map (field 2) xs ++ more) k ≡ field 2 (get_or xs k 0)
field_at-pairs [] more k lt = absurd (omega arith)
field_at-pairs (x ∷ xs) more zero lt = refl
field_at-pairs (x ∷ xs) more (suc k) lt = field_at-pairs xs more k (omega arith)

-- the weight of this index, if the weights are not the usual ones
each_weight : (o : List ℕ) (image : ImagePart) (rest : List Bool) → IsImagePart image → length image.weights.shifts ≡ 10 →
    Has o (fields_4 false image) rest → (k : ℕ) → k < 10 →
    get_or image.weights.shifts k 0 ≡ number_in o (33 + 2 * k) 2
each_weight o image rest ok ten has k lt =
    let xs : List ℕ = image.weights.shifts in
    let more : List Field = reserved 11 ∷ [] in
    let inside : k < length xs = omega (arith, ten) in
    let n : number_in o (1 + (1 + (1 + (1 + (4 + (20 + (1 + (3 + (1 + start_of (map (field 2) xs ++ more) k)))))))))
    (field_at (map (field 2) xs ++ more) k).width
    ≡ (field_at (map (field 2) xs ++ more) k).value % 2 ^ (field_at (map (field 2) xs ++ more) k).width =
    number_at has (suc (suc (suc (suc (suc (suc (suc (suc (suc k)))))))))
    (omega (arith, length-append (map (field 2) xs) more, length-map xs (field 2), inside))
    in
    let place : 1 + (1 + (1 + (1 + (4 + (20 + (1 + (3 + (1 + start_of (map (field 2) xs ++ more) k)))))))) ≡ 33 + 2 * k =
    omega (arith, start_of-pairs xs more k inside) in
    let m : number_in o (33 + 2 * k) 2 ≡ get_or xs k 0 % 4 = rw (place, field_at-pairs xs more k inside) at n in
    let small : get_or xs k 0 ≤ 3 = ok.weights k 0 inside in
    omega (arith, m, small)

custom_weights : (o : List ℕ) (image : ImagePart) (rest : List Bool) → IsImagePart image → length image.weights.shifts ≡ 10 →
    Has o (fields_4 false image) rest → custom_shifts o ≡ image.weights.shifts
custom_weights o image rest ok ten has = sym (fill_by_all (λ k. number_in o (33 + 2 * k) 2) image.weights.shifts 10 0 ten (each_weight o image rest ok ten has))

same_image : (signed : Bool) (depth width word : ℕ) (shifts : List ℕ) (image : ImagePart) → signed ≡ image.signed → depth ≡ image.depth →
    width ≡ image.width → word ≡ image.word → shifts ≡ image.weights.shifts →
    record { signed = signed; depth = depth; width = width; word = word; weights = record { shifts = shifts } } ≡ image
same_image signed depth width word shifts image p q r s t = rw (p, q, r, s, t) refl

pub record SaysFourth (image : ImagePart) (o : List ℕ) : Type 0 where
  pub integer : is_set o 0 ≡ true
  pub extended : is_set o 2 ≡ false
  pub transpose : is_set o 28 ≡ false
  pub pattern : number_in o 29 3 ≡ word_pattern image.word
  pub width : number_in o 8 20 ≡ image.width
  pub says : image_in o ≡ image

fourth : (usual : Bool) (o : List ℕ) (image : ImagePart) (rest : List Bool) → IsImagePart image → Has o (fields_4 usual image) rest →
    (if is_set o 32 then custom_shifts o else usual_shifts) ≡ image.weights.shifts → SaysFourth image o
fourth usual o image rest ok has weights =
    let n_depth : number_in o 4 4 ≡ image.depth % 16 % 16 = number_at has 4 (omega arith) in
    let n_width : number_in o 8 20 ≡ image.width % 1048576 = number_at has 5 (omega arith) in
    let n_word : number_in o 29 3 ≡ word_pattern image.word % 8 = number_at has 7 (omega arith) in
    let depth : depth_of (number_in o 4 4) ≡ image.depth = ap depth_of n_depth ∙ width_read image.depth ok.depth.0 ok.depth.1 in
    let width : number_in o 8 20 ≡ image.width = n_width ∙ omega (arith, ok.width) in
    let word : word_of (number_in o 29 3) ≡ image.word = ap word_of n_word ∙ word_read image.word ok.word.0 ok.word.1 in
    record {
      integer = flag_of (number_in o 0 1) true (number_at has 0 (omega arith));
      extended = flag_of (number_in o 2 1) false (number_at has 2 (omega arith));
      transpose = flag_of (number_in o 28 1) false (number_at has 6 (omega arith));
      pattern = n_word ∙ omega (arith, ok.word);
      width = width;
      says =
          same_image (is_set o 3) (depth_of (number_in o 4 4)) (number_in o 8 20) (word_of (number_in o 29 3))
          (if is_set o 32 then custom_shifts o else usual_shifts) image
          (flag_of (number_in o 3 1) image.signed (number_at has 3 (omega arith)))
          depth
          width
          word
          weights;
    }

by_weights : (usual : Bool) (o : List ℕ) (image : ImagePart) (rest : List Bool) → (usual ≡ true → image.weights.shifts ≡ usual_shifts) → IsImagePart image →
    length image.weights.shifts ≡ 10 → Has o (fields_4 usual image) rest →
    SaysFourth image o
by_weights true o image rest same ok ten has =
    let plain : is_set o 32 ≡ false = flag_of (number_in o 32 1) false (number_at has 8 (omega arith)) in
    fourth true o image rest ok has (rw plain (sym (same refl)))
by_weights false o image rest same ok ten has =
    let custom : is_set o 32 ≡ true = flag_of (number_in o 32 1) true (number_at has 8 (omega arith)) in
    fourth false o image rest ok has (rw custom (custom_weights o image rest ok ten has))

pub says_fourth : (image : ImagePart) (o : List ℕ) (rest : List Bool) → IsImagePart image → length image.weights.shifts ≡ 10 → Has o (part_4 image) rest →
    SaysFourth image o
says_fourth image o rest ok ten has =
    by_weights (bytes_eq image.weights.shifts usual_shifts) o image rest ((bytes_eq-Decides image.weights.shifts usual_shifts).0) ok ten has
