-- What holds of a head that agrees with the first one.
use Rattle.std.proofs.Common.{◌≡◌, ◌≤◌, ◌<◌, ◌+◌, ◌*◌, ◌%◌, ◌==◌, ℕ, refl, sym, ap, ◌∙◌, arith, Bool, true, false, nat_le, nat_lt, ◌&&◌}
use Rattle.std.proofs.Common.{◌||◌, if◌then◌else◌, bytes_eq, ◌^◌, mul-le-mul}
use Rattle.std.proofs.lemmas.Bool.Decides.{nat_tests}
use Rattle.base_122.specs.Ranges.{is_within, rows_range}
use Rattle.segment_defs.specs.declared.head.SegmentHead.{SegmentHead}
use Rattle.segment_defs.specs.declared.head.ImagePart.{ImagePart}
use Rattle.bare_text.specs.Agreement.{columns, blocks_before, image_agrees, height_at}
use Rattle.bare_text.proofs.Agreements.{agrees}
use Rattle.std.proofs.lemmas.Slice.Eq.{bytes_eq-Decides}
use mathlib.Core.Bool.{beq}
use Rattle.std.proofs.lemmas.Bool.{and_parts, leb-true, ltb-true, and_from, eqb-true}
use Rattle.bare_stream.specs.Heads.{AgreesWith}
use Rattle.bare_stream.specs.Pictures.{pixels_at}

-- the weights are those of the first head
pub same_weights : (first : SegmentHead) (index : ℕ) (head : SegmentHead) → AgreesWith first index head → head.image.weights.shifts ≡ first.image.weights.shifts
same_weights first index head e =
    let a = head.image in
    let b = first.image in
    let signed = and_parts (beq a.signed b.signed) ((a.depth == b.depth) &&
    ((a.width == b.width) && ((a.word == b.word) && bytes_eq a.weights.shifts b.weights.shifts))) (agrees first index head e).image in
    let depth = and_parts (a.depth == b.depth) ((a.width == b.width) && ((a.word == b.word) && bytes_eq a.weights.shifts b.weights.shifts)) signed.1 in
    let width = and_parts (a.width == b.width) ((a.word == b.word) && bytes_eq a.weights.shifts b.weights.shifts) depth.1 in
    let word = and_parts (a.word == b.word) (bytes_eq a.weights.shifts b.weights.shifts) width.1 in
    (bytes_eq-Decides a.weights.shifts b.weights.shifts).0 word.1

-- if the first segment isn't the last, each segment except the last has at least 16 blocks
pub least_blocks : (first : SegmentHead) (index : ℕ) (head : SegmentHead) → AgreesWith first index head → first.last ≡ false → 16 ≤ first.blocks
least_blocks first index head e more =
    let b = and_parts (if head.last then nat_le 1 head.blocks && nat_le head.blocks first.blocks else head.blocks == first.blocks)
    (nat_le 16 first.blocks || first.last) (agrees first index head e).blocks in
    by (nat_le 16 first.blocks) first.last refl more b.1
  where
    by : (t last : Bool) → nat_le 16 first.blocks ≡ t → last ≡ false → (t || last) ≡ true → 16 ≤ first.blocks
    by true last e f g = leb-true 16 first.blocks e
    by false last e f g = absurd (let and_parts : true ≡ false = sym g ∙ f in cc)

-- ---- a head that isn't the last

pub record Continues (first : SegmentHead) (index : ℕ) (head : SegmentHead) : Type 0 where
  pub blocks : head.blocks ≡ first.blocks
  pub room : blocks_before first index + first.blocks < 32768 * columns first

pub goes_on : (first : SegmentHead) (index : ℕ) (head : SegmentHead) → AgreesWith first index head → head.last ≡ false → Continues first index head
goes_on first index head e more =
    let a = agrees first index head e in
    let b = and_parts (if head.last then nat_le 1 head.blocks && nat_le head.blocks first.blocks else head.blocks == first.blocks)
    (nat_le 16 first.blocks || first.last) a.blocks in
    record {
      blocks = eqb-true head.blocks first.blocks (ap (λ t. if t then nat_le 1 head.blocks && nat_le head.blocks first.blocks else head.blocks ==
          first.blocks) (sym more) ∙ b.0);
      room = ltb-true _ _ (ap (λ t. if t then ((blocks_before first index + head.blocks) % columns first == 0) && is_within rows_range
          (height_at first index head) else nat_lt (blocks_before first index + first.blocks) (32768 * columns first)) (sym more) ∙ a.last);
    }

-- ---- the last head

pub record Ends (first : SegmentHead) (index : ℕ) (head : SegmentHead) : Type 0 where
  pub some : 1 ≤ head.blocks
  pub few : head.blocks ≤ first.blocks
  pub whole : (blocks_before first index + head.blocks) % columns first ≡ 0
  pub least : 17 ≤ height_at first index head
  pub most : height_at first index head ≤ 262144

pub ends : (first : SegmentHead) (index : ℕ) (head : SegmentHead) → AgreesWith first index head → head.last ≡ true → Ends first index head
ends first index head e last =
    let a = agrees first index head e in
    let b = and_parts (if head.last then nat_le 1 head.blocks && nat_le head.blocks first.blocks else head.blocks == first.blocks)
    (nat_le 16 first.blocks || first.last) a.blocks in
    let c = and_parts (nat_le 1 head.blocks) (nat_le head.blocks first.blocks)
    (ap (λ t. if t then nat_le 1 head.blocks && nat_le head.blocks first.blocks else head.blocks == first.blocks) (sym last) ∙ b.0) in
    let d = and_parts ((blocks_before first index + head.blocks) % columns first == 0) (is_within rows_range (height_at first index head))
    (ap (λ t. if t then ((blocks_before first index + head.blocks) % columns first == 0) && is_within rows_range (height_at first index head) else nat_lt
    (blocks_before first index + first.blocks) (32768 * columns first)) (sym last) ∙ a.last) in
    let h = and_parts (nat_le 17 (height_at first index head)) (nat_le (height_at first index head) 262144) d.1 in
    record { some = leb-true _ _ c.0; few = leb-true _ _ c.1; whole = eqb-true _ _ d.0; least = leb-true _ _ h.0; most = leb-true _ _ h.1 }

-- ---- pixels

known_rows : (n : ℕ) → 17 ≤ n → (n == 0) ≡ false
known_rows n le = grind (arith, nat_tests)

pub pixels_last : (first : SegmentHead) (index : ℕ) (head : SegmentHead) → AgreesWith first index head → head.last ≡ true →
    pixels_at first index head ≡ first.image.width * height_at first index head
pixels_last first index head e last = grind (arith, nat_tests, known_rows, ends)

-- a product of a width and a number of rows
pub product_fits : (a b : ℕ) → a < 2 ^ 20 → b ≤ 2 ^ 36 → a * b < 2 ^ 64
product_fits a b few less = let p : a * b ≤ 2 ^ 20 * 2 ^ 36 = mul-le-mul (let l : a ≤ 2 ^ 20 = omega (arith, few) in l) less in omega (arith, p)

-- the blocks before the end of a segment that isn't the last are few
pub few_blocks : (first : SegmentHead) (index : ℕ) (head : SegmentHead) → AgreesWith first index head → head.last ≡ false → first.image.width < 2 ^ 20 →
    blocks_before first index + head.blocks < 2 ^ 33
few_blocks first index head e more wide = grind (arith, nat_tests, goes_on)

-- ---- heads that agree

pub same_flag : (b : Bool) → beq b b ≡ true
same_flag b = grind (arith, nat_tests)

pub same_number : (n : ℕ) → (n == n) ≡ true
same_number n = grind (arith, nat_tests)

pub same_image : (image : ImagePart) → image_agrees image image ≡ true
same_image a = grind (arith, nat_tests, and_from, same_flag, same_number, bytes_eq-Decides)
