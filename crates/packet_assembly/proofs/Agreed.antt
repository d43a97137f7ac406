-- What a segment header that agrees reports of its segment and of the image.
use Rattle.std.proofs.Common.{◌≡◌, ◌⊎◌, ◌≤◌, ◌<◌, ◌+◌, ◌-◌, ◌*◌, ◌/◌, ◌%◌, ℕ, List, [], ◌∷◌, refl, ap, ◌∙◌, arith, Bool, true, false, ◌==◌, ◌&&◌, nat_le}
use Rattle.std.proofs.Common.{nat_lt, min, if◌then◌else◌, bytes_eq, None}
use Rattle.std.proofs.lemmas.Bool.{false≢true, and_parts, leb-true, not-false, ltb-true, eqb-true}
use Rattle.std.proofs.lemmas.Bool.Decides.{nat_tests}
use Rattle.base_122.specs.Sizes.{block_count}
use Rattle.base_122.specs.Ranges.{IsWithin, rows_range}
use Rattle.base_122.specs.declared.geometry.Geometry.{Geometry}
use Rattle.segment_defs.specs.Head.{IsHead}
use Rattle.segment_defs.specs.declared.head.SegmentHead.{SegmentHead}
use Rattle.segment_defs.specs.declared.fault.HeadFault.{HeadFault}
use Rattle.packet_defs.specs.declared.ancillary.Ancillary.{Ancillary}
use Rattle.packet_defs.specs.Tests.{when, first_of}
use Rattle.stream_defs.specs.Agreement.{geometry_past, blocks_of, same_flag, is_of_image, has_blocks, may_have_blocks, ends_where_reported, may_end}
use Rattle.stream_defs.specs.Agreement.{reported_height, disagreement}
use Rattle.stream_defs.specs.Begun.{placed}
use Rattle.packet_assembly.proofs.Ranges.{within_from}
use Rattle.stream_defs.proofs.PlacedLaws.{blocks_open, blocks_known, within_not}

-- ---- tests that pass

pub bytes_so : (xs ys : List ℕ) → bytes_eq xs ys ≡ true → xs ≡ ys
bytes_so [] [] e = refl
bytes_so [] (y ∷ ys) e = absurd (false≢true e)
bytes_so (x ∷ xs) [] e = absurd (false≢true e)
bytes_so (x ∷ xs) (y ∷ ys) e =
    let both = and_parts (x == y) (bytes_eq xs ys) e in
    ap (λ n. n ∷ xs) (eqb-true x y both.0) ∙ ap (λ zs. y ∷ zs) (bytes_so xs ys both.1)

-- none of six tests refuses
six_pass : (a b c d e f : Bool) (v w x y z u : HeadFault) → first_of (when a v ∷ when b w ∷ when c x ∷ when d y ∷ when e z ∷ when f u ∷ []) ≡ None →
    (b ≡ false) × (c ≡ false) × (f ≡ false)
six_pass a b c d e f v w x y z u h = grind (arith, nat_tests)

-- the tests on blocks, on the end and on the image
record Passes (g : Geometry) (a : Ancillary) (head : SegmentHead) : Type 0 where
  blocks : (if a.reported_last then may_have_blocks g head else has_blocks g a head) ≡ true
  ends : (if a.reported_last then may_end g a head else ends_where_reported g a head) ≡ true
  width : head.image.width ≡ g.width
  shifts : head.image.weights.shifts ≡ g.weights.shifts

passes : (g : Geometry) (a : Ancillary) (head : SegmentHead) → disagreement g a head ≡ None → Passes g a head
unfolding disagreement
passes g a head e =
    let six = six_pass _ _ _ _ _ _ _ _ _ _ _ _ e in
    let image = not-false (is_of_image g head.image) six.2 in
    let depth = (and_parts (same_flag head.image.signed g.signed) _ image).1 in
    let width = and_parts (head.image.width == g.width) _ (and_parts (head.image.depth == g.depth) _ depth).1 in
    record {
      blocks = not-false _ six.0;
      ends = not-false _ six.1;
      width = eqb-true head.image.width g.width width.0;
      shifts = bytes_so head.image.weights.shifts g.weights.shifts (and_parts (head.image.word == g.word) _ width.1).1;
    }

-- ---- what they say

-- With the geometry that is known or made before a header, and the one after it: its segment is in the image as it is placed. If the
-- height isn't reported by it, there is room for a segment after it; if it is, the image ends with it.
pub record Agrees (g : Geometry) (a : Ancillary) (head : SegmentHead) (past : Geometry) : Type 0 where
  pub same : past ≡ record g { rows = past.rows }
  pub height : (past.rows ≡ 0) ⊎ IsWithin rows_range past.rows
  pub if_known : a.reported_last ≡ false → past ≡ g
  pub wide : 17 ≤ g.width
  pub first : a.first < blocks_of (placed past)
  pub blocks : head.blocks ≡ min g.segment (blocks_of (placed past) - a.first)
  pub shifts : head.image.weights.shifts ≡ g.weights.shifts
  pub room : past.rows ≡ 0 → a.first + g.segment < 32768 * block_count g.width
  pub shut : a.reported_last ≡ true → (past.rows ≡ 0 → ⊥) → blocks_of past ≡ a.first + head.blocks

-- before it the height is known from the packets, or isn't known since it is reported last
abbrev pub IsBefore : Geometry → Ancillary → Type 0
IsBefore g a = ((a.reported_last ≡ true) × (g.rows ≡ 0)) ⊎ ((a.reported_last ≡ false) × IsWithin rows_range g.rows)

-- the height that a last header reports has the block rows that it ends
ends_rows : (columns ended pads : ℕ) → 0 < columns → pads < 8 → ended % columns ≡ 0 → 17 ≤ 8 * (ended / columns) - pads →
    columns * block_count (8 * (ended / columns) - pads) ≡ ended
ends_rows columns ended pads some few whole tall = grind (arith, nat_tests)

module _ (g : Geometry) (a : Ancillary) (head : SegmentHead) (is : IsHead head) (p : Passes g a head) where
  wide_there : 17 ≤ g.width
  wide_there = let w = is.image.width.0 in omega (arith, w, p.width)

  some_columns : 0 < block_count g.width
  some_columns = let w = wide_there in omega (arith, w)

  -- of a height that the packets have
  known_each : a.reported_last ≡ false → IsWithin rows_range g.rows → Agrees g a head g
  known_each if_known within = grind (arith, nat_tests, within_not, and_parts, nat_lt, blocks_known, wide_there, ltb-true, eqb-true, false≢true)

  -- of one that is reported last, by a header that isn't the last
  known_later : a.reported_last ≡ true → g.rows ≡ 0 → head.last ≡ false → Agrees g a head g
  known_later if_known unknown last = grind (arith, nat_tests, nat_lt, eqb-true, ltb-true, blocks_open, false≢true, wide_there)

  -- and by the last
  known_here : a.reported_last ≡ true → head.last ≡ true → Agrees g a head (record g { rows = reported_height g a head })
  known_here if_known last = grind (
    arith,
    nat_tests,
    nat_le,
    and_parts,
    leb-true,
    eqb-true,
    within_from,
    within_not,
    ends_rows,
    some_columns,
    blocks_known,
    false≢true,
    wide_there,
  )

  agrees_by : (if_known last : Bool) → a.reported_last ≡ if_known → head.last ≡ last → IsBefore g a →
      Agrees g a head (if if_known && last then record g { rows = reported_height g a head } else g)
  agrees_by given last if_known is_last before = grind (arith, nat_tests, known_here, known_later, false≢true, known_each)

pub agrees : (g : Geometry) (a : Ancillary) (head : SegmentHead) → IsHead head → IsBefore g a → disagreement g a head ≡ None →
    Agrees g a head (geometry_past g a head)
agrees g a head is before none = agrees_by g a head is (passes g a head none) a.reported_last head.last refl refl before
