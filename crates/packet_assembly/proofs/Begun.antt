-- The state after packets from the first one of an image on, and what a segment that begins after them reports.
use Rattle.std.proofs.Common.{◌≡◌, ◌⊎◌, inl, inr, ◌≤◌, ◌<◌, ◌+◌, ◌-◌, ◌*◌, ℕ, List, refl, sym, ap, subst, ◌∙◌, arith, Bool, true, false, ◌==◌, not, min}
use Rattle.std.proofs.Common.{Option, None, Some}
use Rattle.std.proofs.lemmas.Bool.{false≢true, false_from_ne_true, eqb-true, not-false}
use Rattle.std.proofs.lemmas.Bool.Decides.{nat_tests}
use Rattle.base_122.specs.Sizes.{block_count, first_block}
use Rattle.base_122.specs.Ranges.{IsGeometryInRange, IsWithin, is_within, rows_range, segment_range}
use Rattle.base_122.specs.declared.geometry.Geometry.{Geometry}
use Rattle.segment_defs.specs.Head.{IsHead}
use Rattle.segment_defs.specs.declared.head.SegmentHead.{SegmentHead}
use Rattle.segment_defs.specs.declared.head.ImagePart.{ImagePart}
use Rattle.segment_defs.proofs.ReadHeads.{read_fits}
use Rattle.packet_defs.specs.declared.ancillary.Ancillary.{Ancillary}
use Rattle.packet_defs.specs.Reading.{ancillary_in, text_in}
use Rattle.stream_defs.specs.declared.fate.FateState.{FateState}
use Rattle.stream_defs.specs.declared.fate.LastPart.{LastPart}
use Rattle.stream_defs.specs.Agreement.{geometry_for, geometry_past, blocks_of, disagreement}
use Rattle.stream_defs.specs.Fates.{fresh, reports_rows, differs, fate, is_kept, after, geometry_after, part_in}
use Rattle.stream_defs.specs.Begun.{placed}
use Rattle.stream_defs.proofs.FateLaws.{after_as_kept}
use Rattle.stream_defs.proofs.KeptOrder.{is_kept_so, kept_tests, Begins, does}
use Rattle.stream_defs.proofs.PlacedLaws.{within_not}
use Rattle.packet_assembly.specs.declared.note.SegmentStart.{SegmentStart}
use Rattle.packet_assembly.specs.Assembling.{Starts, is_first}
use Rattle.packet_assembly.proofs.Agreed.{Agrees, IsBefore, agrees}
use Rattle.packet_assembly.proofs.Ranges.{within_from}
use Rattle.packet_assembly.proofs.OwnPackets.{or_first, or_rest, reports_so, own_so, past_segment}

-- ---- what packets leave

-- With this geometry, the last segment of this index and heads that reach this number of blocks: that segment is in the image as it is
-- placed, and the heads reach no further than it and the image. While the height isn't reported, there is room for a segment after it; if
-- it was reported by the last header, the image has none.
pub record Leaves (g : Geometry) (reported_last : Bool) (index ended : ℕ) : Type 0 where
  pub if_known : reported_last ≡ false → IsWithin rows_range g.rows
  pub height : (g.rows ≡ 0) ⊎ IsWithin rows_range g.rows
  pub wide : 17 ≤ g.width
  pub first : first_block g.segment index < blocks_of (placed g)
  pub room : g.rows ≡ 0 → first_block g.segment index + g.segment < 32768 * block_count g.width
  pub shut : reported_last ≡ true → (g.rows ≡ 0 → ⊥) → blocks_of g ≤ first_block g.segment (index + 1)
  pub through : ended ≤ first_block g.segment (index + 1)
  pub within : ended ≤ blocks_of (placed g)

-- no packet was kept
pub record IsUnbegun (s : FateState) (ended : ℕ) : Type 0 where
  pub geometry : s.geometry ≡ None
  pub last : s.last ≡ None
  pub nothing : ended ≡ 0

pub record HasBegun (s : FateState) (ended : ℕ) : Type 0 where
  pub g : Geometry
  pub geometry : s.geometry ≡ Some g
  pub l : LastPart
  pub last : s.last ≡ Some l
  pub leaves : Leaves g s.reported_last l.index ended

-- the state after packets whose heads reach this number of blocks
pub record IsLeft (s : FateState) (ended : ℕ) : Type 0 where
  pub by : IsUnbegun s ended ⊎ HasBegun s ended

pub fresh_left : IsLeft fresh 0
fresh_left = record { by = inl record { geometry = refl; last = refl; nothing = refl } }

-- ---- a segment that begins

-- What a segment reports that begins after such packets, with the geometry after its first packet.
pub record SegmentBegun (s : FateState) (ended : ℕ) (start : SegmentStart) (g : Geometry) : Type 0 where
  pub height : (g.rows ≡ 0) ⊎ IsWithin rows_range g.rows
  pub segment : start.ancillary.segment ≡ g.segment
  pub first_is : start.ancillary.first ≡ first_block g.segment start.ancillary.index
  pub first : start.ancillary.first < blocks_of (placed g)
  pub blocks : start.head.blocks ≡ min g.segment (blocks_of (placed g) - start.ancillary.first)
  pub shifts : start.head.image.weights.shifts ≡ g.weights.shifts
  pub head : IsHead start.head
  pub later : (l : LastPart) → s.last ≡ Some l → l.index < start.ancillary.index
  pub same : (before : Geometry) → s.geometry ≡ Some before → g ≡ record before { rows = g.rows }
  pub known : (before : Geometry) → s.geometry ≡ Some before → (before.rows ≡ 0 → ⊥) → g ≡ before
  pub through : ended ≤ start.ancillary.first
  pub after_last : (l : LastPart) → s.last ≡ Some l → first_block g.segment (l.index + 1) ≤ start.ancillary.first
  pub range : (s.geometry ≡ None → start.ancillary.image ≤ 65535) → ((before : Geometry) → s.geometry ≡ Some before → IsGeometryInRange before) →
      IsGeometryInRange g
  pub leaves : Leaves g start.ancillary.reported_last start.ancillary.index (start.ancillary.first + start.head.blocks)

-- what the first packet of a segment passes
record Tested (s : FateState) (a : Ancillary) (head : SegmentHead) : Type 0 where
  reports : reports_rows a ≡ true
  segment : is_within segment_range a.segment ≡ true
  first : a.first ≡ a.index * a.segment
  own : differs s.geometry s.reported_last a ≡ false
  agree : disagreement (geometry_for s.geometry a head.image) a head ≡ None
  is : IsHead head
  later : (l : LastPart) → s.last ≡ Some l → l.index < a.index

-- the geometry before it
record Before (s : FateState) (ended : ℕ) (a : Ancillary) (image : ImagePart) : Type 0 where
  unknown_or_known : IsBefore (geometry_for s.geometry a image) a
  segment : a.segment ≡ (geometry_for s.geometry a image).segment
  through : ended ≤ a.first
  known : (before : Geometry) → s.geometry ≡ Some before → (before.rows ≡ 0 → ⊥) → a.reported_last ≡ false

-- a height that isn't known is reported last
pub known_if : (g : Geometry) (if_known : Bool) (index ended : ℕ) → Leaves g if_known index ended → g.rows ≡ 0 → if_known ≡ true
known_if g if_known index ended leaves unknown = grind (arith, nat_tests)

-- after packets of an image
before_more : (s : FateState) (ended : ℕ) (a : Ancillary) (head : SegmentHead) → Tested s a head → HasBegun s ended → Before s ended a head.image
before_more s ended a head t begun = grind (arith, nat_tests, own_so, past_segment, false_from_ne_true, known_if, within_not)

before_by : (s : FateState) (ended : ℕ) (a : Ancillary) (head : SegmentHead) → Tested s a head → IsLeft s ended → Before s ended a head.image
before_by s ended a head t left = elim left.by [
  | inl none ↦ grind (arith, nat_tests, reports_so)
  | inr begun ↦ before_more s ended a head t begun
]

-- the state after its first packet
leaves_of : (g0 g : Geometry) (a : Ancillary) (head : SegmentHead) → IsBefore g0 a → Agrees g0 a head g → a.first ≡ first_block g.segment a.index →
    Leaves g a.reported_last a.index (a.first + head.blocks)
leaves_of g0 g a head before p first = grind (arith, nat_tests, false≢true)

-- in range
with_height : (g0 g : Geometry) → g ≡ record g0 { rows = g.rows } → (g.rows ≡ 0) ⊎ IsWithin rows_range g.rows → IsGeometryInRange g0 → IsGeometryInRange g
with_height g0 g same height r = grind (arith, nat_tests)

range_before : (s : FateState) (a : Ancillary) (head : SegmentHead) → Tested s a head → (s.geometry ≡ None → a.image ≤ 65535) →
    ((before : Geometry) → s.geometry ≡ Some before → IsGeometryInRange before) → IsGeometryInRange (geometry_for s.geometry a head.image)
range_before s a head t number range = grind (arith, nat_tests, reports_so, within_from)

begun_of : (s : FateState) (ended : ℕ) (a : Ancillary) (head : SegmentHead) → Tested s a head → IsLeft s ended →
    SegmentBegun s ended (record { ancillary = a; head = head }) (geometry_past (geometry_for s.geometry a head.image) a head)
begun_of s ended a head t left =
    let g0 = geometry_for s.geometry a head.image in
    let g = geometry_past g0 a head in
    let b = before_by s ended a head t left in
    let p : Agrees g0 a head g = agrees g0 a head t.is b.unknown_or_known t.agree in
    let size : g.segment ≡ g0.segment = ap (λ (g : Geometry). g.segment) p.same in
    let first : a.first ≡ first_block g.segment a.index = t.first ∙ ap (λ n. a.index * n) (b.segment ∙ sym size) in
    let current : (before : Geometry) → s.geometry ≡ Some before → g0 ≡ before = λ before is. ap (λ (o : Option Geometry). geometry_for o a head.image) is in
    record {
      height = p.height;
      segment = b.segment ∙ sym size;
      first_is = first;
      first = p.first;
      blocks = p.blocks ∙ ap (λ n. min n (blocks_of (placed g) - a.first)) (sym size);
      shifts = p.shifts ∙ ap (λ (g : Geometry). g.weights.shifts) (sym p.same);
      head = t.is;
      later = t.later;
      same = λ before is. p.same ∙ ap (λ (h : Geometry). record h { rows = g.rows }) (current before is);
      known = λ before is some. p.if_known (b.known before is some) ∙ current before is;
      through = b.through;
      after_last = λ l is. let later = past_segment g.segment l.index a.index (t.later l is) in omega (arith, later, first);
      range = λ number current_range. with_height g0 g p.same p.height (range_before s a head t number current_range);
      leaves = leaves_of g0 g a head b.unknown_or_known p first;
    }

-- ---- its first packet

pub first_keeps : (apid : ℕ) (s : FateState) (packet : List ℕ) → is_first apid s packet ≡ true →
    (is_kept (fate apid s packet) ≡ true) × (((ancillary_in packet).part == 0) ≡ true)
first_keeps apid s packet e = grind (arith, nat_tests, false≢true)

-- a packet that is the first of a segment begins it
pub begins_so : (apid : ℕ) (s : FateState) (packet : List ℕ) → is_first apid s packet ≡ true → Begins apid s packet
begins_so apid s packet first = grind (arith, nat_tests, first_keeps, does, false≢true, eqb-true)

-- The state after the first packet of a segment.
pub record FirstLeaves (apid : ℕ) (s : FateState) (packet : List ℕ) (ended : ℕ) (start : SegmentStart) : Type 0 where
  pub g : Geometry
  pub geometry : (after apid s packet).geometry ≡ Some g
  pub last : (after apid s packet).last ≡ Some (part_in packet)
  pub if_known : (after apid s packet).reported_last ≡ start.ancillary.reported_last
  pub index : (part_in packet).index ≡ start.ancillary.index
  pub begun : SegmentBegun s ended start g

pub first_leaves : (apid : ℕ) (s : FateState) (packet : List ℕ) (ended : ℕ) (start : SegmentStart) → IsLeft s ended → Starts apid s packet start →
    FirstLeaves apid s packet ended start
first_leaves apid s packet ended start left starts =
    let a = ancillary_in packet in
    let k = first_keeps apid s packet starts.first in
    let is = is_kept_so (fate apid s packet) k.0 in
    let tests = kept_tests apid s packet is in
    let b = begins_so apid s packet starts.first in
    let own = or_rest _ _ (or_rest _ _ tests.own) in
    let tested : Tested s a start.head = record {
      reports = not-false _ (or_first (not (reports_rows a)) _ tests.own);
      segment = not-false _ (or_first (not (is_within segment_range a.segment)) _ (or_rest (not (reports_rows a)) _ tests.own));
      first = eqb-true a.first (a.index * a.segment) (not-false _ (or_first (not (a.first == a.index * a.segment)) _ own));
      own = or_rest (not (a.first == a.index * a.segment)) _ own;
      agree = rw (k.1, starts.head_is) at tests.head;
      is = read_fits (text_in packet) start.head starts.head_is;
      later = b.later;
    } in
    let g = geometry_past (geometry_for s.geometry a start.head.image) a start.head in
    let made : geometry_after s.geometry packet ≡ Some g = rw (k.1, starts.head_is) refl in
    let same : record { ancillary = a; head = start.head } ≡ start = λ i. record { ancillary = sym starts.ancillary_is i; head = start.head } in
    record {
      g = g;
      geometry = ap (λ (s : FateState). s.geometry) (after_as_kept apid s packet is) ∙ made;
      last = b.last;
      if_known = ap (λ (s : FateState). s.reported_last) (after_as_kept apid s packet is) ∙ ap (λ (a : Ancillary). a.reported_last) (sym starts.ancillary_is);
      index = ap (λ (a : Ancillary). a.index) (sym starts.ancillary_is);
      begun = subst (λ (start : SegmentStart). SegmentBegun s ended start g) same (begun_of s ended a start.head tested left);
    }
