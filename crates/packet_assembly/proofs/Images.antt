-- The laws of an image's geometry and of what the kept heads reach, whether its height is known or reported last.
use Rattle.std.proofs.Common.{◌≡◌, ◌⊎◌, ◌≤◌, ◌<◌, ◌+◌, ◌-◌, ℕ, List, [], ◌∷◌, ◌++◌, refl, ap, ◌∙◌, arith, ◌≢◌, Bool, true, false, min, Option, None, Some}
use Rattle.std.proofs.Common.{is_some, ℤ, max}
use Rattle.std.proofs.lemmas.Grind.{fold-append}
use Rattle.std.proofs.lemmas.Bool.Decides.{nat_tests}
use Rattle.base_122.specs.Sizes.{first_block}
use Rattle.base_122.specs.Ranges.{IsGeometryInRange, IsWithin, rows_range}
use Rattle.base_122.specs.declared.geometry.Geometry.{Geometry}
use Rattle.segment_defs.specs.Head.{IsHead}
use Rattle.stream_defs.specs.declared.fate.FateState.{FateState}
use Rattle.stream_defs.specs.declared.fate.LastPart.{LastPart}
use Rattle.stream_defs.specs.Agreement.{blocks_of}
use Rattle.stream_defs.specs.Fates.{fresh, after, after_all, kept, part_in}
use Rattle.stream_defs.specs.Begun.{end_in, end_of, placed}
use Rattle.stream_defs.specs.Received.{index_in}
use Rattle.stream_defs.specs.Settled.{blocks_in, blocks_through}
use Rattle.stream_defs.proofs.ChosenLaws.{kept-append}
use Rattle.stream_defs.proofs.PlacedLaws.{is_open, blocks_open, blocks_known, placed_open, placed_known, within_not}
use Rattle.packet_assembly.specs.declared.note.SegmentStart.{SegmentStart}
use Rattle.packet_assembly.specs.Assembling.{Starts, BeginsNone, is_first, last_index}
use Rattle.packet_assembly.proofs.Begun.{Leaves, HasBegun, IsLeft, first_leaves, known_if}
use Rattle.packet_assembly.proofs.Ends.{end_from, none_begun, stays_none, first_reaches, starts_with, one_left, all_left, known_one}
use Rattle.stream_defs.proofs.Equations.{end_of-is}

-- ---- the last place

-- the state after packets, at a geometry and a last place
pub leaves_at : (s : FateState) (n : ℕ) (g : Geometry) (l : LastPart) → IsLeft s n → s.geometry ≡ Some g → s.last ≡ Some l → Leaves g s.reported_last l.index n
leaves_at s n g l left geometry last = grind (arith, nat_tests)

-- at the index of the last place
record IsAt (o : Option LastPart) (index : ℕ) : Type 0 where
  l : LastPart
  is : o ≡ Some l
  same : l.index ≡ index

at_index : (o : Option LastPart) (index : ℕ) → last_index o ≡ Some index → IsAt o index
at_index o index e = grind (arith, nat_tests)

module _ (apid : ℕ) (packets : List (List ℕ)) (g : Geometry) (geometry : (after_all apid fresh packets).geometry ≡ Some g) where
  there : HasBegun (after_all apid fresh packets) (end_of (kept apid fresh packets))
  there = grind (arith, nat_tests, all_left)

  leaves_there : Leaves g (after_all apid fresh packets).reported_last there.l.index (end_of (kept apid fresh packets))
  leaves_there = leaves_at (after_all apid fresh packets) (end_of (kept apid fresh packets)) g there.l (all_left apid packets) geometry there.last

  -- the kept heads reach no further than the image
  pub end_few : end_of (kept apid fresh packets) ≤ blocks_of (placed g)
  end_few = leaves_there.within

  -- the image is wide, and its height is one of an image if it is known
  pub image_wide : 17 ≤ g.width
  image_wide = leaves_there.wide

  -- while the height isn't reported, the kept heads don't reach the last block
  pub end_room : g.rows ≡ 0 → end_of (kept apid fresh packets) < blocks_of (placed g)
  end_room unknown = grind (arith, nat_tests, leaves_there, there, blocks_open)

module _ (apid : ℕ) (packets : List (List ℕ)) (g : Geometry) (index : ℕ) (geometry : (after_all apid fresh packets).geometry ≡ Some g)
    (last : last_index (after_all apid fresh packets).last ≡ Some index) where
  leaves : Leaves g (after_all apid fresh packets).reported_last index (end_of (kept apid fresh packets))
  leaves = grind (arith, nat_tests, at_index, leaves_at, all_left)

  -- and no further than the last segment
  pub end_within : end_of (kept apid fresh packets) ≤ first_block g.segment (index + 1)
  end_within = leaves.through

  -- while the height isn't reported, there is room for a segment after the last one
  pub unknown_room : g.rows ≡ 0 → first_block g.segment index + g.segment < blocks_of (placed g)
  unknown_room unknown = let room = leaves.room unknown in omega (arith, room, blocks_open g unknown)

  blocks_there : blocks_in g index ≡ blocks_in (placed g) index
  blocks_there = grind (arith, nat_tests, leaves, unknown_room, is_open, placed_open, placed_known, within_not)

-- so blocks are passed as in the image that they are placed in
pub through_open : (apid : ℕ) (packets : List (List ℕ)) (g : Geometry) (received : ℕ → Option (List (List ℤ))) (index : ℕ) →
    (after_all apid fresh packets).geometry ≡ Some g →
    last_index (after_all apid fresh packets).last ≡ Some index → blocks_through g received index ≡ blocks_through (placed g) received index
through_open apid packets g received index geometry last = grind (arith, nat_tests, is_some, blocks_there)

-- ---- what the kept heads reach, from one packet to another

end_joined : (apid : ℕ) (before packets : List (List ℕ)) →
    end_of (kept apid fresh (before ++ packets)) ≡ end_from (end_of (kept apid fresh before)) (kept apid (after_all apid fresh before) packets)
end_joined apid before packets = simp end_of-is (grind (arith, nat_tests, end_from, kept-append, fold-append))

end_rises : (n : ℕ) (packets : List (List ℕ)) → n ≤ end_from n packets
end_rises n [] = omega arith
end_rises n (x ∷ xs) = let rest = end_rises (max n (end_in x)) xs in omega (arith, rest)

pub end_more : (apid : ℕ) (before packets : List (List ℕ)) → end_of (kept apid fresh before) ≤ end_of (kept apid fresh (before ++ packets))
end_more apid before packets = let most = end_rises (end_of (kept apid fresh before)) (kept apid (after_all apid fresh before) packets) in omega
    (arith, most, end_joined apid before packets)

-- a segment that begins: they reach its end
pub end_begun : (apid : ℕ) (before : List (List ℕ)) (packet : List ℕ) (start : SegmentStart) → Starts apid (after_all apid fresh before) packet start →
    end_of (kept apid fresh (before ++ packet ∷ [])) ≡ start.ancillary.first + start.head.blocks
end_begun apid before packet start starts =
    let s = after_all apid fresh before in
    let f = first_leaves apid s packet (end_of (kept apid fresh before)) start (all_left apid before) starts in
    end_joined apid before (packet ∷ []) ∙ first_reaches apid s packet start (end_of (kept apid fresh before)) starts f.begun.through

-- packets that begin none leave the end, the geometry and the index of the last place
pub end_none : (apid : ℕ) (before packets : List (List ℕ)) → BeginsNone apid (after_all apid fresh before) packets →
    end_of (kept apid fresh (before ++ packets)) ≡ end_of (kept apid fresh before)
end_none apid before packets none = end_joined apid before packets ∙ (none_begun apid (after_all apid fresh before) packets none).ended
    (end_of (kept apid fresh before))

pub geometry_none : (apid : ℕ) (s : FateState) (packets : List (List ℕ)) → BeginsNone apid s packets → (after_all apid s packets).geometry ≡ s.geometry
geometry_none apid s packets none = (none_begun apid s packets none).geometry

pub index_none : (apid : ℕ) (s : FateState) (packets : List (List ℕ)) → BeginsNone apid s packets → last_index (after_all apid s packets).last
    ≡ last_index s.last
index_none apid s packets none = (none_begun apid s packets none).last

-- so do packets after which the last place is in the same segment
pub geometry_same : (apid : ℕ) (s : FateState) (packets : List (List ℕ)) → last_index (after_all apid s packets).last ≡ last_index s.last →
    (after_all apid s packets).geometry ≡ s.geometry
geometry_same apid s packets same = geometry_none apid s packets (stays_none apid s packets same)

pub end_same : (apid : ℕ) (before packets : List (List ℕ)) → last_index (after_all apid (after_all apid fresh before) packets).last
    ≡ last_index (after_all apid fresh before).last →
    end_of (kept apid fresh (before ++ packets)) ≡ end_of (kept apid fresh before)
end_same apid before packets same = end_none apid before packets (stays_none apid (after_all apid fresh before) packets same)

-- ---- from the first kept packet on

-- a height that is known doesn't change
one_known : (apid : ℕ) (s : FateState) (n : ℕ) (x : List ℕ) (g : Geometry) → IsLeft s n → s.geometry ≡ Some g → g.rows ≢ 0 → (after apid s x).geometry ≡ Some g
one_known apid s n x g left is known = by (is_first apid s x) refl
  where
    by : (b : Bool) → is_first apid s x ≡ b → (after apid s x).geometry ≡ Some g
    by false e = geometry_none apid s (x ∷ []) (e, tt) ∙ is
    by true e =
        let some = starts_with apid s x e in
        let f = first_leaves apid s x n some.0 left some.1 in
        f.geometry ∙ ap Some (f.begun.known g is known)

known_on : (apid : ℕ) (s : FateState) (n : ℕ) (packets : List (List ℕ)) (g : Geometry) → IsLeft s n → s.geometry ≡ Some g → g.rows ≢ 0 →
    (after_all apid s packets).geometry ≡ Some g
known_on apid s n [] g left is known = is
known_on apid s n (x ∷ xs) g left is known =
    known_on apid (after apid s x) (end_from n (kept apid s (x ∷ []))) xs g (one_left apid s x n left) (one_known apid s n x g left is known) known

pub geometry_known : (apid : ℕ) (before packets : List (List ℕ)) (g : Geometry) → (after_all apid fresh before).geometry ≡ Some g → g.rows ≢ 0 →
    (after_all apid (after_all apid fresh before) packets).geometry ≡ Some g
geometry_known apid before packets g = known_on apid (after_all apid fresh before) (end_of (kept apid fresh before)) packets g (all_left apid before)

-- nor does it change that it is reported last
if_known_on : (apid : ℕ) (s : FateState) (packets : List (List ℕ)) (g : Geometry) → s.geometry ≡ Some g →
    (after_all apid s packets).reported_last ≡ s.reported_last
if_known_on apid s [] g is = refl
if_known_on apid s (x ∷ xs) g is =
    let one = known_one apid s x g is in
    if_known_on apid (after apid s x) xs one.0 one.1 ∙ one.2

pub reported_last_open : (apid : ℕ) (packets more : List (List ℕ)) (g : Geometry) → (after_all apid fresh packets).geometry ≡ Some g → g.rows ≡ 0 →
    (after_all apid (after_all apid fresh packets) more).reported_last ≡ true
reported_last_open apid packets more g geometry unknown = grind (arith, nat_tests, if_known_on, all_left, leaves_at, known_if)

-- ---- a segment that begins

-- The state after its first packet, after any packets. The geometry after it is in range if that before it was, or if the image's number
-- is.
pub record Begun (apid : ℕ) (s : FateState) (packet : List ℕ) (start : SegmentStart) : Type 0 where
  pub image : Geometry
  pub geometry : (after apid s packet).geometry ≡ Some image
  pub range : (s.geometry ≡ None → start.ancillary.image ≤ 65535) → ((g : Geometry) → s.geometry ≡ Some g → IsGeometryInRange g) → IsGeometryInRange image
  pub segment : start.ancillary.segment ≡ image.segment
  pub first : start.ancillary.first ≡ first_block image.segment start.ancillary.index
  pub within : start.ancillary.first < blocks_of (placed image)
  pub within_known : image.rows ≢ 0 → start.ancillary.first < blocks_of image
  pub blocks : start.head.blocks ≡ min image.segment (blocks_of (placed image) - start.ancillary.first)
  pub head : IsHead start.head
  pub weights : start.head.image.weights.shifts ≡ image.weights.shifts
  pub last : (after apid s packet).last ≡ Some (part_in packet)
  pub index : index_in packet ≡ start.ancillary.index
  pub later : (l : LastPart) → s.last ≡ Some l → l.index < start.ancillary.index
  pub known : (g : Geometry) → s.geometry ≡ Some g → g.rows ≢ 0 → image ≡ g
  pub same : (g : Geometry) → s.geometry ≡ Some g → image ≡ record g { rows = image.rows }
  pub height : image.rows ≢ 0 → IsWithin rows_range image.rows
  -- the segments before it are wholly before it
  pub past : (l : LastPart) → s.last ≡ Some l → first_block image.segment (l.index + 1) ≤ start.ancillary.first
  pub whole : (l : LastPart) → s.last ≡ Some l → image.rows ≢ 0 → min image.segment (blocks_of image - first_block image.segment l.index) ≡ image.segment

known_height : (g : Geometry) → (g.rows ≡ 0) ⊎ IsWithin rows_range g.rows → g.rows ≢ 0 → IsWithin rows_range g.rows
known_height g given some = grind (arith, nat_tests)

pub begun_by : (apid : ℕ) (before : List (List ℕ)) (packet : List ℕ) (start : SegmentStart) → Starts apid (after_all apid fresh before) packet start →
    Begun apid (after_all apid fresh before) packet start
begun_by apid before packet start starts =
    let s = after_all apid fresh before in
    let f = first_leaves apid s packet (end_of (kept apid fresh before)) start (all_left apid before) starts in
    let b = f.begun in
    let g = f.g in
    let low = b.first in
    let if_known : g.rows ≢ 0 → start.ancillary.first < blocks_of g = λ some. omega (arith, low, blocks_known g some) in
    record {
      image = g;
      geometry = f.geometry;
      range = b.range;
      segment = b.segment;
      first = b.first_is;
      within = b.first;
      within_known = if_known;
      blocks = b.blocks;
      head = b.head;
      weights = b.shifts;
      last = f.last;
      index = f.index;
      later = b.later;
      known = b.known;
      same = b.same;
      height = known_height g b.height;
      past = b.after_last;
      whole = grind (arith, nat_tests);
    }
