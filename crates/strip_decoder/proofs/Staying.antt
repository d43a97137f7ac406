-- The image of a walk, whatever packets follow.
use Rattle.std.proofs.Common.{◌≡◌, ◌⊎◌, ◌≤◌, ◌<◌, ◌+◌, ◌*◌, ℕ, List, [], ◌∷◌, ◌++◌, sym, ap, subst, ◌∙◌, inl, inr, arith, append_assoc, Option, None, Some}
use Rattle.std.proofs.Common.{append-nil, mul-le-mul_right}
use Rattle.std.proofs.lemmas.Bool.{false≢true}
use Rattle.std.proofs.lemmas.Bool.Decides.{nat_tests}
use Rattle.std.proofs.lemmas.Option.{same_Some}
use Rattle.base_122.specs.Sizes.{first_block}
use Rattle.base_122.specs.Ranges.{IsGeometryInRange, IsWithin, rows_range}
use Rattle.base_122.specs.declared.geometry.Geometry.{Geometry}
use Rattle.stream_defs.specs.declared.fate.FateState.{FateState}
use Rattle.stream_defs.specs.declared.fate.LastPart.{LastPart}
use Rattle.stream_defs.specs.Agreement.{blocks_of}
use Rattle.stream_defs.specs.Begun.{placed, placed_rows}
use Rattle.stream_defs.specs.Fates.{fresh, after, after_all}
use Rattle.stream_defs.proofs.KeptOrder.{Begins, does}
use Rattle.stream_defs.proofs.PlacedLaws.{placed_open, placed_least}
use Rattle.stream_defs.proofs.ChosenLaws.{after_all-append}
use Rattle.packet_assembly.specs.declared.note.SegmentStart.{SegmentStart}
use Rattle.packet_assembly.specs.Assembling.{Starts, last_index}
use Rattle.packet_assembly.proofs.Ends.{starts_with}
use Rattle.packet_assembly.proofs.Images.{Begun, begun_by, geometry_same}
use Rattle.strip_decoder.specs.Sinks.{Blocks, SinkOf, EndsAt, MayEnd}
use Rattle.strip_decoder.specs.Segments.{FitsImage}

-- ---- geometries

-- the height is known, or it isn't
pub known_or_not : (rows : ℕ) → (rows ≡ 0) ⊎ (rows ≡ 0 → ⊥)
known_or_not rows = grind (arith, nat_tests, false≢true)

pub placed_within : (g : Geometry) → IsGeometryInRange g → IsWithin rows_range (placed_rows g)
placed_within g range = placed_least g range.rows

pub placed_range : (g : Geometry) → IsGeometryInRange g → IsGeometryInRange (placed g)
placed_range g range = grind (arith, nat_tests, placed_within)

pub last_some : (o : Option LastPart) (n : ℕ) → last_index o ≡ Some n → (l : LastPart) × (o ≡ Some l) × (l.index ≡ n)
last_some o n e = grind (arith, nat_tests)

-- ---- a packet that begins a segment

-- its head is read
pub starts_of : (apid : ℕ) (s : FateState) (x : List ℕ) → Begins apid s x → (start : SegmentStart) × Starts apid s x start
starts_of apid s x begins = grind (arith, nat_tests, starts_with)

-- it is one of its image
pub fits_begun : (apid : ℕ) (s : FateState) (packet : List ℕ) (start : SegmentStart) → (b : Begun apid s packet start) → FitsImage (placed b.image) start
fits_begun apid s packet start b = record { first = b.first; within = b.within; blocks = b.blocks; head = b.head; weights = b.weights }

-- ---- the image of a walk

-- The image that packets left is the one of this geometry as far as block n: it is the same, or it ends later than that block.
pub record StaysIn (s : FateState) (g : Geometry) (n : ℕ) : Type 0 where
  pub image : Geometry
  pub geometry : s.geometry ≡ Some image
  pub range : IsGeometryInRange image
  pub ends : MayEnd g (placed image) n
  pub index : ℕ
  pub last : last_index s.last ≡ Some index
  pub before : n ≤ first_block g.segment (index + 1)

-- its segments are those of the walk's geometry
pub ends_segment : (g h : Geometry) (n : ℕ) → MayEnd g h n → h.segment ≡ g.segment
ends_segment g h n ends = elim ends [ inl same ↦ ap (λ (g : Geometry). g.segment) same | inr e ↦ ap (λ (g : Geometry). g.segment) e.same ]

-- if its height becomes known
known_ends : (g image if_known : Geometry) (n first : ℕ) → MayEnd g (placed image) n → image.rows ≡ 0 → if_known ≡ record image { rows = if_known.rows } →
    IsGeometryInRange if_known → (if_known.rows ≡ 0 → ⊥) → n ≤ first → first < blocks_of (placed if_known) → EndsAt g (placed if_known) n
known_ends g image if_known n first ends none same range some le within = grind (arith, nat_tests, placed_within, placed_open, placed_range)

module _ (apid : ℕ) (before : List (List ℕ)) (g : Geometry) (n : ℕ) (stays : StaysIn (after_all apid fresh before) g n) where
  abbrev s : FateState
  s = after_all apid fresh before

  last_l : (l : LastPart) × (s.last ≡ Some l) × (l.index ≡ stays.index)
  last_l = last_some s.last stays.index stays.last

  -- a segment is begun
  pub stays_begun : (packet : List ℕ) (start : SegmentStart) → Starts apid s packet start → StaysIn (after apid s packet) g n
  stays_begun packet start starts =
      let b = begun_by apid before packet start starts in
      let l = last_l in
      let later = b.later l.0 l.1 in
      let past = b.past l.0 l.1 in
      let parts : b.image ≡ record stays.image { rows = b.image.rows } = b.same stays.image stays.geometry in
      let range : IsGeometryInRange b.image = b.range (λ none. absurd (let no : None ≡ Some stays.image = sym none ∙ stays.geometry in cc))
      (λ h is. let same : stays.image ≡ h = (let e : Some stays.image ≡ Some h = sym stays.geometry ∙ is in same_Some _ _ e) in subst IsGeometryInRange
      same stays.range) in
      let segment : b.image.segment ≡ g.segment = ap (λ (g : Geometry). g.segment) parts ∙ ends_segment g (placed stays.image) n stays.ends in
      let low : n ≤ start.ancillary.first = omega (
        arith,
        stays.before,
        past,
        ap (λ m. first_block m (l.0.index + 1)) segment,
        ap (λ i. first_block g.segment (i + 1)) l.2,
      ) in
      let more : (stays.index + 1) * g.segment ≤ (start.ancillary.index + 1) * g.segment = mul-le-mul_right g.segment (omega (arith, later, l.2)) in
      record {
        image = b.image;
        geometry = b.geometry;
        range = range;
        ends = grind (arith, nat_tests, known_or_not, known_ends);
        index = start.ancillary.index;
        last = ap last_index b.last ∙ ap Some b.index;
        before = omega (arith, stays.before, more);
      }

  stays_one : (packet : List ℕ) → StaysIn (after apid s packet) g n
  stays_one packet = elim (does apid s packet) [
    | inl lost ↦ subst (λ s. StaysIn s g n) (sym lost.same) stays
    | inr here ↦ elim here [
      | inl begins ↦ let x = starts_of apid s packet begins in stays_begun packet x.0 x.1
      | inr follows ↦
          let index : last_index (after apid s packet).last ≡ last_index s.last = ap last_index follows.last ∙ ap Some follows.index
          ∙ sym (ap last_index follows.before_is) in
          record {
            image = stays.image;
            geometry = geometry_same apid s (packet ∷ []) index ∙ stays.geometry;
            range = stays.range;
            ends = stays.ends;
            index = stays.index;
            last = index ∙ stays.last;
            before = stays.before;
          }
    ]
  ]

pub stays_on : (apid : ℕ) (before packets : List (List ℕ)) (g : Geometry) (n : ℕ) → StaysIn (after_all apid fresh before) g n →
    StaysIn (after_all apid fresh (before ++ packets)) g n
stays_on apid before [] g n stays = subst (λ xs. StaysIn (after_all apid fresh xs) g n) (sym (append-nil before)) stays
stays_on apid before (x ∷ xs) g n stays =
    let one : StaysIn (after_all apid fresh (before ++ x ∷ [])) g n = subst (λ s. StaysIn s g n) (sym (after_all-append apid fresh before (x ∷ [])))
    (stays_one apid before g n stays x) in
    subst (λ ys. StaysIn (after_all apid fresh ys) g n) (append_assoc before (x ∷ []) xs) (stays_on apid (before ++ x ∷ []) xs g n one)

-- a walk has the geometry of its state
pub stays_here : (s : FateState) (g image : Geometry) (n index : ℕ) → s.geometry ≡ Some image → IsGeometryInRange image → placed image ≡ g →
    last_index s.last ≡ Some index → n ≤ first_block g.segment (index + 1) → StaysIn s g n
stays_here s g image n index geometry range same last before = record {
  image = image;
  geometry = geometry;
  range = range;
  ends = inl same;
  index =
      index;
  last = last;
  before = before;
}

-- an image that packets left is the one
pub stays_at : (s : FateState) (g : Geometry) (n : ℕ) (image : Geometry) → StaysIn s g n → s.geometry ≡ Some image →
    IsGeometryInRange image × MayEnd g (placed image) n
stays_at s g n image stays is = let same : stays.image ≡ image =
    same_Some _ _ (sym stays.geometry ∙ is) in subst (λ h. IsGeometryInRange h × MayEnd g (placed h) n) same (stays.range, stays.ends)

-- as far as fewer blocks
pub ends_fewer : (g h : Geometry) (m n : ℕ) → m ≤ n → MayEnd g h n → MayEnd g h m
ends_fewer g h m n le ends = grind (arith, nat_tests)

-- ---- what a sink gives of it

pub part_ends : {S : Type 0} (k : SinkOf S) (g h : Geometry) (blocks : Blocks) (n : ℕ) (gave : List ℕ) → MayEnd g h n → k.Part g blocks n gave →
    k.Part h blocks n gave
part_ends k g h blocks n gave ends part = grind (arith, nat_tests)
