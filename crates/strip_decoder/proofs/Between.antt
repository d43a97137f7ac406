-- From one segment to the next.
use Rattle.std.proofs.Common.{◌≡◌, ◌≤◌, ◌<◌, ◌+◌, ℕ, List, [], ◌∷◌, ◌++◌, refl, sym, ap, subst, ◌∙◌, inl, inr, arith, Option, None, Some, Ok}
use Rattle.std.proofs.Common.{mul-le-mul_left, mul-le-mul_right}
use Rattle.std.proofs.lemmas.Option.{same_Some}
use Rattle.std.proofs.lemmas.Bool.Decides.{nat_tests}
use Rattle.port_122.specs.Outside.{Outside, NoFewerFaults}
use Rattle.base_122.specs.Sizes.{first_block}
use Rattle.base_122.specs.Ranges.{IsGeometryInRange}
use Rattle.base_122.specs.declared.geometry.Geometry.{Geometry}
use Rattle.stream_defs.specs.declared.fate.FateState.{FateState}
use Rattle.stream_defs.specs.Agreement.{blocks_of}
use Rattle.stream_defs.specs.Begun.{placed}
use Rattle.stream_defs.specs.Fates.{fresh, after, after_all}
use Rattle.stream_defs.proofs.ChosenLaws.{after_all-append}
use Rattle.packet_assembly.specs.declared.note.SegmentStart.{SegmentStart}
use Rattle.packet_assembly.specs.Assembling.{Assembling, Starts, BeginsNone, last_index, unread_assembly}
use Rattle.packet_assembly.specs.Segments.{Continues, FindsSegment}
use Rattle.packet_assembly.proofs.Images.{begun_by, geometry_none, index_none}
use Rattle.strip_decoder.specs.Sinks.{SinkOf, MayEnd}
use Rattle.strip_decoder.specs.WalkSteps.{Walking, IsFresh, passed_in, total_in}
use Rattle.strip_decoder.specs.Segments.{FitsImage, HasImage, IsAt, IsBetween, MayFollow, MayFollowHeld, IsFound}
use Rattle.strip_decoder.proofs.Staying.{last_some, fits_begun, stays_here, stays_begun, stays_at}

-- ---- geometries

-- an image of fewer rows has no more blocks
pub fewer_blocks : (g h : Geometry) → h ≡ record g { rows = h.rows } → h.rows ≤ g.rows → blocks_of h ≤ blocks_of g
fewer_blocks g h same fewer = grind (arith, nat_tests, mul-le-mul_left)

-- a segment is one of the image that ends earlier if a segment of that image follows it
pub fits_ended : (g h : Geometry) (n : ℕ) (start next : SegmentStart) → MayEnd g h n → FitsImage g start → FitsImage h next →
    start.ancillary.index < next.ancillary.index → FitsImage h start
fits_ended g h n start next ends fits after lt = grind (arith, nat_tests, mul-le-mul_right, fewer_blocks)

-- ---- states

-- the state after some packets and then one more
pub after_more : (apid : ℕ) (s : FateState) (prefix : List (List ℕ)) (packet : List ℕ) → after_all apid s (prefix ++ packet ∷ [])
    ≡ after apid (after_all apid s prefix) packet
after_more apid s prefix packet = after_all-append apid s prefix (packet ∷ [])

-- the state after what an assembly has passed and some more packets
pub state_past : (a : Assembling) (image : Geometry) (packets : List (List ℕ)) → (has : HasImage a image) →
    after_all a.apid a.state packets ≡ after_all a.apid fresh (has.passed ++ packets)
state_past a image packets has = ap (λ s. after_all a.apid s packets) has.state ∙ sym (after_all-append a.apid fresh has.passed packets)

-- packets were passed that begin no segment
pub image_on : (a b : Assembling) (image : Geometry) (packets : List (List ℕ)) → HasImage a image → b.apid ≡ a.apid →
    b.state ≡ after_all a.apid a.state packets → BeginsNone a.apid a.state packets → HasImage b image
image_on a b image packets has apid state none = record {
  passed = has.passed ++ packets;
  state = state ∙ state_past a image packets has ∙ ap (λ n. after_all n fresh (has.passed ++ packets)) (sym apid);
  geometry = ap (λ (s : FateState). s.geometry) state ∙ geometry_none a.apid a.state packets none ∙ has.geometry;
  range = has.range;
}

-- ---- the segment that follows

-- what is known of a segment that follows the one of this index, in an image that was of this geometry
pub record ArrivesNext (g : Geometry) (index : ℕ) (s : FateState) (start : SegmentStart) : Type 0 where
  pub image : Geometry
  pub geometry : s.geometry ≡ Some image
  pub range : IsGeometryInRange image
  pub segment : image.segment ≡ g.segment
  pub fits : FitsImage (placed image) start
  pub later : index < start.ancillary.index
  pub last : last_index s.last ≡ Some start.ancillary.index
  pub ends : (n : ℕ) → n ≤ first_block g.segment (index + 1) → MayEnd (placed g) (placed image) n

pub arrives_next : (a : Assembling) (prefix : List (List ℕ)) (packet : List ℕ) (start : SegmentStart) (g : Geometry) (index : ℕ) → HasImage a g →
    last_index a.state.last ≡ Some index →
    BeginsNone a.apid a.state prefix → Starts a.apid (after_all a.apid a.state prefix) packet start →
    ArrivesNext g index (after_all a.apid a.state (prefix ++ packet ∷ [])) start
arrives_next a prefix packet start g index has last none starts =
    let there = has.passed ++ prefix in
    let state = state_past a g prefix has in
    let started : Starts a.apid (after_all a.apid fresh there) packet start = subst (λ s. Starts a.apid s packet start) state starts in
    let b = begun_by a.apid there packet start started in
    let geometry : (after_all a.apid fresh there).geometry ≡ Some g = ap (λ (s : FateState). s.geometry) (sym state) ∙ geometry_none a.apid a.state prefix
    none ∙ has.geometry in
    let here : last_index (after_all a.apid fresh there).last ≡ Some index = ap (λ (s : FateState). last_index s.last) (sym state)
    ∙ index_none a.apid a.state prefix none ∙ last in
    let l = last_some (after_all a.apid fresh there).last index here in
    let more : after_all a.apid a.state (prefix ++ packet ∷ []) ≡ after a.apid (after_all a.apid fresh there) packet =
    after_more a.apid a.state prefix packet ∙ ap (λ s. after a.apid s packet) state in
    let stays = λ (n : ℕ) (le : n ≤ first_block g.segment (index + 1)). stays_begun a.apid there (placed g) n
    (stays_here (after_all a.apid fresh there) (placed g) g n index geometry has.range refl here le) packet start started in
    record {
      image = b.image;
      geometry = ap (λ (s : FateState). s.geometry) more ∙ b.geometry;
      range = (stays_at (after a.apid (after_all a.apid fresh there) packet) (placed g) 0 b.image (stays 0 (omega arith)) b.geometry).0;
      segment = ap (λ (h : Geometry). h.segment) (b.same g geometry);
      fits = fits_begun a.apid (after_all a.apid fresh there) packet start b;
      later = omega (arith, b.later l.0 l.1, l.2);
      last = ap (λ (s : FateState). last_index s.last) more ∙ ap last_index b.last ∙ ap Some b.index;
      ends = λ n le. (stays_at (after a.apid (after_all a.apid fresh there) packet) (placed g) n b.image (stays n le) b.geometry).1;
    }

-- the image after it
pub image_next : (a b : Assembling) (passed prefix : List (List ℕ)) (packet : List ℕ) (start : SegmentStart) (g : Geometry) (index : ℕ) → HasImage a g →
    b.apid ≡ a.apid → b.state ≡ after_all a.apid a.state passed → passed ≡ prefix ++ packet ∷ [] →
    (next : ArrivesNext g index (after_all a.apid a.state (prefix ++ packet ∷ [])) start) → HasImage b next.image
image_next a b passed prefix packet start g index has apid state are next = record {
  passed = has.passed ++ passed;
  state = state ∙ state_past a g passed has ∙ ap (λ n. after_all n fresh (has.passed ++ passed)) (sym apid);
  geometry = ap (λ (s : FateState). s.geometry) state ∙ ap (λ xs. (after_all a.apid a.state xs).geometry) are ∙ next.geometry;
  range = next.range;
}

-- its first block isn't before the end of the segment of that index
follow_next : {S : Type 0} (p : Walking S) (g : Geometry) (index : ℕ) (s : FateState) (start : SegmentStart) → p.geometry ≡ placed g →
    passed_in p ≤ first_block g.segment (index + 1) → (next : ArrivesNext g index s start) → MayFollow next.image p start
follow_next p g index s start same le next = grind (arith, nat_tests, mul-le-mul_right)

-- ---- from one segment to the next

-- the segment of the walk was read, accepted or not, and one was begun after it
pub held_next : {old new : Outside} (a b : Assembling) (g : Geometry) (index : ℕ) (next : SegmentStart) → HasImage a g → a.held ≡ None →
    last_index a.state.last ≡ Some index → (goes : Continues old new a b) → b.held ≡ Some next →
    (c : ArrivesNext g index b.state next) × HasImage b c.image
held_next a b g index next has unheld last goes held =
    let began = goes.began unheld next held in
    let state : b.state ≡ after_all a.apid a.state (began.prefix ++ began.packet ∷ []) = goes.passes.state ∙ ap (after_all a.apid a.state) began.passed_are in
    let c = arrives_next a began.prefix began.packet next g index has last began.none_before began.starts in
    let d : ArrivesNext g index b.state next = record {
      image = c.image;
      geometry = ap (λ (s : FateState). s.geometry) state ∙ c.geometry;
      range = c.range;
      segment = c.segment;
      fits = c.fits;
      later = c.later;
      last = ap (λ (s : FateState). last_index s.last) state ∙ c.last;
      ends = c.ends;
    } in
    (d, image_next a b goes.passed began.prefix began.packet next g index has goes.passes.apid goes.passes.state began.passed_are c)

-- whatever was passed, the walk may follow the segment that an assembly holds
pub may_follow : {S : Type 0} {old new : Outside} (a b : Assembling) (p : Walking S) (start : SegmentStart) → IsAt a p start → Continues old new a b →
    passed_in p ≤ first_block p.geometry.segment (start.ancillary.index + 1) → MayFollowHeld b p
may_follow a b p start at goes le = by b.held refl
  where
    few : passed_in p ≤ first_block at.image.segment (start.ancillary.index + 1)
    few = subst (λ (g : Geometry). passed_in p ≤ first_block g.segment (start.ancillary.index + 1)) at.goes_by le

    by : (o : Option SegmentStart) → b.held ≡ o → MayFollowHeld b p
    by None e = grind (arith, nat_tests, image_on)
    by (Some next) e =
        let c = held_next a b at.image start.ancillary.index next at.has at.unheld at.last goes e in
        record {
          image = c.0.image;
          has = c.1;
          next = λ start' held. subst (MayFollow c.0.image p) (let same : Some next ≡ Some start' = sym e ∙ held in cc)
              (follow_next p at.image start.ancillary.index b.state next at.goes_by few c.0);
        }

-- a walk at a segment's first block is before the next segment
pub segment_low : {S : Type 0} (p : Walking S) (start : SegmentStart) → FitsImage p.geometry start → passed_in p ≡ start.ancillary.first →
    passed_in p ≤ first_block p.geometry.segment (start.ancillary.index + 1)
segment_low p start fits there = grind (arith, nat_tests)

-- a segment was returned
pub found_at : {S : Type 0} {old new : Outside} (a b : Assembling) (p : Walking S) (start : SegmentStart) → IsBetween a p →
    FindsSegment old new a b (Ok (Some start)) → IsFound b p start
found_at {old = old} {new = new} a b p start between finds = elim finds.ends [
  | inl held ↦
      let h = between.held start held.held in
      subst (λ b. IsFound b p start) (sym held.valid) record {
        image = between.image;
        has = record { passed = between.has.passed; state = between.has.state; geometry = between.has.geometry; range = between.has.range };
        unheld = refl;
        last = h.0;
        next = record {
          range = between.has.range;
          ends = inl (sym between.goes_by);
          fits = subst (λ g. FitsImage g start) between.goes_by h.1.fits;
          reached = h.1.reached;
        };
      }
  | inr found ↦
      let u = between.unheld found.none_held in
      let next = arrives_next a found.prefix found.packet start between.image u.0 between.has u.1 found.none_before found.starts in
      let few : passed_in p ≤ first_block between.image.segment (u.0 + 1) =
      subst (λ (g : Geometry). passed_in p ≤ first_block g.segment (u.0 + 1)) between.goes_by u.2 in
      record {
        image = next.image;
        has = image_next a b (found.prefix ++ found.packet ∷ []) found.prefix found.packet start between.image u.0 between.has found.passed.apid
            found.passed.state refl next;
        unheld = found.none_after;
        last = ap (λ (s : FateState). last_index s.last) found.passed.state ∙ next.last;
        next = follow_next p between.image u.0 _ start between.goes_by few next;
      }
]

-- it begins in the image whose geometry the walk has
pub found_within : {S : Type 0} {a : Assembling} (p : Walking S) (start : SegmentStart) → IsFound a p start → start.ancillary.first ≤ total_in p
found_within p start found = elim found.next.ends [
  | inl same ↦ let total : blocks_of (placed found.image) ≡ total_in p = ap blocks_of same in omega (arith, total, found.next.fits.within)
  | inr e ↦ omega (arith, found.next.fits.within, fewer_blocks p.geometry (placed found.image) e.same e.fewer)
]

-- no count of faults fell meanwhile
pub finds_faults : {old new : Outside} (a b : Assembling) (found : Option SegmentStart) → FindsSegment old new a b (Ok found) → NoFewerFaults old new
finds_faults {old = old} {new = new} a b None finds = finds.ends.0.passes.since.faults
finds_faults {old = old} {new = new} a b (Some start) finds = grind (arith, nat_tests)

-- ---- the first segment

-- the first segment was returned
pub found_first : {S : Type 0} {old new : Outside} (k : SinkOf S) (apid cap : ℕ) (a b : Assembling) (p : Walking S) (start : SegmentStart) (g : Geometry) →
    a ≡ unread_assembly apid cap → FindsSegment old new a b (Ok (Some start)) → b.state.geometry ≡ Some g → IsGeometryInRange g →
    IsFresh k (placed g) p → IsAt b p start
found_first {old = old} {new = new} k apid cap a b p start g unread finds geometry range fresh_walk =
    let here : FindsSegment old new (unread_assembly apid cap) b (Ok (Some start)) = subst (λ a. FindsSegment old new a b (Ok (Some start))) unread finds in
    elim here.ends [
      | inl held ↦ absurd (let no : None ≡ Some start = held.held in cc)
      | inr found ↦
          let there = after_all apid fresh found.prefix in
          let b' = begun_by apid found.prefix found.packet start found.starts in
          let state = found.passed.state ∙ after_more apid fresh found.prefix found.packet in
          let made : b'.image ≡ g = same_Some _ _ (sym b'.geometry ∙ sym (ap (λ (s : FateState). s.geometry) state) ∙ geometry) in
          record {
            image = g;
            has = record {
              passed = found.prefix ++ found.packet ∷ [];
              state =
                  found.passed.state ∙ ap (λ n. after_all n fresh (found.prefix ++ found.packet ∷ [])) (sym found.passed.apid);
              geometry = geometry;
              range =
                  range;
            };
            goes_by = fresh_walk.geometry;
            unheld = found.none_after;
            last = ap (λ (s : FateState). last_index s.last) state ∙ ap last_index b'.last ∙ ap Some b'.index;
            next = grind (arith, nat_tests, fits_begun);
          }
    ]
