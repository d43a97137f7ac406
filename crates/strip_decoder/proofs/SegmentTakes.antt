-- A segment that is taken.
use Rattle.std.proofs.Common.{◌≡◌, ◌≤◌, ◌<◌, ◌+◌, ◌-◌, ◌*◌, ◌^◌, ◌*ℤ◌, ℕ, ℤ, pos, List, length, drop, get_or, refl, sym, ap, subst, ◌∙◌, arith, length-drop}
use Rattle.std.proofs.Common.{Bool, true, false, Option, None, Some, Result, Ok, Err, IsOk, IsErr, MatchOption, unsigned_abs, length-take-le}
use Rattle.std.proofs.Common.{mul-le-mul_right}
use Rattle.std.proofs.lemmas.Bool.{false≢true}
use Rattle.std.proofs.lemmas.Bool.Decides.{nat_tests}
use Rattle.port_122.specs.Outside.{Outside, NoFewerFaults, Rose}
use Rattle.port_122.proofs.Stretches.{rose_since}
use Rattle.base_122.specs.Sizes.{first_block}
use Rattle.base_122.specs.declared.geometry.Geometry.{Geometry}
use Rattle.wave_defs.specs.Line.{floor_div}
use Rattle.wave_defs.specs.Blocks.{place_of, weight_at}
use Rattle.wave_defs.specs.Held.{block_at, blocks_in}
use Rattle.plane_defs.specs.Sets.{shift}
use Rattle.segment_defs.specs.TextWish.{TextWish, text_read}
use Rattle.segment_defs.specs.declared.head.SegmentHead.{SegmentHead}
use Rattle.segment_defs.specs.Head.{IsHead}
use Rattle.plane_defs.specs.Codes.{is_book_sound}
use Rattle.segment_defs.specs.Parts.{IsWeighted}
use Rattle.segment_defs.specs.TextWishLaws.{TextsReadAsWished}
use Rattle.base_122.proofs.ShiftLaws.{shift_low}
use Rattle.block_families.specs.Places.{AreWeighted}
use Rattle.packet_assembly.specs.declared.note.SegmentStart.{SegmentStart}
use Rattle.packet_assembly.specs.Assembling.{Assembling, last_index}
use Rattle.packet_assembly.specs.Segments.{FindsSegment, Continues}
use Rattle.stream_defs.specs.Begun.{placed}
use Rattle.block_families.proofs.Dividing.{divided}
use Rattle.strip_decoder.specs.Sinks.{Blocks, SinkOf, MayEnd}
use Rattle.strip_decoder.specs.declared.ending.DecodeFault.{DecodeFault}
use Rattle.strip_decoder.specs.declared.ending.DecodeFault.TheVariants.{TooManyPixels}
use Rattle.strip_decoder.specs.WalkSteps.{Walking, IsCurrent, PassesBlocks, AreBlocks, passed_in, total_in, Follows, missing}
use Rattle.strip_decoder.specs.Rooms.{IsRoom}
use Rattle.strip_decoder.specs.Segments.{FitsImage, FollowsFound, FollowsHead, FollowsHeld, TakesSegment, HasImage, IsAt, IsBetween, IsFound, IsShorter}
use Rattle.strip_decoder.specs.Segments.{ReadsText, HasTaken, HasReached, ReachesSegment, cells_of, pixels_reached}
use Rattle.strip_decoder.specs.Walks.{TakesAll, TookAll}
use Rattle.strip_decoder.proofs.Showing.{block_in, prefix_block}
use Rattle.strip_decoder.proofs.Between.{fewer_blocks, fits_ended, image_on, held_next}

-- ---- the numbers that were read

-- the numbers of a block that a text holds are parts of their weights
weighted : TextsReadAsWished → (texts : TextWish) (head : SegmentHead) (octets : List ℕ) (cells : List ℤ) (k : ℕ) →
    is_book_sound texts.book ≡ true → IsHead head →
    text_read texts head octets ≡ Ok (blocks_in (cells_of head cells)) → 64 * head.blocks ≤ length cells → k < head.blocks →
    AreWeighted (block_at cells k) head.image.weights.shifts
weighted read texts head octets cells k sound ok holds long lt =
    let weights = head.image.weights.shifts in
    let prefix = cells_of head cells in
    let size : length prefix ≡ 64 * head.blocks = length-take-le (64 * head.blocks) cells long in
    let number = λ (i : ℕ). get_or (block_at cells k) i (pos 0) in
    let part : (i : ℕ) → i < 64 → IsWeighted (shift weights i) (number i) = λ i small.
    subst (IsWeighted (shift weights i)) (ap (λ b. get_or b i (pos 0)) (block_in prefix k (omega (arith, size, lt)) ∙ prefix_block cells head.blocks k lt))
    (((read texts sound head octets ok).numbers (blocks_in prefix) holds).each k i lt small) in
    let quotient : (i : ℕ) → (small : i < 64) → (part i small).part ≡ floor_div (number i) (2 ^ get_or weights (place_of i).band 0) = λ i small.
    let k = get_or weights (place_of i).band 0 in
    sym (divided (part i small).part k (shift_low weights (place_of i).band ok.image.weights)) ∙ ap (λ z. floor_div z (2 ^ k)) (sym (part i small).is) in
    record {
      part = λ i. floor_div (number i) (2 ^ get_or weights (place_of i).band 0);
      whole = λ i small. (part i small).is ∙ ap (λ z. z *ℤ weight_at weights i) (quotient i small);
      small = λ i small. subst (λ z. unsigned_abs z ≤ 2 ^ 27) (quotient i small) (part i small).small;
    }

-- so they are blocks of the image
pub accepted_blocks : TextsReadAsWished → (texts : TextWish) → is_book_sound texts.book ≡ true → (g : Geometry) (start : SegmentStart) (cells : List ℤ)
    (old new : Outside) (a b : Assembling) (accepted : Bool) → FitsImage g start → 64 * start.head.blocks ≤ length cells →
    ReadsText texts old new a b start.head cells (Ok accepted) → accepted ≡ true → AreBlocks start.head.blocks g cells
accepted_blocks read texts sound g start cells old new a b true fits long reads e = record {
  at = λ k lt. (
    block_whole cells k (omega (arith, long, lt)),
    subst (AreWeighted (block_at cells k)) fits.weights
        (weighted read texts start.head reads.some cells k sound fits.head reads.holds long lt),
  );
}
  where
    block_whole : (cells : List ℤ) (k : ℕ) → 64 * k + 64 ≤ length cells → length (block_at cells k) ≡ 64
    block_whole cells k le = length-take-le 64 (drop (64 * k) cells) (let size = length-drop (64 * k) cells in omega (arith, size, le))
accepted_blocks read texts sound g start cells old new a b false fits long reads e = absurd cc

-- ---- the blocks that were passed

-- the text was read, accepted or not
pub text_goes : (texts : TextWish) (old new : Outside) (a b : Assembling) (head : SegmentHead) (cells : List ℤ) (accepted : Bool) →
    ReadsText texts old new a b head cells (Ok accepted) → Continues old new a b
text_goes texts old new a b head cells true reads = reads.goes
text_goes texts old new a b head cells false reads = reads.goes

pub faults_then : {p q r : Outside} → NoFewerFaults p q → NoFewerFaults q r → NoFewerFaults p r
faults_then a b = record { reads = omega (arith, a.reads, b.reads); writes = omega (arith, a.writes, b.writes); notes = omega (arith, a.notes, b.notes) }

-- a segment's blocks end at the first block of the next one, or with the image
pub segment_end : (g : Geometry) (start : SegmentStart) → FitsImage g start → start.ancillary.first + start.head.blocks ≤ first_block g.segment
    (start.ancillary.index + 1)
segment_end g start fits = grind (arith, nat_tests)

-- ---- a whole segment

-- the blocks before it were lost
pub reached_at : {S T E : Type 0} (k : SinkOf S) (r : Result T E) (w0 w1 : Outside) (a : Assembling) (p q : Walking S) (start : SegmentStart) (n : ℕ) →
    IsAt a p start → n ≡ start.ancillary.first - passed_in p → PassesBlocks k r missing n w0 w1 p q →
    ReachesSegment k w0 w1 a p q start r
reached_at k r w0 w1 a p q start n at n_is broken = grind (arith, nat_tests)

-- The walk has the geometry that is known once the text was read, accepted or not.
pub record HasFollowed {S : Type 0} (k : SinkOf S) (pixels : ℕ) (b : Assembling) (old new : Walking S) (start : SegmentStart) : Type 0 where
  pub current : IsCurrent k new
  pub shorter : IsShorter old.geometry new.geometry
  pub count : passed_in new ≡ passed_in old
  pub fits : FitsImage new.geometry start
  pub image : Geometry
  pub has : HasImage b image
  pub goes_by : new.geometry ≡ placed image
  pub last : b.held ≡ None → last_index b.state.last ≡ Some start.ancillary.index
  pub held : (next : SegmentStart) → b.held ≡ Some next → (last_index b.state.last ≡ Some next.ancillary.index) × FitsImage new.geometry next
      × (first_block new.geometry.segment (start.ancillary.index + 1) ≤ next.ancillary.first) × (pixels_reached image next ≤ pixels)
  pub follows : (blocks : Blocks) (gave : List ℕ) → Follows k old blocks gave → Follows k new blocks gave

shorter_by : (g h : Geometry) (n : ℕ) → MayEnd g h n → IsShorter g h
shorter_by g h n ends = grind (arith, nat_tests)

abbrev pub is_done : Result (Unit {0}) DecodeFault
is_done = Ok tt

pub has_followed : {S : Type 0} {w1 w2 : Outside} (k : SinkOf S) (pixels : ℕ) (a b : Assembling) (p q : Walking S) (start : SegmentStart) → IsAt a p start →
    IsCurrent k p → passed_in p ≡ start.ancillary.first → Continues w1 w2 a b →
    FollowsHeld k pixels b p q is_done → HasFollowed k pixels b p q start
has_followed k pixels a b p q start at current there goes follows = by b.held refl follows
  where
    fits : FitsImage p.geometry start
    fits = at.next.fits

    low : passed_in p ≤ first_block p.geometry.segment (start.ancillary.index + 1)
    low = let more : (start.ancillary.index + 1) * p.geometry.segment ≡ start.ancillary.index * p.geometry.segment + p.geometry.segment =
        grind arith in omega (arith, there, fits.first, more)

    few : passed_in p ≤ first_block at.image.segment (start.ancillary.index + 1)
    few = subst (λ (g : Geometry). passed_in p ≤ first_block g.segment (start.ancillary.index + 1)) at.goes_by low

    by : (o : Option SegmentStart) → b.held ≡ o → MatchOption o ((IsOk is_done) × (q ≡ p)) (λ next. FollowsFound k pixels b next p q is_done) →
        HasFollowed k pixels b p q start
    by None e x = grind (arith, nat_tests, fits, image_on)
    by (Some next) e x =
        let c = held_next a b at.image start.ancillary.index next at.has at.unheld at.last goes e in
        let f = x c.0.image c.0.geometry in
        let ends : MayEnd p.geometry (placed c.0.image) (passed_in p) = subst (λ h. MayEnd h (placed c.0.image) (passed_in p)) (sym at.goes_by)
        (c.0.ends (passed_in p) few) in
        let segment : q.geometry.segment ≡ c.0.image.segment = ap (λ (g : Geometry). g.segment) f.0.geometry in
        let more : (start.ancillary.index + 1) * c.0.image.segment ≤ next.ancillary.index * c.0.image.segment =
        mul-le-mul_right c.0.image.segment (omega (arith, c.0.later)) in
        record {
          current = f.0.current;
          shorter = subst (IsShorter p.geometry) (sym f.0.geometry) (shorter_by p.geometry (placed c.0.image) (passed_in p) ends);
          count = f.0.count;
          fits = subst (λ g. FitsImage g start) (sym f.0.geometry) (fits_ended p.geometry (placed c.0.image) (passed_in p) start next ends fits c.0.fits
              c.0.later);
          image = c.0.image;
          has = c.1;
          goes_by = f.0.geometry;
          last = λ none. absurd (let no : None ≡ Some next = sym none ∙ e in cc);
          held = grind (arith, nat_tests, fits);
          follows = f.0.follows;
        }

-- a read failed in its text
pub read_takes : {S : Type 0} (k : SinkOf S) (texts : TextWish) (w0 w1 w2 : Outside) (a b : Assembling) (p0 p : Walking S) (head : SegmentHead) (cells : List ℤ)
    (fault : DecodeFault) → NoFewerFaults w0 w1 → ReadsText texts w1 w2 a b head cells (Err fault) → TakesSegment k w0 w2 a b p0 p (Err fault)
read_takes k texts w0 w1 w2 a b p0 p head cells other faults failed = grind (arith, nat_tests, rose_since)

-- the head of the next segment reports too many pixels
head_takes : {S : Type 0} (k : SinkOf S) (pixels : ℕ) (w0 w2 : Outside) (a b : Assembling) (p0 p q : Walking S) (image : Geometry) (next : SegmentStart)
    (fault : DecodeFault) → FollowsHead k pixels image next p q (Err fault) → TakesSegment k w0 w2 a b p0 p (Err fault)
head_takes k pixels w0 w2 a b p0 p q image next other x = grind (arith, nat_tests)

abbrev is_failed : DecodeFault → Result (Unit {0}) DecodeFault
is_failed fault = Err fault

-- it states nothing of the walk
head_only : {S : Type 0} (k : SinkOf S) (pixels : ℕ) (image : Geometry) (next : SegmentStart) (p q : Walking S) (fault : DecodeFault) →
    FollowsHead k pixels image next p q (Err fault) → FollowsHead k pixels image next q q (Err fault)
head_only k pixels image next p q other x = grind (arith, nat_tests)

pub follow_takes : {S : Type 0} (k : SinkOf S) (pixels : ℕ) (w0 w2 w1 : Outside) (a b : Assembling) (p0 p q : Walking S) (start : SegmentStart)
    (fault : DecodeFault) → IsAt a p start → passed_in p ≡ start.ancillary.first → Continues w1 w2 a b → FollowsHeld k pixels b p q (Err fault) →
    TakesSegment k w0 w2 a b p0 q (Err fault)
follow_takes k pixels w0 w2 w1 a b p0 p q start fault at there goes follows = by b.held refl follows
  where
    by : (o : Option SegmentStart) → b.held ≡ o → MatchOption o ((IsOk (is_failed fault)) × (q ≡ p))
        (λ next. FollowsFound k pixels b next p q (is_failed fault)) → TakesSegment k w0 w2 a b p0 q (Err fault)
    by None e x = absurd (false≢true x.0)
    by (Some next) e x = let c = held_next a b at.image start.ancillary.index next at.has at.unheld at.last goes e in head_takes k pixels w0 w2 a b p0 q q
        c.0.image next fault (head_only k pixels c.0.image next p q fault (x c.0.image c.0.geometry))

-- a write failed among its blocks
pub write_later : {S T E : Type 0} (k : SinkOf S) (r : Result T E) (w0 w1 w2 w3 : Outside) (p q : Walking S) (values : ℕ → Option (List ℤ)) (n : ℕ) →
    IsErr r → NoFewerFaults w0 w1 → NoFewerFaults w1 w2 → PassesBlocks k r values n w2 w3 p q → Rose w0.write_faults w3.write_faults
write_later k r w0 w1 w2 w3 p q values n is before after broken = grind (arith, nat_tests, false≢true, rose_since)

pub shorter_then : {g h i : Geometry} → IsShorter g h → IsShorter h i → IsShorter g i
shorter_then {g = g} {h = h} {i = i} a b = record { same = b.same ∙ (λ j. record (a.same j) { rows = i.rows }); fewer = omega (arith, a.fewer, b.fewer) }

pub shorter_same : {g h : Geometry} → h ≡ g → IsShorter g h
shorter_same {g = g} {h = h} same = subst (IsShorter g) (sym same) record { same = refl; fewer = omega arith }

pub segment_taken : {S T E : Type 0} (k : SinkOf S) (texts : TextWish) (pixels : ℕ) (r : Result T E) (w0 w1 w2 w3 : Outside) (a b : Assembling)
    (start : SegmentStart) (p0 p1 p2 p3 : Walking S) (cells : List ℤ) (accepted : Bool) (values : ℕ → Option (List ℤ)) → IsOk r → IsAt a p0 start →
    HasReached k w0 w1 a p0 p1 start → ReadsText texts w1 w2 a b start.head cells (Ok accepted) → HasFollowed k pixels b p1 p2 start →
    PassesBlocks k r values start.head.blocks w2 w3 p2 p3 → HasTaken k w0 w3 a b p0 p3
segment_taken k texts pixels (Err e) w0 w1 w2 w3 a b start p0 p1 p2 p3 cells accepted values is at before reads followed past = absurd (false≢true is)
segment_taken k texts pixels (Ok x) w0 w1 w2 w3 a b start p0 p1 p2 p3 cells accepted values is at before reads followed past =
    let goes = text_goes texts w1 w2 a b start.head cells accepted reads in
    let fits = followed.fits in
    let end : passed_in p3 ≡ start.ancillary.first + start.head.blocks = omega (arith, past.count, followed.count, before.there) in
    let some = fits.head.blocks.0 in
    let few : passed_in p3 ≤ first_block p3.geometry.segment (start.ancillary.index + 1) =
    subst (λ (g : Geometry). passed_in p3 ≤ first_block g.segment (start.ancillary.index + 1)) (sym past.geometry)
    (omega (arith, end, segment_end p2.geometry start fits)) in
    record {
      current = past.current;
      geometry = shorter_then (shorter_same before.geometry) (shorter_then followed.shorter (shorter_same past.geometry));
      between = record {
        image = followed.image;
        has = followed.has;
        goes_by = past.geometry ∙ followed.goes_by;
        unheld = λ none. (start.ancillary.index, followed.last none, few);
        held = λ next held.
            let h = followed.held next held in (
              h.0,
              record {
                fits = subst (λ g. FitsImage g next) (sym past.geometry) h.1;
                reached = omega (arith, end, segment_end p2.geometry start fits, h.2);
              },
            );
      };
      more = omega (arith, end, some, at.next.reached);
      faults = faults_then before.faults (faults_then goes.passes.since.faults past.out.faults);
    }

-- ---- the segment after it

-- the walk has the geometry of the image of a segment that was returned
pub record HasFollowedFound {S : Type 0} (k : SinkOf S) (a : Assembling) (p q : Walking S) (start : SegmentStart) : Type 0 where
  pub current : IsCurrent k q
  pub shorter : IsShorter p.geometry q.geometry
  pub count : passed_in q ≡ passed_in p
  pub at : IsAt a q start

pub found_follows : {S : Type 0} (k : SinkOf S) (pixels : ℕ) (a : Assembling) (p q : Walking S) (start : SegmentStart) → IsFound a p start →
    FollowsFound k pixels a start p q is_done → HasFollowedFound k a p q start
found_follows k pixels a p q start found follows = grind (arith, nat_tests, shorter_by)

pub fewer_left : {S : Type 0} {a : Assembling} {start : SegmentStart} (k : SinkOf S) (old p q : Walking S) → total_in p - passed_in p < total_in old
    - passed_in old → HasFollowedFound k a p q start → total_in q - passed_in q < total_in old - passed_in old
fewer_left k old p q less followed = grind (arith, nat_tests, fewer_blocks)

-- its head reports too many pixels
pub found_takes : {S : Type 0} (k : SinkOf S) (pixels : ℕ) (w0 w2 : Outside) (a b : Assembling) (p0 p q : Walking S) (start : SegmentStart)
    (fault : DecodeFault) → IsFound b p start → FollowsFound k pixels b start p q (is_failed fault) → TakesAll k w0 w2 a b p0 q (Err fault)
found_takes k pixels w0 w2 a b p0 p q start fault found follows = by fault (follows found.image found.has.geometry)
  where
    by : (fault : DecodeFault) → FollowsHead k pixels found.image start p q (is_failed fault) → TakesAll k w0 w2 a b p0 q (Err fault)
    by (TooManyPixels n) x = tt
    by other x = absurd x

-- all segments were taken
pub all_takes : {S : Type 0} (k : SinkOf S) (w0 w1 w2 : Outside) (a0 a b : Assembling) (p0 p : Walking S) → IsCurrent k p → IsBetween a p →
    FindsSegment w1 w2 a b (Ok None) → NoFewerFaults w0 w2 → TookAll k w0 w2 a0 b p0 p
all_takes k w0 w1 w2 a0 a b p0 p current between finds faults = grind (arith, nat_tests, image_on)

-- there is room for the segments of an image of fewer rows
pub room_shorter : {g h : Geometry} {blocks marks cells room : ℕ} → IsRoom g blocks marks → IsShorter g h → cells ≡ blocks → room ≡ marks → IsRoom h cells room
room_shorter {g = g} {h = h} {cells = cells} {room = room} r short b m = grind (arith, nat_tests, fewer_blocks)

-- the blocks of a segment have room
pub blocks_fit : (g : Geometry) (start : SegmentStart) (blocks marks : ℕ) → IsRoom g blocks marks → FitsImage g start →
    (64 * start.head.blocks ≤ blocks) × (start.head.blocks ≤ marks)
blocks_fit g start blocks marks room fits = grind (arith, nat_tests)

-- each segment leaves fewer blocks
pub more_taken : {S : Type 0} {p q : Outside} {a b : Assembling} (k : SinkOf S) (old new : Walking S) → HasTaken k p q a b old new →
    total_in new - passed_in new < total_in old - passed_in old
more_taken k old new taken = grind (arith, nat_tests, fewer_blocks)
