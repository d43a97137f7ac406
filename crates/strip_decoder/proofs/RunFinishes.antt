-- A run ends.
use Rattle.std.proofs.Common.{◌≡◌, ◌≤◌, ◌<◌, ◌+◌, ◌*◌, ◌/◌, ◌-◌, ◌==◌, ℕ, List, ◌++◌, refl, sym, ap, subst, ◌∙◌, inl, arith, Bool, not, None, Some, Err}
use Rattle.std.proofs.lemmas.Nat.{le-div}
use Rattle.std.proofs.lemmas.Bool.Decides.{nat_tests}
use Rattle.port_122.specs.Outside.{Outside}
use Rattle.packet_defs.specs.Streams.{whole_packets}
use Rattle.stream_defs.specs.declared.fate.FateState.{FateState}
use Rattle.stream_defs.specs.Begun.{HasFewPixels, end_of, placed}
use Rattle.stream_defs.specs.Fates.{fresh, after_all, kept, kept_in, geometry_in}
use Rattle.stream_defs.proofs.PlacedLaws.{is_open, is_not_open, blocks_known}
use Rattle.stream_defs.specs.Received.{ReceivedIn}
use Rattle.base_122.specs.Sizes.{first_block}
use Rattle.base_122.specs.declared.geometry.Geometry.{Geometry}
use Rattle.packet_assembly.specs.declared.note.SegmentStart.{SegmentStart}
use Rattle.packet_assembly.specs.Assembling.{Assembling, last_index}
use Rattle.packet_assembly.specs.Segments.{FoundNone, IsValidEnded, IsValidLong}
use Rattle.packet_assembly.proofs.Readings.{read_within, out_later, ended_packets, ended_framing, ended_out, long_packets, long_full, long_good}
use Rattle.packet_assembly.proofs.Images.{end_within, unknown_room}
use Rattle.strip_decoder.specs.declared.ending.DecodeFault.{DecodeFault}
use Rattle.strip_decoder.specs.declared.ending.DecodeFault.TheVariants.{ReadFault, TooManyPixels, LongInput}
use Rattle.strip_decoder.specs.Sinks.{Numbers, SinkOf, blocks_with}
use Rattle.strip_decoder.specs.WalkSteps.{Walking, IsCurrent, HasPassed, StopsEarly, missing, passed_in, total_in}
use Rattle.strip_decoder.specs.Segments.{FollowsFound, FollowsHead, HasImage, IsBetween, IsFound, FindsNext}
use Rattle.strip_decoder.specs.Runs.{Run, holds_after, HasFew, HasWalkedTo, WalksAfter, WalksIn, WalksPast, ArrivesToEnd, HasBroken, HasFailedWrite, HasLong}
use Rattle.strip_decoder.specs.Runs.{BreaksRun, blocks_passed}
use Rattle.strip_decoder.specs.Walks.{HasPassedAll, is_height_known, left_in}
use Rattle.strip_decoder.proofs.TextReads.{left_after}
use Rattle.strip_decoder.proofs.Staying.{known_or_not, ends_segment, stays_here}
use Rattle.strip_decoder.proofs.Between.{image_on}
use Rattle.strip_decoder.proofs.Showing.{block_lost, block_by, shows_passed}
use Rattle.strip_decoder.proofs.SegmentTakes.{is_done}
use Rattle.strip_decoder.proofs.Asking.{blocks_by, few_same, within_passed, wrote_on, both_report}
use Rattle.strip_decoder.proofs.RunFinds.{known_on, read_arrived, stays_arrived}
use Rattle.strip_decoder.proofs.RunPasses.{arrived_broken, failed, few_begun, many_broken}
use Rattle.strip_decoder.proofs.RunEnds.{all_received}

-- ---- no segment follows

module _ {S : Type 0} (k : SinkOf S) (w : Run) (now new : Outside) (a b : Assembling) (p : Walking S) (current : IsCurrent k p) (between : IsBetween a p)
    (past : WalksPast k w now a p) (found : FoundNone now new a b) where
  none_arrived : HasWalkedTo k w new b p (past.index + 1)
  none_arrived = stays_arrived k w now new a b p found.passed current between past found.none_held found.passes

  has_then : HasImage b between.image
  has_then = image_on a b between.image found.passed between.has found.passes.apid found.passes.state found.none_begins

  last_then : last_index b.state.last ≡ Some past.index
  last_then = found.stays ∙ past.last found.none_held

  -- no head was read
  small_then : HasFew w.pixels w.apid none_arrived.known.passed
  unfolding none_arrived stays_arrived read_arrived known_on
  small_then =
      let known = past.arrived.known in
      let there : after_all w.apid (after_all w.apid fresh known.passed) found.passed ≡ after_all a.apid a.state found.passed =
      ap (λ s. after_all w.apid s found.passed) (sym known.read.state) ∙ ap (λ n. after_all n a.state found.passed) (sym known.read.apid) in
      few_same w.pixels w.apid known.passed found.passed past.small
      (ap (λ (s : FateState). last_index s.last) (there ∙ sym found.passes.state) ∙ found.stays ∙ ap (λ (s : FateState). last_index s.last) known.read.state)

  pub run_ends : IsValidEnded b → ArrivesToEnd k w new b p
  run_ends ended = record {
    index = past.index;
    arrived = none_arrived;
    small = small_then;
    last = last_then;
    image = between.image;
    has = has_then;
    goes_by = between.goes_by;
    ended = ended;
    reached = past.reached;
  }

  run_broken : HasBroken k w new
  run_broken =
      arrived_broken k w new b p (past.index + 1) none_arrived current
      (stays_here b.state p.geometry between.image (passed_in p) past.index has_then.geometry between.has.range (sym between.goes_by) last_then
      none_arrived.few)

  run_long : IsValidLong b → HasLong k w new
  unfolding run_broken arrived_broken
  run_long long = record {
    broken = run_broken;
    full = long_full none_arrived.known.read long;
    good = long_good none_arrived.known.read long;
    small = subst (HasFew w.pixels w.apid) (sym (long_packets none_arrived.known.read long)) small_then;
  }

pub find_breaks : {S : Type 0} (k : SinkOf S) (w : Run) (now new : Outside) (a b : Assembling) (p : Walking S) → IsCurrent k p → IsBetween a p →
    WalksPast k w now a p → (fault : DecodeFault) → FindsNext now new a b (Err fault) → BreaksRun k w new fault
find_breaks k w now new a b p current between past ReadFault finds = run_broken k w now new a b p current between past finds.ends.0
find_breaks k w now new a b p current between past LongInput finds = run_long k w now new a b p current between past finds.ends.0 finds.ends.1
find_breaks k w now new a b p current between past other finds = absurd finds

-- ---- a segment is begun

-- its head reports few pixels
pub found_in : {S : Type 0} (k : SinkOf S) (w : Run) (now : Outside) (a : Assembling) (p q : Walking S) (start : SegmentStart) → IsFound a p start →
    WalksAfter k w now a p start → FollowsFound k w.pixels a start p q is_done → WalksIn k w now a q start
found_in k w now a p q start found after follows =
    let f = follows found.image found.has.geometry in
    let to = after.to in
    let known = to.arrived.known in
    let geometry : q.geometry ≡ placed found.image = f.0.geometry in
    let segment : q.geometry.segment ≡ p.geometry.segment = ap (λ (g : Geometry). g.segment) geometry ∙ ends_segment p.geometry (placed found.image)
    (passed_in p) found.next.ends in
    record {
      to = record {
        arrived = record {
          took = to.arrived.took;
          gave = to.arrived.gave;
          since = to.arrived.since;
          known = known;
          shows = λ blocks of. f.0.follows blocks to.arrived.gave (to.arrived.shows blocks record {
            at = λ block lt. of.at block (omega (arith, lt, f.0.count)) ∙ ap (λ m. blocks_by m known.sofar block) segment;
          });
          few = omega (arith, to.arrived.few, f.0.count, ap (λ m. first_block m start.ancillary.index) segment);
          begun = omega (arith, to.arrived.begun, f.0.count);
        };
        begun = to.begun;
        few = to.few;
        lost = λ block low high. ap (λ m. known.sofar (block / m)) segment ∙ to.lost block (omega (arith, low, f.0.count)) high;
      };
      small = few_begun w.pixels w.apid known.passed a.text start start.ancillary.index found.image to.begun
          (ap (λ (s : FateState). s.geometry) (sym known.read.state) ∙ found.has.geometry) f.1;
    }

-- or too many
pub found_breaks : {S : Type 0} (k : SinkOf S) (w : Run) (now : Outside) (a : Assembling) (p q : Walking S) (start : SegmentStart) → IsCurrent k p →
    IsFound a p start → WalksAfter k w now a p start → (fault : DecodeFault) → FollowsFound k w.pixels a start p q (failed fault) → BreaksRun k w now fault
found_breaks k w now a p q start current found after fault follows = by fault (follows found.image found.has.geometry)
  where
    by : (fault : DecodeFault) → FollowsHead k w.pixels found.image start p q (failed fault) → BreaksRun k w now fault
    by (TooManyPixels pixels) x =
        let to = after.to in
        let segment = ends_segment p.geometry (placed found.image) (passed_in p) found.next.ends in
        let more : (start.ancillary.index + 1) * p.geometry.segment ≡ start.ancillary.index * p.geometry.segment + p.geometry.segment = grind arith in
        let first : start.ancillary.first ≡ start.ancillary.index * p.geometry.segment = found.next.fits.first ∙ ap (λ n. start.ancillary.index * n) segment in
        many_broken k w now a p start.ancillary.index to.arrived start start.ancillary.index current
        (record {
          image = found.image;
          geometry = found.has.geometry;
          range = found.has.range;
          ends = found.next.ends;
          index = start.ancillary.index;
          last =
              found.last;
          before = omega (arith, found.next.reached, first, more);
        })
        to.begun to.few after.image after.geometry found.image found.has.geometry pixels x.0 x.1
    by other x = absurd x

-- ---- the rest is lost

module _ {S : Type 0} (k : SinkOf S) (w : Run) (now new : Outside) (a : Assembling) (p q : Walking S) (current : IsCurrent k p)
    (end : ArrivesToEnd k w now a p) where
  abbrev image : Geometry
  image = end.image

  abbrev is_known : Bool
  is_known = is_height_known a.state.geometry

  abbrev left : ℕ
  left = left_in is_known p

  abbrev known : Numbers
  known = end.arrived.known.sofar

  known_is : is_known ≡ not (image.rows == 0)
  known_is = ap is_height_known end.has.geometry

  -- the blocks that are left, by whether the height is known
  none_left : image.rows ≡ 0 → left ≡ 0
  none_left none = ap (λ b. left_in b p) (known_is ∙ ap not (is_open image.rows none))

  all_left : (image.rows ≡ 0 → ⊥) → left ≡ total_in p - passed_in p
  all_left some = ap (λ b. left_in b p) (known_is ∙ ap not (is_not_open image.rows some))

  left_few : passed_in p + left ≤ total_in p
  left_few = grind (arith, nat_tests, known_or_not, none_left, all_left)

  rest_lost : (i : ℕ) → i < left → blocks_with p.geometry known (passed_in p + i) ≡ None
  rest_lost i lt = grind (arith, nat_tests, left_few, block_lost, le-div)

  whole : whole_packets end.arrived.took ≡ end.arrived.known.passed
  whole = ended_packets end.arrived.known.read end.ended

  geometry_reported : geometry_in w.apid end.arrived.took ≡ Some image
  geometry_reported = ap (λ xs. (after_all w.apid fresh xs).geometry) whole ∙ ap (λ (s : FateState). s.geometry) (sym end.arrived.known.read.state)
      ∙ end.has.geometry

  ended_is : end_of (kept_in w.apid end.arrived.took) ≡ end_of (kept w.apid fresh end.arrived.known.passed)
  ended_is = ap (λ xs. end_of (kept w.apid fresh xs)) whole

  small_took : HasFewPixels w.pixels w.apid end.arrived.took
  small_took = subst (HasFew w.pixels w.apid) (sym whole) end.small

  known_in : (every : List ℕ) → w.start.rest ≡ Some every → ReceivedIn (holds_after w.texts) w.apid end.arrived.took known
  known_in every if_known =
      let rest = left_after w.start.rest now.rest end.arrived.took every end.arrived.since.rest if_known in
      all_received w now a end.index end.arrived.took end.arrived.known end.last rest.rest rest.if_known whole

  -- while the height isn't known, the blocks that were passed are those of the segments that were begun
  all_begun : image.rows ≡ 0 → passed_in p ≡ end_of (kept w.apid fresh end.arrived.known.passed)
  all_begun none = grind (arith, nat_tests, end_within, unknown_room)

  all_passed : (z : Walking S) → passed_in z ≡ passed_in p + left → passed_in z ≡ blocks_passed image (end_of (kept_in w.apid end.arrived.took))
  all_passed z count = grind (arith, nat_tests, known_or_not, none_left, all_begun, ended_is, is_open, blocks_known, all_left, is_not_open)

  pub rest_passed : HasPassed k missing left now new p q → HasPassedAll k w new image q a.framing
  rest_passed passed =
      let arrived = end.arrived in
      let shows = shows_passed k p q missing left known arrived.gave arrived.shows rest_lost passed in
      let follows = shows (blocks_with q.geometry known) record { at = λ block lt. refl } in
      let segment : q.geometry.segment ≡ image.segment = ap (λ (g : Geometry). g.segment) (passed.geometry ∙ end.goes_by) in
      record {
        took = arrived.took;
        gave = arrived.gave ++ passed.gave;
        since = wrote_on k w arrived.took arrived.gave passed.gave arrived.since passed.out;
        within = read_within arrived.known.read;
        small = small_took;
        geometry = geometry_reported;
        range = end.has.range;
        placed_is = passed.geometry ∙ end.goes_by;
        framing_is = ended_framing arrived.known.read end.ended;
        out = out_later w.cap now new arrived.took passed.out (ended_out arrived.known.read now end.ended arrived.known.at_end);
        current = passed.current;
        all = all_passed q passed.count;
        for_some = grind (arith, nat_tests);
        if_known = grind (arith, nat_tests, known_in);
      }

  pub rest_broken : StopsEarly k missing left now new p → HasFailedWrite k w new
  rest_broken broken = record {
    broken = record {
      took = end.arrived.took;
      gave = end.arrived.gave ++ broken.gave;
      since = wrote_on k w end.arrived.took end.arrived.gave broken.gave end.arrived.since broken.out;
      within = read_within end.arrived.known.read;
      for_some =
          let blocks = blocks_with p.geometry known in
          let x = broken.part blocks end.arrived.gave (end.arrived.shows blocks record { at = λ block lt. refl }) record { at = rest_lost } in
          record { geometry = p.geometry; blocks = blocks; place = x.0; part = x.2 };
      part = λ every if_known. record {
        none = λ none. absurd (let both : None ≡ Some image = sym none ∙ geometry_reported in cc);
        some = λ g received there are.
            let same : image ≡ g = (let both : Some image ≡ Some g = sym geometry_reported ∙ there in cc) in
            let each : (index : ℕ) → received index ≡ known index = λ index. both_report w.texts (kept_in w.apid end.arrived.took) index (received index)
            (known index) (are.at index) ((known_in every if_known).at index) in
            let blocks = blocks_with p.geometry received in
            let of : (block : ℕ) → blocks block ≡ blocks_with p.geometry known block =
            λ block. block_by p.geometry received known block (each (block / p.geometry.segment)) in
            let x = broken.part blocks end.arrived.gave (end.arrived.shows blocks record { at = λ block lt. of block }) record {
              at =
                  λ i lt. of (passed_in p + i) ∙ rest_lost i lt;
            } in
            subst (λ (g : Geometry). (n : ℕ) × (n ≤ blocks_passed g (end_of (kept_in w.apid end.arrived.took))) × k.Part (placed g) (blocks_with g received) n
            (end.arrived.gave ++ broken.gave)) same (
              x.0,
              within_passed p.geometry image x.0 (end_of (kept_in w.apid end.arrived.took)) (inl (sym end.goes_by)) (omega (arith, x.1, left_few))
                  (λ none. omega (arith, x.1, none_left none, all_begun none, ended_is)),
              subst (λ h. k.Part h (blocks_with h received) x.0 (end.arrived.gave ++ broken.gave)) end.goes_by x.2,
            );
      };
    };
    small = λ known. small_took;
  }

-- the same for the image of its state
pub rest_passed_of : {S : Type 0} (k : SinkOf S) (w : Run) (now new : Outside) (a : Assembling) (p q : Walking S) → IsCurrent k p →
    (end : ArrivesToEnd k w now a p) → HasPassed k missing (left_in (is_height_known a.state.geometry) p) now new p q →
    (image : Geometry) → a.state.geometry ≡ Some image → HasPassedAll k w new image q a.framing
rest_passed_of k w now new a p q current end passed image geometry =
    let same : end.image ≡ image = (let both : Some end.image ≡ Some image = sym end.has.geometry ∙ geometry in cc) in
    subst (λ image. HasPassedAll k w new image q a.framing) same (rest_passed k w now new a p q current end passed)
