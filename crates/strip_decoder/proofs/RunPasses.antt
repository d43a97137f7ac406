-- A run past the blocks of a segment, or to a fault.
use Rattle.std.proofs.Common.{◌≡◌, ◌≤◌, ◌<◌, ◌+◌, ◌-◌, ◌*◌, ℕ, ℤ, List, [], ◌∷◌, ◌++◌, length, take, refl, sym, ap, subst, ◌∙◌, inl, inr, arith, Bool, true}
use Rattle.std.proofs.Common.{if◌then◌else◌, Option, None, Some, Result, Ok, Err, IsOk, IsErr, MatchOption, append-nil, mul-le-mul_right}
use Rattle.std.proofs.lemmas.Bool.{false≢true}
use Rattle.std.proofs.lemmas.Nat.{div-mul-add}
use Rattle.std.proofs.lemmas.Bool.Decides.{nat_tests}
use Rattle.port_122.specs.Outside.{Outside}
use Rattle.base_122.specs.Sizes.{first_block, segment_blocks}
use Rattle.base_122.specs.Ranges.{IsGeometryInRange}
use Rattle.base_122.specs.declared.geometry.Geometry.{Geometry}
use Rattle.packet_defs.specs.Streams.{whole_packets}
use Rattle.stream_defs.specs.declared.fate.FateState.{FateState}
use Rattle.stream_defs.specs.Agreement.{blocks_of}
use Rattle.stream_defs.specs.Begun.{end_of, placed, rows_reached}
use Rattle.stream_defs.specs.Fates.{fresh, after_all, kept}
use Rattle.stream_defs.proofs.ChosenLaws.{after_all-append}
use Rattle.stream_defs.proofs.PlacedLaws.{reached_known}
use Rattle.packet_assembly.specs.declared.note.SegmentStart.{SegmentStart}
use Rattle.packet_assembly.specs.Assembling.{Assembling, last_index}
use Rattle.packet_assembly.specs.Segments.{Continues}
use Rattle.packet_assembly.proofs.Images.{end_begun, geometry_known, reported_last_open}
use Rattle.packet_assembly.proofs.Readings.{read_within}
use Rattle.strip_decoder.specs.declared.ending.DecodeFault.{DecodeFault}
use Rattle.strip_decoder.specs.declared.ending.DecodeFault.TheVariants.{ReadFault, TooManyPixels}
use Rattle.strip_decoder.specs.Sinks.{Numbers, SinkOf, blocks_with}
use Rattle.strip_decoder.specs.WalkSteps.{Walking, IsCurrent, HasPassed, StopsEarly, PassesBlocks, missing, passed_in, total_in}
use Rattle.strip_decoder.specs.Segments.{FitsImage, FollowsFound, FollowsHead, FollowsHeld, IsAt, ReadsText, HasFailed, pixels_reached, segment_values}
use Rattle.strip_decoder.specs.Runs.{Run, PartBy, HasFew, HasFewKnown, HasWalkedTo, IsBegun, WalksIn, WalksPast, HasBroken, HasFailedWrite, HasMany}
use Rattle.strip_decoder.specs.Runs.{BreaksRun, RunsReach, future}
use Rattle.strip_decoder.proofs.TextReads.{left_after}
use Rattle.strip_decoder.proofs.Showing.{block_lost, block_held, shows_passed}
use Rattle.strip_decoder.proofs.Staying.{StaysIn, known_or_not, stays_here, stays_on}
use Rattle.strip_decoder.proofs.Between.{state_past, held_next}
use Rattle.strip_decoder.proofs.SegmentTakes.{HasFollowed, text_goes}
use Rattle.strip_decoder.proofs.Asking.{blocks_by, stays_with, few_known, leading_packets, packets_then, wrote_on, first_received, part_at, is_part}
use Rattle.strip_decoder.proofs.RunFinds.{known_later}
use Rattle.strip_decoder.proofs.RunTakes.{AfterText, value_of, went_arrived, begun_end, text_known}

-- ---- a fault

-- the packets that are whole by now are the first of those that are left
pub at_hand : (a : Assembling) (rest : List ℕ) → (beyond : List (List ℕ)) × (future a rest ≡ whole_packets (a.intake.pending ++ []) ++ beyond)
at_hand a rest =
    let parted = leading_packets a.intake.pending (if a.intake.ended then [] else take (a.intake.cap - a.intake.taken) rest) in
    (parted.0, parted.1 ∙ ap (λ zs. whole_packets zs ++ parted.0) (sym (append-nil a.intake.pending)))

module _ {S : Type 0} (k : SinkOf S) (w : Run) (now : Outside) (a : Assembling) (p : Walking S) (bound : ℕ) (arrived : HasWalkedTo k w now a p bound)
    (current : IsCurrent k p) where
  unfoldable pub arrived_broken : StaysIn a.state p.geometry (passed_in p) → HasBroken k w now
  arrived_broken stays = record {
    took = arrived.took;
    gave = arrived.gave;
    since = arrived.since;
    within = read_within arrived.known.read;
    part = λ all if_known.
        let known = arrived.known in
        let left = left_after w.start.rest now.rest arrived.took all arrived.since.rest if_known in
        let hand = at_hand a left.rest in
        subst (λ zs. PartBy k w.texts w.apid zs arrived.gave) (append-nil arrived.took)
        (is_part k w a p arrived.took arrived.gave [] known.passed bound known.sofar known.read current arrived.few arrived.begun (future a left.rest)
        hand.0 hand.1
        (known.knows left.rest left.if_known)
        (stays_with w a arrived.took [] known.passed known.read p.geometry (passed_in p) stays) arrived.shows);
    for_some =
        let blocks = blocks_with p.geometry arrived.known.sofar in
        record {
          geometry = p.geometry;
          blocks = blocks;
          place = passed_in p;
          part = k.part_of p.geometry blocks (passed_in p) arrived.gave (k.given_of p.sink p.geometry blocks (passed_in p) arrived.gave current.valid
              (arrived.shows blocks record { at = λ block lt. refl }).sink);
        };
  }

  -- the packets so far and those that are whole by now
  whole_took : whole_packets arrived.took ≡ arrived.known.passed ++ whole_packets (a.intake.pending ++ [])
  whole_took = ap whole_packets (sym (append-nil arrived.took)) ∙ packets_then w a arrived.took [] arrived.known.passed arrived.known.read

  pub few_took : (image : Geometry) → a.state.geometry ≡ Some image → HasFew w.pixels w.apid arrived.known.passed → HasFewKnown w.pixels w.apid arrived.took
  few_took image geometry small known =
      let there : (after_all w.apid fresh arrived.known.passed).geometry ≡ Some image = ap (λ (s : FateState). s.geometry) (sym arrived.known.read.state)
      ∙ geometry in
      subst (HasFew w.pixels w.apid) (sym whole_took)
      (few_known w.pixels w.apid arrived.known.passed (whole_packets (a.intake.pending ++ [])) image there small
      (ap (λ xs. (after_all w.apid fresh xs).reported_last) (sym whole_took) ∙ known))

  module _ (image : Geometry) (geometry : a.state.geometry ≡ Some image) (range : IsGeometryInRange image) (goes_by : p.geometry ≡ placed image) (index : ℕ)
      (last : last_index a.state.last ≡ Some index) (small : HasFew w.pixels w.apid arrived.known.passed)
      (n : ℕ) (few : passed_in p + n ≤ first_block p.geometry.segment bound) (here : passed_in p + n ≤ first_block p.geometry.segment (index + 1))
      (most : passed_in p + n ≤ total_in p) (reach : passed_in p + n ≤ end_of (kept w.apid fresh arrived.known.passed))
      (values : ℕ → Option (List ℤ)) (are : (i : ℕ) → i < n → blocks_with p.geometry arrived.known.sofar (passed_in p + i) ≡ values i) where
    -- a write failed among the next n blocks, which are known
    pub write_broken : (new : Outside) → StopsEarly k values n now new p → HasFailedWrite k w new
    write_broken new broken = record {
      broken = record {
        took = arrived.took;
        gave = arrived.gave ++ broken.gave;
        since = wrote_on k w arrived.took arrived.gave broken.gave arrived.since broken.out;
        within = read_within arrived.known.read;
        part = λ all if_known.
            let known = arrived.known in
            let left = left_after w.start.rest now.rest arrived.took all arrived.since.rest if_known in
            let hand = at_hand a left.rest in
            let knows = known.knows left.rest left.if_known in
            let stays = stays_with w a arrived.took [] known.passed known.read p.geometry (passed_in p + n)
            (stays_here a.state p.geometry image (passed_in p + n) index geometry range (sym goes_by) last here) in
            subst (λ zs. PartBy k w.texts w.apid zs (arrived.gave ++ broken.gave)) (append-nil arrived.took)
            (part_at k w a p arrived.took arrived.gave [] known.passed bound known.sofar known.read current arrived.few arrived.begun (future a left.rest)
            hand.0
            hand.1 knows (arrived.gave ++ broken.gave) (passed_in p + n) stays most (λ none. reach)
            (λ received received_are.
            let blocks = blocks_with p.geometry received in
            let first = λ (m : ℕ) (le : m ≤ first_block p.geometry.segment bound). first_received k w a p arrived.took arrived.gave [] known.passed bound
            known.sofar known.read current arrived.few arrived.begun (future a left.rest) hand.0 hand.1 knows m le received received_are in
            broken.part blocks arrived.gave (arrived.shows blocks (first (passed_in p) arrived.few)) record {
              at =
                  λ i lt. (first (passed_in p + n) few).at (passed_in p + i) (omega (arith, lt)) ∙ are i lt;
            }));
        for_some =
            let blocks = blocks_with p.geometry arrived.known.sofar in
            let x = broken.part blocks arrived.gave (arrived.shows blocks record { at = λ block lt. refl }) record { at = are } in
            record { geometry = p.geometry; blocks = blocks; place = x.0; part = x.2 };
      };
      small = few_took image geometry small;
    }

    -- they were passed
    pub passed_arrived : (new : Outside) (q : Walking S) → (passed : HasPassed k values n now new p q) → HasWalkedTo k w new a q bound
    unfolding known_later
    passed_arrived new q passed = record {
      took = arrived.took;
      gave = arrived.gave ++ passed.gave;
      since = wrote_on k w arrived.took arrived.gave passed.gave arrived.since passed.out;
      known = known_later w now new a bound arrived.took arrived.known passed.out;
      shows = shows_passed k p q values n arrived.known.sofar arrived.gave arrived.shows are passed;
      few = subst (λ (g : Geometry). passed_in q ≤ first_block g.segment bound) (sym passed.geometry) (omega (arith, few, passed.count));
      begun = omega (arith, reach, passed.count);
    }

-- ---- a head

-- a head that reports few pixels
pub few_begun : (pixels apid : ℕ) (passed : List (List ℕ)) (text : List ℕ) (start : SegmentStart) (bound : ℕ) (image : Geometry) →
    IsBegun apid passed text start bound → (after_all apid fresh passed).geometry ≡ Some image → pixels_reached image start ≤ pixels → HasFew pixels apid passed
few_begun pixels apid passed text start bound image b geometry few g there =
    let same : image ≡ g = (let both : Some image ≡ Some g = sym geometry ∙ there in cc) in
    subst (λ (g : Geometry). g.width * rows_reached g (end_of (kept apid fresh passed)) ≤ pixels) same
    (subst (λ n. image.width * rows_reached image n ≤ pixels) (sym (begun_end apid passed text start bound b)) few)

-- If a head reports more pixels than the heads before it, the height is reported last.
known_many : (pixels apid : ℕ) (before : List (List ℕ)) (packet : List ℕ) (g image : Geometry) → (after_all apid fresh before).geometry ≡ Some g →
    HasFew pixels apid before → (after_all apid fresh (before ++ packet ∷ [])).geometry ≡ Some image →
    pixels < image.width * rows_reached image (end_of (kept apid fresh (before ++ packet ∷ []))) → (after_all apid fresh (before ++ packet ∷ [])).reported_last
    ≡ true
known_many pixels apid before packet g image geometry few after_is many = elim (known_or_not g.rows) [
  | inl none ↦ ap (λ (s : FateState). s.reported_last) (after_all-append apid fresh before (packet ∷ [])) ∙ reported_last_open apid before (packet ∷ []) g
      geometry none
  | inr some ↦
      let stays : (after_all apid fresh (before ++ packet ∷ [])).geometry ≡ Some g =
      ap (λ (s : FateState). s.geometry) (after_all-append apid fresh before (packet ∷ [])) ∙ geometry_known apid before (packet ∷ []) g geometry some in
      let same : image ≡ g = (let both : Some image ≡ Some g = sym after_is ∙ stays in cc) in
      let now_many : pixels < g.width * rows_reached g (end_of (kept apid fresh (before ++ packet ∷ []))) =
      subst (λ (h : Geometry). pixels < h.width * rows_reached h (end_of (kept apid fresh (before ++ packet ∷ [])))) same many in
      let here = ap (λ n. g.width * n) (reached_known g (end_of (kept apid fresh before)) some) in
      let later = ap (λ n. g.width * n) (reached_known g (end_of (kept apid fresh (before ++ packet ∷ []))) some) in
      let low = few g geometry in
      absurd (omega (arith, low, now_many, here, later))
]

-- a head that isn't the first one reports too many
pub many_broken : {S : Type 0} (k : SinkOf S) (w : Run) (now : Outside) (a : Assembling) (p : Walking S) (bound : ℕ) (arrived : HasWalkedTo k w now a p bound)
    (start : SegmentStart) (first : ℕ) → IsCurrent k p → StaysIn a.state p.geometry (passed_in p) →
    (b : IsBegun w.apid arrived.known.passed a.text start first) → HasFew w.pixels w.apid b.before →
    (g : Geometry) → (after_all w.apid fresh b.before).geometry ≡ Some g → (image : Geometry) → a.state.geometry ≡ Some image → (pixels : ℕ) →
    pixels ≡ pixels_reached image start → w.pixels < pixels → HasMany k w now pixels
unfolding arrived_broken
many_broken k w now a p bound arrived start first current stays b few g before_is image geometry pixels is lt =
    let there : (after_all w.apid fresh (b.before ++ b.packet ∷ [])).geometry ≡ Some image =
    ap (λ xs. (after_all w.apid fresh xs).geometry) (sym b.passed_are) ∙ ap (λ (s : FateState). s.geometry) (sym arrived.known.read.state) ∙ geometry in
    let reached : pixels ≡ image.width * rows_reached image (end_of (kept w.apid fresh (b.before ++ b.packet ∷ []))) =
    is ∙ ap (λ n. image.width * rows_reached image n) (sym (end_begun w.apid b.before b.packet start b.starts)) in
    record {
      broken = arrived_broken k w now a p bound arrived current stays;
      many = record {
        before = b.before;
        packet = b.packet;
        later = whole_packets (a.intake.pending ++ []);
        packets_are = whole_took k w now a p bound arrived current ∙ ap (λ xs. xs ++ whole_packets (a.intake.pending ++ [])) b.passed_are;
        few = few;
        image = image;
        geometry = there;
        pixels_are = reached;
        many = lt;
      };
      reported_last = known_many w.pixels w.apid b.before b.packet g image before_is few there (omega (arith, lt, reached));
    }

-- the segment at which a walk is, as far as a block of it
pub stays_at_segment : {S : Type 0} (a : Assembling) (p : Walking S) (start : SegmentStart) (n : ℕ) → IsAt a p start →
    n ≤ first_block p.geometry.segment (start.ancillary.index + 1) → StaysIn a.state p.geometry n
stays_at_segment a p start n at le = stays_here a.state p.geometry at.image n start.ancillary.index at.has.geometry at.has.range (sym at.goes_by) at.last le

-- ---- to a segment

-- the blocks before it are lost
pub reach_runs : {S T E : Type 0} (k : SinkOf S) (w : Run) (now new : Outside) (a : Assembling) (p q : Walking S) (start : SegmentStart) (n : ℕ)
    (r : Result T E) → WalksIn k w now a p start → IsAt a p start → IsCurrent k p → n ≡ start.ancillary.first - passed_in p →
    PassesBlocks k r missing n now new p q → RunsReach k w new a q start r
unfolding passed_arrived known_later
reach_runs {T = T} {E = E} k w now new a p q start n r in_it at current n_is passes = by r passes
  where
    there : passed_in p + n ≡ start.ancillary.first
    there = let next = at.next in omega (arith, n_is, next.reached)

    next_few : start.ancillary.first ≤ first_block p.geometry.segment (start.ancillary.index + 1)
    next_few = let more : (start.ancillary.index + 1) * p.geometry.segment ≡ start.ancillary.index * p.geometry.segment + p.geometry.segment =
        grind arith in omega (arith, at.next.fits.first, more)

    few : passed_in p + n ≤ first_block p.geometry.segment start.ancillary.index
    few = omega (arith, there, at.next.fits.first)

    reach : passed_in p + n ≤ end_of (kept w.apid fresh in_it.to.arrived.known.passed)
    reach = omega (arith, there, begun_end w.apid in_it.to.arrived.known.passed a.text start start.ancillary.index in_it.to.begun)

    are : (i : ℕ) → i < n → blocks_with p.geometry in_it.to.arrived.known.sofar (passed_in p + i) ≡ missing i
    are i lt = block_lost p.geometry in_it.to.arrived.known.sofar (passed_in p + i) (in_it.to.lost (passed_in p + i) (omega arith) (omega (arith, lt, there)))

    by : (r : Result T E) → PassesBlocks k r missing n now new p q → RunsReach k w new a q start r
    by (Ok x) passed = record {
      to = record {
        arrived = passed_arrived k w now a p start.ancillary.index in_it.to.arrived current at.image at.has.geometry at.has.range at.goes_by
            start.ancillary.index
            at.last in_it.small n few (omega (arith, there, next_few)) (omega (arith, there, at.next.fits.within)) reach missing are new q passed;
        begun = in_it.to.begun;
        few = in_it.to.few;
        lost = λ block low high. absurd (omega (arith, low, high, passed.count, there));
      };
      small = in_it.small;
    }
    by (Err e) broken = write_broken k w now a p start.ancillary.index in_it.to.arrived current at.image at.has.geometry at.has.range at.goes_by
        start.ancillary.index at.last in_it.small n few (omega (arith, there, next_few)) (omega (arith, there, at.next.fits.within)) reach missing are new
        broken

-- ---- past it

-- its blocks are those that were read, or missing
values_are : (g : Geometry) (sofar : Numbers) (start : SegmentStart) (accepted : Bool) (cells : List ℤ) → FitsImage g start →
    64 * start.head.blocks ≤ length cells → sofar start.ancillary.index ≡ value_of accepted start.head cells →
    (i : ℕ) → i < start.head.blocks → blocks_with g sofar (start.ancillary.first + i) ≡ segment_values accepted cells i
values_are g sofar start accepted cells fits long is i lt = grind (arith, nat_tests, block_held, div-mul-add, block_lost)

-- the walk takes the geometry that is known by now
pub arrived_followed : {S : Type 0} (k : SinkOf S) (w : Run) (new : Outside) (b : Assembling) (p q : Walking S) (start : SegmentStart) (pixels bound : ℕ) →
    HasFollowed k pixels b p q start → HasWalkedTo k w new b p bound → HasWalkedTo k w new b q bound
arrived_followed k w new b p q start pixels bound followed arrived =
    let segment : q.geometry.segment ≡ p.geometry.segment = ap (λ (g : Geometry). g.segment) followed.shorter.same in
    record {
      took = arrived.took;
      gave = arrived.gave;
      since = arrived.since;
      known = arrived.known;
      shows = λ blocks of. followed.follows blocks arrived.gave (arrived.shows blocks record {
        at = λ block lt. of.at block (omega (arith, lt, followed.count)) ∙ ap (λ m. blocks_by m arrived.known.sofar block) segment;
      });
      few = omega (arith, arrived.few, followed.count, ap (λ m. first_block m bound) segment);
      begun = omega (arith, arrived.begun, followed.count);
    }

pub after_followed : {S : Type 0} (k : SinkOf S) (w : Run) (new : Outside) (b : Assembling) (p q : Walking S) (start : SegmentStart) (index : ℕ)
    (value : Option (List (List ℤ))) (ended : ℕ) → HasFollowed k w.pixels b p q start → AfterText k w new b p index value ended →
    AfterText k w new b q index value ended
unfolding arrived_followed
after_followed k w new b p q start index value ended followed after = record {
  arrived = arrived_followed k w new b p q start w.pixels (index + 1) followed after.arrived;
  value_is = after.value_is;
  reach = after.reach;
  last = after.last;
  small = after.small;
  begun = after.begun;
}

module _ {S : Type 0} (k : SinkOf S) (w : Run) (new last_out : Outside) (b : Assembling) (p0 p q : Walking S) (start : SegmentStart)
    (current0 : IsCurrent k p0) (there0 : passed_in p0 ≡ start.ancillary.first) (followed : HasFollowed k w.pixels b p0 p start)
    (accepted : Bool) (cells : List ℤ) (long : 64 * start.head.blocks ≤ length cells)
    (after : AfterText k w new b p start.ancillary.index (value_of accepted start.head cells) (start.ancillary.first + start.head.blocks)) where
  abbrev index : ℕ
  index = start.ancillary.index

  abbrev fits : FitsImage p.geometry start
  fits = followed.fits

  there : passed_in p ≡ start.ancillary.first
  there = followed.count ∙ there0

  next_few : passed_in p + start.head.blocks ≤ first_block p.geometry.segment (index + 1)
  next_few = grind (arith, nat_tests, there)

  values_there : (i : ℕ) → i < start.head.blocks → blocks_with p.geometry after.arrived.known.sofar (passed_in p + i) ≡ segment_values accepted cells i
  values_there i lt = ap (λ n. blocks_with p.geometry after.arrived.known.sofar (n + i)) there ∙ values_are p.geometry after.arrived.known.sofar start accepted
      cells fits long after.value_is i lt

  room : passed_in p + start.head.blocks ≤ total_in p
  room = omega (arith, there, fits.blocks, fits.within)

  -- the last segment that was begun
  pub record LastBegun : Type 0 where
    pub last_one : ℕ
    pub last : last_index b.state.last ≡ Some last_one
    pub later : index ≤ last_one
    pub small : HasFew w.pixels w.apid after.arrived.known.passed

  last_begun : LastBegun
  last_begun = by b.held refl
    where
      by : (o : Option SegmentStart) → b.held ≡ o → LastBegun
      by None e = record { last_one = index; last = followed.last e; later = omega arith; small = after.small e }
      by (Some next) e =
          let h = followed.held next e in
          let next_begun = after.begun next e in
          let there_is : (after_all w.apid fresh after.arrived.known.passed).geometry ≡ Some followed.image =
          ap (λ (s : FateState). s.geometry) (sym after.arrived.known.read.state) ∙ followed.has.geometry in
          record {
            last_one = next.ancillary.index;
            last = h.0;
            later = let later = next_begun.begun.later in omega (arith, later);
            small = few_begun w.pixels w.apid after.arrived.known.passed b.text next (index + 1) followed.image next_begun.begun there_is h.3;
          }

  last_few : passed_in p + start.head.blocks ≤ first_block p.geometry.segment (last_begun.last_one + 1)
  last_few = let more : (index + 1) * p.geometry.segment ≤ (last_begun.last_one + 1) * p.geometry.segment =
      mul-le-mul_right p.geometry.segment (let later = last_begun.later in omega (arith, later)) in omega (arith, next_few, more)

  -- the kept heads reach the end of the segment
  reach : passed_in p + start.head.blocks ≤ end_of (kept w.apid fresh after.arrived.known.passed)
  reach = omega (arith, there, after.reach)

  pub segment_runs : (passed : HasPassed k (segment_values accepted cells) start.head.blocks new last_out p q) → WalksPast k w last_out b q
  unfolding passed_arrived known_later
  segment_runs passed = record {
    index = index;
    arrived = passed_arrived k w new b p (index + 1) after.arrived followed.current followed.image followed.has.geometry followed.has.range followed.goes_by
        last_begun.last_one last_begun.last last_begun.small start.head.blocks next_few last_few room reach (segment_values accepted cells) values_there
        last_out q passed;
    small = last_begun.small;
    last = after.last;
    begun = after.begun;
    reached = subst (λ (g : Geometry). first_block g.segment index + segment_blocks (blocks_of g) g.segment index ≤ passed_in q) (sym passed.geometry)
        (omega (arith, passed.count, there, fits.first, fits.blocks));
  }

  pub segment_breaks : StopsEarly k (segment_values accepted cells) start.head.blocks new last_out p → HasFailedWrite k w last_out
  segment_breaks broken = write_broken k w new b p (index + 1) after.arrived followed.current followed.image followed.has.geometry followed.has.range
      followed.goes_by last_begun.last_one last_begun.last last_begun.small start.head.blocks next_few last_few room reach (segment_values accepted cells)
      values_there last_out broken

abbrev pub failed : DecodeFault → Result (Unit {0}) DecodeFault
failed fault = Err fault

-- ---- a whole segment

module _ {S : Type 0} (k : SinkOf S) (w : Run) (w1 w2 : Outside) (a b : Assembling) (p : Walking S) (start : SegmentStart) (to : WalksIn k w w1 a p start)
    (at : IsAt a p start) (current : IsCurrent k p) (there : passed_in p ≡ start.ancillary.first) where
  module _ (q : Walking S) (followed : HasFollowed k w.pixels b p q start) (accepted : Bool) (cells : List ℤ) (long : 64 * start.head.blocks ≤ length cells)
      (reads : ReadsText w.texts w1 w2 a b start.head cells (Ok accepted)) where
    after_q : AfterText k w w2 b q start.ancillary.index (value_of accepted start.head cells) (start.ancillary.first + start.head.blocks)
    after_q = after_followed k w w2 b p q start start.ancillary.index (value_of accepted start.head cells) (start.ancillary.first + start.head.blocks)
        followed (text_known k w w1 w2 a b p start to current at there accepted cells reads)

    -- its blocks were passed, or a write failed among them
    pub whole_runs : {T E : Type 0} (r : Result T E) (w3 : Outside) (z : Walking S) → IsOk r →
        PassesBlocks k r (segment_values accepted cells) start.head.blocks w2 w3 q z → WalksPast k w w3 b z
    whole_runs (Err e) w3 z is passed = absurd (false≢true is)
    whole_runs (Ok x) w3 z is passed = segment_runs k w w2 w3 b p q z start current there followed accepted cells long after_q passed

    pub whole_breaks : {T E : Type 0} (r : Result T E) (w3 : Outside) (z : Walking S) → IsErr r →
        PassesBlocks k r (segment_values accepted cells) start.head.blocks w2 w3 q z → HasFailedWrite k w w3
    whole_breaks (Ok x) w3 z is broken = absurd (false≢true is)
    whole_breaks (Err e) w3 z is broken = segment_breaks k w w2 w3 b p q z start current there followed accepted cells long after_q broken

  -- the image is the same as far as the segment, whatever was passed
  low : passed_in p ≤ first_block p.geometry.segment (start.ancillary.index + 1)
  low = let more : (start.ancillary.index + 1) * p.geometry.segment ≡ start.ancillary.index * p.geometry.segment + p.geometry.segment =
      grind arith in omega (arith, there, at.next.fits.first, more)

  stays_past : Continues w1 w2 a b → StaysIn b.state p.geometry (passed_in p)
  stays_past goes =
      let state : after_all a.apid fresh (at.has.passed ++ goes.passed) ≡ b.state = sym (state_past a at.image goes.passed at.has) ∙ sym goes.passes.state in
      subst (λ s. StaysIn s p.geometry (passed_in p)) state (stays_on a.apid at.has.passed goes.passed p.geometry (passed_in p)
      (subst (λ s. StaysIn s p.geometry (passed_in p)) at.has.state (stays_at_segment a p start (passed_in p) at low)))

  -- a read failed in its text
  text_broken : HasFailed w1 w2 a b → HasBroken k w w2
  text_broken failed =
      arrived_broken k w w2 b p start.ancillary.index (went_arrived k w w1 w2 a b p start to current at there failed.goes) current (stays_past failed.goes)

  pub text_breaks : (fault : DecodeFault) (cells : List ℤ) → ReadsText w.texts w1 w2 a b start.head cells (Err fault) → BreaksRun k w w2 fault
  text_breaks ReadFault cells failed = text_broken failed
  text_breaks other cells failed = absurd failed

  -- the head of the next segment reports too many pixels
  pub held_breaks : (q : Walking S) (accepted : Bool) (cells : List ℤ) → (reads : ReadsText w.texts w1 w2 a b start.head cells (Ok accepted)) →
      (fault : DecodeFault) → FollowsHeld k w.pixels b p q (Err fault) → BreaksRun k w w2 fault
  held_breaks q accepted cells reads fault follows = by b.held refl follows
    where
      goes : Continues w1 w2 a b
      goes = text_goes w.texts w1 w2 a b start.head cells accepted reads

      after : AfterText k w w2 b p start.ancillary.index (value_of accepted start.head cells) (start.ancillary.first + start.head.blocks)
      after = text_known k w w1 w2 a b p start to current at there accepted cells reads

      many : (next : SegmentStart) → b.held ≡ Some next → (image : Geometry) → b.state.geometry ≡ Some image → (fault : DecodeFault) →
          FollowsHead k w.pixels image next p q (Err fault) → BreaksRun k w w2 fault
      many next e image geometry (TooManyPixels pixels) x =
          let n = after.begun next e in
          many_broken k w w2 b p (start.ancillary.index + 1) after.arrived next (start.ancillary.index + 1) current (stays_past goes) n.begun n.few n.image
          n.geometry image geometry pixels x.0 x.1
      many next e image geometry other x = absurd x

      by : (o : Option SegmentStart) → b.held ≡ o → MatchOption o ((IsOk (failed fault)) × (q ≡ p))
          (λ next. FollowsFound k w.pixels b next p q (failed fault)) → BreaksRun k w w2 fault
      by None e x = absurd (false≢true x.0)
      by (Some next) e x = let c = held_next a b at.image start.ancillary.index next at.has at.unheld at.last goes e in many next e c.0.image c.0.geometry
          fault (x c.0.image c.0.geometry)
