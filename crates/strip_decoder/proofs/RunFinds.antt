-- A run advances to the next segment.
use Rattle.std.proofs.Common.{◌≡◌, ◌≤◌, ◌+◌, ◌*◌, ◌/◌, ℕ, ℤ, List, [], ◌∷◌, ◌++◌, sym, ap, subst, ◌∙◌, inl, inr, arith, append_assoc, Bool, if◌then◌else◌}
use Rattle.std.proofs.Common.{Option, None, Some, is_some, Ok}
use Rattle.std.proofs.lemmas.Bool.{cases_lt}
use Rattle.std.proofs.lemmas.Nat.{le-div}
use Rattle.std.proofs.lemmas.Bool.Decides.{nat_tests}
use Rattle.port_122.specs.Outside.{Outside, Exchange}
use Rattle.base_122.specs.Sizes.{first_block, segment_blocks}
use Rattle.base_122.specs.declared.geometry.Geometry.{Geometry}
use Rattle.packet_defs.specs.Streams.{whole_packets}
use Rattle.stream_defs.specs.declared.fate.FateState.{FateState}
use Rattle.stream_defs.specs.declared.fate.LastPart.{LastPart}
use Rattle.stream_defs.specs.Fates.{fresh, after_all, kept}
use Rattle.stream_defs.specs.Received.{IsReceived}
use Rattle.stream_defs.specs.Settled.{blocks_in, blocks_through}
use Rattle.stream_defs.specs.Begun.{placed}
use Rattle.stream_defs.proofs.PlacedLaws.{is_not_open}
use Rattle.stream_defs.proofs.KeptOrder.{before_none}
use Rattle.stream_defs.proofs.ChosenLaws.{after_all-append}
use Rattle.packet_assembly.specs.declared.note.SegmentStart.{SegmentStart}
use Rattle.packet_assembly.specs.Assembling.{Assembling, Passes, StaysAt, last_index, state_with}
use Rattle.packet_assembly.specs.Passing.{before_loses}
use Rattle.packet_assembly.specs.Segments.{WasFound, FindsSegment}
use Rattle.packet_assembly.proofs.Images.{end_more, geometry_none, geometry_same, index_none}
use Rattle.packet_assembly.proofs.Readings.{read_on, end_on, end_later}
use Rattle.strip_decoder.specs.Sinks.{SinkOf}
use Rattle.strip_decoder.specs.WalkSteps.{Walking, IsCurrent, passed_in, total_in}
use Rattle.strip_decoder.specs.Segments.{IsBetween, IsFound}
use Rattle.strip_decoder.specs.Runs.{Run, holds_after, HasFew, Knows, HasKnown, HasWalkedTo, IsNextBegun, WalksAfter, WalksPast, future}
use Rattle.strip_decoder.proofs.TextReads.{left_after}
use Rattle.strip_decoder.proofs.Staying.{ends_segment, last_some}
use Rattle.strip_decoder.proofs.Between.{arrives_next, found_within}
use Rattle.strip_decoder.proofs.Receiving.{none_received, knows_to}
use Rattle.strip_decoder.proofs.Asking.{IsRight, few_same, future_past, future_part, knows_on, took_on, packets_then, state_then, is_prompt}

pub last_of : (o : Option LastPart) (n : ℕ) (l : LastPart) → last_index o ≡ Some n → o ≡ Some l → l.index ≡ n
last_of o n l e is = let same : Some l.index ≡ Some n = sym (ap last_index is) ∙ e in cc

-- ---- by what was read

-- The segments are unchanged, and so are the packets that were passed.
unfoldable pub known_on : {P : FateState → Type 0} (w : Run) (now new : Outside) (a b : Assembling) (bound : ℕ) (took : List ℕ) (went : List (List ℕ)) →
    HasKnown w now a bound took → (q : Passes P now new a b went) → HasKnown w new b bound (took ++ q.took)
known_on w now new a b bound took went known q = record {
  passed = known.passed ++ went;
  sofar = known.sofar;
  read = read_on w.apid w.cap known.read q;
  knows = λ rest if_known.
      knows_on w.texts w.apid known.passed went (future b rest) bound known.sofar
      (subst (λ xs. Knows w.texts w.apid known.passed xs bound known.sofar) (future_past q rest if_known)
      (known.knows (q.took ++ rest) (before_loses now.rest new.rest q.took rest q.since.rest if_known)));
  above = known.above;
  at_end = end_on q known.at_end;
}

-- and they are unchanged after a write
unfoldable pub known_later : {Q : ℕ → ℕ → Type 0} {g : List ℕ} (w : Run) (now new : Outside) (a : Assembling) (bound : ℕ) (took : List ℕ) →
    HasKnown w now a bound took → Exchange now new [] g [] Q → HasKnown w new a bound took
known_later w now new a bound took known out = grind (arith, nat_tests, end_later)

unfoldable pub read_arrived : {S : Type 0} {P : FateState → Type 0} (k : SinkOf S) (w : Run) (now new : Outside) (a b : Assembling) (p : Walking S) (bound : ℕ)
    (went : List (List ℕ)) → (arrived : HasWalkedTo k w now a p bound) → (q : Passes P now new a b went) →
    ((octets more : List ℕ) → q.took ≡ octets ++ more → P (state_with a octets) → IsRight k w (arrived.took ++ octets) arrived.gave) →
    HasWalkedTo k w new b p bound
unfolding known_on
read_arrived k w now new a b p bound went arrived q right = record {
  took = arrived.took ++ q.took;
  gave = arrived.gave;
  since = took_on k w arrived.took arrived.gave arrived.known.read arrived.since q right;
  known = known_on w now new a b bound arrived.took went arrived.known q;
  shows = arrived.shows;
  few = arrived.few;
  begun = let more = end_more w.apid arrived.known.passed went in omega (arith, arrived.begun, more);
}

-- At a read call the packets so far are a prefix of all packets, and no later segment was begun; so nothing that they report is new.
pub right_at : {S : Type 0} {P : FateState → Type 0} (k : SinkOf S) (w : Run) (now new : Outside) (a b : Assembling) (p : Walking S) (bound index : ℕ)
    (went : List (List ℕ)) → (arrived : HasWalkedTo k w now a p bound) → (q : Passes P now new a b went) → IsCurrent k p →
    (image : Geometry) → a.state.geometry ≡ Some image → p.geometry ≡ placed image → HasFew w.pixels w.apid arrived.known.passed →
    last_index a.state.last ≡ Some index →
    (octets more : List ℕ) → q.took ≡ octets ++ more → last_index (state_with a octets).last ≡ Some index →
    blocks_through p.geometry arrived.known.sofar index ≤ passed_in p →
    ((i : ℕ) (v : List (List ℤ)) → bound ≤ i → i ≤ index →
    IsReceived (holds_after w.texts) (kept w.apid fresh (arrived.known.passed ++ whole_packets (a.intake.pending ++ octets))) i v → ⊥) →
    IsRight k w (arrived.took ++ octets) arrived.gave
right_at k w now new a b p bound index went arrived q current image geometry goes_by small here octets more parts last reached open_ones =
    let known = arrived.known in
    let next = whole_packets (a.intake.pending ++ octets) in
    let packets = packets_then w a arrived.took octets known.passed known.read in
    let state : after_all w.apid fresh (known.passed ++ next) ≡ state_with a octets =
    sym (ap (after_all w.apid fresh) packets) ∙ state_then w a arrived.took octets known.passed known.read in
    let same : last_index (after_all w.apid (after_all w.apid fresh known.passed) next).last ≡ last_index (after_all w.apid fresh known.passed).last =
    ap (λ (s : FateState). last_index s.last) (sym (after_all-append w.apid fresh known.passed next) ∙ state) ∙ last ∙ sym here
    ∙ ap (λ (s : FateState). last_index s.last) known.read.state in
    let stays : (state_with a octets).geometry ≡ Some image = geometry_same a.apid a.state next (last ∙ sym here) ∙ geometry in (
      subst (HasFew w.pixels w.apid) (sym packets) (few_same w.pixels w.apid known.passed next small same),
      λ all if_known.
          let first = left_after w.start.rest now.rest arrived.took all arrived.since.rest if_known in
          let second = left_after now.rest new.rest q.took first.rest q.since.rest first.if_known in
          let part = future_part q second.rest octets more second.if_known parts in
          let later = ap (future a) second.are ∙ part.1 in
          let l = last_some (state_with a octets).last index last in
          is_prompt k w a p arrived.took arrived.gave octets known.passed bound known.sofar known.read current arrived.few arrived.begun
          (future a first.rest) part.0
          later (known.knows first.rest first.if_known) image stays goes_by arrived.shows known.above
          (λ i v le x. elim (cases_lt index i) [
            | inl past ↦ none_received w.texts (kept w.apid fresh (known.passed ++ next)) i v
                (before_none i w.apid fresh (known.passed ++ next) (λ k is. let e =
                last_of (state_with a octets).last index k last (sym (ap (λ (s : FateState). s.last) state) ∙ is) in omega (arith, e, past))) x
            | inr near ↦ open_ones i v le near x
          ])
          l.0 l.1 (subst (λ n. blocks_through p.geometry known.sofar n ≤ passed_in p) (sym l.2) reached),
    )

-- ---- to the next segment

to_segment : {S : Type 0} (k : SinkOf S) (w : Run) (now : Outside) (a : Assembling) (p : Walking S) (start : SegmentStart) (index : ℕ) → IsCurrent k p →
    (arrived : HasWalkedTo k w now a p (index + 1)) → IsNextBegun w arrived.known.passed a.text start (index + 1) →
    first_block p.geometry.segment index + segment_blocks (total_in p) p.geometry.segment index ≤ passed_in p → IsFound a p start → WalksAfter k w now a p start
to_segment k w now a p start index current arrived after reached found =
    let known = arrived.known in
    let begun = after.begun in
    let size = p.geometry.segment in
    let next = found.next in
    let segment = ends_segment p.geometry (placed found.image) (passed_in p) next.ends in
    let first : start.ancillary.first ≡ start.ancillary.index * size = next.fits.first ∙ ap (λ n. start.ancillary.index * n) segment in
    record {
      to = record {
        arrived = record {
          took = arrived.took;
          gave = arrived.gave;
          since = arrived.since;
          known = record {
            passed = known.passed;
            sofar = known.sofar;
            read = known.read;
            knows = λ rest if_known. knows_to w.texts w.apid known.passed (future a rest) a.text start (index + 1) known.sofar begun known.above
                (known.knows rest if_known);
            above = λ i le. known.above i (omega (arith, le, begun.later));
            at_end = known.at_end;
          };
          shows = arrived.shows;
          few = omega (arith, next.reached, first);
          begun = arrived.begun;
        };
        begun = grind (arith, nat_tests);
        few = after.few;
        lost = λ block low high.
            let more : (index + 1) * size ≡ index * size + size = grind arith in
            let inside : start.ancillary.first ≤ total_in p = found_within p start found in
            let past : (index + 1) * size ≤ block = omega (arith, more, reached, low, high, inside) in
            known.above (block / size) (le-div (index + 1) block size (omega (arith, current.range.segment.0)) past);
      };
      image = after.image;
      geometry = after.geometry;
    }

-- that was begun before
held_arrived : {S : Type 0} (k : SinkOf S) (w : Run) (now : Outside) (a : Assembling) (p : Walking S) (bound : ℕ) → HasWalkedTo k w now a p bound →
    HasWalkedTo k w now (record a { held = None }) p bound
held_arrived k w now a p bound arrived =
    let known = arrived.known in
    let read = known.read in
    record {
      took = arrived.took;
      gave = arrived.gave;
      since = arrived.since;
      known = grind (arith, nat_tests);
      shows = arrived.shows;
      few = arrived.few;
      begun = arrived.begun;
    }

found_held : {S : Type 0} (k : SinkOf S) (w : Run) (now : Outside) (a : Assembling) (p : Walking S) (start : SegmentStart) → IsCurrent k p →
    (past : WalksPast k w now a p) → a.held ≡ Some start → IsFound (record a { held = None }) p start → WalksAfter k w now (record a { held = None }) p start
unfolding held_arrived
found_held k w now a p start current past held found =
    to_segment k w now (record a { held = None }) p start past.index current (held_arrived k w now a p (past.index + 1) past.arrived) (past.begun start held)
    past.reached found

-- packets were passed that begin no segment, or the last of them does
unfoldable pub stays_arrived : {S : Type 0} (k : SinkOf S) (w : Run) (now new : Outside) (a b : Assembling) (p : Walking S) (went : List (List ℕ)) →
    IsCurrent k p → IsBetween a p → (past : WalksPast k w now a p) → a.held ≡ None → Passes (StaysAt a) now new a b went →
    HasWalkedTo k w new b p (past.index + 1)
stays_arrived k w now new a b p went current between past unheld q =
    let arrived = past.arrived in
    let last = past.last unheld in
    read_arrived k w now new a b p (past.index + 1) went arrived q
    (λ octets more parts stays. right_at k w now new a b p (past.index + 1) past.index went arrived q current between.image between.has.geometry
    between.goes_by past.small last octets more parts (stays ∙ last) (through (is_some (arrived.known.sofar past.index)))
    (λ i v le near x. absurd (omega (arith, le, near))))
  where
    some : p.geometry.rows ≡ 0 → ⊥
    some none = let least = current.height.0 in absurd (omega (arith, none, least))

    through : (b : Bool) → first_block p.geometry.segment past.index + (if b then blocks_in p.geometry past.index else 0) ≤ passed_in p
    through b = grind (arith, nat_tests, is_not_open, some)

-- that was found
found_new : {S : Type 0} (k : SinkOf S) (w : Run) (now new : Outside) (a b : Assembling) (p : Walking S) (start : SegmentStart) → IsCurrent k p →
    IsBetween a p → (past : WalksPast k w now a p) → WasFound now new a b start → IsFound b p start → WalksAfter k w new b p start
unfolding known_on read_arrived stays_arrived
found_new k w now new a b p start current between past found is_found =
    let known = past.arrived.known in
    let went = found.prefix ++ found.packet ∷ [] in
    let last = past.last found.none_held in
    let there : after_all a.apid a.state found.prefix ≡ after_all w.apid fresh (known.passed ++ found.prefix) = grind (arith, nat_tests, after_all-append) in
    let index : last_index (after_all a.apid a.state found.prefix).last ≡ Some past.index = index_none a.apid a.state found.prefix found.none_before ∙ last in
    let same : last_index (after_all w.apid fresh (known.passed ++ found.prefix)).last ≡ Some past.index =
    ap (λ (s : FateState). last_index s.last) (sym there) ∙ index in
    let apart : last_index (after_all w.apid (after_all w.apid fresh known.passed) found.prefix).last
    ≡ last_index (after_all w.apid fresh known.passed).last = grind (arith, nat_tests, after_all-append) in
    let arrives = arrives_next a found.prefix found.packet start between.image past.index between.has last found.none_before found.starts in
    to_segment k w new b p start past.index current (stays_arrived k w now new a b p went current between past found.none_held found.passed) record {
      begun = grind (arith, nat_tests, append_assoc, last_of);
      few = few_same w.pixels w.apid known.passed found.prefix past.small apart;
      image = between.image;
      geometry = ap (λ (s : FateState). s.geometry) (sym there) ∙ geometry_none a.apid a.state found.prefix found.none_before ∙ between.has.geometry;
    } past.reached is_found

pub found_run : {S : Type 0} (k : SinkOf S) (w : Run) (now new : Outside) (a b : Assembling) (p : Walking S) (start : SegmentStart) → IsCurrent k p →
    IsBetween a p → WalksPast k w now a p → FindsSegment now new a b (Ok (Some start)) → IsFound b p start → WalksAfter k w new b p start
found_run k w now new a b p start current between past finds found =
    elim finds.ends [
      | inl held ↦ subst (λ now'. WalksAfter k w now' b p start) held.same
          (subst (λ b. WalksAfter k w now b p start) (sym held.valid)
          (found_held k w now a p start current past held.held (subst (λ b. IsFound b p start) held.valid found)))
      | inr new_one ↦ found_new k w now new a b p start current between past new_one found
    ]
