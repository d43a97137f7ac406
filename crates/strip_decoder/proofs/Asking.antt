-- What is given at each read call.
use Rattle.std.proofs.Common.{◌≡◌, ◌≤◌, ◌<◌, ◌+◌, ◌/◌, ℕ, ℤ, List, [], ◌∷◌, ◌++◌, length, take, drop, refl, sym, ap, subst, ◌∙◌, inl, arith, append_assoc}
use Rattle.std.proofs.Common.{length-append, ◌%◌, if◌then◌else◌, false, Option, None, Some, is_some, slice_index_or, MatchOption, option_map}
use Rattle.std.proofs.lemmas.Bool.{false≢true}
use Rattle.std.proofs.lemmas.List.{append-nil, take-append-le, take-append-drop}
use Rattle.std.proofs.lemmas.Nat.{div_below}
use Rattle.std.proofs.Math.Seq.{take-append-add}
use Rattle.std.proofs.lemmas.Bool.Decides.{nat_tests}
use Rattle.port_122.specs.Outside.{Outside, Exchange, NoRead}
use Rattle.port_122.proofs.Stretches.{since_then, since_out, since_weaker}
use Rattle.base_122.specs.Sizes.{first_block}
use Rattle.base_122.specs.declared.geometry.Geometry.{Geometry}
use Rattle.packet_defs.specs.Packets.{joined}
use Rattle.packet_defs.specs.Streams.{whole_packets, left_over}
use Rattle.packet_defs.proofs.Splits.{whole_splits}
use Rattle.stream_defs.specs.declared.fate.FateState.{FateState}
use Rattle.stream_defs.specs.declared.fate.LastPart.{LastPart}
use Rattle.stream_defs.specs.Agreement.{blocks_of}
use Rattle.stream_defs.specs.Fates.{fresh, after_all, kept, kept_in, state_after}
use Rattle.stream_defs.specs.Received.{IsReceived, ReceivedIn}
use Rattle.stream_defs.specs.Settled.{blocks_in, blocks_through}
use Rattle.stream_defs.specs.Begun.{HasFewPixels, end_of, placed}
use Rattle.stream_defs.proofs.ChosenLaws.{after_all-append}
use Rattle.stream_defs.proofs.PlacedLaws.{is_open, is_not_open, blocks_known, reached_known}
use Rattle.packet_assembly.specs.Arriving.{arriving}
use Rattle.packet_assembly.specs.Assembling.{Assembling, Passes, last_index, state_with}
use Rattle.packet_assembly.specs.Passing.{whole_after}
use Rattle.packet_assembly.specs.Readings.{HasRead, AsksReadable}
use Rattle.packet_assembly.proofs.Readings.{readable_more}
use Rattle.packet_assembly.proofs.Images.{end_more, end_same, geometry_known, geometry_same, through_open, reported_last_open}
use Rattle.segment_defs.specs.TextWish.{TextWish}
use Rattle.strip_decoder.specs.Sinks.{Numbers, Blocks, SinkOf, MayEnd, blocks_with}
use Rattle.strip_decoder.specs.WalkSteps.{Walking, IsCurrent, passed_in, total_in}
use Rattle.strip_decoder.specs.Runs.{Run, holds_after, PassedBy, AsksPassed, HasFew, PartBy, Knows, AreOf, Shows, blocks_passed, settled_blocks, future}
use Rattle.strip_decoder.proofs.Staying.{StaysIn, known_or_not, stays_on, ends_segment, ends_fewer, part_ends}
use Rattle.strip_decoder.proofs.Receiving.{one_received}
use Rattle.port_122.proofs.BothAsked.{since_both}
use Rattle.strip_decoder.proofs.Showing.{block_by}

-- ---- packets of more octets

-- octets, and these octets with more after them, have the same first packets
pub leading_packets : (xs ys : List ℕ) → (beyond : List (List ℕ)) × (whole_packets (xs ++ ys) ≡ whole_packets xs ++ beyond)
leading_packets xs ys =
    let s = whole_splits xs in
    let whole = whole_packets xs in
    let left = left_over xs in (
      whole_packets (left ++ ys),
      ap (λ zs. whole_packets (zs ++ ys)) s.octets_are ∙ ap whole_packets (append_assoc (joined whole) left ys) ∙ whole_after whole (left ++ ys) s.packets_are,
    )

-- the packets of the octets that an assembly took, and of more octets after these
pub packets_then : (w : Run) (a : Assembling) (took octets : List ℕ) (passed : List (List ℕ)) → HasRead w.apid w.cap a took passed →
    whole_packets (took ++ octets) ≡ passed ++ whole_packets (a.intake.pending ++ octets)
packets_then w a took octets passed read =
    ap (λ zs. whole_packets (zs ++ octets)) read.octets_are ∙ ap whole_packets (append_assoc (joined passed) a.intake.pending octets)
    ∙ whole_after passed (a.intake.pending ++ octets) read.packets_are

pub state_then : (w : Run) (a : Assembling) (took octets : List ℕ) (passed : List (List ℕ)) → HasRead w.apid w.cap a took passed →
    state_after w.apid (took ++ octets) ≡ state_with a octets
state_then w a took octets passed read =
    let more = whole_packets (a.intake.pending ++ octets) in
    ap (after_all w.apid fresh) (packets_then w a took octets passed read) ∙ after_all-append w.apid fresh passed more
    ∙ ap (λ s. after_all w.apid s more) (sym read.state) ∙ ap (λ n. after_all n a.state more) (sym read.apid)

-- the packets that were passed are the first of those that followed
pub future_past : {P : FateState → Type 0} {old new : Outside} {a b : Assembling} {went : List (List ℕ)} → (q : Passes P old new a b went) →
    (rest : List ℕ) → new.rest ≡ Some rest → future a (q.took ++ rest) ≡ went ++ future b rest
future_past {b = b} {went = went} q rest if_known = ap whole_packets (q.arrives rest if_known) ∙ whole_after went (arriving b.intake rest) q.packets_are

-- and so are the packets of a part of the octets that were taken meanwhile
pub future_part : {P : FateState → Type 0} {old new : Outside} {a b : Assembling} {went : List (List ℕ)} → (q : Passes P old new a b went) →
    (rest octets more : List ℕ) → new.rest ≡ Some rest → q.took ≡ octets ++ more →
    (beyond : List (List ℕ)) × (future a (q.took ++ rest) ≡ whole_packets (a.intake.pending ++ octets) ++ beyond)
future_part {a = a} {b = b} {went = went} q rest octets more if_known parts =
    let stuff = drop (length b.intake.pending) (arriving b.intake rest) in
    let later : arriving b.intake rest ≡ b.intake.pending ++ stuff =
    sym (ap (λ zs. zs ++ stuff) (take_prefix b.intake.pending _) ∙ take-append-drop (length b.intake.pending) (arriving b.intake rest)) in
    let all : arriving a.intake (q.took ++ rest) ≡ (a.intake.pending ++ octets) ++ (more ++ stuff) = grind (arith, nat_tests, append_assoc) in
    let parted = leading_packets (a.intake.pending ++ octets) (more ++ stuff) in
    (parted.0, ap whole_packets all ∙ parted.1)
  where
    take_prefix : (xs ys : List ℕ) → xs ≡ take (length xs) (xs ++ ys)
    take_prefix [] ys = refl
    take_prefix (x ∷ xs) ys = ap (λ zs. x ∷ zs) (take_prefix xs ys)

-- ---- a run goes on

pub knows_on : (texts : TextWish) (apid : ℕ) (passed went later : List (List ℕ)) (bound : ℕ) (sofar : Numbers) →
    Knows texts apid passed (went ++ later) bound sofar → Knows texts apid (passed ++ went) later bound sofar
knows_on texts apid passed went later bound sofar knows = record {
  at = λ next more are index lt.
      let here = knows.at (went ++ next) more (ap (λ xs. went ++ xs) are ∙ sym (append_assoc went next more)) index lt in
      subst (λ xs. MatchOption (sofar index) ((numbers : List (List ℤ)) → IsReceived (holds_after texts) (kept apid fresh xs) index numbers → ⊥)
      (IsReceived (holds_after texts) (kept apid fresh xs) index)) (sym (append_assoc passed went next)) here;
}

asks_more : {S : Type 0} (k : SinkOf S) (w : Run) (took t gave g : List ℕ) (i j : ℕ) → i ≤ length took → AsksPassed k w took gave i j →
    AsksPassed k w (took ++ t) (gave ++ g) i j
asks_more k w took t gave g i j le asks = grind (arith, nat_tests, take-append-le, length-append)

-- the exchange with a port is extended by what was given
pub wrote_on : {S : Type 0} {old new : Outside} (k : SinkOf S) (w : Run) (took gave g : List ℕ) →
    Exchange w.start old took gave [] (AsksPassed k w took gave) → Exchange old new [] g [] NoRead →
    Exchange w.start new took (gave ++ g) [] (AsksPassed k w took (gave ++ g))
wrote_on k w took gave g since out =
    since_out (since_weaker since (λ i j le asks. subst (λ zs. AsksPassed k w zs (gave ++ g) i j) (append-nil took)
    (asks_more k w took [] gave g i j le asks))) out

-- the condition on these octets, if the port reports what is left
abbrev pub IsRight : {S : Type 0} → SinkOf S → Run → (taken given : List ℕ) → Type 0
IsRight k w taken given = HasFewPixels w.pixels w.apid taken × ((all : List ℕ) → w.start.rest ≡ Some all → PassedBy k w.texts w.apid taken given)

-- a read call at which what was given is right
abbrev AsksRight : {S : Type 0} → SinkOf S → Run → (took gave : List ℕ) → ℕ → ℕ → Type 0
AsksRight k w took gave i j = (j ≤ length gave) × IsRight k w (take i took) (take j gave)

-- the run is extended by what was taken, if at each read call what was given is right
pub took_on : {S : Type 0} {P : FateState → Type 0} {old new : Outside} {a b : Assembling} {passed went : List (List ℕ)} (k : SinkOf S) (w : Run)
    (took gave : List ℕ) → HasRead w.apid w.cap a took passed → Exchange w.start old took gave [] (AsksPassed k w took gave) →
    (q : Passes P old new a b went) →
    ((octets more : List ℕ) → q.took ≡ octets ++ more → P (state_with a octets) → IsRight k w (took ++ octets) gave) →
    Exchange w.start new (took ++ q.took) gave [] (AsksPassed k w (took ++ q.took) gave)
took_on {old = old} {new = new} k w took gave read since q right =
    since_weaker (since_both both readable) (λ i j le asks. (asks.0.0, (asks.1, asks.0.1.0), asks.0.1.1))
  where
    readable : Exchange w.start new (took ++ q.took) gave [] (AsksReadable w.cap (took ++ q.took))
    readable = readable_more w.apid w.cap read (since_weaker since (λ i j le asks. asks.1.0)) q.readable

    take_whole : (xs : List ℕ) → take (length xs) xs ≡ xs
    take_whole [] = refl
    take_whole (x ∷ xs) = ap (λ zs. x ∷ zs) (take_whole xs)

    both : Exchange w.start new (took ++ q.took) gave [] (AsksRight k w (took ++ q.took) gave)
    both =
        let all = took ++ q.took in
        let first : Exchange w.start old took gave [] (AsksRight k w all gave) = since_weaker since (λ i j le asks.
        let more = subst (λ zs. AsksPassed k w all zs i j) (append-nil gave) (asks_more k w took q.took gave [] i j le asks) in
        (more.0, (more.1.1, more.2))) in
        let later : Exchange w.start new all (gave ++ []) [] (AsksRight k w all gave) = since_then first q.since (λ i j le asks.
        let here = right (take i q.took) (drop i q.took) (sym (take-append-drop i q.took)) asks.0 in
        let early = sym (take-append-add took q.took i) in
        let none : length gave + j ≡ length gave = omega (arith, asks.1) in
        let whole : take (length gave + j) gave ≡ gave = ap (λ n. take n gave) none ∙ take_whole gave in
        let then_right = subst (IsRight k w (took ++ take i q.took)) (sym whole) here in
        (omega (arith, asks.1), subst (λ zs. IsRight k w zs (take (length gave + j) gave)) early then_right)) in
        subst (λ zs. Exchange w.start new all zs [] (AsksRight k w all gave)) (append-nil gave) later

-- an image stays the one that it was, with the packets that are whole by now
pub stays_with : (w : Run) (a : Assembling) (took octets : List ℕ) (passed : List (List ℕ)) → HasRead w.apid w.cap a took passed → (g : Geometry) (n : ℕ) →
    StaysIn a.state g n → StaysIn (state_with a octets) g n
stays_with w a took octets passed read g n stays =
    let next = whole_packets (a.intake.pending ++ octets) in
    let there : after_all w.apid fresh (passed ++ next) ≡ state_with a octets =
    after_all-append w.apid fresh passed next ∙ ap (λ s. after_all w.apid s next) (sym read.state) ∙ ap (λ n. after_all n a.state next) (sym read.apid) in
    subst (λ s. StaysIn s g n) there (stays_on w.apid passed next g n (subst (λ s. StaysIn s g n) read.state stays))

-- ---- few pixels

-- packets that begin no segment report none
pub few_same : (pixels apid : ℕ) (passed next : List (List ℕ)) → HasFew pixels apid passed →
    last_index (after_all apid (after_all apid fresh passed) next).last ≡ last_index (after_all apid fresh passed).last → HasFew pixels apid (passed ++ next)
few_same pixels apid passed next few same g there = grind (arith, nat_tests, geometry_same, after_all-append, end_same)

-- if the height is reported from the first head on, later heads report the same pixels
pub few_known : (pixels apid : ℕ) (passed next : List (List ℕ)) (g : Geometry) → (after_all apid fresh passed).geometry ≡ Some g →
    HasFew pixels apid passed → (after_all apid fresh (passed ++ next)).reported_last ≡ false → HasFew pixels apid (passed ++ next)
few_known pixels apid passed next g geometry few known h there =
    grind (arith, nat_tests, known_or_not, after_all-append, reported_last_open, false≢true, geometry_known, reached_known)

-- ---- the segments that are received

-- two results for the same segment agree
pub both_report : (texts : TextWish) (packets : List (List ℕ)) (index : ℕ) (r s : Option (List (List ℤ))) →
    MatchOption r ((w : List (List ℤ)) → IsReceived (holds_after texts) packets index w → ⊥) (IsReceived (holds_after texts) packets index) →
    MatchOption s ((w : List (List ℤ)) → IsReceived (holds_after texts) packets index w → ⊥) (IsReceived (holds_after texts) packets index) → r ≡ s
both_report texts packets index r s x y = grind (arith, nat_tests, one_received)

-- the first blocks are those of the segments that are received
pub of_received : (g : Geometry) (sofar received : Numbers) (n bound : ℕ) → 0 < g.segment → n ≤ first_block g.segment bound →
    ((index : ℕ) → index < bound → received index ≡ sofar index) → AreOf g sofar n (blocks_with g received)
of_received g sofar received n bound some few same = grind (arith, nat_tests, block_by, div_below)

-- the blocks that a state settles
settled_is : (s : FateState) (received : Numbers) (g : Geometry) (l : LastPart) → s.geometry ≡ Some g → s.last ≡ Some l →
    settled_blocks s received ≡ blocks_through g received l.index
settled_is s received g l geometry last = grind (arith, nat_tests)

-- the blocks that were passed are no more than those that are passed in the end
pub within_passed : (g h : Geometry) (n ended : ℕ) → MayEnd g (placed h) n → n ≤ blocks_of g → (h.rows ≡ 0 → n ≤ ended) → n ≤ blocks_passed h ended
within_passed g h n ended ends few begun = grind (arith, nat_tests, known_or_not, is_open, blocks_known, is_not_open)

-- the blocks of segments of this size
abbrev pub blocks_by : (size : ℕ) → Numbers → Blocks
blocks_by size received block = option_map (λ numbers. slice_index_or numbers (block % size) []) (received (block / size))

-- ---- what is given is right

module _ {S : Type 0} (k : SinkOf S) (w : Run) (a : Assembling) (p : Walking S) (took gave octets : List ℕ) (passed : List (List ℕ)) (bound : ℕ)
    (sofar : Numbers) (read : HasRead w.apid w.cap a took passed)
    (current : IsCurrent k p) (few : passed_in p ≤ first_block p.geometry.segment bound) (begun : passed_in p ≤ end_of (kept w.apid fresh passed))
    (later beyond : List (List ℕ)) (parts : later ≡ whole_packets (a.intake.pending ++ octets) ++ beyond)
    (knows : Knows w.texts w.apid passed later bound sofar) where
  abbrev next : List (List ℕ)
  next = whole_packets (a.intake.pending ++ octets)

  state_is : state_after w.apid (took ++ octets) ≡ state_with a octets
  state_is = state_then w a took octets passed read

  kept_are : kept_in w.apid (took ++ octets) ≡ kept w.apid fresh (passed ++ next)
  kept_are = ap (kept w.apid fresh) (packets_then w a took octets passed read)

  -- the kept heads reach at least as far as before
  reach_more : (n : ℕ) → n ≤ end_of (kept w.apid fresh passed) → n ≤ end_of (kept_in w.apid (took ++ octets))
  reach_more n le = let more = end_more w.apid passed next in omega (arith, le, more, ap end_of kept_are)

  pub known_same : (received : Numbers) → ReceivedIn (holds_after w.texts) w.apid (took ++ octets) received → (index : ℕ) → index < bound →
      received index ≡ sofar index
  known_same received are index lt =
      both_report w.texts (kept w.apid fresh (passed ++ next)) index (received index) (sofar index)
      (subst (λ packets. MatchOption (received index) ((v : List (List ℤ)) → IsReceived (holds_after w.texts) packets index v → ⊥)
      (IsReceived (holds_after w.texts) packets index)) kept_are (are.at index))
      (knows.at next beyond parts index lt)

  -- the first blocks are those of the segments that are received
  pub first_received : (n : ℕ) → n ≤ first_block p.geometry.segment bound → (received : Numbers) →
      ReceivedIn (holds_after w.texts) w.apid (took ++ octets) received → AreOf p.geometry sofar n (blocks_with p.geometry received)
  first_received n le received are = of_received p.geometry sofar received n bound (omega (arith, current.range.segment.0)) le (known_same received are)

  pub given_then : Shows k p sofar gave → (received : Numbers) → ReceivedIn (holds_after w.texts) w.apid (took ++ octets) received →
      k.Given p.geometry (blocks_with p.geometry received) (passed_in p) gave
  given_then shows received are =
      let blocks = blocks_with p.geometry received in
      k.given_of p.sink p.geometry blocks (passed_in p) gave current.valid (shows blocks (first_received (passed_in p) few received are)).sink

  -- a part of what the sink gives of the first n blocks
  pub part_at : (given : List ℕ) (n : ℕ) → (stays : StaysIn (state_with a octets) p.geometry n) → n ≤ total_in p →
      (stays.image.rows ≡ 0 → n ≤ end_of (kept w.apid fresh passed)) →
      ((received : Numbers) → ReceivedIn (holds_after w.texts) w.apid (took ++ octets) received →
      (m : ℕ) × (m ≤ n) × k.Part p.geometry (blocks_with p.geometry received) m given) → PartBy k w.texts w.apid (took ++ octets) given
  part_at given n stays most reached parted = record {
    none = λ none. absurd (let both : None ≡ Some stays.image = sym none ∙ ap (λ (s : FateState). s.geometry) state_is ∙ stays.geometry in cc);
    some = λ g received if_known are.
        let same : stays.image ≡ g = (let both : Some stays.image ≡ Some g =
        sym stays.geometry ∙ ap (λ (s : FateState). s.geometry) (sym state_is) ∙ if_known in cc) in
        let x = parted received are in
        let ends = ends_fewer p.geometry (placed stays.image) x.0 n x.1 stays.ends in
        let segment = ends_segment p.geometry (placed stays.image) n stays.ends in
        let blocks : blocks_with p.geometry received ≡ blocks_with stays.image received = ap (λ m. blocks_by m received) (sym segment) in
        subst (λ (g : Geometry). (m : ℕ) × (m ≤ blocks_passed g (end_of (kept_in w.apid (took ++ octets)))) × k.Part (placed g) (blocks_with g received) m
        given) same (
          x.0,
          within_passed p.geometry stays.image x.0 (end_of (kept_in w.apid (took ++ octets))) ends (omega (arith, x.1, most))
              (λ none. reach_more x.0 (omega (arith, x.1, reached none))),
          subst (λ blocks. k.Part (placed stays.image) blocks x.0 given) blocks
              (part_ends k p.geometry (placed stays.image) (blocks_with p.geometry received) x.0 given ends x.2),
        );
  }

  pub is_part : StaysIn (state_with a octets) p.geometry (passed_in p) → Shows k p sofar gave → PartBy k w.texts w.apid (took ++ octets) gave
  is_part stays shows = part_at gave (passed_in p) stays current.few (λ none. begun)
      (λ received are. (passed_in p, omega arith, k.part_of p.geometry (blocks_with p.geometry received) (passed_in p) gave (given_then shows received are)))

  -- and it is at least what is given after the settled blocks
  pub is_prompt : (image : Geometry) → (state_with a octets).geometry ≡ Some image → p.geometry ≡ placed image → Shows k p sofar gave →
      ((index : ℕ) → bound ≤ index → sofar index ≡ None) →
      ((index : ℕ) (v : List (List ℤ)) → bound ≤ index → IsReceived (holds_after w.texts) (kept w.apid fresh (passed ++ next)) index v → ⊥) →
      (l : LastPart) → (state_with a octets).last ≡ Some l → blocks_through p.geometry sofar l.index ≤ passed_in p →
      PassedBy k w.texts w.apid (took ++ octets) gave
  is_prompt image geometry goes_by shows above beyond_none l last_is reached = record {
    none = λ none. absurd (let both : None ≡ Some image = sym none ∙ ap (λ (s : FateState). s.geometry) state_is ∙ geometry in cc);
    some = λ g received if_known are.
        let same : image ≡ g = (let both : Some image ≡ Some g = sym geometry ∙ ap (λ (s : FateState). s.geometry) (sym state_is) ∙ if_known in cc) in
        subst (λ (g : Geometry). (n : ℕ) × (n ≤ blocks_passed g (end_of (kept_in w.apid (took ++ octets)))) ×
        (settled_blocks (state_after w.apid (took ++ octets)) received ≤ n) × k.Given (placed g) (blocks_with g received) n gave) same
        (let there : (state_after w.apid (took ++ octets)).geometry ≡ Some image = ap (λ (s : FateState). s.geometry) state_is ∙ geometry in
        let last : (state_after w.apid (took ++ octets)).last ≡ Some l = ap (λ (s : FateState). s.last) state_is ∙ last_is in
        let settled : settled_blocks (state_after w.apid (took ++ octets)) received ≡ blocks_through p.geometry sofar l.index =
        settled_is (state_after w.apid (took ++ octets)) received image l there last
        ∙ through_open w.apid (whole_packets (took ++ octets)) image received l.index there (ap last_index last)
        ∙ ap (λ h. blocks_through h received l.index) (sym goes_by)
        ∙ ap (λ o. first_block p.geometry.segment l.index + (if is_some o then blocks_in p.geometry l.index else 0)) (all_same received are l.index) in (
          passed_in p,
          within_passed p.geometry image (passed_in p) (end_of (kept_in w.apid (took ++ octets))) (inl (sym goes_by)) current.few
              (λ none. reach_more (passed_in p) begun),
          omega (arith, settled, reached),
          subst (λ h. k.Given h (blocks_with h received) (passed_in p) gave) goes_by (given_then shows received are),
        ));
  }
    where
      all_same : (received : Numbers) → ReceivedIn (holds_after w.texts) w.apid (took ++ octets) received → (index : ℕ) → received index ≡ sofar index
      all_same received are index = grind (arith, nat_tests, known_same, kept_are, both_report)
