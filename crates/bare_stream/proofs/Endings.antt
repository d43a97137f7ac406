-- A decoder that ends, at an octet that decides the answer or where no octet follows.
use Rattle.std.proofs.Common.{◌≡◌, ◌≤◌, ◌<◌, ◌+◌, ℕ, true, false, nat_lt, if◌then◌else◌, List, [], ◌++◌, length, take, refl, sym, ap, subst, ◌∙◌}
use Rattle.std.proofs.Common.{arith, append_assoc, length-append, Option, None, Some, Result, Err}
use Rattle.std.specs.List.{concat}
use Rattle.std.proofs.lemmas.List.{append-nil, take_all}
use Rattle.std.proofs.lemmas.Bool.Decides.{nat_tests}
use Rattle.std.proofs.Math.Seq.{take-append-add}
use Rattle.port_122.specs.Outside.{Outside, Loses, IsUsedUp}
use Rattle.base_122.specs.declared.geometry.Geometry.{Geometry}
use Rattle.base_122.specs.declared.wish.DecodeWish.{DecodeWish}
use Rattle.segment_defs.specs.TextWish.{text_wish}
use Rattle.bit_pipe.specs.declared.fault.InFault.TheVariants as in_faults
use Rattle.bit_pipe.specs.Sources.{Fails, IsOver, Plainly, TooLong, InPieces}
use Rattle.bare_text.specs.declared.parts.PartsInForce.{PartsInForce}
use Rattle.bare_stream.specs.declared.fault.BareFault.{BareFault}
use Rattle.bare_stream.specs.declared.fault.BareFault.TheVariants.{ReadFault, LongInput}
use Rattle.bare_stream.specs.declared.input.PortIn.{PortIn}
use Rattle.bare_stream.specs.Input.{waiting, tail_of}
use Rattle.bare_stream.specs.Inputs.{source_of}
use Rattle.bare_stream.specs.StreamRead.{Ending, needs_more, stops, Segments, Next, ends, next_in, reading, answer_by, octets_by}
use Rattle.bare_stream.specs.Decoded.{IfKnown, AnswersBy, Answers, EndsSo, DecodesBare, read_by, rows_of}
use Rattle.bare_stream.specs.Reads.{HasLaws, SegmentsRead, HasRead, InForceAfter, segments_of, size_of}
use Rattle.bare_stream.proofs.InputEnds.{ends_plain, ends_long, not_broken, failed_is, failed_waits}
use Rattle.bare_stream.proofs.NextReads.{Opens, fewer_open, open_before, stop_stays, needed}
use Rattle.bare_stream.proofs.ReadLaws.{read_ends}
use Rattle.bare_stream.proofs.Settles.{rows_same, open_with, asks_all}

-- what the port still reports
pub left_known : (old now : Option (List ℕ)) (octets took : List ℕ) → old ≡ Some octets → Loses old now took →
    (beyond : List ℕ) × (now ≡ Some beyond) × (octets ≡ took ++ beyond)
left_known None now octets took if_known loses = absurd cc
left_known (Some all) None octets took if_known loses = absurd loses
left_known (Some all) (Some beyond) octets took if_known loses = (beyond, refl, of_some octets all if_known ∙ loses)
  where
    of_some : (a b : List ℕ) → Some b ≡ Some a → a ≡ b
    of_some a b e = cc

module _ (wish : DecodeWish) (laws : HasLaws wish) {X : Type 0} (outside : X → Outside) (start : Outside) (r : SegmentsRead) (before : PartsInForce)
    (part : List ℕ) (t : PortIn X) (read : HasRead outside wish start r part t) (reaches : InForceAfter wish start r before) where
  abbrev now : Outside
  now = outside t.port.now

  abbrev s : Segments
  s = segments_of r before

  abbrev next : Next
  next = next_in (text_wish wish) wish.pixels s part

  pub beyond_known : IfKnown start (λ input. (beyond : List ℕ) × (now.rest ≡ Some beyond) × (input ≡ read.took ++ beyond))
  beyond_known input if_known = left_known start.rest now.rest input read.took if_known read.since.rest

  ended_at : IfKnown start (λ input. (n : ℕ) → n < length part → Opens (next_in (text_wish wish) wish.pixels s (take n part))) →
      (result : Result Geometry BareFault) → EndsSo result start now read.gave →
      IfKnown start (λ input. Answers wish input read.took read.gave result) → DecodesBare wish start now result
  ended_at opens result finish answers = record {
    took = read.took;
    gave = read.gave;
    since = asks_all wish laws outside start r before part t read reaches opens;
    within = (let left = read.left in omega (arith, left));
    ends = finish;
    answers = answers;
  }

  given : read.gave ≡ rows_of s
  given = read.gave_is ∙ sym (rows_same r before read.some read.same)

  -- the octets of the input that may be taken
  within_is : (input beyond : List ℕ) → input ≡ read.took ++ beyond → take wish.octets input ≡ read.took ++ take t.left beyond
  within_is input beyond e = ap (take wish.octets) e ∙ ap (λ n. take n (read.took ++ beyond)) (sym read.left) ∙ take-append-add read.took beyond t.left

  -- an answer by how the octets are read
  answers_by : (input : List ℕ) (ending : Ending) (result : Result Geometry BareFault) → reading wish input ≡ record { segments = s; ending = ending } →
      result ≡ answer_by wish input ending →
      octets_by wish input ending ≤ length read.took → AnswersBy wish input read.took read.gave result
  answers_by input ending result is so few = record {
    answer = so ∙ ap (λ x. answer_by wish input x.ending) (sym is);
    decided = subst (λ x. octets_by wish input x.ending ≤ length read.took) (sym is) few;
    rows = given ∙ ap (λ x. rows_of x.segments) (sym is);
  }

  -- ---- the last of the octets that were given decides a fault

  module _ (fault : BareFault) (n : ℕ) (stop : IfKnown start (λ input. next ≡ ends (stops fault n))) (last : n ≡ size_of r + length part) where
    stops_opens : IfKnown start (λ input. (m : ℕ) → m < length part → Opens (next_in (text_wish wish) wish.pixels s (take m part)))
    stops_opens input if_known m lt =
        fewer_open laws.heads laws.texts (text_wish wish) laws.sound wish.pixels s part m (let e = ap (needed s) (stop input if_known) in omega
        (arith, lt, e, last))

    stops_reading : IfKnown start (λ input. reading wish input ≡ record { segments = s; ending = stops fault n })
    stops_reading input if_known =
        let b = beyond_known input if_known in
        let more = waiting t ++ take t.left b.0 in
        let all : take wish.octets input ≡ concat r.texts ++ (part ++ more) =
        within_is input b.0 b.2 ∙ ap (λ l. l ++ take t.left b.0) read.octets ∙ append_assoc (concat r.texts) (part ++ waiting t) (take t.left b.0)
        ∙ ap (λ l. concat r.texts ++ l) (append_assoc part (waiting t) (take t.left b.0)) in
        ap (read_by wish) all ∙ reaches input if_known (part ++ more)
        ∙ read_ends laws.heads laws.texts (text_wish wish) laws.sound wish.pixels s (part ++ more) (stops fault n)
        (stop_stays laws.heads laws.texts (text_wish wish) laws.sound wish.pixels s part more fault n (stop input if_known))

    few : n ≤ length read.took
    few = (
        let a = ap length read.octets in
        omega (arith, a, last, length-append (concat r.texts) (part ++ waiting t), length-append part (waiting t))
        )

    stops_answer : IfKnown start (λ input. AnswersBy wish input read.took read.gave (Err fault))
    stops_answer input if_known = answers_by input (stops fault n) (Err fault) (stops_reading input if_known) refl few

    -- `Answers` is that for each fault of a stream
    pub ended_by : EndsSo (Err fault) start now read.gave → ((input : List ℕ) → AnswersBy wish input read.took read.gave (Err fault) →
        Answers wish input read.took read.gave (Err fault)) → DecodesBare wish start now (Err fault)
    ended_by finish so = ended_at stops_opens (Err fault) finish (λ input if_known. so input (stops_answer input if_known))

  -- ---- more octets are needed

  module _ (opened : IfKnown start (λ input. Opens next)) where
    more_opens : IfKnown start (λ input. (m : ℕ) → m < length part → Opens (next_in (text_wish wish) wish.pixels s (take m part)))
    more_opens input if_known m lt = open_before laws.heads laws.texts (text_wish wish) laws.sound wish.pixels s part m (opened input if_known)

    took_is : waiting t ≡ [] → read.took ≡ concat r.texts ++ part
    took_is none = read.octets ∙ ap (λ l. concat r.texts ++ (part ++ l)) none ∙ ap (λ l. concat r.texts ++ l) (append-nil part)

    open_reading : (input : List ℕ) (at_end : Result Geometry BareFault) →
        IfKnown start (λ all. next ≡ ends (needs_more at_end) → take wish.octets input ≡ concat r.texts ++ part →
        reading wish input ≡ record { segments = s; ending = needs_more at_end })
    open_reading input at_end all if_known e within = ap (read_by wish) within ∙ reaches all if_known part ∙ read_ends laws.heads laws.texts (text_wish wish)
        laws.sound
        wish.pixels s part (needs_more at_end) e

    -- the end
    end_answer : (answer : Result Geometry BareFault) → IfKnown start (λ input. next ≡ ends (needs_more answer)) → IsOver (tail_of outside t) Plainly →
        IfKnown start (λ input. AnswersBy wish input read.took read.gave answer)
    end_answer answer is over input if_known =
        let b = beyond_known input if_known in
        let end = ends_plain now.rest (waiting t) b.0 t.left b.1 over in
        let nothing : b.0 ≡ [] = subst IsUsedUp b.1 end.end in
        let all : input ≡ read.took = b.2 ∙ ap (λ l. read.took ++ l) nothing ∙ append-nil read.took in
        let left = read.left in
        let some = end.some in
        let size = ap length all in
        let within : take wish.octets input ≡ input = take_all wish.octets input (omega (arith, left, size)) in
        let test : nat_lt (length input) wish.octets ≡ true =
        (let lt : length input < wish.octets = omega (arith, left, size, some) in grind (arith, nat_tests)) in
        answers_by input (needs_more answer) answer (open_reading input answer input if_known (is input if_known) (within ∙ all ∙ took_is end.none))
        (sym (ap (λ b. if b then answer else Err LongInput) test)) (let few = ap length within in omega (arith, few, size))

    pub ended_plainly : (answer : Result Geometry BareFault) → IfKnown start (λ input. next ≡ ends (needs_more answer)) → IsOver (tail_of outside t) Plainly →
        EndsSo answer start now read.gave →
        ((input : List ℕ) → AnswersBy wish input read.took read.gave answer → Answers wish input read.took read.gave answer) → DecodesBare wish start now answer
    ended_plainly answer is over finish so = ended_at more_opens answer finish (λ input if_known. so input (end_answer answer is over input if_known))

    -- the cap
    long_answer : (waiting t ≡ []) → t.left ≡ 0 → IfKnown start (λ input. AnswersBy wish input read.took read.gave (Err LongInput))
    long_answer none full input if_known =
        let b = beyond_known input if_known in
        let left = read.left in
        let first : take t.left b.0 ≡ [] = ap (λ n. take n b.0) full in
        let within : take wish.octets input ≡ read.took = within_is input b.0 b.2 ∙ ap (λ l. read.took ++ l) first ∙ append-nil read.took in
        let size = ap length b.2 ∙ length-append read.took b.0 in
        let test : nat_lt (length input) wish.octets ≡ false =
        (let le : wish.octets ≤ length input = omega (arith, left, full, size) in grind (arith, nat_tests)) in
        let o = opened input if_known in
        answers_by input (needs_more o.0) (Err LongInput) (open_reading input o.0 input if_known o.1 (within ∙ took_is none))
        (sym (ap (λ b. if b then o.0 else Err LongInput) test)) (let few = ap length within in omega (arith, few))

    -- the input failed, or is too long
    pub failed : (u : PortIn X) → Fails (source_of outside) in_faults.ReadFault u t → DecodesBare wish start now (Err ReadFault)
    failed u rose =
        let fails = failed_is u t rose in
        ended_at more_opens (Err ReadFault) (read.rises fails)
        (λ input if_known. open_with wish laws r before read.some read.same (reaches input if_known) part read.took read.gave (opened input if_known)
        (took_is (failed_waits t fails)) read.gave_is)

    long_answer_known : IsOver (tail_of outside t) TooLong → IfKnown start (λ input. AnswersBy wish input read.took read.gave (Err LongInput))
    long_answer_known over input if_known =
        let b = beyond_known input if_known in
        let long = ends_long now.rest (waiting t) b.0 t.left b.1 over in
        long_answer long.0 long.1 input if_known

    pub was_long : IsOver (tail_of outside t) TooLong → DecodesBare wish start now (Err LongInput)
    was_long over = ended_at more_opens (Err LongInput) tt (long_answer_known over)

    pub was_broken : IsOver (tail_of outside t) InPieces → DecodesBare wish start now (Err LongInput)
    was_broken over = ended_at more_opens (Err LongInput) tt (λ input if_known. let b =
        beyond_known input if_known in absurd (not_broken now.rest (waiting t) b.0 t.left b.1 over))
