-- The fields of a head in those of its octets that were taken.
use Rattle.std.proofs.Common.{◌≡◌, ℕ, ◌+◌, ◌<◌, ◌≤◌, List, ◌++◌, length, take, sym, ap, ◌∙◌, subst, arith, length-append, None, Some, Result, Ok, Err}
use Rattle.std.proofs.Common.{take_at, take_all}
use Rattle.item_defs.proofs.OctetBits.{octets_both}
use Rattle.bit_pipe.specs.declared.fault.InFault.{InFault}
use Rattle.bit_pipe.specs.declared.fault.InFault.TheVariants as inputs
use Rattle.bit_pipe.specs.Sources.{SourceOf, Fails}
use Rattle.bit_pipe.proofs.Giving.{rose_since}
use Rattle.bit_pipe.proofs.Taking.{arrives_then}
use Rattle.segment_defs.specs.declared.head.SegmentHead.{SegmentHead}
use Rattle.segment_defs.specs.declared.fault.HeadFault.{HeadFault}
use Rattle.segment_defs.specs.declared.fault.HeadFault.TheVariants.{HeadShort, MissingPart, Unsupported, DepthTooLarge, BadValue}
use Rattle.segment_defs.specs.Reading.{first_refusal, answer, head_read}
use Rattle.segment_defs.proofs.HeadTests.{passed, refused}
use Rattle.segment_defs.proofs.LaterTests.{later_test}
use Rattle.bare_text.specs.declared.parts.PartsInForce.{PartsInForce}
use Rattle.bare_text.specs.declared.read.BareHead.{BareHead}
use Rattle.bare_text.specs.declared.read.BareHeadFault.{BareHeadFault}
use Rattle.bare_text.specs.declared.read.BareHeadFault.TheVariants.{Input, Refused}
use Rattle.bare_text.specs.Filled.{EndsFill, Fills}
use Rattle.bare_text.specs.InForce.{bare_length, parts_after, completed, completed_with}
use Rattle.bare_text.specs.Reading.{carry_tests, bare_head_read, head_octets}
use Rattle.bare_text.specs.Taken.{DecidesHead, NeedsHead, EndsHead, ReadsHead}
use Rattle.bare_text.proofs.HeadTests.{length_alike, carry_alike, read_carry, read_last, in_short, in_there, octets_missing, octets_whole, octets_least}
use Rattle.bare_text.proofs.HeadTests.{is_missing}
use Rattle.bare_text.proofs.WholeHeads.{parts_there}

-- the octets are those that decide this result
decided : (before : PartsInForce) (octets : List ℕ) (result : Result SegmentHead HeadFault) → head_octets before octets ≡ length octets →
    bare_head_read before octets ≡ result → DecidesHead before result octets
decided before octets result long read =
    in_there before octets (omega (arith, long))
    ∙ ap (λ r. Some (record { result = r; octets = head_octets before octets })) read
    ∙ ap (λ n. Some (record { result = result; octets = n })) long

abbrev outcome : PartsInForce → List ℕ → Result (Unit {0}) HeadFault
outcome before octets = answer (first_refusal (carry_tests before octets)) tt

-- fewer than three octets were taken, and the input failed
pub start_failed : {I : Type 0} (k : SourceOf I) (before : PartsInForce) (old mid : I) (zeros one : List ℕ) (fault : InFault) →
    Fills k 0 3 (Err fault) old mid zeros one → (after : PartsInForce) → ReadsHead k before (Err (Input fault)) old mid after
start_failed k before old mid zeros one fault p after = record {
  octets = p.octets;
  small = p.small;
  came = p.came;
  faults = p.faults;
  went = p.went;
  ends = (in_short before p.octets (let least = octets_least before p.octets in omega (arith, least, p.ends.0)), p.ends.1);
}

module _ {I : Type 0} (k : SourceOf I) (before : PartsInForce) (old mid : I) (zeros one : List ℕ) (count : ℕ) (p : Fills k 0 3 (Ok count) old mid zeros one)
  where
    first_reads : (r : Result BareHead BareHeadFault) (after : PartsInForce) → EndsHead k before r p.octets old mid after → ReadsHead k before r old mid after
    first_reads r after e = record { octets = p.octets; small = p.small; came = p.came; faults = p.faults; went = p.went; ends = e }

    pub start_short : count < 3 → (after : PartsInForce) → ReadsHead k before (Err (Refused (HeadShort count))) old mid after
    start_short lt after =
        let long : count ≡ length p.octets = omega (arith, p.ends.0) in
        first_reads (Err (Refused (HeadShort count))) after
        (in_short before p.octets (let least = octets_least before p.octets in omega (arith, long, lt, least)), long, p.ends.2 lt)

    module _ (enough : 3 ≤ count) where
      three : length p.octets ≡ 3
      three = omega (arith, p.ends.0, p.ends.1, enough)

      prefix : take 3 one ≡ p.octets
      prefix = (let e : 3 ≡ 0 + length p.octets = omega (arith, three) in ap (λ n. take n one) e) ∙ p.places

      pub part_missing : (fault : HeadFault) → Err fault ≡ outcome before (take 3 one) → (after : PartsInForce) →
          ReadsHead k before (Err (Refused fault)) old mid after
      part_missing fault e after =
          let tests : first_refusal (carry_tests before p.octets) ≡ Some fault =
          subst (λ l. first_refusal (carry_tests before l) ≡ Some fault) prefix (refused _ _ tt e) in
          first_reads (Err (Refused fault)) after
          (is_missing before p.octets fault (λ f. first_refusal (carry_tests before p.octets) ≡ Some f →
          EndsHead k before (Err (Refused f)) p.octets old mid after) (λ part e. missing (MissingPart part) e) tests tests)
        where
          missing : (f : HeadFault) → first_refusal (carry_tests before p.octets) ≡ Some f → DecidesHead before (Err f) p.octets
          missing f e =
              let n = octets_missing before p.octets f e in
              decided before p.octets (Err f) (omega (arith, n, three)) (read_carry before p.octets f (omega (arith, three)) e)

      -- ---- and those of the parts after Part 1A

      module _ (new : I) (two : List ℕ) (size : ℕ) (r : Result ℕ InFault) (is : size ≡ bare_length (take 3 one))
          (carried : Ok tt ≡ outcome before (take 3 one)) (q : Fills k 3 size r mid new one two) where
        abbrev all : List ℕ
        all = p.octets ++ q.octets

        all_reads : (s : Result BareHead BareHeadFault) (after : PartsInForce) → EndsHead k before s all old new after → ReadsHead k before s old new after
        all_reads s after e = record {
          octets = all;
          small = octets_both p.octets q.octets p.small q.small;
          came = arrives_then (k.tail old) (k.tail mid) (k.tail new) p.octets q.octets p.came q.came;
          faults = omega (arith, p.faults, q.faults);
          went = k.went_both old mid new p.went q.went;
          ends = e;
        }

        long : length all ≡ 3 + length q.octets
        long = omega (arith, three, length-append p.octets q.octets)

        begins : take 3 all ≡ p.octets
        begins = take_at p.octets q.octets 3 three

        same : take 3 all ≡ take 3 p.octets
        same = begins ∙ sym (let e : take 3 p.octets ≡ p.octets = ap (λ n. take n p.octets) (sym three) ∙ take_all_of p.octets in e)
          where
            take_all_of : (l : List ℕ) → take (length l) l ≡ l
            take_all_of l = take_all (length l) l (omega arith)

        size_is : size ≡ bare_length all
        size_is = is ∙ ap bare_length prefix ∙ sym (length_alike all p.octets same (omega (arith, long)) (omega (arith, three)))

        none_missing : first_refusal (carry_tests before all) ≡ None
        none_missing =
            ap first_refusal (carry_alike all p.octets same (omega (arith, long)) (omega (arith, three)) before)
            ∙ subst (λ l. first_refusal (carry_tests before l) ≡ None) prefix (passed _ _ tt carried)

        octets_are : head_octets before all ≡ size
        octets_are = octets_whole before all none_missing ∙ sym size_is

        needs : length all < size → NeedsHead before all
        needs lt = in_short before all (omega (arith, octets_are, lt))

        pub later_failed : (fault : InFault) → r ≡ Err fault → (after : PartsInForce) → ReadsHead k before (Err (Input fault)) old new after
        later_failed fault e after =
            let ends = subst (λ s. EndsFill k 3 size s q.octets mid new) e q.ends in
            all_reads (Err (Input fault)) after (needs (let few = ends.0 in omega (arith, few, long)), cause fault ends.1)
          where
            cause : (e : InFault) → Fails k e mid new → Fails k e old new
            cause inputs.ReadFault f = rose_since (k.faults old) (k.faults mid) (k.faults new) p.faults f
            cause inputs.LongInput f = f
            cause inputs.Broken f = f

        module _ (got : ℕ) (so : r ≡ Ok got) where
          ended : EndsFill k 3 size (Ok got) q.octets mid new
          ended = subst (λ s. EndsFill k 3 size s q.octets mid new) so q.ends

          got_is : got ≡ length all
          got_is = omega (arith, ended.0, long)

          pub later_short : got < size → (after : PartsInForce) → ReadsHead k before (Err (Refused (HeadShort got))) old new after
          later_short lt after =
              all_reads (Err (Refused (HeadShort got))) after
              (needs (omega (arith, got_is, lt)), got_is, ended.2 lt)

          module _ (whole : size ≤ got) where
            count_is : length all ≡ size
            count_is = omega (arith, got_is, ended.1, whole)

            taken : take size two ≡ all
            taken = ap (λ n. take n two) (sym count_is ∙ long) ∙ q.places ∙ ap (λ l. l ++ q.octets) prefix

            pub has_length : bare_length (take size two) ≤ length (take size two)
            has_length = subst (λ l. bare_length l ≤ length l) (sym taken) (omega (arith, count_is, size_is))

            last : (parts : PartsInForce) → parts ≡ parts_after before (take size two) →
                bare_head_read before all ≡ head_read (completed_with parts.octets (take size two))
            last parts e =
                read_last before all (omega (arith, long)) none_missing (omega (arith, count_is, size_is))
                ∙ ap (λ l. head_read (completed before l)) (sym taken) ∙ ap (λ p. head_read (completed_with p.octets (take size two))) (sym e)

            pub head_refused : (parts : PartsInForce) → length parts.octets ≡ 16 → parts ≡ parts_after before (take size two) → (fault : HeadFault) →
                Err fault ≡ head_read (completed_with parts.octets (take size two)) → (after : PartsInForce) →
                ReadsHead k before (Err (Refused fault)) old new after
            head_refused parts sixteen e fault f after =
                let full : length all ≡ bare_length all = omega (arith, count_is, size_is) in
                let here : head_read (completed_with parts.octets all) ≡ Err fault = ap (λ l. head_read (completed_with parts.octets l)) (sym taken) ∙ sym f in
                let there = parts_there parts.octets sixteen all (octets_both p.octets q.octets p.small q.small) (omega (arith, long)) (omega (arith, full)) in
                all_reads (Err (Refused fault)) after
                (later_test (λ h. bare_head_read before all ≡ Err h → EndsHead k before (Err (Refused h)) all old new after) (λ o. refuses (Unsupported o))
                (λ dc ac. refuses (DepthTooLarge dc ac)) (λ h. refuses (BadValue h)) (completed_with parts.octets all) there fault here
                (last parts e ∙ sym f))
              where
                refuses : (h : HeadFault) → bare_head_read before all ≡ Err h → DecidesHead before (Err h) all
                refuses h e = decided before all (Err h) (omega (arith, octets_are, count_is)) e

            pub head_taken : (parts : PartsInForce) → parts ≡ parts_after before (take size two) → (head : SegmentHead) →
                Ok head ≡ head_read (completed_with parts.octets (take size two)) →
                ReadsHead k before (Ok (record { head = head; size = size })) old new parts
            head_taken parts e head f =
                all_reads (Ok (record { head = head; size = size })) parts
                (decided before all (Ok head) (omega (arith, octets_are, count_is)) (last parts e ∙ sym f), sym count_is, e ∙ ap (parts_after before) taken)
