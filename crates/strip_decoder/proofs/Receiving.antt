-- Which segments are received, when a decoder has passed them.
use Rattle.std.proofs.Common.{◌≡◌, ◌≤◌, ◌<◌, ℕ, ℤ, List, [], ◌∷◌, ◌++◌, length, drop, sym, ap, subst, ◌∙◌, inl, inr, arith, append_assoc, length-append}
use Rattle.std.proofs.Common.{true, false, None, Some, Result, Ok, IsErr, is_err, MatchOption, slice_index_or}
use Rattle.std.proofs.lemmas.Bool.{cases_lt, false≢true}
use Rattle.std.proofs.lemmas.List.{drop-append-le}
use Rattle.std.proofs.lemmas.Bool.Decides.{nat_tests}
use Rattle.bit_pipe.specs.Sources.{Plainly, InPieces, Tail}
use Rattle.segment_defs.specs.TextWish.{TextWish, text_read}
use Rattle.segment_defs.specs.Head.{head_length}
use Rattle.segment_defs.specs.Reading.{head_read}
use Rattle.packet_defs.specs.Reading.{text_in}
use Rattle.stream_defs.specs.declared.fate.FateState.{FateState}
use Rattle.stream_defs.specs.Fates.{fresh, after, after_all, kept, part_in}
use Rattle.stream_defs.specs.Received.{index_in, packets_at, text_of_parts, IsReceived}
use Rattle.stream_defs.proofs.ChosenLaws.{kept-append, after_all-append}
use Rattle.stream_defs.proofs.KeptOrder.{at_other, at_both, shut, before_none}
use Rattle.packet_assembly.specs.declared.note.SegmentStart.{SegmentStart}
use Rattle.packet_assembly.specs.Assembling.{Assembling, last_index, is_closed}
use Rattle.packet_assembly.specs.Tails.{stop_of, before_it, tail_from, text_tail}
use Rattle.packet_assembly.specs.Wholes.{tail_past, ReportsParts}
use Rattle.packet_assembly.proofs.Begun.{begins_so}
use Rattle.packet_assembly.proofs.Images.{begun_by}
use Rattle.packet_assembly.proofs.TailParts.{reports_parts, in_pieces}
use Rattle.packet_assembly.proofs.TailSteps.{unheld_tail}
use Rattle.packet_assembly.proofs.HeadLengths.{head_within}
use Rattle.strip_decoder.specs.Runs.{holds_after, Numbers, Knows, IsBegun, future}
use Rattle.strip_decoder.proofs.TailLaws.{from_more, from_closes, from_closed}

-- ---- one list of numbers

-- a result has one value
pub one_value : {T E : Type 0} (r : Result T E) (x y : T) → r ≡ Ok x → r ≡ Ok y → x ≡ y
one_value r x y e h = cc

-- and none if it is a fault
pub no_value : {T E : Type 0} (r : Result T E) (x : T) → IsErr r → r ≡ Ok x → ⊥
no_value r x err e = false≢true (sym (ap is_err e) ∙ err)

-- a segment is received with one list of numbers
pub one_received : (texts : TextWish) (packets : List (List ℕ)) (index : ℕ) (v w : List (List ℤ)) → IsReceived (holds_after texts) packets index v →
    IsReceived (holds_after texts) packets index w → v ≡ w
one_received texts packets index v w x y =
    let same : x.head ≡ y.head = one_value _ x.head y.head x.head_is y.head_is in
    let there = subst (λ head. holds_after texts head (text_of_parts (packets_at index packets)) w) (sym same) y.accepted in
    one_value _ v w x.accepted there

-- none of its packets is kept
pub none_received : (texts : TextWish) (packets : List (List ℕ)) (index : ℕ) (w : List (List ℤ)) → packets_at index packets ≡ [] →
    IsReceived (holds_after texts) packets index w → ⊥
none_received texts packets index w none x = grind (arith, nat_tests, length-append)

-- ---- a segment that is begun

begun_index : (apid : ℕ) (passed : List (List ℕ)) (text : List ℕ) (start : SegmentStart) (bound : ℕ) → (b : IsBegun apid passed text start bound) →
    index_in b.packet ≡ start.ancillary.index
begun_index apid passed text start bound b = (begun_by apid b.before b.packet start b.starts).index

-- the packets in another form
split_at : (apid : ℕ) (passed : List (List ℕ)) (text : List ℕ) (start : SegmentStart) (bound : ℕ) (next : List (List ℕ)) →
    (b : IsBegun apid passed text start bound) → passed ++ next ≡ b.before ++ b.packet ∷ next
split_at apid passed text start bound next b = ap (λ xs. xs ++ next) b.passed_are ∙ append_assoc b.before (b.packet ∷ []) next

-- of a segment between the bound and this one none is kept, whatever follows
pub between_none : (apid : ℕ) (passed : List (List ℕ)) (text : List ℕ) (start : SegmentStart) (bound index : ℕ) (next : List (List ℕ)) →
    IsBegun apid passed text start bound → bound ≤ index → index < start.ancillary.index →
    packets_at index (kept apid fresh (passed ++ next)) ≡ []
between_none apid passed text start bound index next b low high =
    let s = after_all apid fresh b.before in
    let first = begins_so apid s b.packet b.starts.first in
    let here = begun_index apid passed text start bound b in
    ap (λ xs. packets_at index (kept apid fresh xs)) (split_at apid passed text start bound next b)
    ∙ ap (packets_at index) (kept-append apid fresh b.before (b.packet ∷ next))
    ∙ at_both index (kept apid fresh b.before) (kept apid s (b.packet ∷ next))
    ∙ ap (λ xs. xs ++ packets_at index (kept apid s (b.packet ∷ next))) (before_none index apid fresh b.before (λ l is. let below =
    b.below l is in omega (arith, below, low)))
    ∙ ap (packets_at index) (first.kept_are next)
    ∙ at_other index b.packet (kept apid (after apid s b.packet) next) (λ e. omega (arith, e, here, high))
    ∙ shut index apid (after apid s b.packet) next record { last = part_in b.packet; last_is = first.last; past = inl (omega (arith, here, high)) }

-- so all segments before this one are known
pub knows_to : (texts : TextWish) (apid : ℕ) (passed later : List (List ℕ)) (text : List ℕ) (start : SegmentStart) (bound : ℕ) (sofar : Numbers) →
    IsBegun apid passed text start bound → ((index : ℕ) → bound ≤ index → sofar index ≡ None) →
    Knows texts apid passed later bound sofar → Knows texts apid passed later start.ancillary.index sofar
knows_to texts apid passed later text start bound sofar b above knows = record {
  at = λ next more are index lt. elim (cases_lt index bound) [
    | inl low ↦ knows.at next more are index low
    | inr high ↦ none_at next index (above index high) (between_none apid passed text start bound index next b high lt)
  ];
}
  where
    none_at : (next : List (List ℕ)) (index : ℕ) → sofar index ≡ None → packets_at index (kept apid fresh (passed ++ next)) ≡ [] → MatchOption (sofar index)
        ((numbers : List (List ℤ)) → IsReceived (holds_after texts) (kept apid fresh (passed ++ next)) index numbers → ⊥)
        (IsReceived (holds_after texts) (kept apid fresh (passed ++ next)) index)
    none_at next index none empty = rw none (λ w x. none_received texts (kept apid fresh (passed ++ next)) index w empty x)

-- ---- a segment that was gone through

module _ (texts : TextWish) (apid : ℕ) (passed : List (List ℕ)) (a : Assembling) (start : SegmentStart) (bound : ℕ) (b : IsBegun apid passed a.text start bound)
    (apid_is : a.apid ≡ apid) (state : a.state ≡ after_all apid fresh passed) (unheld : a.held ≡ None) where
  abbrev index : ℕ
  index = start.ancillary.index

  abbrev pub there : FateState
  there = after apid (after_all apid fresh b.before) b.packet

  pub there_is : a.state ≡ there
  there_is = state ∙ ap (after_all apid fresh) b.passed_are ∙ after_all-append apid fresh b.before (b.packet ∷ [])

  last_is : there.last ≡ Some (part_in b.packet)
  last_is = (begun_by apid b.before b.packet start b.starts).last

  index_is : index_in b.packet ≡ index
  index_is = begun_index apid passed a.text start bound b

  -- what the packets report of its text if these packets follow
  reports : (next : List (List ℕ)) → ReportsParts apid b.before b.packet next InPieces (packets_at index (kept apid fresh (passed ++ next)))
  reports next =
      subst (λ n. ReportsParts apid b.before b.packet next InPieces (packets_at n (kept apid fresh (passed ++ next)))) index_is
      (subst (λ xs. ReportsParts apid b.before b.packet next InPieces (packets_at (index_in b.packet) (kept apid fresh xs)))
      (sym (split_at apid passed a.text start bound next b))
      (reports_parts apid b.before b.packet next InPieces in_pieces b.starts.first))

  -- the octets after the head
  octets_after : (next : List (List ℕ)) → drop (head_length start.head) (text_of_parts (packets_at index (kept apid fresh (passed ++ next)))) ≡ a.text
      ++ (tail_past apid b.before b.packet next InPieces).octets
  octets_after next =
      ap (drop (head_length start.head)) (reports next).text
      ∙ drop_prefix (head_length start.head) (text_in b.packet) (tail_past apid b.before b.packet next InPieces).octets
      (head_within (text_in b.packet) start.head b.starts.head_is)
      ∙ ap (λ xs. xs ++ (tail_past apid b.before b.packet next InPieces).octets) (sym b.text_is)
    where
      drop_prefix : (n : ℕ) (xs ys : List ℕ) → n ≤ length xs → drop n (xs ++ ys) ≡ drop n xs ++ ys
      drop_prefix n xs ys le = drop-append-le n xs ys le

  head_there : (next : List (List ℕ)) → head_read (text_in (slice_index_or (packets_at index (kept apid fresh (passed ++ next))) 0 [])) ≡ Ok start.head
  head_there next = ap (λ x. head_read (text_in x)) (reports next).first ∙ b.starts.head_is

  -- what they report in all, if these octets are left
  whole_tail : (rest : List ℕ) → text_tail a rest ≡ before_it a.text (tail_from apid there (future a rest) (stop_of a.intake rest))
  whole_tail rest = grind (arith, nat_tests, unheld_tail, there_is)

  -- if the first of the next packets complete it, they carry all of it
  all_there : (rest : List ℕ) (next more : List (List ℕ)) → future a rest ≡ next ++ more → (tail_past apid b.before b.packet next InPieces).ends ≡ Plainly →
      text_tail a rest ≡ before_it a.text (tail_past apid b.before b.packet next InPieces)
  all_there rest next more are plain = grind (arith, nat_tests, whole_tail, from_more, in_pieces)

  -- it was accepted, and the packets that were passed have closed it: so it is received, whatever follows
  pub is_received : (rest : List ℕ) (went next : List (List ℕ)) (later : List (List ℕ)) (w : List (List ℤ)) → future a rest ≡ went ++ later →
      last_index (after_all apid there went).last ≡ Some index → is_closed (after_all apid there went).last ≡ true →
      text_read texts start.head (text_tail a rest).octets ≡ Ok w → IsReceived (holds_after texts) (kept apid fresh (passed ++ (went ++ next))) index w
  is_received rest went next later w are last closed holds =
      let plain = from_closed apid index there went (part_in b.packet) last_is index_is last closed in
      let on : tail_past apid b.before b.packet (went ++ next) InPieces ≡ tail_past apid b.before b.packet went InPieces =
      from_more apid there went next InPieces InPieces in_pieces plain in
      let all = all_there rest went later are plain in
      let octets : drop (head_length start.head) (text_of_parts (packets_at index (kept apid fresh (passed ++ (went ++ next)))))
      ≡ (text_tail a rest).octets = grind (arith, nat_tests, octets_after) in
      record {
        whole = (reports (went ++ next)).complete (ap (λ (t : Tail). t.ends) on ∙ plain);
        head = start.head;
        head_is = head_there (went ++ next);
        accepted = ap (text_read texts start.head) octets ∙ holds;
      }

  -- it was refused, or it breaks off: so it isn't received, however many of the next packets follow
  pub not_received : (rest : List ℕ) (next more : List (List ℕ)) (w : List (List ℤ)) → future a rest ≡ next ++ more →
      ((text_tail a rest).ends ≡ Plainly → IsErr (text_read texts start.head (text_tail a rest).octets)) →
      IsReceived (holds_after texts) (kept apid fresh (passed ++ next)) index w → ⊥
  not_received rest next more w are refused x =
      let plain = (reports next).plain x.whole in
      let all = all_there rest next more are plain in
      let same : x.head ≡ start.head = one_value _ x.head start.head x.head_is (head_there next) in
      let octets : drop (head_length start.head) (text_of_parts (packets_at index (kept apid fresh (passed ++ next)))) ≡ (text_tail a rest).octets =
      grind (arith, nat_tests, octets_after) in
      let holds = subst (λ head. holds_after texts head (text_of_parts (packets_at index (kept apid fresh (passed ++ next)))) w) same x.accepted in
      no_value _ w (refused (ap (λ (t : Tail). t.ends) all ∙ plain)) (ap (text_read texts start.head) (sym octets) ∙ holds)

  -- while its text is open it isn't received
  pub open_received : (next : List (List ℕ)) (w : List (List ℤ)) → last_index (after_all apid there next).last ≡ Some index →
      is_closed (after_all apid there next).last ≡ false → IsReceived (holds_after texts) (kept apid fresh (passed ++ next)) index w → ⊥
  open_received next w last going x = grind (arith, nat_tests, reports, from_closes, last_is, index_is)
