-- What a segment's text reports of its kept packets, by induction over the packets after its first.
use Rattle.std.proofs.Common.{◌≡◌, inl, inr, ◌<◌, ◌+◌, ℕ, List, [], ◌∷◌, ◌++◌, length, map, refl, sym, ap, subst, ◌∙◌, arith, Bool, true, false, ◌==◌}
use Rattle.std.proofs.Common.{if◌then◌else◌, Some, None}
use Rattle.std.specs.List.{range_with_len}
use Rattle.std.proofs.lemmas.Bool.{false≢true}
use Rattle.std.proofs.lemmas.Bool.Decides.{nat_tests}
use Rattle.std.proofs.lemmas.Option.{same_Some}
use Rattle.bit_pipe.specs.Sources.{End, Plainly, InPieces, Tail}
use Rattle.packet_defs.specs.Reading.{flags_in, text_in}
use Rattle.stream_defs.specs.declared.fate.FateState.{FateState}
use Rattle.stream_defs.specs.declared.fate.LastPart.{LastPart}
use Rattle.stream_defs.specs.Fates.{fresh, fate, is_kept, closes, part_in, after, after_all, kept}
use Rattle.stream_defs.specs.Received.{index_in, number_of_part, packets_at, text_of_parts}
use Rattle.stream_defs.proofs.ChosenLaws.{kept-append}
use Rattle.stream_defs.proofs.KeptOrder.{Begins, does, at_none, at_same, at_other, at_both, shut, begun_or_none, before_none, IsElsewhere}
use Rattle.packet_assembly.specs.Assembling.{is_first, is_closed, last_index, BeginsNone}
use Rattle.packet_assembly.specs.Tails.{before_it, nothing, kept_tail, tail_over}
use Rattle.packet_assembly.proofs.TailSteps.{over_none}
use Rattle.packet_assembly.specs.Wholes.{parts_in, tail_past, ReportsParts}
use Rattle.packet_assembly.proofs.Ends.{kept_nothing}

-- ---- packets that end with a closing one

pub record AreClosed (parts : List (List ℕ)) : Type 0 where
  pub prefix : List (List ℕ)
  pub closing : List ℕ
  pub parts_are : parts ≡ prefix ++ closing ∷ []
  pub closed : closes (flags_in closing) ≡ true

not_nil : (x : List ℕ) (prefix : List (List ℕ)) → [] ≡ prefix ++ x ∷ [] → ⊥
not_nil x [] e = cc
not_nil x (y ∷ prefix) e = cc

none_closed : AreClosed [] → ⊥
none_closed c = not_nil c.closing c.prefix c.parts_are

closed_more : (x : List ℕ) {parts : List (List ℕ)} → AreClosed parts → AreClosed (x ∷ parts)
closed_more x c = record { prefix = x ∷ c.prefix; closing = c.closing; parts_are = ap (λ xs. x ∷ xs) c.parts_are; closed = c.closed }

closed_alone : (x : List ℕ) → closes (flags_in x) ≡ true → AreClosed (x ∷ [])
closed_alone x e = record { prefix = []; closing = x; parts_are = refl; closed = e }

closed_less : (x : List ℕ) (parts : List (List ℕ)) → closes (flags_in x) ≡ false → AreClosed (x ∷ parts) → AreClosed parts
closed_less x parts e c = by c.prefix c.parts_are
  where
    by : (prefix : List (List ℕ)) → x ∷ parts ≡ prefix ++ c.closing ∷ [] → AreClosed parts
    by [] is = absurd (let same : x ≡ c.closing = cc in false≢true (sym e ∙ ap (λ p. closes (flags_in p)) same ∙ c.closed))
    by (y ∷ prefix) is = record { prefix = prefix; closing = c.closing; parts_are = cc; closed = c.closed }

-- ---- the packets after a part

-- what these packets of a segment, the first of which has this number, determine of the rest of its text
pub record Brings (first : ℕ) (parts : List (List ℕ)) (tail : Tail) : Type 0 where
  pub numbers : map number_of_part parts ≡ range_with_len first (length parts)
  pub octets : text_of_parts parts ≡ tail.octets
  pub closed : tail.ends ≡ Plainly → AreClosed parts
  pub plain : AreClosed parts → tail.ends ≡ Plainly

brings_nothing : (first : ℕ) (ends : End) → (ends ≡ Plainly → ⊥) → Brings first [] (nothing ends)
unfolding text_of_parts
brings_nothing first ends other = record { numbers = refl; octets = refl; closed = λ e. absurd (other e); plain = λ c. absurd (none_closed c) }

pub in_pieces : InPieces ≡ Plainly → ⊥
in_pieces e = cc

brings_last : (x : List ℕ) (first : ℕ) → number_of_part x ≡ first → closes (flags_in x) ≡ true → Brings first (x ∷ []) (before_it (text_in x) (nothing Plainly))
unfolding text_of_parts
brings_last x first number closed = grind (arith, nat_tests, closed_alone)

brings_more : (x : List ℕ) (first : ℕ) (parts : List (List ℕ)) (later : Tail) → number_of_part x ≡ first → closes (flags_in x) ≡ false →
    Brings (first + 1) parts later → Brings first (x ∷ parts) (before_it (text_in x) later)
unfolding text_of_parts
brings_more x first parts later number unclosed b = grind (arith, nat_tests, map, closed_more, closed_less)

-- the tail at a packet
pub over_lost : (apid : ℕ) (s : FateState) (x : List ℕ) (xs : List (List ℕ)) (stop : End) → is_kept (fate apid s x) ≡ false →
    tail_over apid s (x ∷ xs) stop ≡ tail_over apid (after apid s x) xs stop
unfolding tail_over
over_lost apid s x xs stop e = rw e refl

pub over_kept : (apid : ℕ) (s : FateState) (x : List ℕ) (xs : List (List ℕ)) (stop : End) → is_kept (fate apid s x) ≡ true →
    tail_over apid s (x ∷ xs) stop ≡ kept_tail x (tail_over apid (after apid s x) xs stop)
unfolding tail_over
over_kept apid s x xs stop e = rw e refl

zero_test : (n : ℕ) → n ≡ 0 → (n == 0) ≡ true
zero_test n e = grind (arith, nat_tests)

pub more_test : (n m : ℕ) → n ≡ m + 1 → (n == 0) ≡ false
more_test n m e = grind (arith, nat_tests)

-- the state is at an open text of this segment
pub record IsAt (index part : ℕ) (s : FateState) : Type 0 where
  pub last : LastPart
  pub last_is : s.last ≡ Some last
  pub index_is : last.index ≡ index
  pub part_is : last.part ≡ part
  pub unclosed : last.closed ≡ false

brings : (index apid : ℕ) (stop : End) → (stop ≡ Plainly → ⊥) → (packets : List (List ℕ)) (part : ℕ) (s : FateState) → IsAt index part s →
    Brings (part + 1) (packets_at index (kept apid s packets)) (tail_over apid s packets stop)
brings index apid stop other [] part s at =
    subst (λ parts. Brings (part + 1) parts (tail_over apid s [] stop)) (sym (ap (packets_at index) (kept_nothing apid s) ∙ at_none index))
    (subst (Brings (part + 1) []) (sym (over_none apid s stop)) (brings_nothing (part + 1) stop other))
brings index apid stop other (x ∷ xs) part s at = elim (does apid s x) [
  | inl lost ↦
      subst (λ parts. Brings (part + 1) parts (tail_over apid s (x ∷ xs) stop)) (sym (ap (packets_at index) (lost.kept_are xs)))
      (subst (Brings (part + 1) (packets_at index (kept apid (after apid s x) xs))) (sym (over_lost apid s x xs stop lost.lost))
      (brings index apid stop other xs part (after apid s x) (subst (IsAt index part) (sym lost.same) at)))
  | inr here ↦ elim here [
    | inl first ↦
        let past : index < index_in x = omega (arith, first.later at.last at.last_is, at.index_is) in
        let none : packets_at index (kept apid s (x ∷ xs)) ≡ [] =
        ap (packets_at index) (first.kept_are xs) ∙ at_other index x (kept apid (after apid s x) xs) (λ e. omega (arith, e, past))
        ∙ shut index apid (after apid s x) xs record { last = part_in x; last_is = first.last; past = inl past } in
        let ends : tail_over apid s (x ∷ xs) stop ≡ nothing InPieces =
        over_kept apid s x xs stop first.is_kept ∙ rw (zero_test (number_of_part x) first.part) refl in
        subst (λ parts. Brings (part + 1) parts (tail_over apid s (x ∷ xs) stop)) (sym none)
        (subst (Brings (part + 1) []) (sym ends) (brings_nothing (part + 1) InPieces in_pieces))
    | inr next ↦
        let same : next.before ≡ at.last = same_Some _ _ (sym next.before_is ∙ at.last_is) in
        let index_is : index_in x ≡ index = next.index ∙ ap (λ (l : LastPart). l.index) same ∙ at.index_is in
        let part_is : number_of_part x ≡ part + 1 = next.part ∙ ap (λ (l : LastPart). l.part + 1) same ∙ ap (λ n. n + 1) at.part_is in
        let parts : packets_at index (kept apid s (x ∷ xs)) ≡ x ∷ packets_at index (kept apid (after apid s x) xs) =
        ap (packets_at index) (next.kept_are xs) ∙ at_same index x (kept apid (after apid s x) xs) index_is in
        let tail : tail_over apid s (x ∷ xs) stop ≡ (if closes (flags_in x) then before_it (text_in x) (nothing Plainly) else before_it (text_in x)
        (tail_over apid (after apid s x) xs stop)) =
        over_kept apid s x xs stop next.is_kept ∙ rw (more_test (number_of_part x) part part_is) refl in
        subst (λ parts. Brings (part + 1) parts (tail_over apid s (x ∷ xs) stop)) (sym parts)
        (subst (Brings (part + 1) (x ∷ packets_at index (kept apid (after apid s x) xs))) (sym tail)
        (by_flags index_is part_is next.last (closes (flags_in x)) refl (brings index apid stop other xs (part + 1) (after apid s x))))
  ]
]
  where
    by_flags : index_in x ≡ index → number_of_part x ≡ part + 1 → (after apid s x).last ≡ Some (part_in x) → (c : Bool) → closes (flags_in x) ≡ c →
        (IsAt index (part + 1) (after apid s x) → Brings (part + 1 + 1) (packets_at index (kept apid (after apid s x) xs))
        (tail_over apid (after apid s x) xs stop)) →
        Brings (part + 1) (x ∷ packets_at index (kept apid (after apid s x) xs))
        (if c then before_it (text_in x) (nothing Plainly) else before_it (text_in x) (tail_over apid (after apid s x) xs stop))
    by_flags index_is part_is last true e on =
        let none : packets_at index (kept apid (after apid s x) xs) ≡ [] = grind (arith, nat_tests, shut) in
        subst (λ parts. Brings (part + 1) (x ∷ parts) (before_it (text_in x) (nothing Plainly))) (sym none) (brings_last x (part + 1) part_is e)
    by_flags index_is part_is last false e on =
        brings_more x (part + 1) (packets_at index (kept apid (after apid s x) xs)) (tail_over apid (after apid s x) xs stop) part_is e
        (on record { last = part_in x; last_is = last; index_is = index_is; part_is = part_is; unclosed = e })

-- ---- a whole segment

first_is : (apid : ℕ) (s : FateState) (x : List ℕ) → is_kept (fate apid s x) ≡ true → number_of_part x ≡ 0 → is_first apid s x ≡ true
first_is apid s x keeps part = rw keeps (zero_test (number_of_part x) part)

first_kept : (apid : ℕ) (s : FateState) (x : List ℕ) → is_first apid s x ≡ true → is_kept (fate apid s x) ≡ true
first_kept apid s x e = grind (arith, nat_tests)

first_part : (apid : ℕ) (s : FateState) (x : List ℕ) → is_first apid s x ≡ true → (number_of_part x == 0) ≡ true
first_part apid s x e = rw (first_kept apid s x e) at e

module _ (apid : ℕ) (before : List (List ℕ)) (packet : List ℕ) (later : List (List ℕ)) (stop : End) (other : stop ≡ Plainly → ⊥) where
  abbrev state : FateState
  state = after_all apid fresh before

  abbrev index : ℕ
  index = index_in packet

  abbrev more : List (List ℕ)
  more = packets_at index (kept apid (after apid state packet) later)

  abbrev parts : List (List ℕ)
  parts = parts_in apid (before ++ packet ∷ later) index

  abbrev tail : Tail
  tail = tail_past apid before packet later stop

  module _ (begins_it : Begins apid state packet) where
    parts_are : parts ≡ packet ∷ more
    parts_are = grind (arith, nat_tests, kept-append, at_both, before_none, at_same)

    closed_is : is_closed (after apid state packet).last ≡ closes (flags_in packet)
    closed_is = ap is_closed begins_it.last

    whole : Brings 0 (packet ∷ more) (before_it (text_in packet) tail)
    whole = by (closes (flags_in packet)) refl
      where
        by : (c : Bool) → closes (flags_in packet) ≡ c → Brings 0 (packet ∷ more) (before_it (text_in packet) tail)
        by true e =
            let none : more ≡ [] = shut index apid (after apid state packet) later record {
              last = part_in packet;
              last_is = begins_it.last;
              past =
                  inr (refl, e);
            } in
            let is : tail ≡ nothing Plainly = rw (closed_is ∙ e) refl in
            subst (λ t. Brings 0 (packet ∷ more) (before_it (text_in packet) t)) (sym is)
            (subst (λ xs. Brings 0 (packet ∷ xs) (before_it (text_in packet) (nothing Plainly))) (sym none) (brings_last packet 0 begins_it.part e))
        by false e =
            let is : tail ≡ tail_over apid (after apid state packet) later stop = rw (closed_is ∙ e) refl in
            subst (λ t. Brings 0 (packet ∷ more) (before_it (text_in packet) t)) (sym is)
            (brings_more packet 0 more (tail_over apid (after apid state packet) later stop) begins_it.part e
            (brings index apid stop other later 0 (after apid state packet)
            record { last = part_in packet; last_is = begins_it.last; index_is = refl; part_is = begins_it.part; unclosed = e }))

    reports : ReportsParts apid before packet later stop (packet ∷ more)
    reports = grind (arith, nat_tests, whole, parts_are)

pub reports_parts : (apid : ℕ) (before : List (List ℕ)) (packet : List ℕ) (later : List (List ℕ)) (stop : End) → (stop ≡ Plainly → ⊥) →
    is_first apid (after_all apid fresh before) packet ≡ true →
    ReportsParts apid before packet later stop (parts_in apid (before ++ packet ∷ later) (index_in packet))
reports_parts apid before packet later stop other first = elim (does apid (after_all apid fresh before) packet) [
  | inl lost ↦ absurd (false≢true (sym lost.lost ∙ first_kept apid (after_all apid fresh before) packet first))
  | inr here ↦ elim here [
    | inl b ↦ subst (ReportsParts apid before packet later stop) (sym (parts_are apid before packet later stop other b))
        (reports apid before packet later stop other b)
    | inr next ↦ absurd (false≢true (sym (more_test (number_of_part packet) next.before.part next.part) ∙ first_part apid (after_all apid fresh before)
        packet first))
  ]
]

pub none_unbegun : (apid index : ℕ) (packets : List (List ℕ)) →
    ((before : List (List ℕ)) (packet : List ℕ) (later : List (List ℕ)) → packets ≡ before ++ packet ∷ later →
    is_first apid (after_all apid fresh before) packet ≡ true → index_in packet ≡ index → ⊥) →
    parts_in apid packets index ≡ []
none_unbegun apid index packets none = elim (begun_or_none index apid fresh packets nowhere) [
  | inl b ↦ absurd (none b.before b.packet b.later b.are (first_is apid (after_all apid fresh b.before) b.packet b.is_kept b.part) b.index_is)
  | inr empty ↦ empty
]
  where
    nowhere : IsElsewhere index fresh
    nowhere l is same = absurd (let no : None ≡ Some l = is in cc)

begins_none_at : (apid : ℕ) (s : FateState) (before : List (List ℕ)) (packet : List ℕ) (later : List (List ℕ)) → BeginsNone apid s (before ++ packet ∷ later) →
    is_first apid (after_all apid s before) packet ≡ false
begins_none_at apid s [] packet later none = none.0
begins_none_at apid s (x ∷ before) packet later none = begins_none_at apid (after apid s x) before packet later none.1

pub none_passed : (apid index : ℕ) (s : FateState) (packets : List (List ℕ)) → BeginsNone apid s packets → (last_index s.last ≡ Some index → ⊥) →
    packets_at index (kept apid s packets) ≡ []
none_passed apid index s packets none other = elim (begun_or_none index apid s packets (λ l is same. other (ap last_index is ∙ ap Some same))) [
  | inl b ↦ grind (arith, nat_tests, false≢true, begins_none_at, first_is)
  | inr empty ↦ empty
]
