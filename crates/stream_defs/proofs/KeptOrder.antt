-- The packets that are kept are in order: of each segment they are its parts from 0 on, one after the other.
use Rattle.std.proofs.Common.{◌≡◌, ◌⊎◌, inl, inr, ◌≤◌, ◌<◌, ◌+◌, ℕ, List, [], ◌∷◌, ◌++◌, refl, sym, ap, subst, ◌∙◌, arith, Bool, true, false, ◌==◌, ◌&&◌}
use Rattle.std.proofs.Common.{◌||◌, not, nat_le, nat_lt, if◌then◌else◌, Option, Some, None, unwrap_or, option_map}
use Rattle.std.proofs.lemmas.Bool.{false≢true, eq-eqb, ne_eqb}
use Rattle.std.proofs.lemmas.Bool.Decides.{nat_tests}
use Rattle.stream_defs.proofs.ChosenLaws.{kept_none}
use Rattle.packet_defs.specs.declared.ancillary.Ancillary.{Ancillary}
use Rattle.packet_defs.specs.declared.packet.Skip.{Skip}
use Rattle.packet_defs.specs.Reading.{skip_of, flags_in, ancillary_in}
use Rattle.packet_defs.specs.Tests.{when, first_of}
use Rattle.segment_defs.specs.declared.fault.HeadFault.{HeadFault}
use Rattle.stream_defs.specs.declared.fate.Fate.{Fate}
use Rattle.stream_defs.specs.declared.fate.Fate.TheVariants.{Kept, Skipped, Foreign, Late, OutOfPlace, BadHead}
use Rattle.stream_defs.specs.declared.fate.LastPart.{LastPart}
use Rattle.stream_defs.specs.declared.fate.FateState.{FateState}
use Rattle.stream_defs.specs.Fates.{is_foreign, is_late, begins, follows, is_out_of_place, refusal_in, fate, is_kept, kept, part_in, after, after_all}
use Rattle.stream_defs.specs.Received.{index_in, number_of_part, packets_at}
use Rattle.stream_defs.proofs.FateLaws.{after_as_kept, after_as_other}

-- ---- the tests that a kept packet passes

pub is_kept_so : (f : Fate) → is_kept f ≡ true → f ≡ Kept
is_kept_so f e = grind (arith, nat_tests, false≢true)

pub record PassesTests (apid : ℕ) (s : FateState) (packet : List ℕ) : Type 0 where
  pub mine : skip_of apid packet ≡ None
  pub own : is_foreign s (ancillary_in packet) ≡ false
  pub early : is_late s.last (ancillary_in packet) ≡ false
  pub placed : is_out_of_place s.last (flags_in packet) (ancillary_in packet) ≡ false
  pub head : refusal_in s.geometry packet ≡ None

tests : (o : Option Skip) (b c d : Bool) (p : Option HeadFault) →
    unwrap_or (first_of (option_map Skipped o ∷ when b Foreign ∷ when c Late ∷ when d OutOfPlace ∷ option_map BadHead p ∷ [])) Kept ≡ Kept →
    (o ≡ None) × (b ≡ false) × (c ≡ false) × (d ≡ false) × (p ≡ None)
tests o b c d p e = grind (arith, nat_tests)

pub kept_tests : (apid : ℕ) (s : FateState) (packet : List ℕ) → fate apid s packet ≡ Kept → PassesTests apid s packet
unfolding fate
kept_tests apid s packet e = grind (arith, nat_tests, tests)

-- ---- what a packet does

-- it isn't kept
pub record Lost (apid : ℕ) (s : FateState) (x : List ℕ) : Type 0 where
  pub lost : is_kept (fate apid s x) ≡ false
  pub same : after apid s x ≡ s
  pub kept_are : (xs : List (List ℕ)) → kept apid s (x ∷ xs) ≡ kept apid (after apid s x) xs

-- it begins a later segment
pub record Begins (apid : ℕ) (s : FateState) (x : List ℕ) : Type 0 where
  pub is_kept : is_kept (fate apid s x) ≡ true
  pub part : number_of_part x ≡ 0
  pub later : (l : LastPart) → s.last ≡ Some l → l.index < index_in x
  pub last : (after apid s x).last ≡ Some (part_in x)
  pub kept_are : (xs : List (List ℕ)) → kept apid s (x ∷ xs) ≡ x ∷ kept apid (after apid s x) xs

-- it is the next part of the last segment, whose text isn't closed
pub record Follows (apid : ℕ) (s : FateState) (x : List ℕ) : Type 0 where
  pub is_kept : is_kept (fate apid s x) ≡ true
  pub before : LastPart
  pub before_is : s.last ≡ Some before
  pub unclosed : before.closed ≡ false
  pub index : index_in x ≡ before.index
  pub part : number_of_part x ≡ before.part + 1
  pub last : (after apid s x).last ≡ Some (part_in x)
  pub kept_are : (xs : List (List ℕ)) → kept apid s (x ∷ xs) ≡ x ∷ kept apid (after apid s x) xs

abbrev pub Does : (apid : ℕ) → FateState → List ℕ → Type 0
Does apid s x = Lost apid s x ⊎ (Begins apid s x ⊎ Follows apid s x)

later_index : (i j part last : ℕ) → (nat_lt i j || ((i == j) && nat_le part last)) ≡ false → part ≡ 0 → j < i
later_index i j part last e first = grind (arith, nat_tests)

begins_later : (last : Option LastPart) (a : Ancillary) → is_late last a ≡ false → a.part ≡ 0 → (l : LastPart) → last ≡ Some l → l.index < a.index
begins_later last a early first l e = grind (arith, nat_tests, later_index)

next_part : (i j part next : ℕ) (closed : Bool) → ((i == j) && ((part == next) && not closed)) ≡ true → (i ≡ j) × (part ≡ next) × (closed ≡ false)
next_part i j part next closed e = grind (arith, nat_tests, false≢true)

follows_last : (last : Option LastPart) (a : Ancillary) → follows last a ≡ true →
    (l : LastPart) × (last ≡ Some l) × (a.index ≡ l.index) × (a.part ≡ l.part + 1) × (l.closed ≡ false)
follows_last last a e = grind (arith, nat_tests, false≢true, next_part)

pub or_second : (a b : Bool) → (a || not b) ≡ false → b ≡ true
or_second a b e = grind (arith, nat_tests, false≢true)

pub is_zero : (n : ℕ) → (n == 0) ≡ true → n ≡ 0
is_zero n e = grind (arith, nat_tests)

pub does : (apid : ℕ) (s : FateState) (x : List ℕ) → Does apid s x
unfolding kept
does apid s x = by_kept (is_kept (fate apid s x)) refl
  where
    by_part : (b : Bool) → (number_of_part x == 0) ≡ b → is_kept (fate apid s x) ≡ true → fate apid s x ≡ Kept → PassesTests apid s x → Does apid s x
    by_part true part keeps is t = inr (inl record {
      is_kept = keeps;
      part = is_zero (number_of_part x) part;
      later = begins_later s.last (ancillary_in x) t.early (is_zero (number_of_part x) part);
      last = ap (λ (s : FateState). s.last) (after_as_kept apid s x is);
      kept_are = λ xs. rw keeps refl;
    })
    by_part false part keeps is t =
        let f = follows_last s.last (ancillary_in x) (or_second (begins (flags_in x)) (follows s.last (ancillary_in x)) (rw part at t.placed)) in
        inr (inr record {
          is_kept = keeps;
          before = f.0;
          before_is = f.1;
          index = f.2;
          part = f.3;
          unclosed = f.4;
          last = ap (λ (s : FateState). s.last) (after_as_kept apid s x is);
          kept_are = λ xs. rw keeps refl;
        })

    by_kept : (b : Bool) → is_kept (fate apid s x) ≡ b → Does apid s x
    by_kept false e = inl record { lost = e; same = after_as_other apid s x e; kept_are = λ xs. rw e refl }
    by_kept true e = let is = is_kept_so (fate apid s x) e in by_part (number_of_part x == 0) refl e is (kept_tests apid s x is)

-- ---- the packets of one segment

pub at_none : (index : ℕ) → packets_at index [] ≡ []
unfolding packets_at
at_none index = refl

pub at_same : (index : ℕ) (x : List ℕ) (xs : List (List ℕ)) → index_in x ≡ index → packets_at index (x ∷ xs) ≡ x ∷ packets_at index xs
unfolding packets_at
at_same index x xs e = rw (eq-eqb (index_in x) index e) refl

pub at_other : (index : ℕ) (x : List ℕ) (xs : List (List ℕ)) → (index_in x ≡ index → ⊥) → packets_at index (x ∷ xs) ≡ packets_at index xs
unfolding packets_at
at_other index x xs e = rw (ne_eqb (index_in x) index e) refl

pub at_both : (index : ℕ) (xs ys : List (List ℕ)) → packets_at index (xs ++ ys) ≡ packets_at index xs ++ packets_at index ys
unfolding packets_at
at_both index [] ys = refl
at_both index (x ∷ xs) ys = by (index_in x == index) (at_both index xs ys)
  where
    by : (b : Bool) → packets_at index (xs ++ ys) ≡ packets_at index xs ++ packets_at index ys →
        (if b then x ∷ packets_at index (xs ++ ys) else packets_at index (xs ++ ys)) ≡ (if b then x ∷ packets_at index xs else packets_at index xs)
        ++ packets_at index ys
    by true e = ap (λ zs. x ∷ zs) e
    by false e = e

some_same : {a b : LastPart} → Some a ≡ Some b → a ≡ b
some_same e = cc

same_or_not : (m n : ℕ) → (m ≡ n) ⊎ (m ≡ n → ⊥)
same_or_not m n = grind (arith, nat_tests)

-- a later segment was begun, or its text is closed
pub record IsShut (index : ℕ) (s : FateState) : Type 0 where
  pub last : LastPart
  pub last_is : s.last ≡ Some last
  pub past : (index < last.index) ⊎ ((index ≡ last.index) × (last.closed ≡ true))

-- then no more of its packets are kept
pub shut : (index apid : ℕ) (s : FateState) (packets : List (List ℕ)) → IsShut index s → packets_at index (kept apid s packets) ≡ []
shut index apid s [] h = ap (packets_at index) (kept_none apid s) ∙ at_none index
shut index apid s (x ∷ xs) h = elim (does apid s x) [
  | inl lost ↦ ap (packets_at index) (lost.kept_are xs) ∙ shut index apid (after apid s x) xs (subst (IsShut index) (sym lost.same) h)
  | inr here ↦ elim here [
    | inl first ↦
        let more : h.last.index < index_in x = first.later h.last h.last_is in
        let past : index < index_in x = elim h.past [ inl p ↦ omega (arith, p, more) | inr p ↦ let e = p.0 in omega (arith, e, more) ] in
        ap (packets_at index) (first.kept_are xs) ∙ at_other index x (kept apid (after apid s x) xs) (λ e. omega (arith, e, past))
        ∙ shut index apid (after apid s x) xs record { last = part_in x; last_is = first.last; past = inl past }
    | inr next ↦
        let same : next.before ≡ h.last = some_same (sym next.before_is ∙ h.last_is) in
        let past : index < index_in x = elim h.past [
          | inl p ↦ omega (arith, p, next.index, ap (λ (l : LastPart). l.index) same)
          | inr p ↦ absurd (false≢true (sym next.unclosed ∙ ap (λ (l : LastPart). l.closed) same ∙ p.1))
        ] in
        ap (packets_at index) (next.kept_are xs) ∙ at_other index x (kept apid (after apid s x) xs) (λ e. omega (arith, e, past))
        ∙ shut index apid (after apid s x) xs record { last = part_in x; last_is = next.last; past = inl past }
  ]
]

-- ---- a segment that isn't begun

-- the last segment is another one, or there is none
abbrev pub IsElsewhere : (index : ℕ) → FateState → Type 0
IsElsewhere index s = (l : LastPart) → s.last ≡ Some l → l.index ≡ index → ⊥

-- the same after the part of another one
after_other : (apid : ℕ) (s : FateState) (x : List ℕ) (index : ℕ) → (after apid s x).last ≡ Some (part_in x) → (index_in x ≡ index → ⊥) →
    IsElsewhere index (after apid s x)
after_other apid s x index last other l is e = other (ap (λ (l : LastPart). l.index) (some_same (sym last ∙ is)) ∙ e)

-- one of these packets begins the segment of this index
pub record IsBegunIn (index apid : ℕ) (s : FateState) (packets : List (List ℕ)) : Type 0 where
  pub before : List (List ℕ)
  pub packet : List ℕ
  pub later : List (List ℕ)
  pub are : packets ≡ before ++ packet ∷ later
  pub is_kept : is_kept (fate apid (after_all apid s before) packet) ≡ true
  pub part : number_of_part packet ≡ 0
  pub index_is : index_in packet ≡ index

begun_later : {index apid : ℕ} {s : FateState} (x : List ℕ) {xs : List (List ℕ)} → IsBegunIn index apid (after apid s x) xs → IsBegunIn index apid s (x ∷ xs)
begun_later x b = record {
  before = x ∷ b.before;
  packet = b.packet;
  later = b.later;
  are = ap (λ xs. x ∷ xs) b.are;
  is_kept = b.is_kept;
  part = b.part;
  index_is = b.index_is;
}

-- the segment is begun, or none of its packets is kept
pub begun_or_none : (index apid : ℕ) (s : FateState) (packets : List (List ℕ)) → IsElsewhere index s →
    IsBegunIn index apid s packets ⊎ (packets_at index (kept apid s packets) ≡ [])
begun_or_none index apid s [] elsewhere = inr (ap (packets_at index) (kept_none apid s) ∙ at_none index)
begun_or_none index apid s (x ∷ xs) elsewhere = elim (does apid s x) [
  | inl lost ↦ on (ap (packets_at index) (lost.kept_are xs))
      (begun_or_none index apid (after apid s x) xs (subst (IsElsewhere index) (sym lost.same) elsewhere))
  | inr here ↦ elim here [
    | inl first ↦ elim (same_or_not (index_in x) index) [
      | inl same ↦ inl record { before = []; packet = x; later = xs; are = refl; is_kept = first.is_kept; part = first.part; index_is = same }
      | inr other ↦ on (first_of_rest (first.kept_are xs) other) (begun_or_none index apid (after apid s x) xs (after_other apid s x index first.last other))
    ]
    | inr next ↦
        let other : index_in x ≡ index → ⊥ = λ e. elsewhere next.before next.before_is (sym next.index ∙ e) in
        on (first_of_rest (next.kept_are xs) other) (begun_or_none index apid (after apid s x) xs (after_other apid s x index next.last other))
  ]
]
  where
    first_of_rest : kept apid s (x ∷ xs) ≡ x ∷ kept apid (after apid s x) xs → (index_in x ≡ index → ⊥) → packets_at index (kept apid s (x ∷ xs))
        ≡ packets_at index (kept apid (after apid s x) xs)
    first_of_rest e other = ap (packets_at index) e ∙ at_other index x (kept apid (after apid s x) xs) other

    on : packets_at index (kept apid s (x ∷ xs)) ≡ packets_at index (kept apid (after apid s x) xs) →
        IsBegunIn index apid (after apid s x) xs ⊎ (packets_at index (kept apid (after apid s x) xs) ≡ []) →
        IsBegunIn index apid s (x ∷ xs) ⊎ (packets_at index (kept apid s (x ∷ xs)) ≡ [])
    on e (inl b) = inl (begun_later x b)
    on e (inr none) = inr (e ∙ none)

-- ---- a segment that comes later

-- its last place is at least in this segment
pub record HasReached (index : ℕ) (s : FateState) : Type 0 where
  pub last : LastPart
  pub last_is : s.last ≡ Some last
  pub least : index ≤ last.index

-- and this remains true
pub reached_on : (index apid : ℕ) (s : FateState) (packets : List (List ℕ)) → HasReached index s → HasReached index (after_all apid s packets)
reached_on index apid s [] h = h
reached_on index apid s (x ∷ xs) h = reached_on index apid (after apid s x) xs (elim (does apid s x) [
  | inl lost ↦ subst (HasReached index) (sym lost.same) h
  | inr here ↦ elim here [
    | inl first ↦ record { last = part_in x; last_is = first.last; least = omega (arith, h.least, first.later h.last h.last_is) }
    | inr next ↦
        let same : next.before ≡ h.last = some_same (sym next.before_is ∙ h.last_is) in
        record { last = part_in x; last_is = next.last; least = omega (arith, h.least, next.index, ap (λ (l : LastPart). l.index) same) }
  ]
])

-- all before it are of earlier segments
pub before_none : (index apid : ℕ) (s : FateState) (packets : List (List ℕ)) → ((l : LastPart) → (after_all apid s packets).last ≡ Some l → l.index < index) →
    packets_at index (kept apid s packets) ≡ []
before_none index apid s [] below = ap (packets_at index) (kept_none apid s) ∙ at_none index
before_none index apid s (x ∷ xs) below = elim (does apid s x) [
  | inl lost ↦ ap (packets_at index) (lost.kept_are xs) ∙ before_none index apid (after apid s x) xs below
  | inr here ↦ elim here [
    | inl first ↦ past first.last (first.kept_are xs) (before_none index apid (after apid s x) xs below)
    | inr next ↦ past next.last (next.kept_are xs) (before_none index apid (after apid s x) xs below)
  ]
]
  where
    earlier : (after apid s x).last ≡ Some (part_in x) → index_in x ≡ index → ⊥
    earlier last e =
        let r = reached_on index apid (after apid s x) xs record { last = part_in x; last_is = last; least = omega (arith, e) } in
        absurd (omega (arith, below r.last r.last_is, r.least))

    past : (after apid s x).last ≡ Some (part_in x) → kept apid s (x ∷ xs) ≡ x ∷ kept apid (after apid s x) xs →
        packets_at index (kept apid (after apid s x) xs) ≡ [] → packets_at index (kept apid s (x ∷ xs)) ≡ []
    past last e none = ap (packets_at index) e ∙ at_other index x (kept apid (after apid s x) xs) (earlier last) ∙ none
