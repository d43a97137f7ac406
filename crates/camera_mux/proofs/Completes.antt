-- The segments that kept packets close are those that are complete in them.
use Rattle.std.proofs.lemmas.Bool.Decides.{nat_tests}
use Rattle.std.proofs.Common.{◌≡◌, ◌⊎◌, inl, inr, ◌<◌, ◌+◌, ℕ, zero, suc, List, [], ◌∷◌, ◌++◌, length, map, refl, sym, ap, subst, ◌∙◌, arith, Bool, true}
use Rattle.std.proofs.Common.{false, filter, Contains, get_or, Some, None}
use Rattle.std.specs.List.{range_with_len}
use Rattle.std.specs.List.Sorted.{IsStrictlyIncreasing}
use Rattle.std.proofs.lemmas.Bool.{cases_lt, cases_eq, cases_Bool}
use Rattle.std.proofs.lemmas.List.{length-map}
use Rattle.std.proofs.lemmas.List.Sums.{length-filter}
use Rattle.std.proofs.lemmas.Option.{same_Some}
use Rattle.packet_defs.specs.Reading.{flags_in}
use Rattle.stream_defs.specs.declared.fate.LastPart.{LastPart}
use Rattle.stream_defs.specs.declared.fate.FateState.{FateState}
use Rattle.stream_defs.specs.Fates.{fresh, closes, kept, part_in, after}
use Rattle.stream_defs.specs.Received.{index_in, number_of_part, packets_at, IsComplete}
use Rattle.stream_defs.proofs.KeptOrder.{does, at_none, at_same, at_other, shut, IsElsewhere}
use Rattle.camera_mux.specs.declared.image.ImageId.{ImageId}
use Rattle.camera_mux.specs.Images.{own_packets, kept_of, entry_of}
use Rattle.camera_mux.specs.ImageLaws.{CountsComplete}
use Rattle.packet_assembly.proofs.Ends.{kept_nothing}

-- a packet closes its segment
abbrev closing : List ℕ → Bool
closing packet = closes (flags_in packet)

-- the indices of the segments that packets close
abbrev pub closed_indices : List (List ℕ) → List ℕ
closed_indices packets = map index_in (filter closing packets)

closed_some : (x : List ℕ) (xs : List (List ℕ)) → closing x ≡ true → closed_indices (x ∷ xs) ≡ index_in x ∷ closed_indices xs
closed_some x xs e = rw e refl

closed_none : (x : List ℕ) (xs : List (List ℕ)) → closing x ≡ false → closed_indices (x ∷ xs) ≡ closed_indices xs
closed_none x xs e = rw e refl

-- ---- elements of a list

abbrev Has : List ℕ → ℕ → Type 0
Has [] n = ⊥
Has (x ∷ xs) n = (x ≡ n) ⊎ Has xs n

has_contained : (xs : List ℕ) (n : ℕ) → Contains xs n → Has xs n
has_contained [] n h = absurd (let lt = h.1 in omega (arith, lt))
has_contained (x ∷ xs) n (zero, lt, e) = inl e
has_contained (x ∷ xs) n (suc k, lt, e) = inr (has_contained xs n (k, omega (arith, lt), e))

contained : (xs : List ℕ) (n : ℕ) → Has xs n → Contains xs n
contained [] n h = absurd h
contained (x ∷ xs) n (inl e) = (0, omega arith, e)
contained (x ∷ xs) n (inr h) = let c = contained xs n h in let lt = c.1 in (suc c.0, omega (arith, lt), c.2)

abbrev Rises : List ℕ → Type 0
Rises [] = Unit {0}
Rises (x ∷ xs) = ((n : ℕ) → Has xs n → x < n) × Rises xs

increasing : (xs : List ℕ) → Rises xs → IsStrictlyIncreasing xs
increasing [] h k lt = absurd (omega (arith, lt))
increasing (x ∷ []) h k lt = absurd (omega (arith, lt))
increasing (x ∷ y ∷ xs) h zero lt = h.0 y (inl refl)
increasing (x ∷ y ∷ xs) h (suc k) lt =
    let e : suc (k + 1) ≡ suc k + 1 = omega arith in
    subst (λ n. get_or (y ∷ xs) k 0 < get_or (x ∷ y ∷ xs) n 0) e (increasing (y ∷ xs) h.1 k (omega (arith, lt)))

-- ---- a segment is closed by one of its packets

abbrev HasClosing : List (List ℕ) → Type 0
HasClosing [] = ⊥
HasClosing (x ∷ xs) = (closing x ≡ true) ⊎ HasClosing xs

closing_from : (index : ℕ) (packets : List (List ℕ)) → Has (closed_indices packets) index → HasClosing (packets_at index packets)
closing_from index [] h = absurd h
closing_from index (x ∷ xs) h = elim (cases_Bool (closing x)) [
  | inl closed ↦ elim (subst (λ is. Has is index) (closed_some x xs closed) h) [
    | inl same ↦ subst HasClosing (sym (at_same index x xs same)) (inl closed)
    | inr later ↦ on (closing_from index xs later)
  ]
  | inr unclosed ↦ on (closing_from index xs (subst (λ is. Has is index) (closed_none x xs unclosed) h))
]
  where
    on : HasClosing (packets_at index xs) → HasClosing (packets_at index (x ∷ xs))
    on c = grind (arith, nat_tests, at_same, at_other)

closed_from : (index : ℕ) (packets : List (List ℕ)) → HasClosing (packets_at index packets) → Has (closed_indices packets) index
closed_from index [] h = absurd (subst HasClosing (at_none index) h)
closed_from index (x ∷ xs) h = elim (cases_eq (index_in x) index) [
  | inl same ↦ elim (subst HasClosing (at_same index x xs same) h) [
    | inl closed ↦ subst (λ is. Has is index) (sym (closed_some x xs closed)) (inl same)
    | inr later ↦ on (closed_from index xs later)
  ]
  | inr other ↦ on (closed_from index xs (subst HasClosing (at_other index x xs other) h))
]
  where
    on : Has (closed_indices xs) index → Has (closed_indices (x ∷ xs)) index
    on c = grind (arith, nat_tests, closed_some, closed_none)

-- ---- the packets of a segment are its parts, and none is after one that closes it

abbrev Parts : (n : ℕ) → List (List ℕ) → Type 0
Parts n [] = Unit {0}
Parts n (x ∷ xs) = (number_of_part x ≡ n) × (closing x ≡ true → xs ≡ []) × Parts (n + 1) xs

numbers_of : (n : ℕ) (xs : List (List ℕ)) → Parts n xs → map number_of_part xs ≡ range_with_len n (length xs)
numbers_of n [] h = refl
numbers_of n (x ∷ xs) h =
    let first : number_of_part x ≡ n = h.0 in
    let rest = numbers_of (n + 1) xs h.2 in
    λ i. first i ∷ rest i

record Ends (xs : List (List ℕ)) : Type 0 where
  prefix : List (List ℕ)
  last : List ℕ
  are : xs ≡ prefix ++ last ∷ []
  closed : closing last ≡ true

ends_of : (n : ℕ) (xs : List (List ℕ)) → Parts n xs → HasClosing xs → Ends xs
ends_of n [] h c = absurd c
ends_of n (x ∷ xs) h (inl closed) = record { prefix = []; last = x; are = ap (λ xs. x ∷ xs) (h.1 closed); closed = closed }
ends_of n (x ∷ xs) h (inr later) =
    let e = ends_of (n + 1) xs h.2 later in
    record { prefix = x ∷ e.prefix; last = e.last; are = ap (λ xs. x ∷ xs) e.are; closed = e.closed }

complete_of : (xs : List (List ℕ)) → Parts 0 xs → HasClosing xs → IsComplete xs
complete_of xs h c = grind (arith, nat_tests, ends_of, numbers_of)

closing_last : (prefix : List (List ℕ)) (last : List ℕ) → closing last ≡ true → HasClosing (prefix ++ last ∷ [])
closing_last [] last e = inl e
closing_last (x ∷ prefix) last e = inr (closing_last prefix last e)

closing_of : (xs : List (List ℕ)) → IsComplete xs → HasClosing xs
closing_of xs c = subst HasClosing (sym c.parts_are) (closing_last c.prefix c.closing c.closed)

-- ---- kept packets

-- the part of a segment that is kept next: the first one, or the one after the last
abbrev Awaits : (index : ℕ) → FateState → (n : ℕ) → Type 0
Awaits index s n = (IsElsewhere index s × (n ≡ 0)) ⊎ ((last : LastPart) × (s.last ≡ Some last) × (last.index ≡ index) × (n ≡ last.part + 1))

none_parts : (n : ℕ) (xs : List (List ℕ)) → xs ≡ [] → Parts n xs
none_parts n xs e = subst (Parts n) (sym e) tt

-- so they are its parts from there on
kept_parts : (index apid : ℕ) (s : FateState) (packets : List (List ℕ)) (n : ℕ) → Awaits index s n → Parts n (packets_at index (kept apid s packets))
kept_parts index apid s [] n h = none_parts n _ (ap (packets_at index) (kept_nothing apid s) ∙ at_none index)
kept_parts index apid s (x ∷ xs) n h = elim (does apid s x) [
  | inl lost ↦ subst (Parts n) (sym (ap (packets_at index) (lost.kept_are xs)))
      (kept_parts index apid (after apid s x) xs n (subst (λ s. Awaits index s n) (sym lost.same) h))
  | inr here ↦ elim here [
    | inl first ↦ subst (Parts n) (sym (ap (packets_at index) (first.kept_are xs))) (elim (cases_eq (index_in x) index) [
      | inl same ↦ elim h [
        | inl none ↦ own same (first.part ∙ sym none.1) first.last
            (kept_parts index apid (after apid s x) xs (n + 1) (goes_on same (first.part ∙ sym none.1) first.last))
        | inr going ↦ absurd (let more = first.later going.0 going.1 in let is = going.2 in omega (arith, more, is, same))
      ]
      | inr other ↦ elim h [
        | inl none ↦ passed other (kept_parts index apid (after apid s x) xs n (inl (elsewhere first.last other, none.1)))
        | inr going ↦ grind (arith, nat_tests, passed, none_parts, shut)
      ]
    ])
    | inr next ↦ subst (Parts n) (sym (ap (packets_at index) (next.kept_are xs))) (elim h [
      | inl none ↦
          let other : index_in x ≡ index → ⊥ = λ e. none.0 next.before next.before_is (sym next.index ∙ e) in
          passed other (kept_parts index apid (after apid s x) xs n (inl (elsewhere next.last other, none.1)))
      | inr going ↦
          let is : next.before ≡ going.0 = same_Some _ _ (sym next.before_is ∙ going.1) in
          let same : index_in x ≡ index = next.index ∙ ap (λ (l : LastPart). l.index) is ∙ going.2 in
          let part : number_of_part x ≡ n = next.part ∙ ap (λ (l : LastPart). l.part + 1) is ∙ sym going.3 in
          own same part next.last (kept_parts index apid (after apid s x) xs (n + 1) (goes_on same part next.last))
    ])
  ]
]
  where
    elsewhere : (after apid s x).last ≡ Some (part_in x) → (index_in x ≡ index → ⊥) → IsElsewhere index (after apid s x)
    elsewhere last other l is e = other (ap (λ (l : LastPart). l.index) (same_Some _ _ (sym last ∙ is)) ∙ e)

    passed : (index_in x ≡ index → ⊥) → Parts n (packets_at index (kept apid (after apid s x) xs)) →
        Parts n (packets_at index (x ∷ kept apid (after apid s x) xs))
    passed other h = subst (Parts n) (sym (at_other index x (kept apid (after apid s x) xs) other)) h

    goes_on : index_in x ≡ index → number_of_part x ≡ n → (after apid s x).last ≡ Some (part_in x) → Awaits index (after apid s x) (n + 1)
    goes_on same part last = inr (part_in x, last, same, ap (λ m. m + 1) (sym part))

    own : index_in x ≡ index → number_of_part x ≡ n → (after apid s x).last ≡ Some (part_in x) →
        Parts (n + 1) (packets_at index (kept apid (after apid s x) xs)) → Parts n (packets_at index (x ∷ kept apid (after apid s x) xs))
    own same part last rest = grind (arith, nat_tests, at_same, shut)

-- and each segment that they close is after those that were closed before
kept_rise : (apid : ℕ) (s : FateState) (packets : List (List ℕ)) → Rises (closed_indices (kept apid s packets))
kept_rise apid s [] = subst (λ ks. Rises (closed_indices ks)) (sym (kept_nothing apid s)) tt
kept_rise apid s (x ∷ xs) = elim (does apid s x) [
  | inl lost ↦ subst (λ ks. Rises (closed_indices ks)) (sym (lost.kept_are xs)) (kept_rise apid (after apid s x) xs)
  | inr here ↦ elim here [
    | inl first ↦ subst (λ ks. Rises (closed_indices ks)) (sym (first.kept_are xs)) (own first.last (kept_rise apid (after apid s x) xs))
    | inr next ↦ subst (λ ks. Rises (closed_indices ks)) (sym (next.kept_are xs)) (own next.last (kept_rise apid (after apid s x) xs))
  ]
]
  where
    above : (after apid s x).last ≡ Some (part_in x) → closing x ≡ true → (n : ℕ) → Has (closed_indices (kept apid (after apid s x) xs)) n → index_in x < n
    above last closed n h = elim (cases_lt (index_in x) n) [
      | inl less ↦ less
      | inr most ↦
          let past : (n < index_in x) ⊎ ((n ≡ index_in x) × (closing x ≡ true)) =
          elim (cases_lt n (index_in x)) [ inl less ↦ inl less | inr least ↦ inr (omega (arith, most, least), closed) ] in
          let none = shut n apid (after apid s x) xs record { last = part_in x; last_is = last; past = past } in
          absurd (subst HasClosing none (closing_from n (kept apid (after apid s x) xs) h))
    ]

    own : (after apid s x).last ≡ Some (part_in x) → Rises (closed_indices (kept apid (after apid s x) xs)) →
        Rises (closed_indices (x ∷ kept apid (after apid s x) xs))
    own last rest = grind (arith, nat_tests, closed_some, above, closed_none)

-- ---- an image's

none_fresh : (index : ℕ) → IsElsewhere index fresh
none_fresh index l is e = let no : None ≡ Some l = is in absurd cc

pub counts_complete : (id : ImageId) (packets : List (List ℕ)) → CountsComplete (kept_of id packets) (entry_of packets id).count.received
counts_complete id packets = record {
  indices = closed_indices ks;
  increasing = increasing (closed_indices ks) (kept_rise id.apid fresh (own_packets id packets));
  are_complete = grind (arith, nat_tests, complete_of, ks, kept_parts, none_fresh, closing_from, has_contained, contained, closed_from, closing_of);
  number_is = sym (length-filter closing ks) ∙ sym (length-map (filter closing ks) index_in);
}
  where
    ks : List (List ℕ)
    ks = kept_of id packets
