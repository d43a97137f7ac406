-- Which of some packets of an image are kept.
use Rattle.std.proofs.Common.{◌≡◌, ◌⊎◌, inl, inr, ◌≤◌, ◌<◌, ◌+◌, ℕ, zero, suc, ℤ, List, [], ◌∷◌, ◌++◌, map, refl, sym, ap, subst, ◌∙◌, arith, Bool, true}
use Rattle.std.proofs.Common.{false, ◌==◌, if◌then◌else◌, Some, append-nil}
use Rattle.std.proofs.lemmas.Bool.{ne_eqb, eq-eqb}
use Rattle.std.proofs.lemmas.Bool.Decides.{nat_tests}
use Rattle.std.proofs.lemmas.Grind.{flat_map-append}
use Rattle.std.proofs.Math.Bool.{and-false}
use Rattle.base_122.specs.declared.setting.Setting.{Setting}
use Rattle.stream_defs.specs.declared.fate.Fate.TheVariants.{Kept, OutOfPlace}
use Rattle.stream_defs.specs.declared.fate.LastPart.{LastPart}
use Rattle.stream_defs.specs.declared.fate.FateState.{FateState}
use Rattle.stream_defs.specs.Output.{segments_of}
use Rattle.stream_defs.specs.Fates.{fresh, fate, is_kept, follows, after, after_all, kept}
use Rattle.stream_defs.specs.Places.{parts_of, packet_at, place_at, AreCoded}
use Rattle.stream_defs.specs.Chosen.{IsRising, IsChoice, chosen, run}
use Rattle.stream_defs.specs.StreamLaws.{geometry_by, IsLastBegun}
use Rattle.stream_defs.proofs.Outputs.{range_with_len-more}
use Rattle.stream_defs.proofs.OutPackets.{written_at}
use Rattle.stream_defs.proofs.FateLaws.{state_by, LeftBefore, first_kept, next_kept, gap_not_kept, first_leaves, next_leaves, after_as_other}

-- ---- the fold, packet by packet

kept_more : (apid : ℕ) (st : FateState) (packet : List ℕ) (packets : List (List ℕ)) → fate apid st packet ≡ Kept →
    kept apid st (packet ∷ packets) ≡ packet ∷ kept apid (after apid st packet) packets
unfolding kept
kept_more apid st packet packets e = rw e refl

kept_past : (apid : ℕ) (st : FateState) (packet : List ℕ) (packets : List (List ℕ)) → is_kept (fate apid st packet) ≡ false →
    kept apid st (packet ∷ packets) ≡ kept apid (after apid st packet) packets
unfolding kept
kept_past apid st packet packets e = rw e refl

pub kept_none : (apid : ℕ) (st : FateState) → kept apid st [] ≡ []
unfolding kept
kept_none apid st = refl

kept_one : (apid : ℕ) (st : FateState) (packet : List ℕ) (packets : List (List ℕ)) → is_kept (fate apid st packet) ≡ true →
    kept apid st (packet ∷ packets) ≡ packet ∷ kept apid (after apid st packet) packets
unfolding kept
kept_one apid st packet packets e = rw e refl

append_one : (apid : ℕ) (st : FateState) (x : List ℕ) (xs ys : List (List ℕ)) (b : Bool) → is_kept (fate apid st x) ≡ b →
    kept apid (after apid st x) (xs ++ ys) ≡ kept apid (after apid st x) xs ++ kept apid (after_all apid (after apid st x) xs) ys →
    kept apid st (x ∷ (xs ++ ys)) ≡ kept apid st (x ∷ xs) ++ kept apid (after_all apid (after apid st x) xs) ys
append_one apid st x xs ys b e rest = grind (arith, nat_tests, kept_one, kept_past)

pub kept-append : (apid : ℕ) (st : FateState) (xs ys : List (List ℕ)) → kept apid st (xs ++ ys) ≡ kept apid st xs ++ kept apid (after_all apid st xs) ys
kept-append apid st [] ys = ap (λ zs. zs ++ kept apid st ys) (sym (kept_none apid st))
kept-append apid st (x ∷ xs) ys = append_one apid st x xs ys (is_kept (fate apid st x)) refl (kept-append apid (after apid st x) xs ys)

pub after_all-append : (apid : ℕ) (st : FateState) (xs ys : List (List ℕ)) → after_all apid st (xs ++ ys) ≡ after_all apid (after_all apid st xs) ys
after_all-append apid st [] ys = refl
after_all-append apid st (x ∷ xs) ys = after_all-append apid (after apid st x) xs ys

kept_is : (apid : ℕ) (st : FateState) (packet : List ℕ) → fate apid st packet ≡ OutOfPlace → is_kept (fate apid st packet) ≡ false
kept_is apid st packet e = rw e refl

-- a part that doesn't follow
far_part : (last : LastPart) (index part : ℕ) (reported_last : Bool) (s : Setting) → last.part < part →
    follows (Some last) (written_at reported_last s index (part + 1)) ≡ false
far_part last index part reported_last s far = let e : (part + 1 == last.part + 1) ≡ false =
    ne_eqb (part + 1) (last.part + 1) (λ e. omega (arith, e, far)) in rw e (and-false (index == last.index))

far_index : (last : LastPart) (index part : ℕ) (reported_last : Bool) (s : Setting) → last.index < index →
    follows (Some last) (written_at reported_last s index part) ≡ false
far_index last index part reported_last s far = let e : (index == last.index) ≡ false = ne_eqb index last.index (λ e. omega (arith, e, far)) in rw e refl

-- ---- one segment

module _ (reported_last : Bool) (s : Setting) (all : List (List ℤ)) (coded : AreCoded s all) (index : ℕ) (lt : index < segments_of s) where
  -- the state after part k
  abbrev after_part : ℕ → FateState
  after_part k = state_by reported_last s (place_at s all index k)

  -- parts after a gap are dropped, and change nothing
  gap_drops : (st : FateState) (least : ℕ) (ks : List ℕ) → 1 ≤ least → IsRising least (parts_of s all index) ks →
      ((k : ℕ) → least ≤ k + 1 → LeftBefore reported_last s index (k + 1) st × (follows st.last (written_at reported_last s index (k + 1)) ≡ false)) →
      (kept s.apid st (map (packet_at reported_last s all index) ks) ≡ []) × (after_all s.apid st (map (packet_at reported_last s all index) ks) ≡ st)
  gap_drops st least [] some rising gap = (kept_none s.apid st, refl)
  gap_drops st least (zero ∷ ks) some rising gap = absurd (let low = rising.0 in omega (arith, low, some))
  gap_drops st least (suc k ∷ ks) some rising gap =
      let e : k + 1 ≡ suc k = omega arith in
      let few = rising.1 in
      let here = gap k (omega (arith, rising.0)) in
      let fate_is : fate s.apid st (packet_at reported_last s all index (suc k)) ≡ OutOfPlace =
      subst (λ m. fate s.apid st (packet_at reported_last s all index m) ≡ OutOfPlace) e
      (gap_not_kept reported_last s all coded st index k lt (omega (arith, few))
      here.0 here.1) in
      let dropped = kept_is s.apid st (packet_at reported_last s all index (suc k)) fate_is in
      let same : after s.apid st (packet_at reported_last s all index (suc k)) ≡ st =
      after_as_other s.apid st (packet_at reported_last s all index (suc k)) dropped in
      let rest = gap_drops st (suc k + 1) ks (omega arith) rising.2 (λ j later. gap j (omega (arith, later, rising.0))) in (
        kept_past s.apid st (packet_at reported_last s all index (suc k)) (map (packet_at reported_last s all index) ks) dropped
            ∙ ap (λ t. kept s.apid t (map (packet_at reported_last s all index) ks)) same ∙ rest.0,
        ap (λ t. after_all s.apid t (map (packet_at reported_last s all index) ks)) same ∙ rest.1,
      )

  -- after part k, further parts are kept as long as each follows the one before
  GoesOnTo : ℕ → List ℕ → Type 0
  GoesOnTo k ks = (kept s.apid (after_part k) (map (packet_at reported_last s all index) ks) ≡ map (packet_at reported_last s all index) (run (k + 1) ks))
      × ((last : ℕ) × (last < parts_of s all index) × (after_all s.apid (after_part k) (map (packet_at reported_last s all index) ks) ≡ after_part last))

  takes_next : (k : ℕ) (ks : List ℕ) → k + 1 < parts_of s all index → GoesOnTo (k + 1) ks → GoesOnTo k ((k + 1) ∷ ks)
  unfolding GoesOnTo
  takes_next k ks few rest = grind (arith, nat_tests, next_leaves, eq-eqb, kept_more, next_kept)

  stops_there : (k j : ℕ) (ks : List ℕ) → k < parts_of s all index → IsRising (k + 1) (parts_of s all index) (j ∷ ks) → (j == k + 1) ≡ false →
      GoesOnTo k (j ∷ ks)
  unfolding GoesOnTo
  stops_there k j ks few rising e =
      let low = rising.0 in
      let past : k + 2 ≤ j = grind (arith, nat_tests) in
      let dropped = gap_drops (after_part k) j (j ∷ ks) (omega (arith, past)) ((omega arith), rising.1, rising.2)
      (λ m later. (
        inr (place_at s all index k, refl, inr (refl, omega (arith, later, past))),
        far_part (place_at s all index k) index m reported_last s
            (omega (arith, later, past)),
      )) in (
        dropped.0 ∙ ap (λ b. map (packet_at reported_last s all index) (if b then j ∷ run (k + 1 + 1) ks else [])) (sym e),
        (k, few, dropped.1),
      )

  by_next : (k j : ℕ) (ks : List ℕ) → k < parts_of s all index → IsRising (k + 1) (parts_of s all index) (j ∷ ks) → (b : Bool) → (j == k + 1) ≡ b →
      (k + 1 < parts_of s all index → IsRising (k + 1 + 1) (parts_of s all index) ks → GoesOnTo (k + 1) ks) → GoesOnTo k (j ∷ ks)
  by_next k j ks few rising b e rest = grind (arith, nat_tests, takes_next, stops_there)

  goes_on : (k : ℕ) (ks : List ℕ) → k < parts_of s all index → IsRising (k + 1) (parts_of s all index) ks → GoesOnTo k ks
  unfolding GoesOnTo
  goes_on k [] few rising = (kept_none s.apid (after_part k), (k, few, refl))
  goes_on k (j ∷ ks) few rising = by_next k j ks few rising (j == k + 1) refl (λ f r. goes_on (k + 1) ks f r)

  -- what was left before a segment is left before its parts and before the next segment
  before_parts : (st : FateState) (part : ℕ) → LeftBefore reported_last s index 0 st → LeftBefore reported_last s index part st
      × (follows st.last (written_at reported_last s index part) ≡ false)
  before_parts st part h2 = grind (arith, nat_tests, far_index)

  before_next : (st : FateState) → LeftBefore reported_last s index 0 st → LeftBefore reported_last s (index + 1) 0 st
  before_next st h1 = grind (arith, nat_tests)

  -- if a segment begins, a part of it is kept last
  pub segment_touched : (st : FateState) (ks : List ℕ) → LeftBefore reported_last s index 0 st → IsRising 0 (parts_of s all index) (0 ∷ ks) →
      (last : LastPart) × (last.index ≡ index) × (after_all s.apid st (map (packet_at reported_last s all index) (0 ∷ ks)) ≡ state_by reported_last s last)
  unfolding GoesOnTo
  segment_touched st ks left rising =
      let rest = goes_on 0 ks rising.1 rising.2 in (
        place_at s all index rest.1.0,
        refl,
        ap (λ t. after_all s.apid t (map (packet_at reported_last s all index) ks))
            (first_leaves reported_last s all coded st index lt rising.1 left) ∙ rest.1.2,
      )

  -- if it doesn't, nothing changes
  pub segment_passed : (st : FateState) (k : ℕ) (ks : List ℕ) → LeftBefore reported_last s index 0 st → IsRising 0 (parts_of s all index) (suc k ∷ ks) →
      after_all s.apid st (map (packet_at reported_last s all index) (suc k ∷ ks)) ≡ st
  segment_passed st k ks left rising =
      (gap_drops st (suc k) (suc k ∷ ks) (omega arith) ((omega arith), rising.1, rising.2) (λ m later. before_parts st (m + 1) left)).1

  -- the parts of a segment that are kept: those from 0 on, as long as each follows the one before
  pub segment_kept : (st : FateState) (ks : List ℕ) → LeftBefore reported_last s index 0 st → IsRising 0 (parts_of s all index) ks →
      (kept s.apid st (map (packet_at reported_last s all index) ks) ≡ map (packet_at reported_last s all index) (run 0 ks)) × LeftBefore reported_last s
      (index + 1) 0
      (after_all s.apid st (map (packet_at reported_last s all index) ks))
  unfolding GoesOnTo
  segment_kept st [] left rising = (kept_none s.apid st, before_next st left)
  segment_kept st (zero ∷ ks) left rising =
      let packet = packet_at reported_last s all index 0 in
      let some = rising.1 in
      let leaves = first_leaves reported_last s all coded st index lt some left in
      let rest = goes_on 0 ks some rising.2 in (
        kept_more s.apid st packet (map (packet_at reported_last s all index) ks) (first_kept reported_last s all coded st index lt some left)
            ∙ ap (λ t. packet ∷ kept s.apid t (map (packet_at reported_last s all index) ks)) leaves ∙ ap (λ ps. packet ∷ ps) rest.0,
        inr (place_at s all index rest.1.0, ap (λ t. after_all s.apid t (map (packet_at reported_last s all index) ks)) leaves ∙ rest.1.2, inl (omega arith)),
      )
  segment_kept st (suc k ∷ ks) left rising =
      let dropped = gap_drops st (suc k) (suc k ∷ ks) (omega arith) ((omega arith), rising.1, rising.2) (λ m later. before_parts st (m + 1) left) in (
        dropped.0 ∙ ap (λ b. map (packet_at reported_last s all index) (if b then suc k ∷ run (0 + 1) ks else []))
            (sym (ne_eqb (suc k) 0 (λ e. omega (arith, e)))),
        subst (LeftBefore reported_last s (index + 1) 0) (sym dropped.1) (before_next st left),
      )

-- ---- all segments

-- a segment is begun, and none after it of the first n
pub record LastBegun (parts : ℕ → List ℕ) (n : ℕ) (last : LastPart) : Type 0 where
  pub more : List ℕ
  pub begun : parts last.index ≡ 0 ∷ more
  pub few : last.index < n
  pub none_after : (later : ℕ) → last.index < later → later < n → (rest : List ℕ) → parts later ≡ 0 ∷ rest → ⊥

module _ (reported_last : Bool) (s : Setting) (all : List (List ℤ)) (coded : AreCoded s all) (parts : ℕ → List ℕ) (choice : IsChoice s all parts) where
  chosen_none : (p : ℕ → List ℕ) → chosen reported_last s all p 0 ≡ []
  unfolding chosen
  chosen_none p = refl

  pub chosen_more : (p : ℕ → List ℕ) (n : ℕ) → chosen reported_last s all p (n + 1) ≡ chosen reported_last s all p n
      ++ map (packet_at reported_last s all n) (p n)
  unfolding chosen
  chosen_more p n = grind (arith, nat_tests, range_with_len-more, flat_map-append, append-nil)

  -- of the chosen packets exactly those are kept that continue from part 0 in their segment
  pub chosen_kept : (n : ℕ) → n ≤ segments_of s →
      (kept s.apid fresh (chosen reported_last s all parts n) ≡ chosen reported_last s all (λ index. run 0 (parts index)) n) × LeftBefore reported_last s n 0
      (after_all s.apid fresh (chosen reported_last s all parts n))
  chosen_kept zero few = grind (arith, nat_tests, chosen_none, kept_none)
  chosen_kept (suc n) few =
      let e : n + 1 ≡ suc n = omega arith in
      let rest = chosen_kept n (omega (arith, few)) in
      let lt : n < segments_of s = omega (arith, few) in
      let st = after_all s.apid fresh (chosen reported_last s all parts n) in
      let here = segment_kept reported_last s all coded n lt st (parts n) rest.1 (choice.each n lt) in
      let first : kept s.apid fresh (chosen reported_last s all parts (n + 1)) ≡ chosen reported_last s all (λ index. run 0 (parts index)) (n + 1) =
      ap (kept s.apid fresh) (chosen_more parts n) ∙ kept-append s.apid fresh (chosen reported_last s all parts n)
      (map (packet_at reported_last s all n) (parts n))
      ∙ ap (λ zs. zs ++ kept s.apid st (map (packet_at reported_last s all n) (parts n))) rest.0
      ∙ ap (λ zs. chosen reported_last s all (λ index. run 0 (parts index)) n ++ zs) here.0
      ∙ sym (chosen_more (λ index. run 0 (parts index)) n) in
      let state : after_all s.apid fresh (chosen reported_last s all parts (n + 1)) ≡ after_all s.apid st (map (packet_at reported_last s all n) (parts n)) =
      ap (after_all s.apid fresh) (chosen_more parts n) ∙ after_all-append s.apid fresh (chosen reported_last s all parts n)
      (map (packet_at reported_last s all n) (parts n)) in
      subst (λ m. (kept s.apid fresh (chosen reported_last s all parts m) ≡ chosen reported_last s all (λ index. run 0 (parts index)) m) × LeftBefore
      reported_last s m
      0 (after_all s.apid fresh (chosen reported_last s all parts m))) e
      (first, subst (LeftBefore reported_last s (n + 1) 0) (sym state) here.1)

  state_more : (n : ℕ) → after_all s.apid fresh (chosen reported_last s all parts (n + 1))
      ≡ after_all s.apid (after_all s.apid fresh (chosen reported_last s all parts n)) (map (packet_at reported_last s all n) (parts n))
  state_more n = ap (after_all s.apid fresh) (chosen_more parts n) ∙ after_all-append s.apid fresh (chosen reported_last s all parts n)
      (map (packet_at reported_last s all n) (parts n))

  NoneBegun : ℕ → Type 0
  NoneBegun n = (index : ℕ) → index < n → (rest : List ℕ) → parts index ≡ 0 ∷ rest → ⊥

  -- the state after the chosen packets of the first n segments
  LeftBy : ℕ → FateState → Type 0
  LeftBy n st = ((st ≡ fresh) × NoneBegun n) ⊎ ((last : LastPart) × (st ≡ state_by reported_last s last) × LastBegun parts n last)

  -- a segment that isn't begun
  still_left : (n : ℕ) (st : FateState) → ((rest : List ℕ) → parts n ≡ 0 ∷ rest → ⊥) → LeftBy n st → LeftBy (n + 1) st
  unfolding LeftBy NoneBegun
  still_left n st none h3 = grind (arith, nat_tests)

  by_parts : (n : ℕ) → n < segments_of s → (st : FateState) → LeftBefore reported_last s n 0 st → LeftBy n st → (ks : List ℕ) → parts n ≡ ks →
      IsRising 0 (parts_of s all n) (parts n) →
      LeftBy (n + 1) (after_all s.apid st (map (packet_at reported_last s all n) (parts n)))
  unfolding LeftBy NoneBegun
  by_parts n lt st left before [] is rising =
      subst (LeftBy (n + 1)) (sym (ap (λ ks. after_all s.apid st (map (packet_at reported_last s all n) ks)) is))
      (still_left n st (λ rest f. let g : [] ≡ 0 ∷ rest = sym is ∙ f in cc) before)
  by_parts n lt st left before (zero ∷ ks) is rising =
      let here = segment_touched reported_last s all coded n lt st ks left (subst (IsRising 0 (parts_of s all n)) is rising) in
      let at = here.1 in
      inr (
        here.0,
        ap (λ ks. after_all s.apid st (map (packet_at reported_last s all n) ks)) is ∙ here.2,
        record {
          more = ks;
          begun = ap parts at ∙ is;
          few = omega (arith, at);
          none_after = λ later past lt rest f. absurd (omega (arith, past, lt, at));
        },
      )
  by_parts n lt st left before (suc k ∷ ks) is rising =
      subst (LeftBy (n + 1))
      (sym (ap (λ ks. after_all s.apid st (map (packet_at reported_last s all n) ks)) is ∙ segment_passed reported_last s all coded n lt st k ks left
      (subst (IsRising 0 (parts_of s all n)) is rising)))
      (still_left n st (λ rest f. let g : suc k ∷ ks ≡ 0 ∷ rest = sym is ∙ f in cc) before)

  left_by : (n : ℕ) → n ≤ segments_of s → LeftBy n (after_all s.apid fresh (chosen reported_last s all parts n))
  unfolding LeftBy NoneBegun
  left_by zero few = inl (ap (after_all s.apid fresh) (chosen_none parts), λ index lt rest is. absurd (omega (arith, lt)))
  left_by (suc n) few =
      let lt : n < segments_of s = omega (arith, few) in
      let before = left_by n (omega (arith, few)) in
      let st = after_all s.apid fresh (chosen reported_last s all parts n) in
      subst (λ m. LeftBy m (after_all s.apid fresh (chosen reported_last s all parts m))) (omega arith)
      (subst (LeftBy (n + 1)) (sym (state_more n)) (by_parts n lt st (chosen_kept n (omega (arith, lt))).1 before (parts n) refl (choice.each n lt)))

  -- if a segment is begun, the geometry that is left is that of the last one begun
  pub geometry_left : (index : ℕ) (more : List ℕ) → index < segments_of s → parts index ≡ 0 ∷ more →
      (last : ℕ) × (last < segments_of s) × IsLastBegun s parts last
      × ((after_all s.apid fresh (chosen reported_last s all parts (segments_of s))).geometry ≡ Some (geometry_by reported_last s last))
  unfolding LeftBy NoneBegun
  geometry_left index more lt begun = elim (left_by (segments_of s) (omega arith)) [
    | inl none ↦ absurd (none.1 index lt more begun)
    | inr some ↦ grind (arith, nat_tests)
  ]
