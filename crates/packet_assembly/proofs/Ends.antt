-- How far the heads of kept packets reach, and the geometry, from one packet on to another.
use Rattle.std.proofs.Common.{◌≡◌, inl, inr, ◌≤◌, ◌<◌, ◌+◌, ◌*◌, ℕ, List, [], ◌∷◌, refl, sym, ap, subst, ◌∙◌, arith, Bool, true, false, ◌==◌, max}
use Rattle.std.proofs.Common.{if◌then◌else◌, Option, None, Some, fold, not, Result, Ok, Err}
use Rattle.std.proofs.lemmas.Bool.{false≢true}
use Rattle.std.proofs.lemmas.Bool.Decides.{nat_tests}
use Rattle.std.proofs.lemmas.Grind.{fold-append}
use Rattle.std.proofs.lemmas.Option.{same_Some}
use Rattle.base_122.specs.declared.geometry.Geometry.{Geometry}
use Rattle.segment_defs.specs.Reading.{head_read}
use Rattle.packet_defs.specs.Reading.{ancillary_in, text_in}
use Rattle.stream_defs.specs.declared.fate.FateState.{FateState}
use Rattle.stream_defs.specs.declared.fate.LastPart.{LastPart}
use Rattle.segment_defs.specs.declared.head.SegmentHead.{SegmentHead}
use Rattle.segment_defs.specs.declared.fault.HeadFault.{HeadFault}
use Rattle.stream_defs.specs.Agreement.{geometry_for, geometry_past, head_refusal}
use Rattle.stream_defs.specs.Fates.{fresh, fate, is_kept, differs, geometry_with, after, after_all, kept, part_in}
use Rattle.stream_defs.specs.Begun.{end_in, end_of}
use Rattle.stream_defs.specs.Received.{index_in}
use Rattle.stream_defs.proofs.ChosenLaws.{kept-append}
use Rattle.stream_defs.proofs.FateLaws.{after_as_kept, after_as_other}
use Rattle.stream_defs.proofs.KeptOrder.{is_kept_so, kept_tests, Follows, does, reached_on}
use Rattle.packet_assembly.specs.declared.note.SegmentStart.{SegmentStart}
use Rattle.packet_assembly.specs.Assembling.{Starts, BeginsNone, is_first, last_index}
use Rattle.packet_assembly.proofs.KeptPackets.{stays}
use Rattle.packet_assembly.proofs.OwnPackets.{own_so, or_rest}
use Rattle.packet_assembly.proofs.Begun.{Leaves, IsLeft, fresh_left, first_leaves, first_keeps, begins_so}
use Rattle.stream_defs.proofs.Equations.{kept-none, kept-cons, end_of-is}

-- the greatest of a number and the ends of packets
abbrev pub end_from : (ended : ℕ) → List (List ℕ) → ℕ
end_from ended packets = fold (λ most packet. max most (end_in packet)) ended packets

-- ---- packets that begin no segment

-- a packet that begins no segment reaches nothing
pub none_reaches : (apid : ℕ) (s : FateState) (packet : List ℕ) → is_first apid s packet ≡ false →
    ((after apid s packet).geometry ≡ s.geometry) × ((n : ℕ) → end_from n (kept apid s (packet ∷ [])) ≡ n)
none_reaches apid s packet none = grind (arith, nat_tests, kept-none, kept-cons, after_as_other, is_kept_so, after_as_kept)

kept_more : (apid : ℕ) (s : FateState) (x : List ℕ) (xs : List (List ℕ)) (n : ℕ) →
    end_from n (kept apid s (x ∷ xs)) ≡ end_from (end_from n (kept apid s (x ∷ []))) (kept apid (after apid s x) xs)
kept_more apid s x xs n =
    ap (end_from n) (kept-append apid s (x ∷ []) xs) ∙ fold-append (λ most packet. max most (end_in packet)) n (kept apid s (x ∷ []))
    (kept apid (after apid s x) xs)

pub kept_nothing : (apid : ℕ) (s : FateState) → kept apid s [] ≡ []
kept_nothing apid s = simp (kept-none, kept-cons)

-- the state after packets that begin no segment
pub record StaysSo (apid : ℕ) (s : FateState) (packets : List (List ℕ)) : Type 0 where
  pub geometry : (after_all apid s packets).geometry ≡ s.geometry
  pub last : last_index (after_all apid s packets).last ≡ last_index s.last
  pub ended : (n : ℕ) → end_from n (kept apid s packets) ≡ n

pub none_begun : (apid : ℕ) (s : FateState) (packets : List (List ℕ)) → BeginsNone apid s packets → StaysSo apid s packets
none_begun apid s [] none = record { geometry = refl; last = refl; ended = λ n. ap (end_from n) (kept_nothing apid s) }
none_begun apid s (x ∷ xs) none =
    let one = none_reaches apid s x none.0 in
    let rest = none_begun apid (after apid s x) xs none.1 in
    grind (arith, nat_tests, stays, kept_more)

-- a later segment isn't the same one
not_back : (last : Option LastPart) (i j : ℕ) → ((l : LastPart) → last ≡ Some l → l.index < i) → i ≤ j → Some j ≡ last_index last → ⊥
not_back last i j later least before = grind (arith, nat_tests)

-- Packets begin no segment if the last place is in the same one after them, or if there is none.
pub stays_none : (apid : ℕ) (s : FateState) (packets : List (List ℕ)) → last_index (after_all apid s packets).last ≡ last_index s.last →
    BeginsNone apid s packets
stays_none apid s [] same = tt
stays_none apid s (x ∷ xs) same = by (λ e. stays_none apid (after apid s x) xs (same ∙ sym (stays apid s x e))) (is_first apid s x) refl
  where
    by : ((is_first apid s x ≡ false) → BeginsNone apid (after apid s x) xs) → (b : Bool) → is_first apid s x ≡ b →
        (is_first apid s x ≡ false) × BeginsNone apid (after apid s x) xs
    by rest false e = (e, rest e)
    by rest true e =
        let b = begins_so apid s x e in
        let r = reached_on (index_in x) apid (after apid s x) xs record { last = part_in x; last_is = b.last; least = omega arith } in
        grind (arith, nat_tests, not_back)

-- ---- what any packets leave

-- a part that isn't the first of its segment
next_left : (apid : ℕ) (s : FateState) (x : List ℕ) (n : ℕ) → IsLeft s n → Follows apid s x → IsLeft (after apid s x) n
next_left apid s x n left next = elim left.by [
  | inl none ↦ absurd (let no : None ≡ Some next.before = sym none.last ∙ next.before_is in cc)
  | inr begun ↦
      let is = is_kept_so (fate apid s x) next.is_kept in
      let tests = kept_tests apid s x is in
      let a = ancillary_in x in
      let part : (a.part == 0) ≡ false = let e = next.part in grind (arith, nat_tests) in
      let differ = or_rest (not (a.first == a.index * a.segment)) _ (or_rest _ _ (or_rest _ _ tests.own)) in
      let own = own_so begun.g s.reported_last a (ap (λ (o : Option Geometry). differs o s.reported_last a) (sym begun.geometry) ∙ differ) in
      let if_known : (after apid s x).reported_last ≡ s.reported_last = ap (λ (s : FateState). s.reported_last) (after_as_kept apid s x is) ∙ own.if_known in
      let same : next.before ≡ begun.l = same_Some _ _ (sym next.before_is ∙ begun.last) in
      let index : begun.l.index ≡ (part_in x).index = ap (λ (l : LastPart). l.index) (sym same) ∙ sym next.index in
      record {
        by = inr record {
          g = begun.g;
          geometry = ap (λ (s : FateState). s.geometry) (after_as_kept apid s x is) ∙ rw part begun.geometry;
          l = part_in x;
          last = next.last;
          leaves = subst (λ i. Leaves begun.g (after apid s x).reported_last i n) index
              (subst (λ t. Leaves begun.g t begun.l.index n) (sym if_known) begun.leaves);
        };
      }
]

first_left : (apid : ℕ) (s : FateState) (x : List ℕ) (n : ℕ) (start : SegmentStart) → IsLeft s n → Starts apid s x start →
    IsLeft (after apid s x) (start.ancillary.first + start.head.blocks)
first_left apid s x n start left starts =
    let f = first_leaves apid s x n start left starts in
    let ended = start.ancillary.first + start.head.blocks in
    record {
      by = inr record {
        g = f.g;
        geometry = f.geometry;
        l = part_in x;
        last = f.last;
        leaves = subst (λ i. Leaves f.g (after apid s x).reported_last i ended) (sym f.index)
            (subst (λ t. Leaves f.g t start.ancillary.index ended) (sym f.if_known) f.begun.leaves);
      };
    }

-- what a packet that begins a segment reaches
pub first_reaches : (apid : ℕ) (s : FateState) (x : List ℕ) (start : SegmentStart) (n : ℕ) → Starts apid s x start → n ≤ start.ancillary.first →
    end_from n (kept apid s (x ∷ [])) ≡ start.ancillary.first + start.head.blocks
first_reaches apid s x start n starts low = simp (kept-none, kept-cons) (grind (arith, nat_tests))

-- a head was read if a segment begins
pub starts_with : (apid : ℕ) (s : FateState) (x : List ℕ) → is_first apid s x ≡ true → (start : SegmentStart) × Starts apid s x start
starts_with apid s x first = grind (arith, nat_tests, first_keeps, kept_tests, is_kept_so, by)
  where
    by : (r : Result SegmentHead HeadFault) → head_read (text_in x) ≡ r → head_refusal s.geometry (ancillary_in x) r ≡ None →
        (start : SegmentStart) × Starts apid s x start
    by (Ok head) is none = (record { ancillary = ancillary_in x; head = head }, record { first = first; head_is = is; ancillary_is = refl })
    by (Err fault) is none = absurd cc

pub one_left : (apid : ℕ) (s : FateState) (x : List ℕ) (n : ℕ) → IsLeft s n → IsLeft (after apid s x) (end_from n (kept apid s (x ∷ [])))
one_left apid s x n left = by (is_first apid s x) refl
  where
    by : (b : Bool) → is_first apid s x ≡ b → IsLeft (after apid s x) (end_from n (kept apid s (x ∷ [])))
    by true e =
        let some = starts_with apid s x e in
        let f = first_leaves apid s x n some.0 left some.1 in
        subst (IsLeft (after apid s x)) (sym (first_reaches apid s x some.0 n some.1 f.begun.through)) (first_left apid s x n some.0 left some.1)
    by false e = grind (arith, nat_tests, none_reaches, does, false≢true, next_left)

pub more_left : (apid : ℕ) (s : FateState) (packets : List (List ℕ)) (n : ℕ) → IsLeft s n → IsLeft (after_all apid s packets) (end_from n (kept apid s packets))
more_left apid s [] n left = subst (λ zs. IsLeft s (end_from n zs)) (sym (kept_nothing apid s)) left
more_left apid s (x ∷ xs) n left =
    subst (IsLeft (after_all apid (after apid s x) xs)) (sym (kept_more apid s x xs n))
    (more_left apid (after apid s x) xs (end_from n (kept apid s (x ∷ []))) (one_left apid s x n left))

-- the state after any packets, and how far their heads reach
pub all_left : (apid : ℕ) (packets : List (List ℕ)) → IsLeft (after_all apid fresh packets) (end_of (kept apid fresh packets))
all_left apid packets = simp end_of-is (more_left apid fresh packets 0 fresh_left)

-- whether the height is reported last doesn't change after the first kept packet
pub known_one : (apid : ℕ) (s : FateState) (x : List ℕ) (g : Geometry) → s.geometry ≡ Some g → (h : Geometry) × ((after apid s x).geometry ≡ Some h)
    × ((after apid s x).reported_last ≡ s.reported_last)
known_one apid s x g is = by (is_kept (fate apid s x)) refl
  where
    some_after : (o : Option Geometry) → o ≡ Some g → (b : Bool) (r : Result SegmentHead HeadFault) →
        (h : Geometry) × ((if b then geometry_with o (ancillary_in x) r else o) ≡ Some h)
    some_after o is true (Ok head) = (geometry_past (geometry_for o (ancillary_in x) head.image) (ancillary_in x) head, refl)
    some_after o is true (Err fault) = (g, is)
    some_after o is false r = (g, is)

    by : (b : Bool) → is_kept (fate apid s x) ≡ b → (h : Geometry) × ((after apid s x).geometry ≡ Some h) × ((after apid s x).reported_last ≡ s.reported_last)
    by false e = let same = after_as_other apid s x e in (g, ap (λ (s : FateState). s.geometry) same ∙ is, ap (λ (s : FateState). s.reported_last) same)
    by true e =
        let kept = is_kept_so (fate apid s x) e in
        let tests = kept_tests apid s x kept in
        let differ = or_rest (not ((ancillary_in x).first == (ancillary_in x).index * (ancillary_in x).segment)) _ (or_rest _ _ (or_rest _ _ tests.own)) in
        let own = own_so g s.reported_last (ancillary_in x) (ap (λ (o : Option Geometry). differs o s.reported_last (ancillary_in x)) (sym is) ∙ differ) in
        let some = some_after s.geometry is ((ancillary_in x).part == 0) (head_read (text_in x)) in
        grind (arith, nat_tests, after_as_kept)
