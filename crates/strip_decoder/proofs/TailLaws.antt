-- When the packets of a text close it.
use Rattle.std.proofs.Common.{◌≡◌, ◌+◌, ℕ, List, [], ◌∷◌, ◌++◌, refl, sym, ap, ◌∙◌, inl, inr, arith, Bool, true, false, Option, Some}
use Rattle.std.proofs.lemmas.Bool.{false≢true}
use Rattle.std.proofs.lemmas.Bool.Decides.{nat_tests}
use Rattle.std.proofs.lemmas.Option.{same_Some}
use Rattle.bit_pipe.specs.Sources.{End, Plainly, InPieces, Tail}
use Rattle.packet_defs.specs.Reading.{flags_in}
use Rattle.stream_defs.specs.declared.fate.FateState.{FateState}
use Rattle.stream_defs.specs.declared.fate.LastPart.{LastPart}
use Rattle.stream_defs.specs.Fates.{fate, after, after_all, is_kept, closes, part_in}
use Rattle.stream_defs.proofs.KeptOrder.{Begins, Follows, does, HasReached, reached_on}
use Rattle.packet_assembly.specs.Assembling.{last_index, is_closed}
use Rattle.packet_assembly.specs.Tails.{kept_tail, tail_over, tail_from}
use Rattle.packet_assembly.proofs.TailSteps.{over_none}
use Rattle.packet_assembly.proofs.TailParts.{in_pieces, over_lost, over_kept, more_test}

-- what a kept packet brings doesn't depend on later packets, if it closes the text
kept_same : (x : List ℕ) (a b : Tail) → ((kept_tail x a).ends ≡ Plainly) → (a.ends ≡ Plainly → b ≡ a) → kept_tail x b ≡ kept_tail x a
kept_same x a b e same = grind (arith, nat_tests)

-- a text that is closed stays so, whatever follows
pub over_more : (apid : ℕ) (s : FateState) (xs ys : List (List ℕ)) (stop other : End) → (other ≡ Plainly → ⊥) → (tail_over apid s xs other).ends ≡ Plainly →
    tail_over apid s (xs ++ ys) stop ≡ tail_over apid s xs other
over_more apid s [] ys stop other never e = absurd (never (sym (ap (λ (t : Tail). t.ends) (over_none apid s other)) ∙ e))
over_more apid s (x ∷ xs) ys stop other never e = by (is_kept (fate apid s x)) refl (over_more apid (after apid s x) xs ys stop other never)
  where
    by : (b : Bool) → is_kept (fate apid s x) ≡ b → ((tail_over apid (after apid s x) xs other).ends ≡ Plainly →
        tail_over apid (after apid s x) (xs ++ ys) stop ≡ tail_over apid (after apid s x) xs other) →
        tail_over apid s (x ∷ xs ++ ys) stop ≡ tail_over apid s (x ∷ xs) other
    by false lost more = grind (arith, nat_tests, over_lost)
    by true keeps more = grind (arith, nat_tests, over_kept, kept_same)

pub from_more : (apid : ℕ) (s : FateState) (xs ys : List (List ℕ)) (stop other : End) → (other ≡ Plainly → ⊥) → (tail_from apid s xs other).ends ≡ Plainly →
    tail_from apid s (xs ++ ys) stop ≡ tail_from apid s xs other
from_more apid s xs ys stop other never e = grind (arith, nat_tests, over_more)

-- ---- states

some_index : (o : Option LastPart) (l : LastPart) (n : ℕ) → o ≡ Some l → last_index o ≡ Some n → l.index ≡ n
some_index o l n e h = let same : Some l.index ≡ Some n = sym (ap last_index e) ∙ h in cc

-- a later segment was begun, so the last place can't be in this one any more
not_back : (apid n : ℕ) (s : FateState) (xs : List (List ℕ)) → HasReached (n + 1) s → last_index (after_all apid s xs).last ≡ Some n → ⊥
not_back apid n s xs reached last =
    let r = reached_on (n + 1) apid s xs reached in
    grind (arith, nat_tests, some_index)

-- the state after a packet of another segment
reached_by : (apid n : ℕ) (s : FateState) (x : List ℕ) (l : LastPart) → s.last ≡ Some l → l.index ≡ n → Begins apid s x → HasReached (n + 1) (after apid s x)
reached_by apid n s x l is e b = record { last = part_in x; last_is = b.last; least = omega (arith, b.later l is, e) }

-- a closed text stays closed while no other segment is begun
closed_stays : (apid n : ℕ) (s : FateState) (xs : List (List ℕ)) (l : LastPart) → s.last ≡ Some l → l.index ≡ n → l.closed ≡ true →
    last_index (after_all apid s xs).last ≡ Some n → is_closed (after_all apid s xs).last ≡ true
closed_stays apid n s [] l is e closed last = ap is_closed is ∙ closed
closed_stays apid n s (x ∷ xs) l is e closed last = elim (does apid s x) [
  | inl lost ↦ closed_stays apid n (after apid s x) xs l (ap (λ (s : FateState). s.last) lost.same ∙ is) e closed last
  | inr here ↦ elim here [
    | inl b ↦ absurd (not_back apid n (after apid s x) xs (reached_by apid n s x l is e b) last)
    | inr next ↦ absurd (false≢true (sym next.unclosed ∙ ap (λ (l : LastPart). l.closed) (same_Some _ _ (sym next.before_is ∙ is)) ∙ closed))
  ]
]

-- ---- closing

-- if the text ends plainly, the packets have closed it
pub over_closes : (apid n : ℕ) (s : FateState) (xs : List (List ℕ)) (l : LastPart) → s.last ≡ Some l → l.index ≡ n →
    (tail_over apid s xs InPieces).ends ≡ Plainly → last_index (after_all apid s xs).last ≡ Some n →
    is_closed (after_all apid s xs).last ≡ true
over_closes apid n s [] l is e plain last = absurd (in_pieces (sym (ap (λ (t : Tail). t.ends) (over_none apid s InPieces)) ∙ plain))
over_closes apid n s (x ∷ xs) l is e plain last = elim (does apid s x) [
  | inl lost ↦ over_closes apid n (after apid s x) xs l (ap (λ (s : FateState). s.last) lost.same ∙ is) e
      (sym (ap (λ (t : Tail). t.ends) (over_lost apid s x xs InPieces lost.lost)) ∙ plain) last
  | inr here ↦ elim here [
    | inl b ↦ absurd (not_back apid n (after apid s x) xs (reached_by apid n s x l is e b) last)
    | inr next ↦ by_flags next (closes (flags_in x)) refl
        (over_closes apid n (after apid s x) xs (part_in x) next.last
        (next.index ∙ ap (λ (l : LastPart). l.index) (same_Some _ _ (sym next.before_is ∙ is)) ∙ e))
  ]
]
  where
    by_flags : Follows apid s x → (b : Bool) → closes (flags_in x) ≡ b →
        ((tail_over apid (after apid s x) xs InPieces).ends ≡ Plainly → last_index (after_all apid (after apid s x) xs).last ≡ Some n →
        is_closed (after_all apid (after apid s x) xs).last ≡ true) →
        is_closed (after_all apid (after apid s x) xs).last ≡ true
    by_flags next true f more = closed_stays apid n (after apid s x) xs (part_in x) next.last
        (next.index ∙ ap (λ (l : LastPart). l.index) (same_Some _ _ (sym next.before_is ∙ is)) ∙ e) f last
    by_flags next false f more = grind (arith, nat_tests, over_kept, more_test)

-- and if they have closed it, it ends plainly
pub over_closed : (apid n : ℕ) (s : FateState) (xs : List (List ℕ)) (l : LastPart) → s.last ≡ Some l → l.index ≡ n → l.closed ≡ false →
    last_index (after_all apid s xs).last ≡ Some n →
    is_closed (after_all apid s xs).last ≡ true → (tail_over apid s xs InPieces).ends ≡ Plainly
over_closed apid n s [] l is e going last closed = absurd (false≢true (sym going ∙ sym (ap is_closed is) ∙ closed))
over_closed apid n s (x ∷ xs) l is e going last closed = elim (does apid s x) [
  | inl lost ↦ ap (λ (t : Tail). t.ends) (over_lost apid s x xs InPieces lost.lost) ∙ over_closed apid n (after apid s x) xs l
      (ap (λ (s : FateState). s.last) lost.same ∙ is) e going last closed
  | inr here ↦ elim here [
    | inl b ↦ absurd (not_back apid n (after apid s x) xs (reached_by apid n s x l is e b) last)
    | inr next ↦ ap (λ (t : Tail). t.ends) (over_kept apid s x xs InPieces next.is_kept)
        ∙ by_flags next (closes (flags_in x)) refl (over_closed apid n (after apid s x) xs (part_in x) next.last
        (next.index ∙ ap (λ (l : LastPart). l.index) (same_Some _ _ (sym next.before_is ∙ is)) ∙ e))
  ]
]
  where
    by_flags : Follows apid s x → (b : Bool) → closes (flags_in x) ≡ b →
        (closes (flags_in x) ≡ false → last_index (after_all apid (after apid s x) xs).last ≡ Some n →
        is_closed (after_all apid (after apid s x) xs).last ≡ true → (tail_over apid (after apid s x) xs InPieces).ends ≡ Plainly) →
        (kept_tail x (tail_over apid (after apid s x) xs InPieces)).ends ≡ Plainly
    by_flags next b f more = grind (arith, nat_tests, more_test)

pub from_closes : (apid n : ℕ) (s : FateState) (xs : List (List ℕ)) (l : LastPart) → s.last ≡ Some l → l.index ≡ n →
    (tail_from apid s xs InPieces).ends ≡ Plainly → last_index (after_all apid s xs).last ≡ Some n →
    is_closed (after_all apid s xs).last ≡ true
from_closes apid n s xs l is e plain last = grind (arith, nat_tests, closed_stays, over_closes)

pub from_closed : (apid n : ℕ) (s : FateState) (xs : List (List ℕ)) (l : LastPart) → s.last ≡ Some l → l.index ≡ n → last_index (after_all apid s xs).last
    ≡ Some n → is_closed (after_all apid s xs).last ≡ true →
    (tail_from apid s xs InPieces).ends ≡ Plainly
from_closed apid n s xs l is e last closed = grind (arith, nat_tests, over_closed)
