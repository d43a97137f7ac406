-- A text read from an input that is after the head, with the end that was found.
use Rattle.std.proofs.Common.{◌≡◌, ℕ, ◌*◌, ◌≤◌, List, true, sym, ap, subst, ℤ, Result, Ok, Err}
use Rattle.plane_defs.specs.Codes.{is_book_sound}
use Rattle.bit_pipe.specs.Bounds.{bound_of}
use Rattle.bit_pipe.specs.Sources.{SourceOf}
use Rattle.bit_pipe.specs.declared.fault.Part.{Part}
use Rattle.bit_pipe.specs.declared.fault.Part.TheVariants.{Whole, Ended}
use Rattle.bit_pipe.specs.declared.fault.TextFault.{TextFault}
use Rattle.segment_defs.specs.declared.head.SegmentHead.{SegmentHead}
use Rattle.segment_defs.specs.TextWish.{TextWish}
use Rattle.segment_defs.specs.Head.{IsHead}
use Rattle.segment_code.specs.declared.fault.SegmentFault.{SegmentFault}
use Rattle.segment_code.specs.Faults.{of_text}
use Rattle.segment_code.specs.Starts.{TakesText}
use Rattle.segment_code.specs.TakenText.{with_used, TakesFrom}
use Rattle.segment_code.specs.TextEnds.{EndsWhole, EndsCut}
use Rattle.segment_code.specs.DecodedItems.{DecodesItems}
use Rattle.segment_code.proofs.TakenOctets as taken
use Rattle.segment_code.proofs.ItemsDecoded as decoded

abbrev of_pair : Part → ℕ → Result (Part × ℕ) TextFault
of_pair part used = Ok (record { 0 = part; 1 = used })

abbrev answered : Part × ℕ → Result (Part × ℕ) TextFault
answered p = Ok p

pair_of : (p q : Part × ℕ) → answered p ≡ answered q → p ≡ q
pair_of p q e = cc

-- what was answered of the text
ok_is : (part : Part) (used : ℕ) (a : Result Part TextFault) (m : ℕ) → of_pair part used ≡ with_used a m → (a ≡ Ok part) × (m ≡ used)
ok_is part used (Ok p) m e =
    let same = pair_of (record { 0 = part; 1 = used }) (record { 0 = p; 1 = m }) e in
    (ap Ok (sym (ap (λ q. q.0) same)), sym (ap (λ q. q.1) same))
ok_is part used (Err f) m e = absurd cc

err_is : (fault : TextFault) (a : Result Part TextFault) (m : ℕ) → Err fault ≡ with_used a m → a ≡ Err fault
err_is fault (Ok p) m e = absurd cc
err_is fault (Err f) m e = let same : fault ≡ f = cc in ap Err (sym same)

module _ {I : Type 0} (k : SourceOf I) (wish : TextWish) (head : SegmentHead) (size : ℕ) (old mid : I) (now : List ℤ) where
  pub used_within : (part : Part) (used : ℕ) → TakesFrom k wish head size (Ok (record { 0 = part; 1 = used })) old mid now → used ≤ 8 * bound_of head.limit
  used_within part used f =
      let a = ok_is part used f.answered f.stop.used f.answer in
      let text = subst (λ r. TakesText k wish head r f.start f.stop now) a.0 f.text in
      subst (λ n. n ≤ 8 * bound_of head.limit) a.1 (taken.used_within k head size old f.start f.stop f.begins text.bits text.taken)

  pub fault_decoded : (fault : TextFault) → TakesFrom k wish head size (Err fault) old mid now → DecodesItems k wish head size (Err (of_text fault)) old mid now
  fault_decoded fault f =
      let text = subst (λ a. TakesText k wish head a f.start f.stop now) (err_is fault f.answered f.stop.used f.answer) f.text in
      subst (λ s. DecodesItems k wish head size (Err (of_text fault)) old s now) f.valid
      (decoded.fault_decoded k wish head size old f.start f.stop f.begins now fault text.0 text.1)

  pub whole_decoded : IsHead head → (used : ℕ) (r : Result Part SegmentFault) (new : I) → TakesFrom k wish head size
      (Ok (record { 0 = Whole; 1 = used })) old mid now →
      EndsWhole k head used r mid new → DecodesItems k wish head size r old new now
  whole_decoded fits used r new f q =
      let a = ok_is Whole used f.answered f.stop.used f.answer in
      decoded.whole_decoded k wish head size old f.start f.stop f.begins fits now
      (subst (λ x. TakesText k wish head x f.start f.stop now) a.0 f.text) r new
      (subst (λ s. EndsWhole k head f.stop.used r s new) (sym f.valid) (subst (λ n. EndsWhole k head n r mid new) (sym a.1) q))

  pub cut_decoded : is_book_sound wish.book ≡ true → IsHead head → size ≤ 20 → (used : ℕ) (r : Result Part SegmentFault) →
      TakesFrom k wish head size (Ok (record { 0 = Ended; 1 = used })) old mid now → EndsCut head used r → DecodesItems k wish head size r old mid now
  cut_decoded sound fits low used r f q =
      let a = ok_is Ended used f.answered f.stop.used f.answer in
      subst (λ s. DecodesItems k wish head size r old s now) f.valid
      (decoded.cut_decoded k wish head size old f.start f.stop f.begins sound fits low now
      (subst (λ x. TakesText k wish head x f.start f.stop now) a.0 f.text) r (subst (λ n. EndsCut head n r) (sym a.1) q))
