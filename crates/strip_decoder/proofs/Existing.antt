-- For each stream it is decided which segments are received.
use Rattle.std.proofs.Common.{◌≡◌, ◌⊎◌, ℕ, ℤ, List, [], ◌∷◌, ◌++◌, length, drop, map, refl, sym, ap, subst, ◌∙◌, inl, inr, arith, length-append, Bool, true}
use Rattle.std.proofs.Common.{false, Option, None, Some, Result, Ok, Err, MatchOption, slice_index_or, is_err, bytes_eq}
use Rattle.std.specs.List.{range_with_len}
use Rattle.std.proofs.lemmas.Bool.{false≢true}
use Rattle.std.proofs.lemmas.Slice.Eq.{bytes_eq-Decides}
use Rattle.segment_defs.specs.TextWish.{TextWish, text_read}
use Rattle.segment_defs.specs.declared.head.SegmentHead.{SegmentHead}
use Rattle.segment_defs.specs.declared.fault.HeadFault.{HeadFault}
use Rattle.segment_defs.specs.Head.{head_length}
use Rattle.segment_defs.specs.Reading.{head_read}
use Rattle.segment_defs.specs.TextOutcome.{Answer}
use Rattle.packet_defs.specs.Reading.{flags_in, text_in}
use Rattle.stream_defs.specs.Fates.{closes, kept_in}
use Rattle.stream_defs.specs.Received.{number_of_part, packets_at, IsComplete, text_of_parts, IsReceived, ReceivedIn}
use Rattle.strip_decoder.specs.Runs.{Numbers, holds_after}
use Rattle.strip_decoder.proofs.Receiving.{one_value, no_value}
use Rattle.packet_assembly.proofs.Agreed.{bytes_so}

-- ---- the last of some packets

abbrev last_in : List ℕ → List (List ℕ) → List ℕ
last_in d [] = d
last_in d (x ∷ xs) = last_in x xs

abbrev prefix_in : List ℕ → List (List ℕ) → List (List ℕ)
prefix_in x [] = []
prefix_in x (y ∷ ys) = x ∷ prefix_in y ys

parted : (x : List ℕ) (xs : List (List ℕ)) → x ∷ xs ≡ prefix_in x xs ++ last_in x xs ∷ []
parted x [] = refl
parted x (y ∷ ys) = ap (λ zs. x ∷ zs) (parted y ys)

last_is : (d : List ℕ) (prefix : List (List ℕ)) (closing : List ℕ) → last_in d (prefix ++ closing ∷ []) ≡ closing
last_is d [] closing = refl
last_is d (x ∷ prefix) closing = last_is x prefix closing

-- ---- whether they are complete

decide_complete : (parts : List (List ℕ)) → IsComplete parts ⊎ (IsComplete parts → ⊥)
decide_complete [] = inr (λ x. let long = ap length x.parts_are in absurd (omega (arith, long, length-append x.prefix (x.closing ∷ []))))
decide_complete (x ∷ xs) = by (bytes_eq (map number_of_part (x ∷ xs)) (range_with_len 0 (length (x ∷ xs)))) (closes (flags_in (last_in x xs))) refl refl
  where
    by : (a b : Bool) → bytes_eq (map number_of_part (x ∷ xs)) (range_with_len 0 (length (x ∷ xs))) ≡ a → closes (flags_in (last_in x xs)) ≡ b →
        IsComplete (x ∷ xs) ⊎ (IsComplete (x ∷ xs) → ⊥)
    by true true e h = inl record { prefix = prefix_in x xs; closing = last_in x xs; parts_are = parted x xs; numbers = bytes_so _ _ e; closed = h }
    by false b e h = inr (λ c. absurd (false≢true (sym e ∙ (bytes_eq-Decides _ _).1 c.numbers)))
    by true false e h = inr (λ c.
        let same : last_in x xs ≡ c.closing = ap (last_in []) c.parts_are ∙ last_is [] c.prefix c.closing in
        absurd (false≢true (sym h ∙ ap (λ p. closes (flags_in p)) same ∙ c.closed)))

-- ---- whether a segment is received

abbrev Decided : (texts : TextWish) (packets : List (List ℕ)) (index : ℕ) → Type 0
Decided texts packets index = ((w : List (List ℤ)) × IsReceived (holds_after texts) packets index w)
    ⊎ ((w : List (List ℤ)) → IsReceived (holds_after texts) packets index w → ⊥)

decide_received : (texts : TextWish) (packets : List (List ℕ)) (index : ℕ) → Decided texts packets index
decide_received texts packets index = elim (decide_complete (packets_at index packets)) [
  | inr never ↦ inr (λ w x. never x.whole)
  | inl whole ↦ by_head whole (head_read (text_in (slice_index_or (packets_at index packets) 0 []))) refl
]
  where
    by_head : IsComplete (packets_at index packets) → (r : Result SegmentHead HeadFault) →
        head_read (text_in (slice_index_or (packets_at index packets) 0 [])) ≡ r → Decided texts packets index
    by_head whole (Err fault) e = inr (λ w x. absurd (let both = sym e ∙ x.head_is in cc))
    by_head whole (Ok head) e = by_text (text_read texts head (drop (head_length head) (text_of_parts (packets_at index packets)))) refl
      where
        by_text : (o : Answer) → text_read texts head (drop (head_length head) (text_of_parts (packets_at index packets))) ≡ o → Decided texts packets index
        by_text (Ok w) held = inl (w, record { whole = whole; head = head; head_is = e; accepted = held })
        by_text (Err name) refused = inr (λ w x.
            let there = subst (λ h. holds_after texts h (text_of_parts (packets_at index packets)) w) (one_value _ x.head head x.head_is e) x.accepted in
            no_value _ w (ap is_err refused) there)

number_of : (texts : TextWish) (packets : List (List ℕ)) (index : ℕ) → Decided texts packets index → Option (List (List ℤ))
number_of texts packets index (inl held) = Some held.0
number_of texts packets index (inr never) = None

number_known : (texts : TextWish) (packets : List (List ℕ)) (index : ℕ) (d : Decided texts packets index) →
    MatchOption (number_of texts packets index d) ((w : List (List ℤ)) → IsReceived (holds_after texts) packets index w → ⊥)
    (IsReceived (holds_after texts) packets index)
unfolding number_of
number_known texts packets index (inl held) = held.1
number_known texts packets index (inr never) = never

pub some_received : (texts : TextWish) (apid : ℕ) (taken : List ℕ) → (received : Numbers) × ReceivedIn (holds_after texts) apid taken received
some_received texts apid taken =
    let packets = kept_in apid taken in (
      (λ index. number_of texts packets index (decide_received texts packets index)),
      record { at = λ index. number_known texts packets index (decide_received texts packets index) },
    )
