-- The same segments are received, whether their numbers are restored or not.
use Rattle.std.proofs.Common.{◌≡◌, ◌+◌, ◌*◌, ◌/◌, not, filter, ℕ, ℤ, List, drop, refl, ap, sym, ◌∙◌, Option, None, Some, is_some, Ok, Err, MatchOption}
use Rattle.std.specs.List.{range_with_len, list_any}
use Rattle.base_122.specs.Sizes.{block_count}
use Rattle.base_122.specs.declared.geometry.Geometry.{Geometry}
use Rattle.stream_defs.specs.Begun.{height, block_rows}
use Rattle.stream_defs.specs.Damage.{missing_below, ranges}
use Rattle.stream_defs.specs.Marks.{Marks}
use Rattle.stream_defs.proofs.Equations.{missing_below-is}
use Rattle.strip_decoder.specs.Walks.{IsDamageOf}
use Rattle.segment_defs.specs.Head.{head_length}
use Rattle.segment_defs.specs.TextOutcome.{Answer, text_outcome}
use Rattle.segment_defs.specs.TextWish.{TextWish, unrestored, text_read}
use Rattle.segment_defs.specs.TextWishLaws.{refusal_in, WishesAgree}
use Rattle.stream_defs.specs.Fates.{kept_in}
use Rattle.stream_defs.specs.Received.{packets_at, text_of_parts, IsReceived, ReceivedIn}
use Rattle.strip_decoder.specs.Runs.{Numbers, holds_after}

not_refused : (a : Answer) → refusal_in a ≡ None → (v : List (List ℤ)) × (a ≡ Ok v)
not_refused (Ok v) e = (v, refl)
not_refused (Err name) e = absurd cc

module _ (agree : WishesAgree) where
  -- a segment that is received so is also received with the same book and another wish
  also : (a b : TextWish) → a.book ≡ b.book → (packets : List (List ℕ)) (index : ℕ) (w : List (List ℤ)) → IsReceived (holds_after a) packets index w →
      (v : List (List ℤ)) × IsReceived (holds_after b) packets index v
  also a b same packets index w x =
      let rest = drop (head_length x.head) (text_of_parts (packets_at index packets)) in
      let other = not_refused (text_read b x.head rest)
      (agree.refusals b x.head rest ∙ sym (ap (λ k. refusal_in (text_outcome k x.head rest)) same) ∙ sym (agree.refusals a x.head rest) ∙
      ap refusal_in x.accepted) in
      (other.0, record { whole = x.whole; head = x.head; head_is = x.head_is; accepted = other.1 })

  alike : (a b : TextWish) → a.book ≡ b.book → (packets : List (List ℕ)) (index : ℕ) (r s : Option (List (List ℤ))) →
      MatchOption r ((w : List (List ℤ)) → IsReceived (holds_after a) packets index w → ⊥) (IsReceived (holds_after a) packets index) →
      MatchOption s ((w : List (List ℤ)) → IsReceived (holds_after b) packets index w → ⊥) (IsReceived (holds_after b) packets index) →
      is_some r ≡ is_some s
  alike a b same packets index None None p q = refl
  alike a b same packets index (Some v) (Some w) p q = refl
  alike a b same packets index None (Some w) p q = let v = also b a (sym same) packets index w q in absurd (p v.0 v.1)
  alike a b same packets index (Some v) None p q = let w = also a b same packets index v p in absurd (q w.0 w.1)

  pub received_alike : (texts : TextWish) (apid : ℕ) (taken : List ℕ) (a b : Numbers) → ReceivedIn (holds_after texts) apid taken a →
      ReceivedIn (holds_after (unrestored texts.book)) apid taken b → (index : ℕ) → is_some (a index) ≡ is_some (b index)
  received_alike texts apid taken a b x y index =
      alike texts (unrestored texts.book) refl (kept_in apid taken) index (a index) (b index) (x.at index) (y.at index)

-- ---- the damage

module _ (a b : Numbers) (same : (index : ℕ) → is_some (a index) ≡ is_some (b index)) (g : Geometry) where
  missing_alike : (rows : ℕ) → missing_below g a rows ≡ missing_below g b rows
  missing_alike rows =
      missing_below-is g a rows ∙
      (λ i. filter (λ row. list_any (λ column. not (same ((row * block_count g.width + column) / g.segment) i)) (range_with_len 0 (block_count g.width)))
      (range_with_len 0 rows)) ∙
      sym (missing_below-is g b rows)

  pub damage_alike : (n : ℕ) (marks : Marks) → IsDamageOf g a n marks → IsDamageOf g b n marks
  damage_alike n marks is = record {
    ranges_are = is.ranges_are ∙ ap (ranges (height g n)) (missing_alike (block_rows g n));
    missing = λ known. is.missing known ∙ missing_alike (block_count g.rows);
  }
