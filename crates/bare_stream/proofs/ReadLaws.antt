-- The reading of octets, text by text.
use Rattle.std.proofs.Common.{◌≡◌, ◌<◌, ℕ, zero, suc, ℤ, true, List, length, drop, refl, ap, ◌∙◌, arith, length-drop}
use Rattle.segment_defs.specs.TextWish.{TextWish}
use Rattle.plane_defs.specs.Codes.{is_book_sound}
use Rattle.segment_defs.specs.declared.head.SegmentHead.{SegmentHead}
use Rattle.segment_code.specs.Laws.{TextsEndThere}
use Rattle.bare_text.specs.Laws.{BareHeadsEndThere}
use Rattle.bare_stream.specs.StreamRead.{Ending, Segments, Next, text, ends, next_in, with_text, continued, read_after, read_on}
use Rattle.bare_stream.proofs.NextReads.{text_least, text_most}

module _ (heads : BareHeadsEndThere) (texts : TextsEndThere) (wish : TextWish) (sound : is_book_sound wish.book ≡ true) (pixels : ℕ) where
  shorter : (s : Segments) (octets : List ℕ) (head : SegmentHead) (k : ℕ) (w : List (List ℤ)) → next_in wish pixels s octets ≡ text head k w →
      length (drop k octets) < length octets
  shorter s octets head k w e =
      let least = text_least heads texts wish sound pixels s octets head k w e in
      let most = text_most heads texts wish sound pixels s octets head k w e in
      omega (arith, length-drop k octets, least, most)

  -- more steps than octets change nothing
  same_read : (n m : ℕ) (s : Segments) (octets : List ℕ) → length octets < n → length octets < m → read_after n wish pixels s octets
      ≡ read_after m wish pixels s octets
  unfolding read_after
  same_read zero m s octets lt lt' = absurd (omega (arith, lt))
  same_read (suc n) zero s octets lt lt' = absurd (omega (arith, lt'))
  same_read (suc n) (suc m) s octets lt lt' = by (λ z l a b. same_read n m z l a b) (next_in wish pixels s octets) refl
    where
      by : ((z : Segments) (l : List ℕ) → length l < n → length l < m → read_after n wish pixels z l ≡ read_after m wish pixels z l) → (next : Next) →
          next_in wish pixels s octets ≡ next → continued (read_after n wish pixels) s octets next ≡ continued (read_after m wish pixels) s octets next
      by again (text head k w) e =
          let less = shorter s octets head k w e in
          again (with_text s head k w octets) (drop k octets) (omega (arith, less, lt)) (omega (arith, less, lt'))
      by again (ends ending) e = refl

  -- a text is next
  pub read_text : (s : Segments) (octets : List ℕ) (head : SegmentHead) (k : ℕ) (w : List (List ℤ)) → next_in wish pixels s octets ≡ text head k w →
      read_on wish pixels s octets ≡ read_on wish pixels (with_text s head k w octets) (drop k octets)
  unfolding read_after
  read_text s octets head k w e =
      let less = shorter s octets head k w e in
      ap (continued (read_after (length octets) wish pixels) s octets) e
      ∙ same_read (length octets) (suc (length (drop k octets))) (with_text s head k w octets) (drop k octets) (omega (arith, less)) (omega arith)

  -- the reading ends
  pub read_ends : (s : Segments) (octets : List ℕ) (ending : Ending) → next_in wish pixels s octets ≡ ends ending →
      read_on wish pixels s octets ≡ record { segments = s; ending = ending }
  unfolding read_after
  read_ends s octets ending e = ap (continued (read_after (length octets) wish pixels) s octets) e
