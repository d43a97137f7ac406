-- Octets that are read whole, as a bare stream.
use Rattle.std.proofs.Common.{◌≡◌, ◌⊎◌, ◌≤◌, ◌<◌, ◌+◌, max, ℕ, zero, suc, ℤ, true, false, Bool, nat_lt, if◌then◌else◌, inl, inr, List, [], ◌∷◌}
use Rattle.std.proofs.Common.{length, take, drop, refl, sym, ap, ◌∙◌, subst, arith, Option, None, Some, Result, Ok, Err, unwrap_or}
use Rattle.std.proofs.lemmas.Bool.Decides.{nat_tests}
use Rattle.std.proofs.lemmas.List.{take_all}
use Rattle.segment_defs.specs.TextWish.{TextWish, text_wish}
use Rattle.base_122.specs.declared.geometry.Geometry.{Geometry}
use Rattle.base_122.specs.declared.wish.DecodeWish.{DecodeWish}
use Rattle.segment_defs.specs.declared.head.SegmentHead.{SegmentHead}
use Rattle.segment_defs.specs.declared.fault.HeadFault.{HeadFault}
use Rattle.segment_defs.specs.Reading.{first_refusal}
use Rattle.segment_code.specs.TextAnswers.{TextAnswer, gives, refuses, Decided, answer_in}
use Rattle.bare_text.specs.Agreement.{agreement_tests}
use Rattle.bare_text.specs.Reading.{HeadDecided, bare_head_in}
use Rattle.bare_stream.specs.declared.fault.BareFault.{BareFault}
use Rattle.bare_stream.specs.declared.fault.BareFault.TheVariants.{LongInput}
use Rattle.bare_stream.specs.Pictures.{pixels_at, all_rows}
use Rattle.bare_stream.specs.StreamRead.{Ending, needs_more, stops, Segments, Next, text, ends, too_many, by_answer, items_next, by_pixels, by_agreement}
use Rattle.bare_stream.specs.StreamRead.{by_head, head_next, end_next, next_by, next_in, with_text, Read, continued, read_after, none_read, stream_in}
use Rattle.bare_stream.specs.StreamRead.{reading, answer_by, answer_for}
use Rattle.bare_stream.specs.Decoded.{rows_of}

-- ---- only the end after the last segment is right

abbrev NotOk : Next → Type 0
NotOk (text head n w) = Unit {0}
NotOk (ends (stops fault n)) = Unit {0}
NotOk (ends (needs_more (Ok g))) = ⊥
NotOk (ends (needs_more (Err fault))) = Unit {0}

items_not : (s : Segments) (head : SegmentHead) (size : ℕ) (o : Option Decided) → NotOk (items_next s head size o)
items_not s head size None = tt
items_not s head size (Some d) = by d.answer
  where
    by : (answer : TextAnswer) → NotOk (by_answer s head (size + d.octets) answer)
    by (gives part w) = tt
    by (refuses name) = tt

agreement_not : (s : Segments) (size : ℕ) (o : Option HeadFault) (a : Next) → NotOk a → NotOk (by_agreement s size o a)
agreement_not s size None a not = not
agreement_not s size (Some fault) a not = tt

pixels_not : (pixels found : ℕ) (s : Segments) (size : ℕ) (a : Next) → NotOk a → NotOk (by_pixels pixels found s size a)
pixels_not pixels found s size a not = by (nat_lt pixels found)
  where
    by : (t : Bool) → NotOk (if t then too_many s size found else a)
    by true = tt
    by false = not

module _ (wish : TextWish) (pixels : ℕ) where
  result_not : (s : Segments) (octets : List ℕ) (size : ℕ) (result : Result SegmentHead HeadFault) → NotOk (by_head wish pixels s octets size result)
  result_not s octets size (Err fault) = tt
  result_not s octets size (Ok head) =
      let first = unwrap_or s.first head in
      let index = length s.blocks in
      agreement_not s size (first_refusal (agreement_tests first index head)) _
      (pixels_not pixels (pixels_at first index head) s size _ (items_not s head size (answer_in wish head size (drop size octets))))

  head_not : (s : Segments) (octets : List ℕ) (o : Option HeadDecided) → NotOk (head_next wish pixels s octets o)
  head_not s octets None = tt
  head_not s octets (Some d) = result_not s octets d.octets d.result

  -- what is known if the end is right
  pub record AtLast (s : Segments) (octets : List ℕ) (g : Geometry) : Type 0 where
    pub ended : s.ended ≡ Some g
    pub none : octets ≡ []

  pub next_ok : (s : Segments) (octets : List ℕ) (g : Geometry) → next_in wish pixels s octets ≡ ends (needs_more (Ok g)) → AtLast s octets g
  next_ok s octets g e = by s.ended refl e
    where
      same_ok : (a b : Geometry) → ends (needs_more (Ok a)) ≡ ends (needs_more (Ok b)) → a ≡ b
      same_ok a b e = cc

      at_end : (h : Geometry) (l : List ℕ) → end_next s h l ≡ ends (needs_more (Ok g)) → (h ≡ g) × (l ≡ [])
      at_end h [] e = (same_ok h g e, refl)
      at_end h (x ∷ l) e = absurd cc

      by : (ended : Option Geometry) → s.ended ≡ ended → next_by wish pixels s octets ended ≡ ends (needs_more (Ok g)) → AtLast s octets g
      by None so e = absurd (subst NotOk e (head_not s octets (bare_head_in s.before octets)))
      by (Some h) so e = (let l = at_end h octets e in record { ended = so ∙ ap (λ k. Some k) l.0; none = l.1 })

  -- ---- all segments of a stream

  record IsWhole (x : Read) (g : Geometry) : Type 0 where
    first : SegmentHead
    first_is : x.segments.first ≡ Some first
    ended : x.segments.ended ≡ Some g

  -- the last segment has a first one
  abbrev IsSound : Segments → Type 0
  IsSound s = (s.ended ≡ None) ⊎ ((first : SegmentHead) × (s.first ≡ Some first))

  whole_after : (n : ℕ) (s : Segments) (octets : List ℕ) (g : Geometry) → IsSound s → (read_after n wish pixels s octets).ending ≡ needs_more (Ok g) →
      IsWhole (read_after n wish pixels s octets) g
  unfolding read_after
  whole_after zero s octets g sound e = absurd (wrong e)
    where
      wrong : {a : BareFault} → needs_more (Err a) ≡ needs_more (Ok g) → ⊥
      wrong e = cc
  whole_after (suc n) s octets g sound e = by (λ z l a b. whole_after n z l g a b) (next_in wish pixels s octets) refl e
    where
      by : ((z : Segments) (l : List ℕ) → IsSound z → (read_after n wish pixels z l).ending ≡ needs_more (Ok g) →
          IsWhole (read_after n wish pixels z l) g) → (next : Next) → next_in wish pixels s octets ≡ next →
          (continued (read_after n wish pixels) s octets next).ending ≡ needs_more (Ok g) → IsWhole (continued (read_after n wish pixels) s octets next) g
      by again (text head k w) so e = again (with_text s head k w octets) (drop k octets) (inr (unwrap_or s.first head, refl)) e
      by again (ends ending) so e =
          let last = next_ok s octets g (so ∙ ap (λ x. ends x) e) in
          elim sound [
            | inl going ↦ absurd (let f = sym going ∙ last.ended in cc)
            | inr first ↦ record { first = first.0; first_is = first.1; ended = last.ended }
          ]

-- all rows of the picture are determined
pub whole_rows : (wish : TextWish) (pixels : ℕ) (octets : List ℕ) (g : Geometry) → (stream_in wish pixels octets).ending ≡ needs_more (Ok g) →
    rows_of (stream_in wish pixels octets).segments ≡ all_rows g (stream_in wish pixels octets).segments.blocks
whole_rows wish pixels octets g e =
    let w = whole_after wish pixels (suc (length octets)) none_read octets g (inl refl) e in
    by (stream_in wish pixels octets) w
  where
    by : (x : Read) → IsWhole wish pixels x g → rows_of x.segments ≡ all_rows g x.segments.blocks
    by x w = rw (w.first_is, w.ended) refl

-- and the last segment was read
pub whole_ended : (wish : TextWish) (pixels : ℕ) (octets : List ℕ) (g : Geometry) → (stream_in wish pixels octets).ending ≡ needs_more (Ok g) →
    (stream_in wish pixels octets).segments.ended ≡ Some g
whole_ended wish pixels octets g e = (whole_after wish pixels (suc (length octets)) none_read octets g (inl refl) e).ended

-- ---- more pixels may be allowed

module _ (wish : TextWish) (p q : ℕ) (le : p ≤ q) where
  found_few : (found : ℕ) (s : Segments) (size : ℕ) (a b : Next) (head : SegmentHead) (k : ℕ) (w : List (List ℤ)) →
      (a ≡ text head k w → b ≡ text head k w) → by_pixels p found s size a ≡ text head k w → by_pixels q found s size b ≡ text head k w
  found_few found s size a b head k w same e = by (nat_lt p found) refl e
    where
      wrong : (ending : Ending) → ends ending ≡ text head k w → ⊥
      wrong ending e = cc

      fewer : nat_lt p found ≡ false → nat_lt q found ≡ false
      fewer e = grind (arith, nat_tests)

      by : (t : Bool) → nat_lt p found ≡ t → (if t then too_many s size found else a) ≡ text head k w → by_pixels q found s size b ≡ text head k w
      by true t e = absurd (wrong _ e)
      by false t e = ap (λ u. if u then too_many s size found else b) (fewer t) ∙ same e

  agrees_few : (s : Segments) (size : ℕ) (o : Option HeadFault) (a b : Next) (head : SegmentHead) (k : ℕ) (w : List (List ℤ)) →
      (a ≡ text head k w → b ≡ text head k w) → by_agreement s size o a ≡ text head k w → by_agreement s size o b ≡ text head k w
  agrees_few s size None a b head k w same e = same e
  agrees_few s size (Some fault) a b head k w same e = e

  result_few : (s : Segments) (octets : List ℕ) (size : ℕ) (result : Result SegmentHead HeadFault) (head : SegmentHead) (k : ℕ) (w : List (List ℤ)) →
      by_head wish p s octets size result ≡ text head k w → by_head wish q s octets size result ≡ text head k w
  result_few s octets size (Err fault) head k w e = e
  result_few s octets size (Ok h) head k w e =
      let first = unwrap_or s.first h in
      let index = length s.blocks in
      agrees_few s size (first_refusal (agreement_tests first index h)) _ _ head k w (found_few (pixels_at first index h) s size _ _ head k w (λ f. f)) e

  head_few : (s : Segments) (octets : List ℕ) (o : Option HeadDecided) (head : SegmentHead) (k : ℕ) (w : List (List ℤ)) →
      head_next wish p s octets o ≡ text head k w → head_next wish q s octets o ≡ text head k w
  head_few s octets None head k w e = e
  head_few s octets (Some d) head k w e = result_few s octets d.octets d.result head k w e

  next_few : (s : Segments) (octets : List ℕ) (head : SegmentHead) (k : ℕ) (w : List (List ℤ)) → next_in wish p s octets ≡ text head k w →
      next_in wish q s octets ≡ text head k w
  next_few s octets head k w e = by s.ended e
    where
      by : (ended : Option Geometry) → next_by wish p s octets ended ≡ text head k w → next_by wish q s octets ended ≡ text head k w
      by None e = head_few s octets (bare_head_in s.before octets) head k w e
      by (Some g) e = e

  end_few : (s : Segments) (octets : List ℕ) (g : Geometry) → next_in wish p s octets ≡ ends (needs_more (Ok g)) →
      next_in wish q s octets ≡ ends (needs_more (Ok g))
  end_few s octets g e =
      let last = next_ok wish p s octets g e in
      ap (next_by wish q s octets) last.ended ∙ sym (ap (next_by wish p s octets) last.ended) ∙ e

  same_after : (n : ℕ) (s : Segments) (octets : List ℕ) (g : Geometry) → (read_after n wish p s octets).ending ≡ needs_more (Ok g) →
      read_after n wish q s octets ≡ read_after n wish p s octets
  unfolding read_after
  same_after zero s octets g e = refl
  same_after (suc n) s octets g e = by (λ z l a. same_after n z l g a) (next_in wish p s octets) refl e
    where
      by : ((z : Segments) (l : List ℕ) → (read_after n wish p z l).ending ≡ needs_more (Ok g) → read_after n wish q z l ≡ read_after n wish p z l) →
          (next : Next) → next_in wish p s octets ≡ next → (continued (read_after n wish p) s octets next).ending ≡ needs_more (Ok g) →
          continued (read_after n wish q) s octets (next_in wish q s octets) ≡ continued (read_after n wish p) s octets next
      by again (text head k w) so e =
          ap (continued (read_after n wish q) s octets) (next_few s octets head k w so) ∙ again (with_text s head k w octets) (drop k octets) e
      by again (ends ending) so e =
          let here = end_few s octets g (so ∙ ap (λ x. ends x) e) in
          ap (continued (read_after n wish q) s octets) (here ∙ ap (λ x. ends x) (sym e))

  -- a stream that is read whole is read so, if more pixels are allowed
  pub more_pixels : (octets : List ℕ) (g : Geometry) → (stream_in wish p octets).ending ≡ needs_more (Ok g) → stream_in wish q octets ≡ stream_in wish p octets
  more_pixels octets g e = same_after (suc (length octets)) none_read octets g e

-- so it is read in one way
pub same_whole : (wish : TextWish) (p q : ℕ) (octets : List ℕ) (g h : Geometry) → (stream_in wish p octets).ending ≡ needs_more (Ok g) →
    (stream_in wish q octets).ending ≡ needs_more (Ok h) → stream_in wish p octets ≡ stream_in wish q octets
same_whole wish p q octets g h e f =
    sym (more_pixels wish p (max p q) (omega arith) octets g e) ∙ more_pixels wish q (max p q) (omega arith) octets h f

pub one_geometry : (x y : Read) (g h : Geometry) → x ≡ y → x.ending ≡ needs_more (Ok g) → y.ending ≡ needs_more (Ok h) → g ≡ h
one_geometry x y g h same e f = by g h (sym e ∙ ap (λ z. z.ending) same ∙ f)
  where
    by : (g h : Geometry) → needs_more (Ok g) ≡ needs_more (Ok h) → g ≡ h
    by g h e = cc

-- ---- an input that was taken whole

-- the answer is right only if the octets are read whole
ended_right : (wish : DecodeWish) (input : List ℕ) (g : Geometry) (ending : Ending) → Ok g ≡ answer_by wish input ending →
    (ending ≡ needs_more (Ok g)) × (nat_lt (length input) wish.octets ≡ true)
ended_right wish input g (stops fault n) e = absurd cc
ended_right wish input g (needs_more at_end) e = by (nat_lt (length input) wish.octets) e
  where
    wrong : (fault : BareFault) → Ok g ≡ Err fault → ⊥
    wrong fault e = cc

    by : (b : Bool) → Ok g ≡ (if b then at_end else Err LongInput) → (needs_more at_end ≡ needs_more (Ok g)) × (b ≡ true)
    by true e = (ap (λ r. needs_more r) (sym e), refl)
    by false e = absurd (wrong LongInput e)

module _ (wish : DecodeWish) (input : List ℕ) (g : Geometry) (right : Ok g ≡ answer_for wish input) where
  pub within : take wish.octets input ≡ input
  within = (let low = (ended_right wish input g (reading wish input).ending right).1 in take_all wish.octets input (let lt : length input < wish.octets =
      grind (arith, nat_tests) in omega (arith, lt)))

  pub whole_input : (stream_in (text_wish wish) wish.pixels input).ending ≡ needs_more (Ok g)
  whole_input = ap (λ l. (stream_in (text_wish wish) wish.pixels l).ending) (sym within) ∙ (ended_right wish input g (reading wish input).ending right).0

  pub rows_input : rows_of (reading wish input).segments ≡ all_rows g (reading wish input).segments.blocks
  rows_input = whole_rows (text_wish wish) wish.pixels (take wish.octets input) g (ended_right wish input g (reading wish input).ending right).0
