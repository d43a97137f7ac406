-- A bare stream is read alike whether its numbers are restored or not.
use Rattle.std.proofs.Common.{◌≡◌, ◌+◌, ℕ, zero, suc, ℤ, Bool, true, false, nat_lt, if◌then◌else◌, List, [], ◌∷◌, ◌++◌, length, take, drop, refl, sym, ap}
use Rattle.std.proofs.Common.{◌∙◌, subst, length-append, Option, None, Some, Result, Ok, Err, unwrap_or}
use Rattle.base_122.specs.declared.geometry.Geometry.{Geometry}
use Rattle.base_122.specs.declared.wish.DecodeWish.{DecodeWish}
use Rattle.segment_defs.specs.declared.head.SegmentHead.{SegmentHead}
use Rattle.segment_defs.specs.declared.fault.HeadFault.{HeadFault}
use Rattle.segment_defs.specs.declared.fault.HeadFault.TheVariants.{HeadShort}
use Rattle.segment_defs.specs.Reading.{first_refusal}
use Rattle.segment_defs.specs.TextWish.{TextWish, text_wish}
use Rattle.segment_code.specs.Laws.{AnswersAgree, blank, blank_if_decided}
use Rattle.segment_code.specs.TextAnswers.{TextAnswer, gives, refuses, Decided, answer_in}
use Rattle.bare_text.specs.Agreement.{agreement_tests}
use Rattle.bare_text.specs.InForce.{parts_after}
use Rattle.bare_text.specs.Reading.{HeadDecided, bare_head_in}
use Rattle.bare_stream.specs.declared.fault.BareCause.TheVariants.{Head, Short, Trailing}
use Rattle.bare_stream.specs.declared.fault.BareCause.{BareCause}
use Rattle.bare_stream.specs.declared.fault.BareFault.TheVariants.{Refused}
use Rattle.bare_stream.specs.Pictures.{geometry_at, pixels_at}
use Rattle.bare_stream.specs.StreamRead.{Ending, needs_more, stops, Segments, Next, text, ends, too_many, cause_of}
use Rattle.bare_stream.specs.StreamRead.{by_answer, items_next, by_pixels, by_agreement}
use Rattle.bare_stream.specs.StreamRead.{by_head, head_next, end_next, next_by, next_in, with_text, continued, read_after, none_read, stream_in}
use Rattle.bare_stream.specs.StreamRead.{reading, answer_by, octets_by}
use Rattle.bare_stream.specs.WishLaws.{AreAlike, BareWishesAgree}
use Rattle.bare_stream.proofs.SegmentMore.{made}

abbrev Blocks : Type 0
Blocks = List (List (List ℤ))

-- the same segments with other numbers
abbrev with_blocks : Segments → Blocks → Segments
with_blocks s blocks = made s.first s.before blocks s.ended s.octets

-- what is next is the same, except for the numbers
abbrev NextAlike : Next → Next → Type 0
NextAlike (text head n w) (text other m v) = (head ≡ other) × (n ≡ m)
NextAlike (text head n w) (ends ending) = ⊥
NextAlike (ends ending) (text head n w) = ⊥
NextAlike (ends ending) (ends other) = ending ≡ other

-- ---- the next segment

module _ (s : Segments) (blocks : Blocks) (same : length s.blocks ≡ length blocks) where
  abbrev t : Segments
  t = with_blocks s blocks

  refused_alike : (n m : ℕ) (cause other : BareCause) → n ≡ m → cause ≡ other →
      stops (Refused (length s.blocks) cause) (s.octets + n) ≡ stops (Refused (length blocks) other) (s.octets + m)
  refused_alike n m cause other e f =
      ap (λ k. stops (Refused k cause) (s.octets + n)) same ∙ ap (λ k. stops (Refused (length blocks) cause) (s.octets + k)) e
      ∙ ap (λ k. stops (Refused (length blocks) k) (s.octets + m)) f

  answers_alike : (head : SegmentHead) (n m : ℕ) (a b : TextAnswer) → n ≡ m → blank a ≡ blank b → NextAlike (by_answer s head n a) (by_answer t head m b)
  answers_alike head n m (gives part w) (gives other v) e f = (refl, e)
  answers_alike head n m (gives part w) (refuses name) e f = absurd (clash f)
    where
      clash : gives part [] ≡ refuses name → ⊥
      clash f = cc
  answers_alike head n m (refuses name) (gives part w) e f = absurd (clash f)
    where
      clash : refuses name ≡ gives part [] → ⊥
      clash f = cc
  answers_alike head n m (refuses name) (refuses other) e f = refused_alike n m (cause_of name) (cause_of other) e (ap cause_of (one f))
    where
      one : refuses name ≡ refuses other → name ≡ other
      one f = cc

  items_alike : (head : SegmentHead) (size : ℕ) (a b : Option Decided) → blank_if_decided a ≡ blank_if_decided b →
      NextAlike (items_next s head size a) (items_next t head size b)
  items_alike head size None None e = ap (λ k. needs_more (Err (Refused k Short))) same
  items_alike head size None (Some d) e = absurd cc
  items_alike head size (Some d) None e = absurd cc
  items_alike head size (Some d) (Some c) e =
      let is : ◌≡◌ {A = Decided} (record { answer = blank d.answer; octets = d.octets }) (record { answer = blank c.answer; octets = c.octets }) = cc in
      answers_alike head (size + d.octets) (size + c.octets) d.answer c.answer (ap (λ (x : Decided). size + x.octets) is) (ap (λ (x : Decided). x.answer) is)

  pixels_alike : (pixels found other size : ℕ) (a b : Next) → found ≡ other → NextAlike a b →
      NextAlike (by_pixels pixels found s size a) (by_pixels pixels other t size b)
  pixels_alike pixels found other size a b e alike =
      subst (λ k. NextAlike (by_pixels pixels found s size a) (by_pixels pixels k t size b)) e (by (nat_lt pixels found))
    where
      by : (test : Bool) → NextAlike (if test then too_many s size found else a) (if test then too_many t size found else b)
      by true = refl
      by false = alike

  agreement_alike : (size : ℕ) (o p : Option HeadFault) (a b : Next) → o ≡ p → NextAlike a b → NextAlike (by_agreement s size o a) (by_agreement t size p b)
  agreement_alike size o p a b e alike = subst (λ q. NextAlike (by_agreement s size o a) (by_agreement t size q b)) e (by o)
    where
      by : (q : Option HeadFault) → NextAlike (by_agreement s size q a) (by_agreement t size q b)
      by None = alike
      by (Some fault) = refused_alike size size (Head fault) (Head fault) refl refl

  module _ (v w : TextWish)
      (agree : (head : SegmentHead) (size : ℕ) (rest : List ℕ) → blank_if_decided (answer_in v head size rest) ≡ blank_if_decided (answer_in w head size rest))
      (pixels : ℕ) (octets : List ℕ) where
    head_alike : (size : ℕ) (result : Result SegmentHead HeadFault) → NextAlike (by_head v pixels s octets size result) (by_head w pixels t octets size result)
    head_alike size (Err fault) = refused_alike size size (Head fault) (Head fault) refl refl
    head_alike size (Ok head) =
        let first = unwrap_or s.first head in
        let rest = drop size octets in
        agreement_alike size (first_refusal (agreement_tests first (length s.blocks) head)) (first_refusal (agreement_tests first (length blocks) head)) _ _
        (ap (λ k. first_refusal (agreement_tests first k head)) same)
        (pixels_alike pixels (pixels_at first (length s.blocks) head) (pixels_at first (length blocks) head) size _ _ (ap (λ k. pixels_at first k head) same)
        (items_alike head size (answer_in v head size rest) (answer_in w head size rest) (agree head size rest)))

    decided_alike : (o : Option HeadDecided) → NextAlike (head_next v pixels s octets o) (head_next w pixels t octets o)
    decided_alike None = ap (λ k. needs_more (Err (Refused k (Head (HeadShort (length octets)))))) same
    decided_alike (Some d) = head_alike d.octets d.result

    end_alike : (g : Geometry) (l : List ℕ) → NextAlike (end_next s g l) (end_next t g l)
    end_alike g [] = refl
    end_alike g (x ∷ more) = refused_alike 1 1 Trailing Trailing refl refl

    by_alike : (ended : Option Geometry) → NextAlike (next_by v pixels s octets ended) (next_by w pixels t octets ended)
    by_alike None = decided_alike (bare_head_in s.before octets)
    by_alike (Some g) = end_alike g octets

    pub next_alike : NextAlike (next_in v pixels s octets) (next_in w pixels t octets)
    next_alike = by_alike s.ended

-- ---- all segments

module _ (v w : TextWish)
    (agree : (head : SegmentHead) (size : ℕ) (rest : List ℕ) → blank_if_decided (answer_in v head size rest) ≡ blank_if_decided (answer_in w head size rest))
    (pixels : ℕ) where
  -- the segments with one more
  one_more : (s : Segments) (blocks : Blocks) (head : SegmentHead) (n : ℕ) (a b : List (List ℤ)) (octets : List ℕ) → length s.blocks ≡ length blocks →
      with_blocks (with_text s head n a octets) (blocks ++ b ∷ []) ≡ with_text (with_blocks s blocks) head n b octets
  one_more s blocks head n a b octets same =
      ap (λ k. made (Some (unwrap_or s.first head)) (parts_after s.before octets) (blocks ++ b ∷ [])
      (if head.last then Some (geometry_at (unwrap_or s.first head) k head) else None) (s.octets + n)) same

  alike_after : (most : ℕ) (s : Segments) (blocks : Blocks) (octets : List ℕ) → length s.blocks ≡ length blocks →
      AreAlike (read_after most v pixels s octets) (read_after most w pixels (with_blocks s blocks) octets)
  unfolding read_after
  alike_after zero s blocks octets same = record {
    first = refl;
    before = refl;
    count = same;
    ended = refl;
    octets = refl;
    ending = ap (λ k. needs_more (Err (Refused k Short))) same;
  }
  alike_after (suc most) s blocks octets same =
      by (λ z l o e. alike_after most z l o e) (next_in v pixels s octets) (next_in w pixels (with_blocks s blocks) octets)
      (next_alike s blocks same v w agree pixels octets)
    where
      by : ((z : Segments) (l : Blocks) (o : List ℕ) → length z.blocks ≡ length l →
          AreAlike (read_after most v pixels z o) (read_after most w pixels (with_blocks z l) o)) → (a b : Next) → NextAlike a b →
          AreAlike (continued (read_after most v pixels) s octets a) (continued (read_after most w pixels) (with_blocks s blocks) octets b)
      by again (text head n x) (text other m y) alike =
          let z = with_text s head n x octets in
          let l = blocks ++ y ∷ [] in
          let long : length z.blocks ≡ length l =
          length-append s.blocks (x ∷ []) ∙ ap (λ k. k + 1) same ∙ sym (length-append blocks (y ∷ [])) in
          subst (λ h. AreAlike (read_after most v pixels z (drop n octets))
          (read_after most w pixels (with_text (with_blocks s blocks) h m y octets) (drop m octets))) alike.0
          (subst (λ k. AreAlike (read_after most v pixels z (drop n octets))
          (read_after most w pixels (with_text (with_blocks s blocks) head k y octets) (drop k octets))) alike.1
          (subst (λ q. AreAlike (read_after most v pixels z (drop n octets)) (read_after most w pixels q (drop n octets)))
          (one_more s blocks head n x y octets same) (again z l (drop n octets) long)))
      by again (text head n x) (ends ending) alike = absurd alike
      by again (ends ending) (text head n x) alike = absurd alike
      by again (ends ending) (ends other) alike =
          record { first = refl; before = refl; count = same; ended = refl; octets = refl; ending = alike }

  pub streams_alike : (octets : List ℕ) → AreAlike (stream_in v pixels octets) (stream_in w pixels octets)
  streams_alike octets = alike_after (suc (length octets)) none_read [] octets refl

-- ---- the answer

pub wishes_agree : AnswersAgree → BareWishesAgree
wishes_agree agree = record {
  reads = λ wish restore pixels octets. alike wish restore pixels octets;
  answer = λ wish restore input. answer_same wish restore input (reading (record wish { restore = restore }) input).ending
      ∙ ap (answer_by wish input) (ending wish restore input);
  octets = λ wish restore input. octets_same wish restore input (reading (record wish { restore = restore }) input).ending
      ∙ ap (octets_by wish input) (ending wish restore input);
}
  where
    alike : (wish : TextWish) (restore : Bool) (pixels : ℕ) (octets : List ℕ) →
        AreAlike (stream_in (record wish { restore = restore }) pixels octets) (stream_in wish pixels octets)
    alike wish restore pixels octets = streams_alike (record wish { restore = restore }) wish
        (λ head size rest. agree (record wish { restore = restore }) head size rest ∙ sym (agree wish head size rest)) pixels octets

    ending : (wish : DecodeWish) (restore : Bool) (input : List ℕ) → (reading (record wish { restore = restore }) input).ending ≡ (reading wish input).ending
    ending wish restore input = (alike (text_wish wish) restore wish.pixels (take wish.octets input)).ending

    answer_same : (wish : DecodeWish) (restore : Bool) (input : List ℕ) (e : Ending) →
        answer_by (record wish { restore = restore }) input e ≡ answer_by wish input e
    answer_same wish restore input (needs_more at_end) = refl
    answer_same wish restore input (stops fault octets) = refl

    octets_same : (wish : DecodeWish) (restore : Bool) (input : List ℕ) (e : Ending) →
        octets_by (record wish { restore = restore }) input e ≡ octets_by wish input e
    octets_same wish restore input (needs_more at_end) = refl
    octets_same wish restore input (stops fault octets) = refl
