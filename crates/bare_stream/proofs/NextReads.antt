-- What octets after some segments begin with stays so, if more octets follow.
use Rattle.std.proofs.Common.{◌≡◌, ◌⊎◌, ◌≤◌, ◌<◌, ◌+◌, ◌-◌, ℕ, ℤ, true, false, Bool, nat_lt, if◌then◌else◌, inl, inr, List, [], ◌∷◌, ◌++◌, length, take}
use Rattle.std.proofs.Common.{drop, refl, sym, ap, ◌∙◌, subst, arith, Option, None, Some, Result, Ok, Err, unwrap_or, length-take-le}
use Rattle.std.proofs.Common.{length-drop}
use Rattle.std.proofs.lemmas.List.{drop-append-le, take-append-drop}
use Rattle.segment_defs.specs.TextWish.{TextWish}
use Rattle.base_122.specs.declared.geometry.Geometry.{Geometry}
use Rattle.plane_defs.specs.Codes.{is_book_sound}
use Rattle.segment_defs.specs.Head.{IsHead}
use Rattle.segment_defs.specs.Reading.{first_refusal}
use Rattle.segment_defs.specs.declared.head.SegmentHead.{SegmentHead}
use Rattle.segment_defs.specs.declared.fault.HeadFault.{HeadFault}
use Rattle.segment_code.specs.TextAnswers.{TextAnswer, gives, refuses, Decided, answer_in}
use Rattle.segment_code.specs.Laws.{EndsThere, TextsEndThere}
use Rattle.bare_text.specs.Agreement.{agreement_tests}
use Rattle.bare_text.specs.InForce.{parts_after}
use Rattle.bare_text.specs.Reading.{HeadDecided, bare_head_in}
use Rattle.bare_text.specs.Laws.{HeadEndsThere, BareHeadsEndThere}
use Rattle.bare_stream.specs.declared.fault.BareCause.TheVariants.{Short}
use Rattle.bare_stream.specs.declared.fault.BareFault.{BareFault}
use Rattle.bare_stream.specs.declared.fault.BareFault.TheVariants.{Refused}
use Rattle.bare_stream.specs.Pictures.{pixels_at}
use Rattle.bare_stream.specs.StreamRead.{Ending, needs_more, stops, Segments, Next, text, ends, too_many, by_answer, items_next, by_pixels, by_agreement}
use Rattle.bare_stream.specs.StreamRead.{by_head, head_next, end_next, next_by, next_in}

-- more octets are needed
abbrev pub Opens : Next → Type 0
Opens next = (at_end : Result Geometry BareFault) × (next ≡ ends (needs_more at_end))

-- with more octets it is the same, unless more are needed
abbrev Stays : Next → Next → Type 0
Stays a b = Opens a ⊎ (a ≡ b)

-- octets after the segments that it needs
abbrev pub needed : Segments → Next → ℕ
needed s (text head n w) = n
needed s (ends (stops fault n)) = n - s.octets
needed s (ends (needs_more at_end)) = 0

-- a text has a head, of three octets at least
abbrev IsLong : Next → Type 0
IsLong (text head n w) = 3 ≤ n
IsLong (ends ending) = Unit {0}

module _ (s : Segments) where
  items_long : (head : SegmentHead) (size : ℕ) (o : Option Decided) → 3 ≤ size → IsLong (items_next s head size o)
  items_long head size None le = tt
  items_long head size (Some d) le = by d.answer
    where
      by : (answer : TextAnswer) → IsLong (by_answer s head (size + d.octets) answer)
      by (gives part w) = omega (arith, le)
      by (refuses name) = tt

  agreement_long : (size : ℕ) (o : Option HeadFault) (a : Next) → IsLong a → IsLong (by_agreement s size o a)
  agreement_long size None a long = long
  agreement_long size (Some fault) a long = tt

  pixels_long : (pixels found size : ℕ) (a : Next) → IsLong a → IsLong (by_pixels pixels found s size a)
  pixels_long pixels found size a long = by (nat_lt pixels found)
    where
      by : (t : Bool) → IsLong (if t then too_many s size found else a)
      by true = tt
      by false = long

  items_stay : (head : SegmentHead) (size : ℕ) (o p : Option Decided) → ((d : Decided) → o ≡ Some d → p ≡ Some d) →
      Stays (items_next s head size o) (items_next s head size p)
  items_stay head size None p f = inl (Err (Refused (length s.blocks) Short), refl)
  items_stay head size (Some d) p f = inr (sym (ap (items_next s head size) (f d refl)))

  agreement_stays : (size : ℕ) (o : Option HeadFault) (a b : Next) → Stays a b → Stays (by_agreement s size o a) (by_agreement s size o b)
  agreement_stays size None a b f = f
  agreement_stays size (Some fault) a b f = inr refl

  pixels_stay : (pixels found size : ℕ) (a b : Next) → Stays a b → Stays (by_pixels pixels found s size a) (by_pixels pixels found s size b)
  pixels_stay pixels found size a b f = by (nat_lt pixels found)
    where
      by : (t : Bool) → Stays (if t then too_many s size found else a) (if t then too_many s size found else b)
      by true = inr refl
      by false = f

  -- ---- how many octets are needed

  items_few : (head : SegmentHead) (size all : ℕ) (o : Option Decided) → size ≤ all → ((d : Decided) → o ≡ Some d → size + d.octets ≤ all) →
      needed s (items_next s head size o) ≤ all
  items_few head size all None le f = omega arith
  items_few head size all (Some d) le f = by d.answer (f d refl)
    where
      by : (answer : TextAnswer) → size + d.octets ≤ all → needed s (by_answer s head (size + d.octets) answer) ≤ all
      by (gives part w) few = few
      by (refuses name) few = omega (arith, few)

  agreement_few : (size all : ℕ) (o : Option HeadFault) (a : Next) → size ≤ all → needed s a ≤ all → needed s (by_agreement s size o a) ≤ all
  agreement_few size all None a le few = few
  agreement_few size all (Some fault) a le few = omega (arith, le)

  pixels_few : (pixels found size all : ℕ) (a : Next) → size ≤ all → needed s a ≤ all → needed s (by_pixels pixels found s size a) ≤ all
  pixels_few pixels found size all a le few = by (nat_lt pixels found)
    where
      by : (t : Bool) → needed s (if t then too_many s size found else a) ≤ all
      by true = omega (arith, le)
      by false = few

module _ (heads : BareHeadsEndThere) (texts : TextsEndThere) (wish : TextWish) (sound : is_book_sound wish.book ≡ true) (pixels : ℕ) (s : Segments) where
  module _ (octets : List ℕ) (size : ℕ) (le : size ≤ length octets) (head : SegmentHead) (fits : IsHead head) (most : size ≤ 20) where
    there : EndsThere wish head size
    there = texts wish sound head size fits most

    answer_few : (d : Decided) → answer_in wish head size (drop size octets) ≡ Some d → size + d.octets ≤ length octets
    answer_few d e = (let few = there.enough (drop size octets) d e in let long = length-drop size octets in omega (arith, few, long, le))

    answer_stays : (more : List ℕ) (d : Decided) → answer_in wish head size (drop size octets) ≡ Some d →
        answer_in wish head size (drop size (octets ++ more)) ≡ Some d
    answer_stays more d e = ap (answer_in wish head size) (drop-append-le size octets more le) ∙ there.stays (drop size octets) more d e

  -- ---- after a head

  result_stays : (octets more : List ℕ) (size : ℕ) (result : Result SegmentHead HeadFault) → size ≤ length octets → size ≤ 20 →
      ((head : SegmentHead) → result ≡ Ok head → IsHead head) →
      Stays (by_head wish pixels s octets size result) (by_head wish pixels s (octets ++ more) size result)
  result_stays octets more size (Err fault) le most fits = inr refl
  result_stays octets more size (Ok head) le most fits =
      let first = unwrap_or s.first head in
      let index = length s.blocks in
      agreement_stays s size (first_refusal (agreement_tests first index head)) _ _
      (pixels_stay s pixels (pixels_at first index head) size _ _
      (items_stay s head size (answer_in wish head size (drop size octets)) (answer_in wish head size (drop size (octets ++ more)))
      (answer_stays octets size le head (fits head refl) most more)))

  result_few : (octets : List ℕ) (size : ℕ) (result : Result SegmentHead HeadFault) → size ≤ length octets → size ≤ 20 →
      ((head : SegmentHead) → result ≡ Ok head → IsHead head) →
      needed s (by_head wish pixels s octets size result) ≤ length octets
  result_few octets size (Err fault) le most fits = omega (arith, le)
  result_few octets size (Ok head) le most fits =
      let first = unwrap_or s.first head in
      let index = length s.blocks in
      agreement_few s size (length octets) (first_refusal (agreement_tests first index head)) _ le
      (pixels_few s pixels (pixels_at first index head) size (length octets) _ le
      (items_few s head size (length octets) (answer_in wish head size (drop size octets)) le (answer_few octets size le head (fits head refl) most)))

  result_long : (octets : List ℕ) (size : ℕ) (result : Result SegmentHead HeadFault) → 3 ≤ size → IsLong (by_head wish pixels s octets size result)
  result_long octets size (Err fault) le = tt
  result_long octets size (Ok head) le =
      let first = unwrap_or s.first head in
      let index = length s.blocks in
      agreement_long s size (first_refusal (agreement_tests first index head)) _
      (pixels_long s pixels (pixels_at first index head) size _ (items_long s head size (answer_in wish head size (drop size octets)) le))

  -- ---- what is next

  head_long : (octets : List ℕ) (o : Option HeadDecided) → ((d : HeadDecided) → o ≡ Some d → HeadEndsThere s.before octets d) →
      IsLong (head_next wish pixels s octets o)
  head_long octets None there = tt
  head_long octets (Some d) there = result_long octets d.octets d.result (there d refl).least

  end_long : (g : Geometry) (octets : List ℕ) → IsLong (end_next s g octets)
  end_long g [] = tt
  end_long g (octet ∷ octets) = tt

  next_long : (octets : List ℕ) → IsLong (next_in wish pixels s octets)
  next_long octets = by s.ended
    where
      by : (ended : Option Geometry) → IsLong (next_by wish pixels s octets ended)
      by None = head_long octets (bare_head_in s.before octets) (heads s.before octets)
      by (Some g) = end_long g octets

  pub text_least : (octets : List ℕ) (head : SegmentHead) (n : ℕ) (w : List (List ℤ)) → next_in wish pixels s octets ≡ text head n w → 3 ≤ n
  text_least octets head n w e = subst IsLong e (next_long octets)

  head_stays : (octets more : List ℕ) (o p : Option HeadDecided) → ((d : HeadDecided) → o ≡ Some d → HeadEndsThere s.before octets d) →
      ((d : HeadDecided) → o ≡ Some d → p ≡ Some d) →
      Stays (head_next wish pixels s octets o) (head_next wish pixels s (octets ++ more) p)
  head_stays octets more None p there f = inl (_, refl)
  head_stays octets more (Some d) p there f =
      let h = there d refl in
      subst (λ q. Stays (by_head wish pixels s octets d.octets d.result) (head_next wish pixels s (octets ++ more) q)) (sym (f d refl))
      (result_stays octets more d.octets d.result h.enough h.most h.fits)

  head_few : (octets : List ℕ) (o : Option HeadDecided) → ((d : HeadDecided) → o ≡ Some d → HeadEndsThere s.before octets d) →
      needed s (head_next wish pixels s octets o) ≤ length octets
  head_few octets None there = omega arith
  head_few octets (Some d) there = (let h = there d refl in result_few octets d.octets d.result h.enough h.most h.fits)

  end_stays : (g : Geometry) (octets more : List ℕ) → Stays (end_next s g octets) (end_next s g (octets ++ more))
  end_stays g [] more = inl (Ok g, refl)
  end_stays g (octet ∷ octets) more = inr refl

  end_few : (g : Geometry) (octets : List ℕ) → needed s (end_next s g octets) ≤ length octets
  end_few g [] = omega arith
  end_few g (octet ∷ octets) = omega arith

  pub next_stays : (octets more : List ℕ) → Stays (next_in wish pixels s octets) (next_in wish pixels s (octets ++ more))
  next_stays octets more = by s.ended
    where
      by : (ended : Option Geometry) → Stays (next_by wish pixels s octets ended) (next_by wish pixels s (octets ++ more) ended)
      by None =
          head_stays octets more (bare_head_in s.before octets) (bare_head_in s.before (octets ++ more)) (heads s.before octets)
          (λ d e. (heads s.before octets d e).stays more)
      by (Some g) = end_stays g octets more

  pub next_few : (octets : List ℕ) → needed s (next_in wish pixels s octets) ≤ length octets
  next_few octets = by s.ended
    where
      by : (ended : Option Geometry) → needed s (next_by wish pixels s octets ended) ≤ length octets
      by None = head_few octets (bare_head_in s.before octets) (heads s.before octets)
      by (Some g) = end_few g octets

  pub text_most : (octets : List ℕ) (head : SegmentHead) (n : ℕ) (w : List (List ℤ)) → next_in wish pixels s octets ≡ text head n w → n ≤ length octets
  text_most octets head n w e = (let few = next_few octets in let same = ap (needed s) e in omega (arith, few, same))

  -- a text puts the same parts in force, if more octets follow
  pub force_stays : (octets more : List ℕ) (head : SegmentHead) (n : ℕ) (w : List (List ℤ)) → next_in wish pixels s octets ≡ text head n w →
      parts_after s.before (octets ++ more) ≡ parts_after s.before octets
  force_stays octets more head n w e = by s.ended e
    where
      not_text : (ending : Ending) → ends ending ≡ text head n w → ⊥
      not_text ending e = cc

      by_result : (d : HeadDecided) (result : Result SegmentHead HeadFault) → HeadEndsThere s.before octets d → d.result ≡ result →
          by_head wish pixels s octets d.octets result ≡ text head n w →
          parts_after s.before (octets ++ more) ≡ parts_after s.before octets
      by_result d (Err fault) there so e = absurd (not_text _ e)
      by_result d (Ok h) there so e = there.force h so more

      by_decided : (o : Option HeadDecided) → ((d : HeadDecided) → o ≡ Some d → HeadEndsThere s.before octets d) →
          head_next wish pixels s octets o ≡ text head n w → parts_after s.before (octets ++ more) ≡ parts_after s.before octets
      by_decided None there e = absurd (not_text _ e)
      by_decided (Some d) there e = by_result d d.result (there d refl) refl e

      at_end : (g : Geometry) (l : List ℕ) → end_next s g l ≡ text head n w → ⊥
      at_end g [] e = not_text _ e
      at_end g (x ∷ l) e = not_text _ e

      by : (ended : Option Geometry) → next_by wish pixels s octets ended ≡ text head n w → parts_after s.before (octets ++ more) ≡ parts_after s.before octets
      by None e = by_decided (bare_head_in s.before octets) (heads s.before octets) e
      by (Some g) e = absurd (at_end g octets e)

  -- ---- fewer octets

  -- fewer octets than it needs are not enough
  pub fewer_open : (octets : List ℕ) (n : ℕ) → n < needed s (next_in wish pixels s octets) → Opens (next_in wish pixels s (take n octets))
  fewer_open octets n lt =
      let parts = take-append-drop n octets in
      let all = next_few octets in
      elim (next_stays (take n octets) (drop n octets)) [
        | inl opened ↦ opened
        | inr same ↦
            let few = next_few (take n octets) in
            let long = length-take-le n octets (omega (arith, lt, all)) in
            let here = ap (needed s) (same ∙ ap (next_in wish pixels s) parts) in
            absurd (omega (arith, few, long, here, lt))
      ]

  -- if more are needed, they are with fewer octets too
  pub open_before : (octets : List ℕ) (n : ℕ) → Opens (next_in wish pixels s octets) → Opens (next_in wish pixels s (take n octets))
  open_before octets n opened =
      let parts = take-append-drop n octets in
      elim (next_stays (take n octets) (drop n octets)) [
        | inl before ↦ before
        | inr same ↦ (opened.0, same ∙ ap (next_in wish pixels s) parts ∙ opened.1)
      ]

  -- no octet decides nothing
  pub none_opens : Opens (next_in wish pixels s [])
  none_opens = by s.ended
    where
      by_head : (o : Option HeadDecided) → ((d : HeadDecided) → o ≡ Some d → HeadEndsThere s.before [] d) → Opens (head_next wish pixels s [] o)
      by_head None there = (_, refl)
      by_head (Some d) there = (let h = there d refl in let least = h.least in let enough = h.enough in absurd (omega (arith, least, enough)))

      by : (ended : Option Geometry) → Opens (next_by wish pixels s [] ended)
      by None = by_head (bare_head_in s.before []) (heads s.before [])
      by (Some g) = (Ok g, refl)

  -- what is not open stays
  pub text_stays : (octets more : List ℕ) (head : SegmentHead) (n : ℕ) (w : List (List ℤ)) → next_in wish pixels s octets ≡ text head n w →
      next_in wish pixels s (octets ++ more) ≡ text head n w
  text_stays octets more head n w e = elim (next_stays octets more) [
    | inl opened ↦ absurd (not_open head n w opened.0 (sym e ∙ opened.1))
    | inr same ↦ sym same ∙ e
  ]
    where
      not_open : (head : SegmentHead) (n : ℕ) (w : List (List ℤ)) (r : Result Geometry BareFault) → text head n w ≡ ends (needs_more r) → ⊥
      not_open head n w r e = cc

  pub stop_stays : (octets more : List ℕ) (fault : BareFault) (n : ℕ) → next_in wish pixels s octets ≡ ends (stops fault n) →
      next_in wish pixels s (octets ++ more) ≡ ends (stops fault n)
  stop_stays octets more fault n e = elim (next_stays octets more) [
    | inl opened ↦ absurd (not_open fault n opened.0 (sym e ∙ opened.1))
    | inr same ↦ sym same ∙ e
  ]
    where
      not_open : (fault : BareFault) (n : ℕ) (r : Result Geometry BareFault) → ends (stops fault n) ≡ ends (needs_more r) → ⊥
      not_open fault n r e = cc
