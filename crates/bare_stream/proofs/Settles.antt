-- The read calls for octets that were read: they decide nothing before the last of them.
use Rattle.std.proofs.Common.{◌≡◌, ◌≤◌, ◌<◌, ◌+◌, ◌-◌, ℕ, ℤ, inl, inr, Bool, List, [], ◌∷◌, ◌++◌, length, take, refl, sym, ap, subst, ◌∙◌}
use Rattle.std.proofs.Common.{arith, length-append, Option, None}
use Rattle.std.specs.List.{concat}
use Rattle.std.proofs.lemmas.List.{append-nil, nil_from_length, take-append-le, take_at}
use Rattle.std.proofs.lemmas.Bool.Decides.{nat_tests}
use Rattle.std.proofs.Math.Nat.{zero-div}
use Rattle.std.proofs.Math.Seq.{take-append-add}
use Rattle.port_122.specs.Outside.{Outside, Exchange, NoRead}
use Rattle.port_122.proofs.Stretches.{since_out, since_weaker}
use Rattle.base_122.specs.declared.wish.DecodeWish.{DecodeWish}
use Rattle.segment_defs.specs.TextWish.{text_wish}
use Rattle.segment_defs.specs.declared.head.SegmentHead.{SegmentHead}
use Rattle.bare_text.specs.declared.parts.PartsInForce.{PartsInForce}
use Rattle.bare_stream.specs.declared.input.PortIn.{PortIn}
use Rattle.bare_stream.specs.Input.{waiting}
use Rattle.bare_stream.specs.Pictures.{open_rows}
use Rattle.bare_stream.specs.StreamRead.{needs_more, Segments, next_in}
use Rattle.bare_stream.specs.Decoded.{IfKnown, IsOpen, AsksBare, read_by, rows_of}
use Rattle.bare_stream.specs.Reads.{HasLaws, SegmentsRead, HasRead, AskedBefore, AskedNow, AsksIn, Reaches, InForceAfter, rows_read, segments_of}
use Rattle.bare_stream.specs.Reads.{size_of}
use Rattle.bare_stream.proofs.NextReads.{Opens, none_opens}
use Rattle.bare_stream.proofs.ReadLaws.{read_ends}
use Rattle.bare_stream.proofs.ReadsOn.{before_longer}

-- ---- rows

pub no_open_rows : (first : SegmentHead) → open_rows first [] ≡ []
unfolding open_rows
no_open_rows first = grind (arith, nat_tests, zero-div)

no_blocks : (first : SegmentHead) (blocks : List (List (List ℤ))) → blocks ≡ [] → open_rows first blocks ≡ []
no_blocks first blocks e = ap (open_rows first) e ∙ no_open_rows first

pub rows_same : (r : SegmentsRead) (before : PartsInForce) → (r.texts ≡ [] → r.ended ≡ None) → length r.texts ≡ length r.blocks →
    rows_of (segments_of r before) ≡ rows_read r
rows_same r before some same = by r.texts refl
  where
    by : (texts : List (List ℕ)) → r.texts ≡ texts → rows_of (segments_of r before) ≡ rows_read r
    by [] e =
        let none : r.blocks ≡ [] = nil_from_length r.blocks (sym same ∙ ap length e) in
        let opened = some e in
        rw (e, opened) (sym (no_blocks r.first r.blocks none))
    by (t ∷ texts) e = rw e refl

-- ---- octets after some segments

-- fewer than the part that was given, or all of it
pub taken_part : (texts part more took : List ℕ) (i : ℕ) → took ≡ texts ++ (part ++ more) → length texts ≤ i → i ≤ length texts + length part →
    take i took ≡ texts ++ take (i - length texts) part
taken_part texts part more took i e low high =
    let n = i - length texts in
    let split : i ≡ length texts + n = omega (arith, low) in
    ap (take i) e ∙ ap (λ k. take k (texts ++ (part ++ more))) split ∙ take-append-add texts (part ++ more) n
    ∙ ap (λ l. texts ++ l) (take-append-le n part more (omega (arith, split, high)))

module _ (wish : DecodeWish) (laws : HasLaws wish) (r : SegmentsRead) (before : PartsInForce) (some : r.texts ≡ [] → r.ended ≡ None)
    (same : length r.texts ≡ length r.blocks) (reaches : Reaches wish r before) where
  abbrev s : Segments
  s = segments_of r before

  -- the octets of the segments and these, if more are needed
  pub open_with : (part octets rows : List ℕ) → Opens (next_in (text_wish wish) wish.pixels s part) → octets ≡ concat r.texts ++ part → rows ≡ rows_read r →
      IsOpen wish octets rows
  open_with part octets rows opened e given =
      let all = ap (read_by wish) e ∙ reaches part ∙ read_ends laws.heads laws.texts (text_wish wish) laws.sound wish.pixels s part
      (needs_more opened.0) opened.1 in
      record {
        at_end = opened.0;
        needs = ap (λ x. x.ending) all;
        rows = given ∙ sym (rows_same r before some same) ∙ ap (λ x. rows_of x.segments) (sym all);
      }

  pub open_none : (octets rows : List ℕ) → octets ≡ concat r.texts → rows ≡ rows_read r → IsOpen wish octets rows
  open_none octets rows e given = open_with [] octets rows (none_opens laws.heads laws.texts (text_wish wish) laws.sound wish.pixels s)
      (e ∙ sym (append-nil (concat r.texts))) given

module _ (wish : DecodeWish) (laws : HasLaws wish) {X : Type 0} (outside : X → Outside) (start : Outside) (r : SegmentsRead) (before : PartsInForce)
    (part : List ℕ) (t : PortIn X) (read : HasRead outside wish start r part t) (reaches : InForceAfter wish start r before)
    (opens : IfKnown start (λ input. (n : ℕ) → n < length part → Opens (next_in (text_wish wish) wish.pixels (segments_of r before) (take n part)))) where
  abbrev failed : Bool
  failed = t.failed

  abbrev left : Option (List ℕ)
  left = (outside t.port.now).rest

  taken : (i : ℕ) → size_of r ≤ i → i ≤ size_of r + length part → take i read.took ≡ concat r.texts ++ take (i - size_of r) part
  taken i low high = taken_part (concat r.texts) part (waiting t) read.took i read.octets low high

  all_given : (j : ℕ) → j ≡ length read.gave → take j read.gave ≡ rows_read r
  all_given j e = ap (λ n. take n read.gave) e ∙ take_all_of read.gave ∙ read.gave_is
    where
      take_all_of : (l : List ℕ) → take (length l) l ≡ l
      take_all_of l = (let e : take (length l) (l ++ []) ≡ l = take_at l [] (length l) refl in ap (take (length l)) (sym (append-nil l)) ∙ e)

  settled_now : (i j : ℕ) → IfKnown start (λ input. AskedNow r part read.took read.gave failed left i j → AskedBefore wish read.took read.gave failed left i j)
  settled_now i j input if_known (all, low, inl lt) =
      inl (open_with wish laws r before read.some read.same (reaches input if_known) (take (i - size_of r) part) (take i read.took) (take j read.gave)
      (opens input if_known (i - size_of r) (omega (arith, lt, low))) (taken i low (omega (arith, lt))) (all_given j all))
  settled_now i j input if_known (all, low, inr last) =
      let at : take (size_of r) read.took ≡ concat r.texts = ap (take (size_of r)) read.octets ∙ take_at (concat r.texts) (part ++ waiting t) (size_of r)
      refl in
      let opened = open_none wish laws r before read.some read.same (reaches input if_known) (take (size_of r) read.took) (take j read.gave) at
      (all_given j all) in
      inr (last, record { all = last.all; some = size_of r; rows = opened.rows })

  pub settled : (i j : ℕ) → AsksIn wish start r part read.took read.gave failed left i j → (i < wish.octets) × (j ≤ length read.gave)
      × IfKnown start (λ input. AskedBefore wish read.took read.gave failed left i j)
  settled i j asks = (
    asks.0,
    asks.1,
    λ input if_known. elim (asks.2 input if_known) [
      | inl past ↦ past
      | inr now ↦ settled_now i j input if_known now
    ],
  )

  -- and if more was given then
  longer_rows : (more : List ℕ) (i j : ℕ) → j ≤ length read.gave → AskedBefore wish read.took read.gave failed left i j →
      AskedBefore wish read.took (read.gave ++ more) failed left i j
  longer_rows more i j le (inl opened) = inl (subst (λ l. IsOpen wish (take i read.took) l) (sym (take-append-le j read.gave more le)) opened)
  longer_rows more i j le (inr (last, none)) =
      inr (last, record { all = none.all; some = none.some; rows = take-append-le j read.gave more le ∙ none.rows })

  pub asks_all : Exchange start (outside t.port.now) read.took read.gave [] (AsksBare wish start read.took read.gave)
  asks_all = since_weaker read.since (λ i j le asks.
      let s = settled i j asks in
      (s.0, λ input if_known. elim (s.2 input if_known) [ inl opened ↦ inl opened | inr last ↦ inr last.1 ]))

  -- these octets were given then
  module _ (u : PortIn X) (more : List ℕ) (out : Exchange (outside t.port.now) (outside u.port.now) [] more [] NoRead) where
    pub asks_given : Exchange start (outside u.port.now) read.took (read.gave ++ more) [] (AsksBare wish start read.took (read.gave ++ more))
    asks_given = since_out (since_weaker read.since (λ i j le asks.
        let s = settled i j asks in
        (s.0, λ input if_known. elim (longer_rows more i j s.1 (s.2 input if_known)) [ inl opened ↦ inl opened | inr last ↦ inr last.1 ]))) out

    -- after the next segment
    pub asks_more : (r' : SegmentsRead) → u.failed ≡ t.failed → Exchange start (outside u.port.now) read.took (read.gave ++ more) []
        (AsksIn wish start r' [] read.took (read.gave ++ more) u.failed (outside u.port.now).rest)
    asks_more r' same = since_out (since_weaker read.since (λ i j le asks.
        let s = settled i j asks in (
          s.0,
          (let low = s.1 in let size = length-append read.gave more in omega (arith, low, size)),
          λ input if_known. inl (subst (λ l. AskedBefore wish l (read.gave ++ more) u.failed (outside u.port.now).rest i j) (append-nil read.took)
              (before_longer wish read.took [] (read.gave ++ more) failed u.failed left (outside u.port.now).rest i j le (λ f. (refl, same ∙ f)) out.rest
              (longer_rows more i j s.1 (s.2 input if_known)))),
        ))) out
