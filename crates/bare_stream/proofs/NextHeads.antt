-- The head of the next segment is read, or a decoder ends at it.
use Rattle.std.proofs.Common.{◌≡◌, ◌<◌, ◌+◌, ℕ, List, [], ◌∷◌, length, refl, sym, ap, ◌∙◌, subst, arith, inl, inr, None, Some, Result}
use Rattle.std.proofs.Common.{Ok, Err, unwrap_or, append-nil}
use Rattle.port_122.specs.Outside.{Outside}
use Rattle.base_122.specs.declared.wish.DecodeWish.{DecodeWish}
use Rattle.segment_defs.specs.TextWish.{text_wish}
use Rattle.segment_defs.specs.declared.head.SegmentHead.{SegmentHead}
use Rattle.segment_defs.specs.declared.fault.HeadFault.{HeadFault}
use Rattle.segment_defs.specs.declared.fault.HeadFault.TheVariants.{HeadShort}
use Rattle.segment_defs.specs.Reading.{first_refusal}
use Rattle.bare_text.specs.declared.parts.PartsInForce.{PartsInForce}
use Rattle.bare_text.specs.declared.read.BareHead.{BareHead}
use Rattle.bare_text.specs.declared.read.BareHeadFault.{BareHeadFault}
use Rattle.bare_text.specs.declared.read.BareHeadFault.TheVariants as head_faults
use Rattle.bare_text.specs.Agreement.{agreement_tests}
use Rattle.bare_text.specs.Taken.{DecidesHead, NeedsHead, EndsHead, ReadsHead}
use Rattle.bare_stream.specs.declared.input.PortIn.{PortIn}
use Rattle.bare_stream.specs.declared.fault.BareCause.TheVariants.{Head}
use Rattle.bare_stream.specs.declared.fault.BareFault.{BareFault}
use Rattle.bare_stream.specs.declared.fault.BareFault.TheVariants.{ReadFault, LongInput, TooManyPixels, Refused}
use Rattle.bare_stream.specs.Inputs.{source_of}
use Rattle.bare_stream.specs.Pictures.{pixels_at, shape_with}
use Rattle.bare_stream.specs.StreamRead.{needs_more, stops, Segments, ends, next_in}
use Rattle.bare_stream.specs.Decoded.{IfKnown, DecodesBare}
use Rattle.bare_stream.specs.Heads.{AgreesWith, TakesHead, ChecksHead}
use Rattle.bare_stream.specs.Reads.{HasLaws, SegmentsRead, HasRead, InForceAfter, ShowsRead, first_of, segments_of, size_of}
use Rattle.picture_rows.specs.Pictures.{picture_state}
use Rattle.bare_stream.specs.Walks.{IsAt, IsHeadOf}
use Rattle.bare_stream.specs.declared.walk.Walk.{Walk}
use Rattle.bare_stream.proofs.ReadsOn.{read_on, read_on-gave, gave_known}
use Rattle.bare_stream.proofs.NextOf.{next_short, next_refused, next_disagrees, next_many}
use Rattle.bare_stream.proofs.NextReads.{Opens}
use Rattle.bare_stream.proofs.Endings.{ended_by, ended_plainly, failed, was_long, was_broken}

-- the first head, or this one if it is the first
pub first_is : (first : SegmentHead) (texts : List (List ℕ)) (head : SegmentHead) → (texts ≡ [] → head ≡ first) → unwrap_or (first_of first texts) head ≡ first
first_is first [] head starts = starts refl
first_is first (t ∷ texts) head starts = refl

-- ---- the head is refused by itself, or the input ends

module _ {X : Type 0} (outside : X → Outside) (wish : DecodeWish) (laws : HasLaws wish) (start : Outside) (r : SegmentsRead) (s t : PortIn X)
    (before after : PartsInForce) (index : ℕ) (at : HasRead outside wish start r [] s)
    (going : r.ended ≡ None) (reaches : InForceAfter wish start r before) (is : index ≡ length r.texts) where
  abbrev segments : Segments
  segments = segments_of r before

  index_is : length r.blocks ≡ index
  index_is = sym at.same ∙ sym is

  module _ {result : Result BareHead BareHeadFault} (x : ReadsHead (source_of outside) before result s t after) where
    abbrev prefix : List ℕ
    prefix = x.went.gave

    abbrev read : HasRead outside wish start r prefix t
    read = read_on outside wish start r [] s t at x.went

    is_gave : IfKnown start (λ input. x.octets ≡ prefix)
    is_gave = gave_known outside wish start r [] s t at x.went x.octets x.came

    -- more octets are needed
    short_is : NeedsHead before x.octets → IfKnown start (λ input. next_in (text_wish wish) wish.pixels segments prefix ≡ ends
        (needs_more (Err (Refused index (Head (HeadShort (length prefix)))))))
    short_is needs input if_known =
        next_short laws.heads (text_wish wish) wish.pixels segments going prefix (subst (NeedsHead before) (is_gave input if_known) needs)
        ∙ ap (λ n. ends (needs_more (Err (Refused n (Head (HeadShort (length prefix))))))) index_is

    opens : NeedsHead before x.octets → IfKnown start (λ input. Opens (next_in (text_wish wish) wish.pixels segments prefix))
    opens needs input if_known = (_, short_is needs input if_known)

    refused_is : (fault : HeadFault) → DecidesHead before (Err fault) x.octets →
        IfKnown start (λ input. next_in (text_wish wish) wish.pixels segments prefix ≡ ends (stops (Refused index (Head fault)) (size_of r + length prefix)))
    refused_is fault decides input if_known =
        next_refused laws.heads (text_wish wish) wish.pixels segments going prefix fault (subst (DecidesHead before (Err fault))
        (is_gave input if_known) decides)
        ∙ ap (λ n. ends (stops (Refused n (Head fault)) (size_of r + length prefix))) index_is

    by_refusal : (fault : HeadFault) → DecidesHead before (Err fault) x.octets → DecodesBare wish start (outside t.port.now) (Err (Refused index (Head fault)))
    by_refusal fault decides =
        ended_by wish laws outside start r before prefix t read reaches (Refused index (Head fault)) (size_of r + length prefix) (refused_is fault decides)
        refl tt (λ input a. a)

  by_short : (count : ℕ) → (x : ReadsHead (source_of outside) before (Err (head_faults.Refused (HeadShort count))) s t after) →
      DecodesBare wish start (outside t.port.now) (Err (Refused index (Head (HeadShort count))))
  by_short count x =
      ended_plainly wish laws outside start r before (prefix x) t (read x) reaches (opens x x.ends.0) (Err (Refused index (Head (HeadShort count))))
      (λ input if_known. short_is x x.ends.0 input if_known ∙ ap (λ n. ends (needs_more (Err (Refused index (Head (HeadShort n))))))
      (ap length (sym (is_gave x input if_known)) ∙ sym x.ends.1))
      x.ends.2 tt (λ input a. a)

  refused_so : (fault : HeadFault) → ReadsHead (source_of outside) before (Err (head_faults.Refused fault)) s t after →
      DecodesBare wish start (outside t.port.now) (Err (Refused index (Head fault)))
  refused_so (HeadShort count) x = by_short count x
  refused_so other x = by_refusal x other x.ends

  -- the head was not read
  pub head_faulted : (fault : BareFault) → TakesHead (source_of outside) before index (Err fault) s t after →
      DecodesBare wish start (outside t.port.now) (Err fault)
  head_faulted ReadFault x = failed wish laws outside start r before (prefix x) t (read x) reaches (opens x x.ends.0) s x.ends.1
  head_faulted LongInput (inl x) = was_long wish laws outside start r before (prefix x) t (read x) reaches (opens x x.ends.0) x.ends.1
  head_faulted LongInput (inr x) = was_broken wish laws outside start r before (prefix x) t (read x) reaches (opens x x.ends.0) x.ends.1
  head_faulted (Refused i (Head fault)) x = subst (λ n. DecodesBare wish start (outside t.port.now) (Err (Refused n (Head fault)))) (sym x.0)
      (refused_so fault x.1)
  head_faulted other x = absurd x

-- ---- the head was read, and doesn't agree or reports too many pixels

module _ {X : Type 0} (outside : X → Outside) (wish : DecodeWish) (laws : HasLaws wish) (start : Outside) (r : SegmentsRead) (prefix : List ℕ) (t : PortIn X)
    (before : PartsInForce) (index : ℕ) (read : HasRead outside wish start r prefix t)
    (going : r.ended ≡ None) (reaches : InForceAfter wish start r before) (is : index ≡ length r.texts) (head : SegmentHead)
    (decides : IfKnown start (λ input. DecidesHead before (Ok head) prefix)) (starts : r.texts ≡ [] → head ≡ r.first) where
  abbrev those : Segments
  those = segments_of r before

  same_index : index ≡ length r.blocks
  same_index = is ∙ read.same

  same_first : r.first ≡ unwrap_or those.first head
  same_first = sym (first_is r.first r.texts head starts)

  -- what holds of the first head and the index
  moved : (P : SegmentHead → ℕ → Type 0) → P r.first index → P (unwrap_or those.first head) (length those.blocks)
  moved P p = subst (λ n. P (unwrap_or those.first head) n) same_index (subst (λ h. P h index) same_first p)

  pub check_faulted : (fault : BareFault) → ChecksHead wish.pixels r.first index head (Err fault) → DecodesBare wish start (outside t.port.now) (Err fault)
  check_faulted (TooManyPixels pixels) x =
      let so = moved (λ h n. AgreesWith h n head × (pixels ≡ pixels_at h n head) × (wish.pixels < pixels)) x in
      ended_by wish laws outside start r before prefix t read reaches (TooManyPixels pixels) (size_of r + length prefix)
      (λ input if_known.
      ap (next_in (text_wish wish) wish.pixels those) (sym (append-nil prefix))
      ∙ next_many laws.heads (text_wish wish) wish.pixels those going prefix head (decides input if_known) so.0 [] (subst (λ n. wish.pixels < n) so.1 so.2)
      ∙ ap (λ n. ends (stops (TooManyPixels n) (size_of r + length prefix))) (sym so.1))
      refl tt (λ input a. a)
  check_faulted (Refused i (Head fault)) x =
      let so = moved (λ h n. first_refusal (agreement_tests h n head) ≡ Some fault) x.1 in
      ended_by wish laws outside start r before prefix t read reaches (Refused i (Head fault)) (size_of r + length prefix)
      (λ input if_known.
      ap (next_in (text_wish wish) wish.pixels those) (sym (append-nil prefix))
      ∙ next_disagrees laws.heads (text_wish wish) wish.pixels those going prefix head (decides input if_known) [] fault so
      ∙ ap (λ n. ends (stops (Refused n (Head fault)) (size_of r + length prefix))) (sym same_index ∙ sym x.0))
      refl tt (λ input a. a)
  check_faulted other x = absurd x

-- ---- the head was read

module _ {X : Type 0} (outside : X → Outside) (wish : DecodeWish) (start : Outside) (r : SegmentsRead) (s t : PortIn X) (w : Walk) (after : PartsInForce)
    (at : IsAt outside wish start r [] s w) (reaches : InForceAfter wish start r w.parts) (read : BareHead)
    (reads : ReadsHead (source_of outside) w.parts (Ok read) s t after) where
  abbrev pub octets : List ℕ
  octets = reads.went.gave

  abbrev pub now_read : HasRead outside wish start r octets t
  now_read = read_on outside wish start r [] s t at.read reads.went

  pub now_at : (v : Walk) → v ≡ record w { parts = after } → IsAt outside wish start r octets t v
  now_at v e = subst (IsAt outside wish start r octets t) (sym e) (record {
    laws = at.laws;
    read = now_read;
    going = at.going;
    first = at.first;
    index = at.index;
    pixels = at.pixels;
    wished = at.wished;
    shows = subst (λ l. ShowsRead (shape_with r.first 262144) r l (picture_state w.picture))
        (sym (read_on-gave outside wish start r [] s t at.read reads.went)) at.shows;
  })

  head_known : IfKnown start (λ input. EndsHead (source_of outside) w.parts (Ok read) octets s t after)
  head_known input if_known = subst (λ l. EndsHead (source_of outside) w.parts (Ok read) l s t after)
      (gave_known outside wish start r [] s t at.read reads.went reads.octets reads.came input if_known) reads.ends

  not_first : 0 < w.index → r.texts ≡ [] → read.head ≡ r.first
  not_first later none = absurd (let index = at.index in let size = ap length none in omega (arith, later, index, size))

  pub is_head : 0 < w.index → IfKnown start (λ input. IsHeadOf wish r w.parts after octets read)
  is_head later input if_known =
      let h = head_known input if_known in
      record { reaches = reaches input if_known; head = h.0; size = h.1; force = h.2; starts = not_first later }

  pub next_faulted : 0 < w.index → (fault : BareFault) → ChecksHead w.pixels w.first w.index read.head (Err fault) →
      DecodesBare wish start (outside t.port.now) (Err fault)
  next_faulted later fault x =
      check_faulted outside wish at.laws start r octets t w.parts w.index now_read at.going reaches at.index read.head
      (λ input if_known. (head_known input if_known).0) (not_first later) fault
      (subst (λ p. ChecksHead p r.first w.index read.head (Err fault)) at.pixels (subst (λ h. ChecksHead w.pixels h w.index read.head (Err fault))
      (sym at.first) x))
