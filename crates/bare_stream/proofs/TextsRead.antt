-- The text of the next segment is read, or a decoder ends in it.
use Rattle.std.proofs.Common.{◌≡◌, ◌≤◌, ◌+◌, ℕ, ℤ, List, [], ◌++◌, length, refl, sym, ap, ◌∙◌, subst, arith, append_assoc, length-append}
use Rattle.std.proofs.Common.{unwrap_or, Result, Ok, Err}
use Rattle.port_122.specs.Outside.{Outside}
use Rattle.base_122.specs.declared.wish.DecodeWish.{DecodeWish}
use Rattle.segment_defs.specs.TextWish.{text_wish}
use Rattle.item_defs.specs.Items.{Refusal, bad_option, bad_delta, bad_depth, false_flag}
use Rattle.wave_defs.specs.Held.{blocks_in}
use Rattle.bit_pipe.specs.declared.fault.Part.{Part}
use Rattle.segment_defs.specs.declared.head.SegmentHead.{SegmentHead}
use Rattle.segment_code.specs.DecodedItems.{DecodesItems}
use Rattle.segment_code.specs.TextAnswers.{gives, refuses, Decides, NeedsMore}
use Rattle.segment_code.specs.declared.fault.SegmentFault.{SegmentFault}
use Rattle.segment_code.specs.declared.fault.SegmentFault.TheVariants as faults
use Rattle.bare_text.specs.declared.parts.PartsInForce.{PartsInForce}
use Rattle.bare_text.specs.declared.read.BareHead.{BareHead}
use Rattle.bare_text.specs.InForce.{parts_after}
use Rattle.bare_stream.specs.declared.input.PortIn.{PortIn}
use Rattle.bare_stream.specs.declared.walk.Walk.{Walk}
use Rattle.bare_stream.specs.declared.fault.BareCause.TheVariants.{Short}
use Rattle.bare_stream.specs.declared.fault.BareFault.{BareFault}
use Rattle.bare_stream.specs.declared.fault.BareFault.TheVariants.{Refused}
use Rattle.bare_stream.specs.Inputs.{source_of}
use Rattle.bare_stream.specs.Pictures.{pixels_at, shape_with}
use Rattle.bare_stream.specs.StreamRead.{needs_more, stops, Segments, text, ends, cause_of, next_in}
use Rattle.bare_stream.specs.Decoded.{IfKnown, DecodesBare}
use Rattle.bare_stream.specs.Heads.{AgreesWith, FaultOf}
use Rattle.bare_stream.specs.Reads.{SegmentsRead, HasRead, InForceAfter, ShowsRead, segments_of, size_of}
use Rattle.bare_stream.specs.Walks.{IsAt, IsNext, IsHeadOf, wish_in}
use Rattle.picture_rows.specs.Pictures.{picture_state}
use Rattle.bare_stream.proofs.ReadsOn.{read_on, read_on-gave, gave_known}
use Rattle.bare_stream.proofs.NextHeads.{first_is}
use Rattle.bare_stream.proofs.NextOf.{next_text, next_item, next_cut}
use Rattle.bare_stream.proofs.NextReads.{Opens}
use Rattle.bare_stream.proofs.Endings.{ended_by, ended_plainly, failed, was_long, was_broken}

abbrev no_error : SegmentFault → Result Part SegmentFault
no_error f = Err f

module _ {X : Type 0} (outside : X → Outside) (wish : DecodeWish) (start : Outside) (r : SegmentsRead) (prefix : List ℕ) (s t : PortIn X) (w : Walk)
    (before : PartsInForce) (read : BareHead) (at : IsAt outside wish start r prefix s w)
    (head : IfKnown start (λ input. IsHeadOf wish r before w.parts prefix read)) (next : IsNext w read) where
  abbrev segments : Segments
  segments = segments_of r before

  reaches : InForceAfter wish start r before
  reaches input if_known = (head input if_known).reaches

  same_index : w.index ≡ length r.blocks
  same_index = at.index ∙ at.read.same

  -- the head agrees with the first one, and has few pixels
  module _ (starts : r.texts ≡ [] → read.head ≡ r.first) where
    abbrev first : SegmentHead
    first = unwrap_or segments.first read.head

    same_first : w.first ≡ first
    same_first = sym at.first ∙ sym (first_is r.first r.texts read.head starts)

    agrees : AgreesWith first (length r.blocks) read.head
    agrees = subst (λ n. AgreesWith first n read.head) same_index (subst (λ h. AgreesWith h w.index read.head) same_first next.agrees)

    few : pixels_at first (length r.blocks) read.head ≤ wish.pixels
    few = subst (λ p. pixels_at first (length r.blocks) read.head ≤ p) at.pixels (subst (λ n. pixels_at first n read.head ≤ w.pixels) same_index
        (subst (λ h. pixels_at h w.index read.head ≤ w.pixels) same_first next.few))

  -- ---- the octets after the head

  module _ {result : Result Part SegmentFault} {cells : List ℤ} (x : DecodesItems (source_of outside)
      (text_wish wish) read.head read.size result s t cells) where
    abbrev gave : List ℕ
    gave = x.went.gave

    abbrev all : List ℕ
    all = prefix ++ gave

    abbrev now_read : HasRead outside wish start r all t
    now_read = read_on outside wish start r prefix s t at.read x.went

    is_gave : IfKnown start (λ input. x.octets ≡ gave)
    is_gave = gave_known outside wish start r prefix s t at.read x.went x.octets x.came

    -- what is decided of the octets is so of those that were given
    moved : (P : ℕ → List ℕ → Type 0) → P read.size x.octets → IfKnown start (λ input. P (length prefix) gave)
    moved P p input if_known = subst (λ n. P n gave) (head input if_known).size (subst (P read.size) (is_gave input if_known) p)

    size_all : size_of r + (length prefix + length gave) ≡ size_of r + length all
    size_all = omega (arith, length-append prefix gave)

    item_is : (name : Refusal) → Decides (text_wish wish) read.head read.size x.octets (refuses name) →
        IfKnown start (λ input. next_in (text_wish wish) wish.pixels segments all ≡ ends (stops (Refused w.index (cause_of name)) (size_of r + length all)))
    item_is name decides input if_known =
        let h = head input if_known in
        next_item at.laws.heads (text_wish wish) wish.pixels segments at.going prefix read.head h.head (agrees h.starts) (few h.starts) gave name
        (moved (λ n l. Decides (text_wish wish) read.head n l (refuses name)) decides input if_known)
        ∙ ap (λ n. ends (stops (Refused n (cause_of name)) (size_of r + (length prefix + length gave)))) (sym same_index)
        ∙ ap (λ n. ends (stops (Refused w.index (cause_of name)) n)) size_all

    cut_is : NeedsMore (text_wish wish) read.head read.size x.octets →
        IfKnown start (λ input. next_in (text_wish wish) wish.pixels segments all ≡ ends (needs_more (Err (Refused w.index Short))))
    cut_is needs input if_known =
        let h = head input if_known in
        next_cut at.laws.heads (text_wish wish) wish.pixels segments at.going prefix read.head h.head (agrees h.starts) (few h.starts) gave
        (moved (λ n l. NeedsMore (text_wish wish) read.head n l) needs input if_known)
        ∙ ap (λ n. ends (needs_more (Err (Refused n Short)))) (sym same_index)

    opens : NeedsMore (text_wish wish) read.head read.size x.octets → IfKnown start (λ input. Opens (next_in (text_wish wish) wish.pixels segments all))
    opens needs input if_known = (_, cut_is needs input if_known)

    -- an item is refused
    refused_by : (name : Refusal) → Decides (text_wish wish) read.head read.size x.octets (refuses name) →
        DecodesBare wish start (outside t.port.now) (Err (Refused w.index (cause_of name)))
    refused_by name decides =
        ended_by wish at.laws outside start r before all t now_read reaches (Refused w.index (cause_of name)) (size_of r + length all)
        (item_is name decides) refl tt (λ input a. a)

  abbrev Ended : BareFault → Type 0
  Ended fault = DecodesBare wish start (outside t.port.now) (Err fault)

  -- the items were not read
  pub items_faulted : (cells : List ℤ) (f : SegmentFault) (fault : BareFault) →
      DecodesItems (source_of outside) (text_wish wish) read.head read.size (no_error f)
      s t cells → FaultOf w.index f fault → Ended fault
  items_faulted cells faults.BadOption fault x e = subst Ended (sym e) (refused_by x bad_option x.ends)
  items_faulted cells faults.BadDelta fault x e = subst Ended (sym e) (refused_by x bad_delta x.ends)
  items_faulted cells faults.BadDepth fault x e = subst Ended (sym e) (refused_by x bad_depth x.ends)
  items_faulted cells faults.FalseFlag fault x e = subst Ended (sym e) (refused_by x false_flag x.ends)
  items_faulted cells faults.ShortSegment fault x e =
      subst Ended (sym e) (ended_plainly wish at.laws outside start r before (all x) t (now_read x) reaches (opens x x.ends.0) (Err (Refused w.index Short))
      (cut_is x x.ends.0) x.ends.1 tt (λ input a. a))
  items_faulted cells faults.Overlong fault x e = absurd x.ends
  items_faulted cells faults.BrokenSegment fault x e =
      subst Ended (sym e) (was_broken wish at.laws outside start r before (all x) t (now_read x) reaches (opens x x.ends.0) x.ends.1)
  items_faulted cells faults.ReadFault fault x e = subst Ended (sym e) (failed wish at.laws outside start r before (all x) t (now_read x) reaches
      (opens x x.ends.0) s x.ends.1)
  items_faulted cells faults.LongInput fault x e = subst Ended (sym e) (was_long wish at.laws outside start r before (all x) t (now_read x) reaches
      (opens x x.ends.0) x.ends.1)

  -- ---- the text is read

  module _ (cells : List ℤ) (part : Part) (x : DecodesItems (source_of outside) (text_wish wish) read.head read.size (Ok part) s t cells) where
    pub text_at : (v : Walk) → v.first ≡ w.first → v.index ≡ w.index → v.pixels ≡ w.pixels → wish_in v ≡ wish_in w → v.picture ≡ w.picture →
        IsAt outside wish start r (prefix ++ x.went.gave) t v
    text_at v first index pixels wished picture = record {
      laws = at.laws;
      read = read_on outside wish start r prefix s t at.read x.went;
      going = at.going;
      first = at.first ∙ sym first;
      index = index ∙ at.index;
      pixels = pixels ∙ at.pixels;
      wished = wished ∙ at.wished;
      shows = subst (λ p. ShowsRead (shape_with r.first 262144) r (read_on outside wish start r prefix s t at.read x.went).gave (picture_state p)) (sym picture)
          (subst (λ l. ShowsRead (shape_with r.first 262144) r l (picture_state w.picture))
          (sym (read_on-gave outside wish start r prefix s t at.read x.went)) at.shows);
    }

    pub text_is : IfKnown start (λ input. next_in (text_wish wish) wish.pixels segments (prefix ++ x.went.gave) ≡ text read.head (length
        (prefix ++ x.went.gave))
        (blocks_in cells))
    text_is input if_known =
        let h = head input if_known in
        let decides = moved x (λ n l. Decides (text_wish wish) read.head n l (gives part (blocks_in cells))) x.ends input if_known in
        next_text at.laws.heads (text_wish wish) wish.pixels segments at.going prefix read.head h.head (agrees h.starts) (few h.starts) x.went.gave part
        (blocks_in cells) decides
        ∙ ap (λ n. text read.head n (blocks_in cells)) (sym (length-append prefix x.went.gave))

    pub text_force : IfKnown start (λ input. (more : List ℕ) → parts_after before ((prefix ++ x.went.gave) ++ more) ≡ w.parts)
    text_force input if_known more =
        let h = head input if_known in
        ap (parts_after before) (append_assoc prefix x.went.gave more)
        ∙ (at.laws.heads before prefix (record { result = Ok read.head; octets = length prefix }) h.head).force read.head refl (x.went.gave ++ more)
        ∙ sym h.force
