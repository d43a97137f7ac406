-- A text's octets, and one call for an octet after them.
use Rattle.std.proofs.Common.{◌≤◌, inl, inr, List, [], ◌∷◌, ◌++◌, refl, subst, arith, ℤ, ℕ, Result, None, Some, Ok, Err, append-nil}
use Rattle.item_defs.proofs.OctetBits.{octets_both, octet_alone}
use Rattle.wave_defs.specs.Held.{blocks_in}
use Rattle.bit_pipe.specs.declared.fault.InFault.{InFault}
use Rattle.bit_pipe.specs.declared.fault.InFault.TheVariants as inputs
use Rattle.bit_pipe.specs.declared.fault.Part.{Part}
use Rattle.bit_pipe.specs.Sources.{SourceOf, Arrives, GivesOctet, Fails}
use Rattle.bit_pipe.proofs.Giving.{rose_since}
use Rattle.bit_pipe.proofs.Taking.{arrives_then}
use Rattle.segment_defs.specs.declared.head.SegmentHead.{SegmentHead}
use Rattle.segment_defs.specs.TextWish.{TextWish}
use Rattle.segment_defs.specs.Head.{head_length}
use Rattle.segment_code.specs.declared.fault.SegmentFault.{SegmentFault}
use Rattle.segment_code.specs.declared.fault.SegmentFault.TheVariants.{BadOption, BadDelta, BadDepth, FalseFlag, ShortSegment, Overlong, BrokenSegment}
use Rattle.segment_code.specs.declared.fault.SegmentFault.TheVariants.{ReadFault, LongInput}
use Rattle.segment_code.specs.Faults.{of_input}
use Rattle.segment_code.specs.Decoded.{IsText, EndsSegment, DecodesSegment}
use Rattle.segment_code.specs.DecodedItems.{EndsItems, DecodesItems}

module _ {I : Type 0} (k : SourceOf I) (wish : TextWish) (head : SegmentHead) (old mid new : I) (blocks : List ℤ) where
  pub fault_joined : (fault : SegmentFault) → DecodesItems k wish head (head_length head) (Err fault) old mid blocks → DecodesSegment k wish head
      (Err fault) old mid blocks
  fault_joined fault p = record { octets = p.octets; small = p.small; came = p.came; faults = p.faults; went = p.went; ends = by_fault fault p.ends }
    where
      by_fault : (fault : SegmentFault) → EndsItems k wish head (head_length head) (Err fault) p.octets old mid blocks → EndsSegment k wish head
          (Err fault) p.octets old mid blocks
      by_fault BadOption e = e
      by_fault BadDelta e = e
      by_fault BadDepth e = e
      by_fault FalseFlag e = e
      by_fault ShortSegment e = e
      by_fault Overlong e = absurd e
      by_fault BrokenSegment e = (inl e.0, e.1)
      by_fault LongInput e = (inl e.0, e.1)
      by_fault ReadFault e = (inl e.0, e.1)

  module _ {part : Part} (p : DecodesItems k wish head (head_length head) (Ok part) old mid blocks) where
    text : IsText wish head p.octets
    text = record { part = part; blocks = blocks_in blocks; is = p.ends }

    none_more : {r : Result Part SegmentFault} → Arrives (k.tail mid) (k.tail new) [] → k.faults mid ≤ k.faults new → k.Went mid new →
        EndsSegment k wish head r p.octets old new blocks → DecodesSegment k wish head r old new blocks
    none_more came faults went ends = record {
      octets = p.octets;
      small = p.small;
      came = subst (Arrives (k.tail old) (k.tail new)) (append-nil p.octets) (arrives_then (k.tail old) (k.tail mid) (k.tail new) p.octets [] p.came came);
      faults = omega (arith, p.faults, faults);
      went = k.went_both old mid new p.went went;
      ends = ends;
    }

    pub whole_joined : GivesOctet k (Ok None) mid new → DecodesSegment k wish head (Ok part) old new blocks
    whole_joined q = none_more q.ends.0 q.faults q.went (p.ends, q.ends.1)

    pub failed_joined : (e : InFault) → GivesOctet k (Err e) mid new → DecodesSegment k wish head (Err (of_input e)) old new blocks
    failed_joined e q = none_more q.ends.0 q.faults q.went (cause e q.ends.1)
      where
        cause : (e : InFault) → Fails k e mid new → EndsSegment k wish head (Err (of_input e)) p.octets old new blocks
        cause inputs.ReadFault f = (inr text, rose_since (k.faults old) (k.faults mid) (k.faults new) p.faults f)
        cause inputs.LongInput f = (inr text, f)
        cause inputs.Broken f = (inr text, f)

    pub over_joined : (octet : ℕ) → GivesOctet k (Ok (Some octet)) mid new → DecodesSegment k wish head (Err Overlong) old new blocks
    over_joined octet q = record {
      octets = p.octets ++ octet ∷ [];
      small = octets_both p.octets (octet ∷ []) p.small (octet_alone octet q.ends.1);
      came = arrives_then (k.tail old) (k.tail mid) (k.tail new) p.octets (octet ∷ []) p.came q.ends.0;
      faults = omega (arith, p.faults, q.faults);
      went = k.went_both old mid new p.went q.went;
      ends = record { prefix = p.octets; next = octet; both = refl; text = text };
    }
