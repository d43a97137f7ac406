-- What was decoded of octets in memory.
use Rattle.std.proofs.Common.{◌≡◌, ◌-◌, ℕ, ℤ, List, [], ◌++◌, length, take, drop, sym, ap, subst, ◌∙◌, arith, Result, Ok, Err, MatchResult}
use Rattle.std.proofs.lemmas.List.{append-nil, take_rest}
use Rattle.bit_pipe.specs.declared.slice_in.SliceIn.{SliceIn}
use Rattle.bit_pipe.specs.declared.fault.Part.{Part}
use Rattle.bit_pipe.specs.Streams.{octets_left, slice_source}
use Rattle.item_defs.specs.Items.{bad_option, bad_delta, bad_depth, false_flag}
use Rattle.base_122.specs.Profile.{profile}
use Rattle.wave_defs.specs.Held.{blocks_in}
use Rattle.segment_defs.specs.declared.head.SegmentHead.{SegmentHead}
use Rattle.segment_defs.specs.TextWish.{unrestored}
use Rattle.segment_defs.specs.Outcomes.{at_item, short_segment, overlong}
use Rattle.segment_code.specs.declared.fault.SegmentFault.{SegmentFault}
use Rattle.segment_code.specs.declared.fault.SegmentFault.TheVariants.{BadOption, BadDelta, BadDepth, FalseFlag, ShortSegment, Overlong, BrokenSegment}
use Rattle.segment_code.specs.declared.fault.SegmentFault.TheVariants.{ReadFault, LongInput}
use Rattle.segment_code.specs.Decoded.{DecodesSegment}
use Rattle.segment_code.specs.Laws.{EndsSay}
use Rattle.crate_examples.specs.Texts.{HoldsBlocks, IsNamed, RefusedFor}

-- what is left of a text from a place on
pub rest_is : (text octets : List ℕ) (from place : ℕ) → octets ≡ take (length text - from) (drop from text) → from ≡ place → octets ≡ drop place text
rest_is text octets from place is at = is ∙ take_rest text from ∙ ap (λ n. drop n text) at

-- at the end of a slice all its octets were read
all_came : {octets left rest : List ℕ} → rest ≡ octets ++ left → left ≡ [] → octets ≡ rest
all_came {octets = octets} came none = sym (append-nil octets) ∙ ap (λ l. octets ++ l) (sym none) ∙ sym came

module _ (head : SegmentHead) (says : EndsSay (unrestored profile) head) where
  pub read_all : (rest : List ℕ) (result : Result Part SegmentFault) (old new : SliceIn) (blocks : List ℤ) → octets_left old ≡ rest →
      DecodesSegment slice_source (unrestored profile) head result old new blocks →
      MatchResult result (λ part. HoldsBlocks head rest blocks part) (RefusedFor head rest)
  read_all rest (Ok part) old new blocks is d =
      subst (λ o. HoldsBlocks head o blocks part) (all_came (sym is ∙ d.came.0) d.ends.1.0) (says.given d.octets part (blocks_in blocks) d.ends.0, d.ends.0)
  read_all rest (Err BadOption) old new blocks is d =
      subst (λ o. IsNamed head o (at_item bad_option)) (sym d.came.0 ∙ is) (says.refused d.octets (octets_left new) bad_option d.ends)
  read_all rest (Err BadDelta) old new blocks is d =
      subst (λ o. IsNamed head o (at_item bad_delta)) (sym d.came.0 ∙ is) (says.refused d.octets (octets_left new) bad_delta d.ends)
  read_all rest (Err BadDepth) old new blocks is d =
      subst (λ o. IsNamed head o (at_item bad_depth)) (sym d.came.0 ∙ is) (says.refused d.octets (octets_left new) bad_depth d.ends)
  read_all rest (Err FalseFlag) old new blocks is d =
      subst (λ o. IsNamed head o (at_item false_flag)) (sym d.came.0 ∙ is) (says.refused d.octets (octets_left new) false_flag d.ends)
  read_all rest (Err ShortSegment) old new blocks is d =
      subst (λ o. IsNamed head o short_segment) (all_came (sym is ∙ d.came.0) d.ends.1.0) (says.short d.octets d.ends.0)
  read_all rest (Err Overlong) old new blocks is d =
      subst (λ o. IsNamed head o overlong) (sym d.came.0 ∙ is) (says.overruns d.octets (octets_left new) d.ends)
  read_all rest (Err BrokenSegment) old new blocks is d = let no = d.ends.1.1 in absurd cc
  read_all rest (Err ReadFault) old new blocks is d = let no = d.ends.1 in absurd (omega (arith, no))
  read_all rest (Err LongInput) old new blocks is d = let no = d.ends.1.1 in absurd cc
