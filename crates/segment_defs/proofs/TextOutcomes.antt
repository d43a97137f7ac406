-- Each text holds some values or is refused by one name.
use Rattle.std.proofs.Common.{◌≡◌, ◌⊎◌, sym, ◌∙◌, refl, inl, inr}
use Rattle.std.specs.Prelude.{Ok, Err}
use Rattle.segment_defs.specs.Outcomes.{SegmentRefusal, Holds, Refused}
use Rattle.segment_defs.specs.TextOutcome.{Answer, text_outcome}
use Rattle.segment_defs.specs.TextLaws.{TextReads, TextsHaveOutcomes}
use Rattle.segment_defs.proofs.TextReads.{not_both, same_name, texts_are_read}

pub texts_have_outcomes : TextsHaveOutcomes
texts_have_outcomes book sound head rest is_head = record {
  some = by (text_outcome book head rest) refl;
  one_name = λ a b p q. same_name a b (sym (reads.refuses a p) ∙ reads.refuses b q);
  not_both = λ name h p. (let r = reads.holds h in not_both r.0 name (sym r.1 ∙ reads.refuses name p));
}
  where
    reads : TextReads book head rest
    reads = texts_are_read book sound head rest is_head

    by : (answer : Answer) → text_outcome book head rest ≡ answer →
        Holds book head rest ⊎ ((name : SegmentRefusal) × Refused book head rest name)
    by (Ok v) e = inl (reads.held v e)
    by (Err name) e = inr (name, reads.refused name e)
