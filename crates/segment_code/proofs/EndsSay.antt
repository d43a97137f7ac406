-- What the octets that were taken of a text say of it.
use Rattle.std.proofs.Common.{◌≡◌, ℕ, ◌==◌, ◌<◌, Bool, true, false, if◌then◌else◌, List, [], ◌∷◌, ◌++◌, length, refl, sym, ap, ◌∙◌, arith, Option, Some}
use Rattle.std.proofs.Common.{None, Ok, Err, length-append, append_assoc}
use Rattle.std.proofs.lemmas.Bool.Decides.{nat_tests}
use Rattle.item_defs.specs.Items.{Refusal}
use Rattle.bit_pipe.specs.declared.fault.Part.{Part}
use Rattle.segment_defs.specs.declared.head.SegmentHead.{SegmentHead}
use Rattle.segment_defs.specs.TextWish.{TextWish, segment_read, text_read}
use Rattle.segment_defs.specs.Head.{IsHead, head_length}
use Rattle.item_defs.specs.Following.{SaysWhat}
use Rattle.segment_defs.specs.Outcomes.{at_item, short_segment, overlong}
use Rattle.segment_defs.specs.TextOutcome.{Answer}
use Rattle.segment_defs.specs.TextLaws.{SegmentsAreRead}
use Rattle.segment_code.specs.TextAnswers.{TextAnswer, gives, refuses, Decided, answer_in, Decides}
use Rattle.segment_code.specs.Laws.{by_answer, with_end, EndsSay, TextsEndSo}
use Rattle.segment_code.proofs.AnswerLaws.{goes_on}
use Rattle.segment_code.proofs.Deciding.{Blocks}
use Rattle.segment_code.proofs.OutcomesAgree.{outcomes_agree}

all_there : (n : ℕ) → (n == n) ≡ true
all_there n = grind (arith, nat_tests)

-- a text of this number of octets that holds blocks
given_is : (octets count : ℕ) (a : TextAnswer) (w : Blocks) → by_answer octets count a ≡ Ok w → (count ≡ octets) × ((part : Part) × (a ≡ gives part w))
given_is octets count (refuses name) w e = absurd (clash name w e)
  where
    clash : (name : Refusal) (w : Blocks) → ◌≡◌ {A = Answer} (Err (at_item name)) (Ok w) → ⊥
    clash name w e = cc
given_is octets count (gives part v) w e = by (count == octets) refl e
  where
    same : (v w : Blocks) → ◌≡◌ {A = Answer} (Ok v) (Ok w) → v ≡ w
    same v w e = cc

    clash : (w : Blocks) → ◌≡◌ {A = Answer} (Err overlong) (Ok w) → ⊥
    clash w e = cc

    by : (b : Bool) → (count == octets) ≡ b → (if b then Ok v else Err overlong) ≡ Ok w → (count ≡ octets) × ((p : Part) × (gives part v ≡ gives p w))
    by true f e = (grind (arith, nat_tests), (part, ap (gives part) (same v w e)))
    by false f e = absurd (clash w e)

module _ (wish : TextWish) (head : SegmentHead) (fits : IsHead head) (says : SaysWhat (segment_read wish head)) where
  abbrev size : ℕ
  size = head_length head

  outcome_is : (rest : List ℕ) (o : Option Decided) → answer_in wish head (head_length head) rest ≡ o → text_read wish head rest ≡ with_end (length rest) o
  outcome_is rest o e = outcomes_agree wish head rest fits ∙ ap (with_end (length rest)) e

  pub ends_say : EndsSay wish head
  ends_say = record {
    given = λ octets part w d. outcome_is octets _ d ∙ ap (λ b. if b then Ok w else Err overlong) (all_there (length octets));
    refused = λ octets more name d. outcome_is (octets ++ more) _ ((goes_on wish head says (head_length head) octets _ d).1 more);
    short = λ octets d. outcome_is octets None d;
    overruns = λ octets more o. (
        let d : Decided = record { answer = gives o.text.part o.text.blocks; octets = length o.prefix } in
        let longer = (goes_on wish head says (head_length head) o.prefix d o.text.is).1 (o.next ∷ more) in
        let same : octets ++ more ≡ o.prefix ++ (o.next ∷ more) = ap (λ l. l ++ more) o.both ∙ append_assoc o.prefix (o.next ∷ []) more in
        let off : (length o.prefix == length (octets ++ more)) ≡ false = differ (length o.prefix) (length (octets ++ more))
        (omega (arith, ap length same, length-append o.prefix (o.next ∷ more))) in
        outcome_is (octets ++ more) (Some d) (ap (answer_in wish head (head_length head)) same ∙ longer) ∙ ap
        (λ b. if b then Ok o.text.blocks else Err overlong) off
        );
    held = λ octets w e. held octets w (answer_in wish head (head_length head) octets) refl (sym (outcomes_agree wish head octets fits) ∙ e);
  }
    where
      differ : (m n : ℕ) → m < n → (m == n) ≡ false
      differ m n lt = grind (arith, nat_tests)

      clash : (w : Blocks) → ◌≡◌ {A = Answer} (Err short_segment) (Ok w) → ⊥
      clash w e = cc

      held : (octets : List ℕ) (w : Blocks) (o : Option Decided) → answer_in wish head (head_length head) octets ≡ o → with_end (length octets) o ≡ Ok w →
          (part : Part) × Decides wish head (head_length head) octets (gives part w)
      held octets w None f e = absurd (clash w e)
      held octets w (Some d) f e =
          let g = given_is (length octets) d.octets d.answer w e in
          (g.1.0, f ∙ (λ i. Some (record { answer = g.1.1 i; octets = g.0 i })))

pub texts_end_so : SegmentsAreRead → TextsEndSo
texts_end_so read wish sound head fits = ends_say wish head fits (read wish head sound).says
