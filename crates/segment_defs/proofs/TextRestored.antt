-- What a text is restored to.
use Rattle.std.proofs.Common.{◌≡◌, ℕ, ◌-◌, ◌==◌, nat_lt, Bool, true, false, if◌then◌else◌, List, length, refl, ap, sym, ◌∙◌, subst, Result, Ok, Err}
use Rattle.base_122.specs.declared.book.Book.{Book}
use Rattle.item_defs.specs.Outcomes.{Outcome, whole, cut, refused}
use Rattle.item_defs.specs.Scripts.{run}
use Rattle.plane_defs.specs.Codes.{is_book_sound}
use Rattle.plane_defs.specs.Lows.{Given}
use Rattle.plane_defs.specs.Restored.{restored}
use Rattle.segment_defs.specs.declared.head.SegmentHead.{SegmentHead}
use Rattle.segment_defs.specs.Head.{IsHead}
use Rattle.segment_defs.specs.SegmentItems.{segment_items}
use Rattle.segment_defs.specs.Outcomes.{SegmentRefusal, at_item, short_segment, overlong, length_of, bits_read, Holds}
use Rattle.segment_defs.specs.Parts.{AreWeighted}
use Rattle.segment_defs.specs.Segments.{segment_script}
use Rattle.segment_defs.specs.TextOutcome.{Answer, by_length, expected, verdict}
use Rattle.segment_defs.specs.TextLaws.{HasAllPlanes}
use Rattle.segment_defs.specs.Given.{segment_given, text_given}
use Rattle.segment_defs.specs.GivenLaws.{with_numbers, TextsAreRestored}
use Rattle.segment_defs.proofs.TextGiven.{Blocks, numbers, text_same, numbers_run}
use Rattle.segment_defs.proofs.TextReads.{texts_are_read, whole_run}
use Rattle.segment_defs.proofs.RunRestored.{whole_restored, cut_restored}
use Rattle.segment_defs.proofs.RunFull.{whole_same}

abbrev Answered : Type 0
Answered = Result Given SegmentRefusal

-- an answer that is not a refusal is what was read
by_length_is : (octets wanted : ℕ) (g w : Given) → by_length octets wanted g ≡ Ok w → g ≡ w
by_length_is octets wanted g w e = by (nat_lt octets wanted) (nat_lt wanted octets) e
  where
    by : (x y : Bool) → ◌≡◌ {A = Answered} (if x then Err short_segment else if y then Err overlong else Ok g) (Ok w) → g ≡ w
    by true y e = absurd cc
    by false true e = absurd cc
    by false false e = cc

cut_is : (head : SegmentHead) (rest : List ℕ) (g w : Given) → verdict head rest (cut g) ≡ Ok w → g ≡ w
cut_is head rest g w e = by (head.limit == 0) e
  where
    by : (x : Bool) → ◌≡◌ {A = Answered} (if x then Err short_segment else by_length (length_of head rest) head.limit g) (Ok w) → g ≡ w
    by true e = absurd cc
    by false e = by_length_is (length_of head rest) head.limit g w e

not_refused : (name : SegmentRefusal) (w : Given) → ◌≡◌ {A = Answered} (Err name) (Ok w) → ⊥
not_refused name w e = cc

-- the numbers of an answer
pub numbers_are : (put : Given → Blocks) (a : Answered) (v : Blocks) → with_numbers put a ≡ Ok v → (g : Given) × (a ≡ Ok g) × (put g ≡ v)
numbers_are put (Ok g) v e = (g, refl, same e)
  where
    same : ◌≡◌ {A = Answer} (Ok (put g)) (Ok v) → put g ≡ v
    same e = cc
numbers_are put (Err name) v e = absurd (none e)
  where
    none : ◌≡◌ {A = Answer} (Err name) (Ok v) → ⊥
    none e = cc

differ : (v w : Blocks) (left : List Bool) → ◌≡◌ {A = Outcome Blocks Blocks} (whole v left) (cut w) → ⊥
differ v w left e = cc

module _ (book : Book) (sound : is_book_sound book ≡ true) (head : SegmentHead) (rest : List ℕ) (is_head : IsHead head) where
  abbrev W : List ℕ
  W = head.image.weights.shifts

  abbrev bits : List Bool
  bits = bits_read head rest

  abbrev Run : Outcome Given Given → Type 0
  Run o = run (segment_given book head) bits ≡ o

  weighted : (o : Outcome Given Given) → Run o → (g : Given) → verdict head rest o ≡ Ok g → AreWeighted head (restored W g)
  weighted (whole x left) ran g e =
      let same = by_length_is (length_of head rest) (expected head (length bits - length left)) x g e in
      whole_restored head is_head book sound bits left g (subst (λ y. Run (whole y left)) same ran)
  weighted (cut x) ran g e = cut_restored head is_head book sound bits g (subst (λ y. Run (cut y)) (cut_is head rest x g e) ran)
  weighted (refused x name left) ran g e = absurd (not_refused (at_item name) g e)

  numbers_weighted : (g : Given) → text_given book head rest ≡ Ok g → AreWeighted head g.numbers
  numbers_weighted g e = (texts_are_read book sound head rest is_head).numbers g.numbers (text_same book head rest ∙ ap (with_numbers numbers) e)

  module _ (h : Holds book head rest) (all : HasAllPlanes head) (count : h.count ≡ length (segment_items head h.blocks h.depths h.options)) where
    -- the reading is not cut
    runs_whole : (w : Blocks) × (run (segment_script book head) bits ≡ whole w h.more)
    runs_whole =
        let w = whole_run head is_head rest h.blocks h.depths h.options h.count h.more h.reading count in
        (w.0, ap (λ b. run (segment_script b head) bits) (sym h.of_book) ∙ w.1)

    same_numbers : (o : Outcome Given Given) → Run o → (g : Given) → verdict head rest o ≡ Ok g → text_given book head rest ≡ Ok g → restored W g ≡ g.numbers
    same_numbers (whole x left) ran g e given =
        let same = by_length_is (length_of head rest) (expected head (length bits - length left)) x g e in
        whole_same head all book bits left g (subst (λ y. Run (whole y left)) same ran) (numbers_weighted g given)
    same_numbers (cut x) ran g e given =
        let w = runs_whole in
        absurd (differ w.0 x.numbers h.more (sym w.1 ∙ numbers_run book head bits (cut x) ran))
    same_numbers (refused x name left) ran g e given = absurd (not_refused (at_item name) g e)

    exact : (g : Given) × (text_given book head rest ≡ Ok g) × (restored W g ≡ h.blocks)
    exact =
        let e = (texts_are_read book sound head rest is_head).exact h all count in
        let w = numbers_are numbers (text_given book head rest) h.blocks (sym (text_same book head rest) ∙ e) in
        (w.0, w.1, same_numbers (run (segment_given book head) bits) refl w.0 w.1 w.1 ∙ w.2)

pub texts_are_restored : TextsAreRestored
texts_are_restored book sound head rest is_head = record {
  weighted = λ g e. weighted book sound head rest is_head (run (segment_given book head) (bits_read head rest)) refl g e;
  exact = exact book sound head rest is_head;
}
