-- What bits are read as with a wish, and without one.
use Rattle.std.proofs.Common.{◌≡◌, ℕ, ◌-◌, ◌*◌, ◌+◌, ◌==◌, nat_lt, if◌then◌else◌, Bool, true, false, List, [], length, refl, ap, sym}
use Rattle.std.proofs.Common.{◌∙◌, Option, Some, None, Ok, Err}
use Rattle.std.specs.Int.{div_ceil}
use Rattle.bit_pipe.specs.declared.fault.Part.TheVariants.{Whole, Ended}
use Rattle.item_defs.specs.Outcomes.{Outcome, whole, cut, refused}
use Rattle.item_defs.specs.Scripts.{run}
use Rattle.segment_defs.specs.declared.head.SegmentHead.{SegmentHead}
use Rattle.segment_defs.specs.Segments.{segment_script}
use Rattle.segment_defs.specs.TextOutcome.{Answer}
use Rattle.segment_defs.specs.TextWish.{TextWish, unrestored, segment_read}
use Rattle.segment_defs.specs.TextWishLaws.{end_of, refusal_in}
use Rattle.segment_defs.proofs.WishReads.{wishes_agree}
use Rattle.segment_code.specs.TextAnswers.{TextAnswer, gives, refuses, Decided, if_enough, bits_within, whole_octets, decided}
use Rattle.segment_code.specs.Laws.{blank, blank_if_decided, AnswersAgree}
use Rattle.segment_code.proofs.Deciding.{Blocks}

abbrev Ending : Type 0
Ending = Outcome (Unit {0}) (Unit {0})

-- ---- ends

whole_end : (o : Outcome Blocks Blocks) (left : List Bool) → ◌≡◌ {A = Ending} (end_of o) (whole tt left) → (v : Blocks) × (o ≡ whole v left)
whole_end (whole v rest) left e = (v, ap (whole v) (same e))
  where
    same : ◌≡◌ {A = Ending} (whole tt rest) (whole tt left) → rest ≡ left
    same e = cc
whole_end (cut v) left e = absurd (clash e)
  where
    clash : ◌≡◌ {A = Ending} (cut tt) (whole tt left) → ⊥
    clash e = cc
whole_end (refused v name rest) left e = absurd (clash e)
  where
    clash : ◌≡◌ {A = Ending} (refused tt name rest) (whole tt left) → ⊥
    clash e = cc

cut_end : (o : Outcome Blocks Blocks) → ◌≡◌ {A = Ending} (end_of o) (cut tt) → (v : Blocks) × (o ≡ cut v)
cut_end (cut v) e = (v, refl)
cut_end (whole v rest) e = absurd (clash e)
  where
    clash : ◌≡◌ {A = Ending} (whole tt rest) (cut tt) → ⊥
    clash e = cc
cut_end (refused v name rest) e = absurd (clash e)
  where
    clash : ◌≡◌ {A = Ending} (refused tt name rest) (cut tt) → ⊥
    clash e = cc

module _ (wish : TextWish) (head : SegmentHead) (bits : List Bool) where
  pub read_whole : (w : Blocks) (left : List Bool) → run (segment_script wish.book head) bits ≡ whole w left →
      (v : Blocks) × (run (segment_read wish head) bits ≡ whole v left)
  read_whole w left e = whole_end (run (segment_read wish head) bits) left (wishes_agree.ends wish head bits ∙ ap end_of e)

  pub read_cut : (w : Blocks) → run (segment_script wish.book head) bits ≡ cut w → (v : Blocks) × (run (segment_read wish head) bits ≡ cut v)
  read_cut w e = cut_end (run (segment_read wish head) bits) (wishes_agree.ends wish head bits ∙ ap end_of e)

  pub script_cut : (v : Blocks) → run (segment_read wish head) bits ≡ cut v → (w : Blocks) × (run (segment_script wish.book head) bits ≡ cut w)
  script_cut v e = cut_end (run (segment_script wish.book head) bits) (sym (wishes_agree.ends wish head bits) ∙ ap end_of e)

-- a text that is not refused gives numbers
pub not_refused : (a : Answer) → refusal_in a ≡ None → (v : Blocks) × (a ≡ Ok v)
not_refused (Ok v) e = (v, refl)
not_refused (Err name) e = absurd cc

-- ---- answers

module _ (head : SegmentHead) (size octets : ℕ) (bits : List Bool) where
  -- an answer without its numbers, by how far the bits were read
  abbrev blank_by : Ending → Option Decided
  blank_by (whole u left) = if_enough octets (whole_octets head (8 * size + (length bits - length left)) - size) (gives Whole [])
  blank_by (cut u) = if head.limit == 0 then None else if_enough octets (head.limit - size) (gives Ended [])
  blank_by (refused u name left) = Some (record { answer = refuses name; octets = div_ceil (length bits - length left) 8 })

  blank_enough : (count : ℕ) (a : TextAnswer) → blank_if_decided (if_enough octets count a) ≡ if_enough octets count (blank a)
  blank_enough count a = by (nat_lt octets count)
    where
      by : (b : Bool) → blank_if_decided (if b then None else Some (record { answer = a; octets = count })) ≡
          (if b then None else Some (record { answer = blank a; octets = count }))
      by true = refl
      by false = refl

  blank_is : (o : Outcome Blocks Blocks) → blank_if_decided (decided head size octets bits o) ≡ blank_by (end_of o)
  blank_is (whole w left) = blank_enough (whole_octets head (8 * size + (length bits - length left)) - size) (gives Whole w)
  blank_is (cut w) = by (head.limit == 0)
    where
      by : (b : Bool) → blank_if_decided (if b then None else if_enough octets (head.limit - size) (gives Ended w)) ≡
          (if b then None else if_enough octets (head.limit - size) (gives Ended []))
      by true = refl
      by false = blank_enough (head.limit - size) (gives Ended w)
  blank_is (refused w name left) = refl

pub answers_agree : AnswersAgree
answers_agree wish head size rest =
    let bits = bits_within head size rest in
    let plain = unrestored wish.book in
    blank_is head size (length rest) bits (run (segment_read wish head) bits) ∙
    ap (blank_by head size (length rest) bits) (wishes_agree.ends wish head bits ∙ sym (wishes_agree.ends plain head bits)) ∙
    sym (blank_is head size (length rest) bits (run (segment_read plain head) bits))
