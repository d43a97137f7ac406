-- The numbers that a text gives are multiples of their weights, and small.
use Rattle.std.proofs.Common.{◌≡◌, ℕ, ◌-◌, ◌==◌, nat_lt, Bool, true, false, if◌then◌else◌, List, length, refl, ap, subst, Option, Some, None}
use Rattle.bit_pipe.specs.declared.fault.Part.{Part}
use Rattle.bit_pipe.specs.declared.fault.Part.TheVariants.{Whole, Ended}
use Rattle.plane_defs.specs.Codes.{is_book_sound}
use Rattle.segment_defs.specs.declared.head.SegmentHead.{SegmentHead}
use Rattle.segment_defs.specs.TextWish.{TextWish, segment_read}
use Rattle.segment_defs.specs.Head.{IsHead}
use Rattle.item_defs.specs.Outcomes.{Outcome, whole, cut, refused}
use Rattle.item_defs.specs.Scripts.{run}
use Rattle.segment_defs.specs.Parts.{AreWeighted}
use Rattle.segment_defs.proofs.WishReads.{whole_weighted, cut_weighted}
use Rattle.segment_code.specs.TextAnswers.{TextAnswer, gives, refuses, Decided, if_enough, bits_within, decided, answer_in}
use Rattle.segment_code.specs.Parts.{TextsGiveParts}
use Rattle.segment_code.proofs.Deciding.{Blocks}

abbrev found : ℕ → Part → Blocks → Option Decided
found n p v = Some (record { answer = gives p v; octets = n })

module _ (wish : TextWish) (sound : is_book_sound wish.book ≡ true) (head : SegmentHead) (fits : IsHead head) where
  given_parts : (size : ℕ) (rest : List ℕ) (part : Part) (w : Blocks) (octets : ℕ) → answer_in wish head size rest ≡ Some
      (record { answer = gives part w; octets = octets }) → AreWeighted head w
  given_parts size rest part w octets e = by (run (segment_read wish head) (bits_within head size rest)) refl e
    where
      some_is : (c d : Decided) → Some c ≡ Some d → c ≡ d
      some_is c d e = cc

      same : (a b : TextAnswer) (m n : ℕ) → ◌≡◌ {A = Option Decided} (Some (record { answer = a; octets = m })) (Some (record { answer = b; octets = n })) →
          a ≡ b
      same a b m n e = ap (λ d. d.answer) (some_is (record { answer = a; octets = m }) (record { answer = b; octets = n }) e)

      blocks_same : (p r : Part) (v w : Blocks) → gives p v ≡ gives r w → v ≡ w
      blocks_same p r v w e = cc

      enough : (there n : ℕ) (p : Part) (v : Blocks) (b : Bool) → (if b then None else found n p v) ≡ Some
          (record { answer = gives part w; octets = octets }) → v ≡ w
      enough there n p v true e = absurd cc
      enough there n p v false e = blocks_same p part v w (same (gives p v) (gives part w) n octets e)

      by : (o : Outcome Blocks Blocks) → run (segment_read wish head) (bits_within head size rest) ≡ o →
          decided head size (length rest) (bits_within head size rest) o ≡ Some (record { answer = gives part w; octets = octets }) → AreWeighted head w
      by (whole v left) ran e =
          subst (AreWeighted head) (enough (length rest) _ Whole v (nat_lt (length rest) _) e)
          (whole_weighted wish sound head fits (bits_within head size rest) left v ran)
      by (cut v) ran e = by_limit (head.limit == 0) e
        where
          by_limit : (b : Bool) → (if b then None else if_enough (length rest) (head.limit - size) (gives Ended v)) ≡ Some
              (record { answer = gives part w; octets = octets }) → AreWeighted head w
          by_limit true e = absurd cc
          by_limit false e =
              subst (AreWeighted head) (enough (length rest) (head.limit - size) Ended v (nat_lt (length rest) (head.limit - size)) e)
              (cut_weighted wish sound head fits (bits_within head size rest) v ran)
      by (refused v name left) ran e = absurd (let f = same (refuses name) (gives part w) _ octets e in cc)

pub texts_give_parts : TextsGiveParts
texts_give_parts wish sound head size rest part w octets fits e = given_parts wish sound head fits size rest part w octets e
