-- A segment's text, with and without what is given of each number.
use Rattle.std.proofs.Common.{◌≡◌, ℕ, ◌-◌, ◌==◌, nat_lt, Bool, true, false, if◌then◌else◌, List, length, refl, ap, sym, ◌∙◌, ℤ, Ok, Err}
use Rattle.base_122.specs.declared.book.Book.{Book}
use Rattle.segment_defs.specs.declared.head.SegmentHead.{SegmentHead}
use Rattle.segment_defs.specs.SegmentItems.{dc_shift, q_of, stages_sent}
use Rattle.item_defs.specs.Outcomes.{Outcome, whole, cut, refused}
use Rattle.item_defs.specs.Scripts.{Script, done, then_ask, around, beside, run}
use Rattle.item_defs.proofs.ScriptAround.{around_then, around_twice, around_beside, put_outcome, run_around}
use Rattle.number_defs.specs.DepthScript.{depths_script}
use Rattle.number_defs.specs.DcLows.{dc_given}
use Rattle.number_defs.proofs.DcsGiven.{dcs_are_given}
use Rattle.plane_defs.specs.Lows.{Given}
use Rattle.plane_defs.proofs.NumbersGiven.{numbers_are_given}
use Rattle.segment_defs.specs.Outcomes.{short_segment, overlong, length_of, bits_read}
use Rattle.segment_defs.specs.Segments.{dc_blocks, dc_part_script, planes_part_script, segment_script}
use Rattle.segment_defs.specs.TextOutcome.{Answer, by_length, expected, verdict, text_outcome}
use Rattle.segment_defs.specs.Given.{dc_blocks_given, dc_part_given, planes_part_given, segment_given, text_given}
use Rattle.segment_defs.specs.GivenLaws.{with_numbers, TextsAreGiven}

abbrev pub Blocks : Type 0
Blocks = List (List ℤ)

abbrev pub numbers : Given → Blocks
numbers g = g.numbers

module _ (book : Book) (head : SegmentHead) where
  dcs_same : around numbers (dc_part_given head) ≡ dc_part_script head
  dcs_same =
      let dcs = dc_given head.depth_dc head.depth_ac (dc_shift head) head.blocks in
      around_twice numbers (dc_blocks_given head.blocks) dcs ∙ sym (around_twice (dc_blocks head.blocks) (λ d. d.dcs) dcs) ∙
      ap (around (dc_blocks head.blocks)) (dcs_are_given head.depth_dc head.depth_ac (dc_shift head) head.blocks)

  abbrev after_dcs : Given → Script Given Given
  after_dcs g =
      if head.stop.dc then done g else then_ask (beside g (depths_script head.depth_ac head.blocks)) (planes_part_given book head g)

  abbrev after_numbers : Blocks → Script Blocks Blocks
  after_numbers blocks =
      if head.stop.dc then done blocks else then_ask (beside blocks (depths_script head.depth_ac head.blocks)) (planes_part_script book head blocks)

  after_same : (g : Given) → around numbers (after_dcs g) ≡ after_numbers g.numbers
  after_same g = by head.stop.dc
    where
      by : (b : Bool) →
          around numbers (if b then done g else then_ask (beside g (depths_script head.depth_ac head.blocks)) (planes_part_given book head g)) ≡
          (if b then done g.numbers else
          then_ask (beside g.numbers (depths_script head.depth_ac head.blocks)) (planes_part_script book head g.numbers))
      by true = refl
      by false =
          around_beside numbers g (planes_part_given book head g) (planes_part_script book head g.numbers)
          (λ depths. numbers_are_given book head.image.weights.shifts (q_of head) depths (stages_sent head) head.depth_ac g)
          (depths_script head.depth_ac head.blocks)

  pub script_same : around numbers (segment_given book head) ≡ segment_script book head
  script_same = around_then numbers after_dcs after_numbers after_same (dc_part_given head) ∙ ap (λ s. then_ask s after_numbers) dcs_same

  -- what bits are read as
  pub numbers_run : (bits : List Bool) (o : Outcome Given Given) → run (segment_given book head) bits ≡ o →
      run (segment_script book head) bits ≡ put_outcome numbers o
  numbers_run bits o ran =
      ap (λ s. run s bits) (sym script_same) ∙ run_around numbers (segment_given book head) bits ∙ ap (put_outcome numbers) ran

-- an answer, by what was given
module _ (put : Given → Blocks) (head : SegmentHead) (rest : List ℕ) where
  length_put : (octets wanted : ℕ) (g : Given) → by_length octets wanted (put g) ≡ with_numbers put (by_length octets wanted g)
  length_put octets wanted g = by (nat_lt octets wanted) (nat_lt wanted octets)
    where
      by : (x y : Bool) → ◌≡◌ {A = Answer} (if x then Err short_segment else if y then Err overlong else Ok (put g))
          (with_numbers put (if x then Err short_segment else if y then Err overlong else Ok g))
      by true y = refl
      by false true = refl
      by false false = refl

  pub verdict_put : (o : Outcome Given Given) → verdict head rest (put_outcome put o) ≡ with_numbers put (verdict head rest o)
  verdict_put (whole g left) = length_put (length_of head rest) (expected head (length (bits_read head rest) - length left)) g
  verdict_put (cut g) = by (head.limit == 0)
    where
      by : (x : Bool) → ◌≡◌ {A = Answer} (if x then Err short_segment else by_length (length_of head rest) head.limit (put g))
          (with_numbers put (if x then Err short_segment else by_length (length_of head rest) head.limit g))
      by true = refl
      by false = length_put (length_of head rest) head.limit g
  verdict_put (refused g name left) = refl

pub text_same : (book : Book) (head : SegmentHead) (rest : List ℕ) → text_outcome book head rest ≡ with_numbers numbers (text_given book head rest)
text_same book head rest =
    ap (verdict head rest) (numbers_run book head (bits_read head rest) (run (segment_given book head) (bits_read head rest)) refl) ∙
    verdict_put numbers head rest (run (segment_given book head) (bits_read head rest))

pub texts_are_given : TextsAreGiven
texts_are_given = record { script = script_same; text = text_same }
