-- Nothing is added to the numbers of a segment of which all planes are read.
use Rattle.std.proofs.Common.{◌≡◌, ◌≤◌, ℕ, ◌-◌, ◌==◌, min, max, Bool, true, false, if◌then◌else◌, List, [], length, sym, ◌∙◌, subst, arith}
use Rattle.std.proofs.Common.{Option, Some, None, ap}
use Rattle.std.proofs.lemmas.Bool.Decides.{nat_tests}
use lib.ListN.{get_or}
use Rattle.base_122.specs.declared.book.Book.{Book}
use Rattle.item_defs.specs.Outcomes.{whole}
use Rattle.item_defs.specs.Scripts.{done, then_ask, beside, run}
use Rattle.item_defs.proofs.ScriptYields.{Yields, yields_then, yields_around, yields_beside, yields_any, yields_weaker, whole_read}
use Rattle.number_defs.specs.DcPart.{dc_planes}
use Rattle.number_defs.specs.DcLows.{DcGiven, dc_given}
use Rattle.number_defs.specs.DepthScript.{depths_script}
use Rattle.number_defs.proofs.DepthLaws.{depth_laws}
use Rattle.number_defs.proofs.DcDown.{AreDown, dc_down}
use Rattle.plane_defs.specs.Sets.{magnitude, shift}
use Rattle.plane_defs.specs.Lows.{Given}
use Rattle.plane_defs.specs.Restored.{restored}
use Rattle.plane_defs.proofs.LowsFull.{DcFull, AcFull, HaveAll, planes_full, restored_same}
use Rattle.segment_defs.specs.declared.head.SegmentHead.{SegmentHead}
use Rattle.segment_defs.specs.SegmentItems.{dc_shift, q_of, stages_sent}
use Rattle.segment_defs.specs.Segments.{dc_blocks}
use Rattle.segment_defs.specs.Parts.{AreWeighted}
use Rattle.segment_defs.specs.TextLaws.{HasAllPlanes}
use Rattle.segment_defs.specs.Given.{dc_blocks_given, dc_part_given, planes_part_given, segment_given}
use Rattle.segment_defs.proofs.DcBlocks.{dcs_long, dcs_others}
use Rattle.segment_defs.proofs.SentStages.{all_sent}
use Rattle.segment_defs.proofs.SegmentWritten.{first_shift}

abbrev Any : Given → Type 0
Any g = Unit {0}

module _ (head : SegmentHead) (all : HasAllPlanes head) (book : Book) where
  abbrev W : List ℕ
  W = head.image.weights.shifts

  abbrev q : ℕ
  q = q_of head

  -- all that a block can have above the planes is given, whatever its depth is
  abbrev Start : Given → Type 0
  Start g = (depths : List ℕ) → length depths ≡ head.blocks → HaveAll W q depths head.depth_ac g

  down : (low : Option ℕ) → low ≡ Some (q - dc_planes head.depth_dc head.depth_ac (dc_shift head)) → DcFull (shift W 0) q head.depth_ac low
  down low h = h ∙ ap (λ n. Some n) (same _ head.depth_ac (dc_shift head) ∙ ap (λ s. max s (min q head.depth_ac)) (sym (first_shift W)))
    where
      same : (x a s : ℕ) → max x s - (max x s - max a s) ≡ max s (min (max x s) a)
      same x a s = omega arith

  dcs_start : (d : DcGiven) → AreDown head.blocks (q - dc_planes head.depth_dc head.depth_ac (dc_shift head)) d → Start (dc_blocks_given head.blocks d)
  dcs_start d h depths long = record {
    long = dcs_long head.blocks d.dcs ∙ sym long;
    dc = λ r lt. down (d.lows r) (h r (omega (arith, lt, long)));
    acs = λ r p lt ac.
        let apart : (p == 0) ≡ false = (let some : 1 ≤ p = ac.0 in grind (arith, nat_tests)) in
        subst (λ (x : Bool). AcFull (shift W p) (get_or depths r 0) head.depth_ac (if x then d.lows r else None)
        (magnitude (get_or (dc_blocks head.blocks d.dcs) r []) p)) (sym apart) (dcs_others head.blocks d.dcs r p (omega (arith, lt, long)) ac);
  }

  -- all is given
  abbrev End : Given → Type 0
  End g = (depths : List ℕ) × HaveAll W q depths 0 g

  segment_full : Yields Any End (segment_given book head)
  segment_full =
      yields_then Any Start End (dc_part_given head) _
      (yields_around (λ d. Unit {0}) (AreDown head.blocks (q - dc_planes head.depth_dc head.depth_ac (dc_shift head))) Any Start (dc_blocks_given head.blocks)
      (λ d p. tt) dcs_start (dc_given head.depth_dc head.depth_ac (dc_shift head) head.blocks)
      (dc_down head.depth_dc head.depth_ac (dc_shift head) head.blocks))
      (λ g start. by g start head.stop.dc all.goes_on)
    where
      by : (g : Given) → Start g → (b : Bool) → b ≡ false →
          Yields Any End (if b then done g else then_ask (beside g (depths_script head.depth_ac head.blocks)) (planes_part_given book head g))
      by g start true e = absurd cc
      by g start false e =
          yields_then Any _ End (beside g (depths_script head.depth_ac head.blocks)) (planes_part_given book head g)
          (yields_beside Any (λ d. Unit {0}) _ g tt (depths_script head.depth_ac head.blocks)
          (yields_any _ (depths_script head.depth_ac head.blocks) (depth_laws.ends head.depth_ac head.blocks)))
          (λ depths k. yields_weaker Any (HaveAll W q depths 0) End (λ h z. (depths, z)) (planes_part_given book head g depths)
          (planes_full book W q depths (stages_sent head) head.depth_ac (λ b lt. all_sent head all b) g (start depths k.0)))

  pub whole_same : (bits left : List Bool) (g : Given) → run (segment_given book head) bits ≡ whole g left → AreWeighted head g.numbers →
      restored W g ≡ g.numbers
  whole_same bits left g ran w =
      let h = whole_read Any End (segment_given book head) segment_full bits left g ran in
      restored_same W q h.0 g (λ r lt. w.long r (let e = w.count in omega (arith, lt, e))) h.1
