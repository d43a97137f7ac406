-- What a work gathered for the tallest image is also that of an image of fewer rows, if its height is reported last.
use Rattle.std.proofs.Common.{◌≡◌, inl, inr, ℕ, ◌+◌, ◌*◌, ◌/◌, ◌<◌, ◌≤◌, ℤ, List, length, refl, sym, ap, ◌∙◌, subst, arith, true, div-lt_iff_lt-mul}
use Rattle.std.proofs.Common.{mul-le-mul_right, mul-le-mul_left}
use Rattle.std.proofs.lemmas.Bool.{cases_lt}
use Rattle.std.proofs.lemmas.Bool.Decides.{nat_tests}
use Rattle.base_122.specs.Ranges.{IsInRange}
use Rattle.base_122.specs.Setting.{IsHeight, sized}
use Rattle.base_122.specs.Sizes.{block_count, total_blocks}
use Rattle.base_122.specs.declared.setting.Setting.{Setting}
use Rattle.base_122.proofs.SizeBounds.{three-le-block_count, total-le-segments}
use Rattle.packet_defs.specs.Packets.{joined}
use Rattle.wave_defs.specs.Held.{SameWithin}
use Rattle.wave_strip.specs.Strip.{rows_of}
use Rattle.wave_strip.specs.Counts.{settled as block_rows_in}
use Rattle.stream_defs.specs.Output.{image_blocks, packets_before, packets_of, segments_of, reports_last}
use Rattle.stream_defs.specs.Settled.{settled}
use Rattle.stream_defs.proofs.HeightLaws.{block_same, before_same, packets_same}
use Rattle.strip_coder.specs.declared.work.Work.{Work}
use Rattle.strip_coder.specs.Plans.{Job, plan_of, tallest, whole}
use Rattle.strip_coder.specs.SegmentsOut.{progress_at}
use Rattle.strip_coder.specs.Works.{IsRunning, HasTaken, HoldsBlocks, FollowsImage, FollowsRows, gathered_in}
use Rattle.strip_coder.proofs.PlanLaws.{tall_height, tall_plan, open_last}
use Rattle.strip_coder.proofs.SegmentRuns.{same_progress}
use Rattle.strip_coder.proofs.SettledCounts.{place}

module _ (s : Setting) (range : IsInRange s) (left_open : s.rows ≡ 0) (rows : ℕ) (height : IsHeight s rows) (less : rows < tallest s) (w : Work)
    (taken : HasTaken (plan_of s (tallest s)) rows w) where
  abbrev tall : Job
  tall = plan_of s (tallest s)

  abbrev here : Job
  here = plan_of s rows

  no_total : s.total ≡ 0
  no_total = elim range.total [ inl none ↦ none | inr has ↦ absurd (has.rows left_open) ]

  some_columns : 0 < block_count s.width
  some_columns = let three = three-le-block_count s.width range.width.0 in omega (arith, three)

  placed : w.at.index * s.segment + w.at.filled ≡ block_count s.width * block_rows_in rows
  placed = place tall (tall_plan s range) rows w taken.running taken.strip_rows (omega (arith, less))

  -- the blocks gathered are fewer than those of this image
  few : w.at.index * s.segment + w.at.filled < total_blocks s.width rows
  few = grind (arith, nat_tests, mul-le-mul_left, placed, some_columns)

  index_below : w.at.index < segments_of (whole here)
  index_below =
      let segment = range.segment in
      let all : total_blocks s.width rows ≤ segments_of (whole here) * s.segment =
      total-le-segments (total_blocks s.width rows) s.segment (omega (arith, segment)) in
      elim (cases_lt w.at.index (segments_of (whole here))) [
        | inl lt ↦ lt
        | inr far ↦ let many : segments_of (whole here) * s.segment ≤ w.at.index * s.segment =
            mul-le-mul_right s.segment far in absurd (omega (arith, few, all, many))
      ]

  part : w.at.filled < s.segment
  part = grind (arith, nat_tests)

  gathered_here : gathered_in here w.at ≡ block_count s.width * block_rows_in (rows_of w.strip)
  gathered_here = grind (arith, nat_tests, few, placed)

  pub open_running : IsRunning (plan_of s rows) w
  open_running = let has = taken.running.gathered in record {
    gathered = record {
      made = has.made;
      share = record { left = λ some. absurd (some no_total) };
      index = (let lt = index_below in omega (arith, lt));
      present = λ lt. (let p = part in let f = few in omega (arith, p, f));
      none = λ e. absurd (let lt = index_below in omega (arith, lt, e));
      held = has.held;
      ready = has.ready;
    };
    count = gathered_here;
    answered = taken.running.answered;
    running = taken.running.running;
  }

  settled_index : w.at.index ≡ settled true (sized s (tallest s)) rows
  settled_index = taken.index (inr left_open) ∙ ap (λ b. settled b (sized s (tallest s)) rows) (open_last s left_open)

  few_settled : w.at.index ≤ settled true (sized s (tallest s)) rows
  few_settled = let e = settled_index in omega (arith, e)

  module _ (x : ℕ → ℕ → ℤ) where
    itself : SameWithin rows s.width x x
    itself = record { at = λ i j hi hj. refl }

    abbrev tall_blocks : List (List ℤ)
    tall_blocks = image_blocks (sized s (tallest s)) x

    abbrev these_blocks : List (List ℤ)
    these_blocks = image_blocks (sized s rows) x

    le : rows ≤ tallest s
    le = omega (arith, less)

    octets_same : length (joined (packets_of (reports_last s) (sized s (tallest s)) tall_blocks w.at.index))
        ≡ length (joined (packets_of (reports_last s) (sized s rows) these_blocks w.at.index))
    octets_same =
        subst (λ b. length (joined (packets_of b (sized s (tallest s)) tall_blocks w.at.index)) ≡ length
        (joined (packets_of b (sized s rows) these_blocks w.at.index))) (sym (open_last s left_open))
        (ap (λ ps. length (joined ps)) (packets_same s range left_open rows (tallest s) rows (tall_height s range) height le (omega arith) x x itself
        w.at.index few_settled))

    packets_here : progress_at tall tall_blocks w.at.index ≡ progress_at here these_blocks w.at.index
    packets_here =
        same_progress s.packet w.at.index w.at.index (packets_before (sized s (tallest s)) tall_blocks w.at.index)
        (packets_before (sized s rows) these_blocks w.at.index)
        (length (joined (packets_of (reports_last s) (sized s (tallest s)) tall_blocks w.at.index)))
        (length (joined (packets_of (reports_last s) (sized s rows) these_blocks w.at.index))) refl
        (before_same s range left_open rows (tallest s) rows (tall_height s range) height le (omega arith) x x itself w.at.index few_settled) octets_same

    near : (i : ℕ) → i < w.at.filled → 8 * ((w.at.index * s.segment + i) / block_count s.width) + 28 < rows
    near i lt = grind (arith, nat_tests, div-lt_iff_lt-mul, some_columns, placed)

    holds_here : HoldsBlocks tall tall_blocks w → HoldsBlocks here these_blocks w
    holds_here holds = record {
      blocks = λ i lt.
          holds.blocks i lt
          ∙ block_same s range left_open rows (tallest s) rows (tall_height s range) height le (omega arith) x x itself (w.at.index * s.segment + i)
          (near i lt);
      given = holds.given ∙ packets_here;
      used = λ some. absurd (some no_total);
    }

    pub open_follows : FollowsRows s x w → FollowsImage (plan_of s rows) x w
    open_follows f = record { strip = f.any rows height (let e = taken.strip_rows in omega (arith, e)); holds = holds_here f.tall.holds }
