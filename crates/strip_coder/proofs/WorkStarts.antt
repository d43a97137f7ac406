-- A work at the start of an image.
use Rattle.std.proofs.Common.{◌≡◌, ◌≤◌, ◌+◌, ◌-◌, ◌*◌, ℕ, ℤ, List, inl, inr, length, refl, sym, ap, ◌∙◌, arith}
use Rattle.std.proofs.lemmas.Bool.Decides.{nat_tests}
use Rattle.strip_coder.specs.Plans.{Job, IsPlan, plan_of, tallest, whole}
use Rattle.base_122.specs.Ranges.{IsInRange}
use Rattle.base_122.specs.Sizes.{block_count, total_blocks, first_block}
use Rattle.base_122.specs.declared.setting.Setting.{Setting}
use Rattle.base_122.proofs.GeometryRanges.{in_range-sized}
use Rattle.base_122.proofs.SizeBounds.{one-le-segment_blocks}
use Rattle.packet_defs.specs.Packets.{joined}
use Rattle.wave_strip.specs.Strip.{rows_of}
use Rattle.wave_strip.specs.Counts.{settled}
use Rattle.space_packets.specs.Progress.{Progress, fresh}
use Rattle.stream_defs.specs.Output.{image_blocks, packets_before, packets_of, segments_of, reports_last, used_before}
use Rattle.stream_defs.proofs.Outputs.{packets_of-none, packets_before-none, used_before-none}
use Rattle.strip_coder.specs.declared.work.Work.{Work}
use Rattle.strip_coder.specs.declared.work.ImageAt.{ImageAt}
use Rattle.strip_coder.specs.SegmentsOut.{progress_at}
use Rattle.strip_coder.specs.Works.{IsFresh, IsMadeFor, KeepsShare, IsRunning, FollowsImage, RepresentsNone, most_blocks}
use Rattle.strip_coder.proofs.PlanLaws.{tall_plan}
use Rattle.strip_coder.proofs.SegmentRuns.{same_progress}
use Rattle.strip_coder.proofs.SettledCounts.{index_settled}

-- no segment has more blocks than the setting says
pub most_within : (s : Setting) → most_blocks s ≤ s.segment
most_within s = grind (arith, nat_tests)

-- no segment was written
pub fresh_progress : (s : Job) (all : List (List ℤ)) → fresh s.setting.packet ≡ progress_at s all 0
fresh_progress s all = same_progress s.setting.packet 0 0 0 (packets_before (whole s) all 0) 0
    (length (joined (packets_of (reports_last s.setting) (whole s) all 0))) refl (sym (packets_before-none (whole s) all))
    (sym (ap (λ ps. length (joined ps)) (packets_of-none (reports_last s.setting) (whole s) all)))

-- so all of a bound on the coded segments is left
all_left : (used index n total : ℕ) → used ≡ 0 → index ≡ 0 → 36 * n ≤ total → used + 36 * (n - index) ≤ total
all_left used index n total none first least = omega arith

starts_share : (s : Job) (at : ImageAt) → IsPlan s → at.index ≡ 0 → at.used ≡ 0 → KeepsShare (whole s) at
starts_share s at range index used = record {
  left = λ some. elim (in_range-sized s.setting s.rows range.in_range range.height).total [
    | inl none ↦ absurd (some none)
    | inr has ↦ all_left at.used at.index (segments_of (whole s)) s.setting.total used index has.within.0
  ];
}

module _ (s : Job) (w : Work) (start : IsFresh s.setting w) where
  at_start : (w.at.index ≡ 0) × (w.at.filled ≡ 0)
  at_start = (ap (λ (a : ImageAt). a.index) start.at, ap (λ (a : ImageAt). a.filled) start.at)

  -- no block was gathered, and the strip is at its start
  pub starts_running : IsPlan s → IsMadeFor s.setting w → s.form.ready s.setting w.packets w.at.index w.at.used → IsRunning s w
  starts_running range made ready =
      let segment = range.in_range.segment in
      let index = at_start.0 in
      let filled = at_start.1 in
      let none : settled 0 ≡ 0 = omega arith in
      record {
        gathered = record {
          made = made;
          share = starts_share s w.at range index (ap (λ (a : ImageAt). a.used) start.at);
          index = omega (arith, index);
          present = λ lt.
              let some = one-le-segment_blocks (total_blocks s.setting.width s.rows) s.setting.segment w.at.index (omega (arith, segment)) lt in
              omega (arith, some, filled);
          none = λ e. filled;
          held = (let none : length w.blocks.numbers ≡ 0 = ap length start.none in omega (arith, none, filled));
          ready = ready;
        };
        count =
            let first : first_block s.setting.segment w.at.index ≡ 0 = rw index (omega arith) in
            let blocks : block_count s.setting.width * settled (rows_of w.strip) ≡ 0 = rw (start.strip.rows, none) (omega arith) in
            omega (arith, first, blocks, filled);
        answered = start.strip.answered ∙ sym (ap settled start.strip.rows ∙ none);
        running = start.strip.running;
      }

  -- so it follows each image
  pub starts_follows : (x : ℕ → ℕ → ℤ) → s.form.holds s.setting s.rows (image_blocks (whole s) x) w.packets w.at.index w.at.used → FollowsImage s x w
  starts_follows x given = record {
    strip = start.strip.follows _ _;
    holds = record {
      blocks = λ i lt. absurd (let filled = at_start.1 in omega (arith, lt, filled));
      given = given;
      used = λ some. ap (λ (a : ImageAt). a.used) start.at ∙ sym (used_before-none (whole s) (image_blocks (whole s) x))
          ∙ ap (used_before (whole s) (image_blocks (whole s) x)) (sym at_start.0);
    };
  }

pub starts : (s : Setting) (w : Work) → IsInRange s → IsMadeFor s w → IsFresh s w → RepresentsNone s w
starts s w range made start =
    let t = plan_of s (tallest s) in
    let index = at_start t w start in
    let running = starts_running t w start (tall_plan s range) made
    (ap (λ (p : Progress). p.stage) start.packets, ap (λ (p : Progress). p.texts) start.packets ∙ sym index.0) in
    record {
      taken = record {
        running = running;
        rows = ap (λ (a : ImageAt). a.rows) start.at;
        strip_rows = start.strip.rows;
        index = λ more. index_settled t (tall_plan s range) 0 w running start.strip.rows (omega arith) more;
      };
      follows = λ x. record {
        tall = starts_follows t w start x
            (start.packets ∙ fresh_progress t (image_blocks (whole t) x) ∙ ap (progress_at t (image_blocks (whole t) x)) (sym index.0));
        any = λ rows height le. start.strip.follows _ _;
      };
    }
