-- A row that a work took.
use Rattle.std.proofs.Common.{◌≡◌, ℕ, ◌+◌, ◌-◌, ◌*◌, ◌^◌, ◌<◌, ◌≤◌, ℤ, List, length, sym, ap, ◌∙◌, subst, arith, vec_len, min}
use Rattle.port_122.specs.Outside.{Outside}
use Rattle.segment_code.specs.declared.encode.SegmentWriter.{SegmentWriter}
use Rattle.strip_coder.specs.Plans.{Job, IsPlan, plan_of, tallest, whole}
use Rattle.base_122.specs.Ranges.{IsInRange}
use Rattle.base_122.specs.Setting.{IsHeight}
use Rattle.base_122.specs.declared.setting.Setting.{Setting}
use Rattle.base_122.specs.Sizes.{block_count, padded_size}
use Rattle.wave_defs.specs.Held.{Agrees, signal}
use Rattle.wave_defs.specs.Within.{IsWithin, AllWithin}
use Rattle.wave_defs.specs.Pyramid.{padded}
use Rattle.raster_rows.specs.Padding.{IsPadded}
use Rattle.wave_strip.specs.Strip.{rows_of, has_ended, columns_of, Follows}
use Rattle.stream_defs.proofs.Small.{pixel_small}
use Rattle.stream_defs.specs.Output.{image_blocks}
use Rattle.strip_coder.specs.declared.work.Work.{Work}
use Rattle.wave_strip.specs.Counts.{settled}
use Rattle.strip_coder.specs.Works.{IsRunning, HasTaken, HoldsBlocks, FollowsImage, FollowsRows}
use Rattle.strip_coder.specs.Steps.{Continues, StopsEarly, HasPushed, HasNotPushed, IsRowInRange, RowIs, NextRowIs, TakesRow, BreaksAt, tall_blocks}
use Rattle.strip_coder.proofs.PlanLaws.{tall_height, tall_plan}
use Rattle.strip_coder.proofs.SegmentSteps.{share_kept}
use Rattle.strip_coder.proofs.SettledCounts.{index_settled}

-- ---- the padded row

module _ (s : Job) (range : IsPlan s) (row after : List ℤ) (pad : IsPadded s.setting.width row after) (long : length after ≡ padded_size s.setting.width) where
  padded_at : (j : ℕ) → j < padded_size s.setting.width → signal after j ≡ signal row (min j (s.setting.width - 1))
  padded_at j lt = pad.each j (omega (arith, lt, long))

  pub padded_small : IsRowInRange s.setting row → AllWithin (2 ^ 16) (padded_size s.setting.width) (signal after)
  padded_small values = record {
    at = λ j lt.
        let width = range.in_range.width.0 in
        subst (IsWithin (2 ^ 16)) (sym (padded_at j lt)) (pixel_small s.setting.depth s.setting.signed _ range.in_range.depth.0 range.in_range.depth.1
        (values.each (min j (s.setting.width - 1)) (omega (arith, width))));
  }

  pub padded_kept : Agrees s.setting.width (signal after) (signal row)
  padded_kept = record {
    at = λ j lt.
        let e : min j (s.setting.width - 1) ≡ j = omega (arith, lt) in
        padded_at j (omega (arith, lt)) ∙ ap (signal row) e;
  }

  pub padded_next : (x : ℕ → ℕ → ℤ) (k : ℕ) → k < s.rows → Agrees s.setting.width (signal row) (x k) →
      Agrees (padded_size s.setting.width) (signal after) (padded x s.rows s.setting.width k)
  padded_next x k few is = record {
    at = λ j lt.
        let width = range.in_range.width.0 in
        let e : min k (s.rows - 1) ≡ k = omega (arith, few) in
        padded_at j lt ∙ is.at (min j (s.setting.width - 1)) (omega (arith, width)) ∙ ap (λ n. x n (min j (s.setting.width - 1))) (sym e);
  }

-- ---- a work before and after

-- only the row's numbers were changed
pub record OnlyRow (old mid : Work) : Type 0 where
  pub row : vec_len mid.row ≡ vec_len old.row
  pub strip : mid.strip ≡ old.strip
  pub blocks : mid.blocks ≡ old.blocks
  pub packets : mid.packets ≡ old.packets
  pub writer : mid.writer ≡ old.writer
  pub room : mid.room ≡ old.room
  pub at : mid.at ≡ old.at

-- only the count of rows was changed
pub record OnlyCount (mid new : Work) : Type 0 where
  pub strip : new.strip ≡ mid.strip
  pub row : new.row ≡ mid.row
  pub blocks : new.blocks ≡ mid.blocks
  pub packets : new.packets ≡ mid.packets
  pub writer : new.writer ≡ mid.writer
  pub room : new.room ≡ mid.room
  pub rows : new.at.rows ≡ mid.at.rows + 1
  pub filled : new.at.filled ≡ mid.at.filled
  pub index : new.at.index ≡ mid.at.index
  pub used : new.at.used ≡ mid.at.used

row_holds : (s : Job) (all : List (List ℤ)) (old mid : Work) → OnlyRow old mid → HoldsBlocks s all old → HoldsBlocks s all mid
row_holds s all old mid only holds = record {
  blocks = rw (only.at, only.blocks) holds.blocks;
  given = rw (only.at, only.packets) holds.given;
  used =
      rw only.at holds.used;
}

pub row_follows : (s : Job) (x : ℕ → ℕ → ℤ) (old mid : Work) → OnlyRow old mid → FollowsImage s x old → FollowsImage s x mid
row_follows s x old mid only f = record {
  strip = subst (λ t. Follows (padded x s.rows s.setting.width) (block_count s.rows) t) (sym only.strip) f.strip;
  holds = row_holds s (image_blocks (whole s) x) old mid only f.holds;
}

pub row_follows_any : (s : Setting) (x : ℕ → ℕ → ℤ) (old mid : Work) → OnlyRow old mid → FollowsRows s x old → FollowsRows s x mid
row_follows_any s x old mid only f = record {
  tall = row_follows (plan_of s (tallest s)) x old mid only f.tall;
  any = λ rows height le. subst (λ t. Follows (padded x rows s.width) (block_count rows) t) (sym only.strip)
      (f.any rows height (subst (λ t. rows_of t ≤ rows) only.strip le));
}

count_follows : (s : Job) (x : ℕ → ℕ → ℤ) (mid new : Work) → OnlyCount mid new → FollowsImage s x mid → FollowsImage s x new
count_follows s x mid new only f = record {
  strip = subst (λ t. Follows (padded x s.rows s.setting.width) (block_count s.rows) t) (sym only.strip) f.strip;
  holds = record {
    blocks = rw (only.filled, only.index, only.blocks) f.holds.blocks;
    given = rw (only.index, only.used, only.packets) f.holds.given;
    used =
        rw (only.used, only.index) f.holds.used;
  };
}

count_running : (s : Job) (mid new : Work) → OnlyCount mid new → IsRunning s mid → IsRunning s new
count_running s mid new only run =
    let has = run.gathered in
    let made = has.made in
    let index = only.index in
    let filled = only.filled in
    record {
      gathered = record {
        made = record {
          row = ap (λ v. vec_len v) only.row ∙ made.row;
          blocks = rw only.blocks made.blocks;
          strip = ap columns_of only.strip ∙ made.strip;
          packet = ap (λ v. v.packet) only.packets ∙ made.packet;
          writer = ap (λ (v : SegmentWriter). v.tables.book) only.writer ∙ made.writer;
          room = only.room ∙ made.room;
        };
        share = share_kept (whole s) mid.at new.at index only.used has.share;
        index = rw index has.index;
        present = rw (index, filled) has.present;
        none = rw (index, filled) has.none;
        held = rw (only.filled, only.blocks) has.held;
        ready = rw (only.index, only.used, only.packets) has.ready;
      };
      count = rw (index, filled, only.strip) run.count;
      answered = rw only.strip run.answered;
      running = ap has_ended only.strip ∙ run.running;
    }

pub row_running : (s : Job) (old mid : Work) → OnlyRow old mid → IsRunning s old → IsRunning s mid
row_running s old mid only run =
    let has = run.gathered in
    let made = has.made in
    record {
      gathered = record {
        made = record {
          row = only.row ∙ made.row;
          blocks = rw only.blocks made.blocks;
          strip = ap columns_of only.strip ∙ made.strip;
          packet = ap (λ v. v.packet) only.packets ∙ made.packet;
          writer = ap (λ (v : SegmentWriter). v.tables.book) only.writer ∙ made.writer;
          room = only.room ∙ made.room;
        };
        share = rw only.at has.share;
        index = rw only.at has.index;
        present = rw only.at has.present;
        none = rw only.at has.none;
        held = rw (only.at, only.blocks) has.held;
        ready = rw (only.at, only.packets) has.ready;
      };
      count = rw (only.at, only.strip) run.count;
      answered = rw only.strip run.answered;
      running = ap has_ended only.strip ∙ run.running;
    }

-- ---- the next row of each image

module _ (s : Setting) (range : IsInRange s) (old mid : Work) (taken : HasTaken (plan_of s (tallest s)) old.at.rows old) (few : old.at.rows < tallest s)
    (only : OnlyRow old mid)
    (pad : IsPadded s.width old.row.items mid.row.items) (long : length mid.row.items ≡ padded_size s.width) where
  before : rows_of mid.strip ≡ old.at.rows
  before = ap rows_of only.strip ∙ taken.strip_rows

  next : (rows : ℕ) → IsHeight s rows → old.at.rows < rows → (x : ℕ → ℕ → ℤ) → RowIs s x old.at.rows old → NextRowIs (plan_of s rows) x mid
  next rows height below x is =
      subst (λ n. Agrees (padded_size s.width) (signal mid.row.items) (padded x rows s.width n)) (sym before)
      (padded_next (plan_of s rows) (record { in_range = range; height = height }) old.row.items mid.row.items pad long x old.at.rows below is)

  next_tall : (x : ℕ → ℕ → ℤ) → RowIs s x old.at.rows old → NextRowIs (plan_of s (tallest s)) x mid
  next_tall x is = next (tallest s) (tall_height s range) few x is

  index : mid.at.index ≡ old.at.index
  index = ap (λ a. a.index) only.at

  pub row_taken : {p q : Outside} (after new : Work) → HasPushed (plan_of s (tallest s)) p q mid after → OnlyCount after new →
      TakesRow s old.at.rows p q old new
  row_taken {p = p} {q = q} after new pushed count =
      let k = old.at.rows in
      let strip_rows : rows_of new.strip ≡ k + 1 = ap rows_of count.strip ∙ pushed.strip_rows ∙ ap (λ n. n + 1) before in
      let running = count_running (plan_of s (tallest s)) after new count pushed.running in
      record {
        taken = record {
          running = running;
          rows = count.rows ∙ ap (λ n. n + 1) (pushed.rows ∙ ap (λ a. a.rows) only.at);
          strip_rows = strip_rows;
          index = λ more. index_settled (plan_of s (tallest s)) (tall_plan s range) (k + 1) new running strip_rows (omega (arith, few)) more;
        };
        row = subst (λ v. Agrees s.width (signal v.items) (signal old.row.items)) (sym (count.row ∙ pushed.row))
            (padded_kept (plan_of s (tallest s)) (tall_plan s range) old.row.items mid.row.items pad long);
        faults = pushed.faults;
        follows = λ x f is. record {
          tall = count_follows (plan_of s (tallest s)) x after new count (pushed.follows x (row_follows (plan_of s (tallest s)) x old mid only f.tall)
              (next_tall x is));
          any = λ rows height le.
              let now = strip_rows in
              let then = before in
              let was = taken.strip_rows in
              let below : k < rows = omega (arith, now, le) in
              subst (λ t. Follows (padded x rows s.width) (block_count rows) t) (sym count.strip)
              (pushed.strip x rows height.0 (omega (arith, below, then)) (subst (λ t. Follows (padded x rows s.width) (block_count rows) t) (sym only.strip)
              (f.any rows height (omega (arith, below, was))))
              (next rows height below x is));
        };
        goes = λ x f is.
            rw count.index
            (subst (λ n. Continues (plan_of s (tallest s)) (tall_blocks s x) n after.at.index p q) index
            (pushed.goes x (row_follows (plan_of s (tallest s)) x old mid only f.tall) (next_tall x is)));
      }

  pub row_breaks : {p q : Outside} (new : Work) → HasNotPushed (plan_of s (tallest s)) p q mid new → BreaksAt s old.at.rows p q old new
  row_breaks {p = p} {q = q} new broken = record {
    made = broken.made;
    rose = broken.rose;
    breaks = λ x f is.
        subst (λ n. StopsEarly (plan_of s (tallest s)) (tall_blocks s x) old.at.index (block_count s.width * settled (n + 1)) p q) before
        (subst (λ n. StopsEarly (plan_of s (tallest s)) (tall_blocks s x) n (block_count s.width * settled (rows_of mid.strip + 1)) p q) index
        (broken.breaks x (row_follows (plan_of s (tallest s)) x old mid only f.tall) (next_tall x is)));
  }
