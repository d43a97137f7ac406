-- A row that was pushed into a work's strip.
use Rattle.std.proofs.Common.{◌≡◌, ◌≢◌, ℕ, ◌+◌, ◌-◌, ◌*◌, ◌/◌, ◌<◌, ◌≤◌, ℤ, List, [], sym, ap, ◌∙◌, subst, arith, vec_len, Option, Some, None, Result, Ok}
use Rattle.std.proofs.Common.{Err, true, false, MatchOption, is_some, append-nil}
use Rattle.port_122.specs.Outside.{Outside, NoRead}
use Rattle.port_122.proofs.Stretches.{since_start}
use Rattle.segment_code.specs.declared.encode.SegmentWriter.{SegmentWriter}
use Rattle.strip_coder.specs.Plans.{Job, IsPlan, plan_of, whole}
use Rattle.base_122.specs.Ranges.{IsWithin, rows_range}
use Rattle.base_122.specs.Sizes.{block_count, padded_size}
use Rattle.base_122.proofs.SizeBounds.{three-le-block_count}
use Rattle.wave_defs.specs.Held.{Agrees, signal}
use Rattle.wave_defs.specs.Pyramid.{padded}
use Rattle.block_families.specs.Places.{gathered}
use Rattle.wave_strip.specs.declared.strip.StripWave.{StripWave}
use Rattle.wave_strip.specs.Strip.{rows_of, answered_of, columns_of, has_ended, is_current, number_in, Follows, ShowsBlockRow}
use Rattle.wave_strip.specs.Counts.{settled}
use Rattle.stream_defs.specs.Output.{image_blocks}
use Rattle.strip_coder.specs.declared.work.Work.{Work}
use Rattle.strip_coder.specs.Works.{IsMadeFor, HasGathered, IsRunning, HoldsBlocks, StripFollows, gathered_in}
use Rattle.strip_coder.specs.Steps.{octets_at, NextAre, NextRowIs, HasGone, HasBroken, Gathers, Continues, StopsEarly, HasPushed, HasNotPushed, Pushes}
use Rattle.strip_coder.proofs.RowGathers.{next_are}
use Rattle.strip_coder.proofs.PacketStretches.{breaks_more}

-- the effect of push_row on a strip
pub record StripPushed (old new : StripWave) (row : List ℤ) : Type 0 where
  pub columns : columns_of new ≡ columns_of old
  pub rows : rows_of new ≡ rows_of old + 1
  pub running : has_ended new ≡ false
  pub answered : answered_of new ≡ settled (rows_of new)
  pub follows : (image : ℕ → ℕ → ℤ) (r : ℕ) → 3 ≤ r → rows_of old < 8 * r → Follows image r old →
      Agrees (8 * columns_of old) (signal row) (image (rows_of old)) → Follows image r new
  pub shows : (image : ℕ → ℕ → ℤ) (r : ℕ) → is_current new ≡ true → 3 ≤ r → rows_of new ≤ 8 * r → Follows image r new → ShowsBlockRow image r new

-- only the strip of a work was changed
pub record OnlyStrip (old mid : Work) : Type 0 where
  pub row : mid.row ≡ old.row
  pub blocks : mid.blocks ≡ old.blocks
  pub packets : mid.packets ≡ old.packets
  pub writer : mid.writer ≡ old.writer
  pub room : mid.room ≡ old.room
  pub at : mid.at ≡ old.at

pub only_holds : (s : Job) (old mid : Work) → OnlyStrip old mid → (all : List (List ℤ)) → HoldsBlocks s all old → HoldsBlocks s all mid
only_holds s old mid only all holds = record {
  blocks = rw (only.at, only.blocks) holds.blocks;
  given = rw (only.at, only.packets) holds.given;
  used = rw only.at holds.used;
}

-- the block row that was completed: its rows, its number, and that the strip holds it
pub record Came (strip : StripWave) : Type 0 where
  pub block_row : ℕ
  pub rows : rows_of strip ≡ 8 * block_row + 29
  pub valid : is_current strip ≡ true

pub it_came : (o : Option ℕ) (strip : StripWave) (answered : ℕ) → is_some o ≡ true →
    MatchOption o ((r : ℕ) → rows_of strip ≢ 8 * r + 29) (λ r. rows_of strip ≡ 8 * r + 29) →
    MatchOption o (is_current strip ≡ false) (λ r. (is_current strip ≡ true) × (answered ≡ r + 1)) → Came strip
it_came (Some r) strip answered e rows valid = record { block_row = r; rows = rows; valid = valid.0 }
it_came None strip answered e rows valid = absurd cc

pub none_came : (o : Option ℕ) (rows : ℕ) → is_some o ≡ false → MatchOption o ((r : ℕ) → rows ≢ 8 * r + 29) (λ r. rows ≡ 8 * r + 29) → (r : ℕ) →
    rows ≢ 8 * r + 29
none_came (Some r) rows e h = absurd cc
none_came None rows e h = h

module _ (s : Job) (range : IsPlan s) (old mid : Work) (running : IsRunning s old) (few : rows_of old.strip < padded_size s.rows)
    (only : OnlyStrip old mid) (pushed : StripPushed old.strip mid.strip old.row.items) where
  tall : 3 ≤ block_count s.rows
  tall = three-le-block_count s.rows range.height.0.0

  mid_made : IsMadeFor s.setting mid
  mid_made = let made = running.gathered.made in record {
    row = ap (λ v. vec_len v) only.row ∙ made.row;
    blocks = rw only.blocks made.blocks;
    strip = pushed.columns ∙ made.strip;
    packet = ap (λ v. v.packet) only.packets ∙ made.packet;
    writer = ap (λ (v : SegmentWriter). v.tables.book) only.writer ∙ made.writer;
    room = only.room ∙ made.room;
  }

  pub mid_gathered : HasGathered s mid
  mid_gathered = let has = running.gathered in record {
    made = mid_made;
    share = rw only.at has.share;
    index = rw only.at has.index;
    present = rw only.at has.present;
    none = rw only.at has.none;
    held = rw (only.at, only.blocks) has.held;
    ready = rw (only.at, only.packets) has.ready;
  }

  mid_holds : (all : List (List ℤ)) → HoldsBlocks s all old → HoldsBlocks s all mid
  mid_holds all holds = only_holds s old mid only all holds

  -- the strip follows images of any height
  mid_strip : (x : ℕ → ℕ → ℤ) (rows : ℕ) → IsWithin rows_range rows → rows_of old.strip < padded_size rows → StripFollows (plan_of s.setting rows) x old →
      NextRowIs (plan_of s.setting rows) x old →
      StripFollows (plan_of s.setting rows) x mid
  mid_strip x rows high below follows next =
      let columns : 8 * columns_of old.strip ≡ padded_size s.setting.width = (let made = running.gathered.made.strip in omega (arith, made)) in
      pushed.follows (padded x rows s.setting.width) (block_count rows) (three-le-block_count rows high.0) (omega (arith, below)) follows
      (subst (λ n. Agrees n (signal old.row.items) (padded x rows s.setting.width (rows_of old.strip))) (sym columns) next)

  mid_follows : (x : ℕ → ℕ → ℤ) → StripFollows s x old → NextRowIs s x old → StripFollows s x mid
  mid_follows x follows next = mid_strip x s.rows range.height.0 few follows next

  same_index : mid.at.index ≡ old.at.index
  same_index = ap (λ a. a.index) only.at

  -- no block row was completed
  pub pushed_none : {p : Outside} → ((r : ℕ) → rows_of mid.strip ≢ 8 * r + 29) → HasPushed s p p old mid
  pushed_none {p = p} none =
      let rows = pushed.rows in
      let same : settled (rows_of mid.strip) ≡ settled (rows_of old.strip) = (let apart = none ((rows_of old.strip - 28) / 8) in omega (arith, apart, rows)) in
      let count : gathered_in s mid.at ≡ block_count s.setting.width * settled (rows_of mid.strip) =
      ap (gathered_in s) only.at ∙ running.count ∙ ap (λ n. block_count s.setting.width * n) (sym same) in
      record {
        running = record { gathered = mid_gathered; count = count; answered = pushed.answered; running = pushed.running };
        strip_rows = rows;
        row = only.row;
        rows = ap (λ a. a.rows) only.at;
        faults = omega arith;
        follows = λ x follows next. record { strip = mid_follows x follows.strip next; holds = mid_holds (image_blocks (whole s) x) follows.holds };
        strip = λ x rows high below follows next. mid_strip x rows high (omega (arith, below)) follows next;
        goes = λ x follows next. record {
          gave = [];
          out = since_start p NoRead;
          then_are = append-nil (octets_at s (image_blocks (whole s) x) old.at.index) ∙ ap (octets_at s (image_blocks (whole s) x)) (sym same_index);
        };
      }

  module _ (came : Came mid.strip) where
    settled_before : settled (rows_of old.strip) ≡ came.block_row
    settled_before = let rows = pushed.rows in let e = came.rows in omega (arith, rows, e)

    settled_now : settled (rows_of mid.strip) ≡ came.block_row + 1
    settled_now = let e = came.rows in omega (arith, e)

    next_blocks : (x : ℕ → ℕ → ℤ) → StripFollows s x mid →
        NextAre s mid (block_count s.setting.width) (gathered (number_in mid.strip) s.setting.weights.shifts) (image_blocks (whole s) x)
    next_blocks x follows =
        let rows = pushed.rows in
        let e = came.rows in
        let last : rows_of mid.strip ≤ 8 * block_count s.rows = omega (arith, rows, few) in
        next_are s x mid came.block_row range mid_made.strip (pushed.answered ∙ settled_now) (omega (arith, e, last))
        (ap (gathered_in s) only.at ∙ running.count ∙ ap (λ n. block_count s.setting.width * n) settled_before)
        (pushed.shows (padded x s.rows s.setting.width) (block_count s.rows) came.valid tall last follows)

    pushed_gone : {p q : Outside} (new : Work) → HasGone s (gathered (number_in mid.strip) s.setting.weights.shifts) (block_count s.setting.width) p q mid
        new → HasPushed s p q old new
    pushed_gone {p = p} {q = q} new gone =
        let strip = gone.stays.strip in
        let c = block_count s.setting.width in
        let more : c * (came.block_row + 1) ≡ c * came.block_row + c = grind arith in
        let before : gathered_in s mid.at ≡ c * came.block_row = ap (gathered_in s) only.at ∙ running.count ∙ ap (λ n. c * n) settled_before in
        let now : c * settled (rows_of new.strip) ≡ c * (came.block_row + 1) = ap (λ t. c * settled (rows_of t)) strip ∙ ap (λ n. c * n) settled_now in
        let gone_count = gone.count in
        record {
          running = record {
            gathered = gone.gathered;
            count = omega (arith, gone_count, before, more, now);
            answered = ap answered_of strip ∙ pushed.answered ∙ ap (λ t. settled (rows_of t)) (sym strip);
            running = ap has_ended strip ∙ pushed.running;
          };
          strip_rows = ap rows_of strip ∙ pushed.rows;
          row = gone.stays.row ∙ only.row;
          rows = gone.stays.rows ∙ ap (λ a. a.rows) only.at;
          faults = gone.faults;
          follows = λ x follows next.
              let f = mid_follows x follows.strip next in
              record {
                strip = subst (λ t. Follows (padded x s.rows s.setting.width) (block_count s.rows) t) (sym strip) f;
                holds = gone.holds (image_blocks (whole s) x) (next_blocks x f) (mid_holds (image_blocks (whole s) x) follows.holds);
              };
          strip = λ x rows high below follows next.
              subst (λ t. Follows (padded x rows s.setting.width) (block_count rows) t) (sym strip) (mid_strip x rows high (omega (arith, below)) follows next);
          goes = λ x follows next.
              subst (λ n. Continues s (image_blocks (whole s) x) n new.at.index p q) same_index
              (gone.goes (image_blocks (whole s) x) (next_blocks x (mid_follows x follows.strip next)) (mid_holds (image_blocks (whole s) x) follows.holds));
        }

    pushed_broken : {p q : Outside} (new : Work) → HasBroken s (gathered (number_in mid.strip) s.setting.weights.shifts) (block_count s.setting.width) p q
        mid new → HasNotPushed s p q old new
    pushed_broken {p = p} {q = q} new broken = record {
      made = broken.made;
      rose = broken.rose;
      breaks = λ x follows next.
          let c = block_count s.setting.width in
          let more : c * (came.block_row + 1) ≡ c * came.block_row + c = grind arith in
          let before : gathered_in s mid.at ≡ c * came.block_row = ap (gathered_in s) only.at ∙ running.count ∙ ap (λ n. c * n) settled_before in
          let now : c * settled (rows_of old.strip + 1) ≡ c * (came.block_row + 1) = ap (λ n. c * n) (ap settled (sym pushed.rows) ∙ settled_now) in
          breaks_more s (image_blocks (whole s) x) old.at.index (gathered_in s mid.at + c) (c * settled (rows_of old.strip + 1))
          (omega (arith, before, more, now))
          (subst (λ n. StopsEarly s (image_blocks (whole s) x) n (gathered_in s mid.at + c) p q) same_index
          (broken.breaks (image_blocks (whole s) x) (next_blocks x (mid_follows x follows.strip next)) (mid_holds (image_blocks (whole s) x) follows.holds)));
    }

    pub pushed_some : {T E : Type 0} (p q : Outside) (r : Result T E) (new : Work) → Gathers r s (gathered (number_in mid.strip) s.setting.weights.shifts)
        (block_count s.setting.width) p q mid new → Pushes r s p q old new
    pushed_some p q (Ok x) new gone = pushed_gone new gone
    pushed_some p q (Err x) new broken = pushed_broken new broken
