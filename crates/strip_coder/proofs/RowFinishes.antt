-- A block row that is added at the end of an image.
use Rattle.std.proofs.Common.{◌≡◌, ℕ, ◌+◌, ◌*◌, ◌/◌, ◌<◌, ◌≤◌, ℤ, sym, ap, ◌∙◌, subst, arith, Option, Some, None, Result, Ok, Err, Bool, true, false}
use Rattle.std.proofs.Common.{MatchOption, is_some, IsErr, mul-le-mul_left}
use Rattle.std.proofs.lemmas.Bool.Decides.{nat_tests}
use Rattle.port_122.specs.Outside.{Outside}
use Rattle.strip_coder.specs.Plans.{Job, IsPlan, whole}
use Rattle.base_122.specs.Sizes.{block_count, total_blocks}
use Rattle.wave_defs.specs.Pyramid.{padded}
use Rattle.block_families.specs.Places.{gathered}
use Rattle.wave_strip.specs.declared.strip.StripWave.{StripWave}
use Rattle.wave_strip.specs.Strip.{rows_of, answered_of, columns_of, is_current, number_in, Follows, ShowsBlockRow}
use Rattle.stream_defs.specs.Output.{image_blocks}
use Rattle.strip_coder.specs.declared.work.Work.{Work}
use Rattle.strip_coder.specs.Works.{StripFollows, gathered_in}
use Rattle.strip_coder.specs.Steps.{NextAre, HasGone, HasBroken, Continues, StopsEarly, IsEnding, HasFinished, Finishes}
use Rattle.strip_coder.proofs.RowGathers.{next_are}
use Rattle.strip_coder.proofs.RowPushes.{OnlyStrip, only_holds}
use Rattle.strip_coder.proofs.PacketStretches.{breaks_whole}

-- the strip holds the next of its block rows
pub record StripFinished (old new : StripWave) : Type 0 where
  pub columns : columns_of new ≡ columns_of old
  pub rows : rows_of new ≡ rows_of old
  pub below : answered_of old < rows_of old / 8
  pub answered : answered_of new ≡ answered_of old + 1
  pub valid : is_current new ≡ true
  pub follows : (image : ℕ → ℕ → ℤ) (r : ℕ) → rows_of old ≡ 8 * r → Follows image r old → Follows image r new
  pub shows : (image : ℕ → ℕ → ℤ) (r : ℕ) → is_current new ≡ true → rows_of new ≡ 8 * r → Follows image r new → ShowsBlockRow image r new

pub row_finished : (o : Option ℕ) (old new : StripWave) → is_some o ≡ true → columns_of new ≡ columns_of old → rows_of new ≡ rows_of old →
    MatchOption o (rows_of old / 8 ≤ answered_of old) (λ r. (r ≡ answered_of old) × (r < rows_of old / 8)) →
    MatchOption o ((is_current new ≡ false) × (answered_of new ≡ answered_of old)) (λ r. (is_current new ≡ true) × (answered_of new ≡ r + 1)) →
    ((image : ℕ → ℕ → ℤ) (r : ℕ) → rows_of old ≡ 8 * r → Follows image r old → Follows image r new) →
    ((image : ℕ → ℕ → ℤ) (r : ℕ) → is_current new ≡ true → rows_of new ≡ 8 * r → Follows image r new → ShowsBlockRow image r new) → StripFinished old new
row_finished (Some r) old new e columns rows answer current follows shows = record {
  columns = columns;
  rows = rows;
  below = (let at = answer.0 in let lt = answer.1 in omega (arith, at, lt));
  answered = current.1 ∙ ap (λ n. n + 1) answer.0;
  valid = current.0;
  follows = follows;
  shows = shows;
}
row_finished None old new e columns rows answer current follows shows = absurd cc

-- there is room for it
pub has_room : (s : Job) (old : Work) (strip : StripWave) → IsEnding s old → StripFinished old.strip strip →
    gathered_in s old.at + block_count s.setting.width ≤ total_blocks s.setting.width s.rows
has_room s old strip ending finished = grind (arith, nat_tests, mul-le-mul_left)

module _ (s : Job) (range : IsPlan s) (old mid : Work) (ending : IsEnding s old) (only : OnlyStrip old mid) (finished : StripFinished old.strip mid.strip)
  where
    all_rows : rows_of old.strip ≡ 8 * block_count s.rows
    all_rows = let rows = ending.rows in omega (arith, rows)

    below : answered_of old.strip < block_count s.rows
    below = let lt = finished.below in let rows = ending.rows in omega (arith, lt, rows)

    place : gathered_in s mid.at ≡ block_count s.setting.width * answered_of old.strip
    place = ap (gathered_in s) only.at ∙ ending.count

    more : block_count s.setting.width * (answered_of old.strip + 1) ≡ block_count s.setting.width * answered_of old.strip + block_count s.setting.width
    more = grind arith

    mid_follows : (x : ℕ → ℕ → ℤ) → StripFollows s x old → StripFollows s x mid
    mid_follows x follows = finished.follows (padded x s.rows s.setting.width) (block_count s.rows) all_rows follows

    next_blocks : (x : ℕ → ℕ → ℤ) → StripFollows s x mid →
        NextAre s mid (block_count s.setting.width) (gathered (number_in mid.strip) s.setting.weights.shifts) (image_blocks (whole s) x)
    next_blocks x follows =
        next_are s x mid (answered_of old.strip) range (finished.columns ∙ ending.gathered.made.strip) finished.answered below place
        (finished.shows (padded x s.rows s.setting.width) (block_count s.rows) finished.valid (finished.rows ∙ all_rows) follows)

    same_index : mid.at.index ≡ old.at.index
    same_index = ap (λ a. a.index) only.at

    pub finished_gone : {p q : Outside} (new : Work) → HasGone s (gathered (number_in mid.strip) s.setting.weights.shifts) (block_count s.setting.width) p q
        mid new → HasFinished s p q old new
    finished_gone {p = p} {q = q} new gone =
        let strip = gone.stays.strip in
        let answered : answered_of new.strip ≡ answered_of old.strip + 1 = ap answered_of strip ∙ finished.answered in
        let now : block_count s.setting.width * answered_of new.strip ≡ block_count s.setting.width * (answered_of old.strip + 1) =
        ap (λ n. block_count s.setting.width * n) answered in
        let count = gone.count in
        let at = place in
        let e = more in
        let lt = below in
        record {
          ending = record {
            gathered = gone.gathered;
            count = omega (arith, count, at, e, now);
            rows = ap rows_of strip ∙ finished.rows ∙ ending.rows;
            most = omega (arith, answered, lt);
          };
          answered = answered;
          faults = gone.faults;
          follows = λ x f.
              let m = mid_follows x f.strip in
              record {
                strip = subst (λ t. Follows (padded x s.rows s.setting.width) (block_count s.rows) t) (sym strip) m;
                holds = gone.holds (image_blocks (whole s) x) (next_blocks x m) (only_holds s old mid only (image_blocks (whole s) x) f.holds);
              };
          goes = λ x f.
              subst (λ n. Continues s (image_blocks (whole s) x) n new.at.index p q) same_index
              (gone.goes (image_blocks (whole s) x) (next_blocks x (mid_follows x f.strip)) (only_holds s old mid only (image_blocks (whole s) x) f.holds));
        }

    pub finished_broken : {E : Type 0} (p q : Outside) (r : Result Bool E) (new : Work) → IsErr r →
        HasBroken s (gathered (number_in mid.strip) s.setting.weights.shifts) (block_count s.setting.width) p q mid new → Finishes r s p q old new
    finished_broken p q (Ok x) new h broken = absurd cc
    finished_broken p q (Err x) new h broken = record {
      made = broken.made;
      rose = broken.rose;
      breaks = λ x f.
          breaks_whole s (image_blocks (whole s) x) old.at.index (gathered_in s mid.at + block_count s.setting.width) range
          (subst (λ n. StopsEarly s (image_blocks (whole s) x) n (gathered_in s mid.at + block_count s.setting.width) p q) same_index
          (broken.breaks (image_blocks (whole s) x) (next_blocks x (mid_follows x f.strip)) (only_holds s old mid only (image_blocks (whole s) x) f.holds)));
    }
