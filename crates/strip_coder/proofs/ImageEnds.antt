-- The end of an image: all block rows gathered.
use Rattle.std.proofs.Common.{◌≡◌, ℕ, ◌-◌, ◌*◌, ℤ, [], length, refl, sym, ap, ◌∙◌, subst, arith, inl, inr, Result, Ok, Err, MatchResult, IsErr, append-nil}
use Rattle.std.proofs.lemmas.Bool.Decides.{nat_tests}
use Rattle.port_122.specs.Outside.{Outside, NoRead}
use Rattle.port_122.proofs.Stretches.{since_start, rose_since}
use Rattle.strip_coder.specs.Plans.{Job, IsPlan, plan_of, tallest, whole}
use Rattle.base_122.specs.Ranges.{IsInRange}
use Rattle.base_122.specs.Setting.{IsHeight}
use Rattle.base_122.specs.Sizes.{block_count, padded_size, total_blocks}
use Rattle.base_122.specs.declared.setting.Setting.{Setting}
use Rattle.raster_rows.specs.Padding.{IsPadded}
use Rattle.wave_strip.specs.Strip.{rows_of, answered_of}
use Rattle.stream_defs.specs.Output.{image_blocks, segments_of}
use Rattle.strip_coder.specs.declared.encode.EncodeDone.{EncodeDone}
use Rattle.strip_coder.specs.declared.work.Work.{Work}
use Rattle.strip_coder.specs.Works.{IsRunning, HasTaken, FollowsImage, FollowsRows}
use Rattle.strip_coder.specs.Steps.{octets_at, Continues, StopsEarly, IsEnding, HasFinished, HasFinishedOn, HasNoMore, HasNotFinished, AllOut, RowIs, LastRowIs}
use Rattle.strip_coder.specs.Steps.{HasPushedOn, HasNotPushedOn, HasEnded, EndBreaks, EndsImage}
use Rattle.strip_coder.proofs.PlanLaws.{tall_or_open}
use Rattle.strip_coder.proofs.OtherHeights.{open_running, open_follows}
use Rattle.strip_coder.proofs.DoneCounts.{counted}
use Rattle.strip_coder.proofs.GatherSteps.{place_is}
use Rattle.strip_coder.proofs.RowTakes.{OnlyRow, padded_next, row_follows}
use Rattle.strip_coder.proofs.PacketStretches.{goes_then, breaks_then}

pub none_finished : {p : Outside} (s : Job) (w : Work) → IsEnding s w → HasFinishedOn s p p w w
none_finished {p = p} s w ending = record {
  ending = ending;
  faults = omega arith;
  follows = λ x f. f;
  goes = λ x f. record {
    gave = [];
    out = since_start p NoRead;
    then_are = append-nil (octets_at s (image_blocks (whole s) x) w.at.index);
  };
}

pub then_finished : {p q r : Outside} (s : Job) (old mid new : Work) → HasFinishedOn s p q old mid → HasFinished s q r mid new → HasFinishedOn s p r old new
then_finished s old mid new so_far here = record {
  ending = here.ending;
  faults = (let a = so_far.faults in let b = here.faults in omega (arith, a, b));
  follows = λ x f. here.follows x (so_far.follows x f);
  goes = λ x f. goes_then s (image_blocks (whole s) x) old.at.index mid.at.index new.at.index (so_far.goes x f) (here.goes x (so_far.follows x f));
}

-- if all blocks were gathered, all segments were written
all_segments : (s : Job) (w : Work) → IsPlan s → IsEnding s w → answered_of w.strip ≡ block_count s.rows → w.at.index ≡ segments_of (whole s)
all_segments s w range ending all = grind (arith, nat_tests, place_is)

pub all_out : {p q r : Outside} (s : Job) (old mid new : Work) → IsPlan s → HasFinishedOn s p q old mid → HasNoMore s q r mid new → AllOut s p r old new
all_out {p = p} {q = q} s old mid new range so_far none =
    let index = all_segments s mid range so_far.ending none.all in
    record {
      made = none.made;
      faults = (let a = so_far.faults in let e = ap (λ (o : Outside). o.write_faults) none.still in omega (arith, a, e));
      valid = λ x f. rw (none.packets, none.at, sym index) (so_far.follows x f).holds.given;
      goes = λ x f. subst (λ (o : Outside). Continues s (image_blocks (whole s) x) old.at.index (segments_of (whole s)) p o) (sym none.still)
          (subst (λ n. Continues s (image_blocks (whole s) x) old.at.index n p q) index (so_far.goes x f));
    }

pub then_unfinished : {T E : Type 0} (p q r : Outside) (result : Result T E) (s : Job) (old mid new : Work) → IsErr result → HasFinishedOn s p q old mid →
    HasNotFinished s q r mid new →
    MatchResult result (λ _. AllOut s p r old new) (λ _. HasNotFinished s p r old new)
then_unfinished p q r (Ok x) s old mid new h so_far here = absurd cc
then_unfinished p q r (Err x) s old mid new h so_far here = record {
  made = here.made;
  rose = rose_since so_far.faults here.rose;
  breaks = λ x f. breaks_then s (image_blocks (whole s) x) old.at.index mid.at.index (total_blocks s.setting.width s.rows) (so_far.goes x f)
      (here.breaks x (so_far.follows x f));
}

-- once the padding rows of the image were pushed, the other block rows follow at the end
pub all_pushed : {p q : Outside} (s : Job) (old new : Work) → rows_of old.strip ≡ s.rows → HasPushedOn s (padded_size s.rows - s.rows) p q old new →
    IsEnding s new
all_pushed s old new rows pushed =
    let more = pushed.strip_rows in
    let answered = pushed.running.answered in
    let whole : rows_of new.strip ≡ padded_size s.rows = omega (arith, more, rows) in
    record {
      gathered = pushed.running.gathered;
      count = pushed.running.count ∙ ap (λ n. block_count s.setting.width * n) (sym answered);
      rows = whole;
      most = omega (arith, answered, whole);
    }

module _ {p q r : Outside} (s : Job) (n : ℕ) (old mid new : Work) (pushed : HasPushedOn s n p q old mid) where
  pub rest_given : AllOut s q r mid new → HasEnded s p r old new
  rest_given out = record {
    made = out.made;
    faults = (let a = pushed.faults in let b = out.faults in omega (arith, a, b));
    given = λ x f is. out.valid x (pushed.follows x f is);
    goes = λ x f is. goes_then s (image_blocks (whole s) x) old.at.index mid.at.index (segments_of (whole s)) (pushed.goes x f is)
        (out.goes x (pushed.follows x f is));
  }

  pub rest_broken : HasNotFinished s q r mid new → HasNotPushedOn s p r old new
  rest_broken broken = record {
    made = broken.made;
    rose = rose_since pushed.faults broken.rose;
    breaks = λ x f is. breaks_then s (image_blocks (whole s) x) old.at.index mid.at.index (total_blocks s.setting.width s.rows) (pushed.goes x f is)
        (broken.breaks x (pushed.follows x f is));
  }

-- ---- the end as a whole

-- a work that took all rows of an image
pub all_running : (t : Setting) (rows : ℕ) (w : Work) → IsInRange t → IsHeight t rows → HasTaken (plan_of t (tallest t)) rows w → IsRunning (plan_of t rows) w
all_running t rows w range height taken = elim (tall_or_open t rows range height) [
  | inl tall ↦ subst (λ n. IsRunning (plan_of t n) w) (sym tall) taken.running
  | inr other ↦ open_running t range other.0 rows height other.1 w taken
]

pub all_follows : (t : Setting) (rows : ℕ) (w : Work) → IsInRange t → IsHeight t rows → HasTaken (plan_of t (tallest t)) rows w → (x : ℕ → ℕ → ℤ) →
    FollowsRows t x w → FollowsImage (plan_of t rows) x w
all_follows t rows w range height taken x f = elim (tall_or_open t rows range height) [
  | inl tall ↦ subst (λ n. FollowsImage (plan_of t n) x w) (sym tall) f.tall
  | inr other ↦ open_follows t range other.0 rows height other.1 w taken x f
]

module _ (t : Setting) (rows : ℕ) (range : IsPlan (plan_of t rows)) (old mid : Work) (only : OnlyRow old mid)
    (pad : IsPadded t.width old.row.items mid.row.items) (long : length mid.row.items ≡ padded_size t.width)
    (image : (x : ℕ → ℕ → ℤ) → FollowsRows t x old → FollowsImage (plan_of t rows) x old) where
  abbrev s : Job
  s = plan_of t rows

  last_is : (x : ℕ → ℕ → ℤ) → RowIs t x (rows - 1) old → LastRowIs s x mid
  last_is x is = let high = range.height.0.0 in padded_next s range old.row.items mid.row.items pad long x (rows - 1) (omega (arith, high)) is

  same_index : mid.at.index ≡ old.at.index
  same_index = ap (λ a. a.index) only.at

  follows : (x : ℕ → ℕ → ℤ) → FollowsRows t x old → FollowsImage s x mid
  follows x f = row_follows s x old mid only (image x f)

  pub image_ends : {p q : Outside} (new : Work) (done : EncodeDone) → HasEnded s p q mid new →
      done ≡ record { segments = segments_of (whole s); packets = new.packets.packets; octets = new.packets.octets } → EndsImage t rows p q old new done
  image_ends {p = p} {q = q} new done out is = record {
    made = out.made;
    faults = out.faults;
    goes = λ x f row.
        subst (λ i. Continues s (image_blocks (whole s) x) i (segments_of (whole s)) p q) same_index (out.goes x (follows x f) (last_is x row));
    done = λ x f row. counted s range (image_blocks (whole s) x) x new.packets done refl (out.given x (follows x f) (last_is x row)) is;
  }

  pub image_breaks : {p q : Outside} (new : Work) → HasNotPushedOn s p q mid new → EndBreaks t rows p q old new
  image_breaks {p = p} {q = q} new broken = record {
    made = broken.made;
    rose = broken.rose;
    breaks = λ x f row.
        subst (λ i. StopsEarly s (image_blocks (whole s) x) i (total_blocks t.width rows) p q) same_index (broken.breaks x (follows x f) (last_is x row));
  }
