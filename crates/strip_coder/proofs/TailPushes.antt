-- The last row of an image, pushed again for each row that pads it.
use Rattle.std.proofs.Common.{◌*◌, ◌≡◌, ℕ, ◌+◌, ◌-◌, ℤ, [], refl, ap, ◌∙◌, arith, min, Result, Ok, Err, IsErr, append-nil}
use Rattle.port_122.specs.Outside.{Outside, NoRead}
use Rattle.port_122.proofs.Stretches.{since_start, rose_since}
use Rattle.strip_coder.specs.Plans.{Job, IsPlan, whole}
use Rattle.base_122.specs.Sizes.{block_count, total_blocks}
use Rattle.wave_strip.specs.Counts.{settled}
use Rattle.wave_defs.specs.Held.{signal}
use Rattle.wave_strip.specs.Strip.{rows_of}
use Rattle.stream_defs.specs.Output.{image_blocks}
use Rattle.strip_coder.specs.declared.work.Work.{Work}
use Rattle.strip_coder.specs.Works.{IsRunning}
use Rattle.strip_coder.specs.Steps.{octets_at, HasPushed, HasNotPushed, NextRowIs, LastRowIs, HasPushedOn, PushesOn}
use Rattle.strip_coder.proofs.PacketStretches.{goes_then, breaks_then, breaks_whole}

pub none_pushed : {p : Outside} (s : Job) (w : Work) → IsRunning s w → HasPushedOn s 0 p p w w
none_pushed {p = p} s w running = record {
  running = running;
  strip_rows = omega arith;
  row = refl;
  faults = omega arith;
  follows = λ x f is. f;
  goes = λ x f is. record {
    gave = [];
    out = since_start p NoRead;
    then_are = append-nil (octets_at s (image_blocks (whole s) x) w.at.index);
  };
}

-- below the last row the padded image repeats it
next_is : {p q : Outside} (s : Job) (n : ℕ) (old mid : Work) (x : ℕ → ℕ → ℤ) → rows_of old.strip ≡ s.rows → HasPushedOn s n p q old mid →
    LastRowIs s x old → NextRowIs s x mid
next_is s n old mid x rows so_far is = record {
  at = λ j lt.
      let more = so_far.strip_rows in
      let e : min (s.rows - 1) (s.rows - 1) ≡ min (rows_of mid.strip) (s.rows - 1) = omega (arith, more, rows) in
      ap (λ v. signal v.items j) so_far.row ∙ is.at j lt ∙ ap (λ k. x k (min j (s.setting.width - 1))) e;
}

pub then_pushed : {p q r : Outside} (s : Job) (n : ℕ) (old mid new : Work) → rows_of old.strip ≡ s.rows → HasPushedOn s n p q old mid →
    HasPushed s q r mid new → HasPushedOn s (n + 1) p r old new
then_pushed {p = p} {q = q} s n old mid new rows so_far here =
    let a = so_far.strip_rows in
    let b = here.strip_rows in
    let f = so_far.faults in
    let g = here.faults in
    record {
      running = here.running;
      strip_rows = omega (arith, a, b);
      row = here.row ∙ so_far.row;
      faults = omega (arith, f, g);
      follows = λ x f is. here.follows x (so_far.follows x f is) (next_is {p = p} {q = q} s n old mid x rows so_far is);
      goes = λ x f is. goes_then s (image_blocks (whole s) x) old.at.index mid.at.index new.at.index (so_far.goes x f is)
          (here.goes x (so_far.follows x f is) (next_is {p = p} {q = q} s n old mid x rows so_far is));
    }

pub then_unpushed : {T E : Type 0} (p q r : Outside) (result : Result T E) (s : Job) (n all : ℕ) (old mid new : Work) → IsPlan s → IsErr result →
    rows_of old.strip ≡ s.rows →
    HasPushedOn s n p q old mid → HasNotPushed s q r mid new → PushesOn result s all p r old new
then_unpushed p q r (Ok x) s n all old mid new range h rows so_far here = absurd cc
then_unpushed p q r (Err x) s n all old mid new range h rows so_far here = record {
  made = here.made;
  rose = rose_since so_far.faults here.rose;
  breaks = λ x f is.
      breaks_then s (image_blocks (whole s) x) old.at.index mid.at.index (total_blocks s.setting.width s.rows) (so_far.goes x f is)
      (breaks_whole s (image_blocks (whole s) x) mid.at.index (block_count s.setting.width * settled (rows_of mid.strip + 1)) range
      (here.breaks x (so_far.follows x f is) (next_is {p = p} {q = q} s n old mid x rows so_far is)));
}
