use Rattle.std.proofs.Common.{◌≡◌, ℕ, ◌+◌, ◌-◌, ◌*◌, ◌^◌, ℤ, List, [], refl, sym, subst, arith, drop, length}
use Rattle.std.proofs.Math.Seq.{take_at}
use Rattle.wave_defs.specs.Within.{AllWithin}
use Rattle.wave_defs.specs.Held.{signal}
use Rattle.wave_defs.specs.Rings.{AreRows, AreNewest}
use Rattle.inverse_strip.specs.Kept.{level_bound}
use Rattle.inverse_strip.specs.Zeros.{AreZeroRows}
use Rattle.lift_rows.proofs.Fits.{AllWithin-more}
use Rattle.inverse_strip.proofs.StageLemmas.{waiting-at, waiting-small, low-at}
use Rattle.inverse_strip.proofs.ZeroPairs.{newest-zero}
use Rattle.inverse_strip.proofs.stage.LevelStage.feed.Goals as goal

pub push-requires-clause-small_hl : goal.push-requires-clause-small_hl
push-requires-clause-small_hl c =
    let s = c.args.self.now in
    waiting-small (2 ^ 27) (2 ^ 27) s.level.left.width s.kept _ s.hl _ s.hl_valid c.at.ensures (omega arith) (omega arith) s.hl_small

pub push-requires-clause-small_lh : goal.push-requires-clause-small_lh
push-requires-clause-small_lh c =
    let s = c.args.self.now in
    waiting-small (2 ^ 27) (2 ^ 27) s.level.left.width s.kept _ s.lh _ s.lh_valid c.at-2.ensures (omega arith) (omega arith) s.lh_small

pub push-requires-clause-small_hh : goal.push-requires-clause-small_hh
push-requires-clause-small_hh c =
    let s = c.args.self.now in
    waiting-small (2 ^ 27) (2 ^ 27) s.level.left.width s.kept _ s.hh _ s.hh_valid c.at-3.ensures (omega arith) (omega arith) s.hh_small

pub returns-clause-follows : goal.returns-clause-follows
returns-clause-follows c = λ b q n below more end same follow.
    let s = c.args.self.now in
    let w = s.level.left.width in
    let k = s.level.left.taken in
    let row = c.next_row.new.into in
    let whole = take_at row (drop (length row) s.level.left_row.items) s.level.left_row.len (omega arith) in
    let made = c.next_row.ensures.value b n below more end in
    let ll = low-at q b n w c.args.before.now.left.width c.args.before.now.given k row _ c.requires.wide c.requires.next same whole made in
    let hl = waiting-at q.hl w s.kept s.came k s.hl _ s.hl_valid c.at.ensures (omega arith) s.waits follow.hl in
    let lh = waiting-at q.lh w s.kept s.came k s.lh _ s.lh_valid c.at-2.ensures (omega arith) s.waits follow.lh in
    let hh = waiting-at q.hh w s.kept s.came k s.hh _ s.hh_valid c.at-3.ensures (omega arith) s.waits follow.hh in
    let width = sym c.push.ensures.width in
    record {
      level = c.push.ensures.follows q (record { left = follow.level.left; right = follow.level.right }) ll hl lh hh;
      hl = subst (λ (v : ℕ). AreNewest q.hl v s.came s.hl) width follow.hl;
      lh = subst (λ (v : ℕ). AreNewest q.lh v s.came s.lh) width follow.lh;
      hh = subst (λ (v : ℕ). AreNewest q.hh v s.came s.hh) width follow.hh;
    }

pub push-requires-clause-small_ll : goal.push-requires-clause-small_ll
push-requires-clause-small_ll c =
    let s = c.args.self.now in
    let w = s.level.left.width in
    let row = c.next_row.new.into in
    let whole = take_at row (drop (length row) s.level.left_row.items) s.level.left_row.len (omega arith) in
    let wide : 2 * c.args.before.now.left.width ≡ w = omega arith in
    let within = subst (λ (v : ℕ). AllWithin (level_bound (21 * 2 ^ 25)) v (signal row)) wide (c.next_row.ensures.row_within (21 * 2 ^ 25) c.requires.within) in
    rw whole (AllWithin-more _ (375 * 2 ^ 22) w _ (omega arith) within)

pub returns-clause-within : goal.returns-clause-within
returns-clause-within c = λ m k below le small.
    let s = c.args.self.now in
    let w = s.level.left.width in
    let row = c.next_row.new.into in
    let whole = take_at row (drop (length row) s.level.left_row.items) s.level.left_row.len (omega arith) in
    let wide : 2 * c.args.before.now.left.width ≡ w = omega arith in
    let within = subst (λ (v : ℕ). AllWithin (level_bound m) v (signal row)) wide (c.next_row.ensures.row_within m below) in
    c.push.ensures.within k small (rw whole (AllWithin-more (level_bound m) k w (signal row) le within))

pub returns-then-zero-clause-zero : goal.returns-then-zero-clause-zero
returns-then-zero-clause-zero c = λ e.
    let zero = (c.requires.zero e).1 in (
      c.skip_row.ensures.zero,
      record { level = c.pass.ensures.zero; hl = zero.hl; lh = zero.lh; hh = zero.hh },
    )

pub returns-then-zero-clause-follows : goal.returns-then-zero-clause-follows
returns-then-zero-clause-follows c = λ b q n below more end same follow.
    let s = c.args.self.now in
    let w = s.level.left.width in
    let v = c.args.before.now.left.width in
    let k = s.level.left.taken in
    let zero = (c.requires.zero c.if-zero.true).1 in
    let made = c.skip_row.ensures.value b n below more end in
    let ll = low-at q b n w v c.args.before.now.given k [] [] c.requires.wide c.requires.next same refl made in
    let waiting = λ (f : ℕ → ℕ → ℤ) (rows : List (List ℤ)) (is : AreRows s.kept w rows) (none : AreZeroRows rows) (newest : AreNewest f w s.came rows).
    let count = is.count_is in
    newest-zero f w s.came (k + s.kept - s.came) k rows none newest (omega arith) (omega arith) in
    let width = sym c.pass.ensures.width in
    record {
      level = c.pass.ensures.follows q (record { left = follow.level.left; right = follow.level.right }) ll (waiting q.hl s.hl s.hl_valid zero.hl follow.hl)
          (waiting q.lh s.lh s.lh_valid zero.lh follow.lh) (waiting q.hh s.hh s.hh_valid zero.hh follow.hh);
      hl = subst (λ (v : ℕ). AreNewest q.hl v s.came s.hl) width follow.hl;
      lh = subst (λ (v : ℕ). AreNewest q.lh v s.came s.lh) width follow.lh;
      hh = subst (λ (v : ℕ). AreNewest q.hh v s.came s.hh) width follow.hh;
    }

pub returns-then-zero-clause-within : goal.returns-then-zero-clause-within
returns-then-zero-clause-within c = λ m k below le small. c.pass.ensures.within k small
