use Rattle.std.proofs.Common.{ℕ, sym, subst, ◌∙◌}
use Rattle.wave_defs.specs.Rings.{AreNewest}
use Rattle.inverse_strip.proofs.stage.LevelStage.next_row.Goals as goal

pub returns-clause-follows : goal.returns-clause-follows
returns-clause-follows c = λ q follow.
    let s = c.args.self.now in
    let width = sym c.next_row_widened.ensures.width in
    record {
      level = c.next_row_widened.ensures.follows q follow.level;
      hl = subst (λ (v : ℕ). AreNewest q.hl v s.came s.hl) width follow.hl;
      lh = subst (λ (v : ℕ). AreNewest q.lh v s.came s.lh) width follow.lh;
      hh = subst (λ (v : ℕ). AreNewest q.hh v s.came s.hh) width follow.hh;
    }

pub returns-clause-value : goal.returns-clause-value
returns-clause-value c = λ q n follow more end. c.next_row_widened.ensures.value q n follow.level more end

pub returns-then-zero-clause-zero : goal.returns-then-zero-clause-zero
returns-then-zero-clause-zero c = λ e.
    let zero = c.requires.zero e in (record { level = c.skip_row.ensures.zero; hl = zero.0.hl; lh = zero.0.lh; hh = zero.0.hh }, zero.1)

pub returns-then-zero-clause-follows : goal.returns-then-zero-clause-follows
returns-then-zero-clause-follows c = λ q follow.
    let s = c.args.self.now in
    let width = sym c.skip_row.ensures.width in
    record {
      level = c.skip_row.ensures.follows q follow.level;
      hl = subst (λ (v : ℕ). AreNewest q.hl v s.came s.hl) width follow.hl;
      lh = subst (λ (v : ℕ). AreNewest q.lh v s.came s.lh) width follow.lh;
      hh = subst (λ (v : ℕ). AreNewest q.hh v s.came s.hh) width follow.hh;
    }

pub returns-then-zero-clause-value : goal.returns-then-zero-clause-value
returns-then-zero-clause-value c = λ q n follow more end.
    let row = (c.requires.zero c.if-zero.true).1 in
    let made = c.skip_row.ensures.value q n follow.level more end in
    record { at = λ j h. row.at j ∙ made.at j h }
