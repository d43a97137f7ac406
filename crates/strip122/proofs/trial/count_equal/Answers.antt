use Rattle.std.proofs.Common.{◌≡◌, ◌+◌, ◌∙◌, cond, rules, arith, sym, ap}
use Rattle.strip122.proofs.TrialsCounted.{equal-more}
use Rattle.strip122.proofs.trial.count_equal.Goals as goal
use Rattle.strip122.proofs.trial.count_equal.Goals.{then-is_same, else-is_same}

pub loop-place-preserved : goal.loop-place-preserved
loop-place-preserved c =
    let before = c.loop-place.equal in
    let step : c.if-is_same.equal ≡ before + cond c.is_same.result 1 0 = elim c.if-is_same.branch [
      | then-is_same w ↦ w.equal-is ∙ ap (λ b. before + cond b 1 0) (sym w.if-is_same.true)
      | else-is_same w ↦ w.equal-is ∙ omega arith ∙ ap (λ b. before + cond b 1 0) (sym w.if-is_same.false)
    ] in
    record {
      counted = equal-more c.args.setting.now c.args.made.now c.args.given.now c.loop-place.place before c.if-is_same.equal c.is_same.result
          c.is_same.ensures c.loop-place.invariant.counted step;
      most = search rules;
    }
