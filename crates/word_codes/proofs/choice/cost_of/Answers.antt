use Rattle.std.proofs.Common.{rules, arith, ◌≡◌, ◌≤◌, ◌*◌, ap, get_or, ◌∙◌}
use Rattle.plane_defs.specs.Choice.{code_length}
use Rattle.word_codes.proofs.Costs.{cost_step, bound_step}
use Rattle.word_codes.proofs.choice.cost_of.Goals as goal

pub loop-symbol-preserved : goal.loop-symbol-preserved
loop-symbol-preserved c =
    let bits : c.from.result ≡ code_length c.args.book.now c.args.length c.args.option c.loop-symbol.symbol = c.from.ensures ∙ c.length_of-bits.ensures in
    let small : c.from.result ≤ 255 = omega arith in
    record {
      so_far = cost_step (λ s. get_or c.args.counts.now s 0 * code_length c.args.book.now c.args.length c.args.option s) _ _ _ c.loop-symbol.invariant.so_far
          (ap (λ k. get_or c.args.counts.now c.loop-symbol.symbol 0 * k) bits);
      bound = bound_step c.args.counts.now _ _ _ (search rules) small c.loop-symbol.invariant.bound;
    }
