use Rattle.std.proofs.Common.{◌≡◌, ◌+◌, ◌-◌, ◌*◌, ◌++◌, ◌∙◌, take, drop, ap, sym, arith}
use Rattle.std.proofs.Math.Seq.{take-add}
use Rattle.layer_tests.proofs.segments.hold.Goals as goal

pub loop-r-preserved : goal.loop-r-preserved
loop-r-preserved c =
    let r = c.loop-r.r in
    let numbers = c.args.numbers.now in
    let next : 64 * r + 64 ≡ 64 * (r + 1) = omega arith in
    let part : (64 * r + 64) - 64 * r ≡ 64 = omega arith in
    record {
      most = c.push.ensures.most ∙ c.loop-r.invariant.most;
      numbers = c.push.ensures.numbers ∙ ap (λ l. l ++ take ((64 * r + 64) - 64 * r) (drop (64 * r) numbers)) c.loop-r.invariant.numbers
          ∙ ap (λ n. take (64 * r) numbers ++ take n (drop (64 * r) numbers)) part ∙ sym (take-add (64 * r) 64 numbers) ∙ ap (λ n. take n numbers) next;
    }
