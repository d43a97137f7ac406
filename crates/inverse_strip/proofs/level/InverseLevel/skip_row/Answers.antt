use Rattle.std.proofs.Common.{ℕ, ◌≤◌, subst, arith}
use Rattle.wave_defs.specs.Level.{columns_merged}
use Rattle.wave_defs.specs.Held.{Agrees}
use Rattle.inverse_strip.specs.Zeros.{zeros}
use Rattle.inverse_strip.proofs.LevelLemmas.{HasRow-inside}
use Rattle.inverse_strip.proofs.ZeroPairs.{columns_merged-zero, joined-zero}
use Rattle.inverse_strip.proofs.level.InverseLevel.skip_row.Goals as goal

pub returns-clause-value : goal.returns-clause-value
returns-clause-value c = λ q n follow more end.
    let s = c.args.self.now in
    let l = s.left in
    let r = s.right in
    let zero = c.requires.zero in
    let three = c.requires.row.three in
    let kept = s.waits.kept in
    let inside = HasRow-inside l.taken s.given c.args.height c.requires.row in
    let left = columns_merged-zero q.ll q.lh l.width l.taken l.evens l.highs l.sink_state zero.left.evens zero.left.highs follow.left s.given three inside kept
    in
    let right = columns_merged-zero q.hl q.hh r.width r.taken r.evens r.highs r.sink_state zero.right.evens zero.right.highs follow.right s.given (omega arith)
    (omega arith) (omega arith) in
    let turned = subst (λ (k : ℕ). Agrees r.width zeros (columns_merged q.hl q.hh k s.given)) s.same_taken right in
    let two : 2 ≤ l.width = omega (arith, s.wide) in
    joined-zero q l.taken n c.args.height l.width s.given two c.requires.row more end left
    (subst (λ (v : ℕ). Agrees v zeros (columns_merged q.hl q.hh l.taken s.given)) s.same_width turned)
