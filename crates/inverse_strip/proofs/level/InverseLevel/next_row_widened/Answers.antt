use Rattle.std.proofs.Common.{◌≡◌, ℕ, ◌*◌, ◌≤◌, length, subst, ap, arith}
use Rattle.wave_defs.specs.Line.{merged}
use Rattle.wave_defs.specs.Level.{columns_merged}
use Rattle.wave_defs.specs.Held.{Agrees, signal}
use Rattle.inverse_strip.specs.declared.columns.Columns.{Columns}
use Rattle.inverse_strip.proofs.LevelLemmas.{joined-row, joined-height}
use Rattle.inverse_strip.proofs.level.InverseLevel.next_row_widened.Goals as goal

pub returns-clause-value : goal.returns-clause-value
returns-clause-value c = λ q n follow more end.
    let s = c.args.self.now in
    let w = s.left.width in
    let left = c.deref_mut.result.now in
    let right = c.deref_mut-2.result.now in
    let room = c.make_halves.new.self.left_room in
    let same = ap (λ (l : Columns). l.width) c.make_halves.ensures.left in
    let long = c.deref_mut.ensures.len in
    let wide : length left ≡ w = omega arith in
    let made = subst (λ (v : ℕ). Agrees (2 * v) (signal c.inverse_row_widened.new.row) (merged (signal left) (signal right) v)) wide
    c.inverse_row_widened.ensures in
    let here : Agrees w (signal left) (columns_merged q.ll q.lh s.left.taken s.given) =
    rw c.deref_mut.ensures.value (c.make_halves.ensures.left_row q follow) in
    let there : Agrees w (signal right) (columns_merged q.hl q.hh s.left.taken s.given) =
    rw c.deref_mut-2.ensures.value (c.make_halves.ensures.right_row q follow) in
    let two : 2 ≤ w = omega (arith, s.wide) in
    joined-height q s.left.taken n c.args.height w s.given _ two c.requires.row more end
    (joined-row q s.left.taken w s.given (signal left) (signal right) _ two here there made)
