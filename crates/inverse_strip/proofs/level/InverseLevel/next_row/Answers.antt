use Rattle.std.proofs.Common.{◌≡◌, ℕ, ◌-◌, ◌*◌, ◌^◌, ◌≤◌, length, sym, subst, ap, arith}
use Rattle.wave_defs.specs.Line.{merged, odd_of}
use Rattle.wave_defs.specs.Level.{columns_merged}
use Rattle.wave_defs.specs.Within.{AllWithin}
use Rattle.wave_defs.specs.Held.{Agrees, signal}
use Rattle.inverse_strip.specs.Kept.{column_bound}
use Rattle.inverse_strip.specs.declared.columns.Columns.{Columns}
use Rattle.inverse_strip.proofs.LevelLemmas.{joined-row, joined-height, joined-within, odd_of-within}
use Rattle.inverse_strip.proofs.level.InverseLevel.next_row.Goals as goal

pub inverse_row_narrow-requires-clause-fits : goal.inverse_row_narrow-requires-clause-fits
inverse_row_narrow-requires-clause-fits c =
    let s = c.args.self.now in
    let w = s.left.width in
    let left = c.deref_mut.result.now in
    let right = c.deref_mut-2.result.now in
    let room = c.make_halves.new.self.left_room in
    let same = ap (λ (l : Columns). l.width) c.make_halves.ensures.left in
    let long = c.deref_mut.ensures.len in
    let wide : length left ≡ w = omega arith in
    let here : AllWithin (column_bound (21 * 2 ^ 25)) w (signal left) =
    rw c.deref_mut.ensures.value (c.make_halves.ensures.left_within (21 * 2 ^ 25) c.requires.within) in
    let there : AllWithin (column_bound (2 ^ 27)) w (signal right) = rw c.deref_mut-2.ensures.value c.make_halves.ensures.right_within in
    let fits = odd_of-within (column_bound (21 * 2 ^ 25)) (2 ^ 31 - 1) w (signal left) (signal right) s.wide (omega arith) here there in
    subst (λ (v : ℕ). AllWithin (2 ^ 31 - 1) v (odd_of (signal left) (signal right) v)) (sym wide) fits

pub returns-clause-value : goal.returns-clause-value
returns-clause-value c = λ q n follow more end.
    let s = c.args.self.now in
    let w = s.left.width in
    let left = c.deref_mut.result.now in
    let right = c.deref_mut-2.result.now in
    let room = c.make_halves.new.self.left_room in
    let same = ap (λ (l : Columns). l.width) c.make_halves.ensures.left in
    let long = c.deref_mut.ensures.len in
    let wide : length left ≡ w = omega arith in
    let made = subst (λ (v : ℕ). Agrees (2 * v) (signal c.inverse_row_narrow.new.row) (merged (signal left) (signal right) v)) wide
    c.inverse_row_narrow.ensures in
    let here : Agrees w (signal left) (columns_merged q.ll q.lh s.left.taken s.given) =
    rw c.deref_mut.ensures.value (c.make_halves.ensures.left_row q follow) in
    let there : Agrees w (signal right) (columns_merged q.hl q.hh s.left.taken s.given) =
    rw c.deref_mut-2.ensures.value (c.make_halves.ensures.right_row q follow) in
    let two : 2 ≤ w = omega (arith, s.wide) in
    joined-height q s.left.taken n c.args.height w s.given _ two c.requires.row more end
    (joined-row q s.left.taken w s.given (signal left) (signal right) _ two here there made)

pub returns-clause-row_within : goal.returns-clause-row_within
returns-clause-row_within c = λ m some.
    let s = c.args.self.now in
    let w = s.left.width in
    let left = c.deref_mut.result.now in
    let right = c.deref_mut-2.result.now in
    let room = c.make_halves.new.self.left_room in
    let same = ap (λ (l : Columns). l.width) c.make_halves.ensures.left in
    let long = c.deref_mut.ensures.len in
    let wide : length left ≡ w = omega arith in
    let made = subst (λ (v : ℕ). Agrees (2 * v) (signal c.inverse_row_narrow.new.row) (merged (signal left) (signal right) v)) wide
    c.inverse_row_narrow.ensures in
    let here : AllWithin (column_bound m) w (signal left) = rw c.deref_mut.ensures.value (c.make_halves.ensures.left_within m some) in
    let there : AllWithin (column_bound (2 ^ 27)) w (signal right) = rw c.deref_mut-2.ensures.value c.make_halves.ensures.right_within in
    joined-within (column_bound m) w (signal left) (signal right) _ s.wide here there made
