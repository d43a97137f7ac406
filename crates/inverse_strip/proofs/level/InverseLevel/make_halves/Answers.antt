use Rattle.std.proofs.Common.{ℕ, ◌^◌, subst, arith, drop, length}
use Rattle.std.proofs.Math.Seq.{take_at}
use Rattle.wave_defs.specs.Within.{AllWithin}
use Rattle.wave_defs.specs.Held.{signal}
use Rattle.inverse_strip.specs.Kept.{column_bound}
use Rattle.inverse_strip.proofs.LevelLemmas.{HasRow-inside}
use Rattle.inverse_strip.proofs.PairLemmas.{row-within}
use Rattle.inverse_strip.proofs.level.InverseLevel.make_halves.Goals as goal

pub returns-clause-left_within : goal.returns-clause-left_within
returns-clause-left_within c = λ m some.
    let s = c.args.self.now in
    let l = s.left in
    let whole = take_at c.row.new.into (drop (length c.row.new.into) s.left_row.items) s.left_row.len (omega arith) in
    let inside = HasRow-inside l.taken s.given c.args.height c.requires.row in
    rw whole (row-within m l.width l.taken s.given l.evens l.highs (signal c.row.new.into) c.requires.row.three inside c.row.ensures some)

pub returns-clause-right_within : goal.returns-clause-right_within
returns-clause-right_within c =
    let s = c.args.self.now in
    let r = s.right in
    let whole = take_at c.row-2.new.into (drop (length c.row-2.new.into) s.right_row.items) s.right_row.len (omega arith) in
    let inside = HasRow-inside s.left.taken s.given c.args.height c.requires.row in
    let three = c.requires.row.three in
    let row = row-within (2 ^ 27) r.width r.taken s.given r.evens r.highs (signal c.row-2.new.into) (omega arith) (omega arith) c.row-2.ensures
    (r.small_within s.right_small) in
    rw whole (subst (λ (v : ℕ). AllWithin (column_bound (2 ^ 27)) v (signal c.row-2.new.into)) s.same_width row)
