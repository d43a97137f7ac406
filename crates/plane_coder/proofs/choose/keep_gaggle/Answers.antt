use Rattle.std.proofs.Common.{◌≡◌, ◌≤◌, ◌+◌, ◌-◌, ◌*◌, ap, sym, subst, arith, length, take, drop}
use borrow.Rule.Slice.PartMut.{put_mid}
use Rattle.plane_coder.specs.declared.tables.CodeTables.{CodeTables}
use Rattle.plane_coder.specs.Kept.{KeepsOthers, Keeps}
use Rattle.plane_coder.proofs.GaggleMasks.{others_stay, here_put, others_put}
use Rattle.plane_coder.proofs.choose.keep_gaggle.Goals as goal

pub returns-then-kept-g : goal.returns-then-kept-g
returns-then-kept-g c = record { keeps = λ p full agree has. absurd (omega (arith, full, c.if-kept-g.true)); others = others_stay _ _ }

pub returns-clause-keeps : goal.returns-clause-keeps
returns-clause-keeps c p full agree has =
    let kept = c.args.kept.now in
    let g = c.args.g in
    let now = c.keep.new.free in
    let size : 32 * g + 32 - 32 * g ≡ 32 = omega arith in
    let is = ap (λ k. put_mid (32 * g) k kept now) size in
    subst (λ l. Keeps c.args.tables.now.book c.args.gaggle.options p g (take 32 (drop (32 * g) l))) (sym is)
    (subst (Keeps c.args.tables.now.book c.args.gaggle.options p g) (sym (here_put g kept now full c.keep.ensures.whole))
    (subst (λ (t : CodeTables). Keeps t.book c.args.gaggle.options p g now) c.new-option_codes.ensures.tables (c.keep.ensures.keeps p g agree has)))

pub returns-clause-others : goal.returns-clause-others
returns-clause-others c =
    let kept = c.args.kept.now in
    let g = c.args.g in
    let now = c.keep.new.free in
    let full : 32 * g + 32 ≤ length kept = omega (arith, c.if-kept-g.false) in
    let size : 32 * g + 32 - 32 * g ≡ 32 = omega arith in
    subst (λ k. KeepsOthers g kept (put_mid (32 * g) k kept now)) (sym size) (others_put g kept now full c.keep.ensures.whole)
