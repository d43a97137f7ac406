use Rattle.std.proofs.lemmas.Bool.Decides.{nat_tests}
use Rattle.std.proofs.Common.{sym, ◌∙◌, subst, arith}
use Rattle.strip_coder.specs.Steps.{EndsImage, EndBreaks}
use Rattle.camera_mux.proofs.CameraRowsGiven.{height_last, at_last, fails_given, gives_more, gives_last, cuts_last}
use Rattle.camera_mux.proofs.camera_rows.take_camera_row.Goals as goal

pub returns-in-Err-clause-row : goal.returns-in-Err-clause-row
returns-in-Err-clause-row g c = grind (arith, nat_tests, fails_given)

pub returns-then-work-setting-clause-row : goal.returns-then-work-setting-clause-row
returns-then-work-setting-clause-row g c = grind (arith, nat_tests, gives_more)

pub image_end-requires-clause-height : goal.image_end-requires-clause-height
image_end-requires-clause-height g c = grind (arith, nat_tests, height_last, at_last)

pub returns-in_default-image_end-clause-row : goal.returns-in_default-image_end-clause-row
returns-in_default-image_end-clause-row g c = λ raster whole valid.
    let s = c.args.setting.now in
    let k = c.args.work.now.at.rows in
    let takes = c.in_default.ensures.row in
    let last = at_last s k c.take_row.new.work.at.rows c.requires.known c.requires.few takes.taken.rows (omega (arith, c.if-work-setting.false)) in
    cuts_last s c.requires.in_range c.requires.known k c.requires.few raster whole c.args.work.now valid c.take_row.new.work takes c.image_end.new.work
    (sym takes.taken.rows ∙ last)
    (subst (λ n. EndBreaks s n (g.X.Port.outside c.take_row.new.port) (g.X.Port.outside c.image_end.new.port) c.take_row.new.work c.image_end.new.work) last
    c.in_default-image_end.ensures)

pub returns-clause-row : goal.returns-clause-row
returns-clause-row g c = λ raster whole valid.
    let s = c.args.setting.now in
    let k = c.args.work.now.at.rows in
    let takes = c.in_default.ensures.row in
    let last = at_last s k c.take_row.new.work.at.rows c.requires.known c.requires.few takes.taken.rows (omega (arith, c.if-work-setting.false)) in
    gives_last s c.requires.in_range c.requires.known k c.requires.few raster whole c.args.work.now valid c.take_row.new.work takes c.image_end.new.work
    c.in-Ok.done (sym takes.taken.rows ∙ last)
    (subst (λ n. EndsImage s n (g.X.Port.outside c.take_row.new.port) (g.X.Port.outside c.image_end.new.port) c.take_row.new.work c.image_end.new.work
    c.in-Ok.done) last c.in-Ok.ensures)
