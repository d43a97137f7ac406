use Rattle.std.proofs.Common.{◌*◌, sym, ap, ◌∙◌, subst, MatchResult}
use Rattle.strip_coder.specs.Rasters.{row_length, image_of}
use Rattle.strip_coder.specs.Works.{Represents}
use Rattle.camera_mux.specs.RowSteps.{GivesRow, FailsAtRow}
use Rattle.camera_mux.proofs.muxing.take_next_row.Goals as goal

pub returns-clause-row : goal.returns-clause-row
returns-clause-row g c = λ raster whole ready.
    let s = c.args.setting.now in
    let w = c.make_ready.new.work in
    let rows = c.make_ready.ensures.taken.rows in
    let valid = c.make_ready.ensures.valid raster ready in
    let p = g.X.Port.outside c.args.port.now in
    let q = g.X.Port.outside c.take_camera_row.new.port in
    subst (λ n. MatchResult c.take_camera_row.result (λ done. GivesRow s n raster p q c.take_camera_row.new.work done)
    (λ fault. FailsAtRow s n raster c.args.place p q fault)) rows
    (c.take_camera_row.ensures.row raster (whole ∙ ap (λ n. n * row_length s) (sym rows)) (subst (λ n. Represents s n (image_of s raster) w) (sym rows) valid))
