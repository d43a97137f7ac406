use Rattle.std.proofs.Common.{◌≡◌, sym, subst}
use Rattle.strip_coder.specs.Rasters.{image_of}
use Rattle.strip_coder.specs.Works.{Represents}
use Rattle.camera_mux.proofs.muxing.make_ready.Goals as goal

pub returns-then-row-eq0-clause-valid : goal.returns-then-row-eq0-clause-valid
returns-then-row-eq0-clause-valid c = λ raster ready.
    let s = c.args.setting.now in
    let start = c.start_image.ensures.start in
    let none : c.args.row ≡ 0 = c.if-row-eq0.true in
    subst (λ n. Represents s n (image_of s raster) c.start_image.new.work) (sym none) (record { taken = start.taken; follows = λ y same. start.follows y })
