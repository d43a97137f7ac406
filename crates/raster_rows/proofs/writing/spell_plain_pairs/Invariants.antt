use Rattle.std.proofs.Common.{◌≡◌, ◌*◌, map, take}
use Rattle.raster_rows.specs.Pixels.{pixel_size, pixel_octets, clamped}
use Rattle.raster_rows.proofs.writing.spell_plain_pairs.Given as goal

abbrev pub invariant-loop-place : goal.invariant-loop-place
invariant-loop-place l =
    take (l.place * pixel_size l.form.depth) l.into ≡ pixel_octets l.form.depth (map (clamped l.form.depth l.form.signed) (take l.place l.pixels))
