use Rattle.std.proofs.Common.{rules}
use Rattle.raster_rows.specs.Made.{made_value}
use Rattle.strip122.proofs.MadeParts.{one_made}
use Rattle.strip122.proofs.make.make_pixels.Goals as goal

pub loop-place-preserved : goal.loop-place-preserved
loop-place-preserved c = record {
  same = search rules;
  pixels = one_made (made_value c.args.made.now c.args.row) c.args.first c.loop-place.place c.loop-place.into _ (search rules) c.loop-place.invariant.pixels
      (search rules);
}
