use Rattle.std.proofs.Common.{◌≡◌, length, map, take}
use Rattle.std.specs.List.{range_with_len}
use Rattle.raster_rows.specs.Made.{made_value}
use Rattle.strip122.proofs.make.make_pixels.Given as goal

abbrev pub invariant-loop-place : goal.invariant-loop-place
invariant-loop-place l = record {
  same : length l.into ≡ length l.initial.into;
  pixels : take l.place l.into ≡ map (made_value l.made l.row) (range_with_len l.first l.place);
}
