use Rattle.std.proofs.Common.{◌^◌}
use Rattle.wave_strip.proofs.level.Level.take_mirrored.Goals as goal

pub push-requires-clause-small_row : goal.push-requires-clause-small_row
push-requires-clause-small_row c =
    rw c.copy_from_slice.ensures.items (c.mirror.ensures.small (2 ^ 23) c.requires.small)
