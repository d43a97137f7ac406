use Rattle.std.proofs.Common.{◌≡◌, ◌<◌, ◌-◌, false}
use Rattle.port_122.specs.Outside.{Outside}
use Rattle.base_122.specs.Sizes.{first_block, total_blocks}
use Rattle.base_122.specs.declared.wish.DecodeWish.{DecodeWish}
use Rattle.bare_stream.specs.Walks.{IsSound, IsNext, IsReading}
use Rattle.bare_stream.proofs.walk.take_segments.Given as goal

abbrev pub invariant-loop-walk : goal.invariant-loop-walk
invariant-loop-walk g l = record {
  sound : IsSound l.walk;
  next : IsNext l.walk l.read;
  port : l.input.port.ghost_name ≡ l.initial.input.port.ghost_name;
  first : l.walk.index ≡ 0 → l.read.head ≡ l.walk.first;
  fits : 0 < l.walk.index → l.walk.first.last ≡ false;
  reading : (wish : DecodeWish) (start : Outside) → IsReading g.X.Port.outside wish start l.initial.input l.initial.walk l.initial.read →
      IsReading g.X.Port.outside wish start l.input l.walk l.read;
}

abbrev pub decreases-loop-walk : goal.decreases-loop-walk
decreases-loop-walk g l = total_blocks l.walk.first.image.width 262144 - first_block l.walk.first.blocks l.walk.index
