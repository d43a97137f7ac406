use Rattle.std.proofs.Common.{None}
use Rattle.quick_look.proofs.RowTakes.{none_gives}
use Rattle.quick_look.proofs.row.LookRowBlockSink.lose.Goals as goal

pub returns : goal.returns
returns g c = c.take_value.ensures None (none_gives c.args.self.now.shift c.requires.valid.is_open.shift)
