use Rattle.std.proofs.Common.{sym, subst}
use Rattle.strip122.specs.Decoding.{reads}
use Rattle.strip122.proofs.packets.read.Goals as goal

pub returns-in-Decode : goal.returns-in-Decode
returns-in-Decode g c =
    subst (λ r. (reads r c.args.wish.now).performs (g.X.Port.outside c.args.port.now) (g.X.Port.outside c.decode.new.port) c.decode.result)
    (sym c.in-Decode.is) c.decode.ensures

pub returns-in-Damage : goal.returns-in-Damage
returns-in-Damage g c =
    subst (λ r. (reads r c.args.wish.now).performs (g.X.Port.outside c.args.port.now) (g.X.Port.outside c.damage.new.port) c.damage.result)
    (sym c.in-Damage.is) c.damage.ensures

pub returns-in-Look : goal.returns-in-Look
returns-in-Look g c =
    subst (λ r. (reads r c.args.wish.now).performs (g.X.Port.outside c.args.port.now) (g.X.Port.outside c.look.new.port) c.look.result) (sym c.in-Look.is)
    c.look.ensures

pub returns-in-Rects : goal.returns-in-Rects
returns-in-Rects g c =
    subst (λ r. (reads r c.args.wish.now).performs (g.X.Port.outside c.args.port.now) (g.X.Port.outside c.rects.new.port) c.rects.result)
    (sym c.in-Rects.is) c.rects.ensures
