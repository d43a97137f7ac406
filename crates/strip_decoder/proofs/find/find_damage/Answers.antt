use Rattle.std.proofs.Common.{ap, is_ok, is_err}
use Rattle.strip_decoder.proofs.Findings.{find_fails, find_done, find_cut}
use Rattle.strip_decoder.proofs.find.find_damage.Goals as goal

pub returns-in-Err : goal.returns-in-Err
returns-in-Err g c = find_fails c.args.wish.now (g.X.Port.outside c.args.port.now) (g.X.Port.outside c.walk_segments.new.port) c.in-Err.fault c.in-Err.ensures

pub returns-in-Ok-give_lines : goal.returns-in-Ok-give_lines
returns-in-Ok-give_lines g c =
    find_done c.args.wish.now (g.X.Port.outside c.args.port.now) (g.X.Port.outside c.walk_segments.new.port) (g.X.Port.outside c.give_lines.new.port)
    c.in-Ok.walked
    c.give_lines.result (ap is_ok c.in-Ok-give_lines.is) c.in-Ok.ensures c.give_lines.ensures

pub returns-in-Err-give_lines : goal.returns-in-Err-give_lines
returns-in-Err-give_lines g c =
    find_cut c.args.wish.now (g.X.Port.outside c.args.port.now) (g.X.Port.outside c.walk_segments.new.port) (g.X.Port.outside c.give_lines.new.port)
    c.in-Ok.walked
    c.give_lines.result (ap is_err c.in-Err-give_lines.is) c.in-Ok.ensures c.give_lines.ensures
