use Rattle.std.proofs.Common.{ap, subst, sym, is_ok, is_err}
use Rattle.strip_decoder.proofs.Endings.{as_they_are}
use Rattle.quick_look.proofs.Listings.{AllGaps, all_within, has_open, is_size, list_fails, list_refused, list_done, list_cut}
use Rattle.quick_look.proofs.rect_list.list_rects.Goals as goal

pub returns-in-Err : goal.returns-in-Err
returns-in-Err g c = list_fails c.args.wish.now (g.X.Port.outside c.args.port.now) (g.X.Port.outside c.walk_segments.new.port) c.in-Err.fault c.in-Err.ensures

pub into_gaps-requires : goal.into_gaps-requires
into_gaps-requires g c = has_open (as_they_are c.args.wish.now) (g.X.Port.outside c.args.port.now) (g.X.Port.outside c.walk_segments.new.port)
    c.in-Ok.ensures.took c.in-Ok.ensures.gave c.in-Ok.walked c.in-Ok.ensures.answer

pub returns-in_default : goal.returns-in_default
returns-in_default g c = list_refused c.args.wish.now (g.X.Port.outside c.args.port.now) (g.X.Port.outside c.walk_segments.new.port) c.in-Ok.walked
    c.in-Ok.ensures

pub give_rects-requires-clause-size : goal.give_rects-requires-clause-size
give_rects-requires-clause-size g c = is_size (as_they_are c.args.wish.now) (g.X.Port.outside c.args.port.now) (g.X.Port.outside c.walk_segments.new.port)
    c.in-Ok.ensures.took c.in-Ok.ensures.gave c.in-Ok.walked c.in-Ok.ensures.answer

pub give_rects-requires-clause-within : goal.give_rects-requires-clause-within
give_rects-requires-clause-within g c =
    all_within (as_they_are c.args.wish.now) (g.X.Port.outside c.args.port.now) (g.X.Port.outside c.walk_segments.new.port) c.in-Ok.ensures.took
    c.in-Ok.ensures.gave c.in-Ok.walked c.in-Ok.ensures.answer
    c.deref.result.now (subst (AllGaps c.in-Ok.walked) (sym c.deref.ensures.value) c.in-Some.ensures)

pub returns-in-Ok-give_rects : goal.returns-in-Ok-give_rects
returns-in-Ok-give_rects g c =
    list_done c.args.wish.now (g.X.Port.outside c.args.port.now) (g.X.Port.outside c.walk_segments.new.port) (g.X.Port.outside c.give_rects.new.port)
    c.in-Ok.walked c.deref.result.now c.give_rects.result
    (ap is_ok c.in-Ok-give_rects.is) c.in-Ok.ensures (subst (AllGaps c.in-Ok.walked) (sym c.deref.ensures.value) c.in-Some.ensures) c.give_rects.ensures

pub returns-in-Err-give_rects : goal.returns-in-Err-give_rects
returns-in-Err-give_rects g c =
    list_cut c.args.wish.now (g.X.Port.outside c.args.port.now) (g.X.Port.outside c.walk_segments.new.port) (g.X.Port.outside c.give_rects.new.port)
    c.in-Ok.walked c.deref.result.now c.give_rects.result
    (ap is_err c.in-Err-give_rects.is) c.in-Ok.ensures (subst (AllGaps c.in-Ok.walked) (sym c.deref.ensures.value) c.in-Some.ensures) c.give_rects.ensures
