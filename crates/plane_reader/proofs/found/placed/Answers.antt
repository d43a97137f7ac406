use Rattle.plane_reader.proofs.FoundMasks.{there, none_before, shown_there, widened}
use Rattle.plane_reader.proofs.found.placed.Goals as goal

pub returns : goal.returns
returns c = λ f count within shows.
    widened f c.args.mask c.args.start count within shows c.joined.result
    (c.joined.ensures.if_known (there f c.args.mask c.args.start count within shows) 0 count (none_before f c.args.mask c.args.start count within
    shows) (shown_there f c.args.mask c.args.start count within shows))
