use Rattle.segment_code.proofs.FromText.{whole_decoded, cut_decoded}
use Rattle.segment_code.proofs.text_end.end_text.Goals as goal

pub returns-in-Whole : goal.returns-in-Whole
returns-in-Whole g c = λ wish size before blocks sound low f.
    whole_decoded g.I.OctetIn.source wish c.args.head.now size before c.args.input.now blocks c.requires.fits c.args.used
    c.end_whole.result c.end_whole.new.input
    (rw c.in-Whole.is at f) c.end_whole.ensures

pub returns-in-Ended : goal.returns-in-Ended
returns-in-Ended g c = λ wish size before blocks sound low f.
    cut_decoded g.I.OctetIn.source wish c.args.head.now size before c.args.input.now blocks sound c.requires.fits low c.args.used c.end_cut.result
    (rw c.in-Ended.is at f) c.end_cut.ensures
