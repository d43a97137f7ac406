use Rattle.std.proofs.Common.{rules, ◌≡◌, length, refl}
use Rattle.plane_coder.proofs.Appending.{opens_any, opens_already, opens_first, is_long, is_due}
use Rattle.plane_coder.proofs.pending.PendingBits.open_first.Goals as goal

pub returns-then-self-eq0 : goal.returns-then-self-eq0
returns-then-self-eq0 c = record { opens = opens_any c.args.length c.args.self.now c.requires c.if-self-eq0.true; load = refl }

pub returns-then-self-length-eq0-clause-opens : goal.returns-then-self-length-eq0-clause-opens
returns-then-self-length-eq0-clause-opens c = opens_already c.args.length c.args.self.now c.requires c.if-self-length-eq0.true

pub opened-requires-clause-short : goal.opened-requires-clause-short
opened-requires-clause-short c = is_long c.args.length c.args.self.now c.if-self-length-eq0.false

pub opened-requires-clause-new : goal.opened-requires-clause-new
opened-requires-clause-new c = is_due c.args.length c.args.self.now c.requires c.if-self-length-eq0.false

pub returns-clause-opens : goal.returns-clause-opens
returns-clause-opens c =
    let s = c.args.self.now in
    let due = c.if-self-length-eq0.false in
    let three : length s.gaggle.sent ≡ 3 = search rules in
    opens_first c.args.length s c.opened.result (is_long c.args.length s due) c.requires three (is_due c.args.length s c.requires due) c.opened.ensures.said
    c.opened.ensures.sent c.opened.ensures.options
