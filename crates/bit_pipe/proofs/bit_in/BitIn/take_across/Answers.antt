use Rattle.std.proofs.Common.{◌≡◌, ◌<◌, ◌≤◌, ◌-◌, arith}
use Rattle.std.proofs.lemmas.Result.{err_from_is_err_and}
use Rattle.bit_pipe.specs.Prefixes.{prefix_at}
use Rattle.bit_pipe.proofs.Taking.{at_bound, octet_end, octet_fault, in_later}
use Rattle.bit_pipe.proofs.PrefixBits.{across, across_small, across_code}
use Rattle.bit_pipe.proofs.PrefixTaking.{hand_taken, hand_ended, hand_failed, across_more, across_taken}
use Rattle.bit_pipe.proofs.bit_in.BitIn.take_across.Goals as goal

pub returns-then-self-eq0 : goal.returns-then-self-eq0
returns-then-self-eq0 g c = λ most item reports.
    let b = c.args.self.now in
    let fits : b.left ≤ b.room = omega (arith, b.whole) in
    hand_ended reports b.input.now b.octet b.left b.used b.room _ b.within fits c.requires.across _ _ c.from.ensures c.from-2.ensures
    (at_bound g.I.OctetIn.source _ (in_later c.requires.bound (hand_taken {k = g.I.OctetIn.source} reports b.input.now b.octet b.left b.used b.room _ b.within
    fits c.requires.across _ _ c.from.ensures c.from-2.ensures)) c.if-self-eq0.true)

pub returns-in_err-octet : goal.returns-in_err-octet
returns-in_err-octet g c = λ most item reports.
    let b = c.args.self.now in
    let p = err_from_is_err_and c.from_residual.result c.from_residual.ensures.1 in
    rw (p.1, p.2) (hand_failed reports b.input.now b.octet b.left b.used b.room _ b.within (omega (arith, b.whole)) c.requires.across _ _ c.from.ensures
    c.from-2.ensures _
    (octet_fault g.I.OctetIn.source _ b.input.now c.take.new.self b.octet 0 _ _ _ (omega arith) (omega arith) c.in_err-octet.ensures))

pub returns-in_default : goal.returns-in_default
returns-in_default g c = λ most item reports.
    let b = c.args.self.now in
    hand_ended reports b.input.now b.octet b.left b.used b.room _ b.within (omega (arith, b.whole)) c.requires.across _ _ c.from.ensures c.from-2.ensures
    (octet_end g.I.OctetIn.source b.input.now c.take.new.self b.octet 0 _ _ _ (omega arith) (rw c.in_default.is at c.in_ok-octet.ensures))

pub overflow_sub-more : goal.overflow_sub-more
overflow_sub-more g c =
    let b = c.args.self.now in
    let h = rw c.in-Some.is at c.in_ok-octet.ensures in
    let long = across_more c.requires.table.reports b.octet b.left b.within c.requires.across c.in-Some.octet h.ends.1 in
    rw (across_code b.left b.octet c.in-Some.octet c.from-3.result c.from-4.result c.from-3.ensures c.from-4.ensures) (omega arith)

pub invariant_of-self-2 : goal.invariant_of-self-2
invariant_of-self-2 g c =
    let b = c.args.self.now in
    let h = rw c.in-Some.is at c.in_ok-octet.ensures in
    let v = across b.left b.octet c.in-Some.octet in
    let code = across_code b.left b.octet c.in-Some.octet c.from-3.result c.from-4.result c.from-3.ensures c.from-4.ensures in
    let long : b.left < (prefix_at c.args.prefixes.now v).len = across_more c.requires.table.reports b.octet b.left b.within c.requires.across c.in-Some.octet
    h.ends.1 in
    let few : (prefix_at c.args.prefixes.now v).len ≤ 8 = c.requires.table.reports.few v (across_small b.left b.octet c.in-Some.octet) in
    let count : c.from-5.result ≡ (prefix_at c.args.prefixes.now v).len - b.left = rw code at c.from-5.ensures in
    rw code (record {
      within = omega (arith, long);
      whole = omega (arith, b.whole, count, long, few, c.from.ensures);
    })

pub returns : goal.returns
returns g c = λ most item reports.
    let b = c.args.self.now in
    let h = rw c.in-Some.is at c.in_ok-octet.ensures in
    let code = across_code b.left b.octet c.in-Some.octet c.from-3.result c.from-4.result c.from-3.ensures c.from-4.ensures in
    across_taken reports b.input.now b.octet b.left b.used b.room _ b.within (omega (arith, b.whole)) c.requires.across c.take.new.self c.in-Some.octet h _ _
    _ _ _ code c.from.ensures c.from-2.ensures c.from-5.ensures c.from-6.ensures (omega (arith, b.whole))
