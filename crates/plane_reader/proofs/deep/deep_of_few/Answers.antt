use Rattle.std.proofs.Common.{rules, ◌≡◌, ℕ, Bool, subst, ◌+◌, ◌∙◌, nat_lt, get_or, pos, ap, sym, arith, w32, FitsSigned}
use Rattle.std.proofs.lemmas.Int.{to_z-of_z}
use Rattle.plane_defs.specs.Marks.{depth_of, depths_of}
use Rattle.block_masks.proofs.Marking.{depth_there}
use Rattle.block_masks.specs.Masks.{Shows}
use Rattle.plane_reader.proofs.FoundMasks.{room_one}
use Rattle.plane_reader.proofs.ClearStates.{one_shows, none_shown}
use Rattle.plane_reader.proofs.deep.deep_of_few.Goals as goal

pub loop-k-init : goal.loop-k-init
loop-k-init c = none_shown _ c.args.first

pub joined-deep-requires-clause-low : goal.joined-deep-requires-clause-low
joined-deep-requires-clause-low c = c.loop-k.invariant.small

pub joined-deep-requires-clause-high : goal.joined-deep-requires-clause-high
joined-deep-requires-clause-high c = room_one c.one.result c.loop-k.k (omega (arith, c.loop-k-test.true, c.requires.few)) c.one.ensures.within

pub loop-k-preserved : goal.loop-k-preserved
loop-k-preserved c =
    let marks = c.args.marks.now in
    let k = c.loop-k.k in
    let same : c.from.result ≡ k = c.from.ensures in
    let at = c.args.first + k in
    let fits : FitsSigned w32 (get_or marks at (pos 0)) = search rules in
    let own = to_z-of_z w32 (get_or marks at (pos 0)) fits in
    let f : ℕ → Bool = λ r. nat_lt c.args.plane (get_or (depths_of marks) r 0) in
    let e : nat_lt c.args.plane c.depth_of.result ≡ f at = ap (nat_lt c.args.plane) (rw same at c.depth_of.ensures.value ∙ ap depth_of own ∙
    sym (depth_there marks at)) in
    c.joined-deep.ensures.if_known f c.args.first 1 c.loop-k.invariant (one_shows at e (c.one.ensures.if_known at))

pub returns : goal.returns
returns c =
    let e : c.loop-k.k ≡ c.args.count = omega (arith, c.loop-k-test.false, c.loop-k.auto.k-end) in
    let f : ℕ → Bool = λ r. nat_lt c.args.plane (get_or (depths_of c.args.marks.now) r 0) in
    subst (λ n. Shows c.loop-k.deep f c.args.first n) e c.loop-k.invariant
