use Rattle.std.proofs.Common.{◌≡◌, ◌<◌, ◌≤◌, ◌^◌, ◌∙◌, bit_or, pos, get_or, unsigned_abs, sym, subst, arith}
use lib.Lanes.{fold_l}
use Rattle.segment_code.proofs.JoinedSizes.{joined, joined_back, joined_below, joined_least}
use Rattle.segment_code.proofs.depths.joined_magnitudes.Goals as goal

pub returns-clause-below : goal.returns-clause-below
returns-clause-below c m all =
    let block = c.args.block.now in
    let fit = c.read.ensures in
    let whole : c.cast_unsigned.result ≡ fold_l bit_or 0 (joined block c.requires fit) =
    c.cast_unsigned.ensures ∙ joined_back block c.requires fit 0 (omega arith) in
    let some : 0 < 2 ^ m = omega (arith, all 1 (omega arith) (omega arith)) in
    subst (λ n. n < 2 ^ m) (sym whole) (joined_below block c.requires fit m 0 some all)

pub returns-clause-least : goal.returns-clause-least
returns-clause-least c k some few =
    let block = c.args.block.now in
    let fit = c.read.ensures in
    let whole : c.cast_unsigned.result ≡ fold_l bit_or 0 (joined block c.requires fit) =
    c.cast_unsigned.ensures ∙ joined_back block c.requires fit 0 (omega arith) in
    subst (λ n. unsigned_abs (get_or block k (pos 0)) ≤ n) (sym whole) (joined_least block c.requires fit 0 k some few)
