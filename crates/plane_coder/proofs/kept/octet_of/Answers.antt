use Rattle.std.proofs.Common.{◌≡◌, rules, refl, arith, ◌∙◌, get_or, length, false, [], ◌∷◌}
use Rattle.block_masks.proofs.MarkParts.{three_of}
use Rattle.plane_coder.proofs.kept.octet_of.Goals as goal

pub returns-clause-flags : goal.returns-clause-flags
returns-clause-flags c =
    let sent = c.args.sent in
    let three : length sent ≡ 3 = search rules in
    let if_known = c.three.ensures.if_known (λ k. get_or sent k false) refl refl refl in
    (λ i. if_known.at 0 (omega arith) i ∷ if_known.at 1 (omega arith) i ∷ if_known.at 2 (omega arith) i ∷ []) ∙ three_of sent false three
