use Rattle.std.proofs.Common.{◌≡◌, rules, ◌∙◌, subst, arith, length, get_or}
use Rattle.block_masks.proofs.MarkParts.{three_of}
use Rattle.plane_coder.specs.Kept.{HasOctets}
use Rattle.plane_coder.proofs.KeptBits.{octets_are}
use Rattle.plane_coder.proofs.kept.head_of.Goals as goal

pub returns : goal.returns
returns c masks is =
    let ends = c.args.ends in
    let flags = c.args.flags in
    let three : length ends ≡ 3 = search rules in
    let threes : length flags ≡ 3 = search rules in
    let low = c.requires.ends in
    let small = c.requires.flags in
    subst (λ l. HasOctets masks l flags) (three_of ends 0 three)
    (subst (HasOctets masks _) (three_of flags 0 threes)
    (octets_are masks (get_or ends 0 0) (get_or ends 1 0) (get_or ends 2 0) (get_or flags 0 0) (get_or flags 1 0) (get_or flags 2 0) (low 0) (low 1) (low 2)
    (small 0) (small 1) (small 2) (is ∙ omega arith)))
