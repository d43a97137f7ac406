use Rattle.std.proofs.Common.{◌≡◌, ◌+◌, ◌*◌, ◌/◌, ◌%◌, ◌^◌, ap, arith, slice_index_or}
use Rattle.block_masks.proofs.Pairing.{shows_some}
use Rattle.plane_coder.specs.declared.fours.TheConstants.{TYPED}
use Rattle.plane_coder.proofs.FourTypes.{picked, are_packed}
use Rattle.plane_coder.proofs.fours.Fours.four.Goals as goal

pub returns : goal.returns
returns c =
    let k = c.args.k in
    let octet = c.octet.result in
    let whole : octet ≡ 16 * (octet / 16) + octet % 16 = omega arith in
    record {
      picked = λ d f n start count p within.
          picked d f n (start + 4 * k) (p.plain / 2 ^ (4 * k) % 2 ^ 4) (p.ones / 2 ^ (4 * k) % 2 ^ 4) _
          (ap (λ o. slice_index_or TYPED o 0) (c.octet.ensures.value p.plain p.ones p.paired))
          (shows_some (4 * k) within p.plain_shown) (shows_some (4 * k) within p.ones_shown);
      packed = are_packed (octet / 16) (octet % 16) _ (omega (arith, c.octet.ensures.within)) (omega arith) (ap (λ o. slice_index_or TYPED o 0) whole);
    }
