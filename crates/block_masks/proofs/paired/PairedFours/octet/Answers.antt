use Rattle.std.proofs.Common.{◌≡◌, ◌+◌, ◌*◌, ◌/◌, ◌%◌, ◌^◌, ap, subst, ◌∙◌, arith}
use Rattle.block_masks.proofs.Pairing.{odd_octet}
use Rattle.block_masks.proofs.paired.PairedFours.octet.Goals as goal
use Rattle.block_masks.proofs.paired.PairedFours.octet.Goals.{then-k-eq0, else-k-eq0}

pub returns-clause-value : goal.returns-clause-value
returns-clause-value c due bits paired =
    let k = c.args.k in
    let octet = c.if-k-eq0.octets / 2 ^ (8 * (k / 2)) % 2 ^ 8 in
    elim c.if-k-eq0.branch [
      | then-k-eq0 w ↦
          let at : 8 * (k / 2) ≡ 4 * k = omega (arith, w.if-k-eq0.true) in
          subst (λ n. octet ≡ 16 * (due / 2 ^ n % 2 ^ 4) + bits / 2 ^ n % 2 ^ 4) at
          (ap (λ o. o / 2 ^ (8 * (k / 2)) % 2 ^ 8) w.octets-is ∙ paired.even (k / 2) (omega (arith, c.requires)))
      | else-k-eq0 w ↦
          let at : 4 + 8 * (k / 2) ≡ 4 * k = omega (arith, w.if-k-eq0.false) in
          subst (λ n. octet ≡ 16 * (due / 2 ^ n % 2 ^ 4) + bits / 2 ^ n % 2 ^ 4) at
          (odd_octet due bits octet (k / 2)
          (ap (λ o. o / 2 ^ (8 * (k / 2)) % 2 ^ 8) w.octets-is ∙ paired.odd (k / 2) (omega (arith, c.requires))))
    ]
