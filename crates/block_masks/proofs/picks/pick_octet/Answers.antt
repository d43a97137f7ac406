use Rattle.std.proofs.Common.{◌<◌, ◌/◌, ◌%◌, ◌^◌, ◌∙◌, sym, subst, arith}
use Rattle.block_masks.proofs.Picking.{picked_of, small_entry, fitting_entry, octet_entry}
use Rattle.block_masks.proofs.picks.pick_octet.Goals as goal

pub returns-clause-picked : goal.returns-clause-picked
returns-clause-picked c f g start p q =
    octet_entry c.args.octet ∙ picked_of (c.args.octet / 16) (c.args.octet % 16) start 4 f g (omega arith) p q

pub returns-clause-within : goal.returns-clause-within
returns-clause-within c =
    subst (λ n. n < 80) (sym (octet_entry c.args.octet)) (small_entry (c.args.octet / 16) (c.args.octet % 16) (omega (arith, c.requires)) (omega arith))

pub returns-clause-fits : goal.returns-clause-fits
returns-clause-fits c =
    subst (λ n. n % 16 < 2 ^ (n / 16)) (sym (octet_entry c.args.octet))
    (fitting_entry (c.args.octet / 16) (c.args.octet % 16) (omega (arith, c.requires)) (omega arith))
