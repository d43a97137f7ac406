use Rattle.std.proofs.Common.{◌∙◌, ap}
use Rattle.port_122.specs.Memory.{outside_of}
use Rattle.crate_examples.proofs.ListsMade.{all_lines}
use Rattle.crate_examples.proofs.lists.list_octets.Goals as goal

pub returns : goal.returns
returns c =
    let fresh = c.in-Ok.ensures.outside in
    c.in-Ok-to_vec.ensures.items_if_clones_equal (λ x y same. same)
    ∙ all_lines _ c.args.octets.items (outside_of c.in-Ok.port) (outside_of c.list_packets.new.port) (ap (λ o. o.rest) fresh) c.in_ok-list_packets.field-0 _
    (ap (λ o. o.given) fresh) c.given.ensures c.in_ok-list_packets.ensures
