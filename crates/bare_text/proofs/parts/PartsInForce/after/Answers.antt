use Rattle.std.proofs.Common.{ap, ◌∙◌, drop}
use Rattle.bare_text.proofs.PartLists.{parts_are, fourth_room}
use Rattle.bare_text.proofs.parts.PartsInForce.after.Goals as goal

pub split_part-requires-3-clause-room : goal.split_part-requires-3-clause-room
split_part-requires-3-clause-room c =
    fourth_room c.args.octets.now c.carried_in-carried.result _ _ _ c.requires.whole c.carried_in-carried.ensures
    (c.rest_from-rest.ensures ∙ ap (λ n. drop n c.args.octets.now) c.part_1_length.ensures)
    c.split_part.ensures.rest c.split_part-2.ensures.rest

pub returns-clause-parts : goal.returns-clause-parts
returns-clause-parts c =
    parts_are c.args.self.now c.args.octets.now c.carried_in-carried.result _ _ _ _ _ _ _ c.carried_in-carried.ensures
    (c.rest_from-rest.ensures ∙ ap (λ n. drop n c.args.octets.now) c.part_1_length.ensures)
    c.split_part.ensures.part c.split_part.ensures.rest c.split_part-2.ensures.part c.split_part-2.ensures.rest
    (rw c.rest_from.ensures at c.split_part-3.ensures.part) c.joined.ensures
