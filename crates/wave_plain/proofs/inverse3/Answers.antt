use Rattle.std.proofs.Common.{◌*◌, ◌/◌, ◌^◌, arith}
use Rattle.std.proofs.lemmas.Result.{IfOk-weaker}
use Rattle.std.proofs.lemmas.Grind.{common_steps}
use Rattle.wave_defs.proofs.PyramidLaws.{third_of-within, second_of-within, first_of-within}
use Rattle.wave_plain.specs.Images.{pyramid_in}
use Rattle.wave_plain.proofs.InverseLemmas.{shown_plane, four_sized, four_within, third_shown, second_shown, first_shown, rebuilt_shown}
use Rattle.wave_plain.proofs.inverse3.Goals as goal

pub join-requires-clause-halves : goal.join-requires-clause-halves
join-requires-clause-halves c = grind (arith, common_steps, third_shown, shown_plane, four_sized)

pub join-requires-clause-bounded : goal.join-requires-clause-bounded
join-requires-clause-bounded c =
    let r = c.args.bands.now.rows / 8 in
    let s = c.args.bands.now.width / 8 in
    let p = pyramid_in c.args.bands.now in
    let three = third_shown r s p _ _ _ _ (shown_plane _ _ r s _ _ (omega arith) (omega arith) c.plane_of.ensures.size c.plane_of.ensures.image)
    (shown_plane _ _ r s _ _ (omega arith) (omega arith) c.plane_of-2.ensures.size c.plane_of-2.ensures.image)
    (shown_plane _ _ r s _ _ (omega arith) (omega arith) c.plane_of-3.ensures.size c.plane_of-3.ensures.image)
    (shown_plane _ _ r s _ _ (omega arith) (omega arith) c.plane_of-4.ensures.size c.plane_of-4.ensures.image) in
    four_within (2 ^ 27) r s _ _ _ _ _ (omega arith) three (third_of-within (2 ^ 27) p r s c.requires.bounded)

pub join-requires-2-clause-halves : goal.join-requires-2-clause-halves
join-requires-2-clause-halves c = grind (arith, common_steps, third_shown, shown_plane, second_shown, four_sized)

pub join-requires-2-clause-bounded : goal.join-requires-2-clause-bounded
join-requires-2-clause-bounded c =
    let r = c.args.bands.now.rows / 8 in
    let s = c.args.bands.now.width / 8 in
    let p = pyramid_in c.args.bands.now in
    let three = third_shown r s p _ _ _ _ (shown_plane _ _ r s _ _ (omega arith) (omega arith) c.plane_of.ensures.size c.plane_of.ensures.image)
    (shown_plane _ _ r s _ _ (omega arith) (omega arith) c.plane_of-2.ensures.size c.plane_of-2.ensures.image)
    (shown_plane _ _ r s _ _ (omega arith) (omega arith) c.plane_of-3.ensures.size c.plane_of-3.ensures.image)
    (shown_plane _ _ r s _ _ (omega arith) (omega arith) c.plane_of-4.ensures.size c.plane_of-4.ensures.image) in
    let two = second_shown r s p _ _ _ _ _ _ _ _ (omega arith) (omega arith) three c.in_ok-second.ensures
    (shown_plane _ _ (2 * r) (2 * s) _ _ (omega arith) (omega arith) c.plane_of-5.ensures.size c.plane_of-5.ensures.image)
    (shown_plane _ _ (2 * r) (2 * s) _ _ (omega arith) (omega arith) c.plane_of-6.ensures.size c.plane_of-6.ensures.image)
    (shown_plane _ _ (2 * r) (2 * s) _ _ (omega arith) (omega arith) c.plane_of-7.ensures.size c.plane_of-7.ensures.image) in
    four_within (9 * 2 ^ 27) (2 * r) (2 * s) _ _ _ _ _ (omega arith) two (second_of-within (2 ^ 27) p r s (omega arith) (omega arith) (omega arith)
    c.requires.bounded)

pub join-requires-3-clause-halves : goal.join-requires-3-clause-halves
join-requires-3-clause-halves c = grind (arith, common_steps, third_shown, shown_plane, second_shown, first_shown, four_sized)

pub join-requires-3-clause-bounded : goal.join-requires-3-clause-bounded
join-requires-3-clause-bounded c =
    let r = c.args.bands.now.rows / 8 in
    let s = c.args.bands.now.width / 8 in
    let p = pyramid_in c.args.bands.now in
    let three = third_shown r s p _ _ _ _ (shown_plane _ _ r s _ _ (omega arith) (omega arith) c.plane_of.ensures.size c.plane_of.ensures.image)
    (shown_plane _ _ r s _ _ (omega arith) (omega arith) c.plane_of-2.ensures.size c.plane_of-2.ensures.image)
    (shown_plane _ _ r s _ _ (omega arith) (omega arith) c.plane_of-3.ensures.size c.plane_of-3.ensures.image)
    (shown_plane _ _ r s _ _ (omega arith) (omega arith) c.plane_of-4.ensures.size c.plane_of-4.ensures.image) in
    let two = second_shown r s p _ _ _ _ _ _ _ _ (omega arith) (omega arith) three c.in_ok-second.ensures
    (shown_plane _ _ (2 * r) (2 * s) _ _ (omega arith) (omega arith) c.plane_of-5.ensures.size c.plane_of-5.ensures.image)
    (shown_plane _ _ (2 * r) (2 * s) _ _ (omega arith) (omega arith) c.plane_of-6.ensures.size c.plane_of-6.ensures.image)
    (shown_plane _ _ (2 * r) (2 * s) _ _ (omega arith) (omega arith) c.plane_of-7.ensures.size c.plane_of-7.ensures.image) in
    let one = first_shown r s p _ _ _ _ _ _ _ _ (omega arith) (omega arith) two c.in_ok-first.ensures
    (shown_plane _ _ (4 * r) (4 * s) _ _ (omega arith) (omega arith) c.plane_of-8.ensures.size c.plane_of-8.ensures.image)
    (shown_plane _ _ (4 * r) (4 * s) _ _ (omega arith) (omega arith) c.plane_of-9.ensures.size c.plane_of-9.ensures.image)
    (shown_plane _ _ (4 * r) (4 * s) _ _ (omega arith) (omega arith) c.plane_of-10.ensures.size c.plane_of-10.ensures.image) in
    four_within (81 * 2 ^ 27) (4 * r) (4 * s) _ _ _ _ _ (omega arith) one (first_of-within (2 ^ 27) p r s (omega arith) (omega arith) (omega arith)
    c.requires.bounded)

pub returns : goal.returns
returns c =
    let r = c.args.bands.now.rows / 8 in
    let s = c.args.bands.now.width / 8 in
    let p = pyramid_in c.args.bands.now in
    let three = third_shown r s p _ _ _ _ (shown_plane _ _ r s _ _ (omega arith) (omega arith) c.plane_of.ensures.size c.plane_of.ensures.image)
    (shown_plane _ _ r s _ _ (omega arith) (omega arith) c.plane_of-2.ensures.size c.plane_of-2.ensures.image)
    (shown_plane _ _ r s _ _ (omega arith) (omega arith) c.plane_of-3.ensures.size c.plane_of-3.ensures.image)
    (shown_plane _ _ r s _ _ (omega arith) (omega arith) c.plane_of-4.ensures.size c.plane_of-4.ensures.image) in
    let two = second_shown r s p _ _ _ _ _ _ _ _ (omega arith) (omega arith) three c.in_ok-second.ensures
    (shown_plane _ _ (2 * r) (2 * s) _ _ (omega arith) (omega arith) c.plane_of-5.ensures.size c.plane_of-5.ensures.image)
    (shown_plane _ _ (2 * r) (2 * s) _ _ (omega arith) (omega arith) c.plane_of-6.ensures.size c.plane_of-6.ensures.image)
    (shown_plane _ _ (2 * r) (2 * s) _ _ (omega arith) (omega arith) c.plane_of-7.ensures.size c.plane_of-7.ensures.image) in
    let one = first_shown r s p _ _ _ _ _ _ _ _ (omega arith) (omega arith) two c.in_ok-first.ensures
    (shown_plane _ _ (4 * r) (4 * s) _ _ (omega arith) (omega arith) c.plane_of-8.ensures.size c.plane_of-8.ensures.image)
    (shown_plane _ _ (4 * r) (4 * s) _ _ (omega arith) (omega arith) c.plane_of-9.ensures.size c.plane_of-9.ensures.image)
    (shown_plane _ _ (4 * r) (4 * s) _ _ (omega arith) (omega arith) c.plane_of-10.ensures.size c.plane_of-10.ensures.image) in
    IfOk-weaker c.join-3.result _ _ (λ x made. rebuilt_shown r s _ _ p _ _ _ _ x c.requires.whole.rows_are c.requires.whole.columns_are (omega arith)
    (omega arith) one made) c.join-3.ensures
