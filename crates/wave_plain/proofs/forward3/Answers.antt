use Rattle.std.proofs.Common.{◌*◌, ◌/◌, ◌^◌, arith}
use Rattle.wave_defs.specs.Level.{level}
use Rattle.wave_defs.specs.Pyramid.{pyramid, pyramid_of}
use Rattle.wave_defs.specs.Within.{EachWithin}
use Rattle.wave_defs.proofs.LevelWithin.{EachWithin-more}
use Rattle.wave_defs.proofs.PyramidLaws.{pyramid-within, PyramidWithin-same}
use Rattle.wave_plain.specs.Images.{image_of}
use Rattle.wave_plain.proofs.LevelLemmas.{shown_within, shown_widened}
use Rattle.wave_plain.proofs.ForwardLemmas.{first_shown, next_shown, as_double, first_within, second_within, bands_shown}
use Rattle.wave_plain.proofs.forward3.Goals as goal

pub level-requires-2-clause-bounded : goal.level-requires-2-clause-bounded
level-requires-2-clause-bounded c =
    let a = image_of c.args.image.now in
    let r = c.args.image.now.rows / 8 in
    let s = c.args.image.now.width / 8 in
    let start : EachWithin (2 ^ 16) (8 * r) (8 * s) a = EachWithin-more _ _ _ _ _ _ a (omega arith) (omega arith) (omega arith) c.requires.bounded in
    let one = first_shown _ _ r s a _ _ c.requires.rows.0 c.requires.width.0 (omega arith) (omega arith) c.in_ok-whole.ensures c.in_ok-first.ensures in
    shown_within 409600 _ _ _ _ _ (omega arith) one.ll (first_within r s a (omega arith) (omega arith) start)

pub level-requires-3-clause-bounded : goal.level-requires-3-clause-bounded
level-requires-3-clause-bounded c =
    let a = image_of c.args.image.now in
    let r = c.args.image.now.rows / 8 in
    let s = c.args.image.now.width / 8 in
    let low = (level a (4 * r) (4 * s)).ll in
    let start : EachWithin (2 ^ 16) (8 * r) (8 * s) a = EachWithin-more _ _ _ _ _ _ a (omega arith) (omega arith) (omega arith) c.requires.bounded in
    let one = first_shown _ _ r s a _ _ c.requires.rows.0 c.requires.width.0 (omega arith) (omega arith) c.in_ok-whole.ensures c.in_ok-first.ensures in
    let two = next_shown (2 * r) (2 * s) low _ _ (omega arith) (omega arith) (as_double _ _ _ _ _ _ (omega arith) (omega arith) one.ll)
    c.in_ok-second.ensures in
    shown_within 2560000 _ _ _ _ _ (omega arith) two.ll
    (second_within r s low (omega arith) (omega arith) (first_within r s a (omega arith) (omega arith) start))

pub returns : goal.returns
unfolding pyramid pyramid_of
returns c =
    let a = image_of c.args.image.now in
    let r = c.args.image.now.rows / 8 in
    let s = c.args.image.now.width / 8 in
    let low = (level a (4 * r) (4 * s)).ll in
    let lowest = (level low (2 * r) (2 * s)).ll in
    let start : EachWithin (2 ^ 16) (8 * r) (8 * s) a = EachWithin-more _ _ _ _ _ _ a (omega arith) (omega arith) (omega arith) c.requires.bounded in
    let one = first_shown _ _ r s a _ _ c.requires.rows.0 c.requires.width.0 (omega arith) (omega arith) c.in_ok-whole.ensures c.in_ok-first.ensures in
    let two = next_shown (2 * r) (2 * s) low _ _ (omega arith) (omega arith) (as_double _ _ _ _ _ _ (omega arith) (omega arith) one.ll)
    c.in_ok-second.ensures in
    let three = next_shown r s lowest _ _ (omega arith) (omega arith) two.ll c.in_ok-third.ensures in
    let last = shown_widened _ _ _ _ _ three.ll c.in_ok-ll.ensures in
    let shown = bands_shown r s (pyramid a r s) _ _ _ _ _ _ _ _ _ _ _ c.requires.rows.0 c.requires.width.0 c.in_ok-planes.ensures.items
    c.in_ok-planes.ensures.len one.hh one.hl one.lh two.hh two.hl two.lh three.hh three.hl three.lh last in
    record {
      bands = shown;
      small = PyramidWithin-same _ _ _ r s _ _ shown.bands (pyramid-within a r s (omega arith) (omega arith) start);
    }
