use Rattle.std.proofs.Common.{◌<◌, arith, length}
use Rattle.std.proofs.lemmas.Result.{err_from_is_err_and}
use Rattle.bit_pipe.proofs.Putting.{open_later}
use Rattle.number_defs.specs.Gaggles.{gaggle_values, gaggle_count}
use Rattle.number_defs.specs.Choice.{choices}
use Rattle.gaggle_codes.specs.Options.{choice_of}
use Rattle.gaggle_codes.specs.Written.{heights, kind_of}
use Rattle.gaggle_codes.specs.GaggleBits.{chosen_names}
use Rattle.gaggle_codes.proofs.Chosen.{choice_is}
use Rattle.gaggle_codes.proofs.Few.{heights_few}
use Rattle.gaggle_codes.proofs.TextBits.{before_text}
use Rattle.gaggle_codes.proofs.GaggleParts.{gaggle_none, gaggle_more, gaggle_ended, gaggles_all, ceil16}
use Rattle.gaggle_codes.proofs.put.put_values.Goals as goal
use Rattle.std.proofs.lemmas.Grind.{common_steps}

pub loop-gaggle-init : goal.loop-gaggle-init
loop-gaggle-init g c = grind (arith, common_steps, gaggle_none)

pub loop-gaggle-preserved : goal.loop-gaggle-preserved
loop-gaggle-preserved g c = grind (arith, common_steps, open_later, gaggle_more)

pub returns-in_err-put_gaggle : goal.returns-in_err-put_gaggle
returns-in_err-put_gaggle g c = λ too_great.
    let range = c.args.range in
    let hs = heights range c.args.shift c.args.stride c.args.cells.now in
    let names = chosen_names c.args.select range.bits hs in
    let p = err_from_is_err_and c.from_residual.result c.from_residual.ensures.1 in
    let few = heights_few range c.args.shift c.args.stride c.args.cells.now c.requires.stride c.requires.in_range in
    let text = before_text (kind_of range too_great) hs few c.requires.low c.requires.high (choices (choice_of c.args.select) range.bits hs)
    (λ h. choice_is c.args.select range.bits (gaggle_values range.bits hs h) c.requires.low) (gaggle_count (length hs)) in
    let more : c.loop-gaggle.gaggle < gaggle_count (length hs) = omega (arith, c.len.ensures, c.div_ceil-gaggle-end.ensures, ceil16 (length hs)) in
    rw (p.1, p.2, text) (gaggle_ended range.signed range.bits hs names (gaggle_count (length hs)) c.loop-gaggle.gaggle more c.loop-gaggle.invariant.so_far
    c.in_err-put_gaggle.ensures)

pub returns : goal.returns
returns g c = grind (arith, common_steps, heights_few, before_text, choice_is, ceil16, gaggles_all)
