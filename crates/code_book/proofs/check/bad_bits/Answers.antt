use Rattle.std.proofs.Common.{◌≡◌, ◌-◌, sym, ap, ◌∙◌, arith, not}
use Rattle.plane_defs.specs.Codes.{entry}
use Rattle.code_book.specs.Tests.{first_from, bad_bits, fits}
use Rattle.code_book.proofs.Firsts.{found, past, nowhere}
use Rattle.code_book.proofs.check.bad_bits.Goals as goal

pub loop-symbol-init : goal.loop-symbol-init
loop-symbol-init c = let e : c.args.count ≡ c.args.count - 0 = omega arith in ap (first_from (λ s. not (fits (entry c.args.codes.now s))) 0) e

pub returns-then-not-fits : goal.returns-then-not-fits
returns-then-not-fits c =
    let codes = c.args.codes.now in
    sym (found (λ s. not (fits (entry codes s))) (bad_bits codes c.args.count) c.loop-symbol.symbol c.args.count c.loop-symbol.invariant c.loop-symbol-test.true
    (ap not (sym c.fits.ensures ∙ c.if-not-fits.true)))

pub loop-symbol-preserved : goal.loop-symbol-preserved
loop-symbol-preserved c =
    let codes = c.args.codes.now in
    past (λ s. not (fits (entry codes s))) (bad_bits codes c.args.count) c.loop-symbol.symbol c.args.count c.loop-symbol.invariant c.loop-symbol-test.true
    (ap not (sym c.fits.ensures ∙ c.if-not-fits.false))

pub returns : goal.returns
returns c =
    let codes = c.args.codes.now in
    sym (nowhere (λ s. not (fits (entry codes s))) (bad_bits codes c.args.count) c.loop-symbol.symbol c.args.count c.loop-symbol.invariant
    (omega (arith, c.loop-symbol-test.false)))

pub fits-requires : goal.fits-requires
fits-requires c = c.requires.lengths c.loop-symbol.symbol c.loop-symbol-test.true
