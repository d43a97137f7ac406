use Rattle.std.proofs.Common.{◌≡◌, ◌≤◌, ◌*◌, ◌%◌, ◌^◌, arith, nat_lt, pow_mono}
use Rattle.code_book.proofs.check.fits.Goals as goal

pub returns : goal.returns
returns c =
    let code = c.args.code in
    let most : 2 ^ code.len ≤ 2 ^ 8 = pow_mono {i = code.len} {j = 8} c.requires in
    let e : 1 * 2 ^ code.len % 65536 ≡ 2 ^ code.len = omega (arith, most) in
    λ i. nat_lt (c.from.ensures i) (e i)
