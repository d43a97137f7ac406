use Rattle.std.proofs.Common.{◌≡◌, ◌*◌, ◌%◌, ◌^◌, ◌≤◌, ap, ◌∙◌, arith, pow_mono}
use Rattle.item_defs.specs.Bits.{bits_of}
use Rattle.item_defs.proofs.NumberBits.{bits_of-mod}
use Rattle.word_codes.proofs.put.trimmed.Goals as goal

pub returns-clause-same : goal.returns-clause-same
returns-clause-same c =
    let len = c.args.code.len in
    let most : 2 ^ len ≤ 2 ^ 8 = pow_mono c.requires in
    let power : 1 * 2 ^ len % 65536 ≡ 2 ^ len = omega (arith, most) in
    ap (λ n. bits_of len (n % (1 * 2 ^ len % 65536))) c.from.ensures ∙ ap (λ m. bits_of len (c.args.code.bits % m)) power ∙ bits_of-mod len c.args.code.bits
