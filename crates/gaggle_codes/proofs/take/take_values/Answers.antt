use Rattle.std.proofs.Common.{◌≡◌, ◌-◌, ◌*◌, ◌%◌, ◌^◌, ap, pow_mono, ◌<◌, ℕ, false, sym, arith, nat_lt}
use Rattle.std.proofs.lemmas.Bool.Decides.{nat_tests}
use Rattle.gaggle_codes.proofs.take.take_values.Goals as goal

not_above : (N most h : ℕ) → most ≡ 2 ^ N - 1 → h < 2 ^ N → false ≡ nat_lt most h
not_above N most h e lt = sym (let q : nat_lt most h ≡ false = grind (arith, nat_tests) in q)

pub returns : goal.returns
returns g c =
    let w : 1 * 2 ^ c.args.range.bits % 65536 ≡ 2 ^ c.args.range.bits = omega (arith, pow_mono c.requires.high) in
    rw w at (c.take_bounded.ensures (λ h. false) (record { at = λ h lt. not_above c.args.range.bits _ h (ap (λ n. n - 1) w) lt }))
