use Rattle.std.proofs.Common.{◌+◌, ◌-◌, ◌*◌, ◌^◌, ◌∙◌, arith, w32, w64}
use Rattle.wave_defs.specs.Held.{signal}
use Rattle.wave_defs.proofs.Shifts.{kept}
use Rattle.std.proofs.lemmas.Int.{to_z-of_z}
use Rattle.wave_defs.proofs.Filled.{Agrees-set_at, Agrees-set_off}
use Rattle.lift_rows.proofs.Values.{even_is}
use Rattle.lift_rows.proofs.back_widened.put_even_widened.Goals as goal

pub returns : goal.returns
returns c =
    let h = c.requires.halves in
    let room = h.room in
    let result = to_z-of_z w64 c.even_sample.result (record { sfits = c.even_sample.type_inv }) in
    let j = c.args.j in
    let kl = c.from.ensures ∙ kept w32 (2 ^ 31 - 1) (signal c.args.low.now j) (omega arith) (c.requires.low_bounded.at j c.requires.inside) in
    let kb = c.from-2.ensures ∙ kept w32 (2 ^ 31 - 1) (signal c.args.high.now c.saturating_sub.result) (omega arith)
    (c.requires.high_bounded.at c.saturating_sub.result (omega arith)) in
    let kh = c.from-3.ensures ∙ kept w32 (2 ^ 31 - 1) (signal c.args.high.now j) (omega arith) (c.requires.high_bounded.at j c.requires.inside) in
    let made = simp (kl, kb, kh) at c.even_sample.ensures in
    let is = (even_is (signal c.args.low.now) (signal c.args.high.now) _ j c.saturating_sub.result _ c.requires.inside (omega arith) h.low_bounded
    h.high_bounded made).1 in
    record {
      even = Agrees-set_at (λ k. 2 * k) _ _ _ _ (omega arith) (λ k l. omega arith) c.requires.valid.even (result ∙ is);
      odd = Agrees-set_off (λ k. 2 * k + 1) _ _ 0 _ _ (λ k l. omega arith) c.requires.valid.odd;
    }
