use Rattle.std.proofs.Common.{◌+◌, ◌*◌, ◌∙◌, arith, w64}
use Rattle.std.proofs.lemmas.Int.{to_z-of_z}
use Rattle.wave_defs.proofs.Filled.{Agrees-set_at, Agrees-set_off}
use Rattle.lift_rows.proofs.Values.{even_is}
use Rattle.lift_rows.proofs.back.put_even.Goals as goal

pub returns : goal.returns
returns c =
    let h = c.requires.halves in
    let room = h.room in
    let result = to_z-of_z w64 c.even_sample.result (record { sfits = c.even_sample.type_inv }) in
    let is = (even_is _ _ _ c.args.j _ _ c.requires.inside (omega arith) h.low_bounded h.high_bounded c.even_sample.ensures).1 in
    record {
      even = Agrees-set_at (λ k. 2 * k) _ _ _ _ (omega arith) (λ k l. omega arith) c.requires.valid.even (result ∙ is);
      odd = Agrees-set_off (λ k. 2 * k + 1) _ _ 0 _ _ (λ k l. omega arith) c.requires.valid.odd;
    }
