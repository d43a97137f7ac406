-- Rings of rows of zeros.
use Rattle.std.proofs.Common.{◌≡◌, ℕ, ℤ, pos, List, [], length, get_or, replicate, sym, subst, ap, ◌∙◌, arith}
use Rattle.std.proofs.lemmas.Int.{ints}
use Rattle.std.proofs.lemmas.List.{length-replicate, get_or-replicate}
use Rattle.wave_defs.specs.Held.{signal}
use Rattle.wave_defs.specs.Rings.{AreRows, RowsWithin}

-- they have their number and width
pub AreRows-zeros : (count w : ℕ) (rows : List (List ℤ)) → rows ≡ replicate count (replicate w (pos 0)) → AreRows count w rows
AreRows-zeros count w rows is = subst (AreRows count w) (sym is) (record {
  count_is = length-replicate count (replicate w (pos 0));
  wide = λ t h. ap length (get_or-replicate count t (replicate w (pos 0)) [] h) ∙ length-replicate w (pos 0);
})

-- and are within each bound
pub RowsWithin-zeros : (b count w : ℕ) (rows : List (List ℤ)) → rows ≡ replicate count (replicate w (pos 0)) → RowsWithin b w rows
RowsWithin-zeros b count w rows is =
    let long = length-replicate count (replicate w (pos 0)) in
    subst (RowsWithin b w) (sym is) (record {
      at = λ t h. record {
        at = λ k hk.
            let zero : signal (get_or (replicate count (replicate w (pos 0))) t []) k ≡ pos 0 =
            ap (λ (x : List ℤ). signal x k) (get_or-replicate count t (replicate w (pos 0)) [] (omega arith)) ∙ get_or-replicate w k (pos 0) (pos 0) hk in
            rw zero (record { above = omega (arith, ints); below = omega (arith, ints) });
      };
    })
