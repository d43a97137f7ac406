-- The bits of DC bit planes one after another.
use Rattle.std.proofs.Common.{◌≡◌, ℕ, zero, suc, ◌+◌, ◌-◌, ◌<◌, ◌≤◌, ℤ, List, [], ◌++◌, map, refl, sym, ap, ◌∙◌, append_assoc, arith, inl, inr, Ok, Err}
use Rattle.std.proofs.Common.{append-nil}
use Rattle.std.proofs.lemmas.Bool.{cases_lt}
use Rattle.item_defs.specs.Items.{Item, text}
use Rattle.item_defs.proofs.Texts.{text-append}
use Rattle.bit_pipe.specs.Sinks.{SinkOf}
use Rattle.bit_pipe.specs.SinkState.{SinkState, IsOpen, Adds, Puts}
use Rattle.bit_pipe.specs.declared.fault.PutFault.{PutFault}
use Rattle.bit_pipe.proofs.Putting.{adds_start, adds_then, puts_ended, puts_whole}
use Rattle.number_defs.specs.DcPart.{dc_bit, planes_before}
use Rattle.number_defs.proofs.Equations.{planes_before-none, planes_before-more}
use Rattle.std.proofs.lemmas.Bool.Decides.{nat_tests}

module _ (q : ℕ) (dcs : List ℤ) where
  -- the plane after the first n
  pub one_more : (n plane : ℕ) → plane ≡ q - (n + 1) → text (planes_before q dcs n) ++ text (map (dc_bit plane) dcs) ≡ text (planes_before q dcs (n + 1))
  one_more n plane e = let f : n + 1 ≡ suc n = omega arith in rw (e, f, planes_before-more)
      (sym (text-append (planes_before q dcs n) (map (dc_bit (q - suc n)) dcs)))

  rest_of : (m n : ℕ) → n ≤ m → (rest : List Item) × (text (planes_before q dcs n) ++ text rest ≡ text (planes_before q dcs m))
  rest_of zero n le = let z : n ≡ 0 = omega arith in ([], rw (z, planes_before-none) refl)
  rest_of (suc m) n le =
      elim (cases_lt n (suc m)) [
        | inl lt ↦
            let r = rest_of m n (omega arith) in
            let last = map (dc_bit (q - suc m)) dcs in (
              r.0 ++ last,
              ap (λ t. text (planes_before q dcs n) ++ t) (text-append r.0 last) ∙ sym (append_assoc (text (planes_before q dcs n)) (text r.0)
                  (text last)) ∙ ap (λ t. t ++ text last) r.1 ∙ sym (text-append (planes_before q dcs m) last) ∙ ap text (sym (planes_before-more q dcs m)),
            )
        | inr ge ↦ grind (arith, nat_tests, append-nil)
      ]

  pub plane_none : {S : Type 0} (k : SinkOf S) (s : SinkState S) (n : ℕ) → n ≡ 0 → IsOpen s → Adds k s s (text (planes_before q dcs n))
  plane_none k s n z h = rw (z, planes_before-none) (adds_start k s h)

  pub plane_more : {S : Type 0} {k : SinkOf S} {a b c : SinkState S} (n m plane : ℕ) → plane ≡ q - (n + 1) → m ≡ n + 1 →
      Adds k a b (text (planes_before q dcs n)) → Adds k b c (text (map (dc_bit plane) dcs)) →
      Adds k a c (text (planes_before q dcs m))
  plane_more n m plane e f u v = rw (f, ← one_more n plane e) (adds_then u v)

  pub plane_ended : {S T U : Type 0} {k : SinkOf S} {e : PutFault} {a b c : SinkState S} (m n plane : ℕ) → n < m → plane ≡ q - (n + 1) →
      Adds k a b (text (planes_before q dcs n)) →
      Puts {T = T} k (Err e) b c (text (map (dc_bit plane) dcs)) → Puts {T = U} k (Err e) a c (text (planes_before q dcs m))
  plane_ended m n plane lt e u v =
      let r = rest_of m (n + 1) (omega arith) in
      puts_ended (text r.0) u v (sym (append_assoc (text (planes_before q dcs n)) (text (map (dc_bit plane) dcs)) (text r.0)) ∙ ap (λ t. t ++ text r.0)
      (one_more n plane e) ∙ r.1)

  pub planes_all : {S : Type 0} {k : SinkOf S} {a b : SinkState S} (m n : ℕ) → n ≡ m → Adds k a b (text (planes_before q dcs n)) →
      Puts {T = Unit {0}} k (Ok tt) a b (text (planes_before q dcs m))
  planes_all m n e u = rw (← e) (puts_whole u)
