-- Zeros put a number of them at a time.
use Rattle.std.proofs.Common.{◌≡◌, ℕ, ◌+◌, ◌-◌, ◌≤◌, ◌++◌, false, sym, ap, subst, ◌∙◌, arith, Result, Err}
use Rattle.item_defs.specs.Bits.{bits_of, copies}
use Rattle.item_defs.proofs.BitLists.{copies_none, copies_then}
use Rattle.item_defs.proofs.NumberBits.{bits_of_zero}
use Rattle.bit_pipe.specs.Sinks.{SinkOf}
use Rattle.bit_pipe.specs.SinkState.{SinkState, IsOpen, Adds, Puts}
use Rattle.bit_pipe.specs.declared.fault.PutFault.{PutFault}
use Rattle.bit_pipe.proofs.Putting.{adds_start, adds_then, puts_then, puts_ended}

module _ {S : Type 0} {k : SinkOf S} (count left : ℕ) where
  pub zeros_begin : (s : SinkState S) (n : ℕ) → IsOpen s → n ≡ 0 → Adds k s s (copies n false)
  zeros_begin s n h e = subst (Adds k s s) (sym (ap (λ m. copies m false) e ∙ copies_none false)) (adds_start k s h)

  pub zeros_go_on : {a b c : SinkState S} (n : ℕ) → n ≤ left → left ≤ count → Adds k a b (copies (count - left) false) → Adds k b c (bits_of n 0) →
      Adds k a c (copies (count - (left - n)) false)
  zeros_go_on {a} {b} {c} n le within p q =
      let e : copies (count - left) false ++ bits_of n 0 ≡ copies (count - (left - n)) false =
      ap (λ r. copies (count - left) false ++ r) (bits_of_zero n) ∙ copies_then (count - left) n false ∙ ap (λ m. copies m false) (omega arith) in
      subst (Adds k a c) e (adds_then p q)

  pub zeros_end : {T U : Type 0} {e : PutFault} {a b c : SinkState S} (n : ℕ) → n ≤ left → left ≤ count → Adds k a b (copies (count - left) false) →
      Puts {T = T} k (Err e) b c (bits_of n 0) → Puts {T = U} k (Err e) a c (copies count false)
  zeros_end {a = a} {b} {c} n le within p q =
      let e : copies (count - left) false ++ (bits_of n 0 ++ copies (left - n) false) ≡ copies count false =
      ap (λ r. copies (count - left) false ++ (r ++ copies (left - n) false)) (bits_of_zero n) ∙ ap (λ r. copies (count - left) false ++ r)
      (copies_then n (left - n) false) ∙ copies_then (count - left) (n + (left - n)) false ∙ ap (λ m. copies m false) (omega arith) in
      puts_ended (copies (left - n) false) p q e

  pub zeros_whole : {T : Type 0} {r : Result T PutFault} {a b c : SinkState S} → left ≤ count → Adds k a b (copies (count - left) false) →
      Puts k r b c (bits_of left 0) → Puts k r a c (copies count false)
  zeros_whole {T} {r} {a} {b} {c} within p q =
      let e : copies (count - left) false ++ bits_of left 0 ≡ copies count false =
      ap (λ x. copies (count - left) false ++ x) (bits_of_zero left) ∙ copies_then (count - left) left false ∙ ap (λ m. copies m false) (omega arith) in
      subst (Puts k r a c) e (puts_then p q)
