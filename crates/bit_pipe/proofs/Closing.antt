-- The octets of a whole text, from its first bit to its end.
use Rattle.std.proofs.Common.{◌≡◌, ℕ, List, [], ◌++◌, Bool, false, sym, ap, subst, ◌∙◌, append_assoc}
use Rattle.item_defs.specs.Bits.{octets_of, copies}
use Rattle.item_defs.proofs.OctetBits.{octets_are}
use Rattle.bit_pipe.specs.Sinks.{SinkOf, GaveBits, BrokeBits}
use Rattle.bit_pipe.specs.SinkState.{SinkState, Begins, Adds, Breaks, Finishes}
use Rattle.bit_pipe.proofs.Giving.{gives_then, broke_then}

-- octets with these bits are the octets that the bits fill
pub gave_octets : {S : Type 0} {k : SinkOf S} {a b : S} {bits : List Bool} → GaveBits k a b bits → k.Gave a b (octets_of bits)
gave_octets {S} {k} {a} {b} {bits} p = subst (k.Gave a b) (sym (octets_are bits p.octets p.small p.spell)) p.gave

-- the bits that were there, and those that the end adds
whole : (before bits given pending zeros : List Bool) → before ≡ [] → before ++ bits ≡ given ++ pending → given ++ (pending ++ zeros) ≡ bits ++ zeros
whole before bits given pending zeros none e =
    sym (append_assoc given pending zeros) ∙ ap (λ r. r ++ zeros) (sym e ∙ ap (λ r. r ++ bits) none)

module _ {S : Type 0} {k : SinkOf S} {out : S} {bound : ℕ} {s t : SinkState S} {bits : List Bool} (begins : Begins k out bound s) where
  -- all bits of a text were put, and it was ended
  pub text_gave : {u : S} {zeros answer : ℕ} → Adds k s t bits → Finishes k t u zeros answer → GaveBits k out u (bits ++ copies zeros false)
  text_gave {u} {zeros} p q =
      let same = whole s.pending bits p.out t.pending (copies zeros false) begins.pending p.bits in
      let all : GaveBits k s.sink u (bits ++ copies zeros false) = subst (GaveBits k s.sink u) same (gives_then k p.gave q.gave) in
      subst (λ x. GaveBits k x u (bits ++ copies zeros false)) begins.sink all

  -- the sink failed while the text was ended
  pub text_broke_at_end : {u : S} (zeros : ℕ) → Adds k s t bits → BrokeBits k t.sink u (t.pending ++ copies zeros false) →
      BrokeBits k out u (bits ++ copies zeros false)
  text_broke_at_end {u} zeros p q =
      let same = whole s.pending bits p.out t.pending (copies zeros false) begins.pending p.bits in
      let all : BrokeBits k s.sink u (bits ++ copies zeros false) = subst (BrokeBits k s.sink u) same (broke_then k p.gave q) in
      subst (λ x. BrokeBits k x u (bits ++ copies zeros false)) begins.sink all

-- the sink failed before the end
pub text_broke : {S : Type 0} {k : SinkOf S} {out : S} {bound : ℕ} {s t : SinkState S} {bits : List Bool} → Begins k out bound s → Breaks k s t bits →
    BrokeBits k out t.sink bits
text_broke {S} {k} {out} {bound} {s} {t} {bits} begins p =
    let all : BrokeBits k s.sink t.sink bits = subst (λ x. BrokeBits k s.sink t.sink (x ++ bits)) begins.pending p.broke in
    subst (λ x. BrokeBits k x t.sink bits) begins.sink all
