-- The lines of all packets of octets in memory.
use Rattle.std.proofs.Common.{◌≡◌, ◌∙◌, ℕ, List, [], ◌++◌, sym, ap, subst, inl, inr, Some, None, Option, Ok, append-nil}
use Rattle.port_122.specs.Outside.{Outside, Loses, Grows, IsUsedUp}
use Rattle.base_122.specs.declared.wish.DecodeWish.{DecodeWish}
use Rattle.packet_defs.specs.Streams.{whole_packets}
use Rattle.strip_decoder.specs.declared.list.ListDone.{ListDone}
use Rattle.strip_decoder.specs.PacketLines.{lines_of, listing}
use Rattle.packet_assembly.specs.Readings.{IsReadOut}
use Rattle.packet_assembly.proofs.BadVersions.{bad_stays}
use Rattle.strip_decoder.specs.ListAnswers.{Lists}

-- what was taken of these octets, and what is left of them
left_of : (octets took : List ℕ) (now : Option (List ℕ)) → Loses (Some octets) now took → (rest : List ℕ) × (octets ≡ took ++ rest) × (IsUsedUp now → rest ≡ [])
left_of octets took None p = absurd p
left_of octets took (Some rest) p = (rest, p, λ end. end)

module _ (wish : DecodeWish) (octets : List ℕ) (old new : Outside) (all : old.rest ≡ Some octets) where
  pub all_lines : (done : ListDone) (lines : List ℕ) → old.given ≡ Some [] → new.given ≡ Some lines → Lists wish old new (Ok done) →
      lines ≡ listing wish.apid octets
  all_lines done lines none given l =
      let grew : Grows (Some []) (Some lines) l.gave = subst (λ now. Grows (Some []) now l.gave) given
      (subst (λ before. Grows before new.given l.gave) none l.since.given) in
      let left = left_of octets l.took new.rest (subst (λ before. Loses before new.rest l.took) all l.since.rest) in
      let same : whole_packets (l.took ++ left.0) ≡ whole_packets l.took = read_out left.0 left.2 l.answer.out in
      grew ∙ l.answer.lines ∙ sym (ap (lines_of wish.apid) (ap whole_packets left.1 ∙ same))
    where
      read_out : (rest : List ℕ) → (IsUsedUp new.rest → rest ≡ []) → IsReadOut wish.octets new l.took → whole_packets (l.took ++ rest) ≡ whole_packets l.took
      read_out rest none (inl bad) = bad_stays l.took rest bad
      read_out rest none (inr end) = ap (λ xs. whole_packets (l.took ++ xs)) (none end.0) ∙ ap whole_packets (append-nil l.took)
