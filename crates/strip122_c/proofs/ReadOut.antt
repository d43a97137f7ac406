-- A decoder that read to the end, or to what can't be read on, has read all packets of the stream.
use Rattle.std.proofs.Common.{◌≡◌, ◌∙◌, ℕ, true, List, ◌++◌, length, refl, sym, ap, subst, inl, inr, Some}
use Rattle.port_122.specs.Outside.{Outside, Exchange}
use Rattle.port_122.proofs.IfKnown.{end_known}
use Rattle.packet_defs.specs.Packets.{joined}
use Rattle.packet_defs.specs.Streams.{has_bad_version, left_over, place_after, whole_packets, framing_at, framing}
use Rattle.packet_defs.specs.declared.packet.Framing.TheVariants.{BadVersion}
use Rattle.packet_assembly.specs.Readings.{IsReadOut}
use Rattle.packet_assembly.proofs.BadVersions.{bad_later, bad_stays, left_stays}
use Rattle.strip_decoder.proofs.TextReads.{left_after}
use Rattle.packet_defs.proofs.Equations.{framing_at-is}

framing_bad : (place : ℕ) (left : List ℕ) → has_bad_version left ≡ true → framing_at place left ≡ Some (BadVersion place)
framing_bad place left bad = rw (framing_at-is, bad) refl

-- what was taken determines the packets of the whole stream, and why it can't be read on
pub record ReadsAll (took packets : List ℕ) : Type 0 where
  pub whole : whole_packets took ≡ whole_packets packets
  pub framing_is : framing took ≡ framing packets

pub reads_bad : (took more : List ℕ) → has_bad_version (left_over took) ≡ true → ReadsAll took (took ++ more)
reads_bad took more bad =
    let whole : whole_packets took ≡ whole_packets (took ++ more) = sym (bad_stays took more bad) in
    let place : place_after took ≡ place_after (took ++ more) = ap (λ packets. length (joined packets)) whole in
    let left : has_bad_version (left_over (took ++ more)) ≡ true = ap has_bad_version (left_stays took more bad) ∙ bad_later took more bad in
    record {
      whole = whole;
      framing_is = framing_bad (place_after took) (left_over took) bad ∙ ap (λ n. Some (BadVersion n)) place
          ∙ sym (framing_bad (place_after (took ++ more)) (left_over (took ++ more)) left);
    }

pub reads_all : {g w : List ℕ} {Q : ℕ → ℕ → Type 0} (cap : ℕ) (took packets : List ℕ) (old new : Outside) → Exchange old new took g w Q →
    old.rest ≡ Some packets → IsReadOut cap new took → ReadsAll took packets
reads_all cap took packets old new since if_known (inl bad) =
    let left = left_after old.rest new.rest took packets since.rest if_known in
    subst (ReadsAll took) (sym left.are) (reads_bad took left.rest bad)
reads_all cap took packets old new since if_known (inr ended) =
    subst (ReadsAll took) (end_known packets since if_known ended.0) (record { whole = refl; framing_is = refl })
