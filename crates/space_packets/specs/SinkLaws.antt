-- A begun text is a sink of octets. These laws are here since the meaning of a sink needs them.
use Rattle.std.proofs.Common.{ℕ, List, [], ◌++◌, refl, sym, ◌∙◌, subst}
use Rattle.port_122.specs.Outside.{Outside}
use Rattle.space_packets.specs.declared.sink.PacketSink.{PacketSink}
use Rattle.space_packets.specs.declared.stage.Text.{Text}
use Rattle.space_packets.specs.Parts.{text_at}
use Rattle.space_packets.specs.Progress.{IsOpen, full_count}
use Rattle.space_packets.specs.Sink.{Gave, Broke}
use Rattle.space_packets.specs.Going.{after_open}
use Rattle.space_packets.specs.Writing.{goes_nowhere, goes_both, breaks_after}

pub gave_nothing : {X : Type 0} (outside : X → Outside) (s : PacketSink X) → Gave outside s s []
gave_nothing outside s = record { packets = refl; port = refl; text = λ t going. goes_nowhere (outside s.port.now) going }

-- the text is open if octets were written to it
still_open : {X : Type 0} (outside : X → Outside) {s u : PacketSink X} {xs : List ℕ} → Gave outside s u xs → (t : Text) → IsOpen t s.packets.now →
    IsOpen (text_at t (full_count s.packets.now xs)) u.packets.now
still_open outside {s = s} {u = u} {xs = xs} first t going =
    subst (λ v. IsOpen (text_at t (full_count s.packets.now xs)) v) (sym (first.text t going).valid) (after_open going xs)

pub gave_both : {X : Type 0} (outside : X → Outside) (s t u : PacketSink X) (xs ys : List ℕ) →
    Gave outside s t xs → Gave outside t u ys → Gave outside s u (xs ++ ys)
gave_both outside s t u xs ys first next = record {
  packets = next.packets ∙ first.packets;
  port = next.port ∙ first.port;
  text = λ text going. goes_both xs ys going (first.text text going)
      (next.text (text_at text (full_count s.packets.now xs)) (still_open outside first text going));
}

pub broke_after : {X : Type 0} (outside : X → Outside) (s t u : PacketSink X) (xs ys : List ℕ) →
    Gave outside s t xs → Broke outside t u ys → Broke outside s u (xs ++ ys)
broke_after outside s t u xs ys first next = record {
  packets = next.packets ∙ first.packets;
  port = next.port ∙ first.port;
  text = λ text going. breaks_after xs ys going (first.text text going)
      (next.text (text_at text (full_count s.packets.now xs)) (still_open outside first text going));
}
