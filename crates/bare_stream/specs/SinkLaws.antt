-- Octets that are written to a port in pieces can be continued. These laws are here since the meaning of a sink needs them.
use Rattle.std.proofs.Common.{ℕ, ◌≡◌, List, [], ◌++◌, refl, sym, ap, ◌∙◌, arith, append_assoc, length-append}
use Rattle.std.proofs.lemmas.List.{append-nil}
use Rattle.port_122.specs.Outside.{Outside, NoRead}
use Rattle.port_122.proofs.Stretches.{since_start, since_out}
use Rattle.bare_stream.specs.declared.sink.TextSink.{TextSink}
use Rattle.bare_stream.specs.Sink.{Gave, Broke, waiting}

pub gave_none : {X : Type 0} (outside : X → Outside) (s : TextSink X) → Gave outside s s []
gave_none outside s = record {
  port = refl;
  wrote = [];
  out = since_start (outside s.port.now) NoRead;
  waits = append-nil (waiting s);
  few = λ h. h;
  given =
      omega arith;
}

-- what waited is written first
joined : (a xs ys p b q c : List ℕ) → a ++ xs ≡ p ++ b → b ++ ys ≡ q ++ c → a ++ (xs ++ ys) ≡ (p ++ q) ++ c
joined a xs ys p b q c e f =
    sym (append_assoc a xs ys) ∙ ap (λ l. l ++ ys) e ∙ append_assoc p b ys ∙ ap (λ l. p ++ l) f ∙ sym (append_assoc p q c)

pub gave_both : {X : Type 0} (outside : X → Outside) (s t u : TextSink X) (xs ys : List ℕ) → Gave outside s t xs → Gave outside t u ys →
    Gave outside s u (xs ++ ys)
gave_both outside s t u xs ys first next = record {
  port = next.port ∙ first.port;
  wrote = first.wrote ++ next.wrote;
  out = since_out first.out next.out;
  waits = joined (waiting s) xs ys first.wrote (waiting t) next.wrote (waiting u) first.waits next.waits;
  few = λ h. next.few (first.few h);
  given = (let a = first.given in let b = next.given in omega (arith, a, b, length-append xs ys));
}

pub broke_after : {X : Type 0} (outside : X → Outside) (s t u : TextSink X) (xs ys : List ℕ) → Gave outside s t xs → Broke outside t u ys →
    Broke outside s u (xs ++ ys)
broke_after outside s t u xs ys first next = record {
  port = next.port ∙ first.port;
  wrote = first.wrote ++ next.wrote;
  more = next.more;
  out = since_out first.out next.out;
  waits = joined (waiting s) xs ys first.wrote (waiting t) next.wrote next.more first.waits next.waits;
}
