use Rattle.std.proofs.Common.{◌≡◌, ◌<◌, ◌+◌, ◌*◌, ◌∙◌, ◌++◌, ◌∷◌, [], ℕ, List, length, take, drop, refl, sym, ap, subst, arith, rules, get_or}
use Rattle.std.proofs.lemmas.List.{take_all, take_more, take-append-drop}
use Rattle.port_122.specs.Outside.{Outside}
use Rattle.packet_defs.specs.Packets.{part_size}
use Rattle.space_packets.specs.declared.stage.Text.{Text}
use Rattle.space_packets.specs.Stages.{given_in}
use Rattle.space_packets.specs.Progress.{Progress}
use Rattle.space_packets.specs.Writes.{Continues, TextCut}
use Rattle.space_packets.specs.Sink.{Gave}
use Rattle.space_packets.specs.SinkLaws.{gave_nothing, gave_both, broke_after}
use Rattle.space_packets.proofs.WholeCalls.{some_wait, text_cut, text_closed}
use Rattle.space_packets.proofs.SinkCalls.{sink_goes_on, sink_breaks_off}
use Rattle.port_tests.proofs.packets_written.write_text.Goals as goal

pub loop-octet-init : goal.loop-octet-init
loop-octet-init g c =
    let begins = c.sink-sink.ensures.same_packets ∙ c.begin.ensures.begun in
    let none : 0 * part_size c.args.packets.now.packet + 0 ≡ 0 = omega arith in
    record {
      gave = gave_nothing g.X.Port.outside c.sink-sink.result;
      given = ap (λ (w : Progress). given_in w.stage (part_size w.packet) (length w.pending)) begins ∙ none;
    }

pub loop-octet-preserved : goal.loop-octet-preserved
loop-octet-preserved g c =
    let i = c.loop-octet.octet-index in
    let text = c.args.text.now in
    record {
      gave = subst (λ xs. Gave g.X.Port.outside c.sink-sink.result c.put.new.self xs) (sym (take_more text i 0 c.loop-octet-test.true))
          (gave_both g.X.Port.outside c.sink-sink.result c.loop-octet.sink c.put.new.self (take i text) (get_or text i 0 ∷ []) c.loop-octet.invariant.gave
          c.in-Ok.ensures.gave);
      given = c.in-Ok.ensures.given ∙ ap (λ n. n + 1) c.loop-octet.invariant.given;
    }

-- after a loan the place holds the last value under its name
sent_to : {X : Type 0} (outside : X → Outside) (x y : X) (w u : Progress) {t : Text} {p : Outside} {v : Progress} {text : List ℕ} → x ≡ y → w ≡ u →
    Continues t p (outside y) v u text → Continues t p (outside x) v w text
sent_to outside x y w u {t = t} {p = p} {v = v} {text = text} e f sent =
    subst (λ x. Continues t p (outside x) v w text) (sym e) (subst (λ w. Continues t p (outside y) v w text) (sym f) sent)

cut_to : {X : Type 0} (outside : X → Outside) (x y : X) (w u : Progress) {t : Text} {p : Outside} {v : Progress} {text : List ℕ} → x ≡ y → w ≡ u →
    TextCut t p (outside y) v u text → TextCut t p (outside x) v w text
cut_to outside x y w u {t = t} {p = p} {v = v} {text = text} e f cut =
    subst (λ x. TextCut t p (outside x) v w text) (sym e) (subst (λ w. TextCut t p (outside y) v w text) (sym f) cut)

-- a text is continued after one more octet
rejoined : (text : List ℕ) (i : ℕ) → i < length text → (take i text ++ get_or text i 0 ∷ []) ++ drop (i + 1) text ≡ text
rejoined text i here = ap (λ xs. xs ++ drop (i + 1) text) (sym (take_more text i 0 here)) ∙ take-append-drop (i + 1) text

pub close-requires-clause-some : goal.close-requires-clause-some
close-requires-clause-some g c =
    let begins = c.sink-sink.ensures.same_packets ∙ c.begin.ensures.begun in
    let text = c.args.text.now in
    let gave = rw (take_all c.loop-octet.octet-index text c.loop-octet-test.false) at c.loop-octet.invariant.gave in
    let sent = sink_goes_on g.X.Port.outside c.sink-sink.result c.loop-octet.sink c.args.packets.now _ c.args.port.now text begins
    c.sink-sink.ensures.same_port c.requires.packet gave in
    let waits : 0 < length c.loop-octet.sink.packets.now.pending = some_wait c.args.packets.now text c.requires.some sent in
    grind (arith, waits)

pub returns-in_default : goal.returns-in_default
returns-in_default g c =
    let begins = c.sink-sink.ensures.same_packets ∙ c.begin.ensures.begun in
    let i = c.loop-octet.octet-index in
    let text = c.args.text.now in
    let put = take i text ++ get_or text i 0 ∷ [] in
    let whole = rejoined text i c.loop-octet-test.true in
    let broke = broke_after g.X.Port.outside c.sink-sink.result c.loop-octet.sink c.put.new.self (take i text) (get_or text i 0 ∷ [])
    c.loop-octet.invariant.gave c.in_default.ensures.broke in
    let off = sink_breaks_off g.X.Port.outside c.sink-sink.result c.put.new.self c.args.packets.now _ c.args.port.now put begins
    c.sink-sink.ensures.same_port c.requires.packet broke in
    let cut = rw whole at (text_cut c.args.packets.now put (drop (i + 1) text) c.requires.packet refl (rw whole c.requires.some) off) in
    cut_to g.X.Port.outside _ c.put.new.self.port.now _ c.put.new.self.packets.now (search rules) (search rules) cut

pub returns : goal.returns
returns g c =
    let begins = c.sink-sink.ensures.same_packets ∙ c.begin.ensures.begun in
    let text = c.args.text.now in
    let gave = rw (take_all c.loop-octet.octet-index text c.loop-octet-test.false) at c.loop-octet.invariant.gave in
    let sent = sink_goes_on g.X.Port.outside c.sink-sink.result c.loop-octet.sink c.args.packets.now _ c.args.port.now text begins
    c.sink-sink.ensures.same_port c.requires.packet gave in
    text_closed c.close.result c.args.packets.now _ c.close.new.self _ text (g.X.Port.outside c.args.port.now) _ (g.X.Port.outside c.close.new.port)
    c.requires.packet refl c.requires.some
    (sent_to g.X.Port.outside _ c.loop-octet.sink.port.now _ c.loop-octet.sink.packets.now (search rules) (search rules) sent) c.close.ensures
