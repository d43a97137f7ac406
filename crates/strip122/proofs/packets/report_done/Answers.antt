use Rattle.std.proofs.Common.{◌≡◌, ◌∙◌, [], true, false, sym, ap, rules, Bool, not, nat_le, Option, None, is_some, find}
use Rattle.std.proofs.lemmas.Bool.{false≢true}
use Rattle.strip122.specs.DamageNotes.{damaged, is_known}
use Rattle.strip122.proofs.Decoded.{known_some, reports_nothing, reports_damage}
use Rattle.strip122.proofs.DamageParts.{none_there}
use Rattle.strip122.proofs.packets.report_done.Goals as goal
use Rattle.strip122.proofs.packets.report_done.Goals.{else-is_none-via-then-is_none+then-known+else-is_none-2, else-is_none-via-then-is_none+else-known}
use Rattle.strip122.proofs.packets.report_done.Goals.{else-is_none-via-else-is_none}

-- a value that isn't known to be none isn't none
some_found : {T : Type 0} (o : Option T) (none : Bool) → is_some o ≡ not none → none ≡ false → o ≡ None → ⊥
some_found o none says is same = false≢true (sym (ap is_some same) ∙ says ∙ ap not is)

pub returns-then-is_none-2 : goal.returns-then-is_none-2
returns-then-is_none-2 g c =
    reports_nothing (damaged c.args.done.now.damage) (is_known c.args.done.now.geometry) c.args.done.now.framing (g.X.Port.outside c.args.port.now)
    (none_there c.args.done.now.damage (search rules)) (search rules) (search rules)

pub returns : goal.returns
returns g c =
    let done = c.args.done.now in
    let lacks : damaged done.damage ≡ [] → is_known done.geometry ≡ true → done.framing ≡ None → ⊥ =
    λ none if_known good. elim c.else-is_none.branch [
      | else-is_none-via-then-is_none+then-known+else-is_none-2 w ↦ some_found done.framing w.is_none-then-known.result w.is_none-then-known.ensures
          w.if-is_none-2.false good
      | else-is_none-via-then-is_none+else-known w ↦ known_some done.geometry if_known w.if-known.false
      | else-is_none-via-else-is_none w ↦
          some_found c.next_range.result c.is_none.result c.is_none.ensures w.if-is_none.false
          (c.next_range.ensures ∙ ap (find (λ range. nat_le 0 range.first)) none)
    ] in
    reports_damage (damaged done.damage) (is_known done.geometry) done.framing (g.X.Port.outside c.args.port.now) (g.X.Port.outside c.note_damage.new.port)
    lacks c.note_damage.ensures
