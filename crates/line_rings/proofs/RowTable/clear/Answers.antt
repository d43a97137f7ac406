use Rattle.std.proofs.Common.{◌<◌, ℤ, pos, List, length, map, get_or, [], ap, ◌∙◌, arith, length-set}
use Rattle.std.proofs.lemmas.Grind.{common_steps}
use Rattle.std.proofs.lemmas.List.{map-set, length-map, get_or-map, length-replicate}
use Rattle.line_rings.proofs.Tables.{lengths-set, zeros-set}
use Rattle.line_rings.proofs.RowTable.clear.Goals as goal

pub loop-i-preserved : goal.loop-i-preserved
loop-i-preserved c =
    let s = c.loop-i.self-inside.rows in
    let i = c.loop-i.i in
    let rows = map (λ v. v.items) s.items in
    let turned = map-set (λ v. v.items) s.items i c.fill.new.self in
    let filled = c.fill.ensures.items (λ y e. e) in
    let long = length-map s.items (λ v. v.items) in
    let h : i < length rows = omega arith in
    record {
      long = length-set s.items i c.fill.new.self ∙ c.loop-i.invariant.long;
      wide = ap (map length) turned ∙ lengths-set rows i c.fill.new.self.items h
          (ap length filled ∙ grind (arith, common_steps, get_or-map, length-replicate)) ∙ c.loop-i.invariant.wide;
      zero = λ j k l. ap (λ (xs : List (List ℤ)). get_or (get_or xs j []) k (pos 0)) turned ∙ zeros-set rows i _ c.fill.new.self.items h filled
          c.loop-i.invariant.zero j k l;
    }
