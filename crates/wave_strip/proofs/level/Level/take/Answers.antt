use Rattle.std.proofs.Common.{◌*◌, ◌^◌, arith}
use Rattle.wave_defs.specs.Held.{signal}
use Rattle.wave_strip.proofs.KeptLemmas.{AllWithin-more}
use Rattle.wave_strip.proofs.LevelLemmas.{part_within}
use Rattle.wave_strip.proofs.level.Level.take.Goals as goal

pub push-requires-clause-small_row : goal.push-requires-clause-small_row
push-requires-clause-small_row c =
    let s = c.args.self.now in
    let long = s.long in
    part_within (2 ^ 21) (2 ^ 24) s.half _ _ (signal c.args.row.now) c.part.new.into c.in-Some.next.items (omega arith) (omega arith) (omega arith)
    (omega arith) (omega arith) (omega arith) c.requires.small_row c.part.ensures

pub returns-clause-small : goal.returns-clause-small
returns-clause-small c = λ m one b br.
    let s = c.args.self.now in
    let long = s.long in
    c.push.ensures.small (5 * m) (omega arith) b
    (part_within (2 * m) (2 * (5 * m)) s.half _ _ (signal c.args.row.now) c.part.new.into c.in-Some.next.items (omega arith) (omega arith) (omega arith)
    (omega arith) (omega arith) (omega arith)
    (AllWithin-more (4 * m) (2 * (2 * m)) _ _ (omega arith) br) c.part.ensures)
