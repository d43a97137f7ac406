use Rattle.std.proofs.Common.{◌≡◌, ℕ, ◌+◌, ◌*◌, ◌-◌, ◌/◌, ◌^◌, subst, arith}
use Rattle.wave_defs.specs.Held.{Agrees, signal}
use Rattle.wave_strip.proofs.KeptLemmas.{AreRings-even, HoldPairs-even, HoldPairs-odd, AreSmall-even, AreSmall-odd, HoldPairs-counts}
use Rattle.wave_strip.proofs.columns.Columns.push.Goals as goal

-- ---- an odd row

pub returns-then-self-eq0-clause-follows : goal.returns-then-self-eq0-clause-follows
returns-then-self-eq0-clause-follows c = λ a f new.
    let s = c.args.self.now in
    let k = s.taken in
    let here : k ≡ 2 * (k / 2) + 1 = omega arith in
    let row = subst (λ (i : ℕ). Agrees s.width (signal c.args.row.items) (a i)) here new in
    rw c.turn.ensures.rows
    (HoldPairs-counts a s.width _ _ _ _ _ _ _ _ _ _ (omega arith) (omega arith) (omega arith)
    (HoldPairs-odd s.width s.kept s.evens s.odds s.lows s.highs c.args.row.items s.sink_state a ((k + 1) / 2) (k / 2) ((k + 1) / 2 - 2) f row))

pub returns-then-self-eq0-clause-small : goal.returns-then-self-eq0-clause-small
returns-then-self-eq0-clause-small c = λ m hm b br.
    let s = c.args.self.now in
    rw c.turn.ensures.rows (AreSmall-odd s.width s.kept s.evens s.odds s.lows s.highs c.args.row.items s.sink_state m b br)

-- ---- an even row

pub returns-then-self-lt5-clause-small : goal.returns-then-self-lt5-clause-small
returns-then-self-lt5-clause-small c = λ m hm b br.
    let s = c.args.self.now in
    rw c.turn-room.ensures.rows (AreSmall-even s.width s.kept s.evens s.odds s.lows s.highs c.args.row.items s.sink_state m b br)

-- ---- and the pair that it gives

pub invariant_of-self-2 : goal.invariant_of-self-2
invariant_of-self-2 c =
    let s = c.args.self.now in
    record { sink_state = rw c.turn-room.ensures.rows (AreRings-even s.width s.kept s.evens s.odds s.lows s.highs c.args.row.items s.sink_state (omega arith)) }

pub lift_pair-requires-clause-small : goal.lift_pair-requires-clause-small
lift_pair-requires-clause-small c =
    let s = c.args.self.now in
    rw c.turn-room.ensures.rows
    (AreSmall-even s.width s.kept s.evens s.odds s.lows s.highs c.args.row.items s.sink_state (2 ^ 23) c.requires.small c.requires.small_row)

pub returns-clause-follows : goal.returns-clause-follows
returns-clause-follows c = λ a f new.
    let s = c.args.self.now in
    let k = s.taken in
    let j = (k + 1 - 5) / 2 in
    let here : k ≡ 2 * ((k + 1) / 2) = omega arith in
    let row = subst (λ (i : ℕ). Agrees s.width (signal c.args.row.items) (a i)) here new in
    let held = HoldPairs-even s.width s.kept s.evens s.odds s.lows s.highs c.args.row.items s.sink_state a ((k + 1) / 2) (k / 2) ((k + 1) / 2 - 2) f row in
    let counted = HoldPairs-counts a s.width _ _ _ (j + 3) (j + 2) j _ _ _ _ (omega arith) (omega arith) (omega arith) held in
    let lifted = c.lift_pair.ensures.follows a (rw c.turn-room.ensures.rows counted) in
    rw (c.lift_pair.ensures.width, c.lift_pair.ensures.taken)
    (HoldPairs-counts a s.width _ _ _ _ _ _ _ _ _ _ (omega arith) (omega arith) (omega arith) lifted)

pub returns-clause-small : goal.returns-clause-small
returns-clause-small c = λ m hm b br.
    let s = c.args.self.now in
    let small = AreSmall-even s.width s.kept s.evens s.odds s.lows s.highs c.args.row.items s.sink_state m b br in
    c.lift_pair.ensures.small m hm (rw c.turn-room.ensures.rows small)
