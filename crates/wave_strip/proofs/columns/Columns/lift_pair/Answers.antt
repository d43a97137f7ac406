use Rattle.std.proofs.Common.{◌≡◌, ℕ, ◌+◌, ◌*◌, ◌^◌, ℤ, List, [], ◌∷◌, ◌++◌, length, drop, ap, ◌∙◌, subst, sym, arith}
use Rattle.std.proofs.Math.Seq.{take_at}
use Rattle.wave_defs.specs.Within.{AllWithin}
use Rattle.wave_defs.specs.Held.{Agrees, signal}
use Rattle.wave_defs.specs.Rings.{RowsWithin, AreNewest, even_rows, odd_rows}
use Rattle.wave_defs.specs.Rolling.{open_high, open_low}
use Rattle.wave_defs.proofs.RingLaws.{RowsWithin-turn, AreNewest-turn}
use Rattle.wave_strip.proofs.KeptLemmas.{AreRings-pair, HoldPairs-pair, AreSmall-pair, RowsWithin-more}
use Rattle.wave_strip.proofs.columns.Columns.lift_pair.Goals as goal

pub low_row-requires-clause-small_highs : goal.low_row-requires-clause-small_highs
low_row-requires-clause-small_highs c =
    let s = c.args.self.now in
    let w = s.width in
    let out = c.high_row.new.into in
    let long : length out ≡ w = omega arith in
    let whole = take_at out (drop (length out) c.args.row.items) c.args.row.len (omega arith) in
    let rows : c.turn-low.new.self ≡ drop 1 s.highs ++ out ∷ [] = c.turn-low.ensures.rows ∙ ap (λ (x : List ℤ). drop 1 s.highs ++ x ∷ [])
    whole in
    let n = s.sink_state.highs.count_is in
    let two = s.sink_state.two in
    let oldest : length c.turn-low.result.items ≡ w = ap length c.turn-low.ensures.oldest ∙ s.sink_state.highs.wide 0 (omega arith) in
    let same : w ≡ length c.deref_mut-2.result.now = omega arith in
    let first : w ≡ length c.deref_mut.result.now = omega arith in
    let evens = subst (λ (k : ℕ). RowsWithin (2 * 2 ^ 23) k s.evens) first c.requires.small.evens in
    let odds = subst (λ (k : ℕ). RowsWithin (2 * 2 ^ 23) k s.odds) first c.requires.small.odds in
    let small = subst (λ (k : ℕ). AllWithin (5 * 2 ^ 23) k (signal out)) (sym first) (c.high_row.ensures.small (2 ^ 23) (omega arith) evens odds) in
    let turned = RowsWithin-turn (5 * 2 ^ 23) w s.highs out (omega arith) c.requires.small.highs small in
    subst (λ (k : ℕ). RowsWithin (2 ^ 26) k c.turn-low.new.self) same (rw rows (RowsWithin-more (5 * 2 ^ 23) (2 ^ 26) w _ (omega arith) turned))

pub invariant_of-self : goal.invariant_of-self
invariant_of-self c =
    let s = c.args.self.now in
    let w = s.width in
    let high = c.high_row.new.into in
    let low = c.low_row.new.into in
    let two = s.sink_state.two in
    let long : length high ≡ w = omega arith in
    let oldest : length c.turn-low.result.items ≡ w = ap length c.turn-low.ensures.oldest ∙ s.sink_state.highs.wide 0 (omega arith) in
    let long_low : length low ≡ w = omega arith in
    let whole = take_at high (drop (length high) c.args.row.items) c.args.row.len (omega arith) in
    let whole_low = take_at low (drop (length low) c.turn-low.result.items) c.turn-low.result.len (omega arith) in
    record {
      sink_state = rw (c.turn.ensures.rows, c.turn-low.ensures.rows, whole, whole_low)
          (AreRings-pair w s.kept s.evens s.odds s.lows s.highs low high s.sink_state long_low long);
    }

pub returns-clause-follows : goal.returns-clause-follows
returns-clause-follows c = λ a f.
    let s = c.args.self.now in
    let w = s.width in
    let j = c.args.j in
    let high = c.high_row.new.into in
    let low = c.low_row.new.into in
    let long : length high ≡ w = omega arith in
    let first : w ≡ length c.deref_mut.result.now = omega arith in
    let two = s.sink_state.two in
    let oldest : length c.turn-low.result.items ≡ w = ap length c.turn-low.ensures.oldest ∙ s.sink_state.highs.wide 0 (omega arith) in
    let second : w ≡ length c.deref_mut-2.result.now = omega arith in
    let whole = take_at high (drop (length high) c.args.row.items) c.args.row.len (omega arith) in
    let whole_low = take_at low (drop (length low) c.turn-low.result.items) c.turn-low.result.len (omega arith) in
    let rows : c.turn-low.new.self ≡ drop 1 s.highs ++ high ∷ [] = c.turn-low.ensures.rows ∙ ap (λ (x : List ℤ). drop 1 s.highs ++ x ∷ [])
    whole in
    let n = s.sink_state.highs.count_is in
    let fh : Agrees w (signal high) (open_high a j) =
    subst (λ (k : ℕ). Agrees k (signal high) (open_high a j)) (sym first)
    (c.high_row.ensures.value a (subst (λ (k : ℕ). AreNewest (even_rows a) k (j + 3) s.evens) first f.evens)
    (subst (λ (k : ℕ). AreNewest (odd_rows a) k (j + 2) s.odds) first f.odds)) in
    let newest : AreNewest (open_high a) w (j + 1) c.turn-low.new.self =
    rw rows (AreNewest-turn (open_high a) w j s.highs high (omega arith) f.highs fh) in
    let fl : Agrees w (signal low) (open_low a j) =
    subst (λ (k : ℕ). Agrees k (signal low) (open_low a j)) (sym second)
    (c.low_row.ensures.value a (subst (λ (k : ℕ). AreNewest (even_rows a) k (j + 3) s.evens) second f.evens)
    (subst (λ (k : ℕ). AreNewest (open_high a) k (j + 1) c.turn-low.new.self) second newest)) in
    rw (c.turn.ensures.rows, c.turn-low.ensures.rows, whole, whole_low)
    (HoldPairs-pair w s.kept s.evens s.odds s.lows s.highs low high s.sink_state a (j + 3) (j + 2) j f fl fh)

pub returns-clause-small : goal.returns-clause-small
returns-clause-small c = λ m hm b.
    let s = c.args.self.now in
    let w = s.width in
    let high = c.high_row.new.into in
    let low = c.low_row.new.into in
    let long : length high ≡ w = omega arith in
    let first : w ≡ length c.deref_mut.result.now = omega arith in
    let two = s.sink_state.two in
    let oldest : length c.turn-low.result.items ≡ w = ap length c.turn-low.ensures.oldest ∙ s.sink_state.highs.wide 0 (omega arith) in
    let second : w ≡ length c.deref_mut-2.result.now = omega arith in
    let whole = take_at high (drop (length high) c.args.row.items) c.args.row.len (omega arith) in
    let whole_low = take_at low (drop (length low) c.turn-low.result.items) c.turn-low.result.len (omega arith) in
    let rows : c.turn-low.new.self ≡ drop 1 s.highs ++ high ∷ [] = c.turn-low.ensures.rows ∙ ap (λ (x : List ℤ). drop 1 s.highs ++ x ∷ [])
    whole in
    let n = s.sink_state.highs.count_is in
    let bh : AllWithin (5 * m) w (signal high) =
    subst (λ (k : ℕ). AllWithin (5 * m) k (signal high)) (sym first)
    (c.high_row.ensures.small m hm (subst (λ (k : ℕ). RowsWithin (2 * m) k s.evens) first b.evens)
    (subst (λ (k : ℕ). RowsWithin (2 * m) k s.odds) first b.odds)) in
    let newest : RowsWithin (5 * m) w c.turn-low.new.self = rw rows (RowsWithin-turn (5 * m) w s.highs high (omega arith) b.highs bh) in
    let bl : AllWithin (5 * m) w (signal low) =
    subst (λ (k : ℕ). AllWithin (5 * m) k (signal low)) (sym second)
    (c.low_row.ensures.small m hm (subst (λ (k : ℕ). RowsWithin (2 * m) k s.evens) second b.evens)
    (subst (λ (k : ℕ). RowsWithin (5 * m) k c.turn-low.new.self) second newest)) in
    rw (c.turn.ensures.rows, c.turn-low.ensures.rows, whole, whole_low)
    (AreSmall-pair w s.kept s.evens s.odds s.lows s.highs low high s.sink_state m b bl bh)
