use Rattle.std.proofs.Common.{◌≡◌, ℕ, ◌+◌, ◌*◌, ◌^◌, ◌<◌, ℤ, List, get_or, [], sym, ap, subst, ◌∙◌, arith}
use Rattle.wave_defs.specs.Blocks.{block_side}
use Rattle.wave_defs.specs.Held.{Agrees, signal}
use Rattle.wave_defs.specs.Within.{AllWithin}
use Rattle.inverse_strip.specs.Cells.{row_place}
use Rattle.inverse_strip.proofs.StageLemmas.{came-valid, came-small, came-newest, oldest-wide, oldest-small}
use Rattle.inverse_strip.proofs.CellLemmas.{row-wide, row-small, row_place-before}
use Rattle.inverse_strip.proofs.stage.LevelStage.take_row.Goals as goal

wide_hl : (w high n : ℕ) → w ≡ block_side high * n → block_side (high + 1) ≡ block_side high → w ≡ block_side (high + 1) * n
wide_hl w high n e side = e ∙ ap (λ (k : ℕ). k * n) (sym side)

wide_lh : (w high n m : ℕ) → w ≡ block_side high * n → block_side (high + 2) ≡ block_side high → m ≡ n → w ≡ block_side (high + 2) * m
wide_lh w high n m e side same = e ∙ ap (λ (k : ℕ). k * n) (sym side) ∙ ap (λ (k : ℕ). block_side (high + 2) * k) (sym same)

wide_hh : (w high n m : ℕ) → w ≡ block_side high * n → m ≡ n → w ≡ block_side high * m
wide_hh w high n m e same = e ∙ ap (λ (k : ℕ). block_side high * k) (sym same)

pub turn_into-requires-clause-wide : goal.turn_into-requires-clause-wide
turn_into-requires-clause-wide c =
    let s = c.args.self.now in
    oldest-wide s.kept _ _ s.hl s.some s.hl_valid (wide_hl _ c.args.high c.args.bands.now.columns c.requires.wide c.requires.side_hl)

pub turn_into-requires-clause-small : goal.turn_into-requires-clause-small
turn_into-requires-clause-small c =
    let s = c.args.self.now in
    oldest-small s.kept _ _ s.hl s.some s.hl_valid (wide_hl _ c.args.high c.args.bands.now.columns c.requires.wide c.requires.side_hl) s.hl_small

pub turn_into-requires-2-clause-wide : goal.turn_into-requires-2-clause-wide
turn_into-requires-2-clause-wide c =
    let s = c.args.self.now in
    oldest-wide s.kept _ _ s.lh s.some s.lh_valid (wide_lh _ c.args.high c.args.bands.now.columns _ c.requires.wide c.requires.side_lh
    c.turn_into.ensures.columns)

pub turn_into-requires-2-clause-small : goal.turn_into-requires-2-clause-small
turn_into-requires-2-clause-small c =
    let s = c.args.self.now in
    oldest-small s.kept _ _ s.lh s.some s.lh_valid (wide_lh _ c.args.high c.args.bands.now.columns _ c.requires.wide c.requires.side_lh
    c.turn_into.ensures.columns) s.lh_small

pub turn_into-requires-3-clause-wide : goal.turn_into-requires-3-clause-wide
turn_into-requires-3-clause-wide c =
    let s = c.args.self.now in
    let columns = c.turn_into-2.ensures.columns ∙ c.turn_into.ensures.columns in
    oldest-wide s.kept _ _ s.hh s.some s.hh_valid (wide_hh _ c.args.high c.args.bands.now.columns _ c.requires.wide columns)

pub turn_into-requires-3-clause-small : goal.turn_into-requires-3-clause-small
turn_into-requires-3-clause-small c =
    let s = c.args.self.now in
    let columns = c.turn_into-2.ensures.columns ∙ c.turn_into.ensures.columns in
    oldest-small s.kept _ _ s.hh s.some s.hh_valid (wide_hh _ c.args.high c.args.bands.now.columns _ c.requires.wide columns) s.hh_small

pub invariant_of-self : goal.invariant_of-self
invariant_of-self c =
    let s = c.args.self.now in
    let w = s.level.left.width in
    let high = c.args.high in
    let y = c.args.y in
    let b1 = c.args.bands.now in
    let b2 = c.turn_into.new.self in
    let b3 = c.turn_into-2.new.self in
    let hy1 : y < block_side (high + 1) = omega (arith, c.requires.row, c.requires.side_hl) in
    let hy2 : y < block_side (high + 2) = omega (arith, c.requires.row, c.requires.side_lh) in
    let columns = c.turn_into-2.ensures.columns ∙ c.turn_into.ensures.columns in
    let e1 = wide_hl w high b1.columns c.requires.wide c.requires.side_hl in
    let e2 = wide_lh w high b1.columns b2.columns c.requires.wide c.requires.side_lh c.turn_into.ensures.columns in
    let e3 = wide_hh w high b1.columns b3.columns c.requires.wide columns in
    let x1 = get_or b1.rows (row_place (high + 1) y) [] in
    let x2 = get_or b2.rows (row_place (high + 2) y) [] in
    let x3 = get_or b3.rows (row_place high y) [] in
    let small = λ (x : List ℤ) (n : ℕ) (e : w ≡ n) (a : AllWithin (2 ^ 27) n (signal x)). subst (λ (m : ℕ). AllWithin (2 ^ 27) m (signal x)) (sym e) a in
    record {
      some = omega arith;
      hl_valid = rw c.turn_into.ensures.ring (came-valid s.kept w s.hl x1 s.some s.hl_valid
          (row-wide b1.columns (high + 1) y b1.rows b1.whole (omega arith) hy1 ∙ sym e1));
      lh_valid = rw c.turn_into-2.ensures.ring (came-valid s.kept w s.lh x2 s.some s.lh_valid
          (row-wide b2.columns (high + 2) y b2.rows b2.whole (omega arith) hy2 ∙ sym e2));
      hh_valid = rw c.turn_into-3.ensures.ring (came-valid s.kept w s.hh x3 s.some s.hh_valid
          (row-wide b3.columns high y b3.rows b3.whole (omega arith) c.requires.row ∙ sym e3));
      hl_small = rw c.turn_into.ensures.ring (came-small s.kept w s.hl x1 s.some s.hl_valid (2 ^ 27) s.hl_small
          (small x1 _ e1 (row-small b1.columns (high + 1) y b1.rows b1.whole (omega arith) hy1)));
      lh_small = rw c.turn_into-2.ensures.ring (came-small s.kept w s.lh x2 s.some s.lh_valid (2 ^ 27) s.lh_small
          (small x2 _ e2 (row-small b2.columns (high + 2) y b2.rows b2.whole (omega arith) hy2)));
      hh_small = rw c.turn_into-3.ensures.ring (came-small s.kept w s.hh x3 s.some s.hh_valid (2 ^ 27) s.hh_small
          (small x3 _ e3 (row-small b3.columns high y b3.rows b3.whole (omega arith) c.requires.row)));
      waits = omega arith;
    }

pub returns-clause-others : goal.returns-clause-others
returns-clause-others c = λ i n0 n1 n2. c.turn_into-3.ensures.others i n0 ∙ c.turn_into-2.ensures.others i n2 ∙ c.turn_into.ensures.others i n1

pub returns-clause-follows : goal.returns-clause-follows
returns-clause-follows c = λ q follow hl lh hh.
    let s = c.args.self.now in
    let w = s.level.left.width in
    let high = c.args.high in
    let y = c.args.y in
    let hy1 : y < block_side (high + 1) = omega (arith, c.requires.row, c.requires.side_hl) in
    let b01 : row_place high y < row_place (high + 1) y = row_place-before high (high + 1) y y (omega arith) (omega arith) c.requires.row in
    let b02 : row_place high y < row_place (high + 2) y = row_place-before high (high + 2) y y (omega arith) (omega arith) c.requires.row in
    let b12 : row_place (high + 1) y < row_place (high + 2) y = row_place-before (high + 1) (high + 2) y y (omega arith) (omega arith) hy1 in
    let row2 = c.turn_into.ensures.others (row_place (high + 2) y) (λ e. absurd (omega (arith, e, b12))) in
    let row3 = c.turn_into-2.ensures.others (row_place high y) (λ e. absurd (omega (arith, e, b02))) ∙ c.turn_into.ensures.others (row_place high y)
    (λ e. absurd (omega (arith, e, b01))) in
    record {
      level = follow.level;
      hl = rw c.turn_into.ensures.ring (came-newest s.kept w s.hl _ s.some s.hl_valid q.hl s.came follow.hl hl);
      lh = rw c.turn_into-2.ensures.ring (came-newest s.kept w s.lh _ s.some s.lh_valid q.lh s.came follow.lh
          (subst (λ (x : List ℤ). Agrees w (signal x) (q.lh s.came)) (sym row2) lh));
      hh = rw c.turn_into-3.ensures.ring (came-newest s.kept w s.hh _ s.some s.hh_valid q.hh s.came follow.hh
          (subst (λ (x : List ℤ). Agrees w (signal x) (q.hh s.came)) (sym row3) hh));
    }
