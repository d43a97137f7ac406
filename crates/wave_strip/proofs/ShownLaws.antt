-- The block row that a strip shows.
use Rattle.std.proofs.Common.{◌≡◌, ℕ, zero, suc, ◌+◌, ◌-◌, ◌*◌, ◌/◌, ◌<◌, ◌≤◌, ℤ, true, arith}
use Rattle.wave_defs.specs.Pyramid.{Pyramid, pyramid, pyramid_of, band_of}
use Rattle.wave_defs.specs.Blocks.{block_side}
use Rattle.wave_strip.specs.declared.strip.StripWave.{StripWave}
use Rattle.wave_strip.specs.BlockRow.{SameBlockRow}
use Rattle.wave_strip.specs.Levels.{first_low, second_low}
use Rattle.wave_strip.specs.Strip.{Follows, ShowsBlockRow, bands_in}
use Rattle.wave_strip.proofs.StripLemmas.{shown_ll, shown_hl, shown_lh, shown_hh}
use Rattle.wave_strip.proofs.CountLemmas.{reached, answered_within}

-- a number of the block row by its band
at_band : (p q : Pyramid) (b m row column : ℕ) → SameBlockRow b m p q → (band : ℕ) → band < 10 → row < block_side band → column < block_side band * m →
    band_of p band (block_side band * b + row) column ≡ band_of q band (block_side band * b + row) column
at_band p q b m row column s zero h hr hc = s.hh1.at (4 * b + row) column (omega arith) (omega arith) (omega arith)
at_band p q b m row column s (suc zero) h hr hc = s.hl1.at (4 * b + row) column (omega arith) (omega arith) (omega arith)
at_band p q b m row column s (suc (suc zero)) h hr hc = s.lh1.at (4 * b + row) column (omega arith) (omega arith) (omega arith)
at_band p q b m row column s (suc (suc (suc zero))) h hr hc = s.hh2.at (2 * b + row) column (omega arith) (omega arith) (omega arith)
at_band p q b m row column s (suc (suc (suc (suc zero)))) h hr hc = s.hl2.at (2 * b + row) column (omega arith) (omega arith) (omega arith)
at_band p q b m row column s (suc (suc (suc (suc (suc zero))))) h hr hc = s.lh2.at (2 * b + row) column (omega arith) (omega arith) (omega arith)
at_band p q b m row column s (suc (suc (suc (suc (suc (suc zero)))))) h hr hc = s.hh3.at (1 * b + row) column (omega arith) (omega arith) (omega arith)
at_band p q b m row column s (suc (suc (suc (suc (suc (suc (suc zero))))))) h hr hc = s.hl3.at (1 * b + row) column (omega arith) (omega arith) (omega arith)
at_band p q b m row column s (suc (suc (suc (suc (suc (suc (suc (suc zero)))))))) h hr hc =
    s.lh3.at (1 * b + row) column (omega arith) (omega arith) (omega arith)
at_band p q b m row column s (suc (suc (suc (suc (suc (suc (suc (suc (suc zero))))))))) h hr hc =
    s.ll3.at (1 * b + row) column (omega arith) (omega arith) (omega arith)
at_band p q b m row column s (suc (suc (suc (suc (suc (suc (suc (suc (suc (suc band)))))))))) h hr hc = absurd (omega arith)

-- if a block row is available, its numbers are those of each image that the strip follows
pub shows : (image : ℕ → ℕ → ℤ) (r : ℕ) (s : StripWave) → s.current ≡ true → 3 ≤ r → s.rows ≤ 8 * r → Follows image r s → ShowsBlockRow image r s
unfolding pyramid pyramid_of
shows image r s valid three most f =
    let m = s.third.half in
    let b = s.answered - 1 in
    let a1 = s.first.columns in
    let a2 = s.second.columns in
    let a3 = s.third.columns in
    let halves = s.levels.halves in
    let quarters = s.levels.quarters in
    let k1 = s.levels.first_kept in
    let k2 = s.levels.second_kept in
    let k3 = s.levels.third_kept in
    let w1 = s.first.wide in
    let w2 = s.second.wide in
    let w3 = s.third.wide in
    let in_reach = reached s.rows s.answered a1.taken a2.taken a3.taken s.ended s.current valid s.counts in
    let some = in_reach.some in
    let u1 = in_reach.first in
    let v1 = in_reach.first_kept in
    let u2 = in_reach.second in
    let v2 = in_reach.second_kept in
    let u3 = in_reach.third in
    let v3 = in_reach.third_kept in
    let inside = answered_within s.rows s.answered a1.taken a2.taken a3.taken r s.ended s.current valid s.counts most in
    let x2 = first_low image r m in
    let x3 = second_low image r m in
    let same : SameBlockRow b m (bands_in s) (pyramid image r m) = record {
      hh1 = record {
        at = λ j i hj hk hi. shown_hh image (4 * r) (4 * m) s.first.half a1.width a1.kept ((a1.taken + 1) / 2 - 2) j i a1.highs f.first.highs
            a1.sink_state.highs.count_is (omega arith) (omega arith) (omega arith) (omega arith) (omega arith) (omega arith) hi;
      };
      hl1 = record {
        at = λ j i hj hk hi. shown_hl image (4 * r) (4 * m) s.first.half a1.width a1.kept ((a1.taken + 1) / 2 - 2) j i a1.lows f.first.lows
            a1.sink_state.lows.count_is (omega arith) (omega arith) (omega arith) (omega arith) (omega arith) (omega arith) hi;
      };
      lh1 = record {
        at = λ j i hj hk hi. shown_lh image (4 * r) (4 * m) a1.width a1.kept ((a1.taken + 1) / 2 - 2) j i a1.highs f.first.highs
            a1.sink_state.highs.count_is (omega arith) (omega arith) (omega arith) (omega arith) (omega arith) hi;
      };
      hh2 = record {
        at = λ j i hj hk hi. shown_hh x2 (2 * r) (2 * m) s.second.half a2.width a2.kept ((a2.taken + 1) / 2 - 2) j i a2.highs f.second.highs
            a2.sink_state.highs.count_is (omega arith) (omega arith) (omega arith) (omega arith) (omega arith) (omega arith) hi;
      };
      hl2 = record {
        at = λ j i hj hk hi. shown_hl x2 (2 * r) (2 * m) s.second.half a2.width a2.kept ((a2.taken + 1) / 2 - 2) j i a2.lows f.second.lows
            a2.sink_state.lows.count_is (omega arith) (omega arith) (omega arith) (omega arith) (omega arith) (omega arith) hi;
      };
      lh2 = record {
        at = λ j i hj hk hi. shown_lh x2 (2 * r) (2 * m) a2.width a2.kept ((a2.taken + 1) / 2 - 2) j i a2.highs f.second.highs
            a2.sink_state.highs.count_is (omega arith) (omega arith) (omega arith) (omega arith) (omega arith) hi;
      };
      hh3 = record {
        at = λ j i hj hk hi. shown_hh x3 r m s.third.half a3.width a3.kept ((a3.taken + 1) / 2 - 2) j i a3.highs f.third.highs
            a3.sink_state.highs.count_is (omega arith) (omega arith) (omega arith) (omega arith) (omega arith) (omega arith) hi;
      };
      hl3 = record {
        at = λ j i hj hk hi. shown_hl x3 r m s.third.half a3.width a3.kept ((a3.taken + 1) / 2 - 2) j i a3.lows f.third.lows
            a3.sink_state.lows.count_is (omega arith) (omega arith) (omega arith) (omega arith) (omega arith) (omega arith) hi;
      };
      lh3 = record {
        at = λ j i hj hk hi. shown_lh x3 r m a3.width a3.kept ((a3.taken + 1) / 2 - 2) j i a3.highs f.third.highs a3.sink_state.highs.count_is
            (omega arith) (omega arith) (omega arith) (omega arith) (omega arith) hi;
      };
      ll3 = record {
        at = λ j i hj hk hi. shown_ll x3 r m a3.width a3.kept ((a3.taken + 1) / 2 - 2) j i a3.lows f.third.lows a3.sink_state.lows.count_is
            (omega arith) (omega arith) (omega arith) (omega arith) (omega arith) hi;
      };
    } in
    record { at = λ p w. at_band (bands_in s) (pyramid image r m) b m p.row p.column same p.band w.band w.row w.column }
