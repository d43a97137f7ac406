-- The counts of a strip as rows arrive, and at the end.
use Rattle.std.proofs.Common.{◌≡◌, ℕ, ◌+◌, ◌*◌, ◌<◌, ◌≤◌, Bool, true, false, arith, refl}
use Rattle.wave_strip.specs.Kept.{pairs_in}
use Rattle.wave_strip.specs.Counts.{AreCounts, AreRunning, HaveEnded, AreReached, settled}

-- a row arrives
module _ (rows answered a b c a' b' c' now : ℕ) (e s : Bool) (run : AreRunning rows answered a b c) (few : rows < 262144) (off : e ≡ false)
    (ea : a' ≡ a + 1) (eb : b' ≡ pairs_in a') (ec : c' ≡ pairs_in (pairs_in a')) (en : now ≡ settled (rows + 1)) where
  pub no_block_row : s ≡ false → now ≤ answered → AreCounts (rows + 1) answered e s a' b' c'
  no_block_row es le =
      let a_is = run.first in
      let answered_is = run.block_rows in
      record {
        most = omega arith;
        running = λ z. record { first = omega arith; second = eb; third = omega arith; block_rows = omega arith };
        after = λ z. let wrong : true ≡ false = cc in cc;
        some = λ z. let wrong : true ≡ false = cc in cc;
        just = λ z y. let wrong : true ≡ false = cc in cc;
        next = λ z y. let wrong : true ≡ false = cc in cc;
      }

  pub block_row : s ≡ true → answered < now → AreCounts (rows + 1) now e s a' b' c'
  block_row es lt =
      let a_is = run.first in
      let answered_is = run.block_rows in
      record {
        most = omega arith;
        running = λ z. record { first = omega arith; second = eb; third = omega arith; block_rows = en };
        after = λ z. let wrong : true ≡ false = cc in cc;
        some = λ z. omega arith;
        just = λ z y. omega arith;
        next = λ z y. let wrong : true ≡ false = cc in cc;
      }

-- the rows of the available block row are among those kept
reached_running : (rows answered a b c : ℕ) → AreRunning rows answered a b c → 1 ≤ answered → rows ≡ 8 * answered + 21 → AreReached answered a b c
reached_running rows answered a b c run one just =
    let ea = run.first in
    let eb = run.second in
    let ec = run.third in
    record {
      some = one;
      first = omega arith;
      first_kept = omega arith;
      second = omega arith;
      second_kept = omega arith;
      third = omega arith;
      third_kept =
          omega arith;
    }

reached_ended : (rows answered a b c : ℕ) → HaveEnded rows answered a b c → 1 ≤ answered → settled rows < answered → AreReached answered a b c
reached_ended rows answered a b c end one next =
    let ea = end.first in
    let eb = end.second in
    let ec = end.third in
    let whole = end.whole in
    let to = end.to in
    record {
      some = one;
      first = omega arith;
      first_kept = omega arith;
      second = omega arith;
      second_kept = omega arith;
      third = omega arith;
      third_kept =
          omega arith;
    }

pub reached : (rows answered a b c : ℕ) (e s : Bool) → s ≡ true → AreCounts rows answered e s a b c → AreReached answered a b c
reached rows answered a b c false s es k = reached_running rows answered a b c (k.running refl) (k.some es) (k.just es refl)
reached rows answered a b c true s es k = reached_ended rows answered a b c (k.after refl) (k.some es) (k.next es refl)

-- the available block row is a block row of each image that begins with the rows taken
pub answered_within : (rows answered a b c r : ℕ) (e s : Bool) → s ≡ true → AreCounts rows answered e s a b c → rows ≤ 8 * r → answered ≤ r
answered_within rows answered a b c r false s es k h = let just = k.just es refl in omega arith
answered_within rows answered a b c r true s es k h = let to = (k.after refl).to in omega arith

-- at the start of an image
pub no_rows : (a b c : ℕ) → a ≡ 0 → b ≡ 0 → c ≡ 0 → AreCounts 0 0 false false a b c
no_rows a b c ea eb ec = record {
  most = omega arith;
  running = λ z. record { first = omega arith; second = omega arith; third = omega arith; block_rows = refl };
  after = λ z. let wrong : true ≡ false = cc in cc;
  some = λ z. let wrong : true ≡ false = cc in cc;
  just = λ z y. let wrong : true ≡ false = cc in cc;
  next = λ z y. let wrong : true ≡ false = cc in cc;
}
