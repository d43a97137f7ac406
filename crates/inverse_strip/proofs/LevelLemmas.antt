-- The row that a level gives.
use Rattle.std.proofs.Common.{◌≡◌, ℕ, ◌+◌, ◌*◌, ◌/◌, ◌^◌, ◌<◌, ◌≤◌, ℤ, ⊎_elim, refl, sym, ◌∙◌, arith}
use Rattle.wave_defs.specs.Line.{merged, odd_of}
use Rattle.wave_defs.specs.Level.{Quarters, joined, rows_merged, columns_merged}
use Rattle.wave_defs.specs.Within.{AllWithin}
use Rattle.wave_defs.specs.Held.{Agrees}
use Rattle.wave_defs.proofs.LineLaws.{merged-same}
use Rattle.wave_defs.proofs.LevelWithin.{IsWithin-more}
use Rattle.wave_defs.proofs.LineReach.{SameMirror-same, SameMirror-far}
use Rattle.wave_defs.proofs.LevelReach.{joined-reach}
use Rattle.wave_defs.proofs.Equations.{joined-is}
use Rattle.inverse_strip.specs.Kept.{HasRow, column_bound}
use Rattle.inverse_strip.proofs.Bounds.{merged-bound, odd_of-bound}

-- a row that can be given is one of those that the rows make
pub HasRow-inside : (n i h : ℕ) → HasRow n i h → i < 2 * n
HasRow-inside n i h row = ⊎_elim (λ (a : i + 3 < 2 * n). omega arith) (λ (b : (n ≡ h) × (i < 2 * n)). b.1) row.made

-- row i from row i of the columns on both sides
pub joined-row : (q : Quarters) (n w i : ℕ) (l r y : ℕ → ℤ) → 2 ≤ w → Agrees w l (columns_merged q.ll q.lh n i) →
    Agrees w r (columns_merged q.hl q.hh n i) → Agrees (2 * w) y (merged l r w) → Agrees (2 * w) y (joined q n w i)
unfolding rows_merged
joined-row q n w i l r y two left right made =
    let same = merged-same w l (columns_merged q.ll q.lh n i) r (columns_merged q.hl q.hh n i) two left right in
    rw joined-is (record { at = λ j h. made.at j h ∙ same.at j h })

-- A row that can be given is the same for every height that the bands may have.
pub joined-height : (q : Quarters) (n n' h w i : ℕ) (y : ℕ → ℤ) → 2 ≤ w → HasRow n i h → n ≤ n' → (n ≡ h → n' ≡ h) → Agrees (2 * w) y (joined q n w i) →
    Agrees (2 * w) y (joined q n' w i)
joined-height q n n' h w i y two row more end made =
    let three = row.three in
    let inside = HasRow-inside n i h row in
    let mirror = λ (odd : i ≡ 2 * (i / 2) + 1).
    ⊎_elim
    (λ (a : i + 3 < 2 * n). SameMirror-far n n' (i / 2) (omega arith) (omega arith))
    (λ (b : (n ≡ h) × (i < 2 * n)). SameMirror-same n n' (i / 2) (b.0 ∙ sym (end b.0))) row.made in
    record {
      at = λ j hj.
          made.at j hj ∙ joined-reach n n' w i j q q (omega arith) two inside hj mirror
          (record { at = λ k l a b c d e f. refl })
          (record { at = λ k l a b c d e f. refl })
          (record { at = λ k l a b c d e f. refl })
          (record { at = λ k l a b c d e f. refl });
    }

-- ---- and its bound

abbrev pub joined_bound : ℕ → ℕ
joined_bound m = 5 * m / 4 + (column_bound (2 ^ 27) + 2)

pub joined-within : (m w : ℕ) (l r y : ℕ → ℤ) → 3 ≤ w → AllWithin m w l → AllWithin (column_bound (2 ^ 27)) w r → Agrees (2 * w) y (merged l r w) →
    AllWithin (joined_bound m) (2 * w) y
joined-within m w l r y long left right made =
    let within = merged-bound m (column_bound (2 ^ 27)) w l r long left right in
    record { at = λ j h. rw (made.at j h) (IsWithin-more _ (joined_bound m) _ (omega arith) (within.at j h)) }

-- its odd samples alone
pub odd_of-within : (m b w : ℕ) (l r : ℕ → ℤ) → 3 ≤ w → joined_bound m ≤ b → AllWithin m w l → AllWithin (column_bound (2 ^ 27)) w r →
    AllWithin b w (odd_of l r w)
odd_of-within m b w l r long le left right = record {
  at = λ j h. IsWithin-more _ b _ (omega arith) (odd_of-bound m (column_bound (2 ^ 27)) w j l r long h left right);
}
