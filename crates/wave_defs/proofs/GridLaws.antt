-- Rows of a grid that a slice holds one after the other.
use Rattle.std.proofs.Common.{◌≡◌, ℕ, ◌+◌, ◌*◌, ◌<◌, ◌≤◌, ◌≢◌, ℤ, pos, List, length, get_or, sym, ap, ◌∙◌, ⊎_elim, subst, arith, rules}
use Rattle.std.proofs.lemmas.Bool.{cases_lt}
use Rattle.std.proofs.lemmas.Nat.{rows}
use Rattle.std.proofs.lemmas.List.{places}
use borrow.Rule.Slice.PartMut.{put_mid}
use Rattle.std.specs.List.{between}
use Rattle.std.proofs.lemmas.Bool.Decides.{nat_tests}
use Rattle.wave_defs.specs.Held.{Agrees, signal, grid, SameWithin}

-- the row before the one at i ends where that one begins
pub row_ends : (i k w : ℕ) → k < i → k * w + w ≤ i * w
row_ends i k w h = grind (arith, rows)

-- a row that is read as a part of the slice
pub Agrees-row : (w i e : ℕ) (xs : List ℤ) → e ≡ i * w + w → Agrees w (signal (between (i * w) e xs)) (grid w xs i)
Agrees-row w i e xs h = record { at = λ j l. search (rules, places) }

-- elements of a list whose part from a on was written
pub part_below : (a w p : ℕ) (xs ys : List ℤ) (d : ℤ) → p < a → a ≤ length xs → get_or (put_mid a w xs ys) p d ≡ get_or xs p d
part_below a w p xs ys d h l = search (rules, places)

pub part_at : (a w j : ℕ) (xs ys : List ℤ) (d : ℤ) → j < length ys → a ≤ length xs → get_or (put_mid a w xs ys) (a + j) d ≡ get_or ys j d
part_at a w j xs ys d h l = search (rules, places)

pub part_above : (a w p : ℕ) (xs ys : List ℤ) (d : ℤ) → length ys ≡ w → a + w ≤ p → a ≤ length xs → get_or (put_mid a w xs ys) p d ≡ get_or xs p d
part_above a w p xs ys d h q l = grind (arith, places)

-- the row at i is written as a part of the slice
pub SameWithin-put_row : (w i : ℕ) (xs ys : List ℤ) (f : ℕ → ℕ → ℤ) → i * w + w ≤ length xs → length ys ≡ w → SameWithin i w (grid w xs) f →
    Agrees w (signal ys) (f i) → SameWithin (i + 1) w (grid w (put_mid (i * w) w xs ys)) f
SameWithin-put_row w i xs ys f room long above here = record {
  at = λ k j hk hj.
      let before = λ (h : k < i).
      let ends = row_ends i k w h in
      part_below (i * w) w (k * w + j) xs ys (pos 0) (omega arith) (omega arith) ∙ above.at k j h hj in
      let same = λ (e : k ≡ i).
      ap (λ (r : ℕ). grid w (put_mid (i * w) w xs ys) r j) e ∙ part_at (i * w) w j xs ys (pos 0) (omega arith) (omega arith) ∙ here.at j hj
      ∙ ap (λ (r : ℕ). f r j) (sym e) in
      ⊎_elim before (λ (l : i ≤ k). same (omega arith)) (cases_lt k i);
}

-- the rows of other places stay
pub row_kept : (w i k j : ℕ) (xs ys : List ℤ) → i * w + w ≤ length xs → length ys ≡ w → k ≢ i → j < w → grid w (put_mid (i * w) w xs ys) k j ≡ grid w xs k j
row_kept w i k j xs ys room long ne hj = grind (arith, nat_tests, row_ends, part_below, part_above)

-- the same as the code leaves it after a write to `s[i * w..i * w + w]`; m is the difference of the two bounds
pub SameWithin-write_row : (w i m : ℕ) (xs ys : List ℤ) (f : ℕ → ℕ → ℤ) → m ≡ w → i * w + w ≤ length xs → length ys ≡ w → SameWithin i w (grid w xs) f →
    Agrees w (signal ys) (f i) → SameWithin (i + 1) w (grid w (put_mid (i * w) m xs ys)) f
SameWithin-write_row w i m xs ys f e room long above here =
    subst (λ (k : ℕ). SameWithin (i + 1) w (grid w (put_mid (i * w) k xs ys)) f) (sym e) (SameWithin-put_row w i xs ys f room long above here)

-- The rows of places p, to which a loop writes one after the other; m is the difference of the two bounds of the part.
pub SameWithin-put_at : (p : ℕ → ℕ) (w i m : ℕ) (xs ys : List ℤ) (f : ℕ → ℕ → ℤ) → m ≡ w → p i * w + w ≤ length xs → length ys ≡ w →
    ((k : ℕ) → k < i → p k ≢ p i) → SameWithin i w (λ k j. grid w xs (p k) j) f → Agrees w (signal ys) (f i) →
    SameWithin (i + 1) w (λ k j. grid w (put_mid (p i * w) m xs ys) (p k) j) f
SameWithin-put_at p w i m xs ys f e room long apart above here =
    let zs = put_mid (p i * w) w xs ys in
    let t : SameWithin (i + 1) w (λ k j. grid w zs (p k) j) f = record {
      at = λ k j hk hj.
          let before = λ (h : k < i). row_kept w (p i) (p k) j xs ys room long (apart k h) hj ∙ above.at k j h hj in
          let same = λ (q : k ≡ i).
          ap (λ (r : ℕ). grid w zs (p r) j) q ∙ part_at (p i * w) w j xs ys (pos 0) (omega arith) (omega arith) ∙ here.at j hj ∙ ap (λ (r : ℕ). f r j)
          (sym q) in
          ⊎_elim before (λ (l : i ≤ k). same (omega arith)) (cases_lt k i);
    } in
    subst (λ (k : ℕ). SameWithin (i + 1) w (λ r j. grid w (put_mid (p i * w) k xs ys) (p r) j) f) (sym e) t

-- a write to the row of another place
pub SameWithin-put_off : (p : ℕ → ℕ) (q w n m : ℕ) (xs ys : List ℤ) (f : ℕ → ℕ → ℤ) → m ≡ w → q * w + w ≤ length xs → length ys ≡ w →
    ((k : ℕ) → k < n → p k ≢ q) → SameWithin n w (λ k j. grid w xs (p k) j) f → SameWithin n w (λ k j. grid w (put_mid (q * w) m xs ys) (p k) j) f
SameWithin-put_off p q w n m xs ys f e room long apart same =
    let t : SameWithin n w (λ k j. grid w (put_mid (q * w) w xs ys) (p k) j) f = record {
      at = λ k j hk hj. row_kept w q (p k) j xs ys room long (apart k hk) hj ∙ same.at k j hk hj;
    } in
    subst (λ (k : ℕ). SameWithin n w (λ r j. grid w (put_mid (q * w) k xs ys) (p r) j) f) (sym e) t
