-- The places of a block row in its rows: each has a place of its own.
use Rattle.std.proofs.Common.{◌≡◌, ℕ, zero, suc, ◌∷◌, Bool, true, false, ◌+◌, ◌*◌, ◌^◌, ◌<◌, ◌≤◌, ◌≢◌, ℤ, pos, List, length, ◌++◌, [], set, get_or, subst}
use Rattle.std.proofs.Common.{if◌then◌else◌, refl, sym, ap, ◌∙◌, ⊎_elim, get_or-set_other, get_or-set_same, length-set, arith, replicate}
use Rattle.std.proofs.lemmas.Bool.{cases_lt, cases_eq}
use Rattle.std.proofs.lemmas.List.{places, get_or-map, length-map}
use Rattle.std.proofs.lemmas.Bool.Decides.{nat_tests}
use Rattle.wave_defs.specs.Blocks.{Place, block_side}
use Rattle.wave_defs.specs.Held.{Agrees, signal}
use Rattle.wave_defs.specs.Within.{IsWithin, AllWithin}
use Rattle.line_rings.proofs.Tables.{lengths-set, zero-row}
use Rattle.block_families.specs.Places.{IsWithin as IsPlaceIn}
use Rattle.inverse_strip.specs.Cells.{row_place, row_widths, is_place_in, number_at, number_in, AreBandRows, HasBlockRow}

pub row_place-there : (band row : ℕ) → band < 10 → row < block_side band → row_place band row < 22
row_place-there band row hb hr = grind (arith, nat_tests)

widths-count : (columns : ℕ) → length (row_widths columns) ≡ 22
widths-count columns = grind (arith, places)

widths-at : (columns band row : ℕ) → band < 10 → row < block_side band → get_or (row_widths columns) (row_place band row) 0 ≡ block_side band * columns
widths-at columns band row hb hr = grind (arith, nat_tests, places)

pub rows-count : (columns : ℕ) (rows : List (List ℤ)) → AreBandRows columns rows → length rows ≡ 22
rows-count columns rows s = sym (length-map rows length) ∙ ap length s.widths ∙ widths-count columns

pub row-there : (columns band row : ℕ) (rows : List (List ℤ)) → AreBandRows columns rows → band < 10 → row < block_side band → row_place band row < length rows
row-there columns band row rows s hb hr =
    let there = row_place-there band row hb hr in
    let count = rows-count columns rows s in
    omega arith

pub row-wide : (columns band row : ℕ) (rows : List (List ℤ)) → AreBandRows columns rows → band < 10 → row < block_side band →
    length (get_or rows (row_place band row) []) ≡ block_side band * columns
row-wide columns band row rows s hb hr =
    sym (get_or-map length rows (row_place band row) [] 0 (row-there columns band row rows s hb hr))
    ∙ ap (λ (ws : List ℕ). get_or ws (row_place band row) 0) s.widths ∙ widths-at columns band row hb hr

pub row-small : (columns band row : ℕ) (rows : List (List ℤ)) → AreBandRows columns rows → band < 10 → row < block_side band →
    AllWithin (2 ^ 27) (block_side band * columns) (signal (get_or rows (row_place band row) []))
row-small columns band row rows s hb hr =
    subst (λ (n : ℕ). AllWithin (2 ^ 27) n (signal (get_or rows (row_place band row) []))) (row-wide columns band row rows s hb hr)
    (s.small (row_place band row) (row-there columns band row rows s hb hr))

pub place_there : (columns : ℕ) (p : Place) → IsPlaceIn columns p → is_place_in columns p ≡ true
unfolding is_place_in
place_there columns p is =
    let hb = is.band in
    let hr = is.row in
    let hc = is.column in
    grind (arith, nat_tests)

pub place_is : (columns : ℕ) (p : Place) → is_place_in columns p ≡ true → IsPlaceIn columns p
unfolding is_place_in
place_is columns p e = record { band = grind (arith, nat_tests); row = grind (arith, nat_tests); column = grind (arith, nat_tests) }

pub number-at : (columns : ℕ) (rows : List (List ℤ)) (p : Place) → IsPlaceIn columns p → number_in columns rows p ≡ number_at rows p
unfolding number_in
number-at columns rows p is = ap (λ (b : Bool). if b then number_at rows p else pos 0) (place_there columns p is)

kept_or_zero : (b : Bool) (x y : ℤ) → (b ≡ true → x ≡ y) → (if b then x else pos 0) ≡ (if b then y else pos 0)
kept_or_zero true x y h = h refl
kept_or_zero false x y h = refl

number-none : (columns : ℕ) (p : Place) → number_in columns [] p ≡ pos 0
unfolding number_in
number-none columns p = elim (is_place_in columns p) as (λ v. (if v then pos 0 else pos 0) ≡ pos 0) [ true ↦ refl | false ↦ refl ]

-- the numbers of two block rows at one place
pub number-same : (columns : ℕ) (xs ys : List (List ℤ)) (p : Place) → (IsPlaceIn columns p → number_at xs p ≡ number_at ys p) →
    number_in columns xs p ≡ number_in columns ys p
unfolding number_in
number-same columns xs ys p h = kept_or_zero (is_place_in columns p) _ _ (λ e. h (place_is columns p e))

pub number-zero : (columns : ℕ) (p : Place) (rows : List (List ℤ)) → ((i k : ℕ) → signal (get_or rows i []) k ≡ pos 0) → number_in columns rows p ≡ pos 0
number-zero columns p rows none = number-same columns rows [] p (λ is. none (row_place p.band p.row) p.column) ∙ number-none columns p

-- rows of zeros
zeros-replicate : (n w i k : ℕ) → signal (get_or (replicate n (replicate w (pos 0))) i []) k ≡ pos 0
zeros-replicate zero w i k = refl
zeros-replicate (suc n) w zero k = zero-row w k
zeros-replicate (suc n) w (suc i) k = zeros-replicate n w i k

zeros-append : (xs ys : List (List ℤ)) → ((i k : ℕ) → signal (get_or xs i []) k ≡ pos 0) → ((i k : ℕ) → signal (get_or ys i []) k ≡ pos 0) → (i k : ℕ) →
    signal (get_or (xs ++ ys) i []) k ≡ pos 0
zeros-append [] ys hx hy i k = hy i k
zeros-append (x ∷ xs) ys hx hy zero k = hx zero k
zeros-append (x ∷ xs) ys hx hy (suc i) k = zeros-append xs ys (λ j. hx (suc j)) hy i k

-- more of them
pub zeros-more : (n w : ℕ) (xs ys : List (List ℤ)) → ys ≡ xs ++ replicate n (replicate w (pos 0)) → ((i k : ℕ) → signal (get_or xs i []) k ≡ pos 0) →
    (i k : ℕ) → signal (get_or ys i []) k ≡ pos 0
zeros-more n w xs ys e none i k = ap (λ (zs : List (List ℤ)). signal (get_or zs i []) k) e ∙ zeros-append xs _ none (zeros-replicate n w) i k

-- two rows with one place are one
pub row_place-before : (b c y z : ℕ) → b < c → c < 10 → y < block_side b → row_place b y < row_place c z
row_place-before b c y z h hc hy = grind (arith, nat_tests)

row_place-band : (b c y z : ℕ) → b < 10 → c < 10 → y < block_side b → z < block_side c → row_place b y ≡ row_place c z → b ≡ c
row_place-band b c y z hb hc hy hz e =
    ⊎_elim (λ (h : b < c). let l = row_place-before b c y z h hc hy in absurd (omega arith))
    (λ (h : c ≤ b). ⊎_elim (λ (g : c < b). let l = row_place-before c b z y g hb hz in absurd (omega arith)) (λ (g : b ≤ c). omega arith) (cases_lt c b))
    (cases_lt b c)

row_place-one : (b c y z : ℕ) → b ≡ c → row_place b y ≡ row_place c z → y ≡ z
row_place-one b c y z e same = grind arith

pub place_same : (p q : Place) → p.band ≡ q.band → p.row ≡ q.row → p.column ≡ q.column → p ≡ q
place_same p q eb er ec =
    ap (λ (v : ℕ). record p { band = v }) eb
    ∙ ap (λ (v : ℕ). record p { band = q.band; row = v }) er
    ∙ ap (λ (v : ℕ). record q { column = v }) ec

pub row_place-apart : (b c y z : ℕ) → b < 10 → c < 10 → y < block_side b → z < block_side c → y < z → row_place c z ≢ row_place b y
row_place-apart b c y z hb hc hy hz h = λ e.
    let same = row_place-one b c y z (row_place-band b c y z hb hc hy hz (sym e)) (sym e) in
    absurd (omega (arith, h, same))

-- the row of a band of a block row
pub row-agrees : (f : ℕ → ℕ → ℤ) (band first columns w y n : ℕ) (rows : List (List ℤ)) (x : List ℤ) → band < 10 → y < block_side band →
    HasBlockRow f band first columns rows → w ≡ block_side band * columns → n ≡ first + y → x ≡ get_or rows (row_place band y) [] → Agrees w (signal x) (f n)
row-agrees f band first columns w y n rows x hb hy has ew en ex = record {
  at = λ j h.
      let hj : j < block_side band * columns = omega (arith, h, ew) in
      ap (λ (z : List ℤ). signal z j) ex
      ∙ sym (number-at columns rows (record { band = band; row = y; column = j }) (record { band = hb; row = hy; column = hj }))
      ∙ sym (has.at y j hy hj) ∙ ap (λ (t : ℕ). f t j) (sym en);
}

-- a row of which a number is set
module _ (columns : ℕ) (xs : List (List ℤ)) (p : Place) (v : ℤ) (is : IsPlaceIn columns p) (s : AreBandRows columns xs) where
  abbrev k : ℕ
  k = row_place p.band p.row

  abbrev row : List ℤ
  row = get_or xs k []

  row-in : k < length xs
  row-in = row-there columns p.band p.row xs s is.band is.row

  pub column-in : p.column < length row
  column-in = let wide = row-wide columns p.band p.row xs s is.band is.row in let h = is.column in omega arith

  abbrev pub rows-set : List (List ℤ)
  rows-set = set xs k (set row p.column v)

  pub number-set : number_in columns rows-set p ≡ v
  number-set = number-at columns rows-set p is ∙ ap (λ (x : List ℤ). signal x p.column) (get_or-set_same xs k (set row p.column v) [] row-in)
      ∙ get_or-set_same row p.column v (pos 0) column-in

  other_column : (q : Place) → p.band ≡ q.band → p.row ≡ q.row → (q ≡ p → ⊥) → q.column ≢ p.column
  other_column q eb er other = λ e. other (place_same q p (sym eb) (sym er) e)

  pub number-set_other : (q : Place) → (q ≡ p → ⊥) → number_in columns rows-set q ≡ number_in columns xs q
  number-set_other q other = number-same columns rows-set xs q (λ there.
      let j = row_place q.band q.row in
      ⊎_elim (λ (e : j ≡ k).
      let eb = sym (row_place-band q.band p.band q.row p.row there.band is.band there.row is.row e) in
      let er = row_place-one p.band q.band p.row q.row eb (sym e) in
      ap (λ (x : List ℤ). signal x q.column) (ap (λ (i : ℕ). get_or rows-set i []) e ∙ get_or-set_same xs k (set row p.column v) [] row-in)
      ∙ get_or-set_other row p.column q.column v (pos 0) (other_column q eb er other) ∙ ap (λ (i : ℕ). signal (get_or xs i []) q.column) (sym e))
      (λ (e : j ≢ k). ap (λ (x : List ℤ). signal x q.column) (get_or-set_other xs k j (set row p.column v) [] e)) (cases_eq j k))

-- a row in the place of another one
pub AreBandRows-set : (columns i : ℕ) (xs : List (List ℤ)) (x : List ℤ) → AreBandRows columns xs → i < length xs → length x ≡ length (get_or xs i []) →
    AllWithin (2 ^ 27) (length x) (signal x) → AreBandRows columns (set xs i x)
AreBandRows-set columns i xs x s h e small = record {
  widths = lengths-set xs i x h e ∙ s.widths;
  small = λ j l.
      ⊎_elim (λ (same : j ≡ i). subst (λ (y : List ℤ). AllWithin (2 ^ 27) (length y) (signal y))
      (sym (ap (λ (t : ℕ). get_or (set xs i x) t []) same ∙ get_or-set_same xs i x [] h)) small)
      (λ (ne : j ≢ i). subst (λ (y : List ℤ). AllWithin (2 ^ 27) (length y) (signal y)) (sym (get_or-set_other xs i j x [] ne))
      (s.small j (omega (arith, length-set xs i x)))) (cases_eq j i);
}

pub AllWithin-set : (m i : ℕ) (x : List ℤ) (v : ℤ) → i < length x → AllWithin m (length x) (signal x) → IsWithin m v →
    AllWithin m (length (set x i v)) (signal (set x i v))
AllWithin-set m i x v h small is = record {
  at = λ k l.
      ⊎_elim (λ (same : k ≡ i). subst (IsWithin m) (sym (ap (λ (j : ℕ). get_or (set x i v) j (pos 0)) same ∙ get_or-set_same x i v (pos 0) h)) is)
      (λ (ne : k ≢ i). subst (IsWithin m) (sym (get_or-set_other x i k v (pos 0) ne)) (small.at k (omega (arith, length-set x i v)))) (cases_eq k i);
}
