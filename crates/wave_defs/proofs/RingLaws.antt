-- A row that becomes the newest of a ring.
use Rattle.std.proofs.Common.{◌≡◌, ℕ, ◌+◌, ◌-◌, ◌<◌, ◌≤◌, ℤ, List, [], ◌∷◌, ◌++◌, length, get_or, drop, sym, ap, ◌∙◌, ⊎_elim, subst, arith}
use Rattle.std.proofs.lemmas.Bool.{cases_lt}
use Rattle.std.proofs.lemmas.List.{get_or_append_left, get_or-drop, get_or_push, length-drop, length_push}
use Rattle.wave_defs.specs.Within.{AllWithin}
use Rattle.wave_defs.specs.Held.{Agrees, signal}
use Rattle.wave_defs.specs.Rings.{AreRows, RowsWithin, AreNewest}

pub length-turn : (rows : List (List ℤ)) (row : List ℤ) → 1 ≤ length rows → length (drop 1 rows ++ row ∷ []) ≡ length rows
length-turn rows row h = length_push (drop 1 rows) row ∙ omega (arith, length-drop 1 rows)

-- a row of the ring after the turn is the one after it, or the new one
at_turn : (rows : List (List ℤ)) (row : List ℤ) (t : ℕ) → t < length rows → (P : List ℤ → Type 0) → (t + 1 < length rows → P (get_or rows (1 + t) [])) →
    (t + 1 ≡ length rows → P row) → P (get_or (drop 1 rows ++ row ∷ []) t [])
at_turn rows row t h P old last =
    let rest = length-drop 1 rows in
    let older = λ (l : t + 1 < length rows). get_or_append_left (drop 1 rows) (row ∷ []) [] t (omega arith) ∙ get_or-drop 1 rows t [] in
    let newest = λ (e : t + 1 ≡ length rows). get_or_push (drop 1 rows) row [] t (omega arith) in
    ⊎_elim
    (λ (l : t + 1 < length rows). subst P (sym (older l)) (old l))
    (λ (l : length rows ≤ t + 1). let e : t + 1 ≡ length rows = omega arith in subst P (sym (newest e)) (last e))
    (cases_lt (t + 1) (length rows))

pub AreRows-turn : (count w : ℕ) (rows : List (List ℤ)) (row : List ℤ) → 1 ≤ count → AreRows count w rows → length row ≡ w →
    AreRows count w (drop 1 rows ++ row ∷ [])
AreRows-turn count w rows row one s lr =
    let count_is = s.count_is in
    record {
      count_is = length-turn rows row (omega arith) ∙ s.count_is;
      wide = λ t h. at_turn rows row t (omega arith) (λ (x : List ℤ). length x ≡ w) (λ l. s.wide (1 + t) (omega arith)) (λ e. lr);
    }

pub RowsWithin-turn : (bound w : ℕ) (rows : List (List ℤ)) (row : List ℤ) → 1 ≤ length rows → RowsWithin bound w rows → AllWithin bound w (signal row) →
    RowsWithin bound w (drop 1 rows ++ row ∷ [])
RowsWithin-turn bound w rows row one s b =
    let long = length-turn rows row one in
    record { at = λ t h. at_turn rows row t (omega arith) (λ (x : List ℤ). AllWithin bound w (signal x)) (λ l. s.at (1 + t) (omega arith)) (λ e. b) }

pub AreNewest-turn : (f : ℕ → ℕ → ℤ) (w n : ℕ) (rows : List (List ℤ)) (row : List ℤ) → 1 ≤ length rows → AreNewest f w n rows →
    Agrees w (signal row) (f n) → AreNewest f w (n + 1) (drop 1 rows ++ row ∷ [])
AreNewest-turn f w n rows row one s new =
    let long = length-turn rows row one in
    record {
      at = λ t h le.
          let fits : length rows ≤ n + 1 + t = omega arith in
          let same : n + 1 + t - length (drop 1 rows ++ row ∷ []) ≡ n + 1 + t - length rows = ap (λ (k : ℕ). n + 1 + t - k) long in
          subst (λ (q : ℕ). Agrees w (signal (get_or (drop 1 rows ++ row ∷ []) t [])) (f q)) (sym same)
          (at_turn rows row t (omega arith) (λ (x : List ℤ). Agrees w (signal x) (f (n + 1 + t - length rows)))
          (λ l. let e : n + (1 + t) - length rows ≡ n + 1 + t - length rows =
          omega arith in subst (λ (q : ℕ). Agrees w (signal (get_or rows (1 + t) [])) (f q)) e (s.at (1 + t) (omega arith) (omega arith)))
          (λ e. let k : n ≡ n + 1 + t - length rows = omega arith in subst (λ (q : ℕ). Agrees w (signal row) (f q)) k new));
    }

-- the row at a place, if its number is known
pub newest_at : (f : ℕ → ℕ → ℤ) (w n t i : ℕ) (rows : List (List ℤ)) → AreNewest f w n rows → t < length rows → n + t ≡ i + length rows →
    Agrees w (signal (get_or rows t [])) (f i)
newest_at f w n t i rows s h e =
    let k : n + t - length rows ≡ i = omega arith in
    subst (λ (q : ℕ). Agrees w (signal (get_or rows t [])) (f q)) k (s.at t h (omega arith))
