-- Rows of which one is replaced.
use Rattle.std.proofs.Common.{◌≡◌, ◌≢◌, ℕ, ◌+◌, ◌<◌, ◌≤◌, ℤ, pos, List, [], length, map, set, get_or, replicate, sym, ap, ◌∙◌, ⊎_elim, inl, inr, arith}
use Rattle.std.proofs.Common.{get_or-set_same, get_or-set_other}
use Rattle.std.proofs.lemmas.List.{map-set, set-get_or, get_or-map, get_or-replicate, get_or_past, length-replicate}
use Rattle.std.proofs.lemmas.Bool.{cases_order, cases_lt}

-- the lengths stay if the new row is as long as the old one
pub lengths-set : (rows : List (List ℤ)) (i : ℕ) (row : List ℤ) → i < length rows → length row ≡ length (get_or rows i []) →
    map length (set rows i row) ≡ map length rows
lengths-set rows i row h e =
    let here : get_or (map length rows) i 0 ≡ length (get_or rows i []) = get_or-map length rows i [] 0 h in
    map-set length rows i row ∙ ap (set (map length rows) i) (e ∙ sym here) ∙ set-get_or (map length rows) i 0

pub zero-row : (n k : ℕ) → get_or (replicate n (pos 0)) k (pos 0) ≡ pos 0
zero-row n k =
    ⊎_elim (λ (h : k < n). get_or-replicate n k (pos 0) (pos 0) h)
    (λ (h : n ≤ k). get_or_past (replicate n (pos 0)) k (pos 0) (omega (arith, length-replicate n (pos 0)))) (cases_lt k n)

-- and all rows up to the new one are 0, if those before it were and it is
pub zeros-set : (rows : List (List ℤ)) (i n : ℕ) (row : List ℤ) → i < length rows → row ≡ replicate n (pos 0) →
    ((j k : ℕ) → j < i → get_or (get_or rows j []) k (pos 0) ≡ pos 0) → (j k : ℕ) → j < i + 1 → get_or (get_or (set rows i row) j []) k (pos 0) ≡ pos 0
zeros-set rows i n row h e zero j k l =
    elim (cases_order j i) [
      | inl same ↦
          ap (λ (t : ℕ). get_or (get_or (set rows i row) t []) k (pos 0)) same ∙ ap (λ (x : List ℤ). get_or x k (pos 0))
          (get_or-set_same rows i row [] h ∙ e) ∙ zero-row n k
      | inr other ↦
          let ne : j ≢ i = λ e. ⊎_elim (λ a. absurd (omega arith)) (λ b. absurd (omega arith)) other in
          ap (λ (x : List ℤ). get_or x k (pos 0)) (get_or-set_other rows i j row [] ne) ∙ zero j k (omega (arith, ne, l))
    ]
