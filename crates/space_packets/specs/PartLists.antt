-- Lists made from a range, split and compared.
use Rattle.std.proofs.Common.{◌≡◌, ◌≤◌, ◌<◌, ◌+◌, ℕ, zero, suc, ◌++◌, map, refl, ap, ◌∙◌, arith, add-zero, zero-add}
use Rattle.std.specs.List.{range_with_len}

-- two functions that agree on a range make the same list of it
pub map_same : {X : Type 0} (f g : ℕ → X) (a n : ℕ) → ((i : ℕ) → a ≤ i → i < a + n → f i ≡ g i) →
    map f (range_with_len a n) ≡ map g (range_with_len a n)
map_same f g a zero same = refl
map_same f g a (suc n) same =
    let here : f a ≡ g a = same a (omega arith) (omega arith) in
    let rest : map f (range_with_len (a + 1) n) ≡ map g (range_with_len (a + 1) n) =
    map_same f g (a + 1) n (λ i low high. same i (omega arith) (omega arith)) in
    rw (here, rest)

-- a range is its first m numbers and the others
pub map_split : {X : Type 0} (f : ℕ → X) (a m n : ℕ) →
    map f (range_with_len a (m + n)) ≡ map f (range_with_len a m) ++ map f (range_with_len (a + m) n)
map_split f a zero n = rw (zero-add n, add-zero a)
map_split f a (suc m) n =
    let e : suc m + n ≡ suc (m + n) = omega arith in
    let next : a + 1 + m ≡ a + suc m = omega arith in
    rw (e, map_split f (a + 1) m n, next)

-- a range that begins later
pub map_shift : {X : Type 0} (f : ℕ → X) (m a n : ℕ) →
    map f (range_with_len (m + a) n) ≡ map (λ i. f (m + i)) (range_with_len a n)
map_shift f m a zero = refl
map_shift f m a (suc n) =
    let e : m + a + 1 ≡ m + (a + 1) = omega arith in
    rw (e, map_shift f m (a + 1) n)

-- both: the first m, and those after them by another function
pub map_both : {X : Type 0} (f g h : ℕ → X) (m n : ℕ) → ((i : ℕ) → i < m → f i ≡ g i) → ((i : ℕ) → f (m + i) ≡ h i) →
    map f (range_with_len 0 (m + n)) ≡ map g (range_with_len 0 m) ++ map h (range_with_len 0 n)
map_both f g h m n prefix back =
    let first : map f (range_with_len 0 m) ≡ map g (range_with_len 0 m) = map_same f g 0 m (λ i low high. prefix i (omega arith)) in
    let next : map f (range_with_len (0 + m) n) ≡ map h (range_with_len 0 n) =
    let start : 0 + m ≡ m + 0 = omega arith in
    ap (λ a. map f (range_with_len a n)) start ∙ map_shift f m 0 n ∙ map_same (λ i. f (m + i)) h 0 n (λ i low high. back i) in
    rw (map_split f 0 m n, first, next)
