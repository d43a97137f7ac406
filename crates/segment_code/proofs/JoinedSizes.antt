-- The magnitudes of a block's AC coefficients, joined in sixteen lanes.
use Rattle.std.proofs.Common.{◌≡◌, ℕ, zero, suc, ◌+◌, ◌-◌, ◌^◌, ◌<◌, ◌≤◌, ℤ, pos, List, [], ◌∷◌, length, map, drop, get_or, refl, ap, sym, ◌∙◌, subst}
use Rattle.std.proofs.Common.{arith, w32}
use Rattle.std.proofs.Common.{unsigned_abs, bit_or, ◌⊎◌, FitsSigned, pow_mono, length-drop, get_or-drop, inl, inr}
use lib.Lanes.{zip2, Each1, fold_l}
use Rattle.std.proofs.lemmas.Bool.{cases_lt}
use Rattle.std.proofs.lemmas.Bool.Decides.{nat_tests}
use Rattle.std.proofs.lemmas.Int.{of_z-to_z}
use mir.Val.{of_z, to_z}
use Rattle.std.proofs.lemmas.Nat.{le_or_l, le_or_r, or_lt}
use Rattle.std.proofs.lemmas.List.{get_or-map, length-map, get_or_default}
use Rattle.std.proofs.lemmas.Simd.{length-zip2}
use Rattle.block_masks.proofs.LaneMasks.{lanes, length-lanes, lane}
use Rattle.block_masks.proofs.SizeLanes.{size, sizes, sizes_are, size_is as size_at}
use Rattle.segment_defs.specs.Size.{size_of, greatest}
use Rattle.segment_defs.proofs.Sizes.{size_is, size_of-least, size_of-mono}
use Rattle.segment_code.proofs.SizeBits.{greatest-within}
use Rattle.segment_code.proofs.CodedChoices.{within_greatest}

-- ---- lists of lanes

each_at : (P : ℕ → Type 0) (xs : List ℕ) → ((k : ℕ) → k < length xs → P (get_or xs k 0)) → Each1 P xs
each_at P [] h = tt
each_at P (x ∷ xs) h = (h 0 (omega arith), each_at P xs (λ k lt. h (suc k) (omega (arith, lt))))

below_zip : (m : ℕ) (xs ys : List ℕ) → Each1 (λ x. x < 2 ^ m) xs → Each1 (λ x. x < 2 ^ m) ys → Each1 (λ x. x < 2 ^ m) (zip2 bit_or xs ys)
below_zip m [] ys left right = tt
below_zip m (x ∷ xs) [] left right = tt
below_zip m (x ∷ xs) (y ∷ ys) left right = (or_lt m x y left.0 right.0, below_zip m xs ys left.1 right.1)

below_fold : (m a : ℕ) (xs : List ℕ) → a < 2 ^ m → Each1 (λ x. x < 2 ^ m) xs → fold_l bit_or a xs < 2 ^ m
below_fold m a [] low each = low
below_fold m a (x ∷ xs) low each = below_fold m (bit_or a x) xs (or_lt m a x low each.0) each.1

start_in_fold : (a : ℕ) (xs : List ℕ) → a ≤ fold_l bit_or a xs
start_in_fold a [] = omega arith
start_in_fold a (x ∷ xs) = (let one = le_or_l a x in let more = start_in_fold (bit_or a x) xs in omega (arith, one, more))

each_in_fold : (a : ℕ) (xs : List ℕ) (k : ℕ) → k < length xs → get_or xs k 0 ≤ fold_l bit_or a xs
each_in_fold a [] k lt = absurd (omega (arith, lt))
each_in_fold a (x ∷ xs) zero lt = (let one = le_or_r a x in let more = start_in_fold (bit_or a x) xs in omega (arith, one, more))
each_in_fold a (x ∷ xs) (suc k) lt = each_in_fold (bit_or a x) xs k (omega (arith, lt))

at_zip : (xs ys : List ℕ) (k : ℕ) → length xs ≡ length ys → k < length xs → get_or (zip2 bit_or xs ys) k 0 ≡ bit_or (get_or xs k 0) (get_or ys k 0)
at_zip [] ys k same lt = absurd (omega (arith, lt))
at_zip (x ∷ xs) [] k same lt = absurd (omega (arith, same))
at_zip (x ∷ xs) (y ∷ ys) zero same lt = refl
at_zip (x ∷ xs) (y ∷ ys) (suc k) same lt = at_zip xs ys k (omega (arith, same)) (omega (arith, lt))

-- ---- a block

module _ (block : List ℤ) (long : length block ≡ 64) (fit : (k : ℕ) → k < 64 → FitsSigned w32 (get_or block k (pos 0))) where
  part_long : (start : ℕ) → start + 16 ≤ 64 → length (sizes (lanes block start)) ≡ 16
  part_long start inside =
      let there = length-lanes block start (omega (arith, inside, long)) in
      ap length (sizes_are (lanes block start) there) ∙ length-map (lanes block start) size ∙ there

  part_at : (start k : ℕ) → start + 16 ≤ 64 → k < 16 → get_or (sizes (lanes block start)) k 0 ≡ unsigned_abs (get_or block (start + k) (pos 0))
  part_at start k inside low =
      let within : start + 16 ≤ length block = omega (arith, inside, long) in
      let there = length-lanes block start within in
      ap (λ l. get_or l k 0) (sizes_are (lanes block start) there) ∙ get_or-map size (lanes block start) k 0 0 (omega (arith, there, low))
      ∙ ap size (lane block start k within low) ∙ size_at (get_or block (start + k) (pos 0)) (fit (start + k) (omega (arith, inside, low)))

  abbrev pub joined : List ℕ
  joined = zip2 bit_or (zip2 bit_or (zip2 bit_or (sizes (lanes block 1)) (sizes (lanes block 17))) (sizes (lanes block 33))) (sizes (lanes block 48))

  part_below : (m start : ℕ) → start + 16 ≤ 64 → 0 < start → ((k : ℕ) → 0 < k → k < 64 → unsigned_abs (get_or block k (pos 0)) < 2 ^ m) →
      Each1 (λ x. x < 2 ^ m) (sizes (lanes block start))
  part_below m start inside some all = each_at (λ x. x < 2 ^ m) (sizes (lanes block start)) (λ k lt.
      let low : k < 16 = omega (arith, lt, part_long start inside) in
      subst (λ x. x < 2 ^ m) (sym (part_at start k inside low)) (all (start + k) (omega (arith, some)) (omega (arith, low, inside))))

  pub joined_below : (m a : ℕ) → a < 2 ^ m → ((k : ℕ) → 0 < k → k < 64 → unsigned_abs (get_or block k (pos 0)) < 2 ^ m) → fold_l bit_or a joined < 2 ^ m
  joined_below m a low all =
      below_fold m a joined low (below_zip m _ _ (below_zip m _ _ (below_zip m _ _ (part_below m 1 (omega arith) (omega arith) all)
      (part_below m 17 (omega arith) (omega arith) all)) (part_below m 33 (omega arith) (omega arith) all)) (part_below m 48 (omega arith) (omega arith) all))

  magnitude_fits : (z : ℤ) → FitsSigned w32 z → unsigned_abs z < 2 ^ 32
  magnitude_fits z fits = grind (arith, nat_tests, w32)

  -- the magnitudes joined fit 32 bits
  pub joined_back : (a : ℕ) → a < 2 ^ 32 → of_z w32 (to_z w32 (fold_l bit_or a joined)) ≡ fold_l bit_or a joined
  joined_back a low = of_z-to_z w32 (fold_l bit_or a joined) (joined_below 32 a low (λ k some few. magnitude_fits (get_or block k (pos 0)) (fit k few)))

  abbrev pair : List ℕ
  pair = zip2 bit_or (sizes (lanes block 1)) (sizes (lanes block 17))

  abbrev triple : List ℕ
  triple = zip2 bit_or pair (sizes (lanes block 33))

  pair_long : length pair ≡ 16
  pair_long =
      let one = part_long 1 (omega arith) in
      length-zip2 bit_or (sizes (lanes block 1)) (sizes (lanes block 17)) (one ∙ sym (part_long 17 (omega arith))) ∙ one

  triple_long : length triple ≡ 16
  triple_long = length-zip2 bit_or pair (sizes (lanes block 33)) (pair_long ∙ sym (part_long 33 (omega arith))) ∙ pair_long

  joined_long : length joined ≡ 16
  joined_long = length-zip2 bit_or triple (sizes (lanes block 48)) (triple_long ∙ sym (part_long 48 (omega arith))) ∙ triple_long

  -- each lane of each part is at most the whole
  parts_within : (a j start : ℕ) → j < 16 → (start ≡ 1) ⊎ ((start ≡ 17) ⊎ ((start ≡ 33) ⊎ (start ≡ 48))) →
      get_or (sizes (lanes block start)) j 0 ≤ fold_l bit_or a joined
  parts_within a j start low which =
      let p = λ (n : ℕ). get_or (sizes (lanes block n)) j 0 in
      let first : get_or pair j 0 ≡ bit_or (p 1) (p 17) = at_zip (sizes (lanes block 1)) (sizes (lanes block 17)) j
      (part_long 1 (omega arith) ∙ sym (part_long 17 (omega arith))) (omega (arith, low, part_long 1 (omega arith))) in
      let second : get_or triple j 0 ≡ bit_or (get_or pair j 0) (p 33) = at_zip pair (sizes (lanes block 33)) j
      (pair_long ∙ sym (part_long 33 (omega arith))) (omega (arith, low, pair_long)) in
      let third : get_or joined j 0 ≡ bit_or (get_or triple j 0) (p 48) = at_zip triple (sizes (lanes block 48)) j
      (triple_long ∙ sym (part_long 48 (omega arith))) (omega (arith, low, triple_long)) in
      let all = each_in_fold a joined j (omega (arith, low, joined_long)) in
      let l1 = le_or_l (p 1) (p 17) in
      let r1 = le_or_r (p 1) (p 17) in
      let l2 = le_or_l (get_or pair j 0) (p 33) in
      let r2 = le_or_r (get_or pair j 0) (p 33) in
      let l3 = le_or_l (get_or triple j 0) (p 48) in
      let r3 = le_or_r (get_or triple j 0) (p 48) in
      elim which [
        | inl e ↦ subst (λ n. get_or (sizes (lanes block n)) j 0 ≤ fold_l bit_or a joined) (sym e) (omega (arith, first, second, third, all, l1, l2, l3))
        | inr rest ↦ elim rest [
          | inl e ↦ subst (λ n. get_or (sizes (lanes block n)) j 0 ≤ fold_l bit_or a joined) (sym e) (omega (arith, first, second, third, all, r1, l2, l3))
          | inr last ↦ elim last [
            | inl e ↦ subst (λ n. get_or (sizes (lanes block n)) j 0 ≤ fold_l bit_or a joined) (sym e) (omega (arith, second, third, all, r2, l3))
            | inr e ↦ subst (λ n. get_or (sizes (lanes block n)) j 0 ≤ fold_l bit_or a joined) (sym e) (omega (arith, third, all, r3))
          ]
        ]
      ]

  within_from : (a k start : ℕ) → start ≤ k → k < start + 16 → start + 16 ≤ 64 → (start ≡ 1) ⊎ ((start ≡ 17) ⊎ ((start ≡ 33) ⊎ (start ≡ 48))) →
      unsigned_abs (get_or block k (pos 0)) ≤ fold_l bit_or a joined
  within_from a k start le lt inside which =
      let here : start + (k - start) ≡ k = omega (arith, le) in
      let same = part_at start (k - start) inside (omega (arith, le, lt)) ∙ ap (λ n. unsigned_abs (get_or block n (pos 0))) here in
      let most = parts_within a (k - start) start (omega (arith, le, lt)) which in
      omega (arith, same, most)

  pub joined_least : (a k : ℕ) → 0 < k → k < 64 → unsigned_abs (get_or block k (pos 0)) ≤ fold_l bit_or a joined
  joined_least a k some few = elim (cases_lt k 17) [
    | inl low ↦ within_from a k 1 (omega (arith, some)) (omega (arith, low)) (omega arith) (inl refl)
    | inr high ↦ elim (cases_lt k 33) [
      | inl low ↦ within_from a k 17 high (omega (arith, low)) (omega arith) (inr (inl refl))
      | inr higher ↦ elim (cases_lt k 48) [
        | inl low ↦ within_from a k 33 higher (omega (arith, low)) (omega arith) (inr (inr (inl refl)))
        | inr last ↦ within_from a k 48 last (omega (arith, few)) (omega arith) (inr (inr (inr refl)))
      ]
    ]
  ]

-- so the size of all joined is the greatest
pub joined_size : (block : List ℤ) (joined : ℕ) → length block ≡ 64 →
    ((m : ℕ) → ((k : ℕ) → 0 < k → k < 64 → unsigned_abs (get_or block k (pos 0)) < 2 ^ m) → joined < 2 ^ m) →
    ((k : ℕ) → 0 < k → k < 64 → unsigned_abs (get_or block k (pos 0)) ≤ joined) →
    size_of joined ≡ greatest (λ z. size_of (unsigned_abs z)) (drop 1 block)
joined_size block joined long below least =
    let f : ℤ → ℕ = λ z. size_of (unsigned_abs z) in
    let acs = drop 1 block in
    let count : length acs ≡ 63 = omega (arith, length-drop 1 block, long) in
    let most : size_of joined ≤ greatest f acs = size_of-least joined (greatest f acs) (below (greatest f acs) (λ k some few.
    let z = get_or block k (pos 0) in
    let there : get_or (map f acs) (k - 1) 0 ≡ f z =
    get_or-map f acs (k - 1) (pos 0) 0 (omega (arith, count, some, few)) ∙ ap f (get_or-drop 1 block (k - 1) (pos 0) ∙ ap (λ n. get_or block n (pos 0))
    (let back : 1 + (k - 1) ≡ k = omega (arith, some) in back)) in
    let reach : size_of (unsigned_abs z) ≤ greatest f acs = omega (arith, there, within_greatest f acs 0 (k - 1)) in
    let grows : 2 ^ size_of (unsigned_abs z) ≤ 2 ^ greatest f acs = pow_mono {i = size_of (unsigned_abs z)} {j = greatest f acs} reach in
    omega (arith, (size_is (unsigned_abs z)).holds, grows))) in
    let all : greatest f acs ≤ size_of joined = greatest-within f (size_of joined) acs (λ k d lt.
    let z = get_or acs k d in
    let same : z ≡ get_or block (1 + k) (pos 0) = get_or_default acs k d (pos 0) lt ∙ get_or-drop 1 block k (pos 0) in
    size_of-mono (unsigned_abs z) joined (subst (λ x. unsigned_abs x ≤ joined) (sym same) (least (1 + k) (omega arith) (omega (arith, lt, count))))) in
    omega (arith, most, all)
