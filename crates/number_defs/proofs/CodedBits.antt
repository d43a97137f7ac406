-- The bits that a choice counts are those of the items.
use Rattle.std.proofs.Common.{◌≡◌, ℕ, ◌+◌, ◌*◌, ◌-◌, ◌/◌, ◌^◌, ◌<◌, ◌≤◌, List, [], ◌∷◌, ◌++◌, length, map, true, false, eqb, cond, refl, sym, ap, ◌∙◌}
use Rattle.std.proofs.Common.{arith, length-append, sum_by, IsTrue}
use Rattle.std.proofs.lemmas.Bool.Decides.{nat_tests}
use Rattle.std.proofs.lemmas.Nat.{shr_below}
use Rattle.std.proofs.lemmas.List.Sums.{sum_by-cons}
use Rattle.std.proofs.lemmas.List.Concat.{flat_map-append, flat_map-cons}
use Rattle.item_defs.proofs.BitLists.{length-copies, zeros_then_one}
use Rattle.item_defs.proofs.NumberBits.{length-bits_of}
use Rattle.item_defs.specs.Items.{Item, item_bits, text, zeros_and_one}
use Rattle.number_defs.specs.Gaggles.{Kind, uncoded, is_option, value_at, value_items, uncoded_value, unary_part, rest_part}
use Rattle.number_defs.specs.Choice.{coded_bits}

zeros_length : (limit n : ℕ) → n < limit → length (zeros_and_one limit n) ≡ n + 1
zeros_length limit n lt = grind (arith, nat_tests, zeros_then_one, length-append, length-copies)

-- the number of bits of each item
module _ (f : ℕ → Item) (g c : ℕ → ℕ) (each : (i : ℕ) → length (item_bits (f i)) ≡ c (g i)) where
  each_length : (xs : List ℕ) → length (text (map f xs)) ≡ sum_by c (map g xs)
  each_length [] = refl
  each_length (x ∷ xs) =
      ap length (flat_map-cons item_bits (f x) (map f xs)) ∙ length-append (item_bits (f x)) (text (map f xs))
      ∙ ap (λ n. n + length (text (map f xs))) (each x) ∙ ap (λ n. c (g x) + n) (each_length xs) ∙ sym (sum_by-cons c (g x) (map g xs))

sum_both : (a b : ℕ → ℕ) (xs : List ℕ) → sum_by a xs + sum_by b xs ≡ sum_by (λ v. a v + b v) xs
sum_both a b [] = refl
sum_both a b (x ∷ xs) =
    let p = sum_by-cons a x xs in
    let q = sum_by-cons b x xs in
    let r = sum_by-cons (λ v. a v + b v) x xs in
    let h = sum_both a b xs in
    omega (arith, p, q, r, h)

sum_alike : (n : ℕ) (xs : List ℕ) → sum_by (λ v. n) xs ≡ n * length xs
sum_alike n [] = omega arith
sum_alike n (x ∷ xs) =
    let p = sum_by-cons (λ v. n) x xs in
    let h = sum_alike n xs in
    omega (arith, p, h)

pub high_small : (N k v : ℕ) → k ≤ N → v < 2 ^ N → v / 2 ^ k < 2 ^ (N - k)
high_small N k v le lt = grind (arith, nat_tests, shr_below)

module _ (kind : Kind) (heights : List ℕ) (fits : (i : ℕ) → value_at kind.bits heights i < 2 ^ kind.bits) (at : List ℕ) where
  uncoded_length : length (text (map (uncoded_value kind heights) at)) ≡ kind.bits * length (map (value_at kind.bits heights) at)
  uncoded_length =
      each_length (uncoded_value kind heights) (value_at kind.bits heights) (λ v. kind.bits) (λ i. length-bits_of kind.bits (value_at kind.bits heights i)) at
      ∙ sum_alike kind.bits (map (value_at kind.bits heights) at)

  unary_length : (k : ℕ) → k ≤ kind.bits → length (text (map (unary_part kind heights k) at)) ≡ sum_by (λ v. v / 2 ^ k + 1)
      (map (value_at kind.bits heights) at)
  unary_length k le = grind (arith, nat_tests, each_length, zeros_length, high_small)

  rests_length : (k : ℕ) → length (text (cond (eqb k 0) [] (map (rest_part kind heights k) at))) ≡ sum_by (λ v. k) (map (value_at kind.bits heights) at)
  rests_length k = grind (arith, nat_tests, sum_alike, each_length, length-bits_of)

is_k : (N option : ℕ) → IsTrue (is_option N option) → eqb option (uncoded N) ≡ false → option ≤ N
is_k N option h ne = grind (arith, nat_tests)

pub counts_bits : (kind : Kind) (heights : List ℕ) (option : ℕ) (at : List ℕ) → IsTrue (is_option kind.bits option) →
    ((i : ℕ) → value_at kind.bits heights i < 2 ^ kind.bits) →
    length (text (value_items kind heights option at)) ≡ coded_bits kind.bits (map (value_at kind.bits heights) at) option
unfolding value_items coded_bits
counts_bits kind heights option at h fits =
    let values = map (value_at kind.bits heights) at in
    let shorts = map (unary_part kind heights option) at in
    let rests = cond (eqb option 0) [] (map (rest_part kind heights option) at) in
    elim (eqb option (uncoded kind.bits)) as (λ t. eqb option (uncoded kind.bits) ≡ t →
    length (text (cond t (map (uncoded_value kind heights) at) (shorts ++ rests)))
    ≡ cond t (kind.bits * length values) (sum_by (λ v. (v / 2 ^ option + 1) + option) values)) [
      | true ↦ λ e. uncoded_length kind heights fits at
      | false ↦ λ e.
          ap length (flat_map-append item_bits shorts rests) ∙ length-append (text shorts) (text rests)
          ∙ ap (λ n. n + length (text rests)) (unary_length kind heights fits at option (is_k kind.bits option h e))
          ∙ ap (λ n. sum_by (λ v. v / 2 ^ option + 1) values + n) (rests_length kind heights fits at option)
          ∙ sum_both (λ v. v / 2 ^ option + 1) (λ v. option) values
    ] refl
