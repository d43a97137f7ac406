-- The options that a writer chooses exist, and no block depth is above the head's.
use Rattle.std.proofs.Common.{◌≡◌, ℕ, zero, suc, ◌<◌, ◌≤◌, max, Bool, true, List, [], ◌∷◌, refl, arith, ℤ, get_or, map, filter, nat_le, fold, ◌||◌, not}
use Rattle.std.specs.List.{list_all, AllByRecursion}
use Rattle.std.proofs.lemmas.Bool.Decides.{nat_tests}
use Rattle.number_defs.specs.Gaggles.{is_option}
use Rattle.number_defs.specs.Depths.{depth_bits}
use Rattle.number_defs.proofs.Chosen.{heuristic_is, optimal_is}
use Rattle.base_122.specs.declared.book.Book.{Book}
use Rattle.plane_defs.specs.Codes.{is_book_sound}
use Rattle.plane_defs.specs.Spans.{span}
use Rattle.plane_defs.specs.Choice.{is_cheapest, cheapest}
use Rattle.plane_defs.specs.Planes.{Plane, chosen}
use Rattle.plane_defs.specs.Spelled.{option_of}
use Rattle.plane_defs.proofs.Alike.{all_filter}
use Rattle.plane_defs.proofs.Above.{all_span}
use Rattle.plane_defs.proofs.Tables.{list_all-span-zero}
use Rattle.segment_defs.specs.declared.head.SegmentHead.{SegmentHead}
use Rattle.segment_defs.specs.Head.{IsHead}
use Rattle.segment_defs.specs.Depths.{block_depths}
use Rattle.segment_defs.specs.SegmentItems.{plane_at}
use Rattle.segment_defs.specs.Coded.{choice_of, chosen_options}
use Rattle.segment_defs.specs.Spellable.{AreWordOptions, AreNumberOptions}

-- ---- words

first_below : (n : ℕ) (xs : List ℕ) → 0 < n → AllByRecursion (λ k. k < n) xs → get_or xs 0 0 < n
first_below n [] some all = some
first_below n (x ∷ xs) some all = all.0

cheapest_below : (book : Book) (n : ℕ) (counts : List ℕ) → 0 < n → cheapest book n counts < n
unfolding cheapest
cheapest_below book n counts some =
    first_below n (filter (is_cheapest book n counts) (span 0 n)) some
    (all_filter (λ k. k < n) (is_cheapest book n counts) (span 0 n) (all_span (λ k. k < n) 0 n (λ k low high. omega arith)))

chosen_below : (book : Book) (p : Plane) (g n : ℕ) → 2 ≤ n → n ≤ 4 → option_of (chosen book p g) n < n
chosen_below book p g n low high = grind (arith, nat_tests, cheapest_below)

pub words_are : (book : Book) → is_book_sound book ≡ true → (head : SegmentHead) (blocks : List (List ℤ)) →
    AreWordOptions (chosen_options book head blocks)
words_are book sound head blocks =
    record { sound = sound; at = λ b g n low high. chosen_below book (plane_at head blocks (block_depths blocks) b) g n low high }

-- ---- numbers

choice_is : (best : Bool) (N : ℕ) (values : List ℕ) → 2 ≤ N → is_option N (choice_of best N values) ≡ true
choice_is best N values two = grind (arith, nat_tests, optimal_is, heuristic_is)

deep_bits : list_all (λ d. not (nat_le 2 d) || nat_le 2 (depth_bits d)) (span 0 28) ≡ true
unfolding span
deep_bits = refl

two_from : (d b : ℕ) → (not (nat_le 2 d) || nat_le 2 b) ≡ true → 2 ≤ d → 2 ≤ b
two_from d b e two = grind (arith, nat_tests)

pub numbers_are : (book : Book) (head : SegmentHead) (blocks : List (List ℤ)) → IsHead head → AreNumberOptions head (chosen_options book head blocks)
numbers_are book head blocks ok = record {
  dcs = λ two g lt. choice_is head.best_dc _ _ two;
  depths = λ two g lt.
      choice_is head.best_ac (depth_bits head.depth_ac) _
      (two_from head.depth_ac (depth_bits head.depth_ac)
      (list_all-span-zero (λ d. not (nat_le 2 d) || nat_le 2 (depth_bits d)) 28 head.depth_ac deep_bits (omega (arith, ok.depth_ac))) two);
}

-- ---- depths

fold_least : {X : Type 0} (f : X → ℕ) (xs : List X) (most : ℕ) → most ≤ fold (λ m x. max m (f x)) most xs
fold_least f [] most = omega arith
fold_least f (x ∷ xs) most = let more = fold_least f xs (max most (f x)) in omega (arith, more)

pub within_greatest : {X : Type 0} (f : X → ℕ) (xs : List X) (most r : ℕ) → get_or (map f xs) r 0 ≤ fold (λ m x. max m (f x)) most xs
within_greatest f [] most r = omega arith
within_greatest f (x ∷ xs) most zero = let more = fold_least f xs (max most (f x)) in omega (arith, more)
within_greatest f (x ∷ xs) most (suc r) = within_greatest f xs (max most (f x)) r
