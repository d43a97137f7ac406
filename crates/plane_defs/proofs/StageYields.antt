-- What stages 1 to 4 of a block keep, whatever is read.
use Rattle.std.proofs.Common.{◌≡◌, ℕ, ◌+◌, ◌*◌, ◌≤◌, ◌==◌, ◌&&◌, ◌||◌, not, nat_lt, Bool, true, false, if◌then◌else◌, List, [], ◌∷◌}
use Rattle.std.proofs.Common.{map, filter, length, refl, ap, sym, ◌∙◌, subst, arith, ℤ, Option, Some, None}
use Rattle.std.specs.List.{AllByRecursion}
use Rattle.std.proofs.lemmas.Bool.Decides.{nat_tests}
use Rattle.item_defs.specs.Bits.{bits_of}
use Rattle.base_122.specs.declared.book.Book.{Book}
use Rattle.plane_defs.specs.declared.sets.Set.TheVariants.{Descendants, Family, Grandchildren, Quad}
use Rattle.plane_defs.specs.Spans.{span}
use Rattle.plane_defs.specs.Sets.{live, type_due, quad_of}
use Rattle.plane_defs.specs.Steps.{Check, ones_at, some_one_where}
use Rattle.plane_defs.proofs.Above.{all_span}
use Rattle.plane_defs.proofs.Alike.{all_filter}
use Rattle.item_defs.specs.Scripts.{Script, done, ask, then_ask, in_turn, ask_bit}
use Rattle.item_defs.proofs.ScriptYields.{Yields, yields_then, yields_turn}
use Rattle.plane_defs.specs.States.{State, with_options, with_bits, with_minus, with_families, and_one}
use Rattle.plane_defs.specs.WordScripts.{option_script, word_script, coded_script, raw_form, ones, due_script, signs_script, types_script, group_script}
use Rattle.plane_defs.specs.StageScripts.{Terms, above, is_due, dc_bit_script, parents_script, descendants_script, children_script}
use Rattle.plane_defs.specs.StageScripts.{is_childless, quads_script, grandchildren_script, refinement_script, stage_script}

-- a property that does not depend on what stages 1 to 3 change
pub record IsStable (t : Terms) (block : List ℤ) (P : State → Type 0) : Type 0 where
  pub options : (s : State) (o : ℕ → Option ℕ) → P s → P (with_options s o)
  pub families : (s : State) (f : ℕ → Bool) → P s → P (with_families s f)
  -- only positions whose types are due get a bit
  pub bits : (s : State) (new : ℕ → Bool) → new 0 ≡ false → ((q : ℕ) → new q ≡ true → type_due block t.weights t.plane q ≡ true) → P s →
      P (with_bits s new)
  pub minus : (s : State) (m : ℕ → Bool) → P s → P (with_minus s m)

ones_none : (ps : List ℕ) (bits : List Bool) → AllByRecursion (λ p. 1 ≤ p) ps → ones ps bits 0 ≡ false
ones_none [] bits all = refl
ones_none (p ∷ ps) [] all = refl
ones_none (p ∷ ps) (b ∷ bits) all =
    let le : 1 ≤ p = all.0 in
    let apart : (0 == p) ≡ false = grind (arith, nat_tests) in
    ap (λ x. (x && b) || ones ps bits 0) apart ∙ ones_none ps bits all.1

-- what is 1 is one of the places
ones_one : (P : ℕ → Type 0) (ps : List ℕ) (bits : List Bool) (q : ℕ) → AllByRecursion P ps → ones ps bits q ≡ true → P q
ones_one P [] bits q all e = absurd cc
ones_one P (p ∷ ps) [] q all e = absurd cc
ones_one P (p ∷ ps) (b ∷ bits) q all e = by (q == p) refl b e (ones_one P ps bits q all.1)
  where
    by : (x : Bool) → (q == p) ≡ x → (y : Bool) → ((x && y) || ones ps bits q) ≡ true → (ones ps bits q ≡ true → P q) → P q
    by true f y e later = let same : p ≡ q = grind (arith, nat_tests) in subst P same all.0
    by false f y e later = later e

chosen_due : (due : ℕ → Bool) (ps : List ℕ) → AllByRecursion (λ p. due p ≡ true) (filter due ps)
chosen_due due [] = tt
chosen_due due (p ∷ ps) = by (due p) refl (chosen_due due ps)
  where
    by : (x : Bool) → due p ≡ x → AllByRecursion (λ p. due p ≡ true) (filter due ps) →
        AllByRecursion (λ p. due p ≡ true) (if x then p ∷ filter due ps else filter due ps)
    by true e rest = (e, rest)
    by false e rest = rest

from_first : (start count : ℕ) → 1 ≤ start → AllByRecursion (λ p. 1 ≤ p) (span start count)
from_first start count le = all_span (λ p. 1 ≤ p) start count (λ k low high. omega (arith, le, low))

module _ (P : State → Type 0) where
  pub if_sent : (b : Bool) (r : Script State State) (s : State) → (b ≡ true → Yields P P r) → P s → Yields P P (if b then r else done s)
  if_sent true r s h k = h refl
  if_sent false r s h k = k

  module _ (t : Terms) (block : List ℤ) (c : IsStable t block P) where
    abbrev typed : ℕ → Bool
    typed = type_due block t.weights t.plane

    -- ---- words, types and signs

    option_yields : (count : ℕ) (s : State) (o : Option ℕ) → P s → Yields P P (option_script count s o)
    option_yields count s (Some x) k = k
    option_yields count s None k = (k, λ n said good. c.options s _ k)

    word_yields : (book : Book) (count : ℕ) (check : Check) (s : State) → P s → Yields P (λ w. P w.0) (word_script book count check s)
    word_yields book count check s k = by (count == 0) (count == 1)
      where
        by : (none one : Bool) → Yields P (λ w. P w.0) (if none then done (let w : State × ℕ = (s, 0) in w) else if one then ask s (raw_form check)
            (λ value. done (let w : State × ℕ = (s, value) in w)) else then_ask (option_script count s (s.options count)) (coded_script book count check))
        by true one = k
        by false true = (k, λ n said good. k)
        by false false = yields_then P P (λ w. P w.0) (option_script count s (s.options count)) (coded_script book count check) (option_yields count s
            (s.options count) k) (λ u h. (h, λ n said good. h))

    -- only due places are 1, and position 0 is not if it is not among the places
    abbrev Picks : (ℕ → Bool) → List ℕ → State × (ℕ → Bool) → Type 0
    Picks due places r = P r.0 × (AllByRecursion (λ p. 1 ≤ p) places → r.1 0 ≡ false) × ((q : ℕ) → r.1 q ≡ true → due q ≡ true)

    due_yields : (book : Book) (due : ℕ → Bool) (check : Check) (places : List ℕ) (s : State) → P s →
        Yields P (Picks due places) (due_script book due check places s)
    due_yields book due check places s k =
        let count = length (filter due places) in
        yields_then P (λ w. P w.0) (Picks due places) (word_script book count check s) _ (word_yields book count check s k)
        (λ w h. (
          h,
          λ all. ones_none (filter due places) (bits_of count w.1) (all_filter (λ p. 1 ≤ p) due places all),
          λ q e. ones_one (λ p. due p ≡ true) (filter due places) (bits_of count w.1) q (chosen_due due places) e,
        ))

    signs_yield : (ps : List ℕ) (s : State) → P s → Yields P P (signs_script ps s)
    signs_yield [] s k = k
    signs_yield (p ∷ ps) s k = (k, λ n said good. signs_yield ps (with_minus s (and_one s.minus p (n == 1))) (c.minus s (and_one s.minus p (n == 1)) k))

    types_yield : (wanted : Bool) (positions : List ℕ) (s : State) → AllByRecursion (λ p. 1 ≤ p) positions → P s →
        Yields P P (types_script t.book typed wanted positions s)
    types_yield wanted positions s all k =
        yields_then P (Picks typed positions) P (due_script t.book typed (some_one_where wanted) positions s) _
        (due_yields t.book typed (some_one_where wanted) positions s k)
        (λ r h. signs_yield (filter r.1 positions) (with_bits r.0 r.1) (c.bits r.0 r.1 (h.1 all) h.2 h.0))

    groups_yield : (first : ℕ) (sent wanted : ℕ → Bool) → 1 ≤ first → (n : ℕ) (s : State) → P s →
        Yields P P (in_turn (group_script t.book typed first sent wanted) 0 n s)
    groups_yield first sent wanted le n s k =
        yields_turn P (λ j. P) (group_script t.book typed first sent wanted) 0 n
        (λ j u low high h. if_sent (sent j) (types_script t.book typed (wanted j) (span (first + 4 * j) 4) u) u
        (λ e. types_yield (wanted j) (span (first + 4 * j) 4) u (from_first (first + 4 * j) 4 (omega (arith, le))) h) h)
        s k

    -- ---- stages 2 and 3

    flag_yields : (b was : Bool) (s : State) → P s → Yields P (λ (a : Bool). P s) (let none : Script State Bool = done was in
        if b then ask_bit s (λ a. done a) else none)
    flag_yields true was s k = (k, λ n said good. k)
    flag_yields false was s k = k

    children_yield : (s : State) → P s → Yields P P (children_script t block s)
    children_yield s k =
        yields_then P (λ (a : Bool). P s) P (descendants_script t block s) _ (flag_yields (not
        (above t block Descendants) && live t.weights t.plane Descendants) (above t block Descendants) s k)
        (λ all h.
        yields_then P (Picks (λ i. is_due t block (Family i) all) (span 0 3)) P
        (due_script t.book (λ i. is_due t block (Family i) all) (some_one_where (all && not (above t block Descendants)))
        (span 0 3) s) _
        (due_yields t.book (λ i. is_due t block (Family i) all) (some_one_where (all && not (above t block Descendants))) (span 0 3) s h)
        (λ r d.
        let families : ℕ → Bool = λ i. above t block (Family i) || r.1 i in
        let wanted : ℕ → Bool = λ i. r.1 i && not (live t.weights t.plane (Grandchildren i)) in
        yields_then P P P (in_turn (group_script t.book (type_due block t.weights t.plane) 4 families wanted) 0 3 r.0) _
        (groups_yield 4 families wanted (omega arith) 3 r.0 d.0)
        (λ u z. c.families u families z)))

    quads_yield : (i : ℕ) (is_new : Bool) (s : State) → P s → Yields P P (quads_script t block i is_new s)
    quads_yield i is_new s k =
        yields_then P (Picks (λ j. is_due t block (Quad i j) true) (span 0 4)) P
        (due_script t.book (λ j. is_due t block (Quad i j) true) (some_one_where is_new) (span 0 4) s) _
        (due_yields t.book (λ j. is_due t block (Quad i j) true) (some_one_where is_new) (span 0 4) s k)
        (λ r d. groups_yield (quad_of i 0) (λ j. above t block (Quad i j) || r.1 j) r.1 (omega arith) 4 r.0 d.0)

    grandchildren_yield : (s : State) → P s → Yields P P (grandchildren_script t block s)
    grandchildren_yield s k =
        let due : ℕ → Bool = λ i. is_due t block (Grandchildren i) (s.families i) in
        let check = ones_at (map (is_childless t block s) (filter due (span 0 3))) in
        yields_then P (Picks due (span 0 3)) P (due_script t.book due check (span 0 3) s) _ (due_yields t.book due check (span 0 3) s k)
        (λ r d.
        yields_turn P (λ i. P) (λ i u. if above t block (Grandchildren i) || r.1 i then quads_script t block i (r.1 i) u else done u) 0 3
        (λ i u low high h. if_sent (above t block (Grandchildren i) || r.1 i) (quads_script t block i (r.1 i) u) u
        (λ e. quads_yield i (r.1 i) u h) h) r.0 d.0)

-- a stage after the first, if stage 4 keeps it too; a block that is not as deep as the plane sends nothing
pub stage_yields : (P : State → Type 0) (t : Terms) (block : List ℤ) (stage depth : ℕ) → 1 ≤ stage → (nat_lt t.plane depth ≡ true → IsStable t block P) →
    (s : State) → P s →
    ((stage == 1) ≡ false → (stage == 2) ≡ false → (stage == 3) ≡ false → nat_lt t.plane depth ≡ true → Yields P P (refinement_script t block s)) →
    Yields P P (stage_script t stage depth block s)
stage_yields P t block stage depth some c s k fine =
    let later : (stage == 0) ≡ false = grind (arith, nat_tests) in
    subst (λ b. Yields P P (if b then dc_bit_script t s else rest (nat_lt t.plane depth) (stage == 1) (stage == 2) (stage == 3))) (sym later)
    (by (nat_lt t.plane depth) refl (stage == 1) refl (stage == 2) refl (stage == 3) refl)
  where
    rest : (deep one two three : Bool) → Script State State
    rest deep one two three =
        if not deep then done s else if one then parents_script t block s else if two then children_script t block s else
        if three then grandchildren_script t block s else refinement_script t block s

    by : (deep : Bool) → nat_lt t.plane depth ≡ deep → (one : Bool) → (stage == 1) ≡ one → (two : Bool) → (stage == 2) ≡ two →
        (three : Bool) → (stage == 3) ≡ three → Yields P P (rest deep one two three)
    by false d one a two b three e = k
    by true d true a two b three e = types_yield P t block (c d) false (span 1 3) s (from_first 1 3 (omega arith)) k
    by true d false a true b three e = children_yield P t block (c d) s k
    by true d false a false b true e = grandchildren_yield P t block (c d) s k
    by true d false a false b false e = fine a b e d
