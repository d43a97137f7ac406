-- What the stages after the first keep of a block: the DC's bit, and that only numbers with the plane's bit got signs.
use Rattle.std.proofs.Common.{◌≡◌, ◌⊎◌, ℕ, zero, suc, ◌+◌, ◌*◌, ◌/◌, ◌≤◌, ◌==◌, ◌&&◌, ◌||◌, not, nat_lt, Bool, true, false, if◌then◌else◌, List, [], ◌∷◌}
use Rattle.std.proofs.Common.{map, filter, length, refl, ap, sym, ◌∙◌, subst, arith, ℤ, inl, inr, Option, Some, None, get_or}
use Rattle.std.specs.List.{AllByRecursion}
use Rattle.std.proofs.lemmas.Bool.Decides.{nat_tests}
use Rattle.std.proofs.lemmas.Bool.{cases_eq}
use Rattle.std.proofs.Math.Bool.{or-false}
use Rattle.item_defs.specs.Bits.{bits_of}
use Rattle.base_122.specs.declared.book.Book.{Book}
use Rattle.plane_defs.specs.declared.sets.Set.TheVariants.{Descendants, Family, Grandchildren, Quad}
use Rattle.plane_defs.specs.Spans.{span}
use Rattle.plane_defs.specs.Sets.{coded, live, type_due, refined, quad_of}
use Rattle.plane_defs.specs.Steps.{Check, ones_at, some_one_where}
use Rattle.plane_defs.proofs.Above.{all_span}
use Rattle.plane_defs.proofs.Alike.{all_filter}
use Rattle.item_defs.specs.Scripts.{Script, done, in_turn, around}
use Rattle.plane_defs.specs.States.{State, with_options, with_bits, with_raw, with_minus, with_families, and_one}
use Rattle.plane_defs.specs.WordScripts.{option_script, word_script, coded_script, raw_form, ones, due_script, signs_script, types_script, group_script}
use Rattle.plane_defs.specs.StageScripts.{Terms, above, is_due, bit_script, dc_bit_script, parents_script, descendants_script, children_script}
use Rattle.plane_defs.specs.StageScripts.{is_childless, quads_script, grandchildren_script, refinement_script, stage_script}
use Rattle.plane_defs.specs.PlaneScript.{PlaneState, of_block, with_block, blocks_script, plane_script}
use Rattle.item_defs.specs.Scripts.{ask, ask_bit, then_ask}
use Rattle.plane_reader.proofs.ScriptKeeps.{Keeps, keeps_then, keeps_turn, keeps_around}

-- a property that does not depend on what the stages after the first change
pub record IsStable (P : State → Type 0) : Type 0 where
  pub options : (s : State) (o : ℕ → Option ℕ) → P s → P (with_options s o)
  pub families : (s : State) (f : ℕ → Bool) → P s → P (with_families s f)
  pub bits : (s : State) (new : ℕ → Bool) → new 0 ≡ false → P s → P (with_bits s new)
  pub raw : (s : State) (p : ℕ) → 1 ≤ p → P s → P (with_raw s p)
  pub sign : (s : State) (p : ℕ) (b : Bool) → s.bits p ≡ true → P s → P (with_minus s (and_one s.minus p b))

-- ---- two of them

pub dc_stable : (x : Bool) → IsStable (λ s. s.bits 0 ≡ x)
dc_stable x = record {
  options = λ s o k. k;
  families = λ s f k. k;
  bits = λ s new none k. ap (λ b. s.bits 0 || b) none ∙ or-false (s.bits 0) ∙ k;
  raw = λ s p le k. k;
  sign = λ s p b has k. k;
}

-- only numbers with the plane's bit got signs
abbrev pub IsSigned : State → Type 0
IsSigned s = (q : ℕ) → s.minus q ≡ true → s.bits q ≡ true

-- the bit of the DC is a raw bit, if it is 1, and is given only if it is due
pub record IsGiven (wanted : Bool) (s : State) : Type 0 where
  pub raw : s.bits 0 ≡ true → s.raw 0 ≡ true
  pub due : s.raw 0 ≡ true → wanted ≡ true

pub given_stable : (wanted : Bool) → IsStable (IsGiven wanted)
given_stable wanted = record {
  options = λ s o k. record { raw = k.raw; due = k.due };
  families = λ s f k. record { raw = k.raw; due = k.due };
  bits = λ s new none k. record { raw = λ e. k.raw (sym (ap (λ b. s.bits 0 || b) none ∙ or-false (s.bits 0)) ∙ e); due = k.due };
  raw = λ s p le k.
      let apart : (0 == p) ≡ false = grind (arith, nat_tests) in
      let same : (s.raw 0 || (0 == p)) ≡ s.raw 0 = ap (λ b. s.raw 0 || b) apart ∙ or-false (s.raw 0) in
      record { raw = λ e. same ∙ k.raw e; due = λ e. k.due (sym same ∙ e) };
  sign = λ s p b has k. record { raw = k.raw; due = k.due };
}

either : (a b : Bool) → (a || b) ≡ true → (a ≡ true) ⊎ (b ≡ true)
either true b e = inl refl
either false b e = inr e

first_of_both : (a b : Bool) → (a && b) ≡ true → a ≡ true
first_of_both true b e = refl
first_of_both false b e = e

pub signed_stable : IsStable IsSigned
signed_stable = record {
  options = λ s o k. k;
  families = λ s f k. k;
  bits = λ s new none k q m. ap (λ b. b || new q) (k q m);
  raw = λ s p le k. k;
  sign = λ s p b has k q m. elim (either (s.minus q) ((q == p) && b) m) [
    | inl e ↦ k q e
    | inr e ↦
        let f : (q == p) ≡ true = first_of_both (q == p) b e in
        let same : p ≡ q = grind (arith, nat_tests) in
        subst (λ n. s.bits n ≡ true) same has
  ];
}

-- ---- places

ones_none : (ps : List ℕ) (bits : List Bool) → AllByRecursion (λ p. 1 ≤ p) ps → ones ps bits 0 ≡ false
ones_none [] bits all = refl
ones_none (p ∷ ps) [] all = refl
ones_none (p ∷ ps) (b ∷ bits) all =
    let le : 1 ≤ p = all.0 in
    let apart : (0 == p) ≡ false = grind (arith, nat_tests) in
    ap (λ x. (x && b) || ones ps bits 0) apart ∙ ones_none ps bits all.1

or_right : (a b : Bool) → b ≡ true → (a || b) ≡ true
or_right true b e = refl
or_right false b e = e

-- those that are picked have the bit
picked : (g f : ℕ → Bool) (ps : List ℕ) → AllByRecursion (λ p. (g p || f p) ≡ true) (filter f ps)
picked g f [] = tt
picked g f (p ∷ ps) = by (f p) refl (picked g f ps)
  where
    by : (b : Bool) → f p ≡ b → AllByRecursion (λ p. (g p || f p) ≡ true) (filter f ps) → AllByRecursion (λ p. (g p || f p) ≡ true)
        (if b then p ∷ filter f ps else filter f ps)
    by true e rest = (or_right (g p) (f p) e, rest)
    by false e rest = rest

from_first : (start count : ℕ) → 1 ≤ start → AllByRecursion (λ p. 1 ≤ p) (span start count)
from_first start count le = all_span (λ p. 1 ≤ p) start count (λ k low high. omega (arith, le, low))

module _ (P : State → Type 0) (c : IsStable P) where
  -- ---- words, types and signs

  option_keeps : (count : ℕ) (s : State) (o : Option ℕ) → P s → Keeps P P (option_script count s o)
  option_keeps count s (Some x) k = k
  option_keeps count s None k = (k, λ n. c.options s _ k)

  word_keeps : (book : Book) (count : ℕ) (check : Check) (s : State) → P s → Keeps P (λ w. P w.0) (word_script book count check s)
  word_keeps book count check s k = by (count == 0) (count == 1)
    where
      by : (none one : Bool) → Keeps P (λ w. P w.0) (if none then done (let w : State × ℕ = (s, 0) in w) else if one then ask s (raw_form check)
          (λ value. done (let w : State × ℕ = (s, value) in w)) else then_ask (option_script count s (s.options count)) (coded_script book count check))
      by true one = k
      by false true = (k, λ n. k)
      by false false = keeps_then P P (λ w. P w.0) (option_script count s (s.options count)) (coded_script book count check) (option_keeps count s
          (s.options count) k) (λ u h. (h, λ n. h))

  -- no place that is 0 is 1 if there is none
  abbrev Picks : List ℕ → State × (ℕ → Bool) → Type 0
  Picks places r = P r.0 × (AllByRecursion (λ p. 1 ≤ p) places → r.1 0 ≡ false)

  due_keeps : (book : Book) (due : ℕ → Bool) (check : Check) (places : List ℕ) (s : State) → P s → Keeps P (Picks places) (due_script book due check places s)
  due_keeps book due check places s k =
      let count = length (filter due places) in
      keeps_then P (λ w. P w.0) (Picks places) (word_script book count check s) _ (word_keeps book count check s k)
      (λ w h. (h, λ all. ones_none (filter due places) (bits_of count w.1) (all_filter (λ p. 1 ≤ p) due places all)))

  signs_keep : (ps : List ℕ) (s : State) → AllByRecursion (λ p. s.bits p ≡ true) ps → P s → Keeps P P (signs_script ps s)
  signs_keep [] s all k = k
  signs_keep (p ∷ ps) s all k = (k, λ n. signs_keep ps (with_minus s (and_one s.minus p (n == 1))) all.1 (c.sign s p (n == 1) all.0 k))

  types_keep : (book : Book) (due : ℕ → Bool) (wanted : Bool) (positions : List ℕ) (s : State) → AllByRecursion (λ p. 1 ≤ p) positions → P s →
      Keeps P P (types_script book due wanted positions s)
  types_keep book due wanted positions s all k =
      keeps_then P (Picks positions) P (due_script book due (some_one_where wanted) positions s) _ (due_keeps book due (some_one_where wanted) positions s k)
      (λ r h. signs_keep (filter r.1 positions) (with_bits r.0 r.1) (picked r.0.bits r.1 positions) (c.bits r.0 r.1 (h.1 all) h.0))

  sent_keeps : (b : Bool) (r : Script State State) (s : State) → Keeps P P r → P s → Keeps P P (if b then r else done s)
  sent_keeps true r s h k = h
  sent_keeps false r s h k = k

  groups_keep : (book : Book) (due : ℕ → Bool) (first : ℕ) (sent wanted : ℕ → Bool) → 1 ≤ first → (n : ℕ) (s : State) → P s →
      Keeps P P (in_turn (group_script book due first sent wanted) 0 n s)
  groups_keep book due first sent wanted le n s k =
      keeps_turn P (group_script book due first sent wanted) 0
      (λ j u low h. sent_keeps (sent j) (types_script book due (wanted j) (span (first + 4 * j) 4) u) u (types_keep book due (wanted j) (span
      (first + 4 * j) 4) u (from_first (first + 4 * j) 4 (omega (arith, le))) h) h)
      n 0 s (omega arith) k

  bit_keeps : (p : ℕ) (s : State) → 1 ≤ p → P s → Keeps P P (bit_script p s)
  bit_keeps p s le k =
      let apart : (0 == p) ≡ false = grind (arith, nat_tests) in (
        k,
        λ n. c.raw (with_bits s (and_one (λ q. false) p (n == 1))) p le (c.bits s (and_one (λ q. false) p (n == 1)) (ap (λ x. false || (x && (n == 1))) apart)
            k),
      )

  -- ---- stages 1 to 4

  module _ (t : Terms) (block : List ℤ) where
    flag_keeps : (b was : Bool) (s : State) → P s → Keeps P (λ (a : Bool). P s) (let none : Script State Bool = done was in
        if b then ask_bit s (λ a. done a) else none)
    flag_keeps true was s k = (k, λ n. k)
    flag_keeps false was s k = k

    children_keep : (s : State) → P s → Keeps P P (children_script t block s)
    children_keep s k =
        keeps_then P (λ (a : Bool). P s) P (descendants_script t block s) _ (flag_keeps (not
        (above t block Descendants) && live t.weights t.plane Descendants) (above t block Descendants) s k)
        (λ all h.
        keeps_then P (Picks (span 0 3)) P (due_script t.book (λ i. is_due t block (Family i) all) (some_one_where (all && not (above t block Descendants)))
        (span 0 3) s) _
        (due_keeps t.book (λ i. is_due t block (Family i) all) (some_one_where (all && not (above t block Descendants))) (span 0 3) s h)
        (λ r d.
        let families : ℕ → Bool = λ i. above t block (Family i) || r.1 i in
        let wanted : ℕ → Bool = λ i. r.1 i && not (live t.weights t.plane (Grandchildren i)) in
        keeps_then P P P (in_turn (group_script t.book (type_due block t.weights t.plane) 4 families wanted) 0 3 r.0) _
        (groups_keep t.book (type_due block t.weights t.plane) 4 families wanted (omega arith) 3 r.0 d.0)
        (λ u z. c.families u families z)))

    quads_keep : (i : ℕ) (is_new : Bool) (s : State) → P s → Keeps P P (quads_script t block i is_new s)
    quads_keep i is_new s k =
        keeps_then P (Picks (span 0 4)) P (due_script t.book (λ j. is_due t block (Quad i j) true) (some_one_where is_new) (span 0 4) s) _
        (due_keeps t.book (λ j. is_due t block (Quad i j) true) (some_one_where is_new) (span 0 4) s k)
        (λ r d. groups_keep t.book (type_due block t.weights t.plane) (quad_of i 0) (λ j. above t block (Quad i j) || r.1 j) r.1 (omega arith) 4 r.0 d.0)

    grandchildren_keep : (s : State) → P s → Keeps P P (grandchildren_script t block s)
    grandchildren_keep s k =
        let due : ℕ → Bool = λ i. is_due t block (Grandchildren i) (s.families i) in
        let check = ones_at (map (is_childless t block s) (filter due (span 0 3))) in
        keeps_then P (Picks (span 0 3)) P (due_script t.book due check (span 0 3) s) _ (due_keeps t.book due check (span 0 3) s k)
        (λ r d.
        keeps_turn P (λ i u. if above t block (Grandchildren i) || r.1 i then quads_script t block i (r.1 i) u else done u) 0
        (λ i u low h. sent_keeps (above t block (Grandchildren i) || r.1 i) (quads_script t block i (r.1 i) u) u (quads_keep i (r.1 i) u h) h) 3 0 r.0
        (omega arith) d.0)

    refinement_keeps : (s : State) → P s → Keeps P P (refinement_script t block s)
    refinement_keeps s k =
        keeps_turn P (λ p u. if refined block t.weights t.plane p then bit_script p u else done u) 1
        (λ p u low h. sent_keeps (refined block t.weights t.plane p) (bit_script p u) u (bit_keeps p u low h) h) 63 1 s (omega arith) k

    pub stage_keeps : (stage depth : ℕ) → 1 ≤ stage → (s : State) → P s → Keeps P P (stage_script t stage depth block s)
    stage_keeps stage depth some s k =
        let later : (stage == 0) ≡ false = grind (arith, nat_tests) in
        subst (λ b. Keeps P P (if b then dc_bit_script t s else rest (not (nat_lt t.plane depth)) (stage == 1) (stage == 2) (stage == 3))) (sym later)
        (by (not (nat_lt t.plane depth)) (stage == 1) (stage == 2) (stage == 3))
      where
        rest : (none one two three : Bool) → Script State State
        rest none one two three =
            if none then done s else if one then parents_script t block s else if two then children_script t block s else
            if three then grandchildren_script t block s else refinement_script t block s

        by : (none one two three : Bool) → Keeps P P (rest none one two three)
        by true one two three = k
        by false true two three = types_keep t.book (type_due block t.weights t.plane) false (span 1 3) s (from_first 1 3 (omega arith)) k
        by false false true three = children_keep s k
        by false false false true = grandchildren_keep s k
        by false false false false = refinement_keeps s k

-- ---- blocks

-- the states of blocks have these properties
abbrev pub All : (ℕ → State → Type 0) → PlaneState → Type 0
All P p = (r : ℕ) → P r (p.blocks r)

pub all_put : (P : ℕ → State → Type 0) (p : PlaneState) (r : ℕ) (b : State) → P r b → All P p → All P (with_block p r b)
all_put P p r b here all i = elim (cases_eq i r) [
  | inl e ↦ let t : (i == r) ≡ true = grind (arith, nat_tests) in subst (λ z. P i (if z then b else p.blocks i)) (sym t) (subst (λ n. P n b) (sym e) here)
  | inr apart ↦ let t : (i == r) ≡ false = grind (arith, nat_tests) in subst (λ z. P i (if z then b else p.blocks i)) (sym t) (all i)
]

module _ (P : ℕ → State → Type 0) (c : (r : ℕ) → IsStable (P r)) (t : Terms) (depths : List ℕ) (numbers : List (List ℤ)) where
  block_keeps : (stage : ℕ) → (each : (r depth : ℕ) (block : List ℤ) (s : State) → P r s → Keeps (P r) (P r) (stage_script t stage depth block s)) →
      (r : ℕ) (p : PlaneState) → All P p →
      Keeps (All P) (All P) (around (with_block p r) (stage_script t stage (get_or depths r 0) (get_or numbers r []) (of_block p r)))
  block_keeps stage each r p all =
      keeps_around (P r) (All P) (with_block p r) (λ s h. all_put P p r s h all) (stage_script t stage (get_or depths r 0) (get_or numbers r []) (of_block p r))
      (each r (get_or depths r 0) (get_or numbers r []) (of_block p r) ((c r).options (p.blocks r) (p.options (r / 16)) (all r)))

  blocks_keep : (stage : ℕ) → (each : (r depth : ℕ) (block : List ℤ) (s : State) → P r s → Keeps (P r) (P r) (stage_script t stage depth block s)) →
      (p : PlaneState) → All P p →
      Keeps (All P) (All P) (blocks_script t depths numbers stage p)
  blocks_keep stage each p all =
      keeps_turn (All P) (λ r s. around (with_block s r) (stage_script t stage (get_or depths r 0) (get_or numbers r []) (of_block s r))) 0
      (λ r s low h. block_keeps stage each r s h) (length depths) 0 p (omega arith) all

  pub later_keeps : (stage : ℕ) → 1 ≤ stage → (p : PlaneState) → All P p → Keeps (All P) (All P) (blocks_script t depths numbers stage p)
  later_keeps stage some p all = blocks_keep stage (λ r depth block s h. stage_keeps (P r) (c r) t block stage depth some s h) p all

-- ---- signs in a plane

module _ (t : Terms) (depths : List ℕ) (numbers : List (List ℤ)) where
  dc_signed : (b : Bool) (s : State) → IsSigned s → Keeps IsSigned IsSigned (if b then bit_script 0 s else done s)
  dc_signed true s k = (k, λ n q m. ap (λ b. b || and_one (λ q. false) 0 (n == 1) q) (k q m))
  dc_signed false s k = k

  stage_signed : (stage depth : ℕ) (block : List ℤ) (s : State) → IsSigned s → Keeps IsSigned IsSigned (stage_script t stage depth block s)
  stage_signed zero depth block s k = dc_signed (coded t.weights t.plane 0 && nat_lt t.plane t.q) s k
  stage_signed (suc n) depth block s k = stage_keeps IsSigned signed_stable t block (suc n) depth (omega arith) s k

  pub plane_signed : (stages : ℕ) → Keeps (All (λ r. IsSigned)) (All (λ r. IsSigned)) (plane_script t depths numbers stages)
  plane_signed stages =
      keeps_turn (All (λ r. IsSigned)) (blocks_script t depths numbers) 0
      (λ stage p low h. blocks_keep (λ r. IsSigned) (λ r. signed_stable) t depths numbers stage (λ r depth block s k. stage_signed stage depth block s k) p h)
      stages 0 _ (omega arith) (λ r q e. absurd (no e))
    where
      no : false ≡ true → ⊥
      no e = grind (arith, nat_tests)

-- ---- the DC's bit in a plane

module _ (t : Terms) (depths : List ℕ) (numbers : List (List ℤ)) where
  abbrev pub is_dc_due : Bool
  is_dc_due = coded t.weights t.plane 0 && nat_lt t.plane t.q

  dc_given : (b : Bool) (s : State) → is_dc_due ≡ b → IsGiven is_dc_due s → Keeps (IsGiven is_dc_due) (IsGiven is_dc_due)
      (if b then bit_script 0 s else done s)
  dc_given true s e k = (k, λ n. record { raw = λ f. or_right (s.raw 0) true refl; due = λ f. e })
  dc_given false s e k = k

  stage_given : (stage depth : ℕ) (block : List ℤ) (s : State) → IsGiven is_dc_due s → Keeps (IsGiven is_dc_due) (IsGiven is_dc_due)
      (stage_script t stage depth block s)
  stage_given zero depth block s k = dc_given (coded t.weights t.plane 0 && nat_lt t.plane t.q) s refl k
  stage_given (suc n) depth block s k = stage_keeps (IsGiven is_dc_due) (given_stable is_dc_due) t block (suc n) depth (omega arith) s k

  pub plane_given : (stages : ℕ) → Keeps (All (λ r. IsGiven is_dc_due)) (All (λ r. IsGiven is_dc_due)) (plane_script t depths numbers stages)
  plane_given stages =
      keeps_turn (All (λ r. IsGiven is_dc_due)) (blocks_script t depths numbers) 0
      (λ stage p low h. blocks_keep (λ r. IsGiven is_dc_due) (λ r. given_stable is_dc_due) t depths numbers stage
      (λ r depth block s k. stage_given stage depth block s k) p h)
      stages 0 _ (omega arith) (λ r. record { raw = λ e. absurd (no e); due = λ e. absurd (no e) })
    where
      no : false ≡ true → ⊥
      no e = grind (arith, nat_tests)
