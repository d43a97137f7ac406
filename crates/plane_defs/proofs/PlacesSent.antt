-- The items of types, flags and groups, place after place, follow their scripts.
use Rattle.std.proofs.Common.{◌≡◌, ℕ, zero, suc, ◌+◌, ◌≤◌, ◌<◌, ◌==◌, ◌&&◌, ◌||◌, not, nat_lt, nat_le, Bool, true, false, if◌then◌else◌, List, [], ◌∷◌}
use Rattle.std.proofs.Common.{◌++◌, length, map, filter, refl, ap, sym, ◌∙◌, arith, ℤ, pos}
use Rattle.std.proofs.lemmas.Bool.Decides.{nat_tests}
use Rattle.std.proofs.Math.Bool.{or-false}
use lib.ListN.{get_or}
use Rattle.item_defs.specs.Bits.{bit}
use Rattle.plane_defs.specs.declared.entries.Entry.{Entry}
use Rattle.plane_defs.specs.declared.sets.Set.{Set}
use Rattle.plane_defs.specs.Spans.{span}
use Rattle.plane_defs.specs.Sets.{magnitude, significant, coded, live, set_significant, enclosing_significant, type_due, flag_due, newly_significant}
use Rattle.plane_defs.specs.Sets.{refined, members, IsKnown}
use Rattle.plane_defs.specs.Entries.{negative}
use Rattle.plane_defs.specs.Steps.{is_new, some_one_where, typed_steps}
use Rattle.plane_defs.specs.StepLaws.{IsAc, SameAc}
use Rattle.plane_defs.specs.Laws.{IsMultiple}
use Rattle.plane_defs.proofs.Equations.{span-none, span-more, set_significant-is, type_due-is, flag_due-is, newly_significant-is, refined-is, is_new-is}
use Rattle.plane_defs.proofs.Determined.{undue}
use Rattle.plane_defs.proofs.Alike.{filter_same}
use Rattle.plane_defs.proofs.Above.{any_alike, members_acs, all_acs, all_zip}
use Rattle.item_defs.proofs.Writing.{writes_weaker}
use Rattle.plane_defs.specs.Written.{has, Knows, AreChosen, WroteTypes}
use Rattle.plane_defs.specs.States.{State}
use Rattle.plane_defs.specs.WordScripts.{types_script}
use Rattle.plane_defs.specs.StageScripts.{Terms, above, is_due}
use Rattle.plane_defs.proofs.WordGoes.{due_few, both}
use Rattle.plane_defs.proofs.TypesWritten.{has_filter, types_written}
use Rattle.plane_defs.proofs.Sending.{Sends}

-- ---- places of spans

has_append : (xs ys : List ℕ) (q : ℕ) → has (xs ++ ys) q ≡ (has xs q || has ys q)
has_append [] ys q = refl
has_append (x ∷ xs) ys q = ap (λ b. (q == x) || b) (has_append xs ys q) ∙ or_assoc (q == x) (has xs q) (has ys q)
  where
    or_assoc : (a b c : Bool) → (a || (b || c)) ≡ ((a || b) || c)
    or_assoc a b c = grind (arith, nat_tests)

pub has_span : (a n q : ℕ) → has (span a n) q ≡ (nat_le a q && nat_lt q (a + n))
has_span a zero q = ap (λ l. has l q) (span-none a) ∙ none
  where
    none : false ≡ (nat_le a q && nat_lt q (a + 0))
    none = grind (arith, nat_tests)
has_span a (suc n) q = ap (λ l. has l q) (span-more a n) ∙ has_append (span a n) ((a + n) ∷ []) q ∙
    ap (λ b. b || ((q == a + n) || false)) (has_span a n q) ∙ last
  where
    last : ((nat_le a q && nat_lt q (a + n)) || ((q == a + n) || false)) ≡ (nat_le a q && nat_lt q (a + suc n))
    last = grind (arith, nat_tests)

pub in_span : (a c q : ℕ) → has (span a c) q ≡ true → (a ≤ q) × (q < a + c)
in_span a c q e =
    let w = both (nat_le a q) (nat_lt q (a + c)) (sym (has_span a c q) ∙ e) in
    (low (nat_le a q) refl w.0, high w.1)
  where
    low : (x : Bool) → nat_le a q ≡ x → x ≡ true → a ≤ q
    low x e f = grind (arith, nat_tests)

    high : nat_lt q (a + c) ≡ true → q < a + c
    high f = grind (arith, nat_tests)

pub due_here : (due : ℕ → Bool) (n i : ℕ) → i < n → due i ≡ true → has (filter due (span 0 n)) i ≡ true
due_here due n i lt e = has_filter due (span 0 n) i ∙ ap (λ x. x && due i) (has_span 0 n i ∙ inside) ∙ e
  where
    inside : (nat_le 0 i && nat_lt i (0 + n)) ≡ true
    inside = grind (arith, nat_tests)

pub here_due : (due : ℕ → Bool) (n i : ℕ) → has (filter due (span 0 n)) i ≡ true → (i < n) × (due i ≡ true)
here_due due n i e = let w = both (has (span 0 n) i) (due i) (sym (has_filter due (span 0 n) i) ∙ e) in
    (let k = (in_span 0 n i w.0).1 in omega (arith, k), w.1)

pub map_filter_map : {A : Type 0} (g : Set → A) (d : Set → Bool) (S : ℕ → Set) (ps : List ℕ) →
    map g (filter d (map S ps)) ≡ map (λ i. g (S i)) (filter (λ i. d (S i)) ps)
map_filter_map g d S [] = refl
map_filter_map {A} g d S (p ∷ ps) = by (d (S p)) (map_filter_map g d S ps)
  where
    by : (b : Bool) → map g (filter d (map S ps)) ≡ map (λ i. g (S i)) (filter (λ i. d (S i)) ps) →
        map g (if b then S p ∷ filter d (map S ps) else filter d (map S ps)) ≡
        map (λ i. g (S i)) (if b then p ∷ filter (λ i. d (S i)) ps else filter (λ i. d (S i)) ps)
    by b h1 = grind (arith, nat_tests)

-- ---- truth values

-- a set that has no flag is significant exactly if it was
all_cases : (a l e x : Bool) → ((not a && l && e) ≡ false → x ≡ a) → (a || ((not a && l && e) && x)) ≡ x
all_cases a l e x h1 = grind (arith, nat_tests)

new_cases : (a l e x : Bool) → ((not a && l && e) ≡ false → x ≡ a) → ((not a && l && e) && x) ≡ (x && not a)
new_cases a l e x h1 = grind (arith, nat_tests)

due_cases : (a b l e x : Bool) → a ≡ b → x ≡ e → (x && (not a && l)) ≡ (not b && l && e)
due_cases a b l e x h1 h2 = grind (arith, nat_tests)

-- the bits of the places before, and of these
bits_cases : (x h y d s r : Bool) → y ≡ (x || h) → (((x && (d && s)) || r) || ((h && d) && s)) ≡ ((y && (d && s)) || r)
bits_cases x h y d s r h1 = grind (arith, nat_tests)

signs_cases : (x h y n g : Bool) → y ≡ (x || h) → ((x && (n && g)) || ((h && n) && g)) ≡ (y && (n && g))
signs_cases x h y n g h1 = grind (arith, nat_tests)

-- What was read of a block in a plane, if some values are written: the types and signs of the places below n, the refinement of those
-- below m, these families, and this bit of the DC.
pub record At (o : List ℕ) (v : List ℤ) (weights : List ℕ) (plane : ℕ) (n m : ℕ) (families : ℕ → Bool) (dc : Bool) (before : List Entry)
    (s : State) : Type 0 where
  pub knows : Knows o before s.options
  pub bits : (q : ℕ) → IsAc q → s.bits q ≡
      ((nat_lt q n && newly_significant v weights plane q) || (nat_lt q m && (refined v weights plane q && bit (magnitude v q) plane)))
  pub minus : (q : ℕ) → IsAc q → s.minus q ≡ (nat_lt q n && (newly_significant v weights plane q && negative (get_or v q (pos 0))))
  pub enclosing : (i : ℕ) → i < 3 → s.families i ≡ families i
  pub low : s.bits 0 ≡ dc

module _ (o : List ℕ) (chosen : AreChosen o) (t : Terms) (block v : List ℤ) (same : SameAc block v (t.plane + 1)) (whole : IsMultiple v t.weights) where
  abbrev pub W : List ℕ
  W = t.weights

  abbrev pub b : ℕ
  b = t.plane

  abbrev pub Reads : (n m : ℕ) → (ℕ → Bool) → Bool → List Entry → State → Type 0
  Reads = At o v W b

  -- ---- what is due

  pub above_is : (s : Set) → IsKnown s → above t block s ≡ set_significant v (b + 1) s
  above_is s known = set_significant-is block (b + 1) s ∙
      any_alike (significant block (b + 1)) (significant v (b + 1)) (members s) (members_acs s known) same ∙ sym (set_significant-is v (b + 1) s)

  pub type_is : (p : ℕ) → IsAc p → type_due block W b p ≡ type_due v W b p
  type_is p ac = type_due-is block W b p ∙ ap (λ a. not a && coded W b p) (same p ac) ∙ sym (type_due-is v W b p)

  pub refined_is : (p : ℕ) → IsAc p → refined block W b p ≡ refined v W b p
  refined_is p ac = refined-is block W b p ∙ ap (λ a. a && coded W b p) (same p ac) ∙ sym (refined-is v W b p)

  pub due_is : (s : Set) (enclosing : Bool) → IsKnown s → enclosing ≡ enclosing_significant v b s → is_due t block s enclosing ≡ flag_due v W b s
  due_is s enclosing known e = grind (arith, nat_tests, enclosing, due_cases, above_is, flag_due-is)

  settled : (s : Set) → IsKnown s →
      (not (set_significant v (b + 1) s) && live W b s && enclosing_significant v b s) ≡ false → set_significant v b s ≡ set_significant v (b + 1) s
  settled s known e = undue v W b s known whole (flag_due-is v W b s ∙ e)

  pub flag_all : (s : Set) → IsKnown s → (set_significant v (b + 1) s || (flag_due v W b s && set_significant v b s)) ≡ set_significant v b s
  flag_all s known = grind (arith, nat_tests, flag_due-is, all_cases, settled)

  pub flag_new : (s : Set) → IsKnown s → (flag_due v W b s && set_significant v b s) ≡ is_new v b s
  flag_new s known = grind (arith, nat_tests, flag_due-is, new_cases, settled, is_new-is)

  -- ---- types

  pub types_sent : (a c m : ℕ) (families : ℕ → Bool) (dc : Bool) → 1 ≤ a → c ≤ 4 → a + c ≤ 64 → length (span a c) ≤ 4 → (wanted : Bool)
      (before : List Entry) (s : State) → Reads a m families dc before s →
      Sends t.book o (types_script t.book (type_due block W b) wanted (span a c) s) before (typed_steps v W b (some_one_where wanted) (span a c))
      (Reads (a + c) m families dc)
  types_sent a c m families dc low few high short wanted before s r =
      let ps = span a c in
      let fits : length (filter (type_due block W b) ps) ≤ 4 = let f = due_few (type_due block W b) ps in omega (arith, f, short) in
      let due : filter (type_due block W b) ps ≡ filter (type_due v W b) ps =
      filter_same (type_due block W b) (type_due v W b) ps (all_zip {P = IsAc} ps type_is (all_acs a c low high)) in
      writes_weaker (WroteTypes o before v W b wanted ps s) _ (types_script t.book (type_due block W b) wanted ps s) _
      (λ u w. record {
        knows = w.knows;
        bits = λ q ac. w.bits q ∙ ap (λ x. x || (has (filter (type_due v W b) ps) q && significant v b q)) (r.bits q ac ∙
            ap (λ x. (nat_lt q a && x) || R q) (newly_significant-is v W b q)) ∙
            ap (λ x. ((nat_lt q a && (type_due v W b q && significant v b q)) || R q) || (x && significant v b q)) (has_filter (type_due v W b) ps q) ∙
            bits_cases (nat_lt q a) (has ps q) (nat_lt q (a + c)) (type_due v W b q) (significant v b q) (R q) (wider q) ∙
            ap (λ x. (nat_lt q (a + c) && x) || R q) (sym (newly_significant-is v W b q));
        minus = λ q ac. w.minus q ∙ ap (λ x. x || (has (filter (newly_significant v W b) ps) q && negative (get_or v q (pos 0)))) (r.minus q ac) ∙
            ap (λ x. (nat_lt q a && (newly_significant v W b q && negative (get_or v q (pos 0)))) || (x && negative (get_or v q (pos 0))))
            (has_filter (newly_significant v W b) ps q) ∙
            signs_cases (nat_lt q a) (has ps q) (nat_lt q (a + c)) (newly_significant v W b q) (negative (get_or v q (pos 0))) (wider q);
        enclosing = λ i lt. (λ k. w.families k i) ∙ r.enclosing i lt;
        low = w.bits 0 ∙ ap (λ x. s.bits 0 || (x && significant v b 0)) (has_filter (type_due v W b) ps 0 ∙ ap (λ x. x && type_due v W b 0) no_dc) ∙
            or-false (s.bits 0) ∙ r.low;
      })
      (types_written t.book o chosen before v W b (type_due block W b) wanted ps fits due s r.knows)
    where
      R : ℕ → Bool
      R q = nat_lt q m && (refined v W b q && bit (magnitude v q) b)

      wider : (q : ℕ) → nat_lt q (a + c) ≡ (nat_lt q a || has (span a c) q)
      wider q = rw (has_span a c q) by_tests
        where
          by_tests : nat_lt q (a + c) ≡ (nat_lt q a || (nat_le a q && nat_lt q (a + c)))
          by_tests = grind (arith, nat_tests)

      no_dc : has (span a c) 0 ≡ false
      no_dc = rw (has_span a c 0) by_tests
        where
          by_tests : (nat_le a 0 && nat_lt 0 (a + c)) ≡ false
          by_tests = grind (arith, nat_tests)
