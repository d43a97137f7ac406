-- Sets and types that are due in the sets that are.
use Rattle.std.proofs.lemmas.Bool.Decides.{nat_tests}
use Rattle.std.proofs.Common.{◌≡◌, ◌⊎◌, inl, inr, ℕ, zero, suc, ◌+◌, ◌*◌, ◌&&◌, ◌||◌, not, Bool, true, false, List}
use Rattle.std.proofs.Common.{ℤ, refl, ap, sym, ◌∙◌, arith}
use Rattle.std.specs.List.{list_any}
use Rattle.std.proofs.lemmas.List.Folds.{list_any-append}
use Rattle.plane_defs.specs.declared.sets.Set.{Set}
use Rattle.plane_defs.specs.declared.sets.Set.TheVariants.{Descendants, Family, Grandchildren, Quad}
use Rattle.plane_defs.specs.Spans.{span}
use Rattle.plane_defs.specs.Sets.{significant, coded, live, type_due, quad_of, members}
use Rattle.plane_defs.specs.Codes.{is_book_sound}
use Rattle.plane_defs.proofs.Equations.{set_significant-is, live-is, type_due-is}
use Rattle.plane_defs.proofs.SpanLists.{list_any-span-suc, list_any-span-none}
use Rattle.plane_defs.proofs.Determined.{list_any-span-here}
use Rattle.plane_defs.specs.StageScripts.{Terms, above, is_due}
use Rattle.plane_defs.proofs.SomePlaces.{Some_in, Some_below, within, below_all, family_at, quad_at}

-- ---- some place of a span

pub some_place : (f : ℕ → Bool) (start count : ℕ) → list_any f (span start count) ≡ true → Some_in f start count
some_place f start zero e = absurd (clash (sym (list_any-span-none f start) ∙ e))
  where
    clash : false ≡ true → ⊥
    clash e = cc
some_place f start (suc n) e =
    by (list_any f (span start n)) refl (f (start + n)) refl (sym (list_any-span-suc f start n) ∙
    ap (λ m. list_any f (span start m)) (let z : n + 1 ≡ suc n = omega arith in z) ∙ e) (some_place f start n)
  where
    by : (a : Bool) → list_any f (span start n) ≡ a → (b : Bool) → f (start + n) ≡ b → (list_any f (span start n) || f (start + n)) ≡ true →
        (list_any f (span start n) ≡ true → Some_in f start n) → Some_in f start (suc n)
    by true p b q e rest = let w = rest p in (w.0, omega (arith, w.1), w.2)
    by false p true q e rest = (n, omega arith, q)
    by false p false q e rest = absurd cc

pub place_some : (f : ℕ → Bool) (start count : ℕ) → Some_in f start count → list_any f (span start count) ≡ true
place_some f start count w = list_any-span-here f start count w.0 w.1 w.2

pub no_clash : (b : Bool) → b ≡ true → b ≡ false → ⊥
no_clash true p q = cc
no_clash false p q = cc

pub false_of : (b : Bool) → (b ≡ true → ⊥) → b ≡ false
false_of b h1 = grind (arith, nat_tests)

pub either : (a b : Bool) → (a || b) ≡ true → (a ≡ true) ⊎ (b ≡ true)
either true b e = inl refl
either false b e = inr e

or_left : (a b : Bool) → a ≡ true → (a || b) ≡ true
or_left a b h1 = grind (arith, nat_tests)

or_right : (a b : Bool) → b ≡ true → (a || b) ≡ true
or_right a b h1 = grind (arith, nat_tests)

module _ (t : Terms) (is_sound : is_book_sound t.book ≡ true) (block : List ℤ) where
  abbrev A : ℕ → Bool
  A = significant block (t.plane + 1)

  abbrev c : ℕ → Bool
  c = coded t.weights t.plane

  abbrev due : ℕ → Bool
  due = type_due block t.weights t.plane

  -- a place that can have a bit and is not significant above is due
  due_place : (start count : ℕ) → Some_in c start count → (Some_in A start count → ⊥) → list_any due (span start count) ≡ true
  due_place start count w none =
      place_some due start count (
        w.0,
        w.1,
        type_due-is block t.weights t.plane (start + w.0) ∙
            by (A (start + w.0)) (c (start + w.0)) (false_of (A (start + w.0)) (λ e. none (w.0, w.1, e))) w.2,
      )
    where
      by : (a b : Bool) → a ≡ false → b ≡ true → (not a && b) ≡ true
      by a b h1 h2 = grind (arith, nat_tests)

  -- the members of sets
  pub any_all : (f : ℕ → Bool) → list_any f (members Descendants) ≡ true → Some_in f 4 60
  any_all f e = some_place f 4 60 e

  pub any_family : (f : ℕ → Bool) (i : ℕ) → list_any f (members (Family i)) ≡ true → Some_below f i
  any_family f i e = elim (either (list_any f (span (4 + 4 * i) 4)) (list_any f (span (16 + 16 * i) 16))
      (sym (list_any-append f (span (4 + 4 * i) 4) (span (16 + 16 * i) 16)) ∙ e)) [
        | inl p ↦ inl (some_place f (4 + 4 * i) 4 p)
        | inr p ↦ inr (some_place f (16 + 16 * i) 16 p)
      ]

  pub family_any : (f : ℕ → Bool) (i : ℕ) → Some_below f i → list_any f (members (Family i)) ≡ true
  family_any f i (inl w) = list_any-append f (span (4 + 4 * i) 4) (span (16 + 16 * i) 16) ∙ or_left _ _ (place_some f (4 + 4 * i) 4 w)
  family_any f i (inr w) = list_any-append f (span (4 + 4 * i) 4) (span (16 + 16 * i) 16) ∙ or_right _ _ (place_some f (16 + 16 * i) 16 w)

  pub is_above : (s : Set) → above t block s ≡ list_any A (members s)
  is_above s = set_significant-is block (t.plane + 1) s

  pub is_live : (s : Set) → live t.weights t.plane s ≡ list_any c (members s)
  is_live s = live-is t.weights t.plane s

  -- what a due set is
  pub due_parts : (s : Set) (enclosing : Bool) → is_due t block s enclosing ≡ true →
      (enclosing ≡ true) × (list_any A (members s) ≡ false) × (list_any c (members s) ≡ true)
  due_parts s enclosing e = by enclosing (above t block s) (live t.weights t.plane s) e (is_above s) (is_live s)
    where
      by : (x a l : Bool) → (x && (not a && l)) ≡ true → a ≡ list_any A (members s) → l ≡ list_any c (members s) →
          (x ≡ true) × (list_any A (members s) ≡ false) × (list_any c (members s) ≡ true)
      by true false true e p q = (refl, sym p, sym q)
      by true true l e p q = cc
      by true false false e p q = cc
      by false a l e p q = cc

  set_due : (s : Set) → list_any A (members s) ≡ false → list_any c (members s) ≡ true → is_due t block s true ≡ true
  set_due s p q = by (above t block s) (live t.weights t.plane s) (is_above s ∙ p) (is_live s ∙ q)
    where
      by : (a l : Bool) → a ≡ false → l ≡ true → (not a && l) ≡ true
      by a l h1 h2 = grind (arith, nat_tests)

  -- if B can have a bit and is not significant above, some D_i is due
  pub families_due : above t block Descendants ≡ false → live t.weights t.plane Descendants ≡ true →
      list_any (λ i. is_due t block (Family i) true) (span 0 3) ≡ true
  families_due p q =
      let f = family_at c (any_all c (sym (is_live Descendants) ∙ q)) in
      let none : list_any A (members (Family f.0)) ≡ false =
      false_of _ (λ e. no_clash (above t block Descendants) (is_above Descendants ∙ place_some A 4 60 (below_all A f.0 f.1 (any_family A f.0 e))) p) in
      place_some (λ i. is_due t block (Family i) true) 0 3 (
        f.0,
        f.1,
        (let z : 0 + f.0 ≡ f.0 = omega arith in ap (λ i. is_due t block (Family i) true) z) ∙
            set_due (Family f.0) none (family_any c f.0 f.2),
      )

  -- if D_i is due and no grandchild of it can have a bit, a child is due
  pub children_due : (i : ℕ) (all : Bool) → is_due t block (Family i) all ≡ true → live t.weights t.plane (Grandchildren i) ≡ false →
      list_any due (span (4 + 4 * i) 4) ≡ true
  children_due i all d none = grind (arith, nat_tests, due_parts, any_family, due_place, no_clash, family_any, is_live, place_some)

  -- if G_i is due, some H_ij is
  pub quads_due : (i : ℕ) (enclosing : Bool) → is_due t block (Grandchildren i) enclosing ≡ true → list_any (λ j. is_due t block (Quad i j) true)
      (span 0 4) ≡ true
  quads_due i enclosing d =
      let p = due_parts (Grandchildren i) enclosing d in
      let f = quad_at c i (some_place c (16 + 16 * i) 16 p.2) in
      let none : list_any A (members (Quad i f.0)) ≡ false =
      false_of _ (λ e. no_clash (list_any A (members (Grandchildren i)))
      (place_some A (16 + 16 * i) 16
      (within A (16 + 16 * i + 4 * f.0) 4 (16 + 16 * i) 16 (omega arith) (omega (arith, f.1)) (some_place A (16 + 16 * i + 4 * f.0) 4 e))) p.1) in
      place_some (λ j. is_due t block (Quad i j) true) 0 4 (
        f.0,
        f.1,
        (let z : 0 + f.0 ≡ f.0 = omega arith in ap (λ j. is_due t block (Quad i j) true) z) ∙
            set_due (Quad i f.0) none (place_some c (16 + 16 * i + 4 * f.0) 4 f.2),
      )

  -- if H_ij is due, a type is
  pub grandchildren_due : (i j : ℕ) → is_due t block (Quad i j) true ≡ true → list_any due (span (quad_of i 0 + 4 * j) 4) ≡ true
  grandchildren_due i j d = grind (arith, nat_tests, due_parts, due_place, some_place, no_clash, place_some)

  pub not_true : (b : Bool) → not b ≡ true → b ≡ false
  not_true b h1 = grind (arith, nat_tests)
