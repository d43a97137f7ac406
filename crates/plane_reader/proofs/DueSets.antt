-- Sets that can become significant in a plane, by the numbers that are significant above it and those that can have a bit of it.
use Rattle.std.proofs.Common.{◌≡◌, ℕ, zero, suc, ◌+◌, ◌*◌, ◌<◌, ◌≤◌, ◌==◌, ◌&&◌, ◌||◌, ◌⊎◌, inl, inr, not, Bool, true, false, refl, sym, ap, ◌∙◌, arith}
use Rattle.std.specs.List.{list_any}
use Rattle.std.proofs.lemmas.List.Folds.{list_any-append}
use Rattle.std.proofs.lemmas.Nat.Bits.{bit_at_above}
use Rattle.item_defs.specs.Bits.{bit}
use Rattle.plane_defs.specs.declared.sets.Set.TheVariants.{Descendants, Family, Grandchildren, Quad}
use Rattle.plane_defs.specs.Spans.{span}
use Rattle.plane_defs.specs.Sets.{members}
use Rattle.block_masks.specs.Masks.{Shows}
use Rattle.plane_defs.proofs.SomePlaces.{Some_in, Some_below, within, below_all, family_at, quad_at}
use Rattle.plane_defs.proofs.StageGoes.{some_place, place_some}
use Rattle.plane_reader.proofs.SmallTests.{never}

no_clash : (b : Bool) → b ≡ true → b ≡ false → ⊥
no_clash b e f = never (sym e ∙ f)

false_of : (b : Bool) → (b ≡ true → ⊥) → b ≡ false
false_of true p = absurd (p refl)
false_of false p = refl

either_of : (a b : Bool) → (a || b) ≡ true → (a ≡ true) ⊎ (b ≡ true)
either_of true b e = inl refl
either_of false b e = inr e

or_left : (a b : Bool) → a ≡ true → (a || b) ≡ true
or_left true b e = refl
or_left false b e = cc

or_right : (a b : Bool) → b ≡ true → (a || b) ≡ true
or_right true b e = refl
or_right false b e = e

pub both_are : (a b : Bool) → (a && b) ≡ true → (a ≡ true) × (b ≡ true)
both_are true true e = (refl, refl)
both_are true false e = cc
both_are false b e = cc

pub is_false : (b : Bool) → not b ≡ true → b ≡ false
is_false true e = cc
is_false false e = refl

new_one : (a c : Bool) → a ≡ false → c ≡ true → (not a && c) ≡ true
new_one true c p q = cc
new_one false true p q = refl
new_one false false p q = cc

-- some bit is in a mask
pub some_bit : (mask k : ℕ) → bit mask k ≡ true → 0 < mask
some_bit zero k e = absurd (never (sym e ∙ ap (λ x. x == 1) (bit_at_above 0 0 k (omega arith) (omega arith))))
some_bit (suc n) k e = omega arith

module _ (A c : ℕ → Bool) where
  any_below : (f : ℕ → Bool) (i : ℕ) → list_any f (members (Family i)) ≡ true → Some_below f i
  any_below f i e = elim (either_of (list_any f (span (4 + 4 * i) 4)) (list_any f (span (16 + 16 * i) 16)) (sym (list_any-append f (span (4 + 4 * i) 4) (span
      (16 + 16 * i) 16)) ∙ e)) [
        | inl p ↦ inl (some_place f (4 + 4 * i) 4 p)
        | inr p ↦ inr (some_place f (16 + 16 * i) 16 p)
      ]

  below_any : (f : ℕ → Bool) (i : ℕ) → Some_below f i → list_any f (members (Family i)) ≡ true
  below_any f i (inl w) = list_any-append f (span (4 + 4 * i) 4) (span (16 + 16 * i) 16) ∙ or_left _ _ (place_some f (4 + 4 * i) 4 w)
  below_any f i (inr w) = list_any-append f (span (4 + 4 * i) 4) (span (16 + 16 * i) 16) ∙ or_right _ _ (place_some f (16 + 16 * i) 16 w)

  -- a place that can have a bit and is not significant above
  new_place : (start count : ℕ) → Some_in c start count → (Some_in A start count → ⊥) → list_any (λ p. not (A p) && c p) (span start count) ≡ true
  new_place start count w none = place_some (λ p. not (A p) && c p) start count (
    w.0,
    w.1,
    new_one (A (start + w.0)) (c (start + w.0)) (false_of (A
        (start + w.0)) (λ e. none (w.0, w.1, e))) w.2,
  )

  -- if no descendant is significant above and some can have a bit, this is so of a family
  pub new_family : list_any c (members Descendants) ≡ true → list_any A (members Descendants) ≡ false →
      (i : ℕ) × (i < 3) × (list_any A (members (Family i)) ≡ false) × (list_any c (members (Family i)) ≡ true)
  new_family some none =
      let f = family_at c (some_place c 4 60 some) in (
        f.0,
        f.1,
        false_of _ (λ e. no_clash (list_any A (members Descendants)) (place_some A 4 60 (below_all A f.0 f.1 (any_below A f.0 e))) none),
        below_any c f.0 f.2,
      )

  -- if no grandchild of such a family can have a bit, a child can
  pub new_children : (i : ℕ) → list_any c (members (Family i)) ≡ true → list_any A (members (Family i)) ≡ false →
      list_any c (members (Grandchildren i)) ≡ false → list_any (λ p. not (A p) && c p) (span (4 + 4 * i) 4) ≡ true
  new_children i some none no_grandchild = elim (any_below c i some) [
    | inl w ↦ new_place (4 + 4 * i) 4 w (λ a. no_clash (list_any A (members (Family i))) (below_any A i (inl a)) none)
    | inr w ↦ absurd (no_clash (list_any c (members (Grandchildren i))) (place_some c (16 + 16 * i) 16 w) no_grandchild)
  ]

  -- some set of four of such a set of grandchildren
  pub new_quad : (i : ℕ) → list_any c (members (Grandchildren i)) ≡ true → list_any A (members (Grandchildren i)) ≡ false →
      (j : ℕ) × (j < 4) × (list_any A (members (Quad i j)) ≡ false) × (list_any c (members (Quad i j)) ≡ true)
  new_quad i some none =
      let f = quad_at c i (some_place c (16 + 16 * i) 16 some) in (
        f.0,
        f.1,
        false_of _ (λ e. no_clash (list_any A (members (Grandchildren i))) (place_some A (16 + 16 * i) 16 (within
            A (16 + 16 * i + 4 * f.0) 4 (16 + 16 * i) 16 (omega arith) (omega (arith, f.1)) (some_place A (16 + 16 * i + 4 * f.0) 4 e))) none),
        place_some c (16 + 16 * i + 4 * f.0) 4 f.2,
      )

  -- and some number of it
  pub new_grandchild : (i j : ℕ) → list_any c (members (Quad i j)) ≡ true → list_any A (members (Quad i j)) ≡ false →
      list_any (λ p. not (A p) && c p) (span (16 + 16 * i + 4 * j) 4) ≡ true
  new_grandchild i j some none =
      new_place (16 + 16 * i + 4 * j) 4 (some_place c (16 + 16 * i + 4 * j) 4 some) (λ a. no_clash (list_any A (members (Quad i j))) (place_some A
      (16 + 16 * i + 4 * j) 4 a) none)

-- places of a mask that is shown
pub any_marked : {mask : ℕ} {f : ℕ → Bool} (start count : ℕ) → Shows mask f 0 64 → start + count ≤ 64 → list_any f (span start count) ≡ true →
    list_any (bit mask) (span start count) ≡ true
any_marked {mask} {f} start count shown inside some =
    let w = some_place f start count some in
    let z : 0 + (start + w.0) ≡ start + w.0 = omega arith in
    place_some (bit mask) start count (w.0, w.1, shown.at (start + w.0) (omega (arith, w.1, inside)) ∙ ap f z ∙ w.2)

-- a place of a mask that is among others
pub among_is : (due : ℕ) {places count : ℕ} → Shows places (λ p. bit due p && bit places p) 0 count → (k : ℕ) → k < count → bit places k ≡ true →
    bit due k ≡ true
among_is due {places} shown k lt e =
    let z : 0 + k ≡ k = omega arith in
    (both_are (bit due k) (bit places k) (ap (λ p. bit due p && bit places p) (sym z) ∙ sym (shown.at k lt) ∙ e)).0
