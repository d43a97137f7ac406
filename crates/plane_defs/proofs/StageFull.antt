-- Which positions have a raw bit after all stages of a plane.
use Rattle.std.proofs.Common.{◌≡◌, ◌≤◌, ◌<◌, ℕ, zero, suc, ◌+◌, ◌==◌, ◌&&◌, ◌||◌, not}
use Rattle.std.proofs.Common.{nat_lt, Bool, true, false, if◌then◌else◌, List, [], length, refl, ap, sym}
use Rattle.std.proofs.Common.{◌∙◌, subst, arith, ℤ, Option}
use Rattle.std.proofs.Math.Bool.{or-false}
use Rattle.std.proofs.lemmas.Bool.Decides.{nat_tests}
use lib.ListN.{get_or}
use Rattle.item_defs.specs.Scripts.{Script, done}
use Rattle.item_defs.proofs.ScriptYields.{Yields, yields_given, yields_turn, yields_weaker}
use Rattle.plane_defs.specs.Sets.{significant, coded, type_due, refined}
use Rattle.plane_defs.specs.StepLaws.{IsAc}
use Rattle.plane_defs.specs.States.{State, nothing, with_options}
use Rattle.plane_defs.specs.StageScripts.{Terms, bit_script, refinement_script, stage_script}
use Rattle.plane_defs.specs.PlaneScript.{plane_script}
use Rattle.plane_defs.proofs.Tables.{and-right}
use Rattle.plane_defs.proofs.StageYields.{IsStable, stage_yields}
use Rattle.plane_defs.proofs.PlaneYields.{All, plane_yields}

abbrev Any : State → Type 0
Any s = Unit {0}

or_left : (a b : Bool) → a ≡ true → (a || b) ≡ true
or_left true b e = refl
or_left false b e = absurd cc

or_right : (a b : Bool) → b ≡ true → (a || b) ≡ true
or_right true b e = refl
or_right false b e = e

clash : (x : Bool) → x ≡ true → x ≡ false → ⊥
clash true a b = cc
clash false a b = cc

module _ (t : Terms) (depth : ℕ) (block : List ℤ) where
  abbrev dc_due : Bool
  dc_due = coded t.weights t.plane 0 && nat_lt t.plane t.q

  abbrev deep : Bool
  deep = nat_lt t.plane depth

  abbrev fine : ℕ → Bool
  fine p = refined block t.weights t.plane p

  -- after k stages: the raw bits that are due are given, and no others; a block that is not as deep as the plane has no bits there
  pub record After (k : ℕ) (s : State) : Type 0 where
    pub dc : 1 ≤ k → dc_due ≡ true → s.raw 0 ≡ true
    pub refines : 5 ≤ k → deep ≡ true → (p : ℕ) → IsAc p → fine p ≡ true → s.raw p ≡ true
    pub raws : (p : ℕ) → 1 ≤ p → s.raw p ≡ true → (deep ≡ true) × (fine p ≡ true)
    pub shallow : deep ≡ false → (p : ℕ) → 1 ≤ p → s.bits p ≡ false
    pub codes : (p : ℕ) → 1 ≤ p → s.bits p ≡ true → coded t.weights t.plane p ≡ true
    pub due : (s.bits 0 || s.raw 0) ≡ true → dc_due ≡ true

  pub after_none : After 0 nothing
  after_none = record {
    dc = λ le. absurd (omega (arith, le));
    refines = λ le. absurd (omega (arith, le));
    raws = λ p le e. absurd cc;
    shallow = λ d p le. refl;
    codes = λ p le e. absurd cc;
    due = λ e. absurd cc;
  }

  pub after_options : (k : ℕ) (s : State) (o : ℕ → Option ℕ) → After k s → After k (with_options s o)
  after_options k s o h = record { dc = h.dc; refines = h.refines; raws = h.raws; shallow = h.shallow; codes = h.codes; due = h.due }

  -- the number of stages matters only for stages 0 and 4
  after_more : (k n : ℕ) (s : State) → (1 ≤ n → 1 ≤ k) → n < 5 → After k s → After n s
  after_more k n s some few h = record {
    dc = λ le. h.dc (some le);
    refines = λ le. absurd (omega (arith, le, few));
    raws = h.raws;
    shallow = h.shallow;
    codes = h.codes;
    due = h.due;
  }

  -- ---- stage 0

  dc_after : (s : State) → After 0 s → Yields Any (After 1) (stage_script t 0 depth block s)
  dc_after s h = by (coded t.weights t.plane 0 && nat_lt t.plane t.q) refl
    where
      by : (b : Bool) → dc_due ≡ b → Yields Any (After 1) (let none : Script State State = done s in if b then bit_script 0 s else none)
      by true e = (
        tt,
        λ n said good. record {
          dc = λ le d. or_right (s.raw 0) true refl;
          refines = λ le. absurd (omega (arith, le));
          raws = λ p le f. h.raws p le (sym (ap (λ x. s.raw p || x) (apart p le) ∙ or-false (s.raw p)) ∙ f);
          shallow = λ d p le. other n p le ∙ h.shallow d p le;
          codes = λ p le f. h.codes p le (sym (other n p le) ∙ f);
          due = λ f. e;
        },
      )
        where
          apart : (p : ℕ) → 1 ≤ p → (p == 0) ≡ false
          apart p le = grind (arith, nat_tests)

          other : (n p : ℕ) → 1 ≤ p → (s.bits p || (false || ((p == 0) && (n == 1)))) ≡ s.bits p
          other n p le = ap (λ x. s.bits p || (false || (x && (n == 1)))) (apart p le) ∙ or-false (s.bits p)
      by false e = record {
        dc = λ le d. absurd (clash dc_due d e);
        refines = λ le. absurd (omega (arith, le));
        raws = h.raws;
        shallow = h.shallow;
        codes = h.codes;
        due = h.due;
      }

  -- ---- stages 1 to 3

  either : (p : ℕ) (a b : Bool) → (a || b) ≡ true → (a ≡ true → coded t.weights t.plane p ≡ true) → (b ≡ true → coded t.weights t.plane p ≡ true) →
      coded t.weights t.plane p ≡ true
  either p true b e f g = f refl
  either p false b e f g = g e

  coded_type : (p : ℕ) → type_due block t.weights t.plane p ≡ true → coded t.weights t.plane p ≡ true
  unfolding type_due
  coded_type p e = and-right (not (significant block (t.plane + 1) p)) (coded t.weights t.plane p) e

  pub coded_fine : (p : ℕ) → fine p ≡ true → coded t.weights t.plane p ≡ true
  unfolding refined
  coded_fine p e = and-right (significant block (t.plane + 1) p) (coded t.weights t.plane p) e

  stable : deep ≡ true → IsStable t block (After 1)
  stable d = record {
    options = λ s o h. after_options 1 s o h;
    families = λ s f h. record { dc = h.dc; refines = h.refines; raws = h.raws; shallow = h.shallow; codes = h.codes; due = h.due };
    bits = λ s new none typed h. record {
      dc = h.dc;
      refines = h.refines;
      raws = h.raws;
      shallow = λ e. absurd (clash deep d e);
      codes = λ p le e. either p (s.bits p) (new p) e (h.codes p le) (λ f. coded_type p (typed p f));
      due = λ e. h.due (sym (ap (λ x. (s.bits 0 || x) || s.raw 0) none ∙ ap (λ x. x || s.raw 0) (or-false (s.bits 0))) ∙ e);
    };
    minus = λ s m h. record { dc = h.dc; refines = h.refines; raws = h.raws; shallow = h.shallow; codes = h.codes; due = h.due };
  }

  middle_after : (k : ℕ) → 1 ≤ k → k < 4 → (s : State) → After k s → Yields Any (After (suc k)) (stage_script t k depth block s)
  middle_after k some few s h =
      yields_given (After 1) Any (After (suc k)) (λ u z. tt) (stage_script t k depth block s)
      (yields_weaker (After 1) (After 1) (After (suc k)) (λ u z. after_more 1 (suc k) u (λ le. omega arith) (omega (arith, few)) z)
      (stage_script t k depth block s)
      (stage_yields (After 1) t block k depth some stable s (after_more k 1 s (λ le. some) (omega arith) h)
      (λ a b c d. absurd (grind (arith, nat_tests, some, few)))))

  -- ---- stage 4

  record Refining (j : ℕ) (s : State) : Type 0 where
    here : After 1 s
    given : (p : ℕ) → IsAc p → p < j → fine p ≡ true → s.raw p ≡ true

  one_after : deep ≡ true → (p : ℕ) → IsAc p → (s : State) → Refining p s → (x : Bool) → fine p ≡ x →
      Yields Any (Refining (suc p)) (let none : Script State State = done s in if x then bit_script p s else none)
  one_after d p ac s h true e = (
    tt,
    λ n said good. record {
      here = record {
        dc = λ le due. or_left (s.raw 0) (0 == p) (h.here.dc le due);
        refines = λ le. absurd (omega (arith, le));
        raws = λ q le f. before q le (s.raw q) refl (q == p) refl f;
        shallow = λ c. absurd (clash deep d c);
        codes = λ q le f. new n q le (s.bits q) refl (q == p) refl f;
        due = λ f. h.here.due (apart n ∙ f);
      };
      given = λ q at lt f. by q at lt f (q == p) refl;
    },
  )
    where
      apart : (n : ℕ) → (s.bits 0 || s.raw 0) ≡ ((s.bits 0 || (false || ((0 == p) && (n == 1)))) || (s.raw 0 || (0 == p)))
      apart n =
          let e : (0 == p) ≡ false = (let some : 1 ≤ p = ac.0 in grind (arith, nat_tests)) in
          sym ((λ i. (s.bits 0 || (false || (e i && (n == 1)))) || (s.raw 0 || e i)) ∙ (λ i. or-false (s.bits 0) i || or-false (s.raw 0) i))

      new : (n q : ℕ) → 1 ≤ q → (a : Bool) → s.bits q ≡ a → (b : Bool) → (q == p) ≡ b → (a || (false || (b && (n == 1)))) ≡ true →
          coded t.weights t.plane q ≡ true
      new n q le true f b g o = h.here.codes q le f
      new n q le false f true g o = let same : p ≡ q = grind (arith, nat_tests) in subst (λ i. coded t.weights t.plane i ≡ true) same (coded_fine p e)
      new n q le false f false g o = absurd cc

      before : (q : ℕ) → 1 ≤ q → (a : Bool) → s.raw q ≡ a → (b : Bool) → (q == p) ≡ b → (a || b) ≡ true → (deep ≡ true) × (fine q ≡ true)
      before q le true f b g o = h.here.raws q le f
      before q le false f true g o = let same : p ≡ q = grind (arith, nat_tests) in (d, subst (λ i. fine i ≡ true) same e)
      before q le false f false g o = absurd cc

      by : (q : ℕ) → IsAc q → q < suc p → fine q ≡ true → (b : Bool) → (q == p) ≡ b → (s.raw q || b) ≡ true
      by q at lt f true g = or_right (s.raw q) true refl
      by q at lt f false g = or_left (s.raw q) false (h.given q at (let ne : q ≡ p → ⊥ = grind (arith, nat_tests) in omega (arith, lt, ne)) f)
  one_after d p ac s h false e = record {
    here = h.here;
    given = λ q at lt f. by q at lt f (q == p) refl;
  }
    where
      by : (q : ℕ) → IsAc q → q < suc p → fine q ≡ true → (b : Bool) → (q == p) ≡ b → s.raw q ≡ true
      by q at lt f true g = let same : q ≡ p = grind (arith, nat_tests) in absurd (clash (fine p) (subst (λ i. fine i ≡ true) same f) e)
      by q at lt f false g = h.given q at (let ne : q ≡ p → ⊥ = grind (arith, nat_tests) in omega (arith, lt, ne)) f

  refined_after : deep ≡ true → (s : State) → After 4 s → Yields Any (After 5) (refinement_script t block s)
  refined_after d s h =
      yields_weaker Any (Refining (1 + 63)) (After 5) (λ u z. record {
        dc = λ le. z.here.dc (omega arith);
        refines = λ le c p ac. z.given p ac (let few : p < 64 = ac.1 in omega (arith, few));
        raws = z.here.raws;
        shallow = z.here.shallow;
        codes = z.here.codes;
        due = z.here.due;
      })
      (refinement_script t block s)
      (yields_turn Any Refining (λ p u. if refined block t.weights t.plane p then bit_script p u else done u) 1 63
      (λ p u low high z. one_after d p (low, omega (arith, high)) u z (refined block t.weights t.plane p) refl)
      s (record {
        here = after_more 4 1 s (λ le. omega arith) (omega arith) h;
        given = λ p ac lt. absurd (let some : 1 ≤ p = ac.0 in omega (arith, some, lt));
      }))

  last_after : (s : State) → After 4 s → Yields Any (After 5) (stage_script t 4 depth block s)
  last_after s h = by (nat_lt t.plane depth) refl
    where
      by : (x : Bool) → deep ≡ x → Yields Any (After 5) (if not x then done s else refinement_script t block s)
      by true d = refined_after d s h
      by false d = record {
        dc = λ le. h.dc (omega arith);
        refines = λ le c. absurd (clash deep c d);
        raws = h.raws;
        shallow = h.shallow;
        codes = h.codes;
        due = h.due;
      }

  pub stage_after : (k : ℕ) → k < 5 → (s : State) → After k s → Yields Any (After (suc k)) (stage_script t k depth block s)
  stage_after zero few s h = dc_after s h
  stage_after (suc zero) few s h = middle_after 1 (omega arith) (omega arith) s h
  stage_after (suc (suc zero)) few s h = middle_after 2 (omega arith) (omega arith) s h
  stage_after (suc (suc (suc zero))) few s h = middle_after 3 (omega arith) (omega arith) s h
  stage_after (suc (suc (suc (suc zero)))) few s h = last_after s h
  stage_after (suc (suc (suc (suc (suc k))))) few s h = absurd (omega (arith, few))

-- all stages of a plane
module _ (t : Terms) (depths : List ℕ) (blocks : List (List ℤ)) where
  abbrev pub IsAfter : ℕ → ℕ → State → Type 0
  IsAfter k r s = r < length depths → After t (get_or depths r 0) (get_or blocks r []) k s

  pub plane_after : Yields (All (λ r s. Unit {0})) (All (IsAfter 5)) (plane_script t depths blocks 5)
  plane_after =
      plane_yields (λ r s. Unit {0}) IsAfter (λ k r s h. tt)
      (λ k r s o h lt. after_options t (get_or depths r 0) (get_or blocks r []) k s o (h lt)) t depths blocks
      (λ k r s le h lt. absurd (omega (arith, le, lt)))
      (λ k r s few lt h. yields_weaker Any (After t (get_or depths r 0) (get_or blocks r []) (suc k)) (IsAfter (suc k) r) (λ u z l. z)
      (stage_script t k (get_or depths r 0) (get_or blocks r []) s)
      (stage_after t (get_or depths r 0) (get_or blocks r []) k few s (h lt)))
      5 (omega arith) (λ r lt. after_none t (get_or depths r 0) (get_or blocks r []))
