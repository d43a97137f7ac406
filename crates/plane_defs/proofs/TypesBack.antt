-- The end decides the types and the signs that are read.
use Rattle.std.proofs.Common.{◌≡◌, ℕ, suc, ◌+◌, ◌*◌, ◌≤◌, ◌<◌, ◌==◌, ◌&&◌, ◌||◌, Bool, true, false, if◌then◌else◌, List, [], ◌∷◌, filter, refl, ap, sym}
use Rattle.std.proofs.Common.{◌∙◌, subst, arith}
use Rattle.std.proofs.lemmas.Bool.{or_right}
use Rattle.std.proofs.lemmas.Bool.Decides.{nat_tests}
use Rattle.item_defs.specs.Bits.{digit}
use Rattle.base_122.specs.declared.book.Book.{Book}
use Rattle.plane_defs.specs.Spans.{span}
use Rattle.plane_defs.specs.Steps.{some_one_where}
use Rattle.plane_defs.specs.Written.{has}
use Rattle.plane_defs.specs.States.{State, with_bits, with_minus, and_one}
use Rattle.plane_defs.specs.WordScripts.{due_script, signs_script, types_script, group_script}
use Rattle.item_defs.specs.Scripts.{done, in_turn}
use Rattle.plane_defs.proofs.WordGoes.{both, span_short}
use Rattle.plane_defs.proofs.PlacesSent.{in_span}
use Rattle.plane_defs.proofs.TypesWritten.{has_filter}
use Rattle.plane_defs.proofs.Answers.{May, never, may_weaker, Decided, decided_more, decided_then, decided_in_turn}
use Rattle.plane_defs.proofs.WordAnswers.{Grows, DueMay, due_may}
use Rattle.plane_defs.proofs.TypesAnswers.{Leaves, SignsMay, signs_may, TypesMay, types_may}
use Rattle.plane_defs.proofs.WordsBack.{Differ, differ_filter, differ_span, same_place, Later, due_decided}

pub later_on : (o : List ℕ) (s e : State) → Grows s e → Later o e.options → Later o s.options
later_on o s e grows later n x low high is = later n x low high (grows n x is)

-- the number of a bit
pub digit_of : (n : ℕ) (x : Bool) → n < 2 → (n == 1) ≡ x → n ≡ digit x
digit_of n x h1 h2 = grind (arith, nat_tests)

signs_decided : (g : ℕ → Bool) (ps : List ℕ) → Differ ps → (s : State) → ((q : ℕ) → has ps q ≡ true → s.minus q ≡ false) →
    Decided (signs_script ps s) (λ e. (q : ℕ) → has ps q ≡ true → e.minus q ≡ g q)
signs_decided g [] apart s fresh = tt
signs_decided g (p ∷ ps) apart s fresh = (
  digit (g p),
  λ n said good.
      let t = with_minus s (and_one s.minus p (n == 1)) in
      let at_first : has (p ∷ ps) p ≡ true = ap (λ x. x || has ps p) (same_place p) in (
        may_weaker false (SignsMay ps t) (λ e. ((q : ℕ) → has (p ∷ ps) q ≡ true → e.minus q ≡ g q) → n ≡ digit (g p)) (signs_script ps t)
            (λ e z r. digit_of n (g p) said (sym (z.1 p apart.0 ∙ ap (λ x. x || ((p == p) && (n == 1))) (fresh p at_first) ∙
            ap (λ x. x && (n == 1)) (same_place p)) ∙ r p at_first)) (signs_may false ps t),
        decided_more (λ e. (q : ℕ) → has ps q ≡ true → e.minus q ≡ g q) (λ e. (q : ℕ) → has (p ∷ ps) q ≡ true → e.minus q ≡ g q) (signs_script ps t)
            (λ e r q inside. r q (or_right (q == p) (has ps q) inside))
            (signs_decided g ps apart.1 t (λ q inside. other q inside (q == p) refl (n == 1))),
      ),
)
  where
    other : (q : ℕ) → has ps q ≡ true → (x : Bool) → (q == p) ≡ x → (y : Bool) → (s.minus q || (x && y)) ≡ false
    other q h1 x h2 y = grind (arith, nat_tests)

-- nothing was read of the places from this one on
abbrev pub Empty : ℕ → State → Type 0
Empty a s = (q : ℕ) → a ≤ q → q < 64 → (s.bits q ≡ false) × (s.minus q ≡ false)

-- what was read of the places from one to before another, and the options, are these
abbrev pub Right : (o : List ℕ) → (newly neg : ℕ → Bool) → (a c : ℕ) → State → Type 0
Right o newly neg a c e = Later o e.options × ((q : ℕ) → a ≤ q → q < c → (e.bits q ≡ newly q) × (e.minus q ≡ (newly q && neg q)))

module _ (book : Book) (o : List ℕ) (due newly neg : ℕ → Bool) where
  abbrev R : (a c : ℕ) → State → Type 0
  R = Right o newly neg

  -- what only changes places from one to before another
  pub passes : (T : ℕ → Type 0) (first a c : ℕ) → a ≤ c → ((q : ℕ) → T q → (a ≤ q) × (q < c)) → (s e : State) → Leaves false due T s e → Empty a s →
      Empty c e × (R first c e → R first a s)
  passes T first a c le inside s e w empty = (
    λ q low high.
        let out : T q → ⊥ = λ x. (let z = (inside q x).1 in absurd (omega (arith, low, z))) in
        let z = empty q (omega (arith, low, le)) high in
        (w.changes.bits q out ∙ z.0, w.changes.minus q out ∙ z.1),
    λ r. (
      later_on o s e w.grows r.0,
      λ q low high.
          let out : T q → ⊥ = λ x. (let z = (inside q x).0 in absurd (omega (arith, high, z))) in
          let z = r.1 q low (omega (arith, high, le)) in
          (sym (w.changes.bits q out) ∙ z.0, sym (w.changes.minus q out) ∙ z.1),
    ),
  )

  pub types_decided : (wanted : Bool) (a c : ℕ) → c ≤ 4 → a + c ≤ 64 → (s : State) → Empty a s →
      Decided (types_script book due wanted (span a c) s) (R a (a + c))
  types_decided wanted a c few high s empty =
      decided_then (DueMay false due (some_one_where wanted) ps s) Q (R a (a + c)) (due_script book due (some_one_where wanted) ps s)
      (λ r. signs_script (filter r.1 ps) (with_bits r.0 r.1)) (due_may false book never due (some_one_where wanted) ps s never never never)
      (due_decided book o due (some_one_where wanted) ps newly s (differ_span a c) (let l = span_short a c in omega (arith, l, few)))
      (λ r d. (
        may_weaker false (SignsMay (filter r.1 ps) (with_bits r.0 r.1)) (λ e. R a (a + c) e → Q r) (signs_script (filter r.1 ps) (with_bits r.0 r.1))
            (λ e z h. (
              subst (Later o) (λ i. (z.0 i).options) h.0,
              λ q inside.
                  let k = in_span a c q (both (has ps q) (due q) (sym (has_filter due ps q) ∙ inside)).0 in
                  sym ((λ i. (z.0 i).bits q) ∙ (λ i. (d.rest i).bits q || r.1 q) ∙ ap (λ x. x || r.1 q) (empty q k.0 (omega (arith, k.1, high))).0) ∙
                  (h.1 q k.0 k.1).0,
            )) (signs_may false (filter r.1 ps) (with_bits r.0 r.1)),
        decided_more (λ e. (q : ℕ) → has (filter r.1 ps) q ≡ true → e.minus q ≡ (newly q && neg q)) (R a (a + c))
            (signs_script (filter r.1 ps) (with_bits r.0 r.1)) (λ e h q inside. (let k = read r q inside in (h.1 q k.0 k.1).1))
            (signs_decided (λ q. newly q && neg q) (filter r.1 ps) (differ_filter r.1 ps (differ_span a c)) (with_bits r.0 r.1)
            (λ q inside. (let k = read r q inside in (λ i. (d.rest i).minus q) ∙ (empty q k.0 (omega (arith, k.1, high))).1))),
      ))
    where
      ps : List ℕ
      ps = span a c

      Q : State × (ℕ → Bool) → Type 0
      Q r = Later o r.0.options × ((q : ℕ) → has (filter due ps) q ≡ true → r.1 q ≡ newly q)

      read : (r : State × (ℕ → Bool)) (q : ℕ) → has (filter r.1 ps) q ≡ true → (a ≤ q) × (q < a + c)
      read r q inside = in_span a c q (both (has ps q) (r.1 q) (sym (has_filter r.1 ps q) ∙ inside)).0

  pub groups_decided : (first n : ℕ) (sent wanted : ℕ → Bool) → first + 4 * n ≤ 64 → (s : State) → Empty first s →
      Decided (in_turn (group_script book due first sent wanted) 0 n s) (R first (first + 4 * n))
  groups_decided first n sent wanted high s empty =
      let e : 0 + n ≡ n = omega arith in
      let z : first ≡ first + 4 * 0 = omega arith in
      subst (λ m. Decided (in_turn (group_script book due first sent wanted) 0 n s) (R first (first + 4 * m))) e
      (decided_in_turn (λ i. Empty (first + 4 * i)) (λ i. R first (first + 4 * i)) (group_script book due first sent wanted) 0 n
      (λ i u low lt p. one i u (omega (arith, lt)) p (sent i)) s (subst (λ a. Empty a s) z empty)).1
    where
      one : (i : ℕ) (u : State) → i < n → Empty (first + 4 * i) u → (x : Bool) →
          May false (if x then types_script book due (wanted i) (span (first + 4 * i) 4) u else done u)
          (λ w. Empty (first + 4 * suc i) w × (R first (first + 4 * suc i) w → R first (first + 4 * i) u)) ×
          Decided (if x then types_script book due (wanted i) (span (first + 4 * i) 4) u else done u) (R first (first + 4 * suc i))
      one i u lt p true = (
        may_weaker false (TypesMay false due (wanted i) (span (first + 4 * i) 4) u)
            (λ w. Empty (first + 4 * suc i) w × (R first (first + 4 * suc i) w → R first (first + 4 * i) u))
            (types_script book due (wanted i) (span (first + 4 * i) 4) u)
            (λ w z. passes (λ q. (has (span (first + 4 * i) 4) q ≡ true) × (due q ≡ true)) first (first + 4 * i) (first + 4 * suc i) (omega arith)
            (λ q x. (let k = in_span (first + 4 * i) 4 q x.0 in (k.0, omega (arith, k.1)))) u w z.leaves p)
            (types_may false book never due (wanted i) (first + 4 * i) 4 u never never (λ x. never x)),
        decided_more (R (first + 4 * i) (first + 4 * i + 4)) (R first (first + 4 * suc i)) (types_script book due (wanted i) (span (first + 4 * i) 4) u)
            (λ w h. (h.0, λ q from to. h.1 q (omega (arith, from)) (omega (arith, to))))
            (types_decided (wanted i) (first + 4 * i) 4 (omega arith) (omega (arith, high, lt)) u p),
      )
      one i u lt p false = ((λ q low top. p q (omega (arith, low)) top, λ h. (h.0, λ q from to. h.1 q from (omega (arith, to)))), tt)
