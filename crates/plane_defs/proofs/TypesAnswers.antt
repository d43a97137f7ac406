-- What possible answers to types and signs leave.
use Rattle.std.proofs.Common.{◌≡◌, ◌⊎◌, ℕ, suc, ◌+◌, ◌*◌, ◌≤◌, ◌<◌, ◌==◌, ◌&&◌, ◌||◌, Bool, true, false, if◌then◌else◌, List, [], ◌∷◌, filter, refl, ap}
use Rattle.std.proofs.Common.{sym, ◌∙◌, subst, arith, inl, inr}
use Rattle.std.specs.List.{list_any}
use Rattle.std.proofs.lemmas.Bool.{cases_lt, or_parts, or_right}
use Rattle.std.proofs.lemmas.Bool.Decides.{nat_tests}
use Rattle.std.proofs.Math.Bool.{or-false}
use Rattle.base_122.specs.declared.book.Book.{Book}
use Rattle.plane_defs.specs.Spans.{span}
use Rattle.plane_defs.specs.Codes.{is_book_sound}
use Rattle.plane_defs.specs.Steps.{some_one_where}
use Rattle.plane_defs.specs.Written.{has}
use Rattle.plane_defs.specs.States.{State, with_options, with_bits, with_minus, and_one}
use Rattle.plane_defs.specs.WordScripts.{due_script, signs_script, types_script, group_script}
use Rattle.item_defs.specs.Scripts.{done, in_turn}
use Rattle.plane_defs.proofs.WordGoes.{HasOptions, both, span_short}
use Rattle.plane_defs.proofs.StageGoes.{no_clash, false_of}
use Rattle.plane_defs.proofs.PlacesSent.{has_span, in_span}
use Rattle.plane_defs.proofs.TypesWritten.{has_filter}
use Rattle.plane_defs.proofs.Answers.{May, may_then, may_in_turn, may_weaker}
use Rattle.plane_defs.proofs.WordAnswers.{Grows, DueMay, due_may, some_answer}

-- ---- states after some answers

-- bits and signs only change at these places: no bit is lost, and a new sign is at a due place that has the bit
pub record Changes (due : ℕ → Bool) (touched : ℕ → Type 0) (b m : ℕ → Bool) (e : State) : Type 0 where
  pub bits : (q : ℕ) → (touched q → ⊥) → e.bits q ≡ b q
  pub minus : (q : ℕ) → (touched q → ⊥) → e.minus q ≡ m q
  pub more : (q : ℕ) → b q ≡ true → e.bits q ≡ true
  pub signs : (q : ℕ) → e.minus q ≡ true → (m q ≡ true) ⊎ ((due q ≡ true) × (e.bits q ≡ true))

pub record Leaves (all : Bool) (due : ℕ → Bool) (touched : ℕ → Type 0) (s e : State) : Type 0 where
  pub known : all ≡ true → HasOptions e.options
  pub grows : Grows s e
  pub changes : Changes due touched s.bits s.minus e

module _ (all : Bool) (due : ℕ → Bool) (T : ℕ → Type 0) where
  -- only options were read
  pub leaves_word : (s e : State) → (all ≡ true → HasOptions e.options) → e ≡ with_options s e.options → Grows s e → Leaves all due T s e
  leaves_word s e known rest grows = record {
    known = known;
    grows = grows;
    changes = record {
      bits = λ q out. λ k. (rest k).bits q;
      minus = λ q out. λ k. (rest k).minus q;
      more = λ q h. (λ k. (rest k).bits q) ∙ h;
      signs = λ q h. inl (sym (λ k. (rest k).minus q) ∙ h);
    };
  }

  pub leaves_then : (s u e : State) → Leaves all due T s u → Leaves all due T u e → Leaves all due T s e
  leaves_then s u e p w = record {
    known = w.known;
    grows = λ n x h. w.grows n x (p.grows n x h);
    changes = record {
      bits = λ q out. w.changes.bits q out ∙ p.changes.bits q out;
      minus = λ q out. w.changes.minus q out ∙ p.changes.minus q out;
      more = λ q h. w.changes.more q (p.changes.more q h);
      signs = λ q h. elim (w.changes.signs q h) [
        | inl old ↦ elim (p.changes.signs q old) [
          | inl first ↦ inl first
          | inr new ↦ inr (new.0, w.changes.more q new.1)
        ]
        | inr new ↦ inr new
      ];
    };
  }

  pub leaves_more : (U : ℕ → Type 0) → ((q : ℕ) → T q → U q) → (s e : State) → Leaves all due T s e → Leaves all due U s e
  leaves_more U wider s e w = record {
    known = w.known;
    grows = w.grows;
    changes = record {
      bits = λ q out. w.changes.bits q (λ x. out (wider q x));
      minus = λ q out. w.changes.minus q (λ x. out (wider q x));
      more = w.changes.more;
      signs = w.changes.signs;
    };
  }

-- ---- types and their signs

abbrev pub SignsMay : List ℕ → (s e : State) → Type 0
SignsMay ps s e = (e ≡ with_minus s e.minus) × ((q : ℕ) → has ps q ≡ false → e.minus q ≡ s.minus q)

pub signs_may : (all : Bool) (ps : List ℕ) (s : State) → May all (signs_script ps s) (SignsMay ps s)
signs_may all [] s = (refl, λ q none. refl)
signs_may all (p ∷ ps) s = (
  λ a. (tt, (0, omega arith, tt)),
  λ n said good.
      may_weaker all (SignsMay ps (with_minus s (and_one s.minus p (n == 1)))) (SignsMay (p ∷ ps) s)
      (signs_script ps (with_minus s (and_one s.minus p (n == 1))))
      (λ e z. (
        z.0,
        λ q none. (let parts = or_parts (q == p) (has ps q) none in
            z.1 q parts.1 ∙ ap (λ x. s.minus q || (x && (n == 1))) parts.0 ∙ or-false (s.minus q)),
      )) (signs_may all ps (with_minus s (and_one s.minus p (n == 1)))),
)

pub record TypesMay (all : Bool) (due : ℕ → Bool) (wanted : Bool) (ps : List ℕ) (s e : State) : Type 0 where
  pub leaves : Leaves all due (λ q. (has ps q ≡ true) × (due q ≡ true)) s e
  pub families : (i : ℕ) → e.families i ≡ s.families i
  pub some : wanted ≡ true → list_any due ps ≡ true → (q : ℕ) × (has ps q ≡ true) × (e.bits q ≡ true)

pub types_may : (all : Bool) (book : Book) → (all ≡ true → is_book_sound book ≡ true) → (due : ℕ → Bool) (wanted : Bool) (a c : ℕ) (s : State) →
    (all ≡ true → HasOptions s.options) → (all ≡ true → c ≤ 4) → (all ≡ true → wanted ≡ true → list_any due (span a c) ≡ true) →
    May all (types_script book due wanted (span a c) s) (TypesMay all due wanted (span a c) s)
types_may all book is_sound due wanted a c s given few answer =
    may_then all (DueMay all due (some_one_where wanted) ps s) (TypesMay all due wanted ps s) (due_script book due (some_one_where wanted) ps s)
    (λ r. signs_script (filter r.1 ps) (with_bits r.0 r.1))
    (due_may all book is_sound due (some_one_where wanted) ps s given (λ x. (let l = span_short a c in let f = few x in omega (arith, l, f)))
    (λ x. some_answer due wanted ps (answer x)))
    (λ r d. may_weaker all (SignsMay (filter r.1 ps) (with_bits r.0 r.1)) (TypesMay all due wanted ps s) (signs_script (filter r.1 ps) (with_bits r.0 r.1))
    (λ e z. record {
      leaves = record {
        known = λ x. subst HasOptions (λ i. (sym z.0 i).options) (d.known x);
        grows = λ n x h. (λ i. (z.0 i).options n) ∙ d.grows n x h;
        changes = record {
          bits = λ q out. (λ i. (z.0 i).bits q) ∙ (λ i. (d.rest i).bits q || r.1 q) ∙
              ap (λ x. s.bits q || x) (false_of (r.1 q) (λ f. out (new r d q f))) ∙ or-false (s.bits q);
          minus = λ q out. z.1 q (false_of (has (filter r.1 ps) q) (λ f. out (new r d q (signed r q f)))) ∙ (λ i. (d.rest i).minus q);
          more = λ q h. (λ i. (z.0 i).bits q) ∙ (λ i. (d.rest i).bits q || r.1 q) ∙ ap (λ x. x || r.1 q) h;
          signs = λ q h. sign r d e z q h (has (filter r.1 ps) q) refl;
        };
      };
      families = λ i. (λ k. (z.0 k).families i) ∙ (λ k. (d.rest k).families i);
      some = λ want list.
          let w = d.some (ap some_one_where want) list in
          (w.0, (both (has ps w.0) (due w.0) (sym (has_filter due ps w.0) ∙ w.1)).0, (λ i. (z.0 i).bits w.0) ∙ or_right (r.0.bits w.0) (r.1 w.0) w.2);
    }) (signs_may all (filter r.1 ps) (with_bits r.0 r.1)))
  where
    ps : List ℕ
    ps = span a c

    new : (r : State × (ℕ → Bool)) → DueMay all due (some_one_where wanted) ps s r → (q : ℕ) → r.1 q ≡ true → (has ps q ≡ true) × (due q ≡ true)
    new r d q h = both (has ps q) (due q) (sym (has_filter due ps q) ∙ d.inside q h)

    signed : (r : State × (ℕ → Bool)) (q : ℕ) → has (filter r.1 ps) q ≡ true → r.1 q ≡ true
    signed r q h = (both (has ps q) (r.1 q) (sym (has_filter r.1 ps q) ∙ h)).1

    sign : (r : State × (ℕ → Bool)) → DueMay all due (some_one_where wanted) ps s r → (e : State) → SignsMay (filter r.1 ps) (with_bits r.0 r.1) e → (q : ℕ) →
        e.minus q ≡ true → (x : Bool) → has (filter r.1 ps) q ≡ x → (s.minus q ≡ true) ⊎ ((due q ≡ true) × (e.bits q ≡ true))
    sign r d e z q h true f = inr ((new r d q (signed r q f)).1, (λ i. (z.0 i).bits q) ∙ or_right (r.0.bits q) (r.1 q) (signed r q f))
    sign r d e z q h false f = inl (sym (z.1 q f ∙ (λ i. (d.rest i).minus q)) ∙ h)

-- ---- groups

-- the places of a group
abbrev pub group : (first j : ℕ) → List ℕ
group first j = span (first + 4 * j) 4

pub apart : (first i j q : ℕ) → (i ≡ j → ⊥) → has (group first i) q ≡ true → has (group first j) q ≡ false
apart first i j q ne inside = grind (arith, nat_tests, in_span, has_span)

-- the due places of the groups that are sent, from the a-th to before the b-th
abbrev pub InGroups : (due : ℕ → Bool) → (first : ℕ) → (sent : ℕ → Bool) → (a b : ℕ) → ℕ → Type 0
InGroups due first sent a b q = (j : ℕ) × (a ≤ j) × (j < b) × (sent j ≡ true) × (has (group first j) q ≡ true) × (due q ≡ true)

pub record GroupsMay (all : Bool) (due : ℕ → Bool) (first : ℕ) (sent wanted : ℕ → Bool) (a b : ℕ) (s e : State) : Type 0 where
  pub leaves : Leaves all due (InGroups due first sent a b) s e
  pub families : (i : ℕ) → e.families i ≡ s.families i
  pub some : (j : ℕ) → a ≤ j → j < b → sent j ≡ true → wanted j ≡ true → list_any due (group first j) ≡ true →
      (q : ℕ) × (has (group first j) q ≡ true) × (e.bits q ≡ true)

pub groups_may : (all : Bool) (book : Book) → (all ≡ true → is_book_sound book ≡ true) → (due : ℕ → Bool) (first : ℕ) (sent wanted : ℕ → Bool)
    (a n : ℕ) (s : State) → (all ≡ true → HasOptions s.options) →
    ((j : ℕ) → j < a + n → all ≡ true → wanted j ≡ true → list_any due (group first j) ≡ true) →
    May all (in_turn (group_script book due first sent wanted) a n s) (GroupsMay all due first sent wanted a (a + n) s)
groups_may all book is_sound due first sent wanted a n s given answer =
    may_in_turn all (λ b. GroupsMay all due first sent wanted a b s) (group_script book due first sent wanted) a n
    (λ i u low high p. one i u low high p (sent i) refl) s (record {
      leaves = leaves_word all due (InGroups due first sent a a) s s given refl (λ n x h. h);
      families = λ i. refl;
      some = λ j low high is want list. absurd (omega (arith, low, high));
    })
  where
    wider : (i q : ℕ) → InGroups due first sent a i q → InGroups due first sent a (suc i) q
    wider i q x = let lt = x.2 in (x.0, x.1, omega (arith, lt), x.3, x.4, x.5)

    one : (i : ℕ) (u : State) → a ≤ i → i < a + n → GroupsMay all due first sent wanted a i s u → (x : Bool) → sent i ≡ x →
        May all (if x then types_script book due (wanted i) (group first i) u else done u) (GroupsMay all due first sent wanted a (suc i) s)
    one i u low high p true e = may_weaker all (TypesMay all due (wanted i) (group first i) u) (GroupsMay all due first sent wanted a (suc i) s)
        (types_script book due (wanted i) (group first i) u) (λ v w. record {
          leaves = leaves_then all due (InGroups due first sent a (suc i)) s u v
              (leaves_more all due (InGroups due first sent a i) (InGroups due first sent a (suc i)) (wider i) s u p.leaves)
              (leaves_more all due (λ q. (has (group first i) q ≡ true) × (due q ≡ true)) (InGroups due first sent a (suc i))
              (λ q x. (i, low, omega arith, e, x.0, x.1)) u v w.leaves);
          families = λ k. w.families k ∙ p.families k;
          some = λ j from to is want list. elim (cases_lt j i) [
            | inl lt ↦ (let z = p.some j from lt is want list in (z.0, z.1, w.leaves.changes.more z.0 z.2))
            | inr ge ↦ (let same : i ≡ j = omega (arith, to, ge) in
                subst (λ k. (q : ℕ) × (has (group first k) q ≡ true) × (v.bits q ≡ true)) same
                (w.some (subst (λ k. wanted k ≡ true) (sym same) want) (subst (λ k. list_any due (group first k) ≡ true) (sym same) list)))
          ];
        }) (types_may all book is_sound due (wanted i) (first + 4 * i) 4 u p.leaves.known (λ x. omega arith) (answer i high))
    one i u low high p false e = record {
      leaves = leaves_more all due (InGroups due first sent a i) (InGroups due first sent a (suc i)) (wider i) s u p.leaves;
      families = p.families;
      some = λ j from to is want list. elim (cases_lt j i) [
        | inl lt ↦ p.some j from lt is want list
        | inr ge ↦ (let same : j ≡ i = omega (arith, to, ge) in absurd (no_clash (sent j) is (ap sent same ∙ e)))
      ];
    }
