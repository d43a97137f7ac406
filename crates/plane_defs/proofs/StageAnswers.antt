-- What any possible answers to a stage of a block leave.
use Rattle.std.proofs.Common.{◌≡◌, ◌⊎◌, ℕ, zero, suc, ◌+◌, ◌*◌, ◌≤◌, ◌<◌, ◌==◌, ◌&&◌, ◌||◌, not, nat_lt, Bool, true, false, if◌then◌else◌, List, map}
use Rattle.std.proofs.Common.{length, filter, refl, ap, sym, ◌∙◌, subst, arith, ℤ, inl, inr, Option}
use Rattle.std.specs.List.{list_any}
use Rattle.std.proofs.lemmas.Bool.{cases_lt, or_right}
use Rattle.std.proofs.lemmas.Bool.Decides.{nat_tests}
use Rattle.std.proofs.lemmas.List.{length-map}
use Rattle.plane_defs.specs.declared.sets.Set.TheVariants.{Descendants, Family, Grandchildren, Quad}
use Rattle.plane_defs.specs.Spans.{span}
use Rattle.plane_defs.specs.Sets.{coded, significant, live, type_due, refined, quad_of}
use Rattle.plane_defs.specs.Codes.{is_book_sound}
use Rattle.plane_defs.specs.Steps.{Check, ones_at, some_one_where}
use Rattle.plane_defs.proofs.Equations.{type_due-is, refined-is}
use Rattle.item_defs.specs.Scripts.{Script, done, in_turn}
use Rattle.plane_defs.specs.Written.{has}
use Rattle.plane_defs.specs.States.{State, with_options, with_families}
use Rattle.plane_defs.specs.WordScripts.{due_script, group_script}
use Rattle.plane_defs.specs.StageScripts.{Terms, above, is_due, bit_script, dc_bit_script, parents_script, flag_script, descendants_script, children_script}
use Rattle.plane_defs.specs.StageScripts.{is_childless, quads_script, grandchildren_script, refinement_script, stage_script}
use Rattle.plane_defs.proofs.WordGoes.{HasOptions, both, span_short}
use Rattle.plane_defs.proofs.StageGoes.{no_clash, either, not_true, families_due, children_due, quads_due, grandchildren_due}
use Rattle.plane_defs.proofs.PlacesSent.{has_span, in_span, due_here, here_due}
use Rattle.plane_defs.proofs.Answers.{May, may_then, may_in_turn, may_weaker}
use Rattle.plane_defs.proofs.WordAnswers.{Grows, DueMay, due_may, some_answer, ones_answer}
use Rattle.plane_defs.proofs.TypesAnswers.{Changes, Leaves, leaves_word, leaves_then, leaves_more, TypesMay, types_may, group, apart, InGroups, GroupsMay}
use Rattle.plane_defs.proofs.TypesAnswers.{groups_may}

-- the places of a stage's types: from one to before another
abbrev pub lowest : ℕ → ℕ
lowest zero = 64
lowest (suc zero) = 1
lowest (suc (suc zero)) = 4
lowest (suc (suc (suc zero))) = 16
lowest (suc (suc (suc (suc k)))) = 64

abbrev pub highest : ℕ → ℕ
highest zero = 64
highest (suc zero) = 4
highest (suc (suc zero)) = 16
highest (suc (suc (suc k))) = 64

-- the places of the i-th sixteen
abbrev pub sixteen : (i : ℕ) → List ℕ
sixteen i = span (16 + 16 * i) 16

pub sixteens_apart : (i j q : ℕ) → (i ≡ j → ⊥) → has (sixteen i) q ≡ true → has (sixteen j) q ≡ false
sixteens_apart i j q ne inside = grind (arith, nat_tests, in_span, has_span)

module _ (t : Terms) (block : List ℤ) where
  abbrev pub W : List ℕ
  W = t.weights

  abbrev pub b : ℕ
  b = t.plane

  abbrev pub due : ℕ → Bool
  due = type_due block W b

  -- a bit of the plane can be other than 0 there
  abbrev pub may_have : (depth : ℕ) → ℕ → Bool
  may_have depth q = if q == 0 then coded W b 0 && nat_lt b t.q else coded W b q && nat_lt b depth

  -- what a stage can change: due types of its places, refined numbers, and the DC's bit
  abbrev pub Touched : (depth k : ℕ) → ℕ → Type 0
  Touched depth k q = (may_have depth q ≡ true) × (((lowest k ≤ q) × (q < highest k) × (due q ≡ true)) ⊎
      (((4 ≤ k) × (1 ≤ q) × (refined block W b q ≡ true)) ⊎ ((k ≡ 0) × (q ≡ 0))))

  -- bits are where a number can have one, and only new numbers have a sign
  pub record Fair (depth : ℕ) (s : State) : Type 0 where
    pub bits : (q : ℕ) → s.bits q ≡ true → may_have depth q ≡ true
    pub minus : (q : ℕ) → s.minus q ≡ true → (due q ≡ true) × (s.bits q ≡ true)

  pub record ChildrenMay (s e : State) : Type 0 where
    pub was : (i : ℕ) → i < 3 → above t block (Family i) ≡ true → e.families i ≡ true
    pub none : (i : ℕ) → i < 3 → e.families i ≡ false → (q : ℕ) → has (group 4 i) q ≡ true → e.bits q ≡ s.bits q
    pub some : (i : ℕ) → i < 3 → e.families i ≡ true →
        (above t block (Family i) ≡ true) ⊎ (((q : ℕ) × (has (group 4 i) q ≡ true) × (e.bits q ≡ true)) ⊎ (live W b (Grandchildren i) ≡ true))

  pub record GrandMay (s e : State) : Type 0 where
    pub none : (i : ℕ) → i < 3 → s.families i ≡ false → above t block (Grandchildren i) ≡ false → (q : ℕ) → has (sixteen i) q ≡ true → e.bits q ≡ s.bits q
    pub forced : (i : ℕ) → i < 3 → is_childless t block s i ≡ true → above t block (Grandchildren i) ≡ false → live W b (Grandchildren i) ≡ true →
        (q : ℕ) × (has (sixteen i) q ≡ true) × (e.bits q ≡ true)

  -- what a stage leaves of a block
  pub record Facts (k depth : ℕ) (s e : State) : Type 0 where
    pub changes : Changes due (Touched depth k) s.bits s.minus e
    pub families : (k ≡ 2 → ⊥) → (i : ℕ) → e.families i ≡ s.families i
    pub children : k ≡ 2 → nat_lt b depth ≡ true → ChildrenMay s e
    pub grand : k ≡ 3 → nat_lt b depth ≡ true → GrandMay s e

  -- the states after each of n stages from the k-th on
  abbrev pub Chain : (depth k n : ℕ) → State → State → Type 0
  Chain depth k zero s e = s ≡ e
  Chain depth k (suc n) s e = (m : State) × Facts k depth s m × Chain depth (suc k) n m e

  pub fair_next : (k depth : ℕ) (s e : State) → Facts k depth s e → Fair depth s → Fair depth e
  fair_next k depth s e f fair = record {
    bits = λ q h. by q h (may_have depth q) refl;
    minus = λ q h. elim (f.changes.signs q h) [
      | inl old ↦ (let w = fair.minus q old in (w.0, f.changes.more q w.1))
      | inr new ↦ new
    ];
  }
    where
      by : (q : ℕ) → e.bits q ≡ true → (x : Bool) → may_have depth q ≡ x → x ≡ true
      by q h1 x h2 = grind (arith, nat_tests)

  due_coded : (q : ℕ) → due q ≡ true → coded W b q ≡ true
  due_coded q e = (both (not (significant block (b + 1) q)) (coded W b q) (sym (type_due-is block W b q) ∙ e)).1

  deep_may : (depth q : ℕ) → nat_lt b depth ≡ true → 1 ≤ q → coded W b q ≡ true → may_have depth q ≡ true
  deep_may depth q deep some c = let e : (q == 0) ≡ false = grind (arith, nat_tests) in
      ap (λ (x : Bool). if x then coded W b 0 && nat_lt b t.q else coded W b q && nat_lt b depth) e ∙ ap (λ x. x && nat_lt b depth) c ∙ deep

  pub not_old : (q : ℕ) → due q ≡ true → refined block W b q ≡ true → ⊥
  not_old q e f = grind (arith, nat_tests, type_due-is, refined-is)

  -- a due type is only read in its stage
  pub untouched : (depth k q : ℕ) → due q ≡ true → 1 ≤ q → (lowest k ≤ q → q < highest k → ⊥) → Touched depth k q → ⊥
  untouched depth k q is some out x = elim x.1 [
    | inl w ↦ out w.0 w.1
    | inr y ↦ elim y [
      | inl w ↦ not_old q is w.2
      | inr w ↦ absurd (omega (arith, some, w.1))
    ]
  ]

  -- the due places of a span within the places of a stage
  in_stage : (depth k a c : ℕ) → nat_lt b depth ≡ true → 1 ≤ a → lowest k ≤ a → a + c ≤ highest k → (q : ℕ) → has (span a c) q ≡ true → due q ≡ true →
      Touched depth k q
  in_stage depth k a c deep some low high q inside is =
      let w = in_span a c q inside in
      (deep_may depth q deep (omega (arith, some, w.0)) (due_coded q is), inl (omega (arith, low, w.0), omega (arith, high, w.1), is))

-- ---- the answers

module _ (all : Bool) (t : Terms) (is_sound : is_book_sound t.book ≡ true) (block : List ℤ) where
  abbrev Known : State → Type 0
  Known s = all ≡ true → HasOptions s.options

  abbrev D : ℕ → Bool
  D = due t block

  -- ---- sixteen grandchildren

  pub record QuadsMay (i : ℕ) (new : Bool) (s e : State) : Type 0 where
    pub leaves : Leaves all D (λ q. (has (sixteen i) q ≡ true) × (D q ≡ true)) s e
    pub families : (i : ℕ) → e.families i ≡ s.families i
    pub some : (enclosing : Bool) → new ≡ true → is_due t block (Grandchildren i) enclosing ≡ true → (q : ℕ) × (has (sixteen i) q ≡ true) × (e.bits q ≡ true)

  quad_inside : (i j q : ℕ) → j < 4 → has (group (quad_of i 0) j) q ≡ true → has (sixteen i) q ≡ true
  quad_inside i j q lt inside = grind (arith, nat_tests, in_span, has_span)

  pub quads_may : (i : ℕ) (new : Bool) (s : State) → Known s →
      (all ≡ true → new ≡ true → (enclosing : Bool) × (is_due t block (Grandchildren i) enclosing ≡ true)) →
      May all (quads_script t block i new s) (QuadsMay i new s)
  quads_may i new s known answer =
      may_then all (DueMay all set (some_one_where new) (span 0 4) s) (QuadsMay i new s) (due_script t.book set (some_one_where new) (span 0 4) s)
      (λ r. in_turn (group_script t.book D (quad_of i 0) (sent r) r.1) 0 4 r.0)
      (due_may all t.book (λ x. is_sound) set (some_one_where new) (span 0 4) s known (λ x. span_short 0 4)
      (λ x. some_answer set new (span 0 4) (λ e. (let w = answer x e in quads_due t is_sound block i w.0 w.1))))
      (λ r d. may_weaker all (GroupsMay all D (quad_of i 0) (sent r) r.1 0 (0 + 4) r.0) (QuadsMay i new s)
      (in_turn (group_script t.book D (quad_of i 0) (sent r) r.1) 0 4 r.0)
      (λ e m. record {
        leaves = leaves_then all D Here s r.0 e (leaves_word all D Here s r.0 d.known d.rest d.grows)
            (leaves_more all D (InGroups D (quad_of i 0) (sent r) 0 (0 + 4)) Here (λ q x. (quad_inside i x.0 q x.2 x.4, x.5)) r.0 e m.leaves);
        families = λ k. m.families k ∙ (λ x. (d.rest x).families k);
        some = λ enclosing want is.
            let w = d.some (ap some_one_where want) (quads_due t is_sound block i enclosing is) in
            let here = here_due set 4 w.0 w.1 in
            let z = m.some w.0 (omega arith) here.0 (or_right (above t block (Quad i w.0)) (r.1 w.0) w.2) w.2
            (grandchildren_due t is_sound block i w.0 here.1) in
            (z.0, quad_inside i w.0 z.0 here.0 z.1, z.2);
      })
      (groups_may all t.book (λ x. is_sound) D (quad_of i 0) (sent r) r.1 0 4 r.0 d.known
      (λ j lt x e. grandchildren_due t is_sound block i j (here_due set 4 j (d.inside j e)).1)))
    where
      Here : ℕ → Type 0
      Here q = (has (sixteen i) q ≡ true) × (D q ≡ true)

      set : ℕ → Bool
      set j = is_due t block (Quad i j) true

      sent : State × (ℕ → Bool) → ℕ → Bool
      sent r j = above t block (Quad i j) || r.1 j

  -- ---- the grandchildren, sixteen by sixteen

  module _ (sent new : ℕ → Bool) where
    -- the due places of the sixteens that are sent, from the a-th to before the c-th
    abbrev pub InSixteens : (a c : ℕ) → ℕ → Type 0
    InSixteens a c q = (i : ℕ) × (a ≤ i) × (i < c) × (sent i ≡ true) × (has (sixteen i) q ≡ true) × (D q ≡ true)

    pub record SixteensMay (a c : ℕ) (s e : State) : Type 0 where
      pub leaves : Leaves all D (InSixteens a c) s e
      pub families : (i : ℕ) → e.families i ≡ s.families i
      pub some : (i : ℕ) → a ≤ i → i < c → sent i ≡ true → new i ≡ true → (enclosing : Bool) → is_due t block (Grandchildren i) enclosing ≡ true →
          (q : ℕ) × (has (sixteen i) q ≡ true) × (e.bits q ≡ true)

    pub sixteens_may : (a n : ℕ) (s : State) → Known s →
        (all ≡ true → (i : ℕ) → new i ≡ true → (enclosing : Bool) × (is_due t block (Grandchildren i) enclosing ≡ true)) →
        May all (in_turn (λ i u. if sent i then quads_script t block i (new i) u else done u) a n s) (SixteensMay a (a + n) s)
    sixteens_may a n s known answer =
        may_in_turn all (λ c. SixteensMay a c s) (λ i u. if sent i then quads_script t block i (new i) u else done u) a n
        (λ i u low high p. one i u low p (sent i) refl) s (record {
          leaves = leaves_word all D (InSixteens a a) s s known refl (λ n x h. h);
          families = λ i. refl;
          some = λ i low high is want enclosing due. absurd (omega (arith, low, high));
        })
      where
        wider : (i q : ℕ) → InSixteens a i q → InSixteens a (suc i) q
        wider i q x = let lt = x.2 in (x.0, x.1, omega (arith, lt), x.3, x.4, x.5)

        one : (i : ℕ) (u : State) → a ≤ i → SixteensMay a i s u → (x : Bool) → sent i ≡ x →
            May all (if x then quads_script t block i (new i) u else done u) (SixteensMay a (suc i) s)
        one i u low p true e = may_weaker all (QuadsMay i (new i) u) (SixteensMay a (suc i) s)
            (quads_script t block i (new i) u) (λ z w. record {
              leaves = leaves_then all D (InSixteens a (suc i)) s u z (leaves_more all D (InSixteens a i) (InSixteens a (suc i)) (wider i) s u p.leaves)
                  (leaves_more all D (λ q. (has (sixteen i) q ≡ true) × (D q ≡ true)) (InSixteens a (suc i)) (λ q x. (i, low, omega arith, e, x.0, x.1)) u z
                  w.leaves);
              families = λ k. w.families k ∙ p.families k;
              some = λ j from to is want enclosing due. elim (cases_lt j i) [
                | inl lt ↦ (let k = p.some j from lt is want enclosing due in (k.0, k.1, w.leaves.changes.more k.0 k.2))
                | inr ge ↦ (let one : i ≡ j = omega (arith, to, ge) in
                    subst (λ k. (q : ℕ) × (has (sixteen k) q ≡ true) × (z.bits q ≡ true)) one
                    (w.some enclosing (ap new one ∙ want) (subst (λ k. is_due t block (Grandchildren k) enclosing ≡ true) (sym one) due)))
              ];
            }) (quads_may i (new i) u p.leaves.known (λ x. answer x i))
        one i u low p false e = record {
          leaves = leaves_more all D (InSixteens a i) (InSixteens a (suc i)) (wider i) s u p.leaves;
          families = p.families;
          some = λ j from to is want enclosing due. elim (cases_lt j i) [
            | inl lt ↦ p.some j from lt is want enclosing due
            | inr ge ↦ (let one : j ≡ i = omega (arith, to, ge) in absurd (no_clash (sent j) is (ap sent one ∙ e)))
          ];
        }

  -- ---- flags of all descendants

  -- the flag of a set that no other encloses
  pub record FlagMay (is_live was flag : Bool) : Type 0 where
    pub stays : was ≡ true → flag ≡ true
    pub new : flag ≡ true → was ≡ false → is_live ≡ true

  pub flag_may : (is_live was : Bool) (s : State) → May all (flag_script is_live was s) (FlagMay is_live was)
  flag_may true true s = record { stays = λ e. refl; new = λ e f. refl }
  flag_may true false s = (λ x. (tt, (0, omega arith, tt)), λ n said good. record { stays = λ e. absurd (no e); new = λ e f. refl })
    where
      no : false ≡ true → ⊥
      no e = cc
  flag_may false true s = record { stays = λ e. refl; new = λ e f. absurd (no f) }
    where
      no : true ≡ false → ⊥
      no e = cc
  flag_may false false s = record { stays = λ e. e; new = λ e f. e }

  -- ---- a stage

  module _ (depth : ℕ) where
    pub record StageMay (k : ℕ) (s e : State) : Type 0 where
      pub leaves : Leaves all D (Touched t block depth k) s e
      pub families : (k ≡ 2 → ⊥) → (i : ℕ) → e.families i ≡ s.families i

    nothing_changes : (k : ℕ) (s : State) → Known s → StageMay k s s
    nothing_changes k s known = record { leaves = leaves_word all D (Touched t block depth k) s s known refl (λ n x h. h); families = λ ne i. refl }

    -- ---- stages 0, 1 and 4

    bit_may : (k p : ℕ) → Touched t block depth k p → (s u : State) → StageMay k s u → May all (bit_script p u) (StageMay k s)
    bit_may k p here s u w = (
      λ x. (tt, (0, omega arith, tt)),
      λ n said good. record {
        leaves = record {
          known = w.leaves.known;
          grows = w.leaves.grows;
          changes = record {
            bits = λ q out. kept q (n == 1) out (q == p) refl ∙ w.leaves.changes.bits q out;
            minus = w.leaves.changes.minus;
            more = λ q h. ap (λ y. y || (false || ((q == p) && (n == 1)))) (w.leaves.changes.more q h);
            signs = λ q h. elim (w.leaves.changes.signs q h) [
              | inl old ↦ inl old
              | inr new ↦ inr (new.0, ap (λ y. y || (false || ((q == p) && (n == 1)))) new.1)
            ];
          };
        };
        families = w.families;
      },
    )
      where
        kept : (q : ℕ) (y : Bool) → (Touched t block depth k q → ⊥) → (x : Bool) → (q == p) ≡ x → (u.bits q || (false || (x && y))) ≡ u.bits q
        kept q y h1 x h2 = grind (arith, nat_tests)

    dc_may : (s : State) → Known s → May all (dc_bit_script t s) (StageMay 0 s)
    dc_may s known = by (coded t.weights t.plane 0 && nat_lt t.plane t.q) refl
      where
        by : (c : Bool) → (coded t.weights t.plane 0 && nat_lt t.plane t.q) ≡ c → May {G = State} all (if c then bit_script 0 s else done s) (StageMay 0 s)
        by true e = bit_may 0 0 (e, inr (inr (refl, refl))) s s (nothing_changes 0 s known)
        by false e = nothing_changes 0 s known

    module _ (deep : nat_lt t.plane depth ≡ true) where
      parents_may : (s : State) → Known s → May all (parents_script t block s) (StageMay 1 s)
      parents_may s known =
          may_weaker all (TypesMay all D false (span 1 3) s) (StageMay 1 s) (parents_script t block s) (λ e z. record {
            leaves = leaves_more all D (λ q. (has (span 1 3) q ≡ true) × (D q ≡ true)) (Touched t block depth 1)
                (λ q x. in_stage t block depth 1 1 3 deep (omega arith) (omega arith) (omega arith) q x.0 x.1) s e z.leaves;
            families = λ ne. z.families;
          }) (types_may all t.book (λ x. is_sound) D false 1 3 s known (λ x. omega arith) (λ x e. absurd cc))

      refine_may : (k : ℕ) → 4 ≤ k → (s : State) → Known s → May all (refinement_script t block s) (StageMay k s)
      refine_may k last s known =
          may_in_turn all (λ i. StageMay k s) (λ p u. if refined block t.weights t.plane p then bit_script p u else done u) 1 63
          (λ p u low high w. one p u low w (refined block t.weights t.plane p) refl) s (nothing_changes k s known)
        where
          one : (p : ℕ) (u : State) → 1 ≤ p → StageMay k s u → (x : Bool) → refined block t.weights t.plane p ≡ x →
              May {G = State} all (if x then bit_script p u else done u) (StageMay k s)
          one p u low w true g =
              bit_may k p (
                deep_may t block depth p deep low (both (significant block (t.plane + 1) p) (coded t.weights t.plane p)
                    (sym (refined-is block t.weights t.plane p) ∙
                    g)).1,
                inr (inl (last, low, g)),
              ) s u w
          one p u low w false g = w

      -- ---- stage 2

      children_may : (s : State) → Known s → May all (children_script t block s) (λ e. StageMay 2 s e × ChildrenMay t block s e)
      children_may s known =
          may_then all (FlagMay (live W' b' Descendants) (above t block Descendants)) End (descendants_script t block s) _ (flag_may (live W' b' Descendants)
          (above t block Descendants) s)
          (λ flag f.
          may_then all (DueMay all (fam flag) (check flag) (span 0 3) s) End (due_script t.book (fam flag) (check flag) (span 0 3) s) _
          (due_may all t.book (λ x. is_sound) (fam flag) (check flag) (span 0 3) s known (λ x. (let l = span_short 0 3 in omega (arith, l)))
          (λ x. some_answer (fam flag) (flag && not (above t block Descendants)) (span 0 3) (some flag f)))
          (λ g d.
          may_then all (GroupsMay all D 4 (sent g) (wanted g) 0 (0 + 3) g.0) End (in_turn (group_script t.book D 4 (sent g) (wanted g)) 0 3 g.0) (λ u. done
          (with_families u (sent g)))
          (groups_may all t.book (λ x. is_sound) D 4 (sent g) (wanted g) 0 3 g.0 d.known
          (λ j lt x e. (let w = both (g.1 j) (not (live W' b' (Grandchildren j))) e in
          children_due t is_sound block j flag (here_due (fam flag) 3 j (d.inside j w.0)).1 (not_true t is_sound block (live W' b' (Grandchildren j)) w.1))))
          (λ u z.
          let w = leaves_then all D (Touched t block depth 2) s g.0 u (leaves_word all D (Touched t block depth 2) s g.0 d.known d.rest d.grows)
          (leaves_more all D (InGroups D 4 (sent g) 0 (0 + 3)) (Touched t block depth 2)
          (λ q x. in_stage t block depth 2 (4 + 4 * x.0) 4 deep (omega arith) (omega arith) (let lt = x.2 in omega (arith, lt)) q x.4 x.5) g.0 u z.leaves) in (
            record {
              leaves = record {
                known = w.known;
                grows = w.grows;
                changes = record { bits = w.changes.bits; minus = w.changes.minus; more = w.changes.more; signs = w.changes.signs };
              };
              families = λ ne i. absurd (ne refl);
            },
            record {
              was = λ i lt h. ap (λ x. x || g.1 i) h;
              none = λ i lt h q inside. z.leaves.changes.bits q (λ x. alone g i x.0 q inside x.4 x.3 h (x.0 == i) refl) ∙ (λ k. (d.rest k).bits q);
              some = λ i lt h. elim (either (above t block (Family i)) (g.1 i) h) [
                | inl old ↦ inl old
                | inr new ↦ inr (parts flag g u z d i lt h new (live W' b' (Grandchildren i)) refl)
              ];
            },
          ))))
        where
          W' : List ℕ
          W' = t.weights

          b' : ℕ
          b' = t.plane

          End : State → Type 0
          End e = StageMay 2 s e × ChildrenMay t block s e

          fam : Bool → ℕ → Bool
          fam flag i = is_due t block (Family i) flag

          check : Bool → Check
          check flag = some_one_where (flag && not (above t block Descendants))

          sent : State × (ℕ → Bool) → ℕ → Bool
          sent g i = above t block (Family i) || g.1 i

          wanted : State × (ℕ → Bool) → ℕ → Bool
          wanted g i = g.1 i && not (live t.weights t.plane (Grandchildren i))

          some : (flag : Bool) → FlagMay (live t.weights t.plane Descendants) (above t block Descendants) flag →
              (flag && not (above t block Descendants)) ≡ true → list_any (λ i. is_due t block (Family i) flag) (span 0 3) ≡ true
          some flag f e =
              let w = both flag (not (above t block Descendants)) e in
              let low = not_true t is_sound block (above t block Descendants) w.1 in
              subst (λ x. list_any (λ i. is_due t block (Family i) x) (span 0 3) ≡ true) (sym w.0) (families_due t is_sound block low (f.new w.0 low))

          alone : (g : State × (ℕ → Bool)) (i j q : ℕ) → has (group 4 i) q ≡ true → has (group 4 j) q ≡ true → sent g j ≡ true → sent g i ≡ false →
              (x : Bool) → (j == i) ≡ x → ⊥
          alone g i j q inside there is not_sent true e =
              let one : j ≡ i = grind (arith, nat_tests) in no_clash (sent g i) (ap (sent g) (sym one) ∙ is) not_sent
          alone g i j q inside there is not_sent false e =
              let ne : i ≡ j → ⊥ = grind (arith, nat_tests) in no_clash (has (group 4 j) q) there (apart 4 i j q ne inside)

          parts : (flag : Bool) (g : State × (ℕ → Bool)) (u : State) → GroupsMay all D 4 (sent g) (wanted g) 0 (0 + 3) g.0 u →
              DueMay all (fam flag) (check flag) (span 0 3) s g → (i : ℕ) → i < 3 → sent g i ≡ true → g.1 i ≡ true → (x : Bool) →
              live t.weights t.plane (Grandchildren i) ≡ x →
              ((q : ℕ) × (has (group 4 i) q ≡ true) × (u.bits q ≡ true)) ⊎ (live t.weights t.plane (Grandchildren i) ≡ true)
          parts flag g u z d i lt is new true e = inr e
          parts flag g u z d i lt is new false e =
              inl (z.some i (omega arith) lt is (ap (λ x. x && not (live t.weights t.plane (Grandchildren i))) new ∙ ap not e)
              (children_due t is_sound block i flag (here_due (fam flag) 3 i (d.inside i new)).1 e))

      -- ---- stage 3

      grandchildren_may : (s : State) → Known s → May all (grandchildren_script t block s) (λ e. StageMay 3 s e × GrandMay t block s e)
      grandchildren_may s known =
          may_then all (DueMay all set check (span 0 3) s) End (due_script t.book set check (span 0 3) s) _
          (due_may all t.book (λ x. is_sound) set check (span 0 3) s known (λ x. (let l = span_short 0 3 in omega (arith, l)))
          (λ x. ones_answer (map (is_childless t block s) (filter set (span 0 3))) (length (filter set (span 0 3)))
          (length-map (filter set (span 0 3)) (is_childless t block s))))
          (λ g d.
          may_weaker all (SixteensMay (sent g) g.1 0 (0 + 3) g.0) End (next g)
          (λ e z. (
            record {
              leaves = leaves_then all D (Touched t block depth 3) s g.0 e (leaves_word all D (Touched t block depth 3) s g.0 d.known d.rest d.grows)
                  (leaves_more all D (InSixteens (sent g) g.1 0 (0 + 3)) (Touched t block depth 3)
                  (λ q x. in_stage t block depth 3 (16 + 16 * x.0) 16 deep (omega arith) (omega arith) (let lt = x.2 in omega (arith, lt)) q x.4 x.5) g.0 e
                  z.leaves);
              families = λ ne i. z.families i ∙ (λ k. (d.rest k).families i);
            },
            record {
              none = λ i lt f old q inside. z.leaves.changes.bits q (λ x. alone g d i x.0 q lt inside x.4 x.3 f old (x.0 == i) refl) ∙ (λ k. (d.rest k).bits q);
              forced = λ i lt childless old is_live.
                  let enclosed = (both (s.families i && not (above t block (Family i))) _ childless).0 in
                  let family = (both (s.families i) (not (above t block (Family i))) enclosed).0 in
                  let is_set : set i ≡ true = ap (λ x. x && (not (above t block (Grandchildren i)) && live t.weights t.plane (Grandchildren i))) family ∙
                  ap (λ x. not x && live t.weights t.plane (Grandchildren i)) old ∙ is_live in
                  let new : g.1 i ≡ true = d.each (is_childless t block s) refl i (due_here set 3 i lt is_set) childless in
                  z.some i (omega arith) lt (or_right (above t block (Grandchildren i)) (g.1 i) new) new (s.families i) is_set;
            },
          ))
          (sixteens_may (sent g) g.1 0 3 g.0 d.known (λ x i e. (s.families i, (here_due set 3 i (d.inside i e)).1))))
        where
          End : State → Type 0
          End e = StageMay 3 s e × GrandMay t block s e

          set : ℕ → Bool
          set i = is_due t block (Grandchildren i) (s.families i)

          check : Check
          check = ones_at (map (is_childless t block s) (filter set (span 0 3)))

          sent : State × (ℕ → Bool) → ℕ → Bool
          sent g i = above t block (Grandchildren i) || g.1 i

          next : State × (ℕ → Bool) → Script State State
          next g = in_turn (λ i u. if above t block (Grandchildren i) || g.1 i then quads_script t block i (g.1 i) u else done u) 0 3 g.0

          alone : (g : State × (ℕ → Bool)) → DueMay all set check (span 0 3) s g → (i j q : ℕ) → i < 3 → has (sixteen i) q ≡ true → has (sixteen j) q ≡ true →
              sent g j ≡ true → s.families i ≡ false → above t block (Grandchildren i) ≡ false → (x : Bool) → (j == i) ≡ x → ⊥
          alone g d i j q lt inside there is f old true e =
              let one : j ≡ i = grind (arith, nat_tests) in
              elim (either (above t block (Grandchildren i)) (g.1 i) (ap (sent g) (sym one) ∙ is)) [
                | inl a ↦ no_clash (above t block (Grandchildren i)) a old
                | inr a ↦ no_clash (s.families i) (both (s.families i) _ (here_due set 3 i (d.inside i a)).1).0 f
              ]
          alone g d i j q lt inside there is f old false e =
              let ne : i ≡ j → ⊥ = grind (arith, nat_tests) in no_clash (has (sixteen j) q) there (sixteens_apart i j q ne inside)

    -- ---- any stage, within a plane: with the options of its gaggle

    abbrev pub Left : (k : ℕ) → State → (ℕ → Option ℕ) → State → Type 0
    Left k s x e = Known e × Grows (with_options s x) e × Facts t block k depth s e

    facts_from : (k : ℕ) (s : State) (x : ℕ → Option ℕ) (e : State) → StageMay k (with_options s x) e →
        (k ≡ 2 → nat_lt t.plane depth ≡ true → ChildrenMay t block (with_options s x) e) →
        (k ≡ 3 → nat_lt t.plane depth ≡ true → GrandMay t block (with_options s x) e) → Left k s x e
    facts_from k s x e m c g = (
      m.leaves.known,
      m.leaves.grows,
      record {
        changes = m.leaves.changes;
        families = m.families;
        children = λ is deep. (let z = c is deep in record { was = z.was; none = z.none; some = z.some });
        grand = λ is deep. (let z = g is deep in record { none = z.none; forced = z.forced });
      },
    )

    pub facts_may : (k : ℕ) (s : State) (x : ℕ → Option ℕ) → (all ≡ true → HasOptions x) →
        May all (stage_script t k depth block (with_options s x)) (Left k s x)
    facts_may k s x known = by (k == 0) refl (nat_lt t.plane depth) refl (k == 1) refl (k == 2) refl (k == 3) refl
      where
        now : State
        now = with_options s x

        plain : (j : ℕ) → k ≡ j → (j ≡ 2 → ⊥) → (j ≡ 3 → ⊥) → (script : Script State State) → May all script (StageMay j now) → May all script (Left k s x)
        plain j is two three script m =
            may_weaker all (StageMay j now) (Left k s x) script
            (λ e w. subst (λ i. Left i s x e) (sym is) (facts_from j s x e w (λ h. absurd (two h)) (λ h. absurd (three h)))) m

        by : (a : Bool) → (k == 0) ≡ a → (d : Bool) → nat_lt t.plane depth ≡ d → (p : Bool) → (k == 1) ≡ p → (c : Bool) → (k == 2) ≡ c →
            (g : Bool) → (k == 3) ≡ g →
            May all (if a then dc_bit_script t now else if not d then done now else if p then parents_script t block now else
            if c then children_script t block now else if g then grandchildren_script t block now else refinement_script t block now) (Left k s x)
        by true e d deep p f c h g i =
            plain 0 (grind (arith, nat_tests)) (λ z. absurd (omega (arith, z))) (λ z. absurd (omega (arith, z))) (dc_bit_script t now) (dc_may now known)
        by false e false deep p f c h g i =
            facts_from k s x now (nothing_changes k now known) (λ z is. absurd (no_clash (nat_lt t.plane depth) is deep))
            (λ z is. absurd (no_clash (nat_lt t.plane depth) is deep))
        by false e true deep true f c h g i =
            plain 1 (grind (arith, nat_tests)) (λ z. absurd (omega (arith, z))) (λ z. absurd (omega (arith, z))) (parents_script t block now)
            (parents_may deep now known)
        by false e true deep false f true h g i =
            let is : k ≡ 2 = grind (arith, nat_tests) in
            may_weaker all (λ e. StageMay 2 now e × ChildrenMay t block now e) (Left k s x) (children_script t block now)
            (λ e z. subst (λ i. Left i s x e) (sym is) (facts_from 2 s x e z.0 (λ y d. z.1) (λ y. absurd (omega (arith, y))))) (children_may deep now known)
        by false e true deep false f false h true i =
            let is : k ≡ 3 = grind (arith, nat_tests) in
            may_weaker all (λ e. StageMay 3 now e × GrandMay t block now e) (Left k s x) (grandchildren_script t block now)
            (λ e z. subst (λ i. Left i s x e) (sym is) (facts_from 3 s x e z.0 (λ y. absurd (omega (arith, y))) (λ y d. z.1)))
            (grandchildren_may deep now known)
        by false e true deep false f false h false i =
            let last : 4 ≤ k = grind (arith, nat_tests) in
            plain k refl (λ z. absurd (omega (arith, z, last))) (λ z. absurd (omega (arith, z, last))) (refinement_script t block now)
            (refine_may deep k last now known)
