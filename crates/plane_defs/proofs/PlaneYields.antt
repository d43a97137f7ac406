-- What the stages of a plane leave of its blocks, whatever is read.
use Rattle.std.proofs.Common.{◌≡◌, ℕ, suc, ◌+◌, ◌/◌, ◌≤◌, ◌<◌, ◌==◌, nat_lt, Bool, true}
use Rattle.std.proofs.Common.{false, if◌then◌else◌, List, [], length, refl, sym, subst, arith, ℤ, Option}
use Rattle.std.proofs.lemmas.Bool.Decides.{nat_tests}
use lib.ListN.{get_or}
use Rattle.item_defs.specs.Scripts.{around}
use Rattle.item_defs.proofs.ScriptYields.{Yields, yields_around, yields_turn, yields_weaker}
use Rattle.plane_defs.specs.States.{State, nothing, with_options}
use Rattle.plane_defs.specs.StageScripts.{Terms, stage_script}
use Rattle.plane_defs.specs.PlaneScript.{PlaneState, nothing_yet, of_block, with_block, blocks_script, plane_script}

-- the states of all blocks
abbrev pub All : (ℕ → State → Type 0) → PlaneState → Type 0
All P u = (r : ℕ) → P r (u.blocks r)

-- the states of blocks before the j-th are of one kind, and the others of another
abbrev Side : (P Q : ℕ → State → Type 0) → Bool → ℕ → State → Type 0
Side P Q true = Q
Side P Q false = P

abbrev Mid : (P Q : ℕ → State → Type 0) → ℕ → PlaneState → Type 0
Mid P Q j u = (r : ℕ) → Side P Q (nat_lt r j) r (u.blocks r)

mid_put : (P Q : ℕ → State → Type 0) (j : ℕ) (u : PlaneState) (b : State) → Mid P Q j u → Q j b → Mid P Q (suc j) (with_block u j b)
mid_put P Q j u b mid here r = by (r == j) refl
  where
    by : (x : Bool) → (r == j) ≡ x → Side P Q (nat_lt r (suc j)) r (if x then b else u.blocks r)
    by true e =
        let same : j ≡ r = grind (arith, nat_tests) in
        let before : nat_lt r (suc j) ≡ true = grind (arith, nat_tests) in
        subst (λ y. Side P Q y r b) (sym before) (subst (λ i. Q i b) same here)
    by false e =
        let unchanged : nat_lt r j ≡ nat_lt r (suc j) = grind (arith, nat_tests) in
        subst (λ y. Side P Q y r (u.blocks r)) unchanged (mid r)

all_put : (G : ℕ → State → Type 0) (j : ℕ) (u : PlaneState) (b : State) → All G u → G j b → All G (with_block u j b)
all_put G j u b all here r = by (r == j) refl
  where
    by : (x : Bool) → (r == j) ≡ x → G r (if x then b else u.blocks r)
    by true e = let same : j ≡ r = grind (arith, nat_tests) in subst (λ i. G i b) same here
    by false e = all r

-- of each block and stage: what is given, and what is there before the stage
module _ (G : ℕ → State → Type 0) (P : ℕ → ℕ → State → Type 0) (gives : (k r : ℕ) (s : State) → P k r s → G r s)
    (options : (k r : ℕ) (s : State) (o : ℕ → Option ℕ) → P k r s → P k r (with_options s o)) (t : Terms) (depths : List ℕ) (blocks : List (List ℤ))
    (past : (k r : ℕ) (s : State) → length depths ≤ r → P k r s → P (suc k) r s)
    (each : (k r : ℕ) (s : State) → k < 5 → r < length depths → P k r s →
    Yields (G r) (P (suc k) r) (stage_script t k (get_or depths r 0) (get_or blocks r []) s)) where
  mid_gives : (k j : ℕ) (u : PlaneState) → Mid (P k) (P (suc k)) j u → All G u
  mid_gives k j u mid r = by (nat_lt r j) (mid r)
    where
      by : (x : Bool) → Side (P k) (P (suc k)) x r (u.blocks r) → G r (u.blocks r)
      by true h = gives (suc k) r (u.blocks r) h
      by false h = gives k r (u.blocks r) h

  -- block j has not had the stage yet
  at_turn : (k j : ℕ) (u : PlaneState) → Mid (P k) (P (suc k)) j u → P k j (u.blocks j)
  at_turn k j u mid = let e : nat_lt j j ≡ false = grind (arith, nat_tests) in subst (λ x. Side (P k) (P (suc k)) x j (u.blocks j)) e (mid j)

  blocks_yield : (k : ℕ) → k < 5 → (u : PlaneState) → All (P k) u → Yields (All G) (All (P (suc k))) (blocks_script t depths blocks k u)
  blocks_yield k few u all =
      yields_weaker (All G) (Mid (P k) (P (suc k)) (0 + length depths)) (All (P (suc k))) (λ w mid r. last w r (nat_lt r (0 + length depths)) refl (mid r))
      (blocks_script t depths blocks k u)
      (yields_turn (All G) (Mid (P k) (P (suc k))) (λ r s. around (with_block s r) (stage_script t k (get_or depths r 0) (get_or blocks r []) (of_block s r))) 0
      (length depths)
      (λ r s low high mid.
      yields_around (G r) (P (suc k) r) (All G) (Mid (P k) (P (suc k)) (suc r)) (with_block s r) (λ b h. all_put G r s b (mid_gives k r s mid) h)
      (λ b h. mid_put (P k) (P (suc k)) r s b mid h) (stage_script t k (get_or depths r 0) (get_or blocks r []) (of_block s r))
      (each k r (of_block s r) few (omega (arith, high)) (options k r (s.blocks r) (s.options (r / 16)) (at_turn k r s mid))))
      u (λ r. first r))
    where
      first : (r : ℕ) → Side (P k) (P (suc k)) (nat_lt r 0) r (u.blocks r)
      first r = let e : nat_lt r 0 ≡ false = grind (arith, nat_tests) in subst (λ x. Side (P k) (P (suc k)) x r (u.blocks r)) (sym e) (all r)

      last : (w : PlaneState) (r : ℕ) (x : Bool) → nat_lt r (0 + length depths) ≡ x → Side (P k) (P (suc k)) x r (w.blocks r) → P (suc k) r (w.blocks r)
      last w r true e h = h
      last w r false e h = past k r (w.blocks r) (let ge : length depths ≤ r = grind (arith, nat_tests) in ge) h

  pub plane_yields : (n : ℕ) → n ≤ 5 → ((r : ℕ) → P 0 r nothing) → Yields (All G) (All (P n)) (plane_script t depths blocks n)
  plane_yields n le start =
      let e : 0 + n ≡ n = omega arith in
      subst (λ m. Yields (All G) (All (P m)) (plane_script t depths blocks n)) e
      (yields_turn (All G) (λ k. All (P k)) (blocks_script t depths blocks) 0 n (λ k u low high all. blocks_yield k (omega (arith, high, le)) u all)
      nothing_yet start)
