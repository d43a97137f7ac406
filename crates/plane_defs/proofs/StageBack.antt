-- The end decides what is read of a block in a stage.
use Rattle.std.proofs.Common.{◌≡◌, ℕ, zero, suc, ◌+◌, ◌≤◌, ◌<◌, ◌==◌, ◌&&◌, ◌||◌, not, nat_lt, Bool, true, false, if◌then◌else◌, List}
use Rattle.std.proofs.Common.{refl, ap, sym, ◌∙◌, arith, ℤ, pos}
use Rattle.std.proofs.lemmas.Bool.Decides.{nat_tests}
use Rattle.std.proofs.Math.Bool.{or-false}
use lib.ListN.{get_or}
use Rattle.item_defs.specs.Bits.{bit, digit}
use Rattle.plane_defs.specs.Sets.{magnitude, coded, type_due, newly_significant, refined}
use Rattle.plane_defs.specs.Codes.{is_book_sound}
use Rattle.plane_defs.specs.Entries.{twos_bit, negative}
use Rattle.plane_defs.specs.StepLaws.{SameAc}
use Rattle.plane_defs.specs.Laws.{IsMultiple}
use Rattle.item_defs.specs.Scripts.{Script, done}
use Rattle.plane_defs.specs.Written.{AreChosen}
use Rattle.plane_defs.specs.States.{State}
use Rattle.plane_defs.specs.StageScripts.{Terms, bit_script, dc_bit_script, parents_script, children_script, grandchildren_script, refinement_script}
use Rattle.plane_defs.specs.StageScripts.{stage_script}
use Rattle.plane_defs.proofs.Answers.{May, never, Decided, decided_more, decided_in_turn}
use Rattle.plane_defs.proofs.WordsBack.{same_place}
use Rattle.plane_defs.proofs.TypesBack.{digit_of, Empty, types_decided}
use Rattle.plane_defs.proofs.QuadsBack as quads
use Rattle.plane_defs.proofs.SetsBack.{grandchildren_decided}
use Rattle.plane_defs.proofs.ChildrenBack as children

module _ (o : List ℕ) (chosen : AreChosen o) (t : Terms) (is_sound : is_book_sound t.book ≡ true) (block v : List ℤ) (same : SameAc block v (t.plane + 1))
    (whole : IsMultiple v t.weights) where
  abbrev W : List ℕ
  W = t.weights

  abbrev b : ℕ
  b = t.plane

  abbrev Right : (a c : ℕ) → State → Type 0
  Right = quads.Right o chosen t is_sound block v same whole

  abbrev dc_bit : Bool
  dc_bit = (coded W b 0 && nat_lt b t.q) && twos_bit (get_or v 0 (pos 0)) b

  -- ---- stages 0 and 4

  bit_decided : (p : ℕ) (x : Bool) (s : State) → s.bits p ≡ false → Decided (bit_script p s) (λ e. e.bits p ≡ x)
  bit_decided p x s empty = (
    digit x,
    λ n said good. (
      λ r. digit_of n x said (sym (ap (λ y. y || (false || ((p == p) && (n == 1)))) empty ∙ ap (λ y. y && (n == 1)) (same_place p)) ∙ r),
      tt,
    ),
  )

  dc_decided : (s : State) → s.bits 0 ≡ false → Decided (dc_bit_script t s) (λ e. e.bits 0 ≡ dc_bit)
  dc_decided s empty = by (coded W b 0 && nat_lt b t.q)
    where
      by : (c : Bool) → Decided {G = State} (if c then bit_script 0 s else done s) (λ e. e.bits 0 ≡ (c && twos_bit (get_or v 0 (pos 0)) b))
      by true = bit_decided 0 (twos_bit (get_or v 0 (pos 0)) b) s empty
      by false = tt

  -- the refinement of the positions from one to before another
  abbrev Fine : (a c : ℕ) → (ℕ → Bool) → State → Type 0
  Fine a c x s = (q : ℕ) → a ≤ q → q < c → refined block W b q ≡ true → s.bits q ≡ x q

  refinement_decided : (s : State) → Fine 1 64 (λ q. false) s → Decided (refinement_script t block s) (Fine 1 64 (λ q. bit (magnitude v q) b))
  refinement_decided s empty =
      (decided_in_turn (λ p. Fine p 64 (λ q. false)) (λ p. Fine 1 p (λ q. bit (magnitude v q) b))
      (λ p u. if refined block W b p then bit_script p u else done u) 1 63
      (λ p u low high k. one p u low high k (refined block W b p) refl) s empty).1
    where
      one : (p : ℕ) (u : State) → 1 ≤ p → p < 64 → Fine p 64 (λ q. false) u → (x : Bool) → refined block W b p ≡ x →
          May {G = State} false (if x then bit_script p u else done u)
          (λ w. Fine (suc p) 64 (λ q. false) w × (Fine 1 (suc p) (λ q. bit (magnitude v q) b) w → Fine 1 p (λ q. bit (magnitude v q) b) u)) ×
          Decided {G = State} (if x then bit_script p u else done u) (Fine 1 (suc p) (λ q. bit (magnitude v q) b))
      one p u low high k true g = (
        (
          never,
          λ n said good. (
            λ q from to h. (let ne : (q == p) ≡ false = grind (arith, nat_tests) in kept q (n == 1) ne ∙ k q (omega (arith, from)) to h),
            λ r q from to h. (let ne : (q == p) ≡ false = grind (arith, nat_tests) in sym (kept q (n == 1) ne) ∙ r q from (omega (arith, to)) h),
          ),
        ),
        decided_more (λ e. e.bits p ≡ bit (magnitude v p) b) (Fine 1 (suc p) (λ q. bit (magnitude v q) b)) (bit_script p u)
            (λ e r. r p low (omega arith) g) (bit_decided p (bit (magnitude v p) b) u (k p (omega arith) high g)),
      )
        where
          kept : (q : ℕ) (y : Bool) → (q == p) ≡ false → (u.bits q || (false || ((q == p) && y))) ≡ u.bits q
          kept q y ne = ap (λ z. u.bits q || (false || (z && y))) ne ∙ or-false (u.bits q)
      one p u low high k false g = (
        (λ q from to h. k q (omega (arith, from)) to h, λ r q from to h. r q from (omega (arith, to)) h),
        tt,
      )

  -- ---- any stage

  -- before a stage, nothing was read of its places
  abbrev pub Start : ℕ → State → Type 0
  Start zero s = s.bits 0 ≡ false
  Start (suc zero) s = Empty 1 s
  Start (suc (suc zero)) s = Empty 4 s
  Start (suc (suc (suc zero))) s = Empty 16 s
  Start (suc (suc (suc (suc k)))) s = Fine 1 64 (λ q. false) s

  -- what a stage leaves is what the values have
  abbrev pub Matches : ℕ → State → Type 0
  Matches zero e = e.bits 0 ≡ dc_bit
  Matches (suc zero) e = Right 1 4 e
  Matches (suc (suc zero)) e = children.End o chosen t is_sound block v same whole e
  Matches (suc (suc (suc zero))) e = Right 16 64 e
  Matches (suc (suc (suc (suc k)))) e = Fine 1 64 (λ q. bit (magnitude v q) b) e

  module _ (depth : ℕ) where
    -- a block that sends no types has a claim only in stage 0
    abbrev pub Says : ℕ → State → Type 0
    Says zero e = Matches zero e
    Says (suc k) e = nat_lt b depth ≡ true → Matches (suc k) e

    if_deep : (script : Script State State) (s : State) (M : State → Type 0) → Decided script M →
        Decided (if not (nat_lt b depth) then done s else script) (λ e. nat_lt b depth ≡ true → M e)
    if_deep script s M d = by (nat_lt b depth) refl
      where
        by : (x : Bool) → nat_lt b depth ≡ x → Decided (if not x then done s else script) (λ e. nat_lt b depth ≡ true → M e)
        by true g = decided_more M (λ e. nat_lt b depth ≡ true → M e) script (λ e h. h g) d
        by false g = tt

    pub stage_decided : (k : ℕ) → k < 5 → (s : State) → Start k s → Decided (stage_script t k depth block s) (Says k)
    stage_decided zero lt s start = dc_decided s start
    stage_decided (suc zero) lt s start = if_deep (parents_script t block s) s (Matches 1)
        (types_decided t.book o (type_due block W b) (newly_significant v W b) (λ q. negative (get_or v q (pos 0))) false 1 3 (omega arith) (omega arith) s
        start)
    stage_decided (suc (suc zero)) lt s start = if_deep (children_script t block s) s (Matches 2)
        (children.children_decided o chosen t is_sound block v same whole s start)
    stage_decided (suc (suc (suc zero))) lt s start = if_deep (grandchildren_script t block s) s (Matches 3)
        (grandchildren_decided o chosen t is_sound block v same whole s start)
    stage_decided (suc (suc (suc (suc zero)))) lt s start = if_deep (refinement_script t block s) s (Matches 4) (refinement_decided s start)
    stage_decided (suc (suc (suc (suc (suc k))))) lt s start = absurd (omega (arith, lt))
