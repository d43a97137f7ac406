-- What any possible answers to the stages of a plane leave of each block.
use Rattle.std.proofs.Common.{◌≡◌, ℕ, suc, ◌+◌, ◌/◌, ◌≤◌, ◌<◌, ◌==◌, Bool, true, false, if◌then◌else◌, List, [], length, refl, ap, sym, ◌∙◌, subst}
use Rattle.std.proofs.Common.{arith, ℤ, Option, Some, inl, inr}
use Rattle.std.proofs.lemmas.Bool.Decides.{nat_tests}
use Rattle.std.proofs.lemmas.Bool.{cases_lt}
use lib.ListN.{get_or}
use Rattle.plane_defs.specs.Codes.{is_book_sound}
use Rattle.item_defs.specs.Scripts.{Script, in_turn, around}
use Rattle.plane_defs.specs.States.{State}
use Rattle.plane_defs.specs.StageScripts.{Terms, stage_script}
use Rattle.plane_defs.specs.PlaneScript.{PlaneState, nothing_yet, of_block, with_block, blocks_script, plane_script}
use Rattle.plane_defs.proofs.Answers.{May, may_in_turn, may_weaker, may_around}
use Rattle.plane_defs.proofs.WordAnswers.{Grows}
use Rattle.plane_defs.proofs.StageAnswers as answers
use Rattle.plane_defs.proofs.StageAnswers.{Fair, fair_next}
use Rattle.plane_defs.proofs.WordGoes.{HasOptions}

abbrev pub AllOptions : PlaneState → Type 0
AllOptions s = (g : ℕ) → HasOptions (s.options g)

module _ (t : Terms) (depths : List ℕ) (blocks : List (List ℤ)) where
  abbrev pub AllFair : PlaneState → Type 0
  AllFair u = (r : ℕ) → Fair t (get_or blocks r []) (get_or depths r 0) (u.blocks r)

module _ (all : Bool) (t : Terms) (is_sound : is_book_sound t.book ≡ true) (depths : List ℕ) (blocks : List (List ℤ)) where
  abbrev count : ℕ
  count = length depths

  -- what stage k leaves of block r
  abbrev Facts : (r k : ℕ) → State → State → Type 0
  Facts r k = answers.Facts t (get_or blocks r []) k (get_or depths r 0)

  -- options that are known stay known
  abbrev pub Knows_more : PlaneState → PlaneState → Type 0
  Knows_more u w = (g n x : ℕ) → u.options g n ≡ Some x → w.options g n ≡ Some x

  abbrev pub item : (k i : ℕ) → PlaneState → Script PlaneState PlaneState
  item k i u = around (with_block u i) (stage_script t k (get_or depths i 0) (get_or blocks i []) (of_block u i))

  -- after some blocks of a stage
  pub record Turn (k j i : ℕ) (u w : PlaneState) : Type 0 where
    pub early : (r : ℕ) → r < j → w.blocks r ≡ u.blocks r
    pub done : (r : ℕ) → j ≤ r → r < i → Facts r k (u.blocks r) (w.blocks r)
    pub late : (r : ℕ) → i ≤ r → w.blocks r ≡ u.blocks r
    pub more : Knows_more u w
    pub known : all ≡ true → AllOptions w

  pub turn_none : (k i : ℕ) (u : PlaneState) → (all ≡ true → AllOptions u) → Turn k i i u u
  turn_none k i u known = record {
    early = λ r lt. refl;
    done = λ r low high. absurd (omega (arith, low, high));
    late = λ r le. refl;
    more = λ g m x h. h;
    known = known;
  }

  -- one block more
  pub item_may : (k j i : ℕ) (u w : PlaneState) → j ≤ i → Turn k j i u w → May all (item k i w) (Turn k j (suc i) u)
  item_may k j i u w low p =
      may_around all (answers.Left all t is_sound (get_or blocks i []) (get_or depths i 0) k (w.blocks i) (w.options (i / 16))) (Turn k j (suc i) u)
      (with_block w i)
      (λ e z. record {
        early = λ r lt. put r e (λ f. absurd (omega (arith, f, low, lt))) ∙ p.early r lt;
        done = λ r from to. elim (cases_lt r i) [
          | inl lt ↦ subst (λ l. Facts r k (u.blocks r) l) (sym (put r e (λ f. absurd (omega (arith, f, lt))))) (p.done r from lt)
          | inr ge ↦ (let is : i ≡ r = omega (arith, to, ge) in
              subst (λ c. Facts c k (u.blocks c) ((with_block w i e).blocks c)) is
              (subst (λ l. Facts i k (u.blocks i) l) (sym (here e)) (subst (λ l. Facts i k l e) (p.late i (omega arith)) z.2)))
        ];
        late = λ r le. put r e (λ f. absurd (omega (arith, f, le))) ∙ p.late r (omega (arith, le));
        more = λ g m x h. grown e z.1 g m x (p.more g m x h) (g == i / 16) refl;
        known = λ x g. put_known x g (z.0 x) (p.known x g) (g == i / 16);
      })
      (stage_script t k (get_or depths i 0) (get_or blocks i []) (of_block w i))
      (answers.facts_may all t is_sound (get_or blocks i []) (get_or depths i 0) k (w.blocks i) (w.options (i / 16)) (λ x. p.known x (i / 16)))
    where
      put : (r : ℕ) (b : State) → (r ≡ i → ⊥) → (with_block w i b).blocks r ≡ w.blocks r
      put r b ne = let e : (r == i) ≡ false = grind (arith, nat_tests) in ap (λ (x : Bool). if x then b else w.blocks r) e

      here : (b : State) → (with_block w i b).blocks i ≡ b
      here b = let e : (i == i) ≡ true = grind (arith, nat_tests) in ap (λ (x : Bool). if x then b else w.blocks i) e

      put_known : all ≡ true → (g : ℕ) → {f h : ℕ → Option ℕ} → HasOptions f → HasOptions h → (y : Bool) → HasOptions (if y then f else h)
      put_known x g p q true = p
      put_known x g p q false = q

      grown : (e : State) → Grows (of_block w i) e → (g m x : ℕ) → w.options g m ≡ Some x → (y : Bool) → (g == i / 16) ≡ y →
          (if y then e.options else w.options g) m ≡ Some x
      grown e z g m x h true f = let is : g ≡ i / 16 = grind (arith, nat_tests) in z m x (ap (λ c. w.options c m) (sym is) ∙ h)
      grown e z g m x h false f = h

  pub turn_may : (k j n : ℕ) (u : PlaneState) → (all ≡ true → AllOptions u) → May all (in_turn (item k) j n u) (Turn k j (j + n) u)
  turn_may k j n u known =
      may_in_turn all (λ i. Turn k j i u) (item k) j n (λ i w low high p. item_may k j i u w low p) u (turn_none k j u known)

  -- all blocks after the first stages
  pub plane_may : (stages : ℕ) → May all (plane_script t depths blocks stages) (λ u. (all ≡ true → AllOptions u) × AllFair t depths blocks u)
  plane_may stages =
      may_in_turn all (λ i u. (all ≡ true → AllOptions u) × AllFair t depths blocks u) (blocks_script t depths blocks) 0 stages
      (λ k u low high p. may_weaker all (Turn k 0 (0 + count) u) (λ w. (all ≡ true → AllOptions w) × AllFair t depths blocks w)
      (blocks_script t depths blocks k u) (λ w z. (z.known, λ r. fair k u w z p.1 r)) (turn_may k 0 count u p.0)) nothing_yet
      (λ x g n option e. absurd cc, λ r. record { bits = λ q h. absurd cc; minus = λ q h. absurd cc })
    where
      fair : (k : ℕ) (u w : PlaneState) → Turn k 0 (0 + count) u w → AllFair t depths blocks u → AllFair t depths blocks w
      fair k u w z f r = elim (cases_lt r count) [
        | inl lt ↦ fair_next t (get_or blocks r []) k (get_or depths r 0) (u.blocks r) (w.blocks r) (z.done r (omega arith) (omega (arith, lt))) (f r)
        | inr ge ↦ subst (Fair t (get_or blocks r []) (get_or depths r 0)) (sym (z.late r (omega (arith, ge)))) (f r)
      ]
