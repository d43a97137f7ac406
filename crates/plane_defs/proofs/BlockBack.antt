-- What a stage leaves of a block is what its values have, if what the plane leaves is.
use Rattle.std.proofs.lemmas.Bool.Decides.{nat_tests}
use Rattle.std.proofs.Common.{◌≡◌, ℕ, zero, suc, ◌+◌, ◌≤◌, ◌<◌, ◌&&◌, ◌||◌, not, nat_lt, Bool, true, false, List, refl, ap, sym, ◌∙◌, subst, arith, ℤ, pos}
use Rattle.std.proofs.Common.{inl, inr}
use Rattle.std.proofs.Math.Bool.{or-false}
use lib.ListN.{get_or}
use Rattle.item_defs.specs.Bits.{bit}
use Rattle.plane_defs.specs.declared.sets.Set.TheVariants.{Family}
use Rattle.plane_defs.specs.Sets.{magnitude, significant, set_significant, coded, type_due, newly_significant, refined}
use Rattle.plane_defs.specs.Codes.{is_book_sound}
use Rattle.plane_defs.specs.Entries.{negative}
use Rattle.plane_defs.specs.StepLaws.{IsAc, SameAc}
use Rattle.plane_defs.specs.Laws.{IsMultiple}
use Rattle.plane_defs.proofs.Equations.{newly_significant-is, type_due-is, refined-is}
use Rattle.plane_defs.proofs.StageGoes.{no_clash}
use Rattle.plane_defs.specs.Written.{AreChosen}
use Rattle.plane_defs.specs.States.{State}
use Rattle.plane_defs.specs.StageScripts.{Terms}
use Rattle.plane_defs.proofs.PlacesSent as places
use Rattle.plane_defs.proofs.BlockSent as sent
use Rattle.plane_defs.proofs.WordsBack.{Later}
use Rattle.plane_defs.proofs.QuadsBack as quads
use Rattle.plane_defs.proofs.StageAnswers.{lowest, highest, Touched, Facts, Chain, not_old, untouched}
use Rattle.plane_defs.proofs.TypesBack.{Empty}
use Rattle.plane_defs.proofs.FamiliesTrue as families
use Rattle.plane_defs.proofs.StageBack as stage

lowest_some : (k : ℕ) → 1 ≤ lowest k
lowest_some zero = omega arith
lowest_some (suc zero) = omega arith
lowest_some (suc (suc zero)) = omega arith
lowest_some (suc (suc (suc zero))) = omega arith
lowest_some (suc (suc (suc (suc k)))) = omega arith

-- the places of an earlier stage are not those of a later one
order : (j k q : ℕ) → j < k → k ≤ 3 → lowest j ≤ q → q < highest j → lowest k ≤ q → ⊥
order zero k q lt few low high at = absurd (omega (arith, low, high))
order (suc zero) (suc (suc zero)) q lt few low high at = absurd (omega (arith, high, at))
order (suc zero) (suc (suc (suc zero))) q lt few low high at = absurd (omega (arith, high, at))
order (suc (suc zero)) (suc (suc (suc zero))) q lt few low high at = absurd (omega (arith, high, at))
order (suc j) zero q lt few low high at = absurd (omega (arith, lt))
order (suc j) (suc zero) q lt few low high at = absurd (omega (arith, lt))
order (suc (suc j)) (suc (suc zero)) q lt few low high at = absurd (omega (arith, lt))
order (suc (suc (suc j))) (suc (suc (suc zero))) q lt few low high at = absurd (omega (arith, lt))
order (suc j) (suc (suc (suc (suc k)))) q lt few low high at = absurd (omega (arith, few))

-- later stages have later places
from_two : (q j : ℕ) → q < 4 → 2 ≤ j → q < lowest j
from_two q zero lt le = absurd (omega (arith, le))
from_two q (suc zero) lt le = absurd (omega (arith, le))
from_two q (suc (suc zero)) lt le = lt
from_two q (suc (suc (suc zero))) lt le = omega (arith, lt)
from_two q (suc (suc (suc (suc j)))) lt le = omega (arith, lt)

from_three : (q j : ℕ) → q < 16 → 3 ≤ j → q < lowest j
from_three q zero lt le = absurd (omega (arith, le))
from_three q (suc zero) lt le = absurd (omega (arith, le))
from_three q (suc (suc zero)) lt le = absurd (omega (arith, le))
from_three q (suc (suc (suc zero))) lt le = lt
from_three q (suc (suc (suc (suc j)))) lt le = omega (arith, lt)

from_four : (q j : ℕ) → q < 64 → 4 ≤ j → q < lowest j
from_four q zero lt le = absurd (omega (arith, le))
from_four q (suc zero) lt le = absurd (omega (arith, le))
from_four q (suc (suc zero)) lt le = absurd (omega (arith, le))
from_four q (suc (suc (suc zero))) lt le = absurd (omega (arith, le))
from_four q (suc (suc (suc (suc j)))) lt le = lt

module _ (o : List ℕ) (chosen : AreChosen o) (t : Terms) (is_sound : is_book_sound t.book ≡ true) (block v : List ℤ)
    (same : SameAc block v (t.plane + 1)) (whole : IsMultiple v t.weights) (depth : ℕ) where
  abbrev W : List ℕ
  W = t.weights

  abbrev b : ℕ
  b = t.plane

  abbrev newly : ℕ → Bool
  newly = newly_significant v W b

  abbrev due : ℕ → Bool
  due = type_due block W b

  -- what the plane leaves is what the values have
  pub record Final (s : State) : Type 0 where
    pub bits : (q : ℕ) → IsAc q → s.bits q ≡ (newly q || (refined v W b q && bit (magnitude v q) b))
    pub minus : (q : ℕ) → IsAc q → s.minus q ≡ (newly q && negative (get_or v q (pos 0)))
    pub low : s.bits 0 ≡ sent.dc_bit o chosen t block v same whole

  -- only places that the first k stages can change were read
  abbrev pub Unread : (k : ℕ) → State → Type 0
  Unread k s = (q : ℕ) → ((j : ℕ) → j < k → Touched t block depth j q → ⊥) → (s.bits q ≡ false) × (s.minus q ≡ false)

  pub unread_next : (k : ℕ) (s e : State) → Unread k s → Facts t block k depth s e → Unread (suc k) e
  unread_next k s e u f q out =
      let z = u q (λ j lt. out j (omega (arith, lt))) in
      (f.changes.bits q (out k (omega arith)) ∙ z.0, f.changes.minus q (out k (omega arith)) ∙ z.1)

  empty_from : (k : ℕ) → 1 ≤ k → k ≤ 3 → (s : State) → Unread k s → Empty (lowest k) s
  empty_from k some few s u q low high = u q (λ j lt x. elim x.1 [
    | inl w ↦ order j k q lt few w.0 w.1 low
    | inr y ↦ elim y [
      | inl w ↦ (let z = w.0 in absurd (omega (arith, z, lt, few)))
      | inr w ↦ (let z = w.1 in let a = lowest_some k in absurd (omega (arith, z, a, low)))
    ]
  ])

  pub start_of : (k : ℕ) → k < 5 → (s : State) → Unread k s → stage.Start o chosen t is_sound block v same whole k s
  start_of zero lt s u = (u 0 (λ j small. absurd (omega (arith, small)))).0
  start_of (suc zero) lt s u = empty_from 1 (omega arith) (omega arith) s u
  start_of (suc (suc zero)) lt s u = empty_from 2 (omega arith) (omega arith) s u
  start_of (suc (suc (suc zero))) lt s u = empty_from 3 (omega arith) (omega arith) s u
  start_of (suc (suc (suc (suc zero)))) lt s u = λ q low high is. (u q (λ j small x. elim x.1 [
    | inl w ↦ not_old t block q w.2 is
    | inr y ↦ elim y [
      | inl w ↦ (let z = w.0 in absurd (omega (arith, z, small)))
      | inr w ↦ (let z = w.1 in absurd (omega (arith, z, low)))
    ]
  ])).0
  start_of (suc (suc (suc (suc (suc k))))) lt s u = absurd (omega (arith, lt))

  chain_stays : (k n : ℕ) (s e : State) → Chain t block depth k n s e → (q : ℕ) → 1 ≤ q → ((j : ℕ) → k ≤ j → q < lowest j) → due q ≡ true →
      (e.bits q ≡ s.bits q) × (e.minus q ≡ s.minus q)
  chain_stays k zero s e c q some low d = ((λ i. (sym c i).bits q), (λ i. (sym c i).minus q))
  chain_stays k (suc n) s e c q some low d =
      let w = chain_stays (suc k) n c.0 e c.2 q some (λ j le. low j (omega (arith, le))) d in
      let out = untouched t block depth k q d some (λ from to. (let z = low k (omega arith) in absurd (omega (arith, from, z)))) in
      (w.0 ∙ c.1.changes.bits q out, w.1 ∙ c.1.changes.minus q out)

  chain_low : (k n : ℕ) (s e : State) → Chain t block depth k n s e → 1 ≤ k → e.bits 0 ≡ s.bits 0
  chain_low k zero s e c le = λ i. (sym c i).bits 0
  chain_low k (suc n) s e c le = chain_low (suc k) n c.0 e c.2 (omega arith) ∙ c.1.changes.bits 0 (below k le)
    where
      below : (k : ℕ) → 1 ≤ k → Touched t block depth k 0 → ⊥
      below k le x = elim x.1 [
        | inl w ↦ (let a = lowest_some k in let z = w.0 in absurd (omega (arith, a, z)))
        | inr y ↦ elim y [
          | inl w ↦ (let z = w.1 in absurd (omega (arith, z)))
          | inr w ↦ (let z = w.0 in absurd (omega (arith, z, le)))
        ]
      ]

  chain_families : (k n : ℕ) (s e : State) → Chain t block depth k n s e → 3 ≤ k → (i : ℕ) → e.families i ≡ s.families i
  chain_families k zero s e c le i = λ x. (sym c x).families i
  chain_families k (suc n) s e c le i =
      chain_families (suc k) n c.0 e c.2 (omega (arith, le)) i ∙ c.1.families (λ z. absurd (omega (arith, z, le))) i

  module _ (end : State) (final : Final end) where
    -- the places of a stage
    right_for : (k n : ℕ) (s e : State) (a c : ℕ) → k < 4 → 1 ≤ a → c ≤ 64 → Empty a s → Facts t block k depth s e → Later o e.options →
        Chain t block depth (suc k) n e end → ((q j : ℕ) → q < c → suc k ≤ j → q < lowest j) → quads.Right o chosen t is_sound block v same whole a c e
    right_for k n s e a c not_last low high empty f options rest later = (options, λ q from to. by q from to (due q) refl)
      where
        none_new : (q : ℕ) → type_due v W b q ≡ false → newly q ≡ false
        none_new q d = newly_significant-is v W b q ∙ ap (λ x. x && significant v b q) d

        not_refined : (x y : Bool) → (not x && y) ≡ true → (x && y) ≡ false
        not_refined x y h1 = grind (arith, nat_tests)

        by : (q : ℕ) → a ≤ q → q < c → (x : Bool) → due q ≡ x → (e.bits q ≡ newly q) × (e.minus q ≡ (newly q && negative (get_or v q (pos 0))))
        by q from to true d =
            let ac : IsAc q = (omega (arith, low, from), omega (arith, high, to)) in
            let old : refined v W b q ≡ false = refined-is v W b q ∙
            not_refined (significant v (b + 1) q) (coded W b q) (sym (type_due-is v W b q) ∙ sym (places.type_is o chosen t block v same whole q ac) ∙ d) in
            let stays = chain_stays (suc k) n e end rest q ac.0 (λ j le. later q j to le) d in (
              sym stays.0 ∙ final.bits q ac ∙ ap (λ x. newly q || (x && bit (magnitude v q) b)) old ∙ or-false (newly q),
              sym stays.1 ∙ final.minus q ac,
            )
        by q from to false d =
            let ac : IsAc q = (omega (arith, low, from), omega (arith, high, to)) in
            let none = none_new q (sym (places.type_is o chosen t block v same whole q ac) ∙ d) in
            let unread = empty q from ac.1 in (
              f.changes.bits q out ∙ unread.0 ∙ sym none,
              f.changes.minus q out ∙ unread.1 ∙ sym (ap (λ x. x && negative (get_or v q (pos 0))) none),
            )
          where
            out : Touched t block depth k q → ⊥
            out x = elim x.1 [
              | inl w ↦ no_clash (due q) w.2 d
              | inr y ↦ elim y [
                | inl w ↦ (let z = w.0 in absurd (omega (arith, z, not_last)))
                | inr w ↦ (let z = w.1 in absurd (omega (arith, z, low, from)))
              ]
            ]

    -- a stage leaves what the values have
    pub says : (k n : ℕ) → k + suc n ≡ 5 → (s e : State) → Unread k s → Facts t block k depth s e → Later o e.options → Chain t block depth (suc k) n e end →
        stage.Says o chosen t is_sound block v same whole depth k e
    says zero n size s e u f options rest = sym (chain_low 1 n e end rest (omega arith)) ∙ final.low
    says (suc zero) n size s e u f options rest = λ deep.
        right_for 1 n s e 1 4 (omega arith) (omega arith) (omega arith) (empty_from 1 (omega arith) (omega arith) s u) f options rest
        (λ q j lt le. from_two q j lt le)
    says (suc (suc zero)) n size s e u f options rest = λ deep. (
      right_for 2 n s e 4 16 (omega arith) (omega arith) (omega arith) (empty_from 2 (omega arith) (omega arith) s u) f options rest
          (λ q j lt le. from_three q j lt le),
      families_of n (omega (arith, size)) deep rest,
    )
      where
        families_of : (n : ℕ) → n ≡ 2 → nat_lt b depth ≡ true → Chain t block depth 3 n e end → (i : ℕ) → i < 3 → e.families i ≡ set_significant v b (Family i)
        families_of zero size deep rest i lt = absurd (omega (arith, size))
        families_of (suc zero) size deep rest i lt = absurd (omega (arith, size))
        families_of (suc (suc zero)) size deep rest i lt =
            let third = rest.2 in
            sym (chain_families 3 2 e end rest (omega arith) i) ∙
            families.families_true o chosen t is_sound block v same whole depth s e rest.0 end f rest.1 (subst (Facts t block 4 depth rest.0) third.2 third.1)
            (f.children refl deep) (rest.1.grand refl deep)
            (λ q ac low. (empty_from 2 (omega arith) (omega arith) s u q low ac.1).0) final.bits i lt
        families_of (suc (suc (suc n))) size deep rest i lt = absurd (omega (arith, size))
    says (suc (suc (suc zero))) n size s e u f options rest = λ deep.
        right_for 3 n s e 16 64 (omega arith) (omega arith) (omega arith) (empty_from 3 (omega arith) (omega arith) s u) f options rest
        (λ q j lt le. from_four q j lt le)
    says (suc (suc (suc (suc zero)))) n size s e u f options rest = λ deep. last n (omega (arith, size)) rest
      where
        new_none : (x y z : Bool) → (x && y) ≡ true → ((not x && y) && z) ≡ false
        new_none x y z h1 = grind (arith, nat_tests)

        last : (n : ℕ) → n ≡ 0 → Chain t block depth 5 n e end → (q : ℕ) → 1 ≤ q → q < 64 → refined block W b q ≡ true → e.bits q ≡ bit (magnitude v q) b
        last zero size rest q low high is =
            let g : refined v W b q ≡ true = sym (places.refined_is o chosen t block v same whole q (low, high)) ∙ is in
            (λ i. (rest i).bits q) ∙ final.bits q (low, high) ∙ ap (λ x. newly q || (x && bit (magnitude v q) b)) g ∙
            ap (λ x. x || bit (magnitude v q) b) (newly_significant-is v W b q ∙ ap (λ x. x && significant v b q) (type_due-is v W b q) ∙
            new_none (significant v (b + 1) q) (coded W b q) (significant v b q) (sym (refined-is v W b q) ∙ g))
        last (suc n) size rest q low high is = absurd (omega (arith, size))
    says (suc (suc (suc (suc (suc k))))) n size s e u f options rest = λ deep. absurd (omega (arith, size))
