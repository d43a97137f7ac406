-- What a plane's state has of its blocks and gaggles, if one block was read on.
use Rattle.std.proofs.Common.{◌≡◌, ℕ, ◌*◌, ◌/◌, ◌<◌, ◌==◌, true, false, if◌then◌else◌, List, [], length, refl, sym, subst, arith, ℤ, pos, ◌+ℤ◌, inl, inr}
use Rattle.std.proofs.Common.{Option, get_or}
use Rattle.std.proofs.lemmas.Bool.{cases_eq}
use Rattle.std.proofs.lemmas.Bool.Decides.{nat_tests}
use Rattle.block_masks.specs.Gaggles.{families_in}
use Rattle.block_masks.specs.Masks.{Shows}
use Rattle.plane_defs.specs.States.{State}
use Rattle.plane_defs.specs.PlaneScript.{PlaneState, of_block, with_block, bit_of_plane}
use Rattle.plane_reader.specs.Takes.{AreIn}
use Rattle.plane_reader.specs.Blocks.{HasRead}
use Rattle.plane_reader.specs.Gaggles.{dc_in, HavePlane, HaveDcs, HaveFamilies, HaveOptions, HaveRead, gaggle_at}

module _ (p : PlaneState) (r : ℕ) (b : State) where
  pub put_each : (Q : ℕ → State → Type 0) → Q r b → ((i : ℕ) → (i ≡ r → ⊥) → Q i (p.blocks i)) → (i : ℕ) → Q i ((with_block p r b).blocks i)
  put_each Q here others i = elim (cases_eq i r) [
    | inl e ↦ let t : (i == r) ≡ true = grind (arith, nat_tests) in subst (λ z. Q i (if z then b else p.blocks i)) (sym t) (subst (λ n. Q n b) (sym e) here)
    | inr apart ↦ let t : (i == r) ≡ false = grind (arith, nat_tests) in subst (λ z. Q i (if z then b else p.blocks i)) (sym t) (others i apart)
  ]

  pub put_options : (Q : ℕ → (ℕ → Option ℕ) → Type 0) → Q (r / 16) b.options → ((g : ℕ) → (g ≡ r / 16 → ⊥) → Q g (p.options g)) → (g : ℕ) →
      Q g ((with_block p r b).options g)
  put_options Q here others g = elim (cases_eq g (r / 16)) [
    | inl e ↦ let t : (g == r / 16) ≡ true = grind (arith, nat_tests) in subst (λ z. Q g (if z then b.options else p.options g)) (sym t) (subst
        (λ n. Q n b.options) (sym e) here)
    | inr apart ↦ let t : (g == r / 16) ≡ false = grind (arith, nat_tests) in subst (λ z. Q g (if z then b.options else p.options g)) (sym t) (others g apart)
  ]

  -- ---- what is read of a block, and how the masks and states have it

  pub has_put : {plane : ℕ} {cells : List ℤ} (numbers : List (List ℤ)) → HasRead plane r cells (get_or numbers r []) b →
      ((i : ℕ) → (i ≡ r → ⊥) → 64 * i < length cells → HasRead plane i cells (get_or numbers i []) (p.blocks i)) →
      HavePlane plane cells numbers (with_block p r b)
  has_put {plane} {cells} numbers here others = put_each (λ i s. 64 * i < length cells → HasRead plane i cells (get_or numbers i []) s) (λ lt. here) others

  pub dcs_put : (plane : ℕ) (cells : List ℤ) (numbers : List (List ℤ)) → dc_in cells r ≡ get_or (get_or numbers r []) 0 (pos 0) +ℤ pos
      (bit_of_plane plane b 0) →
      ((i : ℕ) → (i ≡ r → ⊥) → 64 * i < length cells → dc_in cells i ≡ get_or (get_or numbers i []) 0 (pos 0) +ℤ pos (bit_of_plane plane (p.blocks i) 0)) →
      HaveDcs plane cells numbers (with_block p r b)
  dcs_put plane cells numbers here others =
      put_each (λ i s. 64 * i < length cells → dc_in cells i ≡ get_or (get_or numbers i []) 0 (pos 0) +ℤ pos (bit_of_plane plane s 0)) (λ lt. here) others

  pub families_put : (marks : List ℤ) → b.families ≡ (p.blocks r).families → HaveFamilies marks p → HaveFamilies marks (with_block p r b)
  families_put marks e have =
      put_each (λ i s. i < length marks → Shows (families_in (get_or marks i (pos 0))) s.families 0 3)
      (λ lt. subst (λ f. Shows (families_in (get_or marks r (pos 0))) f 0 3) (sym e) (have r lt)) (λ i apart. have i)

  pub options_put : (marks : List ℤ) → b.options ≡ p.options (r / 16) → HaveOptions marks p → HaveOptions marks (with_block p r b)
  options_put marks e have =
      put_options (λ g o. 16 * g < length marks → AreIn (gaggle_at marks g) o) (λ lt. subst (AreIn (gaggle_at marks (r / 16))) (sym e) (have (r / 16) lt))
      (λ g apart. have g)

-- a block of which nothing was read
pub read_same : {plane : ℕ} {cells marks : List ℤ} {numbers : List (List ℤ)} (p : PlaneState) (r : ℕ) → 64 * r < length cells →
    HaveRead plane cells marks numbers p →
    HaveRead plane cells marks numbers (with_block p r (of_block p r))
read_same {plane} {cells} {marks} {numbers} p r inside have =
    let was = have.has r inside in
    record {
      has = has_put p r (of_block p r) numbers (record { bits = was.bits; minus = was.minus; raw = was.raw }) (λ i apart. have.has i);
      dcs = dcs_put p r (of_block p r) plane cells numbers (have.dcs r inside) (λ i apart. have.dcs i);
      families = families_put p r (of_block p r) marks refl have.families;
      options = options_put p r (of_block p r) marks refl have.options;
    }
