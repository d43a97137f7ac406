-- Blocks of which no plane was read, and that are restored: half of its interval is added to each DC.
use Rattle.std.proofs.Common.{◌≡◌, inl, inr, ℕ, zero, suc, ◌+◌, ◌*◌, ◌/◌, ◌%◌, ◌<◌, ◌≤◌, ◌==◌, min, max, Bool, false, if◌then◌else◌, List, [], length, ap, sym}
use Rattle.std.proofs.Common.{◌∙◌, subst, arith, Some, ℤ, pos, get_or, drop, set, get_or-set_same, get_or-set_other, length-set}
use Rattle.std.proofs.lemmas.Bool.{cases_eq}
use Rattle.std.proofs.lemmas.Bool.Decides.{nat_tests}
use Rattle.std.proofs.lemmas.List.{ext_get_or, get_or-take, get_or-drop}
use Rattle.wave_defs.specs.Held.{blocks_in}
use Rattle.plane_defs.specs.Sets.{shift}
use Rattle.plane_defs.specs.StepLaws.{IsAc}
use Rattle.plane_defs.specs.Lows.{Given}
use Rattle.base_122.specs.Restored.{restored_dc}
use Rattle.plane_defs.specs.Restored.{restored_ac, restored_at, restored}
use Rattle.plane_defs.proofs.NumbersGiven.{restored_by_position}
use Rattle.plane_reader.specs.declared.planes.SentPlanes.{SentPlanes}
use Rattle.plane_reader.specs.Above.{HasNoneBelow, AwaitDcs}
use Rattle.plane_reader.specs.Restoring.{AwaitLows}
use Rattle.plane_reader.proofs.PlaneReads.{length-blocks, block_there}
use Rattle.plane_reader.proofs.PlanesReads.{blocks_whole}

-- a number of a block
number_there : (xs : List ℤ) (r p : ℕ) → length xs % 64 ≡ 0 → r < length xs / 64 → p < 64 →
    get_or (get_or (blocks_in xs) r []) p (pos 0) ≡ get_or xs (64 * r + p) (pos 0)
number_there xs r p even lt few =
    ap (λ b. get_or b p (pos 0)) (block_there xs r lt) ∙ get_or-take 64 (drop (64 * r) xs) p (pos 0) few ∙ get_or-drop (64 * r) xs p (pos 0)

-- the DCs of these blocks have no bit below those that are given
pub halves_wait : (sent : SentPlanes) (xs : List ℤ) → length xs % 64 ≡ 0 → AwaitDcs sent.below sent.q (blocks_in xs) → (r : ℕ) → 64 * r < length xs →
    HasNoneBelow (min sent.q sent.below) (get_or xs (64 * r) (pos 0))
halves_wait sent xs even await r lt =
    let inside : r < length xs / 64 = omega (arith, lt, even) in
    let same : min sent.below sent.q ≡ min sent.q sent.below = omega arith in
    let place : 64 * r + 0 ≡ 64 * r = omega arith in
    subst (λ m. HasNoneBelow m (get_or xs (64 * r) (pos 0))) same
    (subst (HasNoneBelow (min sent.below sent.q)) (number_there xs r 0 even inside (omega arith) ∙ ap (λ i. get_or xs i (pos 0)) place)
    (await r (omega (arith, inside, length-blocks xs))))

module _ (sent : SentPlanes) (old new : List ℤ) (even : length old % 64 ≡ 0) (size : length new ≡ length old)
    (dcs : (r : ℕ) → 64 * r < length old → get_or new (64 * r) (pos 0) ≡ restored_dc (shift sent.weights.shifts 0)
    (Some (max (shift sent.weights.shifts 0) (min sent.q sent.below))) (get_or old (64 * r) (pos 0)))
    (others : (i : ℕ) → (i % 64 ≡ 0 → ⊥) → get_or new i (pos 0) ≡ get_or old i (pos 0)) (g : Given) (is : g.numbers ≡ blocks_in old)
    (await : AwaitLows sent g) where
  abbrev weights : List ℕ
  weights = sent.weights.shifts

  count : length g.numbers ≡ length old / 64
  count = ap length is ∙ length-blocks old

  before : (r p : ℕ) → r < length old / 64 → p < 64 → get_or (get_or g.numbers r []) p (pos 0) ≡ get_or old (64 * r + p) (pos 0)
  before r p lt few = ap (λ l. get_or (get_or l r []) p (pos 0)) is ∙ number_there old r p even lt few

  number : (r p : ℕ) → r < length old / 64 → p < 64 →
      restored_at weights p (g.lows r p) (get_or (get_or g.numbers r []) p (pos 0)) ≡ get_or new (64 * r + p) (pos 0)
  number r zero lt few =
      let place : 64 * r + 0 ≡ 64 * r = omega arith in
      (λ i. restored_dc (shift weights 0) (await.dcs r (omega (arith, lt, count)) i) ((before r 0 lt few ∙ ap (λ i. get_or old i (pos 0)) place) i)) ∙
      sym (dcs r (omega (arith, lt, even))) ∙ ap (λ i. get_or new i (pos 0)) (sym place)
  number r (suc p) lt few =
      let apart : (suc p == 0) ≡ false = grind (arith, nat_tests) in
      let z = get_or (get_or g.numbers r []) (suc p) (pos 0) in
      let ac : IsAc (suc p) = (omega arith, few) in
      ap (λ (x : Bool). if x then restored_dc (shift weights 0) (g.lows r (suc p)) z else restored_ac (shift weights (suc p)) (g.lows r (suc p)) z) apart ∙
      ap (λ l. restored_ac (shift weights (suc p)) l z) (await.acs r (suc p) (omega (arith, lt, count)) ac) ∙ before r (suc p) lt few ∙
      sym (others (64 * r + suc p) (λ e. omega (arith, e, few)))

  pub blocks_halved : restored weights g ≡ blocks_in new
  blocks_halved =
      let all : length (restored weights g) ≡ length g.numbers = restored_by_position.count weights g in
      let even_now : length new % 64 ≡ 0 = omega (arith, size, even) in
      let now : length (blocks_in new) ≡ length old / 64 = length-blocks new ∙ ap (λ n. n / 64) size in
      ext_get_or [] (restored weights g) (blocks_in new) (all ∙ count ∙ sym now) (λ r lt.
      let inside : r < length g.numbers = omega (arith, lt, all) in
      let here : r < length old / 64 = omega (arith, inside, count) in
      let there : r < length new / 64 = omega (arith, here, size) in
      let long : length (get_or (restored weights g) r []) ≡ 64 = restored_by_position.long weights g r inside in
      ext_get_or (pos 0) (get_or (restored weights g) r []) (get_or (blocks_in new) r [])
      (long ∙ sym (blocks_whole new even_now r (omega (arith, there, length-blocks new)))) (λ p few.
      let low : p < 64 = omega (arith, few, long) in
      restored_by_position.at weights g r p inside low ∙ number r p here low ∙ sym (number_there new r p even_now there low)))

-- ---- the first n DCs

pub record HalvedTo (n : ℕ) (weights : List ℕ) (low : ℕ) (old new : List ℤ) : Type 0 where
  pub long : length new ≡ length old
  pub dcs : (r : ℕ) → r < n → 64 * r < length old →
      get_or new (64 * r) (pos 0) ≡ restored_dc (shift weights 0) (Some (max (shift weights 0) low)) (get_or old (64 * r) (pos 0))
  pub rest : (r : ℕ) → n ≤ r → get_or new (64 * r) (pos 0) ≡ get_or old (64 * r) (pos 0)
  pub others : (i : ℕ) → (i % 64 ≡ 0 → ⊥) → get_or new i (pos 0) ≡ get_or old i (pos 0)

pub halved_more : {n low : ℕ} {weights : List ℕ} {old mid : List ℤ} {dc : ℤ} → 64 * n < length old → HalvedTo n weights low old mid →
    dc ≡ restored_dc (shift weights 0) (Some (max (shift weights 0) low)) (get_or mid (64 * n) (pos 0)) → HalvedTo (n + 1) weights low old (set mid (64 * n) dc)
halved_more {n} {low} {weights} {old} {mid} {dc} inside so_far is = record {
  long = length-set mid (64 * n) dc ∙ so_far.long;
  dcs = λ r lt known. elim (cases_eq r n) [
    | inl e ↦ subst (λ m. get_or (set mid (64 * n) dc) (64 * m) (pos 0) ≡ restored_dc (shift weights 0) (Some (max (shift weights 0) low)) (get_or
        old (64 * m) (pos 0))) (sym e) (get_or-set_same mid (64 * n) dc (pos 0) (omega (arith, inside, so_far.long)) ∙ is ∙
        ap (restored_dc (shift weights 0) (Some (max (shift weights 0) low))) (so_far.rest n (omega arith)))
    | inr apart ↦ get_or-set_other mid (64 * n) (64 * r) dc (pos 0) (λ e. apart (omega (arith, e))) ∙ so_far.dcs r (omega (arith, lt, apart)) known
  ];
  rest = λ r le. get_or-set_other mid (64 * n) (64 * r) dc (pos 0) (λ e. omega (arith, e, le)) ∙ so_far.rest r (omega (arith, le));
  others = λ i apart. get_or-set_other mid (64 * n) i dc (pos 0) (λ e. apart (omega (arith, e))) ∙ so_far.others i apart;
}
