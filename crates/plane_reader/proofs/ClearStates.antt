-- States that keep nothing of a plane.
use Rattle.std.proofs.Common.{◌≡◌, ℕ, zero, suc, ◌+◌, ◌-◌, ◌*◌, ◌<◌, ◌≤◌, inl, inr, ℤ, pos, Bool, false, if◌then◌else◌, List, [], ◌∷◌, length, get_or, set}
use Rattle.std.proofs.Common.{refl, ap, sym, ◌∙◌, subst, arith, get_or-set_same, get_or-set_other, Some, None}
use Rattle.std.proofs.Math.ListN.{get_or-eq_default}
use Rattle.std.proofs.Math.Seq.{map-set_same}
use Rattle.std.proofs.lemmas.Bool.{cases_lt, cases_eq}
use Rattle.plane_defs.specs.Marks.{depth_of, depths_of}
use Rattle.block_masks.specs.Gaggles.{AreOptions, AreKnown, options_in, sent_in, families_in}
use Rattle.block_masks.specs.Masks.{Shows}
use Rattle.plane_defs.specs.PlaneScript.{nothing_yet}
use Rattle.plane_reader.specs.Gaggles.{HaveFamilies, HaveOptions, gaggle_at}
use Rattle.block_masks.specs.Slices.{mask_in, PutsMask}
use Rattle.plane_reader.specs.Blocks.{raw_slot}
use Rattle.plane_reader.specs.Planes.{Clears, ClearsRaw}
use Rattle.plane_reader.proofs.HeldGroups.{zero_bit}

pub record IsClear (mark : ℤ) : Type 0 where
  pub options : options_in mark ≡ 0 ∷ 0 ∷ 0 ∷ []
  pub sent : sent_in mark ≡ false ∷ false ∷ false ∷ []
  pub families : families_in mark ≡ 0

zero_is_clear : IsClear (pos 0)
unfolding options_in sent_in families_in
zero_is_clear = record { options = refl; sent = refl; families = refl }

pub clears_more : (marks : List ℤ) (n : ℕ) (m : ℤ) → n < length marks → depth_of m ≡ depth_of (get_or marks n (pos 0)) → options_in m ≡ 0 ∷ 0 ∷ 0 ∷ [] →
    sent_in m ≡ false ∷ false ∷ false ∷ [] → families_in m ≡ 0 →
    ((r : ℕ) → r < n → IsClear (get_or marks r (pos 0))) → (depths_of (set marks n m) ≡ depths_of marks) × ((r : ℕ) → r < n + 1 →
    IsClear (get_or (set marks n m) r (pos 0)))
unfolding depths_of
clears_more marks n m within depth options sent families clear = (map-set_same depth_of marks n m (pos 0) depth, below)
  where
    here : IsClear m
    here = record { options = options; sent = sent; families = families }

    below : (r : ℕ) → r < n + 1 → IsClear (get_or (set marks n m) r (pos 0))
    below r lt = elim (cases_lt r n) [
      | inl low ↦ subst IsClear (sym (get_or-set_other marks n r m (pos 0) (λ e. omega (arith, low, e)))) (clear r low)
      | inr high ↦
          let e : r ≡ n = omega (arith, lt, high) in
          subst (λ i. IsClear (get_or (set marks n m) i (pos 0))) (sym e) (subst IsClear (sym (get_or-set_same marks n m (pos 0) within)) here)
    ]

pub clears_all : (old new : List ℤ) (n : ℕ) → length new ≤ n → depths_of new ≡ depths_of old → ((r : ℕ) → r < n → IsClear (get_or new r (pos 0))) →
    Clears old new
clears_all old new n all depths clear = record {
  depths = depths;
  options = λ r. (each r).options;
  sent = λ r. (each r).sent;
  families = λ r. (each r).families;
}
  where
    each : (r : ℕ) → IsClear (get_or new r (pos 0))
    each r = elim (cases_lt r n) [
      | inl low ↦ clear r low
      | inr high ↦ subst IsClear (sym (get_or-eq_default new (pos 0) (omega (arith, all, high)))) zero_is_clear
    ]

-- ---- what they say

pub known_clear : {old new : List ℤ} → Clears old new → AreKnown new
known_clear clears = record {
  at = λ g lt. subst AreOptions (sym (clears.options (16 * g))) (record {
    two = omega arith;
    three = omega arith;
    four =
        omega arith;
  });
}

none_sent : (k : ℕ) → get_or (false ∷ false ∷ false ∷ []) k false ≡ false
none_sent zero = refl
none_sent (suc zero) = refl
none_sent (suc (suc zero)) = refl
none_sent (suc (suc (suc k))) = refl

pub options_clear : {old new : List ℤ} → Clears old new → HaveOptions new nothing_yet
options_clear {new = new} clears g lt n low high =
    let g' = gaggle_at new g in
    let off : get_or g'.sent (n - 2) false ≡ false = ap (λ l. get_or l (n - 2) false) (clears.sent (16 * g)) ∙ none_sent (n - 2) in
    sym (ap (λ b. if b then Some (get_or g'.options (n - 2) 0) else None) off)

pub families_clear : {old new : List ℤ} → Clears old new → HaveFamilies new nothing_yet
families_clear clears r lt = subst (λ m. Shows m (λ i. false) 0 3) (sym (clears.families r)) (record { at = λ k less. zero_bit k; small = omega arith })

-- ---- deep blocks

-- a mask of one position
pub one_shows : {m : ℕ} {b : Bool} {f : ℕ → Bool} (start : ℕ) → b ≡ f start → Shows m (λ p. b) start 1 → Shows m f start 1
one_shows {f = f} start e shows = record {
  at = λ k lt. (let z : start + k ≡ start = omega (arith, lt) in shows.at k lt ∙ e ∙ ap f (sym z));
  small = shows.small;
}

pub none_shown : (f : ℕ → Bool) (start : ℕ) → Shows 0 f start 0
none_shown f start = record { at = λ k lt. absurd (omega (arith, lt)); small = omega arith }

-- ---- masks of raw bits

-- the first n blocks have none
pub record RawClear (n : ℕ) (old new : List ℤ) : Type 0 where
  pub long : length new ≡ length old
  pub none : (r : ℕ) → r < n → 64 * r < length old → mask_in new r raw_slot ≡ 0
  pub slots : (r slot : ℕ) → 64 * r < length old → slot < 32 → (slot ≡ raw_slot → ⊥) → mask_in new r slot ≡ mask_in old r slot

pub raw_clear_start : (cells : List ℤ) → RawClear 0 cells cells
raw_clear_start cells = record { long = refl; none = λ r lt there. absurd (omega (arith, lt)); slots = λ r slot lt few apart. refl }

pub raw_clear_more : {n : ℕ} {old mid new : List ℤ} → RawClear n old mid → PutsMask n raw_slot 0 mid new → RawClear (n + 1) old new
raw_clear_more {n} {old} {mid} {new} p put =
    let there : (r : ℕ) → 64 * r < length old → 64 * r < length mid = λ r lt. subst (λ m. 64 * r < m) (sym p.long) lt in
    record {
      long = put.long ∙ p.long;
      none = λ r lt inside. elim (cases_eq r n) [
        | inl e ↦ subst (λ m. mask_in new m raw_slot ≡ 0) (sym e) put.here
        | inr other ↦ put.other_blocks r raw_slot (there r inside) (omega arith) other ∙ p.none r (omega (arith, lt, other)) inside
      ];
      slots = λ r slot lt few apart. elim (cases_eq r n) [
        | inl e ↦ subst (λ m. mask_in new m slot ≡ mask_in old m slot) (sym e) (put.other_slots slot few apart ∙ p.slots n slot (subst (λ m. 64 * m < length
            old) e lt) few apart)
        | inr other ↦ put.other_blocks r slot (there r lt) few other ∙ p.slots r slot lt few apart
      ];
    }

pub raw_clear_all : {n : ℕ} {old new : List ℤ} → RawClear n old new → length old ≤ 64 * n → ClearsRaw old new
raw_clear_all p all = record { long = p.long; none = λ r lt. p.none r (omega (arith, lt, all)) lt; slots = p.slots }
