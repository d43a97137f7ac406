-- The masks of a block that is restored, and those of all blocks.
use Rattle.std.proofs.Common.{◌≡◌, inl, inr, ℕ, zero, suc, ◌+◌, ◌-◌, ◌*◌, ◌%◌, ◌/◌, ◌<◌, ◌≤◌, ◌^◌, ◌==◌, ◌&&◌, ◌||◌, not, nat_le, nat_lt, min, max, Bool, true}
use Rattle.std.proofs.Common.{false, if◌then◌else◌, List, [], length, refl, ap, sym, ◌∙◌, subst, arith, Option, Some, None, ℤ, pos, ◌+ℤ◌, w32, get_or}
use Rattle.std.specs.Int.{cast_signed}
use Rattle.std.proofs.lemmas.Bool.{cases_eq}
use Rattle.std.proofs.lemmas.Bool.Decides.{nat_tests}
use Rattle.std.proofs.lemmas.List.{ext_get_or}
use Rattle.item_defs.specs.Bits.{bit, value_of}
use Rattle.wave_defs.specs.Held.{block_at, blocks_in}
use Rattle.plane_defs.specs.Sets.{shift, coded}
use Rattle.plane_defs.proofs.Equations.{coded-is}
use Rattle.plane_defs.specs.StepLaws.{IsAc}
use Rattle.plane_defs.specs.Lows.{Given}
use Rattle.base_122.specs.Restored.{restored_dc}
use Rattle.plane_defs.specs.Restored.{restored_ac, restored_at, restored}
use Rattle.plane_defs.proofs.NumbersGiven.{restored_by_position}
use Rattle.block_masks.specs.Masks.{Shows}
use Rattle.block_masks.specs.Slices.{mask_in, minus_slot, above_slot, dc_slot, number_in, numbers_in, PutsMask}
use Rattle.block_masks.specs.MaskedNumbers.{size_in}
use Rattle.block_masks.proofs.SliceNumbers.{ac_number, dc_number, same_number, block_number, length-block, length-numbers_in}
use Rattle.block_masks.proofs.MaskedNumbers.{signed, size_bit, bits_below-same}
use Rattle.plane_reader.specs.Above.{HasNoneBelow}
use Rattle.plane_reader.specs.Blocks.{raw_slot}
use Rattle.plane_reader.specs.Gaggles.{dc_in}
use Rattle.plane_reader.specs.Planes.{AddsDc}
use Rattle.plane_reader.specs.Restoring.{dc_reach, ac_reach, HaveLows, IsReached, half_plane, coded_below, weight_below, PutsBelow, AddsHalf}
use Rattle.plane_reader.specs.Restoring.{IsRestored, RestoresBlock}
use Rattle.plane_reader.proofs.CellNumbers.{size_given, size_kept}
use Rattle.plane_reader.proofs.PlaneReads.{block_there, count_blocks}
use Rattle.plane_reader.proofs.RestBits.{rest_given, rest_none, restored_signed, restored_zero, restored_half, restored_whole}

-- ---- a mask of a plane below

none_below : (plane down : ℕ) (b : Bool) → plane < down → weight_below plane down b ≡ 0
none_below plane down b lt = let e : nat_le down plane ≡ false = grind (arith, nat_tests) in ap (λ x. if b && x then 2 ^ (plane - down) else 0) e ∙ by b
  where
    by : (b : Bool) → (if b && false then 2 ^ (plane - down) else 0) ≡ 0
    by true = refl
    by false = refl

pub puts_none : {plane down r mask : ℕ} {cells : List ℤ} → plane < down → PutsBelow plane down r mask cells cells
puts_none {plane} {down} {r} {mask} {cells} lt = record {
  long = refl;
  sizes = λ p none. (let e : size_in (mask_in cells r) p ≡ size_in (mask_in cells r) p + 0 = omega arith in e) ∙
      ap (λ n. size_in (mask_in cells r) p + n) (sym (none_below plane down (bit mask p) lt));
  slots = λ slot few apart. refl;
  others = λ i slot lt few apart. refl;
}

pub puts_some : {plane down r mask : ℕ} {old new : List ℤ} → plane < 27 → 1 ≤ down → down ≤ plane → PutsMask r (plane - down) mask old new →
    PutsBelow plane down r mask old new
puts_some {plane} {down} {r} {mask} {old} {new} low some le put = record {
  long = put.long;
  sizes = λ p none. by p (none le) (bit mask p) refl;
  slots = λ slot few apart. put.other_slots slot few (λ e. apart (omega (arith, e, le)));
  others = put.other_blocks;
}
  where
    slot_low : plane - down < 27
    slot_low = omega (arith, low)

    is_there : nat_le down plane ≡ true
    is_there = grind (arith, nat_tests)

    others : (p s : ℕ) → s < 27 → (s ≡ plane - down → ⊥) → bit (mask_in new r s) p ≡ bit (mask_in old r s) p
    others p s few apart = ap (λ m. bit m p) (put.other_slots s (omega (arith, few)) apart)

    by : (p : ℕ) → bit (mask_in old r (plane - down)) p ≡ false → (b : Bool) → bit mask p ≡ b →
        size_in (mask_in new r) p ≡ size_in (mask_in old r) p + weight_below plane down b
    by p none true e =
        size_given old new r (plane - down) p slot_low (others p) (ap (λ m. bit m p) put.here ∙ e) ∙
        ap (λ x. size_in (mask_in old r) p + (if not x then 2 ^ (plane - down) else 0)) (size_bit (mask_in old r) p (plane - down) slot_low ∙ none) ∙
        ap (λ x. size_in (mask_in old r) p + (if x then 2 ^ (plane - down) else 0)) (sym is_there)
    by p none false e =
        size_kept old new r (plane - down) p slot_low (others p) (ap (λ m. bit m p) put.here ∙ e ∙ sym none) ∙ omega arith

-- ---- half of a DC's interval

pub half_there : (weights : List ℕ) (low : ℕ) → 0 < low → coded weights (low - 1) 0 ≡ true → (let half : Option ℕ = Some (low - 1) in half) ≡
    half_plane weights low
half_there weights low some e =
    let le : nat_le (shift weights 0) (low - 1) ≡ true = sym (coded-is weights (low - 1) 0) ∙ e in
    let t : nat_lt (shift weights 0) low ≡ true = grind (arith, nat_tests) in
    sym (ap (λ (x : Bool). let half : Option ℕ = Some (low - 1) in if x then half else None) t)

pub half_none : (weights : List ℕ) (low : ℕ) → low ≡ 0 → (let half : Option ℕ = None in half) ≡ half_plane weights low
half_none weights low e =
    let t : nat_lt (shift weights 0) low ≡ false = grind (arith, nat_tests) in
    sym (ap (λ (x : Bool). let half : Option ℕ = Some (low - 1) in if x then half else None) t)

pub half_over : (weights : List ℕ) (low : ℕ) → 0 < low → coded weights (low - 1) 0 ≡ false → (let half : Option ℕ = None in half) ≡ half_plane weights low
half_over weights low some e =
    let gt : nat_le (shift weights 0) (low - 1) ≡ false = sym (coded-is weights (low - 1) 0) ∙ e in
    let t : nat_lt (shift weights 0) low ≡ false = grind (arith, nat_tests) in
    sym (ap (λ (x : Bool). let half : Option ℕ = Some (low - 1) in if x then half else None) t)

pub some_half : (weights : List ℕ) (low plane : ℕ) → half_plane weights low ≡ Some plane → (shift weights 0 < low) × (plane ≡ low - 1)
some_half weights low plane e = by (nat_lt (shift weights 0) low) refl e
  where
    by : (x : Bool) → nat_lt (shift weights 0) low ≡ x → (let one : Option ℕ = Some (low - 1) in if x then one else None) ≡ Some plane →
        (shift weights 0 < low) × (plane ≡ low - 1)
    by true t e = ((let lt : shift weights 0 < low = grind (arith, nat_tests) in lt), (let same : low - 1 ≡ plane = inj e in sym same))
      where
        value : Option ℕ → ℕ
        value (Some n) = n
        value None = 0

        inj : {a b : ℕ} → (let x : Option ℕ = Some a in x) ≡ Some b → a ≡ b
        inj e = ap value e
    by false t e = absurd (subst is_none e tt)
      where
        is_none : Option ℕ → Type 0
        is_none (Some n) = ⊥
        is_none None = Unit {0}

pub no_half : (weights : List ℕ) (low : ℕ) → half_plane weights low ≡ None → low ≤ shift weights 0
no_half weights low e = by (nat_lt (shift weights 0) low) refl e
  where
    by : (x : Bool) → nat_lt (shift weights 0) low ≡ x → (let one : Option ℕ = Some (low - 1) in if x then one else None) ≡ None → low ≤ shift weights 0
    by true t e = absurd (subst is_some e tt)
      where
        is_some : Option ℕ → Type 0
        is_some (Some n) = Unit {0}
        is_some None = ⊥
    by false t e = let le : low ≤ shift weights 0 = grind (arith, nat_tests) in le

pub adds_half : {weights : List ℕ} {q plane r half : ℕ} {old new : List ℤ} → half_plane weights (dc_reach q plane old r) ≡ Some half →
    AddsDc half r true old new → AddsHalf weights q plane r old new
adds_half {weights} {q} {plane} {r} {half} {old} {new} is adds =
    let low = dc_reach q plane old r in
    let k = some_half weights low half is in
    let over = k.0 in
    let same : half + 1 ≡ low = (let e = k.1 in omega (arith, over, e)) in
    record {
      long = adds.long;
      dc = λ none. adds.dc (subst (λ n. HasNoneBelow n (dc_in old r)) (sym same) none) ∙ ap (λ n. dc_in old r +ℤ pos (2 ^ n)) k.1 ∙
          sym (restored_half (shift weights 0) low (dc_in old r) over);
      slots = adds.slots;
      others = adds.others;
    }

pub adds_none : {weights : List ℕ} {q plane r : ℕ} {cells : List ℤ} → half_plane weights (dc_reach q plane cells r) ≡ None →
    AddsHalf weights q plane r cells cells
adds_none {weights} {q} {plane} {r} {cells} is = record {
  long = refl;
  dc = λ none. sym (restored_whole (shift weights 0) (dc_reach q plane cells r) (dc_in cells r) (no_half weights (dc_reach q plane cells r) is));
  slots = λ slot few apart. refl;
  others = λ i slot lt few apart. refl;
}

-- the plane of the half, by whether the plane gave a bit of the DC
pub half_by : (weights : List ℕ) (q plane r : ℕ) (cells : List ℤ) (b : Bool) → b ≡ bit (mask_in cells r raw_slot) 0 →
    half_plane weights (dc_reach q plane cells r) ≡ half_plane weights (if b then plane else min q (plane + 1))
half_by weights q plane r cells b e = ap (λ x. half_plane weights (if x then plane else min q (plane + 1))) (sym e)

-- ---- a block

over_zero : (n : ℕ) → 0 < n → nat_lt 0 n ≡ true
over_zero n some = grind (arith, nat_tests)

coded_at : (weights : List ℕ) (plane down p : ℕ) → down ≤ plane → coded_below weights plane down p ≡ nat_le (shift weights p) (plane - down)
coded_at weights plane down p le =
    let e : nat_le down plane ≡ true = grind (arith, nat_tests) in
    ap (λ x. x && coded weights (plane - down) p) e ∙ coded-is weights (plane - down) p

module _ (weights : List ℕ) (q plane r : ℕ) (low : plane < 27) {old c1 c2 c3 new : List ℤ} (reached : IsReached q plane r old) {m1 m2 m3 : ℕ}
    (first : PutsBelow plane 1 r m1 old c1) (second : PutsBelow plane 2 r m2 c1 c2) (third : PutsBelow plane 3 r m3 c2 c3)
    (half : AddsHalf weights q plane r c3 new) where
  kept : (slot : ℕ) → plane ≤ slot → slot < 32 → mask_in c3 r slot ≡ mask_in old r slot
  kept slot le few = third.slots slot few (λ e. omega (arith, e, le)) ∙ second.slots slot few (λ e. omega (arith, e, le)) ∙
      first.slots slot few (λ e. omega (arith, e, le))

  still : (slot : ℕ) → plane ≤ slot → slot < 32 → (slot ≡ dc_slot → ⊥) → mask_in new r slot ≡ mask_in old r slot
  still slot le few apart = half.slots slot few apart ∙ kept slot le few

  abbrev given : ℕ → Bool
  given p = bit (mask_in old r plane) p || bit (mask_in old r raw_slot) p

  abbrev above : ℕ → Bool
  above p = bit (mask_in old r above_slot) p

  dc_now : dc_in new r ≡ restored_dc (shift weights 0) (Some (max (shift weights 0) (dc_reach q plane old r))) (dc_in old r)
  dc_now =
      let reach : dc_reach q plane c3 r ≡ dc_reach q plane old r = ap (λ m. if bit m 0 then plane else min q (plane + 1)) (kept raw_slot (omega (arith, low))
      (omega arith)) in
      let dc : dc_in c3 r ≡ dc_in old r = ap (λ m. cast_signed w32 (m % 2 ^ 32)) (kept dc_slot (omega (arith, low)) (omega arith)) in
      half.dc (subst (λ n. HasNoneBelow n (dc_in c3 r)) (sym reach) (subst (HasNoneBelow (dc_reach q plane old r)) (sym dc) reached.dc)) ∙
      (λ i. restored_dc (shift weights 0) (Some (max (shift weights 0) (reach i))) (dc i))

  abbrev near : ℕ → Bool
  near = coded_below weights plane 1

  abbrev middle : ℕ → Bool
  middle = coded_below weights plane 2

  abbrev far : ℕ → Bool
  far = coded_below weights plane 3

  module _ (is_first : (p : ℕ) → p < 64 → bit m1 p ≡ ((not (given p) && above p) && near p))
      (is_second : (p : ℕ) → p < 64 → bit m2 p ≡ (above p && middle p)) (is_third : (p : ℕ) → p < 64 → bit m3 p ≡ ((above p && given p) && far p)) where
    added : ℕ → ℕ
    added p =
        weight_below plane 1 ((not (given p) && above p) && near p) + weight_below plane 2 (above p && middle p) +
        weight_below plane 3 ((above p && given p) && far p)

    size_now : (p : ℕ) → IsAc p → size_in (mask_in new r) p ≡ size_in (mask_in old r) p + added p
    unfolding added
    size_now p ac =
        let few : p < 64 = ac.1 in
        let empty : (s : ℕ) → s < plane → bit (mask_in old r s) p ≡ false = λ s lt. reached.empty s p lt ac in
        let a = first.sizes p (λ le. empty (plane - 1) (omega (arith, le))) ∙ ap (λ b. size_in (mask_in old r) p + weight_below plane 1 b) (is_first p few) in
        let b = second.sizes p (λ le. ap (λ m. bit m p) (first.slots (plane - 2) (omega (arith, low)) (λ e. omega (arith, e, le))) ∙
        empty (plane - 2) (omega (arith, le))) ∙ ap (λ b. size_in (mask_in c1 r) p + weight_below plane 2 b) (is_second p few) in
        let c = third.sizes p (λ le. ap (λ m. bit m p) (second.slots (plane - 3) (omega (arith, low)) (λ e. omega (arith, e, le)) ∙
        first.slots (plane - 3) (omega (arith, low)) (λ e. omega (arith, e, le))) ∙ empty (plane - 3) (omega (arith, le))) ∙
        ap (λ b. size_in (mask_in c2 r) p + weight_below plane 3 b) (is_third p few) in
        let d : size_in (mask_in new r) p ≡ size_in (mask_in c3 r) p =
        ap value_of (bits_below-same (mask_in new r) (mask_in c3 r) p 27 (λ s lt. ap (λ m. bit m p) (half.slots s (omega (arith, lt))
        (λ e. omega (arith, e, lt))))) in
        omega (arith, a, b, c, d)

    number_now : (p : ℕ) → IsAc p → number_in new r p ≡ restored_ac (shift weights p) (Some (ac_reach weights plane old r p)) (number_in old r p)
    unfolding added
    number_now p ac =
        let minus : mask_in new r minus_slot ≡ mask_in old r minus_slot = still minus_slot (omega (arith, low)) (omega arith) (λ e. omega (arith, e)) in
        let size = size_in (mask_in old r) p in
        let sign = bit (mask_in old r minus_slot) p in
        let reach = ac_reach weights plane old r p in
        let after : number_in new r p ≡ signed sign (size + added p) = ac_number new r p ac.0 ∙ (λ i. signed (bit (minus i) p) (size_now p ac i)) in
        let before : restored_ac (shift weights p) (Some reach) (signed sign size) ≡ restored_ac (shift weights p) (Some reach) (number_in old r p) =
        ap (restored_ac (shift weights p) (Some reach)) (sym (ac_number old r p ac.0)) in
        after ∙ elim (cases_eq size 0) [
          | inl e ↦
              let none : nat_lt 0 size ≡ false = ap (nat_lt 0) e in
              let same : size + 0 ≡ size = omega arith in
              ap (λ n. signed sign (size + n)) (rest_none plane (above p) (given p) (near p) (middle p) (far p) (reached.above p ac ∙ none)) ∙
              ap (signed sign) (same ∙ e) ∙ sym (restored_zero (shift weights p) (Some reach) sign) ∙
              ap (λ n. restored_ac (shift weights p) (Some reach) (signed sign n)) (sym e)
          | inr some ↦
              let over : 0 < size = omega (arith, some) in
              let yes : nat_lt 0 size ≡ true = over_zero size over in
              ap (λ n. signed sign (size + n)) (rest_given (shift weights p) plane (above p) (given p) (near p) (middle p) (far p)
              (coded_at weights plane 1 p) (coded_at weights plane 2 p) (coded_at weights plane 3 p)
              (reached.above p ac ∙ yes)) ∙ sym (restored_signed (shift weights p) reach sign size over)
        ] ∙ before

    pub block_restored : RestoresBlock weights q plane r old new
    block_restored = record {
      long = half.long ∙ third.long ∙ second.long ∙ first.long;
      here = record { dc = dc_now; acs = number_now; slots = still };
      others = λ i slot lt few apart.
          let one : 64 * i < length c1 = subst (λ n. 64 * i < n) (sym first.long) lt in
          let two : 64 * i < length c2 = subst (λ n. 64 * i < n) (sym second.long) one in
          let three : 64 * i < length c3 = subst (λ n. 64 * i < n) (sym third.long) two in
          half.others i slot three few apart ∙ third.others i slot two few apart ∙ second.others i slot one few apart ∙ first.others i slot lt few apart;
    }

-- the bits of a mask that is shown by position
pub bits_shown : {mask : ℕ} {f : ℕ → Bool} → Shows mask f 0 64 → (p : ℕ) → p < 64 → bit mask p ≡ f p
bits_shown {f = f} shown p few = let e : 0 + p ≡ p = omega arith in shown.at p few ∙ ap f e

-- ---- all blocks

-- blocks with the same masks
same_reached : {q plane r : ℕ} {a b : List ℤ} → plane < 27 → ((slot : ℕ) → slot < 32 → mask_in b r slot ≡ mask_in a r slot) → IsReached q plane r a →
    IsReached q plane r b
same_reached {q} {plane} {r} {a} {b} low same reached =
    let size : (p : ℕ) → size_in (mask_in b r) p ≡ size_in (mask_in a r) p = λ p. ap value_of (bits_below-same (mask_in b r) (mask_in a r) p 27
    (λ s lt. ap (λ m. bit m p) (same s (omega (arith, lt))))) in
    let reach : dc_reach q plane b r ≡ dc_reach q plane a r = ap (λ m. if bit m 0 then plane else min q (plane + 1)) (same raw_slot (omega arith)) in
    let dc : dc_in b r ≡ dc_in a r = ap (λ m. cast_signed w32 (m % 2 ^ 32)) (same dc_slot (omega arith)) in
    record {
      above = λ p ac. ap (λ m. bit m p) (same above_slot (omega arith)) ∙ reached.above p ac ∙ ap (nat_lt 0) (sym (size p));
      empty = λ slot p lt ac. ap (λ m. bit m p) (same slot (omega (arith, lt, low))) ∙ reached.empty slot p lt ac;
      dc = subst (λ n. HasNoneBelow n (dc_in b r)) (sym reach) (subst (HasNoneBelow (dc_reach q plane a r)) (sym dc) reached.dc);
    }

same_restored : {weights : List ℕ} {q plane r : ℕ} {a b c d : List ℤ} → plane < 27 → ((slot : ℕ) → slot < 32 → mask_in b r slot ≡ mask_in a r slot) →
    ((slot : ℕ) → slot < 32 → mask_in d r slot ≡ mask_in c r slot) → IsRestored weights q plane r b c → IsRestored weights q plane r a d
same_restored {weights} {q} {plane} {r} {a} {b} {c} {d} low same after x =
    let reach : dc_reach q plane b r ≡ dc_reach q plane a r = ap (λ m. if bit m 0 then plane else min q (plane + 1)) (same raw_slot (omega arith)) in
    let dc : dc_in b r ≡ dc_in a r = ap (λ m. cast_signed w32 (m % 2 ^ 32)) (same dc_slot (omega arith)) in
    record {
      dc = ap (λ m. cast_signed w32 (m % 2 ^ 32)) (after dc_slot (omega arith)) ∙ x.dc ∙
          (λ i. restored_dc (shift weights 0) (Some (max (shift weights 0) (reach i))) (dc i));
      acs = λ p ac.
          let low_is : ac_reach weights plane b r p ≡ ac_reach weights plane a r p = λ i. if bit (same plane (omega (arith, low)) i) p ||
          bit (same raw_slot (omega arith) i) p then plane else max (shift weights p) (plane + 1) in
          let number : number_in b r p ≡ number_in a r p = same_number b a r r p (λ s few other. same s few) in
          same_number d c r r p (λ s few other. after s few) ∙ x.acs p ac ∙ (λ i. restored_ac (shift weights p) (Some (low_is i)) (number i));
      slots = λ slot le few apart. after slot few ∙ x.slots slot le few apart ∙ same slot few;
    }

-- the first n blocks are restored, and all others are as they were
pub record RestoredTo (n : ℕ) (weights : List ℕ) (q plane : ℕ) (old new : List ℤ) : Type 0 where
  pub long : length new ≡ length old
  pub done : (r : ℕ) → r < n → 64 * r < length old → IsRestored weights q plane r old new
  pub rest : (r slot : ℕ) → n ≤ r → 64 * r < length old → slot < 32 → mask_in new r slot ≡ mask_in old r slot

pub restored_start : (weights : List ℕ) (q plane : ℕ) (cells : List ℤ) → RestoredTo 0 weights q plane cells cells
restored_start weights q plane cells = record { long = refl; done = λ r lt. absurd (omega (arith, lt)); rest = λ r slot le lt few. refl }

pub reached_still : {n q plane : ℕ} {weights : List ℕ} {old new : List ℤ} → plane < 27 → 64 * n < length old → RestoredTo n weights q plane old new →
    IsReached q plane n old → IsReached q plane n new
reached_still {n = n} low lt so_far reached = same_reached low (λ slot few. so_far.rest n slot (omega arith) lt few) reached

pub restored_more : {n q plane : ℕ} {weights : List ℕ} {old mid new : List ℤ} → plane < 27 → 64 * n < length old → RestoredTo n weights q plane old mid →
    RestoresBlock weights q plane n mid new → RestoredTo (n + 1) weights q plane old new
restored_more {n} {q} {plane} {weights} {old} {mid} {new} low inside so_far block =
    let there : (r : ℕ) → 64 * r < length old → 64 * r < length mid = λ r lt. subst (λ m. 64 * r < m) (sym so_far.long) lt in
    record {
      long = block.long ∙ so_far.long;
      done = λ r lt known. elim (cases_eq r n) [
        | inl e ↦ subst (λ m. IsRestored weights q plane m old new) (sym e) (same_restored low (λ slot few. so_far.rest n slot (omega arith) inside few)
            (λ slot few. refl) block.here)
        | inr apart ↦ same_restored low (λ slot few. refl) (λ slot few. block.others r slot (there r known) few apart)
            (so_far.done r (omega (arith, lt, apart)) known)
      ];
      rest = λ r slot le known few. block.others r slot (there r known) few (λ e. omega (arith, e, le)) ∙
          so_far.rest r slot (omega (arith, le)) known few;
    }

-- ---- the numbers

module _ {weights : List ℕ} {q plane : ℕ} {old new : List ℤ} (whole : length old % 64 ≡ 0) (long : length new ≡ length old)
    (each : (r : ℕ) → 64 * r < length old → IsRestored weights q plane r old new) (g : Given) (lows : HaveLows weights q plane old g) where
  number_there : (r p : ℕ) → 64 * r < length old → p < 64 → get_or (get_or g.numbers r []) p (pos 0) ≡ number_in old r p
  number_there r p lt few =
      ap (λ l. get_or (get_or l r []) p (pos 0)) lows.numbers ∙
      ap (λ b. get_or b p (pos 0)) (block_there (numbers_in old) r (omega (arith, lt, whole, length-numbers_in old))) ∙ block_number old r p whole lt few

  number_is : (r p : ℕ) → 64 * r < length old → p < 64 → restored_at weights p (g.lows r p) (get_or (get_or g.numbers r []) p (pos 0)) ≡ number_in new r p
  number_is r zero lt few =
      (λ i. restored_dc (shift weights 0) (lows.dcs r lt i) (number_there r 0 lt few i)) ∙
      ap (restored_dc (shift weights 0) (Some (max (shift weights 0) (dc_reach q plane old r)))) (dc_number old r) ∙ sym ((each r lt).dc) ∙
      sym (dc_number new r)
  number_is r (suc p) lt few =
      let ac : IsAc (suc p) = (omega arith, few) in
      let apart : (suc p == 0) ≡ false = grind (arith, nat_tests) in
      let s = shift weights (suc p) in
      let low = g.lows r (suc p) in
      let size = size_in (mask_in old r) (suc p) in
      let sign = bit (mask_in old r minus_slot) (suc p) in
      let z = number_in old r (suc p) in
      let is : z ≡ signed sign size = ac_number old r (suc p) ac.0 in
      let reach = ac_reach weights plane old r (suc p) in
      ap (λ (x : Bool). if x then restored_dc (shift weights 0) low (get_or (get_or g.numbers r []) (suc p) (pos 0)) else
      restored_ac s low (get_or (get_or g.numbers r []) (suc p) (pos 0))) apart ∙ ap (restored_ac s low) (number_there r (suc p) lt few) ∙
      elim (cases_eq size 0) [
        | inl e ↦
            let none : z ≡ signed sign 0 = is ∙ ap (signed sign) e in
            ap (restored_ac s low) none ∙ restored_zero s low sign ∙ sym (restored_zero s (Some reach) sign) ∙ ap (restored_ac s (Some reach)) (sym none)
        | inr some ↦ ap (λ l. restored_ac s l z) (lows.acs r (suc p) lt ac (omega (arith, some)))
      ] ∙ sym ((each r lt).acs (suc p) ac)

  pub blocks_restored : restored weights g ≡ blocks_in (numbers_in new)
  blocks_restored =
      let count : length g.numbers ≡ length old / 64 = ap length lows.numbers ∙ count_blocks old in
      let count_now : length (blocks_in (numbers_in new)) ≡ length old / 64 = count_blocks new ∙ ap (λ n. n / 64) long in
      let all : length (restored weights g) ≡ length g.numbers = restored_by_position.count weights g in
      ext_get_or [] (restored weights g) (blocks_in (numbers_in new)) (all ∙ count ∙ sym count_now) (λ r lt.
      let inside : r < length g.numbers = omega (arith, lt, all) in
      let here : 64 * r < length old = omega (arith, inside, count) in
      let there : 64 * r < length new = omega (arith, here, long) in
      let even : length new % 64 ≡ 0 = omega (arith, whole, long) in
      let is : get_or (blocks_in (numbers_in new)) r [] ≡ block_at (numbers_in new) r = block_there (numbers_in new) r (omega (
        arith,
        there,
        even,
        length-numbers_in new,
      )) in
      let size : length (block_at (numbers_in new) r) ≡ 64 = length-block new r even there in
      ext_get_or (pos 0) (get_or (restored weights g) r []) (block_at (numbers_in new) r) (restored_by_position.long weights g r inside ∙ sym size) (λ p few.
      let low : p < 64 = omega (arith, few, restored_by_position.long weights g r inside) in
      restored_by_position.at weights g r p inside low ∙ number_is r p here low ∙ sym (block_number new r p even there low)) ∙ sym is)
