-- What is significant above a plane, from plane to plane.
use Rattle.std.proofs.Common.{◌≡◌, ◌<◌, ℕ, ◌+◌, ◌*◌, ◌^◌, inl, inr, refl, ap, sym, ◌∙◌, subst, arith, ℤ, Bool, ◌||◌, List, length}
use Rattle.std.proofs.lemmas.Bool.{cases_eq}
use Rattle.item_defs.specs.Bits.{bit}
use Rattle.block_masks.specs.Masks.{Shows}
use Rattle.block_masks.specs.Slices.{mask_in, PutsMask, Settles}
use Rattle.block_masks.proofs.Viewing.{shows_own}

pub none_settled : (plane : ℕ) (cells : List ℤ) → Settles plane 0 cells cells
none_settled plane cells = record {
  long = refl;
  if_known = λ r f g lt. absurd (omega (arith, lt));
  bits = λ r k lt. absurd (omega (arith, lt));
  later = λ r le known. refl;
  other_slots = λ r s known few other. refl;
}

-- the mask of one more block
pub more_settled : {plane r mask : ℕ} {old now new : List ℤ} → plane < 28 → 64 * r < length old → Settles plane r old now → PutsMask r 29 mask now new →
    mask_in now r 29 < 2 ^ 64 → mask_in now r plane < 2 ^ 64 →
    ((f g : ℕ → Bool) (start count : ℕ) → Shows (mask_in now r 29) f start count → Shows (mask_in now r plane) g start count →
    Shows mask (λ p. f p || g p) start count) →
    Settles plane (r + 1) old new
more_settled {plane} {r} {mask} {old} {now} {new} low known so_far put above_fits plane_fits if_known = record {
  long = put.long ∙ so_far.long;
  if_known = λ q f g before there f_shown g_shown. elim (cases_eq q r) [
    | inl same ↦
        let f_now = subst (λ m. Shows m f 0 64) (sym (so_far.later r (omega arith) known)) (subst (λ k. Shows (mask_in old k 29) f 0 64) same f_shown) in
        let g_now = subst (λ m. Shows m g 0 64) (sym (so_far.other_slots r plane known (omega (arith, low)) (λ e. omega (arith, e, low))))
        (subst (λ k. Shows (mask_in old k plane) g 0 64) same g_shown) in
        subst (λ m. Shows m (λ p. f p || g p) 0 64) (sym (ap (λ k. mask_in new k 29) same ∙ put.here)) (if_known f g 0 64 f_now g_now)
    | inr other ↦
        subst (λ m. Shows m (λ p. f p || g p) 0 64) (sym (put.other_blocks q 29 (omega (arith, there, so_far.long)) (omega arith) other))
        (so_far.if_known q f g (omega (arith, before, other)) there f_shown g_shown)
  ];
  bits = λ q k before there lt. elim (cases_eq q r) [
    | inl same ↦
        let z : 0 + k ≡ k = omega arith in
        let here = (if_known (bit (mask_in now r 29)) (bit (mask_in now r plane)) 0 64 (shows_own (mask_in now r 29) 64 above_fits)
        (shows_own (mask_in now r plane) 64 plane_fits)).at k lt in
        let shown : bit (mask_in new r 29) k ≡ (bit (mask_in old r 29) k || bit (mask_in old r plane) k) =
        ap (λ m. bit m k) put.here ∙ here ∙ ap (λ j. bit (mask_in now r 29) j || bit (mask_in now r plane) j) z ∙
        ap (λ m. bit m k || bit (mask_in now r plane) k) (so_far.later r (omega arith) known) ∙ ap (λ m. bit (mask_in old r 29) k || bit m k)
        (so_far.other_slots r plane known (omega (arith, low)) (λ e. omega (arith, e, low))) in
        subst (λ j. bit (mask_in new j 29) k ≡ (bit (mask_in old j 29) k || bit (mask_in old j plane) k)) (sym same) shown
    | inr other ↦ ap (λ m. bit m k) (put.other_blocks q 29 (omega (arith, there, so_far.long)) (omega arith) other)
        ∙ so_far.bits q k (omega (arith, before, other)) there lt
  ];
  later = λ q le there. put.other_blocks q 29 (omega (arith, there, so_far.long)) (omega arith) (λ e. omega (arith, e, le))
      ∙ so_far.later q (omega (arith, le)) there;
  other_slots = λ q s there few other. elim (cases_eq q r) [
    | inl same ↦ subst (λ k. mask_in new k s ≡ mask_in old k s) (sym same) (put.other_slots s few other ∙ so_far.other_slots r s known few other)
    | inr apart ↦ put.other_blocks q s (omega (arith, there, so_far.long)) few apart ∙ so_far.other_slots q s there few other
  ];
}
