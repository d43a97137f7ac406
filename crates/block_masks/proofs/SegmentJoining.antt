-- Words that get the bits of others.
use Rattle.std.proofs.Common.{◌<◌, ◌≤◌, ℕ, ◌+◌, ◌^◌, ◌⊎◌, inl, inr, refl, ap, sym, ◌∙◌, subst, arith, Bool, ◌||◌, List, length, get_or, set, length-set}
use Rattle.std.proofs.lemmas.Bool.{cases_eq}
use Rattle.std.proofs.lemmas.List.{get_or-set_same, get_or-set_other}
use Rattle.block_masks.specs.Masks.{Shows}
use Rattle.block_masks.specs.SegmentNumbers.{JoinsWords}
use Rattle.block_masks.proofs.SegmentWords.{put_fits}

pub none_joined : (to from : ℕ) (words : List ℕ) → JoinsWords to from 0 words words
none_joined to from words = record {
  long = refl;
  here = λ r f g lt. absurd (omega (arith, lt));
  others = λ i apart. refl;
  fit = λ fit. fit;
}

-- one more word
pub more_joined : {to from r mask : ℕ} {old now : List ℕ} → to + r < from → from + r < length old → mask < 2 ^ 64 → JoinsWords to from r old now →
    ((f g : ℕ → Bool) (start count : ℕ) → Shows (get_or now (to + r) 0) f start count → Shows (get_or now (from + r) 0) g start count →
    Shows mask (λ p. f p || g p) start count) →
    JoinsWords to from (r + 1) old (set now (to + r) mask)
more_joined {to} {from} {r} {mask} {old} {now} apart within small so_far if_known = record {
  long = length-set now (to + r) mask ∙ so_far.long;
  here = λ q f g lt f_shown g_shown. elim (cases_eq q r) [
    | inl same ↦
        let f_now = subst (λ m. Shows m f 0 64) (sym (so_far.others (to + r) (inr (omega arith))))
        (subst (λ k. Shows (get_or old (to + k) 0) f 0 64) same f_shown) in
        let g_now = subst (λ m. Shows m g 0 64) (sym (so_far.others (from + r) (inr (omega (arith, apart)))))
        (subst (λ k. Shows (get_or old (from + k) 0) g 0 64) same g_shown) in
        let there : to + r < length now = omega (arith, apart, within, so_far.long) in
        subst (λ m. Shows m (λ p. f p || g p) 0 64) (sym (ap (λ k. get_or (set now (to + r) mask) (to + k) 0) same ∙ get_or-set_same now (to + r) mask 0
        there)) (if_known f g 0 64 f_now g_now)
    | inr other ↦
        subst (λ m. Shows m (λ p. f p || g p) 0 64) (sym (get_or-set_other now (to + r) (to + q) mask 0 (λ e. other (omega (arith, e)))))
        (so_far.here q f g (omega (arith, lt, other)) f_shown g_shown)
  ];
  others = λ i far. get_or-set_other now (to + r) i mask 0 (λ e. elim far [ inl lt ↦ omega (arith, lt, e) | inr le ↦ omega (arith, le, e) ])
      ∙ so_far.others i (elim far as (λ _. (i < to) ⊎ (to + r ≤ i)) [ inl lt ↦ inl lt | inr le ↦ inr (omega (arith, le)) ]);
  fit = λ fit. put_fits now (to + r) mask small (so_far.fit fit);
}
