-- The masks of one gaggle in the list of those of all gaggles.
use Rattle.std.proofs.Common.{◌≡◌, ◌≤◌, inl, inr, ℕ, ◌+◌, ◌*◌, refl, ap, sym, ◌∙◌, arith, List, ◌++◌, length, take, drop}
use Rattle.std.proofs.lemmas.List.{length-append, length-drop, length-take-le, drop-take, take_at, drop_at}
use Rattle.std.proofs.lemmas.Slice.{take-put_mid_below, drop-put_mid}
use Rattle.std.proofs.lemmas.Bool.{cases_lt}
use borrow.Rule.Slice.PartMut.{put_mid, post_of}
use Rattle.plane_coder.specs.Kept.{free_at, KeepsOthers}

pub length-free_at : (kept : List ℕ) (g : ℕ) → 32 * g + 32 ≤ length kept → length (free_at kept g) ≡ 32
length-free_at kept g full = length-take-le 32 (drop (32 * g) kept) (omega (arith, full, length-drop (32 * g) kept))

pub others_stay : (g : ℕ) (kept : List ℕ) → KeepsOthers g kept kept
others_stay g kept = record { long = refl; others = λ h apart full. refl }

-- the masks of a gaggle are others now
module _ (g : ℕ) (kept now : List ℕ) (full : 32 * g + 32 ≤ length kept) (whole : length now ≡ 32) where
  pub here_put : free_at (put_mid (32 * g) 32 kept now) g ≡ now
  here_put =
      let rest = post_of (32 * g) 32 kept in
      ap (take 32) (drop_at (take (32 * g) kept) (now ++ rest) (32 * g) (length-take-le (32 * g) kept (omega (arith, full)))) ∙ take_at now rest 32 whole

  length-put : length (put_mid (32 * g) 32 kept now) ≡ length kept
  length-put =
      let a = 32 * g in
      let rest = post_of a 32 kept in
      omega (
        arith,
        full,
        whole,
        length-append (take a kept) (now ++ rest),
        length-append now rest,
        length-take-le a kept (omega (arith, full)),
        length-drop 32 (drop a kept),
        length-drop a kept,
      )

  pub others_put : KeepsOthers g kept (put_mid (32 * g) 32 kept now)
  others_put = record {
    long = length-put;
    others = λ h apart there. elim (cases_lt h g) [
      | inl below ↦ sym (drop-take (32 * h) 32 (put_mid (32 * g) 32 kept now))
          ∙ ap (drop (32 * h)) (take-put_mid_below (32 * g) 32 kept now (32 * h + 32) (omega (arith, below)) (omega (arith, full))) ∙ drop-take (32 * h) 32 kept
      | inr above ↦ ap (take 32) (drop-put_mid (32 * g) 32 kept now (32 * h) (omega (arith, above, apart)) (omega (arith, full)) whole)
    ];
  }
