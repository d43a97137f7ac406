-- What is given of each DC number, so far.
use Rattle.std.specs.Prelude.{◌==◌}
use Rattle.std.proofs.Common.{◌≡◌, ◌⊎◌, ℕ, suc, ◌+◌, ◌<◌, ◌≤◌, ℤ, true, false, nat_lt, List, length, refl, sym, ap, ◌∙◌, arith, inl, inr, Option, Some, None}
use Rattle.std.specs.Prelude.{if◌then◌else◌}
use Rattle.std.proofs.lemmas.Bool.{cases_eq}
use Rattle.std.proofs.lemmas.Bool.Decides.{nat_tests}
use Rattle.number_defs.specs.Cells.{cell_at}
use Rattle.number_defs.specs.DcLows.{DcGiven, no_dcs, with_dc_given, dcs_given}
use Rattle.dc_depths.specs.declared.reach.DcReach.{DcReach}
use Rattle.dc_depths.specs.Reach.{lows_of, AreGivenTo, all_to}

abbrev pub reach_at : (plane blocks : ℕ) → DcReach
reach_at plane blocks = record { plane = plane; blocks = blocks }

lows_within : (q plane n r : ℕ) → r < n → lows_of q (reach_at plane n) r ≡ Some plane
lows_within q plane n r lt = let t : nat_lt r n ≡ true = grind (arith, nat_tests) in rw t refl

lows_none : (q n r : ℕ) → n ≤ r → lows_of q (reach_at q n) r ≡ None
lows_none q n r le =
    let t : nat_lt r n ≡ false = grind (arith, nat_tests) in
    let e : (q == q) ≡ true = grind (arith, nat_tests) in
    rw (t, e) refl

lows_above : (q plane n r : ℕ) → n ≤ r → plane < q → lows_of q (reach_at plane n) r ≡ Some (plane + 1)
lows_above q plane n r le lt =
    let t : nat_lt r n ≡ false = grind (arith, nat_tests) in
    let e : (plane == q) ≡ false = grind (arith, nat_tests) in
    rw (t, e) refl

-- what is given of these DCs before a plane
abbrev pub given_before : (q plane : ℕ) → List ℤ → DcGiven
given_before q plane blocks = record { dcs = cell_at 64 blocks; lows = lows_of q (all_to plane 0) }

pub before_given : (q plane count : ℕ) (blocks : List ℤ) → plane ≤ q → AreGivenTo q count (all_to plane 0) (given_before q plane blocks).lows
before_given q plane count blocks le = record { low = le; at = λ r lt. refl }

-- nothing is given
pub no_lows : (q count : ℕ) → AreGivenTo q count (all_to q 0) no_dcs.lows
no_lows q count = record { low = omega arith; at = λ r lt. sym (lows_none q 0 r (omega arith)) }

-- a bit of one number more
pub one_low : (q plane count i : ℕ) (g : DcGiven) (dc : ℤ) → AreGivenTo q count (reach_at plane i) g.lows →
    AreGivenTo q count (reach_at plane (suc i)) (with_dc_given g i dc plane).lows
one_low q plane count i g dc so_far = record { low = so_far.low; at = λ r lt. by r (cases_eq r i) (so_far.at r lt) }
  where
    by : (r : ℕ) → (r ≡ i) ⊎ (r ≡ i → ⊥) → g.lows r ≡ lows_of q (reach_at plane i) r →
        (if r == i then Some plane else g.lows r) ≡ lows_of q (reach_at plane (suc i)) r
    by r (inl e) same = let t : (r == i) ≡ true = grind (arith, nat_tests) in rw t (sym (lows_within q plane (suc i) r (omega (arith, e))))
    by r (inr ne) same =
        let t : (r == i) ≡ false = grind (arith, nat_tests) in
        let u : nat_lt r (suc i) ≡ nat_lt r i = grind (arith, nat_tests) in
        rw (t, u) same

-- the first numbers, of this count
pub high_lows : (N q count : ℕ) (heights : List ℕ) → AreGivenTo q count (reach_at q (length heights)) (dcs_given N q heights).lows
high_lows N q count heights =
    record { low = omega arith; at = λ r lt. let e : (q == q) ≡ true = grind (arith, nat_tests) in rw e refl }

-- all are given down to a plane: none is given down to the next yet
pub next_plane : (q plane p count : ℕ) (lows : ℕ → Option ℕ) → plane ≡ p + 1 → plane ≤ q → AreGivenTo q count (all_to plane count) lows →
    AreGivenTo q count (all_to p 0) lows
next_plane q plane p count lows is within so_far = record {
  low = omega (arith, is, within);
  at = λ r lt.
      so_far.at r lt ∙ lows_within q plane count r lt ∙ ap (λ n. Some n) is ∙ sym (lows_above q p 0 r (omega arith) (omega (arith, is, within)));
}
