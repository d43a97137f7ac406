-- Rectangles are determined by which blocks of their block rows are missing.
use Rattle.std.proofs.Common.{◌≡◌, ◌<◌, ◌*◌, ℕ, Bool, arith, mul-le-mul_right}
use Rattle.std.proofs.lemmas.Nat.{div-add-mod', mod_below, div_below}
use Rattle.std.proofs.lemmas.Bool.Decides.{nat_tests}
use Rattle.base_122.specs.Sizes.{block_count}
use Rattle.quick_look.specs.Rects.{begins_run, run_length, rect_from, rects_before, rects_of}
use Rattle.quick_look.proofs.RectTests.{prefix_same, chosen_same}

module _ (rows width n : ℕ) (p q : ℕ → Bool) (some : 0 < width) (same : (b : ℕ) → b < n * block_count width → p b ≡ q b) where
  abbrev c : ℕ
  c = block_count width

  begins_same : (b : ℕ) → b < n * c → begins_run c p b ≡ begins_run c q b
  begins_same b lt = grind (arith, nat_tests)

  run_same : (b : ℕ) → b < n * c → run_length c p b ≡ run_length c q b
  run_same b lt = grind (arith, nat_tests, div-add-mod', mod_below, div_below, mul-le-mul_right, prefix_same)

  rect_same : (b : ℕ) → b < n * c → rect_from rows width p b ≡ rect_from rows width q b
  rect_same b lt = grind (arith, nat_tests, run_same)

  pub rects_same : rects_of rows width n p ≡ rects_of rows width n q
  unfolding rects_before
  rects_same = grind (arith, nat_tests, chosen_same, begins_same, rect_same)
