-- Each missing block is in a run of its block row.
use Rattle.std.proofs.Common.{◌≡◌, ◌≤◌, ◌<◌, ◌+◌, ◌-◌, ◌*◌, ◌/◌, ◌%◌, ℕ, zero, suc, Bool, true, false, inl, inr, ap, ◌∙◌, refl, arith, ◌==◌, ◌||◌, not}
use Rattle.std.proofs.lemmas.Bool.{cases_lt, and_from}
use Rattle.std.proofs.lemmas.Bool.Decides.{nat_tests}
use Rattle.std.proofs.lemmas.Nat.{div-add-mod', div-mul-add, mod-mul-add, mod_below}
use Rattle.quick_look.specs.Rects.{begins_run, run_length}
use Rattle.quick_look.proofs.RectTests.{prefix_least}

-- a place of the same block row
pub record SameRow (columns block other column : ℕ) : Type 0 where
  pub row : other / columns ≡ block / columns
  pub column_is : other % columns ≡ column

pub in_row : (columns block other column : ℕ) → column < columns → other + block % columns ≡ block + column → SameRow columns block other column
in_row columns block other column lt e =
    let whole : block / columns * columns + block % columns ≡ block = div-add-mod' block columns in
    let at : other ≡ block / columns * columns + column = omega (arith, whole, e) in
    record {
      row = ap (λ n. n / columns) at ∙ div-mul-add (block / columns) columns column lt;
      column_is = ap (λ n. n % columns) at ∙ mod-mul-add (block / columns) columns column lt;
    }

module _ (columns : ℕ) (lost : ℕ → Bool) where
  -- the run that a missing block is in
  pub record RunOf (block : ℕ) : Type 0 where
    pub first : ℕ
    pub begins : begins_run columns lost first ≡ true
    pub most : first ≤ block
    pub least : block ≤ first + block % columns
    pub going : (k : ℕ) → first ≤ k → k ≤ block → lost k ≡ true

  -- it begins here
  here : (block : ℕ) → lost block ≡ true → ((block % columns == 0) || not (lost (block - 1))) ≡ true → RunOf block
  here block e begins = record {
    first = block;
    begins = and_from (lost block) ((block % columns == 0) || not (lost (block - 1))) e begins;
    most = omega arith;
    least = omega arith;
    going = λ k low high. let same : k ≡ block = omega (arith, low, high) in ap lost same ∙ e;
  }

  -- or at the beginning of the run of the block before it
  further : (block column : ℕ) → block % columns ≡ suc column → (block - 1) % columns ≡ column → suc column ≤ block → lost block ≡ true →
      RunOf (block - 1) → RunOf block
  further block column at before some e r = record {
    first = r.first;
    begins = r.begins;
    most = omega (arith, r.most);
    least = omega (arith, r.least, at, before, some);
    going = λ k low high. elim (cases_lt k block) [
      | inl less ↦ r.going k low (omega (arith, less))
      | inr more ↦ let same : k ≡ block = omega (arith, more, high) in ap lost same ∙ e
    ];
  }

  or_not : (a b : Bool) → b ≡ false → (a || not b) ≡ true
  or_not a b e = grind (arith, nat_tests)

  pub run_of : (column block : ℕ) → 0 < columns → block % columns ≡ column → lost block ≡ true → RunOf block
  run_of zero block some at e =
      let first : (block % columns == 0) ≡ true = grind (arith, nat_tests) in
      here block e (ap (λ b. b || not (lost (block - 1))) first)
  run_of (suc column) block some at e =
      let whole : block / columns * columns + block % columns ≡ block = div-add-mod' block columns in
      let low : block % columns < columns = mod_below block columns some in
      let large : suc column ≤ block = omega (arith, whole, at) in
      let before = in_row columns block (block - 1) column (omega (arith, low, at)) (omega (arith, large, at)) in
      by (lost (block - 1)) refl (λ f. further block column at before.column_is large e (run_of column (block - 1) some before.column_is f))
    where
      by : (b : Bool) → lost (block - 1) ≡ b → (lost (block - 1) ≡ true → RunOf block) → RunOf block
      by true f rest = rest f
      by false f rest = here block e (or_not (block % columns == 0) (lost (block - 1)) f)

  -- it continues up to the block
  pub run_long : (block : ℕ) → 0 < columns → (r : RunOf block) → SameRow columns block r.first (block % columns + r.first - block) →
      block < r.first + run_length columns lost r.first
  run_long block some r same =
      let low : block % columns < columns = mod_below block columns some in
      let m = prefix_least lost r.first (columns - r.first % columns) (block - r.first + 1) (omega (arith, same.column_is, low, r.most, r.least))
      (λ k from to. r.going k from (omega (arith, to, r.most))) in
      omega (arith, m, r.most)
