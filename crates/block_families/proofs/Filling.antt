-- Stretches of a list that are filled one after another.
use Rattle.std.proofs.Common.{◌≡◌, ℕ, ◌+◌, ◌*◌, ◌<◌, ◌≤◌, ℤ, pos, List, length, map, drop, inl, inr, refl, sym, ap, ◌∙◌, arith, slice_set, ext_get_or}
use Rattle.std.proofs.Common.{length-take, length-drop, get_or-take, get_or-drop}
use Rattle.std.specs.List.{range_with_len}
use Rattle.std.proofs.lemmas.Bool.{cases_lt}
use Rattle.std.proofs.lemmas.List.{length-set, get_or-set_other}
use Rattle.std.proofs.lemmas.List.FromFn.{length-map-range_with_len, get_or-map-range_with_len}
use Rattle.std.proofs.lemmas.Grind.{get_or-set_at}
use Rattle.wave_defs.specs.Held.{block_at}
use Rattle.block_families.specs.Gathering.{Fills, FillsEach}

-- one stretch and then the next
pub fills_on : (value : ℕ → ℤ) (from a b next count : ℕ) (old mid new : List ℤ) → next ≡ from + a → count ≡ a + b →
    Fills value from a old mid → Fills value next b mid new → Fills value from count old new
fills_on value from a b next count old mid new en ec x y = record {
  whole = y.whole ∙ x.whole;
  there = λ i h k.
      elim (cases_lt i next) [
        | inl lt ↦ y.others i (λ u v. absurd (omega arith)) ∙ x.there i h (omega arith)
        | inr ge ↦ y.there i ge (omega arith)
      ];
  others = λ i out. y.others i (λ u v. out (omega arith) (omega arith)) ∙ x.others i (λ u v. out u (omega arith));
}

pub fills_one : (value : ℕ → ℤ) (at : ℕ) (a : ℤ) (old : List ℤ) → at < length old → a ≡ value at → Fills value at 1 old (slice_set old at a)
fills_one value at a old below same = record {
  whole = length-set old at a;
  there = λ i h k. let here : i ≡ at = omega arith in get_or-set_at old at i a (pos 0) here below ∙ same ∙ ap value (sym here);
  others = λ i out. get_or-set_other old at i a (pos 0) (λ e. out (omega arith) (omega arith));
}

pub fills_four : (value : ℕ → ℤ) (at : ℕ) (a b c d : ℤ) (old : List ℤ) → at + 4 ≤ length old →
    a ≡ value at → b ≡ value (at + 1) → c ≡ value (at + 2) → d ≡ value (at + 3) →
    Fills value at 4 old (slice_set (slice_set (slice_set (slice_set old at a) (at + 1) b) (at + 2) c) (at + 3) d)
fills_four value at a b c d old room ea eb ec ed =
    let x = slice_set old at a in
    let y = slice_set x (at + 1) b in
    let z = slice_set y (at + 2) c in
    let lx = length-set old at a in
    let ly = length-set x (at + 1) b in
    let lz = length-set y (at + 2) c in
    let one = fills_one value at a old (omega arith) ea in
    let two = fills_on value at 1 1 (at + 1) 2 old x y (omega arith) (omega arith) one (fills_one value (at + 1) b x (omega arith) eb) in
    let three = fills_on value at 2 1 (at + 2) 3 old y z (omega arith) (omega arith) two (fills_one value (at + 2) c y (omega arith) ec) in
    fills_on value at 3 1 (at + 3) 4 old z (slice_set z (at + 3) d) (omega arith) (omega arith) three (fills_one value (at + 3) d z (omega arith) ed)

-- ---- the same places of each of some blocks

pub each_none : (value : ℕ → ℕ → ℤ) (from count : ℕ) (old : List ℤ) → FillsEach value from count 0 old old
each_none value from count old = record { whole = refl; there = λ k i none h l. absurd (omega (arith, none)); others = λ j out. refl }

-- the same values in another form
pub each_as : (value other : ℕ → ℕ → ℤ) (from count n : ℕ) (old new : List ℤ) → FillsEach other from count n old new →
    ((k i : ℕ) → k < n → from ≤ i → i < from + count → other k i ≡ value k i) → FillsEach value from count n old new
each_as value other from count n old new f same = record {
  whole = f.whole;
  there = λ k i few h l. f.there k i few h l ∙ same k i few h l;
  others = f.others;
}

-- one more block
pub each_more : (value : ℕ → ℕ → ℤ) (one : ℕ → ℤ) (from count n at : ℕ) (old mid new : List ℤ) → at ≡ 64 * n + from → from + count ≤ 64 →
    FillsEach value from count n old mid → Fills one at count mid new →
    ((i : ℕ) → from ≤ i → i < from + count → one (64 * n + i) ≡ value n i) → FillsEach value from count (n + 1) old new
each_more value one from count n at old mid new here fit x y same = record {
  whole = y.whole ∙ x.whole;
  there = λ k i few h l. elim (cases_lt k n) [
    | inl lt ↦ y.others (64 * k + i) (λ u v. absurd (omega (arith, lt, here, fit, h, l, u))) ∙ x.there k i lt h l
    | inr ge ↦
        let e : k ≡ n = omega (arith, few, ge) in
        let place : 64 * k + i ≡ 64 * n + i = ap (λ m. 64 * m + i) e in
        y.there (64 * k + i) (omega (arith, here, e, h)) (omega (arith, here, e, l)) ∙ ap one place ∙ same i h l ∙ ap (λ m. value m i) (sym e)
  ];
  others = λ j out.
      y.others j (λ u v. out n (omega arith) (omega (arith, u, here)) (omega (arith, v, here)))
      ∙ x.others j (λ k few u v. out k (omega (arith, few)) u v);
}

-- one stretch of each block and then the next
pub each_on : (value : ℕ → ℕ → ℤ) (from a b next count n m : ℕ) (old mid new : List ℤ) → next ≡ from + a → count ≡ a + b → from + count ≤ 64 → m ≡ n →
    FillsEach value from a n old mid → FillsEach value next b m mid new → FillsEach value from count n old new
each_on value from a b next count n m old mid new en ec fit em x y = record {
  whole = y.whole ∙ x.whole;
  there = λ k i few h l. elim (cases_lt i next) [
    | inl lt ↦ y.others (64 * k + i) (λ q some u v. absurd (omega (arith, u, v, lt, l, en, ec, fit))) ∙ x.there k i few h (omega (arith, lt, en))
    | inr ge ↦ y.there k i (omega (arith, few, em)) ge (omega (arith, l, en, ec))
  ];
  others = λ j out.
      y.others j (λ k few u v. out k (omega (arith, few, em)) (omega (arith, u, en)) (omega (arith, v, en, ec)))
      ∙ x.others j (λ k few u v. out k few u (omega (arith, v, ec)));
}

-- the whole list
pub each_all : (value : ℕ → ℕ → ℤ) (n : ℕ) (old new : List ℤ) → 64 * n ≤ length old → FillsEach value 0 64 n old new → (k : ℕ) → k < n →
    block_at new k ≡ map (value k) (range_with_len 0 64)
each_all value n old new long f k few =
    let whole = f.whole in
    let size : length (block_at new k) ≡ 64 = omega (arith, length-take 64 (drop (64 * k) new), length-drop (64 * k) new, long, whole, few) in
    ext_get_or (pos 0) (block_at new k) (map (value k) (range_with_len 0 64)) (size ∙ sym (length-map-range_with_len (value k) 0 64)) (λ i lt.
    let low : i < 64 = omega (arith, lt, size) in
    get_or-take 64 (drop (64 * k) new) i (pos 0) low ∙ get_or-drop (64 * k) new i (pos 0) ∙ f.there k i few (omega arith) (omega (arith, low))
    ∙ sym (get_or-map-range_with_len (value k) 0 64 i i (pos 0) low (omega arith)))
