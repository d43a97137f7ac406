-- Three levels and their inverse: they undo each other, they depend only on the samples within, and these have bounds.
use Rattle.std.proofs.Common.{◌≡◌, ℕ, ◌*◌, ◌^◌, ◌≤◌, ℤ, ap, ◌∙◌, arith}
use Rattle.std.proofs.lemmas.Bool.Decides.{nat_tests}
use Rattle.wave_defs.specs.Level.{level, joined}
use Rattle.wave_defs.specs.Pyramid.{Pyramid, pyramid, pyramid_of, rebuilt, first_of, second_of, third_of}
use Rattle.wave_defs.specs.Within.{EachWithin, QuartersWithin, PyramidWithin}
use Rattle.wave_defs.specs.Held.{SameWithin, SamePyramid}
use Rattle.wave_defs.proofs.LevelLaws.{joined-level, level-joined}
use Rattle.wave_defs.proofs.LevelSame.{level-same, joined-same, SameWithin-trans}
use Rattle.wave_defs.proofs.LevelWithin.{EachWithin-more, EachWithin-same, level-within, joined-within}

pub rebuilt-pyramid : (a : ℕ → ℕ → ℤ) (r c : ℕ) → rebuilt (pyramid a r c) r c ≡ a
unfolding rebuilt pyramid pyramid_of first_of second_of third_of
rebuilt-pyramid a r c =
    let first = level a (4 * r) (4 * c) in
    let second = level first.ll (2 * r) (2 * c) in
    ap (λ (x : ℕ → ℕ → ℤ). joined (record first { ll = joined (record second { ll = x }) (2 * r) (2 * c) }) (4 * r) (4 * c)) (joined-level second.ll r c)
    ∙ ap (λ (x : ℕ → ℕ → ℤ). joined (record first { ll = x }) (4 * r) (4 * c)) (joined-level first.ll (2 * r) (2 * c))
    ∙ joined-level a (4 * r) (4 * c)

pub pyramid-rebuilt : (p : Pyramid) (r c : ℕ) → pyramid (rebuilt p r c) r c ≡ p
unfolding rebuilt pyramid pyramid_of first_of second_of third_of
pyramid-rebuilt p r c = grind (arith, nat_tests, level-joined)

-- ---- magnitudes

pub pyramid-within : (a : ℕ → ℕ → ℤ) (r c : ℕ) → 2 ≤ r → 2 ≤ c → EachWithin (2 ^ 16) (8 * r) (8 * c) a →
    PyramidWithin 409600 2560000 16000000 r c (pyramid a r c)
unfolding pyramid pyramid_of
pyramid-within a r c hr hc b =
    let start = EachWithin-more _ (4 * 16384) _ (2 * (4 * r)) _ (2 * (4 * c)) a (omega arith) (omega arith) (omega arith) b in
    let one = level-within 16384 (4 * r) (4 * c) a (omega arith) (omega arith) (omega arith) start in
    let low = EachWithin-more _ (4 * 102400) _ (2 * (2 * r)) _ (2 * (2 * c)) _ (omega arith) (omega arith) (omega arith) one.ll in
    let two = level-within 102400 (2 * r) (2 * c) _ (omega arith) (omega arith) (omega arith) low in
    let last = EachWithin-more _ (4 * 640000) _ (2 * r) _ (2 * c) _ (omega arith) (omega arith) (omega arith) two.ll in
    let three = level-within 640000 r c _ (omega arith) hr hc last in
    record {
      hh1 = one.hh;
      hl1 = one.hl;
      lh1 = one.lh;
      hh2 = two.hh;
      hl2 = two.hl;
      lh2 = two.lh;
      hh3 = three.hh;
      hl3 = three.hl;
      lh3 = three.lh;
      ll3 = three.ll;
    }

-- the four bands of each level in the inverse
pub third_of-within : (m : ℕ) (p : Pyramid) (r c : ℕ) → PyramidWithin m m m r c p → QuartersWithin m r c (third_of p)
unfolding third_of
third_of-within m p r c b = record { ll = b.ll3; hl = b.hl3; lh = b.lh3; hh = b.hh3 }

pub second_of-within : (m : ℕ) (p : Pyramid) (r c : ℕ) → 9 ≤ m → 2 ≤ r → 2 ≤ c → PyramidWithin m m m r c p →
    QuartersWithin (9 * m) (2 * r) (2 * c) (second_of p r c)
unfolding second_of
second_of-within m p r c nine hr hc b =
    let more = λ (x : ℕ → ℕ → ℤ) (h : EachWithin m (2 * r) (2 * c) x). EachWithin-more m (9 * m) _ (2 * r) _ (2 * c) x (omega arith) (omega arith)
    (omega arith) h in
    record {
      ll = joined-within m r c (third_of p) nine hr hc (third_of-within m p r c b);
      hl = more p.hl2 b.hl2;
      lh = more p.lh2 b.lh2;
      hh = more p.hh2 b.hh2;
    }

pub first_of-within : (m : ℕ) (p : Pyramid) (r c : ℕ) → 9 ≤ m → 2 ≤ r → 2 ≤ c → PyramidWithin m m m r c p →
    QuartersWithin (81 * m) (4 * r) (4 * c) (first_of p r c)
unfolding first_of
first_of-within m p r c nine hr hc b =
    let more = λ (x : ℕ → ℕ → ℤ) (h : EachWithin m (4 * r) (4 * c) x). EachWithin-more m (81 * m) _ (4 * r) _ (4 * c) x (omega arith) (omega arith)
    (omega arith) h in
    let low = joined-within (9 * m) (2 * r) (2 * c) (second_of p r c) (omega arith) (omega arith) (omega arith) (second_of-within m p r c nine hr hc b) in
    record {
      ll = EachWithin-more _ (81 * m) _ (4 * r) _ (4 * c) _ (omega arith) (omega arith) (omega arith) low;
      hl = more p.hl1 b.hl1;
      lh = more p.lh1 b.lh1;
      hh = more p.hh1 b.hh1;
    }

pub rebuilt-within : (m : ℕ) (p : Pyramid) (r c : ℕ) → 9 ≤ m → 2 ≤ r → 2 ≤ c → PyramidWithin m m m r c p →
    EachWithin (3 ^ 6 * m) (8 * r) (8 * c) (rebuilt p r c)
unfolding rebuilt
rebuilt-within m p r c nine hr hc b =
    let image = joined-within (81 * m) (4 * r) (4 * c) (first_of p r c) (omega arith) (omega arith) (omega arith) (first_of-within m p r c nine hr hc b) in
    EachWithin-more _ (3 ^ 6 * m) _ (8 * r) _ (8 * c) _ (omega arith) (omega arith) (omega arith) image

-- ---- only the samples within matter

pub SameWithin-part : (r s v w : ℕ) (x y : ℕ → ℕ → ℤ) → s ≤ r → w ≤ v → SameWithin r v x y → SameWithin s w x y
SameWithin-part r s v w x y hr hv same = record { at = λ i j hi hj. same.at i j (omega arith) (omega arith) }

pub pyramid-same : (r c : ℕ) (x y : ℕ → ℕ → ℤ) → 2 ≤ r → 2 ≤ c → SameWithin (8 * r) (8 * c) x y → SamePyramid r c (pyramid x r c) (pyramid y r c)
unfolding pyramid pyramid_of
pyramid-same r c x y hr hc s =
    let one = level-same (4 * r) (4 * c) x y (omega arith) (omega arith) (SameWithin-part _ _ _ _ x y (omega arith) (omega arith) s) in
    let two = level-same (2 * r) (2 * c) _ _ (omega arith) (omega arith) (SameWithin-part _ _ _ _ _ _ (omega arith) (omega arith) one.ll) in
    let three = level-same r c _ _ hr hc two.ll in
    record {
      hh1 = one.hh;
      hl1 = one.hl;
      lh1 = one.lh;
      hh2 = two.hh;
      hl2 = two.hl;
      lh2 = two.lh;
      hh3 = three.hh;
      hl3 = three.hl;
      lh3 = three.lh;
      ll3 = three.ll;
    }

pub rebuilt-same : (r c : ℕ) (p q : Pyramid) → 2 ≤ r → 2 ≤ c → SamePyramid r c p q → SameWithin (8 * r) (8 * c) (rebuilt p r c) (rebuilt q r c)
unfolding rebuilt first_of second_of third_of
rebuilt-same r c p q hr hc s =
    let third = joined-same r c _ _ hr hc (record { ll = s.ll3; hl = s.hl3; lh = s.lh3; hh = s.hh3 }) in
    let second = joined-same (2 * r) (2 * c) _ _ (omega arith) (omega arith) (record { ll = third; hl = s.hl2; lh = s.lh2; hh = s.hh2 }) in
    let low = SameWithin-part _ (4 * r) _ (4 * c) _ _ (omega arith) (omega arith) second in
    let first = joined-same (4 * r) (4 * c) _ _ (omega arith) (omega arith) (record { ll = low; hl = s.hl1; lh = s.lh1; hh = s.hh1 }) in
    SameWithin-part _ (8 * r) _ (8 * c) _ _ (omega arith) (omega arith) first

-- a copy of bounded bands
pub PyramidWithin-same : (x y z r c : ℕ) (p q : Pyramid) → SamePyramid r c p q → PyramidWithin x y z r c q → PyramidWithin x y z r c p
PyramidWithin-same x y z r c p q s w = record {
  hh1 = EachWithin-same _ _ _ _ _ s.hh1 w.hh1;
  hl1 = EachWithin-same _ _ _ _ _ s.hl1 w.hl1;
  lh1 = EachWithin-same _ _ _ _ _ s.lh1 w.lh1;
  hh2 = EachWithin-same _ _ _ _ _ s.hh2 w.hh2;
  hl2 = EachWithin-same _ _ _ _ _ s.hl2 w.hl2;
  lh2 = EachWithin-same _ _ _ _ _ s.lh2 w.lh2;
  hh3 = EachWithin-same _ _ _ _ _ s.hh3 w.hh3;
  hl3 = EachWithin-same _ _ _ _ _ s.hl3 w.hl3;
  lh3 = EachWithin-same _ _ _ _ _ s.lh3 w.lh3;
  ll3 = EachWithin-same _ _ _ _ _ s.ll3 w.ll3;
}

pub SamePyramid-trans : (r c : ℕ) (p q s : Pyramid) → SamePyramid r c p q → SamePyramid r c q s → SamePyramid r c p s
SamePyramid-trans r c p q s a b = record {
  hh1 = SameWithin-trans _ _ _ _ _ a.hh1 b.hh1;
  hl1 = SameWithin-trans _ _ _ _ _ a.hl1 b.hl1;
  lh1 = SameWithin-trans _ _ _ _ _ a.lh1 b.lh1;
  hh2 = SameWithin-trans _ _ _ _ _ a.hh2 b.hh2;
  hl2 = SameWithin-trans _ _ _ _ _ a.hl2 b.hl2;
  lh2 = SameWithin-trans _ _ _ _ _ a.lh2 b.lh2;
  hh3 = SameWithin-trans _ _ _ _ _ a.hh3 b.hh3;
  hl3 = SameWithin-trans _ _ _ _ _ a.hl3 b.hl3;
  lh3 = SameWithin-trans _ _ _ _ _ a.lh3 b.lh3;
  ll3 = SameWithin-trans _ _ _ _ _ a.ll3 b.ll3;
}
