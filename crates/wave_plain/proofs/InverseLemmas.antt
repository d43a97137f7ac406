-- From ten planes and their levels, as the code joins them, to the image that has the bands.
use Rattle.std.proofs.Common.{◌≡◌, ℕ, ◌*◌, ◌^◌, ◌≤◌, ℤ, Some, sym, ◌∙◌, ap, subst, slice_get, arith}
use Rattle.std.proofs.lemmas.List.{get_or-map}
use Rattle.std.proofs.lemmas.Option.{get_or_from_slice_get, slice_get_within}
use Rattle.std.proofs.lemmas.Bool.Decides.{nat_tests}
use Rattle.wave_plain.specs.declared.Plane.{Plane}
use Rattle.wave_plain.specs.declared.Bands.{Bands}
use Rattle.wave_defs.specs.Level.{Quarters, joined}
use Rattle.wave_defs.specs.Pyramid.{Pyramid, rebuilt, first_of, second_of, third_of}
use Rattle.wave_defs.specs.Within.{EachWithin, QuartersWithin}
use Rattle.wave_defs.specs.Held.{SameWithin}
use Rattle.wave_defs.proofs.LevelSame.{SameWithin-trans, joined-same}
use Rattle.wave_defs.proofs.LevelWithin.{EachWithin-more, EachWithin-same}
use Rattle.wave_plain.specs.Images.{image_of, band_in, quarters_in, zeros, HasSize, Shows}
use Rattle.wave_defs.proofs.Equations.{third_of-is, second_of-is, first_of-is, rebuilt-is}

pub image_at : (b : Bands) (k : ℕ) (p : Plane) → slice_get b.planes.items k ≡ Some p → image_of p ≡ band_in b k
image_at b k p e =
    let xs = b.planes.items in
    let within = slice_get_within xs k p e in
    sym (get_or-map image_of xs k p zeros within ∙ ap image_of (get_or_from_slice_get xs k p p e))

same_image : (n m : ℕ) (x y : ℕ → ℕ → ℤ) → x ≡ y → SameWithin n m x y
same_image n m x y e = record { at = λ i j hi hj. ap (λ (f : ℕ → ℕ → ℤ). f i j) e }

pub shown_plane : (r w s v : ℕ) (x : ℕ → ℕ → ℤ) (p : Plane) → r ≡ s → w ≡ v → HasSize r w p → image_of p ≡ x → Shows s v x p
shown_plane r w s v x p er ew size e =
    record { size = rw (← er, ← ew) size; cells = same_image s v _ _ e }

pub resized : (r w s v : ℕ) (x : ℕ → ℕ → ℤ) (p : Plane) → r ≡ s → w ≡ v → Shows r w x p → Shows s v x p
resized r w s v x p er ew shown = rw (← er, ← ew) shown

-- four planes that show the bands of a level
pub record Four (n m : ℕ) (q : Quarters) (ll hl lh hh : Plane) : Type 0 where
  pub low : Shows n m q.ll ll
  pub across : Shows n m q.hl hl
  pub down : Shows n m q.lh lh
  pub both : Shows n m q.hh hh

pub four_sized : (n m rows width : ℕ) (q : Quarters) (ll hl lh hh : Plane) → rows ≡ 2 * n → width ≡ 2 * m → Four n m q ll hl lh hh →
    (rows ≡ 2 * ll.rows) × (width ≡ 2 * ll.width)
four_sized n m rows width q ll hl lh hh hn hm f = grind (arith, nat_tests)

pub four_within : (b n m : ℕ) (q : Quarters) (ll hl lh hh : Plane) → b ≤ 2 ^ 34 → Four n m q ll hl lh hh → QuartersWithin b n m q →
    QuartersWithin (2 ^ 34) ll.rows ll.width (quarters_in ll hl lh hh)
four_within b n m q ll hl lh hh le f within =
    let er = f.low.size.rows_are in
    let ew = f.low.size.columns_are in
    let bounded = λ (x : ℕ → ℕ → ℤ) (p : Plane) (s : Shows n m x p) (h : EachWithin b n m x).
    EachWithin-more b (2 ^ 34) n ll.rows m ll.width (image_of p) le (omega arith) (omega arith) (EachWithin-same b n m (image_of p) x s.cells h) in
    record {
      ll = bounded q.ll ll f.low within.ll;
      hl = bounded q.hl hl f.across within.hl;
      lh = bounded q.lh lh f.down within.lh;
      hh =
          bounded q.hh hh f.both within.hh;
    }

-- the joined image of four planes
pub four_joined : (n m : ℕ) (q : Quarters) (ll hl lh hh p : Plane) → 2 ≤ n → 2 ≤ m → Four n m q ll hl lh hh →
    Shows (2 * ll.rows) (2 * ll.width) (joined (quarters_in ll hl lh hh) ll.rows ll.width) p → Shows (2 * n) (2 * m) (joined q n m) p
four_joined n m q ll hl lh hh p hn hm f made =
    let c = subst (λ (k : ℕ). Shows (2 * k) (2 * ll.width) (joined (quarters_in ll hl lh hh) k ll.width) p) f.low.size.rows_are made in
    let d = subst (λ (k : ℕ). Shows (2 * n) (2 * k) (joined (quarters_in ll hl lh hh) n k) p) f.low.size.columns_are c in
    let same = joined-same n m (quarters_in ll hl lh hh) q hn hm (record { ll = f.low.cells; hl = f.across.cells; lh = f.down.cells; hh = f.both.cells }) in
    record { size = d.size; cells = SameWithin-trans _ _ _ _ _ d.cells same }

-- ---- the three levels of bands, P their pyramid

pub third_shown : (r c : ℕ) (P : Pyramid) (ll hl lh hh : Plane) → Shows r c P.ll3 ll → Shows r c P.hl3 hl → Shows r c P.lh3 lh → Shows r c P.hh3 hh →
    Four r c (third_of P) ll hl lh hh
third_shown r c P ll hl lh hh a b d e = rw third_of-is (record { low = a; across = b; down = d; both = e })

pub second_shown : (r c : ℕ) (P : Pyramid) (x y z t ll hl lh hh : Plane) → 2 ≤ r → 2 ≤ c → Four r c (third_of P) x y z t →
    Shows (2 * x.rows) (2 * x.width) (joined (quarters_in x y z t) x.rows x.width) ll → Shows (2 * r) (2 * c) P.hl2 hl → Shows (2 * r) (2 * c) P.lh2 lh →
    Shows (2 * r) (2 * c) P.hh2 hh → Four (2 * r) (2 * c) (second_of P r c) ll hl lh hh
second_shown r c P x y z t ll hl lh hh hr hc f made b d e = rw second_of-is (record {
  low = four_joined r c (third_of P) x y z t ll hr hc f made;
  across = b;
  down = d;
  both = e;
})

pub first_shown : (r c : ℕ) (P : Pyramid) (x y z t ll hl lh hh : Plane) → 2 ≤ r → 2 ≤ c → Four (2 * r) (2 * c) (second_of P r c) x y z t →
    Shows (2 * x.rows) (2 * x.width) (joined (quarters_in x y z t) x.rows x.width) ll → Shows (4 * r) (4 * c) P.hl1 hl → Shows (4 * r) (4 * c) P.lh1 lh →
    Shows (4 * r) (4 * c) P.hh1 hh → Four (4 * r) (4 * c) (first_of P r c) ll hl lh hh
first_shown r c P x y z t ll hl lh hh hr hc f made b d e = rw first_of-is (record {
  low = resized _ _ (4 * r) (4 * c) _ ll (omega arith) (omega arith) (four_joined (2 * r) (2 * c) (second_of P r c) x y z t ll (omega arith) (omega arith) f
      made);
  across = b;
  down = d;
  both = e;
})

pub rebuilt_shown : (r c rows width : ℕ) (P : Pyramid) (x y z t p : Plane) → rows ≡ 8 * r → width ≡ 8 * c → 2 ≤ r → 2 ≤ c →
    Four (4 * r) (4 * c) (first_of P r c) x y z t → Shows (2 * x.rows) (2 * x.width) (joined (quarters_in x y z t) x.rows x.width) p →
    Shows rows width (rebuilt P r c) p
rebuilt_shown r c rows width P x y z t p er ec hr hc f made =
    rw rebuilt-is (
    resized _ _ rows width _ p (omega arith) (omega arith) (four_joined (4 * r) (4 * c) (first_of P r c) x y z t p (omega arith) (omega arith) f made)
    )
