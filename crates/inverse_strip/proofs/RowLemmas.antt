-- An even and an odd row that a kernel computed from rows of the rings.
use Rattle.std.proofs.Common.{◌≡◌, ℕ, ◌+◌, ◌-◌, ◌<◌, ◌≤◌, ℤ, List, [], length, get_or, refl, arith}
use Rattle.wave_defs.specs.Line.{even_before, even_within}
use Rattle.wave_defs.specs.Lifted.{plus_predicted, plus_correction, columns_even, columns_odd}
use Rattle.wave_defs.specs.Held.{Agrees, signal}
use Rattle.wave_defs.specs.Rings.{AreNewest}
use Rattle.wave_defs.proofs.LiftLaws.{Agrees-columns_even, Agrees-columns_odd}
use Rattle.wave_defs.proofs.RingLaws.{newest_at}
use Rattle.inverse_strip.specs.Kept.{AreRings, HoldPairs}

-- even row j, if the ring has the high row before it
pub Agrees-even_row : (c d : ℕ → ℕ → ℤ) (w m j : ℕ) (highs : List (List ℤ)) (y l h : ℕ → ℤ) → m ≡ w → length highs ≡ 3 → 1 ≤ j →
    Agrees m y (plus_correction l (signal (get_or highs 2 [])) h) → AreNewest d w j highs → Agrees w l (c j) → Agrees w h (d j) →
    Agrees w y (columns_even c d j)
Agrees-even_row c d w m j highs y l h em three one lifted newest low high =
    Agrees-columns_even c d w m j (j - 1) y l _ h em refl lifted low (newest_at d w j 2 (j - 1) highs newest (omega arith) (omega arith)) high

-- odd row k from its high row o and the even rows b, k, f and g
pub Agrees-odd_row : (c d : ℕ → ℕ → ℤ) (w m n k b f g : ℕ) (evens highs : List (List ℤ)) (y : ℕ → ℤ) (o e0 e1 e2 e3 : List ℤ) → m ≡ w →
    AreRings w evens highs → 3 ≤ n → k < n → n ≤ k + 3 → b ≡ even_before k → f ≡ even_within n (k + 1) → g ≡ even_within n (k + 2)
    → o ≡ get_or highs (k + 3 - n) [] → e0 ≡ get_or evens (b + 4 - n) [] → e1 ≡ get_or evens (k + 4 - n) [] → e2 ≡ get_or evens (f + 4 - n) [] →
    e3 ≡ get_or evens (g + 4 - n) []
    → Agrees m y (plus_predicted (signal o) (signal e0) (signal e1) (signal e2) (signal e3))
    → HoldPairs c d w n evens highs → Agrees w y (columns_odd (columns_even c d) d n k)
Agrees-odd_row c d w m n k b f g evens highs y o e0 e1 e2 e3 em s long hk kept eb ef eg is is0 is1 is2 is3 lifted hold =
    let four = s.evens.count_is in
    let three = s.highs.count_is in
    Agrees-columns_odd (columns_even c d) d w m n k b f g y _ _ _ _ _ em eb ef eg lifted
    (rw is (newest_at d w n (k + 3 - n) k highs hold.highs (omega arith) (omega arith)))
    (rw is0 (newest_at (columns_even c d) w n (b + 4 - n) b evens hold.evens (omega arith) (omega arith)))
    (rw is1 (newest_at (columns_even c d) w n (k + 4 - n) k evens hold.evens (omega arith) (omega arith)))
    (rw is2 (newest_at (columns_even c d) w n (f + 4 - n) f evens hold.evens (omega arith) (omega arith)))
    (rw is3 (newest_at (columns_even c d) w n (g + 4 - n) g evens hold.evens (omega arith) (omega arith)))
