-- The columns of an image by whole rows: y is the row that the code computed, from rows that agree with those of the image.
use Rattle.std.proofs.Common.{◌≡◌, ℕ, ◌+◌, ◌-◌, ◌*◌, ◌<◌, ◌≤◌, ℤ, ◌∙◌, arith}
use Rattle.wave_defs.specs.Line.{prediction, even_before, even_within, high_of, low_of, even_of, odd_of}
use Rattle.wave_defs.specs.Lifted.{less_predicted, less_correction, plus_predicted, plus_correction, columns_even, columns_odd}
use Rattle.wave_defs.specs.Level.{columns_low, columns_high, columns_merged}
use Rattle.wave_defs.specs.Held.{Agrees, SameWithin}
use Rattle.wave_defs.proofs.LineLaws.{Agrees-merged, prediction-same}

pub Agrees-trans : (n : ℕ) (x y z : ℕ → ℤ) → Agrees n x y → Agrees n y z → Agrees n x z
Agrees-trans n x y z a b = record { at = λ k h. a.at k h ∙ b.at k h }

pub Agrees-row_of : (k w i : ℕ) (f g : ℕ → ℕ → ℤ) → i < k → SameWithin k w f g → Agrees w (f i) (g i)
Agrees-row_of k w i f g h s = record { at = λ j l. s.at i j h l }

pub Agrees-columns_high : (a : ℕ → ℕ → ℤ) (w m n i p q s : ℕ) (y o e0 e1 e2 e3 : ℕ → ℤ) → m ≡ w → p ≡ even_before i → q ≡ even_within n (i + 1) →
    s ≡ even_within n (i + 2) → Agrees m y (less_predicted o e0 e1 e2 e3) → Agrees w o (a (2 * i + 1)) → Agrees w e0 (a (2 * p)) → Agrees w e1 (a (2 * i)) →
    Agrees w e2 (a (2 * q)) → Agrees w e3 (a (2 * s)) → Agrees w y (columns_high a n i)
unfolding less_predicted columns_high high_of prediction
Agrees-columns_high a w m n i p q s y o e0 e1 e2 e3 em ep eq es f ho h0 h1 h2 h3 = record {
  at = λ j h.
      let r = f.at j (omega arith) in
      let ro = ho.at j h in
      let r0 = h0.at j h in
      let r1 = h1.at j h in
      let r2 = h2.at j h in
      let r3 = h3.at j h in
      cc;
}

pub Agrees-columns_low : (a : ℕ → ℕ → ℤ) (w m n i p : ℕ) (y e b c : ℕ → ℤ) → m ≡ w → p ≡ i - 1 → Agrees m y (less_correction e b c) →
    Agrees w e (a (2 * i)) → Agrees w b (columns_high a n p) → Agrees w c (columns_high a n i) → Agrees w y (columns_low a n i)
unfolding less_correction columns_low columns_high low_of
Agrees-columns_low a w m n i p y e b c em ep f he hb hc = record {
  at = λ j h.
      let r = f.at j (omega arith) in
      let re = he.at j h in
      let rb = hb.at j h in
      let rc = hc.at j h in
      cc;
}

-- ---- the inverse: y is a row that the code computed, c and d are the low and high images

pub Agrees-columns_even : (c d : ℕ → ℕ → ℤ) (w m i p : ℕ) (y l b a : ℕ → ℤ) → m ≡ w → p ≡ i - 1 → Agrees m y (plus_correction l b a) → Agrees w l (c i) →
    Agrees w b (d p) → Agrees w a (d i) → Agrees w y (columns_even c d i)
unfolding plus_correction columns_even even_of
Agrees-columns_even c d w m i p y l b a em ep f hl hb ha = record {
  at = λ j h.
      let r = f.at j (omega arith) in
      let rl = hl.at j h in
      let rb = hb.at j h in
      let ra = ha.at j h in
      cc;
}

pub Agrees-columns_odd : (e d : ℕ → ℕ → ℤ) (w m n i p q s : ℕ) (y o e0 e1 e2 e3 : ℕ → ℤ) → m ≡ w → p ≡ even_before i → q ≡ even_within n (i + 1) →
    s ≡ even_within n (i + 2) → Agrees m y (plus_predicted o e0 e1 e2 e3) → Agrees w o (d i) → Agrees w e0 (e p) → Agrees w e1 (e i) → Agrees w e2 (e q) →
    Agrees w e3 (e s) → Agrees w y (columns_odd e d n i)
unfolding plus_predicted columns_odd prediction
Agrees-columns_odd e d w m n i p q s y o e0 e1 e2 e3 em ep eq es f ho h0 h1 h2 h3 = record {
  at = λ j h.
      let r = f.at j (omega arith) in
      let ro = ho.at j h in
      let r0 = h0.at j h in
      let r1 = h1.at j h in
      let r2 = h2.at j h in
      let r3 = h3.at j h in
      cc;
}

-- the even and the odd rows make the image
pub SameWithin-columns_merged : (a c d : ℕ → ℕ → ℤ) (n w : ℕ) → 2 ≤ n → SameWithin n w (λ k j. a (2 * k) j) (columns_even c d) →
    SameWithin n w (λ k j. a (2 * k + 1) j) (columns_odd (λ k j. a (2 * k) j) d n) → SameWithin (2 * n) w a (columns_merged c d n)
unfolding columns_even columns_odd columns_merged odd_of
SameWithin-columns_merged a c d n w two even odd = record {
  at = λ i j hi hj.
      let odds : Agrees n (λ k. a (2 * k + 1) j) (odd_of (λ r. c r j) (λ r. d r j) n) = record {
        at = λ k h.
            let o = odd.at k j h hj in
            let p = prediction-same n k (λ r. a (2 * r) j) (even_of (λ r. c r j) (λ r. d r j)) two h (record { at = λ r hr. even.at r j hr hj }) in
            cc;
      } in
      let all = Agrees-merged (λ r. a r j) (λ r. c r j) (λ r. d r j) n (record { at = λ k h. even.at k j h hj }) odds in
      all.at i hi;
}
