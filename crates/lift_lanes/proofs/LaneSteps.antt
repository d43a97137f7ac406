-- One lane of n through the operators: the bits that a proof has there, and the number that they represent.
use Rattle.std.proofs.Common.{◌≡◌, ℕ, ◌+◌, ◌-◌, ◌*◌, ◌^◌, ◌%◌, ◌<◌, ℤ, pos, ◌+ℤ◌, ◌-ℤ◌, ◌*ℤ◌, List, length, get_or, map, replicate, sym, ap, ◌∙◌, arith}
use Rattle.std.proofs.Common.{SFits, w32, w64, to_z, of_z}
use mir.Syntax.{Width}
use mir.Val.{bits}
use Rattle.std.proofs.lemmas.Int.{to_z-of_z, of_z-to_z, wrapping_add_is, wrapping_sub_is, wrapping_mul_is, int_wrap_fits}
use Rattle.std.proofs.lemmas.List.{get_or-map, length-map, get_or-replicate, length-replicate}
use Rattle.std.proofs.lemmas.Simd.{get_or-zip2, length-zip2}
use lib.Lanes.{zip2}
use lib.Signed.{shr_z}
use Rattle.wave_defs.specs.Held.{signal}
use Rattle.wave_defs.specs.Line.{floor_div}
use Rattle.wave_defs.proofs.Shifts.{SFits-floor_div}

-- lane k of these n bit patterns represents z
pub record Lane (w : Width) (n : ℕ) (lanes : List ℕ) (k : ℕ) (z : ℤ) : Type 0 where
  pub many : length lanes ≡ n
  pub at : get_or lanes k 0 ≡ of_z w z
  pub fits : SFits w z

module _ (w : Width) (n k : ℕ) (inside : k < n) where
  pub Lane-of : (xs : List ℤ) → length xs ≡ n → SFits w (signal xs k) → Lane w n (map (of_z w) xs) k (signal xs k)
  Lane-of xs l f = record {
    many = length-map xs (of_z w) ∙ l;
    at = get_or-map (of_z w) xs k (pos 0) 0 (omega arith);
    fits = f;
  }

  pub Lane-splat : (z : ℤ) → SFits w z → Lane w n (replicate n (of_z w z)) k z
  Lane-splat z f = record { many = length-replicate n (of_z w z); at = get_or-replicate n k (of_z w z) 0 inside; fits = f }

  -- an operator on the bits that gives z of x and y
  pub Lane-zip2 : (f : ℕ → ℕ → ℕ) (xs ys : List ℕ) (x y z : ℤ) → Lane w n xs k x → Lane w n ys k y → SFits w z → f (of_z w x) (of_z w y) ≡ of_z w z →
      Lane w n (zip2 f xs ys) k z
  Lane-zip2 f xs ys x y z a b fits e =
      let la = a.many in
      let lb = b.many in
      let both : length xs ≡ length ys = omega arith in
      let ea = a.at in
      let eb = b.at in
      let ez = get_or-zip2 f xs ys k 0 0 0 (omega arith) (omega arith) in
      record { many = length-zip2 f xs ys both ∙ la; at = cc; fits = fits }

  -- a shift by the number of bits that divides by m
  pub Lane-shr : (by m : ℕ) (xs ys : List ℕ) (x : ℤ) → of_z w (pos by) ≡ by → 2 ^ by ≡ m → Lane w n xs k x → Lane w n ys k (pos by) →
      Lane w n (zip2 (λ a b. of_z w (shr_z (to_z w a) (2 ^ b))) xs ys) k (floor_div x m)
  Lane-shr by m xs ys x eb em a b =
      Lane-zip2 (λ a b. of_z w (shr_z (to_z w a) (2 ^ b))) xs ys x (pos by) (floor_div x m) a b (SFits-floor_div w x m a.fits)
      (ap (λ (v : ℕ). of_z w (shr_z (to_z w (of_z w x)) (2 ^ v))) eb
      ∙ ap (λ (v : ℕ). of_z w (shr_z (to_z w (of_z w x)) v)) em
      ∙ ap (λ (v : ℤ). of_z w (shr_z v m)) (to_z-of_z w x a.fits))

  -- what the lane is as a number
  pub Lane-value : (lanes : List ℕ) (z : ℤ) → Lane w n lanes k z → signal (map (to_z w) lanes) k ≡ z
  Lane-value lanes z a =
      let l = a.many in
      get_or-map (to_z w) lanes k 0 (pos 0) (omega arith) ∙ ap (to_z w) a.at ∙ to_z-of_z w z a.fits

  pub Lane-long : (lanes : List ℕ) (z : ℤ) → Lane w n lanes k z → length (map (to_z w) lanes) ≡ n
  Lane-long lanes z a = length-map lanes (to_z w) ∙ a.many

-- bits below 2 ^ 32 that represent z
same_bits : (w : Width) (a : ℕ) (z : ℤ) → a < 2 ^ bits w → to_z w a ≡ z → a ≡ of_z w z
same_bits w a z h e = sym (of_z-to_z w a h) ∙ ap (of_z w) e

-- ---- the operators at 32 bits

module _ (n k : ℕ) (h : k < n) where
  pub add_32 : (xs ys : List ℕ) (x y : ℤ) → Lane w32 n xs k x → Lane w32 n ys k y → SFits w32 (x +ℤ y) →
      Lane w32 n (zip2 (λ a b. (a + b) % 2 ^ 32) xs ys) k (x +ℤ y)
  add_32 xs ys x y a b f =
      Lane-zip2 w32 n k h (λ a b. (a + b) % 2 ^ 32) xs ys x y (x +ℤ y) a b f
      (same_bits w32 _ _ (omega arith) (wrapping_add_is w32 x y a.fits b.fits ∙ int_wrap_fits w32 (x +ℤ y) f))

  pub sub_32 : (xs ys : List ℕ) (x y : ℤ) → Lane w32 n xs k x → Lane w32 n ys k y → SFits w32 (x -ℤ y) →
      Lane w32 n (zip2 (λ a b. (a + (2 ^ 32 - b)) % 2 ^ 32) xs ys) k (x -ℤ y)
  sub_32 xs ys x y a b f =
      Lane-zip2 w32 n k h (λ a b. (a + (2 ^ 32 - b)) % 2 ^ 32) xs ys x y (x -ℤ y) a b f
      (same_bits w32 _ _ (omega arith) (wrapping_sub_is w32 x y a.fits b.fits ∙ int_wrap_fits w32 (x -ℤ y) f))

  pub mul_32 : (xs ys : List ℕ) (x y : ℤ) → Lane w32 n xs k x → Lane w32 n ys k y → SFits w32 (x *ℤ y) →
      Lane w32 n (zip2 (λ a b. (a * b) % 2 ^ 32) xs ys) k (x *ℤ y)
  mul_32 xs ys x y a b f =
      Lane-zip2 w32 n k h (λ a b. (a * b) % 2 ^ 32) xs ys x y (x *ℤ y) a b f
      (same_bits w32 _ _ (omega arith) (wrapping_mul_is w32 x y a.fits b.fits ∙ int_wrap_fits w32 (x *ℤ y) f))

-- ---- the operators at 64 bits, in four lanes

module _ (k : ℕ) (h : k < 4) where
  pub add_64 : (xs ys : List ℕ) (x y : ℤ) → Lane w64 4 xs k x → Lane w64 4 ys k y → SFits w64 (x +ℤ y) →
      Lane w64 4 (zip2 (λ a b. (a + b) % 2 ^ 64) xs ys) k (x +ℤ y)
  add_64 xs ys x y a b f =
      Lane-zip2 w64 4 k h (λ a b. (a + b) % 2 ^ 64) xs ys x y (x +ℤ y) a b f
      (same_bits w64 _ _ (omega arith) (wrapping_add_is w64 x y a.fits b.fits ∙ int_wrap_fits w64 (x +ℤ y) f))

  pub sub_64 : (xs ys : List ℕ) (x y : ℤ) → Lane w64 4 xs k x → Lane w64 4 ys k y → SFits w64 (x -ℤ y) →
      Lane w64 4 (zip2 (λ a b. (a + (2 ^ 64 - b)) % 2 ^ 64) xs ys) k (x -ℤ y)
  sub_64 xs ys x y a b f =
      Lane-zip2 w64 4 k h (λ a b. (a + (2 ^ 64 - b)) % 2 ^ 64) xs ys x y (x -ℤ y) a b f
      (same_bits w64 _ _ (omega arith) (wrapping_sub_is w64 x y a.fits b.fits ∙ int_wrap_fits w64 (x -ℤ y) f))

  pub mul_64 : (xs ys : List ℕ) (x y : ℤ) → Lane w64 4 xs k x → Lane w64 4 ys k y → SFits w64 (x *ℤ y) →
      Lane w64 4 (zip2 (λ a b. (a * b) % 2 ^ 64) xs ys) k (x *ℤ y)
  mul_64 xs ys x y a b f =
      Lane-zip2 w64 4 k h (λ a b. (a * b) % 2 ^ 64) xs ys x y (x *ℤ y) a b f
      (same_bits w64 _ _ (omega arith) (wrapping_mul_is w64 x y a.fits b.fits ∙ int_wrap_fits w64 (x *ℤ y) f))
