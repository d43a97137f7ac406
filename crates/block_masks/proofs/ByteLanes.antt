-- Eight bits of sixteen magnitudes.
use Rattle.std.proofs.Common.{◌≡◌, ℕ, ◌+◌, ◌-◌, ◌*◌, ◌/◌, ◌%◌, ◌<◌, ◌≤◌, ◌^◌, ℤ, pos, Bool, cond, List, [], ◌∷◌, length, map, get_or, replicate}
use Rattle.std.proofs.Common.{unsigned_abs, bit_and, FitsSigned, refl, ap, sym, ◌∙◌, subst, arith, w32, w8, Fits, ◌==◌, false, ext_get_or, shr-shr, set}
use Rattle.std.proofs.Common.{length-set, get_or-set_same, get_or-set_other, inl, inr}
use Rattle.std.specs.List.{range_with_len}
use Rattle.std.specs.Simd.Lanes.{mask_l, top, zip2, Each1, Each2}
use lib.Dec.{T, leb}
use lib.Signed.{shr_z, non_neg}
use mir.Val.{of_z, to_z}
use Rattle.std.proofs.lemmas.List.{get_or-map, length-map}
use Rattle.std.proofs.lemmas.List.FromFn.{get_or-map-range_with_len, length-map-range_with_len}
use Rattle.std.proofs.lemmas.Int.{to_z_pos}
use Rattle.std.proofs.lemmas.Nat.{and_mask, pow-add, shl-shr}
use Rattle.std.proofs.lemmas.Simd.{Each1-all, Each1-replicate, Each2-of, bit_mask_l, mask_l-lt, mask_l-mod, zip2_splat, zip2_splat_left, zip2_of_maps}
use Rattle.std.proofs.lemmas.Simd.{splat_is_map, map-map}
use Rattle.std.proofs.lemmas.Bool.Decides.{nat_tests}
use Rattle.std.proofs.lemmas.Bool.{cases_eq}
use Rattle.item_defs.specs.Bits.{bit}
use Rattle.plane_defs.specs.Sets.{magnitude}
use Rattle.block_masks.specs.Masks.{Shows}
use Rattle.block_masks.specs.ByteLists.{bytes_in}
use Rattle.block_masks.proofs.LaneMasks.{lanes, length-lanes, lane, digit_is}
use Rattle.block_masks.proofs.SizeLanes.{size, sizes, sizes_are, size_is}

-- the sum of a number with itself, lane by lane
pub twice : (op : ℕ → ℕ → ℕ) (xs : List ℕ) → zip2 op xs xs ≡ map (λ x. op x x) xs
twice op [] = refl
twice op (x ∷ xs) = ap (λ l. op x x ∷ l) (twice op xs)

each_map : {A B : Type 0} (P : B → Type 0) (g : A → B) → ((a : A) → P (g a)) → (xs : List A) → Each1 P (map g xs)
each_map P g all [] = tt
each_map P g all (x ∷ xs) = (all x, each_map P g all xs)

pub each_low : (P : ℕ → Type 0) (op : ℕ → ℕ → ℕ) (y : ℕ) → ((x : ℕ) → P (op x y)) → (xs : List ℕ) → length xs ≡ 16 → Each1 P (zip2 op xs (replicate 16 y))
each_low P op y all xs long = subst (Each1 P) (sym (zip2_splat op xs 16 y long)) (each_map P (λ x. op x y) all xs)

-- all lanes are shifted by a number of places that is below their width
pub each_shifted : (P : ℕ → ℕ → Type 0) (y : ℕ) → ((x : ℕ) → P x y) → (xs : List ℕ) (n : ℕ) → Each2 P xs (replicate n y)
each_shifted P y all xs n = Each2-of (λ x. Unit {0}) (λ b. b ≡ y) P (λ x b u e. subst (P x) (sym e) (all x)) xs (replicate n y)
    (Each1-all (λ x. Unit {0}) (λ x. tt) xs) (Each1-replicate (λ b. b ≡ y) n y refl)

-- ---- a lane

signed_low : (n : ℕ) → n < 2 ^ 28 → to_z w32 n ≡ pos n
signed_low n small = to_z_pos w32 n (omega (arith, small))

low_is : (x : ℕ) → to_z w32 (bit_and x 255) ≡ pos (x % 256)
low_is x = ap (to_z w32) (and_mask x 8) ∙ to_z_pos w32 (x % 256) (omega arith)

pub low_fits : (x : ℕ) → T (non_neg (to_z w32 (bit_and x 255))) × Fits w8 (unsigned_abs (to_z w32 (bit_and x 255)))
low_fits x = rw (low_is x) (tt, record { fits = omega arith })

pub low_byte : (n from : ℕ) → n < 2 ^ 28 → unsigned_abs (to_z w32 (bit_and (of_z w32 (shr_z (to_z w32 n) (2 ^ from))) 255)) ≡ n / 2 ^ from * 2 ^ 0 % 256
low_byte n from small =
    ap (λ z. unsigned_abs (to_z w32 (bit_and (of_z w32 (shr_z z (2 ^ from))) 255))) (signed_low n small) ∙ ap unsigned_abs (low_is (n / 2 ^ from)) ∙ omega arith

-- ---- sixteen lanes

by_place : (f h : ℕ → ℕ) (cells : List ℤ) (start : ℕ) → start + 16 ≤ length cells → ((k : ℕ) → k < 16 → f (of_z w32 (get_or cells (start + k) (pos 0))) ≡ h k) →
    map f (lanes cells start) ≡ map h (range_with_len 0 16)
by_place f h cells start within same =
    let long : length (map f (lanes cells start)) ≡ 16 = length-map (lanes cells start) f ∙ length-lanes cells start within in
    ext_get_or 0 (map f (lanes cells start)) (map h (range_with_len 0 16)) (long ∙ sym (length-map-range_with_len h 0 16)) (λ k lt.
    let below : k < 16 = omega (arith, lt, long) in
    get_or-map f (lanes cells start) k 0 0 (omega (arith, below, length-lanes cells start within)) ∙ ap f (lane cells start k within below) ∙ same k below ∙
    sym (get_or-map-range_with_len h 0 16 k k 0 below (omega arith)))

abbrev shift : ℕ → ℕ → ℕ
shift a b = of_z w32 (shr_z (to_z w32 a) (2 ^ b))

moved_are : (cells : List ℤ) (start by : ℕ) → start + 16 ≤ length cells → zip2 shift (sizes (lanes cells start)) (replicate 16 by)
    ≡ map (λ x. shift (size x) by) (lanes cells start)
moved_are cells start by within =
    let long = length-lanes cells start within in
    zip2_of_maps shift size (λ x. by) (lanes cells start) (sizes_are (lanes cells start) long) (splat_is_map (lanes cells start) 16 by long)

pub moved_long : (cells : List ℤ) (start by : ℕ) → start + 16 ≤ length cells → length (zip2 shift (sizes (lanes cells start)) (replicate 16 by)) ≡ 16
moved_long cells start by within = ap length (moved_are cells start by within) ∙ length-map (lanes cells start) (λ x. shift (size x) by)
    ∙ length-lanes cells start within

pub bytes_are : (cells : List ℤ) (start from by : ℕ) → start + 16 ≤ length cells → by ≡ from →
    ((k : ℕ) → k < 16 → FitsSigned w32 (get_or cells (start + k) (pos 0))) →
    ((k : ℕ) → magnitude cells k < 2 ^ 28) →
    map (λ x. unsigned_abs (to_z w32 x)) (zip2 bit_and (zip2 shift (sizes (lanes cells start)) (replicate 16 by)) (replicate 16 255)) ≡
    bytes_in cells start from 0
bytes_are cells start from by within same fit small =
    let xs = lanes cells start in
    let long = length-lanes cells start within in
    let low = zip2_of_maps bit_and (λ x. shift (size x) by) (λ x. 255) xs (moved_are cells start by within) (splat_is_map xs 16 255 long) in
    ap (map (λ x. unsigned_abs (to_z w32 x))) low ∙ map-map (λ x. unsigned_abs (to_z w32 x)) (λ x. bit_and (shift (size x) by) 255) xs ∙
    by_place (λ x. unsigned_abs (to_z w32 (bit_and (shift (size x) by) 255))) (λ k. magnitude cells (start + k) / 2 ^ from * 2 ^ 0 % 256) cells start within
    (λ k below.
    let z = get_or cells (start + k) (pos 0) in
    ap (λ m. unsigned_abs (to_z w32 (bit_and (shift m by) 255))) (size_is z (fit k below))
    ∙ ap (λ b. unsigned_abs (to_z w32 (bit_and (shift (unsigned_abs z) b) 255))) same ∙
    low_byte (unsigned_abs z) from (small (start + k)))

-- ---- the highest bits

abbrev at_most : ℕ → ℕ → ℕ
at_most a b = cond (leb a b) 255 0

above_half : (x : ℕ) → x < 256 → top 7 (at_most 128 x) ≡ bit x 7
above_half x small = grind (arith, nat_tests)

module _ (bytes : List ℕ) (long : length bytes ≡ 16) (small : (k : ℕ) → k < 16 → get_or bytes k 0 < 256) where
  abbrev tests : List Bool
  tests = map (top 7) (zip2 at_most (replicate 16 128) bytes)

  tests_are : tests ≡ map (λ x. top 7 (at_most 128 x)) bytes
  tests_are = ap (map (top 7)) (zip2_splat_left at_most 128 16 bytes long) ∙ map-map (top 7) (at_most 128) bytes

  tests_long : length tests ≡ 16
  tests_long = ap length tests_are ∙ length-map bytes (λ x. top 7 (at_most 128 x)) ∙ long

  whole : mask_l tests % 2 ^ 64 ≡ mask_l tests
  whole = mask_l-mod tests 64 (omega (arith, tests_long))

  pub highest_bits : (k : ℕ) → k < 16 → bit (mask_l tests % 2 ^ 64) k ≡ bit (get_or bytes k 0) 7
  highest_bits k below =
      let there : get_or tests k false ≡ bit (get_or bytes k 0) 7 =
      ap (λ l. get_or l k false) tests_are ∙ get_or-map (λ x. top 7 (at_most 128 x)) bytes k 0 false (omega (arith, long, below))
      ∙ above_half (get_or bytes k 0) (small k below) in
      ap (λ m. bit m k) whole ∙ digit_is (get_or tests k false) (mask_l tests / 2 ^ k % 2) (bit_mask_l tests k) ∙ there

  pub highest_small : mask_l tests % 2 ^ 64 < 2 ^ 16
  highest_small = let low : mask_l tests < 2 ^ 16 = subst (λ n. mask_l tests < 2 ^ n) tests_long (mask_l-lt tests) in omega (arith, whole, low)

-- ---- eight planes

byte_at : (block : List ℤ) (start from doublings k : ℕ) → k < 16 → get_or (bytes_in block start from doublings) k 0 ≡ magnitude block (start + k) / 2 ^ from
    * 2 ^ doublings % 256
byte_at block start from doublings k below = get_or-map-range_with_len (λ j. magnitude block (start + j) / 2 ^ from * 2 ^ doublings % 256) 0 16 k k 0 below
    (omega arith)

bytes_few : (block : List ℤ) (start from doublings k : ℕ) → k < 16 → get_or (bytes_in block start from doublings) k 0 < 256
bytes_few block start from doublings k below = omega (arith, byte_at block start from doublings k below)

pub few_in : (block : List ℤ) (start from doublings : ℕ) (bytes : List ℕ) → bytes ≡ bytes_in block start from doublings → (k : ℕ) → k < 16 →
    get_or bytes k 0 < 256
few_in block start from doublings bytes is k below = subst (λ l. get_or l k 0 < 256) (sym is) (bytes_few block start from doublings k below)

next_byte : (q doublings : ℕ) → (q * 2 ^ doublings % 256 + q * 2 ^ doublings % 256) % 256 ≡ q * 2 ^ (doublings + 1) % 256
next_byte q doublings =
    let more : q * 2 ^ (doublings + 1) ≡ q * 2 ^ doublings + q * 2 ^ doublings = ap (λ n. q * n) (pow-add 2 doublings 1) ∙ grind arith in
    omega (arith, more)

pub bytes_next : (block : List ℤ) (start from doublings : ℕ) (bytes : List ℕ) → bytes ≡ bytes_in block start from doublings →
    map (λ x. (x + x) % 256) bytes ≡ bytes_in block start from (doublings + 1)
bytes_next block start from doublings bytes is =
    ap (map (λ x. (x + x) % 256)) is ∙ map-map (λ x. (x + x) % 256) (λ k. magnitude block (start + k) / 2 ^ from * 2 ^ doublings % 256) (range_with_len 0 16) ∙
    same_maps (λ k. next_byte (magnitude block (start + k) / 2 ^ from) doublings) (range_with_len 0 16)
  where
    same_maps : {f g : ℕ → ℕ} → ((k : ℕ) → f k ≡ g k) → (ks : List ℕ) → map f ks ≡ map g ks
    same_maps same [] = refl
    same_maps {f} {g} same (k ∷ ks) = ap (λ x. x ∷ map f ks) (same k) ∙ ap (λ l. g k ∷ l) (same_maps same ks)

-- the highest bit after some doublings
doubled_bit : (q doublings : ℕ) → doublings < 8 → bit (q * 2 ^ doublings % 256) 7 ≡ bit q (7 - doublings)
doubled_bit q doublings few =
    let whole : doublings + (7 - doublings) ≡ 7 = omega (arith, few) in
    let back : q * 2 ^ doublings / 2 ^ 7 ≡ q / 2 ^ (7 - doublings) =
    ap (λ n. q * 2 ^ doublings / 2 ^ n) (sym whole) ∙ sym (shr-shr (q * 2 ^ doublings) doublings (7 - doublings)) ∙ ap (λ n. n / 2 ^ (7 - doublings))
    (shl-shr q doublings) in
    ap (λ n. n == 1) (omega (arith, back))

pub shows_highest : (block : List ℤ) (start from doublings mask : ℕ) (bytes : List ℕ) → doublings < 8 → bytes ≡ bytes_in block start from doublings →
    ((k : ℕ) → k < 16 → bit mask k ≡ bit (get_or bytes k 0) 7) → mask < 2 ^ 16 → Shows mask (λ p. bit (magnitude block p) (from + (7 - doublings))) start 16
shows_highest block start from doublings mask bytes few is if_known small = record {
  at = λ k below.
      let m = magnitude block (start + k) in
      if_known k below ∙ ap (λ l. bit (get_or l k 0) 7) is ∙ ap (λ n. bit n 7) (byte_at block start from doublings k below)
      ∙ doubled_bit (m / 2 ^ from) doublings few ∙
      ap (λ n. n % 2 == 1) (shr-shr m from (7 - doublings));
  small = small;
}

-- the masks of the planes from one on, after some doublings
pub record HasHighest (block : List ℤ) (from doublings : ℕ) (masks : List ℕ) : Type 0 where
  pub long : length masks ≡ 8
  pub at : (i : ℕ) → i < 8 → 8 ≤ i + doublings → Shows (get_or masks i 0) (λ p. bit (magnitude block p) (from + i)) 0 64

pub none_highest : (block : List ℤ) (from : ℕ) (masks : List ℕ) → length masks ≡ 8 → HasHighest block from 0 masks
none_highest block from masks long = record { long = long; at = λ i lt le. absurd (omega (arith, lt, le)) }

pub more_highest : {block : List ℤ} {from doublings place mask : ℕ} {masks : List ℕ} → doublings < 8 → place ≡ 7 - doublings →
    HasHighest block from doublings masks →
    Shows mask (λ p. bit (magnitude block p) (from + (7 - doublings))) 0 64 → HasHighest block from (doublings + 1) (set masks place mask)
more_highest {block} {from} {doublings} {place} {mask} {masks} few here so shows = record {
  long = length-set masks place mask ∙ so.long;
  at = λ i lt le. elim (cases_eq i place) [
    | inl same ↦
        let there : get_or (set masks place mask) i 0 ≡ mask = ap (λ j. get_or (set masks place mask) j 0) same ∙ get_or-set_same masks place mask 0
        (omega (arith, so.long, here)) in
        let plane : 7 - doublings ≡ i = sym (same ∙ here) in
        subst (λ m. Shows m (λ p. bit (magnitude block p) (from + i)) 0 64) (sym there)
        (subst (λ j. Shows mask (λ p. bit (magnitude block p) (from + j)) 0 64) plane shows)
    | inr other ↦
        subst (λ m. Shows m (λ p. bit (magnitude block p) (from + i)) 0 64) (sym (get_or-set_other masks place i mask 0 other))
        (so.at i lt (omega (arith, le, other, here, lt, few)))
  ];
}
