-- From the lanes of sixteen numbers to a mask.
use Rattle.std.proofs.Common.{◌≡◌, ℕ, ◌+◌, ◌/◌, ◌%◌, ◌<◌, ◌≤◌, ◌^◌, ℤ, pos, Bool, false, cond, List, length, take, drop, map, get_or, replicate, FitsSigned}
use Rattle.std.proofs.Common.{ap, sym, ◌∙◌, subst, arith, w32, ◌==◌}
use Rattle.std.specs.Simd.Lanes.{mask_l, top, zip2}
use Rattle.std.proofs.lemmas.List.{get_or-map, get_or-take, get_or-drop, length-map, length-take, length-drop}
use Rattle.std.proofs.lemmas.Simd.{bit_mask_l, mask_l-lt, mask_l-mod, zip2_splat, map-map}
use Rattle.std.proofs.lemmas.Int.{to_z-of_z}
use Rattle.std.proofs.lemmas.Bool.Decides.{nat_tests}
use lib.Signed.{lt_z}
use mir.Val.{of_z, to_z}
use Rattle.plane_defs.specs.Entries.{negative}
use Rattle.item_defs.specs.Bits.{bit}
use Rattle.block_masks.specs.Masks.{Shows}

pub digit_is : (b : Bool) (n : ℕ) → n ≡ cond b 1 0 → (n == 1) ≡ b
digit_is b n e = grind (arith, nat_tests)

-- the lanes that are read from the start on
abbrev pub lanes : List ℤ → ℕ → List ℕ
lanes cells start = map (of_z w32) (take 16 (drop start cells))

pub length-lanes : (cells : List ℤ) (start : ℕ) → start + 16 ≤ length cells → length (lanes cells start) ≡ 16
length-lanes cells start within =
    omega (arith, length-map (take 16 (drop start cells)) (of_z w32), length-take 16 (drop start cells), length-drop start cells)

pub lane : (cells : List ℤ) (start k : ℕ) → start + 16 ≤ length cells → k < 16 → get_or (lanes cells start) k 0 ≡ of_z w32 (get_or cells (start + k) (pos 0))
lane cells start k within below =
    let long : k < length (take 16 (drop start cells)) = omega (arith, length-take 16 (drop start cells), length-drop start cells) in
    get_or-map (of_z w32) (take 16 (drop start cells)) k (pos 0) 0 long ∙
    ap (of_z w32) (get_or-take 16 (drop start cells) k (pos 0) below ∙ get_or-drop start cells k (pos 0))

-- a mask that is made lane by lane
pub shown : (q : ℕ → Bool) (f : ℕ → Bool) (cells : List ℤ) (start : ℕ) → start + 16 ≤ length cells →
    ((k : ℕ) → k < 16 → q (of_z w32 (get_or cells (start + k) (pos 0))) ≡ f (start + k)) →
    Shows (mask_l (map q (lanes cells start)) % 2 ^ 64) f start 16
shown q f cells start within each =
    let ms = map q (lanes cells start) in
    let long : length ms ≡ 16 = length-map (lanes cells start) q ∙ length-lanes cells start within in
    let whole : mask_l ms % 2 ^ 64 ≡ mask_l ms = mask_l-mod ms 64 (omega (arith, long)) in
    let low : mask_l ms < 2 ^ 16 = subst (λ n. mask_l ms < 2 ^ n) long (mask_l-lt ms) in
    record {
      at = λ k below.
          let there : get_or ms k false ≡ f (start + k) =
          get_or-map q (lanes cells start) k 0 false (omega (arith, length-lanes cells start within)) ∙ ap q (lane cells start k within below) ∙ each k below in
          ap (λ m. bit m k) whole ∙ digit_is (get_or ms k false) (mask_l ms / 2 ^ k % 2) (bit_mask_l ms k) ∙ there;
      small = omega (arith, whole, low);
    }

-- a comparison with one number
pub compared : (op : ℕ → ℕ → ℕ) (y : ℕ) (f : ℕ → Bool) (cells : List ℤ) (start : ℕ) → start + 16 ≤ length cells →
    ((k : ℕ) → k < 16 → top 31 (op (of_z w32 (get_or cells (start + k) (pos 0))) y) ≡ f (start + k)) →
    Shows (mask_l (map (top 31) (zip2 op (lanes cells start) (replicate 16 y))) % 2 ^ 64) f start 16
compared op y f cells start within each =
    let long = length-lanes cells start within in
    let step : map (top 31) (zip2 op (lanes cells start) (replicate 16 y)) ≡ map (λ x. top 31 (op x y)) (lanes cells start) =
    ap (map (top 31)) (zip2_splat op (lanes cells start) 16 y long) ∙ map-map (top 31) (λ x. op x y) (lanes cells start) in
    subst (λ ms. Shows (mask_l ms % 2 ^ 64) f start 16) (sym step) (shown (λ x. top 31 (op x y)) f cells start within each)

-- ---- one lane

pub below_zero : (z : ℤ) → lt_z z (pos 0) ≡ negative z
below_zero z = grind (arith, nat_tests)

pub top_of : (b : Bool) → top 31 (cond b 4294967295 0) ≡ b
top_of b = grind (arith, nat_tests)

pub negative_lane : (z : ℤ) → FitsSigned w32 z → top 31 (cond (lt_z (to_z w32 (of_z w32 z)) (pos 0)) 4294967295 0) ≡ negative z
negative_lane z fits = rw (to_z-of_z w32 z fits) (top_of (lt_z z (pos 0)) ∙ below_zero z)

-- ---- a mask in another form

pub shows_same : {mask start count : ℕ} {f g : ℕ → Bool} → ((p : ℕ) → f p ≡ g p) → Shows mask f start count → Shows mask g start count
shows_same {start = start} same shows = record { at = λ k below. shows.at k below ∙ same (start + k); small = shows.small }
