-- The parts of a block's state.
use Rattle.std.proofs.Common.{◌≡◌, ℕ, ◌+◌, ◌*◌, ◌/◌, ◌%◌, ◌<◌, ℤ, pos, Bool, List, [], ◌∷◌, length, refl, arith, get_or, ◌^◌, to_z, w32, ◌==◌}
use Rattle.std.proofs.lemmas.Int.{to_z_pos}
use Rattle.std.proofs.lemmas.Bool.Decides.{nat_tests}
use Rattle.item_defs.specs.Bits.{digit}
use Rattle.item_defs.proofs.NumberBits.{digit_small}
use Rattle.plane_defs.specs.Marks.{depth_of}
use Rattle.block_masks.specs.Gaggles.{low_bits, options_in, sent_in, families_in}

pub three_of : {A : Type 0} (xs : List A) (d : A) → length xs ≡ 3 → get_or xs 0 d ∷ get_or xs 1 d ∷ get_or xs 2 d ∷ [] ≡ xs
three_of [] d h = absurd (omega arith)
three_of (a ∷ []) d h = absurd (omega arith)
three_of (a ∷ b ∷ []) d h = absurd (omega arith)
three_of (a ∷ b ∷ c ∷ []) d h = refl
three_of (a ∷ b ∷ c ∷ e ∷ rest) d h = absurd (omega arith)

bit_back : (n : ℕ) (b : Bool) → n ≡ digit b → (n == 1) ≡ b
bit_back n b h = grind (arith, nat_tests)

-- the number with these parts
record Packed (n d a b c s t u : ℕ) : Type 0 where
  depth_at : n % 32 ≡ d
  whole : n % 8192 ≡ n
  two : n / 32 % 2 ≡ a
  three : n / 64 % 4 ≡ b
  four : n / 256 % 4 ≡ c
  sent_two : n / 1024 % 2 ≡ s
  sent_three : n / 2048 % 2 ≡ t
  sent_four : n / 4096 % 2 ≡ u

packed : (n d a b c s t u : ℕ) → d < 32 → a < 2 → b < 3 → c < 4 → s < 2 → t < 2 → u < 2 →
    n ≡ d + (32 * a + 64 * b + 256 * c) + (1024 * s + 2048 * t + 4096 * u) → Packed n d a b c s t u
packed n d a b c s t u hd ha hb hc hs ht hu e = record {
  depth_at = omega arith;
  whole = omega arith;
  two = omega arith;
  three = omega arith;
  four = omega arith;
  sent_two = omega arith;
  sent_three = omega arith;
  sent_four = omega arith;
}

-- what a state says
pub record Parts (mark : ℤ) (d : ℕ) (chosen : List ℕ) (flags : List Bool) (f : ℕ) : Type 0 where
  pub depth : depth_of mark ≡ d
  pub options : options_in mark ≡ chosen
  pub sent : sent_in mark ≡ flags
  pub families : families_in mark ≡ f

mark_parts : (n d a b c : ℕ) (s t u : Bool) → d < 32 → a < 2 → b < 3 → c < 4 →
    n ≡ d + (32 * a + 64 * b + 256 * c) + (1024 * digit s + 2048 * digit t + 4096 * digit u) → Parts (pos n) d (a ∷ b ∷ c ∷ []) (s ∷ t ∷ u ∷ []) 0
unfolding options_in sent_in families_in
mark_parts n d a b c s t u hd ha hb hc e =
    let p = packed n d a b c (digit s) (digit t) (digit u) hd ha hb hc (digit_small s) (digit_small t) (digit_small u) e in
    let first : (n / 1024 % 2 == 1) ≡ s = bit_back _ s p.sent_two in
    let second : (n / 2048 % 2 == 1) ≡ t = bit_back _ t p.sent_three in
    let third : (n / 4096 % 2 == 1) ≡ u = bit_back _ u p.sent_four in
    record {
      depth = p.depth_at;
      options = rw (p.whole, p.two, p.three, p.four) refl;
      sent = rw (p.whole, first, second, third) refl;
      families = omega (arith, p.whole);
    }

pub mark_parts_z : (n d a b c : ℕ) (s t u : Bool) → d < 32 → a < 2 → b < 3 → c < 4 →
    n ≡ d + (32 * a + 64 * b + 256 * c) + (1024 * digit s + 2048 * digit t + 4096 * digit u) → Parts (to_z w32 n) d (a ∷ b ∷ c ∷ []) (s ∷ t ∷ u ∷ []) 0
mark_parts_z n d a b c s t u hd ha hb hc e =
    let small : n < 2 ^ 31 = omega (arith, digit_small s, digit_small t, digit_small u) in
    rw (to_z_pos w32 n small) (mark_parts n d a b c s t u hd ha hb hc e)

-- ---- other families

low_below : (mark : ℤ) → low_bits mark < 8192
low_below mark = grind (arith, nat_tests)

depth_low : (mark : ℤ) → low_bits mark % 32 ≡ depth_of mark
depth_low mark = grind (arith, nat_tests)

with_families : (mark : ℤ) (n f : ℕ) → f < 8 → n ≡ low_bits mark + 8192 * f → Parts (pos n) (depth_of mark) (options_in mark) (sent_in mark) f
unfolding options_in sent_in families_in
with_families mark n f few e =
    let low : n % 8192 ≡ low_bits mark = omega (arith, low_below mark) in
    record {
      depth = omega (arith, low, depth_low mark);
      options = rw low refl;
      sent = rw low refl;
      families = omega (arith, low_below mark);
    }

pub with_families_z : (mark : ℤ) (n f : ℕ) → f < 8 → n ≡ low_bits mark + 8192 * f → Parts (to_z w32 n) (depth_of mark) (options_in mark) (sent_in mark) f
with_families_z mark n f few e =
    let small : n < 2 ^ 31 = omega (arith, low_below mark) in
    rw (to_z_pos w32 n small) (with_families mark n f few e)
