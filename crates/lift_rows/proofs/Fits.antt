-- What fits 32 bits, in parts of slices and in halves of lines.
use Rattle.std.proofs.Common.{◌≡◌, ℕ, Bool, true, false, ◌+◌, ◌-◌, ◌*◌, ◌^◌, ◌<◌, ◌≤◌, ℤ, pos, ◌+ℤ◌, List, arith, ap, ◌∙◌}
use Rattle.std.specs.List.{between}
use Rattle.std.specs.Bool.{OnTrue}
use Rattle.std.proofs.lemmas.Int.{ints}
use Rattle.std.proofs.lemmas.List.Edits.{get_or-between}
use Rattle.wave_defs.specs.Line.{correction, even_of, odd_of}
use Rattle.wave_defs.specs.Within.{IsWithin, AllWithin}
use Rattle.wave_defs.specs.Lifted.{plus_predicted}
use Rattle.wave_defs.specs.Held.{Agrees, signal}
use Rattle.wave_defs.proofs.Floors.{correction-within, even_of-half_more, odd_of-thrice}
use Rattle.wave_defs.proofs.LevelWithin.{IsWithin-more}
use Rattle.wave_defs.proofs.LineLaws.{prediction-same}
use Rattle.lift_rows.specs.Halves.{odd_half, inner_half}
use Rattle.wave_defs.proofs.Equations.{plus_predicted-is, even_of-is, odd_of-is}

-- under a test
pub on_true_both : {P Q R : Type 0} (b : Bool) → (P → Q → R) → OnTrue b P → OnTrue b Q → OnTrue b R
on_true_both true f p q = f p q
on_true_both false f p q = tt

pub AllWithin-more : (b m n : ℕ) (x : ℕ → ℤ) → b ≤ m → AllWithin b n x → AllWithin m n x
AllWithin-more b m n x le w = record { at = λ k h. IsWithin-more b m _ le (w.at k h) }

pub AllWithin-same : (b n : ℕ) (x y : ℕ → ℤ) → Agrees n x y → AllWithin b n y → AllWithin b n x
AllWithin-same b n x y same w = record { at = λ k h. rw (same.at k h) (w.at k h) }

pub AllWithin-between : (m n a b k : ℕ) (xs : List ℤ) → b ≤ n → a + k ≤ b → AllWithin m n (signal xs) → AllWithin m k (signal (between a b xs))
AllWithin-between m n a b k xs le room w = record {
  at = λ i h.
      let e = get_or-between xs a b i (pos 0) (omega arith) in
      rw e (w.at (a + i) (omega arith));
}

pub corrected-fits : (e b a : ℤ) → IsWithin (3 * 2 ^ 29) e → IsWithin (3 * 2 ^ 27) b → IsWithin (3 * 2 ^ 27) a → IsWithin (2 ^ 31 - 1) (e +ℤ correction b a)
corrected-fits e b a we wb wa =
    let p = correction-within (3 * 2 ^ 27) _ _ (omega arith) wb wa in
    record { above = omega (arith, ints); below = omega (arith, ints) }

-- the even samples of an inner part are parts of all even samples
pub inner-same : (n k : ℕ) (o : ℕ → ℤ) (e : List ℤ) → k < n → plus_predicted o (signal (between 0 n e)) (signal (between 1 (n + 1) e))
    (signal (between 2 (n + 2) e)) (signal (between 3 (n + 3) e)) k ≡ inner_half o (signal e) k
unfolding inner_half
inner-same n k o e h =
    rw plus_predicted-is (
    let g0 : signal (between 0 n e) k ≡ signal e k = get_or-between e 0 n k (pos 0) (omega arith) ∙ ap (signal e) (let u : 0 + k ≡ k = omega arith in u) in
    let g1 = get_or-between e 1 (n + 1) k (pos 0) (omega arith) in
    let g2 = get_or-between e 2 (n + 2) k (pos 0) (omega arith) in
    let g3 = get_or-between e 3 (n + 3) k (pos 0) (omega arith) in
    cc
    )

-- ---- the halves c and d of a line, whose even samples are e

pub even_of-fits : (n : ℕ) (c d : ℕ → ℤ) → AllWithin (3 * 2 ^ 29) n c → AllWithin (3 * 2 ^ 27) n d → AllWithin (2 ^ 31 - 1) n (even_of c d)
even_of-fits n c d wc wd = record {
  at = λ j h. rw even_of-is (corrected-fits (c j) (d (j - 1)) (d j) (wc.at j h) (wd.at (j - 1) (omega arith)) (wd.at j h));
}

pub odd_half-is : (n : ℕ) (c d e : ℕ → ℤ) → 2 ≤ n → Agrees n e (even_of c d) → Agrees n (odd_half d e n) (odd_of c d n)
unfolding odd_half
odd_half-is n c d e two same = record {
  at = λ j h. let p = prediction-same n j e (even_of c d) two h same in grind (arith, odd_of-is);
}

-- small halves make small even samples
pub even_of-small : (n : ℕ) (c d : ℕ → ℤ) → AllWithin (9 * 2 ^ 25 + 2) n c → AllWithin (9 * 2 ^ 25 + 2) n d → AllWithin (7 * 2 ^ 26) n (even_of c d)
even_of-small n c d wc wd = record {
  at = λ j h. IsWithin-more _ (7 * 2 ^ 26) _ (omega arith) (even_of-half_more (9 * 2 ^ 25 + 2) n j c d (omega arith) h wc wd);
}

pub odd_of-small : (n : ℕ) (c d : ℕ → ℤ) → 2 ≤ n → AllWithin (9 * 2 ^ 25 + 2) n c → AllWithin (9 * 2 ^ 25 + 2) n d → AllWithin (2 ^ 31 - 1) n (odd_of c d n)
odd_of-small n c d two wc wd = record {
  at = λ j h. IsWithin-more _ (2 ^ 31 - 1) _ (omega arith) (odd_of-thrice (9 * 2 ^ 25 + 2) n j c d (omega arith) two h wc wd);
}
