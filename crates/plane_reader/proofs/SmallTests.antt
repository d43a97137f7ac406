-- Small facts about tests.
use Rattle.std.proofs.Common.{◌≡◌, ℕ, ◌==◌, Bool, true, false, ◌&&◌, ◌||◌, refl, arith}
use Rattle.std.proofs.lemmas.Bool.Decides.{nat_tests}

pub never : true ≡ false → ⊥
never e = cc

pub neither_left : (a b : Bool) → (a || b) ≡ false → a ≡ false
neither_left true b e = cc
neither_left false b e = refl

pub neither_right : (a b : Bool) → (a || b) ≡ false → b ≡ false
neither_right true b e = cc
neither_right false b e = e

pub not_zero : (w : Bool) (n : ℕ) → (n ≡ 0 → ⊥) → (w && (n == 0)) ≡ false
not_zero true n h = grind (arith, nat_tests)
not_zero false n h = refl

pub not_wanted : (w b : Bool) → w ≡ false → (w && b) ≡ false
not_wanted true b e = cc
not_wanted false b e = refl
