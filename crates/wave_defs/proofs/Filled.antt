-- A loop that fills a slice with the values of a signal.
use Rattle.std.proofs.Common.{◌≡◌, ℕ, ◌+◌, ◌<◌, ◌≢◌, ℤ, List, length, set, arith, get_or-set_other, get_or-set_same, below_more, SFits, w32, to_z, of_z, ◌∙◌}
use Rattle.std.proofs.lemmas.Int.{to_z-of_z}
use Rattle.wave_defs.specs.Held.{Agrees, signal}

-- the places p of a slice, to which a loop writes one after the other
pub Agrees-set_at : (p : ℕ → ℕ) (xs : List ℤ) (i : ℕ) (v : ℤ) (f : ℕ → ℤ) → p i < length xs → ((k : ℕ) → k < i → p k ≢ p i) →
    Agrees i (λ k. signal xs (p k)) f → v ≡ f i → Agrees (i + 1) (λ k. signal (set xs (p i) v) (p k)) f
Agrees-set_at p xs i v f h apart a e = record {
  at = below_more _ _ (λ k l. let ne : p k ≢ p i = apart k l in rw get_or-set_other (a.at k l)) (rw get_or-set_same e);
}

-- a write elsewhere
pub Agrees-set_off : (p : ℕ → ℕ) (xs : List ℤ) (i n : ℕ) (v : ℤ) (f : ℕ → ℤ) → ((k : ℕ) → k < n → p k ≢ i) → Agrees n (λ k. signal xs (p k)) f →
    Agrees n (λ k. signal (set xs i v) (p k)) f
Agrees-set_off p xs i n v f apart a = record {
  at = λ k l. let ne : p k ≢ i = apart k l in rw get_or-set_other (a.at k l);
}

pub Agrees-set : (xs : List ℤ) (i : ℕ) (v : ℤ) (f : ℕ → ℤ) → i < length xs → Agrees i (signal xs) f → v ≡ f i → Agrees (i + 1) (signal (set xs i v)) f
Agrees-set xs i v f h a e = Agrees-set_at (λ k. k) xs i v f h (λ k l. omega arith) a e

-- for a loop that fills a slice
pub Agrees-set_result : (xs : List ℤ) (i : ℕ) (r : ℤ) (f : ℕ → ℤ) → i < length xs → Agrees i (signal xs) f → SFits w32 r → r ≡ f i →
    Agrees (i + 1) (signal (set xs i (to_z w32 (of_z w32 r)))) f
Agrees-set_result xs i r f h a fits e = Agrees-set xs i _ f h a (to_z-of_z w32 r fits ∙ e)

pub ruleset fills = (Agrees-set_result, to_z-of_z)
