-- Lanes that are loaded from a slice, and lanes that are stored to it.
use Rattle.std.proofs.Common.{◌≡◌, ℕ, ◌+◌, ◌-◌, ◌^◌, ◌<◌, ◌≤◌, ℤ, pos, List, length, map, sym, ap, ◌∙◌, ⊎_elim, subst, arith, to_z, of_z}
use mir.Syntax.{Width}
use mir.Val.{hbits}
use Rattle.std.proofs.lemmas.Int.{to_z-of_z}
use Rattle.std.proofs.lemmas.Bool.{cases_lt}
use Rattle.std.proofs.lemmas.List.{get_or-map, length-map}
use Rattle.std.proofs.lemmas.Simd.{get_or-chunk, length-chunk, get_or-put_chunk_below, get_or-put_chunk_at}
use lib.Lanes.{chunk, put_chunk}
use Rattle.wave_defs.specs.Within.{IsWithin, AllWithin}
use Rattle.wave_defs.specs.Held.{Agrees, signal}
use Rattle.wave_defs.proofs.Shifts.{SFits-IsWithin}

module _ (w : Width) where
  -- lanes that were passed on
  abbrev pub passed : List ℤ → List ℤ
  passed xs = map (to_z w) (map (of_z w) xs)

  pub length-passed : (xs : List ℤ) → length (passed xs) ≡ length xs
  length-passed xs = length-map (map (of_z w) xs) (to_z w) ∙ length-map xs (of_z w)

  pub passed_at : (b k : ℕ) (xs : List ℤ) → k < length xs → b < 2 ^ hbits w → IsWithin b (signal xs k) → signal (passed xs) k ≡ signal xs k
  passed_at b k xs h le within =
      let l = length-map xs (of_z w) in
      get_or-map (to_z w) (map (of_z w) xs) k 0 (pos 0) (omega arith) ∙ ap (to_z w) (get_or-map (of_z w) xs k (pos 0) 0 h) ∙ to_z-of_z w (signal xs k)
      (SFits-IsWithin w b (signal xs k) le within)

  module _ (m : ℕ) where
    pub load : (b i k : ℕ) (xs : List ℤ) → k < m → i + m ≤ length xs → b < 2 ^ hbits w → IsWithin b (signal xs (i + k)) →
        signal (passed (chunk i m xs)) k ≡ signal xs (i + k)
    load b i k xs h le lb within =
        let l = length-chunk i m xs le in
        let e = get_or-chunk i m xs k (pos 0) h in
        passed_at b k (chunk i m xs) (omega arith) lb (subst (IsWithin b) (sym e) within) ∙ e

    pub AllWithin-load : (b i n : ℕ) (xs : List ℤ) → n ≤ length xs → i + m ≤ n → b < 2 ^ hbits w → AllWithin b n (signal xs) →
        AllWithin b m (signal (passed (chunk i m xs)))
    AllWithin-load b i n xs l le lb within = record {
      at = λ k h.
          let at = within.at (i + k) (omega arith) in
          subst (IsWithin b) (sym (load b i k xs h (omega arith) lb at)) at;
    }

    -- a part of a slice, from i on, that is still equal to another slice's
    pub AllWithin-left : (b i n : ℕ) (xs ys : List ℤ) → n ≤ length xs → i + m ≤ n → b < 2 ^ hbits w → ((p : ℕ) → i ≤ p → signal xs p ≡ signal ys p) →
        AllWithin b n (signal ys) → AllWithin b m (signal (passed (chunk i m xs)))
    AllWithin-left b i n xs ys l le lb same within = record {
      at = λ k h.
          let e = same (i + k) (omega arith) in
          let at = subst (IsWithin b) (sym e) (within.at (i + k) (omega arith)) in
          subst (IsWithin b) (sym (load b i k xs h (omega arith) lb at)) at;
    }

    -- lanes v, the next ones of the signal f, are stored at i of xs
    pub store : (b i n : ℕ) (xs v : List ℤ) (f : ℕ → ℤ) → length xs ≡ n → i + m ≤ n → length v ≡ m → b < 2 ^ hbits w →
        ((k : ℕ) → k < m → IsWithin b (f (i + k))) → ((k : ℕ) → k < m → signal v k ≡ f (i + k)) → Agrees i (signal xs) f →
        Agrees (i + m) (signal (put_chunk i xs (passed v))) f
    store b i n xs v f lx room lv lb small value done =
        let long = length-passed v in
        let below = λ (p : ℕ) (h : p < i). get_or-put_chunk_below i xs (passed v) p (pos 0) h ∙ done.at p h in
        let stored = λ (r : ℕ) (h : r < m).
        let is = value r h in
        get_or-put_chunk_at i xs (passed v) r (pos 0) (omega arith) (omega arith) ∙ passed_at b r v (omega arith) lb
        (subst (IsWithin b) (sym is) (small r h)) ∙ is in
        record {
          at = λ p h.
              ⊎_elim (below p)
              (λ (l : i ≤ p). let split : i + (p - i) ≡ p = omega arith in subst (λ (q : ℕ). signal (put_chunk i xs (passed v)) q ≡ f q) split
              (stored (p - i) (omega arith)))
              (cases_lt p i);
        }
