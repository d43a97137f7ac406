-- The rows that a level takes.
use Rattle.std.proofs.Common.{◌≡◌, ℕ, ◌+◌, ◌*◌, ◌≤◌, ℤ, pos, List, ◌++◌, length, take, drop, sym, ap, ◌∙◌, subst, arith}
use Rattle.std.proofs.lemmas.List.{get_or_append_left, get_or-append-add}
use Rattle.std.proofs.Math.Seq.{take_at}
use Rattle.wave_defs.specs.Line.{low_of, high_of}
use Rattle.wave_defs.specs.Within.{AllWithin}
use Rattle.wave_defs.specs.Held.{Agrees, signal}
use Rattle.wave_defs.specs.Rolling.{parted}
use Rattle.wave_defs.proofs.RollingLaws.{parted-each, parted-within}
use Rattle.wave_defs.proofs.LevelWithin.{IsWithin-more}

-- the low and the high samples, one after the other
pub Agrees-parted : (m k : ℕ) (x : ℕ → ℤ) (low high : List ℤ) → k ≡ m → length low ≡ k → Agrees k (signal low) (low_of x k) →
    Agrees k (signal high) (high_of x k) → Agrees (2 * m) (signal (low ++ high)) (parted x m)
Agrees-parted m k x low high e long al ah =
    let bl = subst (λ (i : ℕ). Agrees i (signal low) (low_of x i)) e al in
    let bh = subst (λ (i : ℕ). Agrees i (signal high) (high_of x i)) e ah in
    record {
      at = parted-each m x (λ (d : ℕ) (v : ℤ). signal (low ++ high) d ≡ v)
          (λ c h. get_or_append_left low high (pos 0) c (omega arith) ∙ bl.at c h)
          (λ c h. ap (λ (i : ℕ). signal (low ++ high) (i + c)) (sym (long ∙ e)) ∙ get_or-append-add low high c (pos 0) ∙ bh.at c h);
    }

-- bounds on the samples of a row that is split in parts
pub part_within : (k c half w n : ℕ) (x : ℕ → ℤ) (out old : List ℤ) → 2 ≤ k → 2 ≤ half → 5 * k ≤ c → w ≡ 2 * half → length out ≡ n → length old ≡ n →
    AllWithin (2 * k) (2 * half) x → Agrees (2 * half) (signal out) (parted x half) → AllWithin c w (signal (take n (out ++ drop (length out) old)))
part_within k c half w n x out old hk hh hc ew lo ln b a =
    let within = parted-within k half x hk hh b in
    rw (take_at out (drop (length out) old) n lo) (record { at = λ d h. rw (a.at d (omega arith)) (IsWithin-more (5 * k) c _ hc (within.at d (omega arith))) })
