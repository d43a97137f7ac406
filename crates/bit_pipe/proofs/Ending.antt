-- A text padded and filled.
use Rattle.std.proofs.Common.{◌≡◌, ℕ, ◌+◌, ◌-◌, ◌*◌, ◌/◌, ◌%◌, ◌^◌, ◌<◌, ◌≤◌, min, ◌++◌, length, Bool, true, false, sym, ap, subst, ◌∙◌, append_assoc}
use Rattle.std.proofs.Common.{arith, length-append, Result, Ok, Err, IsErr}
use Rattle.std.proofs.lemmas.Grind.{div_ceil_times}
use Rattle.item_defs.specs.Bits.{bits_of, copies}
use Rattle.item_defs.specs.Padding.{rounded, padded_length, padding}
use Rattle.item_defs.proofs.BitLists.{copies_then, length-copies}
use Rattle.item_defs.proofs.NumberBits.{length-bits_of}
use Rattle.item_defs.proofs.Rounding.{rounded_bounds, rounded_is}
use Rattle.bit_pipe.specs.Sinks.{SinkOf, GaveBits, BrokeBits}
use Rattle.bit_pipe.specs.SinkState.{SinkState, IsOpen, Finishes, Closes}
use Rattle.bit_pipe.proofs.Giving.{gives_then, broke_then, broke_more}

pub filled_up : (word bound used : ℕ) (fill : Bool) → fill ≡ true → padded_length word bound fill used ≤ 8 * bound →
    8 * bound ≡ padded_length word bound fill used
filled_up word bound used fill e le =
    let h : padded_length word bound true used ≤ 8 * bound = rw e at le in
    rw e (omega (arith, h))

pub rounded_up : (word bound used : ℕ) (fill : Bool) (ceiling a b : ℕ) → fill ≡ false → 0 < word → a ≡ word → b ≡ word →
    ceiling ≡ used / (8 * a) + min 1 (used % (8 * a)) →
    8 * (ceiling * b) ≡ padded_length word bound fill used
rounded_up word bound used fill ceiling a b e some f g h =
    let unit = 8 * word in
    let c : ceiling ≡ used / unit + min 1 (used % unit) = h ∙ ap (λ n. used / (8 * n) + min 1 (used % (8 * n))) f in
    let bounds = div_ceil_times used unit (omega arith) in
    let is : (used / unit + min 1 (used % unit)) * unit ≡ rounded unit used =
    rounded_is unit used (used / unit + min 1 (used % unit)) (omega arith) bounds.0 bounds.1 in
    let turned : 8 * (ceiling * b) ≡ ceiling * unit = rw g (grind arith) in
    let whole : 8 * (ceiling * b) ≡ rounded unit used = turned ∙ ap (λ n. n * unit) c ∙ is in
    rw (e, whole) (omega arith)

pub used_within : (word bound used : ℕ) (fill : Bool) → 0 < word → used ≤ padded_length word bound fill used
used_within word bound used fill lt =
    let b = rounded_bounds (8 * word) used (omega arith) in
    omega (arith, b.0)

pub closes_broke : {S E : Type 0} {k : SinkOf S} {word : ℕ} {fill : Bool} {old : SinkState S} {new : S} (r : Result ℕ E) → IsErr r →
    BrokeBits k old.sink new (old.pending ++ copies (padding word old.bound fill old.used) false) → Closes k r word fill old new
closes_broke (Ok x) e p = absurd cc
closes_broke (Err x) e p = record { ends = p }

-- the last octet and the octets of zeros after it, as the code counts them
module _ {S : Type 0} (k : SinkOf S) (s : SinkState S) (word : ℕ) (fill : Bool) (filled pending answer full : ℕ) (is_open : IsOpen s)
    (pend : s.pending ≡ bits_of filled pending) (used : s.used ≡ 8 * (k.counts s.sink).given + filled) (lt : filled < 64) (some : 0 < word)
    (fits : padded_length word s.bound fill s.used ≤ 8 * s.bound) (is : 8 * answer ≡ padded_length word s.bound fill (8 * s.bound - s.room))
    (count : full ≡ (8 * s.bound - s.room) / 8 + min 1 ((8 * s.bound - s.room) % 8)) where
  so_far : 8 * s.bound - s.room ≡ s.used
  so_far = omega (arith, is_open.whole)

  length_is : 8 * answer ≡ padded_length word s.bound fill s.used
  length_is = is ∙ ap (padded_length word s.bound fill) so_far

  enough : s.used ≤ 8 * answer
  enough = omega (arith, used_within word s.bound s.used fill some, length_is)

  octets_so_far : 8 * full ≡ s.used + (8 - filled % 8) % 8
  octets_so_far =
      let c : full ≡ s.used / 8 + min 1 (s.used % 8) = count ∙ ap (λ n. n / 8 + min 1 (n % 8)) so_far in
      omega (arith, c, used)

  zeros_are : (8 - filled % 8) % 8 + 8 * (answer - full) ≡ padding word s.bound fill s.used
  zeros_are = omega (arith, octets_so_far, enough, length_is)

  joined : (bits_of filled pending ++ copies ((8 - filled % 8) % 8) false) ++ copies (8 * (answer - full)) false ≡ s.pending
      ++ copies (padding word s.bound fill s.used) false
  joined =
      append_assoc (bits_of filled pending) (copies ((8 - filled % 8) % 8) false) (copies (8 * (answer - full)) false)
      ∙ ap (λ r. bits_of filled pending ++ r) (copies_then ((8 - filled % 8) % 8) (8 * (answer - full)) false ∙ ap (λ n. copies n false) zeros_are)
      ∙ ap (λ r. r ++ copies (padding word s.bound fill s.used) false) (sym pend)

  pub end_room : {t : S} → GaveBits k s.sink t (bits_of filled pending ++ copies ((8 - filled % 8) % 8) false) → (k.counts t).given + (answer - full) ≤ 2 ^ 32
  end_room p = omega (
    arith,
    p.given,
    length-append (bits_of filled pending) (copies ((8 - filled % 8) % 8) false),
    length-bits_of filled pending,
    length-copies ((8 - filled % 8) % 8) false,
    octets_so_far,
    used,
    is_open.bound,
    fits,
    length_is,
  )

  pub end_broke : {t : S} → BrokeBits k s.sink t (bits_of filled pending ++ copies ((8 - filled % 8) % 8) false) →
      BrokeBits k s.sink t (s.pending ++ copies (padding word s.bound fill s.used) false)
  end_broke {t} p = subst (BrokeBits k s.sink t) joined (broke_more k (copies (8 * (answer - full)) false) p)

  pub end_broke_later : {t u : S} → GaveBits k s.sink t (bits_of filled pending ++ copies ((8 - filled % 8) % 8) false) →
      BrokeBits k t u (copies (8 * (answer - full)) false) →
      BrokeBits k s.sink u (s.pending ++ copies (padding word s.bound fill s.used) false)
  end_broke_later {t} {u} p q = subst (BrokeBits k s.sink u) joined (broke_then k p q)

  pub end_gave : {t u : S} → GaveBits k s.sink t (bits_of filled pending ++ copies ((8 - filled % 8) % 8) false) →
      GaveBits k t u (copies (8 * (answer - full)) false) →
      Finishes k s u (padding word s.bound fill s.used) answer
  end_gave {t} {u} p q =
      let all : GaveBits k s.sink u (s.pending ++ copies (padding word s.bound fill s.used) false) = subst (GaveBits k s.sink u) joined (gives_then k p q) in
      let more : length (s.pending ++ copies (padding word s.bound fill s.used) false) ≡ filled + padding word s.bound fill s.used =
      length-append s.pending (copies (padding word s.bound fill s.used) false)
      ∙ (let a = ap length pend ∙ length-bits_of filled pending in omega (arith, a, length-copies (padding word s.bound fill s.used) false)) in
      let bits : 8 * answer ≡ s.used + padding word s.bound fill s.used = omega (arith, enough, length_is) in
      record { gave = all; octets = omega (arith, all.given, more, bits, used); bits = bits }
