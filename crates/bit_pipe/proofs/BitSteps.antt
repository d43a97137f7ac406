-- Bits that are put after those that wait.
use Rattle.std.proofs.Common.{◌≡◌, ℕ, ◌+◌, ◌-◌, ◌*◌, ◌/◌, ◌%◌, ◌^◌, ◌<◌, ◌≤◌, [], ◌∷◌, ◌++◌, Bool, refl, sym, ap, subst, ◌∙◌, append_assoc, arith, mul_comm}
use Rattle.std.proofs.Common.{bit_and, bit_or}
use Rattle.std.proofs.lemmas.Nat.{mod_below, pow_pos, shl_whole, shr_below, one_shl, and_mask, or_shifted, pow-add, mul-add-lt}
use Rattle.std.proofs.lemmas.Bool.Decides.{nat_tests}
use mir.Val.{bool_byte}
use Rattle.item_defs.specs.Bits.{bits_of, digit}
use Rattle.item_defs.proofs.NumberBits.{bits_none, bits_push, bits_of-mod, bits_of-split, bits_join, digit_code, length-bits_of}
use Rattle.bit_pipe.specs.Bounds.{bound_of}
use Rattle.bit_pipe.specs.Sinks.{SinkOf, GaveBits, BrokeBits}
use Rattle.bit_pipe.specs.SinkState.{SinkState, IsOpen, Begins, Adds, Breaks}
use Rattle.bit_pipe.proofs.Giving.{gives_none, broke_more}

-- what a writer shows, field by field
abbrev pub current : {S : Type 0} → SinkOf S → S → ℕ → ℕ → ℕ → ℕ → ℕ → SinkState S
current k sink filled pending bound room name = record {
  sink = sink;
  pending = bits_of filled pending;
  used = 8 * (k.counts sink).given + filled;
  room = room;
  bound = bound;
  name = name;
}

pub begins : {S : Type 0} (k : SinkOf S) (s : S) (bound room name : ℕ) → Begins k s bound (current k s 0 0 bound room name)
begins k s bound room name = record { sink = refl; pending = bits_none 0; used = omega arith; bound = refl }

pub opens : {S : Type 0} (k : SinkOf S) (s : S) (filled pending bound room name : ℕ) → 8 * (k.counts s).given + filled + room ≡ 8 * bound → bound ≤ 2 ^ 32 →
    filled < 64 →
    IsOpen (current k s filled pending bound room name)
opens k s filled pending bound room name e le lt = record { whole = e; bound = le; pending = omega (arith, length-bits_of filled pending) }

bound_small : (limit : ℕ) → limit ≤ 2 ^ 32 → bound_of limit ≤ 2 ^ 32
bound_small limit le = grind (arith, nat_tests)

pub bounded : (bound limit : ℕ) → bound ≡ bound_of limit → limit ≤ 2 ^ 32 → bound ≤ 2 ^ 32
bounded bound limit e le = rw e (bound_small limit le)

-- the bit that the code puts
pub bit_put : (b : Bool) → bits_of 1 (bool_byte b) ≡ b ∷ []
bit_put b =
    let n : 2 * 0 + digit b ≡ bool_byte b = omega (arith, digit_code b) in
    ap (bits_of 1) (sym n) ∙ bits_push 0 0 b ∙ ap (λ r. r ++ b ∷ []) (bits_none 0)

-- the lowest bits of a number, as the code takes them
pub code_low : (value count : ℕ) → count < 64 → bit_and value ((1 * 2 ^ count) % 2 ^ 64 - 1) ≡ value % 2 ^ count
code_low value count lt =
    let one : (1 * 2 ^ count) % 2 ^ 64 ≡ 2 ^ count = one_shl count 64 lt in
    ap (λ n. bit_and value (n - 1)) one ∙ and_mask value count

pub code_low_fits : (value count : ℕ) → count < 64 → bit_and value ((1 * 2 ^ count) % 2 ^ 64 - 1) < 2 ^ count
code_low_fits value count lt = rw (code_low value count lt) (mod_below value (2 ^ count) (pow_pos count))

-- two numbers side by side, as the code joins them
pub code_join : (a m n b : ℕ) → a < 2 ^ m → m + n ≤ 64 → b < 2 ^ n → bit_or ((a * 2 ^ n) % 2 ^ 64) b ≡ a * 2 ^ n + b
code_join a m n b fits le lt =
    let whole : (a * 2 ^ n) % 2 ^ 64 ≡ a * 2 ^ n = shl_whole a m n 64 fits le in
    ap (λ x. bit_or x b) whole ∙ or_shifted a n b lt

-- what the code computes from the bits that wait and the number's
pub code_wait : (filled pending count value : ℕ) → pending < 2 ^ filled → filled + count < 64 →
    bit_or ((pending * 2 ^ count) % 2 ^ 64) (bit_and value ((1 * 2 ^ count) % 2 ^ 64 - 1)) ≡ pending * 2 ^ count + bit_and value ((1 * 2 ^ count) % 2 ^ 64 - 1)
code_wait filled pending count value fits lt = code_join pending filled count _ fits (omega arith) (code_low_fits value count (omega arith))

-- the word that they fill
pub code_word : (filled pending count value : ℕ) → pending < 2 ^ filled → filled < 64 → count < 64 → 64 ≤ filled + count →
    bit_or ((pending * 2 ^ (count - ((filled + count) - 64))) % 2 ^ 64) (bit_and value ((1 * 2 ^ count) % 2 ^ 64 - 1) / 2 ^ ((filled + count) - 64))
    ≡ pending * 2 ^ (count - ((filled + count) - 64)) + bit_and value ((1 * 2 ^ count) % 2 ^ 64 - 1) / 2 ^ ((filled + count) - 64)
code_word filled pending count value fits lt le full =
    let rest = (filled + count) - 64 in
    let parts : (count - rest) + rest ≡ count = omega arith in
    let small = shr_below (bit_and value ((1 * 2 ^ count) % 2 ^ 64 - 1)) (count - rest) rest (rw parts (code_low_fits value count le)) in
    code_join pending filled (count - rest) _ fits (omega arith) small

-- the bits that wait, if no word is full: low is the number's lowest bits
pub fits_waiting : (filled pending count low : ℕ) → pending < 2 ^ filled → low < 2 ^ count → pending * 2 ^ count + low < 2 ^ (filled + count)
fits_waiting filled pending count low p q =
    let turned : 2 ^ count * 2 ^ filled ≡ 2 ^ (filled + count) = mul_comm (2 ^ count) (2 ^ filled) ∙ sym (pow-add 2 filled count) in
    subst (λ n. pending * 2 ^ count + low < n) turned (mul-add-lt pending (2 ^ count) low (2 ^ filled) p q)

module _ {S : Type 0} (k : SinkOf S) (s : S) (filled pending bound room name count value low : ℕ) (is : low ≡ value % 2 ^ count) where
  low_fits : low < 2 ^ count
  low_fits = rw is (mod_below value (2 ^ count) (pow_pos count))

  low_bits : bits_of count value ≡ bits_of count low
  low_bits = sym (ap (bits_of count) is ∙ bits_of-mod count value)

  pub adds_waiting : (next n : ℕ) → next ≡ pending * 2 ^ count + low → n ≡ count → filled + count < 64 → count ≤ room →
      Adds k (current k s filled pending bound room name) (current k s (filled + count) next bound (room - n) name) (bits_of count value)
  adds_waiting next n e f lt fits = record {
    out = [];
    gave = gives_none k s;
    bits = ap (λ r. bits_of filled pending ++ r) low_bits ∙ bits_join filled count pending low low_fits ∙ ap (bits_of (filled + count)) (sym e);
    pending = omega (arith, length-bits_of (filled + count) next);
    used = omega (arith, length-bits_of count value);
    room = omega (arith, f, length-bits_of count value);
    bound = refl;
    name = refl;
  }

  -- the bits of a full word, and those after it
  parted : (rest : ℕ) → 64 ≤ filled + count → filled + count ≡ 64 + rest → rest ≤ count →
      bits_of filled pending ++ bits_of count value ≡ bits_of 64 (pending * 2 ^ (count - rest) + low / 2 ^ rest) ++ bits_of rest low
  parted rest full e le =
      let high = low / 2 ^ rest in
      let parts : (count - rest) + rest ≡ count = omega arith in
      let word : filled + (count - rest) ≡ 64 = omega arith in
      let small : high < 2 ^ (count - rest) = shr_below low (count - rest) rest (rw parts low_fits) in
      ap (λ r. bits_of filled pending ++ r) (low_bits ∙ ap (λ n. bits_of n low) (sym parts) ∙ bits_of-split (count - rest) rest low)
      ∙ sym (append_assoc (bits_of filled pending) (bits_of (count - rest) high) (bits_of rest low))
      ∙ ap (λ r. r ++ bits_of rest low) (bits_join filled (count - rest) pending high small ∙ ap (λ n. bits_of n (pending * 2 ^ (count - rest) + high)) word)

  pub adds_word : {t : S} (rest word last n : ℕ) → word ≡ pending * 2 ^ (count - rest) + low / 2 ^ rest → last ≡ low % 2 ^ rest → n ≡ count →
      64 ≤ filled + count → filled + count ≡ 64 + rest → rest ≤ count → count ≤ room →
      rest < 64 → GaveBits k s t (bits_of 64 word) → Adds k (current k s filled pending bound room name) (current k t rest last bound (room - n) name)
      (bits_of count value)
  adds_word {t} rest word last n e f g full sum le fits lt h = record {
    out = bits_of 64 word;
    gave = h;
    bits = parted rest full sum le ∙ ap (λ w. bits_of 64 w ++ bits_of rest low) (sym e) ∙ ap (λ r. bits_of 64 word ++ r)
        (sym (ap (bits_of rest) f ∙ bits_of-mod rest low));
    pending = omega (arith, length-bits_of rest last);
    used = omega (arith, h.given, length-bits_of count value, length-bits_of 64 word);
    room = omega (arith, g, length-bits_of count value);
    bound = refl;
    name = refl;
  }

  pub breaks_in_word : {t : S} (rest word : ℕ) → word ≡ pending * 2 ^ (count - rest) + low / 2 ^ rest → 64 ≤ filled + count → filled + count ≡ 64 + rest →
      rest ≤ count →
      (b : SinkState S) → b.sink ≡ t → b.name ≡ name → BrokeBits k s t (bits_of 64 word) → Breaks k (current k s filled pending bound room name) b
      (bits_of count value)
  breaks_in_word {t} rest word e full sum le b f g h =
      let same : bits_of 64 word ++ bits_of rest low ≡ bits_of filled pending ++ bits_of count value =
      sym (parted rest full sum le ∙ ap (λ w. bits_of 64 w ++ bits_of rest low) (sym e)) in
      let all : BrokeBits k s t (bits_of filled pending ++ bits_of count value) = subst (BrokeBits k s t) same (broke_more k (bits_of rest low) h) in
      record { broke = subst (λ u. BrokeBits k s u (bits_of filled pending ++ bits_of count value)) (sym f) all; name = g }

-- the highest bits of a number, for which there is room, and those after them
pub fits_then : (count fitting value v : ℕ) → v ≡ value → fitting ≤ count → bits_of fitting (v / 2 ^ (count - fitting)) ++ bits_of (count - fitting) value
    ≡ bits_of count value
fits_then count fitting value v e le =
    let whole : fitting + (count - fitting) ≡ count = omega arith in
    ap (λ n. bits_of fitting (n / 2 ^ (count - fitting)) ++ bits_of (count - fitting) value) e ∙ sym (bits_of-split fitting (count - fitting) value)
    ∙ ap (λ n. bits_of n value) whole
