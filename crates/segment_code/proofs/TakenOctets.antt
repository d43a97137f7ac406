-- The octets of the bits that were taken of a text.
use Rattle.std.proofs.Common.{◌≡◌, ◌≢◌, ℕ, ◌+◌, ◌*◌, ◌/◌, ◌%◌, ◌^◌, ◌≤◌, inl, inr, Bool, true, false, cond, List, [], ◌∷◌, ◌++◌, length, refl, sym, ap, ◌∙◌}
use Rattle.std.proofs.Common.{arith, append_assoc, append-nil, length-append}
use Rattle.std.specs.Int.{div_ceil}
use Rattle.std.proofs.lemmas.Nat.{div-add-mod'}
use Rattle.item_defs.specs.Bits.{bits_of_octets}
use Rattle.item_defs.specs.Padding.{rounded}
use Rattle.item_defs.proofs.OctetBits.{octets_append, length-bits_of_octets}
use Rattle.item_defs.proofs.Rounding.{rounded_least}
use Rattle.bit_pipe.specs.Bounds.{bound_of}
use Rattle.bit_pipe.specs.Sources.{SourceOf}
use Rattle.bit_pipe.specs.SourceState.{SourceState, BeginsIn, Takes}
use Rattle.segment_defs.specs.declared.head.SegmentHead.{SegmentHead}
use Rattle.segment_defs.specs.Head.{IsHead}
use Rattle.segment_code.specs.TextAnswers.{bits_within, whole_octets}
use Rattle.segment_code.specs.TextEnds.{wanted_bits}
use Rattle.segment_code.proofs.Deciding.{some_limit, no_limit, all_within}

pub none_left : (l : List Bool) → length l ≡ 0 → l ≡ []
none_left [] e = refl
none_left (x ∷ l) e = absurd (omega (arith, e))

rounded_in : (word limit used : ℕ) → 1 ≤ word → limit % word ≡ 0 → used ≤ 8 * limit → rounded (8 * word) used ≤ 8 * limit
rounded_in word limit used some whole le =
    let split : limit / word * word + limit % word ≡ limit = div-add-mod' limit word in
    let all : limit / word * (8 * word) ≡ 8 * limit = (let turn : limit / word * (8 * word) ≡ 8 * (limit / word * word) = grind arith in omega
    (arith, turn, split, whole)) in
    let most = rounded_least (8 * word) used (limit / word) (omega (arith, some)) (omega (arith, all, le)) in
    omega (arith, most, all)

module _ {I : Type 0} (k : SourceOf I) (head : SegmentHead) (size : ℕ) (old : I) (start stop : SourceState I)
    (begins : BeginsIn old (bound_of head.limit) size start)
    (bits : List Bool) (p : Takes k start stop bits) where
  all_bits : bits_of_octets p.octets ≡ bits ++ stop.pending
  all_bits = ap (λ l. l ++ bits_of_octets p.octets) (sym begins.pending) ∙ p.spell

  pub counted : 8 * length p.octets ≡ length bits + length stop.pending
  counted = sym (length-bits_of_octets p.octets) ∙ ap length all_bits ∙ length-append bits stop.pending

  pub used_is : stop.used ≡ 8 * size + length bits
  used_is = omega (arith, p.used, begins.used)

  bound_is : stop.used + stop.room ≡ 8 * bound_of head.limit
  bound_is = omega (arith, p.used, p.room, begins.room)

  pub used_within : stop.used ≤ 8 * bound_of head.limit
  used_within = omega (arith, bound_is)

  pub octets_used : div_ceil stop.used 8 ≡ size + length p.octets
  octets_used = omega (arith, counted, used_is, p.pending)

  limit_bound : head.limit ≢ 0 → bound_of head.limit ≡ head.limit
  limit_bound some = ap (λ b. cond b (2 ^ 32) head.limit) (some_limit head some)

  pub room_left : head.limit ≢ 0 → stop.used + stop.room ≡ 8 * head.limit
  room_left some = omega (arith, bound_is, limit_bound some)

  pub room_unlimited : head.limit ≡ 0 → stop.used + stop.room ≡ 2 ^ 35
  room_unlimited none = let b : bound_of head.limit ≡ 2 ^ 32 = ap (λ t. cond t (2 ^ 32) head.limit) (no_limit head none) in omega (arith, bound_is, b)

  pub within : head.limit ≢ 0 → size + length p.octets ≤ head.limit
  within some = omega (arith, counted, used_is, room_left some, p.pending)

  -- the bits of these octets, and of more of them within the limit
  pub bits_here : bits_within head size p.octets ≡ bits ++ stop.pending
  bits_here = all_within head size p.octets within ∙ all_bits

  pub bits_then : (more : List ℕ) → (head.limit ≢ 0 → size + length (p.octets ++ more) ≤ head.limit) →
      bits_within head size (p.octets ++ more) ≡ bits ++ (stop.pending ++ bits_of_octets more)
  bits_then more fits =
      all_within head size (p.octets ++ more) fits ∙ octets_append p.octets more ∙ ap (λ l. l ++ bits_of_octets more) all_bits ∙
      append_assoc bits stop.pending (bits_of_octets more)

  pub bits_exact : stop.pending ≡ [] → bits_within head size p.octets ≡ bits
  bits_exact none = bits_here ∙ ap (λ l. bits ++ l) none ∙ append-nil bits

  -- ---- all items are given

  pub wanted_is : (count : ℕ) → 8 * (div_ceil stop.used 8 + count) ≡ wanted_bits head stop.used →
      whole_octets head (8 * size + length bits) ≡ size + length p.octets + count
  wanted_is count wanted =
      by_fill head.fill (wanted ∙ ap (λ n. cond head.fill (8 * head.limit) (rounded (8 * head.image.word) n)) used_is)
    where
      by_fill : (b : Bool) → 8 * (div_ceil stop.used 8 + count) ≡ cond b (8 * head.limit) (rounded (8 * head.image.word) (8 * size + length bits)) →
          cond b head.limit (rounded (8 * head.image.word) (8 * size + length bits) / 8) ≡ size + length p.octets + count
      by_fill true e = omega (arith, e, octets_used)
      by_fill false e = omega (arith, e, octets_used)

  -- the text with its padding and fill is within the limit
  pub wanted_within : IsHead head → (count : ℕ) → 8 * (div_ceil stop.used 8 + count) ≡ wanted_bits head stop.used → head.limit ≢ 0 →
      size + length p.octets + count ≤ head.limit
  wanted_within fits count wanted some = by_fill head.fill wanted
    where
      whole : head.limit % head.image.word ≡ 0
      whole = elim fits.limit [
        | inl none ↦ absurd (some none)
        | inr l ↦ l.2
      ]

      used : stop.used ≤ 8 * head.limit
      used = omega (arith, room_left some)

      by_fill : (b : Bool) → 8 * (div_ceil stop.used 8 + count) ≡ cond b (8 * head.limit) (rounded (8 * head.image.word) stop.used) →
          size + length p.octets + count ≤ head.limit
      by_fill true e = omega (arith, e, octets_used)
      by_fill false e = let most = rounded_in head.image.word head.limit stop.used fits.image.word.0 whole used in omega (arith, e, octets_used, most)
