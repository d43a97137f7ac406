-- A text that was put into a sink, and ended.
use Rattle.std.proofs.Common.{◌≡◌, ◌⊎◌, ℕ, ◌+◌, ◌*◌, ◌^◌, ◌<◌, ◌≤◌, List, [], ◌++◌, length, take, Bool, false, refl, sym, ap, subst, ◌∙◌, arith, inl, inr}
use Rattle.std.proofs.Common.{append_assoc, length-append, length-take, ◌==◌, Result, Ok, Err, MatchResult, append-nil, take_all, ℤ}
use Rattle.std.proofs.lemmas.Bool.{cases_lt}
use Rattle.std.proofs.lemmas.Bool.Decides.{nat_tests}
use Rattle.item_defs.specs.Bits.{copies, octets_of, bits_of_octets, AreOctets}
use Rattle.item_defs.specs.Padding.{padded_length, padding, padded}
use Rattle.item_defs.proofs.BitLists.{length-copies}
use Rattle.item_defs.proofs.OctetBits.{length-octets_of, length-bits_of_octets, octets_of-bits_of_octets}
use Rattle.item_defs.proofs.Rounding.{rounded_bounds}
use Rattle.base_122.specs.declared.book.Book.{Book}
use Rattle.bit_pipe.specs.Bounds.{bound_of}
use Rattle.bit_pipe.specs.Sinks.{SinkOf, BrokeBits}
use Rattle.bit_pipe.specs.SinkState.{SinkState, IsOpen, Begins, Adds, Breaks, Finishes, Closes}
use Rattle.bit_pipe.proofs.Closing.{gave_octets, text_gave, text_broke, text_broke_at_end}
use Rattle.segment_defs.specs.declared.head.SegmentHead.{SegmentHead}
use Rattle.segment_defs.specs.Coded.{coded, coded_bits}
use Rattle.segment_defs.specs.Text.{text_octets}
use Rattle.segment_defs.proofs.WrittenFields.{octets_of-append}
use Rattle.segment_code.specs.Text.{GivesText, BreaksWithin}
use Rattle.segment_code.proofs.TextOctets.{IsLimit, padded_within, text_within, text_unlimited, text_cut}

-- a text of this number of bits has no limit and is short, or has a limit of whole words
abbrev pub IsBounded : (word limit : ℕ) (fill : Bool) (count : ℕ) → Type 0
IsBounded word limit fill count = ((1 ≤ word) × (word ≤ 4) × (limit ≡ 0) × (fill ≡ false) × (count + 32 ≤ 2 ^ 35)) ⊎ IsLimit word limit

-- octets whose bits are a prefix of a text are the text's first octets
prefix_of : (octets : List ℕ) (bits more zeros : List Bool) → AreOctets octets → bits ≡ bits_of_octets octets ++ more → octets_of (bits ++ zeros) ≡ octets
    ++ octets_of (more ++ zeros)
prefix_of octets bits more zeros small e =
    ap (λ r. octets_of (r ++ zeros)) e
    ∙ ap octets_of (append_assoc (bits_of_octets octets) more zeros)
    ∙ octets_of-append (length octets) (bits_of_octets octets) (more ++ zeros) (length-bits_of_octets octets)
    ∙ ap (λ r. r ++ octets_of (more ++ zeros)) (octets_of-bits_of_octets octets small)

breaks_prefix : {S : Type 0} {k : SinkOf S} {a b : S} {bits : List Bool} (zeros : List Bool) → BrokeBits k a b bits →
    BreaksWithin k a b (octets_of (bits ++ zeros))
breaks_prefix {S} {k} {a} {b} {bits} zeros p =
    record {
      prefix = p.octets;
      more = octets_of (p.more ++ zeros);
      parts = prefix_of p.octets bits p.more zeros p.small p.spell;
      broke = p.broke;
      rose =
          p.rose;
    }

module _ {S : Type 0} (k : SinkOf S) (out : S) (s t : SinkState S) (word limit : ℕ) (fill : Bool) (bits : List Bool)
    (begins : Begins k out (bound_of limit) s) (is_open : IsOpen s) (none : (k.counts out).given ≡ 0) where
  room_is : s.room ≡ 8 * bound_of limit
  room_is = omega (arith, is_open.whole, begins.used, begins.bound, none)

  unlimited : limit ≡ 0 → bound_of limit ≡ 2 ^ 32
  unlimited e = rw e refl

  limited : IsLimit word limit → bound_of limit ≡ limit
  limited l = let there : (limit == 0) ≡ false = grind (arith, nat_tests, l.some) in rw there refl

  -- ---- the sink failed before the end

  -- the octets of the bits that fit are the text's
  fitting_octets : IsBounded word limit fill (length bits) → octets_of (padded word limit fill (take s.room bits)) ≡ text_octets word limit fill bits
  fitting_octets (inl (some, few, zero, plain, short)) =
      let all : take s.room bits ≡ bits = take_all s.room bits (omega (arith, room_is, unlimited zero)) in
      rw (all, zero, plain) (text_unlimited word 0 bits)
  fitting_octets (inr l) = elim (cases_lt s.room (length bits)) [
    | inl lt ↦ ap (λ n. octets_of (padded word limit fill (take n bits))) (room_is ∙ ap (λ n. 8 * n) (limited l)) ∙ text_cut word limit fill bits l
        (omega (arith, room_is, limited l))
    | inr ge ↦ ap (λ r. octets_of (padded word limit fill r)) (take_all s.room bits ge) ∙ text_within word limit fill bits l (omega (arith, room_is, limited l))
  ]

  pub put_broke : IsBounded word limit fill (length bits) → Breaks k s t (take s.room bits) → BreaksWithin k out t.sink (text_octets word limit fill bits)
  put_broke b p = subst (BreaksWithin k out t.sink) (fitting_octets b) (breaks_prefix (copies (padding word limit fill (length (take s.room bits))) false)
      (text_broke begins p))

  -- ---- all bits were put

  pub end_fits : IsBounded word limit fill (length bits) → Adds k s t bits → padded_length word t.bound fill t.used ≤ 8 * t.bound
  end_fits h0 p = grind (arith, nat_tests, unlimited, rounded_bounds, limited, padded_within)

  padding_is : IsBounded word limit fill (length bits) → Adds k s t bits → padding word t.bound fill t.used ≡ padding word limit fill (length bits)
  padding_is h0 p = grind (arith, nat_tests, limited)

  octets_are_text : IsBounded word limit fill (length bits) → Adds k s t bits → octets_of (padded word limit fill bits) ≡ text_octets word limit fill bits
  octets_are_text (inl (some, few, zero, plain, short)) p = rw (zero, plain) (text_unlimited word 0 bits)
  octets_are_text (inr l) p = text_within word limit fill bits l (omega (arith, p.room, room_is, limited l))

  pub all_given : {u : S} {answer : ℕ} → IsBounded word limit fill (length bits) → Adds k s t bits →
      Finishes k t u (padding word t.bound fill t.used) answer → GivesText k out u (text_octets word limit fill bits) answer
  all_given {u} {answer} b p q =
      let same = padding_is b p in
      let octets : octets_of (bits ++ copies (padding word t.bound fill t.used) false) ≡ text_octets word limit fill bits =
      ap (λ n. octets_of (bits ++ copies n false)) same ∙ octets_are_text b p in
      let zeros = padding word t.bound fill t.used in
      record {
        gave = subst (k.Gave out u) octets (gave_octets (text_gave begins p q));
        count = omega (
          arith,
          ap length (sym octets),
          length-octets_of (bits ++ copies zeros false),
          length-append bits (copies zeros false),
          length-copies zeros false,
          q.bits,
          p.used,
          begins.used,
          none,
        );
      }

  pub all_broke : {u : S} → IsBounded word limit fill (length bits) → Adds k s t bits →
      BrokeBits k t.sink u (t.pending ++ copies (padding word t.bound fill t.used) false) → BreaksWithin k out u (text_octets word limit fill bits)
  all_broke {u} b p q =
      let whole = breaks_prefix [] (text_broke_at_end begins (padding word t.bound fill t.used) p q) in
      subst (BreaksWithin k out u) (ap octets_of (append-nil (bits ++ copies (padding word t.bound fill t.used) false)) ∙
      ap (λ n. octets_of (bits ++ copies n false)) (padding_is b p) ∙ octets_are_text b p) whole

  pub closed : {E : Type 0} (r : Result ℕ E) {u : S} → IsBounded word limit fill (length bits) → Adds k s t bits → Closes k r word fill t u →
      MatchResult r (λ octets. GivesText k out u (text_octets word limit fill bits) octets) (λ _. BreaksWithin k out u (text_octets word limit fill bits))
  closed (Ok n) b p c = all_given b p c.ends
  closed (Err e) b p c = all_broke b p c.ends

module _ {S : Type 0} (k : SinkOf S) (out : S) (s t : SinkState S) (word limit : ℕ) (fill : Bool) (bits : List Bool)
    (begins : Begins k out (bound_of limit) s) (is_open : IsOpen s) (none : (k.counts out).given ≡ 0) where
  -- ---- the bits that fit were put

  limit_there : IsBounded word limit fill (length bits) → s.room < length bits → IsLimit word limit
  limit_there (inl (some, few, zero, plain, short)) lt =
      let bound : bound_of limit ≡ 2 ^ 32 = rw zero refl in
      absurd (omega (arith, is_open.whole, begins.used, begins.bound, none, bound))
  limit_there (inr l) lt = l

  room_limited : IsLimit word limit → s.room ≡ 8 * limit
  room_limited l = grind (arith, nat_tests)

  pub cut_fits : IsBounded word limit fill (length bits) → s.room < length bits → Adds k s t (take s.room bits) →
      padded_length word t.bound fill t.used ≤ 8 * t.bound
  cut_fits b lt p = end_fits k out s t word limit fill (take s.room bits) begins is_open none (inr (limit_there b lt)) p

  pub closed_cut : {E : Type 0} (r : Result ℕ E) {u : S} → IsBounded word limit fill (length bits) → s.room < length bits → Adds k s t (take s.room bits) →
      Closes k r word fill t u →
      MatchResult r (λ octets. GivesText k out u (text_octets word limit fill bits) octets) (λ _. BreaksWithin k out u (text_octets word limit fill bits))
  closed_cut r {u} b lt p c =
      let l = limit_there b lt in
      let room : s.room ≡ 8 * limit = room_limited l in
      let cut = take s.room bits in
      let prefix : cut ≡ take (8 * limit) bits = ap (λ n. take n bits) room in
      let octets : octets_of (padded word limit fill cut) ≡ text_octets word limit fill bits = ap (λ r. octets_of (padded word limit fill r)) prefix
      ∙ text_cut word limit fill bits l (omega (arith, room)) in
      let same : text_octets word limit fill cut ≡ text_octets word limit fill bits =
      sym (text_within word limit fill cut l (omega (arith, room, length-take s.room bits))) ∙ octets in
      by_result r same (closed k out s t word limit fill cut begins is_open none r (inr l) p c)
    where
      by_result : {E : Type 0} (r : Result ℕ E) → text_octets word limit fill (take s.room bits) ≡ text_octets word limit fill bits →
          MatchResult r (λ octets. GivesText k out u (text_octets word limit fill (take s.room bits)) octets)
          (λ _. BreaksWithin k out u (text_octets word limit fill (take s.room bits))) →
          MatchResult r (λ octets. GivesText k out u (text_octets word limit fill bits) octets) (λ _. BreaksWithin k out u (text_octets word limit fill bits))
      by_result (Ok n) same m = subst (λ text. GivesText k out u text n) same m
      by_result (Err e) same m = subst (BreaksWithin k out u) same m

-- ---- exactly the bits that fit were put

module _ {S : Type 0} (k : SinkOf S) (out : S) (s t : SinkState S) (word limit : ℕ) (fill : Bool) (bits : List Bool)
    (begins : Begins k out (bound_of limit) s) (is_open : IsOpen s) (none : (k.counts out).given ≡ 0) where
  pub fitting_fits : IsBounded word limit fill (length bits) → Adds k s t (take s.room bits) → padded_length word t.bound fill t.used ≤ 8 * t.bound
  fitting_fits b p = grind (arith, nat_tests, cut_fits, end_fits, take_all)

  pub closed_fitting : {E : Type 0} (r : Result ℕ E) {u : S} → IsBounded word limit fill (length bits) → Adds k s t (take s.room bits) →
      Closes k r word fill t u →
      MatchResult r (λ octets. GivesText k out u (text_octets word limit fill bits) octets) (λ _. BreaksWithin k out u (text_octets word limit fill bits))
  closed_fitting r b p c = elim (cases_lt s.room (length bits)) [
    | inl lt ↦ closed_cut k out s t word limit fill bits begins is_open none r b lt p c
    | inr ge ↦ closed k out s t word limit fill bits begins is_open none r b (subst (Adds k s t) (take_all s.room bits ge) p) c
  ]

-- the sink has the same state at the return
pub if_known : {S E : Type 0} (k : SinkOf S) (out : S) (r : Result ℕ E) (book : Book) (h : SegmentHead) (blocks : List (List ℤ)) (u v : S) → u ≡ v →
    MatchResult r (λ octets. GivesText k out u (text_octets h.image.word h.limit h.fill (coded_bits book h blocks)) octets)
    (λ _. BreaksWithin k out u (text_octets h.image.word h.limit h.fill (coded_bits book h blocks))) →
    MatchResult r (λ octets. GivesText k out v (coded book h blocks) octets) (λ _. BreaksWithin k out v (coded book h blocks))
unfolding coded
if_known k out (Ok n) book h blocks u v e m = subst (λ x. GivesText k out x (text_octets h.image.word h.limit h.fill (coded_bits book h blocks)) n) e m
if_known k out (Err x) book h blocks u v e m = subst (λ y. BreaksWithin k out y (text_octets h.image.word h.limit h.fill (coded_bits book h blocks))) e m
