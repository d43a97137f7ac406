-- A text decides its items, whatever head is before them.
use Rattle.std.proofs.Common.{◌≡◌, ◌≢◌, ℕ, ℤ, ◌+◌, ◌-◌, ◌*◌, ◌/◌, ◌<◌, ◌≤◌, inl, inr, Bool, true, false, cond, List, [], ◌++◌, length, take, refl}
use Rattle.std.proofs.Common.{sym, ap, ◌∙◌, subst, arith, append_assoc, length-append, append-nil, length-take-le, Option, None, Some, ◌==◌}
use Rattle.std.proofs.lemmas.Bool.{cases_lt, cases_Bool}
use Rattle.std.proofs.lemmas.Bool.Decides.{nat_tests}
use Rattle.std.proofs.lemmas.List.{take_all}
use Rattle.std.proofs.Math.Seq.{take-append-add}
use Rattle.item_defs.specs.Bits.{copies, bits_of_octets, octets_of}
use Rattle.item_defs.specs.Items.{Item, text}
use Rattle.item_defs.specs.Padding.{rounded, padded_length, padding, padded}
use Rattle.item_defs.specs.Readings.{AreItems}
use Rattle.item_defs.proofs.BitLists.{copies_none}
use Rattle.item_defs.proofs.OctetBits.{length-octets_of, bits_of_octets-octets_of}
use Rattle.bit_pipe.specs.declared.fault.Part.{Part}
use Rattle.bit_pipe.specs.declared.fault.Part.TheVariants.{Whole, Ended}
use Rattle.segment_defs.specs.declared.head.SegmentHead.{SegmentHead}
use Rattle.segment_defs.specs.Head.{IsHead}
use Rattle.segment_defs.specs.SegmentItems.{Options, segment_items}
use Rattle.segment_defs.specs.Text.{text_octets}
use Rattle.segment_defs.proofs.WrittenFields.{octets_of-append}
use Rattle.segment_defs.specs.Prefixes.{Prefix}
use Rattle.segment_defs.specs.Spellable.{IsSpellable, AreWordOptions}
use Rattle.segment_defs.specs.TextLaws.{HasAllPlanes}
use Rattle.segment_defs.proofs.Cuts.{cut_prefix}
use Rattle.segment_code.proofs.TextOctets.{IsLimit, padded_within, length-padded, text_within, text_unlimited, text_cut}
use Rattle.segment_code.specs.TextAnswers.{TextAnswer, gives, refuses, Decided, if_enough, whole_octets, bits_within, answer_in, Decides}
use Rattle.segment_code.specs.Spelled.{SpelledDecide, SpelledTextsDecide, wish_for}

-- a text is these octets of a head and what decides its items
pub record HeldAfter (restore : Bool) (h : SegmentHead) (blocks : List (List ℤ)) (options : Options) (head octets : List ℕ) (size : ℕ) : Type 0 where
  pub rest : List ℕ
  pub w : List (List ℤ)
  pub part : Part
  pub parts : octets ≡ head ++ rest
  pub decides : Decides (wish_for options restore) h size rest (gives part w)
  pub exact : h.limit ≡ 0 → HasAllPlanes h → w ≡ blocks

-- an answer that is decided by all octets that are there
all_there : (there octets : ℕ) (answer : TextAnswer) → octets ≡ there → if_enough there octets answer ≡ Some (record { answer = answer; octets = there })
all_there there octets answer e = grind (arith, nat_tests)

-- the blocks that are given
abbrev blocks_of : TextAnswer → List (List ℤ)
blocks_of (gives part w) = w
blocks_of (refuses name) = []

abbrev blocks_in : Option Decided → List (List ℤ)
blocks_in None = []
blocks_in (Some d) = blocks_of d.answer

-- one answer gives one list of blocks
one_given : (o : Option Decided) (part : Part) (n : ℕ) (v w : List (List ℤ)) → o ≡ Some (record { answer = gives part v; octets = n }) →
    o ≡ Some (record { answer = gives part w; octets = n }) → v ≡ w
one_given o part n v w e f = sym (ap blocks_in e) ∙ ap blocks_in f

eight_parts : (word limit used : ℕ) (fill : Bool) → padded_length word limit fill used ≡ 8 * (padded_length word limit fill used / 8)
eight_parts word limit used fill = grind (arith, nat_tests)

module _ (spelled : SpelledTextsDecide) (restore : Bool) (h : SegmentHead) (blocks : List (List ℤ)) (depths : List ℕ) (options : Options) (fits : IsHead h)
    (spellable : IsSpellable h blocks depths)
    (words : AreWordOptions options) (are : AreItems (segment_items h blocks depths options)) (prefix : List Bool) (size : ℕ)
    (eight : length prefix ≡ 8 * size) (few : size ≤ 20) where
  abbrev items : List Item
  items = segment_items h blocks depths options

  abbrev bits : List Bool
  bits = prefix ++ text items

  abbrev zeros : List Bool
  zeros = copies (padding h.image.word h.limit h.fill (length bits)) false

  abbrev after : List Bool
  after = text items ++ zeros

  abbrev all : ℕ
  all = padded_length h.image.word h.limit h.fill (length bits)

  -- what octets after the head decide
  decide : (rest : List ℕ) → SpelledDecide restore h size blocks depths options rest
  decide rest = spelled restore h size blocks depths options rest fits spellable words

  used : length bits ≡ 8 * size + length (text items)
  used = omega (arith, length-append prefix (text items), eight)

  long : length after + 8 * size ≡ all
  long = omega (arith, length-padded h.image.word h.limit h.fill bits fits.image.word.0, length-append bits zeros, length-append (text items) zeros, used)

  eights : length after ≡ 8 * (all / 8 - size)
  eights = omega (arith, long, eight_parts h.image.word h.limit (length bits) h.fill)

  parts_are : octets_of (padded h.image.word h.limit h.fill bits) ≡ octets_of prefix ++ octets_of after
  parts_are = ap octets_of (append_assoc prefix (text items) zeros) ∙ octets_of-append size prefix after eight

  after_octets : length (octets_of after) ≡ all / 8 - size
  after_octets = length-octets_of after ∙ omega (arith, eights)

  -- ---- all items

  expected : (h.fill ≡ true → all ≤ 8 * h.limit) → whole_octets h (8 * size + length (text items)) - size ≡ length (octets_of after)
  expected within =
      let count : size + length (octets_of after) ≡ all / 8 = omega (arith, after_octets, long, eight_parts h.image.word h.limit (length bits) h.fill) in
      let wanted = by_fill h.fill within in
      omega (arith, count, wanted)
    where
      same : rounded (8 * h.image.word) (length bits) ≡ rounded (8 * h.image.word) (8 * size + length (text items))
      same = ap (rounded (8 * h.image.word)) used

      by_fill : (f : Bool) → (f ≡ true → padded_length h.image.word h.limit f (length bits) ≤ 8 * h.limit) →
          padded_length h.image.word h.limit f (length bits) / 8 ≡ cond f h.limit (rounded (8 * h.image.word) (8 * size + length (text items)) / 8)
      by_fill true within = let w = within refl in omega (arith, w)
      by_fill false within = let s = same in omega (arith, s)

  abbrev rest : List ℕ
  rest = octets_of after

  -- the items are read in the bits of these octets
  read_in : (h.limit ≢ 0 → all ≤ 8 * h.limit) → bits_within h size (octets_of after) ≡ text items ++ zeros
  read_in within = elim (cases_Bool (h.limit == 0)) [
    | inl none ↦ ap (λ b. bits_of_octets (cond b rest (take (h.limit - size) rest))) none ∙ whole
    | inr some ↦
        let limited : h.limit ≢ 0 = λ e. not_zero h.limit e some in
        let le = within limited in
        let short : length rest ≤ h.limit - size = omega (arith, after_octets, le) in
        ap (λ b. bits_of_octets (cond b rest (take (h.limit - size) rest))) some ∙ ap bits_of_octets (take_all (h.limit - size) rest short) ∙ whole
  ]
    where
      whole : bits_of_octets rest ≡ text items ++ zeros
      whole = bits_of_octets-octets_of after (all / 8 - size) eights

      not_zero : (n : ℕ) → n ≡ 0 → (n == 0) ≡ false → ⊥
      not_zero n e f = grind (arith, nat_tests)

  all_held : text_octets h.image.word h.limit h.fill bits ≡ octets_of (padded h.image.word h.limit h.fill bits) → (h.fill ≡ true → all ≤ 8 * h.limit) →
      (h.limit ≢ 0 → all ≤ 8 * h.limit) →
      HeldAfter restore h blocks options (octets_of prefix) (text_octets h.image.word h.limit h.fill bits) size
  all_held e filled within =
      let rest = octets_of after in
      let d = decide rest in
      let read = read_in within in
      let w = d.whole are zeros read in
      let there = λ (v : List (List ℤ)). all_there (length rest) (whole_octets h (8 * size + length (text items)) - size) (gives Whole v) (expected filled) in
      record {
        rest = rest;
        w = w.0;
        part = Whole;
        parts = e ∙ parts_are;
        decides = w.1 ∙ there w.0;
        exact = λ none no_stop. one_given (answer_in (wish_for options restore) h size rest) Whole (length rest) w.0 blocks (w.1 ∙ there w.0)
            (d.exact are no_stop zeros read ∙ there blocks);
      }

  unlimited : h.limit ≡ 0 → HeldAfter restore h blocks options (octets_of prefix) (text_octets h.image.word h.limit h.fill bits) size
  unlimited none =
      let plain : h.fill ≡ false = elim (cases_Bool h.fill) [ inl filled ↦ absurd (fits.fill filled none) | inr plain ↦ plain ] in
      let same : text_octets h.image.word h.limit h.fill bits ≡ octets_of (padded h.image.word h.limit h.fill bits) = by_values h.limit h.fill none plain in
      all_held same (λ filled. absurd (fits.fill filled none)) (λ some. absurd (some none))
    where
      by_values : (limit : ℕ) (fill : Bool) → limit ≡ 0 → fill ≡ false → text_octets h.image.word limit fill bits
          ≡ octets_of (padded h.image.word limit fill bits)
      by_values limit fill e f = rw (e, f) (sym (text_unlimited h.image.word 0 bits))

  -- ---- a limit

  module _ (l : IsLimit h.image.word h.limit) (room : 32 ≤ h.limit) where
    fitting : length bits ≤ 8 * h.limit → HeldAfter restore h blocks options (octets_of prefix) (text_octets h.image.word h.limit h.fill bits) size
    fitting le =
        let within = padded_within h.image.word h.limit (length bits) h.fill l le in
        all_held (sym (text_within h.image.word h.limit h.fill bits l le)) (λ filled. within) (λ some. within)

    abbrev left : ℕ
    left = h.limit - size

    cut_octets : 8 * h.limit < length bits → text_octets h.image.word h.limit h.fill bits ≡ octets_of prefix ++ octets_of (take (8 * left) (text items))
    cut_octets lt =
        let n = 8 * h.limit in
        let first = take n bits in
        let count : length first ≡ n = length-take-le n bits (omega (arith, lt)) in
        let none : padding h.image.word h.limit h.fill (length first) ≡ 0 =
        ap (padding h.image.word h.limit h.fill) count ∙ (let w = padded_within h.image.word h.limit n h.fill l (omega arith) in omega (arith, w)) in
        let plain : padded h.image.word h.limit h.fill first ≡ first = ap (λ k. first ++ copies k false) none ∙ ap (λ r. first ++ r) (copies_none false)
        ∙ append-nil first in
        let split : n ≡ length prefix + 8 * left = omega (arith, eight, few, room) in
        let some : first ≡ prefix ++ take (8 * left) (text items) = ap (λ k. take k bits) split ∙ take-append-add prefix (text items) (8 * left) in
        sym (text_cut h.image.word h.limit h.fill bits l (omega (arith, lt))) ∙ ap octets_of (plain ∙ some) ∙ octets_of-append size prefix
        (take (8 * left) (text items)) eight

    cut_held : 8 * h.limit < length bits → HeldAfter restore h blocks options (octets_of prefix) (text_octets h.image.word h.limit h.fill bits) size
    cut_held lt =
        let cut : 8 * left < length (text items) = omega (arith, lt, used, few, room) in
        let first = take (8 * left) (text items) in
        let rest = octets_of first in
        let count : length first ≡ 8 * left = length-take-le (8 * left) (text items) (omega (arith, cut)) in
        let c = cut_prefix items are (8 * left) cut in
        let rest_long : length rest ≡ left = length-octets_of first ∙ omega (arith, count) in
        let some : (h.limit == 0) ≡ false = grind (arith, nat_tests) in
        let read : bits_within h size rest ≡ first =
        ap (λ b. bits_of_octets (cond b rest (take left rest))) some ∙ ap bits_of_octets (take_all left rest (omega (arith, rest_long)))
        ∙ bits_of_octets-octets_of first left count in
        let d = (decide rest).cut c.count c.more (subst (λ b. Prefix items c.count b c.more) (sym read) c.prefix) c.ends in
        record {
          rest = rest;
          w = d.0;
          part = Ended;
          parts = cut_octets lt;
          decides = d.1 ∙ ap (λ b. cond b None (if_enough (length rest) left (gives Ended d.0))) some ∙ all_there (length rest) left (gives Ended d.0)
              (sym rest_long);
          exact = λ none no_stop. absurd (omega (arith, none, room));
        }

    limited : HeldAfter restore h blocks options (octets_of prefix) (text_octets h.image.word h.limit h.fill bits) size
    limited = elim (cases_lt (8 * h.limit) (length bits)) [ inl lt ↦ cut_held lt | inr ge ↦ fitting ge ]

  pub text_held : HeldAfter restore h blocks options (octets_of prefix) (text_octets h.image.word h.limit h.fill bits) size
  text_held = elim fits.limit [
    | inl none ↦ unlimited none
    | inr some ↦ limited (record { octets = fits.image.word.0; some = omega (arith, some.0); whole = some.2 }) some.0
  ]
