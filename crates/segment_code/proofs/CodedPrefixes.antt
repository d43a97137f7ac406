-- A coded text begins with all its items, or with those before the cut.
use Rattle.std.proofs.Common.{◌≡◌, ℕ, ◌+◌, ◌-◌, ◌*◌, ◌/◌, ◌%◌, ◌<◌, ◌≤◌, inl, inr, Bool, true, false, cond, List, ◌++◌, length, take, drop, refl, ap, sym}
use Rattle.std.proofs.Common.{◌∙◌, subst, arith, ℤ, get_or, length-append, append_assoc, ◌==◌}
use Rattle.std.proofs.lemmas.Bool.{cases_lt, cases_Bool}
use Rattle.std.proofs.lemmas.Bool.Decides.{nat_tests}
use Rattle.std.proofs.lemmas.List.{take_all, length-take, drop_at, take_at, take-append-drop, take-append-le, length-take-le}
use Rattle.std.proofs.Math.Seq.{take-append-add}
use Rattle.item_defs.specs.Bits.{copies, bits_of_octets, octets_of}
use Rattle.item_defs.specs.Items.{Item, text}
use Rattle.item_defs.specs.Readings.{AreItems}
use Rattle.item_defs.specs.Padding.{rounded, padded_length, padding, padded}
use Rattle.item_defs.proofs.BitLists.{length-copies}
use Rattle.item_defs.proofs.OctetBits.{length-octets_of, bits_of_octets-octets_of}
use Rattle.item_defs.proofs.Rounding.{rounded_bounds, rounded_least}
use Rattle.base_122.specs.declared.book.Book.{Book}
use Rattle.segment_defs.specs.declared.head.SegmentHead.{SegmentHead}
use Rattle.segment_defs.specs.Head.{IsHead, head_bits, head_length}
use Rattle.segment_defs.specs.Depths.{block_depths}
use Rattle.segment_defs.specs.Text.{cut}
use Rattle.segment_defs.specs.SegmentItems.{segment_items}
use Rattle.segment_defs.specs.Coded.{chosen_options, coded_bits, coded}
use Rattle.segment_defs.proofs.Equations.{coded-is, text_octets-is}
use Rattle.segment_defs.proofs.WrittenFields.{octets_of-append}
use Rattle.segment_head.proofs.WrittenHeads.{length-head_bits}
use Rattle.segment_defs.specs.Prefixes.{Prefix}
use Rattle.segment_defs.specs.Spellable.{IsSpellable, AreWordOptions, AreNumberOptions}
use Rattle.segment_defs.specs.Outcomes.{IsTaken, bits_read, length_of, expected_length}
use Rattle.segment_defs.proofs.SegmentItems.{segment_are_items}
use Rattle.segment_defs.proofs.Cuts.{cut_prefix, whole_prefix}
use Rattle.segment_code.specs.Coded.{IsUncut}

-- ---- octets and padding

-- the first octets are those of the first bits
take-octets_of : (n : ℕ) (bits : List Bool) → 8 * n ≤ length bits → take n (octets_of bits) ≡ octets_of (take (8 * n) bits)
take-octets_of n bits le =
    let prefix = take (8 * n) bits in
    let long : length prefix ≡ 8 * n = length-take-le (8 * n) bits le in
    let count : length (octets_of prefix) ≡ n = length-octets_of prefix ∙ omega (arith, long) in
    ap (λ r. take n (octets_of r)) (sym (take-append-drop (8 * n) bits)) ∙
    ap (take n) (octets_of-append n prefix (drop (8 * n) bits) long) ∙
    take_at (octets_of prefix) (octets_of (drop (8 * n) bits)) n count

-- a limit of whole words
record IsLimit (word limit : ℕ) : Type 0 where
  octets : 1 ≤ word
  some : 1 ≤ limit
  whole : limit % word ≡ 0

-- what is within the limit is within it after it is padded to whole words
padded_within : (word limit used : ℕ) (fill : Bool) → IsLimit word limit → used ≤ 8 * limit → padded_length word limit fill used ≤ 8 * limit
padded_within word limit used fill l le = grind (arith, nat_tests, rounded_least)

padded_least : (word limit used : ℕ) (fill : Bool) → 1 ≤ word → used ≤ padded_length word limit fill used
padded_least word limit used fill some = grind (arith, nat_tests, rounded_bounds)

length-padded : (word limit : ℕ) (fill : Bool) (bits : List Bool) → 1 ≤ word →
    length (padded word limit fill bits) ≡ padded_length word limit fill (length bits)
length-padded word limit fill bits some = grind (arith, nat_tests, length-append, length-copies, padded_least)

whole_octets : (word limit used : ℕ) (fill : Bool) → padded_length word limit fill used ≡ 8 * (padded_length word limit fill used / 8)
whole_octets word limit used fill = grind (arith, nat_tests)

head_most : (last : Bool) → cond last 20 19 ≤ 20
head_most last = grind (arith, nat_tests)

-- ---- a coded text

abbrev pub coded_items : Book → SegmentHead → List (List ℤ) → List Item
coded_items book h blocks = segment_items h blocks (block_depths blocks) (chosen_options book h blocks)

abbrev pub after_head : Book → SegmentHead → List (List ℤ) → List ℕ
after_head book h blocks = drop (head_length h) (coded book h blocks)

-- the text is taken to the end of its items, or to the cut
pub record CodedPrefix (book : Book) (h : SegmentHead) (blocks : List (List ℤ)) : Type 0 where
  pub count : ℕ
  pub more : List Bool
  pub prefix : Prefix (coded_items book h blocks) count (bits_read h (after_head book h blocks)) more
  pub taken : IsTaken h (after_head book h blocks) (coded_items book h blocks) count more
  pub all : IsUncut book h blocks → count ≡ length (coded_items book h blocks)

module _ (book : Book) (h : SegmentHead) (blocks : List (List ℤ)) (ok : IsHead h) (ten : length h.image.weights.shifts ≡ 10) where
  abbrev items : List Item
  items = coded_items book h blocks

  abbrev rest : List ℕ
  rest = after_head book h blocks

  abbrev bits : List Bool
  bits = coded_bits book h blocks

  abbrev zeros : List Bool
  zeros = copies (padding h.image.word h.limit h.fill (length (coded_bits book h blocks))) false

  -- the bits after the head, before the cut
  abbrev after : List Bool
  after = text items ++ zeros

  abbrev all : ℕ
  all = padded_length h.image.word h.limit h.fill (length (coded_bits book h blocks))

  abbrev n : ℕ
  n = h.limit - head_length h

  used : length bits ≡ 8 * head_length h + length (text items)
  used = omega (arith, length-append (head_bits h) (text items), length-head_bits h ten)

  long : length after + 8 * head_length h ≡ all
  long =
      let p = length-padded h.image.word h.limit h.fill bits ok.image.word.0 in
      omega (arith, p, length-append bits zeros, length-append (text items) zeros, used)

  eights : length after ≡ 8 * (all / 8 - head_length h)
  eights = omega (arith, long, whole_octets h.image.word h.limit (length bits) h.fill)

  parts : octets_of (padded h.image.word h.limit h.fill bits) ≡ octets_of (head_bits h) ++ octets_of after
  parts = ap octets_of (append_assoc (head_bits h) (text items) zeros) ∙ octets_of-append (head_length h) (head_bits h) after (length-head_bits h ten)

  head_octets : length (octets_of (head_bits h)) ≡ head_length h
  head_octets = length-octets_of (head_bits h) ∙ omega (arith, length-head_bits h ten)

  after_bits : bits_of_octets (octets_of after) ≡ after
  after_bits = bits_of_octets-octets_of after (all / 8 - head_length h) eights

  after_octets : length (octets_of after) ≡ all / 8 - head_length h
  after_octets = length-octets_of after ∙ omega (arith, eights)

  coded_is : coded book h blocks ≡ cut h.limit (octets_of (head_bits h) ++ octets_of after)
  coded_is = coded-is book h blocks ∙ text_octets-is h.image.word h.limit h.fill bits ∙ ap (cut h.limit) parts

  -- ---- no limit

  rest_unlimited : (h.limit == 0) ≡ true → rest ≡ octets_of after
  rest_unlimited none =
      let both = octets_of (head_bits h) ++ octets_of after in
      ap (drop (head_length h)) (coded_is ∙ ap (λ b. cond b both (take h.limit both)) none) ∙
      drop_at (octets_of (head_bits h)) (octets_of after) (head_length h) head_octets

  -- ---- a limit

  rest_limited : (h.limit == 0) ≡ false → head_length h ≤ h.limit → rest ≡ take n (octets_of after)
  rest_limited some room =
      let both = octets_of (head_bits h) ++ octets_of after in
      let whole : h.limit ≡ length (octets_of (head_bits h)) + n = omega (arith, head_octets, room) in
      ap (drop (head_length h)) (coded_is ∙ ap (λ b. cond b both (take h.limit both)) some ∙ ap (λ k. take k both) whole ∙
      take-append-add (octets_of (head_bits h)) (octets_of after) n) ∙
      drop_at (octets_of (head_bits h)) (take n (octets_of after)) (head_length h) head_octets

  -- the bits of the first octets
  first_bits : (k : ℕ) → bits_of_octets (take k (octets_of after)) ≡ take (8 * k) after
  first_bits k = elim (cases_lt (length after) (8 * k)) [
    | inl short ↦
        ap bits_of_octets (take_all k (octets_of after) (omega (arith, after_octets, eights, short))) ∙ after_bits ∙
        sym (take_all (8 * k) after (omega (arith, short)))
    | inr room ↦
        ap bits_of_octets (take-octets_of k after room) ∙ bits_of_octets-octets_of (take (8 * k) after) k (length-take-le (8 * k) after room)
  ]

  first_count : (k : ℕ) → k ≤ all / 8 - head_length h → length (take k (octets_of after)) ≡ k
  first_count k le = length-take-le k (octets_of after) (omega (arith, after_octets, le))

  twice : (k : ℕ) → take k (take k (octets_of after)) ≡ take k (octets_of after)
  twice k = take_all k (take k (octets_of after)) (omega (arith, length-take k (octets_of after)))

  -- ---- the items are read

  module _ (are : AreItems items) where
    unlimited : h.limit ≡ 0 → CodedPrefix book h blocks
    unlimited none =
        let there : (h.limit == 0) ≡ true = grind (arith, nat_tests) in
        let is = rest_unlimited there in
        let read : bits_read h rest ≡ after = ap (λ b. bits_of_octets (cond b rest (take n rest))) there ∙ ap bits_of_octets is ∙ after_bits in
        let plain : h.fill ≡ false = elim (cases_Bool h.fill) [ inl filled ↦ absurd (ok.fill filled none) | inr plain ↦ plain ] in
        let count : length rest ≡ all / 8 - head_length h = ap length is ∙ after_octets in
        let total : length_of h rest ≡ rounded (8 * h.image.word) (8 * head_length h + length (text items)) / 8 =
        omega (arith, count, long, ap (λ f. padded_length h.image.word h.limit f (length bits)) plain, ap (rounded (8 * h.image.word)) used) in
        record {
          count = length items;
          more = zeros;
          prefix = subst (λ b. Prefix items (length items) b zeros) (sym read) (whole_prefix items zeros are);
          taken = inl (
            refl,
            total ∙ sym (ap (λ f. cond f h.limit (rounded (8 * h.image.word) (8 * head_length h + length (text items)) / 8)) plain),
          );
          all = λ uncut. refl;
        }

    expected : all ≤ 8 * h.limit → rounded (8 * h.image.word) (length bits) ≡ rounded (8 * h.image.word) (8 * head_length h + length (text items)) →
        all / 8 ≡ expected_length h items
    expected within same = by_fill h.fill within
      where
        by_fill : (f : Bool) → padded_length h.image.word h.limit f (length bits) ≤ 8 * h.limit →
            padded_length h.image.word h.limit f (length bits) / 8 ≡
            cond f h.limit (rounded (8 * h.image.word) (8 * head_length h + length (text items)) / 8)
        by_fill true le = omega (arith, le)
        by_fill false le = omega (arith, same)

    limited : IsLimit h.image.word h.limit → 32 ≤ h.limit → CodedPrefix book h blocks
    limited l room =
        let there : (h.limit == 0) ≡ false = grind (arith, nat_tests) in
        let fits : head_length h ≤ h.limit = omega (arith, head_most h.last) in
        let is : rest ≡ take n (octets_of after) = rest_limited there fits in
        let read : bits_read h rest ≡ take (8 * n) after =
        ap (λ b. bits_of_octets (cond b rest (take n rest))) there ∙ ap (λ r. bits_of_octets (take n r)) is ∙ ap bits_of_octets (twice n) ∙ first_bits n in
        let least = padded_least h.image.word h.limit (length bits) h.fill ok.image.word.0 in
        elim (cases_lt (8 * n) (length (text items))) [
          | inl short ↦
              let shorter : take (8 * n) after ≡ take (8 * n) (text items) = take-append-le (8 * n) (text items) zeros (omega (arith, short)) in
              let c = cut_prefix items are (8 * n) short in
              let count : length rest ≡ n = ap length is ∙ first_count n (omega (arith, least, used, short, fits, long)) in
              record {
                count = c.count;
                more = c.more;
                prefix = subst (λ b. Prefix items c.count b c.more) (sym (read ∙ shorter)) c.prefix;
                taken = inr (c.ends, record { limited = λ e. absurd (omega (arith, e, room)); full = omega (arith, count, fits) });
                all = λ uncut. absurd (elim uncut [
                  | inl none ↦ omega (arith, none, room)
                  | inr within ↦ omega (arith, within, used, short, fits)
                ]);
              }
          | inr whole ↦
              let k = 8 * n - length (text items) in
              let more : take (8 * n) after ≡ text items ++ take k zeros =
              (let e : 8 * n ≡ length (text items) + k = omega arith in ap (λ j. take j after) e) ∙ take-append-add (text items) zeros k in
              let within = padded_within h.image.word h.limit (length bits) h.fill l (omega (arith, used, whole, fits)) in
              let short : all / 8 - head_length h ≤ n = omega (arith, within) in
              let count : length rest ≡ all / 8 - head_length h =
              ap length (is ∙ take_all n (octets_of after) (omega (arith, after_octets, short))) ∙ after_octets in
              record {
                count = length items;
                more = take k zeros;
                prefix = subst (λ b. Prefix items (length items) b (take k zeros)) (sym (read ∙ more)) (whole_prefix items (take k zeros) are);
                taken = inl (refl, omega (arith, count, long) ∙ expected within (ap (rounded (8 * h.image.word)) used));
                all = λ uncut. refl;
              }
        ]

    by_limit : CodedPrefix book h blocks
    by_limit = elim ok.limit [
      | inl none ↦ unlimited none
      | inr some ↦ limited (record { octets = ok.image.word.0; some = omega (arith, some.0); whole = some.2 }) some.0
    ]

  pub coded_prefix : IsSpellable h blocks (block_depths blocks) → AreWordOptions (chosen_options book h blocks) →
      AreNumberOptions h (chosen_options book h blocks) →
      ((r : ℕ) → r < length (block_depths blocks) → get_or (block_depths blocks) r 0 ≤ h.depth_ac) → CodedPrefix book h blocks
  coded_prefix spellable words numbers low =
      by_limit (segment_are_items h blocks (block_depths blocks) (chosen_options book h blocks) ok spellable words numbers low)
