-- Fields that are written one after another, and read by their places.
use Rattle.std.proofs.Common.{◌≡◌, ℕ, zero, suc, ◌+◌, ◌*◌, ◌%◌, ◌^◌, ◌<◌, ◌≤◌, List, [], ◌∷◌, ◌++◌, length, take, drop, Bool, refl, sym, ap, ◌∙◌, arith}
use Rattle.std.proofs.Common.{append_assoc, length-append, length-drop, flat_map, drop-drop, drop_at, take_at, take-append-drop, length-take-le}
use Rattle.std.proofs.lemmas.List.Concat.{flat_map-cons}
use Rattle.item_defs.specs.Bits.{value_of, bits_of_octets, octets_of}
use Rattle.item_defs.proofs.NumberBits.{length-bits_of, value_of-bits_of}
use Rattle.item_defs.proofs.OctetBits.{octets_append, octets_of-first, length-octets_of, bits_of_octets-octets_of}
use Rattle.segment_defs.specs.Head.{Field, field, field_bits}
use Rattle.segment_defs.specs.Fields.{number_in}

-- the bits of fields
abbrev pub bits_in : List Field → List Bool
bits_in fields = flat_map field_bits fields

abbrev pub width_of : List Field → ℕ
width_of [] = 0
width_of (f ∷ fs) = f.width + width_of fs

-- the place at which the field of this index begins, and the field
abbrev pub start_of : List Field → ℕ → ℕ
start_of [] i = 0
start_of (f ∷ fs) zero = 0
start_of (f ∷ fs) (suc i) = f.width + start_of fs i

abbrev pub field_at : List Field → ℕ → Field
field_at [] i = field 0 0
field_at (f ∷ fs) zero = f
field_at (f ∷ fs) (suc i) = field_at fs i

pub length-bits_in : (fs : List Field) → length (bits_in fs) ≡ width_of fs
length-bits_in [] = refl
length-bits_in (f ∷ fs) =
    let rest = length-bits_in fs in
    ap length (flat_map-cons field_bits f fs) ∙ omega (arith, length-append (field_bits f) (bits_in fs), length-bits_of f.width f.value, rest)

-- a field is read by its place
pub value_at_place : (fs : List Field) (i : ℕ) (more : List Bool) → i < length fs →
    value_of (take (field_at fs i).width (drop (start_of fs i) (bits_in fs ++ more))) ≡ (field_at fs i).value % 2 ^ (field_at fs i).width
value_at_place [] i more lt = absurd (omega arith)
value_at_place (f ∷ fs) zero more lt =
    let prefix : bits_in (f ∷ fs) ++ more ≡ field_bits f ++ (bits_in fs ++ more) = ap (λ r. r ++ more) (flat_map-cons field_bits f fs)
    ∙ append_assoc (field_bits f) (bits_in fs) more in
    ap (λ r. value_of (take f.width r)) prefix ∙ ap value_of (take_at (field_bits f) (bits_in fs ++ more) f.width (length-bits_of f.width f.value))
    ∙ value_of-bits_of f.width f.value
value_at_place (f ∷ fs) (suc i) more lt =
    let prefix : bits_in (f ∷ fs) ++ more ≡ field_bits f ++ (bits_in fs ++ more) = ap (λ r. r ++ more) (flat_map-cons field_bits f fs)
    ∙ append_assoc (field_bits f) (bits_in fs) more in
    let past : drop (f.width + start_of fs i) (field_bits f ++ (bits_in fs ++ more)) ≡ drop (start_of fs i) (bits_in fs ++ more) =
    sym (drop-drop (start_of fs i) f.width (field_bits f ++ (bits_in fs ++ more))) ∙ ap (drop (start_of fs i))
    (drop_at (field_bits f) (bits_in fs ++ more) f.width (length-bits_of f.width f.value)) in
    ap (λ r. value_of (take (field_at fs i).width (drop (f.width + start_of fs i) r))) prefix ∙ ap (λ r. value_of (take (field_at fs i).width r)) past
    ∙ value_at_place fs i more (omega arith)

-- ---- octets of consecutive bits

pub octets_of-append : (n : ℕ) (xs ys : List Bool) → length xs ≡ 8 * n → octets_of (xs ++ ys) ≡ octets_of xs ++ octets_of ys
unfolding octets_of
octets_of-append zero [] ys e = refl
octets_of-append zero (x ∷ xs) ys e = absurd (omega arith)
octets_of-append (suc n) xs ys e =
    let first = take 8 xs in
    let rest = drop 8 xs in
    let whole : first ++ rest ≡ xs = take-append-drop 8 xs in
    let eight : length first ≡ 8 = length-take-le 8 xs (omega (arith, e)) in
    let left : length rest ≡ 8 * n = length-drop 8 xs ∙ omega (arith, e) in
    let here : octets_of xs ≡ value_of first ∷ octets_of rest = ap octets_of (sym whole) ∙ octets_of-first first rest eight in
    ap (λ r. octets_of (r ++ ys)) (sym whole)
    ∙ ap octets_of (append_assoc first rest ys)
    ∙ octets_of-first first (rest ++ ys) eight
    ∙ ap (λ r. value_of first ∷ r) (octets_of-append n rest ys left)
    ∙ ap (λ r. r ++ octets_of ys) (sym here)

-- a number in octets that bits fill
pub number_in-octets_of : (n : ℕ) (bits : List Bool) (start width : ℕ) → length bits ≡ 8 * n → number_in (octets_of bits) start width
    ≡ value_of (take width (drop start bits))
unfolding number_in
number_in-octets_of n bits start width e = ap (λ r. value_of (take width (drop start r))) (bits_of_octets-octets_of bits n e)

-- a number in a prefix of octets
pub number_in-prefix : (n : ℕ) (bits : List Bool) (after : List ℕ) (start width : ℕ) → length bits ≡ 8 * n → number_in (octets_of bits ++ after) start width
    ≡ value_of (take width (drop start (bits ++ bits_of_octets after)))
unfolding number_in
number_in-prefix n bits after start width e = ap (λ r. value_of (take width (drop start r)))
    (octets_append (octets_of bits) after ∙ ap (λ r. r ++ bits_of_octets after) (bits_of_octets-octets_of bits n e))

-- ---- four parts, one after another

module _ (b1 b2 b3 b4 more : List Bool) (n : ℕ) (e1 : length b1 ≡ 8 * n) (e2 : length b2 ≡ 8 * 5) (e3 : length b3 ≡ 8 * 3) (e4 : length b4 ≡ 8 * 8) where
  pub parts_split : octets_of (b1 ++ (b2 ++ (b3 ++ (b4 ++ more)))) ≡ octets_of b1 ++ (octets_of b2 ++ (octets_of b3 ++ (octets_of b4 ++ octets_of more)))
  parts_split =
      octets_of-append n b1 (b2 ++ (b3 ++ (b4 ++ more))) e1
      ∙ ap (λ r. octets_of b1 ++ r) (octets_of-append 5 b2 (b3 ++ (b4 ++ more)) e2
      ∙ ap (λ r. octets_of b2 ++ r) (octets_of-append 3 b3 (b4 ++ more) e3 ∙ ap (λ r. octets_of b3 ++ r) (octets_of-append 8 b4 more e4)))

  count : (bits : List Bool) (k : ℕ) → length bits ≡ 8 * k → length (octets_of bits) ≡ k
  count bits k e = length-octets_of bits ∙ omega (arith, e)

  abbrev after : List ℕ
  after = octets_of b2 ++ (octets_of b3 ++ (octets_of b4 ++ octets_of more))

  pub parts_length : n + 16 ≤ length (octets_of b1 ++ after)
  parts_length =
      omega (
        arith,
        count b1 n e1,
        count b2 5 e2,
        count b3 3 e3,
        count b4 8 e4,
        length-append (octets_of b1) after,
        length-append (octets_of b2) (octets_of b3 ++ (octets_of b4 ++ octets_of more)),
        length-append (octets_of b3) (octets_of b4 ++ octets_of more),
        length-append (octets_of b4) (octets_of more),
      )

  pub after_first : drop n (octets_of b1 ++ after) ≡ after
  after_first = drop_at (octets_of b1) after n (count b1 n e1)

  pub second_part : take 5 after ≡ octets_of b2
  second_part = take_at (octets_of b2) (octets_of b3 ++ (octets_of b4 ++ octets_of more)) 5 (count b2 5 e2)

  pub third_part : take 3 (drop 5 after) ≡ octets_of b3
  third_part =
      ap (take 3) (drop_at (octets_of b2) (octets_of b3 ++ (octets_of b4 ++ octets_of more)) 5 (count b2 5 e2)) ∙ take_at (octets_of b3)
      (octets_of b4 ++ octets_of more) 3 (count b3 3 e3)

  pub fourth_part : take 8 (drop 8 after) ≡ octets_of b4
  fourth_part =
      let past : drop 8 after ≡ octets_of b4 ++ octets_of more =
      sym (drop-drop 3 5 after)
      ∙ ap (drop 3) (drop_at (octets_of b2) (octets_of b3 ++ (octets_of b4 ++ octets_of more)) 5 (count b2 5 e2))
      ∙ drop_at (octets_of b3) (octets_of b4 ++ octets_of more) 3 (count b3 3 e3)
      in
      ap (take 8) past ∙ take_at (octets_of b4) (octets_of more) 8 (count b4 8 e4)
