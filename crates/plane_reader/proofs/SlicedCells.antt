-- Numbers that are turned into masks.
use Rattle.std.proofs.Common.{◌≡◌, inl, inr, ℕ, ◌+◌, ◌-◌, ◌*◌, ◌/◌, ◌%◌, ◌<◌, ◌≤◌, ◌^◌, ◌==◌, true, false, List, ◌++◌, length, get_or, set, take, drop}
use Rattle.std.proofs.Common.{refl, ap, sym, ◌∙◌, subst, arith, ℤ, pos, nat_le, unsigned_abs, length-append, w32, get_or-set_same, get_or-set_other}
use Rattle.std.proofs.Common.{length-set, pow_pos}
use borrow.Rule.Slice.PartMut.{put_mid}
use lib.Seq.{take-add}
use Rattle.std.specs.Int.{cast_signed}
use Rattle.std.proofs.lemmas.Bool.{cases_lt, cases_eq}
use Rattle.std.proofs.lemmas.Bool.Decides.{nat_tests}
use Rattle.std.proofs.lemmas.List.{take_all, ext_get_or, length-take, length-take-le, get_or_past, get_or-take, get_or-drop}
use Rattle.std.proofs.lemmas.Nat.Bits.{bit_at_above}
use Rattle.std.proofs.lemmas.Slice.{take-put_mid, drop-put_mid}
use Rattle.item_defs.specs.Bits.{bit}
use Rattle.wave_defs.specs.Held.{block_at}
use Rattle.plane_defs.specs.Sets.{significant}
use Rattle.block_masks.specs.Slices.{mask_in, minus_slot, above_slot, dc_slot, number_in, numbers_in, PutsMask}
use Rattle.block_masks.specs.MaskedNumbers.{size_in}
use Rattle.block_masks.proofs.SliceNumbers.{ac_number, dc_number, length-numbers_in, number_at}
use Rattle.block_masks.proofs.MaskedNumbers.{size_in-is}
use Rattle.plane_reader.specs.Above.{AreReady, HasNoAcs}
use Rattle.plane_reader.specs.Joined.{AreBelow, HasOnlyDcs}
use Rattle.plane_reader.proofs.CellGroups.{mask_left, mask_right, numbers_append, put_long, drop_then}

-- ---- the DC numbers of a group

pub record Lifts (b : ℕ) (old now dcs : List ℤ) : Type 0 where
  pub long : length now ≡ length old
  pub size : length dcs ≡ 64
  pub if_known : (q : ℕ) → q < b → get_or dcs q (pos 0) ≡ get_or old (64 * q) (pos 0)
  pub gone : (q : ℕ) → q < b → get_or now (64 * q) (pos 0) ≡ pos 0
  pub later : (i : ℕ) → 64 * b ≤ i → get_or now i (pos 0) ≡ get_or old i (pos 0)
  pub others : (i : ℕ) → (i % 64 ≡ 0 → ⊥) → get_or now i (pos 0) ≡ get_or old i (pos 0)

pub lifts_more : {b : ℕ} {old now dcs : List ℤ} → 64 * b < length old → b < 64 → Lifts b old now dcs →
    Lifts (b + 1) old (set now (64 * b) (pos 0)) (set dcs b (get_or now (64 * b) (pos 0)))
lifts_more {b} {old} {now} {dcs} within low l = record {
  long = length-set now (64 * b) (pos 0) ∙ l.long;
  size = length-set dcs b _ ∙ l.size;
  if_known = λ q lt. elim (cases_eq q b) [
    | inl e ↦ subst (λ k. get_or (set dcs b (get_or now (64 * b) (pos 0))) k (pos 0) ≡ get_or old (64 * k) (pos 0)) (sym e) (get_or-set_same dcs b (get_or now
        (64 * b) (pos 0)) (pos 0) (omega (arith, low, l.size)) ∙ l.later (64 * b) (omega arith))
    | inr apart ↦ get_or-set_other dcs b q (get_or now (64 * b) (pos 0)) (pos 0) apart ∙ l.if_known q (omega (arith, lt, apart))
  ];
  gone = λ q lt. elim (cases_eq q b) [
    | inl e ↦ subst (λ k. get_or (set now (64 * b) (pos 0)) (64 * k) (pos 0) ≡ pos 0) (sym e) (get_or-set_same now (64 * b) (pos 0) (pos 0) (omega (
      arith,
      within,
      l.long,
    )))
    | inr apart ↦ get_or-set_other now (64 * b) (64 * q) (pos 0) (pos 0) (λ e. apart (omega (arith, e))) ∙ l.gone q (omega (arith, lt, apart))
  ];
  later = λ i le. get_or-set_other now (64 * b) i (pos 0) (pos 0) (λ e. omega (arith, e, le)) ∙ l.later i (omega (arith, le));
  others = λ i other. get_or-set_other now (64 * b) i (pos 0) (pos 0) (λ e. other (omega (arith, e))) ∙ l.others i other;
}

-- nothing is left of a group without AC numbers
pub none_left : (old now : List ℤ) → length old % 64 ≡ 0 → length now ≡ length old → ((b : ℕ) → 64 * b + 63 < length old →
    get_or now (64 * b) (pos 0) ≡ pos 0) → ((i : ℕ) → (i % 64 ≡ 0 → ⊥) → get_or now i (pos 0) ≡ get_or old i (pos 0)) →
    ((i : ℕ) → (i % 64 ≡ 0 → ⊥) → get_or old i (pos 0) ≡ pos 0) → (i : ℕ) → get_or now i (pos 0) ≡ pos 0
none_left old now whole long gone others no_acs i = elim (cases_lt i (length old)) [
  | inl lt ↦ elim (cases_eq (i % 64) 0) [
    | inl e ↦ let there : i ≡ 64 * (i / 64) = omega (arith, e) in subst (λ k. get_or now k (pos 0) ≡ pos 0) (sym there) (gone (i / 64) (omega (
      arith,
      lt,
      whole,
      there,
    )))
    | inr apart ↦ others i apart ∙ no_acs i apart
  ]
  | inr past ↦ get_or_past now i (pos 0) (omega (arith, past, long))
]

-- ---- empty masks, and masks of DC numbers

pub empty_mask : (cells : List ℤ) (r s : ℕ) → ((i : ℕ) → get_or cells i (pos 0) ≡ pos 0) → mask_in cells r s ≡ 0
unfolding mask_in
empty_mask cells r s empty = rw (empty _, empty _) refl

pub record HasDcs (b : ℕ) (old dcs now : List ℤ) : Type 0 where
  pub long : length now ≡ length old
  pub if_known : (q : ℕ) → q < b → cast_signed w32 (mask_in now q dc_slot % 2 ^ 32) ≡ get_or dcs q (pos 0)
  pub others : (q s : ℕ) → 64 * q < length old → s < 32 → (s ≡ dc_slot → ⊥) → mask_in now q s ≡ 0

pub has_more : {b mask : ℕ} {old dcs now new : List ℤ} → 64 * b < length old → HasDcs b old dcs now → PutsMask b dc_slot mask now new →
    cast_signed w32 (mask % 2 ^ 32) ≡ get_or dcs b (pos 0) → HasDcs (b + 1) old dcs new
has_more {b} {mask} {old} {dcs} {now} {new} within h put is = record {
  long = put.long ∙ h.long;
  if_known = λ q lt. elim (cases_eq q b) [
    | inl e ↦ subst (λ k. cast_signed w32 (mask_in new k dc_slot % 2 ^ 32) ≡ get_or dcs k (pos 0)) (sym e) (ap (λ m. cast_signed w32 (m % 2 ^ 32)) put.here ∙
        is)
    | inr apart ↦ ap (λ m. cast_signed w32 (m % 2 ^ 32)) (put.other_blocks q dc_slot (omega (arith, lt, within, h.long)) (omega arith) apart) ∙
        h.if_known q (omega (arith, lt, apart))
  ];
  others = λ q s there few other. elim (cases_eq q b) [
    | inl e ↦ subst (λ k. mask_in new k s ≡ 0) (sym e) (put.other_slots s few other ∙ h.others b s within few other)
    | inr apart ↦ put.other_blocks q s (omega (arith, there, h.long)) few apart ∙ h.others q s there few other
  ];
}

none_there : (k : ℕ) → bit 0 k ≡ false
none_there k = ap (λ n. n == 1) (bit_at_above 0 0 k (omega arith) (omega arith))

-- an AC number of empty masks
pub only_zero : (cells : List ℤ) (r k : ℕ) → HasOnlyDcs cells → 64 * r < length cells → 1 ≤ k → number_in cells r k ≡ pos 0
only_zero cells r k only known first =
    let size : size_in (mask_in cells r) k ≡ 0 = size_in-is (mask_in cells r) k 0 (omega arith) (λ p lt. ap (λ m. bit m k) (only.others r p known (omega
    (arith, lt)) (λ e. omega (arith, e, lt))) ∙ none_there k ∙ sym (none_there p)) in
    let minus : bit (mask_in cells r minus_slot) k ≡ false = ap (λ m. bit m k) (only.others r minus_slot known (omega arith) (λ e. omega (arith, e))) ∙
    none_there k in
    ac_number cells r k first ∙ rw (minus, size) refl

pub group_numbers : (old now dcs : List ℤ) → length old % 64 ≡ 0 → length now ≡ length old → HasOnlyDcs now → ((b : ℕ) → 64 * b < length now →
    cast_signed w32 (mask_in now b dc_slot % 2 ^ 32) ≡ get_or dcs b (pos 0)) →
    ((b : ℕ) → 64 * b + 63 < length old → get_or dcs b (pos 0) ≡ get_or old (64 * b) (pos 0)) → ((i : ℕ) → (i % 64 ≡ 0 → ⊥) → get_or old i (pos 0) ≡ pos 0) →
    numbers_in now ≡ old
group_numbers old now dcs whole long only if_known was no_acs = ext_get_or (pos 0) (numbers_in now) old (length-numbers_in now ∙ long) (λ i lt.
    let within : i < length now = omega (arith, lt, length-numbers_in now) in
    number_at now i within ∙ elim (cases_eq (i % 64) 0) [
      | inl e ↦
          let there : i ≡ 64 * (i / 64) = omega (arith, e) in
          ap (number_in now (i / 64)) e ∙ dc_number now (i / 64) ∙ if_known (i / 64) (omega (arith, within)) ∙ was (i / 64) (omega (
            arith,
            within,
            whole,
            long,
            there,
          )) ∙ ap (λ k. get_or old k (pos 0)) (sym there)
      | inr apart ↦ only_zero now (i / 64) (i % 64) only (omega (arith, within)) (omega (arith, apart)) ∙ sym (no_acs i apart)
    ])

-- ---- group after group

pub record SlicedTo (e : ℕ) (old now : List ℤ) : Type 0 where
  pub long : length now ≡ length old
  pub prefix : numbers_in (take e now) ≡ take e old
  pub only : HasOnlyDcs (take e now)
  pub rest : drop e now ≡ drop e old

only_both : (a b : List ℤ) → length a % 4096 ≡ 0 → HasOnlyDcs a → HasOnlyDcs b → HasOnlyDcs (a ++ b)
only_both a b groups p q = record {
  others = λ r s known few other. elim (cases_lt (64 * r) (length a)) [
    | inl low ↦ mask_left a b groups r s low few ∙ p.others r s low few other
    | inr high ↦
        let there : r ≡ length a / 64 + (r - length a / 64) = omega (arith, high, groups) in
        ap (λ n. mask_in (a ++ b) n s) there ∙ mask_right a b groups (r - length a / 64) s ∙ q.others (r - length a / 64) s (omega (
          arith,
          high,
          groups,
          known,
          length-append a b,
        )) few other
  ];
}

pub sliced_more : (g n e : ℕ) {old now part : List ℤ} → e ≡ 4096 * g + n → e ≤ length old → length part ≡ n → SlicedTo (4096 * g) old now → numbers_in
    part ≡ take n (drop (4096 * g) now) → HasOnlyDcs part → SlicedTo e old (put_mid (4096 * g) n now part)
sliced_more g n e {old} {now} {part} ends within size s if_known only =
    let inside : 4096 * g ≤ length now = omega (arith, ends, within, s.long) in
    let groups : length (take (4096 * g) now) % 4096 ≡ 0 = omega (arith, length-take-le (4096 * g) now inside) in
    let here : take e (put_mid (4096 * g) n now part) ≡ take (4096 * g) now ++ part = take-put_mid (4096 * g) n now part e (omega (
      arith,
      ends,
      size,
    )) inside in
    record {
      long = put_long g n e now part ends (omega (arith, within, s.long)) size ∙ s.long;
      prefix = ap numbers_in here ∙ numbers_append (take (4096 * g) now) part groups ∙ ap (λ l. l ++ numbers_in part) s.prefix ∙
          ap (λ l. take (4096 * g) old ++ l) (if_known ∙ ap (take n) s.rest) ∙
          sym (take-add (4096 * g) n old) ∙ ap (λ k. take k old) (sym ends);
      only = subst HasOnlyDcs (sym here) (only_both (take (4096 * g) now) part groups s.only only);
      rest = drop-put_mid (4096 * g) n now part e (omega (arith, ends)) inside size ∙ drop_then g n e old now ends s.rest;
    }

-- ---- ready for a plane

pub only_ready : (old cells : List ℤ) → numbers_in cells ≡ old → HasOnlyDcs cells → HasNoAcs old → (plane : ℕ) → AreReady plane cells
unfolding significant
only_ready old cells are only no_acs plane = record {
  signed = λ r p known ac e. absurd (apart (sym e ∙ ap (λ m. bit m p) (only.others r minus_slot known (omega arith) (λ e. omega (arith, e))) ∙ none_there p));
  above = λ r p known ac. ap (λ m. bit m p) (only.others r above_slot known (omega arith) (λ e. omega (arith, e))) ∙ none_there p ∙
      sym (ap (λ b. significant (block_at b r) plane p) are ∙ small r p (no_acs r p (omega (arith, known, ap length are, length-numbers_in cells)) ac));
  empty = λ r slot p known less few ac. ap (λ m. bit m p) (only.others r slot known (omega (arith, few)) (λ e. omega (arith, e, few))) ∙ none_there p;
}
  where
    apart : true ≡ false → ⊥
    apart e = grind (arith, nat_tests)

    no : (n : ℕ) → 0 < n → nat_le n 0 ≡ false
    no n some = grind (arith, nat_tests)

    small : (r p : ℕ) → get_or (block_at old r) p (pos 0) ≡ pos 0 → significant (block_at old r) plane p ≡ false
    small r p e = ap (λ z. nat_le (2 ^ plane) (unsigned_abs z)) e ∙ no (2 ^ plane) (pow_pos plane)

pub only_below : (cells : List ℤ) → HasOnlyDcs cells → (planes : ℕ) → AreBelow planes cells
only_below cells only planes r slot known le few = only.others r slot known (omega (arith, few)) (λ e. omega (arith, e, few))

-- AC numbers by their places
pub flat_acs : (blocks : List ℤ) → length blocks % 64 ≡ 0 → HasNoAcs blocks → (i : ℕ) → (i % 64 ≡ 0 → ⊥) → get_or blocks i (pos 0) ≡ pos 0
flat_acs blocks whole no_acs i apart = elim (cases_lt i (length blocks)) [
  | inl lt ↦
      let there : i ≡ 64 * (i / 64) + i % 64 = omega arith in
      ap (λ k. get_or blocks k (pos 0)) there ∙ sym (get_or-take 64 (drop (64 * (i / 64)) blocks) (i % 64) (pos 0) (omega arith) ∙
      get_or-drop (64 * (i / 64)) blocks (i % 64) (pos 0)) ∙
      no_acs (i / 64) (i % 64) (omega (arith, lt)) (omega (arith, apart), omega arith)
  | inr past ↦ get_or_past blocks i (pos 0) past
]

-- those of a group
pub part_acs : (blocks : List ℤ) (g n : ℕ) → ((i : ℕ) → (i % 64 ≡ 0 → ⊥) → get_or blocks i (pos 0) ≡ pos 0) → (i : ℕ) → (i % 64 ≡ 0 → ⊥) →
    get_or (take n (drop (4096 * g) blocks)) i (pos 0) ≡ pos 0
part_acs blocks g n no_acs i apart = elim (cases_lt i n) [
  | inl lt ↦ get_or-take n (drop (4096 * g) blocks) i (pos 0) lt ∙ get_or-drop (4096 * g) blocks i (pos 0) ∙
      no_acs (4096 * g + i) (λ e. apart (omega (arith, e)))
  | inr past ↦ get_or_past (take n (drop (4096 * g) blocks)) i (pos 0) (omega (arith, past, length-take n (drop (4096 * g) blocks)))
]

pub sliced_none : (blocks : List ℤ) (e : ℕ) → e ≡ 0 → SlicedTo e blocks blocks
unfolding numbers_in
sliced_none blocks e none = subst (λ k. SlicedTo k blocks blocks) (sym none) (record {
  long = refl;
  prefix = refl;
  only = record { others = λ r s known. absurd (omega (arith, known)) };
  rest = refl;
})

pub sliced_all : {e : ℕ} {old now : List ℤ} → length old ≤ e → SlicedTo e old now → (numbers_in now ≡ old) × HasOnlyDcs now
sliced_all {e} {old} {now} all s =
    let here : take e now ≡ now = take_all e now (omega (arith, all, s.long)) in
    (ap numbers_in (sym here) ∙ s.prefix ∙ take_all e old all, subst HasOnlyDcs here s.only)
