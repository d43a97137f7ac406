-- The numbers that a plane gives, and the masks for the next one.
use Rattle.std.proofs.Common.{◌≡◌, ℕ, zero, suc, ◌+◌, ◌-◌, ◌*◌, ◌/◌, ◌%◌, ◌^◌, ◌<◌, ◌≤◌, ◌==◌, ◌||◌, not, min, nat_le, Bool, true, false, if◌then◌else◌}
use Rattle.std.proofs.Common.{List, [], length, refl, ap, sym, ◌∙◌, subst, arith, ℤ, pos, negsuc, neg_ℤ, ◌+ℤ◌, unsigned_abs, inl, inr, ◌⊎◌, Option, Some, w32}
use Rattle.std.specs.Int.{cast_signed}
use Rattle.std.proofs.Common.{None, Result, Ok, Err, get_or, pow_pos, pow-add}
use Rattle.std.specs.Prelude.{◌-ℤ◌}
use Rattle.std.proofs.Math.Bool.{or-false}
use Rattle.std.proofs.Math.Nat.{mul-sub}
use Rattle.std.proofs.lemmas.Bool.{cases_lt}
use Rattle.std.proofs.lemmas.Bool.Decides.{nat_tests}
use Rattle.std.proofs.lemmas.Int.{ints}
use Rattle.std.proofs.lemmas.List.{ext_get_or}
use Rattle.std.proofs.lemmas.List.FromFn.{length-map-range_with_len, get_or-map-range_with_len}
use Rattle.std.proofs.lemmas.Nat.{mod_below, div-add-mod'}
use Rattle.item_defs.specs.Bits.{bit, value_of}
use Rattle.wave_defs.specs.Held.{block_at, blocks_in}
use Rattle.wave_defs.proofs.Equations.{blocks_in-is}
use Rattle.plane_defs.specs.Sets.{magnitude, significant}
use Rattle.plane_defs.specs.Entries.{negative}
use Rattle.plane_defs.specs.StepLaws.{IsAc}
use Rattle.plane_defs.proofs.SpanLists.{length-map-span, get_or-map-span}
use Rattle.block_masks.specs.Slices.{mask_in, minus_slot, above_slot, dc_slot, number_in, numbers_in, Settles}
use Rattle.block_masks.specs.MaskedNumbers.{size_in}
use Rattle.block_masks.proofs.SliceNumbers.{ac_number, dc_number, length-numbers_in, same_number, same_numbers, block_number, length-block}
use Rattle.block_masks.proofs.MaskedNumbers.{signed, size_bit, bits_below-same}
use Rattle.block_masks.proofs.Viewing.{reached_is}
use Rattle.bit_pipe.specs.declared.fault.Part.{Part}
use Rattle.bit_pipe.specs.declared.fault.Part.TheVariants.{Whole, Ended}
use Rattle.bit_pipe.proofs.ScriptReading.{around_read}
use Rattle.bit_pipe.specs.declared.fault.TextFault.{TextFault}
use Rattle.bit_pipe.specs.Sources.{SourceOf}
use Rattle.bit_pipe.specs.SourceState.{SourceState}
use Rattle.item_defs.specs.Scripts.{Script, around}
use Rattle.bit_pipe.specs.ScriptSources.{by_part, ReadsAs}
use Rattle.plane_defs.specs.StageScripts.{Terms}
use Rattle.plane_defs.specs.PlaneScript.{PlaneState, nothing_yet, bit_of_plane, number_with, block_with, blocks_with, plane_script}
use Rattle.plane_reader.specs.Above.{AreReady, HasNoneBelow, AwaitDcs}
use Rattle.plane_reader.specs.Joined.{AreBelow}
use Rattle.plane_reader.specs.Blocks.{raw_slot}
use Rattle.plane_reader.specs.Gaggles.{AreAbove, dc_in, HavePlane, HaveDcs, HaveRead, KeepSlots}
use Rattle.plane_reader.specs.Planes.{KeepOthers, KeepPlanes, TakesStages, TakesPlane, Clears, ClearsRaw}
use Rattle.plane_reader.proofs.ClearStates.{families_clear, options_clear}
use Rattle.plane_reader.proofs.HeldGroups.{zero_bit}
use Rattle.plane_reader.proofs.CellNumbers.{below_zero, block_size, size_given, size_kept}
use Rattle.plane_reader.proofs.DcSums.{pow_more}
use Rattle.plane_reader.proofs.ScriptKeeps.{said_kept}
use Rattle.plane_reader.proofs.StageKeeps.{All, IsSigned, plane_signed}

-- ---- the blocks of a list of numbers

pub length-blocks : (xs : List ℤ) → length (blocks_in xs) ≡ length xs / 64
length-blocks xs = ap length (blocks_in-is xs) ∙ length-map-range_with_len (block_at xs) 0 (length xs / 64)

pub block_there : (xs : List ℤ) (r : ℕ) → r < length xs / 64 → get_or (blocks_in xs) r [] ≡ block_at xs r
block_there xs r lt = ap (λ l. get_or l r []) (blocks_in-is xs) ∙ get_or-map-range_with_len (block_at xs) 0 (length xs / 64) r r [] lt (omega arith)

-- ---- small facts

minus_is : (n : ℕ) → pos 0 -ℤ pos n ≡ neg_ℤ (pos n)
minus_is n = omega (arith, ints)

signed_is : (b : Bool) (n : ℕ) → (if b then pos 0 -ℤ pos n else pos n) ≡ signed b n
signed_is true n = minus_is n
signed_is false n = refl

either : (a b : Bool) → (a || b) ≡ true → (a ≡ true) ⊎ (b ≡ true)
either true b e = inl refl
either false b e = inr e

-- ---- a number reaches the plane above this one, whatever its bit of this plane is

reach_same : (p m d rest : ℕ) → 0 < p → d * p + rest ≡ m → rest < p → (d % 2 == 1) ≡ false → nat_le (p + p) (m + p) ≡ nat_le (p + p) m
reach_same p m zero rest some whole low even =
    let a : nat_le (p + p) (m + p) ≡ false = grind (arith, nat_tests) in
    let b : nat_le (p + p) m ≡ false = grind (arith, nat_tests) in
    a ∙ sym b
reach_same p m (suc zero) rest some whole low even = absurd (grind (arith, nat_tests))
reach_same p m (suc (suc d)) rest some whole low even =
    let most : p + p ≤ suc (suc d) * p = grind arith in
    let a : nat_le (p + p) (m + p) ≡ true = grind (arith, nat_tests) in
    let b : nat_le (p + p) m ≡ true = grind (arith, nat_tests) in
    a ∙ sym b

reach_more : (plane n : ℕ) → bit n plane ≡ false → nat_le (2 ^ (plane + 1)) (n + 2 ^ plane) ≡ nat_le (2 ^ (plane + 1)) n
reach_more plane n e =
    ap (λ q. nat_le q (n + 2 ^ plane)) (pow_more plane) ∙ reach_same (2 ^ plane) n (n / 2 ^ plane) (n % 2 ^ plane) (pow_pos plane) (div-add-mod' n
    (2 ^ plane)) (mod_below n (2 ^ plane) (pow_pos plane)) e ∙
    ap (λ q. nat_le q n) (sym (pow_more plane))

-- ---- before a plane

module _ (plane : ℕ) (cells : List ℤ) (low : plane < 27) (whole : length cells % 64 ≡ 0) (ready : AreReady (plane + 1) cells) where
  at_block : (r : ℕ) → 64 * r < length cells → get_or (blocks_in (numbers_in cells)) r [] ≡ block_at (numbers_in cells) r
  at_block r lt = block_there (numbers_in cells) r (omega (arith, lt, whole, length-numbers_in cells))

  -- the sign of an AC number
  sign_is : (r p : ℕ) → 64 * r < length cells → IsAc p → negative (get_or (block_at (numbers_in cells) r) p (pos 0)) ≡ bit (mask_in cells r minus_slot) p
  sign_is r p lt ac =
      ap negative (block_number cells r p whole lt ac.1 ∙ ac_number cells r p ac.0) ∙ below_zero (bit (mask_in cells r minus_slot) p) (size_in (mask_in
      cells r) p) (ready.signed r p lt ac)

  old_minus : (r : ℕ) → 64 * r < length cells → (p : ℕ) → IsAc p → bit (mask_in cells r minus_slot) p ≡ (negative (get_or (get_or (blocks_in (numbers_in
      cells)) r []) p (pos 0)) || false)
  old_minus r lt p ac =
      sym (ap (λ b. negative (get_or b p (pos 0)) || false) (at_block r lt) ∙ ap (λ b. b || false) (sign_is r p lt ac) ∙ or-false (bit (mask_in
      cells r minus_slot) p))

  old_dcs : (r : ℕ) → 64 * r < length cells → dc_in cells r ≡ get_or (get_or (blocks_in (numbers_in cells)) r []) 0 (pos 0) +ℤ pos 0
  old_dcs r lt =
      let number = get_or (get_or (blocks_in (numbers_in cells)) r []) 0 (pos 0) in
      let same : number ≡ dc_in cells r = ap (λ b. get_or b 0 (pos 0)) (at_block r lt) ∙ block_number cells r 0 whole lt (omega arith) ∙ dc_number cells r in
      sym same ∙ sym (plus_none number)
    where
      plus_none : (z : ℤ) → z +ℤ pos 0 ≡ z
      plus_none z = omega (arith, ints)

  -- the masks of raw bits are cleared
  module _ {mid : List ℤ} (cleared : ClearsRaw cells mid) where
    at_first : (r : ℕ) → 64 * r < length mid → 64 * r < length cells
    at_first r lt = subst (λ n. 64 * r < n) cleared.long lt

    pub has_nothing : HavePlane plane mid (blocks_in (numbers_in cells)) nothing_yet
    has_nothing r there =
        let lt = at_first r there in
        record {
          bits = λ p ac. ap (λ m. bit m p) (cleared.slots r plane lt (omega (arith, low)) (λ e. omega (arith, e, low))) ∙ ready.empty r plane p lt (omega
              arith) low ac;
          minus = λ p ac. ap (λ m. bit m p) (cleared.slots r minus_slot lt (omega arith) (λ e. omega (arith, e))) ∙ old_minus r lt p ac;
          raw = λ p few. ap (λ m. bit m p) (cleared.none r lt) ∙ zero_bit p;
        }

    pub dcs_nothing : HaveDcs plane mid (blocks_in (numbers_in cells)) nothing_yet
    dcs_nothing r there =
        let lt = at_first r there in
        ap (λ m. cast_signed w32 (m % 2 ^ 32)) (cleared.slots r dc_slot lt (omega arith) (λ e. omega (arith, e))) ∙ old_dcs r lt

  pub above_now : AreAbove plane cells (blocks_in (numbers_in cells))
  above_now r lt p ac = ready.above r p lt ac ∙ sym (ap (λ b. significant b (plane + 1) p) (at_block r lt))

  -- ---- after its stages

  module _ (new : List ℤ) (keeps : KeepPlanes plane cells new) (now : PlaneState) (has : HavePlane plane new (blocks_in (numbers_in cells)) now) where
    there : (r : ℕ) → 64 * r < length cells → 64 * r < length new
    there r lt = subst (λ n. 64 * r < n) (sym keeps.long) lt

    before : (r : ℕ) → 64 * r < length new → 64 * r < length cells
    before r lt = subst (λ n. 64 * r < n) keeps.long lt

    whole_still : length new % 64 ≡ 0
    whole_still = omega (arith, whole, keeps.long)

    others : (r k : ℕ) → 64 * r < length cells → (p : ℕ) → p < 27 → (p ≡ plane → ⊥) → bit (mask_in new r p) k ≡ bit (mask_in cells r p) k
    others r k lt p few apart = ap (λ m. bit m k) (keeps.slots r p lt (omega (arith, few)) apart (λ e. omega (arith, e, few)) (λ e. omega (arith, e, few))
        (λ e. omega (arith, e, few)))

    weight : Bool → ℕ
    weight b = if b then 2 ^ plane else 0

    -- the magnitude has the bit that was read
    size_now : (r k : ℕ) → 64 * r < length cells → IsAc k → size_in (mask_in new r) k ≡ size_in (mask_in cells r) k + weight ((now.blocks r).bits k)
    unfolding weight
    size_now r k lt ac = by ((now.blocks r).bits k) ((has r (there r lt)).bits k ac)
      where
        empty : bit (mask_in cells r plane) k ≡ false
        empty = ready.empty r plane k lt (omega arith) low ac

        by : (b : Bool) → bit (mask_in new r plane) k ≡ b → size_in (mask_in new r) k ≡ size_in (mask_in cells r) k + weight b
        by true e =
            let none : bit (size_in (mask_in cells r) k) plane ≡ false = size_bit (mask_in cells r) k plane low ∙ empty in
            size_given cells new r plane k low (others r k lt) e ∙ ap (λ b. size_in (mask_in cells r) k + (if not b then 2 ^ plane else 0)) none
        by false e = size_kept cells new r plane k low (others r k lt) (e ∙ sym empty) ∙ omega arith

    -- an AC number
    ac_now : (r k : ℕ) → 64 * r < length cells → IsAc k → number_with plane (block_at (numbers_in cells) r) (now.blocks r) k ≡ number_in new r k
    unfolding weight
    ac_now r k lt ac =
        let block = block_at (numbers_in cells) r in
        let s = now.blocks r in
        let first : 1 ≤ k = ac.0 in
        let apart : (k == 0) ≡ false = grind (arith, nat_tests) in
        let sign : bit (mask_in new r minus_slot) k ≡ (negative (get_or block k (pos 0)) || s.minus k) = (has r (there r lt)).minus k ac ∙
        ap (λ b. negative (get_or b k (pos 0)) || s.minus k) (at_block r lt) in
        let size : magnitude block k + bit_of_plane plane s k ≡ size_in (mask_in new r) k = ap (λ n. n + bit_of_plane plane s k)
        (block_size cells r k whole lt ac) ∙ sym (size_now r k lt ac) in
        let m = magnitude block k + bit_of_plane plane s k in
        ap (λ b. if b then get_or block 0 (pos 0) +ℤ pos (bit_of_plane plane s 0) else if negative (get_or block k
        (pos 0)) || s.minus k then pos 0 -ℤ pos m else pos m) apart ∙
        signed_is (negative (get_or block k (pos 0)) || s.minus k) m ∙ ap (λ b. signed b m) (sym sign) ∙ ap (signed (bit (mask_in new r minus_slot) k)) size ∙
        sym (ac_number new r k ac.0)

    module _ (dcs : HaveDcs plane new (blocks_in (numbers_in cells)) now) where
      number_now : (r k : ℕ) → 64 * r < length cells → k < 64 → number_with plane (block_at (numbers_in cells) r) (now.blocks r) k ≡ number_in new r k
      number_now r zero lt few = ap (λ b. get_or b 0 (pos 0) +ℤ pos (bit_of_plane plane (now.blocks r) 0)) (sym (at_block r lt)) ∙ sym (dcs r (there r lt)) ∙
          sym (dc_number new r)
      number_now r (suc k) lt few = ac_now r (suc k) lt (omega arith, few)

      block_now : (r : ℕ) → 64 * r < length cells → block_with plane (block_at (numbers_in cells) r) (now.blocks r) ≡ block_at (numbers_in new) r
      block_now r lt =
          let long : length (block_with plane (block_at (numbers_in cells) r) (now.blocks r)) ≡ 64 = length-map-span (number_with plane (block_at (numbers_in
          cells) r) (now.blocks r)) 64 in
          ext_get_or (pos 0) (block_with plane (block_at (numbers_in cells) r) (now.blocks r)) (block_at (numbers_in new) r) (long ∙
          sym (length-block new r whole_still (there r lt))) (λ k few.
          let inside : k < 64 = omega (arith, few, long) in
          get_or-map-span (number_with plane (block_at (numbers_in cells) r) (now.blocks r)) 64 k (pos 0) inside ∙ number_now r k lt inside ∙
          sym (block_number new r k whole_still (there r lt) inside))

      pub blocks_now : blocks_with plane (blocks_in (numbers_in cells)) now ≡ blocks_in (numbers_in new)
      blocks_now =
          let old = blocks_in (numbers_in cells) in
          let item : ℕ → List ℤ = λ r. block_with plane (get_or old r []) (now.blocks r) in
          let long : length (blocks_with plane old now) ≡ length old = length-map-span item (length old) in
          let count : length old ≡ length cells / 64 = length-blocks (numbers_in cells) ∙ ap (λ n. n / 64) (length-numbers_in cells) in
          let count_now : length (blocks_in (numbers_in new)) ≡ length cells / 64 = length-blocks (numbers_in new) ∙ ap (λ n. n / 64) (length-numbers_in new ∙
          keeps.long) in
          ext_get_or [] (blocks_with plane old now) (blocks_in (numbers_in new)) (long ∙ count ∙ sym count_now) (λ r lt.
          let inside : r < length old = omega (arith, lt, long) in
          let here : 64 * r < length cells = omega (arith, inside, count) in
          get_or-map-span item (length old) r [] inside ∙ ap (λ b. block_with plane b (now.blocks r)) (at_block r here) ∙ block_now r here ∙
          sym (block_there (numbers_in new) r (omega (arith, here, whole, length-numbers_in new, keeps.long))))

    -- what is significant above stays
    reach_now : (r k : ℕ) → 64 * r < length cells → IsAc k → significant (block_at (numbers_in new) r) (plane + 1) k ≡ significant (block_at (numbers_in
        cells) r) (plane + 1) k
    unfolding significant weight
    reach_now r k lt ac =
        ap (nat_le (2 ^ (plane + 1))) (block_size new r k whole_still (there r lt) ac ∙ size_now r k lt ac) ∙ by ((now.blocks r).bits k) ∙
        sym (ap (nat_le (2 ^ (plane + 1))) (block_size cells r k whole lt ac))
      where
        none : bit (size_in (mask_in cells r) k) plane ≡ false
        none = size_bit (mask_in cells r) k plane low ∙ ready.empty r plane k lt (omega arith) low ac

        by : (b : Bool) → nat_le (2 ^ (plane + 1)) (size_in (mask_in cells r) k + (if b then 2 ^ plane else 0)) ≡ nat_le (2 ^ (plane + 1)) (size_in (mask_in
            cells r) k)
        by true = reach_more plane (size_in (mask_in cells r) k) none
        by false = ap (nat_le (2 ^ (plane + 1))) (omega arith)

    module _ (signs : All (λ r. IsSigned) now) (last : List ℤ) (settles : Settles plane (length new / 64) new last) where
      new_then : (r : ℕ) → 64 * r < length last → 64 * r < length new
      new_then r lt = subst (λ n. 64 * r < n) settles.long lt

      -- the numbers stay as the masks are settled
      pub settled_numbers : numbers_in last ≡ numbers_in new
      settled_numbers = same_numbers last new settles.long (λ r k lt few. same_number last new r r k (λ s small other. settles.other_slots r s
          (new_then r lt) small other))

      kept_slot : (r slot : ℕ) → 64 * r < length last → slot < 29 → mask_in last r slot ≡ mask_in new r slot
      kept_slot r slot lt few = settles.other_slots r slot (new_then r lt) (omega (arith, few)) (λ e. omega (arith, e, few))

      some_size : (r p : ℕ) → 64 * r < length cells → IsAc p → bit (mask_in new r minus_slot) p ≡ true → 0 < size_in (mask_in new r) p
      unfolding weight
      some_size r p lt ac e =
          let block = block_at (numbers_in cells) r in
          let s = now.blocks r in
          let sign : bit (mask_in new r minus_slot) p ≡ (negative (get_or block p (pos 0)) || s.minus p) = (has r (there r lt)).minus p ac ∙
          ap (λ b. negative (get_or b p (pos 0)) || s.minus p) (at_block r lt) in
          elim (either (negative (get_or block p (pos 0))) (s.minus p) (sym sign ∙ e)) [
            | inl was ↦
                let some = ready.signed r p lt ac (sym (sign_is r p lt ac) ∙ was) in
                omega (arith, some, size_now r p lt ac)
            | inr new_sign ↦
                let has_bit = signs r p new_sign in
                let size : size_in (mask_in new r) p ≡ size_in (mask_in cells r) p + 2 ^ plane = size_now r p lt ac ∙ ap (λ b. size_in (mask_in
                cells r) p + (if b then 2 ^ plane else 0)) has_bit in
                omega (arith, size, pow_pos plane)
          ]

      pub ready_next : AreReady plane last
      ready_next = record {
        signed = λ r p lt ac e.
            let here = before r (new_then r lt) in
            let some = some_size r p here ac (sym (ap (λ m. bit m p) (kept_slot r minus_slot lt (omega arith))) ∙ e) in
            let size : size_in (mask_in last r) p ≡ size_in (mask_in new r) p = ap value_of (bits_below-same (mask_in last r) (mask_in
            new r) p 27 (λ s few. ap (λ m. bit m p) (kept_slot r s lt (omega (arith, few))))) in
            omega (arith, some, size);
        above = λ r p lt ac.
            let known = new_then r lt in
            let here = before r known in
            let block = block_at (numbers_in new) r in
            let old_above : bit (mask_in new r above_slot) p ≡ significant block (plane + 1) p =
            ap (λ m. bit m p) (keeps.slots r above_slot here (omega arith) (λ e. omega (arith, e, low)) (λ e. omega (arith, e)) (λ e. omega (arith, e))
            (λ e. omega (arith, e))) ∙
            ready.above r p here ac ∙ sym (reach_now r p here ac) in
            let has_bit : bit (mask_in new r plane) p ≡ bit (magnitude block p) plane = sym (ap (λ n. bit n plane) (block_size new r p whole_still known ac) ∙
            size_bit (mask_in new r) p plane low) in
            settles.bits r p (omega (arith, known, whole_still)) known ac.1 ∙ ap (λ b. b || bit (mask_in new r plane) p) old_above ∙
            ap (λ b. significant block (plane + 1) p || b) has_bit ∙ reached_is block plane p ∙
            ap (λ b. significant (block_at b r) plane p) (sym settled_numbers);
        empty = λ r slot p lt less few ac.
            let here = before r (new_then r lt) in
            ap (λ m. bit m p) (kept_slot r slot lt (omega (arith, few))) ∙ others r p here slot few (λ e. omega (arith, e, less)) ∙
            ready.empty r slot p here (omega (arith, less)) few ac;
      }

-- ---- DC numbers

sum_of : (n m : ℕ) → unsigned_abs (pos n +ℤ pos m) ≡ n + m
sum_of n m = omega (arith, ints)

less_than : (n m : ℕ) → suc n ≤ m → unsigned_abs (negsuc n +ℤ pos m) ≡ m - suc n
less_than n m le = omega (arith, ints, le)

more_than : (n m : ℕ) → m ≤ suc n → unsigned_abs (negsuc n +ℤ pos m) ≡ suc n - m
more_than n m le = omega (arith, ints, le)

sum_multiple : (d x y : ℕ) (z : ℤ) → unsigned_abs z ≡ d * x → (part : ℕ) × (unsigned_abs (z +ℤ pos (d * y)) ≡ d * part)
sum_multiple d x y (pos n) e = (x + y, sum_of n (d * y) ∙ grind arith)
sum_multiple d x y (negsuc n) e = elim (cases_lt (d * y) (suc n)) [
  | inl lt ↦ (x - y, more_than n (d * y) (omega (arith, lt)) ∙ ap (λ m. m - d * y) e ∙ sym (mul-sub d x y))
  | inr ge ↦ (y - x, less_than n (d * y) (omega (arith, ge)) ∙ ap (λ m. d * y - m) e ∙ sym (mul-sub d y x))
]

power_parts : (a b : ℕ) → a ≤ b → 2 ^ b ≡ 2 ^ a * 2 ^ (b - a)
power_parts a b le = let e : b ≡ a + (b - a) = omega (arith, le) in ap (λ n. 2 ^ n) e ∙ pow-add 2 a (b - a)

times_assoc : (a b c : ℕ) → a * b * c ≡ a * (b * c)
times_assoc a b c = omega arith

pub sum_below : (a b plane : ℕ) (z : ℤ) (given : Bool) → a ≤ b → a ≤ plane → HasNoneBelow b z → HasNoneBelow a (z +ℤ pos (if given then 2 ^ plane else 0))
sum_below a b plane z given le low none =
    let x = 2 ^ (b - a) * none.part in
    let is : unsigned_abs z ≡ 2 ^ a * x = none.whole ∙ ap (λ n. n * none.part) (power_parts a b le) ∙ times_assoc (2 ^ a) (2 ^ (b - a)) none.part in
    by given x is
  where
    by : (g : Bool) (x : ℕ) → unsigned_abs z ≡ 2 ^ a * x → HasNoneBelow a (z +ℤ pos (if g then 2 ^ plane else 0))
    by true x is =
        let s = sum_multiple (2 ^ a) x (2 ^ (plane - a)) z is in
        record { part = s.0; whole = ap (λ n. unsigned_abs (z +ℤ pos n)) (power_parts a plane low) ∙ s.1 }
    by false x is =
        let s = sum_multiple (2 ^ a) x 0 z is in
        let zero_is : 0 ≡ 2 ^ a * 0 = omega arith in
        record { part = s.0; whole = ap (λ n. unsigned_abs (z +ℤ pos n)) zero_is ∙ s.1 }

pub await_next : (plane q : ℕ) (old : List (List ℤ)) {new : List (List ℤ)} (now : PlaneState) → AwaitDcs (plane + 1) q old → blocks_with plane old now ≡ new →
    AwaitDcs plane q new
await_next plane q old {new} now await same r lt =
    let item : ℕ → List ℤ = λ r. block_with plane (get_or old r []) (now.blocks r) in
    let inside : r < length old = omega (arith, lt, ap length same, length-map-span item (length old)) in
    let number = get_or (get_or old r []) 0 (pos 0) in
    let here : get_or (get_or new r []) 0 (pos 0) ≡ number +ℤ pos (bit_of_plane plane (now.blocks r) 0) =
    ap (λ l. get_or (get_or l r []) 0 (pos 0)) (sym same) ∙ ap (λ b. get_or b 0 (pos 0)) (get_or-map-span item (length old) r [] inside) ∙
    get_or-map-span (number_with plane (get_or old r []) (now.blocks r)) 64 0 (pos 0) (omega arith) in
    subst (HasNoneBelow (min plane q)) (sym here) (sum_below (min plane q) (min (plane + 1) q) plane number ((now.blocks r).bits 0) (omega arith)
    (omega arith) (await r inside))

-- ---- what was read of a plane

pub signs_read : {I : Type 0} {k : SourceOf I} (t : Terms) (depths : List ℕ) (numbers : List (List ℤ)) (stages : ℕ) (now : PlaneState)
    (result : Result Part TextFault) {x y : SourceState I} → ReadsAs k (plane_script t depths numbers stages) (by_part result now now) x y →
    All (λ r. IsSigned) now
signs_read t depths numbers stages now result read = said_kept (All (λ r. IsSigned)) (plane_script t depths numbers stages)
    (plane_signed t depths numbers stages) read.bits now result read.says

pub part_around : {I S T : Type 0} {k : SourceOf I} (put : S → T) (r : Script S S) (result : Result Part TextFault) (s : S) {x y : SourceState I} →
    ReadsAs k r (by_part result s s) x y → ReadsAs k (around put r) (by_part result (put s) (put s)) x y
part_around put r (Ok Whole) s q = let all : Result (Option (Unit {0})) TextFault = Ok (Some tt) in around_read put r all s q
part_around put r (Ok Ended) s q = let none : Result (Option (Unit {0})) TextFault = Ok None in around_read put r none s q
part_around put r (Err fault) s q = let failed : Result (Option (Unit {0})) TextFault = Err fault in around_read put r failed s q

-- what is significant above the plane below doesn't count in it
pub plane_settled : {I : Type 0} {k : SourceOf I} {plane : ℕ} {numbers : List (List ℤ)} {script : Script PlaneState PlaneState}
    {result : Result Part TextFault} {cells last : List ℤ} {x y : SourceState I} → plane < 27 → (s : TakesStages k plane numbers script result cells x y) →
    blocks_with plane numbers s.now ≡ blocks_in (numbers_in last) → Settles plane (length cells / 64) cells last →
    TakesPlane k plane numbers script result last x y
plane_settled {plane = plane} {cells = cells} {last} low s same_numbers settles =
    let there : (r : ℕ) → 64 * r < length last → 64 * r < length cells = λ r lt. subst (λ n. 64 * r < n) settles.long lt in
    let same : (r slot : ℕ) → 64 * r < length last → slot < 32 → (slot ≡ above_slot → ⊥) → mask_in last r slot ≡ mask_in cells r slot =
    λ r slot lt few apart. settles.other_slots r slot (there r lt) few apart in
    record {
      stages = record {
        now = s.now;
        has = λ r lt.
            let has = s.has r (there r lt) in
            record {
              bits = λ p ac. ap (λ m. bit m p) (same r plane lt (omega (arith, low)) (λ e. omega (arith, e, low))) ∙ has.bits p ac;
              minus = λ p ac. ap (λ m. bit m p) (same r minus_slot lt (omega arith) (λ e. omega (arith, e))) ∙ has.minus p ac;
              raw = λ p few. ap (λ m. bit m p) (same r raw_slot lt (omega arith) (λ e. omega (arith, e))) ∙ has.raw p few;
            };
        dcs = λ r lt. ap (λ m. cast_signed w32 (m % 2 ^ 32)) (same r dc_slot lt (omega arith) (λ e. omega (arith, e))) ∙ s.dcs r (there r lt);
        read = s.read;
      };
      numbers_now = same_numbers;
    }

-- ---- masks that stay

pub planes_others : {plane : ℕ} {old mid new : List ℤ} → ClearsRaw old mid → KeepOthers mid new → KeepPlanes plane old new
planes_others clears keeps = record {
  long = keeps.long ∙ clears.long;
  slots = λ r slot lt few apart no_sign no_dc no_raw. keeps.slots r slot (subst (λ n. 64 * r < n) (sym clears.long) lt) few no_dc no_raw ∙
      clears.slots r slot lt few no_raw;
}

pub planes_slots : {plane : ℕ} {old mid new : List ℤ} → KeepPlanes plane old mid → KeepSlots plane mid new → KeepPlanes plane old new
planes_slots p q = record {
  long = q.long ∙ p.long;
  slots = λ r slot lt few apart no_sign no_dc no_raw. q.slots r slot (subst (λ n. 64 * r < n) (sym p.long) lt) few apart no_sign no_raw ∙
      p.slots r slot lt few apart no_sign no_dc no_raw;
}

pub above_planes : {plane : ℕ} {old new : List ℤ} (numbers : List (List ℤ)) → plane < 27 → KeepPlanes plane old new → AreAbove plane old numbers →
    AreAbove plane new numbers
above_planes {plane} {old} {new} numbers low keeps above r lt p ac =
    let there : 64 * r < length old = subst (λ n. 64 * r < n) keeps.long lt in
    ap (λ m. bit m p) (keeps.slots r above_slot there (omega arith) (λ e. omega (arith, e, low)) (λ e. omega (arith, e)) (λ e. omega (arith, e))
    (λ e. omega (arith, e))) ∙
    above r there p ac

-- ---- a plane begins

pub count_blocks : (cells : List ℤ) → length (blocks_in (numbers_in cells)) ≡ length cells / 64
count_blocks cells = length-blocks (numbers_in cells) ∙ ap (λ n. n / 64) (length-numbers_in cells)

pub begins : (plane : ℕ) (cells : List ℤ) → plane < 27 → length cells % 64 ≡ 0 → AreReady (plane + 1) cells → {old new : List ℤ} → Clears old new →
    {mid : List ℤ} → ClearsRaw cells mid → HaveRead plane mid new (blocks_in (numbers_in cells)) nothing_yet
begins plane cells low whole ready clears cleared = record {
  has = has_nothing plane cells low whole ready cleared;
  dcs = dcs_nothing plane cells low whole ready cleared;
  families = families_clear clears;
  options = options_clear clears;
}

-- planes above the one that was read stay empty
pub below_next : {plane planes : ℕ} {old new last : List ℤ} → plane < 27 → plane < planes → KeepPlanes plane old new →
    Settles plane (length new / 64) new last → AreBelow planes old → AreBelow planes last
below_next {old = old} {new} low over keeps settles below r slot lt le few =
    let mid : 64 * r < length new = subst (λ n. 64 * r < n) settles.long lt in
    let first : 64 * r < length old = subst (λ n. 64 * r < n) keeps.long mid in
    settles.other_slots r slot mid (omega (arith, few)) (λ e. omega (arith, e, few)) ∙ keeps.slots r slot first (omega (arith, few)) (λ e. omega (
      arith,
      e,
      over,
      le,
    )) (λ e. omega (arith, e, few)) (λ e. omega (arith, e, few)) (λ e. omega (arith, e, few)) ∙
    below r slot first le few
