-- How many bits the numbers of a segment have at most.
use Rattle.std.proofs.Common.{◌≡◌, ℕ, zero, suc, ◌+◌, ◌-◌, ◌*◌, ◌^◌, ◌<◌, ◌≤◌, ◌==◌, ◌||◌, Bool, true, false, if◌then◌else◌, List, [], ◌∷◌, ◌++◌, arith, ℤ}
use Rattle.std.proofs.Common.{pow_mono}
use Rattle.std.specs.Prelude.{min, slice_index, replicate, pos, neg_ℤ, ◌+ℤ◌, ◌*ℤ◌}
use Rattle.std.proofs.lemmas.Bool.Decides.{nat_tests}
use Rattle.number_defs.specs.Gaggles.{Kind, identifier_bits, uncoded, first_place, gaggle_count, uncoded_form, unary_form, rest_form}
use Rattle.number_defs.specs.DcPart.{dc_q, dc_bits, dc_kind, dc_planes}
use Rattle.number_defs.specs.Depths.{depth_kind}
use Rattle.number_defs.proofs.DcBits.{few_bits}
use Rattle.segment_defs.proofs.SegmentItems.{depth_bits_few}
use Rattle.item_defs.specs.Scripts.{done, ask, then_ask, in_turn, around, bit_form}
use Rattle.number_defs.specs.NumberScript.{option_script, zeros_script, last_of, number_script, differences_script, lead_script, gaggle_script, numbers_script}
use Rattle.number_defs.specs.DcScript.{with_dc, dc_bits_script, dcs_of_heights, high_script, dc_planes_script, dc_script}
use Rattle.number_defs.specs.DepthScript.{raw_depths_script, depths_script}
use Rattle.segment_code.proofs.BoundedScripts.{IsShort, short_fixed, short_zeros, Within, within_more, within_then, within_in_turn, within_around}

abbrev pub Any : {A : Type 0} → A → Type 0
Any a = Unit {0}

small_power : (k : ℕ) → k ≤ 10 → 2 ^ k ≤ 1024
small_power k le = let q : 2 ^ k ≤ 2 ^ 10 = pow_mono le in omega (arith, q)

few_identifier : (N : ℕ) → identifier_bits N ≤ 4
few_identifier N = grind (arith, nat_tests)

module _ (kind : Kind) (few : kind.bits ≤ 10) where
  option_within : {G : Type 0} (given : G) → Within (option_script given kind.bits) (λ option. option < 16) 4
  option_within given = (
    identifier_bits kind.bits,
    few_identifier kind.bits,
    short_fixed (identifier_bits kind.bits) (identifier_bits kind.bits) (omega arith),
    λ m said good.
        let i = few_identifier kind.bits in
        let q : 2 ^ identifier_bits kind.bits ≤ 2 ^ 4 = pow_mono i in
        omega (arith, said, q),
  )

  lead_within : (g : ℕ) (heights : List ℕ) → Within (lead_script kind g heights) Any 10
  lead_within zero heights = (kind.bits, few, short_fixed kind.bits kind.bits (omega arith), λ m said good. tt)
  lead_within (suc g) heights = tt

  zeros_within : {G : Type 0} (given : G) (k n : ℕ) (zeros : List ℕ) → Within (zeros_script given kind.bits k n zeros) Any (n * 1024)
  zeros_within given k zero zeros = tt
  zeros_within given k (suc n) zeros =
      let small = small_power (kind.bits - k) (omega (arith, few)) in (
        1024,
        omega (arith, times n),
        short_zeros (2 ^ (kind.bits - k)) 1024 small,
        λ z said good. within_more Any (zeros_script given kind.bits k n (zeros ++ z ∷ [])) (n * 1024) (suc n * 1024 - 1024) (omega (arith, times n))
            (zeros_within given k n (zeros ++ z ∷ [])),
      )
    where
      times : (n : ℕ) → suc n * 1024 ≡ 1024 + n * 1024
      times n = omega arith

  number_within : (option zeros : ℕ) → option < 16 → (heights : List ℕ) → Within (number_script kind option zeros heights) Any 1024
  number_within option zeros low heights = (1024, omega arith, short (option == uncoded kind.bits) (option == 0), λ said is good. tt)
    where
      short : (t u : Bool) → IsShort (if t then uncoded_form kind (last_of heights) else if u then unary_form kind 0
          (last_of heights) else rest_form kind option (last_of heights) zeros).shape 1024
      short true u = short_fixed kind.bits 1024 (omega (arith, few))
      short false true = short_zeros (2 ^ (kind.bits - 0)) 1024 (small_power (kind.bits - 0) (omega (arith, few)))
      short false false = short_fixed option 1024 (omega (arith, low))

  differences_within : (option count : ℕ) → option < 16 → (heights : List ℕ) → Within (differences_script kind option count heights) Any
      (count * 1024 + count * 1024)
  differences_within option count low heights = by ((option == 0) || (option == uncoded kind.bits))
    where
      by : (t : Bool) → Within (if t then in_turn (λ i. number_script kind option 0) 0 count heights
          else then_ask (zeros_script heights kind.bits option count [])
          (λ zeros. in_turn (λ i. number_script kind option (slice_index zeros i)) 0 count heights)) Any (count * 1024 + count * 1024)
      by true =
          within_more Any (in_turn (λ i. number_script kind option 0) 0 count heights) (count * 1024) (count * 1024 + count * 1024) (omega arith)
          (within_in_turn Any (λ i. number_script kind option 0) 1024 (λ i s p. number_within option 0 low s) 0 count heights tt)
      by false =
          within_then Any Any (zeros_script heights kind.bits option count [])
          (λ zeros. in_turn (λ i. number_script kind option (slice_index zeros i)) 0 count heights) (count * 1024) (count * 1024)
          (zeros_within heights option count [])
          (λ zeros p. within_in_turn Any (λ i. number_script kind option (slice_index zeros i)) 1024
          (λ i s q. number_within option (slice_index zeros i) low s) 0 count heights tt)

  gaggle_within : (count g : ℕ) (heights : List ℕ) → Within (gaggle_script kind count g heights) Any 32782
  gaggle_within count g heights =
      let n : ℕ = min count (16 * g + 16) - first_place g in
      let most : n ≤ 16 = omega arith in
      within_more Any (gaggle_script kind count g heights) (4 + (10 + (n * 1024 + n * 1024))) 32782 (omega (arith, most))
      (within_then (λ option. option < 16) Any (option_script heights kind.bits)
      (λ option. then_ask (lead_script kind g heights) (differences_script kind option n)) 4 (10 + (n * 1024 + n * 1024))
      (option_within heights)
      (λ option low. within_then Any Any (lead_script kind g heights) (differences_script kind option n) 10 (n * 1024 + n * 1024) (lead_within g heights)
      (λ h p. differences_within option n low h)))

  pub numbers_within : (count : ℕ) → Within (numbers_script kind count) Any (gaggle_count count * 32782)
  numbers_within count = within_in_turn Any (gaggle_script kind count) 32782 (λ g s p. gaggle_within count g s) 0 (gaggle_count count) [] tt

-- ---- raw bits

dc_bits_within : (weight : ℤ) (count : ℕ) (dcs : ℕ → ℤ) → Within (dc_bits_script weight count dcs) Any (count * 1)
dc_bits_within weight count dcs = within_in_turn Any (λ r dcs. ask dcs bit_form (λ b. done (with_dc dcs r (dcs r +ℤ (pos b *ℤ weight))))) 1
    (λ r s p. (1, omega arith, short_fixed 1 1 (omega arith), λ b said good. tt)) 0 count dcs tt

-- numbers of this number of blocks
abbrev pub number_most : ℕ → ℕ
number_most count = gaggle_count count * 32782 + count

times_most : (n count : ℕ) → n ≤ 31 → n * (count * 1) ≤ 31 * count
times_most n count le = grind arith

few_planes : (depth_dc depth_ac shift : ℕ) → depth_dc ≤ 28 → dc_planes depth_dc depth_ac shift ≤ 31
few_planes depth_dc depth_ac shift le = grind (arith, nat_tests)

module _ (depth_dc depth_ac shift count : ℕ) where
  high_within : Within (high_script (dc_bits depth_dc depth_ac shift) (dc_q depth_dc depth_ac shift) count) Any (number_most count)
  high_within = by (dc_bits depth_dc depth_ac shift == 1)
    where
      q : ℕ
      q = dc_q depth_dc depth_ac shift

      by : (t : Bool) → Within (if t then dc_bits_script (neg_ℤ (pos (2 ^ dc_q depth_dc depth_ac shift))) count (λ r. pos 0)
          else around (dcs_of_heights (dc_bits depth_dc depth_ac shift) (dc_q depth_dc depth_ac shift))
          (numbers_script (dc_kind (dc_bits depth_dc depth_ac shift)) count)) Any (number_most count)
      by true =
          within_more Any (dc_bits_script (neg_ℤ (pos (2 ^ dc_q depth_dc depth_ac shift))) count (λ r. pos 0)) (count * 1) (number_most count) (omega arith)
          (dc_bits_within (neg_ℤ (pos (2 ^ dc_q depth_dc depth_ac shift))) count (λ r. pos 0))
      by false =
          let numbers = numbers_script (dc_kind (dc_bits depth_dc depth_ac shift)) count in
          let put = dcs_of_heights (dc_bits depth_dc depth_ac shift) (dc_q depth_dc depth_ac shift) in
          within_more Any (around put numbers) (gaggle_count count * 32782) (number_most count) (omega arith)
          (within_around Any Any put (λ s p. tt) numbers (gaggle_count count * 32782)
          (numbers_within (dc_kind (dc_bits depth_dc depth_ac shift)) (few_bits depth_dc depth_ac shift) count))

  pub dc_within : depth_dc ≤ 28 → Within (dc_script depth_dc depth_ac shift count) Any (number_most count + 31 * count)
  dc_within low =
      let q = dc_q depth_dc depth_ac shift in
      let n = dc_planes depth_dc depth_ac shift in
      within_then Any Any (high_script (dc_bits depth_dc depth_ac shift) q count) (dc_planes_script q count n) (number_most count) (31 * count) high_within
      (λ dcs p. within_more Any (dc_planes_script q count n dcs) (n * (count * 1)) (31 * count) (times_most n count (few_planes depth_dc depth_ac shift low))
      (within_in_turn Any (λ i. dc_bits_script (pos (2 ^ (q - suc i))) count) (count * 1) (λ i s r. dc_bits_within (pos (2 ^ (q - suc i))) count s) 0 n dcs tt))

pub depths_within : (depth_ac count : ℕ) → depth_ac ≤ 27 → Within (depths_script depth_ac count) Any (number_most count)
depths_within depth_ac count low = by (depth_ac == 0) (depth_ac == 1)
  where
    by : (t u : Bool) → Within (if t then done (replicate count 0) else if u then raw_depths_script count else numbers_script
        (depth_kind depth_ac) count) Any (number_most count)
    by true u = tt
    by false true =
        within_more Any (raw_depths_script count) (count * 1) (number_most count) (omega arith)
        (within_in_turn Any (λ r depths. ask depths bit_form (λ b. done (depths ++ b ∷ []))) 1
        (λ r s p. (1, omega arith, short_fixed 1 1 (omega arith), λ b said good. tt)) 0 count [] tt)
    by false false =
        within_more Any (numbers_script (depth_kind depth_ac) count) (gaggle_count count * 32782) (number_most count) (omega arith)
        (numbers_within (depth_kind depth_ac) (depth_bits_few depth_ac low) count)
