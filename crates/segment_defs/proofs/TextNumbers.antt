-- The numbers that a text gives are multiples of their weights, by at most 2 ^ 27 in magnitude.
use Rattle.std.proofs.Common.{◌≡◌, ◌⊎◌, ◌<◌, ◌≤◌, ℕ, zero, suc, ◌+◌, ◌-◌, ◌*◌, ◌^◌, ◌==◌, nat_lt, max, Bool, true, false, if◌then◌else◌, List, [], ◌∷◌}
use Rattle.std.proofs.Common.{length, ap, sym, ◌∙◌, subst, arith, ℤ, pos, negsuc, ◌*ℤ◌, inl, inr, pow_pos, pow_mono}
use Rattle.std.specs.Prelude.{replicate}
use Rattle.std.specs.Int.{int_shr}
use Rattle.std.specs.Int.RustNames.{unsigned_abs}
use Rattle.std.proofs.Math.Nat.{div-eq_of_lt, mul-le-mul_right}
use Rattle.std.proofs.lemmas.Bool.Decides.{nat_tests}
use Rattle.std.proofs.lemmas.Int.{ints}
use Rattle.std.proofs.lemmas.List.{get_or-replicate, get_or-map, length-replicate, length-map}
use lib.ListN.{get_or}
use Rattle.number_defs.specs.Ranges.{IsInRange}
use Rattle.number_defs.specs.DcPart.{dc_q, dc_bits, dc_planes}
use Rattle.number_defs.proofs.Heights.{half}
use Rattle.plane_defs.specs.Sets.{magnitude, shift}
use Rattle.plane_defs.proofs.SpanLists.{length-map-span, get_or-map-span}
use Rattle.segment_defs.specs.declared.head.SegmentHead.{SegmentHead}
use Rattle.segment_defs.specs.Head.{IsHead}
use Rattle.segment_defs.specs.Depths.{dc_of, dcs_of}
use Rattle.segment_defs.specs.SegmentItems.{dc_shift, q_of}
use Rattle.segment_defs.specs.Spellable.{IsSpellable}
use Rattle.base_122.proofs.ShiftLaws.{shift_low}
use Rattle.number_defs.specs.Cuts.{parts_of}
use Rattle.plane_defs.specs.Written.{low_bits}
use Rattle.plane_defs.specs.Cuts.{Reach, reach_of, cut_dc, cut_number, cut_block, cut_blocks}
use Rattle.plane_defs.proofs.NumbersLeft.{shr_more, whole_part, whole_size}
use Rattle.plane_defs.proofs.CutNumbers.{IsTimes, number_times, dc_times, block_at}
use Rattle.segment_defs.specs.Segments.{dc_blocks}
use Rattle.segment_defs.specs.Parts.{AreDeep, IsPart, IsWeighted, AreWeighted}
use Rattle.segment_defs.proofs.SegmentWritten.{first_shift}

-- a multiple of a weight
pub weighted : (s most : ℕ) (z : ℤ) → most ≤ 2 ^ 27 → IsTimes s most z → IsWeighted s z
weighted s most z few t =
    let e = whole_part z s t.part t.is in
    let size = whole_size z s (int_shr z s, e) in
    record { part = int_shr z s; is = e; small = less (2 ^ s) (unsigned_abs (int_shr z s)) (pow_pos s) size t.small }
  where
    less : (k y : ℕ) → 0 < k → unsigned_abs z ≡ k * y → unsigned_abs z ≤ most → y ≤ 2 ^ 27
    less k y some e small = let f : 1 * y ≤ k * y = mul-le-mul_right y some in omega (arith, f, e, small, few)

-- a number of N bits above q bits has at most 28 bits
pub high_few : (depth_dc depth_ac shift : ℕ) → 1 ≤ depth_dc → depth_dc ≤ 28 → shift ≤ 3 →
    dc_bits depth_dc depth_ac shift - 1 + dc_q depth_dc depth_ac shift ≤ 27
high_few depth_dc depth_ac shift low high few = grind (arith, nat_tests)

module _ (head : SegmentHead) (is_head : IsHead head) (values : List (List ℤ)) (depths : List ℕ) (p : IsSpellable head values depths) where
  abbrev W : List ℕ
  W = head.image.weights.shifts

  abbrev N : ℕ
  N = dc_bits head.depth_dc head.depth_ac (dc_shift head)

  abbrev q : ℕ
  q = q_of head

  bits_few : N - 1 + q ≤ 27
  bits_few = high_few head.depth_dc head.depth_ac (dc_shift head) is_head.depth_dc.0 is_head.depth_dc.1 (shift_low W 9 is_head.image.weights)

  -- a DC number has no bits above
  dc_bounded : (r : ℕ) → r < head.blocks → (int_shr (get_or (get_or values r []) 0 (pos 0)) 27 ≡ pos 0) ⊎
      (int_shr (get_or (get_or values r []) 0 (pos 0)) 27 ≡ negsuc 0)
  dc_bounded r lt =
      let dc = get_or (get_or values r []) 0 (pos 0) in
      let in_values : r < length values = (let e = p.blocks_all in omega (arith, lt, e)) in
      let is : get_or (dcs_of values) r (pos 0) ≡ dc = get_or-map dc_of values r [] (pos 0) in_values in
      let fits : IsInRange true N (int_shr dc q) = subst (λ z. IsInRange true N (int_shr z q)) is (p.dcs_fit r (let e = length-map values dc_of in omega
      (arith, in_values, e))) in
      let few = bits_few in
      let parts : 27 ≡ q + (27 - q) = omega (arith, few) in
      let all : int_shr dc 27 ≡ int_shr (int_shr dc q) (27 - q) = ap (int_shr dc) parts ∙ shr_more dc q (27 - q) in
      elim (by (int_shr dc q) fits) [
        | inl e ↦ inl (all ∙ e)
        | inr e ↦ inr (all ∙ e)
      ]
    where
      some : 1 ≤ N
      some = omega arith

      room : 2 ^ (N - 1) ≤ 2 ^ (27 - q)
      room = pow_mono (let f = bits_few in omega (arith, f, some))

      by : (z : ℤ) → IsInRange true N z → (int_shr z (27 - q) ≡ pos 0) ⊎ (int_shr z (27 - q) ≡ negsuc 0)
      by (pos a) x =
          let lt : a < 2 ^ (N - 1) = (let h = x.high in let e = half N some in omega (arith, ints, h, e)) in
          inl (ap pos (div-eq_of_lt (omega (arith, lt, room))))
      by (negsuc a) x =
          let lt : a < 2 ^ (N - 1) = (let l = x.low in omega (arith, ints, l)) in
          inr (ap negsuc (div-eq_of_lt (omega (arith, lt, room))))

  -- a DC number from a place on
  dc_weighted : (r low : ℕ) → r < head.blocks → shift W 0 ≤ low → low ≤ q →
      IsWeighted (shift W 0) (int_shr (get_or (get_or values r []) 0 (pos 0)) low *ℤ pos (2 ^ low))
  dc_weighted r low lt above below =
      weighted (shift W 0) (2 ^ 27) _ (omega arith)
      (dc_times (get_or (get_or values r []) 0 (pos 0)) low (shift W 0) 27 above (let f = bits_few in omega (arith, f, below)) (dc_bounded r lt))

  shift_in : shift W 0 ≤ q
  shift_in = subst (λ s. s ≤ q) (sym (first_shift W)) (below _ (dc_shift head))
    where
      below : (x s : ℕ) → s ≤ max x s
      below x s = omega arith

  zero_weighted : (s : ℕ) → IsWeighted s (pos 0)
  zero_weighted s = weighted s 0 (pos 0) (omega arith) (record { part = 0; is = (let e : 0 ≡ 2 ^ s * 0 = omega arith in e); small = omega arith })

  -- an AC number
  ac_weighted : AreDeep head values → (r i : ℕ) → 1 ≤ i → (z : ℤ) → IsTimes (shift W i) (magnitude (get_or values r []) i) z → IsWeighted (shift W i) z
  ac_weighted deep r i low z t =
      weighted (shift W i) (magnitude (get_or values r []) i) z
      (let lt = deep r i low in let le : 2 ^ head.depth_ac ≤ 2 ^ 27 = pow_mono is_head.depth_ac in omega (arith, lt, le)) t

  -- the values themselves
  value_weighted : AreDeep head values → (r i : ℕ) → r < head.blocks → IsWeighted (shift W i) (get_or (get_or values r []) i (pos 0))
  value_weighted deep r zero lt =
      let m = p.multiples r in
      let e = whole_part (get_or (get_or values r []) 0 (pos 0)) (shift W 0) (m.part 0) (m.whole 0) in
      subst (IsWeighted (shift W 0)) (sym e) (dc_weighted r (shift W 0) lt (omega arith) shift_in)
  value_weighted deep r (suc i) lt =
      let m = p.multiples r in
      ac_weighted deep r (suc i) (omega arith) (get_or (get_or values r []) (suc i) (pos 0))
      (record { part = m.part (suc i); is = m.whole (suc i); small = omega arith })

  cut_weighted : AreDeep head values → (plane : ℕ) (reach : Reach) (r i : ℕ) → r < head.blocks → i < 64 →
      IsWeighted (shift W i) (get_or (cut_block W q (get_or values r []) plane reach) i (pos 0))
  cut_weighted deep plane reach r i lt few =
      subst (IsWeighted (shift W i)) (sym (block_at W q (get_or values r []) plane reach i few)) (by i)
    where
      by : (i : ℕ) → IsWeighted (shift W i) (if i == 0 then cut_dc W q (get_or values r []) plane reach else cut_number (get_or values r []) plane reach i)
      by zero = dc_weighted r (low_bits W q (if reach.dc then plane else plane + 1)) lt (omega arith) (let s = shift_in in omega (arith, s))
      by (suc i) =
          let m = p.multiples r in
          let e : (suc i == 0) ≡ false = grind (arith, nat_tests) in
          subst (λ (x : Bool). IsWeighted (shift W (suc i)) (if x then cut_dc W q (get_or values r []) plane reach else
          cut_number (get_or values r []) plane reach (suc i))) (sym e)
          (ac_weighted deep r (suc i) (omega arith) (cut_number (get_or values r []) plane reach (suc i))
          (number_times (get_or values r []) plane reach (suc i) (shift W (suc i)) (m.part (suc i)) (m.whole (suc i))))

  -- the first parts of a DC
  parts_weighted : (r k : ℕ) → r < head.blocks → k ≤ suc (dc_planes head.depth_dc head.depth_ac (dc_shift head)) →
      IsWeighted (shift W 0) (parts_of q k (get_or (dcs_of values) r (pos 0)))
  parts_weighted r zero lt le = zero_weighted (shift W 0)
  parts_weighted r (suc k) lt le =
      let in_values : r < length values = (let e = p.blocks_all in omega (arith, lt, e)) in
      let is : get_or (dcs_of values) r (pos 0) ≡ get_or (get_or values r []) 0 (pos 0) = get_or-map dc_of values r [] (pos 0) in_values in
      subst (λ z. IsWeighted (shift W 0) (int_shr z (q - k) *ℤ pos (2 ^ (q - k)))) (sym is)
      (dc_weighted r (q - k) lt (subst (λ s. s ≤ q - k) (sym (first_shift W)) (above _ head.depth_ac (dc_shift head) k (omega (arith, le)))) (omega arith))
    where
      above : (x a s k : ℕ) → k ≤ max x s - max a s → s ≤ max x s - k
      above x a s k le = omega (arith, le)

  pub part_weighted : (v : List (List ℤ)) → IsPart head values v → AreWeighted head v
  part_weighted v (inl d) = subst (AreWeighted head) (sym d.is) (record {
    count = length-map-span (λ r. d.dcs r ∷ replicate 63 (pos 0)) head.blocks;
    long = λ r lt. ap length (at r lt) ∙ (let e = length-replicate 63 (pos 0) in omega (arith, e));
    each = λ r i lt few. subst (λ l. IsWeighted (shift W i) (get_or l i (pos 0))) (sym (at r lt)) (by r i lt few);
  })
    where
      at : (r : ℕ) → r < head.blocks → get_or (dc_blocks head.blocks d.dcs) r [] ≡ d.dcs r ∷ replicate 63 (pos 0)
      at r lt = get_or-map-span (λ i. d.dcs i ∷ replicate 63 (pos 0)) head.blocks r [] lt

      spot_parts : (x : Bool) (n m : ℕ) → n ≤ m → (if x then suc n else n) ≤ suc m
      spot_parts true n m le = omega (arith, le)
      spot_parts false n m le = omega (arith, le)

      by : (r i : ℕ) → r < head.blocks → i < 64 → IsWeighted (shift W i) (get_or (d.dcs r ∷ replicate 63 (pos 0)) i (pos 0))
      by r zero lt few =
          subst (IsWeighted (shift W 0)) (sym (d.cut.is r lt))
          (parts_weighted r (if nat_lt r d.cut.spot.blocks then suc d.cut.spot.parts else d.cut.spot.parts) lt
          (spot_parts (nat_lt r d.cut.spot.blocks) d.cut.spot.parts (dc_planes head.depth_dc head.depth_ac (dc_shift head)) d.cut.inside))
      by r (suc i) lt few =
          subst (IsWeighted (shift W (suc i))) (sym (get_or-replicate 63 i (pos 0) (pos 0) (omega (arith, few)))) (zero_weighted (shift W (suc i)))
  part_weighted v (inr (deep, inl e)) = subst (AreWeighted head) (sym e) (record {
    count = p.blocks_all;
    long = λ r lt. p.whole r (let e = p.blocks_all in omega (arith, lt, e));
    each = λ r i lt few. value_weighted deep r i lt;
  })
  part_weighted v (inr (deep, inr c)) = subst (AreWeighted head) (sym c.is) (record {
    count = length-map-span (λ r. cut_block W q (get_or values r []) c.plane (reach_of c.spot r)) (length values) ∙ p.blocks_all;
    long = λ r lt. ap length (at r lt) ∙ length-map-span _ 64;
    each = λ r i lt few. subst (λ l. IsWeighted (shift W i) (get_or l i (pos 0))) (sym (at r lt)) (cut_weighted deep c.plane (reach_of c.spot r) r i lt few);
  })
    where
      at : (r : ℕ) → r < head.blocks → get_or (cut_blocks W q values c.plane c.spot) r [] ≡ cut_block W q (get_or values r []) c.plane (reach_of c.spot r)
      at r lt =
          get_or-map-span (λ i. cut_block W q (get_or values i []) c.plane (reach_of c.spot i)) (length values) r []
          (let e = p.blocks_all in omega (arith, lt, e))
