-- A text without a limit ends below the bound: a segment's items have fewer than 2 ^ 35 bits.
use Rattle.std.proofs.Common.{◌≡◌, ℕ, ◌+◌, ◌-◌, ◌*◌, ◌^◌, ◌<◌, ◌≤◌, ◌==◌, nat_lt, Bool, true, false, if◌then◌else◌, List, length, subst, arith, ℤ, sym}
use Rattle.base_122.specs.declared.book.Book.{Book}
use Rattle.plane_defs.specs.Codes.{is_book_sound}
use Rattle.segment_defs.specs.declared.head.SegmentHead.{SegmentHead}
use Rattle.segment_defs.specs.Head.{IsHead}
use Rattle.segment_defs.specs.SegmentItems.{dc_shift, q_of, stages_sent}
use Rattle.item_defs.specs.Outcomes.{cut}
use Rattle.item_defs.specs.Scripts.{Script, done, ask, then_ask, beside, run}
use Rattle.item_defs.specs.Completing.{Ends}
use Rattle.number_defs.specs.DcScript.{dc_script}
use Rattle.number_defs.specs.DepthScript.{depths_script}
use Rattle.number_defs.proofs.DepthLaws.{depth_laws}
use Rattle.segment_defs.specs.Segments.{dc_blocks, dc_part_script, planes_part_script, segment_script}
use Rattle.segment_code.proofs.BoundedScripts.{Within, within_more, within_then, within_around, within_beside, within_weaker, cut_few}
use Rattle.segment_code.proofs.BoundedNumbers.{Any, number_most, dc_within, depths_within}
use Rattle.segment_code.proofs.BoundedPlanes.{planes_within}

-- ends that are reached without a refusal
within_ends : {G A : Type 0} (P : A → Type 0) (s : Script G A) (n : ℕ) → Ends s P → Within s Any n → Within s P n
within_ends P (done a) n e p = e
within_ends P (ask g form more) n e p = (p.0, p.1, p.2, λ k said good. within_ends P (more k) (n - p.0) (e k said good) (p.3 k said good))

few_stages : (head : SegmentHead) → head.stop.stage < 4 → (b : ℕ) → stages_sent head b ≤ 5
few_stages head lt b = by (nat_lt head.stop.plane b) (b == head.stop.plane)
  where
    by : (x y : Bool) → (if x then 5 else if y then head.stop.stage + 2 else 0) ≤ 5
    by true y = omega arith
    by false true = omega (arith, lt)
    by false false = omega arith

module _ (book : Book) (is_sound : is_book_sound book ≡ true) (head : SegmentHead) (fits : IsHead head) where
  abbrev B : ℕ
  B = head.blocks

  -- the bits of the planes of these blocks
  abbrev P : ℕ
  P = 27 * (1040 * head.blocks)

  below_planes : (below n : ℕ) → below ≤ 27 → below * n ≤ 27 * n
  below_planes below n le = grind arith

  rest_within : (blocks : List (List ℤ)) (t : Bool) →
      Within (if t then done blocks else then_ask (beside blocks (depths_script head.depth_ac head.blocks)) (planes_part_script book head blocks)) Any
      (number_most head.blocks + 27 * (1040 * head.blocks))
  rest_within blocks true = tt
  rest_within blocks false =
      within_then (λ depths. length depths ≡ head.blocks) Any (beside blocks (depths_script head.depth_ac head.blocks)) (planes_part_script book head blocks)
      (number_most head.blocks) (27 * (1040 * head.blocks))
      (within_beside (λ depths. length depths ≡ head.blocks) blocks (depths_script head.depth_ac head.blocks) (number_most head.blocks)
      (within_weaker _ (λ depths. length depths ≡ head.blocks) (λ depths p. p.0) (depths_script head.depth_ac head.blocks) (number_most head.blocks)
      (within_ends _ (depths_script head.depth_ac head.blocks) (number_most head.blocks) (depth_laws.ends head.depth_ac head.blocks)
      (depths_within head.depth_ac head.blocks fits.depth_ac))))
      (λ depths e. within_more Any (planes_part_script book head blocks depths) (head.depth_ac * (1040 * length depths)) (27 * (1040 * head.blocks))
      (subst (λ n. head.depth_ac * (1040 * n) ≤ 27 * (1040 * head.blocks)) (sym e) (below_planes head.depth_ac (1040 * head.blocks) fits.depth_ac))
      (planes_within book is_sound head.image.weights.shifts (q_of head) depths (stages_sent head) (few_stages head fits.stage) head.depth_ac blocks))

  segment_within : Within (segment_script book head) Any (number_most head.blocks + 31 * head.blocks + (number_most head.blocks + 27 * (1040 * head.blocks)))
  segment_within =
      within_then Any Any (dc_part_script head) _ (number_most head.blocks + 31 * head.blocks) (number_most head.blocks + 27 * (1040 * head.blocks))
      (within_around Any Any (dc_blocks head.blocks) (λ s p. tt) (dc_script head.depth_dc head.depth_ac (dc_shift head) head.blocks)
      (number_most head.blocks + 31 * head.blocks)
      (dc_within head.depth_dc head.depth_ac (dc_shift head) head.blocks fits.depth_dc.1))
      (λ blocks p. rest_within blocks head.stop.dc)

  pub cut_texts_short : (bits : List Bool) (g : List (List ℤ)) → run (segment_script book head) bits ≡ cut g → length bits + 160 < 2 ^ 35
  cut_texts_short bits g e =
      let few = cut_few Any (segment_script book head) _ segment_within bits g e in
      omega (arith, few, fits.blocks.1)
