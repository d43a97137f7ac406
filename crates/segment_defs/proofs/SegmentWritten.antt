-- The items of a segment follow its script.
use Rattle.std.proofs.Common.{◌≡◌, ◌⊎◌, ◌<◌, ◌≤◌, ℕ, zero, suc, ◌+◌, ◌-◌, ◌*◌, ◌/◌, ◌^◌, ◌==◌, ◌&&◌, nat_lt, nat_le, max, min, Bool, true, false, cond}
use Rattle.std.proofs.Common.{if◌then◌else◌, List, [], ◌∷◌, ◌++◌, length, refl, ap, sym, ◌∙◌, subst, arith, ℤ, pos, ◌*ℤ◌, inl, inr, append-nil, pow_pos}
use Rattle.std.proofs.Common.{pow_mono}
use Rattle.std.specs.Prelude.{replicate, slice_index}
use Rattle.std.specs.List.{flat_map}
use Rattle.std.specs.Int.{int_shr}
use Rattle.std.specs.Int.RustNames.{unsigned_abs}
use Rattle.std.proofs.Math.Nat.{div-eq_of_lt}
use Rattle.std.proofs.lemmas.Bool.{cases_lt}
use Rattle.std.proofs.lemmas.Bool.Decides.{nat_tests}
use Rattle.std.proofs.lemmas.List.{get_or_past, get_or-replicate, get_or-map, length-map, length-replicate, ext_get_or}
use lib.ListN.{get_or}
use Rattle.item_defs.specs.Items.{Item}
use Rattle.item_defs.specs.Readings.{AreItems}
use Rattle.wave_defs.specs.Blocks.{place_of}
use Rattle.number_defs.specs.Depths.{depth_bits, depth_items}
use Rattle.number_defs.specs.DcPart.{dc_planes}
use Rattle.plane_defs.specs.Spans.{span}
use Rattle.plane_defs.specs.Sets.{magnitude, shift, significant}
use Rattle.plane_defs.specs.Entries.{negative}
use Rattle.plane_defs.specs.Reading.{plane_reading}
use Rattle.plane_defs.specs.StepLaws.{IsAc}
use Rattle.plane_defs.proofs.Equations.{span-none, significant-is}
use Rattle.plane_defs.proofs.SpanLists.{length-map-span, get_or-map-span}
use Rattle.segment_defs.specs.declared.head.SegmentHead.{SegmentHead}
use Rattle.segment_defs.specs.Head.{IsHead}
use Rattle.segment_defs.specs.Depths.{dc_of, dcs_of}
use Rattle.segment_defs.specs.SegmentItems.{Options, dc_shift, q_of, stages_sent, plane_at, dc_part_items, nth_plane_items, planes_items, segment_items}
use Rattle.segment_defs.proofs.SentStages.{all_sent}
use Rattle.segment_defs.proofs.Equations.{segment_items-is}
use Rattle.segment_defs.specs.Spellable.{IsSpellable, AreWordOptions}
use Rattle.item_defs.specs.Scripts.{Script, done, then_ask, beside}
use Rattle.item_defs.specs.Following.{Follows}
use Rattle.item_defs.specs.Writing.{Writes}
use Rattle.item_defs.proofs.FollowLaws.{follows_then, follows_around}
use Rattle.number_defs.specs.DepthScript.{depths_script}
use Rattle.number_defs.specs.DcScript.{dc_script}
use Rattle.number_defs.specs.ScriptLaws.{AreCounted, given_part}
use Rattle.number_defs.proofs.DcLaws.{dc_laws}
use Rattle.number_defs.proofs.DepthLaws.{depth_laws}
use Rattle.plane_defs.specs.Written.{planes_reading, Shows, low_bits, ShowsDc, Stops, WrotePlanes}
use Rattle.plane_defs.proofs.Sending.{span-first}
use Rattle.plane_defs.proofs.PlanesSent.{planes_sent, shows_nothing, dc_nothing}
use Rattle.plane_defs.proofs.PlaneGoes.{planes_long}
use Rattle.item_defs.proofs.Completing.{goes_end, are_possible}
use Rattle.segment_defs.specs.TextLaws.{HasAllPlanes}
use Rattle.segment_defs.specs.Segments.{dc_blocks, dc_part_script, planes_part_script, segment_script}
use Rattle.segment_defs.proofs.AsksItems.{AsksAll, asks_then, asks_all, follows_beside, ends_at, items_parts}

nothing : (m k : ℕ) → m < k → m / k * k ≡ 0
nothing m k lt = let e : m / k ≡ 0 = div-eq_of_lt lt in rw e (omega arith)

not_reached : (m k : ℕ) → m < k → nat_le k m ≡ false
not_reached m k lt = grind (arith, nat_tests)

-- the planes from the top are those from the highest down
pub planes_are : (head : SegmentHead) (blocks : List (List ℤ)) (depths : List ℕ) (options : Options) (below n : ℕ) → n + below ≡ head.depth_ac →
    flat_map (nth_plane_items head blocks depths options) (span n below) ≡
    planes_reading options.book options.words blocks depths head.image.weights.shifts (q_of head) (stages_sent head) below
planes_are head blocks depths options zero n e = ap (flat_map (nth_plane_items head blocks depths options)) (span-none n)
planes_are head blocks depths options (suc b) n e =
    let f = nth_plane_items head blocks depths options in
    let here : head.depth_ac - (n + 1) ≡ b = omega (arith, e) in
    let rest = planes_are head blocks depths options b (suc n) (omega (arith, e)) in
    ap (flat_map f) (sym (span-first n b)) ∙
    ap (λ l. f n ++ l) rest ∙
    ap (λ k. plane_reading options.book (options.words k) (plane_at head blocks depths k) (stages_sent head k) ++
    planes_reading options.book options.words blocks depths head.image.weights.shifts (q_of head) (stages_sent head) b) here

-- the DC part leaves out the bits that the planes give
pub first_shift : (weights : List ℕ) → shift weights 0 ≡ slice_index weights 9
unfolding place_of
first_shift weights = refl

pub low_same : (head : SegmentHead) →
    low_bits head.image.weights.shifts (q_of head) head.depth_ac ≡ q_of head - dc_planes head.depth_dc head.depth_ac (dc_shift head)
low_same head = ap (λ s. max (min head.depth_ac (q_of head)) s) (first_shift head.image.weights.shifts) ∙ same _ head.depth_ac (dc_shift head)
  where
    same : (x a s : ℕ) → max (min a (max x s)) s ≡ max x s - (max x s - max a s)
    same x a s = omega arith

-- below a plane of which not all stages are sent, none is
pub stages_stop : (head : SegmentHead) → head.stop.stage < 4 → Stops (stages_sent head)
stages_stop head few b = by (nat_lt head.stop.plane b) refl (b == head.stop.plane) refl
  where
    none : (c : ℕ) → c < head.stop.plane → stages_sent head c ≡ 0
    none c lt =
        let e : nat_lt head.stop.plane c ≡ false = grind (arith, nat_tests) in
        let f : (c == head.stop.plane) ≡ false = grind (arith, nat_tests) in
        rw (e, f) refl

    by : (x : Bool) → nat_lt head.stop.plane b ≡ x → (y : Bool) → (b == head.stop.plane) ≡ y →
        (stages_sent head b ≤ 5) × ((stages_sent head b ≡ 5) ⊎ ((c : ℕ) → c < b → stages_sent head c ≡ 0))
    by true e y f = let g : stages_sent head b ≡ 5 = rw e refl in (omega (arith, g), inl g)
    by false e true f =
        let same : b ≡ head.stop.plane = grind (arith, nat_tests) in
        let g : stages_sent head b ≡ head.stop.stage + 2 = rw (e, f) refl in
        (omega (arith, g, few), inr (λ c lt. none c (omega (arith, lt, same))))
    by false e false f =
        let low : b ≤ head.stop.plane = grind (arith, nat_tests) in
        let ne : b ≡ head.stop.plane → ⊥ = grind (arith, nat_tests) in
        let g : stages_sent head b ≡ 0 = rw (e, f) refl in
        (omega (arith, g), inr (λ c lt. none c (omega (arith, lt, low))))

module _ (head : SegmentHead) (is_head : IsHead head) (blocks : List (List ℤ)) (depths : List ℕ) (options : Options) (p : IsSpellable head blocks depths)
    (known : AreWordOptions options) where
  abbrev pub D : List Item
  D = dc_part_items head blocks options

  abbrev pub E : List Item
  E = depth_items head.depth_ac depths options.depths

  abbrev pub P : List Item
  P = planes_items head blocks depths options head.depth_ac

  pub dcs : (end : ℕ → ℤ) × Follows (dc_script head.depth_dc head.depth_ac (dc_shift head) head.blocks) D end ×
      ((r : ℕ) → r < head.blocks → end r ≡ given_part (q_of head) (dc_planes head.depth_dc head.depth_ac (dc_shift head)) (get_or (dcs_of blocks) r (pos 0)))
  dcs = let w = (dc_laws head.depth_dc head.depth_ac (dc_shift head) head.blocks).written (dcs_of blocks) options.dcs (length-map blocks dc_of ∙
      p.blocks_all) p.dcs_fit in
      (w.0, w.1, w.2)

  -- the blocks after the DC part
  pub first : List (List ℤ)
  first = dc_blocks head.blocks dcs.0

  pub first_is : first ≡ dc_blocks head.blocks dcs.0
  unfolding first
  first_is = refl

  pub dc_follows : Follows (dc_part_script head) D first
  unfolding first
  dc_follows = follows_around (dc_blocks head.blocks) (dc_script head.depth_dc head.depth_ac (dc_shift head) head.blocks) D dcs.0 dcs.1

  counted : AreCounted (2 ^ depth_bits head.depth_ac) head.blocks depths
  counted = record { long = p.depths_all; few = λ i. by i (cases_lt i (length depths)) }
    where
      by : (i : ℕ) → (i < length depths) ⊎ (length depths ≤ i) → slice_index depths i < 2 ^ depth_bits head.depth_ac
      by i (inl lt) = p.depths_few i lt
      by i (inr ge) = let e : slice_index depths i ≡ 0 = get_or_past depths i 0 ge in rw e (pow_pos (depth_bits head.depth_ac))

  pub depths_follow : Follows (beside first (depths_script head.depth_ac head.blocks)) E depths
  depths_follow = follows_beside first (depths_script head.depth_ac head.blocks) E depths
      (depth_laws.written head.depth_ac head.blocks depths options.depths counted)

  -- depths that are not refused
  pub deep : AreItems E → (r : ℕ) → get_or depths r 0 ≤ head.depth_ac
  deep are r = by (cases_lt r head.blocks)
    where
      ends : (length depths ≡ head.blocks) × ((i : ℕ) → i < head.blocks → slice_index depths i ≤ head.depth_ac)
      ends = ends_at (λ d. (length d ≡ head.blocks) × ((i : ℕ) → i < head.blocks → slice_index d i ≤ head.depth_ac)) (depths_script head.depth_ac head.blocks)
          (depth_laws.ends head.depth_ac head.blocks) E depths are (depth_laws.written head.depth_ac head.blocks depths options.depths counted)

      by : (r < head.blocks) ⊎ (head.blocks ≤ r) → get_or depths r 0 ≤ head.depth_ac
      by (inl lt) = ends.1 r lt
      by (inr ge) = let e : get_or depths r 0 ≡ 0 = get_or_past depths r 0 (let l = p.depths_all in omega (arith, l, ge)) in omega (arith, e)

  -- the blocks after the DC part have what is above the planes: the bits of the DC numbers that it gives
  abbrev pub Shown : (block v : List ℤ) → Type 0
  Shown block v = Shows head.depth_ac block v × ShowsDc (low_bits head.image.weights.shifts (q_of head) head.depth_ac) block v

  pub shown : AreItems E → (r : ℕ) → Shown (get_or first r []) (get_or blocks r [])
  unfolding first
  shown are r = by (cases_lt r head.blocks)
    where
      V : List ℤ
      V = get_or blocks r []

      by : (r < head.blocks) ⊎ (head.blocks ≤ r) → Shows head.depth_ac (get_or first r []) V ×
          ShowsDc (low_bits head.image.weights.shifts (q_of head) head.depth_ac) (get_or first r []) V
      by (inl lt) = subst (λ l. Shows head.depth_ac l V × ShowsDc (low_bits head.image.weights.shifts (q_of head) head.depth_ac) l V)
          (sym (get_or-map-span (λ i. dcs.0 i ∷ replicate 63 (pos 0)) head.blocks r [] lt)) ((λ i ac. one i ac), dc)
        where
          dc : dcs.0 r ≡ int_shr (get_or (get_or blocks r []) 0 (pos 0)) (low_bits head.image.weights.shifts (q_of head) head.depth_ac) *ℤ
              pos (2 ^ low_bits head.image.weights.shifts (q_of head) head.depth_ac)
          dc =
              dcs.2 r lt ∙
              (λ t. int_shr (get_or-map dc_of blocks r [] (pos 0) (let e = p.blocks_all in omega (arith, lt, e)) t) (sym (low_same head) t) *ℤ
              pos (2 ^ sym (low_same head) t))

          one : (i : ℕ) → IsAc i → (magnitude (dcs.0 r ∷ replicate 63 (pos 0)) i ≡ magnitude (get_or blocks r []) i / 2 ^ head.depth_ac * 2 ^ head.depth_ac) ×
              (negative (get_or (dcs.0 r ∷ replicate 63 (pos 0)) i (pos 0)) ≡ (significant (get_or blocks r []) head.depth_ac i && negative (get_or
              (get_or blocks r []) i (pos 0))))
          one zero ac = absurd (let a = ac.0 in omega (arith, a))
          one (suc i) ac =
              let none : get_or (replicate 63 (pos 0)) i (pos 0) ≡ pos 0 = get_or-replicate 63 i (pos 0) (pos 0) (let a = ac.1 in omega (arith, a)) in
              let le : 2 ^ get_or depths r 0 ≤ 2 ^ head.depth_ac = pow_mono (deep are r) in
              let small : magnitude (get_or blocks r []) (suc i) < 2 ^ head.depth_ac =
              (let b = p.below r (suc i) (omega arith) in omega (arith, b, le)) in (
                ap unsigned_abs none ∙ sym (nothing (magnitude (get_or blocks r []) (suc i)) (2 ^ head.depth_ac) small),
                ap negative none ∙
                    sym (ap (λ y. y && negative (get_or (get_or blocks r []) (suc i) (pos 0)))
                    (significant-is (get_or blocks r []) head.depth_ac (suc i) ∙ not_reached (magnitude (get_or blocks r []) (suc i))
                    (2 ^ head.depth_ac) small)),
              )
      by (inr ge) =
          let a : get_or first r [] ≡ [] = get_or_past first r [] (let e = length-map-span (λ i. dcs.0 i ∷ replicate 63 (pos 0)) head.blocks in omega
          (arith, e, ge)) in
          let b : get_or blocks r [] ≡ [] = get_or_past blocks r [] (let e = p.blocks_all in omega (arith, e, ge)) in
          let low = low_bits head.image.weights.shifts (q_of head) head.depth_ac in
          subst (λ l. Shows head.depth_ac l (get_or blocks r []) × ShowsDc low l (get_or blocks r [])) (sym a)
          (subst (λ l. Shows head.depth_ac [] l × ShowsDc low [] l) (sym b) (shows_nothing head.depth_ac, dc_nothing low))

  -- what the planes leave, if their items are none that is refused
  pub planes_wrote : AreItems E → Writes (planes_part_script options.book head first depths) P (WrotePlanes blocks (stages_sent head) head.depth_ac)
  unfolding first
  planes_wrote are =
      subst (λ l. Writes (planes_part_script options.book head first depths) l (WrotePlanes blocks (stages_sent head) head.depth_ac))
      (sym (planes_are head blocks depths options head.depth_ac 0 (omega arith)))
      (planes_sent options.book options.words (λ b g. known.at b g) blocks depths head.image.weights.shifts
      (record { long = p.depths_all ∙ sym p.blocks_all; multiples = p.multiples; small = p.below }) (q_of head) (stages_sent head)
      (stages_stop head is_head.stage)
      head.depth_ac first (length-map-span (λ i. dcs.0 i ∷ replicate 63 (pos 0)) head.blocks ∙ sym p.blocks_all) (shown are))

  planes_follow : AreItems E → (w : List (List ℤ)) × Follows (planes_part_script options.book head first depths) P w
  planes_follow are = let w = planes_wrote are in (w.end, w.follows)

  abbrev pub S : Script (List (List ℤ)) (List (List ℤ))
  S = segment_script options.book head

  abbrev pub Rest : Bool → List (List ℤ) → Script (List (List ℤ)) (List (List ℤ))
  Rest x now = if x then done now else then_ask (beside now (depths_script head.depth_ac head.blocks)) (planes_part_script options.book head now)

  -- if none is refused, they follow the whole script
  pub segment_follows : AreItems (segment_items head blocks depths options) → (w : List (List ℤ)) × Follows S (segment_items head blocks depths options) w
  segment_follows are =
      let i = segment_items-is head blocks depths options in
      let w = by head.stop.dc (subst AreItems i are) in
      (w.0, subst (λ l. Follows S l w.0) (sym i) w.1)
    where
      by : (x : Bool) → AreItems (cond x D (D ++ (E ++ P))) → (w : List (List ℤ)) × Follows (then_ask (dc_part_script head) (Rest x)) (cond x D (D ++
          (E ++ P))) w
      by true are = (
        first,
        subst (λ l. Follows (then_ask (dc_part_script head) (Rest true)) l first) (append-nil D)
            (follows_then (Rest true) (dc_part_script head) D [] first first dc_follows refl),
      )
      by false are =
          let parts = items_parts E P (items_parts D (E ++ P) are).1 in
          let w = planes_follow parts.0 in (
            w.0,
            follows_then (Rest false) (dc_part_script head) D (E ++ P) first w.0 dc_follows
                (follows_then (planes_part_script options.book head first) (beside first
                (depths_script head.depth_ac head.blocks)) E P depths w.0 depths_follow w.1),
          )

  -- if all stages are sent, the planes lead to the blocks
  pub first_long : (r : ℕ) → r < head.blocks → length (get_or first r []) ≡ 64
  unfolding first
  first_long r lt = ap length (get_or-map-span (λ i. dcs.0 i ∷ replicate 63 (pos 0)) head.blocks r [] lt) ∙
      (let e = length-replicate 63 (pos 0) in omega (arith, e))

  pub they_are : (w : Writes (planes_part_script options.book head first depths) P (WrotePlanes blocks (stages_sent head) head.depth_ac)) → AreItems P →
      ((b : ℕ) → b < head.depth_ac → stages_sent head b ≡ 5) →
      w.end ≡ blocks
  unfolding first
  they_are w good five =
      let long = goes_end (λ v. (r : ℕ) → r < head.blocks → length (get_or v r []) ≡ 64) (planes_part_script options.book head first depths)
      (planes_long options.book known.sound head.image.weights.shifts (q_of head) depths (stages_sent head) head.depth_ac head.blocks first
      (length-map-span (λ i. dcs.0 i ∷ replicate 63 (pos 0)) head.blocks) first_long) P w.end (are_possible P good) w.follows in
      ext_get_or [] w.end blocks w.is.long (λ r lt.
      let in_head : r < head.blocks = (let a = w.is.long in let b = p.blocks_all in omega (arith, lt, a, b)) in
      let size = long r in_head in
      ext_get_or (pos 0) (get_or w.end r []) (get_or blocks r []) (size ∙ sym (p.whole r (let b = p.blocks_all in omega (arith, in_head, b))))
      (λ k few. w.is.all five r k (omega (arith, few, size))))

  -- if there is no stop, they lead to the blocks
  pub segment_exact : AreItems (segment_items head blocks depths options) → HasAllPlanes head → Follows S (segment_items head blocks depths options) blocks
  unfolding first
  segment_exact are all =
      let i = segment_items-is head blocks depths options in
      let same : cond head.stop.dc D (D ++ (E ++ P)) ≡ D ++ (E ++ P) = ap (λ x. cond x D (D ++ (E ++ P))) all.goes_on in
      let parts = items_parts E P (items_parts D (E ++ P) (subst AreItems (i ∙ same) are)).1 in
      let w = planes_wrote parts.0 in
      subst (λ l. Follows S l blocks) (sym (i ∙ same))
      (subst (λ x. Follows (then_ask (dc_part_script head) (Rest x)) (D ++ (E ++ P)) blocks) (sym all.goes_on)
      (follows_then (Rest false) (dc_part_script head) D (E ++ P) first blocks dc_follows
      (follows_then (planes_part_script options.book head first) (beside first (depths_script head.depth_ac head.blocks)) E P depths blocks depths_follow
      (subst (Follows (planes_part_script options.book head first depths) P) (they_are w parts.1 (λ b low. all_sent head all b)) w.follows))))

  -- each is asked for after those before it, if none of them is refused
  pub segment_asks : AsksAll S (segment_items head blocks depths options)
  segment_asks = subst (λ l. AsksAll S l) (sym (segment_items-is head blocks depths options)) (by head.stop.dc)
    where
      by : (x : Bool) → AsksAll (then_ask (dc_part_script head) (Rest x)) (cond x D (D ++ (E ++ P)))
      by true = subst (λ l. AsksAll (then_ask (dc_part_script head) (Rest true)) l) (append-nil D)
          (asks_then (Rest true) (dc_part_script head) D [] first dc_follows (λ are. asks_all (Rest true first) [] first refl))
      by false =
          asks_then (Rest false) (dc_part_script head) D (E ++ P) first dc_follows (λ good.
          asks_then (planes_part_script options.book head first) (beside first (depths_script head.depth_ac head.blocks)) E P depths depths_follow
          (λ are. let w = planes_follow are in asks_all (planes_part_script options.book head first depths) P w.0 w.1))
