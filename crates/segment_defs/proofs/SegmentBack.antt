-- What is read of a segment, to the end of all planes, is what the blocks at the end write.
use Rattle.std.proofs.Common.{◌≡◌, ℕ, zero, suc, ◌+◌, ◌-◌, ◌*◌, ◌/◌, ◌^◌, ◌≤◌, ◌<◌, max, Bool, true, false, cond, if◌then◌else◌, List, [], ◌∷◌, ◌++◌}
use Rattle.std.proofs.Common.{length, refl, ap, sym, ◌∙◌, subst, arith, ℤ, pos, ◌*ℤ◌, inl, inr, append_assoc, pow_pos}
use Rattle.std.specs.Prelude.{replicate, slice_index_or}
use Rattle.std.specs.Int.{int_shr}
use Rattle.std.specs.Int.RustNames.{unsigned_abs}
use Rattle.std.proofs.lemmas.Bool.{cases_lt}
use Rattle.std.proofs.lemmas.List.{get_or_past, get_or-replicate, get_or-map, length-map, length-replicate}
use lib.ListN.{get_or}
use Rattle.item_defs.specs.Items.{Item}
use Rattle.base_122.specs.declared.book.Book.{Book}
use Rattle.number_defs.specs.Ranges.{IsInRange}
use Rattle.number_defs.specs.Depths.{depth_bits, depth_items}
use Rattle.number_defs.specs.DcPart.{dc_bits, dc_planes}
use Rattle.number_defs.specs.Laws.{DcsFit}
use Rattle.number_defs.proofs.DcRange.{dc_in_range}
use Rattle.plane_defs.specs.Sets.{magnitude, shift}
use Rattle.plane_defs.specs.Codes.{is_book_sound}
use Rattle.plane_defs.specs.Laws.{IsMultiple}
use Rattle.plane_defs.proofs.SpanLists.{length-map-span, get_or-map-span}
use Rattle.segment_defs.specs.declared.head.SegmentHead.{SegmentHead}
use Rattle.segment_defs.specs.Head.{IsHead}
use Rattle.segment_defs.specs.Depths.{dc_of, dcs_of}
use Rattle.segment_defs.specs.SegmentItems.{Options, dc_shift, q_of, stages_sent, dc_part_items, planes_items, segment_items}
use Rattle.segment_defs.proofs.Equations.{segment_items-is}
use Rattle.segment_defs.specs.Spellable.{IsSpellable, AreWordOptions, AreNumberOptions}
use Rattle.item_defs.specs.Scripts.{Script, done, then_ask, beside}
use Rattle.item_defs.specs.Following.{Follows}
use Rattle.item_defs.specs.Completing.{ArePossible, Goes}
use Rattle.item_defs.proofs.Completing.{goes_then, goes_beside, goes_end, goes_weaker, possible_parts}
use Rattle.item_defs.proofs.FollowLaws.{follows_split, around_follows}
use Rattle.item_defs.proofs.ScriptStarts.{Starts, starts_then}
use Rattle.number_defs.specs.DepthScript.{depths_script}
use Rattle.number_defs.specs.DcScript.{dc_script}
use Rattle.number_defs.specs.ScriptLaws.{AreCounted, AreGiven, given_part}
use Rattle.number_defs.proofs.DcLaws.{dc_laws}
use Rattle.number_defs.proofs.DepthLaws.{depth_laws}
use Rattle.item_defs.proofs.TwosComplement.{shr_multiple}
use Rattle.plane_defs.specs.PlaneScript.{planes_script}
use Rattle.plane_defs.specs.Written.{low_bits}
use Rattle.plane_defs.specs.Back.{dc_in, IsBegun, AreBegun, WrittenBack}
use Rattle.plane_defs.proofs.NumbersLeft.{shr_more, whole_lower, whole_size}
use Rattle.plane_defs.proofs.PlaneGoes.{planes_go}
use Rattle.plane_defs.proofs.PlanesBack.{planes_are_back}
use Rattle.plane_defs.proofs.PlanesStart.{planes_start, items_start}
use Rattle.segment_defs.specs.TextLaws.{HasBlocks}
use Rattle.segment_defs.specs.Segments.{dc_blocks, dc_part_script, planes_part_script, segment_script}
use Rattle.segment_defs.proofs.AsksItems.{beside_follows}
use Rattle.segment_defs.proofs.SegmentGoes.{dc_goes}
use Rattle.segment_defs.proofs.SegmentWritten.{low_same, planes_are, stages_stop}

-- ---- a block that has only a DC number

module _ (dc : ℤ) where
  abbrev block : List ℤ
  block = dc ∷ replicate 63 (pos 0)

  nothing_else : (p : ℕ) → 1 ≤ p → magnitude block p ≡ 0
  nothing_else zero low = absurd (omega (arith, low))
  nothing_else (suc p) low = ap unsigned_abs (elim (cases_lt p 63) [
    | inl lt ↦ get_or-replicate 63 p (pos 0) (pos 0) lt
    | inr ge ↦ get_or_past (replicate 63 (pos 0)) p (pos 0) (let e = length-replicate 63 (pos 0) in omega (arith, e, ge))
  ])

  pub dc_begun : (weights : List ℕ) (q below depth : ℕ) → (z : ℤ) × (dc ≡ z *ℤ pos (2 ^ low_bits weights q below)) → IsBegun weights q below depth block
  dc_begun weights q below depth whole = record {
    whole = (let e = length-replicate 63 (pos 0) in omega (arith, e));
    multiples = record { part = λ p. (part p).0; whole = λ p. (part p).1 };
    acs = λ p ac. nothing_else p ac.0 ∙ (let e : 0 ≡ 0 / 2 ^ below * 2 ^ below = grind arith in e) ∙
        ap (λ m. m / 2 ^ below * 2 ^ below) (sym (nothing_else p ac.0));
    small = λ p low. subst (λ m. m < 2 ^ depth) (sym (nothing_else p low)) (pow_pos depth);
    dc = whole;
  }
    where
      part : (p : ℕ) → (k : ℕ) × (magnitude block p ≡ 2 ^ shift weights p * k)
      part zero =
          let v = whole_lower dc (low_bits weights q below) (shift weights 0) (omega arith) whole in (unsigned_abs v.0, whole_size dc (shift weights 0) v)
      part (suc p) = (0, nothing_else (suc p) (omega arith) ∙ (let e : 0 ≡ 2 ^ shift weights (suc p) * 0 = omega arith in e))

-- ---- the segment without a stop

abbrev pub whole_script : Book → SegmentHead → Script (List (List ℤ)) (List (List ℤ))
whole_script book head =
    then_ask (dc_part_script head) (λ blocks.
    then_ask (beside blocks (depths_script head.depth_ac head.blocks))
    (λ depths. planes_script book head.image.weights.shifts (q_of head) depths (λ b. 5) head.depth_ac blocks))

-- blocks, depths and options whose items are the first of these
pub record Spelled (book : Book) (head : SegmentHead) (items : List Item) (blocks : List (List ℤ)) : Type 0 where
  pub depths : List ℕ
  pub options : Options
  pub of_book : options.book ≡ book
  pub spellable : IsSpellable head blocks depths
  pub words : AreWordOptions options
  pub numbers : AreNumberOptions head options
  pub rest : List Item
  pub is : items ≡ segment_items head blocks depths options ++ rest

module _ (book : Book) (is_sound : is_book_sound book ≡ true) (head : SegmentHead) (is_head : IsHead head) where
  pub whole_starts : Starts (segment_script book head) (whole_script book head)
  whole_starts = starts_then _ _ (λ blocks. by blocks head.stop.dc) (dc_part_script head)
    where
      by : (blocks : List (List ℤ)) (t : Bool) →
          Starts (if t then done blocks else then_ask (beside blocks (depths_script head.depth_ac head.blocks)) (planes_part_script book head blocks))
          (then_ask (beside blocks (depths_script head.depth_ac head.blocks))
          (λ depths. planes_script book head.image.weights.shifts (q_of head) depths (λ b. 5) head.depth_ac blocks))
      by blocks true = tt
      by blocks false =
          starts_then _ _ (λ depths. planes_start book head.image.weights.shifts (q_of head) depths (stages_sent head)
          (stages_stop head is_head.stage) head.depth_ac blocks)
          (beside blocks (depths_script head.depth_ac head.blocks))

  pub whole_goes : Goes (whole_script book head) (HasBlocks head)
  whole_goes = goes_then (HasBlocks head) (HasBlocks head) (dc_part_script head) _ (dc_goes book is_sound head) (λ blocks p.
      goes_then (AreCounted (2 ^ depth_bits head.depth_ac) head.blocks) (HasBlocks head) (beside blocks (depths_script head.depth_ac head.blocks)) _
      (goes_beside (AreCounted (2 ^ depth_bits head.depth_ac) head.blocks) blocks (depths_script head.depth_ac head.blocks)
      (depth_laws.goes head.depth_ac head.blocks))
      (λ depths k. goes_weaker (λ w. length w ≡ length blocks) (HasBlocks head) (λ w e. e ∙ p)
      (planes_script book head.image.weights.shifts (q_of head) depths (λ b. 5) head.depth_ac blocks)
      (planes_go book is_sound head.image.weights.shifts (q_of head) depths (λ b. 5) head.depth_ac blocks)))

  -- ---- the parts

  abbrev W : List ℕ
  W = head.image.weights.shifts

  abbrev N : ℕ
  N = dc_bits head.depth_dc head.depth_ac (dc_shift head)

  abbrev q : ℕ
  q = q_of head

  abbrev n : ℕ
  n = dc_planes head.depth_dc head.depth_ac (dc_shift head)

  abbrev count : ℕ
  count = head.blocks

  module _ (dcs : ℕ → ℤ) (given : AreGiven N q n count dcs) (depths : List ℕ) (counted : AreCounted (2 ^ depth_bits head.depth_ac) count depths)
      (items : List Item) (w : List (List ℤ))
      (b : WrittenBack book W q depths head.depth_ac (dc_blocks count dcs) items w) where
    first_at : (r : ℕ) → r < count → get_or (dc_blocks count dcs) r [] ≡ dcs r ∷ replicate 63 (pos 0)
    first_at r lt = get_or-map-span (λ i. dcs i ∷ replicate 63 (pos 0)) count r [] lt

    long : length w ≡ count
    long = b.long ∙ length-map-span (λ i. dcs i ∷ replicate 63 (pos 0)) count

    dc_at : (r : ℕ) → r < count → slice_index_or (dcs_of w) r (pos 0) ≡ dc_in w r
    dc_at r lt = get_or-map dc_of w r [] (pos 0) (omega (arith, lt, long))

    -- the bits of a DC from those that the DC part gives on
    dc_same : (r c : ℕ) → r < count → q - n ≤ c → int_shr (slice_index_or (dcs_of w) r (pos 0)) c ≡ int_shr (dcs r) c
    dc_same r c lt le =
        ap (λ z. int_shr z c) (dc_at r lt) ∙ b.dcs r c (subst (λ k. k ≤ c) (sym (low_same head)) le) ∙
        ap (λ l. int_shr (get_or l 0 (pos 0)) c) (first_at r lt)

    pub parts : (r : ℕ) → r < count → dcs r ≡ given_part q n (slice_index_or (dcs_of w) r (pos 0))
    parts r lt =
        let g = given r lt in
        g.2 ∙ ap (λ z. z *ℤ pos (2 ^ (q - n)))
        (sym (shr_multiple g.0 (q - n)) ∙ ap (λ z. int_shr z (q - n)) (sym g.2) ∙ sym (dc_same r (q - n) lt (omega arith)))

    fits : DcsFit head.depth_dc head.depth_ac (dc_shift head) (dcs_of w)
    fits r lt =
        let in_count : r < count = (let e = length-map w dc_of in omega (arith, lt, e, long)) in
        let g = given r in_count in
        let e : q ≡ (q - n) + n = omega arith in
        let f : max (N + n - n) 1 ≡ N = omega arith in
        let is : int_shr (slice_index_or (dcs_of w) r (pos 0)) q ≡ int_shr g.0 n =
        dc_same r q in_count (omega arith) ∙ ap (λ z. int_shr z q) g.2 ∙ ap (int_shr (g.0 *ℤ pos (2 ^ (q - n)))) e ∙
        shr_more (g.0 *ℤ pos (2 ^ (q - n))) (q - n) n ∙ ap (λ z. int_shr z n) (shr_multiple g.0 (q - n)) in
        subst (λ z. IsInRange true N z) (sym is) (subst (λ k. IsInRange true k (int_shr g.0 n)) f (dc_in_range (N + n) n g.0 (omega arith) g.1))

    in_block : (P : ℕ → List ℤ → Type 0) → ((r : ℕ) → P r []) → ((r : ℕ) → r < length w → P r (get_or w r [])) → (r : ℕ) → P r (get_or w r [])
    in_block P none some r = elim (cases_lt r (length w)) [
      | inl lt ↦ some r lt
      | inr ge ↦ subst (P r) (sym (get_or_past w r [] ge)) (none r)
    ]

    pub are_spellable : IsSpellable head w depths
    are_spellable = record {
      blocks_all = long;
      depths_all = counted.long;
      whole = λ r lt. (b.begun r lt).whole;
      dcs_fit = fits;
      multiples = λ r.
          in_block (λ i l. IsMultiple l W) (λ i. record { part = λ p. 0; whole = λ p. (let e : 0 ≡ 2 ^ shift W p * 0 = omega arith in e) })
          (λ i lt. (b.begun i lt).multiples) r;
      below = λ r p low. in_block (λ i l. magnitude l p < 2 ^ get_or depths i 0) (λ i. pow_pos (get_or depths i 0)) (λ i lt. (b.begun i lt).small p low) r;
      depths_few = λ i lt. counted.few i;
    }

  -- ---- the whole segment

  module _ (items : List Item) (w : List (List ℤ)) (are : ArePossible items) (f : Follows (whole_script book head) items w) where
    pub spelled_back : Spelled book head items w
    spelled_back =
        let s = follows_split _ (dc_part_script head) items w f in
        let p = possible_parts s.first s.rest (subst ArePossible s.both are) in
        let a = around_follows (dc_blocks count) (dc_script head.depth_dc head.depth_ac (dc_shift head) count) s.first s.value s.follows in
        after_dc s.first s.rest s.both p.0 p.1 a.0 a.2
        (subst (λ blocks. Follows (then_ask (beside blocks (depths_script head.depth_ac count))
        (λ depths. planes_script book W q depths (λ b. 5) head.depth_ac blocks)) s.rest w) (sym a.1) s.then)
      where
        after_dc : (first rest : List Item) → items ≡ first ++ rest → ArePossible first → ArePossible rest → (dcs : ℕ → ℤ) →
            Follows (dc_script head.depth_dc head.depth_ac (dc_shift head) count) first dcs →
            Follows (then_ask (beside (dc_blocks count dcs) (depths_script head.depth_ac count))
            (λ depths. planes_script book W q depths (λ b. 5) head.depth_ac (dc_blocks count dcs))) rest w → Spelled book head items w
        after_dc first rest all good fine dcs g h =
            let laws = dc_laws head.depth_dc head.depth_ac (dc_shift head) count in
            let given = goes_end (AreGiven N q n count) (dc_script head.depth_dc head.depth_ac (dc_shift head) count) laws.goes first dcs good g in
            let s = follows_split _ (beside (dc_blocks count dcs) (depths_script head.depth_ac count)) rest w h in
            let p = possible_parts s.first s.rest (subst ArePossible s.both fine) in
            let depths = s.value in
            let k = beside_follows (dc_blocks count dcs) (depths_script head.depth_ac count) s.first depths s.follows in
            let counted = goes_end (AreCounted (2 ^ depth_bits head.depth_ac) count) (depths_script head.depth_ac count)
            (depth_laws.goes head.depth_ac count) s.first depths p.0 k in
            let size = length-map-span (λ i. dcs i ∷ replicate 63 (pos 0)) count in
            let b = planes_are_back book is_sound W q depths head.depth_ac (dc_blocks count dcs) (counted.long ∙ sym size) (begun dcs given depths) s.rest w p.1
            s.then in
            let x = laws.back first dcs good g (dcs_of w) (length-map w dc_of ∙ long dcs given depths counted s.rest w b)
            (parts dcs given depths counted s.rest w b) in
            let y = depth_laws.back head.depth_ac count s.first depths is_head.depth_ac p.0 k in
            let o : Options = record { book = book; dcs = x.0; depths = y.0; words = b.options } in
            let z = items_start book W q depths (stages_sent head) (stages_stop head is_head.stage) b.options w head.depth_ac in
            let D = dc_part_items head w o in
            let E = depth_items head.depth_ac depths y.0 in
            let P = planes_items head w depths o head.depth_ac in
            let tail : s.rest ≡ P ++ z.0 = b.is ∙ z.1 ∙ ap (λ l. l ++ z.0) (sym (planes_are head w depths o head.depth_ac 0 (omega arith))) in
            let u = stopped D E P z.0 head.stop.dc in
            record {
              depths = depths;
              options = o;
              of_book = refl;
              spellable = are_spellable dcs given depths counted s.rest w b;
              words = record { sound = is_sound; at = b.chosen };
              numbers = record { dcs = x.1; depths = λ low. y.1 low };
              rest = u.0;
              is = all ∙ (λ i. x.2 i ++ (s.both ∙ (λ j. y.2 j ++ tail j)) i) ∙ u.1 ∙ ap (λ l. l ++ u.0) (sym (segment_items-is head w depths o));
            }
          where
            begun : (dcs : ℕ → ℤ) → AreGiven N q n count dcs → (depths : List ℕ) → AreBegun W q head.depth_ac depths (dc_blocks count dcs)
            begun dcs given depths r lt =
                let in_count : r < count = (let e = length-map-span (λ i. dcs i ∷ replicate 63 (pos 0)) count in omega (arith, lt, e)) in
                subst (IsBegun W q head.depth_ac (get_or depths r 0)) (sym (get_or-map-span (λ i. dcs i ∷ replicate 63 (pos 0)) count r [] in_count))
                (dc_begun (dcs r) W q head.depth_ac (get_or depths r 0)
                (let g = given r in_count in (g.0, g.2 ∙ ap (λ k. g.0 *ℤ pos (2 ^ k)) (sym (low_same head)))))

            -- the items up to the stop
            stopped : (D E P rest : List Item) (t : Bool) → (more : List Item) × (D ++ (E ++ (P ++ rest)) ≡ cond t D (D ++ (E ++ P)) ++ more)
            stopped D E P rest true = (E ++ (P ++ rest), refl)
            stopped D E P rest false = (
              rest,
              ap (λ l. D ++ l) (sym (append_assoc E P rest)) ∙ sym (append_assoc D (E ++ P) rest),
            )
