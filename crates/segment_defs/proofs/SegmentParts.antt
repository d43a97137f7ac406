-- What the items of a segment give of its values, at their end and at each question.
use Rattle.std.proofs.Common.{◌≡◌, ◌⊎◌, ◌+◌, ◌^◌, ◌<◌, ◌≤◌, ℕ, zero, suc, nat_lt, nat_le, ◌==◌, ◌||◌, Bool, true, false, cond, if◌then◌else◌, List, [], ◌∷◌}
use Rattle.std.proofs.Common.{◌++◌, length, take, refl, ap, sym, ◌∙◌, subst, arith, ℤ, pos, pow_mono, inl, inr, append-nil}
use Rattle.std.specs.Prelude.{replicate}
use Rattle.std.proofs.lemmas.Bool.Decides.{nat_tests}
use Rattle.std.proofs.lemmas.List.{length-map}
use lib.ListN.{get_or}
use Rattle.item_defs.specs.Items.{Item}
use Rattle.item_defs.specs.Readings.{AreItems}
use Rattle.number_defs.specs.DcPart.{dc_planes}
use Rattle.plane_defs.proofs.SpanLists.{length-map-span}
use Rattle.segment_defs.specs.declared.head.SegmentHead.{SegmentHead}
use Rattle.segment_defs.specs.Head.{IsHead}
use Rattle.segment_defs.specs.Depths.{dc_of, dcs_of}
use Rattle.segment_defs.specs.SegmentItems.{Options, dc_shift, q_of, stages_sent, segment_items}
use Rattle.segment_defs.proofs.Equations.{segment_items-is}
use Rattle.segment_defs.specs.Spellable.{IsSpellable, AreWordOptions}
use Rattle.item_defs.specs.Scripts.{Script, done, ask, then_ask, beside}
use Rattle.item_defs.specs.Following.{Follows}
use Rattle.item_defs.proofs.FollowLaws.{follows_then}
use Rattle.item_defs.proofs.ScriptGives.{gives_around, GivesAfter, IsFirst, after_weaker, after_of, after_beside}
use Rattle.number_defs.specs.ScriptLaws.{given_part}
use Rattle.number_defs.specs.Cuts.{parts_of, AreDcsCut}
use Rattle.number_defs.specs.DepthScript.{depths_script}
use Rattle.number_defs.specs.DcScript.{dc_script}
use Rattle.number_defs.proofs.DcCuts.{dc_gives}
use Rattle.plane_defs.specs.Written.{planes_reading}
use Rattle.plane_defs.specs.Cuts.{after_all, cut_blocks, CutAfter}
use Rattle.plane_defs.proofs.CutBlocks.{map_same}
use Rattle.plane_defs.proofs.CutPlanes.{planes_give}
use Rattle.plane_defs.proofs.CutEnds.{silent_end, planes_stop, planes_end}
use Rattle.segment_defs.specs.Segments.{dc_blocks, dc_part_script, planes_part_script, segment_script}
use Rattle.segment_defs.specs.Parts.{HasDcs, AreDeep, HasPlanes, IsPart, stopped}
use Rattle.segment_defs.proofs.AsksItems.{items_parts}
use Rattle.segment_defs.proofs.SegmentWritten as written
use Rattle.segment_defs.proofs.SegmentWritten.{stages_stop, planes_are}

-- ---- what is given along the first items, if none of them is refused

abbrev pub GivesAll : {G A : Type 0} → Script G A → List Item → (List Item → G → Type 0) → Type 0
GivesAll s items Q = (m : ℕ) → m ≤ length items → AreItems (take m items) → GivesAfter s (take m items) Q

gives_all : {G A : Type 0} (Q : List Item → G → Type 0) (s : Script G A) (items : List Item) → GivesAfter s items Q → GivesAll s items Q
gives_all Q (done a) items p m le are = tt
gives_all Q (ask g form more) [] p zero le are = p
gives_all Q (ask g form more) [] p (suc m) le are = p
gives_all Q (ask g form more) (i ∷ is) p zero le are = p.0
gives_all Q (ask g form more) (i ∷ is) p (suc m) le are = (p.0, gives_all (λ l. Q (i ∷ l)) (more i.said) is p.1 m (omega (arith, le)) are.1)

gives_all_then : {G A B : Type 0} (Q : List Item → G → Type 0) (s : Script G A) (next : A → Script G B) (xs ys : List Item) (a : A) → Follows s xs a →
    GivesAfter s xs Q → (AreItems xs → GivesAll (next a) ys (λ l. Q (xs ++ l))) → GivesAll (then_ask s next) (xs ++ ys) Q
gives_all_then Q (done c) next [] ys a f p more m le are = subst (λ x. GivesAfter (next x) (take m ys) Q) (sym f) (more tt m le are)
gives_all_then Q (done c) next (x ∷ xs) ys a f p more m le are = absurd f
gives_all_then Q (ask g form now) next [] ys a f p more m le are = absurd f
gives_all_then Q (ask g form now) next (x ∷ xs) ys a f p more zero le are = p.0
gives_all_then Q (ask g form now) next (x ∷ xs) ys a f p more (suc m) le are =
    (p.0, gives_all_then (λ l. Q (x ∷ l)) (now x.said) next xs ys a f.1 p.1 (λ all. more (are.0, all)) m (omega (arith, le)) are.1)

module _ (head : SegmentHead) (is_head : IsHead head) (blocks : List (List ℤ)) (depths : List ℕ) (options : Options) (p : IsSpellable head blocks depths)
    (known : AreWordOptions options) where
  abbrev Part : List (List ℤ) → Type 0
  Part = IsPart head blocks

  abbrev D : List Item
  D = written.D head is_head blocks depths options p known

  abbrev E : List Item
  E = written.E head is_head blocks depths options p known

  abbrev P : List Item
  P = written.P head is_head blocks depths options p known

  abbrev first : List (List ℤ)
  first = written.first head is_head blocks depths options p known

  abbrev S : Script (List (List ℤ)) (List (List ℤ))
  S = segment_script options.book head

  abbrev Rest : Bool → List (List ℤ) → Script (List (List ℤ)) (List (List ℤ))
  Rest x now = if x then done now else then_ask (beside now (depths_script head.depth_ac head.blocks)) (planes_part_script options.book head now)

  -- the DC part
  abbrev planes : ℕ
  planes = dc_planes head.depth_dc head.depth_ac (dc_shift head)

  first_dcs : HasDcs head blocks first
  first_dcs =
      let w = written.dcs head is_head blocks depths options p known in
      record {
        dcs = w.0;
        cut = record {
          spot = record { parts = planes; blocks = head.blocks };
          inside = omega arith;
          is = λ r lt. w.2 r lt ∙ all r lt (get_or (dcs_of blocks) r (pos 0));
        };
        is = written.first_is head is_head blocks depths options p known;
      }
    where
      all : (r : ℕ) → r < head.blocks → (z : ℤ) →
          given_part (q_of head) planes z ≡ parts_of (q_of head) (if nat_lt r head.blocks then suc planes else planes) z
      all r lt z = let e : nat_lt r head.blocks ≡ true = grind (arith, nat_tests) in
          ap (λ (x : Bool). parts_of (q_of head) (if x then suc planes else planes) z) (sym e)

  -- what is given after these items
  abbrev There : List Item → List (List ℤ) → Type 0
  There l g = HasDcs head blocks g ⊎ (AreDeep head blocks × HasPlanes head blocks depths options l g)

  pub there_part : (l : List Item) (g : List (List ℤ)) → There l g → Part g
  there_part l g (inl d) = inl d
  there_part l g (inr z) = inr (z.0, inr z.1.after.cut)

  dcs_give : GivesAfter (dc_part_script head) D There
  dcs_give =
      after_weaker (λ l g. IsFirst l D × HasDcs head blocks g) There (λ l g z. inl z.1) (dc_part_script head) D
      (after_of (HasDcs head blocks) (dc_part_script head) D
      (gives_around (AreDcsCut (q_of head) planes head.blocks (dcs_of blocks)) (HasDcs head blocks) (dc_blocks head.blocks)
      (λ d z. record { dcs = d; cut = z; is = refl })
      (dc_script head.depth_dc head.depth_ac (dc_shift head) head.blocks) D
      (dc_gives head.depth_dc head.depth_ac (dc_shift head) head.blocks (dcs_of blocks) options.dcs (length-map blocks dc_of ∙ p.blocks_all) p.dcs_fit)))

  -- the planes
  size : length first ≡ length blocks
  size =
      ap length (written.first_is head is_head blocks depths options p known) ∙
      length-map-span (λ i. (written.dcs head is_head blocks depths options p known).0 i ∷ replicate 63 (pos 0)) head.blocks ∙ sym p.blocks_all

  all_deep : AreItems E → AreDeep head blocks
  all_deep are r k low =
      let le : 2 ^ get_or depths r 0 ≤ 2 ^ head.depth_ac = pow_mono (written.deep head is_head blocks depths options p known are r) in
      let lt = p.below r k low in
      omega (arith, lt, le)

  planes_part_give : AreItems E → GivesAfter (planes_part_script options.book head first depths) P (λ l. There (D ++ (E ++ l)))
  planes_part_give are =
      let cut = CutAfter options.book options.words blocks depths head.image.weights.shifts (q_of head) (stages_sent head) head.depth_ac in
      after_weaker cut (λ l. There (D ++ (E ++ l))) (λ l g z. inr (all_deep are, record { planes = l; after = z; is = refl }))
      (planes_part_script options.book head first depths) P
      (subst (λ l. GivesAfter (planes_part_script options.book head first depths) l cut)
      (sym (planes_are head blocks depths options head.depth_ac 0 (omega arith)))
      (planes_give options.book options.words (λ b g. known.at b g) blocks depths head.image.weights.shifts
      (record { long = p.depths_all ∙ sym p.blocks_all; multiples = p.multiples; small = p.below }) (q_of head) (stages_sent head)
      (stages_stop head is_head.stage) head.depth_ac first size (written.shown head is_head blocks depths options p known are)))

  -- ---- the whole segment

  -- at each question
  pub segment_gives : GivesAll S (segment_items head blocks depths options) There
  segment_gives = subst (λ l. GivesAll S l There) (sym (segment_items-is head blocks depths options)) (by head.stop.dc)
    where
      by : (x : Bool) → GivesAll (then_ask (dc_part_script head) (Rest x)) (cond x D (D ++ (E ++ P))) There
      by true = subst (λ l. GivesAll (then_ask (dc_part_script head) (Rest true)) l There) (append-nil D)
          (gives_all_then There (dc_part_script head) (Rest true) D [] first (written.dc_follows head is_head blocks depths options p known) dcs_give
          (λ are m le all. tt))
      by false =
          gives_all_then There (dc_part_script head) (Rest false) D (E ++ P) first (written.dc_follows head is_head blocks depths options p known) dcs_give
          (λ good.
          gives_all_then (λ l. There (D ++ l)) (beside first (depths_script head.depth_ac head.blocks)) (planes_part_script options.book head first) E P depths
          (written.depths_follow head is_head blocks depths options p known)
          (after_weaker (λ l. HasDcs head blocks) (λ l. There (D ++ l)) (λ l g z. inl z) (beside first (depths_script head.depth_ac head.blocks)) E
          (after_beside (HasDcs head blocks) first first_dcs (depths_script head.depth_ac head.blocks) E))
          (λ are. gives_all (λ l. There (D ++ (E ++ l))) (planes_part_script options.book head first depths) P (planes_part_give are)))

  -- at the end
  pub segment_part : AreItems (segment_items head blocks depths options) → (w : List (List ℤ)) × Follows S (segment_items head blocks depths options) w × Part w
  segment_part are =
      let i = segment_items-is head blocks depths options in
      let w = by head.stop.dc (subst AreItems i are) in
      (w.0, subst (λ l. Follows S l w.0) (sym i) w.1, w.2)
    where
      by : (x : Bool) → AreItems (cond x D (D ++ (E ++ P))) →
          (w : List (List ℤ)) × Follows (then_ask (dc_part_script head) (Rest x)) (cond x D (D ++ (E ++ P))) w × Part w
      by true are = (
        first,
        subst (λ l. Follows (then_ask (dc_part_script head) (Rest true)) l first) (append-nil D)
            (follows_then (Rest true) (dc_part_script head) D [] first first (written.dc_follows head is_head blocks depths options p known) refl),
        inl first_dcs,
      )
      by false are =
          let good = items_parts E P (items_parts D (E ++ P) are).1 in
          let w = written.planes_wrote head is_head blocks depths options p known good.0 in
          let end = planes_end options.book options.words (λ b g. known.at b g) blocks depths head.image.weights.shifts
          (record { long = p.depths_all ∙ sym p.blocks_all; multiples = p.multiples; small = p.below }) (q_of head) (stages_sent head)
          (stages_stop head is_head.stage) head.depth_ac first size (written.shown head is_head blocks depths options p known good.0) w.end
          (subst (λ l. Follows (planes_part_script options.book head first depths) l w.end)
          (planes_are head blocks depths options head.depth_ac 0 (omega arith)) w.follows) in (
            w.end,
            follows_then (Rest false) (dc_part_script head) D (E ++ P) first w.end (written.dc_follows head is_head blocks depths options p known)
                (follows_then (planes_part_script options.book head first) (beside first (depths_script head.depth_ac head.blocks)) E P depths w.end
                (written.depths_follow head is_head blocks depths options p known) w.follows),
            elim end [
              | inl five ↦ inr (all_deep good.0, inl (written.they_are head is_head blocks depths options p known w good.1 five))
              | inr cut ↦ inr (all_deep good.0, inr cut)
            ],
          )

  abbrev Dcs : List (List ℤ)
  Dcs = dc_blocks head.blocks (λ r. given_part (q_of head) planes (get_or (dcs_of blocks) r (pos 0)))

  abbrev Cut : List (List ℤ)
  Cut = cut_blocks head.image.weights.shifts (q_of head) blocks head.stop.plane (after_all (head.stop.stage + 2))

  abbrev Whole : List (List ℤ)
  Whole = if nat_le head.depth_ac head.stop.plane then Dcs else Cut

  -- all items lead to the values, cut at the stop
  pub segment_whole : AreItems (segment_items head blocks depths options) → Follows S (segment_items head blocks depths options) (stopped head blocks)
  segment_whole are =
      let i = segment_items-is head blocks depths options in
      subst (λ l. Follows S l (stopped head blocks)) (sym i) (by head.stop.dc refl (subst AreItems i are))
    where
      only_dcs : first ≡ Dcs
      only_dcs =
          let w = written.dcs head is_head blocks depths options p known in
          written.first_is head is_head blocks depths options p known ∙
          map_same (λ r. w.0 r ∷ replicate 63 (pos 0)) (λ r. given_part (q_of head) planes (get_or (dcs_of blocks) r (pos 0)) ∷ replicate 63 (pos 0)) []
          head.blocks (λ r lt. ap (λ z. z ∷ replicate 63 (pos 0)) (w.2 r lt))

      above_stop : (b : ℕ) → head.stop.plane < b → stages_sent head b ≡ 5
      above_stop b lt =
          let e : nat_lt head.stop.plane b ≡ true = grind (arith, nat_tests) in
          ap (λ (x : Bool). if x then 5 else if b == head.stop.plane then head.stop.stage + 2 else 0) e

      below_stop : (b : ℕ) → b < head.stop.plane → stages_sent head b ≡ 0
      below_stop b lt =
          let e : nat_lt head.stop.plane b ≡ false = grind (arith, nat_tests) in
          let f : (b == head.stop.plane) ≡ false = grind (arith, nat_tests) in
          rw (e, f) refl

      at_stop : stages_sent head head.stop.plane ≡ head.stop.stage + 2
      at_stop =
          let e : nat_lt head.stop.plane head.stop.plane ≡ false = grind (arith, nat_tests) in
          let f : (head.stop.plane == head.stop.plane) ≡ true = same head.stop.plane in
          ap (λ (x : Bool). if x then 5 else if head.stop.plane == head.stop.plane then head.stop.stage + 2 else 0) e ∙
          ap (λ (x : Bool). if x then head.stop.stage + 2 else 0) f
        where
          same : (n : ℕ) → (n == n) ≡ true
          same n = grind (arith, nat_tests)

      planes_whole : AreItems E → (x : Bool) → nat_le head.depth_ac head.stop.plane ≡ x →
          Follows (planes_part_script options.book head first depths) P
          (if x then Dcs else Cut)
      planes_whole are x e =
          let w = written.planes_wrote head is_head blocks depths options p known are in
          let f = subst (λ l. Follows (planes_part_script options.book head first depths) l w.end)
          (planes_are head blocks depths options head.depth_ac 0 (omega arith)) w.follows in
          subst (Follows (planes_part_script options.book head first depths) P) (here x e w.end f) w.follows
        where
          here : (x : Bool) → nat_le head.depth_ac head.stop.plane ≡ x → (w : List (List ℤ)) →
              Follows (planes_part_script options.book head first depths)
              (planes_reading options.book options.words blocks depths head.image.weights.shifts (q_of head) (stages_sent head) head.depth_ac) w →
              w ≡ (if x then Dcs else Cut)
          here true e w f =
              let le : head.depth_ac ≤ head.stop.plane = grind (arith, nat_tests) in
              silent_end options.book options.words (λ b g. known.at b g) blocks depths head.image.weights.shifts
              (record { long = p.depths_all ∙ sym p.blocks_all; multiples = p.multiples; small = p.below }) (q_of head) (stages_sent head)
              (stages_stop head is_head.stage) head.depth_ac (λ c lt. below_stop c (omega (arith, lt, le))) first
              (λ r lt. written.first_long head is_head blocks depths options p known r (let g = size in let b = p.blocks_all in omega (arith, lt, g, b)))
              _ w f ∙ only_dcs
          here false e w f =
              let lt : head.stop.plane < head.depth_ac = grind (arith, nat_tests) in
              planes_stop options.book options.words (λ b g. known.at b g) blocks depths head.image.weights.shifts
              (record { long = p.depths_all ∙ sym p.blocks_all; multiples = p.multiples; small = p.below }) (q_of head) (stages_sent head)
              (stages_stop head is_head.stage) head.stop.plane above_stop below_stop head.depth_ac lt first size
              (written.shown head is_head blocks depths options p known are) w f ∙
              ap (λ n. cut_blocks head.image.weights.shifts (q_of head) blocks head.stop.plane (after_all n)) at_stop

      by : (x : Bool) → head.stop.dc ≡ x → AreItems (cond x D (D ++ (E ++ P))) →
          Follows (then_ask (dc_part_script head) (Rest x)) (cond x D (D ++ (E ++ P)))
          (if x || nat_le head.depth_ac head.stop.plane then Dcs else Cut)
      by true e are =
          subst (λ l. Follows (then_ask (dc_part_script head) (Rest true)) l Dcs) (append-nil D)
          (follows_then (Rest true) (dc_part_script head) D [] first Dcs (written.dc_follows head is_head blocks depths options p known) only_dcs)
      by false e are =
          let good = items_parts E P (items_parts D (E ++ P) are).1 in
          follows_then (Rest false) (dc_part_script head) D (E ++ P) first Whole (written.dc_follows head is_head blocks depths options p known)
          (follows_then (planes_part_script options.book head first) (beside first (depths_script head.depth_ac head.blocks)) E P depths Whole
          (written.depths_follow head is_head blocks depths options p known) (planes_whole good.0 (nat_le head.depth_ac head.stop.plane) refl))
