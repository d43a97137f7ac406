-- What is given within the planes is their values, cut there.
use Rattle.std.proofs.Common.{◌≡◌, ◌⊎◌, ℕ, zero, suc, ◌+◌, ◌-◌, ◌*◌, ◌/◌, ◌≤◌, ◌<◌, ◌==◌, min, nat_lt, Bool, true, false, if◌then◌else◌, List, [], ◌++◌}
use Rattle.std.proofs.Common.{length, refl, ap, sym, ◌∙◌, subst, arith, append_assoc, ℤ, inl, inr}
use Rattle.std.specs.List.{flat_map}
use Rattle.std.proofs.lemmas.Bool.Decides.{nat_tests}
use lib.ListN.{get_or}
use Rattle.item_defs.specs.Items.{Item}
use Rattle.base_122.specs.declared.book.Book.{Book}
use Rattle.plane_defs.specs.declared.entries.Entry.{Entry}
use Rattle.plane_defs.specs.Spans.{span}
use Rattle.plane_defs.specs.Sets.{significant}
use Rattle.plane_defs.specs.Entries.{stage_number}
use Rattle.plane_defs.specs.Planes.{Plane, gaggles, gaggle_size, before_stage}
use Rattle.plane_defs.specs.Reading.{steps_of_block, gaggle_reading, stage_reading, plane_reading, read_after}
use Rattle.plane_defs.specs.Steps.{Step}
use Rattle.plane_defs.proofs.Equations.{span-none}
use Rattle.plane_defs.specs.StepLaws.{IsAc, SameAc}
use Rattle.plane_defs.specs.Laws.{IsMultiple}
use Rattle.plane_defs.proofs.SpanLists.{flat_map-span-suc}
use Rattle.item_defs.specs.Scripts.{Script, then_ask, in_turn, around}
use Rattle.item_defs.proofs.ScriptLaws.{turns_split}
use Rattle.item_defs.proofs.ScriptGives.{GivesAfter, after_weaker, after_then, after_around, after_of, Gives, gives_around}
use Rattle.plane_defs.specs.Written.{Knows, AreChosen, planes_reading, Shows, low_bits, ShowsDc, AreSendable, Stops}
use Rattle.plane_defs.specs.Cuts.{Reach, after_stages, cut_block, Spot, reach_of, items_before, cut_blocks, AreCut, CutAfter}
use Rattle.plane_defs.specs.States.{State}
use Rattle.plane_defs.specs.StageScripts.{Terms, stage_script}
use Rattle.plane_defs.specs.PlaneScript.{PlaneState, nothing_yet, of_block, with_block, blocks_script, plane_script, block_with, blocks_with, planes_script}
use Rattle.plane_defs.proofs.Sending.{span-first}
use Rattle.plane_defs.proofs.StagesSent.{reads_on}
use Rattle.plane_defs.proofs.BlockSent as one
use Rattle.plane_defs.proofs.PlaneSent as sent
use Rattle.plane_defs.proofs.PlanesSent as planes
use Rattle.plane_defs.proofs.BlockGives as gives
use Rattle.plane_defs.proofs.BlockGives.{after_in_turn}
use Rattle.plane_defs.proofs.CutBlocks as cuts
use Rattle.plane_defs.proofs.CutBlocks.{map_same}

module _ (o : ℕ → List ℕ) (chosen : (g : ℕ) → AreChosen (o g)) (t : Terms) (depths : List ℕ) (blocks values : List (List ℤ))
    (same : (r : ℕ) → SameAc (get_or blocks r []) (get_or values r []) (t.plane + 1)) (whole : (r : ℕ) → IsMultiple (get_or values r []) t.weights)
    (none : (r : ℕ) → nat_lt t.plane (get_or depths r 0) ≡ false → (q : ℕ) → IsAc q → significant (get_or values r []) t.plane q ≡ false)
    (shows : (r : ℕ) → Shows (t.plane + 1) (get_or blocks r []) (get_or values r []))
    (shows_dc : (r : ℕ) → ShowsDc (low_bits t.weights t.q (t.plane + 1)) (get_or blocks r []) (get_or values r [])) where
  abbrev p : Plane
  p = sent.p o chosen t depths blocks values same whole none

  abbrev count : ℕ
  count = length depths

  abbrev BlockAt : (k r : ℕ) → State → Type 0
  BlockAt = sent.BlockAt o chosen t depths blocks values same whole none

  abbrev InStage : (k g i : ℕ) → List Entry → PlaneState → Type 0
  InStage = sent.InStage o chosen t depths blocks values same whole none

  abbrev Bound : (k g : ℕ) → PlaneState → Type 0
  Bound = sent.Bound o chosen t depths blocks values same whole none

  abbrev item : (k i : ℕ) → PlaneState → Script PlaneState PlaneState
  item k i u = around (with_block u i) (stage_script t k (get_or depths i 0) (get_or blocks i []) (of_block u i))

  -- the blocks of a plane, cut at a spot
  pub record Given (u : PlaneState) : Type 0 where
    pub spot : Spot
    pub each : (r : ℕ) → r < count →
        block_with t.plane (get_or blocks r []) (u.blocks r) ≡ cut_block t.weights t.q (get_or values r []) t.plane (reach_of spot r)

  -- after some stages of a block
  pub at_stage : (k r : ℕ) → k ≤ 5 → (s : State) → BlockAt k r s →
      block_with t.plane (get_or blocks r []) s ≡ cut_block t.weights t.q (get_or values r []) t.plane (after_stages k)
  at_stage k r le s w =
      cuts.after_cut (o (r / 16)) (chosen (r / 16)) t (get_or blocks r []) (get_or values r []) (same r) (whole r) (shows r) (shows_dc r) k le w.0 s w.1

  -- cut in this stage of this block
  pub record GivenIn (k i : ℕ) (u : PlaneState) : Type 0 where
    pub reach : Reach
    pub each : (r : ℕ) → r < count → block_with t.plane (get_or blocks r []) (u.blocks r) ≡
        cut_block t.weights t.q (get_or values r []) t.plane (reach_of (record { stage = k; block = i; reach = reach }) r)

  block_gives : (k g i : ℕ) → k < 5 → g ≡ i / 16 → i < count → (c : List Entry) (u : PlaneState) → InStage k g i c u →
      Gives (item k i u) (read_after t.book (o g) c (steps_of_block p (stage_number k) i)) (GivenIn k i)
  block_gives k g i few at lt c u r =
      let v = get_or values i [] in
      let block = get_or blocks i [] in
      let O = o (i / 16) in
      let C = chosen (i / 16) in
      let before = r.left i (omega arith) lt in
      let known : Knows O c (u.options (i / 16)) = subst (λ h. Knows (o h) c (u.options h)) at r.here in
      let start : one.Before O C t block v (same i) (whole i) k c (of_block u i) =
      reads_on O C t block v (same i) (whole i) (one.reach O C t block v (same i) (whole i) k) (one.fine O C t block v (same i) (whole i) k)
      (one.known O C t block v (same i) (whole i) k) (one.sent_dc O C t block v (same i) (whole i) k) before.0 c (u.blocks i)
      (of_block u i) before.1 known refl in
      subst (λ l. Gives (item k i u) (read_after t.book l c (steps_of_block p (stage_number k) i)) (GivenIn k i)) (ap o (sym at))
      (gives_around (gives.Partial O C t block v (same i) (whole i) (one.sent_dc O C t block v (same i) (whole i) k)) (GivenIn k i) (with_block u i)
      (λ s z. record {
        reach = record { dc = cuts.past_dc O C t block v (same i) (whole i) (shows i) (shows_dc i) k; types = z.types; signs = z.signs; bits = z.fine };
        each = λ q small. each q small s _ (cuts.stage_cut O C t block v (same i) (whole i) (shows i) (shows_dc i) k s z) (nat_lt q i) refl (q == i) refl;
      })
      (stage_script t k (get_or depths i 0) block (of_block u i)) _
      (gives.stage_give O C t block v (same i) (whole i) (get_or depths i 0) k few c (of_block u i) start))
    where
      each : (q : ℕ) → q < count → (s : State) (reach : Reach) →
          block_with t.plane (get_or blocks i []) s ≡ cut_block t.weights t.q (get_or values i []) t.plane reach → (x : Bool) → nat_lt q i ≡ x →
          (y : Bool) → (q == i) ≡ y →
          block_with t.plane (get_or blocks q []) (if y then s else u.blocks q) ≡
          cut_block t.weights t.q (get_or values q []) t.plane (if x then after_stages (k + 1) else if y then reach else after_stages k)
      each q small s reach is true e true f = absurd (differ (grind (arith, nat_tests)) (grind (arith, nat_tests)))
        where
          differ : q < i → q ≡ i → ⊥
          differ a b = absurd (omega (arith, a, b))
      each q small s reach is true e false f =
          let lt : q < i = grind (arith, nat_tests) in
          let z : suc k ≡ k + 1 = omega arith in
          at_stage (suc k) q (omega (arith, few)) (u.blocks q) (r.past q lt) ∙
          ap (λ n. cut_block t.weights t.q (get_or values q []) t.plane (after_stages n)) z
      each q small s reach is false e true f =
          let here : i ≡ q = grind (arith, nat_tests) in
          subst (λ j. block_with t.plane (get_or blocks j []) s ≡ cut_block t.weights t.q (get_or values j []) t.plane reach) here is
      each q small s reach is false e false f =
          let ge : i ≤ q = grind (arith, nat_tests) in at_stage k q (omega (arith, few)) (u.blocks q) (r.left q ge small)

  -- ---- after which items: those before the stage of the block, and some of its own

  abbrev steps : (k : ℕ) → ℕ → List Step
  steps k = steps_of_block p (stage_number k)

  abbrev InGaggle : (k g : ℕ) → List Item → PlaneState → Type 0
  InGaggle k g l u = (i : ℕ) × (g ≡ i / 16) × (some : List Item) ×
      (l ≡ read_after t.book (o g) (before_stage p k g) (flat_map (steps k) (span (16 * g) (i - 16 * g))) ++ some) × GivenIn k i u

  gaggle_after : (k g : ℕ) → k < 5 → g < gaggles p → (u : PlaneState) → Bound k g u →
      GivesAfter (in_turn (item k) (16 * g) (gaggle_size p g) u) (gaggle_reading t.book o p k g) (InGaggle k g)
  gaggle_after k g few lt u r =
      let size = gaggle_size p g in
      let inside : 16 * g < count = omega (arith, lt) in
      after_weaker _ (InGaggle k g) (λ l w z. placed l w z) (in_turn (item k) (16 * g) size u) (gaggle_reading t.book o p k g)
      (after_in_turn t.book (o g) (InStage k g) (λ i l. GivenIn k i) (item k) (steps k) (16 * g) size
      (λ i c w low high z. (
        sent.block_sent o chosen t depths blocks values same whole none k g i few (of_place i low high) (omega (arith, high, inside)) c w z,
        after_weaker _ (λ l. GivenIn k i) (λ l h y. y.1) (item k i w) (read_after t.book (o g) c (steps k i))
            (after_of (GivenIn k i) (item k i w) (read_after t.book (o g) c (steps k i))
            (block_gives k g i few (of_place i low high) (omega (arith, high, inside)) c w z)),
      )) (before_stage p k g) u (record {
        past = λ q low. r.past q low (omega (arith, low, inside));
        left = r.left;
        here = (let e : nat_lt g g ≡ false = grind (arith, nat_tests) in
            subst (λ (x : Bool). Knows (o g) (before_stage p (if x then suc k else k) g) (u.options g)) e (r.known g lt));
        others = λ h ne small. r.known h small;
      }))
    where
      of_place : (i : ℕ) → 16 * g ≤ i → i < 16 * g + gaggle_size p g → g ≡ i / 16
      of_place i low high = omega (arith, low, high)

      placed : (l : List Item) (w : PlaneState) →
          (m : ℕ) × (m < gaggle_size p g) × (some : List Item) ×
          (l ≡ read_after t.book (o g) (before_stage p k g) (flat_map (steps k) (span (16 * g) m)) ++ some) × GivenIn k (16 * g + m) w → InGaggle k g l w
      placed l w z =
          let few : z.0 < gaggle_size p g = z.1 in
          let e : z.0 ≡ 16 * g + z.0 - 16 * g = omega arith in (
            16 * g + z.0,
            of_place (16 * g + z.0) (omega arith) (omega (arith, few)),
            z.2,
            z.3 ∙ ap (λ n. read_after t.book (o g) (before_stage p k g) (flat_map (steps k) (span (16 * g) n)) ++ z.2) e,
            z.4,
          )

  abbrev InStages : (k : ℕ) → List Item → PlaneState → Type 0
  InStages k l u = (g : ℕ) × (some : List Item) × (l ≡ flat_map (gaggle_reading t.book o p k) (span 0 g) ++ some) × InGaggle k g some u

  gaggles_after : (k n : ℕ) → k < 5 → n ≤ gaggles p → (u : PlaneState) → Bound k 0 u →
      GivesAfter (in_turn (item k) 0 (min count (16 * n)) u) (flat_map (gaggle_reading t.book o p k) (span 0 n)) (InStages k)
  gaggles_after k zero few le u r =
      let e : 0 ≡ min count (16 * 0) = omega arith in
      subst (λ m. GivesAfter (in_turn (item k) 0 m u) (flat_map (gaggle_reading t.book o p k) (span 0 0)) (InStages k)) e tt
  gaggles_after k (suc n) few le u r =
      let f = gaggle_reading t.book o p k in
      let e : suc n ≡ n + 1 = omega arith in
      let z : 0 + n ≡ n = omega arith in
      let inside : 16 * n < count = omega (arith, le) in
      let part : min count (16 * n) + gaggle_size p n ≡ min count (16 * suc n) = omega (arith, inside) in
      let start : 0 + min count (16 * n) ≡ 16 * n = omega (arith, inside) in
      let w = sent.gaggles_sent o chosen t depths blocks values same whole none k n few (omega (arith, le)) u r in
      subst (λ m. GivesAfter (in_turn (item k) 0 m u) (flat_map f (span 0 (suc n))) (InStages k)) part
      (subst (λ l. GivesAfter (in_turn (item k) 0 (min count (16 * n) + gaggle_size p n) u) l (InStages k))
      (sym (ap (λ m. flat_map f (span 0 m)) e ∙ flat_map-span-suc f 0 n ∙ ap (λ m. flat_map f (span 0 n) ++ f m) z))
      (subst (λ s. GivesAfter s (flat_map f (span 0 n) ++ f n) (InStages k))
      (sym (turns_split PlaneState (item k) 0 (min count (16 * n)) (gaggle_size p n) u))
      (after_then (InStages k) (in_turn (item k) 0 (min count (16 * n)) u) (in_turn (item k) (0 + min count (16 * n)) (gaggle_size p n))
      (flat_map f (span 0 n)) (f n) w.end w.follows (gaggles_after k n few (omega (arith, le)) u r)
      (subst (λ j. GivesAfter (in_turn (item k) j (gaggle_size p n) w.end) (f n) (λ l. InStages k (flat_map f (span 0 n) ++ l))) (sym start)
      (after_weaker (InGaggle k n) (λ l. InStages k (flat_map f (span 0 n) ++ l)) (λ l h y. (n, l, refl, y)) (in_turn (item k) (16 * n) (gaggle_size p n) w.end)
      (f n) (gaggle_after k n few (omega (arith, le)) w.end w.is))))))

  abbrev InPlane : (first : ℕ) → List Item → PlaneState → Type 0
  InPlane first l u = (m : ℕ) × (some : List Item) × (l ≡ flat_map (stage_reading t.book o p) (span first m) ++ some) × InStages (first + m) some u

  stages_after : (k n : ℕ) → k + n ≤ 5 → (u : PlaneState) → Bound k 0 u →
      GivesAfter (in_turn (blocks_script t depths blocks) k n u) (flat_map (stage_reading t.book o p) (span k n)) (InPlane k)
  stages_after k zero le u r = tt
  stages_after k (suc n) le u r =
      let few : k < 5 = omega (arith, le) in
      let all : min count (16 * gaggles p) ≡ count = omega arith in
      let reading = stage_reading t.book o p in
      let w = sent.stage_sent o chosen t depths blocks values same whole none k few u r in
      let here : k ≡ k + 0 = omega arith in
      subst (λ l. GivesAfter (in_turn (blocks_script t depths blocks) k (suc n) u) (flat_map reading l) (InPlane k)) (span-first k n)
      (after_then (InPlane k) (blocks_script t depths blocks k u) (in_turn (blocks_script t depths blocks) (suc k) n) (reading k)
      (flat_map reading (span (suc k) n)) w.end w.follows
      (after_weaker (InStages k) (InPlane k)
      (λ l h y. (0, l, ap (λ x. flat_map reading x ++ l) (sym (span-none k)), subst (λ j. InStages j l h) here y))
      (blocks_script t depths blocks k u) (reading k)
      (subst (λ m. GivesAfter (in_turn (item k) 0 m u) (reading k) (InStages k)) all (gaggles_after k (gaggles p) few (omega arith) u r)))
      (after_weaker (InPlane (suc k)) (λ l. InPlane k (reading k ++ l)) (λ l h y. later l h y) (in_turn (blocks_script t depths blocks) (suc k) n w.end)
      (flat_map reading (span (suc k) n)) (stages_after (suc k) n (omega (arith, le)) w.end w.is)))
    where
      later : (l : List Item) (h : PlaneState) → InPlane (suc k) l h → InPlane k (stage_reading t.book o p k ++ l) h
      later l h y =
          let reading = stage_reading t.book o p in
          let e : suc k + y.0 ≡ k + suc y.0 = omega arith in (
            suc y.0,
            y.1,
            ap (λ x. reading k ++ x) y.2 ∙ sym (append_assoc (reading k) (flat_map reading (span (suc k) y.0)) y.1) ∙
                ap (λ x. flat_map reading x ++ y.1) (span-first k y.0),
            subst (λ j. InStages j y.1 h) e y.3,
          )

  -- the items before the spot, and some of the block's own
  pub record After (l : List Item) (u : PlaneState) : Type 0 where
    pub given : Given u
    pub some : List Item
    pub is : l ≡ items_before t.book o p given.spot ++ some

  pub plane_gives : (stages : ℕ) → stages ≤ 5 → GivesAfter (plane_script t depths blocks stages) (plane_reading t.book o p stages) After
  plane_gives stages le =
      after_weaker (InPlane 0) After (λ l u z. after l u z) (plane_script t depths blocks stages) (plane_reading t.book o p stages)
      (stages_after 0 stages (omega (arith, le)) nothing_yet (sent.start o chosen t depths blocks values same whole none))
    where
      after : (l : List Item) (u : PlaneState) → InPlane 0 l u → After l u
      after l u z =
          let k = z.0 in
          let e : 0 + k ≡ k = omega arith in
          let y = subst (λ j. InStages j z.1 u) e z.3 in
          let x = y.3 in
          let reading = stage_reading t.book o p in
          let A = flat_map reading (span 0 k) in
          let B = flat_map (gaggle_reading t.book o p k) (span 0 y.0) in
          let C = read_after t.book (o y.0) (before_stage p k y.0) (flat_map (steps k) (span (16 * y.0) (x.0 - 16 * y.0))) in
          record {
            given = record { spot = record { stage = k; block = x.0; reach = x.4.reach }; each = x.4.each };
            some = x.2;
            is =
                z.2 ∙ ap (λ q. A ++ q) (y.2 ∙ ap (λ q. B ++ q) x.3 ∙ sym (append_assoc B C x.2)) ∙ sym (append_assoc A (B ++ C) x.2) ∙
                (λ i. (A ++ (flat_map (gaggle_reading t.book o p k) (span 0 (x.1 i)) ++
                read_after t.book (o (x.1 i)) (before_stage p k (x.1 i)) (flat_map (steps k) (span (16 * x.1 i) (x.0 - 16 * x.1 i))))) ++ x.2);
          }

module _ (book : Book) (options : ℕ → ℕ → List ℕ) (chosen : (b g : ℕ) → AreChosen (options b g)) (values : List (List ℤ)) (depths weights : List ℕ)
    (sendable : AreSendable values depths weights) (q : ℕ) (stages : ℕ → ℕ) (stops : Stops stages) where
  abbrev Related : ℕ → List (List ℤ) → Type 0
  Related = planes.Related book options chosen values depths weights sendable q stages stops

  abbrev Cut : ℕ → List (List ℤ) → Type 0
  Cut = AreCut weights q values

  pub wider : (a b : ℕ) → a ≤ b → (w : List (List ℤ)) → Cut a w → Cut b w
  wider a b le w c = record { plane = c.plane; inside = (let lt = c.inside in omega (arith, le, lt)); spot = c.spot; is = c.is }

  silent : (below : ℕ) → ((c : ℕ) → c < below → stages c ≡ 0) → (blocks : List (List ℤ)) (items : List Item) (Q : List Item → List (List ℤ) → Type 0) →
      GivesAfter (planes_script book weights q depths stages below blocks) items Q
  silent zero none blocks items Q = tt
  silent (suc b) none blocks items Q =
      let t : Terms = record { book = book; weights = weights; plane = b; q = q } in
      subst (λ n. GivesAfter (then_ask (around (blocks_with b blocks) (plane_script t depths blocks n)) (planes_script book weights q depths stages b)) items Q)
      (sym (none b (omega arith))) (silent b (λ c lt. none c (omega (arith, lt))) (blocks_with b blocks nothing_yet) items Q)

  abbrev reading : ℕ → List Item
  reading = planes_reading book options values depths weights q stages

  abbrev After_items : ℕ → List Item → List (List ℤ) → Type 0
  After_items below = CutAfter book options values depths weights q stages below

  abbrev here : ℕ → Plane
  here b = record { blocks = values; depths = depths; weights = weights; number = b; q = q }

  -- after the items of a plane
  later : (b : ℕ) (l : List Item) (w : List (List ℤ)) → After_items b l w → After_items (suc b) (plane_reading book (options b) (here b) (stages b) ++ l) w
  unfolding wider
  later b l w z =
      let first = plane_reading book (options b) (here b) (stages b) in
      record {
        cut = wider b (suc b) (omega arith) w z.cut;
        above = first ++ z.above;
        from = ap (λ x. first ++ x) z.from ∙ sym (append_assoc first z.above (reading (suc z.cut.plane)));
        some = z.some;
        is = ap (λ x. first ++ x) z.is ∙ sym (append_assoc first z.above (items_before book (options z.cut.plane) (here z.cut.plane) z.cut.spot ++ z.some));
      }

  pub planes_give : (below : ℕ) (blocks : List (List ℤ)) → length blocks ≡ length values → Related below blocks →
      GivesAfter (planes_script book weights q depths stages below blocks) (planes_reading book options values depths weights q stages below)
      (After_items below)
  planes_give zero blocks long shown = tt
  planes_give (suc b) blocks long shown =
      let e : suc b ≡ b + 1 = omega arith in
      let above : Related (b + 1) blocks = λ r. subst (λ n. Shows n (get_or blocks r []) (get_or values r []) ×
      ShowsDc (low_bits weights q n) (get_or blocks r []) (get_or values r [])) e (shown r) in
      let t : Terms = record { book = book; weights = weights; plane = b; q = q } in
      let w = planes.plane_step book options chosen values depths weights sendable q stages stops b blocks long above in
      after_then (After_items (suc b)) (around (blocks_with b blocks) (plane_script t depths blocks (stages b))) (planes_script book weights q depths stages b)
      (plane_reading book (options b) (record { blocks = values; depths = depths; weights = weights; number = b; q = q }) (stages b))
      (planes_reading book options values depths weights q stages b) w.end w.follows
      (after_around (After (options b) (chosen b) t depths blocks values
      (planes.same book options chosen values depths weights sendable q stages stops b blocks long above) sendable.multiples
      (planes.none_of book options chosen values depths weights sendable q stages stops b) (λ r. (above r).0) (λ r. (above r).1)) (After_items (suc b))
      (blocks_with b blocks) (λ l u z. record {
        cut = record { plane = b; inside = omega arith; spot = z.given.spot; is = all u z.given.spot z.given.each };
        above = [];
        from = refl;
        some = z.some;
        is = z.is;
      })
      (plane_script t depths blocks (stages b)) _
      (plane_gives (options b) (chosen b) t depths blocks values
      (planes.same book options chosen values depths weights sendable q stages stops b blocks long above) sendable.multiples
      (planes.none_of book options chosen values depths weights sendable q stages stops b) (λ r. (above r).0) (λ r. (above r).1) (stages b) (stops b).0))
      (by w.end w.is.0 (λ five. planes_give b w.end w.is.0 (w.is.1 five)) (stops b).1)
    where
      all : (u : PlaneState) (spot : Spot) →
          ((r : ℕ) → r < length depths → block_with b (get_or blocks r []) (u.blocks r) ≡ cut_block weights q (get_or values r []) b (reach_of spot r)) →
          blocks_with b blocks u ≡ cut_blocks weights q values b spot
      all u spot each = grind (arith, nat_tests, map_same)

      by : (now : List (List ℤ)) → length now ≡ length values →
          (stages b ≡ 5 → GivesAfter (planes_script book weights q depths stages b now) (planes_reading book options values depths weights q stages b)
          (After_items b)) → ((stages b ≡ 5) ⊎ ((c : ℕ) → c < b → stages c ≡ 0)) →
          GivesAfter (planes_script book weights q depths stages b now) (planes_reading book options values depths weights q stages b)
          (λ l. After_items (suc b) (plane_reading book (options b) (here b) (stages b) ++ l))
      by now size more (inl five) =
          after_weaker (After_items b) (λ l. After_items (suc b) (plane_reading book (options b) (here b) (stages b) ++ l)) (later b)
          (planes_script book weights q depths stages b now) (planes_reading book options values depths weights q stages b) (more five)
      by now size more (inr zeros) = silent b zeros now (planes_reading book options values depths weights q stages b) _
