-- The items of a plane, gaggle by gaggle and stage by stage, follow its script.
use Rattle.std.proofs.Common.{◌≡◌, ℕ, zero, suc, ◌+◌, ◌*◌, ◌/◌, ◌≤◌, ◌<◌, ◌==◌, min, nat_lt, Bool, true, false, if◌then◌else◌, List, [], ◌++◌, length, refl}
use Rattle.std.proofs.Common.{ap, sym, ◌∙◌, subst, arith, ℤ, Some, None}
use Rattle.std.specs.List.{flat_map, list_any, range_with_len}
use Rattle.plane_defs.specs.Spelled.{is_word_of, option_of as chosen_of}
use Rattle.std.proofs.lemmas.Bool.Decides.{nat_tests}
use lib.ListN.{get_or}
use Rattle.plane_defs.specs.declared.entries.Entry.{Entry}
use Rattle.plane_defs.specs.Spans.{span}
use Rattle.plane_defs.specs.Sets.{significant}
use Rattle.plane_defs.specs.Entries.{stage_number}
use Rattle.plane_defs.specs.Planes.{Plane, gaggles, gaggle_size, of_gaggle, before_stage}
use Rattle.plane_defs.specs.Reading.{steps_of_block, steps_of_gaggle, gaggle_reading, stage_reading, plane_reading}
use Rattle.plane_defs.specs.StepLaws.{entries_of, IsAc, SameAc}
use Rattle.plane_defs.specs.Laws.{IsMultiple}
use Rattle.plane_defs.proofs.ReadingTexts.{gaggle_entries}
use Rattle.plane_defs.proofs.SpanLists.{flat_map-span-suc, flat_map-span-none}
use Rattle.item_defs.specs.Scripts.{Script, in_turn, around}
use Rattle.item_defs.specs.Writing.{Writes}
use Rattle.item_defs.proofs.ScriptLaws.{turns_split}
use Rattle.item_defs.proofs.Writing.{writes_none, writes_then, writes_weaker, writes_around, writes_in_turn}
use Rattle.plane_defs.specs.Written.{Knows, AreChosen}
use Rattle.plane_defs.specs.States.{State}
use Rattle.plane_defs.specs.StageScripts.{Terms, stage_script}
use Rattle.plane_defs.specs.PlaneScript.{PlaneState, nothing_yet, of_block, with_block, blocks_script, plane_script}
use Rattle.plane_defs.proofs.Sending.{range_span, Sends, sends_in_turn}
use Rattle.plane_defs.proofs.StagesSent.{reads_on}
use Rattle.plane_defs.proofs.BlockSent as one

module _ (o : ℕ → List ℕ) (chosen : (g : ℕ) → AreChosen (o g)) (t : Terms) (depths : List ℕ) (blocks values : List (List ℤ))
    (same : (r : ℕ) → SameAc (get_or blocks r []) (get_or values r []) (t.plane + 1)) (whole : (r : ℕ) → IsMultiple (get_or values r []) t.weights)
    (none : (r : ℕ) → nat_lt t.plane (get_or depths r 0) ≡ false → (q : ℕ) → IsAc q → significant (get_or values r []) t.plane q ≡ false) where
  abbrev pub p : Plane
  p = record { blocks = values; depths = depths; weights = t.weights; number = t.plane; q = t.q }

  abbrev count : ℕ
  count = length depths

  -- what the first k stages leave of block r
  abbrev pub BlockAt : (k r : ℕ) → State → Type 0
  BlockAt k r s = (before : List Entry) ×
      one.Before (o (r / 16)) (chosen (r / 16)) t (get_or blocks r []) (get_or values r []) (same r) (whole r) k before s

  -- the entries of gaggle h before stage k, or after it in the gaggles below g
  abbrev sent : (k g h : ℕ) → List Entry
  sent k g h = before_stage p (if nat_lt h g then suc k else k) h

  -- in stage k of gaggle g, before block i
  pub record InStage (k g i : ℕ) (before : List Entry) (u : PlaneState) : Type 0 where
    pub past : (r : ℕ) → r < i → BlockAt (suc k) r (u.blocks r)
    pub left : (r : ℕ) → i ≤ r → r < count → BlockAt k r (u.blocks r)
    pub here : Knows (o g) before (u.options g)
    pub others : (h : ℕ) → (h ≡ g → ⊥) → h < gaggles p → Knows (o h) (sent k g h) (u.options h)

  abbrev item : (k i : ℕ) → PlaneState → Script PlaneState PlaneState
  item k i u = around (with_block u i) (stage_script t k (get_or depths i 0) (get_or blocks i []) (of_block u i))

  pub block_sent : (k g i : ℕ) → k < 5 → g ≡ i / 16 → i < count → (c : List Entry) (u : PlaneState) → InStage k g i c u →
      Sends t.book (o g) (item k i u) c (steps_of_block p (stage_number k) i) (InStage k g (suc i))
  block_sent k g i few at lt c u r =
      let v = get_or values i [] in
      let b = r.left i (omega arith) lt in
      let known : Knows (o (i / 16)) c (u.options (i / 16)) = subst (λ h. Knows (o h) c (u.options h)) at r.here in
      let start : one.Before (o (i / 16)) (chosen (i / 16)) t (get_or blocks i []) v (same i) (whole i) k c (of_block u i) =
      reads_on (o (i / 16)) (chosen (i / 16)) t (get_or blocks i []) v (same i) (whole i) (one.reach (o (i / 16)) (chosen (i / 16)) t
      (get_or blocks i []) v (same i) (whole i) k)
      (one.fine (o (i / 16)) (chosen (i / 16)) t (get_or blocks i []) v (same i) (whole i) k)
      (one.known (o (i / 16)) (chosen (i / 16)) t (get_or blocks i []) v (same i) (whole i) k)
      (one.sent_dc (o (i / 16)) (chosen (i / 16)) t (get_or blocks i []) v (same i) (whole i) k) b.0 c (u.blocks i) (of_block u i) b.1 known refl in
      subst (λ l. Sends t.book l (item k i u) c (steps_of_block p (stage_number k) i) (InStage k g (suc i))) (ap o (sym at))
      (writes_around (one.Before (o (i / 16)) (chosen (i / 16)) t (get_or blocks i []) v (same i) (whole i) (suc k) (c ++ entries_of (steps_of_block p
      (stage_number k) i)))
      (InStage k g (suc i) (c ++ entries_of (steps_of_block p (stage_number k) i))) (with_block u i) (λ s z. record {
        past = λ q low. was q low z (q == i) refl;
        left = λ q high small. (let ne : (q == i) ≡ false = grind (arith, nat_tests) in
            subst (λ (x : Bool). BlockAt k q (if x then s else u.blocks q)) (sym ne) (r.left q (omega (arith, high)) small));
        here = (let e : (g == i / 16) ≡ true = grind (arith, nat_tests) in
            subst (λ (x : Bool). Knows (o g) (c ++ entries_of (steps_of_block p (stage_number k) i)) (if x then s.options else u.options g)) (sym e)
            (subst (λ h. Knows (o h) (c ++ entries_of (steps_of_block p (stage_number k) i)) s.options) (sym at) z.knows));
        others = λ h ne small. (let e : (h == i / 16) ≡ false = differs h (i / 16) (λ f. ne (f ∙ sym at)) in
            subst (λ (x : Bool). Knows (o h) (sent k g h) (if x then s.options else u.options h)) (sym e) (r.others h ne small));
      })
      (stage_script t k (get_or depths i 0) (get_or blocks i []) (of_block u i)) _
      (one.stage_sent (o (i / 16)) (chosen (i / 16)) t (get_or blocks i []) v (same i) (whole i) (get_or depths i 0) (none i) k few c (of_block u i) start))
    where
      differs : (a b : ℕ) → (a ≡ b → ⊥) → (a == b) ≡ false
      differs a b ne = grind (arith, nat_tests)

      was : (q : ℕ) → q < suc i → {s : State} →
          one.Before (o (i / 16)) (chosen (i / 16)) t (get_or blocks i []) (get_or values i []) (same i) (whole i) (suc k)
          (c ++ entries_of (steps_of_block p (stage_number k) i)) s → (x : Bool) → (q == i) ≡ x → BlockAt (suc k) q (if x then s else u.blocks q)
      was q low {s} z true e = let f : i ≡ q = grind (arith, nat_tests) in
          subst (λ j. BlockAt (suc k) j s) f (c ++ entries_of (steps_of_block p (stage_number k) i), z)
      was q low {s} z false e = let f : q ≡ i → ⊥ = grind (arith, nat_tests) in r.past q (omega (arith, f, low))

  -- stage k, after the gaggles below g
  pub record Bound (k g : ℕ) (u : PlaneState) : Type 0 where
    pub past : (r : ℕ) → r < 16 * g → r < count → BlockAt (suc k) r (u.blocks r)
    pub left : (r : ℕ) → 16 * g ≤ r → r < count → BlockAt k r (u.blocks r)
    pub known : (h : ℕ) → h < gaggles p → Knows (o h) (sent k g h) (u.options h)

  -- one stage more
  before_more : (k g : ℕ) → before_stage p (suc k) g ≡ before_stage p k g ++ entries_of (steps_of_gaggle p (stage_number k) g)
  before_more k g =
      let f : ℕ → List Entry = λ j. of_gaggle p (stage_number j) g in
      let e : suc k ≡ k + 1 = omega arith in
      let z : 0 + k ≡ k = omega arith in
      ap (λ m. flat_map f (span 0 m)) e ∙ flat_map-span-suc f 0 k ∙ ap (λ m. flat_map f (span 0 k) ++ f m) z ∙
      ap (λ l. flat_map f (span 0 k) ++ l) (sym (gaggle_entries t.book o p (stage_number k) g))

  pub gaggle_sent : (k g : ℕ) → k < 5 → g < gaggles p → (u : PlaneState) → Bound k g u →
      Writes (in_turn (item k) (16 * g) (gaggle_size p g) u) (gaggle_reading t.book o p k g) (Bound k (suc g))
  gaggle_sent k g few lt u r =
      let size = gaggle_size p g in
      let inside : 16 * g < count = omega (arith, lt) in
      writes_weaker (InStage k g (16 * g + size) (before_stage p k g ++ entries_of (steps_of_gaggle p (stage_number k) g))) (Bound k (suc g))
      (in_turn (item k) (16 * g) size u) (gaggle_reading t.book o p k g)
      (λ w z. record {
        past = λ q low small. z.past q (omega (arith, low, small, inside));
        left = λ q high small. z.left q (omega (arith, high)) small;
        known = λ h small. known_now w z h small (h == g) refl;
      })
      (sends_in_turn t.book (o g) (InStage k g) (item k) (steps_of_block p (stage_number k)) (16 * g) size
      (λ i c w low high z. block_sent k g i few (of_place i low high) (omega (arith, high, inside)) c w z) (before_stage p k g) u (record {
        past = λ q low. r.past q low (omega (arith, low, inside));
        left = r.left;
        here = (let e : nat_lt g g ≡ false = grind (arith, nat_tests) in
            subst (λ (x : Bool). Knows (o g) (before_stage p (if x then suc k else k) g) (u.options g)) e (r.known g lt));
        others = λ h ne small. r.known h small;
      }))
    where
      of_place : (i : ℕ) → 16 * g ≤ i → i < 16 * g + gaggle_size p g → g ≡ i / 16
      of_place i low high = omega (arith, low, high)

      known_now : (w : PlaneState) → InStage k g (16 * g + gaggle_size p g) (before_stage p k g ++ entries_of (steps_of_gaggle p (stage_number k) g)) w →
          (h : ℕ) → h < gaggles p → (x : Bool) → (h == g) ≡ x → Knows (o h) (sent k (suc g) h) (w.options h)
      known_now w z h small true e =
          let f : g ≡ h = grind (arith, nat_tests) in
          let a : nat_lt g (suc g) ≡ true = grind (arith, nat_tests) in
          subst (λ j. Knows (o j) (sent k (suc g) j) (w.options j)) f
          (subst (λ (x : Bool). Knows (o g) (before_stage p (if x then suc k else k) g) (w.options g)) (sym a)
          (subst (λ l. Knows (o g) l (w.options g)) (sym (before_more k g)) z.here))
      known_now w z h small false e =
          let ne : h ≡ g → ⊥ = grind (arith, nat_tests) in
          let a : nat_lt h g ≡ nat_lt h (suc g) = grind (arith, nat_tests) in
          subst (λ (x : Bool). Knows (o h) (before_stage p (if x then suc k else k) h) (w.options h)) a (z.others h ne small)

  -- the first gaggles
  pub gaggles_sent : (k n : ℕ) → k < 5 → n ≤ gaggles p → (u : PlaneState) → Bound k 0 u →
      Writes (in_turn (item k) 0 (min count (16 * n)) u) (flat_map (gaggle_reading t.book o p k) (span 0 n)) (Bound k n)
  gaggles_sent k zero few le u r =
      let e : 0 ≡ min count (16 * 0) = omega arith in
      subst (λ m. Writes (in_turn (item k) 0 m u) (flat_map (gaggle_reading t.book o p k) (span 0 0)) (Bound k 0)) e
      (subst (λ l. Writes (in_turn (item k) 0 0 u) l (Bound k 0)) (sym (flat_map-span-none (gaggle_reading t.book o p k) 0)) (writes_none (Bound k 0) u r))
  gaggles_sent k (suc n) few le u r =
      let f = gaggle_reading t.book o p k in
      let e : suc n ≡ n + 1 = omega arith in
      let z : 0 + n ≡ n = omega arith in
      let inside : 16 * n < count = omega (arith, le) in
      let part : min count (16 * n) + gaggle_size p n ≡ min count (16 * suc n) = omega (arith, inside) in
      let start : 0 + min count (16 * n) ≡ 16 * n = omega (arith, inside) in
      subst (λ m. Writes (in_turn (item k) 0 m u) (flat_map f (span 0 (suc n))) (Bound k (suc n))) part
      (subst (λ l. Writes (in_turn (item k) 0 (min count (16 * n) + gaggle_size p n) u) l (Bound k (suc n)))
      (sym (ap (λ m. flat_map f (span 0 m)) e ∙ flat_map-span-suc f 0 n ∙ ap (λ m. flat_map f (span 0 n) ++ f m) z))
      (subst (λ s. Writes s (flat_map f (span 0 n) ++ f n) (Bound k (suc n))) (sym (turns_split PlaneState (item k) 0 (min count (16 * n)) (gaggle_size p n) u))
      (writes_then (Bound k n) (Bound k (suc n)) (in_turn (item k) 0 (min count (16 * n)) u) (in_turn (item k) (0 + min count (16 * n)) (gaggle_size p n))
      (flat_map f (span 0 n)) (f n) (gaggles_sent k n few (omega (arith, le)) u r)
      (λ w q. subst (λ j. Writes (in_turn (item k) j (gaggle_size p n) w) (f n) (Bound k (suc n))) (sym start)
      (gaggle_sent k n few (omega (arith, le)) w q)))))

  pub stage_sent : (k : ℕ) → k < 5 → (u : PlaneState) → Bound k 0 u →
      Writes (blocks_script t depths blocks k u) (stage_reading t.book o p k) (Bound (suc k) 0)
  stage_sent k few u r =
      let all : min count (16 * gaggles p) ≡ count = omega arith in
      subst (λ m. Writes (in_turn (item k) 0 m u) (stage_reading t.book o p k) (Bound (suc k) 0)) all
      (writes_weaker (Bound k (gaggles p)) (Bound (suc k) 0) (in_turn (item k) 0 (min count (16 * gaggles p)) u) (stage_reading t.book o p k)
      (λ w z. record {
        past = λ q low small. absurd (omega (arith, low));
        left = λ q high small. z.past q (omega (arith, small)) small;
        known = λ h small.
            let a : nat_lt h (gaggles p) ≡ true = grind (arith, nat_tests) in
            let c : nat_lt h 0 ≡ false = grind (arith, nat_tests) in
            subst (λ (x : Bool). Knows (o h) (before_stage p (if x then suc (suc k) else suc k) h) (w.options h)) (sym c)
            (subst (λ (x : Bool). Knows (o h) (before_stage p (if x then suc k else k) h) (w.options h)) a (z.known h small));
      })
      (gaggles_sent k (gaggles p) few (omega arith) u r))

  -- nothing is known before the first stage
  pub start : Bound 0 0 nothing_yet
  start = record {
    past = λ q low small. absurd (omega (arith, low));
    left = λ q high small. (
      [],
      record {
        knows = λ n low few. refl;
        bits = λ i ac. (let e : nat_lt i 1 ≡ false = (let a : 1 ≤ i = ac.0 in grind (arith, nat_tests)) in rw e refl);
        minus = λ i ac. (let e : nat_lt i 1 ≡ false = (let a : 1 ≤ i = ac.0 in grind (arith, nat_tests)) in rw e refl);
        enclosing = λ i lt. refl;
        low = refl;
      },
    );
    known = λ h small n low few.
        ap (λ l. if list_any (is_word_of n) l then Some (chosen_of (o h) n) else None) (sym (none_before h));
  }
    where
      none_before : (h : ℕ) → sent 0 0 h ≡ []
      none_before h = let c : nat_lt h 0 ≡ false = grind (arith, nat_tests) in
          ap (λ (x : Bool). before_stage p (if x then 1 else 0) h) c ∙ flat_map-span-none (λ j. of_gaggle p (stage_number j) h) 0

  pub plane_bound : (stages : ℕ) → stages ≤ 5 → Writes (plane_script t depths blocks stages) (plane_reading t.book o p stages) (Bound stages 0)
  plane_bound stages few =
      let z : 0 + stages ≡ stages = omega arith in
      subst (λ l. Writes (plane_script t depths blocks stages) (flat_map (stage_reading t.book o p) l) (Bound stages 0)) (range_span 0 stages)
      (subst (λ k. Writes (plane_script t depths blocks stages) (flat_map (stage_reading t.book o p) (range_with_len 0 stages)) (Bound k 0)) z
      (writes_in_turn (λ k. Bound k 0) (blocks_script t depths blocks) (stage_reading t.book o p) 0 stages
      (λ k u low high q. stage_sent k (omega (arith, high, few)) u q) nothing_yet start))

  pub plane_sent : (stages : ℕ) → stages ≤ 5 →
      Writes (plane_script t depths blocks stages) (plane_reading t.book o p stages)
      (λ u. (r : ℕ) → r < count → BlockAt stages r (u.blocks r))
  plane_sent stages few =
      writes_weaker (Bound stages 0) (λ u. (r : ℕ) → r < count → BlockAt stages r (u.blocks r)) (plane_script t depths blocks stages)
      (plane_reading t.book o p stages) (λ u q r lt. q.left r (omega arith) lt) (plane_bound stages few)
