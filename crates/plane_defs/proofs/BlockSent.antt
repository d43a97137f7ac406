-- The items of each stage of a block follow its script.
use Rattle.std.proofs.Common.{◌≡◌, ℕ, zero, suc, ◌+◌, ◌≤◌, ◌<◌, ◌==◌, ◌&&◌, ◌||◌, not, nat_lt, Bool, true, false, cond, if◌then◌else◌, List, [], ◌∷◌, ◌++◌}
use Rattle.std.proofs.Common.{filter, refl, ap, sym, ◌∙◌, subst, arith, ℤ, pos}
use Rattle.std.specs.List.{list_any}
use Rattle.base_122.specs.declared.book.Book.{Book}
use Rattle.std.proofs.lemmas.Bool.Decides.{nat_tests}
use Rattle.std.proofs.lemmas.List.Concat.{flat_map_single}
use Rattle.std.proofs.Math.Bool.{and-false, or-false}
use lib.ListN.{get_or}
use Rattle.item_defs.specs.Bits.{bit, digit}
use Rattle.item_defs.specs.Items.{raw}
use Rattle.plane_defs.specs.declared.entries.Entry.{Entry}
use Rattle.plane_defs.specs.declared.entries.Entry.TheVariants.{Bit}
use Rattle.plane_defs.specs.declared.sets.Set.TheVariants.{Family}
use Rattle.plane_defs.specs.Spans.{span}
use Rattle.plane_defs.specs.Sets.{magnitude, significant, coded, set_significant, type_due, newly_significant, refined, members}
use Rattle.plane_defs.specs.Entries.{twos_bit, negative, stage_number}
use Rattle.plane_defs.specs.Steps.{free, Step, step, dc_steps, parents_steps, children_steps, grandchildren_steps, refinement_steps, block_steps}
use Rattle.plane_defs.specs.StepLaws.{IsAc, SameAc}
use Rattle.plane_defs.specs.Laws.{IsMultiple}
use Rattle.plane_defs.proofs.Equations.{set_significant-is, newly_significant-is, refined-is, bit_reading, dc_stage, parents_stage, children_stage}
use Rattle.plane_defs.proofs.Equations.{grandchildren_stage, refinement_stage}
use Rattle.plane_defs.proofs.Determined.{still_significant}
use Rattle.plane_defs.proofs.Above.{members_acs, any_alike}
use Rattle.item_defs.specs.Scripts.{Script, done, bit_form}
use Rattle.item_defs.specs.Writing.{Writes}
use Rattle.item_defs.proofs.Writing.{writes_none, writes_ask}
use Rattle.plane_defs.specs.Written.{AreChosen}
use Rattle.plane_defs.specs.States.{State, with_bits, with_raw, and_one}
use Rattle.plane_defs.specs.StageScripts.{Terms, bit_script, dc_bit_script, parents_script, children_script, grandchildren_script, refinement_script}
use Rattle.plane_defs.specs.StageScripts.{stage_script}
use Rattle.plane_defs.proofs.WordsWritten.{knows_same}
use Rattle.plane_defs.proofs.Sending.{flat_map_filter, Sends, sends_none, sends_in_turn}
use Rattle.plane_defs.proofs.PlacesSent as places
use Rattle.plane_defs.proofs.PlacesSent.{At}
use Rattle.plane_defs.proofs.StagesSent as stages

digit_is : (x : Bool) → (digit x == 1) ≡ x
digit_is x = grind (arith, nat_tests)

false_unless : (a x : Bool) → (a ≡ true → x ≡ true) → x ≡ false → a ≡ false
false_unless a x h1 h2 = grind (arith, nat_tests)

-- a raw bit of a position
pub bit_sent : (book : Book) (o : List ℕ) (p : ℕ) (x : Bool) (P : List Entry → State → Type 0) (before : List Entry) (s : State) →
    P (before ++ Bit x ∷ []) (with_raw (with_bits s (and_one (λ q. false) p x)) p) → Sends book o (bit_script p s) before (step free (Bit x) ∷ []) P
bit_sent book o p x P before s r =
    subst (λ l. Writes (bit_script p s) (l ++ []) (P (before ++ Bit x ∷ []))) (sym (bit_reading book o before free x))
    (writes_ask (P (before ++ Bit x ∷ [])) s bit_form (λ n. done (with_raw (with_bits s (and_one (λ q. false) p (n == 1))) p)) (raw (digit x)) [] refl
    (writes_none (P (before ++ Bit x ∷ [])) (with_raw (with_bits s (and_one (λ q. false) p (digit x == 1))) p)
    (subst (λ y. P (before ++ Bit x ∷ []) (with_raw (with_bits s (and_one (λ q. false) p y)) p)) (sym (digit_is x)) r)))

module _ (o : List ℕ) (chosen : AreChosen o) (t : Terms) (block v : List ℤ) (same : SameAc block v (t.plane + 1)) (whole : IsMultiple v t.weights) where
  abbrev W : List ℕ
  W = t.weights

  abbrev b : ℕ
  b = t.plane

  abbrev Reads : (n m : ℕ) → (ℕ → Bool) → Bool → List Entry → State → Type 0
  Reads = At o v W b

  -- ---- stage 0

  -- the DC's bit, if it is sent
  abbrev pub dc_bit : Bool
  dc_bit = (coded W b 0 && nat_lt b t.q) && twos_bit (get_or v 0 (pos 0)) b

  dc_sent : (m : ℕ) (families : ℕ → Bool) (before : List Entry) (s : State) → Reads 1 m families false before s →
      Sends t.book o (dc_bit_script t s) before (dc_steps v W b t.q) (Reads 1 m families dc_bit)
  dc_sent m families before s r = by (coded W b 0 && nat_lt b t.q)
    where
      by : (c : Bool) → Sends {G = State} t.book o (if c then bit_script 0 s else done s) before
          (if c then step free (Bit (twos_bit (get_or v 0 (pos 0)) b)) ∷ [] else [])
          (Reads 1 m families (c && twos_bit (get_or v 0 (pos 0)) b))
      by true = bit_sent t.book o 0 (twos_bit (get_or v 0 (pos 0)) b) (Reads 1 m families (twos_bit (get_or v 0 (pos 0)) b)) before s (record {
        knows = knows_same o before (Bit (twos_bit (get_or v 0 (pos 0)) b)) s.options (λ n low. refl) r.knows;
        bits = λ q ac. (let e : (q == 0) ≡ false = (let a : 1 ≤ q = ac.0 in grind (arith, nat_tests)) in
            ap (λ y. s.bits q || (false || (y && twos_bit (get_or v 0 (pos 0)) b))) e ∙ or-false (s.bits q)) ∙ r.bits q ac;
        minus = r.minus;
        enclosing = r.enclosing;
        low = ap (λ y. y || (false || (true && twos_bit (get_or v 0 (pos 0)) b))) r.low;
      })
      by false = sends_none t.book o (Reads 1 m families false) s before r

  -- ---- stage 4

  pub refined_sent : (families : ℕ → Bool) (dc : Bool) (p : ℕ) (c : List Entry) (u : State) → 1 ≤ p → p < 64 → Reads 64 p families dc c u →
      Sends t.book o (if refined block W b p then bit_script p u else done u) c
      (if refined v W b p then step free (Bit (bit (magnitude v p) b)) ∷ [] else []) (Reads 64 (suc p) families dc)
  refined_sent families dc p c u low high r =
      subst (λ y. Sends {G = State} t.book o (if y then bit_script p u else done u) c (if refined v W b p then sent p ∷ [] else []) (Reads 64
      (suc p) families dc))
      (sym (places.refined_is o chosen t block v same whole p (low, high))) (by (refined v W b p) refl)
    where
      sent : ℕ → Step
      sent p = step free (Bit (bit (magnitude v p) b))

      item : ℕ → State → Script State State
      item p u = if refined block W b p then bit_script p u else done u

      Z : ℕ → Bool
      Z q = refined v W b q && bit (magnitude v q) b

      A : ℕ → Bool
      A q = nat_lt q 64 && newly_significant v W b q

      bits_one : (q : ℕ) (x z a : Bool) → ((q == p) ≡ true → x ≡ z) →
          ((a || (nat_lt q p && z)) || (false || ((q == p) && x))) ≡ (a || (nat_lt q (suc p) && z))
      bits_one q x z a h = grind (arith, nat_tests)

      skipped : (q : ℕ) (z : Bool) → ((q == p) ≡ true → z ≡ false) → (nat_lt q p && z) ≡ (nat_lt q (suc p) && z)
      skipped q z h = grind (arith, nat_tests)

      at : (q : ℕ) → (q == p) ≡ true → p ≡ q
      at q e = grind (arith, nat_tests)

      by : (y : Bool) → refined v W b p ≡ y →
          Sends {G = State} t.book o (if y then bit_script p u else done u) c (if y then sent p ∷ [] else []) (Reads 64 (suc p) families dc)
      by true e = bit_sent t.book o p (bit (magnitude v p) b) (Reads 64 (suc p) families dc) c u (record {
        knows = knows_same o c (Bit (bit (magnitude v p) b)) u.options (λ n few. refl) r.knows;
        bits = λ q ac. ap (λ y. y || (false || ((q == p) && bit (magnitude v p) b))) (r.bits q ac) ∙
            bits_one q (bit (magnitude v p) b) (Z q) (A q) (λ f. ap (λ y. y && bit (magnitude v p) b) (sym e) ∙ ap Z (at q f));
        minus = r.minus;
        enclosing = r.enclosing;
        low = (let f : (0 == p) ≡ false = grind (arith, nat_tests) in
            ap (λ y. u.bits 0 || (false || (y && bit (magnitude v p) b))) f ∙ or-false (u.bits 0)) ∙ r.low;
      })
      by false e = sends_none t.book o (Reads 64 (suc p) families dc) u c (record {
        knows = r.knows;
        bits = λ q ac. r.bits q ac ∙ ap (λ y. A q || y) (skipped q (Z q) (λ f. ap Z (sym (at q f)) ∙ ap (λ y. y && bit (magnitude v p) b) e));
        minus = r.minus;
        enclosing = r.enclosing;
        low = r.low;
      })

  refinement_sent : (families : ℕ → Bool) (dc : Bool) (before : List Entry) (s : State) → Reads 64 1 families dc before s →
      Sends t.book o (refinement_script t block s) before (refinement_steps v W b) (Reads 64 64 families dc)
  refinement_sent families dc before s r =
      subst (λ l. Sends t.book o (refinement_script t block s) before l (Reads 64 64 families dc))
      (sym (flat_map_filter (λ p. sent p ∷ []) (refined v W b) (span 1 63)) ∙ flat_map_single sent (filter (refined v W b) (span 1 63)))
      (sends_in_turn t.book o (λ p. Reads 64 p families dc) item (λ p. if refined v W b p then sent p ∷ [] else []) 1 63
      (λ p c u low high z. refined_sent families dc p c u low (omega (arith, high)) z) before s r)
    where
      sent : ℕ → Step
      sent p = step free (Bit (bit (magnitude v p) b))

      item : ℕ → State → Script State State
      item p u = if refined block W b p then bit_script p u else done u

  -- ---- any stage

  -- the places of the stages before one
  abbrev pub reach : ℕ → ℕ
  reach zero = 1
  reach (suc zero) = 1
  reach (suc (suc zero)) = 4
  reach (suc (suc (suc zero))) = 16
  reach (suc (suc (suc (suc k)))) = 64

  abbrev pub fine : ℕ → ℕ
  fine zero = 1
  fine (suc zero) = 1
  fine (suc (suc zero)) = 1
  fine (suc (suc (suc zero))) = 1
  fine (suc (suc (suc (suc zero)))) = 1
  fine (suc (suc (suc (suc (suc k))))) = 64

  abbrev pub known : ℕ → ℕ → Bool
  known zero i = false
  known (suc zero) i = false
  known (suc (suc zero)) i = false
  known (suc (suc (suc k))) i = set_significant v b (Family i)

  abbrev pub sent_dc : ℕ → Bool
  sent_dc zero = false
  sent_dc (suc k) = dc_bit

  -- what the first k stages leave
  abbrev pub Before : ℕ → List Entry → State → Type 0
  Before k = Reads (reach k) (fine k) (known k) (sent_dc k)

  module _ (none : (q : ℕ) → IsAc q → significant v b q ≡ false) where
    none_new : (q : ℕ) → IsAc q → newly_significant v W b q ≡ false
    none_new q ac = newly_significant-is v W b q ∙ ap (λ x. type_due v W b q && x) (none q ac) ∙ and-false (type_due v W b q)

    none_refined : (q : ℕ) → IsAc q → refined v W b q ≡ false
    none_refined q ac = refined-is v W b q ∙
        ap (λ x. x && coded W b q) (false_unless (significant v (b + 1) q) (significant v b q) (still_significant v b q) (none q ac))

    no_family : (i : ℕ) → i < 3 → set_significant v b (Family i) ≡ false
    no_family i lt = set_significant-is v b (Family i) ∙
        any_alike {P = IsAc} (significant v b) (λ q. false) (members (Family i)) (members_acs (Family i) lt) none ∙ never (members (Family i))
      where
        never : (xs : List ℕ) → list_any (λ q. false) xs ≡ false
        never [] = refl
        never (x ∷ xs) = never xs

    known_same : (k j : ℕ) (i : ℕ) → i < 3 → known k i ≡ known j i
    known_same k j i lt = grind (arith, nat_tests, no_family)

    -- a block that has no bit in the plane sends nothing
    idle : (n m k j : ℕ) (dc : Bool) (before : List Entry) (s : State) → Reads n m (known k) dc before s → (x y : ℕ) → Reads x y (known j) dc before s
    idle n m k j dc before s r x y = record {
      knows = r.knows;
      bits = λ q ac. r.bits q ac ∙ nothing q ac n m ∙ sym (nothing q ac x y);
      minus = λ q ac. r.minus q ac ∙ no_sign q ac n ∙ sym (no_sign q ac x);
      enclosing = λ i lt. r.enclosing i lt ∙ known_same k j i lt;
      low = r.low;
    }
      where
        nothing : (q : ℕ) → IsAc q → (n m : ℕ) →
            ((nat_lt q n && newly_significant v W b q) || (nat_lt q m && (refined v W b q && bit (magnitude v q) b))) ≡ false
        nothing q ac n m = grind (arith, nat_tests, none_new, none_refined, and-false)

        no_sign : (q : ℕ) → IsAc q → (n : ℕ) → (nat_lt q n && (newly_significant v W b q && negative (get_or v q (pos 0)))) ≡ false
        no_sign q ac n = ap (λ y. nat_lt q n && (y && negative (get_or v q (pos 0)))) (none_new q ac) ∙ and-false (nat_lt q n)

  module _ (depth : ℕ) (none : nat_lt b depth ≡ false → (q : ℕ) → IsAc q → significant v b q ≡ false) where
    below_depth : (script : Script State State) (steps : List Step) (P : List Entry → State → Type 0) (before : List Entry) (s : State) →
        Sends t.book o script before steps P → (nat_lt b depth ≡ false → P before s) →
        Sends t.book o (if not (nat_lt b depth) then done s else script) before (cond (nat_lt b depth) steps []) P
    below_depth script steps P before s w idle = by (nat_lt b depth) refl
      where
        by : (x : Bool) → nat_lt b depth ≡ x →
            Sends t.book o (if not (nat_lt b depth) then done s else script) before (cond (nat_lt b depth) steps []) P
        by true e = subst (λ x. Sends t.book o (if not x then done s else script) before (cond x steps []) P) (sym e) w
        by false e = subst (λ x. Sends t.book o (if not x then done s else script) before (cond x steps []) P) (sym e) (sends_none t.book o P s before (idle e))

    pub stage_sent : (k : ℕ) → k < 5 → (before : List Entry) (s : State) → Before k before s →
        Sends t.book o (stage_script t k depth block s) before (block_steps (stage_number k) v depth W b t.q) (Before (suc k))
    stage_sent zero lt before s r = rw (dc_stage v depth W b t.q) (dc_sent 1 (known 0) before s r)
    stage_sent (suc zero) lt before s r = rw (parents_stage v depth W b t.q)
        (below_depth (parents_script t block s) (parents_steps v W b) (Before 2) before s
        (stages.parents_sent o chosen t block v same whole 1 (known 1) dc_bit before s r) (λ e. idle (none e) 1 1 1 2 dc_bit before s r 4 1))
    stage_sent (suc (suc zero)) lt before s r = rw (children_stage v depth W b t.q)
        (below_depth (children_script t block s) (children_steps v W b) (Before 3) before s
        (stages.children_sent o chosen t block v same whole 1 (known 2) dc_bit before s r) (λ e. idle (none e) 4 1 2 3 dc_bit before s r 16 1))
    stage_sent (suc (suc (suc zero))) lt before s r = rw (grandchildren_stage v depth W b t.q)
        (below_depth (grandchildren_script t block s) (grandchildren_steps v W b) (Before 4) before s
        (stages.grandchildren_sent o chosen t block v same whole 1 (omega arith) dc_bit before s r) (λ e. idle (none e) 16 1 3 4 dc_bit before s r 64 1))
    stage_sent (suc (suc (suc (suc zero)))) lt before s r = rw (refinement_stage v depth W b t.q)
        (below_depth (refinement_script t block s) (refinement_steps v W b) (Before 5) before s
        (refinement_sent (known 4) dc_bit before s r) (λ e. idle (none e) 64 1 4 5 dc_bit before s r 64 64))
    stage_sent (suc (suc (suc (suc (suc k))))) lt before s r = absurd (omega (arith, lt))
