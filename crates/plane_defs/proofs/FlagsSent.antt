-- The items of words of flags, and of groups of types, follow their scripts.
use Rattle.std.proofs.Common.{◌≡◌, ℕ, suc, ◌+◌, ◌*◌, ◌≤◌, ◌<◌, ◌==◌, ◌&&◌, ◌||◌, not, nat_lt, nat_le, Bool, true, false, if◌then◌else◌, List, [], ◌∷◌}
use Rattle.std.proofs.Common.{◌++◌, map, filter, refl, ap, sym, ◌∙◌, subst, arith, ℤ, pos, append-nil, inl, inr}
use Rattle.std.specs.List.{flat_map, list_any}
use Rattle.std.proofs.lemmas.Bool.Decides.{nat_tests}
use lib.ListN.{get_or}
use Rattle.std.proofs.lemmas.Bool.{cases_lt}
use Rattle.std.proofs.Math.Bool.{and-false}
use Rattle.item_defs.specs.Bits.{bit, digit}
use Rattle.item_defs.specs.Items.{raw}
use Rattle.plane_defs.specs.declared.entries.Entry.{Entry}
use Rattle.plane_defs.specs.declared.entries.Entry.TheVariants.{Bit}
use Rattle.plane_defs.specs.declared.sets.Set.{Set}
use Rattle.plane_defs.specs.declared.sets.Set.TheVariants.{Descendants}
use Rattle.plane_defs.specs.Spans.{span}
use Rattle.plane_defs.specs.Sets.{magnitude, significant, refined, live, set_significant, enclosing_significant, type_due, flag_due, newly_significant, IsKnown}
use Rattle.plane_defs.specs.Entries.{negative, word, flags}
use Rattle.plane_defs.specs.Reading.{entry_reading}
use Rattle.plane_defs.specs.Steps.{Check, free, Step, step, is_new, some_one_where, typed_steps, flags_step}
use Rattle.plane_defs.specs.StepLaws.{SameAc}
use Rattle.plane_defs.specs.Laws.{IsMultiple}
use Rattle.plane_defs.proofs.Equations.{newly_significant-is, enclosing-descendants, bit_reading}
use Rattle.plane_defs.proofs.Alike.{filter_same}
use Rattle.plane_defs.proofs.Above.{all_span}
use Rattle.plane_defs.proofs.AlikeSteps.{none_any, at_span}
use Rattle.item_defs.specs.Scripts.{Script, done, bit_form, ask_bit, in_turn}
use Rattle.item_defs.specs.Writing.{Writes}
use Rattle.item_defs.proofs.Writing.{writes_none, writes_ask, writes_weaker}
use Rattle.plane_defs.specs.Written.{has, Knows, AreChosen}
use Rattle.plane_defs.specs.States.{State, with_options}
use Rattle.plane_defs.specs.WordScripts.{due_script, types_script, group_script}
use Rattle.plane_defs.specs.StageScripts.{Terms, above, is_due, descendants_script}
use Rattle.plane_defs.proofs.WordGoes.{due_few, four_long, span_short}
use Rattle.plane_defs.proofs.WordsWritten.{knows_same}
use Rattle.plane_defs.proofs.TypesWritten.{has_filter, WroteDue, due_written}
use Rattle.plane_defs.proofs.Sending.{flat_map_filter, Sends, sends_none, sends_in_turn}
use Rattle.plane_defs.proofs.PlacesSent as places
use Rattle.plane_defs.proofs.PlacesSent.{At, has_span, map_filter_map}

module _ (o : List ℕ) (chosen : AreChosen o) (t : Terms) (block v : List ℤ) (same : SameAc block v (t.plane + 1)) (whole : IsMultiple v t.weights) where
  abbrev W : List ℕ
  W = t.weights

  abbrev b : ℕ
  b = t.plane

  abbrev Reads : (n m : ℕ) → (ℕ → Bool) → Bool → List Entry → State → Type 0
  Reads = At o v W b

  -- ---- a word of flags

  -- what it leaves: which sets are new, and so which are significant
  pub record Flags (S : ℕ → Set) (n : ℕ) (s : State) (now : List Entry) (r : State × (ℕ → Bool)) : Type 0 where
    pub knows : Knows o now r.0.options
    pub rest : r.0 ≡ with_options s r.0.options
    pub new : (i : ℕ) → i < n → r.1 i ≡ is_new v b (S i)
    pub all : (i : ℕ) → i < n → (above t block (S i) || r.1 i) ≡ set_significant v b (S i)

  pub flags_are : (S : ℕ → Set) (n : ℕ) → ((i : ℕ) → i < n → IsKnown (S i)) → (enclosing : ℕ → Bool) →
      ((i : ℕ) → i < n → enclosing i ≡ enclosing_significant v b (S i)) →
      map (λ i. set_significant v b (S i)) (filter (λ i. is_due t block (S i) (enclosing i)) (span 0 n)) ≡ flags v W b (map S (span 0 n))
  flags_are S n known enclosing is =
      let due : ℕ → Bool = λ i. is_due t block (S i) (enclosing i) in
      ap (map (λ i. set_significant v b (S i))) (filter_same due (λ i. flag_due v W b (S i)) (span 0 n)
      (all_span (λ i. due i ≡ flag_due v W b (S i)) 0 n (λ i low high.
      places.due_is o chosen t block v same whole (S i) (enclosing i) (known i (omega (arith, high))) (is i (omega (arith, high)))))) ∙
      sym (map_filter_map (set_significant v b) (flag_due v W b) S (span 0 n))

  pub flags_sent : (S : ℕ → Set) (n : ℕ) → n ≤ 4 → ((i : ℕ) → i < n → IsKnown (S i)) → (enclosing : ℕ → Bool) →
      ((i : ℕ) → i < n → enclosing i ≡ enclosing_significant v b (S i)) → (check : Check) (before : List Entry) (s : State) → Knows o before s.options →
      Sends t.book o (due_script t.book (λ i. is_due t block (S i) (enclosing i)) check (span 0 n) s) before
      (flags_step v W b check (map S (span 0 n)) ∷ []) (Flags S n s)
  flags_sent S n few known enclosing is check before s knows =
      let ps = span 0 n in
      let script = due_script t.book due check ps s in
      subst (λ e. Writes script (entry_reading t.book o before check e ++ []) (Flags S n s (before ++ e ∷ []))) (ap word these)
      (subst (λ l. Writes script l (Flags S n s (before ++ word (map sig (filter due ps)) ∷ []))) (sym (append-nil _))
      (writes_weaker (WroteDue o before (word (map sig (filter due ps))) (filter due ps) sig s) (Flags S n s (before ++ word (map sig (filter due ps)) ∷ []))
      script (entry_reading t.book o before check (word (map sig (filter due ps))))
      (λ r p. record {
        knows = p.knows;
        rest = p.same;
        new = λ i lt. p.is i ∙ ap (λ x. x && sig i) (at i lt) ∙ places.flag_new o chosen t block v same whole (S i) (known i lt);
        all = λ i lt. ap (λ x. x || r.1 i) (places.above_is o chosen t block v same whole (S i) (known i lt)) ∙
            ap (λ x. set_significant v (b + 1) (S i) || x) (p.is i ∙ ap (λ x. x && sig i) (at i lt)) ∙
            places.flag_all o chosen t block v same whole (S i) (known i lt);
      })
      (due_written t.book o chosen before check due sig ps (let f = due_few due ps in let g = span_short 0 n in omega (arith, f, g, few)) s knows)))
    where
      due : ℕ → Bool
      due i = is_due t block (S i) (enclosing i)

      sig : ℕ → Bool
      sig i = set_significant v b (S i)

      flag_is : (i : ℕ) → i < n → due i ≡ flag_due v W b (S i)
      flag_is i lt = places.due_is o chosen t block v same whole (S i) (enclosing i) (known i lt) (is i lt)

      inside : (i : ℕ) → i < n → has (span 0 n) i ≡ true
      inside i lt = rw (has_span 0 n i) by_tests
        where
          by_tests : (nat_le 0 i && nat_lt i (0 + n)) ≡ true
          by_tests = grind (arith, nat_tests)

      at : (i : ℕ) → i < n → has (filter due (span 0 n)) i ≡ flag_due v W b (S i)
      at i lt = has_filter due (span 0 n) i ∙ ap (λ x. x && due i) (inside i lt) ∙ flag_is i lt

      these : map sig (filter due (span 0 n)) ≡ flags v W b (map S (span 0 n))
      these = flags_are S n known enclosing is

  -- the same for the words that are refused and the sets of a step
  pub flags_as : (S : ℕ → Set) (n : ℕ) → n ≤ 4 → ((i : ℕ) → i < n → IsKnown (S i)) → (enclosing : ℕ → Bool) →
      ((i : ℕ) → i < n → enclosing i ≡ enclosing_significant v b (S i)) → (check also : Check) → check ≡ also → (sets : List Set) → map S (span 0 n) ≡ sets →
      (before : List Entry) (s : State) → Knows o before s.options →
      Sends t.book o (due_script t.book (λ i. is_due t block (S i) (enclosing i)) check (span 0 n) s) before (flags_step v W b also sets ∷ []) (Flags S n s)
  flags_as S n few known enclosing is check also one sets these before s knows =
      let script = due_script t.book (λ i. is_due t block (S i) (enclosing i)) check (span 0 n) s in
      subst (λ l. Sends t.book o script before (flags_step v W b also l ∷ []) (Flags S n s)) these
      (subst (λ c. Sends t.book o script before (flags_step v W b c (map S (span 0 n)) ∷ []) (Flags S n s)) one
      (flags_sent S n few known enclosing is check before s knows))

  -- ---- the flag of B

  pub record Flag (now : List Entry) (s : State) (all : Bool) : Type 0 where
    pub knows : Knows o now s.options
    pub is : all ≡ set_significant v b Descendants

  pub flag_sent : (before : List Entry) (s : State) → Knows o before s.options →
      Sends t.book o (descendants_script t block s) before (map (λ x. step free (Bit x)) (flags v W b (Descendants ∷ []))) (λ now. Flag now s)
  flag_sent before s knows =
      by (not (above t block Descendants) && live W b Descendants) refl
    where
      sig : Bool
      sig = set_significant v b Descendants

      steps : Bool → List Step
      steps x = map (λ x. step free (Bit x)) (map (set_significant v b) (if x then Descendants ∷ [] else []))

      flag_if : Bool → Script State Bool
      flag_if x = if x then ask_bit s (λ b. done b) else done (above t block Descendants)

      due : (not (above t block Descendants) && live W b Descendants) ≡ flag_due v W b Descendants
      due = places.due_is o chosen t block v same whole Descendants true tt (sym (enclosing-descendants v b))

      back : (x : Bool) → (digit x == 1) ≡ x
      back x = grind (arith, nat_tests)

      none : flag_due v W b Descendants ≡ false → above t block Descendants ≡ sig
      none e = places.above_is o chosen t block v same whole Descendants tt ∙ or_nothing (set_significant v (b + 1) Descendants) ∙
          ap (λ x. set_significant v (b + 1) Descendants || (x && sig)) (sym e) ∙ places.flag_all o chosen t block v same whole Descendants tt
        where
          or_nothing : (a : Bool) → a ≡ (a || false)
          or_nothing a = grind (arith, nat_tests)

      by : (x : Bool) → (not (above t block Descendants) && live W b Descendants) ≡ x →
          Sends t.book o (descendants_script t block s) before (steps (flag_due v W b Descendants)) (λ now. Flag now s)
      by true e =
          subst (λ y. Sends t.book o (flag_if y) before (steps (flag_due v W b Descendants)) (λ now. Flag now s)) (sym e)
          (subst (λ y. Sends t.book o (flag_if true) before (steps y) (λ now. Flag now s)) (sym e ∙ due)
          (subst (λ l. Writes (flag_if true) (l ++ []) (Flag (before ++ Bit sig ∷ []) s)) (sym (bit_reading t.book o before free sig))
          (writes_ask (Flag (before ++ Bit sig ∷ []) s) s bit_form (λ n. done (n == 1)) (raw (digit sig)) [] refl
          (writes_none (Flag (before ++ Bit sig ∷ []) s) (digit sig == 1)
          (record { knows = knows_same o before (Bit sig) s.options (λ n low. refl) knows; is = back sig })))))
      by false e =
          subst (λ y. Sends t.book o (flag_if y) before (steps (flag_due v W b Descendants)) (λ now. Flag now s)) (sym e)
          (subst (λ y. Sends t.book o (flag_if false) before (steps y) (λ now. Flag now s)) (sym e ∙ due)
          (sends_none t.book o (λ now. Flag now s) (above t block Descendants) before (record { knows = knows; is = none (sym due ∙ e) })))

  -- ---- groups of types

  -- no number of these places is new
  pub reads_skip : (n k m : ℕ) (families : ℕ → Bool) (dc : Bool) → n ≤ k → ((q : ℕ) → n ≤ q → q < k → newly_significant v W b q ≡ false) →
      (before : List Entry) (s : State) → Reads n m families dc before s → Reads k m families dc before s
  reads_skip n k m families dc le none before s r = record {
    knows = r.knows;
    bits = λ q ac. r.bits q ac ∙ ap (λ x. x || rest q) (kept q (newly_significant v W b q) (λ a c. none q a c));
    minus = λ q ac. r.minus q ac ∙ signs q (newly_significant v W b q) (λ a c. none q a c);
    enclosing = r.enclosing;
    low = r.low;
  }
    where
      rest : ℕ → Bool
      rest q = nat_lt q m && (refined v W b q && bit (magnitude v q) b)

      kept : (q : ℕ) (x : Bool) → (n ≤ q → q < k → x ≡ false) → (nat_lt q n && x) ≡ (nat_lt q k && x)
      kept q x h = elim (cases_lt q n) [
        | inl lt ↦ (let p : nat_lt q n ≡ true = grind (arith, nat_tests) in let r : nat_lt q k ≡ true = grind (arith, nat_tests) in
            ap (λ y. y && x) (p ∙ sym r))
        | inr ge ↦ elim (cases_lt q k) [
          | inl lt ↦ (let z : x ≡ false = h ge lt in ap (λ y. nat_lt q n && y) z ∙ and-false (nat_lt q n) ∙ sym (ap (λ y. nat_lt q k && y) z ∙
              and-false (nat_lt q k)))
          | inr more ↦ (let p : nat_lt q n ≡ false = grind (arith, nat_tests) in let r : nat_lt q k ≡ false = grind (arith, nat_tests) in
              ap (λ y. y && x) (p ∙ sym r))
        ]
      ]

      signs : (q : ℕ) (x : Bool) → (n ≤ q → q < k → x ≡ false) → (nat_lt q n && (x && negative (get_or v q (pos 0)))) ≡ (nat_lt q k && (x && negative
          (get_or v q (pos 0))))
      signs q x h = kept q (x && negative (get_or v q (pos 0))) (λ a c. ap (λ y. y && negative (get_or v q (pos 0))) (h a c))

  pub quiet : (a c q : ℕ) → list_any (significant v b) (span a c) ≡ false → a ≤ q → q < a + c → newly_significant v W b q ≡ false
  quiet a c q none low high = newly_significant-is v W b q ∙
      ap (λ x. type_due v W b q && x) (at_span (λ p. significant v b p ≡ false) a c q (none_any (significant v b) (span a c) none) low high) ∙
      and-false (type_due v W b q)

  -- the types of a group
  abbrev pub group_steps : (new : ℕ → Bool) (place : ℕ → ℕ) → ℕ → List Step
  group_steps new place j = typed_steps v W b (some_one_where (new j)) (span (place j) 4)

  pub group_sent : (first n m : ℕ) (families : ℕ → Bool) (dc : Bool) (sent wanted in_v new : ℕ → Bool) (place : ℕ → ℕ) → ((j : ℕ) → first + 4 * j ≡ place j) →
      1 ≤ first → first + 4 * n ≤ 64 → ((j : ℕ) → j < n → sent j ≡ in_v j) → ((j : ℕ) → j < n → wanted j ≡ new j) →
      ((j : ℕ) → j < n → in_v j ≡ false → list_any (significant v b) (span (place j) 4) ≡ false) →
      (j : ℕ) → j < n → (c : List Entry) (u : State) → Reads (first + 4 * j) m families dc c u → (x : Bool) → in_v j ≡ x →
      Sends t.book o (group_script t.book (type_due block W b) first sent wanted j u) c
      (if in_v j then group_steps new place j else []) (Reads (first + 4 * suc j) m families dc)
  group_sent first n m families dc sent wanted in_v new place at low high sent_is wanted_is none j lt c u p true e =
      let k : first + 4 * j + 4 ≡ first + 4 * suc j = omega arith in
      let T = types_script t.book (type_due block W b) (wanted j) (span (first + 4 * j) 4) u in
      subst (λ y. Sends t.book o (if y then T else done u) c (if in_v j then group_steps new place j else []) (Reads (first + 4 * suc j) m families dc))
      (sym (sent_is j lt ∙ e))
      (subst (λ y. Sends t.book o T c (if y then group_steps new place j else []) (Reads (first + 4 * suc j) m families dc)) (sym e)
      (subst (λ i. Sends t.book o T c (typed_steps v W b (some_one_where (new j)) (span (place j) 4)) (Reads i m families dc)) k
      (subst (λ i. Sends t.book o T c (typed_steps v W b (some_one_where (new j)) (span i 4)) (Reads (first + 4 * j + 4) m families dc)) (at j)
      (subst (λ y. Sends t.book o T c (typed_steps v W b (some_one_where y) (span (first + 4 * j) 4)) (Reads (first + 4 * j + 4) m families dc))
      (wanted_is j lt)
      (places.types_sent o chosen t block v same whole (first + 4 * j) 4 m families dc (omega (arith, low)) (omega arith) (omega (arith, lt, high))
      (four_long (first + 4 * j)) (wanted j) c u p)))))
  group_sent first n m families dc sent wanted in_v new place at low high sent_is wanted_is none j lt c u p false e =
      let T = types_script t.book (type_due block W b) (wanted j) (span (first + 4 * j) 4) u in
      subst (λ y. Sends t.book o (if y then T else done u) c (if in_v j then group_steps new place j else []) (Reads (first + 4 * suc j) m families dc))
      (sym (sent_is j lt ∙ e))
      (subst (λ y. Sends {G = State} t.book o (done u) c (if y then group_steps new place j else []) (Reads (first + 4 * suc j) m families dc)) (sym e)
      (sends_none t.book o (Reads (first + 4 * suc j) m families dc) u c
      (reads_skip (first + 4 * j) (first + 4 * suc j) m families dc (omega arith)
      (λ q from to. quiet (place j) 4 q (none j lt e) (let a = at j in omega (arith, a, from)) (let a = at j in omega (arith, a, to))) c u p)))

  pub groups_sent : (first n m : ℕ) (families : ℕ → Bool) (dc : Bool) (sent wanted in_v new : ℕ → Bool) (place : ℕ → ℕ) → ((j : ℕ) → first + 4 * j ≡ place j) →
      1 ≤ first → first + 4 * n ≤ 64 → ((j : ℕ) → j < n → sent j ≡ in_v j) → ((j : ℕ) → j < n → wanted j ≡ new j) →
      ((j : ℕ) → j < n → in_v j ≡ false → list_any (significant v b) (span (place j) 4) ≡ false) → (before : List Entry) (s : State) →
      Reads first m families dc before s →
      Sends t.book o (in_turn (group_script t.book (type_due block W b) first sent wanted) 0 n s) before
      (flat_map (λ j. typed_steps v W b (some_one_where (new j)) (span (place j) 4)) (filter in_v (span 0 n))) (Reads (first + 4 * n) m families dc)
  groups_sent first n m families dc sent wanted in_v new place at low high sent_is wanted_is none before s r =
      let z : 0 + n ≡ n = omega arith in
      let y : first ≡ first + 4 * 0 = omega arith in
      subst (λ l. Sends t.book o (in_turn (group_script t.book due first sent wanted) 0 n s) before l (Reads (first + 4 * n) m families dc))
      (sym (flat_map_filter steps in_v (span 0 n)))
      (subst (λ k. Sends t.book o (in_turn (group_script t.book due first sent wanted) 0 n s) before
      (flat_map (λ j. if in_v j then steps j else []) (span 0 n)) (Reads (first + 4 * k) m families dc)) z
      (sends_in_turn t.book o (λ j. Reads (first + 4 * j) m families dc) (group_script t.book due first sent wanted) (λ j. if in_v j then steps j else []) 0 n
      (λ j c u from to p. group_sent first n m families dc sent wanted in_v new place at low high sent_is wanted_is none j (omega (arith, to, z)) c u p
      (in_v j) refl) before s (subst (λ k. Reads k m families dc before s) y r)))
    where
      due : ℕ → Bool
      due = type_due block W b

      steps : ℕ → List Step
      steps = group_steps new place
