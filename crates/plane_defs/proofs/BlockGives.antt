-- What is given within a stage of a block: the types, the signs and the refinement of its values up to some places.
use Rattle.std.proofs.Common.{◌≡◌, ℕ, zero, suc, ◌+◌, ◌*◌, ◌≤◌, ◌<◌, ◌==◌, ◌&&◌, ◌||◌, not, nat_lt, Bool, true, false, cond, if◌then◌else◌, List, [], ◌∷◌}
use Rattle.std.proofs.Common.{◌++◌, length, map, filter, refl, ap, sym, ◌∙◌, subst, arith, append-nil, append_assoc, ℤ, pos, Option, Some, None}
use Rattle.std.specs.List.{flat_map, list_any}
use Rattle.std.proofs.lemmas.Bool.Decides.{nat_tests}
use Rattle.std.proofs.lemmas.List.Concat.{flat_map_single}
use Rattle.std.proofs.Math.Bool.{and-false}
use lib.ListN.{get_or}
use Rattle.item_defs.specs.Bits.{bit, bits_of, digit}
use Rattle.item_defs.specs.Items.{Item}
use Rattle.base_122.specs.declared.book.Book.{Book}
use Rattle.plane_defs.specs.declared.entries.Entry.{Entry}
use Rattle.plane_defs.specs.declared.entries.Entry.TheVariants.{Bit}
use Rattle.plane_defs.specs.declared.sets.Set.TheVariants.{Descendants, Family, Grandchildren, Quad}
use Rattle.plane_defs.specs.Spans.{span}
use Rattle.plane_defs.specs.Sets.{magnitude, significant, coded, set_significant, live, type_due, newly_significant, refined, children_of, quad_of}
use Rattle.plane_defs.specs.Entries.{word, negative, types, flags, stage_number}
use Rattle.plane_defs.specs.Reading.{entry_reading, read_after}
use Rattle.plane_defs.specs.Steps.{Check, free, ones_at, Step, step, is_new, some_one_where, flags_step, typed_steps}
use Rattle.plane_defs.specs.Steps.{parents_steps, descendants_check, children_types_steps, children_steps, three_grandchildren, grandchildren_check}
use Rattle.plane_defs.specs.Steps.{quads_types_steps, quads_steps, all_quads_steps, grandchildren_steps, refinement_steps, block_steps}
use Rattle.plane_defs.specs.StepLaws.{entries_of, IsAc, SameAc}
use Rattle.plane_defs.specs.Laws.{IsMultiple}
use Rattle.plane_defs.proofs.Equations.{span-none, bit_reading, enclosing-family, enclosing-grandchildren, enclosing-quad, is_new-is, parents_stage}
use Rattle.plane_defs.proofs.Equations.{children_stage, grandchildren_stage, refinement_stage}
use Rattle.plane_defs.proofs.Alike.{filter_same}
use Rattle.plane_defs.proofs.Above.{all_acs, all_zip}
use Rattle.plane_defs.proofs.AlikeSteps.{in_family, in_quad}
use Rattle.item_defs.specs.Scripts.{Script, done, ask, then_ask, in_turn, bit_form}
use Rattle.item_defs.specs.Following.{Follows}
use Rattle.item_defs.specs.Writing.{Writes}
use Rattle.item_defs.proofs.ScriptGives.{GivesAfter, after_weaker, after_then, Gives, Always, gives_always, always_weaker, gives_then, follows_rest}
use Rattle.plane_defs.specs.Written.{AreChosen}
use Rattle.plane_defs.specs.States.{State, with_options, with_bits, with_minus, and_one, with_families}
use Rattle.plane_defs.specs.WordScripts.{option_script, coded_script, due_script, signs_script, types_script, group_script, raw_form, ones}
use Rattle.plane_defs.specs.StageScripts.{Terms, above, is_due, bit_script, parents_script, descendants_script, children_script, is_childless, quads_script}
use Rattle.plane_defs.specs.StageScripts.{grandchildren_script, refinement_script, stage_script}
use Rattle.plane_defs.proofs.WordGoes.{three_long, due_few, four_long}
use Rattle.plane_defs.proofs.TypesWritten.{WroteDue, new_places, new_due, due_written}
use Rattle.plane_defs.proofs.Sending.{span-first, flat_map_filter, read_append, Sends}
use Rattle.plane_defs.proofs.PlacesSent as places
use Rattle.plane_defs.proofs.PlacesSent.{At}
use Rattle.plane_defs.proofs.FlagsSent as words
use Rattle.plane_defs.proofs.StagesSent as stages
use Rattle.plane_defs.proofs.StagesSent.{three_sets, four_sets}
use Rattle.plane_defs.proofs.BlockSent as sent

-- ---- steps one after another

give_then : {G A B : Type 0} (book : Book) (o : List ℕ) (P : List Entry → A → Type 0) (Q : G → Type 0) (s : Script G A) (next : A → Script G B)
    (before : List Entry) (xs ys : List Step) → Sends book o s before xs P → Gives s (read_after book o before xs) Q →
    ((a : A) → P (before ++ entries_of xs) a → Gives (next a) (read_after book o (before ++ entries_of xs) ys) Q) →
    Gives (then_ask s next) (read_after book o before (xs ++ ys)) Q
give_then book o P Q s next before xs ys w g more =
    subst (λ l. Gives (then_ask s next) l Q) (sym (read_append book o before xs ys))
    (gives_then Q s next (read_after book o before xs) (read_after book o (before ++ entries_of xs) ys) w.end w.follows g (more w.end w.is))

pub give_in_turn : {S : Type 0} (book : Book) (o : List ℕ) (P : ℕ → List Entry → S → Type 0) (Q : S → Type 0) (item : ℕ → S → Script S S)
    (steps : ℕ → List Step) (j n : ℕ) →
    ((i : ℕ) (b : List Entry) (s : S) → j ≤ i → i < j + n → P i b s →
    Sends book o (item i s) b (steps i) (P (suc i)) × Gives (item i s) (read_after book o b (steps i)) Q) →
    (b : List Entry) (s : S) → P j b s → Gives (in_turn item j n s) (read_after book o b (flat_map steps (span j n))) Q
give_in_turn book o P Q item steps j zero each b s p = tt
give_in_turn book o P Q item steps j (suc n) each b s p =
    let here = each j b s (omega arith) (omega arith) p in
    subst (λ l. Gives (in_turn item j (suc n) s) (read_after book o b (flat_map steps l)) Q) (span-first j n)
    (give_then book o (P (suc j)) Q (item j s) (in_turn item (suc j) n) b (steps j) (flat_map steps (span (suc j) n)) here.0 here.1
    (λ t q. give_in_turn book o P Q item steps (suc j) n (λ i c u low high. each i c u (omega (arith, low)) (omega (arith, high)))
    (b ++ entries_of (steps j)) t q))

-- after which items: those of the steps before, and some of the step's own
pub after_in_turn : {S : Type 0} (book : Book) (o : List ℕ) (P : ℕ → List Entry → S → Type 0) (Q : ℕ → List Item → S → Type 0) (item : ℕ → S → Script S S)
    (steps : ℕ → List Step) (j n : ℕ) →
    ((i : ℕ) (b : List Entry) (s : S) → j ≤ i → i < j + n → P i b s →
    Sends book o (item i s) b (steps i) (P (suc i)) × GivesAfter (item i s) (read_after book o b (steps i)) (Q i)) →
    (b : List Entry) (s : S) → P j b s → GivesAfter (in_turn item j n s) (read_after book o b (flat_map steps (span j n)))
    (λ l g. (m : ℕ) × (m < n) × (some : List Item) × (l ≡ read_after book o b (flat_map steps (span j m)) ++ some) × Q (j + m) some g)
after_in_turn book o P Q item steps j zero each b s p = tt
after_in_turn {S} book o P Q item steps j (suc n) each b s p =
    let here = each j b s (omega arith) (omega arith) p in
    let R : List Item → S → Type 0 = λ l g. (m : ℕ) × (m < suc n) × (some : List Item) ×
    (l ≡ read_after book o b (flat_map steps (span j m)) ++ some) × Q (j + m) some g in
    let now = b ++ entries_of (steps j) in
    let first : j ≡ j + 0 = omega arith in
    subst (λ l. GivesAfter (in_turn item j (suc n) s) (read_after book o b (flat_map steps l)) R) (span-first j n)
    (subst (λ l. GivesAfter (in_turn item j (suc n) s) l R) (sym (read_append book o b (steps j) (flat_map steps (span (suc j) n))))
    (after_then R (item j s) (in_turn item (suc j) n) (read_after book o b (steps j)) (read_after book o now (flat_map steps (span (suc j) n)))
    here.0.end here.0.follows
    (after_weaker (Q j) R (λ l g z. (
      0,
      omega arith,
      l,
      ap (λ x. read_after book o b (flat_map steps x) ++ l) (sym (span-none j)),
      subst (λ k. Q k l g) first z,
    )) (item j s) (read_after book o b (steps j)) here.1)
    (after_weaker _ (λ l. R (read_after book o b (steps j) ++ l)) (λ l g z. (
      suc z.0,
      (let lt = z.1 in omega (arith, lt)),
      z.2,
      ap (λ x. read_after book o b (steps j) ++ x) z.3 ∙
          sym (append_assoc (read_after book o b (steps j)) (read_after book o now (flat_map steps (span (suc j) z.0))) z.2) ∙
          ap (λ x. x ++ z.2) (sym (read_append book o b (steps j) (flat_map steps (span (suc j) z.0))) ∙
          ap (λ x. read_after book o b (flat_map steps x)) (span-first j z.0)),
      subst (λ k. Q k z.2 g) (let e : suc j + z.0 ≡ j + suc z.0 = omega arith in e) z.4,
    )) (in_turn item (suc j) n here.0.end) (read_after book o now (flat_map steps (span (suc j) n)))
    (after_in_turn book o P Q item steps (suc j) n (λ i c u low high. each i c u (omega (arith, low)) (omega (arith, high))) now here.0.end here.0.is))))

-- ---- words: only options are read before their bits

abbrev Same : State → State → Type 0
Same s g = g ≡ with_options s g.options

due_always : (book : Book) (due : ℕ → Bool) (check : Check) (ps : List ℕ) (s : State) → Always (due_script book due check ps s) (Same s)
due_always book due check ps s = by (length (filter due ps) == 0) (length (filter due ps) == 1) (s.options (length (filter due ps)))
  where
    next : State × ℕ → Script State (State × (ℕ → Bool))
    next w = done (w.0, ones (filter due ps) (bits_of (length (filter due ps)) w.1))

    by : (x y : Bool) (z : Option ℕ) →
        Always (then_ask (if x then done (s, 0) else if y then ask s (raw_form check) (λ value. done (s, value)) else
        then_ask (option_script (length (filter due ps)) s z) (coded_script book (length (filter due ps)) check)) next) (Same s)
    by true y z = tt
    by false true z = (refl, λ n. tt)
    by false false (Some x) = (refl, λ n. tt)
    by false false None = (refl, λ n. (refl, λ k. tt))

module _ (o : List ℕ) (chosen : AreChosen o) (t : Terms) (block v : List ℤ) (same : SameAc block v (t.plane + 1)) (whole : IsMultiple v t.weights) where
  abbrev W : List ℕ
  W = t.weights

  abbrev b : ℕ
  b = t.plane

  abbrev newly : ℕ → Bool
  newly = newly_significant v W b

  abbrev minus_of : ℕ → Bool
  minus_of q = negative (get_or v q (pos 0))

  abbrev Reads : (n m : ℕ) → (ℕ → Bool) → Bool → List Entry → State → Type 0
  Reads = At o v W b

  -- the types of the places below one, the signs of those below another, and the refinement of those below a third
  pub record Partial (dc : Bool) (s : State) : Type 0 where
    pub types : ℕ
    pub signs : ℕ
    pub fine : ℕ
    pub bits : (q : ℕ) → IsAc q → s.bits q ≡ ((nat_lt q types && newly q) || (nat_lt q fine && (refined v W b q && bit (magnitude v q) b)))
    pub minus : (q : ℕ) → IsAc q → s.minus q ≡ (nat_lt q signs && (newly q && minus_of q))
    pub low : s.bits 0 ≡ dc

  pub partial_at : (n m : ℕ) (families : ℕ → Bool) (dc : Bool) (before : List Entry) (s : State) → Reads n m families dc before s → Partial dc s
  partial_at n m families dc before s r = record { types = n; signs = n; fine = m; bits = r.bits; minus = r.minus; low = r.low }

  partial_same : (dc : Bool) (s g : State) → Same s g → Partial dc s → Partial dc g
  partial_same dc s g e p = subst (Partial dc) (sym e) (record { types = p.types; signs = p.signs; fine = p.fine; bits = p.bits; minus = p.minus; low = p.low })

  flags_give : (dc : Bool) (set : ℕ → Bool) (check : Check) (ps : List ℕ) (s : State) → Partial dc s → (items : List Item) →
      Gives (due_script t.book set check ps s) items (Partial dc)
  flags_give dc set check ps s p items =
      gives_always (Partial dc) (due_script t.book set check ps s)
      (always_weaker (Same s) (Partial dc) (λ g e. partial_same dc s g e p) (due_script t.book set check ps s) (due_always t.book set check ps s)) items

  -- ---- signs

  abbrev sign_steps : List ℕ → List Step
  sign_steps ps = map (λ p. step free (Bit (minus_of p))) ps

  -- the signs below this place were read
  record Signed (a n m : ℕ) (dc : Bool) (s : State) : Type 0 where
    bits : (q : ℕ) → IsAc q → s.bits q ≡ ((nat_lt q n && newly q) || (nat_lt q m && (refined v W b q && bit (magnitude v q) b)))
    minus : (q : ℕ) → IsAc q → s.minus q ≡ (nat_lt q a && (newly q && minus_of q))
    low : s.bits 0 ≡ dc

  signs_give : (n m : ℕ) (dc : Bool) (a c : ℕ) (before : List Entry) (s : State) → Signed a n m dc s →
      Gives (signs_script (filter newly (span a c)) s) (read_after t.book o before (sign_steps (filter newly (span a c)))) (Partial dc)
  signs_give n m dc a zero before s p =
      subst (λ l. Gives (signs_script (filter newly l) s) (read_after t.book o before (sign_steps (filter newly l))) (Partial dc)) (sym (span-none a)) tt
  signs_give n m dc a (suc c) before s p =
      subst (λ l. Gives (signs_script (filter newly l) s) (read_after t.book o before (sign_steps (filter newly l))) (Partial dc)) (span-first a c)
      (by (newly a) refl (signs_give n m dc (suc a) c))
    where
      rest : List ℕ
      rest = filter newly (span (suc a) c)

      back : (x : Bool) → (digit x == 1) ≡ x
      back x = grind (arith, nat_tests)

      at : (q : ℕ) → (q == a) ≡ true → q ≡ a
      at q e = grind (arith, nat_tests)

      one : newly a ≡ true → (q : ℕ) (e : Bool) → (q == a) ≡ e →
          ((nat_lt q a && (newly q && minus_of q)) || (e && (digit (minus_of a) == 1))) ≡ (nat_lt q (suc a) && (newly q && minus_of q))
      one new q true e =
          let here : q ≡ a = at q e in
          let f : nat_lt q a ≡ false = grind (arith, nat_tests) in
          let g : nat_lt q (suc a) ≡ true = grind (arith, nat_tests) in
          rw (f, g) (back (minus_of a) ∙ ap (λ x. x && minus_of a) (sym new) ∙ ap (λ k. newly k && minus_of k) (sym here))
      one new q false e =
          let f : nat_lt q a ≡ nat_lt q (suc a) = grind (arith, nat_tests) in
          or_nothing (nat_lt q a && (newly q && minus_of q)) ∙ ap (λ x. x && (newly q && minus_of q)) f
        where
          or_nothing : (x : Bool) → (x || false) ≡ x
          or_nothing x = grind (arith, nat_tests)

      skipped : newly a ≡ false → (q : ℕ) (e : Bool) → (q == a) ≡ e → (nat_lt q a && (newly q && minus_of q)) ≡ (nat_lt q (suc a) && (newly q && minus_of q))
      skipped old q true e =
          let z : newly q ≡ false = ap newly (at q e) ∙ old in
          ap (λ x. nat_lt q a && (x && minus_of q)) z ∙ and-false (nat_lt q a) ∙ sym (ap (λ x. nat_lt q (suc a) && (x && minus_of q)) z ∙
          and-false (nat_lt q (suc a)))
      skipped old q false e = let f : nat_lt q a ≡ nat_lt q (suc a) = grind (arith, nat_tests) in ap (λ x. x && (newly q && minus_of q)) f

      by : (x : Bool) → newly a ≡ x →
          ((now : List Entry) (u : State) → Signed (suc a) n m dc u → Gives (signs_script rest u) (read_after t.book o now (sign_steps rest)) (Partial dc)) →
          Gives (signs_script (if x then a ∷ rest else rest) s) (read_after t.book o before (sign_steps (if x then a ∷ rest else rest))) (Partial dc)
      by true e more =
          subst (λ l. Gives (signs_script (a ∷ rest) s) (l ++ read_after t.book o (before ++ Bit (minus_of a) ∷ []) (sign_steps rest)) (Partial dc))
          (sym (bit_reading t.book o before free (minus_of a))) (
            record { types = n; signs = a; fine = m; bits = p.bits; minus = p.minus; low = p.low },
            more (before ++ Bit (minus_of a) ∷ []) (with_minus s (and_one s.minus a (digit (minus_of a) == 1))) (record {
              bits = p.bits;
              minus = λ q ac. ap (λ x. x || ((q == a) && (digit (minus_of a) == 1))) (p.minus q ac) ∙ one e q (q == a) refl;
              low = p.low;
            }),
          )
      by false e more = more before s (record { bits = p.bits; minus = λ q ac. p.minus q ac ∙ skipped e q (q == a) refl; low = p.low })

  signs_keep : (ps : List ℕ) (s : State) (items : List Item) (e : State) → Follows (signs_script ps s) items e → s.bits ≡ e.bits
  signs_keep [] s [] e f = λ i. (f i).bits
  signs_keep [] s (x ∷ xs) e f = absurd f
  signs_keep (p ∷ ps) s [] e f = absurd f
  signs_keep (p ∷ ps) s (x ∷ xs) e f = signs_keep ps (with_minus s (and_one s.minus p (x.said == 1))) xs e f.1

  -- ---- types

  types_give : (a c m : ℕ) (families : ℕ → Bool) (dc : Bool) → 1 ≤ a → c ≤ 4 → a + c ≤ 64 → length (span a c) ≤ 4 → (wanted : Bool)
      (before : List Entry) (s : State) → Reads a m families dc before s →
      Gives (types_script t.book (type_due block W b) wanted (span a c) s)
      (read_after t.book o before (typed_steps v W b (some_one_where wanted) (span a c))) (Partial dc)
  types_give a c m families dc low few high short wanted before s r =
      let ps = span a c in
      let due = type_due block W b in
      let fits : length (filter due ps) ≤ 4 = let f = due_few due ps in omega (arith, f, short) in
      let alike : filter due ps ≡ filter (type_due v W b) ps =
      filter_same due (type_due v W b) ps (all_zip {P = IsAc} ps (places.type_is o chosen t block v same whole) (all_acs a c low high)) in
      let check = some_one_where wanted in
      let e = word (types v W b ps) in
      let xs = entry_reading t.book o before check e in
      let now = before ++ e ∷ [] in
      let ys = read_after t.book o now (sign_steps (filter newly ps)) in
      let next : State × (ℕ → Bool) → Script State State = λ r. signs_script (filter r.1 ps) (with_bits r.0 r.1) in
      let w : Writes (due_script t.book due check ps s) xs (WroteDue o before e (filter due ps) (significant v b) s) =
      subst (λ e. Writes (due_script t.book due check ps s) (entry_reading t.book o before check e)
      (WroteDue o before e (filter due ps) (significant v b) s)) (ap (λ l. word (map (significant v b) l)) alike)
      (due_written t.book o chosen before check due (significant v b) ps fits s r.knows) in
      let u = with_bits w.end.0 w.end.1 in
      let these : filter w.end.1 ps ≡ filter newly ps = new_places due (significant v b) ps w.end.1 w.is.is ∙ new_due due v W b ps alike in
      let full = places.types_sent o chosen t block v same whole a c m families dc low few high short wanted before s r in
      let rest : Follows (next w.end) ys full.end = follows_rest (due_script t.book due check ps s) next xs ys w.end full.end w.follows full.follows in
      let kept : u.bits ≡ full.end.bits = signs_keep (filter w.end.1 ps) u ys full.end rest in
      gives_then (Partial dc) (due_script t.book due check ps s) next xs ys w.end w.follows
      (flags_give dc due check ps s (partial_at a m families dc before s r) xs)
      (subst (λ l. Gives (signs_script l u) ys (Partial dc)) (sym these)
      (signs_give (a + c) m dc a c now u (record {
        bits = λ q ac. (λ i. kept i q) ∙ full.is.bits q ac;
        minus = λ q ac. (λ i. (w.is.same i).minus q) ∙ r.minus q ac;
        low = (λ i. kept i 0) ∙ full.is.low;
      })))

  -- ---- groups

  abbrev group_steps : (new : ℕ → Bool) (place : ℕ → ℕ) → ℕ → List Step
  group_steps = words.group_steps o chosen t block v same whole

  groups_give : (first n m : ℕ) (families : ℕ → Bool) (dc : Bool) (sent wanted in_v new : ℕ → Bool) (place : ℕ → ℕ) → ((j : ℕ) → first + 4 * j ≡ place j) →
      1 ≤ first → first + 4 * n ≤ 64 → ((j : ℕ) → j < n → sent j ≡ in_v j) → ((j : ℕ) → j < n → wanted j ≡ new j) →
      ((j : ℕ) → j < n → in_v j ≡ false → list_any (significant v b) (span (place j) 4) ≡ false) → (before : List Entry) (s : State) →
      Reads first m families dc before s →
      Gives (in_turn (group_script t.book (type_due block W b) first sent wanted) 0 n s)
      (read_after t.book o before (flat_map (λ j. typed_steps v W b (some_one_where (new j)) (span (place j) 4)) (filter in_v (span 0 n)))) (Partial dc)
  groups_give first n m families dc sent wanted in_v new place at low high sent_is wanted_is none before s r =
      let z : 0 + n ≡ n = omega arith in
      let y : first ≡ first + 4 * 0 = omega arith in
      let steps : ℕ → List Step = λ j. typed_steps v W b (some_one_where (new j)) (span (place j) 4) in
      let item = group_script t.book (type_due block W b) first sent wanted in
      subst (λ l. Gives (in_turn item 0 n s) (read_after t.book o before l) (Partial dc)) (sym (flat_map_filter steps in_v (span 0 n)))
      (give_in_turn t.book o (λ j. Reads (first + 4 * j) m families dc) (Partial dc) item (λ j. if in_v j then steps j else []) 0 n
      (λ j c u from to p. (
        words.group_sent o chosen t block v same whole first n m families dc sent wanted in_v new place at low high sent_is wanted_is none j
            (omega (arith, to, z)) c u p (in_v j) refl,
        each j (omega (arith, to, z)) c u p (in_v j) refl,
      )) before s (subst (λ k. Reads k m families dc before s) y r))
    where
      each : (j : ℕ) → j < n → (c : List Entry) (u : State) → Reads (first + 4 * j) m families dc c u → (x : Bool) → in_v j ≡ x →
          Gives (group_script t.book (type_due block W b) first sent wanted j u)
          (read_after t.book o c (if in_v j then group_steps new place j else [])) (Partial dc)
      each j lt c u p true e =
          let T = types_script t.book (type_due block W b) (wanted j) (span (first + 4 * j) 4) u in
          subst (λ y. Gives (if y then T else done u) (read_after t.book o c (if in_v j then group_steps new place j else []))
          (Partial dc)) (sym (sent_is j lt ∙ e))
          (subst (λ y. Gives T (read_after t.book o c (if y then group_steps new place j else [])) (Partial dc)) (sym e)
          (subst (λ i. Gives T (read_after t.book o c (typed_steps v W b (some_one_where (new j)) (span i 4))) (Partial dc)) (at j)
          (subst (λ y. Gives T (read_after t.book o c (typed_steps v W b (some_one_where y) (span (first + 4 * j) 4))) (Partial dc)) (wanted_is j lt)
          (types_give (first + 4 * j) 4 m families dc (omega (arith, low)) (omega arith) (omega (arith, lt, high)) (four_long (first + 4 * j)) (wanted j) c u
          p))))
      each j lt c u p false e =
          let T = types_script t.book (type_due block W b) (wanted j) (span (first + 4 * j) 4) u in
          let l = read_after t.book o c (if in_v j then group_steps new place j else []) in
          subst (λ y. Gives (if y then T else done u) l (Partial dc)) (sym (sent_is j lt ∙ e)) tt

  -- ---- the stages

  -- a block without bits in the plane sends nothing
  deep : (script : Script State State) (s : State) (before : List Entry) (steps : List Step) (dc : Bool) (depth : ℕ) →
      Gives script (read_after t.book o before steps) (Partial dc) →
      Gives (if not (nat_lt b depth) then done s else script) (read_after t.book o before (cond (nat_lt b depth) steps [])) (Partial dc)
  deep script s before steps dc depth g = by (nat_lt b depth)
    where
      by : (x : Bool) → Gives (if not x then done s else script) (read_after t.book o before (cond x steps [])) (Partial dc)
      by true = g
      by false = tt

  abbrev sets : ℕ → Bool
  sets i = set_significant v b (Family i)

  children_give : (m : ℕ) (families : ℕ → Bool) (dc : Bool) (before : List Entry) (s : State) → Reads 4 m families dc before s →
      Gives (children_script t block s) (read_after t.book o before (children_steps v W b)) (Partial dc)
  children_give m families dc before s r =
      let first = map (λ x. step free (Bit x)) (flags v W b (Descendants ∷ [])) in
      let flags_of = flags_step v W b (descendants_check v b) (Family 0 ∷ Family 1 ∷ Family 2 ∷ []) in
      let start = partial_at 4 m families dc before s r in
      give_then t.book o (λ now. words.Flag o chosen t block v same whole now s) (Partial dc) (descendants_script t block s) _ before first
      (flags_of ∷ children_types_steps v W b) (words.flag_sent o chosen t block v same whole before s r.knows)
      (any_flag (not (above t block Descendants) && live W b Descendants) start (read_after t.book o before first))
      (λ all p.
      let now = before ++ entries_of first in
      give_then t.book o (words.Flags o chosen t block v same whole Family 3 s) (Partial dc)
      (due_script t.book (λ i. is_due t block (Family i) all) (some_one_where (all && not (above t block Descendants))) (span 0 3) s) _ now (flags_of ∷ [])
      (children_types_steps v W b)
      (words.flags_as o chosen t block v same whole Family 3 (omega arith) (λ i lt. lt) (λ i. all) (λ i lt. p.is ∙ sym (enclosing-family v b i))
      (some_one_where (all && not (above t block Descendants))) (descendants_check v b)
      (ap some_one_where (ap (λ x. x && not (above t block Descendants)) p.is ∙
      ap (λ x. set_significant v b Descendants && not x) (places.above_is o chosen t block v same whole Descendants tt) ∙ sym (is_new-is v b Descendants)))
      (Family 0 ∷ Family 1 ∷ Family 2 ∷ []) (three_sets Family) now s p.knows)
      (flags_give dc (λ i. is_due t block (Family i) all) (some_one_where (all && not (above t block Descendants))) (span 0 3) s start _)
      (λ f w.
      let sent : ℕ → Bool = λ i. above t block (Family i) || f.1 i in
      let wanted : ℕ → Bool = λ i. f.1 i && not (live W b (Grandchildren i)) in
      let G = in_turn (group_script t.book (type_due block W b) 4 sent wanted) 0 3 f.0 in
      last G (λ u. with_families u sent) (read_after t.book o (now ++ entries_of (flags_of ∷ [])) (children_types_steps v W b))
      (words.groups_sent o chosen t block v same whole 4 3 m families dc sent wanted sets (λ i. is_new v b (Family i) && not (live W b (Grandchildren i)))
      children_of (λ j. refl) (omega arith) (omega arith) (λ j lt. w.all j lt) (λ j lt. ap (λ x. x && not (live W b (Grandchildren j))) (w.new j lt))
      (λ j lt e. in_family v b j e) (now ++ entries_of (flags_of ∷ [])) f.0
      (stages.reads_on o chosen t block v same whole 4 m families dc before (now ++ entries_of (flags_of ∷ [])) s f.0 r w.knows w.rest))
      (groups_give 4 3 m families dc sent wanted sets (λ i. is_new v b (Family i) && not (live W b (Grandchildren i)))
      children_of (λ j. refl) (omega arith) (omega arith) (λ j lt. w.all j lt) (λ j lt. ap (λ x. x && not (live W b (Grandchildren j))) (w.new j lt))
      (λ j lt e. in_family v b j e) (now ++ entries_of (flags_of ∷ [])) f.0
      (stages.reads_on o chosen t block v same whole 4 m families dc before (now ++ entries_of (flags_of ∷ [])) s f.0 r w.knows w.rest))))
    where
      any_flag : (x : Bool) → Partial dc s → (items : List Item) →
          Gives {G = State} {A = Bool} (if x then ask s bit_form (λ n. done (n == 1)) else done (above t block Descendants)) items (Partial dc)
      any_flag true p [] = p
      any_flag true p (i ∷ is) = (p, tt)
      any_flag false p items = tt

      last : (G : Script State State) (make : State → State) (items : List Item) {P : State → Type 0} → Writes G items P → Gives G items (Partial dc) →
          Gives (then_ask G (λ u. done (make u))) items (Partial dc)
      last G make items w g =
          subst (λ l. Gives (then_ask G (λ u. done (make u))) l (Partial dc)) (append-nil items)
          (gives_then (Partial dc) G (λ u. done (make u)) items [] w.end w.follows g tt)

  quads_give : (m : ℕ) (dc : Bool) (i : ℕ) → i < 3 → set_significant v b (Grandchildren i) ≡ true → (new : Bool) → new ≡ is_new v b (Grandchildren i) →
      (before : List Entry) (s : State) → Reads (16 + 16 * i) m sets dc before s →
      Gives (quads_script t block i new s) (read_after t.book o before (quads_steps v W b i)) (Partial dc)
  quads_give m dc i lt in_set new is before s r =
      let flags_of = flags_step v W b (some_one_where (is_new v b (Grandchildren i))) (Quad i 0 ∷ Quad i 1 ∷ Quad i 2 ∷ Quad i 3 ∷ []) in
      let now = before ++ entries_of (flags_of ∷ []) in
      let start : 16 + 16 * i ≡ quad_of i 0 = omega arith in
      give_then t.book o (words.Flags o chosen t block v same whole (λ j. Quad i j) 4 s) (Partial dc)
      (due_script t.book (λ j. is_due t block (Quad i j) true) (some_one_where new) (span 0 4) s) _ before (flags_of ∷ []) (quads_types_steps v W b i)
      (words.flags_as o chosen t block v same whole (λ j. Quad i j) 4 (omega arith) (λ j small. (lt, small)) (λ j. true)
      (λ j small. sym (enclosing-quad v b i j ∙ in_set)) (some_one_where new) (some_one_where (is_new v b (Grandchildren i))) (ap some_one_where is)
      (Quad i 0 ∷ Quad i 1 ∷ Quad i 2 ∷ Quad i 3 ∷ []) (four_sets (λ j. Quad i j)) before s r.knows)
      (flags_give dc (λ j. is_due t block (Quad i j) true) (some_one_where new) (span 0 4) s (partial_at (16 + 16 * i) m sets dc before s r) _)
      (λ f w.
      let sent : ℕ → Bool = λ j. above t block (Quad i j) || f.1 j in
      groups_give (quad_of i 0) 4 m sets dc sent f.1 (λ j. set_significant v b (Quad i j)) (λ j. is_new v b (Quad i j))
      (quad_of i) (λ j. (let e : quad_of i 0 + 4 * j ≡ quad_of i j = omega arith in e)) (omega arith) (omega (arith, lt)) (λ j small. w.all j small)
      (λ j small. w.new j small) (λ j small e. in_quad v b i j e) now f.0
      (subst (λ k. Reads k m sets dc now f.0) start
      (stages.reads_on o chosen t block v same whole (16 + 16 * i) m sets dc before now s f.0 r w.knows w.rest)))

  sixteen_give : (m : ℕ) (dc : Bool) (i : ℕ) → i < 3 → (sent new : Bool) → sent ≡ set_significant v b (Grandchildren i) →
      new ≡ is_new v b (Grandchildren i) → (c : List Entry) (u : State) → Reads (16 + 16 * i) m sets dc c u →
      Gives {G = State} (if sent then quads_script t block i new u else done u)
      (read_after t.book o c (if set_significant v b (Grandchildren i) then quads_steps v W b i else [])) (Partial dc)
  sixteen_give m dc i lt sent new all is_new c u p = by (set_significant v b (Grandchildren i)) refl
    where
      by : (x : Bool) → set_significant v b (Grandchildren i) ≡ x →
          Gives {G = State} (if sent then quads_script t block i new u else done u)
          (read_after t.book o c (if set_significant v b (Grandchildren i) then quads_steps v W b i else [])) (Partial dc)
      by true e =
          subst (λ (y : Bool). Gives (if y then quads_script t block i new u else done u)
          (read_after t.book o c (if set_significant v b (Grandchildren i) then quads_steps v W b i else [])) (Partial dc)) (sym (all ∙ e))
          (subst (λ (y : Bool). Gives (quads_script t block i new u) (read_after t.book o c (if y then quads_steps v W b i else [])) (Partial dc)) (sym e)
          (quads_give m dc i lt e new is_new c u p))
      by false e =
          let l = read_after t.book o c (if set_significant v b (Grandchildren i) then quads_steps v W b i else []) in
          subst (λ (y : Bool). Gives (if y then quads_script t block i new u else done u) l (Partial dc)) (sym (all ∙ e)) tt

  grandchildren_give : (m : ℕ) → m ≤ 1 → (dc : Bool) (before : List Entry) (s : State) → Reads 16 m sets dc before s →
      Gives (grandchildren_script t block s) (read_after t.book o before (grandchildren_steps v W b)) (Partial dc)
  grandchildren_give m le dc before s r =
      let flags_of = flags_step v W b (grandchildren_check v W b three_grandchildren) three_grandchildren in
      let now = before ++ entries_of (flags_of ∷ []) in
      let due : ℕ → Bool = λ i. is_due t block (Grandchildren i) (s.families i) in
      let check = ones_at (map (is_childless t block s) (filter due (span 0 3))) in
      let in_v : ℕ → Bool = λ i. set_significant v b (Grandchildren i) in
      give_then t.book o (words.Flags o chosen t block v same whole Grandchildren 3 s) (Partial dc) (due_script t.book due check (span 0 3) s) _ before
      (flags_of ∷ []) (all_quads_steps v W b)
      (words.flags_as o chosen t block v same whole Grandchildren 3 (omega arith) (λ i lt. lt) s.families
      (λ i lt. r.enclosing i lt ∙ sym (enclosing-grandchildren v b i)) check (grandchildren_check v W b three_grandchildren)
      (stages.forced_same o chosen t block v same whole m le dc before s r) three_grandchildren (three_sets Grandchildren) before s r.knows)
      (flags_give dc due check (span 0 3) s (partial_at 16 m sets dc before s r) _)
      (λ f w.
      let turns = in_turn (λ i u. if above t block (Grandchildren i) || f.1 i then quads_script t block i (f.1 i) u else done u) 0 3 f.0 in
      subst (λ l. Gives turns (read_after t.book o now l) (Partial dc)) (sym (flat_map_filter (quads_steps v W b) in_v (span 0 3)))
      (give_in_turn t.book o (λ i. Reads (16 + 16 * i) m sets dc) (Partial dc)
      (λ i u. if above t block (Grandchildren i) || f.1 i then quads_script t block i (f.1 i) u else done u)
      (λ i. if in_v i then quads_steps v W b i else []) 0 3
      (λ i c u low high p. (
        stages.sixteen_sent o chosen t block v same whole m dc i (omega (arith, high)) (above t block (Grandchildren i) || f.1 i) (f.1 i)
            (w.all i (omega (arith, high))) (w.new i (omega (arith, high))) c u p,
        sixteen_give m dc i (omega (arith, high)) (above t block (Grandchildren i) || f.1 i) (f.1 i) (w.all i (omega (arith, high)))
            (w.new i (omega (arith, high))) c u p,
      )) now f.0 (stages.reads_on o chosen t block v same whole 16 m sets dc before now s f.0 r w.knows w.rest)))

  refinement_give : (families : ℕ → Bool) (dc : Bool) (before : List Entry) (s : State) → Reads 64 1 families dc before s →
      Gives (refinement_script t block s) (read_after t.book o before (refinement_steps v W b)) (Partial dc)
  refinement_give families dc before s r =
      let steps : ℕ → List Step = λ p. if refined v W b p then step free (Bit (bit (magnitude v p) b)) ∷ [] else [] in
      subst (λ l. Gives (refinement_script t block s) (read_after t.book o before l) (Partial dc))
      (sym (flat_map_filter (λ p. step free (Bit (bit (magnitude v p) b)) ∷ []) (refined v W b) (span 1 63)) ∙
      flat_map_single (λ p. step free (Bit (bit (magnitude v p) b))) (filter (refined v W b) (span 1 63)))
      (give_in_turn t.book o (λ p. Reads 64 p families dc) (Partial dc) (λ p u. if refined block W b p then bit_script p u else done u) steps 1 63
      (λ p c u low high z. (
        sent.refined_sent o chosen t block v same whole families dc p c u low (omega (arith, high)) z,
        one p c u z (refined block W b p) (read_after t.book o c (steps p)),
      )) before s r)
    where
      one : (p : ℕ) (c : List Entry) (u : State) → Reads 64 p families dc c u → (x : Bool) (items : List Item) →
          Gives {G = State} (if x then bit_script p u else done u) items (Partial dc)
      one p c u z true [] = partial_at 64 p families dc c u z
      one p c u z true (i ∷ is) = (partial_at 64 p families dc c u z, tt)
      one p c u z false items = tt

  -- ---- any stage

  pub stage_give : (depth k : ℕ) → k < 5 → (before : List Entry) (s : State) → sent.Before o chosen t block v same whole k before s →
      Gives (stage_script t k depth block s) (read_after t.book o before (block_steps (stage_number k) v depth W b t.q))
      (Partial (sent.sent_dc o chosen t block v same whole k))
  stage_give depth zero lt before s r = by (coded W b 0 && nat_lt b t.q) (read_after t.book o before (block_steps (stage_number 0) v depth W b t.q))
    where
      by : (x : Bool) (items : List Item) → Gives {G = State} (if x then bit_script 0 s else done s) items (Partial false)
      by true [] = partial_at 1 1 _ false before s r
      by true (i ∷ is) = (partial_at 1 1 _ false before s r, tt)
      by false items = tt
  stage_give depth (suc zero) lt before s r = rw (parents_stage v depth W b t.q)
      (deep (parents_script t block s) s before (parents_steps v W b) _ depth
      (types_give 1 3 1 _ _ (omega arith) (omega arith) (omega arith) (three_long 1) false before s r))
  stage_give depth (suc (suc zero)) lt before s r = rw (children_stage v depth W b t.q)
      (deep (children_script t block s) s before (children_steps v W b) _ depth (children_give 1 _ _ before s r))
  stage_give depth (suc (suc (suc zero))) lt before s r = rw (grandchildren_stage v depth W b t.q)
      (deep (grandchildren_script t block s) s before (grandchildren_steps v W b) _ depth (grandchildren_give 1 (omega arith) _ before s r))
  stage_give depth (suc (suc (suc (suc zero)))) lt before s r = rw (refinement_stage v depth W b t.q)
      (deep (refinement_script t block s) s before (refinement_steps v W b) _ depth (refinement_give _ _ before s r))
  stage_give depth (suc (suc (suc (suc (suc k))))) lt before s r = absurd (omega (arith, lt))
