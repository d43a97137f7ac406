-- What was read of a block before a stage only stands beside what the stage reads: scripts of words, types and signs do not depend on it.
use Rattle.std.proofs.Common.{◌≡◌, ℕ, zero, suc, ◌+◌, ◌*◌, ◌==◌, ◌&&◌, ◌||◌, not, if◌then◌else◌, Bool, true, false, List, [], ◌∷◌, length, map, filter, ℤ}
use Rattle.std.proofs.Common.{refl, sym, ap, ◌∙◌, Option, Some, None}
use Rattle.std.proofs.Math.Bool.{or-false}
use Rattle.item_defs.specs.Bits.{bits_of}
use Rattle.base_122.specs.declared.book.Book.{Book}
use Rattle.plane_defs.specs.declared.sets.Set.TheVariants.{Descendants, Family, Grandchildren, Quad}
use Rattle.plane_defs.specs.Spans.{span}
use Rattle.plane_defs.specs.Sets.{live, type_due, refined, quad_of}
use Rattle.plane_defs.specs.Steps.{Check, some_one_where, ones_at}
use Rattle.item_defs.specs.Scripts.{Script, done, ask, ask_bit, bit_form, then_ask, around, in_turn}
use Rattle.plane_defs.specs.States.{State, with_bits, with_raw, with_minus, with_families, and_one}
use Rattle.plane_defs.specs.WordScripts.{raw_form, option_script, coded_script, word_script, ones, due_script, signs_script, types_script, group_script}
use Rattle.plane_defs.specs.StageScripts.{Terms, above, is_due, bit_script, parents_script, descendants_script, children_script, is_childless, quads_script}
use Rattle.plane_defs.specs.StageScripts.{refinement_script}
use Rattle.plane_reader.specs.Grandchildren.{sixteen_script, grandchildren_from}
use Rattle.plane_reader.proofs.ChildReads.{family_part, families_now, types_part, last_part, after_families, after_flag}
use Rattle.plane_reader.proofs.GrandchildReads.{quads_word, quads_types, sixteens_word, sixteens_rest}

-- a script in which states and values are replaced
pub mapped : {G H A B : Type 0} → (G → H) → (A → B) → Script G A → Script H B
mapped f h (done a) = done (h a)
mapped f h (ask given form more) = ask (f given) form (λ n. mapped f h (more n))

pub mapped-done : {G H A B : Type 0} (f : G → H) (h : A → B) (a : A) → mapped f h (done a) ≡ done (h a)
unfolding mapped
mapped-done f h a = refl

pub around_is : {S T : Type 0} (put : S → T) (s : Script S S) → mapped put put s ≡ around put s
unfolding mapped
around_is put (done a) = refl
around_is put (ask given form more) = λ i. ask (put given) form (λ n. around_is put (more n) i)

pub mapped_then : {G H A B C D : Type 0} (f : G → H) (h : A → C) (h' : B → D) (s : Script G A) (next : A → Script G B) (next' : C → Script H D) → ((a : A) →
    next' (h a) ≡ mapped f h' (next a)) → then_ask (mapped f h s) next' ≡ mapped f h' (then_ask s next)
unfolding mapped
mapped_then f h h' (done a) next next' e = e a
mapped_then f h h' (ask given form more) next next' e = λ i. ask (f given) form (λ n. mapped_then f h h' (more n) next next' e i)

or_assoc : (a b c : Bool) → ((a || b) || c) ≡ (a || (b || c))
or_assoc true b c = refl
or_assoc false b c = refl

-- the families are those that a stage read, or those that were read before
abbrev pub as_read : (ℕ → Bool) → ℕ → Bool
as_read families = families

abbrev pub as_before : (ℕ → Bool) → (ℕ → Bool) → ℕ → Bool
as_before before families = before

module _ (bits raw minus : ℕ → Bool) (families : (ℕ → Bool) → ℕ → Bool) where
  -- these bits, raw bits and signs were read before
  abbrev pub beside : State → State
  beside t = record {
    options = t.options;
    bits = λ p. bits p || t.bits p;
    raw = λ p. raw p || t.raw p;
    minus = λ p. minus p || t.minus p;
    families = families t.families;
  }

  abbrev besides : State × ℕ → State × ℕ
  besides w = (beside w.0, w.1)

  abbrev besides_ones : State × (ℕ → Bool) → State × (ℕ → Bool)
  besides_ones w = (beside w.0, w.1)

  pub bits_beside : (t : State) (new : ℕ → Bool) → with_bits (beside t) new ≡ beside (with_bits t new)
  bits_beside t new = λ i. record {
    options = t.options;
    bits = λ p. or_assoc (bits p) (t.bits p) (new p) i;
    raw = λ p. raw p || t.raw p;
    minus = λ p. minus p || t.minus p;
    families =
        families t.families;
  }

  bit_beside : (t : State) (p : ℕ) (b : Bool) → with_raw (with_bits (beside t) (and_one (λ q. false) p b)) p ≡ beside (with_raw (with_bits t (and_one
      (λ q. false) p b)) p)
  bit_beside t p b = λ i. record {
    options = t.options;
    bits = λ q. or_assoc (bits q) (t.bits q) (and_one (λ q. false) p b q) i;
    raw = λ q. or_assoc (raw q) (t.raw q) (q == p) i;
    minus = λ q. minus q || t.minus q;
    families = families t.families;
  }

  sign_beside : (t : State) (p : ℕ) (b : Bool) → with_minus (beside t) (and_one (beside t).minus p b) ≡ beside (with_minus t (and_one t.minus p b))
  sign_beside t p b = λ i. record {
    options = t.options;
    bits = λ q. bits q || t.bits q;
    raw = λ q. raw q || t.raw q;
    minus = λ q. or_assoc (minus q) (t.minus q) ((q == p) && b) i;
    families = families t.families;
  }

  word_by : (book : Book) (count : ℕ) (check : Check) (t : State) (none one : Bool) (o : Option ℕ) →
      (if none then done (let w : State × ℕ = (beside t, 0) in w) else if one then ask (beside t) (raw_form check) (λ value. done (let w : State × ℕ =
      (beside t, value) in w)) else then_ask (option_script count (beside t) o) (coded_script book count check)) ≡
      mapped beside besides (if none then done (let w : State × ℕ = (t, 0) in w) else if one then ask t (raw_form check) (λ value. done (let w : State × ℕ =
      (t, value) in w)) else then_ask (option_script count t o) (coded_script book count check))
  unfolding mapped
  word_by book count check t true one o = refl
  word_by book count check t false true o = refl
  word_by book count check t false false (Some x) = refl
  word_by book count check t false false None = refl

  word_frame : (book : Book) (count : ℕ) (check : Check) (t : State) → word_script book count check (beside t) ≡ mapped beside besides
      (word_script book count check t)
  word_frame book count check t = word_by book count check t (count == 0) (count == 1) (t.options count)

  pub due_frame : (book : Book) (due : ℕ → Bool) (check : Check) (places : List ℕ) (t : State) → due_script book due check places
      (beside t) ≡ mapped beside besides_ones (due_script book due check places t)
  due_frame book due check places t =
      let count = length (filter due places) in
      ap (λ s. then_ask s (λ (w : State × ℕ). done (let o : State × (ℕ → Bool) = (w.0, ones (filter due places) (bits_of count w.1)) in
      o))) (word_frame book count check t) ∙
      mapped_then beside besides besides_ones (word_script book count check t) _ _ (λ w. sym (mapped-done beside besides_ones (let o : State × (ℕ → Bool) =
      (w.0, ones (filter due places) (bits_of count w.1)) in o)))

  pub signs_frame : (ps : List ℕ) (t : State) → signs_script ps (beside t) ≡ mapped beside beside (signs_script ps t)
  unfolding mapped
  signs_frame [] t = refl
  signs_frame (p ∷ ps) t = λ i. ask (beside t) bit_form (λ n. (ap (signs_script ps) (sign_beside t p (n == 1)) ∙
      signs_frame ps (with_minus t (and_one t.minus p (n == 1)))) i)

  pub types_frame : (book : Book) (due : ℕ → Bool) (wanted : Bool) (positions : List ℕ) (t : State) → types_script book due wanted positions
      (beside t) ≡ mapped beside beside (types_script book due wanted positions t)
  types_frame book due wanted positions t =
      ap (λ s. then_ask s (λ (r : State × (ℕ → Bool)). signs_script (filter r.1 positions) (with_bits r.0 r.1))) (due_frame book due
      (some_one_where wanted) positions t) ∙
      mapped_then beside besides_ones beside (due_script book due (some_one_where wanted) positions t) _ _ (λ r. ap (signs_script (filter r.1 positions))
      (bits_beside r.0 r.1) ∙ signs_frame (filter r.1 positions) (with_bits r.0 r.1))

  -- ---- things in turn

  pub turn_frame : (item : ℕ → State → Script State State) → ((p : ℕ) (t : State) → item p (beside t) ≡ mapped beside beside (item p t)) →
      (n j : ℕ) (t : State) → in_turn item j n (beside t) ≡ mapped beside beside (in_turn item j n t)
  turn_frame item each zero j t = sym (mapped-done beside beside t)
  turn_frame item each (suc n) j t =
      ap (λ s. then_ask s (in_turn item (suc j) n)) (each j t) ∙ mapped_then beside beside beside (item j t) (in_turn item (suc j) n) (in_turn item (suc j) n)
      (λ a. turn_frame item each n (suc j) a)

  -- a thing that is sent, or not
  sent_frame : (b : Bool) (r r' : Script State State) (t : State) → r' ≡ mapped beside beside r → (if b then r' else done (beside t)) ≡ mapped beside beside
      (if b then r else done t)
  sent_frame true r r' t e = e
  sent_frame false r r' t e = sym (mapped-done beside beside t)

  pub group_frame : (book : Book) (due : ℕ → Bool) (first : ℕ) (sent wanted : ℕ → Bool) (j : ℕ) (t : State) →
      group_script book due first sent wanted j (beside t) ≡ mapped beside beside (group_script book due first sent wanted j t)
  group_frame book due first sent wanted j t =
      sent_frame (sent j) (types_script book due (wanted j) (span (first + 4 * j) 4) t) (types_script book due (wanted j) (span (first + 4 * j) 4)
      (beside t)) t (types_frame book due (wanted j) (span (first + 4 * j) 4) t)

  -- ---- stages 1, 3 and 4

  pub parents_frame : (t : Terms) (block : List ℤ) (s : State) → parents_script t block (beside s) ≡ mapped beside beside (parents_script t block s)
  parents_frame t block s = types_frame t.book (type_due block t.weights t.plane) false (span 1 3) s

  pub quads_frame : (t : Terms) (block : List ℤ) (i : ℕ) (is_new : Bool) (s : State) → quads_script t block i is_new (beside s) ≡ mapped beside beside
      (quads_script t block i is_new s)
  quads_frame t block i is_new s =
      ap (λ r. then_ask r (quads_types t block i)) (due_frame t.book (λ j. is_due t block (Quad i j) true) (some_one_where is_new) (span 0 4) s) ∙
      mapped_then beside besides_ones beside (quads_word t block i is_new s) (quads_types t block i) (quads_types t block i)
      (λ r. turn_frame (group_script t.book (type_due block t.weights t.plane) (quad_of i 0) (λ j. above t block (Quad i j) || r.1 j) r.1) (group_frame t.book
      (type_due block t.weights t.plane) (quad_of i 0) (λ j. above t block (Quad i j) || r.1 j) r.1) 4 0 r.0)

  pub grandchildren_frame : (t : Terms) (block : List ℤ) (earlier s : State) → grandchildren_from t block earlier (beside s) ≡ mapped beside beside
      (grandchildren_from t block earlier s)
  grandchildren_frame t block earlier s =
      let due : ℕ → Bool = λ i. is_due t block (Grandchildren i) (earlier.families i) in
      ap (λ r. then_ask r (sixteens_rest t block)) (due_frame t.book due (ones_at (map (is_childless t block earlier) (filter due (span 0 3)))) (span 0 3) s) ∙
      mapped_then beside besides_ones beside (sixteens_word t block earlier s) (sixteens_rest t block) (sixteens_rest t block)
      (λ r. turn_frame (sixteen_script t block (λ i. above t block (Grandchildren i) || r.1 i) r.1) (λ i u. sent_frame (above t block
      (Grandchildren i) || r.1 i) (quads_script t block i (r.1 i) u) (quads_script t block i (r.1 i) (beside u)) u (quads_frame t block i
      (r.1 i) u)) 3 0 r.0)

  bit_frame : (p : ℕ) (t : State) → bit_script p (beside t) ≡ mapped beside beside (bit_script p t)
  unfolding mapped
  bit_frame p t = λ i. ask (beside t) bit_form (λ n. done (bit_beside t p (n == 1) i))

  pub refinement_frame : (t : Terms) (block : List ℤ) (s : State) → refinement_script t block (beside s) ≡ mapped beside beside (refinement_script t block s)
  refinement_frame t block s =
      turn_frame (λ p u. if refined block t.weights t.plane p then bit_script p u else done u) (λ p u. sent_frame (refined block t.weights t.plane p)
      (bit_script p u) (bit_script p (beside u)) u (bit_frame p u)) 63 1 s

  -- ---- stage 2

  flag_frame : (b was : Bool) (t : State) → (let none : Script State Bool = done was in (if b then ask_bit (beside t) (λ a. done a) else none) ≡ mapped beside
      (λ (a : Bool). a) (if b then ask_bit t (λ a. done a) else none))
  unfolding mapped
  flag_frame true was t = refl
  flag_frame false was t = refl

  -- the families that a stage read stay
  pub children_frame : ((f : ℕ → Bool) → families f ≡ f) → (t : Terms) (block : List ℤ) (s : State) → children_script t block
      (beside s) ≡ mapped beside beside (children_script t block s)
  children_frame same t block s =
      ap (λ r. then_ask r (after_flag t block (beside s))) (flag_frame (not (above t block Descendants) && live t.weights t.plane Descendants)
      (above t block Descendants) s) ∙
      mapped_then beside (λ (a : Bool). a) beside (descendants_script t block s) (after_flag t block s) (after_flag t block (beside s)) after
    where
      last : (r : State × (ℕ → Bool)) (u : State) → last_part t block s r.1 (beside u) ≡ mapped beside beside (last_part t block s r.1 u)
      last r u =
          (λ i. done (record {
            options = u.options;
            bits = λ p. bits p || u.bits p;
            raw = λ p. raw p || u.raw p;
            minus = λ p. minus p || u.minus p;
            families =
                sym (same (families_now t block s r.1)) i;
          })) ∙
          sym (mapped-done beside beside (with_families u (families_now t block s r.1)))

      types : (r : State × (ℕ → Bool)) → after_families t block s (besides_ones r) ≡ mapped beside beside (after_families t block s r)
      types r =
          let now = families_now t block s r.1 in
          let wanted : ℕ → Bool = λ i. r.1 i && not (live t.weights t.plane (Grandchildren i)) in
          ap (λ x. then_ask x (last_part t block s r.1)) (turn_frame (group_script t.book (type_due block t.weights t.plane) 4 now wanted) (group_frame t.book
          (type_due block t.weights t.plane) 4 now wanted) 3 0 r.0) ∙
          mapped_then beside beside beside (types_part t block s r.1 r.0) (last_part t block s r.1) (last_part t block s r.1) (last r)

      after : (all : Bool) → after_flag t block (beside s) all ≡ mapped beside beside (after_flag t block s all)
      after all =
          ap (λ x. then_ask x (after_families t block s)) (due_frame t.book (λ i. is_due t block (Family i) all) (some_one_where (all && not
          (above t block Descendants))) (span 0 3) s) ∙
          mapped_then beside besides_ones beside (family_part t block s all) (after_families t block s) (after_families t block s) types

-- a state of which nothing is read yet
abbrev pub blank : State → State
blank s = record { options = s.options; bits = λ p. false; raw = λ p. false; minus = λ p. false; families = s.families }

pub beside_blank : (s : State) (families : (ℕ → Bool) → ℕ → Bool) → families s.families ≡ s.families → beside s.bits s.raw s.minus families (blank s) ≡ s
beside_blank s families same = λ i. record {
  options = s.options;
  bits = λ p. or-false (s.bits p) i;
  raw = λ p. or-false (s.raw p) i;
  minus = λ p. or-false (s.minus p) i;
  families = same i;
}
