-- Items put one stretch of a span after another.
use Rattle.std.proofs.Common.{◌≡◌, ℕ, zero, suc, add-one, ◌+◌, ◌-◌, ◌*◌, ◌/◌, ◌<◌, ℤ, false, List, [], ◌∷◌, ◌++◌, length, ap, sym, ◌∙◌, subst, arith}
use Rattle.std.proofs.Common.{append_assoc, zero-add, get_or, Result, Ok, Err}
use Rattle.std.specs.List.{flat_map, list_any}
use Rattle.std.proofs.lemmas.Bool.Decides.{nat_tests}
use Rattle.item_defs.specs.Items.{Item, text}
use Rattle.item_defs.proofs.Texts.{text-append}
use Rattle.bit_pipe.specs.Sinks.{SinkOf}
use Rattle.bit_pipe.specs.SinkState.{SinkState, IsOpen, Adds, Puts}
use Rattle.bit_pipe.specs.declared.fault.PutFault.{PutFault}
use Rattle.bit_pipe.proofs.Putting.{adds_start, adds_then, puts_ended, puts_whole}
use Rattle.base_122.specs.declared.book.Book.{Book}
use Rattle.plane_defs.specs.declared.entries.Entry.{Entry}
use Rattle.plane_defs.specs.Spans.{span}
use Rattle.plane_defs.specs.Entries.{stage_number}
use Rattle.plane_defs.specs.Spelled.{spelled_after, is_word_of}
use Rattle.plane_defs.specs.Planes.{Plane, gaggles, of_gaggle, before_stage, gaggle_items, stage_items, plane_items, chosen}
use Rattle.plane_defs.specs.Marks.{depths_of}
use Rattle.plane_defs.proofs.SpanLists.{flat_map-span-suc, flat_map-span-none, flat_map-span-parts}
use Rattle.block_masks.specs.declared.gaggle.Gaggle.{Gaggle}
use Rattle.plane_coder.specs.declared.view.View.{View}
use Rattle.block_masks.specs.Gaggles.{Agrees, AreKnown, SameMarks, options_at, AllAgree}
use Rattle.plane_coder.specs.Spells.{Spells, PutsStage}
use Rattle.plane_coder.specs.Chosen.{AreChosen}
use Rattle.plane_coder.specs.Sends.{chosen_items}
use Rattle.plane_coder.specs.Views.{plane_in}
use Rattle.block_masks.proofs.Marking.{length-depths_of}
use Rattle.plane_coder.proofs.Spelling.{on_ok_map, spells_none, spells_both, spells_cut}

-- a list of a span's places, and one more
more_of_span : {A : Type 0} (f : ℕ → List A) (start n : ℕ) (xs : List A) → xs ≡ f (start + n) →
    flat_map f (span start n) ++ xs ≡ flat_map f (span start (n + 1))
more_of_span f start n xs is = ap (λ l. flat_map f (span start n) ++ l) is ∙ sym (flat_map-span-suc f start n)

-- ---- entries of one block after another

module _ {S : Type 0} {k : SinkOf S} {book : Book} (f : ℕ → List Entry) (start : ℕ) where
  pub none_spelled : (a : Gaggle) (s : SinkState S) → IsOpen s → Spells k book a a (Ok tt) s s (flat_map f (span start 0))
  none_spelled a s h = subst (λ l. Spells k book a a (Ok tt) s s l) (sym (flat_map-span-none f start)) (spells_none a s h)

  pub more_spelled : {a b c : Gaggle} {s t u : SinkState S} (n : ℕ) (xs : List Entry) → xs ≡ f (start + n) →
      Spells k book a b (Ok tt) s t (flat_map f (span start n)) → Spells k book b c (Ok tt) t u xs →
      Spells k book a c (Ok tt) s u (flat_map f (span start (n + 1)))
  more_spelled {a} {b} {c} {s} {t} {u} n xs is p q = subst (λ l. Spells k book a c (Ok tt) s u l) (more_of_span f start n xs is) (spells_both p q)

  pub spelled_ended : {a b c : Gaggle} {e : PutFault} {s t u : SinkState S} (n count : ℕ) (xs : List Entry) → n < count → xs ≡ f (start + n) →
      Spells k book a b (Ok tt) s t (flat_map f (span start n)) → Spells k book b c (Err e) t u xs →
      Spells k book a c (Err e) s u (flat_map f (span start count))
  spelled_ended {a} {b} {c} {e} {s} {t} {u} n count xs below is p q =
      let parts = flat_map-span-parts f start count n below in
      let same : (flat_map f (span start n) ++ xs) ++ parts.0 ≡ flat_map f (span start count) =
      ap (λ l. (flat_map f (span start n) ++ l) ++ parts.0) is ∙ sym parts.1 in
      subst (λ l. Spells k book a c (Err e) s u l) same (spells_cut parts.0 (spells_both p q))

  -- a call failed before the entries of later places
  pub spelled_cut : {a b : Gaggle} {e : PutFault} {s t : SinkState S} (n count : ℕ) → n < count → Spells k book a b (Err e) s t (flat_map f (span start n)) →
      Spells k book a b (Err e) s t (flat_map f (span start count))
  spelled_cut {a} {b} {e} {s} {t} n count below p =
      let parts = flat_map-span-parts f start count n below in
      subst (λ l. Spells k book a b (Err e) s t l) (sym parts.1) (spells_cut parts.0 (spells_cut (f (start + n)) p))

-- ---- items of one stretch after another

module _ {S : Type 0} {k : SinkOf S} (f : ℕ → List Item) where
  pub none_put : (s : SinkState S) → IsOpen s → Adds k s s (text (flat_map f (span 0 0)))
  none_put s h = subst (λ l. Adds k s s (text l)) (sym (flat_map-span-none f 0)) (adds_start k s h)

  pub more_put : {a b c : SinkState S} (n : ℕ) → Adds k a b (text (flat_map f (span 0 n))) → Adds k b c (text (f n)) →
      Adds k a c (text (flat_map f (span 0 (n + 1))))
  more_put {a} {b} {c} n p q =
      let place : f n ≡ f (0 + n) = ap f (sym (zero-add n)) in
      let same : text (flat_map f (span 0 n)) ++ text (f n) ≡ text (flat_map f (span 0 (n + 1))) =
      sym (text-append (flat_map f (span 0 n)) (f n)) ∙ ap text (more_of_span f 0 n (f n) place) in
      subst (λ l. Adds k a c l) same (adds_then p q)

  pub put_ended : {a b c : SinkState S} {e : PutFault} (n count : ℕ) → n < count → Adds k a b (text (flat_map f (span 0 n))) →
      Puts {T = Unit {0}} k (Err e) b c (text (f n)) → Puts {T = Unit {0}} k (Err e) a c (text (flat_map f (span 0 count)))
  put_ended n count below p q =
      let parts = flat_map-span-parts f 0 count n below in
      let first = flat_map f (span 0 n) in
      let whole : text first ++ (text (f n) ++ text parts.0) ≡ text (flat_map f (span 0 count)) =
      sym (append_assoc (text first) (text (f n)) (text parts.0)) ∙
      ap (λ l. l ++ text parts.0) (sym (text-append first (f n))) ∙ sym (text-append (first ++ f n) parts.0) ∙
      ap (λ m. text ((first ++ f m) ++ parts.0)) (sym (zero-add n)) ∙ ap text (sym parts.1) in
      puts_ended (text parts.0) p q whole

  pub put_whole : {a b : SinkState S} (n count : ℕ) → n ≡ count → Adds k a b (text (flat_map f (span 0 n))) →
      Puts {T = Unit {0}} k (Ok tt) a b (text (flat_map f (span 0 count)))
  put_whole {a} {b} n count e p = puts_whole (subst (λ m. Adds k a b (text (flat_map f (span 0 m)))) e p)

-- ---- one gaggle in its stage

pub before_more : (p : Plane) (j g : ℕ) → before_stage p j g ++ of_gaggle p (stage_number j) g ≡ before_stage p (j + 1) g
before_more p j g = grind (arith, nat_tests, more_of_span, zero-add)

-- entries of a stage that were put are the stage
pub stage_put : {S : Type 0} {k : SinkOf S} {book : Book} {p : Plane} {j g : ℕ} {a b : Gaggle} {r : Result (Unit {0}) PutFault} {s t : SinkState S} →
    Spells k book a b r s t (of_gaggle p (stage_number j) g) → PutsStage k book p j g a b r s t
stage_put {p = p} {j = j} {g = g} {b = b} {r = r} put = record {
  puts = λ agrees. put.puts (before_stage p j g) agrees;
  agrees = λ agrees. on_ok_map r (subst (Agrees b.sent) (before_more p j g)) (put.agrees (before_stage p j g) agrees);
  is_open = put.is_open;
  options = put.options;
}

-- a stage that was put has its items, with the gaggle's options
pub stage_has_items : {S : Type 0} {k : SinkOf S} {book : Book} {p : Plane} {j g : ℕ} {a b : Gaggle} {r : Result (Unit {0}) PutFault} {s t : SinkState S}
    (options : ℕ → List ℕ) →
    a.options ≡ options g → Agrees a.sent (before_stage p j g) → PutsStage k book p j g a b r s t → Puts k r s t (text (gaggle_items book options p j g))
stage_has_items {k = k} {book = book} {p = p} {j = j} {g = g} {r = r} {s = s} {t = t} options same agrees put =
    subst (λ o. Puts k r s t (text (spelled_after book o (before_stage p j g) (of_gaggle p (stage_number j) g)))) same (put.puts agrees)

pub stage_in_plane : {S : Type 0} {k : SinkOf S} {book : Book} (view : View) {d0 d1 : List ℕ} {j g : ℕ} {a b : Gaggle} {r : Result (Unit {0}) PutFault}
    {s t : SinkState S} →
    d1 ≡ d0 → PutsStage k book (plane_in view d1) j g a b r s t → PutsStage k book (plane_in view d0) j g a b r s t
stage_in_plane {k = k} {book = book} view {j = j} {g = g} {a = a} {b = b} {r = r} {s = s} {t = t} same put =
    subst (λ d. PutsStage k book (plane_in view d) j g a b r s t) same put

-- ---- the same items by equal options and depths

pub flat_map-span-below : {A : Type 0} (f f' : ℕ → List A) (start count : ℕ) → ((n : ℕ) → n < count → f (start + n) ≡ f' (start + n)) →
    flat_map f (span start count) ≡ flat_map f' (span start count)
flat_map-span-below f f' start zero each = flat_map-span-none f start ∙ sym (flat_map-span-none f' start)
flat_map-span-below {A} f f' start (suc count) each =
    let before = flat_map-span-below f f' start count (λ n lt. each n (omega arith)) in
    let step : flat_map f (span start (count + 1)) ≡ flat_map f' (span start (count + 1)) =
    flat_map-span-suc f start count ∙ ap (λ l. l ++ f (start + count)) before ∙ ap (λ l. flat_map f' (span start count) ++ l) (each count (omega arith))
    ∙ sym (flat_map-span-suc f' start count) in
    subst (λ n. flat_map f (span start n) ≡ flat_map f' (span start n)) (add-one count) step

pub stage_same : (book : Book) (o o' : ℕ → List ℕ) (p : Plane) (j : ℕ) → ((g : ℕ) → g < gaggles p → o g ≡ o' g) →
    stage_items book o p j ≡ stage_items book o' p j
stage_same book o o' p j same = grind (arith, nat_tests, flat_map-span-below, zero-add)

pub plane_same : (book : Book) (o o' : ℕ → List ℕ) (p : Plane) (stages : ℕ) → ((g : ℕ) → g < gaggles p → o g ≡ o' g) →
    plane_items book o p stages ≡ plane_items book o' p stages
plane_same book o o' p stages same = grind (arith, nat_tests, flat_map-span-below, stage_same)

-- a stage with the states as they are now is the stage with the states before
pub stage_moved : (view : View) (book : Book) (m0 m1 : List ℤ) (j : ℕ) → SameMarks m0 m1 →
    stage_items book (options_at m1) (plane_in view (depths_of m1)) j ≡ stage_items book (options_at m0) (plane_in view (depths_of m0)) j
stage_moved view book m0 m1 j same = grind (arith, nat_tests, stage_same)

pub agree_moved : (view : View) (m0 m1 m2 : List ℤ) (j : ℕ) → SameMarks m0 m1 → AllAgree (plane_in view (depths_of m1)) j m2 →
    AllAgree (plane_in view (depths_of m0)) j m2
agree_moved view m0 m1 m2 j same agree = subst (λ d. AllAgree (plane_in view d) j m2) same.depths agree

pub agree_back : (view : View) (m0 m1 m2 : List ℤ) (j : ℕ) → SameMarks m0 m1 → AllAgree (plane_in view (depths_of m0)) j m2 →
    AllAgree (plane_in view (depths_of m1)) j m2
agree_back view m0 m1 m2 j same agree = subst (λ d. AllAgree (plane_in view d) j m2) (sym same.depths) agree

-- ---- the start and the end of a plane

no_flags : (n : ℕ) → get_or (false ∷ false ∷ false ∷ []) n false ≡ false
no_flags n = grind (arith, nat_tests)

pub gaggle_below : (marks : List ℤ) (g : ℕ) → g < (length (depths_of marks) + 15) / 16 → 16 * g < length marks
gaggle_below marks g below = omega (arith, length-depths_of marks)

pub chosen_agree : (book : Book) (view : View) (marks : List ℤ) → AreChosen book (plane_in view (depths_of marks)) marks →
    AllAgree (plane_in view (depths_of marks)) 0 marks
chosen_agree book view marks chosen = record {
  at = λ g below.
      let fresh = (chosen.each g (gaggle_below marks g below)).fresh in
      let none : before_stage (plane_in view (depths_of marks)) 0 g ≡ [] =
      flat_map-span-none (λ i. of_gaggle (plane_in view (depths_of marks)) (stage_number i) g) 0 in
      record { at = λ n low high. ap (λ s. get_or s (n - 2) false) fresh ∙ no_flags (n - 2) ∙ sym (ap (list_any (is_word_of n)) none) };
}

pub chosen_known : (book : Book) (p : Plane) (marks : List ℤ) → AreChosen book p marks → AreKnown marks
chosen_known book p marks chosen = record { at = λ g below. (chosen.each g below).known }

-- the items of the whole plane, by the options in the states
pub plane_whole : (view : View) (marks : List ℤ) (last : ℕ) → AreChosen view.tables.now.book (plane_in view (depths_of marks)) marks →
    plane_items view.tables.now.book (options_at marks) (plane_in view (depths_of marks)) (last + 1) ≡ chosen_items view.tables.now.book
    (plane_in view (depths_of marks)) last
plane_whole view marks last are =
    let book = view.tables.now.book in
    let p = plane_in view (depths_of marks) in
    plane_same book (options_at marks) (chosen book p) p (last + 1) (λ g below. (are.each g (gaggle_below marks g below)).options)

-- a stage with the states as they are now is the stage with the states before
pub stage_then : {S : Type 0} {k : SinkOf S} (view : View) (book : Book) (m0 m1 : List ℤ) (j : ℕ) {r : Result (Unit {0}) PutFault} {s t : SinkState S} →
    SameMarks m0 m1 →
    Puts k r s t (text (stage_items book (options_at m1) (plane_in view (depths_of m1)) j)) →
    Puts k r s t (text (stage_items book (options_at m0) (plane_in view (depths_of m0)) j))
stage_then {S} {k} view book m0 m1 j {r} {s} {t} same put = subst (λ l. Puts k r s t (text l)) (stage_moved view book m0 m1 j same) put
