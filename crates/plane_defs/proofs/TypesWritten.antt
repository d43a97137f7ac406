-- The items of types and their signs follow their script.
use Rattle.std.proofs.Common.{◌≡◌, ℕ, ◌<◌, ◌≤◌, ◌^◌, ◌==◌, ◌&&◌, ◌||◌, Bool, true, if◌then◌else◌, List, [], ◌∷◌, ◌++◌, length, map, filter, refl, ap}
use Rattle.std.proofs.Common.{sym, ◌∙◌, subst, arith, append_assoc, append-nil, ℤ, pos}
use Rattle.std.proofs.lemmas.Bool.Decides.{nat_tests}
use Rattle.std.proofs.lemmas.List.{length-map}
use Rattle.std.proofs.Math.Bool.{or-false}
use lib.ListN.{get_or}
use Rattle.item_defs.specs.Bits.{bits_of, value_of, digit}
use Rattle.item_defs.specs.Items.{raw}
use Rattle.item_defs.proofs.NumberBits.{bits_of-value_of, value_below}
use Rattle.base_122.specs.declared.book.Book.{Book}
use Rattle.plane_defs.specs.declared.entries.Entry.{Entry}
use Rattle.plane_defs.specs.declared.entries.Entry.TheVariants.{Bit}
use Rattle.plane_defs.specs.Sets.{significant, type_due, newly_significant}
use Rattle.plane_defs.specs.Entries.{word, negative, types}
use Rattle.plane_defs.specs.Reading.{entry_reading, read_after}
use Rattle.plane_defs.specs.Steps.{Check, free, Step, step, some_one_where, typed_steps}
use Rattle.plane_defs.specs.StepLaws.{entries_of}
use Rattle.plane_defs.proofs.Equations.{bit_reading, newly_significant-is}
use Rattle.item_defs.specs.Scripts.{done, then_ask, bit_form}
use Rattle.item_defs.specs.Following.{Follows}
use Rattle.item_defs.proofs.FollowLaws.{follows_then}
use Rattle.item_defs.specs.Writing.{Writes}
use Rattle.item_defs.proofs.Writing.{writes_none, writes_ask, writes_then, writes_weaker}
use Rattle.plane_defs.specs.Written.{has, Knows, AreChosen, WroteTypes}
use Rattle.plane_defs.specs.States.{State, with_options, with_bits, with_minus, and_one}
use Rattle.plane_defs.specs.WordScripts.{word_script, ones, due_script, signs_script, types_script}
use Rattle.plane_defs.proofs.WordsWritten.{knows_same, Wrote, word_written}

-- ---- places of a list

pub ones_of_test : (f : ℕ → Bool) (ps : List ℕ) (q : ℕ) → ones ps (map f ps) q ≡ (has ps q && f q)
ones_of_test f [] q = refl
ones_of_test f (p ∷ ps) q = ap (λ t. ((q == p) && f p) || t) (ones_of_test f ps q) ∙ here (q == p) refl
  where
    absorbed : (a h : Bool) → (a || (h && a)) ≡ a
    absorbed a h = grind (arith, nat_tests)

    here : (t : Bool) → (q == p) ≡ t → ((t && f p) || (has ps q && f q)) ≡ ((t || has ps q) && f q)
    here t h1 = grind (arith, nat_tests)

pub has_filter : (d : ℕ → Bool) (ps : List ℕ) (q : ℕ) → has (filter d ps) q ≡ (has ps q && d q)
has_filter d [] q = refl
has_filter d (p ∷ ps) q = by (d p) refl (q == p) refl (has_filter d ps q)
  where
    absorbed : (a h : Bool) → (h && a) ≡ (a && h)
    absorbed a h = grind (arith, nat_tests)

    by : (t : Bool) → d p ≡ t → (u : Bool) → (q == p) ≡ u → has (filter d ps) q ≡ (has ps q && d q) →
        has (if t then p ∷ filter d ps else filter d ps) q ≡ ((u || has ps q) && d q)
    by t h1 u h2 h3 = grind (arith, nat_tests)

-- tests that are the same at each place
pub filter_alike : (g h : ℕ → Bool) (ps : List ℕ) → ((q : ℕ) → has ps q ≡ true → g q ≡ h q) → filter g ps ≡ filter h ps
filter_alike g h [] same = refl
filter_alike g h (p ∷ ps) same = (λ t. if same p self t then p ∷ filter g ps else filter g ps) ∙
    ap (λ (l : List ℕ). if h p then p ∷ l else l) (filter_alike g h ps (λ q e. same q (later (q == p) (has ps q) e)))
  where
    self : ((p == p) || has ps p) ≡ true
    self = let e : (p == p) ≡ true = grind (arith, nat_tests) in ap (λ b. b || has ps p) e

    later : (a b : Bool) → b ≡ true → (a || b) ≡ true
    later a b h1 = grind (arith, nat_tests)

-- the places of a word whose bit is 1
pub new_places : (d f : ℕ → Bool) (ps : List ℕ) (new : ℕ → Bool) → ((q : ℕ) → new q ≡ (has (filter d ps) q && f q)) →
    filter new ps ≡ filter (λ q. d q && f q) ps
new_places d f ps new is = filter_alike new (λ q. d q && f q) ps (λ q here. is q ∙ ap (λ b. b && f q) (has_filter d ps q ∙ ap (λ b. b && d q) here))

-- ---- a word of due places

-- what it leaves: the places that are due and pass the test are new
pub record WroteDue (o : List ℕ) (before : List Entry) (e : Entry) (here : List ℕ) (f : ℕ → Bool) (s : State) (r : State × (ℕ → Bool)) : Type 0 where
  pub knows : Knows o (before ++ e ∷ []) r.0.options
  pub same : r.0 ≡ with_options s r.0.options
  pub is : (q : ℕ) → r.1 q ≡ (has here q && f q)

-- the places of types that are 1 are those of numbers that become significant
pub new_due : (due : ℕ → Bool) (v : List ℤ) (weights : List ℕ) (plane : ℕ) (ps : List ℕ) → filter due ps ≡ filter (type_due v weights plane) ps →
    filter (λ q. due q && significant v plane q) ps ≡ filter (newly_significant v weights plane) ps
new_due due v weights plane ps same = filter_alike (λ q. due q && significant v plane q) (newly_significant v weights plane) ps (λ q here.
    ap (λ b. b && significant v plane q) (sym (ap (λ b. b && due q) here) ∙ sym (has_filter due ps q) ∙ ap (λ l. has l q) same ∙
    has_filter (type_due v weights plane) ps q ∙ ap (λ b. b && type_due v weights plane q) here) ∙ sym (newly_significant-is v weights plane q))

module _ (book : Book) (o : List ℕ) (chosen : AreChosen o) where
  pub due_written : (before : List Entry) (check : Check) (due f : ℕ → Bool) (places : List ℕ) → length (filter due places) ≤ 4 → (s : State) →
      Knows o before s.options →
      Writes (due_script book due check places s) (entry_reading book o before check (word (map f (filter due places))))
      (WroteDue o before (word (map f (filter due places))) (filter due places) f s)
  due_written before check due f places few s knows =
      let here = filter due places in
      let bits = map f here in
      let long : length bits ≡ length here = length-map here f in
      let fits : value_of bits < 2 ^ length bits = value_below bits in
      let w = word_written book o chosen before check (value_of bits) (length bits) s knows (omega (arith, long, few)) fits in
      let script : Writes (word_script book (length here) check s) (entry_reading book o before check (word bits))
      (Wrote o before (word bits) s (value_of bits)) =
      subst (λ n. Writes (word_script book n check s) (entry_reading book o before check (word bits))
      (Wrote o before (word bits) s (value_of bits))) long w in
      let last = script.is in
      record {
        end = (script.end.0, ones here (bits_of (length here) script.end.1));
        is = record {
          knows = last.knows;
          same = last.same;
          is = λ q. ap (λ l. ones here l q) (ap (bits_of (length here)) last.is ∙ ap (λ n. bits_of n (value_of bits)) (sym long) ∙ bits_of-value_of bits) ∙
              ones_of_test f here q;
        };
        follows = subst (λ l. Follows {A =
            State × (ℕ → Bool)} (then_ask (word_script book (length here) check s) (λ w. done (w.0, ones here (bits_of (length here) w.1)))) l (
              script.end.0,
              ones here (bits_of (length here) script.end.1),
            )) (append-nil (entry_reading book o before check (word bits)))
            (follows_then (λ (w : State × ℕ). done (w.0, ones here (bits_of (length here) w.1))) (word_script book (length here) check s)
            (entry_reading book o before check (word bits)) [] script.end (
              script.end.0,
              ones here (bits_of (length here) script.end.1),
            ) script.follows refl);
      }

  -- ---- signs

  abbrev sign_steps : (ℕ → Bool) → List ℕ → List Step
  sign_steps g ps = map (λ p. step free (Bit (g p))) ps

  record WroteSigns (before : List Entry) (g : ℕ → Bool) (ps : List ℕ) (s t : State) : Type 0 where
    knows : Knows o (before ++ entries_of (sign_steps g ps)) t.options
    same : t ≡ with_minus s t.minus
    is : (q : ℕ) → t.minus q ≡ (s.minus q || (has ps q && g q))

  signs_written : (before : List Entry) (g : ℕ → Bool) (ps : List ℕ) (s : State) → Knows o before s.options →
      Writes (signs_script ps s) (read_after book o before (sign_steps g ps)) (WroteSigns before g ps s)
  signs_written before g [] s knows =
      writes_none (WroteSigns before g [] s) s (record {
        knows = subst (λ l. Knows o l s.options) (sym (append-nil before)) knows;
        same = refl;
        is =
            λ q. sym (or-false (s.minus q));
      })
  signs_written before g (p ∷ ps) s knows =
      let t = with_minus s (and_one s.minus p (digit (g p) == 1)) in
      let w = signs_written (before ++ Bit (g p) ∷ []) g ps t (knows_same o before (Bit (g p)) s.options (λ n low. refl) knows) in
      subst (λ l. Writes (signs_script (p ∷ ps) s) (l ++ read_after book o (before ++ Bit (g p) ∷ []) (sign_steps g ps)) (WroteSigns before g (p ∷ ps) s))
      (sym (bit_reading book o before free (g p)))
      (writes_ask (WroteSigns before g (p ∷ ps) s) s bit_form (λ n. signs_script ps (with_minus s (and_one s.minus p (n == 1)))) (raw (digit (g p)))
      (read_after book o (before ++ Bit (g p) ∷ []) (sign_steps g ps)) refl
      (writes_weaker (WroteSigns (before ++ Bit (g p) ∷ []) g ps t) (WroteSigns before g (p ∷ ps) s) (signs_script ps t)
      (read_after book o (before ++ Bit (g p) ∷ []) (sign_steps g ps))
      (λ u r. record {
        knows = subst (λ l. Knows o l u.options) (append_assoc before (Bit (g p) ∷ []) (entries_of (sign_steps g ps))) r.knows;
        same = r.same;
        is = λ q. r.is q ∙ one (s.minus q) q (has ps q) (q == p) refl;
      }) w))
    where
      one : (m : Bool) (q : ℕ) (h t : Bool) → (q == p) ≡ t → ((m || (t && (digit (g p) == 1))) || (h && g q)) ≡ (m || ((t || h) && g q))
      one m q h t h1 = grind (arith, nat_tests)

  -- ---- types

  pub types_written : (before : List Entry) (v : List ℤ) (weights : List ℕ) (plane : ℕ) (due : ℕ → Bool) (wanted : Bool) (positions : List ℕ) →
      length (filter due positions) ≤ 4 →
      filter due positions ≡ filter (type_due v weights plane) positions → (s : State) → Knows o before s.options →
      Writes (types_script book due wanted positions s) (read_after book o before (typed_steps v weights plane (some_one_where wanted) positions))
      (WroteTypes o before v weights plane wanted positions s)
  types_written before v weights plane due wanted positions few same s knows =
      let sig = significant v plane in
      let here = filter due positions in
      let first : word (map sig here) ≡ word (types v weights plane positions) = ap (λ l. word (map sig l)) same in
      let newly = filter (newly_significant v weights plane) positions in
      let g : ℕ → Bool = λ p. negative (get_or v p (pos 0)) in
      let check = some_one_where wanted in
      writes_then (WroteDue o before (word (types v weights plane positions)) here sig s) (WroteTypes o before v weights plane wanted positions s)
      (due_script book due check positions s) (λ r. signs_script (filter r.1 positions) (with_bits r.0 r.1))
      (entry_reading book o before check (word (types v weights plane positions)))
      (read_after book o (before ++ word (types v weights plane positions) ∷ []) (sign_steps g newly))
      (subst (λ e. Writes (due_script book due check positions s) (entry_reading book o before check e) (WroteDue o before e here sig s)) first
      (due_written before check due sig positions few s knows))
      (λ r p.
      let t = with_bits r.0 r.1 in
      let these : filter r.1 positions ≡ newly = new_places due sig positions r.1 p.is ∙ new_due due v weights plane positions same in
      subst (λ l. Writes (signs_script l t) (read_after book o (before ++ word (types v weights plane positions) ∷ []) (sign_steps g newly))
      (WroteTypes o before v weights plane wanted positions s)) (sym these)
      (writes_weaker (WroteSigns (before ++ word (types v weights plane positions) ∷ []) g newly t) (WroteTypes o before v weights plane wanted positions s)
      (signs_script newly t) (read_after book o (before ++ word (types v weights plane positions) ∷ []) (sign_steps g newly))
      (λ u w. record {
        knows = subst (λ l. Knows o l u.options)
            (append_assoc before (word (types v weights plane positions) ∷ []) (entries_of (sign_steps g newly))) w.knows;
        bits = λ q. (λ i. (w.same i).bits q) ∙ (λ i. (p.same i).bits q || r.1 q) ∙ ap (λ b. s.bits q || b) (p.is q ∙ ap (λ l. has l q && sig q) same);
        minus = λ q. w.is q ∙ (λ i. (p.same i).minus q || (has newly q && g q));
        families = (λ i. (w.same i).families) ∙ (λ i. (p.same i).families);
      })
      (signs_written (before ++ word (types v weights plane positions) ∷ []) g newly t p.knows)))
