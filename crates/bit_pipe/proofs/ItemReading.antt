-- Items read one after another.
use Rattle.std.proofs.Common.{◌≡◌, ℕ, ◌+◌, ◌<◌, ◌≤◌, List, ◌++◌, length, get_or, take, map, ap, ◌∙◌, arith, length-append, Ok, Err, None, set}
use Rattle.std.proofs.lemmas.List.{take-append-le, take_all, take-map, length-map}
use Rattle.item_defs.specs.Items.{Item, Form, Refusal, item_bits, text, spelling}
use Rattle.item_defs.specs.Readings.{item_at, whole, ended, refused}
use Rattle.item_defs.proofs.Texts.{text-append, text_past, item_at_past, item_at_before, text_more_set, item_at_map}
use Rattle.bit_pipe.specs.Sources.{SourceOf}
use Rattle.bit_pipe.specs.SourceState.{SourceState, Takes, EndsWithin, EndsItem}
use Rattle.bit_pipe.specs.Reading.{Ending, stopped, failed, BreaksAt, RefusesAt, EndsReading, Reads, later_by, IsCut}
use Rattle.bit_pipe.specs.declared.fault.InFault.{InFault}
use Rattle.bit_pipe.proofs.Taking.{takes_then, fails_so_later}

breaks_then : {I : Type 0} {k : SourceOf I} (is js : List Item) (m : ℕ) {a b c : SourceState I} → Takes k a b (text is) → BreaksAt k js m b c →
    BreaksAt k (is ++ js) (length is + m) a c
breaks_then is js m p q = record {
  within = omega (arith, length-append is js, q.within);
  some = q.some;
  taken = rw (← text_past is js m q.some) (takes_then p q.taken);
  lacks = rw (item_at_past is js m) q.lacks;
}

refuses_then : {I : Type 0} {k : SourceOf I} (is js : List Item) (m n : ℕ) (name : Refusal) {a b c : SourceState I} → Takes k a b (text is) →
    RefusesAt k js m n name b c → RefusesAt k (is ++ js) (length is + m) n name a c
refuses_then is js m n name p q =
    let at = item_at_past is js m in
    record {
      within = omega (arith, length-append is js, q.within);
      says = rw at q.says;
      refuses = rw at q.refuses;
      taken = rw (at, ← text_past is js m (spelling (item_at js m).form.shape n)) (takes_then p q.taken);
    }

ends_then : {I : Type 0} (k : SourceOf I) (is js : List Item) (ending : Ending) (a b c : SourceState I) → Takes k a b (text is) → EndsReading k js ending b c →
    EndsReading k (is ++ js) (later_by (length is) ending) a c
ends_then k is js (stopped whole) a b c p q = rw (text-append is js) (takes_then p q)
ends_then k is js (stopped (ended m)) a b c p q = (breaks_then is js m p q.0, q.1)
ends_then k is js (stopped (refused m n name)) a b c p q = refuses_then is js m n name p q
ends_then k is js (failed m e) a b c p q = (breaks_then is js m p q.0, fails_so_later p q.1)

-- items that were read whole, and then those after them
pub reads_then : {I : Type 0} {k : SourceOf I} (is : List Item) {js : List Item} {ending : Ending} {a b c : SourceState I} → Takes k a b (text is) →
    Reads k js ending b c → Reads k (is ++ js) (later_by (length is) ending) a c
reads_then {I} {k} is {js} {ending} {a} {b} {c} p q = record { ends = ends_then k is js ending a b c p q.ends }

breaks_cut : {I : Type 0} {k : SourceOf I} (is js : List Item) (m : ℕ) (a b : SourceState I) → BreaksAt k is m a b → BreaksAt k (is ++ js) m a b
breaks_cut {I} {k} is js m a b q =
    let le : m ≤ length is = omega (arith, q.within) in
    record {
      within = omega (arith, length-append is js, q.within);
      some = q.some;
      taken = rw (take-append-le m is js le) q.taken;
      lacks = rw (item_at_before is js m q.within) q.lacks;
    }

refuses_cut : {I : Type 0} {k : SourceOf I} (is js : List Item) (m n : ℕ) (name : Refusal) (a b : SourceState I) → RefusesAt k is m n name a b →
    RefusesAt k (is ++ js) m n name a b
refuses_cut {I} {k} is js m n name a b q =
    let le : m ≤ length is = omega (arith, q.within) in
    let at = item_at_before is js m q.within in
    record {
      within = omega (arith, length-append is js, q.within);
      says = rw at q.says;
      refuses = rw at q.refuses;
      taken = rw (at, take-append-le m is js le) q.taken;
    }

ends_cut : {I : Type 0} (k : SourceOf I) (is js : List Item) (ending : Ending) (a b : SourceState I) → IsCut ending → EndsReading k is ending a b →
    EndsReading k (is ++ js) ending a b
ends_cut k is js (stopped whole) a b cut q = absurd cut
ends_cut k is js (stopped (ended m)) a b cut q = (breaks_cut is js m a b q.0, q.1)
ends_cut k is js (stopped (refused m n name)) a b cut q = refuses_cut is js m n name a b q
ends_cut k is js (failed m e) a b cut q = (breaks_cut is js m a b q.0, q.1)

-- items that were not read whole, and those after them, of which nothing was read
pub reads_cut : {I : Type 0} {k : SourceOf I} {is : List Item} (js : List Item) {ending : Ending} {a b : SourceState I} → IsCut ending → Reads k is ending a b →
    Reads k (is ++ js) ending a b
reads_cut {I} {k} {is} js {ending} {a} {b} cut q = record { ends = ends_cut k is js ending a b cut q.ends }

pub reads_whole : {I : Type 0} {k : SourceOf I} {is : List Item} {a b : SourceState I} → Takes k a b (text is) → Reads k is (stopped whole) a b
reads_whole p = record { ends = p }

-- ---- a loop over the elements of a list, whose items have one form

module _ {X : Type 0} (f : X → Item) (F : Form) (same : (x : X) → (f x).form ≡ F) (xs : List X) where
  each_within : (i : ℕ) → i < length xs → i < length (map f xs)
  each_within i lt = omega (arith, length-map xs f)

  each_form : (i : ℕ) (d : X) → i < length xs → (item_at (map f xs) i).form ≡ F
  each_form i d lt = ap (λ x. x.form) (item_at_map f xs i d lt) ∙ same (get_or xs i d)

  each_breaks : {I : Type 0} {k : SourceOf I} (i : ℕ) (d : X) {a b c : SourceState I} → i < length xs → Takes k a b (text (map f (take i xs))) →
      EndsWithin k F.shape b c → BreaksAt k (map f xs) i a c
  each_breaks i d lt p q = record {
    within = each_within i lt;
    some = q.some;
    taken = rw take-map (takes_then p q.taken);
    lacks = rw (each_form i d lt) q.lacks;
  }

  pub each_ended : {I : Type 0} {k : SourceOf I} (i : ℕ) (d : X) {a b c : SourceState I} → i < length xs → Takes k a b (text (map f (take i xs))) →
      EndsItem k F.shape (Ok None) b c → Reads k (map f xs) (stopped (ended i)) a c
  each_ended i d lt p q = record { ends = (each_breaks i d lt p q.0, q.1) }

  pub each_whole : {I : Type 0} {k : SourceOf I} (i : ℕ) {a b : SourceState I} → length xs ≤ i → Takes k a b (text (map f (take i xs))) →
      Reads k (map f xs) (stopped whole) a b
  each_whole i le p = let e : take i xs ≡ xs = take_all i xs le in reads_whole (rw e at p)

  -- the element at i is written, and its item was read
  pub each_set : {I : Type 0} {k : SourceOf I} (i : ℕ) (y : X) {a b c : SourceState I} → i < length xs → Takes k a b (text (map f (take i xs))) →
      Takes k b c (item_bits (f y)) → Takes k a c (text (map f (take (i + 1) (set xs i y))))
  each_set i y lt p q = rw (text_more_set f xs i y lt) (takes_then p q)
