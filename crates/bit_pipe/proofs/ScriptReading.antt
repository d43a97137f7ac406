-- What is found in bits that are taken one part after another.
use Rattle.std.proofs.Common.{◌≡◌, ℕ, List, [], ◌++◌, Bool, refl, ap, ◌∙◌, append_assoc, subst, Option, Some, None, Result, Ok, Err}
use Rattle.item_defs.specs.Items.{Form, Refusal, IsSaid, spelling}
use Rattle.item_defs.specs.Readings.{IsSound}
use Rattle.bit_pipe.specs.declared.fault.InFault.{InFault}
use Rattle.bit_pipe.specs.declared.fault.InFault.TheVariants as inputs
use Rattle.bit_pipe.specs.declared.fault.TextFault.{TextFault}
use Rattle.bit_pipe.specs.declared.fault.TextFault.TheVariants as texts
use Rattle.bit_pipe.specs.Faults.{of_input}
use Rattle.bit_pipe.specs.Sources.{SourceOf}
use Rattle.bit_pipe.specs.SourceState.{SourceState, IsIn, Takes, EndsItem}
use Rattle.bit_pipe.proofs.Taking.{takes_start, takes_then, fails_so_later, in_later}
use Rattle.item_defs.specs.Outcomes.{Outcome, whole, cut, refused, first_number}
use Rattle.item_defs.specs.Scripts.{Script, done, ask, then_ask, around, proceed, unless_named, answered, run}
use Rattle.bit_pipe.specs.ScriptSources.{Found, got, ends, refuses, fails, Says, Stops, ReadsAs, Gets, GoesOn, by_fault, by_done}
use Rattle.item_defs.proofs.FirstNumbers.{spelt_first, none_first}
use Rattle.item_defs.proofs.ScriptLaws.{run_then}

-- ---- bits

-- some bits are read, and what follows them says the rest
pub says_on : {G A : Type 0} (s t : Script G A) (xs ys : List Bool) (f : Found G A) → GoesOn s xs t → Says t ys f → Says s (xs ++ ys) f
says_on s t xs ys (got b) p q = λ more. ap (run s) (append_assoc xs ys more) ∙ p (ys ++ more) ∙ q more
says_on s t xs ys (ends g) p q = p ys ∙ q
says_on s t xs ys (refuses g name) p q = λ more. ap (run s) (append_assoc xs ys more) ∙ p (ys ++ more) ∙ q more
says_on s t xs ys (fails g e) p q = p ys ∙ q

module _ {G A : Type 0} where
  pub goes_on_then : (s t u : Script G A) (xs ys : List Bool) → GoesOn s xs t → GoesOn t ys u → GoesOn s (xs ++ ys) u
  goes_on_then s t u xs ys p q = λ more. ap (run s) (append_assoc xs ys more) ∙ p (ys ++ more) ∙ q more

  -- the spelling of a number that is not refused is read
  pub goes_on_ask : (g : G) (form : Form) (next : ℕ → Script G A) (n : ℕ) → IsSound form.shape → IsSaid form.shape n → form.refusal n ≡ None →
      GoesOn (ask g form next) (spelling form.shape n) (next n)
  goes_on_ask g form next n sound said good = λ more.
      ap (answered g form (λ m. run (next m))) (spelt_first form.shape n more sound said) ∙ ap (λ name. unless_named g name more (run (next n) more)) good

module _ {G A B : Type 0} (s : Script G A) (next : A → Script G B) where
  later : (bits : List Bool) (o : Outcome G A) → run s bits ≡ o → run (then_ask s next) bits ≡ proceed (λ a. run (next a)) o
  later bits o e = run_then next s bits ∙ ap (proceed (λ a. run (next a))) e

  pub gets_goes_on : (xs : List Bool) (a : A) → Gets s xs a → GoesOn (then_ask s next) xs (next a)
  gets_goes_on xs a p = λ more. later (xs ++ more) (whole a more) (p more)

  pub gets_then : (xs ys : List Bool) (a : A) (b : B) → Gets s xs a → Gets (next a) ys b → Gets (then_ask s next) (xs ++ ys) b
  gets_then xs ys a b p q = says_on (then_ask s next) (next a) xs ys (got b) (gets_goes_on xs a p) q

-- ---- a source

stops_then : {I G B : Type 0} {k : SourceOf I} (a b c : SourceState I) (xs : List Bool) (f : Found G B) → Takes k a b xs → Stops k f b c → Stops k f a c
stops_then a b c xs (got x) p q = tt
stops_then a b c xs (ends g) p q = q
stops_then a b c xs (refuses g name) p q = tt
stops_then a b c xs (fails g e) p q = fails_so_later p q

module _ {I : Type 0} {k : SourceOf I} {G A : Type 0} where
  -- nothing is read
  pub read_done : (a : A) (s : SourceState I) → IsIn s → ReadsAs {G = G} k (done a) (got a) s s
  read_done a s h = record { bits = []; taken = takes_start k s h; says = λ more. refl; stops = tt }

  pub in_read : {s : Script G A} {a : A} {b c : SourceState I} → IsIn b → ReadsAs k s (got a) b c → IsIn c
  in_read h p = in_later h p.taken

  -- some bits were taken, and what follows them was read
  pub read_on : (s t : Script G A) (xs : List Bool) (f : Found G A) {a b c : SourceState I} → GoesOn s xs t → Takes k a b xs → ReadsAs k t f b c →
      ReadsAs k s f a c
  read_on s t xs f {a} {b} {c} p t1 q =
      record { bits = xs ++ q.bits; taken = takes_then t1 q.taken; says = says_on s t xs q.bits f p q.says; stops = stops_then a b c xs f t1 q.stops }

  -- ---- an item

  module _ (g : G) (form : Form) (next : ℕ → Script G A) {s t : SourceState I} where
    -- a number of the item was read, and then what follows it
    pub ask_got : (n : ℕ) (f : Found G A) {u : SourceState I} → IsSound form.shape → EndsItem k form.shape (Ok (Some n)) s t → form.refusal n ≡ None →
        ReadsAs k (next n) f t u → ReadsAs k (ask g form next) f s u
    ask_got n f sound p good q = read_on (ask g form next) (next n) (spelling form.shape n) f (goes_on_ask g form next n sound p.0 good) p.1 q

    pub ask_refused : (n : ℕ) (name : Refusal) → IsSound form.shape → EndsItem k form.shape (Ok (Some n)) s t → form.refusal n ≡ Some name →
        ReadsAs k (ask g form next) (refuses g name) s t
    ask_refused n name sound p bad = record {
      bits = spelling form.shape n;
      taken = p.1;
      says = λ more. ap (answered g form (λ m. run (next m))) (spelt_first form.shape n more sound p.0)
          ∙ ap (λ x. unless_named g x more (run (next n) more)) bad;
      stops = tt;
    }

    pub ask_ended : EndsItem k form.shape (Ok None) s t → ReadsAs k (ask g form next) (ends g) s t
    ask_ended p = record {
      bits = p.0.some;
      taken = p.0.taken;
      says =
          ap (answered g form (λ m. run (next m))) (none_first form.shape p.0.some p.0.lacks);
      stops = p.1;
    }

    ask_fails : (e : InFault) → EndsItem k form.shape (Err e) s t → ReadsAs k (ask g form next) (fails g e) s t
    ask_fails e p = record {
      bits = p.0.some;
      taken = p.0.taken;
      says =
          ap (answered g form (λ m. run (next m))) (none_first form.shape p.0.some p.0.lacks);
      stops = p.1;
    }

    pub ask_failed : (e : InFault) → EndsItem k form.shape (Err e) s t → ReadsAs k (ask g form next) (by_fault (of_input e) g) s t
    ask_failed inputs.ReadFault p = ask_fails _ p
    ask_failed inputs.LongInput p = ask_fails _ p
    ask_failed inputs.Broken p = ask_fails _ p

-- ---- one script after another

module _ {I : Type 0} {k : SourceOf I} {G A B : Type 0} (r : Script G A) (next : A → Script G B) {s t : SourceState I} where
  -- the first part was read, and then the next
  pub read_then : (a : A) (f : Found G B) {u : SourceState I} → ReadsAs k r (got a) s t → ReadsAs k (next a) f t u → ReadsAs k (then_ask r next) f s u
  read_then a f p q = read_on (then_ask r next) (next a) p.bits f (gets_goes_on r next p.bits a p.says) p.taken q

  -- the first part was cut
  pub read_cut : (g : G) → ReadsAs k r (ends g) s t → ReadsAs k (then_ask r next) (ends g) s t
  read_cut g p = record { bits = p.bits; taken = p.taken; says = later r next p.bits (cut g) p.says; stops = p.stops }

  refused_first : (g : G) (name : Refusal) → ReadsAs k r (refuses g name) s t → ReadsAs k (then_ask r next) (refuses g name) s t
  refused_first g name p = record {
    bits = p.bits;
    taken = p.taken;
    says = λ more. later r next (p.bits ++ more) (refused g name more) (p.says more);
    stops = tt;
  }

  failed_first : (g : G) (e : InFault) → ReadsAs k r (fails g e) s t → ReadsAs k (then_ask r next) (fails g e) s t
  failed_first g e p = record { bits = p.bits; taken = p.taken; says = later r next p.bits (cut g) p.says; stops = p.stops }

  -- the first part was refused, or failed
  pub read_fault : (g : G) (fault : TextFault) → ReadsAs k r (by_fault fault g) s t → ReadsAs k (then_ask r next) (by_fault fault g) s t
  read_fault g texts.BadOption p = refused_first g _ p
  read_fault g texts.BadDelta p = refused_first g _ p
  read_fault g texts.BadDepth p = refused_first g _ p
  read_fault g texts.FalseFlag p = refused_first g _ p
  read_fault g texts.ReadFault p = failed_first g _ p
  read_fault g texts.LongInput p = failed_first g _ p
  read_fault g texts.Broken p = failed_first g _ p

-- ---- what is left of a reading after a part of it: however the rest ends, so does the whole

pub record Leaves {I G A : Type 0} (k : SourceOf I) (all rest : Script G A) (old new : SourceState I) : Type 0 where
  pub then : (f : Found G A) (last : SourceState I) → ReadsAs k rest f new last → ReadsAs k all f old last

pub leaves_all : {I G A : Type 0} {k : SourceOf I} (r : Script G A) (s : SourceState I) → Leaves k r r s s
leaves_all r s = record { then = λ f last p. p }

pub leaves_more : {I G A B : Type 0} {k : SourceOf I} (all : Script G B) (r : Script G A) (next : A → Script G B) {s t u : SourceState I} (a : A) →
    Leaves k all (then_ask r next) s t → ReadsAs k r (got a) t u → Leaves k all (next a) s u
leaves_more all r next {u = u} a l p = record { then = λ f last q. l.then f last (read_then r next a f p q) }

-- ---- a part is read and put back

abbrev pub found_in : {S T : Type 0} → (S → T) → Found S S → Found T T
found_in put (got a) = got (put a)
found_in put (ends g) = ends (put g)
found_in put (refuses g name) = refuses (put g) name
found_in put (fails g e) = fails (put g) e

abbrev outcome_in : {S T : Type 0} → (S → T) → Outcome S S → Outcome T T
outcome_in put (whole a left) = whole (put a) left
outcome_in put (cut g) = cut (put g)
outcome_in put (refused g name left) = refused (put g) name left

module _ {S T : Type 0} (put : S → T) where
  unless_in : (g : S) (name : Option Refusal) (left : List Bool) (o : Outcome S S) →
      unless_named (put g) name left (outcome_in put o) ≡ outcome_in put (unless_named g name left o)
  unless_in g (Some name) left o = refl
  unless_in g None left o = refl

  answered_in : (g : S) (form : Form) (f : ℕ → List Bool → Outcome S S) (o : Option (ℕ × List Bool)) →
      answered (put g) form (λ n left. outcome_in put (f n left)) o ≡ outcome_in put (answered g form f o)
  answered_in g form f (Some p) = unless_in g (form.refusal p.0) p.1 (f p.0 p.1)
  answered_in g form f None = refl

  pub run_around : (s : Script S S) (bits : List Bool) → run (around put s) bits ≡ outcome_in put (run s bits)
  run_around (done a) bits = refl
  run_around (ask g form more) bits = (λ i. answered (put g) form (λ n left. run_around (more n) left i) (first_number form.shape bits)) ∙
      answered_in g form (λ n. run (more n)) (first_number form.shape bits)

  fault_in : (fault : TextFault) (s : S) → found_in put (by_fault fault s) ≡ by_fault fault (put s)
  fault_in texts.BadOption s = refl
  fault_in texts.BadDelta s = refl
  fault_in texts.BadDepth s = refl
  fault_in texts.FalseFlag s = refl
  fault_in texts.ReadFault s = refl
  fault_in texts.LongInput s = refl
  fault_in texts.Broken s = refl

  done_in : {X : Type 0} (result : Result (Option X) TextFault) (s : S) → found_in put (by_done result s s) ≡ by_done result (put s) (put s)
  done_in (Ok (Some x)) s = refl
  done_in (Ok None) s = refl
  done_in (Err fault) s = fault_in fault s

  in_around : (r : Script S S) (bits : List Bool) (o : Outcome S S) → run r bits ≡ o → run (around put r) bits ≡ outcome_in put o
  in_around r bits o e = run_around r bits ∙ ap (outcome_in put) e

  pub gets_around : (r : Script S S) (bits : List Bool) (s : S) → Gets r bits s → Gets (around put r) bits (put s)
  gets_around r bits s q = λ more. in_around r (bits ++ more) (whole s more) (q more)

module _ {I S T : Type 0} {k : SourceOf I} (put : S → T) (r : Script S S) {old new : SourceState I} where
  pub read_in : (f : Found S S) → ReadsAs k r f old new → ReadsAs k (around put r) (found_in put f) old new
  read_in (got a) q = record { bits = q.bits; taken = q.taken; says = gets_around put r q.bits a q.says; stops = tt }
  read_in (ends g) q = record { bits = q.bits; taken = q.taken; says = in_around put r q.bits (cut g) q.says; stops = q.stops }
  read_in (refuses g name) q =
      record { bits = q.bits; taken = q.taken; says = λ more. in_around put r (q.bits ++ more) (refused g name more) (q.says more); stops = tt }
  read_in (fails g e) q = record { bits = q.bits; taken = q.taken; says = in_around put r q.bits (cut g) q.says; stops = q.stops }

  pub around_read : {X : Type 0} (result : Result (Option X) TextFault) (s : S) → ReadsAs k r (by_done result s s) old new →
      ReadsAs k (around put r) (by_done result (put s) (put s)) old new
  around_read result s q = subst (λ f. ReadsAs k (around put r) f old new) (done_in put result s) (read_in (by_done result s s) q)
