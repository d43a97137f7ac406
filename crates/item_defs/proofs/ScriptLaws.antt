-- Scripts one after another, and what a script says of bits, both ways.
use Rattle.std.proofs.Common.{◌≡◌, ℕ, zero, suc, ◌+◌, ◌++◌, Bool, List, [], ◌∷◌, refl, ap, sym, ◌∙◌, subst, arith, append_assoc, Option, Some, None}
use Rattle.item_defs.specs.Items.{Refusal, Form, Item, IsSaid, spelling, item_bits, text}
use Rattle.item_defs.specs.Readings.{Lacks, IsSound, AreItems}
use Rattle.item_defs.specs.Outcomes.{Outcome, whole, cut, refused, first_number}
use Rattle.item_defs.specs.Scripts.{Script, done, ask, then_ask, in_turn, proceed, unless_named, answered, run}
use Rattle.item_defs.specs.Following.{Follows, Asks, AreSound, ReadWhole, ReadCut, ReadRefused}
use Rattle.item_defs.specs.ScriptLaws.{TurnsSplit, ScriptsSay}
use Rattle.item_defs.proofs.FirstNumbers.{spelt_first, none_first, first_lacks, first_spelt}

-- ---- one script after another

module _ {G A B : Type 0} (next : A → Script G B) where
  after : Outcome G A → Outcome G B
  after o = proceed (λ a. run (next a)) o

  unless_later : (g : G) (name : Option Refusal) (left : List Bool) (o : Outcome G A) → unless_named g name left (after o) ≡ after (unless_named g name left o)
  unfolding after
  unless_later g (Some name) left o = refl
  unless_later g None left o = refl

  answered_later : (g : G) (form : Form) (f : ℕ → List Bool → Outcome G A) (o : Option (ℕ × List Bool)) →
      answered g form (λ n left. after (f n left)) o ≡ after (answered g form f o)
  unfolding after
  answered_later g form f (Some p) = unless_later g (form.refusal p.0) p.1 (f p.0 p.1)
  answered_later g form f None = refl

  pub run_then : (s : Script G A) (bits : List Bool) → run (then_ask s next) bits ≡ proceed (λ a. run (next a)) (run s bits)
  unfolding after
  run_then (done a) bits = refl
  run_then (ask g form more) bits =
      (λ i. answered g form (λ n left. run_then (more n) left i) (first_number form.shape bits)) ∙
      answered_later g form (λ n. run (more n)) (first_number form.shape bits)

pub then_assoc : {G A B C : Type 0} (s : Script G A) (f : A → Script G B) (h : B → Script G C) → then_ask (then_ask s f) h ≡ then_ask s (λ a. then_ask (f a) h)
then_assoc (done a) f h = refl
then_assoc (ask g form more) f h = λ i. ask g form (λ n. then_assoc (more n) f h i)

pub then_done : {G A : Type 0} (s : Script G A) → then_ask s (λ a. done a) ≡ s
then_done (done a) = refl
then_done (ask g form more) = λ i. ask g form (λ n. then_done (more n) i)

pub turns_split : (S : Type 0) → TurnsSplit S
turns_split S item j zero n s =
    let e : zero + n ≡ n = omega arith in
    let f : j + zero ≡ j = omega arith in
    ap (λ m. in_turn item j m s) e ∙ ap (λ i. in_turn item i n s) (sym f)
turns_split S item j (suc m) n s =
    let e : suc m + n ≡ suc (m + n) = omega arith in
    let f : suc j + m ≡ j + suc m = omega arith in
    ap (λ c. in_turn item j c s) e ∙ (λ i. then_ask (item j s) (λ t. turns_split S item (suc j) m n t i)) ∙
    sym (then_assoc (item j s) (in_turn item (suc j) m) (in_turn item (suc j + m) n)) ∙
    ap (λ c. then_ask (then_ask (item j s) (in_turn item (suc j) m)) (in_turn item c n)) f

-- ---- items that follow are read

module _ {G A : Type 0} where
  abbrev pub Next : G → Form → (ℕ → Script G A) → Option (ℕ × List Bool) → Outcome G A
  Next g form next o = answered g form (λ n. run (next n)) o

  -- the first item is read, and then the rest
  pub first_read : (g : G) (form : Form) (next : ℕ → Script G A) (i : Item) (items : List Item) (left : List Bool) → form ≡ i.form → IsSound i.form.shape →
      IsSaid i.form.shape i.said → i.form.refusal i.said ≡ None →
      run (ask g form next) (text (i ∷ items) ++ left) ≡ run (next i.said) (text items ++ left)
  first_read g form next i items left same sound said good =
      ap (run (ask g form next)) (append_assoc (item_bits i) (text items) left) ∙
      ap (λ f. Next g f next (first_number f.shape (item_bits i ++ (text items ++ left)))) same ∙
      ap (Next g i.form next) (spelt_first i.form.shape i.said (text items ++ left) sound said) ∙
      ap (λ name. unless_named g name (text items ++ left) (run (next i.said) (text items ++ left))) good

  follows_whole : (s : Script G A) → (items : List Item) (a : A) (left : List Bool) → AreItems items → Follows s items a →
      run s (text items ++ left) ≡ whole a left
  follows_whole (done b) [] a left are f = ap (λ x. whole x left) f
  follows_whole (done b) (i ∷ is) a left are f = absurd f
  follows_whole (ask g form next) [] a left are f = absurd f
  follows_whole (ask g form next) (i ∷ is) a left are f = first_read g form next i is left f.0 are.0.0 are.0.1 are.0.2 ∙
      follows_whole (next i.said) is a left are.1 f.1

  asks_cut : (s : Script G A) → (items : List Item) (form : Form) (some : List Bool) → AreItems items → Asks s items form → Lacks form.shape some →
      (g : G) × (run s (text items ++ some) ≡ cut g)
  asks_cut (done b) items form some are f lacks = absurd f
  asks_cut (ask g fo next) [] form some are f lacks = (g, ap (Next g fo next) (none_first fo.shape some (subst (λ x. Lacks x.shape some) (sym f) lacks)))
  asks_cut (ask g fo next) (i ∷ is) form some are f lacks =
      let r = asks_cut (next i.said) is form some are.1 f.1 lacks in (r.0, first_read g fo next i is some f.0 are.0.0 are.0.1 are.0.2 ∙ r.1)

  asks_refused : (s : Script G A) → AreSound s → (items : List Item) (form : Form) (said : ℕ) (name : Refusal) (more : List Bool) → AreItems items →
      Asks s items form → IsSaid form.shape said →
      form.refusal said ≡ Some name → (g : G) × (run s (text items ++ (spelling form.shape said ++ more)) ≡ refused g name more)
  asks_refused (done b) sound items form said name more are f says bad = absurd f
  asks_refused (ask g fo next) sound [] form said name more are f says bad = (
    g,
    ap (λ x. Next g x next (first_number x.shape (spelling form.shape said ++ more))) f ∙
        ap (Next g form next) (spelt_first form.shape said more (subst (λ x. IsSound x.shape) f sound.0) says) ∙
        ap (λ x. unless_named g x more (run (next said) more)) bad,
  )
  asks_refused (ask g fo next) sound (i ∷ is) form said name more are f says bad =
      let r = asks_refused (next i.said) (sound.1 i.said (subst (λ x. IsSaid x.shape i.said) (sym f.0) are.0.1) (ap (λ x. x.refusal i.said) f.0 ∙
      are.0.2)) is form said name more are.1 f.1 says bad in
      (r.0, first_read g fo next i is (spelling form.shape said ++ more) f.0 are.0.0 are.0.1 are.0.2 ∙ r.1)

  -- ---- back from what was read

  whole_follows : (s : Script G A) → AreSound s → (bits left : List Bool) (a : A) → run s bits ≡ whole a left → ReadWhole s bits a left
  whole_follows (done b) sound bits left a e = record { items = []; are = tt; read = whole_left e; follows = whole_value e }
    where
      whole_value : ◌≡◌ {A = Outcome G A} (whole b bits) (whole a left) → b ≡ a
      whole_value e = cc

      whole_left : ◌≡◌ {A = Outcome G A} (whole b bits) (whole a left) → bits ≡ left
      whole_left e = cc
  whole_follows (ask g form next) sound bits left a e =
      here (first_number form.shape bits) refl e (λ n rest said good. whole_follows (next n) (sound.1 n said good) rest left a)
    where
      here : (o : Option (ℕ × List Bool)) → first_number form.shape bits ≡ o → Next g form next o ≡ whole a left →
          ((n : ℕ) (rest : List Bool) → IsSaid form.shape n → form.refusal n ≡ None → run (next n) rest ≡ whole a left → ReadWhole (next n) rest a left) →
          ReadWhole (ask g form next) bits a left
      here None q e more = absurd cc
      here (Some r) q e more = named (form.refusal r.0) refl e
        where
          named : (name : Option Refusal) → form.refusal r.0 ≡ name → unless_named g name r.1 (run (next r.0) r.1) ≡ whole a left →
              ReadWhole (ask g form next) bits a left
          named (Some name) f e = absurd cc
          named None f e =
              let p = first_spelt form.shape bits r.1 r.0 q in
              let w = more r.0 r.1 p.0 f e in
              record {
                items = record { form = form; said = r.0 } ∷ w.items;
                are = ((sound.0, p.0, f), w.are);
                read = p.1 ∙ ap (λ l. spelling form.shape r.0 ++ l) w.read ∙ sym (append_assoc (spelling form.shape r.0) (text w.items) left);
                follows = (refl, w.follows);
              }

  cut_asks : (s : Script G A) → AreSound s → (bits : List Bool) (h : G) → run s bits ≡ cut h → ReadCut s bits
  cut_asks (done b) sound bits h e = absurd cc
  cut_asks (ask g form next) sound bits h e = here (first_number form.shape bits) refl e (λ n rest said good. cut_asks (next n) (sound.1 n said good) rest h)
    where
      here : (o : Option (ℕ × List Bool)) → first_number form.shape bits ≡ o → Next g form next o ≡ cut h →
          ((n : ℕ) (rest : List Bool) → IsSaid form.shape n → form.refusal n ≡ None → run (next n) rest ≡ cut h → ReadCut (next n) rest) →
          ReadCut (ask g form next) bits
      here None q e more = record { items = []; are = tt; some = bits; read = refl; form = form; asks = refl; lacks = first_lacks form.shape bits sound.0 q }
      here (Some r) q e more = named (form.refusal r.0) refl e
        where
          named : (name : Option Refusal) → form.refusal r.0 ≡ name → unless_named g name r.1 (run (next r.0) r.1) ≡ cut h → ReadCut (ask g form next) bits
          named (Some name) f e = absurd cc
          named None f e =
              let p = first_spelt form.shape bits r.1 r.0 q in
              let w = more r.0 r.1 p.0 f e in
              record {
                items = record { form = form; said = r.0 } ∷ w.items;
                are = ((sound.0, p.0, f), w.are);
                some = w.some;
                read = p.1 ∙ ap (λ l. spelling form.shape r.0 ++ l) w.read ∙ sym (append_assoc (spelling form.shape r.0) (text w.items) w.some);
                form = w.form;
                asks = (refl, w.asks);
                lacks = w.lacks;
              }

  refused_asks : (s : Script G A) → AreSound s → (bits left : List Bool) (h : G) (name : Refusal) → run s bits ≡ refused h name left →
      ReadRefused s bits name left
  refused_asks (done b) sound bits left h name e = absurd cc
  refused_asks (ask g form next) sound bits left h name e =
      here (first_number form.shape bits) refl e (λ n rest said good. refused_asks (next n) (sound.1 n said good) rest left h name)
    where
      here : (o : Option (ℕ × List Bool)) → first_number form.shape bits ≡ o → Next g form next o ≡ refused h name left →
          ((n : ℕ) (rest : List Bool) → IsSaid form.shape n → form.refusal n ≡ None → run (next n) rest ≡ refused h name left →
          ReadRefused (next n) rest name left) →
          ReadRefused (ask g form next) bits name left
      here None q e more = absurd cc
      here (Some r) q e more = named (form.refusal r.0) refl e
        where
          named : (found : Option Refusal) → form.refusal r.0 ≡ found → unless_named g found r.1 (run (next r.0) r.1) ≡ refused h name left →
              ReadRefused (ask g form next) bits name left
          named (Some other) f e =
              let p = first_spelt form.shape bits r.1 r.0 q in
              let same : other ≡ name = cc in
              let end : r.1 ≡ left = cc in
              record {
                items = [];
                are = tt;
                form = form;
                said = r.0;
                read = p.1 ∙ ap (λ l. spelling form.shape r.0 ++ l) end;
                asks = refl;
                says = p.0;
                refuses = f ∙ ap Some same;
              }
          named None f e =
              let p = first_spelt form.shape bits r.1 r.0 q in
              let w = more r.0 r.1 p.0 f e in
              record {
                items = record { form = form; said = r.0 } ∷ w.items;
                are = ((sound.0, p.0, f), w.are);
                form = w.form;
                said = w.said;
                read = p.1 ∙ ap (λ l. spelling form.shape r.0 ++ l) w.read ∙
                    sym (append_assoc (spelling form.shape r.0) (text w.items) (spelling w.form.shape w.said ++ left));
                asks = (refl, w.asks);
                says = w.says;
                refuses = w.refuses;
              }

pub scripts_say : (G A : Type 0) → ScriptsSay G A
scripts_say G A s sound = record {
  whole_is = λ bits left a e. whole_follows s sound bits left a e;
  is_whole = λ bits left a w. ap (run s) w.read ∙ follows_whole s w.items a left w.are w.follows;
  cut_is = λ bits g e. cut_asks s sound bits g e;
  is_cut = λ bits w. (let r = asks_cut s w.items w.form w.some w.are w.asks w.lacks in (r.0, ap (run s) w.read ∙ r.1));
  refused_is = λ bits left g name e. refused_asks s sound bits left g name e;
  is_refused = λ bits left name w. (let r = asks_refused s sound w.items w.form w.said name left w.are w.asks w.says w.refuses in
      (r.0, ap (run s) w.read ∙ r.1));
}
