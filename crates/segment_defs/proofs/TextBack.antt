-- A text that is read as values holds some, and one that is refused by a name has this name: the items that were read are those of
-- values, completed by default answers.
use Rattle.std.proofs.Common.{◌≡◌, ◌≢◌, ◌<◌, ◌≤◌, ℕ, ◌-◌, ◌==◌, nat_lt, Bool, true, false, if◌then◌else◌, List, [], ◌∷◌, ◌++◌, length, take, refl, ap, sym}
use Rattle.std.proofs.Common.{◌∙◌, subst, arith, ℤ, inl, inr, append-nil, length-append, Some}
use Rattle.std.specs.Prelude.{Ok, Err}
use Rattle.std.proofs.lemmas.Bool.{cases_lt}
use Rattle.std.proofs.lemmas.Bool.Decides.{nat_tests}
use Rattle.item_defs.specs.Items.{Form, Item, Refusal, IsSaid, spelling, text}
use Rattle.item_defs.specs.Readings.{AreItems, Lacks, item_at}
use Rattle.base_122.specs.declared.book.Book.{Book}
use Rattle.plane_defs.specs.Codes.{is_book_sound}
use Rattle.segment_defs.specs.declared.head.SegmentHead.{SegmentHead}
use Rattle.segment_defs.specs.Head.{IsHead}
use Rattle.segment_defs.specs.SegmentItems.{segment_items}
use Rattle.segment_defs.specs.Outcomes.{SegmentRefusal, at_item, short_segment, overlong, length_of, bits_read, expected_length, IsOff, IsCut, IsOffLimit}
use Rattle.segment_defs.specs.Outcomes.{Reading, Holds, Refused}
use Rattle.segment_defs.specs.Prefixes.{NothingFollows}
use Rattle.item_defs.specs.Outcomes.{Outcome, whole, cut, refused}
use Rattle.item_defs.specs.Scripts.{Script, done, ask, run}
use Rattle.item_defs.specs.Following.{Follows, Asks, ReadWhole, ReadCut, ReadRefused}
use Rattle.item_defs.specs.Completing.{Completed}
use Rattle.item_defs.proofs.Completing.{completes, are_possible, both_possible}
use Rattle.item_defs.proofs.FollowLaws.{asks_one}
use Rattle.item_defs.proofs.ScriptStarts.{starts_asks, starts_on}
use Rattle.segment_defs.specs.TextLaws.{HasBlocks}
use Rattle.segment_defs.specs.Segments.{segment_script}
use Rattle.segment_defs.specs.TextOutcome.{Answer, by_length, expected, verdict, text_outcome}
use Rattle.segment_defs.proofs.SegmentGoes.{script_is_read}
use Rattle.segment_defs.proofs.SegmentWritten.{segment_follows, segment_asks}
use Rattle.segment_defs.proofs.SegmentBack.{whole_script, Spelled, whole_starts, whole_goes, spelled_back}

abbrev Blocks : Type 0
Blocks = List (List ℤ)

-- ---- lists

take_first : (xs ys : List Item) → take (length xs) (xs ++ ys) ≡ xs
take_first [] ys = refl
take_first (x ∷ xs) ys = ap (λ l. x ∷ l) (take_first xs ys)

-- of two prefixes of a list one is a prefix of the other
pub shorter : (xs ys L zs : List Item) → xs ++ ys ≡ L ++ zs → length xs ≤ length L → take (length xs) L ≡ xs
shorter [] ys L zs e le = refl
shorter (x ∷ xs) ys [] zs e le = absurd (omega (arith, le))
shorter (x ∷ xs) ys (l ∷ L) zs e le =
    let first : x ≡ l = cc in
    let rest : xs ++ ys ≡ L ++ zs = cc in
    (λ i. sym first i ∷ shorter xs ys L zs rest (omega (arith, le)) i)

longer : (xs ys L zs : List Item) → xs ++ ys ≡ L ++ zs → length L ≤ length xs → (u : List Item) × (xs ≡ L ++ u)
longer xs ys [] zs e le = (xs, refl)
longer [] ys (l ∷ L) zs e le = absurd (omega (arith, le))
longer (x ∷ xs) ys (l ∷ L) zs e le =
    let first : x ≡ l = cc in
    let rest : xs ++ ys ≡ L ++ zs = cc in
    let w = longer xs ys L zs rest (omega (arith, le)) in
    (w.0, λ i. first i ∷ w.1 i)

first_items : (xs ys : List Item) → AreItems (xs ++ ys) → AreItems xs
first_items [] ys are = tt
first_items (x ∷ xs) ys are = (are.0, first_items xs ys are.1)

-- after the end nothing is asked, and nothing follows
module _ {G A : Type 0} where
  none_asked : (s : Script G A) (xs ys : List Item) (a : A) (form : Form) → Follows s xs a → Asks s (xs ++ ys) form → ⊥
  none_asked (done c) [] ys a form f asks = asks
  none_asked (done c) (x ∷ xs) ys a form f asks = f
  none_asked (ask g fo more) [] ys a form f asks = f
  none_asked (ask g fo more) (x ∷ xs) ys a form f asks = none_asked (more x.said) xs ys a form f.1 asks.1

  none_follow : (s : Script G A) (xs ys : List Item) (a b : A) → Follows s xs a → Follows s (xs ++ ys) b → ys ≡ []
  none_follow (done c) [] [] a b f g = refl
  none_follow (done c) [] (y ∷ ys) a b f g = absurd g
  none_follow (done c) (x ∷ xs) ys a b f g = absurd f
  none_follow (ask h fo more) [] ys a b f g = absurd f
  none_follow (ask h fo more) (x ∷ xs) ys a b f g = none_follow (more x.said) xs ys a b f.1 g.1

module _ (book : Book) (sound : is_book_sound book ≡ true) (head : SegmentHead) (is_head : IsHead head) where
  abbrev S : Script Blocks Blocks
  S = segment_script book head

  abbrev W : Script Blocks Blocks
  W = whole_script book head

  -- ---- the values of items that were read

  module _ (items : List Item) (are : AreItems items) where
    -- completed items are those of their blocks
    pub completed_back : (c : Completed W (HasBlocks head) items) → Spelled book head (items ++ c.more) c.end
    completed_back c = spelled_back book sound head is_head (items ++ c.more) c.end (both_possible items c.more (are_possible items are) c.are) c.follows

    module _ (more : List Item) (end : Blocks) (p : Spelled book head (items ++ more) end) where
      abbrev L : List Item
      L = segment_items head end p.depths p.options

      -- the values' own items follow, or ask for the next
      values_follow : AreItems L → (w : Blocks) × Follows S L w
      values_follow all =
          subst (λ b. (w : Blocks) × Follows (segment_script b head) L w) p.of_book
          (segment_follows head is_head end p.depths p.options p.spellable p.words all)

      values_ask : length items < length L → Asks S items (item_at L (length items)).form
      values_ask lt =
          let same = shorter items more L p.rest p.is (omega (arith, lt)) in
          subst (λ l. Asks S l (item_at L (length items)).form) same
          (subst (λ b. Asks (segment_script b head) (take (length items) L) (item_at L (length items)).form) p.of_book
          (segment_asks head is_head end p.depths p.options p.spellable p.words (length items) lt (subst AreItems (sym same) are)))

      -- items that ask are the first of the values' items, and the next has the form that is asked for
      pub asked_back : (form : Form) → Asks S items form → (length items < length L) × ((item_at L (length items)).form ≡ form)
      asked_back form asks = elim (cases_lt (length items) (length L)) [
        | inl lt ↦ (lt, asks_one S items (item_at L (length items)).form form (values_ask lt) asks)
        | inr ge ↦
            let u = longer items more L p.rest p.is ge in
            let f = values_follow (first_items L u.0 (subst AreItems u.1 are)) in
            absurd (none_asked S L u.0 f.0 form f.1 (subst (λ l. Asks S l form) u.1 asks))
      ]

      -- items that follow to the end are the values' items
      pub followed_back : (v : Blocks) → Follows S items v → items ≡ L
      followed_back v follows = elim (cases_lt (length items) (length L)) [
        | inl lt ↦
            absurd (none_asked S items [] v (item_at L (length items)).form follows
            (subst (λ l. Asks S l (item_at L (length items)).form) (sym (append-nil items)) (values_ask lt)))
        | inr ge ↦
            let u = longer items more L p.rest p.is ge in
            let f = values_follow (first_items L u.0 (subst AreItems u.1 are)) in
            let none = none_follow S L u.0 f.0 v f.1 (subst (λ l. Follows S l v) u.1 follows) in
            u.1 ∙ ap (λ l. L ++ l) none ∙ append-nil L
      ]

    pub of_asked : (form : Form) → Asks S items form → Completed W (HasBlocks head) items
    of_asked form asks =
        completes (HasBlocks head) W (whole_goes book sound head is_head) items form (are_possible items are)
        (starts_asks S W (whole_starts book sound head is_head) items form asks)

    pub of_followed : (v : Blocks) → Follows S items v → Completed W (HasBlocks head) items
    of_followed v follows =
        starts_on (HasBlocks head) S W (whole_starts book sound head is_head) (whole_goes book sound head is_head) items v (are_possible items are) follows

  -- ---- texts

  module _ (rest : List ℕ) where
    abbrev bits : List Bool
    bits = bits_read head rest

    length_ok : (octets wanted : ℕ) (w v : Blocks) → by_length octets wanted w ≡ Ok v → octets ≡ wanted
    length_ok octets wanted w v e = by (nat_lt octets wanted) refl (nat_lt wanted octets) refl e
      where
        by : (x : Bool) → nat_lt octets wanted ≡ x → (y : Bool) → nat_lt wanted octets ≡ y →
            ◌≡◌ {A = Answer} (if x then Err short_segment else if y then Err overlong else Ok w) (Ok v) → octets ≡ wanted
        by true f y g e = absurd cc
        by false f true g e = absurd cc
        by false f false g e = grind (arith, nat_tests)

    length_off : (octets wanted : ℕ) (w : Blocks) (name : SegmentRefusal) → by_length octets wanted w ≡ Err name → IsOff octets wanted name
    length_off octets wanted w name e = by (nat_lt octets wanted) refl (nat_lt wanted octets) refl e
      where
        same : (a b : SegmentRefusal) → ◌≡◌ {A = Answer} (Err a) (Err b) → a ≡ b
        same a b e = cc

        by : (x : Bool) → nat_lt octets wanted ≡ x → (y : Bool) → nat_lt wanted octets ≡ y →
            ◌≡◌ {A = Answer} (if x then Err short_segment else if y then Err overlong else Ok w) (Err name) → IsOff octets wanted name
        by true f y g e = subst (IsOff octets wanted) (same short_segment name e) (let lt : octets < wanted = grind (arith, nat_tests) in lt)
        by false f true g e = subst (IsOff octets wanted) (same overlong name e) (let lt : wanted < octets = grind (arith, nat_tests) in lt)
        by false f false g e = absurd cc

    cut_ok : (w v : Blocks) → verdict head rest (cut w) ≡ Ok v → IsCut head rest
    cut_ok w v e = by (head.limit == 0) refl e
      where
        by : (x : Bool) → (head.limit == 0) ≡ x → (if x then Err short_segment else by_length (length_of head rest) head.limit w) ≡ Ok v → IsCut head rest
        by true f e = absurd cc
        by false f e = record {
          limited = (let ne : head.limit ≢ 0 = grind (arith, nat_tests) in ne);
          full = length_ok (length_of head rest) head.limit w v e;
        }

    cut_off : (w : Blocks) (name : SegmentRefusal) → verdict head rest (cut w) ≡ Err name → IsOffLimit head rest name
    cut_off w name e = by (head.limit == 0) refl e
      where
        same : (a b : SegmentRefusal) → ◌≡◌ {A = Answer} (Err a) (Err b) → a ≡ b
        same a b e = cc

        limited : head.limit ≢ 0 → (name : SegmentRefusal) → IsOff (length_of head rest) head.limit name → IsOffLimit head rest name
        limited ne (at_item name) h = absurd h
        limited ne short_segment h = inr h
        limited ne overlong h = (ne, h)

        by : (x : Bool) → (head.limit == 0) ≡ x → (if x then Err short_segment else by_length (length_of head rest) head.limit w) ≡ Err name →
            IsOffLimit head rest name
        by true f e = subst (IsOffLimit head rest) (same short_segment name e) (inl (let z : head.limit ≡ 0 = grind (arith, nat_tests) in z))
        by false f e = limited (let ne : head.limit ≢ 0 = grind (arith, nat_tests) in ne) name (length_off (length_of head rest) head.limit w name e)

    used : (items : List Item) (left : List Bool) → bits ≡ text items ++ left → length bits - length left ≡ length (text items)
    used items left e = let a = ap length e in let b = length-append (text items) left in omega (arith, a, b)

    abbrev Either_way : Answer → Type 0
    Either_way (Ok v) = Holds book head rest
    Either_way (Err name) = Refused book head rest name

    -- all was read
    whole_back : (answer : Answer) (x : Blocks) (left : List Bool) → ReadWhole S bits x left → verdict head rest (whole x left) ≡ answer → Either_way answer
    whole_back answer x left r e =
        let c = of_followed r.items r.are x r.follows in
        let p = completed_back r.items r.are c in
        let same = followed_back r.items r.are c.more c.end p x r.follows in
        let L = segment_items head c.end p.depths p.options in
        let size : length r.items ≡ length L = ap length same in
        let all : take (length r.items) L ≡ r.items = shorter r.items c.more L p.rest p.is (omega (arith, size)) in
        let reading : Reading head rest c.end p.depths p.options (length r.items) left = record {
          spellable = p.spellable;
          known = p.words;
          prefix = record {
            within = omega (arith, size);
            taken = subst AreItems (sym all) r.are;
            read = r.read ∙ ap (λ l. text l ++ left) (sym all);
          };
        } in
        let wanted : expected head (length bits - length left) ≡ expected_length head L =
        ap (expected head) (used r.items left r.read) ∙ ap (λ l. expected head (length (text l))) same in
        by answer e (λ v f. record {
          blocks = c.end;
          depths = p.depths;
          options = p.options;
          of_book = p.of_book;
          count = length r.items;
          more = left;
          reading = reading;
          is_taken = inl (size, length_ok (length_of head rest) (expected head (length bits - length left)) x v f ∙ wanted);
        })
        (λ name f. record {
          blocks = c.end;
          depths = p.depths;
          options = p.options;
          of_book = p.of_book;
          count = length r.items;
          more = left;
          reading = reading;
          cause = inr (inl (
            size,
            subst (λ n. IsOff (length_of head rest) n name) wanted (length_off (length_of head rest) (expected head (length bits - length left)) x name f),
          ));
        })
      where
        by : (answer : Answer) → verdict head rest (whole x left) ≡ answer → ((v : Blocks) → verdict head rest (whole x left) ≡ Ok v → Either_way (Ok v)) →
            ((name : SegmentRefusal) → verdict head rest (whole x left) ≡ Err name → Either_way (Err name)) → Either_way answer
        by (Ok v) e held off = held v e
        by (Err name) e held off = off name e

    -- an item is cut
    cut_back : (answer : Answer) (g : Blocks) → ReadCut S bits → verdict head rest (cut g) ≡ answer → Either_way answer
    cut_back answer g r e =
        let c = of_asked r.items r.are r.form r.asks in
        let p = completed_back r.items r.are c in
        let next = asked_back r.items r.are c.more c.end p r.form r.asks in
        let L = segment_items head c.end p.depths p.options in
        let all : take (length r.items) L ≡ r.items = (let lt = next.0 in shorter r.items c.more L p.rest p.is (omega (arith, lt))) in
        let reading : Reading head rest c.end p.depths p.options (length r.items) r.some = record {
          spellable = p.spellable;
          known = p.words;
          prefix = record {
            within = (let lt = next.0 in omega (arith, lt));
            taken = subst AreItems (sym all) r.are;
            read = r.read ∙ ap (λ l. text l ++ r.some) (sym all);
          };
        } in
        let nothing : NothingFollows L (length r.items) r.some = record { within = next.0; lacks = subst (λ f. Lacks f.shape r.some) (sym next.1) r.lacks } in
        by answer e (λ v f. record {
          blocks = c.end;
          depths = p.depths;
          options = p.options;
          of_book = p.of_book;
          count = length r.items;
          more = r.some;
          reading = reading;
          is_taken = inr (nothing, cut_ok g v f);
        })
        (λ name f. record {
          blocks = c.end;
          depths = p.depths;
          options = p.options;
          of_book = p.of_book;
          count = length r.items;
          more = r.some;
          reading = reading;
          cause = inr (inr (nothing, cut_off g name f));
        })
      where
        by : (answer : Answer) → verdict head rest (cut g) ≡ answer → ((v : Blocks) → verdict head rest (cut g) ≡ Ok v → Either_way (Ok v)) →
            ((name : SegmentRefusal) → verdict head rest (cut g) ≡ Err name → Either_way (Err name)) → Either_way answer
        by (Ok v) e held off = held v e
        by (Err name) e held off = off name e

    -- an item is refused
    refused_back : (name : Refusal) (left : List Bool) → ReadRefused S bits name left → Refused book head rest (at_item name)
    refused_back name left r =
        let c = of_asked r.items r.are r.form r.asks in
        let p = completed_back r.items r.are c in
        let next = asked_back r.items r.are c.more c.end p r.form r.asks in
        let L = segment_items head c.end p.depths p.options in
        let all : take (length r.items) L ≡ r.items = (let lt = next.0 in shorter r.items c.more L p.rest p.is (omega (arith, lt))) in
        let here = item_at L (length r.items) in
        record {
          blocks = c.end;
          depths = p.depths;
          options = p.options;
          of_book = p.of_book;
          count = length r.items;
          more = spelling here.form.shape r.said ++ left;
          reading = record {
            spellable = p.spellable;
            known = p.words;
            prefix = record {
              within = (let lt = next.0 in omega (arith, lt));
              taken = subst AreItems (sym all) r.are;
              read = r.read ∙ (λ i. text (sym all i) ++ (spelling (sym next.1 i).shape r.said ++ left));
            };
          };
          cause = inl (record {
            within = next.0;
            spelt = r.said;
            says = subst (λ f. IsSaid f.shape r.said) (sym next.1) r.says;
            refuses = subst (λ f. f.refusal r.said ≡ Some name) (sym next.1) r.refuses;
            after = left;
            read = refl;
          });
        }

    answered_back : (answer : Answer) → text_outcome book head rest ≡ answer → Either_way answer
    answered_back answer e = by (run S bits) refl answer e
      where
        by : (o : Outcome Blocks Blocks) → run S bits ≡ o → (answer : Answer) → verdict head rest (run S bits) ≡ answer → Either_way answer
        by (whole x left) ran answer e =
            whole_back answer x left ((script_is_read book head sound).says.whole_is bits left x ran) (ap (verdict head rest) (sym ran) ∙ e)
        by (cut g) ran answer e = cut_back answer g ((script_is_read book head sound).says.cut_is bits g ran) (ap (verdict head rest) (sym ran) ∙ e)
        by (refused g name left) ran (Ok v) e = absurd (not_both v (at_item name) (sym (ap (verdict head rest) (sym ran) ∙ e)))
          where
            not_both : (v : Blocks) (name : SegmentRefusal) → ◌≡◌ {A = Answer} (Ok v) (Err name) → ⊥
            not_both v name e = cc
        by (refused g name left) ran (Err other) e =
            subst (Refused book head rest) (same (at_item name) other (ap (verdict head rest) (sym ran) ∙ e))
            (refused_back name left ((script_is_read book head sound).says.refused_is bits left g name ran))
          where
            same : (a b : SegmentRefusal) → ◌≡◌ {A = Answer} (Err a) (Err b) → a ≡ b
            same a b e = cc

    pub held_back : (v : Blocks) → text_outcome book head rest ≡ Ok v → Holds book head rest
    held_back v e = answered_back (Ok v) e

    pub name_back : (name : SegmentRefusal) → text_outcome book head rest ≡ Err name → Refused book head rest name
    name_back name e = answered_back (Err name) e
