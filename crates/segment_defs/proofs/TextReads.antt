-- A text that holds values, or is refused, is read so.
use Rattle.std.proofs.Common.{◌≡◌, ◌≢◌, ◌⊎◌, ◌<◌, ℕ, ◌-◌, ◌==◌, nat_lt, Bool, true, false, if◌then◌else◌, List, [], ◌∷◌, ◌++◌, length, take, refl, ap, sym}
use Rattle.std.proofs.Common.{◌∙◌, subst, arith, ℤ, inl, inr, length-append}
use Rattle.std.specs.Prelude.{Ok, Err}
use Rattle.std.proofs.lemmas.Bool.Decides.{nat_tests}
use Rattle.item_defs.specs.Items.{Item, Refusal, text}
use Rattle.item_defs.specs.Readings.{AreItems, item_at}
use Rattle.base_122.specs.declared.book.Book.{Book}
use Rattle.plane_defs.specs.Codes.{is_book_sound}
use Rattle.segment_defs.specs.declared.head.SegmentHead.{SegmentHead}
use Rattle.segment_defs.specs.Head.{IsHead}
use Rattle.segment_defs.specs.SegmentItems.{Options, segment_items}
use Rattle.segment_defs.specs.Prefixes.{NothingFollows, RefusalFollows}
use Rattle.segment_defs.specs.Outcomes.{SegmentRefusal, at_item, short_segment, overlong, length_of, bits_read, expected_length, Reading, IsCut, IsTaken}
use Rattle.segment_defs.specs.Outcomes.{IsOff, IsOffLimit, IsRefusedItem, Holds, Refused}
use Rattle.item_defs.specs.Scripts.{Script, run}
use Rattle.item_defs.specs.Following.{Follows, SaysWhat}
use Rattle.item_defs.proofs.ScriptGives.{cut_after}
use Rattle.segment_defs.specs.Parts.{HasDcs, AreDeep, HasPlanes, IsPart, stopped, AreWeighted}
use Rattle.item_defs.specs.Outcomes.{whole}
use Rattle.segment_defs.specs.Segments.{segment_script}
use Rattle.segment_defs.specs.TextOutcome.{Answer, by_length, expected, verdict, text_outcome}
use Rattle.segment_defs.specs.TextLaws.{HasAllPlanes, TextsAreRead}
use Rattle.segment_defs.proofs.SegmentGoes.{script_is_read}
use Rattle.segment_defs.proofs.SegmentWritten.{segment_exact, segment_asks}
use Rattle.segment_defs.proofs.SegmentParts.{there_part, segment_gives, segment_part, segment_whole}
use Rattle.segment_defs.proofs.TextNumbers.{part_weighted}
use Rattle.segment_defs.proofs.TextBack.{held_back, name_back}

abbrev Blocks : Type 0
Blocks = List (List ℤ)

take_all : (l : List Item) (m : ℕ) → m ≡ length l → take m l ≡ l
take_all l m e = ap (λ k. take k l) e ∙ whole_list l
  where
    whole_list : (l : List Item) → take (length l) l ≡ l
    whole_list [] = refl
    whole_list (x ∷ l) = ap (λ r. x ∷ r) (whole_list l)

-- ---- lengths

exact : (octets wanted : ℕ) (w : Blocks) → octets ≡ wanted → by_length octets wanted w ≡ Ok w
exact octets wanted w e =
    let a : nat_lt octets wanted ≡ false = grind (arith, nat_tests) in
    let b : nat_lt wanted octets ≡ false = grind (arith, nat_tests) in
    rw (a, b) refl

off : (octets wanted : ℕ) (w : Blocks) (name : SegmentRefusal) → IsOff octets wanted name → by_length octets wanted w ≡ Err name
off octets wanted w (at_item name) h = absurd h
off octets wanted w short_segment h = let a : nat_lt octets wanted ≡ true = grind (arith, nat_tests) in rw a refl
off octets wanted w overlong h =
    let a : nat_lt octets wanted ≡ false = grind (arith, nat_tests) in
    let b : nat_lt wanted octets ≡ true = grind (arith, nat_tests) in
    rw (a, b) refl

abbrev cut_verdict : SegmentHead → List ℕ → Blocks → Answer
cut_verdict head rest w = if head.limit == 0 then Err short_segment else by_length (length_of head rest) head.limit w

no_limit : (n : ℕ) → n ≡ 0 → (n == 0) ≡ true
no_limit n e = grind (arith, nat_tests)

some_limit : (n : ℕ) → n ≢ 0 → (n == 0) ≡ false
some_limit n e = grind (arith, nat_tests)

cut_full : (head : SegmentHead) (rest : List ℕ) (w : Blocks) → IsCut head rest → cut_verdict head rest w ≡ Ok w
cut_full head rest w c = ap (λ (x : Bool). if x then Err short_segment else by_length (length_of head rest) head.limit w) (some_limit head.limit c.limited) ∙
    exact (length_of head rest) head.limit w c.full

cut_off : (head : SegmentHead) (rest : List ℕ) (w : Blocks) (name : SegmentRefusal) → IsOffLimit head rest name → cut_verdict head rest w ≡ Err name
cut_off head rest w (at_item name) h = absurd h
cut_off head rest w short_segment (inl none) =
    ap (λ (x : Bool). if x then Err short_segment else by_length (length_of head rest) head.limit w) (no_limit head.limit none)
cut_off head rest w short_segment (inr less) = by (head.limit == 0)
  where
    by : (x : Bool) → (if x then Err short_segment else by_length (length_of head rest) head.limit w) ≡ Err short_segment
    by true = refl
    by false = off (length_of head rest) head.limit w short_segment less
cut_off head rest w overlong h =
    ap (λ (x : Bool). if x then Err short_segment else by_length (length_of head rest) head.limit w) (some_limit head.limit h.0) ∙
    off (length_of head rest) head.limit w overlong h.1

module _ (head : SegmentHead) (is_head : IsHead head) (rest : List ℕ) (blocks : Blocks) (depths : List ℕ) (options : Options) (m : ℕ) (more : List Bool)
    (r : Reading head rest blocks depths options m more) where
  abbrev items : List Item
  items = segment_items head blocks depths options

  abbrev S : Script Blocks Blocks
  S = segment_script options.book head

  abbrev bits : List Bool
  bits = bits_read head rest

  says : SaysWhat S
  says = (script_is_read options.book head r.known.sound).says

  abbrev all : AreItems (take m items)
  all = r.prefix.taken

  -- all items are given
  pub whole_run : m ≡ length items → (w : Blocks) × (run S bits ≡ whole w more) × IsPart head blocks w
  whole_run e =
      let same = take_all items m e in
      let are : AreItems items = subst AreItems same all in
      let w = segment_part head is_head blocks depths options r.spellable r.known are in
      let read : bits ≡ text items ++ more = r.prefix.read ∙ ap (λ l. text l ++ more) same in
      (w.0, says.is_whole bits more w.0 (record { items = items; are = are; read = read; follows = w.1 }), w.2)

  whole_read : m ≡ length items →
      (w : Blocks) × (text_outcome options.book head rest ≡ by_length (length_of head rest) (expected_length head items) w) × IsPart head blocks w
  whole_read e =
      let same = take_all items m e in
      let w = whole_run e in
      let read : bits ≡ text items ++ more = r.prefix.read ∙ ap (λ l. text l ++ more) same in
      let used : length bits - length more ≡ length (text items) = (let a = ap length read in let b = length-append (text items) more in omega (arith, a, b)) in
      (w.0, ap (verdict head rest) w.1 ∙ ap (λ n. by_length (length_of head rest) (expected head n) w.0) used, w.2)

  -- all items of a text, which lead to these blocks
  exact_read : (v : Blocks) → m ≡ length items → (AreItems items → Follows S items v) → length_of head rest ≡ expected_length head items →
      text_outcome options.book head rest ≡ Ok v
  exact_read v e leads size =
      let same = take_all items m e in
      let are : AreItems items = subst AreItems same all in
      let read : bits ≡ text items ++ more = r.prefix.read ∙ ap (λ l. text l ++ more) same in
      let ran = says.is_whole bits more v (record { items = items; are = are; read = read; follows = leads are }) in
      let used : length bits - length more ≡ length (text items) = (let a = ap length read in let b = length-append (text items) more in omega (arith, a, b)) in
      ap (verdict head rest) ran ∙ ap (λ n. by_length (length_of head rest) (expected head n) v) used ∙
      exact (length_of head rest) (expected_length head items) v size

  -- an item is cut
  there_read : NothingFollows items m more → (w : Blocks) × (text_outcome options.book head rest ≡ cut_verdict head rest w) ×
      (HasDcs head blocks w ⊎ (AreDeep head blocks × HasPlanes head blocks depths options (take m items) w))
  there_read c =
      let ran = cut_after (λ l g. HasDcs head blocks g ⊎ (AreDeep head blocks × HasPlanes head blocks depths options l g)) S (take m items)
      (item_at items m).form more all
      (segment_asks head is_head blocks depths options r.spellable r.known m c.within all) c.lacks
      (segment_gives head is_head blocks depths options r.spellable r.known m (let lt = c.within in omega (arith, lt)) all) in
      (ran.0, ap (λ b. verdict head rest (run S b)) r.prefix.read ∙ ap (verdict head rest) ran.1, ran.2)

  cut_read : NothingFollows items m more → (w : Blocks) × (text_outcome options.book head rest ≡ cut_verdict head rest w) × IsPart head blocks w
  cut_read c =
      let z = there_read c in
      (z.0, z.1, there_part head is_head blocks depths options r.spellable r.known (take m items) z.0 z.2)

  -- an item is refused
  refused_read : (name : Refusal) → RefusalFollows items m more name → text_outcome options.book head rest ≡ Err (at_item name)
  refused_read name c =
      let ran = says.is_refused bits c.after name (record {
        items = take m items;
        are = all;
        form = (item_at items m).form;
        said = c.spelt;
        read = r.prefix.read ∙ ap (λ l. text (take m items) ++ l) c.read;
        asks = segment_asks head is_head blocks depths options r.spellable r.known m c.within all;
        says = c.says;
        refuses = c.refuses;
      }) in
      ap (verdict head rest) ran.1

  taken_read : IsTaken head rest items m more → (w : Blocks) × (text_outcome options.book head rest ≡ Ok w) × IsPart head blocks w
  taken_read (inl h) = let w = whole_read h.0 in (w.0, w.1 ∙ exact (length_of head rest) (expected_length head items) w.0 h.1, w.2)
  taken_read (inr h) = let w = cut_read h.0 in (w.0, w.1 ∙ cut_full head rest w.0 h.1, w.2)

  off_read : (name : SegmentRefusal) → IsRefusedItem items m more name
      ⊎ (((m ≡ length items) × IsOff (length_of head rest) (expected_length head items) name) ⊎ (NothingFollows items m more × IsOffLimit head rest name)) →
      text_outcome options.book head rest ≡ Err name
  off_read (at_item name) (inl h) = refused_read name h
  off_read short_segment (inl h) = absurd h
  off_read overlong (inl h) = absurd h
  off_read name (inr (inl h)) = let w = whole_read h.0 in w.1 ∙ off (length_of head rest) (expected_length head items) w.0 name h.1
  off_read name (inr (inr h)) = let w = cut_read h.0 in w.1 ∙ cut_off head rest w.0 name h.1

holds_read : (book : Book) (head : SegmentHead) (rest : List ℕ) → IsHead head → (h : Holds book head rest) →
    (v : Blocks) × (text_outcome book head rest ≡ Ok v) × IsPart head h.blocks v
holds_read book head rest is_head h =
    let t = taken_read head is_head rest h.blocks h.depths h.options h.count h.more h.reading h.is_taken in
    (t.0, ap (λ b. text_outcome b head rest) (sym h.of_book) ∙ t.1, t.2)

module _ (book : Book) (head : SegmentHead) (rest : List ℕ) (is_head : IsHead head) (h : Holds book head rest)
    (all : h.count ≡ length (segment_items head h.blocks h.depths h.options)) where
  leads_read : (v : Blocks) → (AreItems (segment_items head h.blocks h.depths h.options) →
      Follows (segment_script h.options.book head) (segment_items head h.blocks h.depths h.options) v) → text_outcome book head rest ≡ Ok v
  leads_read v leads = ap (λ b. text_outcome b head rest) (sym h.of_book) ∙ elim h.is_taken [
    | inl a ↦ exact_read head is_head rest h.blocks h.depths h.options h.count h.more h.reading v all leads a.1
    | inr c ↦ absurd (let lt = c.0.within in omega (arith, lt, all))
  ]

  exact_reads : HasAllPlanes head → text_outcome book head rest ≡ Ok h.blocks
  exact_reads no_stop =
      leads_read h.blocks (λ are. segment_exact head is_head h.blocks h.depths h.options h.reading.spellable h.reading.known are no_stop)

  whole_reads : text_outcome book head rest ≡ Ok (stopped head h.blocks)
  whole_reads = leads_read (stopped head h.blocks) (segment_whole head is_head h.blocks h.depths h.options h.reading.spellable h.reading.known)

there_reads : (book : Book) (head : SegmentHead) (rest : List ℕ) → IsHead head → (h : Holds book head rest) →
    h.count < length (segment_items head h.blocks h.depths h.options) → (v : Blocks) × (text_outcome book head rest ≡ Ok v) ×
    (HasDcs head h.blocks v ⊎ HasPlanes head h.blocks h.depths h.options (take h.count (segment_items head h.blocks h.depths h.options)) v)
there_reads book head rest is_head h lt = elim h.is_taken [
  | inl a ↦ absurd (let e = a.0 in omega (arith, e, lt))
  | inr c ↦
      (let z = there_read head is_head rest h.blocks h.depths h.options h.count h.more h.reading c.0 in (
        z.0,
        ap (λ b. text_outcome b head rest) (sym h.of_book) ∙ z.1 ∙ cut_full head rest z.0 c.1,
        elim z.2 [
          | inl d ↦ inl d
          | inr x ↦ inr x.1
        ],
      ))
]

refused_reads : (book : Book) (head : SegmentHead) (rest : List ℕ) (name : SegmentRefusal) → IsHead head → Refused book head rest name →
    text_outcome book head rest ≡ Err name
refused_reads book head rest name is_head h =
    ap (λ b. text_outcome b head rest) (sym h.of_book) ∙ off_read head is_head rest h.blocks h.depths h.options h.count h.more h.reading name h.cause

pub not_both : (v : Blocks) (name : SegmentRefusal) → ◌≡◌ {A = Answer} (Ok v) (Err name) → ⊥
not_both v name e = cc

pub same_name : (a b : SegmentRefusal) → ◌≡◌ {A = Answer} (Err a) (Err b) → a ≡ b
same_name a b e = cc

same_blocks : (a b : Blocks) → ◌≡◌ {A = Answer} (Ok a) (Ok b) → a ≡ b
same_blocks a b e = cc

numbers_read : (book : Book) → is_book_sound book ≡ true → (head : SegmentHead) (rest : List ℕ) (v : Blocks) → IsHead head →
    text_outcome book head rest ≡ Ok v → AreWeighted head v
numbers_read book sound head rest v is_head e =
    let h = held_back book sound head is_head rest v e in
    let r = holds_read book head rest is_head h in
    part_weighted head is_head h.blocks h.depths h.reading.spellable v
    (subst (IsPart head h.blocks) (same_blocks r.0 v (sym r.1 ∙ e)) r.2)

pub texts_are_read : TextsAreRead
texts_are_read book sound head rest is_head = record {
  holds = holds_read book head rest is_head;
  whole = whole_reads book head rest is_head;
  exact = λ h no_stop e. exact_reads book head rest is_head h e no_stop;
  there = there_reads book head rest is_head;
  refuses = λ name h. refused_reads book head rest name is_head h;
  held = λ v e. held_back book sound head is_head rest v e;
  refused = λ name e. name_back book sound head is_head rest name e;
  numbers = λ v e. numbers_read book sound head rest v is_head e;
}
