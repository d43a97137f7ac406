-- The bits of the words of a gaggle, stage by stage, in its masks.
use Rattle.std.proofs.Common.{◌≡◌, ◌<◌, ◌≤◌, ℕ, zero, suc, ◌+◌, ◌-◌, ◌*◌, ◌||◌, inl, inr, refl, ap, sym, ◌∙◌, subst, arith, ℤ, Bool, false, List, [], ◌∷◌}
use Rattle.std.proofs.Common.{◌++◌, length, get_or, append_assoc, append-nil, flat_map, add-one, Err}
use Rattle.std.specs.List.{list_any}
use Rattle.std.proofs.lemmas.Bool.{cases_eq}
use Rattle.std.proofs.lemmas.Bool.Decides.{nat_tests}
use Rattle.std.proofs.lemmas.List.Folds.{list_any-append}
use Rattle.item_defs.specs.Items.{text}
use Rattle.bit_pipe.specs.Sinks.{SinkOf}
use Rattle.bit_pipe.specs.SinkState.{SinkState, Adds, Puts}
use Rattle.bit_pipe.specs.declared.fault.PutFault.{PutFault}
use Rattle.bit_pipe.proofs.Putting.{puts_ended}
use Rattle.base_122.specs.declared.book.Book.{Book}
use Rattle.plane_defs.specs.declared.entries.Entry.{Entry}
use Rattle.plane_defs.specs.declared.stages.Stage.TheVariants.{DcBits}
use Rattle.plane_defs.specs.Spans.{span}
use Rattle.plane_defs.specs.Entries.{stage_number}
use Rattle.plane_defs.specs.Planes.{Plane, gaggles, gaggle_size, of_block, of_gaggle, before_stage}
use Rattle.plane_defs.specs.Spelled.{spelled_after, is_word_of}
use Rattle.plane_defs.specs.Marks.{depths_of}
use Rattle.plane_defs.proofs.SpanLists.{flat_map-span-suc, flat_map-span-none, flat_map-span-parts}
use Rattle.plane_defs.proofs.Equations.{dc_entries}
use Rattle.block_masks.specs.declared.gaggle.Gaggle.{Gaggle}
use Rattle.block_masks.specs.Gaggles.{Agrees, SameMarks, options_at}
use Rattle.plane_coder.specs.declared.pending.PendingBits.{PendingBits}
use Rattle.plane_coder.specs.declared.view.View.{View}
use Rattle.plane_coder.specs.Appends.{Appends, said}
use Rattle.plane_coder.specs.Left.{KeepsBits, KeepsNext}
use Rattle.plane_coder.specs.Listed.{AreAlike}
use Rattle.plane_coder.specs.Views.{plane_in}
use Rattle.plane_coder.specs.Kept.{free_at, KeepsOthers, bits_in, bits_between, octet_in, HasOctets, flags_in, KeepsStage, Keeps, KeepFirst, AreKept}
use Rattle.plane_coder.proofs.Alike.{agrees_alike, text_alike}
use Rattle.plane_coder.proofs.Appending.{silent_said}
use Rattle.plane_coder.proofs.Keeping.{bits_at, no_masks, one_mask_more, same_between}
use Rattle.plane_coder.proofs.Sending.{before_more}
use Rattle.plane_coder.proofs.Waiting.{leaves_none, leaves_more, leaves_taken}

-- ---- bits into masks

module _ {book : Book} where
  pub keeps_none : (a : PendingBits) (from : ℕ) (masks : List ℕ) → a.count ≡ 0 → KeepsBits book a.gaggle from from masks a []
  keeps_none a from masks silent = record { taken = []; leaves = leaves_none a silent; there = λ room. no_masks masks from }

  pub keeps_more : {g : Gaggle} {from to : ℕ} {masks : List ℕ} {a b : PendingBits} {xs ys : List Entry} (most : ℕ) → KeepsBits book g from to masks a xs →
      Appends book a b ys most → KeepsBits book g from to masks b (xs ++ ys)
  keeps_more most p q = record { taken = p.taken; leaves = leaves_more most p.leaves q; there = p.there }

  -- the bits that waited are in the next mask
  pub keeps_next : {g : Gaggle} {from to next : ℕ} {old new : List ℕ} {a b : PendingBits} {xs : List Entry} → from ≤ to →
      KeepsBits book g from to old a xs → KeepsNext to next old new a →
      b.gaggle ≡ a.gaggle → b.count ≡ 0 → KeepsBits book g from next new b xs
  keeps_next {g} {from} {to} {next} {old} {new} {a} order p q same silent = record {
    taken = p.taken ++ said a;
    leaves = leaves_taken p.leaves same silent;
    there = λ room.
        let one : next ≡ to + 1 = omega (arith, q.used, room) in
        ap (bits_between new from) one ∙ one_mask_more new from to order ∙
        ap (λ l. l ++ bits_in (get_or new to 0)) (same_between new old from to (λ k low lt. q.before k lt) ∙ p.there (omega (arith, one, room)))
        ∙ ap (λ l. p.taken ++ l) (q.here room);
  }

-- the words of a list so far
pub record SoKept (book : Book) (old : Gaggle) (from : ℕ) (start now : List ℕ) (used : ℕ) (pending : PendingBits) (entries : List Entry) : Type 0 where
  pub keeps : KeepsBits book old from used now pending entries
  pub before : (k : ℕ) → k < from → get_or now k 0 ≡ get_or start k 0
  pub order : from ≤ used
  pub few : used ≤ 33
  pub whole : length now ≡ 32

pub so_none : (book : Book) (a : PendingBits) (from : ℕ) (masks : List ℕ) → from ≤ 33 → length masks ≡ 32 → a.count ≡ 0 →
    SoKept book a.gaggle from masks masks from a []
so_none book a from masks few whole silent = record {
  keeps = keeps_none a from masks silent;
  before = λ k lt. refl;
  order = omega arith;
  few = few;
  whole =
      whole;
}

pub so_more : {book : Book} {old : Gaggle} {from used : ℕ} {start now : List ℕ} {x y : PendingBits} {xs ys : List Entry} (most : ℕ) →
    SoKept book old from start now used x xs → Appends book x y ys most →
    SoKept book old from start now used y (xs ++ ys)
so_more most so q = record { keeps = keeps_more most so.keeps q; before = so.before; order = so.order; few = so.few; whole = so.whole }

pub so_next : {book : Book} {old : Gaggle} {from used next : ℕ} {start x y : List ℕ} {w z : PendingBits} {xs : List Entry} →
    SoKept book old from start x used w xs → KeepsNext used next x y w →
    length y ≡ 32 → z.gaggle ≡ w.gaggle → z.count ≡ 0 → SoKept book old from start y next z xs
so_next so q whole same silent = record {
  keeps = keeps_next so.order so.keeps q same silent;
  before = λ k lt. q.before k (omega (arith, lt, so.order)) ∙ so.before k lt;
  order = omega (arith, q.used, so.order, so.few);
  few = omega (arith, q.used);
  whole = whole;
}

-- ---- the first mask

pub octets_are : (masks : List ℕ) (a b c d e f : ℕ) → a ≤ 33 → b ≤ 33 → c ≤ 33 → d < 8 → e < 8 → f < 8 →
    get_or masks 0 0 ≡ 1 + 256 * a + 65536 * b + 16777216 * c + 4294967296 * (d + 256 * e + 65536 * f) → HasOctets masks (a ∷ b ∷ c ∷ []) (d ∷ e ∷ f ∷ [])
octets_are masks a b c d e f la lb lc ld le lf is = record {
  first = rw is (omega (arith, la, lb, lc, ld, le, lf));
  ends = λ n. which_end n;
  flags = λ n. which_flags n;
}
  where
    which_end : (n : ℕ) → n < 3 → octet_in masks (1 + n) ≡ get_or (a ∷ b ∷ c ∷ []) n 0
    which_end zero lt = rw is (omega (arith, la, lb, lc, ld, le, lf))
    which_end (suc zero) lt = rw is (omega (arith, la, lb, lc, ld, le, lf))
    which_end (suc (suc zero)) lt = rw is (omega (arith, la, lb, lc, ld, le, lf))
    which_end (suc (suc (suc n))) lt = absurd (omega (arith, lt))

    which_flags : (n : ℕ) → n < 3 → octet_in masks (4 + n) ≡ get_or (d ∷ e ∷ f ∷ []) n 0
    which_flags zero lt = rw is (omega (arith, la, lb, lc, ld, le, lf))
    which_flags (suc zero) lt = rw is (omega (arith, la, lb, lc, ld, le, lf))
    which_flags (suc (suc zero)) lt = rw is (omega (arith, la, lb, lc, ld, le, lf))
    which_flags (suc (suc (suc n))) lt = absurd (omega (arith, lt))

-- ---- bits from masks

-- a call for one mask failed before the later ones
pub mask_ended : {S : Type 0} {k : SinkOf S} {a b c : SinkState S} {e : PutFault} (masks : List ℕ) (from m to : ℕ) → from ≤ m → m < to →
    Adds k a b (bits_between masks from m) →
    Puts {T = Unit {0}} k (Err e) b c (bits_at masks m) → Puts {T = Unit {0}} k (Err e) a c (bits_between masks from to)
mask_ended masks from m to order below p q =
    let f = bits_at masks in
    let parts = flat_map-span-parts f from (to - from) (m - from) (omega (arith, order, below)) in
    let first = bits_between masks from m in
    let here : from + (m - from) ≡ m = omega (arith, order) in
    puts_ended parts.0 p q (sym (append_assoc first (f m) parts.0) ∙ ap (λ n. (first ++ f n) ++ parts.0) (sym here) ∙ sym parts.1)

-- ---- a stage

module _ (p : Plane) (g number : ℕ) {book : Book} {from to : ℕ} {masks : List ℕ} {a : Gaggle} {b : PendingBits} {xs : List Entry}
    (so : KeepsBits book a from to masks b xs) (agree : Agrees a.sent (before_stage p number g)) (alike : AreAlike xs (of_gaggle p (stage_number number) g))
  where
    pub agrees_next : Agrees b.gaggle.sent (before_stage p (number + 1) g)
    agrees_next =
        let before = before_stage p number g in
        subst (Agrees b.gaggle.sent) (before_more p number g) (agrees_alike b.gaggle.sent before xs (of_gaggle p (stage_number number) g) alike
        (so.leaves.agrees before agree))

    pub stage_kept : (all : List ℕ) (options : List ℕ) → a.options ≡ options → b.count ≡ 0 → to ≤ 32 →
        ((k : ℕ) → from ≤ k → k < to → get_or all k 0 ≡ get_or masks k 0) →
        octet_in all (number - 1) ≡ from → octet_in all number ≡ to → flags_in (octet_in all (3 + number)) ≡ b.gaggle.sent →
        KeepsStage book options p g number all
    stage_kept all options same silent room here first last flags = record {
      bits =
          let before = before_stage p number g in
          let entries = of_gaggle p (stage_number number) g in
          (λ i. bits_between all (first i) (last i)) ∙ same_between all masks from to here ∙ so.there room ∙ sym (append-nil so.taken) ∙
          ap (λ l. so.taken ++ l) (sym (silent_said b silent)) ∙ so.leaves.bits before agree ∙ text_alike book a.options before xs entries alike
          ∙ ap (λ o. text (spelled_after book o before entries)) same;
      flags = subst (λ f. Agrees f (before_stage p (number + 1) g)) (sym flags) agrees_next;
    }

pub three_stages : (P : ℕ → Type 0) → P 1 → P 2 → P 3 → (n : ℕ) → 0 < n → n < 4 → P n
three_stages P one two three zero low high = absurd (omega (arith, low))
three_stages P one two three (suc zero) low high = one
three_stages P one two three (suc (suc zero)) low high = two
three_stages P one two three (suc (suc (suc zero))) low high = three
three_stages P one two three (suc (suc (suc (suc n)))) low high = absurd (omega (arith, high))

-- ---- the first stage has no words

any_of_none : (q : Entry → Bool) (f : ℕ → List Entry) (start n : ℕ) → ((i : ℕ) → list_any q (f i) ≡ false) → list_any q (flat_map f (span start n)) ≡ false
any_of_none q f start zero each = ap (list_any q) (flat_map-span-none f start)
any_of_none q f start (suc n) each =
    let step : list_any q (flat_map f (span start (n + 1))) ≡ false =
    ap (list_any q) (flat_map-span-suc f start n) ∙ list_any-append q (flat_map f (span start n)) (f (start + n))
    ∙ ap (λ b. b || list_any q (f (start + n))) (any_of_none q f start n each) ∙ each (start + n) in
    subst (λ m. list_any q (flat_map f (span start m)) ≡ false) (add-one n) step

no_word_in_block : (p : Plane) (n r : ℕ) → list_any (is_word_of n) (of_block p DcBits r) ≡ false
no_word_in_block p n r = grind (arith, nat_tests, dc_entries)

-- so the flags of a gaggle that sent no word are right about it
pub fresh_agrees : (p : Plane) (g : ℕ) → Agrees (false ∷ false ∷ false ∷ []) (before_stage p 1 g)
fresh_agrees p g = record {
  at = λ n low high.
      let q = is_word_of n in
      let none : before_stage p 0 g ≡ [] = flat_map-span-none (λ i. of_gaggle p (stage_number i) g) 0 in
      let dc : list_any q (of_gaggle p DcBits g) ≡ false = any_of_none q (of_block p DcBits) (16 * g) (gaggle_size p g) (no_word_in_block p n) in
      let all : list_any q (before_stage p 1 g) ≡ false = ap (list_any q) (sym (before_more p 0 g)) ∙ ap (λ l. list_any q (l ++ of_gaggle p DcBits g)) none
      ∙ dc in
      no_flag n ∙ sym all;
}
  where
    no_flag : (n : ℕ) → get_or (false ∷ false ∷ false ∷ []) (n - 2) false ≡ false
    no_flag n = grind (arith, nat_tests)

-- ---- gaggle after gaggle

pub none_kept : (book : Book) (options : ℕ → List ℕ) (p : Plane) (kept : List ℕ) → KeepFirst book options p 0 kept
none_kept book options p kept = record { at = λ g below. absurd (omega (arith, below)) }

pub more_kept : {book : Book} {options : ℕ → List ℕ} {p : Plane} {g : ℕ} {kept next : List ℕ} → KeepFirst book options p g kept → KeepsOthers g kept next →
    (32 * g + 32 ≤ length kept → Keeps book (options g) p g (free_at next g)) → KeepFirst book options p (g + 1) next
more_kept {book} {options} {p} {g} {kept} {next} so others here = record {
  at = λ h below full.
      let there : 32 * h + 32 ≤ length kept = omega (arith, full, others.long) in
      elim (cases_eq h g) [
        | inl same ↦ rw same (here (omega (arith, there, same)))
        | inr other ↦ subst (Keeps book (options h) p h) (sym (others.others h other there)) (so.at h (omega (arith, below, other)) there)
      ];
}

pub all_gaggles_kept : {book : Book} {options : ℕ → List ℕ} {p : Plane} {n : ℕ} {kept : List ℕ} → gaggles p ≤ n → KeepFirst book options p n kept →
    AreKept book options p kept
all_gaggles_kept all so = record { at = λ g below full. so.at g (omega (arith, below, all)) full }

-- the same by options that are equal
pub kept_by : {book : Book} {options others : ℕ → List ℕ} {p : Plane} {kept : List ℕ} → ((g : ℕ) → g < gaggles p → options g ≡ others g) →
    AreKept book options p kept → AreKept book others p kept
kept_by {book} {options} {others} {p} {kept} same so =
    record { at = λ g below full. subst (λ o. Keeps book o p g (free_at kept g)) (same g below) (so.at g below full) }

-- the same with the states as they are now
pub kept_moved : (view : View) (book : Book) (m0 m1 : List ℤ) → SameMarks m0 m1 →
    AreKept book (options_at m0) (plane_in view (depths_of m0)) view.kept.now → AreKept book (options_at m1) (plane_in view (depths_of m1)) view.kept.now
kept_moved view book m0 m1 same so =
    subst (λ d. AreKept book (options_at m1) (plane_in view d) view.kept.now) (sym same.depths) (kept_by (λ g below. sym (same.options g)) so)
