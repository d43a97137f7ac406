use Rattle.std.proofs.Common.{◌≡◌, ◌<◌, ◌+◌, ◌*◌, ◌/◌, ◌%◌, ◌++◌, ◌∷◌, [], ◌∙◌, ℕ, List, ap, sym, subst, inl, inr, arith, count_ones, max, get_or, length}
use Rattle.std.proofs.Common.{length-append}
use Rattle.std.proofs.Math.Seq.{get_or-append_seam}
use Rattle.std.proofs.lemmas.Bool.{cases_lt}
use Rattle.std.proofs.lemmas.List.{get_or_append_left}
use Rattle.base_122.specs.declared.book.Book.{Book}
use Rattle.plane_reader.specs.declared.places.FirstPlaces.{FirstPlaces}
use Rattle.plane_reader.specs.Places.{AreEntries}
use Rattle.plane_reader.proofs.WindowWords.{few_ones}
use Rattle.plane_reader.proofs.places.tables_of.Goals as goal
use Rattle.plane_reader.proofs.places.tables_of.Goals.{then-is_used, else-is_used}

few_options : (due option : ℕ) → due < 16 → option < max 1 (count_ones due) → option < 4
few_options due option small lt = omega (arith, few_ones due small, lt)

-- the tables of all masks and options of which the number is below this one
AreBelow : Book → ℕ → List (List FirstPlaces) → Type 0
AreBelow book n tables = (due option : ℕ) → 4 * due + option < n → option < max 1 (count_ones due) → AreEntries book due option
    (get_or tables (4 * due + option) [])

with_row : (book : Book) (n : ℕ) (old : List (List FirstPlaces)) (row : List FirstPlaces) → n < 64 → length old ≡ n → AreBelow book n old →
    (n % 4 < max 1 (count_ones (n / 4)) → AreEntries book (n / 4) (n % 4) row) → AreBelow book (n + 1) (old ++ row ∷ [])
unfolding AreBelow
with_row book n old row small size done new = λ due option lt fits. elim (cases_lt (4 * due + option) n) [
  | inl less ↦
      let here = get_or_append_left old (row ∷ []) [] (4 * due + option) (omega (arith, size, less)) in
      subst (AreEntries book due option) (sym here) (done due option less fits)
  | inr ge ↦
      let at : 4 * due + option ≡ length old = omega (arith, lt, ge, size) in
      let few = few_options due option (omega (arith, at, size, small)) fits in
      let d : n / 4 ≡ due = omega (arith, at, size, few) in
      let o : n % 4 ≡ option = omega (arith, at, size, few) in
      let here = ap (λ k. get_or (old ++ row ∷ []) k []) at ∙ get_or-append_seam old row [] [] in
      let used : n % 4 < max 1 (count_ones (n / 4)) = omega (arith, o, subst (λ k. option < max 1 (count_ones k)) (sym d) fits) in
      subst (AreEntries book due option) (sym here) (subst (λ k. AreEntries book due k row) o (subst (λ k. AreEntries book k (n % 4) row) d (new used)))
]

pub loop-table-preserved : goal.loop-table-preserved
unfolding AreBelow
loop-table-preserved c =
    let i = c.loop-table.invariant in
    let n = c.loop-table.table in
    let book = c.args.words.now.book in
    let old = c.loop-table.tables.items in
    let row = c.if-is_used.row in
    let items = c.push_reserved.ensures.items in
    let most = c.count_of.ensures ∙ ap count_ones c.from.ensures in
    let new : n % 4 < max 1 (count_ones (n / 4)) → AreEntries book (n / 4) (n % 4) row = λ used. elim c.if-is_used.branch [
      | then-is_used w ↦ subst (AreEntries book (n / 4) (n % 4)) (sym w.row-is) w.entries_of-row.ensures
      | else-is_used w ↦ absurd (omega (arith, w.if-is_used.false, c.max.ensures, most, used))
    ] in
    record {
      room = omega (arith, i.room, c.push_reserved.ensures.capacity);
      len = omega (arith, i.len, c.push_reserved.ensures.len);
      size = ap length items ∙ length-append old (row ∷ []) ∙ ap (λ k. k + 1) i.size;
      done = λ due option lt fits. subst (λ l. AreEntries book due option (get_or l (4 * due + option) [])) (sym items)
          (with_row book n old row c.loop-table-test.true i.size i.done new due option lt fits);
    }

pub returns : goal.returns
returns c =
    let i = c.loop-table.invariant in
    let end : c.loop-table.table ≡ 64 = omega (arith, c.loop-table-test.false, c.loop-table.auto.table-end) in
    record {
      all = i.size ∙ end;
      at = λ due option small fits. i.done due option (omega (arith, few_options due option small fits, small, end)) fits;
    }
