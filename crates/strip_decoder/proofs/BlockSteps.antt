-- Blocks that a walk passes, one after another.
use Rattle.std.proofs.Common.{◌≡◌, ◌<◌, ◌≤◌, ◌+◌, ◌/◌, ◌==◌, ℕ, ℤ, zero, suc, Bool, true, false, List, ◌++◌, refl, sym, ap, ◌∙◌, arith, append_assoc, ◌||◌}
use Rattle.std.proofs.Common.{◌&&◌, not, is_some, filter, Option, None, Some, Result, IsErr, append-nil}
use Rattle.std.specs.List.{range_with_len, list_any}
use Rattle.std.proofs.lemmas.Bool.{false≢true}
use Rattle.std.proofs.lemmas.Bool.Decides.{nat_tests}
use Rattle.std.proofs.lemmas.Nat.{div-mul-add}
use Rattle.stream_defs.proofs.OpenContaining.{any_chosen}
use Rattle.port_122.specs.Outside.{Outside}
use Rattle.port_122.proofs.Stretches.{since_start, since_out, rose_since}
use Rattle.base_122.specs.Sizes.{block_count}
use Rattle.base_122.specs.declared.geometry.Geometry.{Geometry}
use Rattle.stream_defs.specs.Marks.{Marks, marked, most_block_rows}
use Rattle.damage_rows.proofs.TableLaws.{any_none, filter_same}
use Rattle.strip_decoder.specs.Sinks.{Blocks, SinkOf, Takes, Fails}
use Rattle.strip_decoder.specs.WalkSteps.{Walking, IsCurrent, HasRoom, Follows, AreNext, HasPassed, StopsEarly, PassesBlocks, HasAdvanced, passed_in, is_marked}
use Rattle.strip_decoder.specs.WalkSteps.{is_lost, IsListed}
use Rattle.stream_defs.proofs.Equations.{and_missing-is}

-- ---- marks

or_none : (b : Bool) → (b || false) ≡ b
or_none b = grind (arith, nat_tests)

marked_row : (m : Marks) (r row : ℕ) → row < most_block_rows → is_marked (marked m r).missing row ≡ (is_marked m.missing row || (r == row))
marked_row m r row low = rw and_missing-is (by (f row) refl)
  where
    f : ℕ → Bool
    f i = is_marked m.missing i || (i == r)

    turned : (i j : ℕ) → (i == j) ≡ (j == i)
    turned i j = grind (arith, nat_tests)

    same : f row ≡ (is_marked m.missing row || (r == row))
    same = ap (λ b. is_marked m.missing row || b) (turned row r)

    by : (b : Bool) → f row ≡ b → list_any (λ k. k == row) (filter f (range_with_len 0 most_block_rows)) ≡ (is_marked m.missing row || (r == row))
    by true e = any_chosen (λ k. k == row) f most_block_rows 0 row (omega arith) (omega (arith, low)) e (grind (arith, nat_tests)) ∙ sym e ∙ same
    by false e = grind (arith, nat_tests, any_none, f, same)

-- and the rows stay listed
marked_listed : (m : Marks) (r : ℕ) → IsListed (marked m r)
marked_listed m r = grind (arith, nat_tests, and_missing-is, filter_same, marked_row)

-- the marks after a block, which may be missing
abbrev pub marks_past : Option (List ℤ) → Marks → (row : ℕ) → Marks
marks_past None m row = marked m row
marks_past (Some xs) m row = m

past_rows : (v : Option (List ℤ)) (m : Marks) (row : ℕ) → (marks_past v m row).rows ≡ m.rows
past_rows v m row = grind (arith, nat_tests)

past_marked : (v : Option (List ℤ)) (m : Marks) (r row : ℕ) → row < most_block_rows → is_marked (marks_past v m r).missing row
    ≡ (is_marked m.missing row || (not (is_some v) && (r == row)))
past_marked v m r row low = grind (arith, nat_tests, marked_row, or_none)

past_listed : (v : Option (List ℤ)) (m : Marks) (r : ℕ) → IsListed m → IsListed (marks_past v m r)
past_listed v m r listed = grind (arith, nat_tests, marked_listed)

any_more : (f : ℕ → Bool) (a n : ℕ) → list_any f (range_with_len a (n + 1)) ≡ (list_any f (range_with_len a n) || f (a + n))
any_more f a zero = ap (λ i. list_any f (range_with_len a i)) (let e : 0 + 1 ≡ suc 0 = omega arith in e) ∙ or_none (f a) ∙ ap f (omega arith)
any_more f a (suc n) =
    let more : suc n + 1 ≡ suc (n + 1) = omega arith in
    let last : a + 1 + n ≡ a + suc n = omega arith in
    ap (λ i. list_any f (range_with_len a i)) more ∙ ap (λ b. f a || b) (any_more f (a + 1) n ∙ ap (λ i. list_any f (range_with_len (a + 1) n) || f i) last)
    ∙ or_assoc (f a) (list_any f (range_with_len (a + 1) n)) (f (a + suc n))
  where
    or_assoc : (a b c : Bool) → (a || (b || c)) ≡ ((a || b) || c)
    or_assoc true b c = refl
    or_assoc false b c = refl

-- one block more
lost_more : (g : Geometry) (blocks : Blocks) (m row : ℕ) →
    is_lost g blocks (m + 1) row ≡ (is_lost g blocks m row || (not (is_some (blocks m)) && (m / block_count g.width == row)))
lost_more g blocks m row = grind (arith, nat_tests, any_more)

-- ---- one block

module _ {S : Type 0} (k : SinkOf S) (v : Option (List ℤ)) (p z : Walking S) (t : S) (a b : Outside) (current : IsCurrent k p) (room : HasRoom 1 p) where
  abbrev c : ℕ
  c = block_count p.geometry.width

  abbrev past : Walking S
  past = record p { sink = t; damage = marks_past v p.damage p.at.row }

  -- the numbers of the next block
  next_is : (blocks : Blocks) → AreNext (λ i. v) 1 p blocks → blocks (passed_in p) ≡ v
  next_is blocks next = ap blocks (omega arith) ∙ next.at 0 (omega arith)

  marked_past : (blocks : Blocks) (gave : List ℕ) → Follows k p blocks gave → AreNext (λ i. v) 1 p blocks → (row : ℕ) → row < most_block_rows →
      is_marked (marks_past v p.damage p.at.row).missing row ≡ is_lost p.geometry blocks (passed_in p + 1) row
  marked_past blocks gave f next row low = grind (arith, nat_tests, div-mul-add, past_marked, next_is, lost_more)

  -- it was passed
  pub one_passed : Takes k p.geometry (passed_in p) v a b p.sink t → HasAdvanced past z → HasPassed k (λ i. v) 1 a b p z
  one_passed takes on = grind (arith, nat_tests, past_rows, next_is, marked_past, past_listed)

  -- a write failed
  pub one_failed : Fails k p.geometry (passed_in p) v a b p.sink → StopsEarly k (λ i. v) 1 a b p
  one_failed fails = grind (arith, nat_tests, next_is)

-- ---- more of them

pub passes_failed : {S T E : Type 0} {a b : Outside} {p : Walking S} (k : SinkOf S) (r : Result T E) (values : ℕ → Option (List ℤ)) (n : ℕ)
    (z : Walking S) → IsErr r → StopsEarly k values n a b p → PassesBlocks k r values n a b p z
passes_failed k r values n z is broken = grind (arith, nat_tests, false≢true)

-- none was passed
pub none_passed : {S : Type 0} (k : SinkOf S) (values : ℕ → Option (List ℤ)) (p : Walking S) (a : Outside) → IsCurrent k p → HasPassed k values 0 a a p p
none_passed k values p a current = grind (arith, nat_tests, since_start, append-nil)

module _ {S : Type 0} (k : SinkOf S) (values : ℕ → Option (List ℤ)) (i : ℕ) {a b : Outside} (p x : Walking S) (passed : HasPassed k values i a b p x) where
  first_ones : (n : ℕ) (blocks : Blocks) → i ≤ n → AreNext values n p blocks → AreNext values i p blocks
  first_ones n blocks le next = record { at = λ j lt. next.at j (omega (arith, lt, le)) }

  next_one : (n : ℕ) (blocks : Blocks) → i < n → AreNext values n p blocks → AreNext (λ j. values i) 1 x blocks
  next_one n blocks lt next = record { at = λ j few. ap blocks (omega (arith, few, passed.count)) ∙ next.at i lt }

  -- one more was passed
  pub passed_then : {c : Outside} (z : Walking S) → HasPassed k (λ j. values i) 1 b c x z → HasPassed k values (i + 1) a c p z
  passed_then z one = record {
    current = one.current;
    geometry = one.geometry ∙ passed.geometry;
    count = omega (arith, one.count, passed.count);
    gave = passed.gave ++ one.gave;
    out = since_out passed.out one.out;
    follows = grind (arith, nat_tests, append_assoc, first_ones, next_one);
  }

  -- a write failed at it
  pub failed_then : {c : Outside} (n : ℕ) → i < n → StopsEarly k (λ j. values i) 1 b c x → StopsEarly k values n a c p
  failed_then n lt broken = record {
    gave = passed.gave ++ broken.gave;
    out = since_out passed.out broken.out;
    rose = rose_since passed.out.faults.writes broken.rose;
    part = grind (arith, nat_tests, first_ones, next_one, append_assoc);
  }
