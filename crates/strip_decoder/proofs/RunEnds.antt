-- A run that is at the end of its packets.
use Rattle.std.proofs.Common.{◌≡◌, ◌≤◌, ◌<◌, ◌+◌, ◌-◌, ◌*◌, ◌/◌, ◌%◌, ◌==◌, ℕ, ℤ, zero, suc, Bool, true, false, List, [], refl, sym, ap, subst, ◌∙◌, inl}
use Rattle.std.proofs.Common.{inr, arith, ◌&&◌, not, filter, Some, is_some, MatchOption, append-nil, mul-le-mul_right}
use Rattle.std.specs.List.{range_with_len, list_any}
use Rattle.std.proofs.lemmas.Bool.{cases_lt, false≢true, or_right, or_left, or_from, and_right, ne_eqb}
use Rattle.std.proofs.lemmas.Bool.Decides.{nat_tests}
use Rattle.std.proofs.lemmas.Nat.{div-add-mod', mod_below, div_below, div-mul-add}
use Rattle.stream_defs.proofs.OpenContaining.{any_chosen}
use Rattle.port_122.specs.Outside.{Outside}
use Rattle.base_122.specs.Sizes.{block_count}
use Rattle.base_122.specs.declared.geometry.Geometry.{Geometry}
use Rattle.base_122.proofs.SizeBounds.{block_count-rows}
use Rattle.packet_defs.specs.Streams.{whole_packets}
use Rattle.stream_defs.specs.Fates.{fresh, kept}
use Rattle.stream_defs.specs.Received.{IsReceived, ReceivedIn, packets_at}
use Rattle.stream_defs.specs.Begun.{placed}
use Rattle.stream_defs.specs.Damage.{is_missing, ranges, whole_missing, missing_below}
use Rattle.stream_defs.proofs.RangeLaws.{ranges_below}
use Rattle.stream_defs.specs.Marks.{most_block_rows}
use Rattle.stream_defs.proofs.KeptOrder.{before_none}
use Rattle.stream_defs.proofs.Equations.{most_is, missing_below-is}
use Rattle.damage_rows.proofs.TableLaws.{any_none, filter_prefix}
use Rattle.packet_assembly.specs.Assembling.{Assembling, last_index}
use Rattle.strip_decoder.specs.Sinks.{Numbers, Blocks, SinkOf, blocks_with}
use Rattle.strip_decoder.specs.WalkSteps.{Walking, IsCurrent, Follows, passed_in, total_in, is_marked, is_lost}
use Rattle.strip_decoder.specs.Runs.{Run, holds_after, HasKnown, future}
use Rattle.strip_decoder.proofs.Receiving.{none_received}
use Rattle.strip_decoder.proofs.RunFinds.{last_of}

-- ---- tests over a range

any_hit : (f : ℕ → Bool) (a n i : ℕ) → a ≤ i → i < a + n → f i ≡ true → list_any f (range_with_len a n) ≡ true
any_hit f a zero i low high e = absurd (omega (arith, low, high))
any_hit f a (suc n) i low high e = elim (cases_lt a i) [
  | inl later ↦ or_right (f a) (list_any f (range_with_len (a + 1) n)) (any_hit f (a + 1) n i (omega (arith, later)) (omega (arith, high)) e)
  | inr here ↦ let same : i ≡ a = omega (arith, here, low) in or_left (f a) (list_any f (range_with_len (a + 1) n)) (sym (ap f same) ∙ e)
]

pub any_miss : (f : ℕ → Bool) (a n : ℕ) → ((i : ℕ) → a ≤ i → i < a + n → f i ≡ false) → list_any f (range_with_len a n) ≡ false
any_miss f a zero none = refl
any_miss f a (suc n) none = or_from (f a) (list_any f (range_with_len (a + 1) n)) (none a (omega arith) (omega arith))
    (any_miss f (a + 1) n (λ i low high. none i (omega (arith, low)) (omega (arith, high))))

pub any_at : (f : ℕ → Bool) (n i : ℕ) → list_any f (range_with_len 0 n) ≡ false → i < n → f i ≡ false
any_at f n i none lt = by (f i) refl
  where
    by : (b : Bool) → f i ≡ b → f i ≡ false
    by false e = e
    by true e = absurd (false≢true (sym none ∙ any_hit f 0 n i (omega arith) (omega (arith, lt)) e))

-- ---- missing block rows

module _ (g : Geometry) (blocks : Blocks) (row : ℕ) (wide : 0 < block_count g.width) where
  abbrev c : ℕ
  c = block_count g.width

  -- some block of it is missing
  abbrev pub misses : Bool
  misses = list_any (λ column. not (is_some (blocks (row * c + column)))) (range_with_len 0 c)

  -- no block of it is lost
  none_lost : (m : ℕ) → misses ≡ false → is_lost g blocks m row ≡ false
  none_lost m none = grind (arith, nat_tests, any_miss, is_some, both, here_kept)
    where
      both : (a b : Bool) → (b ≡ true → a ≡ false) → (a && b) ≡ false
      both true true f = absurd (false≢true (sym (f refl)))
      both true false f = refl
      both false b f = refl

      here_kept : (block : ℕ) → (block / c == row) ≡ true → not (is_some (blocks block)) ≡ false
      here_kept block here =
          let same : block / c ≡ row = grind (arith, nat_tests) in
          let parts = div-add-mod' block c in
          let at : row * c + block % c ≡ block = ap (λ n. n * c + block % c) (sym same) ∙ parts in
          ap (λ n. not (is_some (blocks n))) (sym at) ∙ any_at (λ column. not (is_some (blocks (row * c + column)))) c (block % c) none (mod_below block c wide)

  -- none of its blocks is lost, so it isn't missing
  none_missing : (m : ℕ) → (row + 1) * c ≤ m → is_lost g blocks m row ≡ false → misses ≡ false
  none_missing m le none =
      any_miss (λ column. not (is_some (blocks (row * c + column)))) 0 c (λ column low high.
      let more : (row + 1) * c ≡ row * c + c = grind arith in
      let here = any_at (λ block. not (is_some (blocks block)) && (block / c == row)) m (row * c + column) none (omega (arith, le, more, high)) in
      first_false (not (is_some (blocks (row * c + column)))) ((row * c + column) / c == row) here
      (equal_test ((row * c + column) / c) row (div-mul-add row c column (omega (arith, high)))))
    where
      first_false : (a b : Bool) → (a && b) ≡ false → b ≡ true → a ≡ false
      first_false true true e h = absurd (false≢true (sym e))
      first_false true false e h = absurd (false≢true h)
      first_false false b e h = refl

      equal_test : (m n : ℕ) → m ≡ n → (m == n) ≡ true
      equal_test m n e = grind (arith, nat_tests)

  pub lost_missing : (m : ℕ) → (row + 1) * c ≤ m → is_lost g blocks m row ≡ misses
  lost_missing m le = grind (arith, nat_tests, false≢true, none_lost, none_missing)

  -- a row past the last one has no blocks
  pub lost_past : (r : ℕ) → r ≤ row → is_lost g blocks (c * r) row ≡ false
  lost_past r ge =
      any_miss (λ block. not (is_some (blocks block)) && (block / c == row)) 0 (c * r) (λ block low high.
      let turned : c * r ≡ r * c = grind arith in
      let below = div_below block c r wide (omega (arith, high, turned)) in
      and_right (not (is_some (blocks block))) (block / c == row) (ne_eqb (block / c) row (λ e. omega (arith, e, below, ge))))

-- a block row is missing from received segments if some block of it is
missing_is : (g : Geometry) (sofar : Numbers) (row : ℕ) (wide : 0 < block_count g.width) → is_missing g sofar row ≡ misses g (blocks_with g sofar) row wide
missing_is g sofar row wide = grind (arith, nat_tests)

-- the marks of the block rows that were passed whole
pub row_missing : {S : Type 0} (k : SinkOf S) (p : Walking S) (sofar : Numbers) (gave : List ℕ) (row : ℕ) → IsCurrent k p →
    Follows k p (blocks_with p.geometry sofar) gave → row < most_block_rows → (row + 1) * block_count p.geometry.width ≤ passed_in p →
    is_marked p.damage.missing row ≡ is_missing p.geometry sofar row
row_missing k p sofar gave row current follows few le =
    let g = p.geometry in
    grind (arith, nat_tests, lost_missing, missing_is)

-- what is marked once all blocks were passed
pub all_missing : {S : Type 0} (k : SinkOf S) (p : Walking S) (sofar : Numbers) (gave : List ℕ) → IsCurrent k p →
    Follows k p (blocks_with p.geometry sofar) gave → passed_in p ≡ total_in p → p.damage.missing ≡ whole_missing p.geometry sofar
all_missing k p sofar gave current follows all =
    rw missing_below-is (
    let g = p.geometry in
    let blocks = blocks_with g sofar in
    let c = block_count g.width in
    let r = block_count g.rows in
    let few = block_count-rows g.rows current.height in
    let column = current.column in
    let wide : 0 < c = omega (arith, column) in
    let turned : c * r ≡ r * c = grind arith in
    follows.listed
    ∙ filter_prefix (is_marked p.damage.missing) (is_missing g sofar) r most_block_rows (omega (arith, few, most_is))
    (λ i lt. row_missing k p sofar gave i current follows (omega (arith, lt, few, most_is)) (let next : (i + 1) * c ≤ r * c =
    mul-le-mul_right c (omega (arith, lt)) in omega (arith, next, turned, all)))
    (λ i ge. elim (cases_lt i most_block_rows) [
      | inl low ↦ follows.marked i low ∙ ap (λ n. is_lost g blocks n i) all ∙ lost_past g blocks i wide r ge
      | inr high ↦ ap (λ xs. is_marked xs i) follows.listed ∙ any_none (λ k. k == i) (is_marked p.damage.missing) most_block_rows 0
          (λ k from below set. ne_eqb k i (λ e. omega (arith, e, below, high)))
    ])
    )

-- a list of missing block rows holds exactly these
missing_there : (g : Geometry) (sofar : Numbers) (n row : ℕ) → row < n → is_marked (missing_below g sofar n) row ≡ is_missing g sofar row
missing_there g sofar n row lt = rw missing_below-is (by (is_missing g sofar row) refl)
  where
    here : (k : ℕ) → (k == row) ≡ true → k ≡ row
    here k e = grind (arith, nat_tests)

    by : (b : Bool) → is_missing g sofar row ≡ b → list_any (λ k. k == row) (filter (is_missing g sofar) (range_with_len 0 n)) ≡ is_missing g sofar row
    by true e = any_chosen (λ k. k == row) (is_missing g sofar) n 0 row (omega arith) (omega (arith, lt)) e (grind (arith, nat_tests)) ∙ sym e
    by false e = grind (arith, nat_tests, any_none, false≢true, here)

-- the damage of the rows that the whole block rows determine, while the height isn't known
pub open_damage : {S : Type 0} (k : SinkOf S) (p : Walking S) (image : Geometry) (sofar : Numbers) (gave : List ℕ) (n : ℕ) → IsCurrent k p →
    p.geometry ≡ placed image → Follows k p (blocks_with p.geometry sofar) gave → n * block_count p.geometry.width ≤ passed_in p → n ≤ most_block_rows →
    ranges (8 * n - 21) p.damage.missing ≡ ranges (8 * n - 21) (missing_below image sofar n)
open_damage k p image sofar gave n current goes_by follows le few =
    ranges_below (8 * n - 21) n p.damage.missing (missing_below image sofar n) (omega arith)
    (λ row lt.
    let c = block_count p.geometry.width in
    let next : (row + 1) * c ≤ n * c = mul-le-mul_right c (omega (arith, lt)) in
    row_missing k p sofar gave row current follows (omega (arith, lt, few)) (omega (arith, next, le))
    ∙ ap (λ (g : Geometry). is_missing g sofar row) goes_by ∙ sym (missing_there image sofar n row lt))

-- if no packet is left, the segments that are received are those that are known
pub all_received : (w : Run) (now : Outside) (a : Assembling) (index : ℕ) (took : List ℕ) → (known : HasKnown w now a (index + 1) took) →
    last_index a.state.last ≡ Some index → (rest : List ℕ) → now.rest ≡ Some rest → whole_packets took ≡ known.passed →
    ReceivedIn (holds_after w.texts) w.apid took known.sofar
all_received w now a index took known last rest if_known whole = record {
  at = λ i. elim (cases_lt i (index + 1)) [
    | inl low ↦
        let here = (known.knows rest if_known).at [] (future a rest) refl i low in
        subst (λ xs. MatchOption (known.sofar i) ((v : List (List ℤ)) → IsReceived (holds_after w.texts) (kept w.apid fresh xs) i v → ⊥)
        (IsReceived (holds_after w.texts) (kept w.apid fresh xs) i)) (append-nil known.passed ∙ sym whole) here
    | inr high ↦
        rw (known.above i high) (λ v x. none_received w.texts (kept w.apid fresh (whole_packets took)) i v (none_at i high) x)
  ];
}
  where
    none_at : (i : ℕ) → index + 1 ≤ i → packets_at i (kept w.apid fresh (whole_packets took)) ≡ []
    none_at i high = grind (arith, nat_tests, before_none, last_of)
