-- What is given of each number after a plane, as the masks show it.
use Rattle.std.proofs.Common.{◌≡◌, inl, inr, ℕ, suc, ◌+◌, ◌-◌, ◌*◌, ◌/◌, ◌%◌, ◌<◌, ◌≤◌, ◌^◌, ◌++◌, ◌&&◌, ◌||◌, nat_le, nat_lt, min, max, Bool}
use Rattle.std.proofs.Common.{true, false, if◌then◌else◌, List, [], length, refl, ap, sym, ◌∙◌, subst, arith, Option, Some, None, ℤ, pos, ◌+ℤ◌, get_or, pow_pos}
use Rattle.std.proofs.Common.{Result, Ok, unsigned_abs, ◌==◌}
use Rattle.std.specs.Int.{bit_at}
use Rattle.std.proofs.lemmas.Bool.{cases_lt}
use Rattle.std.proofs.lemmas.Bool.Decides.{nat_tests}
use Rattle.std.proofs.lemmas.Int.{ints}
use Rattle.std.proofs.lemmas.Nat.Bits.{bit_at_above, bit_at-lt, same_from_bits}
use Rattle.item_defs.specs.Bits.{bit}
use Rattle.item_defs.specs.Outcomes as outcomes
use Rattle.item_defs.specs.Outcomes.{Outcome}
use Rattle.item_defs.specs.Scripts.{Script, run}
use Rattle.item_defs.proofs.ScriptYields.{whole_read}
use Rattle.wave_defs.specs.Held.{block_at, blocks_in}
use Rattle.base_122.specs.declared.book.Book.{Book}
use Rattle.plane_defs.specs.Sets.{shift, coded, magnitude}
use Rattle.plane_defs.specs.StepLaws.{IsAc}
use Rattle.plane_defs.specs.StageScripts.{Terms}
use Rattle.plane_defs.specs.PlaneScript.{PlaneState, blocks_with, plane_script}
use Rattle.plane_defs.specs.Lows.{Given, given_with, planes_given}
use Rattle.plane_defs.proofs.Equations.{coded-is, significant-is}
use Rattle.plane_defs.proofs.Tables.{and-left, and-right}
use Rattle.plane_defs.proofs.StageFull.{IsAfter, plane_after}
use Rattle.plane_defs.proofs.LowsFull.{AcFull, HaveAll, have_all_next}
use Rattle.plane_defs.proofs.LowsRoom.{magnitude_with, at_block}
use Rattle.bit_pipe.specs.declared.fault.Part.{Part}
use Rattle.bit_pipe.specs.declared.fault.Part.TheVariants.{Whole}
use Rattle.bit_pipe.specs.declared.fault.TextFault.{TextFault}
use Rattle.bit_pipe.specs.Sources.{SourceOf}
use Rattle.bit_pipe.specs.SourceState.{SourceState, IsIn}
use Rattle.bit_pipe.proofs.ScriptReading.{Leaves, leaves_all}
use Rattle.bit_pipe.specs.ScriptSources.{got, by_part, ReadsAs}
use Rattle.block_masks.specs.Slices.{mask_in, numbers_in}
use Rattle.block_masks.specs.MaskedNumbers.{size_in}
use Rattle.block_masks.proofs.MaskedNumbers.{size_bit}
use Rattle.block_masks.proofs.SliceNumbers.{dc_number, block_number, length-numbers_in}
use Rattle.plane_reader.specs.declared.planes.SentPlanes.{SentPlanes}
use Rattle.plane_reader.specs.Above.{AreReady, HasNoneBelow, AwaitDcs, HasNoAcs}
use Rattle.plane_reader.specs.Blocks.{raw_slot}
use Rattle.plane_reader.specs.Gaggles.{dc_in}
use Rattle.plane_reader.specs.Planes.{stages_of, TakesPlane}
use Rattle.plane_reader.specs.Restoring.{AwaitLows, dc_reach, ac_reach, HaveLows, IsReached, TakesPlanes}
use Rattle.plane_reader.proofs.CellNumbers.{block_size}
use Rattle.plane_reader.proofs.PlaneReads.{block_there, count_blocks}
use Rattle.plane_reader.proofs.PlanesReads.{terms_at, given_plane, given_read, planes_more, planes_end, planes_done, above_stop, below_stop, blocks_whole}
use Rattle.plane_reader.proofs.ScriptKeeps.{said_kept}
use Rattle.plane_reader.proofs.StageKeeps.{All, IsGiven, plane_given}

-- ---- small facts

-- a number without bits below a plane is 0, or reaches the plane
reaches : (n plane : ℕ) → ((i : ℕ) → i < plane → bit n i ≡ false) → nat_le (2 ^ plane) n ≡ nat_lt 0 n
reaches n plane none = elim (cases_lt n (2 ^ plane)) [
  | inl lt ↦
      let zero_is : n ≡ 0 = same_from_bits n 0 (λ i. elim (cases_lt i plane) [
        | inl under ↦ no_bit n i (none i under) ∙ sym (zero_bits i)
        | inr over ↦ bit_at_above n plane i lt over ∙ sym (zero_bits i)
      ]) in
      let some : 0 < 2 ^ plane = pow_pos plane in
      ap (nat_le (2 ^ plane)) zero_is ∙ over_none (2 ^ plane) some ∙ ap (nat_lt 0) (sym zero_is)
  | inr le ↦ both (2 ^ plane) n (pow_pos plane) le
]
  where
    no_bit : (n i : ℕ) → bit n i ≡ false → bit_at n i ≡ 0
    no_bit n i e = two (bit_at n i) (bit_at-lt n i) e
      where
        two : (x : ℕ) → x < 2 → (x == 1) ≡ false → x ≡ 0
        two x lt e = grind (arith, nat_tests)

    zero_bits : (i : ℕ) → bit_at 0 i ≡ 0
    zero_bits i = bit_at_above 0 i i (pow_pos i) (omega arith)

    over_none : (p : ℕ) → 0 < p → nat_le p 0 ≡ nat_lt 0 0
    over_none p some = grind (arith, nat_tests)

    both : (p n : ℕ) → 0 < p → p ≤ n → nat_le p n ≡ nat_lt 0 n
    both p n some le = grind (arith, nat_tests)

off : (a b : Bool) → (a ≡ true → b ≡ true) → b ≡ false → a ≡ false
off true b h e = sym (h refl) ∙ e
off false b h e = refl

ac_full : (s depth below : ℕ) (low : Option ℕ) (m : ℕ) → AcFull s depth below low m → 0 < m → low ≡ Some (max s below)
ac_full s depth below None m h some = absurd (omega (arith, h, some))
ac_full s depth below (Some low) m h some = ap (λ n. Some n) h.0

-- ---- before the planes

pub have_first : (sent : SentPlanes) (depths : List ℕ) (cells : List ℤ) (g : Given) → length cells ≡ 64 * length depths → HasNoAcs (numbers_in cells) →
    g.numbers ≡ blocks_in (numbers_in cells) → AwaitLows sent g → HaveAll sent.weights.shifts sent.q depths sent.below g
have_first sent depths cells g whole none is await =
    let long : length g.numbers ≡ length depths = ap length is ∙ count_blocks cells ∙ (let e : length cells / 64 ≡ length depths = omega (arith, whole) in e) in
    record {
      long = long;
      dc = λ r lt. await.dcs r (omega (arith, lt, long));
      acs = λ r p lt ac.
          let here : 64 * r < length cells = omega (arith, lt, whole) in
          let number : get_or (get_or g.numbers r []) p (pos 0) ≡ pos 0 =
          ap (λ l. get_or (get_or l r []) p (pos 0)) is ∙
          ap (λ b. get_or b p (pos 0)) (block_there (numbers_in cells) r (omega (arith, here, whole, length-numbers_in cells))) ∙
          none r p (omega (arith, here, length-numbers_in cells)) ac in
          subst (λ l. AcFull (shift sent.weights.shifts p) (get_or depths r 0) sent.below l (magnitude (get_or g.numbers r []) p))
          (sym (await.acs r p (omega (arith, lt, long)) ac)) (ap unsigned_abs number);
    }

-- ---- after a plane

some_if : (b : Bool) (plane : ℕ) (low : Option ℕ) (n : ℕ) → (b ≡ true → plane ≡ n) → (b ≡ false → low ≡ Some n) →
    (let one : Option ℕ = Some plane in if b then one else low) ≡ Some n
some_if true plane low n h k = ap (λ m. Some m) (h refl)
some_if false plane low n h k = k refl

if_true : {A : Type 0} {b : Bool} (x y : A) → b ≡ true → x ≡ (if b then x else y)
if_true x y e = sym (ap (λ c. if c then x else y) e)

if_false : {A : Type 0} {b : Bool} (x y : A) → b ≡ false → y ≡ (if b then x else y)
if_false x y e = sym (ap (λ c. if c then x else y) e)

or_true : (a b : Bool) → (a ≡ true → b ≡ true) → (a || b) ≡ true → b ≡ true
or_true true b h e = h refl
or_true false b h e = e

left_off : (a b : Bool) → (a || b) ≡ false → a ≡ false
left_off true b e = e
left_off false b e = refl

module _ {I : Type 0} {k : SourceOf I} (book : Book) (weights : List ℕ) (q : ℕ) (depths : List ℕ) (plane n : ℕ) (low : plane < 27)
    (old new : List ℤ) (whole : length old ≡ 64 * length depths) (long : length new ≡ length old) (ready : AreReady plane new)
    (await : AwaitDcs (plane + 1) q (blocks_in (numbers_in old))) (still : AwaitDcs plane q (blocks_in (numbers_in new)))
    (result : Result Part TextFault) {x y : SourceState I}
    (taken : TakesPlane k plane (blocks_in (numbers_in old)) (plane_script (terms_at book weights q plane) depths (blocks_in (numbers_in old)) n)
    result new x y)
  where
    abbrev now : PlaneState
    now = taken.stages.now

    abbrev numbers : List (List ℤ)
    numbers = blocks_in (numbers_in old)

    abbrev terms : Terms
    terms = terms_at book weights q plane

    even : length old % 64 ≡ 0
    even = omega (arith, whole)

    even_now : length new % 64 ≡ 0
    even_now = omega (arith, whole, long)

    count : length numbers ≡ length depths
    count = count_blocks old ∙ (let e : length old / 64 ≡ length depths = omega (arith, whole) in e)

    there : (r : ℕ) → 64 * r < length new → r < length depths
    there r lt = omega (arith, lt, whole, long)

    inside : (r : ℕ) → 64 * r < length new → r < length numbers
    inside r lt = omega (arith, lt, whole, long, count)

    dcs_given : All (λ r. IsGiven (coded weights plane 0 && nat_lt plane q)) now
    dcs_given = said_kept (All (λ r. IsGiven (coded weights plane 0 && nat_lt plane q))) (plane_script terms depths numbers n)
        (plane_given terms depths numbers n) taken.stages.read.bits now result taken.stages.read.says

    raw_is : (r p : ℕ) → 64 * r < length new → p < 64 → bit (mask_in new r raw_slot) p ≡ (now.blocks r).raw p
    raw_is r p lt few = (taken.stages.has r lt).raw p few

    bit_is : (r p : ℕ) → 64 * r < length new → IsAc p → bit (mask_in new r plane) p ≡ (now.blocks r).bits p
    bit_is r p lt ac = (taken.stages.has r lt).bits p ac

    -- a raw bit of the DC is due
    due_plane : (r : ℕ) → (now.blocks r).raw 0 ≡ true → plane < q
    due_plane r e =
        let t : nat_lt plane q ≡ true = and-right (coded weights plane 0) (nat_lt plane q) ((dcs_given r).due e) in
        grind (arith, nat_tests)

    due_shift : (r : ℕ) → (now.blocks r).raw 0 ≡ true → shift weights 0 ≤ plane
    due_shift r e =
        let both = (dcs_given r).due e in
        let t : nat_le (shift weights 0) plane ≡ true = sym (coded-is weights plane 0) ∙ and-left (coded weights plane 0) (nat_lt plane q) both in
        grind (arith, nat_tests)

    new_block : (r : ℕ) → 64 * r < length new → get_or (blocks_in (numbers_in new)) r [] ≡ block_at (numbers_in new) r
    new_block r lt = block_there (numbers_in new) r (omega (arith, lt, even_now, length-numbers_in new))

    -- the magnitude of an AC number that has no bit of the plane
    size_before : (r p : ℕ) → 64 * r < length new → IsAc p → (now.blocks r).bits p ≡ false → size_in (mask_in new r) p ≡ magnitude (get_or numbers r []) p
    size_before r p lt ac e =
        sym (block_size new r p even_now lt ac) ∙ ap (λ b. magnitude b p) (sym (new_block r lt)) ∙
        ap (λ l. magnitude (get_or l r []) p) (sym taken.numbers_now) ∙ ap (λ b. magnitude b p) (at_block plane numbers now r (inside r lt)) ∙
        magnitude_with plane (get_or numbers r []) (now.blocks r) p ac ∙ ap (λ b. magnitude (get_or numbers r []) p + (if b then 2 ^ plane else 0)) e ∙
        plus_none (magnitude (get_or numbers r []) p)
      where
        plus_none : (m : ℕ) → m + 0 ≡ m
        plus_none m = omega arith

    module _ (g : Given) (is : g.numbers ≡ numbers) (have : HaveAll weights q depths (suc plane) g) where
      dc_low_is : (r : ℕ) → 64 * r < length new → (given_with plane g now).lows r 0 ≡ Some (max (shift weights 0) (dc_reach q plane new r))
      dc_low_is r lt =
          some_if ((now.blocks r).bits 0 || (now.blocks r).raw 0) plane (g.lows r 0) (max (shift weights 0) (dc_reach q plane new r))
          (λ e.
          let raw : (now.blocks r).raw 0 ≡ true = or_true ((now.blocks r).bits 0) ((now.blocks r).raw 0) ((dcs_given r).raw) e in
          let reach : plane ≡ dc_reach q plane new r = if_true _ _ (raw_is r 0 lt (omega arith) ∙ raw) in
          reach_over (shift weights 0) plane (dc_reach q plane new r) reach (due_shift r raw))
          (λ e.
          let none : (now.blocks r).raw 0 ≡ false = right_off ((now.blocks r).bits 0) ((now.blocks r).raw 0) e in
          let reach : min q (plane + 1) ≡ dc_reach q plane new r = if_false _ _ (raw_is r 0 lt (omega arith) ∙ none) in
          have.dc r (there r lt) ∙ ap (λ m. Some m) (reach_under (shift weights 0) plane (dc_reach q plane new r) reach))
        where
          right_off : (a b : Bool) → (a || b) ≡ false → b ≡ false
          right_off true b e = absurd (grind (arith, nat_tests))
          right_off false b e = e

          reach_over : (s p m : ℕ) → p ≡ m → s ≤ p → p ≡ max s m
          reach_over s p m e le = omega (arith, e, le)

          reach_under : (s p m : ℕ) → min q (p + 1) ≡ m → max s (min q (suc p)) ≡ max s m
          reach_under s p m e = omega (arith, e)

      ac_low_is : (r p : ℕ) → 64 * r < length new → IsAc p → 0 < size_in (mask_in new r) p →
          (given_with plane g now).lows r p ≡ Some (ac_reach weights plane new r p)
      ac_low_is r p lt ac some =
          let mark : (bit (mask_in new r plane) p || bit (mask_in new r raw_slot) p) ≡ ((now.blocks r).bits p || (now.blocks r).raw p) =
          λ i. bit_is r p lt ac i || raw_is r p lt ac.1 i in
          some_if ((now.blocks r).bits p || (now.blocks r).raw p) plane (g.lows r p) (ac_reach weights plane new r p)
          (λ e. if_true _ _ (mark ∙ e))
          (λ e.
          let same : size_in (mask_in new r) p ≡ magnitude (get_or g.numbers r []) p = size_before r p lt ac (left_off ((now.blocks r).bits p)
          ((now.blocks r).raw p) e) ∙ ap (λ l. magnitude (get_or l r []) p) (sym is) in
          let next : max (shift weights p) (suc plane) ≡ max (shift weights p) (plane + 1) = omega arith in
          ac_full (shift weights p) (get_or depths r 0) (suc plane) (g.lows r p) (magnitude (get_or g.numbers r []) p) (have.acs r p (there r lt) ac)
          (omega (arith, some, same)) ∙ ap (λ m. Some m) (next ∙ if_false _ _ (mark ∙ e)))

      pub lows_now : HaveLows weights q plane new (given_with plane g now)
      lows_now = record {
        numbers = ap (λ b. blocks_with plane b now) is ∙ taken.numbers_now;
        dcs = dc_low_is;
        acs = ac_low_is;
      }

      -- after all stages
      pub have_next : n ≡ 5 → ReadsAs k (plane_script terms depths numbers n) (got now) x y → HaveAll weights q depths plane (given_with plane g now)
      have_next five read =
          have_all_next book weights q depths plane g have now (subst (λ b. All (IsAfter terms depths b 5) now) (sym is)
          (whole_read (λ u. (r : ℕ) → Unit {0}) (All (IsAfter terms depths numbers 5)) (plane_script terms depths numbers 5) (plane_after terms depths numbers)
          (read.bits ++ []) [] now (subst (λ m. run (plane_script terms depths numbers m) (read.bits ++ []) ≡ Rest) five (read.says []))))
        where
          Rest : Outcome PlaneState PlaneState
          Rest = outcomes.whole now []

    -- the masks are ready to be restored
    dc_before : (r : ℕ) → 64 * r < length new → (now.blocks r).raw 0 ≡ false → dc_in new r ≡ get_or (get_or numbers r []) 0 (pos 0)
    dc_before r lt e =
        taken.stages.dcs r lt ∙ ap (λ b. get_or (get_or numbers r []) 0 (pos 0) +ℤ pos (if b then 2 ^ plane else 0)) (off ((now.blocks r).bits 0)
        ((now.blocks r).raw 0) ((dcs_given r).raw) e) ∙ plus_none (get_or (get_or numbers r []) 0 (pos 0))
      where
        plus_none : (z : ℤ) → z +ℤ pos 0 ≡ z
        plus_none z = omega (arith, ints)

    dc_after : (r : ℕ) → 64 * r < length new → dc_in new r ≡ get_or (get_or (blocks_in (numbers_in new)) r []) 0 (pos 0)
    dc_after r lt = sym (ap (λ b. get_or b 0 (pos 0)) (new_block r lt) ∙ block_number new r 0 even_now lt (omega arith) ∙ dc_number new r)

    pub is_reached : (r : ℕ) → 64 * r < length new → IsReached q plane r new
    is_reached r lt = record {
      above = λ p ac.
          let size = block_size new r p even_now lt ac in
          ready.above r p lt ac ∙ significant-is (block_at (numbers_in new) r) plane p ∙ ap (nat_le (2 ^ plane)) size ∙
          reaches (size_in (mask_in new r) p) plane (λ i few. size_bit (mask_in new r) p i (omega (arith, few, low)) ∙
          ready.empty r i p lt few (omega (arith, few, low)) ac);
      empty = λ slot p few ac. ready.empty r slot p lt few (omega (arith, few, low)) ac;
      dc = by ((now.blocks r).raw 0) refl;
    }
      where
        by : (b : Bool) → (now.blocks r).raw 0 ≡ b → HasNoneBelow (dc_reach q plane new r) (dc_in new r)
        by true e =
            let over : plane < q = due_plane r e in
            let same : min plane q ≡ plane = omega (arith, over) in
            let reach : plane ≡ dc_reach q plane new r = if_true _ _ (raw_is r 0 lt (omega arith) ∙ e) in
            let here : r < length (blocks_in (numbers_in new)) = omega (arith, count_blocks new, lt, even_now) in
            subst (λ m. HasNoneBelow m (dc_in new r)) (same ∙ reach) (subst (HasNoneBelow (min plane q)) (sym (dc_after r lt)) (still r here))
        by false e =
            let same : min (plane + 1) q ≡ min q (plane + 1) = omega arith in
            let reach : min q (plane + 1) ≡ dc_reach q plane new r = if_false _ _ (raw_is r 0 lt (omega arith) ∙ e) in
            subst (λ m. HasNoneBelow m (dc_in new r)) (same ∙ reach) (subst (HasNoneBelow (min (plane + 1) q)) (sym (dc_before r lt e))
            (await r (inside r lt)))

-- ---- plane after plane

-- n planes were read, and nothing else; after the last plane some stages may not be sent
pub record ReadTo {I : Type 0} (k : SourceOf I) (book : Book) (sent : SentPlanes) (depths : List ℕ) (n : ℕ) (cells : List ℤ) (all : Script Given Given)
    (old new : SourceState I) : Type 0 where
  pub now : Given
  pub numbers : now.numbers ≡ blocks_in (numbers_in cells)
  pub have : sent.stop < sent.below - n → HaveAll sent.weights.shifts sent.q depths (sent.below - n) now
  pub lows : 0 < n → HaveLows sent.weights.shifts sent.q (sent.below - n) cells now
  pub left : Leaves k all (planes_given book sent.weights.shifts sent.q depths (stages_of sent) (sent.below - n) now) old new

pub read_first : {I : Type 0} {k : SourceOf I} (book : Book) (sent : SentPlanes) (depths : List ℕ) (cells : List ℤ) (g : Given) (x : SourceState I) →
    length cells ≡ 64 * length depths → HasNoAcs (numbers_in cells) → g.numbers ≡ blocks_in (numbers_in cells) → AwaitLows sent g →
    ReadTo k book sent depths 0 cells (planes_given book sent.weights.shifts sent.q depths (stages_of sent) sent.below g) x x
read_first {k = k} book sent depths cells g x whole none is await =
    let all = planes_given book sent.weights.shifts sent.q depths (stages_of sent) sent.below g in
    let same : sent.below ≡ sent.below - 0 = omega arith in
    record {
      now = g;
      numbers = is;
      have = λ lt. subst (λ b. HaveAll sent.weights.shifts sent.q depths b g) same (have_first sent depths cells g whole none is await);
      lows = λ lt. absurd (omega (arith, lt));
      left = subst (λ b. Leaves k all (planes_given book sent.weights.shifts sent.q depths (stages_of sent) b g) x x) same (leaves_all all x);
    }

module _ {I : Type 0} {k : SourceOf I} (book : Book) (sent : SentPlanes) (depths : List ℕ) (n plane : ℕ) (is : sent.below - n ≡ suc plane)
    (stop : sent.stop ≤ plane) (low : plane < 27) (old new : List ℤ) (whole : length old ≡ 64 * length depths) (long : length new ≡ length old)
    (ready : AreReady plane new) (await : AwaitDcs (plane + 1) sent.q (blocks_in (numbers_in old))) (still : AwaitDcs plane sent.q (blocks_in (numbers_in new)))
    (stages : ℕ) (are_sent : stages ≡ stages_of sent plane) (result : Result Part TextFault) {x y z : SourceState I}
    (taken : TakesPlane k plane (blocks_in (numbers_in old)) (plane_script (terms_at book sent.weights.shifts sent.q plane) depths (blocks_in (numbers_in
    old)) stages) result new y z) {all : Script Given Given} (so_far : ReadTo k book sent depths n old all x y) where
  have_all : HaveAll sent.weights.shifts sent.q depths (suc plane) so_far.now
  have_all = subst (λ b. HaveAll sent.weights.shifts sent.q depths b so_far.now) is (so_far.have (omega (arith, is, stop)))

  lows_then : HaveLows sent.weights.shifts sent.q plane new (given_with plane so_far.now taken.stages.now)
  lows_then = lows_now book sent.weights.shifts sent.q depths plane stages low old new whole long ready await still result taken so_far.now so_far.numbers
      have_all

  read_given : ReadsAs k (given_plane book sent.weights.shifts sent.q depths plane stages so_far.now) (by_part result
      (given_with plane so_far.now taken.stages.now) (given_with plane so_far.now taken.stages.now)) y z
  read_given = given_read book sent.weights.shifts sent.q depths plane stages so_far.now result taken.stages.now so_far.numbers taken.stages.read

  pub read_end : (result ≡ Ok Whole → ⊥) → TakesPlanes k sent.weights.shifts sent.q plane all result new x z
  read_end part = record {
    now = given_with plane so_far.now taken.stages.now;
    lows = lows_then;
    read = planes_end book sent.weights.shifts sent.q depths (stages_of sent) so_far.now is are_sent so_far.left result
        (given_with plane so_far.now taken.stages.now) part read_given;
  }

  pub read_more : result ≡ Ok Whole → ReadTo k book sent depths (n + 1) new all x z
  read_more got_all =
      let next : plane ≡ sent.below - (n + 1) = omega (arith, is) in
      let after = given_with plane so_far.now taken.stages.now in
      let read = subst (λ o. ReadsAs k (given_plane book sent.weights.shifts sent.q depths plane stages so_far.now) (by_part o after after) y z) got_all
      read_given in
      let script = plane_script (terms_at book sent.weights.shifts sent.q plane) depths (blocks_in (numbers_in old)) stages in
      record {
        now = after;
        numbers = lows_then.numbers;
        have = λ lt.
            let over : sent.stop < plane = omega (arith, lt, next) in
            subst (λ b. HaveAll sent.weights.shifts sent.q depths b after) next
            (have_next book sent.weights.shifts sent.q depths plane stages low old new whole long ready await still result taken so_far.now so_far.numbers
            have_all (are_sent ∙ sym (above_stop sent plane over)) (subst (λ o. ReadsAs k script (by_part o taken.stages.now taken.stages.now) y z) got_all
            taken.stages.read));
        lows = λ some. subst (λ b. HaveLows sent.weights.shifts sent.q b new after) next lows_then;
        left = subst (λ b. Leaves k all (planes_given book sent.weights.shifts sent.q depths (stages_of sent) b after) x z) next
            (planes_more book sent.weights.shifts sent.q depths (stages_of sent) so_far.now is are_sent so_far.left after read);
      }

-- the planes that are left are not sent
pub read_all : {I : Type 0} {k : SourceOf I} (book : Book) (sent : SentPlanes) (depths : List ℕ) (n : ℕ) (cells : List ℤ) {all : Script Given Given}
    {x y : SourceState I} → IsIn y → 0 < n → sent.below - n ≡ sent.stop → length cells % 64 ≡ 0 → ReadTo k book sent depths n cells all x y →
    TakesPlanes k sent.weights.shifts sent.q sent.stop all (Ok Whole) cells x y
read_all {k = k} book sent depths n cells {all} {x} {y} is_in some last whole so_far = record {
  now = so_far.now;
  lows = subst (λ b. HaveLows sent.weights.shifts sent.q b cells so_far.now) last (so_far.lows some);
  read = planes_done book sent.weights.shifts sent.q depths (stages_of sent) is_in (λ p lt. below_stop sent p (omega (arith, lt, last)))
      (subst (λ l. (r : ℕ) → r < length l → length (get_or l r []) ≡ 64) (sym so_far.numbers) (blocks_whole (numbers_in cells) (omega (
        arith,
        whole,
        length-numbers_in cells,
      )))) so_far.left;
}
