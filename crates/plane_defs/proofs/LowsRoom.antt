-- Whatever the bits of a number are that planes do not give, it is in a range.
use Rattle.std.proofs.Common.{◌≡◌, ◌≤◌, ◌<◌, ℕ, zero, suc, ◌+◌, ◌*◌, ◌^◌, ◌==◌, ◌&&◌, ◌||◌, nat_lt, min, Bool, true, false, if◌then◌else◌, List, [], length}
use Rattle.std.proofs.Common.{refl, ap, sym, ◌∙◌, subst, arith, Option, Some, None, ℤ, pos, ◌+ℤ◌, ◌-ℤ◌, pow_mono}
use Rattle.std.specs.Int.RustNames.{unsigned_abs}
use Rattle.std.proofs.Math.Nat.{pow-succ'}
use Rattle.std.proofs.Math.Bool.{or-false}
use Rattle.std.proofs.lemmas.Bool.Decides.{nat_tests}
use Rattle.std.proofs.lemmas.Int.{ints}
use lib.ListN.{get_or}
use Rattle.base_122.specs.declared.book.Book.{Book}
use Rattle.item_defs.specs.Scripts.{done}
use Rattle.item_defs.proofs.ScriptYields.{Yields, yields_then, yields_around, yields_turn}
use Rattle.item_defs.proofs.Room.{Room, room_less, room_bit}
use Rattle.plane_defs.specs.Sets.{magnitude, coded, refined}
use Rattle.plane_defs.specs.Entries.{negative}
use Rattle.plane_defs.specs.StepLaws.{IsAc}
use Rattle.plane_defs.specs.States.{State}
use Rattle.plane_defs.specs.StageScripts.{Terms, bit_script, refinement_script, stage_script}
use Rattle.plane_defs.specs.PlaneScript.{PlaneState, bit_of_plane, number_with, block_with, blocks_with, plane_script}
use Rattle.plane_defs.specs.Back.{dc_in}
use Rattle.plane_defs.specs.Lows.{Given, given_with, planes_given}
use Rattle.plane_defs.proofs.NumberParts.{signed_size}
use Rattle.plane_defs.proofs.Tables.{and-right}
use Rattle.plane_defs.proofs.PlaneGoes.{long_with}
use Rattle.plane_defs.proofs.SpanLists.{get_or-map-span}
use Rattle.plane_defs.proofs.StageYields.{IsStable, if_sent, stage_yields}
use Rattle.plane_defs.proofs.PlaneYields.{All, plane_yields}

-- ---- the DC's bit of a plane is given only below plane q

abbrev pub IsDue : (b q : ℕ) → State → Type 0
IsDue b q s = (s.bits 0 || s.raw 0) ≡ true → b < q

due_stable : (t : Terms) (block : List ℤ) (b q : ℕ) → IsStable t block (IsDue b q)
due_stable t block b q = record {
  options = λ s o k. k;
  families = λ s f k. k;
  bits = λ s new none typed k e. k (sym (ap (λ x. (s.bits 0 || x) || s.raw 0) none ∙ ap (λ x. x || s.raw 0) (or-false (s.bits 0))) ∙ e);
  minus = λ s m k. k;
}

module _ (t : Terms) (block : List ℤ) where
  abbrev Due : State → Type 0
  Due = IsDue t.plane t.q

  refinement_due : (s : State) → Due s → Yields Due Due (refinement_script t block s)
  refinement_due s k =
      yields_turn Due (λ i. Due) (λ p u. if refined block t.weights t.plane p then bit_script p u else done u) 1 63
      (λ p u low high h. if_sent Due (refined block t.weights t.plane p) (bit_script p u) u (λ e. (h, λ n said good f. h (other p u (n == 1) low ∙ f))) h) s k
    where
      other : (p : ℕ) (u : State) (x : Bool) → 1 ≤ p → (u.bits 0 || u.raw 0) ≡ ((u.bits 0 || (false || ((0 == p) && x))) || (u.raw 0 || (0 == p)))
      other p u x low = let e : (0 == p) ≡ false = grind (arith, nat_tests) in
          sym ((λ i. (u.bits 0 || (false || (e i && x))) || (u.raw 0 || e i)) ∙ (λ i. or-false (u.bits 0) i || or-false (u.raw 0) i))

  stage_due : (stage depth : ℕ) (s : State) → Due s → Yields Due Due (stage_script t stage depth block s)
  stage_due zero depth s k = if_sent Due (coded t.weights t.plane 0 && nat_lt t.plane t.q) (bit_script 0 s) s (λ e. (k, λ n said good f. below e)) k
    where
      below : (coded t.weights t.plane 0 && nat_lt t.plane t.q) ≡ true → t.plane < t.q
      below e = let f = and-right (coded t.weights t.plane 0) (nat_lt t.plane t.q) e in grind (arith, nat_tests)
  stage_due (suc n) depth s k = stage_yields Due t block (suc n) depth (omega arith) (λ d. due_stable t block t.plane t.q) s k (λ a b c d. refinement_due s k)

pub plane_due : (t : Terms) (depths : List ℕ) (blocks : List (List ℤ)) (stages : ℕ) → stages ≤ 5 →
    Yields (All (λ r. IsDue t.plane t.q)) (All (λ r. IsDue t.plane t.q)) (plane_script t depths blocks stages)
plane_due t depths blocks stages le =
    plane_yields (λ r. IsDue t.plane t.q) (λ k r. IsDue t.plane t.q) (λ k r s h. h) (λ k r s o h. h) t depths blocks (λ k r s le h. h)
    (λ k r s few lt h. stage_due t (get_or blocks r []) k (get_or depths r 0) s h) stages le (λ r e. absurd cc)

-- ---- numbers with a plane more

-- nothing is given of an AC number that is 0; or, with all lower bits, its magnitude is at most 2 ^ depth
abbrev pub AcRoom : (depth below : ℕ) → Option ℕ → ℕ → Type 0
AcRoom depth below None m = m ≡ 0
AcRoom depth below (Some low) m = (below ≤ low) × (m + 2 ^ low ≤ 2 ^ depth)

pub record HaveRoom (most depth q below : ℕ) (g : Given) : Type 0 where
  pub dc : (r : ℕ) → r < length g.numbers → Room most (min q below) (g.lows r 0) (dc_in g.numbers r)
  pub acs : (r p : ℕ) → r < length g.numbers → IsAc p → AcRoom depth below (g.lows r p) (magnitude (get_or g.numbers r []) p)

ac_less : (depth below n : ℕ) (low : Option ℕ) (m : ℕ) → n ≤ below → AcRoom depth below low m → AcRoom depth n low m
ac_less depth below n None m le h = h
ac_less depth below n (Some low) m le h = (let a = h.0 in omega (arith, a, le), h.1)

pub have_less : (most depth q below n : ℕ) (g : Given) → n ≤ below → HaveRoom most depth q below g → HaveRoom most depth q n g
have_less most depth q below n g le h = record {
  dc = λ r lt. room_less most (min q below) (min q n) (g.lows r 0) (dc_in g.numbers r) (omega (arith, le)) (h.dc r lt);
  acs = λ r p lt ac. ac_less depth below n (g.lows r p) (magnitude (get_or g.numbers r []) p) le (h.acs r p lt ac);
}

-- the magnitude of an AC number with its bit of a plane
pub magnitude_with : (b : ℕ) (block : List ℤ) (s : State) (p : ℕ) → IsAc p → magnitude (block_with b block s) p ≡ magnitude block p + bit_of_plane b s p
magnitude_with b block s p ac =
    ap unsigned_abs (get_or-map-span (number_with b block s) 64 p (pos 0) ac.1) ∙
    ap (λ (x : Bool). unsigned_abs (if x then get_or block 0 (pos 0) +ℤ pos (bit_of_plane b s 0) else signed)) apart ∙
    signed_size (negative (get_or block p (pos 0)) || s.minus p) (magnitude block p + bit_of_plane b s p)
  where
    signed : ℤ
    signed =
        let m = magnitude block p + bit_of_plane b s p in
        if negative (get_or block p (pos 0)) || s.minus p then pos 0 -ℤ pos m else pos m

    apart : (p == 0) ≡ false
    apart = let some : 1 ≤ p = ac.0 in grind (arith, nat_tests)

pub at_block : (b : ℕ) (blocks : List (List ℤ)) (u : PlaneState) (r : ℕ) → r < length blocks →
    get_or (blocks_with b blocks u) r [] ≡ block_with b (get_or blocks r []) (u.blocks r)
at_block b blocks u r lt = get_or-map-span (λ i. block_with b (get_or blocks i []) (u.blocks i)) (length blocks) r [] lt

ac_step : (depth b : ℕ) → b < depth → (low : Option ℕ) (m : ℕ) (one raw : Bool) → AcRoom depth (suc b) low m →
    AcRoom depth b (if one || raw then Some b else low) (m + (if one then 2 ^ b else 0))
ac_step depth b lt None m true raw h =
    let e : 2 ^ suc b ≡ 2 * 2 ^ b = pow-succ' 2 b in
    let le : 2 ^ suc b ≤ 2 ^ depth = pow_mono lt in
    (omega arith, omega (arith, h, e, le))
ac_step depth b lt None m false true h = let le : 2 ^ b ≤ 2 ^ depth = pow_mono (omega (arith, lt)) in (omega arith, omega (arith, h, le))
ac_step depth b lt None m false false h = omega (arith, h)
ac_step depth b lt (Some l) m true raw h =
    let e : 2 ^ suc b ≡ 2 * 2 ^ b = pow-succ' 2 b in
    let le : 2 ^ suc b ≤ 2 ^ l = pow_mono h.0 in
    let up = h.1 in
    (omega arith, omega (arith, up, e, le))
ac_step depth b lt (Some l) m false true h =
    let e : 2 ^ suc b ≡ 2 * 2 ^ b = pow-succ' 2 b in
    let le : 2 ^ suc b ≤ 2 ^ l = pow_mono h.0 in
    let up = h.1 in
    (omega arith, omega (arith, up, e, le))
ac_step depth b lt (Some l) m false false h = let a = h.0 in let up = h.1 in (omega (arith, a), omega (arith, up))

dc_step : (most q b : ℕ) → q ≤ most → (low : Option ℕ) (z : ℤ) (one raw : Bool) → ((one || raw) ≡ true → b < q) → Room most (min q (suc b)) low z →
    Room most (min q b) (if one || raw then Some b else low) (z +ℤ pos (if one then 2 ^ b else 0))
dc_step most q b le low z true raw due h =
    let lt = due refl in
    let once : 1 * 2 ^ b ≡ 2 ^ b = omega arith in
    room_less most b (min q b) (Some b) (z +ℤ pos (2 ^ b)) (omega arith)
    (subst (λ n. Room most b (Some b) (z +ℤ pos n)) once
    (room_bit most (suc b) b 1 low z (omega arith) (omega (arith, lt, le)) (omega arith) (room_less most (min q (suc b)) (suc b) low z (omega (arith, lt)) h)))
dc_step most q b le low z false true due h =
    let lt = due refl in
    let none : 0 * 2 ^ b ≡ 0 = omega arith in
    room_less most b (min q b) (Some b) (z +ℤ pos 0) (omega arith)
    (subst (λ n. Room most b (Some b) (z +ℤ pos n)) none
    (room_bit most (suc b) b 0 low z (omega arith) (omega (arith, lt, le)) (omega arith) (room_less most (min q (suc b)) (suc b) low z (omega (arith, lt)) h)))
dc_step most q b le low z false false due h =
    let e : z +ℤ pos 0 ≡ z = omega (arith, ints) in
    subst (Room most (min q b) low) (sym e) (room_less most (min q (suc b)) (min q b) low z (omega arith) h)

module _ (most depth q : ℕ) (few : q ≤ most) where
  step : (b : ℕ) → b < depth → (g : Given) → HaveRoom most depth q (suc b) g → (u : PlaneState) → All (λ r. IsDue b q) u →
      HaveRoom most depth q b (given_with b g u)
  step b lt g h u due = record {
    dc = λ r small.
        let inside = here r small in
        subst (Room most (min q b) ((given_with b g u).lows r 0))
        (sym (ap (λ l. get_or l 0 (pos 0)) (at_block b g.numbers u r inside) ∙
        get_or-map-span (number_with b (get_or g.numbers r []) (u.blocks r)) 64 0 (pos 0) (omega arith)))
        (dc_step most q b few (g.lows r 0) (dc_in g.numbers r) ((u.blocks r).bits 0) ((u.blocks r).raw 0) (due r) (h.dc r inside));
    acs = λ r p small ac.
        let inside = here r small in
        subst (AcRoom depth b ((given_with b g u).lows r p))
        (sym (ap (λ l. magnitude l p) (at_block b g.numbers u r inside) ∙ magnitude_with b (get_or g.numbers r []) (u.blocks r) p ac))
        (ac_step depth b lt (g.lows r p) (magnitude (get_or g.numbers r []) p) ((u.blocks r).bits p) ((u.blocks r).raw p) (h.acs r p inside ac));
  }
    where
      here : (r : ℕ) → r < length (blocks_with b g.numbers u) → r < length g.numbers
      here r small = let e = long_with b g.numbers u in omega (arith, small, e)

  pub planes_room : (book : Book) (weights depths : List ℕ) (stages : ℕ → ℕ) → ((b : ℕ) → stages b ≤ 5) → (below : ℕ) → below ≤ depth →
      (g : Given) → HaveRoom most depth q below g →
      Yields (HaveRoom most depth q 0) (HaveRoom most depth q 0) (planes_given book weights q depths stages below g)
  planes_room book weights depths stages stops zero le g h = h
  planes_room book weights depths stages stops (suc b) le g h =
      let t : Terms = record { book = book; weights = weights; plane = b; q = q } in
      yields_then (HaveRoom most depth q 0) (HaveRoom most depth q b) (HaveRoom most depth q 0) _ (planes_given book weights q depths stages b)
      (yields_around (All (λ r. IsDue b q)) (All (λ r. IsDue b q)) (HaveRoom most depth q 0) (HaveRoom most depth q b) (given_with b g)
      (λ u due. have_less most depth q b 0 (given_with b g u) (omega arith) (step b le g h u due)) (step b le g h)
      (plane_script t depths g.numbers (stages b)) (plane_due t depths g.numbers (stages b) (stops b)))
      (λ k room. planes_room book weights depths stages stops b (omega (arith, le)) k room)
