-- The items of all planes follow their script, and the numbers at the end are those that were written.
use Rattle.std.proofs.Common.{◌≡◌, ◌⊎◌, ℕ, zero, suc, ◌+◌, ◌*◌, ◌/◌, ◌^◌, ◌≤◌, ◌<◌, ◌==◌, ◌&&◌, ◌||◌, nat_lt, nat_le, Bool, true, false, if◌then◌else◌}
use Rattle.std.proofs.Common.{List, [], ◌++◌, length, refl, ap, sym, ◌∙◌, subst, arith, ℤ, pos, inl, inr, pow_pos, pow_mono}
use Rattle.std.specs.Prelude.{◌-ℤ◌, ◌+ℤ◌, ◌*ℤ◌}
use Rattle.std.specs.Int.{int_shr}
use Rattle.std.specs.Int.RustNames.{unsigned_abs}
use Rattle.std.proofs.lemmas.Bool.{cases_lt}
use Rattle.std.proofs.lemmas.Bool.Decides.{nat_tests}
use Rattle.std.proofs.lemmas.List.{get_or_past}
use Rattle.std.proofs.Math.Bool.{and-false}
use lib.ListN.{get_or}
use Rattle.item_defs.specs.Bits.{bit}
use Rattle.base_122.specs.declared.book.Book.{Book}
use Rattle.plane_defs.specs.Sets.{magnitude, shift, significant, coded, newly_significant, refined}
use Rattle.plane_defs.specs.Entries.{negative, twos_bit}
use Rattle.plane_defs.specs.Reading.{stage_reading, plane_reading}
use Rattle.plane_defs.specs.StepLaws.{IsAc, SameAc}
use Rattle.plane_defs.specs.Laws.{IsMultiple}
use Rattle.plane_defs.proofs.Equations.{significant-is, coded-is, type_due-is, newly_significant-is, refined-is}
use Rattle.plane_defs.proofs.Determined.{still_significant, not_coded}
use Rattle.plane_defs.proofs.SpanLists.{length-map-span, get_or-map-span, flat_map-span-none}
use Rattle.item_defs.specs.Scripts.{then_ask, around}
use Rattle.item_defs.specs.Writing.{Writes}
use Rattle.item_defs.proofs.Writing.{writes_none, writes_then, writes_around, writes_weaker}
use Rattle.plane_defs.specs.Written.{AreChosen, planes_reading, Shows, low_bits, ShowsDc, AreSendable, Stops, WrotePlanes}
use Rattle.plane_defs.specs.States.{State}
use Rattle.plane_defs.specs.StageScripts.{Terms}
use Rattle.plane_defs.specs.PlaneScript.{PlaneState, nothing_yet, plane_script, bit_of_plane, number_with, block_with, blocks_with, planes_script}
use Rattle.plane_defs.proofs.PlacesSent.{At}
use Rattle.plane_defs.proofs.NumberParts.{one_bit_more, bit_below, bit_reached, reach_same, signed_size, signed_negative, bits_all, signs_all}
use Rattle.plane_defs.proofs.NumbersLeft.{weight, whole_part, dc_step}
use Rattle.plane_defs.proofs.PlaneSent as plane

-- ---- a number of the plane

module _ (v : List ℤ) (weights : List ℕ) (b : ℕ) (whole : IsMultiple v weights) (p : ℕ) where
  abbrev M : ℕ
  M = magnitude v p

  abbrev A : Bool
  A = significant v (b + 1) p

  abbrev C : Bool
  C = coded weights b p

  abbrev X : Bool
  X = significant v b p

  pub no_bit : C ≡ false → bit M b ≡ false
  no_bit e = grind (arith, nat_tests, bit_below, coded-is)

  pub new_bit : A ≡ false → X ≡ bit M b
  new_bit e = significant-is v b p ∙ bit_reached M b (sym (significant-is v (b + 1) p) ∙ e)

  -- a new number has the bit, and any other if it is refined so
  pub the_bit : (newly_significant v weights b p || (refined v weights b p && bit M b)) ≡ bit M b
  the_bit = grind (arith, nat_tests, newly_significant-is, type_due-is, refined-is, bits_all, no_bit, new_bit)

  pub the_sign : (n : Bool) → (((A && n) || (newly_significant v weights b p && n)) && X) ≡ (X && n)
  the_sign n = grind (arith, nat_tests, newly_significant-is, type_due-is, signs_all, still_significant, not_coded)

-- the AC numbers that a block has above a plane, and the plane's bits and signs
pub shows_next : (weights : List ℕ) (b : ℕ) (block v : List ℤ) (families : ℕ → Bool) (dc : Bool) (o : List ℕ) (before : _) (s : State) → IsMultiple v weights →
    Shows (b + 1) block v → At o v weights b 64 64 families dc before s → Shows b (block_with b block s) v
shows_next weights b block v families dc o before s whole above r p ac =
    let m = magnitude v p in
    let sign = negative (get_or block p (pos 0)) || s.minus p in
    let size : magnitude block p + bit_of_plane b s p ≡ m / 2 ^ b * 2 ^ b =
    ap (λ x. magnitude block p + (if x then 2 ^ b else 0)) (r.bits p ac ∙ inside (λ y. (y && newly_significant v weights b p) || (y &&
    (refined v weights b p && bit m b))) ∙
    the_bit v weights b whole p) ∙ ap (λ x. x + (if bit m b then 2 ^ b else 0)) (above p ac).0 ∙ one_bit_more m b in
    let n = negative (get_or v p (pos 0)) in
    let signs : sign ≡ ((significant v (b + 1) p && n) || (newly_significant v weights b p && n)) =
    ap (λ y. y || s.minus p) (above p ac).1 ∙ ap (λ y. (significant v (b + 1) p && n) || y) (r.minus p ac ∙
    inside (λ y. y && (newly_significant v weights b p && n))) in
    let number : get_or (block_with b block s) p (pos 0) ≡ (if sign then pos 0 -ℤ pos (m / 2 ^ b * 2 ^ b) else pos (m / 2 ^ b * 2 ^ b)) =
    get_or-map-span (number_with b block s) 64 p (pos 0) ac.1 ∙ not_dc ∙ ap (λ k. if sign then pos 0 -ℤ pos k else pos k) size in (
      ap unsigned_abs number ∙ signed_size sign (m / 2 ^ b * 2 ^ b),
      ap negative number ∙ signed_negative sign (m / 2 ^ b * 2 ^ b) ∙
          ap (λ y. sign && y) (some (m / 2 ^ b * 2 ^ b) ∙ reach_same (2 ^ b) m (pow_pos b) ∙ sym (significant-is v b p)) ∙
          ap (λ y. y && significant v b p) signs ∙ the_sign v weights b whole p n,
    )
  where
    inside : (f : Bool → Bool) → f (nat_lt p 64) ≡ f true
    inside f = let e : nat_lt p 64 ≡ true = (let a : p < 64 = ac.1 in grind (arith, nat_tests)) in ap f e

    not_dc : number_with b block s p ≡
        (if negative (get_or block p (pos 0)) || s.minus p then pos 0 -ℤ pos (magnitude block p + bit_of_plane b s p) else
        pos (magnitude block p + bit_of_plane b s p))
    not_dc = let e : (p == 0) ≡ false = (let a : 1 ≤ p = ac.0 in grind (arith, nat_tests)) in rw e refl

    some : (y : ℕ) → nat_lt 0 (magnitude v p / 2 ^ b * 2 ^ b) ≡ nat_le (2 ^ b) (magnitude v p / 2 ^ b * 2 ^ b)
    some y = grind (arith, nat_tests, pow_pos)

-- the DC that a block has above a plane, and the plane's bit
pub dc_next : (weights : List ℕ) (q b : ℕ) (block v : List ℤ) (s : State) → ShowsDc (low_bits weights q (b + 1)) block v →
    s.bits 0 ≡ ((coded weights b 0 && nat_lt b q) && twos_bit (get_or v 0 (pos 0)) b) → ShowsDc (low_bits weights q b) (block_with b block s) v
dc_next weights q b block v s above is = by (coded weights b 0) refl (nat_lt b q) refl is
  where
    now : get_or (block_with b block s) 0 (pos 0) ≡ get_or block 0 (pos 0) +ℤ pos (weight b (s.bits 0))
    now = get_or-map-span (number_with b block s) 64 0 (pos 0) (omega arith)

    no_more : (z : ℤ) → z +ℤ pos 0 ≡ z
    no_more z = grind (arith, nat_tests)

    kept : low_bits weights q (b + 1) ≡ low_bits weights q b → s.bits 0 ≡ false → ShowsDc (low_bits weights q b) (block_with b block s) v
    kept same e =
        now ∙ ap (λ (x : Bool). get_or block 0 (pos 0) +ℤ pos (weight b x)) e ∙ no_more (get_or block 0 (pos 0)) ∙ above ∙
        ap (λ k. int_shr (get_or v 0 (pos 0)) k *ℤ pos (2 ^ k)) same

    by : (x : Bool) → coded weights b 0 ≡ x → (y : Bool) → nat_lt b q ≡ y → s.bits 0 ≡ ((x && y) && twos_bit (get_or v 0 (pos 0)) b) →
        ShowsDc (low_bits weights q b) (block_with b block s) v
    by false e y f is =
        let low : b < shift weights 0 = (let g : nat_le (shift weights 0) b ≡ false = sym (coded-is weights b 0) ∙ e in grind (arith, nat_tests)) in
        kept (omega (arith, low)) is
    by true e false f is = let high : q ≤ b = grind (arith, nat_tests) in kept (omega (arith, high)) is
    by true e true f is =
        let low : shift weights 0 ≤ b = (let g : nat_le (shift weights 0) b ≡ true = sym (coded-is weights b 0) ∙ e in grind (arith, nat_tests)) in
        let high : b < q = grind (arith, nat_tests) in
        let up : low_bits weights q (b + 1) ≡ b + 1 = omega (arith, low, high) in
        let down : b ≡ low_bits weights q b = omega (arith, low, high) in
        subst (λ k. ShowsDc k (block_with b block s) v) down
        (now ∙ dc_step (get_or block 0 (pos 0)) (get_or v 0 (pos 0)) b (s.bits 0) (subst (λ k. ShowsDc k block v) up above) is)

-- ---- blocks

pub dc_nothing : (low : ℕ) → ShowsDc low [] []
dc_nothing low =
    let e : 0 / 2 ^ low ≡ 0 = grind arith in
    let f : 0 ≡ 0 / 2 ^ low * 2 ^ low = (let g : 0 ≡ 0 * 2 ^ low = omega arith in g ∙ ap (λ n. n * 2 ^ low) (sym e)) in ap pos f

pub shows_nothing : (b : ℕ) → Shows b [] []
shows_nothing b p ac = (sym none, sym (and-false (significant [] b p)))
  where
    none : 0 / 2 ^ b * 2 ^ b ≡ 0
    none = let e : 0 / 2 ^ b ≡ 0 = grind arith in rw e (omega arith)

pub same_above : (b : ℕ) (block v : List ℤ) → Shows b block v → SameAc block v b
same_above b block v shows p ac =
    significant-is block b p ∙ ap (nat_le (2 ^ b)) (shows p ac).0 ∙ reach_same (2 ^ b) (magnitude v p) (pow_pos b) ∙ sym (significant-is v b p)

-- all bits make the number
pub whole_shown : (block v : List ℤ) → Shows 0 block v → (p : ℕ) → IsAc p → get_or block p (pos 0) ≡ get_or v p (pos 0)
whole_shown block v shows p ac = grind (arith, nat_tests, significant-is)

module _ (book : Book) (options : ℕ → ℕ → List ℕ) (chosen : (b g : ℕ) → AreChosen (options b g)) (values : List (List ℤ)) (depths weights : List ℕ)
    (sendable : AreSendable values depths weights) (q : ℕ) (stages : ℕ → ℕ) (stops : Stops stages) where
  abbrev Ends : ℕ → List (List ℤ) → Type 0
  Ends = WrotePlanes values stages

  abbrev pub Related : ℕ → List (List ℤ) → Type 0
  Related b blocks = (r : ℕ) → Shows b (get_or blocks r []) (get_or values r []) × ShowsDc (low_bits weights q b) (get_or blocks r []) (get_or values r [])

  long_with : (b : ℕ) (blocks : List (List ℤ)) (u : PlaneState) → length (blocks_with b blocks u) ≡ length blocks
  long_with b blocks u = length-map-span (λ r. block_with b (get_or blocks r []) (u.blocks r)) (length blocks)

  -- planes of which nothing is sent
  silent : (below : ℕ) → ((c : ℕ) → c < below → stages c ≡ 0) → (blocks : List (List ℤ)) → length blocks ≡ length values →
      Writes (planes_script book weights q depths stages below blocks) (planes_reading book options values depths weights q stages below)
      (λ w. length w ≡ length values)
  silent zero none blocks long = writes_none (λ w. length w ≡ length values) blocks long
  silent (suc b) none blocks long =
      let t : Terms = record { book = book; weights = weights; plane = b; q = q } in
      subst (λ n. Writes (then_ask (around (blocks_with b blocks) (plane_script t depths blocks n)) (planes_script book weights q depths stages b))
      (plane_reading book (options b) (record { blocks = values; depths = depths; weights = weights; number = b; q = q }) n ++ planes_reading book options
      values depths weights q stages b)
      (λ w. length w ≡ length values)) (sym (none b (omega arith)))
      (subst (λ l. Writes (planes_script book weights q depths stages b (blocks_with b blocks nothing_yet))
      (l ++ planes_reading book options values depths weights q stages b)
      (λ w. length w ≡ length values))
      (sym (flat_map-span-none (stage_reading book (options b) (record { blocks = values; depths = depths; weights = weights; number = b; q = q })) 0))
      (silent b (λ c lt. none c (omega (arith, lt))) (blocks_with b blocks nothing_yet) (long_with b blocks nothing_yet ∙ long)))

  pub none_of : (b r : ℕ) → nat_lt b (get_or depths r 0) ≡ false → (i : ℕ) → IsAc i → significant (get_or values r []) b i ≡ false
  none_of b r deep i ac = grind (arith, nat_tests, significant-is, pow_mono)

  -- what a plane leaves
  abbrev pub Step : ℕ → List (List ℤ) → Type 0
  Step b now = (length now ≡ length values) × (stages b ≡ 5 → Related b now)

  module _ (b : ℕ) (blocks : List (List ℤ)) (long : length blocks ≡ length values) (above : Related (b + 1) blocks) where
    abbrev pub terms : Terms
    terms = record { book = book; weights = weights; plane = b; q = q }

    pub same : (r : ℕ) → SameAc (get_or blocks r []) (get_or values r []) (b + 1)
    same r = same_above (b + 1) (get_or blocks r []) (get_or values r []) (above r).0

    abbrev At_end : PlaneState → Type 0
    At_end u = (r : ℕ) → r < length depths →
        plane.BlockAt (options b) (chosen b) terms depths blocks values same sendable.multiples (none_of b) (stages b) r (u.blocks r)

    pub next : (u : PlaneState) → At_end u → stages b ≡ 5 → Related b (blocks_with b blocks u)
    next u z five r = elim (cases_lt r (length blocks)) [
      | inl lt ↦
          let w = subst (λ n. plane.BlockAt (options b) (chosen b) terms depths blocks values same sendable.multiples (none_of b) n r (u.blocks r)) five
          (z r (let e = sendable.long in omega (arith, e, long, lt))) in
          subst (Now r) (sym (get_or-map-span (λ i. block_with b (get_or blocks i []) (u.blocks i)) (length blocks) r [] lt)) (
            shows_next weights b (get_or blocks r []) (get_or values r []) _ _ (options b (r / 16)) w.0 (u.blocks r) (sendable.multiples r) (above r).0 w.1,
            dc_next weights q b (get_or blocks r []) (get_or values r []) (u.blocks r) (above r).1 w.1.low,
          )
      | inr ge ↦
          subst (Now r) (sym (get_or_past (blocks_with b blocks u) r [] (let e = long_with b blocks u in omega (arith, e, ge))))
          (subst (λ l. Shows b [] l × ShowsDc (low_bits weights q b) [] l) (sym (get_or_past values r [] (omega (arith, long, ge))))
          (shows_nothing b, dc_nothing (low_bits weights q b)))
    ]
      where
        Now : ℕ → List ℤ → Type 0
        Now r l = Shows b l (get_or values r []) × ShowsDc (low_bits weights q b) l (get_or values r [])

    pub plane_step : Writes (around (blocks_with b blocks) (plane_script terms depths blocks (stages b)))
        (plane_reading book (options b) (record { blocks = values; depths = depths; weights = weights; number = b; q = q }) (stages b)) (Step b)
    plane_step =
        writes_around At_end (Step b) (blocks_with b blocks) (λ u z. (long_with b blocks u ∙ long, next u z)) (plane_script terms depths blocks (stages b)) _
        (plane.plane_sent (options b) (chosen b) terms depths blocks values same sendable.multiples (none_of b) (stages b) (stops b).0)

  all_shown : (block : List ℤ) (r : ℕ) → Shows 0 block (get_or values r []) × ShowsDc (low_bits weights q 0) block (get_or values r []) → (p : ℕ) → p < 64 →
      get_or block p (pos 0) ≡ get_or (get_or values r []) p (pos 0)
  all_shown block r shown zero lt =
      let v = get_or values r [] in
      let m = sendable.multiples r in
      let e : low_bits weights q 0 ≡ shift weights 0 = omega arith in
      subst (λ k. ShowsDc k block v) e shown.1 ∙ sym (whole_part (get_or v 0 (pos 0)) (shift weights 0) (m.part 0) (m.whole 0))
  all_shown block r shown (suc p) lt = whole_shown block (get_or values r []) shown.0 (suc p) (omega arith, lt)

  pub planes_sent : (below : ℕ) (blocks : List (List ℤ)) → length blocks ≡ length values → Related below blocks →
      Writes (planes_script book weights q depths stages below blocks) (planes_reading book options values depths weights q stages below) (Ends below)
  planes_sent zero blocks long shown = writes_none (Ends zero) blocks (record {
    long = long;
    all = λ five r p lt. all_shown (get_or blocks r []) r (shown r) p lt;
  })
  planes_sent (suc b) blocks long shown =
      let e : suc b ≡ b + 1 = omega arith in
      let above : Related (b + 1) blocks = λ r. subst (λ n. Shows n (get_or blocks r []) (get_or values r []) ×
      ShowsDc (low_bits weights q n) (get_or blocks r []) (get_or values r [])) e (shown r) in
      writes_then (Step b) (Ends (suc b)) (around (blocks_with b blocks) (plane_script (terms b blocks long above) depths blocks (stages b)))
      (planes_script book weights q depths stages b)
      (plane_reading book (options b) (record { blocks = values; depths = depths; weights = weights; number = b; q = q }) (stages b))
      (planes_reading book options values depths weights q stages b) (plane_step b blocks long above)
      (λ now z. by now z.0 (λ five. planes_sent b now z.0 (z.1 five)) (cases_five (stages b == 5) refl) (stops b).1)
    where
      cases_five : (x : Bool) → (stages b == 5) ≡ x → (stages b ≡ 5) ⊎ (stages b ≡ 5 → ⊥)
      cases_five true e = inl (grind (arith, nat_tests))
      cases_five false e = inr (λ f. grind (arith, nat_tests))

      Rest : List (List ℤ) → (List (List ℤ) → Type 0) → Type 0
      Rest now = Writes (planes_script book weights q depths stages b now) (planes_reading book options values depths weights q stages b)

      by : (now : List (List ℤ)) → length now ≡ length values → (stages b ≡ 5 → Rest now (Ends b)) → ((stages b ≡ 5) ⊎ (stages b ≡ 5 → ⊥)) →
          ((stages b ≡ 5) ⊎ ((c : ℕ) → c < b → stages c ≡ 0)) → Rest now (Ends (suc b))
      by now size more (inl five) zeros =
          writes_weaker (Ends b) (Ends (suc b)) (planes_script book weights q depths stages b now)
          (planes_reading book options values depths weights q stages b)
          (λ w z. record { long = z.long; all = λ each. z.all (λ c lt. each c (omega (arith, lt))) }) (more five)
      by now size more (inr other) (inl five) = absurd (other five)
      by now size more (inr other) (inr zeros) =
          writes_weaker (λ w. length w ≡ length values) (Ends (suc b)) (planes_script book weights q depths stages b now)
          (planes_reading book options values depths weights q stages b)
          (λ w z. record { long = z; all = λ each. absurd (other (each b (omega arith))) }) (silent b zeros now size)
