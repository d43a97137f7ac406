-- A block before a plane and after it, and what it is of the values at the end.
use Rattle.std.proofs.Common.{◌≡◌, ℕ, zero, suc, ◌+◌, ◌*◌, ◌/◌, ◌%◌, ◌^◌, ◌≤◌, ◌<◌, ◌==◌, ◌&&◌, ◌||◌, not, nat_lt, nat_le, Bool, true, false, if◌then◌else◌}
use Rattle.std.proofs.Common.{List, refl, ap, sym, ◌∙◌, subst, arith, ℤ, pos, ◌+ℤ◌, inl, inr, pow_pos, pow_mono}
use Rattle.std.specs.Prelude.{◌-ℤ◌}
use Rattle.std.specs.Int.{int_shr}
use Rattle.std.specs.Int.RustNames.{unsigned_abs}
use Rattle.std.proofs.Math.Nat.{div-eq_of_lt}
use Rattle.std.proofs.lemmas.Bool.{cases_lt}
use Rattle.std.proofs.lemmas.Bool.Decides.{nat_tests}
use Rattle.std.proofs.lemmas.List.{get_or_past}
use lib.ListN.{get_or}
use Rattle.item_defs.specs.Bits.{bit}
use Rattle.plane_defs.specs.Sets.{magnitude, shift, significant, coded, type_due, newly_significant}
use Rattle.plane_defs.specs.Codes.{is_book_sound}
use Rattle.plane_defs.specs.Entries.{negative, twos_bit}
use Rattle.plane_defs.specs.StepLaws.{IsAc, SameAc}
use Rattle.plane_defs.specs.Laws.{IsMultiple}
use Rattle.plane_defs.proofs.Equations.{significant-is, coded-is, type_due-is, newly_significant-is}
use Rattle.plane_defs.proofs.SpanLists.{length-map-span, get_or-map-span}
use Rattle.plane_defs.specs.Written.{AreChosen, Shows, low_bits}
use Rattle.plane_defs.specs.Back.{IsBegun}
use Rattle.plane_defs.specs.States.{State}
use Rattle.plane_defs.specs.StageScripts.{Terms}
use Rattle.plane_defs.specs.PlaneScript.{bit_of_plane, number_with, block_with}
use Rattle.plane_defs.proofs.WordGoes.{both}
use Rattle.plane_defs.proofs.StageGoes.{no_clash}
use Rattle.plane_defs.proofs.NumberParts.{reach_same, signed_size, signed_negative}
use Rattle.plane_defs.proofs.NumbersLeft.{weight, IsPart, part_step, split_back, small_step, multiple_step, IsWhole, same_from, whole_step, above_same}
use Rattle.plane_defs.proofs.NumbersLeft.{bit_back, whole_lower, whole_size}
use Rattle.plane_defs.proofs.PlanesSent.{the_bit}
use Rattle.plane_defs.proofs.StageAnswers.{Fair}
use Rattle.plane_defs.proofs.BlockBack as back
use Rattle.plane_defs.proofs.BlockSent as sent

-- ---- truth values

below_of : (a c : ℕ) → nat_lt a c ≡ true → a < c
below_of a c e = grind (arith, nat_tests)

most_of : (a c : ℕ) → nat_le a c ≡ true → a ≤ c
most_of a c e = grind (arith, nat_tests)

module _ (t : Terms) (block : List ℤ) (depth : ℕ) (s : State) (fair : Fair t block depth s) (begun : IsBegun t.weights t.q (t.plane + 1) depth block) where
  abbrev W : List ℕ
  W = t.weights

  abbrev b : ℕ
  b = t.plane

  abbrev pub now : List ℤ
  now = block_with b block s

  -- the bits of AC numbers
  coded_ac : (p : ℕ) → 1 ≤ p → s.bits p ≡ true → (shift W p ≤ b) × (b < depth)
  coded_ac p low e =
      let f : (p == 0) ≡ false = grind (arith, nat_tests) in
      let w = both (coded W b p) (nat_lt b depth)
      (sym (ap (λ (x : Bool). if x then coded W b 0 && nat_lt b t.q else coded W b p && nat_lt b depth) f) ∙ fair.bits p e) in
      (most_of (shift W p) b (sym (coded-is W b p) ∙ w.0), below_of b depth w.1)

  coded_dc : s.bits 0 ≡ true → (shift W 0 ≤ b) × (b < t.q)
  coded_dc e = let w = both (coded W b 0) (nat_lt b t.q) (fair.bits 0 e) in (most_of (shift W 0) b (sym (coded-is W b 0) ∙ w.0), below_of b t.q w.1)

  abbrev sign : ℕ → Bool
  sign p = negative (get_or block p (pos 0)) || s.minus p

  size_now : (p : ℕ) → ℕ
  size_now p = magnitude block p + weight b (s.bits p)

  number : (p : ℕ) → IsAc p → get_or now p (pos 0) ≡ (if sign p then pos 0 -ℤ pos (size_now p) else pos (size_now p))
  unfolding size_now
  number p ac =
      let e : (p == 0) ≡ false = (let a : 1 ≤ p = ac.0 in grind (arith, nat_tests)) in
      get_or-map-span (number_with b block s) 64 p (pos 0) ac.1 ∙
      ap (λ (x : Bool). if x then get_or block 0 (pos 0) +ℤ pos (bit_of_plane b s 0) else if sign p then pos 0 -ℤ pos (magnitude block p + bit_of_plane b s p)
      else pos (magnitude block p + bit_of_plane b s p)) e

  magnitude_now : (p : ℕ) → IsAc p → magnitude now p ≡ magnitude block p + weight b (s.bits p)
  unfolding size_now
  magnitude_now p ac = ap unsigned_abs (number p ac) ∙ signed_size (sign p) (size_now p)

  negative_now : (p : ℕ) → IsAc p → negative (get_or now p (pos 0)) ≡ (sign p && nat_lt 0 (magnitude now p))
  negative_now p ac = grind (arith, nat_tests, number, signed_negative, size_now, signed_size)

  dc_now : get_or now 0 (pos 0) ≡ get_or block 0 (pos 0) +ℤ pos (weight b (s.bits 0))
  dc_now = get_or-map-span (number_with b block s) 64 0 (pos 0) (omega arith)

  -- the numbers of a block that is [] from a place on
  past_now : (p : ℕ) → 64 ≤ p → magnitude now p ≡ 0
  past_now p le = ap unsigned_abs (get_or_past now p (pos 0) (let e = length-map-span (number_with b block s) 64 in omega (arith, e, le)))

  -- the DC's bit, if it is sent
  dc_whole : (x : Bool) → s.bits 0 ≡ x → IsWhole (low_bits W t.q b) (get_or now 0 (pos 0))
  dc_whole true e =
      let w = coded_dc e in
      let up : low_bits W t.q (b + 1) ≡ b + 1 = omega (arith, w.0, w.1) in
      let down : low_bits W t.q b ≡ b = omega (arith, w.0, w.1) in
      let is = whole_step (get_or block 0 (pos 0)) b (s.bits 0) (subst (λ k. IsWhole k (get_or block 0 (pos 0))) up begun.dc) in
      subst (λ k. IsWhole k (get_or now 0 (pos 0))) (sym down) (subst (IsWhole b) (sym dc_now) is)
  dc_whole false e =
      let less : low_bits W t.q b ≤ low_bits W t.q (b + 1) = omega arith in
      whole_lower (get_or now 0 (pos 0)) (low_bits W t.q (b + 1)) (low_bits W t.q b) less (subst (IsWhole (low_bits W t.q (b + 1))) (sym kept) begun.dc)
    where
      no_more : (z : ℤ) → z +ℤ pos 0 ≡ z
      no_more z = grind (arith, nat_tests)

      kept : get_or now 0 (pos 0) ≡ get_or block 0 (pos 0)
      kept = dc_now ∙ ap (λ (x : Bool). get_or block 0 (pos 0) +ℤ pos (weight b x)) e ∙ no_more (get_or block 0 (pos 0))

  part_now : (p : ℕ) → (k : ℕ) × (magnitude now p ≡ 2 ^ shift W p * k)
  part_now zero =
      let w = dc_whole (s.bits 0) refl in
      let v = whole_lower (get_or now 0 (pos 0)) (low_bits W t.q b) (shift W 0) (omega arith) w in
      (unsigned_abs v.0, whole_size (get_or now 0 (pos 0)) (shift W 0) v)
  part_now (suc p) = elim (cases_lt (suc p) 64) [
    | inl lt ↦
        let w = multiple_step b (shift W (suc p)) (begun.multiples.part (suc p)) (magnitude block (suc p)) (s.bits (suc p)) (begun.multiples.whole (suc p))
        (λ e. (coded_ac (suc p) (omega arith) e).0) in
        (w.0, magnitude_now (suc p) (omega arith, lt) ∙ w.1)
    | inr ge ↦ (0, past_now (suc p) ge ∙ (let e : 0 ≡ 2 ^ shift W (suc p) * 0 = omega arith in e))
  ]

  pub begun_now : IsBegun W t.q b depth now
  begun_now = record {
    whole = length-map-span (number_with b block s) 64;
    multiples = record { part = λ p. (part_now p).0; whole = λ p. (part_now p).1 };
    acs = λ p ac. subst (IsPart b) (sym (magnitude_now p ac)) (part_step (magnitude block p) b (s.bits p) (begun.acs p ac));
    small = λ p low. elim (cases_lt p 64) [
      | inl lt ↦ subst (λ m. m < 2 ^ depth) (sym (magnitude_now p (low, lt)))
          (small_step (magnitude block p) b (s.bits p) (begun.acs p (low, lt)) depth (begun.small p low) (λ e. (coded_ac p low e).1))
      | inr ge ↦ subst (λ m. m < 2 ^ depth) (sym (past_now p ge)) (pow_pos depth)
    ];
    dc = dc_whole (s.bits 0) refl;
  }

  -- the bits of the DC above the plane stay
  pub dc_above : (z : ℤ) → ((c : ℕ) → low_bits W t.q b ≤ c → int_shr z c ≡ int_shr (get_or now 0 (pos 0)) c) → (c : ℕ) → low_bits W t.q (b + 1) ≤ c →
      int_shr z c ≡ int_shr (get_or block 0 (pos 0)) c
  dc_above z dc c le = dc c (omega (arith, le)) ∙ by (s.bits 0) refl
    where
      no_more : (z : ℤ) → z +ℤ pos 0 ≡ z
      no_more z = grind (arith, nat_tests)

      by : (x : Bool) → s.bits 0 ≡ x → int_shr (get_or now 0 (pos 0)) c ≡ int_shr (get_or block 0 (pos 0)) c
      by false e = ap (λ z. int_shr z c) (dc_now ∙ ap (λ (x : Bool). get_or block 0 (pos 0) +ℤ pos (weight b x)) e ∙ no_more (get_or block 0 (pos 0)))
      by true e =
          let w = coded_dc e in
          let up : low_bits W t.q (b + 1) ≡ b + 1 = omega (arith, w.0, w.1) in
          same_from (get_or now 0 (pos 0)) (get_or block 0 (pos 0)) (b + 1) c
          (ap (λ z. int_shr z (b + 1)) dc_now ∙ above_same (get_or block 0 (pos 0)) b (s.bits 0)
          (subst (λ k. IsWhole k (get_or block 0 (pos 0))) up begun.dc)) (omega (arith, le, up))

  -- ---- the values at the end

  module _ (v : List ℤ) (shows : Shows b now v) where
    split : (p : ℕ) → IsAc p → (magnitude block p ≡ magnitude v p / 2 ^ (b + 1) * 2 ^ (b + 1)) × (s.bits p ≡ bit (magnitude v p) b)
    split p ac = split_back (magnitude block p) b (s.bits p) (begun.acs p ac) (magnitude v p) (sym (magnitude_now p ac) ∙ (shows p ac).0)

    -- a number has a sign above exactly if it is significant there
    some_above : (p : ℕ) → IsAc p → nat_lt 0 (magnitude block p) ≡ significant v (b + 1) p
    some_above p ac =
        ap (nat_lt 0) (split p ac).0 ∙ some (magnitude v p / 2 ^ (b + 1)) (2 ^ (b + 1)) (pow_pos (b + 1)) ∙
        reach_same (2 ^ (b + 1)) (magnitude v p) (pow_pos (b + 1)) ∙ sym (significant-is v (b + 1) p)
      where
        some : (q k : ℕ) → 0 < k → nat_lt 0 (q * k) ≡ nat_le k (q * k)
        some zero k lt = let z : zero * k ≡ 0 = omega arith in grind (arith, nat_tests)
        some (suc q) k lt = let f : k ≤ suc q * k = omega arith in grind (arith, nat_tests)

    old_sign : (p : ℕ) → s.minus p ≡ true → significant block (b + 1) p ≡ false
    old_sign p e = grind (arith, nat_tests, type_due-is)

    significant_above : (p : ℕ) → IsAc p → significant block (b + 1) p ≡ significant v (b + 1) p
    significant_above p ac = grind (arith, nat_tests, significant-is, split, reach_same, pow_pos)

    reaches : (p : ℕ) → significant v (b + 1) p ≡ true → significant v b p ≡ true
    reaches p e = grind (arith, nat_tests, significant-is, pow_mono)

    sign_above : (p : ℕ) → IsAc p → negative (get_or block p (pos 0)) ≡ (significant v (b + 1) p && negative (get_or v p (pos 0)))
    sign_above p ac = by (significant v (b + 1) p) refl
      where
        none : (z : ℤ) → nat_lt 0 (unsigned_abs z) ≡ false → negative z ≡ false
        none z e = grind (arith, nat_tests)

        more : (a x : ℕ) → nat_lt 0 a ≡ true → nat_lt 0 (a + x) ≡ true
        more a x e = grind (arith, nat_tests)

        no_sign : (x : Bool) → (x ≡ true → ⊥) → x ≡ false
        no_sign x h1 = grind (arith, nat_tests)

        by : (x : Bool) → significant v (b + 1) p ≡ x → negative (get_or block p (pos 0)) ≡ (x && negative (get_or v p (pos 0)))
        by false e = none (get_or block p (pos 0)) (some_above p ac ∙ e)
        by true e =
            let some : nat_lt 0 (magnitude now p) ≡ true =
            ap (nat_lt 0) (magnitude_now p ac) ∙ more (magnitude block p) (weight b (s.bits p)) (some_above p ac ∙ e) in
            let not_minus : s.minus p ≡ false = no_sign (s.minus p) (λ f. no_clash (significant block (b + 1) p) (significant_above p ac ∙ e) (old_sign p f)) in
            let old = negative (get_or block p (pos 0)) in
            sym (negative_now p ac ∙ ap (λ x. sign p && x) some ∙ ap (λ x. (old || x) && true) not_minus ∙ and_true old) ∙ (shows p ac).1 ∙
            ap (λ x. x && negative (get_or v p (pos 0))) (reaches p e)
          where
            and_true : (x : Bool) → ((x || false) && true) ≡ x
            and_true x = grind (arith, nat_tests)

    pub above : Shows (b + 1) block v
    above p ac = ((split p ac).0, sign_above p ac)

    -- what the plane leaves is what the values have
    module _ (o : List ℕ) (chosen : AreChosen o) (is_sound : is_book_sound t.book ≡ true) (same : SameAc block v (b + 1)) (whole : IsMultiple v t.weights)
        (dc : (c : ℕ) → low_bits W t.q b ≤ c → int_shr (get_or v 0 (pos 0)) c ≡ int_shr (get_or now 0 (pos 0)) c) where
      abbrev newly : ℕ → Bool
      newly = newly_significant v W b

      new_sign : (p : ℕ) → IsAc p → s.minus p ≡ (newly p && negative (get_or v p (pos 0)))
      new_sign p ac = by (s.minus p) refl
        where
          is_new : newly p ≡ (type_due v W b p && significant v b p)
          is_new = newly_significant-is v W b p

          here : (x y : Bool) → (x && y) ≡ true → y ≡ true
          here x y h1 = grind (arith, nat_tests)

          some_here : (m : ℕ) → bit m b ≡ true → nat_le (2 ^ b) m ≡ true
          some_here m e = elim (cases_lt m (2 ^ b)) [
            | inl lt ↦ absurd (no_clash (bit m b) e (no_bit m lt))
            | inr ge ↦ grind (arith, nat_tests)
          ]
            where
              no_bit : (m : ℕ) → m < 2 ^ b → bit m b ≡ false
              no_bit m lt = let z : m / 2 ^ b ≡ 0 = div-eq_of_lt lt in ap (λ x. x % 2 == 1) z

          due_same : type_due block W b p ≡ type_due v W b p
          due_same = type_due-is block W b p ∙ ap (λ x. not x && coded W b p) (significant_above p ac) ∙ sym (type_due-is v W b p)

          some_now : significant v b p ≡ true → nat_lt 0 (magnitude now p) ≡ true
          some_now e = grind (arith, nat_tests, pow_pos, reach_same, significant-is)

          by : (x : Bool) → s.minus p ≡ x → x ≡ (newly p && negative (get_or v p (pos 0)))
          by true e =
              let f = fair.minus p e in
              let is : significant v b p ≡ true = significant-is v b p ∙ some_here (magnitude v p) (sym (split p ac).1 ∙ f.1) in
              let n : newly p ≡ true = is_new ∙ ap (λ x. x && significant v b p) (sym due_same ∙ f.0) ∙ is in
              let signed : negative (get_or now p (pos 0)) ≡ true =
              negative_now p ac ∙ ap (λ x. (negative (get_or block p (pos 0)) || x) && nat_lt 0 (magnitude now p)) e ∙
              ap (λ x. (negative (get_or block p (pos 0)) || true) && x) (some_now is) ∙ or_true (negative (get_or block p (pos 0))) in
              let minus : negative (get_or v p (pos 0)) ≡ true = here (significant v b p) (negative (get_or v p (pos 0))) (sym (shows p ac).1 ∙ signed) in
              sym (ap (λ x. x && negative (get_or v p (pos 0))) n ∙ minus)
            where
              or_true : (x : Bool) → ((x || true) && true) ≡ true
              or_true x = grind (arith, nat_tests)
          by false e = by_new (newly p) refl
            where
              parts : (x y : Bool) → (x && y) ≡ true → (x ≡ true) × (y ≡ true)
              parts = both

              not_above : (a c : Bool) → (not a && c) ≡ true → a ≡ false
              not_above a c h1 = grind (arith, nat_tests)

              by_new : (x : Bool) → newly p ≡ x → false ≡ (x && negative (get_or v p (pos 0)))
              by_new false f = refl
              by_new true f =
                  let w = parts (type_due v W b p) (significant v b p) (sym is_new ∙ f) in
                  let old : significant v (b + 1) p ≡ false = not_above (significant v (b + 1) p) (coded W b p) (sym (type_due-is v W b p) ∙ w.0) in
                  let was : negative (get_or block p (pos 0)) ≡ false = sign_above p ac ∙ ap (λ x. x && negative (get_or v p (pos 0))) old in
                  let none : negative (get_or now p (pos 0)) ≡ false =
                  negative_now p ac ∙ ap (λ x. (x || s.minus p) && nat_lt 0 (magnitude now p)) was ∙ ap (λ x. x && nat_lt 0 (magnitude now p)) e in
                  sym none ∙ (shows p ac).1 ∙ ap (λ x. x && negative (get_or v p (pos 0))) w.1

      dc_bit : s.bits 0 ≡ sent.dc_bit o chosen t block v same whole
      dc_bit = by (coded W b 0) refl (nat_lt b t.q) refl
        where
          no_bit : (x : Bool) → (x ≡ true → ⊥) → x ≡ false
          no_bit x h1 = grind (arith, nat_tests)

          by : (x : Bool) → coded W b 0 ≡ x → (y : Bool) → nat_lt b t.q ≡ y → s.bits 0 ≡ ((x && y) && twos_bit (get_or v 0 (pos 0)) b)
          by false e y f = no_bit (s.bits 0) (λ g. no_clash (coded W b 0) (both (coded W b 0) (nat_lt b t.q) (fair.bits 0 g)).0 e)
          by true e false f = no_bit (s.bits 0) (λ g. no_clash (nat_lt b t.q) (both (coded W b 0) (nat_lt b t.q) (fair.bits 0 g)).1 f)
          by true e true f =
              let low : shift W 0 ≤ b = most_of (shift W 0) b (sym (coded-is W b 0) ∙ e) in
              let high : b < t.q = below_of b t.q f in
              let up : low_bits W t.q (b + 1) ≡ b + 1 = omega (arith, low, high) in
              let down : low_bits W t.q b ≤ b = omega (arith, low, high) in
              sym (bit_back (get_or block 0 (pos 0)) b (s.bits 0) (subst (λ k. IsWhole k (get_or block 0 (pos 0))) up begun.dc) (get_or v 0 (pos 0))
              (dc b down ∙ ap (λ z. int_shr z b) dc_now))

      pub final : back.Final o chosen t is_sound block v same whole depth s
      final = record { bits = λ p ac. (split p ac).1 ∙ sym (the_bit v W b whole p); minus = new_sign; low = dc_bit }
