-- A block of a plane that was read up to some places is its values, cut there.
use Rattle.std.proofs.Common.{◌≡◌, ℕ, zero, suc, ◌+◌, ◌^◌, ◌≤◌, ◌<◌, ◌==◌, ◌&&◌, ◌||◌, nat_lt, Bool, true, false, if◌then◌else◌, List, map}
use Rattle.std.proofs.Common.{ap, sym, ◌∙◌, arith, ℤ, pos, ◌*ℤ◌}
use Rattle.std.specs.Prelude.{◌-ℤ◌, ◌+ℤ◌}
use Rattle.std.specs.Int.{int_shr}
use Rattle.std.proofs.lemmas.Bool.Decides.{nat_tests}
use Rattle.std.proofs.lemmas.List.{ext_get_or}
use lib.ListN.{get_or}
use Rattle.plane_defs.specs.declared.entries.Entry.{Entry}
use Rattle.plane_defs.specs.Spans.{span}
use Rattle.plane_defs.specs.Sets.{magnitude, significant}
use Rattle.plane_defs.specs.Entries.{negative}
use Rattle.plane_defs.specs.StepLaws.{IsAc, SameAc}
use Rattle.plane_defs.specs.Laws.{IsMultiple}
use Rattle.plane_defs.proofs.Equations.{type_due-is, newly_significant-is, refined-is}
use Rattle.plane_defs.proofs.Determined.{not_coded}
use Rattle.plane_defs.proofs.SpanLists.{length-map-span, get_or-map-span}
use Rattle.plane_defs.specs.Written.{AreChosen, Shows, low_bits, ShowsDc}
use Rattle.plane_defs.specs.Cuts.{Reach, after_stages, cut_size, cut_number, cut_dc, cut_block}
use Rattle.plane_defs.specs.States.{State}
use Rattle.plane_defs.specs.StageScripts.{Terms}
use Rattle.plane_defs.specs.PlaneScript.{bit_of_plane, number_with, block_with}
use Rattle.plane_defs.proofs.PlanesSent.{no_bit, new_bit, dc_next}
use Rattle.plane_defs.proofs.BlockSent as sent
use Rattle.plane_defs.proofs.BlockGives as gives

-- ---- truth values: significant above, coded, significant here, the bit, negative, and the places

pub map_same : {A : Type 0} (f g : ℕ → A) (d : A) (n : ℕ) → ((i : ℕ) → i < n → f i ≡ g i) → map f (span 0 n) ≡ map g (span 0 n)
map_same f g d n same =
    ext_get_or d (map f (span 0 n)) (map g (span 0 n)) (length-map-span f n ∙ sym (length-map-span g n))
    (λ i lt. let e = length-map-span f n in
    let small : i < n = omega (arith, lt, e) in get_or-map-span f n i d small ∙ same i small ∙ sym (get_or-map-span g n i d small))

module _ (o : List ℕ) (chosen : AreChosen o) (t : Terms) (block v : List ℤ) (same : SameAc block v (t.plane + 1)) (whole : IsMultiple v t.weights)
    (shows : Shows (t.plane + 1) block v) (shows_dc : ShowsDc (low_bits t.weights t.q (t.plane + 1)) block v) where
  abbrev W : List ℕ
  W = t.weights

  abbrev b : ℕ
  b = t.plane

  abbrev Partial : Bool → State → Type 0
  Partial = gives.Partial o chosen t block v same whole

  module _ (dc full : Bool) (s : State) (p : Partial full s) where
    abbrev reach : Reach
    reach = record { dc = dc; types = p.types; signs = p.signs; bits = p.fine }

    size : (q : ℕ) → IsAc q → magnitude block q + bit_of_plane b s q ≡ cut_size v b reach q
    size q ac = grind (arith, nat_tests, newly_significant-is, type_due-is, refined-is, no_bit, new_bit)

    sign : (q : ℕ) → IsAc q → (negative (get_or block q (pos 0)) || s.minus q) ≡
        ((significant v (b + 1) q || (nat_lt q p.signs && significant v b q)) && negative (get_or v q (pos 0)))
    sign q ac = grind (arith, nat_tests, newly_significant-is, type_due-is, not_coded)

    pub block_cut : get_or (block_with b block s) 0 (pos 0) ≡ cut_dc W t.q v b reach → block_with b block s ≡ cut_block W t.q v b reach
    block_cut dc_is =
        map_same (number_with b block s) (λ q. if q == 0 then cut_dc W t.q v b reach else cut_number v b reach q) (pos 0) 64 each
      where
        each : (q : ℕ) → q < 64 → number_with b block s q ≡ (if q == 0 then cut_dc W t.q v b reach else cut_number v b reach q)
        each zero lt = sym (get_or-map-span (number_with b block s) 64 0 (pos 0) lt) ∙ dc_is
        each (suc q) lt =
            let ac : IsAc (suc q) = (omega arith, lt) in
            let e : (suc q == 0) ≡ false = grind (arith, nat_tests) in
            let m = magnitude block (suc q) + bit_of_plane b s (suc q) in
            let x = negative (get_or block (suc q) (pos 0)) || s.minus (suc q) in
            ap (λ (y : Bool). if y then get_or block 0 (pos 0) +ℤ pos (bit_of_plane b s 0) else if x then pos 0 -ℤ pos m else pos m) e ∙
            (λ i. if sign (suc q) ac i then pos 0 -ℤ pos (size (suc q) ac i) else pos (size (suc q) ac i)) ∙
            ap (λ (y : Bool). if y then cut_dc W t.q v b reach else cut_number v b reach (suc q)) (sym e)

  -- the DC without its bit, and with it
  dc_out : (s : State) → s.bits 0 ≡ false → get_or (block_with b block s) 0 (pos 0) ≡
      int_shr (get_or v 0 (pos 0)) (low_bits W t.q (b + 1)) *ℤ pos (2 ^ low_bits W t.q (b + 1))
  dc_out s e = grind (arith, nat_tests, get_or-map-span)

  -- whether the DC's bit was read before a stage
  abbrev pub past_dc : ℕ → Bool
  past_dc zero = false
  past_dc (suc k) = true

  pub stage_cut : (k : ℕ) (s : State) → (p : Partial (sent.sent_dc o chosen t block v same whole k) s) →
      block_with b block s ≡ cut_block W t.q v b (record { dc = past_dc k; types = p.types; signs = p.signs; bits = p.fine })
  stage_cut zero s p = block_cut false false s p (dc_out s p.low)
  stage_cut (suc k) s p = block_cut true (sent.dc_bit o chosen t block v same whole) s p (dc_next W t.q b block v s shows_dc p.low)

  pub after_cut : (k : ℕ) → k ≤ 5 → (before : List Entry) (s : State) → sent.Before o chosen t block v same whole k before s →
      block_with b block s ≡ cut_block W t.q v b (after_stages k)
  after_cut zero le before s r = stage_cut 0 s (record { types = 1; signs = 1; fine = 1; bits = r.bits; minus = r.minus; low = r.low })
  after_cut (suc zero) le before s r = stage_cut 1 s (record { types = 1; signs = 1; fine = 1; bits = r.bits; minus = r.minus; low = r.low })
  after_cut (suc (suc zero)) le before s r = stage_cut 2 s (record { types = 4; signs = 4; fine = 1; bits = r.bits; minus = r.minus; low = r.low })
  after_cut (suc (suc (suc zero))) le before s r = stage_cut 3 s (record { types = 16; signs = 16; fine = 1; bits = r.bits; minus = r.minus; low = r.low })
  after_cut (suc (suc (suc (suc zero)))) le before s r =
      stage_cut 4 s (record { types = 64; signs = 64; fine = 1; bits = r.bits; minus = r.minus; low = r.low })
  after_cut (suc (suc (suc (suc (suc zero))))) le before s r =
      stage_cut 5 s (record { types = 64; signs = 64; fine = 64; bits = r.bits; minus = r.minus; low = r.low })
  after_cut (suc (suc (suc (suc (suc (suc k)))))) le before s r = absurd (omega (arith, le))
