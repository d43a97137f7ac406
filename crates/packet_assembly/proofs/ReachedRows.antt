-- Of a geometry only the height changes, and the rows that the kept heads reach don't fall.
use Rattle.std.proofs.Common.{◌≡◌, ◌⊎◌, ◌≤◌, ◌<◌, ℕ, List, [], ◌∷◌, ◌++◌, refl, ap, ◌∙◌, arith, ◌≢◌, Bool, true, false, Some}
use Rattle.std.proofs.lemmas.Bool.{false≢true, eqb-true}
use Rattle.std.proofs.lemmas.Bool.Decides.{nat_tests}
use Rattle.base_122.specs.Sizes.{block_count}
use Rattle.base_122.specs.Ranges.{IsWithin, rows_range}
use Rattle.base_122.specs.declared.geometry.Geometry.{Geometry}
use Rattle.stream_defs.specs.declared.fate.FateState.{FateState}
use Rattle.stream_defs.specs.Agreement.{blocks_of}
use Rattle.stream_defs.specs.Fates.{fresh, after, after_all, kept}
use Rattle.stream_defs.specs.Begun.{end_of, placed, rows_reached}
use Rattle.stream_defs.proofs.ChosenLaws.{after_all-append}
use Rattle.stream_defs.proofs.PlacedLaws.{is_open, blocks_known, within_not, reached_known, reached_rises, reached_few}
use Rattle.packet_assembly.specs.Assembling.{is_first}
use Rattle.packet_assembly.proofs.Begun.{Leaves, HasBegun, IsLeft, first_leaves}
use Rattle.packet_assembly.proofs.Ends.{end_from, starts_with, one_left, all_left}
use Rattle.packet_assembly.proofs.Images.{leaves_at, geometry_none, geometry_known, end_more}

-- of the geometry only the height changes
one_more : (apid : ℕ) (s : FateState) (n : ℕ) (x : List ℕ) (g : Geometry) → IsLeft s n → s.geometry ≡ Some g →
    (h : Geometry) × ((after apid s x).geometry ≡ Some h) × (h ≡ record g { rows = h.rows })
one_more apid s n x g left is = by (is_first apid s x) refl
  where
    by : (b : Bool) → is_first apid s x ≡ b → (h : Geometry) × ((after apid s x).geometry ≡ Some h) × (h ≡ record g { rows = h.rows })
    by false e = (g, geometry_none apid s (x ∷ []) (e, tt) ∙ is, refl)
    by true e =
        let some = starts_with apid s x e in
        let f = first_leaves apid s x n some.0 left some.1 in
        (f.g, f.geometry, f.begun.same g is)

more_on : (apid : ℕ) (s : FateState) (n : ℕ) (packets : List (List ℕ)) (g : Geometry) → IsLeft s n → s.geometry ≡ Some g →
    (h : Geometry) × ((after_all apid s packets).geometry ≡ Some h) × (h ≡ record g { rows = h.rows })
more_on apid s n [] g left is = (g, is, refl)
more_on apid s n (x ∷ xs) g left is =
    let one = one_more apid s n x g left is in
    let rest = more_on apid (after apid s x) (end_from n (kept apid s (x ∷ []))) xs one.0 (one_left apid s x n left) one.1 in
    (rest.0, rest.1, rest.2 ∙ ap (λ (k : Geometry). record k { rows = (rest.0).rows }) one.2)

pub geometry_more : (apid : ℕ) (before packets : List (List ℕ)) (g : Geometry) → (after_all apid fresh before).geometry ≡ Some g →
    (h : Geometry) × ((after_all apid (after_all apid fresh before) packets).geometry ≡ Some h) × (h ≡ record g { rows = h.rows })
geometry_more apid before packets g = more_on apid (after_all apid fresh before) (end_of (kept apid fresh before)) packets g (all_left apid before)

-- ---- rows

reached_by : (g h : Geometry) (m n : ℕ) → h ≡ record g { rows = h.rows } → 0 < block_count g.width → m ≤ n → n ≤ blocks_of (placed h) →
    (h.rows ≡ 0) ⊎ IsWithin rows_range h.rows →
    (g.rows ≢ 0 → h ≡ g) → rows_reached g m ≤ rows_reached h n
reached_by g h m n sized some le few height stays =
    grind (arith, nat_tests, reached_rises, within_not, blocks_known, reached_few, reached_known, eqb-true, false≢true, is_open)

-- the rows that the kept heads reach don't fall
pub reached_more : (apid : ℕ) (before packets : List (List ℕ)) (g h : Geometry) → (after_all apid fresh before).geometry ≡ Some g →
    (after_all apid fresh (before ++ packets)).geometry ≡ Some h →
    rows_reached g (end_of (kept apid fresh before)) ≤ rows_reached h (end_of (kept apid fresh (before ++ packets)))
reached_more apid before packets g h first last = by (geometry_more apid before packets g first)
  where
    joined : after_all apid fresh (before ++ packets) ≡ after_all apid (after_all apid fresh before) packets
    joined = after_all-append apid fresh before packets

    leaves : (begun : HasBegun (after_all apid fresh (before ++ packets)) (end_of (kept apid fresh (before ++ packets)))) →
        Leaves h (after_all apid fresh (before ++ packets)).reported_last begun.l.index (end_of (kept apid fresh (before ++ packets)))
    leaves begun = leaves_at (after_all apid fresh (before ++ packets)) (end_of (kept apid fresh (before ++ packets))) h begun.l
        (all_left apid (before ++ packets)) last begun.last

    by : (k : Geometry) × ((after_all apid (after_all apid fresh before) packets).geometry ≡ Some k) × (k ≡ record g { rows = k.rows }) →
        rows_reached g (end_of (kept apid fresh before)) ≤ rows_reached h (end_of (kept apid fresh (before ++ packets)))
    by there = grind (arith, nat_tests, all_left, leaves, joined, end_more, reached_by, geometry_known)
