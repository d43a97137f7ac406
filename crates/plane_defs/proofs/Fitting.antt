-- The words of a block have at most four bits.
use Rattle.std.proofs.Common.{ℕ, ◌≤◌, Bool, true, false, cond, List, [], ◌∷◌, ◌++◌, length, arith, ℤ, pos, get_or, map, filter, nat_lt, ◌&&◌}
use Rattle.std.specs.List.{AllByRecursion, flat_map}
use Rattle.item_defs.specs.Bits.{bit}
use Rattle.item_defs.proofs.NumberBits.{value_below}
use Rattle.plane_defs.specs.declared.sets.Set.{Set}
use Rattle.plane_defs.specs.declared.sets.Set.TheVariants.{Descendants, Family, Grandchildren, Quad}
use Rattle.plane_defs.specs.declared.stages.Stage.{Stage}
use Rattle.plane_defs.specs.declared.stages.Stage.TheVariants as stages
use Rattle.plane_defs.specs.declared.entries.Entry.{Entry}
use Rattle.plane_defs.specs.declared.entries.Entry.TheVariants.{Bit}
use Rattle.plane_defs.specs.Spans.{span}
use Rattle.plane_defs.specs.Sets.{magnitude, significant, set_significant, type_due, flag_due, newly_significant, refined, coded, children_of, quad_of}
use Rattle.plane_defs.specs.Entries.{IsEntry, word, types, flags, typed, negative, twos_bit, parents, children, quads, grandchildren, refinement}
use Rattle.plane_defs.specs.Entries.{significant_families, block_entries}
use Rattle.plane_defs.proofs.SpanLists.{length-chosen, length-map-filter}

abbrev pub Fit : List Entry → Type 0
Fit entries = AllByRecursion IsEntry entries

pub fit_both : (xs ys : List Entry) → Fit xs → Fit ys → Fit (xs ++ ys)
fit_both [] ys p q = q
fit_both (x ∷ xs) ys p q = (p.0, fit_both xs ys p.1 q)

fit_word : (bits : List Bool) → length bits ≤ 4 → IsEntry (word bits)
fit_word bits h = (h, value_below bits)

fit_bits : {X : Type 0} (f : X → Bool) (xs : List X) → Fit (map (λ x. Bit (f x)) xs)
fit_bits f [] = tt
fit_bits f (x ∷ xs) = (tt, fit_bits f xs)

pub fit_each : {X : Type 0} (f : X → List Entry) (xs : List X) → ((x : X) → Fit (f x)) → Fit (flat_map f xs)
fit_each f [] each = tt
fit_each f (x ∷ xs) each = fit_both (f x) (flat_map f xs) (each x) (fit_each f xs each)

module _ (block : List ℤ) (weights : List ℕ) (plane : ℕ) where
  fit_typed : (start count : ℕ) → count ≤ 4 → Fit (typed block weights plane (span start count))
  fit_typed start count few = (
    fit_word (types block weights plane (span start count)) (omega (arith, length-chosen (significant block plane) (type_due block weights plane) start count)),
    fit_bits (λ p. negative (get_or block p (pos 0))) (filter (newly_significant block weights plane) (span start count)),
  )

  fit_flags : (sets : List Set) → length sets ≤ 4 → IsEntry (word (flags block weights plane sets))
  fit_flags sets few = fit_word (flags block weights plane sets)
      (omega (arith, length-map-filter (set_significant block plane) (flag_due block weights plane) sets))

  fit_children : Fit (children block weights plane)
  fit_children =
      fit_both (map Bit (flags block weights plane (Descendants ∷ []))) _ (fit_bits (λ b. b) (flags block weights plane (Descendants ∷ []))) (
        fit_flags (Family 0 ∷ Family 1 ∷ Family 2 ∷ []) (omega arith),
        fit_each (λ i. typed block weights plane (span (children_of i) 4)) (significant_families block plane Family)
            (λ i. fit_typed (children_of i) 4 (omega arith)),
      )

  fit_quads : (i : ℕ) → Fit (quads block weights plane i)
  fit_quads i = (
    fit_flags (Quad i 0 ∷ Quad i 1 ∷ Quad i 2 ∷ Quad i 3 ∷ []) (omega arith),
    fit_each (λ j. typed block weights plane (span (quad_of i j) 4)) (filter (λ j. set_significant block plane (Quad i j)) (span 0 4))
        (λ j. fit_typed (quad_of i j) 4 (omega arith)),
  )

  fit_grandchildren : Fit (grandchildren block weights plane)
  fit_grandchildren = (
    fit_flags (Grandchildren 0 ∷ Grandchildren 1 ∷ Grandchildren 2 ∷ []) (omega arith),
    fit_each (quads block weights plane) (significant_families block plane Grandchildren) fit_quads,
  )

  fit_refinement : Fit (refinement block weights plane)
  fit_refinement = fit_bits (λ p. bit (magnitude block p) plane) (filter (refined block weights plane) (span 1 63))

fit_if : (b : Bool) (xs : List Entry) → Fit xs → Fit (cond b xs [])
fit_if true xs p = p
fit_if false xs p = tt

pub fit_block : (stage : Stage) (block : List ℤ) (d : ℕ) (weights : List ℕ) (plane q : ℕ) → Fit (block_entries stage block d weights plane q)
unfolding block_entries
fit_block stages.DcBits block d weights plane q =
    fit_if (coded weights plane 0 && nat_lt plane q) (Bit (twos_bit (get_or block 0 (pos 0)) plane) ∷ []) (tt, tt)
fit_block stages.Parents block d weights plane q = fit_if (nat_lt plane d) (parents block weights plane) (fit_typed block weights plane 1 3 (omega arith))
fit_block stages.Children block d weights plane q = fit_if (nat_lt plane d) (children block weights plane) (fit_children block weights plane)
fit_block stages.Grandchildren block d weights plane q = fit_if (nat_lt plane d) (grandchildren block weights plane) (fit_grandchildren block weights plane)
fit_block stages.Refinement block d weights plane q = fit_if (nat_lt plane d) (refinement block weights plane) (fit_refinement block weights plane)
