-- What the states of blocks keep, and the result of a store of something else of a gaggle.
use Rattle.std.proofs.Common.{◌≡◌, ◌≢◌, ◌⊎◌, inl, inr, ℕ, ◌*◌, ◌<◌, ℤ, pos, List, length, refl, ap, sym, ◌∙◌, subst, arith, get_or, set, get_or-set_same}
use Rattle.std.proofs.Common.{get_or-set_other}
use Rattle.std.proofs.Math.ListN.{length-set, get_or-map}
use Rattle.std.proofs.Math.Seq.{map-set_same}
use Rattle.std.proofs.lemmas.List.{length-map}
use Rattle.std.proofs.lemmas.Bool.Decides.{nat_tests}
use Rattle.plane_defs.specs.Marks.{depth_of, depths_of}
use Rattle.block_masks.specs.declared.gaggle.Gaggle.{Gaggle}
use Rattle.block_masks.specs.Gaggles.{AreOptions, AreKnown, SameMarks, first_mark, options_in, sent_in, families_in, options_at}
use Rattle.block_masks.specs.Stored.{Stores}

pub depth_there : (marks : List ℤ) (r : ℕ) → get_or (depths_of marks) r 0 ≡ depth_of (get_or marks r (pos 0))
unfolding depths_of
depth_there marks r = get_or-map depth_of marks r (pos 0)

pub length-depths_of : (marks : List ℤ) → length (depths_of marks) ≡ length marks
unfolding depths_of
length-depths_of marks = simp length-map

pub same_or_other : (h g : ℕ) → (h ≡ g) ⊎ (h ≢ g)
same_or_other h g = grind arith

-- a part of a state stays at each place if the state that is stored there has the same part
kept_set : {A : Type 0} (f : ℤ → A) (marks : List ℤ) (r : ℕ) (mark : ℤ) → r < length marks → f mark ≡ f (get_or marks r (pos 0)) →
    (h : ℕ) → f (get_or (set marks r mark) h (pos 0)) ≡ f (get_or marks h (pos 0))
kept_set f marks r mark within kept h = grind (arith, nat_tests, same_or_other, set, get_or-set_same, get_or-set_other)

pub stored : (marks : List ℤ) (g : ℕ) (mark : ℤ) (gaggle : Gaggle) → 16 * g < length marks → depth_of mark ≡ depth_of (first_mark marks g) →
    options_in mark ≡ gaggle.options → sent_in mark ≡ gaggle.sent → families_in mark ≡ families_in (first_mark marks g) →
    Stores marks (set marks (16 * g) mark) g gaggle
unfolding depths_of
stored marks g mark gaggle within depth options sent families =
    let here : first_mark (set marks (16 * g) mark) g ≡ mark = rw get_or-set_same refl in
    record {
      depths = map-set_same depth_of marks (16 * g) mark (pos 0) depth;
      families = kept_set families_in marks (16 * g) mark within families;
      whole = length-set marks (16 * g) mark;
      options = ap options_in here ∙ options;
      sent = ap sent_in here ∙ sent;
      others = λ h apart. let places : 16 * h ≢ 16 * g = far h g apart in rw get_or-set_other refl;
    }
  where
    far : (h g : ℕ) → h ≢ g → 16 * h ≢ 16 * g
    far h g apart = omega arith

pub same_marks : (marks : List ℤ) → SameMarks marks marks
same_marks marks = record { depths = refl; whole = refl; options = λ g. refl }

pub same_then : (m0 m1 m2 : List ℤ) → SameMarks m0 m1 → SameMarks m1 m2 → SameMarks m0 m2
same_then m0 m1 m2 p q = record { depths = q.depths ∙ p.depths; whole = q.whole ∙ p.whole; options = λ g. q.options g ∙ p.options g }

-- a gaggle is kept with the options that it had
pub same_stored : (m0 m1 m2 : List ℤ) (g : ℕ) (gaggle : Gaggle) → SameMarks m0 m1 → Stores m1 m2 g gaggle → gaggle.options ≡ options_at m1 g → SameMarks m0 m2
same_stored m0 m1 m2 g gaggle same put kept = record {
  depths = put.depths ∙ same.depths;
  whole = put.whole ∙ same.whole;
  options = λ h.
      elim (same_or_other h g) [
        | inl e ↦ ap (options_at m2) e ∙ put.options ∙ kept ∙ ap (options_at m1) (sym e) ∙ same.options h
        | inr apart ↦ ap options_in (put.others h apart) ∙ same.options h
      ];
}

pub known_same : (m0 m1 : List ℤ) → SameMarks m0 m1 → AreKnown m0 → AreKnown m1
known_same m0 m1 same known = record {
  at = λ g below. subst AreOptions (sym (same.options g)) (known.at g (omega (arith, same.whole)));
}
