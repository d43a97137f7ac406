-- What is put of a plane is that plane of the coded text.
use Rattle.std.proofs.Common.{◌≡◌, ◌<◌, ◌≤◌, ℕ, zero, suc, ◌+◌, ◌++◌, append-nil, zero-add, ℤ, List, [], ap, sym, subst, ◌∙◌, arith, Result, Ok}
use Rattle.std.proofs.lemmas.Bool.Decides.{nat_tests}
use Rattle.item_defs.specs.Items.{text}
use Rattle.bit_pipe.specs.Sinks.{SinkOf}
use Rattle.bit_pipe.specs.SinkState.{SinkState, IsOpen, Adds, Puts}
use Rattle.bit_pipe.specs.declared.fault.PutFault.{PutFault}
use Rattle.bit_pipe.proofs.Putting.{adds_start, puts_whole}
use Rattle.wave_defs.specs.Held.{blocks_in}
use Rattle.base_122.specs.declared.book.Book.{Book}
use Rattle.plane_defs.specs.Planes.{Plane, plane_items, chosen}
use Rattle.plane_defs.specs.Reading.{plane_reading}
use Rattle.plane_defs.proofs.SpanLists.{flat_map-span-none, flat_map-span-suc}
use Rattle.plane_defs.proofs.ReadingTexts.{plane_text}
use Rattle.block_masks.specs.declared.plan.PlanePlan.{PlanePlan}
use Rattle.plane_coder.specs.Sends.{chosen_items}
use Rattle.plane_coder.specs.Views.{plane_of}
use Rattle.segment_defs.specs.declared.head.SegmentHead.{SegmentHead}
use Rattle.segment_defs.specs.Depths.{block_depths}
use Rattle.segment_defs.specs.SegmentItems.{q_of, plane_at, stages_sent, nth_plane}
use Rattle.segment_code.specs.CodedParts.{coded_plane, coded_planes}

-- the plane that a call is given
known_plane : (h : SegmentHead) (cells : List ℤ) (depths : List ℕ) (plan : PlanePlan) (n : ℕ) → depths ≡ block_depths (blocks_in cells) →
    plan.plane ≡ nth_plane h n → plan.q ≡ q_of h → plan.weights ≡ h.image.weights →
    plane_of cells depths plan ≡ plane_at h (blocks_in cells) (block_depths (blocks_in cells)) (nth_plane h n)
known_plane h cells depths plan n same number low weights = grind (arith, nat_tests)

plane_sent : (book : Book) (p : Plane) (last stages : ℕ) → last + 1 ≡ stages →
    text (chosen_items book p last) ≡ text (plane_reading book (chosen book p) p stages)
plane_sent book p last stages e = ap (λ s. text (plane_items book (chosen book p) p s)) e ∙ sym (plane_text book (chosen book p) p stages)

module _ {S : Type 0} {k : SinkOf S} {r : Result (Unit {0}) PutFault} {s t : SinkState S} where
  pub plane_put : (book : Book) (h : SegmentHead) (cells : List ℤ) (depths : List ℕ) (plan : PlanePlan) (n : ℕ) → depths ≡ block_depths (blocks_in cells) →
      plan.plane ≡ nth_plane h n → plan.q ≡ q_of h → plan.weights ≡ h.image.weights → plan.last + 1 ≡ stages_sent h (nth_plane h n) →
      Puts k r s t (text (chosen_items book (plane_of cells depths plan) plan.last)) → Puts k r s t (text (coded_plane book h (blocks_in cells) n))
  plane_put book h cells depths plan n same number low weights last p =
      let plane = known_plane h cells depths plan n same number low weights in
      subst (λ bits. Puts k r s t bits) (
      ap (λ q. text (chosen_items book q plan.last)) plane
      ∙ plane_sent book (plane_at h (blocks_in cells) (block_depths (blocks_in cells)) (nth_plane h n)) plan.last (stages_sent h (nth_plane h n)) last
      ) p

-- ---- planes below the stop

no_stage : (h : SegmentHead) (b : ℕ) → b < h.stop.plane → stages_sent h b ≡ 0
no_stage h b lt = grind (arith, nat_tests)

none_sent : (book : Book) (h : SegmentHead) (blocks : List (List ℤ)) (n : ℕ) → nth_plane h n < h.stop.plane → coded_plane book h blocks n ≡ []
none_sent book h blocks n lt =
    let b = nth_plane h n in
    let p = plane_at h blocks (block_depths blocks) b in
    ap (λ m. plane_reading book (chosen book p) p m) (no_stage h b lt) ∙ flat_map-span-none _ 0

-- the planes up to the stop are all that is sent
pub planes_ended : (book : Book) (h : SegmentHead) (blocks : List (List ℤ)) (sent more : ℕ) → h.depth_ac ≤ sent + h.stop.plane → sent + more ≤ h.depth_ac →
    coded_planes book h blocks (sent + more) ≡ coded_planes book h blocks sent
planes_ended book h blocks sent zero all within = let same : sent + 0 ≡ sent = omega arith in ap (coded_planes book h blocks) same
planes_ended book h blocks sent (suc more) all within =
    let next : sent + suc more ≡ (sent + more) + 1 = omega arith in
    let nothing : coded_plane book h blocks (0 + (sent + more)) ≡ [] = none_sent book h blocks (0 + (sent + more)) (omega (arith, all, within)) in
    ap (coded_planes book h blocks) next ∙ flat_map-span-suc (coded_plane book h blocks) 0 (sent + more)
    ∙ ap (λ l. coded_planes book h blocks (sent + more) ++ l) nothing
    ∙ append-nil (coded_planes book h blocks (sent + more)) ∙ planes_ended book h blocks sent more all (omega (arith, within))

pub no_planes : {S : Type 0} (k : SinkOf S) (s : SinkState S) (book : Book) (h : SegmentHead) (blocks : List (List ℤ)) → IsOpen s → h.depth_ac ≤ h.stop.plane →
    Puts {T = Unit {0}} k (Ok tt) s s (text (coded_planes book h blocks h.depth_ac))
no_planes k s book h blocks opened none =
    let nothing : coded_planes book h blocks h.depth_ac ≡ [] =
    ap (coded_planes book h blocks) (sym (zero-add h.depth_ac)) ∙ planes_ended book h blocks 0 h.depth_ac (omega (arith, none)) (omega arith)
    ∙ flat_map-span-none (coded_plane book h blocks) 0 in
    puts_whole (subst (λ l. Adds k s s (text l)) (sym nothing) (adds_start k s opened))
