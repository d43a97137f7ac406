-- A first stage in which no block sends a bit.
use Rattle.std.proofs.Common.{◌≡◌, ℕ, zero, suc, add-one, ◌+◌, ◌*◌, ◌&&◌, nat_lt, false, List, [], ◌++◌, ap, sym, ◌∙◌, subst, append-nil, ℤ, arith, Ok}
use Rattle.std.proofs.Common.{flat_map}
use Rattle.std.proofs.lemmas.Bool.Decides.{nat_tests}
use Rattle.item_defs.specs.Items.{text}
use Rattle.bit_pipe.specs.Sinks.{SinkOf}
use Rattle.bit_pipe.specs.SinkState.{SinkState, IsOpen, Adds, Puts}
use Rattle.bit_pipe.proofs.Putting.{adds_start, puts_whole}
use Rattle.base_122.specs.declared.book.Book.{Book}
use Rattle.plane_defs.specs.declared.stages.Stage.TheVariants.{DcBits}
use Rattle.plane_defs.specs.Spans.{span}
use Rattle.plane_defs.specs.Sets.{coded}
use Rattle.plane_defs.specs.Planes.{Plane, gaggle_size, of_block, of_gaggle, before_stage, stage_items}
use Rattle.plane_defs.proofs.SpanLists.{flat_map-span-suc, flat_map-span-none}
use Rattle.block_masks.specs.Gaggles.{Agrees, AllAgree, sent_at}
use Rattle.plane_coder.proofs.Sending.{before_more}
use Rattle.plane_defs.proofs.Equations.{dc_entries, parents_entries, children_entries, grandchildren_entries, refinement_entries}

nothing : {A : Type 0} (f : ℕ → List A) (start n : ℕ) → ((i : ℕ) → f i ≡ []) → flat_map f (span start n) ≡ []
nothing f start zero each = flat_map-span-none f start
nothing f start (suc n) each =
    let step : flat_map f (span start (n + 1)) ≡ [] = flat_map-span-suc f start n ∙ ap (λ l. l ++ f (start + n)) (nothing f start n each) ∙ each (start + n) in
    subst (λ m. flat_map f (span start m) ≡ []) (add-one n) step

module _ (p : Plane) (none : (coded p.weights p.number 0 && nat_lt p.number p.q) ≡ false) where
  quiet_block : (r : ℕ) → of_block p DcBits r ≡ []
  quiet_block r = grind (arith, nat_tests, dc_entries, parents_entries, children_entries, grandchildren_entries, refinement_entries)

  quiet_gaggle : (g : ℕ) → of_gaggle p DcBits g ≡ []
  quiet_gaggle g = nothing (of_block p DcBits) (16 * g) (gaggle_size p g) quiet_block

  quiet_items : (book : Book) (options : ℕ → List ℕ) → stage_items book options p 0 ≡ []
  quiet_items book options = grind (arith, nat_tests, nothing, quiet_gaggle)

  pub quiet_puts : {S : Type 0} {k : SinkOf S} (book : Book) (options : ℕ → List ℕ) (j : ℕ) (s : SinkState S) → j ≡ 0 → IsOpen s →
      Puts {T = Unit {0}} k (Ok tt) s s (text (stage_items book options p j))
  quiet_puts {S} {k} book options j s is opened =
      subst (λ i. Puts {T = Unit {0}} k (Ok tt) s s (text (stage_items book options p i))) (sym is)
      (puts_whole (subst (λ l. Adds k s s (text l)) (sym (quiet_items book options)) (adds_start k s opened)))

  pub quiet_agree : (marks : List ℤ) (j : ℕ) → j ≡ 0 → AllAgree p j marks → AllAgree p (j + 1) marks
  quiet_agree marks j is agree =
      let first : AllAgree p 0 marks = subst (λ i. AllAgree p i marks) is agree in
      let second : AllAgree p 1 marks = record {
        at = λ g below.
            let same : before_stage p 0 g ≡ before_stage p 1 g = sym (append-nil (before_stage p 0 g)) ∙ ap (λ l. before_stage p 0 g ++ l)
            (sym (quiet_gaggle g)) ∙ before_more p 0 g in
            subst (Agrees (sent_at marks g)) same (first.at g below);
      } in
      subst (λ i. AllAgree p (i + 1) marks) (sym is) second
