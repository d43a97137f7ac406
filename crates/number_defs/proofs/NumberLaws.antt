-- The laws of numbers by differences, together.
use Rattle.std.proofs.Common.{◌≡◌, ℕ, ◌≤◌, ◌<◌, ◌^◌, List, [], length, subst, sym, ap, ◌∙◌, get_or, true}
use Rattle.item_defs.specs.Items.{Item}
use Rattle.number_defs.specs.Gaggles.{Kind, is_option, gaggle_count, number_items}
use Rattle.item_defs.specs.Following.{Follows}
use Rattle.item_defs.specs.Completing.{ArePossible, Goes}
use Rattle.item_defs.proofs.Completing.{goes_weaker, goes_end, ends_of_goes, ends_both}
use Rattle.number_defs.specs.NumberScript.{numbers_script}
use Rattle.number_defs.specs.ScriptLaws.{AreCounted, NumberLaws}
use Rattle.number_defs.proofs.NumberGoes.{Grew, numbers_go}
use Rattle.number_defs.proofs.NumberWritten.{numbers_written}
use Rattle.number_defs.proofs.NumberBack.{numbers_back}
use Rattle.number_defs.proofs.NumberEnds.{Low, numbers_low}

pub counted : (bound count : ℕ) (xs : List ℕ) → Grew bound [] count xs → AreCounted bound count xs
counted bound count xs p = record { long = ap length p.is ∙ p.long; few = λ i. subst (λ l. get_or l i 0 < bound) (sym p.is) (p.few i) }

pub numbers_counted : (kind : Kind) (count : ℕ) → Goes (numbers_script kind count) (AreCounted (2 ^ kind.bits) count)
numbers_counted kind count =
    goes_weaker (Grew (2 ^ kind.bits) [] count) (AreCounted (2 ^ kind.bits) count) (counted (2 ^ kind.bits) count) (numbers_script kind count)
    (numbers_go kind count)

pub written_counted : (kind : Kind) (count : ℕ) (hs : List ℕ) (o : ℕ → ℕ) → AreCounted (2 ^ kind.bits) count hs →
    Follows (numbers_script kind count) (number_items kind hs o) hs
written_counted kind count hs o are = subst (λ n. Follows (numbers_script kind n) (number_items kind hs o) hs) are.long (numbers_written kind hs are.few o)

pub back_counted : (kind : Kind) (count : ℕ) (items : List Item) (hs : List ℕ) → 1 ≤ kind.bits → kind.bits ≤ 10 → ArePossible items →
    Follows (numbers_script kind count) items hs →
    (o : ℕ → ℕ) × ((g : ℕ) → g < gaggle_count count → is_option kind.bits (o g) ≡ true) × (items ≡ number_items kind hs o)
back_counted kind count items hs some high are f =
    let c = goes_end (AreCounted (2 ^ kind.bits) count) (numbers_script kind count) (numbers_counted kind count) items hs are f in
    let w = numbers_back kind some high hs c.few items are (subst (λ n. Follows (numbers_script kind n) items hs) (sym c.long) f) in
    (w.0, λ g lt. w.1 g (subst (λ n. g < gaggle_count n) (sym c.long) lt), w.2)

pub number_laws : NumberLaws
number_laws = record {
  goes = numbers_counted;
  written = written_counted;
  back = back_counted;
  ends = λ kind count. ends_both (AreCounted (2 ^ kind.bits) count) (Low kind) (numbers_script kind count)
      (ends_of_goes (AreCounted (2 ^ kind.bits) count) (numbers_script kind count) (numbers_counted kind count)) (numbers_low kind count);
}
