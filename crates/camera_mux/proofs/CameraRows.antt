-- A camera's next row is read into its work, and taken.
use Rattle.std.proofs.lemmas.Bool.Decides.{nat_tests}
use Rattle.std.proofs.Common.{arith, ◌+◌, ℕ, ℤ, List, ◌++◌, sym, ap, ◌∙◌, Ok}
use Rattle.port_122.specs.Outside.{Outside}
use Rattle.base_122.specs.Ranges.{IsInRange}
use Rattle.base_122.specs.declared.setting.Setting.{Setting}
use Rattle.packet_defs.specs.Packets.{joined}
use Rattle.raster_rows.specs.RowReads.{RowRead}
use Rattle.stream_defs.specs.SettledImages.{leading_packets, settled_in}
use Rattle.strip_coder.specs.declared.work.Work.{Work}
use Rattle.strip_coder.specs.Plans.{tallest}
use Rattle.strip_coder.specs.Steps.{RowIs, TakesRow, BreaksAt}
use Rattle.strip_coder.proofs.RowTakes.{OnlyRow, row_follows_any}
use Rattle.strip_coder.proofs.RowArrives.{HoldsRow, row_values}
use Rattle.camera_mux.proofs.SettledThrough.{settled_through}
use Rattle.camera_mux.proofs.LeadingPackets.{cut_of_more}
use Rattle.camera_mux.specs.RowSteps.{HasRow, TakesOctets, TakesCameraRow, CutsCameraRow}

module _ (s : Setting) (k : ℕ) (p q r : Outside) (old mid : Work) {T : Type 0} (before after : List ℤ) (done : T)
    (read : RowRead s.depth s.signed s.width k p q before after (Ok done)) (only : OnlyRow old mid)
    (holds : HoldsRow s read.took mid.row.items) where
  octets : TakesOctets s p q read.took
  octets = record { since = read.since; whole = read.answer.0; in_range = read.answer.1 }

  row_is : (x : ℕ → ℕ → ℤ) → HasRow s x k read.took → RowIs s x k mid
  row_is x has = record { at = λ j lt. holds.at j lt ∙ has.at j lt }

  pub takes_row : (new : Work) → TakesRow s k q r mid new → TakesCameraRow s k p r old new
  takes_row new takes = grind (arith, nat_tests, octets, row_values, row_is, row_follows_any)

  pub cuts_row : (new : Work) → IsInRange s → BreaksAt s k q r mid new → CutsCameraRow s k p r old
  cuts_row new range breaks = record {
    between = q;
    got = read.took;
    octets = octets;
    rose = breaks.rose;
    cut = λ x f has.
        let broke = breaks.breaks x (row_follows_any s x old mid only f) (row_is x has) in
        let few = settled_through s range (k + 1) broke.index broke.inside broke.there in
        let part = cut_of_more s (tallest s) x broke.some (broke.index + 1) (settled_in s (tallest s) (k + 1)) few in
        record {
          gave = broke.gave;
          out = broke.out;
          some = part.0;
          prefix = ap (λ a. joined (leading_packets s (tallest s) x a.index) ++ broke.gave) (sym only.at) ∙ broke.prefix ∙ part.1;
        };
  }
