-- The counts of an encoder.
use Rattle.std.proofs.Common.{◌≡◌, ℕ, ℤ, List, length, sym, ap, ◌∙◌, flat_map}
use Rattle.strip_coder.specs.Plans.{Job, IsPlan, whole}
use Rattle.stream_defs.specs.Output.{image_blocks, packets_of, segments_of, reports_last}
use Rattle.base_122.proofs.GeometryRanges.{in_range-sized}
use Rattle.stream_defs.proofs.ShareLaws.{total_kept}
use Rattle.stream_defs.proofs.Outputs.{length-packets_of}
use Rattle.space_packets.specs.Progress.{Progress}
use Rattle.strip_coder.specs.declared.encode.EncodeDone.{EncodeDone}
use Rattle.strip_coder.specs.Answers.{DoneFor}
use Rattle.strip_coder.specs.SegmentsOut.{progress_at}

-- what was counted
pub counted : (s : Job) → IsPlan s → (all : List (List ℤ)) (x : ℕ → ℕ → ℤ) (packets : Progress) (e : EncodeDone) → all ≡ image_blocks (whole s) x →
    packets ≡ progress_at s all (segments_of (whole s)) →
    e ≡ record { segments = segments_of (whole s); packets = packets.packets; octets = packets.octets } → DoneFor s.setting s.rows x e
counted s plan all x packets e same valid is = record {
  segments = ap (λ e. e.segments) is;
  packets = ap (λ e. e.packets) is ∙ ap (λ p. p.packets) valid ∙ sym (length-packets_of (reports_last s.setting) (whole s) all (segments_of (whole s)))
      ∙ ap (λ all. length (packets_of (reports_last s.setting) (whole s) all (segments_of (whole s)))) same;
  octets = ap (λ e. e.octets) is ∙ ap (λ p. p.octets) valid
      ∙ ap (λ all. length (flat_map (λ packet. packet) (packets_of (reports_last s.setting) (whole s) all (segments_of (whole s))))) same;
  total = total_kept (whole s) (image_blocks (whole s) x) (in_range-sized s.setting s.rows plan.in_range plan.height);
}
