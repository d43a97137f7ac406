-- The packets of an image, segment after segment.
use Rattle.std.proofs.Common.{◌≡◌, ℕ, zero, suc, ◌+◌, ℤ, List, [], ◌++◌, sym, ap, ◌∙◌, arith, append_assoc, append-nil}
use Rattle.strip_coder.specs.Plans.{Job, whole}
use Rattle.packet_defs.specs.Packets.{joined}
use Rattle.stream_defs.specs.Output.{packets_of, segment_packets, reports_last}
use Rattle.packet_defs.proofs.Joins.{joined-append}
use Rattle.stream_defs.proofs.Outputs.{packets_of-more}
use Rattle.space_packets.specs.declared.stage.PacketiserState.TheVariants.{Idle}
use Rattle.space_packets.specs.Progress.{Progress}

-- two packetisers are the same if their fields are
pub same_progress : (packet texts texts' packets packets' octets octets' : ℕ) → texts ≡ texts' → packets ≡ packets' → octets ≡ octets' →
    (let a : Progress = record { packet = packet; stage = Idle; texts = texts; packets = packets; octets = octets; pending = [] } in a)
    ≡ record { packet = packet; stage = Idle; texts = texts'; packets = packets'; octets = octets'; pending = [] }
same_progress packet texts texts' packets packets' octets octets' e f g = cc

-- the octets of one segment more
pub octets-more : (s : Job) (all : List (List ℤ)) (n : ℕ) → joined (packets_of (reports_last s.setting) (whole s) all (n + 1))
    ≡ joined (packets_of (reports_last s.setting) (whole s) all n) ++ joined (segment_packets (reports_last s.setting) (whole s) all n)
octets-more s all n = ap joined (packets_of-more (reports_last s.setting) (whole s) all n) ∙ joined-append (packets_of (reports_last s.setting) (whole s) all n)
    (segment_packets (reports_last s.setting) (whole s) all n)

-- the octets of the first segments are a prefix of those of more
pub prefix_of : (s : Job) (all : List (List ℤ)) (n more : ℕ) →
    (rest : List ℕ) × (joined (packets_of (reports_last s.setting) (whole s) all (n + more)) ≡ joined
    (packets_of (reports_last s.setting) (whole s) all n) ++ rest)
prefix_of s all n zero = (
  [],
  let e : n + 0 ≡ n = omega arith in ap (λ k. joined (packets_of (reports_last s.setting) (whole s) all k)) e ∙
      sym (append-nil (joined (packets_of (reports_last s.setting) (whole s) all n))),
)
prefix_of s all n (suc more) =
    let before = prefix_of s all n more in
    let e : n + suc more ≡ (n + more) + 1 = omega arith in (
      before.0 ++ joined (segment_packets (reports_last s.setting) (whole s) all (n + more)),
      ap (λ k. joined (packets_of (reports_last s.setting) (whole s) all k)) e ∙ octets-more s all (n + more)
          ∙ ap (λ xs. xs ++ joined (segment_packets (reports_last s.setting) (whole s) all (n + more))) before.1
          ∙ append_assoc (joined (packets_of (reports_last s.setting) (whole s) all n)) before.0
          (joined (segment_packets (reports_last s.setting) (whole s) all (n + more))),
    )
