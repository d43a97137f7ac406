-- The rows of a picture that are written, by the packets.
use Rattle.std.proofs.Common.{◌≡◌, ◌≢◌, ◌≤◌, ◌<◌, ◌+◌, ◌-◌, ◌*◌, ◌/◌, ◌∙◌, ℕ, List, refl, sym, ap, subst, inl, inr, arith, Some, if◌then◌else◌}
use Rattle.std.proofs.lemmas.Nat.{div_below}
use Rattle.base_122.specs.Ranges.{IsGeometryInRange, rows_range}
use Rattle.base_122.specs.Sizes.{block_count}
use Rattle.base_122.specs.declared.geometry.Geometry.{Geometry}
use Rattle.base_122.proofs.SizeBounds.{three-le-block_count}
use Rattle.packet_defs.specs.Streams.{whole_packets}
use Rattle.stream_defs.specs.Begun.{begun, begun_in, end_of, height}
use Rattle.stream_defs.specs.Fates.{fresh, kept, kept_in, geometry_in}
use Rattle.stream_defs.proofs.PlacedLaws.{is_open, blocks_open}
use Rattle.packet_assembly.proofs.Images.{end_few}
use Rattle.strip_decoder.proofs.Endings.{height_known}
use Rattle.strip122_c.proofs.ReadOut.{ReadsAll}

pub begun_is : (apid : ℕ) (octets : List ℕ) (g : Geometry) → geometry_in apid octets ≡ Some g → begun_in apid octets ≡ begun g (kept_in apid octets)
begun_is apid octets g is = rw is refl

-- octets that were read to the end reach as far as all
pub begun_same : (apid : ℕ) (took packets : List ℕ) (g : Geometry) → ReadsAll took packets → geometry_in apid took ≡ Some g →
    geometry_in apid packets ≡ Some g → begun_in apid took ≡ begun_in apid packets
begun_same apid took packets g same is all =
    begun_is apid took g is ∙ ap (λ packets. begun g (kept apid fresh packets)) same.whole ∙ sym (begun_is apid packets g all)

-- at most the rows that an image can have
pub written_few : (apid : ℕ) (octets : List ℕ) (g : Geometry) → IsGeometryInRange g → geometry_in apid octets ≡ Some g →
    height g (begun_in apid octets) ≤ rows_range.most
written_few apid octets g range is = elim range.rows [
  | inl unknown ↦
      let c = block_count g.width in
      let n = end_of (kept_in apid octets) in
      let some = three-le-block_count g.width range.width.0 in
      let more : (32768 + 1) * c ≡ 32768 * c + c = grind arith in
      let few = end_few apid (whole_packets octets) g is in
      let blocks = blocks_open g unknown in
      let low : n / c < 32768 + 1 = div_below n c (32768 + 1) (omega (arith, some)) (omega (arith, some, more, few, blocks)) in
      let here : begun_in apid octets ≡ n / c = begun_is apid octets g is in
      let rows : height g (begun_in apid octets) ≡ 8 * begun_in apid octets - 21 =
      ap (λ b. if b then 8 * begun_in apid octets - 21 else g.rows) (is_open g.rows unknown) in
      omega (arith, rows, here, low)
  | inr within ↦
      let known : g.rows ≢ 0 = λ none. (let least = within.0 in omega (arith, none, least)) in
      subst (λ n. n ≤ rows_range.most) (sym (height_known g (begun_in apid octets) known)) within.1
]
