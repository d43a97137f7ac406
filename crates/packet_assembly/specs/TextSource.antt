-- An open segment's text as a source of octets. This project's own.
use Rattle.std.proofs.Common.{◌≡◌, refl, ◌∙◌}
use Rattle.std.specs.Prelude.{ℕ, if◌then◌else◌, List, [], is_some}
use Rattle.bit_pipe.specs.Sources.{SourceOf}
use Rattle.port_122.specs.Outside.{Outside}
use Rattle.packet_assembly.specs.declared.text.SegmentText.{SegmentText}
use Rattle.packet_assembly.specs.Assembling.{Assembling}
use Rattle.packet_assembly.specs.Segments.{Continues}
use Rattle.packet_assembly.specs.Passing.{goes_nowhere, goes_both}
use Rattle.packet_assembly.specs.Tails.{known_tail}

-- some calls continued within the text, by the same assembly and port
pub record Went {X : Type 0} (outside : X → Outside) (s t : SegmentText X) : Type 0 where
  pub assembly : t.assembly.ghost_name ≡ s.assembly.ghost_name
  pub port : t.port.ghost_name ≡ s.port.ghost_name
  pub goes : Continues (outside s.port.now) (outside t.port.now) s.assembly.now t.assembly.now

pub went_nowhere : {X : Type 0} (outside : X → Outside) (s : SegmentText X) → Went outside s s
went_nowhere outside s = record { assembly = refl; port = refl; goes = goes_nowhere (outside s.port.now) s.assembly.now }

pub went_both : {X : Type 0} (outside : X → Outside) (s t u : SegmentText X) → Went outside s t → Went outside t u → Went outside s u
went_both outside s t u p q = record { assembly = q.assembly ∙ p.assembly; port = q.port ∙ p.port; goes = goes_both p.goes q.goes }

-- the octets of the text that were read and not given yet; none if another segment was begun
abbrev pub text_ready : Assembling → List ℕ
text_ready a = if is_some a.held then [] else a.text

-- Its octets are known if the port reports what is left to be read, and it counts the port's faults of reading.
abbrev pub segment_source : {X : Type 0} → (X → Outside) → SourceOf (SegmentText X)
segment_source outside = record {
  tail = λ s. known_tail (outside s.port.now) s.assembly.now;
  buffer = λ s. text_ready s.assembly.now;
  faults = λ s. (outside s.port.now).read_faults;
  Went = Went outside;
  went_none = went_nowhere outside;
  went_both = went_both outside;
}
