-- Octets of a text that were read and not given yet, passed at once.
use Rattle.std.proofs.Common.{◌≡◌, ℕ, ◌≤◌, List, [], length, take, drop, refl, sym, ap, ◌∙◌, arith, append_assoc, ◌++◌, Option, None, Some}
use Rattle.std.proofs.Common.{take-append-drop, option_map}
use Rattle.bit_pipe.specs.Sources.{Arrives}
use Rattle.port_122.specs.Outside.{Outside}
use Rattle.packet_assembly.specs.declared.note.SegmentStart.{SegmentStart}
use Rattle.packet_assembly.specs.Assembling.{Assembling}
use Rattle.packet_assembly.specs.Segments.{Continues}
use Rattle.packet_assembly.specs.Tails.{text_tail, tail_after}
use Rattle.packet_assembly.specs.TextSource.{text_ready}
use Rattle.packet_assembly.specs.Passing.{passes_none}
use Rattle.packet_assembly.proofs.OneStep.{passes_as}

-- the assembly without them
abbrev pub past : Assembling → ℕ → Assembling
past a count = record a { text = drop count a.text }

-- ---- what a source leaves that passes them

module _ (a : Assembling) (count : ℕ) (le : count ≤ length (text_ready a)) where
  none_where_held : (start : SegmentStart) → a.held ≡ Some start → count ≡ 0
  none_where_held start e = let none : count ≤ 0 = rw e at le in omega arith

  pub tails_past : (o : Option (List ℕ)) → Arrives (option_map (text_tail a) o) (option_map (text_tail (past a count)) o) (take count (text_ready a))
  tails_past None = tt
  tails_past (Some rest) = by a.held refl
    where
      by : (h : Option SegmentStart) → a.held ≡ h → Arrives (Some (text_tail a rest)) (Some (text_tail (past a count) rest)) (take count (text_ready a))
      by None e =
          let after = tail_after a rest in
          let parted : a.text ++ after.octets ≡ take count a.text ++ (drop count a.text ++ after.octets) =
          ap (λ xs. xs ++ after.octets) (sym (take-append-drop count a.text)) ∙ append_assoc (take count a.text) (drop count a.text) after.octets in
          rw e (parted, refl)
      by (Some start) e = rw (e, none_where_held start e) (refl, refl)

  pub goes_past : (now : Outside) → Continues now now a (past a count)
  goes_past now = record {
    passed = [];
    passes = passes_as (drop count a.text) a.held (passes_none now a);
    still = λ e. (e, refl);
    begins_none = λ e. tt;
    began = λ e start h. absurd (let no : None ≡ Some start = sym e ∙ h in cc);
    held_on = λ start h. (refl, h, ap (λ n. drop n a.text) (none_where_held start h));
  }
