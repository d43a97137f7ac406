-- An octet of a text that is given.
use Rattle.std.proofs.Common.{◌≡◌, ◌<◌, ◌+◌, ℕ, List, [], ◌∷◌, length, drop, get_or, arith, length-drop, drop-cons, true, Option, None, Some, Ok, option_map}
use Rattle.std.proofs.lemmas.Bool.Decides.{nat_tests}
use Rattle.bit_pipe.specs.Sources.{Arrives}
use Rattle.port_122.specs.Outside.{Outside}
use Rattle.packet_assembly.specs.Assembling.{Assembling}
use Rattle.packet_assembly.specs.Segments.{Continues}
use Rattle.packet_assembly.specs.Tails.{text_tail}
use Rattle.packet_assembly.specs.Texts.{FillsText, TakesOctet}
use Rattle.packet_assembly.proofs.TailSteps.{unheld_tail, arrives_then}
use Rattle.packet_assembly.proofs.OneStep.{passes_as}

-- one octet less waits
abbrev with_octet : ℕ → Assembling → Assembling
with_octet octet b = record b { text = octet ∷ b.text }

tails_differ : (b : Assembling) (octet : ℕ) (o : Option (List ℕ)) → b.held ≡ None →
    Arrives (option_map (text_tail (with_octet octet b)) o) (option_map (text_tail b) o) (octet ∷ [])
tails_differ b octet o unheld = grind (arith, nat_tests, unheld_tail)

goes_less : {old new : Outside} {a b : Assembling} (octet : ℕ) → b.held ≡ None → Continues old new a (with_octet octet b) → Continues old new a b
goes_less {b = b} octet unheld g = grind (arith, nat_tests, passes_as)

pub gives_octet : {old new : Outside} {a b c : Assembling} (octet : ℕ) → FillsText old new a b (Ok true) → b ≡ with_octet octet c → octet < 256 →
    TakesOctet old new a c (Ok (Some octet))
gives_octet {old = old} {new = new} {a = a} {b = b} {c = c} octet filled is small = grind (arith, nat_tests, goes_less, arrives_then, tails_differ)

-- the octet that waits first
pub waits_first : (text : List ℕ) (next : ℕ) → 0 < length (drop next text) → drop next text ≡ get_or text next 0 ∷ drop (next + 1) text
waits_first text next some = grind (arith, nat_tests, length-drop, drop-cons)
