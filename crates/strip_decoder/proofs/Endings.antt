-- The answer of a walk, by its end.
use Rattle.std.proofs.Common.{◌≡◌, ◌*◌, ℕ, List, [], refl, ap, inl, inr, arith, ◌-◌, length, subst, Bool, Result, false}
use Rattle.port_122.proofs.Stretches.{since_weaker}
use Rattle.port_122.specs.Outside.{Outside, Exchange}
use Rattle.base_122.specs.declared.geometry.Geometry.{Geometry}
use Rattle.base_122.specs.declared.wish.DecodeWish.{DecodeWish}
use Rattle.stream_defs.proofs.PlacedLaws.{is_open, is_not_open}
use Rattle.stream_defs.specs.Agreement.{blocks_of}
use Rattle.stream_defs.specs.Begun.{end_of, placed, begun_in, height}
use Rattle.stream_defs.specs.Fates.{kept_in}
use Rattle.packet_assembly.specs.Readings.{IsReadOut}
use Rattle.strip_decoder.specs.WalkAnswers.{PictureBy, AsksSilent, octets_of}
use Rattle.strip_decoder.specs.Runs.{Numbers, blocks_passed, IsPartOfSome}
use Rattle.strip_decoder.specs.Sinks.{SinkOf, blocks_with}
use Rattle.strip_decoder.specs.Walks.{Walks, IsWalked}
use Rattle.strip_decoder.specs.declared.ending.DecodeFault.{DecodeFault}
use Rattle.strip_decoder.specs.declared.engine.Walked.{Walked}

-- the rows and the blocks of an image, whose height isn't known or is
pub height_open : (g : Geometry) (n : ℕ) → g.rows ≡ 0 → height g n ≡ 8 * n - 21
height_open g n none = rw (is_open g.rows none) refl

pub height_known : (g : Geometry) (n : ℕ) → (g.rows ≡ 0 → ⊥) → height g n ≡ g.rows
height_known g n some = rw (is_not_open g.rows some) refl

pub passed_open : (g : Geometry) (ended : ℕ) → g.rows ≡ 0 → blocks_passed g ended ≡ ended
passed_open g ended none = rw (is_open g.rows none) refl

pub passed_known : (g : Geometry) (ended : ℕ) → (g.rows ≡ 0 → ⊥) → blocks_passed g ended ≡ blocks_of g
passed_known g ended some = rw (is_not_open g.rows some) refl

-- the same wish, for numbers as they are
abbrev pub as_they_are : DecodeWish → DecodeWish
as_they_are wish = record wish { restore = false }

-- The answer of a walk, which may restore numbers or not, is that of a decoder, if what is shown of the blocks is given; the octets may be
-- known later to be read out.
pub found_as : {S : Type 0} {k : SinkOf S} {old mid new : Outside} {took gave : List ℕ} {walked : Walked S} (gives : Bool) (wish : DecodeWish)
    (restore : Bool) (given : List ℕ) → IsWalked k (record wish { restore = restore }) old mid took gave walked → IsReadOut wish.octets new took →
    ((received : Numbers) → k.Follows walked.sink (placed walked.done.geometry) (blocks_with walked.done.geometry received)
    (blocks_passed walked.done.geometry (end_of (kept_in wish.apid took))) gave →
    given ≡ octets_of gives walked.done.geometry received (begun_in wish.apid took)) →
    PictureBy gives (record { book = wish.book; restore = restore }) wish old new took given walked.done
found_as gives wish restore given x out shows = record {
  geometry = x.geometry;
  range = x.range;
  few = x.few;
  framing_is = x.framing_is;
  out = out;
  written = x.written;
  rows = x.rows;
  if_known = λ all if_known. let t = x.if_known all if_known in (t.0, t.1, shows t.0 t.2, t.3);
}

-- nothing was given while it read, if the sink gives nothing
pub silent_since : {S : Type 0} {k : SinkOf S} (wish : DecodeWish) (old new : Outside) (r : Result (Walked S) DecodeFault) → (x : Walks k wish old new r) →
    (IsPartOfSome k x.gave → x.gave ≡ []) → Exchange old new x.took [] [] (AsksSilent wish x.took)
silent_since wish old new r x part =
    let none : x.gave ≡ [] = elim x.for_some [ inl none ↦ none | inr some ↦ part some ] in
    subst (λ zs. Exchange old new x.took zs [] (AsksSilent wish x.took)) none
    (since_weaker x.since (λ i j le asks. (omega (arith, asks.0, ap length none), asks.1)))
