-- A walk advances from segment to segment.
use Rattle.std.proofs.Common.{◌≡◌, ◌≤◌, ◌<◌, ◌+◌, ◌-◌, ◌*◌, ℕ, List, vec_len, refl, sym, ap, ◌∙◌, subst, arith, Bool, true, false}
use Rattle.std.proofs.lemmas.Bool.Decides.{nat_tests}
use Rattle.port_122.specs.Outside.{Outside}
use Rattle.base_122.specs.Sizes.{first_block, total_blocks}
use Rattle.base_122.specs.declared.wish.DecodeWish.{DecodeWish}
use Rattle.segment_defs.specs.declared.head.SegmentHead.{SegmentHead}
use Rattle.bare_text.specs.declared.parts.PartsInForce.{PartsInForce}
use Rattle.bare_text.specs.declared.read.BareHead.{BareHead}
use Rattle.bare_stream.specs.declared.walk.Walk.{Walk}
use Rattle.bare_stream.specs.Decoded.{IfKnown}
use Rattle.bare_stream.specs.Heads.{AgreesWith}
use Rattle.bare_stream.specs.Reads.{SegmentsRead}
use Rattle.bare_stream.specs.Walks.{IsSound, IsNext, IsHeadOf}
use Rattle.bare_stream.proofs.Agrees.{ends, goes_on}

-- ---- there is room for the next text

few_blocks : (first : SegmentHead) (index : ℕ) (head : SegmentHead) → AgreesWith first index head → head.blocks ≤ first.blocks
few_blocks first index head e = by head.last refl
  where
    by : (b : Bool) → head.last ≡ b → head.blocks ≤ first.blocks
    by true last = (ends first index head e last).few
    by false more = let same = (goes_on first index head e more).blocks in omega (arith, same)

pub blocks_fit : (w : Walk) (read : BareHead) → IsSound w → IsNext w read → 64 * read.head.blocks ≤ vec_len w.room.blocks
blocks_fit w read sound next = let few = few_blocks w.first w.index read.head next.agrees in let room = sound.room.blocks in omega (arith, few, room)

pub marks_fit : (w : Walk) (read : BareHead) → IsSound w → IsNext w read → read.head.blocks ≤ vec_len w.room.marks
marks_fit w read sound next = let few = few_blocks w.first w.index read.head next.agrees in let room = sound.room.marks in omega (arith, few, room)

-- ---- a text was read

module _ (w v : Walk) (same : v ≡ record w { room = v.room }) where
  pub text_sound : (vec_len v.room.blocks ≡ vec_len w.room.blocks) × (vec_len v.room.marks ≡ vec_len w.room.marks) → IsSound w → IsSound v
  text_sound sizes sound = subst (λ x. IsSound x) (sym same) (record {
    first = sound.first;
    ten = sound.ten;
    room = record { blocks = sizes.0 ∙ sound.room.blocks; marks = sizes.1 ∙ sound.room.marks };
    current = sound.current;
    geometry = sound.geometry;
    passed = sound.passed;
    left = sound.left;
  })

  pub text_next : (read : BareHead) → IsNext w read → IsNext v read
  text_next read next = subst (λ x. IsNext x read) (sym same) (record { fits = next.fits; size = next.size; agrees = next.agrees; few = next.few })

  pub text_fits : (0 < w.index → w.first.last ≡ false) → 0 < v.index → v.first.last ≡ false
  text_fits fits lt = ap (λ (x : Walk). x.first.last) same ∙ fits (let index = ap (λ (x : Walk). x.index) same in omega (arith, lt, index))

  pub text_head : (wish : DecodeWish) (start : Outside) (r : SegmentsRead) (before : PartsInForce) (prefix : List ℕ) (read : BareHead) →
      IfKnown start (λ input. IsHeadOf wish r before w.parts prefix read) →
      IfKnown start (λ input. IsHeadOf wish r before v.parts prefix read)
  text_head wish start r before prefix read head = subst (λ p. IfKnown start (λ input. IsHeadOf wish r before p prefix read))
      (sym (ap (λ (x : Walk). x.parts) same)) head

-- ---- the next head was read

module _ (z n : Walk) (same : n ≡ record z { parts = n.parts }) where
  pub head_sound : IsSound z → IsSound n
  head_sound sound = subst (λ x. IsSound x) (sym same) (record {
    first = sound.first;
    ten = sound.ten;
    room = sound.room;
    current =
        sound.current;
    geometry = sound.geometry;
    passed = sound.passed;
    left = sound.left;
  })

-- ---- a segment more was read

module _ (w v z n : Walk) (text : v ≡ record w { room = v.room }) (first : z.first ≡ v.first) (index : z.index ≡ v.index + 1)
    (same : n ≡ record z { parts = n.parts }) where
  first_is : n.first ≡ w.first
  first_is = ap (λ (x : Walk). x.first) same ∙ first ∙ ap (λ (x : Walk). x.first) text

  pub index_is : n.index ≡ w.index + 1
  index_is = ap (λ (x : Walk). x.index) same ∙ index ∙ ap (λ (x : Walk). x.index + 1) text

  pub less_left : IsSound w → total_blocks n.first.image.width 262144 - first_block n.first.blocks n.index < total_blocks w.first.image.width 262144
      - first_block w.first.blocks w.index
  less_left sound = grind (arith, nat_tests, first_is, index_is)

  -- the first segment isn't the last one
  pub still_fits : (read : BareHead) → (w.index ≡ 0 → read.head ≡ w.first) → (0 < w.index → w.first.last ≡ false) → read.head.last ≡ false →
      n.first.last ≡ false
  still_fits read begins fits going = grind (arith, nat_tests, first_is)
