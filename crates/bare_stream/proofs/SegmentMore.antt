-- One more segment is read.
use Rattle.std.proofs.Common.{◌≡◌, ◌<◌, ◌+◌, ℕ, ℤ, List, [], ◌∷◌, ◌++◌, length, take, refl, sym, ap, ◌∙◌, arith, append_assoc}
use Rattle.std.proofs.Common.{length-append, if◌then◌else◌, Option, None, Some, unwrap_or}
use Rattle.std.specs.List.{concat}
use Rattle.std.proofs.lemmas.List.{append-nil, length_push, drop_at}
use Rattle.port_122.specs.Outside.{Outside, Exchange, NoRead}
use Rattle.base_122.specs.declared.geometry.Geometry.{Geometry}
use Rattle.base_122.specs.declared.wish.DecodeWish.{DecodeWish}
use Rattle.segment_defs.specs.TextWish.{text_wish}
use Rattle.segment_defs.specs.declared.head.SegmentHead.{SegmentHead}
use Rattle.bare_text.specs.declared.parts.PartsInForce.{PartsInForce}
use Rattle.bare_text.specs.InForce.{parts_after}
use Rattle.bare_stream.specs.declared.input.PortIn.{PortIn}
use Rattle.bare_stream.specs.Input.{waiting}
use Rattle.bare_stream.specs.Pictures.{geometry_at}
use Rattle.bare_stream.specs.StreamRead.{Segments, text as next_is, next_in, with_text, read_on}
use Rattle.bare_stream.specs.Decoded.{IfKnown, read_by}
use Rattle.bare_stream.specs.Reads.{HasLaws, SegmentsRead, HasRead, Reaches, InForceAfter, first_of, rows_read, segments_of, size_of}
use Rattle.bare_stream.proofs.NextReads.{Opens, fewer_open, text_stays, needed}
use Rattle.bare_stream.proofs.ReadLaws.{read_text}
use Rattle.bare_stream.proofs.Settles.{asks_more}

pub concat_more : (texts : List (List ℕ)) (t : List ℕ) → concat (texts ++ t ∷ []) ≡ concat texts ++ t
concat_more [] t = append-nil t
concat_more (x ∷ texts) t = ap (λ l. x ++ l) (concat_more texts t) ∙ sym (append_assoc x (concat texts) t)

-- with one more segment, which is the last one or not
abbrev pub with_more : SegmentsRead → List ℕ → List (List ℤ) → Option Geometry → SegmentsRead
with_more r text w ended = record { first = r.first; texts = r.texts ++ text ∷ []; blocks = r.blocks ++ w ∷ []; ended = ended }

first_more : (first : SegmentHead) (texts : List (List ℕ)) (t : List ℕ) → first_of first (texts ++ t ∷ []) ≡ Some first
first_more first [] t = refl
first_more first (x ∷ texts) t = refl

-- ---- how the reading continues

abbrev pub made : Option SegmentHead → PartsInForce → List (List (List ℤ)) → Option Geometry → ℕ → Segments
made first before blocks ended octets = record { first = first; before = before; blocks = blocks; ended = ended; octets = octets }

module _ (wish : DecodeWish) (laws : HasLaws wish) (r : SegmentsRead) (before after : PartsInForce) (head : SegmentHead) (text : List ℕ) (w : List (List ℤ))
    (ended : Option Geometry) (reaches : Reaches wish r before)
    (next : next_in (text_wish wish) wish.pixels (segments_of r before) text ≡ next_is head (length text) w) (force : (more : List ℕ) →
    parts_after before (text ++ more) ≡ after)
    (first : unwrap_or (first_of r.first r.texts) head ≡ r.first) (ends : (if head.last then Some (geometry_at r.first (length r.blocks) head) else None) ≡
    ended) where
  abbrev s : Segments
  s = segments_of r before

  abbrev r' : SegmentsRead
  r' = with_more r text w ended

  size : size_of r + length text ≡ size_of r'
  size = sym (ap length (concat_more r.texts text) ∙ length-append (concat r.texts) text)

  same_segments : (more : List ℕ) → with_text s head (length text) w (text ++ more) ≡ segments_of r' after
  same_segments more =
      let end = λ (h : SegmentHead). if head.last then Some (geometry_at h (length r.blocks) head) else None in
      ap (λ h. made (Some h) (parts_after before (text ++ more)) (r.blocks ++ w ∷ []) (end h) (size_of r + length text)) first
      ∙ ap (λ o. made o (parts_after before (text ++ more)) (r.blocks ++ w ∷ []) (end r.first) (size_of r + length text))
      (sym (first_more r.first r.texts text))
      ∙ ap (λ p. made (first_of r.first r'.texts) p (r.blocks ++ w ∷ []) (end r.first) (size_of r + length text)) (force more)
      ∙ ap (λ e. made (first_of r.first r'.texts) after (r.blocks ++ w ∷ []) e (size_of r + length text)) ends
      ∙ ap (λ n. made (first_of r.first r'.texts) after (r.blocks ++ w ∷ []) ended n) size

  pub reaches_more : Reaches wish r' after
  reaches_more more =
      let there = text_stays laws.heads laws.texts (text_wish wish) laws.sound wish.pixels s text more head (length text) w next in
      ap (read_by wish) (ap (λ l. l ++ more) (concat_more r.texts text) ∙ append_assoc (concat r.texts) text more)
      ∙ reaches (text ++ more)
      ∙ read_text laws.heads laws.texts (text_wish wish) laws.sound wish.pixels s (text ++ more) head (length text) w there
      ∙ ap (λ l. read_on (text_wish wish) wish.pixels (with_text s head (length text) w (text ++ more)) l) (drop_at text more (length text) refl)
      ∙ ap (λ x. read_on (text_wish wish) wish.pixels x more) (same_segments more)

-- ---- one more text

module _ (wish : DecodeWish) (laws : HasLaws wish) {X : Type 0} (outside : X → Outside) (start : Outside) (r : SegmentsRead) (before : PartsInForce)
    (head : SegmentHead) (text more : List ℕ) (w : List (List ℤ)) (t u : PortIn X)
    (read : HasRead outside wish start r text t) (reaches : InForceAfter wish start r before)
    (next : IfKnown start (λ input. next_in (text_wish wish) wish.pixels (segments_of r before) text ≡ next_is head (length text) w))
    (waits : waiting u ≡ waiting t) (left : u.left ≡ t.left) (failed : u.failed ≡ t.failed)
    (out : Exchange (outside t.port.now) (outside u.port.now) [] more [] NoRead) where
  pub text_opens : IfKnown start (λ input. (n : ℕ) → n < length text → Opens (next_in (text_wish wish) wish.pixels (segments_of r before) (take n text)))
  text_opens input if_known n lt =
      fewer_open laws.heads laws.texts (text_wish wish) laws.sound wish.pixels (segments_of r before) text n (let e =
      ap (needed (segments_of r before)) (next input if_known) in omega (arith, lt, e))

  pub octets_all : (ended : Option Geometry) → read.took ≡ concat (with_more r text w ended).texts ++ ([] ++ waiting u)
  octets_all ended =
      read.octets ∙ sym (append_assoc (concat r.texts) text (waiting t)) ∙ ap (λ l. l ++ waiting t) (sym (concat_more r.texts text))
      ∙ ap (λ l. concat (r.texts ++ text ∷ []) ++ l) (sym waits)

  not_none : (texts : List (List ℕ)) → texts ++ text ∷ [] ≡ [] → ⊥
  not_none [] e = cc
  not_none (x ∷ texts) e = cc

  pub segment_read : (ended : Option Geometry) → read.gave ++ more ≡ rows_read (with_more r text w ended) →
      HasRead outside wish start (with_more r text w ended) [] u
  segment_read ended rows = record {
    some = λ none. absurd (not_none r.texts none);
    same = length_push r.texts text ∙ ap (λ n. n + 1) read.same ∙ sym (length_push r.blocks w);
    took = read.took;
    gave = read.gave ++ more;
    since = asks_more wish laws outside start r before text t read reaches text_opens u more out (with_more r text w ended) failed;
    gave_is = rows;
    octets = octets_all ended;
    left = (let n = read.left in omega (arith, n, left));
    rises = λ f. (let rose = read.rises (sym failed ∙ f) in let less = out.faults.reads in omega (arith, rose, less));
  }

  pub segment_read-gave : (ended : Option Geometry) (rows : read.gave ++ more ≡ rows_read (with_more r text w ended)) →
      (segment_read ended rows).gave ≡ read.gave ++ more
  unfolding segment_read
  segment_read-gave ended rows = refl
