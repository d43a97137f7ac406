-- The first head is read, or a decoder ends at it.
use Rattle.std.proofs.Common.{◌≡◌, ◌+◌, ◌*◌, ℕ, Bool, true, false, List, [], refl, sym, ap, ◌∙◌, subst, arith, None, Ok, Err}
use Rattle.port_122.specs.Outside.{Outside}
use Rattle.port_122.proofs.Stretches.{since_start}
use Rattle.base_122.specs.Sizes.{block_count}
use Rattle.base_122.specs.declared.wish.DecodeWish.{DecodeWish}
use Rattle.segment_defs.specs.TextWish.{text_wish}
use Rattle.picture_rows.specs.Pictures.{picture_state, IsPictureFresh}
use Rattle.picture_rows.proofs.RowsOut.{no_rows}
use Rattle.segment_defs.specs.Reading.{head_in}
use Rattle.segment_defs.specs.declared.head.SegmentHead.{SegmentHead}
use Rattle.bare_text.specs.declared.parts.PartsInForce.{PartsInForce}
use Rattle.bare_text.specs.declared.read.BareHead.{BareHead}
use Rattle.bare_text.specs.InForce.{none_in_force}
use Rattle.bare_text.specs.Taken.{EndsHead, ReadsHead}
use Rattle.bare_stream.specs.declared.fault.BareFault.{BareFault}
use Rattle.bare_stream.specs.declared.fault.BareFault.TheVariants.{Memory}
use Rattle.bare_stream.specs.declared.input.PortIn.{PortIn}
use Rattle.bare_stream.specs.declared.walk.Walk.{Walk}
use Rattle.bare_stream.specs.Heads.{TakesHead, ChecksHead}
use Rattle.bare_stream.specs.Input.{waiting}
use Rattle.bare_stream.specs.Inputs.{source_of}
use Rattle.bare_stream.specs.Pictures.{shape_with}
use Rattle.bare_stream.specs.Decoded.{IfKnown, DecodesBare}
use Rattle.bare_stream.specs.Reads.{HasLaws, SegmentsRead, AsksIn, HasRead, InForceAfter, segments_of}
use Rattle.bare_stream.specs.Walks.{IsReading, wish_in}
use Rattle.bare_stream.proofs.ReadsOn.{read_on, read_on-gave, gave_known}
use Rattle.bare_stream.proofs.Settles.{no_open_rows, asks_all}
use Rattle.bare_stream.proofs.NextHeads.{head_faulted, check_faulted}
use Rattle.bare_stream.proofs.NextOf.{head_opens}

-- no segment was read
abbrev none_read : SegmentHead → SegmentsRead
none_read first = record { first = first; texts = []; blocks = []; ended = None }

not_true : (b : Bool) → b ≡ false → b ≡ true → ⊥
not_true b e f = cc

module _ {X : Type 0} (outside : X → Outside) (wish : DecodeWish) (laws : HasLaws wish) (s t : PortIn X) (fresh : waiting s ≡ [])
    (left : s.left ≡ wish.octets) (whole : s.failed ≡ false) where
  abbrev start : Outside
  start = outside s.port.now

  abbrev now : Outside
  now = outside t.port.now

  before_it : (first : SegmentHead) → HasRead outside wish start (none_read first) [] s
  before_it first = record {
    some = λ none. refl;
    same = refl;
    took = [];
    gave = [];
    since = since_start start (AsksIn wish start (none_read first) [] [] [] s.failed start.rest);
    gave_is = sym (no_open_rows first);
    octets = sym fresh;
    left = omega (arith, left);
    rises = λ failed. absurd (not_true s.failed whole failed);
  }

  before_it-gave : (first : SegmentHead) → (before_it first).gave ≡ []
  unfolding before_it
  before_it-gave first = refl

  reaches : (first : SegmentHead) → InForceAfter wish start (none_read first) none_in_force
  reaches first input if_known more = refl

  -- without a first head
  pub first_faulted : (after : PartsInForce) (fault : BareFault) → TakesHead (source_of outside) none_in_force 0 (Err fault) s t after →
      DecodesBare wish start now (Err fault)
  first_faulted after fault x = head_faulted outside wish laws start (none_read (head_in [])) s t none_in_force after 0 (before_it (head_in [])) refl
      (reaches (head_in [])) refl fault x

  -- ---- with it

  module _ (after : PartsInForce) (read : BareHead) (reads : ReadsHead (source_of outside) none_in_force (Ok read) s t after) where
    abbrev r : SegmentsRead
    r = none_read read.head

    abbrev prefix : List ℕ
    prefix = reads.went.gave

    now_read : HasRead outside wish start r prefix t
    now_read = read_on outside wish start r [] s t (before_it read.head) reads.went

    now_gave : now_read.gave ≡ []
    unfolding now_read
    now_gave = read_on-gave outside wish start r [] s t (before_it read.head) reads.went ∙ before_it-gave read.head

    first_known : IfKnown start (λ input. EndsHead (source_of outside) none_in_force (Ok read) prefix s t after)
    first_known input if_known =
        subst (λ l. EndsHead (source_of outside) none_in_force (Ok read) l s t after)
        (gave_known outside wish start r [] s t (before_it read.head) reads.went reads.octets reads.came input if_known) reads.ends

    pub first_refused : (fault : BareFault) → ChecksHead wish.pixels read.head 0 read.head (Err fault) → DecodesBare wish start now (Err fault)
    first_refused fault x = check_faulted outside wish laws start r prefix t none_in_force 0 now_read refl (reaches read.head) refl read.head
        (λ input if_known. (first_known input if_known).0) (λ none. refl) fault x

    pub no_memory : DecodesBare wish start now (Err Memory)
    no_memory = record {
      took = now_read.took;
      gave = now_read.gave;
      since = asks_all wish laws outside start r none_in_force prefix t now_read (reaches read.head)
          (λ input if_known n lt. head_opens laws.heads (text_wish wish) wish.pixels (segments_of r none_in_force) refl prefix (Ok read.head)
          (first_known input if_known).0
          n lt);
      within = (let left = now_read.left in omega (arith, left));
      ends = now_gave;
      answers = λ input if_known. tt;
    }

    pub first_reading : (w : Walk) → w.first ≡ read.head → w.parts ≡ after → w.index ≡ 0 → w.pixels ≡ wish.pixels → wish_in w ≡ text_wish wish →
        IsPictureFresh (shape_with read.head 262144) (picture_state w.picture) → IsReading outside wish start t w read
    first_reading w first parts index pixels wished new = record {
      r = r;
      prefix = prefix;
      before = none_in_force;
      at = record {
        laws = laws;
        read = now_read;
        going = refl;
        first = sym first;
        index = index;
        pixels = pixels;
        wished = wished;
        shows = record {
          current = new.current;
          geometry = new.geometry;
          passed = (let row = new.row in let column = new.column in ap (λ n. n * block_count w.picture.geometry.width + w.picture.at.column) row ∙ omega
              (arith, column));
          valid = λ numbers are. new.valid numbers;
          given = λ numbers are. now_gave ∙ no_rows w.picture.geometry numbers w.picture.at.next new.next;
        };
      };
      head = λ input if_known.
          let h = first_known input if_known in
          record { reaches = reaches read.head input if_known; head = h.0; size = h.1; force = parts ∙ h.2; starts = λ none. refl };
    }
