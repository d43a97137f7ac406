-- What is next, by what a reader has read.
use Rattle.std.proofs.Common.{◌≡◌, ◌≤◌, ◌<◌, ◌+◌, ℕ, ℤ, true, false, nat_lt, if◌then◌else◌, List, ◌++◌, length, take, drop, refl, sym, ap, ◌∙◌, arith}
use Rattle.std.proofs.Common.{Option, None, Some, Result, Ok, Err, unwrap_or}
use Rattle.std.proofs.lemmas.Bool.Decides.{nat_tests}
use Rattle.std.proofs.lemmas.List.{drop_at, take-append-drop, length-take}
use Rattle.segment_defs.specs.TextWish.{TextWish}
use Rattle.item_defs.specs.Items.{Refusal}
use Rattle.bit_pipe.specs.declared.fault.Part.{Part}
use Rattle.segment_defs.specs.declared.head.SegmentHead.{SegmentHead}
use Rattle.segment_defs.specs.declared.fault.HeadFault.{HeadFault}
use Rattle.segment_defs.specs.declared.fault.HeadFault.TheVariants.{HeadShort}
use Rattle.segment_defs.specs.Reading.{first_refusal}
use Rattle.segment_code.specs.TextAnswers.{gives, refuses, answer_in, Decides, NeedsMore}
use Rattle.bare_text.specs.Agreement.{agreement_tests}
use Rattle.bare_text.specs.Reading.{HeadDecided, bare_head_in}
use Rattle.bare_text.specs.Taken.{DecidesHead, NeedsHead}
use Rattle.bare_text.specs.Laws.{HeadEndsThere, BareHeadsEndThere}
use Rattle.bare_stream.specs.declared.fault.BareCause.TheVariants.{Head, Short}
use Rattle.bare_stream.specs.Pictures.{pixels_at}
use Rattle.bare_stream.specs.StreamRead.{Segments, text, too_many, refused, refused_at_end, cause_of, items_next, by_pixels, by_agreement, checked}
use Rattle.bare_stream.specs.StreamRead.{head_next, next_by, next_in}
use Rattle.bare_stream.proofs.NextReads.{Opens}

module _ (heads : BareHeadsEndThere) (wish : TextWish) (pixels : ℕ) (s : Segments) (going : s.ended ≡ None) where
  next_is : (octets : List ℕ) → next_in wish pixels s octets ≡ head_next wish pixels s octets (bare_head_in s.before octets)
  next_is octets = ap (next_by wish pixels s octets) going

  -- ---- a head that is refused by itself

  pub next_short : (octets : List ℕ) → NeedsHead s.before octets → next_in wish pixels s octets ≡ refused_at_end s (Head (HeadShort (length octets)))
  next_short octets e = next_is octets ∙ ap (head_next wish pixels s octets) e

  pub next_refused : (octets : List ℕ) (fault : HeadFault) → DecidesHead s.before (Err fault) octets →
      next_in wish pixels s octets ≡ refused s (length octets) (Head fault)
  next_refused octets fault e = next_is octets ∙ ap (head_next wish pixels s octets) e

  -- fewer octets than decide a head decide nothing
  pub head_opens : (prefix : List ℕ) (result : Result SegmentHead HeadFault) → DecidesHead s.before result prefix → (n : ℕ) → n < length prefix →
      Opens (next_in wish pixels s (take n prefix))
  head_opens prefix result decides n lt = by (bare_head_in s.before (take n prefix)) refl
    where
      count_is : (o : Option HeadDecided) (d e : HeadDecided) → o ≡ Some d → o ≡ Some e → d.octets ≡ e.octets
      count_is o d e p q = cc

      by : (o : Option HeadDecided) → bare_head_in s.before (take n prefix) ≡ o → Opens (next_in wish pixels s (take n prefix))
      by None e = (_, next_short (take n prefix) e)
      by (Some d) e =
          let there = heads s.before (take n prefix) d e in
          let all = ap (bare_head_in s.before) (sym (take-append-drop n prefix)) ∙ there.stays (drop n prefix) in
          let count = count_is (bare_head_in s.before prefix) d (record { result = result; octets = length prefix }) all decides in
          let few = there.enough in
          absurd (omega (arith, count, few, lt, length-take n prefix))

  -- ---- a head that is read

  module _ (prefix : List ℕ) (head : SegmentHead) (decides : DecidesHead s.before (Ok head) prefix) where
    abbrev first : SegmentHead
    first = unwrap_or s.first head

    abbrev index : ℕ
    index = length s.blocks

    there : HeadEndsThere s.before prefix (record { result = Ok head; octets = length prefix })
    there = heads s.before prefix (record { result = Ok head; octets = length prefix }) decides

    next_checked : (items : List ℕ) → next_in wish pixels s (prefix ++ items) ≡ checked pixels s head (length prefix)
        (items_next s head (length prefix) (answer_in wish head (length prefix) items))
    next_checked items =
        next_is (prefix ++ items) ∙ ap (head_next wish pixels s (prefix ++ items)) (there.stays items)
        ∙ ap (λ l. checked pixels s head (length prefix) (items_next s head (length prefix) (answer_in wish head (length prefix) l)))
        (drop_at prefix items (length prefix) refl)

    pub next_disagrees : (items : List ℕ) (fault : HeadFault) → first_refusal (agreement_tests first index head) ≡ Some fault →
        next_in wish pixels s (prefix ++ items) ≡ refused s (length prefix) (Head fault)
    next_disagrees items fault e =
        next_checked items
        ∙ ap (λ o. by_agreement s (length prefix) o (by_pixels pixels (pixels_at first index head) s (length prefix)
        (items_next s head (length prefix) (answer_in wish head (length prefix) items)))) e

    module _ (agrees : first_refusal (agreement_tests first index head) ≡ None) where
      next_agrees : (items : List ℕ) → next_in wish pixels s (prefix ++ items) ≡ by_pixels pixels (pixels_at first index head) s (length prefix)
          (items_next s head (length prefix) (answer_in wish head (length prefix) items))
      next_agrees items =
          next_checked items
          ∙ ap (λ o. by_agreement s (length prefix) o (by_pixels pixels (pixels_at first index head) s (length prefix)
          (items_next s head (length prefix) (answer_in wish head (length prefix) items)))) agrees

      pub next_many : (items : List ℕ) → pixels < pixels_at first index head → next_in wish pixels s (prefix ++ items) ≡ too_many s (length prefix)
          (pixels_at first index head)
      next_many items lt =
          let test : nat_lt pixels (pixels_at first index head) ≡ true = grind (arith, nat_tests) in
          next_agrees items
          ∙ ap (λ t. if t then too_many s (length prefix) (pixels_at first index head) else items_next s head (length prefix)
          (answer_in wish head (length prefix) items)) test

      -- ---- its items

      module _ (few : pixels_at first index head ≤ pixels) where
        next_items : (items : List ℕ) → next_in wish pixels s (prefix ++ items) ≡ items_next s head (length prefix) (answer_in wish head (length prefix) items)
        next_items items =
            let test : nat_lt pixels (pixels_at first index head) ≡ false = grind (arith, nat_tests) in
            next_agrees items
            ∙ ap (λ t. if t then too_many s (length prefix) (pixels_at first index head) else items_next s head (length prefix)
            (answer_in wish head (length prefix) items)) test

        pub next_text : (items : List ℕ) (part : Part) (w : List (List ℤ)) → Decides wish head (length prefix) items (gives part w) →
            next_in wish pixels s (prefix ++ items) ≡ text head (length prefix + length items) w
        next_text items part w e = next_items items ∙ ap (items_next s head (length prefix)) e

        pub next_item : (items : List ℕ) (name : Refusal) → Decides wish head (length prefix) items (refuses name) → next_in wish pixels s (prefix ++ items)
            ≡ refused s (length prefix + length items) (cause_of name)
        next_item items name e = next_items items ∙ ap (items_next s head (length prefix)) e

        pub next_cut : (items : List ℕ) → NeedsMore wish head (length prefix) items → next_in wish pixels s (prefix ++ items) ≡ refused_at_end s Short
        next_cut items e = next_items items ∙ ap (items_next s head (length prefix)) e
