-- What the items that were read and the octets after them decide.
use Rattle.std.proofs.Common.{◌≡◌, ◌≢◌, ◌⊎◌, ℕ, ◌+◌, ◌-◌, ◌*◌, ◌<◌, ◌≤◌, inl, inr, Bool, true, List, [], ◌++◌, length, sym, ap, ◌∙◌, subst, arith, ℤ}
use Rattle.std.proofs.Common.{Result, Some, Ok, Err, length-append}
use Rattle.std.specs.Int.{div_ceil}
use Rattle.item_defs.specs.Bits.{bits_of_octets}
use Rattle.item_defs.specs.Items.{Refusal, bad_option, bad_delta, bad_depth, false_flag}
use Rattle.item_defs.proofs.OctetBits.{octets_both}
use Rattle.wave_defs.specs.Held.{blocks_in}
use Rattle.plane_defs.specs.Codes.{is_book_sound}
use Rattle.bit_pipe.specs.Bounds.{bound_of}
use Rattle.bit_pipe.specs.Sources.{SourceOf, Arrives, IsOver, Plainly, Fails}
use Rattle.bit_pipe.specs.SourceState.{SourceState, BeginsIn, Takes, FailsSo}
use Rattle.bit_pipe.specs.declared.fault.InFault.{InFault}
use Rattle.bit_pipe.specs.declared.fault.InFault.TheVariants as inputs
use Rattle.bit_pipe.specs.declared.fault.Part.{Part}
use Rattle.bit_pipe.specs.declared.fault.Part.TheVariants.{Whole, Ended}
use Rattle.bit_pipe.specs.declared.fault.TextFault.{TextFault}
use Rattle.bit_pipe.specs.declared.fault.TextFault.TheVariants as texts
use Rattle.bit_pipe.proofs.Giving.{rose_since}
use Rattle.bit_pipe.proofs.Taking.{arrives_then}
use Rattle.segment_defs.specs.declared.head.SegmentHead.{SegmentHead}
use Rattle.segment_defs.specs.TextWish.{TextWish, segment_read}
use Rattle.segment_defs.specs.Head.{IsHead}
use Rattle.bit_pipe.specs.ScriptSources.{got, ends, refuses as found_refusal, fails, by_fault, ReadsAs}
use Rattle.item_defs.specs.Outcomes.{cut}
use Rattle.item_defs.specs.Scripts.{run}
use Rattle.segment_code.specs.declared.fault.SegmentFault.{SegmentFault}
use Rattle.segment_code.specs.declared.fault.SegmentFault.TheVariants.{BadOption, BadDelta, BadDepth, FalseFlag, ShortSegment, Overlong, BrokenSegment}
use Rattle.segment_code.specs.declared.fault.SegmentFault.TheVariants.{ReadFault, LongInput}
use Rattle.segment_code.specs.Faults.{of_text}
use Rattle.segment_code.specs.TextAnswers.{gives, refuses, if_enough, bits_within, whole_octets, answer_in, Decides, NeedsMore}
use Rattle.segment_code.specs.TextEnds.{wanted_bits, EndsLength, Passes, EndsWhole, EndsCut}
use Rattle.segment_code.specs.DecodedItems.{EndsItems, DecodesItems}
use Rattle.segment_code.proofs.Deciding.{Blocks, there_is, not_there, whole_answer, refused_answer, cut_at_limit, cut_below}
use Rattle.segment_code.proofs.TakenOctets.{none_left, counted, used_is, room_left, room_unlimited, bits_here, bits_then, bits_exact, wanted_is, wanted_within}
use Rattle.segment_code.proofs.BoundedTexts.{cut_texts_short}
use Rattle.segment_code.proofs.WishedRuns.{script_cut}

module _ {I : Type 0} (k : SourceOf I) (wish : TextWish) (head : SegmentHead) (size : ℕ) (old : I) (start stop : SourceState I)
    (begins : BeginsIn old (bound_of head.limit) size start) where
  -- ---- the octets that were taken, and those that were asked for after them

  module _ (bits : List Bool) (p : Takes k start stop bits) where
    faults_grew : k.faults old ≤ k.faults stop.source
    faults_grew = subst (λ s. k.faults s ≤ k.faults stop.source) begins.source p.faults

    went_so : k.Went old stop.source
    went_so = subst (λ s. k.Went s stop.source) begins.source p.went

    came_so : Arrives (k.tail old) (k.tail stop.source) p.octets
    came_so = subst (λ s. Arrives (k.tail s) (k.tail stop.source) p.octets) begins.source p.came

    here : (r : Result Part SegmentFault) (blocks : List ℤ) → EndsItems k wish head size r p.octets old stop.source blocks →
        DecodesItems k wish head size r old stop.source blocks
    here r blocks e = record { octets = p.octets; small = p.small; came = came_so; faults = faults_grew; went = went_so; ends = e }

    further : (r : Result Part SegmentFault) (blocks : List ℤ) (count : ℕ) (new : I) (q : Passes k count Whole r stop.source new) →
        EndsItems k wish head size r (p.octets ++ q.octets) old new blocks → DecodesItems k wish head size r old new blocks
    further r blocks count new q e = record {
      octets = p.octets ++ q.octets;
      small = octets_both p.octets q.octets p.small q.small;
      came = arrives_then (k.tail old) (k.tail stop.source) (k.tail new) p.octets q.octets came_so q.came;
      faults = omega (arith, faults_grew, q.faults);
      went = k.went_both old stop.source new went_so q.went;
      ends = e;
    }

  -- ---- an item is refused

  refused_ends : (given : Blocks) (name : Refusal) (p : ReadsAs k (segment_read wish head) (found_refusal given name) start stop) →
      Decides wish head size p.taken.octets (refuses name)
  refused_ends given name p =
      let c = counted k head size old start stop begins p.bits p.taken in
      let octets : div_ceil (length p.bits) 8 ≡ length p.taken.octets = omega (arith, c, p.taken.pending) in
      refused_answer wish head size p.taken.octets p.bits stop.pending given name (bits_here k head size old start stop begins p.bits p.taken)
      (p.says stop.pending) ∙
      ap (λ n. Some (record { answer = refuses name; octets = n })) octets

  -- ---- the input fails within an item

  failed_ends : (given : Blocks) (e : InFault) (p : ReadsAs k (segment_read wish head) (fails given e) start stop) →
      NeedsMore wish head size p.taken.octets
  failed_ends given e p =
      let c = counted k head size old start stop begins p.bits p.taken in
      let u = used_is k head size old start stop begins p.bits p.taken in
      cut_below wish head size p.taken.octets given
      (ap (run (segment_read wish head)) (bits_exact k head size old start stop begins p.bits p.taken p.stops.pending) ∙ p.says)
      (λ some. let r = room_left k head size old start stop begins p.bits p.taken some in omega (arith, c, u, r, p.stops.room, ap length p.stops.pending))

  failed_so : (e : InFault) → FailsSo k e start stop → Fails k e old stop.source
  failed_so e f = subst (λ s. Fails k e s stop.source) begins.source f.cause

  pub fault_decoded : (blocks : List ℤ) (fault : TextFault) (given : Blocks) → ReadsAs k (segment_read wish head) (by_fault fault given) start stop →
      DecodesItems k wish head size (Err (of_text fault)) old stop.source blocks
  fault_decoded blocks texts.BadOption given p = here p.bits p.taken (Err BadOption) blocks (refused_ends given bad_option p)
  fault_decoded blocks texts.BadDelta given p = here p.bits p.taken (Err BadDelta) blocks (refused_ends given bad_delta p)
  fault_decoded blocks texts.BadDepth given p = here p.bits p.taken (Err BadDepth) blocks (refused_ends given bad_depth p)
  fault_decoded blocks texts.FalseFlag given p = here p.bits p.taken (Err FalseFlag) blocks (refused_ends given false_flag p)
  fault_decoded blocks texts.ReadFault given p = here p.bits p.taken (Err ReadFault) blocks
      (failed_ends given inputs.ReadFault p, failed_so inputs.ReadFault p.stops)
  fault_decoded blocks texts.LongInput given p = here p.bits p.taken (Err LongInput) blocks
      (failed_ends given inputs.LongInput p, failed_so inputs.LongInput p.stops)
  fault_decoded blocks texts.Broken given p = here p.bits p.taken (Err BrokenSegment) blocks
      (failed_ends given inputs.Broken p, failed_so inputs.Broken p.stops)

  -- ---- all items are given

  module _ (fits : IsHead head) (blocks : List ℤ) (p : ReadsAs k (segment_read wish head) (got (blocks_in blocks)) start stop) where
    long : (more : List ℕ) → length (p.taken.octets ++ more) ≡ length p.taken.octets + length more
    long more = length-append p.taken.octets more

    module _ (count : ℕ) (wanted : 8 * (div_ceil stop.used 8 + count) ≡ wanted_bits head stop.used) (more : List ℕ) (few : length more ≤ count) where
      octets_are : whole_octets head (8 * size + length p.bits) - size ≡ length p.taken.octets + count
      octets_are = let w = wanted_is k head size old start stop begins p.bits p.taken count wanted in omega (arith, w)

      answer_is : answer_in wish head size (p.taken.octets ++ more) ≡ if_enough (length (p.taken.octets ++ more)) (length p.taken.octets + count)
          (gives Whole (blocks_in blocks))
      answer_is =
          whole_answer wish head size (p.taken.octets ++ more) p.bits (stop.pending ++ bits_of_octets more) (blocks_in blocks)
          (bits_then k head size old start stop begins p.bits p.taken more (λ some. (
          let l = wanted_within k head size old start stop begins p.bits p.taken fits count wanted some in omega (arith, l, long more, few)
          ))) (p.says (stop.pending ++ bits_of_octets more)) ∙
          ap (λ n. if_enough (length (p.taken.octets ++ more)) n (gives Whole (blocks_in blocks))) octets_are

      decides_all : length more ≡ count → Decides wish head size (p.taken.octets ++ more) (gives Whole (blocks_in blocks))
      decides_all e =
          let there : length p.taken.octets + count ≡ length (p.taken.octets ++ more) = omega (arith, e, long more) in
          answer_is ∙ there_is (length (p.taken.octets ++ more)) (length p.taken.octets + count) (gives Whole (blocks_in blocks)) (omega (arith, there)) ∙
          ap (λ n. Some (record { answer = gives Whole (blocks_in blocks); octets = n })) there

      needs_more : length more < count → NeedsMore wish head size (p.taken.octets ++ more)
      needs_more lt =
          answer_is ∙ not_there (length (p.taken.octets ++ more)) (length p.taken.octets + count) (gives Whole (blocks_in blocks))
          (omega (arith, lt, long more))

    whole_ends : (r : Result Part SegmentFault) (count : ℕ) (more : List ℕ) (new : I) → 8 * (div_ceil stop.used 8 + count) ≡ wanted_bits head stop.used →
        EndsLength k count Whole r more stop.source new → EndsItems k wish head size r (p.taken.octets ++ more) old new blocks
    whole_ends (Ok answered) count more new wanted e =
        subst (λ part. Decides wish head size (p.taken.octets ++ more) (gives part (blocks_in blocks))) (sym e.0)
        (decides_all count wanted more (omega (arith, e.1)) e.1)
    whole_ends (Err ShortSegment) count more new wanted e = (needs_more count wanted more (omega (arith, e.0)) e.0, e.1)
    whole_ends (Err BrokenSegment) count more new wanted e = (needs_more count wanted more (omega (arith, e.0)) e.0, e.1)
    whole_ends (Err LongInput) count more new wanted e = (needs_more count wanted more (omega (arith, e.0)) e.0, e.1)
    whole_ends (Err ReadFault) count more new wanted e = (
      needs_more count wanted more (omega (arith, e.0)) e.0,
      rose_since (k.faults old) (k.faults stop.source) (k.faults new)
          (faults_grew p.bits p.taken) e.1,
    )
    whole_ends (Err Overlong) count more new wanted e = absurd e
    whole_ends (Err BadOption) count more new wanted e = absurd e
    whole_ends (Err BadDelta) count more new wanted e = absurd e
    whole_ends (Err BadDepth) count more new wanted e = absurd e
    whole_ends (Err FalseFlag) count more new wanted e = absurd e

    pub whole_decoded : (r : Result Part SegmentFault) (new : I) → EndsWhole k head stop.used r stop.source new → DecodesItems k wish head size r old new blocks
    whole_decoded r new q = further p.bits p.taken r blocks q.count new q.ends (whole_ends r q.count q.ends.octets new q.wanted q.ends.ends)

  -- ---- the text ends within an item

  module _ (sound : is_book_sound wish.book ≡ true) (fits : IsHead head) (low : size ≤ 20) (blocks : List ℤ)
      (p : ReadsAs k (segment_read wish head) (ends (blocks_in blocks)) start stop) where
    -- below the limit the input is at its end
    over : (head.limit ≡ 0) ⊎ (stop.used < 8 * head.limit) → (stop.pending ≡ []) × IsOver (k.tail stop.source) Plainly
    over below = by_end p.stops.bits below
      where
        by_end : (stop.room ≡ 0) ⊎ ((stop.pending ≡ []) × IsOver (k.tail stop.source) Plainly) → (head.limit ≡ 0) ⊎ (stop.used < 8 * head.limit) →
            (stop.pending ≡ []) × IsOver (k.tail stop.source) Plainly
        by_end (inr h) b = h
        by_end (inl none) (inl e) =
            let full = room_unlimited k head size old start stop begins p.bits p.taken e in
            let u = used_is k head size old start stop begins p.bits p.taken in
            let w = script_cut wish head p.bits (blocks_in blocks) p.says in
            let few = cut_texts_short wish.book sound head fits p.bits w.0 w.1 in
            absurd (omega (arith, full, none, u, few, low))
        by_end (inl none) (inr lt) =
            let some : head.limit ≢ 0 = omega (arith, lt) in
            let full = room_left k head size old start stop begins p.bits p.taken some in
            absurd (omega (arith, full, none, lt))

    -- the item is cut in the bits of all these octets
    cut_there : stop.pending ≡ [] → run (segment_read wish head) (bits_within head size p.taken.octets) ≡ cut (blocks_in blocks)
    cut_there none = ap (run (segment_read wish head)) (bits_exact k head size old start stop begins p.bits p.taken none) ∙ p.says

    short_cut : (head.limit ≡ 0) ⊎ (stop.used < 8 * head.limit) → stop.pending ≡ [] → NeedsMore wish head size p.taken.octets
    short_cut below none =
        let c = counted k head size old start stop begins p.bits p.taken in
        let u = used_is k head size old start stop begins p.bits p.taken in
        cut_below wish head size p.taken.octets (blocks_in blocks) (cut_there none) (λ some. by some c u below)
      where
        by : head.limit ≢ 0 → 8 * length p.taken.octets ≡ length p.bits + length stop.pending → stop.used ≡ 8 * size + length p.bits →
            (head.limit ≡ 0) ⊎ (stop.used < 8 * head.limit) → length p.taken.octets < head.limit - size
        by some c u (inl e) = absurd (some e)
        by some c u (inr lt) = omega (arith, c, u, lt, ap length none)

    full_cut : head.limit ≢ 0 → 8 * head.limit ≤ stop.used → Decides wish head size p.taken.octets (gives Ended (blocks_in blocks))
    full_cut some full =
        let c = counted k head size old start stop begins p.bits p.taken in
        let u = used_is k head size old start stop begins p.bits p.taken in
        let r = room_left k head size old start stop begins p.bits p.taken some in
        let none : length stop.pending ≡ 0 = omega (arith, c, u, r, full, p.taken.pending) in
        let octets : head.limit - size ≡ length p.taken.octets = omega (arith, c, u, r, full, none) in
        cut_at_limit wish head size p.taken.octets (blocks_in blocks) (cut_there (none_left stop.pending none)) some (omega (arith, octets)) ∙
        ap (λ n. Some (record { answer = gives Ended (blocks_in blocks); octets = n })) octets

    pub cut_decoded : (r : Result Part SegmentFault) → EndsCut head stop.used r → DecodesItems k wish head size r old stop.source blocks
    cut_decoded r c = by_limit c.ends
      where
        by_limit : (((head.limit ≡ 0) ⊎ (stop.used < 8 * head.limit)) × (r ≡ Err ShortSegment)) ⊎
            ((head.limit ≢ 0) × (8 * head.limit ≤ stop.used) × (r ≡ Ok Ended)) →
            DecodesItems k wish head size r old stop.source blocks
        by_limit (inl h) =
            let o = over h.0 in
            subst (λ a. DecodesItems k wish head size a old stop.source blocks) (sym h.1)
            (here p.bits p.taken (Err ShortSegment) blocks (short_cut h.0 o.0, o.1))
        by_limit (inr (some, full, e)) =
            subst (λ a. DecodesItems k wish head size a old stop.source blocks) (sym e) (here p.bits p.taken (Ok Ended) blocks (full_cut some full))
