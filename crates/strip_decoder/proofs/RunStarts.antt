-- A run begins.
use Rattle.std.proofs.Common.{◌≡◌, ◌≤◌, ℕ, List, [], ◌∷◌, ◌++◌, take, refl, sym, ap, subst, ◌∙◌, inl, inr, arith, true, false, None, Some, Ok}
use Rattle.std.proofs.lemmas.Bool.{false≢true}
use Rattle.std.proofs.lemmas.Bool.Decides.{nat_tests}
use Rattle.port_122.specs.Outside.{Outside, Exchange}
use Rattle.port_122.proofs.Stretches.{since_start, since_weaker}
use Rattle.base_122.specs.Ranges.{IsGeometryInRange, IsWithin, rows_range}
use Rattle.base_122.specs.declared.geometry.Geometry.{Geometry}
use Rattle.stream_defs.specs.declared.fate.FateState.{FateState}
use Rattle.stream_defs.specs.Fates.{fresh, after, after_all, kept, geometry_in, part_in}
use Rattle.stream_defs.specs.Begun.{HasFewPixels, placed}
use Rattle.stream_defs.proofs.KeptOrder.{does, reached_on}
use Rattle.damage_rows.proofs.TableLaws.{filter_none_from}
use Rattle.packet_assembly.specs.declared.note.SegmentStart.{SegmentStart}
use Rattle.packet_assembly.specs.Assembling.{Assembling, Passes, StaysAt, BeginsNone, last_index, state_with, unread_assembly}
use Rattle.packet_assembly.specs.Segments.{WasFound, FindsSegment}
use Rattle.packet_assembly.specs.Readings.{HasRead, SawEnd, AsksReadable}
use Rattle.packet_assembly.proofs.Images.{index_none}
use Rattle.packet_assembly.proofs.Readings.{none_read, read_on, readable_more, end_on}
use Rattle.segment_defs.specs.TextWish.{TextWish}
use Rattle.strip_decoder.specs.Sinks.{SinkOf, blocks_with}
use Rattle.strip_decoder.specs.WalkSteps.{Walking, IsCurrent, IsFresh, passed_in}
use Rattle.strip_decoder.specs.Segments.{pixels_reached}
use Rattle.strip_decoder.specs.Runs.{Run, AsksPassed, HasFew, PartBy, Shows, IsBegun, WalksIn}
use Rattle.strip_decoder.proofs.RunPasses.{few_begun}
use Rattle.strip_decoder.proofs.Receiving.{none_received, between_none}
use Rattle.port_122.proofs.BothAsked.{since_both}

-- ---- before the first segment

-- no packet was kept
pub none_kept : (apid : ℕ) (packets : List (List ℕ)) → last_index (after_all apid fresh packets).last ≡ None → (after_all apid fresh packets).geometry ≡ None
none_kept apid [] none = refl
none_kept apid (x ∷ xs) none = elim (does apid fresh x) [
  | inl lost ↦ ap (λ s. (after_all apid s xs).geometry) lost.same ∙ none_kept apid xs (sym (ap (λ s. last_index (after_all apid s xs).last) lost.same) ∙ none)
  | inr here ↦ elim here [
    | inl b ↦
        let r = reached_on 0 apid (after apid fresh x) xs record { last = part_in x; last_is = b.last; least = omega arith } in
        absurd (let both : None ≡ Some r.last.index = sym none ∙ ap last_index r.last_is in cc)
    | inr next ↦ absurd (let both : None ≡ Some next.before = next.before_is in cc)
  ]
]

-- an assembly that has read some of a stream's octets
pub first_read : {P : FateState → Type 0} (w : Run) (new : Outside) (a b : Assembling) (went : List (List ℕ)) → a ≡ unread_assembly w.apid w.cap →
    (q : Passes P w.start new a b went) → HasRead w.apid w.cap b q.took went
first_read w new a b went unread q = read_on w.apid w.cap (subst (λ a. HasRead w.apid w.cap a [] []) (sym unread) (none_read w.apid w.cap)) q

-- there is no geometry if the last place is unchanged
none_yet : (w : Run) (a : Assembling) (octets : List ℕ) → a ≡ unread_assembly w.apid w.cap → StaysAt a (state_with a octets) → geometry_in w.apid octets ≡ None
none_yet w a octets unread stays = grind (arith, nat_tests, none_kept)

-- no image was reported, so it has few pixels
pub none_few : (pixels apid : ℕ) (octets : List ℕ) → geometry_in apid octets ≡ None → HasFewPixels pixels apid octets
none_few pixels apid octets none g there = absurd (let both : None ≡ Some g = sym none ∙ there in cc)

-- at each read call nothing is given, and there is no geometry
pub first_asks : {S : Type 0} (k : SinkOf S) (w : Run) (new : Outside) (a b : Assembling) (went : List (List ℕ)) → a ≡ unread_assembly w.apid w.cap →
    (q : Passes (StaysAt a) w.start new a b went) →
    Exchange w.start new q.took [] [] (AsksPassed k w q.took [])
first_asks k w new a b went unread q =
    let readable : Exchange w.start new q.took [] [] (AsksReadable w.cap q.took) =
    readable_more w.apid w.cap (subst (λ a. HasRead w.apid w.cap a [] []) (sym unread) (none_read w.apid w.cap)) (since_start w.start _) q.readable in
    since_weaker (since_both q.since readable) (λ i j le asks.
    let none = none_yet w a (take i q.took) unread asks.0.0 in (
      omega (arith, asks.0.1),
      (asks.1, none_few w.pixels w.apid (take i q.took) none),
      λ all if_known. record {
        none = λ e. ap (λ n. take n []) asks.0.1;
        some = λ g received there are. absurd (let both : None ≡ Some g = sym none ∙ there in cc);
      },
    ))

-- no octets are a part of what is given
pub first_part : {S : Type 0} (k : SinkOf S) (texts : TextWish) (apid : ℕ) (took : List ℕ) → PartBy k texts apid took []
first_part k texts apid took = record { none = λ e. refl; some = λ g received there are. (0, omega arith, k.part_none (placed g) (blocks_with g received)) }

-- if the end was reached, nothing is left
pub first_end : {P : FateState → Type 0} (w : Run) (new : Outside) (a b : Assembling) (went : List (List ℕ)) → a ≡ unread_assembly w.apid w.cap →
    Passes P w.start new a b went → SawEnd new b
first_end w new a b went unread q =
    end_on q (λ rest if_known ended. absurd (let both : false ≡ true = sym (ap (λ (a : Assembling). a.intake.ended) unread) ∙ ended in false≢true both))

-- ---- the first segment

pub record HasFound {S : Type 0} (k : SinkOf S) (w : Run) (new : Outside) (b : Assembling) (start : SegmentStart) : Type 0 where
  pub took : List ℕ
  pub went : List (List ℕ)
  pub since : Exchange w.start new took [] [] (AsksPassed k w took [])
  pub read : HasRead w.apid w.cap b took went
  pub begun : IsBegun w.apid went b.text start 0
  pub none : (after_all w.apid fresh begun.before).geometry ≡ None
  pub at_end : SawEnd new b

first_found : {S : Type 0} (k : SinkOf S) (w : Run) (new : Outside) (a b : Assembling) (start : SegmentStart) → a ≡ unread_assembly w.apid w.cap →
    WasFound w.start new a b start → HasFound k w new b start
first_found k w new a b start unread found =
    let none : last_index (after_all w.apid fresh found.prefix).last ≡ None =
    index_none w.apid fresh found.prefix (subst (λ (a : Assembling). BeginsNone a.apid a.state found.prefix) unread found.none_before) in
    record {
      took = found.passed.took;
      went = found.prefix ++ found.packet ∷ [];
      since = first_asks k w new a b (found.prefix ++ found.packet ∷ []) unread found.passed;
      read = first_read w new a b (found.prefix ++ found.packet ∷ []) unread found.passed;
      at_end = first_end w new a b (found.prefix ++ found.packet ∷ []) unread found.passed;
      begun = grind (arith, nat_tests);
      none = none_kept w.apid found.prefix none;
    }

pub found_one : {S : Type 0} (k : SinkOf S) (w : Run) (new : Outside) (a b : Assembling) (start : SegmentStart) → a ≡ unread_assembly w.apid w.cap →
    FindsSegment w.start new a b (Ok (Some start)) → HasFound k w new b start
found_one k w new a b start unread finds = elim finds.ends [
  | inl held ↦ absurd (let both : None ≡ Some start = sym (ap (λ (a : Assembling). a.held) unread) ∙ held.held in cc)
  | inr found ↦ first_found k w new a b start unread found
]

-- no block was passed yet
shows_nothing : {S : Type 0} (k : SinkOf S) (g : Geometry) (p : Walking S) → IsFresh k g p → Shows k p (λ index. None) []
shows_nothing k g p fresh_walk blocks of = grind (arith, nat_tests, filter_none_from)

-- a walk that begins is one of its image
pub first_valid : {S : Type 0} (k : SinkOf S) (g : Geometry) (p : Walking S) → IsGeometryInRange g → IsWithin rows_range g.rows → IsFresh k g p → IsCurrent k p
first_valid k g p range height fresh_walk = grind (arith, nat_tests)

-- before the first head no pixels were reported
pub few_first : {S : Type 0} (k : SinkOf S) (w : Run) (new : Outside) (b : Assembling) (start : SegmentStart) → (found : HasFound k w new b start) →
    HasFew w.pixels w.apid found.begun.before
few_first k w new b start found g there = absurd (let both : None ≡ Some g = sym found.none ∙ there in cc)

pub first_arrives : {S : Type 0} (k : SinkOf S) (w : Run) (new : Outside) (b : Assembling) (p : Walking S) (start : SegmentStart) (g image : Geometry) →
    HasFound k w new b start → IsFresh k g p → b.state.geometry ≡ Some image → pixels_reached image start ≤ w.pixels → WalksIn k w new b p start
first_arrives k w new b p start g image found fresh_walk geometry small =
    let none : passed_in p ≡ 0 = rw (fresh_walk.row, fresh_walk.column) (omega arith) in
    record {
      to = record {
        arrived = record {
          took = found.took;
          gave = [];
          since = found.since;
          known = record {
            passed = found.went;
            sofar = λ index. None;
            read = found.read;
            knows = λ rest if_known. record {
              at = λ next more are index lt v x. none_received w.texts (kept w.apid fresh (found.went ++ next)) index v
                  (between_none w.apid found.went b.text start 0 index next found.begun (omega arith) lt) x;
            };
            above = λ index le. refl;
            at_end = found.at_end;
          };
          shows = shows_nothing k g p fresh_walk;
          few = omega (arith, none);
          begun = omega (arith, none);
        };
        begun = grind (arith, nat_tests);
        few = few_first k w new b start found;
        lost = λ block low high. refl;
      };
      small = few_begun w.pixels w.apid found.went b.text start 0 image found.begun (ap (λ (s : FateState). s.geometry) (sym found.read.state) ∙ geometry)
          small;
    }
