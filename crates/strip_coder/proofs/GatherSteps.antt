-- Blocks are gathered one after another, and segments are written as they become full.
use Rattle.std.proofs.Common.{◌≡◌, ℕ, ◌+◌, ◌-◌, ◌*◌, ◌<◌, ◌≤◌, ℤ, List, [], length, refl, sym, ap, ◌∙◌, subst, arith, get_or, inl, inr, Result, Ok, Err, IsErr}
use Rattle.std.proofs.Common.{append-nil}
use Rattle.std.proofs.lemmas.Bool.{cases_lt}
use Rattle.std.proofs.lemmas.Bool.Decides.{nat_tests}
use Rattle.port_122.specs.Outside.{Outside, NoRead}
use Rattle.port_122.proofs.Stretches.{since_start, rose_since}
use Rattle.strip_coder.specs.Plans.{Job, IsPlan, whole}
use Rattle.base_122.specs.Sizes.{total_blocks, first_block, segment_blocks}
use Rattle.base_122.proofs.SizeBounds.{first_block-lt, total-le-segments}
use Rattle.wave_defs.specs.Held.{block_at}
use Rattle.stream_defs.specs.Output.{segments_of, used_before}
use Rattle.space_packets.specs.Progress.{Progress}
use Rattle.strip_coder.specs.declared.work.Work.{Work}
use Rattle.strip_coder.specs.declared.work.ImageAt.{ImageAt}
use Rattle.strip_coder.specs.Works.{IsMadeFor, KeepsShare, HasGathered, IsFull, HoldsBlocks, gathered_in}
use Rattle.strip_coder.specs.Steps.{octets_at, PutsBlocks, Continues, StopsEarly, NextAre, HasGone, HasBroken, Gathers, GathersSome, PresentOut, PresentCut}
use Rattle.strip_coder.proofs.PacketStretches.{goes_then, breaks_then, breaks_more}
use Rattle.strip_coder.proofs.SegmentSteps.{Rewritten, still_made, share_kept}

-- n blocks more are in a work
pub record HasPutSome (old mid : Work) (n : ℕ) (numbers : ℕ → List ℤ) : Type 0 where
  pub same : Rewritten old mid
  pub packets : mid.packets ≡ old.packets
  pub rows : mid.at.rows ≡ old.at.rows
  pub filled : mid.at.filled ≡ old.at.filled + n
  pub index : mid.at.index ≡ old.at.index
  pub used : mid.at.used ≡ old.at.used
  pub puts : PutsBlocks old.at.filled n old.blocks.numbers mid.blocks.numbers numbers

pub put_some : (old mid : Work) (n : ℕ) (numbers : ℕ → List ℤ) → Rewritten old mid → mid.packets ≡ old.packets →
    mid.at ≡ record { rows = old.at.rows; filled = old.at.filled + n; index = old.at.index; used = old.at.used } →
    PutsBlocks old.at.filled n old.blocks.numbers mid.blocks.numbers numbers → HasPutSome old mid n numbers
put_some old mid n numbers same packets at puts = record {
  same = same;
  packets = packets;
  rows = ap (λ (a : ImageAt). a.rows) at;
  filled = ap (λ (a : ImageAt). a.filled) at;
  index = ap (λ (a : ImageAt). a.index) at;
  used = ap (λ (a : ImageAt). a.used) at;
  puts = puts;
}

module _ (s : Job) (range : IsPlan s) where
  some_blocks : 0 < s.setting.segment
  some_blocks = let segment = range.in_range.segment in omega (arith, segment)

  -- a block's place in the whole image
  pub place_is : (w : Work) → w.at.index < segments_of (whole s) → gathered_in s w.at ≡ first_block s.setting.segment w.at.index + w.at.filled
  place_is w lt = let before = first_block-lt (total_blocks s.setting.width s.rows) s.setting.segment w.at.index some_blocks lt in omega (arith, before)

  -- a place below all blocks is in a segment
  pub more_segments : (w : Work) → HasGathered s w → gathered_in s w.at < total_blocks s.setting.width s.rows → w.at.index < segments_of (whole s)
  more_segments w has lt = grind (arith, nat_tests, total-le-segments, some_blocks)

  put_holds : (old mid : Work) (n : ℕ) (numbers : ℕ → List ℤ) → old.at.index < segments_of (whole s) → HasPutSome old mid n numbers → (all : List (List ℤ)) →
      NextAre s old n numbers all →
      HoldsBlocks s all old → HoldsBlocks s all mid
  put_holds old mid n numbers lt put all next holds = record {
    blocks = λ i few.
        let filled = put.filled in
        let first : first_block s.setting.segment mid.at.index ≡ first_block s.setting.segment old.at.index = ap (λ n. n * s.setting.segment) put.index in
        let there : get_or all (first_block s.setting.segment mid.at.index + i) [] ≡ get_or all (first_block s.setting.segment old.at.index + i) [] =
        ap (λ n. get_or all (n + i) []) first in
        elim (cases_lt i old.at.filled) [
          | inl before ↦ put.puts.before i before ∙ holds.blocks i before ∙ sym there
          | inr past ↦
              let k = i - old.at.filled in
              let low : k < n = omega (arith, past, few, filled) in
              let e : i ≡ old.at.filled + k = omega (arith, past) in
              let place : gathered_in s old.at + k ≡ first_block s.setting.segment old.at.index + i = omega (arith, place_is old lt, e) in
              ap (block_at mid.blocks.numbers) e ∙ put.puts.here k low ∙ sym (next.next k low) ∙ ap (λ m. get_or all m []) place ∙ sym there
        ];
    given = rw (put.packets, put.index, put.used) holds.given;
    used = λ some. put.used ∙ holds.used some ∙ ap (used_before (whole s) all) (sym put.index);
  }

  put_made : (old mid : Work) (n : ℕ) (numbers : ℕ → List ℤ) → HasGathered s old → HasPutSome old mid n numbers → IsMadeFor s.setting mid
  put_made old mid n numbers has put = still_made s.setting old mid has.made put.same (ap (λ (v : Progress). v.packet) put.packets)

  put_held : (old mid : Work) (n : ℕ) (numbers : ℕ → List ℤ) → HasPutSome old mid n numbers → length mid.blocks.numbers ≡ 64 * mid.at.filled
  put_held old mid n numbers put = put.puts.long ∙ ap (λ m. 64 * m) (sym put.filled)

  put_share : (old mid : Work) (n : ℕ) (numbers : ℕ → List ℤ) → KeepsShare (whole s) old.at → HasPutSome old mid n numbers → KeepsShare (whole s) mid.at
  put_share old mid n numbers share put = share_kept (whole s) old.at mid.at put.index put.used share

  -- the segment isn't full yet
  pub put_part : {p : Outside} (old mid : Work) (n : ℕ) (numbers : ℕ → List ℤ) → HasGathered s old → old.at.index < segments_of (whole s) →
      HasPutSome old mid n numbers →
      mid.at.filled < segment_blocks (total_blocks s.setting.width s.rows) s.setting.segment old.at.index → HasGone s numbers n p p old mid
  put_part {p = p} old mid n numbers has lt put part =
      let index = put.index in
      let filled = put.filled in
      let first : first_block s.setting.segment mid.at.index ≡ first_block s.setting.segment old.at.index = ap (λ n. n * s.setting.segment) index in
      let le = has.index in
      record {
        stays = record { strip = put.same.strip; row = put.same.row; rows = put.rows };
        gathered = record {
          made = put_made old mid n numbers has put;
          share = put_share old mid n numbers has.share put;
          index = omega (arith, index, le);
          present = λ h. subst (λ n. mid.at.filled < segment_blocks (total_blocks s.setting.width s.rows) s.setting.segment n) (sym index) part;
          none = λ e. absurd (omega (arith, e, index, lt));
          held = put_held old mid n numbers put;
          ready = rw (put.packets, put.index, put.used) has.ready;
        };
        count = omega (arith, first, filled);
        faults = omega arith;
        holds = λ all next holds. put_holds old mid n numbers lt put all next holds;
        goes = λ all next holds. record {
          gave = [];
          out = since_start p NoRead;
          then_are = append-nil (octets_at s all old.at.index) ∙ ap (octets_at s all) (sym index);
        };
      }

  -- it is full
  pub put_full : (old mid : Work) (n : ℕ) (numbers : ℕ → List ℤ) → HasGathered s old → old.at.index < segments_of (whole s) → HasPutSome old mid n numbers →
      mid.at.filled ≡ segment_blocks (total_blocks s.setting.width s.rows) s.setting.segment old.at.index → IsFull s mid
  put_full old mid n numbers has lt put whole_one =
      let index = put.index in
      let first : first_block s.setting.segment mid.at.index ≡ first_block s.setting.segment old.at.index = ap (λ n. n * s.setting.segment) index in
      record {
        made = put_made old mid n numbers has put;
        share = put_share old mid n numbers has.share put;
        index = omega (arith, index, lt);
        full = omega (arith, first, whole_one);
        held = put_held old mid n numbers put;
        ready = rw (put.packets, put.index, put.used) has.ready;
      }

  -- and was written
  pub put_gone : {p q : Outside} (old mid new : Work) (n : ℕ) (numbers : ℕ → List ℤ) → HasGathered s old → old.at.index < segments_of (whole s) →
      HasPutSome old mid n numbers →
      mid.at.filled ≡ segment_blocks (total_blocks s.setting.width s.rows) s.setting.segment old.at.index → PresentOut s p q mid new →
      HasGone s numbers n p q old new
  put_gone {p = p} {q = q} old mid new n numbers has lt put whole_one out =
      let index = put.index in
      let filled = put.filled in
      let next_index = out.index in
      let none = out.filled in
      let first : first_block s.setting.segment new.at.index ≡ first_block s.setting.segment old.at.index + s.setting.segment =
      ap (λ n. n * s.setting.segment) (next_index ∙ ap (λ n. n + 1) index)
      ∙ (let t : (old.at.index + 1) * s.setting.segment ≡ old.at.index * s.setting.segment + s.setting.segment = omega arith in t) in
      record {
        stays = record { strip = out.stays.strip ∙ put.same.strip; row = out.stays.row ∙ put.same.row; rows = out.stays.rows ∙ put.rows };
        gathered = out.gathered;
        count = omega (
          arith,
          first,
          filled,
          whole_one,
          none,
          first_block-lt (total_blocks s.setting.width s.rows) s.setting.segment old.at.index
              some_blocks lt,
        );
        faults = out.faults;
        holds = λ all next holds. out.holds all next.whole (put_holds old mid n numbers lt put all next holds);
        goes = λ all next holds. subst (λ i. Continues s all i new.at.index p q) index
            (out.goes all next.whole (put_holds old mid n numbers lt put all next holds));
      }

  pub put_broken : {p q : Outside} (old mid new : Work) (n : ℕ) (numbers : ℕ → List ℤ) → old.at.index < segments_of (whole s) → HasPutSome old mid n numbers →
      PresentCut s p q mid new → HasBroken s numbers n p q old new
  put_broken {p = p} {q = q} old mid new n numbers lt put cut = record {
    made = cut.made;
    rose = cut.rose;
    breaks = λ all next holds.
        let index = put.index in
        let filled = put.filled in
        let first : first_block s.setting.segment mid.at.index ≡ first_block s.setting.segment old.at.index = ap (λ n. n * s.setting.segment) index in
        let count : gathered_in s mid.at ≤ gathered_in s old.at + n = omega (arith, first, filled) in
        breaks_more s all old.at.index (gathered_in s mid.at) (gathered_in s old.at + n) count
        (subst (λ i. StopsEarly s all i (gathered_in s mid.at) p q) index (cut.breaks all next.whole (put_holds old mid n numbers lt put all next holds)));
  }

-- ---- one after another

pub none_gone : {p : Outside} (s : Job) (w : Work) (numbers : ℕ → List ℤ) → HasGathered s w → HasGone s numbers 0 p p w w
none_gone {p = p} s w numbers has = record {
  stays = record { strip = refl; row = refl; rows = refl };
  gathered = has;
  count = omega arith;
  faults = omega arith;
  holds = λ all next holds. holds;
  goes = λ all next holds. record {
    gave = [];
    out = since_start p NoRead;
    then_are = append-nil (octets_at s all w.at.index);
  };
}

next_prefix : (s : Job) (old : Work) (numbers : ℕ → List ℤ) (n j : ℕ) (all : List (List ℤ)) → j ≤ n → NextAre s old n numbers all → NextAre s old j numbers all
next_prefix s old numbers n j all le next = record { whole = next.whole; next = λ i lt. next.next i (omega (arith, lt, le)) }

next_some : (s : Job) (old mid : Work) (numbers : ℕ → List ℤ) (n j m : ℕ) (all : List (List ℤ)) → j + m ≤ n → gathered_in s mid.at ≡ gathered_in s old.at + j →
    NextAre s old n numbers all → NextAre s mid m (λ k. numbers (j + k)) all
next_some s old mid numbers n j m all le count next = record {
  whole = next.whole;
  next = λ i few.
      let place : gathered_in s mid.at + i ≡ gathered_in s old.at + (j + i) = omega (arith, count) in
      ap (λ k. get_or all k []) place ∙ next.next (j + i) (omega (arith, le, few));
}

pub then_gone : {p q r : Outside} (s : Job) (old mid new : Work) (numbers : ℕ → List ℤ) (j m : ℕ) → HasGone s numbers j p q old mid →
    HasGone s (λ k. numbers (j + k)) m q r mid new →
    HasGone s numbers (j + m) p r old new
then_gone {p = p} {r = r} s old mid new numbers j m before here =
    let count = before.count in
    let some = here.count in
    record {
      stays = record { strip = here.stays.strip ∙ before.stays.strip; row = here.stays.row ∙ before.stays.row; rows = here.stays.rows ∙ before.stays.rows };
      gathered = here.gathered;
      count = omega (arith, count, some);
      faults = (let rise = before.faults in let more = here.faults in omega (arith, rise, more));
      holds = λ all next holds.
          here.holds all (next_some s old mid numbers (j + m) j m all (omega arith) count next)
          (before.holds all (next_prefix s old numbers (j + m) j all (omega arith) next) holds);
      goes = λ all next holds.
          let prefix = next_prefix s old numbers (j + m) j all (omega arith) next in
          goes_then s all old.at.index mid.at.index new.at.index (before.goes all prefix holds)
          (here.goes all (next_some s old mid numbers (j + m) j m all (omega arith) count next) (before.holds all prefix holds));
    }

pub then_broken : {p q r : Outside} (s : Job) (old mid new : Work) (numbers : ℕ → List ℤ) (n j m : ℕ) → j + m ≤ n → HasGone s numbers j p q old mid →
    HasBroken s (λ k. numbers (j + k)) m q r mid new →
    HasBroken s numbers n p r old new
then_broken {p = p} {r = r} s old mid new numbers n j m fit before here = record {
  made = here.made;
  rose = rose_since before.faults here.rose;
  breaks = λ all next holds.
      let prefix = next_prefix s old numbers n j all (omega (arith, fit)) next in
      let count = before.count in
      let le : gathered_in s mid.at + m ≤ gathered_in s old.at + n = omega (arith, count, fit) in
      breaks_then s all old.at.index mid.at.index (gathered_in s old.at + n) (before.goes all prefix holds)
      (breaks_more s all mid.at.index (gathered_in s mid.at + m) (gathered_in s old.at + n) le
      (here.breaks all (next_some s old mid numbers n j m all fit count next) (before.holds all prefix holds)));
}

-- a break among the first blocks is one among more
broken_more : {p q : Outside} (s : Job) (old new : Work) (numbers : ℕ → List ℤ) (n most : ℕ) → n ≤ most → HasBroken s numbers n p q old new →
    HasBroken s numbers most p q old new
broken_more s old new numbers n most le b = record {
  made = b.made;
  rose = b.rose;
  breaks = λ all next holds.
      breaks_more s all old.at.index (gathered_in s old.at + n) (gathered_in s old.at + most) (omega (arith, le))
      (b.breaks all (next_prefix s old numbers most n all le next) holds);
}

pub failed_some : {E : Type 0} (p q : Outside) (r : Result ℕ E) (s : Job) (numbers : ℕ → List ℤ) (n most : ℕ) (old new : Work) → IsErr r → n ≤ most →
    HasBroken s numbers n p q old new → GathersSome r s numbers most p q old new
failed_some p q (Ok x) s numbers n most old new h le b = absurd cc
failed_some p q (Err x) s numbers n most old new h le b = broken_more s old new numbers n most le b

pub failed_gathers : {T E : Type 0} (p q : Outside) (r : Result T E) (s : Job) (numbers : ℕ → List ℤ) (n : ℕ) (old new : Work) → IsErr r →
    HasBroken s numbers n p q old new → Gathers r s numbers n p q old new
failed_gathers p q (Ok x) s numbers n old new h b = absurd cc
failed_gathers p q (Err x) s numbers n old new h b = b
