-- The gaps are kept while blocks are passed.
use Rattle.std.proofs.Common.{◌≡◌, ◌≤◌, ◌<◌, ◌+◌, ◌*◌, ℕ, ℤ, Bool, true, false, List, [], ◌∷◌, ◌++◌, inl, inr, refl, sym, ap, subst, ◌∙◌, arith, ◌==◌, ◌&&◌}
use Rattle.std.proofs.Common.{if◌then◌else◌, nat_lt, Option, None, Some, unwrap_or, All}
use Rattle.std.proofs.lemmas.Bool.{cases_lt}
use Rattle.std.proofs.lemmas.Bool.Decides.{nat_tests}
use Rattle.std.proofs.lemmas.List.Elements.{All-cons, All-nil}
use Rattle.port_122.specs.Outside.{Outside}
use Rattle.port_122.proofs.Stretches.{since_start}
use Rattle.port_122.specs.Outside.{NoRead}
use Rattle.base_122.specs.Ranges.{IsGeometryInRange, IsWithin, rows_range}
use Rattle.base_122.specs.Sizes.{block_count}
use Rattle.base_122.specs.declared.geometry.Geometry.{Geometry}
use Rattle.stream_defs.specs.Agreement.{blocks_of}
use Rattle.quick_look.specs.declared.gap.Gap.{Gap}
use Rattle.quick_look.specs.Gaps.{AreAll, AreGaps, lost_below}
use Rattle.quick_look.proofs.GapRects.{gaps_low}
use Rattle.strip_decoder.specs.Sinks.{Blocks, Begins, EndsAt, Ends, Takes}
use Rattle.quick_look.specs.declared.gaps.Gaps.{Gaps}
use Rattle.quick_look.specs.GapSinks.{AreGapsOf, HasKept, IsValidAt, gap_sink, lost_in}
use Rattle.quick_look.specs.Sizes.{IsWithinImage}

-- ---- gaps of blocks

all_same : (p q : ℕ → Bool) (v : Bool) (a e n : ℕ) → e ≤ n → ((block : ℕ) → block < n → p block ≡ q block) → AreAll p v a e → AreAll q v a e
all_same p q v a e n le same all = record { at = λ block low high. sym (same block (omega (arith, high, le))) ∙ all.at block low high }

-- they are determined by which blocks before the end are missing
pub gaps_same : (p q : ℕ → Bool) (a : ℕ) (gaps : List Gap) (e n : ℕ) → e ≤ n → ((block : ℕ) → block < n → p block ≡ q block) → AreGaps p a gaps e →
    AreGaps q a gaps e
gaps_same p q a [] e n le same are = (are.0, all_same p q false a e n le same are.1)
gaps_same p q a (gap ∷ gaps) e n le same are =
    let is = are.0 in
    let order = is.order in
    let further = gaps_low p (gap.last + 2) gaps e are.1 in (
      record {
        low = is.low;
        order = order;
        before = all_same p q false a gap.first n (omega (arith, order, further, le)) same is.before;
        missing = all_same p q true gap.first (gap.last + 1) n (omega (arith, further, le)) same is.missing;
        ends = sym (same (gap.last + 1) (omega (arith, further, le))) ∙ is.ends;
      },
      gaps_same p q (gap.last + 2) gaps e n le same are.1,
    )

-- one block more, which isn't missing
gaps_more : (lost : ℕ → Bool) (a : ℕ) (gaps : List Gap) (e : ℕ) → lost e ≡ false → AreGaps lost a gaps e → AreGaps lost a gaps (e + 1)
gaps_more lost a [] e here are = let low = are.0 in (
  omega (arith, low),
  record {
    at = λ block from to. elim (cases_lt block e) [
      | inl before ↦ are.1.at block from before
      | inr last ↦ let same : block ≡ e = omega (arith, last, to) in ap lost same ∙ here
    ];
  },
)
gaps_more lost a (gap ∷ gaps) e here are = (are.0, gaps_more lost (gap.last + 2) gaps e here are.1)

-- one gap more, and the block after it
gaps_add : (lost : ℕ → Bool) (a : ℕ) (gaps : List Gap) (gap : Gap) → AreGaps lost a gaps gap.first → gap.first ≤ gap.last →
    AreAll lost true gap.first (gap.last + 1) → lost (gap.last + 1) ≡ false →
    AreGaps lost a (gaps ++ gap ∷ []) (gap.last + 2)
gaps_add lost a [] gap are order missing ends = (
  record { low = are.0; order = order; before = are.1; missing = missing; ends = ends },
  (omega arith, record { at = λ block low high. absurd (omega (arith, low, high)) }),
)
gaps_add lost a (first ∷ gaps) gap are order missing ends = (are.0, gaps_add lost (first.last + 2) gaps gap are.1 order missing ends)

of_same : (p q : ℕ → Bool) (ended : List Gap) (o : Option ℕ) (n : ℕ) → ((block : ℕ) → block < n → p block ≡ q block) → AreGapsOf p ended o n →
    AreGapsOf q ended o n
of_same p q ended None n same are = gaps_same p q 0 ended n n (omega arith) same are
of_same p q ended (Some first) n same are =
    let below = are.1 in
    (gaps_same p q 0 ended first n (omega (arith, below)) same are.0, below, all_same p q true first n n (omega arith) same are.2)

pub kept_same : (s : Gaps) (p q : ℕ → Bool) (n : ℕ) → ((block : ℕ) → block < n → p block ≡ q block) → HasKept s p n → HasKept s q n
kept_same s p q n same kept refused = of_same p q s.ended.items s.open_from n same (kept refused)

-- ---- a block with numbers

-- no gap is open before it
pub ends_none : (lost : ℕ → Bool) (ended : List Gap) (o : Option ℕ) (n : ℕ) → o ≡ None → lost n ≡ false → AreGapsOf lost ended o n →
    AreGaps lost 0 ended (n + 1)
ends_none lost ended None n e here are = gaps_more lost 0 ended n here are
ends_none lost ended (Some first) n e here are = absurd (let no : Some first ≡ None = e in cc)

-- a gap is open before it
pub ends_one : (lost : ℕ → Bool) (ended : List Gap) (o : Option ℕ) (n first : ℕ) (gap : Gap) → o ≡ Some first → gap.first ≡ first → gap.last + 1 ≡ n →
    lost n ≡ false → AreGapsOf lost ended o n → AreGaps lost 0 (ended ++ gap ∷ []) (n + 1)
ends_one lost ended None n first gap e low high here are = absurd (let no : None ≡ Some first = e in cc)
ends_one lost ended (Some from) n first gap e low high here are =
    let same : from ≡ gap.first = (let some : Some from ≡ Some first = e in let inner : from ≡ first = cc in inner) ∙ sym low in
    let below = are.1 in
    let whole : gap.last + 2 ≡ n + 1 = omega (arith, high) in
    subst (AreGaps lost 0 (ended ++ gap ∷ [])) whole
    (gaps_add lost 0 ended gap (subst (AreGaps lost 0 ended) same are.0) (omega (arith, below, high, same))
    (record { at = λ block from' to. are.2.at block (omega (arith, from', same)) (omega (arith, to, high)) }) (ap lost high ∙ here))

-- a gap has begun before it
pub open_below : (lost : ℕ → Bool) (ended : List Gap) (o : Option ℕ) (n : ℕ) → AreGapsOf lost ended o n → (first : ℕ) → o ≡ Some first → first < n
open_below lost ended None n are first e = absurd (let no : None ≡ Some first = e in cc)
open_below lost ended (Some from) n are first e = let same : from ≡ first = (let some : Some from ≡ Some first = e in cc) in let below =
    are.1 in omega (arith, below, same)

-- ---- a missing block

lost_more : (lost : ℕ → Bool) (ended : List Gap) (o : Option ℕ) (n : ℕ) → lost n ≡ true → AreGapsOf lost ended o n →
    AreGapsOf lost ended (Some (unwrap_or o n)) (n + 1)
lost_more lost ended None n here are = (
  are,
  omega arith,
  record {
    at = λ block low high. let same : block ≡ n =
        omega (arith, low, high) in ap lost same ∙ here;
  },
)
lost_more lost ended (Some first) n here are = let below = are.1 in (
  are.0,
  omega (arith, below),
  record {
    at = λ block low high. elim (cases_lt block n) [
      | inl before ↦ are.2.at block low before
      | inr last ↦ let same : block ≡ n = omega (arith, last, high) in ap lost same ∙ here
    ];
  },
)

-- ---- the sink

-- the same except for one block
abbrev with_block : (ℕ → Bool) → (n : ℕ) → Bool → ℕ → Bool
with_block lost n v block = if block == n then v else lost block

with_here : (lost : ℕ → Bool) (n : ℕ) (v : Bool) → with_block lost n v n ≡ v
with_here lost n v = ap (λ b. if b then v else lost n) (let e : (n == n) ≡ true = grind (arith, nat_tests) in e)

with_below : (lost : ℕ → Bool) (n : ℕ) (v : Bool) (block : ℕ) → block < n → lost block ≡ with_block lost n v block
with_below lost n v block lt = sym (ap (λ b. if b then v else lost block) (let e : (block == n) ≡ false = grind (arith, nat_tests) in e))

-- one block more was taken, which is missing or not
pub takes : (p : Outside) (old new : Gaps) (g : Geometry) (n : ℕ) (block : Option (List ℤ)) (v : Bool) → IsValidAt old g n → n < blocks_of g →
    new.passed ≡ old.passed + 1 → ((blocks : Blocks) → blocks n ≡ block → lost_in blocks n ≡ v) →
    ((lost : ℕ → Bool) → HasKept old lost n → lost n ≡ v → HasKept new lost (n + 1)) → Takes gap_sink g n block p p old new
takes p old new g n block v valid within count is step = record {
  gave = [];
  out = since_start p NoRead;
  valid = record {
    range = valid.range;
    height = valid.height;
    passed = let passed = valid.passed in omega (arith, count, passed);
    few = omega (arith, within);
    lost = with_block valid.lost n v;
    kept = step (with_block valid.lost n v) (kept_same old valid.lost (with_block valid.lost n v) n (λ b lt. with_below valid.lost n v b lt)
        valid.kept) (with_here valid.lost n v);
  };
  follows = λ blocks before keeps same. record { kept = step (lost_in blocks) keeps.kept (is blocks same); silent = ap (λ zs. zs ++ []) keeps.silent };
}

-- a block with numbers
pub keeps_put : (old new : Gaps) (n : ℕ) → old.passed ≡ n → new.open_from ≡ None →
    ((lost : ℕ → Bool) → HasKept old lost old.passed → lost old.passed ≡ false → new.refused ≡ false → AreGaps lost 0 new.ended.items (old.passed + 1)) →
    (lost : ℕ → Bool) → HasKept old lost n → lost n ≡ false → HasKept new lost (n + 1)
keeps_put old new n passed none ended lost kept here refused =
    subst (λ o. AreGapsOf lost new.ended.items o (n + 1)) (sym none)
    (subst (λ m. AreGaps lost 0 new.ended.items (m + 1)) passed (ended lost (subst (HasKept old lost) (sym passed) kept) (ap lost passed ∙ here) refused))

-- a missing block
pub keeps_lost : (old new : Gaps) (n : ℕ) → old.passed ≡ n → new.open_from ≡ Some (unwrap_or old.open_from old.passed) → new.ended ≡ old.ended →
    new.refused ≡ old.refused →
    (lost : ℕ → Bool) → HasKept old lost n → lost n ≡ true → HasKept new lost (n + 1)
keeps_lost old new n passed opens ended same lost kept here refused =
    subst (λ o. AreGapsOf lost new.ended.items o (n + 1)) (sym (opens ∙ ap (λ m. Some (unwrap_or old.open_from m)) passed))
    (subst (λ v. AreGapsOf lost v.items (Some (unwrap_or old.open_from n)) (n + 1)) (sym ended)
    (lost_more lost old.ended.items old.open_from n here (kept (sym same ∙ refused))))

-- none was taken
pub begins : (s : Gaps) (g : Geometry) → IsGeometryInRange g → IsWithin rows_range g.rows → s.ended.items ≡ [] → s.open_from ≡ None → s.passed ≡ 0 →
    Begins gap_sink g s
begins s g range height ended none passed = record {
  valid = record { range = range; height = height; passed = passed; few = omega arith; lost = λ block. false; kept = fresh (λ block. false) };
  follows = λ blocks. record { kept = fresh (lost_in blocks); silent = refl };
}
  where
    fresh : (lost : ℕ → Bool) → HasKept s lost 0
    fresh lost refused =
        subst (λ o. AreGapsOf lost s.ended.items o 0) (sym none)
        (subst (λ gaps. AreGaps lost 0 gaps 0) (sym ended) (omega arith, record { at = λ block low high. absurd (omega (arith, high)) }))

-- the image ends later than the last block
pub ends : (s : Gaps) (g h : Geometry) (n : ℕ) → IsValidAt s g n → EndsAt g h n → Ends gap_sink g h n s s
ends s g h n valid e = record {
  valid = record {
    range = e.range;
    height = e.height;
    passed = valid.passed;
    few = let more = e.more in omega (arith, more);
    lost = valid.lost;
    kept =
        valid.kept;
  };
  follows = λ blocks gave keeps. keeps;
}

-- ---- all gaps

pub gaps_of_all : (sink ended : Gaps) → ((lost : ℕ → Bool) → HasKept sink lost sink.passed → lost sink.passed ≡ false → ended.refused ≡ false →
    AreGaps lost 0 ended.ended.items (sink.passed + 1)) → ended.refused ≡ false →
    (lost : ℕ → Bool) → HasKept sink lost sink.passed → AreGaps (lost_below sink.passed lost) 0 ended.ended.items (sink.passed + 1)
gaps_of_all sink ended all refused lost kept =
    all (lost_below sink.passed lost)
    (kept_same sink lost (lost_below sink.passed lost) sink.passed
    (λ block lt. sym (ap (λ b. b && lost block) (let yes : nat_lt block sink.passed ≡ true = grind (arith, nat_tests) in yes))) kept)
    (ap (λ b. b && lost sink.passed) (let no : nat_lt sink.passed sink.passed ≡ false = grind (arith, nat_tests) in no)) refused

-- they are within the blocks
pub gaps_within : (lost : ℕ → Bool) (width a : ℕ) (gaps : List Gap) (e : ℕ) → e ≤ 32768 * block_count width + 1 → AreGaps lost a gaps e →
    All (IsWithinImage width) gaps
gaps_within lost width a [] e le are = All-nil (IsWithinImage width)
gaps_within lost width a (gap ∷ gaps) e le are =
    let further = gaps_low lost (gap.last + 2) gaps e are.1 in
    All-cons (IsWithinImage width) gap gaps (record { order = are.0.order; few = omega (arith, further, le) })
    (gaps_within lost width (gap.last + 2) gaps e le are.1)
