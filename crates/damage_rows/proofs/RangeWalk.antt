-- The ranges of damaged rows, one after another.
use Rattle.std.proofs.Common.{◌≡◌, ◌≤◌, ◌<◌, ◌+◌, ℕ, List, [], ◌∷◌, ◌++◌, refl, sym, ◌∙◌, ap, arith, append_assoc, true, ◌&&◌, nat_le, None, Some, find}
use Rattle.std.proofs.lemmas.Bool.Decides.{nat_tests}
use Rattle.std.proofs.lemmas.Bool.{or_right, lt-leb, le-leb}
use Rattle.stream_defs.specs.declared.range.RowRange.{RowRange}
use Rattle.stream_defs.specs.Damage.{is_damaged, ranges, is_covered, LieApart}
use Rattle.stream_defs.specs.Marks.{Marks, next_range}
use Rattle.stream_defs.proofs.DamageLaws.{whole_damage, apart_earlier}
use Rattle.damage_rows.proofs.RangeLaws.{damaged_within}

-- no range of these begins at the row or later
abbrev pub AllBefore : (from : ℕ) → List RowRange → Type 0
AllBefore from [] = Unit {0}
AllBefore from (range ∷ ranges) = (range.first < from) × AllBefore from ranges

-- the ranges in two parts: those that begin before a row, and those that don't
pub record Walk (m : Marks) (from : ℕ) : Type 0 where
  pub before : List RowRange
  pub after : List RowRange
  pub parts : ranges m.rows m.missing ≡ before ++ after
  pub past : AllBefore from before
  pub apart : LieApart from after

abbrev pub walk_start : (m : Marks) → Walk m 0
walk_start m = record { before = []; after = ranges m.rows m.missing; parts = refl; past = tt; apart = (whole_damage m.rows m.missing).1 }

none_found : (from : ℕ) (before after : List RowRange) → AllBefore from before → find (λ r. nat_le from r.first) (before ++ after)
    ≡ find (λ r. nat_le from r.first) after
none_found from [] after past = refl
none_found from (r ∷ rs) after past = let miss = lt-leb from r.first past.0 in rw miss (none_found from rs after past.1)

-- the next range is the first of the second part
next_is : (m : Marks) (from : ℕ) (w : Walk m from) → next_range m from ≡ find (λ r. nat_le from r.first) w.after
next_is m from w = ap (find (λ r. nat_le from r.first)) w.parts ∙ none_found from w.before w.after w.past

pub all_later : (m n : ℕ) (rs : List RowRange) → m ≤ n → AllBefore m rs → AllBefore n rs
all_later m n [] le all = tt
all_later m n (r ∷ rs) le all = let first = all.0 in (omega (arith, first, le), all_later m n rs le all.1)

pub all_more : (n : ℕ) (rs : List RowRange) (r : RowRange) → AllBefore n rs → r.first < n → AllBefore n (rs ++ r ∷ [])
all_more n [] r all lt = (lt, tt)
all_more n (x ∷ rs) r all lt = (all.0, all_more n rs r all.1 lt)

-- a range of them is within the rows
covered_there : (before rest : List RowRange) (r : RowRange) → r.first ≤ r.last → is_covered (before ++ r ∷ rest) r.last ≡ true
covered_there [] rest r le = let e : (nat_le r.first r.last && nat_le r.last r.last) ≡ true = both r.first r.last le in rw e refl
  where
    both : (a b : ℕ) → a ≤ b → (nat_le a b && nat_le b b) ≡ true
    both a b le = grind (arith, nat_tests)
covered_there (x ∷ before) rest r le = or_right (nat_le x.first r.last && nat_le r.last x.last) (is_covered (before ++ r ∷ rest) r.last)
    (covered_there before rest r le)

-- a range is the next one, and others follow it
pub record IsValidNext (m : Marks) (from : ℕ) (after : List RowRange) (range : RowRange) : Type 0 where
  pub rest : List RowRange
  pub after_is : after ≡ range ∷ rest
  pub low : from ≤ range.first
  pub order : range.first ≤ range.last
  pub within : range.last < m.rows
  pub apart : LieApart (range.last + 2) rest

some_same : {x y : RowRange} → Some x ≡ Some y → x ≡ y
some_same e = cc

pub valid_next : (m : Marks) (from : ℕ) (w : Walk m from) (range : RowRange) → Some range ≡ next_range m from → IsValidNext m from w.after range
valid_next m from w range found = by w.after w.parts w.apart (found ∙ next_is m from w)
  where
    by : (after : List RowRange) → ranges m.rows m.missing ≡ w.before ++ after → LieApart from after → Some range ≡ find (λ r. nat_le from r.first) after →
        IsValidNext m from after range
    by [] parts apart found = absurd cc
    by (r ∷ rest) parts apart found =
        let hit = le-leb from r.first apart.0 in
        let first : Some range ≡ Some r = rw hit at found in
        let same : range ≡ r = some_same first in
        let damaged : is_damaged m.rows m.missing r.last ≡ true =
        sym ((whole_damage m.rows m.missing).0.each r.last) ∙ ap (λ rs. is_covered rs r.last) parts ∙ covered_there w.before rest r apart.1 in
        rw same record {
          rest = rest;
          after_is = refl;
          low = apart.0;
          order = apart.1;
          within = damaged_within m.rows m.missing r.last damaged;
          apart = apart.2;
        }

-- after the next range
abbrev pub walk_on : (m : Marks) (from : ℕ) (w : Walk m from) (range : RowRange) → IsValidNext m from w.after range → Walk m (range.last + 1)
walk_on m from w range next = record {
  before = w.before ++ range ∷ [];
  after = next.rest;
  parts = w.parts ∙ ap (λ rs. w.before ++ rs) next.after_is ∙ sym (append_assoc w.before (range ∷ []) next.rest);
  past = all_more (range.last + 1) w.before range (all_later from (range.last + 1) w.before (omega (arith, next.low, next.order)) w.past)
      (omega (arith, next.order));
  apart = apart_earlier (range.last + 1) (range.last + 2) next.rest (omega arith) next.apart;
}

-- none is left
pub walk_ends : (m : Marks) (from : ℕ) (w : Walk m from) → None ≡ next_range m from → w.after ≡ []
walk_ends m from w found = by w.after w.apart (found ∙ next_is m from w)
  where
    by : (after : List RowRange) → LieApart from after → None ≡ find (λ r. nat_le from r.first) after → after ≡ []
    by [] apart found = refl
    by (r ∷ rest) apart found =
        let hit = le-leb from r.first apart.0 in
        let first : None ≡ Some r = rw hit at found in
        absurd cc
