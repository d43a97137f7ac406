-- The ranges of damaged rows that are put into places so far.
use Rattle.std.proofs.Common.{◌≡◌, ◌≤◌, ◌+◌, ◌∙◌, ℕ, List, [], ◌∷◌, ◌++◌, length, map, refl, sym, ap, arith, length-append, None, Some, nat_lt}
use Rattle.std.proofs.Common.{if◌then◌else◌, slice_set, append-nil}
use Rattle.stream_defs.specs.declared.range.RowRange.{RowRange}
use Rattle.stream_defs.specs.Marks.{Marks, next_range}
use Rattle.damage_rows.proofs.RangeWalk.{Walk, walk_start, valid_next, walk_on, walk_ends}
use Rattle.strip122_c.specs.declared.ranges.Strip122Range.{Strip122Range}
use Rattle.strip122_c.specs.Ranges.{range_of, ranges_in, put_over}
use Rattle.strip122_c.proofs.Puts.{put_none, put_more}

-- those that begin before a row are put
pub record ArePut (m : Marks) (old now : List Strip122Range) (count from : ℕ) : Type 0 where
  pub walk : Walk m from
  pub places : now ≡ put_over (map range_of walk.before) old
  pub counted : count ≡ length walk.before
  pub few : count ≤ from

pub none_put : (m : Marks) (places : List Strip122Range) → ArePut m places places 0 0
none_put m places = record { walk = walk_start m; places = sym (put_none places); counted = refl_zero; few = omega arith }
  where
    refl_zero : 0 ≡ length (walk_start m).before
    refl_zero = omega arith

map-more : (before : List RowRange) (range : RowRange) → map range_of (before ++ range ∷ []) ≡ map range_of before ++ range_of range ∷ []
map-more [] range = refl
map-more (x ∷ before) range = ap (λ rs. range_of x ∷ rs) (map-more before range)

length-ranges : (rs : List RowRange) → length (map range_of rs) ≡ length rs
length-ranges [] = omega arith
length-ranges (r ∷ rs) = omega (arith, length-ranges rs)

-- one more
pub more_put : (m : Marks) (old now new : List Strip122Range) (count from : ℕ) (range : RowRange) → ArePut m old now count from →
    Some range ≡ next_range m from →
    new ≡ (if nat_lt count (length now) then slice_set now count (range_of range) else now) → ArePut m old new (count + 1) (range.last + 1)
more_put m old now new count from range put found sets =
    let next = valid_next m from put.walk range found in
    let before = put.walk.before in
    let there = map range_of before in
    let index : count ≡ length there = put.counted ∙ sym (length-ranges before) in
    let x = range_of range in
    let low = next.low in
    let order = next.order in
    record {
      walk = walk_on m from put.walk range next;
      places = sets ∙ ap (λ n. if nat_lt n (length now) then slice_set now n x else now) index
          ∙ ap (λ zs. if nat_lt (length there) (length zs) then slice_set zs (length there) x else zs) put.places
          ∙ sym (put_more there x old) ∙ ap (λ rs. put_over rs old) (sym (map-more before range));
      counted = omega (arith, put.counted, length-append before (range ∷ []));
      few = omega (arith, put.few, low, order);
    }

pub record AllPut (m : Marks) (old now : List Strip122Range) (count : ℕ) : Type 0 where
  pub places : now ≡ put_over (ranges_in m) old
  pub counted : count ≡ length (ranges_in m)

-- none is left
pub all_put : (m : Marks) (old now : List Strip122Range) (count from : ℕ) → ArePut m old now count from → None ≡ next_range m from → AllPut m old now count
all_put m old now count from put found =
    let walk = put.walk in
    let all : ranges_in m ≡ map range_of walk.before =
    ap (map range_of) (walk.parts ∙ ap (λ rs. walk.before ++ rs) (walk_ends m from walk found) ∙ append-nil walk.before) in
    record {
      places = put.places ∙ ap (λ rs. put_over rs old) (sym all);
      counted = put.counted ∙ sym (length-ranges walk.before) ∙ ap length (sym all);
    }
