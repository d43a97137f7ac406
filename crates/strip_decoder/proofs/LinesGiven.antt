-- The lines of ranges that are given, one after another.
use Rattle.std.proofs.Common.{◌≡◌, ◌≤◌, ◌+◌, ℕ, List, [], ◌∷◌, ◌++◌, length, take, sym, ap, subst, ◌∙◌, arith, length-append, None, Some, Result, Ok, Err}
use Rattle.std.proofs.Common.{IsErr, flat_map}
use Rattle.std.proofs.lemmas.Bool.{false≢true}
use Rattle.std.proofs.lemmas.Grind.{flat_map-append}
use Rattle.std.proofs.lemmas.List.{append-nil, take-append-le}
use Rattle.std.proofs.Math.Seq.{take-append-add}
use Rattle.port_122.specs.Outside.{Outside, Exchange, NoRead, Rose, WritesAll}
use Rattle.port_122.proofs.Stretches.{since_start, since_out, rose_since}
use Rattle.stream_defs.specs.declared.range.RowRange.{RowRange}
use Rattle.stream_defs.specs.Marks.{Marks, next_range}
use Rattle.damage_rows.proofs.RangeWalk.{Walk, IsValidNext, walk_start, valid_next, walk_on, walk_ends}
use Rattle.strip_decoder.specs.Lines.{range_line, damage_lines}

abbrev pub lines_of : List RowRange → List ℕ
lines_of rs = flat_map range_line rs

-- the lines of the ranges before a row are given
pub record AreGiven (m : Marks) (old now : Outside) (from : ℕ) : Type 0 where
  pub walk : Walk m from
  pub out : Exchange old now [] (lines_of walk.before) [] NoRead

pub none_given : (m : Marks) (a : Outside) → AreGiven m a a 0
none_given m a = record { walk = walk_start m; out = since_start a NoRead }

lines_more : (before : List RowRange) (range : RowRange) → lines_of (before ++ range ∷ []) ≡ lines_of before ++ range_line range
lines_more before range = flat_map-append range_line before (range ∷ []) ∙ ap (λ zs. lines_of before ++ zs) (append-nil (range_line range))

-- the line of the next one was given
pub given_more : (m : Marks) (old now new : Outside) (from : ℕ) (range : RowRange) → AreGiven m old now from → Some range ≡ next_range m from →
    Exchange now new [] (range_line range) [] NoRead → AreGiven m old new (range.last + 1)
given_more m old now new from range given found out =
    let next = valid_next m from given.walk range found in
    record {
      walk = walk_on m from given.walk range next;
      out = subst (λ zs. Exchange old new [] zs [] NoRead) (sym (lines_more given.walk.before range)) (since_out given.out out);
    }

in_parts : (m : Marks) (from : ℕ) (w : Walk m from) (range : RowRange) → (next : IsValidNext m from w.after range) → damage_lines m ≡ lines_of w.before
    ++ (range_line range ++ lines_of next.rest)
unfolding damage_lines
in_parts m from w range next = ap lines_of (w.parts ∙ ap (λ rs. w.before ++ rs) next.after_is) ∙ flat_map-append range_line w.before (range ∷ next.rest)

-- or a part of it
pub given_part : {T E : Type 0} (r : Result T E) (m : Marks) (old now new : Outside) (from : ℕ) (range : RowRange) → IsErr r → AreGiven m old now from →
    Some range ≡ next_range m from →
    Rose now.write_faults new.write_faults × ((n : ℕ) × (n ≤ length (range_line range)) × Exchange now new [] (take n (range_line range)) [] NoRead) →
    WritesAll r old new (damage_lines m)
given_part (Ok x) m old now new from range is given found failed = absurd (false≢true is)
given_part (Err e) m old now new from range is given found failed =
    let next = valid_next m from given.walk range found in
    let n = failed.1.0 in
    let le = failed.1.1 in
    let first = lines_of given.walk.before in
    let line = range_line range in
    let later = lines_of next.rest in
    let all : damage_lines m ≡ first ++ (line ++ later) = in_parts m from given.walk range next in
    let prefix : take (length first + n) (damage_lines m) ≡ first ++ take n line =
    ap (take (length first + n)) all ∙ take-append-add first (line ++ later) n ∙ ap (λ zs. first ++ zs) (take-append-le n line later le) in (
      rose_since given.out.faults.writes failed.0,
      (
        length first + n,
        omega (arith, le, ap length all, length-append first (line ++ later), length-append line later),
        subst (λ zs. Exchange old new [] zs [] NoRead) (sym prefix) (since_out given.out failed.1.2),
      ),
    )

-- none is left
pub given_all : (m : Marks) (old now : Outside) (from : ℕ) → AreGiven m old now from → None ≡ next_range m from → Exchange old now [] (damage_lines m) [] NoRead
unfolding damage_lines
given_all m old now from given found =
    subst (λ rs. Exchange old now [] (lines_of rs) [] NoRead)
    (sym (given.walk.parts ∙ ap (λ rs. given.walk.before ++ rs) (walk_ends m from given.walk found) ∙ append-nil given.walk.before)) given.out
