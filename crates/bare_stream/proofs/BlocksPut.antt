-- The blocks of a segment, given to a picture one after another.
use Rattle.std.proofs.Common.{◌≡◌, ◌<◌, ◌≤◌, ◌+◌, ℕ, ℤ, List, [], ◌++◌, take, refl, sym, ap, subst, ◌∙◌, arith, append_assoc, Result, Ok, Err, IsErr}
use Rattle.std.proofs.Common.{append-nil}
use Rattle.std.proofs.lemmas.Bool.{false≢true}
use Rattle.port_122.specs.Outside.{Outside, NoRead}
use Rattle.port_122.proofs.Stretches.{since_start, since_out, rose_since}
use Rattle.base_122.specs.declared.geometry.Geometry.{Geometry}
use Rattle.wave_defs.specs.Held.{block_at}
use Rattle.stream_defs.specs.Settled.{rows_through, block_rows_before}
use Rattle.picture_rows.specs.Prefixes.{rows_of}
use Rattle.picture_rows.specs.Pictures.{PictureState, IsPictureCurrent, passed_in, total_in}
use Rattle.picture_rows.specs.Steps.{RowsStop, HasPutBlock, HasNextNumbers}
use Rattle.picture_rows.proofs.RowsOut.{prefix_within, rows_through-rises}
use Rattle.bare_stream.specs.Blocks.{HasNextBlocks, HasPutBlocks, PutsBlocks}

pub none_put : (cells : List ℤ) (p : PictureState) (a : Outside) → IsPictureCurrent p → HasPutBlocks cells 0 a a p p
none_put cells p a current = record {
  current = current;
  geometry = refl;
  count = omega arith;
  goes = record {
    gave = [];
    out = since_start a NoRead;
    follows = λ numbers n. n.valid;
    given =
        λ numbers n. append-nil (rows_of p.geometry numbers p.at.next);
  };
}

pub puts_failed : {T E : Type 0} {a b : Outside} {p : PictureState} (r : Result T E) (cells : List ℤ) (n : ℕ) (z : PictureState) → IsErr r →
    RowsStop (HasNextBlocks cells n p) (block_rows_before p.geometry (passed_in p + n)) a b p → PutsBlocks r cells n a b p z
puts_failed (Ok x) cells n z is broken = absurd (false≢true is)
puts_failed (Err e) cells n z is broken = broken

module _ (cells : List ℤ) (i : ℕ) {a b : Outside} (p x : PictureState) (put : HasPutBlocks cells i a b p x) where
  -- the first ones, and the next
  first_ones : (n : ℕ) (numbers : ℕ → ℕ → ℤ) → i ≤ n → HasNextBlocks cells n p numbers → HasNextBlocks cells i p numbers
  first_ones n numbers le next = record { valid = next.valid; next = λ k j lt small. next.next k j (omega (arith, lt, le)) small }

  next_one : (n : ℕ) (numbers : ℕ → ℕ → ℤ) → i < n → HasNextBlocks cells n p numbers → HasNextNumbers (block_at cells i) x numbers
  next_one n numbers lt next = record {
    valid = put.goes.follows numbers (first_ones n numbers (omega (arith, lt)) next);
    next = λ j small. ap (λ m. numbers m j) put.count ∙ next.next i j lt small;
  }

  so_far : (n : ℕ) (numbers : ℕ → ℕ → ℤ) → i < n → HasNextBlocks cells n p numbers → rows_of p.geometry numbers p.at.next ++ put.goes.gave
      ≡ rows_of p.geometry numbers x.at.next
  so_far n numbers lt next = put.goes.given numbers (first_ones n numbers (omega (arith, lt)) next)

  pub put_then : {c : Outside} (z : PictureState) → HasPutBlock (HasNextNumbers (block_at cells i) x) b c x z → HasPutBlocks cells (i + 1) a c p z
  put_then z one = record {
    current = one.current;
    geometry = one.geometry ∙ put.geometry;
    count = (let m = one.count in let n = put.count in omega (arith, m, n));
    goes = record {
      gave = put.goes.gave ++ one.goes.gave;
      out = since_out put.goes.out one.goes.out;
      follows = λ numbers next. one.goes.follows numbers (next_one (i + 1) numbers (omega arith) next);
      given = λ numbers next.
          sym (append_assoc (rows_of p.geometry numbers p.at.next) put.goes.gave one.goes.gave)
          ∙ ap (λ l. l ++ one.goes.gave) (so_far (i + 1) numbers (omega arith) next)
          ∙ subst (λ g. rows_of g numbers x.at.next ++ one.goes.gave ≡ rows_of g numbers z.at.next) put.geometry
          (one.goes.given numbers (next_one (i + 1) numbers (omega arith) next));
    };
  }

  -- a write failed at the next
  pub broke_then : {c : Outside} (n : ℕ) → i < n → IsPictureCurrent p → passed_in p + n ≤ total_in p →
      RowsStop (HasNextNumbers (block_at cells i) x) (block_rows_before x.geometry (passed_in x + 1)) b c x →
      RowsStop (HasNextBlocks cells n p) (block_rows_before p.geometry (passed_in p + n)) a c p
  broke_then n lt current room broken = record {
    gave = put.goes.gave ++ broken.gave;
    out = since_out put.goes.out broken.out;
    rose = rose_since put.goes.out.faults.writes broken.rose;
    given = λ numbers next.
        let here = broken.given numbers (next_one n numbers lt next) in
        let there : rows_of p.geometry numbers x.at.next ++ broken.gave
        ≡ take here.0 (rows_of p.geometry numbers (rows_through p.geometry (block_rows_before p.geometry (passed_in x + 1)))) =
        subst (λ (g : Geometry). rows_of g numbers x.at.next ++ broken.gave ≡ take here.0
        (rows_of g numbers (rows_through g (block_rows_before g (passed_in x + 1))))) put.geometry here.1 in
        let column = current.sized.column in
        let count = put.count in
        let rise = rows_through-rises p.geometry (passed_in x + 1) (passed_in p + n) (omega (arith, column)) (omega (arith, count, lt)) room in
        let within = prefix_within p.geometry numbers (rows_through p.geometry (block_rows_before p.geometry (passed_in x + 1)))
        (rows_through p.geometry (block_rows_before p.geometry (passed_in p + n))) here.0 rise in (
          within.0,
          sym (append_assoc (rows_of p.geometry numbers p.at.next) put.goes.gave broken.gave) ∙ ap (λ l. l ++ broken.gave) (so_far n numbers lt next)
              ∙ there ∙ within.1,
        );
  }
