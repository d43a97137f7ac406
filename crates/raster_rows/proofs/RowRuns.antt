-- A row that is read piece by piece.
use Rattle.std.proofs.Common.{◌≡◌, ◌<◌, ◌≤◌, ◌+◌, ◌-◌, ◌*◌, ◌∙◌, inl, inr, ℕ, ℤ, pos, Bool, List, [], ◌++◌, length, get_or, take, refl, sym, subst, arith}
use Rattle.std.proofs.Common.{length-append, Err}
use Rattle.std.proofs.lemmas.Bool.{cases_lt}
use Rattle.std.proofs.lemmas.List.{append-nil, length-take-le, take-append-le}
use Rattle.std.proofs.Math.Seq.{take-length}
use Rattle.std.proofs.lemmas.Bool.Decides.{nat_tests}
use Rattle.port_122.specs.Outside.{Outside, Exchange, Read, ReadFailed}
use Rattle.port_122.proofs.Stretches.{since_start, since_weaker}
use Rattle.port_122.proofs.ReadCalls.{since_unread, since_end, unread_rose}
use Rattle.raster_rows.specs.Pixels.{IsPixel, pixel_size, pixel_at, whole_pixels}
use Rattle.raster_rows.specs.Pieces.{PixelsPut}
use Rattle.raster_rows.specs.RowReads.{BeginsWith, FirstInRange, InRow, Unfinished, RowRead}
use Rattle.raster_rows.specs.declared.reading.RowFault.TheVariants.{ReadFault, Short}
use Rattle.raster_rows.proofs.PixelPlaces.{size_some, pixel_at-append_left, pixel_at-append_right, pixel_at-take, whole_pixels-is, whole_before}

-- the octets of the row's whole pixels so far; the buffer holds those of a pixel that is not whole
pub record RowSoFar (depth : ℕ) (signed : Bool) (width : ℕ) (old now : Outside) (before after : List ℤ) (buffer : List ℕ) (column held : ℕ) : Type 0 where
  pub prefix : List ℕ
  pub size : length prefix ≡ column * pixel_size depth
  pub few : held < pixel_size depth
  pub room : held ≤ length buffer
  pub inside : column * pixel_size depth + held ≤ width * pixel_size depth
  pub since : Exchange old now (prefix ++ take held buffer) [] [] (InRow depth signed width (prefix ++ take held buffer))
  pub in_range : FirstInRange depth signed prefix column
  pub begins : BeginsWith depth signed prefix column before after

-- a pixel of the whole ones so far
pub earlier_pixel : (depth : ℕ) (signed : Bool) (prefix more : List ℕ) (column k : ℕ) → length prefix ≡ column * pixel_size depth → k < column →
    pixel_at depth signed (prefix ++ more) k ≡ pixel_at depth signed prefix k
earlier_pixel depth signed prefix more column k len lt = grind (arith, nat_tests, whole_before, pixel_at-append_left)

-- a pixel of the piece that follows
pub later_pixel : (depth : ℕ) (signed : Bool) (prefix piece : List ℕ) (column k n m : ℕ) → length prefix ≡ column * pixel_size depth →
    n * pixel_size depth ≤ m → m ≤ length piece → k < n → pixel_at depth signed (prefix ++ take m piece) (column + k) ≡ pixel_at depth signed piece k
later_pixel depth signed prefix piece column k n m len le room lt = grind (arith, nat_tests, whole_before, pixel_at-append_right, pixel_at-take)

-- a property of each column before another and of n from there on
pub both_parts : (P : ℕ → Type 0) (column n : ℕ) → ((k : ℕ) → k < column → P k) → ((k : ℕ) → k < n → P (column + k)) → (k : ℕ) → k < column + n → P k
both_parts P column n p q k lt = elim (cases_lt k column)
    [ inl low ↦ p k low | inr high ↦ let at : column + (k - column) ≡ k = omega arith in subst P at (q (k - column) (omega arith)) ]

pub more_in_range : (depth : ℕ) (signed : Bool) (prefix piece : List ℕ) (column n m : ℕ) (before after : List ℤ) → length prefix ≡ column * pixel_size depth →
    n * pixel_size depth ≤ m → m ≤ length piece → FirstInRange depth signed prefix column → PixelsPut depth signed piece column n before after →
    FirstInRange depth signed (prefix ++ take m piece) (column + n)
more_in_range depth signed prefix piece column n m before after len le room p q =
    let P : ℕ → Type 0 = λ k. IsPixel depth signed (pixel_at depth signed (prefix ++ take m piece) k) in
    record {
      each = both_parts P column n
          (λ k lt. subst (IsPixel depth signed) (sym (earlier_pixel depth signed prefix (take m piece) column k len lt)) (p.each k lt))
          (λ k lt. subst (IsPixel depth signed) (sym (later_pixel depth signed prefix piece column k n m len le room lt)) (q.in_range k lt));
    }

pub more_begins : (depth : ℕ) (signed : Bool) (prefix piece : List ℕ) (column n m : ℕ) (before mid after : List ℤ) → length prefix ≡ column * pixel_size depth →
    n * pixel_size depth ≤ m → m ≤ length piece → BeginsWith depth signed prefix column before mid → PixelsPut depth signed piece column n mid after →
    BeginsWith depth signed (prefix ++ take m piece) (column + n) before after
more_begins depth signed prefix piece column n m before mid after len le room p q =
    let P : ℕ → Type 0 = λ k. get_or after k (pos 0) ≡ pixel_at depth signed (prefix ++ take m piece) k in
    record {
      first = both_parts P column n
          (λ k lt. q.below k lt ∙ p.first k lt ∙ sym (earlier_pixel depth signed prefix (take m piece) column k len lt))
          (λ k lt. q.put k lt ∙ sym (later_pixel depth signed prefix piece column k n m len le room lt));
      others = λ k le. q.above k le ∙ p.others k (omega arith);
      same = q.same ∙ p.same;
    }

-- a property of the whole pixels' octets holds with those of a pixel that is not whole
pub still_in_range : (depth : ℕ) (signed : Bool) (prefix more : List ℕ) (column : ℕ) → length prefix ≡ column * pixel_size depth →
    FirstInRange depth signed prefix column → FirstInRange depth signed (prefix ++ more) column
still_in_range depth signed prefix more column len p = record {
  each = λ k lt. subst (IsPixel depth signed) (sym (earlier_pixel depth signed prefix more column k len lt)) (p.each k lt);
}

pub still_begins : (depth : ℕ) (signed : Bool) (prefix more : List ℕ) (column : ℕ) (before after : List ℤ) → length prefix ≡ column * pixel_size depth →
    BeginsWith depth signed prefix column before after → BeginsWith depth signed (prefix ++ more) column before after
still_begins depth signed prefix more column before after len p = record {
  first = λ k lt. p.first k lt ∙ sym (earlier_pixel depth signed prefix more column k len lt);
  others = p.others;
  same = p.same;
}

-- how many octets were taken
pub so_far_size : {depth width column held : ℕ} {signed : Bool} {old now : Outside} {before after : List ℤ} {buffer : List ℕ} →
    (p : RowSoFar depth signed width old now before after buffer column held) → length (p.prefix ++ take held buffer) ≡ column * pixel_size depth + held
so_far_size {held = held} {buffer = buffer} p = grind (arith, nat_tests, length-append, length-take-le)

-- a row that is not read to its end
unfinished : {depth width column held : ℕ} {signed : Bool} {old now : Outside} {before after : List ℤ} {buffer : List ℕ} →
    (p : RowSoFar depth signed width old now before after buffer column held) → column < width →
    Unfinished depth signed width (p.prefix ++ take held buffer) before after
unfinished {depth = depth} {width = width} {column = column} {held = held} {signed = signed} {before = before} {after = after} {buffer = buffer} p lt =
    let more : (column + 1) * pixel_size depth ≤ width * pixel_size depth = whole_before (pixel_size depth) column width lt in
    let whole : whole_pixels depth (p.prefix ++ take held buffer) ≡ column = whole_pixels-is depth (p.prefix ++ take held buffer) column held (so_far_size p)
    p.few in
    record {
      inside = omega (arith, so_far_size p, more, p.few);
      in_range = rw whole (still_in_range depth signed p.prefix (take held buffer) column p.size p.in_range);
      begins = rw whole (still_begins depth signed p.prefix (take held buffer) column before after p.size p.begins);
    }

-- a read call inside the row, before more is taken
pub asks_here : {depth width column held : ℕ} {signed : Bool} {old now : Outside} {before after : List ℤ} {buffer : List ℕ} (more : List ℕ) →
    (p : RowSoFar depth signed width old now before after buffer column held) → column < width →
    InRow depth signed width ((p.prefix ++ take held buffer) ++ more) (length (p.prefix ++ take held buffer)) 0
asks_here {depth = depth} {held = held} {signed = signed} {buffer = buffer} more p lt =
    let took : List ℕ = p.prefix ++ take held buffer in
    let here = unfinished p lt in
    let same : take (length took) (took ++ more) ≡ took = take-append-le (length took) took more (omega arith) ∙ take-length took in
    (here.inside, refl, subst (λ zs. FirstInRange depth signed zs (whole_pixels depth zs)) (sym same) here.in_range)

-- the read calls so far, if more is taken
pub asked_so_far : {depth width column held : ℕ} {signed : Bool} {old now : Outside} {before after : List ℤ} {buffer : List ℕ} (more : List ℕ) →
    (p : RowSoFar depth signed width old now before after buffer column held) →
    Exchange old now (p.prefix ++ take held buffer) [] [] (InRow depth signed width ((p.prefix ++ take held buffer) ++ more))
asked_so_far {depth = depth} {held = held} {signed = signed} {buffer = buffer} more p =
    let took : List ℕ = p.prefix ++ take held buffer in
    since_weaker p.since
    (λ i j le r. (r.0, r.1, subst (λ zs. FirstInRange depth signed zs (whole_pixels depth zs)) (sym (take-append-le i took more le)) r.2))

pub row_start : (depth : ℕ) (signed : Bool) (width : ℕ) (old : Outside) (into : List ℤ) (buffer : List ℕ) →
    RowSoFar depth signed width old old into into buffer 0 0
row_start depth signed width old into buffer = record {
  prefix = [];
  size = omega arith;
  few = size_some depth;
  room = omega arith;
  inside = omega arith;
  since = since_start old (InRow depth signed width []);
  in_range = record { each = λ k lt. absurd (omega arith) };
  begins = record { first = λ k lt. absurd (omega arith); others = λ k le. refl; same = refl };
}

pub row_unread : {T : Type 0} {depth width column held : ℕ} {signed : Bool} {old now new : Outside} {before after : List ℤ} {buffer : List ℕ} (row : ℕ) →
    RowSoFar depth signed width old now before after buffer column held → column < width → ReadFailed now new →
    RowRead {T = T} depth signed width row old new before after (Err ReadFault)
row_unread {depth = depth} {width = width} {held = held} {signed = signed} {old = old} {new = new} {buffer = buffer} row p lt q =
    let took : List ℕ = p.prefix ++ take held buffer in
    record {
      took = took;
      since = subst (λ zs. Exchange old new took [] [] (InRow depth signed width zs)) (append-nil took)
          (since_unread (asked_so_far [] p) q (asks_here [] p lt));
      answer = (unread_rose p.since q, unfinished p lt);
    }

pub row_short : {T : Type 0} {depth width column held : ℕ} {signed : Bool} {old now new : Outside} {before after : List ℤ} {buffer piece : List ℕ}
    (row octets : ℕ) →
    RowSoFar depth signed width old now before after buffer column held → column < width → Read now new piece 0 → 0 < length piece →
    octets ≡ column * pixel_size depth + held →
    RowRead {T = T} depth signed width row old new before after (Err (Short octets))
row_short {depth = depth} {width = width} {held = held} {signed = signed} {old = old} {new = new} {buffer = buffer} row octets p lt q some is =
    let took : List ℕ = p.prefix ++ take held buffer in
    let ended = since_end (asked_so_far [] p) q some (asks_here [] p lt) in
    record {
      took = took;
      since = subst (λ zs. Exchange old new took [] [] (InRow depth signed width zs)) (append-nil took) ended.0;
      answer = (is ∙ sym (so_far_size p), ended.1, unfinished p lt);
    }
