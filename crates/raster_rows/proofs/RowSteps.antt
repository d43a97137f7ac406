-- A piece of a row that was read, and what follows it.
use Rattle.std.proofs.Common.{◌≡◌, ◌<◌, ◌≤◌, ◌+◌, ◌-◌, ◌*◌, ◌/◌, ◌%◌, ◌∙◌, ℕ, ℤ, Bool, List, [], ◌++◌, length, take, drop, refl, sym, ap, subst, arith}
use Rattle.std.proofs.Common.{length-append, append_assoc, Ok, Err, div-mul-le_self, le_of_mul-le-mul_right}
use Rattle.std.proofs.lemmas.List.{length-take-le, take-append-drop, take-append-le, take-take}
use Rattle.std.proofs.lemmas.Nat.{div-add-mod', mod_below}
use Rattle.std.proofs.Math.Seq.{take-append-add}
use Rattle.std.proofs.lemmas.Bool.Decides.{nat_tests}
use borrow.Rule.Slice.PartMut.{put_mid}
use Rattle.port_122.specs.Outside.{Outside, Exchange, Read}
use Rattle.port_122.proofs.ReadCalls.{since_read}
use Rattle.raster_rows.specs.Pixels.{IsPixel, pixel_size}
use Rattle.raster_rows.specs.Pieces.{PixelsPut, FirstOut}
use Rattle.raster_rows.specs.RowReads.{BeginsWith, FirstInRange, InRow, RowRead}
use Rattle.raster_rows.specs.declared.reading.RowFault.TheVariants.{BadPixel}
use Rattle.raster_rows.proofs.PixelPlaces.{size_some, whole_pixels-above, whole_before}
use Rattle.raster_rows.proofs.RowRuns.{RowSoFar, so_far_size, asks_here, asked_so_far, more_in_range, more_begins, later_pixel, still_in_range, still_begins}

-- the first octets of a buffer into whose middle some were read
pub buffer_more : (buffer piece : List ℕ) (held count k : ℕ) → held ≤ length buffer → count ≤ length piece →
    take (held + count) (put_mid held k buffer piece) ≡ take held buffer ++ take count piece
buffer_more buffer piece held count k le room = grind (arith, nat_tests, length-take-le, take-append-add, take-append-le)

-- a piece of a row was read to the end of what a buffer holds
pub record PieceRead (depth : ℕ) (signed : Bool) (width : ℕ) (old now new : Outside) (before mid : List ℤ) (buffer piece filled : List ℕ)
    (column held count : ℕ) : Type 0 where
  pub so_far : RowSoFar depth signed width old now before mid buffer column held
  pub inside : column < width
  pub read : Read now new piece count
  pub filled_is : take (held + count) filled ≡ take held buffer ++ take count piece
  pub room : held + count ≤ length filled
  pub left : column * pixel_size depth + (held + length piece) ≤ width * pixel_size depth

piece_since : {depth width column held count : ℕ} {signed : Bool} {old now new : Outside} {before mid : List ℤ} {buffer piece filled : List ℕ} →
    (p : PieceRead depth signed width old now new before mid buffer piece filled column held count) →
    Exchange old new (p.so_far.prefix ++ take (held + count) filled) [] [] (InRow depth signed width (p.so_far.prefix ++ take (held + count) filled))
piece_since {depth = depth} {width = width} {held = held} {count = count} {signed = signed} {old = old} {new = new} {buffer = buffer} {piece =
    piece} {filled = filled} p =
    let prefix : List ℕ = p.so_far.prefix in
    let octets : (prefix ++ take held buffer) ++ take count piece ≡ prefix ++ take (held + count) filled =
    append_assoc prefix (take held buffer) (take count piece) ∙ ap (λ zs. prefix ++ zs) (sym p.filled_is) in
    subst (λ zs. Exchange old new zs [] [] (InRow depth signed width zs)) octets
    (since_read count (asked_so_far (take count piece) p.so_far) p.read (asks_here (take count piece) p.so_far p.inside))

pub row_bad : {T : Type 0} {depth width column held count whole place : ℕ} {signed : Bool} {old now new : Outside} {before mid after : List ℤ}
    {buffer piece filled : List ℕ} {value : ℤ} (row : ℕ) (shown : ℤ) →
    PieceRead depth signed width old now new before mid buffer piece filled column held count →
    whole ≡ (held + count) / pixel_size depth → FirstOut depth signed filled column whole place value mid after → shown ≡ value →
    RowRead {T = T} depth signed width row old new before after (Err (BadPixel row (column + place) shown))
row_bad {depth = depth} {width = width} {column = column} {held = held} {count = count} {whole = whole} {place = place} {signed = signed} {before =
    before} {mid = mid} {after = after} {filled = filled} row shown p is q e =
    let prefix = p.so_far.prefix in
    let n = held + count in
    let fits : whole * pixel_size depth ≤ n = rw is (div-mul-le_self n (pixel_size depth)) in
    let next : (place + 1) * pixel_size depth ≤ whole * pixel_size depth = whole_before (pixel_size depth) place whole q.within in
    let some : place * pixel_size depth ≤ n = omega (arith, fits, next) in
    let enough : (place + 1) * pixel_size depth ≤ n = omega (arith, fits, next) in
    let long : length (prefix ++ take n filled) ≡ column * pixel_size depth + n =
    omega (arith, length-append prefix (take n filled), p.so_far.size, length-take-le n filled p.room) in
    record {
      took = prefix ++ take n filled;
      since = piece_since p;
      answer = (
        refl,
        omega (arith, long, p.left, p.read.within),
        record {
          whole = whole_pixels-above depth (prefix ++ take n filled) (column + place) (omega (arith, long, enough));
          value_is = e ∙ q.value_is ∙ sym (later_pixel depth signed prefix filled column place (place + 1) n p.so_far.size enough p.room (omega arith));
          bad = λ fits. q.bad (subst (IsPixel depth signed) e fits);
          earlier = more_in_range depth signed prefix filled column place n mid after p.so_far.size some p.room p.so_far.in_range q.earlier;
        },
        more_begins depth signed prefix filled column place n before mid after p.so_far.size some p.room p.so_far.begins q.earlier,
      );
    }

pub row_next : {depth width column held count whole rest : ℕ} {signed : Bool} {old now new : Outside} {before mid after : List ℤ}
    {buffer piece filled : List ℕ} (carried : List ℕ) →
    PieceRead depth signed width old now new before mid buffer piece filled column held count →
    whole ≡ (held + count) / pixel_size depth → PixelsPut depth signed filled column whole mid after →
    rest ≡ held + count - whole * pixel_size depth → take rest carried ≡ drop (whole * pixel_size depth) (take (held + count) filled) →
    length carried ≡ length filled →
    RowSoFar depth signed width old new before after carried (column + whole) rest
row_next {depth = depth} {width = width} {column = column} {held = held} {count = count} {whole = whole} {rest = rest} {signed = signed} {old = old} {new =
    new} {before = before} {mid = mid} {after = after} {filled = filled} carried p is q rest_is kept same =
    let prefix = p.so_far.prefix in
    let n = held + count in
    let used = whole * pixel_size depth in
    let fits : used ≤ n = rw is (div-mul-le_self n (pixel_size depth)) in
    let parts : used + n % pixel_size depth ≡ n = rw is (div-add-mod' n (pixel_size depth)) in
    let below : n % pixel_size depth < pixel_size depth = mod_below n (pixel_size depth) (size_some depth) in
    let within : used ≤ length filled = omega (arith, fits, p.room) in
    let cut : take used (take n filled) ≡ take used filled = take-take used n filled fits in
    let octets : prefix ++ take n filled ≡ (prefix ++ take used filled) ++ take rest carried =
    ap (λ zs. prefix ++ zs) (sym (take-append-drop used (take n filled)) ∙ ap (λ zs. zs ++ drop used (take n filled)) cut ∙ ap (λ zs. take used filled ++ zs)
    (sym kept)) ∙
    sym (append_assoc prefix (take used filled) (take rest carried)) in
    record {
      prefix = prefix ++ take used filled;
      size = omega (arith, length-append prefix (take used filled), p.so_far.size, length-take-le used filled within);
      few = omega (arith, rest_is, parts, below);
      room = omega (arith, rest_is, same, p.room);
      inside = omega (arith, rest_is, fits, p.left, p.read.within);
      since = subst (λ t. Exchange old new t [] [] (InRow depth signed width t)) octets (piece_since p);
      in_range = more_in_range depth signed prefix filled column whole used mid after p.so_far.size (omega arith) within p.so_far.in_range q;
      begins = more_begins depth signed prefix filled column whole used before mid after p.so_far.size (omega arith) within p.so_far.begins q;
    }

pub row_done : {T : Type 0} {depth width column held : ℕ} {signed : Bool} {old now : Outside} {before after : List ℤ} {buffer : List ℕ} (row : ℕ) (done : T) →
    RowSoFar depth signed width old now before after buffer column held → width ≤ column →
    RowRead {T = T} depth signed width row old now before after (Ok done)
row_done {depth = depth} {width = width} {column = column} {held = held} {signed = signed} {before = before} {after = after} {buffer = buffer} row done p le =
    let most : column * pixel_size depth ≤ width * pixel_size depth = omega (arith, p.inside) in
    let high : column ≤ width = le_of_mul-le-mul_right {m = column} {n = width} {k = pixel_size depth} most (size_some depth) in
    let whole : column ≡ width = omega arith in
    let same : column * pixel_size depth ≡ width * pixel_size depth = ap (λ k. k * pixel_size depth) whole in
    let took = p.prefix ++ take held buffer in
    record {
      took = took;
      since = p.since;
      answer = (
        omega (arith, so_far_size p, p.inside, same),
        subst (FirstInRange depth signed took) whole (still_in_range depth signed p.prefix (take held buffer) column p.size p.in_range),
        subst (λ k. BeginsWith depth signed took k before after) whole (still_begins depth signed p.prefix (take held buffer) column before after p.size
            p.begins),
      );
    }

-- what is left of a row bounds a read
pub left_within : (size width column held count left : ℕ) → column ≤ width → column * size + held ≤ width * size → left ≡ (width - column) * size - held →
    count ≤ left →
    column * size + (held + count) ≤ width * size
left_within size width column held count left le inside is fits = grind (arith, nat_tests)
