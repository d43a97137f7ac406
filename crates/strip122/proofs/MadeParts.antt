-- A made raster is given part by part.
use Rattle.std.proofs.Common.{◌≡◌, ◌<◌, ◌≤◌, ◌+◌, ◌-◌, ◌∙◌, ℕ, suc, ℤ, List, [], ◌∷◌, ◌++◌, length, map, take, sym, ap, subst, arith, slice_set, Result, IsErr}
use Rattle.std.specs.List.{range_with_len}
use Rattle.std.proofs.lemmas.List.{map-append, take_more_set}
use Rattle.port_122.specs.Outside.{Outside, Exchange, NoRead, Rose, WritesAll}
use Rattle.port_122.proofs.Stretches.{since_out}
use Rattle.port_122.proofs.Parts.{failed_part}
use Rattle.raster_rows.specs.declared.made.MadeImage.{MadeImage}
use Rattle.raster_rows.specs.Pixels.{IsDepth, pixel_octets, raster_octets, clamped}
use Rattle.raster_rows.specs.Made.{made_value}
use Rattle.raster_rows.proofs.MadeLaws.{made_in_range, map-clamped, range-append, row_octets-append, rows_from-append, raster_octets-more}
use Rattle.raster_rows.proofs.RasterLaws.{rows_from}
use Rattle.strip122.specs.MadeRasters.{made_raster, made_part}

-- one more pixel among the first places
pub one_made : (pixel : ℕ → ℤ) (first place : ℕ) (into : List ℤ) (value : ℤ) → place < length into →
    take place into ≡ map pixel (range_with_len first place) → value ≡ pixel (first + place) →
    take (place + 1) (slice_set into place value) ≡ map pixel (range_with_len first (place + 1))
one_made pixel first place into value lt before is =
    take_more_set into place value lt ∙ ap (λ xs. xs ++ value ∷ []) before ∙ ap (λ v. map pixel (range_with_len first place) ++ v ∷ []) is ∙
    sym (ap (map pixel) (range-append first place 1) ∙ map-append pixel (range_with_len first place) (range_with_len (first + place) 1))

-- the octets of pixels that were put into the first places
pub part_is : (made : MadeImage) (row first count : ℕ) (pixels : List ℤ) → IsDepth made.depth →
    pixels ≡ map (made_value made row) (range_with_len first count) →
    pixel_octets made.depth (map (clamped made.depth made.signed) pixels) ≡ made_part made row first count
part_is made row first count pixels is same =
    ap (λ xs. pixel_octets made.depth (map (clamped made.depth made.signed) xs)) same ∙
    ap (pixel_octets made.depth) (map-clamped made.depth made.signed (made_value made row) (range_with_len first count) is (λ k. made_in_range made row k is))

-- a row's first part, and the part that follows
pub parts_then : (made : MadeImage) (row done count : ℕ) → made_part made row 0 (done + count) ≡ made_part made row 0 done ++ made_part made row done count
parts_then made row done count =
    row_octets-append made.depth (made_value made row) 0 done count ∙
    ap (λ first. made_part made row 0 done ++ made_part made row first count) (omega arith)

-- a row in three parts
three_parts : (made : MadeImage) (row done count : ℕ) → done + count ≤ made.width →
    made_part made row 0 made.width ≡ made_part made row 0 done
    ++ (made_part made row done count ++ made_part made row (done + count) (made.width - (done + count)))
three_parts made row done count le =
    let size : made.width ≡ done + (count + (made.width - (done + count))) = omega (arith, le) in
    ap (made_part made row 0) size ∙ parts_then made row done (count + (made.width - (done + count))) ∙
    ap (λ zs. made_part made row 0 done ++ zs) (row_octets-append made.depth (made_value made row) done count (made.width - (done + count)))

-- if a part of a row couldn't be given whole, a prefix of the row is given
pub row_failed : {T E : Type 0} {a b c : Outside} (made : MadeImage) (row done count : ℕ) (r : Result T E) → done + count ≤ made.width →
    Exchange a b [] (made_part made row 0 done) [] NoRead →
    Rose b.write_faults c.write_faults × ((n : ℕ) × (n ≤ length (made_part made row done count)) × Exchange b c [] (take n (made_part made row done count))
    [] NoRead) →
    IsErr r → WritesAll r a c (made_part made row 0 made.width)
row_failed {a = a} {c = c} made row done count r le p q is =
    subst (WritesAll r a c) (sym (three_parts made row done count le))
    (failed_part (made_part made row 0 done) (made_part made row done count) (made_part made row (done + count) (made.width - (done + count))) r p q is)

-- the rows before one, that row, and those after it
three_rows : (made : MadeImage) (row : ℕ) → row < made.rows →
    made_raster made ≡ raster_octets made.depth row made.width (made_value made) ++
    (made_part made row 0 made.width ++ rows_from made.depth made.width (made_value made) (row + 1) (made.rows - (row + 1)))
three_rows made row lt =
    let size : made.rows ≡ row + (suc (made.rows - (row + 1))) = omega (arith, lt) in
    let first : 0 + row ≡ row = omega arith in
    ap (λ n. raster_octets made.depth n made.width (made_value made)) size ∙
    rows_from-append made.depth made.width (made_value made) 0 row (suc (made.rows - (row + 1))) ∙
    ap (λ i. raster_octets made.depth row made.width (made_value made) ++ rows_from made.depth made.width (made_value made) i (suc (made.rows - (row + 1))))
    first

-- if a row couldn't be given whole, a prefix of the raster is given
pub raster_failed : {T E : Type 0} {a b c : Outside} (made : MadeImage) (row : ℕ) (r : Result T E) → row < made.rows →
    Exchange a b [] (raster_octets made.depth row made.width (made_value made)) [] NoRead →
    Rose b.write_faults c.write_faults × ((n : ℕ) × (n ≤ length (made_part made row 0 made.width)) × Exchange b c []
    (take n (made_part made row 0 made.width)) [] NoRead) →
    IsErr r → WritesAll r a c (made_raster made)
raster_failed {a = a} {c = c} made row r lt p q is =
    subst (WritesAll r a c) (sym (three_rows made row lt))
    (failed_part (raster_octets made.depth row made.width (made_value made)) (made_part made row 0 made.width)
    (rows_from made.depth made.width (made_value made) (row + 1) (made.rows - (row + 1))) r p q is)

-- one more row
pub row_then : {a b c : Outside} (made : MadeImage) (row : ℕ) →
    Exchange a b [] (raster_octets made.depth row made.width (made_value made)) [] NoRead → Exchange b c [] (made_part made row 0 made.width) [] NoRead →
    Exchange a c [] (raster_octets made.depth (row + 1) made.width (made_value made)) [] NoRead
row_then {a = a} {c = c} made row p q =
    subst (λ gave. Exchange a c [] gave [] NoRead) (sym (raster_octets-more made.depth row made.width (made_value made))) (since_out p q)
