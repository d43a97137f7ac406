-- The rows that are given once some blocks were passed.
use Rattle.std.proofs.Common.{◌≡◌, ◌≤◌, ◌<◌, ◌+◌, ◌-◌, ◌*◌, ◌/◌, ◌==◌, ℕ, ℤ, List, [], length, take, refl, sym, ap, subst, ◌∙◌, arith, Bool, true, false}
use Rattle.std.proofs.Common.{min, if◌then◌else◌}
use Rattle.std.proofs.lemmas.Bool.Decides.{nat_tests}
use Rattle.std.proofs.lemmas.List.{take-append-le, take_min}
use Rattle.std.proofs.lemmas.Nat.{div_below, div-mul-add}
use Rattle.base_122.specs.Sizes.{block_count, total_blocks}
use Rattle.base_122.specs.declared.geometry.Geometry.{Geometry}
use Rattle.raster_rows.specs.Pixels.{raster_octets}
use Rattle.stream_defs.specs.Picture.{whole_with}
use Rattle.stream_defs.specs.Settled.{rows_through, block_rows_before}
use Rattle.stream_defs.proofs.SettledLaws.{rows_rise}
use Rattle.picture_rows.specs.Prefixes.{rows_of}
use Rattle.picture_rows.specs.Pictures.{PictureState, IsPictureCurrent, passed_in}
use Rattle.picture_rows.proofs.RowGives.{prefix-begins}

-- padding rows of the picture give nothing
few_rows : (g : Geometry) (numbers : ℕ → ℕ → ℤ) (n : ℕ) → rows_of g numbers n ≡ rows_of g numbers (min n g.rows)
unfolding rows_of
few_rows g numbers n = let e : min n g.rows ≡ min (min n g.rows) g.rows = omega arith in ap (λ k. raster_octets g.depth k g.width (whole_with g numbers)) e

-- ---- past n blocks

-- whole block rows of an image are determined rows of it
through-most : (rows n : ℕ) → n ≤ block_count rows → (if n == block_count rows then rows else 8 * n - 21) ≤ rows
through-most rows n le = by (n == block_count rows) refl
  where
    by : (b : Bool) → (n == block_count rows) ≡ b → (if b then rows else 8 * n - 21) ≤ rows
    by true e = omega arith
    by false e =
        let other : n ≡ block_count rows → ⊥ = λ same. (let hit : (n == block_count rows) ≡ true =
        grind (arith, nat_tests) in absurd (let both : true ≡ false = sym hit ∙ e in cc)) in
        omega (arith, other, le)

-- and more block rows determine more of them
through-rises : (rows m n : ℕ) → m ≤ n → n ≤ block_count rows →
    (if m == block_count rows then rows else 8 * m - 21) ≤ (if n == block_count rows then rows else 8 * n - 21)
through-rises rows m n less le = by (n == block_count rows) refl
  where
    by : (b : Bool) → (n == block_count rows) ≡ b → (if m == block_count rows then rows else 8 * m - 21) ≤ (if b then rows else 8 * n - 21)
    by true e = through-most rows m (omega (arith, less, le))
    by false e =
        let other : n ≡ block_count rows → ⊥ = λ same. (let hit : (n == block_count rows) ≡ true =
        grind (arith, nat_tests) in absurd (let both : true ≡ false = sym hit ∙ e in cc)) in
        let before : (m == block_count rows) ≡ false = let low : m < block_count rows = omega (arith, other, less, le) in grind (arith, nat_tests) in
        subst (λ b. (if b then rows else 8 * m - 21) ≤ 8 * n - 21) (sym before) (omega (arith, less))

-- the whole block rows before a block are block rows of the image
rows_before-most : (g : Geometry) (n : ℕ) → 0 < block_count g.width → n ≤ total_blocks g.width g.rows → block_rows_before g n ≤ block_count g.rows
rows_before-most g n wide le =
    let c = block_count g.width in
    let turned : c * block_count g.rows ≡ block_count g.rows * c = grind arith in
    let more : (block_count g.rows + 1) * c ≡ block_count g.rows * c + c = grind arith in
    let low = div_below n c (block_count g.rows + 1) wide (omega (arith, le, turned, more, wide)) in
    omega (arith, low)

-- n blocks determine at most all rows
pub rows_through-most : (g : Geometry) (n : ℕ) → 0 < block_count g.width → n ≤ total_blocks g.width g.rows → rows_through g (block_rows_before g n) ≤ g.rows
rows_through-most g n wide le = through-most g.rows (block_rows_before g n) (rows_before-most g n wide le)

-- and at least the rows that fewer of them determine
pub rows_through-rises : (g : Geometry) (m n : ℕ) → 0 < block_count g.width → m ≤ n → n ≤ total_blocks g.width g.rows →
    rows_through g (block_rows_before g m) ≤ rows_through g (block_rows_before g n)
rows_through-rises g m n wide less le = through-rises g.rows (block_rows_before g m) (block_rows_before g n) (rows_rise m n (block_count g.width) wide less)
    (rows_before-most g n wide le)

-- a picture that has passed some blocks has passed their whole block rows
row_is : (p : PictureState) (n : ℕ) → IsPictureCurrent p → passed_in p ≡ n → block_rows_before p.geometry n ≡ p.at.row
row_is p n current passed =
    sym (ap (λ m. m / block_count p.geometry.width) passed) ∙ div-mul-add p.at.row (block_count p.geometry.width) p.at.column current.sized.column

-- and has given exactly the rows that these determine
pub next_rows : (p : PictureState) (numbers : ℕ → ℕ → ℤ) → IsPictureCurrent p → rows_of p.geometry numbers p.at.next ≡ rows_of p.geometry numbers
    (rows_through p.geometry p.at.row)
next_rows p numbers current = by (p.at.row == block_count p.geometry.rows) refl
  where
    by : (b : Bool) → (p.at.row == block_count p.geometry.rows) ≡ b → rows_of p.geometry numbers p.at.next ≡ rows_of p.geometry numbers
        (if b then p.geometry.rows else 8 * p.at.row - 21)
    by true e =
        let last : p.at.row ≡ block_count p.geometry.rows = grind (arith, nat_tests) in
        let next = current.all_made last in
        let all : min p.at.next p.geometry.rows ≡ p.geometry.rows = omega (arith, next, last) in
        few_rows p.geometry numbers p.at.next ∙ ap (rows_of p.geometry numbers) all
    by false e =
        let other : p.at.row ≡ block_count p.geometry.rows → ⊥ = λ last. (let hit : (p.at.row == block_count p.geometry.rows) ≡ true =
        grind (arith, nat_tests) in absurd (let both : true ≡ false = sym hit ∙ e in cc)) in
        ap (rows_of p.geometry numbers) (current.next_settled (omega (arith, other, current.sized.rows)))

-- what is given after n blocks
pub rows_out : (p : PictureState) (g : Geometry) (n : ℕ) (numbers : ℕ → ℕ → ℤ) (gave : List ℕ) → IsPictureCurrent p → p.geometry ≡ g → passed_in p ≡ n →
    gave ≡ rows_of g numbers p.at.next →
    gave ≡ rows_of g numbers (rows_through g (block_rows_before g n))
rows_out p g n numbers gave current same passed is =
    is ∙ subst (λ (g : Geometry). rows_of g numbers p.at.next ≡ rows_of g numbers (rows_through g (block_rows_before g n))) same
    (next_rows p numbers current ∙ ap (λ r. rows_of p.geometry numbers (rows_through p.geometry r)) (sym (row_is p n current passed)))

-- a prefix of the first rows is one of more of them
pub prefix_within : (g : Geometry) (numbers : ℕ → ℕ → ℤ) (m n some : ℕ) → m ≤ n → (few : ℕ) × (take some (rows_of g numbers m) ≡ take few (rows_of g numbers n))
prefix_within g numbers m n some le =
    let here = rows_of g numbers m in
    let begins = prefix-begins g numbers m n le in
    let few = min some (length here) in
    (few, sym (take_min some here) ∙ sym (take-append-le few here begins.0 (omega arith)) ∙ ap (take few) (sym begins.1))

-- all rows are the whole picture
pub all_rows : (g : Geometry) (numbers : ℕ → ℕ → ℤ) → rows_of g numbers g.rows ≡ raster_octets g.depth g.rows g.width (whole_with g numbers)
unfolding rows_of
all_rows g numbers = let e : min g.rows g.rows ≡ g.rows = omega arith in ap (λ k. raster_octets g.depth k g.width (whole_with g numbers)) e

-- none is given before the first
pub no_rows : (g : Geometry) (numbers : ℕ → ℕ → ℤ) (n : ℕ) → n ≡ 0 → [] ≡ rows_of g numbers n
unfolding rows_of
no_rows g numbers n none = let e : min n g.rows ≡ 0 = omega (arith, none) in sym (ap (λ k. raster_octets g.depth k g.width (whole_with g numbers)) e)
