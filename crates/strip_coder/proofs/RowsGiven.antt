-- What is given for the rows so far grows by prefixes, and doesn't depend on rows that weren't taken.
use Rattle.std.proofs.Common.{◌≡◌, ◌≢◌, min, ℕ, ◌+◌, ◌*◌, ◌<◌, ◌≤◌, ℤ, List, ◌++◌, length, sym, ap, ◌∙◌, arith, length-append, mul-le-mul, mul-le-mul_right}
use Rattle.std.proofs.Common.{mul_assoc}
use Rattle.std.proofs.lemmas.Nat.{div-mul-add, le-div}
use Rattle.std.proofs.lemmas.Bool.Decides.{nat_tests}
use Rattle.base_122.specs.Ranges.{IsInRange}
use Rattle.base_122.specs.Setting.{IsHeight, sized}
use Rattle.base_122.specs.declared.setting.Setting.{Setting}
use Rattle.packet_defs.specs.Packets.{joined}
use Rattle.wave_defs.specs.Held.{SameWithin}
use Rattle.raster_rows.specs.Pixels.{pixel_size}
use Rattle.raster_rows.proofs.PixelPlaces.{size_some, pixel_at-append_left}
use Rattle.stream_defs.specs.Output.{output}
use Rattle.stream_defs.specs.Settled.{settled}
use Rattle.stream_defs.specs.SettledImages.{leading_packets, settled_in}
use Rattle.stream_defs.proofs.ImageLaws.{settled_whole}
use Rattle.stream_defs.proofs.HeightLaws.{images_settle}
use Rattle.strip_coder.specs.Plans.{tallest}
use Rattle.strip_coder.specs.Rasters.{row_length, most_length, image_of, settled_octets, given_for}
use Rattle.strip_coder.proofs.PlanLaws.{tall_height, known_first, known_tallest}

-- the octets of whole rows represent the same image, whatever follows them
pub same_rows : (s : Setting) (k : ℕ) (took more : List ℕ) → length took ≡ k * row_length s → SameWithin k s.width (image_of s (took ++ more)) (image_of s took)
same_rows s k took more whole = record {
  at = λ i j hi hj.
      let row : (i + 1) * s.width ≤ k * s.width = mul-le-mul_right s.width (omega (arith, hi)) in
      let one : (i + 1) * s.width ≡ i * s.width + s.width = omega arith in
      let place : (i * s.width + j) + 1 ≤ k * s.width = omega (arith, row, one, hj) in
      let octets : ((i * s.width + j) + 1) * pixel_size s.depth ≤ (k * s.width) * pixel_size s.depth = mul-le-mul_right (pixel_size s.depth) place in
      let size : length took ≡ (k * s.width) * pixel_size s.depth = whole ∙ sym (mul_assoc k s.width (pixel_size s.depth)) in
      pixel_at-append_left s.depth s.signed took more (i * s.width + j) (omega (arith, octets, size));
}

-- so the packets that they settle are the same in each image that begins with them
pub settled_same : (s : Setting) (rows k : ℕ) (taken : List ℕ) (y : ℕ → ℕ → ℤ) → IsInRange s → IsHeight s rows → k ≤ tallest s → k ≤ rows →
    SameWithin k s.width (image_of s taken) y →
    settled_octets s taken k ≡ joined (leading_packets s rows y (settled_in s rows k))
unfolding settled_octets
settled_same s rows k taken y range height le le' same =
    ap joined (images_settle s (tallest s) rows k range (tall_height s range) height le le' (image_of s taken) y same)

pub same_octets : (s : Setting) (k : ℕ) (took more : List ℕ) → IsInRange s → k ≤ tallest s → length took ≡ k * row_length s →
    settled_octets s (took ++ more) k ≡ settled_octets s took k
unfolding settled_octets
same_octets s k took more range le whole = grind (arith, nat_tests, images_settle, tall_height, same_rows)

-- all rows, if it is known that they are all, settle all packets
pub rows_whole : (s : Setting) (taken : List ℕ) → s.rows ≢ 0 → settled_octets s taken (tallest s) ≡ output s (tallest s) (image_of s taken)
unfolding settled_octets
rows_whole s taken known =
    ap (λ n. joined (leading_packets s (tallest s) (image_of s taken) n))
    (ap (λ b. settled b (sized s (tallest s)) (tallest s)) (known_first s known) ∙ settled_whole (sized s (tallest s)))

pub least_of : (t n k : ℕ) → n ≡ k → k ≤ t → min t n ≡ k
least_of t n k e le = omega arith

pub most_of : (t n : ℕ) → t ≤ n → min t n ≡ t
most_of t n le = omega arith

-- within a row that isn't whole, the packets that the rows before it settle are given
pub given_within : (s : Setting) (k : ℕ) (took part : List ℕ) → IsInRange s → k ≤ tallest s → length took ≡ k * row_length s → length part < row_length s →
    given_for s (took ++ part) ≡ settled_octets s took k
unfolding given_for
given_within s k took part range le whole short = grind (arith, nat_tests, length-append, div-mul-add, least_of, same_octets)

-- once the tallest raster was taken, the packets that it settles are given
pub given_whole : (s : Setting) (took more : List ℕ) → IsInRange s → length took ≡ most_length s →
    given_for s (took ++ more) ≡ settled_octets s took (tallest s)
unfolding given_for
given_whole s took more range whole = grind (arith, nat_tests, size_some, mul-le-mul, length-append, le-div, most_of, same_octets)

pub given_all : (s : Setting) (raster more : List ℕ) → IsInRange s → s.rows ≢ 0 → length raster ≡ s.rows * row_length s →
    given_for s (raster ++ more) ≡ output s s.rows (image_of s raster)
given_all s raster more range known whole = grind (arith, nat_tests, known_tallest, given_whole, rows_whole)
