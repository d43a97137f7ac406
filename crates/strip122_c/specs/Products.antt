-- What a call makes of the packets of an image. This project's own.
use Rattle.std.specs.Prelude.{ℕ, ◌*◌, List}
use Rattle.base_122.specs.Sizes.{block_count}
use Rattle.base_122.specs.declared.geometry.Geometry.{Geometry}
use Rattle.base_122.specs.declared.wish.DecodeWish.{DecodeWish}
use Rattle.raster_rows.specs.Pixels.{pixel_size}
use Rattle.segment_defs.specs.TextWish.{TextWish, text_wish, unrestored}
use Rattle.stream_defs.specs.Begun.{block_rows, height}
use Rattle.stream_defs.specs.Picture.{picture_octets}
use Rattle.strip_decoder.specs.Runs.{Numbers}
use Rattle.quick_look.specs.Look.{look_octets}
use Rattle.quick_look.specs.RectLines.{rect_lines}
use Rattle.quick_look.specs.Rects.{rects}
use Rattle.strip122_c.specs.declared.product.Product.{Product}
use Rattle.strip122_c.specs.declared.product.Product.TheVariants.{Picture, Look, Rects}

-- the octets that are made of received segments, if the kept heads reach n block rows
abbrev pub product_octets : Product → Geometry → Numbers → (n : ℕ) → List ℕ
product_octets Picture g received n = picture_octets g received n
product_octets Look g received n = look_octets g received n
product_octets Rects g received n = rect_lines (rects g received n)

-- the number of octets of a raster, which a picture and a look are
abbrev pub product_length : Product → Geometry → (n : ℕ) → ℕ
product_length Picture g n = height g n * (g.width * pixel_size g.depth)
product_length Look g n = block_rows g n * (block_count g.width * pixel_size g.depth)
product_length Rects g n = 0

-- how coded segments are read for it: restored numbers would change no rectangle
abbrev pub product_texts : Product → DecodeWish → TextWish
product_texts Picture wish = text_wish wish
product_texts Look wish = text_wish wish
product_texts Rects wish = unrestored wish.book
