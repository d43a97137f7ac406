-- Which octets are a bare stream, and what they report; and the laws of how octets are read as one. (This project's own.)
use Rattle.std.specs.Prelude.{◌≡◌, ◌≤◌, ◌<◌, ◌*◌, ℕ, ℤ, true, List, [], ◌++◌, length, take, Result, Ok}
use Rattle.segment_defs.specs.TextWish.{TextWish}
use Rattle.base_122.specs.declared.geometry.Geometry.{Geometry}
use Rattle.plane_defs.specs.Codes.{is_book_sound}
use Rattle.bare_stream.specs.declared.fault.BareFault.{BareFault}
use Rattle.bare_stream.specs.StreamRead.{needs_more, stops, stream_in}

-- The octets are read whole as the bare stream of an image of this geometry, with these blocks, segment by segment, if no more pixels are
-- allowed than it has.
pub record BareStream (wish : TextWish) (octets : List ℕ) (g : Geometry) (w : List (List (List ℤ))) : Type 0 where
  pub whole : (stream_in wish (g.width * g.rows) octets).ending ≡ needs_more (Ok g)
  pub blocks : (stream_in wish (g.width * g.rows) octets).segments.blocks ≡ w

-- A bare stream has one geometry and one list of blocks, if it is read with one book, and no proper prefix of it is one if the book is sound.
pub record BareStreamsEndThere : Type 0 where
  pub no_prefix : (wish : TextWish) → is_book_sound wish.book ≡ true → (octets more : List ℕ) (g h : Geometry) (v w : List (List (List ℤ))) →
      BareStream wish octets g v → BareStream wish (octets ++ more) h w → more ≡ []
  pub geometry : (wish : TextWish) (octets : List ℕ) (g h : Geometry) (v w : List (List (List ℤ))) → BareStream wish octets g v →
      BareStream wish octets h w → g ≡ h
  pub blocks : (wish : TextWish) (octets : List ℕ) (g h : Geometry) (v w : List (List (List ℤ))) → BareStream wish octets g v →
      BareStream wish octets h w → v ≡ w

-- the octets that decide a fault are there; more octets change nothing, and fewer decide nothing
pub record StopsThere (wish : TextWish) (pixels : ℕ) (octets : List ℕ) (fault : BareFault) (n : ℕ) : Type 0 where
  pub enough : n ≤ length octets
  pub stays : (more : List ℕ) → stream_in wish pixels (octets ++ more) ≡ stream_in wish pixels octets
  pub least : (m : ℕ) → m < n → (at_end : Result Geometry BareFault) × ((stream_in wish pixels (take m octets)).ending ≡ needs_more at_end)

abbrev pub BareStreamsStopThere : Type 0
BareStreamsStopThere = (wish : TextWish) → is_book_sound wish.book ≡ true → (pixels : ℕ) (octets : List ℕ) (fault : BareFault) (n : ℕ) →
    (stream_in wish pixels octets).ending ≡ stops fault n → StopsThere wish pixels octets fault n
