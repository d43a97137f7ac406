-- The bare stream of an image gives the image back.
use Rattle.std.proofs.Common.{◌≡◌, ◌*◌, ℕ, ℤ, List, [], ◌++◌, Bool, sym, ap, subst, ◌∙◌}
use Rattle.std.proofs.Common.{Result, Ok, Err, append-nil}
use Rattle.port_122.specs.Outside.{IsUsedUp}
use Rattle.base_122.specs.declared.book.Book.{Book}
use Rattle.base_122.specs.declared.geometry.Geometry.{Geometry}
use Rattle.base_122.specs.declared.setting.Setting.{Setting}
use Rattle.base_122.specs.declared.wish.DecodeWish.{DecodeWish}
use Rattle.segment_defs.specs.TextWish.{TextWish, text_wish}
use Rattle.strip_decoder.specs.Images.{texts_for as bare_wish}
use Rattle.bare_stream.specs.declared.fault.BareFault.{BareFault}
use Rattle.bare_stream.specs.declared.fault.BareFault.TheVariants.{LongInput, TooManyPixels, Refused}
use Rattle.bare_stream.specs.Bare.{bare}
use Rattle.bare_stream.specs.BareStream.{BareStream}
use Rattle.bare_stream.specs.Decoded.{AnswersBy}
use Rattle.bare_stream.specs.Images.{IsBareImage, SaysImage, ImagesAreBareStreams, bare_geometry}
use Rattle.bare_stream.specs.Pictures.{all_rows}
use Rattle.bare_stream.specs.RoundTrip.{ReadsWhole, StreamsAreRead, GivesImage, AnswersImage, BareRoundTrip}
use Rattle.bare_stream.specs.StreamRead.{needs_more, stream_in}
use Rattle.bare_stream.proofs.Endings.{left_known}
use Rattle.bare_stream.proofs.ImagePictures.{picture_is}
use Rattle.bare_stream.proofs.WholeReads.{within, whole_input, rows_input, same_whole, one_geometry}

abbrev with_book : Book → (restore : Bool) → TextWish
with_book book restore = record { book = book; restore = restore }

module _ (streams : ImagesAreBareStreams) (s : Setting) (x : ℕ → ℕ → ℤ) (is : IsBareImage s x) (wish : DecodeWish) (book : wish.book ≡ s.book)
    (g : Geometry) (took gave : List ℕ) (why : AnswersBy wish (bare s x) took gave (Ok g)) where
  abbrev restore : Bool
  restore = wish.restore

  same_wish : text_wish wish ≡ bare_wish s restore
  same_wish = ap (λ b. with_book b restore) book

  abbrev own : (w : List (List (List ℤ))) × SaysImage s x restore w
  own = streams.says s x restore is

  abbrev p : ℕ
  p = wish.pixels

  abbrev q : ℕ
  q = (bare_geometry s).width * (bare_geometry s).rows

  mine : (stream_in (bare_wish s restore) p (bare s x)).ending ≡ needs_more (Ok g)
  mine = subst (λ b. (stream_in b p (bare s x)).ending ≡ needs_more (Ok g)) same_wish (whole_input wish (bare s x) g why.answer)

  same : stream_in (bare_wish s restore) p (bare s x) ≡ stream_in (bare_wish s restore) q (bare s x)
  same = same_whole (bare_wish s restore) p q (bare s x) g (bare_geometry s) mine own.1.stream.whole

  geometry : g ≡ bare_geometry s
  geometry = one_geometry (stream_in (bare_wish s restore) p (bare s x)) (stream_in (bare_wish s restore) q (bare s x)) g
      (bare_geometry s) same mine own.1.stream.whole

  blocks : (stream_in (text_wish wish) p (bare s x)).segments.blocks ≡ own.0
  blocks = ap (λ b. (stream_in b p (bare s x)).segments.blocks) same_wish ∙ ap (λ z. z.segments.blocks) same ∙ own.1.stream.blocks

  pub read_back : GivesImage s x gave g
  read_back = record {
    geometry = geometry;
    same = λ sends.
        why.rows ∙ rows_input wish (bare s x) g why.answer
        ∙ ap (all_rows g) (ap (λ l. (stream_in (text_wish wish) p l).segments.blocks) (within wish (bare s x) g why.answer) ∙ blocks)
        ∙ ap (λ h. all_rows h own.0) geometry
        ∙ ap (all_rows (bare_geometry s)) (own.1.exact sends) ∙ picture_is s x is;
  }

-- what was given of its stream
module _ (streams : ImagesAreBareStreams) (s : Setting) (x : ℕ → ℕ → ℤ) (is : IsBareImage s x) (gave : List ℕ) (restore : Bool)
    (w : List (List (List ℤ))) (says : SaysImage s x restore w) where
  gives_back : (result : Result Geometry BareFault) → ReadsWhole (bare_geometry s) w gave result → AnswersImage s x gave result
  gives_back (Ok g) whole = record { geometry = whole.0; same = λ sends. whole.1 ∙ ap (all_rows (bare_geometry s)) (says.exact sends) ∙ picture_is s x is }
  gives_back (Err LongInput) whole = absurd whole
  gives_back (Err (TooManyPixels pixels)) whole = absurd whole
  gives_back (Err (Refused index cause)) whole = absurd whole
  gives_back (Err other) whole = tt

pub round_trip : ImagesAreBareStreams → StreamsAreRead → BareRoundTrip
round_trip streams reads = record {
  picture = λ s x is. picture_is s x is;
  decoded = λ wish old new g left s x run if_known all book is.
      let b = left_known old.rest new.rest left run.took if_known run.since.rest in
      let none : b.0 ≡ [] = subst IsUsedUp b.1 run.ends in
      let whole : left ≡ bare s x = b.2 ∙ ap (λ l. run.took ++ l) none ∙ append-nil run.took ∙ all in
      read_back streams s x is wish book g run.took run.gave (subst (λ l. AnswersBy wish l run.took run.gave (Ok g)) whole (run.answers left if_known));
  answered = λ wish old new result s x run if_known book is caps.
      let says = streams.says s x wish.restore is in
      gives_back streams s x is run.gave wish.restore says.0 says.1 result (reads.read wish old new result (bare s x) (bare_geometry s) says.0 run
      (subst (λ b. BareStream b (bare s x) (bare_geometry s) says.0) (sym (ap (λ b. with_book b wish.restore) book)) says.1.stream) if_known caps);
}
