use Rattle.std.proofs.Common.{◌≡◌, sym, subst, Ok}
use Rattle.command_words.specs.declared.command.Command.TheVariants.{Encode, Mux, Read, Pick, BareEncode, BareDecode}
use Rattle.command_words.specs.declared.tables.Reading.TheVariants.{Decode, Look}
use Rattle.strip122.specs.Decoding.{reads}
use Rattle.strip122.specs.Pictures.{GaveLook, GavePicture}
use Rattle.strip122.specs.Run.{behaviour}
use Rattle.strip122.specs.Outcomes.{outcomes}
use Rattle.strip122.proofs.BookRuns.{by_book_gives}
use Rattle.strip122.proofs.BareRuns.{gave_bare}
use Rattle.strip122.proofs.Behaviours.{completed, completes, refused}
use Rattle.strip122.proofs.GavePicks.{gave_picked}
use Rattle.strip122.proofs.GavePictures.{gave_look, gave_picture}
use Rattle.strip122.proofs.Laws.{law, ends_at}
use Rattle.strip122.proofs.top.run.Goals as goal

pub returns-in-Ok-clause-follows : goal.returns-in-Ok-clause-follows
returns-in-Ok-clause-follows g c command says =
    let same : command ≡ c.in-Ok.command = let e = c.read_words.ensures.only (Ok command) says in let f = c.in-Ok.is in cc in
    (law c.bare_streams_are_read.ensures command).ends _ _ c.perform.result
    (subst (λ k. (behaviour k).performs (g.X.Port.outside c.args.port.now) (g.X.Port.outside c.perform.new.port) c.perform.result) (sym same)
    c.perform.ensures.performs)

pub returns-in-Err-clause-follows : goal.returns-in-Err-clause-follows
returns-in-Err-clause-follows g c command says =
    absurd (let e = c.read_words.ensures.only (Ok command) says in let f = c.in-Err.is in cc)

pub returns-in-Ok-clause-refused : goal.returns-in-Ok-clause-refused
returns-in-Ok-clause-refused g c = (
  λ two. absurd (ends_at c.bare_streams_are_read.ensures c.in-Ok.command _ _ c.perform.result 2 c.perform.ensures.performs two),
  λ (fault, says). absurd (let e = c.read_words.ensures.only _ says in let f = c.in-Ok.is in cc),
)

pub returns-in-Ok-clause-read_fault : goal.returns-in-Ok-clause-read_fault
returns-in-Ok-clause-read_fault g c four = ends_at c.bare_streams_are_read.ensures c.in-Ok.command _ _ c.perform.result 4 c.perform.ensures.performs four

pub returns-in-Ok-clause-write_fault : goal.returns-in-Ok-clause-write_fault
returns-in-Ok-clause-write_fault g c five = ends_at c.bare_streams_are_read.ensures c.in-Ok.command _ _ c.perform.result 5 c.perform.ensures.performs five

pub returns-in-Ok-clause-complete : goal.returns-in-Ok-clause-complete
returns-in-Ok-clause-complete g c command input says if_known accepted steady =
    let same : command ≡ c.in-Ok.command = let e = c.read_words.ensures.only (Ok command) says in let f = c.in-Ok.is in cc in
    completed (outcomes command) _ _ c.perform.result
    (completes (outcomes command) _ _ c.perform.result
    ((law c.bare_streams_are_read.ensures command).ends _ _ c.perform.result
    (subst (λ k. (behaviour k).performs (g.X.Port.outside c.args.port.now) (g.X.Port.outside c.perform.new.port) c.perform.result) (sym same)
    c.perform.ensures.performs))
    ((law c.bare_streams_are_read.ensures command).right _ _ input if_known accepted) steady)

pub returns-in-Ok-clause-wrong_input : goal.returns-in-Ok-clause-wrong_input
returns-in-Ok-clause-wrong_input g c command input says if_known not_accepted steady =
    let same : command ≡ c.in-Ok.command = let e = c.read_words.ensures.only (Ok command) says in let f = c.in-Ok.is in cc in
    refused (outcomes command) _ _ c.perform.result
    ((law c.bare_streams_are_read.ensures command).ends _ _ c.perform.result
    (subst (λ k. (behaviour k).performs (g.X.Port.outside c.args.port.now) (g.X.Port.outside c.perform.new.port) c.perform.result) (sym same)
    c.perform.ensures.performs))
    (λ whole. not_accepted ((law c.bare_streams_are_read.ensures command).whole _ _ input if_known whole))
    (λ part. not_accepted ((law c.bare_streams_are_read.ensures command).part _ _ input if_known part)) steady

pub returns-in-Err-clause-complete : goal.returns-in-Err-clause-complete
returns-in-Err-clause-complete g c command input says if_known accepted steady =
    absurd (let e = c.read_words.ensures.only (Ok command) says in let f = c.in-Err.is in cc)

pub returns-in-Err-clause-wrong_input : goal.returns-in-Err-clause-wrong_input
returns-in-Err-clause-wrong_input g c command input says if_known not_accepted steady =
    absurd (let e = c.read_words.ensures.only (Ok command) says in let f = c.in-Err.is in cc)

pub returns-in-Ok-clause-picture : goal.returns-in-Ok-clause-picture
returns-in-Ok-clause-picture g c wish has_book says given =
    let same : Read Decode wish has_book ≡ c.in-Ok.command = let e = c.read_words.ensures.only (Ok (Read Decode wish has_book)) says in let f =
    c.in-Ok.is in cc in
    by_book_gives (reads Decode) (λ wish old new. GavePicture wish old new c.perform.result) c.perform.result given
    (λ wish old new run. gave_picture c.picking_keeps.ensures c.received_is_known.ensures c.decoding_stays_in_rects.ensures
    c.decoding_contains.ensures c.round_trip.ensures wish old new c.perform.result run given)
    has_book wish _ _
    (subst (λ k. (behaviour k).performs (g.X.Port.outside c.args.port.now) (g.X.Port.outside c.perform.new.port) c.perform.result) (sym same)
    c.perform.ensures.performs)

pub returns-in-Err-clause-picture : goal.returns-in-Err-clause-picture
returns-in-Err-clause-picture g c wish has_book says given =
    absurd (let e = c.read_words.ensures.only (Ok (Read Decode wish has_book)) says in let f = c.in-Err.is in cc)

pub returns-in-Ok-clause-look : goal.returns-in-Ok-clause-look
returns-in-Ok-clause-look g c wish has_book says given =
    let same : Read Look wish has_book ≡ c.in-Ok.command = let e = c.read_words.ensures.only (Ok (Read Look wish has_book)) says in let f = c.in-Ok.is in cc in
    by_book_gives (reads Look) GaveLook c.perform.result given (λ wish old new run. gave_look c.looks_are_of_images.ensures wish old new c.perform.result
    run given) has_book wish _ _
    (subst (λ k. (behaviour k).performs (g.X.Port.outside c.args.port.now) (g.X.Port.outside c.perform.new.port) c.perform.result) (sym same)
    c.perform.ensures.performs)

pub returns-in-Err-clause-look : goal.returns-in-Err-clause-look
returns-in-Err-clause-look g c wish has_book says given =
    absurd (let e = c.read_words.ensures.only (Ok (Read Look wish has_book)) says in let f = c.in-Err.is in cc)

pub returns-in-Ok-clause-bare_picture : goal.returns-in-Ok-clause-bare_picture
returns-in-Ok-clause-bare_picture g c wish says zero =
    let same : BareDecode wish ≡ c.in-Ok.command = let e = c.read_words.ensures.only (Ok (BareDecode wish)) says in let f = c.in-Ok.is in cc in
    gave_bare c.bare_round_trip.ensures wish _ _ c.perform.result
    (subst (λ k. (behaviour k).performs (g.X.Port.outside c.args.port.now) (g.X.Port.outside c.perform.new.port) c.perform.result) (sym same)
    c.perform.ensures.performs) zero

pub returns-in-Err-clause-bare_picture : goal.returns-in-Err-clause-bare_picture
returns-in-Err-clause-bare_picture g c wish says zero =
    absurd (let e = c.read_words.ensures.only (Ok (BareDecode wish)) says in let f = c.in-Err.is in cc)

pub returns-in-Ok-clause-closed : goal.returns-in-Ok-clause-closed
returns-in-Ok-clause-closed g c setting has_book says zero =
    c.perform.ensures.closed setting has_book (let e = c.read_words.ensures.only (Ok (Encode setting has_book)) says in let f = c.in-Ok.is in cc) zero

pub returns-in-Err-clause-closed : goal.returns-in-Err-clause-closed
returns-in-Err-clause-closed g c setting has_book says zero =
    absurd (let e = c.read_words.ensures.only (Ok (Encode setting has_book)) says in let f = c.in-Err.is in cc)

pub returns-in-Ok-clause-bare_closed : goal.returns-in-Ok-clause-bare_closed
returns-in-Ok-clause-bare_closed g c setting says zero =
    c.perform.ensures.bare_closed setting (let e = c.read_words.ensures.only (Ok (BareEncode setting)) says in let f = c.in-Ok.is in cc) zero

pub returns-in-Err-clause-bare_closed : goal.returns-in-Err-clause-bare_closed
returns-in-Err-clause-bare_closed g c setting says zero =
    absurd (let e = c.read_words.ensures.only (Ok (BareEncode setting)) says in let f = c.in-Err.is in cc)

pub returns-in-Ok-clause-picks : goal.returns-in-Ok-clause-picks
returns-in-Ok-clause-picks g c wish image says given =
    let same : Pick wish image ≡ c.in-Ok.command = let e = c.read_words.ensures.only (Ok (Pick wish image)) says in let f = c.in-Ok.is in cc in
    gave_picked c.picking_keeps.ensures wish image _ _ c.perform.result
    (subst (λ k. (behaviour k).performs (g.X.Port.outside c.args.port.now) (g.X.Port.outside c.perform.new.port) c.perform.result) (sym same)
    c.perform.ensures.performs) given

pub returns-in-Err-clause-picks : goal.returns-in-Err-clause-picks
returns-in-Err-clause-picks g c wish image says given =
    absurd (let e = c.read_words.ensures.only (Ok (Pick wish image)) says in let f = c.in-Err.is in cc)

pub returns-in-Ok-clause-mux_closed : goal.returns-in-Ok-clause-mux_closed
returns-in-Ok-clause-mux_closed g c setting cameras says zero =
    c.perform.ensures.mux_closed setting cameras (let e = c.read_words.ensures.only (Ok (Mux setting cameras)) says in let f = c.in-Ok.is in cc) zero

pub returns-in-Err-clause-mux_closed : goal.returns-in-Err-clause-mux_closed
returns-in-Err-clause-mux_closed g c setting cameras says zero =
    absurd (let e = c.read_words.ensures.only (Ok (Mux setting cameras)) says in let f = c.in-Err.is in cc)
