use Rattle.std.proofs.Common.{◌≡◌, true, false, rules, sym, subst}
use Rattle.strip122.specs.Closed.{BareClosed, ClosedBy, MuxClosed}
use Rattle.strip122.specs.Muxing.{camera_settings}
use Rattle.strip122.specs.Run.{behaviour}
use Rattle.strip122.proofs.BookSettings.{sound_profile}
use Rattle.strip122.proofs.top.perform.Goals as goal

pub encode-requires-clause-book : goal.encode-requires-clause-book
encode-requires-clause-book g c = search (sound_profile, rules)

pub encode_with_book-requires-clause-book : goal.encode_with_book-requires-clause-book
encode_with_book-requires-clause-book g c = search (sound_profile, rules)

pub mux-requires-clause-book : goal.mux-requires-clause-book
mux-requires-clause-book g c = search (sound_profile, rules)

pub read-requires : goal.read-requires
read-requires g c = search (sound_profile, rules)

pub bare_encode-requires-clause-book : goal.bare_encode-requires-clause-book
bare_encode-requires-clause-book g c = search (sound_profile, rules)

pub bare_decode-requires : goal.bare_decode-requires
bare_decode-requires g c = search (sound_profile, rules)

pub trial-requires-clause-book : goal.trial-requires-clause-book
trial-requires-clause-book g c = search (sound_profile, rules)

pub returns-in-Make-clause-performs : goal.returns-in-Make-clause-performs
returns-in-Make-clause-performs g c =
    subst (λ k. (behaviour k).performs (g.X.Port.outside c.args.port.now) (g.X.Port.outside c.make.new.port) c.make.result) (sym c.in-Make.is) c.make.ensures

pub returns-in-Encode-default-true-clause-closed : goal.returns-in-Encode-default-true-clause-closed
returns-in-Encode-default-true-clause-closed g c setting has_book is done =
    let here = c.in-Encode-default-true.is in
    let test = c.in-Encode-default-true.field-1-test in
    let same : setting ≡ c.in-Encode-default-true.setting = cc in
    let booked : has_book ≡ true = cc in
    subst (λ b. ClosedBy b setting (g.X.Port.outside c.args.port.now) (g.X.Port.outside c.encode_with_book.new.port)) (sym booked)
    (subst (λ s. ClosedBy true s (g.X.Port.outside c.args.port.now) (g.X.Port.outside c.encode_with_book.new.port)) (sym same)
    (c.encode_with_book.ensures.closed done))

pub returns-in-Encode-default-false-clause-closed : goal.returns-in-Encode-default-false-clause-closed
returns-in-Encode-default-false-clause-closed g c setting has_book is done =
    let here = c.in-Encode-default-false.is in
    let test = c.in-Encode-default-false.field-1-test in
    let same : setting ≡ c.in-Encode-default-false.setting = cc in
    let booked : has_book ≡ false = cc in
    subst (λ b. ClosedBy b setting (g.X.Port.outside c.args.port.now) (g.X.Port.outside c.encode.new.port)) (sym booked)
    (subst (λ s. ClosedBy false s (g.X.Port.outside c.args.port.now) (g.X.Port.outside c.encode.new.port)) (sym same) (c.encode.ensures.closed done))

pub returns-in-Mux-clause-mux_closed : goal.returns-in-Mux-clause-mux_closed
returns-in-Mux-clause-mux_closed g c setting cameras is done =
    let here = c.in-Mux.is in
    let same : setting ≡ c.in-Mux.setting = cc in
    let count : cameras ≡ c.in-Mux.cameras = cc in
    subst (λ n. MuxClosed (camera_settings setting n) (g.X.Port.outside c.args.port.now) (g.X.Port.outside c.mux.new.port)) (sym count)
    (subst (λ s. MuxClosed (camera_settings s c.in-Mux.cameras) (g.X.Port.outside c.args.port.now) (g.X.Port.outside c.mux.new.port)) (sym same)
    (c.mux.ensures.closed done))

pub returns-in-BareEncode-clause-bare_closed : goal.returns-in-BareEncode-clause-bare_closed
returns-in-BareEncode-clause-bare_closed g c setting is done =
    let here = c.in-BareEncode.is in
    let same : setting ≡ c.in-BareEncode.setting = cc in
    subst (λ s. BareClosed s (g.X.Port.outside c.args.port.now) (g.X.Port.outside c.bare_encode.new.port)) (sym same) (c.bare_encode.ensures.closed done)

pub returns-in-BareDecode-clause-performs : goal.returns-in-BareDecode-clause-performs
returns-in-BareDecode-clause-performs g c =
    subst (λ k. (behaviour k).performs (g.X.Port.outside c.args.port.now) (g.X.Port.outside c.bare_decode.new.port) c.bare_decode.result)
    (sym c.in-BareDecode.is) c.bare_decode.ensures
