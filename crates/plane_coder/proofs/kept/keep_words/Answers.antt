use Rattle.std.proofs.Common.{◌≡◌, ◌+◌, ap, sym, ◌∙◌, subst, arith, flat_map}
use Rattle.std.proofs.lemmas.Bool.{eqb-true}
use Rattle.plane_defs.specs.Spans.{span}
use Rattle.plane_defs.proofs.SpanLists.{flat_map-span-suc, flat_map-span-none}
use Rattle.plane_coder.specs.Appends.{Appends}
use Rattle.plane_coder.specs.Listed.{entries_at}
use Rattle.plane_coder.proofs.KeptBits.{SoKept, so_none, so_more, so_next}
use Rattle.plane_coder.proofs.kept.keep_words.Goals as goal
use Rattle.plane_coder.proofs.kept.keep_words.Goals.{then-not-has_room, else-not-has_room, then-not-has_room-2, else-not-has_room-2}
use Rattle.plane_coder.proofs.kept.keep_words.Goals.{else-loop-i-test, then-loop-i-test+then-are_open}

pub loop-i-init : goal.loop-i-init
loop-i-init g c =
    let book = c.args.option_codes.now.tables.now.book in
    let pending = c.args.pending.now in
    let free = c.args.free.now in
    record {
      so_far = subst (SoKept book pending.gaggle c.args.used free free c.args.used pending) (sym (flat_map-span-none (entries_at c.args.words.now.list) 0))
          (so_none book pending c.args.used free c.requires.used c.requires.whole c.requires.silent);
      last = c.count-first.ensures;
    }

pub loop-i-preserved : goal.loop-i-preserved
loop-i-preserved g c =
    let book = c.args.option_codes.now.tables.now.book in
    let gaggle = c.args.pending.now.gaggle in
    let start = c.args.free.now in
    let f = entries_at c.args.words.now.list in
    let i = c.loop-i.i in
    let now : SoKept book gaggle c.args.used start c.if-not-has_room.free c.if-not-has_room.end c.if-not-has_room.pending (flat_map f (span 0 i)) =
    elim c.if-not-has_room.branch [
      | then-not-has_room w ↦
          let kept = w.keep_bits-end.ensures in
          rw (w.free-is, w.pending-is, w.end-is) (so_next c.loop-i.invariant.so_far kept.keeps kept.whole kept.gaggle kept.silent)
      | else-not-has_room w ↦ rw (w.free-is, w.pending-is, w.end-is) c.loop-i.invariant.so_far
    ] in
    let here : i ≡ 0 + i = omega arith in
    let next = subst (λ l. Appends book c.if-not-has_room.pending c.typed.new.self l 12) (c.at.ensures.typed ∙ ap f here) c.typed.ensures in
    record {
      so_far = subst (SoKept book gaggle c.args.used start c.if-not-has_room.free c.if-not-has_room.end c.typed.new.self) (sym (flat_map-span-suc f 0 i))
          (so_more 12 now next);
      last = c.loop-i.invariant.last;
    }

pub loop-j-init : goal.loop-j-init
loop-j-init g c =
    let book = c.args.option_codes.now.tables.now.book in
    let gaggle = c.args.pending.now.gaggle in
    let f = entries_at c.args.words.now.list in
    let so_far = c.loop-i.invariant.so_far in
    elim c.loop-i-test.branch [
      | else-loop-i-test w ↦
          let all : c.loop-i.i ≡ c.loop-i.first =
          omega (arith, c.count-i-end.ensures, w.loop-i-test.false, c.loop-i.auto.i-end, c.loop-i.invariant.last) in
          rw w.first-is (record {
            so_far = subst (λ n. SoKept book gaggle c.args.used c.args.free.now c.loop-i.free c.loop-i.end c.loop-i.pending (flat_map f (span 0 n))) all so_far;
            none = λ lt. absurd (omega (arith, lt, c.loop-i.invariant.last));
            within = omega (arith, c.loop-i.invariant.last);
          })
      | then-loop-i-test+then-are_open w ↦ rw w.first-is (record {
        so_far = so_far;
        none = λ lt. eqb-true _ _ (sym w.are_open.ensures ∙ w.if-are_open.true);
        within = omega (arith, c.count-i-end.ensures, w.loop-i-test.true);
      })
    ]

pub loop-j-preserved : goal.loop-j-preserved
loop-j-preserved g c =
    let book = c.args.option_codes.now.tables.now.book in
    let gaggle = c.args.pending.now.gaggle in
    let start = c.args.free.now in
    let f = entries_at c.args.words.now.list in
    let j = c.loop-j.j in
    let now : SoKept book gaggle c.args.used start c.if-not-has_room-2.free c.if-not-has_room-2.end c.if-not-has_room-2.pending (flat_map f (span 0 j)) =
    elim c.if-not-has_room-2.branch [
      | then-not-has_room-2 w ↦
          let kept = w.keep_bits-end-then-not-has_room-2.ensures in
          rw (w.free-is, w.pending-is, w.end-is) (so_next c.loop-j.invariant.so_far kept.keeps kept.whole kept.gaggle kept.silent)
      | else-not-has_room-2 w ↦ rw (w.free-is, w.pending-is, w.end-is) c.loop-j.invariant.so_far
    ] in
    let here : j ≡ 0 + j = omega arith in
    let next = subst (λ l. Appends book c.if-not-has_room-2.pending c.typed_open.new.self l 12) (c.at-in-loop-j.ensures.typed ∙ ap f here)
    c.typed_open.ensures.appends in
    record {
      so_far = subst (SoKept book gaggle c.args.used start c.if-not-has_room-2.free c.if-not-has_room-2.end c.typed_open.new.self)
          (sym (flat_map-span-suc f 0 j)) (so_more 12 now next);
      none = λ lt. c.typed_open.ensures.none;
      within = omega (arith, c.loop-j-test.true, c.count-j-end.ensures);
    }

pub returns : goal.returns
returns g c =
    let book = c.args.option_codes.now.tables.now.book in
    let gaggle = c.args.pending.now.gaggle in
    let f = entries_at c.args.words.now.list in
    let kept = c.keep_bits.ensures in
    let all : c.loop-j.j ≡ c.args.words.now.count = omega (arith, c.count-j-end.ensures, c.loop-j-test.false, c.loop-j.invariant.within) in
    let so = subst (λ n. SoKept book gaggle c.args.used c.args.free.now c.keep_bits.new.free c.keep_bits.result c.keep_bits.new.pending
    (flat_map f (span 0 n))) all
    (so_next c.loop-j.invariant.so_far kept.keeps kept.whole kept.gaggle kept.silent) in
    record { keeps = so.keeps; before = so.before; order = so.order; few = so.few; whole = kept.whole; silent = kept.silent }
