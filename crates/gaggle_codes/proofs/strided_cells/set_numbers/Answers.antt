use Rattle.std.proofs.Common.{◌≡◌, ◌+◌, ◌-◌, ◌++◌, ◌∷◌, [], length, take, get_or, arith, ap, sym, ◌∙◌, append_assoc, length-append, length-take, w32, rules}
use Rattle.std.proofs.lemmas.Int.{to_z-of_z}
use Rattle.std.proofs.lemmas.List.{append-nil, take_more, take_all}
use Rattle.gaggle_codes.proofs.Setting.{sets_more, sets_as, place_further}
use Rattle.gaggle_codes.proofs.strided_cells.set_numbers.Goals as goal

pub loop-place-init : goal.loop-place-init
loop-place-init c = λ first before e s. sets_as c.args.strided.range c.args.strided.shift c.args.strided.stride (sym (append-nil first)) s

pub loop-place-preserved : goal.loop-place-preserved
loop-place-preserved c = λ first before e s.
    let i = c.loop-place.place in
    let hs = c.args.heights.now in
    let so_far = c.loop-place.invariant first before e s in
    let long : c.args.from + i ≡ length (first ++ take i hs) = omega (arith, e, length-append first (take i hs), length-take i hs) in
    let there = place_further (c.args.from + i) (c.args.from + length hs - 1) c.args.strided.stride (length before) (omega arith)
    (omega (arith, s.size, c.requires.within (omega arith))) in
    let list : (first ++ take i hs) ++ get_or hs i 0 ∷ [] ≡ first ++ take (i + 1) hs = append_assoc first (take i hs) (get_or hs i 0 ∷ [])
    ∙ ap (λ l. first ++ l) (sym (take_more hs i 0 (omega arith))) in
    rw (to_z-of_z w32 c.number_of.result (search rules))
    (sets_as c.args.strided.range c.args.strided.shift c.args.strided.stride list (sets_more c.args.strided.stride c.requires.stride c.args.strided.range
    c.args.strided.shift (first ++ take i hs)
    (get_or hs i 0) (c.args.from + i) _ long there c.number_of.ensures so_far))

pub returns : goal.returns
returns c = λ first before e s. sets_as c.args.strided.range c.args.strided.shift c.args.strided.stride
    (ap (λ l. first ++ l) (take_all c.loop-place.place c.args.heights.now (omega arith))) (c.loop-place.invariant first before e s)
