use Rattle.std.proofs.Common.{◌≡◌, ◌+◌, ◌-◌, [], ◌∷◌, ◌++◌, ◌∙◌, ap, arith, append_assoc, replicate, vec_len}
use Rattle.std.proofs.lemmas.List.{replicate-append-replicate}
use Rattle.block_masks.proofs.segment_masks.fill_to.Goals as goal

pub returns-clause-items : goal.returns-clause-items
returns-clause-items c =
    let i = c.loop-words.invariant in
    let all : vec_len c.loop-words.words - vec_len c.args.words.now ≡ c.args.len - vec_len c.args.words.now =
    omega (arith, i.within, c.loop-words-test.false, c.len.ensures) in
    i.items ∙ ap (λ n. c.args.words.now.items ++ replicate n 0) all

pub loop-words-preserved : goal.loop-words-preserved
loop-words-preserved c =
    let i = c.loop-words.invariant in
    let old = c.args.words.now.items in
    let so_far = vec_len c.loop-words.words - vec_len c.args.words.now in
    let next : so_far + 1 ≡ vec_len c.push_reserved.new.self - vec_len c.args.words.now = omega (arith, c.push_reserved.ensures.len, i.grown) in
    record {
      items = c.push_reserved.ensures.items ∙ ap (λ l. l ++ 0 ∷ []) i.items ∙ append_assoc old (replicate so_far 0) (0 ∷ [])
          ∙ ap (λ l. old ++ l) (replicate-append-replicate so_far 1 0) ∙ ap (λ n. old ++ replicate n 0) next;
      grown = omega (arith, c.push_reserved.ensures.len, i.grown);
      within = omega (arith, c.push_reserved.ensures.len, c.loop-words-test.true, c.len.ensures);
      capacity = c.push_reserved.ensures.capacity ∙ i.capacity;
    }
