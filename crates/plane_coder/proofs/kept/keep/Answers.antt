use Rattle.std.proofs.Common.{◌≡◌, ◌<◌, ◌≤◌, ℕ, refl, ap, sym, ◌∙◌, subst, arith, set, get_or, get_or-set_same, get_or-set_other}
use Rattle.block_masks.specs.declared.gaggle.Gaggle.{Gaggle}
use Rattle.plane_defs.specs.Planes.{before_stage}
use Rattle.block_masks.specs.Gaggles.{Agrees}
use Rattle.plane_coder.specs.Kept.{octet_in, flags_in, KeepsStage}
use Rattle.plane_coder.proofs.KeptBits.{agrees_next, stage_kept, three_stages}
use Rattle.plane_coder.proofs.kept.keep.Goals as goal

pub returns-clause-keeps : goal.returns-clause-keeps
returns-clause-keeps c p g agree has =
    let book = c.args.option_codes.now.tables.now.book in
    let options = c.args.gaggle.options in
    let one = c.keep_words-second in
    let two = c.keep_words-third in
    let last = c.keep_words-end in
    let m3 = last.new.free in
    let head = c.head_of.result in
    let m4 = set m3 0 head in
    let first : get_or m4 0 0 ≡ head = get_or-set_same m3 0 head 0 (omega (arith, last.ensures.whole)) in
    let octets = c.head_of.ensures m4 first in
    let later : (k : ℕ) → 0 < k → get_or m4 k 0 ≡ get_or m3 k 0 = λ k some. get_or-set_other m3 0 k head 0 (λ e. omega (arith, e, some)) in
    let gaggle = c.new-pending.ensures.gaggle in
    let agree1 : Agrees c.new-pending.result.gaggle.sent (before_stage p 1 g) = subst (λ (h : Gaggle). Agrees h.sent (before_stage p 1 g)) (sym gaggle) agree in
    let agree2 = agrees_next p g 1 one.ensures.keeps agree1 (has.parents refl) in
    let agree3 = agrees_next p g 2 two.ensures.keeps agree2 (has.children refl) in
    let options1 = ap (λ (h : Gaggle). h.options) gaggle in
    let options2 = one.ensures.keeps.leaves.options ∙ options1 in
    let options3 = two.ensures.keeps.leaves.options ∙ options2 in
    record {
      at = three_stages (λ n. octet_in m4 n ≤ 32 → KeepsStage book options p g n m4)
          (λ room. stage_kept p g 1 one.ensures.keeps agree1 (has.parents refl) m4 options options1 one.ensures.silent
          (omega (arith, room, octets.ends 0 (omega arith)))
          (λ k low lt. later k (omega (arith, low)) ∙ last.ensures.before k (omega (arith, lt, two.ensures.order)) ∙ two.ensures.before k lt)
          octets.first (octets.ends 0 (omega arith)) (ap flags_in (octets.flags 0 (omega arith)) ∙ c.octet_of.ensures.flags))
          (λ room. stage_kept p g 2 two.ensures.keeps agree2 (has.children refl) m4 options options2 two.ensures.silent
          (omega (arith, room, octets.ends 1 (omega arith)))
          (λ k low lt. later k (omega (arith, low, one.ensures.order)) ∙ last.ensures.before k lt)
          (octets.ends 0 (omega arith)) (octets.ends 1 (omega arith)) (ap flags_in (octets.flags 1 (omega arith)) ∙ c.octet_of-2.ensures.flags))
          (λ room. stage_kept p g 3 last.ensures.keeps agree3 (has.grandchildren refl) m4 options options3 last.ensures.silent
          (omega (arith, room, octets.ends 2 (omega arith)))
          (λ k low lt. later k (omega (arith, low, one.ensures.order, two.ensures.order)))
          (octets.ends 1 (omega arith)) (octets.ends 2 (omega arith)) (ap flags_in (octets.flags 2 (omega arith)) ∙ c.octet_of-3.ensures.flags));
    }
