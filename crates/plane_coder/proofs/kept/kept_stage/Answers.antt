use Rattle.std.proofs.Common.{◌≡◌, ◌<◌, ◌+◌, ◌-◌, ◌*◌, ◌^◌, ap, sym, ◌∙◌, zero-add, arith, take, drop, [], ◌∷◌, inl, inr}
use Rattle.item_defs.specs.Bits.{bit}
use Rattle.block_masks.specs.Masks.{Shows}
use Rattle.plane_coder.specs.Kept.{free_at, octet_in, flags_in}
use Rattle.plane_coder.proofs.kept.kept_stage.Goals as goal

pub returns-then-kept-g : goal.returns-then-kept-g
returns-then-kept-g g c = inl c.if-kept-g.true

pub returns-then-to-gt-FREE : goal.returns-then-to-gt-FREE
returns-then-to-gt-FREE g c =
    let kept = c.args.kept.now in
    let n = g.row.STAGE in
    let at = 32 * c.args.g in
    let size : at + 32 - at ≡ 32 = omega arith in
    let free : take (at + 32 - at) (drop at kept) ≡ free_at kept c.args.g = ap (λ k. take k (drop at kept)) size in
    let to : c.octet_at-to.result ≡ octet_in (free_at kept c.args.g) n = c.octet_at-to.ensures ∙ ap (λ l. octet_in l n) free in
    inr (let many = c.if-to-gt-FREE.true in omega (arith, many, to))

pub returns : goal.returns
returns g c =
    let kept = c.args.kept.now in
    let n = g.row.STAGE in
    let at = 32 * c.args.g in
    let size : at + 32 - at ≡ 32 = omega arith in
    let free : take (at + 32 - at) (drop at kept) ≡ free_at kept c.args.g = ap (λ k. take k (drop at kept)) size in
    let flags = c.octet_at-flags.result in
    let octet : flags ≡ octet_in (free_at kept c.args.g) (3 + n) = c.octet_at-flags.ensures ∙ ap (λ l. octet_in l (3 + n)) free in
    let small : flags < 2 ^ 64 = omega (arith, c.octet_at-flags.ensures) in
    let shown : Shows flags (bit flags) 0 64 = record { at = λ k below. ap (bit flags) (sym (zero-add k)); small = small } in
    record {
      full = omega (arith, c.if-kept-g.false);
      free = free;
      from = c.octet_at.ensures ∙ ap (λ l. octet_in l (n - 1)) free;
      to = c.octet_at-to.ensures ∙ ap (λ l. octet_in l n) free;
      room = omega (arith, c.if-to-gt-FREE.false);
      sent = (λ i. c.has.ensures (bit flags) 0 64 shown (omega arith) i ∷ c.has-2.ensures (bit flags) 0 64 shown (omega arith) i ∷ c.has-3.ensures
          (bit flags) 0 64 shown (omega arith) i ∷ []) ∙ ap flags_in octet;
    }
