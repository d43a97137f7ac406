use Rattle.std.proofs.Common.{◌≡◌, ◌≤◌, ◌<◌, ◌⊎◌, ◌∙◌, sym, ap, subst, arith, length, get_or}
use Rattle.std.proofs.lemmas.Grind.{get_or_default_zero}
use Rattle.std.proofs.lemmas.List.{get_or_default}
use Rattle.camera_mux.specs.declared.image.ImageEntry.{ImageEntry}
use Rattle.camera_mux.specs.Tables.{entry_at, no_entry}
use Rattle.camera_mux.specs.Chains.{bucket_of}
use Rattle.camera_mux.proofs.ChainLaws.{IsAhead, bucket_low, ahead_first, ahead_next, earlier_less, left_less, not_own}
use Rattle.camera_mux.proofs.image_table.Table.place_of.Goals as goal

pub loop-place-init : goal.loop-place-init
loop-place-init c =
    let s = c.args.self.now in
    let last = s.last.items in
    let few : length s.entries.items ≤ 4096 = omega (arith, s.entries.ok, s.few) in
    let inside : c.bucket_of.result < length last = omega (arith, c.bucket_of.ensures, bucket_low c.args.id, s.last.ok, s.buckets) in
    let place : c.from-place.result ≡ get_or last (bucket_of c.args.id) 0 =
    c.from-place.ensures ∙ c.index.ensures ∙ get_or_default_zero last c.bucket_of.result _ inside ∙ ap (λ b. get_or last b 0) c.bucket_of.ensures in
    subst (IsAhead s.entries.items c.args.id) (sym place) (ahead_first s.entries.items last s.earlier.items c.args.id few s.chained)

pub loop-place-smaller : goal.loop-place-smaller
loop-place-smaller c =
    let s = c.args.self.now in
    let few : length s.entries.items ≤ 4096 = omega (arith, s.entries.ok, s.few) in
    let inside : c.loop-place.place < length s.entries.items = omega (arith, c.loop-place-test.true, c.len.ensures, s.entries.ok) in
    let linked : c.loop-place.place < length s.earlier.items = omega (arith, inside, s.entries.ok, s.earlier.ok, s.chain_size) in
    let next : c.from-place-in-loop-place.result ≡ get_or s.earlier.items c.loop-place.place 0 =
    c.from-place-in-loop-place.ensures ∙ c.index-in-loop-place-2.ensures ∙ get_or_default_zero s.earlier.items c.loop-place.place _ linked in
    left_less (length s.entries.items) c.loop-place.place c.from-place-in-loop-place.result inside few
    (subst (λ n. (n < c.loop-place.place) ⊎ (n ≡ 65535)) (sym next) (earlier_less s.entries.items s.last.items s.earlier.items c.loop-place.place s.chained
    inside))

pub loop-place-preserved : goal.loop-place-preserved
loop-place-preserved c =
    let s = c.args.self.now in
    let few : length s.entries.items ≤ 4096 = omega (arith, s.entries.ok, s.few) in
    let inside : c.loop-place.place < length s.entries.items = omega (arith, c.loop-place-test.true, c.len.ensures, s.entries.ok) in
    let linked : c.loop-place.place < length s.earlier.items = omega (arith, inside, s.entries.ok, s.earlier.ok, s.chain_size) in
    let next : c.from-place-in-loop-place.result ≡ get_or s.earlier.items c.loop-place.place 0 =
    c.from-place-in-loop-place.ensures ∙ c.index-in-loop-place-2.ensures ∙ get_or_default_zero s.earlier.items c.loop-place.place _ linked in
    let entry : c.index-in-loop-place.result.now ≡ entry_at s.entries.items c.loop-place.place =
    c.index-in-loop-place.ensures ∙ get_or_default s.entries.items c.loop-place.place _ no_entry inside in
    subst (IsAhead s.entries.items c.args.id) (sym next)
    (ahead_next s.entries.items s.last.items s.earlier.items c.args.id c.loop-place.place few s.chained inside
    (λ own. not_own c.index-in-loop-place.result.now.id c.args.id c.if-eq.ensures (ap (λ (e : ImageEntry). e.id) entry ∙ own)) c.loop-place.invariant)
