use Rattle.std.proofs.Common.{◌≡◌, ◌∙◌, ◌++◌, ◌∷◌, [], sym, ap, subst, arith, length, slice_set, get_or, Some}
use Rattle.std.proofs.lemmas.Grind.{get_or_default_zero}
use Rattle.camera_mux.specs.Tables.{IsPlace}
use Rattle.camera_mux.specs.Chains.{AreChained, bucket_of}
use Rattle.camera_mux.proofs.ChainLaws.{bucket_low, put_chained, more_chained}
use Rattle.camera_mux.proofs.image_table.Table.put.Goals as goal

pub invariant_of-self-in_default-clause-chained : goal.invariant_of-self-in_default-clause-chained
invariant_of-self-in_default-clause-chained c =
    let s = c.args.self.now in
    let t = s.entries.items in
    let last = s.last.items in
    let earlier = s.earlier.items in
    let entry = c.args.entry in
    let buckets : length last ≡ 4096 = omega (arith, s.last.ok, s.buckets) in
    let size : length earlier ≡ length t = omega (arith, s.earlier.ok, s.entries.ok, s.chain_size) in
    let all = more_chained t last earlier entry buckets size s.chained in
    let count : c.len-in_default.result ≡ length t = omega (arith, c.len-in_default.ensures, s.entries.ok) in
    let bucket : c.bucket_of-bucket.result ≡ bucket_of entry.id = c.bucket_of-bucket.ensures in
    let linked : c.push_reserved.new.self.items ≡ earlier ++ get_or last (bucket_of entry.id) 0 ∷ [] =
    c.push_reserved.ensures.items ∙ ap (λ v. earlier ++ v ∷ [])
    (c.index.ensures ∙ get_or_default_zero last c.bucket_of-bucket.result _ (omega (arith, bucket, bucket_low entry.id, buckets)) ∙
    ap (λ b. get_or last b 0) bucket) in
    subst (λ table. AreChained table (slice_set last c.bucket_of-bucket.result c.len-in_default.result) c.push_reserved.new.self.items)
    (sym c.push_reserved-in_default.ensures.items)
    (subst (AreChained (t ++ entry ∷ []) (slice_set last c.bucket_of-bucket.result c.len-in_default.result)) (sym linked)
    (subst (λ b. AreChained (t ++ entry ∷ []) (slice_set last b c.len-in_default.result) (earlier ++ get_or last (bucket_of entry.id) 0 ∷ [])) (sym bucket)
    (subst (λ n. AreChained (t ++ entry ∷ []) (slice_set last (bucket_of entry.id) n) (earlier ++ get_or last (bucket_of entry.id) 0 ∷ [])) (sym count) all)))

pub invariant_of-self-2-clause-chained : goal.invariant_of-self-2-clause-chained
invariant_of-self-2-clause-chained c =
    let s = c.args.self.now in
    let place : IsPlace s.entries.items c.args.entry.id (Some c.in-Some.place) = subst (IsPlace s.entries.items c.args.entry.id) c.in-Some.is c.requires in
    put_chained s.entries.items s.last.items s.earlier.items c.in-Some.place c.args.entry place.0 place.1 s.chained
