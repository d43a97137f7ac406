-- One record more.
use Rattle.std.proofs.lemmas.Bool.Decides.{nat_tests}
use Rattle.std.proofs.Common.{◌≡◌, ◌≤◌, ◌<◌, ◌+◌, ◌-◌, ℕ, ℤ, zero, suc, List, [], ◌∷◌, ◌++◌, length, take, drop, refl, sym, ap, ◌∙◌, arith, length-append}
use Rattle.std.proofs.Common.{length-take, cond, slice_index_or}
use Rattle.std.specs.List.{range_with_len, sum_by}
use Rattle.std.proofs.lemmas.Bool.{cases_lt, eq-eqb, ne_eqb}
use Rattle.std.proofs.lemmas.Grind.{flat_map-append}
use Rattle.std.proofs.lemmas.List.{append-nil, take-append-le, take_all, drop_at, drop-take}
use Rattle.std.proofs.Math.Seq.{take-append-add}
use Rattle.std.proofs.lemmas.List.Elements.{filter-append}
use Rattle.std.proofs.lemmas.List.Sums.{sum_by_push}
use Rattle.base_122.specs.declared.setting.Setting.{Setting}
use Rattle.stream_defs.proofs.Outputs.{range_with_len-more}
use Rattle.camera_mux.specs.Records.{CameraRow, record_at, octets_of, records_of, count_of, raster_of, CanFollow, AreAccepted}
use Rattle.camera_mux.specs.MuxOut.{settled_by, settled_at, mux_out, of_whole, sum_of}
use Rattle.strip_decoder.proofs.LineLaws.{same_parts}

-- ---- lists

before_last : (xs : List CameraRow) (y d : CameraRow) (i : ℕ) → i < length xs → slice_index_or (xs ++ y ∷ []) i d ≡ slice_index_or xs i d
before_last [] y d i lt = absurd (omega (arith, lt))
before_last (x ∷ xs) y d zero lt = refl
before_last (x ∷ xs) y d (suc i) lt = before_last xs y d i (omega (arith, lt))

at_last : (xs : List CameraRow) (y d : CameraRow) → slice_index_or (xs ++ y ∷ []) (length xs) d ≡ y
at_last [] y d = refl
at_last (x ∷ xs) y d = at_last xs y d

same_sum : (f g : ℕ → ℕ) (n : ℕ) → ((i : ℕ) → i < n → f i ≡ g i) → sum_by f (range_with_len 0 n) ≡ sum_by g (range_with_len 0 n)
same_sum f g zero same = refl
same_sum f g (suc n) same =
    let e : suc n ≡ n + 1 = omega arith in
    let t : 0 + n ≡ n = omega arith in
    let range = λ (h : ℕ → ℕ). ap (λ m. sum_by h (range_with_len 0 m)) e
    ∙ ap (sum_by h) (range_with_len-more 0 n ∙ ap (λ m. range_with_len 0 n ++ m ∷ []) t) ∙ sum_by_push h (range_with_len 0 n) n in
    range f ∙ ap (λ m. m + f n) (same_sum f g n (λ i lt. same i (omega (arith, lt)))) ∙ ap (λ m. sum_by g (range_with_len 0 n) + m) (same n (omega arith))
    ∙ sym (range g)

-- ---- of one record more

module _ (records : List CameraRow) (r : CameraRow) where
  pub take_before : (i : ℕ) → i ≤ length records → take i (records ++ r ∷ []) ≡ take i records
  take_before i le = take-append-le i records (r ∷ []) le

  pub take_last : take (length records + 1) (records ++ r ∷ []) ≡ records ++ r ∷ []
  take_last = take_all (length records + 1) (records ++ r ∷ []) (omega (arith, length-append records (r ∷ [])))

  pub take_here : take (length records) (records ++ r ∷ []) ≡ records
  take_here = take_before (length records) (omega arith) ∙ take_all (length records) records (omega arith)

  pub size_more : length (records ++ r ∷ []) ≡ length records + 1
  size_more = length-append records (r ∷ [])

  pub octets_more : octets_of (records ++ r ∷ []) ≡ octets_of records ++ r.camera ∷ r.row
  octets_more = flat_map-append (λ (r : CameraRow). r.camera ∷ r.row) records (r ∷ []) ∙ ap (λ zs. octets_of records ++ zs) (append-nil (r.camera ∷ r.row))

  -- its camera has one row more
  own : (camera : ℕ) → r.camera ≡ camera → records_of camera (records ++ r ∷ []) ≡ records_of camera records ++ r ∷ []
  own camera e = grind (arith, nat_tests, filter-append, cond, eq-eqb)

  pub count_own : (camera : ℕ) → r.camera ≡ camera → count_of camera (records ++ r ∷ []) ≡ count_of camera records + 1
  count_own camera e = ap length (own camera e) ∙ length-append (records_of camera records) (r ∷ [])

  pub raster_own : (camera : ℕ) → r.camera ≡ camera → raster_of camera (records ++ r ∷ []) ≡ raster_of camera records ++ r.row
  raster_own camera e = grind (arith, nat_tests, own, flat_map-append, append-nil)

  -- the other cameras have the same records as before
  pub records_other : (camera : ℕ) → (r.camera ≡ camera → ⊥) → records_of camera (records ++ r ∷ []) ≡ records_of camera records
  records_other camera ne = grind (arith, nat_tests, filter-append, cond, ne_eqb, append-nil)

  -- ---- what is given

  out_before : (settings : List Setting) (i : ℕ) → i < length records → settled_at settings (records ++ r ∷ []) i ≡ settled_at settings records i
  out_before settings i lt = grind (arith, nat_tests, before_last, length, take_before)

  out_last : (settings : List Setting) → settled_at settings (records ++ r ∷ []) (length records) ≡ drop (length (settled_by settings r.camera records))
      (settled_by settings r.camera (records ++ r ∷ []))
  out_last settings = grind (arith, nat_tests, length, at_last, take_here, take_last)

  pub out_more : (settings : List Setting) → mux_out settings (records ++ r ∷ []) ≡ mux_out settings records
      ++ drop (length (settled_by settings r.camera records)) (settled_by settings r.camera (records ++ r ∷ []))
  unfolding mux_out
  out_more settings =
      let n = length records in
      let t : 0 + n ≡ n = omega arith in
      grind (arith, nat_tests, size_more, range_with_len-more, flat_map-append, append-nil, out_last, length, same_parts, out_before)

  -- octets that follow what was settled
  pub out_with : (settings : List Setting) (gave : List ℕ) → settled_by settings r.camera records ++ gave ≡ settled_by settings r.camera (records ++ r ∷ []) →
      mux_out settings (records ++ r ∷ []) ≡ mux_out settings records ++ gave
  out_with settings gave e = grind (arith, nat_tests, out_more, length, drop_at)

  -- a prefix of what is settled then
  pub out_cut : (settings : List Setting) (part : List ℕ) (some : ℕ) → settled_by settings r.camera records ++ part
      ≡ take some (settled_by settings r.camera (records ++ r ∷ [])) →
      (n : ℕ) × (mux_out settings records ++ part ≡ take n (mux_out settings (records ++ r ∷ [])))
  out_cut settings part some e =
      let before = settled_by settings r.camera records in
      let all = settled_by settings r.camera (records ++ r ∷ []) in
      let prefix = mux_out settings records in
      let rest = drop (length before) all in
      let more = some - length before in
      let long : length before ≤ some = omega (arith, ap length e, length-append before part, length-take some all) in
      let sum : some ≡ length before + more = omega (arith, long) in
      let part_is : part ≡ take more rest =
      sym (drop_at before part (length before) refl) ∙ ap (drop (length before)) e ∙ ap (λ m. drop (length before) (take m all)) sum
      ∙ drop-take (length before) more all in (
        length prefix + more,
        ap (λ zs. prefix ++ zs) part_is ∙ sym (take-append-add prefix rest more) ∙ ap (take (length prefix + more))
            (sym (out_more settings)),
      )

  sum_before : (measure : Setting → (ℕ → ℕ → ℤ) → ℕ) (settings : List Setting) (i : ℕ) → i < length records →
      of_whole measure settings (record_at (records ++ r ∷ []) i).camera (take (i + 1) (records ++ r ∷ [])) ≡ of_whole measure settings
      (record_at records i).camera (take (i + 1) records)
  sum_before measure settings i lt = grind (arith, nat_tests, before_last, take_before)

  pub sum_more : (measure : Setting → (ℕ → ℕ → ℤ) → ℕ) (settings : List Setting) → sum_of measure settings (records ++ r ∷ [])
      ≡ sum_of measure settings records + of_whole measure settings r.camera (records ++ r ∷ [])
  unfolding sum_of
  sum_more measure settings = grind (arith, nat_tests, length, at_last, take_last, size_more, range_with_len-more, sum_by_push, same_sum, sum_before)

  -- ---- it is accepted

  pub accepted_more : (settings : List Setting) → AreAccepted settings records → CanFollow settings records r → AreAccepted settings (records ++ r ∷ [])
  accepted_more settings before here = grind (arith, nat_tests, size_more, cases_lt, length, before_last, take_before, at_last, take_here)
