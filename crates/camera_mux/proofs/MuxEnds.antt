-- How a mux begins and ends.
use Rattle.std.proofs.lemmas.Bool.Decides.{nat_tests}
use Rattle.std.proofs.Common.{◌≡◌, ◌≤◌, ◌<◌, ◌+◌, ◌-◌, ◌*◌, ◌^◌, ℕ, ℤ, List, [], ◌∷◌, length, inl, inr, refl, sym, ◌∙◌, subst, arith, suc, true, false, min}
use Rattle.std.proofs.Common.{sum, slice_index, EachIndex, Ok, Err}
use Rattle.std.proofs.lemmas.Bool.{cases_lt}
use Rattle.std.proofs.lemmas.List.Sums.{sum_by-cons}
use Rattle.camera_mux.proofs.CameraAlone.{no_octets}
use Rattle.port_122.specs.Outside.{Outside, Exchange}
use Rattle.port_122.proofs.Stretches.{since_start}
use Rattle.base_122.specs.Ranges.{IsInRange}
use Rattle.base_122.specs.declared.setting.Setting.{Setting}
use Rattle.raster_rows.specs.Ends.{SawEnd}
use Rattle.strip_coder.specs.declared.work.Work.{Work}
use Rattle.camera_mux.specs.declared.mux.MuxFault.TheVariants.{Long}
use Rattle.camera_mux.specs.declared.muxing.Progress.{Progress}
use Rattle.camera_mux.specs.Records.{setting_at, AreFull}
use Rattle.camera_mux.specs.MuxOut.{mux_out, sum_of, packets_in, octets_in}
use Rattle.camera_mux.specs.MuxProgress.{AreSettings, CanMux, AsksMux, HasMuxed, IsUnbegun}
use Rattle.camera_mux.specs.MuxAnswers.{Muxes}
use Rattle.camera_mux.proofs.MuxRuns.{asked}

-- ---- before the first record

sum_none : (measure : Setting → (ℕ → ℕ → ℤ) → ℕ) (settings : List Setting) → sum_of measure settings [] ≡ 0
unfolding sum_of
sum_none measure settings = refl

sum_few : (m : ℕ) (xs : List ℕ) → ((i : ℕ) → i < length xs → slice_index xs i ≤ m) → sum xs ≤ length xs * m
sum_few m [] few = omega arith
sum_few m (x ∷ xs) few =
    let rest : sum xs ≤ length xs * m = sum_few m xs (λ i lt. few (suc i) (omega (arith, lt))) in
    let e : sum (x ∷ xs) ≡ x + sum xs = sum_by-cons (λ (n : ℕ). n) x xs in
    let here : x ≤ m = few 0 (omega arith) in
    grind (arith, nat_tests, length)

rows_most : (s : Setting) → IsInRange s → s.rows ≤ 262144
rows_most s range = elim range.rows [ inl none ↦ omega (arith, none) | inr known ↦ let most = known.1 in omega (arith, most) ]

left_few : {settings : List Setting} {v : Progress} → AreSettings settings → IsUnbegun settings v → sum v.left ≤ 2 ^ 22
left_few {settings = settings} {v = v} cameras x =
    let each : sum v.left ≤ length v.left * 262144 = sum_few 262144 v.left (λ i lt. elim (cases_lt i (length settings)) [
      | inl known ↦ let left = x.left i known in let most = rows_most (setting_at settings i) (cameras.in_range i known) in omega (arith, left, most)
      | inr far ↦ let none = x.others i far in omega (arith, none)
    ]) in
    grind (arith, nat_tests, length)

pub none_muxed : {settings : List Setting} {works : List Work} (start : Outside) (v : Progress) → CanMux settings works → IsUnbegun settings v →
    HasMuxed settings works start start v
none_muxed {settings = settings} start v can x = record {
  records = [];
  accepted = record { each = λ i lt. absurd (omega (arith, lt)) };
  since = subst (λ g. Exchange start start [] g [] (AsksMux settings [] [])) (sym (no_octets settings)) (since_start start (AsksMux settings [] []));
  left = λ camera lt. let left = x.left camera lt in omega (arith, left);
  others = x.others;
  ready = λ camera d lt. record { made = can.made camera d lt; valid = λ some less. absurd (omega (arith, some)) };
  rasters = λ camera lt. omega arith;
  size = x.size;
  records_are = x.records;
  octets_are = x.octets;
  packets_done = x.packets_done ∙ (let none = sum_none packets_in settings in let e : 0 ≡ min (sum_of packets_in settings []) (2 ^ 64 - 1) =
      omega (arith, none) in e);
  octets_done = x.octets_done ∙ (let none = sum_none octets_in settings in let e : 0 ≡ min (sum_of octets_in settings []) (2 ^ 64 - 1) =
      omega (arith, none) in e);
  bound = let few = left_few can.cameras x in omega (arith, few);
  most = let none = x.octets in omega (arith, none);
}

-- ---- after the last

module _ {settings : List Setting} {works : List Work} {start now : Outside} {v : Progress} (cameras : AreSettings settings)
    (arrived : HasMuxed settings works start now v) where
  is_full : EachIndex v.left (λ k. slice_index v.left k ≡ 0) → AreFull settings arrived.records
  is_full none = grind (arith, nat_tests)

  pub all_muxed : {new : Outside} → EachIndex v.left (λ k. slice_index v.left k ≡ 0) → SawEnd now new true → Muxes settings start new (Ok v.done)
  all_muxed none x = record {
    records = arrived.records;
    rest = [];
    gave = mux_out settings arrived.records;
    accepted = arrived.accepted;
    since = asked arrived x.0;
    answer = (is_full none, refl, x.1, refl, arrived.packets_done, arrived.octets_done);
  }

  pub long_muxed : {new : Outside} → EachIndex v.left (λ k. slice_index v.left k ≡ 0) → SawEnd now new false → Muxes settings start new (Err Long)
  long_muxed none x = record {
    records = arrived.records;
    rest = x.0 ∷ [];
    gave = mux_out settings arrived.records;
    accepted = arrived.accepted;
    since = asked arrived x.1;
    answer = (is_full none, refl, refl);
  }
