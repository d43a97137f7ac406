-- The settings and the works of several cameras.
use Rattle.std.proofs.Common.{◌≡◌, ◌<◌, ◌≤◌, ◌+◌, ℕ, List, [], ◌∷◌, ◌++◌, length, sym, ◌∙◌, ap, subst, arith, inl, inr, true, slice_index_or}
use Rattle.std.proofs.Math.ListN.{get_or-append}
use Rattle.std.proofs.Math.Seq.{get_or-append_seam}
use Rattle.plane_defs.specs.Codes.{is_book_sound}
use Rattle.std.specs.List.{range_with_len}
use Rattle.std.proofs.lemmas.List.{length-map}
use Rattle.std.proofs.lemmas.List.FromFn.{length-range_with_len, get_or-map-range_with_len, map-range_with_len_more}
use Rattle.std.proofs.lemmas.Bool.{cases_lt}
use Rattle.base_122.specs.Ranges.{IsInRange, IsWithin, apid_range, rows_range}
use Rattle.base_122.specs.declared.setting.Setting.{Setting}
use Rattle.strip_coder.specs.declared.work.Work.{Work}
use Rattle.strip_coder.specs.Works.{IsMadeFor}
use Rattle.camera_mux.specs.Records.{setting_at, no_setting}
use Rattle.camera_mux.specs.MuxProgress.{AreSettings}
use Rattle.command_words.specs.Commands.{AreCameras}
use Rattle.strip122.specs.Muxing.{camera_settings}

pub size_is : (s : Setting) (cameras : ℕ) → length (camera_settings s cameras) ≡ cameras
size_is s cameras = length-map (range_with_len 0 cameras) (λ camera. record s { apid = s.apid + camera }) ∙ length-range_with_len 0 cameras

pub setting_is : (s : Setting) (cameras camera : ℕ) → camera < cameras → setting_at (camera_settings s cameras) camera ≡ record s { apid = s.apid + camera }
setting_is s cameras camera lt = get_or-map-range_with_len (λ camera. record s { apid = s.apid + camera }) 0 cameras camera camera no_setting lt (omega arith)

-- another APID in its range changes nothing else
in_range_with : (s : Setting) (apid : ℕ) → IsInRange s → apid ≤ apid_range.most → IsInRange (record s { apid = apid })
in_range_with s apid range most = record {
  width = range.width;
  rows = range.rows;
  depth = range.depth;
  segment = range.segment;
  limit = range.limit;
  fill = range.fill;
  word = range.word;
  plane = range.plane;
  stage = range.stage;
  weights = range.weights;
  apid = (omega arith, most);
  image = range.image;
  packet = range.packet;
  total = elim range.total [
    | inl none ↦ inl none
    | inr has ↦ inr (record { rows = has.rows; limit = has.limit; within = has.within })
  ];
}

-- the settings of all cameras
pub are_settings : (s : Setting) (cameras : ℕ) → IsInRange s → IsWithin rows_range s.rows → AreCameras s cameras → AreSettings (camera_settings s cameras)
are_settings s cameras range height are = record {
  some = omega (arith, size, are.least);
  few = omega (arith, size, are.most);
  in_range = λ camera lt. subst IsInRange (sym (setting_is s cameras camera (omega (arith, lt, size))))
      (in_range_with s (s.apid + camera) range (omega (arith, lt, size, are.apids)));
  known = λ camera lt none. omega (arith, ap (λ (s : Setting). s.rows) (setting_is s cameras camera (omega (arith, lt, size))), none, height.0);
  apart = λ camera other lt below same.
      let one = ap (λ (s : Setting). s.apid) (setting_is s cameras camera (omega (arith, lt, below, size))) in
      let two = ap (λ (s : Setting). s.apid) (setting_is s cameras other (omega (arith, below, size))) in
      omega (arith, one, two, same, lt);
}
  where
    size : length (camera_settings s cameras) ≡ cameras
    size = size_is s cameras

-- and they have one book
pub sound_cameras : (s : Setting) (cameras : ℕ) → is_book_sound s.book ≡ true → (camera : ℕ) → camera < length (camera_settings s cameras) →
    is_book_sound (setting_at (camera_settings s cameras) camera).book ≡ true
sound_cameras s cameras sound camera lt =
    subst (λ (t : Setting). is_book_sound t.book ≡ true) (sym (setting_is s cameras camera (omega (arith, lt, size_is s cameras)))) sound

-- one work more
pub made_more : (settings : List Setting) (works : List Work) (w : Work) (k : ℕ) → length works ≡ k →
    ((camera : ℕ) (d : Work) → camera < k → IsMadeFor (setting_at settings camera) (slice_index_or works camera d)) → IsMadeFor (setting_at settings k) w →
    (camera : ℕ) (d : Work) → camera < k + 1 → IsMadeFor (setting_at settings camera) (slice_index_or (works ++ w ∷ []) camera d)
made_more settings works w k size made new camera d lt = elim (cases_lt camera k) [
  | inl below ↦ subst (IsMadeFor (setting_at settings camera)) (sym (get_or-append works (w ∷ []) d camera (omega (arith, below, size)))) (made camera d below)
  | inr above ↦
      let here : k ≡ camera = omega (arith, above, lt) in
      let last : slice_index_or (works ++ w ∷ []) k d ≡ w = ap (λ n. slice_index_or (works ++ w ∷ []) n d) (sym size) ∙ get_or-append_seam works w [] d in
      subst (λ n. IsMadeFor (setting_at settings n) (slice_index_or (works ++ w ∷ []) n d)) here (subst (IsMadeFor (setting_at settings k)) (sym last) new)
]

-- one setting more
pub settings_more : (s : Setting) (cameras : ℕ) → camera_settings s (cameras + 1) ≡ camera_settings s cameras ++ (record s { apid = s.apid + cameras }) ∷ []
settings_more s cameras = map-range_with_len_more (λ camera. record s { apid = s.apid + camera }) 0 cameras cameras (omega arith)
