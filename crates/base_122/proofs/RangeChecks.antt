-- A check finds no field out of range exactly if the setting is in range.
use Rattle.std.proofs.Common.{◌≡◌, ◌≢◌, ◌≤◌, ◌%◌, ℕ, List, refl, sym, ◌∙◌, inl, inr, true, false, arith, ◌⊎◌, All, Bool, not, cond, ◌&&◌, ◌||◌, ◌==◌}
use Rattle.std.proofs.Common.{nat_le, Option, Some, None}
use Rattle.std.specs.Bool.{Decides}
use Rattle.std.specs.List.{list_all}
use Rattle.std.proofs.lemmas.Bool.{or_cases, or_left, or_right, and_parts, and_from, not-true, not_from_false, false≢true, ne_eqb, eqb-true, eq-eqb}
use Rattle.std.proofs.lemmas.Bool.{leb-true, le-leb}
use Rattle.std.proofs.lemmas.Bool.Decides.{Decides-and, Decides-by_and}
use Rattle.base_122.specs.declared.field.Field.{Field}
use Rattle.base_122.specs.declared.field.Field.TheVariants.{Width, Rows, Depth, Segment, Limit, Fill, Word, Stop, Weights, Apid, Image, Packet, Total}
use Rattle.base_122.specs.declared.range.FieldRange.{FieldRange}
use Rattle.base_122.specs.declared.setting.Setting.{Setting}
use Rattle.base_122.specs.Weights.{IsShift, is_shift}
use Rattle.base_122.specs.Ranges.{IsWithin, is_within, limit_range, word_range, width_range, rows_range, depth_range, segment_range, plane_range}
use Rattle.base_122.specs.Ranges.{stage_range, apid_range, image_range, packet_range, HasTotal, IsInRange, segments_in, total_range, limit_test, total_test}
use Rattle.base_122.specs.Ranges.{field_test, first_out_of_range}

decides-le : (m n : ℕ) → Decides (nat_le m n) (m ≤ n)
decides-le m n = (leb-true m n, le-leb m n)

pub within : (range : FieldRange) (n : ℕ) → Decides (is_within range n) (IsWithin range n)
within range n = Decides-and (nat_le range.least n) (nat_le n range.most) (decides-le range.least n) (decides-le n range.most)

shifts_pass : (xs : List ℕ) → Decides (list_all is_shift xs) (All IsShift xs)
shifts_pass xs = Decides-by_and is_shift IsShift (list_all is_shift) (λ n. decides-le n 3) refl (λ _ _. refl) xs

limit_passes : (limit word : ℕ) → IsWithin word_range word → limit_test limit word ≡ true → (limit ≡ 0) ⊎ (IsWithin limit_range limit × (limit % word ≡ 0))
limit_passes limit word in_word passes =
    elim (or_cases (limit == 0) (is_within limit_range limit && (not (is_within word_range word) || (limit % word == 0))) passes) [
      | inl none ↦ inl (eqb-true limit 0 none)
      | inr some ↦
          let both = and_parts (is_within limit_range limit) (not (is_within word_range word) || (limit % word == 0)) some in
          inr ((within limit_range limit).0 both.0, multiple (or_cases (not (is_within word_range word)) (limit % word == 0) both.1))
    ]
  where
    multiple : ((not (is_within word_range word) ≡ true) ⊎ ((limit % word == 0) ≡ true)) → limit % word ≡ 0
    multiple (inl out) = absurd (false≢true (sym (not-true (is_within word_range word) out) ∙ (within word_range word).1 in_word))
    multiple (inr rest) = eqb-true (limit % word) 0 rest

limit_from : (limit word : ℕ) → (limit ≡ 0) ⊎ (IsWithin limit_range limit × (limit % word ≡ 0)) → limit_test limit word ≡ true
limit_from limit word (inl none) = or_left (limit == 0) _ (eq-eqb limit 0 none)
limit_from limit word (inr some) =
    or_right (limit == 0) _ (and_from (is_within limit_range limit) _ ((within limit_range limit).1 some.0)
    (or_right (not (is_within word_range word)) (limit % word == 0) (eq-eqb (limit % word) 0 some.1)))

-- a field passes its test if it is not 0
some_passes : (n : ℕ) → not (n == 0) ≡ true → n ≢ 0
some_passes n passes none = false≢true (sym (not-true (n == 0) passes) ∙ eq-eqb n 0 none)

some_from : (n : ℕ) → n ≢ 0 → not (n == 0) ≡ true
some_from n some = not_from_false (n == 0) (ne_eqb n 0 some)

rows_pass : (rows : ℕ) → ((rows == 0) || is_within rows_range rows) ≡ true → (rows ≡ 0) ⊎ IsWithin rows_range rows
rows_pass rows passes = elim (or_cases (rows == 0) (is_within rows_range rows) passes) [
  | inl none ↦ inl (eqb-true rows 0 none)
  | inr some ↦ inr ((within rows_range rows).0 some)
]

rows_from : (rows : ℕ) → (rows ≡ 0) ⊎ IsWithin rows_range rows → ((rows == 0) || is_within rows_range rows) ≡ true
rows_from rows (inl none) = or_left (rows == 0) _ (eq-eqb rows 0 none)
rows_from rows (inr some) = or_right (rows == 0) _ ((within rows_range rows).1 some)

fill_passes : (fill : Bool) (limit total : ℕ) → (not fill || (not (limit == 0) || not (total == 0))) ≡ true → fill ≡ true → (limit ≢ 0) ⊎ (total ≢ 0)
fill_passes true limit total passes set = elim (or_cases (not (limit == 0)) (not (total == 0)) passes) [
  | inl some ↦ inl (some_passes limit some)
  | inr some ↦ inr (some_passes total some)
]
fill_passes false limit total passes set = absurd (false≢true set)

fill_from : (fill : Bool) (limit total : ℕ) → (fill ≡ true → (limit ≢ 0) ⊎ (total ≢ 0)) → (not fill || (not (limit == 0) || not (total == 0))) ≡ true
fill_from true limit total has = elim (has refl) [
  | inl some ↦ or_left (not (limit == 0)) _ (some_from limit some)
  | inr some ↦ or_right (not (limit == 0)) _ (some_from total some)
]
fill_from false limit total has = refl

total_passes : (s : Setting) → IsWithin segment_range s.segment → total_test s ≡ true → (s.total ≡ 0) ⊎ HasTotal s
total_passes s segment passes =
    let range = is_within (total_range (segments_in s)) s.total in
    elim (or_cases (s.total == 0) (not (s.rows == 0) && ((s.limit == 0) && ((s.segment == 0) || range))) passes) [
      | inl none ↦ inl (eqb-true s.total 0 none)
      | inr some ↦
          let rows = and_parts (not (s.rows == 0)) ((s.limit == 0) && ((s.segment == 0) || range)) some in
          let limit = and_parts (s.limit == 0) ((s.segment == 0) || range) rows.1 in
          inr record {
            rows = some_passes s.rows rows.0;
            limit = eqb-true s.limit 0 limit.0;
            within = (within (total_range (segments_in s)) s.total).0 (in_range (or_cases (s.segment == 0) range limit.1));
          }
    ]
  where
    in_range : ((s.segment == 0) ≡ true) ⊎ (is_within (total_range (segments_in s)) s.total ≡ true) → is_within (total_range (segments_in s)) s.total ≡ true
    in_range (inl none) = let e = eqb-true s.segment 0 none in absurd (omega (arith, e, segment))
    in_range (inr here) = here

total_from : (s : Setting) → (s.total ≡ 0) ⊎ HasTotal s → total_test s ≡ true
total_from s (inl none) = or_left (s.total == 0) _ (eq-eqb s.total 0 none)
total_from s (inr has) =
    or_right (s.total == 0) _ (and_from (not (s.rows == 0)) _ (some_from s.rows has.rows)
    (and_from (s.limit == 0) _ (eq-eqb s.limit 0 has.limit)
    (or_right (s.segment == 0) _ ((within (total_range (segments_in s)) s.total).1 has.within))))

-- the first field passes, and so do those after it
pub passed : (b : Bool) (field : Field) (rest : Option Field) → cond (not b) (Some field) rest ≡ None → (b ≡ true) × (rest ≡ None)
passed true field rest e = (refl, e)
passed false field rest e = absurd (let h : Some field ≡ None = e in cc)

pub in_range-from_none : (s : Setting) → first_out_of_range s ≡ None → IsInRange s
in_range-from_none s e =
    let w = passed (field_test s Width) Width _ e in
    let r = passed (field_test s Rows) Rows _ w.1 in
    let d = passed (field_test s Depth) Depth _ r.1 in
    let g = passed (field_test s Segment) Segment _ d.1 in
    let l = passed (field_test s Limit) Limit _ g.1 in
    let f = passed (field_test s Fill) Fill _ l.1 in
    let o = passed (field_test s Word) Word _ f.1 in
    let p = passed (field_test s Stop) Stop _ o.1 in
    let h = passed (field_test s Weights) Weights _ p.1 in
    let a = passed (field_test s Apid) Apid _ h.1 in
    let i = passed (field_test s Image) Image _ a.1 in
    let k = passed (field_test s Packet) Packet _ i.1 in
    let t = passed (field_test s Total) Total _ k.1 in
    let segment : IsWithin segment_range s.segment = (within segment_range s.segment).0 g.0 in
    let word : IsWithin word_range s.word = (within word_range s.word).0 o.0 in
    let stop = and_parts (is_within plane_range s.stop.plane) (is_within stage_range s.stop.stage) p.0 in
    record {
      width = (within width_range s.width).0 w.0;
      rows = rows_pass s.rows r.0;
      depth = (within depth_range s.depth).0 d.0;
      segment = segment;
      limit = limit_passes s.limit s.word word l.0;
      fill = fill_passes s.fill s.limit s.total f.0;
      word = word;
      plane = (within plane_range s.stop.plane).0 stop.0;
      stage = (within stage_range s.stop.stage).0 stop.1;
      weights = (shifts_pass s.weights.shifts).0 h.0;
      apid = (within apid_range s.apid).0 a.0;
      image = (within image_range s.image).0 i.0;
      packet = (within packet_range s.packet).0 k.0;
      total = total_passes s segment t.0;
    }

pass : (b : Bool) (field : Field) (rest : Option Field) → b ≡ true → rest ≡ None → cond (not b) (Some field) rest ≡ None
pass true field rest passes e = e
pass false field rest passes e = absurd (let h : false ≡ true = passes in cc)

pub none-from_in_range : (s : Setting) → IsInRange s → first_out_of_range s ≡ None
none-from_in_range s in_range =
    pass (field_test s Width) Width _ ((within width_range s.width).1 in_range.width)
    (pass (field_test s Rows) Rows _ (rows_from s.rows in_range.rows)
    (pass (field_test s Depth) Depth _ ((within depth_range s.depth).1 in_range.depth)
    (pass (field_test s Segment) Segment _ ((within segment_range s.segment).1 in_range.segment)
    (pass (field_test s Limit) Limit _ (limit_from s.limit s.word in_range.limit)
    (pass (field_test s Fill) Fill _ (fill_from s.fill s.limit s.total in_range.fill)
    (pass (field_test s Word) Word _ ((within word_range s.word).1 in_range.word)
    (pass (field_test s Stop) Stop _ (and_from (is_within plane_range s.stop.plane) (is_within stage_range s.stop.stage)
    ((within plane_range s.stop.plane).1 in_range.plane) ((within stage_range s.stop.stage).1 in_range.stage))
    (pass (field_test s Weights) Weights _ ((shifts_pass s.weights.shifts).1 in_range.weights)
    (pass (field_test s Apid) Apid _ ((within apid_range s.apid).1 in_range.apid)
    (pass (field_test s Image) Image _ ((within image_range s.image).1 in_range.image)
    (pass (field_test s Packet) Packet _ ((within packet_range s.packet).1 in_range.packet)
    (pass (field_test s Total) Total _ (total_from s in_range.total) refl))))))))))))
