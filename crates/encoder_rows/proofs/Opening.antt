-- What holds of an encoder between two calls.
use Rattle.std.proofs.Common.{◌≡◌, ◌≤◌, ◌<◌, ◌+◌, ◌*◌, ◌∙◌, ℕ, List, ◌++◌, length, sym, ap, subst, arith, Option, Some, None, Err, vec_len}
use Rattle.std.specs.Int.{div_ceil}
use Rattle.base_122.specs.Ranges.{refusal}
use Rattle.base_122.specs.Setting.{IsHeight}
use Rattle.base_122.specs.Sizes.{block_count, padded_size}
use Rattle.base_122.specs.declared.field.Field.{Field}
use Rattle.base_122.specs.declared.field.OutOfRange.{OutOfRange}
use Rattle.base_122.specs.declared.setting.Setting.{Setting}
use Rattle.encoder_rows.specs.Room.{row_need, end_need, row_room, end_room}
use Rattle.encoder_rows.specs.Rows.{HasRows, HasTakenRows, IsOpen, IsUsable}
use Rattle.encoder_rows.specs.Answers.{with_image, HasPlace, RowCause}
use Rattle.encoder_rows.specs.Steps.{TakesOctets}
use Rattle.encoder_rows.specs.declared.refusal.RowRefusal.{RowRefusal}
use Rattle.encoder_rows.specs.declared.refusal.RowRefusal.TheVariants.{Full, Short, Long, SmallRoom, BadPixel}
use Rattle.strip_coder.specs.Rasters.{row_length}
use Rattle.strip_coder.specs.declared.work.Work.{Work}
use Rattle.encoder_rows.specs.declared.encoder.Encoder.{Encoder}
use Rattle.encoder_rows.proofs.Reach.{row_fits, end_fits, row_room-most}
use Rattle.encoder_rows.proofs.SegmentRoom.{segment_room-is}

-- the field that a check names
pub field_named : (o : Option Field) (out : OutOfRange) → refusal o ≡ Err out → o ≡ Some out.field
field_named None out e = absurd cc
field_named (Some field) out e = let same : Err (record { field = field }) ≡ Err out =
    e in ap Some (ap (λ (out : OutOfRange). out.field) (let within : record { field = field } ≡ out = cc in within))

-- the room of an open encoder is more than each call needs
pub row_enough : (e : Encoder) → IsOpen e → row_need e.setting e.work.at.rows < e.packets.size
row_enough e opened =
    let s = e.setting in
    let range = opened.usable.in_range in
    let room = opened.room in
    let most : row_need s e.work.at.rows ≤ row_room s = row_fits s range e.work.at.rows in
    let all : row_room s ≤ end_room s = row_room-most s range in
    omega (arith, most, all, room)

pub end_enough : (e : Encoder) → IsOpen e → IsHeight e.setting e.work.at.rows → end_need e.setting e.work.at.rows < e.packets.size
end_enough e opened height =
    let room = opened.room in
    let most : end_need e.setting e.work.at.rows ≤ end_room e.setting = end_fits e.setting opened.usable.in_range e.work.at.rows height.0 in
    omega (arith, most, room)

-- ---- it stays open

pub refused_open : (e new : Encoder) → IsOpen e → new.setting ≡ e.setting → new.work ≡ e.work → vec_len new.row ≡ padded_size e.setting.width →
    new.packets.size ≡ e.packets.size → IsOpen new
refused_open e new opened setting work row room = record {
  usable = subst IsUsable (sym setting) opened.usable;
  row = row ∙ ap (λ (s : Setting). padded_size s.width) (sym setting);
  room = room ∙ opened.room ∙ ap (λ (s : Setting). end_room s + 1) (sym setting);
  taken = opened.taken;
  given = opened.given;
  rows = subst (λ s. HasRows s new.work.at.rows opened.taken opened.given new.work) (sym setting)
      (subst (λ w. HasRows e.setting w.at.rows opened.taken opened.given w) (sym work) opened.rows);
}

pub open_with : (e new : Encoder) (taken given : List ℕ) → IsUsable new.setting → new.setting.width ≡ e.setting.width →
    end_room new.setting ≡ end_room e.setting → IsOpen e → vec_len new.row ≡ padded_size e.setting.width → new.packets.size ≡ e.packets.size →
    HasTakenRows taken given new → IsOpen new
open_with e new taken given usable width needs opened row room has = record {
  usable = usable;
  row = row ∙ ap padded_size (sym width);
  room = room ∙ opened.room ∙ ap (λ n. n + 1) (sym needs);
  taken = taken;
  given = given;
  rows = has;
}

-- another image needs the same room
pub same_room : (s : Setting) (image : ℕ) → end_room (with_image s image) ≡ end_room s
same_room s image = ap (λ r. (div_ceil (4 * block_count s.width) s.segment + 1) * r) (segment_room-is (with_image s image) ∙ sym (segment_room-is s))

-- ---- a row

-- a row that is refused for a value
pub value_refuses : (T : Type 0) (e : Encoder) (octets : List ℕ) (room : ℕ) (w : Work) (packets : List ℕ) (refusal : RowRefusal) → HasPlace e →
    length octets ≡ row_length e.setting → row_need e.setting e.work.at.rows ≤ room →
    TakesOctets {T = T} e.setting octets e.work w packets (Err refusal) → (w ≡ e.work) × RowCause e octets room refusal
value_refuses T e octets room w packets (BadPixel column value) place whole enough takes = (takes.0, (place, whole, enough, takes.1))
value_refuses T e octets room w packets Full place whole enough takes = absurd takes
value_refuses T e octets room w packets Short place whole enough takes = absurd takes
value_refuses T e octets room w packets Long place whole enough takes = absurd takes
value_refuses T e octets room w packets (SmallRoom need) place whole enough takes = absurd takes

-- the rows of an encoder after one more
pub rows_after : (s : Setting) (octets packets taken given : List ℕ) (old new : Work) → new.at.rows ≡ old.at.rows + 1 →
    ((taken given : List ℕ) → HasRows s old.at.rows taken given old → HasRows s (old.at.rows + 1) (taken ++ octets) (given ++ packets) new) →
    HasRows s old.at.rows taken given old → HasRows s new.at.rows (taken ++ octets) (given ++ packets) new
rows_after s octets packets taken given old new one takes has = subst (λ k. HasRows s k (taken ++ octets) (given ++ packets) new) (sym one)
    (takes taken given has)
