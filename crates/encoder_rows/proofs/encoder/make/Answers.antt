use Rattle.std.proofs.Common.{◌≡◌, ◌+◌, ◌∙◌, ℕ, [], List, length, Option, Some, None, arith, refl, ap}
use Rattle.std.specs.List.{range_with_len}
use Rattle.std.proofs.lemmas.List.FromFn.{length-range_with_len}
use Rattle.encoder_rows.specs.Ports.{packets_outside, room_outside}
use Rattle.encoder_rows.specs.declared.ports.PacketRoom.{PacketRoom}
use Rattle.encoder_rows.proofs.EndSteps.{none_rows}
use Rattle.encoder_rows.proofs.encoder.make.Goals as goal

abbrev long : Option (List ℕ) → ℕ
long (Some xs) = length xs
long None = 0

-- the size of a room is what it reports
size_is : (room : PacketRoom) (size : ℕ) → packets_outside room ≡ room_outside size [] 0 → room.size ≡ size
size_is room size same =
    let lengths : length (range_with_len 0 room.size) ≡ length (range_with_len 0 size) = ap (λ o. long o.taken) same in
    omega (arith, lengths, length-range_with_len 0 room.size, length-range_with_len 0 size)

pub returns : goal.returns
returns c =
    let s = c.args.setting.now in
    let none = none_rows s c.in_ok-work.work c.requires.usable.in_range c.in_ok-work.ensures.start in
    record {
      setting = refl;
      open_is = record {
        usable = c.requires.usable;
        row = omega (arith, c.in_ok-row.ensures.len, c.div_ceil-width.ensures);
        room = size_is c.in_ok-packets.packets _ c.in_ok-packets.ensures ∙ ap (λ n. n + 1) c.end_room.ensures.value;
        taken = [];
        given = [];
        rows = none;
      };
      none = none;
    }
