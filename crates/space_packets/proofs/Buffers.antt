-- The octets that wait in a buffer.
use Rattle.std.proofs.lemmas.Bool.Decides.{nat_tests}
use Rattle.std.proofs.Common.{◌≡◌, ◌≤◌, ◌<◌, ◌+◌, ◌*◌, ◌^◌, ℕ, List, [], ◌++◌, length, take, drop, ap, ◌∙◌, arith, length-take, nat_lt, nat_le, Bool, true}
use Rattle.std.proofs.Common.{false, Result, Ok, is_ok, if◌then◌else◌, ltb-false, ltb-true, leb-true}
use Rattle.std.specs.Bool.{OnTrue, OnFalse}
use Rattle.std.proofs.lemmas.List.{drop_all, drop-append-le}
use Rattle.space_packets.specs.declared.stage.PacketiserState.{PacketiserState}
use Rattle.space_packets.specs.declared.stage.PacketiserState.TheVariants.{Begun}
use Rattle.space_packets.specs.declared.stage.Text.{Text}
use Rattle.space_packets.specs.Stages.{given_in, room_of, parts_of}

-- none, if only the room for a header is left
pub header_alone : (items now : List ℕ) → now ≡ take 30 items → drop 30 now ≡ []
header_alone items now e = ap (drop 30) e ∙ drop_all 30 (take 30 items) (omega (arith, length-take 30 items))

-- more
pub more_wait : (items now octets : List ℕ) → 30 ≤ length items → now ≡ items ++ octets → drop 30 now ≡ drop 30 items ++ octets
more_wait items now octets long e = ap (drop 30) e ∙ drop-append-le 30 items octets long

-- at most the size of a part
pub room_least : (s : PacketiserState) (size : ℕ) → room_of s size ≤ size
room_least s size = grind (arith, nat_tests)

pub given_count : (s : PacketiserState) (size pending : ℕ) → given_in s size pending < 2 ^ 32 → given_in s size pending ≡ parts_of s * size + pending
given_count s size pending few = grind (arith, nat_tests)

-- and further octets are counted
pub given_more : (s : PacketiserState) (size pending count now : ℕ) → given_in s size pending < 2 ^ 32 → now ≡ pending + count →
    given_in s size now ≡ given_in s size pending + count
given_more s size pending count now few e = grind (arith, nat_tests)

pub given_room : (s : PacketiserState) (size pending : ℕ) → given_in s size pending < 2 ^ 32 → room_of s size ≡ size
given_room s size pending few = grind (arith, nat_tests)

-- the text that is begun
pub given_text : (s : PacketiserState) (size pending : ℕ) → given_in s size pending < 2 ^ 32 → (t : Text) × (s ≡ Begun t)
given_text s size pending few = grind (arith, nat_tests)

-- a fact for the case that one number is below another, and for the other case
on_true : {P : Type 0} (b : Bool) → (b ≡ true → P) → OnTrue b P
on_true b f = grind (arith, nat_tests)

on_false : {P : Type 0} (b : Bool) → (b ≡ false → P) → OnFalse b P
on_false b f = grind (arith, nat_tests)

pub on_less : {P : Type 0} (a b : ℕ) → (a < b → P) → OnTrue (nat_lt a b) P
on_less a b f = on_true (nat_lt a b) (λ e. f (ltb-true a b e))

pub on_not_less : {P : Type 0} (a b : ℕ) → (b ≤ a → P) → OnFalse (nat_lt a b) P
on_not_less a b f = on_false (nat_lt a b) (λ e. f (ltb-false a b e))

pub on_at_most : {P : Type 0} (a b : ℕ) → (a ≤ b → P) → OnTrue (nat_le a b) P
on_at_most a b f = on_true (nat_le a b) (λ e. f (leb-true a b e))

-- a vector that took other items
pub extended : {T E : Type 0} (r : Result T E) (x : T) (items now other octets : List ℕ) → r ≡ Ok x → now ≡ (if is_ok r then items ++ other else items) →
    other ≡ octets → now ≡ items ++ octets
extended r x items now other octets ok e f = e ∙ ap (λ r. if is_ok r then items ++ other else items) ok ∙ ap (λ o. items ++ o) f
