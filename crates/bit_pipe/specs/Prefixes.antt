-- Tables of the item that eight bits begin with. (This project's own.)
use Rattle.std.specs.Prelude.{◌≡◌, ◌≤◌, ◌<◌, ℕ, ◌-◌, ◌*◌, ◌/◌, ◌%◌, ◌^◌, List, Bool}
use lib.ListN.{get_or}
use Rattle.item_defs.specs.Bits.{bits_of}
use Rattle.item_defs.specs.Items.{Shape, Item, IsSaid, item_bits}
use Rattle.item_defs.specs.Readings.{Lacks}
use Rattle.bit_pipe.specs.declared.prefix.Prefix.{Prefix}

abbrev pub no_prefix : Prefix
no_prefix = record { number = 0; len = 0 }

abbrev pub prefix_at : List Prefix → ℕ → Prefix
prefix_at prefixes octet = get_or prefixes octet no_prefix

-- the first of the eight bits of an octet
abbrev pub first_bits : (count octet : ℕ) → List Bool
first_bits count octet = bits_of count (octet / 2 ^ (8 - count))

-- The table has, for each octet, the item of one shape whose bits the octet begins with. The bits before that item's last
-- are no item's.
pub record Reports (most : ℕ) (item : ℕ → Item) (prefixes : List Prefix) : Type 0 where
  pub shape : Shape
  pub same : (n : ℕ) → (item n).form.shape ≡ shape
  pub known : (octet : ℕ) → octet < 256 → (prefix_at prefixes octet).number < most
  pub said : (octet : ℕ) → octet < 256 → IsSaid shape (item (prefix_at prefixes octet).number).said
  pub few : (octet : ℕ) → octet < 256 → (prefix_at prefixes octet).len ≤ 8
  pub first : (octet : ℕ) → octet < 256 → item_bits (item (prefix_at prefixes octet).number) ≡ first_bits (prefix_at prefixes octet).len octet
  pub lacks : (octet count : ℕ) → octet < 256 → count < (prefix_at prefixes octet).len → Lacks shape (first_bits count octet)

-- it has the items of some numbers
pub record IsTable (prefixes : List Prefix) : Type 0 where
  pub most : ℕ
  pub item : ℕ → Item
  pub reports : Reports most item prefixes

-- this number of bits that are left of an octet, and zeros after them
abbrev pub hand_of : (left octet : ℕ) → ℕ
hand_of left octet = octet * 2 ^ (8 - left) % 256
