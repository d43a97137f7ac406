-- What is read of all planes is what the values at their end write.
use Rattle.std.specs.Prelude.{◌≡◌, ◌≤◌, ◌<◌, ℕ, ◌*◌, ◌/◌, ◌^◌, true, ℤ, pos, ◌*ℤ◌, List, [], length}
use Rattle.std.specs.Int.{int_shr}
use lib.ListN.{get_or}
use Rattle.base_122.specs.declared.book.Book.{Book}
use Rattle.plane_defs.specs.Sets.{magnitude}
use Rattle.plane_defs.specs.Codes.{is_book_sound}
use Rattle.plane_defs.specs.StepLaws.{IsAc}
use Rattle.plane_defs.specs.Laws.{IsMultiple}
use Rattle.item_defs.specs.Items.{Item}
use Rattle.item_defs.specs.Following.{Follows}
use Rattle.item_defs.specs.Completing.{ArePossible}
use Rattle.plane_defs.specs.PlaneScript.{planes_script}
use Rattle.plane_defs.specs.Written.{AreChosen, planes_reading, Shows, low_bits}

abbrev pub dc_in : List (List ℤ) → ℕ → ℤ
dc_in blocks r = get_or (get_or blocks r []) 0 (pos 0)

-- A block of this depth before the planes below this one: 64 numbers that are multiples of 2 ^ shift. The AC numbers have no bits in
-- these planes, and are below 2 ^ depth in magnitude.
pub record IsBegun (weights : List ℕ) (q below depth : ℕ) (block : List ℤ) : Type 0 where
  pub whole : length block ≡ 64
  pub multiples : IsMultiple block weights
  pub acs : (p : ℕ) → IsAc p → magnitude block p ≡ magnitude block p / 2 ^ below * 2 ^ below
  pub small : (p : ℕ) → 1 ≤ p → magnitude block p < 2 ^ depth
  pub dc : (z : ℤ) × (get_or block 0 (pos 0) ≡ z *ℤ pos (2 ^ low_bits weights q below))

abbrev pub AreBegun : (weights : List ℕ) → (q below : ℕ) → (depths : List ℕ) → List (List ℤ) → Type 0
AreBegun weights q below depths blocks = (r : ℕ) → r < length blocks → IsBegun weights q below (get_or depths r 0) (get_or blocks r [])

-- The items are those of the blocks at the end, with some options, and these have what was there before the planes.
pub record WrittenBack (book : Book) (weights : List ℕ) (q : ℕ) (depths : List ℕ) (below : ℕ) (blocks : List (List ℤ)) (items : List Item)
    (w : List (List ℤ)) : Type 0 where
  pub options : ℕ → ℕ → List ℕ
  pub chosen : (b g : ℕ) → AreChosen (options b g)
  pub is : items ≡ planes_reading book options w depths weights q (λ b. 5) below
  pub long : length w ≡ length blocks
  pub begun : AreBegun weights q 0 depths w
  pub shows : (r : ℕ) → Shows below (get_or blocks r []) (get_or w r [])
  pub dcs : (r c : ℕ) → low_bits weights q below ≤ c → int_shr (dc_in w r) c ≡ int_shr (dc_in blocks r) c

-- If all stages of all planes are read with possible answers, the items are those of the blocks that they give.
abbrev pub PlanesBack : Type 0
PlanesBack = (book : Book) → is_book_sound book ≡ true → (weights : List ℕ) (q : ℕ) (depths : List ℕ) (below : ℕ) (blocks : List (List ℤ)) →
    length depths ≡ length blocks → AreBegun weights q below depths blocks → (items : List Item) (w : List (List ℤ)) → ArePossible items →
    Follows (planes_script book weights q depths (λ b. 5) below blocks) items w → WrittenBack book weights q depths below blocks items w
