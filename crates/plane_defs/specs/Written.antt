-- What is written of types and signs and of planes, as it is read.
use Rattle.std.specs.Prelude.{◌≡◌, ◌⊎◌, ◌≤◌, ◌<◌, ℕ, zero, suc, ◌*◌, ◌/◌, ◌^◌, ◌==◌, ◌&&◌, ◌||◌, Bool, false, if◌then◌else◌, List, [], ◌∷◌, ◌++◌, length}
use Rattle.std.specs.Prelude.{filter, Option, Some, None, max, min, ℤ, pos, ◌*ℤ◌}
use Rattle.std.specs.List.{list_any}
use Rattle.std.specs.Int.{int_shr}
use lib.ListN.{get_or}
use Rattle.base_122.specs.declared.book.Book.{Book}
use Rattle.plane_defs.specs.declared.entries.Entry.{Entry}
use Rattle.plane_defs.specs.Sets.{magnitude, shift, significant, type_due, newly_significant}
use Rattle.plane_defs.specs.Entries.{negative}
use Rattle.plane_defs.specs.Spelled.{is_word_of, option_of as chosen_of}
use Rattle.plane_defs.specs.Reading.{read_after, plane_reading}
use Rattle.plane_defs.specs.Steps.{some_one_where, typed_steps}
use Rattle.plane_defs.specs.StepLaws.{entries_of, IsAc}
use Rattle.plane_defs.specs.Laws.{IsMultiple}
use Rattle.item_defs.specs.Items.{Item}
use Rattle.item_defs.specs.Writing.{Writes}
use Rattle.plane_defs.specs.States.{State}
use Rattle.plane_defs.specs.WordScripts.{types_script}
use Rattle.plane_defs.specs.PlaneScript.{planes_script}

-- the option of each length of which there was a word
abbrev pub Knows : List ℕ → List Entry → (ℕ → Option ℕ) → Type 0
Knows o before options = (n : ℕ) → 2 ≤ n → n ≤ 4 → options n ≡ (if list_any (is_word_of n) before then Some (chosen_of o n) else None)

-- the options are some of their lengths
abbrev pub AreChosen : List ℕ → Type 0
AreChosen o = (n : ℕ) → 2 ≤ n → n ≤ 4 → chosen_of o n < n

-- a place of a list
abbrev pub has : List ℕ → ℕ → Bool
has [] q = false
has (p ∷ ps) q = (q == p) || has ps q

-- what types and their signs leave: the significant numbers have the bit, and the new ones their sign
pub record WroteTypes (o : List ℕ) (before : List Entry) (v : List ℤ) (weights : List ℕ) (plane : ℕ) (wanted : Bool) (positions : List ℕ)
    (s t : State) : Type 0 where
  pub knows : Knows o (before ++ entries_of (typed_steps v weights plane (some_one_where wanted) positions)) t.options
  pub bits : (q : ℕ) → t.bits q ≡ (s.bits q || (has (filter (type_due v weights plane) positions) q && significant v plane q))
  pub minus : (q : ℕ) → t.minus q ≡ (s.minus q || (has (filter (newly_significant v weights plane) positions) q && negative (get_or v q (pos 0))))
  pub families : t.families ≡ s.families

-- The types that some values send at these positions, and their signs, follow the script of types, if the same types are due.
abbrev pub TypesWritten : Type 0
TypesWritten = (book : Book) (o : List ℕ) → AreChosen o →
    (before : List Entry) (v : List ℤ) (weights : List ℕ) (plane : ℕ) (due : ℕ → Bool) (wanted : Bool) (positions : List ℕ) →
    length (filter due positions) ≤ 4 → filter due positions ≡ filter (type_due v weights plane) positions → (s : State) → Knows o before s.options →
    Writes (types_script book due wanted positions s) (read_after book o before (typed_steps v weights plane (some_one_where wanted) positions))
    (WroteTypes o before v weights plane wanted positions s)

-- ---- planes

-- the items of the planes from `below` - 1 down that some values send, of each this number of first stages, with these options of words
abbrev pub planes_reading : Book → (options : ℕ → ℕ → List ℕ) → (values : List (List ℤ)) → (depths weights : List ℕ) → (q : ℕ) → (stages : ℕ → ℕ) →
    (below : ℕ) → List Item
planes_reading book options values depths weights q stages zero = []
planes_reading book options values depths weights q stages (suc plane) =
    plane_reading book (options plane) (record { blocks = values; depths = depths; weights = weights; number = plane; q = q }) (stages plane) ++
    planes_reading book options values depths weights q stages plane

-- a block's AC numbers are those of another in the planes from this one up, and 0 below
abbrev pub Shows : (plane : ℕ) → (block v : List ℤ) → Type 0
Shows plane block v = (p : ℕ) → IsAc p →
    (magnitude block p ≡ magnitude v p / 2 ^ plane * 2 ^ plane) × (negative (get_or block p (pos 0)) ≡ (significant v plane p && negative (get_or v p (pos 0))))

-- the low bits of a DC that are 0 before the planes below this one
abbrev pub low_bits : (weights : List ℕ) → (q below : ℕ) → ℕ
low_bits weights q below = max (min below q) (shift weights 0)

-- a block's DC is that of another from these bits up, and 0 below
abbrev pub ShowsDc : (low : ℕ) → (block v : List ℤ) → Type 0
ShowsDc low block v = get_or block 0 (pos 0) ≡ int_shr (get_or v 0 (pos 0)) low *ℤ pos (2 ^ low)

-- values of which each number is a multiple of 2 ^ shift, and below 2 ^ depth in magnitude
pub record AreSendable (values : List (List ℤ)) (depths weights : List ℕ) : Type 0 where
  pub long : length depths ≡ length values
  pub multiples : (r : ℕ) → IsMultiple (get_or values r []) weights
  pub small : (r p : ℕ) → 1 ≤ p → magnitude (get_or values r []) p < 2 ^ get_or depths r 0

-- below a plane of which not all stages are sent, none is
abbrev pub Stops : (stages : ℕ → ℕ) → Type 0
Stops stages = (b : ℕ) → (stages b ≤ 5) × ((stages b ≡ 5) ⊎ ((c : ℕ) → c < b → stages c ≡ 0))

-- what the planes leave: as many blocks, and the values if all stages are sent
pub record WrotePlanes (values : List (List ℤ)) (stages : ℕ → ℕ) (below : ℕ) (w : List (List ℤ)) : Type 0 where
  pub long : length w ≡ length values
  pub all : ((b : ℕ) → b < below → stages b ≡ 5) → (r p : ℕ) → p < 64 → get_or (get_or w r []) p (pos 0) ≡ get_or (get_or values r []) p (pos 0)

-- The items of planes that some values send follow the script of planes, if the blocks have what is above them.
abbrev pub PlanesWritten : Type 0
PlanesWritten = (book : Book) (options : ℕ → ℕ → List ℕ) → ((b g : ℕ) → AreChosen (options b g)) → (values : List (List ℤ)) (depths weights : List ℕ) →
    AreSendable values depths weights → (q : ℕ) (stages : ℕ → ℕ) → Stops stages → (below : ℕ) (blocks : List (List ℤ)) → length blocks ≡ length values →
    ((r : ℕ) → Shows below (get_or blocks r []) (get_or values r []) × ShowsDc (low_bits weights q below) (get_or blocks r []) (get_or values r [])) →
    Writes (planes_script book weights q depths stages below blocks) (planes_reading book options values depths weights q stages below)
    (WrotePlanes values stages below)
