-- The bits that the words of a gaggle send in stages 1 to 3, in its 32 masks. (This project's own.)
use Rattle.std.specs.Prelude.{◌≡◌, ◌⊎◌, ◌<◌, ◌≤◌, ℕ, ◌+◌, ◌-◌, ◌*◌, ◌/◌, ◌%◌, ◌^◌, Bool, List, [], ◌∷◌, length, take, drop}
use Rattle.std.specs.List.{flat_map}
use Rattle.std.specs.Int.Count.{count_leading_zeros}
use lib.ListN.{get_or}
use Rattle.item_defs.specs.Bits.{bit, bits_of}
use Rattle.item_defs.specs.Items.{text}
use Rattle.base_122.specs.declared.book.Book.{Book}
use Rattle.plane_defs.specs.Spans.{span}
use Rattle.plane_defs.specs.Entries.{stage_number}
use Rattle.plane_defs.specs.Planes.{Plane, gaggles, of_gaggle, before_stage}
use Rattle.plane_defs.specs.Spelled.{spelled_after}
use Rattle.block_masks.specs.Gaggles.{Agrees}
use Rattle.plane_coder.specs.declared.kept.KeptStage.{KeptStage}

-- the masks of gaggle g, 32 of each gaggle
abbrev pub free_at : List ℕ → ℕ → List ℕ
free_at kept g = take 32 (drop (32 * g) kept)

-- those of all other gaggles stay
pub record KeepsOthers (g : ℕ) (old new : List ℕ) : Type 0 where
  pub long : length new ≡ length old
  pub others : (h : ℕ) → (h ≡ g → ⊥) → 32 * h + 32 ≤ length old → free_at new h ≡ free_at old h

-- ---- bits in masks

-- how many bits a mask has below its highest 1
abbrev pub width_in : ℕ → ℕ
width_in mask = 63 - count_leading_zeros 64 mask

-- these bits
abbrev pub bits_in : ℕ → List Bool
bits_in mask = bits_of (width_in mask) mask

-- the bits of some masks, one mask after another
abbrev pub bits_between : List ℕ → (from to : ℕ) → List Bool
bits_between masks from to = flat_map (λ m. bits_in (get_or masks m 0)) (span from (to - from))

-- ---- the bits of a gaggle

-- The first mask has octets. Octet n, of 0 to 3, is where the masks of stage n end and those of stage n + 1 begin: above 32 if stage n has
-- no room. Octet 3 + n says which words were sent up to stage n.
abbrev pub octet_in : List ℕ → ℕ → ℕ
octet_in masks n = get_or masks 0 0 / 2 ^ (8 * n) % 2 ^ 8

-- they are these
pub record HasOctets (masks places words : List ℕ) : Type 0 where
  pub first : octet_in masks 0 ≡ 1
  pub ends : (n : ℕ) → n < 3 → octet_in masks (1 + n) ≡ get_or places n 0
  pub flags : (n : ℕ) → n < 3 → octet_in masks (4 + n) ≡ get_or words n 0

-- an octet says whether a word of two, three and four bits was sent
abbrev pub flags_in : ℕ → List Bool
flags_in octet = bit octet 0 ∷ bit octet 1 ∷ bit octet 2 ∷ []

-- the bits of a stage, and the flags after it
pub record KeepsStage (book : Book) (options : List ℕ) (p : Plane) (g number : ℕ) (masks : List ℕ) : Type 0 where
  pub bits : bits_between masks (octet_in masks (number - 1)) (octet_in masks number)
      ≡ text (spelled_after book options (before_stage p number g) (of_gaggle p (stage_number number) g))
  pub flags : Agrees (flags_in (octet_in masks (3 + number))) (before_stage p (number + 1) g)

-- those of each stage that has room
pub record Keeps (book : Book) (options : List ℕ) (p : Plane) (g : ℕ) (masks : List ℕ) : Type 0 where
  pub at : (number : ℕ) → 0 < number → number < 4 → octet_in masks number ≤ 32 → KeepsStage book options p g number masks

-- those of each gaggle that has masks, among the first `count` gaggles
pub record KeepFirst (book : Book) (options : ℕ → List ℕ) (p : Plane) (count : ℕ) (kept : List ℕ) : Type 0 where
  pub at : (g : ℕ) → g < count → 32 * g + 32 ≤ length kept → Keeps book (options g) p g (free_at kept g)

-- those of all gaggles
abbrev pub AreKept : (book : Book) (options : ℕ → List ℕ) (p : Plane) (kept : List ℕ) → Type 0
AreKept book options p kept = KeepFirst book options p (gaggles p) kept

-- ---- where the bits of a stage are

-- the masks of a stage of gaggle g, and the flags after it
pub record IsStageOf (kept : List ℕ) (number g : ℕ) (stage : KeptStage) : Type 0 where
  pub full : 32 * g + 32 ≤ length kept
  pub free : stage.free.now ≡ free_at kept g
  pub from : stage.from ≡ octet_in (free_at kept g) (number - 1)
  pub to : stage.to ≡ octet_in (free_at kept g) number
  pub room : stage.to ≤ 32
  pub sent : stage.sent ≡ flags_in (octet_in (free_at kept g) (3 + number))

-- they are not kept: there is no gaggle g, or its bits up to the end of the stage need more than 32 masks
abbrev pub IsNotKept : List ℕ → (number g : ℕ) → Type 0
IsNotKept kept number g = (length kept / 32 ≤ g) ⊎ (32 < octet_in (free_at kept g) number)
