-- The items of a bit plane as they are read: those of the plane, in which words are refused that no values have
-- after what was sent before. (this project's own)
use Rattle.std.specs.Prelude.{ℕ, ◌*◌, ◌^◌, Bool, ◌==◌, if◌then◌else◌, List, [], ◌∷◌, ◌++◌, filter}
use Rattle.std.specs.List.{flat_map}
use lib.ListN.{get_or}
use Rattle.item_defs.specs.Bits.{digit}
use Rattle.item_defs.specs.Items.{Item, false_flag, refused_where, raw}
use Rattle.base_122.specs.declared.book.Book.{Book}
use Rattle.plane_defs.specs.declared.stages.Stage.{Stage}
use Rattle.plane_defs.specs.declared.entries.Entry.{Entry}
use Rattle.plane_defs.specs.declared.entries.Entry.TheVariants.{Bit, Word}
use Rattle.plane_defs.specs.Spans.{span}
use Rattle.plane_defs.specs.Entries.{stage_number}
use Rattle.plane_defs.specs.Codes.{symbol, uncoded, word_item}
use Rattle.plane_defs.specs.Spelled.{option_of, opening}
use Rattle.plane_defs.specs.Steps.{Check, refuses, Step, block_steps}
use Rattle.plane_defs.specs.Planes.{Plane, gaggles, gaggle_size, before_stage}

-- the word of a symbol
unfoldable pub word_of : ℕ → ℕ → ℕ
word_of length s = get_or (filter (λ w. symbol length w == s) (span 0 (2 ^ length))) 0 0

-- the word that the number of a word's item represents
abbrev pub word_said : (length option said : ℕ) → ℕ
word_said length option said = if option == uncoded length then said else word_of length said

-- an item of which these numbers are refused as false flags
abbrev pub checked : (ℕ → Bool) → Item → Item
checked test item =
    record { form = record { shape = item.form.shape; refusal = refused_where test false_flag }; said = item.said }

abbrev pub checked_word : Book → (length option value : ℕ) → Check → Item
checked_word book length option value check =
    checked (λ said. refuses check (word_said length option said)) (word_item book length option value)

-- the items of a step, with these entries of its gaggle and plane before it
unfoldable pub entry_reading : Book → List ℕ → List Entry → Check → Entry → List Item
entry_reading book options before check (Bit bit) = raw (digit bit) ∷ []
entry_reading book options before check (Word bits) =
    if bits.count == 0 then [] else if bits.count == 1 then checked (refuses check) (raw bits.value) ∷ [] else
    opening options before bits.count ++ checked_word book bits.count (option_of options bits.count) bits.value check ∷ []

abbrev pub step_reading : Book → List ℕ → List Entry → Step → List Item
step_reading book options before s = entry_reading book options before s.check s.entry

-- the items of some steps, with these entries before them
abbrev pub read_after : Book → List ℕ → List Entry → List Step → List Item
read_after book options before [] = []
read_after book options before (s ∷ more) =
    step_reading book options before s ++ read_after book options (before ++ s.entry ∷ []) more

-- ---- a plane of a segment

abbrev pub steps_of_block : Plane → Stage → ℕ → List Step
steps_of_block p stage r = block_steps stage (get_or p.blocks r []) (get_or p.depths r 0) p.weights p.number p.q

abbrev pub steps_of_gaggle : Plane → Stage → ℕ → List Step
steps_of_gaggle p stage g = flat_map (steps_of_block p stage) (span (16 * g) (gaggle_size p g))

abbrev pub gaggle_reading : Book → (ℕ → List ℕ) → Plane → ℕ → ℕ → List Item
gaggle_reading book options p k g = read_after book (options g) (before_stage p k g) (steps_of_gaggle p (stage_number k) g)

abbrev pub stage_reading : Book → (ℕ → List ℕ) → Plane → ℕ → List Item
stage_reading book options p k = flat_map (gaggle_reading book options p k) (span 0 (gaggles p))

-- the first stages of a plane, as they are read
abbrev pub plane_reading : Book → (ℕ → List ℕ) → Plane → ℕ → List Item
plane_reading book options p stages = flat_map (stage_reading book options p) (span 0 stages)
