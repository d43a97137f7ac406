-- What the definitions of planes compute to: outside this crate these equations are cited, and nothing is unfolded.
use Rattle.std.proofs.Common.{◌≡◌, ℕ, suc, ◌+◌, ◌^◌, Bool, true, not, ◌&&◌, List, [], ◌∷◌, ◌++◌, eqb, cond, refl, ℤ, ◌==◌, nat_le, nat_lt, count_by}
use Rattle.std.specs.List.{list_any, list_all}
use Rattle.item_defs.specs.Bits.{digit, bits_of}
use Rattle.base_122.specs.declared.book.Code.{Code}
use Rattle.item_defs.specs.Items.{raw}
use Rattle.base_122.specs.declared.book.Book.{Book}
use Rattle.plane_defs.specs.declared.sets.Set.{Set}
use Rattle.plane_defs.specs.declared.sets.Set.TheVariants.{Descendants, Family, Grandchildren, Quad}
use Rattle.plane_defs.specs.declared.stages.Stage.TheVariants as stages
use Rattle.plane_defs.specs.declared.entries.Entry.{Entry}
use Rattle.plane_defs.specs.declared.entries.Entry.TheVariants.{Bit, Word}
use Rattle.plane_defs.specs.declared.entries.Bits.{Bits}
use Rattle.plane_defs.specs.Spans.{span}
use Rattle.plane_defs.specs.Sets.{magnitude, shift, members, significant, coded, set_significant, live, enclosing_significant, type_due, flag_due}
use Rattle.plane_defs.specs.Sets.{newly_significant, refined, children_of}
use Rattle.plane_defs.specs.Codes.{is_prefix, code_bits, entry, is_table_sound, precedes, symbol, word_item}
use Rattle.plane_defs.specs.Spelled.{option_of, opening, entry_items}
use Rattle.plane_defs.specs.Entries.{dc_bits, parents, children, grandchildren, refinement, block_entries}
use Rattle.plane_defs.specs.Steps.{Check, refuses, is_new, is_forced, dc_steps, parents_steps, children_steps, grandchildren_steps, refinement_steps}
use Rattle.plane_defs.specs.Steps.{block_steps}
use Rattle.plane_defs.specs.Reading.{checked, checked_word, entry_reading}
use Rattle.std.specs.Prelude.{if◌then◌else◌, ◌==◌}

-- ---- spans

pub span-none : (start : ℕ) → span start 0 ≡ []
unfolding span
span-none start = refl

pub span-more : (start count : ℕ) → span start (suc count) ≡ span start count ++ (start + count) ∷ []
unfolding span
span-more start count = refl

-- ---- numbers and sets

module _ (block : List ℤ) (plane : ℕ) where
  pub significant-is : (p : ℕ) → significant block plane p ≡ nat_le (2 ^ plane) (magnitude block p)
  unfolding significant
  significant-is p = refl

  pub set_significant-is : (s : Set) → set_significant block plane s ≡ list_any (significant block plane) (members s)
  unfolding set_significant
  set_significant-is s = refl

  pub enclosing-descendants : enclosing_significant block plane Descendants ≡ true
  unfolding enclosing_significant
  enclosing-descendants = refl

  pub enclosing-family : (i : ℕ) → enclosing_significant block plane (Family i) ≡ set_significant block plane Descendants
  unfolding enclosing_significant
  enclosing-family i = refl

  pub enclosing-grandchildren : (i : ℕ) → enclosing_significant block plane (Grandchildren i) ≡ set_significant block plane (Family i)
  unfolding enclosing_significant
  enclosing-grandchildren i = refl

  pub enclosing-quad : (i j : ℕ) → enclosing_significant block plane (Quad i j) ≡ set_significant block plane (Grandchildren i)
  unfolding enclosing_significant
  enclosing-quad i j = refl

  pub is_new-is : (s : Set) → is_new block plane s ≡ (set_significant block plane s && not (set_significant block (plane + 1) s))
  unfolding is_new
  is_new-is s = refl

  pub is_forced-grandchildren : (i : ℕ) → is_forced block plane (Grandchildren i)
      ≡ (is_new block plane (Family i) && not (list_any (significant block plane) (span (children_of i) 4)))
  unfolding is_forced
  is_forced-grandchildren i = refl

module _ (weights : List ℕ) (plane : ℕ) where
  pub coded-is : (p : ℕ) → coded weights plane p ≡ nat_le (shift weights p) plane
  unfolding coded
  coded-is p = refl

module _ (block : List ℤ) (weights : List ℕ) (plane : ℕ) where
  pub type_due-is : (p : ℕ) → type_due block weights plane p ≡ (not (significant block (plane + 1) p) && coded weights plane p)
  unfolding type_due
  type_due-is p = refl

  pub flag_due-is : (s : Set) → flag_due block weights plane s
      ≡ (not (set_significant block (plane + 1) s) && live weights plane s && enclosing_significant block plane s)
  unfolding flag_due
  flag_due-is s = refl

  pub newly_significant-is : (p : ℕ) → newly_significant block weights plane p ≡ (type_due block weights plane p && significant block plane p)
  unfolding newly_significant
  newly_significant-is p = refl

  pub refined-is : (p : ℕ) → refined block weights plane p ≡ (significant block (plane + 1) p && coded weights plane p)
  unfolding refined
  refined-is p = refl

-- ---- stages

module _ (block : List ℤ) (d : ℕ) (weights : List ℕ) (plane q : ℕ) where
  pub dc_entries : block_entries stages.DcBits block d weights plane q ≡ dc_bits block weights plane q
  unfolding block_entries
  dc_entries = refl

  pub parents_entries : block_entries stages.Parents block d weights plane q ≡ cond (nat_lt plane d) (parents block weights plane) []
  unfolding block_entries
  parents_entries = refl

  pub children_entries : block_entries stages.Children block d weights plane q ≡ cond (nat_lt plane d) (children block weights plane) []
  unfolding block_entries
  children_entries = refl

  pub grandchildren_entries : block_entries stages.Grandchildren block d weights plane q ≡ cond (nat_lt plane d) (grandchildren block weights plane) []
  unfolding block_entries
  grandchildren_entries = refl

  pub refinement_entries : block_entries stages.Refinement block d weights plane q ≡ cond (nat_lt plane d) (refinement block weights plane) []
  unfolding block_entries
  refinement_entries = refl

  pub dc_stage : block_steps stages.DcBits block d weights plane q ≡ dc_steps block weights plane q
  unfolding block_steps
  dc_stage = refl

  pub parents_stage : block_steps stages.Parents block d weights plane q ≡ cond (nat_lt plane d) (parents_steps block weights plane) []
  unfolding block_steps
  parents_stage = refl

  pub children_stage : block_steps stages.Children block d weights plane q ≡ cond (nat_lt plane d) (children_steps block weights plane) []
  unfolding block_steps
  children_stage = refl

  pub grandchildren_stage : block_steps stages.Grandchildren block d weights plane q ≡ cond (nat_lt plane d) (grandchildren_steps block weights plane) []
  unfolding block_steps
  grandchildren_stage = refl

  pub refinement_stage : block_steps stages.Refinement block d weights plane q ≡ cond (nat_lt plane d) (refinement_steps block weights plane) []
  unfolding block_steps
  refinement_stage = refl

-- ---- words and items

pub is_table_sound-is : (table : List Code) (count : ℕ) → is_table_sound table count ≡
    (list_all (λ s. nat_le 1 (entry table s).len && nat_le (entry table s).len 8) (span 0 count) && list_all
    (λ v. count_by (λ s. is_prefix (code_bits (entry table s)) (bits_of 8 v)) (span 0 count) == 1) (span 0 256))
unfolding is_table_sound
is_table_sound-is table count = refl

module _ (book : Book) (options : List ℕ) (before : List Entry) (check : Check) where
  pub bit_reading : (b : Bool) → entry_reading book options before check (Bit b) ≡ raw (digit b) ∷ []
  unfolding entry_reading
  bit_reading b = refl

  pub word_reading : (bits : Bits) →
      entry_reading book options before check (Word bits) ≡ cond (eqb bits.count 0) []
      (cond (eqb bits.count 1) (checked (refuses check) (raw bits.value) ∷ []) (opening options before bits.count ++ checked_word book bits.count
      (option_of options bits.count) bits.value check ∷ []))
  unfolding entry_reading
  word_reading bits = refl

pub live-is : (weights : List ℕ) (plane : ℕ) (s : Set) → live weights plane s ≡ list_any (coded weights plane) (members s)
unfolding live
live-is weights plane s = refl

pub entry_items-bit : (book : Book) (options : List ℕ) (before : List Entry) (bit : Bool) → entry_items book options before (Bit bit) ≡ raw (digit bit) ∷ []
unfolding entry_items
entry_items-bit book options before bit = refl

pub entry_items-word : (book : Book) (options : List ℕ) (before : List Entry) (bits : Bits) → entry_items book options before (Word bits) ≡
    (if bits.count == 0 then [] else if bits.count == 1 then raw bits.value ∷ [] else opening options before bits.count ++ word_item book bits.count
    (option_of options bits.count) bits.value ∷ [])
unfolding entry_items
entry_items-word book options before bits = refl
