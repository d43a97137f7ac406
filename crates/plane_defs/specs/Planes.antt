-- The items of a bit plane of a segment, stage by stage and gaggle by gaggle.
-- (CCSDS 122.0-B-2, section 4.5; gaggles of 16 blocks as in section 4.3.2.)
use Rattle.std.specs.Prelude.{ℕ, ◌+◌, ◌-◌, ◌*◌, ◌/◌, min, ℤ, List, [], ◌∷◌, length}
use Rattle.std.specs.List.{flat_map}
use lib.ListN.{get_or}
use Rattle.item_defs.specs.Items.{Item}
use Rattle.base_122.specs.declared.book.Book.{Book}
use Rattle.plane_defs.specs.declared.stages.Stage.{Stage}
use Rattle.plane_defs.specs.declared.entries.Entry.{Entry}
use Rattle.plane_defs.specs.Spans.{span}
use Rattle.plane_defs.specs.Entries.{block_entries, stage_number}
use Rattle.plane_defs.specs.Choice.{cheapest, symbol_counts}
use Rattle.plane_defs.specs.Spelled.{spelled_after}

-- a plane of a segment: its blocks, which are 64 numbers each, and a depth for each; the shifts of the bands,
-- the plane's number, and the number of low bits of the DC numbers that the DC part left out
pub record Plane : Type 0 where
  pub blocks : List (List ℤ)
  pub depths : List ℕ
  pub weights : List ℕ
  pub number : ℕ
  pub q : ℕ

-- a stage of block r
abbrev pub of_block : Plane → Stage → ℕ → List Entry
of_block p stage r = block_entries stage (get_or p.blocks r []) (get_or p.depths r 0) p.weights p.number p.q

-- 16 consecutive blocks are a gaggle; the last may be shorter
abbrev pub gaggles : Plane → ℕ
gaggles p = (length p.depths + 15) / 16

abbrev pub gaggle_size : Plane → ℕ → ℕ
gaggle_size p g = min 16 (length p.depths - 16 * g)

-- a stage of gaggle g, block by block
abbrev pub of_gaggle : Plane → Stage → ℕ → List Entry
of_gaggle p stage g = flat_map (of_block p stage) (span (16 * g) (gaggle_size p g))

-- the stages of gaggle g before stage k
abbrev pub before_stage : Plane → ℕ → ℕ → List Entry
before_stage p k g = flat_map (λ j. of_gaggle p (stage_number j) g) (span 0 k)

-- stage k of gaggle g with these options: its words follow those of the stages before
abbrev pub gaggle_items : Book → (ℕ → List ℕ) → Plane → ℕ → ℕ → List Item
gaggle_items book options p k g = spelled_after book (options g) (before_stage p k g) (of_gaggle p (stage_number k) g)

-- stage k of all blocks
abbrev pub stage_items : Book → (ℕ → List ℕ) → Plane → ℕ → List Item
stage_items book options p k = flat_map (gaggle_items book options p k) (span 0 (gaggles p))

-- the first stages of a plane
abbrev pub plane_items : Book → (ℕ → List ℕ) → Plane → ℕ → List Item
plane_items book options p stages = flat_map (stage_items book options p) (span 0 stages)

-- ---- the options that a writer chooses: by the words of stages 1 to 3, whichever stages are sent

abbrev pub counted : Plane → ℕ → List Entry
counted p g = flat_map (λ k. of_gaggle p (stage_number k) g) (span 1 3)

abbrev pub chosen_for : Book → Plane → ℕ → ℕ → ℕ
chosen_for book p g n = cheapest book n (symbol_counts n (counted p g))

abbrev pub chosen : Book → Plane → ℕ → List ℕ
chosen book p g = chosen_for book p g 2 ∷ chosen_for book p g 3 ∷ chosen_for book p g 4 ∷ []
