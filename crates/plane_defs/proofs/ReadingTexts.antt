-- A plane's items as they are read have the bits of the plane's items.
use Rattle.std.proofs.Common.{◌≡◌, ℕ, Bool, cond, List, [], ◌∷◌, ◌++◌, refl, ap, sym, ◌∙◌, ℤ, arith, map, filter, nat_lt, flat_map}
use Rattle.std.proofs.lemmas.List.{map-append}
use Rattle.std.proofs.lemmas.Bool.Decides.{nat_tests}
use Rattle.item_defs.specs.Items.{Item, text}
use Rattle.item_defs.proofs.Texts.{text-append}
use Rattle.base_122.specs.declared.book.Book.{Book}
use Rattle.plane_defs.specs.declared.stages.Stage.{Stage}
use Rattle.plane_defs.specs.declared.stages.Stage.TheVariants as stages
use Rattle.plane_defs.specs.declared.sets.Set.TheVariants.{Family, Grandchildren, Quad}
use Rattle.plane_defs.specs.declared.entries.Entry.{Entry}
use Rattle.plane_defs.specs.Spans.{span}
use Rattle.plane_defs.specs.Sets.{set_significant, children_of, quad_of}
use Rattle.plane_defs.specs.Entries.{word, types, flags, typed, parents, children, children_types, quads, quads_types, all_quads, grandchildren, refinement}
use Rattle.plane_defs.specs.Entries.{dc_bits, significant_families, block_entries}
use Rattle.plane_defs.specs.Steps.{Check, free, Step, typed_steps, parents_steps, children_steps, children_types_steps, children_check, quads_steps}
use Rattle.plane_defs.specs.Steps.{quads_types_steps, all_quads_steps, grandchildren_steps, three_grandchildren, refinement_steps, dc_steps, block_steps}
use Rattle.plane_defs.specs.Steps.{is_new, some_one_where}
use Rattle.plane_defs.specs.StepLaws.{entry_of}
use Rattle.plane_defs.specs.Spelled.{entry_items, spelled_after}
use Rattle.plane_defs.specs.Planes.{Plane, gaggles, of_gaggle, gaggle_items, stage_items, plane_items}
use Rattle.plane_defs.specs.Reading.{checked, entry_reading, step_reading, read_after, steps_of_gaggle, gaggle_reading, stage_reading, plane_reading}

pub map_map : {X Y Z : Type 0} (f : Y → Z) (g : X → Y) (xs : List X) → map f (map g xs) ≡ map (λ x. f (g x)) xs
map_map f g [] = refl
map_map f g (x ∷ xs) = ap (λ l. f (g x) ∷ l) (map_map f g xs)

pub map_flat : {X Y Z : Type 0} (f : Y → Z) (g : X → List Y) (h : X → List Z) → ((x : X) → map f (g x) ≡ h x) → (xs : List X) →
    map f (flat_map g xs) ≡ flat_map h xs
map_flat f g h each [] = refl
map_flat f g h each (x ∷ xs) =
    map-append f (g x) (flat_map g xs) ∙ ap (λ l. l ++ map f (flat_map g xs)) (each x) ∙ ap (λ l. h x ++ l) (map_flat f g h each xs)

-- ---- the steps of a block are its entries

module _ (block : List ℤ) (weights : List ℕ) (plane : ℕ) where
  typed_entries : (check : Check) (ps : List ℕ) → map entry_of (typed_steps block weights plane check ps) ≡ typed block weights plane ps
  typed_entries check ps = ap (λ l. word (types block weights plane ps) ∷ l) (map_map entry_of _ _)

  parents_entries : map entry_of (parents_steps block weights plane) ≡ parents block weights plane
  parents_entries = typed_entries free (span 1 3)

  children_types_entries : map entry_of (children_types_steps block weights plane) ≡ children_types block weights plane
  children_types_entries =
      map_flat entry_of (λ i. typed_steps block weights plane (children_check block weights plane i) (span (children_of i) 4))
      (λ i. typed block weights plane (span (children_of i) 4)) (λ i. typed_entries (children_check block weights plane i) (span (children_of i) 4))
      (significant_families block plane Family)

  children_entries : map entry_of (children_steps block weights plane) ≡ children block weights plane
  children_entries = grind (arith, nat_tests, map-append, map_map, children_types_entries)

  quads_types_entries : (i : ℕ) → map entry_of (quads_types_steps block weights plane i) ≡ quads_types block weights plane i
  quads_types_entries i =
      map_flat entry_of (λ j. typed_steps block weights plane (some_one_where (is_new block plane (Quad i j))) (span (quad_of i j) 4))
      (λ j. typed block weights plane (span (quad_of i j) 4)) (λ j. typed_entries (some_one_where (is_new block plane (Quad i j))) (span (quad_of i j) 4))
      (filter (λ j. set_significant block plane (Quad i j)) (span 0 4))

  quads_entries : (i : ℕ) → map entry_of (quads_steps block weights plane i) ≡ quads block weights plane i
  quads_entries i = ap (λ l. word (flags block weights plane (Quad i 0 ∷ Quad i 1 ∷ Quad i 2 ∷ Quad i 3 ∷ [])) ∷ l) (quads_types_entries i)

  all_quads_entries : map entry_of (all_quads_steps block weights plane) ≡ all_quads block weights plane
  all_quads_entries = map_flat entry_of (quads_steps block weights plane) (quads block weights plane) quads_entries
      (significant_families block plane Grandchildren)

  grandchildren_entries : map entry_of (grandchildren_steps block weights plane) ≡ grandchildren block weights plane
  grandchildren_entries = ap (λ l. word (flags block weights plane three_grandchildren) ∷ l) all_quads_entries

  refinement_entries : map entry_of (refinement_steps block weights plane) ≡ refinement block weights plane
  refinement_entries = map_map entry_of _ _

  dc_entries : (q : ℕ) → map entry_of (dc_steps block weights plane q) ≡ dc_bits block weights plane q
  dc_entries q = grind (arith, nat_tests)

where_sent : (b : Bool) (xs : List Step) (ys : List Entry) → map entry_of xs ≡ ys → map entry_of (cond b xs []) ≡ cond b ys []
where_sent b xs ys e = grind (arith, nat_tests)

pub steps_entries : (stage : Stage) (block : List ℤ) (d : ℕ) (weights : List ℕ) (plane q : ℕ) →
    map entry_of (block_steps stage block d weights plane q) ≡ block_entries stage block d weights plane q
unfolding block_steps block_entries
steps_entries stages.DcBits block d weights plane q = dc_entries block weights plane q
steps_entries stages.Parents block d weights plane q = where_sent (nat_lt plane d) _ _ (parents_entries block weights plane)
steps_entries stages.Children block d weights plane q = where_sent (nat_lt plane d) _ _ (children_entries block weights plane)
steps_entries stages.Grandchildren block d weights plane q = where_sent (nat_lt plane d) _ _ (grandchildren_entries block weights plane)
steps_entries stages.Refinement block d weights plane q = where_sent (nat_lt plane d) _ _ (refinement_entries block weights plane)

-- ---- what is read has the bits of what is sent

text_flat : {X : Type 0} (f g : X → List Item) → ((x : X) → text (f x) ≡ text (g x)) → (xs : List X) → text (flat_map f xs) ≡ text (flat_map g xs)
text_flat f g each [] = refl
text_flat f g each (x ∷ xs) =
    text-append (f x) (flat_map f xs) ∙ ap (λ l. l ++ text (flat_map f xs)) (each x) ∙ ap (λ l. text (g x) ++ l) (text_flat f g each xs)
    ∙ sym (text-append (g x) (flat_map g xs))

text_checked : (prefix : List Item) (test : ℕ → Bool) (i : Item) → text (prefix ++ checked test i ∷ []) ≡ text (prefix ++ i ∷ [])
text_checked prefix test i = text-append prefix (checked test i ∷ []) ∙ sym (text-append prefix (i ∷ []))

pub entry_text : (book : Book) (options : List ℕ) (before : List Entry) (check : Check) (e : Entry) →
    text (entry_reading book options before check e) ≡ text (entry_items book options before e)
unfolding entry_reading entry_items
entry_text book options before check e = grind (arith, nat_tests, text_checked)

pub read_text : (book : Book) (options : List ℕ) (before : List Entry) (steps : List Step) →
    text (read_after book options before steps) ≡ text (spelled_after book options before (map entry_of steps))
read_text book options before [] = refl
read_text book options before (s ∷ more) =
    text-append (step_reading book options before s) (read_after book options (before ++ s.entry ∷ []) more)
    ∙ ap (λ l. l ++ text (read_after book options (before ++ s.entry ∷ []) more)) (entry_text book options before s.check s.entry)
    ∙ ap (λ l. text (entry_items book options before s.entry) ++ l) (read_text book options (before ++ s.entry ∷ []) more)
    ∙ sym (text-append (entry_items book options before s.entry) (spelled_after book options (before ++ s.entry ∷ []) (map entry_of more)))

module _ (book : Book) (options : ℕ → List ℕ) (p : Plane) where
  pub gaggle_entries : (stage : Stage) (g : ℕ) → map entry_of (steps_of_gaggle p stage g) ≡ of_gaggle p stage g
  gaggle_entries stage g = grind (arith, nat_tests, map_flat, steps_entries)

  gaggle_text : (k g : ℕ) → text (gaggle_reading book options p k g) ≡ text (gaggle_items book options p k g)
  gaggle_text k g = grind (arith, nat_tests, read_text, gaggle_entries)

  stage_text : (k : ℕ) → text (stage_reading book options p k) ≡ text (stage_items book options p k)
  stage_text k = text_flat (gaggle_reading book options p k) (gaggle_items book options p k) (gaggle_text k) (span 0 (gaggles p))

  pub plane_text : (stages : ℕ) → text (plane_reading book options p stages) ≡ text (plane_items book options p stages)
  plane_text stages = text_flat (stage_reading book options p) (stage_items book options p) stage_text (span 0 stages)
