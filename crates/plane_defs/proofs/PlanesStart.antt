-- The script of planes with a stop is the start of that of all planes, and so are their items.
use Rattle.std.proofs.Common.{◌≡◌, ℕ, zero, suc, ◌+◌, ◌-◌, ◌<◌, List, [], ◌++◌, refl, ap, sym, ◌∙◌, subst, arith, ℤ, inl, inr, append-nil, append_assoc}
use Rattle.std.specs.List.{flat_map}
use Rattle.item_defs.specs.Items.{Item}
use Rattle.base_122.specs.declared.book.Book.{Book}
use Rattle.plane_defs.specs.Spans.{span}
use Rattle.plane_defs.specs.Planes.{Plane}
use Rattle.plane_defs.specs.Reading.{stage_reading, plane_reading}
use Rattle.plane_defs.proofs.SpanLists.{flat_map-span-suc, flat_map-span-none}
use Rattle.item_defs.specs.Scripts.{Script, then_ask, in_turn, around}
use Rattle.item_defs.proofs.ScriptLaws.{turns_split}
use Rattle.item_defs.proofs.ScriptStarts.{Starts, starts_then, starts_short}
use Rattle.plane_defs.specs.Written.{planes_reading, Stops}
use Rattle.plane_defs.specs.StageScripts.{Terms}
use Rattle.plane_defs.specs.PlaneScript.{PlaneState, nothing_yet, blocks_script, plane_script, blocks_with, planes_script}

-- the first of some consecutive things
first_of : (f : ℕ → List Item) (m n : ℕ) → (rest : List Item) × (flat_map f (span 0 (m + n)) ≡ flat_map f (span 0 m) ++ rest)
first_of f m zero = ([], (let e : m + 0 ≡ m = omega arith in ap (λ k. flat_map f (span 0 k)) e) ∙ sym (append-nil (flat_map f (span 0 m))))
first_of f m (suc n) =
    let w = first_of f m n in
    let e : m + suc n ≡ (m + n) + 1 = omega arith in (
      w.0 ++ f (0 + (m + n)),
      ap (λ k. flat_map f (span 0 k)) e ∙ flat_map-span-suc f 0 (m + n) ∙ ap (λ l. l ++ f (0 + (m + n))) w.1 ∙
          append_assoc (flat_map f (span 0 m)) w.0 (f (0 + (m + n))),
    )

module _ (book : Book) (weights : List ℕ) (q : ℕ) (depths : List ℕ) (stages : ℕ → ℕ) (stops : Stops stages) where
  abbrev Some_planes : ℕ → List (List ℤ) → Script (List (List ℤ)) (List (List ℤ))
  Some_planes = planes_script book weights q depths stages

  abbrev All_planes : ℕ → List (List ℤ) → Script (List (List ℤ)) (List (List ℤ))
  All_planes = planes_script book weights q depths (λ b. 5)

  abbrev terms : ℕ → Terms
  terms b = record { book = book; weights = weights; plane = b; q = q }

  -- nothing is asked in planes of which nothing is sent
  silent : (b : ℕ) → ((c : ℕ) → c < b → stages c ≡ 0) → (blocks : List (List ℤ)) (t : Script (List (List ℤ)) (List (List ℤ))) → Starts (Some_planes b blocks) t
  silent zero none blocks t = tt
  silent (suc b) none blocks t =
      subst (λ n. Starts (then_ask (around (blocks_with b blocks) (plane_script (terms b) depths blocks n)) (Some_planes b)) t) (sym (none b (omega arith)))
      (silent b (λ c lt. none c (omega (arith, lt))) (blocks_with b blocks nothing_yet) t)

  pub planes_start : (b : ℕ) (blocks : List (List ℤ)) → Starts (Some_planes b blocks) (All_planes b blocks)
  planes_start zero blocks = tt
  planes_start (suc b) blocks = elim (stops b).1 [
    | inl five ↦
        subst (λ n. Starts (then_ask (around (blocks_with b blocks) (plane_script (terms b) depths blocks n)) (Some_planes b)) (All_planes (suc b) blocks))
        (sym five)
        (starts_then (Some_planes b) (All_planes b) (planes_start b) (around (blocks_with b blocks) (plane_script (terms b) depths blocks 5)))
    | inr zeros ↦
        let n = stages b in
        let few = (stops b).0 in
        let e : n + (5 - n) ≡ 5 = omega (arith, few) in
        let stage = blocks_script (terms b) depths blocks in
        subst (λ s. Starts (Some_planes (suc b) blocks) (then_ask (around (blocks_with b blocks) s) (All_planes b)))
        (sym (turns_split PlaneState stage 0 n (5 - n) nothing_yet) ∙ ap (λ k. in_turn stage 0 k nothing_yet) e)
        (starts_short (blocks_with b blocks) (in_turn stage (0 + n) (5 - n)) (Some_planes b) (All_planes b) (silent b zeros)
        (in_turn stage 0 n nothing_yet))
  ]

  module _ (options : ℕ → ℕ → List ℕ) (values : List (List ℤ)) where
    abbrev some : ℕ → List Item
    some = planes_reading book options values depths weights q stages

    abbrev all : ℕ → List Item
    all = planes_reading book options values depths weights q (λ b. 5)

    abbrev plane : ℕ → Plane
    plane b = record { blocks = values; depths = depths; weights = weights; number = b; q = q }

    no_items : (b : ℕ) → ((c : ℕ) → c < b → stages c ≡ 0) → some b ≡ []
    no_items zero none = refl
    no_items (suc b) none =
        (λ i. plane_reading book (options b) (plane b) (none b (omega arith) i) ++ no_items b (λ c lt. none c (omega (arith, lt))) i) ∙
        append-nil (plane_reading book (options b) (plane b) 0) ∙ flat_map-span-none (stage_reading book (options b) (plane b)) 0

    pub items_start : (b : ℕ) → (rest : List Item) × (all b ≡ some b ++ rest)
    items_start zero = ([], refl)
    items_start (suc b) = elim (stops b).1 [
      | inl five ↦ (let w = items_start b in (
        w.0,
        ap (λ l. plane_reading book (options b) (plane b) 5 ++ l) w.1 ∙ sym (append_assoc (plane_reading book (options b) (plane b) 5) (some b) w.0) ∙
            ap (λ n. (plane_reading book (options b) (plane b) n ++ some b) ++ w.0) (sym five),
      ))
      | inr zeros ↦ (let few = (stops b).0 in
          let e : stages b + (5 - stages b) ≡ 5 = omega (arith, few) in
          let w = first_of (stage_reading book (options b) (plane b)) (stages b) (5 - stages b) in (
            w.0 ++ all b,
            ap (λ l. l ++ all b) (ap (plane_reading book (options b) (plane b)) (sym e) ∙ w.1) ∙
                append_assoc (plane_reading book (options b) (plane b) (stages b)) w.0 (all b) ∙
                ap (λ l. l ++ (w.0 ++ all b)) (sym (append-nil (plane_reading book (options b) (plane b) (stages b))) ∙
                ap (λ l. plane_reading book (options b) (plane b) (stages b) ++ l) (sym (no_items b zeros))),
          ))
    ]
