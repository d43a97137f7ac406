-- The depths in the states of blocks.
use Rattle.std.proofs.Common.{◌≡◌, ℕ, suc, ◌+◌, ◌*◌, ◌<◌, ◌≤◌, List, [], ◌∷◌, ◌++◌, length, take, drop, set, take_all, append-nil, length-take, length-drop}
use Rattle.std.proofs.Common.{refl, sym, ap, ◌∙◌, arith, get_or, ℤ, pos, map}
use Rattle.std.proofs.lemmas.Int.{ints}
use Rattle.std.proofs.lemmas.List.{get_or-map, get_or_default, length-map, map-append, length-append, drop_all}
use Rattle.std.proofs.lemmas.List.Edits.{map_over_more}
use Rattle.std.proofs.lemmas.Bool.Decides.{nat_tests}
use Rattle.base_122.specs.declared.book.Book.{Book}
use Rattle.wave_defs.specs.Held.{blocks_in}
use Rattle.plane_defs.specs.Marks.{depth_of, depths_of}
use Rattle.dc_depths.specs.Marks as plain
use Rattle.item_defs.specs.Items.{text}
use Rattle.number_defs.specs.Depths.{depth_items, depth_choices}
use Rattle.segment_defs.specs.declared.head.SegmentHead.{SegmentHead}
use Rattle.segment_defs.specs.Coded.{choice_of, chosen_options}
use Rattle.segment_defs.specs.Depths.{block_depth, block_depths, depth_ac_of}
use Rattle.segment_code.proofs.BlockLists.{blocks_push}
use Rattle.segment_code.proofs.CodedChoices.{within_greatest}

-- the depths as the writer of depths reads them
pub plain_depths : (ds : List ℕ) → plain.depths_of (map pos ds) ≡ ds
plain_depths [] = refl
plain_depths (d ∷ ds) = ap (λ l. d ∷ l) (plain_depths ds)

small : (d : ℕ) → d < 32 → depth_of (pos d) ≡ d
small d lt = omega (arith, ints)

-- the depths as the writer of planes reads them
pub low_depths : (ds : List ℕ) → ((r : ℕ) → get_or ds r 0 < 32) → depths_of (map pos ds) ≡ ds
unfolding depths_of
low_depths [] low = refl
low_depths (d ∷ ds) low =
    let first : depth_of (pos d) ≡ d = small d (low 0) in
    let rest = low_depths ds (λ r. low (suc r)) in
    ap (λ x. x ∷ map depth_of (map pos ds)) first ∙ ap (λ l. d ∷ l) rest

pub depth_within : (blocks : List (List ℤ)) (r : ℕ) → get_or (block_depths blocks) r 0 ≤ depth_ac_of blocks
depth_within blocks r = within_greatest block_depth blocks 0 r

pub are_depths : (blocks : List (List ℤ)) (A : ℕ) → A ≡ depth_ac_of blocks → plain.AreDepths A (map pos (block_depths blocks))
are_depths blocks A e = record {
  low = λ i lt. rw (place i lt) (omega (arith, ints));
  high =
      λ i lt. rw (place i lt) (let d = depth_within blocks i in omega (arith, ints));
}
  where
    place : (i : ℕ) → i < length (map pos (block_depths blocks)) → get_or (map pos (block_depths blocks)) i (pos 0) ≡ pos (get_or (block_depths blocks) i 0)
    place i lt = get_or-map pos (block_depths blocks) i 0 (pos 0) (omega (arith, length-map (block_depths blocks) pos))

-- the block depths that are put are those of the coded text
pub depths_put : (book : Book) (h : SegmentHead) (blocks : List (List ℤ)) (marks : List ℤ) (choice : ℕ → List ℕ → ℕ) →
    marks ≡ map pos (block_depths blocks) → choice ≡ choice_of h.best_ac →
    text (depth_items h.depth_ac (plain.depths_of marks) (depth_choices choice h.depth_ac (plain.depths_of marks))) ≡
    text (depth_items h.depth_ac (block_depths blocks) (chosen_options book h blocks).depths)
depths_put book h blocks marks choice e p = grind (arith, nat_tests, plain_depths)

pub kept_depths : (blocks : List (List ℤ)) (marks : List ℤ) → marks ≡ map pos (block_depths blocks) → depth_ac_of blocks ≤ 27 →
    depths_of marks ≡ block_depths blocks
kept_depths blocks marks e most = ap depths_of e ∙ low_depths (block_depths blocks) (λ r. omega (arith, depth_within blocks r, most))

-- one block more
pub depths_push : (cells block marks : List ℤ) (n depth : ℕ) → length cells ≡ 64 * n → length block ≡ 64 → depth ≡ block_depth block → depth ≤ 27 →
    depths_of marks ≡ block_depths (blocks_in cells) →
    depths_of (marks ++ pos depth ∷ []) ≡ block_depths (blocks_in (cells ++ block))
unfolding depths_of
depths_push cells block marks n depth whole sixty_four is low same =
    map-append depth_of marks (pos depth ∷ [])
    ∙ ap (λ d. map depth_of marks ++ d ∷ []) (small depth (omega (arith, low)) ∙ is)
    ∙ ap (λ ds. ds ++ block_depth block ∷ []) same
    ∙ sym (map-append block_depth (blocks_in cells) (block ∷ []))
    ∙ ap block_depths (sym (blocks_push cells block n whole sixty_four))

pub no_depths : (marks : List ℤ) → marks ≡ [] → depths_of marks ≡ block_depths (blocks_in [])
unfolding depths_of blocks_in
no_depths marks none = rw none refl

-- ---- states that lose all but their depths

-- one state more
pub depth_more : (marks now : List ℤ) (i depth : ℕ) → i < length marks → depth ≡ depth_of (get_or now i (pos 0)) →
    now ≡ map (λ m. pos (depth_of m)) (take i marks) ++ drop i marks →
    set now i (pos depth) ≡ map (λ m. pos (depth_of m)) (take (i + 1) marks) ++ drop (i + 1) marks
depth_more marks now i depth lt is same = ap (λ d. set now i (pos d)) is ∙ map_over_more (λ m. pos (depth_of m)) marks now i (get_or now i (pos 0)) lt same
    (get_or_default now i (pos 0) (get_or now i (pos 0)) inside)
  where
    inside : i < length now
    inside = omega (
      arith,
      ap length same,
      length-append (map (λ m. pos (depth_of m)) (take i marks)) (drop i marks),
      length-map (take i marks) (λ m. pos (depth_of m)),
      length-take i marks,
      length-drop i marks,
      lt,
    )

-- all states
pub depths_alone : (marks : List ℤ) (i : ℕ) {now : List ℤ} → length marks ≤ i → now ≡ map (λ m. pos (depth_of m)) (take i marks) ++ drop i marks →
    now ≡ map pos (depths_of marks)
unfolding depths_of
depths_alone marks i all same =
    same ∙ ap (λ ms. map (λ m. pos (depth_of m)) (take i marks) ++ ms) (drop_all i marks all) ∙ append-nil (map (λ m. pos (depth_of m)) (take i marks))
    ∙ ap (map (λ m. pos (depth_of m))) (take_all i marks all) ∙ twice marks
  where
    twice : (ms : List ℤ) → map (λ m. pos (depth_of m)) ms ≡ map pos (map depth_of ms)
    twice [] = refl
    twice (m ∷ ms) = ap (λ l. pos (depth_of m) ∷ l) (twice ms)
