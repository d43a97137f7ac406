-- Each question of bit planes has a possible answer.
use Rattle.std.proofs.Common.{refl, ap, ◌∙◌, ◌≡◌, ◌<◌, arith, ℕ, zero, suc, true, List, [], length, ℤ}
use lib.ListN.{get_or}
use Rattle.base_122.specs.declared.book.Book.{Book}
use Rattle.plane_defs.specs.Codes.{is_book_sound}
use Rattle.plane_defs.proofs.SpanLists.{length-map-span, get_or-map-span}
use Rattle.item_defs.specs.Scripts.{around}
use Rattle.item_defs.specs.Completing.{Goes}
use Rattle.item_defs.proofs.Completing.{goes_then, goes_around, goes_weaker}
use Rattle.plane_defs.specs.StageScripts.{Terms}
use Rattle.plane_defs.specs.PlaneScript.{PlaneState, plane_script, blocks_with, block_with, number_with}
use Rattle.plane_defs.specs.PlaneScript.{planes_script}
use Rattle.plane_defs.proofs.Answers.{goes_of}
use Rattle.plane_defs.proofs.PlaneAnswers.{AllOptions, AllFair, plane_may}

pub plane_goes : (t : Terms) → is_book_sound t.book ≡ true → (depths : List ℕ) (blocks : List (List ℤ)) (stages : ℕ) →
    Goes (plane_script t depths blocks stages) AllOptions
plane_goes t is_sound depths blocks stages =
    goes_weaker (λ u. (true ≡ true → AllOptions u) × AllFair t depths blocks u) AllOptions (λ u p. p.0 refl) (plane_script t depths blocks stages)
    (goes_of (λ u. (true ≡ true → AllOptions u) × AllFair t depths blocks u) (plane_script t depths blocks stages)
    (plane_may true t is_sound depths blocks stages))

pub long_with : (plane : ℕ) (blocks : List (List ℤ)) (s : PlaneState) → length (blocks_with plane blocks s) ≡ length blocks
long_with plane blocks s = length-map-span (λ r. block_with plane (get_or blocks r []) (s.blocks r)) (length blocks)

pub planes_go : (book : Book) → is_book_sound book ≡ true → (weights : List ℕ) (q : ℕ) (depths : List ℕ) (stages : ℕ → ℕ) (below : ℕ) (blocks : List (List ℤ)) →
    Goes (planes_script book weights q depths stages below blocks) (λ w. length w ≡ length blocks)
planes_go book is_sound weights q depths stages zero blocks = refl
planes_go book is_sound weights q depths stages (suc plane) blocks =
    let t : Terms = record { book = book; weights = weights; plane = plane; q = q } in
    goes_then (λ w. length w ≡ length blocks) (λ w. length w ≡ length blocks) (around (blocks_with plane blocks) (plane_script t depths blocks (stages plane)))
    (planes_script book weights q depths stages plane)
    (goes_around AllOptions (λ w. length w ≡ length blocks) (blocks_with plane blocks) (λ s p. long_with plane blocks s)
    (plane_script t depths blocks (stages plane)) (plane_goes t is_sound depths blocks (stages plane)))
    (λ w e. goes_weaker (λ v. length v ≡ length w) (λ v. length v ≡ length blocks) (λ v p. p ∙
    e) (planes_script book weights q depths stages plane w) (planes_go book is_sound weights q depths stages plane w))

-- blocks of 64 numbers stay so
pub planes_long : (book : Book) → is_book_sound book ≡ true → (weights : List ℕ) (q : ℕ) (depths : List ℕ) (stages : ℕ → ℕ) (below count : ℕ)
    (blocks : List (List ℤ)) → length blocks ≡ count → ((r : ℕ) → r < count → length (get_or blocks r []) ≡ 64) →
    Goes (planes_script book weights q depths stages below blocks) (λ w. (r : ℕ) → r < count → length (get_or w r []) ≡ 64)
planes_long book is_sound weights q depths stages zero count blocks size long = long
planes_long book is_sound weights q depths stages (suc plane) count blocks size long =
    let t : Terms = record { book = book; weights = weights; plane = plane; q = q } in
    goes_then (λ w. (length w ≡ count) × ((r : ℕ) → r < count → length (get_or w r []) ≡ 64)) (λ w. (r : ℕ) → r < count → length (get_or w r []) ≡ 64)
    (around (blocks_with plane blocks) (plane_script t depths blocks (stages plane))) (planes_script book weights q depths stages plane)
    (goes_around AllOptions (λ w. (length w ≡ count) × ((r : ℕ) → r < count → length (get_or w r []) ≡ 64)) (blocks_with plane blocks)
    (λ s p. (
      long_with plane blocks s ∙ size,
      λ r lt. ap length (get_or-map-span (λ i. block_with plane (get_or blocks i []) (s.blocks i)) (length blocks) r [] (omega (arith, lt, size))) ∙
          length-map-span (number_with plane (get_or blocks r []) (s.blocks r)) 64,
    )) (plane_script t depths blocks (stages plane)) (plane_goes t is_sound depths blocks (stages plane)))
    (λ w e. planes_long book is_sound weights q depths stages plane count w e.0 e.1)
