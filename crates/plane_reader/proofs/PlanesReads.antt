-- The planes of a segment, from the top down.
use Rattle.std.proofs.Common.{◌≡◌, ℕ, zero, suc, ◌+◌, ◌*◌, ◌/◌, ◌%◌, ◌<◌, ◌==◌, ◌||◌, nat_lt, true, false, if◌then◌else◌, List, [], length, refl, ap, sym}
use Rattle.std.proofs.Common.{◌∙◌, subst, arith, ℤ, pos, ◌+ℤ◌, unsigned_abs, negsuc, get_or, drop, Result, Ok, Err}
use Rattle.std.specs.Prelude.{◌-ℤ◌}
use Rattle.std.proofs.lemmas.Bool.Decides.{nat_tests}
use Rattle.std.proofs.lemmas.Int.{ints}
use Rattle.std.proofs.lemmas.List.{ext_get_or, length-take, length-drop}
use Rattle.base_122.specs.declared.book.Book.{Book}
use Rattle.wave_defs.specs.Held.{blocks_in}
use Rattle.plane_defs.specs.Entries.{negative}
use Rattle.plane_defs.proofs.SpanLists.{length-map-span, get_or-map-span}
use Rattle.bit_pipe.specs.declared.fault.TextFault.{TextFault}
use Rattle.bit_pipe.specs.Sources.{SourceOf}
use Rattle.bit_pipe.specs.SourceState.{SourceState, IsIn}
use Rattle.item_defs.specs.Scripts.{Script, done, then_ask, around}
use Rattle.block_masks.specs.declared.plan.CodedPlane.{CodedPlane}
use Rattle.plane_reader.specs.Blocks.{terms_of}
use Rattle.bit_pipe.specs.declared.fault.Part.{Part}
use Rattle.bit_pipe.specs.declared.fault.Part.TheVariants.{Whole, Ended}
use Rattle.bit_pipe.specs.ScriptSources.{got, ends, by_fault, by_part, ReadsAs}
use Rattle.bit_pipe.proofs.ScriptReading.{Leaves, leaves_more, read_done, read_cut, read_fault}
use Rattle.plane_defs.specs.StageScripts.{Terms}
use Rattle.plane_defs.specs.States.{nothing}
use Rattle.plane_defs.specs.PlaneScript.{PlaneState, nothing_yet, bit_of_plane, number_with, block_with, blocks_with, plane_script}
use Rattle.plane_defs.specs.Lows.{Given, given_with, planes_given}
use Rattle.plane_reader.specs.declared.planes.SentPlanes.{SentPlanes}
use Rattle.plane_reader.specs.Planes.{stages_of, TakesPlane}
use Rattle.plane_reader.proofs.PlaneReads.{length-blocks, block_there, part_around}

-- ---- a plane of which nothing is sent

signed_back : (z : ℤ) → (if negative z || false then pos 0 -ℤ pos (unsigned_abs z + 0) else pos (unsigned_abs z + 0)) ≡ z
signed_back (pos n) = ap pos (omega arith)
signed_back (negsuc n) = omega (arith, ints)

plus_none : (z : ℤ) → z +ℤ pos 0 ≡ z
plus_none z = omega (arith, ints)

number_kept : (plane : ℕ) (block : List ℤ) (k : ℕ) → number_with plane block nothing k ≡ get_or block k (pos 0)
number_kept plane block zero = plus_none (get_or block 0 (pos 0))
number_kept plane block (suc k) =
    let z = get_or block (suc k) (pos 0) in
    let apart : (suc k == 0) ≡ false = grind (arith, nat_tests) in
    ap (λ b. if b then get_or block 0 (pos 0) +ℤ pos (bit_of_plane plane nothing 0) else if negative z || false then pos 0 -ℤ pos
    (unsigned_abs z + 0) else pos (unsigned_abs z + 0)) apart ∙ signed_back z

block_kept : (plane : ℕ) (block : List ℤ) → length block ≡ 64 → block_with plane block nothing ≡ block
block_kept plane block whole =
    let long : length (block_with plane block nothing) ≡ 64 = length-map-span (number_with plane block nothing) 64 in
    ext_get_or (pos 0) (block_with plane block nothing) block (long ∙ sym whole) (λ k lt.
    get_or-map-span (number_with plane block nothing) 64 k (pos 0) (omega (arith, lt, long)) ∙ number_kept plane block k)

abbrev pub AreWhole : List (List ℤ) → Type 0
AreWhole blocks = (r : ℕ) → r < length blocks → length (get_or blocks r []) ≡ 64

blocks_kept : (plane : ℕ) (blocks : List (List ℤ)) → AreWhole blocks → blocks_with plane blocks nothing_yet ≡ blocks
blocks_kept plane blocks whole =
    let item : ℕ → List ℤ = λ r. block_with plane (get_or blocks r []) nothing in
    let long : length (blocks_with plane blocks nothing_yet) ≡ length blocks = length-map-span item (length blocks) in
    ext_get_or [] (blocks_with plane blocks nothing_yet) blocks long (λ r lt.
    let inside : r < length blocks = omega (arith, lt, long) in
    get_or-map-span item (length blocks) r [] inside ∙ block_kept plane (get_or blocks r []) (whole r inside))

pub blocks_whole : (xs : List ℤ) → length xs % 64 ≡ 0 → AreWhole (blocks_in xs)
blocks_whole xs even r lt =
    let inside : r < length xs / 64 = omega (arith, lt, length-blocks xs) in
    ap length (block_there xs r inside) ∙ omega (arith, length-take 64 (drop (64 * r) xs), length-drop (64 * r) xs, inside)

-- ---- one plane more

-- the terms of a plane
abbrev pub terms_at : Book → (weights : List ℕ) → (q plane : ℕ) → Terms
terms_at book weights q plane = record { book = book; weights = weights; plane = plane; q = q }

-- a plane's script, with what is given
abbrev pub given_plane : Book → (weights : List ℕ) → (q : ℕ) → List ℕ → (plane stages : ℕ) → Given → Script Given Given
given_plane book weights q depths plane n g = around (given_with plane g) (plane_script (terms_at book weights q plane) depths g.numbers n)

-- a plane of which nothing is sent gives nothing
given_kept : (plane : ℕ) (g : Given) → AreWhole g.numbers → given_with plane g nothing_yet ≡ g
given_kept plane g whole = λ i. record { numbers = blocks_kept plane g.numbers whole i; lows = g.lows }

module _ (book : Book) (weights : List ℕ) (q : ℕ) (depths : List ℕ) (stages : ℕ → ℕ) where
  -- no plane is sent
  pub none_sent : (below : ℕ) → ((plane : ℕ) → plane < below → stages plane ≡ 0) → (g : Given) → AreWhole g.numbers →
      planes_given book weights q depths stages below g ≡ done g
  none_sent zero none g whole = refl
  none_sent (suc plane) none g whole =
      ap (λ n. then_ask (given_plane book weights q depths plane n g) (planes_given book weights q depths stages plane)) (none plane (omega arith)) ∙
      ap (planes_given book weights q depths stages plane) (given_kept plane g whole) ∙
      none_sent plane (λ p lt. none p (omega (arith, lt))) g whole

-- planes below the stop are not sent
pub below_stop : (sent : SentPlanes) (plane : ℕ) → plane < sent.stop → stages_of sent plane ≡ 0
below_stop sent plane lt =
    let a : nat_lt sent.stop plane ≡ false = grind (arith, nat_tests) in
    let b : (plane == sent.stop) ≡ false = grind (arith, nat_tests) in
    ap (λ x. if x then 5 else if plane == sent.stop then sent.last + 1 else 0) a ∙ ap (λ x. if x then sent.last + 1 else 0) b

pub above_stop : (sent : SentPlanes) (plane : ℕ) → sent.stop < plane → 5 ≡ stages_of sent plane
above_stop sent plane lt =
    let a : nat_lt sent.stop plane ≡ true = grind (arith, nat_tests) in
    sym (ap (λ x. if x then 5 else if plane == sent.stop then sent.last + 1 else 0) a)

-- the plane of a plan
pub plane_as : {I : Type 0} {k : SourceOf I} (book : Book) (sent : SentPlanes) (plan : CodedPlane) (plane n : ℕ) (depths' depths : List ℕ) (blocks : List
    (List ℤ)) (result : Result Part TextFault) (cells : List ℤ) {x y : SourceState I} →
    plan.plane ≡ plane → plan.q ≡ sent.q → plan.weights ≡ sent.weights → depths' ≡ depths →
    TakesPlane k plan.plane blocks (plane_script (terms_of plan book) depths' blocks n) result cells x y →
    TakesPlane k plane blocks (plane_script (terms_at book sent.weights.shifts sent.q plane) depths blocks n) result cells x y
plane_as {k = k} book sent plan plane n depths' depths blocks result cells {x} {y} is_plane is_q are_weights same read =
    let e : plane_script (terms_of plan book) depths' blocks n ≡ plane_script (terms_at book sent.weights.shifts sent.q plane) depths blocks n =
    λ i. plane_script (terms_at book (are_weights i).shifts (is_q i) (is_plane i)) (same i) blocks n in
    subst (λ m. TakesPlane k m blocks (plane_script (terms_at book sent.weights.shifts sent.q plane) depths blocks n) result cells x y) is_plane
    (subst (λ s. TakesPlane k plan.plane blocks s result cells x y) e read)

-- what was read of a plane gives what is given
pub given_read : {I : Type 0} {k : SourceOf I} (book : Book) (weights : List ℕ) (q : ℕ) (depths : List ℕ) (plane n : ℕ) (g : Given) {numbers : List (List ℤ)}
    (result : Result Part TextFault) (now : PlaneState) {x y : SourceState I} → g.numbers ≡ numbers →
    ReadsAs k (plane_script (terms_at book weights q plane) depths numbers n) (by_part result now now) x y →
    ReadsAs k (given_plane book weights q depths plane n g) (by_part result (given_with plane g now) (given_with plane g now)) x y
given_read {k = k} book weights q depths plane n g result now {x} {y} is read =
    part_around (given_with plane g) (plane_script (terms_at book weights q plane) depths g.numbers n) result now
    (subst (λ b. ReadsAs k (plane_script (terms_at book weights q plane) depths b n) (by_part result now now) x y) (sym is) read)

module _ {I : Type 0} {k : SourceOf I} (book : Book) (weights : List ℕ) (q : ℕ) (depths : List ℕ) (stages : ℕ → ℕ) where
  module _ {all : Script Given Given} {below plane n : ℕ} (g : Given) {x y : SourceState I} (next : below ≡ suc plane)
      (sent : n ≡ stages plane)
      (left : Leaves k all (planes_given book weights q depths stages below g) x y) where
    left_is : Leaves k all (then_ask (given_plane book weights q depths plane n g) (planes_given book weights q depths stages plane)) x y
    left_is =
        subst (λ m. Leaves k all (then_ask (given_plane book weights q depths plane m g) (planes_given book weights q depths stages plane)) x y) (sym sent)
        (subst (λ b. Leaves k all (planes_given book weights q depths stages b g) x y) next left)

    pub planes_more : (now : Given) {z : SourceState I} → ReadsAs k (given_plane book weights q depths plane n g) (got now) y z →
        Leaves k all (planes_given book weights q depths stages plane now) x z
    planes_more now read = leaves_more all (given_plane book weights q depths plane n g) (planes_given book weights q depths stages plane) now left_is read

    -- a plane that is not whole is the last
    pub planes_end : (result : Result Part TextFault) (now : Given) {z : SourceState I} → (result ≡ Ok Whole → ⊥) →
        ReadsAs k (given_plane book weights q depths plane n g) (by_part result now now) y z → ReadsAs k all (by_part result now now) x z
    planes_end (Ok Whole) now part read = absurd (part refl)
    planes_end (Ok Ended) now {z} part read = left_is.then (ends now) z (read_cut (given_plane book weights q depths plane n g)
        (planes_given book weights q depths stages plane) now read)
    planes_end (Err fault) now {z} part read = left_is.then (by_fault fault now) z (read_fault (given_plane book weights q depths plane n g)
        (planes_given book weights q depths stages plane) now fault read)

  -- the planes that are left are not sent
  pub planes_done : {all : Script Given Given} {below : ℕ} {g : Given} {x y : SourceState I} → IsIn y → ((plane : ℕ) →
      plane < below → stages plane ≡ 0) → AreWhole g.numbers →
      Leaves k all (planes_given book weights q depths stages below g) x y → ReadsAs k all (got g) x y
  planes_done {all} {below} {g} {x} {y} i none whole left =
      let end : Leaves k all (done g) x y = subst (λ s. Leaves k all s x y) (none_sent book weights q depths stages below none g whole) left in
      end.then (got g) y (read_done g y i)
