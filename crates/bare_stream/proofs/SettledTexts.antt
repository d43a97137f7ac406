-- The texts of the segments that some rows settle are the same in each image that begins with these rows.
use Rattle.std.proofs.Common.{◌≡◌, ℕ, zero, suc, ◌+◌, ◌*◌, ◌/◌, ◌<◌, ◌≤◌, ℤ, List, [], ◌++◌, take, drop, sym, ap, ◌∙◌, subst, arith}
use Rattle.std.proofs.Common.{inl, inr, false, ◌==◌, Some, ext_get_or, get_or-take, get_or-drop, length-take, length-drop}
use Rattle.std.proofs.lemmas.Bool.{cases_lt}
use Rattle.std.proofs.lemmas.Bool.Decides.{nat_tests}
use Rattle.base_122.specs.Sizes.{block_count, total_blocks}
use Rattle.base_122.specs.declared.setting.Setting.{Setting}
use Rattle.base_122.proofs.SizeBounds.{three-le-block_count}
use Rattle.wave_defs.specs.Held.{SameWithin}
use Rattle.stream_defs.specs.Output.{head_for, image_blocks, segment_of}
use Rattle.stream_defs.specs.Settled.{last_block_row, settled, BlocksAgree}
use Rattle.stream_defs.specs.SettledImages.{settled_in}
use Rattle.stream_defs.proofs.ImageLaws.{length-image_blocks, blocks_agree}
use Rattle.stream_defs.proofs.SettledLaws.{rows_rise, settled_first}
use Rattle.strip_coder.proofs.PlanLaws.{known_first}
use Rattle.bare_stream.specs.Bare.{first_texts, head_before, segment_octets}
use Rattle.bare_stream.specs.Rasters.{IsBare}
use Rattle.bare_stream.proofs.Counts.{rows_in}
use Rattle.bare_stream.proofs.Presents.{head_is_now}
use Rattle.bare_stream.proofs.TextLists.{first_texts-none, first_texts-more}
use Rattle.bare_text.specs.Writing.{bare_text}

-- ---- from the blocks

module _ (s : Setting) (no_total : s.total ≡ 0) (xs ys : List (List ℤ)) where
  head_same : (index : ℕ) → segment_of s xs index ≡ segment_of s ys index → head_for s xs index ≡ head_for s ys index
  head_same index e = grind (arith, nat_tests, head_is_now)

  octets_same : (index : ℕ) → ((i : ℕ) → i ≤ index → segment_of s xs i ≡ segment_of s ys i) → segment_octets s xs index ≡ segment_octets s ys index
  octets_same zero each =
      ap (λ b. bare_text s.book (head_before s xs zero) (head_for s xs zero) b) (each zero (omega arith))
      ∙ ap (λ h. bare_text s.book (head_before s xs zero) h (segment_of s ys zero)) (head_same zero (each zero (omega arith)))
  octets_same (suc index) each =
      ap (λ b. bare_text s.book (head_before s xs (suc index)) (head_for s xs (suc index)) b) (each (suc index) (omega arith))
      ∙ ap (λ h. bare_text s.book (head_before s xs (suc index)) h (segment_of s ys (suc index))) (head_same (suc index) (each (suc index) (omega arith)))
      ∙ ap (λ h. bare_text s.book (Some h) (head_for s ys (suc index)) (segment_of s ys (suc index))) (head_same index (each index (omega arith)))

  pub texts_same : (n : ℕ) → ((i : ℕ) → i < n → segment_of s xs i ≡ segment_of s ys i) → first_texts s xs n ≡ first_texts s ys n
  texts_same zero each = first_texts-none s xs ∙ sym (first_texts-none s ys)
  texts_same (suc n) each =
      let e : suc n ≡ n + 1 = omega arith in
      ap (first_texts s xs) e ∙ first_texts-more s xs n
      ∙ ap (λ l. l ++ segment_octets s xs n) (texts_same n (λ i lt. each i (omega (arith, lt))))
      ∙ ap (λ l. first_texts s ys n ++ l) (octets_same n (λ i le. each i (omega (arith, le))))
      ∙ sym (ap (first_texts s ys) e ∙ first_texts-more s ys n)

-- ---- from the rows

module _ (s : Setting) (bare : IsBare s) (k : ℕ) (x y : ℕ → ℕ → ℤ) (le : k ≤ s.rows) (same : SameWithin k s.width x y) where
  agree : BlocksAgree s k (image_blocks s x) (image_blocks s y)
  agree = blocks_agree s bare.in_range (rows_in s bare) k x y le same

  some_columns : 0 < block_count s.width
  some_columns = let three = three-le-block_count s.width bare.in_range.width.0 in omega (arith, three)

  -- a segment whose blocks these rows determine
  segment_same : (index : ℕ) → 8 * last_block_row s index + 28 < k → segment_of s (image_blocks s x) index ≡ segment_of s (image_blocks s y) index
  segment_same index near =
      let S = s.segment in
      let all = image_blocks s x in
      let these = image_blocks s y in
      let first = index * S in
      let size = length-image_blocks s x in
      let long = agree.same_length in
      ext_get_or [] (take S (drop first all)) (take S (drop first these))
      (omega (arith, long, length-take S (drop first all), length-take S (drop first these), length-drop first all, length-drop first these))
      (λ i lt.
      let few : i < S = omega (arith, lt, length-take S (drop first all)) in
      let there : first + i < total_blocks s.width s.rows = omega (arith, lt, size, length-take S (drop first all), length-drop first all) in
      let row : (first + i) / block_count s.width ≤ last_block_row s index = grind (arith, nat_tests, rows_rise, some_columns) in
      get_or-take S (drop first all) i [] few ∙ get_or-drop first all i []
      ∙ agree.at (first + i) (omega (arith, row, near))
      ∙ sym (get_or-take S (drop first these) i [] few ∙ get_or-drop first these i []))

  near : (index : ℕ) → k < s.rows → index < settled_in s s.rows k → 8 * last_block_row s index + 28 < k
  near index less lt =
      let early : index < settled false s k = subst (λ b. index < settled b s k) (known_first s bare.known) lt in
      let is = settled_first false s bare.in_range k index early in
      let test : (k == s.rows) ≡ false = grind (arith, nat_tests) in
      grind (arith, nat_tests)

  pub settled_same : (n : ℕ) → n ≤ settled_in s s.rows k → first_texts s (image_blocks s x) n ≡ first_texts s (image_blocks s y) n
  settled_same n few = elim (cases_lt k s.rows) [
    | inl less ↦ texts_same s bare.no_total (image_blocks s x) (image_blocks s y) n (λ i lt. segment_same i (near i less (omega (arith, lt, few))))
    | inr all ↦ ap (λ blocks. first_texts s blocks n) (agree.whole (omega (arith, le, all)))
  ]
