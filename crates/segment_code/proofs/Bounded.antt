-- A coded text has no limit and few bits, or a limit of whole words.
use Rattle.std.proofs.Common.{◌≡◌, ℕ, ◌*◌, ◌^◌, ◌<◌, ◌≤◌, List, length, true, false, inl, inr, ◌∙◌, arith, ℤ}
use Rattle.std.proofs.lemmas.Bool.{cases_Bool}
use Rattle.std.proofs.lemmas.List.{length-map}
use Rattle.base_122.specs.declared.book.Book.{Book}
use Rattle.plane_defs.specs.Codes.{is_book_sound}
use Rattle.wave_defs.specs.Held.{blocks_in}
use Rattle.number_defs.specs.Depths.{depth_bits}
use Rattle.number_defs.specs.Laws.{AreFew}
use Rattle.segment_defs.specs.declared.head.SegmentHead.{SegmentHead}
use Rattle.segment_defs.specs.Depths.{block_depth, block_depths, depth_dc_of, depth_ac_of}
use Rattle.segment_defs.specs.Head.{IsHead}
use Rattle.segment_defs.specs.SegmentItems.{dc_shift}
use Rattle.segment_defs.specs.Coded.{chosen_options, coded_bits}
use Rattle.segment_code.proofs.Encoding.{IsBounded}
use Rattle.segment_code.proofs.CodedChoices.{words_are, numbers_are}
use Rattle.segment_code.proofs.DcFits.{blocks_fit}
use Rattle.segment_code.proofs.BlockLists.{length-blocks_in}
use Rattle.segment_code.proofs.DepthMarks.{depth_within}
use Rattle.segment_code.proofs.NumberBits.{depth_held}
use Rattle.segment_code.proofs.TextBits.{text_short}

-- the depths have the bits of the greatest
block_depths_few : (blocks : List (List ℤ)) (A : ℕ) → A ≤ 27 → A ≡ depth_ac_of blocks → AreFew (depth_bits A) (block_depths blocks)
block_depths_few blocks A le e i lt = omega (arith, depth_within blocks i, e, (depth_held A le).1)

module _ (book : Book) (sound : is_book_sound book ≡ true) (h : SegmentHead) (cells : List ℤ) (ok : IsHead h) (ten : length h.image.weights.shifts ≡ 10)
    (count : length cells ≡ 64 * h.blocks) (dc : h.depth_dc ≡ depth_dc_of (blocks_in cells)) (ac : h.depth_ac ≡ depth_ac_of (blocks_in cells)) where
  coded_short : length (coded_bits book h (blocks_in cells)) < 2 ^ 34
  coded_short =
      let blocks = blocks_in cells in
      let all = length-blocks_in cells h.blocks count in
      text_short h blocks (block_depths blocks) (chosen_options book h blocks) ok ten all (length-map blocks block_depth ∙ all)
      (blocks_fit blocks h.depth_dc h.depth_ac (dc_shift h) ok.depth_dc.0 dc)
      (block_depths_few blocks h.depth_ac ok.depth_ac ac) (words_are book sound h blocks) (numbers_are book h blocks ok)

  pub is_bounded : IsBounded h.image.word h.limit h.fill (length (coded_bits book h (blocks_in cells)))
  is_bounded = elim ok.limit [
    | inl none ↦
        let plain : h.fill ≡ false = elim (cases_Bool h.fill) [ inl filled ↦ absurd (ok.fill filled none) | inr plain ↦ plain ] in
        let short = coded_short in
        inl (ok.image.word.0, ok.image.word.1, none, plain, omega (arith, short))
    | inr some ↦ inr (record { octets = ok.image.word.0; some = omega (arith, some.0); whole = some.2 })
  ]
