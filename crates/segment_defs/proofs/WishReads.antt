-- A text that is read as it is wished.
use Rattle.std.proofs.Common.{◌≡◌, ℕ, Bool, true, false, List, length, refl, ap, sym, ◌∙◌, subst, Result, Ok, Err}
use Rattle.item_defs.specs.Outcomes.{Outcome, whole, cut, refused}
use Rattle.item_defs.specs.Scripts.{Script, done, ask, around, run}
use Rattle.item_defs.specs.Completing.{Goes}
use Rattle.item_defs.proofs.Completing.{goes_around}
use Rattle.item_defs.proofs.ScriptAround.{put_outcome, run_around}
use Rattle.plane_defs.specs.Codes.{is_book_sound}
use Rattle.plane_defs.specs.Lows.{Given}
use Rattle.plane_defs.specs.Restored.{restored, numbers_for}
use Rattle.plane_defs.proofs.NumbersGiven.{restored_by_position}
use Rattle.segment_defs.specs.declared.head.SegmentHead.{SegmentHead}
use Rattle.segment_defs.specs.Head.{IsHead}
use Rattle.segment_defs.specs.SegmentItems.{segment_items}
use Rattle.segment_defs.specs.Outcomes.{SegmentRefusal, bits_read, Holds}
use Rattle.segment_defs.specs.Parts.{AreWeighted}
use Rattle.segment_defs.specs.Segments.{segment_script}
use Rattle.segment_defs.specs.TextOutcome.{verdict, text_outcome}
use Rattle.segment_defs.specs.TextLaws.{HasBlocks, HasAllPlanes, SegmentsAreRead}
use Rattle.segment_defs.specs.Given.{segment_given, text_given}
use Rattle.segment_defs.specs.GivenLaws.{with_numbers}
use Rattle.segment_defs.specs.TextWish.{TextWish, segment_read, text_read}
use Rattle.segment_defs.specs.TextWishLaws.{end_of, refusal_in, WishesAgree, TextsReadAsWished}
use Rattle.segment_defs.proofs.SegmentGoes.{laws_of, script_is_read}
use Rattle.segment_defs.proofs.RunFull.{whole_same}
use Rattle.segment_defs.proofs.RunNumbers as plain
use Rattle.segment_defs.proofs.RunRestored.{whole_restored, cut_restored}
use Rattle.segment_defs.proofs.TextGiven.{Blocks, numbers, script_same, numbers_run, text_same, verdict_put}
use Rattle.segment_defs.proofs.TextReads.{texts_are_read}
use Rattle.segment_defs.proofs.TextRestored.{numbers_are, texts_are_restored}

-- ---- how far bits are read

end_put : {S T : Type 0} (put : S → T) (o : Outcome S S) → end_of (put_outcome put o) ≡ end_of o
end_put put (whole a left) = refl
end_put put (cut g) = refl
end_put put (refused g name left) = refl

refusal_put : (f g : Given → Blocks) (a : Result Given SegmentRefusal) → refusal_in (with_numbers f a) ≡ refusal_in (with_numbers g a)
refusal_put f g (Ok x) = refl
refusal_put f g (Err name) = refl

-- answers that lead to ends whose image is of this kind
goes_under : {S T : Type 0} (Q : T → Type 0) (put : S → T) (s : Script S S) → Goes (around put s) Q → Goes s (λ a. Q (put a))
goes_under Q put (done a) p = p
goes_under Q put (ask g form more) p = (p.0, p.1, λ n said good. goes_under Q put (more n) (p.2 n said good))

module _ (wish : TextWish) (head : SegmentHead) where
  abbrev put : Given → Blocks
  put = numbers_for wish.restore head.image.weights.shifts

  read_is : segment_read wish head ≡ around put (segment_given wish.book head)
  unfolding segment_read
  read_is = refl

  script_plain : wish.restore ≡ false → segment_read wish head ≡ segment_script wish.book head
  script_plain e =
      read_is ∙ ap (λ b. around (numbers_for b head.image.weights.shifts) (segment_given wish.book head)) e ∙ script_same wish.book head

  run_is : (bits : List Bool) → run (segment_read wish head) bits ≡ put_outcome put (run (segment_given wish.book head) bits)
  run_is bits = ap (λ s. run s bits) read_is ∙ run_around put (segment_given wish.book head) bits

  run_plain : (bits : List Bool) → run (segment_script wish.book head) bits ≡ put_outcome numbers (run (segment_given wish.book head) bits)
  run_plain bits = ap (λ s. run s bits) (sym (script_same wish.book head)) ∙ run_around numbers (segment_given wish.book head) bits

  ends_same : (bits : List Bool) → end_of (run (segment_read wish head) bits) ≡ end_of (run (segment_script wish.book head) bits)
  ends_same bits =
      let o = run (segment_given wish.book head) bits in
      ap end_of (run_is bits) ∙ end_put put o ∙ sym (end_put numbers o) ∙ sym (ap end_of (run_plain bits))

  text_is : (rest : List ℕ) → text_read wish head rest ≡ with_numbers put (text_given wish.book head rest)
  text_is rest = ap (verdict head rest) (run_is (bits_read head rest)) ∙ verdict_put put head rest (run (segment_given wish.book head) (bits_read head rest))

  refusals_same : (rest : List ℕ) → refusal_in (text_read wish head rest) ≡ refusal_in (text_outcome wish.book head rest)
  refusals_same rest =
      ap refusal_in (text_is rest) ∙ refusal_put put numbers (text_given wish.book head rest) ∙ sym (ap refusal_in (text_same wish.book head rest))

  -- ---- the numbers

  count_same : (restore : Bool) (g : Given) → length (numbers_for restore head.image.weights.shifts g) ≡ length g.numbers
  count_same true g = restored_by_position.count head.image.weights.shifts g
  count_same false g = refl

  read_goes : is_book_sound wish.book ≡ true → Goes (segment_read wish head) (HasBlocks head)
  read_goes sound =
      let plain = (script_is_read wish.book head sound).goes in
      let given = goes_under (HasBlocks head) numbers (segment_given wish.book head)
      (subst (λ s. Goes s (HasBlocks head)) (sym (script_same wish.book head)) plain) in
      subst (λ s. Goes s (HasBlocks head)) (sym read_is)
      (goes_around (λ g. HasBlocks head g.numbers) (HasBlocks head) put (λ g p. count_same wish.restore g ∙ p) (segment_given wish.book head) given)

pub segments_are_read : SegmentsAreRead
segments_are_read wish head sound = laws_of head (segment_read wish head) (read_goes wish head sound)

pub wishes_agree : WishesAgree
wishes_agree = record {
  given = text_is;
  script = script_plain;
  text = λ wish head rest e. ap (λ s. verdict head rest (run s (bits_read head rest))) (script_plain wish head e);
  ends = ends_same;
  refusals = refusals_same;
}

pub texts_read_as_wished : TextsReadAsWished
texts_read_as_wished wish sound head rest is_head = record {
  numbers = λ v e. weighted wish.restore v (sym (text_is wish head rest) ∙ e);
  exact = λ h all count. text_is wish head rest ∙ exact wish.restore h all count;
}
  where
    weighted : (restore : Bool) (v : Blocks) → with_numbers (numbers_for restore head.image.weights.shifts) (text_given wish.book head rest) ≡ Ok v →
        AreWeighted head v
    weighted true v e =
        let w = numbers_are (restored head.image.weights.shifts) (text_given wish.book head rest) v e in
        subst (AreWeighted head) w.2 ((texts_are_restored wish.book sound head rest is_head).weighted w.0 w.1)
    weighted false v e = (texts_are_read wish.book sound head rest is_head).numbers v (text_same wish.book head rest ∙ e)

    exact : (restore : Bool) (h : Holds wish.book head rest) → HasAllPlanes head → h.count ≡ length (segment_items head h.blocks h.depths h.options) →
        with_numbers (numbers_for restore head.image.weights.shifts) (text_given wish.book head rest) ≡ Ok h.blocks
    exact true h all count =
        let w = (texts_are_restored wish.book sound head rest is_head).exact h all count in
        ap (with_numbers (restored head.image.weights.shifts)) w.1 ∙ ap Ok w.2
    exact false h all count = sym (text_same wish.book head rest) ∙ (texts_are_read wish.book sound head rest is_head).exact h all count

-- ---- the numbers that bits are read as

whole_put : (put : Given → Blocks) (o : Outcome Given Given) (v : Blocks) (left : List Bool) → put_outcome put o ≡ whole v left →
    (g : Given) × (o ≡ whole g left) × (put g ≡ v)
whole_put put (whole g rest) v left e = (g, ap (whole g) (same_left e), same e)
  where
    same : ◌≡◌ {A = Outcome Blocks Blocks} (whole (put g) rest) (whole v left) → put g ≡ v
    same e = cc

    same_left : ◌≡◌ {A = Outcome Blocks Blocks} (whole (put g) rest) (whole v left) → rest ≡ left
    same_left e = cc
whole_put put (cut g) v left e = absurd (clash e)
  where
    clash : ◌≡◌ {A = Outcome Blocks Blocks} (cut (put g)) (whole v left) → ⊥
    clash e = cc
whole_put put (refused g name rest) v left e = absurd (clash e)
  where
    clash : ◌≡◌ {A = Outcome Blocks Blocks} (refused (put g) name rest) (whole v left) → ⊥
    clash e = cc

cut_put : (put : Given → Blocks) (o : Outcome Given Given) (v : Blocks) → put_outcome put o ≡ cut v → (g : Given) × (o ≡ cut g) × (put g ≡ v)
cut_put put (cut g) v e = (g, refl, same e)
  where
    same : ◌≡◌ {A = Outcome Blocks Blocks} (cut (put g)) (cut v) → put g ≡ v
    same e = cc
cut_put put (whole g rest) v e = absurd (clash e)
  where
    clash : ◌≡◌ {A = Outcome Blocks Blocks} (whole (put g) rest) (cut v) → ⊥
    clash e = cc
cut_put put (refused g name rest) v e = absurd (clash e)
  where
    clash : ◌≡◌ {A = Outcome Blocks Blocks} (refused (put g) name rest) (cut v) → ⊥
    clash e = cc

module _ (wish : TextWish) (sound : is_book_sound wish.book ≡ true) (head : SegmentHead) (is_head : IsHead head) (bits : List Bool) where
  plain_whole : (g : Given) (left : List Bool) → run (segment_given wish.book head) bits ≡ whole g left → AreWeighted head g.numbers
  plain_whole g left ran = plain.whole_weighted wish.book sound head is_head bits left g.numbers (numbers_run wish.book head bits (whole g left) ran)

  pub whole_weighted : (left : List Bool) (v : Blocks) → run (segment_read wish head) bits ≡ whole v left → AreWeighted head v
  whole_weighted left v ran =
      let w = whole_put (put wish head) (run (segment_given wish.book head) bits) v left (sym (run_is wish head bits) ∙ ran) in
      subst (AreWeighted head) w.2 (by wish.restore w.0 w.1)
    where
      by : (restore : Bool) (g : Given) → run (segment_given wish.book head) bits ≡ whole g left →
          AreWeighted head (numbers_for restore head.image.weights.shifts g)
      by true g ran = whole_restored head is_head wish.book sound bits left g ran
      by false g ran = plain_whole g left ran

  pub cut_weighted : (v : Blocks) → run (segment_read wish head) bits ≡ cut v → AreWeighted head v
  cut_weighted v ran =
      let w = cut_put (put wish head) (run (segment_given wish.book head) bits) v (sym (run_is wish head bits) ∙ ran) in
      subst (AreWeighted head) w.2 (by wish.restore w.0 w.1)
    where
      by : (restore : Bool) (g : Given) → run (segment_given wish.book head) bits ≡ cut g →
          AreWeighted head (numbers_for restore head.image.weights.shifts g)
      by true g ran = cut_restored head is_head wish.book sound bits g ran
      by false g ran = plain.cut_weighted wish.book sound head is_head bits g.numbers (numbers_run wish.book head bits (cut g) ran)

  -- if all planes are read, nothing is added
  pub whole_exact : HasAllPlanes head → (left : List Bool) (v : Blocks) → run (segment_script wish.book head) bits ≡ whole v left →
      run (segment_read wish head) bits ≡ whole v left
  whole_exact all left v ran =
      let w = whole_put numbers (run (segment_given wish.book head) bits) v left (sym (run_plain wish head bits) ∙ ran) in
      run_is wish head bits ∙ ap (put_outcome (put wish head)) w.1 ∙ ap (λ b. whole b left) (by wish.restore w.0 w.1 ∙ w.2)
    where
      by : (restore : Bool) (g : Given) → run (segment_given wish.book head) bits ≡ whole g left →
          numbers_for restore head.image.weights.shifts g ≡ g.numbers
      by true g ran = whole_same head all wish.book bits left g ran (plain_whole g left ran)
      by false g ran = refl
