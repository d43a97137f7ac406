-- The numbers that any bits are read as, to the end or to a cut, are multiples of their weights.
use Rattle.std.proofs.Common.{◌≡◌, ◌⊎◌, Bool, true, List, length, take, ap, sym, ◌∙◌, subst, arith, ℤ}
use Rattle.item_defs.specs.Items.{Item}
use Rattle.item_defs.specs.Readings.{AreItems}
use Rattle.base_122.specs.declared.book.Book.{Book}
use Rattle.plane_defs.specs.Codes.{is_book_sound}
use Rattle.segment_defs.specs.declared.head.SegmentHead.{SegmentHead}
use Rattle.segment_defs.specs.Head.{IsHead}
use Rattle.segment_defs.specs.SegmentItems.{segment_items}
use Rattle.item_defs.specs.Outcomes.{Outcome, whole, cut}
use Rattle.item_defs.specs.Scripts.{run}
use Rattle.item_defs.specs.Following.{Follows, SaysWhat}
use Rattle.item_defs.proofs.ScriptGives.{GivesAfter, cut_after}
use Rattle.segment_defs.specs.Parts.{HasDcs, AreDeep, HasPlanes, IsPart, AreWeighted}
use Rattle.segment_defs.specs.Segments.{segment_script}
use Rattle.segment_defs.proofs.SegmentGoes.{script_is_read}
use Rattle.segment_defs.proofs.SegmentParts.{there_part, segment_gives, segment_part}
use Rattle.segment_defs.proofs.TextBack.{shorter, completed_back, asked_back, followed_back, of_asked, of_followed}
use Rattle.segment_defs.proofs.TextNumbers.{part_weighted}

abbrev Blocks : Type 0
Blocks = List (List ℤ)

one_whole : (v w : Blocks) (left : List Bool) → ◌≡◌ {A = Outcome Blocks Blocks} (whole v left) (whole w left) → v ≡ w
one_whole v w left e = cc

one_cut : (v w : Blocks) → ◌≡◌ {A = Outcome Blocks Blocks} (cut v) (cut w) → v ≡ w
one_cut v w e = cc

module _ (book : Book) (sound : is_book_sound book ≡ true) (head : SegmentHead) (is_head : IsHead head) where
  says : SaysWhat (segment_script book head)
  says = (script_is_read book head sound).says

  pub whole_weighted : (bits left : List Bool) (v : Blocks) → run (segment_script book head) bits ≡ whole v left → AreWeighted head v
  whole_weighted bits left v ran =
      let r = says.whole_is bits left v ran in
      let c = of_followed book sound head is_head r.items r.are v r.follows in
      let p = completed_back book sound head is_head r.items r.are c in
      let same = followed_back book sound head is_head r.items r.are c.more c.end p v r.follows in
      let w = segment_part head is_head c.end p.depths p.options p.spellable p.words (subst AreItems same r.are) in
      let follows = subst (λ b. Follows (segment_script b head) (segment_items head c.end p.depths p.options) w.0) p.of_book w.1 in
      let again = says.is_whole bits left w.0 (record {
        items = r.items;
        are = r.are;
        read = r.read;
        follows = subst (λ l. Follows (segment_script book head) l w.0) (sym same) follows;
      }) in
      part_weighted head is_head c.end p.depths p.spellable v (subst (IsPart head c.end) (one_whole w.0 v left (sym again ∙ ran)) w.2)

  pub cut_weighted : (bits : List Bool) (v : Blocks) → run (segment_script book head) bits ≡ cut v → AreWeighted head v
  cut_weighted bits v ran =
      let r = says.cut_is bits v ran in
      let c = of_asked book sound head is_head r.items r.are r.form r.asks in
      let p = completed_back book sound head is_head r.items r.are c in
      let lt = (asked_back book sound head is_head r.items r.are c.more c.end p r.form r.asks).0 in
      let L = segment_items head c.end p.depths p.options in
      let all : take (length r.items) L ≡ r.items = shorter r.items c.more L p.rest p.is (omega (arith, lt)) in
      let There : List Item → Blocks → Type 0 = λ l g. HasDcs head c.end g ⊎ (AreDeep head c.end × HasPlanes head c.end p.depths p.options l g) in
      let given = segment_gives head is_head c.end p.depths p.options p.spellable p.words (length r.items) (omega (arith, lt))
      (subst AreItems (sym all) r.are) in
      let g = cut_after There (segment_script book head) r.items r.form r.some r.are r.asks r.lacks
      (subst (λ l. GivesAfter (segment_script book head) l There) all
      (subst (λ b. GivesAfter (segment_script b head) (take (length r.items) L) There) p.of_book given)) in
      part_weighted head is_head c.end p.depths p.spellable v
      (subst (IsPart head c.end) (one_cut g.0 v (sym g.1 ∙ ap (run (segment_script book head)) (sym r.read) ∙ ran))
      (there_part head is_head c.end p.depths p.options p.spellable p.words r.items g.0 g.2))
