-- What is read of all planes is what the blocks that they give write.
use Rattle.std.proofs.Common.{◌≡◌, ℕ, zero, suc, ◌+◌, ◌*◌, ◌/◌, ◌^◌, ◌≤◌, ◌<◌, ◌==◌, ◌&&◌, nat_lt, nat_le, Bool, true, false, if◌then◌else◌, List, [], ◌∷◌}
use Rattle.std.proofs.Common.{◌++◌, length, refl, ap, sym, ◌∙◌, subst, arith, ℤ, pos, inl, inr, Option, Some, None, pow_pos, pow_mono}
use Rattle.std.specs.Int.{int_shr}
use Rattle.std.proofs.lemmas.Bool.{cases_lt}
use Rattle.std.proofs.lemmas.Bool.Decides.{nat_tests}
use Rattle.std.proofs.lemmas.List.{get_or_past}
use lib.ListN.{get_or}
use Rattle.item_defs.specs.Items.{Item}
use Rattle.base_122.specs.declared.book.Book.{Book}
use Rattle.plane_defs.specs.Sets.{magnitude, shift, significant}
use Rattle.plane_defs.specs.Codes.{is_book_sound}
use Rattle.plane_defs.specs.Entries.{negative}
use Rattle.plane_defs.specs.Reading.{plane_reading}
use Rattle.plane_defs.specs.Spelled.{option_of as chosen_of}
use Rattle.plane_defs.specs.StepLaws.{IsAc, SameAc}
use Rattle.plane_defs.specs.Laws.{IsMultiple}
use Rattle.plane_defs.proofs.Equations.{significant-is}
use Rattle.plane_defs.proofs.SpanLists.{length-map-span, get_or-map-span}
use Rattle.item_defs.specs.Scripts.{around}
use Rattle.item_defs.specs.Following.{Follows}
use Rattle.item_defs.specs.Completing.{ArePossible}
use Rattle.item_defs.proofs.FollowLaws.{follows_split, around_follows}
use Rattle.item_defs.proofs.Completing.{possible_parts}
use Rattle.plane_defs.specs.Written.{AreChosen, planes_reading, Shows, low_bits}
use Rattle.plane_defs.specs.Back.{dc_in, IsBegun, AreBegun, WrittenBack, PlanesBack}
use Rattle.plane_defs.specs.WordScripts.{option_of}
use Rattle.plane_defs.specs.StageScripts.{Terms}
use Rattle.plane_defs.specs.PlaneScript.{PlaneState, block_with, blocks_with, plane_script, planes_script}
use Rattle.plane_defs.proofs.Answers.{may_end}
use Rattle.plane_defs.proofs.WordGoes.{HasOptions}
use Rattle.plane_defs.proofs.PlanesSent.{same_above, shows_nothing}
use Rattle.plane_defs.proofs.WordsBack.{Later, done_none}
use Rattle.plane_defs.proofs.PlaneAnswers.{AllOptions, AllFair, plane_may}
use Rattle.plane_defs.proofs.BlockLeft as block
use Rattle.plane_defs.proofs.PlaneBack as plane

-- ---- the options that were read

pub chosen_by : (ℕ → Option ℕ) → List ℕ
chosen_by options = option_of (options 2) ∷ option_of (options 3) ∷ option_of (options 4) ∷ []

chosen_at : (options : ℕ → Option ℕ) (n : ℕ) → 2 ≤ n → n ≤ 4 → chosen_of (chosen_by options) n ≡ option_of (options n)
unfolding chosen_by
chosen_at options zero low high = absurd (omega (arith, low))
chosen_at options (suc zero) low high = absurd (omega (arith, low))
chosen_at options (suc (suc zero)) low high = refl
chosen_at options (suc (suc (suc zero))) low high = refl
chosen_at options (suc (suc (suc (suc zero)))) low high = refl
chosen_at options (suc (suc (suc (suc (suc n))))) low high = absurd (omega (arith, high))

are_chosen : (options : ℕ → Option ℕ) → HasOptions options → AreChosen (chosen_by options)
are_chosen options has n low high = subst (λ x. x < n) (sym (chosen_at options n low high)) (by (options n) refl)
  where
    by : (x : Option ℕ) → options n ≡ x → option_of x < n
    by None e = omega (arith, low)
    by (Some x) e = has n x e

are_later : (options : ℕ → Option ℕ) → Later (chosen_by options) options
are_later options n x low high e = chosen_at options n low high ∙ ap option_of e

-- ---- a plane

module _ (book : Book) (is_sound : is_book_sound book ≡ true) (weights : List ℕ) (q : ℕ) (depths : List ℕ) where
  module _ (b : ℕ) (blocks : List (List ℤ)) (long : length depths ≡ length blocks) (begun : AreBegun weights q (b + 1) depths blocks) (u : PlaneState)
      (has : AllOptions u) where
    abbrev t : Terms
    t = record { book = book; weights = weights; plane = b; q = q }

    abbrev now : List (List ℤ)
    now = blocks_with b blocks u

    now_at : (r : ℕ) → r < length blocks → get_or now r [] ≡ block_with b (get_or blocks r []) (u.blocks r)
    now_at r lt = get_or-map-span (λ i. block_with b (get_or blocks i []) (u.blocks i)) (length blocks) r [] lt

    long_now : length now ≡ length blocks
    long_now = length-map-span (λ i. block_with b (get_or blocks i []) (u.blocks i)) (length blocks)

    module _ (fair : AllFair t depths blocks u) where
      all_begun : AreBegun weights q b depths now
      all_begun r lt =
          let in_blocks : r < length blocks = omega (arith, lt, long_now) in
          subst (IsBegun weights q b (get_or depths r 0)) (sym (now_at r in_blocks))
          (block.begun_now t (get_or blocks r []) (get_or depths r 0) (u.blocks r) (fair r) (begun r in_blocks))

      module _ (w : List (List ℤ)) (long_w : length w ≡ length blocks) (end : AreBegun weights q 0 depths w)
          (shows : (r : ℕ) → Shows b (get_or now r []) (get_or w r []))
          (dcs : (r c : ℕ) → low_bits weights q b ≤ c → int_shr (dc_in w r) c ≡ int_shr (dc_in now r) c) where
        at_end : (P : List ℤ → Type 0) → P [] → ((r : ℕ) → r < length blocks → P (get_or w r [])) → (r : ℕ) → P (get_or w r [])
        at_end P none some r = elim (cases_lt r (length blocks)) [
          | inl lt ↦ some r lt
          | inr ge ↦ subst P (sym (get_or_past w r [] (omega (arith, long_w, ge)))) none
        ]

        shows_at : (r : ℕ) → r < length blocks → Shows b (block_with b (get_or blocks r []) (u.blocks r)) (get_or w r [])
        shows_at r lt = subst (λ l. Shows b l (get_or w r [])) (now_at r lt) (shows r)

        shows_above : (r : ℕ) → Shows (b + 1) (get_or blocks r []) (get_or w r [])
        shows_above r = elim (cases_lt r (length blocks)) [
          | inl lt ↦ block.above t (get_or blocks r []) (get_or depths r 0) (u.blocks r) (fair r) (begun r lt) (get_or w r []) (shows_at r lt)
          | inr ge ↦
              subst (λ l. Shows (b + 1) l (get_or w r [])) (sym (get_or_past blocks r [] ge))
              (subst (λ l. Shows (b + 1) [] l) (sym (get_or_past w r [] (omega (arith, long_w, ge)))) (shows_nothing (b + 1)))
        ]

        same_all : (r : ℕ) → SameAc (get_or blocks r []) (get_or w r []) (b + 1)
        same_all r = same_above (b + 1) (get_or blocks r []) (get_or w r []) (shows_above r)

        multiple_all : (r : ℕ) → IsMultiple (get_or w r []) weights
        multiple_all r =
            at_end (λ l. IsMultiple l weights) (record { part = λ p. 0; whole = λ p. (let e : 0 ≡ 2 ^ shift weights p * 0 = omega arith in e) })
            (λ i lt. (end i (omega (arith, lt, long_w))).multiples) r

        none_all : (r : ℕ) → nat_lt b (get_or depths r 0) ≡ false → (p : ℕ) → IsAc p → significant (get_or w r []) b p ≡ false
        none_all r deep p ac = significant-is (get_or w r []) b p ∙ elim (cases_lt r (length blocks)) [
          | inl lt ↦ too_small (get_or depths r 0) (magnitude (get_or w r []) p) deep ((end r (omega (arith, lt, long_w))).small p ac.0)
          | inr ge ↦ ap (λ l. nat_le (2 ^ b) (magnitude l p)) (get_or_past w r [] (omega (arith, long_w, ge))) ∙ nothing
        ]
          where
            nothing : nat_le (2 ^ b) 0 ≡ false
            nothing = let e = pow_pos b in grind (arith, nat_tests)

            too_small : (d m : ℕ) → nat_lt b d ≡ false → m < 2 ^ d → nat_le (2 ^ b) m ≡ false
            too_small d m deep lt =
                let le : d ≤ b = grind (arith, nat_tests) in
                let more : 2 ^ d ≤ 2 ^ b = pow_mono le in
                grind (arith, nat_tests)

        dcs_above : (r c : ℕ) → low_bits weights q (b + 1) ≤ c → int_shr (dc_in w r) c ≡ int_shr (dc_in blocks r) c
        dcs_above r c le = elim (cases_lt r (length blocks)) [
          | inl lt ↦ block.dc_above t (get_or blocks r []) (get_or depths r 0) (u.blocks r) (fair r) (begun r lt) (dc_in w r)
              (λ k low. dcs r k low ∙ ap (λ l. int_shr (get_or l 0 (pos 0)) k) (now_at r lt)) c le
          | inr ge ↦ ap (λ l. int_shr (get_or l 0 (pos 0)) c) (get_or_past w r [] (omega (arith, long_w, ge)) ∙ sym (get_or_past blocks r [] ge))
        ]

        options : ℕ → List ℕ
        options g = chosen_by (u.options g)

        options_chosen : (g : ℕ) → AreChosen (options g)
        unfolding options
        options_chosen g = are_chosen (u.options g) (has g)

        -- the items of the plane
        items_back : (l : List Item) → ArePossible l → Follows (plane_script t depths blocks 5) l u →
            l ≡ plane_reading book options (record { blocks = w; depths = depths; weights = weights; number = b; q = q }) 5
        unfolding options options_chosen
        items_back l are f =
            plane.plane_back (λ g. chosen_by (u.options g)) (λ g. are_chosen (u.options g) (has g)) t is_sound depths blocks w same_all multiple_all none_all u
            (λ g. are_later (u.options g))
            (λ r lt. let in_blocks : r < length blocks = omega (arith, lt, long) in
            block.final t (get_or blocks r []) (get_or depths r 0) (u.blocks r) (fair r) (begun r in_blocks) (get_or w r []) (shows_at r in_blocks)
            (chosen_by (u.options (r / 16))) (are_chosen (u.options (r / 16)) (has (r / 16))) is_sound (same_all r) (multiple_all r)
            (λ c low. dcs r c low ∙ ap (λ l. int_shr (get_or l 0 (pos 0)) c) (now_at r in_blocks))) l are f

  -- ---- all planes

  abbrev reading : (ℕ → ℕ → List ℕ) → List (List ℤ) → ℕ → List Item
  reading options w below = planes_reading book options w depths weights q (λ b. 5) below

  -- only the options of these planes matter
  reading_same : (o p : ℕ → ℕ → List ℕ) (w : List (List ℤ)) (below : ℕ) → ((b : ℕ) → b < below → o b ≡ p b) → reading o w below ≡ reading p w below
  reading_same o p w zero same = refl
  reading_same o p w (suc b) same =
      λ i. plane_reading book (same b (omega arith) i) (record { blocks = w; depths = depths; weights = weights; number = b; q = q }) 5 ++
      reading_same o p w b (λ c lt. same c (omega (arith, lt))) i

  abbrev Back : ℕ → List (List ℤ) → Type 0
  Back b blocks = length depths ≡ length blocks → AreBegun weights q b depths blocks → (items : List Item) (w : List (List ℤ)) → ArePossible items →
      Follows (planes_script book weights q depths (λ b. 5) b blocks) items w → WrittenBack book weights q depths b blocks items w

  pub planes_back : (below : ℕ) (blocks : List (List ℤ)) → length depths ≡ length blocks → AreBegun weights q below depths blocks → (items : List Item)
      (w : List (List ℤ)) → ArePossible items → Follows (planes_script book weights q depths (λ b. 5) below blocks) items w →
      WrittenBack book weights q depths below blocks items w
  planes_back zero blocks long begun items w are f =
      let d = done_none (List (List ℤ)) blocks w items f in
      subst (WrittenBack book weights q depths zero blocks items) d.1 (record {
        options = λ b g. 0 ∷ 0 ∷ 0 ∷ [];
        chosen = λ b g n low high. subst (λ x. x < n) (sym (no_option n low high)) (omega (arith, low));
        is = d.0;
        long = refl;
        begun = begun;
        shows = λ r p ac. (once (magnitude (get_or blocks r []) p), shown (get_or blocks r []) p);
        dcs = λ r c low. refl;
      })
    where
      no_option : (n : ℕ) → 2 ≤ n → n ≤ 4 → chosen_of (0 ∷ 0 ∷ 0 ∷ []) n ≡ 0
      no_option zero low high = absurd (omega (arith, low))
      no_option (suc zero) low high = absurd (omega (arith, low))
      no_option (suc (suc zero)) low high = refl
      no_option (suc (suc (suc zero))) low high = refl
      no_option (suc (suc (suc (suc zero)))) low high = refl
      no_option (suc (suc (suc (suc (suc n))))) low high = absurd (omega (arith, high))

      once : (m : ℕ) → m ≡ m / 2 ^ 0 * 2 ^ 0
      once m = omega arith

      shown : (v : List ℤ) (p : ℕ) → negative (get_or v p (pos 0)) ≡ (significant v 0 p && negative (get_or v p (pos 0)))
      shown v p = grind (arith, nat_tests, significant-is)
  planes_back (suc b) blocks long begun items w are f =
      let terms : Terms = record { book = book; weights = weights; plane = b; q = q } in
      let s = follows_split (planes_script book weights q depths (λ b. 5) b) (around (blocks_with b blocks) (plane_script terms depths blocks 5)) items w f in
      let p = possible_parts s.first s.rest (subst ArePossible s.both are) in
      let a = around_follows (blocks_with b blocks) (plane_script terms depths blocks 5) s.first s.value s.follows in
      one_plane b blocks long (subst (λ n. AreBegun weights q n depths blocks) (let e : suc b ≡ b + 1 = omega arith in e) begun) items w s.first s.rest s.both
      p.0 p.1 a.0 a.2 (subst (λ l. Follows (planes_script book weights q depths (λ b. 5) b l) s.rest w) (sym a.1) s.then) (planes_back b)
    where
      one_plane : (b : ℕ) (blocks : List (List ℤ)) → length depths ≡ length blocks → AreBegun weights q (b + 1) depths blocks → (items : List Item)
          (w : List (List ℤ)) (first rest : List Item) → items ≡ first ++ rest → ArePossible first → ArePossible rest → (u : PlaneState) →
          Follows (plane_script (record { book = book; weights = weights; plane = b; q = q }) depths blocks 5) first u →
          Follows (planes_script book weights q depths (λ b. 5) b (blocks_with b blocks u)) rest w → ((now : List (List ℤ)) → Back b now) →
          WrittenBack book weights q depths (suc b) blocks items w
      one_plane b blocks long begun items w first rest all good fine u follows next back =
          let terms : Terms = record { book = book; weights = weights; plane = b; q = q } in
          let left = may_end true (λ u. (true ≡ true → AllOptions u) × AllFair terms depths blocks u) (plane_script terms depths blocks 5)
          (plane_may true terms is_sound depths blocks 5) first u good follows in
          let has = left.0 refl in
          let fair = left.1 in
          let now = blocks_with b blocks u in
          let size = long_now b blocks long begun u has in
          let ih = back now (long ∙ sym size) (all_begun b blocks long begun u has fair) rest w fine next in
          let long_w : length w ≡ length blocks = ih.long ∙ size in
          let here = options b blocks long begun u has fair w long_w ih.begun ih.shows ih.dcs in
          let picked : ℕ → ℕ → List ℕ = λ c. if c == b then here else ih.options c in
          record {
            options = picked;
            chosen = λ c g.
                by_place g (c == b) here (ih.options c) (options_chosen b blocks long begun u has fair w long_w ih.begun ih.shows ih.dcs g) (ih.chosen c g);
            is =
                all ∙ (λ i. items_back b blocks long begun u has fair w long_w ih.begun ih.shows ih.dcs first good follows i ++ ih.is i) ∙
                (λ i. plane_reading book (sym (self b here (ih.options b)) i)
                (record { blocks = w; depths = depths; weights = weights; number = b; q = q }) 5 ++ reading ih.options w b) ∙
                ap (λ l. plane_reading book (picked b) (record { blocks = w; depths = depths; weights = weights; number = b; q = q }) 5 ++ l)
                (reading_same ih.options picked w b (λ c lt. sym (other c lt here (ih.options c))));
            long = long_w;
            begun = ih.begun;
            shows = subst (λ n. (r : ℕ) → Shows n (get_or blocks r []) (get_or w r [])) (let e : b + 1 ≡ suc b = omega arith in e)
                (shows_above b blocks long begun u has fair w long_w ih.begun ih.shows ih.dcs);
            dcs = subst (λ n. (r c : ℕ) → low_bits weights q n ≤ c → int_shr (dc_in w r) c ≡ int_shr (dc_in blocks r) c)
                (let e : b + 1 ≡ suc b = omega arith in e) (dcs_above b blocks long begun u has fair w long_w ih.begun ih.shows ih.dcs);
          }
        where
          by_place : (g : ℕ) (x : Bool) (f h : ℕ → List ℕ) → AreChosen (f g) → AreChosen (h g) → AreChosen ((if x then f else h) g)
          by_place g true f h p q = p
          by_place g false f h p q = q

          self : (b : ℕ) (f h : ℕ → List ℕ) → (if b == b then f else h) ≡ f
          self b f h = let e : (b == b) ≡ true = grind (arith, nat_tests) in ap (λ (x : Bool). if x then f else h) e

          other : (c : ℕ) → c < b → (f h : ℕ → List ℕ) → (if c == b then f else h) ≡ h
          other c lt f h = let e : (c == b) ≡ false = grind (arith, nat_tests) in ap (λ (x : Bool). if x then f else h) e

pub planes_are_back : PlanesBack
planes_are_back book is_sound weights q depths below blocks long begun items w are f =
    planes_back book is_sound weights q depths below blocks long begun items w are f
