-- The end of planes with a stop is their values, cut there.
use Rattle.std.proofs.Common.{◌≡◌, ◌⊎◌, ℕ, zero, suc, ◌+◌, ◌<◌, ◌==◌, ◌||◌, Bool, false, if◌then◌else◌, List, [], length, refl, ap, sym}
use Rattle.std.proofs.Common.{◌∙◌, subst, arith, ℤ, pos, inl, inr}
use Rattle.std.specs.Prelude.{◌-ℤ◌, ◌+ℤ◌}
use Rattle.std.specs.Int.RustNames.{unsigned_abs}
use Rattle.std.proofs.lemmas.Bool.{cases_lt}
use Rattle.std.proofs.lemmas.Bool.Decides.{nat_tests}
use Rattle.std.proofs.lemmas.List.{ext_get_or}
use lib.ListN.{get_or}
use Rattle.item_defs.specs.Items.{Item}
use Rattle.base_122.specs.declared.book.Book.{Book}
use Rattle.plane_defs.specs.Entries.{negative}
use Rattle.plane_defs.proofs.SpanLists.{length-map-span, get_or-map-span}
use Rattle.item_defs.specs.Scripts.{Script, then_ask, around}
use Rattle.item_defs.specs.Following.{Follows}
use Rattle.item_defs.proofs.FollowLaws.{follows_around}
use Rattle.item_defs.proofs.ScriptGives.{follows_rest}
use Rattle.plane_defs.specs.Written.{AreChosen, planes_reading, Shows, low_bits, ShowsDc, AreSendable, Stops}
use Rattle.plane_defs.specs.Cuts.{after_stages, cut_block, after_all, cut_blocks, AreCut}
use Rattle.plane_defs.specs.StageScripts.{Terms}
use Rattle.plane_defs.specs.PlaneScript.{PlaneState, nothing_yet, plane_script, number_with, block_with, blocks_with, planes_script}
use Rattle.plane_defs.proofs.PlaneSent as sent
use Rattle.plane_defs.proofs.PlanesSent as planes
use Rattle.plane_defs.proofs.CutPlanes as cuts
use Rattle.plane_defs.proofs.CutBlocks.{map_same}
use Rattle.plane_defs.proofs.WordsBack.{done_none}

-- a block of 64 numbers in a plane of which nothing was read
block_kept : (b : ℕ) (block : List ℤ) → length block ≡ 64 → (s : PlaneState) (r : ℕ) → s ≡ nothing_yet → block_with b block (s.blocks r) ≡ block
block_kept b block long s r e =
    ap (λ (u : PlaneState). block_with b block (u.blocks r)) e ∙
    ext_get_or (pos 0) (block_with b block (nothing_yet.blocks r)) block (length-map-span (number_with b block (nothing_yet.blocks r)) 64 ∙ sym long)
    (λ p lt. let size = length-map-span (number_with b block (nothing_yet.blocks r)) 64 in
    get_or-map-span (number_with b block (nothing_yet.blocks r)) 64 p (pos 0) (omega (arith, lt, size)) ∙ by p (p == 0) refl)
  where
    by : (p : ℕ) (x : Bool) → (p == 0) ≡ x → (if x then get_or block 0 (pos 0) +ℤ pos 0 else
        if negative (get_or block p (pos 0)) || false then pos 0 -ℤ pos (unsigned_abs (get_or block p (pos 0)) + 0) else
        pos (unsigned_abs (get_or block p (pos 0)) + 0)) ≡ get_or block p (pos 0)
    by p x h1 = grind (arith, nat_tests)

module _ (book : Book) (options : ℕ → ℕ → List ℕ) (chosen : (b g : ℕ) → AreChosen (options b g)) (values : List (List ℤ)) (depths weights : List ℕ)
    (sendable : AreSendable values depths weights) (q : ℕ) (stages : ℕ → ℕ) (stops : Stops stages) where
  abbrev Related : ℕ → List (List ℤ) → Type 0
  Related = planes.Related book options chosen values depths weights sendable q stages stops

  abbrev Long : List (List ℤ) → Type 0
  Long blocks = (r : ℕ) → r < length blocks → length (get_or blocks r []) ≡ 64

  abbrev Planes : ℕ → List (List ℤ) → Script (List (List ℤ)) (List (List ℤ))
  Planes = planes_script book weights q depths stages

  kept_all : (b : ℕ) (blocks : List (List ℤ)) → Long blocks → blocks_with b blocks nothing_yet ≡ blocks
  kept_all b blocks long =
      ext_get_or [] (blocks_with b blocks nothing_yet) blocks (length-map-span (λ r. block_with b (get_or blocks r []) (nothing_yet.blocks r)) (length blocks))
      (λ r lt. let e = length-map-span (λ r. block_with b (get_or blocks r []) (nothing_yet.blocks r)) (length blocks) in
      let small : r < length blocks = omega (arith, lt, e) in
      get_or-map-span (λ i. block_with b (get_or blocks i []) (nothing_yet.blocks i)) (length blocks) r [] small ∙
      block_kept b (get_or blocks r []) (long r small) nothing_yet r refl)

  -- planes of which nothing is sent leave the blocks
  pub silent_end : (below : ℕ) → ((c : ℕ) → c < below → stages c ≡ 0) → (blocks : List (List ℤ)) → Long blocks → (items : List Item) (w : List (List ℤ)) →
      Follows (Planes below blocks) items w → w ≡ blocks
  silent_end zero none blocks long items w f = sym (done_none (List (List ℤ)) blocks w items f).1
  silent_end (suc b) none blocks long items w f =
      let t : Terms = record { book = book; weights = weights; plane = b; q = q } in
      let e = kept_all b blocks long in
      silent_end b (λ c lt. none c (omega (arith, lt))) blocks long items w
      (subst (λ l. Follows (Planes b l) items w) e
      (subst (λ n. Follows (then_ask (around (blocks_with b blocks) (plane_script t depths blocks n)) (Planes b)) items w) (none b (omega arith)) f))

  -- what one plane leaves, and what follows it
  record Past (b : ℕ) (w : List (List ℤ)) : Type 0 where
    now : List (List ℤ)
    size : length now ≡ length values
    cut : now ≡ cut_blocks weights q values b (after_all (stages b))
    long : Long now
    rest : Follows (Planes b now) (planes_reading book options values depths weights q stages b) w
    next : stages b ≡ 5 → Related b now

  past_plane : (b : ℕ) (blocks : List (List ℤ)) → length blocks ≡ length values → Related (suc b) blocks → (w : List (List ℤ)) →
      Follows (Planes (suc b) blocks) (planes_reading book options values depths weights q stages (suc b)) w → Past b w
  past_plane b blocks long shown w f =
      let e : suc b ≡ b + 1 = omega arith in
      let above : Related (b + 1) blocks = λ r. subst (λ n. Shows n (get_or blocks r []) (get_or values r []) ×
      ShowsDc (low_bits weights q n) (get_or blocks r []) (get_or values r [])) e (shown r) in
      let t : Terms = record { book = book; weights = weights; plane = b; q = q } in
      let same = planes.same book options chosen values depths weights sendable q stages stops b blocks long above in
      let none = planes.none_of book options chosen values depths weights sendable q stages stops b in
      let x = sent.plane_sent (options b) (chosen b) t depths blocks values same sendable.multiples none (stages b) (stops b).0 in
      let now = blocks_with b blocks x.end in
      record {
        now = now;
        size = length-map-span (λ r. block_with b (get_or blocks r []) (x.end.blocks r)) (length blocks) ∙ long;
        cut = cut_here x.end (λ r lt. cuts.at_stage (options b) (chosen b) t depths blocks values same sendable.multiples none (λ r. (above r).0)
            (λ r. (above r).1) (stages b) r (stops b).0 (x.end.blocks r) (x.is r (let e = sendable.long in omega (arith, e, lt))));
        long = λ r lt. let g = length-map-span (λ r. block_with b (get_or blocks r []) (x.end.blocks r)) (length blocks) in
            ap length (get_or-map-span (λ i. block_with b (get_or blocks i []) (x.end.blocks i)) (length blocks) r [] (omega (arith, lt, g))) ∙
            length-map-span (number_with b (get_or blocks r []) (x.end.blocks r)) 64;
        rest = follows_rest (around (blocks_with b blocks) (plane_script t depths blocks (stages b))) (Planes b) _ _ now w
            (follows_around (blocks_with b blocks) (plane_script t depths blocks (stages b)) _ x.end x.follows) f;
        next = λ five. planes.next book options chosen values depths weights sendable q stages stops b blocks long above x.end x.is five;
      }
    where
      cut_here : (u : PlaneState) →
          ((r : ℕ) → r < length values →
          block_with b (get_or blocks r []) (u.blocks r) ≡ cut_block weights q (get_or values r []) b (after_stages (stages b))) →
          blocks_with b blocks u ≡ cut_blocks weights q values b (after_all (stages b))
      cut_here u each = grind (arith, nat_tests, map_same)

  -- the planes with a stop end with the values, cut there
  pub planes_stop : (stop : ℕ) → ((b : ℕ) → stop < b → stages b ≡ 5) → ((b : ℕ) → b < stop → stages b ≡ 0) → (below : ℕ) → stop < below →
      (blocks : List (List ℤ)) → length blocks ≡ length values → Related below blocks → (w : List (List ℤ)) →
      Follows (Planes below blocks) (planes_reading book options values depths weights q stages below) w →
      w ≡ cut_blocks weights q values stop (after_all (stages stop))
  planes_stop stop five none zero lt blocks long shown w f = absurd (omega (arith, lt))
  planes_stop stop five none (suc b) lt blocks long shown w f =
      let x = past_plane b blocks long shown w f in
      elim (cases_lt stop b) [
        | inl high ↦ planes_stop stop five none b high x.now x.size (x.next (five b high)) w x.rest
        | inr low ↦
            let here : b ≡ stop = omega (arith, lt, low) in
            silent_end b (λ c small. none c (omega (arith, small, here))) x.now x.long (planes_reading book options values depths weights q stages b) w x.rest ∙
            x.cut ∙ ap (λ c. cut_blocks weights q values c (after_all (stages c))) here
      ]

  pub planes_end : (below : ℕ) (blocks : List (List ℤ)) → length blocks ≡ length values → Related below blocks → (w : List (List ℤ)) →
      Follows (Planes below blocks) (planes_reading book options values depths weights q stages below) w →
      ((b : ℕ) → b < below → stages b ≡ 5) ⊎ AreCut weights q values below w
  planes_end zero blocks long shown w f = inl (λ b lt. absurd (omega (arith, lt)))
  planes_end (suc b) blocks long shown w f =
      let x = past_plane b blocks long shown w f in
      by x (λ five. planes_end b x.now x.size (x.next five) w x.rest) (stops b).1
    where
      by : Past b w → (stages b ≡ 5 → ((c : ℕ) → c < b → stages c ≡ 5) ⊎ AreCut weights q values b w) →
          ((stages b ≡ 5) ⊎ ((c : ℕ) → c < b → stages c ≡ 0)) → ((c : ℕ) → c < suc b → stages c ≡ 5) ⊎ AreCut weights q values (suc b) w
      by x more (inl five) = elim (more five) [
        | inl all ↦ inl (λ c lt. elim (cases_lt c b) [
          | inl low ↦ all c low
          | inr high ↦ (let here : b ≡ c = omega (arith, lt, high) in subst (λ j. stages j ≡ 5) here five)
        ])
        | inr c ↦ inr (cuts.wider book options chosen values depths weights sendable q stages stops b (suc b) (omega arith) w c)
      ]
      by x more (inr zeros) = inr (record {
        plane = b;
        inside = omega arith;
        spot = after_all (stages b);
        is = silent_end b zeros x.now x.long (planes_reading book options values depths weights q stages b) w x.rest ∙ x.cut;
      })
