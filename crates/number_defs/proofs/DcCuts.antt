-- What is given within the DC part is its numbers, cut there.
use Rattle.std.proofs.Common.{◌≡◌, ℕ, zero, suc, ◌+◌, ◌-◌, ◌*◌, ◌^◌, ◌≤◌, ◌<◌, ◌==◌, ◌||◌, min, nat_lt, Bool, true, false, if◌then◌else◌, List, [], ◌∷◌}
use Rattle.std.proofs.Common.{◌++◌, length, map, refl, ap, sym, ◌∙◌, subst, arith, get_or, append-nil, append_assoc, length-append, ℤ, pos, ◌+ℤ◌, ◌*ℤ◌}
use Rattle.std.proofs.Common.{neg_ℤ}
use Rattle.std.specs.Int.{int_shr}
use Rattle.std.proofs.lemmas.Bool.Decides.{nat_tests}
use Rattle.std.proofs.lemmas.List.{get_or_append_left}
use Rattle.item_defs.specs.Items.{Item}
use Rattle.number_defs.specs.Ranges.{IsInRange, number_at}
use Rattle.number_defs.specs.Gaggles.{Kind, uncoded, gaggle_count, first_place}
use Rattle.number_defs.specs.DcPart.{dc_q, dc_bits, dc_planes, dc_kind, dc_bit, high_items, planes_before, dc_items}
use Rattle.number_defs.specs.Laws.{DcsFit}
use Rattle.number_defs.proofs.Equations.{dc_items-is, planes_before-more}
use Rattle.item_defs.specs.Scripts.{Script, done, then_ask, in_turn, around}
use Rattle.item_defs.specs.Following.{Follows}
use Rattle.item_defs.proofs.FollowLaws.{follows_split, around_follows}
use Rattle.item_defs.proofs.ScriptGives.{Gives, Always, gives_always, gives_weaker, gives_then, gives_around}
use Rattle.number_defs.specs.NumberScript.{option_script, zeros_script, number_script, differences_script, lead_script, gaggle_script, numbers_script}
use Rattle.number_defs.specs.DcScript.{with_dc, dc_bits_script, dcs_of_heights, high_script, dc_planes_script, dc_script}
use Rattle.number_defs.specs.Cuts.{parts_of, AreDcsCut}
use Rattle.number_defs.proofs.DcLaws.{turn, elsewhere, plane, Parts, last_turn, plane_written, planes_written, high_written}

-- ---- numbers: each list that is given is the first part of the one at the end

abbrev IsStart : List ℕ → List ℕ → Type 0
IsStart g a = (more : List ℕ) × (a ≡ g ++ more)

start_then : (g h a : List ℕ) → IsStart g h → IsStart h a → IsStart g a
start_then g h a p q = (p.0 ++ q.0, q.1 ∙ ap (λ l. l ++ q.0) p.1 ∙ append_assoc g p.0 q.0)

-- a script that adds numbers to these
abbrev Extends : Script (List ℕ) (List ℕ) → List ℕ → Type 0
Extends s h = (items : List Item) (a : List ℕ) → Follows s items a → IsStart h a × Gives s items (λ g. IsStart g a)

extends_done : (h : List ℕ) → Extends (done h) h
extends_done h [] a f = (([], sym f ∙ sym (append-nil h)), tt)
extends_done h (i ∷ is) a f = absurd f

extends_then : (s : Script (List ℕ) (List ℕ)) (next : List ℕ → Script (List ℕ) (List ℕ)) (h : List ℕ) → Extends s h → ((e : List ℕ) → Extends (next e) e) →
    Extends (then_ask s next) h
extends_then s next h p more items a f =
    let w = follows_split next s items a f in
    let x = p w.first w.value w.follows in
    let y = more w.value w.rest a w.then in (
      start_then h w.value a x.0 y.0,
      subst (λ l. Gives (then_ask s next) l (λ g. IsStart g a)) (sym w.both)
          (gives_then (λ g. IsStart g a) s next w.first w.rest w.value w.follows
          (gives_weaker (λ g. IsStart g w.value) (λ g. IsStart g a) (λ g z. start_then g w.value a z y.0) s w.first x.1) y.1),
    )

-- parts that only give these numbers
extends_after : {A : Type 0} (s : Script (List ℕ) A) (next : A → Script (List ℕ) (List ℕ)) (h : List ℕ) → Always s (λ g. g ≡ h) →
    ((e : A) → Extends (next e) h) → Extends (then_ask s next) h
extends_after s next h p more items a f =
    let w = follows_split next s items a f in
    let y = more w.value w.rest a w.then in (
      y.0,
      subst (λ l. Gives (then_ask s next) l (λ g. IsStart g a)) (sym w.both)
          (gives_then (λ g. IsStart g a) s next w.first w.rest w.value w.follows
          (gives_weaker (λ g. g ≡ h) (λ g. IsStart g a) (λ g z. subst (λ l. IsStart l a) (sym z) y.0) s w.first (gives_always (λ g. g ≡ h) s p w.first)) y.1),
    )

extends_turns : (item : ℕ → List ℕ → Script (List ℕ) (List ℕ)) (j n : ℕ) → ((i : ℕ) → j ≤ i → (h : List ℕ) → Extends (item i h) h) → (h : List ℕ) →
    Extends (in_turn item j n h) h
extends_turns item j zero each h = extends_done h
extends_turns item j (suc n) each h =
    extends_then (item j h) (in_turn item (suc j) n) h (each j (omega arith) h)
    (λ e. extends_turns item (suc j) n (λ i low l. each i (omega (arith, low)) l) e)

module _ (kind : Kind) where
  number_extends : (option z : ℕ) (h : List ℕ) → Extends (number_script kind option z h) h
  number_extends option z h [] a f = absurd f
  number_extends option z h (i ∷ []) a f = ((_, sym f.1), ((_, sym f.1), tt))
  number_extends option z h (i ∷ j ∷ is) a f = absurd f.1

  zeros_always : (h : List ℕ) (k n : ℕ) (zs : List ℕ) → Always (zeros_script h kind.bits k n zs) (λ g. g ≡ h)
  zeros_always h k zero zs = tt
  zeros_always h k (suc n) zs = (refl, λ z. zeros_always h k n (zs ++ z ∷ []))

  differences_extend : (option n : ℕ) (h : List ℕ) → Extends (differences_script kind option n h) h
  differences_extend option n h = by ((option == 0) || (option == uncoded kind.bits))
    where
      by : (x : Bool) → Extends (if x then in_turn (λ i. number_script kind option 0) 0 n h else
          then_ask (zeros_script h kind.bits option n []) (λ zeros. in_turn (λ i. number_script kind option (get_or zeros i 0)) 0 n h)) h
      by true = extends_turns (λ i. number_script kind option 0) 0 n (λ i low l. number_extends option 0 l) h
      by false =
          extends_after (zeros_script h kind.bits option n []) (λ zeros. in_turn (λ i. number_script kind option (get_or zeros i 0)) 0 n h) h
          (zeros_always h option n []) (λ zeros. extends_turns (λ i. number_script kind option (get_or zeros i 0)) 0 n
          (λ i low l. number_extends option (get_or zeros i 0) l) h)

  first_extends : Extends (lead_script kind 0 []) []
  first_extends [] a f = absurd f
  first_extends (i ∷ []) a f = ((_, sym f.1), ((a, refl), tt))
  first_extends (i ∷ j ∷ is) a f = absurd f.1

  gaggle_extends : (count g : ℕ) (h : List ℕ) → Extends (lead_script kind g h) h → Extends (gaggle_script kind count g h) h
  gaggle_extends count g h lead =
      extends_after (option_script h kind.bits) _ h (refl, λ n. tt)
      (λ option. extends_then (lead_script kind g h) (differences_script kind option (min count (16 * g + 16) - first_place g)) h lead
      (λ e. differences_extend option (min count (16 * g + 16) - first_place g) e))

  pub numbers_extend : (count : ℕ) → Extends (numbers_script kind count) []
  numbers_extend count = by (gaggle_count count)
    where
      by : (n : ℕ) → Extends (in_turn (gaggle_script kind count) 0 n []) []
      by zero = extends_done []
      by (suc n) =
          extends_then (gaggle_script kind count 0 []) (in_turn (gaggle_script kind count) 1 n) [] (gaggle_extends count 0 [] first_extends)
          (λ e. extends_turns (gaggle_script kind count) 1 n (λ i low h. later i low h) e)
        where
          later : (i : ℕ) → 1 ≤ i → (h : List ℕ) → Extends (gaggle_script kind count i h) h
          later zero low h = absurd (omega (arith, low))
          later (suc i) low h = gaggle_extends count (suc i) h (extends_done h)

-- ---- one bit of each block

-- the first blocks have what is at the end, and the others what was at the start
abbrev Between : (start end d : ℕ → ℤ) → Type 0
Between start end d = (c : ℕ) × ((r : ℕ) → d r ≡ (if nat_lt r c then end r else start r))

module _ (weight : ℤ) (start : ℕ → ℤ) where
  bits_kept : (j n : ℕ) (old : ℕ → ℤ) (items : List Item) (new : ℕ → ℤ) → Follows (in_turn (turn weight) j n old) items new → (r : ℕ) → r < j → new r ≡ old r
  bits_kept j zero old [] new f r lt = λ t. sym f t r
  bits_kept j zero old (i ∷ is) new f r lt = absurd f
  bits_kept j (suc n) old [] new f r lt = absurd f
  bits_kept j (suc n) old (i ∷ is) new f r lt =
      bits_kept (suc j) n (with_dc old j (old j +ℤ (pos i.said *ℤ weight))) is new f.1 r (omega (arith, lt)) ∙
      elsewhere weight old j r _ (λ e. absurd (omega (arith, e, lt)))

  bits_give : (j n : ℕ) (old : ℕ → ℤ) (items : List Item) (new : ℕ → ℤ) → Follows (in_turn (turn weight) j n old) items new →
      ((r : ℕ) → j ≤ r → old r ≡ start r) → Gives (in_turn (turn weight) j n old) items (Between start new)
  bits_give j zero old items new f same = tt
  bits_give j (suc n) old [] new f same = absurd f
  bits_give j (suc n) old (i ∷ is) new f same = (
    (j, λ r. here r (nat_lt r j) refl),
    bits_give (suc j) n (with_dc old j (old j +ℤ (pos i.said *ℤ weight))) is new f.1
        (λ r le. elsewhere weight old j r _ (λ e. absurd (omega (arith, e, le))) ∙ same r (omega (arith, le))),
  )
    where
      here : (r : ℕ) (x : Bool) → nat_lt r j ≡ x → old r ≡ (if x then new r else start r)
      here r true e = sym (bits_kept j (suc n) old (i ∷ is) new f r (let lt : r < j = grind (arith, nat_tests) in lt))
      here r false e = same r (let ge : j ≤ r = grind (arith, nat_tests) in ge)

-- ---- the DC part

module _ (N q planes count : ℕ) (xs : List ℤ) (long : length xs ≡ count) where
  abbrev Cut : (ℕ → ℤ) → Type 0
  Cut = AreDcsCut q planes count xs

  between_parts : (start end d : ℕ → ℤ) (parts : ℕ) → parts ≤ planes → ((r : ℕ) → r < count → start r ≡ parts_of q parts (get_or xs r (pos 0))) →
      ((r : ℕ) → r < count → end r ≡ parts_of q (suc parts) (get_or xs r (pos 0))) → Between start end d → Cut d
  between_parts start end d parts le first last w = record {
    spot = record { parts = parts; blocks = w.0 };
    inside = le;
    is = λ r lt. w.1 r ∙ (λ i. if nat_lt r w.0 then last r lt i else first r lt i) ∙ pick (nat_lt r w.0) (get_or xs r (pos 0));
  }
    where
      pick : (x : Bool) (z : ℤ) → (if x then parts_of q (suc parts) z else parts_of q parts z) ≡ parts_of q (if x then suc parts else parts) z
      pick true z = refl
      pick false z = refl

  high_give : ((r : ℕ) → r < count → IsInRange true N (int_shr (get_or xs r (pos 0)) q)) → (o : ℕ → ℕ) →
      Gives (high_script N q count) (high_items N q xs o) Cut
  high_give fits o =
      let w = high_written N q count xs long fits o in
      gives_weaker (Between (λ r. pos 0) w.end) Cut (λ d z. between_parts (λ r. pos 0) w.end d 0 (omega arith) (λ r lt. refl) (λ r lt. w.is r lt) z)
      (high_script N q count) (high_items N q xs o) (by (N == 1) (high_items N q xs o) w.end w.follows)
    where
      keeps : (g hs : List ℕ) (e : ℕ → ℤ) → dcs_of_heights N q hs ≡ e → IsStart g hs → Between (λ r. pos 0) e (dcs_of_heights N q g)
      keeps g hs e is p = (length g, λ r. here r (nat_lt r (length g)) refl)
        where
          here : (r : ℕ) (x : Bool) → nat_lt r (length g) ≡ x →
              (if x then number_at true N (get_or g r 0) *ℤ pos (2 ^ q) else pos 0) ≡ (if x then e r else pos 0)
          here r true f =
              let lt : r < length g = grind (arith, nat_tests) in
              let size = length-append g p.0 in
              let size_hs : length hs ≡ length (g ++ p.0) = ap length p.1 in
              let inside : nat_lt r (length hs) ≡ true = (let small : r < length hs = omega (arith, lt, size, size_hs) in grind (arith, nat_tests)) in
              sym ((λ i. sym is i r) ∙ ap (λ (y : Bool). if y then number_at true N (get_or hs r 0) *ℤ pos (2 ^ q) else pos 0) inside ∙
              ap (λ h. number_at true N h *ℤ pos (2 ^ q)) (ap (λ l. get_or l r 0) p.1 ∙ get_or_append_left g p.0 0 r lt))
          here r false f = refl

      by : (t : Bool) (items : List Item) (e : ℕ → ℤ) →
          Follows (if t then dc_bits_script (neg_ℤ (pos (2 ^ q))) count (λ r. pos 0) else around (dcs_of_heights N q) (numbers_script (dc_kind N) count))
          items e →
          Gives (if t then dc_bits_script (neg_ℤ (pos (2 ^ q))) count (λ r. pos 0) else around (dcs_of_heights N q) (numbers_script (dc_kind N) count))
          items (Between (λ r. pos 0) e)
      by true items e f = bits_give (neg_ℤ (pos (2 ^ q))) (λ r. pos 0) 0 count (λ r. pos 0) items e f (λ r le. refl)
      by false items e f =
          let a = around_follows (dcs_of_heights N q) (numbers_script (dc_kind N) count) items e f in
          gives_around (λ g. IsStart g a.0) (Between (λ r. pos 0) e) (dcs_of_heights N q) (λ g z. keeps g a.0 e a.1 z) (numbers_script (dc_kind N) count) items
          (numbers_extend (dc_kind N) count items a.0 a.2).1

  planes_give : (n : ℕ) (dcs : ℕ → ℤ) → n ≤ q → n ≤ planes → Parts N q count xs 0 dcs → Gives (in_turn (plane N q count) 0 n dcs) (planes_before q xs n) Cut
  planes_give zero dcs le few parts = tt
  planes_give (suc n) dcs le few parts =
      let w = planes_written N q count xs long n dcs (omega (arith, le)) parts in
      let x = plane_written N q count xs long n w.end le w.is in
      subst (λ l. Gives (in_turn (plane N q count) 0 (suc n) dcs) l Cut) (sym (planes_before-more q xs n))
      (subst (λ s. Gives s (planes_before q xs n ++ map (dc_bit (q - suc n)) xs) Cut) (sym (last_turn N q count n dcs))
      (gives_then Cut (in_turn (plane N q count) 0 n dcs) (plane N q count n) (planes_before q xs n) (map (dc_bit (q - suc n)) xs) w.end w.follows
      (planes_give n dcs (omega (arith, le)) (omega (arith, few)) parts)
      (gives_weaker (Between w.end x.end) Cut (λ d z. between_parts w.end x.end d (suc n) few w.is x.is z)
      (plane N q count n w.end) (map (dc_bit (q - suc n)) xs)
      (bits_give (pos (2 ^ (q - suc n))) w.end 0 count w.end (map (dc_bit (q - suc n)) xs) x.end x.follows (λ r le. refl)))))

-- what is given within a DC part
pub dc_gives : (depth_dc depth_ac shift count : ℕ) (dcs : List ℤ) (o : ℕ → ℕ) → length dcs ≡ count → DcsFit depth_dc depth_ac shift dcs →
    Gives (dc_script depth_dc depth_ac shift count) (dc_items depth_dc depth_ac shift dcs o)
    (AreDcsCut (dc_q depth_dc depth_ac shift) (dc_planes depth_dc depth_ac shift) count dcs)
dc_gives depth_dc depth_ac shift count dcs o long fits =
    let N = dc_bits depth_dc depth_ac shift in
    let q = dc_q depth_dc depth_ac shift in
    let n = dc_planes depth_dc depth_ac shift in
    let inside : (r : ℕ) → r < count → IsInRange true N (int_shr (get_or dcs r (pos 0)) q) = λ r lt. fits r (omega (arith, lt, long)) in
    let w = high_written N q count dcs long inside o in
    rw dc_items-is
    (gives_then (AreDcsCut q n count dcs) (high_script N q count) (dc_planes_script q count n) (high_items N q dcs o) (planes_before q dcs n) w.end w.follows
    (high_give N q n count dcs long inside o) (planes_give N q n count dcs long n w.end (omega arith) (omega arith) w.is))
