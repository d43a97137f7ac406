-- The bits of positions that are dealt out from a window, four positions at a time.
use Rattle.std.proofs.Common.{◌≡◌, ℕ, zero, suc, ◌+◌, ◌-◌, ◌*◌, ◌/◌, ◌%◌, ◌<◌, ◌≤◌, ◌^◌, ◌==◌, ◌&&◌, ◌||◌, if◌then◌else◌, cond, Bool, true, false, [], ◌∷◌}
use Rattle.std.proofs.Common.{◌++◌, length, map, filter, refl, ap, sym, ◌∙◌, subst, arith, Some, Ok, count_ones}
use Rattle.std.proofs.Math.Bool.{or-false}
use Rattle.std.proofs.lemmas.Bool.Decides.{nat_tests}
use Rattle.std.proofs.lemmas.List.{length-map}
use Rattle.item_defs.specs.Bits.{bit, value_of}
use Rattle.item_defs.proofs.NumberBits.{bits_none, length-bits_of, value_below}
use Rattle.plane_defs.specs.Spans.{span}
use Rattle.plane_defs.proofs.SpanLists.{map-filter-span-suc, map-filter-span-none}
use Rattle.block_masks.specs.declared.gaggle.Gaggle.{Gaggle}
use Rattle.block_masks.specs.Masks.{Shows}
use Rattle.block_masks.specs.Places.{inside}
use Rattle.block_masks.specs.Picks.{AreSpread}
use Rattle.block_masks.proofs.LaneMasks.{shows_same}
use Rattle.bit_pipe.specs.Sources.{SourceOf}
use Rattle.bit_pipe.specs.Windows.{first_of}
use Rattle.item_defs.specs.Scripts.{done, in_turn, run}
use Rattle.bit_pipe.specs.ScriptSources.{Gets, GoesOn}
use Rattle.bit_pipe.proofs.ScriptReading.{gets_goes_on, goes_on_then}
use Rattle.plane_defs.specs.States.{State}
use Rattle.plane_defs.specs.StageScripts.{bit_script}
use Rattle.plane_reader.specs.declared.found.Found.{Found}
use Rattle.plane_reader.specs.Takes.{AreIn, IsState}
use Rattle.plane_reader.specs.Held.{Point, Moves, Stays}
use Rattle.plane_reader.specs.HeldTakes.{HeldState, marked_script}
use Rattle.plane_reader.proofs.HeldReads.{moves_then, reads_gets}
use Rattle.plane_reader.proofs.PlaceReads.{due_count}
use Rattle.plane_reader.proofs.SignReads.{bit_read, with_bit, same_bits}
use Rattle.plane_reader.proofs.HeldTypes.{signs_word}
use Rattle.plane_reader.proofs.WindowParts.{window_parts}

-- a state with these bits and raw bits too
pub record Grown (s t : State) (new given : ℕ → Bool) : Type 0 where
  pub options : t.options ≡ s.options
  pub bits : (q : ℕ) → t.bits q ≡ (s.bits q || new q)
  pub raw : (q : ℕ) → t.raw q ≡ (s.raw q || given q)
  pub minus : t.minus ≡ s.minus

module _ (g f : ℕ → Bool) where
  -- one position
  record Read (p : ℕ) (s : State) : Type 0 where
    to : State
    grown : Grown s to (λ q. (q == p) && (g q && f q)) (λ q. (q == p) && g q)
    gets : Gets (marked_script g p s) (cond (g p) (f p ∷ []) []) to

  read_one : (p : ℕ) (s : State) → Read p s
  read_one p s = by_mark (g p) refl
    where
      got_bit : (b : Bool) → Gets (bit_script p s) (b ∷ []) (with_bit p s b)
      got_bit true more = bit_read s (λ n. done (with_bit p s (n == 1))) true more
      got_bit false more = bit_read s (λ n. done (with_bit p s (n == 1))) false more

      here : g p ≡ true → (q : ℕ) → (t : Bool) → (q == p) ≡ t → (t && f p) ≡ (t && (g q && f q))
      here on q true e = let same : q ≡ p = grind (arith, nat_tests) in rw (same, on) refl
      here on q false e = refl

      away : g p ≡ false → (q : ℕ) → (t : Bool) → (q == p) ≡ t → false ≡ (t && (g q && f q))
      away off q true e = let same : q ≡ p = grind (arith, nat_tests) in rw (same, off) refl
      away off q false e = refl

      given : g p ≡ true → (q : ℕ) → (t : Bool) → (q == p) ≡ t → t ≡ (t && g q)
      given on q true e = let same : q ≡ p = grind (arith, nat_tests) in rw (same, on) refl
      given on q false e = refl

      not_given : g p ≡ false → (q : ℕ) → (t : Bool) → (q == p) ≡ t → false ≡ (t && g q)
      not_given off q true e = let same : q ≡ p = grind (arith, nat_tests) in rw (same, off) refl
      not_given off q false e = refl

      by_mark : (b : Bool) → g p ≡ b → Read p s
      by_mark true e = record {
        to = with_bit p s (f p);
        grown = record {
          options = refl;
          bits = λ q. ap (λ b. s.bits q || b) (here e q (q == p) refl);
          raw = λ q. ap (λ b. s.raw q || b) (given e q (q == p) refl);
          minus = refl;
        };
        gets = λ more. (λ i. run (if e i then bit_script p s else done s) (cond (e i) (f p ∷ []) [] ++ more)) ∙ got_bit (f p) more;
      }
      by_mark false e = record {
        to = s;
        grown = record {
          options = refl;
          bits = λ q. sym (or-false (s.bits q)) ∙ ap (λ b. s.bits q || b) (away e q (q == p) refl);
          raw = λ q. sym (or-false (s.raw q)) ∙ ap (λ b. s.raw q || b) (not_given e q (q == p) refl);
          minus = refl;
        };
        gets = λ more. (λ i. run (if e i then bit_script p s else done s) (cond (e i) (f p ∷ []) [] ++ more));
      }

  -- the positions from a on, n of them
  pub record ReadTo (a n : ℕ) (s : State) : Type 0 where
    pub to : State
    pub grown : Grown s to (λ q. inside a n q && (g q && f q)) (λ q. inside a n q && g q)
    pub goes : (m : ℕ) → GoesOn (in_turn (marked_script g) a (n + m) s) (map f (filter g (span a n))) (in_turn (marked_script g) (a + n) m to)

  none_inside : (a q : ℕ) → false ≡ inside a 0 q
  none_inside a q = grind (arith, nat_tests)

  one_more : (a n q : ℕ) (x : Bool) → ((inside a n q && x) || ((q == a + n) && x)) ≡ (inside a (suc n) q && x)
  one_more a n q x = by_place (q == a + n) refl
    where
      by_place : (t : Bool) → (q == a + n) ≡ t → ((inside a n q && x) || (t && x)) ≡ (inside a (suc n) q && x)
      by_place true e =
          let off : inside a n q ≡ false = grind (arith, nat_tests) in
          let on : inside a (suc n) q ≡ true = grind (arith, nat_tests) in
          rw (off, on) refl
      by_place false e =
          let alike : inside a n q ≡ inside a (suc n) q = grind (arith, nat_tests) in
          rw alike (or-false (inside a (suc n) q && x))

  or_assoc : (a b c : Bool) → ((a || b) || c) ≡ (a || (b || c))
  or_assoc true b c = refl
  or_assoc false b c = refl

  pub read_to : (a n : ℕ) (s : State) → ReadTo a n s
  read_to a zero s = record {
    to = s;
    grown = record {
      options = refl;
      bits = λ q. sym (or-false (s.bits q)) ∙ ap (λ b. s.bits q || (b && (g q && f q))) (none_inside a q);
      raw = λ q. sym (or-false (s.raw q)) ∙ ap (λ b. s.raw q || (b && g q)) (none_inside a q);
      minus = refl;
    };
    goes = λ m more.
        let start : a ≡ a + 0 = omega arith in
        let count : 0 + m ≡ m = omega arith in
        ap (λ c. run (in_turn (marked_script g) a c s) (map f (filter g (span a 0)) ++ more)) count ∙
        ap (λ l. run (in_turn (marked_script g) a m s) (l ++ more)) (map-filter-span-none f g a) ∙ ap (λ b. run (in_turn (marked_script g) b m s) more) start;
  }
  read_to a (suc n) s =
      let x = read_to a n s in
      let y = read_one (a + n) x.to in
      let more_one : n + 1 ≡ suc n = omega arith in
      record {
        to = y.to;
        grown = record {
          options = y.grown.options ∙ x.grown.options;
          bits = λ q. y.grown.bits q ∙ ap (λ b. b || ((q == a + n) && (g q && f q))) (x.grown.bits q) ∙ or_assoc (s.bits q) (inside a n q && (g q && f q))
              ((q == a + n) && (g q && f q)) ∙ ap (λ b. s.bits q || b) (one_more a n q (g q && f q));
          raw = λ q. y.grown.raw q ∙ ap (λ b. b || ((q == a + n) && g q)) (x.grown.raw q) ∙ or_assoc (s.raw q) (inside a n q && g q)
              ((q == a + n) && g q) ∙ ap (λ b. s.raw q || b) (one_more a n q (g q));
          minus = y.grown.minus ∙ x.grown.minus;
        };
        goes = λ m.
            let count : n + suc m ≡ suc n + m = omega arith in
            let place : suc (a + n) ≡ a + suc n = omega arith in
            let first = x.goes (suc m) in
            let last = gets_goes_on (marked_script g (a + n) x.to) (in_turn (marked_script g) (suc (a + n)) m) (cond (g (a + n)) (f
            (a + n) ∷ []) []) y.to y.gets in
            let both = goes_on_then (in_turn (marked_script g) a (n + suc m) s) (in_turn (marked_script g) (a + n) (suc m) x.to) (in_turn (marked_script g)
            (suc (a + n)) m y.to) (map f (filter g (span a n))) (cond (g (a + n)) (f (a + n) ∷ []) []) first last in
            let bits = sym (map-filter-span-suc f g a n) ∙ ap (λ c. map f (filter g (span a c))) more_one in
            subst (λ l. GoesOn (in_turn (marked_script g) a (suc n + m) s) l (in_turn (marked_script g) (a + suc n) m y.to)) bits
            (subst (λ b. GoesOn (in_turn (marked_script g) a (suc n + m) s) (map f (filter g (span a n)) ++ cond (g (a + n)) (f (a + n) ∷ []) []) (in_turn
            (marked_script g) b m y.to)) place
            (subst (λ c. GoesOn (in_turn (marked_script g) a c s) (map f (filter g (span a n)) ++ cond (g (a + n)) (f (a + n) ∷ []) []) (in_turn
            (marked_script g) (suc (a + n)) m y.to)) count both));
      }

-- ---- four positions of a window

module _ (g : ℕ → Bool) (a due : ℕ) (shown : Shows due g a 4) (rest places : ℕ) (fits : rest < 2 ^ 64) (few : count_ones due ≤ 4) (spread : AreSpread due
    (rest / 2 ^ 60 / 2 ^ (4 - count_ones due)) places) where
  abbrev here : ℕ → Bool
  here p = bit places (p - a)

  word_is : rest / 2 ^ 60 / 2 ^ (4 - count_ones due) ≡ value_of (first_of (count_ones due) rest)
  word_is = signs_word rest (count_ones due) fits few

  long : length (first_of (count_ones due) rest) ≡ count_ones due
  long = length-bits_of (count_ones due) (rest / 2 ^ (64 - count_ones due))

  four : 4 ≤ 4
  four = omega arith

  below : rest / 2 ^ 60 / 2 ^ (4 - count_ones due) < 2 ^ count_ones due
  below = subst (λ v. v < 2 ^ count_ones due) (sym word_is) (subst (λ n. value_of (first_of (count_ones due) rest) < 2 ^ n) long (value_below (first_of
      (count_ones due) rest)))

  back : value_of (map here (filter g (span a 4))) ≡ rest / 2 ^ 60 / 2 ^ (4 - count_ones due)
  back = spread.back g a 4 four shown below

  bits_are : map here (filter g (span a 4)) ≡ first_of (count_ones due) rest
  bits_are = same_bits _ _ (length-map (filter g (span a 4)) here ∙ sym (due_count g a 4 due four shown) ∙ sym long) (back ∙ word_is)

  pub places_shown : Shows places (λ q. g q && here q) a 4
  places_shown = spread.if_known here g a 4 four shown back

  pub four_read : (s : State) → ReadTo g here a 4 s
  four_read s = read_to g here a 4 s

  pub four_goes : (s : State) (m : ℕ) → GoesOn (in_turn (marked_script g) a (4 + m) s) (first_of (count_ones due) rest) (in_turn (marked_script g) (a + 4) m
      (four_read s).to)
  four_goes s m = subst (λ l. GoesOn (in_turn (marked_script g) a (4 + m) s) l (in_turn (marked_script g) (a + 4) m (four_read s).to)) bits_are
      ((four_read s).goes m)

-- ---- a half, four positions at a time

both_or : (a b c x : Bool) → (a || b) ≡ c → ((a && x) || (b && x)) ≡ (c && x)
both_or true true c x e = or_self x ∙ ap (λ y. y && x) e
  where
    or_self : (x : Bool) → (x || x) ≡ x
    or_self true = refl
    or_self false = refl
both_or true false c x e = or-false x ∙ ap (λ y. y && x) e
both_or false b c x e = ap (λ y. y && x) e

four_more : (start k q : ℕ) (x : Bool) → ((inside start (4 * k) q && x) || (inside (start + 4 * k) 4 q && x)) ≡ (inside start (4 * (k + 1)) q && x)
four_more start k q x =
    let more : (inside start (4 * k) q || inside (start + 4 * k) 4 q) ≡ inside start (4 * (k + 1)) q = grind (arith, nat_tests) in
    both_or (inside start (4 * k) q) (inside (start + 4 * k) 4 q) (inside start (4 * (k + 1)) q) x more

-- the first k fours were read from a window
pub record DealtTo (g : ℕ → Bool) (start k : ℕ) (s : State) (h : Gaggle) (bits minus : ℕ) (count window : ℕ) : Type 0 where
  pub to : State
  pub known : AreIn h to.options
  pub shown : Shows bits to.bits 0 64
  pub signs : Shows minus to.minus 0 64
  pub given : (q : ℕ) → to.raw q ≡ (s.raw q || (inside start (4 * k) q && g q))
  pub goes : GoesOn (in_turn (marked_script g) start 32 s) (first_of count window) (in_turn (marked_script g) (start + 4 * k) (32 - 4 * k) to)

module _ (g : ℕ → Bool) (start : ℕ) (s : State) {h : Gaggle} (window : ℕ) where
  pub dealt_none : {f : Found} → IsState h f s → DealtTo g start 0 s h f.bits f.minus 0 window
  dealt_none is = record {
    to = s;
    known = is.options;
    shown = is.bits;
    signs = is.minus;
    given = λ q. sym (or-false (s.raw q)) ∙ ap (λ b. s.raw q || (b && g q)) (none_inside g g start q);
    goes = λ more.
        let a : start ≡ start + 4 * 0 = omega arith in
        ap (λ l. run (in_turn (marked_script g) start 32 s) (l ++ more)) (bits_none (window / 2 ^ 64)) ∙ ap (λ b. run (in_turn
        (marked_script g) b 32 s) more) a;
  }

  pub dealt_four : {k bits minus count due rest places new : ℕ} → (d : DealtTo g start k s h bits minus count window) → k < 8 → start + 32 ≤ 64 →
      count ≤ 4 * k → window < 2 ^ 64 → rest ≡ window * 2 ^ count % 2 ^ 64 → (shown : Shows due g (start + 4 * k) 4) → (few : count_ones due ≤ 4) →
      (fits : rest < 2 ^ 64) →
      (spread : AreSpread due (rest / 2 ^ 60 / 2 ^ (4 - count_ones due)) places) →
      ((f h' : ℕ → Bool) → Shows bits f 0 64 → Shows places h' (start + 4 * k) 4 → Shows new (λ q. f q || (inside (start + 4 * k) 4 q && h' q)) 0 64) →
      DealtTo g start (k + 1) s h new minus (count + count_ones due) window
  dealt_four {k} {bits} {minus} {count} {due} {rest} {places} {new} d lt room low window_fits rest_is shown few fits spread added =
      let a = start + 4 * k in
      let r = four_read g a due shown rest places fits few spread d.to in
      let left : 32 - 4 * k ≡ 4 + (32 - 4 * (k + 1)) = omega (arith, lt) in
      let next : a + 4 ≡ start + 4 * (k + 1) = omega arith in
      let goes = four_goes g a due shown rest places fits few spread d.to (32 - 4 * (k + 1)) in
      let before = subst (λ c. GoesOn (in_turn (marked_script g) start 32 s) (first_of count window) (in_turn (marked_script g) a c d.to)) left d.goes in
      let both = goes_on_then (in_turn (marked_script g) start 32 s) (in_turn (marked_script g) a (4 + (32 - 4 * (k + 1))) d.to) (in_turn (marked_script g)
      (a + 4) (32 - 4 * (k + 1)) r.to) (first_of count window) (first_of (count_ones due) rest) before goes in
      let parts : first_of count window ++ first_of (count_ones due) rest ≡ first_of (count + count_ones due) window =
      ap (λ z. first_of count window ++ first_of (count_ones due) z) rest_is ∙ sym (window_parts window count (count_ones due) (omega (
        arith,
        low,
        few,
        lt,
      ))) in
      record {
        to = r.to;
        known = subst (AreIn h) (sym r.grown.options) d.known;
        shown = shows_same (λ q. sym (r.grown.bits q)) (added d.to.bits (λ q. g q && here g a due shown rest places fits few spread q) d.shown
            (places_shown g a due shown rest places fits few spread));
        signs = subst (λ m. Shows minus m 0 64) (sym r.grown.minus) d.signs;
        given = λ q. r.grown.raw q ∙ ap (λ b. b || (inside a 4 q && g q)) (d.given q) ∙ or_assoc g g (s.raw q) (inside start (4 * k) q && g q)
            (inside a 4 q && g q) ∙ ap (λ b. s.raw q || b) (four_more start k q (g q));
        goes = subst (λ b. GoesOn (in_turn (marked_script g) start 32 s) (first_of (count + count_ones due) window) (in_turn (marked_script g) b (32 - 4 *
            (k + 1)) r.to)) next
            (subst (λ l. GoesOn (in_turn (marked_script g) start 32 s) l (in_turn (marked_script g) (a + 4) (32 - 4 * (k + 1)) r.to)) parts both);
      }

  pub dealt_all : {I : Type 0} {k : SourceOf I} {n bits minus count : ℕ} (d : DealtTo g start n s h bits minus count window) → 8 ≤ n → n ≤ 8 →
      {x m y : Point I} →
      Stays k x m → Moves k m y (first_of count window) → {f : Found} → f.bits ≡ bits → f.minus ≡ minus →
      Shows f.raw (λ q. s.raw q || (inside start 32 q && g q)) 0 64 →
      HeldState {X = Unit {0}} k (in_turn (marked_script g) start 32 s) (Ok (Some tt)) h f x y
  dealt_all {n = n} {count = count} d all most stays moves {f} same_bits_of same_minus raw_shown =
      let whole : 4 * n ≡ 32 = omega (arith, all, most) in
      let none : 32 - 4 * n ≡ 0 = omega (arith, all) in
      let gets : Gets (in_turn (marked_script g) start 32 s) (first_of count window) d.to = subst (λ c. GoesOn (in_turn (marked_script g) start 32 s)
      (first_of count window) (in_turn (marked_script g) (start + 4 * n) c d.to)) none d.goes in
      record {
        now = d.to;
        is = record {
          options = d.known;
          bits = subst (λ b. Shows b d.to.bits 0 64) (sym same_bits_of) d.shown;
          minus = subst (λ b. Shows b d.to.minus 0 64) (sym same_minus) d.signs;
          raw = shows_same (λ q. sym (d.given q ∙ ap (λ c. s.raw q || (inside start c q && g q)) whole)) raw_shown;
        };
        read = reads_gets (in_turn (marked_script g) start 32 s) d.to gets (moves_then stays moves);
      }
