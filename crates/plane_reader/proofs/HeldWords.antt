-- Raw bits, and words of flags with their checks, that are read from a window that is held.
use Rattle.std.proofs.Common.{◌≡◌, ℕ, ◌-◌, ◌/◌, ◌%◌, ◌<◌, ◌≤◌, ◌^◌, ◌==◌, ◌&&◌, ◌||◌, not, List, [], ◌∷◌, Bool, true, false, cond, length, map, filter}
use Rattle.std.proofs.Common.{refl, ap, ◌∙◌, subst, arith, Option, Some, None, Result, Ok, Err}
use Rattle.std.specs.List.{list_any}
use Rattle.std.proofs.lemmas.Bool.Decides.{nat_tests}
use Rattle.std.proofs.lemmas.List.{length-map}
use Rattle.item_defs.specs.Bits.{bit, bits_of}
use Rattle.item_defs.proofs.NumberBits.{bits_first, bits_none}
use Rattle.base_122.specs.declared.book.Book.{Book}
use Rattle.plane_defs.specs.Spans.{span}
use Rattle.plane_defs.specs.Steps.{Check, lacks_one, refuses as is_refused, ones_at}
use Rattle.block_masks.specs.declared.gaggle.Gaggle.{Gaggle}
use Rattle.block_masks.specs.Masks.{Shows}
use Rattle.block_masks.proofs.LaneMasks.{shows_same}
use Rattle.block_masks.proofs.Viewing.{shows_own}
use Rattle.bit_pipe.specs.declared.fault.TextFault.{TextFault}
use Rattle.bit_pipe.specs.declared.fault.TextFault.TheVariants.{FalseFlag}
use Rattle.bit_pipe.specs.Sources.{SourceOf}
use Rattle.bit_pipe.specs.Windows.{first_of}
use Rattle.item_defs.specs.Scripts.{done, ask_bit}
use Rattle.bit_pipe.specs.ScriptSources.{by_item}
use Rattle.plane_defs.specs.States.{State, with_options}
use Rattle.plane_defs.specs.WordScripts.{due_script}
use Rattle.plane_reader.specs.Takes.{AreOnes, TakesFlag, unless_bad}
use Rattle.plane_reader.specs.Held.{Point, Moves, Stays, ReadsFrom}
use Rattle.plane_reader.specs.HeldTakes.{HeldFlag, HeldPlaces, HeldOnes, AreAmong}
use Rattle.plane_reader.proofs.HeldReads.{moves_then, leads_stays, reads_later, reads_by_calls, reads_gets}
use Rattle.plane_reader.proofs.PlaceReads.{back, bits_are}
use Rattle.plane_reader.proofs.SignReads.{flag_gets}

-- ---- a raw bit

module _ {I : Type 0} {k : SourceOf I} (result : Result (Option Bool) TextFault) {x m y : Point I} where
  pub flag_by_calls : Stays k x m → m.read ≡ [] → y.read ≡ [] → TakesFlag k result m.input y.input → HeldFlag k result x y
  flag_by_calls stays none none_then t = record {
    read = λ s.
        let script = ask_bit s (λ b. done b) in
        reads_later script script (by_item result s) (leads_stays script stays) (reads_by_calls script (by_item result s) none none_then (t.read s));
  }

  pub flag_later : Stays k x m → HeldFlag k result m y → HeldFlag k result x y
  flag_later stays t = record {
    read = λ s. let script = ask_bit s (λ b. done b) in reads_later script script (by_item result s) (leads_stays script stays)
        (t.read s);
  }

-- the first bit of a window
first_bit : (window : ℕ) → window < 2 ^ 64 → first_of 1 window ≡ (window / 2 ^ 63 == 1) ∷ []
first_bit window fits = bits_first 1 (window / 2 ^ 63) (omega arith) ∙ ap (λ l. bit (window / 2 ^ 63) 0 ∷ l) (bits_none (window / 2 ^ 63)) ∙
    ap (λ b. b ∷ []) (same (window / 2 ^ 63) (omega (arith, fits)))
  where
    same : (n : ℕ) → n < 2 → bit n 0 ≡ (n == 1)
    same n lt = let e : n / 2 ^ 0 % 2 ≡ n = omega (arith, lt) in ap (λ q. q == 1) e

pub flag_passed : {I : Type 0} {k : SourceOf I} (window : ℕ) → window < 2 ^ 64 → {x m y : Point I} → Stays k x m → Moves k m y (first_of 1 window) →
    HeldFlag k (Ok (Some (window / 2 ^ 63 == 1))) x y
flag_passed {k = k} window fits {x} {m} {y} stays moves = record {
  read = λ s. reads_gets (ask_bit s (λ b. done b)) (window / 2 ^ 63 == 1) (flag_gets s (window / 2 ^ 63 ==
      1)) (subst (Moves k x y) (first_bit window fits) (moves_then stays moves));
}

-- ---- a word of flags

pub among : {mask word start count places : ℕ} {f : ℕ → Bool} → AreOnes mask word f start count places → AreAmong mask places
among {mask} {word} {places = places} are = λ count few below.
    let own = shows_own mask count below in
    let shown = are.spread.if_known (λ p. bit places (p - 0)) (bit mask) 0 count few own (are.spread.back (bit mask) 0 count few own are.fits) in
    shows_same (λ p. let z : p - 0 ≡ p = omega arith in ap (λ q. bit mask p && bit places q) z) shown

module _ {I : Type 0} {k : SourceOf I} (book : Book) (check : Check) (g : ℕ → Bool) (start count : ℕ) (s : State) {mask : ℕ} {h : Gaggle} {x y : Point I}
    (free : length (filter g (span start count)) ≡ 0 → is_refused check 0 ≡ false) where
  pub ones_fault : (fault : TextFault) → HeldPlaces k book mask g start count s (Err fault) h x y → HeldOnes k (due_script book g check
      (span start count) s) start count s (Err fault) h x y
  ones_fault fault p = record { options = p.options; known = p.known; ones = p.ones; shown = tt; read = p.read check free }

  pub ones_missing : HeldPlaces k book mask g start count s (Ok None) h x y → HeldOnes k (due_script book g check (span start count) s) start count s
      (Ok None) h x y
  ones_missing p = record { options = p.options; known = p.known; ones = p.ones; shown = tt; read = p.read check free }

  module _ {places : ℕ} (p : HeldPlaces k book mask g start count s (Ok (Some places)) h x y) where
    checked : (bad : Bool) → is_refused check p.word ≡ bad →
        (let t = with_options s p.options in let o : State × (ℕ → Bool) = (t, p.ones) in ReadsFrom k (due_script book g check (span start count) s)
        (unless_bad bad t o) x y)
    checked bad e =
        let t = with_options s p.options in
        let o : State × (ℕ → Bool) = (t, p.ones) in
        subst (λ b. ReadsFrom k (due_script book g check (span start count) s) (unless_bad b t o) x y) e (p.read check free)

    pub ones_false : is_refused check p.word ≡ true → HeldOnes k (due_script book g check (span start count) s) start count s (Err FalseFlag) h x y
    ones_false e = record { options = p.options; known = p.known; ones = p.ones; shown = tt; read = checked true e }

    pub ones_given : is_refused check p.word ≡ false → HeldOnes k (due_script book g check (span start count) s) start count s (Ok (Some places)) h x y
    ones_given e = record { options = p.options; known = p.known; ones = p.ones; shown = p.are.shown; read = checked false e }

-- ---- flags of which some must be 1

any_filter : (q g : ℕ → Bool) (xs : List ℕ) → list_any q (filter g xs) ≡ list_any (λ p. g p && q p) xs
any_filter q g [] = refl
any_filter q g (x ∷ xs) = one (g x) (any_filter q g xs)
  where
    one : (t : Bool) → list_any q (filter g xs) ≡ list_any (λ p. g p && q p) xs → list_any q (cond t (x ∷ filter g xs) (filter g xs)) ≡
        ((t && q x) || list_any (λ p. g p && q p) xs)
    one true e = ap (λ b. q x || b) e
    one false e = e

lacks_any : (a b : ℕ → Bool) (ys : List ℕ) → lacks_one (map a ys) (map b ys) ≡ list_any (λ p. a p && not (b p)) ys
lacks_any a b [] = refl
lacks_any a b (y ∷ ys) = ap (λ t. (a y && not (b y)) || t) (lacks_any a b ys)

any_same : (f g : ℕ → Bool) → ((p : ℕ) → f p ≡ g p) → (xs : List ℕ) → list_any f xs ≡ list_any g xs
any_same f g same xs = grind (arith, nat_tests)

beside_as : (g h w : Bool) → (g && (w && not h)) ≡ (not (g && h) && (g && w))
beside_as g h w = grind (arith, nat_tests)

-- no flag is due, and none is missing
pub none_wanted : (forced g : ℕ → Bool) (start count : ℕ) → length (filter g (span start count)) ≡ 0 →
    is_refused (ones_at (map forced (filter g (span start count)))) 0 ≡ false
none_wanted forced g start count e = by (filter g (span start count)) e
  where
    by : (l : List ℕ) → length l ≡ 0 → lacks_one (map forced l) (bits_of (length (map forced l)) 0) ≡ false
    by [] e = refl
    by (p ∷ ps) e = absurd (omega (arith, e))

module _ (forced g : ℕ → Bool) (start count due word places : ℕ) (few : count ≤ 4) (shown : Shows due g start count) {f : ℕ →
    Bool} (are : AreOnes due word f start count places) where
  abbrev here : ℕ → Bool
  here p = bit places (p - start)

  abbrev pub lacking : ℕ → Bool
  lacking p = not (g p && here p) && (g p && forced p)

  -- the positions of the word's ones
  pub here_shown : Shows places (λ p. g p && here p) start count
  here_shown = are.spread.if_known here g start count few shown (back g start count due word places few shown are.fits are.spread)

  -- a wanted flag is 0
  pub lacking_is : is_refused (ones_at (map forced (filter g (span start count)))) word ≡ list_any lacking (span start count)
  lacking_is =
      let positions = filter g (span start count) in
      ap (λ n. lacks_one (map forced positions) (bits_of n word)) (length-map positions forced) ∙
      ap (lacks_one (map forced positions)) (bits_are g start count due word places few shown are.fits are.spread) ∙ lacks_any forced here positions ∙
      any_filter (λ p. forced p && not (here p)) g (span start count) ∙ any_same _ lacking (λ p. beside_as (g p) (here p) (forced p)) (span start count)
