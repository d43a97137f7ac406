-- What is read from one place of a text to another, one part after another.
use Rattle.std.proofs.Common.{◌≡◌, ℕ, ◌+◌, ◌*◌, ◌%◌, ◌<◌, ◌≤◌, ◌^◌, List, [], ◌++◌, length, ◌-◌, Bool, true, false, if◌then◌else◌, nat_le, refl, sym, ap}
use Rattle.std.proofs.Common.{◌∙◌, subst, arith, append_assoc, append-nil, ◌/◌, ◌⊎◌, inl, inr}
use Rattle.std.proofs.lemmas.Bool.Decides.{nat_tests}
use Rattle.item_defs.specs.Items.{Refusal}
use Rattle.item_defs.proofs.NumberBits.{bits_none, length-bits_of}
use Rattle.bit_pipe.specs.declared.fault.InFault.{InFault}
use Rattle.bit_pipe.specs.declared.fault.TextFault.{TextFault}
use Rattle.bit_pipe.specs.declared.fault.TextFault.TheVariants as texts
use Rattle.bit_pipe.specs.Sources.{SourceOf}
use Rattle.bit_pipe.specs.SourceState.{SourceState, IsIn, Takes, IsEnd, FailsSo}
use Rattle.bit_pipe.specs.Windows.{IsWindow, first_of}
use Rattle.bit_pipe.proofs.Taking.{takes_start, takes_then, fails_so_later}
use Rattle.item_defs.specs.Outcomes.{Outcome, cut, refused}
use Rattle.item_defs.specs.Scripts.{Script, done, then_ask, proceed, run}
use Rattle.bit_pipe.specs.ScriptSources.{Found, got, ends, refuses, fails, Stops, ReadsAs, Gets, by_fault}
use Rattle.bit_pipe.proofs.ScriptReading.{says_on, goes_on_then, gets_goes_on}
use Rattle.item_defs.proofs.ScriptLaws.{run_then}
use Rattle.plane_reader.specs.declared.cursor.Cursor.{Cursor}
use Rattle.plane_reader.specs.Held.{read_of, has_left, Holds, Point, point, Moves, Stays, StopsAt, ReadsFrom, LeadsTo}
use Rattle.plane_reader.proofs.WindowParts.{window_parts, moved_on}

later : {G A B : Type 0} (r : Script G A) (next : A → Script G B) (bits : List Bool) (o : Outcome G A) → run r bits ≡ o →
    run (then_ask r next) bits ≡ proceed (λ a. run (next a)) o
later r next bits o e = run_then next r bits ∙ ap (proceed (λ a. run (next a))) e

-- nothing was read of a window that is new, or not there
pub read_nothing : (c : Cursor) → (c.used ≡ 0) ⊎ (57 ≤ c.used) → read_of c ≡ []
read_nothing c (inl e) = ap (λ n. if nat_le n 56 then first_of n c.window else []) e ∙ bits_none (c.window / 2 ^ 64)
read_nothing c (inr le) = let t : nat_le c.used 56 ≡ false = grind (arith, nat_tests) in ap (λ b. if b then first_of c.used c.window else []) t

module _ {I : Type 0} {k : SourceOf I} where
  pub moves_start : {p : Point I} → IsIn p.input → Moves k p p []
  moves_start {p} h = record { moved = []; taken = takes_start k p.input h; same = sym (append-nil p.read) }

  pub moves_then : {a b c : Point I} {xs ys : List Bool} → Moves k a b xs → Moves k b c ys → Moves k a c (xs ++ ys)
  moves_then {a} {b} {c} {xs} {ys} p q = record {
    moved = p.moved ++ q.moved;
    taken = takes_then p.taken q.taken;
    same = append_assoc p.moved q.moved c.read ∙ ap (λ l. p.moved ++ l) q.same ∙ sym (append_assoc p.moved b.read ys) ∙ ap (λ l. l ++ ys) p.same ∙
        append_assoc a.read xs ys;
  }

  pub stays_empty : {s : SourceState I} (c d : Cursor) → IsIn s → read_of c ≡ [] → read_of d ≡ [] → Stays k (point s c) (point s d)
  stays_empty {s} c d h e f = record { moved = []; taken = takes_start k s h; same = f ∙ ap (λ l. l ++ []) (sym e) }

  pub stays_then : {a b c : Point I} → Stays k a b → Stays k b c → Stays k a c
  stays_then p q = moves_then p q

  -- some bits of the window
  module _ {s : SourceState I} {c d : Cursor} (holds : Holds k s c) (n : ℕ) (left : has_left n c) (used : d.used ≡ c.used + n) (same : d.window ≡ c.window)
      (rest : d.rest ≡ c.rest * 2 ^ n % 2 ^ 64) where
    held : c.used ≤ 56
    held = omega (arith, left)

    read_is : (e : Cursor) → e.used ≤ 56 → read_of e ≡ first_of e.used e.window
    read_is e le = let t : nat_le e.used 56 ≡ true = grind (arith, nat_tests) in ap (λ b. if b then first_of e.used e.window else []) t

    pub moves_passed : IsIn s → Moves k (point s c) (point s d) (first_of n c.rest)
    moves_passed h = record {
      moved = [];
      taken = takes_start k s h;
      same =
          read_is d (omega (arith, used, left)) ∙ ap (first_of d.used) same ∙ ap (λ m. first_of m c.window) used ∙
          window_parts c.window c.used n (omega (arith, left)) ∙
          ap (λ r. first_of c.used c.window ++ first_of n r) (sym (holds.rest held)) ∙ ap (λ l. l ++ first_of n c.rest) (sym (read_is c held));
    }

    pub holds_passed : Holds k s d
    holds_passed = record {
      window = λ le. subst (IsWindow k s) (sym same) (holds.window held);
      rest = λ le. rest ∙ moved_on c.window c.used n c.rest (holds.rest held) ∙ ap (λ m. c.window * 2 ^ m % 2 ^ 64) (sym used) ∙
          ap (λ w. w * 2 ^ d.used % 2 ^ 64) (sym same);
    }

  -- ---- readings

  module _ {G A : Type 0} where
    stops_later : (a b c : Point I) {xs : List Bool} (f : Found G A) → Moves k a b xs → StopsAt k f b c → StopsAt k f a c
    stops_later a b c (got x) p q = tt
    stops_later a b c (ends g) p q = q
    stops_later a b c (refuses g name) p q = tt
    stops_later a b c (fails g e) p q = (fails_so_later p.taken q.0, q.1)

    pub leads_start : (s : Script G A) {p : Point I} → IsIn p.input → LeadsTo k s s p p
    leads_start s h = record { bits = []; moves = moves_start h; goes = λ more. refl }

    pub leads_stays : (s : Script G A) {a b : Point I} → Stays k a b → LeadsTo k s s a b
    leads_stays s p = record { bits = []; moves = p; goes = λ more. refl }

    pub leads_then : (s t u : Script G A) {a b c : Point I} → LeadsTo k s t a b → LeadsTo k t u b c → LeadsTo k s u a c
    leads_then s t u p q = record { bits = p.bits ++ q.bits; moves = moves_then p.moves q.moves; goes = goes_on_then s t u p.bits q.bits p.goes q.goes }

    pub reads_later : (s t : Script G A) (f : Found G A) {a b c : Point I} → LeadsTo k s t a b → ReadsFrom k t f b c → ReadsFrom k s f a c
    reads_later s t f {a} {b} {c} p q = record {
      bits = p.bits ++ q.bits;
      moves = moves_then p.moves q.moves;
      says = says_on s t p.bits q.bits f p.goes q.says;
      stops = stops_later a b c f p.moves q.stops;
    }

    pub reads_done : (s : Script G A) (a : A) {x y : Point I} → LeadsTo k s (done a) x y → ReadsFrom k s (got a) x y
    reads_done s a p = record { bits = p.bits; moves = p.moves; says = p.goes; stops = tt }

    pub reads_gets : (s : Script G A) (a : A) {bits : List Bool} {x y : Point I} → Gets s bits a → Moves k x y bits → ReadsFrom k s (got a) x y
    reads_gets s a {bits} p m = record { bits = bits; moves = m; says = p; stops = tt }

    -- what was read by calls, without a window
    pub reads_by_calls : (s : Script G A) (f : Found G A) {x y : Point I} → x.read ≡ [] → y.read ≡ [] → ReadsAs k s f x.input y.input → ReadsFrom k s f x y
    reads_by_calls s f {x} {y} e h p = record {
      bits = p.bits;
      moves = record { moved = p.bits; taken = p.taken; same = ap (λ l. p.bits ++ l) h ∙ append-nil p.bits ∙ ap (λ l. l ++ p.bits) (sym e) };
      says = p.says;
      stops = stop f p.stops;
    }
      where
        stop : (f : Found G A) → Stops k f x.input y.input → StopsAt k f x y
        stop (got a) q = tt
        stop (ends g) q = (q, h)
        stop (refuses g name) q = tt
        stop (fails g e) q = (q, h)

    -- ---- one script after another

    module _ {B : Type 0} (r : Script G A) (next : A → Script G B) {x y : Point I} where
      pub leads_got : (a : A) → ReadsFrom k r (got a) x y → LeadsTo k (then_ask r next) (next a) x y
      leads_got a p = record { bits = p.bits; moves = p.moves; goes = gets_goes_on r next p.bits a p.says }

      pub reads_cut : (g : G) → ReadsFrom k r (ends g) x y → ReadsFrom k (then_ask r next) (ends g) x y
      reads_cut g p = record { bits = p.bits; moves = p.moves; says = later r next p.bits (cut g) p.says; stops = p.stops }

      pub reads_refused : (g : G) (name : Refusal) → ReadsFrom k r (refuses g name) x y → ReadsFrom k (then_ask r next) (refuses g name) x y
      reads_refused g name p = record {
        bits = p.bits;
        moves = p.moves;
        says = λ more. later r next (p.bits ++ more) (refused g name more) (p.says more);
        stops = tt;
      }

      reads_failed : (g : G) (e : InFault) → ReadsFrom k r (fails g e) x y → ReadsFrom k (then_ask r next) (fails g e) x y
      reads_failed g e p = record { bits = p.bits; moves = p.moves; says = later r next p.bits (cut g) p.says; stops = p.stops }

      pub reads_fault : (g : G) (fault : TextFault) → ReadsFrom k r (by_fault fault g) x y → ReadsFrom k (then_ask r next) (by_fault fault g) x y
      reads_fault g texts.BadOption p = reads_refused g _ p
      reads_fault g texts.BadDelta p = reads_refused g _ p
      reads_fault g texts.BadDepth p = reads_refused g _ p
      reads_fault g texts.FalseFlag p = reads_refused g _ p
      reads_fault g texts.ReadFault p = reads_failed g _ p
      reads_fault g texts.LongInput p = reads_failed g _ p
      reads_fault g texts.Broken p = reads_failed g _ p

-- the first part was read, and then the next
pub reads_then : {I G A B : Type 0} {k : SourceOf I} (r : Script G A) (next : A → Script G B) (a : A) (f : Found G B) {x y z : Point I} →
    ReadsFrom k r (got a) x y → ReadsFrom k (next a) f y z → ReadsFrom k (then_ask r next) f x z
reads_then r next a f p q = reads_later (then_ask r next) (next a) f (leads_got r next a p) q

-- once the window is let go, exactly the bits that decide were taken
pub reads_closed : {I G A : Type 0} {k : SourceOf I} (s : Script G A) (f : Found G A) {x y z : Point I} → x.read ≡ [] → ReadsFrom k s f x y → Stays k y z →
    z.read ≡ [] → (y.read ≡ [] → z.input ≡ y.input) → ReadsAs k s f x.input z.input
reads_closed {I} {G} {A} {k} s f {x} {y} {z} none p stays none_then kept =
    let m = moves_then p.moves stays in
    let same : m.moved ≡ p.bits = sym (append-nil m.moved) ∙ ap (λ l. m.moved ++ l) (sym none_then) ∙ m.same ∙ ap (λ l. l ++ (p.bits ++ [])) none ∙
    append-nil p.bits in
    record { bits = p.bits; taken = subst (Takes k x.input z.input) same m.taken; says = p.says; stops = stop f p.stops }
  where
    stop : (f : Found G A) → StopsAt k f x y → Stops k f x.input z.input
    stop (got a) q = tt
    stop (ends g) q = subst (IsEnd k) (sym (kept q.1)) q.0
    stop (refuses g name) q = tt
    stop (fails g e) q = subst (FailsSo k e x.input) (sym (kept q.1)) q.0

-- bits that were read of a window are not none
pub some_read : (c : Cursor) → 0 < c.used → c.used ≤ 56 → read_of c ≡ [] → ⊥
some_read c some le none =
    let t : nat_le c.used 56 ≡ true = grind (arith, nat_tests) in
    let e : first_of c.used c.window ≡ [] = sym (ap (λ b. if b then first_of c.used c.window else []) t) ∙ none in
    let n = sym (length-bits_of c.used (c.window / 2 ^ (64 - c.used))) ∙ ap length e in
    omega (arith, n, some)
