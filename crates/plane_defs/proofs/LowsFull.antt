-- If all stages of all planes are read, all bits of each number are given, and nothing is added to it.
use Rattle.std.proofs.Common.{◌≡◌, ◌≤◌, ◌<◌, ℕ, zero, suc, ◌+◌, ◌-◌, ◌*◌, ◌^◌, ◌==◌}
use Rattle.std.proofs.Common.{◌&&◌, ◌||◌, nat_lt, nat_le, min, max, Bool, true, false, if◌then◌else◌, List, []}
use Rattle.std.proofs.Common.{length, refl, ap, sym, ◌∙◌, subst, arith, Option, Some, None, ℤ, pos, negsuc, ◌+ℤ◌, ◌/◌, pow_mono, inl, inr}
use Rattle.std.proofs.Math.Nat.{pow-succ'}
use Rattle.std.proofs.lemmas.Bool.Decides.{nat_tests}
use Rattle.std.proofs.lemmas.Bool.{cases_lt}
use Rattle.std.proofs.lemmas.Int.{ints}
use Rattle.std.proofs.lemmas.List.{ext_get_or}
use lib.ListN.{get_or}
use Rattle.base_122.specs.declared.book.Book.{Book}
use Rattle.item_defs.specs.Scripts.{around}
use Rattle.item_defs.proofs.ScriptYields.{Yields, yields_then, yields_around}
use Rattle.plane_defs.specs.Sets.{magnitude, shift, significant, coded, refined}
use Rattle.plane_defs.specs.StepLaws.{IsAc}
use Rattle.plane_defs.specs.StageScripts.{Terms}
use Rattle.plane_defs.specs.PlaneScript.{PlaneState, plane_script}
use Rattle.plane_defs.specs.Lows.{Given, given_with, planes_given}
use Rattle.base_122.specs.Restored.{restored_dc}
use Rattle.plane_defs.specs.Restored.{restored_ac, restored_at, restored}
use Rattle.plane_defs.proofs.NumbersGiven.{restored_by_position}
use Rattle.plane_defs.proofs.LowsRoom.{magnitude_with, at_block}
use Rattle.plane_defs.proofs.PlaneGoes.{long_with}
use Rattle.plane_defs.proofs.Tables.{and-left, and-right}
use Rattle.plane_defs.proofs.PlaneYields.{All}
use Rattle.plane_defs.proofs.StageFull.{After, IsAfter, coded_fine, plane_after}

-- ---- one number

-- a DC number is given down to plane `below`, or to q or its shift
abbrev pub DcFull : (s q below : ℕ) → Option ℕ → Type 0
DcFull s q below low = low ≡ Some (max s (min q below))

-- an AC number is 0, or is given from the bit that is its first down to plane `below` or its shift
abbrev pub AcFull : (s depth below : ℕ) → Option ℕ → ℕ → Type 0
AcFull s depth below None m = m ≡ 0
AcFull s depth below (Some low) m = (low ≡ max s below) × (low < depth) × (2 ^ low ≤ m)

not_false : (x : Bool) → x ≡ true → x ≡ false → ⊥
not_false true a b = cc
not_false false a b = cc

dc_step : (s q b : ℕ) (low : Option ℕ) (one raw : Bool) → ((one || raw) ≡ true → (s ≤ b) × (b < q)) → (s ≤ b → b < q → raw ≡ true) →
    DcFull s q (suc b) low → DcFull s q b (if one || raw then Some b else low)
dc_step s q b low true raw due given h =
    let w = due refl in
    let le = w.0 in
    let lt = w.1 in
    let e : b ≡ max s (min q b) = omega (arith, le, lt) in
    ap (λ n. Some n) e
dc_step s q b low false true due given h =
    let w = due refl in
    let le = w.0 in
    let lt = w.1 in
    let e : b ≡ max s (min q b) = omega (arith, le, lt) in
    ap (λ n. Some n) e
dc_step s q b low false false due given h = h ∙ ap (λ n. Some n) same
  where
    same : max s (min q (suc b)) ≡ max s (min q b)
    same = elim (cases_lt b s) [
      | inl lt ↦ omega (arith, lt)
      | inr le ↦ elim (cases_lt b q) [
        | inl few ↦ absurd (not_false false (given le few) refl)
        | inr all ↦ omega (arith, all)
      ]
    ]

ac_step : (s depth b : ℕ) (low : Option ℕ) (m : ℕ) (one raw : Bool) → (b < depth → s ≤ b → 2 ^ suc b ≤ m → raw ≡ true) →
    (raw ≡ true → (b < depth) × (2 ^ suc b ≤ m) × (s ≤ b)) → (one ≡ true → s ≤ b) → (depth ≤ b → one ≡ false) → AcFull s depth (suc b) low m →
    AcFull s depth b (if one || raw then Some b else low) (m + (if one then 2 ^ b else 0))
ac_step s depth b low m true raw given raws codes shallow h = elim (cases_lt b depth) [
  | inl lt ↦ (let le = codes refl in omega (arith, le), lt, omega arith)
  | inr le ↦ absurd (not_false true refl (shallow le))
]
ac_step s depth b low m false true given raws codes shallow h =
    let r = raws refl in
    let lt = r.0 in
    let big = r.1 in
    let le = r.2 in
    let e : 2 ^ suc b ≡ 2 * 2 ^ b = pow-succ' 2 b in
    (omega (arith, le), lt, omega (arith, big, e))
ac_step s depth b None m false false given raws codes shallow h = omega (arith, h)
ac_step s depth b (Some low) m false false given raws codes shallow h =
    let most = h.0 in
    let inside = h.1 in
    let first = h.2 in
    elim (cases_lt b s) [
      | inl lt ↦ (omega (arith, lt, most), inside, omega (arith, first))
      | inr le ↦
          let above : suc b ≤ low = omega (arith, most) in
          let big : 2 ^ suc b ≤ 2 ^ low = pow_mono above in
          absurd (not_false false (given (omega (arith, above, inside)) le (omega (arith, big, first))) refl)
    ]

-- ---- all numbers

pub record HaveAll (weights : List ℕ) (q : ℕ) (depths : List ℕ) (below : ℕ) (g : Given) : Type 0 where
  pub long : length g.numbers ≡ length depths
  pub dc : (r : ℕ) → r < length depths → DcFull (shift weights 0) q below (g.lows r 0)
  pub acs : (r p : ℕ) → r < length depths → IsAc p → AcFull (shift weights p) (get_or depths r 0) below (g.lows r p) (magnitude (get_or g.numbers r []) p)

coded_is : (weights : List ℕ) (b p : ℕ) → coded weights b p ≡ nat_le (shift weights p) b
unfolding coded
coded_is weights b p = refl

refined_is : (block : List ℤ) (weights : List ℕ) (b p : ℕ) →
    refined block weights b p ≡ (nat_le (2 ^ (b + 1)) (magnitude block p) && nat_le (shift weights p) b)
unfolding refined significant coded
refined_is block weights b p = refl

both_true : (x y : Bool) → x ≡ true → y ≡ true → (x && y) ≡ true
both_true true y a b = b
both_true false y a b = absurd cc

module _ (book : Book) (weights : List ℕ) (q : ℕ) (depths : List ℕ) where
  abbrev terms : ℕ → Terms
  terms b = record { book = book; weights = weights; plane = b; q = q }

  coded_low : (b p : ℕ) → coded weights b p ≡ true → shift weights p ≤ b
  coded_low b p e = let f : nat_le (shift weights p) b ≡ true = sym (coded_is weights b p) ∙ e in grind (arith, nat_tests)

  -- the plane below
  pub have_all_next : (b : ℕ) (g : Given) → HaveAll weights q depths (suc b) g → (u : PlaneState) → All (IsAfter (terms b) depths g.numbers 5) u →
      HaveAll weights q depths b (given_with b g u)
  have_all_next b g h u k = record {
    long = long_with b g.numbers u ∙ h.long;
    dc = λ r lt. dc_step (shift weights 0) q b (g.lows r 0) ((u.blocks r).bits 0) ((u.blocks r).raw 0)
        (λ e. let w = (k r lt).due e in (
          coded_low b 0 (and-left (coded weights b 0) (nat_lt b q) w),
          (let f = and-right (coded weights b 0) (nat_lt b q) w in let lt : b < q = grind (arith, nat_tests) in lt),
        ))
        (λ le few. (k r lt).dc (omega arith) (both_true (coded weights b 0) (nat_lt b q) (coded_is weights b 0 ∙
        (let e : nat_le (shift weights 0) b ≡ true = grind (arith, nat_tests) in e)) (grind (arith, nat_tests)))) (h.dc r lt);
    acs = λ r p lt ac.
        let block = get_or g.numbers r [] in
        let depth = get_or depths r 0 in
        let inside : r < length g.numbers = (let e = h.long in omega (arith, lt, e)) in
        let a = k r lt in
        let next : suc b ≡ b + 1 = omega arith in
        subst (AcFull (shift weights p) depth b ((given_with b g u).lows r p))
        (sym (ap (λ l. magnitude l p) (at_block b g.numbers u r inside) ∙ magnitude_with b block (u.blocks r) p ac))
        (ac_step (shift weights p) depth b (g.lows r p) (magnitude block p) ((u.blocks r).bits p) ((u.blocks r).raw p)
        (λ deep le big. a.refines (omega arith) (let e : nat_lt b depth ≡ true = grind (arith, nat_tests) in e) p ac (refined_is block weights b p ∙
        both_true (nat_le (2 ^ (b + 1)) (magnitude block p)) (nat_le (shift weights p) b)
        (let f = subst (λ n. 2 ^ n ≤ magnitude block p) next big in grind (arith, nat_tests)) (grind (arith, nat_tests))))
        (λ e. let w = a.raws p ac.0 e in (
          (let d = w.0 in let lt : b < depth = grind (arith, nat_tests) in lt),
          subst (λ n. 2 ^ n ≤ magnitude block p) (sym next)
              (let f = and-left (nat_le (2 ^ (b + 1)) (magnitude block p)) (nat_le (shift weights p) b) (sym (refined_is block weights b p) ∙ w.1) in
              let big : 2 ^ (b + 1) ≤ magnitude block p = grind (arith, nat_tests) in big),
          coded_low b p (coded_fine (terms b) depth block p w.1),
        ))
        (λ e. coded_low b p (a.codes p ac.0 e))
        (λ le. a.shallow (let e : nat_lt b depth ≡ false = grind (arith, nat_tests) in e) p ac.0) (h.acs r p lt ac));
  }

  pub planes_full : (stages : ℕ → ℕ) (below : ℕ) → ((b : ℕ) → b < below → stages b ≡ 5) → (g : Given) → HaveAll weights q depths below g →
      Yields (λ h. Unit {0}) (HaveAll weights q depths 0) (planes_given book weights q depths stages below g)
  planes_full stages zero all g h = h
  planes_full stages (suc b) all g h =
      let script = plane_script (terms b) depths g.numbers (stages b) in
      let five : stages b ≡ 5 = all b (omega arith) in
      yields_then (λ k. Unit {0}) (HaveAll weights q depths b) (HaveAll weights q depths 0) (around (given_with b g) script)
      (planes_given book weights q depths stages b)
      (yields_around (All (λ r s. Unit {0})) (All (IsAfter (terms b) depths g.numbers 5)) (λ k. Unit {0}) (HaveAll weights q depths b) (given_with b g)
      (λ u k. tt) (have_all_next b g h) script
      (subst (λ n. Yields (All (λ r s. Unit {0})) (All (IsAfter (terms b) depths g.numbers 5)) (plane_script (terms b) depths g.numbers n)) (sym five)
      (plane_after (terms b) depths g.numbers)))
      (λ k full. planes_full stages b (λ c lt. all c (omega (arith, lt))) k full)

-- ---- restored numbers

dc_same : (s q : ℕ) (low : Option ℕ) (z : ℤ) → DcFull s q 0 low → restored_dc s low z ≡ z
dc_same s q low z h =
    let u : max s (min q 0) - s ≡ 0 = omega arith in
    let none : 2 ^ s * 0 ≡ 0 = omega arith in
    ap (λ l. restored_dc s l z) h ∙ ap (λ n. z +ℤ pos (2 ^ s * (2 ^ n / 2))) u ∙ ap (λ n. z +ℤ pos n) none ∙
    (let e : z +ℤ pos 0 ≡ z = omega (arith, ints) in e)

ac_same : (s depth : ℕ) (low : Option ℕ) (z : ℤ) (m : ℕ) → AcFull s depth 0 low m → restored_ac s low z ≡ z
ac_same s depth None z m h = refl
ac_same s depth (Some low) z m h = by z
  where
    none : 2 ^ s * (3 * 2 ^ (low - s) / 8) ≡ 0
    none =
        let most = h.0 in
        let u : low - s ≡ 0 = omega (arith, most) in
        ap (λ n. 2 ^ s * (3 * 2 ^ n / 8)) u ∙ (let e : 2 ^ s * 0 ≡ 0 = omega arith in e)

    by : (z : ℤ) → restored_ac s (Some low) z ≡ z
    by (pos zero) = refl
    by (pos (suc n)) = ap (λ m. pos (suc n + m)) none ∙ ap pos (let e : suc n + 0 ≡ suc n = omega arith in e)
    by (negsuc n) = ap (λ m. negsuc (n + m)) none ∙ ap negsuc (let e : n + 0 ≡ n = omega arith in e)

pub restored_same : (weights : List ℕ) (q : ℕ) (depths : List ℕ) (g : Given) → ((r : ℕ) → r < length g.numbers → length (get_or g.numbers r []) ≡ 64) →
    HaveAll weights q depths 0 g → restored weights g ≡ g.numbers
restored_same weights q depths g whole h =
    ext_get_or [] (restored weights g) g.numbers (restored_by_position.count weights g)
    (λ r lt. block r (let e = restored_by_position.count weights g in omega (arith, lt, e)))
  where
    number : (r p : ℕ) → r < length g.numbers → p < 64 →
        restored_at weights p (g.lows r p) (get_or (get_or g.numbers r []) p (pos 0)) ≡ get_or (get_or g.numbers r []) p (pos 0)
    number r zero lt few = dc_same (shift weights 0) q (g.lows r 0) (get_or (get_or g.numbers r []) 0 (pos 0)) (h.dc r (let e = h.long in omega (arith, lt, e)))
    number r (suc p) lt few =
        let e : (suc p == 0) ≡ false = grind (arith, nat_tests) in
        let z = get_or (get_or g.numbers r []) (suc p) (pos 0) in
        ap (λ (x : Bool). if x then restored_dc (shift weights 0) (g.lows r (suc p)) z else restored_ac (shift weights (suc p)) (g.lows r (suc p)) z) e ∙
        ac_same (shift weights (suc p)) (get_or depths r 0) (g.lows r (suc p)) z (magnitude (get_or g.numbers r []) (suc p))
        (h.acs r (suc p) (let f = h.long in omega (arith, lt, f)) (omega arith, few))

    block : (r : ℕ) → r < length g.numbers → get_or (restored weights g) r [] ≡ get_or g.numbers r []
    block r lt =
        let long = restored_by_position.long weights g r lt in
        ext_get_or (pos 0) (get_or (restored weights g) r []) (get_or g.numbers r []) (long ∙ sym (whole r lt))
        (λ p few. let in_64 : p < 64 = omega (arith, few, long) in restored_by_position.at weights g r p lt in_64 ∙ number r p lt in_64)
