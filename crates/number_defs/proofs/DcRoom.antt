-- Whatever the bits of a DC number are that a DC part does not give, it is in a range.
use Rattle.std.proofs.Common.{◌≡◌, ◌≤◌, ◌<◌, ℕ, zero, suc, ◌+◌, ◌-◌, ◌*◌, ◌^◌, ◌==◌}
use Rattle.std.proofs.Common.{nat_lt, Bool, true, false, if◌then◌else◌, List, length, get_or, refl, ap, sym}
use Rattle.std.proofs.Common.{subst, arith, Option, Some, None, ℤ, pos, negsuc, ◌∙◌, ◌+ℤ◌, ◌-ℤ◌, ◌*ℤ◌, ◌≤ℤ◌, neg_ℤ, pow_mono, inl, inr}
use Rattle.std.proofs.lemmas.Bool.{cases_lt}
use Rattle.std.proofs.lemmas.Bool.Decides.{nat_tests}
use Rattle.std.proofs.lemmas.Int.{ints}
use Rattle.std.proofs.lemmas.Nat.{pow-add}
use Rattle.std.proofs.Math.IntN.{pos-*ℤ-pos, negsuc-*ℤ-pos}
use Rattle.std.proofs.Math.Nat.{mul-le-mul_right}
use Rattle.number_defs.specs.Ranges.{number_at}
use Rattle.number_defs.specs.DcPart.{dc_q, dc_bits, dc_kind, dc_planes}
use Rattle.item_defs.specs.Scripts.{ask, done, around, bit_form}
use Rattle.item_defs.proofs.ScriptYields.{Yields, yields_then, yields_turn, yields_weaker, yields_around}
use Rattle.item_defs.proofs.Room.{Room, room_less, room_bit}
use Rattle.number_defs.specs.NumberScript.{numbers_script}
use Rattle.number_defs.specs.DcLows.{DcGiven, no_dcs, with_dc_given, dc_bits_given, dcs_given, high_given, dc_planes_given, dc_given}
use Rattle.number_defs.proofs.Heights.{half}
use Rattle.number_defs.proofs.NumberGoes.{Few}
use Rattle.number_defs.proofs.NumberYields.{numbers_yield}

-- each number has room above the bits that are given, from the k-th plane on
abbrev pub HaveRoom : (most k : ℕ) → DcGiven → Type 0
HaveRoom most k g = (r : ℕ) → Room most k (g.lows r) (g.dcs r)

pub have_less : (most k n : ℕ) (g : DcGiven) → n ≤ k → HaveRoom most k g → HaveRoom most n g
have_less most k n g le h r = room_less most k n (g.lows r) (g.dcs r) le (h r)

product : (h H K : ℕ) → (pos h -ℤ pos H) *ℤ pos K ≡ pos (h * K) -ℤ pos (H * K)
product h H K = elim (cases_lt h H) [
  | inl lt ↦
      let d = H - suc h in
      let less : pos h -ℤ pos H ≡ negsuc d = omega (arith, ints, lt) in
      let e : H ≡ h + suc d = omega (arith, lt) in
      let parts : H * K ≡ h * K + suc d * K = ap (λ n. n * K) e ∙ sum h (suc d) in
      ap (λ z. z *ℤ pos K) less ∙ negsuc-*ℤ-pos d K ∙ omega (arith, ints, parts)
  | inr le ↦
      let d = h - H in
      let more : pos h -ℤ pos H ≡ pos d = omega (arith, ints, le) in
      let e : h ≡ H + d = omega (arith, le) in
      let parts : h * K ≡ H * K + d * K = ap (λ n. n * K) e ∙ sum H d in
      ap (λ z. z *ℤ pos K) more ∙ pos-*ℤ-pos d K ∙ omega (arith, ints, parts)
]
  where
    sum : (a b : ℕ) → (a + b) * K ≡ a * K + b * K
    sum a b = grind arith

-- a number with N bits above q others
high_room : (most N q h : ℕ) → 1 ≤ N → N - 1 + q ≤ most → h < 2 ^ N → Room most q (Some q) (number_at true N h *ℤ pos (2 ^ q))
high_room most N q h some few lt =
    let H = 2 ^ (N - 1) in
    let K = 2 ^ q in
    let e = product h H K in
    let twice = half N some in
    let room : H * K ≤ 2 ^ most = subst (λ n. n ≤ 2 ^ most) (pow-add 2 (N - 1) q) (pow_mono few) in
    let up : suc h * K ≤ 2 * H * K = mul-le-mul_right K (omega (arith, lt, twice)) in (
      omega arith,
      subst (λ z. neg_ℤ (pos (2 ^ most)) ≤ℤ z) (sym e) (omega (arith, ints, room)),
      subst (λ z. (z +ℤ pos K) ≤ℤ pos (2 ^ most)) (sym e) (
          let f : suc h * K ≡ h * K + K = omega arith in
          let g : 2 * H * K ≡ H * K + H * K = grind arith in
          omega (arith, ints, room, up, f, g)),
    )

-- a number of one bit, of the weight -2 ^ q
raw_room : (most q b : ℕ) (z : ℤ) → q ≤ most → b < 2 → z ≡ pos 0 → Room most q (Some q) (z +ℤ (pos b *ℤ neg_ℤ (pos (2 ^ q))))
raw_room most q zero z few lt e =
    let le : 2 ^ q ≤ 2 ^ most = pow_mono few in
    let p : pos 0 *ℤ neg_ℤ (pos (2 ^ q)) ≡ pos 0 = grind (arith, nat_tests, ints) in
    (omega arith, omega (arith, ints, e, p, le), omega (arith, ints, e, p, le))
raw_room most q (suc zero) z few lt e =
    let le : 2 ^ q ≤ 2 ^ most = pow_mono few in
    let p : pos 1 *ℤ neg_ℤ (pos (2 ^ q)) ≡ neg_ℤ (pos (2 ^ q)) = grind (arith, nat_tests, ints) in
    (omega arith, omega (arith, ints, e, p, le), omega (arith, ints, e, p, le))
raw_room most q (suc (suc b)) z few lt e = absurd (omega (arith, lt))

module _ (most q count : ℕ) where
  -- block r has this number, and all else is as it was
  at_block : (P : ℕ → Option ℕ → ℤ → Type 0) (g : DcGiven) (r plane : ℕ) (dc : ℤ) → P r (Some plane) dc →
      ((i : ℕ) → (i ≡ r → ⊥) → P i (g.lows i) (g.dcs i)) → (i : ℕ) → P i ((with_dc_given g r dc plane).lows i) ((with_dc_given g r dc plane).dcs i)
  at_block P g r plane dc here others i = by (i == r) refl
    where
      by : (b : Bool) → (i == r) ≡ b → P i (if b then Some plane else g.lows i) (if b then dc else g.dcs i)
      by true e = let same : r ≡ i = grind (arith, nat_tests) in subst (λ j. P j (Some plane) dc) same here
      by false e = others i (let ne : i ≡ r → ⊥ = grind (arith, nat_tests) in ne)

  -- ---- numbers of one bit

  abbrev Raw : ℕ → DcGiven → Type 0
  Raw j g = HaveRoom most q g × ((r : ℕ) → j ≤ r → g.lows r ≡ None)

  none_is : (low : Option ℕ) (z : ℤ) → Room most q low z → low ≡ None → z ≡ pos 0
  none_is None z room e = room
  none_is (Some l) z room e = absurd cc

  raw_yields : q ≤ most → Yields (HaveRoom most 0) (HaveRoom most q) (dc_bits_given (neg_ℤ (pos (2 ^ q))) q count no_dcs)
  raw_yields few =
      yields_weaker (HaveRoom most 0) (Raw (0 + count)) (HaveRoom most q) (λ g p. p.0)
      (dc_bits_given (neg_ℤ (pos (2 ^ q))) q count no_dcs)
      (yields_turn (HaveRoom most 0) Raw (λ r g. ask g bit_form (λ b. done (with_dc_given g r (g.dcs r +ℤ (pos b *ℤ neg_ℤ (pos (2 ^ q)))) q))) 0 count
      (λ r g low high p. (
        have_less most q 0 g (omega arith) p.0,
        λ b said good. (
          at_block (λ i. Room most q) g r q _
              (raw_room most q b (g.dcs r) few said (none_is (g.lows r) (g.dcs r) (p.0 r) (p.1 r (omega arith)))) (λ i ne. p.0 i),
          λ i le. at_block (λ j l z. suc r ≤ j → l ≡ None) g r q (g.dcs r +ℤ (pos b *ℤ neg_ℤ (pos (2 ^ q)))) (λ lt. absurd (omega (arith, lt)))
              (λ j ne lt. p.1 j (omega (arith, lt))) i le,
        ),
      ))
      no_dcs (λ r. refl, λ r le. refl))

  -- ---- any numbers

  pub high_yields : (N : ℕ) → 1 ≤ N → N - 1 + q ≤ most → Yields (HaveRoom most 0) (HaveRoom most q) (high_given N q count)
  high_yields N some few = by (N == 1)
    where
      from_heights : (hs : List ℕ) → Few (2 ^ N) hs → HaveRoom most q (dcs_given N q hs)
      from_heights hs p r = at (nat_lt r (length hs))
        where
          at : (b : Bool) →
              Room most q (if b then Some q else None) (if b then number_at true N (get_or hs r 0) *ℤ pos (2 ^ q) else pos 0)
          at true = high_room most N q (get_or hs r 0) some few (p r)
          at false = refl

      by : (b : Bool) → Yields (HaveRoom most 0) (HaveRoom most q)
          (if b then dc_bits_given (neg_ℤ (pos (2 ^ q))) q count no_dcs else around (dcs_given N q) (numbers_script (dc_kind N) count))
      by true = raw_yields (omega (arith, few))
      by false =
          yields_around (Few (2 ^ N)) (Few (2 ^ N)) (HaveRoom most 0) (HaveRoom most q) (dcs_given N q)
          (λ hs p. have_less most q 0 (dcs_given N q hs) (omega arith) (from_heights hs p)) from_heights
          (numbers_script (dc_kind N) count) (numbers_yield (dc_kind N) count)

  -- ---- further planes

  abbrev InPlane : (k : ℕ) → ℕ → DcGiven → Type 0
  InPlane k j g = (r : ℕ) → Room most (if nat_lt r j then k else suc k) (g.lows r) (g.dcs r)

  plane_yields : (k : ℕ) → k < most → (g : DcGiven) → HaveRoom most (suc k) g →
      Yields (HaveRoom most 0) (HaveRoom most k) (dc_bits_given (pos (2 ^ k)) k count g)
  plane_yields k few g h =
      yields_weaker (HaveRoom most 0) (InPlane k (0 + count)) (HaveRoom most k) (λ u p r. least (nat_lt r (0 + count)) (u.lows r) (u.dcs r) (p r))
      (dc_bits_given (pos (2 ^ k)) k count g)
      (yields_turn (HaveRoom most 0) (InPlane k) (λ r u. ask u bit_form (λ b. done (with_dc_given u r (u.dcs r +ℤ (pos b *ℤ pos (2 ^ k))) k))) 0 count
      (λ r u low high p. (
        λ i. any (nat_lt i r) (u.lows i) (u.dcs i) (p i),
        λ b said good. at_block (λ i. Room most (if nat_lt i (suc r) then k else suc k)) u r k (u.dcs r +ℤ (pos b *ℤ pos (2 ^ k)))
            (here r b (u.lows r) (u.dcs r) said (p r)) (λ i ne. later i r (u.lows i) (u.dcs i) ne (p i)),
      ))
      g (λ r. let e : nat_lt r 0 ≡ false = grind (arith, nat_tests) in
      subst (λ (x : Bool). Room most (if x then k else suc k) (g.lows r) (g.dcs r)) (sym e) (h r)))
    where
      least : (x : Bool) (low : Option ℕ) (z : ℤ) → Room most (if x then k else suc k) low z → Room most k low z
      least true low z room = room
      least false low z room = room_less most (suc k) k low z (omega arith) room

      any : (x : Bool) (low : Option ℕ) (z : ℤ) → Room most (if x then k else suc k) low z → Room most 0 low z
      any x low z room = room_less most k 0 low z (omega arith) (least x low z room)

      here : (r b : ℕ) (low : Option ℕ) (z : ℤ) → b < 2 → Room most (if nat_lt r r then k else suc k) low z →
          Room most (if nat_lt r (suc r) then k else suc k) (Some k) (z +ℤ (pos b *ℤ pos (2 ^ k)))
      here r b low z lt room =
          let e : nat_lt r r ≡ false = grind (arith, nat_tests) in
          let f : nat_lt r (suc r) ≡ true = grind (arith, nat_tests) in
          subst (λ (x : Bool). Room most (if x then k else suc k) (Some k) (z +ℤ (pos b *ℤ pos (2 ^ k)))) (sym f)
          (room_bit most (suc k) k b low z (omega arith) few lt (subst (λ (x : Bool). Room most (if x then k else suc k) low z) e room))

      later : (i r : ℕ) (low : Option ℕ) (z : ℤ) → (i ≡ r → ⊥) → Room most (if nat_lt i r then k else suc k) low z →
          Room most (if nat_lt i (suc r) then k else suc k) low z
      later i r low z ne room =
          let e : nat_lt i r ≡ nat_lt i (suc r) = grind (arith, nat_tests) in
          subst (λ (x : Bool). Room most (if x then k else suc k) low z) e room

  pub planes_yield : (n : ℕ) → n ≤ q → q ≤ most → (g : DcGiven) → HaveRoom most q g →
      Yields (HaveRoom most 0) (HaveRoom most (q - n)) (dc_planes_given q count n g)
  planes_yield n le few g h =
      let all : 0 + n ≡ n = omega arith in
      subst (λ m. Yields (HaveRoom most 0) (HaveRoom most (q - m)) (dc_planes_given q count n g)) all
      (yields_turn (HaveRoom most 0) (λ i. HaveRoom most (q - i)) (λ i. dc_bits_given (pos (2 ^ (q - suc i))) (q - suc i) count) 0 n
      (λ i u low high p.
      let e : q - i ≡ suc (q - suc i) = omega (arith, high, le) in
      plane_yields (q - suc i) (omega (arith, high, le, few)) u (subst (λ k. HaveRoom most k u) e p))
      g (let e : q ≡ q - 0 = omega arith in subst (λ k. HaveRoom most k g) e h))

pub dc_room : (most depth_dc depth_ac shift count : ℕ) → dc_bits depth_dc depth_ac shift - 1 + dc_q depth_dc depth_ac shift ≤ most →
    Yields (HaveRoom most 0) (HaveRoom most (dc_q depth_dc depth_ac shift - dc_planes depth_dc depth_ac shift)) (dc_given depth_dc depth_ac shift count)
dc_room most depth_dc depth_ac shift count few =
    let N = dc_bits depth_dc depth_ac shift in
    let q = dc_q depth_dc depth_ac shift in
    let n = dc_planes depth_dc depth_ac shift in
    yields_then (HaveRoom most 0) (HaveRoom most q) (HaveRoom most (q - n)) (high_given N q count) (dc_planes_given q count n)
    (high_yields most q count N (omega arith) few) (λ g h. planes_yield most q count n (omega arith) (omega (arith, few)) g h)
