-- The laws of the DC part.
use Rattle.std.proofs.Common.{zero, suc, ◌≡◌, ℕ, ◌+◌, ◌-◌, ◌*◌, ◌≤◌, ◌<◌, ◌^◌, ◌==◌, nat_lt, Bool, true, false, if◌then◌else◌, List, [], ◌∷◌, ◌++◌, length}
use Rattle.std.proofs.Common.{map, refl, subst, sym, ap, ◌∙◌, arith, get_or, ℤ, pos, negsuc, neg_ℤ, ◌+ℤ◌, ◌*ℤ◌, inl, inr, pow_pos}
use Rattle.std.specs.List.{range_with_len}
use Rattle.std.specs.Int.{int_shr}
use Rattle.std.proofs.lemmas.Bool.{cases_lt}
use Rattle.std.proofs.lemmas.Bool.Decides.{nat_tests}
use Rattle.std.proofs.lemmas.Int.{ints}
use Rattle.std.proofs.lemmas.List.{length-map, ext_get_or, get_or-map}
use Rattle.std.proofs.lemmas.List.FromFn.{length-map-range_with_len, get_or-map-range_with_len}
use Rattle.std.proofs.lemmas.Nat.{pow-add}
use Rattle.std.proofs.Math.ListN.{get_or-eq_default}
use Rattle.item_defs.specs.Items.{Form, Item, IsSaid, raw}
use Rattle.number_defs.specs.Ranges.{IsInRange, number_at, height_of, shifted_height}
use Rattle.item_defs.specs.TwosComplement.{complement}
use Rattle.number_defs.specs.Gaggles.{is_option, gaggle_count, number_items}
use Rattle.number_defs.specs.DcPart.{dc_q, dc_bits, dc_planes, dc_kind, dc_bit, high_items, planes_before, dc_items}
use Rattle.number_defs.specs.Laws.{DcsFit}
use Rattle.number_defs.proofs.Equations.{dc_items-is, planes_before-none, planes_before-more}
use Rattle.number_defs.proofs.Heights.{number_back, height_back, height_below}
use Rattle.number_defs.proofs.DcBits.{few_bits}
use Rattle.item_defs.specs.Scripts.{Script, done, ask, then_ask, in_turn, around, bit_form}
use Rattle.item_defs.specs.Following.{Follows}
use Rattle.item_defs.specs.Completing.{ArePossible, Goes}
use Rattle.item_defs.proofs.ScriptLaws.{turns_split, then_done}
use Rattle.item_defs.proofs.FollowLaws.{follows_split, follows_around, around_follows}
use Rattle.item_defs.proofs.Completing.{goes_then, goes_in_turn, goes_around, goes_end, possible_parts}
use Rattle.item_defs.specs.Writing.{Writes}
use Rattle.item_defs.proofs.Writing.{writes_none, writes_then, writes_weaker}
use Rattle.number_defs.specs.NumberScript.{numbers_script}
use Rattle.number_defs.specs.DcScript.{with_dc, dc_bits_script, dcs_of_heights, high_script, dc_planes_script, dc_script}
use Rattle.number_defs.specs.ScriptLaws.{AreCounted, AreGiven, given_part, DcLaws}
use Rattle.number_defs.proofs.NumberLaws.{numbers_counted, written_counted, back_counted}
use Rattle.number_defs.proofs.DcNumbers.{range_more}
use Rattle.item_defs.proofs.TwosComplement.{twice, step_value, shr_step, bit_below, cancel, twice_same}

same_map : (f g : ℕ → Item) (a n : ℕ) → ((r : ℕ) → a ≤ r → r < a + n → f r ≡ g r) → map f (range_with_len a n) ≡ map g (range_with_len a n)
same_map f g a zero same = refl
same_map f g a (suc n) same =
    λ t. same a (omega arith) (omega arith) t ∷ same_map f g (a + 1) n (λ r low high. same r (omega (arith, low)) (omega (arith, high))) t

-- ---- one bit of each block

-- the blocks from j on, n of them, have one bit of this weight more
pub record HaveBits (weight : ℤ) (j n : ℕ) (bits : ℕ → ℕ) (old new : ℕ → ℤ) : Type 0 where
  pub here : (r : ℕ) → j ≤ r → r < j + n → new r ≡ old r +ℤ (pos (bits r) *ℤ weight)
  pub others : (r : ℕ) → (j ≤ r → r < j + n → ⊥) → new r ≡ old r

module _ (weight : ℤ) where
  abbrev pub turn : ℕ → (ℕ → ℤ) → Script (ℕ → ℤ) (ℕ → ℤ)
  turn r dcs = ask dcs bit_form (λ b. done (with_dc dcs r (dcs r +ℤ (pos b *ℤ weight))))

  at_place : (dcs : ℕ → ℤ) (j : ℕ) (z : ℤ) → with_dc dcs j z j ≡ z
  at_place dcs j z = let t : (j == j) ≡ true = grind (arith, nat_tests) in rw t refl

  pub elsewhere : (dcs : ℕ → ℤ) (j r : ℕ) (z : ℤ) → (r ≡ j → ⊥) → with_dc dcs j z r ≡ dcs r
  elsewhere dcs j r z ne = let t : (r == j) ≡ false = grind (arith, nat_tests) in rw t refl

  -- one place more
  first_bit : (j n b : ℕ) (bits : ℕ → ℕ) (old new : ℕ → ℤ) → bits j ≡ b → HaveBits weight (suc j) n bits (with_dc old j (old j +ℤ (pos b *ℤ weight))) new →
      HaveBits weight j (suc n) bits old new
  first_bit j n b bits old new e p = record {
    here = λ r low high. elim (cases_lt j r) [
      | inl lt ↦ p.here r (omega (arith, lt)) (omega (arith, high)) ∙
          ap (λ z. z +ℤ (pos (bits r) *ℤ weight)) (elsewhere old j r _ (λ f. absurd (omega (arith, f, lt))))
      | inr ge ↦
          let same : r ≡ j = omega (arith, low, ge) in
          ap new same ∙ p.others j (λ a c. absurd (omega (arith, a))) ∙ at_place old j _ ∙
          (λ t. old (sym same t) +ℤ (pos ((sym e ∙ ap bits (sym same)) t) *ℤ weight))
    ];
    others = λ r out. p.others r (λ a c. out (omega (arith, a)) (omega (arith, c))) ∙ elsewhere old j r _ (λ f. out (omega (arith, f)) (omega (arith, f)));
  }

  abbrev IsBits : (bits : ℕ → ℕ) → Type 0
  IsBits bits = (r : ℕ) → bits r < 2

  -- what possible answers give
  bits_back : (j n : ℕ) (old new : ℕ → ℤ) (items : List Item) → ArePossible items → Follows (in_turn turn j n old) items new →
      (bits : ℕ → ℕ) × IsBits bits × HaveBits weight j n bits old new × (items ≡ map (λ r. raw (bits r)) (range_with_len j n))
  bits_back j zero old new [] are f =
      (λ r. 0, λ r. omega arith, record { here = λ r low high. absurd (omega (arith, low, high)); others = λ r out t. sym f t r }, refl)
  bits_back j zero old new (i ∷ is) are f = absurd f
  bits_back j (suc n) old new [] are f = absurd f
  bits_back j (suc n) old new (i ∷ is) are f =
      let w = bits_back (suc j) n (with_dc old j (old j +ℤ (pos i.said *ℤ weight))) new is are.1 f.1 in
      join i.said (subst (λ (x : Form). IsSaid x.shape i.said) (sym f.0) are.0.0) w.0 w.1 w.2 (λ t. record { form = sym f.0 t; said = i.said } ∷ w.3 t)
    where
      join : (b : ℕ) → b < 2 → (bits : ℕ → ℕ) → ((r : ℕ) → bits r < 2) → HaveBits weight (suc j) n bits (with_dc old j (old j +ℤ (pos b *ℤ weight))) new →
          i ∷ is ≡ raw b ∷ map (λ r. raw (bits r)) (range_with_len (suc j) n) →
          (all : ℕ → ℕ) × ((r : ℕ) → all r < 2) × HaveBits weight j (suc n) all old new × (i ∷ is ≡ map (λ r. raw (all r)) (range_with_len j (suc n)))
      join b small bits are have e = (
        all,
        λ r. by (r == j) (are r),
        first_bit j n b all old new here (record {
          here = λ r low high. have.here r low high ∙
              ap (λ x. with_dc old j (old j +ℤ (pos b *ℤ weight)) r +ℤ (pos x *ℤ weight)) (sym (later r (omega (arith, low))));
          others = have.others;
        }),
        e ∙ (λ t. raw (sym here t) ∷ same_map (λ r. raw (bits r)) (λ r. raw (all r)) (suc j) n (λ r low high. ap raw (sym (later r (omega (arith, low))))) t) ∙
            ap (λ k. raw (all j) ∷ map (λ r. raw (all r)) (range_with_len k n)) (let z : suc j ≡ j + 1 = omega arith in z),
      )
        where
          all : ℕ → ℕ
          all r = if r == j then b else bits r

          here : all j ≡ b
          here = let t : (j == j) ≡ true = grind (arith, nat_tests) in rw t refl

          later : (r : ℕ) → j < r → all r ≡ bits r
          later r lt = let t : (r == j) ≡ false = grind (arith, nat_tests) in rw t refl

          by : (t : Bool) {x : ℕ} → x < 2 → (if t then b else x) < 2
          by true p = small
          by false p = p

  bits_written : (bits : ℕ → ℕ) (j n : ℕ) (old : ℕ → ℤ) →
      Writes (in_turn turn j n old) (map (λ r. raw (bits r)) (range_with_len j n)) (HaveBits weight j n bits old)
  bits_written bits j zero old =
      writes_none (HaveBits weight j 0 bits old) old (record { here = λ r low high. absurd (omega (arith, low, high)); others = λ r out. refl })
  bits_written bits j (suc n) old =
      let w = bits_written bits (suc j) n (with_dc old j (old j +ℤ (pos (bits j) *ℤ weight))) in
      let z : suc j ≡ j + 1 = omega arith in
      record {
        end = w.end;
        is = first_bit j n (bits j) bits old w.end refl w.is;
        follows = (
          refl,
          subst (λ k. Follows (in_turn turn (suc j) n (with_dc old j (old j +ℤ (pos (bits j) *ℤ weight))))
              (map (λ r. raw (bits r)) (range_with_len k n)) w.end) z w.follows,
        );
      }

  bits_go : (P : (ℕ → ℤ) → Type 0) (j n : ℕ) (old : ℕ → ℤ) → ((bits : ℕ → ℕ) (new : ℕ → ℤ) → IsBits bits → HaveBits weight j n bits old new → P new) →
      Goes (in_turn turn j n old) P
  bits_go P j zero old keeps = keeps (λ r. 0) old (λ r. omega arith) (record { here = λ r low high. absurd (omega (arith, low, high)); others = λ r out. refl })
  bits_go P j (suc n) old keeps = (
    tt,
    (0, omega arith, tt),
    λ b said good. bits_go P (suc j) n (with_dc old j (old j +ℤ (pos b *ℤ weight)))
        (λ bits new are have. keeps (all b bits) new (λ r. by b bits said (r == j) (are r)) (first_bit j n b (all b bits) old new (here b bits) (record {
          here = λ r low high. have.here r low high ∙
              ap (λ x. with_dc old j (old j +ℤ (pos b *ℤ weight)) r +ℤ (pos x *ℤ weight)) (sym (later b bits r (omega (arith, low))));
          others = have.others;
        }))),
  )
    where
      all : ℕ → (ℕ → ℕ) → ℕ → ℕ
      all b bits r = if r == j then b else bits r

      here : (b : ℕ) (bits : ℕ → ℕ) → all b bits j ≡ b
      here b bits = let t : (j == j) ≡ true = grind (arith, nat_tests) in rw t refl

      later : (b : ℕ) (bits : ℕ → ℕ) (r : ℕ) → j < r → all b bits r ≡ bits r
      later b bits r lt = let t : (r == j) ≡ false = grind (arith, nat_tests) in rw t refl

      by : (b : ℕ) (bits : ℕ → ℕ) → b < 2 → (t : Bool) {x : ℕ} → x < 2 → (if t then b else x) < 2
      by b bits small true p = small
      by b bits small false p = p

-- ---- the parts of a DC part

-- the bits that DC numbers have at a place
abbrev bits_at : List ℤ → ℕ → ℕ → ℕ
bits_at dcs c r = complement 1 (int_shr (get_or dcs r (pos 0)) c)

pub map_range : (c : ℕ) (dcs : List ℤ) → map (dc_bit c) dcs ≡ map (λ r. raw (bits_at dcs c r)) (range_with_len 0 (length dcs))
map_range c dcs =
    ext_get_or (raw 0) (map (dc_bit c) dcs) (map (λ r. raw (bits_at dcs c r)) (range_with_len 0 (length dcs))) (length-map dcs (dc_bit c) ∙
    sym (length-map-range_with_len (λ r. raw (bits_at dcs c r)) 0 (length dcs)))
    (λ i lt. get_or-map (dc_bit c) dcs i (pos 0) (raw 0) (omega (arith, lt, length-map dcs (dc_bit c))) ∙
    sym (get_or-map-range_with_len (λ r. raw (bits_at dcs c r)) 0 (length dcs) i i (raw 0) (omega (arith, lt, length-map dcs (dc_bit c))) (omega arith)))

doubled : (q n : ℕ) → suc n ≤ q → 2 ^ (q - n) ≡ 2 * 2 ^ (q - suc n)
doubled q n le = let e : q - n ≡ (q - suc n) + 1 = omega (arith, le) in ap (λ k. 2 ^ k) e ∙ pow-add 2 (q - suc n) 1 ∙
    (let f : 2 ^ (q - suc n) * 2 ^ 1 ≡ 2 * 2 ^ (q - suc n) = grind arith in f)

-- the same number with a bit more
more_given : (q n b : ℕ) (z : ℤ) → suc n ≤ q → b < 2 → (z *ℤ pos (2 ^ (q - n))) +ℤ (pos b *ℤ pos (2 ^ (q - suc n))) ≡ twice z b *ℤ pos (2 ^ (q - suc n))
more_given q n b z le lt = ap (λ k. (z *ℤ pos k) +ℤ (pos b *ℤ pos (2 ^ (q - suc n)))) (doubled q n le) ∙ step_value z b (2 ^ (q - suc n)) lt

part_more : (q n : ℕ) (dc : ℤ) → suc n ≤ q →
    given_part q n dc +ℤ (pos (complement 1 (int_shr dc (q - suc n))) *ℤ pos (2 ^ (q - suc n))) ≡ given_part q (suc n) dc
part_more q n dc le =
    let e : q - n ≡ suc (q - suc n) = omega (arith, le) in
    more_given q n (complement 1 (int_shr dc (q - suc n))) (int_shr dc (q - n)) le (bit_below (int_shr dc (q - suc n))) ∙
    ap (λ z. z *ℤ pos (2 ^ (q - suc n))) (ap (λ k. twice (int_shr dc k) (complement 1 (int_shr dc (q - suc n)))) e ∙ sym (shr_step dc (q - suc n)))

module _ (N q count : ℕ) where
  abbrev pub plane : ℕ → (ℕ → ℤ) → Script (ℕ → ℤ) (ℕ → ℤ)
  plane i = dc_bits_script (pos (2 ^ (q - suc i))) count

  -- the given parts of these numbers
  abbrev pub Parts : List ℤ → ℕ → (ℕ → ℤ) → Type 0
  Parts xs n dcs = (r : ℕ) → r < count → dcs r ≡ given_part q n (get_or xs r (pos 0))

  plane_goes : (n : ℕ) (dcs : ℕ → ℤ) → 1 ≤ N → suc n ≤ q → AreGiven N q n count dcs → Goes (plane n dcs) (AreGiven N q (suc n) count)
  plane_goes n dcs some le given = bits_go (pos (2 ^ (q - suc n))) (AreGiven N q (suc n) count) 0 count dcs (λ bits new are have r lt.
      let g = given r lt in
      let e : N + n + 1 ≡ N + suc n = omega arith in (
        twice g.0 (bits r),
        subst (λ m. IsInRange true m (twice g.0 (bits r))) e (range_more (N + n) (bits r) g.0 (omega (arith, some)) (are r) g.1),
        have.here r (omega arith) (omega (arith, lt)) ∙ ap (λ z. z +ℤ (pos (bits r) *ℤ pos (2 ^ (q - suc n)))) g.2 ∙ more_given q n (bits r) g.0 le (are r),
      ))

  planes_go : (n : ℕ) (dcs : ℕ → ℤ) → 1 ≤ N → n ≤ q → AreGiven N q 0 count dcs → Goes (dc_planes_script q count n dcs) (AreGiven N q n count)
  planes_go n dcs some le given =
      let e : 0 + n ≡ n = omega arith in
      subst (λ m. Goes (in_turn plane 0 n dcs) (AreGiven N q m count)) e
      (goes_in_turn (λ i. AreGiven N q i count) plane 0 n (λ i s low high p. plane_goes i s some (omega (arith, high, le)) p) dcs given)

  pub last_turn : (n : ℕ) (dcs : ℕ → ℤ) → in_turn plane 0 (suc n) dcs ≡ then_ask (in_turn plane 0 n dcs) (plane n)
  last_turn n dcs =
      let e : suc n ≡ n + 1 = omega arith in
      let z : 0 + n ≡ n = omega arith in
      ap (λ m. in_turn plane 0 m dcs) e ∙ turns_split (ℕ → ℤ) plane 0 n 1 dcs ∙ ap (λ j. then_ask (in_turn plane 0 n dcs) (in_turn plane j 1)) z ∙
      (λ t. then_ask (in_turn plane 0 n dcs) (λ s. then_done (plane n s) t))

  pub plane_written : (xs : List ℤ) → length xs ≡ count → (n : ℕ) (s : ℕ → ℤ) → suc n ≤ q → Parts xs n s →
      Writes (plane n s) (map (dc_bit (q - suc n)) xs) (Parts xs (suc n))
  plane_written xs long n s le p =
      let bits = bits_at xs (q - suc n) in
      let items : map (λ r. raw (bits r)) (range_with_len 0 count) ≡ map (dc_bit (q - suc n)) xs =
      ap (λ m. map (λ r. raw (bits r)) (range_with_len 0 m)) (sym long) ∙ sym (map_range (q - suc n) xs) in
      subst (λ l. Writes (plane n s) l (Parts xs (suc n))) items
      (writes_weaker (HaveBits (pos (2 ^ (q - suc n))) 0 count bits s) (Parts xs (suc n)) (plane n s) (map (λ r. raw (bits r)) (range_with_len 0 count))
      (λ new have r lt. have.here r (omega arith) (omega (arith, lt)) ∙ ap (λ z. z +ℤ (pos (bits r) *ℤ pos (2 ^ (q - suc n)))) (p r lt) ∙
      part_more q n (get_or xs r (pos 0)) le)
      (bits_written (pos (2 ^ (q - suc n))) bits 0 count s))

  pub planes_written : (xs : List ℤ) → length xs ≡ count → (n : ℕ) (dcs : ℕ → ℤ) → n ≤ q → Parts xs 0 dcs →
      Writes (in_turn plane 0 n dcs) (planes_before q xs n) (Parts xs n)
  planes_written xs long zero dcs le parts =
      subst (λ l. Writes {G = ℕ → ℤ} (done dcs) l (Parts xs 0)) (sym (planes_before-none q xs)) (writes_none (Parts xs 0) dcs parts)
  planes_written xs long (suc n) dcs le parts =
      subst (λ l. Writes (in_turn plane 0 (suc n) dcs) l (Parts xs (suc n))) (sym (planes_before-more q xs n))
      (subst (λ s. Writes s (planes_before q xs n ++ map (dc_bit (q - suc n)) xs) (Parts xs (suc n))) (sym (last_turn n dcs))
      (writes_then (Parts xs n) (Parts xs (suc n)) (in_turn plane 0 n dcs) (plane n) (planes_before q xs n) (map (dc_bit (q - suc n)) xs)
      (planes_written xs long n dcs (omega (arith, le)) parts) (λ s p. plane_written xs long n s le p)))

  -- the numbers determine the bits
  plane_same : (xs : List ℤ) (n : ℕ) (mid new : ℕ → ℤ) (bits : ℕ → ℕ) → suc n ≤ q → AreGiven N q n count mid → ((r : ℕ) → bits r < 2) →
      HaveBits (pos (2 ^ (q - suc n))) 0 count bits mid new → Parts xs (suc n) new →
      (r : ℕ) → r < count → (mid r ≡ given_part q n (get_or xs r (pos 0))) × (bits r ≡ bits_at xs (q - suc n) r)
  plane_same xs n mid new bits le given small have parts r lt =
      let g = given r lt in
      let dc = get_or xs r (pos 0) in
      let e : twice g.0 (bits r) *ℤ pos (2 ^ (q - suc n)) ≡ int_shr dc (q - suc n) *ℤ pos (2 ^ (q - suc n)) =
      sym (have.here r (omega arith) (omega (arith, lt)) ∙ ap (λ z. z +ℤ (pos (bits r) *ℤ pos (2 ^ (q - suc n)))) g.2 ∙
      more_given q n (bits r) g.0 le (small r)) ∙ parts r lt in
      let k : suc (q - suc n) ≡ q - n = omega (arith, le) in
      let w = twice_same g.0 (int_shr dc (suc (q - suc n))) (bits r) (complement 1 (int_shr dc (q - suc n))) (small r) (bit_below (int_shr dc (q - suc n)))
      (cancel (twice g.0 (bits r)) (int_shr dc (q - suc n)) (2 ^ (q - suc n)) (pow_pos (q - suc n)) e ∙ shr_step dc (q - suc n)) in
      (g.2 ∙ ap (λ z. z *ℤ pos (2 ^ (q - n))) (w.0 ∙ ap (int_shr dc) k), w.1)

  plane_items : (xs : List ℤ) → length xs ≡ count → (n : ℕ) (bits : ℕ → ℕ) → ((r : ℕ) → r < count → bits r ≡ bits_at xs (q - suc n) r) →
      map (λ r. raw (bits r)) (range_with_len 0 count) ≡ map (dc_bit (q - suc n)) xs
  plane_items xs long n bits same =
      same_map (λ r. raw (bits r)) (λ r. raw (bits_at xs (q - suc n) r)) 0 count (λ r low high. ap raw (same r (omega (arith, high)))) ∙
      ap (λ m. map (λ r. raw (bits_at xs (q - suc n) r)) (range_with_len 0 m)) (sym long) ∙ sym (map_range (q - suc n) xs)

  planes_back : (xs : List ℤ) → length xs ≡ count → (n : ℕ) (dcs new : ℕ → ℤ) → 1 ≤ N → n ≤ q → AreGiven N q 0 count dcs → (items : List Item) →
      ArePossible items → Follows (in_turn plane 0 n dcs) items new → Parts xs n new →
      Parts xs 0 dcs × (items ≡ planes_before q xs n)
  planes_back xs long zero dcs new some le given [] are f parts = (λ r lt. (λ t. f t r) ∙ parts r lt, sym (planes_before-none q xs))
  planes_back xs long zero dcs new some le given (i ∷ is) are f parts = absurd f
  planes_back xs long (suc n) dcs new some le given items are f parts =
      let a = follows_split (plane n) (in_turn plane 0 n dcs) items new (subst (λ s. Follows s items new) (last_turn n dcs) f) in
      let aa = possible_parts a.first a.rest (subst ArePossible a.both are) in
      let mid : AreGiven N q n count a.value =
      goes_end (AreGiven N q n count) (in_turn plane 0 n dcs) (planes_go n dcs some (omega (arith, le)) given) a.first a.value aa.0 a.follows in
      let w = bits_back (pos (2 ^ (q - suc n))) 0 count a.value new a.rest aa.1 a.then in
      let one = plane_same xs n a.value new w.0 le mid w.1 w.2 parts in
      let before = planes_back xs long n dcs a.value some (omega (arith, le)) given a.first aa.0 a.follows (λ r lt. (one r lt).0) in
      (before.0, a.both ∙ (λ t. before.1 t ++ (w.3 ∙ plane_items xs long n w.0 (λ r lt. (one r lt).1)) t) ∙ sym (planes_before-more q xs n))

-- ---- the high bits

abbrev minus : ℕ → ℤ
minus zero = pos 0
minus (suc b) = negsuc b

minus_value : (b K : ℕ) → b < 2 → pos 0 +ℤ (pos b *ℤ neg_ℤ (pos K)) ≡ minus b *ℤ pos K
minus_value zero K lt = grind (arith, nat_tests, ints)
minus_value (suc zero) K lt = grind (arith, nat_tests, ints)
minus_value (suc (suc b)) K lt = absurd (omega (arith, lt))

minus_range : (b : ℕ) → b < 2 → IsInRange true 1 (minus b)
minus_range zero lt = record { low = omega (arith, ints); high = omega (arith, ints) }
minus_range (suc zero) lt = record { low = omega (arith, ints); high = omega (arith, ints) }
minus_range (suc (suc b)) lt = absurd (omega (arith, lt))

minus_bit : (b : ℕ) → b < 2 → complement 1 (minus b) ≡ b
minus_bit zero lt = refl
minus_bit (suc zero) lt = refl
minus_bit (suc (suc b)) lt = absurd (omega (arith, lt))

one_bit : (z : ℤ) → IsInRange true 1 z → z ≡ minus (complement 1 z)
one_bit (pos zero) r = refl
one_bit (pos (suc n)) r = absurd (let high = r.high in omega (arith, ints, high))
one_bit (negsuc zero) r = refl
one_bit (negsuc (suc n)) r = absurd (let low = r.low in omega (arith, ints, low))

number_range : (N h : ℕ) → h < 2 ^ N → IsInRange true N (number_at true N h)
number_range N h lt = record { low = omega (arith, ints, lt); high = omega (arith, ints, lt) }

module _ (N q count : ℕ) where
  no_bits : q - 0 ≡ q
  no_bits = omega arith

  -- no bit below q is given
  all_high : (z : ℤ) → z *ℤ pos (2 ^ q) ≡ z *ℤ pos (2 ^ (q - 0))
  all_high z = ap (λ k. z *ℤ pos (2 ^ k)) (sym no_bits)

  high_part : (dc : ℤ) → int_shr dc q *ℤ pos (2 ^ q) ≡ given_part q 0 dc
  high_part dc = λ t. int_shr dc (sym no_bits t) *ℤ pos (2 ^ sym no_bits t)

  dcs_at : (hs : List ℕ) (r : ℕ) → r < length hs → dcs_of_heights N q hs r ≡ number_at true N (get_or hs r 0) *ℤ pos (2 ^ q)
  dcs_at hs r lt = let t : nat_lt r (length hs) ≡ true = grind (arith, nat_tests) in rw t refl

  -- what holds of each case holds of the script
  by_bits : (P : Script (ℕ → ℤ) (ℕ → ℤ) → Type 0) → (N ≡ 1 → P (dc_bits_script (neg_ℤ (pos (2 ^ q))) count (λ r. pos 0))) →
      ((N ≡ 1 → ⊥) → P (around (dcs_of_heights N q) (numbers_script (dc_kind N) count))) → P (high_script N q count)
  by_bits P a b = by (N == 1) refl
    where
      by : (t : Bool) → (N == 1) ≡ t →
          P (if t then dc_bits_script (neg_ℤ (pos (2 ^ q))) count (λ r. pos 0) else around (dcs_of_heights N q) (numbers_script (dc_kind N) count))
      by true e = a (grind (arith, nat_tests))
      by false e = b (grind (arith, nat_tests))

  high_goes : Goes (high_script N q count) (AreGiven N q 0 count)
  high_goes =
      by_bits (λ s. Goes s (AreGiven N q 0 count))
      (λ e. bits_go (neg_ℤ (pos (2 ^ q))) (AreGiven N q 0 count) 0 count (λ r. pos 0) (λ bits new are have r lt. (
        minus (bits r),
        (let f : 1 ≡ N + 0 = omega (arith, e) in subst (λ m. IsInRange true m (minus (bits r))) f (minus_range (bits r) (are r))),
        have.here r (omega arith) (omega (arith, lt)) ∙ minus_value (bits r) (2 ^ q) (are r) ∙ all_high (minus (bits r)),
      )))
      (λ ne. goes_around (AreCounted (2 ^ N) count) (AreGiven N q 0 count) (dcs_of_heights N q) (λ hs p r lt. (
        number_at true N (get_or hs r 0),
        (let f : N ≡ N + 0 = omega arith in subst (λ m. IsInRange true m (number_at true N (get_or hs r 0))) f (number_range N (get_or hs r 0) (p.few r))),
        dcs_at hs r (omega (arith, lt, p.long)) ∙ all_high (number_at true N (get_or hs r 0)),
      )) (numbers_script (dc_kind N) count) (numbers_counted (dc_kind N) count))

  module _ (xs : List ℤ) (long : length xs ≡ count) (fits : (r : ℕ) → r < count → IsInRange true N (int_shr (get_or xs r (pos 0)) q)) (o : ℕ → ℕ) where
    heights : List ℕ
    heights = map (shifted_height true N q) xs

    height_at : (r : ℕ) → r < count → get_or heights r 0 ≡ shifted_height true N q (get_or xs r (pos 0))
    unfolding heights
    height_at r lt = get_or-map (shifted_height true N q) xs r (pos 0) 0 (omega (arith, lt, long))

    pub high_written : Writes (high_script N q count) (high_items N q xs o) (Parts N q count xs 0)
    unfolding heights
    high_written = by (N == 1) refl
      where
        long_heights : length (map (shifted_height true N q) xs) ≡ count
        long_heights = length-map xs (shifted_height true N q) ∙ long

        few : (i : ℕ) → get_or (map (shifted_height true N q) xs) i 0 < 2 ^ N
        few i = elim (cases_lt i count) [
          | inl lt ↦ subst (λ h. h < 2 ^ N) (sym (height_at i lt)) (height_below true N (int_shr (get_or xs i (pos 0)) q) (fits i lt))
          | inr ge ↦ subst (λ h. h < 2 ^ N) (sym (get_or-eq_default (map (shifted_height true N q) xs) 0 (omega (arith, ge, long_heights)))) (pow_pos N)
        ]

        by : (t : Bool) → (N == 1) ≡ t →
            Writes (if t then dc_bits_script (neg_ℤ (pos (2 ^ q))) count (λ r. pos 0) else around (dcs_of_heights N q) (numbers_script (dc_kind N) count))
            (if t then map (dc_bit q) xs else number_items (dc_kind N) (map (shifted_height true N q) xs) o) (Parts N q count xs 0)
        by true e =
            let one : N ≡ 1 = grind (arith, nat_tests) in
            let bits = bits_at xs q in
            let items : map (λ r. raw (bits r)) (range_with_len 0 count) ≡ map (dc_bit q) xs =
            ap (λ m. map (λ r. raw (bits r)) (range_with_len 0 m)) (sym long) ∙ sym (map_range q xs) in
            subst (λ l. Writes (dc_bits_script (neg_ℤ (pos (2 ^ q))) count (λ r. pos 0)) l (Parts N q count xs 0)) items
            (writes_weaker (HaveBits (neg_ℤ (pos (2 ^ q))) 0 count bits (λ r. pos 0)) (Parts N q count xs 0)
            (dc_bits_script (neg_ℤ (pos (2 ^ q))) count (λ r. pos 0)) (map (λ r. raw (bits r)) (range_with_len 0 count))
            (λ new have r lt. have.here r (omega arith) (omega (arith, lt)) ∙ minus_value (bits r) (2 ^ q) (bit_below (int_shr (get_or xs r (pos 0)) q)) ∙
            ap (λ z. z *ℤ pos (2 ^ q))
            (sym (one_bit (int_shr (get_or xs r (pos 0)) q) (subst (λ m. IsInRange true m (int_shr (get_or xs r (pos 0)) q)) one (fits r lt)))) ∙
            high_part (get_or xs r (pos 0)))
            (bits_written (neg_ℤ (pos (2 ^ q))) bits 0 count (λ r. pos 0)))
        by false e = record {
          end = dcs_of_heights N q (map (shifted_height true N q) xs);
          is = λ r lt. dcs_at (map (shifted_height true N q) xs) r (omega (arith, lt, long_heights)) ∙
              ap (λ z. z *ℤ pos (2 ^ q)) (ap (number_at true N) (height_at r lt) ∙ number_back true N (int_shr (get_or xs r (pos 0)) q) (fits r lt)) ∙
              high_part (get_or xs r (pos 0));
          follows = follows_around (dcs_of_heights N q) (numbers_script (dc_kind N) count) (number_items (dc_kind N) (map (shifted_height true N q) xs) o)
              (map (shifted_height true N q) xs)
              (written_counted (dc_kind N) count (map (shifted_height true N q) xs) o (record { long = long_heights; few = few }));
        }

  high_back : (xs : List ℤ) → length xs ≡ count → 1 ≤ N → N ≤ 10 → (items : List Item) (new : ℕ → ℤ) → ArePossible items →
      Follows (high_script N q count) items new → Parts N q count xs 0 new →
      (o : ℕ → ℕ) × (2 ≤ N → (g : ℕ) → g < gaggle_count count → is_option N (o g) ≡ true) × (items ≡ high_items N q xs o)
  high_back xs long some high items new are f parts = by (N == 1) refl f
    where
      same_part : (r : ℕ) (z : ℤ) → z *ℤ pos (2 ^ q) ≡ given_part q 0 (get_or xs r (pos 0)) → z ≡ int_shr (get_or xs r (pos 0)) q
      same_part r z e = cancel z (int_shr (get_or xs r (pos 0)) q) (2 ^ q) (pow_pos q) (e ∙ sym (high_part (get_or xs r (pos 0))))

      by : (t : Bool) → (N == 1) ≡ t →
          Follows (if t then dc_bits_script (neg_ℤ (pos (2 ^ q))) count (λ r. pos 0) else
          around (dcs_of_heights N q) (numbers_script (dc_kind N) count)) items new →
          (o : ℕ → ℕ) × (2 ≤ N → (g : ℕ) → g < gaggle_count count → is_option N (o g) ≡ true) ×
          (items ≡ (if t then map (dc_bit q) xs else number_items (dc_kind N) (map (shifted_height true N q) xs) o))
      by true e f =
          let one : N ≡ 1 = grind (arith, nat_tests) in
          let w = bits_back (neg_ℤ (pos (2 ^ q))) 0 count (λ r. pos 0) new items are f in (
            λ g. 0,
            λ low. absurd (omega (arith, low, one)),
            w.3 ∙ same_map (λ r. raw (w.0 r)) (λ r. raw (bits_at xs q r)) 0 count (λ r low lt. ap raw (sym (minus_bit (w.0 r) (w.1 r)) ∙
                ap (complement 1) (same_part r (minus (w.0 r)) (sym (minus_value (w.0 r) (2 ^ q) (w.1 r)) ∙ sym (w.2.here r low lt) ∙
                parts r (omega (arith, lt))))))
                ∙ ap (λ m. map (λ r. raw (bits_at xs q r)) (range_with_len 0 m)) (sym long) ∙ sym (map_range q xs),
          )
      by false e f =
          let a = around_follows (dcs_of_heights N q) (numbers_script (dc_kind N) count) items new f in
          let c = goes_end (AreCounted (2 ^ N) count) (numbers_script (dc_kind N) count) (numbers_counted (dc_kind N) count) items a.0 are a.2 in
          let w = back_counted (dc_kind N) count items a.0 some high are a.2 in
          let hs : a.0 ≡ map (shifted_height true N q) xs =
          ext_get_or 0 a.0 (map (shifted_height true N q) xs) (c.long ∙ sym long ∙ sym (length-map xs (shifted_height true N q)))
          (λ r lt.
          let z = number_at true N (get_or a.0 r 0) in
          let here : z *ℤ pos (2 ^ q) ≡ given_part q 0 (get_or xs r (pos 0)) = sym (dcs_at a.0 r lt) ∙ (λ t. a.1 t r) ∙
          parts r (omega (arith, lt, c.long)) in
          sym (height_back true N (get_or a.0 r 0)) ∙ ap (height_of true N) (same_part r z here) ∙
          sym (get_or-map (shifted_height true N q) xs r (pos 0) 0 (omega (arith, lt, c.long, long)))) in
          (w.0, λ low. w.1, w.2 ∙ ap (λ l. number_items (dc_kind N) l w.0) hs)

-- ---- the whole DC part

module _ (depth_dc depth_ac shift count : ℕ) where
  abbrev N : ℕ
  N = dc_bits depth_dc depth_ac shift

  abbrev q : ℕ
  q = dc_q depth_dc depth_ac shift

  abbrev planes : ℕ
  planes = dc_planes depth_dc depth_ac shift

  some_bits : 1 ≤ N
  some_bits = omega arith

  planes_within : planes ≤ q
  planes_within = omega arith

  written : (dcs : List ℤ) (o : ℕ → ℕ) → length dcs ≡ count → DcsFit depth_dc depth_ac shift dcs →
      (end : ℕ → ℤ) × Follows (dc_script depth_dc depth_ac shift count) (dc_items depth_dc depth_ac shift dcs o) end ×
      ((r : ℕ) → r < count → end r ≡ given_part q planes (get_or dcs r (pos 0)))
  written dcs o long fits =
      let w = writes_then (Parts N q count dcs 0) (Parts N q count dcs planes) (high_script N q count) (dc_planes_script q count planes) (high_items N q dcs o)
      (planes_before q dcs planes)
      (high_written N q count dcs long (λ r lt. fits r (omega (arith, lt, long))) o) (λ s p. planes_written N q count dcs long planes s planes_within p) in
      rw dc_items-is (w.end, w.follows, w.is)

  back : (items : List Item) (end : ℕ → ℤ) → ArePossible items → Follows (dc_script depth_dc depth_ac shift count) items end → (dcs : List ℤ) →
      length dcs ≡ count → ((r : ℕ) → r < count → end r ≡ given_part q planes (get_or dcs r (pos 0))) →
      (o : ℕ → ℕ) × (2 ≤ N → (g : ℕ) → g < gaggle_count count → is_option N (o g) ≡ true) × (items ≡ dc_items depth_dc depth_ac shift dcs o)
  back items end are f dcs long parts =
      let a = follows_split (dc_planes_script q count planes) (high_script N q count) items end f in
      let aa = possible_parts a.first a.rest (subst ArePossible a.both are) in
      let mid = goes_end (AreGiven N q 0 count) (high_script N q count) (high_goes N q count) a.first a.value aa.0 a.follows in
      let rest = planes_back N q count dcs long planes a.value end some_bits planes_within mid a.rest aa.1 a.then parts in
      let first = high_back N q count dcs long some_bits (few_bits depth_dc depth_ac shift) a.first a.value aa.0 a.follows rest.0 in
      (first.0, first.1, a.both ∙ (λ t. first.2 t ++ rest.1 t) ∙ sym (dc_items-is depth_dc depth_ac shift dcs first.0))

  pub dc_laws : DcLaws depth_dc depth_ac shift count
  dc_laws = record {
    goes = goes_then (AreGiven N q 0 count) (AreGiven N q planes count) (high_script N q count) (dc_planes_script q count planes) (high_goes N q count)
        (λ dcs p. planes_go N q count planes dcs some_bits planes_within p);
    written = written;
    back = back;
  }
