-- Octets that broke off and are a prefix of the packets of each image that begins with some rows.
use Rattle.std.proofs.Common.{◌≡◌, ◌≢◌, inl, inr, min, ℕ, ◌+◌, ◌-◌, ◌*◌, ◌<◌, ◌≤◌, Bool, true, ℤ, List, [], ◌++◌, length, take, refl, sym, ap, ◌∙◌, subst}
use Rattle.std.proofs.Common.{arith, Option, None, Some, div-lt_iff_lt-mul, mul-le-mul_right, Err}
use Rattle.std.proofs.Math.Seq.{take-append_seam}
use Rattle.std.proofs.lemmas.List.{append-nil, append_cancel_left, take_min, take-append-le}
use Rattle.port_122.specs.Outside.{Outside, Exchange, NoRead, Grows, GivenBy, Rose}
use Rattle.port_122.proofs.Stretches.{asks_weaker, since_out, rose_since}
use Rattle.base_122.specs.Ranges.{IsInRange}
use Rattle.base_122.specs.Setting.{IsHeight, sized}
use Rattle.base_122.specs.Sizes.{block_count, total_blocks, first_block, segment_blocks}
use Rattle.base_122.proofs.SizeBounds.{three-le-block_count, one-le-segment_blocks}
use Rattle.wave_strip.specs.Counts.{settled as block_rows_in}
use Rattle.base_122.specs.declared.setting.Setting.{Setting}
use Rattle.wave_defs.specs.Held.{SameWithin}
use Rattle.packet_defs.specs.Packets.{joined}
use Rattle.stream_defs.specs.Output.{image_blocks, output, packets_of, segments_of, reports_last}
use Rattle.stream_defs.specs.Settled.{last_block_row, is_settled, settled}
use Rattle.stream_defs.specs.SettledImages.{leading_packets, settled_in}
use Rattle.stream_defs.proofs.SettledLaws.{count_many, count_most}
use Rattle.stream_defs.proofs.HeightLaws.{packets_same, settled_alike}
use Rattle.strip_coder.specs.Plans.{Job, plan_of, tallest}
use Rattle.strip_coder.specs.declared.encode.EncodeFault.TheVariants.{WriteFault}
use Rattle.std.proofs.lemmas.Bool.Decides.{nat_tests}
use Rattle.strip_coder.specs.Rasters.{image_of, given_for}
use Rattle.strip_coder.specs.Answers.{AsksInRange, TookRows, EncodesImage}
use Rattle.strip_coder.specs.Steps.{StopsEarly}
use Rattle.strip_coder.proofs.PlanLaws.{tall_height, tall_or_open, open_last, known_height}
use Rattle.strip_coder.proofs.SettledCounts.{settled_so}
use Rattle.strip_coder.proofs.SegmentRuns.{prefix_of}
use Rattle.stream_defs.proofs.Equations.{settled-is}

-- if the port reports what it was given, the octets that were added are determined
one_gave : (before now : Option (List ℕ)) (octets a b : List ℕ) → now ≡ Some octets → Grows before now a → Grows before now b → a ≡ b
one_gave before now octets a b e p q = grind (arith, nat_tests, append_cancel_left)

-- if it doesn't report them, the exchange also holds with none given
unknown : {p q : Outside} {gave : List ℕ} → q.given ≡ None → Exchange p q [] gave [] NoRead → Exchange p q [] [] [] NoRead
unknown {p = p} {q = q} {gave = gave} e since = record {
  rest = since.rest;
  taken = since.taken;
  given = subst (λ o. Grows p.given o []) (sym e) tt;
  noted = since.noted;
  asked = asks_weaker p.asked q.asked p.taken p.given (λ i j. (i ≤ 0) × (j ≤ length gave) × NoRead i j) (λ i j. (i ≤ 0) × (j ≤ 0) × NoRead i j)
      (λ i j r. absurd r.2) since.asked;
  faults = since.faults;
}

-- what is written after the first segments, and with them a prefix of the packets of each image that begins with k rows of this one
pub record PrefixOut (s : Setting) (k : ℕ) (x : ℕ → ℕ → ℤ) (from : ℕ) (p q : Outside) : Type 0 where
  pub gave : List ℕ
  pub out : Exchange p q [] gave [] NoRead
  pub each : (rows : ℕ) (y : ℕ → ℕ → ℤ) → IsHeight s rows → k ≤ rows → SameWithin k s.width x y →
      (n : ℕ) × (joined (leading_packets s rows y from) ++ gave ≡ take n (output s rows y))

pub take_prefix : (some : ℕ) (xs rest : List ℕ) → (n : ℕ) × (take some xs ≡ take n (xs ++ rest))
take_prefix some xs rest =
    let n = min some (length xs) in
    (n, sym (take_min some xs) ∙ sym (take-append-le n xs rest (omega arith)))

-- ---- images of one height

module _ (s : Setting) (rows : ℕ) where
  abbrev here : Job
  here = plan_of s rows

  -- the packets of the first segments are a prefix of all
  some_segments : (y : ℕ → ℕ → ℤ) (n : ℕ) → n ≤ segments_of (sized s rows) → (rest : List ℕ) × (output s rows y ≡ joined (leading_packets s rows y n) ++ rest)
  some_segments y n le =
      let all = image_blocks (sized s rows) y in
      let rest = prefix_of here all n (segments_of (sized s rows) - n) in
      let e : n + (segments_of (sized s rows) - n) ≡ segments_of (sized s rows) = omega (arith, le) in
      (rest.0, sym (ap (λ m. joined (packets_of (reports_last s) (sized s rows) all m)) e) ∙ rest.1)

  first_segments : (y : ℕ → ℕ → ℤ) (n : ℕ) → n ≤ segments_of (sized s rows) → joined (leading_packets s rows y n) ++ []
      ≡ take (length (joined (leading_packets s rows y n))) (output s rows y)
  first_segments y n le =
      let done = joined (leading_packets s rows y n) in
      let rest = some_segments y n le in
      append-nil done ∙ sym (ap (take (length done)) rest.1 ∙ take-append_seam done rest.0)

  -- and so is what was written when a write failed in one of them
  pub broken_prefix : {p q : Outside} (y : ℕ → ℕ → ℤ) (from count : ℕ) (broke : StopsEarly here (image_blocks (sized s rows) y) from count p q) →
      (n : ℕ) × (joined (leading_packets s rows y from) ++ broke.gave ≡ take n (output s rows y))
  broken_prefix y from count broke =
      let inside = broke.inside in
      let through = joined (leading_packets s rows y (broke.index + 1)) in
      let rest = some_segments y (broke.index + 1) (omega (arith, inside)) in
      let prefix = take_prefix broke.some through rest.0 in
      (prefix.0, broke.prefix ∙ prefix.1 ∙ sym (ap (take prefix.0) rest.1))

-- ---- images of other heights

-- the segments up to one whose blocks the first k rows determine are settled by these
module _ (s : Setting) (range : IsInRange s) (k index : ℕ) where
  abbrev tall : Job
  tall = plan_of s (tallest s)

  abbrev all_blocks : ℕ
  all_blocks = total_blocks s.width (tallest s)

  some_columns : 0 < block_count s.width
  some_columns = let three = three-le-block_count s.width range.width.0 in omega (arith, three)

  before : (j : ℕ) → j ≤ index → first_block s.segment j + segment_blocks all_blocks s.segment j ≤ first_block s.segment index
      + segment_blocks all_blocks s.segment index
  before j le = grind (arith, nat_tests, mul-le-mul_right)

  settled_at : index < segments_of (sized s (tallest s)) → first_block s.segment index + segment_blocks all_blocks s.segment index ≤ block_count s.width *
      block_rows_in k →
      (j : ℕ) → j ≤ index → is_settled (reports_last s) (sized s (tallest s)) k j ≡ true
  settled_at inside there j le =
      let segment = range.segment in
      let some = one-le-segment_blocks all_blocks s.segment j (omega (arith, segment)) (omega (arith, inside, le)) in
      let up = before j le in
      let turned : block_count s.width * block_rows_in k ≡ block_rows_in k * block_count s.width = grind arith in
      let row : last_block_row (sized s (tallest s)) j < block_rows_in k =
      (div-lt_iff_lt-mul {k = block_count s.width} {x = j * s.segment + segment_blocks all_blocks s.segment j - 1} {y = block_rows_in k} some_columns).1
      (omega (arith, some, up, there, turned)) in
      settled_so tall k j (omega (arith, row))

  pub through : index < segments_of (sized s (tallest s)) → first_block s.segment index + segment_blocks all_blocks s.segment index ≤ block_count s.width *
      block_rows_in k →
      index + 1 ≤ settled_in s (tallest s) k
  through inside there = rw settled-is (grind (arith, nat_tests, count_many, settled_at))

settled_few : (reported_last : Bool) (s : Setting) (k : ℕ) → settled reported_last s k ≤ segments_of s
settled_few reported_last s k = rw settled-is (count_most (is_settled reported_last s k) (segments_of s) 0)

-- the packets of settled segments are the same for each height
module _ (s : Setting) (range : IsInRange s) (left_open : s.rows ≡ 0) (k rows : ℕ) (height : IsHeight s rows) (le : k ≤ tallest s) (le' : k ≤ rows) (y : ℕ →
    ℕ → ℤ) where
  itself : SameWithin k s.width y y
  itself = record { at = λ i j hi hj. refl }

  open_packets : (n : ℕ) → n ≤ settled_in s (tallest s) k → joined (leading_packets s (tallest s) y n) ≡ joined (leading_packets s rows y n)
  open_packets n few =
      let t = open_last s left_open in
      let few' : n ≤ settled true (sized s (tallest s)) k = subst (λ b. n ≤ settled b (sized s (tallest s)) k) t few in
      subst (λ b. joined (packets_of b (sized s (tallest s)) (image_blocks (sized s (tallest s)) y) n) ≡ joined
      (packets_of b (sized s rows) (image_blocks (sized s rows) y) n)) (sym t)
      (ap joined (packets_same s range left_open k (tallest s) rows (tall_height s range) height le le' y y itself n few'))

  open_few : (n : ℕ) → n ≤ settled_in s (tallest s) k → n ≤ segments_of (sized s rows)
  open_few n few =
      let alike = settled_alike s (tallest s) rows k range (tall_height s range) height le le' in
      let most = settled_few (reports_last s) (sized s rows) k in
      omega (arith, few, alike, most)

  open_first : (from : ℕ) → from ≤ settled_in s (tallest s) k → (n : ℕ) × (joined (leading_packets s rows y from) ++ [] ≡ take n (output s rows y))
  open_first from few = (length (joined (leading_packets s rows y from)), first_segments s rows y from (open_few from few))

  open_prefix : {p q : Outside} (from : ℕ) → from ≤ settled_in s (tallest s) k →
      (broke : StopsEarly (plan_of s (tallest s)) (image_blocks (sized s (tallest s)) y) from (block_count s.width * block_rows_in k) p q) →
      (n : ℕ) × (joined (leading_packets s rows y from) ++ broke.gave ≡ take n (output s rows y))
  open_prefix from few broke =
      let past = through s range k broke.index broke.inside broke.there in
      let here = joined (leading_packets s rows y (broke.index + 1)) in
      let rest = some_segments s rows y (broke.index + 1) (open_few (broke.index + 1) past) in
      let prefix = take_prefix broke.some here rest.0 in (
        prefix.0,
        ap (λ g. g ++ broke.gave) (sym (open_packets from few)) ∙ broke.prefix ∙ ap (take broke.some) (open_packets (broke.index + 1) past) ∙ prefix.1
            ∙ sym (ap (take prefix.0) rest.1),
      )

-- ---- a write that failed while rows arrived

module _ (s : Setting) (range : IsInRange s) (k from : ℕ) (le : k ≤ tallest s) (few : from ≤ settled_in s (tallest s) k) where
  from_below : from ≤ segments_of (sized s (tallest s))
  from_below = let most = settled_few (reports_last s) (sized s (tallest s)) k in omega (arith, few, most)

  first_of : (rows : ℕ) (y : ℕ → ℕ → ℤ) → IsHeight s rows → k ≤ rows → (n : ℕ) × (joined (leading_packets s rows y from) ++ [] ≡ take n (output s rows y))
  first_of rows y height least = elim (tall_or_open s rows range height) [
    | inl tall ↦
        subst (λ m. (n : ℕ) × (joined (leading_packets s m y from) ++ [] ≡ take n (output s m y))) (sym tall)
        (length (joined (leading_packets s (tallest s) y from)), first_segments s (tallest s) y from from_below)
    | inr other ↦ open_first s range other.0 k rows height le least y from few
  ]

  broken_of : {p q : Outside} (rows : ℕ) (y : ℕ → ℕ → ℤ) (gave : List ℕ) → IsHeight s rows → k ≤ rows →
      (broke : StopsEarly (plan_of s (tallest s)) (image_blocks (sized s (tallest s)) y) from (block_count s.width * block_rows_in k) p q) → gave ≡ broke.gave →
      (n : ℕ) × (joined (leading_packets s rows y from) ++ gave ≡ take n (output s rows y))
  broken_of {p = p} {q = q} rows y gave height least broke e =
      subst (λ g. (n : ℕ) × (joined (leading_packets s rows y from) ++ g ≡ take n (output s rows y))) (sym e)
      (elim (tall_or_open s rows range height) [
        | inl tall ↦ subst (λ m. (n : ℕ) × (joined (leading_packets s m y from) ++ broke.gave ≡ take n (output s m y))) (sym tall)
            (broken_prefix s (tallest s) {p = p} {q = q} y from (block_count s.width * block_rows_in k) broke)
        | inr other ↦ open_prefix s range other.0 k rows height le least y {p = p} {q = q} from few broke
      ])

  pub prefix_out : {p q : Outside} (x : ℕ → ℕ → ℤ) →
      ((y : ℕ → ℕ → ℤ) → SameWithin k s.width x y → StopsEarly (plan_of s (tallest s)) (image_blocks (sized s (tallest s)) y) from
      (block_count s.width * block_rows_in k) p q) → PrefixOut s k x from p q
  prefix_out {p = p} {q = q} x breaks = by_known q.given refl where
    same : SameWithin k s.width x x
    same = record { at = λ i j hi hj. refl }

    by_known : (o : Option (List ℕ)) → q.given ≡ o → PrefixOut s k x from p q
    by_known None e = record {
      gave = [];
      out = unknown {p = p} {q = q} {gave = (breaks x same).gave} e (breaks x same).out;
      each = λ lines y height least h. first_of lines y height least;
    }
    by_known (Some octets) e = record {
      gave = (breaks x same).gave;
      out = (breaks x same).out;
      each = λ lines y height least h.
          let broke = breaks y h in
          broken_of {p = p} {q = q} lines y (breaks x same).gave height least broke (one_gave p.given q.given octets (breaks x same).gave broke.gave e
          (breaks x same).out.given broke.out.given);
    }

-- ---- a write that failed at the end of an image whose height is known before

pub known_prefix : {p q : Outside} (s : Setting) (x : ℕ → ℕ → ℤ) (rows from count : ℕ) → s.rows ≢ 0 → s.rows ≡ rows → from ≤ segments_of (sized s rows) →
    ((y : ℕ → ℕ → ℤ) → SameWithin rows s.width x y → StopsEarly (plan_of s rows) (image_blocks (sized s rows) y) from count p q) → PrefixOut s rows x from p q
known_prefix {p = p} {q = q} s x rows from count known is le breaks = by_known q.given refl where
  same : SameWithin rows s.width x x
  same = record { at = λ i j hi hj. refl }

  for_height : (lines : ℕ) (y : ℕ → ℕ → ℤ) (gave : List ℕ) → IsHeight s lines →
      (n : ℕ) × (joined (leading_packets s rows y from) ++ gave ≡ take n (output s rows y)) →
      (n : ℕ) × (joined (leading_packets s lines y from) ++ gave ≡ take n (output s lines y))
  for_height lines y gave height prefix =
      subst (λ m. (n : ℕ) × (joined (leading_packets s m y from) ++ gave ≡ take n (output s m y))) (sym is ∙ known_height s lines known height) prefix

  by_known : (o : Option (List ℕ)) → q.given ≡ o → PrefixOut s rows x from p q
  by_known None e = record {
    gave = [];
    out = unknown {p = p} {q = q} {gave = (breaks x same).gave} e (breaks x same).out;
    each = λ lines y height least h. for_height lines y [] height (length (joined (leading_packets s rows y from)), first_segments s rows y from le);
  }
  by_known (Some octets) e = record {
    gave = (breaks x same).gave;
    out = (breaks x same).out;
    each = λ lines y height least h.
        let broke = breaks y h in
        let one = one_gave p.given q.given octets (breaks x same).gave broke.gave e (breaks x same).out.given broke.out.given in
        let prefix = broken_prefix s rows {p = p} {q = q} y from count broke in
        for_height lines y (breaks x same).gave height (prefix.0, ap (λ g. joined (leading_packets s rows y from) ++ g) one ∙ prefix.1);
  }

-- a run in which a write failed
pub broke_off : {p q r : Outside} (s : Setting) (took gave : List ℕ) (k from : ℕ) → Exchange p q took gave [] (GivenBy (given_for s) took) →
    Exchange p q took gave [] (AsksInRange s took) → TookRows s took k →
    Rose q.write_faults r.write_faults → PrefixOut s k (image_of s took) from q r →
    ((rows : ℕ) (y : ℕ → ℕ → ℤ) → IsHeight s rows → k ≤ rows → SameWithin k s.width (image_of s took) y → gave ≡ joined (leading_packets s rows y from)) →
    EncodesImage s p r (Err WriteFault)
broke_off s took gave k from since asks rows rose prefix same = record {
  took = took;
  gave = gave ++ prefix.gave;
  since = since_out since prefix.out;
  asks = since_out asks prefix.out;
  answer = (
    rose_since since.faults.writes rose,
    (
      k,
      rows,
      inl record {
        each = λ lines y height le h.
            let part = prefix.each lines y height le h in
            (part.0, ap (λ g. g ++ prefix.gave) (same lines y height le h) ∙ part.1);
      },
    ),
  );
}
