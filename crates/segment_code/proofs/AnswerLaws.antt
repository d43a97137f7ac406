-- Octets that decide an answer decide it whatever follows, and fewer decide nothing.
use Rattle.std.proofs.Common.{◌≡◌, ◌≢◌, ℕ, ◌+◌, ◌-◌, ◌*◌, ◌==◌, ◌<◌, ◌≤◌, if◌then◌else◌, nat_lt, Bool, true, false, List, [], ◌++◌, length, take, refl, sym}
use Rattle.std.proofs.Common.{ap, ◌∙◌, arith, inl, inr, Option, Some, None, length-append, length-take, append_assoc, append-nil, take_all}
use Rattle.std.proofs.lemmas.Bool.{cases_lt}
use Rattle.std.proofs.lemmas.Bool.Decides.{nat_tests}
use Rattle.std.proofs.lemmas.List.{take-append-le}
use Rattle.std.proofs.Math.Seq.{take-append-add}
use Rattle.item_defs.specs.Bits.{bits_of_octets}
use Rattle.item_defs.specs.Items.{Refusal, text, spelling}
use Rattle.item_defs.proofs.OctetBits.{octets_append, length-bits_of_octets}
use Rattle.bit_pipe.specs.declared.fault.Part.TheVariants.{Whole, Ended}
use Rattle.segment_defs.specs.declared.head.SegmentHead.{SegmentHead}
use Rattle.segment_defs.specs.TextWish.{TextWish, segment_read}
use Rattle.item_defs.specs.Outcomes.{Outcome, whole, cut, refused}
use Rattle.item_defs.specs.Scripts.{run}
use Rattle.item_defs.specs.Following.{SaysWhat}
use Rattle.bit_pipe.specs.ScriptSources.{Gets}
use Rattle.segment_defs.specs.TextLaws.{SegmentsAreRead}
use Rattle.segment_code.specs.TextAnswers.{TextAnswer, gives, Decided, if_enough, bits_within, whole_octets, answer_in}
use Rattle.segment_code.specs.Laws.{TextsEndThere}
use Rattle.segment_code.proofs.Deciding.{Blocks, there_is, some_limit, whole_answer, refused_answer, cut_answer, cut_at_limit}

some_is : (a b : Decided) → Some a ≡ Some b → a ≡ b
some_is a b e = cc

clash : (d : Decided) → None ≡ Some d → ⊥
clash d e = cc

-- ---- enough octets

enough_is : (there octets : ℕ) (a : TextAnswer) (d : Decided) → if_enough there octets a ≡ Some d →
    (octets ≤ there) × (d ≡ record { answer = a; octets = octets })
enough_is there octets a d e = by (nat_lt there octets) refl e
  where
    by : (b : Bool) → nat_lt there octets ≡ b → (if b then None else Some (record { answer = a; octets = octets })) ≡ Some d →
        (octets ≤ there) × (d ≡ record { answer = a; octets = octets })
    by true f e = absurd (clash d e)
    by false f e = (grind (arith, nat_tests), sym (some_is _ _ e))

enough_more : (there now octets : ℕ) (a : TextAnswer) (d : Decided) → there ≤ now → if_enough there octets a ≡ Some d → if_enough now octets a ≡ Some d
enough_more there now octets a d le e = let p = enough_is there octets a d e in there_is now octets a (omega (arith, le, p.0)) ∙ ap Some (sym p.1)

-- ---- bits that more octets have

take_more : (n : ℕ) (xs ys : List ℕ) → (extra : List ℕ) × (take n (xs ++ ys) ≡ take n xs ++ extra)
take_more n xs ys = elim (cases_lt n (length xs)) [
  | inl lt ↦ ([], take-append-le n xs ys (omega (arith, lt)) ∙ sym (append-nil (take n xs)))
  | inr ge ↦
      let split : n ≡ length xs + (n - length xs) = omega (arith, ge) in (
        take (n - length xs) ys,
        ap (λ m. take m (xs ++ ys)) split ∙ take-append-add xs ys (n - length xs) ∙ ap (λ l. l ++ take (n - length xs) ys) (sym (take_all n xs ge)),
      )
]

module _ (head : SegmentHead) (size : ℕ) (rest more : List ℕ) where
  bits_more : (extra : List Bool) × (bits_within head size (rest ++ more) ≡ bits_within head size rest ++ extra)
  bits_more = by (head.limit == 0)
    where
      by : (b : Bool) → (extra : List Bool) × (bits_of_octets (if b then rest ++ more else take (head.limit - size) (rest ++ more)) ≡
          bits_of_octets (if b then rest else take (head.limit - size) rest) ++ extra)
      by true = (bits_of_octets more, octets_append rest more)
      by false =
          let t = take_more (head.limit - size) rest more in
          (bits_of_octets t.0, ap bits_of_octets t.1 ∙ octets_append (take (head.limit - size) rest) t.0)

  bits_same : head.limit ≢ 0 → head.limit - size ≤ length rest → bits_within head size (rest ++ more) ≡ bits_within head size rest
  bits_same some le =
      ap (λ b. bits_of_octets (if b then rest ++ more else take (head.limit - size) (rest ++ more))) (some_limit head some) ∙
      ap bits_of_octets (take-append-le (head.limit - size) rest more le) ∙
      ap (λ b. bits_of_octets (if b then rest else take (head.limit - size) rest)) (sym (some_limit head some))

few_bits : (head : SegmentHead) (size : ℕ) (rest : List ℕ) → length (bits_within head size rest) ≤ 8 * length rest
few_bits head size rest = by (head.limit == 0)
  where
    by : (b : Bool) → length (bits_of_octets (if b then rest else take (head.limit - size) rest)) ≤ 8 * length rest
    by true = omega (arith, length-bits_of_octets rest)
    by false = omega (arith, length-bits_of_octets (take (head.limit - size) rest), length-take (head.limit - size) rest)

-- ---- what is read of a prefix

module _ (wish : TextWish) (head : SegmentHead) (says : SaysWhat (segment_read wish head)) where
  prefix_read : (bits left : List Bool) (w : Blocks) → run (segment_read wish head) bits ≡ whole w left →
      (xs : List Bool) × (bits ≡ xs ++ left) × Gets (segment_read wish head) xs w
  prefix_read bits left w e =
      let r = says.whole_is bits left w e in (
        text r.items,
        r.read,
        λ more. says.is_whole (text r.items ++ more) more w (record { items = r.items; are = r.are; read = refl; follows = r.follows }),
      )

  prefix_refused : (bits left : List Bool) (g : Blocks) (name : Refusal) → run (segment_read wish head) bits ≡ refused g name left →
      (xs : List Bool) × (bits ≡ xs ++ left) × ((more : List Bool) → (h : Blocks) × (run (segment_read wish head) (xs ++ more) ≡ refused h name more))
  prefix_refused bits left g name e =
      let r = says.refused_is bits left g name e in (
        text r.items ++ spelling r.form.shape r.said,
        r.read ∙ sym (append_assoc (text r.items) (spelling r.form.shape r.said) left),
        λ more. says.is_refused ((text r.items ++ spelling r.form.shape r.said) ++ more) more name (record {
          items = r.items;
          are = r.are;
          form = r.form;
          said = r.said;
          read = append_assoc (text r.items) (spelling r.form.shape r.said) more;
          asks = r.asks;
          says = r.says;
          refuses = r.refuses;
        }),
      )

  module _ (size : ℕ) (rest : List ℕ) (d : Decided) (is : answer_in wish head size rest ≡ Some d) where
    abbrev bits : List Bool
    bits = bits_within head size rest

    -- the octets are there, and more octets do not change the answer
    pub goes_on : (d.octets ≤ length rest) × ((more : List ℕ) → answer_in wish head size (rest ++ more) ≡ Some d)
    goes_on = by (run (segment_read wish head) bits) refl
      where
        by : (o : Outcome Blocks Blocks) → run (segment_read wish head) (bits_within head size rest) ≡ o →
            (d.octets ≤ length rest) × ((more : List ℕ) → answer_in wish head size (rest ++ more) ≡ Some d)
        by (whole w left) e =
            let p = prefix_read (bits_within head size rest) left w e in
            let octets : ℕ = whole_octets head (8 * size + length p.0) - size in
            let here = sym (whole_answer wish head size rest p.0 left w p.1 (p.2 left)) ∙ is in
            let there = enough_is (length rest) octets (gives Whole w) d here in (
              omega (arith, there.0, ap (λ x. x.octets) there.1),
              λ more.
                  let m = bits_more head size rest more in
                  whole_answer wish head size (rest ++ more) p.0 (left ++ m.0) w (m.1 ∙ ap (λ l. l ++ m.0) p.1 ∙ append_assoc p.0 left m.0)
                  (p.2 (left ++ m.0)) ∙
                  enough_more (length rest) (length (rest ++ more)) octets (gives Whole w) d (omega (arith, length-append rest more)) here,
            )
        by (refused g name left) e =
            let p = prefix_refused (bits_within head size rest) left g name e in
            let x = p.2 left in
            let same = some_is _ d (sym (refused_answer wish head size rest p.0 left x.0 name p.1 x.1) ∙ is) in (
              omega (arith, ap (λ y. y.octets) same, few_bits head size rest, ap length p.1, length-append p.0 left),
              λ more.
                  let m = bits_more head size rest more in
                  let y = p.2 (left ++ m.0) in
                  refused_answer wish head size (rest ++ more) p.0 (left ++ m.0) y.0 name (m.1 ∙ ap (λ l. l ++ m.0) p.1 ∙ append_assoc p.0 left m.0) y.1 ∙
                  ap Some same,
            )
        by (cut g) e = by_limit (head.limit == 0) refl (sym (cut_answer wish head size rest g e) ∙ is)
          where
            by_limit : (b : Bool) → (head.limit == 0) ≡ b → (if b then None else if_enough (length rest) (head.limit - size) (gives Ended g)) ≡ Some d →
                (d.octets ≤ length rest) × ((more : List ℕ) → answer_in wish head size (rest ++ more) ≡ Some d)
            by_limit true z f = absurd (clash d f)
            by_limit false z f =
                let some : head.limit ≢ 0 = grind (arith, nat_tests) in
                let there = enough_is (length rest) (head.limit - size) (gives Ended g) d f in (
                  omega (arith, there.0, ap (λ x. x.octets) there.1),
                  λ more.
                      cut_at_limit wish head size (rest ++ more) g (ap (run (segment_read wish head)) (bits_same head size rest more some there.0) ∙ e) some
                      (omega (arith, there.0, length-append rest more)) ∙ ap Some (sym there.1),
                )

pub texts_end_there : SegmentsAreRead → TextsEndThere
texts_end_there read wish sound head size fits low = record {
  enough = λ rest d e. (goes_on wish head says size rest d e).0;
  stays = λ rest more d e. (goes_on wish head says size rest d e).1 more;
  least = λ rest more d e lt. by rest more d e lt (answer_in wish head size rest) refl;
}
  where
    says : SaysWhat (segment_read wish head)
    says = (read wish head sound).says

    by : (rest more : List ℕ) (d : Decided) → answer_in wish head size (rest ++ more) ≡ Some d → length rest < d.octets →
        (o : Option Decided) → answer_in wish head size rest ≡ o → answer_in wish head size rest ≡ None
    by rest more d e lt None f = f
    by rest more d e lt (Some c) f =
        let p = goes_on wish head says size rest c f in
        let same = some_is c d (sym (p.1 more) ∙ e) in
        absurd (omega (arith, p.0, ap (λ x. x.octets) same, lt))
