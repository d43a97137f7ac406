-- A text of items that is cut anywhere is read up to the cut.
use Rattle.std.proofs.Common.{◌≡◌, ℕ, suc, ◌+◌, ◌-◌, ◌<◌, inl, inr, Bool, List, [], ◌∷◌, ◌++◌, length, take, drop, ap, sym, ◌∙◌, arith, length-append}
use Rattle.std.proofs.Common.{append_assoc}
use Rattle.std.proofs.lemmas.Bool.{cases_lt}
use Rattle.std.proofs.lemmas.List.{append-nil, take-append-drop, take-append-le, length-take-le}
use Rattle.std.proofs.Math.Seq.{take-append-add, take-length}
use Rattle.item_defs.specs.Items.{Item, item_bits, text, spelling}
use Rattle.item_defs.specs.Readings.{IsItem, AreItems, Lacks}
use Rattle.item_defs.proofs.Texts.{text-cons, text_prefix}
use Rattle.item_defs.proofs.Spellings.{one_spelling}
use Rattle.segment_defs.specs.Prefixes.{Prefix, NothingFollows}
use Rattle.std.proofs.lemmas.Bool.Decides.{nat_tests}

-- a code that is cut has no other code as a prefix
cut_lacks : (i : Item) (n : ℕ) → IsItem i → n < length (item_bits i) → Lacks i.form.shape (take n (item_bits i))
cut_lacks i n item lt s more said e =
    let bits = item_bits i in
    let whole : spelling i.form.shape i.said ++ [] ≡ spelling i.form.shape s ++ (more ++ drop n bits) =
    grind (arith, nat_tests, append-nil, take-append-drop, append_assoc) in
    let one = one_spelling i.form.shape i.said s [] (more ++ drop n bits) item.0 item.1 said whole in
    let same : length (spelling i.form.shape s) ≡ length bits = ap (λ k. length (spelling i.form.shape k)) (sym one.0) in
    omega (arith, lt, length-take-le n bits (omega arith), same, ap length e, length-append (spelling i.form.shape s) more)

-- how far a cut text is read
pub record CutPrefix (items : List Item) (bits : List Bool) : Type 0 where
  pub count : ℕ
  pub more : List Bool
  pub prefix : Prefix items count bits more
  pub ends : NothingFollows items count more

pub cut_prefix : (items : List Item) → AreItems items → (n : ℕ) → n < length (text items) → CutPrefix items (take n (text items))
cut_prefix [] all n lt = absurd (omega arith)
cut_prefix (i ∷ is) all n lt =
    let bits = item_bits i in
    let parts : text (i ∷ is) ≡ bits ++ text is = text-cons i is in
    elim (cases_lt n (length bits)) [
      | inl inside ↦ grind (arith, nat_tests, take-append-le, cut_lacks)
      | inr past ↦
          let k = n - length bits in
          let here : n ≡ length bits + k = omega arith in
          let r = cut_prefix is all.1 k (omega (arith, ap length parts, length-append bits (text is))) in
          let cut : take n (text (i ∷ is)) ≡ bits ++ take k (text is) = ap (λ m. take m (text (i ∷ is))) here ∙ ap (take (length bits + k)) parts
          ∙ take-append-add bits (text is) k in
          record {
            count = suc r.count;
            more = r.more;
            prefix = record {
              within = omega (arith, r.prefix.within);
              taken = (all.0, r.prefix.taken);
              read = cut ∙ ap (λ l. bits ++ l) r.prefix.read ∙ sym (text_prefix i (take r.count is) r.more);
            };
            ends = record { within = omega (arith, r.ends.within); lacks = r.ends.lacks };
          }
    ]

-- a text that is not cut is read whole
pub whole_prefix : (items : List Item) (more : List Bool) → AreItems items → Prefix items (length items) (text items ++ more) more
whole_prefix items more all = grind (arith, nat_tests, take-length)
