-- The bits of the items of numbers.
use Rattle.std.proofs.Common.{◌≡◌, ℕ, zero, suc, ◌-◌, ◌/◌, ◌^◌, ◌<◌, ◌≤◌, List, [], ◌∷◌, ◌++◌, map, get_or, Bool, true, eqb, cond, refl, sym, arith, flat_map}
use Rattle.std.proofs.lemmas.Bool.Decides.{nat_tests}
use Rattle.std.proofs.lemmas.List.Concat.{flat_map-cons}
use Rattle.number_defs.proofs.AreItems.{option_within}
use Rattle.number_defs.proofs.CodedBits.{high_small}
use Rattle.item_defs.specs.Items.{Item, item_bits, text}
use Rattle.item_defs.proofs.BitLists.{zeros_then_one}
use Rattle.item_defs.proofs.Texts.{text-append, text-cons, text-one}
use Rattle.number_defs.specs.Gaggles.{Kind, is_option, value_at, reference, unary_part, rest_part, value_items, lead_items, gaggle_items, items_before}
use Rattle.number_defs.proofs.MappingLaws.{mapped_below}
use Rattle.gaggle_codes.specs.Options.{name_of}
use Rattle.gaggle_codes.specs.GaggleBits.{unary_bits, rest_bits, value_bits, lead_bits, gaggle_bits, bits_before}
use Rattle.gaggle_codes.proofs.Names.{name_bits}
use Rattle.number_defs.proofs.Equations.{value_items-is, gaggle_items-is, items_before-none, items_before-more}

each_text : (f : ℕ → Item) (g : ℕ → ℕ) (b : ℕ → List Bool) → ((i : ℕ) → item_bits (f i) ≡ b (g i)) → (at : List ℕ) → text (map f at) ≡ flat_map b (map g at)
each_text f g b same [] = refl
each_text f g b same (x ∷ at) = grind (arith, nat_tests, text-cons, flat_map-cons, each_text f g b same at)

module _ (kind : Kind) (heights : List ℕ) (few : (i : ℕ) → get_or heights i 0 < 2 ^ kind.bits) (low : 2 ≤ kind.bits) (high : kind.bits ≤ 10) where
  value_below : (i : ℕ) → value_at kind.bits heights i < 2 ^ kind.bits
  value_below i = mapped_below kind.bits (get_or heights (i - 1) 0) (get_or heights i 0) (few (i - 1)) (few i)

  unary_text : (k i : ℕ) → k ≤ kind.bits → item_bits (unary_part kind heights k i) ≡ unary_bits k (value_at kind.bits heights i)
  unary_text k i le = sym (zeros_then_one (value_at kind.bits heights i / 2 ^ k) (2 ^ (kind.bits - k))
      (high_small kind.bits k (value_at kind.bits heights i) le (value_below i)))

  split_text : (k : ℕ) (at : List ℕ) → k ≤ kind.bits - 2 →
      text (map (unary_part kind heights k) at ++ cond (eqb k 0) [] (map (rest_part kind heights k) at))
      ≡ flat_map (unary_bits k) (map (value_at kind.bits heights) at) ++ cond (eqb k 0) [] (flat_map (rest_bits k) (map (value_at kind.bits heights) at))
  split_text k at le = grind (arith, nat_tests, each_text, unary_text, text-append)

  values_text : (option : ℕ) (at : List ℕ) → is_option kind.bits option ≡ true → text (value_items kind heights option at)
      ≡ value_bits kind.bits (name_of kind.bits option) (map (value_at kind.bits heights) at)
  values_text option at is = simp value_items-is (grind (arith, nat_tests, each_text, option_within, split_text))

  lead_text : (g : ℕ) → text (lead_items kind heights g) ≡ lead_bits kind.signed kind.bits heights g
  lead_text zero = text-one (reference kind (get_or heights 0 0))
  lead_text (suc g) = refl

  gaggle_text : (option g : ℕ) → is_option kind.bits option ≡ true → text (gaggle_items kind heights option g) ≡ gaggle_bits kind.signed kind.bits heights
      (name_of kind.bits option) g
  gaggle_text option g is = simp gaggle_items-is (grind (arith, nat_tests, text-cons, name_bits, text-append, lead_text, values_text))

  pub before_text : (options : ℕ → ℕ) → ((g : ℕ) → is_option kind.bits (options g) ≡ true) → (g : ℕ) → text (items_before kind heights options g)
      ≡ bits_before kind.signed kind.bits heights (λ h. name_of kind.bits (options h)) g
  unfolding bits_before
  before_text options are zero = simp (items_before-none, items_before-more)
  before_text options are (suc g) = grind (arith, nat_tests, items_before-none, items_before-more, text-append, gaggle_text, before_text options are g)
