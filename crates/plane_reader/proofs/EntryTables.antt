-- Tables of the words of due positions.
use Rattle.std.proofs.Common.{◌≡◌, ℕ, ◌+◌, ◌-◌, ◌*◌, ◌/◌, ◌%◌, ◌<◌, ◌≤◌, ◌^◌, sym, ap, subst, ◌∙◌, arith}
use Rattle.std.proofs.Common.{count_ones}
use Rattle.std.proofs.lemmas.Nat.{shr-shr}
use Rattle.item_defs.specs.Bits.{bit, bits_of}
use Rattle.item_defs.specs.Items.{item_bits}
use Rattle.plane_defs.specs.Codes.{word_item}
use Rattle.base_122.specs.declared.book.Book.{Book}
use Rattle.block_masks.specs.Picks.{AreSpread}
use Rattle.block_masks.proofs.Viewing.{shows_own}
use Rattle.bit_pipe.specs.Windows.{first_of}
use Rattle.plane_reader.specs.Places.{word_at, IsFirst}

-- the first bits of a window are those of its highest octet
pub same_octet : (n a b : ℕ) → n ≤ 8 → a / 2 ^ 56 ≡ b / 2 ^ 56 → first_of n a ≡ first_of n b
same_octet n a b few e =
    let up : 56 + (8 - n) ≡ 64 - n = omega arith in
    ap (bits_of n) (ap (λ m. a / 2 ^ m) (sym up) ∙ sym (shr-shr a 56 (8 - n)) ∙ ap (λ m. m / 2 ^ (8 - n)) e ∙ shr-shr b 56 (8 - n) ∙ ap (λ m. b / 2 ^ m) up)

pub octet_of : (octet : ℕ) → octet < 256 → octet * 2 ^ 56 % 2 ^ 64 / 2 ^ 56 ≡ octet
octet_of octet lt = omega arith

pub word_there : (due number places : ℕ) → due < 16 → number < 2 ^ count_ones due → AreSpread due number places → word_at due places ≡ number
word_there due number places small fits spread = spread.back (bit due) 0 4 (omega arith) (shows_own due 4 small) fits

module _ (book : Book) (due option window number places len signed : ℕ) (small : due < 16) (fits : number < 2 ^ count_ones due)
    (spread : AreSpread due number places) where
  pub first_is : len ≤ 8 → (count_ones due ≡ 0 → len ≡ 0) → (1 ≤ count_ones due → item_bits (word_item book
      (count_ones due) option number) ≡ first_of len window) → signed ≡ len + count_ones number → IsFirst book due option window (record {
        places = places;
        len = len;
        signed_len = signed;
      })
  first_is few none code signed_is =
      let w = word_there due number places small fits spread in
      record {
        fits = subst (λ n. n < 2 ^ count_ones due) (sym w) fits;
        few = few;
        none = none;
        code = λ some. subst (λ n. item_bits (word_item book (count_ones due) option n) ≡ first_of len window) (sym w) (code some);
        places = subst (λ n. AreSpread due n places) (sym w) spread;
        signed = signed_is ∙ ap (λ n. len + n) (sym (spread.ones fits));
      }
