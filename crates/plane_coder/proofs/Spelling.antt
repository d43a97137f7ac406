-- Entries put one after another.
use Rattle.std.proofs.Common.{◌≡◌, ℕ, ◌<◌, ◌≤◌, Bool, true, false, cond, List, [], ◌∷◌, ◌++◌, refl, ap, sym, ◌∙◌, subst, arith, append_assoc, append-nil}
use Rattle.std.proofs.Common.{◌==◌, Result, Ok, Err, OnOk}
use Rattle.std.specs.List.{list_any}
use Rattle.std.proofs.lemmas.Bool.Decides.{nat_tests}
use Rattle.item_defs.specs.Bits.{bits_of}
use Rattle.item_defs.proofs.NumberBits.{bits_none}
use Rattle.item_defs.specs.Items.{item_bits, text}
use Rattle.item_defs.proofs.Texts.{text-append}
use Rattle.bit_pipe.specs.Sinks.{SinkOf}
use Rattle.bit_pipe.specs.SinkState.{SinkState, IsOpen, Puts}
use Rattle.bit_pipe.specs.declared.fault.PutFault.{PutFault}
use Rattle.bit_pipe.proofs.Putting.{adds_start, open_later, puts_then, puts_cut, puts_whole}
use Rattle.base_122.specs.declared.book.Book.{Book}
use Rattle.plane_defs.specs.declared.entries.Entry.{Entry}
use Rattle.plane_defs.specs.declared.entries.Entry.TheVariants.{Bit, Word}
use Rattle.plane_defs.specs.declared.entries.Bits.{Bits}
use Rattle.plane_defs.specs.Codes.{word_item, option_item}
use Rattle.plane_defs.specs.Spelled.{is_word_of, option_of, entry_items, spelled_after}
use Rattle.plane_defs.proofs.SpelledLists.{spelled_after-append}
use Rattle.block_masks.specs.declared.gaggle.Gaggle.{Gaggle}
use Rattle.block_masks.specs.Gaggles.{Agrees}
use Rattle.block_masks.proofs.Agreeing.{agrees_other}
use Rattle.plane_coder.specs.Spells.{Spells}
use Rattle.plane_defs.proofs.Equations.{entry_items-bit, entry_items-word}
use Rattle.item_defs.proofs.Equations.{bits_of-none, bits_of-more}

pub on_ok : {T E P : Type 0} (r : Result T E) → P → OnOk r P
on_ok (Ok x) h = h
on_ok (Err e) h = tt

pub on_ok_map : {T E P Q : Type 0} (r : Result T E) → (P → Q) → OnOk r P → OnOk r Q
on_ok_map (Ok x) f h = f h
on_ok_map (Err e) f h = tt

module _ {S : Type 0} {k : SinkOf S} {book : Book} where
  pub spells_none : (a : Gaggle) (s : SinkState S) → IsOpen s → Spells k book a a (Ok tt) s s []
  spells_none a s h = record {
    puts = λ before agrees. puts_whole (adds_start k s h);
    agrees = λ before agrees. subst (Agrees a.sent) (sym (append-nil before)) agrees;
    is_open = h;
    options = refl;
  }

  pub spells_both : {a b c : Gaggle} {r : Result (Unit {0}) PutFault} {s t u : SinkState S} {xs ys : List Entry} →
      Spells k book a b (Ok tt) s t xs → Spells k book b c r t u ys → Spells k book a c r s u (xs ++ ys)
  spells_both {a} {b} {c} {r} {s} {t} {u} {xs} {ys} first second = record {
    puts = λ before agrees.
        let now : Agrees b.sent (before ++ xs) = first.agrees before agrees in
        let both = puts_then (first.puts before agrees).ends (second.puts (before ++ xs) now) in
        let joined : text (spelled_after book a.options before xs) ++ text (spelled_after book b.options (before ++ xs) ys)
        ≡ text (spelled_after book a.options before (xs ++ ys)) =
        ap (λ o. text (spelled_after book a.options before xs) ++ text (spelled_after book o (before ++ xs) ys)) first.options ∙
        sym (text-append (spelled_after book a.options before xs) (spelled_after book a.options (before ++ xs) ys)) ∙
        ap text (sym (spelled_after-append book a.options before xs ys)) in
        subst (λ bits. Puts k r s u bits) joined both;
    agrees = λ before agrees.
        on_ok_map r (subst (Agrees c.sent) (append_assoc before xs ys)) (second.agrees (before ++ xs) (first.agrees before agrees));
    is_open = second.is_open;
    options = second.options ∙ first.options;
  }

  -- entries that are sent if a test holds
  pub spells_if_not : {a : Gaggle} {s : SinkState S} {b : Bool} (xs : List Entry) → b ≡ false → IsOpen s → Spells k book a a (Ok tt) s s (cond b xs [])
  spells_if_not {a} {s} xs not_so h = subst (λ b. Spells k book a a (Ok tt) s s (cond b xs [])) (sym not_so) (spells_none a s h)

  pub spells_if : {a c : Gaggle} {r : Result (Unit {0}) PutFault} {s t : SinkState S} {b : Bool} (xs : List Entry) → b ≡ true → Spells k book a c r s t xs →
      Spells k book a c r s t (cond b xs [])
  spells_if {a} {c} {r} {s} {t} xs so p = subst (λ b. Spells k book a c r s t (cond b xs [])) (sym so) p

  -- further entries after a call that failed
  pub spells_cut : {a b : Gaggle} {e : PutFault} {s t : SinkState S} {xs : List Entry} (ys : List Entry) →
      Spells k book a b (Err e) s t xs → Spells k book a b (Err e) s t (xs ++ ys)
  spells_cut {a} {b} {e} {s} {t} {xs} ys p = record {
    puts = λ before agrees.
        let joined : text (spelled_after book a.options before xs) ++ text (spelled_after book a.options (before ++ xs) ys)
        ≡ text (spelled_after book a.options before (xs ++ ys)) =
        sym (text-append (spelled_after book a.options before xs) (spelled_after book a.options (before ++ xs) ys)) ∙
        ap text (sym (spelled_after-append book a.options before xs ys)) in
        subst (λ bits. Puts {T = Unit {0}} k (Err e) s t bits) joined (puts_cut (text (spelled_after book a.options (before ++ xs) ys)) (p.puts before agrees));
    agrees = λ before agrees. tt;
    is_open = tt;
    options = p.options;
  }

  -- after a failure nothing is claimed of what was sent
  -- one entry, whose items were put
  pub one_entry : {a b : Gaggle} {r : Result (Unit {0}) PutFault} {s t : SinkState S} (x : Entry) →
      ((before : List Entry) → Agrees a.sent before → Puts k r s t (text (entry_items book a.options before x))) →
      ((before : List Entry) → Agrees a.sent before → Agrees b.sent (before ++ x ∷ [])) →
      OnOk r (IsOpen t) → b.options ≡ a.options → Spells k book a b r s t (x ∷ [])
  one_entry {a} {b} {r} {s} {t} x puts agrees h same = record {
    puts = λ before is. subst (λ items. Puts k r s t (text items)) (sym (append-nil (entry_items book a.options before x))) (puts before is);
    agrees = λ before is. on_ok r (agrees before is);
    is_open = h;
    options = same;
  }

-- ---- the items of one entry

equal_no : (m n : ℕ) → n < m → (m == n) ≡ false
equal_no m n h = grind arith

module _ (book : Book) (options : List ℕ) (before : List Entry) where
  pub raw_text : (b : Bool) → text (entry_items book options before (Bit b)) ≡ b ∷ []
  raw_text b = grind (arith, nat_tests, entry_items-bit, entry_items-word, bits_of-none, bits_of-more)

  pub short_text : (bits : Bits) → bits.count < 2 → text (entry_items book options before (Word bits)) ≡ bits_of bits.count bits.value
  short_text bits short = grind (arith, nat_tests, bits_none, append-nil, entry_items-bit, entry_items-word)

  pub again_text : (bits : Bits) → 2 ≤ bits.count → list_any (is_word_of bits.count) before ≡ true →
      text (entry_items book options before (Word bits)) ≡ item_bits (word_item book bits.count (option_of options bits.count) bits.value)
  again_text bits long was = grind (arith, nat_tests, equal_no, append-nil, entry_items-bit, entry_items-word)

  pub first_text : (bits : Bits) → 2 ≤ bits.count → list_any (is_word_of bits.count) before ≡ false →
      text (entry_items book options before (Word bits)) ≡
      item_bits (option_item bits.count (option_of options bits.count)) ++ item_bits (word_item book bits.count (option_of options bits.count) bits.value)
  first_text bits long was = grind (arith, nat_tests, equal_no, append-nil, entry_items-bit, entry_items-word)

pub puts_open : {S : Type 0} {k : SinkOf S} (r : Result (Unit {0}) PutFault) (s t : SinkState S) (xs : List Bool) → IsOpen s → Puts k r s t xs →
    OnOk r (IsOpen t)
puts_open (Ok x) s t xs h p = open_later h p.ends
puts_open (Err e) s t xs h p = tt

module _ {S : Type 0} {k : SinkOf S} {book : Book} (a : Gaggle) (r : Result (Unit {0}) PutFault) (s t : SinkState S) where
  pub spells_raw : (b : Bool) → IsOpen s → Puts k r s t (b ∷ []) → Spells k book a a r s t (Bit b ∷ [])
  spells_raw b h p =
      one_entry (Bit b) (λ before agrees. subst (λ bits. Puts k r s t bits) (sym (raw_text book a.options before b)) p)
      (λ before agrees. agrees_other a.sent before (Bit b) (λ n low. refl) agrees) (puts_open r s t (b ∷ []) h p) refl
