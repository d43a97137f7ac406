-- Entries that are added one after another, and put together.
use Rattle.std.proofs.Common.{◌≡◌, ◌⊎◌, inl, inr, ◌^◌, ℕ, zero, suc, ◌+◌, ◌-◌, ◌/◌, ◌%◌, ◌<◌, ◌≤◌, Bool, true, false, List, [], ◌∷◌, ◌++◌, length, map}
use Rattle.std.proofs.Common.{nat_lt, get_or, set}
use Rattle.std.proofs.Common.{refl, ap, sym, ◌∙◌, subst, arith, append_assoc, append-nil, Result, if◌then◌else◌}
use Rattle.std.specs.List.{list_any}
use Rattle.std.proofs.lemmas.Bool.Decides.{nat_tests}
use Rattle.item_defs.specs.Bits.{bits_of}
use Rattle.item_defs.specs.Items.{item_bits, text}
use Rattle.item_defs.proofs.NumberBits.{bits_none}
use Rattle.item_defs.proofs.Texts.{text-append}
use Rattle.bit_pipe.specs.Sinks.{SinkOf}
use Rattle.bit_pipe.specs.SinkState.{SinkState, IsOpen, Puts}
use Rattle.bit_pipe.specs.declared.fault.PutFault.{PutFault}
use Rattle.base_122.specs.declared.book.Book.{Book}
use Rattle.plane_defs.specs.declared.entries.Entry.{Entry}
use Rattle.plane_defs.specs.declared.entries.Entry.TheVariants.{Bit, Word}
use Rattle.plane_defs.specs.declared.entries.Bits.{Bits}
use Rattle.plane_defs.specs.Codes.{option_item, identifier_width}
use Rattle.plane_defs.specs.Spelled.{is_word_of, option_of, entry_items, spelled_after, opening}
use Rattle.plane_defs.proofs.SpelledLists.{spelled_after-append}
use Rattle.block_masks.specs.declared.gaggle.Gaggle.{Gaggle}
use Rattle.block_masks.specs.Gaggles.{Agrees}
use Rattle.plane_coder.specs.Spells.{Spells}
use Rattle.plane_coder.specs.declared.pending.PendingBits.{PendingBits}
use Rattle.plane_coder.specs.Picked.{word_of}
use Rattle.plane_coder.specs.Coding.{word_bits, option_for, unopened, closed_in}
use Rattle.plane_coder.specs.Appends.{Appends, Opens, identified, said, load}
use Rattle.block_masks.proofs.Agreeing.{agrees_other, agrees_again, agrees_first}
use Rattle.plane_coder.proofs.Spelling.{on_ok, puts_open, raw_text, short_text, again_text, first_text}

-- no entries add nothing
pub appends_none : (book : Book) (a : PendingBits) → Appends book a a [] 0
appends_none book a = record {
  bits = λ before agrees. sym (append-nil (said a));
  agrees = λ before agrees. subst (Agrees a.gaggle.sent) (sym (append-nil before)) agrees;
  options = refl;
  load = omega arith;
}

pub appends_less : {book : Book} {a b : PendingBits} {xs : List Entry} (m n : ℕ) → m ≤ n → Appends book a b xs m → Appends book a b xs n
appends_less m n le p = record { bits = p.bits; agrees = p.agrees; options = p.options; load = omega (arith, p.load) }

pub appends_both : {book : Book} {a b c : PendingBits} {xs ys : List Entry} (m n : ℕ) → Appends book a b xs m → Appends book b c ys n →
    Appends book a c (xs ++ ys) (m + n)
appends_both {book} {a} {b} {c} {xs} {ys} m n first second = record {
  bits = λ before agrees.
      let x = text (spelled_after book a.gaggle.options before xs) in
      second.bits (before ++ xs) (first.agrees before agrees) ∙
      ap (λ o. said b ++ text (spelled_after book o (before ++ xs) ys)) first.options ∙
      ap (λ l. l ++ text (spelled_after book a.gaggle.options (before ++ xs) ys)) (first.bits before agrees) ∙
      append_assoc (said a) x (text (spelled_after book a.gaggle.options (before ++ xs) ys)) ∙
      ap (λ l. said a ++ l) (sym (text-append (spelled_after book a.gaggle.options before xs) (spelled_after book a.gaggle.options (before ++ xs) ys)) ∙
      ap text (sym (spelled_after-append book a.gaggle.options before xs ys)));
  agrees = λ before agrees. subst (Agrees c.gaggle.sent) (append_assoc before xs ys) (second.agrees (before ++ xs) (first.agrees before agrees));
  options = second.options ∙ first.options;
  load = omega (arith, first.load, second.load);
}

-- where no bits wait, nothing is said
pub silent_said : (a : PendingBits) → a.count ≡ 0 → said a ≡ []
silent_said a silent = ap (λ n. bits_of n a.value) silent ∙ bits_none a.value

one_less : (b : Bool) (n : ℕ) → (if b then 0 else n) ≤ n
one_less b n = grind (arith, nat_tests)

few_unopened : (sent : List Bool) → unopened sent ≤ 5
few_unopened sent = omega (arith, one_less (get_or sent 0 false) 1, one_less (get_or sent 1 false) 2, one_less (get_or sent 2 false) 2)

-- and only identifiers may come
pub silent_load : (a : PendingBits) → a.count ≡ 0 → load a ≤ 5
silent_load a silent = omega (arith, silent, few_unopened a.gaggle.sent)

-- what was added from the start, and put
pub spells_said : {S : Type 0} {k : SinkOf S} {book : Book} {a b : PendingBits} {g : Gaggle} {r : Result (Unit {0}) PutFault} {s t : SinkState S}
    {xs : List Entry} (most : ℕ) →
    IsOpen s → a.count ≡ 0 → Appends book a b xs most → Puts k r s t (said b) → g ≡ b.gaggle → Spells k book a.gaggle g r s t xs
spells_said {S} {k} {book} {a} {b} {g} {r} {s} {t} {xs} most opened silent p put same =
    subst (λ h. Spells k book a.gaggle h r s t xs) (sym same) record {
      puts = λ before agrees. subst (λ l. Puts k r s t l) (p.bits before agrees ∙ ap (λ l. l ++ text (spelled_after book a.gaggle.options before xs))
          (silent_said a silent)) put;
      agrees = λ before agrees. on_ok r (p.agrees before agrees);
      is_open = puts_open r s t (said b) opened put;
      options = p.options;
    }

-- ---- one word

less : (n : ℕ) → n < 2 → nat_lt n 2 ≡ true
less n h = grind arith

pub no_less : (n : ℕ) → 2 ≤ n → nat_lt n 2 ≡ false
no_less n h = grind arith

pub opens_short : (n : ℕ) (a : PendingBits) → n < 2 → Opens n a a
opens_short n a short = record {
  bits = λ before agrees. sym (ap (λ b. said a ++ text (if b then [] else opening a.gaggle.options before n)) (less n short) ∙ append-nil (said a));
  agrees = λ before word is agrees. agrees_other a.gaggle.sent before (Word word) (λ m low. grind (arith, is, short, low)) agrees;
  options = refl;
}

pub opens_again : (n : ℕ) (a : PendingBits) → 2 ≤ n → n ≤ 4 → get_or a.gaggle.sent (n - 2) false ≡ true → Opens n a a
opens_again n a low high was = record {
  bits = λ before agrees.
      let there : list_any (is_word_of n) before ≡ true = sym (agrees.at n low high) ∙ was in
      sym (ap (λ b. said a ++ text (if b then [] else opening a.gaggle.options before n)) (no_less n low) ∙
      ap (λ b. said a ++ text (if b then [] else option_item n (option_of a.gaggle.options n) ∷ [])) there ∙ append-nil (said a));
  agrees = λ before word is agrees.
      agrees_again a.gaggle.sent before word (subst (λ m. 2 ≤ m) (sym is) low) (subst (λ m. m ≤ 4) (sym is) high)
      (ap (λ m. get_or a.gaggle.sent (m - 2) false) is ∙ was) agrees;
  options = refl;
}

-- the mask of the lengths before which an identifier is due
abbrev mask_of : Bool → Bool → Bool → ℕ
mask_of a b c = (if a then 0 else 4) + (if b then 0 else 8) + (if c then 0 else 16)

shut_two : (a b c : Bool) → (a ≡ true) ⊎ (a ≡ false × (mask_of a b c / 4 % 2 ≡ 1))
shut_two true b c = inl refl
shut_two false true true = inr (refl, refl)
shut_two false true false = inr (refl, refl)
shut_two false false true = inr (refl, refl)
shut_two false false false = inr (refl, refl)

open_two : (a b c : Bool) → mask_of a b c / 4 % 2 ≡ 0 → a ≡ true
open_two a b c is = elim (shut_two a b c) [ inl e ↦ e | inr e ↦ absurd (omega (arith, is, e.1)) ]

shut_three : (a b c : Bool) → (b ≡ true) ⊎ (b ≡ false × (mask_of a b c / 8 % 2 ≡ 1))
shut_three a true c = inl refl
shut_three true false true = inr (refl, refl)
shut_three true false false = inr (refl, refl)
shut_three false false true = inr (refl, refl)
shut_three false false false = inr (refl, refl)

open_three : (a b c : Bool) → mask_of a b c / 8 % 2 ≡ 0 → b ≡ true
open_three a b c is = elim (shut_three a b c) [ inl e ↦ e | inr e ↦ absurd (omega (arith, is, e.1)) ]

shut_four : (a b c : Bool) → (c ≡ true) ⊎ (c ≡ false × (mask_of a b c / 16 % 2 ≡ 1))
shut_four a b true = inl refl
shut_four true true false = inr (refl, refl)
shut_four true false false = inr (refl, refl)
shut_four false true false = inr (refl, refl)
shut_four false false false = inr (refl, refl)

open_four : (a b c : Bool) → mask_of a b c / 16 % 2 ≡ 0 → c ≡ true
open_four a b c is = elim (shut_four a b c) [ inl e ↦ e | inr e ↦ absurd (omega (arith, is, e.1)) ]

not_both : (a : Bool) → ((a ≡ true) → ⊥) → a ≡ false
not_both true never = absurd (never refl)
not_both false never = refl

-- no identifier is due before a word of this length
pub opens_already : (n : ℕ) (a : PendingBits) → n ≤ 4 → a.closed / 2 ^ n % 2 ≡ 0 → Opens n a a
opens_already zero a high is = opens_short zero a (omega arith)
opens_already (suc zero) a high is = opens_short (suc zero) a (omega arith)
opens_already (suc (suc zero)) a high is =
    opens_again 2 a (omega arith) (omega arith) (open_two (get_or a.gaggle.sent 0 false) _ _ (ap (λ m. m / 4 % 2) (sym a.closed_known) ∙ is))
opens_already (suc (suc (suc zero))) a high is =
    opens_again 3 a (omega arith) (omega arith) (open_three _ (get_or a.gaggle.sent 1 false) _ (ap (λ m. m / 8 % 2) (sym a.closed_known) ∙ is))
opens_already (suc (suc (suc (suc zero)))) a high is =
    opens_again 4 a (omega arith) (omega arith) (open_four _ _ (get_or a.gaggle.sent 2 false) (ap (λ m. m / 16 % 2) (sym a.closed_known) ∙ is))
opens_already (suc (suc (suc (suc (suc n))))) a high is = absurd (omega arith)

-- none is due before any word
pub opens_any : (n : ℕ) (a : PendingBits) → n ≤ 4 → a.closed ≡ 0 → Opens n a a
opens_any n a high none = opens_already n a high (ap (λ m. m / 2 ^ n % 2) none ∙ nothing n high)
  where
    nothing : (n : ℕ) → n ≤ 4 → 0 / 2 ^ n % 2 ≡ 0
    nothing zero le = refl
    nothing (suc zero) le = refl
    nothing (suc (suc zero)) le = refl
    nothing (suc (suc (suc zero))) le = refl
    nothing (suc (suc (suc (suc zero)))) le = refl
    nothing (suc (suc (suc (suc (suc n))))) le = absurd (omega arith)

-- none is due where the same words were sent
pub still_open : (a b : PendingBits) → b.gaggle ≡ a.gaggle → a.closed ≡ 0 → b.closed ≡ 0
still_open a b same none = b.closed_known ∙ ap (λ (g : Gaggle). closed_in g.sent) same ∙ sym a.closed_known ∙ none

-- an identifier is due
fourths : (a b c : Bool) → mask_of a b c % 4 ≡ 0
fourths true true true = refl
fourths true true false = refl
fourths true false true = refl
fourths true false false = refl
fourths false true true = refl
fourths false true false = refl
fourths false false true = refl
fourths false false false = refl

pub is_long : (n : ℕ) (a : PendingBits) → ((a.closed / 2 ^ n % 2 ≡ 0) → ⊥) → 2 ≤ n
is_long zero a due =
    let whole : a.closed % 4 ≡ 0 = ap (λ m. m % 4) a.closed_known ∙ fourths _ _ _ in
    let none : a.closed / 1 % 2 ≡ 0 = omega (arith, whole) in absurd (due none)
is_long (suc zero) a due =
    let whole : a.closed % 4 ≡ 0 = ap (λ m. m % 4) a.closed_known ∙ fourths _ _ _ in
    let none : a.closed / 2 % 2 ≡ 0 = omega (arith, whole) in absurd (due none)
is_long (suc (suc n)) a due = omega arith

pub is_due : (n : ℕ) (a : PendingBits) → n ≤ 4 → ((a.closed / 2 ^ n % 2 ≡ 0) → ⊥) → get_or a.gaggle.sent (n - 2) false ≡ false
is_due n a high due = not_both (get_or a.gaggle.sent (n - 2) false) (λ was. due (open_at n high (is_long n a due) was))
  where
    none_two : (a b c : Bool) → a ≡ true → mask_of a b c / 4 % 2 ≡ 0
    none_two a b c is = grind (arith, nat_tests)

    none_three : (a b c : Bool) → b ≡ true → mask_of a b c / 8 % 2 ≡ 0
    none_three a b c is = grind (arith, nat_tests)

    none_four : (a b c : Bool) → c ≡ true → mask_of a b c / 16 % 2 ≡ 0
    none_four a b c is = grind (arith, nat_tests)

    open_at : (n : ℕ) → n ≤ 4 → 2 ≤ n → get_or a.gaggle.sent (n - 2) false ≡ true → a.closed / 2 ^ n % 2 ≡ 0
    open_at zero le low was = absurd (omega arith)
    open_at (suc zero) le low was = absurd (omega arith)
    open_at (suc (suc zero)) le low was = ap (λ m. m / 4 % 2) a.closed_known ∙ none_two _ _ _ was
    open_at (suc (suc (suc zero))) le low was = ap (λ m. m / 8 % 2) a.closed_known ∙ none_three _ _ _ was
    open_at (suc (suc (suc (suc zero)))) le low was = ap (λ m. m / 16 % 2) a.closed_known ∙ none_four _ _ _ was
    open_at (suc (suc (suc (suc (suc n))))) le low was = absurd (omega arith)

pub opens_first : (n : ℕ) (a b : PendingBits) → 2 ≤ n → n ≤ 4 → length a.gaggle.sent ≡ 3 → get_or a.gaggle.sent (n - 2) false ≡ false →
    said b ≡ said a ++ item_bits (option_item n (option_of a.gaggle.options n)) → b.gaggle.sent ≡ set a.gaggle.sent (n - 2) true →
    b.gaggle.options ≡ a.gaggle.options → Opens n a b
opens_first n a b low high three was put sent same = record {
  bits = λ before agrees.
      let none : list_any (is_word_of n) before ≡ false = sym (agrees.at n low high) ∙ was in
      put ∙ ap (λ l. said a ++ l) (sym (append-nil (item_bits (option_item n (option_of a.gaggle.options n))))) ∙
      sym (ap (λ b. said a ++ text (if b then [] else opening a.gaggle.options before n)) (no_less n low) ∙
      ap (λ b. said a ++ text (if b then [] else option_item n (option_of a.gaggle.options n) ∷ [])) none);
  agrees = λ before word is agrees.
      let first = agrees_first a.gaggle.sent before word (subst (λ m. 2 ≤ m) (sym is) low) (subst (λ m. m ≤ 4) (sym is) high) three agrees in
      subst (λ l. Agrees l (before ++ Word word ∷ [])) (ap (λ m. set a.gaggle.sent (m - 2) true) is ∙ sym sent) first;
  options = same;
}

module _ (book : Book) (options : List ℕ) (before : List Entry) where
  said_text : (w : Bits) → text (spelled_after book options before (Word w ∷ [])) ≡ text (identified options before w.count) ++ word_bits book w.count
      (option_for options w.count) w.value
  said_text w = grind (arith, nat_tests, append-nil, short_text, less, no_less, again_text, first_text)

pub appends_word : (book : Book) (a b c : PendingBits) (word : ℕ) → Opens (word / 16) a b → load b ≡ load a → load c ≤ load b + 8 →
    said c ≡ said b ++ word_bits book (word / 16) (option_for a.gaggle.options (word / 16)) (word % 16) → c.gaggle ≡ b.gaggle →
    Appends book a c (word_of word ∷ []) 8
appends_word book a b c word opens same more put kept = record {
  bits = λ before agrees.
      let w = word_bits book (word / 16) (option_for a.gaggle.options (word / 16)) (word % 16) in
      put ∙ ap (λ l. l ++ w) (opens.bits before agrees) ∙
      append_assoc (said a) (text (identified a.gaggle.options before (word / 16))) w ∙
      ap (λ l. said a ++ l) (sym (said_text book a.gaggle.options before (record { value = word % 16; count = word / 16 })));
  agrees = λ before agrees. subst (λ g. Agrees g.sent (before ++ word_of word ∷ [])) (sym kept)
      (opens.agrees before (record { value = word % 16; count = word / 16 }) refl agrees);
  options = ap (λ g. g.options) kept ∙ opens.options;
  load = omega (arith, same, more);
}

-- ---- how many bits may follow

pub load_pushed : (a b : PendingBits) (n : ℕ) → b.count ≡ a.count + n → b.gaggle ≡ a.gaggle → load b ≡ load a + n
load_pushed a b n more kept = let same = ap (λ (g : Gaggle). unopened g.sent) kept in omega (arith, same, more)

pub opened_less : (sent : List Bool) (n : ℕ) → length sent ≡ 3 → 2 ≤ n → n ≤ 4 → get_or sent (n - 2) false ≡ false →
    unopened (set sent (n - 2) true) + identifier_width n ≡ unopened sent
opened_less [] n three low high was = absurd (omega (arith, three))
opened_less (a ∷ []) n three low high was = absurd (omega (arith, three))
opened_less (a ∷ b ∷ []) n three low high was = absurd (omega (arith, three))
opened_less (a ∷ b ∷ c ∷ d ∷ sent) n three low high was = absurd (omega (arith, three))
opened_less (a ∷ b ∷ c ∷ []) zero three low high was = absurd (omega arith)
opened_less (a ∷ b ∷ c ∷ []) (suc zero) three low high was = absurd (omega arith)
opened_less (a ∷ b ∷ c ∷ []) (suc (suc zero)) three low high was = rw was (omega arith)
opened_less (a ∷ b ∷ c ∷ []) (suc (suc (suc zero))) three low high was = rw was (omega arith)
opened_less (a ∷ b ∷ c ∷ []) (suc (suc (suc (suc zero)))) three low high was = rw was (omega arith)
opened_less (a ∷ b ∷ c ∷ []) (suc (suc (suc (suc (suc n))))) three low high was = absurd (omega arith)

-- ---- raw bits

raws_text : (book : Book) (options : List ℕ) (before : List Entry) (bits : List Bool) → text (spelled_after book options before (map Bit bits)) ≡ bits
raws_text book options before [] = refl
raws_text book options before (b ∷ bits) =
    text-append (entry_items book options before (Bit b)) (spelled_after book options (before ++ Bit b ∷ []) (map Bit bits)) ∙
    ap (λ l. l ++ text (spelled_after book options (before ++ Bit b ∷ []) (map Bit bits))) (raw_text book options before b) ∙
    ap (λ l. b ∷ l) (raws_text book options (before ++ Bit b ∷ []) bits)

raws_agree : (sent : List Bool) (before : List Entry) (bits : List Bool) → Agrees sent before → Agrees sent (before ++ map Bit bits)
raws_agree sent before [] agrees = subst (Agrees sent) (sym (append-nil before)) agrees
raws_agree sent before (b ∷ bits) agrees =
    subst (Agrees sent) (append_assoc before (Bit b ∷ []) (map Bit bits))
    (raws_agree sent (before ++ Bit b ∷ []) bits (agrees_other sent before (Bit b) (λ n low. refl) agrees))

pub appends_raws : (book : Book) (a b : PendingBits) (bits : List Bool) (most : ℕ) → said b ≡ said a ++ bits → b.gaggle ≡ a.gaggle →
    load b ≤ load a + most → Appends book a b (map Bit bits) most
appends_raws book a b bits most put kept more = record {
  bits = λ before agrees. put ∙ ap (λ l. said a ++ l) (sym (raws_text book a.gaggle.options before bits));
  agrees = λ before agrees. subst (λ g. Agrees g.sent (before ++ map Bit bits)) (sym kept) (raws_agree a.gaggle.sent before bits agrees);
  options = ap (λ g. g.options) kept;
  load = more;
}
