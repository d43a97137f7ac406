-- The options of a gaggle, and the flags that say which words it sent.
use Rattle.std.proofs.Common.{◌≡◌, ◌≢◌, ℕ, ◌+◌, ◌-◌, ◌<◌, ◌≤◌, ℤ, inl, inr, Bool, true, false, List, [], ◌∷◌, ◌++◌, length, ap, sym, ◌∙◌, subst, arith}
use Rattle.std.proofs.Common.{get_or, set, get_or-set_same, get_or-set_other, ◌==◌, ◌||◌}
use Rattle.std.specs.List.{list_any}
use Rattle.std.proofs.lemmas.List.Folds.{list_any-append}
use Rattle.std.proofs.lemmas.Bool.Decides.{nat_tests}
use Rattle.plane_defs.specs.declared.entries.Entry.{Entry}
use Rattle.plane_defs.specs.declared.entries.Entry.TheVariants.{Word}
use Rattle.plane_defs.specs.declared.entries.Bits.{Bits}
use Rattle.plane_defs.specs.Planes.{Plane, gaggles, before_stage}
use Rattle.plane_defs.specs.Spelled.{is_word_of, option_of}
use Rattle.block_masks.specs.declared.gaggle.Gaggle.{Gaggle}
use Rattle.block_masks.specs.Gaggles.{Agrees, AllAgree, AreOptions, sent_in, sent_at}
use Rattle.block_masks.specs.Stored.{Stores}
use Rattle.block_masks.proofs.Marking.{same_or_other}

pub option_known : (options : List ℕ) (n : ℕ) → AreOptions options → 2 ≤ n → n ≤ 4 → option_of options n < n
option_known options n known low high = grind (arith, nat_tests)

-- ---- which flags agree after one more entry

list_any-last : (p : Entry → Bool) (xs : List Entry) (y : Entry) → list_any p (xs ++ y ∷ []) ≡ (list_any p xs || p y)
list_any-last p xs y = grind (arith, nat_tests, list_any-append)

or_no : (a b : Bool) → b ≡ false → a ≡ (a || b)
or_no a b h = grind (arith, nat_tests)

or_true : (b : Bool) → true ≡ (b || true)
or_true b = grind (arith, nat_tests)

-- an entry that is no word of two bits or more changes nothing
pub agrees_other : (sent : List Bool) (before : List Entry) (x : Entry) → ((n : ℕ) → 2 ≤ n → is_word_of n x ≡ false) → Agrees sent before →
    Agrees sent (before ++ x ∷ [])
agrees_other sent before x none agrees = record {
  at = λ n low high. agrees.at n low high ∙ or_no _ _ (none n low) ∙ sym (list_any-last (is_word_of n) before x);
}

same_length : (there : Bool) (m n : ℕ) → (m ≡ n → there ≡ true) → there ≡ (there || (m == n))
same_length there m n h = grind (arith, nat_tests)

-- neither does a word whose length was sent before
pub agrees_again : (sent : List Bool) (before : List Entry) (bits : Bits) → 2 ≤ bits.count → bits.count ≤ 4 → get_or sent (bits.count - 2) false ≡ true →
    Agrees sent before → Agrees sent (before ++ Word bits ∷ [])
agrees_again sent before bits low high was agrees = record {
  at = λ n l h.
      agrees.at n l h ∙
      same_length (list_any (is_word_of n) before) bits.count n (λ e. sym (agrees.at n l h) ∙ ap (λ m. get_or sent (m - 2) false) (sym e) ∙ was) ∙
      sym (list_any-last (is_word_of n) before (Word bits));
}

opened : (sent : List Bool) (m n : ℕ) (there : Bool) → 2 ≤ m → m ≤ 4 → 2 ≤ n → n ≤ 4 → length sent ≡ 3 → get_or sent (n - 2) false ≡ there →
    get_or (set sent (m - 2) true) (n - 2) false ≡ (there || (m == n))
opened sent m n there lm hm ln hn three e = grind (arith, nat_tests, set, get_or-set_same, or_true, get_or-set_other, or_no)

-- the first word of its length sets the flag
pub agrees_first : (sent : List Bool) (before : List Entry) (bits : Bits) → 2 ≤ bits.count → bits.count ≤ 4 → length sent ≡ 3 →
    Agrees sent before → Agrees (set sent (bits.count - 2) true) (before ++ Word bits ∷ [])
agrees_first sent before bits low high three agrees = record {
  at = λ n l h.
      opened sent bits.count n (list_any (is_word_of n) before) low high l h three (agrees.at n l h) ∙
      sym (list_any-last (is_word_of n) before (Word bits));
}

-- ---- those of all gaggles, in a stage

-- the flags of the gaggles that were put so far, and of those that follow
pub record SomeAgree (p : Plane) (j : ℕ) (marks : List ℤ) (g : ℕ) : Type 0 where
  pub done : (h : ℕ) → h < g → Agrees (sent_at marks h) (before_stage p (j + 1) h)
  pub todo : (h : ℕ) → g ≤ h → h < gaggles p → Agrees (sent_at marks h) (before_stage p j h)

pub none_agree : (p : Plane) (j : ℕ) (marks : List ℤ) → AllAgree p j marks → SomeAgree p j marks 0
none_agree p j marks agree = record { done = λ h below. absurd (omega arith); todo = λ h above below. agree.at h below }

pub more_agree : (p : Plane) (j : ℕ) (m1 m2 : List ℤ) (g : ℕ) (gaggle : Gaggle) → SomeAgree p j m1 g → Stores m1 m2 g gaggle →
    Agrees gaggle.sent (before_stage p (j + 1) g) → SomeAgree p j m2 (g + 1)
more_agree p j m1 m2 g gaggle so_far put here = record {
  done = λ h below.
      elim (same_or_other h g) [
        | inl e ↦
            let there = subst (λ f. Agrees f (before_stage p (j + 1) g)) (sym put.sent) here in
            subst (λ i. Agrees (sent_at m2 i) (before_stage p (j + 1) i)) (sym e) there
        | inr apart ↦ subst (λ m. Agrees (sent_in m) (before_stage p (j + 1) h)) (sym (put.others h apart)) (so_far.done h (omega arith))
      ];
  todo = λ h above below.
      let apart : h ≢ g = omega arith in
      subst (λ m. Agrees (sent_in m) (before_stage p j h)) (sym (put.others h apart)) (so_far.todo h (omega arith) below);
}

pub all_agree : (p : Plane) (j : ℕ) (marks : List ℤ) (g : ℕ) → gaggles p ≤ g → SomeAgree p j marks g → AllAgree p (j + 1) marks
all_agree p j marks g all agree = record { at = λ h below. agree.done h (omega arith) }
