-- Items taken by a table.
use Rattle.std.proofs.Common.{◌≡◌, ℕ, ◌+◌, ◌-◌, ◌/◌, ◌^◌, ◌<◌, ◌≤◌, List, Bool, ◌++◌, refl, sym, ap, subst, ◌∙◌, arith, inl, inr, append-nil, Ok, Err, Some}
use Rattle.std.proofs.Common.{None}
use Rattle.std.proofs.lemmas.Bool.{cases_lt}
use Rattle.item_defs.specs.Bits.{bits_of}
use Rattle.item_defs.specs.Items.{Item, item_bits, spelling}
use Rattle.item_defs.specs.Readings.{Lacks, whole, ended}
use Rattle.item_defs.proofs.NumberBits.{length-bits_of, bits_none, bits_of-split}
use Rattle.bit_pipe.specs.declared.fault.InFault.{InFault}
use Rattle.bit_pipe.specs.declared.prefix.Prefix.{Prefix}
use Rattle.bit_pipe.specs.Sources.{SourceOf, GivesOctet}
use Rattle.bit_pipe.specs.SourceState.{SourceState, Takes, EndsBit}
use Rattle.bit_pipe.specs.Reading.{stopped, failed}
use Rattle.bit_pipe.specs.Faults.{of_input}
use Rattle.bit_pipe.specs.Answers.{IsBelow, TakesOne}
use Rattle.bit_pipe.specs.Prefixes.{Reports, prefix_at, first_bits, hand_of}
use Rattle.bit_pipe.specs.Windows.{first_of}
use Rattle.bit_pipe.proofs.WindowBits.{first_octet}
use Rattle.bit_pipe.proofs.PrefixBits.{first_then, hand_small, hand_bits, first_left, across, across_small, across_bits}
use Rattle.bit_pipe.proofs.OneItem.{one_whole, one_ended, one_failed}
use Rattle.bit_pipe.proofs.Taking.{at, takes_then, takes_pending, takes_octet, within_at_end, within_at_fault}

module _ {most : ℕ} {item : ℕ → Item} {prefixes : List Prefix} (t : Reports most item prefixes) (octet left : ℕ) (lt : left < 8)
    (more : left < (prefix_at prefixes (hand_of left octet)).len) where
  -- the bits available are no item's
  lacks_hand : Lacks t.shape (bits_of left octet)
  lacks_hand = subst (Lacks t.shape) (hand_bits left octet (omega arith)) (t.lacks (hand_of left octet) left (hand_small left octet) more)

  -- the item that is across has more bits than are available
  pub across_more : (next : ℕ) → next < 256 → left < (prefix_at prefixes (across left octet next)).len
  across_more next small =
      let v = across left octet next in
      elim (cases_lt left (prefix_at prefixes v).len) [
        | inl h ↦ h
        | inr ge ↦
            let n = (prefix_at prefixes v).number in
            let len = (prefix_at prefixes v).len in
            let none : left - left ≡ 0 = omega arith in
            let begun : first_bits left v ≡ bits_of left octet = across_bits left octet next small left (omega arith) (omega arith)
            ∙ ap (λ r. bits_of left octet ++ r) (ap (λ n. first_bits n next) none ∙ bits_none _) ∙ append-nil (bits_of left octet) in
            let rest = bits_of (left - len) (v / 2 ^ (8 - left)) in
            let first : bits_of left octet ≡ item_bits (item n) ++ rest = sym begun ∙ first_then len left v ge (omega arith) ∙ ap (λ r. r ++ rest)
            (sym (t.first v (across_small left octet next))) in
            let shaped : item_bits (item n) ≡ spelling t.shape (item n).said = ap (λ z. spelling z (item n).said) (t.same n) in
            absurd (lacks_hand (item n).said rest (t.said v (across_small left octet next)) (first ∙ ap (λ r. r ++ rest) shaped))
      ]

module _ {I : Type 0} {k : SourceOf I} {most : ℕ} {item : ℕ → Item} {prefixes : List Prefix} (t : Reports most item prefixes) where
  -- the item's bits were taken
  known_whole : {a b : SourceState I} (octet : ℕ) → octet < 256 → Takes k a b (first_bits (prefix_at prefixes octet).len octet) →
      TakesOne k (IsBelow most) item (Ok (Some (prefix_at prefixes octet).number)) a b
  known_whole {a} {b} octet small p = record {
    value = (prefix_at prefixes octet).number;
    known = t.known octet small;
    ending = stopped whole;
    read = one_whole (item (prefix_at prefixes octet).number) (subst (Takes k a b) (sym (t.first octet small)) p);
    answer = refl;
  }

  -- they are first in a window
  pub known_first : {a b : SourceState I} (window : ℕ) → window < 2 ^ 64 → Takes k a b (first_of (prefix_at prefixes (window / 2 ^ 56)).len window) →
      TakesOne k (IsBelow most) item (Ok (Some (prefix_at prefixes (window / 2 ^ 56)).number)) a b
  known_first {a} {b} window fits p =
      let v = window / 2 ^ 56 in
      let small : v < 256 = omega arith in
      known_whole v small (subst (Takes k a b) (first_octet (prefix_at prefixes v).len window (t.few v small)) p)

  module _ {a b c : SourceState I} {bits : List Bool} (lacks : Lacks t.shape bits) (p : Takes k a b bits) where
    -- there are too few bits
    known_ended : EndsBit k (Ok None) b c → TakesOne k (IsBelow most) item (Ok None) a c
    known_ended q = record {
      value = (prefix_at prefixes 0).number;
      known = t.known 0 (omega arith);
      ending = stopped (ended 0);
      read = one_ended (item (prefix_at prefixes 0).number) (rw (t.same (prefix_at prefixes 0).number) (within_at_end t.shape lacks p q));
      answer = refl;
    }

    known_failed : (e : InFault) → EndsBit k (Err e) b c → TakesOne k (IsBelow most) item (Err (of_input e)) a c
    known_failed e q = record {
      value = (prefix_at prefixes 0).number;
      known = t.known 0 (omega arith);
      ending = failed 0 e;
      read = one_failed (item (prefix_at prefixes 0).number) e (rw (t.same (prefix_at prefixes 0).number) (within_at_fault t.shape e lacks p q));
      answer = refl;
    }

  module _ (s : I) (octet left used room name : ℕ) (lt : left < 8) (fits : left ≤ room) where
    -- all its bits are available
    pub known_at_hand : (v len a b : ℕ) → v ≡ hand_of left octet → a ≡ len → b ≡ len → len ≡ (prefix_at prefixes v).len → len ≤ left →
        TakesOne k (IsBelow most) item (Ok (Some (prefix_at prefixes v).number)) (at s octet left used room name)
        (at s octet (left - len) (used + b) (room - a) name)
    known_at_hand v len a b is ea eb h le =
        let e : len ≡ (prefix_at prefixes (hand_of left octet)).len = h ∙ ap (λ n. (prefix_at prefixes n).len) is in
        let first = first_bits (prefix_at prefixes (hand_of left octet)).len (hand_of left octet) in
        let split : bits_of left octet ≡ first ++ bits_of (left - len) octet =
        first_left len left octet le (omega arith) ∙ ap (λ n. first_bits n (hand_of left octet) ++ bits_of (left - len) octet) e in
        let long = length-bits_of (prefix_at prefixes (hand_of left octet)).len (hand_of left octet / 2 ^ (8 - (prefix_at prefixes (hand_of left octet)).len))
        ∙ sym e in
        rw (ea, eb, is) (known_whole (hand_of left octet) (hand_small left octet) (takes_pending k s octet left used room name len first split long lt
        (omega arith)))

    module _ (more : left < (prefix_at prefixes (hand_of left octet)).len) where
      -- the bits available are taken
      pub hand_taken : (a b : ℕ) → a ≡ left → b ≡ left → Takes k (at s octet left used room name) (at s octet 0 (used + b) (room - a) name) (bits_of left octet)
      hand_taken a b ea eb =
          let none : left - left ≡ 0 = omega arith in
          let all : bits_of left octet ≡ bits_of left octet ++ bits_of (left - left) octet =
          sym (append-nil (bits_of left octet)) ∙ ap (λ r. bits_of left octet ++ r) (sym (ap (λ n. bits_of n octet) none ∙ bits_none octet)) in
          rw (ea, eb) (rw none at (takes_pending k s octet left used room name left (bits_of left octet) all (length-bits_of left octet) lt fits))

      pub hand_ended : (a b : ℕ) → a ≡ left → b ≡ left → {c : SourceState I} → EndsBit k (Ok None) (at s octet 0 (used + b) (room - a) name) c →
          TakesOne k (IsBelow most) item (Ok None) (at s octet left used room name) c
      hand_ended a b ea eb q = known_ended (lacks_hand t octet left lt more) (hand_taken a b ea eb) q

      pub hand_failed : (a b : ℕ) → a ≡ left → b ≡ left → {c : SourceState I} (e : InFault) → EndsBit k (Err e) (at s octet 0 (used + b) (room - a) name) c →
          TakesOne k (IsBelow most) item (Err (of_input e)) (at s octet left used room name) c
      hand_failed a b ea eb e q = known_failed (lacks_hand t octet left lt more) (hand_taken a b ea eb) e q

      -- its last bits are first in the next octet
      module _ (u : I) (next : ℕ) (h : GivesOctet k (Ok (Some next)) s u) where
        crossed : (8 ≤ room - left) → TakesOne k (IsBelow most) item (Ok (Some (prefix_at prefixes (across left octet next)).number))
            (at s octet left used room name)
            (at u next (8 - ((prefix_at prefixes (across left octet next)).len - left))
            ((used + left) + ((prefix_at prefixes (across left octet next)).len - left))
            ((room - left) - ((prefix_at prefixes (across left octet next)).len - left)) name)
        crossed enough =
            let v = across left octet next in
            let len = (prefix_at prefixes v).len in
            let long : left < len = across_more t octet left lt more next h.ends.1 in
            let more = len - left in
            let few : len ≤ 8 = t.few v (across_small left octet next) in
            let first = first_bits more next in
            let rest : more + (8 - more) ≡ 8 = omega arith in
            let split : bits_of 8 next ≡ first ++ bits_of (8 - more) next = ap (λ n. bits_of n next) (sym rest) ∙ bits_of-split more (8 - more) next in
            let last : Takes k (at s octet 0 (used + left) (room - left) name) (at u next (8 - more) ((used + left) + more) ((room - left) - more) name) first =
            takes_octet k s u octet next 0 (used + left) (room - left) name more first split (length-bits_of more _) refl (omega arith) (omega arith) h in
            let joined : bits_of left octet ++ first ≡ first_bits len v = sym (across_bits left octet next h.ends.1 len (omega arith) few) in
            known_whole v (across_small left octet next) (subst (Takes k _ _) joined (takes_then (hand_taken left left refl refl) last))

        pub across_taken : (v a b c d : ℕ) → v ≡ across left octet next → a ≡ left → b ≡ left → c ≡ (prefix_at prefixes v).len - left →
            d ≡ (prefix_at prefixes v).len - left → 8 ≤ room - left →
            TakesOne k (IsBelow most) item (Ok (Some (prefix_at prefixes v).number)) (at s octet left used room name)
            (at u next (8 - ((prefix_at prefixes v).len - left)) ((used + b) + d) ((room - a) - c) name)
        across_taken v a b c d ev ea eb ec ed enough = rw (ea, eb, ec, ed, ev) (crossed enough)
