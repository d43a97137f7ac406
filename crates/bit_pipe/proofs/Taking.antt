-- Bits taken one after another.
use Rattle.std.proofs.Common.{◌≡◌, ℕ, ◌+◌, ◌-◌, ◌<◌, ◌≤◌, List, [], ◌∷◌, ◌++◌, length, Bool, inl, inr, refl, sym, ap, ◌∙◌, append_assoc, arith}
use Rattle.std.proofs.Common.{length-append, Option, None, Some, Ok, Err, append-nil}
use Rattle.bit_pipe.proofs.Putting.{regroup}
use Rattle.item_defs.specs.Bits.{bits_of, bits_of_octets}
use Rattle.item_defs.proofs.NumberBits.{bits_none, length-bits_of}
use Rattle.item_defs.proofs.OctetBits.{no_octets, octets_one, octets_append, octets_nil, octets_both, octet_alone}
use Rattle.item_defs.specs.Items.{Shape}
use Rattle.item_defs.specs.Readings.{Lacks}
use Rattle.bit_pipe.specs.declared.fault.InFault.{InFault}
use Rattle.bit_pipe.specs.declared.fault.InFault.TheVariants.{ReadFault, LongInput, Broken}
use Rattle.bit_pipe.specs.Sources.{Tail, SourceOf, Arrives, Fails, GivesOctet}
use Rattle.bit_pipe.specs.SourceState.{SourceState, Takes, IsIn, FailsSo, EndsBit, EndsItem, GivesBit, GivesItem}
use Rattle.bit_pipe.proofs.Giving.{rose_since}

pub arrives_same : (t : Option Tail) → Arrives t t []
arrives_same None = tt
arrives_same (Some t) = (refl, refl)

pub arrives_then : (a b c : Option Tail) (xs ys : List ℕ) → Arrives a b xs → Arrives b c ys → Arrives a c (xs ++ ys)
arrives_then None None None xs ys p q = tt
arrives_then None None (Some c) xs ys p q = absurd q
arrives_then None (Some b) c xs ys p q = absurd p
arrives_then (Some a) None c xs ys p q = absurd p
arrives_then (Some a) (Some b) None xs ys p q = absurd q
arrives_then (Some a) (Some b) (Some c) xs ys p q = (p.0 ∙ ap (λ r. xs ++ r) q.0 ∙ sym (append_assoc xs ys c.octets), p.1 ∙ q.1)

pub takes_start : {I : Type 0} (k : SourceOf I) (s : SourceState I) → IsIn s → Takes k s s []
takes_start k s h = record {
  octets = [];
  small = octets_nil;
  came = arrives_same (k.tail s.source);
  spell = ap (λ r. s.pending ++ r) no_octets ∙ append-nil s.pending;
  pending = h.pending;
  used = omega arith;
  room = omega arith;
  faults = omega arith;
  went = k.went_none s.source;
  name = refl;
}

pub takes_then : {I : Type 0} {k : SourceOf I} {a b c : SourceState I} {xs ys : List Bool} → Takes k a b xs → Takes k b c ys → Takes k a c (xs ++ ys)
takes_then {I} {k} {a} {b} {c} {xs} {ys} p q = record {
  octets = p.octets ++ q.octets;
  small = octets_both p.octets q.octets p.small q.small;
  came = arrives_then (k.tail a.source) (k.tail b.source) (k.tail c.source) p.octets q.octets p.came q.came;
  spell = ap (λ r. a.pending ++ r) (octets_append p.octets q.octets) ∙ regroup a.pending (bits_of_octets p.octets) (bits_of_octets q.octets) xs b.pending ys
      c.pending p.spell q.spell;
  pending = q.pending;
  used = omega (arith, p.used, q.used, length-append xs ys);
  room = omega (arith, p.room, q.room, length-append xs ys);
  faults = omega (arith, p.faults, q.faults);
  went = k.went_both a.source b.source c.source p.went q.went;
  name = q.name ∙ p.name;
}

pub in_later : {I : Type 0} {k : SourceOf I} {a b : SourceState I} {xs : List Bool} → IsIn a → Takes k a b xs → IsIn b
in_later h p = record { bound = omega (arith, h.bound, p.used, p.room); pending = p.pending }

fails_later : {I : Type 0} (k : SourceOf I) (e : InFault) (a b c : I) → k.faults a ≤ k.faults b → Fails k e b c → Fails k e a c
fails_later k ReadFault a b c le h = rose_since (k.faults a) (k.faults b) (k.faults c) le h
fails_later k LongInput a b c le h = h
fails_later k Broken a b c le h = h

pub fails_so_later : {I : Type 0} {k : SourceOf I} {e : InFault} {a b c : SourceState I} {xs : List Bool} → Takes k a b xs → FailsSo k e b c → FailsSo k e a c
fails_so_later {I} {k} {e} {a} {b} {c} p q = record { room = q.room; pending = q.pending; cause = fails_later k e a.source b.source c.source p.faults q.cause }

-- ---- what a reader shows, field by field

abbrev pub at : {I : Type 0} → I → ℕ → ℕ → ℕ → ℕ → ℕ → SourceState I
at source octet left used room name = record { source = source; pending = bits_of left octet; used = used; room = room; name = name }

module _ {I : Type 0} (k : SourceOf I) where
  -- the first n of the bits that are left of the octet
  pub takes_pending : (s : I) (octet left used room name n : ℕ) (first : List Bool) → bits_of left octet ≡ first ++ bits_of (left - n) octet →
      length first ≡ n → left < 8 → n ≤ room →
      Takes k (at s octet left used room name) (at s octet (left - n) (used + n) (room - n) name) first
  takes_pending s octet left used room name n first e long lt fits = record {
    octets = [];
    small = octets_nil;
    came = arrives_same (k.tail s);
    spell = ap (λ r. bits_of left octet ++ r) no_octets ∙ append-nil (bits_of left octet) ∙ e;
    pending = omega (arith, length-bits_of (left - n) octet);
    used = omega (arith, long);
    room = omega (arith, long);
    faults = omega arith;
    went = k.went_none s;
    name = refl;
  }

  -- the first n bits of the next octet
  pub takes_octet : (s t : I) (before octet left used room name n : ℕ) (first : List Bool) → bits_of 8 octet ≡ first ++ bits_of (8 - n) octet →
      length first ≡ n → left ≡ 0 → 0 < n → n ≤ room →
      GivesOctet k (Ok (Some octet)) s t → Takes k (at s before left used room name) (at t octet (8 - n) (used + n) (room - n) name) first
  takes_octet s t before octet left used room name n first e long none some fits h = record {
    octets = octet ∷ [];
    small = octet_alone octet h.ends.1;
    came = h.ends.0;
    spell = ap (λ w. bits_of w before ++ bits_of_octets (octet ∷ [])) none ∙ ap (λ r. r ++ bits_of_octets (octet ∷ [])) (bits_none before)
        ∙ octets_one octet ∙ e;
    pending = omega (arith, length-bits_of (8 - n) octet);
    used = omega (arith, long);
    room = omega (arith, long);
    faults = h.faults;
    went = h.went;
    name = refl;
  }

  takes_nothing : (s t : I) (octet left used room name : ℕ) → left < 8 → Arrives (k.tail s) (k.tail t) [] → k.faults s ≤ k.faults t → k.Went s t →
      Takes k (at s octet left used room name) (at t octet left used room name) []
  takes_nothing s t octet left used room name lt c f w = record {
    octets = [];
    small = octets_nil;
    came = c;
    spell = ap (λ r. bits_of left octet ++ r) no_octets ∙ append-nil (bits_of left octet);
    pending = omega (arith, length-bits_of left octet);
    used = omega arith;
    room = omega arith;
    faults = f;
    went = w;
    name = refl;
  }

  no_pending : (octet left : ℕ) → left ≡ 0 → bits_of left octet ≡ []
  no_pending octet left e = ap (λ w. bits_of w octet) e ∙ bits_none octet

  -- the octets end
  pub octet_end : (s t : I) (octet left used room name : ℕ) → left ≡ 0 → GivesOctet k (Ok None) s t →
      EndsBit k (Ok None) (at s octet left used room name) (at t octet left used room name)
  octet_end s t octet left used room name none h =
      (takes_nothing s t octet left used room name (omega arith) h.ends.0 h.faults h.went, record { bits = inr (no_pending octet left none, h.ends.1) })

  -- the call for an octet failed
  pub octet_fault : (e : InFault) (s t : I) (octet left used room name : ℕ) → left ≡ 0 → 0 < room → GivesOctet k (Err e) s t →
      EndsBit k (Err e) (at s octet left used room name) (at t octet left used room name)
  octet_fault e s t octet left used room name none some h = (
    takes_nothing s t octet left used room name (omega arith) h.ends.0 h.faults h.went,
    record {
      room = some;
      pending =
          no_pending octet left none;
      cause = h.ends.1;
    },
  )

  -- the bound is reached
  pub at_bound : (s : SourceState I) → IsIn s → s.room ≡ 0 → EndsBit k (Ok None) s s
  at_bound s h e = (takes_start k s h, record { bits = inl e })

-- ---- items

-- some bits of a shape were taken, and then nothing more followed
pub within_at_end : {I : Type 0} {k : SourceOf I} (s : Shape) {a b c : SourceState I} {xs : List Bool} → Lacks s xs → Takes k a b xs → EndsBit k (Ok None) b c →
    EndsItem k s (Ok None) a c
within_at_end s {xs = xs} lacks p q = (record { some = xs; taken = rw (← append-nil xs) (takes_then p q.0); lacks = lacks }, q.1)

pub within_at_fault : {I : Type 0} {k : SourceOf I} (s : Shape) (e : InFault) {a b c : SourceState I} {xs : List Bool} → Lacks s xs → Takes k a b xs →
    EndsBit k (Err e) b c → EndsItem k s (Err e) a c
within_at_fault s e {xs = xs} lacks p q = (record { some = xs; taken = rw (← append-nil xs) (takes_then p q.0); lacks = lacks }, fails_so_later p q.1)

-- after a call that took a bit, or an item, more may be taken
pub in_after_bit : {I : Type 0} {k : SourceOf I} {x : Bool} {a b : SourceState I} → IsIn a → GivesBit k (Ok (Some x)) a b → IsIn b
in_after_bit h p = in_later h p.ends

pub in_after_item : {I : Type 0} {k : SourceOf I} {s : Shape} {n : ℕ} {a b : SourceState I} → IsIn a → GivesItem k s (Ok (Some n)) a b → IsIn b
in_after_item h p = in_later h p.ends.1
