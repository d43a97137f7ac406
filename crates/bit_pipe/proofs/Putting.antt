-- Bits put one after another.
use Rattle.std.proofs.Common.{◌≡◌, ℕ, ◌+◌, ◌-◌, ◌<◌, List, [], ◌++◌, length, take, Bool, refl, sym, ap, subst, ◌∙◌, append_assoc, arith, length-append, inl}
use Rattle.std.proofs.Common.{inr, Result, Ok, Err}
use Rattle.std.proofs.lemmas.Bool.{cases_lt}
use Rattle.std.proofs.lemmas.List.{append-nil, take-append-le, take_all}
use Rattle.item_defs.proofs.BitLists.{take_past}
use Rattle.bit_pipe.specs.Sinks.{SinkOf, BrokeBits}
use Rattle.bit_pipe.specs.SinkState.{SinkState, IsOpen, Adds, Breaks, EndsPut, Puts}
use Rattle.bit_pipe.specs.declared.fault.PutFault.{PutFault}
use Rattle.bit_pipe.specs.declared.fault.PutFault.TheVariants.{Stopped, WriteFault}
use Rattle.bit_pipe.proofs.Giving.{gives_none, gives_then, broke_then, broke_more}

-- bits that are given in two parts
pub regroup : (p xs ys o q r s : List Bool) → p ++ xs ≡ o ++ q → q ++ ys ≡ r ++ s → p ++ (xs ++ ys) ≡ (o ++ r) ++ s
regroup p xs ys o q r s e f =
    sym (append_assoc p xs ys) ∙ ap (λ k. k ++ ys) e ∙ append_assoc o q ys ∙ ap (λ k. o ++ k) f ∙ sym (append_assoc o r s)

pub adds_start : {S : Type 0} (k : SinkOf S) (s : SinkState S) → IsOpen s → Adds k s s []
adds_start k s h = record {
  out = [];
  gave = gives_none k s.sink;
  bits = append-nil s.pending;
  pending = h.pending;
  used = omega arith;
  room = omega arith;
  bound = refl;
  name = refl;
}

pub adds_then : {S : Type 0} {k : SinkOf S} {a b c : SinkState S} {xs ys : List Bool} → Adds k a b xs → Adds k b c ys → Adds k a c (xs ++ ys)
adds_then {S} {k} {a} {b} {c} {xs} {ys} p q = record {
  out = p.out ++ q.out;
  gave = gives_then k p.gave q.gave;
  bits = regroup a.pending xs ys p.out b.pending q.out c.pending p.bits q.bits;
  pending = q.pending;
  used = omega (arith, p.used, q.used, length-append xs ys);
  room = omega (arith, p.room, q.room, length-append xs ys);
  bound = q.bound ∙ p.bound;
  name = q.name ∙ p.name;
}

pub breaks_then : {S : Type 0} {k : SinkOf S} {a b c : SinkState S} {xs ys : List Bool} → Adds k a b xs → Breaks k b c ys → Breaks k a c (xs ++ ys)
breaks_then {S} {k} {a} {b} {c} {xs} {ys} p q =
    let e : p.out ++ (b.pending ++ ys) ≡ a.pending ++ (xs ++ ys) =
    sym (append_assoc p.out b.pending ys) ∙ ap (λ r. r ++ ys) (sym p.bits) ∙ append_assoc a.pending xs ys in
    record { broke = subst (λ r. BrokeBits k a.sink c.sink r) e (broke_then k p.gave q.broke); name = q.name ∙ p.name }

breaks_more : {S : Type 0} {k : SinkOf S} {a b : SinkState S} {xs : List Bool} (ys : List Bool) → Breaks k a b xs → Breaks k a b (xs ++ ys)
breaks_more {S} {k} {a} {b} {xs} ys p =
    record { broke = subst (λ r. BrokeBits k a.sink b.sink r) (append_assoc a.pending xs ys) (broke_more k ys p.broke); name = p.name }

ends_then : {S T : Type 0} (k : SinkOf S) (r : Result T PutFault) (a b c : SinkState S) (xs ys : List Bool) → Adds k a b xs → EndsPut k r b c ys →
    EndsPut k r a c (xs ++ ys)
ends_then k (Ok x) a b c xs ys p q = adds_then p q
ends_then k (Err Stopped) a b c xs ys p q =
    let room : a.room ≡ length xs + b.room = omega (arith, p.room) in
    let e : take a.room (xs ++ ys) ≡ xs ++ take b.room ys = rw room (take_past xs ys b.room) in
    (omega (arith, length-append xs ys, q.0), rw e (adds_then p q.1))
ends_then k (Err WriteFault) a b c xs ys p q =
    let room : a.room ≡ length xs + b.room = omega (arith, p.room) in
    let e : take a.room (xs ++ ys) ≡ xs ++ take b.room ys = rw room (take_past xs ys b.room) in
    rw e (breaks_then p q)

-- what a call put after these bits, and how it ended
pub puts_then : {S T : Type 0} {k : SinkOf S} {r : Result T PutFault} {a b c : SinkState S} {xs ys : List Bool} → Adds k a b xs → Puts k r b c ys →
    Puts k r a c (xs ++ ys)
puts_then {S} {T} {k} {r} {a} {b} {c} {xs} {ys} p q = record { ends = ends_then k r a b c xs ys p q.ends }

-- the prefix of two lists, one after the other
take_on : (n : ℕ) (xs ys : List Bool) → take n (xs ++ ys) ≡ take n xs ++ take (n - length xs) ys
take_on n xs ys = elim (cases_lt n (length xs)) [
  | inl lt ↦
      let none : n - length xs ≡ 0 = omega arith in
      take-append-le n xs ys (omega arith) ∙ sym (append-nil (take n xs)) ∙ sym (ap (λ m. take n xs ++ take m ys) none)
  | inr ge ↦
      let sum : n ≡ length xs + (n - length xs) = omega arith in
      ap (λ m. take m (xs ++ ys)) sum ∙ take_past xs ys (n - length xs) ∙ sym (ap (λ r. r ++ take (n - length xs) ys) (take_all n xs ge))
]

ends_cut : {S : Type 0} (T U : Type 0) (k : SinkOf S) (e : PutFault) (a b : SinkState S) (xs ys : List Bool) → EndsPut {T = T} k (Err e) a b xs →
    EndsPut {T = U} k (Err e) a b (xs ++ ys)
ends_cut T U k Stopped a b xs ys p =
    let e : take a.room (xs ++ ys) ≡ take a.room xs = take-append-le a.room xs ys (omega (arith, p.0)) in
    (omega (arith, length-append xs ys, p.0), rw e p.1)
ends_cut T U k WriteFault a b xs ys p = rw (take_on a.room xs ys) (breaks_more (take (a.room - length xs) ys) p)

-- further bits after a call that failed
pub puts_cut : {S T U : Type 0} {k : SinkOf S} {e : PutFault} {a b : SinkState S} {xs : List Bool} (ys : List Bool) → Puts {T = T} k (Err e) a b xs →
    Puts {T = U} k (Err e) a b (xs ++ ys)
puts_cut {S} {T} {U} {k} {e} {a} {b} {xs} ys p = record { ends = ends_cut T U k e a b xs ys p.ends }

-- a call inside a longer text failed: what was put before, what it put, and what would have followed
pub puts_ended : {S T U : Type 0} {k : SinkOf S} {e : PutFault} {a b c : SinkState S} {xs ys whole : List Bool} (zs : List Bool) →
    Adds k a b xs → Puts {T = T} k (Err e) b c ys → xs ++ (ys ++ zs) ≡ whole → Puts {T = U} k (Err e) a c whole
puts_ended {k = k} {xs = xs} {ys = ys} zs p q e = rw (← e) (puts_then p (puts_cut zs q))

-- a text is put whole
pub puts_whole : {S T : Type 0} {k : SinkOf S} {x : T} {a b : SinkState S} {xs : List Bool} → Adds k a b xs → Puts k (Ok x) a b xs
puts_whole p = record { ends = p }

-- the same failure, of a call that would have returned another value
pub puts_again : {S T U : Type 0} {k : SinkOf S} {e : PutFault} {a b : SinkState S} {xs : List Bool} → Puts {T = T} k (Err e) a b xs →
    Puts {T = U} k (Err e) a b xs
puts_again {xs = xs} p = rw (sym (append-nil xs)) (puts_cut [] p)

-- the bits that fit were put, and there are more
pub puts_stopped : {S T : Type 0} {k : SinkOf S} {a b : SinkState S} {xs : List Bool} (ys : List Bool) → Adds k a b xs → length xs ≡ a.room → 0 < length ys →
    Puts {T = T} k (Err Stopped) a b (xs ++ ys)
puts_stopped {S} {T} {k} {a} {b} {xs} ys p e lt =
    let none : take a.room (xs ++ ys) ≡ xs =
    let r : a.room ≡ length xs + 0 = omega arith in rw r (take_past xs ys 0 ∙ append-nil xs) in
    record { ends = (omega (arith, length-append xs ys), rw none p) }

-- there is no room
pub puts_none : {S T : Type 0} (k : SinkOf S) (s : SinkState S) (xs : List Bool) → IsOpen s → s.room ≡ 0 → 0 < length xs → Puts {T = T} k (Err Stopped) s s xs
puts_none k s xs h e lt =
    let nothing : take s.room xs ≡ [] = ap (λ n. take n xs) e in
    record { ends = (omega arith, subst (Adds k s s) (sym nothing) (adds_start k s h)) }

pub open_later : {S : Type 0} {k : SinkOf S} {a b : SinkState S} {xs : List Bool} → IsOpen a → Adds k a b xs → IsOpen b
open_later {S} {k} {a} {b} {xs} h p = record { whole = omega (arith, h.whole, p.used, p.room, p.bound); bound = rw p.bound h.bound; pending = p.pending }

-- after a call that put its bits, more may be put
pub open_after : {S T : Type 0} {k : SinkOf S} {x : T} {a b : SinkState S} {xs : List Bool} → IsOpen a → Puts k (Ok x) a b xs → IsOpen b
open_after h p = open_later h p.ends
