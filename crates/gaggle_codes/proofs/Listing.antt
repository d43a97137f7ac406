-- Bits put for one element of a list after another.
use Rattle.std.proofs.Common.{◌≡◌, ℕ, ◌+◌, ◌<◌, ◌≤◌, List, [], ◌∷◌, ◌++◌, length, get_or, take, drop, Bool, sym, ap, ◌∙◌, append_assoc, Ok, Err, flat_map}
use Rattle.std.proofs.lemmas.List.{append-nil, take_more, take_all, take-append-drop}
use Rattle.std.proofs.lemmas.List.Concat.{flat_map-append, flat_map-cons}
use Rattle.bit_pipe.specs.Sinks.{SinkOf}
use Rattle.bit_pipe.specs.SinkState.{SinkState, Adds, Puts}
use Rattle.bit_pipe.specs.declared.fault.PutFault.{PutFault}
use Rattle.bit_pipe.proofs.Putting.{adds_then, puts_ended, puts_whole}

module _ {X : Type 0} (f : X → List Bool) (xs : List X) where
  bits_more : (i : ℕ) (d : X) → i < length xs → flat_map f (take i xs) ++ f (get_or xs i d) ≡ flat_map f (take (i + 1) xs)
  bits_more i d lt =
      let x = get_or xs i d in
      let one : flat_map f (x ∷ []) ≡ f x = flat_map-cons f x [] ∙ append-nil (f x) in
      sym (ap (flat_map f) (take_more xs i d lt) ∙ flat_map-append f (take i xs) (x ∷ []) ∙ ap (λ r. flat_map f (take i xs) ++ r) one)

  bits_parts : (i : ℕ) → flat_map f (take i xs) ++ flat_map f (drop i xs) ≡ flat_map f xs
  bits_parts i = sym (flat_map-append f (take i xs) (drop i xs)) ∙ ap (flat_map f) (take-append-drop i xs)

  bits_go_on : (i : ℕ) (d : X) → i < length xs → flat_map f (take i xs) ++ (f (get_or xs i d) ++ flat_map f (drop (i + 1) xs)) ≡ flat_map f xs
  bits_go_on i d lt =
      sym (append_assoc (flat_map f (take i xs)) (f (get_or xs i d)) (flat_map f (drop (i + 1) xs)))
      ∙ ap (λ r. r ++ flat_map f (drop (i + 1) xs)) (bits_more i d lt) ∙ bits_parts (i + 1)

  pub each_more : {S : Type 0} {k : SinkOf S} {a b c : SinkState S} (i : ℕ) (d : X) → i < length xs → Adds k a b (flat_map f (take i xs)) →
      Adds k b c (f (get_or xs i d)) → Adds k a c (flat_map f (take (i + 1) xs))
  each_more i d lt p q = rw (← bits_more i d lt) (adds_then p q)

  pub each_ended : {S T U : Type 0} {k : SinkOf S} {e : PutFault} {a b c : SinkState S} (i : ℕ) (d : X) → i < length xs → Adds k a b (flat_map f (take i xs)) →
      Puts {T = T} k (Err e) b c (f (get_or xs i d)) → Puts {T = U} k (Err e) a c (flat_map f xs)
  each_ended i d lt p q = puts_ended (flat_map f (drop (i + 1) xs)) p q (bits_go_on i d lt)

  pub each_whole : {S T : Type 0} {k : SinkOf S} {x : T} {a b : SinkState S} (i : ℕ) → length xs ≤ i → Adds k a b (flat_map f (take i xs)) →
      Puts k (Ok x) a b (flat_map f xs)
  each_whole i le p = let e : take i xs ≡ xs = take_all i xs le in puts_whole (rw e at p)
