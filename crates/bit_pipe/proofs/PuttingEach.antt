-- Items put one after another, as a loop over a list does.
use Rattle.std.proofs.Common.{ℕ, ◌+◌, ◌<◌, ◌≤◌, List, length, get_or, take, drop, map, Ok, Err}
use Rattle.item_defs.specs.Items.{Item, item_bits, text}
use Rattle.item_defs.proofs.Texts.{text_more, text_goes_on, text_all}
use Rattle.bit_pipe.specs.Sinks.{SinkOf}
use Rattle.bit_pipe.specs.SinkState.{SinkState, Adds, Puts}
use Rattle.bit_pipe.specs.declared.fault.PutFault.{PutFault}
use Rattle.bit_pipe.proofs.Putting.{adds_then, puts_ended, puts_whole}

module _ {X : Type 0} (f : X → Item) (xs : List X) where
  -- the item of the element at i was put, after those before it
  pub each_put_more : {S : Type 0} {k : SinkOf S} {a b c : SinkState S} (i : ℕ) (d : X) → i < length xs →
      Adds k a b (text (map f (take i xs))) → Adds k b c (item_bits (f (get_or xs i d))) → Adds k a c (text (map f (take (i + 1) xs)))
  each_put_more i d lt p q = rw (← text_more f xs i d lt) (adds_then p q)

  -- the item was not put whole
  pub each_put_ended : {S T U : Type 0} {k : SinkOf S} {e : PutFault} {a b c : SinkState S} (i : ℕ) (d : X) → i < length xs →
      Adds k a b (text (map f (take i xs))) → Puts {T = T} k (Err e) b c (item_bits (f (get_or xs i d))) → Puts {T = U} k (Err e) a c (text (map f xs))
  each_put_ended i d lt p q = puts_ended (text (map f (drop (i + 1) xs))) p q (text_goes_on f xs i d lt)

  pub each_put_whole : {S T : Type 0} {k : SinkOf S} {x : T} {a b : SinkState S} (i : ℕ) → length xs ≤ i → Adds k a b (text (map f (take i xs))) →
      Puts k (Ok x) a b (text (map f xs))
  each_put_whole i le p = puts_whole (rw (← text_all f xs i le) p)
