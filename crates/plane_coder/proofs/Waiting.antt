-- Entries of which some bits are put and the others wait.
use Rattle.std.proofs.Common.{◌≡◌, ℕ, List, [], ◌++◌, Bool, refl, ap, sym, ◌∙◌, subst, append_assoc, append-nil, Result}
use Rattle.item_defs.specs.Items.{text}
use Rattle.item_defs.proofs.Texts.{text-append}
use Rattle.bit_pipe.specs.Sinks.{SinkOf}
use Rattle.bit_pipe.specs.SinkState.{SinkState, IsOpen, Adds, Puts}
use Rattle.bit_pipe.specs.declared.fault.PutFault.{PutFault}
use Rattle.bit_pipe.proofs.Putting.{adds_start, adds_then, open_later, puts_then}
use Rattle.base_122.specs.declared.book.Book.{Book}
use Rattle.plane_defs.specs.declared.entries.Entry.{Entry}
use Rattle.plane_defs.specs.Spelled.{spelled_after}
use Rattle.plane_defs.proofs.SpelledLists.{spelled_after-append}
use Rattle.block_masks.specs.declared.gaggle.Gaggle.{Gaggle}
use Rattle.block_masks.specs.Gaggles.{Agrees}
use Rattle.plane_coder.specs.declared.pending.PendingBits.{PendingBits}
use Rattle.plane_coder.specs.Appends.{Appends, said}
use Rattle.plane_coder.specs.Spells.{Spells}
use Rattle.plane_coder.specs.Left.{Leaves}
use Rattle.plane_coder.proofs.Appending.{silent_said}
use Rattle.plane_coder.proofs.Spelling.{on_ok, puts_open}

-- these entries of a gaggle were added since its state was `old`: the first of their bits were put, and the others wait
pub record Waits {S : Type 0} (k : SinkOf S) (book : Book) (old : Gaggle) (now : PendingBits) (from to : SinkState S) (entries : List Entry) : Type 0 where
  pub put : List Bool
  pub adds : Adds k from to put
  pub leaves : Leaves book old put now entries

module _ {book : Book} where
  pub leaves_none : (a : PendingBits) → a.count ≡ 0 → Leaves book a.gaggle [] a []
  leaves_none a silent = record {
    bits = λ before agrees. silent_said a silent;
    agrees = λ before agrees. subst (Agrees a.gaggle.sent) (sym (append-nil before)) agrees;
    options = refl;
  }

  pub leaves_more : {g : Gaggle} {taken : List Bool} {a b : PendingBits} {xs ys : List Entry} (most : ℕ) → Leaves book g taken a xs →
      Appends book a b ys most → Leaves book g taken b (xs ++ ys)
  leaves_more {g} {taken} {a} {b} {xs} {ys} most p q = record {
    bits = λ before agrees.
        let later = before ++ xs in
        let more = text (spelled_after book g.options later ys) in
        ap (λ l. taken ++ l) (q.bits later (p.agrees before agrees) ∙ ap (λ o. said a ++ text (spelled_after book o later ys)) p.options) ∙
        sym (append_assoc taken (said a) more) ∙ ap (λ l. l ++ more) (p.bits before agrees) ∙
        sym (text-append (spelled_after book g.options before xs) (spelled_after book g.options later ys))
        ∙ ap text (sym (spelled_after-append book g.options before xs ys));
    agrees = λ before agrees. subst (Agrees b.gaggle.sent) (append_assoc before xs ys) (q.agrees (before ++ xs) (p.agrees before agrees));
    options = q.options ∙ p.options;
  }

  -- the bits that waited were taken away
  pub leaves_taken : {g : Gaggle} {taken : List Bool} {a b : PendingBits} {xs : List Entry} → Leaves book g taken a xs → b.gaggle ≡ a.gaggle → b.count ≡ 0 →
      Leaves book g (taken ++ said a) b xs
  leaves_taken {g} {taken} {a} {b} {xs} p same silent = record {
    bits = λ before agrees. ap (λ l. (taken ++ said a) ++ l) (silent_said b silent) ∙ append-nil (taken ++ said a) ∙ p.bits before agrees;
    agrees = λ before agrees. subst (λ h. Agrees h.sent (before ++ xs)) (sym same) (p.agrees before agrees);
    options = ap (λ h. h.options) same ∙ p.options;
  }

module _ {S : Type 0} {k : SinkOf S} {book : Book} where
  pub waits_none : (a : PendingBits) (s : SinkState S) → a.count ≡ 0 → IsOpen s → Waits k book a.gaggle a s s []
  waits_none a s silent opened = record { put = []; adds = adds_start k s opened; leaves = leaves_none a silent }

  pub waits_more : {g : Gaggle} {a b : PendingBits} {s t : SinkState S} {xs ys : List Entry} (most : ℕ) → Waits k book g a s t xs →
      Appends book a b ys most → Waits k book g b s t (xs ++ ys)
  waits_more most p q = record { put = p.put; adds = p.adds; leaves = leaves_more most p.leaves q }

  -- the bits that waited were put
  pub waits_put : {g : Gaggle} {a b : PendingBits} {s t u : SinkState S} {xs : List Entry} → Waits k book g a s t xs → Adds k t u (said a) →
      b.gaggle ≡ a.gaggle → b.count ≡ 0 → Waits k book g b s u xs
  waits_put {g} {a} p q same silent = record { put = p.put ++ said a; adds = adds_then p.adds q; leaves = leaves_taken p.leaves same silent }

  -- a call that puts them all
  pub waits_end : {g h : Gaggle} {a : PendingBits} {r : Result (Unit {0}) PutFault} {s t u : SinkState S} {xs : List Entry} → IsOpen s →
      Waits k book g a s t xs → Puts k r t u (said a) → h ≡ a.gaggle → Spells k book g h r s u xs
  waits_end {g} {h} {a} {r} {s} {t} {u} {xs} opened p q same = record {
    puts = λ before agrees. subst (Puts k r s u) (p.leaves.bits before agrees) (puts_then p.adds q);
    agrees = λ before agrees. on_ok r (subst (λ h. Agrees h.sent (before ++ xs)) (sym same) (p.leaves.agrees before agrees));
    is_open = puts_open r t u (said a) (open_later opened p.adds) q;
    options = ap (λ h. h.options) same ∙ p.leaves.options;
  }
