-- A stage of a gaggle once the window is let go, and the states of its blocks then.
use Rattle.std.proofs.Common.{◌≡◌, ℕ, ◌-◌, ◌*◌, ◌<◌, false, if◌then◌else◌, List, [], sym, ap, subst, ◌∙◌, Option, Some, None, Ok, Err, ℤ, get_or}
use Rattle.std.proofs.lemmas.Grind.{same_number_lists}
use Rattle.plane_defs.specs.Marks.{depths_of}
use Rattle.block_masks.specs.declared.gaggle.Gaggle.{Gaggle}
use Rattle.block_masks.specs.Gaggles.{options_in, sent_in, options_at, sent_at}
use Rattle.block_masks.specs.Masks.{Shows}
use Rattle.block_masks.specs.Stored.{Stores}
use Rattle.block_masks.proofs.Marking.{depth_there, length-depths_of}
use Rattle.bit_pipe.specs.declared.fault.Part.TheVariants.{Whole, Ended}
use Rattle.bit_pipe.specs.declared.fault.TextFault.{TextFault}
use Rattle.bit_pipe.specs.Sources.{SourceOf}
use Rattle.item_defs.specs.Scripts.{Script}
use Rattle.bit_pipe.specs.ScriptSources.{by_part}
use Rattle.plane_defs.specs.PlaneScript.{PlaneState}
use Rattle.plane_reader.specs.Takes.{AreIn}
use Rattle.plane_reader.specs.Held.{Point, Stays}
use Rattle.plane_reader.specs.Gaggles.{KeepStates, TakesBlocks, TakesGaggle}
use Rattle.plane_reader.proofs.HeldReads.{reads_closed}

-- the same options and flags
pub same_options : {g : Gaggle} (h : Gaggle) {options : ℕ → Option ℕ} → g.options ≡ h.options → g.sent ≡ h.sent → AreIn h options → AreIn g options
same_options h e f are n low high = are n low high ∙ (λ i. if get_or (sym f i) (n - 2) false then Some (get_or (sym e i) (n - 2) 0) else None)

pub depths_same : {old new : List ℤ} → KeepStates old new → depths_of new ≡ depths_of old
depths_same {old} {new} keeps = same_number_lists (depths_of new) (depths_of old) (length-depths_of new ∙ keeps.long ∙
    sym (length-depths_of old)) (λ r lt. depth_there new r ∙ keeps.depths r ∙ sym (depth_there old r))

-- the options of other gaggles, after a store
pub others_same : {old mid new : List ℤ} {g : ℕ} {gaggle : Gaggle} → KeepStates old mid → Stores mid new g gaggle → (h : ℕ) → (h ≡ g → ⊥) →
    (options_at new h ≡ options_at old h) × (sent_at new h ≡ sent_at old h)
others_same keeps stores h apart = (ap options_in (stores.others h apart) ∙ keeps.options (16 * h), ap sent_in (stores.others h apart) ∙ keeps.sent (16 * h))

module _ {I : Type 0} {k : SourceOf I} {plane g : ℕ} {numbers : List
    (List ℤ)} {before : PlaneState} {script : Script PlaneState PlaneState} {gaggle : Gaggle} {cells marks : List ℤ} {x y z : Point I} (none : x.read ≡ [])
    (stays : Stays k y z) (none_then : z.read ≡ []) (kept : y.read ≡ [] → z.input ≡ y.input) where
  pub gaggle_fault : (fault : TextFault) → TakesBlocks k plane g numbers before script (Err fault) gaggle cells marks x y →
      TakesGaggle k plane g numbers before script (Err fault) cells marks x.input z.input
  gaggle_fault fault t = record {
    now = t.now;
    options = tt;
    others = t.others;
    has = t.has;
    families = tt;
    read =
        reads_closed script (by_part (Err fault) t.now t.now) none t.read stays none_then kept;
  }

  pub gaggle_cut : TakesBlocks k plane g numbers before script (Ok Ended) gaggle cells marks x y → TakesGaggle k plane g numbers before script
      (Ok Ended) cells marks x.input z.input
  gaggle_cut t = record {
    now = t.now;
    options = tt;
    others = t.others;
    has = t.has;
    families = tt;
    read =
        reads_closed script (by_part (Ok Ended) t.now t.now) none t.read stays none_then kept;
  }

  pub gaggle_whole : {stored : List ℤ} → Stores marks stored g gaggle → TakesBlocks k plane g numbers before script (Ok Whole) gaggle cells marks x y →
      TakesGaggle k plane g numbers before script (Ok Whole) cells stored x.input z.input
  gaggle_whole {stored} stores t = record {
    now = t.now;
    options = same_options gaggle stores.options stores.sent t.options;
    others = t.others;
    has = t.has;
    families = λ r lt. subst (λ m. Shows m ((t.now.blocks r).families) 0 3) (sym (stores.families r)) (t.families r (subst (λ n. r < n) stores.whole lt));
    read = reads_closed script (by_part (Ok Whole) t.now t.now) none t.read stays none_then kept;
  }
