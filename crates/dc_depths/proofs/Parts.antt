-- The parts of a DC part, and what their items are.
use Rattle.std.proofs.Common.{◌≡◌, ℕ, ℤ, List, ◌++◌, map, true, false, eqb, refl, arith, ◌≢◌, Result, Err}
use Rattle.std.proofs.lemmas.Bool.Decides.{nat_tests}
use Rattle.item_defs.specs.Items.{text}
use Rattle.item_defs.proofs.Texts.{text-append}
use Rattle.bit_pipe.specs.Sinks.{SinkOf}
use Rattle.bit_pipe.specs.SinkState.{SinkState, Adds, Puts}
use Rattle.bit_pipe.specs.declared.fault.PutFault.{PutFault}
use Rattle.bit_pipe.proofs.Putting.{puts_then, puts_cut}
use Rattle.number_defs.specs.Ranges.{shifted_height}
use Rattle.number_defs.specs.Gaggles.{number_items}
use Rattle.number_defs.specs.DcPart.{dc_kind, high_items, planes_before, dc_q, dc_bits, dc_planes, dc_items}
use Rattle.number_defs.proofs.Equations.{dc_items-is}

pub high_coded : (N q : ℕ) (dcs : List ℤ) (options : ℕ → ℕ) → N ≢ 1 →
    high_items N q dcs options ≡ number_items (dc_kind N) (map (shifted_height true N q) dcs) options
high_coded N q dcs options ne = let t : eqb N 1 ≡ false = grind (arith, nat_tests) in rw t refl

module _ (depth_dc depth_ac shift : ℕ) (dcs : List ℤ) (options : ℕ → ℕ) where
  dc_text : text (dc_items depth_dc depth_ac shift dcs options)
      ≡ text (high_items (dc_bits depth_dc depth_ac shift) (dc_q depth_dc depth_ac shift) dcs options)
      ++ text (planes_before (dc_q depth_dc depth_ac shift) dcs (dc_planes depth_dc depth_ac shift))
  dc_text = simp dc_items-is (text-append (high_items (dc_bits depth_dc depth_ac shift) (dc_q depth_dc depth_ac shift) dcs options)
      (planes_before (dc_q depth_dc depth_ac shift) dcs (dc_planes depth_dc depth_ac shift)))

  pub high_cut : {S T U : Type 0} {k : SinkOf S} {e : PutFault} {a b : SinkState S} →
      Puts {T = T} k (Err e) a b (text (high_items (dc_bits depth_dc depth_ac shift) (dc_q depth_dc depth_ac shift) dcs options)) →
      Puts {T = U} k (Err e) a b (text (dc_items depth_dc depth_ac shift dcs options))
  high_cut p = rw dc_text (puts_cut (text (planes_before (dc_q depth_dc depth_ac shift) dcs (dc_planes depth_dc depth_ac shift))) p)

  pub dc_then : {S T : Type 0} {k : SinkOf S} {r : Result T PutFault} {a b c : SinkState S} →
      Adds k a b (text (high_items (dc_bits depth_dc depth_ac shift) (dc_q depth_dc depth_ac shift) dcs options)) →
      Puts k r b c (text (planes_before (dc_q depth_dc depth_ac shift) dcs (dc_planes depth_dc depth_ac shift))) →
      Puts k r a c (text (dc_items depth_dc depth_ac shift dcs options))
  dc_then p q = rw dc_text (puts_then p q)
