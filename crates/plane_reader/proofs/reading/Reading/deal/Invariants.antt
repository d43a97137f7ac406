use Rattle.std.proofs.Common.{◌≡◌, ◌≤◌, ◌*◌, ◌%◌, ◌^◌, ℕ, Bool}
use Rattle.block_masks.specs.Masks.{Shows}
use Rattle.plane_defs.specs.States.{State}
use Rattle.plane_reader.specs.Takes.{IsState}
use Rattle.plane_reader.proofs.DealReads.{DealtTo}
use Rattle.plane_reader.proofs.reading.Reading.deal.Given as goal

abbrev pub invariant-loop-k : goal.invariant-loop-k
invariant-loop-k g l = record {
  low : l.count ≤ 4 * l.k;
  rest : l.rest ≡ l.self.cursor.rest * 2 ^ l.count % 2 ^ 64;
  dealt : (s : State) (f : ℕ → Bool) → IsState l.fn.self.gaggle l.fn.self.found s → Shows l.here f l.start 32 →
      DealtTo f l.start l.k s l.fn.self.gaggle l.bits l.fn.self.found.minus l.count l.self.cursor.rest;
}
