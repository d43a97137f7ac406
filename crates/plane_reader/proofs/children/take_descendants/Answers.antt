use Rattle.std.proofs.Common.{◌≡◌, ◌⊎◌, ◌&&◌, not, true, false, inl, inr, Bool, refl}
use Rattle.plane_reader.proofs.ChildReads.{flag_known, flag_read}
use Rattle.plane_reader.proofs.children.take_descendants.Goals as goal

pub returns-then-was-clause-flag : goal.returns-then-was-clause-flag
returns-then-was-clause-flag g c = record { read = λ s. flag_known s c.args.is_live c.args.was (either c.then-was.either) c.requires.reading.is_in }
  where
    either : {w l : Bool} → ((w ≡ true) ⊎ ((w ≡ false) × (l ≡ false))) → (not w && l) ≡ false
    either {w} {l} (inl e) = rw e refl
    either {w} {l} (inr p) = rw (p.0, p.1) refl

pub returns-clause-flag : goal.returns-clause-flag
returns-clause-flag g c = record {
  read = λ s. flag_read s c.args.is_live c.args.was c.flag.result (rw (
    c.if-was.false,
    c.if-not-is_live.false,
  ) refl) (c.flag.ensures.flag.read s);
}
