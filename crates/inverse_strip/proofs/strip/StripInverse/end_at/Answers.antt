use Rattle.inverse_strip.proofs.strip.StripInverse.end_at.Goals as goal

pub returns-clause-next : goal.returns-clause-next
returns-clause-next c = λ p t n. record { band = n.band }
