-- What follows for each status of a command, from the law of its behaviour.
use Rattle.std.proofs.Common.{◌≡◌, ℕ, zero, suc, refl, sym, subst, inl, inr, ◌⊎◌, List, Some}
use Rattle.port_122.specs.Outside.{Outside}
use Rattle.strip122.specs.Behaviours.{Behaviour, IsSteady, memory_first}
use Rattle.strip122.specs.Outcomes.{Outcomes, AtStatus, memory_outcomes}

-- What holds of each behaviour: what follows for its status, that it doesn't refuse an input that it accepts, and that it gives nothing whole
-- or in part for another one.
pub record Law (b : Behaviour) (o : Outcomes) : Type 0 where
  pub ends : (old new : Outside) (status : ℕ) → b.performs old new status → AtStatus o old new status
  pub right : (old new : Outside) (input : List ℕ) → old.rest ≡ Some input → b.accepts input → o.refuses old new → ⊥
  pub whole : (old new : Outside) (input : List ℕ) → old.rest ≡ Some input → o.whole old new → b.accepts input
  pub part : (old new : Outside) (input : List ℕ) → old.rest ≡ Some input → o.part old new → b.accepts input

-- a command that takes its memory first has the law, if it has it once there is memory and doesn't lack any then
module _ (b : Behaviour) (o : Outcomes) (law : Law b o) (enough : (old new : Outside) → o.nothing old new → ⊥) where
  memory_later : (old new : Outside) (status : ℕ) → AtStatus o old new status → AtStatus (memory_outcomes o) old new status
  memory_later old new zero at = at
  memory_later old new (suc zero) at = at
  memory_later old new (suc (suc zero)) at = at
  memory_later old new (suc (suc (suc zero))) at = at
  memory_later old new (suc (suc (suc (suc zero)))) at = at
  memory_later old new (suc (suc (suc (suc (suc zero))))) at = at
  memory_later old new (suc (suc (suc (suc (suc (suc zero)))))) at = absurd (enough old new at)
  memory_later old new (suc (suc (suc (suc (suc (suc (suc status))))))) at = at

  memory_ends : (old new : Outside) (status : ℕ) → (memory_first b).performs old new status → AtStatus (memory_outcomes o) old new status
  memory_ends old new status (inl lacks) = subst (AtStatus (memory_outcomes o) old new) (sym lacks.status_is) (lacks.wrote, lacks.since)
  memory_ends old new status (inr run) = memory_later old new status (law.ends old new status run)

  pub memory_first_law : Law (memory_first b) (memory_outcomes o)
  memory_first_law = record { ends = memory_ends; right = law.right; whole = law.whole; part = law.part }

-- the command is done, wholly or in part, or it had too little memory
abbrev pub Completes : Outcomes → Outside → Outside → ℕ → Type 0
Completes o old new status = ((status ≡ 0) × o.whole old new) ⊎ (((status ≡ 1) × o.part old new) ⊎ ((status ≡ 6) × o.nothing old new))

pub completes : (o : Outcomes) (old new : Outside) (status : ℕ) → AtStatus o old new status → (o.refuses old new → ⊥) → IsSteady old new →
    Completes o old new status
completes o old new zero at taken steady = inl (refl, at)
completes o old new (suc zero) at taken steady = inr (inl (refl, at))
completes o old new (suc (suc zero)) at taken steady = absurd at
completes o old new (suc (suc (suc zero))) at taken steady = absurd (taken at)
completes o old new (suc (suc (suc (suc zero)))) at taken steady = absurd (steady.reads at)
completes o old new (suc (suc (suc (suc (suc zero))))) at taken steady = absurd (steady.writes at)
completes o old new (suc (suc (suc (suc (suc (suc zero)))))) at taken steady = inr (inr (refl, at))
completes o old new (suc (suc (suc (suc (suc (suc (suc status))))))) at taken steady = absurd at

-- so it has one of these statuses
pub completed : (o : Outcomes) (old new : Outside) (status : ℕ) → Completes o old new status → (status ≡ 0) ⊎ ((status ≡ 1) ⊎ (status ≡ 6))
completed o old new status (inl whole) = inl whole.0
completed o old new status (inr (inl part)) = inr (inl part.0)
completed o old new status (inr (inr nothing)) = inr (inr nothing.0)

pub refused : (o : Outcomes) (old new : Outside) (status : ℕ) → AtStatus o old new status → (o.whole old new → ⊥) → (o.part old new → ⊥) →
    IsSteady old new → (status ≡ 3) ⊎ (status ≡ 6)
refused o old new zero at whole part steady = absurd (whole at)
refused o old new (suc zero) at whole part steady = absurd (part at)
refused o old new (suc (suc zero)) at whole part steady = absurd at
refused o old new (suc (suc (suc zero))) at whole part steady = inl refl
refused o old new (suc (suc (suc (suc zero)))) at whole part steady = absurd (steady.reads at)
refused o old new (suc (suc (suc (suc (suc zero))))) at whole part steady = absurd (steady.writes at)
refused o old new (suc (suc (suc (suc (suc (suc zero)))))) at whole part steady = inr refl
refused o old new (suc (suc (suc (suc (suc (suc (suc status))))))) at whole part steady = absurd at
