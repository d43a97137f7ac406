-- The effect of a run of `make` and `trial`, or of one that refuses the arguments, after its note, and what follows for each status.
use Rattle.std.proofs.Common.{◌≤◌, ℕ, List, [], length, refl, sym, subst, arith, take, inl, inr, codes}
use Rattle.port_122.specs.Outside.{Outside, Exchange, NoRead, Rose}
use Rattle.port_122.proofs.Stretches.{since_note}
use Rattle.base_122.specs.declared.setting.Setting.{Setting}
use Rattle.raster_rows.specs.declared.made.MadeImage.{MadeImage}
use Rattle.raster_rows.specs.Made.{made_value}
use Rattle.strip122.specs.declared.trial.TrialDone.{TrialDone}
use Rattle.strip122.specs.MadeRasters.{made_raster}
use Rattle.strip122.specs.Notes.{Notes}
use Rattle.strip122.specs.Trials.{made_with, trial_line, IsTried}
use Rattle.strip122.specs.Outcomes.{Outcomes, AtStatus, make_outcomes, trial_outcomes}
use Rattle.strip122.specs.Run.{Gives, Tries, makes, tries}
use Rattle.strip122.proofs.NoteLines.{noted_since}
use Rattle.strip122.proofs.Behaviours.{Law}

-- ---- after the note

pub given_cut : (octets : List ℕ) (a b c : Outside) →
    Rose a.write_faults b.write_faults × ((n : ℕ) × (n ≤ length octets) × Exchange a b [] (take n octets) [] NoRead) →
    Notes b c (codes "strip122: write fault\n") → Gives octets a c 5
given_cut octets a b c f n = record {
  gave = take f.1.0 octets;
  wrote = n.0;
  since = since_note f.1.2 n.1;
  ending = inr (record {
    status_is = refl;
    rose = omega (arith, f.0, n.1.faults.writes);
    prefix = (f.1.0, f.1.1, refl);
    noted = noted_since a b c n.0 _ f.1.2.faults.notes n.2;
  });
}

pub tried_cut : (s : Setting) (seed : ℕ) (done : TrialDone) (a b c : Outside) → IsTried s (made_value (made_with s seed)) done →
    Rose a.write_faults b.write_faults × ((n : ℕ) × (n ≤ length (trial_line s done)) × Exchange a b [] (take n (trial_line s done)) [] NoRead) →
    Notes b c (codes "strip122: write fault\n") → Tries s seed a c 5
tried_cut s seed done a b c tried f n = inr (record { done = done; tried = tried; gives = given_cut (trial_line s done) a b c f n })

-- ---- each status

-- a run that only gives octets has status 0 or 5
gives_ends : (octets : List ℕ) (o : Outcomes) (old new : Outside) (status : ℕ) → Gives octets old new status →
    (Exchange old new [] octets [] NoRead → o.whole old new) → AtStatus o old new status
gives_ends octets o old new status run given = elim run.ending [
  | inl whole ↦ subst (AtStatus o old new) (sym whole.status_is)
      (given (subst (λ w. Exchange old new [] octets w NoRead) whole.silent (subst (λ g. Exchange old new [] g run.wrote NoRead) whole.whole run.since)))
  | inr cut ↦ subst (AtStatus o old new) (sym cut.status_is) cut.rose
]

try_ends : (s : Setting) (seed : ℕ) (old new : Outside) (status : ℕ) → Tries s seed old new status → AtStatus (trial_outcomes s seed) old new status
try_ends s seed old new status (inl none) = subst (AtStatus (trial_outcomes s seed) old new) (sym none.status_is) (none.wrote, none.since)
try_ends s seed old new status (inr ran) =
    gives_ends (trial_line s ran.done) (trial_outcomes s seed) old new status ran.gives (λ since. record { done = ran.done; tried = ran.tried; since = since })

pub make_law : (made : MadeImage) → Law (makes made) (make_outcomes made)
make_law made = record {
  ends = λ old new status run. gives_ends (made_raster made) (make_outcomes made) old new status run (λ since. since);
  right = λ old new input if_known accepts never. never;
  whole = λ old new input if_known whole. tt;
  part = λ old new input if_known part. tt;
}

pub try_law : (s : Setting) (seed : ℕ) → Law (tries s seed) (trial_outcomes s seed)
try_law s seed = record {
  ends = try_ends s seed;
  right = λ old new input if_known accepts never. never;
  whole = λ old new input if_known whole. tt;
  part = λ old new input if_known part. tt;
}
