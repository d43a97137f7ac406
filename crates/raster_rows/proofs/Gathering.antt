-- Octets that wait behind others, and those that are given.
use Rattle.std.proofs.Common.{◌≡◌, ◌≤◌, ◌+◌, ℕ, ℤ, List, [], ◌++◌, length, take, map, sym, ap, subst, ◌∙◌, arith, length-append, Result, Ok, Err, IsErr}
use Rattle.std.proofs.lemmas.Bool.{false≢true}
use Rattle.std.proofs.lemmas.List.{append-nil, take-append-le}
use Rattle.std.proofs.Math.Seq.{take-append-add}
use Rattle.std.proofs.lemmas.Bool.Decides.{nat_tests}
use Rattle.port_122.specs.Outside.{Outside, Exchange, NoRead, Rose, WritesAll}
use Rattle.port_122.proofs.Stretches.{since_start, since_out, rose_since}
use Rattle.raster_rows.specs.Pixels.{pixel_octets, clamped}
use Rattle.raster_rows.specs.declared.gathered.GatheredRows.{GatheredRows}
use Rattle.raster_rows.specs.Gathered.{Adds, AddsAll, IsAlike, depth_of, is_signed}

-- octets wait after others, and none is given
pub held_after : (p : Outside) (before after octets : List ℕ) → after ≡ before ++ octets → Adds p p before after octets
held_after p before after octets is = record { gave = []; out = since_start p NoRead; all = is }

-- what waited is given, and octets wait
pub held_alone : {p q : Outside} {before middle after octets : List ℕ} → Exchange p q [] before [] NoRead → middle ≡ [] → after ≡ middle ++ octets →
    Adds p q before after octets
held_alone {before = before} {octets = octets} out none is = record {
  gave = before;
  out = out;
  all = ap (λ zs. before ++ zs) (is ∙ ap (λ zs. zs ++ octets) none);
}

-- a prefix of what waited is given, and none of the octets
pub part_before : {T E : Type 0} {p q : Outside} {before : List ℕ} (after octets : List ℕ) (r : Result T E) → IsErr r →
    Rose p.write_faults q.write_faults × ((n : ℕ) × (n ≤ length before) × Exchange p q [] (take n before) [] NoRead) → AddsAll r p q before after octets
part_before after octets (Ok x) is out = absurd (false≢true is)
part_before {p = p} {q = q} {before = before} after octets (Err e) is out = record {
  rose = out.0;
  count = out.1.0;
  within = omega (arith, out.1.1, length-append before octets);
  out = subst (λ gave. Exchange p q [] gave [] NoRead) (sym (take-append-le out.1.0 before octets out.1.1)) out.1.2;
}

-- what waited is given, and then the octets, or a prefix of them
pub given_alone : {T E : Type 0} {p q : Outside} {before : List ℕ} (s : Outside) (after octets : List ℕ) (r : Result T E) →
    Exchange p q [] before [] NoRead → after ≡ [] →
    WritesAll r q s octets → AddsAll r p s before after octets
given_alone {before = before} s after octets (Ok t) out none then = record {
  gave = before ++ octets;
  out = since_out out then;
  all = ap (λ zs. (before ++ octets) ++ zs) none ∙ append-nil (before ++ octets);
}
given_alone {p = p} {before = before} s after octets (Err e) out none then = record {
  rose = rose_since out.faults.writes then.0;
  count = length before + then.1.0;
  within = omega (arith, then.1.1, length-append before octets);
  out = subst (λ gave. Exchange p s [] gave [] NoRead) (sym (take-append-add before octets then.1.0)) (since_out out then.1.2);
}

-- rows of one form have the same octets
pub form_same : (old new : GatheredRows) (values : List ℤ) → IsAlike old new →
    pixel_octets (depth_of new) (map (clamped (depth_of new) (is_signed new)) values) ≡ pixel_octets (depth_of old)
    (map (clamped (depth_of old) (is_signed old)) values)
form_same old new values alike = grind (arith, nat_tests, map)
