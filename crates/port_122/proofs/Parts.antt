-- Octets that are written part by part.
use Rattle.std.proofs.Common.{◌≡◌, ◌≤◌, ◌+◌, ℕ, List, [], ◌++◌, length, sym, ◌∙◌, ap, subst, arith, length-append, take, Result, Ok, Err, IsErr}
use Rattle.std.proofs.lemmas.Bool.{false≢true}
use Rattle.std.proofs.lemmas.List.{take-append-le}
use Rattle.std.proofs.Math.Seq.{take-append-add}
use Rattle.port_122.specs.Outside.{Outside, Exchange, NoRead, Rose, WritesAll}
use Rattle.port_122.proofs.Stretches.{since_out, rose_since}

-- some octets, and then a prefix of the part that follows
prefix_of_part : (before part after : List ℕ) (n : ℕ) → n ≤ length part → take (length before + n) (before ++ (part ++ after)) ≡ before ++ take n part
prefix_of_part before part after n le = take-append-add before (part ++ after) n ∙ ap (λ zs. before ++ zs) (take-append-le n part after le)

-- if the next part could not be written whole, a prefix of all is given
pub failed_part : {T E : Type 0} {a b c : Outside} (before part after : List ℕ) (r : Result T E) →
    Exchange a b [] before [] NoRead → Rose b.write_faults c.write_faults × ((n : ℕ) × (n ≤ length part) × Exchange b c [] (take n part) [] NoRead) →
    IsErr r → WritesAll r a c (before ++ (part ++ after))
failed_part before part after (Ok x) p q is = absurd (false≢true is)
failed_part {a = a} {c = c} before part after (Err e) p q is =
    let n = q.1.0 in
    let both : Exchange a c [] (before ++ take n part) [] NoRead = since_out p q.1.2 in
    let size : length before + n ≤ length (before ++ (part ++ after)) =
    omega (arith, q.1.1, length-append before (part ++ after), length-append part after) in (
      rose_since p.faults.writes q.0,
      (length before + n, size, subst (λ gave. Exchange a c [] gave [] NoRead) (sym (prefix_of_part before part after n q.1.1)) both),
    )
