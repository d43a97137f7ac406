-- Notes in parts.
use Rattle.std.proofs.Common.{◌≡◌, ◌<◌, ◌≤◌, ◌+◌, ℕ, zero, suc, List, [], ◌∷◌, ◌++◌, length, refl, sym, ◌∙◌, ap, subst, arith, length-append, take, get_or}
use Rattle.std.proofs.Common.{inl, inr, Result, Ok, Err, String, string_bytes}
use Rattle.std.specs.declared.alloc.Global.{Global}
use Rattle.std.proofs.lemmas.List.{take-append-le}
use Rattle.std.proofs.Math.Seq.{take-append-add, take-nil}
use Rattle.port_122.specs.Outside.{Outside, Exchange, NoRead, Rose, NotesAll}
use Rattle.port_122.proofs.Stretches.{since_out, since_note, rose_since}
use Rattle.command_words.specs.Words.{texts}
use Rattle.strip122.specs.Notes.{IsNoted, Notes, Report, word_at}
use Rattle.strip122.specs.Ran.{Ran}

-- a part, and then the rest of the line
pub notes_then : (p q r : Outside) (part rest : List ℕ) → Exchange p q [] [] part NoRead → Notes q r rest → Notes p r (part ++ rest)
notes_then p q r part rest s n =
    let after : IsNoted p r (part ++ n.0) (part ++ rest) = elim n.2 [
      | inl same ↦ inl (ap (λ xs. part ++ xs) same)
      | inr failed ↦ inr (
        rose_since s.faults.notes failed.0,
        (
          length part + failed.1.0,
          omega (arith, failed.1.1, length-append part rest),
          ap (λ xs. part ++ xs) failed.1.2 ∙ sym (take-append-add part rest failed.1.0),
        ),
      )
    ] in
    (part ++ n.0, since_out s n.1, after)

-- a part that failed, and so nothing of the rest
pub notes_failed : (p q : Outside) (part rest : List ℕ) →
    Rose p.note_faults q.note_faults × ((n : ℕ) × (n ≤ length part) × Exchange p q [] [] (take n part) NoRead) → Notes p q (part ++ rest)
notes_failed p q part rest f =
    (take f.1.0 part, f.1.2, inr (f.0, (f.1.0, omega (arith, f.1.1, length-append part rest), sym (take-append-le f.1.0 part rest f.1.1))))

pub notes_all : {T E : Type 0} (p q : Outside) (line : List ℕ) (r : Result T E) → NotesAll r p q line → Notes p q line
notes_all p q line (Ok x) s = (line, s, inl refl)
notes_all p q line (Err e) f = (take f.1.0 line, f.1.2, inr (f.0, (f.1.0, f.1.1, refl)))

-- the same line
pub notes_as : {p q : Outside} {line : List ℕ} (same : List ℕ) → Notes p q line → line ≡ same → Notes p q same
notes_as {p = p} {q = q} same n is = subst (Notes p q) is n

-- a line that was noted last was noted since an earlier start
pub noted_since : (a b c : Outside) (wrote line : List ℕ) → a.note_faults ≤ b.note_faults → IsNoted b c wrote line → IsNoted a c wrote line
noted_since a b c wrote line le (inl same) = inl same
noted_since a b c wrote line le (inr failed) = inr (rose_since le failed.0, failed.1)

-- of an empty line nothing was noted
pub nothing_noted : (old new : Outside) (wrote line : List ℕ) → line ≡ [] → IsNoted old new wrote line → wrote ≡ []
nothing_noted old new wrote line none (inl same) = same ∙ none
nothing_noted old new wrote line none (inr failed) = failed.1.2 ∙ ap (take failed.1.0) none ∙ take-nil failed.1.0

-- the argument at a place
pub word_is : (words : List (String Global)) (place : ℕ) (word : String Global) → place < length words → word ≡ get_or words place word →
    string_bytes word ≡ word_at (texts words) place
word_is [] place word lt is = absurd (omega arith)
word_is (w ∷ words) zero word lt is = ap string_bytes is
word_is (w ∷ words) (suc place) word lt is = word_is words place word (omega arith) is

-- a run of an engine, and then its note
pub ran_on : {R : Type 0} {causes : Outside → Outside → List ℕ → List ℕ → R → Type 0} {asks : Outside → List ℕ → List ℕ → ℕ → ℕ → Type 0} {report_of
    : R → Report} →
    (a b c : Outside) (answer : R) (took gave wrote : List ℕ) (status : ℕ) → Exchange a b took gave [] (asks a took gave) → causes a c took gave answer →
    Exchange b c [] [] wrote NoRead →
    status ≡ (report_of answer).status → IsNoted b c wrote (report_of answer).line → Ran causes asks report_of a c status
ran_on a b c answer took gave wrote status run cause note is noted = record {
  answer = answer;
  took = took;
  gave = gave;
  wrote = wrote;
  since = since_note run note;
  cause = cause;
  status_is = is;
  noted = noted_since a b c wrote _ run.faults.notes noted;
}
