-- The note on damaged rows, range by range.
use Rattle.std.proofs.Common.{◌≡◌, ◌≤◌, ◌+◌, ℕ, List, [], ◌∷◌, ◌++◌, length, take, sym, ◌∙◌, ap, subst, arith, length-append, append_assoc, Bool, true}
use Rattle.std.proofs.Common.{Option, None, Some, Result, Ok, Err, IsErr, codes, flat_map}
use Rattle.std.proofs.lemmas.Bool.{false≢true}
use Rattle.std.proofs.lemmas.Grind.{flat_map-append}
use Rattle.std.proofs.lemmas.List.{append-nil, take-append-le}
use Rattle.std.proofs.Math.Seq.{take-append-add}
use Rattle.port_122.specs.Outside.{Outside, Exchange, NoRead, Rose, NotesAll}
use Rattle.port_122.proofs.Stretches.{since_start, since_out, rose_since}
use Rattle.stream_defs.specs.declared.range.RowRange.{RowRange}
use Rattle.stream_defs.specs.Marks.{Marks, next_range}
use Rattle.packet_defs.specs.declared.packet.Framing.{Framing}
use Rattle.damage_rows.proofs.RangeWalk.{Walk, walk_start, valid_next, walk_on, walk_ends}
use Rattle.strip122.specs.Notes.{Notes}
use Rattle.strip122.proofs.NoteLines.{notes_then, notes_failed, notes_as}
use Rattle.strip122.specs.DamageNotes.{damaged, range_text, ranges_text, rest_text, damage_line}

-- the ranges before a row are noted
pub record AreNoted (m : Marks) (old now : Outside) (from : ℕ) : Type 0 where
  pub walk : Walk m from
  pub out : Exchange old now [] [] (flat_map range_text walk.before) NoRead

pub none_noted : (m : Marks) (a : Outside) → AreNoted m a a 0
none_noted m a = record { walk = walk_start m; out = since_start a NoRead }

texts_more : (before : List RowRange) (range : RowRange) → flat_map range_text (before ++ range ∷ []) ≡ flat_map range_text before ++ range_text range
texts_more before range = flat_map-append range_text before (range ∷ []) ∙ ap (λ zs. flat_map range_text before ++ zs) (append-nil (range_text range))

pub noted_more : (m : Marks) (old now new : Outside) (from : ℕ) (range : RowRange) → AreNoted m old now from → Some range ≡ next_range m from →
    Exchange now new [] [] (range_text range) NoRead → AreNoted m old new (range.last + 1)
noted_more m old now new from range noted found out =
    let next = valid_next m from noted.walk range found in
    record {
      walk = walk_on m from noted.walk range next;
      out = subst (λ zs. Exchange old new [] [] zs NoRead) (sym (texts_more noted.walk.before range)) (since_out noted.out out);
    }

-- or a part of the next one
pub noted_part : {T E : Type 0} (r : Result T E) (m : Marks) (old now new : Outside) (from : ℕ) (range : RowRange) → IsErr r → AreNoted m old now from →
    Some range ≡ next_range m from →
    Rose now.note_faults new.note_faults × ((n : ℕ) × (n ≤ length (range_text range)) × Exchange now new [] [] (take n (range_text range)) NoRead) →
    NotesAll r old new (flat_map range_text (damaged m))
noted_part (Ok x) m old now new from range is noted found failed = absurd (false≢true is)
noted_part (Err e) m old now new from range is noted found failed =
    let next = valid_next m from noted.walk range found in
    let first = flat_map range_text noted.walk.before in
    let line = range_text range in
    let later = flat_map range_text next.rest in
    let all : flat_map range_text (damaged m) ≡ first ++ (line ++ later) =
    ap (flat_map range_text) (noted.walk.parts ∙ ap (λ rs. noted.walk.before ++ rs) next.after_is) ∙ flat_map-append range_text noted.walk.before
    (range ∷ next.rest) in
    let n = failed.1.0 in
    let le = failed.1.1 in
    let prefix : take (length first + n) (flat_map range_text (damaged m)) ≡ first ++ take n line =
    ap (take (length first + n)) all ∙ take-append-add first (line ++ later) n ∙ ap (λ zs. first ++ zs) (take-append-le n line later le) in (
      rose_since noted.out.faults.notes failed.0,
      (
        length first + n,
        omega (arith, le, ap length all, length-append first (line ++ later), length-append line later),
        subst (λ zs. Exchange old new [] [] zs NoRead) (sym prefix) (since_out noted.out failed.1.2),
      ),
    )

-- none is left
pub noted_all : (m : Marks) (old now : Outside) (from : ℕ) → AreNoted m old now from → None ≡ next_range m from →
    Exchange old now [] [] (flat_map range_text (damaged m)) NoRead
noted_all m old now from noted found =
    subst (λ rs. Exchange old now [] [] (flat_map range_text rs) NoRead)
    (sym (noted.walk.parts ∙ ap (λ rs. noted.walk.before ++ rs) (walk_ends m from noted.walk found) ∙ append-nil noted.walk.before)) noted.out

-- there is none
pub none_there : (m : Marks) → None ≡ next_range m 0 → damaged m ≡ []
none_there m found = (walk_start m).parts ∙ walk_ends m 0 (walk_start m) found

-- ---- the whole line

-- what a note that failed left of these octets
abbrev pub NotesPart : Outside → Outside → List ℕ → Type 0
NotesPart p q octets = Rose p.note_faults q.note_faults × ((n : ℕ) × (n ≤ length octets) × Exchange p q [] [] (take n octets) NoRead)

in_parts : (rs : List RowRange) (k : Bool) (f : Option Framing) → damage_line rs k f ≡ codes "strip122: damaged rows"
    ++ (ranges_text rs ++ (rest_text k f ++ codes "\n"))
in_parts rs k f =
    append_assoc (codes "strip122: damaged rows" ++ ranges_text rs) (rest_text k f) (codes "\n")
    ∙ append_assoc (codes "strip122: damaged rows") (ranges_text rs) (rest_text k f ++ codes "\n")

pub line_begun : (p q : Outside) (head : List ℕ) (rs : List RowRange) (k : Bool) (f : Option Framing) → head ≡ codes "strip122: damaged rows" →
    NotesPart p q head → Notes p q (damage_line rs k f)
line_begun p q head rs k f is failed =
    notes_as (damage_line rs k f) (notes_failed p q head (ranges_text rs ++ (rest_text k f ++ codes "\n")) failed)
    (ap (λ zs. zs ++ (ranges_text rs ++ (rest_text k f ++ codes "\n"))) is ∙ sym (in_parts rs k f))

pub line_cut : (p q r : Outside) (head : List ℕ) (rs : List RowRange) (k : Bool) (f : Option Framing) → head ≡ codes "strip122: damaged rows" →
    Exchange p q [] [] head NoRead →
    NotesPart q r (ranges_text rs) → Notes p r (damage_line rs k f)
line_cut p q r head rs k f is since failed =
    notes_as (damage_line rs k f) (notes_then p q r head (ranges_text rs ++ (rest_text k f ++ codes "\n")) since
    (notes_failed q r (ranges_text rs) (rest_text k f ++ codes "\n") failed))
    (ap (λ zs. zs ++ (ranges_text rs ++ (rest_text k f ++ codes "\n"))) is ∙ sym (in_parts rs k f))

pub line_whole : (p q r s : Outside) (head : List ℕ) (rs : List RowRange) (k : Bool) (f : Option Framing) → head ≡ codes "strip122: damaged rows" →
    Exchange p q [] [] head NoRead →
    Exchange q r [] [] (ranges_text rs) NoRead → Notes r s (rest_text k f ++ codes "\n") → Notes p s (damage_line rs k f)
line_whole p q r s head rs k f is since ranges ending =
    notes_as (damage_line rs k f) (notes_then p q s head (ranges_text rs ++ (rest_text k f ++ codes "\n")) since
    (notes_then q r s (ranges_text rs) (rest_text k f ++ codes "\n") ranges ending))
    (ap (λ zs. zs ++ (ranges_text rs ++ (rest_text k f ++ codes "\n"))) is ∙ sym (in_parts rs k f))

none_in_parts : (f : Option Framing) → damage_line [] true f ≡ codes "strip122: damaged rows none" ++ (rest_text true f ++ codes "\n")
none_in_parts f = append_assoc (codes "strip122: damaged rows none") (rest_text true f) (codes "\n")

pub none_line_begun : (p q : Outside) (head : List ℕ) (f : Option Framing) → head ≡ codes "strip122: damaged rows none" → NotesPart p q head →
    Notes p q (damage_line [] true f)
none_line_begun p q head f is failed =
    notes_as (damage_line [] true f) (notes_failed p q head (rest_text true f ++ codes "\n") failed)
    (ap (λ zs. zs ++ (rest_text true f ++ codes "\n")) is ∙ sym (none_in_parts f))

pub none_line_whole : (p q r : Outside) (head : List ℕ) (f : Option Framing) → head ≡ codes "strip122: damaged rows none" → Exchange p q [] [] head NoRead →
    Notes q r (rest_text true f ++ codes "\n") → Notes p r (damage_line [] true f)
none_line_whole p q r head f is since ending =
    notes_as (damage_line [] true f) (notes_then p q r head (rest_text true f ++ codes "\n") since ending)
    (ap (λ zs. zs ++ (rest_text true f ++ codes "\n")) is ∙ sym (none_in_parts f))
