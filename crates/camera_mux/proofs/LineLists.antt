-- The lines of the first images, and one line more.
use Rattle.std.proofs.Common.{◌≡◌, ◌<◌, ◌+◌, ◌≤◌, ℕ, List, [], ◌∷◌, ◌++◌, length, take, drop, sym, ap, subst, ◌∙◌, arith, length-append, slice_index_or}
use Rattle.std.proofs.lemmas.Grind.{flat_map-append}
use Rattle.std.proofs.lemmas.List.{append-nil, take_more, take-append-le, take-append-drop}
use Rattle.std.proofs.Math.Seq.{take-append-add}
use Rattle.port_122.specs.Outside.{Outside, Exchange, NoRead, Rose}
use Rattle.port_122.proofs.Stretches.{since_out, rose_since}
use Rattle.camera_mux.specs.declared.image.ImageEntry.{ImageEntry}
use Rattle.camera_mux.specs.ImageLines.{line_of, lines_of}

module _ (entries : List ImageEntry) (i : ℕ) (d : ImageEntry) (lt : i < length entries) where
  lines_more : lines_of (take (i + 1) entries) ≡ lines_of (take i entries) ++ line_of (slice_index_or entries i d)
  lines_more =
      ap lines_of (take_more entries i d lt) ∙ flat_map-append line_of (take i entries) (slice_index_or entries i d ∷ [])
      ∙ ap (λ zs. lines_of (take i entries) ++ zs) (append-nil (line_of (slice_index_or entries i d)))

  pub gave_one : {a b c : Outside} (octets : List ℕ) → octets ≡ line_of (slice_index_or entries i d) →
      Exchange a b [] (lines_of (take i entries)) [] NoRead → Exchange b c [] octets [] NoRead →
      Exchange a c [] (lines_of (take (i + 1) entries)) [] NoRead
  gave_one {a = a} {c = c} octets is before gives =
      subst (λ gave. Exchange a c [] gave [] NoRead) (ap (λ zs. lines_of (take i entries) ++ zs) is ∙ sym lines_more) (since_out before gives)

  -- a prefix of the line
  pub gave_part : {a b c : Outside} (octets : List ℕ) → octets ≡ line_of (slice_index_or entries i d) → Exchange a b [] (lines_of (take i entries)) [] NoRead →
      Rose b.write_faults c.write_faults × ((n : ℕ) × (n ≤ length octets) × Exchange b c [] (take n octets) [] NoRead) →
      Rose a.write_faults c.write_faults × ((n : ℕ) × (n ≤ length (lines_of entries)) × Exchange a c [] (take n (lines_of entries)) [] NoRead)
  gave_part {a = a} {c = c} octets is before (rose, (n, le, gives)) =
      let first = lines_of (take i entries) in
      let later = lines_of (drop (i + 1) entries) in
      let all : lines_of entries ≡ (first ++ octets) ++ later =
      ap lines_of (sym (take-append-drop (i + 1) entries)) ∙ flat_map-append line_of (take (i + 1) entries) (drop (i + 1) entries)
      ∙ ap (λ zs. zs ++ later) (lines_more ∙ ap (λ zs. first ++ zs) (sym is)) in
      let size : length (lines_of entries) ≡ length (first ++ octets) + length later = ap length all ∙ length-append (first ++ octets) later in
      let some = length first + n in
      let few : some ≤ length (first ++ octets) = omega (arith, le, length-append first octets) in
      let prefix : take some (lines_of entries) ≡ first ++ take n octets =
      ap (take some) all ∙ take-append-le some (first ++ octets) later few ∙ take-append-add first octets n in (
        rose_since before.faults.writes rose,
        (some, omega (arith, few, size), subst (λ gave. Exchange a c [] gave [] NoRead) (sym prefix) (since_out before gives)),
      )
