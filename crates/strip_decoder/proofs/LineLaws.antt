-- The lines of packets, and one packet more.
use Rattle.std.proofs.Common.{◌≡◌, ◌<◌, ◌+◌, ℕ, zero, suc, List, [], ◌∷◌, ◌++◌, length, refl, sym, ap, ◌∙◌, arith, append_assoc, length-append, append-nil}
use Rattle.std.specs.List.{range_with_len, flat_map}
use Rattle.std.proofs.lemmas.Grind.{flat_map-append}
use Rattle.std.proofs.Math.ListN.{get_or-append}
use Rattle.std.proofs.Math.Seq.{get_or-append_seam}
use Rattle.std.proofs.lemmas.Bool.Decides.{nat_tests}
use Rattle.stream_defs.specs.declared.fate.FateState.{FateState}
use Rattle.stream_defs.specs.Fates.{fresh, fate, fates, after, after_all}
use Rattle.stream_defs.proofs.Outputs.{range_with_len-more}
use Rattle.packet_assembly.specs.Notes.{note_of}
use Rattle.strip_decoder.specs.PacketLines.{line_of, note_at, lines_of}

-- ---- lists by place

pub same_parts : (f g : ℕ → List ℕ) (a n : ℕ) → ((i : ℕ) → i < a + n → f i ≡ g i) → flat_map f (range_with_len a n) ≡ flat_map g (range_with_len a n)
same_parts f g a zero same = refl
same_parts f g a (suc n) same =
    ap (λ xs. xs ++ flat_map f (range_with_len (a + 1) n)) (same a (omega arith))
    ∙ ap (λ xs. g a ++ xs) (same_parts f g (a + 1) n (λ i lt. same i (omega (arith, lt))))

-- ---- fates

fates-more : (apid : ℕ) (s : FateState) (packets : List (List ℕ)) (packet : List ℕ) →
    fates apid s (packets ++ packet ∷ []) ≡ fates apid s packets ++ fate apid (after_all apid s packets) packet ∷ []
unfolding fates
fates-more apid s [] packet = refl
fates-more apid s (x ∷ packets) packet = ap (λ zs. fate apid s x ∷ zs) (fates-more apid (after apid s x) packets packet)

length-fates : (apid : ℕ) (s : FateState) (packets : List (List ℕ)) → length (fates apid s packets) ≡ length packets
unfolding fates
length-fates apid s [] = refl
length-fates apid s (x ∷ packets) = ap suc (length-fates apid (after apid s x) packets)

-- ---- lines

-- no packet has no line
pub lines-none : (apid : ℕ) → lines_of apid [] ≡ []
unfolding lines_of
lines-none apid = refl

module _ (apid : ℕ) (packets : List (List ℕ)) (packet : List ℕ) where
  -- the reports of earlier packets are unchanged
  note_before : (i : ℕ) → i < length packets → note_at apid (packets ++ packet ∷ []) i ≡ note_at apid packets i
  note_before i lt = grind (arith, nat_tests, length-fates, fates-more, get_or-append)

  -- and the last one by its fate after them
  note_last : note_at apid (packets ++ packet ∷ []) (length packets) ≡ note_of (length packets) (fate apid (after_all apid fresh packets) packet) packet
  note_last = grind (arith, nat_tests, fates-more, length-fates, get_or-append_seam)

  -- so its line follows theirs
  pub lines-more : lines_of apid (packets ++ packet ∷ []) ≡ lines_of apid packets
      ++ line_of (note_of (length packets) (fate apid (after_all apid fresh packets) packet) packet)
  unfolding lines_of
  lines-more = grind (arith, nat_tests, length, length-append, range_with_len-more, flat_map-append, same_parts, note_before, append-nil, note_last)

-- the lines of packets are a prefix of those of these and later ones
pub lines-prefix : (apid : ℕ) (packets later : List (List ℕ)) → (rest : List ℕ) × (lines_of apid (packets ++ later) ≡ lines_of apid packets ++ rest)
lines-prefix apid packets [] = ([], ap (lines_of apid) (append-nil packets) ∙ sym (append-nil (lines_of apid packets)))
lines-prefix apid packets (x ∷ later) =
    let line = line_of (note_of (length packets) (fate apid (after_all apid fresh packets) x) x) in
    let next = lines-prefix apid (packets ++ x ∷ []) later in (
      line ++ next.0,
      ap (lines_of apid) (sym (append_assoc packets (x ∷ []) later)) ∙ next.1 ∙ ap (λ zs. zs ++ next.0) (lines-more apid packets x)
          ∙ append_assoc (lines_of apid packets) line next.0,
    )
