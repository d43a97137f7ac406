-- The table of images, and one packet more.
use Rattle.std.proofs.Common.{◌≡◌, ◌<◌, ℕ, zero, suc, List, [], ◌∷◌, ◌++◌, length, map, refl, sym, ap, subst, ◌∙◌, inl, inr, arith, Bool, true, false}
use Rattle.std.proofs.Common.{slice_index_or, slice_set, Option}
use Rattle.std.proofs.lemmas.Bool.{and_parts, false≢true}
use Rattle.std.proofs.lemmas.List.{map-append, length-map}
use Rattle.std.proofs.lemmas.Bool.Decides.{nat_tests}
use Rattle.packet_defs.specs.Reading.{apid_in}
use Rattle.stream_defs.specs.declared.fate.FateState.{FateState}
use Rattle.stream_defs.specs.Fates.{after_all, kept}
use Rattle.stream_defs.proofs.KeptOrder.{does}
use Rattle.camera_mux.specs.declared.image.ImageId.{ImageId}
use Rattle.camera_mux.specs.declared.image.ImageEntry.{ImageEntry}
use Rattle.camera_mux.specs.Images.{id_in, state_of, kept_of, entry_of, is_wanted, is_kept_after, begins_image, images, entries}
use Rattle.camera_mux.specs.Tables.{no_entry, entry_at}
use Rattle.camera_mux.proofs.OneImage.{is_own, is_kept_by, own_id, kept_own, entry_other, entry_lost}
use Rattle.camera_mux.proofs.ImageLists.{id_at, Misses, AreBegun, begins_next, images_same, images_begun, begins_no_more, begins_so}

-- ---- lists by place

pub map_same : (f g : ImageId → ImageEntry) (ids : List ImageId) → ((j : ℕ) → j < length ids → f (id_at ids j) ≡ g (id_at ids j)) → map f ids ≡ map g ids
map_same f g [] same = refl
map_same f g (id ∷ ids) same =
    ap (λ e. e ∷ map f ids) (same zero (omega arith)) ∙ ap (λ es. g id ∷ es) (map_same f g ids (λ j lt. same (suc j) (omega (arith, lt))))

-- another function at one place alone
map_set : (f g : ImageId → ImageEntry) (ids : List ImageId) (i : ℕ) (y : ImageEntry) → i < length ids → y ≡ g (id_at ids i) →
    ((j : ℕ) → j < length ids → (j ≡ i → ⊥) → f (id_at ids j) ≡ g (id_at ids j)) →
    slice_set (map f ids) i y ≡ map g ids
map_set f g [] i y lt here others = absurd (omega (arith, lt))
map_set f g (id ∷ ids) zero y lt here others =
    ap (λ e. e ∷ map f ids) here ∙ ap (λ es. g id ∷ es) (map_same f g ids (λ j lt. others (suc j) (omega (arith, lt)) (λ e. omega (arith, e))))
map_set f g (id ∷ ids) (suc i) y lt here others =
    ap (λ e. e ∷ slice_set (map f ids) i y) (others zero (omega arith) (λ e. omega (arith, e)))
    ∙ ap (λ es. g id ∷ es) (map_set f g ids i y (omega (arith, lt)) here (λ j lt other. others (suc j) (omega (arith, lt)) (λ e. other (omega (arith, e)))))

map_at : (f : ImageId → ImageEntry) (ids : List ImageId) (i : ℕ) (d : ImageEntry) → i < length ids → slice_index_or (map f ids) i d ≡ f (id_at ids i)
map_at f [] i d lt = absurd (omega (arith, lt))
map_at f (id ∷ ids) zero d lt = refl
map_at f (id ∷ ids) (suc i) d lt = map_at f ids i d (omega (arith, lt))

-- ---- the entries

pub length-entries : (wanted : Option ℕ) (packets : List (List ℕ)) → length (entries wanted packets) ≡ length (images wanted packets)
length-entries wanted packets = length-map (images wanted packets) (entry_of packets)

pub entry_is : (wanted : Option ℕ) (packets : List (List ℕ)) (i : ℕ) → i < length (images wanted packets) → entry_at (entries wanted packets) i
    ≡ entry_of packets (id_at (images wanted packets) i)
entry_is wanted packets i lt = map_at (entry_of packets) (images wanted packets) i no_entry lt

-- no packet of an image that is asked for is kept
abbrev pub Loses : (wanted : Option ℕ) → List (List ℕ) → List ℕ → Type 0
Loses wanted packets packet = (id : ImageId) → is_wanted wanted id.apid ≡ true → is_own id packet ≡ true → is_kept_by id packets packet ≡ false

module _ (wanted : Option ℕ) (packets : List (List ℕ)) (packet : List ℕ) (known : AreBegun wanted packets (images wanted packets)) where
  ids : List ImageId
  ids = images wanted packets

  -- an image of another packet
  others_same : (id : ImageId) → (id_in packet ≡ id → ⊥) → entry_of packets id ≡ entry_of (packets ++ packet ∷ []) id
  others_same id other = grind (arith, nat_tests, is_own, own_id, entry_other)

  none_begins : Loses wanted packets packet → begins_next wanted packets packet ≡ false
  none_begins loses = by (begins_next wanted packets packet) refl
    where
      by : (b : Bool) → begins_next wanted packets packet ≡ b → b ≡ false
      by false e = refl
      by true e =
          let two = and_parts (is_wanted wanted (apid_in packet)) (begins_image packets packet) e in
          let keeps = (and_parts (is_kept_after packets packet) _ two.1).0 in
          absurd (false≢true (sym (loses (id_in packet) two.0 (kept_own (state_of (id_in packet) packets) packet keeps)) ∙ keeps))

  pub entries_same : Loses wanted packets packet → entries wanted (packets ++ packet ∷ []) ≡ entries wanted packets
  entries_same loses = grind (arith, nat_tests, images_same, none_begins, map_same, id_at, is_own, entry_lost, entry_other)

  -- the entry of an image that has begun, after a kept packet
  pub entries_counted : (i : ℕ) → i < length (images wanted packets) → id_at (images wanted packets) i ≡ id_in packet →
      entries wanted (packets ++ packet ∷ []) ≡ slice_set (entries wanted packets) i (entry_of (packets ++ packet ∷ []) (id_in packet))
  entries_counted i lt here =
      let some : 0 < length (kept_of (id_in packet) packets) = subst (λ id. 0 < length (kept_of id packets)) here (known.some_each i lt) in
      ap (map (entry_of (packets ++ packet ∷ []))) (images_same wanted packets packet (begins_no_more wanted packets packet some))
      ∙ sym (map_set (entry_of packets) (entry_of (packets ++ packet ∷ [])) (images wanted packets) i (entry_of (packets ++ packet ∷ []) (id_in packet)) lt
      (ap (entry_of (packets ++ packet ∷ [])) (sym here))
      (λ j ltj other. others_same (id_at (images wanted packets) j) (λ e. other (known.apart j i ltj lt (sym e ∙ sym here)))))

  -- that of one that begins
  pub entries_begun : is_wanted wanted (apid_in packet) ≡ true → is_kept_after packets packet ≡ true → Misses (images wanted packets) (id_in packet) →
      entries wanted (packets ++ packet ∷ []) ≡ entries wanted packets ++ entry_of (packets ++ packet ∷ []) (id_in packet) ∷ []
  entries_begun is keeps misses =
      let none : kept_of (id_in packet) packets ≡ [] = known.others (id_in packet) is misses in
      grind (arith, nat_tests, map, images_begun, begins_so, map-append, map_same, others_same)

-- ---- an image of which no packet is kept

pub none_fresh : (apid : ℕ) (s : FateState) (packets : List (List ℕ)) → kept apid s packets ≡ [] → after_all apid s packets ≡ s
none_fresh apid s [] none = refl
none_fresh apid s (x ∷ xs) none = elim (does apid s x) [
  | inl lost ↦
      let rest : kept apid s xs ≡ [] = ap (λ s. kept apid s xs) (sym lost.same) ∙ sym (lost.kept_are xs) ∙ none in
      ap (λ s. after_all apid s xs) lost.same ∙ none_fresh apid s xs rest
  | inr here ↦ grind (arith, nat_tests)
]
